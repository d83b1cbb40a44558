-- What a note but of a packet that is got makes of each agent of the terms of the target: where all that is done with an agent is so, as it was and as it is, the note's is.
use Rattle.sbp_world.proofs.Words.Std.{◌≡◌, refl, sym, subst, ◌==◌, not, ℕ, zero, suc, ◌+◌, Bool, true, false, cond, List, [], ◌∷◌, map, Option, Some, None, Result, Ok, Err, is_none, position, slice_set}
use Rattle.sbp_world.proofs.Words.Wire.{Moment, Part, part_of, request, response, Terms, Event, Note}
use Rattle.sbp_world.proofs.Words.Target.{reply_step, PlainDisk, Effect, ManagerStep, Busy, Table, Told}
use Rattle.sbp_world.proofs.Words.Initiator.{Ask, Nothing, Answer, Expired}
use Rattle.sbp_world.proofs.Words.Laws.{access_in_bytes, sender_in, Agent, Decided, Purpose, Reply, Target, agent_at, agent_over, closed, cut_agent, cut_where, decided_by, keep_decided, plain_for, reply_of, untold_by, effect_on, enters_in, for_agent, for_manager, for_nobody, going_on, is_serial, is_write_access, key_by, main_lost, managed_by, manager_step, moved, new_agent, on_unit, over, purpose_of, replied, replied_to, reset_seen, sends_of, sent_as, sent_for, started_by, taken_on, target_by, told_in, wants, wants_it, with_untold, is_own_run, ran_on, event_of}
use Rattle.sbp_world.proofs.Words.World.{agent_in}
use Rattle.command_agent.specs.Steps as steps
use Rattle.mgmt_agent.specs.declared.decision.Effect.TheVariants as effects
use Rattle.mgmt_agent.specs.Machine as manager
use Rattle.orb_layout.specs.declared.ask.FailCause.TheVariants as causes
use Rattle.sbp_journal.specs.Transactions.{no_packet}
use Rattle.sbp_journal.specs.declared.event.Event.TheVariants as events
use Rattle.sbp_journal.specs.declared.note.Note.TheVariants as notes
use Rattle.sbp_journal.specs.declared.operation.FunctionWord.TheVariants as functions

-- any note but of a packet that is got
abbrev pub IsNoGot : Note → Type 0
IsNoGot (notes.Got serial) = ⊥
IsNoGot note = Unit {0}

-- a key leaves the agents
pub keys : (event : Option Event) (unit : ℕ) (t : Target) → (key_by event unit t).agents ≡ t.agents
keys None unit t = refl
keys (Some (events.Begin initiators ready)) unit t = refl
keys (Some (events.Act initiator action)) unit t = refl
keys (Some (events.Reset ids)) unit t = refl
keys (Some (events.See node)) unit t = refl
keys (Some (events.Deliver serial)) unit t = refl
keys (Some (events.Repeat serial)) unit t = refl
keys (Some (events.Lose serial)) unit t = refl
keys (Some (events.Timeout serial)) unit t = refl
keys (Some (events.Step count)) unit t = refl
keys (Some events.Settle) unit t = refl
keys (Some events.Tick) unit t = refl
keys (Some (events.Inject initiator bytes)) unit t = refl
keys (Some (events.Key other key)) unit t = refl

-- what is done with an agent is so
pub record AreGoing (R : (before now : Agent) → Type 0) : Type 0 where
  pub self : (a : Agent) → R a a
  pub onward : (a b c : Agent) → R a b → R b c → R a c
  pub untells : (a : Agent) (b : Bool) → R a (record a { untold = b })
  pub replies : (a : Agent) (reply : Reply) (plain : PlainDisk) (told : Option Told) → R a (moved (reply_step a.machine reply.place plain told reply.which reply.answer) (closed reply.which a))
  pub loses : (a : Agent) → R a (main_lost a)
  pub ends : (a : Agent) → R a (agent_over a)
  pub sends : (a : Agent) (is_write : Bool) (serial : ℕ) → R a (sends_of is_write serial a)
  pub cuts : (a : Agent) → R a (cut_agent a)
  pub aborts : (a : Agent) (orb : ℕ) → R a (record a { machine = steps.abort_step a.machine orb })
  pub enters : (a : Agent) → R a new_agent

module _ (R : (before now : Agent) → Type 0) (going : AreGoing R) where
  -- ---- the agents of all places
  abbrev pub AllGo : (before now : List Agent) → Type 0
  AllGo before now = (p : ℕ) → R (agent_in before p) (agent_in now p)

  pub stay : (agents : List Agent) → AllGo agents agents
  stay agents = λ p. going.self (agent_in agents p)

  pub then_goes : (a b c : List Agent) → AllGo a b → AllGo b c → AllGo a c
  then_goes a b c f g = λ p. going.onward (agent_in a p) (agent_in b p) (agent_in c p) (f p) (g p)

  pub set_goes : (agents : List Agent) (k : ℕ) (x : Agent) → R (agent_in agents k) x → AllGo agents (slice_set agents k x)
  set_goes [] k x h p = going.self (agent_in [] p)
  set_goes (a ∷ agents) zero x h zero = h
  set_goes (a ∷ agents) zero x h (suc p) = going.self (agent_in agents p)
  set_goes (a ∷ agents) (suc k) x h zero = going.self a
  set_goes (a ∷ agents) (suc k) x h (suc p) = set_goes agents k x h p

  map_goes : (f : Agent → Agent) (agents : List Agent) → ((a : Agent) → R a (f a)) → AllGo agents (map f agents)
  map_goes f [] h p = going.self (agent_in [] p)
  map_goes f (a ∷ agents) h zero = h a
  map_goes f (a ∷ agents) h (suc p) = map_goes f agents h p

  where_goes : (test : ℕ → Bool) (place : ℕ) (agents : List Agent) → AllGo agents (cut_where test place agents)
  where_goes test place [] p = going.self (agent_in [] p)
  where_goes test place (a ∷ agents) zero = by (test place)
    where
      by : (b : Bool) → R a (cond b (cut_agent a) a)
      by true = going.cuts a
      by false = going.self a
  where_goes test place (a ∷ agents) (suc p) = where_goes test (place + 1) agents p

  -- ---- the target
  abbrev pub TargetGoes : Target → Target → Type 0
  TargetGoes t x = AllGo t.agents x.agents

  chain : (t x y : Target) → TargetGoes t x → TargetGoes x y → TargetGoes t y
  chain t x y f g = then_goes t.agents x.agents y.agents f g

  takes_on : (told : Option Told) (reply : Option Reply) (t : Target) → TargetGoes t (taken_on told reply t)
  takes_on told None t = stay t.agents
  takes_on told (Some reply) t =
      let a = agent_at t reply.place in
      set_goes t.agents reply.place (moved (reply_of t reply told) (closed reply.which a)) (going.replies a reply (plain_for t reply) told)

  unsaid : (note : Note) (reply : Option Reply) (t : Target) → TargetGoes t (with_untold note reply t)
  unsaid note None t = stay t.agents
  unsaid note (Some reply) t =
      let a = agent_at t reply.place in
      let b : Agent = record a { untold = untold_by note (plain_for t reply) a.untold } in
      set_goes t.agents reply.place b (going.untells a b.untold)

  goes_on_by : (note : Note) (t : Target) → TargetGoes t (going_on note t)
  goes_on_by note t = chain t (with_untold note t.reply t) (going_on note t) (unsaid note t.reply t) (takes_on (told_in t.reply note t) t.reply (with_untold note t.reply t))

  runs_on : (is_own : Bool) (note : Note) (t : Target) → TargetGoes t (ran_on is_own note t)
  runs_on true note t = goes_on_by note t
  runs_on false note t = takes_on None t.reply t

  pub ends_turn : (t : Target) → TargetGoes t (over t)
  ends_turn t = then_goes t.agents (taken_on None t.reply t).agents (over t).agents (takes_on None t.reply t) (map_goes agent_over (taken_on None t.reply t).agents going.ends)

  affects : (effect : Effect) (t : Target) → TargetGoes t (effect_on effect t)
  affects (effects.Left place) t = set_goes t.agents place (cut_agent (agent_at t place)) (going.cuts (agent_at t place))
  affects (effects.Abort place orb) t =
      let a = agent_at t place in
      let b : Agent = record a { machine = steps.abort_step a.machine orb } in
      set_goes t.agents place b (going.aborts a orb)
  affects (effects.AbortSet place) t = set_goes t.agents place (cut_agent (agent_at t place)) (going.cuts (agent_at t place))
  affects (effects.UnitReset unit) t = where_goes (on_unit unit t.table.places) 0 t.agents
  affects effects.TargetReset t = map_goes cut_agent t.agents going.cuts
  affects _ t = stay t.agents

  manages_by : (r : ManagerStep × (manager.Machine × Table)) (answer : Answer) (t : Target) → TargetGoes t (managed_by r answer t)
  manages_by (step, (machine, table)) answer t =
      affects step.effect (record t {
        manager = machine;
        manages = None;
        manager_asks = step.ask;
        decided = keep_decided step.decided (decided_by t.manager.operation answer) t.decided;
      })

  pub replies_to : (purpose : Purpose) (answer : Answer) (t : Target) → TargetGoes t (replied_to purpose answer t)
  replies_to (for_agent place which) answer t = stay t.agents
  replies_to for_manager answer t = manages_by (manager_step t answer) answer t
  replies_to for_nobody answer t = stay t.agents

  pub starts_by : (r : Result Ask Busy × manager.Machine) (t : Target) → TargetGoes t (started_by r t)
  starts_by (Err busy, machine) t = stay t.agents
  starts_by (Ok ask, machine) t = stay t.agents

  sends_for : (place : Option ℕ) (is_write : Bool) (serial : ℕ) (t : Target) → TargetGoes t (sent_for place is_write serial t)
  sends_for (Some place) is_write serial t = set_goes t.agents place (sends_of is_write serial (agent_at t place)) (going.sends (agent_at t place) is_write serial)
  sends_for None is_write serial t = by (wants t.manager_asks is_write)
    where
      by : (b : Bool) → TargetGoes t (cond b (record t { manages = Some serial; manager_asks = Nothing }) (record t { pushes = serial ∷ t.pushes }))
      by true = stay t.agents
      by false = stay t.agents

  sends_as : (part : Part) (is_write : Bool) (serial : ℕ) (t : Target) → TargetGoes t (sent_as part is_write serial t)
  sends_as (request label kind) is_write serial t = sends_for (position (wants_it is_write) t.agents) is_write serial t
  sends_as (response label kind) is_write serial t = stay t.agents
  sends_as no_packet is_write serial t = stay t.agents

  resets_by : (b : Bool) (t : Target) → TargetGoes t (reset_seen b t)
  resets_by true t = map_goes cut_agent t.agents going.cuts
  resets_by false t = stay t.agents

  enters_by : (place : Option ℕ) (decided : Option Decided) (id : ℕ) (t : Target) → TargetGoes t (enters_in place decided id t)
  enters_by None decided id t = stay t.agents
  enters_by (Some place) None id t = stay t.agents
  enters_by (Some place) (Some decided) id t = set_goes t.agents place new_agent (going.enters (agent_at t place))

  -- ---- each note
  -- for or not, behind the end of the turn before
  over_or : (b : Bool) (t x : Target) → TargetGoes (over t) x → TargetGoes (over t) (cond b x (over t))
  over_or true t x g = g
  over_or false t x g = stay (over t).agents

  pub note_goes : (note : Note) (past : List Moment) (wire : Terms) (t : Target) → IsNoGot note → TargetGoes t (target_by note past wire t)
  note_goes (notes.Begin initiators ready) past wire t l = stay t.agents
  note_goes (notes.Got serial) past wire t l = absurd l
  note_goes (notes.Ignored serial cause) past wire t l = ends_turn t
  note_goes (notes.TimedOut serial) past wire t l =
      chain t (over t) (target_by (notes.TimedOut serial) past wire t) (ends_turn t)
      (over_or (is_serial (sender_in (wire.sent serial)) 0) t (replied serial Expired (over t)) (replies_to (purpose_of (over t) serial) Expired (over t)))
  note_goes (notes.Seen node generation) past wire t l =
      chain t (over t) (target_by (notes.Seen node generation) past wire t) (ends_turn t)
      (over_or (node == 0) t (reset_seen (not (generation == wire.generation 0)) (over t)) (resets_by (not (generation == wire.generation 0)) (over t)))
  note_goes notes.Tick past wire t l = ends_turn t
  note_goes (notes.Ran i m k unit cdb bytes check) past wire t l = runs_on (is_own_run t.reply i wire t) (notes.Ran i m k unit cdb bytes check) t
  note_goes (notes.Sent serial generation from to bytes) past wire t l =
      chain t (taken_on None t.reply t) (target_by (notes.Sent serial generation from to bytes) past wire t) (takes_on None t.reply t) (by (from == 0))
    where
      x : Target
      x = taken_on None t.reply t

      by : (b : Bool) → TargetGoes x (cond b (sent_as (part_of bytes) (is_write_access (access_in_bytes bytes)) serial x) x)
      by true = sends_as (part_of bytes) (is_write_access (access_in_bytes bytes)) serial x
      by false = stay x.agents
  note_goes (notes.Dead i m causes.Label) past wire t l =
      then_goes t.agents (taken_on None t.reply t).agents (target_by (notes.Dead i m causes.Label) past wire t).agents (takes_on None t.reply t) (map_goes main_lost (taken_on None t.reply t).agents going.loses)
  note_goes (notes.ManageFailed i cause) past wire t l = stay t.agents
  note_goes (notes.Managed i functions.Login subject status None) past wire t l = stay t.agents
  note_goes (notes.Managed i functions.Login subject status (Some id)) past wire t l = enters_by (position is_none t.table.places) t.decided id t
  note_goes (notes.Held id) past wire t l = stay t.agents
  note_goes (notes.Back id) past wire t l = stay t.agents
  note_goes (notes.Left id) past wire t l = stay t.agents
  note_goes (notes.Expired id) past wire t l = stay t.agents
  note_goes (notes.Cleared unit) past wire t l = stay t.agents
  note_goes (notes.Key unit) past wire t l = subst (AllGo t.agents) (sym (keys (event_of past) unit t)) (stay t.agents)
  note_goes (notes.Unsolicited i) past wire t l = stay t.agents
  note_goes note past wire t l = goes_on_by note t
