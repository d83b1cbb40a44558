-- What an agent of the terms waits for is what it waited for before, or a packet that was sent since.
use Rattle.sbp_world.proofs.Words.Std.{arith, ◌≡◌, ◌∙◌, refl, sym, ap, inl, inr, ◌⊎◌, ◌<◌, ◌≤◌, ◌==◌, ◌||◌, not, ℕ, zero, suc, ◌+◌, Bool, true, false, cond, List, [], ◌∷◌, ◌++◌, map, Option, Some, None, Result, Ok, Err, is_none, position, slice_set, unwrap_or, none-some}
use Rattle.sbp_world.proofs.Words.Wire.{SerialsCount, Access, Register, Start, agent_reset, agent_state, doorbell, management_agent, no_start, orb_pointer, register, rom_start, start_at, start_serves, unsolicited_enable, Moment, asked, said, Part, part_of, request, response, Terms, terms, Cause, Event, Note}
use Rattle.sbp_world.proofs.Words.Target.{AgentStep, PointRefusal, Which, Ahead, Main, Machine, is_ahead, Effect, ManagerStep, Busy, Table, Disk, Told}
use Rattle.sbp_world.proofs.Words.Initiator.{Ask, Nothing, offset_at, pointer_at, Answer, Expired}
use Rattle.sbp_world.proofs.Words.Laws.{access_in_bytes, access_at, answer_in, answered_at, id_for, packet_at, receiver_in, sender_in, Agent, Decided, Purpose, Reply, Target, agent_at, agent_over, closed, cut_agent, cut_where, decided_by, keep_decided, plain_for, reply_of, untold_by, effect_on, enters_in, for_agent, for_manager, for_nobody, going_on, got_by, is_nothing, is_serial, is_write_access, key_by, known_at, main_lost, managed_by, manager_step, moved, new_agent, on_unit, over, pointed_by, points, purpose_of, register_got, replied, replied_to, request_got, reset_seen, rings, sends_of, sent_as, sent_for, start_got, started_by, taken_on, target_at, target_by, told_in, wants, wants_it, with_untold, is_own_run, ran_on, event_of}
use Rattle.sbp_world.proofs.Words.World.{serial_of, agent_in}
use Rattle.command_agent.specs.Steps as steps
use Rattle.mgmt_agent.specs.declared.decision.Effect.TheVariants as effects
use Rattle.mgmt_agent.specs.Machine as manager
use Rattle.orb_layout.specs.declared.ask.FailCause.TheVariants as causes
use Rattle.sbp_journal.specs.Transactions.{no_packet}
use Rattle.sbp_journal.specs.declared.event.Event.TheVariants as events
use Rattle.sbp_journal.specs.declared.note.Note.TheVariants as notes
use Rattle.sbp_journal.specs.declared.operation.FunctionWord.TheVariants as functions
use Rattle.sbp_world.proofs.Hosts.Remaining.{remains}
use Rattle.sbp_world.proofs.Hosts.SentMoments.{serials_from}

-- ---- an agent
abbrev pub Awaits : Agent → ℕ → Type 0
Awaits a s = (a.main ≡ Some s) ⊎ (a.ahead ≡ Some s)

-- behind the n-th packet
abbrev pub Newer : (n : ℕ) → (before now : Agent) → Type 0
Newer n before now = (s : ℕ) → Awaits now s → Awaits before s ⊎ (n < s)

self : (n : ℕ) (a : Agent) → Newer n a a
self n a = λ s h. inl h

then_newer : (n : ℕ) (a b c : Agent) → Newer n a b → Newer n b c → Newer n a c
then_newer n a b c f g = λ s h. by s (g s h)
  where
    by : (s : ℕ) → Awaits b s ⊎ (n < s) → Awaits a s ⊎ (n < s)
    by s (inl h) = f s h
    by s (inr l) = inr l

-- it waits for less
main_only : (n : ℕ) (a now : Agent) → now.main ≡ a.main → now.ahead ≡ None → Newer n a now
main_only n a now e f = λ s h. by s h
  where
    by : (s : ℕ) → Awaits now s → Awaits a s ⊎ (n < s)
    by s (inl h) = inl (inl (sym e ∙ h))
    by s (inr h) = absurd (none-some s (sym f ∙ h))

ahead_only : (n : ℕ) (a now : Agent) → now.main ≡ a.ahead → now.ahead ≡ None → Newer n a now
ahead_only n a now e f = λ s h. by s h
  where
    by : (s : ℕ) → Awaits now s → Awaits a s ⊎ (n < s)
    by s (inl h) = inl (inr (sym e ∙ h))
    by s (inr h) = absurd (none-some s (sym f ∙ h))

both_same : (n : ℕ) (a now : Agent) → now.main ≡ a.main → now.ahead ≡ a.ahead → Newer n a now
both_same n a now e f = λ s h. by s h
  where
    by : (s : ℕ) → Awaits now s → Awaits a s ⊎ (n < s)
    by s (inl h) = inl (inl (sym e ∙ h))
    by s (inr h) = inl (inr (sym f ∙ h))

rests : (n : ℕ) (a now : Agent) → now.main ≡ None → now.ahead ≡ None → Newer n a now
rests n a now e f = λ s h. by s h
  where
    by : (s : ℕ) → Awaits now s → Awaits a s ⊎ (n < s)
    by s (inl h) = absurd (none-some s (sym e ∙ h))
    by s (inr h) = absurd (none-some s (sym f ∙ h))

module _ (n : ℕ) where
  moves : (step : AgentStep × Machine) (a : Agent) → Newer n a (moved step a)
  moves step a = by step.0.promoted (not (is_ahead step.1.ahead)) refl refl
    where
      by : (x y : Bool) → step.0.promoted ≡ x → not (is_ahead step.1.ahead) ≡ y → Newer n a (moved step a)
      by true y e f = ahead_only n a (moved step a) (ap (λ b. cond b a.ahead a.main) e) (ap (λ b. cond (b || not (is_ahead step.1.ahead)) None a.ahead) e)
      by false true e f =
          main_only n a (moved step a) (ap (λ b. cond b a.ahead a.main) e) (ap (λ b. cond (b || not (is_ahead step.1.ahead)) None a.ahead) e ∙ ap (λ b. cond b None a.ahead) f)
      by false false e f =
          both_same n a (moved step a) (ap (λ b. cond b a.ahead a.main) e) (ap (λ b. cond (b || not (is_ahead step.1.ahead)) None a.ahead) e ∙ ap (λ b. cond b None a.ahead) f)

  closes : (which : Which) (a : Agent) → Newer n a (closed which a)
  closes Main a = λ s h. by s h
    where
      by : (s : ℕ) → Awaits (closed Main a) s → Awaits a s ⊎ (n < s)
      by s (inl h) = absurd (none-some s h)
      by s (inr h) = inl (inr h)
  closes Ahead a = main_only n a (closed Ahead a) refl refl

  loses : (a : Agent) → Newer n a (main_lost a)
  loses a = by (is_nothing a.asks)
    where
      by : (b : Bool) → Newer n a (cond b a (moved (steps.lost_step a.machine Main causes.Label) a))
      by true = self n a
      by false = moves (steps.lost_step a.machine Main causes.Label) a

  ends : (a : Agent) → Newer n a (agent_over a)
  ends a = then_newer n a (main_lost a) (agent_over a) (loses a) (both_same n (main_lost a) (agent_over a) (main_same (is_nothing (main_lost a).asks_ahead)) (ahead_same (is_nothing (main_lost a).asks_ahead)))
    where
      x : Agent
      x = main_lost a

      main_same : (b : Bool) → (cond b x (record x { machine = (steps.lost_step x.machine Ahead causes.Label).1; asks_ahead = Nothing })).main ≡ x.main
      main_same true = refl
      main_same false = refl

      ahead_same : (b : Bool) → (cond b x (record x { machine = (steps.lost_step x.machine Ahead causes.Label).1; asks_ahead = Nothing })).ahead ≡ x.ahead
      ahead_same true = refl
      ahead_same false = refl

  pointed : (r : Result Ask PointRefusal × Machine) (pointer : ℕ) (a : Agent) → Newer n a (pointed_by r pointer a)
  pointed (Err refusal, machine) pointer a = self n a
  pointed (Ok ask, machine) pointer a = moves (steps.asks ask, machine) a

  sends : (is_write : Bool) (serial : ℕ) (a : Agent) → n < serial → Newer n a (sends_of is_write serial a)
  sends is_write serial a l = by (wants a.asks is_write) (wants a.asks_ahead is_write)
    where
      new : (s : ℕ) → Some serial ≡ Some s → n < s
      new s e = (let same : serial ≡ s = cc in omega arith)

      main_by : (s : ℕ) → Awaits (record a { main = Some serial; asks = Nothing }) s → Awaits a s ⊎ (n < s)
      main_by s (inl h) = inr (new s h)
      main_by s (inr h) = inl (inr h)

      ahead_by : (s : ℕ) → Awaits (record a { ahead = Some serial; asks_ahead = Nothing }) s → Awaits a s ⊎ (n < s)
      ahead_by s (inl h) = inl (inl h)
      ahead_by s (inr h) = inr (new s h)

      by : (x y : Bool) → Newer n a (cond x (record a { main = Some serial; asks = Nothing }) (cond y (record a { ahead = Some serial; asks_ahead = Nothing }) a))
      by true y = main_by
      by false true = ahead_by
      by false false = self n a

  -- ---- the agents of all places
  abbrev pub Goes : (before now : List Agent) → Type 0
  Goes before now = (p : ℕ) → Newer n (agent_in before p) (agent_in now p)

  stay : (agents : List Agent) → Goes agents agents
  stay agents = λ p. self n (agent_in agents p)

  pub then_goes : (a b c : List Agent) → Goes a b → Goes b c → Goes a c
  then_goes a b c f g = λ p. then_newer n (agent_in a p) (agent_in b p) (agent_in c p) (f p) (g p)

  set_goes : (agents : List Agent) (k : ℕ) (x : Agent) → Newer n (agent_in agents k) x → Goes agents (slice_set agents k x)
  set_goes [] k x h p = self n (agent_in [] p)
  set_goes (a ∷ agents) zero x h zero = h
  set_goes (a ∷ agents) zero x h (suc p) = self n (agent_in agents p)
  set_goes (a ∷ agents) (suc k) x h zero = self n a
  set_goes (a ∷ agents) (suc k) x h (suc p) = set_goes agents k x h p

  map_goes : (f : Agent → Agent) (agents : List Agent) → ((a : Agent) → Newer n a (f a)) → Goes agents (map f agents)
  map_goes f [] h p = self n (agent_in [] p)
  map_goes f (a ∷ agents) h zero = h a
  map_goes f (a ∷ agents) h (suc p) = map_goes f agents h p

  cuts : (a : Agent) → Newer n a (cut_agent a)
  cuts a = rests n a (cut_agent a) refl refl

  where_goes : (test : ℕ → Bool) (place : ℕ) (agents : List Agent) → Goes agents (cut_where test place agents)
  where_goes test place [] p = self n (agent_in [] p)
  where_goes test place (a ∷ agents) zero = by (test place)
    where
      by : (b : Bool) → Newer n a (cond b (cut_agent a) a)
      by true = cuts a
      by false = self n a
  where_goes test place (a ∷ agents) (suc p) = where_goes test (place + 1) agents p

  -- ---- the target
  abbrev G : Target → Target → Type 0
  G t x = Goes t.agents x.agents

  chain : (t x y : Target) → G t x → G x y → G t y
  chain t x y f g = then_goes t.agents x.agents y.agents f g

  takes_on : (told : Option Told) (reply : Option Reply) (t : Target) → G t (taken_on told reply t)
  takes_on told None t = stay t.agents
  takes_on told (Some reply) t =
      let a = agent_at t reply.place in
      let b = closed reply.which a in
      let step = reply_of t reply told in
      set_goes t.agents reply.place (moved step b) (then_newer n a b (moved step b) (closes reply.which a) (moves step b))

  unsaid : (note : Note) (reply : Option Reply) (t : Target) → G t (with_untold note reply t)
  unsaid note None t = stay t.agents
  unsaid note (Some reply) t =
      let a = agent_at t reply.place in
      let b : Agent = record a { untold = untold_by note (plain_for t reply) a.untold } in
      set_goes t.agents reply.place b (both_same n a b refl refl)

  goes_on_by : (note : Note) (t : Target) → G t (going_on note t)
  goes_on_by note t = chain t (with_untold note t.reply t) (going_on note t) (unsaid note t.reply t) (takes_on (told_in t.reply note t) t.reply (with_untold note t.reply t))

  runs_on : (is_own : Bool) (note : Note) (t : Target) → G t (ran_on is_own note t)
  runs_on true note t = goes_on_by note t
  runs_on false note t = takes_on None t.reply t

  ends_turn : (t : Target) → G t (over t)
  ends_turn t = then_goes t.agents (taken_on None t.reply t).agents (over t).agents (takes_on None t.reply t) (map_goes agent_over (taken_on None t.reply t).agents ends)

  affects : (effect : Effect) (t : Target) → G t (effect_on effect t)
  affects (effects.Left place) t = set_goes t.agents place (cut_agent (agent_at t place)) (cuts (agent_at t place))
  affects (effects.Abort place orb) t =
      let a = agent_at t place in
      let b : Agent = record a { machine = steps.abort_step a.machine orb } in
      set_goes t.agents place b (both_same n a b refl refl)
  affects (effects.AbortSet place) t = set_goes t.agents place (cut_agent (agent_at t place)) (cuts (agent_at t place))
  affects (effects.UnitReset unit) t = where_goes (on_unit unit t.table.places) 0 t.agents
  affects effects.TargetReset t = map_goes cut_agent t.agents cuts
  affects _ t = stay t.agents

  manages_by : (r : ManagerStep × (manager.Machine × Table)) (answer : Answer) (t : Target) → G t (managed_by r answer t)
  manages_by (step, (machine, table)) answer t =
      affects step.effect (record t {
        manager = machine;
        manages = None;
        manager_asks = step.ask;
        decided = keep_decided step.decided (decided_by t.manager.operation answer) t.decided;
      })

  replies_to : (purpose : Purpose) (answer : Answer) (t : Target) → G t (replied_to purpose answer t)
  replies_to (for_agent place which) answer t = stay t.agents
  replies_to for_manager answer t = manages_by (manager_step t answer) answer t
  replies_to for_nobody answer t = stay t.agents

  starts_by : (r : Result Ask Busy × manager.Machine) (t : Target) → G t (started_by r t)
  starts_by (Err busy, machine) t = stay t.agents
  starts_by (Ok ask, machine) t = stay t.agents

  registers : (name : Register) (place : ℕ) (access : Access) (t : Target) → G t (register_got name place access t)
  registers agent_reset place access t = set_goes t.agents place (cut_agent (agent_at t place)) (cuts (agent_at t place))
  registers orb_pointer place access t = by access.is_write
    where
      by : (b : Bool) → G t (cond b (record t { agents = slice_set t.agents place (points access (agent_at t place)) }) t)
      by true = set_goes t.agents place (points access (agent_at t place)) (pointed (steps.point_step (agent_at t place).machine (pointer_at access.payload 0)) (offset_at access.payload 0) (agent_at t place))
      by false = stay t.agents
  registers doorbell place access t = set_goes t.agents place (rings (agent_at t place)) (both_same n (agent_at t place) (rings (agent_at t place)) refl refl)
  registers unsolicited_enable place access t = stay t.agents
  registers agent_state place access t = stay t.agents

  starts_got : (start : Start) (source : ℕ) (access : Access) (t : Target) → G t (start_got start source access t)
  starts_got (register place name) source access t = registers name place access t
  starts_got management_agent source access t = starts_by (manager.start_step t.manager source (offset_at access.payload 0)) t
  starts_got rom_start source access t = stay t.agents
  starts_got no_start source access t = stay t.agents

  requests_got : (access : Option Access) (source : ℕ) (t : Target) → G t (request_got access source t)
  requests_got None source t = stay t.agents
  requests_got (Some access) source t = by (start_serves (start_at access.offset) access)
    where
      by : (b : Bool) → G t (cond b (start_got (start_at access.offset) source access t) t)
      by true = starts_got (start_at access.offset) source access t
      by false = stay t.agents

  gets_by : (own : Option ℕ) (wire : Terms) (serial : ℕ) (t : Target) → G t (got_by own wire serial t)
  gets_by (Some own) wire serial t = replies_to (purpose_of t own) (answer_in (packet_at wire serial)) t
  gets_by None wire serial t = requests_got (access_at wire serial) (id_for wire 0 (unwrap_or (sender_in (wire.sent serial)) 0)) t

  sends_for : (place : Option ℕ) (is_write : Bool) (serial : ℕ) (t : Target) → n < serial → G t (sent_for place is_write serial t)
  sends_for (Some place) is_write serial t l = set_goes t.agents place (sends_of is_write serial (agent_at t place)) (sends is_write serial (agent_at t place) l)
  sends_for None is_write serial t l = by (wants t.manager_asks is_write)
    where
      by : (b : Bool) → G t (cond b (record t { manages = Some serial; manager_asks = Nothing }) (record t { pushes = serial ∷ t.pushes }))
      by true = stay t.agents
      by false = stay t.agents

  sends_as : (part : Part) (is_write : Bool) (serial : ℕ) (t : Target) → n < serial → G t (sent_as part is_write serial t)
  sends_as (request label kind) is_write serial t l = sends_for (position (wants_it is_write) t.agents) is_write serial t l
  sends_as (response label kind) is_write serial t l = stay t.agents
  sends_as no_packet is_write serial t l = stay t.agents

  resets_by : (b : Bool) (t : Target) → G t (reset_seen b t)
  resets_by true t = map_goes cut_agent t.agents cuts
  resets_by false t = stay t.agents

  enters_by : (place : Option ℕ) (decided : Option Decided) (id : ℕ) (t : Target) → G t (enters_in place decided id t)
  enters_by None decided id t = stay t.agents
  enters_by (Some place) None id t = stay t.agents
  enters_by (Some place) (Some decided) id t = set_goes t.agents place new_agent (rests n (agent_at t place) new_agent refl refl)

  keys : (event : Option Event) (unit : ℕ) (t : Target) → G t (key_by event unit t)
  keys None unit t = stay t.agents
  keys (Some (events.Begin initiators ready)) unit t = stay t.agents
  keys (Some (events.Act initiator action)) unit t = stay t.agents
  keys (Some (events.Reset ids)) unit t = stay t.agents
  keys (Some (events.See node)) unit t = stay t.agents
  keys (Some (events.Deliver serial)) unit t = stay t.agents
  keys (Some (events.Repeat serial)) unit t = stay t.agents
  keys (Some (events.Lose serial)) unit t = stay t.agents
  keys (Some (events.Timeout serial)) unit t = stay t.agents
  keys (Some (events.Step count)) unit t = stay t.agents
  keys (Some events.Settle) unit t = stay t.agents
  keys (Some events.Tick) unit t = stay t.agents
  keys (Some (events.Inject initiator bytes)) unit t = stay t.agents
  keys (Some (events.Key other key)) unit t = stay t.agents

  -- ---- each note
  -- a packet that is sent is a later one
  abbrev pub IsLater : Note → Type 0
  IsLater (notes.Sent serial generation from to bytes) = n < serial
  IsLater note = Unit {0}

  -- for or not, behind the end of the turn before
  over_or : (b : Bool) (t x : Target) → G (over t) x → G (over t) (cond b x (over t))
  over_or true t x g = g
  over_or false t x g = stay (over t).agents

  pub got_goes : (serial : ℕ) (past : List Moment) (wire : Terms) (t : Target) → G (over t) (target_by (notes.Got serial) past wire t)
  got_goes serial past wire t = over_or (is_serial (receiver_in (wire.sent serial)) 0) t (got_by (answered_at wire serial) wire serial (over t)) (gets_by (answered_at wire serial) wire serial (over t))

  note_goes : (note : Note) (past : List Moment) (wire : Terms) (t : Target) → IsLater note → G t (target_by note past wire t)
  note_goes (notes.Begin initiators ready) past wire t l = stay t.agents
  note_goes (notes.Got serial) past wire t l = chain t (over t) (target_by (notes.Got serial) past wire t) (ends_turn t) (got_goes serial past wire t)
  note_goes (notes.Ignored serial cause) past wire t l = ends_turn t
  note_goes (notes.TimedOut serial) past wire t l =
      chain t (over t) (target_by (notes.TimedOut serial) past wire t) (ends_turn t)
      (over_or (is_serial (sender_in (wire.sent serial)) 0) t (replied serial Expired (over t)) (replies_to (purpose_of (over t) serial) Expired (over t)))
  note_goes (notes.Seen node generation) past wire t l =
      chain t (over t) (target_by (notes.Seen node generation) past wire t) (ends_turn t)
      (over_or (node == 0) t (reset_seen (not (generation == wire.generation 0)) (over t)) (resets_by (not (generation == wire.generation 0)) (over t)))
  note_goes notes.Tick past wire t l = ends_turn t
  note_goes (notes.Ran i m k unit cdb bytes check) past wire t l = runs_on (is_own_run t.reply i wire t) (notes.Ran i m k unit cdb bytes check) t
  note_goes (notes.Sent serial generation from to bytes) past wire t l =
      chain t (taken_on None t.reply t) (target_by (notes.Sent serial generation from to bytes) past wire t) (takes_on None t.reply t) (by (from == 0))
    where
      x : Target
      x = taken_on None t.reply t

      by : (b : Bool) → G x (cond b (sent_as (part_of bytes) (is_write_access (access_in_bytes bytes)) serial x) x)
      by true = sends_as (part_of bytes) (is_write_access (access_in_bytes bytes)) serial x l
      by false = stay x.agents
  note_goes (notes.Dead i m causes.Label) past wire t l =
      then_goes t.agents (taken_on None t.reply t).agents (target_by (notes.Dead i m causes.Label) past wire t).agents (takes_on None t.reply t) (map_goes main_lost (taken_on None t.reply t).agents loses)
  note_goes (notes.ManageFailed i cause) past wire t l = stay t.agents
  note_goes (notes.Managed i functions.Login subject status None) past wire t l = stay t.agents
  note_goes (notes.Managed i functions.Login subject status (Some id)) past wire t l = enters_by (position is_none t.table.places) t.decided id t
  note_goes (notes.Held id) past wire t l = stay t.agents
  note_goes (notes.Back id) past wire t l = stay t.agents
  note_goes (notes.Left id) past wire t l = stay t.agents
  note_goes (notes.Expired id) past wire t l = stay t.agents
  note_goes (notes.Cleared unit) past wire t l = stay t.agents
  note_goes (notes.Key unit) past wire t l = keys (event_of past) unit t
  note_goes (notes.Unsolicited i) past wire t l = stay t.agents
  note_goes note past wire t l = goes_on_by note t

-- ---- a history
-- a moment that ends the turn before
pub data Starts : Moment → Type 0 where
  line_starts : (line : ℕ) (event : Event) → Starts (asked line event)
  got_starts : (serial : ℕ) → Starts (said (notes.Got serial))
  ignored_starts : (serial : ℕ) (cause : Cause) → Starts (said (notes.Ignored serial cause))

module _ (start : List Disk) where
  abbrev at : List Moment → Target
  at past = target_at start past

  first_goes : (m : Moment) (past : List Moment) → Starts m → Goes (terms past).count (over (at past)).agents (at (m ∷ past)).agents
  first_goes _ past (line_starts line event) = stay (terms past).count (over (at past)).agents
  first_goes _ past (got_starts serial) = got_goes (terms past).count serial past (known_at start past).wire (at past)
  first_goes _ past (ignored_starts serial cause) = stay (terms past).count (over (at past)).agents

  later_by : (n : ℕ) (m : Moment) (past : List Moment) → SerialsCount (m ∷ past) → n ≤ (terms past).count → Goes n (at past).agents (at (m ∷ past)).agents
  later_by n (asked line event) past c l = ends_turn n (at past)
  later_by n (said (notes.Sent serial generation from to bytes)) past c l =
      note_goes n (notes.Sent serial generation from to bytes) past (known_at start past).wire (at past) (let e = c.0 in omega arith)
  later_by n (said note) past c l = note_goes n note past (known_at start past).wire (at past) tt

  since : (later : List Moment) (m : Moment) (past : List Moment) → Starts m → SerialsCount (later ++ m ∷ past) → Goes (terms past).count (over (at past)).agents (at (later ++ m ∷ past)).agents
  since [] m past s c = first_goes m past s
  since (x ∷ later) m past s c =
      let n = (terms past).count in
      let whole = later ++ m ∷ past in
      let rest : SerialsCount whole = serials_from (x ∷ []) whole c in
      let first : (terms past).count ≤ (terms (m ∷ past)).count = (remains (m ∷ []) past (serials_from later (m ∷ past) rest)).count in
      let more : (terms (m ∷ past)).count ≤ (terms whole).count = (remains later (m ∷ past) rest).count in
      then_goes n (over (at past)).agents (at whole).agents (at (x ∷ whole)).agents (since later m past s rest) (later_by n x whole c (omega arith))

  -- behind the turn: what an agent waits for it waited for before, or it was sent since
  pub since_over : (later : List Moment) (m : Moment) (past : List Moment) → Starts m → SerialsCount (later ++ m ∷ past) → Goes (terms past).count (over (at past)).agents (over (at (later ++ m ∷ past))).agents
  since_over later m past s c =
      let n = (terms past).count in
      then_goes n (over (at past)).agents (at (later ++ m ∷ past)).agents (over (at (later ++ m ∷ past))).agents (since later m past s c) (ends_turn n (at (later ++ m ∷ past)))

-- one of its transactions
pub waits_as : (which : Which) (a : Agent) (s : ℕ) → serial_of which a ≡ Some s → Awaits a s
waits_as Main a s e = inl e
waits_as Ahead a s e = inr e
