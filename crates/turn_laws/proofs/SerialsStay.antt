-- The serials that the agents of the terms and the management operation wait for come from the packets that are sent for them alone: each other note leaves them or takes some away, and
-- leaves the serials of unsolicited statuses as they are. A packet that is one of these is nobody else's.
use Rattle.std.proofs.Common.{◌≡◌, ◌∙◌, refl, ap, inl, inr, ◌⊎◌, ◌==◌, ◌||◌, not, ℕ, zero, suc, ◌+◌, Bool, true, false, cond, List, [], ◌∷◌, map, Option, Some, None, Result, Ok, Err}
use Rattle.std.specs.Prelude.{is_none, position, slice_set, unwrap_or}
use Rattle.command_agent.specs.declared.phase.Phase.{Phase}
use Rattle.command_agent.specs.declared.phase.Phase.TheVariants as phases
use Rattle.command_agent.specs.declared.step.AgentStep.{AgentStep}
use Rattle.command_agent.specs.declared.step.PointRefusal.{PointRefusal}
use Rattle.command_agent.specs.declared.step.Which.{Which}
use Rattle.command_agent.specs.declared.step.Which.TheVariants.{Ahead, Main}
use Rattle.command_agent.specs.Machine.{Machine, is_ahead}
use Rattle.command_agent.specs.Steps as steps
use Rattle.mgmt_agent.specs.declared.decision.Effect.{Effect}
use Rattle.mgmt_agent.specs.declared.decision.Effect.TheVariants as effects
use Rattle.mgmt_agent.specs.declared.decision.ManagerStep.{ManagerStep}
use Rattle.mgmt_agent.specs.declared.operation.Busy.{Busy}
use Rattle.mgmt_agent.specs.Machine as manager
use Rattle.login_table.specs.Table.{Table}
use Rattle.orb_layout.specs.declared.ask.Ask.{Ask}
use Rattle.orb_layout.specs.declared.ask.Ask.TheVariants.{Nothing}
use Rattle.orb_layout.specs.declared.ask.FailCause.{FailCause}
use Rattle.orb_layout.specs.declared.ask.FailCause.TheVariants as causes
use Rattle.orb_layout.specs.Pointers.{offset_at, pointer_at}
use Rattle.orb_layout.specs.Replies.{Answer, Done, Expired, NoLabel, Payload, Refused}
use Rattle.rbc_disk.specs.Runs.{Told}
use Rattle.rbc_disk.specs.Units.{PlainDisk}
use Rattle.sbp_journal.specs.Addresses.{Access, Register, Start, agent_reset, agent_state, doorbell, management_agent, no_start, orb_pointer, register, rom_start, start_at, start_serves, unsolicited_enable}
use Rattle.sbp_journal.specs.Run.{Moment}
use Rattle.sbp_journal.specs.Transactions.{Part, no_packet, part_of, request, response}
use Rattle.sbp_journal.specs.Wire.{Terms}
use Rattle.sbp_journal.specs.declared.event.Event.{Event}
use Rattle.sbp_journal.specs.declared.event.Event.TheVariants as events
use Rattle.sbp_journal.specs.declared.note.Note.{Note}
use Rattle.sbp_journal.specs.declared.note.Note.TheVariants as notes
use Rattle.sbp_journal.specs.declared.operation.FunctionWord.TheVariants as functions
use Rattle.sbp_laws.specs.Packets.{access_in_bytes, access_at, answer_in, answered_at, id_for, packet_at, receiver_in, sender_in}
use Rattle.sbp_laws.specs.Targets.{Agent, Decided, Purpose, Reply, Target, agent_at, agent_over, ahead_lost, closed, cut_agent, cut_where, decided_by, keep_decided, plain_for, reply_of, untold_by, effect_on, enters_in, for_agent, for_manager, for_nobody, going_on, got_by, is_nothing, is_serial, is_write_access, key_by, main_lost, managed_by, manager_step, moved, new_agent, on_unit, over, pointed_by, points, purpose_of, register_got, replied, replied_to, request_got, reset_seen, rings, sends_of, sent_as, sent_for, start_got, started_by, taken_on, target_by, told_in, wants, wants_it, with_untold, is_own_run, ran_on}
use Rattle.sbp_laws.specs.Turns.{event_of}
use Rattle.sbp_world.specs.Agents.Crews.{agent_in}
use Rattle.sbp_world.proofs.Agents.Mild.{IsGiven, reply_mild}

-- no packet is sent
abbrev pub IsNoSent : Note → Type 0
IsNoSent (notes.Sent serial generation from to bytes) = ⊥
IsNoSent note = Unit {0}

-- ---- a read ahead is a read
abbrev pub Reads : Ask → Type 0
Reads ask = wants ask true ≡ false

given_reads : (m : Machine) (place : ℕ) (plain : PlainDisk) (told : Option Told) (answer : Answer) → IsGiven answer ⊎ (answer ≡ NoLabel) → (which : Which) → Reads (steps.reply_step m place plain told which answer).0.ahead
unfolding steps.reply_step
given_reads m place plain told answer (inl g) which = (reply_mild m place plain told which answer g).reads
given_reads m place plain told answer (inr e) which = ap (λ a. wants (steps.reply_step m place plain told which a).0.ahead true) e ∙ by which
  where
    main : (phase : Phase) → Reads (steps.served place plain (steps.told_or told) (steps.advanced phase m NoLabel).0 (steps.advanced phase m NoLabel).1).0.ahead
    main phases.Reset = refl
    main phases.Fetching = refl
    main phases.ReadingTable = refl
    main (phases.ReadingData wanted) = refl
    main phases.Answering = refl
    main phases.WritingStatus = refl
    main phases.ReadingNext = refl
    main phases.WritingLastStatus = refl
    main phases.Suspended = refl
    main phases.Dead = refl

    ahead : (b : Bool) → Reads (cond b (steps.ahead_step m NoLabel) (steps.quiet, m)).0.ahead
    ahead true = refl
    ahead false = refl

    by : (w : Which) → Reads (steps.reply_step m place plain told w NoLabel).0.ahead
    by Main = main m.phase
    by Ahead = ahead (is_ahead m.ahead)

is_given : (answer : Answer) → IsGiven answer ⊎ (answer ≡ NoLabel)
is_given NoLabel = inr refl
is_given (Payload bytes) = inl tt
is_given Done = inl tt
is_given (Refused rcode) = inl tt
is_given Expired = inl tt

reply_reads : (m : Machine) (place : ℕ) (plain : PlainDisk) (told : Option Told) (which : Which) (answer : Answer) → Reads (steps.reply_step m place plain told which answer).0.ahead
reply_reads m place plain told which answer = given_reads m place plain told answer (is_given answer) which

lost_reads : (m : Machine) (cause : FailCause) → Reads (steps.lost_step m Main cause).0.ahead
unfolding steps.lost_step
lost_reads m cause = by m.phase
  where
    by : (phase : Phase) → Reads (steps.main_lost phase m cause).0.ahead
    by phases.Reset = refl
    by phases.Fetching = refl
    by phases.ReadingTable = refl
    by (phases.ReadingData wanted) = refl
    by phases.Answering = refl
    by phases.WritingStatus = refl
    by phases.ReadingNext = refl
    by phases.WritingLastStatus = refl
    by phases.Suspended = refl
    by phases.Dead = refl

-- what is true of no serial, and of some
module _ (Q : Option ℕ → Type 0) (none : Q None) where
  abbrev pub Kept : Agent → Type 0
  Kept a = Q a.main × Q a.ahead × Reads a.asks_ahead

  abbrev pub All : List Agent → Type 0
  All agents = (p : ℕ) → Kept (agent_in agents p)

  pub record Goes (t now : Target) : Type 0 where
    pub pushes : now.pushes ≡ t.pushes
    pub agents : All t.agents → All now.agents
    pub manages : Q t.manages → Q now.manages

  self : (t : Target) → Goes t t
  self t = record { pushes = refl; agents = λ h. h; manages = λ h. h }

  then_goes : (a b c : Target) → Goes a b → Goes b c → Goes a c
  then_goes a b c f g = record { pushes = g.pushes ∙ f.pushes; agents = λ h. g.agents (f.agents h); manages = λ h. g.manages (f.manages h) }

  -- ---- an agent
  pick : (b : Bool) (x y : Option ℕ) → Q x → Q y → Q (cond b x y)
  pick true x y h k = h
  pick false x y h k = k

  moves : (r : AgentStep × Machine) (a : Agent) → Reads r.0.ahead → Kept a → Kept (moved r a)
  moves (step, machine) a e h = (pick step.promoted a.ahead a.main h.1 h.0, pick (step.promoted || not (is_ahead machine.ahead)) None a.ahead none h.1, e)

  closes : (which : Which) (a : Agent) → Kept a → Kept (closed which a)
  closes Main a h = (none, h.1, h.2)
  closes Ahead a h = (h.0, none, h.2)

  loses : (a : Agent) → Kept a → Kept (main_lost a)
  loses a h = by (is_nothing a.asks)
    where
      by : (b : Bool) → Kept (cond b a (moved (steps.lost_step a.machine Main causes.Label) a))
      by true = h
      by false = moves (steps.lost_step a.machine Main causes.Label) a (lost_reads a.machine causes.Label) h

  loses_ahead : (a : Agent) → Kept a → Kept (ahead_lost a)
  loses_ahead a h = by (is_nothing a.asks_ahead)
    where
      by : (b : Bool) → Kept (cond b a (record a { machine = (steps.lost_step a.machine Ahead causes.Label).1; asks_ahead = Nothing }))
      by true = h
      by false = (h.0, h.1, refl)

  ends : (a : Agent) → Kept a → Kept (agent_over a)
  ends a h = let k = loses_ahead (main_lost a) (loses a h) in (k.0, k.1, k.2)

  points_by : (r : Result Ask PointRefusal × Machine) (pointer : ℕ) (a : Agent) → Kept a → Kept (pointed_by r pointer a)
  points_by (Err refusal, machine) pointer a h = h
  points_by (Ok ask, machine) pointer a h = let k = moves (steps.asks ask, machine) a refl h in (k.0, k.1, k.2)

  -- ---- the agents of all places
  set_all : (agents : List Agent) (k : ℕ) (x : Agent) → Kept x → All agents → All (slice_set agents k x)
  set_all [] k x h all p = all p
  set_all (a ∷ agents) zero x h all zero = h
  set_all (a ∷ agents) zero x h all (suc p) = all (suc p)
  set_all (a ∷ agents) (suc k) x h all zero = all zero
  set_all (a ∷ agents) (suc k) x h all (suc p) = set_all agents k x h (λ q. all (suc q)) p

  map_all : (f : Agent → Agent) (agents : List Agent) → ((a : Agent) → Kept a → Kept (f a)) → All agents → All (map f agents)
  map_all f [] h all p = all p
  map_all f (a ∷ agents) h all zero = h a (all zero)
  map_all f (a ∷ agents) h all (suc p) = map_all f agents h (λ q. all (suc q)) p

  where_all : (test : ℕ → Bool) (place : ℕ) (agents : List Agent) → All agents → All (cut_where test place agents)
  where_all test place [] all p = all p
  where_all test place (a ∷ agents) all zero = by (test place)
    where
      by : (b : Bool) → Kept (cond b (cut_agent a) a)
      by true = (none, none, refl)
      by false = all zero
  where_all test place (a ∷ agents) all (suc p) = where_all test (place + 1) agents (λ q. all (suc q)) p

  -- ---- the target
  pub takes_on : (told : Option Told) (reply : Option Reply) (t : Target) → Goes t (taken_on told reply t)
  takes_on told None t = self t
  takes_on told (Some reply) t =
      let a = agent_at t reply.place in
      record {
        pushes = refl;
        agents = λ h. set_all t.agents reply.place (moved (reply_of t reply told) (closed reply.which a)) (moves (reply_of t reply told) (closed reply.which a) (reply_reads (agent_at t reply.place).machine reply.place (plain_for t reply) told reply.which reply.answer) (closes reply.which a (h reply.place))) h;
        manages = λ h. h;
      }

  unsaid : (note : Note) (reply : Option Reply) (t : Target) → Goes t (with_untold note reply t)
  unsaid note None t = self t
  unsaid note (Some reply) t =
      let a = agent_at t reply.place in
      let b : Agent = record a { untold = untold_by note (plain_for t reply) a.untold } in
      record { pushes = refl; agents = λ h. set_all t.agents reply.place b (h reply.place) h; manages = λ h. h }

  goes_on_by : (note : Note) (t : Target) → Goes t (going_on note t)
  goes_on_by note t =
      then_goes t (with_untold note t.reply t) (going_on note t) (unsaid note t.reply t) (takes_on (told_in t.reply note t) t.reply (with_untold note t.reply t))

  runs_on : (is_own : Bool) (note : Note) (t : Target) → Goes t (ran_on is_own note t)
  runs_on true note t = goes_on_by note t
  runs_on false note t = takes_on None t.reply t

  pub ends_turn : (t : Target) → Goes t (over t)
  ends_turn t =
      let x = taken_on None t.reply t in
      let k = takes_on None t.reply t in
      record { pushes = k.pushes; agents = λ h. map_all agent_over x.agents ends (k.agents h); manages = k.manages }

  sets : (t : Target) (place : ℕ) (x : Agent) → (Kept (agent_at t place) → Kept x) → Goes t (record t { agents = slice_set t.agents place x })
  sets t place x f = record { pushes = refl; agents = λ h. set_all t.agents place x (f (h place)) h; manages = λ h. h }

  affects : (effect : Effect) (t : Target) → Goes t (effect_on effect t)
  affects (effects.Left place) t = sets t place (cut_agent (agent_at t place)) (λ h. (none, none, refl))
  affects (effects.Abort place orb) t = let a = agent_at t place in sets t place (record a { machine = steps.abort_step a.machine orb }) (λ h. h)
  affects (effects.AbortSet place) t = sets t place (cut_agent (agent_at t place)) (λ h. (none, none, refl))
  affects (effects.UnitReset unit) t = record { pushes = refl; agents = λ h. where_all (on_unit unit t.table.places) 0 t.agents h; manages = λ h. h }
  affects effects.TargetReset t = record { pushes = refl; agents = λ h. map_all cut_agent t.agents (λ a k. (none, none, refl)) h; manages = λ h. h }
  affects _ t = self t

  manages_by : (r : ManagerStep × (manager.Machine × Table)) (answer : Answer) (t : Target) → Goes t (managed_by r answer t)
  manages_by (step, (machine, table)) answer t =
      let x : Target = record t {
        manager = machine;
        manages = None;
        manager_asks = step.ask;
        decided = keep_decided step.decided (decided_by t.manager.operation answer) t.decided;
      } in
      let k = affects step.effect x in
      record { pushes = k.pushes; agents = k.agents; manages = λ h. k.manages none }

  replies_to : (purpose : Purpose) (answer : Answer) (t : Target) → Goes t (replied_to purpose answer t)
  replies_to (for_agent place which) answer t = record { pushes = refl; agents = λ h. h; manages = λ h. h }
  replies_to for_manager answer t = manages_by (manager_step t answer) answer t
  replies_to for_nobody answer t = self t

  starts_by : (r : Result Ask Busy × manager.Machine) (t : Target) → Goes t (started_by r t)
  starts_by (Err busy, machine) t = self t
  starts_by (Ok ask, machine) t = record { pushes = refl; agents = λ h. h; manages = λ h. h }

  registers : (name : Register) (place : ℕ) (access : Access) (t : Target) → Goes t (register_got name place access t)
  registers agent_reset place access t = sets t place (cut_agent (agent_at t place)) (λ h. (none, none, refl))
  registers orb_pointer place access t = by access.is_write
    where
      a : Agent
      a = agent_at t place

      by : (b : Bool) → Goes t (cond b (record t { agents = slice_set t.agents place (points access a) }) t)
      by true = sets t place (points access a) (points_by (steps.point_step a.machine (pointer_at access.payload 0)) (offset_at access.payload 0) a)
      by false = self t
  registers doorbell place access t = sets t place (rings (agent_at t place)) (λ h. h)
  registers unsolicited_enable place access t = record { pushes = refl; agents = λ h. h; manages = λ h. h }
  registers agent_state place access t = self t

  starts_got : (start : Start) (source : ℕ) (access : Access) (t : Target) → Goes t (start_got start source access t)
  starts_got (register place name) source access t = registers name place access t
  starts_got management_agent source access t = starts_by (manager.start_step t.manager source (offset_at access.payload 0)) t
  starts_got rom_start source access t = self t
  starts_got no_start source access t = self t

  requests_got : (access : Option Access) (source : ℕ) (t : Target) → Goes t (request_got access source t)
  requests_got None source t = self t
  requests_got (Some access) source t = by (start_serves (start_at access.offset) access)
    where
      by : (b : Bool) → Goes t (cond b (start_got (start_at access.offset) source access t) t)
      by true = starts_got (start_at access.offset) source access t
      by false = self t

  gets_by : (own : Option ℕ) (wire : Terms) (serial : ℕ) (t : Target) → Goes t (got_by own wire serial t)
  gets_by (Some own) wire serial t = replies_to (purpose_of t own) (answer_in (packet_at wire serial)) t
  gets_by None wire serial t = requests_got (access_at wire serial) (id_for wire 0 (unwrap_or (sender_in (wire.sent serial)) 0)) t

  resets_by : (b : Bool) (t : Target) → Goes t (reset_seen b t)
  resets_by true t = record { pushes = refl; agents = λ h. map_all cut_agent t.agents (λ a k. (none, none, refl)) h; manages = λ h. none }
  resets_by false t = self t

  enters_by : (place : Option ℕ) (decided : Option Decided) (id : ℕ) (t : Target) → Goes t (enters_in place decided id t)
  enters_by None decided id t = self t
  enters_by (Some place) None id t = self t
  enters_by (Some place) (Some decided) id t = record { pushes = refl; agents = λ h. set_all t.agents place new_agent (none, none, refl) h; manages = λ h. h }

  keys : (event : Option Event) (unit : ℕ) (t : Target) → Goes t (key_by event unit t)
  keys None unit t = self t
  keys (Some (events.Begin initiators ready)) unit t = self t
  keys (Some (events.Act initiator action)) unit t = self t
  keys (Some (events.Reset ids)) unit t = self t
  keys (Some (events.See node)) unit t = self t
  keys (Some (events.Deliver serial)) unit t = self t
  keys (Some (events.Repeat serial)) unit t = self t
  keys (Some (events.Lose serial)) unit t = self t
  keys (Some (events.Timeout serial)) unit t = self t
  keys (Some (events.Step count)) unit t = self t
  keys (Some events.Settle) unit t = self t
  keys (Some events.Tick) unit t = self t
  keys (Some (events.Inject initiator bytes)) unit t = self t
  keys (Some (events.Key other key)) unit t = record { pushes = refl; agents = λ h. h; manages = λ h. h }

  -- ---- each note but that of a packet that is sent
  over_or : (b : Bool) (t x : Target) → Goes (over t) x → Goes (over t) (cond b x (over t))
  over_or true t x g = g
  over_or false t x g = self (over t)

  behind : (t x : Target) → Goes (over t) x → Goes t x
  behind t x g = then_goes t (over t) x (ends_turn t) g

  pub note_goes : (note : Note) (past : List Moment) (wire : Terms) (t : Target) → IsNoSent note → Goes t (target_by note past wire t)
  note_goes (notes.Begin initiators ready) past wire t i = record { pushes = refl; agents = λ h. h; manages = λ h. h }
  note_goes (notes.Got serial) past wire t i =
      behind t (target_by (notes.Got serial) past wire t)
      (over_or (is_serial (receiver_in (wire.sent serial)) 0) t (got_by (answered_at wire serial) wire serial (over t)) (gets_by (answered_at wire serial) wire serial (over t)))
  note_goes (notes.Ignored serial cause) past wire t i = ends_turn t
  note_goes (notes.TimedOut serial) past wire t i =
      behind t (target_by (notes.TimedOut serial) past wire t)
      (over_or (is_serial (sender_in (wire.sent serial)) 0) t (replied serial Expired (over t)) (replies_to (purpose_of (over t) serial) Expired (over t)))
  note_goes (notes.Seen node generation) past wire t i =
      behind t (target_by (notes.Seen node generation) past wire t)
      (over_or (node == 0) t (reset_seen (not (generation == wire.generation 0)) (over t)) (resets_by (not (generation == wire.generation 0)) (over t)))
  note_goes notes.Tick past wire t i = let k = ends_turn t in record { pushes = k.pushes; agents = k.agents; manages = k.manages }
  note_goes (notes.Ran j m k unit cdb bytes check) past wire t i =
      let g = runs_on (is_own_run t.reply j wire t) (notes.Ran j m k unit cdb bytes check) t in record { pushes = g.pushes; agents = g.agents; manages = g.manages }
  note_goes (notes.Sent serial generation from to bytes) past wire t i = absurd i
  note_goes (notes.Dead j m causes.Label) past wire t i =
      let x = taken_on None t.reply t in
      let k = takes_on None t.reply t in
      record { pushes = k.pushes; agents = λ h. map_all main_lost x.agents loses (k.agents h); manages = k.manages }
  note_goes (notes.ManageFailed j cause) past wire t i = record { pushes = refl; agents = λ h. h; manages = λ h. none }
  note_goes (notes.Managed j functions.Login subject status None) past wire t i = self t
  note_goes (notes.Managed j functions.Login subject status (Some id)) past wire t i = enters_by (position is_none t.table.places) t.decided id t
  note_goes (notes.Held id) past wire t i = record { pushes = refl; agents = λ h. h; manages = λ h. h }
  note_goes (notes.Back id) past wire t i = record { pushes = refl; agents = λ h. h; manages = λ h. h }
  note_goes (notes.Left id) past wire t i = record { pushes = refl; agents = λ h. h; manages = λ h. h }
  note_goes (notes.Expired id) past wire t i = record { pushes = refl; agents = λ h. h; manages = λ h. h }
  note_goes (notes.Cleared unit) past wire t i = record { pushes = refl; agents = λ h. h; manages = λ h. h }
  note_goes (notes.Key unit) past wire t i = keys (event_of past) unit t
  note_goes (notes.Unsolicited j) past wire t i = record { pushes = refl; agents = λ h. h; manages = λ h. h }
  note_goes note past wire t i = goes_on_by note t

  -- ---- a packet that is sent: for an agent, for the operation, or an unsolicited status
  pub record Sends (serial : ℕ) (t now : Target) : Type 0 where
    pub agents : Q (Some serial) → All t.agents → All now.agents
    pub manages : Q (Some serial) → Q t.manages → Q now.manages
    pub pushed : (now.pushes ≡ t.pushes) ⊎ ((now.pushes ≡ serial ∷ t.pushes) × ((All t.agents → All now.agents) × (Q t.manages → Q now.manages)))

  sends : (is_write : Bool) (serial : ℕ) (a : Agent) → Q (Some serial) → Kept a → Kept (sends_of is_write serial a)
  sends is_write serial a q h = by (wants a.asks is_write) (wants a.asks_ahead is_write)
    where
      by : (x y : Bool) → Kept (cond x (record a { main = Some serial; asks = Nothing }) (cond y (record a { ahead = Some serial; asks_ahead = Nothing }) a))
      by true y = (q, h.1, h.2)
      by false true = (h.0, q, refl)
      by false false = h

  sends_for : (place : Option ℕ) (is_write : Bool) (serial : ℕ) (t : Target) → Sends serial t (sent_for place is_write serial t)
  sends_for (Some place) is_write serial t = record {
    agents = λ q h. set_all t.agents place (sends_of is_write serial (agent_at t place)) (sends is_write serial (agent_at t place) q (h place)) h;
    manages = λ q h. h;
    pushed = inl refl;
  }
  sends_for None is_write serial t = by (wants t.manager_asks is_write)
    where
      by : (b : Bool) → Sends serial t (cond b (record t { manages = Some serial; manager_asks = Nothing }) (record t { pushes = serial ∷ t.pushes }))
      by true = record { agents = λ q h. h; manages = λ q h. q; pushed = inl refl }
      by false = record { agents = λ q h. h; manages = λ q h. h; pushed = inr (refl, (λ h. h, λ h. h)) }

  no_sends : (serial : ℕ) (t : Target) → Sends serial t t
  no_sends serial t = record { agents = λ q h. h; manages = λ q h. h; pushed = inl refl }

  sends_as : (part : Part) (is_write : Bool) (serial : ℕ) (t : Target) → Sends serial t (sent_as part is_write serial t)
  sends_as (request label kind) is_write serial t = sends_for (position (wants_it is_write) t.agents) is_write serial t
  sends_as (response label kind) is_write serial t = no_sends serial t
  sends_as no_packet is_write serial t = no_sends serial t

  behind_sends : (serial : ℕ) (t x now : Target) → Goes t x → Sends serial x now → Sends serial t now
  behind_sends serial t x now g s = record {
    agents = λ q h. s.agents q (g.agents h);
    manages = λ q h. s.manages q (g.manages h);
    pushed = by s.pushed;
  }
    where
      by : (now.pushes ≡ x.pushes) ⊎ ((now.pushes ≡ serial ∷ x.pushes) × ((All x.agents → All now.agents) × (Q x.manages → Q now.manages))) → (now.pushes ≡ t.pushes) ⊎ ((now.pushes ≡ serial ∷ t.pushes) × ((All t.agents → All now.agents) × (Q t.manages → Q now.manages)))
      by (inl e) = inl (e ∙ g.pushes)
      by (inr f) = inr (f.0 ∙ ap (λ xs. serial ∷ xs) g.pushes, (λ h. f.1.0 (g.agents h), λ h. f.1.1 (g.manages h)))

  pub note_sends : (serial generation from to : ℕ) (bytes : List ℕ) (past : List Moment) (wire : Terms) (t : Target) → Sends serial t (target_by (notes.Sent serial generation from to bytes) past wire t)
  note_sends serial generation from to bytes past wire t = behind_sends serial t x (target_by (notes.Sent serial generation from to bytes) past wire t) (takes_on None t.reply t) (by (from == 0))
    where
      x : Target
      x = taken_on None t.reply t

      by : (b : Bool) → Sends serial x (cond b (sent_as (part_of bytes) (is_write_access (access_in_bytes bytes)) serial x) x)
      by true = sends_as (part_of bytes) (is_write_access (access_in_bytes bytes)) serial x
      by false = no_sends serial x
