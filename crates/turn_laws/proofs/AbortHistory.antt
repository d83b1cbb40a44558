-- By the terms of a history an agent that waits for more of its ORB has it marked where an abort of it stands before, moment by moment.
use Rattle.std.proofs.Common.{◌≡◌, ◌∙◌, ◌⊎◌, inl, inr, refl, sym, ap, subst, ℕ, ◌==◌, ◌&&◌, ◌||◌, Bool, true, false, cond, List, ◌∷◌, Option, Some, None, Result, Ok, Err}
use Rattle.std.specs.Prelude.{is_none, position, slice_set, unwrap_or}
use Rattle.command_agent.specs.declared.step.PointRefusal.{PointRefusal}
use Rattle.command_agent.specs.declared.step.Which.{Which}
use Rattle.command_agent.specs.declared.step.Which.TheVariants.{Ahead, Main}
use Rattle.command_agent.specs.Machine.{Machine, awaits_run, new_machine}
use Rattle.command_agent.specs.Steps.{lost_step, point_step, reply_step}
use Rattle.mgmt_agent.specs.declared.decision.Effect.TheVariants as effects
use Rattle.mgmt_agent.specs.declared.operation.Busy.{Busy}
use Rattle.mgmt_agent.specs.Machine as manager
use Rattle.orb_layout.specs.declared.ask.Ask.{Ask}
use Rattle.orb_layout.specs.declared.ask.Ask.TheVariants.{Nothing}
use Rattle.orb_layout.specs.declared.ask.FailCause.TheVariants as causes
use Rattle.orb_layout.specs.Pointers.{offset_at, pointer_at}
use Rattle.orb_layout.specs.Replies.{Answer, Expired}
use Rattle.rbc_disk.specs.Disk.{Disk}
use Rattle.rbc_disk.specs.Runs.{Told}
use Rattle.rbc_disk.specs.Units.{PlainDisk}
use Rattle.sbp_journal.specs.Addresses.{Access, Register, Start, agent_reset, agent_state, doorbell, management_agent, no_start, orb_pointer, register, rom_start, start_at, start_serves, unsolicited_enable}
use Rattle.sbp_journal.specs.Run.{Moment, asked, said}
use Rattle.sbp_journal.specs.Wire.{Terms}
use Rattle.sbp_journal.specs.declared.event.Event.{Event}
use Rattle.sbp_journal.specs.declared.note.Note.{Note}
use Rattle.sbp_journal.specs.declared.note.Note.TheVariants as notes
use Rattle.sbp_journal.specs.declared.operation.FunctionWord.TheVariants as functions
use Rattle.sbp_laws.specs.Aborts.{aborts, is_aborted, is_unrun}
use Rattle.sbp_laws.specs.Turns.{event_of}
use Rattle.sbp_laws.proofs.Going.{going_rests, going_still, run_rests, taken_rests}
use Rattle.sbp_journal.specs.Transactions.{part_of}
use Rattle.sbp_laws.specs.Packets.{access_in_bytes, access_at, answer_in, id_for, packet_at, sender_in}
use Rattle.sbp_laws.specs.Targets.{going_on, Agent, Decided, Purpose, Target, agent_at, agent_over, entered_by, enters_in, for_agent, for_manager, for_nobody, got_by, is_nothing, is_own_run, is_write_access, known_at, main_lost, manager_step, moved, new_agent, over, pointed_by, points, purpose_of, register_got, replied, replied_to, request_got, rings, sends_of, start_got, started_by, taken_on, target_at, target_by, wants, with_agent}
use Rattle.sbp_world.proofs.Lists.AgentFolds.{AreKept, AreLasting, AreSo, AreStill, Every, at_place, cut_still, is_for, over_still, set_or, set_still, stand_still}
use Rattle.sbp_world.proofs.Common.{and_first, and_second, equal, untrue}
use Rattle.turn_laws.proofs.AbortMarks.{Falls, Goes, Keeps, away, bell_keeps, lost_falls, point_keeps, reply_goes, reset_keeps, same, self, then_falls}
use Rattle.turn_laws.proofs.Handed.{IsInner}
use Rattle.turn_laws.proofs.PresentOrbs.{dead_rests, sent_rests}
use Rattle.sbp_world.proofs.Lists.AgentNotes.{IfApart, managed_kept, note_kept, pick}
use Rattle.sbp_world.proofs.Lists.AgentGoes.{keys}

-- ---- of an agent
then_keeps : (m a b : Machine) → Keeps m a → Falls a b → Keeps m b
then_keeps m a b g (same e f h) = λ x. ap (λ p. (awaits_run m.phase && (m.present == p)) && m.aborted) f ∙ (g (ap awaits_run (sym e) ∙ x) ∙ sym h)
then_keeps m a b g (away e f) = λ x. untrue (sym e ∙ x)

pub new_same : (q : ℕ) (plain : PlainDisk) (told : Option Told) (which : Which) (answer : Answer) → (reply_step new_machine q plain told which answer).1 ≡ new_machine
unfolding reply_step
new_same q plain told Main answer = refl
new_same q plain told Ahead answer = refl

module _ (R : Machine → Machine → Type 0) (then_so : (m a b : Machine) → R m a → Falls a b → R m b) (first : ℕ → Agent) where
  abbrev From : ℕ → Agent → Type 0
  From q a = R (first q).machine a.machine

  sends : (q : ℕ) (a : Agent) (is_write : Bool) (serial : ℕ) → Every serial → From q a → From q (sends_of is_write serial a)
  sends q a is_write serial may h = by (wants a.asks is_write) (wants a.asks_ahead is_write)
    where
      by : (x y : Bool) → From q (cond x (record a { main = Some serial; asks = Nothing }) (cond y (record a { ahead = Some serial; asks_ahead = Nothing }) a))
      by true y = h
      by false true = h
      by false false = h

  loses : (q : ℕ) (a : Agent) → From q a → From q (main_lost a)
  loses q a h = by (is_nothing a.asks)
    where
      by : (b : Bool) → From q (cond b a (moved (lost_step a.machine Main causes.Label) a))
      by true = h
      by false = then_so (first q).machine a.machine (lost_step a.machine Main causes.Label).1 h (lost_falls a.machine Main causes.Label)

  ends : (q : ℕ) (a : Agent) → From q a → From q (agent_over a)
  ends q a h = by (is_nothing (main_lost a).asks_ahead)
    where
      k : From q (main_lost a)
      k = loses q a h

      by : (b : Bool) → From q (cond b (main_lost a) (record (main_lost a) { machine = (lost_step (main_lost a).machine Ahead causes.Label).1; asks_ahead = Nothing }))
      by true = k
      by false = then_so (first q).machine (main_lost a).machine (lost_step (main_lost a).machine Ahead causes.Label).1 k (lost_falls (main_lost a).machine Ahead causes.Label)

  lasts : AreLasting From Every
  lasts = record {
    untells = λ q a b h. h;
    sends = sends;
    loses = loses;
    ends = ends;
    stays = λ q which answer plain told b h. subst (λ m. R (first q).machine m) (new_same q plain told which answer) h;
  }

abbrev pub Went : (ℕ → Agent) → ℕ → Agent → Type 0
Went first q a = Goes (first q).machine a.machine

abbrev pub Kept : (ℕ → Agent) → ℕ → Agent → Type 0
Kept first q a = Keeps (first q).machine a.machine

went_lasts : (first : ℕ → Agent) → AreLasting (Went first) Every
went_lasts first = lasts Goes then_falls first

pub are_kept : (first : ℕ → Agent) → AreKept (Kept first) Every
are_kept first = record { lasting = lasts Keeps then_keeps first; cuts = λ q a h. reset_keeps (first q).machine a.machine }

-- ---- at a moment, from the agents before it
module _ (t : Target) where
  abbrev pub A : ℕ → Agent
  A q = agent_at t q

  abbrev T : Target
  T = over t

  begins_with : AreSo (Went A) t
  begins_with = record {
    agents = λ q e. self (agent_at t q).machine;
    pending = λ reply e plain told b. reply_goes (agent_at t reply.place).machine reply.place plain told reply.which reply.answer;
  }

  pub goes_over : AreStill (Went A) T
  goes_over = over_still (Went A) (went_lasts A) t begins_with

  begins_kept : AreSo (Kept A) t
  begins_kept = record {
    agents = λ q e. (self (agent_at t q).machine).keeps;
    pending = λ reply e plain told b. (reply_goes (agent_at t reply.place).machine reply.place plain told reply.which reply.answer).keeps;
  }

  pub keeps_over : AreStill (Kept A) T
  keeps_over = record { agents = λ q. (goes_over.agents q).keeps; none = goes_over.none }

  -- what the target gets
  pointed_keeps : (q : ℕ) (a : Agent) (r : Result Ask PointRefusal × Machine) (pointer : ℕ) → Kept A q a → Keeps (A q).machine r.1 → Kept A q (pointed_by r pointer a)
  pointed_keeps q a (Err refusal, m) pointer h k = h
  pointed_keeps q a (Ok ask, m) pointer h k = k

  register_keeps : (name : Register) (place : ℕ) (access : Access) → AreStill (Kept A) (register_got name place access T)
  register_keeps agent_reset place access = cut_still (Kept A) (are_kept A).cuts T place keeps_over
  register_keeps orb_pointer place access =
      let a = agent_at T place in
      let pointer = pointer_at access.payload 0 in
      pick (Kept A) (are_kept A) access.is_write (with_agent T place (points access a)) T
      (set_still (Kept A) T place (points access a) keeps_over (λ x. pointed_keeps place a (point_step a.machine pointer) (offset_at access.payload 0) x (point_keeps (A place).machine a.machine (goes_over.agents place) pointer))) keeps_over
  register_keeps doorbell place access =
      let a = agent_at T place in set_still (Kept A) T place (rings a) keeps_over (λ x. bell_keeps (A place).machine a.machine (goes_over.agents place))
  register_keeps unsolicited_enable place access = stand_still (Kept A) _ T refl refl keeps_over
  register_keeps agent_state place access = keeps_over

  started_keeps : (r : Result Ask Busy × manager.Machine) → AreStill (Kept A) (started_by r T)
  started_keeps (Err busy, machine) = keeps_over
  started_keeps (Ok ask, machine) = stand_still (Kept A) _ T refl refl keeps_over

  start_keeps : (start : Start) (source : ℕ) (access : Access) → AreStill (Kept A) (start_got start source access T)
  start_keeps (register place name) source access = register_keeps name place access
  start_keeps management_agent source access = started_keeps (manager.start_step T.manager source (offset_at access.payload 0))
  start_keeps rom_start source access = keeps_over
  start_keeps no_start source access = keeps_over

  pub request_keeps : (access : Option Access) (source : ℕ) → AreStill (Kept A) (request_got access source T)
  request_keeps None source = keeps_over
  request_keeps (Some access) source =
      pick (Kept A) (are_kept A) (start_serves (start_at access.offset) access) (start_got (start_at access.offset) source access T) T (start_keeps (start_at access.offset) source access) keeps_over

  abbrev pub All : Target → Type 0
  All now = (q : ℕ) → Kept A q (agent_at now q)

  -- where its answer to the management aborts nothing
  abbrev pub NoAbort : Answer → Type 0
  NoAbort answer = (place orb : ℕ) → (manager_step T answer).0.effect ≡ effects.Abort place orb → ⊥

  pub replied_keeps : (purpose : Purpose) (answer : Answer) → (purpose ≡ for_manager → NoAbort answer) → All (replied_to purpose answer T)
  replied_keeps (for_agent place which) answer n = keeps_over.agents
  replied_keeps for_manager answer n = (managed_kept (Kept A) (are_kept A) (manager_step T answer) answer T (λ place orb e a k. absurd (n refl place orb e)) keeps_over).agents
  replied_keeps for_nobody answer n = keeps_over.agents

-- ---- the marks
unrun_by : (d x ab : Bool) → (x ≡ true → d ≡ ab) → (d && x) ≡ (x && ab)
unrun_by true true ab h = h refl
unrun_by false true ab h = h refl
unrun_by true false ab h = refl
unrun_by false false ab h = refl

swap : (x y z : Bool) → ((x && y) && z) ≡ ((y && x) && z)
swap true true z = refl
swap true false z = refl
swap false true z = refl
swap false false z = refl

abbrev pub Marked : Bool → Agent → ℕ → Type 0
Marked d a address = d ≡ (is_unrun a address && a.machine.aborted)

pub mark_is : (d : Bool) (a b : Agent) (address : ℕ) → Marked d a address → Keeps a.machine b.machine → is_unrun b address ≡ true → d ≡ b.machine.aborted
mark_is d a b address h k e =
    let at : b.machine.present ≡ address = equal b.machine.present address (and_first (b.machine.present == address) (awaits_run b.machine.phase) e) in
    let w = and_second (b.machine.present == address) (awaits_run b.machine.phase) e in
    h
    ∙ (ap (λ n. ((a.machine.present == n) && awaits_run a.machine.phase) && a.machine.aborted) (sym at)
    ∙ (swap (a.machine.present == b.machine.present) (awaits_run a.machine.phase) a.machine.aborted ∙ k w))

pub mark_step : (d : Bool) (a b : Agent) (address : ℕ) → Marked d a address → Keeps a.machine b.machine → Marked (d && is_unrun b address) b address
mark_step d a b address h k = unrun_by d (is_unrun b address) b.machine.aborted (mark_is d a b address h k)

module _ (start : List Disk) where
  abbrev pub AreMarked : List Moment → Type 0
  AreMarked past = (q address : ℕ) → Marked (is_aborted start past q address) (agent_at (target_at start past) q) address

  pub steps : (past : List Moment) (now : Target) → AreMarked past → All (target_at start past) now → (q address : ℕ)
      → Marked (is_aborted start past q address && is_unrun (agent_at now q) address) (agent_at now q) address
  steps past now h k q address = mark_step (is_aborted start past q address) (agent_at (target_at start past) q) (agent_at now q) address (h q address) (k q)

  pub asked_marked : (line : ℕ) (event : Event) (past : List Moment) → AreMarked past → AreMarked (asked line event ∷ past)
  asked_marked line event past h = steps past (over (target_at start past)) h (keeps_over (target_at start past)).agents

  -- what it gets, but for an abort
  abbrev pub T_at : List Moment → Target
  T_at past = over (target_at start past)

  pub got_keeps : (past : List Moment) (wire : Terms) (serial : ℕ) (b : Bool) (own : Option ℕ)
      → ((o : ℕ) → b ≡ true → own ≡ Some o → purpose_of (T_at past) o ≡ for_manager → NoAbort (target_at start past) (answer_in (packet_at wire serial)))
      → All (target_at start past) (cond b (got_by own wire serial (T_at past)) (T_at past))
  got_keeps past wire serial true (Some own) n = replied_keeps (target_at start past) (purpose_of (T_at past) own) (answer_in (packet_at wire serial)) (λ e. n own refl refl e)
  got_keeps past wire serial true None n = (request_keeps (target_at start past) (access_at wire serial) (id_for wire 0 (unwrap_or (sender_in (wire.sent serial)) 0))).agents
  got_keeps past wire serial false own n = (keeps_over (target_at start past)).agents

  pub late_keeps : (past : List Moment) (serial : ℕ) (b : Bool) → (b ≡ true → purpose_of (T_at past) serial ≡ for_manager → NoAbort (target_at start past) Expired)
      → All (target_at start past) (cond b (replied serial Expired (T_at past)) (T_at past))
  late_keeps past serial true n = replied_keeps (target_at start past) (purpose_of (T_at past) serial) Expired (λ e. n refl e)
  late_keeps past serial false n = (keeps_over (target_at start past)).agents

-- ---- behind the first moment of a turn
abbrev NoLogin : Note → Type 0
NoLogin (notes.Managed i functions.Login subject status login) = ⊥
NoLogin note = IsInner note

rests_or_stands : (note : Note) (past : List Moment) (wire : Terms) (t : Target) → NoLogin note → ((target_by note past wire t).reply ≡ None) ⊎ ((target_by note past wire t).agents ≡ t.agents)
rests_or_stands (notes.Begin initiators ready) past wire t c = inr refl
rests_or_stands (notes.Got serial) past wire t c = absurd c
rests_or_stands (notes.Ignored serial cause) past wire t c = absurd c
rests_or_stands (notes.TimedOut serial) past wire t c = absurd c
rests_or_stands (notes.Seen node generation) past wire t c = absurd c
rests_or_stands notes.Tick past wire t c = absurd c
rests_or_stands (notes.Ran i n k unit cdb bytes check) past wire t c = inl (run_rests (is_own_run t.reply i wire t) (notes.Ran i n k unit cdb bytes check) t)
rests_or_stands (notes.Sent serial generation from to bytes) past wire t c =
    inl (sent_rests (from == 0) (part_of bytes) (is_write_access (access_in_bytes bytes)) serial (taken_on None t.reply t) (taken_rests None t.reply t refl))
rests_or_stands (notes.Dead i list cause) past wire t c = inl (dead_rests i list cause past wire t)
rests_or_stands (notes.ManageFailed i cause) past wire t c = inr refl
rests_or_stands (notes.Managed i functions.Login subject status login) past wire t c = absurd c
rests_or_stands (notes.Held id) past wire t c = inr refl
rests_or_stands (notes.Expired id) past wire t c = inr refl
rests_or_stands (notes.Back id) past wire t c = inr refl
rests_or_stands (notes.Left id) past wire t c = inr refl
rests_or_stands (notes.Cleared unit) past wire t c = inr refl
rests_or_stands (notes.Key unit) past wire t c = inr (keys (event_of past) unit t)
rests_or_stands (notes.Unsolicited i) past wire t c = inr refl
rests_or_stands note past wire t c = inl (going_rests note t)

none_apart : (note : Note) (past : List Moment) (wire : Terms) (t : Target) → NoLogin note → IfApart (Kept (A t)) (are_kept (A t)) note past wire t
none_apart (notes.Got serial) past wire t c = absurd c
none_apart (notes.TimedOut serial) past wire t c = absurd c
none_apart (notes.Managed i functions.Login subject status login) past wire t c = absurd c
none_apart note past wire t c = tt

note_keeps : (note : Note) (past : List Moment) (wire : Terms) (t : Target) → NoLogin note → All t (target_by note past wire t)
note_keeps note past wire t c = by (rests_or_stands note past wire t c)
  where
    k : AreSo (Kept (A t)) (target_by note past wire t)
    k = note_kept (Kept (A t)) (are_kept (A t)) note past wire t (begins_kept t) (none_apart note past wire t c)

    by : ((target_by note past wire t).reply ≡ None) ⊎ ((target_by note past wire t).agents ≡ t.agents) → All t (target_by note past wire t)
    by (inl e) q = k.agents q (ap (λ r. is_for r q) e)
    by (inr e) q = subst (λ (xs : List Agent). Kept (A t) q (at_place xs q)) (sym e) (self (A t q).machine).keeps

-- a login: its agent is new
new_keeps : (t : Target) (place : Option ℕ) (decided : Option Decided) (id q : ℕ) → Kept (A t) q (agent_at (enters_in place decided id t) q)
new_keeps t None decided id q = (self (A t q).machine).keeps
new_keeps t (Some place) None id q = (self (A t q).machine).keeps
new_keeps t (Some place) (Some decided) id q = by (set_or t.agents place new_agent q)
  where
    by : ((q ≡ place) × (at_place (slice_set t.agents place new_agent) q ≡ new_agent)) ⊎ (at_place (slice_set t.agents place new_agent) q ≡ at_place t.agents q)
        → Kept (A t) q (at_place (slice_set t.agents place new_agent) q)
    by (inl e) = subst (λ (a : Agent). Kept (A t) q a) (sym e.1) (λ x. untrue x)
    by (inr e) = subst (λ (a : Agent). Kept (A t) q a) (sym e) (self (A t q).machine).keeps

pub entered_keeps : (t : Target) (login : Option ℕ) → All t (entered_by login t)
entered_keeps t None q = (self (A t q).machine).keeps
entered_keeps t (Some id) q = new_keeps t (position is_none t.table.places) t.decided id q

-- an abort with 00 is said apart
abbrev pub IsAbort : Note → Type 0
IsAbort (notes.Managed i functions.Abort subject status login) = (status == 0) ≡ false
IsAbort note = Unit {0}

abbrev pub NoManaged : Note → Type 0
NoManaged (notes.Managed i word subject status login) = ⊥
NoManaged note = Unit {0}

pub settled_keeps : (note : Note) (t : Target) (past : List Moment) (wire : Terms) → target_by note past wire t ≡ going_on note t → IfApart (Kept (A t)) (are_kept (A t)) note past wire t
    → All t (target_by note past wire t)
settled_keeps note t past wire e c q =
    let k = note_kept (Kept (A t)) (are_kept (A t)) note past wire t (begins_kept t) c in
    k.agents q (ap (λ (x : Target). is_for x.reply q) e ∙ ap (λ r. is_for r q) (going_rests note t))

module _ (start : List Disk) where
  -- each note behind the first one of a turn, but an abort with 00
  pub note_marked : (note : Note) (past : List Moment) → IsInner note → IsAbort note → ((target_at start past).reply ≡ None) ⊎ NoManaged note → AreMarked start past
      → AreMarked start (said note ∷ past)
  note_marked (notes.Managed i functions.Abort subject status login) past c f (inr n) h = absurd n
  note_marked (notes.Managed i functions.Abort subject status login) past c f (inl e) h = λ q address.
      let note = notes.Managed i functions.Abort subject status login in
      ap (λ b. (b && aborts (target_at start past) q address (target_at start past).decided) || is_aborted start past q address) f
      ∙ (h q address ∙ ap (λ (t : Target). is_unrun (agent_at t q) address && (agent_at t q).machine.aborted) (sym (going_still note (target_at start past) e)))
  note_marked (notes.Managed i functions.Login subject status login) past c f e h = steps start past (entered_by login (target_at start past)) h (entered_keeps (target_at start past) login)
  note_marked note past c f e h = steps start past (target_at start (said note ∷ past)) h (note_keeps note past (known_at start past).wire (target_at start past) c)
