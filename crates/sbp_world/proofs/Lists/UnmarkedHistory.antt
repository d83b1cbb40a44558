-- By the terms of a history no agent has its ORB marked for an abort, where no reply to the management operation aborts an ORB.
use Rattle.sbp_world.proofs.Words.Std.{◌≡◌, ◌∙◌, refl, sym, ap, subst, ℕ, ◌+◌, Bool, true, false, cond, List, [], ◌∷◌, Option, Some, None, Result, Ok, Err, is_none, position, unwrap_or}
use Rattle.sbp_world.proofs.Words.Wire.{Access, Register, Start, agent_reset, agent_state, doorbell, management_agent, no_start, orb_pointer, register, rom_start, start_at, start_serves, unsolicited_enable, Moment, asked, said, Terms, terms}
use Rattle.sbp_world.proofs.Words.Target.{PointRefusal, Ahead, Main, Machine, lost_step, point_step, Effect, Busy, Operation, Disk}
use Rattle.sbp_world.proofs.Words.Initiator.{Ask, Nothing, offset_at, pointer_at, Answer, Expired}
use Rattle.sbp_world.proofs.Words.Laws.{access_at, answer_in, answered_at, id_for, packet_at, receiver_in, sender_in, Agent, Decided, Target, agent_at, agent_over, entered_by, enters_in, for_agent, for_manager, got_by, is_nothing, is_serial, known_at, main_lost, manager_step, moved, new_agent, over, pointed_by, points, purpose_among, register_got, replied, replied_to, request_got, rings, sends_of, start_got, started_by, target_at, wants, with_agent, EachMoment}
use Rattle.sbp_world.proofs.Words.World.{Office}
use Rattle.mgmt_agent.specs.declared.decision.Effect.TheVariants as effects
use Rattle.mgmt_agent.specs.Machine as manager
use Rattle.orb_layout.specs.declared.ask.FailCause.TheVariants as causes
use Rattle.sbp_journal.specs.declared.note.Note.TheVariants as notes
use Rattle.sbp_journal.specs.declared.operation.FunctionWord.TheVariants as functions
use Rattle.sbp_world.proofs.Agents.Management.Firsts.{wire_is}
use Rattle.sbp_world.proofs.Agents.Management.Offices.{over_keeps}
use Rattle.sbp_world.proofs.Common.{none_is, untrue, serial_is}
use Rattle.sbp_world.proofs.Lists.AgentFolds.{AreKept, at_place, AreSo, AreStill, Every, cut_still, new_there, over_still, set_so, set_still, so, stand, stand_still}
use Rattle.sbp_world.proofs.Lists.AgentNotes.{managed_kept, note_kept, pick}
use Rattle.sbp_world.proofs.Lists.UnmarkedDecisions.{NoAbortIn, expired_spares, is_abort, reply_not}
use Rattle.sbp_world.proofs.Lists.UnmarkedSteps.{IsUnmarked, doorbell_clean, lost_clean, point_clean, reply_clean, reset_clean}

-- ---- of an agent
abbrev pub Clean : ℕ → Agent → Type 0
Clean q a = IsUnmarked a.machine

sends : (q : ℕ) (a : Agent) (is_write : Bool) (serial : ℕ) → Every serial → Clean q a → Clean q (sends_of is_write serial a)
sends q a is_write serial may h = by (wants a.asks is_write) (wants a.asks_ahead is_write)
  where
    by : (x y : Bool) → Clean q (cond x (record a { main = Some serial; asks = Nothing }) (cond y (record a { ahead = Some serial; asks_ahead = Nothing }) a))
    by true y = h
    by false true = h
    by false false = h

loses : (q : ℕ) (a : Agent) → Clean q a → Clean q (main_lost a)
loses q a h = by (is_nothing a.asks)
  where
    by : (b : Bool) → Clean q (cond b a (moved (lost_step a.machine Main causes.Label) a))
    by true = h
    by false = lost_clean a.machine Main causes.Label h

ends : (q : ℕ) (a : Agent) → Clean q a → Clean q (agent_over a)
ends q a h = by (is_nothing (main_lost a).asks_ahead)
  where
    k : Clean q (main_lost a)
    k = loses q a h

    by : (b : Bool) → Clean q (cond b (main_lost a) (record (main_lost a) { machine = (lost_step (main_lost a).machine Ahead causes.Label).1; asks_ahead = Nothing }))
    by true = k
    by false = lost_clean (main_lost a).machine Ahead causes.Label k

pub are_clean : AreKept Clean Every
are_clean = record {
  lasting = record { untells = λ q a b h. h; sends = sends; loses = loses; ends = ends; stays = λ q which answer plain told b h. refl };
  cuts = λ q a h. reset_clean a.machine h;
}

-- ---- the target
abbrev All : Target → Type 0
All t = AreStill Clean t

-- where a reply may wait
all_so : (now t : Target) → now.agents ≡ t.agents → All t → AreSo Clean now
all_so now t e h = record {
  agents = λ q g. subst (λ (xs : List Agent). Clean q (at_place xs q)) (sym e) (h.agents q);
  pending = λ reply g plain told b. (reply_clean (agent_at now reply.place).machine reply.place plain told reply.which reply.answer (subst (λ (xs : List Agent). Clean reply.place (at_place xs reply.place)) (sym e) (h.agents reply.place))).unmarked;
}

module _ (T : Target) (h : All T) where
  pointed_clean : (q : ℕ) (a : Agent) (r : Result Ask PointRefusal × Machine) (pointer : ℕ) → Clean q a → IsUnmarked r.1 → Clean q (pointed_by r pointer a)
  pointed_clean q a (Err refusal, m) pointer h k = h
  pointed_clean q a (Ok ask, m) pointer h k = k

  register_clean : (name : Register) (place : ℕ) (access : Access) → All (register_got name place access T)
  register_clean agent_reset place access = cut_still Clean are_clean.cuts T place h
  register_clean orb_pointer place access =
      let a = agent_at T place in
      let pointer = pointer_at access.payload 0 in
      pick Clean are_clean access.is_write (with_agent T place (points access a)) T
      (set_still Clean T place (points access a) h (λ x. pointed_clean place a (point_step a.machine pointer) (offset_at access.payload 0) x (point_clean a.machine pointer x))) h
  register_clean doorbell place access =
      let a = agent_at T place in set_still Clean T place (rings a) h (λ x. doorbell_clean a.machine x)
  register_clean unsolicited_enable place access = stand_still Clean _ T refl refl h
  register_clean agent_state place access = h

  started_clean : (r : Result Ask Busy × manager.Machine) → All (started_by r T)
  started_clean (Err busy, machine) = h
  started_clean (Ok ask, machine) = stand_still Clean _ T refl refl h

  start_clean : (start : Start) (source : ℕ) (access : Access) → All (start_got start source access T)
  start_clean (register place name) source access = register_clean name place access
  start_clean management_agent source access = started_clean (manager.start_step T.manager source (offset_at access.payload 0))
  start_clean rom_start source access = h
  start_clean no_start source access = h

  request_clean : (access : Option Access) (source : ℕ) → All (request_got access source T)
  request_clean None source = h
  request_clean (Some access) source = pick Clean are_clean (start_serves (start_at access.offset) access) (start_got (start_at access.offset) source access T) T (start_clean (start_at access.offset) source access) h

  -- an answer
  no_abort : (effect : Effect) → is_abort effect ≡ false → (place orb : ℕ) → effect ≡ effects.Abort place orb → ⊥
  no_abort effect e place orb is = untrue (sym e ∙ ap is_abort is)

  managed_clean : (answer : Answer) → is_abort (manager_step T answer).0.effect ≡ false → AreSo Clean (replied_to for_manager answer T)
  managed_clean answer e = so Clean _ (managed_kept Clean are_clean (manager_step T answer) answer T (λ place orb f a k. absurd (no_abort (manager_step T answer).0.effect e place orb f)) h)

  among_clean : (p : ℕ) (agents : List Agent) (serial : ℕ) (answer : Answer) → AreSo Clean (replied_to (purpose_among p agents serial) answer T)
  among_clean p [] serial answer = so Clean T h
  among_clean p (a ∷ agents) serial answer = by (among_clean (p + 1) agents serial answer) (is_serial a.main serial) (is_serial a.ahead serial)
    where
      by : AreSo Clean (replied_to (purpose_among (p + 1) agents serial) answer T) → (x y : Bool) → AreSo Clean (replied_to (cond x (for_agent p Main) (cond y (for_agent p Ahead) (purpose_among (p + 1) agents serial))) answer T)
      by rest true y = all_so _ T refl h
      by rest false true = all_so _ T refl h
      by rest false false = rest

  -- where no answer to the management operation aborts
  replied_clean : (serial : ℕ) (answer : Answer) → (is_serial T.manages serial ≡ true → is_abort (manager_step T answer).0.effect ≡ false) → AreSo Clean (replied serial answer T)
  replied_clean serial answer f = by (is_serial T.manages serial) refl
    where
      by : (b : Bool) → is_serial T.manages serial ≡ b → AreSo Clean (replied_to (cond b for_manager (purpose_among 0 T.agents serial)) answer T)
      by true e = managed_clean answer (f e)
      by false e = among_clean 0 T.agents serial answer

-- ---- what the target gets
-- an answer to the request of the management operation decides on no abort
abbrev pub SparesAll : Terms → ℕ → Target → Type 0
SparesAll wire serial t = (own : ℕ) → answered_at wire serial ≡ Some own → t.manages ≡ Some own → (op : Operation) → t.manager.operation ≡ Some op → NoAbortIn op.phase (answer_in (packet_at wire serial))

module _ (t : Target) (h : AreSo Clean t) where
  abbrev T : Target
  T = over t

  rest : All T
  rest = over_still Clean are_clean.lasting t h

  manager_is : T.manager ≡ t.manager
  manager_is = ap (λ (o : Office). o.manager) (over_keeps t)

  manages_is : T.manages ≡ t.manages
  manages_is = ap (λ (o : Office). o.manages) (over_keeps t)

  got_clean : (wire : Terms) (serial : ℕ) (found : Option ℕ) → answered_at wire serial ≡ found → SparesAll wire serial t → AreSo Clean (got_by found wire serial T)
  got_clean wire serial None e f = so Clean _ (request_clean T rest (access_at wire serial) (id_for wire 0 (unwrap_or (sender_in (wire.sent serial)) 0)))
  got_clean wire serial (Some own) e f =
      let answer = answer_in (packet_at wire serial) in
      replied_clean T rest own answer (λ b. reply_not T.manager T.table T.keys answer (λ op is. f own e (sym manages_is ∙ serial_is T.manages own b) op (sym (ap (λ (m : manager.Machine). m.operation) manager_is) ∙ is)))

  pub got_so : (wire : Terms) (serial : ℕ) → SparesAll wire serial t → AreSo Clean (cond (is_serial (receiver_in (wire.sent serial)) 0) (got_by (answered_at wire serial) wire serial T) T)
  got_so wire serial f = by (is_serial (receiver_in (wire.sent serial)) 0)
    where
      by : (b : Bool) → AreSo Clean (cond b (got_by (answered_at wire serial) wire serial T) T)
      by true = got_clean wire serial (answered_at wire serial) refl f
      by false = so Clean T rest

  pub late_so : (serial : ℕ) (b : Bool) → AreSo Clean (cond b (replied serial Expired T) T)
  late_so serial true = replied_clean T rest serial Expired (λ b. reply_not T.manager T.table T.keys Expired (λ op is. expired_spares op.phase))
  late_so serial false = so Clean T rest

-- ---- a login: its agent is new
new_so : (t : Target) (place : Option ℕ) (decided : Option Decided) (id : ℕ) → AreSo Clean t → AreSo Clean (enters_in place decided id t)
new_so t None decided id h = h
new_so t (Some place) None id h = h
new_so t (Some place) (Some decided) id h =
    stand Clean (enters_in (Some place) (Some decided) id t) (with_agent t place new_agent) refl refl
    (set_so Clean t place new_agent h refl (λ reply e plain told b. (reply_clean new_agent.machine reply.place plain told reply.which reply.answer refl).unmarked))

entered_so : (t : Target) (login : Option ℕ) → AreSo Clean t → AreSo Clean (entered_by login t)
entered_so t None h = h
entered_so t (Some id) h = new_so t (position is_none t.table.places) t.decided id h

-- ---- at each moment
abbrev pub SparesAt : List Disk → Moment → List Moment → Type 0
SparesAt start (said (notes.Got serial)) past = SparesAll (terms past) serial (target_at start past)
SparesAt start moment past = Unit {0}

module _ (start : List Disk) where
  pub all_clean : (past : List Moment) → EachMoment (SparesAt start) past → AreSo Clean (target_at start past)
  all_clean [] s = record {
    agents = λ q e. subst (λ (a : Agent). Clean q a) (sym (new_there 8 q)) refl;
    pending = λ reply e. none_is reply e;
  }
  all_clean (asked line event ∷ past) s = so Clean (over (target_at start past)) (over_still Clean are_clean.lasting (target_at start past) (all_clean past s.1))
  all_clean (said (notes.Got serial) ∷ past) s =
      got_so (target_at start past) (all_clean past s.1) (known_at start past).wire serial (subst (λ (x : Terms). SparesAll x serial (target_at start past)) (sym (wire_is start past)) s.0)
  all_clean (said (notes.TimedOut serial) ∷ past) s = late_so (target_at start past) (all_clean past s.1) serial (is_serial (sender_in ((known_at start past).wire.sent serial)) 0)
  all_clean (said (notes.Managed i functions.Login subject status login) ∷ past) s = entered_so (target_at start past) login (all_clean past s.1)
  all_clean (said note ∷ past) s = note_kept Clean are_clean note past (known_at start past).wire (target_at start past) (all_clean past s.1) tt
