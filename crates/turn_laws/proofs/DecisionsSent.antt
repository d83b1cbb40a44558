-- In each turn of every run the initiator of a decision is sent its response, cut to the length in the ORB, or, where it has no byte, the status block, and behind the answer to a response the status block, where it finds a label; and no other write.
use Rattle.std.proofs.Common.{◌≡◌, ◌∙◌, refl, sym, ap, subst, ℕ, suc, Bool, true, false, cond, List, [], ◌∷◌, Option, Some, None, Result, Ok, Err}
use Rattle.bus_transactions.specs.Packets.{SerialsCount}
use Rattle.login_table.specs.Table.{Table}
use Rattle.mgmt_agent.specs.declared.decision.Decision.{Decision}
use Rattle.mgmt_agent.specs.declared.decision.ManagerStep.{ManagerStep}
use Rattle.mgmt_agent.specs.declared.operation.Busy.{Busy}
use Rattle.mgmt_agent.specs.Machine.{Machine, start_step}
use Rattle.orb_layout.specs.declared.ask.Ask.{Ask}
use Rattle.orb_layout.specs.Replies.{Answer, Done, Expired, NoLabel, Payload, Refused}
use Rattle.rbc_disk.specs.Disk.{Disk}
use Rattle.sbp_journal.specs.declared.note.Note.{Note}
use Rattle.sbp_journal.specs.declared.note.Note.TheVariants as notes
use Rattle.sbp_journal.specs.Run.{Moment, said}
use Rattle.sbp_journal.specs.Wire.{Terms, terms}
use Rattle.sbp_laws.specs.Agents.{target_before, wire_before}
use Rattle.sbp_laws.specs.Decided.{decision_in}
use Rattle.sbp_laws.specs.Decided as decided
use Rattle.sbp_laws.specs.Management.{Call, answer_to, answers, call_by, call_of, decided_in, decided_note, got_call, manager_turn, no_call, operator, operator_for, started, starts}
use Rattle.sbp_laws.specs.Packets.{answer_in, answered_at, packet_at, receiver_in, sender_in}
use Rattle.sbp_laws.specs.SentWrites.{DecisionsAreSent, NodeWrite, behind_turn, block_served, decision_served, decision_writes, decisions_served, is_response, is_response_done, managed_orb, writes_to}
use Rattle.sbp_laws.specs.Targets.{Decided, Purpose, Target, decided_by, for_agent, for_manager, for_nobody, got_by, is_serial, keep_decided, manager_step, over, purpose_of, replied_to, target_at, target_by}
use Rattle.sbp_laws.specs.Turns.{Turn, turn}
use Rattle.sbp_world.specs.Agents.Management.Offices.{Office, office_of, stepped}
use Rattle.sbp_world.proofs.Agents.Management.Firsts.{wire_is}
use Rattle.sbp_world.proofs.Agents.Management.Idle.{managed_office}
use Rattle.turn_laws.specs.DecisionsSent.{DecisionsSentLaw}
use Rattle.turn_laws.proofs.DecisionNotes.{timed_out_none}
use Rattle.turn_laws.proofs.DecisionSteps.{AsksFor, Serves, asks_for, block_of, note_of, reply_blocks, write_of}
use Rattle.turn_laws.proofs.DecisionWords.{noted_decision}
use Rattle.turn_laws.proofs.EachTurns.{joined_law}
use Rattle.turn_laws.proofs.FailingCalls.{answers_same, no_no, start_no}
use Rattle.turn_laws.proofs.ManagedWrites.{FollowsFor, FollowsResponses, IsFollowed, asked_write, follow_cases}
use Rattle.turn_laws.proofs.OperationKnown.{IsKnown, operation_known, over_known}
use Rattle.turn_laws.proofs.Pass.{of_every_run}
use Rattle.turn_laws.proofs.Silent.{Calmly, calm_law}

-- ---- what the terms have behind a response
module _ (start : List Disk) (past : List Moment) (serial : ℕ) (answer : Answer) where
  abbrev T : Target
  T = over (target_at start past)

  abbrev wire : Terms
  wire = terms past

  abbrev after : Office
  after = stepped (office_of T) answer (manager_step T answer)

  by_purpose : (for : Purpose) (given : Answer) → answer_to for given ≡ answers answer → office_of (replied_to for given T) ≡ after
  by_purpose for_manager given e = managed_office (manager_step T given) given T ∙ ap (λ a. stepped (office_of T) a (manager_step T a)) (answers_same given answer e)
  by_purpose (for_agent place which) given e = absurd (no_no answer e)
  by_purpose for_nobody given e = absurd (no_no answer e)

  by_own : (own : Option ℕ) → got_call own T wire serial ≡ answers answer → office_of (got_by own wire serial T) ≡ after
  by_own None e = absurd (start_no _ _ answer e)
  by_own (Some own) e = by_purpose (purpose_of T own) (answer_in (packet_at wire serial)) e

  by_receiver : (b : Bool) → cond b (got_call (answered_at wire serial) T wire serial) no_call ≡ answers answer → office_of (cond b (got_by (answered_at wire serial) wire serial T) T) ≡ after
  by_receiver true e = by_own (answered_at wire serial) e
  by_receiver false e = absurd (no_no answer e)

  got_office : call_by (said (notes.Got serial)) T wire ≡ answers answer → office_of (target_at start (said (notes.Got serial) ∷ past)) ≡ after
  got_office e = ap (λ w. office_of (target_by (notes.Got serial) past w (target_at start past))) (wire_is start past) ∙ by_receiver (is_serial (receiver_in (wire.sent serial)) 0) e

module _ (start : List Disk) (t : Turn) where
  abbrev before : Target
  before = target_before start t

  abbrev known : Terms
  known = wire_before t

  abbrev at : ℕ
  at = managed_orb start t

  -- ---- what is sent and what is due, by the call of the turn
  abbrev block_by : Call → Option Decided → List NodeWrite
  block_by call on = block_of t (suc (operator_for call known before)) at on

  abbrev WritesBy : Call → Option decided.Decision → List NodeWrite
  WritesBy call (Some decision) = writes_to (suc decision.initiator) t.rest
  WritesBy call None = cond (is_response_done before call) (writes_to (suc (operator_for call known before)) t.rest) []

  abbrev ServedBy : Call → Option decided.Decision → List NodeWrite
  ServedBy call (Some decision) = decision_served start t decision (target_at start (t.start ∷ t.past)).decided
  ServedBy call None = cond (is_response_done before call) (block_by call before.decided) []

  abbrev Sent : Call → Option decided.Decision → Type 0
  Sent call told = WritesBy call told ≡ ServedBy call told

  block_same : (on : Option Decided) → block_by (call_of before t) on ≡ block_served start t on
  block_same None = refl
  block_same (Some on) = refl

  by_law : (told : Option decided.Decision) → Sent (call_of before t) told → decision_writes start t told ≡ decisions_served start t told
  by_law (Some decision) e = e
  by_law None e = e ∙ ap (λ ws. cond (is_response_done before (call_of before t)) ws []) (block_same before.decided)

  -- what a call decides
  abbrev Told : Call → Option decided.Decision
  Told call = decision_in (decided_in (operator_for call known before) (manager_turn call before))

  started_none : (i : ℕ) (r : Result Ask Busy × Machine) → decision_in (decided_in i (started r)) ≡ None
  started_none i (Err busy, machine) = refl
  started_none i (Ok ask, machine) = refl

  -- ---- a response to the operation
  module _ (answer : Answer) (followed : IsFollowed start t (manager_step before answer)) (is_known : IsKnown at before)
      (kept : (d : Decision) → (manager_step before answer).0.decided ≡ Some d → (target_at start (t.start ∷ t.past)).decided ≡ decided_by before.manager.operation answer) where
    abbrev r : ManagerStep × (Machine × Table)
    r = manager_step before answer

    abbrev i : ℕ
    i = operator known before.manager.operation

    abbrev target : Target
    target = target_at start (behind_turn t)

    abbrev on : Option Decided
    on = decided_by before.manager.operation answer

    asks : AsksFor t i (suc i) at target on r
    asks = asks_for t i (suc i) at target before.manager before.table before.keys answer before.decided is_known

    served_same : (x : Option Decided) (d : Decision) → write_of t i (suc i) at target x d ≡ decision_served start t (note_of i d) x
    served_same None d = refl
    served_same (Some x) d = refl

    done : (given : Answer) → answer ≡ given → Sent (answers given) None
    done Done e =
        ap (λ ws. cond (is_response before.manager.operation) ws []) (followed.writes ∙ ap (λ a. let s = manager_step before a in asked_write t (suc i) s.0.ask s.1.0) e)
        ∙ reply_blocks t (suc i) at before.manager before.table before.keys before.decided is_known
    done (Payload bytes) e = refl
    done (Refused rcode) e = refl
    done Expired e = refl
    done NoLabel e = refl

    by_decided : (d : Option Decision) → r.0.decided ≡ d → Sent (answers answer) (decision_in (decided_note i d))
    by_decided None e = done answer refl
    by_decided (Some d) e =
        followed.writes ∙ subst (λ x. Serves t i (suc i) at target x on r) e asks followed.table followed.sound ∙ served_same on d
        ∙ ap (decision_served start t (note_of i d)) (sym (kept d e))

    answered : Sent (answers answer) (Told (answers answer))
    answered = by_decided r.0.decided refl

-- ---- by the moment
module _ (start : List Disk) (past : List Moment) (rest : List Note) (count : SerialsCount past) where
  abbrev Now : Moment → Turn
  Now moment = turn past moment rest

  is_known : IsKnown (managed_orb start (Now (said notes.Tick))) (over (target_at start past))
  is_known = over_known _ (target_at start past) (operation_known start past count)

  abbrev CallAt : Moment → Call
  CallAt moment = call_of (target_before start (Now moment)) (Now moment)

  abbrev SentAt : Moment → Type 0
  SentAt moment = Sent start (Now moment) (CallAt moment) (Told start (Now moment) (CallAt moment))

  got_by_call : (serial : ℕ) (call : Call) → CallAt (said (notes.Got serial)) ≡ call → FollowsFor start (Now (said (notes.Got serial))) call → Sent start (Now (said (notes.Got serial))) call (Told start (Now (said (notes.Got serial))) call)
  got_by_call serial no_call e f = refl
  got_by_call serial (starts source orb) e f =
      let now = Now (said (notes.Got serial)) in
      subst (Sent start now (starts source orb)) (sym (started_none start now (operator_for (starts source orb) (terms past) (over (target_at start past))) (start_step (over (target_at start past)).manager source orb))) refl
  got_by_call serial (answers answer) e f =
      answered start (Now (said (notes.Got serial))) answer f is_known
      (λ d g. ap (λ (o : Office). o.decided) (got_office start past serial answer e)
      ∙ ap (λ x. keep_decided x (decided_by (over (target_at start past)).manager.operation answer) (over (target_at start past)).decided) g)

  -- a time-out decides nothing, and answers no response
  late_for : (for : Purpose) → is_response_done (over (target_at start past)) (answer_to for Expired) ≡ false
  late_for for_manager = refl
  late_for (for_agent place which) = refl
  late_for for_nobody = refl

  late_done : (serial : ℕ) (b : Bool) → is_response_done (over (target_at start past)) (cond b (answer_to (purpose_of (over (target_at start past)) serial) Expired) no_call) ≡ false
  late_done serial true = late_for (purpose_of (over (target_at start past)) serial)
  late_done serial false = refl

  late : (serial : ℕ) → SentAt (said (notes.TimedOut serial))
  late serial =
      let now = Now (said (notes.TimedOut serial)) in
      let call = CallAt (said (notes.TimedOut serial)) in
      let done = late_done serial (is_serial (sender_in ((terms past).sent serial)) 0) in
      subst (Sent start now call) (sym (ap decision_in (timed_out_none (terms past) (over (target_at start past)) serial)))
      (ap (λ b. cond b (writes_to (suc (operator_for call (terms past) (over (target_at start past)))) rest) []) done
      ∙ sym (ap (λ b. cond b (block_by start now call (over (target_at start past)).decided) []) done))

  sent_at : (moment : Moment) → FollowsResponses start (Now moment) → SentAt moment
  sent_at (said (notes.Got serial)) f = got_by_call serial (CallAt (said (notes.Got serial))) refl f
  sent_at (said (notes.TimedOut serial)) f = late serial
  sent_at moment f = refl

decisions_sent : (start : List Disk) (t : Turn) → Calmly start t → FollowsResponses start t → DecisionsAreSent start t
decisions_sent start t calm follows =
    let told = noted_decision t.rest ∙ ap decision_in calm.1.0.decisions in
    subst (λ x. decision_writes start t x ≡ decisions_served start t x) (sym told)
    (by_law start t (Told start t (call_of (target_before start t) t)) (sent_at start t.past t.rest calm.1.1 t.start follows))

pub decisions_sent_law : DecisionsSentLaw
decisions_sent_law = joined_law Calmly FollowsResponses DecisionsAreSent decisions_sent calm_law (of_every_run FollowsResponses (λ units ready start has. follow_cases units ready has start))
