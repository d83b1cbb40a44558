-- The operations of initiators, over the pass: `op`, `drop` and `stuck` stand in each turn exactly where they are due, where at each place the transactions of initiators are tied to their requests.
use Rattle.std.proofs.Common.{[], arith, ◌+◌, ◌∙◌, ◌≡◌, ◌≤◌, Bool, List, None, Ok, Option, Result, Some, ap, false, length, nat_eq, refl, subst, suc, sym, true, zero, ℕ}
use Rattle.std.proofs.lemmas.Bool.Decides.{nat_tests}
use Rattle.bus_transactions.specs.Wire.{as_sending}
use Rattle.label_table.specs.declared.reply.Stale.{Stale}
use Rattle.rbc_disk.specs.Disk.{Disk}
use Rattle.sbp_bus.specs.Packets.{end_note, judged_note}
use Rattle.sbp_bus.specs.Requests.{find}
use Rattle.sbp_bus.specs.declared.requests.Request.{Request}
use Rattle.sbp_initiator.specs.Acting.{act_step}
use Rattle.sbp_initiator.specs.Effects.{Turn}
use Rattle.sbp_initiator.specs.Receiving.{receive_step}
use Rattle.sbp_initiator.specs.declared.state.InitiatorState.{InitiatorState}
use Rattle.sbp_journal.specs.Outgoings.{OutboxState, empty_outbox}
use Rattle.sbp_journal.specs.Run.{Moment, asked, said}
use Rattle.sbp_journal.specs.Transactions.{Sending}
use Rattle.sbp_journal.specs.Wire.{Terms, terms}
use Rattle.sbp_journal.specs.declared.cause.Judged.{Judged}
use Rattle.sbp_journal.specs.declared.cause.Judged.TheVariants as judgements
use Rattle.sbp_journal.specs.declared.event.Action.{Action}
use Rattle.sbp_journal.specs.declared.event.Event.{Event}
use Rattle.sbp_journal.specs.declared.event.Event.TheVariants as events
use Rattle.sbp_journal.specs.declared.note.Note.{Note}
use Rattle.sbp_journal.specs.declared.note.Note.TheVariants as notes
use Rattle.sbp_laws.specs.Hosts.{host_at}
use Rattle.sbp_laws.specs.Lists.{present_list}
use Rattle.sbp_laws.specs.Operations.{at_initiator, got_notes, host_notes, reply_notes}
use Rattle.sbp_laws.specs.Packets.{access_at, answered_at, receiver_in, sender_in}
use Rattle.sbp_laws.specs.Turns.{Turn as LawTurn, turn}
use Rattle.orb_layout.specs.Replies.{Expired}
use Rattle.sbp_target.specs.Nodes as target
use Rattle.sbp_target.specs.Receiving.{expired}
use Rattle.sbp_world.proofs.Agents.Management.Holding.{was_sent}
use Rattle.sbp_world.proofs.Agents.Management.Still.{hist}
use Rattle.sbp_world.proofs.Hosts.Shows.{lapsing}
use Rattle.sbp_world.specs.Lines.{weight_in}
use Rattle.sbp_world.specs.Packets.{target_left}
use Rattle.sbp_world.specs.Wire.Wires.{layers_of}
use Rattle.sbp_world.specs.Delivering.{marked}
use Rattle.sbp_world.specs.Worlds.{Scene, WorldState, initiator_at, with_initiator, with_note}
use Rattle.turn_laws.proofs.Calls.{Brings, calls, injects, loses, refuses, refuses_action, resets, sets_key}
use Rattle.turn_laws.proofs.Handed.{handed}
use Rattle.turn_laws.proofs.Judgements.{row_there}
use Rattle.turn_laws.proofs.KnownRuns.{KnowingCases, of_every_known}
use Rattle.turn_laws.proofs.OwnActs.{AreQuiet, act_quiet, quiet_none}
use Rattle.turn_laws.proofs.OwnEnded.{lapses_due, responses_due, responses_end}
use Rattle.turn_laws.proofs.OwnNotes.{Ends, ends_of, target_none}
use Rattle.turn_laws.proofs.OwnTurns.{AreEnds, IsCalmWhere, IsDue, due_ends, got_by, late_due, same_resets, seen_due}
use Rattle.turn_laws.proofs.Places.{Place}
use Rattle.turn_laws.proofs.Timely.{Timely, untimed}
use Rattle.turn_laws.specs.Operations.{OperationsHold, OperationsLaw, OperationsStand}

line_stands : (line : ℕ) (s : Scene) (past : List Moment) (event : Event) (rest : List Note) → Brings line s event rest → OperationsStand (turn past (asked line event) rest)
line_stands line s past event rest (calls is_event c) = refl
line_stands line s past event rest (refuses is_event number) = refl
line_stands line s past event rest (refuses_action i action number e) = refl
line_stands line s past event rest (resets physical generation e) = refl
line_stands line s past event rest (loses serial) = refl
line_stands line s past event rest (sets_key unit key) = refl
line_stands line s past event rest (injects i bytes serial generation from to) = refl

end_stands : (ms : List Moment) (done : Bool) → OperationsStand (turn ms (said (end_note done)) [])
end_stands ms true = refl
end_stands ms false = refl

-- ---- the target's turns bring none
module _ (ms : List Moment) (serial : ℕ) where
  abbrev wire : Terms
  wire = terms ms

  to_target : (q : Sending) → wire.sent serial ≡ Some q → q.to ≡ 0 → (judged : Judged) → host_notes (said (judged_note serial judged)) ms ≡ []
  to_target q sent zero_to judgements.Got =
      ap (λ so. at_initiator (receiver_in so) (λ j. got_notes j (host_at ms j) (present_list ms j) wire (answered_at wire serial) serial)) sent
      ∙ ap (λ n. at_initiator (Some n) (λ j. got_notes j (host_at ms j) (present_list ms j) wire (answered_at wire serial) serial)) zero_to
  to_target q sent zero_to (judgements.Ignored cause) = refl

  abbrev LateAt : Option ℕ → List Note
  LateAt from = at_initiator from (λ j. reply_notes j (host_at ms j) (present_list ms j) (access_at wire serial) serial Expired)

  from_other : (from : ℕ) → ((i : ℕ) → nat_eq from (suc i) ≡ false) → LateAt (Some from) ≡ []
  from_other zero away = refl
  from_other (suc i) away = absurd (let no : true ≡ false = (let x : nat_eq (suc i) (suc i) ≡ true = grind (arith, nat_tests) in sym x ∙ away i) in cc)

  of_target : (so : Option Sending) → wire.sent serial ≡ so → ((i : ℕ) (packet : Sending) → wire.sent serial ≡ Some packet → nat_eq packet.from (suc i) ≡ false) → LateAt (sender_in so) ≡ []
  of_target None e away = refl
  of_target (Some packet) e away = from_other packet.from (λ i. away i packet e)

  pub late_none : ((i : ℕ) (packet : Sending) → wire.sent serial ≡ Some packet → nat_eq packet.from (suc i) ≡ false) → host_notes (said (notes.TimedOut serial)) ms ≡ []
  late_none away = of_target (wire.sent serial) refl away

module _ (units ready : ℕ) (start : List Disk) where
  -- a transaction of the target is under way, which a time-out then leaves so
  abbrev Lapses : Scene → Request → Unit {0} → target.Scene → Type 0
  Lapses s request done t = expired request.peer request.label (target.scene s.world.target empty_outbox) ≡ (Ok done, t)

  lapse_none : (past : List Moment) (s : Scene) → Place units ready start past s → (serial : ℕ) (request : Request) (done : Unit {0}) (t : target.Scene) → find s.world.requests serial ≡ Some request → request.node ≡ 0
      → Lapses s request done t → host_notes (said (notes.TimedOut serial)) (hist past s.world) ≡ []
  lapse_none past s here serial request done t found node_is e =
      late_none (hist past s.world) serial
      (λ i packet sent. (lapsing s.world here.holds.sound.stands here.holds.sound.nodes serial request found).target_away node_is (ap (λ (y : Result (Unit {0}) Stale × target.Scene). (target_left y s.world.target).0) e) i packet sent)

  -- an action that is not refused tells so
  abbrev Tells : Scene → (i : ℕ) → Action → OutboxState → InitiatorState → Type 0
  Tells s i action outbox state = act_step action empty_outbox (initiator_at s.world i) ≡ (None, (outbox, state))

  act_stands : (past : List Moment) (s : Scene) (line i : ℕ) (action : Action) (outbox : OutboxState) (state : InitiatorState) (w : WorldState) → Tells s i action outbox state
      → OperationsStand (turn (hist past s.world) (asked line (events.Act i action)) (handed (i + 1) (weight_in action) outbox w))
  act_stands past s line i action outbox state w e = quiet_none (i + 1) (weight_in action) outbox w (subst (λ (r : Option ℕ × Turn). AreQuiet r.1.0.sides) e (act_quiet action (initiator_at s.world i)))

  -- ---- each call
  both : (t : LawTurn) → OperationsStand t → OperationsHold t
  both t e = record { whole = λ calm. e; ends = sym (ends_of t.rest) ∙ ap Ends e }

  pub operation_cases : KnowingCases units ready start (Timely OperationsHold)
  operation_cases = record {
    heard = λ past s serial again run one found zero_to may others here behind judged k timely.
        both _ (target_none _ _ others ∙ sym (to_target (hist past s.world) serial (as_sending one) (was_sent s.world here.holds.sound.stands serial one found) zero_to _));
    heard_own = λ past s serial again one i found to_is inside own here behind noted k timely.
        let there : one.to ≤ length s.world.initiators = omega (arith, to_is, inside) in
        let x = receive_step one.generation one.bytes empty_outbox (initiator_at s.world i) in
        let v = with_note (judged_note serial x.0) (marked serial again (with_initiator i x.1.1 s.world)) in
        let buffers = (here.holding i inside).responses in
        let row = row_there s.world here.holds.sound.stands serial one found there (initiator_at s.world i).layer (ap (layers_of s.world) to_is) in
        record {
          whole = λ calm.
              got_by units ready start past s here i inside serial one found to_is v (IsDue units ready start past s here i inside serial one found to_is v) (λ r e. e) (IsCalmWhere units ready start past s here i inside serial one found to_is v)
              buffers (responses_due units ready start past s here k i inside serial again one found to_is v timely) calm noted.judged row;
          ends =
              got_by units ready start past s here i inside serial one found to_is v (AreEnds units ready start past s here i inside serial one found to_is v) (due_ends units ready start past s here i inside serial one found to_is v) (λ judged. Unit {0})
              buffers (λ none. responses_end units ready start past s here k i inside serial again one found to_is v timely) tt noted.judged row;
        };
    late = λ past s serial request done t found node_is e others here behind judged k timely. both _ (target_none t.outbox _ others ∙ sym (lapse_none past s here serial request done t found node_is e));
    late_own = λ past s serial request i outbox state found node_is inside e own here behind judged k timely.
        both _ (late_due units ready start past s here i inside serial request found node_is _ (lapses_due units ready start past s here k i inside serial request found node_is _ timely) outbox state e);
    sees = λ past s others here behind judged k timely. both _ (target_none _ _ others);
    sees_own = λ past s i inside own here behind judged k timely. both _ (seen_due units ready start past s here i inside (same_resets units ready start past s here i inside timely) _);
    ticks = λ past s others here behind judged k timely. both _ (target_none _ _ others);
    ends = λ past s done here behind k timely. both _ (end_stands (hist past s.world) done);
    acts = λ past s line i action outbox state inside e own here behind k timely. both _ (act_stands past s line i action outbox state _ e);
    lines = λ past s line event rest behind brings fresh here there k timely. both _ (line_stands line s (hist past s.world) event rest brings);
    begins = λ line initiators is_ready timely. both _ refl;
  }

-- in each turn of every run
pub operations_law : OperationsLaw
operations_law = untimed (λ start. OperationsHold) (of_every_known (λ start. Timely OperationsHold) (λ units ready start has. operation_cases units ready start))
