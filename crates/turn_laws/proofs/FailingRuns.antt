-- In each turn of every run a failure of the management operation has its row.
use Rattle.std.proofs.Common.{ℕ, suc, ◌+◌, ◌<◌, Bool, true, false, List, []}
use Rattle.rbc_disk.specs.Disk.{Disk}
use Rattle.sbp_bus.specs.Generations.{id_of}
use Rattle.sbp_bus.specs.Packets.{end_note, judged_note}
use Rattle.sbp_initiator.specs.Receiving.{receive_step}
use Rattle.sbp_initiator.specs.Seeing.{see_step}
use Rattle.sbp_journal.specs.Outgoings.{empty_outbox}
use Rattle.sbp_journal.specs.Run.{Moment, asked, said}
use Rattle.sbp_journal.specs.declared.event.Event.{Event}
use Rattle.sbp_journal.specs.declared.event.Event.TheVariants as events
use Rattle.sbp_journal.specs.declared.note.Note.{Note}
use Rattle.sbp_journal.specs.declared.note.Note.TheVariants as notes
use Rattle.sbp_laws.specs.Targets.{Target, over, target_at}
use Rattle.sbp_laws.specs.Turns.{turn}
use Rattle.sbp_target.specs.Nodes.{scene as target_scene}
use Rattle.sbp_target.specs.Receiving.{received, seen, ticked}
use Rattle.sbp_world.specs.Delivering.{marked, whole_of}
use Rattle.sbp_world.specs.Lines.{weight_in}
use Rattle.sbp_world.specs.Nodes.{told_seen, with_seen}
use Rattle.sbp_world.specs.Worlds.{Scene, initiator_at, with_initiator, with_note, with_target, without_notes}
use Rattle.sbp_world.proofs.Agents.Management.Still.{hist}
use Rattle.turn_laws.specs.Failing.{FailsByRows, FailingLaw}
use Rattle.turn_laws.specs.Failures.{FailsWhereDue}
use Rattle.turn_laws.proofs.Calls.{Brings, Cases, calls, injects, loses, refuses, refuses_action, resets, sets_key}
use Rattle.turn_laws.proofs.FailingCalls.{judged_fits, late_fits, no_no}
use Rattle.turn_laws.proofs.FailingRows.{rows_told}
use Rattle.turn_laws.proofs.FailureNotes.{failure_cases}
use Rattle.turn_laws.proofs.Handed.{handed}
use Rattle.turn_laws.proofs.Pass.{of_every_run}

module _ (units ready : ℕ) (has : 0 < units) (start : List Disk) where
  abbrev F : Cases units ready start (FailsWhereDue start)
  F = failure_cases units ready has start

  abbrev T : List Moment → Target
  T ms = over (target_at start ms)

  line_rows : (line : ℕ) (s : Scene) (past : List Moment) (event : Event) (rest : List Note) → Brings line s event rest → FailsByRows start (turn past (asked line event) rest)
  line_rows line s past event rest (calls is_event c) = tt
  line_rows line s past event rest (refuses is_event number) = tt
  line_rows line s past event rest (refuses_action j action number e) = tt
  line_rows line s past event rest (resets physical generation e) = tt
  line_rows line s past event rest (loses serial) = tt
  line_rows line s past event rest (sets_key unit key) = tt
  line_rows line s past event rest (injects j bytes serial generation from to) = tt

  end_rows : (before : List Moment) (done : Bool) → FailsByRows start (turn before (said (end_note done)) [])
  end_rows before true = tt
  end_rows before false = tt

  pub failing_cases : Cases units ready start (FailsByRows start)
  failing_cases = record {
    heard = λ past s serial again run one found zero_to may told here behind j.
        let x = received run one.generation one.bytes (whole_of s.world.target s.media) in
        let w = with_note (judged_note serial x.0) (marked serial again (with_target x.1.node s.world)) in
        let rest = handed 0 0 x.1.outbox w in
        rows_told (T (hist past s.world)) (turn (hist past s.world) (said (judged_note serial x.0)) rest) (F.heard past s serial again run one found zero_to may told here behind j)
        (judged_fits units ready has start past s here here.contents serial x.0 rest);
    heard_own = λ past s serial again one i found to_is inside told here behind j.
        let x = receive_step one.generation one.bytes empty_outbox (initiator_at s.world i) in
        let w = with_note (judged_note serial x.0) (marked serial again (with_initiator i x.1.1 s.world)) in
        let rest = handed (suc i) 0 x.1.0 w in
        rows_told (T (hist past s.world)) (turn (hist past s.world) (said (judged_note serial x.0)) rest) (F.heard_own past s serial again one i found to_is inside told here behind j)
        (judged_fits units ready has start past s here here.contents serial x.0 rest);
    late = λ past s serial request done t found node_is e told here behind j.
        let rest = handed 0 0 t.outbox (with_note (notes.TimedOut serial) (with_target t.node s.world)) in
        rows_told (T (hist past s.world)) (turn (hist past s.world) (said (notes.TimedOut serial)) rest) (F.late past s serial request done t found node_is e told here behind j)
        (late_fits units ready has start past s here here.contents serial rest);
    late_own = λ past s serial request i outbox state found node_is inside e told here behind j.
        let rest = handed (suc i) 0 outbox (with_note (notes.TimedOut serial) (with_initiator i state s.world)) in
        rows_told (T (hist past s.world)) (turn (hist past s.world) (said (notes.TimedOut serial)) rest) (F.late_own past s serial request i outbox state found node_is inside e told here behind j)
        (late_fits units ready has start past s here here.contents serial rest);
    sees = λ past s told here behind j.
        let g = s.world.generations.latest in
        let x = (seen g.generation (id_of g 0) (target_scene s.world.target empty_outbox)).1 in
        let rest = handed 0 0 x.outbox (with_target x.node (with_seen 0 (told_seen 0 s.world))) in
        rows_told (T (hist past s.world)) (turn (hist past s.world) (said (notes.Seen 0 g.generation)) rest) (F.sees past s told here behind j) (λ answer e own f. absurd (no_no answer e));
    sees_own = λ past s i inside told here behind j.
        let g = s.world.generations.latest in
        let x = see_step g.generation (id_of g (suc i)) (id_of g 0) empty_outbox (initiator_at s.world i) in
        let rest = handed (suc i) 0 x.0 (with_initiator i x.1 (with_seen (suc i) (told_seen (suc i) s.world))) in
        rows_told (T (hist past s.world)) (turn (hist past s.world) (said (notes.Seen (suc i) g.generation)) rest) (F.sees_own past s i inside told here behind j) (λ answer e own f. absurd (no_no answer e));
    ticks = λ past s told here behind j.
        let x = ticked (target_scene s.world.target empty_outbox) in
        let rest = handed 0 0 x.outbox (with_target x.node (with_note notes.Tick s.world)) in
        rows_told (T (hist past s.world)) (turn (hist past s.world) (said notes.Tick) rest) (F.ticks past s told here behind j) (λ answer e own f. absurd (no_no answer e));
    ends = λ past s done here behind. end_rows (hist past s.world) done;
    acts = λ past s line i action outbox state inside e told here behind.
        let rest = handed (i + 1) (weight_in action) outbox (with_initiator i state (without_notes s.world)) in
        rows_told (T (hist past s.world)) (turn (hist past s.world) (asked line (events.Act i action)) rest) (F.acts past s line i action outbox state inside e told here behind)
        (λ answer e own f. absurd (no_no answer e));
    lines = λ past s line event rest behind brings fresh here there. line_rows line s (hist past s.world) event rest brings;
    begins = λ line initiators is_ready. tt;
  }

pub failing_law : FailingLaw
failing_law = of_every_run FailsByRows (λ units ready start has. failing_cases units ready has start)
