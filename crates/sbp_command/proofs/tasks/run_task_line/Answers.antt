-- The notes of a line have their form.
use Rattle.sbp_journal.specs.Form.{HasForm}
use Rattle.sbp_journal.proofs.Each.{all_reverse}
use Rattle.sbp_command.proofs.tasks.run_task_line.Goals as goal

pub append_notes-requires : goal.append_notes-requires
append_notes-requires g c = rw (c.as_slice.ensures, c.fresh.ensures.same) (all_reverse HasForm _ c.in_ok-step_first.ensures.form)
