-- The notes of a line have their form.
use Rattle.sbp_journal.specs.Form.{HasForm}
use Rattle.sbp_journal.proofs.Each.{all_reverse}
use Rattle.sbp_world.proofs.LineForms.{form_law}
use Rattle.script_runner.proofs.runner.step_world.Goals as goal

pub append_notes-requires : goal.append_notes-requires
append_notes-requires g c = rw (c.as_slice.ensures, c.fresh.ensures.same) (all_reverse HasForm _ (form_law.lines c.args.number c.args.event.now _ _ c.in_ok-step.ensures.happens))
