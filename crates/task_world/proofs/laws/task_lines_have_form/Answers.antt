use Rattle.task_world.proofs.LineForms.{form_law}
use Rattle.task_world.proofs.laws.task_lines_have_form.Goals as goal

pub returns : goal.returns
returns c = form_law
