use Rattle.sbp_world.proofs.LineForms.{form_law}
use Rattle.sbp_world.proofs.laws.lines_have_form.Goals as goal

pub returns : goal.returns
returns c = form_law
