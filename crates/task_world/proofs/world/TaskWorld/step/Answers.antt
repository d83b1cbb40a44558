-- The notes of a line have their form.
use Rattle.task_world.proofs.LineForms.{form_law}
use Rattle.task_world.proofs.world.TaskWorld.step.Goals as goal

pub returns-clause-form : goal.returns-clause-form
returns-clause-form g c = form_law.lines _ _ _ _ c.in_ok-step.ensures.happens
