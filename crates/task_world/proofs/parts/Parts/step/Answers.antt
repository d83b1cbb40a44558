use Rattle.sbp_world.proofs.Delivered.{on_ok}
use Rattle.task_world.proofs.Delivered.{happens_at}
use Rattle.task_world.proofs.parts.Parts.step.Goals as goal

pub returns-clause-happens : goal.returns-clause-happens
returns-clause-happens g c =
    on_ok c.run.result _ _ (λ h. happens_at _ _ _ _ _ _ _ c.clear.ensures h) c.run.ensures.happens
