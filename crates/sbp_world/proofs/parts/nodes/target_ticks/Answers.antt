use Rattle.sbp_world.proofs.Delivered.{on_ok}
use Rattle.sbp_world.proofs.Nodes.{target_ticked}
use Rattle.sbp_world.proofs.parts.nodes.target_ticks.Goals as goal

pub returns-clause-ticked : goal.returns-clause-ticked
returns-clause-ticked c = on_ok c.tick.result _ _ (λ h. target_ticked _ _ _ _ c.requires h) c.tick.ensures.step
