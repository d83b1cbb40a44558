use Rattle.sbp_world.proofs.Delivered.{on_ok}
use Rattle.sbp_world.proofs.Nodes.{target_saw}
use Rattle.sbp_world.proofs.parts.nodes.target_sees.Goals as goal

pub returns-clause-seen : goal.returns-clause-seen
returns-clause-seen c = on_ok c.see.result _ _ (λ h. target_saw _ _ _ _ _ _ c.requires h) c.see.ensures.step
