use Rattle.task_world.proofs.Delivered.{delivers_at}
use Rattle.sbp_world.proofs.Delivered.{on_ok}
use Rattle.task_world.proofs.parts.Parts.deliver.Goals as goal

pub returns-clause-delivers : goal.returns-clause-delivers
returns-clause-delivers g c =
    on_ok c.arrive_if.result _ _ (λ e. delivers_at _ _ _ _ _ _ _ _ _ c.in_ok-arrival.ensures.received e c.arrive_if.ensures.node) c.arrive_if.ensures.step
