use Rattle.sbp_world.proofs.Delivered.{delivers_at}
use Rattle.sbp_world.proofs.parts.Parts.deliver.Goals as goal

pub returns-clause-delivers : goal.returns-clause-delivers
returns-clause-delivers g c =
    delivers_at _ _ _ _ _ _ _ _ _ c.in_ok-arrival.ensures.received c.in_ok-arrive_if.ensures.step
