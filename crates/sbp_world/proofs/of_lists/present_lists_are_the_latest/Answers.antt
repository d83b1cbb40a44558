-- What is known of the moments of lists gives the law.
use Rattle.sbp_world.proofs.Lists.OpenPresents.{present_law}
use Rattle.sbp_world.proofs.of_lists.present_lists_are_the_latest.Goals as goal

pub moments_stand_as_they_may-requires : goal.moments_stand_as_they_may-requires
moments_stand_as_they_may-requires c = tt

pub returns : goal.returns
returns c = present_law c.moments_stand_as_they_may.ensures
