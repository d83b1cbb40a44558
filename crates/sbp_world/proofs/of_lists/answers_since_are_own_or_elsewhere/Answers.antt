use Rattle.sbp_world.proofs.Lists.OwnSince.{own_since_law}
use Rattle.sbp_world.proofs.of_lists.answers_since_are_own_or_elsewhere.Goals as goal

pub returns : goal.returns
returns c = own_since_law
