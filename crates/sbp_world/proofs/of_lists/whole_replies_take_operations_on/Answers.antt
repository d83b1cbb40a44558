use Rattle.sbp_world.proofs.of_lists.whole_replies_take_operations_on.Goals as goal
use Rattle.sbp_world.proofs.Completing.OperationsReplies.{whole_replies_law}

pub returns : goal.returns
returns c = whole_replies_law
