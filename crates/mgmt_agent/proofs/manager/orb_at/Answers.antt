use Rattle.std.proofs.Common.{arith}
use Rattle.std.proofs.lemmas.Bool.Decides.{nat_tests}
use Rattle.mgmt_agent.proofs.manager.orb_at.Goals as goal

pub returns : goal.returns
returns c = grind (arith, nat_tests)
