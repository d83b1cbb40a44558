-- What failures leave to be made.
use Rattle.command_agent.proofs.Counting.{failures_make_no_more, lost_aheads_make_no_more}
use Rattle.command_agent.proofs.laws.failures_make_no_more_requests.Goals as goal

pub returns-clause-main : goal.returns-clause-main
returns-clause-main c = failures_make_no_more

pub returns-clause-ahead : goal.returns-clause-ahead
returns-clause-ahead c = lost_aheads_make_no_more
