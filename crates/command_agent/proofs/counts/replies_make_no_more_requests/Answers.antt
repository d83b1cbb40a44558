-- What replies make.
use Rattle.command_agent.proofs.Making.Replies.{replies_make_no_more, turns_make_their_share, aheads_make_nothing}
use Rattle.command_agent.proofs.counts.replies_make_no_more_requests.Goals as goal

pub returns-clause-replies : goal.returns-clause-replies
returns-clause-replies c = replies_make_no_more

pub returns-clause-turns : goal.returns-clause-turns
returns-clause-turns c = turns_make_their_share

pub returns-clause-aheads : goal.returns-clause-aheads
returns-clause-aheads c = aheads_make_nothing
