-- How agents go on.
use Rattle.command_agent.proofs.Making.Working.{replies_go_on, aheads_begin_none, losses_begin_none}
use Rattle.command_agent.proofs.counts.agents_work_until_an_end.Goals as goal

pub returns-clause-replies : goal.returns-clause-replies
returns-clause-replies c = replies_go_on

pub returns-clause-aheads : goal.returns-clause-aheads
returns-clause-aheads c = aheads_begin_none

pub returns-clause-losses : goal.returns-clause-losses
returns-clause-losses c = losses_begin_none
