-- What registers make.
use Rattle.command_agent.proofs.Making.Registers.{pointers_make_their_share, doorbells_make_one, resets_make_nothing, aborts_make_nothing}
use Rattle.command_agent.proofs.counts.registers_make_no_more_requests.Goals as goal

pub returns-clause-pointers : goal.returns-clause-pointers
returns-clause-pointers c = pointers_make_their_share

pub returns-clause-doorbells : goal.returns-clause-doorbells
returns-clause-doorbells c = doorbells_make_one

pub returns-clause-resets : goal.returns-clause-resets
returns-clause-resets c = resets_make_nothing

pub returns-clause-aborts : goal.returns-clause-aborts
returns-clause-aborts c = aborts_make_nothing
