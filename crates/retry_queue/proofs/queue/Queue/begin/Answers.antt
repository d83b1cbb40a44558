-- A queue begins with a new world.
use Rattle.std.proofs.Common.{◌∙◌, ap, length, map}
use Rattle.retry_queue.specs.Queues.{submission_in}
use Rattle.retry_queue.proofs.Calls.{state_of}
use Rattle.retry_queue.proofs.Queues.{first_one, first_units}
use Rattle.retry_queue.proofs.Standing.{first_form, queue_begins}
use Rattle.retry_queue.proofs.queue.Queue.begin.Goals as goal

pub returns-clause-begins : goal.returns-clause-begins
returns-clause-begins c = queue_begins c.args.units (state_of c.in_ok-told.told.world c.in_ok-first_kept.field-0 c.new.result.items c.in_ok-told.told.notes) c.in_ok-told.ensures.world c.in_ok-told.ensures.lawful c.in_ok-first_kept.ensures.kept (ap (map submission_in) c.new.ensures.items)

pub returns-clause-one : goal.returns-clause-one
returns-clause-one c = ap (λ w. length w.initiators) c.in_ok-told.ensures.world ∙ first_one c.args.units

pub returns-clause-units : goal.returns-clause-units
returns-clause-units c = ap (λ w. length w.target.units) c.in_ok-told.ensures.world ∙ first_units c.args.units

pub returns-clause-form : goal.returns-clause-form
returns-clause-form c = first_form c.args.units _ _ c.in_ok-told.ensures.world c.in_ok-told.ensures.notes
