-- The event of a line was run.
use Rattle.std.proofs.Common.{[]}
use Rattle.retry_queue.proofs.Calls.{left, run_form, run_one, step_event, step_runs}
use Rattle.retry_queue.proofs.queue.Queue.step.Goals as goal

pub run-requires-clause-event : goal.run-requires-clause-event
run-requires-clause-event g c =
    step_event (left c.self.inside.told.world c.self.inside.kept c.self.inside.told.notes [] []) c.self.inside.submissions.items c.args.self.now c.args.event.now c.self.view_is c.requires.one c.requires.event

pub returns-clause-one : goal.returns-clause-one
returns-clause-one g c =
    run_one c.args.line c.args.event.now
    (left c.self.inside.told.world c.self.inside.kept c.self.inside.told.notes _ _) (left c.run.new.self.world c.self.inside.kept c.run.new.self.notes _ _)
    c.self.inside.submissions.items c.args.self.now c.self.view_is c.requires.one c.in_ok-self-inside.ensures.happens

pub returns-clause-form : goal.returns-clause-form
returns-clause-form g c =
    run_form c.args.line c.args.event.now
    (left c.self.inside.told.world c.self.inside.kept c.self.inside.told.notes _ _) (left c.run.new.self.world c.self.inside.kept c.run.new.self.notes _ _)
    c.in_ok-self-inside.ensures.happens c.in_ok-self-inside.ensures.notes

pub returns-clause-runs : goal.returns-clause-runs
returns-clause-runs g c =
    step_runs c.args.line c.args.event.now
    (left c.self.inside.told.world c.self.inside.kept c.self.inside.told.notes _ _) (left c.run.new.self.world _ c.run.new.self.notes _ _)
    c.self.inside.submissions.items c.args.self.now c.self.view_is c.requires.one c.requires.event
    (record { laws = c.in_ok-self-inside.ensures.lawful; typed = c.in_ok-self-inside.ensures.typed; keeps = c.in_ok-self-inside.ensures.kept; tells = c.in_ok-self-inside.ensures.notes })
