-- The event of the line was run, or the line says nothing, or it has a fault.
use Rattle.std.proofs.Common.{◌∙◌, sym, ap}
use Rattle.script_runner.specs.Script.{heard}
use Rattle.script_runner.proofs.Running.{line_at, may_happen_at, ran_event, ran_nothing}
use Rattle.script_runner.proofs.runner.ScriptRunnerServe.serve_line.Goals as goal

pub run_event-requires-clause-event : goal.run_event-requires-clause-event
run_event-requires-clause-event g c =
    may_happen_at c.args.self.now c.args.line.now _ _ _ c.in-Ok-Some.event c.self.view_is c.requires.ready (rw (c.in-Ok-Some.field-0-is) at c.in-Ok-Some.ensures.event)

pub run_event-requires-clause-line : goal.run_event-requires-clause-line
run_event-requires-clause-line g c =
    line_at c.args.self.now c.args.line.now _ _ _ c.in-Ok-Some.event c.self.view_is c.requires.ready (rw (c.in-Ok-Some.field-0-is) at c.in-Ok-Some.ensures.event) (rw (c.in-Ok-Some.field-0-is) at c.in-Ok-Some.ensures.bytes)

pub returns-in-Ok-clause-served : goal.returns-in-Ok-clause-served
returns-in-Ok-clause-served g c = λ start before front e h.
    let read = ap (λ s. heard s.initiators c.args.line.now) (sym c.self.view_is) ∙ rw (c.in-Ok-Some.field-0-is) at c.in-Ok-Some.ensures.reads in
    ran_event start _ _ before c.args.line.now front c.args.out.now c.run_event.new.out c.args.self.now c.run_event.new.self c.args.number c.in-Ok-Some.event e c.requires.few read c.in-Ok.ensures.initiators c.in-Ok.ensures.ran h

pub returns-in-Ok-None-clause-served : goal.returns-in-Ok-None-clause-served
returns-in-Ok-None-clause-served g c = λ start before front e h.
    let read = ap (λ s. heard s.initiators c.args.line.now) (sym c.self.view_is) ∙ rw (c.in-Ok-None.field-0-is) at c.in-Ok-None.ensures.reads in
    ran_nothing start _ before c.args.line.now _ c.args.self.now c.args.number e c.requires.few read h
