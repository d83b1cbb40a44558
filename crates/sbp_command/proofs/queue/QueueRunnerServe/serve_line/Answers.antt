-- What the line says was done, or it says nothing, or it has a fault.
use Rattle.std.proofs.Common.{◌≡◌, ◌≤◌, sym, subst, Some, None, Ok, Err}
use Rattle.script_runner.specs.Script.{Hears}
use Rattle.retry_queue.specs.Lines.{reading}
use Rattle.sbp_command.specs.QueueLines.{heard}
use Rattle.sbp_command.proofs.QueueFits.{initiators_few, may_say}
use Rattle.sbp_command.proofs.QueueRunning.{line_fails, next_can, ran_nothing, ran_said}
use Rattle.sbp_command.proofs.queue.QueueRunnerServe.serve_line.Goals as goal

pub hear-requires : goal.hear-requires
hear-requires g c = subst (λ n. n ≤ 4) (sym c.initiators.ensures) (initiators_few c.args.self.now)

pub run_line-requires-clause-said : goal.run_line-requires-clause-said
run_line-requires-clause-said g c =
    may_say c.args.self.now c.args.line.now c.in-Ok-Some.said
    (subst (λ n. reading c.args.line.now n ≡ Ok (Some c.in-Ok-Some.said)) c.initiators.ensures (rw (c.in-Ok-Some.field-0-is) at c.in-Ok-Some.ensures.reads))
    (rw (c.in-Ok-Some.field-0-is) at c.in-Ok-Some.ensures.here)

pub returns-in-Ok-clause-served : goal.returns-in-Ok-clause-served
returns-in-Ok-clause-served g c = λ start before front e h.
    let read = subst (λ n. heard n c.args.line.now ≡ Ok (Some c.in-Ok-Some.said)) c.initiators.ensures (rw (c.in-Ok-Some.field-0-is) at c.in-Ok-Some.ensures.hears) in
    ran_said start _ _ before c.args.line.now front c.args.out.now c.run_line.new.out c.args.self.now c.run_line.new.self c.args.number c.in-Ok-Some.said e c.requires.few read c.in-Ok.ensures.begun c.in-Ok.ensures.ran h

pub returns-in-Ok-None-clause-served : goal.returns-in-Ok-None-clause-served
returns-in-Ok-None-clause-served g c = λ start before front e h.
    let read = subst (λ n. heard n c.args.line.now ≡ Ok None) c.initiators.ensures (rw (c.in-Ok-None.field-0-is) at c.in-Ok-None.ensures.hears) in
    ran_nothing start _ before c.args.line.now _ c.args.self.now c.args.number e c.requires.few read h

pub returns-in-Ok-None-clause-ready : goal.returns-in-Ok-None-clause-ready
returns-in-Ok-None-clause-ready g c = next_can c.args.number c.args.self.now _ c.requires.ready

pub returns-in-Err-clause-served : goal.returns-in-Err-clause-served
returns-in-Err-clause-served g c = λ start before front e h.
    line_fails c.in-Err.error start _ before c.args.line.now _ c.args.self.now c.args.self.now c.args.number e c.requires.few
    (subst (λ n. Hears (Err c.in-Err.error) (heard n c.args.line.now)) c.initiators.ensures c.in-Err.ensures.hears) h
