-- The event of the line was run, or the line says nothing, or it has a fault.
use Rattle.std.proofs.Common.{◌≡◌, ◌∙◌, ◌≤◌, sym, subst, Some, None, Ok}
use Rattle.std.proofs.lemmas.List.{length-map}
use Rattle.script_text.specs.Line.{reading}
use Rattle.sbp_command.specs.TaskLines.{heard}
use Rattle.sbp_command.proofs.TaskFits.{initiators_few, may_happen}
use Rattle.sbp_command.proofs.TaskRunning.{ran_event, ran_nothing}
use Rattle.sbp_command.proofs.tasks.TaskRunnerServe.serve_line.Goals as goal

pub hear-requires : goal.hear-requires
hear-requires g c = subst (λ n. n ≤ 4) (sym c.initiators.ensures) (initiators_few c.args.self.now)

pub run_event-requires-clause-some : goal.run_event-requires-clause-some
run_event-requires-clause-some g c = subst (λ n. 1 ≤ n) (length-map _ _) c.requires.ready

pub run_event-requires-clause-event : goal.run_event-requires-clause-event
run_event-requires-clause-event g c =
    may_happen c.args.self.now c.args.line.now c.in-Ok-Some.event
    (subst (λ n. reading c.args.line.now n ≡ Ok (Some c.in-Ok-Some.event)) c.initiators.ensures (rw (c.in-Ok-Some.field-0-is) at c.in-Ok-Some.ensures.reads))
    (rw (c.in-Ok-Some.field-0-is) at c.in-Ok-Some.ensures.bytes)
    (rw (c.in-Ok-Some.field-0-is) at c.in-Ok-Some.ensures.here)

pub returns-in-Ok-clause-ready : goal.returns-in-Ok-clause-ready
returns-in-Ok-clause-ready g c = subst (λ n. 1 ≤ n) (sym (length-map _ _ ∙ c.run_event.ensures.size)) (subst (λ n. 1 ≤ n) (length-map _ _) c.requires.ready)

pub returns-in-Ok-clause-served : goal.returns-in-Ok-clause-served
returns-in-Ok-clause-served g c = λ start before front e h.
    let read = subst (λ n. heard n c.args.line.now ≡ Ok (Some c.in-Ok-Some.event)) c.initiators.ensures (rw (c.in-Ok-Some.field-0-is) at c.in-Ok-Some.ensures.hears) in
    ran_event start _ _ before c.args.line.now front c.args.out.now c.run_event.new.out c.args.self.now c.run_event.new.self c.args.number c.in-Ok-Some.event e c.requires.few read c.in-Ok.ensures.initiators c.in-Ok.ensures.ran h

pub returns-in-Ok-None-clause-served : goal.returns-in-Ok-None-clause-served
returns-in-Ok-None-clause-served g c = λ start before front e h.
    let read = subst (λ n. heard n c.args.line.now ≡ Ok None) c.initiators.ensures (rw (c.in-Ok-None.field-0-is) at c.in-Ok-None.ensures.hears) in
    ran_nothing start _ before c.args.line.now _ c.args.self.now c.args.number e c.requires.few read h
