-- A run begins, or its world goes on.
use Rattle.std.proofs.Common.{◌∙◌, sym, ap, length, Some}
use Rattle.std.specs.Option.{option_map}
use Rattle.std.proofs.lemmas.List.{length-map}
use Rattle.sbp_world.proofs.Delivered.{on_ok}
use Rattle.script_runner.proofs.Running.{all_ok, began_can, began_ran, begins_some, both_ok, opened_can, opened_line, opened_stands, same_length, went_can, went_on, may_leave, may_leave_same}
use Rattle.script_runner.proofs.runner.ScriptRunner.run_event.Goals as goal

pub returns-in-Some-clause-can : goal.returns-in-Some-clause-can
returns-in-Some-clause-can g c =
    on_ok c.step_world.result _ _
    (λ k. went_can _ _ _ _ _ _ _ k c.step_world.ensures.units (same_length _ _ _ c.step_world.ensures.size) (opened_can _ _ _ _ _ c.self.view_is (ap (option_map (λ world. world.value)) c.in-Some.is ∙ ap Some (sym c.deref_mut.ensures.value)) c.requires.can))
    c.step_world.ensures.happens

pub returns-in-Some-clause-ran : goal.returns-in-Some-clause-ran
returns-in-Some-clause-ran g c =
    all_ok c.step_world.result _ _ _ _
    (λ k e t start happened front h. went_on start _ _ happened front _ _ _ _ _ _ k e t (opened_line _ _ _ _ _ c.self.view_is (ap (option_map (λ world. world.value)) c.in-Some.is ∙ ap Some (sym c.deref_mut.ensures.value)) c.requires.line) (opened_stands _ _ _ _ start happened _ _ c.self.view_is (ap (option_map (λ world. world.value)) c.in-Some.is ∙ ap Some (sym c.deref_mut.ensures.value)) h))
    c.step_world.ensures.happens
    c.step_world.ensures.text
    c.step_world.ensures.typed

pub returns-clause-can : goal.returns-clause-can
returns-clause-can g c =
    let some = (begins_some c.args.self.now.world c.args.event.now c.in-Begin.initiators c.in-Begin.ready c.in-Begin.is c.requires.event).1.0 in
    on_ok c.begin.result _ _ (λ a. began_can _ _ _ _ _ _ a some (ap length c.as_slice.ensures.value ∙ sym (length-map _ _)) c.requires.can) c.begin.ensures.state

pub returns-clause-ran : goal.returns-clause-ran
returns-clause-ran g c =
    let begun = begins_some c.args.self.now.world c.args.event.now c.in-Begin.initiators c.in-Begin.ready c.in-Begin.is c.requires.event in
    both_ok c.begin.result _ _ _
    (λ a e start happened front h. began_ran c.args.self.now _ _ _ _ start _ happened front _ _ _ _ a begun.0 begun.1.1 e c.in-Begin.is (ap length c.as_slice.ensures.value ∙ sym (length-map _ _)) c.requires.can h)
    c.begin.ensures.state
    c.begin.ensures.text

pub returns-in-Some-clause-left : goal.returns-in-Some-clause-left
returns-in-Some-clause-left g c = may_leave _ _ _ _ _ c.step_world.ensures.size c.step_world.ensures.fell

pub returns-clause-left : goal.returns-clause-left
returns-clause-left g c = may_leave_same _
