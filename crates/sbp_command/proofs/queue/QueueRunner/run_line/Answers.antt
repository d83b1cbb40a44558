-- A run begins, or its queue goes on.
use Rattle.std.proofs.Common.{◌∙◌, sym, ap, length, arith}
use Rattle.std.proofs.lemmas.List.{length-map}
use Rattle.sbp_world.proofs.Delivered.{on_ok}
use Rattle.script_runner.proofs.Running.{both_ok, may_leave, may_leave_same, same_length}
use Rattle.sbp_command.proofs.QueueRunning.{always_ok, began_can, began_initiators, began_ran, opened_can, opened_media, opened_says, opened_stands, went_can, went_initiators, went_on}
use Rattle.sbp_command.proofs.queue.QueueRunner.run_line.Goals as goal

pub run_queue_line-requires-clause-one : goal.run_queue_line-requires-clause-one
run_queue_line-requires-clause-one g c = (opened_can _ _ _ _ (sym c.self.view_is ∙ c.in-Some.is) c.requires.can).queue.one

pub run_queue_line-requires-clause-media : goal.run_queue_line-requires-clause-media
run_queue_line-requires-clause-media g c = opened_media _ c.args.media.now.items _ _ _ (opened_can _ _ _ _ (sym c.self.view_is ∙ c.in-Some.is) c.requires.can)

pub run_queue_line-requires-clause-few : goal.run_queue_line-requires-clause-few
run_queue_line-requires-clause-few g c = let submissions = (opened_can _ _ _ _ (sym c.self.view_is ∙ c.in-Some.is) c.requires.can).queue.few in let lines = c.requires.few in omega (arith, submissions, lines)

pub run_queue_line-requires-clause-said : goal.run_queue_line-requires-clause-said
run_queue_line-requires-clause-said g c = opened_says _ _ c.args.said (sym c.self.view_is ∙ c.in-Some.is) c.requires.said

pub returns-in-Some-clause-left : goal.returns-in-Some-clause-left
returns-in-Some-clause-left g c = may_leave _ _ _ _ _ c.run_queue_line.ensures.size c.run_queue_line.ensures.fell

pub returns-in-Some-clause-can : goal.returns-in-Some-clause-can
returns-in-Some-clause-can g c =
    both_ok c.run_queue_line.result _ _ _
    (λ one more. went_can c.args.number _ _ _ _ one c.run_queue_line.ensures.units (same_length _ _ _ c.run_queue_line.ensures.size) more (opened_can _ _ _ _ (sym c.self.view_is ∙ c.in-Some.is) c.requires.can))
    c.run_queue_line.ensures.one
    c.run_queue_line.ensures.count

pub returns-in-Some-clause-begun : goal.returns-in-Some-clause-begun
returns-in-Some-clause-begun g c = always_ok c.run_queue_line.result _ (went_initiators _ _ c.args.said (sym c.self.view_is ∙ c.in-Some.is) c.requires.said)

pub returns-in-Some-clause-ran : goal.returns-in-Some-clause-ran
returns-in-Some-clause-ran g c =
    both_ok c.run_queue_line.result _ _ _
    (λ does e start happened front h. went_on start _ _ happened front _ _ _ _ _ _ does e (opened_says _ _ c.args.said (sym c.self.view_is ∙ c.in-Some.is) c.requires.said) (opened_stands _ _ start happened _ _ (sym c.self.view_is ∙ c.in-Some.is) h))
    c.run_queue_line.ensures.does
    c.run_queue_line.ensures.text

pub returns-clause-left : goal.returns-clause-left
returns-clause-left g c = may_leave_same _

pub returns-clause-can : goal.returns-clause-can
returns-clause-can g c =
    on_ok c.begin.result _ _ (λ b. began_can c.args.self.now _ _ c.args.number _ _ _ (sym c.self.view_is ∙ c.in_default.is) (ap length c.as_slice.ensures.value ∙ sym (length-map _ _)) c.requires.can b) c.begin.ensures

pub returns-clause-begun : goal.returns-clause-begun
returns-clause-begun g c = on_ok c.begin.result _ _ (λ b. began_initiators c.args.self.now _ _ _ _ c.args.said (sym c.self.view_is ∙ c.in_default.is) c.requires.said b) c.begin.ensures

pub returns-clause-ran : goal.returns-clause-ran
returns-clause-ran g c =
    on_ok c.begin.result _ _
    (λ b start happened front h. began_ran c.args.self.now _ _ c.args.number start _ happened front _ _ c.args.said (sym c.self.view_is ∙ c.in_default.is) (ap length c.as_slice.ensures.value ∙ sym (length-map _ _)) c.requires.can c.requires.said b h)
    c.begin.ensures
