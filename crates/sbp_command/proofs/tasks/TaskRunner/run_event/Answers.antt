-- A run begins, or its world goes on.
use Rattle.std.proofs.Common.{◌∙◌, sym, ap, Some}
use Rattle.std.specs.Option.{option_map}
use Rattle.sbp_world.proofs.Delivered.{on_ok}
use Rattle.script_runner.proofs.Running.{all_ok, both_ok, may_leave_same}
use Rattle.sbp_command.proofs.QueueRunning.{always_ok}
use Rattle.sbp_command.proofs.TaskRunning.{began, began_initiators, keeps_by, leaves_by, opened_may, opened_stands, went_initiators, went_on}
use Rattle.sbp_command.proofs.tasks.TaskRunner.run_event.Goals as goal

pub run_task_line-requires-clause-event : goal.run_task_line-requires-clause-event
run_task_line-requires-clause-event g c = (opened_may _ _ _ _ (sym c.self.view_is) (ap (option_map (λ world. world.value)) c.in-Some.is ∙ ap Some (sym c.deref_mut.ensures.value)) c.requires.event).0

pub returns-in-Some-clause-left : goal.returns-in-Some-clause-left
returns-in-Some-clause-left g c = leaves_by _ _ _ _ _ c.run_task_line.ensures.size c.run_task_line.ensures.counts c.run_task_line.ensures.fell

pub returns-in-Some-clause-initiators : goal.returns-in-Some-clause-initiators
returns-in-Some-clause-initiators g c = always_ok c.run_task_line.result _ (went_initiators _ _ _ _ (sym c.self.view_is) (ap (option_map (λ world. world.value)) c.in-Some.is ∙ ap Some (sym c.deref_mut.ensures.value)) c.requires.event)

pub returns-in-Some-clause-ran : goal.returns-in-Some-clause-ran
returns-in-Some-clause-ran g c =
    all_ok c.run_task_line.result _ _ _ _
    (λ k e t start happened front h. went_on start _ _ happened front _ _ _ _ _ _ k e t (opened_may _ _ _ _ (sym c.self.view_is) (ap (option_map (λ world. world.value)) c.in-Some.is ∙ ap Some (sym c.deref_mut.ensures.value)) c.requires.event) (keeps_by _ _ _ _ c.run_task_line.ensures.disks c.run_task_line.ensures.counts) (opened_stands _ _ _ start happened _ _ (sym c.self.view_is) (ap (option_map (λ world. world.value)) c.in-Some.is ∙ ap Some (sym c.deref_mut.ensures.value)) h))
    c.run_task_line.ensures.happens
    c.run_task_line.ensures.text
    c.run_task_line.ensures.typed

pub returns-clause-left : goal.returns-clause-left
returns-clause-left g c = may_leave_same _

pub returns-clause-initiators : goal.returns-clause-initiators
returns-clause-initiators g c = on_ok c.begin.result _ _ (λ a. began_initiators _ _ _ (sym c.self.view_is ∙ ap (option_map (λ world. world.value)) c.in_default.is) a c.requires.event) c.begin.ensures.state

pub returns-clause-ran : goal.returns-clause-ran
returns-clause-ran g c =
    both_ok c.begin.result _ _ _
    (λ a e start happened front h. began _ _ start _ happened front _ _ _ _ (sym c.self.view_is ∙ ap (option_map (λ world. world.value)) c.in_default.is) a c.requires.event e h)
    c.begin.ensures.state
    c.begin.ensures.text
