use Rattle.std.proofs.Common.{ap, ◌∙◌}
use Rattle.rbc_disk.specs.Units.{PlainDisk}
use Rattle.unordered_agent.specs.declared.step.TaskStep.{TaskStep}
use Rattle.unordered_agent.specs.Machine.{TaskMachine}
use Rattle.task_target.proofs.Failing.{counted_alone, failed_same, failed_silent, left_alone}
use Rattle.task_target.proofs.steps.fail_in.Goals as goal

pub returns-clause-step : goal.returns-clause-step
returns-clause-step g c = c.reply_in.ensures.step ∙ failed_same _ _ _ _ _ c.requires.fails

pub returns-clause-unit : goal.returns-clause-unit
returns-clause-unit g c =
    ap (λ (p : PlainDisk). p.unit) (left_alone _ _ _ _ _ _ _ c.reply_in.ensures.plain (ap (λ (x : TaskStep × TaskMachine). x.0.ran) (returns-clause-step g c) ∙ failed_silent _ _ _ c.requires.fails))

pub returns-clause-disk : goal.returns-clause-disk
returns-clause-disk g c =
    ap (λ (p : PlainDisk). p.medium) (left_alone _ _ _ _ _ _ _ c.reply_in.ensures.plain (ap (λ (x : TaskStep × TaskMachine). x.0.ran) (returns-clause-step g c) ∙ failed_silent _ _ _ c.requires.fails))

pub returns-clause-faults : goal.returns-clause-faults
returns-clause-faults g c =
    counted_alone _ _ _ c.reply_in.ensures.cause (ap (λ (x : TaskStep × TaskMachine). x.0.ran) (returns-clause-step g c) ∙ failed_silent _ _ _ c.requires.fails)
