-- The line says the event that was read, if that is one of `tasks`.
use Rattle.std.proofs.Common.{◌∙◌, sym}
use Rattle.sbp_command.proofs.TaskScripts.{hears_fault, hears_none, hears_other, hears_said}
use Rattle.sbp_command.proofs.tasks.hear.Goals as goal

pub returns-then-is_here-clause-hears : goal.returns-then-is_here-clause-hears
returns-then-is_here-clause-hears c =
    hears_said c.args.initiators c.args.line.now c.in-Ok-Some.event (rw (c.in-Ok-Some.field-0-is) at c.in-Ok-Some.ensures.reads) (sym c.is_here.ensures ∙ c.if-is_here.true)

pub returns-else-is_here-clause-hears : goal.returns-else-is_here-clause-hears
returns-else-is_here-clause-hears c =
    hears_other c.args.initiators c.args.line.now c.in-Ok-Some.event (rw (c.in-Ok-Some.field-0-is) at c.in-Ok-Some.ensures.reads) (sym c.is_here.ensures ∙ c.if-is_here.false)

pub returns-in-Ok-None-clause-hears : goal.returns-in-Ok-None-clause-hears
returns-in-Ok-None-clause-hears c = hears_none c.args.initiators c.args.line.now (rw (c.in-Ok-None.field-0-is) at c.in-Ok-None.ensures.reads)

pub returns-in-Err-clause-hears : goal.returns-in-Err-clause-hears
returns-in-Err-clause-hears c = hears_fault c.in-Err.error c.args.initiators c.args.line.now c.in-Err.ensures.reads
