-- The line says what was read, if that is one of `queue`.
use Rattle.std.proofs.Common.{◌∙◌, sym, Some, None}
use Rattle.sbp_command.proofs.QueueScripts.{hears, hears_none, hears_other, hears_said, was_read}
use Rattle.sbp_command.proofs.queue.hear.Goals as goal

pub returns-then-is_here-clause-hears : goal.returns-then-is_here-clause-hears
returns-then-is_here-clause-hears c =
    let i = c.args.initiators in
    let line = c.args.line.now in
    hears_said i line c.in-Ok-Some.said (was_read (Some c.in-Ok-Some.said) i line (rw (c.in-Ok-Some.field-0-is) at c.in-Ok-Some.ensures)) (sym c.is_here.ensures ∙ c.if-is_here.true)

pub returns-then-is_here-clause-reads : goal.returns-then-is_here-clause-reads
returns-then-is_here-clause-reads c = was_read (Some c.in-Ok-Some.said) c.args.initiators c.args.line.now (rw (c.in-Ok-Some.field-0-is) at c.in-Ok-Some.ensures)

pub returns-else-is_here-clause-hears : goal.returns-else-is_here-clause-hears
returns-else-is_here-clause-hears c =
    let i = c.args.initiators in
    let line = c.args.line.now in
    hears_other i line c.in-Ok-Some.said (was_read (Some c.in-Ok-Some.said) i line (rw (c.in-Ok-Some.field-0-is) at c.in-Ok-Some.ensures)) (sym c.is_here.ensures ∙ c.if-is_here.false)

pub returns-in-Ok-None-clause-hears : goal.returns-in-Ok-None-clause-hears
returns-in-Ok-None-clause-hears c =
    hears_none c.args.initiators c.args.line.now (was_read None c.args.initiators c.args.line.now (rw (c.in-Ok-None.field-0-is) at c.in-Ok-None.ensures))

pub returns-in-Err-clause-hears : goal.returns-in-Err-clause-hears
returns-in-Err-clause-hears c = rw (c.line_error.ensures) (hears c.in-Err.fault c.args.initiators c.args.line.now c.in-Err.ensures)
