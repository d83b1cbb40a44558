-- The six lines are written as far as the sink took them.
use Rattle.std.proofs.Common.{refl, inl}
use Rattle.sbp_command.proofs.Drilling.{drill_done, drill_torn, unwritten}
use Rattle.sbp_command.proofs.drill.run_drill.Goals as goal

pub returns-in_default : goal.returns-in_default
returns-in_default g c = λ left reads. (record { left = refl; reads = refl }, (refl, inl (unwritten _)))

pub returns-in-Ok-write_all : goal.returns-in-Ok-write_all
returns-in-Ok-write_all g c = λ left reads. (record { left = refl; reads = refl }, drill_done c.args.words.seed c.args.words.count tt _ _ c.in-Ok.lines c.in-Ok.ensures (rw c.as_slice.ensures at c.in-Ok-write_all.ensures))

pub returns : goal.returns
returns g c = λ left reads. (record { left = refl; reads = refl }, rw c.status_of.ensures (drill_torn c.in-Err.status c.args.words.seed c.args.words.count _ _ c.in-Ok.lines c.in-Ok.ensures (rw c.as_slice.ensures at c.in-Err.ensures)))
