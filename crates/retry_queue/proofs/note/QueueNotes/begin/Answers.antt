-- The notes of the first line are those of its world.
use Rattle.std.proofs.Common.{ap, subst, sym, true, None}
use Rattle.sbp_world.specs.Wire.Keeping.{BeginsLawfully}
use Rattle.retry_queue.specs.Kept.{told}
use Rattle.retry_queue.proofs.note.QueueNotes.begin.Goals as goal

pub returns-clause-lawful : goal.returns-clause-lawful
returns-clause-lawful c = subst (BeginsLawfully 1 true c.args.units) (sym c.in_ok-new.ensures.ok) c.in_ok-world.ensures.lawful

pub returns-clause-notes : goal.returns-clause-notes
returns-clause-notes c = ap (told None c.in_ok-new.field-0.value.fresh) c.new-2.ensures
