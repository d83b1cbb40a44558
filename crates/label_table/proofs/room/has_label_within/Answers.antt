use Rattle.std.proofs.Common.{arith}
use Rattle.std.proofs.lemmas.Grind.{common_steps}
use Rattle.label_table.proofs.Parts.{parts_labelled}
use Rattle.label_table.proofs.room.has_label_within.Goals as goal

pub returns-then-is_labelled : goal.returns-then-is_labelled
returns-then-is_labelled c =
    let p = parts_labelled c.args.last.now c.args.bytes.now c.args.number c.requires.size c.requires.same in grind (arith, common_steps)

pub returns-else-is_labelled : goal.returns-else-is_labelled
returns-else-is_labelled c =
    let p = parts_labelled c.args.last.now c.args.bytes.now c.args.number c.requires.size c.requires.same in grind (arith, common_steps)

pub returns-else-is_front : goal.returns-else-is_front
returns-else-is_front c =
    let p = parts_labelled c.args.last.now c.args.bytes.now c.args.number c.requires.size c.requires.same in grind (arith, common_steps)
