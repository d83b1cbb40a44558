use Rattle.std.proofs.Common.{arith}
use Rattle.std.proofs.lemmas.Grind.{common_steps}
use Rattle.label_table.proofs.Parts.{other_labelled}
use Rattle.label_table.proofs.room.has_label.Goals as goal

pub returns-else-last-bytes : goal.returns-else-last-bytes
returns-else-last-bytes c = grind (arith, common_steps, other_labelled c.args.last.now c.args.bytes.now c.args.number)
