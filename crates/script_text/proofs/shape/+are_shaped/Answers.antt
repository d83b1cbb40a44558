use Rattle.std.proofs.Common.{sym, arith}
use Rattle.script_text.specs.Rows.{ends}
use Rattle.script_text.proofs.Shapes.{are_shaped-early}
use Rattle.script_text.proofs.shape.+are_shaped.Goals as goal

pub returns-in-len1-up-empty : goal.returns-in-len1-up-empty
returns-in-len1-up-empty t c = sym (are_shaped-early (ends c.args.row) c.args.columns.now c.args.words.now (grind arith) (grind arith))
