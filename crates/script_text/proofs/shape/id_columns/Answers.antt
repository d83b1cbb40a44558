use Rattle.script_text.proofs.Shapes.{id_numbers}
use Rattle.script_text.proofs.shape.id_columns.Goals as goal

pub returns : goal.returns
returns c = rw c.from.ensures (id_numbers c.args.initiators c.requires)
