use Rattle.label_table.proofs.Handles.{handle_law}
use Rattle.label_table.proofs.law.handles_are_apart.Goals as goal

pub returns : goal.returns
returns c = handle_law
