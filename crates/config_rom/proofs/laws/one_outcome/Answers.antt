use Rattle.config_rom.proofs.Unique.{one-tree, one-fault, tree-or-fault}
use Rattle.config_rom.proofs.laws.one_outcome.Goals as goal

pub returns : goal.returns
returns c = record { tree = one-tree; fault = one-fault; either = tree-or-fault }
