use Rattle.std.proofs.Common.{refl}
use Rattle.config_rom.specs.Sum.{sum_of, low_bits}
use Rattle.drill_text.specs.Sums.{behind_line}
use Rattle.drill_text.proofs.laws.known_sums.Goals as goal

pub returns : goal.returns
unfolding sum_of low_bits behind_line
returns c = record { of_none = refl; of_digits = refl; of_five = refl; of_lines = refl }
