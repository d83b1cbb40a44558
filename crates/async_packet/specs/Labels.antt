-- Labels of transactions.
use Rattle.std.specs.Prelude.{ℕ}

-- the 6 bits, the generation, and the serial number
pub record LabelParts : Type 0 where
  pub number : ℕ
  pub generation : ℕ
  pub serial : ℕ
