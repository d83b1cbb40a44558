-- The words of the command line that ask for a drill.
use Rattle.std.specs.Prelude.{◌≡◌, ℕ, ◌^◌, ◌<◌, ◌≤◌, ◌==◌, ◌&&◌, ◌||◌, nat_lt, not, Bool, List, [], ◌∷◌, length, slice_index, codes}
use Rattle.std.specs.Fmt.{decimal}

-- `drill SEED N`, in decimal digits without a leading zero: a seed of 64 bits, and 1 to 10,000 commands
pub record IsDrill (words : List (List ℕ)) (seed count : ℕ) : Type 0 where
  pub words_are : words ≡ codes "drill" ∷ decimal seed ∷ decimal count ∷ []
  pub seed_fits : seed < 2 ^ 64
  pub some : 1 ≤ count
  pub few : count ≤ 10000

-- a word without a sign, and without a zero before other digits
abbrev pub is_plain : List ℕ → Bool
is_plain word = nat_lt 0 (length word) && not (slice_index word 0 == 43) && (not (slice_index word 0 == 48) || (length word == 1))
