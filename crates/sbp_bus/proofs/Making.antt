-- The IDs at the start, one after the other.
use Rattle.std.specs.Prelude.{◌≡◌, ℕ, zero, suc, [], ◌∷◌, ◌++◌, length, refl}
use Rattle.std.proofs.Common.{arith}
use Rattle.std.proofs.lemmas.Grind.{common_steps}
use Rattle.sbp_bus.specs.Generations.{first_ids}

pub ids_none : (n : ℕ) → n ≡ zero → first_ids n ≡ []
unfolding first_ids
ids_none zero e = refl
ids_none (suc n) e = absurd (omega arith)

pub ids_more : (m n : ℕ) → m ≡ suc n → first_ids m ≡ first_ids n ++ n ∷ []
unfolding first_ids
ids_more zero n e = absurd (omega arith)
ids_more (suc k) n e = let same : k ≡ n = omega arith in rw same

pub ids_size : (n : ℕ) → length (first_ids n) ≡ n
unfolding first_ids
ids_size zero = refl
ids_size (suc n) = let s = ids_size n in grind (arith, common_steps)
