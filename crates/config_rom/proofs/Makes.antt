-- Steps of making a configuration ROM.
use Rattle.std.proofs.Common.{◌≡◌, ◌∙◌, sym, ap, ℕ, suc, ◌+◌, List, [], ◌∷◌, ◌++◌, append_assoc}
use Rattle.config_rom.specs.Make.{unit_numbers}

-- one more unit's entry
pub numbers-added : (xs new total : List ℕ) (first next n m : ℕ) → n ≡ suc m → next ≡ suc first → new ≡ xs ++ (0x144E0000 + first) ∷ [] → xs ++ unit_numbers first n ≡ total → new ++ unit_numbers next m ≡ total
numbers-added xs new total first next n m e f g h =
    rw (g, f) (append_assoc xs ((0x144E0000 + first) ∷ []) (unit_numbers (suc first) m)) ∙ ap (λ k. xs ++ unit_numbers first k) (sym e) ∙ h
