-- Comparing bytes in three parts: those before byte 2, that byte, and those behind it.
use Rattle.std.specs.Prelude.{◌≡◌, ℕ, ◌+◌, ◌*◌, ◌%◌, ◌≤◌, ◌&&◌, nat_eq, Bool, true, false, List, [], ◌∷◌, length, take, drop, slice_index_or, slice_set, refl}
use Rattle.std.proofs.Common.{◌∙◌, arith, sym}
use Rattle.std.proofs.lemmas.Grind.{common_steps}
use Rattle.std.proofs.lemmas.Slice.Eq.{bytes_eq-Decides}
use Rattle.std.specs.Str.{bytes_eq}
use Rattle.label_table.specs.Requests.{with_label}

-- what holds of the same ones does not hold of two: they are not the same
pub unlike : (last bytes : List ℕ) (alike : Bool) → (last ≡ bytes → alike ≡ true) → alike ≡ false → bytes_eq last bytes ≡ false
unlike last bytes alike f e = by_test (bytes_eq last bytes) refl
  where
    by_test : (b : Bool) → bytes_eq last bytes ≡ b → b ≡ false
    by_test false h = refl
    by_test true h =
        let same : alike ≡ true = f ((bytes_eq-Decides last bytes).0 h) in
        let c : true ≡ false = sym same ∙ e in
        cc c

and_assoc : (a b c d : Bool) → ((a && (b && true)) && (c && d)) ≡ (a && (b && (c && d)))
and_assoc false b c d = refl
and_assoc true false c d = refl
and_assoc true true c d = refl

parts_set : (last bytes : List ℕ) (x : ℕ) → 3 ≤ length bytes → length last ≡ length bytes → (bytes_eq (take 2 last) (take 2 bytes) && (nat_eq (slice_index_or last 2 0) x && bytes_eq (drop 3 last) (drop 3 bytes))) ≡ bytes_eq last (slice_set bytes 2 x)
parts_set (a ∷ b ∷ c ∷ last) (d ∷ e ∷ f ∷ bytes) x h s = and_assoc (nat_eq a d) (nat_eq b e) (nat_eq c x) (bytes_eq last bytes)
parts_set _ [] x h s = absurd (omega arith)
parts_set _ (d ∷ []) x h s = absurd (omega arith)
parts_set _ (d ∷ e ∷ []) x h s = absurd (omega arith)
parts_set [] (d ∷ e ∷ f ∷ bytes) x h s = absurd (omega arith)
parts_set (a ∷ []) (d ∷ e ∷ f ∷ bytes) x h s = absurd (omega arith)
parts_set (a ∷ b ∷ []) (d ∷ e ∷ f ∷ bytes) x h s = absurd (omega arith)

pub parts_labelled : (last bytes : List ℕ) (number : ℕ) → 12 ≤ length bytes → length last ≡ length bytes → (bytes_eq (take 2 last) (take 2 bytes) && (nat_eq (slice_index_or last 2 0) (number * 4 + slice_index_or bytes 2 0 % 4) && bytes_eq (drop 3 last) (drop 3 bytes))) ≡ bytes_eq last (with_label number bytes)
unfolding with_label
parts_labelled last bytes number h s = parts_set last bytes _ (omega arith) s

other_length : (last bytes : List ℕ) → nat_eq (length last) (length bytes) ≡ false → bytes_eq last bytes ≡ false
other_length [] [] e = absurd (grind arith)
other_length [] (b ∷ bytes) e = refl
other_length (a ∷ last) [] e = refl
other_length (a ∷ last) (b ∷ bytes) e = let i = other_length last bytes (grind arith) in rw i (grind arith)

pub label_length : (number : ℕ) (bytes : List ℕ) → length (with_label number bytes) ≡ length bytes
unfolding with_label
label_length number bytes = grind (arith, common_steps)

pub other_labelled : (last bytes : List ℕ) (number : ℕ) → nat_eq (length last) (length bytes) ≡ false → bytes_eq last (with_label number bytes) ≡ false
other_labelled last bytes number e = other_length last (with_label number bytes) (rw label_length e)
