-- Words that are matched column by column, and then by one of several ends.
use Rattle.std.proofs.Common.{◌≡◌, ◌&&◌, ◌≤◌, ◌<◌, ◌+◌, length, ℕ, zero, suc, take, replicate, arith, Bool, true, false, List, [], ◌∷◌, ◌++◌, refl}
use Rattle.std.specs.List.{list_any}
use Rattle.script_text.specs.declared.column.Column.{Column}
use Rattle.script_text.specs.declared.column.Column.TheVariants.{Number}
use Rattle.script_words.specs.Words.{shown}
use denote.Ref.{Bor}
use Rattle.script_text.specs.Rows.{takes, take_all, are_shaped}

-- a test that each end makes first is made once
pub any_and : {A : Type 0} (first : Bool) (test : A → Bool) (xs : List A) → list_any (λ x. first && test x) xs ≡ (first && list_any test xs)
any_and true test xs = refl
any_and false test [] = refl
any_and false test (x ∷ xs) = any_and false test xs

any_false : {A : Type 0} (xs : List A) → list_any (λ x. false) xs ≡ false
any_false [] = refl
any_false (x ∷ xs) = any_false xs

pub are_shaped-cons : (tails : List (List Column)) (column : Column) (cs : List Column) (word : List ℕ) (ws : List (List ℕ)) → are_shaped tails (column ∷ cs) (word ∷ ws) ≡ (takes column word && are_shaped tails cs ws)
are_shaped-cons tails column cs word ws = any_and (takes column word) (λ tail. take_all (cs ++ tail) ws) tails

pub are_shaped-short : (tails : List (List Column)) (column : Column) (cs : List Column) → are_shaped tails (column ∷ cs) [] ≡ false
are_shaped-short tails column cs = any_false tails

-- words end too early
pub take_all-short : (cs : List Column) (words : List (Bor (List ℕ))) → 0 < length cs → length words ≡ 0 → take_all cs (shown words) ≡ false
take_all-short [] words h k = absurd (omega arith)
take_all-short (column ∷ cs) [] h k = refl
take_all-short (column ∷ cs) (word ∷ words) h k = absurd (omega arith)

pub are_shaped-early : (tails : List (List Column)) (cs : List Column) (words : List (Bor (List ℕ))) → 0 < length cs → length words ≡ 0 → are_shaped tails cs (shown words) ≡ false
are_shaped-early tails [] words h k = absurd (omega arith)
are_shaped-early tails (column ∷ cs) [] h k = are_shaped-short tails column cs
are_shaped-early tails (column ∷ cs) (word ∷ words) h k = absurd (omega arith)

pub ruleset shape_steps = (are_shaped-cons, are_shaped-early, take_all-short)

-- one number for each node, of at most five
pub id_numbers : (n : ℕ) → n ≤ 4 → take (n + 1) (Number ∷ Number ∷ Number ∷ Number ∷ Number ∷ []) ≡ Number ∷ replicate n Number
id_numbers zero h = refl
id_numbers (suc zero) h = refl
id_numbers (suc (suc zero)) h = refl
id_numbers (suc (suc (suc zero))) h = refl
id_numbers (suc (suc (suc (suc zero)))) h = refl
id_numbers (suc (suc (suc (suc (suc n))))) h = absurd (omega arith)
