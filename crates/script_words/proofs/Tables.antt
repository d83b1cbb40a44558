-- A table that is looked up part by part.
use Rattle.std.proofs.Common.{◌≡◌, ℕ, Bool, true, false, cond, List, [], ◌∷◌, ◌++◌, Option, Some, None, refl, bytes_eq}
use Rattle.script_words.specs.Verbs.{look}

-- the first of two answers that there is
abbrev pub first_of_two : {A : Type 0} → Option A → Option A → Option A
first_of_two (Some a) other = Some a
first_of_two None other = other

look-by : {A : Type 0} (test : Bool) (a : A) (front back : Option A) (whole : Option A) → whole ≡ first_of_two front back → cond test (Some a) whole ≡ first_of_two (cond test (Some a) front) back
look-by true a front back whole e = refl
look-by false a front back whole e = e

pub look-append : {A : Type 0} (front back : List (List ℕ × A)) (word : List ℕ) → look (front ++ back) word ≡ first_of_two (look front word) (look back word)
look-append [] back word = refl
look-append (entry ∷ front) back word = look-by (bytes_eq word entry.0) entry.1 (look front word) (look back word) (look (front ++ back) word) (look-append front back word)

pub ruleset look_in_turn = (look-append)
