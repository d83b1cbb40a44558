-- Words that are joined by a byte are split at it again.
use Rattle.std.proofs.Common.{◌≡◌, ◌==◌, ◌&&◌, ℕ, Bool, true, false, List, [], ◌∷◌, ◌++◌, refl, ap, ◌∙◌}
use Rattle.std.specs.List.{slice_split, onto_first, join_with_byte, list_all, AllByRecursion}
use Rattle.std.proofs.lemmas.Bool.{eqb-true, eq-eqb}

-- no byte of a word is c
abbrev pub Lacks : ℕ → List ℕ → Type 0
Lacks c word = AllByRecursion (λ byte. (byte == c) ≡ false) word

abbrev pub split : ℕ → List ℕ → List (List ℕ)
split c text = slice_split (λ byte. byte == c) text

pub split_at : (c : ℕ) (word rest : List ℕ) → Lacks c word → split c (word ++ c ∷ rest) ≡ word ∷ split c rest
split_at c [] rest h = rw (eq-eqb c c refl) refl
split_at c (byte ∷ word) rest h = rw h.0 (ap (onto_first byte) (split_at c word rest h.1))

split_last : (c : ℕ) (word : List ℕ) → Lacks c word → split c word ≡ word ∷ []
split_last c [] h = refl
split_last c (byte ∷ word) h = rw h.0 (ap (onto_first byte) (split_last c word h.1))

pub split-join : (c : ℕ) (word : List ℕ) (words : List (List ℕ)) → AllByRecursion (Lacks c) (word ∷ words) → split c (join_with_byte c (word ∷ words)) ≡ word ∷ words
split-join c word [] h = split_last c word h.0
split-join c word (next ∷ words) h = split_at c word (join_with_byte c (next ∷ words)) h.0 ∙ ap (λ ws. word ∷ ws) (split-join c next words h.1)

-- bytes of one class lack a byte that is not of it
pub lacks : (c : ℕ) (class : ℕ → Bool) (word : List ℕ) → class c ≡ false → list_all class word ≡ true → Lacks c word
lacks c class [] out h = tt
lacks c class (byte ∷ word) out h = (other (byte == c) refl, lacks c class word out (rest (class byte) (list_all class word) h))
  where
    first : (a b : Bool) → (a && b) ≡ true → a ≡ true
    first true b e = refl
    first false b e = cc e

    rest : (a b : Bool) → (a && b) ≡ true → b ≡ true
    rest true b e = e
    rest false b e = cc e

    other : (t : Bool) → (byte == c) ≡ t → t ≡ false
    other true e = let same : class byte ≡ false = ap class (eqb-true byte c e) ∙ out in cc (first (class byte) (list_all class word) h)
    other false e = refl

pub lacks-append : (c : ℕ) (front back : List ℕ) → Lacks c front → Lacks c back → Lacks c (front ++ back)
lacks-append c [] back h k = k
lacks-append c (byte ∷ front) back h k = (h.0, lacks-append c front back h.1 k)
