-- The lines of a queue's own notes, word by word.
use Rattle.std.proofs.Common.{◌≡◌, ◌∙◌, sym, ap, refl, ℕ, List, [], ◌∷◌, ◌++◌, append_assoc}
use Rattle.std.specs.Prelude.{codes}
use Rattle.std.specs.Fmt.{decimal}
use Rattle.line_text.specs.Canonical.{canonical}
use Rattle.line_text.specs.Fields.{Field, word, further, rest_of_line}
use Rattle.retry_queue.specs.Texts.{line_text, submit_fields}

-- a line feed behind further words
ends_line : (fields : List Field) → further fields ++ 10 ∷ [] ≡ rest_of_line fields
ends_line [] = refl
ends_line (field ∷ fields) = ap (λ (rest : List ℕ). 32 ∷ rest) (append_assoc (word field) (further fields) (10 ∷ []) ∙ ap (λ (rest : List ℕ). word field ++ rest) (ends_line fields))

-- a word, a number and further words
pub written_line : (front number : List ℕ) (fields : List Field) → ((front ++ 32 ∷ number) ++ further fields) ++ 10 ∷ [] ≡ front ++ 32 ∷ (number ++ rest_of_line fields)
written_line front number fields =
    regroup front number (further fields) ∙ ap (λ (rest : List ℕ). front ++ 32 ∷ (number ++ rest)) (ends_line fields)
  where
    regroup : (a b c : List ℕ) → ((a ++ 32 ∷ b) ++ c) ++ 10 ∷ [] ≡ a ++ 32 ∷ (b ++ (c ++ 10 ∷ []))
    regroup a b c = simp append_assoc

-- two numbers and bytes behind a word, of which a part stands in the room of a line
pub submit_line : (out bytes room content : List ℕ) (q lba : ℕ) → bytes ++ room ≡ out ++ (((codes "submit" ++ 32 ∷ decimal q) ++ 32 ∷ decimal lba) ++ 32 ∷ canonical content)
    → bytes ++ (room ++ 10 ∷ []) ≡ out ++ line_text (codes "submit") (submit_fields q lba content)
submit_line out bytes room content q lba e =
    sym (append_assoc bytes room (10 ∷ []))
    ∙ ap (λ (l : List ℕ). l ++ 10 ∷ []) e
    ∙ regroup out (codes "submit") (decimal q) (decimal lba) (canonical content)
  where
    regroup : (o w a b c : List ℕ) → (o ++ (((w ++ 32 ∷ a) ++ 32 ∷ b) ++ 32 ∷ c)) ++ 10 ∷ [] ≡ o ++ (w ++ 32 ∷ (a ++ 32 ∷ (b ++ 32 ∷ (c ++ 10 ∷ []))))
    regroup o w a b c = simp append_assoc
