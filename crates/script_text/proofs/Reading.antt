-- A line that has a row, and whose words are not of the row's shape.
use Rattle.std.proofs.Common.{◌≡◌, ◌≤◌, ◌-◌, ℕ, suc, nat_lt, true, false, List, [], ◌∷◌, take, drop, length, get_or, Some, Err, refl, sym, subst, arith}
use Rattle.std.specs.List.{list_all}
use Rattle.std.proofs.lemmas.List.{take_all}
use Rattle.std.proofs.lemmas.Bool.Decides.{nat_tests}
use Rattle.script_words.specs.declared.fault.LineFault.TheVariants as faults
use Rattle.script_text.specs.declared.row.Row.{Row}
use Rattle.script_words.specs.Words.{shown, words}
use Rattle.script_text.specs.Rows.{row_of, has_shape}
use Rattle.script_text.specs.Line.{reading, is_silent, is_printable, is_out_of_place}
use denote.Ref.{Bor}

-- a line that is neither too long nor silent, and whose bytes are printable
pub record Speaks (line : List ℕ) : Type 0 where
  pub short : length line ≤ 8192
  pub heard : is_silent line ≡ false
  pub printable : list_all is_printable line ≡ true

told_shape : (line : List ℕ) (n : ℕ) (r : Row) (k : List ℕ) (ws : List (List ℕ)) → Speaks line → words line ≡ k ∷ ws → row_of k ≡ Some r → is_out_of_place n r ≡ false → has_shape r n ws ≡ false → reading line n ≡ Err faults.Shape
told_shape line n r k ws speaks parts row place shape =
    let short : nat_lt 8192 (length line) ≡ false = grind (arith, nat_tests) in
    let heard = speaks.heard in
    let printable = speaks.printable in
    rw (short, heard, printable, parts, row, place, shape) refl

pub shape_fails : (line : List ℕ) (n : ℕ) (r : Row) (lent : List (Bor (List ℕ))) (d : Bor (List ℕ)) → Speaks line → shown lent ≡ words line → 1 ≤ length lent → row_of (get_or lent 0 d).now ≡ Some r → is_out_of_place n r ≡ false → has_shape r n (shown (take (length lent - 1) (drop 1 lent))) ≡ false → reading line n ≡ Err faults.Shape
shape_fails line n r [] d speaks parts some row place shape = absurd (omega arith)
shape_fails line n r (word ∷ lent) d speaks parts some row place shape =
    let all : take (suc (length lent) - 1) lent ≡ lent = take_all (suc (length lent) - 1) lent (omega arith) in
    told_shape line n r word.now (shown lent) speaks (sym parts) row place (subst (λ ws. has_shape r n (shown ws) ≡ false) all shape)
