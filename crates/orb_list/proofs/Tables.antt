-- A page table that is written is read as its segments.
use Rattle.std.proofs.Common.{arith, ◌≡◌, refl, sym, ◌∙◌, ap, ℕ, ◌+◌, ◌-◌, ◌*◌, ◌/◌, ◌%◌, ◌^◌, ◌<◌, ◌≤◌, sum, List, [], ◌∷◌, ◌++◌, length, drop, append_assoc, length-append}
use Rattle.std.proofs.Math.Seq.{drop-append_seam}
use Rattle.std.proofs.lemmas.List.{drop-drop}
use Rattle.std.proofs.lemmas.List.Sums.{sum_by-cons}
use Rattle.std.specs.List.{AllByRecursion}
use Rattle.byteorder.specs.Endian.{big_bytes, big_number}
use Rattle.sbp_base.specs.Quadlets.{quad}
use Rattle.bus_memory.specs.declared.window.Window.TheVariants as windows
use Rattle.bus_memory.specs.Windows.{start}
use Rattle.page_table.specs.declared.segment.Segment.{Segment}
use Rattle.page_table.specs.Elements.{element, elements_in, elements_from}
use Rattle.orb_list.specs.Layout.{behind, table_bytes}
use Rattle.orb_list.specs.Tables.{segments_of, TableLaw}
use Rattle.orb_list.proofs.Held.{table_length}

word_back : (n : ℕ) (rest : List ℕ) → n < 2 ^ 32 → big_number 4 (big_bytes 4 n ++ rest) ≡ n
word_back n rest h = omega arith

past : (pre rest : List ℕ) (n : ℕ) → length pre ≡ n → drop n (pre ++ rest) ≡ rest
past pre rest n e = ap (λ (k : ℕ). drop k (pre ++ rest)) (sym e) ∙ drop-append_seam pre rest

element_here : (pre rest : List ℕ) (n count base : ℕ) → length pre ≡ 8 * n → count < 2 ^ 16 → base < 2 ^ 32 → element (pre ++ (big_bytes 4 (count * 2 ^ 16) ++ (big_bytes 4 base ++ rest))) n ≡ record { base = base; length = count }
element_here pre rest n count base e c b =
    let bytes = pre ++ (big_bytes 4 (count * 2 ^ 16) ++ (big_bytes 4 base ++ rest)) in
    let first : quad bytes (8 * n) ≡ count * 2 ^ 16 =
    ap (λ (l : List ℕ). big_number 4 l) (past pre (big_bytes 4 (count * 2 ^ 16) ++ (big_bytes 4 base ++ rest)) (8 * n) e) ∙ word_back (count * 2 ^ 16) (big_bytes 4 base ++ rest) (omega arith) in
    let second : quad bytes (8 * n + 4) ≡ base =
    ap (λ (l : List ℕ). big_number 4 l) (sym (drop-drop 4 (8 * n) bytes) ∙ ap (λ (l : List ℕ). drop 4 l) (past pre (big_bytes 4 (count * 2 ^ 16) ++ (big_bytes 4 base ++ rest)) (8 * n) e)) ∙ word_back base rest b in
    let whole : quad bytes (8 * n) % 2 ^ 16 * 2 ^ 32 + quad bytes (8 * n + 4) ≡ base = omega arith in
    let size : quad bytes (8 * n) / 2 ^ 16 ≡ count = omega arith in
    ap (λ (i : ℕ). record { base = i; length = quad bytes (8 * n) / 2 ^ 16 }) whole ∙ ap (λ (i : ℕ). record { base = base; length = i }) size

joined : (pre x y rest : List ℕ) → (pre ++ (x ++ y)) ++ rest ≡ pre ++ (x ++ (y ++ rest))
joined pre x y rest = append_assoc pre (x ++ y) rest ∙ ap (λ (l : List ℕ). pre ++ l) (append_assoc x y rest)

table_read : (k at n : ℕ) (pre segments : List ℕ) → k < 32 → length pre ≡ 8 * n → AllByRecursion (λ count. count < 2 ^ 16) segments → at + sum segments + 19 * length segments ≤ 32768 → elements_in (length segments) n (pre ++ table_bytes k at segments) ≡ segments_of k at segments
table_read k at n pre [] s e a h = refl
table_read k at n pre (count ∷ rest) s e a h =
    let x = big_bytes 4 (count * 2 ^ 16) in
    let y = big_bytes 4 (start (windows.Buffer k) + at) in
    let c : count < 2 ^ 16 = a.0 in
    let total : sum (count ∷ rest) ≡ count + sum rest = sum_by-cons (λ v. v) count rest in
    let longer : length (pre ++ (x ++ y)) ≡ 8 * (n + 1) = length-append pre (x ++ y) ∙ omega arith in
    ap (λ (head : Segment). head ∷ elements_in (length rest) (n + 1) (pre ++ table_bytes k at (count ∷ rest))) (element_here pre (table_bytes k (behind at count) rest) n count (start (windows.Buffer k) + at) e c (omega arith))
    ∙ ap (λ (l : List ℕ). record { base = start (windows.Buffer k) + at; length = count } ∷ elements_in (length rest) (n + 1) l) (sym (joined pre x y (table_bytes k (behind at count) rest)))
    ∙ ap (λ (l : List Segment). record { base = start (windows.Buffer k) + at; length = count } ∷ l) (table_read k (behind at count) (n + 1) (pre ++ (x ++ y)) rest s longer a.1 (omega arith))

pub table_law : TableLaw
unfolding elements_from
table_law k segments s a h =
    let n : length (table_bytes k 0 segments) / 8 - 0 ≡ length segments = let l = table_length k 0 segments in omega arith in
    ap (λ (c : ℕ). elements_in c 0 (table_bytes k 0 segments)) n ∙ table_read k 0 0 [] segments s refl a (omega arith)
