-- Writing in two pieces, one behind the other.
use Rattle.std.proofs.Common.{arith, ◌≡◌, sym, ◌∙◌, ap, ℕ, ◌+◌, ◌-◌, ◌≤◌, List, [], ◌∷◌, ◌++◌, length, take, drop, get_or, append_assoc, length-drop, length-append}
use Rattle.std.specs.List.{flat_map}
use Rattle.std.proofs.Math.Seq.{drop-append_seam, take-append_seam}
use Rattle.std.proofs.lemmas.List.{append-nil, drop-drop, drop_all, take_rest, take_all}
use borrow.Rule.Slice.PartMut.{put_mid}

front_is : (out1 front back : List ℕ) (n : ℕ) → length front ≡ n → out1 ≡ front ++ back → take n out1 ≡ front
front_is out1 front back n h e = ap (λ (l : List ℕ). take n l) e ∙ ap (λ (k : ℕ). take k (front ++ back)) (sym h) ∙ take-append_seam front back

back_is : (out1 front back : List ℕ) (n : ℕ) → length front ≡ n → out1 ≡ front ++ back → drop n out1 ≡ back
back_is out1 front back n h e = ap (λ (l : List ℕ). drop n l) e ∙ ap (λ (k : ℕ). drop k (front ++ back)) (sym h) ∙ drop-append_seam front back

-- A middle of so many bytes behind what was written at the front.
pub middle_written : (out out1 front ys : List ℕ) (n size : ℕ) → length front ≡ n → out1 ≡ front ++ drop n out → put_mid n size out1 ys ≡ front ++ (ys ++ drop (n + size) out)
middle_written out out1 front ys n size h e =
    let past : drop size (drop n out1) ≡ drop (n + size) out =
    ap (λ (l : List ℕ). drop size l) (back_is out1 front (drop n out) n h e) ∙ drop-drop size n out in
    ap (λ (l : List ℕ). l ++ (ys ++ drop size (drop n out1))) (front_is out1 front (drop n out) n h e)
    ∙ ap (λ (l : List ℕ). front ++ (ys ++ l)) past

-- The rest is written anew behind what was written at the front.
pub rest_written : (out out1 out2 front tail : List ℕ) (n m whole : ℕ) → length front ≡ n → out1 ≡ front ++ drop n out → out2 ≡ tail ++ drop m (take (length out1 - n) (drop n out1)) → n ≤ length out → n + m ≡ whole
    → put_mid n (length out1 - n) out1 out2 ≡ (front ++ tail) ++ drop whole out
rest_written out out1 out2 front tail n m whole h e f fits w =
    let same : length out1 ≡ length out = ap length e ∙ length-append front (drop n out) ∙ omega (arith, length-drop n out) in
    let ends : drop (n + (length out1 - n)) out ≡ [] = drop_all (n + (length out1 - n)) out (omega arith) in
    let rest : take (length out1 - n) (drop n out1) ≡ drop n out = take_rest out1 n ∙ back_is out1 front (drop n out) n h e in
    let behind : drop m (drop n out) ≡ drop whole out = drop-drop m n out ∙ ap (λ (k : ℕ). drop k out) w in
    middle_written out out1 front out2 n (length out1 - n) h e
    ∙ ap (λ (l : List ℕ). front ++ (out2 ++ l)) ends
    ∙ ap (λ (l : List ℕ). front ++ l) (append-nil out2 ∙ f ∙ ap (λ (l : List ℕ). tail ++ drop m l) rest ∙ ap (λ (l : List ℕ). tail ++ l) behind)
    ∙ sym (append_assoc front tail (drop whole out))

-- What is written for a list is that of its first element, then that of the rest.
pub first_apart : {X : Type 0} (f : X → List ℕ) (xs : List X) (other : X) → 1 ≤ length xs → f (get_or xs 0 other) ++ flat_map f (take (length xs - 1) (drop 1 xs)) ≡ flat_map f xs
first_apart f [] other h = absurd (omega arith)
first_apart f (x ∷ xs) other h = ap (λ (l : List _). f x ++ flat_map f l) (take_all _ xs (omega arith))
