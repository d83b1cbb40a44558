-- The words of a list that is read from its front.
use Rattle.std.proofs.Common.{◌≡◌, ◌<◌, ◌+◌, ◌&&◌, ◌++◌, ◌==◌, ◌%◌, nat_le, length-append, ℕ, suc, Bool, true, false, cond, List, [], ◌∷◌, map, take, length, get_or, append-nil, append_assoc, Ok, Err, refl, sym, ap, ◌∙◌, subst, arith}
use Rattle.std.specs.List.{list_all, flat_map}
use Rattle.std.proofs.lemmas.List.{get_or-map, take_more}
use Rattle.std.proofs.lemmas.Bool.Decides.{nat_tests}
use Rattle.std.proofs.lemmas.List.Folds.{list_all_more, list_all_at, length-flat_map-take}
use Rattle.script_words.specs.declared.fault.LineFault.{LineFault}
use Rattle.script_words.specs.declared.fault.LineFault.TheVariants as faults
use Rattle.script_words.specs.Words.{shown, value, is_between, number, numbers}
use Rattle.script_words.specs.Payload.{has_count, piece_bytes, is_whole, bytes_of}
use denote.Ref.{Bor}

-- the word at a place
pub word_shown : (parts : List (Bor (List ℕ))) (i : ℕ) (d : Bor (List ℕ)) → i < length parts → get_or (shown parts) i [] ≡ (get_or parts i d).now
word_shown parts i d h = get_or-map (λ word. word.now) parts i d [] h

length_shown : (parts : List (Bor (List ℕ))) → length (shown parts) ≡ length parts
length_shown [] = refl
length_shown (part ∷ parts) = ap suc (length_shown parts)

pub all_more : (test : List ℕ → Bool) (parts : List (Bor (List ℕ))) (i : ℕ) (d : Bor (List ℕ)) → i < length parts → list_all test (take i (shown parts)) ≡ true → test (get_or parts i d).now ≡ true → list_all test (take (i + 1) (shown parts)) ≡ true
all_more test parts i d within h k =
    list_all_more test (shown parts) i [] (subst (λ n. i < n) (sym (length_shown parts)) within)
    ∙ rw (h, word_shown parts i d within, k) refl

pub none_past : (test : List ℕ → Bool) (parts : List (Bor (List ℕ))) (i : ℕ) (d : Bor (List ℕ)) → i < length parts → test (get_or parts i d).now ≡ false → list_all test (shown parts) ≡ false
none_past test parts i d within h =
    list_all_at test (shown parts) i [] (subst (λ n. i < n) (sym (length_shown parts)) within) (ap test (word_shown parts i d within) ∙ h)

taken_more : (parts : List (Bor (List ℕ))) (i : ℕ) (d : Bor (List ℕ)) → i < length parts → take (i + 1) (shown parts) ≡ take i (shown parts) ++ (get_or parts i d).now ∷ []
taken_more parts i d within =
    take_more (shown parts) i [] (subst (λ n. i < n) (sym (length_shown parts)) within) ∙ rw (word_shown parts i d within) refl

map-push : (f : List ℕ → ℕ) (ws : List (List ℕ)) (word : List ℕ) → map f (ws ++ word ∷ []) ≡ map f ws ++ f word ∷ []
map-push f [] word = refl
map-push f (w ∷ ws) word = ap (λ ns. f w ∷ ns) (map-push f ws word)

pub map_more : (f : List ℕ → ℕ) (parts : List (Bor (List ℕ))) (i : ℕ) (d : Bor (List ℕ)) → i < length parts → map f (take (i + 1) (shown parts)) ≡ map f (take i (shown parts)) ++ f (get_or parts i d).now ∷ []
map_more f parts i d within = ap (map f) (taken_more parts i d within) ∙ map-push f (take i (shown parts)) (get_or parts i d).now

flat_map-push : (f : List ℕ → List ℕ) (ws : List (List ℕ)) (word : List ℕ) → flat_map f (ws ++ word ∷ []) ≡ flat_map f ws ++ f word
flat_map-push f [] word = append-nil (f word)
flat_map-push f (w ∷ ws) word = ap (λ ns. f w ++ ns) (flat_map-push f ws word) ∙ sym (append_assoc (f w) (flat_map f ws) (f word))

pub flat_map_more : (f : List ℕ → List ℕ) (parts : List (Bor (List ℕ))) (i : ℕ) (d : Bor (List ℕ)) → i < length parts → flat_map f (take (i + 1) (shown parts)) ≡ flat_map f (take i (shown parts)) ++ f (get_or parts i d).now
flat_map_more f parts i d within = ap (flat_map f) (taken_more parts i d within) ∙ flat_map-push f (take i (shown parts)) (get_or parts i d).now

-- a number that fails, fails all
number_fails : (t : Bool) (n : ℕ) (fault : LineFault) → cond t (Ok n) (Err faults.Range) ≡ Err fault → (t ≡ false) × (fault ≡ faults.Range)
number_fails true n fault e = cc e
number_fails false n fault e = (refl, cc e)

number_is : (t : Bool) (n m : ℕ) → cond t (Ok n) (Err faults.Range) ≡ Ok m → (t ≡ true) × (m ≡ n)
number_is true n m e = (refl, cc e)
number_is false n m e = cc e

pub numbers_failed : (low high : ℕ) (parts : List (Bor (List ℕ))) (i : ℕ) (d : Bor (List ℕ)) (fault : LineFault) → i < length parts → number low high (get_or parts i d).now ≡ Err fault → numbers low high (shown parts) ≡ Err fault
numbers_failed low high parts i d fault within e =
    let failed = number_fails (is_between low high (get_or parts i d).now) (value (get_or parts i d).now) fault e in
    rw (none_past (is_between low high) parts i d within failed.0, failed.1) refl

pub numbers_more : (low high : ℕ) (parts : List (Bor (List ℕ))) (i : ℕ) (d : Bor (List ℕ)) (n : ℕ) → i < length parts → number low high (get_or parts i d).now ≡ Ok n → list_all (is_between low high) (take i (shown parts)) ≡ true → list_all (is_between low high) (take (i + 1) (shown parts)) ≡ true
numbers_more low high parts i d n within e h =
    all_more (is_between low high) parts i d within h (number_is (is_between low high (get_or parts i d).now) (value (get_or parts i d).now) n e).0

pub values_more : (low high : ℕ) (parts : List (Bor (List ℕ))) (i : ℕ) (d : Bor (List ℕ)) (n : ℕ) → i < length parts → number low high (get_or parts i d).now ≡ Ok n → map value (take (i + 1) (shown parts)) ≡ map value (take i (shown parts)) ++ n ∷ []
values_more low high parts i d n within e =
    map_more value parts i d within ∙ rw (number_is (is_between low high (get_or parts i d).now) (value (get_or parts i d).now) n e).1 refl

-- a piece without its count, and pieces that are too many so far
pub uncounted : (parts : List (Bor (List ℕ))) (i : ℕ) (d : Bor (List ℕ)) → i < length parts → has_count (get_or parts i d).now ≡ false → bytes_of (shown parts) ≡ Err faults.Range
uncounted parts i d within h = rw (none_past has_count parts i d within h) refl

no_and : (a b : Bool) → b ≡ false → (a && b) ≡ false
no_and true b h = h
no_and false b h = refl

too_long : (len : ℕ) → 16384 < len → is_whole len ≡ false
too_long len h = no_and ((len % 512 == 0) && nat_le 512 len) (nat_le len 16384) (grind (arith, nat_tests))

pub too_many : (parts : List (Bor (List ℕ))) (i : ℕ) (d : Bor (List ℕ)) → i < length parts → 16384 < length (flat_map piece_bytes (take i (shown parts)) ++ piece_bytes (get_or parts i d).now) → bytes_of (shown parts) ≡ Err faults.Range
too_many parts i d within h =
    let room = length-flat_map-take piece_bytes (shown parts) i [] (subst (λ n. i < n) (sym (length_shown parts)) within) in
    let here : length (piece_bytes (get_or (shown parts) i [])) ≡ length (piece_bytes (get_or parts i d).now) = ap (λ word. length (piece_bytes word)) (word_shown parts i d within) in
    let long : 16384 < length (flat_map piece_bytes (shown parts)) = omega (arith, length-append (flat_map piece_bytes (take i (shown parts))) (piece_bytes (get_or parts i d).now)) in
    rw (no_and (list_all has_count (shown parts)) (is_whole (length (flat_map piece_bytes (shown parts)))) (too_long _ long)) refl
