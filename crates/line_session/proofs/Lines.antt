-- The lines of a text that grows by pieces.
use Rattle.std.proofs.Common.{◌≡◌, ◌∙◌, refl, sym, ap, subst, ℕ, ◌+◌, ◌-◌, ◌<◌, ◌==◌, ◌&&◌, ◌||◌, inl, inr, nat_lt, not, Bool, true, false, if◌then◌else◌, cond, List, [], ◌∷◌, ◌++◌, take, length, map, slice_index, append_assoc, append-nil, length-append, length-take-le, arith}
use Rattle.std.specs.List.{slice_split, onto_first}
use Rattle.std.specs.Str.Lines.{lines, lines_of_parts, strip_carriage_return}
use Rattle.std.proofs.lemmas.Bool.{ltb-true, lt-ltb, eqb-true, or_cases, and_parts, not-true, false≢true}
use Rattle.std.proofs.lemmas.List.Splits.{length-slice_split}
use Rattle.line_session.specs.Lines.{NoFeed, IsWhole, is_surely_long}

-- the parts between line feeds
abbrev parts_of : List ℕ → List (List ℕ)
parts_of bytes = slice_split (λ byte. byte == 10) bytes

onto_first-append : (x : ℕ) (ps qs : List (List ℕ)) → 0 < length ps → onto_first x (ps ++ qs) ≡ onto_first x ps ++ qs
onto_first-append x [] qs l = absurd (omega arith)
onto_first-append x (p ∷ ps) qs l = refl

cond_onto_first-append : (b : Bool) (x : ℕ) (ps qs : List (List ℕ)) → 0 < length ps → cond b ([] ∷ (ps ++ qs)) (onto_first x (ps ++ qs)) ≡ cond b ([] ∷ ps) (onto_first x ps) ++ qs
cond_onto_first-append true x ps qs l = refl
cond_onto_first-append false x ps qs l = onto_first-append x ps qs l

some_parts : (bytes : List ℕ) → 0 < length (parts_of bytes)
some_parts bytes = omega (arith, length-slice_split (λ byte. byte == 10) bytes)

-- at a line feed the parts fall apart
parts-feed : (front more : List ℕ) → parts_of (front ++ 10 ∷ more) ≡ parts_of front ++ parts_of more
parts-feed [] more = refl
parts-feed (x ∷ front) more =
    ap (λ ps. cond (x == 10) ([] ∷ ps) (onto_first x ps)) (parts-feed front more)
    ∙ cond_onto_first-append (x == 10) x (parts_of front) (parts_of more) (some_parts front)

lines_of_parts-append : (ps : List (List ℕ)) (q : List ℕ) (qs : List (List ℕ)) → lines_of_parts (ps ++ q ∷ qs) ≡ map strip_carriage_return ps ++ lines_of_parts (q ∷ qs)
lines_of_parts-append [] q qs = refl
lines_of_parts-append (p ∷ []) q qs = refl
lines_of_parts-append (p ∷ next ∷ ps) q qs = ap (λ ls. strip_carriage_return p ∷ ls) (lines_of_parts-append (next ∷ ps) q qs)

lines_of_parts-onto : (ps qs : List (List ℕ)) → 0 < length qs → lines_of_parts (ps ++ qs) ≡ map strip_carriage_return ps ++ lines_of_parts qs
lines_of_parts-onto ps [] l = absurd (omega arith)
lines_of_parts-onto ps (q ∷ qs) l = lines_of_parts-append ps q qs

lines-feed : (front more : List ℕ) → lines (front ++ 10 ∷ more) ≡ map strip_carriage_return (parts_of front) ++ lines more
lines-feed front more = ap lines_of_parts (parts-feed front more) ∙ lines_of_parts-onto (parts_of front) (parts_of more) (some_parts more)

-- the lines of whole lines and of what follows them
pub lines-whole : (whole more : List ℕ) → IsWhole whole → lines (whole ++ more) ≡ lines whole ++ lines more
lines-whole whole more (inl e) = rw e refl
lines-whole whole more (inr (front, e)) = rw (e, append_assoc, lines-feed front more, lines-feed front []) (rw append-nil refl)

-- before the first line feed all is in the first part
abbrev onto_front : List ℕ → List (List ℕ) → List (List ℕ)
onto_front rest [] = rest ∷ []
onto_front rest (p ∷ ps) = (rest ++ p) ∷ ps

onto_first-front : (x : ℕ) (rest : List ℕ) (ps : List (List ℕ)) → onto_first x (onto_front rest ps) ≡ onto_front (x ∷ rest) ps
onto_first-front x rest [] = refl
onto_first-front x rest (p ∷ ps) = refl

onto_front-none : (ps : List (List ℕ)) → 0 < length ps → ps ≡ onto_front [] ps
onto_front-none [] l = absurd (omega arith)
onto_front-none (p ∷ ps) l = refl

parts-no_feed : (rest more : List ℕ) → NoFeed rest → parts_of (rest ++ more) ≡ onto_front rest (parts_of more)
parts-no_feed [] more h = onto_front-none (parts_of more) (some_parts more)
parts-no_feed (x ∷ rest) more (e, h) =
    ap (λ b. cond b ([] ∷ parts_of (rest ++ more)) (onto_first x (parts_of (rest ++ more)))) e
    ∙ ap (onto_first x) (parts-no_feed rest more h)
    ∙ onto_first-front x rest (parts_of more)

parts-one : (rest : List ℕ) → NoFeed rest → parts_of rest ≡ rest ∷ []
parts-one [] h = refl
parts-one (x ∷ rest) (e, h) = ap (λ b. cond b ([] ∷ parts_of rest) (onto_first x (parts_of rest))) e ∙ ap (onto_first x) (parts-one rest h)

-- one line with its line feed
pub lines-one : (rest : List ℕ) → NoFeed rest → lines (rest ++ 10 ∷ []) ≡ strip_carriage_return rest ∷ []
lines-one rest h = lines-feed rest [] ∙ ap (λ ps. map strip_carriage_return ps ++ []) (parts-one rest h)

-- a last line without a line feed keeps its carriage return
pub lines-last : (rest : List ℕ) → NoFeed rest → lines rest ≡ (if length rest == 0 then [] else rest ∷ [])
lines-last rest h = ap lines_of_parts (parts-one rest h)

-- the line of a script that ends with whole lines has the next number
pub lines-count : (whole rest : List ℕ) → IsWhole whole → NoFeed rest → length (lines (whole ++ (rest ++ 10 ∷ []))) ≡ length (lines whole) + 1
lines-count whole rest w h = ap length (lines-whole whole (rest ++ 10 ∷ []) w) ∙ length-append (lines whole) _ ∙ ap (λ ls. length (lines whole) + length ls) (lines-one rest h)

pub whole-line : (whole rest : List ℕ) → IsWhole (whole ++ (rest ++ 10 ∷ []))
whole-line whole rest = inr (whole ++ rest, sym (append_assoc whole rest (10 ∷ [])))

pub no_feed-append : (xs ys : List ℕ) → NoFeed xs → NoFeed ys → NoFeed (xs ++ ys)
no_feed-append [] ys h k = k
no_feed-append (x ∷ xs) ys (e, h) k = (e, no_feed-append xs ys h k)

pub lines-one_more : (rest more : List ℕ) → NoFeed rest → lines (rest ++ 10 ∷ more) ≡ strip_carriage_return rest ∷ lines more
lines-one_more rest more h = lines-feed rest more ∙ ap (λ ps. map strip_carriage_return ps ++ lines more) (parts-one rest h)

lines-last_cases : (rest : List ℕ) (b : Bool) → (length rest == 0) ≡ b → 0 < length rest → (if b then [] else rest ∷ []) ≡ rest ∷ []
lines-last_cases rest true e l = absurd (omega (arith, eqb-true (length rest) 0 e))
lines-last_cases rest false e l = refl

pub lines-last_some : (rest : List ℕ) → NoFeed rest → 0 < length rest → lines rest ≡ rest ∷ []
lines-last_some rest f l = lines-last rest f ∙ lines-last_cases rest (length rest == 0) refl l

-- ---- lines that are too long

pub surely_long-bytes : (rest : List ℕ) → is_surely_long rest ≡ true → 8192 < length rest
surely_long-bytes rest h = elim (or_cases (nat_lt 8193 (length rest)) _ h) [
  | inl e ↦ omega (arith, ltb-true 8193 (length rest) e)
  | inr e ↦ ltb-true 8192 (length rest) ((and_parts (nat_lt 8192 (length rest)) _ e).0)
]

surely_long-append : (rest more : List ℕ) → is_surely_long rest ≡ true → is_surely_long (rest ++ more) ≡ true
surely_long-append rest [] h = rw append-nil h
surely_long-append rest (x ∷ more) h =
    let l : 8193 < length (rest ++ x ∷ more) = omega (arith, length-append rest (x ∷ more), surely_long-bytes rest h) in
    ap (λ b. b || (nat_lt 8192 (length (rest ++ x ∷ more)) && not (slice_index (rest ++ x ∷ more) (length (rest ++ x ∷ more) - 1) == 13))) (lt-ltb 8193 (length (rest ++ x ∷ more)) l)

stripped_cases : (line : List ℕ) (b : Bool) → 8192 < length line → (b ≡ true → 8193 < length line) → 8192 < length (if b then take (length line - 1) line else line)
stripped_cases line true l h = let m : 8193 < length line = h refl in omega (arith, length-take-le (length line - 1) line (omega arith))
stripped_cases line false l h = l

-- such a line is too long without its carriage return as well
surely_long-stripped : (line : List ℕ) → is_surely_long line ≡ true → 8192 < length (strip_carriage_return line)
surely_long-stripped line h = stripped_cases line (slice_index line (length line - 1) == 13) (surely_long-bytes line h)
    (λ e. elim (or_cases (nat_lt 8193 (length line)) _ h) [
      | inl l ↦ ltb-true 8193 (length line) l
      | inr k ↦ absurd (let f : (slice_index line (length line - 1) == 13) ≡ false = not-true _ ((and_parts (nat_lt 8192 (length line)) _ k).1) in false≢true (sym f ∙ e))
    ])

-- Lines of which the first one is too long.
pub record LongFirst (ls : List (List ℕ)) : Type 0 where
  pub line : List ℕ
  pub others : List (List ℕ)
  pub is : ls ≡ line ∷ others
  pub long : 8192 < length line

long_last : (line : List ℕ) (b : Bool) → is_surely_long line ≡ true → (length line == 0) ≡ b → LongFirst (if b then [] else line ∷ [])
long_last line true h e = absurd (omega (arith, surely_long-bytes line h, eqb-true (length line) 0 e))
long_last line false h e = record { line = line; others = []; is = refl; long = surely_long-bytes line h }

long_parts : (rest : List ℕ) (ps : List (List ℕ)) → is_surely_long rest ≡ true → LongFirst (lines_of_parts (onto_front rest ps))
long_parts rest [] h = long_last rest (length rest == 0) h refl
long_parts rest (p ∷ []) h = long_last (rest ++ p) (length (rest ++ p) == 0) (surely_long-append rest p h) refl
long_parts rest (p ∷ q ∷ ps) h =
    record { line = strip_carriage_return (rest ++ p); others = lines_of_parts (q ∷ ps); is = refl; long = surely_long-stripped (rest ++ p) (surely_long-append rest p h) }

pub long_first : (rest more : List ℕ) → NoFeed rest → is_surely_long rest ≡ true → LongFirst (lines (rest ++ more))
long_first rest more f h = subst (λ ps. LongFirst (lines_of_parts ps)) (sym (parts-no_feed rest more f)) (long_parts rest (parts_of more) h)
