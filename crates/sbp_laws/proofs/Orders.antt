-- The order law, read in the order of time.
use Rattle.std.proofs.Common.{◌≡◌, ℕ, suc, ◌<◌, ◌≤◌, Bool, true, false, List, [], ◌∷◌, ◌++◌, refl, ap, ◌∙◌, subst, arith}
use Rattle.std.specs.Prelude.{◌==◌, if◌then◌else◌, Some}
use Rattle.sbp_base.specs.Update.{upd2}
use Rattle.sbp_journal.specs.Run.{Moment, said}
use Rattle.sbp_laws.specs.Terms.{appends, ends}
use Rattle.sbp_laws.specs.OrderLaw.{OrderLaw, EndInTurn, ended_numbers, appended_numbers, numbers_below}
use Rattle.sbp_journal.specs.declared.note.Note.TheVariants.{Append, Ended}

-- What the reading stands on: an append has the number of the appends before it, an end that of the ends before it, and its ORB was
-- appended.
abbrev InTurn : (ℕ → Bool) → List Moment → Type 0
InTurn wild [] = Unit {0}
InTurn wild (said (Append i n k cdb buffer) ∷ past) = (k ≡ appends past i n) × InTurn wild past
InTurn wild (said (Ended i (Some n) (Some k) status) ∷ past) = (wild i ≡ false → (k ≡ ends past i n) × (k < appends past i n)) × InTurn wild past
InTurn wild (_ ∷ past) = InTurn wild past

by_order : (wild : ℕ → Bool) (past : List Moment) → OrderLaw wild past → InTurn wild past
by_order wild [] law = tt
by_order wild (said (Append i n k cdb buffer) ∷ past) law = (law.0.number, by_order wild past law.1)
by_order wild (said (Ended i (Some n) (Some k) status) ∷ past) law =
    ((λ own. let next = law.0 own in (next.number, next.appended)), by_order wild past law.1)
by_order wild (_ ∷ past) law = by_order wild past law.1

-- two terms that change at one list keep what ties them at the initiators that count, where their new values keep it
module _ (wild : ℕ → Bool) where
  upd2-ties : {A B : Type 0} (R : A → B → Type 0) (f : ℕ → ℕ → A) (g : ℕ → ℕ → B) (i n : ℕ) (v : A) (w : B) →
      ((j m : ℕ) → wild j ≡ false → R (f j m) (g j m)) → (wild i ≡ false → R v w) → (j m : ℕ) → wild j ≡ false → R (upd2 f i n v j m) (upd2 g i n w j m)
  upd2-ties R f g i n v w each here j m own = by_tests (j == i) (m == n) refl
    where
      by_tests : (b c : Bool) → (j == i) ≡ b → R (if b then (if c then v else f j m) else f j m) (if b then (if c then w else g j m) else g j m)
      by_tests true true e = let same : j ≡ i = grind arith in here (subst (λ x. wild x ≡ false) same own)
      by_tests true false e = each j m own
      by_tests false c e = each j m own

  -- a list of numbers is that of the numbers below a count
  abbrev IsBelow : List ℕ → ℕ → Type 0
  IsBelow numbers count = numbers ≡ numbers_below count

  one_more : (numbers : List ℕ) (count k : ℕ) → numbers ≡ numbers_below count → k ≡ count → numbers ++ k ∷ [] ≡ numbers_below (suc count)
  one_more numbers count k e h = ap (λ ks. ks ++ k ∷ []) e ∙ ap (λ j. numbers_below count ++ j ∷ []) h

  appended_below : (past : List Moment) → InTurn wild past → (i n : ℕ) → appended_numbers past i n ≡ numbers_below (appends past i n)
  appended_below [] law = λ i n. refl
  appended_below (said (Append i n k cdb buffer) ∷ past) law = all_ties (appended_numbers past) (appends past) i n _ _ (appended_below past law.1)
      (one_more (appended_numbers past i n) (appends past i n) k (appended_below past law.1 i n) law.0)
    where
      all_ties : (f : ℕ → ℕ → List ℕ) (g : ℕ → ℕ → ℕ) (i n : ℕ) (v : List ℕ) (w : ℕ) →
          ((j m : ℕ) → f j m ≡ numbers_below (g j m)) → v ≡ numbers_below w → (j m : ℕ) → upd2 f i n v j m ≡ numbers_below (upd2 g i n w j m)
      all_ties f g i n v w each here j m = by_tests (j == i) (m == n)
        where
          by_tests : (b c : Bool) → (if b then (if c then v else f j m) else f j m) ≡ numbers_below (if b then (if c then w else g j m) else g j m)
          by_tests true true = here
          by_tests true false = each j m
          by_tests false c = each j m
  appended_below (said (Ended i (Some n) (Some k) status) ∷ past) law = appended_below past law.1
  appended_below (_ ∷ past) law = appended_below past law

  ended_below : (past : List Moment) → InTurn wild past → (i n : ℕ) → wild i ≡ false → ended_numbers past i n ≡ numbers_below (ends past i n)
  ended_below [] law = λ i n own. refl
  ended_below (said (Append i n k cdb buffer) ∷ past) law = ended_below past law.1
  ended_below (said (Ended i (Some n) (Some k) status) ∷ past) law =
      upd2-ties IsBelow (ended_numbers past) (ends past) i n _ _ (ended_below past law.1)
      (λ own. one_more (ended_numbers past i n) (ends past i n) k (ended_below past law.1 i n own) (law.0 own).0)
  ended_below (_ ∷ past) law = ended_below past law

  -- an append makes room for an end, and an end takes it
  more_room : (f : ℕ → ℕ → ℕ) (g : ℕ → ℕ → ℕ) (i n : ℕ) → ((j m : ℕ) → wild j ≡ false → f j m ≤ g j m) → (j m : ℕ) → wild j ≡ false → f j m ≤ upd2 g i n (suc (g i n)) j m
  more_room f g i n each j m own = by_tests (j == i) (m == n) refl refl
    where
      by_tests : (b c : Bool) → (j == i) ≡ b → (m == n) ≡ c → f j m ≤ (if b then (if c then suc (g i n) else g j m) else g j m)
      by_tests true true e h = let fits = each j m own in let same : g j m ≡ g i n = grind arith in omega (arith, same)
      by_tests true false e h = each j m own
      by_tests false c e h = each j m own

  less_room : (f : ℕ → ℕ → ℕ) (g : ℕ → ℕ → ℕ) (i n : ℕ) → (wild i ≡ false → f i n < g i n) → ((j m : ℕ) → wild j ≡ false → f j m ≤ g j m) → (j m : ℕ) → wild j ≡ false → upd2 f i n (suc (f i n)) j m ≤ g j m
  less_room f g i n below each j m own = by_tests (j == i) (m == n) refl refl
    where
      by_tests : (b c : Bool) → (j == i) ≡ b → (m == n) ≡ c → (if b then (if c then suc (f i n) else f j m) else f j m) ≤ g j m
      by_tests true true e h =
          let at : j ≡ i = grind arith in let same : g j m ≡ g i n = grind arith in
          let room = below (subst (λ x. wild x ≡ false) at own) in omega (arith, same)
      by_tests true false e h = each j m own
      by_tests false c e h = each j m own

  ended_front : (past : List Moment) → InTurn wild past → (i n : ℕ) → wild i ≡ false → ends past i n ≤ appends past i n
  ended_front [] law = λ i n own. omega arith
  ended_front (said (Append i n k cdb buffer) ∷ past) law = more_room (ends past) (appends past) i n (ended_front past law.1)
  ended_front (said (Ended i (Some n) (Some k) status) ∷ past) law =
      less_room (ends past) (appends past) i n (λ own. let room = (law.0 own).1 in let number = (law.0 own).0 in omega arith) (ended_front past law.1)
  ended_front (_ ∷ past) law = ended_front past law

  read_in_time : (past : List Moment) → InTurn wild past → EndInTurn wild past
  read_in_time past law = record { appended = appended_below past law; ended = ended_below past law; front = ended_front past law }

pub ends_in_order : (wild : ℕ → Bool) (past : List Moment) → OrderLaw wild past → EndInTurn wild past
ends_in_order wild past law = read_in_time wild past (by_order wild past law)
