-- What a world counts is what the ORBs of its history count, initiator by initiator, and so all together.
use Rattle.sbp_world.proofs.Words.Std.{if◌then◌else◌, slice_set, slice_index_or, ◌≡◌, arith, refl, sym, ◌∙◌, ap, subst, nat_eq, nat_tests, get_or-set_at, get_or-set_other, upd, upd2}
use Rattle.sbp_world.proofs.Words.Wire.{Moment, said, terms, CutCause, NoteBuffer, ListLoad, OrbLoad, Holder, append_step, capped, cut_step, drop_step, lists_weight, load_weight, new_load, of_initiator, orb_load, take_step, holder_at}
use Rattle.sbp_world.proofs.Words.Initiator.{StatusKind}
use Rattle.sbp_world.proofs.Words.Laws.{share_of, shares, TakenStatus, cmd_of, command_at, last_got, src_in, taken_at, is_cut, access_at, event_of}
use Rattle.std.specs.Prelude.{ℕ, zero, suc, ◌+◌, ◌^◌, ◌<◌, ◌≤◌, ◌&&◌, not, Bool, true, false, cond, List, [], ◌∷◌, ◌++◌, length, Option, Some, None}
use Rattle.std.proofs.lemmas.List.{length-set}
use Rattle.sbp_journal.specs.declared.note.Note.TheVariants as notes
use Rattle.sbp_world.proofs.Wire.Loaded.{capped_is, cut_none, cut_sum, load_sum, loads_apart, loads_in, loads_more, one_list, sum_apart, sum_more, sum_of, taken_one, taken_sum, two_lists, weights_are}
use Rattle.sbp_world.proofs.Wire.Paid.{IsNew, Paid, cut_paid, drops, same_paid, takes as takes_paid}
use Rattle.sbp_world.proofs.Wire.Shares.{Share, appended, cuts, is_appended, is_of, is_one, kept, ledger_of, share, sums, takes, total, total_more, without}
use Rattle.sbp_world.proofs.Common.{itself, equal_numbers, is_inside}
use Rattle.sbp_world.proofs.Wire.Latest.{differ_by}

-- ---- sums over a ledger
abbrev pub AreWithin : ℕ → List Share → Type 0
AreWithin n [] = Unit {0}
AreWithin n (one ∷ all) = (one.initiator < n) × AreWithin n all

within_more : (n : ℕ) (one two : List Share) → AreWithin n one → AreWithin n two → AreWithin n (one ++ two)
within_more n [] two h i = i
within_more n (x ∷ one) two h i = (h.0, within_more n one two h.1 i)

within_without : (n : ℕ) (test : Share → Bool) (all : List Share) → AreWithin n all → AreWithin n (without test all)
within_without n test [] h = tt
within_without n test (one ∷ all) h = by (within_without n test all h.1) (test one)
  where
    by : AreWithin n (without test all) → (b : Bool) → AreWithin n (cond b (without test all) (one ∷ without test all))
    by ih true = ih
    by ih false = (h.0, ih)

within_kept : (n : ℕ) (b : Bool) (one : Share) → one.initiator < n → AreWithin n (kept b one)
within_kept n true one l = (l, tt)
within_kept n false one l = tt

total_without : (test : Share → Bool) (all : List Share) → total (without test all) ≤ total all
total_without test [] = omega arith
total_without test (one ∷ all) = by (total_without test all) (test one)
  where
    by : total (without test all) ≤ total all → (b : Bool) → total (cond b (without test all) (one ∷ without test all)) ≤ one.weight + total all
    by ih true = omega (arith, ih)
    by ih false = omega (arith, ih)

kept_few : (b : Bool) (one : Share) → total (kept b one) ≤ one.weight
kept_few true one = omega arith
kept_few false one = omega arith

sum_few : (i : ℕ) (all : List Share) → sum_of i all ≤ total all
sum_few i [] = omega arith
sum_few i (one ∷ all) = by (sum_few i all) (nat_eq one.initiator i)
  where
    by : sum_of i all ≤ total all → (b : Bool) → cond b one.weight 0 + sum_of i all ≤ one.weight + total all
    by ih true = omega (arith, ih)
    by ih false = omega (arith, ih)

-- ---- the rows
abbrev pub row_at : List ListLoad → ℕ → ListLoad
row_at loads i = slice_index_or loads i new_load

set_is : (i : ℕ) (step : ListLoad → ListLoad) (loads : List ListLoad) → i < length loads → of_initiator i step loads ≡ slice_set loads i (step (row_at loads i))
set_is i step loads l = ap (λ b. cond b (slice_set loads i (step (row_at loads i))) loads) (is_inside i (length loads) l)

row_here : (i j : ℕ) (step : ListLoad → ListLoad) (loads : List ListLoad) → j ≡ i → i < length loads → row_at (of_initiator i step loads) j ≡ step (row_at loads i)
row_here i j step loads e l = ap (λ xs. row_at xs j) (set_is i step loads l) ∙ get_or-set_at loads i j (step (row_at loads i)) new_load e l

row_there : (i j : ℕ) (step : ListLoad → ListLoad) (loads : List ListLoad) → nat_eq j i ≡ false → i < length loads → row_at (of_initiator i step loads) j ≡ row_at loads j
row_there i j step loads e l =
    ap (λ xs. row_at xs j) (set_is i step loads l) ∙ get_or-set_other loads i j (step (row_at loads i)) new_load (λ f. differ_by j i e f)

size_same : (i : ℕ) (step : ListLoad → ListLoad) (loads : List ListLoad) → i < length loads → length (of_initiator i step loads) ≡ length loads
size_same i step loads l = ap length (set_is i step loads l) ∙ length-set loads i (step (row_at loads i))

-- ---- a world
abbrev pub Cuts : Type 0
Cuts = ℕ → ℕ → Bool

abbrev pub PaidIn : Cuts → (ℕ → ℕ → ℕ → Bool) → (ℕ → ℕ → ℕ → Option TakenStatus) → List Share → (i begun : ℕ) → Option (ℕ × ℕ) → ListLoad → Type 0
PaidIn cut born taken all i begun key row = Paid (cut i) (born i) (taken i) (λ m. loads_in i m all) (sum_of i all) begun key row

-- a place whose list is open has that list of its initiator
abbrev pub AreHeld : ℕ → (ℕ → ℕ) → List (Option Holder) → Type 0
AreHeld n begun places = (p list : ℕ) → (holder_at places p).list ≡ Some list → ((holder_at places p).initiator < n) × (list < begun (holder_at places p).initiator)

-- so many initiators, with how many lists each began, and its present list with its last ORB
pub record Counted (n : ℕ) (begun : ℕ → ℕ) (keys : ℕ → Option (ℕ × ℕ)) (most : ℕ) (cut : Cuts) (born : ℕ → ℕ → ℕ → Bool) (taken : ℕ → ℕ → ℕ → Option TakenStatus) (all : List Share) (places : List (Option Holder)) (loads : List ListLoad) : Type 0 where
  pub size : length loads ≡ n
  pub within : AreWithin n all
  pub few : total all ≤ most
  pub small : most < 2 ^ 64
  pub rows : (i : ℕ) → i < n → PaidIn cut born taken all i (begun i) (keys i) (row_at loads i)
  pub held : AreHeld n begun places

abbrev pub CountedAt : ℕ → (ℕ → ℕ) → (ℕ → Option (ℕ × ℕ)) → ℕ → List Moment → List (Option Holder) → List ListLoad → Type 0
CountedAt n begun keys most h places loads = Counted n begun keys most (is_cut h) (is_appended h) (taken_at h) (ledger_of h) places loads

-- what an ORB counts is no more
abbrev pub most_share : ℕ
most_share = 2 ^ 26

module _ (n : ℕ) (begun : ℕ → ℕ) (keys : ℕ → Option (ℕ × ℕ)) (most : ℕ) (h : List Moment) (places : List (Option Holder)) (loads : List ListLoad) (c : CountedAt n begun keys most h places loads) (i : ℕ) (inside : i < n) where
  abbrev so_far : List Share
  so_far = ledger_of h

  abbrev own : PaidIn (is_cut h) (is_appended h) (taken_at h) so_far i (begun i) (keys i) (row_at loads i)
  own = c.rows i inside

  here_inside : i < length loads
  here_inside = let s = c.size in omega (arith, s, inside)

  -- the rows of another step, by the own one and what it is to the others
  module _ (step : ListLoad → ListLoad) (begun_now : ℕ) (key_now : Option (ℕ × ℕ)) (cut_now : Cuts) (born_now : ℕ → ℕ → ℕ → Bool) (taken_now : ℕ → ℕ → ℕ → Option TakenStatus) (all_now : List Share) where
    rows_now : PaidIn cut_now born_now taken_now all_now i begun_now key_now (step (row_at loads i)) → ((j : ℕ) → nat_eq j i ≡ false → j < n → PaidIn cut_now born_now taken_now all_now j (begun j) (keys j) (row_at loads j)) → (j : ℕ) → j < n → PaidIn cut_now born_now taken_now all_now j (upd begun i begun_now j) (upd keys i key_now j) (row_at (of_initiator i step loads) j)
    rows_now p q j l = by (nat_eq j i) refl
      where
        by : (b : Bool) → nat_eq j i ≡ b → PaidIn cut_now born_now taken_now all_now j (cond b begun_now (begun j)) (cond b key_now (keys j)) (row_at (of_initiator i step loads) j)
        by true e =
            subst (λ r. PaidIn cut_now born_now taken_now all_now j begun_now key_now r) (sym (row_here i j step loads (equal_numbers j i e) here_inside))
            (subst (λ x. PaidIn cut_now born_now taken_now all_now x begun_now key_now (step (row_at loads i))) (sym (equal_numbers j i e)) p)
        by false e = subst (λ r. PaidIn cut_now born_now taken_now all_now j (begun j) (keys j) r) (sym (row_there i j step loads e here_inside)) (q j e l)

  held_now : (begun_now : ℕ) → begun i ≤ begun_now → AreHeld n (upd begun i begun_now) places
  held_now begun_now more p list e = (a.0, by (nat_eq (holder_at places p).initiator i) refl)
    where
      a : ((holder_at places p).initiator < n) × (list < begun (holder_at places p).initiator)
      a = c.held p list e

      by : (b : Bool) → nat_eq (holder_at places p).initiator i ≡ b → list < cond b begun_now (begun (holder_at places p).initiator)
      by true f =
          let x = a.1 in
          let y : begun (holder_at places p).initiator ≡ begun i = ap begun (equal_numbers (holder_at places p).initiator i f) in
          omega (arith, x, y, more)
      by false f = a.1

  -- ---- an ORB is appended
  module _ (m k weight : ℕ) (cdb : List ℕ) (buffer : NoteBuffer) (new : IsNew (is_appended h i m k) (taken_at h i m k)) (counts : share_of (cmd_of (event_of h)) ≡ weight) (light : weight ≤ most_share) where
    abbrev after : List Moment
    after = said (notes.Append i m k cdb buffer) ∷ h

    pub grown : ledger_of after ≡ so_far ++ kept (not (is_cut h i m)) (share i m k weight)
    grown = appended h i m k cdb buffer new.unborn new.untaken ∙ ap (λ w. so_far ++ kept (not (is_cut h i m)) (share i m k w)) counts

    others_append : (j : ℕ) → nat_eq j i ≡ false → j < n → PaidIn (is_cut after) (is_appended after) (taken_at after) (ledger_of after) j (begun j) (keys j) (row_at loads j)
    others_append j e l =
        let x = share i m k weight in
        let b = not (is_cut h i m) in
        let apart : nat_eq i j ≡ false = grind (arith, nat_tests) in
        same_paid (is_cut h j) (is_appended h j) (taken_at h j) (λ o. loads_in j o so_far) (sum_of j so_far) (begun j) (keys j) (row_at loads j) (c.rows j l)
        (is_cut after j) (is_appended after j) (taken_at after j) (λ o. loads_in j o (ledger_of after)) (sum_of j (ledger_of after))
        (λ o. refl) (λ o q. ap (λ y. cond y (cond (nat_eq o m) (cond (nat_eq q k) true (is_appended h j o q)) (is_appended h j o q)) (is_appended h j o q)) e) (λ o q. refl)
        (λ o. ap (loads_in j o) grown ∙ (loads_more j o so_far (kept b x) ∙ (ap (λ xs. loads_in j o so_far ++ xs) (no_loads b apart o) ∙ append_none (loads_in j o so_far))))
        (let f = sum_more j so_far (kept b x) in let g = ap (sum_of j) grown in let z = no_sum b apart in omega (arith, f, g, z))
      where
        no_loads : (b : Bool) → nat_eq i j ≡ false → (o : ℕ) → loads_in j o (kept b (share i m k weight)) ≡ []
        no_loads true f o = ap (λ y. cond (y && nat_eq m o) (orb_load k weight ∷ []) []) f
        no_loads false f o = refl

        no_sum : (b : Bool) → nat_eq i j ≡ false → sum_of j (kept b (share i m k weight)) ≡ 0
        no_sum true f = let g : cond (nat_eq i j) weight 0 ≡ 0 = ap (λ y. cond y weight 0) f in omega (arith, g)
        no_sum false f = refl

        append_none : (xs : List OrbLoad) → xs ++ [] ≡ xs
        append_none [] = refl
        append_none (x ∷ xs) = ap (λ ys. x ∷ ys) (append_none xs)

    -- what it is to its own initiator
    is_its : is_of i m (share i m k weight) ≡ true
    is_its = ap (λ b. b && nat_eq m m) (itself i) ∙ itself m

    pub own_here : loads_in i m (ledger_of after) ≡ (if is_cut h i m then loads_in i m so_far else loads_in i m so_far ++ orb_load k weight ∷ [])
    own_here =
        ap (loads_in i m) grown ∙ (loads_more i m so_far (kept (not (is_cut h i m)) (share i m k weight)) ∙ by (is_cut h i m))
      where
        append_none : (xs : List OrbLoad) → xs ++ [] ≡ xs
        append_none [] = refl
        append_none (x ∷ xs) = ap (λ ys. x ∷ ys) (append_none xs)

        by : (b : Bool) → loads_in i m so_far ++ loads_in i m (kept (not b) (share i m k weight)) ≡ (if b then loads_in i m so_far else loads_in i m so_far ++ orb_load k weight ∷ [])
        by true = append_none (loads_in i m so_far)
        by false = ap (λ y. loads_in i m so_far ++ cond y (orb_load k weight ∷ []) []) is_its

    pub own_there : (o : ℕ) → nat_eq o m ≡ false → loads_in i o (ledger_of after) ≡ loads_in i o so_far
    own_there o e =
        ap (loads_in i o) grown ∙ (loads_more i o so_far (kept (not (is_cut h i m)) (share i m k weight)) ∙ (by (not (is_cut h i m)) ∙ append_none (loads_in i o so_far)))
      where
        append_none : (xs : List OrbLoad) → xs ++ [] ≡ xs
        append_none [] = refl
        append_none (x ∷ xs) = ap (λ ys. x ∷ ys) (append_none xs)

        apart : nat_eq m o ≡ false
        apart = grind (arith, nat_tests)

        none : (nat_eq i i && nat_eq m o) ≡ false
        none = ap (λ b. b && nat_eq m o) (itself i) ∙ apart

        by : (b : Bool) → loads_in i o so_far ++ loads_in i o (kept b (share i m k weight)) ≡ loads_in i o so_far ++ []
        by true = ap (λ y. loads_in i o so_far ++ cond y (orb_load k weight ∷ []) []) none
        by false = refl

    pub own_sum : sum_of i (ledger_of after) ≡ sum_of i so_far + (if is_cut h i m then 0 else weight)
    own_sum = ap (sum_of i) grown ∙ (sum_more i so_far (kept (not (is_cut h i m)) (share i m k weight)) ∙ by (is_cut h i m))
      where
        by : (b : Bool) → sum_of i so_far + sum_of i (kept (not b) (share i m k weight)) ≡ sum_of i so_far + (if b then 0 else weight)
        by true = refl
        by false = let e : cond (nat_eq i i) weight 0 ≡ weight = ap (λ y. cond y weight 0) (itself i) in omega (arith, e)

    pub own_words : (begun_now : ℕ) (key_now : Option (ℕ × ℕ)) (row : ListLoad) → Paid (is_cut h i) (upd2 (is_appended h i) m k true) (taken_at h i) (λ o. loads_in i o (ledger_of after)) (sum_of i (ledger_of after)) begun_now key_now row → PaidIn (is_cut after) (is_appended after) (taken_at after) (ledger_of after) i begun_now key_now row
    own_words begun_now key_now row p =
        same_paid (is_cut h i) (upd2 (is_appended h i) m k true) (taken_at h i) (λ o. loads_in i o (ledger_of after)) (sum_of i (ledger_of after)) begun_now key_now row p
        (is_cut after i) (is_appended after i) (taken_at after i) (λ o. loads_in i o (ledger_of after)) (sum_of i (ledger_of after))
        (λ o. refl) (λ o q. ap (λ y. cond y (cond (nat_eq o m) (cond (nat_eq q k) true (is_appended h i o q)) (is_appended h i o q)) (is_appended h i o q)) (itself i)) (λ o q. refl) (λ o. refl) refl

    pub says_append : (begun_now : ℕ) (key_now : Option (ℕ × ℕ)) → begun i ≤ begun_now → most + most_share < 2 ^ 64 → PaidIn (is_cut after) (is_appended after) (taken_at after) (ledger_of after) i begun_now key_now (append_step m k weight (row_at loads i)) → CountedAt n (upd begun i begun_now) (upd keys i key_now) (most + most_share) after places (of_initiator i (append_step m k weight) loads)
    says_append begun_now key_now more small p =
        let f = c.few in
        let x = share i m k weight in
        let b = not (is_cut h i m) in
        record {
          size = size_same i (append_step m k weight) loads here_inside ∙ c.size;
          within = subst (AreWithin n) (sym grown) (within_more n so_far (kept b x) c.within (within_kept n b x inside));
          few = let g = ap total grown in let o = total_more so_far (kept b x) in let q = kept_few b x in omega (arith, f, g, o, q, light);
          small = small;
          rows = rows_now (append_step m k weight) begun_now key_now (is_cut after) (is_appended after) (taken_at after) (ledger_of after) p others_append;
          held = held_now begun_now more;
        }

  -- ---- a status is taken
  module _ (m k l : ℕ) (status : StatusKind) (answer : List ℕ) (present : keys i ≡ Some (m, k)) (below : l ≤ k) where
    abbrev taken_after : List Moment
    taken_after = said (notes.Taken i m l status answer) ∷ h

    abbrev taken_so : TakenStatus
    taken_so = record { status = status; src = src_in (access_at (terms h) (last_got h)) }

    shrunk : ledger_of taken_after ≡ without (is_one i m l) so_far
    shrunk = takes (is_cut h) (taken_at h) (command_at h) i m l taken_so h

    own_taken : PaidIn (is_cut h) (is_appended h) (taken_at taken_after) (ledger_of taken_after) i (begun i) (Some (m, k)) (take_step l (row_at loads i))
    own_taken =
        let p = subst (λ o. PaidIn (is_cut h) (is_appended h) (taken_at h) so_far i (begun i) o (row_at loads i)) present own in
        let t = takes_paid (is_cut h i) (is_appended h i) (taken_at h i) (λ o. loads_in i o so_far) (sum_of i so_far) (begun i) (row_at loads i) m k p l taken_so (λ o. loads_in i o (ledger_of taken_after)) (sum_of i (ledger_of taken_after)) below
        (ap (loads_in i m) shrunk ∙ taken_one i m l so_far)
        (λ o e. ap (loads_in i o) shrunk ∙ loads_apart (is_one i m l) i o (λ one f. other one o e (nat_eq one.initiator i) (nat_eq one.list m) refl (nat_eq one.orb l) (nat_eq one.list o) refl f) so_far)
        (let f = taken_sum i m l so_far in let g = ap (sum_of i) shrunk in omega (arith, f, g)) in
        same_paid (is_cut h i) (is_appended h i) (upd2 (taken_at h i) m l (Some taken_so)) (λ o. loads_in i o (ledger_of taken_after)) (sum_of i (ledger_of taken_after)) (begun i) (Some (m, k)) (take_step l (row_at loads i)) t
        (is_cut h i) (is_appended h i) (taken_at taken_after i) (λ o. loads_in i o (ledger_of taken_after)) (sum_of i (ledger_of taken_after))
        (λ o. refl) (λ o q. refl) (λ o q. ap (λ y. cond y (cond (nat_eq o m) (cond (nat_eq q l) (Some taken_so) (taken_at h i o q)) (taken_at h i o q)) (taken_at h i o q)) (itself i)) (λ o. refl) refl
      where
        both : (x o : ℕ) → nat_eq o m ≡ false → nat_eq x m ≡ true → nat_eq x o ≡ true → ⊥
        both x o e f g = let y : nat_eq o m ≡ true = grind (arith, nat_tests) in cc

        other : (one : Share) (o : ℕ) → nat_eq o m ≡ false → (a b : Bool) → nat_eq one.list m ≡ b → (q d : Bool) → nat_eq one.list o ≡ d → ((a && b) && q) ≡ true → (a && d) ≡ false
        other one o e true true f q true g x = absurd (both one.list o e f g)
        other one o e true true f q false g x = refl
        other one o e true false f q d g x = cc
        other one o e false b f q d g x = refl

    others_taken : (j : ℕ) → nat_eq j i ≡ false → j < n → PaidIn (is_cut h) (is_appended h) (taken_at taken_after) (ledger_of taken_after) j (begun j) (keys j) (row_at loads j)
    others_taken j e b =
        same_paid (is_cut h j) (is_appended h j) (taken_at h j) (λ o. loads_in j o so_far) (sum_of j so_far) (begun j) (keys j) (row_at loads j) (c.rows j b)
        (is_cut h j) (is_appended h j) (taken_at taken_after j) (λ o. loads_in j o (ledger_of taken_after)) (sum_of j (ledger_of taken_after))
        (λ o. refl) (λ o q. refl) (λ o q. ap (λ y. cond y (cond (nat_eq o m) (cond (nat_eq q l) (Some taken_so) (taken_at h j o q)) (taken_at h j o q)) (taken_at h j o q)) e)
        (λ o. ap (loads_in j o) shrunk ∙ loads_apart (is_one i m l) j o (λ one f. other_of one o (is_of i m one) (nat_eq one.orb l) f) so_far)
        (ap (sum_of j) shrunk ∙ sum_apart (is_one i m l) j (λ one f. not_own one (nat_eq one.initiator i) refl (nat_eq one.list m) (nat_eq one.orb l) f) so_far)
      where
        not_own : (one : Share) (a : Bool) → nat_eq one.initiator i ≡ a → (b q : Bool) → ((a && b) && q) ≡ true → nat_eq one.initiator j ≡ false
        not_own one true f b q x = grind (arith, nat_tests)
        not_own one false f b q x = cc

        other_of : (one : Share) (o : ℕ) (b q : Bool) → (is_of i m one && q) ≡ true → is_of j o one ≡ false
        other_of one o b q x =
            ap (λ y. y && nat_eq one.list o) (not_own one (nat_eq one.initiator i) refl (nat_eq one.list m) q x)

    pub says_taken : CountedAt n (upd begun i (begun i)) (upd keys i (Some (m, k))) most taken_after places (of_initiator i (take_step l) loads)
    says_taken = record {
      size = size_same i (take_step l) loads here_inside ∙ c.size;
      within = subst (AreWithin n) (sym shrunk) (within_without n (is_one i m l) so_far c.within);
      few = let f = c.few in let g = ap total shrunk in let o = total_without (is_one i m l) so_far in omega (arith, f, g, o);
      small = c.small;
      rows = rows_now (take_step l) (begun i) (Some (m, k)) (is_cut h) (is_appended h) (taken_at taken_after) (ledger_of taken_after) own_taken others_taken;
      held = held_now (begun i) (omega arith);
    }

  -- ---- a list is dropped
  module _ (m k : ℕ) (present : keys i ≡ Some (m, k)) where
    pub says_drop : CountedAt n (upd begun i (begun i)) (upd keys i None) most (said (notes.Drop i m) ∷ h) places (of_initiator i (drop_step m) loads)
    says_drop =
        let f = c.few in
        let s = c.small in
        let g = sum_few i so_far in
        record {
          size = size_same i (drop_step m) loads here_inside ∙ c.size;
          within = c.within;
          few = c.few;
          small = c.small;
          rows = rows_now (drop_step m) (begun i) None (is_cut h) (is_appended h) (taken_at h) so_far
              (drops (is_cut h i) (is_appended h i) (taken_at h i) (λ o. loads_in i o so_far) (sum_of i so_far) (begun i) (row_at loads i) m k
              (subst (λ o. PaidIn (is_cut h) (is_appended h) (taken_at h) so_far i (begun i) o (row_at loads i)) present own) (omega (arith, f, s, g)))
              (λ j e l. c.rows j l);
          held = held_now (begun i) (omega arith);
        }

  -- ---- a list is cut
  module _ (m : ℕ) (cause : CutCause) (old : m < begun i) where
    abbrev cut_after : List Moment
    cut_after = said (notes.Cut i (Some m) cause) ∷ h

    less : ledger_of cut_after ≡ without (is_of i m) so_far
    less = cuts (is_cut h) (taken_at h) (command_at h) i m h

    own_cut : PaidIn (is_cut cut_after) (is_appended h) (taken_at h) (ledger_of cut_after) i (begun i) (keys i) (cut_step m (row_at loads i))
    own_cut =
        let t = cut_paid (is_cut h i) (is_appended h i) (taken_at h i) (λ o. loads_in i o so_far) (sum_of i so_far) (begun i) (keys i) (row_at loads i) own m (λ o. loads_in i o (ledger_of cut_after)) (sum_of i (ledger_of cut_after)) old
        (ap (loads_in i m) less ∙ cut_none i m so_far)
        (λ o e. ap (loads_in i o) less ∙ loads_apart (is_of i m) i o (λ one f. other one o e (nat_eq one.initiator i) (nat_eq one.list m) refl (nat_eq one.list o) refl f) so_far)
        (let f = cut_sum i m so_far in let g = ap (sum_of i) less in omega (arith, f, g))
        (λ e. two_lists i m (row_at loads i).list e so_far) (one_list i m so_far) in
        same_paid (upd (is_cut h i) m true) (is_appended h i) (taken_at h i) (λ o. loads_in i o (ledger_of cut_after)) (sum_of i (ledger_of cut_after)) (begun i) (keys i) (cut_step m (row_at loads i)) t
        (is_cut cut_after i) (is_appended h i) (taken_at h i) (λ o. loads_in i o (ledger_of cut_after)) (sum_of i (ledger_of cut_after))
        (λ o. ap (λ y. cond y (cond (nat_eq o m) true (is_cut h i o)) (is_cut h i o)) (itself i)) (λ o q. refl) (λ o q. refl) (λ o. refl) refl
      where
        both : (x o : ℕ) → nat_eq o m ≡ false → nat_eq x m ≡ true → nat_eq x o ≡ true → ⊥
        both x o e f g = let y : nat_eq o m ≡ true = grind (arith, nat_tests) in cc

        other : (one : Share) (o : ℕ) → nat_eq o m ≡ false → (a b : Bool) → nat_eq one.list m ≡ b → (d : Bool) → nat_eq one.list o ≡ d → (a && b) ≡ true → (a && d) ≡ false
        other one o e true true f true g x = absurd (both one.list o e f g)
        other one o e true true f false g x = refl
        other one o e true false f d g x = cc
        other one o e false b f d g x = refl

    others_cut : (j : ℕ) → nat_eq j i ≡ false → j < n → PaidIn (is_cut cut_after) (is_appended h) (taken_at h) (ledger_of cut_after) j (begun j) (keys j) (row_at loads j)
    others_cut j e b =
        same_paid (is_cut h j) (is_appended h j) (taken_at h j) (λ o. loads_in j o so_far) (sum_of j so_far) (begun j) (keys j) (row_at loads j) (c.rows j b)
        (is_cut cut_after j) (is_appended h j) (taken_at h j) (λ o. loads_in j o (ledger_of cut_after)) (sum_of j (ledger_of cut_after))
        (λ o. ap (λ y. cond y (cond (nat_eq o m) true (is_cut h j o)) (is_cut h j o)) e) (λ o q. refl) (λ o q. refl)
        (λ o. ap (loads_in j o) less ∙ loads_apart (is_of i m) j o (λ one f. ap (λ y. y && nat_eq one.list o) (not_own one (nat_eq one.initiator i) refl (nat_eq one.list m) f)) so_far)
        (ap (sum_of j) less ∙ sum_apart (is_of i m) j (λ one f. not_own one (nat_eq one.initiator i) refl (nat_eq one.list m) f) so_far)
      where
        not_own : (one : Share) (a : Bool) → nat_eq one.initiator i ≡ a → (b : Bool) → (a && b) ≡ true → nat_eq one.initiator j ≡ false
        not_own one true f b x = grind (arith, nat_tests)
        not_own one false f b x = cc

    pub says_cut : CountedAt n (upd begun i (begun i)) (upd keys i (keys i)) most cut_after places (of_initiator i (cut_step m) loads)
    says_cut = record {
      size = size_same i (cut_step m) loads here_inside ∙ c.size;
      within = subst (AreWithin n) (sym less) (within_without n (is_of i m) so_far c.within);
      few = let f = c.few in let g = ap total less in let o = total_without (is_of i m) so_far in omega (arith, f, g, o);
      small = c.small;
      rows = rows_now (cut_step m) (begun i) (keys i) (is_cut cut_after) (is_appended h) (taken_at h) (ledger_of cut_after) own_cut others_cut;
      held = held_now (begun i) (omega arith);
    }

-- ---- the same, in other words
pub counted_same : (n : ℕ) (begun begun_now : ℕ → ℕ) (keys keys_now : ℕ → Option (ℕ × ℕ)) (most : ℕ) (h : List Moment) (places : List (Option Holder)) (loads : List ListLoad) → ((j : ℕ) → begun_now j ≡ begun j) → ((j : ℕ) → keys_now j ≡ keys j) → CountedAt n begun keys most h places loads → CountedAt n begun_now keys_now most h places loads
counted_same n begun begun_now keys keys_now most h places loads b k c = record {
  size = c.size;
  within = c.within;
  few = c.few;
  small = c.small;
  rows = λ i l.
      subst (λ x. PaidIn (is_cut h) (is_appended h) (taken_at h) (ledger_of h) i x (keys_now i) (row_at loads i)) (sym (b i))
      (subst (λ x. PaidIn (is_cut h) (is_appended h) (taken_at h) (ledger_of h) i (begun i) x (row_at loads i)) (sym (k i)) (c.rows i l));
  held = λ p list e.
      let a = c.held p list e in
      (a.0, subst (λ x. list < x) (sym (b (holder_at places p).initiator)) a.1);
}

-- other places
pub counted_places : (n : ℕ) (begun : ℕ → ℕ) (keys : ℕ → Option (ℕ × ℕ)) (most : ℕ) (h : List Moment) (places places_now : List (Option Holder)) (loads : List ListLoad) → AreHeld n begun places_now → CountedAt n begun keys most h places loads → CountedAt n begun keys most h places_now loads
counted_places n begun keys most h places places_now loads a c =
    record { size = c.size; within = c.within; few = c.few; small = c.small; rows = c.rows; held = a }

-- more at most
pub counted_more : (n : ℕ) (begun : ℕ → ℕ) (keys : ℕ → Option (ℕ × ℕ)) (most more : ℕ) (h : List Moment) (places : List (Option Holder)) (loads : List ListLoad) → most ≤ more → more < 2 ^ 64 → CountedAt n begun keys most h places loads → CountedAt n begun keys more h places loads
counted_more n begun keys most more h places loads l s c =
    let f = c.few in
    record { size = c.size; within = c.within; few = omega (arith, f, l); small = s; rows = c.rows; held = c.held }

-- ---- all together
abbrev sums_from : List Share → (i n : ℕ) → ℕ
sums_from all i zero = 0
sums_from all i (suc n) = sum_of i all + sums_from all (suc i) n

sums_none : (i n : ℕ) → sums_from [] i n ≡ 0
sums_none i zero = refl
sums_none i (suc n) = let e = sums_none (suc i) n in omega (arith, e)

sums_skip : (one : Share) (all : List Share) (i n : ℕ) → one.initiator < i → sums_from (one ∷ all) i n ≡ sums_from all i n
sums_skip one all i zero l = refl
sums_skip one all i (suc n) l =
    let e = sums_skip one all (suc i) n (omega (arith, l)) in
    let d : nat_eq one.initiator i ≡ false = grind (arith, nat_tests) in
    let f : cond (nat_eq one.initiator i) one.weight 0 ≡ 0 = ap (λ b. cond b one.weight 0) d in
    omega (arith, e, f)

sums_one : (one : Share) (all : List Share) (i n : ℕ) → i ≤ one.initiator → one.initiator < i + n → sums_from (one ∷ all) i n ≡ one.weight + sums_from all i n
sums_one one all i zero a b = absurd (omega (arith, a, b))
sums_one one all i (suc n) a b = by (λ c d. sums_one one all (suc i) n c d) (nat_eq one.initiator i) refl
  where
    by : (suc i ≤ one.initiator → one.initiator < suc i + n → sums_from (one ∷ all) (suc i) n ≡ one.weight + sums_from all (suc i) n) → (c : Bool) → nat_eq one.initiator i ≡ c → (cond c one.weight 0 + sum_of i all) + sums_from (one ∷ all) (suc i) n ≡ one.weight + (sum_of i all + sums_from all (suc i) n)
    by ih true e =
        let s : one.initiator ≡ i = grind (arith, nat_tests) in
        let f = sums_skip one all (suc i) n (omega (arith, s)) in
        omega (arith, f)
    by ih false e =
        let m : suc i ≤ one.initiator = grind (arith, nat_tests) in
        let f = ih m (omega (arith, b)) in
        omega (arith, f)

sums_all : (n : ℕ) (all : List Share) → AreWithin n all → sums_from all 0 n ≡ total all
sums_all n [] h = sums_none 0 n
sums_all n (one ∷ all) h =
    let e = sums_all n all h.1 in
    let l = h.0 in
    let f = sums_one one all 0 n (omega arith) (omega (arith, l)) in
    omega (arith, e, f)

weigh_from : (loads : List ListLoad) (all : List Share) (i : ℕ) → ((k j : ℕ) → j ≡ i + k → k < length loads → sum_of j all ≡ (row_at loads k).left_weight + load_sum (row_at loads k).waiting) → sums_from all i (length loads) < 2 ^ 64 → lists_weight loads ≡ sums_from all i (length loads)
unfolding lists_weight
weigh_from [] all i h few = refl
weigh_from (load ∷ loads) all i h few =
    let own = h 0 i (omega arith) (omega arith) in
    let later = weigh_from loads all (suc i) (λ k j e l. h (suc k) j (omega (arith, e)) (omega (arith, l))) (omega (arith, few)) in
    let waits = weights_are load.waiting 0 (omega (arith, own, few)) in
    let one : load_weight load ≡ load.left_weight + load_sum load.waiting =
    ap (λ x. capped (load.left_weight + x)) (waits ∙ omega arith) ∙ capped_is (load.left_weight + load_sum load.waiting) (omega (arith, own, few)) in
    ap (λ x. capped (x + lists_weight loads)) one
    ∙ (ap (λ x. capped (load.left_weight + load_sum load.waiting + x)) later
    ∙ (capped_is (load.left_weight + load_sum load.waiting + sums_from all (suc i) (length loads)) (omega (arith, own, few))
    ∙ omega (arith, own)))

pub weighs : (n : ℕ) (begun : ℕ → ℕ) (keys : ℕ → Option (ℕ × ℕ)) (most : ℕ) (h : List Moment) (places : List (Option Holder)) (loads : List ListLoad) → CountedAt n begun keys most h places loads → lists_weight loads ≡ shares h h
weighs n begun keys most h places loads c =
    let all = ledger_of h in
    let size = c.size in
    let s = sums_all n all c.within in
    let few = c.few in
    let small = c.small in
    let same : sums_from all 0 (length loads) ≡ total all = ap (sums_from all 0) size ∙ s in
    weigh_from loads all 0 (λ k j e l. let is : j ≡ k = omega (arith, e) in ap (λ x. sum_of x all) is ∙ (c.rows k (omega (arith, l, size))).sum_is) (omega (arith, same, few, small))
    ∙ (same ∙ sums h)
