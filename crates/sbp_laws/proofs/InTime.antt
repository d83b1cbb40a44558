-- The laws of lists, read in the order of time.
use Rattle.std.proofs.Common.{◌≡◌, ◌∙◌, ℕ, suc, ◌<◌, ◌≤◌, Bool, true, false, cond, nat_eq, List, [], ◌∷◌, Option, Some, None, refl, sym, ap, subst, arith}
use Rattle.std.proofs.lemmas.Bool.Decides.{nat_tests}
use Rattle.orb_layout.specs.declared.status.StatusKind.{StatusKind}
use Rattle.rbc_disk.specs.Disk.{Disk}
use Rattle.sbp_base.specs.Update.{upd2, upd3}
use Rattle.sbp_journal.specs.Run.{Moment, said}
use Rattle.sbp_journal.specs.declared.note.Note.TheVariants.{Ended, Ran, Taken}
use Rattle.sbp_laws.specs.ExecutionLaw.{ExecutionLaw}
use Rattle.sbp_laws.specs.InTime.{AreBelow, InTimeLaw, Rise, ran_numbers}
use Rattle.sbp_laws.specs.Lists.{TakenStatus, taken_at}
use Rattle.sbp_laws.specs.OnLists.{IsPartOnLists}
use Rattle.sbp_laws.specs.OrderLaw.{OrderLaw}
use Rattle.sbp_laws.specs.StatusLaw.{TakenAt}
use Rattle.sbp_laws.specs.Terms.{ended_status, ends, runs, takes}
use Rattle.sbp_laws.specs.Turns.{EachMoment}
use Rattle.sbp_laws.proofs.Orders.{ends_in_order}

pub part_on_lists : IsPartOnLists
part_on_lists wild run law = record { order = law.moments.order; execution = law.moments.execution; status = law.moments.status }

-- ---- what is known of the ORBs that ran: each of them is below a bound, and none of them ran no time
abbrev HaveRun : (ℕ → ℕ) → List ℕ → Type 0
HaveRun times [] = Unit {0}
HaveRun times (k ∷ ks) = (times k ≡ 0 → ⊥) × HaveRun times ks

record HasRisen (numbers : List ℕ) (times : ℕ → ℕ) (count : ℕ) : Type 0 where
  rise : Rise numbers
  below : AreBelow (suc count) numbers
  ran : HaveRun times numbers

-- one that has not run yet is above those that ran
above : (numbers : List ℕ) (times : ℕ → ℕ) (k : ℕ) → times k ≡ 0 → AreBelow (suc k) numbers → HaveRun times numbers → AreBelow k numbers
above [] times k none below ran = tt
above (m ∷ ms) times k none below ran = (by (nat_eq m k) refl, above ms times k none below.1 ran.1)
  where
    by : (b : Bool) → nat_eq m k ≡ b → m < k
    by true e = let same : m ≡ k = grind (arith, nat_tests) in absurd (ran.0 (ap times same ∙ none))
    by false e = let l = below.0 in grind (arith, nat_tests)

higher : (numbers : List ℕ) (count more : ℕ) → count ≤ more → AreBelow count numbers → AreBelow more numbers
higher [] count more l below = tt
higher (m ∷ ms) count more l below = (let b = below.0 in omega arith, higher ms count more l below.1)

more_times : (numbers : List ℕ) (times now : ℕ → ℕ) → ((k : ℕ) → now k ≡ 0 → times k ≡ 0) → HaveRun times numbers → HaveRun now numbers
more_times [] times now more ran = tt
more_times (m ∷ ms) times now more ran = ((λ z. ran.0 (more m z)), more_times ms times now more ran.1)

-- the next one runs
runs_next : (numbers : List ℕ) (times now : ℕ → ℕ) (count k : ℕ) → k ≡ count → times k ≡ 0 → (now k ≡ 0 → ⊥) → ((m : ℕ) → now m ≡ 0 → times m ≡ 0) → HasRisen numbers times count → HasRisen (k ∷ numbers) now count
runs_next numbers times now count k e none one more r = record {
  rise = (above numbers times k none (subst (λ c. AreBelow (suc c) numbers) (sym e) r.below) r.ran, r.rise);
  below = (omega (arith, e), r.below);
  ran = (one, more_times numbers times now more r.ran);
}

-- another one ends
ends_next : (numbers : List ℕ) (times : ℕ → ℕ) (count more : ℕ) → count ≤ more → HasRisen numbers times count → HasRisen numbers times more
ends_next numbers times count more l r = record { rise = r.rise; below = higher numbers (suc count) (suc more) (omega arith) r.below; ran = r.ran }

module _ (wild : ℕ → Bool) (start : List Disk) where
  abbrev AllRisen : List Moment → Type 0
  AllRisen past = (i n : ℕ) → wild i ≡ false → HasRisen (ran_numbers past i n) (runs past i n) (ends past i n)

  -- ---- by a run
  run_here : (past : List Moment) (i n k : ℕ) → (wild i ≡ false → (k ≡ ends past i n) × (runs past i n k ≡ 0)) → AllRisen past → (j m : ℕ) → wild j ≡ false
      → HasRisen (upd2 (ran_numbers past) i n (k ∷ ran_numbers past i n) j m) (upd3 (runs past) i n k (suc (runs past i n k)) j m) (ends past j m)
  run_here past i n k next all j m own = by_tests (nat_eq j i) (nat_eq m n) refl refl
    where
      more : (times : ℕ → ℕ) (more : ℕ) (l : ℕ) → cond (nat_eq l k) (suc more) (times l) ≡ 0 → times l ≡ 0
      more times count l e = by_number (nat_eq l k) e
        where
          by_number : (b : Bool) → cond b (suc count) (times l) ≡ 0 → times l ≡ 0
          by_number true e = absurd (let no : suc count ≡ 0 = e in omega arith)
          by_number false e = e

      at_once : (times : ℕ → ℕ) (count : ℕ) → cond (nat_eq k k) (suc count) (times k) ≡ 0 → ⊥
      at_once times count e = by_number (nat_eq k k) refl e
        where
          by_number : (b : Bool) → nat_eq k k ≡ b → cond b (suc count) (times k) ≡ 0 → ⊥
          by_number true same e = let no : suc count ≡ 0 = e in omega arith
          by_number false same e = absurd (grind (arith, nat_tests))

      here : wild i ≡ false → HasRisen (k ∷ ran_numbers past i n) (λ l. cond (nat_eq l k) (suc (runs past i n k)) (runs past i n l)) (ends past i n)
      here mine = runs_next (ran_numbers past i n) (runs past i n) (λ l. cond (nat_eq l k) (suc (runs past i n k)) (runs past i n l)) (ends past i n) k (next mine).0 (next mine).1
          (at_once (runs past i n) (runs past i n k)) (more (runs past i n) (runs past i n k)) (all i n mine)

      by_tests : (b c : Bool) → nat_eq j i ≡ b → nat_eq m n ≡ c → HasRisen (cond b (cond c (k ∷ ran_numbers past i n) (ran_numbers past j m)) (ran_numbers past j m)) (λ l. cond b (cond c (cond (nat_eq l k) (suc (runs past i n k)) (runs past j m l)) (runs past j m l)) (runs past j m l)) (ends past j m)
      by_tests true true e h =
          let at : j ≡ i = grind (arith, nat_tests) in
          let of : m ≡ n = grind (arith, nat_tests) in
          let mine = subst (λ x. wild x ≡ false) at own in
          subst (λ x. HasRisen (k ∷ ran_numbers past i n) (λ l. cond (nat_eq l k) (suc (runs past i n k)) (runs past x m l)) (ends past x m)) (sym at)
          (subst (λ x. HasRisen (k ∷ ran_numbers past i n) (λ l. cond (nat_eq l k) (suc (runs past i n k)) (runs past i x l)) (ends past i x)) (sym of) (here mine))
      by_tests true false e h = all j m own
      by_tests false c e h = all j m own

  -- ---- by an end
  end_here : (past : List Moment) (i n : ℕ) → AllRisen past → (j m : ℕ) → wild j ≡ false → HasRisen (ran_numbers past j m) (runs past j m) (upd2 (ends past) i n (suc (ends past i n)) j m)
  end_here past i n all j m own = by_tests (nat_eq j i) (nat_eq m n) refl refl
    where
      by_tests : (b c : Bool) → nat_eq j i ≡ b → nat_eq m n ≡ c → HasRisen (ran_numbers past j m) (runs past j m) (cond b (cond c (suc (ends past i n)) (ends past j m)) (ends past j m))
      by_tests true true e h =
          let at : j ≡ i = grind (arith, nat_tests) in
          let of : m ≡ n = grind (arith, nat_tests) in
          ends_next (ran_numbers past j m) (runs past j m) (ends past j m) (suc (ends past i n))
          (let same : ends past j m ≡ ends past i n = ap (λ x. ends past x m) at ∙ ap (λ x. ends past i x) of in omega (arith, same)) (all j m own)
      by_tests true false e h = all j m own
      by_tests false c e h = all j m own

  risen : (past : List Moment) → ExecutionLaw wild start past → AllRisen past
  risen [] law = λ i n own. record { rise = tt; below = tt; ran = tt }
  risen (said (Ran i (Some n) (Some k) unit cdb bytes check) ∷ past) law = run_here past i n k (λ own. let r = law.0 own in (r.0.order, r.0.once)) (risen past law.1)
  risen (said (Ended i (Some n) (Some k) status) ∷ past) law = end_here past i n (risen past law.1)
  risen (_ ∷ past) law = risen past law.1

-- ---- the status that is taken of an ORB
status_is : (t u : TakenStatus) → Some t ≡ Some u → Some t.status ≡ Some u.status
status_is t u e = cc

record IsKept (taken : Option TakenStatus) (ended : Option StatusKind) (times k count : ℕ) : Type 0 where
  own : (t : TakenStatus) → taken ≡ Some t → ended ≡ Some t.status
  over : (s : StatusKind) → ended ≡ Some s → k < count
  once : times ≤ 1

module _ (wild : ℕ → Bool) where
  abbrev AllKept : List Moment → Type 0
  AllKept past = (i n k : ℕ) → wild i ≡ false → IsKept (taken_at past i n k) (ended_status past i n k) (takes past i n k) k (ends past i n)

  -- a status is taken
  take_here : (past : List Moment) (i n k : ℕ) (t : TakenStatus) → (wild i ≡ false → (takes past i n k ≡ 0) × (ended_status past i n k ≡ Some t.status)) → AllKept past → (j m l : ℕ) → wild j ≡ false
      → IsKept (upd3 (taken_at past) i n k (Some t) j m l) (ended_status past j m l) (upd3 (takes past) i n k (suc (takes past i n k)) j m l) l (ends past j m)
  take_here past i n k t law all j m l own = by_tests (nat_eq j i) (nat_eq m n) (nat_eq l k) refl refl refl
    where
      here : j ≡ i → m ≡ n → l ≡ k → IsKept (Some t) (ended_status past j m l) (suc (takes past i n k)) l (ends past j m)
      here at of last =
          let mine = law (subst (λ x. wild x ≡ false) at own) in
          let same : ended_status past j m l ≡ ended_status past i n k = ap (λ x. ended_status past x m l) at ∙ ap (λ x. ended_status past i x l) of ∙ ap (λ x. ended_status past i n x) last in
          record {
            own = λ u e. same ∙ mine.1 ∙ status_is t u e;
            over = (all j m l own).over;
            once = (let none = mine.0 in omega (arith, none));
          }

      by_tests : (b c d : Bool) → nat_eq j i ≡ b → nat_eq m n ≡ c → nat_eq l k ≡ d
          → IsKept (cond b (cond c (cond d (Some t) (taken_at past j m l)) (taken_at past j m l)) (taken_at past j m l)) (ended_status past j m l) (cond b (cond c (cond d (suc (takes past i n k)) (takes past j m l)) (takes past j m l)) (takes past j m l)) l (ends past j m)
      by_tests true true true e f g = here (grind (arith, nat_tests)) (grind (arith, nat_tests)) (grind (arith, nat_tests))
      by_tests true true false e f g = all j m l own
      by_tests true false d e f g = all j m l own
      by_tests false c d e f g = all j m l own

  -- an ORB ends, which is the next one
  ends_here : (past : List Moment) (i n k : ℕ) (status : StatusKind) → (wild i ≡ false → k ≡ ends past i n) → AllKept past → (j m l : ℕ) → wild j ≡ false
      → IsKept (taken_at past j m l) (upd3 (ended_status past) i n k (Some status) j m l) (takes past j m l) l (upd2 (ends past) i n (suc (ends past i n)) j m)
  ends_here past i n k status next all j m l own = by_tests (nat_eq j i) (nat_eq m n) (nat_eq l k) refl refl refl
    where
      was : IsKept (taken_at past j m l) (ended_status past j m l) (takes past j m l) l (ends past j m)
      was = all j m l own

      count_is : j ≡ i → m ≡ n → ends past j m ≡ ends past i n
      count_is at of = ap (λ x. ends past x m) at ∙ ap (λ x. ends past i x) of

      -- no status was taken of it, since it had not ended
      here : j ≡ i → m ≡ n → l ≡ k → IsKept (taken_at past j m l) (Some status) (takes past j m l) l (suc (ends past i n))
      here at of last =
          let number = next (subst (λ x. wild x ≡ false) at own) in
          let same = count_is at of in
          record {
            own = λ u e. absurd (let below = was.over u.status (was.own u e) in omega (arith, number, same, last));
            over = λ s e. omega (arith, number, last);
            once = was.once;
          }

      later : j ≡ i → m ≡ n → IsKept (taken_at past j m l) (ended_status past j m l) (takes past j m l) l (suc (ends past i n))
      later at of = record { own = was.own; over = λ s e. (let below = was.over s e in let same = count_is at of in omega (arith, below, same)); once = was.once }

      by_tests : (b c d : Bool) → nat_eq j i ≡ b → nat_eq m n ≡ c → nat_eq l k ≡ d
          → IsKept (taken_at past j m l) (cond b (cond c (cond d (Some status) (ended_status past j m l)) (ended_status past j m l)) (ended_status past j m l)) (takes past j m l) l (cond b (cond c (suc (ends past i n)) (ends past j m)) (ends past j m))
      by_tests true true true e f g = here (grind (arith, nat_tests)) (grind (arith, nat_tests)) (grind (arith, nat_tests))
      by_tests true true false e f g = later (grind (arith, nat_tests)) (grind (arith, nat_tests))
      by_tests true false d e f g = was
      by_tests false c d e f g = was

  kept : (past : List Moment) → OrderLaw wild past → EachMoment (TakenAt wild) past → AllKept past
  kept [] order law = λ i n k own. record { own = λ t e. absurd (let no : None ≡ Some t = e in cc); over = λ s e. absurd (let no : None ≡ Some s = e in cc); once = omega arith }
  kept (said (Taken i n k status answer) ∷ past) order law = take_here past i n k _ (λ own. let r = law.0 own in (r.once, r.ended)) (kept past order.1 law.1)
  kept (said (Ended i (Some n) (Some k) status) ∷ past) order law = ends_here past i n k status (λ own. (order.0 own).number) (kept past order.1 law.1)
  kept (_ ∷ past) order law = kept past order.1 law.1

-- ---- the reading
pub in_time_law : InTimeLaw
in_time_law wild start past law =
    let r = risen wild start past law.execution in
    let s = kept wild past law.order law.status.taken in
    record {
      end_in_turn = ends_in_order wild past law.order;
      run_in_turn = λ i n own. (r i n own).rise;
      run_at_the_end = λ i n own. (r i n own).below;
      taken_once = λ i n k own. (s i n k own).once;
      taken_is_its_own = λ i n k taken own e. (s i n k own).own taken e;
    }
