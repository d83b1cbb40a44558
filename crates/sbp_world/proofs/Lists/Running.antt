-- How ORBs run and end by the law of lists: an ORB behind those that have ended did not run, but for the next one; and the order law is a part of it.
use Rattle.sbp_world.proofs.Words.Std.{◌≡◌, ◌∙◌, refl, sym, ap, subst, ◌<◌, ℕ, suc, nat_eq, Bool, true, false, cond, List, [], ◌∷◌, Option, Some, None, arith, nat_tests}
use Rattle.sbp_world.proofs.Words.Wire.{Moment, said}
use Rattle.sbp_world.proofs.Words.Target.{Sense, Outcome, is_good, EndsBy, Progress}
use Rattle.sbp_world.proofs.Words.Initiator.{StatusKind}
use Rattle.sbp_world.proofs.Words.Laws.{MayEndWith, OrderAt, OrderLaw, ends, ran_status, runs, status_of}
use Rattle.sbp_world.proofs.Words.World.{ListsAt, RunsAt, RunsLaw, UnrunLaw}
use Rattle.orb_layout.specs.declared.status.StatusKind.TheVariants as kinds
use Rattle.rbc_disk.specs.declared.command.Outcome.TheVariants as outcomes
use Rattle.sbp_journal.specs.declared.note.Note.TheVariants as notes
use Rattle.sbp_world.specs.Lists.Running.{ListsLaw}
use Rattle.sbp_world.proofs.Lists.Passing.{PassAt, PassLaw, HasRun}
use Rattle.sbp_world.proofs.Common.{itself}

none_some : (A : Type 0) (k : ℕ) → suc k ≡ 0 → A
none_some A k e = absurd (differ e)
  where
    differ : suc k ≡ 0 → ⊥
    differ e = cc

-- ---- what did not run
module _ (wild : ℕ → Bool) where
  pub later_unrun : (past : List Moment) → PassLaw wild past → (i n k : ℕ) → wild i ≡ false → ends past i n < k → runs past i n k ≡ 0
  later_unrun [] law i n k own b = refl
  later_unrun (said (notes.Ran j (Some m) (Some l) unit cdb bytes check) ∷ past) law i n k own b =
      by (nat_eq i j) refl (nat_eq n m) refl (nat_eq k l) refl (later_unrun past law.1 i n k own b)
    where
      by : (x : Bool) → nat_eq i j ≡ x → (y : Bool) → nat_eq n m ≡ y → (z : Bool) → nat_eq k l ≡ z → runs past i n k ≡ 0 → cond x (cond y (cond z (suc (runs past j m l)) (runs past i n k)) (runs past i n k)) (runs past i n k) ≡ 0
      by true e true f true g h =
          let same_i : i ≡ j = grind (arith, nat_tests) in
          let same_n : n ≡ m = grind (arith, nat_tests) in
          let same_k : k ≡ l = grind (arith, nat_tests) in
          let turn : l ≡ ends past j m = (law.0 (sym (ap wild same_i) ∙ own)).next.turn.number in
          let at : l ≡ ends past i n = turn ∙ sym (ap (λ a. ends past a m) same_i) ∙ sym (ap (λ a. ends past i a) same_n) in
          absurd (omega (arith, at, same_k, b))
      by true e true f false g h = h
      by true e false f z g h = h
      by false e y f z g h = h
  later_unrun (said (notes.Ended j (Some m) (Some l) status) ∷ past) law i n k own b =
      later_unrun past law.1 i n k own (by (nat_eq i j) refl (nat_eq n m) refl b)
    where
      by : (x : Bool) → nat_eq i j ≡ x → (y : Bool) → nat_eq n m ≡ y → cond x (cond y (suc (ends past j m)) (ends past i n)) (ends past i n) < k → ends past i n < k
      by true e true f c =
          let same_i : i ≡ j = grind (arith, nat_tests) in
          let same_n : n ≡ m = grind (arith, nat_tests) in
          let at : ends past j m ≡ ends past i n = sym (ap (λ a. ends past a m) same_i) ∙ sym (ap (λ a. ends past i a) same_n) in
          omega (arith, at, c)
      by true e false f c = c
      by false e y f c = c
  later_unrun (_ ∷ past) law i n k own b = later_unrun past law.1 i n k own b

-- and tells no status
pub none_ran : (past : List Moment) (i n k : ℕ) → runs past i n k ≡ 0 → ran_status past i n k ≡ None
none_ran [] i n k e = refl
none_ran (said (notes.Ran j (Some m) (Some l) unit cdb bytes check) ∷ past) i n k e = by (nat_eq i j) (nat_eq n m) (nat_eq k l) (none_ran past i n k) e
  where
    by : (x y z : Bool) → (runs past i n k ≡ 0 → ran_status past i n k ≡ None) → cond x (cond y (cond z (suc (runs past j m l)) (runs past i n k)) (runs past i n k)) (runs past i n k) ≡ 0 → cond x (cond y (cond z (Some (status_of check)) (ran_status past i n k)) (ran_status past i n k)) (ran_status past i n k) ≡ None
    by true true true f e = none_some _ (runs past j m l) e
    by true true false f e = f e
    by true false z f e = f e
    by false y z f e = f e
none_ran (_ ∷ past) i n k e = none_ran past i n k e

-- ---- behind a note of a run
module _ (ms : List Moment) (i : ℕ) (unit : ℕ) (cdb bytes : List ℕ) (check : Option Sense) where
  pub runs_other : (x y : Option ℕ) (j n k : ℕ) → (j ≡ i → ⊥) → runs (said (notes.Ran i x y unit cdb bytes check) ∷ ms) j n k ≡ runs ms j n k
  runs_other None y j n k f = refl
  runs_other (Some x) None j n k f = refl
  runs_other (Some x) (Some y) j n k f = by (nat_eq j i) refl
    where
      by : (b : Bool) → nat_eq j i ≡ b → cond b (cond (nat_eq n x) (cond (nat_eq k y) (suc (runs ms i x y)) (runs ms j n k)) (runs ms j n k)) (runs ms j n k) ≡ runs ms j n k
      by true e = absurd (f (let same : j ≡ i = grind (arith, nat_tests) in same))
      by false e = refl

  pub status_other : (x y : Option ℕ) (j n k : ℕ) → (j ≡ i → ⊥) → ran_status (said (notes.Ran i x y unit cdb bytes check) ∷ ms) j n k ≡ ran_status ms j n k
  status_other None y j n k f = refl
  status_other (Some x) None j n k f = refl
  status_other (Some x) (Some y) j n k f = by (nat_eq j i) refl
    where
      by : (b : Bool) → nat_eq j i ≡ b → cond b (cond (nat_eq n x) (cond (nat_eq k y) (Some (status_of check)) (ran_status ms j n k)) (ran_status ms j n k)) (ran_status ms j n k) ≡ ran_status ms j n k
      by true e = absurd (f (let same : j ≡ i = grind (arith, nat_tests) in same))
      by false e = refl

  status_one : (n k : ℕ) → ran_status (said (notes.Ran i (Some n) (Some k) unit cdb bytes check) ∷ ms) i n k ≡ Some (status_of check)
  status_one n k =
      ap (λ b. cond b (cond (nat_eq n n) (cond (nat_eq k k) (Some (status_of check)) (ran_status ms i n k)) (ran_status ms i n k)) (ran_status ms i n k)) (itself i)
      ∙ ap (λ b. cond b (cond (nat_eq k k) (Some (status_of check)) (ran_status ms i n k)) (ran_status ms i n k)) (itself n)
      ∙ ap (λ b. cond b (Some (status_of check)) (ran_status ms i n k)) (itself k)

  pub status_here : (x y : Option ℕ) (n k : ℕ) → x ≡ Some n → y ≡ Some k → ran_status (said (notes.Ran i x y unit cdb bytes check) ∷ ms) i n k ≡ Some (status_of check)
  status_here x y n k e f =
      subst (λ z. ran_status (said (notes.Ran i z y unit cdb bytes check) ∷ ms) i n k ≡ Some (status_of check)) (sym e)
      (subst (λ z. ran_status (said (notes.Ran i (Some n) z unit cdb bytes check) ∷ ms) i n k ≡ Some (status_of check)) (sym f) (status_one n k))

-- ---- how an ORB ends by how it ran
good_ran : (outcome : Option Outcome) (runs_are : ℕ) (status : Option StatusKind) → is_good outcome ≡ true → HasRun outcome runs_are status → status ≡ Some kinds.Good
good_ran None runs_are status e h = absurd (differ e)
  where
    differ : false ≡ true → ⊥
    differ e = cc
good_ran (Some (outcomes.Good len)) runs_are status e h = h
good_ran (Some (outcomes.Check sense)) runs_are status e h = absurd (differ e)
  where
    differ : false ≡ true → ⊥
    differ e = cc

not_ran : (outcome : Option Outcome) (runs_are : ℕ) (status : Option StatusKind) → (runs_are ≡ 0 → status ≡ None) → outcome ≡ None → HasRun outcome runs_are status → status ≡ None
not_ran outcome runs_are status f e h = f (subst (λ o. HasRun o runs_are status) e h)

pub ends_with : (kind : StatusKind) (outcome : Option Outcome) (runs_are : ℕ) (status : Option StatusKind) → (runs_are ≡ 0 → status ≡ None) → EndsBy kind outcome → HasRun outcome runs_are status → MayEndWith kind status
ends_with kinds.Good outcome runs_are status f e h = good_ran outcome runs_are status e h
ends_with (kinds.Check sense) outcome runs_are status f e h = subst (λ o. HasRun o runs_are status) e h
ends_with kinds.Failed outcome runs_are status f e h = tt
ends_with (kinds.Management meaning) outcome runs_are status f e h = absurd e
ends_with kinds.Dummy outcome runs_are status f e h = not_ran outcome runs_are status f e h
ends_with kinds.Aborted outcome runs_are status f e h = not_ran outcome runs_are status f e h
ends_with (kinds.Illegal meaning) outcome runs_are status f e h = not_ran outcome runs_are status f e h

-- another progress with the same run
pub as_run : (p q : Progress) (runs_are : ℕ → ℕ) (status : ℕ → Option StatusKind) → q.outcome ≡ p.outcome → q.ended ≡ p.ended → HasRun p.outcome (runs_are p.ended) (status p.ended) → HasRun q.outcome (runs_are q.ended) (status q.ended)
as_run p q runs_are status e f h =
    subst (λ k. HasRun q.outcome (runs_are k) (status k)) (sym f) (subst (λ o. HasRun o (runs_are p.ended) (status p.ended)) (sym e) h)

-- and by a history with the same runs
pub same_run : (outcome : Option Outcome) (a b : ℕ) (s t : Option StatusKind) → b ≡ a → t ≡ s → HasRun outcome a s → HasRun outcome b t
same_run outcome a b s t e f h = subst (λ x. HasRun outcome x t) (sym e) (subst (λ x. HasRun outcome a x) (sym f) h)

-- ---- the laws that are parts of it
module _ (wild : ℕ → Bool) where
  order_at : (m : Moment) (past : List Moment) → PassAt wild m past → OrderAt wild m past
  order_at (said (notes.Append i n k cdb buffer)) past l = l.next
  order_at (said (notes.Ran i (Some n) (Some k) unit cdb bytes check)) past l = λ own. (l own).next.turn.still
  order_at (said (notes.Ran i (Some n) None unit cdb bytes check)) past l = l
  order_at (said (notes.Ran i None k unit cdb bytes check)) past l = l
  order_at (said (notes.Ended i (Some n) (Some k) status)) past l = λ own. (l own).turn
  order_at (said (notes.Ended i (Some n) None status)) past l = l
  order_at (said (notes.Ended i None k status)) past l = l
  order_at _ past l = tt

  pub order_part : (past : List Moment) → PassLaw wild past → OrderLaw wild past
  order_part [] l = tt
  order_part (m ∷ past) l = (order_at m past l.0, order_part past l.1)

  lists_at : (m : Moment) (past : List Moment) → PassAt wild m past → ListsAt wild m past
  lists_at (said (notes.Ran i (Some n) (Some k) unit cdb bytes check)) past l = λ own. (l own).next
  lists_at (said (notes.Ended i (Some n) (Some k) status)) past l = λ own. (l own).turn
  lists_at _ past l = tt

  pub lists_part : (past : List Moment) → PassLaw wild past → ListsLaw wild past
  lists_part [] l = tt
  lists_part (m ∷ past) l = (lists_at m past l.0, lists_part past l.1)

  module _ (strict : UnrunLaw) where
    runs_at : (m : Moment) (past : List Moment) → PassAt wild m past → RunsAt wild m past
    runs_at (said (notes.Ran i (Some n) (Some k) unit cdb bytes check)) past l = λ own. (l own).once strict
    runs_at (said (notes.Ended i (Some n) (Some k) status)) past l = λ own. (l own).by strict
    runs_at _ past l = tt

    pub runs_part : (past : List Moment) → PassLaw wild past → RunsLaw wild past
    runs_part [] l = tt
    runs_part (m ∷ past) l = (runs_at m past l.0, runs_part past l.1)
