-- An ORB that ended as failed or illegal is the last one of its list that ended, where each end is of a list without such an end before.
use Rattle.std.proofs.Common.{arith, ◌≡◌, ◌∙◌, refl, sym, ap, ◌||◌, ◌==◌, ℕ, suc, nat_eq, Bool, true, false, cond, List, [], ◌∷◌, Some, None}
use Rattle.std.proofs.lemmas.Bool.Decides.{nat_tests}
use Rattle.std.proofs.lemmas.Bool.{false≢true}
use Rattle.std.proofs.lemmas.Option.{same_Some}
use Rattle.orb_layout.specs.declared.status.StatusKind.{StatusKind}
use Rattle.sbp_journal.specs.Run.{Moment, said}
use Rattle.sbp_journal.specs.declared.note.Note.TheVariants as notes
use Rattle.sbp_laws.specs.OrderLaw.{OrderLaw}
use Rattle.sbp_laws.specs.Terms.{ended_status, ends}
use Rattle.sbp_laws.specs.Turns.{EachMoment}
use Rattle.sbp_world.specs.Lists.Faults.{EndsAlive, has_fault, is_fault}
use Rattle.sbp_world.proofs.Common.{or_left, or_right}

pub no_status : (status : StatusKind) → None ≡ Some status → ⊥
no_status status e = cc

module _ (i n k : ℕ) (status : StatusKind) (fault : is_fault status ≡ true) where
  -- its list has such an end
  by_fault : (past : List Moment) (j m l : ℕ) (st : StatusKind) → (ended_status past i n k ≡ Some status → has_fault past i n ≡ true) → (x y z : Bool) → nat_eq i j ≡ x → nat_eq n m ≡ y → cond x (cond y (cond z (Some st) (ended_status past i n k)) (ended_status past i n k)) (ended_status past i n k) ≡ Some status → cond x (cond y (is_fault st || has_fault past j m) (has_fault past i n)) (has_fault past i n) ≡ true
  by_fault past j m l st again true true true f g e = or_left (is_fault st) (has_fault past j m) (ap is_fault (same_Some st status e) ∙ fault)
  by_fault past j m l st again true true false f g e =
      let same_i : j ≡ i = grind (arith, nat_tests) in
      let same_n : m ≡ n = grind (arith, nat_tests) in
      or_right (is_fault st) (has_fault past j m) (ap (λ a. has_fault past a m) same_i ∙ (ap (has_fault past i) same_n ∙ again e))
  by_fault past j m l st again true false z f g e = again e
  by_fault past j m l st again false y z f g e = again e

  pub has : (past : List Moment) → ended_status past i n k ≡ Some status → has_fault past i n ≡ true
  has [] e = absurd (no_status status e)
  has (said (notes.Ended j (Some m) (Some l) st) ∷ past) e = by_fault past j m l st (has past) (nat_eq i j) (nat_eq n m) (nat_eq k l) refl refl e
  has (said (notes.Ended j (Some m) None st) ∷ past) e = has past e
  has (said (notes.Ended j None l st) ∷ past) e = has past e
  has (m ∷ past) e = has past e

  module _ (wild : ℕ → Bool) (own : wild i ≡ false) where
    by_last : (past : List Moment) (j m l : ℕ) (st : StatusKind) → (wild j ≡ false → l ≡ ends past j m) → ((i == j) ≡ true → has_fault past i m ≡ false) → (ended_status past i n k ≡ Some status → ends past i n ≡ suc k) → (x y z : Bool) → nat_eq i j ≡ x → nat_eq n m ≡ y → nat_eq k l ≡ z → cond x (cond y (cond z (Some st) (ended_status past i n k)) (ended_status past i n k)) (ended_status past i n k) ≡ Some status → cond x (cond y (suc (ends past j m)) (ends past i n)) (ends past i n) ≡ suc k
    by_last past j m l st number clean again true true true f g h e =
        let same_i : j ≡ i = grind (arith, nat_tests) in
        let same_k : k ≡ l = grind (arith, nat_tests) in
        let at = number (ap wild same_i ∙ own) in
        omega (arith, same_k, at)
    by_last past j m l st number clean again true true false f g h e =
        let mine : (i == j) ≡ true = grind (arith, nat_tests) in
        let same_n : m ≡ n = grind (arith, nat_tests) in
        let none : has_fault past i n ≡ false = sym (ap (has_fault past i) same_n) ∙ clean mine in
        absurd (false≢true (sym none ∙ has past e))
    by_last past j m l st number clean again true false z f g h e = again e
    by_last past j m l st number clean again false y z f g h e = again e

    pub is_last_end : (past : List Moment) → OrderLaw wild past → EachMoment (EndsAlive i) past → ended_status past i n k ≡ Some status → ends past i n ≡ suc k
    is_last_end [] law alive e = absurd (no_status status e)
    is_last_end (said (notes.Ended j (Some m) (Some l) st) ∷ past) law alive e =
        by_last past j m l st (λ o. (law.0 o).number) alive.0 (is_last_end past law.1 alive.1) (nat_eq i j) (nat_eq n m) (nat_eq k l) refl refl refl e
    is_last_end (said (notes.Ended j (Some m) None st) ∷ past) law alive e = is_last_end past law.1 alive.1 e
    is_last_end (said (notes.Ended j None l st) ∷ past) law alive e = is_last_end past law.1 alive.1 e
    is_last_end (m ∷ past) law alive e = is_last_end past law.1 alive.1 e
