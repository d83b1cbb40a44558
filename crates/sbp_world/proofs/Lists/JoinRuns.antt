-- Each list of an initiator began in a generation that the target has seen. So a write of ORB_POINTER that waits in the target's generation is for the
-- latest list.
use Rattle.sbp_world.proofs.Words.Std.{arith, ◌≡◌, ◌∙◌, refl, sym, ap, subst, ℕ, suc, ◌<◌, ◌≤◌, ◌==◌, nat_eq, nat_lt, Bool, true, false, cond, List, [], ◌∷◌, Some, nat_tests, false≢true}
use Rattle.sbp_world.proofs.Words.Wire.{Moment, asked, said, Sending, terms}
use Rattle.sbp_world.proofs.Words.Laws.{lists, EachMoment}
use Rattle.sbp_world.proofs.Words.World.{MayAppend, MayStand, PointersAt, begun_in, pointed_list, IsCalm}
use Rattle.sbp_journal.specs.declared.note.Note.TheVariants as notes
use Rattle.sbp_world.proofs.Lists.Generations.{not_lower}
use Rattle.sbp_world.proofs.Lists.Joins.{Begins}
use Rattle.sbp_world.proofs.Lists.Rises.{Rises}

module _ (i m : ℕ) where
  at_both : (b : Bool) (f g : ℕ → ℕ → ℕ) → (cond b f g) i m ≡ cond b (f i m) (g i m)
  at_both true f g = refl
  at_both false f g = refl

  -- an append
  module _ (past : List Moment) (j n k top : ℕ) (ih : m < lists past i → begun_in past i m ≤ top) (low : (j == i) ≡ true → (terms past).generation (suc i) ≤ top) (may : (j == i) ≡ true → MayAppend past i n k) where
    first : i ≡ j → nat_eq k 0 ≡ true → (c : Bool) → nat_eq m n ≡ c → m < suc (lists past j) → cond c ((terms past).generation (suc j)) (begun_in past i m) ≤ top
    first same z true e b = subst (λ x. (terms past).generation (suc x) ≤ top) same (low (let y : nat_eq j i ≡ true = grind (arith, nat_tests) in y))
    first same z false e b =
        let a = may (let y : nat_eq j i ≡ true = grind (arith, nat_tests) in y) in
        let is : n ≡ lists past i = (a.first (grind (arith, nat_tests))).1 in
        let own : lists past j ≡ lists past i = ap (lists past) (sym same) in
        let other : m ≡ n → ⊥ = λ f. false≢true (sym e ∙ (let y : nat_eq m n ≡ true = grind (arith, nat_tests) in y)) in
        ih (grind arith)

    by_append : (b : Bool) → nat_eq k 0 ≡ b → (c : Bool) → nat_eq i j ≡ c → m < cond c (cond b (suc (lists past j)) (lists past j)) (lists past i) → cond b (cond c (cond (nat_eq m n) ((terms past).generation (suc j)) (begun_in past i m)) (begun_in past i m)) (begun_in past i m) ≤ top
    by_append true z true e b = first (grind (arith, nat_tests)) z (nat_eq m n) refl b
    by_append true z false e b = ih b
    by_append false z true e b = ih (subst (λ x. m < lists past x) (let y : j ≡ i = grind (arith, nat_tests) in y) b)
    by_append false z false e b = ih b

  pub begun_low : (past : List Moment) → Begins i past → Rises past → EachMoment (MayStand i) past → m < lists past i → begun_in past i m ≤ (terms past).generation 0
  begun_low [] b r a l = absurd (omega (arith, l))
  begun_low (asked line event ∷ past) b r a l =
      let x = begun_low past b.1 r.1 a.1 l in
      let y = not_lower 0 (asked line event) past r.0 in
      omega (arith, x, y)
  begun_low (said (notes.Append j n k cdb buffer) ∷ past) b r a l =
      subst (λ x. x ≤ (terms past).generation 0) (sym (at_both (nat_eq k 0) _ (begun_in past)))
      (by_append past j n k ((terms past).generation 0) (begun_low past b.1 r.1 a.1) b.0 a.0 (nat_eq k 0) refl (nat_eq i j) refl l)
  begun_low (said note ∷ past) b r a l =
      let x = begun_low past b.1 r.1 a.1 l in
      let y = not_lower 0 (said note) past r.0 in
      omega (arith, x, y)

-- a write that waits
pub waits_latest : (past : List Moment) (i : ℕ) → Begins i past → Rises past → EachMoment (MayStand i) past → PointersAt past i → IsCalm past i → (serial n : ℕ) (sent : Sending) → (terms past).sent serial ≡ Some sent → pointed_list past serial i ≡ Some n → sent.generation ≡ (terms past).generation 0 → (terms past).news serial ≡ 0 → suc n ≡ lists past i
waits_latest past i b r a p calm serial n sent is pointed current fresh = by (nat_lt (suc n) (lists past i)) refl
  where
    by : (c : Bool) → nat_lt (suc n) (lists past i) ≡ c → suc n ≡ lists past i
    by true e =
        let l : suc n < lists past i = grind (arith, nat_tests) in
        let x = p.later calm n serial sent pointed is fresh (suc n) (omega arith) l in
        let y = begun_low i (suc n) past b r a l in
        absurd (omega (arith, x, y, current))
    by false e =
        let x = (p.each n serial pointed).begun in
        let y : lists past i ≤ suc n = grind (arith, nat_tests) in
        omega (arith, x, y)
