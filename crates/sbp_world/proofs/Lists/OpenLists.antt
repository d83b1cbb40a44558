-- An initiator's present list is its latest one.
use Rattle.sbp_world.proofs.Words.Std.{arith, ◌≡◌, ◌∙◌, refl, sym, ap, ℕ, suc, ◌==◌, nat_eq, Bool, true, false, cond, List, [], ◌∷◌, Some, None, nat_tests, none-some, same_Some}
use Rattle.sbp_world.proofs.Words.Wire.{Moment, asked, said}
use Rattle.sbp_world.proofs.Words.Laws.{present_list, lists, EachMoment}
use Rattle.sbp_world.proofs.Words.World.{MayAppend, MayStand}
use Rattle.sbp_journal.specs.declared.note.Note.TheVariants as notes

-- ---- the present list is the latest one
module _ (i n : ℕ) where
  abbrev Latest : List Moment → Type 0
  Latest ms = present_list ms i ≡ Some n → suc n ≡ lists ms i

  by_append : (ms : List Moment) (j m k : ℕ) (b : Bool) → nat_eq i j ≡ b → ((j == i) ≡ true → MayAppend ms i m k) → Latest ms → cond b (Some m) (present_list ms i) ≡ Some n → suc n ≡ cond b (cond (nat_eq k 0) (suc (lists ms j)) (lists ms j)) (lists ms i)
  by_append ms j m k false q a f e = f e
  by_append ms j m k true q a f e = by (nat_eq k 0) refl
    where
      own : i ≡ j
      own = grind (arith, nat_tests)

      may : MayAppend ms i m k
      may = a (let z : nat_eq j i ≡ true = grind (arith, nat_tests) in z)

      same : m ≡ n
      same = same_Some m n e

      by : (c : Bool) → nat_eq k 0 ≡ c → suc n ≡ cond c (suc (lists ms j)) (lists ms j)
      by true z = ap suc (sym same ∙ (may.first (grind (arith, nat_tests))).1 ∙ ap (lists ms) own)
      by false z = f (may.later (grind (arith, nat_tests)) ∙ ap Some same) ∙ ap (lists ms) own

  by_drop : (ms : List Moment) (b : Bool) → Latest ms → cond b None (present_list ms i) ≡ Some n → suc n ≡ lists ms i
  by_drop ms true f e = absurd (none-some n e)
  by_drop ms false f e = f e

  pub latest : (ms : List Moment) → EachMoment (MayStand i) ms → present_list ms i ≡ Some n → suc n ≡ lists ms i
  latest [] l e = absurd (none-some n e)
  latest (asked line event ∷ ms) l e = latest ms l.1 e
  latest (said (notes.Append j m k cdb buffer) ∷ ms) l e = by_append ms j m k (nat_eq i j) refl l.0 (latest ms l.1) e
  latest (said (notes.Drop j m) ∷ ms) l e = by_drop ms (nat_eq i j) (latest ms l.1) e
  latest (said note ∷ ms) l e = latest ms l.1 e
