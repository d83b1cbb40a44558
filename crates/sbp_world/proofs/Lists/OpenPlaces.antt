-- Who has a place stays so as other logins enter, are taken back and leave; and a place whose list is opened has that list from then on.
use Rattle.sbp_world.proofs.Words.Std.{arith, ◌≡◌, ◌∙◌, refl, sym, ap, subst, ℕ, ◌<◌, nat_eq, Bool, true, false, cond, List, length, set, Option, Some, None, position, nat_tests, common_steps, get_or-set_at, position-Some, false≢true}
use Rattle.sbp_world.proofs.Words.Wire.{Holder, back_at, back_step, enter_step, has_login, is_free, left_step, opened_by, opened_step, place_in, put_at, taken_by, decided_places, managed_places, FunctionWord}
use Rattle.std.proofs.Common.{get_or-set_other}
use Rattle.sbp_journal.specs.declared.operation.FunctionWord.TheVariants as words

-- who has a place is this
abbrev pub Has : List (Option Holder) → ℕ → Holder → Type 0
Has places p h = place_in places p ≡ Some h

set_keeps : (places : List (Option Holder)) (k p : ℕ) (x : Option Holder) (h : Holder) → (p ≡ k → ⊥) → Has places p h → Has (set places k x) p h
set_keeps places k p x h f e = get_or-set_other places k p x None f ∙ e

other_place : (test : Option Holder → Bool) (places : List (Option Holder)) (k p : ℕ) (h : Holder) → test (place_in places k) ≡ true → test (Some h) ≡ false → Has places p h → p ≡ k → ⊥
other_place test places k p h t f e same = false≢true (sym f ∙ (ap test (sym e) ∙ (ap (λ j. test (place_in places j)) same ∙ t)))

not_own : (h : Holder) (id : ℕ) → (h.login ≡ id → ⊥) → has_login id (Some h) ≡ false
not_own h id f = by (nat_eq h.login id) refl
  where
    by : (b : Bool) → nat_eq h.login id ≡ b → b ≡ false
    by true e = absurd (f (grind (arith, nat_tests)))
    by false e = refl

put_keeps : (test : Option Holder → Bool) (places : List (Option Holder)) (x : Option Holder) (p : ℕ) (h : Holder) → test (Some h) ≡ false → Has places p h → (k : Option ℕ) → position test places ≡ k → Has (put_at k x places) p h
put_keeps test places x p h f e None q = e
put_keeps test places x p h f e (Some k) q = set_keeps places k p x h (other_place test places k p h (position-Some test places k None q).1 f e) e

-- a login leaves
pub left_keeps : (places : List (Option Holder)) (id p : ℕ) (h : Holder) → (h.login ≡ id → ⊥) → Has places p h → Has (left_step id places) p h
unfolding left_step
left_keeps places id p h f e = put_keeps (has_login id) places None p h (not_own h id f) e (position (has_login id) places) refl

-- one is entered
pub enter_keeps : (places : List (Option Holder)) (new : Holder) (p : ℕ) (h : Holder) → Has places p h → Has (enter_step new places) p h
unfolding enter_step
enter_keeps places new p h e = put_keeps is_free places (Some new) p h refl e (position is_free places) refl

-- one is taken back
pub back_keeps : (places : List (Option Holder)) (id initiator p : ℕ) (h : Holder) → (h.login ≡ id → ⊥) → Has places p h → Has (back_step id initiator places) p h
unfolding back_step
back_keeps places id initiator p h f e = by (position (has_login id) places) refl
  where
    taken : (k : ℕ) (x : Option Holder) → (p ≡ k → ⊥) → Has (taken_by x k initiator places) p h
    taken k None d = e
    taken k (Some own) d = set_keeps places k p (Some (record own { initiator = initiator; list = None })) h d e

    by : (k : Option ℕ) → position (has_login id) places ≡ k → Has (back_at k initiator places) p h
    by None q = e
    by (Some k) q = taken k (place_in places k) (other_place (has_login id) places k p h (position-Some (has_login id) places k None q).1 (not_own h id f) e)

-- what a decision does: a login that is taken back is not the one of the place
pub decided_keeps : (places : List (Option Holder)) (status : ℕ) (word : FunctionWord) (subject login initiator p : ℕ) (h : Holder) → (word ≡ words.Reconnect → nat_eq status 0 ≡ true → h.login ≡ subject → ⊥) → Has places p h → Has (decided_places status word subject login initiator places) p h
decided_keeps places status word subject login initiator p h f e = by (nat_eq status 0) refl
  where
    done : (x : FunctionWord) → word ≡ x → nat_eq status 0 ≡ true → Has (managed_places x subject login initiator places) p h
    done words.Login w s = enter_keeps places _ p h e
    done words.Query w s = e
    done words.Reconnect w s = back_keeps places subject initiator p h (f w s) e
    done words.Logout w s = e
    done words.Abort w s = e
    done words.AbortSet w s = e
    done words.UnitReset w s = e
    done words.TargetReset w s = e
    done words.Other w s = e

    by : (b : Bool) → nat_eq status 0 ≡ b → Has (cond b (managed_places word subject login initiator places) places) p h
    by true s = done word refl s
    by false s = e

-- ---- a list is opened
inside : (places : List (Option Holder)) (q : ℕ) (h : Holder) → Has places q h → q < length places
inside places q h e = grind (arith, common_steps)

pub opened_here : (places : List (Option Holder)) (q : ℕ) (list : Option ℕ) (h : Holder) → Has places q h → Has (opened_step q list places) q (record h { list = list })
unfolding opened_step
opened_here places q list h e =
    subst (λ (x : Option Holder). Has (opened_by x q list places) q (record h { list = list })) (sym e)
    (get_or-set_at places q q (Some (record h { list = list })) None refl (inside places q h e))

pub opened_there : (places : List (Option Holder)) (q p : ℕ) (list : Option ℕ) (h : Holder) → (p ≡ q → ⊥) → Has places p h → Has (opened_step q list places) p h
unfolding opened_step
opened_there places q p list h f e = by (place_in places q)
  where
    by : (x : Option Holder) → Has (opened_by x q list places) p h
    by None = e
    by (Some own) = set_keeps places q p (Some (record own { list = list })) h f e
