-- What is known of the lists of a queue and of its submissions, over the values of the folds: K of its submissions, how many there are, and of
-- its lists how many ORBs were appended (A), how many statuses were taken (T), and whether one of them was failed or illegal (F). Of the
-- latest list that is more: also where it was dropped, since its ORBs may run until the target cuts it.
use Rattle.std.proofs.Common.{◌≡◌, ◌∙◌, refl, sym, ap, subst, ℕ, suc, ◌+◌, ◌<◌, ◌≤◌, Bool, true, false, cond, nat_eq, nat_lt, Option, Some, None, arith}
use Rattle.std.specs.Prelude.{◌||◌}
use Rattle.std.proofs.lemmas.Bool.Decides.{nat_tests}
use Rattle.sbp_base.specs.Update.{upd}
use Rattle.orb_layout.specs.declared.status.StatusKind.{StatusKind}
use Rattle.orb_layout.specs.declared.status.StatusKind.TheVariants as kinds
use Rattle.sbp_world.specs.Lists.Faults.{is_fault}
use Rattle.retry_queue.specs.Known.{Known, begins_list, finishes, new_known}
use Rattle.retry_queue.specs.Taking.{IsPlain}
use Rattle.retry_queue.proofs.Cases.{both_ways, none_is, some_is}

-- a list in which ORBs were appended
pub record Begun (K : Known) (count : ℕ) (A T : ℕ → ℕ) (F : ℕ → Bool) (n : ℕ) : Type 0 where
  pub some : 0 < A n
  pub made : K.first n + A n ≤ count
  pub few : T n ≤ A n
  pub alive : F n ≡ false → K.done ≡ K.first n + T n
  pub dead : F n ≡ true → suc K.done ≡ K.first n + T n

-- the latest list, the last of so many, is begun; the present one is it; and the lists to come have nothing
pub record Places (K : Known) (count : ℕ) (A T : ℕ → ℕ) (F : ℕ → Bool) (lists : ℕ) (present : Option ℕ) : Type 0 where
  pub tail : (n : ℕ) → suc n ≡ lists → Begun K count A T F n
  pub latest : (n : ℕ) → present ≡ Some n → suc n ≡ lists
  pub few : K.done ≤ count
  pub front : (q : ℕ) → K.has q ≡ nat_lt q K.done
  pub unbegun : (n : ℕ) → A n ≡ 0 → (T n ≡ 0) × (F n ≡ false)

-- a list begins at the first submission without a status
pub is_at_first : (K : Known) (n : ℕ) → (begins_list n K).first n ≡ K.done
is_at_first K n = by (nat_eq n n) refl
  where
    by : (b : Bool) → nat_eq n n ≡ b → cond b K.done (K.first n) ≡ K.done
    by true e = refl
    by false e = absurd (grind (arith, nat_tests))

-- ---- the empty journal
pub none_begun : Places new_known 0 (λ n. 0) (λ n. 0) (λ n. false) 0 None
none_begun = record {
  tail = λ n e. absurd (let no : suc n ≡ 0 = e in omega arith);
  latest = λ n e. absurd (none_is n e);
  few = omega arith;
  front = λ q. grind (arith, nat_tests);
  unbegun = λ n e. (refl, refl);
}

module _ (K : Known) (count : ℕ) (A T : ℕ → ℕ) (F : ℕ → Bool) (lists : ℕ) (present : Option ℕ) (h : Places K count A T F lists present) where
  -- ---- a write is submitted
  pub submits : Places K (suc count) A T F lists present
  submits = record {
    tail = λ n e. let b = h.tail n e in record { some = b.some; made = (let m = b.made in omega arith); few = b.few; alive = b.alive; dead = b.dead };
    latest = h.latest;
    few = (let f = h.few in omega arith);
    front = h.front;
    unbegun = h.unbegun;
  }

  -- ---- a list is dropped
  pub leaves_list : (now : Option ℕ) → ((n : ℕ) → now ≡ Some n → present ≡ Some n) → Places K count A T F lists now
  leaves_list now back = record { tail = h.tail; latest = λ n e. h.latest n (back n e); few = h.few; front = h.front; unbegun = h.unbegun }

  -- ---- an ORB is appended
  abbrev pub more : ℕ → ℕ → ℕ
  more n m = cond (nat_eq m n) (suc (A n)) (A m)

  more_here : (n : ℕ) → more n n ≡ suc (A n)
  more_here n = by (nat_eq n n) refl
    where
      by : (b : Bool) → nat_eq n n ≡ b → cond b (suc (A n)) (A n) ≡ suc (A n)
      by true e = refl
      by false e = absurd (grind (arith, nat_tests))

  -- a list to which it is appended has as many ORBs as before, or is it
  unbegun_more : (n m : ℕ) → more n m ≡ 0 → A m ≡ 0
  unbegun_more n m e = by (nat_eq m n) e
    where
      by : (b : Bool) → cond b (suc (A n)) (A m) ≡ 0 → A m ≡ 0
      by true e = absurd (let no : suc (A n) ≡ 0 = e in omega arith)
      by false e = e

  -- the first one of the next list
  pub begins : (n : ℕ) → n ≡ lists → A n ≡ 0 → K.done < count → Places (begins_list n K) count (more n) T F (suc lists) (Some n)
  begins n e none some = record {
    tail = λ m same. let at : m ≡ n = omega (arith, e, same) in subst (λ m. Begun (begins_list n K) count (more n) T F m) (sym at) begun;
    latest = λ m same. (let at = some_is n m same in omega (arith, e, at));
    few = h.few;
    front = h.front;
    unbegun = λ m z. h.unbegun m (unbegun_more n m z);
  }
    where
      begun : Begun (begins_list n K) count (more n) T F n
      begun = record {
        some = (let z = more_here n in omega (arith, z));
        made = (let z = more_here n in let f = is_at_first K n in omega (arith, z, f, none));
        few = (let t = (h.unbegun n none).0 in omega (arith, t));
        alive = λ f. (let t = (h.unbegun n none).0 in let a = is_at_first K n in omega (arith, t, a));
        dead = λ f. absurd (both_ways (F n) f (h.unbegun n none).1);
      }

  -- one more of the present list
  pub goes_on : (n : ℕ) → suc n ≡ lists → K.first n + A n < count → Places K count (more n) T F lists present
  goes_on n e room = record {
    tail = λ m same. let at : m ≡ n = omega (arith, e, same) in subst (λ m. Begun K count (more n) T F m) (sym at) begun;
    latest = h.latest;
    few = h.few;
    front = h.front;
    unbegun = λ m z. h.unbegun m (unbegun_more n m z);
  }
    where
      begun : Begun K count (more n) T F n
      begun = let b = h.tail n e in record {
        some = (let z = more_here n in omega (arith, z));
        made = (let z = more_here n in omega (arith, z));
        few = (let z = more_here n in let f = b.few in omega (arith, z));
        alive = b.alive;
        dead = b.dead;
      }

  -- ---- a status is taken
  abbrev pub one_more : ℕ → ℕ → ℕ
  one_more n m = cond (nat_eq m n) (suc (T n)) (T m)

  abbrev pub failed : ℕ → StatusKind → ℕ → Bool
  failed n status m = cond (nat_eq m n) (F n || is_fault status) (F m)

  one_more_here : (n : ℕ) → one_more n n ≡ suc (T n)
  one_more_here n = by (nat_eq n n) refl
    where
      by : (b : Bool) → nat_eq n n ≡ b → cond b (suc (T n)) (T n) ≡ suc (T n)
      by true e = refl
      by false e = absurd (grind (arith, nat_tests))

  failed_here : (n : ℕ) (status : StatusKind) (is : Bool) → is_fault status ≡ is → F n ≡ false → failed n status n ≡ is
  failed_here n status is e f = by (nat_eq n n) refl
    where
      by : (b : Bool) → nat_eq n n ≡ b → cond b (F n || is_fault status) (F n) ≡ is
      by true same = ap (λ b. b || is_fault status) f ∙ e
      by false same = absurd (grind (arith, nat_tests))

  module _ (n k : ℕ) (status : StatusKind) (last : suc n ≡ lists) (turn : k ≡ T n) (appended : k < A n) (alive : F n ≡ false) where
    -- other lists are as before
    others : (m : ℕ) → A m ≡ 0 → (one_more n m ≡ 0) × (failed n status m ≡ false)
    others m none = by (nat_eq m n) refl
      where
        by : (b : Bool) → nat_eq m n ≡ b → (cond b (suc (T n)) (T m) ≡ 0) × (cond b (F n || is_fault status) (F m) ≡ false)
        by true e = absurd (let at : m ≡ n = grind (arith, nat_tests) in let zero : A n ≡ 0 = ap A (sym at) ∙ none in omega (arith, zero))
        by false e = h.unbegun m none

    is_at : K.done ≡ K.first n + k
    is_at = (h.tail n last).alive alive ∙ ap (λ t. K.first n + t) (sym turn)

    -- one that a submission has
    abbrev pub final : Known
    final = record K { done = suc K.done; has = upd K.has (K.first n + k) true }

    pub takes_final : is_fault status ≡ false → Places final count A (one_more n) (failed n status) lists present
    takes_final plain = record {
      tail = λ m same. let at : m ≡ n = omega (arith, last, same) in subst (λ m. Begun final count A (one_more n) (failed n status) m) (sym at) begun;
      latest = h.latest;
      few = (let made = (h.tail n last).made in let at = is_at in omega (arith, at));
      front = front;
      unbegun = others;
    }
      where
        begun : Begun final count A (one_more n) (failed n status) n
        begun = let b = h.tail n last in let one = one_more_here n in record {
          some = b.some;
          made = b.made;
          few = omega (arith, one, turn);
          alive = λ f. (let at = is_at in omega (arith, one, at, turn));
          dead = λ f. absurd (both_ways (failed n status n) f (failed_here n status false plain alive));
        }

        front : (q : ℕ) → upd K.has (K.first n + k) true q ≡ nat_lt q (suc K.done)
        front q = by (nat_eq q (K.first n + k)) refl
          where
            by : (b : Bool) → nat_eq q (K.first n + k) ≡ b → cond b true (K.has q) ≡ nat_lt q (suc K.done)
            by true e = let at = is_at in grind (arith, nat_tests)
            by false e = let at = is_at in let f = h.front q in f ∙ grind (arith, nat_tests)

    -- one that is failed or illegal
    pub takes_deadly : is_fault status ≡ true → Places K count A (one_more n) (failed n status) lists present
    takes_deadly deadly = record {
      tail = λ m same. let at : m ≡ n = omega (arith, last, same) in subst (λ m. Begun K count A (one_more n) (failed n status) m) (sym at) begun;
      latest = h.latest;
      few = h.few;
      front = h.front;
      unbegun = others;
    }
      where
        begun : Begun K count A (one_more n) (failed n status) n
        begun = let b = h.tail n last in let one = one_more_here n in record {
          some = b.some;
          made = b.made;
          few = omega (arith, one, turn);
          alive = λ f. absurd (both_ways (failed n status n) (failed_here n status true deadly alive) f);
          dead = λ f. (let at = is_at in omega (arith, one, at, turn));
        }

    pub takes : IsPlain status → Places (finishes n k status K) count A (one_more n) (failed n status) lists present
    takes plain = by status refl plain
      where
        by : (s : StatusKind) → status ≡ s → IsPlain s → Places (finishes n k s K) count A (one_more n) (failed n status) lists present
        by kinds.Good e p = takes_final (ap is_fault e)
        by (kinds.Check sense) e p = takes_final (ap is_fault e)
        by (kinds.Illegal meaning) e p = takes_deadly (ap is_fault e)
        by kinds.Failed e p = takes_deadly (ap is_fault e)
        by kinds.Dummy e p = absurd p
        by kinds.Aborted e p = absurd p
        by (kinds.Management meaning) e p = absurd p
