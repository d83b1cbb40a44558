-- What a queue keeps of its submissions is what its journal says.
use Rattle.std.proofs.Common.{◌≡◌, ◌∙◌, sym, ap, subst, refl, ℕ, zero, suc, ◌+◌, ◌==◌, nat_eq, Bool, true, false, cond, Option, Some, None, arith, eqb-true}
use Rattle.sbp_base.specs.Update.{upd}
use Rattle.orb_layout.specs.declared.status.StatusKind.{StatusKind}
use Rattle.sbp_world.proofs.Common.{itself}
use Rattle.retry_queue.specs.Kept.{Kept, appended, dropped, taken}
use Rattle.retry_queue.specs.Known.{Known, begins_list, finishes, is_final}
use Rattle.retry_queue.specs.Pump.{next_by}

pub record Counts (k : Kept) (known : Known) (present : Option ℕ) (appends : ℕ → ℕ) : Type 0 where
  pub done : k.done ≡ known.done
  pub next : k.next ≡ next_by present known appends
  pub first : (n : ℕ) → present ≡ Some n → k.first ≡ known.first n

-- a term of lists with one more at a list
abbrev pub one_more : (ℕ → ℕ) → ℕ → ℕ → ℕ
one_more appends n j = cond (nat_eq j n) (suc (appends n)) (appends j)

some_of : (a b : ℕ) → Some a ≡ Some b → a ≡ b
some_of a b e = cc e

-- a list begins
pub list_begins : (n : ℕ) (k : Kept) (known : Known) (present : Option ℕ) (appends : ℕ → ℕ) → zero ≡ appends n → Counts k known present appends → Counts (appended zero k) (begins_list n known) (Some n) (one_more appends n)
list_begins n k known present appends none c = record {
  done = c.done;
  next =
      ap (λ done. done + 1) c.done
      ∙ ap (λ count. known.done + suc count) none
      ∙ sym (ap (λ (t : Bool). cond t known.done (known.first n) + cond t (suc (appends n)) (appends n)) (itself n));
  first = λ m e. c.done ∙ subst (λ other. known.done ≡ cond (nat_eq other n) known.done (known.first other)) (some_of n m e) (sym (ap (λ t. cond t known.done (known.first n)) (itself n)));
}

-- it gets an ORB more
later : (j : ℕ) (k : Kept) → appended (suc j) k ≡ record k { next = k.next + 1 }
later j k = by (suc j == 0) refl
  where
    by : (t : Bool) → (suc j == 0) ≡ t → cond t (record k { is_dead = false; first = k.done; next = k.done + 1 }) (record k { next = k.next + 1 }) ≡ record k { next = k.next + 1 }
    by true e = absurd (let same : suc j ≡ 0 = eqb-true (suc j) 0 e in cc same)
    by false e = refl

pub list_grows : (j n : ℕ) (k : Kept) (known : Known) (present : Option ℕ) (appends : ℕ → ℕ) → present ≡ Some n → Counts k known present appends → Counts (appended (suc j) k) known (Some n) (one_more appends n)
list_grows j n k known present appends is c =
    subst (λ now. Counts now known (Some n) (one_more appends n)) (sym (later j k)) (record {
      done = c.done;
      next =
          let before : k.next ≡ known.first n + appends n = c.next ∙ ap (λ p. next_by p known appends) is in
          let more : k.next + 1 ≡ known.first n + suc (appends n) = omega (arith, before) in
          more ∙ sym (ap (λ (t : Bool). known.first n + cond t (suc (appends n)) (appends n)) (itself n));
      first = λ m e. c.first m (is ∙ e);
    })

pub list_drops : (k : Kept) (known : Known) (present : Option ℕ) (appends : ℕ → ℕ) → Counts k known present appends → Counts (dropped k) known None appends
list_drops k known present appends c = record { done = c.done; next = c.done; first = λ n e. absurd (cc e) }

-- a status is taken of an ORB of the present list
pub status_taken : (n m : ℕ) (status : StatusKind) (k : Kept) (known : Known) (present : Option ℕ) (appends : ℕ → ℕ) → present ≡ Some n → Counts k known present appends → Counts (taken status k) (finishes n m status known) present appends
status_taken n m status k known None appends is c = absurd (cc is)
status_taken n m status k known (Some list) appends is c =
    elim (is_final status) as (λ t. Counts (record k { is_dead = (taken status k).is_dead; done = cond t (k.done + 1) k.done }) (cond t (record known { done = suc known.done; has = upd known.has (known.first n + m) true }) known) (Some list) appends) [
      | true ↦ record { done = (let same = c.done in omega (arith, same)); next = c.next; first = c.first }
      | false ↦ record { done = c.done; next = c.next; first = c.first }
    ]

-- an ORB behind ORB 0 is of the present list
pub grows_present : (j n lists : ℕ) (present : Option ℕ) (list : ℕ) → (present ≡ None → list ≡ lists) → ((m : ℕ) → present ≡ Some m → list ≡ m) → n ≡ list → (cond (suc j == 0) n (suc n)) ≡ lists → present ≡ Some n
grows_present j n lists None list none some e is = by (suc j == 0) refl
  where
    by : (t : Bool) → (suc j == 0) ≡ t → None ≡ Some n
    by true q = absurd (let same : suc j ≡ 0 = eqb-true (suc j) 0 q in cc same)
    by false q = absurd (let same = none refl in let far : suc n ≡ lists = sym (ap (λ t. cond t n (suc n)) q) ∙ is in omega (arith, e, same, far))
grows_present j n lists (Some m) list none some e is = ap Some (sym (e ∙ some m refl))
