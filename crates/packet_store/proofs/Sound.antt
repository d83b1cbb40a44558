-- The kept packets after each change.
use Rattle.std.proofs.Common.{◌≡◌, ◌∙◌, refl, sym, subst, ap, ℕ, ◌+◌, ◌<◌, ◌≤◌, Bool, true, false, List, [], ◌∷◌, ◌++◌, None, Some, cond, arith}
use Rattle.std.specs.Prelude.{length, ◌==◌, ◌&&◌, ◌||◌, nat_lt, not, Option}
use Rattle.std.specs.List.{filter}
use Rattle.std.proofs.lemmas.Bool.Decides.{nat_tests}
use Rattle.packet_store.specs.declared.sent.Kept.{Kept}
use Rattle.packet_store.specs.declared.transaction.Transaction.{Transaction}
use Rattle.packet_store.specs.Kept.{without, with_delivered, found, flying, is_delivered, recent, AreBelow}
use Rattle.packet_store.specs.Stored.{by_bus_rule, stays, newest}
use Rattle.packet_store.specs.declared.sent.Sent.{Sent}
use Rattle.packet_store.specs.Sound.{IsKept, AreKept, is_earlier, withdrawn}
use Rattle.packet_store.proofs.Same.{differs}

lower : (last since low next : ℕ) (ks : List Kept) → low ≤ next → AreKept last since next ks → AreKept last since low ks
lower last since low next [] l h = tt
lower last since low next (k ∷ ks) l h = (record { above = omega (arith, h.0.above, l); below = h.0.below; recent = h.0.recent }, h.1)

-- what stands behind a serial knows nothing of it
record Apart (last since low s : ℕ) (ks : List Kept) : Type 0 where
  none : without s ks ≡ ks
  undelivered : with_delivered s ks ≡ ks

apart : (last since low s : ℕ) (ks : List Kept) → AreKept last since low ks → s ≤ low → Apart last since low s ks
apart last since low s [] h l = record { none = refl; undelivered = refl }
apart last since low s (k ∷ ks) h l =
    let up = h.0.above in
    let ind = apart last since k.serial s ks h.1 (omega (arith, up, l)) in
    let d : (s == k.serial) ≡ false = differs s k.serial (λ eq. absurd (omega (arith, eq, up, l))) in
    record {
      none = rw d (ap (λ xs. k ∷ xs) ind.none);
      undelivered = rw d (ap (λ xs. k ∷ xs) ind.undelivered);
    }

-- ---- a packet less
less_step : (last since low s : ℕ) (k : Kept) (ks : List Kept) (b : Bool) → (s == k.serial) ≡ b → AreKept last since low (k ∷ ks) → AreKept last since k.serial (without s ks) → AreKept last since low (without s (k ∷ ks))
less_step last since low s k ks true d h ind =
    let up = h.0.above in
    let eq : s ≡ k.serial = grind (arith, nat_tests) in
    let a = apart last since k.serial s ks h.1 (omega (arith, eq)) in
    rw (d, a.none) (lower last since low k.serial ks (omega (arith, up)) h.1)
less_step last since low s k ks false d h ind = rw d (h.0, ind)

less : (last since low s : ℕ) (ks : List Kept) → AreKept last since low ks → AreKept last since low (without s ks)
less last since low s [] h = tt
less last since low s (k ∷ ks) h = less_step last since low s k ks (s == k.serial) refl h (less last since k.serial s ks h.1)

pub sound_less : (kept after : List Kept) (last since s : ℕ) → AreKept last since 0 kept → after ≡ without s kept → AreKept last since 0 after
sound_less kept after last since s t a = subst (AreKept last since 0) (sym a) (less last since 0 s kept t)

-- ---- a packet delivered
marked_step : (last since low s : ℕ) (k : Kept) (ks : List Kept) (b : Bool) → (s == k.serial) ≡ b → since < s → AreKept last since low (k ∷ ks) → AreKept last since k.serial (with_delivered s ks) → AreKept last since low (with_delivered s (k ∷ ks))
marked_step last since low s k ks true d l h ind =
    let eq : s ≡ k.serial = grind (arith, nat_tests) in
    let a = apart last since k.serial s ks h.1 (omega (arith, eq)) in
    let recent : since < k.serial = omega (arith, eq, l) in
    rw (d, a.undelivered) (record { above = h.0.above; below = h.0.below; recent = λ _. recent }, h.1)
marked_step last since low s k ks false d l h ind = rw d (h.0, ind)

marked : (last since low s : ℕ) (ks : List Kept) → since < s → AreKept last since low ks → AreKept last since low (with_delivered s ks)
marked last since low s [] l h = tt
marked last since low s (k ∷ ks) l h = marked_step last since low s k ks (s == k.serial) refl l h (marked last since k.serial s ks l h.1)

pub sound_delivered : (kept after : List Kept) (last since s : ℕ) → since < s → AreKept last since 0 kept → after ≡ with_delivered s kept → AreKept last since 0 after
sound_delivered kept after last since s b t a = subst (AreKept last since 0) (sym a) (marked last since 0 s kept b t)

-- ---- withdrawing
filtered_step : (last since low : ℕ) (k : Kept) (rest : List Kept) (b : Bool) → IsKept last since low k → AreKept last since k.serial rest → AreKept last since low (cond b (k ∷ rest) rest)
filtered_step last since low k rest true h r = (h, r)
filtered_step last since low k rest false h r = let up = h.above in lower last since low k.serial rest (omega (arith, up)) r

withdrawn_kept : (t : Transaction) (n last since low : ℕ) (ks : List Kept) → AreKept last since low ks → AreKept last since low (withdrawn t n ks)
withdrawn_kept t n last since low [] h = tt
withdrawn_kept t n last since low (k ∷ ks) h = filtered_step last since low k (withdrawn t n ks) (not (is_earlier t n k)) h.0 (withdrawn_kept t n last since k.serial ks h.1)

pub sound_ruled : (begun : Option Transaction) (n last since : ℕ) (ks : List Kept) → AreKept last since 0 ks → AreKept last since 0 (by_bus_rule begun n ks)
sound_ruled None n last since ks h = h
sound_ruled (Some t) n last since ks h = withdrawn_kept t n last since 0 ks h

-- ---- the delivered packet that is not recent any more
ltb_of : (a b : ℕ) → a < b → nat_lt a b ≡ true
ltb_of a b h = grind (arith, nat_tests)

or_true : (b x : Bool) → x ≡ true → (b || x) ≡ true
or_true true x e = refl
or_true false x e = e

cons_cond : (k : Kept) (b : Bool) (xs ys : List Kept) → k ∷ cond b xs ys ≡ cond b (k ∷ xs) (k ∷ ys)
cons_cond k true xs ys = refl
cons_cond k false xs ys = refl

above_of : (b : Bool) (aged serial : ℕ) → b ≡ false → (b || nat_lt aged serial) ≡ true → aged < serial
above_of true aged serial f e = cc f
above_of false aged serial f e = grind (arith, nat_tests)

pub all_stay : (last since low aged : ℕ) (ks : List Kept) → AreKept last since low ks → aged ≤ low → filter (stays aged) ks ≡ ks
all_stay last since low aged [] h l = refl
all_stay last since low aged (k ∷ ks) h l =
    let up = h.0.above in
    let n : nat_lt aged k.serial ≡ true = ltb_of aged k.serial (omega (arith, up, l)) in
    rw (or_true k.in_flight (nat_lt aged k.serial) n) (ap (λ xs. k ∷ xs) (all_stay last since k.serial aged ks h.1 (omega (arith, up, l))))

abbrev pub without_aged : Bool → ℕ → List Kept → List Kept
without_aged b aged ks = cond b (without aged ks) ks

aged_here : (last since low aged : ℕ) (k : Kept) (ks : List Kept) (b : Bool) → k.in_flight ≡ b → (aged == k.serial) ≡ true → AreKept last since low (k ∷ ks) → cond (b || nat_lt aged k.serial) (k ∷ ks) ks ≡ cond (not b) ks (k ∷ ks)
aged_here last since low aged k ks true f d h = refl
aged_here last since low aged k ks false f d h =
    let n : nat_lt aged k.serial ≡ false = grind (arith, nat_tests) in
    rw n refl

stays_on : (last since low aged : ℕ) (k : Kept) (b : Bool) → k.in_flight ≡ b → (aged == k.serial) ≡ false → aged ≤ since + 1 → IsKept last since low k → (b || nat_lt aged k.serial) ≡ true
stays_on last since low aged k true f d l h = refl
stays_on last since low aged k false f d l h =
    let r = h.recent f in
    ltb_of aged k.serial (grind (arith, nat_tests))

aged_step : (last since low aged : ℕ) (k : Kept) (ks : List Kept) (b : Bool) → (aged == k.serial) ≡ b → aged ≤ since + 1 → AreKept last since low (k ∷ ks) → filter (stays aged) ks ≡ without_aged (is_delivered (found aged ks)) aged ks → filter (stays aged) (k ∷ ks) ≡ without_aged (is_delivered (cond b (Some k) (found aged ks))) aged (k ∷ ks)
aged_step last since low aged k ks true d l h ind =
    let a = apart last since k.serial aged ks h.1 (grind (arith, nat_tests)) in
    let s = all_stay last since k.serial aged ks h.1 (grind (arith, nat_tests)) in
    rw (s, d, a.none) (aged_here last since low aged k ks k.in_flight refl d h)
aged_step last since low aged k ks false d l h ind =
    rw (stays_on last since low aged k k.in_flight refl d l h.0, d) (ap (λ xs. k ∷ xs) ind ∙ cons_cond k (is_delivered (found aged ks)) (without aged ks) ks)

pub aged_list : (last since low aged : ℕ) (ks : List Kept) → aged ≤ since + 1 → AreKept last since low ks → filter (stays aged) ks ≡ without_aged (is_delivered (found aged ks)) aged ks
aged_list last since low aged [] l h = refl
aged_list last since low aged (k ∷ ks) l h =
    aged_step last since low aged k ks (aged == k.serial) refl l h (aged_list last since k.serial aged ks l h.1)

raised_step : (last since low aged : ℕ) (k : Kept) (rest : List Kept) (b : Bool) → stays aged k ≡ b → AreKept last since low (cond b (k ∷ rest) rest) → (AreKept last since k.serial rest → AreKept last aged k.serial rest) → (AreKept last since low rest → AreKept last aged low rest) → AreKept last aged low (cond b (k ∷ rest) rest)
raised_step last since low aged k rest true s h ind other =
    (record { above = h.0.above; below = h.0.below; recent = λ f. above_of k.in_flight aged k.serial f s }, ind h.1)
raised_step last since low aged k rest false s h ind other = other h

raised : (last since low aged : ℕ) (ks : List Kept) → AreKept last since low (filter (stays aged) ks) → AreKept last aged low (filter (stays aged) ks)
raised last since low aged [] h = tt
raised last since low aged (k ∷ ks) h =
    raised_step last since low aged k (filter (stays aged) ks) (stays aged k) refl h
    (λ r. raised last since k.serial aged ks r) (λ r. raised last since low aged ks r)

pub sound_raised : (before kept : List Kept) (last since aged : ℕ) → kept ≡ filter (stays aged) before → AreKept last since 0 kept → AreKept last aged 0 kept
sound_raised before kept last since aged e t = subst (AreKept last aged 0) (sym e) (raised last since 0 aged before (subst (AreKept last since 0) e t))

-- ---- a packet more
kept_pushed : (last since low s : ℕ) (sent : Sent) (ks : List Kept) → last < s → low < s → AreKept last since low ks → AreKept s since low (ks ++ newest s sent ∷ [])
kept_pushed last since low s sent [] l u h = (record { above = u; below = omega arith; recent = λ x. cc x }, tt)
kept_pushed last since low s sent (k ∷ ks) l u h =
    let b = h.0.below in (
      record { above = h.0.above; below = omega (arith, b, l); recent = h.0.recent },
      kept_pushed last since k.serial s sent ks l (omega (arith, b, l)) h.1,
    )

pub sound_pushed : (kept now : List Kept) (last since : ℕ) (sent : Sent) → AreKept last since 0 kept → now ≡ kept ++ newest (last + 1) sent ∷ [] → AreKept (last + 1) since 0 now
sound_pushed kept now last since sent t e =
    subst (AreKept (last + 1) since 0) (sym e) (kept_pushed last since 0 (last + 1) sent kept (omega arith) (omega arith) t)

kept_below : (last since low s : ℕ) (ks : List Kept) → last < s → AreKept last since low ks → AreBelow s ks
kept_below last since low s [] l h = tt
kept_below last since low s (k ∷ ks) l h = let b = h.0.below in (omega (arith, b, l), kept_below last since k.serial s ks l h.1)

pub are_below : (kept : List Kept) (last since : ℕ) → AreKept last since 0 kept → AreBelow (last + 1) kept
are_below kept last since t = kept_below last since 0 (last + 1) kept (omega arith) t

count_step : (since : ℕ) (k : Kept) (ks : List Kept) (b : Bool) → k.in_flight ≡ b → (b ≡ false → since < k.serial) → length ks ≡ length (flying ks) + length (recent since ks) → length (k ∷ ks) ≡ length (cond b (k.serial ∷ flying ks) (flying ks)) + length (cond (not b && nat_lt since k.serial) (k ∷ recent since ks) (recent since ks))
count_step since k ks true e h ind = omega (arith, ind)
count_step since k ks false e h ind = rw (ltb_of since k.serial (h refl)) (omega (arith, ind))

-- each kept packet is in flight or a recent delivered one
pub kept_counted : (last since low : ℕ) (ks : List Kept) → AreKept last since low ks → length ks ≡ length (flying ks) + length (recent since ks)
kept_counted last since low [] h = refl
kept_counted last since low (k ∷ ks) h = count_step since k ks k.in_flight refl h.0.recent (kept_counted last since k.serial ks h.1)
