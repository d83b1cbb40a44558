-- How many kept packets in flight pass a test, where each that does is of an initiator, and two of one initiator are the same: as many as there are initiators, at most.
use Rattle.sbp_world.proofs.Words.Std.{arith, ◌≡◌, ◌∙◌, refl, ap, ◌<◌, ◌≤◌, ◌+◌, ◌&&◌, ℕ, zero, suc, nat_eq, nat_lt, Bool, true, false, cond, List, [], ◌∷◌, Some, nat_tests}
use Rattle.sbp_world.proofs.Words.Wire.{Kept, Rise, Sent, found_sent, sent_of, found}
use Rattle.packet_store.specs.Weights.{weight}
use Rattle.sbp_world.proofs.Common.{and_first, and_second, itself, untrue}

-- ---- what is known of each kept packet
abbrev pub Each : (ℕ → Sent → Type 0) → List Kept → Type 0
Each P [] = Unit {0}
Each P (k ∷ kept) = P k.serial k.sent × Each P kept

pub each_map : (P Q : ℕ → Sent → Type 0) → ((serial : ℕ) (sent : Sent) → P serial sent → Q serial sent) → (kept : List Kept) → Each P kept → Each Q kept
each_map P Q f [] e = tt
each_map P Q f (k ∷ kept) e = (f k.serial k.sent e.0, each_map P Q f kept e.1)

-- their serials rise, so each is found under its own
module _ (P : ℕ → Sent → Type 0) (last : ℕ) where
  pub each_found : (low : ℕ) (kept : List Kept) → Rise low last kept → ((serial : ℕ) (sent : Sent) → low < serial → found_sent serial kept ≡ Some sent → P serial sent) → Each P kept
  each_found low [] r h = tt
  each_found low (k ∷ kept) r h =
      let up = r.0 in
      let first : found_sent k.serial (k ∷ kept) ≡ Some k.sent = ap (λ b. sent_of (cond b (Some k) (found k.serial kept))) (itself k.serial) in
      (h k.serial k.sent up first, each_found k.serial kept r.1.1 (λ serial sent above e. h serial sent (omega (arith, up, above)) (skipped serial above ∙ e)))
    where
      skipped : (serial : ℕ) → k.serial < serial → found_sent serial (k ∷ kept) ≡ found_sent serial kept
      skipped serial above =
          let other : nat_eq serial k.serial ≡ false = grind (arith, nat_tests) in
          ap (λ b. sent_of (cond b (Some k) (found serial kept))) other

-- ---- weights
pub weight_least : (f g : ℕ → Sent → ℕ) (kept : List Kept) → Each (λ serial sent. f serial sent ≤ g serial sent) kept → weight f kept ≤ weight g kept
weight_least f g [] e = omega arith
weight_least f g (k ∷ kept) e = by k.in_flight (weight_least f g kept e.1)
  where
    by : (b : Bool) → weight f kept ≤ weight g kept → cond b (f k.serial k.sent) 0 + weight f kept ≤ cond b (g k.serial k.sent) 0 + weight g kept
    by true rest = let one = e.0 in omega (arith, one, rest)
    by false rest = omega (arith, rest)

weight_adds : (f g h : ℕ → Sent → ℕ) → ((serial : ℕ) (sent : Sent) → f serial sent ≤ g serial sent + h serial sent) → (kept : List Kept) → weight f kept ≤ weight g kept + weight h kept
weight_adds f g h e [] = omega arith
weight_adds f g h e (k ∷ kept) = by k.in_flight (weight_adds f g h e kept)
  where
    by : (b : Bool) → weight f kept ≤ weight g kept + weight h kept → cond b (f k.serial k.sent) 0 + weight f kept ≤ cond b (g k.serial k.sent) 0 + weight g kept + (cond b (h k.serial k.sent) 0 + weight h kept)
    by true rest = let one = e k.serial k.sent in omega (arith, one, rest)
    by false rest = omega (arith, rest)

-- ---- tests
abbrev pub Test : Type 0
Test = ℕ → Sent → Bool

abbrev pub passes : Test → ℕ → Sent → ℕ
passes test serial sent = cond (test serial sent) 1 0

abbrev pub count : Test → List Kept → ℕ
count test kept = weight (passes test) kept

none_pass : (test : Test) (kept : List Kept) → Each (λ serial sent. test serial sent ≡ false) kept → count test kept ≡ 0
none_pass test [] e = refl
none_pass test (k ∷ kept) e = by k.in_flight (none_pass test kept e.1)
  where
    by : (b : Bool) → count test kept ≡ 0 → cond b (passes test k.serial k.sent) 0 + count test kept ≡ 0
    by true rest = let one : passes test k.serial k.sent ≡ 0 = ap {B = ℕ} (λ b. cond b 1 0) e.0 in omega (arith, one, rest)
    by false rest = omega (arith, rest)

-- at most one passes, where those that do have one serial
module _ (P : ℕ → Sent → Type 0) (test : Test) (same : (serial other : ℕ) (sent next : Sent) → P serial sent → P other next → test serial sent ≡ true → test other next ≡ true → serial ≡ other) (last : ℕ) where
  none_above : (serial : ℕ) (sent : Sent) → P serial sent → test serial sent ≡ true → (low : ℕ) (kept : List Kept) → serial ≤ low → Rise low last kept → Each P kept → Each (λ serial sent. test serial sent ≡ false) kept
  none_above serial sent p e low [] l r each = tt
  none_above serial sent p e low (k ∷ kept) l r each =
      let up = r.0 in
      (by (test k.serial k.sent) refl, none_above serial sent p e k.serial kept (omega (arith, l, up)) r.1.1 each.1)
    where
      by : (b : Bool) → test k.serial k.sent ≡ b → b ≡ false
      by false f = refl
      by true f = let is = same serial k.serial sent k.sent p each.0 e f in let up = r.0 in absurd (omega (arith, is, up, l))

  pub one_passes : (low : ℕ) (kept : List Kept) → Rise low last kept → Each P kept → count test kept ≤ 1
  one_passes low [] r each = omega arith
  one_passes low (k ∷ kept) r each = by (test k.serial k.sent) refl (one_passes k.serial kept r.1.1 each.1)
    where
      weighs : (b : Bool) (n : ℕ) → cond b n 0 ≤ n
      weighs true n = omega arith
      weighs false n = omega arith

      by : (b : Bool) → test k.serial k.sent ≡ b → count test kept ≤ 1 → cond k.in_flight (passes test k.serial k.sent) 0 + count test kept ≤ 1
      by true e rest =
          let none = none_pass test kept (none_above k.serial k.sent each.0 e k.serial kept (omega arith) r.1.1 each.1) in
          let one : passes test k.serial k.sent ≡ 1 = ap {B = ℕ} (λ b. cond b 1 0) e in
          let most = weighs k.in_flight (passes test k.serial k.sent) in
          omega (arith, none, one, most)
      by false e rest =
          let one : passes test k.serial k.sent ≡ 0 = ap {B = ℕ} (λ b. cond b 1 0) e in
          let most = weighs k.in_flight (passes test k.serial k.sent) in
          omega (arith, one, most, rest)

-- ---- by initiator
abbrev of_one : Test → (i : ℕ) → Test
of_one test i serial sent = test serial sent && nat_eq sent.from (suc i)

abbrev of_first : Test → (many : ℕ) → Test
of_first test many serial sent = test serial sent && nat_lt sent.from (suc many)

-- who sent it is one of so many initiators
pub record IsOwned (initiators : ℕ) (sent : Sent) : Type 0 where
  pub apart : 0 < sent.from
  pub small : sent.from ≤ initiators

-- those that pass a test are so, and those of one initiator have one serial
abbrev pub AreOwned : (ℕ → Sent → Type 0) → Test → (initiators : ℕ) → Type 0
AreOwned P test initiators = (serial : ℕ) (sent : Sent) → P serial sent → test serial sent ≡ true → IsOwned initiators sent

abbrev pub AreSame : (ℕ → Sent → Type 0) → Test → (i : ℕ) → Type 0
AreSame P test i = (serial other : ℕ) (sent next : Sent) → P serial sent → P other next → test serial sent ≡ true → test other next ≡ true → sent.from ≡ suc i → next.from ≡ suc i → serial ≡ other

module _ (P : ℕ → Sent → Type 0) (test : Test) (initiators : ℕ) (owned : AreOwned P test initiators) (same : (i : ℕ) → i < initiators → AreSame P test i) (last : ℕ) (kept : List Kept) (rises : Rise 0 last kept) (each : Each P kept) where
  of_none : count (of_first test 0) kept ≡ 0
  of_none = none_pass (of_first test 0) kept (each_map P (λ serial sent. of_first test 0 serial sent ≡ false) (λ serial sent p. by serial sent p (test serial sent) refl) kept each)
    where
      by : (serial : ℕ) (sent : Sent) → P serial sent → (b : Bool) → test serial sent ≡ b → (b && nat_lt sent.from (suc 0)) ≡ false
      by serial sent p false e = refl
      by serial sent p true e = let some = (owned serial sent p e).apart in grind arith

  one_more : (many : ℕ) → count (of_first test (suc many)) kept ≤ count (of_first test many) kept + count (of_one test many) kept
  one_more many = weight_adds (passes (of_first test (suc many))) (passes (of_first test many)) (passes (of_one test many)) (λ serial sent. by sent.from (test serial sent)) kept
    where
      split : (a b c : Bool) → (a ≡ true → b ≡ false → c ≡ true) → cond a 1 0 ≤ cond b 1 0 + cond c 1 0
      split false b c h = omega arith
      split true true c h = omega arith
      split true false true h = omega arith
      split true false false h = untrue (h refl refl)

      by : (from : ℕ) (b : Bool) → cond (b && nat_lt from (suc (suc many))) 1 0 ≤ cond (b && nat_lt from (suc many)) 1 0 + cond (b && nat_eq from (suc many)) 1 0
      by from false = omega arith
      by from true = split (nat_lt from (suc (suc many))) (nat_lt from (suc many)) (nat_eq from (suc many)) (λ e f. grind (arith, nat_tests))

  of_each : (i : ℕ) → i < initiators → count (of_one test i) kept ≤ 1
  of_each i l = one_passes P (of_one test i) alone last 0 kept rises each
    where
      alone : (serial other : ℕ) (sent next : Sent) → P serial sent → P other next → of_one test i serial sent ≡ true → of_one test i other next ≡ true → serial ≡ other
      alone serial other sent next p q e f =
          let mine : nat_eq sent.from (suc i) ≡ true = and_second (test serial sent) (nat_eq sent.from (suc i)) e in
          let its : nat_eq next.from (suc i) ≡ true = and_second (test other next) (nat_eq next.from (suc i)) f in
          same i l serial other sent next p q (and_first (test serial sent) (nat_eq sent.from (suc i)) e) (and_first (test other next) (nat_eq next.from (suc i)) f) (grind (arith, nat_tests)) (grind (arith, nat_tests))

  of_many : (many : ℕ) → many ≤ initiators → count (of_first test many) kept ≤ many
  of_many zero l = let none = of_none in omega (arith, none)
  of_many (suc many) l =
      let rest = of_many many (omega (arith, l)) in
      let one = of_each many (omega (arith, l)) in
      let sum = one_more many in
      omega (arith, rest, one, sum)

  pub one_of_each : count test kept ≤ initiators
  one_of_each =
      let low = weight_least (passes test) (passes (of_first test initiators)) kept (each_map P (λ serial sent. passes test serial sent ≤ passes (of_first test initiators) serial sent) (λ serial sent p. by serial sent p (test serial sent) refl) kept each) in
      let most = of_many initiators (omega arith) in
      omega (arith, low, most)
    where
      by : (serial : ℕ) (sent : Sent) → P serial sent → (b : Bool) → test serial sent ≡ b → cond b 1 0 ≤ cond (b && nat_lt sent.from (suc initiators)) 1 0
      by serial sent p false e = omega arith
      by serial sent p true e =
          let small = (owned serial sent p e).small in
          let is : nat_lt sent.from (suc initiators) ≡ true = grind arith in
          let one : cond (nat_lt sent.from (suc initiators)) 1 0 ≡ 1 = ap {B = ℕ} (λ b. cond b 1 0) is in
          omega (arith, one)
