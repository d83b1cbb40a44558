-- The weight of the packets in flight, as packets are sent, delivered and lost.
use Rattle.std.proofs.Common.{arith, ◌≡◌, ◌∙◌, refl, sym, ap, ℕ, ◌+◌, ◌≤◌, nat_eq, Bool, true, false, cond, List, [], ◌∷◌, ◌++◌, Option, Some, None}
use Rattle.std.specs.Prelude.{◌*◌, length, ◌-◌, ◌==◌, nat_lt, not, filter}
use Rattle.std.proofs.lemmas.Bool.Decides.{nat_tests}
use Rattle.packet_store.specs.declared.sent.Sent.{Sent}
use Rattle.packet_store.specs.declared.sent.Kept.{Kept}
use Rattle.packet_store.specs.declared.transaction.Transaction.{Transaction}
use Rattle.packet_store.specs.Transactions.{begun_by}
use Rattle.packet_store.specs.Kept.{flying, found, with_delivered, without}
use Rattle.packet_store.specs.Stored.{Stored, by_bus_rule, deliver_step, newest, stays, with_sent}
use Rattle.packet_store.specs.Weights.{weight_at, weight, WeightLaw}

-- what is found under a serial has it
found_serial : (serial : ℕ) (kept : List Kept) (k : Kept) → found serial kept ≡ Some k → k.serial ≡ serial
found_serial serial [] k e = absurd (let none : None ≡ Some k = e in cc)
found_serial serial (first ∷ kept) k e = by (nat_eq serial first.serial) refl e (found_serial serial kept k)
  where
    by : (b : Bool) → nat_eq serial first.serial ≡ b → cond b (Some first) (found serial kept) ≡ Some k → (found serial kept ≡ Some k → k.serial ≡ serial) → k.serial ≡ serial
    by true t h again = (let one : first ≡ k = cc in let same = ap (λ (x : Kept). x.serial) one in let is : serial ≡ first.serial = grind (arith, nat_tests) in sym same ∙ sym is)
    by false t h again = again h

module _ (f : ℕ → Sent → ℕ) where
  -- those that stay weigh no more than all
  filter_most : (test : Kept → Bool) (kept : List Kept) → weight f (filter test kept) ≤ weight f kept
  filter_most test [] = omega arith
  filter_most test (k ∷ kept) = by (test k) (filter_most test kept)
    where
      by : (b : Bool) → weight f (filter test kept) ≤ weight f kept → weight f (cond b (k ∷ filter test kept) (filter test kept)) ≤ weight_at f k + weight f kept
      by true l = omega (arith, l)
      by false l = omega (arith, l)

  one_more : (kept : List Kept) (k : Kept) → weight f (kept ++ k ∷ []) ≡ weight f kept + weight_at f k
  one_more [] k = omega arith
  one_more (first ∷ kept) k = let rest = one_more kept k in omega (arith, rest)

  ruled_most : (t : Option Transaction) (last : ℕ) (kept : List Kept) → weight f (by_bus_rule t last kept) ≤ weight f kept
  ruled_most None last kept = omega arith
  ruled_most (Some t) last kept = filter_most _ kept

  sent_most : (q : Sent) (last : ℕ) (kept : List Kept) → weight f (with_sent q last kept) ≤ weight f kept + f last q
  sent_most q last kept =
      let all = kept ++ newest last q ∷ [] in
      let stay = filter_most (stays (last - 1024)) (by_bus_rule (begun_by q) last all) in
      let ruled = ruled_most (begun_by q) last all in
      let more = one_more kept (newest last q) in
      omega (arith, stay, ruled, more)

  -- a packet in flight weighs what was sent under its serial
  flying_weight : (serial : ℕ) (k : Kept) (q : Sent) → k.serial ≡ serial → k.in_flight ≡ true → k.sent ≡ q → weight_at f k ≡ f serial q
  flying_weight serial k q n e g = ap (λ b. cond b (f k.serial k.sent) 0) e ∙ (ap (λ m. f m k.sent) n ∙ ap (f serial) g)

  -- a packet's weight is taken away
  abbrev Takes : (after before : List Kept) → Kept → Type 0
  Takes after before k = weight f after + weight_at f k ≤ weight f before

  -- without the packets of a serial
  without_most : (serial : ℕ) (kept : List Kept) → weight f (without serial kept) ≤ weight f kept
  without_most serial kept = filter_most (λ k. not (serial == k.serial)) kept

  without_less : (serial : ℕ) (kept : List Kept) (k : Kept) → found serial kept ≡ Some k → Takes (without serial kept) kept k
  without_less serial [] k e = absurd (let none : None ≡ Some k = e in cc)
  without_less serial (first ∷ kept) k e = by (nat_eq serial first.serial) e (without_less serial kept k)
    where
      by : (b : Bool) → cond b (Some first) (found serial kept) ≡ Some k → (found serial kept ≡ Some k → Takes (without serial kept) kept k) → Takes (cond (not b) (first ∷ without serial kept) (without serial kept)) (first ∷ kept) k
      by true h again = (let one : first ≡ k = cc in let same : weight_at f first ≡ weight_at f k = ap (weight_at f) one in let rest = without_most serial kept in omega (arith, same, rest))
      by false h again = (let rest = again h in omega (arith, rest))

  -- with those of a serial delivered
  delivered_most : (serial : ℕ) (kept : List Kept) → weight f (with_delivered serial kept) ≤ weight f kept
  delivered_most serial [] = omega arith
  delivered_most serial (k ∷ kept) = by (nat_eq serial k.serial) (delivered_most serial kept)
    where
      by : (b : Bool) → weight f (with_delivered serial kept) ≤ weight f kept → weight_at f (cond b (record k { in_flight = false }) k) + weight f (with_delivered serial kept) ≤ weight_at f k + weight f kept
      by true l = omega (arith, l)
      by false l = omega (arith, l)

  delivered_less : (serial : ℕ) (kept : List Kept) (k : Kept) → found serial kept ≡ Some k → Takes (with_delivered serial kept) kept k
  delivered_less serial [] k e = absurd (let none : None ≡ Some k = e in cc)
  delivered_less serial (first ∷ kept) k e = by (nat_eq serial first.serial) e (delivered_less serial kept k)
    where
      by : (b : Bool) → cond b (Some first) (found serial kept) ≡ Some k → (found serial kept ≡ Some k → Takes (with_delivered serial kept) kept k) → Takes (cond b (record first { in_flight = false }) first ∷ with_delivered serial kept) (first ∷ kept) k
      by true h again = (let one : first ≡ k = cc in let same : weight_at f first ≡ weight_at f k = ap (weight_at f) one in let rest = delivered_most serial kept in omega (arith, same, rest))
      by false h again = (let rest = again h in omega (arith, rest))

  -- a delivery keeps the packet as delivered, or not at all
  deliver_most : (s : Stored) (serial : ℕ) → weight f (deliver_step s serial).kept ≤ weight f s.kept
  deliver_most s serial = by (nat_lt (s.last - 1024) serial)
    where
      by : (b : Bool) → weight f (cond b (with_delivered serial s.kept) (without serial s.kept)) ≤ weight f s.kept
      by true = delivered_most serial s.kept
      by false = without_most serial s.kept

  deliver_less : (s : Stored) (serial : ℕ) (k : Kept) → found serial s.kept ≡ Some k → Takes (deliver_step s serial).kept s.kept k
  deliver_less s serial k e = by (nat_lt (s.last - 1024) serial)
    where
      by : (b : Bool) → Takes (cond b (with_delivered serial s.kept) (without serial s.kept)) s.kept k
      by true = delivered_less serial s.kept k e
      by false = without_less serial s.kept k e

pub weight_law : WeightLaw
weight_law f s = record {
  sends = λ q. sent_most f q (s.last + 1) s.kept;
  delivers = λ serial q h. (let less = deliver_less f s serial h.kept_as h.found in let named = found_serial serial s.kept h.kept_as h.found in let own = flying_weight f serial h.kept_as q named h.flies h.is_sent in omega (arith, less, own));
  loses = λ serial q h. (let less = without_less f serial s.kept h.kept_as h.found in let named = found_serial serial s.kept h.kept_as h.found in let own = flying_weight f serial h.kept_as q named h.flies h.is_sent in omega (arith, less, own));
  delivers_any = deliver_most f s;
  loses_any = λ serial. without_most f serial s.kept;
}

-- one weight below another, and two as one
pub weighs_less : (f g : ℕ → Sent → ℕ) (kept : List Kept) → ((serial : ℕ) (q : Sent) → f serial q ≤ g serial q) → weight f kept ≤ weight g kept
weighs_less f g [] l = omega arith
weighs_less f g (k ∷ kept) l = by k.in_flight (l k.serial k.sent) (weighs_less f g kept l)
  where
    by : (b : Bool) → f k.serial k.sent ≤ g k.serial k.sent → weight f kept ≤ weight g kept → cond b (f k.serial k.sent) 0 + weight f kept ≤ cond b (g k.serial k.sent) 0 + weight g kept
    by true one rest = omega (arith, one, rest)
    by false one rest = omega (arith, rest)

abbrev pub both : (f g : ℕ → Sent → ℕ) → ℕ → Sent → ℕ
both f g serial q = f serial q + g serial q

pub weighs_both : (f g : ℕ → Sent → ℕ) (kept : List Kept) → weight (both f g) kept ≡ weight f kept + weight g kept
weighs_both f g [] = refl
weighs_both f g (k ∷ kept) = by k.in_flight (weighs_both f g kept)
  where
    by : (b : Bool) → weight (both f g) kept ≡ weight f kept + weight g kept → cond b (both f g k.serial k.sent) 0 + weight (both f g) kept ≡ (cond b (f k.serial k.sent) 0 + weight f kept) + (cond b (g k.serial k.sent) 0 + weight g kept)
    by true rest = omega (arith, rest)
    by false rest = omega (arith, rest)

-- where each packet weighs so much at most, all do by their number
pub weighs_most : (f : ℕ → Sent → ℕ) (most : ℕ) (kept : List Kept) → ((serial : ℕ) (q : Sent) → f serial q ≤ most) → weight f kept ≤ most * length (flying kept)
weighs_most f most [] l = omega arith
weighs_most f most (k ∷ kept) l = by k.in_flight (l k.serial k.sent) (weighs_most f most kept l)
  where
    by : (b : Bool) → f k.serial k.sent ≤ most → weight f kept ≤ most * length (flying kept) → cond b (f k.serial k.sent) 0 + weight f kept ≤ most * length (cond b (k.serial ∷ flying kept) (flying kept))
    by true one rest = (let more : most * (length (flying kept) + 1) ≡ most * length (flying kept) + most = grind arith in omega (arith, one, rest, more))
    by false one rest = omega (arith, rest)
