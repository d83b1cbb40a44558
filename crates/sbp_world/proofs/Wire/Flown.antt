-- The history has as many packets in flight as the store.
use Rattle.sbp_world.proofs.Words.Std.{if◌then◌else◌, list_any, ◌≡◌, arith, refl, sym, ◌∙◌, ap, subst, nat_eq, nat_tests}
use Rattle.sbp_world.proofs.Words.Wire.{Kept, Rise, flying, is_flying, Stored, Sending, Flight}
use Rattle.sbp_world.proofs.Words.Laws.{count_flying, flies}
use Rattle.std.specs.Prelude.{ℕ, zero, suc, ◌+◌, ◌<◌, ◌≤◌, ◌==◌, ◌||◌, Bool, true, false, cond, List, [], ◌∷◌, length, Option}
use Rattle.packet_store.proofs.Calls.{risen}
use Rattle.bus_transactions.proofs.Follows.{Follows, last_is}
use Rattle.sbp_world.proofs.Wire.Kept.{flies_is}

-- how many numbers from 1 to another pass a test
abbrev count_by : (ℕ → Bool) → ℕ → ℕ
count_by test zero = 0
count_by test (suc n) = (if test (suc n) then 1 else 0) + count_by test n

count_same : (one two : ℕ → Bool) → ((s : ℕ) → one s ≡ two s) → (n : ℕ) → count_by one n ≡ count_by two n
count_same one two e zero = refl
count_same one two e (suc n) =
    ap (λ b. (if b then 1 else 0) + count_by one n) (e (suc n)) ∙ ap (λ x. (if two (suc n) then 1 else 0) + x) (count_same one two e n)

count_none : (n : ℕ) → count_by (λ s. false) n ≡ 0
count_none zero = refl
count_none (suc n) = let e = count_none n in omega (arith, e)

count_either : (one two : ℕ → Bool) → ((s : ℕ) → one s ≡ true → two s ≡ false) → (n : ℕ) → count_by (λ s. one s || two s) n ≡ count_by one n + count_by two n
count_either one two apart zero = omega arith
count_either one two apart (suc n) = by (one (suc n)) (two (suc n)) (apart (suc n)) (count_either one two apart n)
  where
    by : (a b : Bool) → (a ≡ true → b ≡ false) → count_by (λ s. one s || two s) n ≡ count_by one n + count_by two n → (if a || b then 1 else 0) + count_by (λ s. one s || two s) n ≡ ((if a then 1 else 0) + count_by one n) + ((if b then 1 else 0) + count_by two n)
    by true true h e = absurd (differ (h refl))
      where
        differ : true ≡ false → ⊥
        differ e = cc
    by true false h e = omega (arith, e)
    by false true h e = omega (arith, e)
    by false false h e = omega (arith, e)

count_above : (x n : ℕ) → n < x → count_by (λ s. s == x) n ≡ 0
count_above x zero l = refl
count_above x (suc n) l =
    let d : nat_eq (suc n) x ≡ false = grind (arith, nat_tests) in
    let f = count_above x n (omega (arith, l)) in
    ap (λ b. (if b then 1 else 0) + count_by (λ s. s == x) n) d ∙ omega (arith, f)

count_one : (x n : ℕ) → 0 < x → x ≤ n → count_by (λ s. s == x) n ≡ 1
count_one x zero l m = absurd (omega (arith, l, m))
count_one x (suc n) l m = by (λ k. count_one x n l k) (nat_eq (suc n) x) refl
  where
    by : (x ≤ n → count_by (λ s. s == x) n ≡ 1) → (b : Bool) → nat_eq (suc n) x ≡ b → (if b then 1 else 0) + count_by (λ s. s == x) n ≡ 1
    by ih true e = let f = count_above x n (grind (arith, nat_tests)) in omega (arith, f)
    by ih false e = let f = ih (grind (arith, nat_tests)) in omega (arith, f)

abbrev is_flying_in : ℕ → List ℕ → Bool
is_flying_in s serials = list_any (λ x. s == x) serials

-- what is below is none of them
absent : (ks : List Kept) (low last s : ℕ) → s ≤ low → Rise low last ks → is_flying s ks ≡ false
absent [] low last s l r = refl
absent (k ∷ ks) low last s l r = by (absent ks k.serial last s (let a = r.0 in omega (arith, a, l)) r.1.1) k.in_flight
  where
    apart : nat_eq s k.serial ≡ false
    apart = let a : low < k.serial = r.0 in grind (arith, nat_tests)

    by : is_flying s ks ≡ false → (b : Bool) → is_flying_in s (cond b (k.serial ∷ flying ks) (flying ks)) ≡ false
    by ih true = ap (λ b. b || is_flying s ks) apart ∙ ih
    by ih false = ih

many : (ks : List Kept) (low last n : ℕ) → Rise low last ks → last ≤ n → count_by (λ s. is_flying s ks) n ≡ length (flying ks)
many [] low last n r l = count_none n
many (k ∷ ks) low last n r l = by (many ks k.serial last n r.1.1 l) k.in_flight
  where
    none : (s : ℕ) → nat_eq s k.serial ≡ true → is_flying s ks ≡ false
    none s e = absent ks k.serial last s (grind (arith, nat_tests)) r.1.1

    by : count_by (λ s. is_flying s ks) n ≡ length (flying ks) → (b : Bool) → count_by (λ s. is_flying_in s (cond b (k.serial ∷ flying ks) (flying ks))) n ≡ length (cond b (k.serial ∷ flying ks) (flying ks))
    by ih true =
        let a = r.0 in
        let b = r.1.0 in
        let one = count_one k.serial n (omega (arith, a)) (omega (arith, b, l)) in
        let both = count_either (λ s. s == k.serial) (λ s. is_flying s ks) none n in
        omega (arith, one, both, ih)
    by ih false = ih

counted : (flight : ℕ → Flight) (n : ℕ) → count_flying flight n ≡ count_by (λ s. flies (flight s)) n
unfolding count_flying
counted flight zero = refl
counted flight (suc n) = ap (λ x. (if flies (flight (suc n)) then 1 else 0) + x) (counted flight n)

pub flown_are : {count : ℕ} {sent : ℕ → Option Sending} {flight : ℕ → Flight} {store : Stored} → Follows count sent flight store → count_flying flight count ≡ length (flying store.kept)
flown_are {count = count} {flight = flight} {store = store} f =
    let rises : Rise 0 store.last store.kept = subst (λ (st : Stored). Rise 0 st.last st.kept) (sym f.store_is) (risen f.calls) in
    let last = last_is f in
    counted flight count
    ∙ (count_same (λ s. flies (flight s)) (λ s. is_flying s store.kept) (λ s. sym (flies_is f s)) count
    ∙ many store.kept 0 store.last count rises (omega (arith, last)))
