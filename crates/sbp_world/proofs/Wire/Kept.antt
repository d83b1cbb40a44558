-- What the history says of the packets of a world: its store has in flight exactly those that are in flight, the lowest of them is the lowest, and
-- those that may be repeated are exactly those that it has among the last 1,024 serials.
use Rattle.sbp_world.proofs.Words.Std.{IfNone, arith, sym, ◌∙◌, ap, subst}
use Rattle.sbp_world.proofs.Words.Wire.{Sent, Kept, Call, StoreFlight, Unsent, InFlight, Delivered, Lost, Withdrawn, is_of, send, sent_at, state_at, IsLowest, NoneFlies, first, flying, found, found_sent, is_flying, sent_of, shown, Stored, in_air, flight_as, sent_as, as_sent, Sending, Flight, Terms, unsent, in_flight, delivered, lost, withdrawn}
use Rattle.sbp_world.proofs.Words.Laws.{flies, lowest_flying, lowest_in_flight, is_known}
use Rattle.std.specs.Prelude.{◌≡◌, ◌≤◌, ◌<◌, ℕ, zero, suc, ◌+◌, ◌-◌, ◌==◌, ◌&&◌, nat_eq, nat_lt, is_some, Bool, true, false, cond, List, [], ◌∷◌, Option, Some, None, IfSome, refl}
use Rattle.packet_store.specs.Calls.{MayAll, after, by_request, deliver, lose, sends}
use Rattle.packet_store.specs.Transactions.{begun_by}
use Rattle.packet_store.proofs.Calls.{flight_is, keeps_law, risen}
use Rattle.packet_store.proofs.Flights.{first_flies, none_flies}
use Rattle.bus_transactions.proofs.Facts.{Facts}
use Rattle.bus_transactions.proofs.Follows.{Follows, kept_is, last_is}

-- ---- a packet in flight, or delivered, was sent
abbrev is_there : StoreFlight → Bool
is_there InFlight = true
is_there Delivered = true
is_there state = false

shown_some : (aged s : ℕ) (state : StoreFlight) (so : Option Sent) → in_air (shown aged s state so) ≡ true → is_some so ≡ true
shown_some aged s state (Some sent) e = refl
shown_some aged s Unsent None e = cc
shown_some aged s InFlight None e = cc
shown_some aged s Delivered None e = cc
shown_some aged s Lost None e = cc
shown_some aged s Withdrawn None e = cc

ruled_there : (b : Bool) (state : StoreFlight) → is_there (by_request b state) ≡ true → is_there state ≡ true
ruled_there true Unsent e = cc
ruled_there true InFlight e = refl
ruled_there true Delivered e = refl
ruled_there true Lost e = cc
ruled_there true Withdrawn e = cc
ruled_there false state e = e

there_sent : (cs : List Call) (s : ℕ) → MayAll cs → is_there (state_at cs s) ≡ true → is_some (sent_at cs s) ≡ true
there_sent [] s may e = cc
there_sent (send sent ∷ cs) s may e = by_test (λ l. there_sent cs s may l) (s == sends cs + 1) e
  where
    by_test : (is_there (state_at cs s) ≡ true → is_some (sent_at cs s) ≡ true) → (b : Bool) → is_there (cond b InFlight (by_request (is_of (begun_by sent) (sent_at cs s)) (state_at cs s))) ≡ true → is_some (cond b (Some sent) (sent_at cs s)) ≡ true
    by_test before true e = refl
    by_test before false e = before (ruled_there (is_of (begun_by sent) (sent_at cs s)) (state_at cs s) e)
there_sent (deliver other ∷ cs) s may e = by_test (λ l. there_sent cs s may.1 l) (s == other) refl e
  where
    was_flying : is_some (sent_at cs other) ≡ true
    was_flying = shown_some (sends cs - 1024) other (state_at cs other) (sent_at cs other)
        (ap in_air (sym (keeps_law cs other may.1)) ∙ sym (flight_is cs other) ∙ may.0)

    by_test : (is_there (state_at cs s) ≡ true → is_some (sent_at cs s) ≡ true) → (b : Bool) → (s == other) ≡ b → is_there (cond b Delivered (state_at cs s)) ≡ true → is_some (sent_at cs s) ≡ true
    by_test before true f e = subst (λ n. is_some (sent_at cs n) ≡ true) (let x : other ≡ s = grind arith in x) was_flying
    by_test before false f e = before e
there_sent (lose other ∷ cs) s may e = by_test (λ l. there_sent cs s may.1 l) (s == other) e
  where
    by_test : (is_there (state_at cs s) ≡ true → is_some (sent_at cs s) ≡ true) → (b : Bool) → is_there (cond b Lost (state_at cs s)) ≡ true → is_some (sent_at cs s) ≡ true
    by_test before true e = cc
    by_test before false e = before e

-- ---- one packet
some_as : (so : Option Sending) → is_some (sent_as so) ≡ true → is_some so ≡ true
some_as (Some q) e = refl
some_as None e = cc

abbrev is_live : Flight → Bool
is_live in_flight = true
is_live delivered = true
is_live state = false

there_as : (state : Flight) → is_live state ≡ true → is_there (flight_as state) ≡ true
there_as in_flight e = refl
there_as delivered e = refl
there_as unsent e = cc
there_as lost e = cc
there_as withdrawn e = cc

grounded : (b : Bool) (s : ℕ) (sent : Sent) → in_air (cond b (Some (record { serial = s; in_flight = false; sent = sent })) None) ≡ false
grounded true s sent = refl
grounded false s sent = refl

shown_flies : (aged s : ℕ) (state : Flight) (so : Option Sending) → (is_live state ≡ true → is_some so ≡ true) → in_air (shown aged s (flight_as state) (sent_as so)) ≡ flies state
shown_flies aged s in_flight (Some q) l = refl
shown_flies aged s in_flight None l = let x = l refl in cc
shown_flies aged s delivered (Some q) l = grounded (nat_lt aged s) s (as_sent q)
shown_flies aged s delivered None l = refl
shown_flies aged s unsent (Some q) l = refl
shown_flies aged s unsent None l = refl
shown_flies aged s lost (Some q) l = refl
shown_flies aged s lost None l = refl
shown_flies aged s withdrawn (Some q) l = refl
shown_flies aged s withdrawn None l = refl

pub and_false : (b : Bool) → (b && false) ≡ false
and_false true = refl
and_false false = refl

pub and_true : (b : Bool) → (b && true) ≡ b
and_true true = refl
and_true false = refl

recent_known : (b : Bool) (s : ℕ) (sent : Sent) → (b && is_some (sent_of (cond b (Some (record { serial = s; in_flight = false; sent = sent })) None))) ≡ b
recent_known true s sent = refl
recent_known false s sent = refl

shown_known : (aged s : ℕ) (state : Flight) (so : Option Sending) → (is_live state ≡ true → is_some so ≡ true) → (nat_lt aged s && is_some (sent_of (shown aged s (flight_as state) (sent_as so)))) ≡ (is_known state && nat_lt aged s)
shown_known aged s in_flight (Some q) l = and_true (nat_lt aged s)
shown_known aged s in_flight None l = let x = l refl in cc
shown_known aged s delivered (Some q) l = recent_known (nat_lt aged s) s (as_sent q)
shown_known aged s delivered None l = let x = l refl in cc
shown_known aged s unsent (Some q) l = and_false (nat_lt aged s)
shown_known aged s unsent None l = and_false (nat_lt aged s)
shown_known aged s lost (Some q) l = and_false (nat_lt aged s)
shown_known aged s lost None l = and_false (nat_lt aged s)
shown_known aged s withdrawn (Some q) l = and_false (nat_lt aged s)
shown_known aged s withdrawn None l = and_false (nat_lt aged s)

module _ {count : ℕ} {sent : ℕ → Option Sending} {flight : ℕ → Flight} {store : Stored} (f : Follows count sent flight store) where
  live_sent : (s : ℕ) → is_live (flight s) ≡ true → is_some (sent s) ≡ true
  live_sent s e =
      some_as (sent s)
      (ap is_some (sym (f.sent_is s))
      ∙ there_sent f.calls s f.may (ap is_there (f.flight_is s) ∙ there_as (flight s) e))

  pub flies_is : (s : ℕ) → is_flying s store.kept ≡ flies (flight s)
  flies_is s =
      ap (λ (st : Stored). is_flying s st.kept) f.store_is
      ∙ flight_is f.calls s
      ∙ ap (λ (st : Stored). in_air (found s st.kept)) (sym f.store_is)
      ∙ ap in_air (kept_is f s)
      ∙ shown_flies (count - 1024) s (flight s) (sent s) (live_sent s)

  pub repeats_is : (s : ℕ) → (nat_lt (store.last - 1024) s && is_some (found_sent s store.kept)) ≡ (is_known (flight s) && nat_lt (count - 1024) s)
  repeats_is s =
      ap (λ n. nat_lt (n - 1024) s && is_some (found_sent s store.kept)) (last_is f)
      ∙ ap (λ o. nat_lt (count - 1024) s && is_some (sent_of o)) (kept_is f s)
      ∙ shown_known (count - 1024) s (flight s) (sent s) (live_sent s)

-- one in flight is kept
air_found : (o : Option Kept) → in_air o ≡ true → is_some (sent_of o) ≡ true
air_found None e = cc
air_found (Some k) e = refl

pub flying_found : {count : ℕ} {sent : ℕ → Option Sending} {flight : ℕ → Flight} {store : Stored} → Follows count sent flight store → (s : ℕ) → is_flying s store.kept ≡ true → is_some (found_sent s store.kept) ≡ true
flying_found {store = store} f s e =
    air_found (found s store.kept)
    (ap (λ (st : Stored). in_air (found s st.kept)) f.store_is
    ∙ sym (flight_is f.calls s)
    ∙ ap (λ (st : Stored). is_flying s st.kept) (sym f.store_is)
    ∙ e)

-- ---- the lowest in flight
lowest_none : (flight : ℕ → Flight) (n k : ℕ) → ((s : ℕ) → flies (flight s) ≡ false) → lowest_flying flight n k ≡ None
unfolding lowest_flying
lowest_none flight zero k none = refl
lowest_none flight (suc n) k none =
    ap (λ b. cond b (Some k) (lowest_flying flight n (k + 1))) (none k) ∙ lowest_none flight n (k + 1) none

lowest_some : (flight : ℕ → Flight) (n k s : ℕ) → k ≤ s → s < k + n → flies (flight s) ≡ true → ((o : ℕ) → o < s → flies (flight o) ≡ false) → lowest_flying flight n k ≡ Some s
unfolding lowest_flying
lowest_some flight zero k s l m e least = absurd (omega arith)
lowest_some flight (suc n) k s l m e least = by_test (λ below. lowest_some flight n (k + 1) s (omega (arith, below)) (omega (arith, m)) e least) (nat_eq k s) refl
  where
    by_test : (k < s → lowest_flying flight n (k + 1) ≡ Some s) → (b : Bool) → nat_eq k s ≡ b → cond (flies (flight k)) (Some k) (lowest_flying flight n (k + 1)) ≡ Some s
    by_test later true g =
        let same : k ≡ s = grind arith in
        subst (λ x. cond (flies (flight x)) (Some x) (lowest_flying flight n (x + 1)) ≡ Some s) (sym same)
        (ap (λ c. cond c (Some s) (lowest_flying flight n (s + 1))) e)
    by_test later false g =
        let below : k < s = grind arith in
        ap (λ c. cond c (Some k) (lowest_flying flight n (k + 1))) (least k below) ∙ later below

module _ (t : Terms) (facts : Facts t) (store : Stored) (f : Follows t.count t.sent t.flight store) where
  sent_inside : (s : ℕ) → is_some (t.sent s) ≡ true → (0 < s) × (s ≤ t.count)
  sent_inside s e = (by_zero (nat_eq s 0) refl, by_test (nat_lt t.count s) refl)
    where
      by_zero : (b : Bool) → nat_eq s 0 ≡ b → 0 < s
      by_zero true g =
          let x : s ≡ 0 = grind arith in
          let y : t.sent s ≡ None = ap t.sent x ∙ facts.zero in
          let z : is_some (t.sent s) ≡ false = ap is_some y in
          cc
      by_zero false g = grind arith

      by_test : (b : Bool) → nat_lt t.count s ≡ b → s ≤ t.count
      by_test true g =
          let l : t.count < s = grind arith in
          let z : is_some (t.sent s) ≡ false = ap is_some (facts.unsent s l).sent_is in
          cc
      by_test false g = grind arith

  flown : (s : ℕ) → flies (t.flight s) ≡ true → is_some (t.sent s) ≡ true
  flown s e = live_sent f s (live_by (t.flight s) e)
    where
      live_by : (state : Flight) → flies state ≡ true → is_live state ≡ true
      live_by in_flight e = refl
      live_by delivered e = cc
      live_by unsent e = cc
      live_by lost e = cc
      live_by withdrawn e = cc

  lowest_by : (o : Option ℕ) → first (flying store.kept) ≡ o → IfSome o (IsLowest store.kept) → IfNone o (NoneFlies store.kept) → o ≡ lowest_in_flight t
  lowest_by None e some none = sym (lowest_none t.flight t.count 1 (λ s. sym (flies_is f s) ∙ none s))
  lowest_by (Some s) e some none =
      let up = sym (flies_is f s) ∙ some.flies in
      let inside = sent_inside s (flown s up) in
      let low = inside.0 in
      let high = inside.1 in
      sym (lowest_some t.flight t.count 1 s (omega (arith, low)) (omega (arith, high)) up (λ o l. sym (flies_is f o) ∙ some.least o l))

  pub lowest_is : first (flying store.kept) ≡ lowest_in_flight t
  lowest_is =
      lowest_by (first (flying store.kept)) refl
      (subst (λ (st : Stored). IfSome (first (flying st.kept)) (IsLowest st.kept)) (sym f.store_is)
      (first_flies 0 (after f.calls).last (after f.calls).kept (risen f.calls)))
      (none_flies store.kept)
