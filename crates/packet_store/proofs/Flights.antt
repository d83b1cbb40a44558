-- What a list of kept packets has under a serial, after each change.
use Rattle.std.proofs.Common.{◌≡◌, ◌∙◌, refl, ap, ℕ, ◌+◌, ◌<◌, ◌≤◌, Bool, true, false, List, [], ◌∷◌, ◌++◌, Some, None, cond, arith}
use Rattle.std.specs.Prelude.{◌-◌, ◌==◌, nat_lt, not, Option, IfSome, IfNone}
use Rattle.std.specs.List.{filter, list_any}
use Rattle.std.proofs.lemmas.Bool.Decides.{nat_tests}
use Rattle.packet_store.specs.declared.sent.Kept.{Kept}
use Rattle.packet_store.specs.declared.sent.Sent.{Sent}
use Rattle.packet_store.specs.declared.transaction.Transaction.{Transaction}
use Rattle.packet_store.specs.Transactions.{begun_by}
use Rattle.packet_store.specs.Kept.{with_delivered, delivered, found, flying, in_air, is_flying, first, Rise, IsLowest, NoneFlies}
use Rattle.packet_store.specs.Sound.{is_earlier, AreKept}
use Rattle.packet_store.specs.Stored.{stays, newest, by_bus_rule, with_sent}
use Rattle.packet_store.proofs.Same.{and_false, differs, equal_of}

-- one that passes a test
abbrev pub keep_if : (Kept → Bool) → Option Kept → Option Kept
keep_if p None = None
keep_if p (Some k) = cond (p k) (Some k) None

abbrev pub marked : ℕ → Option Kept → Option Kept
marked d None = None
marked d (Some k) = Some (delivered d k)

abbrev pub ruled : Option Transaction → ℕ → Option Kept → Option Kept
ruled None n o = o
ruled (Some t) n o = keep_if (λ k. not (is_earlier t n k)) o

abbrev or_last : Option Kept → Option Kept → Option Kept
or_last None o = o
or_last (Some k) o = Some k

apart : (s low last : ℕ) (ks : List Kept) → s ≤ low → Rise low last ks → found s ks ≡ None
apart s low last [] l h = refl
apart s low last (k ∷ ks) l h =
    let up = h.0 in
    let d : (s == k.serial) ≡ false = differs s k.serial (λ eq. absurd (omega (arith, eq, up, l))) in
    rw d (apart s k.serial last ks (omega (arith, up, l)) h.1.1)

pub beyond : (s low last : ℕ) (ks : List Kept) → last < s → Rise low last ks → found s ks ≡ None
beyond s low last [] l h = refl
beyond s low last (k ∷ ks) l h =
    let b = h.1.0 in
    let d : (s == k.serial) ≡ false = differs s k.serial (λ eq. absurd (omega (arith, eq, b, l))) in
    rw d (beyond s k.serial last ks l h.1.1)

lowered : (low next last : ℕ) (ks : List Kept) → low < next → Rise next last ks → Rise low last ks
lowered low next last [] l h = tt
lowered low next last (k ∷ ks) l h = let up = h.0 in (omega (arith, up, l), h.1)

-- ---- a filter
filtered_step : (p : Kept → Bool) (s last : ℕ) (k : Kept) (ks : List Kept) (b c : Bool) → p k ≡ b → (s == k.serial) ≡ c → Rise k.serial last ks → found s (filter p ks) ≡ keep_if p (found s ks) → found s (cond b (k ∷ filter p ks) (filter p ks)) ≡ keep_if p (cond c (Some k) (found s ks))
filtered_step p s last k ks true true e f h ind = rw (f, e) refl
filtered_step p s last k ks true false e f h ind = rw f ind
filtered_step p s last k ks false true e f h ind =
    let eq = equal_of s k.serial f in
    ind ∙ ap (keep_if p) (apart s k.serial last ks (omega (arith, eq)) h) ∙ rw e refl
filtered_step p s last k ks false false e f h ind = ind

pub found_filtered : (p : Kept → Bool) (s low last : ℕ) (ks : List Kept) → Rise low last ks → found s (filter p ks) ≡ keep_if p (found s ks)
found_filtered p s low last [] h = refl
found_filtered p s low last (k ∷ ks) h =
    filtered_step p s last k ks (p k) (s == k.serial) refl refl h.1.1 (found_filtered p s k.serial last ks h.1.1)

rise_step : (p : Kept → Bool) (low last : ℕ) (k : Kept) (ks : List Kept) (b : Bool) → Rise low last (k ∷ ks) → Rise k.serial last (filter p ks) → Rise low last (cond b (k ∷ filter p ks) (filter p ks))
rise_step p low last k ks true h ind = (h.0, (h.1.0, ind))
rise_step p low last k ks false h ind = lowered low k.serial last (filter p ks) h.0 ind

pub rise_filtered : (p : Kept → Bool) (low last : ℕ) (ks : List Kept) → Rise low last ks → Rise low last (filter p ks)
rise_filtered p low last [] h = tt
rise_filtered p low last (k ∷ ks) h = rise_step p low last k ks (p k) h (rise_filtered p k.serial last ks h.1.1)

-- ---- the bus rule
pub found_ruled : (of : Option Transaction) (n s low last : ℕ) (ks : List Kept) → Rise low last ks → found s (by_bus_rule of n ks) ≡ ruled of n (found s ks)
found_ruled None n s low last ks h = refl
found_ruled (Some t) n s low last ks h = found_filtered (λ k. not (is_earlier t n k)) s low last ks h

pub rise_ruled : (of : Option Transaction) (n low last : ℕ) (ks : List Kept) → Rise low last ks → Rise low last (by_bus_rule of n ks)
rise_ruled None n low last ks h = h
rise_ruled (Some t) n low last ks h = rise_filtered (λ k. not (is_earlier t n k)) low last ks h

-- ---- a packet more
or_step : (s : ℕ) (k : Kept) (x y : Option Kept) (o : Option Kept) (b : Bool) → x ≡ or_last y o → cond b (Some k) x ≡ or_last (cond b (Some k) y) o
or_step s k x y o true e = refl
or_step s k x y o false e = e

found_pushed : (s : ℕ) (x : Kept) (ks : List Kept) → found s (ks ++ x ∷ []) ≡ or_last (found s ks) (cond (s == x.serial) (Some x) None)
found_pushed s x [] = refl
found_pushed s x (k ∷ ks) = or_step s k (found s (ks ++ x ∷ [])) (found s ks) (cond (s == x.serial) (Some x) None) (s == k.serial) (found_pushed s x ks)

rise_pushed : (low last : ℕ) (sent : Sent) (ks : List Kept) → low ≤ last → Rise low last ks → Rise low (last + 1) (ks ++ newest (last + 1) sent ∷ [])
rise_pushed low last sent [] l h = (omega (arith, l), (omega arith, tt))
rise_pushed low last sent (k ∷ ks) l h =
    let b = h.1.0 in
    (h.0, (omega (arith, b), rise_pushed k.serial last sent ks b h.1.1))

-- ---- a packet delivered
serial_same : (d : ℕ) (k : Kept) (b : Bool) → (d == k.serial) ≡ b → (delivered d k).serial ≡ k.serial
serial_same d k true e = rw e refl
serial_same d k false e = rw e refl

mark_step : (d s : ℕ) (k : Kept) (ks : List Kept) (c : Bool) → (s == k.serial) ≡ c → found s (with_delivered d ks) ≡ marked d (found s ks) → cond (s == (delivered d k).serial) (Some (delivered d k)) (found s (with_delivered d ks)) ≡ marked d (cond c (Some k) (found s ks))
mark_step d s k ks true e ind = rw (serial_same d k (d == k.serial) refl, e) refl
mark_step d s k ks false e ind = rw (serial_same d k (d == k.serial) refl, e) ind

pub found_marked : (d s : ℕ) (ks : List Kept) → found s (with_delivered d ks) ≡ marked d (found s ks)
found_marked d s [] = refl
found_marked d s (k ∷ ks) = mark_step d s k ks (s == k.serial) refl (found_marked d s ks)

pub rise_marked : (d low last : ℕ) (ks : List Kept) → Rise low last ks → Rise low last (with_delivered d ks)
rise_marked d low last [] h = tt
rise_marked d low last (k ∷ ks) h =
    let e = serial_same d k (d == k.serial) refl in
    rw e (h.0, (h.1.0, rise_marked d k.serial last ks h.1.1))

-- ---- the serials in flight
air_step : (s last : ℕ) (k : Kept) (ks : List Kept) (b c : Bool) → k.in_flight ≡ b → (s == k.serial) ≡ c → Rise k.serial last ks → is_flying s ks ≡ in_air (found s ks) → list_any (λ x. s == x) (cond b (k.serial ∷ flying ks) (flying ks)) ≡ in_air (cond c (Some k) (found s ks))
air_step s last k ks true true e f h ind = rw (f, e) refl
air_step s last k ks true false e f h ind = rw f ind
air_step s last k ks false true e f h ind =
    let eq = equal_of s k.serial f in
    ind ∙ ap in_air (apart s k.serial last ks (omega (arith, eq)) h) ∙ rw e refl
air_step s last k ks false false e f h ind = ind

pub in_air_is : (s low last : ℕ) (ks : List Kept) → Rise low last ks → is_flying s ks ≡ in_air (found s ks)
in_air_is s low last [] h = refl
in_air_is s low last (k ∷ ks) h =
    air_step s last k ks k.in_flight (s == k.serial) refl refl h.1.1 (in_air_is s k.serial last ks h.1.1)

-- a serial that is at most the one before the list is not in flight
grounded : (s low last : ℕ) (ks : List Kept) → s ≤ low → Rise low last ks → is_flying s ks ≡ false
grounded s low last ks l h = in_air_is s low last ks h ∙ ap in_air (apart s low last ks l h)

first_any : (s : ℕ) (serials : List ℕ) → list_any (λ x. s == x) (s ∷ serials) ≡ true
first_any s serials = let e : (s == s) ≡ true = grind (arith, nat_tests) in rw e refl

other_any : (s q : ℕ) (serials : List ℕ) → s < q → list_any (λ x. s == x) serials ≡ false → list_any (λ x. s == x) (q ∷ serials) ≡ false
other_any s q serials l e = let d : (s == q) ≡ false = grind (arith, nat_tests) in rw d e

passed_over : (o : Option ℕ) (k : Kept) (ks : List Kept) → k.in_flight ≡ false → IfSome o (IsLowest ks) → IfSome o (IsLowest (k ∷ ks))
passed_over None k ks e ind = tt
passed_over (Some s) k ks e ind = record { flies = rw e ind.flies; least = λ other l. rw e (ind.least other l) }

none_in : (serials : List ℕ) → IfNone (first serials) ((s : ℕ) → list_any (λ x. s == x) serials ≡ false)
none_in [] = λ s. refl
none_in (q ∷ serials) = tt

flies_step : (last : ℕ) (k : Kept) (ks : List Kept) (b : Bool) → k.in_flight ≡ b → Rise k.serial last ks → IfSome (first (flying ks)) (IsLowest ks) → IfSome (first (cond b (k.serial ∷ flying ks) (flying ks))) (IsLowest (k ∷ ks))
flies_step last k ks true e h ind = record {
  flies = rw e (first_any k.serial (flying ks));
  least = λ other l. rw e (other_any other k.serial (flying ks) l (grounded other k.serial last ks (omega (arith, l)) h));
}
flies_step last k ks false e h ind = passed_over (first (flying ks)) k ks e ind

pub first_flies : (low last : ℕ) (ks : List Kept) → Rise low last ks → IfSome (first (flying ks)) (IsLowest ks)
first_flies low last [] h = tt
first_flies low last (k ∷ ks) h = flies_step last k ks k.in_flight refl h.1.1 (first_flies k.serial last ks h.1.1)

pub rise_of : (last since low : ℕ) (ks : List Kept) → AreKept last since low ks → Rise low last ks
rise_of last since low [] h = tt
rise_of last since low (k ∷ ks) h = (h.0.above, (h.0.below, rise_of last since k.serial ks h.1))

pub none_flies : (ks : List Kept) → IfNone (first (flying ks)) (NoneFlies ks)
none_flies ks = none_in (flying ks)

-- ---- a call
pub rise_sent : (sent : Sent) (last : ℕ) (ks : List Kept) → Rise 0 last ks → Rise 0 (last + 1) (with_sent sent (last + 1) ks)
rise_sent sent last ks h =
    rise_filtered (stays (last + 1 - 1024)) 0 (last + 1) (by_bus_rule (begun_by sent) (last + 1) (ks ++ newest (last + 1) sent ∷ []))
    (rise_ruled (begun_by sent) (last + 1) 0 (last + 1) (ks ++ newest (last + 1) sent ∷ []) (rise_pushed 0 last sent ks (omega arith) h))

pub found_sent_in : (sent : Sent) (last s : ℕ) (ks : List Kept) → Rise 0 last ks → found s (with_sent sent (last + 1) ks) ≡ keep_if (stays (last + 1 - 1024)) (ruled (begun_by sent) (last + 1) (or_last (found s ks) (cond (s == last + 1) (Some (newest (last + 1) sent)) None)))
found_sent_in sent last s ks h =
    let r = rise_pushed 0 last sent ks (omega arith) h in
    let u = rise_ruled (begun_by sent) (last + 1) 0 (last + 1) (ks ++ newest (last + 1) sent ∷ []) r in
    found_filtered (stays (last + 1 - 1024)) s 0 (last + 1) (by_bus_rule (begun_by sent) (last + 1) (ks ++ newest (last + 1) sent ∷ [])) u
    ∙ ap (keep_if (stays (last + 1 - 1024))) (
    found_ruled (begun_by sent) (last + 1) s 0 (last + 1) (ks ++ newest (last + 1) sent ∷ []) r
    ∙ ap (ruled (begun_by sent) (last + 1)) (found_pushed s (newest (last + 1) sent) ks))

or_none : (o : Option Kept) → or_last o None ≡ o
or_none None = refl
or_none (Some k) = refl

-- a packet sent before is there, if the bus rule and its age leave it
pub found_before : (sent : Sent) (last s : ℕ) (ks : List Kept) → Rise 0 last ks → (s == last + 1) ≡ false → found s (with_sent sent (last + 1) ks) ≡ keep_if (stays (last + 1 - 1024)) (ruled (begun_by sent) (last + 1) (found s ks))
found_before sent last s ks h d =
    found_sent_in sent last s ks h
    ∙ ap (λ o. keep_if (stays (last + 1 - 1024)) (ruled (begun_by sent) (last + 1) o)) (
    ap (λ b. or_last (found s ks) (cond b (Some (newest (last + 1) sent)) None)) d ∙ or_none (found s ks))

not_earlier : (t : Transaction) (n : ℕ) (sent : Sent) → is_earlier t n (newest n sent) ≡ false
not_earlier t n sent =
    let e : nat_lt n n ≡ false = grind (arith, nat_tests) in
    rw e (and_false _)

new_ruled : (of : Option Transaction) (n : ℕ) (sent : Sent) → ruled of n (Some (newest n sent)) ≡ Some (newest n sent)
new_ruled None n sent = refl
new_ruled (Some t) n sent = rw (not_earlier t n sent) refl

-- the new packet is there
pub found_new : (sent : Sent) (last : ℕ) (ks : List Kept) → Rise 0 last ks → found (last + 1) (with_sent sent (last + 1) ks) ≡ Some (newest (last + 1) sent)
found_new sent last ks h =
    let n : found (last + 1) ks ≡ None = beyond (last + 1) 0 last ks (omega arith) h in
    let e : (last + 1 == last + 1) ≡ true = grind (arith, nat_tests) in
    found_sent_in sent last (last + 1) ks h
    ∙ ap (λ o. keep_if (stays (last + 1 - 1024)) (ruled (begun_by sent) (last + 1) (or_last o (cond (last + 1 == last + 1) (Some (newest (last + 1) sent)) None)))) n
    ∙ ap (λ b. keep_if (stays (last + 1 - 1024)) (ruled (begun_by sent) (last + 1) (cond b (Some (newest (last + 1) sent)) None))) e
    ∙ ap (keep_if (stays (last + 1 - 1024))) (new_ruled (begun_by sent) (last + 1) sent)
