-- The laws over every list of calls.
use Rattle.std.proofs.Common.{◌≡◌, ◌∙◌, refl, sym, subst, ap, ℕ, ◌+◌, ◌≤◌, Bool, true, false, List, [], ◌∷◌, ◌++◌, Some, None, cond, arith}
use Rattle.std.specs.Prelude.{◌-◌, ◌==◌, nat_lt, not, Option}
use Rattle.std.proofs.lemmas.Bool.Decides.{nat_tests}
use Rattle.packet_store.specs.declared.sent.Kept.{Kept}
use Rattle.packet_store.specs.declared.sent.Sent.{Sent}
use Rattle.packet_store.specs.declared.transaction.Transaction.{Transaction}
use Rattle.packet_store.specs.Transactions.{begun_by, belongs}
use Rattle.packet_store.specs.Kept.{without, with_delivered, delivered, found, in_air, sent_of, is_flying, Rise}
use Rattle.packet_store.specs.Sound.{is_earlier}
use Rattle.packet_store.specs.Stored.{stays, with_sent}
use Rattle.packet_store.specs.Calls.{Call, send, deliver, lose, after, MayAll, sends, sent_at, Flight, Unsent, InFlight, Delivered, Lost, Withdrawn, by_request, is_of, state_at}
use Rattle.packet_store.specs.Laws.{SerialLaw, WholeLaw, KeepsLaw, GoneLaw, ClosedLaw, shown}
use Rattle.packet_store.proofs.Flights.{keep_if, marked, ruled, beyond, rise_filtered, rise_marked, rise_sent, found_filtered, found_marked, found_before, found_new, in_air_is}

pub serial_law : SerialLaw
serial_law [] = refl
serial_law (send sent ∷ cs) = ap (λ n. n + 1) (serial_law cs)
serial_law (deliver d ∷ cs) = serial_law cs
serial_law (lose d ∷ cs) = serial_law cs

abbrev with_arrival : Bool → ℕ → List Kept → List Kept
with_arrival b d ks = cond b (with_delivered d ks) (without d ks)

rise_arrival : (b : Bool) (d last : ℕ) (ks : List Kept) → Rise 0 last ks → Rise 0 last (with_arrival b d ks)
rise_arrival true d last ks h = rise_marked d 0 last ks h
rise_arrival false d last ks h = rise_filtered (λ k. not (d == k.serial)) 0 last ks h

pub risen : (cs : List Call) → Rise 0 (after cs).last (after cs).kept
risen [] = tt
risen (send sent ∷ cs) = rise_sent sent (after cs).last (after cs).kept (risen cs)
risen (deliver d ∷ cs) = rise_arrival (nat_lt ((after cs).last - 1024) d) d (after cs).last (after cs).kept (risen cs)
risen (lose d ∷ cs) = rise_filtered (λ k. not (d == k.serial)) 0 (after cs).last (after cs).kept (risen cs)

-- ---- what is gone stays gone
record Loses (o p : Option Kept) : Type 0 where
  air : in_air o ≡ false → in_air p ≡ false
  none : o ≡ None → p ≡ None

loses_cond : (k : Kept) (b : Bool) → Loses (Some k) (cond b (Some k) None)
loses_cond k true = record { air = λ e. e; none = λ e. e }
loses_cond k false = record { air = λ e. refl; none = λ e. refl }

loses_kept : (p : Kept → Bool) (o : Option Kept) → Loses o (keep_if p o)
loses_kept p None = record { air = λ e. e; none = λ e. e }
loses_kept p (Some k) = loses_cond k (p k)

loses_ruled : (of : Option Transaction) (n : ℕ) (o : Option Kept) → Loses o (ruled of n o)
loses_ruled None n o = record { air = λ e. e; none = λ e. e }
loses_ruled (Some t) n o = loses_kept (λ k. not (is_earlier t n k)) o

loses_mark : (d : ℕ) (k : Kept) (b : Bool) → (d == k.serial) ≡ b → Loses (Some k) (Some (delivered d k))
loses_mark d k true f = record { air = λ e. rw f refl; none = λ e. cc e }
loses_mark d k false f = record { air = λ e. rw f e; none = λ e. cc e }

loses_marked : (d : ℕ) (o : Option Kept) → Loses o (marked d o)
loses_marked d None = record { air = λ e. e; none = λ e. e }
loses_marked d (Some k) = loses_mark d k (d == k.serial) refl

after_that : (o p q : Option Kept) → Loses o p → Loses p q → Loses o q
after_that o p q f g = record { air = λ e. g.air (f.air e); none = λ e. g.none (f.none e) }

loses_into : (o p q : Option Kept) → q ≡ p → Loses o p → Loses o q
loses_into o p q e f = subst (Loses o) (sym e) f

loses_sent : (sent : Sent) (last s : ℕ) (ks : List Kept) → Rise 0 last ks → s ≤ last → Loses (found s ks) (found s (with_sent sent (last + 1) ks))
loses_sent sent last s ks h l =
    let d : (s == last + 1) ≡ false = grind (arith, nat_tests) in
    loses_into (found s ks) _ _ (found_before sent last s ks h d)
    (after_that (found s ks) (ruled (begun_by sent) (last + 1) (found s ks)) _ (loses_ruled (begun_by sent) (last + 1) (found s ks)) (loses_kept (stays (last + 1 - 1024)) (ruled (begun_by sent) (last + 1) (found s ks))))

loses_without : (d last s : ℕ) (ks : List Kept) → Rise 0 last ks → Loses (found s ks) (found s (without d ks))
loses_without d last s ks h =
    loses_into (found s ks) _ _ (found_filtered (λ k. not (d == k.serial)) s 0 last ks h) (loses_kept (λ k. not (d == k.serial)) (found s ks))

loses_arrival : (b : Bool) (d last s : ℕ) (ks : List Kept) → Rise 0 last ks → Loses (found s ks) (found s (with_arrival b d ks))
loses_arrival true d last s ks h = loses_into (found s ks) _ _ (found_marked d s ks) (loses_marked d (found s ks))
loses_arrival false d last s ks h = loses_without d last s ks h

rising : (cs later : List Call) → sends cs ≤ sends (later ++ cs)
rising cs [] = omega arith
rising cs (send sent ∷ later) = let l = rising cs later in omega (arith, l)
rising cs (deliver d ∷ later) = rising cs later
rising cs (lose d ∷ later) = rising cs later

loses_all : (cs later : List Call) (s : ℕ) → s ≤ sends cs → Loses (found s (after cs).kept) (found s (after (later ++ cs)).kept)
loses_all cs [] s l = record { air = λ e. e; none = λ e. e }
loses_all cs (send sent ∷ later) s l =
    let up = rising cs later in
    let e = serial_law (later ++ cs) in
    let below : s ≤ (after (later ++ cs)).last = omega (arith, l, up, e) in
    after_that _ _ _ (loses_all cs later s l) (loses_sent sent (after (later ++ cs)).last s (after (later ++ cs)).kept (risen (later ++ cs)) below)
loses_all cs (deliver d ∷ later) s l =
    after_that _ _ _ (loses_all cs later s l) (loses_arrival (nat_lt ((after (later ++ cs)).last - 1024) d) d (after (later ++ cs)).last s (after (later ++ cs)).kept (risen (later ++ cs)))
loses_all cs (lose d ∷ later) s l =
    after_that _ _ _ (loses_all cs later s l) (loses_without d (after (later ++ cs)).last s (after (later ++ cs)).kept (risen (later ++ cs)))

pub flight_is : (cs : List Call) (s : ℕ) → is_flying s (after cs).kept ≡ in_air (found s (after cs).kept)
flight_is cs s = in_air_is s 0 (after cs).last (after cs).kept (risen cs)

-- a packet that was found has the serial
abbrev Named : ℕ → Option Kept → Type 0
Named s None = Unit {0}
Named s (Some k) = k.serial ≡ s

named_step : (s : ℕ) (k : Kept) (o : Option Kept) (b : Bool) → (s == k.serial) ≡ b → Named s o → Named s (cond b (Some k) o)
named_step s k o true e n = grind (arith, nat_tests)
named_step s k o false e n = n

found_named : (s : ℕ) (ks : List Kept) → Named s (found s ks)
found_named s [] = tt
found_named s (k ∷ ks) = named_step s k (found s ks) (s == k.serial) refl (found_named s ks)

whole_kept : (s : ℕ) (k : Kept) (sent : Sent) → k.serial ≡ s → k.sent ≡ sent → k ≡ record { serial = s; in_flight = k.in_flight; sent = sent }
whole_kept s k sent n q =
    ap (λ x. record k { serial = x }) n ∙ ap (λ x. record { serial = s; in_flight = k.in_flight; sent = x }) q

named_sent : (s : ℕ) (o : Option Kept) (sent : Sent) → Named s o → sent_of o ≡ Some sent → o ≡ Some (record { serial = s; in_flight = in_air o; sent = sent })
named_sent s None sent n e = cc e
named_sent s (Some k) sent n e = let q : k.sent ≡ sent = cc e in ap Some (whole_kept s k sent n q)

pub whole_law : WholeLaw
whole_law cs s sent e =
    named_sent s (found s (after cs).kept) sent (found_named s (after cs).kept) e
    ∙ ap (λ b. Some (record { serial = s; in_flight = b; sent = sent })) (sym (flight_is cs s))

pub gone_law : GoneLaw
gone_law cs later s l e = flight_is (later ++ cs) s ∙ (loses_all cs later s l).air (sym (flight_is cs s) ∙ e)

-- ---- what the store has is what the states say
shown_none : (a s : ℕ) (state : Flight) → shown a s state None ≡ None
shown_none a s Unsent = refl
shown_none a s InFlight = refl
shown_none a s Delivered = refl
shown_none a s Lost = refl
shown_none a s Withdrawn = refl

abbrev arrived_as : ℕ → Sent → Kept
arrived_as s q = record { serial = s; in_flight = false; sent = q }

abbrev flying_as : ℕ → Sent → Kept
flying_as s q = record { serial = s; in_flight = true; sent = q }

aged_arrived : (a b s : ℕ) (q : Sent) (x y : Bool) → nat_lt a s ≡ x → nat_lt b s ≡ y → a ≤ b → cond x (Some (arrived_as s q)) None ≡ None → cond y (Some (arrived_as s q)) None ≡ None
aged_arrived a b s q x false f g l e = refl
aged_arrived a b s q true true f g l e = cc e
aged_arrived a b s q false true f g l e = absurd (grind (arith, nat_tests))

aged_none : (a b s : ℕ) (state : Flight) (so : Option Sent) → a ≤ b → shown a s state so ≡ None → shown b s state so ≡ None
aged_none a b s state None l e = shown_none b s state
aged_none a b s Unsent (Some q) l e = refl
aged_none a b s InFlight (Some q) l e = cc e
aged_none a b s Delivered (Some q) l e = aged_arrived a b s q (nat_lt a s) (nat_lt b s) refl refl l e
aged_none a b s Lost (Some q) l e = refl
aged_none a b s Withdrawn (Some q) l e = refl

kept_arrived : (a b s : ℕ) (q : Sent) (x y : Bool) → nat_lt a s ≡ x → nat_lt b s ≡ y → a ≤ b → keep_if (stays b) (cond x (Some (arrived_as s q)) None) ≡ cond y (Some (arrived_as s q)) None
kept_arrived a b s q true y f g l = rw g refl
kept_arrived a b s q false false f g l = refl
kept_arrived a b s q false true f g l = absurd (grind (arith, nat_tests))

-- the rule on a packet before the request, by its state
by_none : (b : Bool) (a s : ℕ) (state : Flight) (so : Option Sent) → shown a s state so ≡ None → shown a s (by_request b state) so ≡ None
by_none false a s Unsent so e = e
by_none false a s InFlight so e = e
by_none false a s Delivered so e = e
by_none false a s Lost so e = e
by_none false a s Withdrawn so e = e
by_none true a s Unsent so e = e
by_none true a s InFlight None e = refl
by_none true a s InFlight (Some q) e = refl
by_none true a s Delivered None e = refl
by_none true a s Delivered (Some q) e = refl
by_none true a s Lost so e = e
by_none true a s Withdrawn so e = e

by_false : (state : Flight) → by_request false state ≡ state
by_false Unsent = refl
by_false InFlight = refl
by_false Delivered = refl
by_false Lost = refl
by_false Withdrawn = refl

-- a packet that the rule does not withdraw, by its age
kept_on : (a b s : ℕ) (state : Flight) (so : Option Sent) → a ≤ b → keep_if (stays b) (shown a s state so) ≡ shown b s state so
kept_on a b s state None l = rw (shown_none a s state, shown_none b s state) refl
kept_on a b s Unsent (Some q) l = refl
kept_on a b s InFlight (Some q) l = refl
kept_on a b s Delivered (Some q) l = kept_arrived a b s q (nat_lt a s) (nat_lt b s) refl refl l
kept_on a b s Lost (Some q) l = refl
kept_on a b s Withdrawn (Some q) l = refl

-- a packet of a state, that shows if it is delivered by a word on its age
abbrev shown_if : Bool → (a s : ℕ) → Flight → Sent → Option Kept
shown_if x a s Delivered q = cond x (Some (arrived_as s q)) None
shown_if x a s state q = shown a s state (Some q)

ruled_arrived : (t : Transaction) (n a s : ℕ) (q : Sent) (b x : Bool) → belongs t q ≡ b → nat_lt s n ≡ true → ruled (Some t) n (cond x (Some (arrived_as s q)) None) ≡ shown_if x a s (by_request b Delivered) q
ruled_arrived t n a s q true true e l = rw (e, l) refl
ruled_arrived t n a s q true false e l = refl
ruled_arrived t n a s q false true e l = rw e refl
ruled_arrived t n a s q false false e l = refl

ruled_shown : (t : Transaction) (n a s : ℕ) (state : Flight) (q : Sent) (b : Bool) → belongs t q ≡ b → nat_lt s n ≡ true → ruled (Some t) n (shown a s state (Some q)) ≡ shown a s (by_request b state) (Some q)
ruled_shown t n a s Unsent q true e l = refl
ruled_shown t n a s Unsent q false e l = refl
ruled_shown t n a s InFlight q true e l = rw (e, l) refl
ruled_shown t n a s InFlight q false e l = rw e refl
ruled_shown t n a s Delivered q true e l = ruled_arrived t n a s q true (nat_lt a s) e l
ruled_shown t n a s Delivered q false e l = ruled_arrived t n a s q false (nat_lt a s) e l
ruled_shown t n a s Lost q true e l = refl
ruled_shown t n a s Lost q false e l = refl
ruled_shown t n a s Withdrawn q true e l = refl
ruled_shown t n a s Withdrawn q false e l = refl

ruled_by : (of : Option Transaction) (n a s : ℕ) (state : Flight) (so : Option Sent) → nat_lt s n ≡ true → ruled of n (shown a s state so) ≡ shown a s (by_request (is_of of so) state) so
ruled_by None n a s state so l = ap (λ x. shown a s x so) (sym (by_false state))
ruled_by (Some t) n a s state None l = ap (ruled (Some t) n) (shown_none a s state) ∙ sym (shown_none a s (by_request false state))
ruled_by (Some t) n a s state (Some q) l = ruled_shown t n a s state q (belongs t q) refl l

-- ---- each call
-- what a packet of this serial becomes where one is delivered, by a word on its age
abbrev found_after : Bool → ℕ → Option Kept → Option Kept
found_after true d o = marked d o
found_after false d o = keep_if (λ k. not (d == k.serial)) o

named_cond : (s : ℕ) (q : Sent) (x : Bool) → Named s (cond x (Some (arrived_as s q)) None)
named_cond s q true = refl
named_cond s q false = tt

record IsFlying (a s : ℕ) (state : Flight) (so : Option Sent) : Type 0 where
  sent : Sent
  told : so ≡ Some sent
  shows : shown a s state so ≡ Some (flying_as s sent)

shown_nothing : (a s : ℕ) (state : Flight) → in_air (shown a s state None) ≡ true → ⊥
shown_nothing a s state e = cc (sym (ap in_air (shown_none a s state)) ∙ e)

not_arrived : (s : ℕ) (q : Sent) (x : Bool) → in_air (cond x (Some (arrived_as s q)) None) ≡ true → ⊥
not_arrived s q true e = cc e
not_arrived s q false e = cc e

ruled_none : (of : Option Transaction) (n : ℕ) → ruled of n None ≡ None
ruled_none None n = refl
ruled_none (Some t) n = refl

none_sent : (sent : Sent) (n s : ℕ) (ks : List Kept) → Rise 0 n ks → (s == n + 1) ≡ false → found s ks ≡ None → found s (with_sent sent (n + 1) ks) ≡ None
none_sent sent n s ks h d z =
    found_before sent n s ks h d
    ∙ ap (λ o. keep_if (stays (n + 1 - 1024)) (ruled (begun_by sent) (n + 1) o)) z
    ∙ ap (keep_if (stays (n + 1 - 1024))) (ruled_none (begun_by sent) (n + 1))

sent_before : (sent : Sent) (n s : ℕ) (ks : List Kept) (state : Flight) (so : Option Sent) (b : Bool) → nat_lt s (n + 1) ≡ b → (s == n + 1) ≡ false → Rise 0 n ks → found s ks ≡ shown (n - 1024) s state so → found s (with_sent sent (n + 1) ks) ≡ shown (n + 1 - 1024) s (by_request (is_of (begun_by sent) so) state) so
sent_before sent n s ks state so true l d h e =
    found_before sent n s ks h d
    ∙ ap (λ o. keep_if (stays (n + 1 - 1024)) (ruled (begun_by sent) (n + 1) o)) e
    ∙ ap (keep_if (stays (n + 1 - 1024))) (ruled_by (begun_by sent) (n + 1) (n - 1024) s state so l)
    ∙ kept_on (n - 1024) (n + 1 - 1024) s (by_request (is_of (begun_by sent) so) state) so (omega arith)
sent_before sent n s ks state so false l d h e =
    let z : found s ks ≡ None = beyond s 0 n ks (grind (arith, nat_tests)) h in
    let up : n - 1024 ≤ n + 1 - 1024 = omega arith in
    let late : found s (with_sent sent (n + 1) ks) ≡ None = none_sent sent n s ks h d z in
    late ∙ sym (by_none (is_of (begun_by sent) so) (n + 1 - 1024) s state so (aged_none (n - 1024) (n + 1 - 1024) s state so up (sym e ∙ z)))

sent_shown : (sent : Sent) (n s : ℕ) (ks : List Kept) (state : Flight) (so : Option Sent) (b : Bool) → (s == n + 1) ≡ b → Rise 0 n ks → found s ks ≡ shown (n - 1024) s state so → found s (with_sent sent (n + 1) ks) ≡ shown (n + 1 - 1024) s (cond b InFlight (by_request (is_of (begun_by sent) so) state)) (cond b (Some sent) so)
sent_shown sent n s ks state so true d h e =
    let eq : s ≡ n + 1 = grind (arith, nat_tests) in
    subst (λ x. found x (with_sent sent (n + 1) ks) ≡ Some (flying_as x sent)) (sym eq) (found_new sent n ks h)
sent_shown sent n s ks state so false d h e = sent_before sent n s ks state so (nat_lt s (n + 1)) refl d h e

-- a packet in flight shows so
in_flight_shown : (a s : ℕ) (state : Flight) (so : Option Sent) → in_air (shown a s state so) ≡ true → IsFlying a s state so
in_flight_shown a s state None e = absurd (shown_nothing a s state e)
in_flight_shown a s Unsent (Some q) e = cc e
in_flight_shown a s InFlight (Some q) e = record { sent = q; told = refl; shows = refl }
in_flight_shown a s Delivered (Some q) e = absurd (not_arrived s q (nat_lt a s) e)
in_flight_shown a s Lost (Some q) e = cc e
in_flight_shown a s Withdrawn (Some q) e = cc e

arrived_other : (d s : ℕ) (x : Bool) (o : Option Kept) → (d == s) ≡ false → Named s o → found_after x d o ≡ o
arrived_other d s true None f n = refl
arrived_other d s false None f n = refl
arrived_other d s true (Some k) f n = rw (ap (λ q. d == q) n ∙ f) refl
arrived_other d s false (Some k) f n = rw (ap (λ q. d == q) n ∙ f) refl

shown_named : (a s : ℕ) (state : Flight) (so : Option Sent) → Named s (shown a s state so)
shown_named a s state None = subst (Named s) (sym (shown_none a s state)) tt
shown_named a s Unsent (Some q) = tt
shown_named a s InFlight (Some q) = refl
shown_named a s Delivered (Some q) = named_cond s q (nat_lt a s)
shown_named a s Lost (Some q) = tt
shown_named a s Withdrawn (Some q) = tt

found_arrival : (x : Bool) (d n s : ℕ) (ks : List Kept) → Rise 0 n ks → found s (with_arrival x d ks) ≡ found_after x d (found s ks)
found_arrival true d n s ks h = found_marked d s ks
found_arrival false d n s ks h = found_filtered (λ k. not (d == k.serial)) s 0 n ks h

arrival_here : (x : Bool) (d : ℕ) (q : Sent) → found_after x d (Some (flying_as d q)) ≡ cond x (Some (arrived_as d q)) None
arrival_here true d q = let e : (d == d) ≡ true = grind (arith, nat_tests) in rw e refl
arrival_here false d q = let e : (d == d) ≡ true = grind (arith, nat_tests) in rw e refl

delivered_shown : (n s d : ℕ) (ks : List Kept) (state : Flight) (so : Option Sent) (b : Bool) → (s == d) ≡ b → Rise 0 n ks → is_flying d ks ≡ true → found s ks ≡ shown (n - 1024) s state so → found s (with_arrival (nat_lt (n - 1024) d) d ks) ≡ shown (n - 1024) s (cond b Delivered state) so
delivered_shown n s d ks state so true f h fly e =
    let eq : d ≡ s = grind (arith, nat_tests) in
    let up : in_air (found s ks) ≡ true = sym (in_air_is s 0 n ks h) ∙ subst (λ x. is_flying x ks ≡ true) eq fly in
    let w = in_flight_shown (n - 1024) s state so (sym (ap in_air e) ∙ up) in
    subst (λ x. found s (with_arrival (nat_lt (n - 1024) x) x ks) ≡ shown (n - 1024) s Delivered so) (sym eq) (
    found_arrival (nat_lt (n - 1024) s) s n s ks h
    ∙ ap (found_after (nat_lt (n - 1024) s) s) (e ∙ w.shows)
    ∙ arrival_here (nat_lt (n - 1024) s) s w.sent
    ∙ ap (shown (n - 1024) s Delivered) (sym w.told))
delivered_shown n s d ks state so false f h fly e =
    let g : (d == s) ≡ false = grind (arith, nat_tests) in
    found_arrival (nat_lt (n - 1024) d) d n s ks h
    ∙ ap (found_after (nat_lt (n - 1024) d) d) e
    ∙ arrived_other d s (nat_lt (n - 1024) d) (shown (n - 1024) s state so) g (shown_named (n - 1024) s state so)

lost_here : (s : ℕ) (o : Option Kept) → Named s o → keep_if (λ k. not (s == k.serial)) o ≡ None
lost_here s None n = refl
lost_here s (Some k) n = let e : (s == k.serial) ≡ true = grind (arith, nat_tests) in rw e refl

vanished_none : (a s : ℕ) (so : Option Sent) → shown a s Lost so ≡ None
vanished_none a s None = refl
vanished_none a s (Some q) = refl

lost_shown : (n s d : ℕ) (ks : List Kept) (state : Flight) (so : Option Sent) (b : Bool) → (s == d) ≡ b → Rise 0 n ks → found s ks ≡ shown (n - 1024) s state so → found s (without d ks) ≡ shown (n - 1024) s (cond b Lost state) so
lost_shown n s d ks state so true f h e =
    let eq : d ≡ s = grind (arith, nat_tests) in
    subst (λ x. found s (without x ks) ≡ shown (n - 1024) s Lost so) (sym eq) (
    found_filtered (λ k. not (s == k.serial)) s 0 n ks h
    ∙ ap (keep_if (λ k. not (s == k.serial))) e
    ∙ lost_here s (shown (n - 1024) s state so) (shown_named (n - 1024) s state so)
    ∙ sym (vanished_none (n - 1024) s so))
lost_shown n s d ks state so false f h e =
    let g : (d == s) ≡ false = grind (arith, nat_tests) in
    found_filtered (λ k. not (d == k.serial)) s 0 n ks h
    ∙ ap (keep_if (λ k. not (d == k.serial))) e
    ∙ arrived_other d s false (shown (n - 1024) s state so) g (shown_named (n - 1024) s state so)

risen_to : (cs : List Call) → Rise 0 (sends cs) (after cs).kept
risen_to cs = subst (λ n. Rise 0 n (after cs).kept) (serial_law cs) (risen cs)

pub keeps_law : KeepsLaw
keeps_law [] s m = refl
keeps_law (send sent ∷ cs) s m =
    subst (λ n. found s (with_sent sent (n + 1) (after cs).kept) ≡ shown (sends cs + 1 - 1024) s (state_at (send sent ∷ cs) s) (sent_at (send sent ∷ cs) s)) (sym (serial_law cs))
    (sent_shown sent (sends cs) s (after cs).kept (state_at cs s) (sent_at cs s) (s == sends cs + 1) refl (risen_to cs) (keeps_law cs s m))
keeps_law (deliver d ∷ cs) s m =
    subst (λ n. found s (with_arrival (nat_lt (n - 1024) d) d (after cs).kept) ≡ shown (sends cs - 1024) s (state_at (deliver d ∷ cs) s) (sent_at cs s)) (sym (serial_law cs))
    (delivered_shown (sends cs) s d (after cs).kept (state_at cs s) (sent_at cs s) (s == d) refl (risen_to cs) m.0 (keeps_law cs s m.1))
keeps_law (lose d ∷ cs) s m =
    lost_shown (sends cs) s d (after cs).kept (state_at cs s) (sent_at cs s) (s == d) refl (risen_to cs) (keeps_law cs s m.1)

-- ---- a closed transaction
below_step : (sent : Sent) (cs : List Call) (s : ℕ) (q : Sent) (b : Bool) → (s == sends cs + 1) ≡ b → cond b (Some sent) (sent_at cs s) ≡ Some q → (sent_at cs s ≡ Some q → s ≤ sends cs) → s ≤ sends cs + 1
below_step sent cs s q true d e ind = let eq : s ≡ sends cs + 1 = grind (arith, nat_tests) in omega (arith, eq)
below_step sent cs s q false d e ind = let l = ind e in omega (arith, l)

sent_below : (cs : List Call) (s : ℕ) (q : Sent) → sent_at cs s ≡ Some q → s ≤ sends cs
sent_below [] s q e = cc e
sent_below (send sent ∷ cs) s q e = below_step sent cs s q (s == sends cs + 1) refl e (sent_below cs s q)
sent_below (deliver d ∷ cs) s q e = sent_below cs s q e
sent_below (lose d ∷ cs) s q e = sent_below cs s q e

fronts : (cs later : List Call) → MayAll (later ++ cs) → MayAll cs
fronts cs [] m = m
fronts cs (send sent ∷ later) m = fronts cs later m
fronts cs (deliver d ∷ later) m = fronts cs later m.1
fronts cs (lose d ∷ later) m = fronts cs later m.1

none_of : (a s : ℕ) (state : Flight) (q : Sent) → shown a s (by_request true state) (Some q) ≡ None
none_of a s Unsent q = refl
none_of a s InFlight q = refl
none_of a s Delivered q = refl
none_of a s Lost q = refl
none_of a s Withdrawn q = refl

closed_here : (cs : List Call) (request earlier : Sent) (t : Transaction) (s : ℕ) → MayAll cs → begun_by request ≡ Some t → sent_at cs s ≡ Some earlier → belongs t earlier ≡ true → s ≤ sends cs → found s (after (send request ∷ cs)).kept ≡ None
closed_here cs request earlier t s m b e o l =
    let d : (s == sends cs + 1) ≡ false = grind (arith, nat_tests) in
    keeps_law (send request ∷ cs) s m
    ∙ ap (λ x. shown (sends cs + 1 - 1024) s (cond x InFlight (by_request (is_of (begun_by request) (sent_at cs s)) (state_at cs s))) (cond x (Some request) (sent_at cs s))) d
    ∙ ap (λ so. shown (sends cs + 1 - 1024) s (by_request (is_of (begun_by request) so) (state_at cs s)) so) e
    ∙ ap (λ of. shown (sends cs + 1 - 1024) s (by_request (is_of of (Some earlier)) (state_at cs s)) (Some earlier)) b
    ∙ ap (λ x. shown (sends cs + 1 - 1024) s (by_request x (state_at cs s)) (Some earlier)) o
    ∙ none_of (sends cs + 1 - 1024) s (state_at cs s) earlier

pub closed_law : ClosedLaw
closed_law cs later request earlier t s m b e o =
    let l : s ≤ sends cs = sent_below cs s earlier e in
    let now = closed_here cs request earlier t s (fronts (send request ∷ cs) later m) b e o l in
    (loses_all (send request ∷ cs) later s (omega (arith, l))).none now
