-- What a note by which a packet is judged makes of how often packets were judged, and of the request that is to be answered; and a write that comes again is ignored as such.
use Rattle.sbp_world.proofs.Words.Std.{◌≡◌, ◌∙◌, refl, sym, ap, ◌+◌, ℕ, Bool, true, false, Option, Some, None, false≢true, same_Some, upd}
use Rattle.sbp_world.proofs.Words.Wire.{Cause, Event, Held, Kind, Owed, Part, Sending, Terms, Transaction, arrives, asked_by, asked_in, begins, begun_by, between, by_again, by_generation, by_grammar, closes, closes_if, free, gets, gets_as, ignores, ignores_that, is_news, is_repeated, is_response, is_same_kind, is_served, is_to, judges, judges_if, may_get, may_ignore_by, opened, part_of, pays, puts, rcode_of, request, response, rests, row_of, sends, times_out, waits}
use Rattle.bus_transactions.specs.Judging.{facts_of}
use Rattle.sbp_journal.specs.Transactions.{no_packet}
use Rattle.sbp_journal.specs.declared.cause.Cause.TheVariants as causes
use Rattle.sbp_journal.specs.declared.event.Event.TheVariants as events
use Rattle.sbp_world.proofs.Common.{none_is}
use Rattle.sbp_world.proofs.Completing.ManagedTerms.{gives_judged}

-- ---- what a note by which a packet is judged makes of that
-- the packet is to be answered then
pub record IsOwedNow (t u : Terms) (serial : ℕ) (cause : Option Cause) : Type 0 where
  pub packet : Sending
  pub sent : t.sent serial ≡ Some packet
  pub of : Transaction
  pub asks : asked_by packet ≡ Some of
  pub owes : u.owes ≡ Some (record { serial = serial; cause = cause })
  pub judged : u.judged ≡ upd t.judged serial (t.judged serial + 1)
  pub current : cause ≡ Some causes.Generation → ⊥
  pub aims : cause ≡ Some causes.Grammar → is_to packet.bytes (t.ids packet.generation packet.to) ≡ true

pub data Effect (t u : Terms) (serial : ℕ) (cause : Option Cause) : Type 0 where
  keeps : u.judged ≡ t.judged → u.owes ≡ t.owes → Effect t u serial cause
  owes_it : IsOwedNow t u serial cause → Effect t u serial cause

judges_effect : (o : Option Transaction) (cause : Option Cause) (s : ℕ) (q : Sending) (t c : Terms) → c.judged ≡ t.judged → c.owes ≡ t.owes → t.sent s ≡ Some q → asked_by q ≡ o → (cause ≡ Some causes.Generation → ⊥) → (cause ≡ Some causes.Grammar → is_to q.bytes (t.ids q.generation q.to) ≡ true) → Effect t (judges o cause s q c) s cause
judges_effect None cause s q t c e f sent asks later aims = keeps e f
judges_effect (Some v) cause s q t c e f sent asks later aims = owes_it (record { packet = q; sent = sent; of = v; asks = asks; owes = refl; judged = ap (λ (g : ℕ → ℕ). upd g s (g s + 1)) e; current = later; aims = aims })

none_cause : {A : Type 0} (cause : Cause) → None ≡ Some cause → A
none_cause cause e = none_is cause e

part_effect : (part : Part) (s : ℕ) (q : Sending) (t c : Terms) → c.judged ≡ t.judged → c.owes ≡ t.owes → t.sent s ≡ Some q → Effect t (gets_as part s q c) s None
part_effect (request label kind) s q t c e f sent = judges_effect (asked_by q) None s q t c e f sent refl (λ g. none_cause _ g) (λ g. none_cause _ g)
part_effect (response label kind) s q t c e f sent = by (c.held (between q q.to q.from label))
  where
    by : (h : Held) → Effect t (closes h (between q q.to q.from label) kind (rcode_of q.bytes) c) s None
    by (waits k own) = keeps (closes_judged (is_same_kind k kind) own ∙ e) (closes_owes (is_same_kind k kind) own ∙ f)
      where
        closes_judged : (b : Bool) (own : ℕ) → (closes_if b own (between q q.to q.from label) (rcode_of q.bytes) c).judged ≡ c.judged
        closes_judged true own = refl
        closes_judged false own = refl

        closes_owes : (b : Bool) (own : ℕ) → (closes_if b own (between q q.to q.from label) (rcode_of q.bytes) c).owes ≡ c.owes
        closes_owes true own = refl
        closes_owes false own = refl
    by free = keeps e f
    by rests = keeps e f
part_effect no_packet s q t c e f sent = keeps e f

pub gets_effect : (found : Option Sending) (s : ℕ) (t : Terms) → t.sent s ≡ found → Effect t (gets found s t) s None
gets_effect None s t e = keeps refl refl
gets_effect (Some q) s t e = part_effect (part_of q.bytes) s q t (is_served s (is_news s (arrives s t))) refl refl e

other_cause : (cause wanted : Cause) → (cause ≡ wanted → ⊥) → Some cause ≡ Some wanted → ⊥
other_cause cause wanted n e = n (same_Some cause wanted e)

grammar_effect : (b : Bool) (s : ℕ) (q : Sending) (t c : Terms) → c.judged ≡ t.judged → c.owes ≡ t.owes → t.sent s ≡ Some q → is_to q.bytes (t.ids q.generation q.to) ≡ b → Effect t (judges_if b (asked_by q) s q c) s (Some causes.Grammar)
grammar_effect true s q t c e f sent b = judges_effect (asked_by q) (Some causes.Grammar) s q t c e f sent refl (other_cause causes.Grammar causes.Generation (λ g. cc)) (λ g. b)
grammar_effect false s q t c e f sent b = keeps e f

ignores_effect : (cause : Cause) (s : ℕ) (q : Sending) (t c : Terms) → c.judged ≡ t.judged → c.owes ≡ t.owes → c.ids ≡ t.ids → t.sent s ≡ Some q → Effect t (ignores cause s q c) s (Some cause)
ignores_effect causes.Generation s q t c e f i sent = keeps e f
ignores_effect causes.Grammar s q t c e f i sent = grammar_effect (is_to q.bytes (c.ids q.generation q.to)) s q t (is_news s c) e f sent (ap (λ (ids : ℕ → ℕ → ℕ). is_to q.bytes (ids q.generation q.to)) (sym i))
ignores_effect causes.Label s q t c e f i sent = keeps e f
ignores_effect causes.Again s q t c e f i sent = judges_effect (asked_by q) (Some causes.Again) s q t c e f sent refl (other_cause causes.Again causes.Generation (λ g. cc)) (λ g. absurd (other_cause causes.Again causes.Grammar (λ h. cc) g))
ignores_effect causes.Source s q t c e f i sent = judges_effect (asked_by q) (Some causes.Source) s q t (is_news s c) e f sent refl (other_cause causes.Source causes.Generation (λ g. cc)) (λ g. absurd (other_cause causes.Source causes.Grammar (λ h. cc) g))
ignores_effect causes.Login s q t c e f i sent = judges_effect (asked_by q) (Some causes.Login) s q t (is_news s c) e f sent refl (other_cause causes.Login causes.Generation (λ g. cc)) (λ g. absurd (other_cause causes.Login causes.Grammar (λ h. cc) g))
ignores_effect causes.Slot s q t c e f i sent = judges_effect (asked_by q) (Some causes.Slot) s q t (is_served s (is_news s c)) e f sent refl (other_cause causes.Slot causes.Generation (λ g. cc)) (λ g. absurd (other_cause causes.Slot causes.Grammar (λ h. cc) g))

pub that_effect : (found : Option Sending) (cause : Cause) (s : ℕ) (t : Terms) → t.sent s ≡ found → Effect t (ignores_that found cause s t) s (Some cause)
that_effect None cause s t e = keeps refl refl
that_effect (Some q) cause s t e = ignores_effect cause s q t (arrives s t) refl refl refl e

-- ---- a write that was judged before comes again
abbrev pub MayJudge : Terms → ℕ → Option Cause → Type 0
MayJudge t s None = (q : Sending) → t.sent s ≡ Some q → may_get (row_of (facts_of t q)) ≡ true
MayJudge t s (Some cause) = (q : Sending) → t.sent s ≡ Some q → may_ignore_by (row_of (facts_of t q)) cause ≡ true

only_generation : (cause : Cause) → may_ignore_by by_generation cause ≡ true → cause ≡ causes.Generation
only_generation causes.Generation e = refl
only_generation causes.Grammar e = absurd (false≢true e)
only_generation causes.Label e = absurd (false≢true e)
only_generation causes.Again e = absurd (false≢true e)
only_generation causes.Source e = absurd (false≢true e)
only_generation causes.Login e = absurd (false≢true e)
only_generation causes.Slot e = absurd (false≢true e)

only_grammar : (cause : Cause) → may_ignore_by by_grammar cause ≡ true → cause ≡ causes.Grammar
only_grammar causes.Grammar e = refl
only_grammar causes.Generation e = absurd (false≢true e)
only_grammar causes.Label e = absurd (false≢true e)
only_grammar causes.Again e = absurd (false≢true e)
only_grammar causes.Source e = absurd (false≢true e)
only_grammar causes.Login e = absurd (false≢true e)
only_grammar causes.Slot e = absurd (false≢true e)

only_again : (cause : Cause) → may_ignore_by by_again cause ≡ true → cause ≡ causes.Again
only_again causes.Again e = refl
only_again causes.Generation e = absurd (false≢true e)
only_again causes.Grammar e = absurd (false≢true e)
only_again causes.Label e = absurd (false≢true e)
only_again causes.Source e = absurd (false≢true e)
only_again causes.Login e = absurd (false≢true e)
only_again causes.Slot e = absurd (false≢true e)

ignored_row : (c n r a e : Bool) → r ≡ false → e ≡ true → (cause : Cause) → may_ignore_by (row_of (record { is_current = c; is_for_node = n; is_response = r; is_awaited = a; is_repeated = e })) cause ≡ true → (cause ≡ causes.Generation → ⊥) → (cause ≡ causes.Grammar → n ≡ true) → cause ≡ causes.Again
ignored_row false n r a e f g cause m later aims = absurd (later (only_generation cause m))
ignored_row true false r a e f g cause m later aims = absurd (false≢true (aims (only_grammar cause m)))
ignored_row true true true a e f g cause m later aims = absurd (false≢true (sym f))
ignored_row true true false a false f g cause m later aims = absurd (false≢true g)
ignored_row true true false a true f g cause m later aims = only_again cause m

got_row : (c n r a e : Bool) → r ≡ false → e ≡ true → may_get (row_of (record { is_current = c; is_for_node = n; is_response = r; is_awaited = a; is_repeated = e })) ≡ true → ⊥
got_row false n r a e f g m = false≢true m
got_row true false r a e f g m = false≢true m
got_row true true true a e f g m = false≢true (sym f)
got_row true true false a false f g m = false≢true g
got_row true true false a true f g m = false≢true m

pub again_row : (c n r a e : Bool) → may_ignore_by (row_of (record { is_current = c; is_for_node = n; is_response = r; is_awaited = a; is_repeated = e })) causes.Again ≡ true → e ≡ true
again_row false n r a e f = absurd (false≢true f)
again_row true false r a e f = absurd (false≢true f)
again_row true true true false e f = absurd (false≢true f)
again_row true true true true e f = absurd (false≢true f)
again_row true true false a false f = absurd (false≢true f)
again_row true true false a true f = refl

pub comes_again : (t : Terms) (s : ℕ) (cause : Option Cause) (q : Sending) (label : ℕ) (kind : Kind) → t.sent s ≡ Some q → part_of q.bytes ≡ request label kind → is_repeated t (part_of q.bytes) q ≡ true → MayJudge t s cause → (cause ≡ Some causes.Generation → ⊥) → (cause ≡ Some causes.Grammar → is_to q.bytes (t.ids q.generation q.to) ≡ true) → cause ≡ Some causes.Again
comes_again t s None q label kind sent part e may later aims =
    let f = facts_of t q in absurd (got_row f.is_current f.is_for_node f.is_response f.is_awaited f.is_repeated (ap is_response part) e (may q sent))
comes_again t s (Some cause) q label kind sent part e may later aims =
    let f = facts_of t q in
    ap (λ (x : Cause). Some x) (ignored_row f.is_current f.is_for_node f.is_response f.is_awaited f.is_repeated (ap is_response part) e cause (may q sent) (λ g. later (ap (λ (x : Cause). Some x) g)) (λ g. aims (ap (λ (x : Cause). Some x) g)))

-- ---- a write, with its first response
pub opened_judged : (event : Event) (t : Terms) → (opened event t).judged ≡ t.judged
opened_judged (events.Reset physical) t = refl
opened_judged (events.Repeat serial) t = refl
opened_judged _ t = refl

pub late_judged : (begun : Option Transaction) (t : Terms) → (times_out begun t).judged ≡ t.judged
late_judged None t = refl
late_judged (Some u) t = refl

begins_judged : (u : Option Transaction) (s : ℕ) (packet : Sending) (t : Terms) → (begins u s packet t).judged ≡ t.judged
begins_judged None s packet t = refl
begins_judged (Some u) s packet t = refl

pays_judged : (owed : Option Owed) (sent : ℕ → Option Sending) (s : ℕ) (packet : Sending) (t : Terms) → (pays owed sent s packet t).judged ≡ t.judged
pays_judged None sent s packet t = refl
pays_judged (Some owed) sent s packet t = gives_judged (asked_in (sent owed.serial)) (rcode_of packet.bytes) t

pub sends_judged : (s : ℕ) (packet : Sending) (t : Terms) → (sends s packet t).judged ≡ t.judged
sends_judged s packet t =
    pays_judged t.owes t.sent s packet (begins (begun_by packet) s packet (puts (begun_by packet) s packet t)) ∙ begins_judged (begun_by packet) s packet (puts (begun_by packet) s packet t)
