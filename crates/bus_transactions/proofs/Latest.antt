-- What was sent stays, and the generation is the same since the latest reset: so losses may be read off the latest terms.
use Rattle.std.specs.Prelude.{◌≡◌, ℕ, ◌+◌, ◌≤◌, nat_eq, Bool, true, false, cond, List, [], ◌∷◌, Option, Some, None, refl}
use Rattle.std.proofs.Common.{arith, sym, ◌∙◌, ap}
use Rattle.sbp_base.specs.Update.{upd}
use Rattle.async_packet.specs.Fields.{rcode_of}
use Rattle.sbp_journal.specs.Run.{Moment, asked, said}
use Rattle.sbp_journal.specs.Transactions.{Kind, Part, request, response, no_packet, part_of, is_to, is_same_kind, Transaction, Sending, between, asked_by, begun_by}
use Rattle.sbp_journal.specs.Wire.{Terms, terms, Held, free, waits, rests, Owed, asked_in, begun_in, puts, begins, gives, pays, arrives, is_news, is_served, judges, judges_if, closes, closes_if, gets, gets_as, ignores, ignores_that, times_out, opened, passed}
use Rattle.sbp_journal.specs.declared.cause.Cause.{Cause}
use Rattle.sbp_journal.specs.declared.cause.Cause.TheVariants as causes
use Rattle.sbp_journal.specs.declared.event.Event.{Event}
use Rattle.sbp_journal.specs.declared.event.Event.TheVariants as events
use Rattle.sbp_journal.specs.declared.note.Note.TheVariants as notes
use Rattle.bus_transactions.specs.Carried.{IsOfOther, AreKeptBy, AreKept, LatestLaw}
use Rattle.bus_transactions.specs.May.{Always}
use Rattle.bus_transactions.specs.Moves.{after}
use Rattle.bus_transactions.specs.Packets.{SerialsCount}
use Rattle.bus_transactions.proofs.Facts.{nat_is}
use Rattle.bus_transactions.proofs.PacketLaws.{packets_always}

-- ---- what a note leaves as it was
abbrev Leaves : Terms → Terms → Type 0
Leaves t new = (new.bus ≡ t.bus) × ((new.count ≡ t.count) × (new.sent ≡ t.sent))

judges_leaves : (began : Option Transaction) (cause : Option Cause) (s : ℕ) (q : Sending) (t : Terms) → Leaves t (judges began cause s q t)
judges_leaves None cause s q t = (refl, (refl, refl))
judges_leaves (Some u) cause s q t = (refl, (refl, refl))

closes_if_leaves : (b : Bool) (s : ℕ) (u : Transaction) (rcode : ℕ) (t : Terms) → Leaves t (closes_if b s u rcode t)
closes_if_leaves true s u rcode t = (refl, (refl, refl))
closes_if_leaves false s u rcode t = (refl, (refl, refl))

closes_leaves : (held : Held) (u : Transaction) (kind : Kind) (rcode : ℕ) (t : Terms) → Leaves t (closes held u kind rcode t)
closes_leaves free u kind rcode t = (refl, (refl, refl))
closes_leaves rests u kind rcode t = (refl, (refl, refl))
closes_leaves (waits waited s) u kind rcode t = closes_if_leaves (is_same_kind waited kind) s u rcode t

part_leaves : (part : Part) (s : ℕ) (q : Sending) (t : Terms) → Leaves t (gets_as part s q t)
part_leaves (request l k) s q t = judges_leaves (asked_by q) None s q t
part_leaves (response l k) s q t = closes_leaves (t.held (between q q.to q.from l)) (between q q.to q.from l) k (rcode_of q.bytes) t
part_leaves no_packet s q t = (refl, (refl, refl))

gets_leaves : (so : Option Sending) (s : ℕ) (t : Terms) → Leaves t (gets so s t)
gets_leaves None s t = (refl, (refl, refl))
gets_leaves (Some q) s t = part_leaves (part_of q.bytes) s q (is_served s (is_news s (arrives s t)))

judges_if_leaves : (b : Bool) (began : Option Transaction) (s : ℕ) (q : Sending) (t : Terms) → Leaves t (judges_if b began s q t)
judges_if_leaves true began s q t = judges_leaves began (Some causes.Grammar) s q t
judges_if_leaves false began s q t = (refl, (refl, refl))

ignores_leaves : (cause : Cause) (s : ℕ) (q : Sending) (t : Terms) → Leaves t (ignores cause s q t)
ignores_leaves causes.Generation s q t = (refl, (refl, refl))
ignores_leaves causes.Grammar s q t = judges_if_leaves (is_to q.bytes (t.ids q.generation q.to)) (asked_by q) s q (is_news s t)
ignores_leaves causes.Label s q t = (refl, (refl, refl))
ignores_leaves causes.Again s q t = judges_leaves (asked_by q) (Some causes.Again) s q t
ignores_leaves causes.Source s q t = judges_leaves (asked_by q) (Some causes.Source) s q (is_news s t)
ignores_leaves causes.Login s q t = judges_leaves (asked_by q) (Some causes.Login) s q (is_news s t)
ignores_leaves causes.Slot s q t = judges_leaves (asked_by q) (Some causes.Slot) s q (is_served s (is_news s t))

that_leaves : (so : Option Sending) (cause : Cause) (s : ℕ) (t : Terms) → Leaves t (ignores_that so cause s t)
that_leaves None cause s t = (refl, (refl, refl))
that_leaves (Some q) cause s t = ignores_leaves cause s q (arrives s t)

late_leaves : (begun : Option Transaction) (t : Terms) → Leaves t (times_out begun t)
late_leaves None t = (refl, (refl, refl))
late_leaves (Some u) t = (refl, (refl, refl))

begins_leaves : (begun : Option Transaction) (s : ℕ) (q : Sending) (t : Terms) → Leaves t (begins begun s q t)
begins_leaves None s q t = (refl, (refl, refl))
begins_leaves (Some u) s q t = (refl, (refl, refl))

gives_leaves : (found : Option Transaction) (rcode : ℕ) (t : Terms) → Leaves t (gives found rcode t)
gives_leaves None rcode t = (refl, (refl, refl))
gives_leaves (Some u) rcode t = (refl, (refl, refl))

pays_leaves : (owed : Option Owed) (sent : ℕ → Option Sending) (s : ℕ) (q : Sending) (t : Terms) → Leaves t (pays owed sent s q t)
pays_leaves None sent s q t = (refl, (refl, refl))
pays_leaves (Some owed) sent s q t = gives_leaves (asked_in (sent owed.serial)) (rcode_of q.bytes) t

opened_leaves : (event : Event) (t : Terms) → Leaves t (opened event t)
opened_leaves (events.Reset physical) t = (refl, (refl, refl))
opened_leaves (events.Repeat s) t = (refl, (refl, refl))
opened_leaves _ t = (refl, (refl, refl))

-- a packet is added, a reset begins a generation, and nothing else tells of either
abbrev IsAfter : Moment → Terms → Terms → Type 0
IsAfter (said (notes.Sent s generation from to bytes)) t new = (new.bus ≡ t.bus) × ((new.count ≡ t.count + 1) × (new.sent ≡ upd t.sent s (Some (record { generation = generation; from = from; to = to; bytes = bytes; injected = t.injected s }))))
IsAfter (said (notes.Reset generation)) t new = (new.count ≡ t.count) × (new.sent ≡ t.sent)
IsAfter _ t new = Leaves t new

moment_after : (moment : Moment) (t : Terms) → IsAfter moment t (passed moment t)
moment_after (asked line event) t = opened_leaves event t
moment_after (said (notes.Sent s generation from to bytes)) t =
    let q : Sending = record { generation = generation; from = from; to = to; bytes = bytes; injected = t.injected s } in
    let b = begins_leaves (begun_by q) s q (puts (begun_by q) s q t) in
    let p = pays_leaves t.owes t.sent s q (begins (begun_by q) s q (puts (begun_by q) s q t)) in
    (p.0 ∙ b.0, (p.1.0 ∙ b.1.0, p.1.1 ∙ b.1.1))
moment_after (said (notes.Got s)) t = gets_leaves (t.sent s) s t
moment_after (said (notes.Ignored s cause)) t = that_leaves (t.sent s) cause s t
moment_after (said (notes.TimedOut s)) t = late_leaves (begun_in (t.sent s)) t
moment_after (said (notes.Reset generation)) t = (refl, refl)
moment_after (said _) t = (refl, (refl, refl))

-- ---- serials
counts_before : (moment : Moment) (past : List Moment) → SerialsCount (moment ∷ past) → SerialsCount past
counts_before (said (notes.Sent s generation from to bytes)) past c = c.1
counts_before _ past c = c

-- no packet has a serial above the count
abbrev AreLow : Terms → Type 0
AreLow t = (s : ℕ) (q : Sending) → t.sent s ≡ Some q → s ≤ t.count

low_left : (t new : Terms) → new.count ≡ t.count → new.sent ≡ t.sent → AreLow t → AreLow new
low_left t new count sent low s q e = let l = low s q (ap (λ f. f s) (sym sent) ∙ e) in omega (arith, count, l)

low_added : (t new : Terms) (n : ℕ) (added : Sending) → n ≡ t.count + 1 → new.count ≡ t.count + 1 → new.sent ≡ upd t.sent n (Some added) → AreLow t → AreLow new
low_added t new n added next count sent low s q e = by_serial (nat_eq s n) refl (ap (λ f. f s) (sym sent) ∙ e)
  where
    by_serial : (b : Bool) → nat_eq s n ≡ b → cond b (Some added) (t.sent s) ≡ Some q → s ≤ new.count
    by_serial true i f = let is = nat_is s n i in omega (arith, is, next, count)
    by_serial false i f = let l = low s q f in omega (arith, count, l)

low_step : (moment : Moment) (past : List Moment) → SerialsCount (moment ∷ past) → AreLow (terms past) → AreLow (terms (moment ∷ past))
low_step (said (notes.Sent s generation from to bytes)) past c low =
    let a = moment_after (said (notes.Sent s generation from to bytes)) (terms past) in
    low_added (terms past) (terms (said (notes.Sent s generation from to bytes) ∷ past)) s _ c.0 a.1.0 a.1.1 low
low_step (said (notes.Reset generation)) past c low = low
low_step moment past c low = let a = moment_after moment (terms past) in low_left (terms past) (terms (moment ∷ past)) a.1.0 a.1.1 low

all_low : (past : List Moment) → SerialsCount past → AreLow (terms past)
all_low [] c = λ s q e. cc
all_low (moment ∷ past) c = low_step moment past c (all_low past (counts_before moment past c))

-- ---- since the latest reset
-- these terms have the packets that were sent, and the generation
record IsSince (now t : Terms) : Type 0 where
  bus : now.bus ≡ t.bus
  sent : (s : ℕ) (q : Sending) → t.sent s ≡ Some q → now.sent s ≡ Some q

since_left : {now t new : Terms} → Leaves t new → IsSince now new → IsSince now t
since_left a since = record {
  bus = since.bus ∙ a.0;
  sent = λ s q e. since.sent s q (ap (λ f. f s) a.1.1 ∙ e);
}

since_added : {now t new : Terms} (n : ℕ) (added : Sending) → n ≡ t.count + 1 → AreLow t → new.bus ≡ t.bus → new.sent ≡ upd t.sent n (Some added) → IsSince now new → IsSince now t
since_added {now} {t} {new} n added next low bus sent since = record {
  bus = since.bus ∙ bus;
  sent = λ s q e. since.sent s q (ap (λ f. f s) sent ∙ by_serial s q e (nat_eq s n) refl);
}
  where
    by_serial : (s : ℕ) (q : Sending) → t.sent s ≡ Some q → (b : Bool) → nat_eq s n ≡ b → cond b (Some added) (t.sent s) ≡ Some q
    by_serial s q e true i = let is = nat_is s n i in let l = low s q e in absurd (omega (arith, is, next, l))
    by_serial s q e false i = e

-- by these terms, and so by the terms before each note
abbrev IsBy : Terms → List Moment → Type 0
IsBy now past = AreKeptBy (λ s before. IsOfOther now s) past

latest_step : (now : Terms) (moment : Moment) (past : List Moment) → SerialsCount (moment ∷ past) → IsSince now (terms (moment ∷ past)) → IsBy now (moment ∷ past) → (IsSince now (terms past) → IsBy now past → AreKept past) → AreKept (moment ∷ past)
latest_step now (said (notes.Reset generation)) past c since k go = tt
latest_step now (said (notes.Lost s)) past c since k go = k
latest_step now (said (notes.TimedOut s)) past c since k go = k
latest_step now (said (notes.Injected s)) past c since k go = k
latest_step now (said (notes.Ignored s causes.Generation)) past c since k go =
    let before = since_left (moment_after (said (notes.Ignored s causes.Generation)) (terms past)) since in
    (λ q sent g. k.0 q (before.sent s q sent) (g ∙ sym before.bus), go before k.1)
latest_step now (said (notes.Sent s generation from to bytes)) past c since k go =
    let a = moment_after (said (notes.Sent s generation from to bytes)) (terms past) in
    go (since_added s _ c.0 (all_low past c.1) a.0 a.1.1 since) k
latest_step now moment past c since k go = go (since_left (moment_after moment (terms past)) since) k

latest : (now : Terms) (past : List Moment) → SerialsCount past → IsSince now (terms past) → IsBy now past → AreKept past
latest now [] c since k = tt
latest now (moment ∷ past) c since k =
    latest_step now moment past c since k (λ before rest. latest now past (counts_before moment past c) before rest)

pub latest_always : Always LatestLaw
latest_always moves may k =
    let past : List Moment = (after moves).past in
    latest (terms past) past (packets_always moves may).0 (record { bus = refl; sent = λ s q e. e }) k
