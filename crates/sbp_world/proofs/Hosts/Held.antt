-- What each note of the wire leaves of the labels of a requester, and of the generation that a node is in.
use Rattle.sbp_world.proofs.Words.Std.{arith, ◌≡◌, refl, sym, ◌∙◌, ap, ℕ, ◌+◌, nat_eq, Bool, true, false, cond, Option, Some, None, nat_tests, upd}
use Rattle.sbp_world.proofs.Words.Wire.{rcode_of, awaits, shape_of, ReplyKind, Kind, Part, Sending, Transaction, asked_by, begun_by, between, is_same, part_of, request, response, Held, Owed, Terms, arrives, asked_in, begins, begun_in, closes, closes_if, free, gets, gets_as, gives, ignores, ignores_that, is_news, is_served, judges, judges_if, kind_in, pays, puts, rests, sends, times_out, waits, Cause}
use Rattle.bus_transactions.proofs.Facts.{asked_is, begun_asked}
use Rattle.bus_transactions.proofs.PacketParts.{other_requester, same_refl}
use Rattle.sbp_journal.specs.Transactions.{no_packet}
use Rattle.sbp_journal.specs.declared.cause.Cause.TheVariants as causes
use Rattle.sbp_world.proofs.Common.{untrue, none_is, turned}

-- what leaves all labels and generations
pub record Quiet (t u : Terms) : Type 0 where
  pub held : u.held ≡ t.held
  pub generation : u.generation ≡ t.generation

judged_quiet : (begun : Option Transaction) (cause : Option Cause) (s : ℕ) (packet : Sending) (t : Terms) → Quiet t (judges begun cause s packet t)
judged_quiet None cause s packet t = record { held = refl; generation = refl }
judged_quiet (Some u) cause s packet t = record { held = refl; generation = refl }

judged_if : (b : Bool) (begun : Option Transaction) (s : ℕ) (packet : Sending) (t : Terms) → Quiet t (judges_if b begun s packet t)
judged_if true begun s packet t = judged_quiet begun (Some causes.Grammar) s packet t
judged_if false begun s packet t = record { held = refl; generation = refl }

ignored_by : (cause : Cause) (s : ℕ) (packet : Sending) (t : Terms) → Quiet t (ignores cause s packet t)
ignored_by causes.Generation s packet t = record { held = refl; generation = refl }
ignored_by causes.Grammar s packet t = let q = judged_if _ (asked_by packet) s packet (is_news s t) in record { held = q.held; generation = q.generation }
ignored_by causes.Label s packet t = record { held = refl; generation = refl }
ignored_by causes.Again s packet t = judged_quiet (asked_by packet) (Some causes.Again) s packet t
ignored_by causes.Source s packet t = let q = judged_quiet (asked_by packet) (Some causes.Source) s packet (is_news s t) in record { held = q.held; generation = q.generation }
ignored_by causes.Login s packet t = let q = judged_quiet (asked_by packet) (Some causes.Login) s packet (is_news s t) in record { held = q.held; generation = q.generation }
ignored_by causes.Slot s packet t = let q = judged_quiet (asked_by packet) (Some causes.Slot) s packet (is_served s (is_news s t)) in record { held = q.held; generation = q.generation }

pub ignored_quiet : (found : Option Sending) (cause : Cause) (s : ℕ) (t : Terms) → Quiet t (ignores_that found cause s t)
ignored_quiet None cause s t = record { held = refl; generation = refl }
ignored_quiet (Some packet) cause s t = let q = ignored_by cause s packet (arrives s t) in record { held = q.held; generation = q.generation }

-- ---- a transaction ends

not_free : {A : Type 0} (kind : ReplyKind) → shape_of free ≡ awaits kind → A
not_free kind e = absurd (differ e)
  where
    differ : shape_of free ≡ awaits kind → ⊥
    differ e = cc

not_rests : {A : Type 0} (kind : ReplyKind) → shape_of rests ≡ awaits kind → A
not_rests kind e = absurd (differ e)
  where
    differ : shape_of rests ≡ awaits kind → ⊥
    differ e = cc

-- what a label has then that still waits, it had before
abbrev StillWaits : (Transaction → Held) → (Transaction → Held) → Transaction → Type 0
StillWaits new old v = (kind : ReplyKind) → shape_of (new v) ≡ awaits kind → new v ≡ old v

freed_waits : (b : Bool) (held : Held) (kind : ReplyKind) → shape_of (cond b free held) ≡ awaits kind → cond b free held ≡ held
freed_waits true held kind e = not_free kind e
freed_waits false held kind e = refl

rested_waits : (b : Bool) (held : Held) (kind : ReplyKind) → shape_of (cond b rests held) ≡ awaits kind → cond b rests held ≡ held
rested_waits true held kind e = not_rests kind e
rested_waits false held kind e = refl

closed_if : (b : Bool) (s : ℕ) (u : Transaction) (rcode : ℕ) (t : Terms) (v : Transaction) → StillWaits (closes_if b s u rcode t).held t.held v
closed_if true s u rcode t v kind e = freed_waits (is_same v u) (t.held v) kind e
closed_if false s u rcode t v kind e = refl

closed_waits : (held : Held) (u : Transaction) (other : Kind) (rcode : ℕ) (t : Terms) (v : Transaction) → StillWaits (closes held u other rcode t).held t.held v
closed_waits (waits kind s) u other rcode t v k e = closed_if _ s u rcode t v k e
closed_waits free u other rcode t v kind e = refl
closed_waits rests u other rcode t v kind e = refl

got_as : (part : Part) (s : ℕ) (packet : Sending) (t : Terms) (v : Transaction) → StillWaits (gets_as part s packet t).held t.held v
got_as (request label kind) s packet t v k e = ap (λ (h : Transaction → Held). h v) (judged_quiet (asked_by packet) None s packet t).held
got_as (response label kind) s packet t v k e = let u = between packet packet.to packet.from label in closed_waits (t.held u) u kind (rcode_of packet.bytes) t v k e
got_as no_packet s packet t v k e = refl

pub got_waits : (found : Option Sending) (s : ℕ) (t : Terms) (v : Transaction) → StillWaits (gets found s t).held t.held v
got_waits None s t v k e = refl
got_waits (Some packet) s t v k e = got_as (part_of packet.bytes) s packet (is_served s (is_news s (arrives s t))) v k e

timed_by : (found : Option Transaction) (t : Terms) (v : Transaction) → StillWaits (times_out found t).held t.held v
timed_by None t v kind e = refl
timed_by (Some u) t v kind e = rested_waits (is_same v u) (t.held v) kind e

pub timed_waits : (found : Option Sending) (t : Terms) (v : Transaction) → StillWaits (times_out (begun_in found) t).held t.held v
timed_waits found t v kind e = timed_by (begun_in found) t v kind e

-- ---- none of another requester's

other_held : (b : Bool) (new old : Held) → b ≡ false → cond b new old ≡ old
other_held true new old e = untrue (sym e)
other_held false new old e = refl

apart_closed : (b : Bool) (s : ℕ) (u : Transaction) (rcode : ℕ) (t : Terms) (v : Transaction) → is_same v u ≡ false → (closes_if b s u rcode t).held v ≡ t.held v
apart_closed true s u rcode t v e = other_held (is_same v u) free (t.held v) e
apart_closed false s u rcode t v e = refl

apart_closes : (held : Held) (u : Transaction) (other : Kind) (rcode : ℕ) (t : Terms) (v : Transaction) → is_same v u ≡ false → (closes held u other rcode t).held v ≡ t.held v
apart_closes (waits kind s) u other rcode t v e = apart_closed _ s u rcode t v e
apart_closes free u other rcode t v e = refl
apart_closes rests u other rcode t v e = refl

apart_got : (part : Part) (s : ℕ) (packet : Sending) (t : Terms) (v : Transaction) → nat_eq packet.to v.requester ≡ false → (gets_as part s packet t).held v ≡ t.held v
apart_got (request label kind) s packet t v e = ap (λ (h : Transaction → Held). h v) (judged_quiet (asked_by packet) None s packet t).held
apart_got (response label kind) s packet t v e =
    let u = between packet packet.to packet.from label in
    apart_closes (t.held u) u kind (rcode_of packet.bytes) t v (other_requester v u (turned packet.to v.requester e))
apart_got no_packet s packet t v e = refl

-- a packet that goes elsewhere
pub got_apart : (found : Option Sending) (s : ℕ) (t : Terms) (v : Transaction) → ((packet : Sending) → found ≡ Some packet → nat_eq packet.to v.requester ≡ false) → (gets found s t).held v ≡ t.held v
got_apart None s t v e = refl
got_apart (Some packet) s t v e = apart_got (part_of packet.bytes) s packet (is_served s (is_news s (arrives s t))) v (e packet refl)

timed_apart_by : (found : Option Transaction) (t : Terms) (v : Transaction) → ((u : Transaction) → found ≡ Some u → is_same v u ≡ false) → (times_out found t).held v ≡ t.held v
timed_apart_by None t v e = refl
timed_apart_by (Some u) t v e = other_held (is_same v u) rests (t.held v) (e u refl)

-- the requester of what a packet begins is its sender
pub begun_from : (packet : Sending) (u : Transaction) → begun_by packet ≡ Some u → u.requester ≡ packet.from
begun_from packet u e = ap (λ (x : Transaction). x.requester) (asked_is packet u (begun_asked packet u e).1).is

-- a transaction of another node times out
pub timed_apart : (found : Option Sending) (t : Terms) (v : Transaction) → ((packet : Sending) → found ≡ Some packet → nat_eq packet.from v.requester ≡ false) → (times_out (begun_in found) t).held v ≡ t.held v
timed_apart None t v e = refl
timed_apart (Some packet) t v e =
    timed_apart_by (begun_by packet) t v (λ u f. other_requester v u (turned u.requester v.requester (ap (λ n. nat_eq n v.requester) (begun_from packet u f) ∙ e packet refl)))

timed_generation_by : (found : Option Transaction) (t : Terms) → (times_out found t).generation ≡ t.generation
timed_generation_by None t = refl
timed_generation_by (Some u) t = refl

pub timed_generation : (found : Option Sending) (t : Terms) → (times_out (begun_in found) t).generation ≡ t.generation
timed_generation found t = timed_generation_by (begun_in found) t

-- ---- a packet is sent

pub gives_held : (found : Option Transaction) (rcode : ℕ) (t : Terms) → (gives found rcode t).held ≡ t.held
gives_held None rcode t = refl
gives_held (Some u) rcode t = refl

pub pays_held : (owed : Option Owed) (sent : ℕ → Option Sending) (s : ℕ) (packet : Sending) (t : Terms) → (pays owed sent s packet t).held ≡ t.held
pays_held None sent s packet t = refl
pays_held (Some owed) sent s packet t = gives_held (asked_in (sent owed.serial)) (rcode_of packet.bytes) t

sends_held : (s : ℕ) (packet : Sending) (t : Terms) → (sends s packet t).held ≡ (begins (begun_by packet) s packet (puts (begun_by packet) s packet t)).held
sends_held s packet t = pays_held t.owes t.sent s packet (begins (begun_by packet) s packet (puts (begun_by packet) s packet t))

begins_apart : (begun : Option Transaction) (s : ℕ) (packet : Sending) (t : Terms) (v : Transaction) → ((u : Transaction) → begun ≡ Some u → is_same v u ≡ false) → (begins begun s packet (puts begun s packet t)).held v ≡ t.held v
begins_apart None s packet t v e = refl
begins_apart (Some u) s packet t v e = other_held (is_same v u) _ (t.held v) (e u refl)

-- it begins another transaction, or none
pub sent_apart : (s : ℕ) (packet : Sending) (t : Terms) (v : Transaction) → ((u : Transaction) → begun_by packet ≡ Some u → is_same v u ≡ false) → (sends s packet t).held v ≡ t.held v
sent_apart s packet t v e = ap (λ (h : Transaction → Held). h v) (sends_held s packet t) ∙ begins_apart (begun_by packet) s packet t v e

so_held : (b : Bool) (new old : Held) → b ≡ true → cond b new old ≡ new
so_held true new old e = refl
so_held false new old e = untrue e

begins_own : (begun : Option Transaction) (s : ℕ) (packet : Sending) (t : Terms) (v : Transaction) → begun ≡ Some v → (begins begun s packet (puts begun s packet t)).held v ≡ waits (kind_in (part_of packet.bytes)) s
begins_own None s packet t v e = none_is v e
begins_own (Some u) s packet t v e =
    so_held (is_same v u) (waits (kind_in (part_of packet.bytes)) s) (t.held v) (let same : u ≡ v = cc in ap (is_same v) same ∙ same_refl v)

-- it begins this one
pub sent_begun : (s : ℕ) (packet : Sending) (t : Terms) (v : Transaction) → begun_by packet ≡ Some v → (sends s packet t).held v ≡ waits (kind_in (part_of packet.bytes)) s
sent_begun s packet t v e = ap (λ (h : Transaction → Held). h v) (sends_held s packet t) ∙ begins_own (begun_by packet) s packet t v e

pub gives_count : (found : Option Transaction) (rcode : ℕ) (t : Terms) → (gives found rcode t).count ≡ t.count
gives_count None rcode t = refl
gives_count (Some u) rcode t = refl

pub pays_count : (owed : Option Owed) (sent : ℕ → Option Sending) (s : ℕ) (packet : Sending) (t : Terms) → (pays owed sent s packet t).count ≡ t.count
pays_count None sent s packet t = refl
pays_count (Some owed) sent s packet t = gives_count (asked_in (sent owed.serial)) (rcode_of packet.bytes) t

begins_count : (begun : Option Transaction) (s : ℕ) (packet : Sending) (t : Terms) → (begins begun s packet (puts begun s packet t)).count ≡ t.count + 1
begins_count None s packet t = refl
begins_count (Some u) s packet t = refl

pub sent_count : (s : ℕ) (packet : Sending) (t : Terms) → (sends s packet t).count ≡ t.count + 1
sent_count s packet t = pays_count t.owes t.sent s packet (begins (begun_by packet) s packet (puts (begun_by packet) s packet t)) ∙ begins_count (begun_by packet) s packet t

pub gives_sent : (found : Option Transaction) (rcode : ℕ) (t : Terms) → (gives found rcode t).sent ≡ t.sent
gives_sent None rcode t = refl
gives_sent (Some u) rcode t = refl

pub pays_sent : (owed : Option Owed) (sent : ℕ → Option Sending) (s : ℕ) (packet : Sending) (t : Terms) → (pays owed sent s packet t).sent ≡ t.sent
pays_sent None sent s packet t = refl
pays_sent (Some owed) sent s packet t = gives_sent (asked_in (sent owed.serial)) (rcode_of packet.bytes) t

begins_sent : (begun : Option Transaction) (s : ℕ) (packet : Sending) (t : Terms) → (begins begun s packet (puts begun s packet t)).sent ≡ upd t.sent s (Some packet)
begins_sent None s packet t = refl
begins_sent (Some u) s packet t = refl

pub sends_sent : (s : ℕ) (packet : Sending) (t : Terms) → (sends s packet t).sent ≡ upd t.sent s (Some packet)
sends_sent s packet t = pays_sent t.owes t.sent s packet (begins (begun_by packet) s packet (puts (begun_by packet) s packet t)) ∙ begins_sent (begun_by packet) s packet t

-- the packets by their serials: the one that is sent, and those before it
pub sent_new : (s : ℕ) (packet : Sending) (t : Terms) → (sends s packet t).sent s ≡ Some packet
sent_new s packet t = ap (λ (f : ℕ → Option Sending). f s) (sends_sent s packet t) ∙ ap (λ b. cond b (Some packet) (t.sent s)) (let e : nat_eq s s ≡ true = grind (arith, nat_tests) in e)

pub sent_old : (s n : ℕ) (packet : Sending) (t : Terms) → nat_eq n s ≡ false → (sends s packet t).sent n ≡ t.sent n
sent_old s n packet t e = ap (λ (f : ℕ → Option Sending). f n) (sends_sent s packet t) ∙ ap (λ b. cond b (Some packet) (t.sent n)) e
