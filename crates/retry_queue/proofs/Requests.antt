-- What a history of a run says of the moments of a line; and that an initiator sends a request in the line of an action of a queue.
use Rattle.std.proofs.Common.{◌≡◌, ◌∙◌, refl, sym, ap, subst, ℕ, Bool, true, List, [], ◌∷◌, ◌++◌, map, Option, Some, None}
use Rattle.async_packet.specs.Canon.{canon}
use Rattle.async_packet.specs.Packet.{Packet, lock, lock_response, read_block, read_block_response, read_quadlet, read_quadlet_response, write_block, write_quadlet, write_response}
use Rattle.async_packet.proofs.RoundTrip.{canon_spells}
use Rattle.async_packet.proofs.Spelled.{reading_spelled}
use Rattle.bus_transactions.specs.Answers.{AreAnswered, IsSentFor}
use Rattle.bus_transactions.specs.Sent.{AreSent, IsFromTo, IsOwn}
use Rattle.bus_transactions.proofs.PacketParts.{part_read}
use Rattle.sbp_journal.specs.Run.{Moment, asked, said}
use Rattle.sbp_journal.specs.Transactions.{Part, Sending, Transaction, begun_by, no_packet, part_in, part_of, request, response}
use Rattle.sbp_journal.specs.Wire.{Owed, Terms, begins, opened, pays, puts, sends, terms}
use Rattle.sbp_journal.specs.declared.event.Event.{Event}
use Rattle.sbp_journal.specs.declared.event.Event.TheVariants as events
use Rattle.sbp_journal.specs.declared.note.Note.{Note}
use Rattle.sbp_journal.specs.declared.note.Note.TheVariants as notes
use Rattle.sbp_laws.specs.OrderLaw.{OrderAt}
use Rattle.sbp_laws.specs.Turns.{EachMoment}
use Rattle.sbp_world.specs.Hosts.Statuses.Finished.{IsTakenHere}
use Rattle.retry_queue.specs.Heard.{IsRequest}
use Rattle.retry_queue.proofs.Acted.{of_action}
use Rattle.retry_queue.proofs.Cases.{both_ways}
use Rattle.retry_queue.proofs.Generations.{IsFair}

-- ---- what is known of a history, and so of what stood before
pub record Moments (wild : ℕ → Bool) (past : List Moment) : Type 0 where
  pub sent : AreSent past
  pub answered : AreAnswered past
  pub taken : EachMoment IsTakenHere past
  pub order : EachMoment (OrderAt wild) past

sent_before : (moment : Moment) (past : List Moment) → AreSent (moment ∷ past) → AreSent past
sent_before (said (notes.Sent s generation from to bytes)) past h = h.1
sent_before _ past h = h

answered_before : (moment : Moment) (past : List Moment) → AreAnswered (moment ∷ past) → AreAnswered past
answered_before (asked line event) past h = h.1
answered_before (said (notes.Sent s generation from to bytes)) past h = h.1
answered_before (said (notes.Injected s)) past h = h.1
answered_before (said (notes.Got s)) past h = h.1
answered_before (said (notes.Ignored s cause)) past h = h.1
answered_before (said (notes.Lost s)) past h = h.1
answered_before (said (notes.TimedOut s)) past h = h.1
answered_before (said (notes.Reset generation)) past h = h.1
answered_before (said (notes.Seen node generation)) past h = h.1
answered_before _ past h = h

pub moments_before : (wild : ℕ → Bool) (moment : Moment) (past : List Moment) → Moments wild (moment ∷ past) → Moments wild past
moments_before wild moment past h = record {
  sent = sent_before moment past h.sent;
  answered = answered_before moment past h.answered;
  taken = h.taken.1;
  order = h.order.1;
}

pub moments_all_before : (wild : ℕ → Bool) (ns : List Note) (past : List Moment) → Moments wild (map said ns ++ past) → Moments wild past
moments_all_before wild [] past h = h
moments_all_before wild (note ∷ ns) past h = moments_all_before wild ns past (moments_before wild (said note) (map said ns ++ past) h)

-- ---- in the line of an action no response is owed

opened_owes : (event : Event) (t : Terms) → (opened event t).owes ≡ t.owes
opened_owes (events.Reset physical) t = refl
opened_owes (events.Repeat s) t = refl
opened_owes _ t = refl

pub owes_line : (line : ℕ) (event : Event) (past : List Moment) → AreAnswered (asked line event ∷ past) → (terms (asked line event ∷ past)).owes ≡ None
owes_line line event past h = opened_owes event (terms past) ∙ h.0

begins_owes : (begun : Option Transaction) (s : ℕ) (q : Sending) (t : Terms) → (begins begun s q t).owes ≡ t.owes
begins_owes None s q t = refl
begins_owes (Some u) s q t = refl

sends_owes : (s : ℕ) (q : Sending) (t : Terms) → t.owes ≡ None → (sends s q t).owes ≡ None
sends_owes s q t none =
    let begun = begins (begun_by q) s q (puts (begun_by q) s q t) in
    ap (λ (owed : Option Owed). (pays owed t.sent s q begun).owes) none ∙ begins_owes (begun_by q) s q (puts (begun_by q) s q t) ∙ none

pub owes_none : (note : Note) (past : List Moment) → of_action note ≡ true → (terms past).owes ≡ None → (terms (said note ∷ past)).owes ≡ None
owes_none (notes.Sent s generation from to bytes) past of none =
    sends_owes s (record { generation = generation; from = from; to = to; bytes = bytes; injected = (terms past).injected s }) (terms past) none
owes_none (notes.Low i n k) past of none = none
owes_none (notes.Linked i n k) past of none = none
owes_none (notes.Rung i n k) past of none = none
owes_none (notes.Refused line number) past of none = none
owes_none _ past of none = absurd (cc of)

-- ---- so what is sent in it is a request

some_part : (packet : Packet) → no_packet ≡ part_in packet → ⊥
some_part (write_quadlet header offset value) e = cc e
some_part (write_block header offset payload) e = cc e
some_part (write_response header rcode) e = cc e
some_part (read_quadlet header offset) e = cc e
some_part (read_block header offset count) e = cc e
some_part (read_quadlet_response header rcode value) e = cc e
some_part (read_block_response header rcode payload) e = cc e
some_part (lock header offset extended payload) e = cc e
some_part (lock_response header rcode extended payload) e = cc e

part_is : (t : Terms) (from to : ℕ) (bytes : List ℕ) (canonical : IsFromTo t from to bytes) → part_of bytes ≡ part_in canonical.packet
part_is t from to bytes canonical =
    ap part_of canonical.spelled
    ∙ part_read (canon canonical.packet) canonical.packet (reading_spelled (canon canonical.packet) canonical.packet (canon_spells canonical.packet canonical.valid))

module _ (past : List Moment) (serial generation from to : ℕ) (bytes : List ℕ) (fair : IsFair (terms past)) where
  abbrev q : Sending
  q = record { generation = generation; from = from; to = to; bytes = bytes; injected = (terms past).injected serial }

  by_part : (part : Part) → part_of bytes ≡ part → IsSentFor None (terms past) q → IsOwn (terms past) generation from to bytes → IsRequest (terms past) serial bytes
  by_part (request l k) is answers sent = record { label = l; kind = k; part = is; own = fair.packets serial }
  by_part (response l k) is answers sent = absurd (both_ways ((terms past).injected serial) (answers l k is) (fair.packets serial))
  by_part no_packet is answers sent = absurd (some_part sent.canonical.packet (sym is ∙ part_is (terms past) from to bytes sent.canonical))

  pub is_request : AreSent (said (notes.Sent serial generation from to bytes) ∷ past) → AreAnswered (said (notes.Sent serial generation from to bytes) ∷ past) → (terms past).owes ≡ None → IsRequest (terms past) serial bytes
  is_request sent answered none =
      by_part (part_of bytes) refl (subst (λ owed. IsSentFor owed (terms past) q) none answered.0) (sent.0 (fair.packets serial))
