-- What the history of a run says of packets, generations, node IDs and transactions, whatever the nodes do: one fold over its moments,
-- to a record of functions. Packets are named by their serials, counted from 1; nodes are numbered as in notes.
use Rattle.std.specs.Prelude.{ℕ, ◌+◌, Bool, true, false, if◌then◌else◌, List, [], ◌∷◌, slice_index_or, Option, Some, None}
use Rattle.sbp_base.specs.Update.{upd}
use Rattle.async_packet.specs.Fields.{rcode_of}
use Rattle.sbp_journal.specs.Run.{Moment, asked, said}
use Rattle.sbp_journal.specs.Transactions.{Kind, writing, is_same_kind, Part, request, response, no_packet, part_of, is_to, Transaction, at, Sending, between, asked_by, begun_by, belongs}
use Rattle.sbp_journal.specs.declared.event.Event.{Event}
use Rattle.sbp_journal.specs.declared.event.Event.TheVariants as events
use Rattle.sbp_journal.specs.declared.cause.Cause.{Cause}
use Rattle.sbp_journal.specs.declared.cause.Cause.TheVariants as causes
use Rattle.sbp_journal.specs.declared.note.Note.{Note}
use Rattle.sbp_journal.specs.declared.note.Note.TheVariants as notes

-- the state of a packet on the bus
pub data Flight : Type 0 where
  unsent : Flight
  in_flight : Flight
  delivered : Flight
  lost : Flight
  withdrawn : Flight

-- what a label is in: no transaction; one under way, that waits for a response of a kind to the request with this serial; or one that
-- timed out
pub data Held : Type 0 where
  free : Held
  waits : Kind → (serial : ℕ) → Held
  rests : Held

-- a request that a node has judged and not answered yet, and the cause if it was ignored
pub record Owed : Type 0 where
  pub serial : ℕ
  pub cause : Option Cause

pub record Terms : Type 0 where
  -- the generation of the bus, the ID of a node by generation, and the generation that a node is in
  pub bus : ℕ
  pub ids : ℕ → ℕ → ℕ
  pub generation : ℕ → ℕ
  -- whether the present line is a `repeat`
  pub repeats : Bool
  -- how many packets were sent, and each packet and its state
  pub count : ℕ
  pub sent : ℕ → Option Sending
  pub flight : ℕ → Flight
  -- whether a packet was injected, and whether a node has sent such a packet
  pub injected : ℕ → Bool
  pub injects : ℕ → Bool
  -- a transaction's label, the serial of its request, 0 where none was sent, and its requester's last request
  pub held : Transaction → Held
  pub current : Transaction → ℕ
  pub last : Transaction → Option (List ℕ)
  -- its responder's last request, and the rcode that was given to it
  pub seen : Transaction → Option (List ℕ)
  pub given : Transaction → ℕ
  -- the request that is to be answered next, and the request that a packet answers
  pub owes : Option Owed
  pub answers : ℕ → Option ℕ
  -- how often a request was judged by a row after the first two; how often a packet was delivered and ignored neither for its
  -- generation nor as a repeat; how often it was got, or ignored with the cause slot
  pub judged : ℕ → ℕ
  pub news : ℕ → ℕ
  pub served : ℕ → ℕ
  -- the rcode of the response that closed the transaction of a request
  pub closed : ℕ → Option ℕ

-- the node ID of a physical ID on the local bus, 3FFh (IEEE 1394-1995, node addresses)
abbrev pub local_id : ℕ → ℕ
local_id physical = 65472 + physical

-- the IDs by the physical IDs of the nodes that there are; no physical ID is above 62
abbrev pub ids_of : List ℕ → ℕ → ℕ
ids_of physical node = local_id (slice_index_or physical node (63 + node))

abbrev pub beginning : Terms
beginning = record {
  bus = 0;
  ids = λ generation node. local_id node;
  generation = λ node. 0;
  repeats = false;
  count = 0;
  sent = λ s. None;
  flight = λ s. unsent;
  injected = λ s. false;
  injects = λ node. false;
  held = λ t. free;
  current = λ t. 0;
  last = λ t. None;
  seen = λ t. None;
  given = λ t. 0;
  owes = None;
  answers = λ s. None;
  judged = λ s. 0;
  news = λ s. 0;
  served = λ s. 0;
  closed = λ s. None;
}

-- The bus rule: the request of a transaction withdraws each earlier packet of it, in flight or delivered. A lost one stays lost.
abbrev pub withdraw : Flight → Flight
withdraw in_flight = withdrawn
withdraw delivered = withdrawn
withdraw state = state

abbrev pub belongs_to : Transaction → Option Sending → Bool
belongs_to t None = false
belongs_to t (Some packet) = belongs packet t

abbrev pub by_bus_rule : Option Transaction → (ℕ → Option Sending) → (ℕ → Flight) → ℕ → Flight
by_bus_rule None sent flight = flight
by_bus_rule (Some t) sent flight = λ s. if belongs_to t (sent s) then withdraw (flight s) else flight s

abbrev pub kind_in : Part → Kind
kind_in (request label kind) = kind
kind_in (response label kind) = kind
kind_in no_packet = writing

-- the transaction that a request which was sent is of
abbrev pub asked_in : Option Sending → Option Transaction
asked_in None = None
asked_in (Some packet) = asked_by packet

-- ---- a packet is sent
abbrev pub puts : Option Transaction → (s : ℕ) → Sending → Terms → Terms
puts begun s packet t = record t {
  count = t.count + 1;
  sent = upd t.sent s (Some packet);
  flight = upd (by_bus_rule begun t.sent t.flight) s in_flight;
  injects = if packet.injected then upd t.injects packet.from true else t.injects;
}

-- it begins a transaction
abbrev pub begins : Option Transaction → (s : ℕ) → Sending → Terms → Terms
begins None s packet t = t
begins (Some u) s packet t = record t {
  held = at t.held u (waits (kind_in (part_of packet.bytes)) s);
  current = at t.current u s;
  last = at t.last u (Some packet.bytes);
}

-- or is the answer that is owed
abbrev pub gives : Option Transaction → (rcode : ℕ) → Terms → Terms
gives None rcode t = t
gives (Some u) rcode t = record t { given = at t.given u rcode }

abbrev pub pays : Option Owed → (ℕ → Option Sending) → (s : ℕ) → Sending → Terms → Terms
pays None sent s packet t = t
pays (Some owed) sent s packet t =
    record (gives (asked_in (sent owed.serial)) (rcode_of packet.bytes) t) {
      owes = None;
      answers = upd t.answers s (Some owed.serial);
    }

abbrev pub sends : (s : ℕ) → Sending → Terms → Terms
sends s packet t =
    pays t.owes t.sent s packet (begins (begun_by packet) s packet (puts (begun_by packet) s packet t))

-- ---- a packet is delivered: a repeat leaves its state as it is
abbrev pub arrives : ℕ → Terms → Terms
arrives s t = record t { flight = if t.repeats then t.flight else upd t.flight s delivered }

abbrev pub is_news : ℕ → Terms → Terms
is_news s t = record t { news = upd t.news s (t.news s + 1) }

abbrev pub is_served : ℕ → Terms → Terms
is_served s t = record t { served = upd t.served s (t.served s + 1) }

-- a request is judged by a row after the first two: it is got, or ignored for a cause
abbrev pub judges : Option Transaction → Option Cause → (s : ℕ) → Sending → Terms → Terms
judges None cause s packet t = t
judges (Some u) cause s packet t = record t {
  seen = at t.seen u (Some packet.bytes);
  judged = upd t.judged s (t.judged s + 1);
  owes = Some (record { serial = s; cause = cause });
}

-- a response with an rcode closes the transaction that waits for its kind
abbrev pub closes_if : Bool → (s : ℕ) → Transaction → (rcode : ℕ) → Terms → Terms
closes_if true s u rcode t = record t { held = at t.held u free; closed = upd t.closed s (Some rcode) }
closes_if false s u rcode t = t

abbrev pub closes : Held → Transaction → Kind → (rcode : ℕ) → Terms → Terms
closes (waits kind s) u other rcode t = closes_if (is_same_kind kind other) s u rcode t
closes free u other rcode t = t
closes rests u other rcode t = t

abbrev pub gets_as : Part → (s : ℕ) → Sending → Terms → Terms
gets_as (request label kind) s packet t = judges (asked_by packet) None s packet t
gets_as (response label kind) s packet t =
    let u = between packet packet.to packet.from label in closes (t.held u) u kind (rcode_of packet.bytes) t
gets_as no_packet s packet t = t

abbrev pub gets : Option Sending → ℕ → Terms → Terms
gets None s t = t
gets (Some packet) s t = gets_as (part_of packet.bytes) s packet (is_served s (is_news s (arrives s t)))

-- Two rows have the word grammar: by the second row the bytes are no packet to the receiver, and nothing is judged; by a later one a
-- request is.
abbrev pub judges_if : Bool → Option Transaction → (s : ℕ) → Sending → Terms → Terms
judges_if true began s packet t = judges began (Some causes.Grammar) s packet t
judges_if false began s packet t = t

abbrev pub ignores : Cause → (s : ℕ) → Sending → Terms → Terms
ignores causes.Generation s packet t = t
ignores causes.Grammar s packet t =
    judges_if (is_to packet.bytes (t.ids packet.generation packet.to)) (asked_by packet) s packet (is_news s t)
ignores causes.Label s packet t = is_news s t
ignores causes.Again s packet t = judges (asked_by packet) (Some causes.Again) s packet t
ignores causes.Source s packet t = judges (asked_by packet) (Some causes.Source) s packet (is_news s t)
ignores causes.Login s packet t = judges (asked_by packet) (Some causes.Login) s packet (is_news s t)
ignores causes.Slot s packet t = judges (asked_by packet) (Some causes.Slot) s packet (is_served s (is_news s t))

abbrev pub ignores_that : Option Sending → Cause → ℕ → Terms → Terms
ignores_that None cause s t = t
ignores_that (Some packet) cause s t = ignores cause s packet (arrives s t)

-- ---- a transaction times out
abbrev pub times_out : Option Transaction → Terms → Terms
times_out None t = t
times_out (Some u) t = record t { held = at t.held u rests }

abbrev pub begun_in : Option Sending → Option Transaction
begun_in None = None
begun_in (Some packet) = begun_by packet

-- what a note says; the others say nothing of the wire
abbrev pub noted : Note → Terms → Terms
noted (notes.Sent s generation from to bytes) t =
    sends s (record { generation = generation; from = from; to = to; bytes = bytes; injected = t.injected s }) t
noted (notes.Injected s) t = record t { injected = upd t.injected s true }
noted (notes.Got s) t = gets (t.sent s) s t
noted (notes.Ignored s cause) t = ignores_that (t.sent s) cause s t
noted (notes.Lost s) t = record t { flight = upd t.flight s lost }
noted (notes.TimedOut s) t = times_out (begun_in (t.sent s)) t
noted (notes.Reset generation) t = record t { bus = generation }
noted (notes.Seen node generation) t = record t { generation = upd t.generation node generation }
noted _ t = t

-- what a line asks for: a reset tells the IDs of the generation that it begins
abbrev pub opened : Event → Terms → Terms
opened (events.Reset physical) t = record t { ids = upd t.ids (t.bus + 1) (ids_of physical); repeats = false }
opened (events.Repeat s) t = record t { repeats = true }
opened _ t = record t { repeats = false }

abbrev pub passed : Moment → Terms → Terms
passed (asked line event) t = opened event t
passed (said note) t = noted note t

abbrev pub terms : List Moment → Terms
terms [] = beginning
terms (moment ∷ past) = passed moment (terms past)
