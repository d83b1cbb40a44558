-- The sent law, of packets: each packet that was not injected is the canonical spelling of a packet with retry code 1 and priority 0, from
-- its sender's ID to its receiver's, in its sender's generation. A request has the lowest label that is free and, for a write, whose last
-- request differs from it.
use Rattle.bus_transactions.specs.May.{MayAsk}
use Rattle.label_table.specs.Layer.{asking_step}
use Rattle.std.specs.Prelude.{◌≡◌, ◌<◌, ℕ, ◌&&◌, ◌||◌, not, Bool, true, false, List, [], ◌∷◌, None}
use Rattle.async_packet.specs.Canon.{IsValid, canon}
use Rattle.async_packet.specs.Packet.{Packet, header_in}
use Rattle.label_table.specs.Bodies.{header_to, Body, request_with}
use Rattle.label_table.specs.Requests.{with_label, is_write, is_last}
use Rattle.sbp_journal.specs.Run.{Moment, said}
use Rattle.sbp_journal.specs.Transactions.{Kind, request, part_of, Transaction}
use Rattle.sbp_journal.specs.Wire.{Terms, terms, Held, free, waits, rests}
use Rattle.sbp_journal.specs.declared.note.Note.TheVariants as notes
use Rattle.bus_transactions.specs.Wire.{Wire, transaction, id_for}

-- what a node sends to another
pub record IsFromTo (t : Terms) (from to : ℕ) (bytes : List ℕ) : Type 0 where
  pub packet : Packet
  pub valid : IsValid packet
  pub spelled : bytes ≡ canon packet
  pub header : header_in packet ≡ header_to (t.ids (t.generation from) from) (t.ids (t.generation from) to) (header_in packet).label

abbrev pub is_free : Held → Bool
is_free free = true
is_free (waits kind serial) = false
is_free rests = false

-- a label may be taken by these bytes, in which it is written
abbrev pub serves : Terms → Transaction → List ℕ → Bool
serves t u bytes = is_free (t.held u) && (not (is_write bytes) || not (is_last (t.last u) bytes))

pub record HasLowest (t : Terms) (from to label : ℕ) (bytes : List ℕ) : Type 0 where
  pub takes : serves t (transaction (t.generation from) from to label) bytes ≡ true
  pub lower : (other : ℕ) → other < label → serves t (transaction (t.generation from) from to other) (with_label other bytes) ≡ false

pub record IsOwn (t : Terms) (generation from to : ℕ) (bytes : List ℕ) : Type 0 where
  pub now : generation ≡ t.generation from
  pub canonical : IsFromTo t from to bytes
  pub lowest : (label : ℕ) (kind : Kind) → part_of bytes ≡ request label kind → HasLowest t from to label bytes

abbrev pub AreSent : List Moment → Type 0
AreSent [] = Unit {0}
AreSent (said (notes.Sent s generation from to bytes) ∷ past) = ((terms past).injected s ≡ false → IsOwn (terms past) generation from to bytes) × AreSent past
AreSent (_ ∷ past) = AreSent past

abbrev pub SentLaw : Wire → Type 0
SentLaw w = AreSent w.past

-- A request for which there is no such label is not sent: where a node that asks finds no label, each of the 64 is under way or rests, or,
-- for a write, has an equal last request. There are tables for all five nodes.
abbrev pub bare_request : Terms → (from to : ℕ) → Body → List ℕ
bare_request t from to body = canon (request_with (header_to (t.ids (t.generation from) from) (t.ids (t.generation from) to) 0) body)

abbrev pub LabelsLaw : Wire → Type 0
LabelsLaw w = (node peer label : ℕ) (body : Body) → MayAsk w node peer body → (asking_step (w.layer node) (id_for w node peer) body tt).0 ≡ None → label < 64 → serves (terms w.past) (transaction ((terms w.past).generation node) node peer label) (with_label label (bare_request (terms w.past) node peer body)) ≡ false
