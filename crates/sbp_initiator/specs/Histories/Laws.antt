-- The laws of an initiator, over every list of its calls.
use Rattle.std.specs.Prelude.{◌≡◌, ◌≤◌, ℕ, ◌+◌, Bool, true, false, List, [], ◌∷◌, ◌++◌, Option, Some, None}
use Rattle.async_packet.specs.Labels.{LabelParts}
use Rattle.label_table.specs.declared.judgement.Asked.{Asked}
use Rattle.label_table.specs.Layer.{Layer, answering_step, asking_step}
use Rattle.label_table.specs.History as wire
use Rattle.sbp_session.specs.declared.seat.Seat.{Seat}
use Rattle.sbp_session.specs.declared.seat.Seat.TheVariants as seats
use Rattle.sbp_session.specs.declared.seat.Origin.{Origin}
use Rattle.sbp_session.specs.Moves.{Event, session_after}
use Rattle.sbp_journal.specs.declared.event.Action.{Action}
use Rattle.sbp_journal.specs.declared.outbox.Outgoing.{Outgoing}
use Rattle.sbp_journal.specs.Outgoings.{empty_outbox}
use Rattle.sbp_initiator.specs.declared.purpose.Purpose.{Purpose}
use Rattle.sbp_initiator.specs.Effects.{Turn}
use Rattle.sbp_initiator.specs.Acting.{IsAction, act_step}
use Rattle.sbp_initiator.specs.Receiving.{expire_step, receive_step}
use Rattle.sbp_initiator.specs.Seeing.{see_step}
use Rattle.sbp_initiator.specs.Initiators.{first_seat, new_state}
use Rattle.sbp_initiator.specs.Histories.Moves.{outgoing, response}

-- the calls that may change an initiator
pub data Call : Type 0 where
  acts : Action → Call
  receives : (generation : ℕ) → (bytes : List ℕ) → Call
  lets_expire : LabelParts → Call
  sees : (generation id target : ℕ) → Call

-- An action has the fields of a line.
abbrev pub IsCall : Call → Type 0
IsCall (acts action) = IsAction action
IsCall _ = Unit {0}

abbrev pub AreCalls : List Call → Type 0
AreCalls [] = Unit {0}
AreCalls (call ∷ calls) = IsCall call × AreCalls calls

-- one call
abbrev pub done : Call → Turn → Turn
done (acts action) turn = (act_step action turn.0 turn.1).1
done (receives generation bytes) turn = (receive_step generation bytes turn.0 turn.1).1
done (lets_expire label) turn = (expire_step label turn.0 turn.1).1
done (sees generation id target) turn = see_step generation id target turn.0 turn.1

-- what an initiator handed out and is after a list of calls, the latest of them first
abbrev pub after : ℕ → Bool → List Call → Turn
after number ready [] = (empty_outbox, new_state number ready)
after number ready (call ∷ calls) = done call (after number ready calls)

-- ---- the transaction layer

abbrev pub with_asked : ℕ → Option Asked → List Outgoing → List Outgoing
with_asked peer None packets = packets
with_asked peer (Some asked) packets = packets ++ outgoing peer asked ∷ []

-- the packets of calls of a transaction layer, in their order
abbrev pub packets_of : ℕ → List (wire.Call Purpose) → List Outgoing
packets_of node [] = []
packets_of node (wire.asks peer body purpose ∷ calls) =
    with_asked peer (asking_step (wire.after node calls) peer body purpose).0 (packets_of node calls)
packets_of node (wire.answers p bytes rcode given ∷ calls) =
    packets_of node calls ++ response p (answering_step (wire.after node calls) p bytes rcode given).0 ∷ []
packets_of node (wire.judges generation bytes ∷ calls) = packets_of node calls
packets_of node (wire.lets_expire peer label ∷ calls) = packets_of node calls
packets_of node (wire.disowns peer label ∷ calls) = packets_of node calls
packets_of node (wire.sees generation id ∷ calls) = packets_of node calls

-- The layer is what some calls of it make of a new one, and these packets are theirs.
pub record IsWireRun (node : ℕ) (layer : Layer Purpose) (packets : List Outgoing) : Type 0 where
  pub calls : List (wire.Call Purpose)
  pub layer_is : wire.after node calls ≡ layer
  pub packets_are : packets_of node calls ≡ packets

-- After every list of calls the transaction layer is that of a list of its own calls, and the packets that were handed out are
-- theirs, in order: so what the laws of the transaction layer say of labels, of repeated writes and of transactions holds.
abbrev pub WireLaw : Type 0
WireLaw =
    (number : ℕ) (ready : Bool) (calls : List Call) → AreCalls calls → IsWireRun (0xffc1 + number) (after number ready calls).1.layer (after number ready calls).0.packets

-- ---- the session

-- The session is what some events make of another.
pub record IsSession (first now : Seat) : Type 0 where
  pub events : List Event
  pub seat : session_after events first ≡ now

abbrev pub is_sight : Call → Bool
is_sight (sees generation id target) = true
is_sight _ = false

-- The session goes by the moves of the table of sessions; and one that is Stuck stays so until a reset is seen.
pub record SessionLaw : Type 0 where
  pub moves : (number : ℕ) (ready : Bool) (calls : List Call) → AreCalls calls → IsSession (first_seat ready number) (after number ready calls).1.seat
  pub stuck : (call : Call) (turn : Turn) (origin : Origin) → IsCall call → is_sight call ≡ false → turn.1.seat ≡ seats.Stuck origin → (done call turn).1.seat ≡ seats.Stuck origin

-- ---- the counts

-- No count falls: no login number, no place and no running number is used again.
pub record CountLaw : Type 0 where
  pub managed : (call : Call) (turn : Turn) → IsCall call → turn.1.counts.managed ≤ (done call turn).1.counts.managed
  pub logins : (call : Call) (turn : Turn) → IsCall call → turn.1.counts.logins ≤ (done call turn).1.counts.logins
  pub running : (call : Call) (turn : Turn) → IsCall call → turn.1.counts.running ≤ (done call turn).1.counts.running
