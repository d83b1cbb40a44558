-- What a call of an initiator hands out to send: in a delivery one response at most, or one request, for which a quadlet of the
-- target's ROM was got.
use Rattle.std.specs.Prelude.{◌≡◌, ◌≤◌, ℕ, ◌+◌, ◌-◌, is_some, Bool, true, false, if◌then◌else◌, List, [], ◌∷◌, ◌++◌, length, Ok}
use Rattle.async_packet.specs.Labels.{LabelParts}
use Rattle.async_packet.specs.Packet.{Packet}
use Rattle.async_packet.specs.Canon.{canon}
use Rattle.async_packet.specs.Reading.{reading}
use Rattle.label_table.specs.declared.judgement.Asked.{Asked}
use Rattle.label_table.specs.Bodies.{response_to}
use Rattle.label_table.specs.Requests.{reply_kind}
use Rattle.label_table.specs.Layer.{Finding, of_response, of_again, of_request, judging_step}
use Rattle.sbp_journal.specs.declared.outbox.Outgoing.{Outgoing}
use Rattle.sbp_journal.specs.Outgoings.{OutboxState}
use Rattle.sbp_initiator.specs.declared.purpose.Purpose.{Purpose}
use Rattle.sbp_initiator.specs.declared.state.InitiatorState.{InitiatorState}
use Rattle.sbp_initiator.specs.Effects.{Turn}
use Rattle.sbp_initiator.specs.Receiving.{expire_step, receive_step}
use Rattle.sbp_initiator.specs.Seeing.{see_step}
use Rattle.sbp_initiator.specs.Histories.Laws.{Call, after}
use Rattle.sbp_initiator.specs.Histories.Moves.{outgoing, response}

-- ---- what is owed

-- a packet that has a label is a request
abbrev pub one_if : Bool → ℕ
one_if b = if b then 1 else 0

-- the requests among packets
abbrev pub requests : List Outgoing → ℕ
requests [] = 0
requests (packet ∷ later) = one_if (is_some packet.label) + requests later

-- The requests that are handed out, and the quadlets of the target's ROM that were not got, of 256 at most: a request for each may
-- still be sent.
abbrev pub owes : Turn → ℕ
owes turn = requests turn.0.packets + (256 - length turn.1.quads)

-- ---- what a call leaves

-- neither packets nor quadlets come
pub record IsQuiet (before after : Turn) : Type 0 where
  pub packets : after.0.packets ≡ before.0.packets
  pub quads : after.1.quads ≡ before.1.quads

-- a request is answered by a response of this node, with an rcode and the bytes that a read gives, and no quadlet comes
pub record IsAnswered (node : ℕ) (p : Packet) (before after : Turn) : Type 0 where
  pub rcode : ℕ
  pub given : List ℕ
  pub packets : after.0.packets ≡ before.0.packets ++ response p (canon (response_to node p rcode given)) ∷ []
  pub quads : after.1.quads ≡ before.1.quads

-- A transaction ends: with no packet, whether a quadlet comes or not; or with one request to the target, for which a quadlet came.
-- There are 256 quadlets at most then.
pub data Ends (before after : Turn) : Type 0 where
  asks_none : after.0.packets ≡ before.0.packets → length before.1.quads ≤ length after.1.quads → length after.1.quads ≤ 256 → Ends before after
  asks_one : (asked : Asked) → after.0.packets ≡ before.0.packets ++ outgoing before.1.target asked ∷ [] → length after.1.quads ≡ length before.1.quads + 1 → length after.1.quads ≤ 256 → Ends before after

-- the bytes spell this packet, which is a response or a request
pub record IsRead (bytes : List ℕ) (p : Packet) (is_response : Bool) : Type 0 where
  pub read : reading bytes ≡ Ok p
  pub kind : is_some (reply_kind p) ≡ is_response

-- What a delivery hands out, by what it is found to be: a request is answered, also one that comes again; a response ends its
-- transaction; and nothing comes of all else.
abbrev pub Hands : ℕ → List ℕ → Finding Purpose → Turn → Turn → Type 0
Hands node bytes (of_response p label purpose) before after = IsRead bytes p true × Ends before after
Hands node bytes (of_again p rcode) before after = IsRead bytes p false × IsAnswered node p before after
Hands node bytes (of_request p) before after = IsRead bytes p false × IsAnswered node p before after
Hands node bytes _ before after = IsQuiet before after

-- ---- the laws

-- of a delivery
pub record Delivers (generation : ℕ) (bytes : List ℕ) (o : OutboxState) (s : InitiatorState) : Type 0 where
  pub hands : Hands s.layer.node bytes (judging_step s.layer generation bytes).0 (o, s) (receive_step generation bytes o s).1
  pub few : length (receive_step generation bytes o s).1.1.quads ≤ 256
  pub owes_less : owes (receive_step generation bytes o s).1 ≤ owes (o, s)

-- A delivery hands out one response to a request, and none else. It sends a request only for a quadlet that came: so the requests, with
-- the quadlets that did not come, are no more than before.
abbrev pub DeliveryLaw : Type 0
DeliveryLaw = (generation : ℕ) (bytes : List ℕ) (o : OutboxState) (s : InitiatorState) → length s.quads ≤ 256 → Delivers generation bytes o s

-- A time-out and a sight of a reset hand out nothing; and over every list of calls 256 quadlets at most are got.
pub record QuadletLaw : Type 0 where
  pub expires : (label : LabelParts) (o : OutboxState) (s : InitiatorState) → IsQuiet (o, s) (expire_step label o s).1
  pub sees : (generation id target : ℕ) (o : OutboxState) (s : InitiatorState) → IsQuiet (o, s) (see_step generation id target o s)
  pub few : (number : ℕ) (ready : Bool) (calls : List Call) → length (after number ready calls).1.quads ≤ 256
