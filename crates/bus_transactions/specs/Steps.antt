-- What a call of a node is to the wire, whatever its transactions are for: after a packet is judged, a transaction timed out, or an action
-- was done, a request is answered or not, and then other nodes are asked, and transactions given up, in some order. The packets that the
-- node hands out are those of these steps. Steps stand with the latest of them first.
use Rattle.std.specs.Prelude.{◌≡◌, ℕ, true, List, [], ◌∷◌, ◌++◌, Option, Some, None, Result, Ok, Err}
use Rattle.async_packet.specs.Canon.{IsValid}
use Rattle.async_packet.specs.Labels.{LabelParts}
use Rattle.async_packet.specs.Packet.{Packet, header_in}
use Rattle.label_table.specs.declared.judgement.Asked.{Asked}
use Rattle.label_table.specs.declared.reply.Stale.{Stale}
use Rattle.label_table.specs.Bodies.{Body, Gives, header_to, request_with, response_to}
use Rattle.label_table.specs.Layer.{Layer, Finding, of_generation, of_grammar, of_label, of_response, of_again, of_request, answering_step, asking_step, disowning_step}
use Rattle.label_table.specs.History as wire
use Rattle.sbp_journal.specs.declared.cause.Cause.{Cause}
use Rattle.sbp_journal.specs.declared.cause.Cause.TheVariants as causes
use Rattle.sbp_journal.specs.declared.cause.Judged.{Judged}
use Rattle.sbp_journal.specs.declared.cause.Judged.TheVariants as judgements
use Rattle.sbp_journal.specs.declared.outbox.Outgoing.{Outgoing}
use Rattle.sbp_journal.specs.declared.side.Side.{Side}
use Rattle.sbp_journal.specs.declared.side.Side.TheVariants as sides
use Rattle.bus_transactions.specs.May.{is_plain, may_ignore}
use Rattle.bus_transactions.specs.Wire.{Reply, as_before, as_decided, is_reply}

-- ---- what a node tells
-- of its own only notes that the wire does not read
abbrev pub IsPlainSide : Side → Type 0
IsPlainSide (sides.Own note) = is_plain note ≡ true
IsPlainSide _ = Unit {0}

abbrev pub ArePlainSides : List Side → Type 0
ArePlainSides [] = Unit {0}
ArePlainSides (side ∷ later) = IsPlainSide side × ArePlainSides later

-- ---- packets
abbrev pub request_to : (peer : ℕ) → Asked → Outgoing
request_to peer asked = record { to = peer; label = Some asked.label; bytes = asked.bytes }

abbrev pub answer_to : Packet → List ℕ → Outgoing
answer_to p bytes = record { to = (header_in p).source; label = None; bytes = bytes }

-- a request that finds no label is not sent
abbrev pub with_asked : ℕ → Option Asked → List Outgoing → List Outgoing
with_asked peer None packets = packets
with_asked peer (Some asked) packets = packets ++ request_to peer asked ∷ []

-- a node that is known is asked, by a packet with its fields
pub record IsAsk (known : ℕ → Type 0) (node peer : ℕ) (body : Body) : Type 0 where
  pub there : known peer
  pub valid : IsValid (request_with (header_to node peer 0) body)

-- a transaction with a node that is known is given up, or there is none
pub data GivesUp {P : Type 0} (known : ℕ → Type 0) (layer : Layer P) (peer : ℕ) (label : LabelParts) : Type 0 where
  of_known : known peer → GivesUp known layer peer label
  of_none : disowning_step layer peer label ≡ layer → GivesUp known layer peer label

-- how a request is judged that is got, or ignored for a cause
abbrev pub judged_for : Option Cause → Judged
judged_for None = judgements.Got
judged_for (Some cause) = judgements.Ignored cause

module _ {P : Type 0} where
  abbrev pub layer_after : Layer P → List (wire.Call P) → Layer P
  layer_after layer [] = layer
  layer_after layer (step ∷ steps) = wire.done step (layer_after layer steps)

  -- the packets of asks, in their order
  abbrev pub requests_of : Layer P → List (wire.Call P) → List Outgoing
  requests_of layer [] = []
  requests_of layer (wire.asks peer body purpose ∷ steps) =
      with_asked peer (asking_step (layer_after layer steps) peer body purpose).0 (requests_of layer steps)
  requests_of layer (_ ∷ steps) = requests_of layer steps

  -- only asks, and transactions that are given up
  abbrev pub AreAsks : (ℕ → Type 0) → Layer P → List (wire.Call P) → Type 0
  AreAsks known layer [] = Unit {0}
  AreAsks known layer (wire.asks peer body purpose ∷ steps) = IsAsk known (layer_after layer steps).node peer body × AreAsks known layer steps
  AreAsks known layer (wire.disowns peer label ∷ steps) = GivesUp known (layer_after layer steps) peer label × AreAsks known layer steps
  AreAsks known layer (_ ∷ steps) = ⊥

  -- only transactions that are given up
  abbrev pub AreGivenUp : (ℕ → Type 0) → Layer P → List (wire.Call P) → Type 0
  AreGivenUp known layer [] = Unit {0}
  AreGivenUp known layer (wire.disowns peer label ∷ steps) = GivesUp known (layer_after layer steps) peer label × AreGivenUp known layer steps
  AreGivenUp known layer (_ ∷ steps) = ⊥

  -- from one layer to another by asks, with these packets
  pub record IsAsking (known : ℕ → Type 0) (before now : Layer P) (packets : List Outgoing) : Type 0 where
    pub steps : List (wire.Call P)
    pub may : AreAsks known before steps
    pub layer_is : layer_after before steps ≡ now
    pub packets_are : requests_of before steps ≡ packets

  -- the response to a request, and the layer after it
  abbrev pub answered_by : Layer P → Packet → (bytes : List ℕ) → (rcode : ℕ) → (given : List ℕ) → List ℕ × Layer P
  answered_by layer p bytes rcode given = answering_step layer p bytes rcode given

  -- A request is answered as it may be, after transactions were given up, and then nodes are asked.
  pub record IsAnswering (known : ℕ → Type 0) (reply : Reply) (p : Packet) (bytes : List ℕ) (before now : Layer P) (packets : List Outgoing) : Type 0 where
    pub left : List (wire.Call P)
    pub rcode : ℕ
    pub given : List ℕ
    pub more : List Outgoing
    pub may_leave : AreGivenUp known before left
    pub stated : is_reply reply rcode ≡ true
    pub gives : Gives p rcode given
    pub valid : IsValid (response_to (layer_after before left).node p rcode given)
    pub asks : IsAsking known (answered_by (layer_after before left) p bytes rcode given).1 now more
    pub packets_are : answer_to p (answered_by (layer_after before left) p bytes rcode given).0 ∷ more ≡ packets

  -- ---- calls, by what they find
  pub record IsIgnoring (cause : Cause) (judged : Judged) (before now : Layer P) (packets : List Outgoing) : Type 0 where
    pub judged_is : judged ≡ judgements.Ignored cause
    pub layer_is : now ≡ before
    pub packets_are : packets ≡ []

  pub record IsClosing (known : ℕ → Type 0) (judged : Judged) (before now : Layer P) (packets : List Outgoing) : Type 0 where
    pub judged_is : judged ≡ judgements.Got
    pub asks : IsAsking known before now packets

  pub record IsRepeating (known : ℕ → Type 0) (rcode : ℕ) (judged : Judged) (p : Packet) (bytes : List ℕ) (before now : Layer P) (packets : List Outgoing) : Type 0 where
    pub judged_is : judged ≡ judgements.Ignored causes.Again
    pub answers : IsAnswering known (as_before rcode) p bytes before now packets

  pub record IsServing (known : ℕ → Type 0) (judged : Judged) (p : Packet) (bytes : List ℕ) (before now : Layer P) (packets : List Outgoing) : Type 0 where
    pub cause : Option Cause
    pub may : may_ignore cause ≡ true
    pub judged_is : judged ≡ judged_for cause
    pub answers : IsAnswering known (as_decided cause) p bytes before now packets

  -- What a node does with a packet, from its layer after the judging on, by what the packet was found to be.
  abbrev pub IsDelivery : (ℕ → Type 0) → Finding P → Judged → (bytes : List ℕ) → (before now : Layer P) → List Outgoing → Type 0
  IsDelivery known of_generation judged bytes before now packets = IsIgnoring causes.Generation judged before now packets
  IsDelivery known of_grammar judged bytes before now packets = IsIgnoring causes.Grammar judged before now packets
  IsDelivery known of_label judged bytes before now packets = IsIgnoring causes.Label judged before now packets
  IsDelivery known (of_response p label purpose) judged bytes before now packets = IsClosing known judged before now packets
  IsDelivery known (of_again p rcode) judged bytes before now packets = IsRepeating known rcode judged p bytes before now packets
  IsDelivery known (of_request p) judged bytes before now packets = IsServing known judged p bytes before now packets

  -- And at a time-out, from its layer after that on.
  abbrev pub IsExpiry : (ℕ → Type 0) → Result (Option P) Stale → (before now : Layer P) → List Outgoing → Type 0
  IsExpiry known (Ok purpose) before now packets = IsAsking known before now packets
  IsExpiry known (Err stale) before now packets = (now ≡ before) × (packets ≡ [])
