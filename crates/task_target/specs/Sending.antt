-- What the target sends: requests, each for a place and through its peer's labels, and responses
-- (IEEE 1394-1995, transaction layer).
use Rattle.std.specs.Prelude.{ℕ, ◌==◌, ◌&&◌, Bool, false, List, [], ◌∷◌, ◌++◌, Option, Some, None}
use Rattle.async_packet.specs.Labels.{LabelParts}
use Rattle.async_packet.specs.Packet.{Packet, header_in}
use Rattle.label_table.specs.declared.judgement.Asked.{Asked}
use Rattle.label_table.specs.Bodies.{Body}
use Rattle.label_table.specs.Layer.{Layer, asking_step, answering_step}
use Rattle.sbp_journal.specs.declared.outbox.Outgoing.{Outgoing}
use Rattle.sbp_journal.specs.declared.side.Side.{Side}
use Rattle.sbp_journal.specs.Outgoings.{OutboxState}
use Rattle.task_target.specs.declared.purpose.TaskPurpose.{TaskPurpose}
use Rattle.task_target.specs.declared.purpose.Sent.{Sent}

abbrev pub purpose_of : ℕ → TaskPurpose
purpose_of place = record { place = place }

abbrev pub sent_to : ℕ → LabelParts → Sent
sent_to peer label = record { peer = peer; label = label }

-- whether a transaction, where there is one, is the one with this peer under this label
abbrev pub is_that : Option Sent → ℕ → LabelParts → Bool
is_that None peer label = false
is_that (Some sent) peer label =
    sent.peer == peer && (sent.label.number == label.number && (sent.label.generation == label.generation && sent.label.serial == label.serial))

-- the outbox with one packet or one side more
abbrev pub with_packet : OutboxState → Outgoing → OutboxState
with_packet outbox packet = record outbox { packets = outbox.packets ++ packet ∷ [] }

abbrev pub with_side : OutboxState → Side → OutboxState
with_side outbox side = record outbox { sides = outbox.sides ++ side ∷ [] }

-- A request leaves, where it found a label.
abbrev pub sent_by : Option Asked × Layer TaskPurpose → OutboxState → ℕ → Option LabelParts × (Layer TaskPurpose × OutboxState)
sent_by (Some asked, layer) outbox peer =
    (Some asked.label, (layer, with_packet outbox (record { to = peer; label = Some asked.label; bytes = asked.bytes })))
sent_by (None, layer) outbox peer = (None, (layer, outbox))

unfoldable pub request_step : Layer TaskPurpose → OutboxState → ℕ → Body → ℕ → Option LabelParts × (Layer TaskPurpose × OutboxState)
request_step layer outbox peer body place = sent_by (asking_step layer peer body (purpose_of place)) outbox peer

-- A request is answered: its response leaves to its source.
abbrev pub answered_by : List ℕ × Layer TaskPurpose → OutboxState → ℕ → Layer TaskPurpose × OutboxState
answered_by (bytes, layer) outbox source = (layer, with_packet outbox (record { to = source; label = None; bytes = bytes }))

unfoldable pub answer_step : Layer TaskPurpose → OutboxState → Packet → List ℕ → ℕ → List ℕ → Layer TaskPurpose × OutboxState
answer_step layer outbox request bytes rcode given =
    answered_by (answering_step layer request bytes rcode given) outbox (header_in request).source
