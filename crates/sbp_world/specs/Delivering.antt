-- The delivery of a packet to the node that it was sent to.
use Rattle.std.specs.Prelude.{◌≡◌, ℕ, ◌-◌, ◌==◌, nat_lt, ◌||◌, not, Bool, true, false, if◌then◌else◌, List, length, slice_set, slice_index, slice_index_or, Option, Some, None}
use Rattle.async_packet.specs.Labels.{LabelParts}
use Rattle.async_packet.specs.Packet.{header_in}
use Rattle.command_agent.specs.declared.step.Which.{Which}
use Rattle.command_agent.specs.Runs.{count_after}
use Rattle.label_table.specs.Layer.{Finding, of_response, judging_step}
use Rattle.login_table.specs.declared.login.Login.{Login}
use Rattle.orb_layout.specs.Replies.{Answer}
use Rattle.packet_store.specs.declared.sent.Sent.{Sent}
use Rattle.packet_store.specs.Kept.{found_sent, is_flying}
use Rattle.packet_store.specs.Stored.{deliver_step}
use Rattle.rbc_disk.specs.Held.{Held, held}
use Rattle.rbc_disk.specs.Runs.{Told}
use Rattle.sbp_initiator.specs.declared.state.InitiatorState.{InitiatorState}
use Rattle.sbp_initiator.specs.Initiators.{new_state}
use Rattle.sbp_initiator.specs.Receiving.{receive_step}
use Rattle.sbp_journal.specs.declared.cause.Judged.{Judged}
use Rattle.sbp_journal.specs.Outgoings.{OutboxState, empty_outbox}
use Rattle.sbp_target.specs.declared.purpose.Purpose.{Purpose}
use Rattle.sbp_target.specs.declared.purpose.Purpose.TheVariants as purposes
use Rattle.sbp_target.specs.Desks.{which_in}
use Rattle.sbp_target.specs.Nodes.{NodeState, desk_at}
use Rattle.sbp_target.specs.Nodes as target
use Rattle.sbp_target.specs.Receiving.{TellsIn, answer_in, received, with_layer}
use Rattle.sbp_target.specs.Replies.{Stage, Whole, agent_step, served_login, stage, whole}
use Rattle.sbp_bus.specs.Packets.{judged_note}
use Rattle.sbp_world.specs.declared.parts.delivering.Arrival.{Arrival}
use Rattle.sbp_world.specs.Handing.{handed_out}
use Rattle.sbp_world.specs.Worlds.{WorldState, Scene, in_world, with_note, with_target}

-- ---- the counts of faults after a delivery to the target: the agent's unit may have run a command

abbrev pub faults_by : Option Told → ℕ → Answer → Option Login → Option Which → Stage → List ℕ → List ℕ
faults_by told place answer (Some login) (Some which) s faults =
    slice_set faults login.unit (count_after (agent_step told place login.unit which answer s).0.ran (slice_index faults login.unit))
faults_by told place answer None which s faults = faults
faults_by told place answer (Some login) None s faults = faults

abbrev pub faults_at : Option Told → Option Purpose → ℕ → LabelParts → Answer → Whole → List ℕ → List ℕ
faults_at told (Some (purposes.Agent place)) peer label answer w faults =
    faults_by told place answer (served_login w.node place) (which_in (desk_at w.node place) peer label) (stage w.node w.disks) faults
faults_at told (Some purposes.Management) peer label answer w faults = faults
faults_at told (Some purposes.Unsolicited) peer label answer w faults = faults
faults_at told None peer label answer w faults = faults

unfoldable pub faults_in : Option Told → Finding Purpose → Whole → List ℕ → List ℕ
faults_in told (of_response p label purpose) w faults =
    faults_at told purpose (header_in p).source label (answer_in p) w faults
faults_in told _ w faults = faults

-- ---- a packet at the target

-- the target with nothing handed out yet, and what the media hold
abbrev pub whole_of : NodeState → Held → Whole
whole_of node media = whole (target.scene node empty_outbox) media.disks

abbrev pub judged_target : Sent → NodeState → Held → Finding Purpose × Whole
judged_target sent node media =
    let found = judging_step node.layer sent.generation sent.bytes in
    (found.0, with_layer found.1 (whole_of node media))

abbrev pub faults_after : Option Told → Sent → NodeState → Held → List ℕ
faults_after told sent node media =
    faults_in told (judged_target sent node media).0 (judged_target sent node media).1 media.faults

abbrev pub left_target : Judged × Whole → List ℕ → Judged × (OutboxState × (NodeState × Held))
left_target (judged, w) faults = (judged, (w.outbox, (w.node, held w.disks faults)))

-- how it judged a packet, what it handed out, and what it and the media are then
unfoldable pub target_received : Option Told → Sent → NodeState → Held → Judged × (OutboxState × (NodeState × Held))
target_received told sent old media =
    left_target (received told sent.generation sent.bytes (whole_of old media)) (faults_after told sent old media)

-- at most one command ran, and the media may have told this of it
unfoldable pub MayTell : Option Told → Sent → NodeState → Held → Type 0
MayTell told sent old media =
    TellsIn told (judged_target sent old media).0 (judged_target sent old media).1 media.faults (faults_after told sent old media)

pub record TargetReceives (sent : Sent) (old : NodeState) (before : Held) (judged : Judged) (outbox : OutboxState) (new : NodeState) (now : Held) : Type 0 where
  pub told : Option Told
  pub is : (judged, (outbox, (new, now))) ≡ target_received told sent old before
  pub may : MayTell told sent old before

-- ---- a packet at its node

abbrev pub arrival : ℕ → Judged → Arrival
arrival node judged = record { node = node; judged = judged }

abbrev pub at_target : ℕ → Judged × (OutboxState × (NodeState × Held)) → Scene → Option Arrival × (OutboxState × Scene)
at_target node (judged, (outbox, (state, media))) s =
    (Some (arrival node judged), (outbox, record { world = with_target state s.world; media = media }))

abbrev pub listed : ℕ → Judged × (OutboxState × InitiatorState) → List InitiatorState → Judged × (OutboxState × List InitiatorState)
listed i (judged, (outbox, state)) states = (judged, (outbox, slice_set states i state))

-- how an initiator among others judged a packet, what it handed out, and what they are then
unfoldable pub initiators_received : ℕ → Sent → List InitiatorState → Judged × (OutboxState × List InitiatorState)
initiators_received i sent states =
    listed i (receive_step sent.generation sent.bytes empty_outbox (slice_index_or states i (new_state 0 false))) states

abbrev pub with_initiators : List InitiatorState → WorldState → WorldState
with_initiators states w = record w { initiators = states }

abbrev pub at_initiator : ℕ → Judged × (OutboxState × List InitiatorState) → Scene → Option Arrival × (OutboxState × Scene)
at_initiator node (judged, (outbox, states)) s =
    (Some (arrival node judged), (outbox, in_world (with_initiators states) s))

abbrev pub at_none : Scene → Option Arrival × (OutboxState × Scene)
at_none s = (None, (empty_outbox, s))

abbrev pub initiator_received : Sent → Scene → Option Arrival × (OutboxState × Scene)
initiator_received sent s =
    if nat_lt (sent.to - 1) (length s.world.initiators)
    then at_initiator sent.to (initiators_received (sent.to - 1) sent s.world.initiators) s
    else at_none s

abbrev pub received_at : Option Told → Sent → Scene → Option Arrival × (OutboxState × Scene)
received_at told sent s =
    if sent.to == 0
    then at_target sent.to (target_received told sent s.world.target s.media) s
    else initiator_received sent s

abbrev pub received_by : Option Told → Option Sent → Scene → Option Arrival × (OutboxState × Scene)
received_by told None s = at_none s
received_by told (Some sent) s = received_at told sent s

-- The node that a packet was sent to judges it: what it handed out, and the scene then.
unfoldable pub received_step : Option Told → ℕ → Scene → Option Arrival × (OutboxState × Scene)
received_step told serial s = received_by told (found_sent serial s.world.store.kept) s

-- only the target runs commands
abbrev pub MayTold : Bool → Option Told → Sent → Scene → Type 0
MayTold true told sent s = MayTell told sent s.world.target s.media
MayTold false told sent s = told ≡ None

abbrev pub MayAt : Option Told → Option Sent → Scene → Type 0
MayAt told None s = told ≡ None
MayAt told (Some sent) s = MayTold (sent.to == 0) told sent s

unfoldable pub MayReceive : Option Told → ℕ → Scene → Type 0
MayReceive told serial s = MayAt told (found_sent serial s.world.store.kept) s

pub record Receives (serial : ℕ) (old : Scene) (result : Option Arrival) (outbox : OutboxState) (new : Scene) : Type 0 where
  pub told : Option Told
  pub is : (result, (outbox, new)) ≡ received_step told serial old
  pub may : MayReceive told serial old

-- ---- the delivery

-- A packet in flight is delivered from then on; one that comes once more stays as it is.
abbrev pub marked : ℕ → Bool → WorldState → WorldState
marked serial again w =
    if again || not (is_flying serial w.store.kept) then w else record w { store = deliver_step w.store serial }

-- the note of the judging, then what the node handed out
unfoldable pub arrived : ℕ → Bool → Arrival → OutboxState → WorldState → WorldState
arrived serial again a outbox w =
    handed_out a.node 0 outbox (with_note (judged_note serial a.judged) (marked serial again w))

abbrev pub arrived_by : ℕ → Bool → Option Arrival → OutboxState → WorldState → WorldState
arrived_by serial again None outbox w = w
arrived_by serial again (Some a) outbox w = arrived serial again a outbox w

abbrev pub delivered_by : ℕ → Bool → Option Arrival × (OutboxState × Scene) → Scene
delivered_by serial again (a, (outbox, s)) = in_world (arrived_by serial again a outbox) s

-- A packet is delivered to its node, with what a command that ran there told.
unfoldable pub delivered : ℕ → Bool → Option Told → Scene → Scene
delivered serial again told s = delivered_by serial again (received_step told serial s)

pub record Delivers (serial : ℕ) (again : Bool) (old new : Scene) : Type 0 where
  pub told : Option Told
  pub is : new ≡ delivered serial again told old
  pub may : MayReceive told serial old
