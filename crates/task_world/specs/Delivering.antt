-- The delivery of a packet to the node that it was sent to: to the task node, or to the initiator as in every world.
use Rattle.std.specs.Prelude.{◌≡◌, ℕ, ◌==◌, Bool, true, false, if◌then◌else◌, List, [], ◌∷◌, slice_index, Option, Some, None}
use Rattle.async_packet.specs.Labels.{LabelParts}
use Rattle.async_packet.specs.Packet.{header_in}
use Rattle.command_agent.specs.Runs.{count_after}
use Rattle.label_table.specs.Layer.{Finding, judging_step, of_response}
use Rattle.login_table.specs.declared.login.Login.{Login}
use Rattle.orb_layout.specs.Replies.{Answer}
use Rattle.packet_store.specs.declared.sent.Sent.{Sent}
use Rattle.packet_store.specs.Kept.{found_sent}
use Rattle.rbc_disk.specs.Disk.{disk_at}
use Rattle.rbc_disk.specs.Held.{Held}
use Rattle.rbc_disk.specs.Runs.{Told}
use Rattle.sbp_journal.specs.declared.cause.Judged.{Judged}
use Rattle.sbp_journal.specs.Outgoings.{OutboxState, empty_outbox}
use Rattle.sbp_world.specs.declared.parts.delivering.Arrival.{Arrival}
use Rattle.sbp_world.specs.Delivering.{arrival, arrived_by, at_none, initiator_received}
use Rattle.sbp_world.specs.Worlds.{Scene, in_world as in_plain_world}
use Rattle.task_target.specs.declared.purpose.TaskPurpose.{TaskPurpose}
use Rattle.task_target.specs.Nodes.{TaskNode}
use Rattle.task_target.specs.Nodes as target
use Rattle.task_target.specs.Receiving.{TellsIn, answer_in, received, with_layer}
use Rattle.task_target.specs.Replies.{Stage, Whole, agent_step, awaits, served_login, stage, whole}
use Rattle.task_world.specs.Worlds.{TaskScene, in_scene, one_held, with_node, world_of}

-- ---- the count of faults after a delivery to the task node: its agent may have run a command

abbrev pub count_by : Option Told → ℕ → Answer → Option Login → Bool → Stage → ℕ → ℕ
count_by told place answer (Some login) true s count = count_after (agent_step told place answer s).0.ran count
count_by told place answer (Some login) false s count = count
count_by told place answer None is_awaited s count = count

abbrev pub count_at : Option Told → Option TaskPurpose → ℕ → LabelParts → Answer → Whole → ℕ → ℕ
count_at told None peer label answer w count = count
count_at told (Some purpose) peer label answer w count =
    count_by told purpose.place answer (served_login w.node) (awaits w.node purpose.place peer label) (stage w.node w.disk) count

unfoldable pub count_in : Option Told → Finding TaskPurpose → Whole → ℕ → ℕ
count_in told (of_response p label purpose) w count = count_at told purpose (header_in p).source label (answer_in p) w count
count_in told _ w count = count

-- ---- a packet at the task node

-- the task node with nothing handed out yet, and what the medium holds
abbrev pub whole_of : TaskNode → Held → Whole
whole_of node media = whole (target.scene node empty_outbox) (disk_at media.disks 0)

abbrev pub judged_node : Sent → TaskNode → Held → Finding TaskPurpose × Whole
judged_node sent node media =
    let found = judging_step node.layer sent.generation sent.bytes in
    (found.0, with_layer found.1 (whole_of node media))

abbrev pub count_behind : Option Told → Sent → TaskNode → Held → ℕ
count_behind told sent node media =
    count_in told (judged_node sent node media).0 (judged_node sent node media).1 (slice_index media.faults 0)

abbrev pub left_node : Judged × Whole → ℕ → Judged × (OutboxState × (TaskNode × Held))
left_node (judged, w) count = (judged, (w.outbox, (w.node, one_held w.disk count)))

-- how it judged a packet, what it handed out, and what it and the medium are then
unfoldable pub task_received : Option Told → Sent → TaskNode → Held → Judged × (OutboxState × (TaskNode × Held))
task_received told sent old media =
    left_node (received told sent.generation sent.bytes (whole_of old media)) (count_behind told sent old media)

-- at most one command ran, and the medium may have told this of it
unfoldable pub MayTell : Option Told → Sent → TaskNode → Held → Type 0
MayTell told sent old media =
    TellsIn told (judged_node sent old media).0 (judged_node sent old media).1 (slice_index media.faults 0) (count_behind told sent old media)

pub record NodeReceives (sent : Sent) (old : TaskNode) (before : Held) (judged : Judged) (outbox : OutboxState) (new : TaskNode) (now : Held) : Type 0 where
  pub told : Option Told
  pub is : (judged, (outbox, (new, now))) ≡ task_received told sent old before
  pub may : MayTell told sent old before

-- ---- a packet at its node

abbrev pub at_node : ℕ → Judged × (OutboxState × (TaskNode × Held)) → TaskScene → Option Arrival × (OutboxState × TaskScene)
at_node to (judged, (outbox, (node, media))) s =
    (Some (arrival to judged), (outbox, record { scene = record { world = (with_node node (world_of s)).world; media = media }; node = node }))

abbrev pub at_other : Option Arrival × (OutboxState × Scene) → TaskScene → Option Arrival × (OutboxState × TaskScene)
at_other (arrival, (outbox, scene)) s = (arrival, (outbox, record s { scene = scene }))

abbrev pub received_at : Option Told → Sent → TaskScene → Option Arrival × (OutboxState × TaskScene)
received_at told sent s =
    if sent.to == 0 then at_node sent.to (task_received told sent s.node s.scene.media) s else at_other (initiator_received sent s.scene) s

abbrev pub received_by : Option Told → Option Sent → TaskScene → Option Arrival × (OutboxState × TaskScene)
received_by told None s = at_other (at_none s.scene) s
received_by told (Some sent) s = received_at told sent s

-- The node that a packet was sent to judges it: what it handed out, and the scene then.
unfoldable pub received_step : Option Told → ℕ → TaskScene → Option Arrival × (OutboxState × TaskScene)
received_step told serial s = received_by told (found_sent serial s.scene.world.store.kept) s

-- only the task node runs commands
abbrev pub MayTold : Bool → Option Told → Sent → TaskScene → Type 0
MayTold true told sent s = MayTell told sent s.node s.scene.media
MayTold false told sent s = told ≡ None

abbrev pub MayAt : Option Told → Option Sent → TaskScene → Type 0
MayAt told None s = told ≡ None
MayAt told (Some sent) s = MayTold (sent.to == 0) told sent s

unfoldable pub MayReceive : Option Told → ℕ → TaskScene → Type 0
MayReceive told serial s = MayAt told (found_sent serial s.scene.world.store.kept) s

pub record Receives (serial : ℕ) (old : TaskScene) (result : Option Arrival) (outbox : OutboxState) (new : TaskScene) : Type 0 where
  pub told : Option Told
  pub is : (result, (outbox, new)) ≡ received_step told serial old
  pub may : MayReceive told serial old

-- ---- the delivery

abbrev pub delivered_by : ℕ → Bool → Option Arrival × (OutboxState × TaskScene) → TaskScene
delivered_by serial again (arrival, (outbox, s)) = in_scene (in_plain_world (arrived_by serial again arrival outbox)) s

-- A packet is delivered to its node, with what a command that ran there told.
unfoldable pub delivered : ℕ → Bool → Option Told → TaskScene → TaskScene
delivered serial again told s = delivered_by serial again (received_step told serial s)

pub record Delivers (serial : ℕ) (again : Bool) (old new : TaskScene) : Type 0 where
  pub told : Option Told
  pub is : new ≡ delivered serial again told old
  pub may : MayReceive told serial old
