-- What a target asks for fits a packet, and goes to nodes that it knows (IEEE 1394-1995, asynchronous packets; NCITS 325-1998, agents).
-- Each address that it reads from has 48 bits, and so has each that it writes to; what it sends has bytes below 256; and it asks the nodes of live
-- logins and of the operation under way alone, which it knows as sources of requests of its generation. So each call is what a call of a
-- node is to the wire: it judges, and then answers and asks as the wire lets it.
use Rattle.std.specs.Prelude.{◌≡◌, ◌<◌, ◌≤◌, ℕ, ◌+◌, ◌^◌, nat_lt, Bool, true, false, List, length, Option, Some, None, Ok}
use Rattle.std.specs.List.{AllByRecursion}
use Rattle.async_packet.specs.Labels.{LabelParts}
use Rattle.async_packet.specs.Packet.{Packet, header_in}
use Rattle.async_packet.specs.Reading.{reading}
use Rattle.bus_transactions.specs.Fitting.{AreBytes, AreSmall, IsLayer}
use Rattle.bus_transactions.specs.Steps.{ArePlainSides, IsDelivery, IsExpiry}
use Rattle.command_agent.specs.declared.phase.ReadAhead.{ReadAhead}
use Rattle.command_agent.specs.declared.phase.ReadAhead.TheVariants as aheads
use Rattle.command_agent.specs.Machine.{Machine}
use Rattle.label_table.specs.Layer.{expiring_step, judging_step}
use Rattle.login_table.specs.declared.login.Login.{Login}
use Rattle.login_table.specs.Table.{is_live}
use Rattle.mgmt_agent.specs.declared.operation.Operation.{Operation}
use Rattle.mgmt_agent.specs.declared.operation.Phase.{Phase}
use Rattle.mgmt_agent.specs.declared.operation.Phase.TheVariants as phases
use Rattle.mgmt_agent.specs.Machine as management
use Rattle.orb_layout.specs.declared.command.CommandOrb.{CommandOrb}
use Rattle.orb_layout.specs.declared.management.ManagementOrb.{ManagementOrb}
use Rattle.orb_layout.specs.Pointers.{IsPointer}
use Rattle.page_table.specs.declared.segment.Segment.{Segment}
use Rattle.rbc_disk.specs.Disk.{Disk}
use Rattle.rbc_disk.specs.Runs.{Told}
use Rattle.sbp_journal.specs.Outgoings.{empty_outbox}
use Rattle.sbp_target.specs.declared.purpose.Sent.{Sent}
use Rattle.sbp_target.specs.Nodes.{NodeState, scene, desk_at, login_at}
use Rattle.sbp_target.specs.Receiving.{new_node, received}
use Rattle.sbp_target.specs.Replies.{whole}
use Rattle.sbp_target.specs.Calls.{lets_expire, sees, ticks, sets_key, alone}

-- ---- command agents
-- the addresses that an ORB names have 48 bits
pub record FitsOrb (orb : CommandOrb) : Type 0 where
  pub next : IsPointer orb.next
  pub descriptor : orb.descriptor < 2 ^ 48

abbrev pub FitsAhead : ReadAhead → Type 0
FitsAhead (aheads.Kept orb) = FitsOrb orb
FitsAhead _ = Unit {0}

-- a segment of a buffer ends at 2^48 at most
abbrev pub FitsSegment : Segment → Type 0
FitsSegment segment = segment.base + segment.length ≤ 2 ^ 48

pub record FitsAgent (m : Machine) : Type 0 where
  pub present : m.present < 2 ^ 48
  pub orb : FitsOrb m.orb
  pub ahead : FitsAhead m.ahead
  pub segments : AllByRecursion FitsSegment m.segments
  pub answer : AreBytes m.answer
  pub outgoing : AreBytes m.outgoing

-- ---- the management agent
pub record FitsManagement (orb : ManagementOrb) : Type 0 where
  pub second : orb.second < 2 ^ 48
  pub fifo : orb.fifo < 2 ^ 48

abbrev pub FitsPhase : Phase → Type 0
FitsPhase (phases.HighEui orb) = FitsManagement orb
FitsPhase (phases.LowEui orb high) = FitsManagement orb
FitsPhase (phases.Response fifo) = fifo < 2 ^ 48
FitsPhase _ = Unit {0}

abbrev pub FitsOperation : (ℕ → Type 0) → Option Operation → Type 0
FitsOperation known None = Unit {0}
FitsOperation known (Some operation) = known operation.source × FitsPhase operation.phase

pub record FitsManager (known : ℕ → Type 0) (m : management.Machine) : Type 0 where
  pub operation : FitsOperation known m.operation
  pub outgoing : AreBytes m.outgoing

-- ---- logins, and the transactions of their agents
abbrev pub FitsLogin : (ℕ → Type 0) → Option Login → Type 0
FitsLogin known None = Unit {0}
FitsLogin known (Some login) = (login.fifo < 2 ^ 48) × (is_live login ≡ true → known login.node)

abbrev pub IsOfKnown : (ℕ → Type 0) → Option Login → Type 0
IsOfKnown known None = Unit {0}
IsOfKnown known (Some login) = known login.node

-- the transactions of an agent are with nodes that are known, and so is the node of its login
pub record FitsSeat (known : ℕ → Type 0) (first second : Option Sent) (login : Option Login) : Type 0 where
  pub main : (sent : Sent) → first ≡ Some sent → known sent.peer × IsOfKnown known login
  pub ahead : (sent : Sent) → second ≡ Some sent → known sent.peer × IsOfKnown known login

-- ---- a target
pub record Fits (known : ℕ → Type 0) (node : NodeState) : Type 0 where
  pub manager : FitsManager known node.manager
  pub logins : (place : ℕ) → FitsLogin known (login_at node place)
  pub size : length node.desks ≡ 8
  pub agents : (place : ℕ) → FitsAgent (desk_at node place).agent
  pub seats : (place : ℕ) → FitsSeat known (desk_at node place).main (desk_at node place).ahead (login_at node place)
  pub rom : AreBytes node.rom

pub record Holds (known : ℕ → Type 0) (node : NodeState) : Type 0 where
  pub fits : Fits known node
  pub layer : IsLayer node.layer

-- what a run told has bytes below 256
abbrev pub BytesTold : Option Told → Type 0
BytesTold None = Unit {0}
BytesTold (Some told) = AreBytes told.answer

-- the IDs that are known have 16 bits
abbrev pub AreIds : (ℕ → Type 0) → Type 0
AreIds known = (id : ℕ) → known id → id < 2 ^ 16

-- A packet of bytes is delivered, whose source is known where it is of the target's generation, with what a run told.
pub record MayReceive (known : ℕ → Type 0) (told : Option Told) (generation : ℕ) (bytes : List ℕ) (node : NodeState) : Type 0 where
  pub bytes_fit : AreBytes bytes
  pub source : generation ≡ node.layer.generation → (p : Packet) → reading bytes ≡ Ok p → known (header_in p).source
  pub told_fits : BytesTold told

-- a delivery: what it is to the wire, that its packets are of bytes, that it tells nothing of the wire, and what it leaves
pub record Receives (known : ℕ → Type 0) (told : Option Told) (disks : List Disk) (generation : ℕ) (bytes : List ℕ) (node : NodeState) : Type 0 where
  pub delivers : IsDelivery known (judging_step node.layer generation bytes).0 (received told generation bytes (whole (scene node empty_outbox) disks)).0 bytes (judging_step node.layer generation bytes).1 (received told generation bytes (whole (scene node empty_outbox) disks)).1.node.layer (received told generation bytes (whole (scene node empty_outbox) disks)).1.outbox.packets
  pub small : AreSmall (received told generation bytes (whole (scene node empty_outbox) disks)).1.outbox.packets
  pub plain : ArePlainSides (received told generation bytes (whole (scene node empty_outbox) disks)).1.outbox.sides
  pub holds : Holds known (received told generation bytes (whole (scene node empty_outbox) disks)).1.node

-- a time-out
pub record Expires (known : ℕ → Type 0) (peer : ℕ) (label : LabelParts) (node : NodeState) : Type 0 where
  pub expires : IsExpiry known (expiring_step node.layer peer label).0 (expiring_step node.layer peer label).1 (alone (lets_expire peer label) node).node.layer (alone (lets_expire peer label) node).outbox.packets
  pub small : AreSmall (alone (lets_expire peer label) node).outbox.packets
  pub plain : ArePlainSides (alone (lets_expire peer label) node).outbox.sides
  pub holds : Holds known (alone (lets_expire peer label) node).node

-- A new target knows its initiators. A later generation that it sees may have any other nodes, for then it waits for none.
pub record TargetFits (known other : ℕ → Type 0) : Type 0 where
  pub begins : (units ready : ℕ) → ((i : ℕ) → i < ready → known (0xffc1 + i)) → Holds known (new_node units ready)
  pub deliveries : (told : Option Told) (disks : List Disk) (generation : ℕ) (bytes : List ℕ) (node : NodeState) → AreIds known → Holds known node → MayReceive known told generation bytes node → Receives known told disks generation bytes node
  pub expiries : (peer : ℕ) (label : LabelParts) (node : NodeState) → AreIds known → Holds known node → Expires known peer label node
  pub sights : (generation id : ℕ) (node : NodeState) → id < 2 ^ 16 → nat_lt node.layer.generation generation ≡ true → Holds known node → Holds other (alone (sees generation id) node).node
  pub old_sights : (generation id : ℕ) (node : NodeState) → nat_lt node.layer.generation generation ≡ false → Holds known node → Holds known (alone (sees generation id) node).node
  pub seconds : (node : NodeState) → Holds known node → Holds known (alone ticks node).node
  pub keys : (unit : ℕ) (key : List ℕ) (node : NodeState) → Holds known node → Holds known (alone (sets_key unit key) node).node
  pub widens : (node : NodeState) → ((id : ℕ) → known id → other id) → Holds known node → Holds other node

-- Whichever IDs are known, now and later.
abbrev pub FittingLaw : Type 0
FittingLaw = (known other : ℕ → Bool) → TargetFits (λ id. known id ≡ true) (λ id. other id ≡ true)
