-- What an agent has under way is what its step asked for (NCITS 325-1998, command block agents): the request of each step is the main transaction or the
-- read ahead of the machine behind it, by its phase, and it stays that until it is answered or lost; a read ahead that becomes the main transaction is of
-- the ORB that is then the present one.
use Rattle.std.specs.Prelude.{◌≡◌, ◌⊎◌, ◌≤◌, ◌<◌, ℕ, Bool, true, false, List, [], ◌∷◌, length, is_some, Option, Some, Ok}
use Rattle.async_packet.specs.Canon.{canon}
use Rattle.async_packet.specs.Labels.{LabelParts}
use Rattle.label_table.specs.Bodies.{Body, header_to, request_with}
use Rattle.label_table.specs.Layer.{Layer}
use Rattle.label_table.specs.Requests.{with_label}
use Rattle.orb_layout.specs.declared.ask.Ask.{Ask}
use Rattle.orb_layout.specs.declared.ask.Ask.TheVariants.{Nothing, Read, Write}
use Rattle.orb_layout.specs.declared.ask.FailCause.{FailCause}
use Rattle.login_table.specs.declared.login.Login.{Login}
use Rattle.orb_layout.specs.declared.pointer.OrbPointer.{OrbPointer}
use Rattle.orb_layout.specs.declared.pointer.OrbPointer.TheVariants.{At, Null}
use Rattle.orb_layout.specs.Replies.{Answer}
use Rattle.rbc_disk.specs.Disk.{Disk}
use Rattle.rbc_disk.specs.Runs.{Told}
use Rattle.rbc_disk.specs.Units.{PlainDisk}
use Rattle.command_agent.specs.declared.phase.Phase.{Phase}
use Rattle.command_agent.specs.declared.phase.Phase.TheVariants as phases
use Rattle.command_agent.specs.declared.step.AgentStep.{AgentStep}
use Rattle.command_agent.specs.declared.step.Which.TheVariants.{Ahead, Main}
use Rattle.command_agent.specs.Machine.{Machine, is_ahead, is_sent}
use Rattle.command_agent.specs.Steps.{abort_step, doorbell_step, lost_step, point_step, reply_step}
use Rattle.command_agent.specs.Tasks.{writes_status}
use Rattle.sbp_journal.specs.declared.cause.CutCause.{CutCause}
use Rattle.sbp_journal.specs.declared.outbox.Outgoing.{Outgoing}
use Rattle.sbp_journal.specs.Outgoings.{OutboxState, empty_outbox}
use Rattle.sbp_target.specs.declared.purpose.Purpose.{Purpose}
use Rattle.sbp_target.specs.Calls.{Call, after, done}
use Rattle.sbp_target.specs.Management.{manage}
use Rattle.sbp_target.specs.Receiving.{expire_agent, new_node, seen, ticked, with_key}
use Rattle.sbp_target.specs.Replies.{replied_to, whole}
use Rattle.sbp_target.specs.Serving.{accessed_by, request_step}
use Rattle.async_packet.specs.Packet.{Packet}
use Rattle.target_base.specs.declared.address.Access.{Access}
use Rattle.sbp_target.specs.declared.desk.Desk.{Desk}
use Rattle.sbp_target.specs.declared.purpose.Sent.{Sent}
use Rattle.sbp_target.specs.Agents.{agent_body, cut, follow}
use Rattle.sbp_target.specs.Nodes.{NodeState, Scene, desk_at, login_at, scene}
use Rattle.command_agent.specs.Steps as steps
use Rattle.agent_laws.specs.Along.Requests.{ahead_under, main_under}

-- something is asked for
abbrev pub asks : Ask → Bool
asks Nothing = false
asks (Read offset size) = true
asks (Write offset size) = true

-- In these phases nothing is read ahead.
abbrev pub reads_none : Phase → Bool
reads_none phases.ReadingTable = false
reads_none (phases.ReadingData wanted) = false
reads_none phases.Answering = false
reads_none phases.WritingStatus = false
reads_none _ = true

pub record IsBare (m : Machine) : Type 0 where
  pub bare : reads_none m.phase ≡ true → is_ahead m.ahead ≡ false

-- A write that is under way has as many bytes as it was asked for.
pub record IsSized (m : Machine) : Type 0 where
  pub bytes : (offset size : ℕ) → main_under m ≡ Write offset size → length m.outgoing ≡ size

-- Behind a step to whose main transaction a reply came, or that failed, with the read ahead before it: what the step asks for is the main transaction,
-- a status block exactly where an ORB ends; a read ahead that becomes the main transaction is it; and the read ahead is the one that the step asks for, or
-- the one before.
pub record IsUnder (ahead : Ask) (s : AgentStep × Machine) : Type 0 where
  pub main : asks s.0.ask ≡ true → main_under s.1 ≡ s.0.ask
  pub status : asks s.0.ask ≡ true → writes_status s.1.phase ≡ is_some s.0.ended
  pub turned : s.0.promoted ≡ true → main_under s.1 ≡ ahead
  pub asked : asks s.0.ahead ≡ true → ahead_under s.1 ≡ s.0.ahead
  pub kept : asks s.0.ahead ≡ false → is_ahead s.1.ahead ≡ true → ahead_under s.1 ≡ ahead
  pub sized : IsSized s.1

-- The main transaction is as it was, with its bytes.
pub record IsStill (before now : Machine) : Type 0 where
  pub main : main_under now ≡ main_under before
  pub phase : now.phase ≡ before.phase
  pub outgoing : now.outgoing ≡ before.outgoing

pub record UnderLaw : Type 0 where
  pub replies : (m : Machine) (place : ℕ) (plain : PlainDisk) (told : Option Told) (answer : Answer) → IsBare m → IsUnder (ahead_under m) (reply_step m place plain told Main answer)
  pub losses : (m : Machine) (cause : FailCause) → IsBare m → IsUnder (ahead_under m) (lost_step m Main cause)
  pub ahead_replies : (m : Machine) (place : ℕ) (plain : PlainDisk) (told : Option Told) (answer : Answer) → IsStill m (reply_step m place plain told Ahead answer).1
  pub ahead_losses : (m : Machine) (cause : FailCause) → IsStill m (lost_step m Ahead cause).1
  pub pointers : (m : Machine) (pointer : OrbPointer) (ask : Ask) → (point_step m pointer).0 ≡ Ok ask → main_under (point_step m pointer).1 ≡ ask
  pub doorbells : (m : Machine) → asks (doorbell_step m).0 ≡ true → main_under (doorbell_step m).1 ≡ (doorbell_step m).0
  pub rung : (m : Machine) → asks (doorbell_step m).0 ≡ false → IsStill m (doorbell_step m).1
  pub aborts : (m : Machine) (orb : ℕ) → IsStill m (abort_step m orb)

-- ---- the packets of it

-- the body of the main transaction, where the login has this FIFO: a status block goes there, and all else to its own address; and of the read ahead
abbrev pub main_body : (fifo : ℕ) → Machine → Option Body
main_body fifo m = agent_body (main_under m) (writes_status m.phase) fifo m.outgoing

abbrev pub ahead_body : Machine → Option Body
ahead_body m = agent_body (ahead_under m) false 0 []

-- A packet is the request of a body, to the peer of a transaction and under its label; the ID of the node that it comes from is the one that the
-- node had then.
pub record IsFor (sent : Sent) (body : Option Body) (packet : Outgoing) : Type 0 where
  pub node : ℕ
  pub asked : Body
  pub is : body ≡ Some asked
  pub to : packet.to ≡ sent.peer
  pub under : packet.label ≡ Some sent.label
  pub spelled : packet.bytes ≡ with_label sent.label.number (canon (request_with (header_to node sent.peer 0) asked))

-- the request left, among these packets
abbrev pub Left : List Outgoing → Sent → Option Body → Type 0
Left [] sent body = ⊥
Left (packet ∷ packets) sent body = IsFor sent body packet ⊎ Left packets sent body

-- What the desk of an agent waits for left, as the request that the machine has under way: its main transaction, with as many bytes as it asked for, and
-- its read ahead.
pub record AsksReally (packets : List Outgoing) (fifo : ℕ) (desk : Desk) : Type 0 where
  pub main : (sent : Sent) → desk.main ≡ Some sent → is_sent desk.agent.phase ≡ true → Left packets sent (main_body fifo desk.agent)
  pub ahead : (sent : Sent) → desk.ahead ≡ Some sent → is_ahead desk.agent.ahead ≡ true → Left packets sent (ahead_body desk.agent)
  pub sized : IsSized desk.agent

-- The desk has its read ahead still, and the machine is that behind a step.
pub record IsBehind (packets : List Outgoing) (place : ℕ) (before now : Machine) (node : NodeState) : Type 0 where
  pub desks : length node.desks ≡ 8
  pub agent : (desk_at node place).agent ≡ now
  pub ahead : (sent : Sent) → (desk_at node place).ahead ≡ Some sent → is_ahead before.ahead ≡ true → Left packets sent (ahead_body before)

-- a next pointer names an ORB
abbrev pub has_next : OrbPointer → Bool
has_next Null = false
has_next (At offset) = true

-- the buffer is in use
abbrev pub uses_buffer : Phase → Bool
uses_buffer phases.ReadingTable = true
uses_buffer (phases.ReadingData wanted) = true
uses_buffer phases.Answering = true
uses_buffer _ = false

-- An agent's machine: nothing is read ahead in a phase that reads nothing ahead, what is read ahead is what its next pointer names, and a packet carries
-- a chunk of its buffer.
pub record IsFit (m : Machine) : Type 0 where
  pub bare : reads_none m.phase ≡ true → is_ahead m.ahead ≡ false
  pub next : is_ahead m.ahead ≡ true → has_next m.orb.next ≡ true
  pub limit : uses_buffer m.phase ≡ true → m.orb.max_payload ≤ 9

-- Behind all that follows a step of the agent of a place, of a login with a FIFO: what its desk waits for left.
abbrev pub Asks : (place : ℕ) → Login → Scene → Type 0
Asks place login s = AsksReally s.outbox.packets login.fifo (desk_at s.node place)

pub record FollowLaw : Type 0 where
  pub replies : (place : ℕ) (login : Login) (m : Machine) (plain : PlainDisk) (told : Option Told) (answer : Answer) (s : Scene) → place < 8 → IsFit m → (let r = reply_step m place plain told Main answer in IsBehind s.outbox.packets place m r.1 s.node → Asks place login (follow place login r.0 s))
  pub losses : (place : ℕ) (login : Login) (m : Machine) (cause : FailCause) (s : Scene) → place < 8 → IsFit m → is_sent m.phase ≡ true → (let r = lost_step m Main cause in IsBehind s.outbox.packets place m r.1 s.node → Asks place login (follow place login r.0 s))
  pub pointers : (place : ℕ) (login : Login) (m : Machine) (pointer : OrbPointer) (ask : Ask) (s : Scene) → place < 8 → (point_step m pointer).0 ≡ Ok ask → IsBehind s.outbox.packets place m (point_step m pointer).1 s.node → Asks place login (follow place login (steps.asks ask) s)
  pub doorbells : (place : ℕ) (login : Login) (m : Machine) (s : Scene) → place < 8 → is_ahead m.ahead ≡ false → asks (doorbell_step m).0 ≡ true → IsBehind s.outbox.packets place m (doorbell_step m).1 s.node → Asks place login (follow place login (steps.asks (doorbell_step m).0) s)

-- ---- the desks of all places, each by the FIFO of its login
pub record AllAsk (packets : List Outgoing) (node : NodeState) : Type 0 where
  pub all : (place : ℕ) (login : Login) → place < 8 → login_at node place ≡ Some login → AsksReally packets login.fifo (desk_at node place)

-- A time-out of a transaction of an agent, and a cut of its list, keep that.
pub record LatesAsk (node : NodeState) : Type 0 where
  pub expiries : (layer : Layer Purpose) (outbox : OutboxState) (place peer : ℕ) (label : LabelParts) → place < 8 → AllAsk outbox.packets node → (let s = expire_agent place peer label (scene (record node { layer = layer }) outbox) in AllAsk s.outbox.packets s.node)
  pub cuts : (layer : Layer Purpose) (outbox : OutboxState) (place : ℕ) (cause : CutCause) → place < 8 → AllAsk outbox.packets node → (let s = cut cause place (scene (record node { layer = layer }) outbox) in AllAsk s.outbox.packets s.node)

-- of a target that has a unit, after every list of calls
abbrev pub LateLaw : Type 0
LateLaw = (units ready : ℕ) (calls : List Call) → 0 < units → LatesAsk (after units ready calls)

-- A reply to one of its transactions does so too, whatever a command that it runs tells.
pub record RepliesAsk (node : NodeState) : Type 0 where
  pub replies : (layer : Layer Purpose) (outbox : OutboxState) (told : Option Told) (answer : Answer) (disks : List Disk) (place peer : ℕ) (label : LabelParts) → place < 8 → AllAsk outbox.packets node → (let w = replied_to told place peer label answer (whole (scene (record node { layer = layer }) outbox) disks) in AllAsk w.outbox.packets w.node)

abbrev pub RepliesLaw : Type 0
RepliesLaw = (units ready : ℕ) (calls : List Call) → 0 < units → RepliesAsk (after units ready calls)

-- So does all that is asked of the registers of an agent.
pub record AccessesAsk (node : NodeState) : Type 0 where
  pub accesses : (layer : Layer Purpose) (outbox : OutboxState) (place : ℕ) (access : Access) (p : Packet) (bytes : List ℕ) → place < 8 → AllAsk outbox.packets node → (let s = accessed_by access place p bytes (scene (record node { layer = layer }) outbox) in AllAsk s.outbox.packets s.node)

abbrev pub AccessesLaw : Type 0
AccessesLaw = (units ready : ℕ) (calls : List Call) → 0 < units → AccessesAsk (after units ready calls)

-- So do a generation that is seen and a key that is set.
pub record SightsAsk (node : NodeState) : Type 0 where
  pub sights : (outbox : OutboxState) (generation id : ℕ) → AllAsk outbox.packets node → (let s = (seen generation id (scene node outbox)).1 in AllAsk s.outbox.packets s.node)
  pub keys : (outbox : OutboxState) (unit : ℕ) (key : List ℕ) → AllAsk outbox.packets node → AllAsk outbox.packets (with_key unit key node)

abbrev pub SightsLaw : Type 0
SightsLaw = (units ready : ℕ) (calls : List Call) → 0 < units → SightsAsk (after units ready calls)

-- So does each request that the target gets: it is served or refused, and answered.
pub record RequestsAsk (node : NodeState) : Type 0 where
  pub requests : (layer : Layer Purpose) (outbox : OutboxState) (p : Packet) (bytes : List ℕ) → AllAsk outbox.packets node → (let s = (request_step p bytes (scene (record node { layer = layer }) outbox)).1 in AllAsk s.outbox.packets s.node)

abbrev pub RequestsAskLaw : Type 0
RequestsAskLaw = (units ready : ℕ) (calls : List Call) → 0 < units → RequestsAsk (after units ready calls)

-- So does a second that goes by.
abbrev pub TicksAskLaw : Type 0
TicksAskLaw =
    (units ready : ℕ) (calls : List Call) (outbox : OutboxState) → (let node = after units ready calls in AllAsk outbox.packets node → (let s = ticked (scene node outbox) in AllAsk s.outbox.packets s.node))

-- So do a reply to the management operation and its time-out, whatever its step decides and makes of the logins.
abbrev pub ManagementAskLaw : Type 0
ManagementAskLaw =
    (units ready : ℕ) (calls : List Call) (layer : Layer Purpose) (outbox : OutboxState) (answer : Answer) → 0 < units → (let node = after units ready calls in AllAsk outbox.packets node → (let s = manage answer (scene (record node { layer = layer }) outbox) in AllAsk s.outbox.packets s.node))

-- a target and all that it handed out, where one outbox takes it call after call, the latest of them first
abbrev pub gathered : ℕ → ℕ → List Call → Scene
gathered units ready [] = scene (new_node units ready) empty_outbox
gathered units ready (call ∷ calls) = done call (gathered units ready calls)

-- So does each call, whatever it finds; and after every list of calls what the desks wait for is in the outbox that took all.
pub record CallsAsk (units ready : ℕ) (calls : List Call) : Type 0 where
  pub each : (call : Call) (outbox : OutboxState) → AllAsk outbox.packets (after units ready calls) → (let s = done call (scene (after units ready calls) outbox) in AllAsk s.outbox.packets s.node)
  pub all : AllAsk (gathered units ready calls).outbox.packets (gathered units ready calls).node

abbrev pub CallsAskLaw : Type 0
CallsAskLaw = (units ready : ℕ) (calls : List Call) → 0 < units → CallsAsk units ready calls
