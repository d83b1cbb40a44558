-- Why no agent of the target dies at a reply to its main transaction, in runs in which nobody injected packets (NCITS 325-1998, command block agents): the reply is complete, and what it brings is legal, an
-- ORB as its page table, where the commands of the lines are those that a script can state.
use Rattle.std.specs.Prelude.{◌≡◌, ◌*◌, ◌<◌, ◌≤◌, ℕ, false, true, is_some, sum, List, [], ◌∷◌, length, Option, Some, None, Err}
use Rattle.std.specs.List.{AllByRecursion}
use Rattle.async_packet.specs.Labels.{LabelParts}
use Rattle.async_packet.specs.Packet.{Packet, header_in}
use Rattle.command_agent.specs.Machine.{Machine, chunk_of}
use Rattle.command_agent.specs.Steps.{reply_step}
use Rattle.command_agent.specs.declared.phase.Phase.{Phase}
use Rattle.command_agent.specs.declared.phase.Phase.TheVariants as phases
use Rattle.command_agent.specs.declared.step.AgentStep.{AgentStep}
use Rattle.command_agent.specs.declared.step.Which.{Which}
use Rattle.command_agent.specs.declared.step.Which.TheVariants.{Ahead, Main}
use Rattle.agent_laws.specs.Along.Along.{Along, Progress}
use Rattle.agent_laws.specs.Along.Steps.{Brings}
use Rattle.label_table.specs.Layer.{Layer, judging_step, of_request, of_response}
use Rattle.login_table.specs.declared.login.Login.{Login}
use Rattle.orb_layout.specs.Replies.{Answer, payload_of, write_failure}
use Rattle.orb_layout.specs.declared.ask.FailCause.{FailCause}
use Rattle.rbc_disk.specs.Disk.{Disk}
use Rattle.rbc_disk.specs.Runs.{Told}
use Rattle.rbc_disk.specs.Units.{PlainDisk}
use Rattle.sbp_journal.specs.Outgoings.{empty_outbox}
use Rattle.sbp_journal.specs.Run.{Moment, asked, said}
use Rattle.sbp_journal.specs.declared.event.Action.TheVariants as actions
use Rattle.sbp_journal.specs.declared.event.Cmd.{Cmd}
use Rattle.sbp_journal.specs.declared.event.Event.TheVariants as events
use Rattle.sbp_journal.specs.declared.note.Note.TheVariants as notes
use Rattle.sbp_journal.specs.declared.side.Side.{Side}
use Rattle.sbp_journal.specs.declared.side.Side.TheVariants as sides
use Rattle.sbp_journal.specs.Addresses.{Access as Asked}
use Rattle.sbp_journal.specs.Wire.{terms}
use Rattle.sbp_laws.specs.Packets.{access_at, answered_at}
use Rattle.sbp_laws.specs.Targets.{agent_at, over, target_at}
use Rattle.sbp_laws.specs.Turns.{EachMoment}
use Rattle.sbp_target.specs.Agents.{agent_body}
use Rattle.sbp_target.specs.Desks.{which_in}
use Rattle.sbp_target.specs.Nodes.{NodeState, desk_at, login_at, scene}
use Rattle.sbp_target.specs.Receiving.{answer_in, received, seen, ticked}
use Rattle.sbp_target.specs.Replies.{plain_in, served_login, whole}
use Rattle.sbp_target.specs.Serving.{is_barred}
use Rattle.sbp_target.specs.declared.purpose.Purpose.{Purpose}
use Rattle.sbp_target.specs.declared.purpose.Purpose.TheVariants as purposes
use Rattle.target_base.specs.Addresses.{demand_of}
use Rattle.target_base.specs.declared.address.Access.{Access}
use Rattle.target_base.specs.declared.address.Demand.TheVariants as demands
use Rattle.bus_transactions.specs.Carried.{AreKept}
use Rattle.packet_store.specs.declared.sent.Sent.{Sent}
use Rattle.rbc_disk.specs.Held.{Held}
use Rattle.sbp_world.specs.Delivering.{MayTell}
use Rattle.sbp_world.specs.Worlds.{WorldState}
use Rattle.sbp_world.specs.Completing.Sights.{AreFewOfCutLists, since_sight}
use Rattle.sbp_world.specs.Completing.Labels.{AlwaysFrom, AlwaysWhere, LosesNothing, of_cut_lists}
use Rattle.sbp_world.specs.Completing.LabelsAsked.{IsNoWrite, MayAsk}
use Rattle.sbp_world.specs.Completing.LabelsFound.{FindsLabels}
use Rattle.sbp_world.specs.Lists.FewLogins.{FewLogins}
use Rattle.sbp_world.specs.Lists.Lists.{orbs_by}
use Rattle.orb_layout.specs.declared.ask.Ask.TheVariants.{Write}
use Rattle.sbp_world.specs.Counting.Brings.{IsMainReply}
use Rattle.sbp_world.specs.Lists.Needs.{IsFor, machine_at}
use Rattle.sbp_world.specs.Lists.OwnLogins.{IsTame}

-- ---- commands
-- A command as a script can state it: its max_payload is 9 at most, and each segment of its buffer has bytes. Any other makes an ORB or a page table that is illegal.
pub record IsLegal (cmd : Cmd) : Type 0 where
  pub limit : cmd.max_payload ≤ 9
  pub some : AllByRecursion (λ count. 0 < count) cmd.segments

-- so are the commands of the lines of a history
abbrev pub IsLegalAt : Moment → List Moment → Type 0
IsLegalAt (asked line (events.Act i (actions.Put cmd))) past = IsLegal cmd
IsLegalAt (asked line (events.Act i (actions.Append cmd))) past = IsLegal cmd
IsLegalAt moment past = Unit {0}

abbrev pub AreLegal : List Moment → Type 0
AreLegal past = EachMoment IsLegalAt past

-- ---- replies
-- a reply to a read of so many bytes that is complete
abbrev pub IsWhole : Answer → (count : ℕ) → Type 0
IsWhole answer count = (cause : FailCause) → payload_of answer count ≡ Err cause → ⊥

-- a reply to the main transaction of an agent that is complete: to a read with as many bytes as it asked for
abbrev pub IsGiven : Phase → Machine → Answer → Type 0
IsGiven phases.Fetching m answer = IsWhole answer 32
IsGiven phases.ReadingTable m answer = IsWhole answer (8 * m.orb.data_size)
IsGiven (phases.ReadingData wanted) m answer = IsWhole answer (chunk_of m (length m.payload) wanted).length
IsGiven phases.Answering m answer = write_failure answer ≡ None
IsGiven phases.WritingStatus m answer = write_failure answer ≡ None
IsGiven phases.ReadingNext m answer = IsWhole answer 8
IsGiven phase m answer = Unit {0}

-- ---- an agent along a list
-- A legal command, in a slot, whose segments, where it has any, make up its buffer, which the slot has room for.
pub record IsSound (slot : ℕ) (cmd : Cmd) : Type 0 where
  pub small : slot < 32
  pub legal : IsLegal cmd
  pub whole : 0 < length cmd.segments → sum cmd.segments ≡ cmd.length
  pub short : cmd.length ≤ 16384
  pub few : length cmd.segments ≤ 64

-- the command of an ORB of a list, where it is there, is sound
abbrev pub AreSound : Option Cmd → (slot : ℕ) → Type 0
AreSound found slot = (cmd : Cmd) → found ≡ Some cmd → IsSound slot cmd

-- An agent that is along a list does not die at a complete reply to its main transaction which brings what the list holds; and at no reply to its read ahead.
pub record RepliesLive : Type 0 where
  pub main : (linked : ℕ) (slot : ℕ → ℕ) (command : ℕ → Option Cmd) (p : Progress) (m : Machine) (place : ℕ) (plain : PlainDisk) (told : Option Told) (answer : Answer)
      → (p.ended < linked → AreSound (command p.ended) (slot p.ended)) → Along (orbs_by linked slot command) p m → Brings (orbs_by linked slot command) p.ended m Main answer → IsGiven m.phase m answer
      → (reply_step m place plain told Main answer).0.dead ≡ None
  pub ahead : (m : Machine) (place : ℕ) (plain : PlainDisk) (told : Option Told) (answer : Answer) → (reply_step m place plain told Ahead answer).0.dead ≡ None

-- ---- what a call of the target tells
-- no death of an agent
abbrev pub IsLiving : Side → Type 0
IsLiving (sides.Dead place cause) = ⊥
IsLiving side = Unit {0}

abbrev pub AreLiving : List Side → Type 0
AreLiving [] = Unit {0}
AreLiving (side ∷ later) = IsLiving side × AreLiving later

-- At a response to a transaction of an agent, with what its unit holds, it makes a step that does not make it dead, and what it asks for finds a label.
pub record GoesOn (node : NodeState) (layer : Layer Purpose) (place : ℕ) (login : Login) (s : AgentStep × Machine) : Type 0 where
  pub there : place < length node.desks
  pub alive : s.0.dead ≡ None
  pub finds : FindsLabels node.layer login.node
  pub asks : MayAsk layer login.node (agent_body s.0.ask (is_some s.0.ended) login.fifo s.1.outgoing)
  pub ahead : IsNoWrite s.0.ahead

-- so it is of each response that a packet may be; and where it is a request for an agent's register, requests to its login find labels
pub record DeliveryGoesOn (run : Option Told) (generation : ℕ) (bytes : List ℕ) (node : NodeState) (disks : List Disk) : Type 0 where
  pub replies : (p : Packet) (label : LabelParts) (place : ℕ) → (judging_step node.layer generation bytes).0 ≡ of_response p label (Some (purposes.Agent place)) → (login : Login) → served_login node place ≡ Some login → (which : Which) → which_in (desk_at node place) (header_in p).source label ≡ Some which → GoesOn node (judging_step node.layer generation bytes).1 place login (reply_step (desk_at node place).agent place (plain_in node.units disks login.unit) run which (answer_in p))
  pub registers : (p : Packet) (place : ℕ) (access : Access) → (judging_step node.layer generation bytes).0 ≡ of_request p → is_barred node p ≡ false → demand_of (length node.rom) p ≡ demands.Agent place access → (place < length node.desks) × ((login : Login) → login_at node place ≡ Some login → FindsLabels node.layer login.node)

-- Then no agent dies in the delivery.
abbrev pub DeliveriesLive : Type 0
DeliveriesLive = (run : Option Told) (generation : ℕ) (bytes : List ℕ) (node : NodeState) (disks : List Disk) → DeliveryGoesOn run generation bytes node disks → AreLiving (received run generation bytes (whole (scene node empty_outbox) disks)).1.outbox.sides

-- Nor does one where a generation is seen, or a second goes by.
pub record OthersLive : Type 0 where
  pub sights : (generation id : ℕ) (node : NodeState) → AreLiving (seen generation id (scene node empty_outbox)).1.outbox.sides
  pub ticks : (node : NodeState) → AreLiving (ticked (scene node empty_outbox)).outbox.sides

-- ---- a history
-- among these moments no agent died
abbrev pub NoneDies : List Moment → Type 0
NoneDies [] = Unit {0}
NoneDies (said (notes.Dead i list cause) ∷ past) = ⊥
NoneDies (_ ∷ past) = NoneDies past

-- ---- at a place
-- each delivery of a packet to the target goes on so, whatever the media hold, and whatever the run of a command may tell
abbrev pub DeliveriesGoOn : WorldState → Type 0
DeliveriesGoOn w = (sent : Sent) → IsFor w sent → (run : Option Told) (media : Held) → MayTell run sent w.target media → DeliveryGoesOn run sent.generation sent.bytes w.target media.disks

-- few requests are under way, to each of so many initiators, that were sent for lists which have been cut
abbrev pub AreFewNow : List Disk → (count : ℕ) → List Moment → Type 0
AreFewNow start count past = (i : ℕ) → i < count → of_cut_lists start past i ≤ 40

-- So it is where nobody injected packets, the commands are legal, nothing was lost since the latest reset, and few such requests are under way.
abbrev pub GoesOnThere : List Disk → List Moment → WorldState → Type 0
GoesOnThere start past w = IsTame past → AreLegal past → LosesNothing past → AreFewNow start (length w.initiators) past → DeliveriesGoOn w

-- Then no agent died since the target first saw the latest reset, where nothing was lost since that reset, and at each moment since that sight few such requests are under way.
abbrev pub NoneDied : List Disk → List Moment → WorldState → Type 0
NoneDied start past w = IsTame past → AreLegal past → AreKept past → AreFewOfCutLists start past → NoneDies (since_sight 0 past)

-- ---- what makes deliveries go on
-- the response to the main transaction of an agent is complete
abbrev pub AreGiven : WorldState → Type 0
AreGiven w = (sent : Sent) (packet : Packet) (place : ℕ) → IsMainReply w sent packet place → IsGiven (machine_at w place).phase (machine_at w place) (answer_in packet)

-- a write that the agent asks for behind it finds a label
abbrev pub WritesFind : WorldState → Type 0
WritesFind w =
    (sent : Sent) (packet : Packet) (place : ℕ) (login : Login) → IsMainReply w sent packet place → login_at w.target place ≡ Some login → (run : Option Told) (media : Held) → MayTell run sent w.target media
    → (let s = reply_step (machine_at w place) place (plain_in w.target.units media.disks login.unit) run Main (answer_in packet) in (offset size : ℕ) → s.0.ask ≡ Write offset size → MayAsk (judging_step w.target.layer sent.generation sent.bytes).1 login.node (agent_body s.0.ask (is_some s.0.ended) login.fifo s.1.outgoing))

-- where nobody injected packets, the commands are legal, nothing was lost since the latest reset, and few requests of lists that were cut are under way
abbrev pub WhereKept : (WorldState → Type 0) → List Disk → List Moment → WorldState → Type 0
WhereKept Q start past w = IsTame past → AreLegal past → LosesNothing past → AreFewNow start (length w.initiators) past → Q w

-- The response to the main transaction of an agent answers what it asked for complete: a read with as many bytes as it asked for, and a write with rcode 0.
pub record IsAnswered (access : Asked) (answer : Answer) : Type 0 where
  pub reads : access.is_write ≡ false → IsWhole answer access.count
  pub writes : access.is_write ≡ true → write_failure answer ≡ None

abbrev pub MainAnswered : List Disk → List Moment → WorldState → Type 0
MainAnswered start past w =
    (sent : Sent) (packet : Packet) (place : ℕ) (reply : IsMainReply w sent packet place) (serial : ℕ) (access : Asked) → (agent_at (over (target_at start past)) place).main ≡ Some serial → answered_at (terms past) reply.comes.serial ≡ Some serial → access_at (terms past) serial ≡ Some access → IsAnswered access (answer_in packet)

abbrev pub MainAnsweredThere : List Disk → List Moment → WorldState → Type 0
MainAnsweredThere start past w = IsTame past → AreLegal past → LosesNothing past → AreFewNow start (length w.initiators) past → MainAnswered start past w

-- Each write that an agent asks for behind the response finds a label: it fits a request.
abbrev pub FindingLaw : Type 0
FindingLaw = AlwaysFrom (WhereKept WritesFind)

-- ---- in every run with few logins
-- So no agent dies where few logins were given.
abbrev pub LivesFewLaw : Type 0
LivesFewLaw = AlwaysWhere FewLogins NoneDied
