-- What a serial is for, by the terms (NCITS 325-1998, command block agents and management agent): where the agents of the terms are the target's, a
-- response to a request that waits, and its time-out, are handed to the agent or to the operation that the target hands them to, or to nobody.
use Rattle.std.specs.Prelude.{◌≡◌, ◌≤◌, ◌<◌, ℕ, ◌+◌, ◌^◌, List, ◌∷◌, ◌++◌, map, length, Option, Some, None}
use Rattle.bus_transactions.specs.Wire.{transaction}
use Rattle.command_agent.specs.declared.step.Which.{Which}
use Rattle.command_agent.specs.declared.step.Which.TheVariants.{Ahead, Main}
use Rattle.label_table.specs.declared.place.LabelState.TheVariants as states
use Rattle.label_table.specs.declared.reply.ReplyKind.{ReplyKind}
use Rattle.label_table.specs.Peers.{state_for}
use Rattle.rbc_disk.specs.Disk.{Disk}
use Rattle.rbc_disk.specs.Runs.{Told}
use Rattle.sbp_bus.specs.Requests.{RequestsState, find}
use Rattle.sbp_bus.specs.Sending.{request_of}
use Rattle.sbp_journal.specs.Run.{Moment, asked, said}
use Rattle.sbp_journal.specs.Transactions.{Kind}
use Rattle.sbp_journal.specs.Wire.{terms, waits}
use Rattle.sbp_journal.specs.declared.event.Event.{Event}
use Rattle.sbp_laws.specs.Targets.{Target, for_agent, for_manager, for_nobody, over, purpose_of, target_at}
use Rattle.sbp_target.specs.declared.desk.Desk.{Desk}
use Rattle.sbp_target.specs.declared.purpose.Purpose.{Purpose}
use Rattle.sbp_target.specs.declared.purpose.Purpose.TheVariants as purposes
use Rattle.sbp_target.specs.declared.purpose.Sent.{Sent}
use Rattle.sbp_target.specs.Nodes.{NodeState, desk_at}
use Rattle.sbp_world.specs.Histories.{history_of}
use Rattle.sbp_world.specs.Runs.{AreEntries, Run, after, beginning}
use Rattle.sbp_world.specs.Settling.{MayAll, after_all}
use Rattle.sbp_world.specs.Wire.Lines.{AreLines}
use Rattle.sbp_world.specs.Worlds.{WorldState, begun}
use Rattle.sbp_target.specs.Histories.Transactions.{IsThat, IsUnderWay}
use Rattle.sbp_world.specs.Agents.Management.Terms.{DeliversMore}
use Rattle.sbp_world.specs.Agents.Calls.{AreOf}
use Rattle.sbp_world.specs.Agents.Crews.{Has, Request}

-- Of the requests that the target has sent the bus knows each by its serial, as long as it is under way under its label.
pub record AreKnown (requests : List Request) (node : NodeState) (bus : RequestsState) : Type 0 where
  pub known : (r : Request) → Has requests r → (kind : ReplyKind) → r.label.generation ≡ node.layer.generation → state_for node.layer.peers r.to r.label.number ≡ states.UnderWay kind r.label.serial → find bus r.serial ≡ Some (request_of 0 r.to r.label)

-- which of a desk's transactions
abbrev pub kept_as : Which → Desk → Option Sent
kept_as Main desk = desk.main
kept_as Ahead desk = desk.ahead

pub record IsForAgent (target : Target) (node : NodeState) (place peer number serial : ℕ) : Type 0 where
  pub which : Which
  pub is : purpose_of target serial ≡ for_agent place which
  pub kept : IsThat (kept_as which (desk_at node place)) peer number

-- a serial whose transaction is under way for this at the target
pub record IsHanded (target : Target) (node : NodeState) (purpose : Option Purpose) (peer number serial : ℕ) : Type 0 where
  pub agent : (place : ℕ) → purpose ≡ Some (purposes.Agent place) → IsForAgent target node place peer number serial
  pub operation : purpose ≡ Some purposes.Management → purpose_of target serial ≡ for_manager
  pub unsolicited : purpose ≡ Some purposes.Unsolicited → purpose_of target serial ≡ for_nobody
  pub nobody : purpose ≡ None → purpose_of target serial ≡ for_nobody

pub record AreHandedAt (start : List Disk) (past : List Moment) (w : WorldState) : Type 0 where
  pub all : (requests : List Request) (peer number : ℕ) (kind : Kind) (serial : ℕ) (purpose : Option Purpose) → (let t = terms past in let target = over (target_at start past) in AreOf requests target.agents w.target → AreKnown requests w.target w.requests → t.held (transaction (t.generation 0) 0 peer number) ≡ waits kind serial → IsUnderWay w.target.layer purpose (t.ids (t.generation 0) peer) number → IsHanded target w.target purpose (t.ids (t.generation 0) peer) number serial)

-- After every line of every run of a machine with a unit, at most four, and a medium for each.
abbrev pub HandedLaw : Type 0
HandedLaw =
    (line : ℕ) (run : Run) → run.initiators ≤ 4 → 0 < run.units → run.units ≤ 4 → length run.start.disks ≡ run.units → length run.entries + 2 < 2 ^ 32 → AreEntries (beginning run) run.entries → AreLines run run.entries → AreHandedAt run.start.disks (history_of line run) (after (beginning run) run.entries).world

-- And behind each delivery of a line that may follow: the packets that were delivered in it so far told this, the latest one first.
abbrev pub HandedBetweenLaw : Type 0
HandedBetweenLaw =
    (line : ℕ) (run : Run) → run.initiators ≤ 4 → 0 < run.units → run.units ≤ 4 → length run.start.disks ≡ run.units → length run.entries + 2 < 2 ^ 32 → AreEntries (beginning run) run.entries → AreLines run run.entries → (next : ℕ) (event : Event) → DeliversMore event → (told : List (Option Told)) → MayAll told (begun (after (beginning run) run.entries)) → (let w = (after_all told (begun (after (beginning run) run.entries))).world in AreHandedAt run.start.disks (map said w.fresh ++ asked next event ∷ history_of line run) w)
