-- What the requests of the target are for, at each place of a history between two turns (NCITS 325-1998, command block agents and management
-- agent): an agent's main transaction, its read ahead, the management operation's, an unsolicited status, or nothing any more.
use Rattle.std.specs.Prelude.{◌≡◌, ◌≤◌, ◌<◌, ◌⊎◌, ℕ, ◌+◌, ◌^◌, List, ◌∷◌, ◌++◌, map, length, Option, Some}
use Rattle.bus_transactions.specs.Wire.{transaction}
use Rattle.rbc_disk.specs.Disk.{Disk}
use Rattle.rbc_disk.specs.Runs.{Told}
use Rattle.sbp_bus.specs.Requests.{RequestsState, find}
use Rattle.sbp_bus.specs.Sending.{request_of}
use Rattle.sbp_journal.specs.Run.{Moment, asked, said}
use Rattle.sbp_journal.specs.Transactions.{Kind}
use Rattle.sbp_journal.specs.Wire.{Terms, terms, waits}
use Rattle.sbp_journal.specs.declared.event.Event.{Event}
use Rattle.sbp_laws.specs.Targets.{target_at}
use Rattle.sbp_target.specs.declared.purpose.Purpose.{Purpose}
use Rattle.sbp_target.specs.declared.purpose.Purpose.TheVariants as purposes
use Rattle.sbp_target.specs.declared.purpose.Sent.{Sent}
use Rattle.sbp_target.specs.Nodes.{NodeState, desk_at}
use Rattle.sbp_world.specs.Histories.{history_of}
use Rattle.sbp_world.specs.Runs.{AreEntries, Run, after, beginning}
use Rattle.sbp_world.specs.Settling.{MayAll, after_all}
use Rattle.sbp_world.specs.Wire.Lines.{AreLines}
use Rattle.sbp_world.specs.Worlds.{WorldState, begun}
use Rattle.sbp_target.specs.Histories.Transactions.{IsThat, IsUnderWay}
use Rattle.sbp_world.specs.Agents.Management.Terms.{DeliversMore}

-- A transaction that a desk keeps has one request, to the node that the desk names: it waits on the wire under the label that the desk has, and
-- the bus knows it by its serial.
pub record HasRequest (t : Terms) (requests : RequestsState) (sent : Sent) : Type 0 where
  pub peer : ℕ
  pub kind : Kind
  pub serial : ℕ
  pub peer_is : t.ids (t.generation 0) peer ≡ sent.peer
  pub waits_for : t.held (transaction (t.generation 0) 0 peer sent.label.number) ≡ waits kind serial
  pub found : find requests serial ≡ Some (request_of 0 sent.peer sent.label)

-- A request to a node under a label that waits on the wire is under way at the target for this, or for nobody: where it is for an agent, a desk keeps it
-- as its main transaction or its read ahead; where it is for the management operation, the terms have it as that.
pub record HasPurpose (t : Terms) (node : NodeState) (manages : Option ℕ) (peer number serial : ℕ) : Type 0 where
  pub purpose : Option Purpose
  pub under_way : IsUnderWay node.layer purpose (t.ids (t.generation 0) peer) number
  pub agent : (place : ℕ) → purpose ≡ Some (purposes.Agent place) → (place < 8) × (IsThat (desk_at node place).main (t.ids (t.generation 0) peer) number ⊎ IsThat (desk_at node place).ahead (t.ids (t.generation 0) peer) number)
  pub operation : purpose ≡ Some purposes.Management → manages ≡ Some serial

pub record ArePurposesAt (start : List Disk) (past : List Moment) (w : WorldState) : Type 0 where
  pub main : (place : ℕ) → place < 8 → (sent : Sent) → (desk_at w.target place).main ≡ Some sent → HasRequest (terms past) w.requests sent
  pub ahead : (place : ℕ) → place < 8 → (sent : Sent) → (desk_at w.target place).ahead ≡ Some sent → HasRequest (terms past) w.requests sent
  pub all : (peer number : ℕ) (kind : Kind) (serial : ℕ) → (let t = terms past in t.held (transaction (t.generation 0) 0 peer number) ≡ waits kind serial → HasPurpose t w.target (target_at start past).manages peer number serial)

-- After every line of every run of a machine with a unit, at most four, and a medium for each.
abbrev pub PurposesLaw : Type 0
PurposesLaw =
    (line : ℕ) (run : Run) → run.initiators ≤ 4 → 0 < run.units → run.units ≤ 4 → length run.start.disks ≡ run.units → length run.entries + 2 < 2 ^ 32 → AreEntries (beginning run) run.entries → AreLines run run.entries → ArePurposesAt run.start.disks (history_of line run) (after (beginning run) run.entries).world

-- And behind each delivery of a line that may follow: the packets that were delivered in it so far told this, the latest one first.
abbrev pub BetweenLaw : Type 0
BetweenLaw =
    (line : ℕ) (run : Run) → run.initiators ≤ 4 → 0 < run.units → run.units ≤ 4 → length run.start.disks ≡ run.units → length run.entries + 2 < 2 ^ 32 → AreEntries (beginning run) run.entries → AreLines run run.entries → (next : ℕ) (event : Event) → DeliversMore event → (told : List (Option Told)) → MayAll told (begun (after (beginning run) run.entries)) → (let w = (after_all told (begun (after (beginning run) run.entries))).world in ArePurposesAt run.start.disks (map said w.fresh ++ asked next event ∷ history_of line run) w)
