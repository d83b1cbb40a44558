-- The terms of the target's management are its state, at each place of a history between two turns.
use Rattle.std.specs.Prelude.{◌≡◌, ◌≤◌, ◌<◌, ℕ, ◌+◌, ◌^◌, false, List, ◌∷◌, ◌++◌, map, length, Option, Some, None}
use Rattle.bus_transactions.specs.Wire.{transaction}
use Rattle.label_table.specs.Layer.{Layer}
use Rattle.mgmt_agent.specs.Machine.{source_in}
use Rattle.rbc_disk.specs.Disk.{Disk}
use Rattle.rbc_disk.specs.Runs.{Told}
use Rattle.sbp_journal.specs.Run.{Moment, asked, said}
use Rattle.sbp_journal.specs.declared.event.Event.{Event}
use Rattle.sbp_journal.specs.declared.event.Event.TheVariants as events
use Rattle.sbp_journal.specs.Transactions.{Kind, is_same_kind, locking}
use Rattle.sbp_journal.specs.Wire.{Terms, terms, waits}
use Rattle.sbp_laws.specs.Targets.{target_at}
use Rattle.sbp_target.specs.declared.purpose.Purpose.{Purpose}
use Rattle.sbp_target.specs.declared.purpose.Purpose.TheVariants as purposes
use Rattle.sbp_target.specs.Nodes.{NodeState}
use Rattle.sbp_world.specs.Histories.{history_of}
use Rattle.sbp_world.specs.Runs.{AreEntries, Run, after, beginning}
use Rattle.sbp_world.specs.Settling.{MayAll, after_all}
use Rattle.sbp_world.specs.Worlds.{begun}
use Rattle.sbp_target.specs.Histories.Transactions.{IsUnderWay}
use Rattle.sbp_world.specs.Wire.Lines.{AreLines}
use Rattle.sbp_world.specs.Agents.Management.Offices.{Agrees, office_of}

-- The operation of a node has one transaction under way, to that node: the terms have it by the serial of its request, which waits on the wire
-- under the same label. It is no lock.
pub record HasRequest (t : Terms) (layer : Layer Purpose) (source : ℕ) (manages : Option ℕ) : Type 0 where
  pub peer : ℕ
  pub number : ℕ
  pub kind : Kind
  pub serial : ℕ
  pub peer_is : t.ids (t.generation 0) peer ≡ source
  pub under_way : IsUnderWay layer (Some purposes.Management) source number
  pub waits_for : t.held (transaction (t.generation 0) 0 peer number) ≡ waits kind serial
  pub no_lock : is_same_kind kind locking ≡ false
  pub manages_is : manages ≡ Some serial

abbrev pub Awaits : Terms → Layer Purpose → Option ℕ → Option ℕ → Type 0
Awaits t layer None manages = manages ≡ None
Awaits t layer (Some source) manages = HasRequest t layer source manages

-- The table of logins, the keys, the operation and its request of the terms are those of the target.
pub record IsManagementAt (start : List Disk) (past : List Moment) (node : NodeState) : Type 0 where
  pub agrees : Agrees (office_of (target_at start past)) node
  pub awaits : Awaits (terms past) node.layer (source_in node.manager.operation) (target_at start past).manages

-- After every line of every run of a machine with a unit, at most four, and a medium for each.
abbrev pub TermsLaw : Type 0
TermsLaw =
    (line : ℕ) (run : Run) → run.initiators ≤ 4 → 0 < run.units → run.units ≤ 4 → length run.start.disks ≡ run.units → length run.entries + 2 < 2 ^ 32 → AreEntries (beginning run) run.entries → AreLines run run.entries → IsManagementAt run.start.disks (history_of line run) (after (beginning run) run.entries).world.target

-- a line that delivers one packet after the other
abbrev pub DeliversMore : Event → Type 0
DeliversMore (events.Step count) = Unit {0}
DeliversMore events.Settle = Unit {0}
DeliversMore event = ⊥

-- And behind each delivery of a line that may follow: the packets that were delivered in it so far told this, the latest one first.
abbrev pub BetweenLaw : Type 0
BetweenLaw =
    (line : ℕ) (run : Run) → run.initiators ≤ 4 → 0 < run.units → run.units ≤ 4 → length run.start.disks ≡ run.units → length run.entries + 2 < 2 ^ 32 → AreEntries (beginning run) run.entries → AreLines run run.entries → (next : ℕ) (event : Event) → DeliversMore event → (told : List (Option Told)) → MayAll told (begun (after (beginning run) run.entries)) → (let w = (after_all told (begun (after (beginning run) run.entries))).world in IsManagementAt run.start.disks (map said w.fresh ++ asked next event ∷ history_of line run) w.target)
