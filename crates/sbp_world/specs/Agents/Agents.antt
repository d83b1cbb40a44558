-- The agents of the terms are the target's, at each place of a history between two turns (NCITS 325-1998, command block agents): each has the machine of its
-- desk, but for what its phase reads no more, its pointer, and its transactions by the serials of their requests. So what a serial is for, by the terms, is
-- what its transaction is under way for at the target.
use Rattle.std.specs.Prelude.{◌≡◌, ◌≤◌, ◌<◌, ℕ, ◌+◌, ◌^◌, List, ◌∷◌, ◌++◌, map, length, Option}
use Rattle.bus_transactions.specs.Wire.{transaction}
use Rattle.rbc_disk.specs.Disk.{Disk}
use Rattle.rbc_disk.specs.Runs.{Told}
use Rattle.sbp_journal.specs.Run.{Moment, asked, said}
use Rattle.sbp_journal.specs.Transactions.{Kind}
use Rattle.sbp_journal.specs.Wire.{terms, waits}
use Rattle.sbp_journal.specs.declared.event.Event.{Event}
use Rattle.sbp_laws.specs.Targets.{over, target_at}
use Rattle.sbp_target.specs.declared.purpose.Purpose.{Purpose}
use Rattle.sbp_world.specs.Histories.{history_of}
use Rattle.sbp_world.specs.Runs.{AreEntries, Run, after, beginning}
use Rattle.sbp_world.specs.Settling.{MayAll, after_all}
use Rattle.sbp_world.specs.Wire.Lines.{AreLines}
use Rattle.sbp_world.specs.Worlds.{WorldState, begun}
use Rattle.sbp_target.specs.Histories.Transactions.{IsUnderWay}
use Rattle.sbp_world.specs.Agents.Management.Terms.{DeliversMore}
use Rattle.sbp_world.specs.Agents.Calls.{AreOf}
use Rattle.sbp_world.specs.Agents.Crews.{Request}
use Rattle.sbp_world.specs.Agents.Serials.{AreKnown, IsHanded}

-- once the turn is over: the agents are those of a target that has sent these requests, and the bus knows them
pub record AreAgentsAt (start : List Disk) (past : List Moment) (w : WorldState) : Type 0 where
  pub requests : List Request
  pub are : AreOf requests (over (target_at start past)).agents w.target
  pub known : AreKnown requests w.target w.requests

-- a request that waits, and what its transaction is under way for
pub record ArePurposedAt (start : List Disk) (past : List Moment) (w : WorldState) : Type 0 where
  pub all : (peer number : ℕ) (kind : Kind) (serial : ℕ) (purpose : Option Purpose) → (let t = terms past in t.held (transaction (t.generation 0) 0 peer number) ≡ waits kind serial → IsUnderWay w.target.layer purpose (t.ids (t.generation 0) peer) number → IsHanded (over (target_at start past)) w.target purpose (t.ids (t.generation 0) peer) number serial)

-- After every line of every run of a machine with a unit, at most four, and a medium for each.
abbrev pub AgentsRunLaw : Type 0
AgentsRunLaw =
    (line : ℕ) (run : Run) → run.initiators ≤ 4 → 0 < run.units → run.units ≤ 4 → length run.start.disks ≡ run.units → length run.entries + 2 < 2 ^ 32 → AreEntries (beginning run) run.entries → AreLines run run.entries → AreAgentsAt run.start.disks (history_of line run) (after (beginning run) run.entries).world

abbrev pub SerialsLaw : Type 0
SerialsLaw =
    (line : ℕ) (run : Run) → run.initiators ≤ 4 → 0 < run.units → run.units ≤ 4 → length run.start.disks ≡ run.units → length run.entries + 2 < 2 ^ 32 → AreEntries (beginning run) run.entries → AreLines run run.entries → ArePurposedAt run.start.disks (history_of line run) (after (beginning run) run.entries).world

-- And behind each delivery of a line that may follow: the packets that were delivered in it so far told this, the latest one first.
abbrev pub AgentsBetweenLaw : Type 0
AgentsBetweenLaw =
    (line : ℕ) (run : Run) → run.initiators ≤ 4 → 0 < run.units → run.units ≤ 4 → length run.start.disks ≡ run.units → length run.entries + 2 < 2 ^ 32 → AreEntries (beginning run) run.entries → AreLines run run.entries → (next : ℕ) (event : Event) → DeliversMore event → (told : List (Option Told)) → MayAll told (begun (after (beginning run) run.entries)) → (let w = (after_all told (begun (after (beginning run) run.entries))).world in AreAgentsAt run.start.disks (map said w.fresh ++ asked next event ∷ history_of line run) w)

abbrev pub SerialsBetweenLaw : Type 0
SerialsBetweenLaw =
    (line : ℕ) (run : Run) → run.initiators ≤ 4 → 0 < run.units → run.units ≤ 4 → length run.start.disks ≡ run.units → length run.entries + 2 < 2 ^ 32 → AreEntries (beginning run) run.entries → AreLines run run.entries → (next : ℕ) (event : Event) → DeliversMore event → (told : List (Option Told)) → MayAll told (begun (after (beginning run) run.entries)) → (let w = (after_all told (begun (after (beginning run) run.entries))).world in ArePurposedAt run.start.disks (map said w.fresh ++ asked next event ∷ history_of line run) w)
