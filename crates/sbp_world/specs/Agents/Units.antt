-- The units of the terms are the target's, with what their media hold (RBC, unit attention and the removable medium; NCITS 325-1998, task management
-- functions): whether each is started, whether its removal is prevented, and which places are to be told of a reset or of a changed medium.
use Rattle.std.specs.Prelude.{◌≡◌, ◌≤◌, ◌<◌, ℕ, ◌+◌, ◌^◌, List, ◌∷◌, ◌++◌, map, length, Option}
use Rattle.rbc_disk.specs.Disk.{Disk}
use Rattle.rbc_disk.specs.Runs.{Told}
use Rattle.sbp_journal.specs.Run.{Moment, asked, said}
use Rattle.sbp_journal.specs.declared.event.Event.{Event}
use Rattle.sbp_laws.specs.DiskFold.{unit_at}
use Rattle.sbp_laws.specs.Targets.{target_at}
use Rattle.sbp_target.specs.Nodes.{NodeState}
use Rattle.sbp_target.specs.Replies.{plain_in}
use Rattle.sbp_world.specs.Histories.{history_of}
use Rattle.sbp_world.specs.Runs.{AreEntries, Run, after, beginning}
use Rattle.sbp_world.specs.Settling.{MayAll, after_all}
use Rattle.sbp_world.specs.Wire.Lines.{AreLines}
use Rattle.sbp_world.specs.Worlds.{begun}
use Rattle.sbp_world.specs.Agents.Management.Terms.{DeliversMore}

-- as many, and each with its medium
pub record AreUnitsAt (start : List Disk) (past : List Moment) (node : NodeState) (disks : List Disk) : Type 0 where
  pub count : length (target_at start past).units ≡ length node.units
  pub each : (unit : ℕ) → unit_at (target_at start past).units unit ≡ plain_in node.units disks unit

-- After every line of every run of a machine with a unit, at most four, and a medium for each.
abbrev pub UnitsLaw : Type 0
UnitsLaw =
    (line : ℕ) (run : Run) → run.initiators ≤ 4 → 0 < run.units → run.units ≤ 4 → length run.start.disks ≡ run.units → length run.entries + 2 < 2 ^ 32 → AreEntries (beginning run) run.entries → AreLines run run.entries → (let s = after (beginning run) run.entries in AreUnitsAt run.start.disks (history_of line run) s.world.target s.media.disks)

-- And behind each delivery of a line that may follow: the packets that were delivered in it so far told this, the latest one first.
abbrev pub UnitsBetweenLaw : Type 0
UnitsBetweenLaw =
    (line : ℕ) (run : Run) → run.initiators ≤ 4 → 0 < run.units → run.units ≤ 4 → length run.start.disks ≡ run.units → length run.entries + 2 < 2 ^ 32 → AreEntries (beginning run) run.entries → AreLines run run.entries → (next : ℕ) (event : Event) → DeliversMore event → (told : List (Option Told)) → MayAll told (begun (after (beginning run) run.entries)) → (let s = after_all told (begun (after (beginning run) run.entries)) in AreUnitsAt run.start.disks (map said s.world.fresh ++ asked next event ∷ history_of line run) s.world.target s.media.disks)
