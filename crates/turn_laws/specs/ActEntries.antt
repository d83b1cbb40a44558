-- The action law of the journal of every run: each line brings all its notes, behind what stood before the line, and in each turn the effects stand in one order, and the packets behind them.
use Rattle.std.specs.Prelude.{◌≡◌, ◌<◌, ◌≤◌, ℕ, length}
use Rattle.sbp_laws.specs.ActionLaw.{ActionLaw}
use Rattle.sbp_world.specs.Hosts.Runs.{IsRun}
use Rattle.sbp_world.specs.Runs.{Run}
use Rattle.sbp_world.specs.Wire.Journal.{journal_run}

abbrev pub ActionRunLaw : Type 0
ActionRunLaw = (line : ℕ) (run : Run) → IsRun run → 0 < run.units → run.units ≤ 4 → length run.start.disks ≡ run.units → ActionLaw run.start.disks (journal_run line run).entries
