-- Over every run in which nobody injected packets the deliveries are bounded, and a `settle` settles.
use Rattle.std.specs.Prelude.{◌≡◌, ◌<◌, ◌≤◌, ℕ, length}
use Rattle.sbp_laws.specs.Completion.{CompletesByCount}
use Rattle.sbp_world.specs.Histories.{history_of}
use Rattle.sbp_world.specs.Hosts.Runs.{IsRun}
use Rattle.sbp_world.specs.Lists.OwnLogins.{IsTame}
use Rattle.sbp_world.specs.Runs.{Run}
use Rattle.sbp_world.specs.Wire.Journal.{journal_run}

-- Of at least one initiator, with one to four units and a medium for each.
abbrev pub CompletionLaw : Type 0
CompletionLaw = (line : ℕ) (run : Run) → IsRun run → 0 < run.initiators → 0 < run.units → run.units ≤ 4 → length run.start.disks ≡ run.units → IsTame (history_of line run) → CompletesByCount (journal_run line run).entries
