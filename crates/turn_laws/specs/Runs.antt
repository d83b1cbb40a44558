-- A statement on histories that holds of every run of the machine of up to four initiators with one to four units and a medium for each, whatever anybody injected: after
-- each line, and behind each delivery of a line that delivers one packet after the other. It may read what the media held at the start.
use Rattle.std.specs.Prelude.{◌≡◌, ◌<◌, ◌≤◌, ℕ, List, ◌∷◌, ◌++◌, length, map, Option}
use Rattle.rbc_disk.specs.Disk.{Disk}
use Rattle.rbc_disk.specs.Runs.{Told}
use Rattle.sbp_journal.specs.Run.{Moment, asked, said}
use Rattle.sbp_world.specs.Histories.{history_of}
use Rattle.sbp_world.specs.Hosts.Runs.{IsRun, more_deliveries}
use Rattle.sbp_world.specs.Runs.{Run, after, beginning}
use Rattle.sbp_world.specs.Settling.{MayAll, after_all}
use Rattle.sbp_world.specs.Worlds.{begun}

-- the deliveries of a line that follows told so, and were possible
abbrev pub history_between : (line : ℕ) (run : Run) → (next : ℕ) → Option ℕ → List (Option Told) → List Moment
history_between line run next most told =
    map said (after_all told (begun (after (beginning run) run.entries))).world.fresh ++ asked next (more_deliveries most) ∷ history_of line run

pub record OfEveryRun (P : List Disk → List Moment → Type 0) : Type 0 where
  pub after_lines : (line : ℕ) (run : Run) → IsRun run → 0 < run.units → run.units ≤ 4 → length run.start.disks ≡ run.units → P run.start.disks (history_of line run)
  pub between : (line : ℕ) (run : Run) → IsRun run → 0 < run.units → run.units ≤ 4 → length run.start.disks ≡ run.units → (next : ℕ) (most : Option ℕ) (told : List (Option Told)) → MayAll told (begun (after (beginning run) run.entries)) → P run.start.disks (history_between line run next most told)
