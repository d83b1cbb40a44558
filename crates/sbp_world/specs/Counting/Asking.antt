-- At most one write of MANAGEMENT_AGENT of an initiator waits to be judged, at each place of a history between two turns (NCITS 325-1998, management agent): of the writes of the address of a
-- management ORB that an initiator sent in its present generation, and did not inject, the target has judged all but one. So it is of an initiator that injected no packets, where lists were open as they should be before, also
-- while its session is stuck.
use Rattle.std.specs.Prelude.{◌≡◌, ◌≤◌, ◌<◌, ℕ, List, ◌∷◌, ◌++◌, map, length, Option}
use Rattle.rbc_disk.specs.Runs.{Told}
use Rattle.sbp_journal.specs.Run.{Moment, asked, said}
use Rattle.sbp_world.specs.Histories.{history_of}
use Rattle.sbp_world.specs.Runs.{Run, after, beginning}
use Rattle.sbp_world.specs.Settling.{MayAll, after_all}
use Rattle.sbp_world.specs.Worlds.{begun}
use Rattle.sbp_world.specs.Hosts.Runs.{IsRun, more_deliveries}
use Rattle.sbp_world.specs.Lists.Managing.{IsAsking}
use Rattle.sbp_world.specs.Lists.Needs.{IsCalm, OpenBefore, OpenBetween}

abbrev pub AsksOnce : List Moment → (i : ℕ) → Type 0
AsksOnce past i = (serial other place at : ℕ) → IsAsking past i serial place → IsAsking past i other at → serial ≡ other

-- So it is of each initiator of a run that injected no packets.
abbrev pub AllAskOnce : Run → List Moment → Type 0
AllAskOnce run past = (i : ℕ) → i < run.initiators → IsCalm past i → AsksOnce past i

-- The history behind these deliveries of a line that follows a run, and delivers so many packets at most one after the other.
abbrev pub history_between : (line : ℕ) (run : Run) (next : ℕ) (most : Option ℕ) (told : List (Option Told)) → List Moment
history_between line run next most told = map said (after_all told (begun (after (beginning run) run.entries))).world.fresh ++ asked next (more_deliveries most) ∷ history_of line run

-- After every line of every run of a machine with a unit, at most four, and a medium for each, and lists were open as they should be before.
abbrev pub AskOnceAfterLines : Type 0
AskOnceAfterLines = (line : ℕ) (run : Run) → IsRun run → 0 < run.units → run.units ≤ 4 → length run.start.disks ≡ run.units → OpenBefore line run run.entries → AllAskOnce run (history_of line run)

-- And behind each delivery of a line that delivers one packet after the other.
abbrev pub AskOnceBetween : (line : ℕ) → Run → Type 0
AskOnceBetween line run = (next : ℕ) (most : Option ℕ) (told : List (Option Told)) → MayAll told (begun (after (beginning run) run.entries)) → OpenBetween line run next (more_deliveries most) told → AllAskOnce run (history_between line run next most told)

pub record AsksOnceLaw : Type 0 where
  pub after_lines : AskOnceAfterLines
  pub between : (line : ℕ) (run : Run) → IsRun run → 0 < run.units → run.units ≤ 4 → length run.start.disks ≡ run.units → AskOnceBetween line run
