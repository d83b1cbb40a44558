-- Which lists have ends, in a run in which lists were open as they should be before (NCITS 325-1998, ORB_POINTER and status block): a list of an initiator that
-- injected no packets, of which an ORB has ended, had been open at an agent of the target, to which a write of ORB_POINTER of this initiator had pointed, as the
-- target got it, by the name of an ORB of the list.
use Rattle.std.specs.Prelude.{◌≡◌, ◌<◌, ◌≤◌, ℕ, List, ◌∷◌, ◌++◌, length, map, Option}
use Rattle.rbc_disk.specs.Runs.{Told}
use Rattle.sbp_journal.specs.Run.{Moment, asked, said}
use Rattle.sbp_journal.specs.declared.event.Event.{Event}
use Rattle.sbp_laws.specs.Terms.{ends}
use Rattle.sbp_world.specs.Histories.{history_of}
use Rattle.sbp_world.specs.Runs.{Run, after, beginning}
use Rattle.sbp_world.specs.Settling.{MayAll, after_all}
use Rattle.sbp_world.specs.Worlds.{begun}
use Rattle.sbp_world.specs.Agents.Management.Terms.{DeliversMore}
use Rattle.sbp_world.specs.Hosts.Runs.{IsRun}
use Rattle.sbp_world.specs.Lists.CutLists.{WasHad}
use Rattle.sbp_world.specs.Lists.Needs.{IsCalm, OpenBefore, OpenBetween}

abbrev pub AreEnded : List Moment → Type 0
AreEnded past = (i n : ℕ) → IsCalm past i → 0 < ends past i n → WasHad past i n

-- After every line of every run, and behind each delivery of a line that may follow, where lists were open as they should be before in this run.
pub record EndedListsLaw : Type 0 where
  pub after_lines : (line : ℕ) (run : Run) → IsRun run → 0 < run.units → run.units ≤ 4 → length run.start.disks ≡ run.units → OpenBefore line run run.entries → AreEnded (history_of line run)
  pub between : (line : ℕ) (run : Run) → IsRun run → 0 < run.units → run.units ≤ 4 → length run.start.disks ≡ run.units → (next : ℕ) (event : Event) → DeliversMore event → (told : List (Option Told)) → MayAll told (begun (after (beginning run) run.entries)) → OpenBetween line run next event told → AreEnded (map said (after_all told (begun (after (beginning run) run.entries))).world.fresh ++ asked next event ∷ history_of line run)
