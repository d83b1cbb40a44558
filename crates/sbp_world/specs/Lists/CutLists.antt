-- Which lists are cut, in every run (NCITS 325-1998, AGENT_RESET, ABORT TASK SET, resets): a list that was cut had been open at an agent of the target, to
-- which a write of ORB_POINTER of its initiator had pointed, as the target got it, by the name of an ORB of this list.
use Rattle.std.specs.Prelude.{◌≡◌, ◌<◌, ◌≤◌, ℕ, true, List, ◌∷◌, ◌++◌, length, map, Option, Some}
use Rattle.rbc_disk.specs.Runs.{Told}
use Rattle.sbp_journal.specs.Run.{Moment, asked, said}
use Rattle.sbp_journal.specs.declared.event.Event.{Event}
use Rattle.sbp_laws.specs.OrderLaw.{is_cut}
use Rattle.sbp_world.specs.Histories.{history_of}
use Rattle.sbp_world.specs.Runs.{Run, after, beginning}
use Rattle.sbp_world.specs.Settling.{MayAll, after_all}
use Rattle.sbp_world.specs.Worlds.{begun}
use Rattle.sbp_world.specs.Agents.Management.Terms.{DeliversMore}
use Rattle.sbp_world.specs.Hosts.Runs.{IsRun}
use Rattle.sbp_world.specs.Lists.Opens.{WasOpened}

-- a place had a list
pub record WasHad (past : List Moment) (i n : ℕ) : Type 0 where
  pub place : ℕ
  pub opened : WasOpened past i place (Some n)

abbrev pub WereHad : List Moment → Type 0
WereHad past = (i n : ℕ) → is_cut past i n ≡ true → WasHad past i n

-- After every line of every run of a machine with a unit, at most four, and a medium for each; and behind each delivery of a line that may follow.
pub record CutListsLaw : Type 0 where
  pub after_lines : (line : ℕ) (run : Run) → IsRun run → 0 < run.units → run.units ≤ 4 → length run.start.disks ≡ run.units → WereHad (history_of line run)
  pub between : (line : ℕ) (run : Run) → IsRun run → 0 < run.units → run.units ≤ 4 → length run.start.disks ≡ run.units → (next : ℕ) (event : Event) → DeliversMore event → (told : List (Option Told)) → MayAll told (begun (after (beginning run) run.entries)) → WereHad (map said (after_all told (begun (after (beginning run) run.entries))).world.fresh ++ asked next event ∷ history_of line run)
