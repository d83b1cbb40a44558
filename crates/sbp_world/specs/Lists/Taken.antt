-- By which ORB_POINTER a list is open at an agent, in every run (NCITS 325-1998, ORB_POINTER): whoever wrote it, the list of an agent that is not in RESET, be it DEAD, is that of the ORB which
-- ORB_POINTER named when it was last taken there, as ORBs were named then; so the laws read the list off the history.
use Rattle.std.specs.Prelude.{◌≡◌, ◌<◌, ◌≤◌, ℕ, false, List, ◌∷◌, ◌++◌, length, map, Option}
use Rattle.command_agent.specs.Machine.{state_in}
use Rattle.command_agent.specs.Steps.{is_reset}
use Rattle.rbc_disk.specs.Disk.{Disk}
use Rattle.rbc_disk.specs.Runs.{Told}
use Rattle.sbp_journal.specs.Run.{Moment, asked, said}
use Rattle.sbp_journal.specs.declared.event.Event.{Event}
use Rattle.sbp_laws.specs.Agents.{list_taken}
use Rattle.sbp_world.specs.Histories.{history_of}
use Rattle.sbp_world.specs.Runs.{Run, after, beginning}
use Rattle.sbp_world.specs.Settling.{MayAll, after_all}
use Rattle.sbp_world.specs.Telling.{holder}
use Rattle.sbp_world.specs.Worlds.{WorldState, begun}
use Rattle.sbp_world.specs.Agents.Management.Terms.{DeliversMore}
use Rattle.sbp_world.specs.Hosts.Runs.{IsRun}
use Rattle.sbp_world.specs.Lists.Needs.{machine_at}

abbrev pub AreTaken : List Disk → List Moment → WorldState → Type 0
AreTaken start past w = (place : ℕ) → place < 8 → is_reset (state_in (machine_at w place).phase) ≡ false → list_taken start past place ≡ (holder w place).list

-- After every line of every run of a machine with a unit, at most four, and a medium for each; and behind each delivery of a line that may follow.
pub record TakenListsLaw : Type 0 where
  pub after_lines : (line : ℕ) (run : Run) → IsRun run → 0 < run.units → run.units ≤ 4 → length run.start.disks ≡ run.units → AreTaken run.start.disks (history_of line run) (after (beginning run) run.entries).world
  pub between : (line : ℕ) (run : Run) → IsRun run → 0 < run.units → run.units ≤ 4 → length run.start.disks ≡ run.units → (next : ℕ) (event : Event) → DeliversMore event → (told : List (Option Told)) → MayAll told (begun (after (beginning run) run.entries)) → (let w = (after_all told (begun (after (beginning run) run.entries))).world in AreTaken run.start.disks (map said w.fresh ++ asked next event ∷ history_of line run) w)
