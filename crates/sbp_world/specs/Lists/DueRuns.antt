-- Where commands run (NCITS 325-1998, command block agents; RBC), in every run, whoever injected packets: in each turn exactly where the agent of a place then has all that
-- it needs. The turn tells one run there, of the initiator and the unit of its login, with the name, the command and the data of its present ORB, and none elsewhere.
use Rattle.std.specs.Prelude.{◌≡◌, ◌<◌, ◌≤◌, ℕ, Bool, List, ◌∷◌, ◌++◌, length, map, Option}
use Rattle.rbc_disk.specs.Runs.{Told}
use Rattle.sbp_journal.specs.Run.{asked, said}
use Rattle.sbp_journal.specs.declared.event.Event.{Event}
use Rattle.sbp_laws.specs.CarriedLaw.{RunsWhereDue}
use Rattle.sbp_laws.specs.Turns.{EachTurn}
use Rattle.sbp_world.specs.Histories.{history_of}
use Rattle.sbp_world.specs.Runs.{Run, after, beginning}
use Rattle.sbp_world.specs.Settling.{MayAll, after_all}
use Rattle.sbp_world.specs.Worlds.{begun}
use Rattle.sbp_world.specs.Agents.Management.Terms.{DeliversMore}
use Rattle.sbp_world.specs.Hosts.Runs.{IsRun}

-- After every line of every run of a machine with a unit, at most four, and a medium for each; and behind each delivery of a line that may follow. It is the part of the
-- carried law that says in which delivery a command runs, for any set of initiators.
pub record DueRunsLaw : Type 0 where
  pub after_lines : (line : ℕ) (run : Run) → IsRun run → 0 < run.units → run.units ≤ 4 → length run.start.disks ≡ run.units → (wild : ℕ → Bool) → EachTurn (RunsWhereDue wild run.start.disks) (history_of line run)
  pub between : (line : ℕ) (run : Run) → IsRun run → 0 < run.units → run.units ≤ 4 → length run.start.disks ≡ run.units → (next : ℕ) (event : Event) → DeliversMore event → (told : List (Option Told)) → MayAll told (begun (after (beginning run) run.entries)) → (wild : ℕ → Bool) → EachTurn (RunsWhereDue wild run.start.disks) (map said (after_all told (begun (after (beginning run) run.entries))).world.fresh ++ asked next event ∷ history_of line run)
