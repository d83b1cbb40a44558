-- An agent of the target is along the list of its initiator, at each place of a history between two turns (NCITS 325-1998, command block agents and linked
-- lists of ORBs): where it has a list open, of an initiator that injected no packets, its phase, its present ORB, its buffer, its data, its status
-- block and its read ahead are those of the ORB behind the ones that have ended, by the notes of the history.
use Rattle.std.specs.Prelude.{◌≡◌, ◌<◌, ◌≤◌, ℕ, true, List, ◌∷◌, ◌++◌, length, map, Option, Some}
use Rattle.command_agent.specs.Machine.{Machine}
use Rattle.agent_laws.specs.Along.Along.{Along, Progress}
use Rattle.rbc_disk.specs.Runs.{Told}
use Rattle.sbp_journal.specs.Run.{Moment, asked, said}
use Rattle.sbp_journal.specs.declared.event.Cmd.{Cmd}
use Rattle.sbp_journal.specs.declared.event.Event.{Event}
use Rattle.sbp_laws.specs.Lists.{command_at, linked, slot_at}
use Rattle.sbp_laws.specs.Terms.{ends}
use Rattle.sbp_world.specs.Histories.{history_of}
use Rattle.sbp_world.specs.Runs.{Run, after, beginning}
use Rattle.sbp_world.specs.Settling.{MayAll, after_all}
use Rattle.sbp_world.specs.Telling.{holder}
use Rattle.sbp_world.specs.Worlds.{WorldState, begun}
use Rattle.sbp_world.specs.Agents.Management.Terms.{DeliversMore}
use Rattle.sbp_world.specs.Hosts.Runs.{IsRun}
use Rattle.sbp_world.specs.Lists.Lists.{orbs_by}
use Rattle.sbp_world.specs.Lists.Needs.{IsCalm, OpenBefore, OpenBetween, initiator_in, is_open_at, machine_at}

-- It is along a list of which so many ORBs have ended.
pub record IsAlong (linked : ℕ) (slot : ℕ → ℕ) (command : ℕ → Option Cmd) (ended : ℕ) (m : Machine) : Type 0 where
  pub progress : Progress
  pub is : progress.ended ≡ ended
  pub along : Along (orbs_by linked slot command) progress m

-- that is list n of initiator i
abbrev pub GoesAlong : List Moment → (i n : ℕ) → Machine → Type 0
GoesAlong past i n m = IsAlong (linked past i n) (slot_at past i n) (command_at past i n) (ends past i n) m

pub record AreAlong (past : List Moment) (w : WorldState) : Type 0 where
  pub all : (place : ℕ) → place < 8 → is_open_at w place ≡ true → IsCalm past (initiator_in w place) → (n : ℕ) → (holder w place).list ≡ Some n → GoesAlong past (initiator_in w place) n (machine_at w place)

-- After every line of every run, and behind each delivery of a line that may follow, where lists were open as they should be before in this run.
pub record AlongLaw : Type 0 where
  pub after_lines : (line : ℕ) (run : Run) → IsRun run → 0 < run.units → run.units ≤ 4 → length run.start.disks ≡ run.units → OpenBefore line run run.entries → AreAlong (history_of line run) (after (beginning run) run.entries).world
  pub between : (line : ℕ) (run : Run) → IsRun run → 0 < run.units → run.units ≤ 4 → length run.start.disks ≡ run.units → (next : ℕ) (event : Event) → DeliversMore event → (told : List (Option Told)) → MayAll told (begun (after (beginning run) run.entries)) → OpenBetween line run next event told → (let w = (after_all told (begun (after (beginning run) run.entries))).world in AreAlong (map said w.fresh ++ asked next event ∷ history_of line run) w)
