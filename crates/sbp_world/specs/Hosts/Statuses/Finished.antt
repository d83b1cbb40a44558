-- Which statuses are taken in every finished history, whoever takes them (NCITS 325-1998, status block): in each turn exactly those that are due.
use Rattle.std.specs.Prelude.{◌≤◌, ℕ, Bool, List}
use Rattle.sbp_journal.specs.Run.{Moment, said}
use Rattle.sbp_journal.specs.declared.note.Note.TheVariants as notes
use Rattle.sbp_laws.specs.Lawful.{injectors}
use Rattle.sbp_laws.specs.StatusLaw.{TakesEach}
use Rattle.sbp_laws.specs.Terms.{takes}
use Rattle.sbp_laws.specs.Turns.{EachMoment, EachTurn}
use Rattle.sbp_world.specs.Histories.{history_of}
use Rattle.sbp_world.specs.Runs.{Run}
use Rattle.sbp_world.specs.Hosts.Runs.{IsRun}
use Rattle.sbp_world.specs.Hosts.Statuses.Taking.{IsTakenBy}

-- a status is taken as the initiator's part of the status law says
abbrev pub IsTakenHere : Moment → List Moment → Type 0
IsTakenHere (said (notes.Taken i n k status answer)) past = IsTakenBy past i n k status
IsTakenHere moment past = Unit {0}

-- A history takes statuses duly: in each turn those that are due, and of each ORB one at most.
pub record TakesStatuses (past : List Moment) : Type 0 where
  pub each : EachTurn (TakesEach (injectors past)) past
  pub taken : EachMoment IsTakenHere past
  pub once : (i n k : ℕ) → takes past i n k ≤ 1

pub record FinishedLaw : Type 0 where
  -- the second part of the status law, whichever initiators injected packets
  pub each : (line : ℕ) (run : Run) → IsRun run → (wild : ℕ → Bool) → EachTurn (TakesEach wild) (history_of line run)
  pub taken : (line : ℕ) (run : Run) → IsRun run → EachMoment IsTakenHere (history_of line run)

-- Of no ORB a status is taken twice.
pub record OnceTakenLaw : Type 0 where
  pub once : (line : ℕ) (run : Run) → IsRun run → (i n k : ℕ) → takes (history_of line run) i n k ≤ 1
