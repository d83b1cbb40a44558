-- The laws of every run of the machine. Where no initiator injected a packet the run is lawful, whole and of everybody, and of one initiator at least it completes by a count; and where few logins were given
-- and the commands are legal, each rung ORB completes, behind each line. Whatever anybody injected, its parts hold as they stand here: the once law and
-- the laws of lists of those that injected none, all others of everybody, but for what LawfulInTurns leaves out of those that did.
use Rattle.std.specs.Prelude.{◌≡◌, ◌<◌, ◌≤◌, ℕ, length}
use Rattle.std.specs.List.{AllByRecursion}
use Rattle.sbp_laws.specs.ActionLaw.{ActionLaw}
use Rattle.sbp_laws.specs.Completion.{CompletesByCount}
use Rattle.sbp_laws.specs.Lawful.{FormAt, Lawful, injectors}
use Rattle.sbp_laws.specs.OnceLaw.{OnceLaw}
use Rattle.sbp_laws.specs.Turns.{EachMoment}
use Rattle.sbp_world.specs.Completing.Deaths.{AreLegal}
use Rattle.sbp_world.specs.Completing.Done.{AllRungComplete}
use Rattle.sbp_world.specs.Forms.{AreTyped}
use Rattle.sbp_world.specs.Histories.{history_of}
use Rattle.sbp_world.specs.Hosts.Runs.{IsRun}
use Rattle.sbp_world.specs.Hosts.Statuses.Finished.{TakesStatuses}
use Rattle.sbp_world.specs.Lists.FewLogins.{FewLogins, IsTameOrFew}
use Rattle.sbp_world.specs.Lists.ListLaws.{HasListLaws}
use Rattle.sbp_world.specs.Lists.OwnLogins.{IsTame}
use Rattle.sbp_world.specs.Runs.{Run}
use Rattle.sbp_world.specs.Wire.History.{IsOfWire}
use Rattle.sbp_world.specs.Wire.Journal.{journal_run}
use Rattle.turn_laws.specs.Together.{LawfulInTurns}

pub record IsLawfulRun (line : ℕ) (run : Run) : Type 0 where
  pub whole : IsTame (history_of line run) → Lawful (journal_run line run)
  pub of_wire : IsOfWire (history_of line run)
  pub form : EachMoment FormAt (history_of line run)
  pub once : OnceLaw (injectors (history_of line run)) (history_of line run)
  pub lists : HasListLaws run.initiators run.start.disks (history_of line run)
  pub statuses : TakesStatuses (history_of line run)
  pub in_turns : LawfulInTurns run.start.disks (history_of line run)
  pub action : ActionLaw run.start.disks (journal_run line run).entries
  pub completes : 0 < run.initiators → IsTame (history_of line run) → CompletesByCount (journal_run line run).entries
  pub rung : IsTame (history_of line run) → FewLogins (history_of line run) → AreLegal (history_of line run) → AllRungComplete run.start.disks (journal_run line run).entries

-- Of every run of up to four initiators with one to four units and a medium for each, whose notes are inside their types as each line's are, and in which nobody injected or few logins were given.
pub record LawfulRunsLaw : Type 0 where
  pub lawful : (line : ℕ) (run : Run) → IsRun run → 0 < run.units → run.units ≤ 4 → length run.start.disks ≡ run.units → AllByRecursion AreTyped run.entries → IsTameOrFew (history_of line run) → IsLawfulRun line run
