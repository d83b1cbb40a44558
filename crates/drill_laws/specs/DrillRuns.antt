-- What a run over the generated script comes to (NCITS 325-1998, command block agents): each line appends, each ORB has its status, the run comes to rest and manages nothing; and what the blocks hold.
use Rattle.std.specs.Prelude.{◌≡◌, ◌≤◌, ◌<◌, ℕ, suc, false, List, ◌∷◌}
use Rattle.std.specs.List.{count_by}
use Rattle.bus_transactions.specs.Judging.{AreJudged}
use Rattle.bus_transactions.specs.Sent.{AreSent}
use Rattle.rbc_disk.specs.Disk.{Disk}
use Rattle.rbc_disk.specs.Units.{new_unit, plain_disk}
use Rattle.sbp_journal.specs.Run.{Moment, Run, history, notes_of}
use Rattle.sbp_laws.specs.ActionLaw.{ActionLaw}
use Rattle.sbp_laws.specs.Completion.{CompletesByCount, in_the_air}
use Rattle.sbp_laws.specs.DiskFold.{failed_runs}
use Rattle.sbp_laws.specs.Lawful.{Lawful, injectors}
use Rattle.sbp_laws.specs.SentPackets.{SentAt}
use Rattle.sbp_laws.specs.Turns.{EachMoment}
use Rattle.script_text.specs.Drill.{generated}
use Rattle.sbp_world.specs.Completing.Deaths.{AreLegal}
use Rattle.sbp_world.specs.Completing.Done.{AllRungComplete}
use Rattle.sbp_world.specs.Lists.LoginUnits.{RunsOnUnits}
use Rattle.sbp_world.specs.Lists.PlainStatuses.{NoneDummied, NoneEndsDummy}
use Rattle.drill_text.specs.Tally.{is_append, is_good, is_taken}
use Rattle.drill_laws.specs.DrillBlocks.{HasBytes}
use Rattle.drill_laws.specs.DrillCalm.{ManagesNothing}
use Rattle.drill_laws.specs.DrillDisk.{IsHealthy}
use Rattle.drill_laws.specs.DrillGood.{IsDeathlessAt}
use Rattle.drill_laws.specs.DrillLines.{is_refused}
use Rattle.drill_laws.specs.DrillQuiet.{IsQuiet}
use Rattle.drill_laws.specs.DrillRan.{RanThereAt, RunsWell}
use Rattle.drill_laws.specs.DrillRoom.{RestsWhereStill}
use Rattle.drill_laws.specs.DrillSettles.{AreSettled, events_said}
use Rattle.drill_laws.specs.DrillStuck.{KeepsAnswers}
use Rattle.drill_laws.specs.DrillWrites.{HoldsLines}

-- nobody injected packets
abbrev pub NobodyInjects : Run → Type 0
NobodyInjects run = (i : ℕ) → injectors (history run.entries) i ≡ false

-- An initiator that made no dummy ended none; and each command ran on a unit that one of the two is logged in to.
pub record KeepsUnits (past : List Moment) : Type 0 where
  pub none_dummy : (i : ℕ) → i < 2 → NoneDummied past i → NoneEndsDummy past i
  pub units : RunsOnUnits 2 past

-- a run that keeps the laws which hold whoever injects, and that is lawful and completes by a count where nobody does, and of which each rung ORB completes then, where its commands are legal
pub record KeepsLaws (run : Run) : Type 0 where
  pub action : ActionLaw run.start run.entries
  pub packets : EachMoment SentAt (history run.entries)
  pub judged : AreJudged (history run.entries)
  pub sent : AreSent (history run.entries)
  pub whole : NobodyInjects run → Lawful run
  pub completes : NobodyInjects run → CompletesByCount run.entries
  pub answers : KeepsAnswers run.start (history run.entries)
  pub rests : RestsWhereStill run.entries
  pub kept : NobodyInjects run → KeepsUnits (history run.entries)
  pub rung : NobodyInjects run → AreLegal (history run.entries) → AllRungComplete run.start run.entries

-- a first medium that is as the commands need it, where no medium call of them failed
pub record RunsOverGood (run : Run) : Type 0 where
  pub first : Disk
  pub others : List Disk
  pub is : run.start ≡ first ∷ others
  pub healthy : IsHealthy (plain_disk new_unit first)
  pub unfailed : failed_runs (history run.entries) 0 ≡ 0

-- Each line that appends was told, and none was refused; and each ORB has its status. Nothing was lost, each settle is `settled`, and at the end nothing is in flight; nothing was managed, no agent died, and the
-- commands are legal. Over a first medium that is as they need it, and where no medium call failed, each command ran there and well, each status is good, and each block holds what the last line that writes it brought.
pub record EndsDrill (count : ℕ) (run : Run) : Type 0 where
  pub appended : count_by is_append (notes_of run.entries) ≡ count
  pub refused : count_by is_refused (notes_of run.entries) ≡ 0
  pub taken : count_by is_taken (notes_of run.entries) ≡ count
  pub quiet : IsQuiet (history run.entries)
  pub settled : AreSettled run.entries
  pub still : in_the_air (history run.entries) ≡ 0
  pub calm : ManagesNothing (history run.entries)
  pub deathless : EachMoment IsDeathlessAt (history run.entries)
  pub legal : AreLegal (history run.entries)
  pub there : failed_runs (history run.entries) 0 ≡ 0 → EachMoment RanThereAt (history run.entries)
  pub well : RunsOverGood run → RunsWell run.start (history run.entries)
  pub good : RunsOverGood run → count_by is_good (notes_of run.entries) ≡ count
  pub blocks : (over : RunsOverGood run) (start : List ℕ) → HasBytes over.first start → HoldsLines run.start start run.entries

-- of 1 to 10,000 commands
pub record DrillsEnd : Type 0 where
  pub ends : (seed count : ℕ) (run : Run) → suc count ≤ 10000 → KeepsLaws run → events_said run.entries ≡ generated seed (suc count) → EndsDrill (suc count) run
