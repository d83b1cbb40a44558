-- The laws of lists of a run, of the initiators that injected no packets: their ORBs run and end in their order and are answered as they ended, what ran and what ended was read as it
-- says, and brought by reads, commands run with what was read, and each answer that is taken was written so, has its length, and is the plain disk's; the statuses of a list
-- are taken in the order of its ORBs, and none is taken, and no ORB ends, behind one that is failed or illegal; where no line aborts an ORB, or makes one a dummy, none ends so; and a command runs on a unit that a `login` line asked for.
use Rattle.std.specs.Prelude.{◌≡◌, ◌<◌, ℕ, false, List}
use Rattle.rbc_disk.specs.Disk.{Disk}
use Rattle.sbp_journal.specs.Run.{Moment}
use Rattle.sbp_laws.specs.AnswerLaw.{AnswerLaw}
use Rattle.sbp_laws.specs.CarriedLaw.{CarriedLaw}
use Rattle.sbp_laws.specs.Lawful.{injectors}
use Rattle.sbp_laws.specs.OnLists.{LawfulOnLists}
use Rattle.sbp_laws.specs.Turns.{EachMoment}
use Rattle.sbp_world.specs.Lists.AnswerLengths.{LengthOf}
use Rattle.sbp_world.specs.Lists.Brought.{AreBrought}
use Rattle.sbp_world.specs.Lists.Faults.{EndsAtFault}
use Rattle.sbp_world.specs.Lists.LoginUnits.{RunsOnUnits}
use Rattle.sbp_world.specs.Lists.OwnLogins.{IsTame}
use Rattle.sbp_world.specs.Lists.PlainStatuses.{NoneAborted, NoneAborts, NoneDummied, NoneEndsDummy}
use Rattle.sbp_world.specs.Lists.TakenAlive.{TakesInTurn}

pub record HasListLaws (initiators : ℕ) (start : List Disk) (past : List Moment) : Type 0 where
  pub on_lists : LawfulOnLists (injectors past) start past
  pub brought : AreBrought (injectors past) start past
  pub carried : CarriedLaw (injectors past) start past
  pub answers : AnswerLaw (injectors past) start past
  pub lengths : (i : ℕ) → i < initiators → injectors past i ≡ false → EachMoment (LengthOf start i) past
  pub in_turn : (i : ℕ) → i < initiators → injectors past i ≡ false → TakesInTurn past i
  pub at_fault : (i : ℕ) → i < initiators → injectors past i ≡ false → EndsAtFault past i
  pub none_aborted : IsTame past → NoneAborts past → NoneAborted past
  pub none_dummy : (i : ℕ) → i < initiators → injectors past i ≡ false → NoneDummied past i → NoneEndsDummy past i
  pub units : RunsOnUnits initiators past
