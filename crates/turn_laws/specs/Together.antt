-- What is proved of the turns of every run, together: the judgement law, the login law, the sent law, of the cause and media laws what stands in each turn, and how commands end.
use Rattle.std.specs.Prelude.{List}
use Rattle.rbc_disk.specs.Disk.{Disk}
use Rattle.sbp_journal.specs.Run.{Moment}
use Rattle.sbp_laws.specs.Aborts.{AbortsStand}
use Rattle.sbp_laws.specs.CarriedLaw.{EndsAsRead}
use Rattle.sbp_laws.specs.Decided.{DecisionStands}
use Rattle.sbp_laws.specs.JudgementLaw.{JudgementLaw}
use Rattle.sbp_laws.specs.LoginLaw.{LoginLaw}
use Rattle.sbp_laws.specs.SentLaw.{SentLaw}
use Rattle.sbp_laws.specs.Turns.{EachTurn}
use Rattle.turn_laws.specs.Aborted.{AbortsAsNamed}
use Rattle.turn_laws.specs.Cleared.{ClearsWhereDue}
use Rattle.turn_laws.specs.Codes.{EndsWithCodes}
use Rattle.turn_laws.specs.Cuts.{CutsWhereDue}
use Rattle.turn_laws.specs.Deaths.{DiesByRows}
use Rattle.turn_laws.specs.Failing.{FailsByRows}
use Rattle.turn_laws.specs.Failures.{FailsWhereDue}
use Rattle.turn_laws.specs.Ends.{EndsWhereDue}
use Rattle.turn_laws.specs.Faults.{DiesBeforeFaults}
use Rattle.turn_laws.specs.Once.{DiesOnce}
use Rattle.turn_laws.specs.PushSent.{TellsTheCalm}
use Rattle.turn_laws.specs.PushTold.{TellsPushes}
use Rattle.turn_laws.specs.Operations.{OperationsHold}
use Rattle.turn_laws.specs.Pushes.{PushesWhereDue}
use Rattle.turn_laws.specs.Runs.{OfEveryRun}
use Rattle.turn_laws.specs.Silent.{EndsHeard}
use Rattle.turn_laws.specs.Told.{TellsByRow}
use Rattle.turn_laws.specs.Unserved.{UnservedWhereTold}

pub record LawfulInTurns (start : List Disk) (past : List Moment) : Type 0 where
  pub judgement : JudgementLaw start past
  pub login : LoginLaw start past
  pub sent : SentLaw start past
  pub cuts : EachTurn (CutsWhereDue start) past
  pub cleared : EachTurn (ClearsWhereDue start) past
  pub ends : EachTurn (EndsWhereDue start) past
  pub once : EachTurn (DiesOnce start) past
  pub deaths : EachTurn (DiesByRows start) past
  pub codes : EachTurn (EndsWithCodes start) past
  pub aborts : EachTurn (AbortsStand start) past
  pub aborted : AbortsAsNamed start past
  pub silent : EachTurn (EndsHeard start) past
  pub unserved : EachTurn (UnservedWhereTold start) past
  pub faults : EachTurn DiesBeforeFaults past
  pub decided : EachTurn (DecisionStands start) past
  pub failures : EachTurn (FailsWhereDue start) past
  pub failing : EachTurn (FailsByRows start) past
  pub runs_end : EachTurn (EndsAsRead start) past
  pub pushes : EachTurn (PushesWhereDue start) past
  pub told : EachTurn (TellsByRow start) past
  pub pushes_told : EachTurn (TellsPushes start) past
  pub told_sent : EachTurn (TellsTheCalm start) past
  pub operations : EachTurn OperationsHold past

abbrev pub TurnsLaw : Type 0
TurnsLaw = OfEveryRun LawfulInTurns
