-- How a command that is due ends (NCITS 325-1998, command block ORB): by the ORB that was read, with the check that holds on the plain disk or, where none does, good or by a medium
-- call that failed.
use Rattle.sbp_laws.specs.CarriedLaw.{EndsAsRead}
use Rattle.sbp_laws.specs.Turns.{EachTurn}
use Rattle.turn_laws.specs.Runs.{OfEveryRun}

abbrev pub RunsEndLaw : Type 0
RunsEndLaw = OfEveryRun (λ start past. EachTurn (EndsAsRead start) past)
