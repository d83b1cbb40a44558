-- The row `ended` aborted (NCITS 325-1998, task management): a turn tells an end as aborted exactly where it brings the next response, whole, for an ORB of which an abort with 00 stands before and that has
-- neither run nor ended since, and that is of no format other than 0. It is `aborts` of the cause law.
use Rattle.sbp_laws.specs.Aborts.{AbortsStand}
use Rattle.sbp_laws.specs.Turns.{EachTurn}
use Rattle.turn_laws.specs.Runs.{OfEveryRun}

abbrev pub AbortsLaw : Type 0
AbortsLaw = OfEveryRun (λ start past. EachTurn (AbortsStand start) past)
