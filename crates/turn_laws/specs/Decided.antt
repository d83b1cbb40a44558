-- What a turn tells of a decision beside it, by the note of the decision itself (NCITS 325-1998, task management, logout and reconnect): with status 00 the open list of the login that it
-- names, of its unit or of all is cut, a unit or each unit is cleared, and the login comes back or leaves; with another nothing is. It is `decided` of the cause law.
use Rattle.sbp_laws.specs.Decided.{DecisionStands}
use Rattle.sbp_laws.specs.Turns.{EachTurn}
use Rattle.turn_laws.specs.Runs.{OfEveryRun}

abbrev pub DecidedLaw : Type 0
DecidedLaw = OfEveryRun (λ start past. EachTurn (DecisionStands start) past)
