-- The order of the notes of each turn of every run, which is `ordered` of the action law: the effects stand in one order, and the packets behind them.
use Rattle.sbp_laws.specs.ActionLaw.{Ordered}
use Rattle.sbp_laws.specs.Turns.{EachTurn}
use Rattle.turn_laws.specs.Runs.{OfEveryRun}

abbrev pub OrderedLaw : Type 0
OrderedLaw = OfEveryRun (λ start past. EachTurn Ordered past)
