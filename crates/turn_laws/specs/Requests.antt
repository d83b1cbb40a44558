-- Which requests are sent, in each turn of every run: exactly those of the sent law, and no more.
use Rattle.sbp_laws.specs.SentRequests.{RequestsLaw}
use Rattle.sbp_laws.specs.Turns.{EachTurn}
use Rattle.turn_laws.specs.Runs.{OfEveryRun}

abbrev pub RequestsRunLaw : Type 0
RequestsRunLaw = OfEveryRun (λ start past. EachTurn (RequestsLaw start) past)
