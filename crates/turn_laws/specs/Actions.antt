-- What an action of an initiator brings, in each turn that begins with its line: the refusal with the least number of the rows that hold, and nothing else, or its notes, and behind them what it sends.
use Rattle.sbp_journal.specs.Run.{Moment, asked}
use Rattle.sbp_journal.specs.declared.event.Event.TheVariants as events
use Rattle.sbp_laws.specs.ActionLaw.{ActsOr}
use Rattle.sbp_laws.specs.Actions.{refusal_at}
use Rattle.sbp_laws.specs.Turns.{EachTurn, Turn}
use Rattle.turn_laws.specs.Runs.{OfEveryRun}

abbrev pub ActsIn : Moment → Turn → Type 0
ActsIn (asked line (events.Act i action)) t = ActsOr (refusal_at t.past i action) t.past line i action t.rest
ActsIn moment t = Unit {0}

abbrev pub ActsByRows : Turn → Type 0
ActsByRows t = ActsIn t.start t

abbrev pub ActionsLaw : Type 0
ActionsLaw = OfEveryRun (λ start past. EachTurn ActsByRows past)
