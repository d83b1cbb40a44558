-- The statuses of a list are taken in the order of its ORBs, without a gap, as the clauses of a world have it.
use Rattle.sbp_world.specs.Lists.TakenTurns.{AnsweredLaw, TakenTurnsLaw}
use Rattle.sbp_world.proofs.Lists.Clauses.{one_up}
use Rattle.sbp_world.proofs.Lists.OverRuns.{answered_law}
use Rattle.sbp_world.proofs.Lists.ShortLines.{short_law}
use Rattle.sbp_world.proofs.Lists.TakenTurns.{taken_turns_by}

pub answered : AnsweredLaw
answered = answered_law short_law one_up

pub taken_turns : TakenTurnsLaw
taken_turns = taken_turns_by answered
