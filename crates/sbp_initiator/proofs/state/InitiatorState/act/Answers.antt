use Rattle.sbp_initiator.proofs.Refused.{counts_stay, refused_is}
use Rattle.sbp_initiator.proofs.state.InitiatorState.act.Goals as goal

pub returns-in-Some-clause-step : goal.returns-in-Some-clause-step
returns-in-Some-clause-step c = refused_is _ _ _ _ c.in-Some.ensures

pub returns-in-Some-clause-counts : goal.returns-in-Some-clause-counts
returns-in-Some-clause-counts c = counts_stay _
