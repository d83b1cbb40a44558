use Rattle.sbp_initiator.proofs.Asked.{refused_clause}
use Rattle.sbp_initiator.proofs.state.InitiatorState.ask.Goals as goal

pub returns-clause-refused : goal.returns-clause-refused
returns-clause-refused c = refused_clause _ _ _ _ _ _ c.ask.ensures.step
