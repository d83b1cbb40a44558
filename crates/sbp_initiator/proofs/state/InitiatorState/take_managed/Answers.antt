use Rattle.std.proofs.Common.{sym, ◌∙◌}
use Rattle.sbp_initiator.proofs.Answered.{counts_answered, counts_kept, managed_told}
use Rattle.sbp_initiator.proofs.state.InitiatorState.take_managed.Goals as goal

pub returns-in_err-managed-clause-counts : goal.returns-in_err-managed-clause-counts
returns-in_err-managed-clause-counts c = counts_kept _ _ _ c.call.ensures c.managed.ensures.keeps

pub returns-clause-counts : goal.returns-clause-counts
returns-clause-counts c =
    counts_answered _ _ _ _ c.call.ensures c.managed.ensures.keeps c.complete.ensures.counts c.complete.ensures.lists c.complete.ensures.labels

pub returns-clause-step : goal.returns-clause-step
returns-clause-step c =
    managed_told _ _ _ _ _ _ _ _ _ _ _ _ _ (sym c.present_for.ensures ∙ c.in-Some.is) c.call.ensures c.in_ok-managed.ensures.step c.complete.ensures.step
