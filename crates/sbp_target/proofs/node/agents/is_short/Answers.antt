use Rattle.std.proofs.Common.{ap, ◌∙◌}
use Rattle.target_base.specs.Logins.{is_below_reserve}
use Rattle.sbp_target.proofs.node.agents.is_short.Goals as goal

pub returns : goal.returns
returns c = c.is_below_reserve.ensures ∙ ap is_below_reserve c.free.ensures.value
