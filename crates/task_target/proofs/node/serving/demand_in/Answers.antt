use Rattle.std.proofs.Common.{subst, sym}
use Rattle.async_packet.specs.Packet.{view}
use Rattle.sbp_target.specs.Giving.{Suits}
use Rattle.sbp_target.proofs.Giving.{demand_suits}
use Rattle.task_target.proofs.node.serving.demand_in.Goals as goal

pub returns-clause-suits : goal.returns-clause-suits
returns-clause-suits c = subst (λ d. Suits (view c.args.request.now) d) (sym c.demand_of.ensures.demand) (demand_suits c.args.size (view c.args.request.now))
