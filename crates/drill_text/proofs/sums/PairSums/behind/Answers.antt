-- The sum behind more quadlets.
use Rattle.drill_text.proofs.Quads.{sum-goes-on}
use Rattle.drill_text.proofs.sums.PairSums.behind.Goals as goal

pub returns : goal.returns
returns c = λ quads h. sum-goes-on c.args.sum c.register_behind.result quads _ c.register_behind.ensures h
