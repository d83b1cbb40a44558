-- A quadlet is two pairs.
use Rattle.std.proofs.Common.{◌∙◌, ◌+◌, ◌*◌, ◌<◌, ◌^◌, get_or, arith}
use Rattle.drill_text.proofs.Pairs.{quad-steps}
use Rattle.drill_text.proofs.sums.PairSums.behind_quad.Goals as goal

pub returns : goal.returns
returns c =
    let quad = c.args.quad in
    let fits : get_or quad 2 0 * 256 + get_or quad 3 0 < 2 ^ 16 = omega (arith, c.element_fits3, c.element_fits4) in
    c.behind_pair.ensures ∙ quad-steps c.args.sum c.behind_pair-half.result (get_or quad 0 0 * 256 + get_or quad 1 0) (get_or quad 2 0 * 256 + get_or quad 3 0) fits c.behind_pair-half.ensures
