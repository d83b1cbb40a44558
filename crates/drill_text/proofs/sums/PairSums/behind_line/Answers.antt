-- The sum behind the quadlet that it was and a line.
use Rattle.std.proofs.Common.{◌∙◌, ap, ◌<◌, [], ◌∷◌, get_or, arith}
use Rattle.std.proofs.lemmas.List.{get_or_read}
use Rattle.drill_text.specs.Sums.{behind_line}
use Rattle.drill_text.proofs.sums.PairSums.behind_line.Goals as goal

pub returns : goal.returns
unfolding behind_line
returns c =
    let s = c.args.self.now in
    let all = s.all in
    let place = c.from.ensures in
    let fits : c.args.sum < 65536 = omega arith in
    c.behind.ensures (c.args.sum ∷ []) (get_or_read s.sums.items _ _ (omega (arith, all, fits, place)) c.index.ensures 0 ∙ ap (λ k. get_or s.sums.items k 0) place ∙ s.each c.args.sum fits)
