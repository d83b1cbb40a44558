-- The table goes on by two bytes.
use Rattle.std.proofs.Common.{◌≡◌, ◌∙◌, ap, ◌+◌, ◌*◌, ◌<◌, ◌^◌, get_or, arith}
use Rattle.std.proofs.lemmas.List.{get_or_read}
use Rattle.std.proofs.lemmas.Nat.{xor_lt}
use Rattle.config_rom.specs.Sum.{low_bits, register_after}
use Rattle.drill_text.proofs.Pairs.{pair-step}
use Rattle.drill_text.proofs.sums.PairSums.behind_pair.Goals as goal

pub returns : goal.returns
returns c =
    let s = c.args.self.now in
    let first = c.from.ensures in
    let second = c.from-2.ensures in
    let place = c.from-3.ensures in
    let all = s.all in
    let pair = c.from.result * 256 + c.from-2.result in
    let pair_is : c.from.result * 256 + c.from-2.result ≡ c.args.first * 256 + c.args.second = omega (arith, first, second) in
    let sum_fits : c.args.sum < 2 ^ 16 = omega arith in
    let pair_fits : c.from.result * 256 + c.from-2.result < 2 ^ 16 = omega (arith, first, second) in
    let below = xor_lt 16 c.args.sum pair sum_fits pair_fits in
    get_or_read s.sums.items _ _ (omega (arith, below, all, place)) c.index.ensures 0
    ∙ ap (λ k. get_or s.sums.items k 0) place
    ∙ pair-step s.sums.items c.args.sum pair s.each sum_fits pair_fits
    ∙ ap (λ k. register_after c.args.sum (low_bits 16 k)) pair_is
