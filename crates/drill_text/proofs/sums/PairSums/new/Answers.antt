-- One more sum is that of two bytes.
use Rattle.std.proofs.Common.{◌≡◌, ◌∙◌, sym, ap, subst, ◌+◌, ◌*◌, ◌<◌, bit_xor, [], ◌∷◌, length, get_or, arith}
use Rattle.std.proofs.lemmas.List.{length_push}
use Rattle.config_rom.specs.Sum.{sum_of}
use Rattle.drill_text.proofs.Pairs.{more-each, pair-sum}
use Rattle.drill_text.proofs.sums.PairSums.new.Goals as goal

pub loop-low-preserved : goal.loop-low-preserved
loop-low-preserved c =
    let high = c.loop-high.high in
    let low = c.loop-low.low-index in
    let few : c.loop-low.low-index < 256 = c.loop-low-test.true in
    let more = c.in_ok-push.ensures.items in
    let value = bit_xor c.sum16-top.result (get_or c.low_sums-lows.result c.loop-low.low-index 0) in
    let size = ap length more in
    let pushed = length_push c.loop-low.sums.items value in
    let value_is : bit_xor c.sum16-top.result (get_or c.low_sums-lows.result c.loop-low.low-index 0) ≡ sum_of ((c.loop-high.high * 256 + c.loop-low.low-index) ∷ []) = ap (λ k. bit_xor k (get_or c.low_sums-lows.result low 0)) c.sum16-top.ensures ∙ ap (λ k. bit_xor (sum_of ((high * 256) ∷ [])) k) (c.low_sums-lows.ensures low few) ∙ sym (pair-sum high low few) in
    record {
      count = omega (arith, size, pushed, c.loop-low.invariant.count);
      each = λ pair k. subst (λ xs. get_or xs pair 0 ≡ sum_of (pair ∷ [])) (sym more) (more-each c.loop-low.sums.items (high * 256 + low) value c.loop-low.invariant.count c.loop-low.invariant.each value_is pair (omega arith));
    }
