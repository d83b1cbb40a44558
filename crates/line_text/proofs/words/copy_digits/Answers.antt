use Rattle.std.proofs.Common.{arith, ap, get_or}
use Rattle.hex.specs.Hex.{upper_digits}
use Rattle.hex.proofs.Pairs.{encode_step, encode_done}
use Rattle.line_text.proofs.words.copy_digits.Goals as goal

pub loop-at-preserved : goal.loop-at-preserved
loop-at-preserved c =
    let high = ap (λ pair. get_or pair 0 0) c.byte_pair.ensures in
    let low = ap (λ pair. get_or pair 1 0) c.byte_pair.ensures in
    encode_step upper_digits c.args.bytes.now c.loop-at.digits c.loop-at.at _ _ (omega arith) (omega arith) high low c.loop-at.invariant

pub returns : goal.returns
returns c = encode_done _ _ _ c.loop-at.at (omega arith) (omega arith) c.loop-at.invariant
