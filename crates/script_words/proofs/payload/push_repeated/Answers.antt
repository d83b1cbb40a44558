use Rattle.std.proofs.Common.{◌≡◌, ◌/◌, ◌∙◌, arith}
use Rattle.script_words.proofs.Blocks.{block_more, blocks_all}
use Rattle.script_words.proofs.payload.push_repeated.Goals as goal

pub loop-done-preserved : goal.loop-done-preserved
loop-done-preserved c = record {
  whole = c.in_ok-extend_from_slice.ensures.ok ∙ rw (c.loop-done.invariant.whole, c.loop-done.invariant.filled) (block_more c.args.bytes.now c.loop-done._done c.args.byte);
  filled = c.loop-done.invariant.filled;
}

pub returns-clause-ok : goal.returns-clause-ok
returns-clause-ok c =
    let done : c.loop-done._done ≡ c.args.count / 512 = grind (arith, c.loop-done.auto._done-end, c.loop-done-test.false) in
    c.in_ok-extend_from_slice-2.ensures.ok
    ∙ rw (c.loop-done.invariant.whole, c.loop-done.invariant.filled, done) (blocks_all c.args.bytes.now c.args.count c.args.byte)
