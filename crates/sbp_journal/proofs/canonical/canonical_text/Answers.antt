use Rattle.std.proofs.Common.{sym, ◌∙◌, arith}
use Rattle.sbp_journal.proofs.Runs.{short_turn, long_turn, last_turn, canonical-pieces}
use Rattle.sbp_journal.proofs.canonical.canonical_text.Goals as goal
use Rattle.sbp_journal.proofs.canonical.canonical_text.Goals.{then-count-ge-LONG+in_ok-push_plain+in_ok-push_repeated, else-count-ge-LONG}

pub loop-at-preserved : goal.loop-at-preserved
loop-at-preserved c =
    let bytes = c.args.bytes.now in
    let at = c.loop-at.at in
    let start = c.loop-at.start in
    let count = c.run_length-count.result in
    let text = c.loop-at.text in
    let inv = c.loop-at.invariant in
    let counted = c.run_length-count.ensures.counted in
    elim c.if-count-ge-LONG.branch [
      | then-count-ge-LONG+in_ok-push_plain+in_ok-push_repeated w ↦
          let turn = long_turn bytes text start at count c.loop-at-test.true counted w.if-count-ge-LONG.true in
          let written = w.in_ok-push_repeated.ensures in
          let plain = w.in_ok-push_plain.ensures in
          record {
            order = omega arith;
            within = omega arith;
            text = rw (w.text-is, w.start-is, written, plain) (sym turn ∙ inv.text);
          }
      | else-count-ge-LONG w ↦
          let turn = short_turn bytes text start at count inv.order c.loop-at-test.true counted w.if-count-ge-LONG.false in
          record {
            order = omega arith;
            within = omega arith;
            text = rw (w.text-is, w.start-is) (sym turn ∙ inv.text);
          }
    ]

pub returns : goal.returns
returns c =
    let bytes = c.args.bytes.now in
    let text = c.loop-at.text in
    let inv = c.loop-at.invariant in
    let turn = last_turn bytes text c.loop-at.start c.loop-at.at inv.within c.loop-at-test.false in
    c.in_ok-push_plain-2.ensures ∙ sym turn ∙ inv.text ∙ sym (canonical-pieces bytes c.requires)
