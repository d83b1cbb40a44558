use Rattle.std.proofs.Common.{refl, ◌∙◌, sym, arith}
use Rattle.std.proofs.lemmas.Grind.{common_steps}
use Rattle.script_words.proofs.Lists.{numbers_failed, numbers_more, values_more}
use Rattle.script_words.proofs.payload.lengths_of.Goals as goal

pub returns-in_err-number-clause-value : goal.returns-in_err-number-clause-value
returns-in_err-number-clause-value c =
    let h = numbers_failed 1 16384 c.args.parts.now c.loop-part.part-index _ c.in_err-number.field-0.0 c.loop-part-test.true (sym c.number.ensures.value ∙ c.in_err-number.was) in
    grind (arith, common_steps)

pub loop-part-preserved : goal.loop-part-preserved
loop-part-preserved c =
    let read = sym c.number.ensures.value ∙ c.in_ok-number.was in
    let more = values_more 1 16384 c.args.parts.now c.loop-part.part-index _ c.in_ok-number.field-0 c.loop-part-test.true read in
    let inv = c.loop-part.invariant in
    let pushed = c.in_ok-push.ensures.ok in
    record {
      inside = numbers_more 1 16384 c.args.parts.now c.loop-part.part-index _ c.in_ok-number.field-0 c.loop-part-test.true read inv.inside;
      read = pushed ∙ rw (inv.read, ← more) refl;
    }
