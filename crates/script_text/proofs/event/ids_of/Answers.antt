use Rattle.std.proofs.Common.{refl, ◌∙◌, sym, arith}
use Rattle.std.proofs.lemmas.Grind.{common_steps}
use Rattle.script_words.proofs.Lists.{numbers_failed, numbers_more, values_more}
use Rattle.script_text.proofs.event.ids_of.Goals as goal

pub returns-in_err-number : goal.returns-in_err-number
returns-in_err-number c =
    let h = numbers_failed 0 62 c.args.words.now c.loop-word.word-index _ c.in_err-number.field-0.0 c.loop-word-test.true (sym c.number.ensures.value ∙ c.in_err-number.was) in
    grind (arith, common_steps)

pub loop-word-preserved : goal.loop-word-preserved
loop-word-preserved c =
    let read = sym c.number.ensures.value ∙ c.in_ok-number.was in
    let more = values_more 0 62 c.args.words.now c.loop-word.word-index _ c.in_ok-number.field-0 c.loop-word-test.true read in
    let inv = c.loop-word.invariant in
    let pushed = c.in_ok-push.ensures.ok in
    record {
      inside = numbers_more 0 62 c.args.words.now c.loop-word.word-index _ c.in_ok-number.field-0 c.loop-word-test.true read inv.inside;
      read = pushed ∙ rw (inv.read, ← more) refl;
    }
