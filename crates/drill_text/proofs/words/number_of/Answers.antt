-- A number is written as it was read.
use Rattle.std.proofs.Common.{◌∙◌, sym, ap}
use Rattle.drill_text.specs.Words.{is_plain}
use Rattle.drill_text.proofs.Numbers.{not_plain, read_none, read_some}
use Rattle.drill_text.proofs.words.number_of.Goals as goal

pub returns-then-not-is_plain-clause-none : goal.returns-then-not-is_plain-clause-none
returns-then-not-is_plain-clause-none c = not_plain c.args.word.now (sym (ap is_plain c.as_bytes.ensures.value) ∙ sym c.is_plain.ensures ∙ c.if-not-is_plain.true)

pub returns-clause-some : goal.returns-clause-some
returns-clause-some c = rw c.ok.ensures.value (read_some c.args.word.now c.parse.result (sym (ap is_plain c.as_bytes.ensures.value) ∙ sym c.is_plain.ensures ∙ c.if-not-is_plain.false) c.parse.ensures.value.0)

pub returns-clause-none : goal.returns-clause-none
returns-clause-none c = rw c.ok.ensures.value (read_none c.args.word.now c.parse.result c.parse.ensures.value.0)
