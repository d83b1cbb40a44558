-- The check stands behind the bytes that were read.
use Rattle.std.proofs.Common.{◌∙◌, ap, ◌∷◌, ◌++◌, List, ℕ, append_assoc}
use Rattle.line_text.specs.Canonical.{canonical}
use Rattle.line_text.specs.Fields.{further}
use Rattle.sbp_journal.specs.Text.{check_fields}
use Rattle.sbp_journal.proofs.LineWords.{words_behind}
use Rattle.sbp_journal.proofs.lines.push_ran.Goals as goal

pub returns : goal.returns
returns c =
    let more = 32 ∷ canonical c.args.bytes.now in
    let words = further (check_fields c.args.check) in
    words_behind c.args.out.now c.push_few_digits.new.self more c.push_canonical.new.out c.push_canonical.new.room words c.push_check.new.room c.in_ok-push_canonical.ensures.text c.push_check.ensures
    ∙ ap (λ (l : List ℕ). c.args.out.now ++ l) {x = c.push_few_digits.new.self ++ (more ++ words)}
    (rw (c.push_few_digits.ensures.text, c.push_unit.ensures.text, c.push_named.ensures.text, c.push.ensures.text, c.as_slice.ensures) (simp append_assoc))
