-- One note more was counted.
use Rattle.std.proofs.Common.{◌∙◌, ap, ◌+◌, ◌++◌}
use Rattle.sbp_journal.specs.Text.{note_text}
use Rattle.drill_text.specs.Sums.{behind_line}
use Rattle.drill_text.specs.Tally.{is_append, is_good, is_taken}
use Rattle.drill_text.proofs.Tallies.{byte_is, counted, one_if}
use Rattle.drill_text.proofs.tally.Tally.add.Goals as goal

pub returns : goal.returns
returns c =
    let note = c.args.note.now in
    let inside = c.self.inside in
    let seen = c.self.view_is in
    let line = c.in_ok-gather.ensures ∙ c.in_ok-put_note.ensures ∙ ap (λ o. o ++ note_text note) c.clear.ensures in
    λ before h.
    counted c.args.self.now _ before note
    (c.in-Some.ensures.1 ∙ ap (λ s. s.notes + 1) seen)
    (ap (λ k. inside.appended + k) (c.from.ensures ∙ byte_is c.is_append.result ∙ ap one_if c.is_append.ensures) ∙ ap (λ s. s.appended + one_if (is_append note)) seen)
    (ap (λ k. inside.taken + k) (c.from-2.ensures ∙ byte_is c.is_taken.result ∙ ap one_if c.is_taken.ensures) ∙ ap (λ s. s.taken + one_if (is_taken note)) seen)
    (ap (λ k. inside.good + k) (c.from-3.ensures ∙ byte_is c.is_good.result ∙ ap one_if c.is_good.ensures) ∙ ap (λ s. s.good + one_if (is_good note)) seen)
    (c.behind_line-self-inside.ensures ∙ ap (behind_line inside.sum) line ∙ ap (λ s. behind_line s.sum (note_text note)) seen)
    h
