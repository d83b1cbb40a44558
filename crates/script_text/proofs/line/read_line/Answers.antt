use Rattle.std.proofs.Common.{sym, ap, ◌∙◌}
use Rattle.script_words.specs.Words.{shown}
use Rattle.script_text.proofs.Reading.{shape_fails}
use Rattle.script_text.proofs.line.read_line.Goals as goal

pub returns-then-not-has_shape : goal.returns-then-not-has_shape
returns-then-not-has_shape c =
    let parts = ap shown c.as_slice.ensures.value ∙ c.in_ok-words.ensures in
    let row = sym c.row_of.ensures ∙ c.in-Some.is in
    λ _. sym (shape_fails c.args.bytes.now c.args.initiators c.in-Some.row c.as_slice.result.now _ (record {
      short = c.if-bytes-gt-LINE_BYTES.false;
      heard = sym c.is_silent.ensures ∙ c.if-is_silent.false;
      printable = sym c.are_printable.ensures ∙ c.if-not-are_printable.false;
    }) parts c.in-len1-up.len_at_least row (sym c.is_out_of_place.ensures ∙ c.if-is_out_of_place.false) (sym c.has_shape.ensures ∙ c.if-not-has_shape.true))
