-- The words are those of a drill, or no drill has them.
use Rattle.std.proofs.Common.{◌∙◌, sym}
use Rattle.drill_text.proofs.Numbers.{drill_are, no_drill, three_words}
use Rattle.drill_text.proofs.words.drill_words.Goals as goal

pub returns-then-count-lt1-clause-none : goal.returns-then-count-lt1-clause-none
returns-then-count-lt1-clause-none c = λ seed count.
    let n = c.in_ok-count.ensures.some in
    no_drill _ _ _ _ c.in_ok-count.count (three_words _ c.args.words.now c.word-item.result c.seed-item.result c.count-item.result c.in-len3.len_at_least c.in-len3.len_below c.word-item.is c.seed-item.is c.count-item.is)
    (sym c.as_str-3.ensures.value ∙ n.0, n.1) c.then-count-lt1.either seed count

pub returns-clause-some : goal.returns-clause-some
returns-clause-some c =
    let s = c.in_ok-seed.ensures.some in
    let n = c.in_ok-count.ensures.some in
    drill_are _ _ _ _ c.in_ok-seed.seed c.in_ok-count.count (three_words _ c.args.words.now c.word-item.result c.seed-item.result c.count-item.result c.in-len3.len_at_least c.in-len3.len_below c.word-item.is c.seed-item.is c.count-item.is)
    (sym c.as_str.ensures.value ∙ c.is_same.ensures.0 c.if-not-is_same.false) (sym c.as_str-2.ensures.value ∙ s.0, s.1) (sym c.as_str-3.ensures.value ∙ n.0) c.if-count-lt1.false c.if-count-gt-COMMANDS.false
