-- The words are one word, and it is this one.
use Rattle.sbp_command.proofs.Words.{is_word}
use Rattle.sbp_command.proofs.top.is_alone.Goals as goal

pub returns-in-len1 : goal.returns-in-len1
returns-in-len1 c = is_word _ c.args.words.now c.only-item.result c.args.word.now c.as_str.result.now c.eq.result c.in-len1.len_at_least c.in-len1.len_below c.only-item.is c.as_str.ensures.value c.eq.ensures
