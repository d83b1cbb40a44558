use Rattle.std.proofs.Common.{rules}
use borrow.Author.Tests.{tests}
use Rattle.std.proofs.lemmas.Iterator.Search.{all_from_yields_List}
use Rattle.std.proofs.lemmas.Iterator.Splits.{YieldsList-from_slice_split}
use Rattle.script_words.specs.Words.{is_numeral}
use Rattle.script_words.proofs.payload.are_lengths.Goals as goal

pub returns : goal.returns
returns c = all_from_yields_List is_numeral _ _ c.all.result c.all.ensures.ran (YieldsList-from_slice_split _ _ c.args.word.now c.split.ensures.rest c.split.ensures.done c.split.ensures.closure (λ x r q k. search (rules, tests))) (λ x r q k. search (rules, tests))
