use Rattle.script_text.proofs.Shaped.{shaped}
use Rattle.script_text.proofs.laws.shaped_words_are_read.Goals as goal

pub returns : goal.returns
returns c = shaped
