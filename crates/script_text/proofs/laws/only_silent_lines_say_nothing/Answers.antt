use Rattle.script_text.proofs.Silent.{says_nothing}
use Rattle.script_text.proofs.laws.only_silent_lines_say_nothing.Goals as goal

pub returns : goal.returns
returns c = says_nothing
