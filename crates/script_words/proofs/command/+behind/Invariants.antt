use Rattle.std.proofs.Common.{length}
use Rattle.script_words.proofs.command.+behind.Given as goal

abbrev pub decreases-behind : goal.decreases-behind
decreases-behind l = length l.words.now
