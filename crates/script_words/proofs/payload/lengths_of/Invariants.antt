-- The lengths so far are numbers in their range, and these are all that was read.
use Rattle.std.proofs.Common.{◌≡◌, true, map, take}
use Rattle.std.specs.List.{list_all}
use Rattle.script_words.specs.Words.{shown, value, is_between}
use Rattle.script_words.proofs.payload.lengths_of.Given as goal

abbrev pub invariant-loop-part : goal.invariant-loop-part
invariant-loop-part l = record {
  inside : list_all (is_between 1 16384) (take l.part-index (shown l.parts)) ≡ true;
  read : l.lengths ≡ map value (take l.part-index (shown l.parts));
}
