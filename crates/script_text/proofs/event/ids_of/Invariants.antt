-- The IDs so far are numbers in their range, and these are all that was read.
use Rattle.std.proofs.Common.{◌≡◌, true, map, take}
use Rattle.std.specs.List.{list_all}
use Rattle.script_words.specs.Words.{shown, value, is_between}
use Rattle.script_text.proofs.event.ids_of.Given as goal

abbrev pub invariant-loop-word : goal.invariant-loop-word
invariant-loop-word l = record {
  inside : list_all (is_between 0 62) (take l.word-index (shown l.words)) ≡ true;
  read : l.ids ≡ map value (take l.word-index (shown l.words));
}
