-- So many blocks are there so far, each of that byte.
use Rattle.std.proofs.Common.{◌≡◌, ◌*◌, ◌++◌, replicate}
use Rattle.script_words.proofs.payload.push_repeated.Given as goal

abbrev pub invariant-loop-done : goal.invariant-loop-done
invariant-loop-done l = record {
  whole : l.bytes ≡ l.initial.bytes ++ replicate (l._done * 512) l.byte;
  filled : l.block ≡ replicate 512 l.byte;
}
