-- The pieces so far have their counts, and their bytes are all that was joined; they are not too many.
use Rattle.std.proofs.Common.{◌≡◌, ◌≤◌, true, take, length}
use Rattle.std.specs.List.{list_all, flat_map}
use Rattle.script_words.specs.Words.{shown}
use Rattle.script_words.specs.Payload.{has_count, piece_bytes}
use Rattle.script_words.proofs.payload.join_pieces.Given as goal

abbrev pub invariant-loop-piece : goal.invariant-loop-piece
invariant-loop-piece l = record {
  counted : list_all has_count (take l.piece-index (shown l.parts)) ≡ true;
  joined : l.bytes ≡ flat_map piece_bytes (take l.piece-index (shown l.parts));
  few : length l.bytes ≤ 16384;
}
