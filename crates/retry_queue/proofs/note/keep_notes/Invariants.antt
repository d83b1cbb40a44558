-- What the notes so far add is kept.
use Rattle.std.proofs.Common.{◌≡◌, take, reverse}
use Rattle.retry_queue.specs.Kept.{kept_of, learned_all}
use Rattle.retry_queue.proofs.note.keep_notes.Given as goal

abbrev pub invariant-loop-note : goal.invariant-loop-note
invariant-loop-note l = record {
  keeps : kept_of l.kept ≡ learned_all l.asked (reverse (take l.note-index l.notes)) (kept_of l.fn.before);
}
