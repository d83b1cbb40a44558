-- The lines of the notes so far are added, and what these add is kept.
use Rattle.std.proofs.Common.{◌≡◌, ◌++◌, take, reverse}
use Rattle.retry_queue.specs.Kept.{kept_of, learned_all, told}
use Rattle.retry_queue.specs.Texts.{text_of}
use Rattle.retry_queue.proofs.text.put_told.Given as goal

abbrev pub invariant-loop-note : goal.invariant-loop-note
invariant-loop-note l = record {
  keeps : kept_of l.kept ≡ learned_all l.asked (reverse (take l.note-index l.notes)) (kept_of l.fn.before);
  so_far : l.out ++ l.room ≡ (l.initial.out ++ l.initial.room) ++ text_of (reverse (told l.asked (reverse (take l.note-index l.notes)) (kept_of l.fn.before)));
}
