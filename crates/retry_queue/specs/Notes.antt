-- What a queue told in its last line, by what that line was: the notes of its world are those that the world has.
use Rattle.std.specs.Prelude.{List, [], ◌∷◌}
use Rattle.sbp_journal.specs.declared.note.Note.{Note}
use Rattle.sbp_world.specs.Worlds.{WorldState}
use Rattle.retry_queue.specs.declared.note.LastLine.{LastLine}
use Rattle.retry_queue.specs.declared.note.LastLine.TheVariants as last
use Rattle.retry_queue.specs.declared.note.QueueNote.{QueueNote}
use Rattle.retry_queue.specs.declared.note.QueueNote.TheVariants.{Submit, Idle}
use Rattle.retry_queue.specs.Kept.{kept_of, told}

abbrev pub notes_of : LastLine → List Note → List QueueNote
notes_of (last.Submit number lba bytes) fresh = Submit number lba bytes ∷ []
notes_of last.Idle fresh = Idle ∷ []
notes_of (last.World operation before) fresh = told operation fresh (kept_of before)

-- the world, and the notes of the queue's last line, the latest one first
pub record NotesState : Type 0 where
  pub world : WorldState
  pub notes : List QueueNote
