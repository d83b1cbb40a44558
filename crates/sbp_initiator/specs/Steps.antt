-- The notes of the steps of a list.
use Rattle.std.specs.Prelude.{Bool, true, false}
use Rattle.sbp_journal.specs.declared.note.Note.{Note}
use Rattle.sbp_journal.specs.declared.note.Note.TheVariants as notes

abbrev pub is_step : Note → Bool
is_step (notes.Append initiator list orb cdb buffer) = true
is_step (notes.Low initiator list orb) = true
is_step (notes.Linked initiator list orb) = true
is_step (notes.Rung initiator list orb) = true
is_step (notes.Dummied initiator list orb) = true
is_step _ = false
