-- The notes of a kind among those of a turn.
use Rattle.std.specs.Prelude.{Bool, true, false, List}
use Rattle.std.specs.List.{filter}
use Rattle.sbp_journal.specs.declared.note.Note.{Note}
use Rattle.sbp_journal.specs.declared.note.Note.TheVariants as notes

-- ---- the notes of a kind
abbrev pub is_cut_note : Note → Bool
is_cut_note (notes.Cut i list cause) = true
is_cut_note _ = false

abbrev pub is_cleared_note : Note → Bool
is_cleared_note (notes.Cleared unit) = true
is_cleared_note _ = false

abbrev pub is_failure_note : Note → Bool
is_failure_note (notes.ManageFailed i cause) = true
is_failure_note _ = false

abbrev pub is_end_note : Note → Bool
is_end_note (notes.Dead i list cause) = true
is_end_note (notes.Ended i list number status) = true
is_end_note _ = false

abbrev pub is_operation_note : Note → Bool
is_operation_note (notes.Op i operation word) = true
is_operation_note (notes.Drop i n) = true
is_operation_note (notes.Stuck i) = true
is_operation_note _ = false

abbrev pub of_kind : (Note → Bool) → List Note → List Note
of_kind kind rest = filter kind rest
