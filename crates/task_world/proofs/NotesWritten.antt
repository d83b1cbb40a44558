-- The notes of a run of the task machine are inside the types of their fields and have the form of a journal's.
use Rattle.std.proofs.Common.{sym, subst, ℕ, ◌<◌, ◌^◌, List, [], ◌∷◌, arith}
use Rattle.std.specs.List.{AllByRecursion}
use Rattle.sbp_journal.specs.declared.note.Note.{Note}
use Rattle.sbp_journal.specs.Form.{HasForm}
use Rattle.sbp_journal.specs.Written.{IsTyped, IsWritten}
use Rattle.sbp_journal.proofs.Each.{all_append}
use Rattle.sbp_world.specs.Forms.{AreForms, AreTyped}
use Rattle.sbp_world.specs.Histories.{notes_behind}
use Rattle.sbp_world.specs.Making.{notes_begin}
use Rattle.sbp_world.specs.Runs.{Entry}
use Rattle.task_world.specs.Written.{TaskNotesAreWritten}
use Rattle.task_world.proofs.LineForms.{form_law}

-- notes that have their form and are inside their types are written
pub all_written : (notes : List Note) → AllByRecursion HasForm notes → AllByRecursion IsTyped notes → AllByRecursion IsWritten notes
all_written [] h t = tt
all_written (note ∷ notes) h t = ((h.0, t.0), all_written notes h.1 t.1)

written_in : (entries : List Entry) → AllByRecursion AreForms entries → AllByRecursion AreTyped entries → AllByRecursion IsWritten (notes_behind entries)
written_in [] h t = tt
written_in (e ∷ before) h t = all_append IsWritten e.notes (notes_behind before) (all_written e.notes h.0 t.0) (written_in before h.1 t.1)

pub notes_are_written : TaskNotesAreWritten
notes_are_written run r typed =
    let small : run.initiators < 2 ^ 64 = subst (λ (n : ℕ). n < 2 ^ 64) (sym r.one) (omega arith) in
    all_append IsWritten (notes_behind run.entries) (notes_begin run.initiators run.ready ∷ []) (written_in run.entries (form_law.runs run r) typed) ((tt, (small, (tt, tt))), tt)
