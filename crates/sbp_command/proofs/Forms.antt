-- The notes of a run of the machine have the form of a journal's notes, and where they are inside their types each is determined by its text.
use Rattle.std.proofs.Common.{refl, subst, ℕ, ◌≤◌, ◌<◌, ◌^◌, List, [], ◌∷◌, reverse, arith}
use Rattle.std.specs.List.{AllByRecursion}
use Rattle.rbc_disk.specs.Held.{Held}
use Rattle.sbp_journal.specs.Form.{HasForm}
use Rattle.sbp_journal.specs.Written.{IsWritten}
use Rattle.sbp_journal.specs.declared.event.Event.{Event}
use Rattle.sbp_journal.specs.declared.note.Note.{Note}
use Rattle.sbp_journal.proofs.Each.{all_append, all_reverse}
use Rattle.sbp_world.specs.Forms.{AreForms, AreTyped}
use Rattle.sbp_world.specs.Runs.{AreEntries, Entry, Run, after, beginning}
use Rattle.sbp_world.proofs.LineForms.{form_law}
use Rattle.script_runner.specs.Events.{journal, notes_in}
use Rattle.script_runner.proofs.Kept.{world_fresh}
use Rattle.task_world.proofs.NotesWritten.{all_written}
use Rattle.sbp_command.specs.Machine.{HasRun}

written_in : (entries : List Entry) → AllByRecursion AreForms entries → AllByRecursion AreTyped entries → AllByRecursion IsWritten (notes_in entries)
written_in [] h t = tt
written_in (e ∷ before) h t =
    all_append IsWritten (notes_in before) (reverse e.notes) (written_in before h.1 t.1) (all_reverse IsWritten e.notes (all_written e.notes h.0 t.0))

pub is_written : (run : Run) → run.initiators ≤ 4 → AreEntries (beginning run) run.entries → AllByRecursion AreTyped run.entries → AllByRecursion IsWritten (journal run)
is_written run few lines typed =
    let first = subst (AllByRecursion HasForm) (world_fresh run.initiators run.ready run.units) (form_law.begins run.initiators run.ready run.units) in
    let small : run.initiators < 2 ^ 64 = omega arith in
    ((first.0, (small, (tt, tt))), written_in run.entries (form_law.runs run (after (beginning run) run.entries) (record { state = refl; lines = lines })) typed)

forms_of : (notes : List Note) → AllByRecursion IsWritten notes → AllByRecursion HasForm notes
forms_of [] h = tt
forms_of (note ∷ notes) h = (h.0.0, forms_of notes h.1)

pub has_form : (start media : Held) (happened : List (ℕ × Event)) (notes : List Note) → HasRun start happened notes media → AllByRecursion HasForm notes
has_form start media happened notes h = forms_of notes h.written
