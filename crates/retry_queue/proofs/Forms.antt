-- The notes of a queue have their form where those of its world have it, and the other way round.
use Rattle.std.proofs.Common.{◌≡◌, subst, sym, refl, ℕ, zero, suc, ◌+◌, ◌<◌, ◌==◌, ◌&&◌, Bool, true, false, cond, List, [], ◌∷◌, ◌++◌, get_or, length, Option, Some, None, arith}
use Rattle.std.specs.Prelude.{IfSome}
use Rattle.std.specs.List.{AllByRecursion}
use Rattle.orb_layout.specs.declared.status.StatusKind.{StatusKind}
use Rattle.orb_layout.specs.declared.status.StatusKind.TheVariants as kinds
use Rattle.sbp_journal.specs.Form as journal_form
use Rattle.sbp_journal.specs.declared.note.Note.{Note}
use Rattle.sbp_journal.specs.declared.note.Note.TheVariants as notes
use Rattle.sbp_journal.specs.declared.operation.Operation.{Operation}
use Rattle.sbp_journal.proofs.Each.{all_back}
use Rattle.retry_queue.specs.declared.kept.Finished.{Finished}
use Rattle.retry_queue.specs.declared.note.QueueNote.{QueueNote}
use Rattle.retry_queue.specs.declared.note.QueueNote.TheVariants.{World}
use Rattle.retry_queue.specs.Kept.{Kept, finished, learned_all, told, written}
use Rattle.retry_queue.specs.Known.{is_final}
use Rattle.retry_queue.specs.Texts.{HasForm}

final_form : (status : StatusKind) (answer : List ℕ) → journal_form.IsAnswer status answer → is_final status ≡ true → journal_form.IsStatus status
final_form kinds.Good answer h e = tt
final_form (kinds.Check sense) answer h e = h.1
final_form kinds.Dummy answer h e = absurd (cc e)
final_form kinds.Aborted answer h e = absurd (cc e)
final_form (kinds.Illegal meaning) answer h e = absurd (cc e)
final_form kinds.Failed answer h e = absurd (cc e)
final_form (kinds.Management meaning) answer h e = absurd (cc e)

both : (a b : Bool) → (a && b) ≡ true → b ≡ true
both true b e = e
both false b e = absurd (cc e)

-- ---- of a queue's notes

written_form : (note : Note) (before : Kept) (told : List QueueNote) → journal_form.HasForm note → AllByRecursion HasForm told → AllByRecursion HasForm (written (finished note before) ++ told)
written_form (notes.Taken i n k status answer) before told h hs =
    elim ((i == 0) && is_final status) as (λ t. ((i == 0) && is_final status) ≡ t → AllByRecursion HasForm (written (cond t (Some (record { number = before.first + k; status = status })) None) ++ told)) [
      | true ↦ λ e. (final_form status answer h (both (i == 0) (is_final status) e), hs)
      | false ↦ λ e. hs
    ] refl
written_form _ before told h hs = hs

pub told_form : (operation : Option Operation) (before : Kept) (ns : List Note) → AllByRecursion journal_form.HasForm ns → AllByRecursion HasForm (told operation ns before)
told_form operation before [] h = tt
told_form operation before (note ∷ ns) h =
    written_form note (learned_all operation ns before) (World note ∷ told operation ns before) h.0 (h.0, told_form operation before ns h.1)

-- ---- of its world's

pub notes_form : (operation : Option Operation) (before : Kept) (ns : List Note) → AllByRecursion HasForm (told operation ns before) → AllByRecursion journal_form.HasForm ns
notes_form operation before [] h = tt
notes_form operation before (note ∷ ns) h =
    let later = all_back HasForm (written (finished note (learned_all operation ns before))) (World note ∷ told operation ns before) h in
    (later.0, notes_form operation before ns later.1)

-- ---- a status that is told of a submission is one that its line can have

finished_form : (note : Note) (before : Kept) → journal_form.HasForm note → IfSome (finished note before) (λ f. journal_form.IsStatus f.status)
finished_form (notes.Taken i n k status answer) before h =
    elim ((i == 0) && is_final status) as (λ t. ((i == 0) && is_final status) ≡ t → IfSome (cond t (Some (record { number = before.first + k; status = status })) None) (λ (f : Finished). journal_form.IsStatus f.status)) [
      | true ↦ λ e. final_form status answer h (both (i == 0) (is_final status) e)
      | false ↦ λ e. tt
    ] refl
finished_form _ before h = tt

form_at : (ns : List Note) (i : ℕ) (d : Note) → AllByRecursion journal_form.HasForm ns → i < length ns → journal_form.HasForm (get_or ns i d)
form_at [] i d h within = absurd (omega (arith, within))
form_at (note ∷ ns) zero d h within = h.0
form_at (note ∷ ns) (suc i) d h within = form_at ns i d h.1 (omega (arith, within))

pub finished_fits : (ns : List Note) (i : ℕ) (note : Note) (before : Kept) (f : Option Finished) → AllByRecursion journal_form.HasForm ns → i < length ns → note ≡ get_or ns i note → f ≡ finished note before → IfSome f (λ f. journal_form.IsStatus f.status)
finished_fits ns i note before f h within is ends =
    subst (λ g. IfSome g (λ (f : Finished). journal_form.IsStatus f.status)) (sym ends) (finished_form note before (subst journal_form.HasForm (sym is) (form_at ns i note h within)))
