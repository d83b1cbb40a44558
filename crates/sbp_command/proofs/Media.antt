-- What a run of the machine leaves of the media, by the notes of its journal.
use Rattle.std.proofs.Common.{◌≡◌, ◌∙◌, refl, sym, ap, subst, ℕ, ◌≤◌, inl, inr, List, [], ◌∷◌, ◌++◌, reverse}
use Rattle.std.proofs.lemmas.List.{reverse-append, reverse-reverse}
use Rattle.rbc_disk.specs.Held.{Held}
use Rattle.sbp_journal.specs.declared.event.Event.{Event}
use Rattle.sbp_journal.specs.declared.note.Note.{Note}
use Rattle.sbp_world.specs.Making.{notes_begin}
use Rattle.sbp_world.specs.Runs.{AreEntries, Entry, Run, after, beginning}
use Rattle.media_laws.specs.Media.{LeavesMedia, media_after}
use Rattle.sbp_world.specs.Histories.{history_of, notes_behind}
use Rattle.media_laws.proofs.Runs.{after_both, disks_law}
use Rattle.script_runner.specs.Events.{journal, notes_in}
use Rattle.sbp_command.specs.Machine.{Runs}

notes_back : (entries : List Entry) → reverse (notes_in entries) ≡ notes_behind entries
notes_back [] = refl
notes_back (e ∷ before) =
    reverse-append (notes_in before) (reverse e.notes)
    ∙ (ap (λ ns. ns ++ reverse (notes_in before)) (reverse-reverse e.notes) ∙ ap (λ ns. e.notes ++ ns) (notes_back before))

pub journal_back : (run : Run) → reverse (journal run) ≡ notes_behind run.entries ++ notes_begin run.initiators run.ready ∷ []
journal_back run =
    reverse-append (notes_begin run.initiators run.ready ∷ []) (notes_in run.entries)
    ∙ ap (λ ns. ns ++ notes_begin run.initiators run.ready ∷ []) (notes_back run.entries)

pub run_fits : (run : Run) (start now : Held) → run.start ≡ start → run.initiators ≤ 4 → AreEntries (beginning run) run.entries → now ≡ (after (beginning run) run.entries).media → now ≡ media_after (reverse (journal run)) start
run_fits run start now s few a n =
    let by_notes = after_both (notes_behind run.entries) (notes_begin run.initiators run.ready ∷ []) run.start in
    n
    ∙ (disks_law.notes run few a
    ∙ (sym by_notes ∙ (ap (λ ns. media_after ns run.start) (sym (journal_back run)) ∙ ap (media_after (reverse (journal run))) s)))

pub run_leaves : (line : ℕ) (run : Run) (start now : Held) → run.start ≡ start → run.initiators ≤ 4 → AreEntries (beginning run) run.entries → now ≡ (after (beginning run) run.entries).media → LeavesMedia start (history_of line run) now
run_leaves line run start now s few a n =
    subst (λ media. LeavesMedia start (history_of line run) media) (sym n) (subst (λ media. LeavesMedia media (history_of line run) (after (beginning run) run.entries).media) s (disks_law.leaves line run few a))

-- the media are what the notes leave of them
pub left_by_notes : (start now : Held) (happened : List (ℕ × Event)) (notes : List Note) → Runs start happened notes now → now ≡ media_after (reverse notes) start
left_by_notes start now happened notes (inl h) = h.media_are ∙ ap (λ ns. media_after (reverse ns) start) (sym h.notes_are)
left_by_notes start now happened notes (inr h) = h.media_fit
