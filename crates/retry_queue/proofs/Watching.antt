-- The notes of a world's line, which are lent with the first one first: what they add is kept, and their lines are written.
use Rattle.std.proofs.Common.{◌≡◌, ◌∙◌, sym, ap, subst, refl, ℕ, ◌+◌, ◌<◌, List, [], ◌∷◌, ◌++◌, reverse, take, get_or, length, Option, Some, None, Result, Ok, Err, append_assoc}
use Rattle.std.specs.Prelude.{IfOk, OnOk}
use Rattle.std.specs.List.{AllByRecursion}
use Rattle.std.proofs.lemmas.Grind.{flat_map-append}
use Rattle.std.proofs.lemmas.List.{append-nil, reverse-append, reverse-reverse, take_more}
use Rattle.rbc_disk.specs.Disk.{Disk}
use Rattle.sbp_journal.specs.Form as journal_form
use Rattle.sbp_journal.specs.Text as journal_text
use Rattle.sbp_journal.specs.declared.event.Event.{Event}
use Rattle.sbp_journal.specs.declared.note.Note.{Note}
use Rattle.sbp_journal.specs.declared.operation.Operation.{Operation}
use Rattle.sbp_journal.proofs.Each.{all_reverse}
use Rattle.sbp_world.specs.Lines.{Happens}
use Rattle.sbp_world.specs.Wire.Keeping.{KeepsLaws}
use Rattle.sbp_world.specs.Worlds.{Scene, WorldState, scene}
use Rattle.retry_queue.specs.declared.kept.Kept as declared
use Rattle.retry_queue.specs.declared.kept.Finished.{Finished}
use Rattle.retry_queue.specs.declared.note.LastLine.{LastLine}
use Rattle.retry_queue.specs.declared.note.LastLine.TheVariants as last
use Rattle.retry_queue.specs.declared.note.QueueNote.{QueueNote}
use Rattle.retry_queue.specs.declared.note.QueueNote.TheVariants.{World, Submit, Idle}
use Rattle.retry_queue.specs.Kept.{Kept, finished, kept_of, learned, learned_all, told, written}
use Rattle.retry_queue.specs.Notes.{notes_of}
use Rattle.retry_queue.specs.Texts.{HasForm, note_text, text_of}
use Rattle.retry_queue.proofs.Forms.{notes_form}

-- ---- a note more

reverse-more : (ns : List Note) (i : ℕ) (note : Note) → i < length ns → note ≡ get_or ns i note → reverse (take (i + 1) ns) ≡ note ∷ reverse (take i ns)
reverse-more ns i note within is =
    ap reverse (take_more ns i note within)
    ∙ reverse-append (take i ns) (get_or ns i note ∷ [])
    ∙ ap (λ n. n ∷ reverse (take i ns)) (sym is)

pub kept_more : (operation : Option Operation) (ns : List Note) (i : ℕ) (note : Note) (start now next : Kept) → i < length ns → note ≡ get_or ns i note → now ≡ learned_all operation (reverse (take i ns)) start → next ≡ learned operation note now → next ≡ learned_all operation (reverse (take (i + 1) ns)) start
kept_more operation ns i note start now next within is so_far learns =
    learns
    ∙ ap (learned operation note) so_far
    ∙ sym (ap (λ before. learned_all operation before start) (reverse-more ns i note within is))

-- a `written` is one note, or none
reverse-written : (f : Option Finished) → reverse (written f) ≡ written f
reverse-written None = refl
reverse-written (Some f) = refl

-- the line of a note, and behind it that of the `written` that it brings
told_text : (f : Option Finished) (note : Note) (earlier : List QueueNote) → text_of (reverse (written f ++ World note ∷ earlier)) ≡ (text_of (reverse earlier) ++ journal_text.note_text note) ++ text_of (written f)
told_text f note earlier =
    ap text_of (reverse-append (written f) (World note ∷ earlier))
    ∙ flat_map-append note_text (reverse (World note ∷ earlier)) (reverse (written f))
    ∙ ap (λ (l : List QueueNote). text_of l ++ text_of (reverse (written f))) (reverse-append (World note ∷ []) earlier)
    ∙ ap (λ (l : List ℕ). l ++ text_of (reverse (written f))) (flat_map-append note_text (reverse earlier) (World note ∷ []))
    ∙ ap (λ (l : List ℕ). (text_of (reverse earlier) ++ l) ++ text_of (reverse (written f))) (append-nil (journal_text.note_text note))
    ∙ ap (λ (l : List QueueNote). (text_of (reverse earlier) ++ journal_text.note_text note) ++ text_of l) (reverse-written f)

regroup : (first so_far line more : List ℕ) → ((first ++ so_far) ++ line) ++ more ≡ first ++ ((so_far ++ line) ++ more)
regroup first so_far line more = simp append_assoc

pub text_more : (operation : Option Operation) (ns : List Note) (i : ℕ) (note : Note) (start now : Kept) (f : Option Finished) (first out with_note with_both : List ℕ) → i < length ns → note ≡ get_or ns i note → now ≡ learned_all operation (reverse (take i ns)) start
    → out ≡ first ++ text_of (reverse (told operation (reverse (take i ns)) start)) → with_note ≡ out ++ journal_text.note_text note → f ≡ finished note now → with_both ≡ with_note ++ text_of (written f) → with_both ≡ first ++ text_of (reverse (told operation (reverse (take (i + 1) ns)) start))
text_more operation ns i note start now f first out with_note with_both within is keeps so_far line ends both =
    let earlier = reverse (take i ns) in
    both
    ∙ ap (λ (l : List ℕ). l ++ text_of (written f)) (line ∙ ap (λ (l : List ℕ). l ++ journal_text.note_text note) so_far)
    ∙ regroup first (text_of (reverse (told operation earlier start))) (journal_text.note_text note) (text_of (written f))
    ∙ ap (λ (l : List ℕ). first ++ l) (sym (told_text f note (told operation earlier start)))
    ∙ ap (λ (g : Option Finished). first ++ text_of (reverse (written g ++ World note ∷ told operation earlier start))) (ends ∙ ap (finished note) keeps)
    ∙ sym (ap (λ (before : List Note). first ++ text_of (reverse (told operation before start))) (reverse-more ns i note within is))

-- ---- the notes of a line, as a world lends them

-- the notes of the last line, by what it was
pub lent_form : (line : LastLine) (operation : Option Operation) (before : declared.Kept) (ns journal lent : List Note) (all : List QueueNote) → all ≡ notes_of line ns → line ≡ last.World operation before → journal ≡ ns → lent ≡ reverse journal → AllByRecursion HasForm all → AllByRecursion journal_form.HasForm lent
lent_form line operation before ns journal lent all all_is line_is journal_is lent_is h =
    subst (AllByRecursion journal_form.HasForm) (sym (lent_is ∙ ap reverse journal_is))
    (all_reverse journal_form.HasForm ns (notes_form operation (kept_of before) ns (subst (AllByRecursion HasForm) (all_is ∙ ap (λ l. notes_of l ns) line_is) h)))

turned_back : (ns journal lent : List Note) → journal ≡ ns → lent ≡ reverse journal → reverse lent ≡ ns
turned_back ns journal lent journal_is lent_is = ap reverse (lent_is ∙ ap reverse journal_is) ∙ reverse-reverse ns

pub lent_text : {A E : Type 0} (result : Result A E) (line : LastLine) (operation : Option Operation) (before : declared.Kept) (ns journal lent : List Note) (all : List QueueNote) (out new : List ℕ) → all ≡ notes_of line ns → line ≡ last.World operation before → journal ≡ ns → lent ≡ reverse journal
    → OnOk result (new ≡ out ++ text_of (reverse (told operation (reverse lent) (kept_of before)))) → OnOk result (new ≡ out ++ text_of (reverse all))
lent_text (Ok a) line operation before ns journal lent all out new all_is line_is journal_is lent_is e =
    e
    ∙ ap (λ (before_line : List Note). out ++ text_of (reverse (told operation before_line (kept_of before)))) (turned_back ns journal lent journal_is lent_is)
    ∙ sym (ap (λ (told_notes : List QueueNote). out ++ text_of (reverse told_notes)) (all_is ∙ ap (λ l. notes_of l ns) line_is))
lent_text (Err error) line operation before ns journal lent all out new all_is line_is journal_is lent_is e = tt

-- what is kept behind a line
pub lent_kept : {E : Type 0} (result : Result declared.Kept E) (operation asked : Option Operation) (start before : Kept) (ns journal lent : List Note) → operation ≡ asked → start ≡ before → journal ≡ ns → lent ≡ reverse journal
    → IfOk result (λ kept. kept_of kept ≡ learned_all operation (reverse lent) start) → IfOk result (λ kept. kept_of kept ≡ learned_all asked ns before)
lent_kept (Ok kept) operation asked start before ns journal lent asked_is before_is journal_is lent_is e =
    e
    ∙ ap (λ (before_line : List Note). learned_all operation before_line start) (turned_back ns journal lent journal_is lent_is)
    ∙ ap (λ (o : Option Operation). learned_all o ns start) asked_is
    ∙ ap (learned_all asked ns) before_is
lent_kept (Err error) operation asked start before ns journal lent asked_is before_is journal_is lent_is e = tt

pub told_asked : {A E : Type 0} (result : Result A E) (operation asked : Option Operation) (ns : List Note) (before : Kept) → operation ≡ asked → OnOk result (told operation ns before ≡ told asked ns before)
told_asked (Ok a) operation asked ns before e = ap (λ o. told o ns before) e
told_asked (Err error) operation asked ns before e = tt

-- what a line makes of a world that is lent
pub happens_at : {A E : Type 0} (result : Result A E) (line : ℕ) (event : Event) (lent now : WorldState) (disks : List Disk) (faults : List ℕ) (new : Scene) → lent ≡ now → Happens line event (scene lent disks faults) new → OnOk result (Happens line event (scene now disks faults) new)
happens_at (Ok a) line event lent now disks faults new e h = subst (λ w. Happens line event (scene w disks faults) new) e h
happens_at (Err error) line event lent now disks faults new e h = tt

pub keeps_at : {A E : Type 0} (result : Result A E) (line : ℕ) (event : Event) (lent now : WorldState) (disks : List Disk) (faults : List ℕ) (new : Scene) → lent ≡ now → KeepsLaws line event (scene lent disks faults) new → OnOk result (KeepsLaws line event (scene now disks faults) new)
keeps_at (Ok a) line event lent now disks faults new e h = subst (λ w. KeepsLaws line event (scene w disks faults) new) e h
keeps_at (Err error) line event lent now disks faults new e h = tt

-- ---- a line of one note

alone_text : {A E : Type 0} (result : Result A E) (note : QueueNote) (all : List QueueNote) (out new : List ℕ) → all ≡ note ∷ [] → OnOk result (new ≡ out ++ note_text note) → OnOk result (new ≡ out ++ text_of (reverse all))
alone_text (Ok a) note all out new all_is e =
    e
    ∙ ap (λ (l : List ℕ). out ++ l) (sym (append-nil (note_text note)))
    ∙ sym (ap (λ (told_notes : List QueueNote). out ++ text_of (reverse told_notes)) all_is)
alone_text (Err error) note all out new all_is e = tt

pub idle_text : {A E : Type 0} (result : Result A E) (line : LastLine) (ns : List Note) (all : List QueueNote) (out new : List ℕ) → all ≡ notes_of line ns → line ≡ last.Idle → OnOk result (new ≡ out ++ note_text Idle) → OnOk result (new ≡ out ++ text_of (reverse all))
idle_text result line ns all out new all_is line_is e = alone_text result Idle all out new (all_is ∙ ap (λ l. notes_of l ns) line_is) e

pub submit_text : {A E : Type 0} (result : Result A E) (line : LastLine) (ns : List Note) (all : List QueueNote) (out new : List ℕ) (number lba : ℕ) (bytes lent : List ℕ) → all ≡ notes_of line ns → line ≡ last.Submit number lba bytes → lent ≡ bytes
    → OnOk result (new ≡ out ++ note_text (Submit number lba lent)) → OnOk result (new ≡ out ++ text_of (reverse all))
submit_text result line ns all out new number lba bytes lent all_is line_is lent_is e =
    alone_text result (Submit number lba lent) all out new (all_is ∙ ap (λ l. notes_of l ns) line_is ∙ ap (λ (b : List ℕ). Submit number lba b ∷ []) (sym lent_is)) e
