-- The notes of operations, lists and sessions of initiators among those that a call hands out: the target tells none, and of what an initiator tells they are those that are of the kind.
use Rattle.std.proofs.Common.{[], Bool, List, None, Option, Some, ap, cond, false, nat_lt, refl, sym, true, ℕ, ◌++◌, ◌∙◌, ◌∷◌, ◌≡◌}
use Rattle.std.proofs.lemmas.List.Elements.{filter-append}
use Rattle.sbp_journal.specs.Outgoings.{OutboxState}
use Rattle.sbp_journal.specs.declared.note.Note.{Note}
use Rattle.sbp_journal.specs.declared.note.Note.TheVariants as notes
use Rattle.sbp_journal.specs.declared.operation.Operation.TheVariants as operations
use Rattle.sbp_journal.specs.declared.side.Side.{Side}
use Rattle.sbp_journal.specs.declared.side.Side.TheVariants as sides
use Rattle.sbp_laws.specs.Hosts.{StateRead, Underway}
use Rattle.sbp_laws.specs.NoteKinds.{is_operation_note, of_kind}
use Rattle.sbp_laws.specs.Operations.{End, drop_note, end_notes, reset_op, reset_ops, reset_reads, stuck_note}
use Rattle.sbp_world.specs.Hosts.Handing.{AreOthers, IsOther}
use Rattle.sbp_world.specs.Telling.{told as told_one}
use Rattle.sbp_world.specs.Worlds.{WorldState}
use Rattle.turn_laws.proofs.Handed.{handed, note_of, notes_told}
use Rattle.sbp_world.proofs.Common.{untrue}
use Rattle.turn_laws.proofs.KindNotes.{IsToldKind, kind_handed, none_behind}
use Rattle.turn_laws.proofs.OwnEnds.{own}
use Rattle.turn_laws.specs.Operations.{is_ending_note}

pub is_told : IsToldKind is_operation_note
is_told = record { no_packet = λ serial generation from to bytes. refl }

abbrev pub Ops : List Note → List Note
Ops told_notes = of_kind is_operation_note told_notes

both : (a b : List Note) → Ops (a ++ b) ≡ Ops a ++ Ops b
both a b = filter-append is_operation_note a b

-- ---- the target tells none
one_none : (side : Side) (w : WorldState) → IsOther side → Ops (note_of side w) ≡ []
one_none (sides.Own note) w o = absurd o
one_none (sides.Opened place orb) w o = refl
one_none (sides.Ran place orb cdb payload outcome) w o = refl
one_none (sides.Ended place orb status) w o = refl
one_none (sides.Dead place cause) w o = refl
one_none (sides.Cut place cause) w o = refl
one_none (sides.Managed node function subject status login) w o = refl
one_none (sides.ManageFailed node cause) w o = refl
one_none (sides.Held login) w o = refl
one_none (sides.Expired login) w o = refl
one_none (sides.Back login) w o = refl
one_none (sides.Left login) w o = refl
one_none (sides.Cleared unit) w o = refl
one_none (sides.Unsolicited place) w o = refl
one_none (sides.Unsent place) w o = refl

others_none : (weight : ℕ) (later : List Side) (w : WorldState) → AreOthers later → Ops (notes_told weight later w) ≡ []
others_none weight [] w o = refl
others_none weight (side ∷ later) w o =
    let v = told_one weight side w in
    both (note_of side w) (notes_told weight later v) ∙ ap (λ ns. ns ++ Ops (notes_told weight later v)) (one_none side w o.0) ∙ others_none weight later v o.1

pub target_none : (outbox : OutboxState) (w : WorldState) → AreOthers outbox.sides → Ops (handed 0 0 outbox w) ≡ []
target_none outbox w o = kind_handed is_operation_note is_told 0 0 outbox w ∙ others_none 0 outbox.sides w o

-- ---- an initiator tells its own
pub own_told : (weight : ℕ) (told_notes : List Note) (w : WorldState) → notes_told weight (own told_notes) w ≡ told_notes
own_told weight [] w = refl
own_told weight (note ∷ later) w = ap (λ ns. note ∷ ns) (own_told weight later (told_one weight (sides.Own note) w))

pub own_are : (node weight : ℕ) (outbox : OutboxState) (w : WorldState) (told_notes : List Note) → outbox.sides ≡ own told_notes → Ops (handed node weight outbox w) ≡ Ops told_notes
own_are node weight outbox w told_notes e =
    kind_handed is_operation_note is_told node weight outbox w
    ∙ ap (λ s. Ops (notes_told weight s w)) e ∙ ap Ops (own_told weight told_notes w)

-- ---- what the laws have of an end, of a session and of a reset is of the kind
drops_kept : (i : ℕ) (drops : Bool) (present : Option ℕ) → Ops (drop_note i drops present) ≡ drop_note i drops present
drops_kept i true (Some n) = refl
drops_kept i true None = refl
drops_kept i false present = refl

ends_kept : (i : ℕ) (end : Option End) (present : Option ℕ) → Ops (end_notes i end present) ≡ end_notes i end present
ends_kept i None present = refl
ends_kept i (Some end) present =
    both (drop_note i end.drops present) (notes.Op i end.operation end.word ∷ []) ∙ ap (λ ns. ns ++ (notes.Op i end.operation end.word ∷ [])) (drops_kept i end.drops present)

sticks_kept : (i : ℕ) (stuck : Bool) → Ops (stuck_note i stuck) ≡ stuck_note i stuck
sticks_kept i true = refl
sticks_kept i false = refl

pub end_kept : (i : ℕ) (end : Option End) (present : Option ℕ) → Ops (end_notes i end present) ≡ end_notes i end present
end_kept i end present = ends_kept i end present

pub reply_kept : (i : ℕ) (end : Option End) (present : Option ℕ) (stuck : Bool) → Ops (end_notes i end present ++ stuck_note i stuck) ≡ end_notes i end present ++ stuck_note i stuck
reply_kept i end present stuck =
    both (end_notes i end present) (stuck_note i stuck)
    ∙ ap (λ ns. ns ++ Ops (stuck_note i stuck)) (ends_kept i end present) ∙ ap (λ ns. end_notes i end present ++ ns) (sticks_kept i stuck)

reads_kept : (i : ℕ) (reads : List StateRead) → Ops (reset_reads i reads) ≡ reset_reads i reads
reads_kept i [] = refl
reads_kept i (read ∷ reads) = ap (λ ns. reset_op i operations.State ∷ ns) (reads_kept i reads)

abbrev first_op : (i : ℕ) → Underway → StateRead → List StateRead → Bool → List Note
first_op i underway read reads b = cond b (reset_op i underway.operation ∷ reset_reads i (read ∷ reads)) (reset_op i operations.State ∷ reset_ops i (Some underway) reads)

first_kept : (i : ℕ) (underway : Underway) (read : StateRead) (reads : List StateRead) → Ops (reset_ops i (Some underway) reads) ≡ reset_ops i (Some underway) reads → (b : Bool) → Ops (first_op i underway read reads b) ≡ first_op i underway read reads b
first_kept i underway read reads rest true = ap (λ ns. reset_op i underway.operation ∷ ns) (reads_kept i (read ∷ reads))
first_kept i underway read reads rest false = ap (λ ns. reset_op i operations.State ∷ ns) rest

resets_kept : (i : ℕ) (u : Option Underway) (reads : List StateRead) → Ops (reset_ops i u reads) ≡ reset_ops i u reads
resets_kept i None reads = reads_kept i reads
resets_kept i (Some underway) [] = refl
resets_kept i (Some underway) (read ∷ reads) = first_kept i underway read reads (resets_kept i (Some underway) reads) (nat_lt underway.first read.serial)

pub sight_kept : (i : ℕ) (u : Option Underway) (reads : List StateRead) (present : Option ℕ) → Ops (reset_ops i u reads ++ drop_note i true present) ≡ reset_ops i u reads ++ drop_note i true present
sight_kept i u reads present =
    both (reset_ops i u reads) (drop_note i true present)
    ∙ ap (λ ns. ns ++ Ops (drop_note i true present)) (resets_kept i u reads) ∙ ap (λ ns. reset_ops i u reads ++ ns) (drops_kept i true present)

-- ---- the ends of operations and of lists among them
abbrev pub Ends : List Note → List Note
Ends told_notes = of_kind is_ending_note told_notes

ends_kind : (note : Note) → is_operation_note note ≡ false → is_ending_note note ≡ false
ends_kind (notes.Op i operation word) e = untrue (sym e)
ends_kind (notes.Drop i n) e = untrue (sym e)
ends_kind note e = refl

pub ends_of : (ns : List Note) → Ends (Ops ns) ≡ Ends ns
ends_of [] = refl
ends_of (note ∷ ns) = by (ends_of ns) (is_operation_note note) refl
  where
    by : Ends (Ops ns) ≡ Ends ns → (b : Bool) → is_operation_note note ≡ b → Ends (cond b (note ∷ Ops ns) (Ops ns)) ≡ Ends (note ∷ ns)
    by more true e = ap (λ xs. cond (is_ending_note note) (note ∷ xs) xs) more
    by more false e = more ∙ ap (λ b. cond b (note ∷ Ends ns) (Ends ns)) (sym (ends_kind note e))

-- whether a session becomes stuck is none of them
pub ends_unstuck : (ns : List Note) (i : ℕ) (stuck : Bool) → Ends (ns ++ stuck_note i stuck) ≡ Ends ns
ends_unstuck ns i stuck = filter-append is_ending_note ns (stuck_note i stuck) ∙ by stuck
  where
    by : (b : Bool) → Ends ns ++ Ends (stuck_note i b) ≡ Ends ns
    by true = none_behind (Ends ns)
    by false = none_behind (Ends ns)
