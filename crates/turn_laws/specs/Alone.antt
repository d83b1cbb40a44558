-- A second unsolicited status is kept back (NCITS 325-1998, unsolicited status): none is sent to an initiator to which an earlier one is under way, or rests with its label.
use Rattle.std.specs.Prelude.{◌≡◌, ℕ, suc, false, List, [], ◌∷◌}
use Rattle.std.specs.List.{list_any}
use Rattle.rbc_disk.specs.Disk.{Disk}
use Rattle.sbp_journal.specs.Wire.{Terms}
use Rattle.sbp_journal.specs.declared.note.Note.{Note}
use Rattle.sbp_journal.specs.declared.note.Note.TheVariants as notes
use Rattle.sbp_laws.specs.Agents.{target_before, wire_after}
use Rattle.sbp_laws.specs.MediaLaw.{is_pending, is_push_note}
use Rattle.sbp_laws.specs.NoteKinds.{of_kind}
use Rattle.sbp_laws.specs.Turns.{EachTurn, Turn}
use Rattle.turn_laws.specs.Runs.{OfEveryRun}

abbrev pub AreAlone : Terms → (pushes : List ℕ) → List Note → Type 0
AreAlone wire pushes [] = Unit {0}
AreAlone wire pushes (notes.Unsolicited i ∷ rest) = (list_any (is_pending wire (suc i)) pushes ≡ false) × AreAlone wire pushes rest
AreAlone wire pushes (note ∷ rest) = AreAlone wire pushes rest

abbrev pub PushesAlone : List Disk → Turn → Type 0
PushesAlone start t = AreAlone (wire_after t) (target_before start t).pushes (of_kind is_push_note t.rest)

abbrev pub AloneLaw : Type 0
AloneLaw = OfEveryRun (λ start past. EachTurn (PushesAlone start) past)
