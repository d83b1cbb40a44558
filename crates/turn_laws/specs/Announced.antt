-- Who is told of a disc (NCITS 325-1998, unsolicited status): in the delivery in which a command loads a disc into the empty tray of a unit each other live login of that unit whose
-- register is enabled has one note, `unsolicited` or `unsent`, by rising place. No other turn has such a note.
use Rattle.std.specs.Prelude.{◌≡◌, ℕ, List, map}
use Rattle.rbc_disk.specs.Disk.{Disk}
use Rattle.sbp_journal.specs.declared.note.Note.{Note}
use Rattle.sbp_journal.specs.declared.note.Note.TheVariants as notes
use Rattle.sbp_laws.specs.Agents.{target_before, wire_after}
use Rattle.sbp_laws.specs.MediaLaw.{is_push_note, logins_told}
use Rattle.sbp_laws.specs.NoteKinds.{of_kind}
use Rattle.sbp_laws.specs.Targets.{initiator_with}
use Rattle.sbp_laws.specs.Turns.{EachTurn, Turn}
use Rattle.turn_laws.specs.Runs.{OfEveryRun}

-- the initiator that a note of an unsolicited status names
abbrev pub hearer : Note → ℕ
hearer (notes.Unsolicited i) = i
hearer (notes.Unsent i) = i
hearer note = 0

abbrev pub AnnouncesWhereDue : List Disk → Turn → Type 0
AnnouncesWhereDue start t =
    map hearer (of_kind is_push_note t.rest) ≡ map (λ login. initiator_with (wire_after t) login.node) (logins_told (target_before start t) t)

abbrev pub AnnouncedLaw : Type 0
AnnouncedLaw = OfEveryRun (λ start past. EachTurn (AnnouncesWhereDue start) past)
