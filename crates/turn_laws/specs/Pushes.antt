-- Who is sent an unsolicited status, and who is not (NCITS 325-1998, unsolicited status): in each turn the notes of unsolicited statuses are those that the media law has for the logins
-- that hear of the turn's load. `unsolicited` stands where the write finds a label to its initiator, and no earlier one to it is under way and the label of none rests, and else `unsent`.
use Rattle.std.specs.Prelude.{◌≡◌, List}
use Rattle.rbc_disk.specs.Disk.{Disk}
use Rattle.sbp_laws.specs.Agents.{target_before, wire_after}
use Rattle.sbp_laws.specs.MediaLaw.{is_push_note, logins_told, push_notes}
use Rattle.sbp_laws.specs.NoteKinds.{of_kind}
use Rattle.sbp_laws.specs.Turns.{EachTurn, Turn}
use Rattle.turn_laws.specs.Runs.{OfEveryRun}

abbrev pub PushesWhereDue : List Disk → Turn → Type 0
PushesWhereDue start t = of_kind is_push_note t.rest ≡ push_notes (target_before start t) (wire_after t) (logins_told (target_before start t) t)

abbrev pub PushesLaw : Type 0
PushesLaw = OfEveryRun (λ start past. EachTurn (PushesWhereDue start) past)
