-- The deaths and ends that a turn tells (NCITS 325-1998, agents): `dead` and `ended` stand exactly where the step of an agent brings them, at a reply, a time-out, a pointer or a doorbell, or where its first
-- request finds no label; a `dead` before the end that it brings, or behind the one whose status write finds no label; each with the initiator, the list and the ORB that the history names.
use Rattle.std.specs.Prelude.{◌≡◌, List}
use Rattle.rbc_disk.specs.Disk.{Disk}
use Rattle.sbp_laws.specs.Deaths.{ends_due}
use Rattle.sbp_laws.specs.NoteKinds.{is_end_note, of_kind}
use Rattle.sbp_laws.specs.Turns.{EachTurn, Turn}
use Rattle.turn_laws.specs.Runs.{OfEveryRun}

abbrev pub EndsWhereDue : List Disk → Turn → Type 0
EndsWhereDue start t = of_kind is_end_note t.rest ≡ ends_due start t

abbrev pub EndsLaw : Type 0
EndsLaw = OfEveryRun (λ start past. EachTurn (EndsWhereDue start) past)
