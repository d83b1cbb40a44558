-- The failures of the management operation (NCITS 325-1998, management agent): `mgmtfail` stands exactly where a reply fails the operation of the terms, or its request finds no label
-- to its initiator, with the cause. It is `failures` of the cause law.
use Rattle.std.specs.Prelude.{◌≡◌, List}
use Rattle.rbc_disk.specs.Disk.{Disk}
use Rattle.sbp_laws.specs.Agents.{target_before}
use Rattle.sbp_laws.specs.Management.{failures_due}
use Rattle.sbp_laws.specs.NoteKinds.{is_failure_note, of_kind}
use Rattle.sbp_laws.specs.Turns.{EachTurn, Turn}
use Rattle.turn_laws.specs.Runs.{OfEveryRun}

abbrev pub FailsWhereDue : List Disk → Turn → Type 0
FailsWhereDue start t = of_kind is_failure_note t.rest ≡ failures_due (target_before start t) t

abbrev pub FailuresLaw : Type 0
FailuresLaw = OfEveryRun (λ start past. EachTurn (FailsWhereDue start) past)
