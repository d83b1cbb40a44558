-- The decisions that a turn tells (NCITS 325-1998, management agent): `mgmt` stands exactly where the operation of the terms decides, with its initiator, the function and the subject of its ORB, the status of
-- the decision, and the ID of the login where one was granted. It is the second field of the login law.
use Rattle.std.specs.Prelude.{◌≡◌, List}
use Rattle.rbc_disk.specs.Disk.{Disk}
use Rattle.sbp_laws.specs.Agents.{target_before}
use Rattle.sbp_laws.specs.LoginLaw.{is_decision_note}
use Rattle.sbp_laws.specs.Management.{decisions_due}
use Rattle.sbp_laws.specs.NoteKinds.{of_kind}
use Rattle.sbp_laws.specs.Turns.{Turn}

abbrev pub DecidesWhereDue : List Disk → Turn → Type 0
DecidesWhereDue start t = of_kind is_decision_note t.rest ≡ decisions_due (target_before start t) t
