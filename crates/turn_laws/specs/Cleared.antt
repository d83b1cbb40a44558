-- The units that a turn clears (NCITS 325-1998, task management: logical unit reset and target reset): `cleared` stands exactly where the decision of the turn resets a unit, or the target,
-- in which case each unit is cleared, by rising number.
use Rattle.std.specs.Prelude.{◌≡◌, List}
use Rattle.rbc_disk.specs.Disk.{Disk}
use Rattle.sbp_laws.specs.Agents.{target_before}
use Rattle.sbp_laws.specs.Management.{cleared_due}
use Rattle.sbp_laws.specs.NoteKinds.{is_cleared_note, of_kind}
use Rattle.sbp_laws.specs.Turns.{EachTurn, Turn}
use Rattle.turn_laws.specs.Runs.{OfEveryRun}

abbrev pub ClearsWhereDue : List Disk → Turn → Type 0
ClearsWhereDue start t = of_kind is_cleared_note t.rest ≡ cleared_due (target_before start t) t

abbrev pub ClearedLaw : Type 0
ClearedLaw = OfEveryRun (λ start past. EachTurn (ClearsWhereDue start) past)
