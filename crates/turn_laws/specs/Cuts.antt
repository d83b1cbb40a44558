-- The lists that a turn cuts (NCITS 325-1998, AGENT_RESET, task management, resets): `cut` stands exactly where AGENT_RESET of an agent is written, or the decision of the turn resets
-- agents, or the target sees a reset that is new to it; one for each such agent that is not in RESET, by rising place, with the list that its pointer named as it was taken.
use Rattle.std.specs.Prelude.{◌≡◌, List}
use Rattle.rbc_disk.specs.Disk.{Disk}
use Rattle.sbp_laws.specs.Agents.{target_before}
use Rattle.sbp_laws.specs.Management.{cuts_due}
use Rattle.sbp_laws.specs.NoteKinds.{is_cut_note, of_kind}
use Rattle.sbp_laws.specs.Turns.{EachTurn, Turn}
use Rattle.turn_laws.specs.Runs.{OfEveryRun}

abbrev pub CutsWhereDue : List Disk → Turn → Type 0
CutsWhereDue start t = of_kind is_cut_note t.rest ≡ cuts_due start (target_before start t) t

abbrev pub CutsLaw : Type 0
CutsLaw = OfEveryRun (λ start past. EachTurn (CutsWhereDue start) past)
