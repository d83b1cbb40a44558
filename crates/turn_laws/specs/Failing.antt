-- The rows of a failure of the management operation (NCITS 325-1998, management agent): its request timed out, finds no label, was answered by another rcode than 0, or brought a payload
-- of another length than it asked for. It is `failing` of the cause law.
use Rattle.std.specs.Prelude.{List}
use Rattle.rbc_disk.specs.Disk.{Disk}
use Rattle.sbp_laws.specs.Agents.{target_before}
use Rattle.sbp_laws.specs.Deaths.{FailuresHaveRows}
use Rattle.sbp_laws.specs.Turns.{EachTurn, Turn}
use Rattle.turn_laws.specs.Runs.{OfEveryRun}

abbrev pub FailsByRows : List Disk → Turn → Type 0
FailsByRows start t = FailuresHaveRows (target_before start t) t t.rest

abbrev pub FailingLaw : Type 0
FailingLaw = OfEveryRun (λ start past. EachTurn (FailsByRows start) past)
