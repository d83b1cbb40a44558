-- The rows of `dead` (NCITS 325-1998, agents): each death that a turn tells has the cause that it names in that turn. A main transaction timed out, found no label, was answered by another rcode than 0, or brought a
-- payload of another length than it asked for; or the ORB or the page table that came to be checked is illegal. It is `deaths` of the cause law.
use Rattle.std.specs.Prelude.{List}
use Rattle.rbc_disk.specs.Disk.{Disk}
use Rattle.sbp_laws.specs.Deaths.{DeathsHaveRows}
use Rattle.sbp_laws.specs.Turns.{EachTurn, Turn}
use Rattle.turn_laws.specs.Runs.{OfEveryRun}

abbrev pub DiesByRows : List Disk → Turn → Type 0
DiesByRows start t = DeathsHaveRows start t t.rest

abbrev pub DeathsLaw : Type 0
DeathsLaw = OfEveryRun (λ start past. EachTurn (DiesByRows start) past)
