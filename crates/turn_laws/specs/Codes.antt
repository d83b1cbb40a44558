-- The codes of illegal ORBs (NCITS 325-1998, command block ORB and page table): each end as illegal that a turn tells has the code of what comes to be checked in that turn,
-- the ORB or the page table. It is `codes` of the cause law.
use Rattle.std.specs.Prelude.{List}
use Rattle.rbc_disk.specs.Disk.{Disk}
use Rattle.sbp_laws.specs.Deaths.{IllegalsHaveCodes, illegal_in}
use Rattle.sbp_laws.specs.Turns.{EachTurn, Turn}
use Rattle.turn_laws.specs.Runs.{OfEveryRun}

abbrev pub EndsWithCodes : List Disk → Turn → Type 0
EndsWithCodes start t = IllegalsHaveCodes (illegal_in start t) t.rest

abbrev pub CodesLaw : Type 0
CodesLaw = OfEveryRun (λ start past. EachTurn (EndsWithCodes start) past)
