-- No end goes unheard (NCITS 325-1998, status block): a label serves the status write of each end of an ORB that a turn tells, to the FIFO of the login, with the address of
-- the ORB's slot and the src of its next pointer; or none does, and then the turn tells a death. It is `silent` of the cause law.
use Rattle.std.specs.Prelude.{◌≡◌, false, List}
use Rattle.rbc_disk.specs.Disk.{Disk}
use Rattle.sbp_laws.specs.SentWrites.{ends_silently}
use Rattle.sbp_laws.specs.Turns.{EachTurn, Turn}
use Rattle.turn_laws.specs.Runs.{OfEveryRun}

abbrev pub EndsHeard : List Disk → Turn → Type 0
EndsHeard start t = ends_silently start t ≡ false

abbrev pub SilentLaw : Type 0
SilentLaw = OfEveryRun (λ start past. EachTurn (EndsHeard start) past)
