-- A list has at most one `dead` (NCITS 325-1998, command block agents): a turn tells at most one, and none where the agent that it takes on is DEAD already.
use Rattle.std.specs.Prelude.{◌≡◌, false, List}
use Rattle.rbc_disk.specs.Disk.{Disk}
use Rattle.sbp_laws.specs.Deaths.{dies_again}
use Rattle.sbp_laws.specs.Turns.{EachTurn, Turn}
use Rattle.turn_laws.specs.Runs.{OfEveryRun}

abbrev pub DiesOnce : List Disk → Turn → Type 0
DiesOnce start t = dies_again start t ≡ false

abbrev pub OnceLaw : Type 0
OnceLaw = OfEveryRun (λ start past. EachTurn (DiesOnce start) past)
