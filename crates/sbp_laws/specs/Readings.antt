-- The laws, read in the order of time.
use Rattle.std.specs.Prelude.{ℕ, Bool, List}
use Rattle.sbp_journal.specs.Run.{Moment}
use Rattle.sbp_laws.specs.OrderLaw.{OrderLaw, EndInTurn}

-- The order law says so of any number of initiators and lists.
abbrev pub InTurnLaw : Type 0
InTurnLaw = (wild : ℕ → Bool) (past : List Moment) → OrderLaw wild past → EndInTurn wild past
