-- No agent dies, where what agents ask for is answered complete.
use Rattle.sbp_world.proofs.Words.Std.{List, ◌++◌}
use Rattle.sbp_world.proofs.Words.Wire.{Moment}
use Rattle.sbp_world.specs.Completing.Deaths.{MainAnsweredThere, NoneDied}
use Rattle.sbp_world.specs.Completing.Labels.{AlwaysWhere}
use Rattle.sbp_world.proofs.Completing.DeathsFinding.{finding_law}
use Rattle.sbp_world.proofs.Completing.DeathsGiven.{given_where}
use Rattle.sbp_world.proofs.Completing.DeathsGoing.{living_where}

-- so it is where a condition holds that held before wherever it does
pub answered_where : (While : List Moment → Type 0) → ((later past : List Moment) → While (later ++ past) → While past) → AlwaysWhere While MainAnsweredThere → AlwaysWhere While NoneDied
answered_where While back answered = living_where While back (given_where While answered) finding_law
