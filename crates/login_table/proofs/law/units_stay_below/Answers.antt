use Rattle.login_table.proofs.Units.{units_stay_below}
use Rattle.login_table.proofs.law.units_stay_below.Goals as goal

pub returns : goal.returns
returns c = units_stay_below
