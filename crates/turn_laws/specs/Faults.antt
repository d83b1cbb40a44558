-- What faults follow (NCITS 325-1998, agents: a transport failure or an illegal ORB makes the agent dead): in each turn an ORB ends as failed or illegal only directly behind the `dead` of its initiator. It is `faults` of the
-- cause law.
use Rattle.std.specs.Prelude.{None}
use Rattle.sbp_laws.specs.Deaths.{FaultsFollowDeaths}
use Rattle.sbp_laws.specs.Turns.{EachTurn, Turn}
use Rattle.turn_laws.specs.Runs.{OfEveryRun}

abbrev pub DiesBeforeFaults : Turn → Type 0
DiesBeforeFaults t = FaultsFollowDeaths None t.rest

abbrev pub FaultsLaw : Type 0
FaultsLaw = OfEveryRun (λ start past. EachTurn DiesBeforeFaults past)
