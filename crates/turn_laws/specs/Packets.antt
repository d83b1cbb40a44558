-- The packets of every run (IEEE 1394-1995, asynchronous packets), which is `packets` of the sent law: serials count from 1; what is not injected is canonical, from its sender's ID to its receiver's in its
-- sender's generation; and a request has the lowest label that serves it.
use Rattle.sbp_laws.specs.SentPackets.{SentAt}
use Rattle.sbp_laws.specs.Turns.{EachMoment}
use Rattle.turn_laws.specs.Runs.{OfEveryRun}

abbrev pub PacketsLaw : Type 0
PacketsLaw = OfEveryRun (λ start past. EachMoment SentAt past)
