-- No agent dies, where each status that an agent writes is a status block, and goes to an open FIFO: in every run in which nobody injected packets and few logins were given.
use Rattle.sbp_world.proofs.Words.World.{FewLogins}
use Rattle.sbp_world.specs.Completing.Deaths.{LivesFewLaw}
use Rattle.sbp_world.specs.Completing.Writes.{AnsweredFewLaw, FifosOpenFewLaw}
use Rattle.sbp_world.proofs.Completing.DeathsAnswered.{answered_where}
use Rattle.sbp_world.proofs.Completing.FifosInside.{fifos_latest_where}
use Rattle.sbp_world.proofs.Completing.FifosReadable.{readable_law}
use Rattle.sbp_world.proofs.Completing.LatestLaws.{latest_fifos_law}
use Rattle.sbp_world.proofs.Completing.WritesAllowed.{accepted_where}
use Rattle.sbp_world.proofs.Completing.WritesFifos.{fifos_open_where}
use Rattle.sbp_world.proofs.Completing.WritesPlaces.{answered_there_where}
use Rattle.sbp_world.proofs.Completing.WritesStatuses.{statuses_accepted_where}
use Rattle.sbp_world.proofs.Lists.Beside.{few_back}

pub fifos_open_few : FifosOpenFewLaw
fifos_open_few = fifos_latest_where FewLogins latest_fifos_law

pub answered_few_law : AnsweredFewLaw
answered_few_law = answered_there_where FewLogins (accepted_where FewLogins few_back (statuses_accepted_where FewLogins (fifos_open_where FewLogins fifos_open_few readable_law)))

pub lives_few_law : LivesFewLaw
lives_few_law = answered_where FewLogins few_back answered_few_law
