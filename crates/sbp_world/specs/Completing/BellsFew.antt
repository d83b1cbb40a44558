-- Each rung ORB of a list that is present at rest has ended, where no initiator injected packets and few logins were given (NCITS 325-1998, ORB_POINTER and DOORBELL registers): each write of ORB_POINTER that waits finds the login of
-- its initiator then, so each list that was not cut, and for which that write was taken, is at an agent which has had it since; and each quadlet that a ring wrote once it was got, is got there.
use Rattle.std.specs.Prelude.{◌≡◌}
use Rattle.sbp_laws.specs.Budget.{Lossless}
use Rattle.sbp_laws.specs.Completion.{in_the_air}
use Rattle.sbp_laws.specs.Lawful.{injectors}
use Rattle.sbp_world.specs.Completing.BellsFound.{AreQuadletsGot}
use Rattle.sbp_world.specs.Completing.BellsOpened.{AreOpenings}
use Rattle.sbp_world.specs.Completing.Done.{RungEnded}
use Rattle.sbp_world.specs.Completing.Labels.{AlwaysFrom}
use Rattle.sbp_world.specs.Lists.FewLogins.{FewLogins}
use Rattle.sbp_world.specs.Lists.OwnLogins.{IsTame}

abbrev pub OpeningsFewLaw : Type 0
OpeningsFewLaw = AlwaysFrom (λ start past w. FewLogins past → AreOpenings (injectors past) start past w)

abbrev pub QuadletsGotFewLaw : Type 0
QuadletsGotFewLaw = AlwaysFrom (λ start past w. FewLogins past → IsTame past → Lossless past → in_the_air past ≡ 0 → AreQuadletsGot start past w)

abbrev pub RungEndedFewLaw : Type 0
RungEndedFewLaw = AlwaysFrom (λ start past w. FewLogins past → RungEnded start past w)
