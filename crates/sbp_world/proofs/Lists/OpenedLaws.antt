-- For which list an agent is out of RESET, and that a list which an agent has open is the present one, at each place of a run before which lists were open as they should be.
use Rattle.sbp_world.proofs.Words.World.{AreHere, Under, WhereTameOrFew, LiveLaw, AreAllOpenFor, NoneRefused}
use Rattle.sbp_world.proofs.Lists.Courses.{EveryPlace}
use Rattle.sbp_world.proofs.Lists.LiveGiven.{LawsAt}
use Rattle.sbp_world.proofs.Lists.OpenedHere.{here_of}
use Rattle.sbp_world.proofs.Lists.OpenedMinded.{minded_law}
use Rattle.sbp_world.proofs.Lists.OpenedPlaces.{Laws, ManagementLaw}
use Rattle.sbp_world.proofs.Lists.OpenedProved.{open_after, open_between}
use Rattle.sbp_world.proofs.Lists.OpenedTelling.{telling}

-- where no initiator injected packets, or few logins were given
pub opened_law : Laws → ManagementLaw → Under (WhereTameOrFew AreAllOpenFor)
opened_law laws management = record {
  after_lines = λ line run r has small size so_far beside. open_after telling laws management line run r has small size so_far beside;
  between = λ line run r has small size next most told m so_far beside. open_between telling laws management line run r has small size next most told m so_far beside;
}

-- by the logins of the initiators' nodes, and as no logout is refused
pub here_law : Laws → EveryPlace LawsAt → LiveLaw → Under (WhereTameOrFew NoneRefused) → Under (WhereTameOrFew AreHere)
here_law laws known live unrefused = here_of (opened_law laws (record { unrefused = unrefused; minded = minded_law known live }))
