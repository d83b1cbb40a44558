-- What is known, in every run, of the writes of ORB_POINTER, of the moments of lists, of generations and of registers: by it a list that an agent has open is the
-- present one.
use Rattle.sbp_world.proofs.Words.World.{AreHere, Under, WhereTameOrFew, LiveLaw, NoneRefused}
use Rattle.sbp_world.proofs.Pointers.Based.{registers_law}
use Rattle.sbp_world.proofs.Pointers.Proved.{moments_law, pointers_law}
use Rattle.sbp_world.proofs.Sessions.HoldingRuns.{holding_law}
use Rattle.sbp_world.proofs.Sessions.Runs.{caught_between_law, caught_law, joined_law}
use Rattle.sbp_world.proofs.Lists.Bases.{bases_law}
use Rattle.sbp_world.proofs.Lists.Begun.{begun_law}
use Rattle.sbp_world.proofs.Lists.Courses.{EveryPlace}
use Rattle.sbp_world.proofs.Lists.Firsts.{first_law}
use Rattle.sbp_world.proofs.Lists.LiveGiven.{LawsAt}
use Rattle.sbp_world.proofs.Lists.OpenedLaws.{here_law}
use Rattle.sbp_world.proofs.Lists.OpenedPlaces.{Laws}

pub laws : Laws
laws = record {
  pointers = pointers_law;
  moments = moments_law;
  caught = caught_law;
  caught_between = caught_between_law;
  joined = joined_law;
  begun = begun_law pointers_law moments_law joined_law;
  firsts = first_law;
  bases = bases_law registers_law holding_law;
}

-- where no initiator injected packets, or few logins were given: by the logins of the initiators' nodes, and as no logout is refused
pub lists_here : EveryPlace LawsAt → LiveLaw → Under (WhereTameOrFew NoneRefused) → Under (WhereTameOrFew AreHere)
lists_here = here_law laws
