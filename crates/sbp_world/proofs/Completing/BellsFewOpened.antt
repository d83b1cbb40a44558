-- Where few logins were given, each list that was not cut, and for which the write of ORB_POINTER was taken, is at an agent that was in RESET then and has had it since; and what is known beside that of each place.
use Rattle.sbp_world.proofs.Words.Std.{inr, List}
use Rattle.sbp_world.proofs.Words.Wire.{Moment}
use Rattle.sbp_world.proofs.Words.Target.{Disk}
use Rattle.sbp_world.proofs.Words.Laws.{injectors}
use Rattle.sbp_world.proofs.Words.World.{AreApart, FewLogins, UnderFrom, WorldState, more_deliveries}
use Rattle.sbp_world.specs.Completing.BellsFew.{OpeningsFewLaw}
use Rattle.sbp_world.specs.Completing.BellsFree.{AreBellsFree}
use Rattle.sbp_world.specs.Completing.BellsOpened.{AreOpenings}
use Rattle.sbp_world.proofs.Completing.BellsFreeRuns.{bells_free_law}
use Rattle.sbp_world.proofs.Completing.BellsNamedRuns.{lists_then_law}
use Rattle.sbp_world.proofs.Completing.BellsOpened.{Since, first_openings, turn_openings}
use Rattle.sbp_world.proofs.Completing.PresentLaws.{kit_few}
use Rattle.sbp_world.proofs.Lists.Beside.{few_back}
use Rattle.sbp_world.proofs.Lists.Clauses.{open_lists_law}
use Rattle.sbp_world.proofs.Lists.Courses.{more_than_one}
use Rattle.sbp_world.proofs.Lists.DataLaws.{names_by}
use Rattle.sbp_world.proofs.Lists.ListsProved.{closing}
use Rattle.sbp_world.proofs.Lists.OneUp.{one_up_law}
use Rattle.sbp_world.proofs.Lists.ShortLines.{short_law}
use Rattle.sbp_world.proofs.Lists.StatusRested.{Grounds}
use Rattle.sbp_world.proofs.Lists.TameWalks.{from_after, from_between}
use Rattle.sbp_world.proofs.Lists.FaultRuns.{grounds}

since_few : UnderFrom (λ start past w. FewLogins past → Since start past w)
since_few = record {
  after_lines = λ line run r has small size so_far few. record {
    kit = kit_few.after_lines line run r has small size so_far few;
    lists_then = lists_then_law.after_lines line run r has small size so_far (inr few);
    names = λ i b own. (names_by short_law).after_lines line run r has small size so_far (inr few) i b own;
  };
  between = λ line run r has small size next most told m so_far few. record {
    kit = kit_few.between line run r has small size next most told m so_far few;
    lists_then = lists_then_law.between line run r has small size next most told m so_far (inr few);
    names = λ i b own. (names_by short_law).between line run r has small size next most told m so_far (inr few) i b own;
  };
}

pub openings_few_law : OpeningsFewLaw
openings_few_law = record {
  after_lines = λ line run r has small size few.
      from_after FewLogins few_back Grounds Since (λ start wild past w. AreOpenings wild start past w) grounds since_few (λ wild units ready has start past s later t step a. turn_openings wild units ready has start past s later t step a) first_openings line run
      r has small size (closing.before open_lists_law line run r has small size (inr few)) few;
  between = λ line run r has small size next most told m few.
      from_between FewLogins few_back Grounds Since (λ start wild past w. AreOpenings wild start past w) grounds since_few (λ wild units ready has start past s later t step a. turn_openings wild units ready has start past s later t step a) first_openings line
      run r has small size next (more_deliveries most) (more_than_one most) told m (closing.between open_lists_law line run r has small size next (more_deliveries most) (more_than_one most) told m (inr few)) few;
}

-- ---- what is known of a place
pub record Opened (start : List Disk) (past : List Moment) (w : WorldState) : Type 0 where
  pub since : Since start past w
  pub openings : AreOpenings (injectors past) start past w
  pub apart : AreApart past w
  pub free : AreBellsFree past w

pub opened_few : UnderFrom (λ start past w. FewLogins past → Opened start past w)
opened_few = record {
  after_lines = λ line run r has small size so_far few. record {
    since = since_few.after_lines line run r has small size so_far few;
    openings = openings_few_law.after_lines line run r has small size few;
    apart = (one_up_law short_law open_lists_law).after_lines line run r has small size (inr few);
    free = bells_free_law.after_lines line run r has small size;
  };
  between = λ line run r has small size next most told m so_far few. record {
    since = since_few.between line run r has small size next most told m so_far few;
    openings = openings_few_law.between line run r has small size next most told m few;
    apart = (one_up_law short_law open_lists_law).between line run r has small size next most told m (inr few);
    free = bells_free_law.between line run r has small size next most told m;
  };
}
