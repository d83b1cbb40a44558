-- In every run the present list of an initiator is the latest one, and its ORBs stand.
use Rattle.sbp_world.proofs.Words.Std.{ℕ, List}
use Rattle.sbp_world.proofs.Words.Wire.{Moment}
use Rattle.sbp_world.proofs.Words.Initiator.{InitiatorState}
use Rattle.sbp_world.proofs.Words.Laws.{EachMoment}
use Rattle.sbp_world.proofs.Words.World.{IsHost, MayStand, MomentsLaw, IsPresent, PresentLaw}
use Rattle.sbp_world.proofs.Hosts.Runs.{run_law}
use Rattle.sbp_world.proofs.Lists.OpenListed.{stands_there}
use Rattle.sbp_world.proofs.Lists.OpenLists.{latest}

is_present : (past : List Moment) (i : ℕ) (s : InitiatorState) → EachMoment (MayStand i) past → IsHost past i s → IsPresent past i
is_present past i s m h = record {
  latest = λ n e. latest i n past m e;
  stands = λ n k e b none. stands_there past i n k s.lists.slots h.rows b none e;
}

pub present_law : MomentsLaw → PresentLaw
present_law moments = record {
  after_lines = λ line run r i b. is_present _ i _ (moments.after_lines line run r i b) (run_law.rows line run r i b);
  between = λ line run r next most told m i b. is_present _ i _ (moments.between line run r next most told m i b) (run_law.between line run r next most told m i b);
}
