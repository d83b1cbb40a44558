-- In every run the lists of an initiator begin in generations that the target has seen, and a write of ORB_POINTER that waits is for the latest one.
use Rattle.sbp_world.proofs.Words.Std.{ℕ, List}
use Rattle.sbp_world.proofs.Words.Wire.{Moment}
use Rattle.sbp_world.proofs.Words.Laws.{EachMoment}
use Rattle.sbp_world.proofs.Words.World.{MayStand, MomentsLaw, PointersAt, PointersLaw, JoinedLaw, AreBegun, BegunLaw}
use Rattle.sbp_world.proofs.Lists.JoinLaws.{begins_after, begins_between, rises_after, rises_between}
use Rattle.sbp_world.proofs.Lists.JoinRuns.{begun_low, waits_latest}
use Rattle.sbp_world.proofs.Lists.Joins.{Begins}
use Rattle.sbp_world.proofs.Lists.Rises.{Rises}

are_begun : (past : List Moment) (i : ℕ) → Begins i past → Rises past → EachMoment (MayStand i) past → PointersAt past i → AreBegun past i
are_begun past i b r m p = record {
  seen = λ n l. begun_low i n past b r m l;
  waiting = λ calm serial n sent e f g h. waits_latest past i b r m p calm serial n sent e f g h;
}

pub begun_law : PointersLaw → MomentsLaw → JoinedLaw → BegunLaw
begun_law pointers moments joined = record {
  after_lines = λ line run r has small size i b. are_begun _ i (begins_after joined line run has small size r i b) (rises_after joined line run has small size r) (moments.after_lines line run r i b) (pointers.after_lines line run r i b);
  between = λ line run r has small size next most told m i b. are_begun _ i (begins_between joined line run has small size r next most told m i b) (rises_between joined line run has small size r next most told m) (moments.between line run r next most told m i b) (pointers.between line run r next most told m i b);
}
