-- At each place of a run in which no initiator injected packets, or few logins were given, each agent that has a list open of an initiator that injected none has the buffer and the data that its reads brought since it turned to its ORB, behind the
-- response that brought the ORB, which is the one prepared last in its slot.
use Rattle.sbp_world.proofs.Words.Std.{ℕ, ◌<◌, List, sym, ◌∙◌}
use Rattle.sbp_world.proofs.Words.Wire.{Moment}
use Rattle.sbp_world.proofs.Words.Target.{Disk}
use Rattle.sbp_world.proofs.Words.World.{ready_logins, Run, beginning, WorldState, OpenListsLaw, IsTameOrFew}
use Rattle.sbp_world.proofs.Lists.Courses.{EveryPlace, Keeps, at_between, at_lines}
use Rattle.sbp_world.proofs.Lists.FedStillReads.{AreFedStill}
use Rattle.sbp_world.proofs.Lists.FedStillTurns.{turn_fed}
use Rattle.sbp_world.proofs.Lists.LiveRuns.{goes_tame_or_few}
use Rattle.sbp_world.proofs.Lists.StillRuns.{StillSo, first_closed, ground_everywhere, still_everywhere}
use Rattle.sbp_world.proofs.Lists.StillTurns.{Ground}
use Rattle.sbp_world.proofs.Common.{untrue}

-- ---- what is known of a place
pub record StillGround (start : List Disk) (ms : List Moment) (w : WorldState) : Type 0 where
  pub ground : Ground start ms w
  pub still : StillSo start ms w

still_ground : OpenListsLaw → EveryPlace StillGround
still_ground lists = record {
  after_lines = λ line run r has small size so_far.
      record { ground = (ground_everywhere lists).after_lines line run r has small size so_far; still = (still_everywhere lists).after_lines line run r has small size so_far };
  between = λ line run r has small size next most told m so_far.
      record { ground = (ground_everywhere lists).between line run r has small size next most told m so_far; still = (still_everywhere lists).between line run r has small size next most told m so_far };
}

abbrev pub FedStillSo : List Disk → List Moment → WorldState → Type 0
FedStillSo start past w = IsTameOrFew past → AreFedStill start past w

all_fed : (units ready : ℕ) → 0 < units → (start : List Disk) → Keeps units ready start (StillGround start) (FedStillSo start)
all_fed units ready has start past s later t lines more g h h_now q q_now fed beside =
    let before = goes_tame_or_few past s later t g beside in
    turn_fed units ready has start past s later t g lines more h h_now q.ground q_now.ground beside (q.still before) (fed before)

-- in a new world no agent has a list
first_fed : (start : List Disk) (run : Run) (ms : List Moment) → FedStillSo start ms (beginning run).world
first_fed start run ms beside = record { fed = λ place small open_there calm. untrue (sym (first_closed run place) ∙ open_there); sent = λ place small open_there calm orb kept. untrue (sym (first_closed run place) ∙ open_there) }

pub fed_everywhere : OpenListsLaw → EveryPlace FedStillSo
fed_everywhere lists = record {
  after_lines = λ line run r has small size so_far.
      at_lines StillGround (FedStillSo run.start.disks) (still_ground lists) line run r.few has small size (all_fed run.units (ready_logins run.initiators run.ready) has run.start.disks) (first_fed run.start.disks run _) r so_far;
  between = λ line run r has small size next most told m so_far.
      at_between StillGround (FedStillSo run.start.disks) (still_ground lists) line run r.few has small size (all_fed run.units (ready_logins run.initiators run.ready) has run.start.disks) (first_fed run.start.disks run _) r next most told m so_far;
}
