-- While a response of the operation that an initiator has under way is on its way, the management ORB that the target read last is the one in the place of that operation, at each
-- place of a run.
use Rattle.sbp_world.proofs.Words.Std.{subst, ℕ, ◌<◌, List, [], length}
use Rattle.sbp_world.proofs.Words.Wire.{Moment}
use Rattle.sbp_world.proofs.Words.Target.{Disk}
use Rattle.sbp_world.proofs.Words.World.{moments_behind, ready_logins, Run, beginning, WorldState, IsLastRead, IsCalm}
use Rattle.sbp_world.proofs.Lists.Courses.{EveryPlace, Keeps, at_between, at_lines}
use Rattle.sbp_world.proofs.Lists.KeptRuns.{AreKeptAt, kept_everywhere}
use Rattle.sbp_world.proofs.Lists.LastReadTurns.{read_turn}
use Rattle.sbp_world.proofs.Lists.LiveGiven.{LawsAt}
use Rattle.sbp_world.proofs.Lists.LiveRuns.{With, goes_calm, goes_size, known_everywhere}
use Rattle.sbp_world.proofs.Lists.ManageTerms.{none_is}

-- of each initiator that injected no packets
abbrev pub AreReadAt : List Disk → List Moment → WorldState → Type 0
AreReadAt start past w = (i : ℕ) → i < length w.initiators → IsCalm past i → IsLastRead start past i

-- what it stands on
record LawsKept (start : List Disk) (past : List Moment) (w : WorldState) : Type 0 where
  laws : LawsAt start past w
  kept : AreKeptAt start past w

all_read : (units ready : ℕ) → 0 < units → (start : List Disk) → Keeps units ready start (With LawsKept start) (AreReadAt start)
all_read units ready has start past s later t lines more g h h_now q q_now p i within calm =
    let inside : i < length s.world.initiators = subst (λ n. i < n) (goes_size past s later t g) within in
    let calm_before = goes_calm past s later t g i calm in
    let laws = q.more.laws in
    let laws_now = q_now.more.laws in
    read_turn units ready has start past s later t g h h_now i inside within (laws_now.lasts i within) (laws_now.managed i within calm) (q_now.known.cored i within) calm_before (laws.none i inside) (laws.in_place i inside calm_before) (q.more.kept i inside calm_before) (p i inside calm_before)

first_read : (start : List Disk) (line : ℕ) (run : Run) → AreReadAt start (moments_behind line run []) (beginning run).world
first_read start line run i l calm = record { last = λ op fifo is phase source same underway has manages orb. none_is op is }

pub read_everywhere : EveryPlace LawsAt → EveryPlace AreReadAt
read_everywhere laws = record {
  after_lines = λ line run r has small size so_far.
      at_lines (With LawsKept) (AreReadAt run.start.disks) all line run r.few has small size (all_read run.units (ready_logins run.initiators run.ready) has run.start.disks) (first_read run.start.disks line run) r so_far;
  between = λ line run r has small size next most told m so_far.
      at_between (With LawsKept) (AreReadAt run.start.disks) all line run r.few has small size (all_read run.units (ready_logins run.initiators run.ready) has run.start.disks) (first_read run.start.disks line run) r next most told m so_far;
}
  where
    kept : EveryPlace AreKeptAt
    kept = kept_everywhere laws

    all : EveryPlace (With LawsKept)
    all = record {
      after_lines = λ line run r has small size so_far. record { known = known_everywhere.after_lines line run r has small size so_far; more = record { laws = laws.after_lines line run r has small size so_far; kept = kept.after_lines line run r has small size so_far } };
      between = λ line run r has small size next most told m so_far. record { known = known_everywhere.between line run r has small size next most told m so_far; more = record { laws = laws.between line run r has small size next most told m so_far; kept = kept.between line run r has small size next most told m so_far } };
    }
