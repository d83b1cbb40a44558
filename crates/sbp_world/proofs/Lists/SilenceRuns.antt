-- While an initiator has an operation under way that ends lists, the target writes no response for it, at each place of a run.
use Rattle.sbp_world.proofs.Words.Std.{subst, ℕ, ◌<◌, List, [], length}
use Rattle.sbp_world.proofs.Words.Wire.{Moment}
use Rattle.sbp_world.proofs.Words.Target.{Disk}
use Rattle.sbp_world.proofs.Words.World.{moments_behind, ready_logins, Run, beginning, WorldState, IsCalm, IsSilent}
use Rattle.sbp_world.proofs.Lists.Courses.{EveryPlace, Keeps, at_between, at_lines}
use Rattle.sbp_world.proofs.Lists.KeptRuns.{AreKeptAt, kept_everywhere}
use Rattle.sbp_world.proofs.Lists.LiveGiven.{LawsAt}
use Rattle.sbp_world.proofs.Lists.LiveRuns.{With, goes_calm, goes_size, known_everywhere}
use Rattle.sbp_world.proofs.Lists.ManageTerms.{none_is}
use Rattle.sbp_world.proofs.Lists.SilenceTurns.{silent_turn}

-- the laws, and the ORB that the target keeps
pub record KeptWith (start : List Disk) (past : List Moment) (w : WorldState) : Type 0 where
  pub laws : LawsAt start past w
  pub kept : AreKeptAt start past w

-- of each initiator that injected no packets
abbrev pub AreSilentAt : List Disk → List Moment → WorldState → Type 0
AreSilentAt start past w = (i : ℕ) → i < length w.initiators → IsCalm past i → IsSilent start past i

all_silent : (units ready : ℕ) → 0 < units → (start : List Disk) → Keeps units ready start (With KeptWith start) (AreSilentAt start)
all_silent units ready has start past s later t lines more g h h_now q q_now p i within calm =
    let inside : i < length s.world.initiators = subst (λ n. i < n) (goes_size past s later t g) within in
    let calm_before = goes_calm past s later t g i calm in
    silent_turn units ready has start past s later t g h h_now i inside within (q_now.more.laws.lasts i within) (q_now.more.laws.managed i within calm) (q_now.known.cored i within)
    (λ underway is. (q_now.more.laws.underway i within underway is).small) calm_before (q.more.laws.none i inside) (q.more.laws.in_place i inside calm_before) (q.more.kept i inside calm_before) (q.more.laws.underway i inside) (q.more.laws.short i inside) (p i inside calm_before)

first_silent : (start : List Disk) (line : ℕ) (run : Run) → AreSilentAt start (moments_behind line run []) (beginning run).world
first_silent start line run i l calm = record { none = λ op fifo underway is phase source same has manages cuts orb. none_is op is }

pub silent_everywhere : EveryPlace LawsAt → EveryPlace AreSilentAt
silent_everywhere laws = record {
  after_lines = λ line run r has small size so_far.
      at_lines (With KeptWith) (AreSilentAt run.start.disks) all line run r.few has small size (all_silent run.units (ready_logins run.initiators run.ready) has run.start.disks) (first_silent run.start.disks line run) r so_far;
  between = λ line run r has small size next most told m so_far.
      at_between (With KeptWith) (AreSilentAt run.start.disks) all line run r.few has small size (all_silent run.units (ready_logins run.initiators run.ready) has run.start.disks) (first_silent run.start.disks line run) r next most told m so_far;
}
  where
    kept : EveryPlace AreKeptAt
    kept = kept_everywhere laws

    all : EveryPlace (With KeptWith)
    all = record {
      after_lines = λ line run r has small size so_far. record {
        known = known_everywhere.after_lines line run r has small size so_far;
        more = record { laws = laws.after_lines line run r has small size so_far; kept = kept.after_lines line run r has small size so_far };
      };
      between = λ line run r has small size next most told m so_far. record {
        known = known_everywhere.between line run r has small size next most told m so_far;
        more = record { laws = laws.between line run r has small size next most told m so_far; kept = kept.between line run r has small size next most told m so_far };
      };
    }
