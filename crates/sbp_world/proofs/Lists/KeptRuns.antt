-- The management ORB that the target keeps while it reads an EUI-64 is the one in the place of its initiator's operation, at each place of a run.
use Rattle.sbp_world.proofs.Words.Std.{subst, ℕ, ◌<◌, List, [], length}
use Rattle.sbp_world.proofs.Words.Wire.{Moment}
use Rattle.sbp_world.proofs.Words.Target.{Disk}
use Rattle.sbp_world.proofs.Words.World.{moments_behind, ready_logins, Run, beginning, WorldState, IsKept, IsCalm}
use Rattle.sbp_world.proofs.Lists.Courses.{EveryPlace, Keeps, at_between, at_lines}
use Rattle.sbp_world.proofs.Lists.KeptTurns.{kept_turn}
use Rattle.sbp_world.proofs.Lists.LiveGiven.{LawsAt}
use Rattle.sbp_world.proofs.Lists.LiveRuns.{With, goes_calm, goes_size, known_everywhere}
use Rattle.sbp_world.proofs.Lists.ManageTerms.{none_is}

-- of each initiator that injected no packets
abbrev pub AreKeptAt : List Disk → List Moment → WorldState → Type 0
AreKeptAt start past w = (i : ℕ) → i < length w.initiators → IsCalm past i → IsKept start past i

all_kept : (units ready : ℕ) → 0 < units → (start : List Disk) → Keeps units ready start (With LawsAt start) (AreKeptAt start)
all_kept units ready has start past s later t lines more g h h_now q q_now p i within calm =
    let inside : i < length s.world.initiators = subst (λ n. i < n) (goes_size past s later t g) within in
    let calm_before = goes_calm past s later t g i calm in
    kept_turn units ready has start past s later t g h h_now i inside within (q_now.more.lasts i within) (q_now.more.managed i within calm) (q_now.known.cored i within) calm_before (q.more.none i inside) (q.more.in_place i inside calm_before) (p i inside calm_before)

first_kept : (start : List Disk) (line : ℕ) (run : Run) → AreKeptAt start (moments_behind line run []) (beginning run).world
first_kept start line run i l calm = record { keeps = λ op underway is source same has manages orb. none_is op is }

pub kept_everywhere : EveryPlace LawsAt → EveryPlace AreKeptAt
kept_everywhere laws = record {
  after_lines = λ line run r has small size so_far.
      at_lines (With LawsAt) (AreKeptAt run.start.disks) all line run r.few has small size (all_kept run.units (ready_logins run.initiators run.ready) has run.start.disks) (first_kept run.start.disks line run) r so_far;
  between = λ line run r has small size next most told m so_far.
      at_between (With LawsAt) (AreKeptAt run.start.disks) all line run r.few has small size (all_kept run.units (ready_logins run.initiators run.ready) has run.start.disks) (first_kept run.start.disks line run) r next most told m so_far;
}
  where
    all : EveryPlace (With LawsAt)
    all = record {
      after_lines = λ line run r has small size so_far. record { known = known_everywhere.after_lines line run r has small size so_far; more = laws.after_lines line run r has small size so_far };
      between = λ line run r has small size next most told m so_far. record { known = known_everywhere.between line run r has small size next most told m so_far; more = laws.between line run r has small size next most told m so_far };
    }
