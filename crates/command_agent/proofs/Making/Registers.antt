-- What the registers and cuts ask for, and what is left behind them.
use Rattle.std.proofs.Common.{arith, ◌≡◌, refl, ℕ, ◌+◌, ◌≤◌, Bool}
use Rattle.orb_layout.specs.declared.pointer.OrbPointer.{OrbPointer}
use Rattle.orb_layout.specs.declared.pointer.OrbPointer.TheVariants.{Null, At}
use Rattle.command_agent.specs.declared.phase.Phase.{Phase}
use Rattle.command_agent.specs.declared.phase.Phase.TheVariants as phases
use Rattle.command_agent.specs.Machine.{Machine, state_in}
use Rattle.command_agent.specs.Steps.{point_in, point_step, doorbell_in, doorbell_step, reset_step, abort_step}
use Rattle.command_agent.specs.Counting.{is_made, mark, left_in, left_of}
use Rattle.command_agent.specs.Making.{asked_by, share, PointersMakeTheirShare, DoorbellsMakeOne, ResetsMakeNothing, AbortsMakeNothing}

abbrev placed : Phase → Machine → Machine
placed phase m = record m { phase = phase }

point_makes : (phase : Phase) (pointer : OrbPointer) (tables chunks : ℕ) (m : Machine) →
    asked_by (point_in (state_in phase) (placed phase m) pointer).0 + left_of tables chunks (point_in (state_in phase) (placed phase m) pointer).1 + mark (point_in (state_in phase) (placed phase m) pointer).1
    ≤ share tables chunks pointer + left_in phase tables chunks (placed phase m) + mark m
point_makes phases.Reset Null tables chunks m = omega arith
point_makes phases.Reset (At next) tables chunks m = omega arith
point_makes phases.Suspended Null tables chunks m = omega arith
point_makes phases.Suspended (At next) tables chunks m = omega arith
point_makes _ pointer tables chunks m = omega arith

pub pointers_make_their_share : PointersMakeTheirShare
unfolding point_step
pointers_make_their_share tables chunks m pointer = point_makes m.phase pointer tables chunks m

doorbell_makes : (phase : Phase) (tables chunks : ℕ) (m : Machine) →
    is_made (doorbell_in (state_in phase) (placed phase m)).0 + left_of tables chunks (doorbell_in (state_in phase) (placed phase m)).1 + mark (doorbell_in (state_in phase) (placed phase m)).1
    ≤ 1 + left_in phase tables chunks (placed phase m) + mark m
doorbell_makes phases.Fetching tables chunks m = omega arith
doorbell_makes _ tables chunks m = omega arith

pub doorbells_make_one : DoorbellsMakeOne
unfolding doorbell_step
doorbells_make_one tables chunks m = doorbell_makes m.phase tables chunks m

pub resets_make_nothing : ResetsMakeNothing
unfolding reset_step
resets_make_nothing tables chunks m = record { requests = omega arith; marks = omega arith }

aborted_same : (phase : Phase) (tables chunks : ℕ) (m : Machine) (aborted : Bool) → left_in phase tables chunks (record m { aborted = aborted }) ≡ left_in phase tables chunks m
aborted_same phases.Fetching tables chunks m aborted = refl
aborted_same _ tables chunks m aborted = refl

pub aborts_make_nothing : AbortsMakeNothing
unfolding abort_step
aborts_make_nothing tables chunks m orb = let same = aborted_same m.phase tables chunks m (abort_step m orb).aborted in record { requests = omega (arith, same); marks = omega arith }
