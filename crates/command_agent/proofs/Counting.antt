-- What a failed transaction leaves to be made.
use Rattle.std.proofs.Common.{arith, ◌≡◌, refl, ℕ, ◌+◌, ◌≤◌, Bool, true, false, cond}
use Rattle.std.specs.Prelude.{◌||◌, ◌&&◌}
use Rattle.orb_layout.specs.declared.ask.FailCause.{FailCause}
use Rattle.orb_layout.specs.Pointers.{bit}
use Rattle.command_agent.specs.declared.phase.Phase.{Phase}
use Rattle.command_agent.specs.declared.phase.Phase.TheVariants as phases
use Rattle.command_agent.specs.declared.phase.ReadAhead.{ReadAhead}
use Rattle.command_agent.specs.declared.phase.ReadAhead.TheVariants as aheads
use Rattle.command_agent.specs.declared.step.AgentStep.{AgentStep}
use Rattle.command_agent.specs.Machine.{Machine, is_ahead, rung_in}
use Rattle.command_agent.specs.Steps.{quiet, main_lost, ahead_lost, is_label, lost_step}
use Rattle.command_agent.specs.Counting.{mark, left_in, left_of, made, MakesAtMost, FailuresMakeNoMore, LostAheadsMakeNoMore}

-- it fails in a phase
abbrev fallen : Phase → Machine → FailCause → AgentStep × Machine
fallen phase m cause = main_lost phase (record m { phase = phase }) cause

main_makes : (phase : Phase) (tables chunks : ℕ) (m : Machine) (cause : FailCause) → MakesAtMost tables chunks (left_in phase tables chunks (record m { phase = phase })) (mark m) (fallen phase m cause)
main_makes phases.Fetching tables chunks m cause = record { requests = omega arith; marked = omega arith }
main_makes _ tables chunks m cause = record { requests = omega arith; marked = omega arith }

pub failures_make_no_more : FailuresMakeNoMore
unfolding lost_step
failures_make_no_more tables chunks m cause = main_makes m.phase tables chunks m cause

-- the mark comes back where it was cleared
given_back : (b rung label : Bool) → bit (b || (label && rung)) ≤ bit b + bit rung
given_back true rung label = omega arith
given_back false rung true = omega arith
given_back false rung false = omega arith

-- what is left is counted beside the read ahead and the mark
pub left_beside : (phase : Phase) (tables chunks : ℕ) (m : Machine) (ahead : ReadAhead) (doorbell : Bool) → left_in phase tables chunks (record m { ahead = ahead; doorbell = doorbell }) ≡ left_in phase tables chunks m
left_beside phases.Fetching tables chunks m ahead doorbell = refl
left_beside _ tables chunks m ahead doorbell = refl

ahead_makes : (under : Bool) (tables chunks : ℕ) (m : Machine) (cause : FailCause) → made tables chunks (cond under (ahead_lost m cause) (quiet, m)) + mark (cond under (ahead_lost m cause) (quiet, m)).1 ≤ left_of tables chunks m + mark m + bit (rung_in m.ahead)
ahead_makes true tables chunks m cause =
    let same = left_beside m.phase tables chunks m aheads.Idle (m.doorbell || (is_label cause && rung_in m.ahead)) in
    let marks = given_back m.doorbell (rung_in m.ahead) (is_label cause) in
    omega (arith, same, marks)
ahead_makes false tables chunks m cause = omega arith

pub lost_aheads_make_no_more : LostAheadsMakeNoMore
unfolding lost_step
lost_aheads_make_no_more tables chunks m cause = ahead_makes (is_ahead m.ahead) tables chunks m cause
