-- An agent that writes an answer has a present ORB whose data go to its initiator: so it stays by each call but a reply by which a command runs.
use Rattle.sbp_world.proofs.Words.Std.{◌≡◌, ℕ, Bool, true, false, cond, false≢true}
use Rattle.sbp_world.proofs.Words.Target.{Phase, AgentState, AgentStep, Which, Ahead, Main, Machine, is_ahead, state_in, abort_step, ahead_lost, doorbell_in, doorbell_step, lost_step, main_lost, point_in, point_step, pointed, quiet, reset_step}
use Rattle.sbp_world.proofs.Words.Initiator.{FailCause, OrbPointer, At, Null}
use Rattle.sbp_world.proofs.Words.World.{answers}
use Rattle.command_agent.specs.declared.phase.Phase.TheVariants as phases
use Rattle.command_agent.specs.declared.step.AgentState.TheVariants as states
use Rattle.sbp_world.proofs.Lists.Full.{IsClosed}

abbrev pub IsWay : Machine → Type 0
IsWay m = answers m.phase ≡ true → m.orb.to_initiator ≡ true

pub reset_way : (m : Machine) → IsWay (reset_step m)
unfolding reset_step
reset_way m e = absurd (false≢true e)

pub abort_way : (m : Machine) (orb : ℕ) → IsWay m → IsWay (abort_step m orb)
unfolding abort_step
abort_way m orb h = h

main_way : (phase : Phase) (m : Machine) (cause : FailCause) → IsWay m → IsWay (main_lost phase m cause).1
main_way phases.Fetching m cause h = λ e. absurd (false≢true e)
main_way phases.ReadingTable m cause h = λ e. absurd (false≢true e)
main_way (phases.ReadingData wanted) m cause h = λ e. absurd (false≢true e)
main_way phases.Answering m cause h = λ e. absurd (false≢true e)
main_way phases.WritingStatus m cause h = λ e. absurd (false≢true e)
main_way phases.ReadingNext m cause h = λ e. absurd (false≢true e)
main_way phases.WritingLastStatus m cause h = λ e. absurd (false≢true e)
main_way phases.Reset m cause h = h
main_way phases.Suspended m cause h = h
main_way phases.Dead m cause h = h

pick : (b : Bool) (x y : AgentStep × Machine) → IsWay x.1 → IsWay y.1 → IsWay (cond b x y).1
pick true x y h k = h
pick false x y h k = k

pub lost_way : (m : Machine) (which : Which) (cause : FailCause) → IsWay m → IsWay (lost_step m which cause).1
unfolding lost_step
lost_way m Main cause h = main_way m.phase m cause h
lost_way m Ahead cause h = pick (is_ahead m.ahead) (ahead_lost m cause) (quiet, m) h h

bell_in : (state : AgentState) (m : Machine) → IsWay m → IsWay (doorbell_in state m).1
bell_in states.Active m h = h
bell_in states.Suspended m h = λ e. absurd (false≢true e)
bell_in states.Reset m h = h
bell_in states.Dead m h = h

pub bell_way : (m : Machine) → IsWay m → IsWay (doorbell_step m).1
unfolding doorbell_step
bell_way m h = bell_in (state_in m.phase) m h

pointed_way : (m : Machine) (pointer : OrbPointer) → IsWay m → IsWay (pointed m pointer).1
pointed_way m Null h = h
pointed_way m (At next) h = λ e. absurd (false≢true e)

point_at : (state : AgentState) (m : Machine) (pointer : OrbPointer) → IsWay m → IsWay (point_in state m pointer).1
point_at states.Reset m pointer h = pointed_way m pointer h
point_at states.Suspended m pointer h = pointed_way m pointer h
point_at states.Active m pointer h = h
point_at states.Dead m pointer h = h

pub point_way : (m : Machine) (pointer : OrbPointer) → IsWay m → IsWay (point_step m pointer).1
unfolding point_step
point_way m pointer h = point_at (state_in m.phase) m pointer h

pub way_closed : IsClosed (λ q m. IsWay m)
way_closed = record { reset = λ q m. reset_way m; abort = λ q m. abort_way m; lost = λ q m. lost_way m; bell = λ q m. bell_way m; point = λ q m. point_way m }
