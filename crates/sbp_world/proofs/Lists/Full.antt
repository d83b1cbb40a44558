-- An agent that writes an answer has written fewer bytes than this has, and it has as many as the buffer of its present ORB: so it stays by each call but a reply by which a command runs.
use Rattle.sbp_world.proofs.Words.Std.{◌≡◌, ◌<◌, ℕ, Bool, true, false, cond, length, false≢true}
use Rattle.sbp_world.proofs.Words.Target.{Phase, AgentState, AgentStep, Which, Ahead, Main, Machine, is_ahead, state_in, abort_step, ahead_lost, doorbell_in, doorbell_step, lost_step, main_lost, point_in, point_step, pointed, quiet, reset_step}
use Rattle.sbp_world.proofs.Words.Initiator.{FailCause, OrbPointer, At, Null, bytes_of}
use Rattle.sbp_world.proofs.Words.World.{answers}
use Rattle.command_agent.specs.declared.phase.Phase.TheVariants as phases
use Rattle.command_agent.specs.declared.step.AgentState.TheVariants as states

pub record IsPart (written whole buffer : ℕ) : Type 0 where
  pub more : written < whole
  pub fills : whole ≡ buffer

abbrev pub IsFull : Machine → Type 0
IsFull m = answers m.phase ≡ true → IsPart m.written (length m.answer) (bytes_of m.segments)

pub reset_full : (m : Machine) → IsFull (reset_step m)
unfolding reset_step
reset_full m e = absurd (false≢true e)

pub abort_full : (m : Machine) (orb : ℕ) → IsFull m → IsFull (abort_step m orb)
unfolding abort_step
abort_full m orb h = h

main_full : (phase : Phase) (m : Machine) (cause : FailCause) → IsFull m → IsFull (main_lost phase m cause).1
main_full phases.Fetching m cause h = λ e. absurd (false≢true e)
main_full phases.ReadingTable m cause h = λ e. absurd (false≢true e)
main_full (phases.ReadingData wanted) m cause h = λ e. absurd (false≢true e)
main_full phases.Answering m cause h = λ e. absurd (false≢true e)
main_full phases.WritingStatus m cause h = λ e. absurd (false≢true e)
main_full phases.ReadingNext m cause h = λ e. absurd (false≢true e)
main_full phases.WritingLastStatus m cause h = λ e. absurd (false≢true e)
main_full phases.Reset m cause h = h
main_full phases.Suspended m cause h = h
main_full phases.Dead m cause h = h

pick : (b : Bool) (x y : AgentStep × Machine) → IsFull x.1 → IsFull y.1 → IsFull (cond b x y).1
pick true x y h k = h
pick false x y h k = k

pub lost_full : (m : Machine) (which : Which) (cause : FailCause) → IsFull m → IsFull (lost_step m which cause).1
unfolding lost_step
lost_full m Main cause h = main_full m.phase m cause h
lost_full m Ahead cause h = pick (is_ahead m.ahead) (ahead_lost m cause) (quiet, m) h h

bell_in : (state : AgentState) (m : Machine) → IsFull m → IsFull (doorbell_in state m).1
bell_in states.Active m h = h
bell_in states.Suspended m h = λ e. absurd (false≢true e)
bell_in states.Reset m h = h
bell_in states.Dead m h = h

pub bell_full : (m : Machine) → IsFull m → IsFull (doorbell_step m).1
unfolding doorbell_step
bell_full m h = bell_in (state_in m.phase) m h

pointed_full : (m : Machine) (pointer : OrbPointer) → IsFull m → IsFull (pointed m pointer).1
pointed_full m Null h = h
pointed_full m (At next) h = λ e. absurd (false≢true e)

point_at : (state : AgentState) (m : Machine) (pointer : OrbPointer) → IsFull m → IsFull (point_in state m pointer).1
point_at states.Reset m pointer h = pointed_full m pointer h
point_at states.Suspended m pointer h = pointed_full m pointer h
point_at states.Active m pointer h = h
point_at states.Dead m pointer h = h

pub point_full : (m : Machine) (pointer : OrbPointer) → IsFull m → IsFull (point_step m pointer).1
unfolding point_step
point_full m pointer h = point_at (state_in m.phase) m pointer h

-- ---- what stays by each of these
pub record IsClosed (F : ℕ → Machine → Type 0) : Type 0 where
  pub reset : (q : ℕ) (m : Machine) → F q (reset_step m)
  pub abort : (q : ℕ) (m : Machine) (orb : ℕ) → F q m → F q (abort_step m orb)
  pub lost : (q : ℕ) (m : Machine) (which : Which) (cause : FailCause) → F q m → F q (lost_step m which cause).1
  pub bell : (q : ℕ) (m : Machine) → F q m → F q (doorbell_step m).1
  pub point : (q : ℕ) (m : Machine) (pointer : OrbPointer) → F q m → F q (point_step m pointer).1

pub full_closed : IsClosed (λ q m. IsFull m)
full_closed = record { reset = λ q m. reset_full m; abort = λ q m. abort_full m; lost = λ q m. lost_full m; bell = λ q m. bell_full m; point = λ q m. point_full m }

-- and so is what is known of the agents of some places
pub closed_where : (Own : ℕ → Type 0) (F : ℕ → Machine → Type 0) → IsClosed F → IsClosed (λ q m. Own q → F q m)
closed_where Own F closed = record {
  reset = λ q m own. closed.reset q m;
  abort = λ q m orb h own. closed.abort q m orb (h own);
  lost = λ q m which cause h own. closed.lost q m which cause (h own);
  bell = λ q m h own. closed.bell q m (h own);
  point = λ q m pointer h own. closed.point q m pointer (h own);
}
