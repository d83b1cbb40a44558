-- The answer that an agent writes stays by each step of it but a reply: what is known of its bytes, while it writes them, is known behind the step.
use Rattle.sbp_world.proofs.Words.Std.{◌≡◌, ℕ, Bool, true, false, cond, List, false≢true}
use Rattle.sbp_world.proofs.Words.Target.{Phase, AgentState, AgentStep, Which, Ahead, Main, Machine, is_ahead, state_in, abort_step, ahead_lost, doorbell_in, doorbell_step, lost_step, main_lost, point_in, point_step, pointed, quiet, reset_step}
use Rattle.sbp_world.proofs.Words.Initiator.{FailCause, OrbPointer, At, Null}
use Rattle.sbp_world.proofs.Words.World.{answers}
use Rattle.command_agent.specs.declared.phase.Phase.TheVariants as phases
use Rattle.command_agent.specs.declared.step.AgentState.TheVariants as states
use Rattle.sbp_world.proofs.Lists.Full.{IsClosed}

module _ (T : List ℕ → Type 0) where
  abbrev pub Writes : Machine → Type 0
  Writes m = answers m.phase ≡ true → T m.answer

  reset_writes : (m : Machine) → Writes (reset_step m)
  unfolding reset_step
  reset_writes m e = absurd (false≢true e)

  abort_writes : (m : Machine) (orb : ℕ) → Writes m → Writes (abort_step m orb)
  unfolding abort_step
  abort_writes m orb h = h

  main_writes : (phase : Phase) (m : Machine) (cause : FailCause) → Writes m → Writes (main_lost phase m cause).1
  main_writes phases.Fetching m cause h = λ e. absurd (false≢true e)
  main_writes phases.ReadingTable m cause h = λ e. absurd (false≢true e)
  main_writes (phases.ReadingData wanted) m cause h = λ e. absurd (false≢true e)
  main_writes phases.Answering m cause h = λ e. absurd (false≢true e)
  main_writes phases.WritingStatus m cause h = λ e. absurd (false≢true e)
  main_writes phases.ReadingNext m cause h = λ e. absurd (false≢true e)
  main_writes phases.WritingLastStatus m cause h = λ e. absurd (false≢true e)
  main_writes phases.Reset m cause h = h
  main_writes phases.Suspended m cause h = h
  main_writes phases.Dead m cause h = h

  pick : (b : Bool) (x y : AgentStep × Machine) → Writes x.1 → Writes y.1 → Writes (cond b x y).1
  pick true x y h k = h
  pick false x y h k = k

  lost_writes : (m : Machine) (which : Which) (cause : FailCause) → Writes m → Writes (lost_step m which cause).1
  unfolding lost_step
  lost_writes m Main cause h = main_writes m.phase m cause h
  lost_writes m Ahead cause h = pick (is_ahead m.ahead) (ahead_lost m cause) (quiet, m) h h

  bell_in : (state : AgentState) (m : Machine) → Writes m → Writes (doorbell_in state m).1
  bell_in states.Active m h = h
  bell_in states.Suspended m h = λ e. absurd (false≢true e)
  bell_in states.Reset m h = h
  bell_in states.Dead m h = h

  bell_writes : (m : Machine) → Writes m → Writes (doorbell_step m).1
  unfolding doorbell_step
  bell_writes m h = bell_in (state_in m.phase) m h

  pointed_writes : (m : Machine) (pointer : OrbPointer) → Writes m → Writes (pointed m pointer).1
  pointed_writes m Null h = h
  pointed_writes m (At next) h = λ e. absurd (false≢true e)

  point_at : (state : AgentState) (m : Machine) (pointer : OrbPointer) → Writes m → Writes (point_in state m pointer).1
  point_at states.Reset m pointer h = pointed_writes m pointer h
  point_at states.Suspended m pointer h = pointed_writes m pointer h
  point_at states.Active m pointer h = h
  point_at states.Dead m pointer h = h

  point_writes : (m : Machine) (pointer : OrbPointer) → Writes m → Writes (point_step m pointer).1
  unfolding point_step
  point_writes m pointer h = point_at (state_in m.phase) m pointer h

pub writes_closed : (T : ℕ → List ℕ → Type 0) → IsClosed (λ q m. Writes (T q) m)
writes_closed T = record {
  reset = λ q m. reset_writes (T q) m;
  abort = λ q m orb h. abort_writes (T q) m orb h;
  lost = λ q m which cause h. lost_writes (T q) m which cause h;
  bell = λ q m h. bell_writes (T q) m h;
  point = λ q m pointer h. point_writes (T q) m pointer h;
}
