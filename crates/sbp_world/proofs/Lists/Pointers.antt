-- What an agent does with a doorbell and with a pointer, by itself.
use Rattle.sbp_world.proofs.Words.Std.{◌≡◌, refl, sym, ℕ, true, false, Ok, Err}
use Rattle.sbp_world.proofs.Words.Target.{Phase, AgentState, PointRefusal, Machine, state_in, doorbell_step, fetch_step, point_in, point_step}
use Rattle.sbp_world.proofs.Words.Initiator.{Ask, Nothing, OrbPointer, Null, At}
use Rattle.sbp_world.proofs.Words.World.{has_list}
use Rattle.command_agent.specs.declared.phase.Phase.TheVariants as phases
use Rattle.command_agent.specs.declared.step.AgentState.TheVariants as states
use Rattle.sbp_world.proofs.Lists.Stands.{no}

-- ---- a doorbell that nobody hears
pub deaf_by : (phase : Phase) (m : Machine) → has_list phase ≡ false → doorbell_step (record m { phase = phase }) ≡ (Nothing, record m { phase = phase })
unfolding doorbell_step
deaf_by phases.Reset m e = refl
deaf_by phases.Dead m e = refl
deaf_by phases.Fetching m e = absurd (no (sym e))
deaf_by phases.ReadingTable m e = absurd (no (sym e))
deaf_by (phases.ReadingData wanted) m e = absurd (no (sym e))
deaf_by phases.Answering m e = absurd (no (sym e))
deaf_by phases.WritingStatus m e = absurd (no (sym e))
deaf_by phases.WritingLastStatus m e = absurd (no (sym e))
deaf_by phases.ReadingNext m e = absurd (no (sym e))
deaf_by phases.Suspended m e = absurd (no (sym e))

pub deaf : (m : Machine) → has_list m.phase ≡ false → doorbell_step m ≡ (Nothing, m)
deaf m e = deaf_by m.phase m e

-- a pointer that is refused leaves the agent as it was
pub refused_in : (state : AgentState) (m : Machine) (pointer : OrbPointer) (refusal : PointRefusal) → (point_in state m pointer).0 ≡ Err refusal → (point_in state m pointer).1 ≡ m
refused_in states.Reset m Null refusal e = refl
refused_in states.Reset m (At next) refusal e = absurd (differ e)
  where
    differ : Ok (fetch_step m next).0.ask ≡ Err refusal → ⊥
    differ e = cc
refused_in states.Suspended m Null refusal e = refl
refused_in states.Suspended m (At next) refusal e = absurd (differ e)
  where
    differ : Ok (fetch_step m next).0.ask ≡ Err refusal → ⊥
    differ e = cc
refused_in states.Active m pointer refusal e = refl
refused_in states.Dead m pointer refusal e = refl

pub refused : (m : Machine) (pointer : OrbPointer) (refusal : PointRefusal) → (point_step m pointer).0 ≡ Err refusal → (point_step m pointer).1 ≡ m
unfolding point_step
refused m pointer refusal e = refused_in (state_in m.phase) m pointer refusal e

-- one that is taken has its ORB as the present one, and the list is open
pub record IsTaken (m now : Machine) (pointer : OrbPointer) : Type 0 where
  pub next : ℕ
  pub is : pointer ≡ At next
  pub now_is : now ≡ (fetch_step m next).1

pub not_taken : (refusal : PointRefusal) (ask : Ask) → Err refusal ≡ Ok ask → ⊥
not_taken refusal ask e = cc

taken_in : (state : AgentState) (m : Machine) (pointer : OrbPointer) (ask : Ask) → (point_in state m pointer).0 ≡ Ok ask → IsTaken m (point_in state m pointer).1 pointer
taken_in states.Reset m Null ask e = absurd (not_taken _ ask e)
taken_in states.Reset m (At next) ask e = record { next = next; is = refl; now_is = refl }
taken_in states.Suspended m Null ask e = absurd (not_taken _ ask e)
taken_in states.Suspended m (At next) ask e = record { next = next; is = refl; now_is = refl }
taken_in states.Active m pointer ask e = absurd (not_taken _ ask e)
taken_in states.Dead m pointer ask e = absurd (not_taken _ ask e)

-- an agent that takes it, with a list open, is at the end of that list
taken_at : (phase : Phase) (m : Machine) (pointer : OrbPointer) (ask : Ask) → (point_in (state_in phase) m pointer).0 ≡ Ok ask → has_list phase ≡ true → phase ≡ phases.Suspended
taken_at phases.Reset m pointer ask e h = cc
taken_at phases.Dead m pointer ask e h = cc
taken_at phases.Suspended m pointer ask e h = refl
taken_at phases.Fetching m pointer ask e h = cc
taken_at phases.ReadingTable m pointer ask e h = cc
taken_at (phases.ReadingData wanted) m pointer ask e h = cc
taken_at phases.Answering m pointer ask e h = cc
taken_at phases.WritingStatus m pointer ask e h = cc
taken_at phases.WritingLastStatus m pointer ask e h = cc
taken_at phases.ReadingNext m pointer ask e h = cc

pub taken_phase : (m : Machine) (pointer : OrbPointer) (ask : Ask) → (point_step m pointer).0 ≡ Ok ask → has_list m.phase ≡ true → m.phase ≡ phases.Suspended
unfolding point_step
taken_phase m pointer ask e h = taken_at m.phase m pointer ask e h

pub taken : (m : Machine) (pointer : OrbPointer) (ask : Ask) → (point_step m pointer).0 ≡ Ok ask → IsTaken m (point_step m pointer).1 pointer
unfolding point_step
taken m pointer ask e = taken_in (state_in m.phase) m pointer ask e
