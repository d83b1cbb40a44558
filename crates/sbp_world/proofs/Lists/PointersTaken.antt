-- Over a turn an agent of the terms that has a list keeps the pointer that it took before; or it took one in this turn, and reads the ORB there, or has lost this read: a request brings no
-- reply, so its machine makes no other step behind it.
use Rattle.sbp_world.proofs.Words.Std.{inl, inr, ◌⊎◌, ◌≡◌, refl, sym, ap, ◌==◌, ◌/◌, ◌^◌, ℕ, Bool, true, false, cond, List, Some, quad}
use Rattle.sbp_world.proofs.Words.Wire.{Access}
use Rattle.sbp_world.proofs.Words.Target.{Phase, AgentState, aligned, state_in}
use Rattle.sbp_world.proofs.Words.Initiator.{OrbPointer, At, Null, offset_at, pointer_at}
use Rattle.sbp_world.proofs.Words.Laws.{Agent, pointed_by, points, rings}
use Rattle.sbp_world.proofs.Words.World.{has_list}
use Rattle.command_agent.specs.declared.phase.Phase.TheVariants as phases
use Rattle.command_agent.specs.declared.step.AgentState.TheVariants as states
use Rattle.command_agent.specs.Steps as steps
use Rattle.sbp_world.proofs.Lists.PointersHeld.{Holds, self as held_self}

-- ---- an agent
-- it reads the first ORB of its list, or has lost this read, and writes the status block of the ORB
abbrev pub IsYoung : Phase → Type 0
IsYoung phase = (phase ≡ phases.Fetching) ⊎ (phase ≡ phases.WritingLastStatus)

-- one that has a list now has the pointer from before, or took it and reads the ORB there, or has lost this read
abbrev pub Taken : (before now : Agent) → Type 0
Taken before now =
    has_list now.machine.phase ≡ true → ((now.pointer ≡ before.pointer) × (has_list before.machine.phase ≡ true)) ⊎ (IsYoung now.machine.phase × (now.pointer ≡ Some now.machine.present))

pub held_taken : (a b : Agent) → Holds a b → Taken a b
held_taken a b h = λ e. inl (h e)

-- ---- ORB_POINTER, and DOORBELL
pub self_taken : (a : Agent) → Taken a a
self_taken a = held_taken a a (held_self a)

turned_taken : (offset : ℕ) (pointer : OrbPointer) (a : Agent) → (pointer ≡ At offset) ⊎ (pointer ≡ Null) → Taken a (pointed_by (steps.pointed a.machine pointer) offset a)
turned_taken offset Null a h = self_taken a
turned_taken offset (At next) a (inl e) = λ f. inr (inl refl, ap (λ n. Some (aligned n)) (let same : next ≡ offset = cc in sym same))
turned_taken offset (At next) a (inr e) = absurd (let no : At next ≡ Null = e in cc)

points_in : (state : AgentState) (offset : ℕ) (pointer : OrbPointer) (a : Agent) → (pointer ≡ At offset) ⊎ (pointer ≡ Null) → Taken a (pointed_by (steps.point_in state a.machine pointer) offset a)
points_in states.Reset offset pointer a h = turned_taken offset pointer a h
points_in states.Suspended offset pointer a h = turned_taken offset pointer a h
points_in states.Active offset pointer a h = self_taken a
points_in states.Dead offset pointer a h = self_taken a

pointer_is : (bytes : List ℕ) → (pointer_at bytes 0 ≡ At (offset_at bytes 0)) ⊎ (pointer_at bytes 0 ≡ Null)
pointer_is bytes = by (quad bytes 0 / 2 ^ 31 == 1)
  where
    by : (b : Bool) → (cond b Null (At (offset_at bytes 0)) ≡ At (offset_at bytes 0)) ⊎ (cond b Null (At (offset_at bytes 0)) ≡ Null)
    by true = inr refl
    by false = inl refl

pub points_taken : (access : Access) (a : Agent) → Taken a (points access a)
unfolding steps.point_step
points_taken access a = points_in (state_in a.machine.phase) (offset_at access.payload 0) (pointer_at access.payload 0) a (pointer_is access.payload)

rung_by : (phase : Phase) (a : Agent) → a.machine.phase ≡ phase → Holds a (let s = steps.doorbell_in (state_in phase) a.machine in record a { machine = s.1; asks = s.0 })
rung_by phases.Reset a e = λ f. (refl, f)
rung_by phases.Dead a e = λ f. (refl, f)
rung_by phases.Suspended a e = λ f. (refl, ap has_list e)
rung_by phases.Fetching a e = λ f. (refl, f)
rung_by phases.ReadingTable a e = λ f. (refl, f)
rung_by (phases.ReadingData wanted) a e = λ f. (refl, f)
rung_by phases.Answering a e = λ f. (refl, f)
rung_by phases.WritingStatus a e = λ f. (refl, f)
rung_by phases.WritingLastStatus a e = λ f. (refl, f)
rung_by phases.ReadingNext a e = λ f. (refl, f)

pub rings_held : (a : Agent) → Holds a (rings a)
unfolding steps.doorbell_step
rings_held a = rung_by a.machine.phase a refl
