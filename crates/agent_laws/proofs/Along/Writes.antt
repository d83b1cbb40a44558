-- The pointer, a doorbell, the function abort and an AGENT_RESET; and a list that grows.
use Rattle.std.proofs.Common.{◌≡◌, refl, ap, ℕ, ◌<◌, ◌==◌, ◌||◌, ◌&&◌, Some}
use Rattle.orb_layout.specs.declared.ask.Ask.TheVariants.{Read}
use Rattle.orb_layout.specs.declared.pointer.OrbPointer.{OrbPointer}
use Rattle.orb_layout.specs.declared.pointer.OrbPointer.TheVariants.{Null, At}
use Rattle.command_agent.specs.declared.phase.Phase.{Phase}
use Rattle.command_agent.specs.declared.phase.Phase.TheVariants as phases
use Rattle.command_agent.specs.Machine.{Machine, aligned, named, awaits_run}
use Rattle.command_agent.specs.Steps.{pointed, point_step, doorbell_step, reset_step, abort_step}
use Rattle.agent_laws.specs.Along.Lists.{OrbList, IsLaid}
use Rattle.agent_laws.specs.Along.Along.{Progress, Along}
use Rattle.agent_laws.specs.Along.Steps.{PointerBrings, Points, Stays, Rings, Aborts, Resets, KeepsAlong}
use Rattle.agent_laws.proofs.Along.Records.{still, still_asks}
use Rattle.agent_laws.proofs.Along.Replies.{replies, loses}
use Rattle.agent_laws.proofs.Along.Asking.{is_of_list}

-- ---- the pointer
pointed_keeps : (pointer : OrbPointer) (l : OrbList) (m : Machine) → IsLaid l → named pointer ≡ Some (l.address 0) → 0 < l.linked → PointerBrings l m (pointed m pointer)
pointed_keeps Null l m laid e n = refl
pointed_keeps (At next) l m laid e n =
    let place : aligned next ≡ l.address 0 = cc in
    record {
      along = record { main = record { turn = record { place = place; linked = n; all = refl }; unrun = refl; unread = refl; empty = refl }; ahead = refl };
      asks = ap (λ (at : ℕ). Read at 32) place;
      main_is = refl;
      ahead_is = refl;
    }

point_keeps : (phase : Phase) (l : OrbList) (m : Machine) (pointer : OrbPointer) → IsLaid l → named pointer ≡ Some (l.address 0) → 0 < l.linked → PointerBrings l (record m { phase = phase }) (point_step (record m { phase = phase }) pointer)
unfolding point_step
point_keeps phases.Reset l m pointer laid e n = pointed_keeps pointer l (record m { phase = phases.Reset }) laid e n
point_keeps phases.Suspended l m pointer laid e n = pointed_keeps pointer l (record m { phase = phases.Suspended }) laid e n
point_keeps _ l m pointer laid e n = refl

points : (l : OrbList) → Points l
points l m pointer laid e n = point_keeps m.phase l m pointer laid e n

-- ---- a doorbell
ring_keeps : (phase : Phase) (l : OrbList) (p : Progress) (m : Machine) → Along l p (record m { phase = phase }) → Stays l p (record m { phase = phase }) (doorbell_step (record m { phase = phase })).0 (doorbell_step (record m { phase = phase })).1
unfolding doorbell_step
ring_keeps phases.Reset l p m a = record { along = a; main_is = refl; ahead_is = refl }
ring_keeps phases.Dead l p m a = record { along = a; main_is = refl; ahead_is = refl }
ring_keeps phases.WritingLastStatus l p m a = record { along = a; main_is = refl; ahead_is = refl }
ring_keeps phases.Suspended l p m a = record { along = record { main = a.main; ahead = a.ahead }; main_is = refl; ahead_is = refl }
ring_keeps _ l p m a = record { along = record { main = a.main; ahead = a.ahead }; main_is = refl; ahead_is = refl }

rings : (l : OrbList) → Rings l
rings l p m a = ring_keeps m.phase l p m a

-- ---- the function abort
aborts : (l : OrbList) → Aborts l
unfolding abort_step
aborts l p m orb a = record {
  along = record { main = still m.phase l p m m.ahead m.doorbell (m.aborted || (awaits_run m.phase && (m.present == aligned orb))) a.main; ahead = a.ahead };
  main_is = still_asks m.phase m m.ahead m.doorbell (m.aborted || (awaits_run m.phase && (m.present == aligned orb)));
  ahead_is = refl;
}

-- ---- AGENT_RESET
resets : (l : OrbList) → Resets l
unfolding reset_step
resets l p m = record { along = record { main = tt; ahead = refl }; main_is = refl; ahead_is = refl }

pub keeps_along : (l : OrbList) → KeepsAlong l
keeps_along l = record { replies = replies l; loses = loses l; points = points l; rings = rings l; aborts = aborts l; resets = resets l; asks = is_of_list l; begins = λ p. record { main = tt; ahead = refl } }
