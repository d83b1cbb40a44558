-- What the target hands out, and that it leaves the terms of every initiator.
use Rattle.sbp_world.proofs.Words.Std.{ℕ, List, Option}
use Rattle.sbp_world.proofs.Words.Wire.{Sent, empty_outbox, Judged}
use Rattle.sbp_world.proofs.Words.Target.{Held, Told, NodeState, scene, received, Whole}
use Rattle.sbp_world.proofs.Words.World.{MayTell, faults_after, left_target, target_received, whole_of, target_sees, target_ticks, AreOthers, HandLaw}
use Rattle.sbp_world.proofs.Hosts.Mild.{FromTarget}
use Rattle.sbp_world.proofs.Hosts.TargetGives as target
use Rattle.sbp_world.proofs.Hosts.Outboxes.{all_others, all_own, all_still}

-- ---- what the target hands out

left_gives : (r : Judged × Whole) (faults : List ℕ) → FromTarget r.1.outbox → FromTarget (left_target r faults).1.0
left_gives (judged, w) faults h = h

pub target_gives : (told : Option Told) (packet : Sent) (node : NodeState) (media : Held) → MayTell told packet node media → FromTarget (target_received told packet node media).1.0
unfolding target_received MayTell
target_gives told packet node media m =
    left_gives (received told packet.generation packet.bytes (whole_of node media)) (faults_after told packet node media)
    (target.receives told packet.generation packet.bytes (whole_of node media) media.faults (faults_after told packet node media) m (tt, tt))

pub sight_gives : (generation id : ℕ) (node : NodeState) → FromTarget (target_sees generation id node).0
unfolding target_sees
sight_gives generation id node = target.sees generation id (scene node empty_outbox) (tt, tt)

pub second_gives : (node : NodeState) → FromTarget (target_ticks node).0
unfolding target_ticks
second_gives node = target.ticks (scene node empty_outbox) (tt, tt)

-- and of that what it tells
pub target_tells : (told : Option Told) (packet : Sent) (node : NodeState) (media : Held) → MayTell told packet node media → AreOthers (target_received told packet node media).1.0.sides
target_tells told packet node media m = (target_gives told packet node media m).0

pub sight_tells : (generation id : ℕ) (node : NodeState) → AreOthers (target_sees generation id node).0.sides
sight_tells generation id node = (sight_gives generation id node).0

pub second_tells : (node : NodeState) → AreOthers (target_ticks node).0.sides
second_tells node = (second_gives node).0

pub hand_law : HandLaw
hand_law = record {
  received = target_tells;
  expires = λ peer label node. (target.expires peer label (scene node empty_outbox) (tt, tt)).0;
  sees = sight_tells;
  ticks = second_tells;
  others = λ past w weight i s told f r. all_others past weight i s told w f r;
  packets = λ past w from i s packets n r. (all_still past i s from packets w (record { line = n; rows = r })).rows;
  own = λ past w weight told f. all_own past weight told w f;
}
