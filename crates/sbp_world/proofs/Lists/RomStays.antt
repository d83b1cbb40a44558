-- No call of a target changes its ROM.
use Rattle.sbp_world.proofs.Words.Std.{◌≡◌, refl, ◌∙◌, ℕ, List, [], ◌∷◌}
use Rattle.sbp_world.proofs.Words.Wire.{empty_outbox}
use Rattle.sbp_world.proofs.Words.Target.{Call, after, alone, lets_expire, receives, sees, sets_key, ticks, Moves, free, NodeState, Scene, scene, new_node, whole}
use Rattle.sbp_target.proofs.Histories.Views.{node_left}
use Rattle.sbp_target.proofs.Histories.Views as moves

left : (node : NodeState) (s : Scene) → Moves free (scene node empty_outbox) s → s.node.rom ≡ node.rom
left node s m = (node_left free (scene node empty_outbox) s m).rom

call_rom : (call : Call) (node : NodeState) → (alone call node).node.rom ≡ node.rom
call_rom (receives told disks generation bytes) node = left node _ (moves.receives told generation bytes (whole (scene node empty_outbox) disks))
call_rom (lets_expire peer label) node = left node _ (moves.expires peer label (scene node empty_outbox))
call_rom (sees generation id) node = left node _ (moves.sees generation id (scene node empty_outbox))
call_rom ticks node = left node _ (moves.ticks (scene node empty_outbox))
call_rom (sets_key unit key) node = refl

-- after every list of calls it is that of a new target
pub rom_stays : (units ready : ℕ) (calls : List Call) → (after units ready calls).rom ≡ (new_node units ready).rom
rom_stays units ready [] = refl
rom_stays units ready (call ∷ calls) = call_rom call (after units ready calls) ∙ rom_stays units ready calls
