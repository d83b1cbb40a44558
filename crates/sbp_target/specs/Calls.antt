-- Lists of the calls of a target. The media belong to the caller: a delivery is handed what they hold, and
-- what a run of a command told, where there was one.
use Rattle.std.specs.Prelude.{ℕ, List, [], ◌∷◌, ◌++◌, Option}
use Rattle.async_packet.specs.Labels.{LabelParts}
use Rattle.rbc_disk.specs.Disk.{Disk}
use Rattle.rbc_disk.specs.Runs.{Told}
use Rattle.sbp_journal.specs.declared.outbox.Outgoing.{Outgoing}
use Rattle.sbp_journal.specs.Outgoings.{empty_outbox}
use Rattle.sbp_target.specs.Nodes.{NodeState, Scene, scene}
use Rattle.sbp_target.specs.Replies.{whole, scene_of}
use Rattle.sbp_target.specs.Receiving.{new_node, received, expired, seen, ticked, with_key}

-- a packet is delivered; a transaction times out; a generation is seen; a second goes by; a unit gets a key
pub data Call : Type 0 where
  receives : (told : Option Told) → (disks : List Disk) → (generation : ℕ) → (bytes : List ℕ) → Call
  lets_expire : (peer : ℕ) → LabelParts → Call
  sees : (generation id : ℕ) → Call
  ticks : Call
  sets_key : (unit : ℕ) → (key : List ℕ) → Call

-- one call
abbrev pub done : Call → Scene → Scene
done (receives told disks generation bytes) s = scene_of (received told generation bytes (whole s disks)).1
done (lets_expire peer label) s = (expired peer label s).1
done (sees generation id) s = (seen generation id s).1
done ticks s = ticked s
done (sets_key unit key) s = scene (with_key unit key s.node) s.outbox

-- a call of a target that has handed out nothing yet
abbrev pub alone : Call → NodeState → Scene
alone call node = done call (scene node empty_outbox)

-- a target of so many units, with so many logins from the start, after a list of calls, the latest of them first
abbrev pub after : ℕ → ℕ → List Call → NodeState
after units ready [] = new_node units ready
after units ready (call ∷ calls) = (alone call (after units ready calls)).node

-- all packets that were handed out, in their order
abbrev pub packets_after : ℕ → ℕ → List Call → List Outgoing
packets_after units ready [] = []
packets_after units ready (call ∷ calls) = packets_after units ready calls ++ (alone call (after units ready calls)).outbox.packets
