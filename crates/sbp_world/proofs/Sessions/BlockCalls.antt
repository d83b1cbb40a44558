-- Each packet that a target hands out in a call has a tcode other than 0: an answer, and what it asks for behind that, or as a transaction ends.
use Rattle.sbp_world.proofs.Words.Std.{ℕ, List, Option}
use Rattle.sbp_world.proofs.Words.Wire.{LabelParts, empty_outbox}
use Rattle.sbp_world.proofs.Words.Target.{Disk, Told, Moves, free, NodeState, Scene, scene, expired, received, seen, ticked, whole}
use Rattle.sbp_target.proofs.Histories.Views as moves
use Rattle.sbp_world.proofs.Hosts.TargetGives.{gives}
use Rattle.sbp_world.proofs.Sessions.Blocking.{AllCoded, mild_coded}

coded : (node : NodeState) (s : Scene) → Moves free (scene node empty_outbox) s → AllCoded s.outbox.packets
coded node s m = mild_coded s.outbox.packets (gives (scene node empty_outbox) s m (tt, tt)).1

pub delivery_coded : (told : Option Told) (generation : ℕ) (bytes : List ℕ) (node : NodeState) (disks : List Disk) → AllCoded (received told generation bytes (whole (scene node empty_outbox) disks)).1.outbox.packets
delivery_coded told generation bytes node disks = coded node _ (moves.receives told generation bytes (whole (scene node empty_outbox) disks))

pub lapse_coded : (peer : ℕ) (label : LabelParts) (node : NodeState) → AllCoded (expired peer label (scene node empty_outbox)).1.outbox.packets
lapse_coded peer label node = coded node _ (moves.expires peer label (scene node empty_outbox))

pub sight_coded : (generation id : ℕ) (node : NodeState) → AllCoded (seen generation id (scene node empty_outbox)).1.outbox.packets
sight_coded generation id node = coded node _ (moves.sees generation id (scene node empty_outbox))

pub second_coded : (node : NodeState) → AllCoded (ticked (scene node empty_outbox)).outbox.packets
second_coded node = coded node _ (moves.ticks (scene node empty_outbox))
