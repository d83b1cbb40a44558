-- What the node of a task world hands out is effects, of each delivery and of each time-out: one note, and behind it effects.
use Rattle.sbp_world.proofs.Words.Std.{if◌then◌else◌, is_ok, ◌≡◌, ◌∙◌, refl, sym, ap, subst, ℕ, ◌-◌, ◌==◌, nat_lt, nat_eq, Bool, true, false, List, length, Option, Some, Result, Ok, Err}
use Rattle.sbp_world.proofs.Words.Wire.{Stale, Sent, found_sent, Judged, Layer, Node, expiring_step, Moment, OutboxState, Request, empty_outbox, bare}
use Rattle.bus_transactions.proofs.Bares.{takes_steps}
use Rattle.rbc_disk.specs.Disk.{disk_at}
use Rattle.rbc_disk.specs.Held.{Held}
use Rattle.rbc_disk.specs.Runs.{Told}
use Rattle.sbp_target.specs.Nodes as ordered
use Rattle.sbp_target.specs.Receiving as ordered_steps
use Rattle.sbp_world.proofs.Words.Target.{NodeState}
use Rattle.sbp_world.proofs.Words.World.{initiator_expires, initiator_received, target_expired, BytesTold, Scene, WorldState}
use Rattle.sbp_world.proofs.Wire.Effects.{AreOtherSides, others_effects}
use Rattle.sbp_world.proofs.Wire.Holding.{KnownTo}
use Rattle.sbp_world.proofs.Wire.OwnHears.{ours}
use Rattle.sbp_world.proofs.Wire.Turns.{Arrives, Delivered, Ends, at_target_arrives, delivered_is, ends_at_initiator, initiator_arrives, is_inside}
use Rattle.sbp_world.proofs.Wire.UnderWay.{at_target_is, target_ok, bare_ok}
use Rattle.sbp_world.specs.declared.parts.delivering.Arrival.{Arrival}
use Rattle.sbp_world.specs.Delivering as worlds
use Rattle.sbp_world.specs.Packets as packets
use Rattle.task_target.specs.declared.purpose.TaskPurpose.{TaskPurpose}
use Rattle.task_target.specs.Nodes as target
use Rattle.task_target.specs.Nodes.{TaskNode}
use Rattle.task_target.specs.Receiving.{expired, expired_in, received}
use Rattle.task_target.specs.Replies.{Whole}
use Rattle.task_world.specs.Delivering.{at_node, at_other, count_behind, delivered, delivered_by, left_node, received_by, received_step, task_received, whole_of}
use Rattle.task_world.specs.Packets.{expires, node_left, task_expired}
use Rattle.task_world.specs.Packets as task_packets
use Rattle.task_world.specs.Seats.{retag, seat}
use Rattle.task_world.specs.Worlds.{TaskScene, TaskWorldState}
use Rattle.task_world.proofs.Fit.Sides.{expires_others, receives_others}
use Rattle.task_world.proofs.Wire.Delivered.{SoundScene}
use Rattle.task_world.proofs.Wire.Expired.{SoundWorld}
use Rattle.task_world.proofs.Wire.Seats.{retag_bare}

-- ---- a delivery
-- what the node tells of it
left_tells : (r : Judged × Whole) (count : ℕ) → AreOtherSides r.1.outbox.sides → AreOtherSides (left_node r count).1.0.sides
left_tells (judged, w) count h = h

module _ {past : List Moment} {lines : ℕ} (s : TaskScene) (sound : SoundScene past lines s) (serial : ℕ) (told : Option Told) (fits : BytesTold told) (sent : Sent) (found : found_sent serial s.scene.world.store.kept ≡ Some sent) where
  pub node_tells : AreOtherSides (task_received told sent s.node s.scene.media).1.0.sides
  unfolding task_received
  node_tells =
      left_tells (received told sent.generation sent.bytes (whole_of s.node s.scene.media)) (count_behind told sent s.node s.scene.media)
      (receives_others (KnownTo s.scene.world.generations.seen) told (disk_at s.scene.media.disks 0) sent.generation sent.bytes s.node sound.holds
      (record { bytes_fit = (ours s.scene.world sound.own.stands serial sent found).bytes; told_fits = fits }))

  node_turns : (again : Bool) (r : Judged × (OutboxState × (TaskNode × Held))) → AreOtherSides r.1.0.sides → Delivered serial s.scene.world.fresh (delivered_by serial again (at_node sent.to r s)).scene.world.fresh
  node_turns again (judged, (outbox, (node, media))) o =
      delivered_is serial again (worlds.at_target sent.to (judged, (outbox, (seat node, media))) s.scene) s.scene
      (at_target_arrives sent.to (judged, (outbox, (seat node, media))) s.scene (others_effects outbox.sides o))

  other_turns : (again : Bool) (r : Option Arrival × (OutboxState × Scene)) → Arrives r s.scene → Delivered serial s.scene.world.fresh (delivered_by serial again (at_other r s)).scene.world.fresh
  other_turns again (arrival, (outbox, scene)) a = delivered_is serial again (arrival, (outbox, scene)) s.scene a

  turns_where : (again b : Bool) → nat_eq sent.to 0 ≡ b → Delivered serial s.scene.world.fresh (delivered_by serial again (if b then at_node sent.to (task_received told sent s.node s.scene.media) s else at_other (initiator_received sent s.scene) s)).scene.world.fresh
  turns_where again true e = node_turns again (task_received told sent s.node s.scene.media) node_tells
  turns_where again false e =
      other_turns again (initiator_received sent s.scene)
      (initiator_arrives sent s.scene (nat_lt (sent.to - 1) (length s.scene.world.initiators)) (is_inside sent.to (length s.scene.world.initiators) e (ours s.scene.world sound.own.stands serial sent found).to))

  pub delivers : (again : Bool) → Delivered serial s.scene.world.fresh (delivered serial again told s).scene.world.fresh
  unfolding delivered received_step
  delivers again =
      subst (λ o. Delivered serial s.scene.world.fresh (delivered_by serial again (received_by told o s)).scene.world.fresh) (sym found) (turns_where again (nat_eq sent.to 0) refl)

-- ---- a time-out
-- what comes of it, as a world has it
abbrev pub plain_left : Bool × (OutboxState × TaskWorldState) → Bool × (OutboxState × WorldState)
plain_left (done, (outbox, w)) = (done, (outbox, w.world))

node_left_tells : (r : Result (Unit {0}) Stale × target.Scene) (old : TaskNode) → AreOtherSides r.1.outbox.sides → AreOtherSides (node_left r old).1.0.sides
node_left_tells (Ok done, s) old h = h
node_left_tells (Err stale, s) old h = tt

module _ {past : List Moment} {lines : ℕ} (w : TaskWorldState) (sound : SoundWorld past lines w) (request : Request) where
  pub node_ends : AreOtherSides (task_expired request w.node).1.0.sides
  unfolding task_expired
  node_ends =
      node_left_tells (expired request.peer request.label (target.scene w.node empty_outbox)) w.node
      (expires_others (KnownTo w.world.generations.seen) request.peer request.label w.node sound.holds)

  at_node_ends : (r : Bool × (OutboxState × TaskNode)) → AreOtherSides r.1.0.sides → Ends (plain_left (task_packets.at_node r w)) w.world
  at_node_ends (done, (outbox, node)) o = record { sides = others_effects outbox.sides o; before = refl }

  at_other_ends : (r : Bool × (OutboxState × WorldState)) → Ends r w.world → Ends (plain_left (task_packets.at_other r w)) w.world
  at_other_ends (done, (outbox, world)) e = e

  pick_ends : (b : Bool) → Ends (plain_left (if b then task_packets.at_node (task_expired request w.node) w else task_packets.at_other (initiator_expires request w.world) w)) w.world
  pick_ends true = at_node_ends (task_expired request w.node) node_ends
  pick_ends false = at_other_ends (initiator_expires request w.world) (ends_at_initiator request w.world)

  pub ends : Ends (plain_left (expires request w)) w.world
  unfolding expires
  ends = pick_ends (request.node == 0)

  -- it is under way at the node where it is so at the seat
  layer_ok : {P : Type 0} (layer : Layer P) → is_ok (expiring_step (bare layer) request.peer request.label).0 ≡ is_ok (expiring_step layer request.peer request.label).0
  layer_ok {P} layer =
      ap (λ (r : Result (Option (Unit {0})) Stale × Layer (Unit {0})). is_ok r.0) ((takes_steps P).expires layer request.peer request.label) ∙ bare_ok (expiring_step layer request.peer request.label)

  node_ok : (r : Result (Option TaskPurpose) Stale × Layer TaskPurpose) (s : target.Scene) (old : TaskNode) → (node_left (expired_in r request.peer request.label s) old).0 ≡ is_ok r.0
  node_ok (Ok purpose, layer) s old = refl
  node_ok (Err stale, layer) s old = refl

  seat_ok : (task_expired request w.node).0 ≡ (target_expired request (seat w.node)).0
  unfolding task_expired expired target_expired ordered_steps.expired
  seat_ok =
      node_ok (expiring_step w.node.layer request.peer request.label) (target.scene w.node empty_outbox) w.node
      ∙ sym (layer_ok w.node.layer)
      ∙ ap (λ (l : Node). is_ok (expiring_step l request.peer request.label).0) (sym (retag_bare w.node.layer))
      ∙ layer_ok (retag w.node.layer)
      ∙ target_ok (expiring_step (retag w.node.layer) request.peer request.label) request.peer request.label (ordered.scene (seat w.node) empty_outbox) (seat w.node)

  at_node_is : (r : Bool × (OutboxState × TaskNode)) → (plain_left (task_packets.at_node r w)).0 ≡ r.0
  at_node_is (done, (outbox, node)) = refl

  at_other_is : (r : Bool × (OutboxState × WorldState)) → (plain_left (task_packets.at_other r w)).0 ≡ r.0
  at_other_is (done, (outbox, world)) = refl

  same_if : (b : Bool) → (plain_left (if b then task_packets.at_node (task_expired request w.node) w else task_packets.at_other (initiator_expires request w.world) w)).0 ≡ (if b then packets.at_target (target_expired request w.world.target) w.world else initiator_expires request w.world).0
  same_if true =
      at_node_is (task_expired request w.node) ∙ seat_ok ∙ ap (λ (t : NodeState). (target_expired request t).0) (sym sound.target_is)
      ∙ sym (at_target_is (target_expired request w.world.target) w.world)
  same_if false = at_other_is (initiator_expires request w.world)

  pub same_expiry : (plain_left (expires request w)).0 ≡ (packets.expires request w.world).0
  unfolding expires packets.expires
  same_expiry = same_if (request.node == 0)
