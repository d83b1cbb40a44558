-- What a task world counts for a settle is what its history says.
use Rattle.sbp_world.proofs.Words.Std.{if◌then◌else◌, ◌≡◌, refl, ℕ, ◌==◌, nat_eq, true, false, Bool, List, Option, Some, None}
use Rattle.sbp_world.proofs.Words.Wire.{Sent, found_sent, Judged, Moment, OutboxState, Request, find, no_packet}
use Rattle.rbc_disk.specs.Held.{Held}
use Rattle.rbc_disk.specs.Runs.{Told}
use Rattle.sbp_journal.specs.declared.note.Note.TheVariants as notes
use Rattle.sbp_world.proofs.Words.World.{initiator_expires, initiator_received, BytesTold, Scene, WorldState, with_note, with_target}
use Rattle.sbp_world.proofs.Wire.Balanced.{Balanced, notes_balance, target_balances}
use Rattle.sbp_world.proofs.Wire.Effects.{AreOtherSides}
use Rattle.sbp_world.proofs.Wire.LineCounts.{own_expires, own_received, refuses, target_arrives}
use Rattle.sbp_world.specs.declared.parts.delivering.Arrival.{Arrival}
use Rattle.sbp_world.specs.Delivering as worlds
use Rattle.sbp_world.specs.Packets as packets
use Rattle.task_target.specs.Nodes.{TaskNode}
use Rattle.task_world.specs.Delivering.{at_node, at_other, delivered, delivered_by, received_by, received_step, task_received}
use Rattle.task_world.specs.Packets.{expires, task_expired, timed_out, timeout_line, timeout_of}
use Rattle.task_world.specs.Packets as task_packets
use Rattle.task_world.specs.Seats.{seat}
use Rattle.task_world.specs.Worlds.{TaskScene, TaskWorldState}
use Rattle.task_world.proofs.Wire.Delivered.{SoundScene}
use Rattle.task_world.proofs.Wire.Expired.{SoundWorld}
use Rattle.task_world.proofs.Wire.Told.{node_ends, node_tells}

module _ (past : List Moment) (most : ℕ) where
  abbrev pub Counts : WorldState → Type 0
  Counts w = Balanced past most w

  -- ---- a delivery
  module _ {before : List Moment} {lines : ℕ} (s : TaskScene) (sound : SoundScene before lines s) (serial : ℕ) (again : Bool) (told : Option Told) (fits : BytesTold told) (b : Counts s.scene.world) where
    at_node_counts : (to : ℕ) (r : Judged × (OutboxState × (TaskNode × Held))) → AreOtherSides r.1.0.sides → Counts (delivered_by serial again (at_node to r s)).scene.world
    at_node_counts to (judged, (outbox, (node, media))) o = target_arrives past most serial again to (judged, (outbox, (seat node, media))) s.scene o b

    at_other_counts : (r : Option Arrival × (OutboxState × Scene)) → Counts (worlds.delivered_by serial again r).world → Counts (delivered_by serial again (at_other r s)).scene.world
    at_other_counts (arrival, (outbox, scene)) c = c

    counts_where : (c : Bool) (sent : Sent) → found_sent serial s.scene.world.store.kept ≡ Some sent → Counts (delivered_by serial again (if c then at_node sent.to (task_received told sent s.node s.scene.media) s else at_other (initiator_received sent s.scene) s)).scene.world
    counts_where true sent found = at_node_counts sent.to (task_received told sent s.node s.scene.media) (node_tells s sound serial told fits sent found)
    counts_where false sent found = at_other_counts (initiator_received sent s.scene) (own_received past most serial again sent s.scene b)

    counts_by : (so : Option Sent) → found_sent serial s.scene.world.store.kept ≡ so → Counts (delivered_by serial again (received_by told so s)).scene.world
    counts_by None e = b
    counts_by (Some sent) e = counts_where (nat_eq sent.to 0) sent e

    pub delivers_counts : Counts (delivered serial again told s).scene.world
    unfolding delivered received_step
    delivers_counts = counts_by (found_sent serial s.scene.world.store.kept) refl

  -- ---- a time-out
  module _ {before : List Moment} {lines : ℕ} (w : TaskWorldState) (sound : SoundWorld before lines w) (line serial : ℕ) (b : Counts w.world) where
    left_counts : (request : Request) (r : Bool × (OutboxState × TaskNode)) → AreOtherSides r.1.0.sides → Counts (timed_out line serial request.node (task_packets.at_node r w)).world
    left_counts request (true, (outbox, node)) o =
        target_balances past most request.node 0 outbox (seat node) (with_note (notes.TimedOut serial) w.world) o (notes_balance past most (notes.TimedOut serial) w.world refl b)
    left_counts request (false, (outbox, node)) o = refuses past most line no_packet (with_target (seat node) w.world) (record { counted = b.counted; states = b.states })

    other_counts : (request : Request) (r : Bool × (OutboxState × WorldState)) → Counts (packets.timed_out line serial request.node r) → Counts (timed_out line serial request.node (task_packets.at_other r w)).world
    other_counts request (true, (outbox, v)) c = c
    other_counts request (false, (outbox, v)) c = c

    pick_counts : (c : Bool) (request : Request) → Counts (timed_out line serial request.node (if c then task_packets.at_node (task_expired request w.node) w else task_packets.at_other (initiator_expires request w.world) w)).world
    pick_counts true request = left_counts request (task_expired request w.node) (node_ends w sound request)
    pick_counts false request = other_counts request (initiator_expires request w.world) (own_expires past most line serial request w.world b)

    of_counts : (o : Option Request) → Counts (timeout_of o line serial w).world
    unfolding expires
    of_counts None = refuses past most line no_packet w.world b
    of_counts (Some request) = pick_counts (request.node == 0) request

    pub times_out_counts : Counts (timeout_line line serial w).world
    unfolding timeout_line
    times_out_counts = of_counts (find w.world.requests serial)
