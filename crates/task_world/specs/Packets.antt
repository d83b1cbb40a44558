-- The lines that name a packet.
use Rattle.std.specs.Prelude.{◌≡◌, ℕ, ◌==◌, Bool, true, false, if◌then◌else◌, List, [], ◌∷◌, Option, Some, None, Result, Ok, Err}
use Rattle.label_table.specs.declared.reply.Stale.{Stale}
use Rattle.rbc_disk.specs.Runs.{Told}
use Rattle.sbp_bus.specs.declared.requests.Request.{Request}
use Rattle.sbp_bus.specs.Packets.{no_packet}
use Rattle.sbp_bus.specs.Requests.{find}
use Rattle.sbp_journal.specs.declared.note.Note.TheVariants as notes
use Rattle.sbp_journal.specs.Outgoings.{OutboxState, empty_outbox}
use Rattle.sbp_world.specs.Handing.{handed_out}
use Rattle.sbp_world.specs.Packets.{first_told, initiator_expires, is_in_flight, may_repeat, refused}
use Rattle.sbp_world.specs.Worlds.{WorldState, with_note}
use Rattle.task_target.specs.Nodes.{TaskNode}
use Rattle.task_target.specs.Nodes as target
use Rattle.task_target.specs.Receiving.{expired}
use Rattle.task_world.specs.Delivering.{MayReceive, delivered}
use Rattle.task_world.specs.Worlds.{TaskScene, TaskWorldState, in_task_world, in_world, with_node}

-- ---- one delivery of a packet, or a refusal

-- a refused line changes nothing but the journal
abbrev pub refused_line : ℕ → ℕ → TaskScene → TaskScene
refused_line line number s = in_world (in_task_world (refused line number)) s

abbrev pub delivered_if : Bool → ℕ → ℕ → Bool → List (Option Told) → TaskScene → TaskScene
delivered_if true line serial again told s = delivered serial again (first_told told) s
delivered_if false line serial again told s = refused_line line no_packet s

-- one delivery tells once, and a refusal not at all
abbrev pub MayIf : Bool → ℕ → List (Option Told) → TaskScene → Type 0
MayIf true serial (told ∷ []) s = MayReceive told serial s
MayIf true serial told s = ⊥
MayIf false serial told s = told ≡ []

-- A packet that is in flight is delivered, else the line is refused.
pub record Delivered (line serial : ℕ) (old new : TaskScene) : Type 0 where
  pub told : List (Option Told)
  pub is : new ≡ delivered_if (is_in_flight serial old.scene.world) line serial false told old
  pub may : MayIf (is_in_flight serial old.scene.world) serial told old

-- A packet that may be repeated is delivered once more, else the line is refused.
pub record Repeated (line serial : ℕ) (old new : TaskScene) : Type 0 where
  pub told : List (Option Told)
  pub is : new ≡ delivered_if (may_repeat serial old.scene.world) line serial true told old
  pub may : MayIf (may_repeat serial old.scene.world) serial told old

-- ---- a transaction times out

-- a stale one changes nothing
abbrev pub node_left : Result (Unit {0}) Stale × target.Scene → TaskNode → Bool × (OutboxState × TaskNode)
node_left (Ok done, s) old = (true, (s.outbox, s.node))
node_left (Err stale, s) old = (false, (empty_outbox, old))

unfoldable pub task_expired : Request → TaskNode → Bool × (OutboxState × TaskNode)
task_expired request node = node_left (expired request.peer request.label (target.scene node empty_outbox)) node

abbrev pub at_node : Bool × (OutboxState × TaskNode) → TaskWorldState → Bool × (OutboxState × TaskWorldState)
at_node (done, (outbox, node)) w = (done, (outbox, with_node node w))

abbrev pub at_other : Bool × (OutboxState × WorldState) → TaskWorldState → Bool × (OutboxState × TaskWorldState)
at_other (done, (outbox, world)) w = (done, (outbox, record w { world = world }))

-- The request expires at its sender, or is stale there; what that hands out, and the world then.
unfoldable pub expires : Request → TaskWorldState → Bool × (OutboxState × TaskWorldState)
expires request w =
    if request.node == 0 then at_node (task_expired request w.node) w else at_other (initiator_expires request w.world) w

abbrev pub timed_out : ℕ → ℕ → ℕ → Bool × (OutboxState × TaskWorldState) → TaskWorldState
timed_out line serial node (true, (outbox, w)) =
    in_task_world (λ world. handed_out node 0 outbox (with_note (notes.TimedOut serial) world)) w
timed_out line serial node (false, (outbox, w)) = in_task_world (refused line no_packet) w

abbrev pub timeout_of : Option Request → ℕ → ℕ → TaskWorldState → TaskWorldState
timeout_of None line serial w = in_task_world (refused line no_packet) w
timeout_of (Some request) line serial w = timed_out line serial request.node (expires request w)

-- The transaction of a request times out, where it is under way at its sender; its packet stays as it is.
unfoldable pub timeout_line : ℕ → ℕ → TaskWorldState → TaskWorldState
timeout_line line serial w = timeout_of (find w.world.requests serial) line serial w
