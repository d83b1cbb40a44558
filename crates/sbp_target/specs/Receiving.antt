-- What each call of a target does, apart from the count of calls.
use Rattle.std.specs.Prelude.{◌≡◌, ℕ, zero, suc, ◌+◌, ◌==◌, Bool, true, false, if◌then◌else◌, List, [], length, map, position, replicate, slice_set, slice_index_or, Option, Some, None, Result, Ok, Err}
use Rattle.std.specs.List.{remove}
use Rattle.byteorder.specs.Endian.{big_bytes}
use Rattle.async_packet.specs.Labels.{LabelParts}
use Rattle.async_packet.specs.Packet.{Packet, header_in, write_response, read_quadlet_response, read_block_response, lock_response}
use Rattle.label_table.specs.declared.reply.Stale.{Stale}
use Rattle.label_table.specs.Layer.{Layer, Finding, of_generation, of_grammar, of_label, of_response, of_again, of_request, judging_step, expiring_step, seeing_step, new_layer}
use Rattle.orb_layout.specs.Replies.{Answer, Payload, Done, Refused, Expired}
use Rattle.mgmt_agent.specs.Machine as management
use Rattle.login_table.specs.declared.login.Login.{Login}
use Rattle.login_table.specs.Table.{Table, place_at, is_live, hold_step, tick_step, new_table}
use Rattle.config_rom.specs.Make.{made}
use Rattle.orb_layout.specs.Pointers.{quad_bytes}
use Rattle.rbc_disk.specs.Units.{new_unit}
use Rattle.rbc_disk.specs.Runs.{Told}
use Rattle.command_agent.specs.declared.step.AgentStep.{AgentStep}
use Rattle.command_agent.specs.declared.step.Which.{Which}
use Rattle.sbp_journal.specs.declared.cause.Cause.TheVariants as ignored
use Rattle.sbp_journal.specs.declared.cause.CutCause.TheVariants as cuts
use Rattle.sbp_journal.specs.declared.cause.Judged.{Judged}
use Rattle.sbp_journal.specs.declared.cause.Judged.TheVariants as judged
use Rattle.sbp_journal.specs.declared.side.Side.TheVariants as sides
use Rattle.sbp_journal.specs.Outgoings.{OutboxState}
use Rattle.target_base.specs.Beginning.{ready_from, target_eui}
use Rattle.sbp_target.specs.declared.desk.Desk.{Desk}
use Rattle.sbp_target.specs.declared.purpose.Purpose.{Purpose}
use Rattle.sbp_target.specs.declared.purpose.Purpose.TheVariants as purposes
use Rattle.sbp_target.specs.Sending.{with_side}
use Rattle.sbp_target.specs.Desks.{disabled, expired_desk, new_desk, which_in}
use Rattle.sbp_target.specs.Nodes.{NodeState, Scene, scene, desk_at, login_at, with_desk}
use Rattle.sbp_target.specs.Agents.{follow}
use Rattle.sbp_target.specs.Units.{cut_all, is_node}
use Rattle.sbp_target.specs.Replies.{Whole, whole, scene_of, replied_to, TellsOf}
use Rattle.sbp_target.specs.Management.{manage}
use Rattle.sbp_target.specs.Serving.{answered, request_step}

-- what a response says of its request
abbrev pub answer_by : ℕ → Answer → Answer
answer_by rcode answer = if rcode == 0 then answer else Refused rcode

abbrev pub answer_in : Packet → Answer
answer_in (read_quadlet_response header rcode value) = answer_by rcode (Payload (big_bytes 4 value))
answer_in (read_block_response header rcode payload) = answer_by rcode (Payload payload)
answer_in (write_response header rcode) = answer_by rcode Done
answer_in (lock_response header rcode extended payload) = answer_by rcode Done
answer_in request = Done

-- not the response to a read of a quadlet
abbrev pub IsNoQuadlet : Packet → Type 0
IsNoQuadlet (read_quadlet_response header rcode value) = ⊥
IsNoQuadlet packet = Unit {0}

abbrev pub removed : Option ℕ → List ℕ → List ℕ
removed None nodes = nodes
removed (Some at) nodes = remove nodes at

-- an unsolicited status was answered
abbrev pub settled : ℕ → NodeState → NodeState
settled peer node = record node { pending = removed (position (is_node peer) node.pending) node.pending }

abbrev pub in_scene : (Scene → Scene) → Whole → Whole
in_scene step w = whole (step (scene_of w)) w.disks

-- What a got response brings, by what its transaction was for.
unfoldable pub concluded : Option Told → Option Purpose → ℕ → LabelParts → Answer → Whole → Whole
concluded told None peer label answer w = w
concluded told (Some (purposes.Agent place)) peer label answer w = replied_to told place peer label answer w
concluded told (Some purposes.Management) peer label answer w = in_scene (manage answer) w
concluded told (Some purposes.Unsolicited) peer label answer w = in_scene (λ s. scene (settled peer s.node) s.outbox) w

-- what a run told in it, and the counts of faults before and after
abbrev pub TellsAt : Option Told → Option Purpose → ℕ → LabelParts → Answer → Whole → List ℕ → List ℕ → Type 0
TellsAt told (Some (purposes.Agent place)) peer label answer w before now = TellsOf told place peer label answer w before now
TellsAt told (Some purposes.Management) peer label answer w before now = (told ≡ None) × (now ≡ before)
TellsAt told (Some purposes.Unsolicited) peer label answer w before now = (told ≡ None) × (now ≡ before)
TellsAt told None peer label answer w before now = (told ≡ None) × (now ≡ before)

pub record Concludes (purpose : Option Purpose) (peer : ℕ) (label : LabelParts) (answer : Answer) (old new : Whole) (before now : List ℕ) : Type 0 where
  pub told : Option Told
  pub is : new ≡ concluded told purpose peer label answer old
  pub tells : TellsAt told purpose peer label answer old before now

-- The rows of judging, with their notes and answers: those of the transaction layer, then that of a register of another login.
abbrev pub with_layer : Layer Purpose → Whole → Whole
with_layer layer w = record w { node = record w.node { layer = layer } }

abbrev pub judged_scene : Judged × Scene → Whole → Judged × Whole
judged_scene (judged, s) w = (judged, whole s w.disks)

abbrev pub received_as : Option Told → List ℕ → Finding Purpose → Whole → Judged × Whole
received_as told bytes of_generation w = (judged.Ignored ignored.Generation, w)
received_as told bytes of_grammar w = (judged.Ignored ignored.Grammar, w)
received_as told bytes of_label w = (judged.Ignored ignored.Label, w)
received_as told bytes (of_response p label purpose) w = (judged.Got, concluded told purpose (header_in p).source label (answer_in p) w)
received_as told bytes (of_again p rcode) w = (judged.Ignored ignored.Again, in_scene (answered p bytes rcode []) w)
received_as told bytes (of_request p) w = judged_scene (request_step p bytes (scene_of w)) w

-- A packet is delivered.
unfoldable pub received : Option Told → ℕ → List ℕ → Whole → Judged × Whole
received told generation bytes w =
    let found = judging_step w.node.layer generation bytes in
    received_as told bytes found.0 (with_layer found.1 w)

abbrev pub TellsIn : Option Told → Finding Purpose → Whole → List ℕ → List ℕ → Type 0
TellsIn told (of_response p label purpose) w before now = TellsAt told purpose (header_in p).source label (answer_in p) w before now
TellsIn told found w before now = (told ≡ None) × (now ≡ before)

-- At most one command runs in a delivery, and what it told is chosen by the media; all else is determined.
pub record Receives (generation : ℕ) (bytes : List ℕ) (old : Whole) (judged : Judged) (new : Whole) (before now : List ℕ) : Type 0 where
  pub told : Option Told
  pub is : (judged, new) ≡ received told generation bytes old
  pub tells : let found = judging_step old.node.layer generation bytes in TellsIn told found.0 (with_layer found.1 old) before now

-- A transaction of the agent of a place timed out: no command runs.
abbrev pub expired_with : ℕ → Login → AgentStep × Desk → Scene → Scene
expired_with place login (step, desk) s = follow place login step (scene (with_desk s.node place desk) s.outbox)

abbrev pub expired_by : ℕ → Option Login → Option Which → Scene → Scene
expired_by place (Some login) (Some which) s = expired_with place login (expired_desk which (desk_at s.node place)) s
expired_by place None which s = s
expired_by place (Some login) None s = s

unfoldable pub expire_agent : ℕ → ℕ → LabelParts → Scene → Scene
expire_agent place peer label s = expired_by place (login_at s.node place) (which_in (desk_at s.node place) peer label) s

-- What a time-out brings, by what its transaction was for: an unsolicited status that is not answered stays pending.
abbrev pub timed_out : Option Purpose → ℕ → LabelParts → Scene → Scene
timed_out None peer label s = s
timed_out (Some (purposes.Agent place)) peer label s = expire_agent place peer label s
timed_out (Some purposes.Management) peer label s = manage Expired s
timed_out (Some purposes.Unsolicited) peer label s = s

abbrev pub expired_in : Result (Option Purpose) Stale × Layer Purpose → ℕ → LabelParts → Scene → Result (Unit {0}) Stale × Scene
expired_in (Ok purpose, layer) peer label s = (Ok tt, timed_out purpose peer label (scene (record s.node { layer = layer }) s.outbox))
expired_in (Err stale, layer) peer label s = (Err stale, scene (record s.node { layer = layer }) s.outbox)

-- A transaction times out.
unfoldable pub expired : ℕ → LabelParts → Scene → Result (Unit {0}) Stale × Scene
expired peer label s = expired_in (expiring_step s.node.layer peer label) peer label s

-- A reset is seen: transactions are dropped and the operation ends; all lists are cut; every live login is held; and each register for unsolicited status is disabled.
abbrev pub tell_held : Option Login → OutboxState → OutboxState
tell_held None outbox = outbox
tell_held (Some login) outbox = if is_live login then with_side outbox (sides.Held login.login) else outbox

unfoldable pub held_from : ℕ → ℕ → List (Option Login) → OutboxState → OutboxState
held_from zero place places outbox = outbox
held_from (suc left) place places outbox = held_from left (place + 1) places (tell_held (place_at places place) outbox)

abbrev pub after_reset : NodeState → NodeState
after_reset node = record node { logins = hold_step node.logins; desks = map disabled node.desks; pending = [] }

abbrev pub held_all : Scene → Scene
held_all s = scene (after_reset s.node) (held_from 8 0 s.node.logins.places s.outbox)

abbrev pub cleared_node : Layer Purpose → NodeState → NodeState
cleared_node layer node = record node { layer = layer; manager = management.clear_step node.manager }

abbrev pub reset_by : Bool × Layer Purpose → Scene → Bool × Scene
reset_by (false, layer) s = (false, scene (record s.node { layer = layer }) s.outbox)
reset_by (true, layer) s = (true, held_all (cut_all cuts.Reset None (scene (cleared_node layer s.node) s.outbox)))

-- The target sees a generation, and its ID in that.
unfoldable pub seen : ℕ → ℕ → Scene → Bool × Scene
seen generation id s = reset_by (seeing_step s.node.layer generation id) s

-- A second goes by.
unfoldable pub expired_from : ℕ → ℕ → List ℕ → OutboxState → OutboxState
expired_from zero at logins outbox = outbox
expired_from (suc left) at logins outbox =
    expired_from left (at + 1) logins (with_side outbox (sides.Expired (slice_index_or logins at 0)))

abbrev pub ticked_by : List ℕ × Table → Scene → Scene
ticked_by (logins, table) s = scene (record s.node { logins = table }) (expired_from (length logins) 0 logins s.outbox)

unfoldable pub ticked : Scene → Scene
ticked s = ticked_by (tick_step s.node.logins) s

-- The key of a unit is set, for later logins.
abbrev pub with_key : ℕ → List ℕ → NodeState → NodeState
with_key unit key node = record node { keys = slice_set node.keys unit key }

-- A new target, with physical ID 0 in generation 0.
abbrev pub new_node : ℕ → ℕ → NodeState
new_node units ready = record {
  layer = new_layer 0xffc0;
  manager = management.new_machine;
  logins = ready_from ready 0 new_table;
  keys = replicate units (replicate 8 0);
  desks = replicate 8 new_desk;
  units = replicate units new_unit;
  pending = [];
  rom = quad_bytes (made target_eui units);
}
