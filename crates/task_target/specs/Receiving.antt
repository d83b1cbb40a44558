-- What each call of a target does, apart from the count of calls.
use Rattle.std.specs.Prelude.{◌≡◌, ℕ, ◌==◌, Bool, true, false, if◌then◌else◌, List, [], Option, Some, None, Result, Ok, Err}
use Rattle.byteorder.specs.Endian.{big_bytes}
use Rattle.async_packet.specs.Labels.{LabelParts}
use Rattle.async_packet.specs.Packet.{Packet, header_in, write_response, read_quadlet_response, read_block_response, lock_response}
use Rattle.label_table.specs.declared.reply.Stale.{Stale}
use Rattle.label_table.specs.Layer.{Layer, Finding, of_generation, of_grammar, of_label, of_response, of_again, of_request, judging_step, expiring_step}
use Rattle.login_table.specs.declared.login.Login.{Login}
use Rattle.orb_layout.specs.Replies.{Answer, Payload, Done, Refused, Expired}
use Rattle.rbc_disk.specs.Runs.{Told}
use Rattle.sbp_journal.specs.declared.cause.Cause.TheVariants as ignored
use Rattle.sbp_journal.specs.declared.cause.Judged.{Judged}
use Rattle.sbp_journal.specs.declared.cause.Judged.TheVariants as judged
use Rattle.unordered_agent.specs.declared.step.TaskStep.{TaskStep}
use Rattle.unordered_agent.specs.Machine.{TaskMachine}
use Rattle.task_target.specs.declared.purpose.TaskPurpose.{TaskPurpose}
use Rattle.task_target.specs.Nodes.{Scene, scene}
use Rattle.task_target.specs.Following.{about, failed_step, follow, with_agent}
use Rattle.task_target.specs.Replies.{Whole, whole, scene_of, awaits, replied_to, served_login, taken, Silent, TellsOf}
use Rattle.task_target.specs.Serving.{answered, request_step}

-- what a response says of its request
abbrev pub answer_by : ℕ → Answer → Answer
answer_by rcode answer = if rcode == 0 then answer else Refused rcode

abbrev pub answer_in : Packet → Answer
answer_in (read_quadlet_response header rcode value) = answer_by rcode (Payload (big_bytes 4 value))
answer_in (read_block_response header rcode payload) = answer_by rcode (Payload payload)
answer_in (write_response header rcode) = answer_by rcode Done
answer_in (lock_response header rcode extended payload) = answer_by rcode Done
answer_in request = Done

-- not the response to a read of a quadlet
abbrev pub IsNoQuadlet : Packet → Type 0
IsNoQuadlet (read_quadlet_response header rcode value) = ⊥
IsNoQuadlet packet = Unit {0}

-- What a got response brings: nothing where its transaction belongs to nobody.
unfoldable pub concluded : Option Told → Option TaskPurpose → ℕ → LabelParts → Answer → Whole → Whole
concluded told None peer label answer w = w
concluded told (Some purpose) peer label answer w = replied_to told purpose.place peer label answer w

-- what a run told in it, and the counts of faults before and after
abbrev pub TellsAt : Option Told → Option TaskPurpose → ℕ → LabelParts → Answer → Whole → ℕ → ℕ → Type 0
TellsAt told None peer label answer w before now = Silent told before now
TellsAt told (Some purpose) peer label answer w before now = TellsOf told purpose.place peer label answer w before now

pub record Concludes (purpose : Option TaskPurpose) (peer : ℕ) (label : LabelParts) (answer : Answer) (old new : Whole) (before now : ℕ) : Type 0 where
  pub told : Option Told
  pub is : new ≡ concluded told purpose peer label answer old
  pub tells : TellsAt told purpose peer label answer old before now

-- The rows of judging, with their notes and answers: those of the transaction layer, then that of a register of another login.
abbrev pub with_layer : Layer TaskPurpose → Whole → Whole
with_layer layer w = record w { node = record w.node { layer = layer } }

abbrev pub in_scene : (Scene → Scene) → Whole → Whole
in_scene step w = whole (step (scene_of w)) w.disk

abbrev pub judged_scene : Judged × Scene → Whole → Judged × Whole
judged_scene (judged, s) w = (judged, whole s w.disk)

abbrev pub received_as : Option Told → List ℕ → Finding TaskPurpose → Whole → Judged × Whole
received_as told bytes of_generation w = (judged.Ignored ignored.Generation, w)
received_as told bytes of_grammar w = (judged.Ignored ignored.Grammar, w)
received_as told bytes of_label w = (judged.Ignored ignored.Label, w)
received_as told bytes (of_response p label purpose) w = (judged.Got, concluded told purpose (header_in p).source label (answer_in p) w)
received_as told bytes (of_again p rcode) w = (judged.Ignored ignored.Again, in_scene (answered p bytes rcode []) w)
received_as told bytes (of_request p) w = judged_scene (request_step p bytes (scene_of w)) w

-- A packet is delivered.
unfoldable pub received : Option Told → ℕ → List ℕ → Whole → Judged × Whole
received told generation bytes w =
    let found = judging_step w.node.layer generation bytes in
    received_as told bytes found.0 (with_layer found.1 w)

abbrev pub TellsIn : Option Told → Finding TaskPurpose → Whole → ℕ → ℕ → Type 0
TellsIn told (of_response p label purpose) w before now = TellsAt told purpose (header_in p).source label (answer_in p) w before now
TellsIn told found w before now = Silent told before now

-- At most one command runs in a delivery, and what it told is chosen by the medium; all else is determined. The counts are those of the medium's faults.
pub record Receives (generation : ℕ) (bytes : List ℕ) (old : Whole) (judged : Judged) (new : Whole) (before now : ℕ) : Type 0 where
  pub told : Option Told
  pub is : (judged, new) ≡ received told generation bytes old
  pub tells : let found = judging_step old.node.layer generation bytes in TellsIn told found.0 (with_layer found.1 old) before now

-- The transaction of a place timed out, which the agent waits for: no command runs.
abbrev pub expired_with : ℕ → Login → TaskStep × TaskMachine → Scene → Scene
expired_with place login (step, m) s =
    follow login (about s.node.agent place) step (scene (with_agent (taken place s.node) m) s.outbox)

abbrev pub expired_by : ℕ → Option Login → Bool → Scene → Scene
expired_by place (Some login) true s = expired_with place login (failed_step s.node.agent place Expired) s
expired_by place (Some login) false s = s
expired_by place None is_awaited s = s

unfoldable pub expire_place : ℕ → ℕ → LabelParts → Scene → Scene
expire_place place peer label s = expired_by place (served_login s.node) (awaits s.node place peer label) s

-- What a time-out brings: nothing where its transaction belongs to nobody.
abbrev pub timed_out : Option TaskPurpose → ℕ → LabelParts → Scene → Scene
timed_out None peer label s = s
timed_out (Some purpose) peer label s = expire_place purpose.place peer label s

abbrev pub expired_in : Result (Option TaskPurpose) Stale × Layer TaskPurpose → ℕ → LabelParts → Scene → Result (Unit {0}) Stale × Scene
expired_in (Ok purpose, layer) peer label s = (Ok tt, timed_out purpose peer label (scene (record s.node { layer = layer }) s.outbox))
expired_in (Err stale, layer) peer label s = (Err stale, scene (record s.node { layer = layer }) s.outbox)

-- A transaction times out.
unfoldable pub expired : ℕ → LabelParts → Scene → Result (Unit {0}) Stale × Scene
expired peer label s = expired_in (expiring_step s.node.layer peer label) peer label s
