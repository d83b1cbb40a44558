-- Each call of a task node is what the wire takes a call of a node for.
use Rattle.sbp_world.proofs.Words.Std.{arith, ◌≡◌, refl, sym, subst, ℕ, ◌^◌, ◌<◌, Bool, true, false, cond, List, [], Option, Some, None, Result, Ok, Err}
use Rattle.sbp_world.proofs.Words.Wire.{LabelParts, Packet, lock, lock_response, read_block, read_block_response, read_quadlet, read_quadlet_response, write_block, write_quadlet, write_response, header_in, AreSmall, IsLayer, ArePlainSides, IsDelivery, IsExpiry, Reply, as_before, as_decided, is_reply, IsRequestOf, Stale, Layer, Finding, of_generation, of_grammar, of_label, of_response, of_again, of_request, expiring_step, judging_step, Judged, IsPlainSide, Side, empty_outbox}
use Rattle.bus_transactions.proofs.FitCalls.{Answering, Asking, Calm, answering_answers, answering_asks, answering_disowns, answering_tells, asking_asks, asking_disowns, asking_tells, calm_disowns, calm_tells, no_ask, no_leaving}
use Rattle.bus_transactions.proofs.FitJudged.{BytesOf, IsFoundAs, bytes_of, found_as, no_gives, not_complete, source_fits, spelled}
use Rattle.bus_transactions.proofs.FitSteps.{expires_same, goes, judges_same, new_goes, replicate_or}
use Rattle.config_rom.specs.Make.{made}
use Rattle.label_table.specs.History as wire
use Rattle.login_table.specs.declared.login.Login.{Login}
use Rattle.login_table.specs.Table.{enter_step, fresh_id, left_for}
use Rattle.command_agent.specs.Machine.{new_machine}
use Rattle.rbc_disk.specs.Disk.{Disk}
use Rattle.rbc_disk.specs.Runs.{Told}
use Rattle.sbp_journal.specs.declared.cause.Cause.TheVariants as ignored
use Rattle.sbp_journal.specs.declared.cause.Judged.TheVariants as judged
use Rattle.sbp_journal.specs.declared.side.Side.TheVariants as sides
use Rattle.sbp_world.specs.FitTarget.{AreIds, FitsAgent}
use Rattle.orb_layout.specs.Replies.{Answer}
use Rattle.sbp_world.proofs.Common.{same_number}
use Rattle.sbp_world.proofs.Wire.Effects.{IsOtherSide}
use Rattle.sbp_world.proofs.FitTarget.Agents.{BytesIn, new_fits, quads_bytes}
use Rattle.sbp_world.proofs.FitTarget.Demands.{answer_small}
use Rattle.sbp_world.proofs.FitTarget.Served.{empty_fits}
use Rattle.sbp_target.specs.Receiving as ordered
use Rattle.target_base.specs.Addresses.{address_error}
use Rattle.target_base.specs.Beginning.{ready_from, target_eui}
use Rattle.target_base.specs.Logins.{is_barred}
use Rattle.task_target.specs.declared.purpose.Sent.{Sent}
use Rattle.task_target.specs.declared.purpose.TaskPurpose.{TaskPurpose}
use Rattle.unordered_agent.specs.declared.step.TaskStep.{TaskStep}
use Rattle.task_target.specs.Following.{failed_step}
use Rattle.task_target.specs.Nodes.{Scene, TaskNode, new_node, scene}
use Rattle.task_target.specs.Receiving.{answer_in, expired, expired_in, judged_scene, received, received_as, with_layer}
use Rattle.task_target.specs.Replies.{Whole, agent_step, awaits, scene_of, served_login, stage, whole}
use Rattle.task_target.specs.Serving.{answered, request_step, serve}
use Rattle.task_world.specs.Fitting.{Expires, Fits, FittingLaw, Holds, IsServed, MayReceive, NodeFits, Receives}
use Rattle.task_world.proofs.Fit.Pass.{In, Keeps, Leaves, NodeTold, StepTold, fits_layer, none_of}
use Rattle.task_world.proofs.Fit.Served.{Answers, RepliesTold, StepBy, answers_at, concludes, serves, times_out}

-- ---- what a response brings is bytes
answer_is : (p : Packet) → ordered.answer_in p ≡ answer_in p
answer_is (write_quadlet header offset value) = refl
answer_is (write_block header offset payload) = refl
answer_is (read_quadlet header offset) = refl
answer_is (read_block header offset count) = refl
answer_is (write_response header rcode) = refl
answer_is (read_quadlet_response header rcode value) = refl
answer_is (read_block_response header rcode payload) = refl
answer_is (lock header offset extended payload) = refl
answer_is (lock_response header rcode extended payload) = refl

pub answer_bytes : (p : Packet) → BytesOf p → BytesIn (answer_in p)
answer_bytes p b = subst BytesIn (answer_is p) (answer_small p b)

-- ---- what is said of a call so far is kept by its steps
plain_of : (side : Side) → IsOtherSide side → IsPlainSide side
plain_of (sides.Own note) h = absurd h
plain_of side h = tt

-- a task node tells no note of its own
pub others_told : (step : TaskStep) → StepTold IsOtherSide step
others_told step = record { ran = λ outcome e orb cdb payload. tt; ended = λ status e orb. tt }

pub node_told : NodeTold IsOtherSide
node_told = record { dead = λ cause. tt; cut = tt; opened = λ orb. tt; failed = λ m place answer f. others_told (failed_step m place answer).0 }

others_by : (login : Option Login) (is_awaited : Bool) (step : TaskStep) → StepBy IsOtherSide login is_awaited step
others_by (Some login) true step = others_told step
others_by (Some login) false step = tt
others_by None is_awaited step = tt

pub others_replied : (told : Option Told) (purpose : Option TaskPurpose) (peer : ℕ) (label : LabelParts) (answer : Answer) (w : Whole) → RepliesTold IsOtherSide told purpose peer label answer w
others_replied told None peer label answer w = tt
others_replied told (Some purpose) peer label answer w =
    others_by (served_login w.node) (awaits w.node purpose.place peer label) (agent_step told purpose.place answer (stage w.node w.disk)).0

module _ (known : ℕ → Type 0) (ids : AreIds known) (before : Layer TaskPurpose) where
  asking_keeps : Keeps IsOtherSide known (Asking known ids before)
  asking_keeps = record {
    leaves = record { node = node_told; tells = λ layer packets told side t m. asking_tells known ids before layer packets told side (plain_of side t) m; disowns = asking_disowns known ids before };
    asks = asking_asks known ids before;
  }

  calm_leaves : Leaves IsOtherSide known (Calm known ids before)
  calm_leaves = record { node = node_told; tells = λ layer packets told side t m. calm_tells known ids before layer packets told side (plain_of side t) m; disowns = calm_disowns known ids before }

  module _ (reply : Reply) (p : Packet) (bytes : List ℕ) where
    answering_keeps : Keeps IsOtherSide known (Answering known ids before reply p bytes)
    answering_keeps = record {
      leaves = record {
        node = node_told;
        tells = λ layer packets told side t m. answering_tells known ids before reply p bytes layer packets told side (plain_of side t) m;
        disowns = answering_disowns known ids before reply p bytes;
      };
      asks = answering_asks known ids before reply p bytes;
    }

    answers_all : (header_in p).source < 2 ^ 16 → IsRequestOf bytes p → Answers (Calm known ids before) (Answering known ids before reply p bytes) p bytes (is_reply reply)
    answers_all s r = record { answers = answering_answers known ids before reply p bytes s r }

-- ---- a delivery
module _ (known : ℕ → Type 0) (ids : AreIds known) (told : Option Told) (disk : Disk) (generation : ℕ) (bytes : List ℕ) (node : TaskNode) (h : Holds known node) (may : MayReceive told bytes) where
  abbrev before : Layer TaskPurpose
  before = (judging_step node.layer generation bytes).1

  abbrev start : Whole
  start = with_layer before (whole (scene node empty_outbox) disk)

  comes : IsLayer before
  comes = goes node.layer (wire.judges generation bytes) (judges_same node.layer generation bytes) h.layer

  start_fits : Fits known start.node
  start_fits = fits_layer known node before h.fits

  record Done (f : Finding TaskPurpose) (r : Judged × Whole) : Type 0 where
    delivers : IsDelivery known f r.0 bytes before r.1.node.layer r.1.outbox.packets
    small : AreSmall r.1.outbox.packets
    plain : ArePlainSides r.1.outbox.sides
    fits : Fits known r.1.node
    layer : IsLayer r.1.node.layer

  calm : In known (Calm known ids before) (scene_of start)
  calm = record { made = no_leaving known ids before comes; fits = start_fits }

  serves_if : (b : Bool) (p : Packet) → IsFoundAs node.layer generation bytes (of_request p) → Done (of_request p) (judged_scene (cond b (judged.Ignored ignored.Login, answered p bytes address_error [] (scene_of start)) (judged.Got, serve p bytes (scene_of start))) start)
  serves_if true p r =
      let reply = as_decided (Some ignored.Login) in
      let source = source_fits bytes p r.read may.bytes_fit in
      let g = answers_at IsOtherSide known (Calm known ids before) (Answering known ids before reply p bytes) p bytes (is_reply reply) (answers_all known ids before reply p bytes source r.request) address_error [] (scene_of start) refl
      (empty_fits p address_error (no_gives p address_error [] (not_complete 6)) (omega arith)) calm in
      record {
        delivers = record { cause = Some ignored.Login; may = refl; judged_is = refl; answers = g.made.answers };
        small = g.made.beside.small;
        plain = g.made.beside.plain;
        fits = g.fits;
        layer = g.made.beside.comes;
      }
  serves_if false p r =
      let reply = as_decided None in
      let source = source_fits bytes p r.read may.bytes_fit in
      let g = serves IsOtherSide known (Calm known ids before) (Answering known ids before reply p bytes) p bytes (is_reply reply) (answers_all known ids before reply p bytes source r.request) (λ rcode. refl) (calm_leaves known ids before) (answering_keeps known ids before reply p bytes)
      (scene_of start) (bytes_of p bytes r.request.spelled may.bytes_fit) calm in
      record {
        delivers = record { cause = None; may = refl; judged_is = refl; answers = g.made.answers };
        small = g.made.beside.small;
        plain = g.made.beside.plain;
        fits = g.fits;
        layer = g.made.beside.comes;
      }

  done_as : (f : Finding TaskPurpose) → IsFoundAs node.layer generation bytes f → Done f (received_as told bytes f start)
  unfolding request_step
  done_as of_generation r = record { delivers = record { judged_is = refl; layer_is = refl; packets_are = refl }; small = tt; plain = tt; fits = start_fits; layer = comes }
  done_as of_grammar r = record { delivers = record { judged_is = refl; layer_is = refl; packets_are = refl }; small = tt; plain = tt; fits = start_fits; layer = comes }
  done_as of_label r = record { delivers = record { judged_is = refl; layer_is = refl; packets_are = refl }; small = tt; plain = tt; fits = start_fits; layer = comes }
  done_as (of_response p label purpose) r =
      let g = concludes IsOtherSide known (Asking known ids before) (asking_keeps known ids before) told purpose (header_in p).source label (answer_in p) start (others_replied told purpose (header_in p).source label (answer_in p) start) may.told_fits
      (answer_bytes p (bytes_of p bytes (spelled bytes p r) may.bytes_fit)) (record { made = no_ask known ids before comes; fits = start_fits }) in
      record {
        delivers = record { judged_is = refl; asks = g.made.asks };
        small = g.made.beside.small;
        plain = g.made.beside.plain;
        fits = g.fits;
        layer = g.made.beside.comes;
      }
  done_as (of_again p rcode) r =
      let reply = as_before rcode in
      let source = source_fits bytes p r.0.read may.bytes_fit in
      let g = answers_at IsOtherSide known (Calm known ids before) (Answering known ids before reply p bytes) p bytes (is_reply reply) (answers_all known ids before reply p bytes source r.0.request) rcode [] (scene_of start) (same_number rcode) r.1 calm in
      record {
        delivers = record { judged_is = refl; answers = g.made.answers };
        small = g.made.beside.small;
        plain = g.made.beside.plain;
        fits = g.fits;
        layer = g.made.beside.comes;
      }
  done_as (of_request p) r = serves_if (is_barred start.node.logins p) p r

  delivered : Receives known told disk generation bytes node
  unfolding received
  delivered =
      let d = done_as (judging_step node.layer generation bytes).0 (found_as node.layer generation bytes h.layer.filter) in
      record { delivers = d.delivers; small = d.small; plain = d.plain; holds = record { fits = d.fits; layer = d.layer } }

-- ---- a time-out
module _ (known : ℕ → Type 0) (ids : AreIds known) (peer : ℕ) (label : LabelParts) (node : TaskNode) (h : Holds known node) where
  record Late (r : Result (Option TaskPurpose) Stale × Layer TaskPurpose) (s : Scene) : Type 0 where
    expires : IsExpiry known r.0 r.1 s.node.layer s.outbox.packets
    small : AreSmall s.outbox.packets
    plain : ArePlainSides s.outbox.sides
    fits : Fits known s.node
    layer : IsLayer s.node.layer

  late_by : (r : Result (Option TaskPurpose) Stale × Layer TaskPurpose) → IsLayer r.1 → Late r (expired_in r peer label (scene node empty_outbox)).1
  late_by (Ok purpose, layer) c =
      let s = scene (record node { layer = layer }) empty_outbox in
      let g = times_out IsOtherSide known (Asking known ids layer) (asking_keeps known ids layer) purpose peer label s (record { made = no_ask known ids layer c; fits = fits_layer known node layer h.fits }) in
      record { expires = g.made.asks; small = g.made.beside.small; plain = g.made.beside.plain; fits = g.fits; layer = g.made.beside.comes }
  late_by (Err stale, layer) c = record { expires = (refl, refl); small = tt; plain = tt; fits = fits_layer known node layer h.fits; layer = c }

  late : Expires known peer label node
  unfolding expired
  late =
      let d = late_by (expiring_step node.layer peer label) (goes node.layer (wire.lets_expire peer label) (expires_same node.layer peer label) h.layer) in
      record { expires = d.expires; small = d.small; plain = d.plain; holds = record { fits = d.fits; layer = d.layer } }

-- ---- a new task node
abbrev IfServed : (ℕ → Type 0) → Option Login → Type 0
IfServed known None = Unit {0}
IfServed known (Some login) = IsServed known login

first_served : (known : ℕ → Type 0) → known 0xffc1 → IfServed known (served_login new_node)
unfolding ready_from enter_step left_for fresh_id
first_served known k = record { there = k; fifo = omega arith }

new_served : (known : ℕ → Type 0) → known 0xffc1 → (login : Login) → served_login new_node ≡ Some login → IsServed known login
new_served known k login e = subst (IfServed known) e (first_served known k)

new_fit : (known : ℕ → Type 0) → known 0xffc1 → Holds known new_node
new_fit known k = record {
  fits = record {
    served = new_served known k;
    agent = record { fetcher = record { orb = omega arith; next = tt }; tasks = λ place. subst FitsAgent (sym (replicate_or 8 place new_machine)) new_fits };
    sents = λ place. subst (λ (x : Option Sent). (y : Sent) → x ≡ Some y → known y.peer) (sym (replicate_or 9 place None)) (none_of known);
    rom = quads_bytes (made target_eui 1);
  };
  layer = new_goes 0xffc0 (omega arith);
}

pub node_fits : (known : ℕ → Type 0) → NodeFits known
node_fits known = record {
  begins = new_fit known;
  deliveries = λ told disk generation bytes node ids h may. delivered known ids told disk generation bytes node h may;
  expiries = λ peer label node ids h. late known ids peer label node h;
}

pub fitting_law : FittingLaw
fitting_law known = node_fits (λ id. known id ≡ true)
