-- What a delivery to a target and a time-out make of its logins: what the reply to the management operation makes of them, and else nothing.
use Rattle.sbp_world.proofs.Words.Std.{◌≡◌, ◌∙◌, refl, sym, ℕ, List, Option, Some, None, Result, Ok, Err}
use Rattle.sbp_world.proofs.Words.Wire.{LabelParts, Packet, header_in, Stale, Finding, Layer, expiring_step, judging_step, of_again, of_generation, of_grammar, of_label, of_request, of_response, Judged, empty_outbox}
use Rattle.sbp_world.proofs.Words.Target.{Table, ManagerStep, Operation, Disk, Told, Purpose, alone, lets_expire, decided_by, failed_by, manage, managed_in, managed_with, with_manager, NodeState, Scene, scene, answer_in, concluded, expired, expired_in, judged_scene, received, received_as, timed_out, with_layer, Whole, scene_of, whole, stay, still}
use Rattle.sbp_world.proofs.Words.Initiator.{Nothing, Answer, Expired}
use Rattle.sbp_world.proofs.Words.World.{Office}
use Rattle.label_table.specs.History as wire
use Rattle.mgmt_agent.specs.Machine as management
use Rattle.sbp_target.specs.declared.purpose.Purpose.TheVariants as purposes
use Rattle.sbp_target.specs.Serving.{request_step}
use Rattle.sbp_target.proofs.Histories.Calling.{Good}
use Rattle.sbp_target.proofs.Histories.Found.{IsFound, found}
use Rattle.sbp_target.proofs.Histories.Primitives.{closing_known, expiring_known, live_on}
use Rattle.sbp_target.proofs.Histories.Seats.{Lives}
use Rattle.sbp_world.proofs.Agents.Management.Calm as calm
use Rattle.sbp_world.proofs.Agents.Management.Calm.{Calm, From}
use Rattle.sbp_world.proofs.Agents.Management.Managing.{decision_stands}
use Rattle.sbp_world.proofs.Agents.Enabling.{ask_logins}
use Rattle.sbp_world.proofs.Agents.Management.Calls.{from_self}
use Rattle.sbp_target.proofs.Histories.Moved.{request_moves}
use Rattle.sbp_target.proofs.Histories.Views.{acts, asked, node_left}

-- the logins behind a delivery, by what the packet is found to be, and behind a time-out, by what was waited for
abbrev pub tabled : Finding Purpose → NodeState → Table
tabled (of_response p label (Some purposes.Management)) node = (management.reply_step node.manager node.logins node.keys (answer_in p)).1.1
tabled finding node = node.logins

abbrev pub lapsed_table : Result (Option Purpose) Stale → NodeState → Table
lapsed_table (Ok (Some purposes.Management)) node = (management.reply_step node.manager node.logins node.keys Expired).1.1
lapsed_table result node = node.logins

-- where no operation is under way a reply leaves them
idle_table : (m : management.Machine) (t : Table) (keys : List (List ℕ)) (answer : Answer) → management.source_in m.operation ≡ None → (management.reply_step m t keys answer).1.1 ≡ t
unfolding management.reply_step
idle_table m t keys answer e = by m.operation e
  where
    by : (operation : Option Operation) → management.source_in operation ≡ None → (management.reply_to operation m t keys answer).1.1 ≡ t
    by None f = refl
    by (Some own) f = absurd (let differ : Some own.source ≡ None = f in cc)

module _ (node : NodeState) (g : Good node) where
  abbrev office : Office
  office = record { table = node.logins; keys = node.keys; manager = node.manager; manages = None; asks = Nothing; decided = None }

  begins : (layer : Layer Purpose) (lives : Lives) → From lives layer → Calm lives (record node { layer = layer }) (scene (record node { layer = layer }) empty_outbox)
  begins layer lives f = record { logins = refl; keys = refl; manager = refl; rom = refl; quiet = tt; from = f }

  -- ---- the management operation goes on
  managed : (source : ℕ) (layer : Layer Purpose) (lives : Lives) → From lives layer → (r : ManagerStep × (management.Machine × Table)) → (managed_with source (scene (record node { layer = layer }) empty_outbox) r).node.logins ≡ r.1.1
  unfolding decided_by
  managed source layer lives f (step, (m, t)) =
      let begun = with_manager (record node { layer = layer }) (m, t) in
      let last = failed_by source step.failed (decided_by step.decided step.effect source (scene begun empty_outbox)) in
      ask_logins source step.ask last ∙ (decision_stands office lives begun empty_outbox refl f step.decided step.effect source).logins

  manages : (answer : Answer) (layer : Layer Purpose) (lives : Lives) → From lives layer → (manage answer (scene (record node { layer = layer }) empty_outbox)).node.logins ≡ (management.reply_step node.manager node.logins node.keys answer).1.1
  unfolding manage
  manages answer layer lives f = by (management.source_in node.manager.operation) refl
    where
      by : (source : Option ℕ) → management.source_in node.manager.operation ≡ source → (managed_in source answer (scene (record node { layer = layer }) empty_outbox)).node.logins ≡ (management.reply_step node.manager node.logins node.keys answer).1.1
      by None e = sym (idle_table node.manager node.logins node.keys answer e)
      by (Some source) e = managed source layer lives f (management.reply_step node.manager node.logins node.keys answer)

  concludes : (run : Option Told) (p : Packet) (peer : ℕ) (label : LabelParts) (disks : List Disk) (layer : Layer Purpose) (lives : Lives) → From lives layer → (purpose : Option Purpose) → (scene_of (concluded run purpose peer label (answer_in p) (whole (scene (record node { layer = layer }) empty_outbox) disks))).node.logins ≡ tabled (of_response p label purpose) node
  unfolding concluded
  concludes run p peer label disks layer lives f None = refl
  concludes run p peer label disks layer lives f (Some (purposes.Agent place)) =
      let w = whole (scene (record node { layer = layer }) empty_outbox) disks in
      (calm.replies lives (record node { layer = layer }) run place peer label (answer_in p) w (begins layer lives f)).logins
  concludes run p peer label disks layer lives f (Some purposes.Management) = manages (answer_in p) layer lives f
  concludes run p peer label disks layer lives f (Some purposes.Unsolicited) = refl

  -- ---- a request
  requests : (p : Packet) (bytes : List ℕ) (layer : Layer Purpose) → (request_step p bytes (scene (record node { layer = layer }) empty_outbox)).1.node.logins ≡ node.logins
  requests p bytes layer =
      let s = scene (record node { layer = layer }) empty_outbox in
      (node_left still s _ (request_moves still s acts asked tt p bytes tt s (stay s))).logins (λ never. never)

  as_judged : (r : Judged × Scene) (w : Whole) → r.1.node.logins ≡ node.logins → (scene_of (judged_scene r w).1).node.logins ≡ node.logins
  as_judged (judged, s) w l = l

  finds : (run : Option Told) (disks : List Disk) (generation : ℕ) (bytes : List ℕ) (f : Finding Purpose) (layer : Layer Purpose) → judging_step node.layer generation bytes ≡ (f, layer) → IsFound f node.layer layer bytes → (scene_of (received_as run bytes f (with_layer layer (whole (scene node empty_outbox) disks))).1).node.logins ≡ tabled f node
  finds run disks generation bytes of_generation layer e f = refl
  finds run disks generation bytes of_grammar layer e f = refl
  finds run disks generation bytes of_label layer e f = refl
  finds run disks generation bytes (of_response p label purpose) layer e f =
      let c = closing_known node.layer layer g.lives generation bytes p label purpose g.mid.known e f.kind in
      let lives = live_on (wire.closed (header_in p).source label c.kind purpose) g.lives in
      concludes run p (header_in p).source label disks layer lives (from_self layer lives c.known) purpose
  finds run disks generation bytes (of_again p rcode) layer e f = refl
  finds run disks generation bytes (of_request p) layer e f =
      as_judged (request_step p bytes (scene (record node { layer = layer }) empty_outbox)) (with_layer layer (whole (scene node empty_outbox) disks)) (requests p bytes layer)

  pub delivery_tabled : (run : Option Told) (disks : List Disk) (generation : ℕ) (bytes : List ℕ) → (received run generation bytes (whole (scene node empty_outbox) disks)).1.node.logins ≡ tabled (judging_step node.layer generation bytes).0 node
  unfolding received
  delivery_tabled run disks generation bytes = finds run disks generation bytes (judging_step node.layer generation bytes).0 (judging_step node.layer generation bytes).1 refl (found node.layer generation bytes)

  -- ---- a time-out
  lapses_for : (peer : ℕ) (label : LabelParts) (layer : Layer Purpose) (lives : Lives) → From lives layer → (purpose : Option Purpose) → (timed_out purpose peer label (scene (record node { layer = layer }) empty_outbox)).node.logins ≡ lapsed_table (Ok purpose) node
  lapses_for peer label layer lives f None = refl
  lapses_for peer label layer lives f (Some (purposes.Agent place)) =
      let s = scene (record node { layer = layer }) empty_outbox in
      (calm.expires_agent lives (record node { layer = layer }) place peer label s (begins layer lives f)).logins
  lapses_for peer label layer lives f (Some purposes.Management) = manages Expired layer lives f
  lapses_for peer label layer lives f (Some purposes.Unsolicited) = refl

  lapses_by : (r : Result (Option Purpose) Stale × Layer Purpose) (peer : ℕ) (label : LabelParts) → expiring_step node.layer peer label ≡ r → (expired_in r peer label (scene node empty_outbox)).1.node.logins ≡ lapsed_table r.0 node
  lapses_by (Ok purpose, layer) peer label e =
      let x = expiring_known node.layer layer g.lives peer label purpose g.mid.known e in
      let lives = live_on (wire.expired peer label purpose) g.lives in
      lapses_for peer label layer lives (from_self layer lives x.known) purpose
  lapses_by (Err stale, layer) peer label e = refl

  pub lapse_tabled : (peer : ℕ) (label : LabelParts) → (alone (lets_expire peer label) node).node.logins ≡ lapsed_table (expiring_step node.layer peer label).0 node
  unfolding expired
  lapse_tabled peer label = lapses_by (expiring_step node.layer peer label) peer label refl
