-- The decisions that the target tells in each call (NCITS 325-1998, management agent): that which a reply brings to the operation of its management, and else none.
use Rattle.turn_laws.proofs.KindNotes.{join_same, none_behind}
use Rattle.std.proofs.Common.{◌≡◌, ◌∙◌, refl, sym, ap, subst, ℕ, nat_lt, Bool, true, false, cond, List, [], ◌∷◌, ◌++◌, length, Option, Some, None, Result, Ok, Err}
use Rattle.async_packet.specs.Labels.{LabelParts}
use Rattle.async_packet.specs.Packet.{Packet, header_in}
use Rattle.label_table.specs.declared.judgement.Asked.{Asked}
use Rattle.label_table.specs.declared.reply.Stale.{Stale}
use Rattle.label_table.specs.Bodies.{Body}
use Rattle.label_table.specs.History as wire
use Rattle.label_table.specs.Layer.{Finding, Layer, asking_step, expiring_step, judging_step, of_again, of_generation, of_grammar, of_label, of_request, of_response, seeing_step}
use Rattle.login_table.specs.Table.{Table, expired_ids}
use Rattle.mgmt_agent.specs.declared.decision.Decision.{Decision}
use Rattle.mgmt_agent.specs.declared.decision.Effect.{Effect}
use Rattle.mgmt_agent.specs.declared.decision.Effect.TheVariants as effects
use Rattle.mgmt_agent.specs.declared.decision.ManagerStep.{ManagerStep}
use Rattle.mgmt_agent.specs.declared.operation.Busy.{Busy}
use Rattle.mgmt_agent.specs.declared.operation.Operation.{Operation}
use Rattle.mgmt_agent.specs.declared.operation.Phase.{Phase}
use Rattle.mgmt_agent.specs.declared.operation.Phase.TheVariants as phases
use Rattle.mgmt_agent.specs.Machine as management
use Rattle.orb_layout.specs.declared.ask.Ask.{Ask}
use Rattle.orb_layout.specs.declared.ask.FailCause.{FailCause}
use Rattle.orb_layout.specs.Replies.{Answer, Expired, NoLabel}
use Rattle.rbc_disk.specs.Disk.{Disk}
use Rattle.rbc_disk.specs.Runs.{Told}
use Rattle.sbp_journal.specs.declared.cause.Cause.TheVariants as ignored
use Rattle.sbp_journal.specs.declared.cause.CutCause.TheVariants as cuts
use Rattle.sbp_journal.specs.declared.cause.Judged.{Judged}
use Rattle.sbp_journal.specs.declared.cause.Judged.TheVariants as judgements
use Rattle.sbp_journal.specs.declared.side.Side.{Side}
use Rattle.sbp_journal.specs.declared.side.Side.TheVariants as sides
use Rattle.sbp_journal.specs.Outgoings.{OutboxState, empty_outbox}
use Rattle.target_base.specs.Addresses.{demand_of}
use Rattle.target_base.specs.declared.address.Demand.{Demand}
use Rattle.target_base.specs.declared.address.Demand.TheVariants as demands
use Rattle.sbp_target.specs.declared.purpose.Purpose.{Purpose}
use Rattle.sbp_target.specs.declared.purpose.Purpose.TheVariants as purposes
use Rattle.sbp_target.specs.Management.{ask_manager, cut_placed, decided_by, effect_by, failed_by, lose_operation, lost_in, manage, managed_in, managed_with, manager_asked, manager_body, manager_lost, manager_sent, place_in, tell_failed, with_manager}
use Rattle.sbp_target.specs.Nodes.{NodeState, Scene, scene}
use Rattle.sbp_target.specs.Receiving.{answer_in, cleared_node, concluded, expired, expired_in, judged_scene, received, received_as, reset_by, seen, ticked, timed_out, with_layer}
use Rattle.sbp_target.specs.Replies.{Whole, scene_of, whole}
use Rattle.sbp_target.specs.Sending.{sent_by}
use Rattle.sbp_target.specs.Sending as sending
use Rattle.sbp_target.specs.Serving.{answered, is_barred, request_step, serve, served_as, start, started_by}
use Rattle.sbp_target.specs.Units.{cut_all}
use Rattle.sbp_target.proofs.Histories.Calling.{Good}
use Rattle.sbp_target.proofs.Histories.Found.{IsFound, found}
use Rattle.sbp_target.proofs.Histories.Primitives.{Known, closing_known, expiring_known, live_on}
use Rattle.sbp_target.proofs.Histories.Seats.{Lives}
use Rattle.sbp_world.proofs.Agents.Management.Calls.{forgets_if}
use Rattle.sbp_world.proofs.Agents.Management.Calm as calm
use Rattle.sbp_world.proofs.Agents.Management.Calm.{Calm, From}
use Rattle.sbp_world.proofs.Agents.Lists.{AreNoEntries, IsNoEntry, entries_more, quiet_entries}
use Rattle.sbp_world.proofs.Agents.Serves.{expired_entries, held_entries}

-- ---- what a side tells
abbrev pub managed_of : Side → List Side
managed_of (sides.Managed node function subject status login) = sides.Managed node function subject status login ∷ []
managed_of side = []

abbrev pub managed : List Side → List Side
managed [] = []
managed (side ∷ later) = managed_of side ++ managed later

managed_more : (told : List Side) (side : Side) → managed (told ++ side ∷ []) ≡ managed told ++ managed_of side
managed_more [] side = none_behind (managed_of side)
managed_more (first ∷ told) side = ap (λ xs. managed_of first ++ xs) (managed_more told side) ∙ join_same (managed_of first) (managed told) (managed_of side)

none_side : (side : Side) → IsNoEntry side → managed_of side ≡ []
none_side (sides.Managed node function subject status login) h = absurd h
none_side side h = refl

none_managed : (told : List Side) → AreNoEntries told → managed told ≡ []
none_managed [] h = refl
none_managed (side ∷ later) h = ap (λ xs. xs ++ managed later) (none_side side h.0) ∙ none_managed later h.1

-- ---- a decision, on an ORB of this source
abbrev pub decision_side : (source : ℕ) → Option Decision → List Side
decision_side source None = []
decision_side source (Some d) = sides.Managed source d.function d.subject d.status d.login ∷ []

-- ---- what the operation asks for tells of none
abbrev Same : Scene → Scene → Type 0
Same before s = managed s.outbox.sides ≡ managed before.outbox.sides

failed_side : (source : ℕ) (cause : Option FailCause) (o : OutboxState) → managed (tell_failed source cause o).sides ≡ managed o.sides
failed_side source None o = refl
failed_side source (Some cause) o = managed_more o.sides (sides.ManageFailed source cause) ∙ none_behind (managed o.sides)

lost_with : (source : ℕ) (s : Scene) (r : ManagerStep × (management.Machine × Table)) → Same s (manager_lost source s r)
lost_with source s (step, (m, t)) = failed_side source step.failed s.outbox

lost_same : (source : Option ℕ) (s : Scene) → Same s (lost_in source s)
lost_same None s = refl
lost_same (Some source) s = lost_with source s (management.reply_step s.node.manager s.node.logins s.node.keys NoLabel)

sent_same : (s : Scene) (source : ℕ) (r : Option Asked × Layer Purpose) → Same s (manager_sent s.node (sent_by r s.outbox source))
unfolding lose_operation
sent_same s source (Some asked, layer) = refl
sent_same s source (None, layer) = let t = scene (record s.node { layer = layer }) s.outbox in lost_same (management.source_in t.node.manager.operation) t

asked_same : (body : Option Body) (source : ℕ) (s : Scene) → Same s (manager_asked body source s)
unfolding sending.request_step
asked_same None source s = refl
asked_same (Some body) source s = sent_same s source (asking_step s.node.layer source body purposes.Management)

ask_same : (source : ℕ) (ask : Ask) (s : Scene) → Same s (ask_manager source ask s)
unfolding ask_manager
ask_same source ask s = asked_same (manager_body ask s.node.manager.outgoing) source s

-- ---- a reply to the operation
module _ (old : Lives) (node : NodeState) (f : From old node.layer) where
  begun : Calm old node (scene node empty_outbox)
  begun = record { logins = refl; keys = refl; manager = refl; rom = refl; quiet = tt; from = f }

  effect_none : (effect : Effect) (subject : ℕ) → AreNoEntries (effect_by effect subject (scene node empty_outbox)).outbox.sides
  effect_none effects.Nothing subject = tt
  effect_none (effects.Entered place None) subject = tt
  effect_none (effects.Entered place (Some login)) subject = (tt, tt)
  effect_none (effects.Back place) subject = (tt, tt)
  effect_none (effects.Left place) subject =
      let t = cut_placed (place_in place) cuts.Logout (scene node empty_outbox) in
      entries_more t.outbox.sides (sides.Left subject) (quiet_entries _ (calm.cuts_placed old node (place_in place) cuts.Logout (scene node empty_outbox) begun).quiet) tt
  effect_none (effects.Abort place orb) subject = tt
  effect_none (effects.AbortSet place) subject = quiet_entries _ (calm.cuts_placed old node (place_in place) cuts.AbortSet (scene node empty_outbox) begun).quiet
  effect_none (effects.UnitReset unit) subject =
      let t = cut_all cuts.UnitReset (Some unit) (scene node empty_outbox) in
      quiet_entries _ (calm.clears_one old node unit t (calm.cuts_all old node cuts.UnitReset (Some unit) (scene node empty_outbox) begun)).quiet
  effect_none effects.TargetReset subject =
      let t = cut_all cuts.TargetReset None (scene node empty_outbox) in
      quiet_entries _ (calm.clears_from old node (length t.node.units) 0 t (calm.cuts_all old node cuts.TargetReset None (scene node empty_outbox) begun)).quiet

  decided_side : (d : Option Decision) (effect : Effect) (source : ℕ) → managed (decided_by d effect source (scene node empty_outbox)).outbox.sides ≡ decision_side source d
  unfolding decided_by
  decided_side None effect source = refl
  decided_side (Some d) effect source =
      let t = effect_by effect d.subject (scene node empty_outbox) in
      managed_more t.outbox.sides (sides.Managed source d.function d.subject d.status d.login) ∙ ap (λ xs. xs ++ sides.Managed source d.function d.subject d.status d.login ∷ []) (none_managed t.outbox.sides (effect_none effect d.subject))

module _ (node : NodeState) (g : Good node) where
  pub from_self : (layer : Layer Purpose) (lives : Lives) → Known layer lives → From lives layer
  from_self layer lives k = record { lives = lives; known = k; before = λ p l kind e. e }

  managed_side : (source : ℕ) (layer : Layer Purpose) (lives : Lives) → From lives layer → (r : ManagerStep × (management.Machine × Table)) → managed (managed_with source (scene (record node { layer = layer }) empty_outbox) r).outbox.sides ≡ decision_side source r.0.decided
  managed_side source layer lives f (step, (m, t)) =
      let begun = with_manager (record node { layer = layer }) (m, t) in
      let d = decided_by step.decided step.effect source (scene begun empty_outbox) in
      ask_same source step.ask (failed_by source step.failed d) ∙ (failed_side source step.failed d.outbox ∙ decided_side lives begun f step.decided step.effect source)

  -- what a reply to an operation of this source decides
  abbrev pub reply_side : Option ℕ → Answer → List Side
  reply_side None answer = []
  reply_side (Some source) answer = decision_side source (management.reply_step node.manager node.logins node.keys answer).0.decided

  manage_side : (answer : Answer) (layer : Layer Purpose) (lives : Lives) → From lives layer → managed (manage answer (scene (record node { layer = layer }) empty_outbox)).outbox.sides ≡ reply_side (management.source_in node.manager.operation) answer
  unfolding manage
  manage_side answer layer lives f = by (management.source_in node.manager.operation)
    where
      by : (source : Option ℕ) → managed (managed_in source answer (scene (record node { layer = layer }) empty_outbox)).outbox.sides ≡ reply_side source answer
      by None = refl
      by (Some source) = managed_side source layer lives f (management.reply_step node.manager node.logins node.keys answer)

  -- ---- a delivery
  abbrev pub found_side : Finding Purpose → List Side
  found_side (of_response p label (Some purposes.Management)) = reply_side (management.source_in node.manager.operation) (answer_in p)
  found_side finding = []

  pub begins : (layer : Layer Purpose) (lives : Lives) → From lives layer → Calm lives (record node { layer = layer }) (scene (record node { layer = layer }) empty_outbox)
  begins layer lives f = record { logins = refl; keys = refl; manager = refl; rom = refl; quiet = tt; from = f }

  -- the target with this layer, at the beginning of a call
  abbrev begun_with : Layer Purpose → List Disk → Whole
  begun_with layer disks = whole (scene (record node { layer = layer }) empty_outbox) disks

  abbrev managed_left : Whole → List Side
  managed_left w = managed (scene_of w).outbox.sides

  -- what is told of the management as this finding is taken up
  abbrev Tells : Whole → Finding Purpose → Type 0
  Tells w finding = managed_left w ≡ found_side finding

  concludes : (run : Option Told) (p : Packet) (peer : ℕ) (label : LabelParts) (disks : List Disk) (layer : Layer Purpose) (lives : Lives) → From lives layer → (purpose : Option Purpose)
      → Tells (concluded run purpose peer label (answer_in p) (begun_with layer disks)) (of_response p label purpose)
  unfolding concluded
  concludes run p peer label disks layer lives f None = refl
  concludes run p peer label disks layer lives f (Some (purposes.Agent place)) =
      let w = whole (scene (record node { layer = layer }) empty_outbox) disks in
      none_managed _ (quiet_entries _ (calm.replies lives (record node { layer = layer }) run place peer label (answer_in p) w (begins layer lives f)).quiet)
  concludes run p peer label disks layer lives f (Some purposes.Management) = manage_side (answer_in p) layer lives f
  concludes run p peer label disks layer lives f (Some purposes.Unsolicited) = refl

  -- a request
  module _ (p : Packet) (bytes : List ℕ) (layer : Layer Purpose) (same_layer : layer ≡ node.layer) where
    abbrev here : Scene
    here = scene (record node { layer = layer }) empty_outbox

    calm_here : Calm g.lives (record node { layer = layer }) here
    calm_here = begins layer g.lives (from_self layer g.lives (subst (λ (l : Layer Purpose). Known l g.lives) (sym same_layer) g.mid.known))

    answer_none : (rcode : ℕ) (given : List ℕ) → managed (answered p bytes rcode given here).outbox.sides ≡ []
    answer_none rcode given = none_managed _ (quiet_entries _ (calm.answers g.lives (record node { layer = layer }) p bytes rcode given here calm_here).quiet)

    starts_none : (source : ℕ) (r : Result Ask Busy × management.Machine) → managed (started_by source p bytes r here).outbox.sides ≡ []
    unfolding sending.answer_step
    starts_none source (Ok ask, m) = ask_same source ask (answered p bytes 0 [] (scene (record here.node { manager = m }) here.outbox))
    starts_none source (Err busy, m) = refl

    demand_none : (demand : Demand) → managed (served_as demand p bytes here).outbox.sides ≡ []
    unfolding start
    demand_none (demands.Refused rcode) = answer_none rcode []
    demand_none (demands.Rom at_offset len) = answer_none 0 _
    demand_none (demands.Manage orb) = starts_none (header_in p).source (management.start_step node.manager (header_in p).source orb)
    demand_none (demands.Agent place access) = none_managed _ (quiet_entries _ (calm.accesses_by g.lives (record node { layer = layer }) access place p bytes here calm_here).quiet)

    serve_none : managed (serve p bytes here).outbox.sides ≡ []
    unfolding serve
    serve_none = demand_none (demand_of (length node.rom) p)

    request_none : managed (request_step p bytes here).1.outbox.sides ≡ []
    unfolding request_step
    request_none = by (is_barred (record node { layer = layer }) p)
      where
        by : (b : Bool) → managed (cond {A = Judged × Scene} b (judgements.Ignored ignored.Login, answered p bytes 7 [] here) (judgements.Got, serve p bytes here)).1.outbox.sides ≡ []
        by true = answer_none 7 []
        by false = serve_none

  as_judged : (r : Judged × Scene) (w : Whole) → managed r.1.outbox.sides ≡ [] → managed (scene_of (judged_scene r w).1).outbox.sides ≡ []
  as_judged (judged, s) w e = e

  -- a packet that was found so is taken up
  abbrev taken_up : Option Told → List ℕ → Finding Purpose → Layer Purpose → List Disk → Whole
  taken_up run bytes f layer disks = (received_as run bytes f (with_layer layer (whole (scene node empty_outbox) disks))).1

  finds : (run : Option Told) (disks : List Disk) (generation : ℕ) (bytes : List ℕ) (f : Finding Purpose) (layer : Layer Purpose) → judging_step node.layer generation bytes ≡ (f, layer) → IsFound f node.layer layer bytes
      → Tells (taken_up run bytes f layer disks) f
  finds run disks generation bytes of_generation layer e f = refl
  finds run disks generation bytes of_grammar layer e f = refl
  finds run disks generation bytes of_label layer e f = refl
  finds run disks generation bytes (of_response p label purpose) layer e f =
      let c = closing_known node.layer layer g.lives generation bytes p label purpose g.mid.known e f.kind in
      let lives = live_on (wire.closed (header_in p).source label c.kind purpose) g.lives in
      concludes run p (header_in p).source label disks layer lives (from_self layer lives c.known) purpose
  finds run disks generation bytes (of_again p rcode) layer e f = answer_none p bytes layer f.0 rcode []
  finds run disks generation bytes (of_request p) layer e f =
      as_judged (request_step p bytes (scene (record node { layer = layer }) empty_outbox)) (with_layer layer (whole (scene node empty_outbox) disks)) (request_none p bytes layer f.0)

  pub delivery_manages : (run : Option Told) (disks : List Disk) (generation : ℕ) (bytes : List ℕ) → managed (received run generation bytes (whole (scene node empty_outbox) disks)).1.outbox.sides ≡ found_side (judging_step node.layer generation bytes).0
  unfolding received
  delivery_manages run disks generation bytes = finds run disks generation bytes (judging_step node.layer generation bytes).0 (judging_step node.layer generation bytes).1 refl (found node.layer generation bytes)

  -- ---- a time-out, a sight, a second
  late_phase : (phase : Phase) (own : Operation) → (management.reply_in phase node.manager own node.logins node.keys Expired).0.decided ≡ None
  late_phase phases.Orb own = refl
  late_phase (phases.HighEui orb) own = refl
  late_phase (phases.LowEui orb high) own = refl
  late_phase (phases.Response fifo) own = refl
  late_phase phases.Status own = refl

  late_by : (operation : Option Operation) → (management.reply_to operation node.manager node.logins node.keys Expired).0.decided ≡ None
  late_by None = refl
  late_by (Some own) = late_phase own.phase own

  late_step : (management.reply_step node.manager node.logins node.keys Expired).0.decided ≡ None
  unfolding management.reply_step
  late_step = late_by node.manager.operation

  late_none : (source : Option ℕ) → reply_side source Expired ≡ []
  late_none None = refl
  late_none (Some source) = ap (decision_side source) late_step

  lapses_for : (peer : ℕ) (label : LabelParts) (layer : Layer Purpose) (lives : Lives) → From lives layer → (purpose : Option Purpose) → managed (timed_out purpose peer label (scene (record node { layer = layer }) empty_outbox)).outbox.sides ≡ []
  lapses_for peer label layer lives f None = refl
  lapses_for peer label layer lives f (Some (purposes.Agent place)) =
      let s = scene (record node { layer = layer }) empty_outbox in
      none_managed _ (quiet_entries _ (calm.expires_agent lives (record node { layer = layer }) place peer label s (begins layer lives f)).quiet)
  lapses_for peer label layer lives f (Some purposes.Management) = manage_side Expired layer lives f ∙ late_none (management.source_in node.manager.operation)
  lapses_for peer label layer lives f (Some purposes.Unsolicited) = refl

  lapses_by : (r : Result (Option Purpose) Stale × Layer Purpose) (peer : ℕ) (label : LabelParts) → expiring_step node.layer peer label ≡ r → managed (expired_in r peer label (scene node empty_outbox)).1.outbox.sides ≡ []
  lapses_by (Ok purpose, layer) peer label e =
      let x = expiring_known node.layer layer g.lives peer label purpose g.mid.known e in
      let lives = live_on (wire.expired peer label purpose) g.lives in
      lapses_for peer label layer lives (from_self layer lives x.known) purpose
  lapses_by (Err stale, layer) peer label e = refl

  pub lapse_manages : (peer : ℕ) (label : LabelParts) → managed (expired peer label (scene node empty_outbox)).1.outbox.sides ≡ []
  unfolding expired
  lapse_manages peer label = lapses_by (expiring_step node.layer peer label) peer label refl

  pub second_manages : managed (ticked (scene node empty_outbox)).outbox.sides ≡ []
  unfolding ticked
  second_manages = none_managed _ (expired_entries (length (expired_ids node.logins.places)) 0 (expired_ids node.logins.places) empty_outbox tt)

  sight_by : (r : Bool × Layer Purpose) (lives : Lives) → From lives r.1 → managed (reset_by r (scene node empty_outbox)).1.outbox.sides ≡ []
  sight_by (false, layer) lives f = refl
  sight_by (true, layer) lives f =
      let begun = scene (cleared_node layer node) empty_outbox in
      let begun_calm : Calm lives (cleared_node layer node) begun = record { logins = refl; keys = refl; manager = refl; rom = refl; quiet = tt; from = f } in
      let t = cut_all cuts.Reset None begun in
      none_managed _ (held_entries 8 0 t.node.logins.places t.outbox (quiet_entries _ (calm.cuts_all lives (cleared_node layer node) cuts.Reset None begun begun_calm).quiet))

  pub sight_manages : (generation id : ℕ) → managed (seen generation id (scene node empty_outbox)).1.outbox.sides ≡ []
  unfolding seen
  sight_manages generation id = sight_by (seeing_step node.layer generation id) g.lives (forgets_if node g generation id (nat_lt node.layer.generation generation) refl)
