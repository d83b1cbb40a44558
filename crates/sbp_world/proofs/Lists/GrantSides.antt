-- How many logins the target tells that it granted, in each call (NCITS 325-1998, login): those of the decision that a reply brings to the operation of its management, and
-- else none.
use Rattle.sbp_world.proofs.Words.Std.{arith, ◌≡◌, ◌∙◌, refl, sym, subst, ℕ, ◌+◌, nat_lt, Bool, true, false, cond, List, [], ◌∷◌, ◌++◌, length, Option, Some, None, Result, Ok, Err}
use Rattle.sbp_world.proofs.Words.Wire.{LabelParts, Packet, header_in, Asked, Stale, Body, Finding, Layer, asking_step, expiring_step, judging_step, of_again, of_generation, of_grammar, of_label, of_request, of_response, seeing_step, function_word, login_if, Judged, FunctionWord, Side, OutboxState, empty_outbox}
use Rattle.sbp_world.proofs.Words.Target.{Table, expired_ids, Decision, Effect, ManagerStep, Busy, Operation, Disk, Told, demand_of, Demand, Purpose, ask_manager, cut_placed, decided_by, effect_by, failed_by, lose_operation, lost_in, manage, managed_in, managed_with, manager_asked, manager_body, manager_lost, manager_sent, place_in, tell_failed, with_manager, NodeState, Scene, scene, answer_in, cleared_node, concluded, expired, expired_in, judged_scene, received, received_as, reset_by, seen, ticked, timed_out, with_layer, Whole, scene_of, whole, sent_by, answered, is_barred, serve, served_as, start, started_by, cut_all}
use Rattle.sbp_world.proofs.Words.Initiator.{Ask, FailCause, Answer, Expired, NoLabel}
use Rattle.label_table.specs.History as wire
use Rattle.mgmt_agent.specs.declared.decision.Effect.TheVariants as effects
use Rattle.mgmt_agent.specs.declared.operation.Phase.{Phase}
use Rattle.mgmt_agent.specs.declared.operation.Phase.TheVariants as phases
use Rattle.mgmt_agent.specs.Machine as management
use Rattle.sbp_journal.specs.declared.cause.Cause.TheVariants as ignored
use Rattle.sbp_journal.specs.declared.cause.CutCause.TheVariants as cuts
use Rattle.sbp_journal.specs.declared.cause.Judged.TheVariants as judgements
use Rattle.sbp_journal.specs.declared.operation.FunctionWord.TheVariants as words
use Rattle.sbp_journal.specs.declared.side.Side.TheVariants as sides
use Rattle.target_base.specs.declared.address.Demand.TheVariants as demands
use Rattle.sbp_target.specs.declared.purpose.Purpose.TheVariants as purposes
use Rattle.sbp_target.specs.Sending as sending
use Rattle.sbp_target.specs.Serving.{request_step}
use Rattle.sbp_target.proofs.Histories.Calling.{Good}
use Rattle.sbp_target.proofs.Histories.Found.{IsFound, found}
use Rattle.sbp_target.proofs.Histories.Primitives.{Known, closing_known, expiring_known, live_on}
use Rattle.sbp_target.proofs.Histories.Seats.{Lives}
use Rattle.sbp_world.proofs.Agents.Management.Calls.{forgets_if, from_self}
use Rattle.sbp_world.proofs.Agents.Management.Calm as calm
use Rattle.sbp_world.proofs.Agents.Management.Calm.{Calm, From}
use Rattle.sbp_world.proofs.Agents.Lists.{AreNoEntries, IsNoEntry, entries_more, quiet_entries}
use Rattle.sbp_world.proofs.Agents.Serves.{expired_entries, held_entries}

-- ---- what a side tells
abbrev pub word_grants : FunctionWord → Option ℕ → ℕ
word_grants words.Login (Some login) = 1
word_grants word login = 0

abbrev pub grant_of : Side → ℕ
grant_of (sides.Managed node function subject status login) = word_grants (function_word function) (login_if (function_word function) status login)
grant_of side = 0

abbrev pub grants : List Side → ℕ
grants [] = 0
grants (side ∷ later) = grant_of side + grants later

grants_more : (told : List Side) (side : Side) → grants (told ++ side ∷ []) ≡ grants told + grant_of side
grants_more [] side = omega arith
grants_more (first ∷ told) side = let rest = grants_more told side in omega (arith, rest)

none_side : (side : Side) → IsNoEntry side → grant_of side ≡ 0
none_side (sides.Managed node function subject status login) h = absurd h
none_side side h = refl

pub none_granted : (told : List Side) → AreNoEntries told → grants told ≡ 0
none_granted [] h = refl
none_granted (side ∷ later) h = let one = none_side side h.0 in let rest = none_granted later h.1 in omega (arith, one, rest)

-- ---- a decision
abbrev pub decision_grants : Option Decision → ℕ
decision_grants None = 0
decision_grants (Some d) = word_grants (function_word d.function) (login_if (function_word d.function) d.status d.login)

-- ---- what the operation asks for tells of none
abbrev Same : Scene → Scene → Type 0
Same before s = grants s.outbox.sides ≡ grants before.outbox.sides

failed_grants : (source : ℕ) (cause : Option FailCause) (o : OutboxState) → grants (tell_failed source cause o).sides ≡ grants o.sides
failed_grants source None o = refl
failed_grants source (Some cause) o = let e = grants_more o.sides (sides.ManageFailed source cause) in omega (arith, e)

lost_with : (source : ℕ) (s : Scene) (r : ManagerStep × (management.Machine × Table)) → Same s (manager_lost source s r)
lost_with source s (step, (m, t)) = failed_grants source step.failed s.outbox

lost_same : (source : Option ℕ) (s : Scene) → Same s (lost_in source s)
lost_same None s = refl
lost_same (Some source) s = lost_with source s (management.reply_step s.node.manager s.node.logins s.node.keys NoLabel)

sent_same : (s : Scene) (source : ℕ) (r : Option Asked × Layer Purpose) → Same s (manager_sent s.node (sent_by r s.outbox source))
unfolding lose_operation
sent_same s source (Some asked, layer) = refl
sent_same s source (None, layer) = let t = scene (record s.node { layer = layer }) s.outbox in lost_same (management.source_in t.node.manager.operation) t

asked_same : (body : Option Body) (source : ℕ) (s : Scene) → Same s (manager_asked body source s)
unfolding sending.request_step
asked_same None source s = refl
asked_same (Some body) source s = sent_same s source (asking_step s.node.layer source body purposes.Management)

ask_same : (source : ℕ) (ask : Ask) (s : Scene) → Same s (ask_manager source ask s)
unfolding ask_manager
ask_same source ask s = asked_same (manager_body ask s.node.manager.outgoing) source s

-- ---- a reply to the operation
module _ (old : Lives) (node : NodeState) (f : From old node.layer) where
  begun : Calm old node (scene node empty_outbox)
  begun = record { logins = refl; keys = refl; manager = refl; rom = refl; quiet = tt; from = f }

  effect_none : (effect : Effect) (subject : ℕ) → AreNoEntries (effect_by effect subject (scene node empty_outbox)).outbox.sides
  effect_none effects.Nothing subject = tt
  effect_none (effects.Entered place None) subject = tt
  effect_none (effects.Entered place (Some login)) subject = (tt, tt)
  effect_none (effects.Back place) subject = (tt, tt)
  effect_none (effects.Left place) subject =
      let t = cut_placed (place_in place) cuts.Logout (scene node empty_outbox) in
      entries_more t.outbox.sides (sides.Left subject) (quiet_entries _ (calm.cuts_placed old node (place_in place) cuts.Logout (scene node empty_outbox) begun).quiet) tt
  effect_none (effects.Abort place orb) subject = tt
  effect_none (effects.AbortSet place) subject = quiet_entries _ (calm.cuts_placed old node (place_in place) cuts.AbortSet (scene node empty_outbox) begun).quiet
  effect_none (effects.UnitReset unit) subject =
      let t = cut_all cuts.UnitReset (Some unit) (scene node empty_outbox) in
      quiet_entries _ (calm.clears_one old node unit t (calm.cuts_all old node cuts.UnitReset (Some unit) (scene node empty_outbox) begun)).quiet
  effect_none effects.TargetReset subject =
      let t = cut_all cuts.TargetReset None (scene node empty_outbox) in
      quiet_entries _ (calm.clears_from old node (length t.node.units) 0 t (calm.cuts_all old node cuts.TargetReset None (scene node empty_outbox) begun)).quiet

  decided_grants : (d : Option Decision) (effect : Effect) (source : ℕ) → grants (decided_by d effect source (scene node empty_outbox)).outbox.sides ≡ decision_grants d
  unfolding decided_by
  decided_grants None effect source = refl
  decided_grants (Some d) effect source =
      let t = effect_by effect d.subject (scene node empty_outbox) in
      let none = none_granted t.outbox.sides (effect_none effect d.subject) in
      let all = grants_more t.outbox.sides (sides.Managed source d.function d.subject d.status d.login) in
      omega (arith, none, all)

module _ (node : NodeState) (g : Good node) where
  managed_grants : (source : ℕ) (layer : Layer Purpose) (lives : Lives) → From lives layer → (r : ManagerStep × (management.Machine × Table)) → grants (managed_with source (scene (record node { layer = layer }) empty_outbox) r).outbox.sides ≡ decision_grants r.0.decided
  managed_grants source layer lives f (step, (m, t)) =
      let begun = with_manager (record node { layer = layer }) (m, t) in
      let d = decided_by step.decided step.effect source (scene begun empty_outbox) in
      ask_same source step.ask (failed_by source step.failed d) ∙ (failed_grants source step.failed d.outbox ∙ decided_grants lives begun f step.decided step.effect source)

  abbrev pub reply_grants : Answer → ℕ
  reply_grants answer = decision_grants (management.reply_step node.manager node.logins node.keys answer).0.decided

  none_by : (operation : Option Operation) (answer : Answer) → management.source_in operation ≡ None → decision_grants (management.reply_to operation node.manager node.logins node.keys answer).0.decided ≡ 0
  none_by None answer e = refl
  none_by (Some own) answer e = absurd (let differ : Some own.source ≡ None = e in cc)

  manage_grants : (answer : Answer) (layer : Layer Purpose) (lives : Lives) → From lives layer → grants (manage answer (scene (record node { layer = layer }) empty_outbox)).outbox.sides ≡ reply_grants answer
  unfolding manage management.reply_step
  manage_grants answer layer lives f = by (management.source_in node.manager.operation) refl
    where
      by : (source : Option ℕ) → management.source_in node.manager.operation ≡ source → grants (managed_in source answer (scene (record node { layer = layer }) empty_outbox)).outbox.sides ≡ decision_grants (management.reply_to node.manager.operation node.manager node.logins node.keys answer).0.decided
      by None e = sym (none_by node.manager.operation answer e)
      by (Some source) e = managed_grants source layer lives f (management.reply_to node.manager.operation node.manager node.logins node.keys answer)

  -- ---- a delivery
  abbrev pub found_grants : Finding Purpose → ℕ
  found_grants (of_response p label (Some purposes.Management)) = reply_grants (answer_in p)
  found_grants finding = 0

  begins : (layer : Layer Purpose) (lives : Lives) → From lives layer → Calm lives (record node { layer = layer }) (scene (record node { layer = layer }) empty_outbox)
  begins layer lives f = record { logins = refl; keys = refl; manager = refl; rom = refl; quiet = tt; from = f }

  concludes : (run : Option Told) (p : Packet) (peer : ℕ) (label : LabelParts) (disks : List Disk) (layer : Layer Purpose) (lives : Lives) → From lives layer → (purpose : Option Purpose) → grants (scene_of (concluded run purpose peer label (answer_in p) (whole (scene (record node { layer = layer }) empty_outbox) disks))).outbox.sides ≡ found_grants (of_response p label purpose)
  unfolding concluded
  concludes run p peer label disks layer lives f None = refl
  concludes run p peer label disks layer lives f (Some (purposes.Agent place)) =
      let w = whole (scene (record node { layer = layer }) empty_outbox) disks in
      none_granted _ (quiet_entries _ (calm.replies lives (record node { layer = layer }) run place peer label (answer_in p) w (begins layer lives f)).quiet)
  concludes run p peer label disks layer lives f (Some purposes.Management) = manage_grants (answer_in p) layer lives f
  concludes run p peer label disks layer lives f (Some purposes.Unsolicited) = refl

  -- a request
  module _ (p : Packet) (bytes : List ℕ) (layer : Layer Purpose) (same_layer : layer ≡ node.layer) where
    abbrev here : Scene
    here = scene (record node { layer = layer }) empty_outbox

    calm_here : Calm g.lives (record node { layer = layer }) here
    calm_here = begins layer g.lives (from_self layer g.lives (subst (λ (l : Layer Purpose). Known l g.lives) (sym same_layer) g.mid.known))

    answer_none : (rcode : ℕ) (given : List ℕ) → grants (answered p bytes rcode given here).outbox.sides ≡ 0
    answer_none rcode given = none_granted _ (quiet_entries _ (calm.answers g.lives (record node { layer = layer }) p bytes rcode given here calm_here).quiet)

    starts_none : (source : ℕ) (r : Result Ask Busy × management.Machine) → grants (started_by source p bytes r here).outbox.sides ≡ 0
    unfolding sending.answer_step
    starts_none source (Ok ask, m) = ask_same source ask (answered p bytes 0 [] (scene (record here.node { manager = m }) here.outbox))
    starts_none source (Err busy, m) = refl

    demand_none : (demand : Demand) → grants (served_as demand p bytes here).outbox.sides ≡ 0
    unfolding start
    demand_none (demands.Refused rcode) = answer_none rcode []
    demand_none (demands.Rom at_offset len) = answer_none 0 _
    demand_none (demands.Manage orb) = starts_none (header_in p).source (management.start_step node.manager (header_in p).source orb)
    demand_none (demands.Agent place access) = none_granted _ (quiet_entries _ (calm.accesses_by g.lives (record node { layer = layer }) access place p bytes here calm_here).quiet)

    serve_none : grants (serve p bytes here).outbox.sides ≡ 0
    unfolding serve
    serve_none = demand_none (demand_of (length node.rom) p)

    request_none : grants (request_step p bytes here).1.outbox.sides ≡ 0
    unfolding request_step
    request_none = by (is_barred (record node { layer = layer }) p)
      where
        by : (b : Bool) → grants (cond {A = Judged × Scene} b (judgements.Ignored ignored.Login, answered p bytes 7 [] here) (judgements.Got, serve p bytes here)).1.outbox.sides ≡ 0
        by true = answer_none 7 []
        by false = serve_none

  as_judged : (r : Judged × Scene) (w : Whole) → grants r.1.outbox.sides ≡ 0 → grants (scene_of (judged_scene r w).1).outbox.sides ≡ 0
  as_judged (judged, s) w e = e

  finds : (run : Option Told) (disks : List Disk) (generation : ℕ) (bytes : List ℕ) (f : Finding Purpose) (layer : Layer Purpose) → judging_step node.layer generation bytes ≡ (f, layer) → IsFound f node.layer layer bytes → grants (scene_of (received_as run bytes f (with_layer layer (whole (scene node empty_outbox) disks))).1).outbox.sides ≡ found_grants f
  finds run disks generation bytes of_generation layer e f = refl
  finds run disks generation bytes of_grammar layer e f = refl
  finds run disks generation bytes of_label layer e f = refl
  finds run disks generation bytes (of_response p label purpose) layer e f =
      let c = closing_known node.layer layer g.lives generation bytes p label purpose g.mid.known e f.kind in
      let lives = live_on (wire.closed (header_in p).source label c.kind purpose) g.lives in
      concludes run p (header_in p).source label disks layer lives (from_self layer lives c.known) purpose
  finds run disks generation bytes (of_again p rcode) layer e f = answer_none p bytes layer f.0 rcode []
  finds run disks generation bytes (of_request p) layer e f =
      as_judged (request_step p bytes (scene (record node { layer = layer }) empty_outbox)) (with_layer layer (whole (scene node empty_outbox) disks)) (request_none p bytes layer f.0)

  pub delivery_grants : (run : Option Told) (disks : List Disk) (generation : ℕ) (bytes : List ℕ) → grants (received run generation bytes (whole (scene node empty_outbox) disks)).1.outbox.sides ≡ found_grants (judging_step node.layer generation bytes).0
  unfolding received
  delivery_grants run disks generation bytes = finds run disks generation bytes (judging_step node.layer generation bytes).0 (judging_step node.layer generation bytes).1 refl (found node.layer generation bytes)

  -- ---- a time-out, a sight, a second
  late_phase : (phase : Phase) (own : Operation) → decision_grants (management.reply_in phase node.manager own node.logins node.keys Expired).0.decided ≡ 0
  late_phase phases.Orb own = refl
  late_phase (phases.HighEui orb) own = refl
  late_phase (phases.LowEui orb high) own = refl
  late_phase (phases.Response fifo) own = refl
  late_phase phases.Status own = refl

  late_by : (operation : Option Operation) → decision_grants (management.reply_to operation node.manager node.logins node.keys Expired).0.decided ≡ 0
  late_by None = refl
  late_by (Some own) = late_phase own.phase own

  late_none : reply_grants Expired ≡ 0
  unfolding management.reply_step
  late_none = late_by node.manager.operation

  lapses_for : (peer : ℕ) (label : LabelParts) (layer : Layer Purpose) (lives : Lives) → From lives layer → (purpose : Option Purpose) → grants (timed_out purpose peer label (scene (record node { layer = layer }) empty_outbox)).outbox.sides ≡ 0
  lapses_for peer label layer lives f None = refl
  lapses_for peer label layer lives f (Some (purposes.Agent place)) =
      let s = scene (record node { layer = layer }) empty_outbox in
      none_granted _ (quiet_entries _ (calm.expires_agent lives (record node { layer = layer }) place peer label s (begins layer lives f)).quiet)
  lapses_for peer label layer lives f (Some purposes.Management) = manage_grants Expired layer lives f ∙ late_none
  lapses_for peer label layer lives f (Some purposes.Unsolicited) = refl

  lapses_by : (r : Result (Option Purpose) Stale × Layer Purpose) (peer : ℕ) (label : LabelParts) → expiring_step node.layer peer label ≡ r → grants (expired_in r peer label (scene node empty_outbox)).1.outbox.sides ≡ 0
  lapses_by (Ok purpose, layer) peer label e =
      let x = expiring_known node.layer layer g.lives peer label purpose g.mid.known e in
      let lives = live_on (wire.expired peer label purpose) g.lives in
      lapses_for peer label layer lives (from_self layer lives x.known) purpose
  lapses_by (Err stale, layer) peer label e = refl

  pub lapse_grants : (peer : ℕ) (label : LabelParts) → grants (expired peer label (scene node empty_outbox)).1.outbox.sides ≡ 0
  unfolding expired
  lapse_grants peer label = lapses_by (expiring_step node.layer peer label) peer label refl

  pub second_grants : grants (ticked (scene node empty_outbox)).outbox.sides ≡ 0
  unfolding ticked
  second_grants = none_granted _ (expired_entries (length (expired_ids node.logins.places)) 0 (expired_ids node.logins.places) empty_outbox tt)

  sight_by : (r : Bool × Layer Purpose) (lives : Lives) → From lives r.1 → grants (reset_by r (scene node empty_outbox)).1.outbox.sides ≡ 0
  sight_by (false, layer) lives f = refl
  sight_by (true, layer) lives f =
      let begun = scene (cleared_node layer node) empty_outbox in
      let begun_calm : Calm lives (cleared_node layer node) begun = record { logins = refl; keys = refl; manager = refl; rom = refl; quiet = tt; from = f } in
      let t = cut_all cuts.Reset None begun in
      none_granted _ (held_entries 8 0 t.node.logins.places t.outbox (quiet_entries _ (calm.cuts_all lives (cleared_node layer node) cuts.Reset None begun begun_calm).quiet))

  pub sight_grants : (generation id : ℕ) → grants (seen generation id (scene node empty_outbox)).1.outbox.sides ≡ 0
  unfolding seen
  sight_grants generation id = sight_by (seeing_step node.layer generation id) g.lives (forgets_if node g generation id (nat_lt node.layer.generation generation) refl)
