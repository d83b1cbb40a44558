-- The failures of the management operation that the target tells in each call (NCITS 325-1998, management agent): that which a reply brings, or that its request finds no label; and
-- that where an operation is started.
use Rattle.std.proofs.Common.{◌≡◌, ◌∙◌, refl, sym, ap, subst, ℕ, zero, suc, ◌+◌, nat_lt, is_some, Bool, true, false, cond, List, [], ◌∷◌, ◌++◌, length, Option, Some, None, Result, Ok, Err}
use Rattle.std.specs.Prelude.{slice_index_or}
use Rattle.async_packet.specs.Labels.{LabelParts}
use Rattle.async_packet.specs.Packet.{Packet, header_in}
use Rattle.label_table.specs.Bodies.{Body}
use Rattle.label_table.specs.declared.judgement.Asked.{Asked}
use Rattle.label_table.specs.declared.reply.Stale.{Stale}
use Rattle.label_table.specs.History as wire
use Rattle.label_table.specs.Layer.{Finding, Layer, answering_step, asking_step, expiring_step, judging_step, of_again, of_generation, of_grammar, of_label, of_request, of_response, seeing_step}
use Rattle.login_table.specs.declared.login.Login.{Login}
use Rattle.login_table.specs.Table.{Table, expired_ids, is_live, place_at}
use Rattle.mgmt_agent.specs.declared.decision.ManagerStep.{ManagerStep}
use Rattle.mgmt_agent.specs.declared.operation.Busy.{Busy}
use Rattle.mgmt_agent.specs.declared.operation.Operation.{Operation}
use Rattle.mgmt_agent.specs.Machine as management
use Rattle.orb_layout.specs.declared.ask.Ask.{Ask}
use Rattle.orb_layout.specs.declared.ask.Ask.TheVariants as asks
use Rattle.orb_layout.specs.declared.ask.FailCause.{FailCause}
use Rattle.orb_layout.specs.declared.ask.FailCause.TheVariants as causes
use Rattle.orb_layout.specs.Replies.{Answer, Expired, NoLabel}
use Rattle.rbc_disk.specs.Disk.{Disk}
use Rattle.rbc_disk.specs.Runs.{Told}
use Rattle.sbp_journal.specs.declared.cause.Cause.TheVariants as ignored
use Rattle.sbp_journal.specs.declared.cause.CutCause.TheVariants as cuts
use Rattle.sbp_journal.specs.declared.cause.Judged.{Judged}
use Rattle.sbp_journal.specs.declared.cause.Judged.TheVariants as judgements
use Rattle.sbp_journal.specs.declared.side.Side.{Side}
use Rattle.sbp_journal.specs.declared.side.Side.TheVariants as sides
use Rattle.sbp_journal.specs.Outgoings.{OutboxState, empty_outbox}
use Rattle.sbp_laws.specs.Management.{failure_of}
use Rattle.target_base.specs.Addresses.{demand_of}
use Rattle.target_base.specs.declared.address.Demand.{Demand}
use Rattle.target_base.specs.declared.address.Demand.TheVariants as demands
use Rattle.sbp_target.specs.declared.purpose.Purpose.{Purpose}
use Rattle.sbp_target.specs.declared.purpose.Purpose.TheVariants as purposes
use Rattle.sbp_target.specs.Management.{ask_manager, decided_by, failed_by, lose_operation, lost_in, manage, managed_in, managed_with, manager_asked, manager_body, manager_lost, manager_sent, tell_failed, with_manager}
use Rattle.sbp_target.specs.Nodes.{NodeState, Scene, scene}
use Rattle.sbp_target.specs.Receiving.{answer_in, cleared_node, concluded, expired, expired_from, expired_in, held_from, judged_scene, received, received_as, reset_by, seen, tell_held, ticked, timed_out, with_layer}
use Rattle.sbp_target.specs.Replies.{Whole, scene_of, whole}
use Rattle.sbp_target.specs.Sending.{sent_by, with_side}
use Rattle.sbp_target.specs.Sending as sending
use Rattle.sbp_target.specs.Serving.{answered, is_barred, request_step, serve, served_as, start, started_by}
use Rattle.sbp_target.specs.Units.{cut_all}
use Rattle.sbp_target.proofs.Histories.Calling.{Good}
use Rattle.sbp_target.proofs.Histories.Found.{IsFound, found}
use Rattle.sbp_target.proofs.Histories.Primitives.{closing_known, expiring_known, live_on}
use Rattle.sbp_target.proofs.Histories.Seats.{Lives}
use Rattle.sbp_world.specs.Agents.Management.Offices.{Office}
use Rattle.sbp_world.proofs.Agents.Management.Asking.{has_source, unlabelled_fails}
use Rattle.sbp_world.proofs.Agents.Management.Calls.{forgets_if}
use Rattle.sbp_world.proofs.Agents.Management.Calm as calm
use Rattle.sbp_world.proofs.Agents.Management.Calm.{Calm, From}
use Rattle.sbp_world.proofs.Agents.Management.Managing.{decision_stands}
use Rattle.turn_laws.proofs.AskedLabels.{Alike, filter_alike, finds_alike}
use Rattle.turn_laws.proofs.FailureEffects.{decided_fails, decided_keeps, failing, fails_more, plain_more, quiet_fails}
use Rattle.turn_laws.proofs.KindNotes.{none_behind}
use Rattle.turn_laws.proofs.ManagedSides.{begins, from_self}

-- ---- one failure, and what a request brings that may find no label
abbrev pub fail_side : (source : ℕ) → Option FailCause → List Side
fail_side source None = []
fail_side source (Some cause) = sides.ManageFailed source cause ∷ []

abbrev pub unsent_cause : Option Asked → Option FailCause
unsent_cause None = Some causes.Label
unsent_cause (Some asked) = None

abbrev pub lost_cause : Layer Purpose → ℕ → Option Body → Option FailCause
lost_cause layer source None = None
lost_cause layer source (Some body) = unsent_cause (asking_step layer source body purposes.Management).0

-- an answer leaves the labels
pub answer_alike : (node : NodeState) (p : Packet) (bytes : List ℕ) (m : management.Machine) → Alike node.layer (answered p bytes 0 [] (scene (record node { manager = m }) empty_outbox)).node.layer
unfolding sending.answer_step answering_step
answer_alike node p bytes m = filter_alike node.layer _

pub lost_alike : (before now : Layer Purpose) → Alike before now → (source : ℕ) (body : Option Body) → lost_cause now source body ≡ lost_cause before source body
lost_alike before now a source None = refl
lost_alike before now a source (Some body) = ap unsent_cause (finds_alike before now a source body purposes.Management)

failed_side : (source : ℕ) (cause : Option FailCause) (o : OutboxState) → failing (tell_failed source cause o).sides ≡ failing o.sides ++ fail_side source cause
failed_side source None o = sym (none_behind (failing o.sides))
failed_side source (Some cause) o = fails_more o.sides (sides.ManageFailed source cause)

-- ---- a request of the operation
lost_with : (source : ℕ) (s : Scene) (r : ManagerStep × (management.Machine × Table)) → r.0.failed ≡ Some causes.Label → failing (manager_lost source s r).outbox.sides ≡ failing s.outbox.sides ++ fail_side source (Some causes.Label)
lost_with source s (step, (m, t)) e = failed_side source step.failed s.outbox ∙ ap (λ c. failing s.outbox.sides ++ fail_side source c) e

abbrev IsOfSource : ℕ → Scene → Type 0
IsOfSource source s = management.source_in s.node.manager.operation ≡ Some source

loses : (source : ℕ) (s : Scene) → IsOfSource source s → failing (lose_operation s).outbox.sides ≡ failing s.outbox.sides ++ fail_side source (Some causes.Label)
unfolding lose_operation
loses source s e =
    subst (λ x. failing (lost_in x s).outbox.sides ≡ failing s.outbox.sides ++ fail_side source (Some causes.Label)) (sym e)
    (lost_with source s (management.reply_step s.node.manager s.node.logins s.node.keys NoLabel) (unlabelled_fails s.node.manager s.node.logins s.node.keys (has_source s.node.manager.operation source e)))

sent_fails : (source : ℕ) (s : Scene) (r : Option Asked × Layer Purpose) → IsOfSource source s → failing (manager_sent s.node (sent_by r s.outbox source)).outbox.sides ≡ failing s.outbox.sides ++ fail_side source (unsent_cause r.0)
sent_fails source s (Some asked, layer) e = sym (none_behind (failing s.outbox.sides))
sent_fails source s (None, layer) e = loses source (scene (record s.node { layer = layer }) s.outbox) e

asked_fails : (body : Option Body) (source : ℕ) (s : Scene) → (is_some body ≡ true → IsOfSource source s) → failing (manager_asked body source s).outbox.sides ≡ failing s.outbox.sides ++ fail_side source (lost_cause s.node.layer source body)
unfolding sending.request_step
asked_fails None source s h = sym (none_behind (failing s.outbox.sides))
asked_fails (Some body) source s h = sent_fails source s (asking_step s.node.layer source body purposes.Management) (h refl)

ask_fails : (source : ℕ) (ask : Ask) (s : Scene) → (is_some (manager_body ask s.node.manager.outgoing) ≡ true → IsOfSource source s) → failing (ask_manager source ask s).outbox.sides ≡ failing s.outbox.sides ++ fail_side source (lost_cause s.node.layer source (manager_body ask s.node.manager.outgoing))
unfolding ask_manager
ask_fails source ask s h = asked_fails (manager_body ask s.node.manager.outgoing) source s h

-- ---- a reply: it fails the operation, or what it asks for then finds no label
both_fail : (source : ℕ) (failed lost : Option FailCause) → (is_some failed ≡ true → lost ≡ None) → fail_side source failed ++ fail_side source lost ≡ fail_side source (failure_of failed lost)
both_fail source None lost h = refl
both_fail source (Some cause) lost h = ap (λ c. sides.ManageFailed source cause ∷ fail_side source c) (h refl)

-- the body of what a step asks for
abbrev pub step_body : ManagerStep × (management.Machine × Table) → Option Body
step_body r = manager_body r.0.ask r.1.0.outgoing

-- what a step brings, which asks by this layer
abbrev pub step_cause : Layer Purpose → ℕ → ManagerStep × (management.Machine × Table) → Option FailCause
step_cause layer source r = failure_of r.0.failed (lost_cause layer source (step_body r))

-- a step that asks is of the same operation, and one that fails asks for nothing
pub record StepFits (source : ℕ) (r : ManagerStep × (management.Machine × Table)) : Type 0 where
  pub of : is_some (step_body r) ≡ true → management.source_in r.1.0.operation ≡ Some source
  pub quiet : is_some r.0.failed ≡ true → step_body r ≡ None

pub office_at : NodeState → Office
office_at node = record { table = node.logins; keys = node.keys; manager = node.manager; manages = None; asks = asks.Nothing; decided = None }

with_fails : (old : Lives) (source : ℕ) (node : NodeState) → From old node.layer → (r : ManagerStep × (management.Machine × Table)) → StepFits source r → failing (managed_with source (scene node empty_outbox) r).outbox.sides ≡ fail_side source (step_cause node.layer source r)
with_fails old source node f (step, (m, t)) fits =
    let begun = with_manager node (m, t) in
    let d = decided_by step.decided step.effect source (scene begun empty_outbox) in
    let told = failed_by source step.failed d in
    let same : d.node.manager ≡ m = (decision_stands (office_at begun) old begun empty_outbox refl f step.decided step.effect source).manager in
    let body : manager_body step.ask told.node.manager.outgoing ≡ manager_body step.ask m.outgoing = ap (λ (x : management.Machine). manager_body step.ask x.outgoing) same in
    ask_fails source step.ask told (λ e. ap (λ (x : management.Machine). management.source_in x.operation) same ∙ fits.of (ap is_some (sym body) ∙ e))
    ∙ ap (λ b. failing told.outbox.sides ++ fail_side source (lost_cause d.node.layer source b)) body
    ∙ ap (λ c. failing told.outbox.sides ++ fail_side source c) (lost_alike node.layer d.node.layer (decided_keeps step.decided step.effect source (scene begun empty_outbox)) source (manager_body step.ask m.outgoing))
    ∙ ap (λ xs. xs ++ fail_side source (lost_cause node.layer source (manager_body step.ask m.outgoing)))
    (failed_side source step.failed d.outbox ∙ ap (λ xs. xs ++ fail_side source step.failed) (decided_fails old begun f step.decided step.effect source))
    ∙ both_fail source step.failed (lost_cause node.layer source (manager_body step.ask m.outgoing)) (λ e. ap (lost_cause node.layer source) (fits.quiet e))

module _ (node : NodeState) (fits : (source : ℕ) (answer : Answer) → management.source_in node.manager.operation ≡ Some source → StepFits source (management.reply_step node.manager node.logins node.keys answer)) where
  -- what a reply to an operation of this source brings
  abbrev pub reply_fails : Layer Purpose → Option ℕ → Answer → List Side
  reply_fails layer None answer = []
  reply_fails layer (Some source) answer = fail_side source (step_cause layer source (management.reply_step node.manager node.logins node.keys answer))

  manage_fails : (answer : Answer) (layer : Layer Purpose) (lives : Lives) → From lives layer → failing (manage answer (scene (record node { layer = layer }) empty_outbox)).outbox.sides ≡ reply_fails layer (management.source_in node.manager.operation) answer
  unfolding manage
  manage_fails answer layer lives f = by (management.source_in node.manager.operation) refl
    where
      by : (source : Option ℕ) → management.source_in node.manager.operation ≡ source → failing (managed_in source answer (scene (record node { layer = layer }) empty_outbox)).outbox.sides ≡ reply_fails layer source answer
      by None e = refl
      by (Some source) e = with_fails lives source (record node { layer = layer }) f (management.reply_step node.manager node.logins node.keys answer) (fits source answer e)

  -- ---- what a request starts
  abbrev pub start_fails : Result Ask Busy × management.Machine → (source : ℕ) → List Side
  start_fails (Ok ask, m) source = fail_side source (lost_cause node.layer source (manager_body ask m.outgoing))
  start_fails (Err busy, m) source = []

  abbrev pub demand_fails : Demand → (source : ℕ) → List Side
  demand_fails (demands.Manage orb) source = start_fails (management.start_step node.manager source orb) source
  demand_fails demand source = []

  abbrev pub asked_for : Bool → Packet → List Side
  asked_for true p = []
  asked_for false p = demand_fails (demand_of (length node.rom) p) (header_in p).source

  module _ (g : Good node) where
    -- ---- a request
    module _ (p : Packet) (bytes : List ℕ) where
      calm_at : (m : management.Machine) → Calm g.lives (record node { manager = m }) (scene (record node { manager = m }) empty_outbox)
      calm_at m = record { logins = refl; keys = refl; manager = refl; rom = refl; quiet = tt; from = from_self node g node.layer g.lives g.mid.known }

      calm_here : Calm g.lives node (scene node empty_outbox)
      calm_here = calm_at node.manager

      answer_none : (rcode : ℕ) (given : List ℕ) → failing (answered p bytes rcode given (scene node empty_outbox)).outbox.sides ≡ []
      answer_none rcode given = quiet_fails _ (calm.answers g.lives node p bytes rcode given (scene node empty_outbox) calm_here).quiet

      starts_fail : (source : ℕ) (r : Result Ask Busy × management.Machine) → ((ask : Ask) → r.0 ≡ Ok ask → management.source_in r.1.operation ≡ Some source) → failing (started_by source p bytes r (scene node empty_outbox)).outbox.sides ≡ start_fails r source
      starts_fail source (Ok ask, m) h =
          let s = answered p bytes 0 [] (scene (record node { manager = m }) empty_outbox) in
          let c = calm.answers g.lives (record node { manager = m }) p bytes 0 [] (scene (record node { manager = m }) empty_outbox) (calm_at m) in
          let same : s.node.manager ≡ m = c.manager in
          ask_fails source ask s (λ e. ap (λ (x : management.Machine). management.source_in x.operation) same ∙ h ask refl)
          ∙ ap (λ xs. xs ++ fail_side source (lost_cause s.node.layer source (manager_body ask s.node.manager.outgoing))) (quiet_fails _ c.quiet)
          ∙ ap (λ (x : management.Machine). fail_side source (lost_cause s.node.layer source (manager_body ask x.outgoing))) same
          ∙ ap (fail_side source) (lost_alike node.layer s.node.layer (answer_alike node p bytes m) source (manager_body ask m.outgoing))
      starts_fail source (Err busy, m) h = quiet_fails _ (calm.answers g.lives (record node { manager = m }) p bytes 4 [] (scene (record node { manager = m }) empty_outbox) (calm_at m)).quiet

      started_source : (operation : Option Operation) (source orb : ℕ) (ask : Ask) → (management.start_with operation node.manager source orb).0 ≡ Ok ask → management.source_in (management.start_with operation node.manager source orb).1.operation ≡ Some source
      started_source None source orb ask e = refl
      started_source (Some own) source orb ask e = cc

      demanded_fails : (demand : Demand) → failing (served_as demand p bytes (scene node empty_outbox)).outbox.sides ≡ demand_fails demand (header_in p).source
      unfolding start management.start_step
      demanded_fails (demands.Refused rcode) = answer_none rcode []
      demanded_fails (demands.Rom at_offset len) = answer_none 0 _
      demanded_fails (demands.Manage orb) =
          let source = (header_in p).source in
          starts_fail source (management.start_step node.manager source orb) (started_source node.manager.operation source orb)
      demanded_fails (demands.Agent place access) = quiet_fails _ (calm.accesses_by g.lives node access place p bytes (scene node empty_outbox) calm_here).quiet

      serve_fails : failing (serve p bytes (scene node empty_outbox)).outbox.sides ≡ demand_fails (demand_of (length node.rom) p) (header_in p).source
      unfolding serve
      serve_fails = demanded_fails (demand_of (length node.rom) p)

      request_fails : failing (request_step p bytes (scene node empty_outbox)).1.outbox.sides ≡ asked_for (is_barred node p) p
      unfolding request_step
      request_fails = by (is_barred node p)
        where
          by : (b : Bool) → failing (cond {A = Judged × Scene} b (judgements.Ignored ignored.Login, answered p bytes 7 [] (scene node empty_outbox)) (judgements.Got, serve p bytes (scene node empty_outbox))).1.outbox.sides ≡ asked_for b p
          by true = answer_none 7 []
          by false = serve_fails

    -- ---- a delivery
    abbrev pub found_fails : Finding Purpose → Layer Purpose → List Side
    found_fails (of_response p label (Some purposes.Management)) layer = reply_fails layer (management.source_in node.manager.operation) (answer_in p)
    found_fails (of_request p) layer = asked_for (is_barred node p) p
    found_fails finding layer = []

    -- the target with this layer, at the beginning of a call
    abbrev begun_with : Layer Purpose → List Disk → Whole
    begun_with layer disks = whole (scene (record node { layer = layer }) empty_outbox) disks

    abbrev failing_of : Whole → List Side
    failing_of w = failing (scene_of w).outbox.sides

    -- a packet that was found so is taken up
    abbrev taken_up : Option Told → List ℕ → Finding Purpose → Layer Purpose → List Disk → Whole
    taken_up run bytes f layer disks = (received_as run bytes f (with_layer layer (whole (scene node empty_outbox) disks))).1

    -- what fails as it is
    abbrev Fails : Whole → Finding Purpose → Layer Purpose → Type 0
    Fails w finding layer = failing_of w ≡ found_fails finding layer

    concludes : (run : Option Told) (p : Packet) (peer : ℕ) (label : LabelParts) (disks : List Disk) (layer : Layer Purpose) (lives : Lives) → From lives layer → (purpose : Option Purpose)
        → Fails (concluded run purpose peer label (answer_in p) (begun_with layer disks)) (of_response p label purpose) layer
    unfolding concluded
    concludes run p peer label disks layer lives f None = refl
    concludes run p peer label disks layer lives f (Some (purposes.Agent place)) =
        let w = whole (scene (record node { layer = layer }) empty_outbox) disks in
        quiet_fails _ (calm.replies lives (record node { layer = layer }) run place peer label (answer_in p) w (begins node g layer lives f)).quiet
    concludes run p peer label disks layer lives f (Some purposes.Management) = manage_fails (answer_in p) layer lives f
    concludes run p peer label disks layer lives f (Some purposes.Unsolicited) = refl

    as_judged : (r : Judged × Scene) (w : Whole) (xs : List Side) → failing r.1.outbox.sides ≡ xs → failing (scene_of (judged_scene r w).1).outbox.sides ≡ xs
    as_judged (judged, s) w xs e = e

    -- a layer that a finding leaves as it was
    again_none : (p : Packet) (bytes : List ℕ) (rcode : ℕ) (layer : Layer Purpose) → layer ≡ node.layer → failing (answered p bytes rcode [] (scene (record node { layer = layer }) empty_outbox)).outbox.sides ≡ []
    again_none p bytes rcode layer e = subst (λ (l : Layer Purpose). failing (answered p bytes rcode [] (scene (record node { layer = l }) empty_outbox)).outbox.sides ≡ []) (sym e) (answer_none p bytes rcode [])

    requests_fail : (p : Packet) (bytes : List ℕ) (layer : Layer Purpose) → layer ≡ node.layer → failing (request_step p bytes (scene (record node { layer = layer }) empty_outbox)).1.outbox.sides ≡ asked_for (is_barred node p) p
    requests_fail p bytes layer e = subst (λ (l : Layer Purpose). failing (request_step p bytes (scene (record node { layer = l }) empty_outbox)).1.outbox.sides ≡ asked_for (is_barred node p) p) (sym e) (request_fails p bytes)

    finds : (run : Option Told) (disks : List Disk) (generation : ℕ) (bytes : List ℕ) (f : Finding Purpose) (layer : Layer Purpose) → judging_step node.layer generation bytes ≡ (f, layer) → IsFound f node.layer layer bytes
        → Fails (taken_up run bytes f layer disks) f layer
    finds run disks generation bytes of_generation layer e f = refl
    finds run disks generation bytes of_grammar layer e f = refl
    finds run disks generation bytes of_label layer e f = refl
    finds run disks generation bytes (of_response p label purpose) layer e f =
        let c = closing_known node.layer layer g.lives generation bytes p label purpose g.mid.known e f.kind in
        let lives = live_on (wire.closed (header_in p).source label c.kind purpose) g.lives in
        concludes run p (header_in p).source label disks layer lives (from_self node g layer lives c.known) purpose
    finds run disks generation bytes (of_again p rcode) layer e f = again_none p bytes rcode layer f.0
    finds run disks generation bytes (of_request p) layer e f =
        as_judged (request_step p bytes (scene (record node { layer = layer }) empty_outbox)) (with_layer layer (whole (scene node empty_outbox) disks)) (asked_for (is_barred node p) p) (requests_fail p bytes layer f.0)

    pub delivery_fails : (run : Option Told) (disks : List Disk) (generation : ℕ) (bytes : List ℕ) → (let r = judging_step node.layer generation bytes in failing (received run generation bytes (whole (scene node empty_outbox) disks)).1.outbox.sides ≡ found_fails r.0 r.1)
    unfolding received
    delivery_fails run disks generation bytes = finds run disks generation bytes (judging_step node.layer generation bytes).0 (judging_step node.layer generation bytes).1 refl (found node.layer generation bytes)

    -- ---- a time-out
    abbrev pub late_fails : Result (Option Purpose) Stale → Layer Purpose → List Side
    late_fails (Ok (Some purposes.Management)) layer = reply_fails layer (management.source_in node.manager.operation) Expired
    late_fails result layer = []

    lapses_for : (peer : ℕ) (label : LabelParts) (layer : Layer Purpose) (lives : Lives) → From lives layer → (purpose : Option Purpose) → failing (timed_out purpose peer label (scene (record node { layer = layer }) empty_outbox)).outbox.sides ≡ late_fails (Ok purpose) layer
    lapses_for peer label layer lives f None = refl
    lapses_for peer label layer lives f (Some (purposes.Agent place)) =
        let s = scene (record node { layer = layer }) empty_outbox in
        quiet_fails _ (calm.expires_agent lives (record node { layer = layer }) place peer label s (begins node g layer lives f)).quiet
    lapses_for peer label layer lives f (Some purposes.Management) = manage_fails Expired layer lives f
    lapses_for peer label layer lives f (Some purposes.Unsolicited) = refl

    lapses_by : (r : Result (Option Purpose) Stale × Layer Purpose) (peer : ℕ) (label : LabelParts) → expiring_step node.layer peer label ≡ r → failing (expired_in r peer label (scene node empty_outbox)).1.outbox.sides ≡ late_fails r.0 r.1
    lapses_by (Ok purpose, layer) peer label e =
        let x = expiring_known node.layer layer g.lives peer label purpose g.mid.known e in
        let lives = live_on (wire.expired peer label purpose) g.lives in
        lapses_for peer label layer lives (from_self node g layer lives x.known) purpose
    lapses_by (Err stale, layer) peer label e = refl

    pub lapse_fails : (peer : ℕ) (label : LabelParts) → (let r = expiring_step node.layer peer label in failing (expired peer label (scene node empty_outbox)).1.outbox.sides ≡ late_fails r.0 r.1)
    unfolding expired
    lapse_fails peer label = lapses_by (expiring_step node.layer peer label) peer label refl

-- ---- a second, and a sight
second_none : (left at : ℕ) (logins : List ℕ) (o : OutboxState) → failing o.sides ≡ [] → failing (expired_from left at logins o).sides ≡ []
unfolding expired_from
second_none zero at logins o h = h
second_none (suc left) at logins o h = second_none left (at + 1) logins (with_side o (sides.Expired (slice_index_or logins at 0))) (plain_more o.sides (sides.Expired (slice_index_or logins at 0)) refl h)

pub second_fails : (node : NodeState) → failing (ticked (scene node empty_outbox)).outbox.sides ≡ []
unfolding ticked
second_fails node = second_none (length (expired_ids node.logins.places)) 0 (expired_ids node.logins.places) empty_outbox refl

held_none : (left place : ℕ) (places : List (Option Login)) (o : OutboxState) → failing o.sides ≡ [] → failing (held_from left place places o).sides ≡ []
unfolding held_from
held_none zero place places o h = h
held_none (suc left) place places o h = held_none left (place + 1) places (tell_held (place_at places place) o) (one (place_at places place))
  where
    live : (b : Bool) (login : Login) → failing (cond b (with_side o (sides.Held login.login)) o).sides ≡ []
    live true login = plain_more o.sides (sides.Held login.login) refl h
    live false login = h

    one : (x : Option Login) → failing (tell_held x o).sides ≡ []
    one None = h
    one (Some login) = live (is_live login) login

module _ (node : NodeState) (g : Good node) where
  sight_by : (r : Bool × Layer Purpose) (lives : Lives) → From lives r.1 → failing (reset_by r (scene node empty_outbox)).1.outbox.sides ≡ []
  sight_by (false, layer) lives f = refl
  sight_by (true, layer) lives f =
      let begun = scene (cleared_node layer node) empty_outbox in
      let begun_calm : Calm lives (cleared_node layer node) begun = record { logins = refl; keys = refl; manager = refl; rom = refl; quiet = tt; from = f } in
      let t = cut_all cuts.Reset None begun in
      held_none 8 0 t.node.logins.places t.outbox (quiet_fails _ (calm.cuts_all lives (cleared_node layer node) cuts.Reset None begun begun_calm).quiet)

  pub sight_fails : (generation id : ℕ) → failing (seen generation id (scene node empty_outbox)).1.outbox.sides ≡ []
  unfolding seen
  sight_fails generation id = sight_by (seeing_step node.layer generation id) g.lives (forgets_if node g generation id (nat_lt node.layer.generation generation) refl)
