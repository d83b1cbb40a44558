-- A law of which each note stands for a decision's effect: what a packet that comes to the target brings of them is what the effect of its call on the management operation has.
use Rattle.std.proofs.Common.{[], Bool, List, None, Ok, Option, Some, ap, is_some, refl, subst, suc, sym, true, ℕ, ◌<◌, ◌∙◌, ◌∷◌, ◌≡◌}
use Rattle.async_packet.specs.Labels.{LabelParts}
use Rattle.async_packet.specs.Packet.{Packet}
use Rattle.async_packet.specs.Reading.{reading}
use Rattle.bus_transactions.specs.Judging.{AreJudged}
use Rattle.label_table.specs.Layer.{Finding, Layer, judging_step, of_again, of_generation, of_grammar, of_label, of_request, of_response}
use Rattle.label_table.specs.Requests.{reply_kind}
use Rattle.login_table.specs.Table.{Table}
use Rattle.mgmt_agent.specs.Machine.{Machine, reply_step, source_in}
use Rattle.mgmt_agent.specs.declared.decision.Effect.{Effect}
use Rattle.mgmt_agent.specs.declared.decision.ManagerStep.{ManagerStep}
use Rattle.orb_layout.specs.Replies.{Answer}
use Rattle.packet_store.specs.Kept.{found_sent}
use Rattle.packet_store.specs.declared.sent.Sent.{Sent}
use Rattle.rbc_disk.specs.Disk.{Disk}
use Rattle.rbc_disk.specs.Runs.{Told}
use Rattle.sbp_bus.specs.Packets.{judged_note}
use Rattle.sbp_journal.specs.Outgoings.{OutboxState}
use Rattle.sbp_journal.specs.Run.{Moment, said}
use Rattle.sbp_journal.specs.Wire.{Terms, terms}
use Rattle.sbp_journal.specs.declared.cause.Cause.{Cause}
use Rattle.sbp_journal.specs.declared.cause.Judged.{Judged}
use Rattle.sbp_journal.specs.declared.note.Note.{Note}
use Rattle.sbp_journal.specs.declared.side.Side.{Side}
use Rattle.sbp_laws.specs.Management.{Call, call_by, no_call}
use Rattle.sbp_laws.specs.Targets.{Target, over, target_at}
use Rattle.sbp_target.specs.Histories.Sides.{decision_changes, delivery_tells, operation_tells, reply_tells}
use Rattle.sbp_target.specs.Management.{with_manager}
use Rattle.sbp_target.specs.Calls.{receives}
use Rattle.sbp_target.specs.Histories.Layers.{first_of}
use Rattle.sbp_target.specs.Nodes.{NodeState}
use Rattle.sbp_target.specs.Receiving.{answer_in, received, received_as, with_layer}
use Rattle.sbp_target.specs.Replies.{served_login}
use Rattle.sbp_target.specs.declared.purpose.Purpose.{Purpose}
use Rattle.sbp_world.specs.Agents.Management.Offices.{Agrees, office_of}
use Rattle.sbp_world.specs.Delivering.{whole_of}
use Rattle.sbp_world.specs.Worlds.{Scene}
use Rattle.sbp_target.proofs.Histories.Calling.{Good}
use Rattle.sbp_target.proofs.Histories.Found.{IsFound, found as found_as}
use Rattle.sbp_target.proofs.Histories.Told.{side_law}
use Rattle.sbp_world.proofs.Agents.CrewFirsts.{agrees}
use Rattle.sbp_world.proofs.Agents.Management.Holding.{good_of}
use Rattle.sbp_world.proofs.Agents.Management.Still.{hist}
use Rattle.turn_laws.proofs.Effects.{EffectOf, idle_effect, start_effect, step_same, timed_out_effect}
use Rattle.turn_laws.proofs.Gots.{agent_calls, manager_calls, no_kind, nobody_calls, own_calls_nothing, request_calls, unsolicited_calls}
use Rattle.turn_laws.proofs.KeptNotes.{IsKept, agent_none, first_sides, kept_in, request_none}
use Rattle.turn_laws.proofs.Places.{Place}
use Rattle.mgmt_agent.specs.declared.decision.Effect.TheVariants as effects
use Rattle.sbp_journal.specs.declared.cause.Cause.TheVariants as causes
use Rattle.sbp_journal.specs.declared.cause.Judged.TheVariants as judgements
use Rattle.sbp_journal.specs.declared.note.Note.TheVariants as notes
use Rattle.sbp_target.specs.declared.purpose.Purpose.TheVariants as purposes
use Rattle.label_table.specs.History as wire

-- what of the kind an effect has, by the terms before it: the effect of each reply has what the target tells of it, and without an effect there is nothing
pub record HasEffects (kind : Note → Bool) (kept : Side → List Note) (k : IsKept kind kept) (due : Target → Effect → List Note) : Type 0 where
  pub none : (target : Target) → due target effects.Nothing ≡ []
  pub replies : (target : Target) (node : NodeState) → Good node → Agrees (office_of target) node → (answer : Answer) → (let r = reply_step node.manager node.logins node.keys answer in kept_in kind kept k (decision_changes r.0.decided r.0.effect (with_manager node (r.1.0, r.1.1))) ≡ due target r.0.effect)

module _ (kind : Note → Bool) (kept : Side → List Note) (k : IsKept kind kept) (due : Target → Effect → List Note) (d : HasEffects kind kept k due) (units ready : ℕ) (has : 0 < units) (start : List Disk) where
  -- by the effect of a call
  abbrev pub DueBy : Target → Call → List Note
  DueBy target call = due target (EffectOf target call)

  abbrev Keeps : List Side → List Note
  Keeps = kept_in kind kept k

  module _ (past : List Moment) (s : Scene) (here : Place units ready start past s) (serial : ℕ) (one : Sent) (found : found_sent serial s.world.store.kept ≡ Some one) where
    abbrev node : NodeState
    node = s.world.target

    abbrev ms : List Moment
    ms = hist past s.world

    abbrev T : Target
    T = over (target_at start ms)

    abbrev Called : Judged → Call
    Called judged = call_by (said (judged_note serial judged)) T (terms ms)

    -- an initiator's packet has none
    pub own_due : (i : ℕ) → one.to ≡ suc i → (judged : Judged) → DueBy T (Called judged) ≡ []
    own_due i to_is judged = ap (DueBy T) (own_calls_nothing units ready has start past s here serial one found i to_is judged) ∙ d.none T

    module _ (run : Option Told) (zero_to : one.to ≡ 0) where
      good : Good node
      good = good_of units ready here.holds.calls node has here.holds.made

      same : Agrees (office_of T) node
      same = agrees units ready has start s.world here.holds

      -- what the sides have, and what the law wants for this judgement
      abbrev Due : Judged → List Side → Type 0
      Due judged later = Keeps later ≡ DueBy T (Called judged)

      ignored : (cause : Cause) (later : List Side) → Keeps later ≡ [] → Due (judgements.Ignored cause) later
      ignored cause later e = e ∙ sym (d.none T)

      got_nothing : (call : Call) → Called judgements.Got ≡ call → EffectOf T call ≡ effects.Nothing → (later : List Side) → Keeps later ≡ [] → Due judgements.Got later
      got_nothing call is nothing later e = e ∙ sym (ap (DueBy T) is ∙ ap (due T) nothing ∙ d.none T)

      request : (p : Packet) → reading one.bytes ≡ Ok p → reply_kind p ≡ None → (judged : Judged) (later : List Side) → Keeps later ≡ [] → Due judged later
      request p read none judgements.Got later e = got_nothing _ (request_calls units ready has start past s here serial one found zero_to p read none) (start_effect T _ _) later e
      request p read none (judgements.Ignored cause) later e = ignored cause later e

      -- a reply to the operation
      operation_due : (answer : Answer) (source : Option ℕ) → source_in node.manager.operation ≡ source → (later : List Side) → operation_tells source answer node later → Keeps later ≡ due T (reply_step node.manager node.logins node.keys answer).0.effect
      operation_due answer None e later tells = ap Keeps tells ∙ sym (ap (due T) (idle_effect node.manager node.logins node.keys answer e) ∙ d.none T)
      operation_due answer (Some source) e later tells =
          let r = reply_step node.manager node.logins node.keys answer in
          first_sides kind kept k (decision_changes r.0.decided r.0.effect (with_manager node (r.1.0, r.1.1))) later tells ∙ d.replies T node good same answer

      module _ (judged : AreJudged (said (notes.Got serial) ∷ ms)) (p : Packet) (read : reading one.bytes ≡ Ok p) (some : is_some (reply_kind p) ≡ true) (label : LabelParts) (layer : Layer Purpose) where
        abbrev Is : Option Purpose → Type 0
        Is purpose = judging_step node.layer one.generation one.bytes ≡ (of_response p label purpose, layer)

        response : (purpose : Option Purpose) → Is purpose → (first : List (wire.Call Purpose)) (disks left : List Disk) (outbox : OutboxState) → reply_tells purpose (answer_in p) node first disks left outbox → Due judgements.Got outbox.sides
        response None e first disks left outbox tells = got_nothing no_call (nobody_calls units ready has start past s here serial one found zero_to judged p read some label layer None e refl) refl outbox.sides (ap Keeps tells)
        response (Some purposes.Unsolicited) e first disks left outbox tells =
            got_nothing no_call (unsolicited_calls units ready has start past s here serial one found zero_to judged p read some label layer (Some purposes.Unsolicited) e refl) refl outbox.sides (ap Keeps tells)
        response (Some purposes.Management) e first disks left outbox tells =
            operation_due (answer_in p) (source_in node.manager.operation) refl outbox.sides tells
            ∙ sym (ap (DueBy T) (manager_calls units ready has start past s here serial one found zero_to judged p read some label layer (Some purposes.Management) e refl)
            ∙ ap (λ (r : ManagerStep × (Machine × Table)). due T r.0.effect) (step_same T node same (answer_in p)))
        response (Some (purposes.Agent place)) e first disks left outbox tells =
            got_nothing no_call (agent_calls units ready has start past s here serial one found zero_to judged p read some label layer (Some (purposes.Agent place)) e place refl) refl outbox.sides
            (agent_none kind kept k (served_login node place) place node first disks left outbox tells)

      -- whatever it is found to be
      abbrev Finds : Finding Purpose → Layer Purpose → Judged → Type 0
      Finds f layer judged = (judging_step node.layer one.generation one.bytes ≡ (f, layer)) × (judged ≡ (received_as run one.bytes f (with_layer layer (whole_of node s.media))).0)

      abbrev Tells : Finding Purpose → Judged → OutboxState → Type 0
      Tells f judged outbox = (first : List (wire.Call Purpose)) (disks left : List Disk) → delivery_tells f node first disks left outbox → Due judged outbox.sides

      by_finding : (f : Finding Purpose) (layer : Layer Purpose) (judged : Judged) (outbox : OutboxState) → Finds f layer judged → IsFound f node.layer layer one.bytes → AreJudged (said (judged_note serial judged) ∷ ms) → Tells f judged outbox
      by_finding of_generation layer judged outbox e f j first disks left tells = subst (λ x. Due x outbox.sides) (sym e.1) (ignored causes.Generation outbox.sides (ap Keeps tells))
      by_finding of_grammar layer judged outbox e f j first disks left tells = subst (λ x. Due x outbox.sides) (sym e.1) (ignored causes.Grammar outbox.sides (ap Keeps tells))
      by_finding of_label layer judged outbox e f j first disks left tells = subst (λ x. Due x outbox.sides) (sym e.1) (ignored causes.Label outbox.sides (ap Keeps tells))
      by_finding (of_again p rcode) layer judged outbox e f j first disks left tells = subst (λ x. Due x outbox.sides) (sym e.1) (ignored causes.Again outbox.sides (ap Keeps tells))
      by_finding (of_response p label purpose) layer judged outbox e f j first disks left tells =
          subst (λ x. Due x outbox.sides) (sym e.1)
          (response (subst (λ x. AreJudged (said (judged_note serial x) ∷ ms)) e.1 j) p f.read f.kind label layer purpose e.0 first disks left outbox tells)
      by_finding (of_request p) layer judged outbox e f j first disks left tells =
          request p f.1.read (no_kind (reply_kind p) f.1.kind) judged outbox.sides (first_sides kind kept k _ outbox.sides tells ∙ request_none kind kept k _ p node)

      pub target_due : (let x = received run one.generation one.bytes (whole_of node s.media) in AreJudged (said (judged_note serial x.0) ∷ ms) → Due x.0 x.1.outbox.sides)
      unfolding received
      target_due j =
          let f = judging_step node.layer one.generation one.bytes in
          let x = received run one.generation one.bytes (whole_of node s.media) in
          by_finding f.0 f.1 x.0 x.1.outbox (refl, refl) (found_as node.layer one.generation one.bytes) j (first_of (receives run s.media.disks one.generation one.bytes)) s.media.disks x.1.disks (side_law.deliveries run s.media.disks one.generation one.bytes node)

  -- a time-out has none
  pub late_due : (target : Target) (terms_before : Terms) (serial : ℕ) → DueBy target (call_by (said (notes.TimedOut serial)) target terms_before) ≡ []
  late_due target terms_before serial = ap (due target) (timed_out_effect target terms_before serial) ∙ d.none target
