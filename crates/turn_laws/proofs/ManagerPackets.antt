-- The packets of a call of the management operation (NCITS 325-1998, management agent): one request, to the node of the operation, where it asks for something and that finds a label. A decision, a failure and a lost request send nothing. And the logins behind it.
use Rattle.std.proofs.Common.{◌≡◌, ◌∙◌, refl, sym, ap, subst, ℕ, List, [], ◌∷◌, ◌++◌, append-nil, length, Option, Some, None, Result, Ok, Err}
use Rattle.async_packet.specs.Packet.{Packet, header_in}
use Rattle.label_table.specs.Bodies.{Body}
use Rattle.label_table.specs.declared.judgement.Asked.{Asked}
use Rattle.label_table.specs.Layer.{Layer, answering_step, asking_step}
use Rattle.login_table.specs.Table.{Table}
use Rattle.mgmt_agent.specs.declared.decision.ManagerStep.{ManagerStep}
use Rattle.mgmt_agent.specs.declared.operation.Busy.{Busy}
use Rattle.mgmt_agent.specs.declared.operation.Operation.{Operation}
use Rattle.mgmt_agent.specs.Machine as management
use Rattle.orb_layout.specs.declared.ask.Ask.{Ask}
use Rattle.orb_layout.specs.Replies.{Answer, NoLabel}
use Rattle.sbp_journal.specs.declared.outbox.Outgoing.{Outgoing}
use Rattle.sbp_journal.specs.Outgoings.{empty_outbox}
use Rattle.target_base.specs.Addresses.{demand_of}
use Rattle.target_base.specs.declared.address.Demand.TheVariants as demands
use Rattle.sbp_target.specs.declared.purpose.Purpose.{Purpose}
use Rattle.sbp_target.specs.declared.purpose.Purpose.TheVariants as purposes
use Rattle.sbp_target.specs.Management.{ask_manager, decided_by, failed_by, lose_operation, lost_in, manage, managed_in, managed_with, manager_asked, manager_body, manager_lost, manager_sent, with_manager}
use Rattle.sbp_target.specs.Nodes.{NodeState, Scene, scene}
use Rattle.sbp_target.specs.Serving.{answered, serve, served_as, start, started_by}
use Rattle.sbp_target.specs.Sending.{sent_by}
use Rattle.sbp_target.specs.Sending as sending
use Rattle.sbp_target.proofs.Histories.Managing.{unlabelled}
use Rattle.sbp_target.proofs.Histories.Seats.{Lives}
use Rattle.sbp_world.proofs.Agents.Management.Asking.{has_source}
use Rattle.sbp_world.proofs.Agents.Management.Calm.{From}
use Rattle.sbp_world.proofs.Agents.Management.Managing.{decision_stands}
use Rattle.turn_laws.proofs.AskedLabels.{Alike, finds_alike}
use Rattle.turn_laws.proofs.FailureEffects.{decided_keeps}
use Rattle.turn_laws.proofs.FailureSides.{answer_alike, office_at, step_body}
use Rattle.turn_laws.proofs.FollowSends.{packet_of}
use Rattle.sbp_target.proofs.Requests.Management.{failed_packets}

-- ---- the packets of a scene
abbrev pub out : Scene → List Outgoing
out s = s.outbox.packets

-- of a request of the operation of a node, at a layer
abbrev pub operation_packets : Layer Purpose → (source : ℕ) → Option Body → List Outgoing
operation_packets layer source None = []
operation_packets layer source (Some body) = packet_of source (asking_step layer source body purposes.Management).0

-- ---- a failure sends nothing

lost_with : (source : ℕ) (s : Scene) (r : ManagerStep × (management.Machine × Table)) → out (manager_lost source s r) ≡ out s
lost_with source s (step, (m, t)) = failed_packets source step.failed s.outbox

loses_by : (source : Option ℕ) (s : Scene) → out (lost_in source s) ≡ out s
loses_by None s = refl
loses_by (Some source) s = lost_with source s (management.reply_step s.node.manager s.node.logins s.node.keys NoLabel)

loses : (s : Scene) → out (lose_operation s) ≡ out s
unfolding lose_operation
loses s = loses_by (management.source_in s.node.manager.operation) s

-- ---- a request of the operation
sent_packets : (source : ℕ) (s : Scene) (r : Option Asked × Layer Purpose) → out (manager_sent s.node (sent_by r s.outbox source)) ≡ out s ++ packet_of source r.0
sent_packets source s (Some asked, layer) = refl
sent_packets source s (None, layer) = loses (scene (record s.node { layer = layer }) s.outbox) ∙ sym (append-nil (out s))

asked_packets : (body : Option Body) (source : ℕ) (s : Scene) → out (manager_asked body source s) ≡ out s ++ operation_packets s.node.layer source body
unfolding sending.request_step
asked_packets None source s = sym (append-nil (out s))
asked_packets (Some body) source s = sent_packets source s (asking_step s.node.layer source body purposes.Management)

pub ask_packets : (source : ℕ) (ask : Ask) (s : Scene) → out (ask_manager source ask s) ≡ out s ++ operation_packets s.node.layer source (manager_body ask s.node.manager.outgoing)
unfolding ask_manager
ask_packets source ask s = asked_packets (manager_body ask s.node.manager.outgoing) source s

packets_alike : (before now : Layer Purpose) → Alike before now → (source : ℕ) (body : Option Body) → operation_packets now source body ≡ operation_packets before source body
packets_alike before now a source None = refl
packets_alike before now a source (Some body) = ap (packet_of source) (finds_alike before now a source body purposes.Management)

-- ---- a reply
with_packets : (old : Lives) (source : ℕ) (node : NodeState) → From old node.layer → (r : ManagerStep × (management.Machine × Table)) → out (managed_with source (scene node empty_outbox) r) ≡ operation_packets node.layer source (step_body r)
with_packets old source node f (step, (m, t)) =
    let begun = with_manager node (m, t) in
    let d = decided_by step.decided step.effect source (scene begun empty_outbox) in
    let told = failed_by source step.failed d in
    let stands = decision_stands (office_at begun) old begun empty_outbox refl f step.decided step.effect source in
    let same : d.node.manager ≡ m = stands.manager in
    ask_packets source step.ask told
    ∙ ap (λ b. out told ++ operation_packets d.node.layer source b) (ap (λ (x : management.Machine). manager_body step.ask x.outgoing) same)
    ∙ ap (λ ps. out told ++ ps) (packets_alike node.layer d.node.layer (decided_keeps step.decided step.effect source (scene begun empty_outbox)) source (manager_body step.ask m.outgoing))
    ∙ ap (λ ps. ps ++ operation_packets node.layer source (manager_body step.ask m.outgoing)) (failed_packets source step.failed d.outbox ∙ stands.packets_are)

-- what a reply to an operation of this source sends
abbrev pub reply_packets : NodeState → Layer Purpose → Option ℕ → Answer → List Outgoing
reply_packets node layer None answer = []
reply_packets node layer (Some source) answer = operation_packets layer source (step_body (management.reply_step node.manager node.logins node.keys answer))

pub manage_packets : (node : NodeState) (answer : Answer) (layer : Layer Purpose) (lives : Lives) → From lives layer → out (manage answer (scene (record node { layer = layer }) empty_outbox)) ≡ reply_packets node layer (management.source_in node.manager.operation) answer
unfolding manage
manage_packets node answer layer lives f = by (management.source_in node.manager.operation)
  where
    by : (source : Option ℕ) → out (managed_in source answer (scene (record node { layer = layer }) empty_outbox)) ≡ reply_packets node layer source answer
    by None = refl
    by (Some source) = with_packets lives source (record node { layer = layer }) f (management.reply_step node.manager node.logins node.keys answer)

-- ---- an operation is started: its request stands behind the answer
abbrev pub start_packets : NodeState → (source : ℕ) → Result Ask Busy × management.Machine → List Outgoing
start_packets node source (Ok ask, m) = operation_packets node.layer source (manager_body ask m.outgoing)
start_packets node source (Err busy, m) = []

-- these stand behind one to this node
pub record StandBehind (to : ℕ) (packets all : List Outgoing) : Type 0 where
  pub first : Outgoing
  pub to_is : first.to ≡ to
  pub is : all ≡ first ∷ packets

module _ (node : NodeState) (p : Packet) (bytes : List ℕ) where
  abbrev source : ℕ
  source = (header_in p).source

  starts : (r : Result Ask Busy × management.Machine) → StandBehind source (start_packets node source r) (out (started_by source p bytes r (scene node empty_outbox)))
  unfolding sending.answer_step
  starts (Ok ask, m) =
      let s = answered p bytes 0 [] (scene (record node { manager = m }) empty_outbox) in
      let first : Outgoing = record { to = source; label = None; bytes = (answering_step node.layer p bytes 0 []).0 } in
      record {
        first = first;
        to_is = refl;
        is = ask_packets source ask s ∙ ap (λ ps. first ∷ ps) (packets_alike node.layer s.node.layer (answer_alike node p bytes m) source (manager_body ask m.outgoing));
      }
  starts (Err busy, m) = record { first = record { to = source; label = None; bytes = (answering_step node.layer p bytes 4 []).0 }; to_is = refl; is = refl }

  pub serve_packets : (orb : ℕ) → demand_of (length node.rom) p ≡ demands.Manage orb → StandBehind source (start_packets node source (management.start_step node.manager source orb)) (out (serve p bytes (scene node empty_outbox)))
  unfolding serve start
  serve_packets orb e =
      subst (λ d. StandBehind source (start_packets node source (management.start_step node.manager source orb)) (out (served_as d p bytes (scene node empty_outbox)))) (sym e)
      (starts (management.start_step node.manager source orb))

-- ---- the logins behind it: those that its step leaves
lost_logins : (source : ℕ) (s : Scene) (r : ManagerStep × (management.Machine × Table)) → r.1.1 ≡ s.node.logins → (manager_lost source s r).node.logins ≡ s.node.logins
lost_logins source s (step, (m, t)) e = e

loses_logins : (source : Option ℕ) (s : Scene) → management.source_in s.node.manager.operation ≡ source → (lost_in source s).node.logins ≡ s.node.logins
loses_logins None s e = refl
loses_logins (Some source) s e =
    lost_logins source s (management.reply_step s.node.manager s.node.logins s.node.keys NoLabel)
    (ap (λ (x : management.Machine × Table). x.1) (unlabelled s.node.manager s.node.logins s.node.keys (has_source s.node.manager.operation source e)))

sent_logins : (source : ℕ) (s : Scene) (r : Option Asked × Layer Purpose) → (manager_sent s.node (sent_by r s.outbox source)).node.logins ≡ s.node.logins
unfolding lose_operation
sent_logins source s (Some asked, layer) = refl
sent_logins source s (None, layer) = let t = scene (record s.node { layer = layer }) s.outbox in loses_logins (management.source_in t.node.manager.operation) t refl

ask_logins : (source : ℕ) (body : Option Body) (s : Scene) → (manager_asked body source s).node.logins ≡ s.node.logins
unfolding sending.request_step
ask_logins source None s = refl
ask_logins source (Some body) s = sent_logins source s (asking_step s.node.layer source body purposes.Management)

with_logins : (old : Lives) (source : ℕ) (node : NodeState) → From old node.layer → (r : ManagerStep × (management.Machine × Table)) → (managed_with source (scene node empty_outbox) r).node.logins ≡ r.1.1
unfolding ask_manager
with_logins old source node f (step, (m, t)) =
    let begun = with_manager node (m, t) in
    let told = failed_by source step.failed (decided_by step.decided step.effect source (scene begun empty_outbox)) in
    ask_logins source (manager_body step.ask told.node.manager.outgoing) told ∙ (decision_stands (office_at begun) old begun empty_outbox refl f step.decided step.effect source).logins

idle_logins : (operation : Option Operation) (m : management.Machine) (table : Table) (keys : List (List ℕ)) (answer : Answer) → management.source_in operation ≡ None → (management.reply_to operation m table keys answer).1.1 ≡ table
idle_logins None m table keys answer e = refl
idle_logins (Some own) m table keys answer e = absurd (let no : Some own.source ≡ None = e in cc)

pub manage_logins : (node : NodeState) (answer : Answer) (layer : Layer Purpose) (lives : Lives) → From lives layer
    → (manage answer (scene (record node { layer = layer }) empty_outbox)).node.logins ≡ (management.reply_step node.manager node.logins node.keys answer).1.1
unfolding manage management.reply_step
manage_logins node answer layer lives f = by (management.source_in node.manager.operation) refl
  where
    by : (source : Option ℕ) → management.source_in node.manager.operation ≡ source
        → (managed_in source answer (scene (record node { layer = layer }) empty_outbox)).node.logins ≡ (management.reply_step node.manager node.logins node.keys answer).1.1
    by None e = sym (idle_logins node.manager.operation node.manager node.logins node.keys answer e)
    by (Some source) e = with_logins lives source (record node { layer = layer }) f (management.reply_step node.manager node.logins node.keys answer)
