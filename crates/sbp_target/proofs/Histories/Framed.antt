-- What is kept by another layer and by another desk of a place with the same register for unsolicited status is kept by all
-- that follows a step of an agent.
use Rattle.std.proofs.Common.{◌≡◌, refl, ℕ, Bool, true, false, Option, Some, None}
use Rattle.async_packet.specs.Labels.{LabelParts}
use Rattle.label_table.specs.Layer.{Layer}
use Rattle.login_table.specs.declared.login.Login.{Login}
use Rattle.orb_layout.specs.declared.ask.FailCause.{FailCause}
use Rattle.orb_layout.specs.declared.ask.FailCause.TheVariants as causes
use Rattle.command_agent.specs.declared.step.AgentStep.{AgentStep}
use Rattle.command_agent.specs.Steps.{lost_step}
use Rattle.sbp_journal.specs.Outgoings.{OutboxState}
use Rattle.sbp_target.specs.declared.desk.Desk.{Desk}
use Rattle.sbp_target.specs.declared.purpose.Purpose.{Purpose}
use Rattle.sbp_target.specs.declared.purpose.Purpose.TheVariants as purposes
use Rattle.sbp_target.specs.Desks.{promoted_desk}
use Rattle.sbp_target.specs.Sending.{request_step}
use Rattle.sbp_target.specs.Nodes.{NodeState, Scene, scene, desk_at, with_desk, with_agent}
use Rattle.sbp_target.specs.Agents.{sent_to, disowned, without_ahead, dropped_by, promoted_by, noted, main_sent, ahead_sent, follow}
use Rattle.sbp_target.specs.Histories.Moves.{Behind, asks_ahead, asks_main, loses, stay}
use Rattle.sbp_target.proofs.Histories.Moved.{behind_moves}
use Rattle.sbp_target.proofs.Histories.Views.{kept}

pub record Keeps (P : NodeState → Type 0) : Type 0 where
  pub layers : (node : NodeState) (layer : Layer Purpose) → P node → P (record node { layer = layer })
  pub desks : (node : NodeState) (place : ℕ) (d : Desk) → d.is_enabled ≡ (desk_at node place).is_enabled → P node → P (with_desk node place d)

module _ (P : NodeState → Type 0) (k : Keeps P) where
  drops : (dead : Option FailCause) (place : ℕ) (node : NodeState) → P node → P (dropped_by dead place node)
  unfolding without_ahead
  drops None place node h = h
  drops (Some cause) place node h =
      let layer = disowned (desk_at node place).ahead node.layer in
      k.desks (record node { layer = layer }) place (record (desk_at node place) { ahead = None }) refl (k.layers node layer h)

  promotes : (b : Bool) (place : ℕ) (node : NodeState) → P node → P (promoted_by b place node)
  promotes false place node h = h
  promotes true place node h = k.desks node place (promoted_desk (desk_at node place)) refl h

  notes : (place : ℕ) (step : AgentStep) (s : Scene) → P s.node → P (noted place step s).node
  unfolding noted
  notes place step s h = promotes step.promoted place (dropped_by step.dead place s.node) (drops step.dead place s.node h)

  main_left : (place peer : ℕ) (node : NodeState) (r : Option LabelParts × (Layer Purpose × OutboxState)) → P node → P (main_sent place peer node r).1.node
  main_left place peer node (Some label, (layer, outbox)) h =
      k.desks (record node { layer = layer }) place (record (desk_at node place) { main = Some (sent_to peer label) }) refl (k.layers node layer h)
  main_left place peer node (None, (layer, outbox)) h = k.layers node layer h

  ahead_left : (place peer : ℕ) (node : NodeState) (r : Option LabelParts × (Layer Purpose × OutboxState)) → P node → P (ahead_sent place peer node r).1.node
  ahead_left place peer node (Some label, (layer, outbox)) h =
      k.desks (record node { layer = layer }) place (record (desk_at node place) { ahead = Some (sent_to peer label) }) refl (k.layers node layer h)
  ahead_left place peer node (None, (layer, outbox)) h = k.layers node layer h

  behind : (place : ℕ) (login : Login) (x y : Scene) → Behind place login x y → P x.node → P y.node
  behind place login _ _ (loses which s e) h =
      let r = lost_step (desk_at s.node place).agent which causes.Label in
      notes place r.0 (scene (with_agent s.node place r.1) s.outbox) (k.desks s.node place (record (desk_at s.node place) { agent = r.1 }) refl h)
  behind place login _ _ (asks_main ask b body s e) h = main_left place login.node s.node (request_step s.node.layer s.outbox login.node body (purposes.Agent place)) h
  behind place login _ _ (asks_ahead ask body s e) h = ahead_left place login.node s.node (request_step s.node.layer s.outbox login.node body (purposes.Agent place)) h

  pub follows_at : (place : ℕ) (login : Login) (step : AgentStep) (s : Scene) → P s.node → P (follow place login step s).node
  follows_at place login step s h =
      let t = noted place step s in
      kept (Behind place login) (λ s. P s.node) (behind place login) t _ (behind_moves (Behind place login) place login (λ x y m. m) t step s (stay t)) (notes place step s h)
