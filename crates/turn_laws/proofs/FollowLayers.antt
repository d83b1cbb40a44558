-- What is kept of a layer by giving transactions up and by asking the node of a login is kept by all that follows a step of the agent of that login.
use Rattle.std.proofs.Common.{ℕ, nat_lt, is_some, Bool, true, false, cond, Option, Some, None}
use Rattle.async_packet.specs.Labels.{LabelParts}
use Rattle.command_agent.specs.Machine.{is_under_way}
use Rattle.command_agent.specs.Steps.{lost_step}
use Rattle.command_agent.specs.declared.step.AgentStep.{AgentStep}
use Rattle.command_agent.specs.declared.step.Which.{Which}
use Rattle.command_agent.specs.declared.step.Which.TheVariants.{Ahead, Main}
use Rattle.label_table.specs.Bodies.{Body}
use Rattle.label_table.specs.Layer.{Layer, asking_step, disowning_step, free_labels}
use Rattle.label_table.specs.declared.judgement.Asked.{Asked}
use Rattle.login_table.specs.declared.login.Login.{Login}
use Rattle.orb_layout.specs.declared.ask.Ask.{Ask}
use Rattle.orb_layout.specs.declared.ask.FailCause.{FailCause}
use Rattle.orb_layout.specs.declared.ask.FailCause.TheVariants as causes
use Rattle.sbp_target.specs.Agents.{after_ahead, after_loss, after_main, agent_body, ahead_asked, ahead_sent, ask_main, disowned, dropped_by, follow, lose, lose_main, lost_by, main_asked, main_sent, noted, promoted_by, send_ahead, without_ahead}
use Rattle.sbp_target.specs.Nodes.{NodeState, Scene, desk_at, scene, with_agent}
use Rattle.sbp_target.specs.Sending.{request_step, sent_by}
use Rattle.sbp_target.specs.declared.purpose.Purpose.{Purpose}
use Rattle.sbp_target.specs.declared.purpose.Purpose.TheVariants as purposes
use Rattle.sbp_target.specs.declared.purpose.Sent.{Sent}

module _ (Z : Layer Purpose → Type 0) (place : ℕ) (login : Login) (asks : (layer : Layer Purpose) (body : Body) → Z layer → Z (asking_step layer login.node body (purposes.Agent place)).1) (disowns : (layer : Layer Purpose) (peer : ℕ) (label : LabelParts) → Z layer → Z (disowning_step layer peer label)) where
  abbrev On : Scene → Type 0
  On s = Z s.node.layer

  left : (sent : Option Sent) (layer : Layer Purpose) → Z layer → Z (disowned sent layer)
  left None layer h = h
  left (Some sent) layer h = disowns layer sent.peer sent.label h

  dropped : (dead : Option FailCause) (node : NodeState) → Z node.layer → Z (dropped_by dead place node).layer
  unfolding without_ahead
  dropped None node h = h
  dropped (Some cause) node h = left (desk_at node place).ahead node.layer h

  promotes : (b : Bool) (node : NodeState) → Z node.layer → Z (promoted_by b place node).layer
  promotes true node h = h
  promotes false node h = h

  notes : (step : AgentStep) (s : Scene) → On s → On (noted place step s)
  unfolding noted
  notes step s h = promotes step.promoted (dropped_by step.dead place s.node) (dropped step.dead s.node h)

  main_out : (s : Scene) (r : Option Asked × Layer Purpose) → Z r.1 → On (main_sent place login.node s.node (sent_by r s.outbox login.node)).1
  main_out s (Some asked, layer) h = h
  main_out s (None, layer) h = h

  main_by : (body : Option Body) (s : Scene) → On s → On (main_asked body place login s).1
  unfolding request_step
  main_by None s h = h
  main_by (Some body) s h = main_out s (asking_step s.node.layer login.node body (purposes.Agent place)) (asks s.node.layer body h)

  asks_main : (step : AgentStep) (s : Scene) → On s → On (ask_main place login step s).1
  unfolding ask_main
  asks_main step s h = main_by (agent_body step.ask (is_some step.ended) login.fifo (desk_at s.node place).agent.outgoing) s h

  lost_if : (b : Bool) (which : Which) (s : Scene) → On s → On (lost_by b place login which s).1
  lost_if false which s h = h
  lost_if true which s h =
      let l = lost_step (desk_at s.node place).agent which causes.Label in
      let t = scene (with_agent s.node place l.1) s.outbox in
      asks_main l.0 (noted place l.0 t) (notes l.0 t h)

  loses : (which : Which) (s : Scene) → On s → On (lose place login which s).1
  unfolding lose
  loses which s h = lost_if (is_under_way which (desk_at s.node place).agent) which s h

  ahead_out : (s : Scene) (r : Option Asked × Layer Purpose) → Z r.1 → On (ahead_sent place login.node s.node (sent_by r s.outbox login.node)).1
  ahead_out s (Some asked, layer) h = h
  ahead_out s (None, layer) h = h

  ahead_if : (b : Bool) (body : Body) (s : Scene) → On s → On (cond b (false, s) (ahead_sent place login.node s.node (request_step s.node.layer s.outbox login.node body (purposes.Agent place)))).1
  unfolding request_step
  ahead_if true body s h = h
  ahead_if false body s h = ahead_out s (asking_step s.node.layer login.node body (purposes.Agent place)) (asks s.node.layer body h)

  ahead_by : (body : Option Body) (s : Scene) → On s → On (ahead_asked body place login s).1
  ahead_by None s h = h
  ahead_by (Some body) s h = ahead_if (nat_lt (free_labels s.node.layer login.node) 16) body s h

  sends_ahead : (ask : Ask) (s : Scene) → On s → On (send_ahead place login ask s).1
  unfolding send_ahead
  sends_ahead ask s h = ahead_by (agent_body ask false login.fifo (desk_at s.node place).agent.outgoing) s h

  behind_ahead : (r : Bool × Scene) → On r.1 → On (after_ahead place login r)
  behind_ahead (true, s) h = h
  behind_ahead (false, s) h = loses Ahead s h

  behind_loss : (r : Bool × Scene) → On r.1 → On (after_loss place login r)
  behind_loss (true, s) h = h
  behind_loss (false, s) h = loses Main s h

  loses_main : (s : Scene) → On s → On (lose_main place login s)
  unfolding lose_main
  loses_main s h = behind_loss (lose place login Main s) (loses Main s h)

  behind_main : (step : AgentStep) (r : Bool × Scene) → On r.1 → On (after_main place login step r)
  behind_main step (true, s) h = behind_ahead (send_ahead place login step.ahead s) (sends_ahead step.ahead s h)
  behind_main step (false, s) h = loses_main s h

  pub follows : (step : AgentStep) (s : Scene) → On s → On (follow place login step s)
  unfolding follow
  follows step s h = let t = noted place step s in behind_main step (ask_main place login step t) (asks_main step t (notes step s h))
