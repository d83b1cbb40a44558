-- How the target looks for labels in a call, where a read finds one behind fewer than 20 requests to the initiator (NCITS 325-1998, command block agents and
-- management agent): what follows a step of an agent is that its main request leaves, and then its read ahead, and no transaction is lost for want of a label;
-- and what the operation asks for leaves.
use Rattle.std.specs.Prelude.{◌≡◌, ◌≤◌, ◌<◌, ℕ, is_some, true, length, Option, Some, None}
use Rattle.label_table.specs.Bodies.{Body, block_read, quadlet_read}
use Rattle.label_table.specs.Layer.{Layer}
use Rattle.login_table.specs.declared.login.Login.{Login}
use Rattle.orb_layout.specs.declared.ask.Ask.{Ask}
use Rattle.orb_layout.specs.declared.ask.Ask.TheVariants as asks
use Rattle.command_agent.specs.declared.step.AgentStep.{AgentStep}
use Rattle.sbp_target.specs.declared.purpose.Purpose.{Purpose}
use Rattle.sbp_target.specs.declared.purpose.Purpose.TheVariants as purposes
use Rattle.sbp_target.specs.Agents.{agent_body, ask_main, follow, noted, send_ahead}
use Rattle.sbp_target.specs.Histories.Moves.{sending}
use Rattle.sbp_target.specs.Management.{ask_manager, manager_body}
use Rattle.sbp_target.specs.Nodes.{Scene, desk_at}
use Rattle.sbp_world.specs.Completing.LabelsFound.{Behind, FindsLabels, Serves}

-- what is asked for finds a label: nothing, a read, or a request other than the last one under some free label
pub data MayAsk (layer : Layer Purpose) (peer : ℕ) : Option Body → Type 0 where
  nothing : MayAsk layer peer None
  read : (offset len : ℕ) → MayAsk layer peer (Some (block_read offset len))
  quadlet : (offset : ℕ) → MayAsk layer peer (Some (quadlet_read offset))
  other : (body : Body) → Serves layer peer body → MayAsk layer peer (Some body)

-- no write is asked for
abbrev pub IsNoWrite : Ask → Type 0
IsNoWrite (asks.Write offset len) = ⊥
IsNoWrite ask = Unit {0}

-- ---- a step of the agent of a place, which does not make it dead, behind so many requests to the node of its login
pub record StepsOn (first : Layer Purpose) (made place : ℕ) (login : Login) (step : AgentStep) (s : Scene) : Type 0 where
  pub there : place < length s.node.desks
  pub behind : Behind first login.node made s.node.layer
  pub few : made ≤ 3
  pub alive : step.dead ≡ None
  pub asks : MayAsk s.node.layer login.node (agent_body step.ask (is_some step.ended) login.fifo (desk_at s.node place).agent.outgoing)
  pub ahead : IsNoWrite step.ahead

-- its main request leaves, and its read ahead, and that is all that follows
pub record Follows (place : ℕ) (login : Login) (step : AgentStep) (s : Scene) : Type 0 where
  pub main : (ask_main place login step (noted place step s)).0 ≡ true
  pub ahead : (send_ahead place login step.ahead (ask_main place login step (noted place step s)).1).0 ≡ true
  pub is : follow place login step s ≡ (send_ahead place login step.ahead (ask_main place login step (noted place step s)).1).1

abbrev pub AgentsFind : Layer Purpose → (peer : ℕ) → Type 0
AgentsFind first peer = (made place : ℕ) (login : Login) (step : AgentStep) (s : Scene) → login.node ≡ peer → StepsOn first made place login step s → Follows place login step s

-- ---- what the operation asks for
pub record OperationAsks (first : Layer Purpose) (made source : ℕ) (ask : Ask) (body : Body) (s : Scene) : Type 0 where
  pub behind : Behind first source made s.node.layer
  pub few : made < 20
  pub body_is : manager_body ask s.node.manager.outgoing ≡ Some body
  pub asks : MayAsk s.node.layer source (Some body)

abbrev pub OperationFinds : Layer Purpose → (peer : ℕ) → Type 0
OperationFinds first peer = (made : ℕ) (ask : Ask) (body : Body) (s : Scene) → OperationAsks first made peer ask body s → ask_manager peer ask s ≡ sending peer body purposes.Management s

pub record AskedLaw : Type 0 where
  pub agents : (first : Layer Purpose) (peer : ℕ) → FindsLabels first peer → AgentsFind first peer
  pub operation : (first : Layer Purpose) (peer : ℕ) → FindsLabels first peer → OperationFinds first peer
