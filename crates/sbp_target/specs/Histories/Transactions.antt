-- What is under way of a target (NCITS 325-1998, command block agents and management agent). After each call an agent that is
-- ACTIVE has one main transaction under way, to its login's node, and one read ahead at most. An agent in another state has none,
-- but for the write of the status block of the ORB that made it DEAD. A management operation has one transaction under way, to the
-- node that began it. Each label under way is for one of these, for an unsolicited status, or for nobody.
use Rattle.std.specs.Prelude.{◌≡◌, ◌≢◌, ◌⊎◌, ◌<◌, ℕ, List, Option, Some, None}
use Rattle.label_table.specs.declared.reply.ReplyKind.{ReplyKind}
use Rattle.label_table.specs.declared.place.LabelState.TheVariants as states
use Rattle.label_table.specs.Layer.{Layer}
use Rattle.label_table.specs.Peers.{state_for, purpose_for}
use Rattle.login_table.specs.declared.login.Login.{Login}
use Rattle.mgmt_agent.specs.Machine.{source_in}
use Rattle.command_agent.specs.declared.phase.Phase.TheVariants as phases
use Rattle.command_agent.specs.declared.step.AgentState.TheVariants as agents
use Rattle.command_agent.specs.Machine.{state_in}
use Rattle.sbp_target.specs.declared.purpose.Purpose.{Purpose}
use Rattle.sbp_target.specs.declared.purpose.Purpose.TheVariants as purposes
use Rattle.sbp_target.specs.declared.purpose.Sent.{Sent}
use Rattle.sbp_target.specs.Nodes.{NodeState, desk_at, login_at}
use Rattle.sbp_target.specs.Calls.{Call, after}

-- a transaction with a peer under a label is under way, for this or for nobody
pub record IsUnderWay (layer : Layer Purpose) (purpose : Option Purpose) (peer number : ℕ) : Type 0 where
  pub kind : ReplyKind
  pub serial : ℕ
  pub waits : state_for layer.peers peer number ≡ states.UnderWay kind serial
  pub is_for : purpose_for layer.peers peer number ≡ purpose

-- the one that is kept as this is under way for the agent of a place, to the node of the login there
pub record IsOwn (node : NodeState) (place : ℕ) (sent : Sent) : Type 0 where
  pub under_way : IsUnderWay node.layer (Some (purposes.Agent place)) sent.peer sent.label.number
  pub login : Login
  pub stands : login_at node place ≡ Some login
  pub to : sent.peer ≡ login.node

pub record HasMain (node : NodeState) (place : ℕ) : Type 0 where
  pub sent : Sent
  pub kept : (desk_at node place).main ≡ Some sent
  pub own : IsOwn node place sent

-- a label is that of a transaction that is kept
pub record IsThat (kept : Option Sent) (peer number : ℕ) : Type 0 where
  pub sent : Sent
  pub is : kept ≡ Some sent
  pub peer_is : sent.peer ≡ peer
  pub number_is : sent.label.number ≡ number

pub record AgentLaw (node : NodeState) (place : ℕ) : Type 0 where
  pub active : state_in (desk_at node place).agent.phase ≡ agents.Active → HasMain node place
  pub last : (desk_at node place).agent.phase ≡ phases.WritingLastStatus → HasMain node place
  pub others : state_in (desk_at node place).agent.phase ≢ agents.Active → (desk_at node place).agent.phase ≢ phases.WritingLastStatus → (desk_at node place).main ≡ None
  pub ahead : (sent : Sent) → (desk_at node place).ahead ≡ Some sent → IsOwn node place sent
  pub alone : state_in (desk_at node place).agent.phase ≢ agents.Active → (desk_at node place).ahead ≡ None
  pub no_more : (peer number : ℕ) → IsUnderWay node.layer (Some (purposes.Agent place)) peer number → IsThat (desk_at node place).main peer number ⊎ IsThat (desk_at node place).ahead peer number

-- the operation of a node has one, and there is no other
pub record HasOne (node : NodeState) (source : ℕ) : Type 0 where
  pub number : ℕ
  pub under_way : IsUnderWay node.layer (Some purposes.Management) source number
  pub only : (peer other : ℕ) → IsUnderWay node.layer (Some purposes.Management) peer other → (peer ≡ source) × (other ≡ number)

pub record TransactionLaw (node : NodeState) : Type 0 where
  pub agents_have : (place : ℕ) → place < 8 → AgentLaw node place
  pub operation_has : (source : ℕ) → source_in node.manager.operation ≡ Some source → HasOne node source
  pub none_has : source_in node.manager.operation ≡ None → (peer number : ℕ) → IsUnderWay node.layer (Some purposes.Management) peer number → ⊥
  pub places : (place peer number : ℕ) → IsUnderWay node.layer (Some (purposes.Agent place)) peer number → place < 8

-- after every list of calls of a target that has a unit
abbrev pub UnderWayLaw : Type 0
UnderWayLaw = (units ready : ℕ) (calls : List Call) → 0 < units → TransactionLaw (after units ready calls)
