-- A run at rest (IEEE 1394-1995, transactions and bus reset; NCITS 325-1998, command block agents and management agent). Where every node has seen the latest reset, nothing was lost since, and
-- nothing is in flight, no request is under way, of any node. So each agent is in RESET, SUSPENDED or DEAD, with no transaction; the target has no management operation; and no initiator waits for
-- a response: to a write of MANAGEMENT_AGENT or of an agent's register, to a read of the ROM or of AGENT_STATE. So it is by the terms, and in the nodes.
use Rattle.std.specs.Prelude.{◌≡◌, ◌<◌, ℕ, Bool, true, false, List, length, None}
use Rattle.command_agent.specs.declared.phase.Phase.{Phase}
use Rattle.command_agent.specs.declared.phase.Phase.TheVariants as phases
use Rattle.label_table.specs.declared.place.LabelState.TheVariants as states
use Rattle.label_table.specs.declared.reply.ReplyKind.{ReplyKind}
use Rattle.label_table.specs.Peers.{state_for}
use Rattle.rbc_disk.specs.Disk.{Disk}
use Rattle.sbp_initiator.specs.declared.state.InitiatorState.{InitiatorState}
use Rattle.sbp_journal.specs.Run.{Moment}
use Rattle.sbp_journal.specs.Wire.{terms}
use Rattle.sbp_laws.specs.Budget.{Lossless}
use Rattle.sbp_laws.specs.Completion.{in_the_air}
use Rattle.sbp_laws.specs.Packets.{is_under_way}
use Rattle.sbp_laws.specs.Targets.{Agent, agent_at, over, target_at}
use Rattle.sbp_target.specs.declared.desk.Desk.{Desk}
use Rattle.sbp_target.specs.Nodes.{NodeState, desk_at}
use Rattle.sbp_world.specs.Completing.Labels.{AlwaysFrom}
use Rattle.sbp_world.specs.Worlds.{WorldState, initiator_at}

-- ---- an agent
-- in RESET, SUSPENDED or DEAD, with no status to write any more
abbrev pub is_resting : Phase → Bool
is_resting phases.Reset = true
is_resting phases.Suspended = true
is_resting phases.Dead = true
is_resting _ = false

-- one of the target
pub record DeskRests (desk : Desk) : Type 0 where
  pub phase : is_resting desk.agent.phase ≡ true
  pub main : desk.main ≡ None
  pub ahead : desk.ahead ≡ None

-- one by the terms
pub record AgentRests (agent : Agent) : Type 0 where
  pub phase : is_resting agent.machine.phase ≡ true
  pub main : agent.main ≡ None
  pub ahead : agent.ahead ≡ None

-- ---- the nodes
pub record TargetRests (node : NodeState) : Type 0 where
  pub desks : (place : ℕ) → place < 8 → DeskRests (desk_at node place)
  pub operation : node.manager.operation ≡ None

-- an initiator has no transaction under way, whatever for
abbrev pub InitiatorRests : InitiatorState → Type 0
InitiatorRests s = (peer number serial : ℕ) (kind : ReplyKind) → state_for s.layer.peers peer number ≡ states.UnderWay kind serial → ⊥

-- ---- and by the terms
pub record TermsRest (start : List Disk) (past : List Moment) : Type 0 where
  pub requests : (serial : ℕ) → is_under_way (terms past) serial ≡ false
  pub agents : (place : ℕ) → place < 8 → AgentRests (agent_at (over (target_at start past)) place)
  pub operation : (target_at start past).manager.operation ≡ None
  pub manages : (target_at start past).manages ≡ None

pub record IsAtRest (start : List Disk) (past : List Moment) (w : WorldState) : Type 0 where
  pub by_terms : TermsRest start past
  pub target : TargetRests w.target
  pub initiators : (i : ℕ) → i < length w.initiators → InitiatorRests (initiator_at w i)

-- ---- of every run
-- where a run is without loss, and nothing is in flight
abbrev pub WhereStill : (List Disk → List Moment → WorldState → Type 0) → List Disk → List Moment → WorldState → Type 0
WhereStill Q start past w = Lossless past → in_the_air past ≡ 0 → Q start past w

abbrev pub RestLaw : Type 0
RestLaw = AlwaysFrom (WhereStill IsAtRest)
