-- Each call of a target changes its agents as its notes do: the agents of the terms that are a node's before a call are that node's after it, once the
-- first note of the turn, the sides that the call told and the packets that it gave were taken in, and the turn is over. What an agent waits for then is,
-- by its serial, the request that the node sent for it: one of before, or one that left in this call, under the label that the desk keeps.
use Rattle.std.specs.Prelude.{◌≡◌, ℕ, ◌<◌, Bool, true, false, List, [], length, map, slice_set, Option, Some, None, Result, Ok}
use Rattle.async_packet.specs.Labels.{LabelParts}
use Rattle.async_packet.specs.Packet.{Packet, header_in}
use Rattle.label_table.specs.declared.reply.Stale.{Stale}
use Rattle.label_table.specs.Layer.{Finding, of_request, of_response, expiring_step, judging_step, seeing_step}
use Rattle.login_table.specs.declared.login.Login.{Login}
use Rattle.mgmt_agent.specs.declared.decision.Effect.{Effect}
use Rattle.mgmt_agent.specs.declared.decision.Effect.TheVariants as effects
use Rattle.mgmt_agent.specs.Machine as manager
use Rattle.orb_layout.specs.Replies.{Answer, Expired}
use Rattle.rbc_disk.specs.Disk.{Disk}
use Rattle.rbc_disk.specs.Runs.{Told}
use Rattle.command_agent.specs.declared.step.Which.{Which}
use Rattle.command_agent.specs.Steps.{abort_step}
use Rattle.sbp_journal.specs.Outgoings.{empty_outbox}
use Rattle.sbp_laws.specs.Targets.{Agent, cut_agent, cut_where, on_unit, rings}
use Rattle.target_base.specs.declared.address.Access.{Access}
use Rattle.target_base.specs.declared.address.Access.TheVariants as accesses
use Rattle.target_base.specs.declared.address.Demand.{Demand}
use Rattle.target_base.specs.declared.address.Demand.TheVariants as demands
use Rattle.target_base.specs.Addresses.{demand_of}
use Rattle.sbp_target.specs.declared.purpose.Purpose.{Purpose}
use Rattle.sbp_target.specs.declared.purpose.Purpose.TheVariants as purposes
use Rattle.sbp_target.specs.Desks.{which_in}
use Rattle.sbp_target.specs.Nodes.{NodeState, Scene, desk_at, login_at, scene}
use Rattle.sbp_target.specs.Receiving.{TellsIn, answer_in, received, with_layer}
use Rattle.sbp_target.specs.Replies.{plain_in, served_login, whole}
use Rattle.sbp_target.specs.Serving.{is_barred}
use Rattle.sbp_target.specs.Calls.{Call, after, alone, lets_expire, sees, sets_key, ticks}
use Rattle.sbp_world.specs.Agents.Management.Offices.{Office}
use Rattle.sbp_world.specs.Agents.Management.Offices as office
use Rattle.sbp_world.specs.Agents.Management.Calls as management
use Rattle.sbp_world.specs.Agents.Crews.{IsOf, Request, ToldAlike, agent_in, answered, crew_over, crew_packets, crew_sides, pointed, with_requests}

-- the agents are those of a node that has sent these requests
pub record AreOf (requests : List Request) (agents : List Agent) (node : NodeState) : Type 0 where
  pub size : length agents ≡ 8
  pub each : (place : ℕ) → place < 8 → IsOf requests (agent_in agents place) (desk_at node place)

-- ---- what the first note of a turn does

abbrev pub changed : ℕ → (Agent → Agent) → List Agent → List Agent
changed place change agents = slice_set agents place (change (agent_in agents place))

-- a request
abbrev pub accessed : Access → (place : ℕ) → List Agent → List Agent
accessed accesses.Reset place agents = changed place cut_agent agents
accessed (accesses.Point pointer) place agents = changed place (pointed pointer) agents
accessed accesses.Ring place agents = changed place rings agents
accessed access place agents = agents

abbrev pub demanded : Demand → List Agent → List Agent
demanded (demands.Agent place access) agents = accessed access place agents
demanded demand agents = agents

abbrev pub requested : Bool → Packet → NodeState → List Agent → List Agent
requested true p node agents = agents
requested false p node agents = demanded (demand_of (length node.rom) p) agents

-- a reply, over the unit of the login of its place, with what was told of a run; or a time-out
abbrev pub replied : Option Told → (untold : Bool) → (place : ℕ) → Answer → NodeState → List Disk → Option Login → Option Which → List Agent → List Agent
replied told untold place answer node disks (Some login) (Some which) agents =
    changed place (answered told untold place (plain_in node.units disks login.unit) which answer) agents
replied told untold place answer node disks None which agents = agents
replied told untold place answer node disks (Some login) None agents = agents

-- what a decision does to the agents, over the logins before it
abbrev pub affected : Effect → Office → List Agent → List Agent
affected (effects.Left place) o agents = changed place cut_agent agents
affected (effects.Abort place orb) o agents = changed place (λ a. record a { machine = abort_step a.machine orb }) agents
affected (effects.AbortSet place) o agents = changed place cut_agent agents
affected (effects.UnitReset unit) o agents = cut_where (on_unit unit o.table.places) 0 agents
affected effects.TargetReset o agents = map cut_agent agents
affected effect o agents = agents

abbrev pub managed : Answer → Office → List Agent → List Agent
managed answer o agents = affected (manager.reply_step o.manager o.table o.keys answer).0.effect o agents

abbrev pub delivered : Option Told → (untold : Bool) → Finding Purpose → NodeState → List Disk → Office → List Agent → List Agent
delivered told untold (of_response p label (Some (purposes.Agent place))) node disks o agents =
    replied told untold place (answer_in p) node disks (served_login node place) (which_in (desk_at node place) (header_in p).source label) agents
delivered told untold (of_response p label (Some purposes.Management)) node disks o agents = managed (answer_in p) o agents
delivered told untold (of_request p) node disks o agents = requested (is_barred node p) p node agents
delivered told untold finding node disks o agents = agents

abbrev pub lapsed : Result (Option Purpose) Stale → (peer : ℕ) → LabelParts → NodeState → Office → List Agent → List Agent
lapsed (Ok (Some (purposes.Agent place))) peer label node o agents =
    replied None false place Expired node [] (login_at node place) (which_in (desk_at node place) peer label) agents
lapsed (Ok (Some purposes.Management)) peer label node o agents = managed Expired o agents
lapsed result peer label node o agents = agents

abbrev pub seen : Bool → List Agent → List Agent
seen true agents = map cut_agent agents
seen false agents = agents

-- the agents that were of a node are of the node of a scene, behind what was told and sent
abbrev pub Follow : List Request → Office → List Agent → Scene → Type 0
Follow requests o agents s =
    (last : ℕ) → AreOf (with_requests last s.outbox.packets requests) (crew_over (crew_packets last s.outbox.packets (crew_sides s.outbox.sides o agents))) s.node

-- ---- after every list of calls of a target that has a unit
pub record AgentsKeep (node : NodeState) (requests : List Request) (o : Office) (agents : List Agent) : Type 0 where
  pub deliveries : (term_told told : Option Told) (untold : Bool) (disks : List Disk) (generation : ℕ) (bytes before now : List ℕ) → ToldAlike untold term_told told → (let found = judging_step node.layer generation bytes in TellsIn told found.0 (with_layer found.1 (whole (scene node empty_outbox) disks)) before now → (let w = (received told generation bytes (whole (scene node empty_outbox) disks)).1 in Follow requests (management.delivered found.0 node o) (delivered term_told untold found.0 node disks o agents) (scene w.node w.outbox)))
  pub expiries : (peer : ℕ) (label : LabelParts) → (let r = (expiring_step node.layer peer label).0 in Follow requests (management.lapsed r o) (lapsed r peer label node o agents) (alone (lets_expire peer label) node))
  pub sights : (generation id : ℕ) → (let later = (seeing_step node.layer generation id).0 in Follow requests (management.seen later o) (seen later agents) (alone (sees generation id) node))
  pub seconds : Follow requests (office.ticked o) agents (alone ticks node)
  pub keys : (unit : ℕ) (key : List ℕ) → Follow requests (office.with_key unit key o) agents (alone (sets_key unit key) node)

abbrev pub AgentsLaw : Type 0
AgentsLaw =
    (units ready : ℕ) (calls : List Call) (requests : List Request) (o : Office) (agents : List Agent) → 0 < units → office.Agrees o (after units ready calls) → AreOf requests agents (after units ready calls) → AgentsKeep (after units ready calls) requests o agents
