-- What a turn makes of the agents of the terms (NCITS 325-1998, command block agents): what is told beside its packets, and then its packets, one
-- after the other; then it is over.
use Rattle.std.specs.Prelude.{◌≡◌, ◌⊎◌, ℕ, ◌+◌, Bool, if◌then◌else◌, List, [], ◌∷◌, map, position, is_none, is_some, slice_set, slice_index_or, Option, Some, None}
use Rattle.async_packet.specs.Labels.{LabelParts}
use Rattle.label_table.specs.Requests.{is_write}
use Rattle.orb_layout.specs.declared.ask.Ask.TheVariants.{Nothing}
use Rattle.orb_layout.specs.declared.ask.FailCause.TheVariants as causes
use Rattle.orb_layout.specs.declared.pointer.OrbPointer.{OrbPointer}
use Rattle.orb_layout.specs.declared.pointer.OrbPointer.TheVariants.{At, Null}
use Rattle.orb_layout.specs.Replies.{Answer}
use Rattle.rbc_disk.specs.Runs.{Told}
use Rattle.rbc_disk.specs.Units.{PlainDisk}
use Rattle.command_agent.specs.declared.step.Which.{Which}
use Rattle.command_agent.specs.Steps.{point_step, reply_step, told_or}
use Rattle.sbp_bus.specs.Words.{function_word, login_if}
use Rattle.sbp_journal.specs.declared.operation.FunctionWord.{FunctionWord}
use Rattle.sbp_journal.specs.declared.operation.FunctionWord.TheVariants as functions
use Rattle.sbp_journal.specs.declared.outbox.Outgoing.{Outgoing}
use Rattle.sbp_journal.specs.declared.side.Side.{Side}
use Rattle.sbp_journal.specs.declared.side.Side.TheVariants as sides
use Rattle.sbp_laws.specs.Targets.{Agent, Decided, agent_over, closed, main_lost, moved, new_agent, pointed_by, sends_of, wants_it}
use Rattle.sbp_target.specs.declared.desk.Desk.{Desk}
use Rattle.sbp_target.specs.declared.purpose.Sent.{Sent}
use Rattle.sbp_world.specs.Agents.Management.Offices.{Office}
use Rattle.sbp_world.specs.Agents.Management.Offices as office
use Rattle.sbp_world.specs.Agents.Alike.{Alike, TellsAlike}

-- ---- an agent by itself

-- an agent that asks for something loses it where one is told to be dead for want of a label
abbrev pub by_side : Side → Agent → Agent
by_side (sides.Dead place causes.Label) a = main_lost a
by_side side a = a

abbrev pub by_sides : List Side → Agent → Agent
by_sides [] a = a
by_sides (side ∷ later) a = by_sides later (by_side side a)

-- a packet under a label is a request: the agent's, where it wants it
abbrev pub by_packet : Option LabelParts → (writes : Bool) → (serial : ℕ) → Agent → Agent
by_packet None writes serial a = a
by_packet (Some label) writes serial a = sends_of writes serial a

-- packets are numbered in their order, behind the last one
abbrev pub by_packets : (last : ℕ) → List Outgoing → Agent → Agent
by_packets last [] a = a
by_packets last (packet ∷ later) a = by_packets (last + 1) later (by_packet packet.label (is_write packet.bytes) (last + 1) a)

-- ---- the agents of all places

abbrev pub agent_in : List Agent → ℕ → Agent
agent_in agents place = slice_index_or agents place new_agent

-- a login that is entered brings a new agent into the lowest empty place
abbrev pub hired_in : Option ℕ → Option Decided → List Agent → List Agent
hired_in None decided agents = agents
hired_in (Some place) None agents = agents
hired_in (Some place) (Some decided) agents = slice_set agents place new_agent

abbrev pub hired_by : Option ℕ → Office → List Agent → List Agent
hired_by None o agents = agents
hired_by (Some id) o agents = hired_in (position is_none o.table.places) o.decided agents

abbrev pub hired : FunctionWord → Option ℕ → Office → List Agent → List Agent
hired functions.Login login o agents = hired_by login o agents
hired word login o agents = agents

abbrev pub crew_side : Side → Office → List Agent → List Agent
crew_side (sides.Dead place causes.Label) o agents = map main_lost agents
crew_side (sides.Managed node function subject status login) o agents = hired (function_word function) (login_if (function_word function) status login) o agents
crew_side side o agents = agents

-- the table of logins goes on beside them
abbrev pub crew_sides : List Side → Office → List Agent → List Agent
crew_sides [] o agents = agents
crew_sides (side ∷ later) o agents = crew_sides later (office.by_side side o) (crew_side side o agents)

abbrev pub sent_among : Option ℕ → (writes : Bool) → (serial : ℕ) → List Agent → List Agent
sent_among None writes serial agents = agents
sent_among (Some place) writes serial agents = slice_set agents place (sends_of writes serial (agent_in agents place))

abbrev pub crew_packet : Option LabelParts → (writes : Bool) → (serial : ℕ) → List Agent → List Agent
crew_packet None writes serial agents = agents
crew_packet (Some label) writes serial agents = sent_among (position (wants_it writes) agents) writes serial agents

abbrev pub crew_packets : (last : ℕ) → List Outgoing → List Agent → List Agent
crew_packets last [] agents = agents
crew_packets last (packet ∷ later) agents = crew_packets (last + 1) later (crew_packet packet.label (is_write packet.bytes) (last + 1) agents)

abbrev pub crew_over : List Agent → List Agent
crew_over agents = map agent_over agents

-- ---- the requests that a target has sent, the latest one first

-- to the node of an ID, under a label, with a serial
pub record Request : Type 0 where
  pub to : ℕ
  pub label : LabelParts
  pub serial : ℕ

abbrev pub Has : List Request → Request → Type 0
Has [] request = ⊥
Has (latest ∷ before) request = (latest ≡ request) ⊎ Has before request

abbrev pub with_request : (to : ℕ) → Option LabelParts → (serial : ℕ) → List Request → List Request
with_request to None serial requests = requests
with_request to (Some label) serial requests = record { to = to; label = label; serial = serial } ∷ requests

abbrev pub with_requests : (last : ℕ) → List Outgoing → List Request → List Request
with_requests last [] requests = requests
with_requests last (packet ∷ later) requests = with_requests (last + 1) later (with_request packet.to packet.label (last + 1) requests)

-- what a desk keeps of a transaction and what the terms have of it are of one of them
abbrev pub AreOne : List Request → Option Sent → Option ℕ → Type 0
AreOne requests (Some sent) (Some serial) = Has requests (record { to = sent.peer; label = sent.label; serial = serial })
AreOne requests sent serial = Unit {0}

-- ---- the agents are those of a node

-- Nothing is asked for; the machine is the desk's but for what its phase reads no more; it has the desk's pointer, and a transaction under way
-- exactly where the desk has one: the serial is that of the request that was sent for it.
pub record IsOf (requests : List Request) (a : Agent) (desk : Desk) : Type 0 where
  pub machine : Alike a.untold a.machine desk.agent
  pub pointer : a.pointer ≡ desk.pointer
  pub main : is_some a.main ≡ is_some desk.main
  pub ahead : is_some a.ahead ≡ is_some desk.ahead
  pub main_is : AreOne requests desk.main a.main
  pub ahead_is : AreOne requests desk.ahead a.ahead
  pub asks : a.asks ≡ Nothing
  pub asks_ahead : a.asks_ahead ≡ Nothing

-- ---- the first note of a turn, to one agent

-- What was told of a run is of one kind with what the node was told: of a run or of none, of one outcome and as many bytes, and of the same bytes
-- where they are told.
pub record ToldAlike (untold : Bool) (a m : Option Told) : Type 0 where
  pub both : is_some a ≡ is_some m
  pub alike : TellsAlike untold (told_or a) (told_or m)

-- a reply to its main transaction or its read ahead, over its unit
abbrev pub answered : Option Told → (untold : Bool) → (place : ℕ) → PlainDisk → Which → Answer → Agent → Agent
answered told untold place plain which answer a =
    moved (reply_step a.machine place plain told which answer) (closed which (record a { untold = if is_some told then untold else a.untold }))

-- ORB_POINTER
abbrev pub address : OrbPointer → ℕ
address Null = 0
address (At offset) = offset

abbrev pub pointed : OrbPointer → Agent → Agent
pointed pointer a = pointed_by (point_step a.machine pointer) (address pointer) a
