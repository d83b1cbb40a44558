-- A write that follows a response finds a label (IEEE 1394-1995, transaction layer; NCITS 325-1998, command block agents): that of the request which was
-- answered, where this was another write, or a read. So it is of a write that an agent asks for behind a reply to its main transaction.
use Rattle.std.specs.Prelude.{◌≡◌, ◌≤◌, if◌then◌else◌, is_some, ℕ, Bool, List, length, Option, Some, None}
use Rattle.async_packet.specs.Packet.{Packet, header_in}
use Rattle.bus_transactions.specs.Fitting.{FitsRequest}
use Rattle.label_table.specs.Bodies.{block_write}
use Rattle.label_table.specs.declared.reply.ReplyKind.TheVariants as kinds
use Rattle.label_table.specs.Layer.{judging_step}
use Rattle.label_table.specs.Requests.{reply_kind}
use Rattle.login_table.specs.declared.login.Login.{Login}
use Rattle.orb_layout.specs.declared.ask.Ask.{Ask}
use Rattle.orb_layout.specs.declared.ask.Ask.TheVariants.{Write}
use Rattle.orb_layout.specs.Replies.{Answer}
use Rattle.packet_store.specs.declared.sent.Sent.{Sent}
use Rattle.rbc_disk.specs.Runs.{Told}
use Rattle.rbc_disk.specs.Units.{PlainDisk}
use Rattle.command_agent.specs.declared.phase.Phase.TheVariants as phases
use Rattle.command_agent.specs.declared.step.AgentStep.{AgentStep}
use Rattle.command_agent.specs.declared.step.Which.TheVariants.{Main}
use Rattle.command_agent.specs.Machine.{Machine}
use Rattle.command_agent.specs.Steps.{reply_step}
use Rattle.command_agent.specs.Tasks.{writes_status}
use Rattle.agent_laws.specs.Along.Requests.{main_under}
use Rattle.sbp_journal.specs.Run.{Moment}
use Rattle.sbp_journal.specs.Transactions.{Kind}
use Rattle.sbp_journal.specs.Wire.{terms, waits}
use Rattle.sbp_laws.specs.Packets.{access_at, id_for, to_peer}
use Rattle.sbp_target.specs.Nodes.{login_at}
use Rattle.sbp_world.specs.Worlds.{WorldState}
use Rattle.sbp_world.specs.Agents.AskedRuns.{write_access}
use Rattle.sbp_world.specs.Completing.LabelsFound.{IsResponse, Serves}
use Rattle.sbp_world.specs.Counting.Brings.{IsMainReply}
use Rattle.sbp_world.specs.Lists.Closes.{Always}
use Rattle.sbp_world.specs.Lists.Needs.{machine_at}
use Rattle.sbp_world.specs.Lists.OwnLogins.{IsTame}

-- ---- a response
-- a packet answers the request to a node with a serial
pub record IsAnswering (past : List Moment) (w : WorldState) (generation : ℕ) (bytes : List ℕ) (p : Packet) (node serial : ℕ) : Type 0 where
  pub inside : node ≤ length w.initiators
  pub response_is : IsResponse w generation bytes p (id_for (terms past) 0 node)
  pub kind : Kind
  pub waited : (terms past).held (to_peer (terms past) 0 node (header_in p).label) ≡ waits kind serial

-- a request is no write of these bytes at this address
abbrev pub IsOther : List Moment → (serial offset : ℕ) → List ℕ → Type 0
IsOther past serial offset payload = access_at (terms past) serial ≡ Some (write_access offset payload) → ⊥

-- then that write finds a label
abbrev pub AreServed : List Moment → WorldState → Type 0
AreServed past w = (generation : ℕ) (bytes : List ℕ) (p : Packet) (node serial : ℕ) → IsAnswering past w generation bytes p node serial → (offset : ℕ) (payload : List ℕ) → FitsRequest (block_write offset payload) → IsOther past serial offset payload
    → Serves (judging_step w.target.layer generation bytes).1 (id_for (terms past) 0 node) (block_write offset payload)

abbrev pub ServedLaw : Type 0
ServedLaw = Always AreServed

-- so does each write where a read was answered
abbrev pub IsReadAnswer : Packet → Type 0
IsReadAnswer p = reply_kind p ≡ Some kinds.Write → ⊥

abbrev pub ReadsServe : List Moment → WorldState → Type 0
ReadsServe past w = (generation : ℕ) (bytes : List ℕ) (p : Packet) (node : ℕ) → node ≤ length w.initiators → IsResponse w generation bytes p (id_for (terms past) 0 node) → IsReadAnswer p → (offset : ℕ) (payload : List ℕ) → FitsRequest (block_write offset payload)
    → Serves (judging_step w.target.layer generation bytes).1 (id_for (terms past) 0 node) (block_write offset payload)

abbrev pub ReadsLaw : Type 0
ReadsLaw = Always ReadsServe

-- ---- a reply to an agent
-- what is under way is no write of these bytes at this address
abbrev pub IsOtherThan : Ask → (is_status : Bool) → (fifo : ℕ) → (outgoing : List ℕ) → (offset : ℕ) → List ℕ → Type 0
IsOtherThan (Write at size) is_status fifo outgoing offset payload = (if is_status then fifo else at) ≡ offset → outgoing ≡ payload → ⊥
IsOtherThan ask is_status fifo outgoing offset payload = Unit {0}

-- so it is of the main transaction of an agent
abbrev pub IsNext : Machine → Login → (offset : ℕ) → List ℕ → Type 0
IsNext m login offset payload = IsOtherThan (main_under m) (writes_status m.phase) login.fifo m.outgoing offset payload

-- the reply comes from the node of the login, and such a write to it finds a label
pub record FollowsReply (w : WorldState) (sent : Sent) (packet : Packet) (place : ℕ) (login : Login) : Type 0 where
  pub source : (header_in packet).source ≡ login.node
  pub serves : (offset : ℕ) (payload : List ℕ) → FitsRequest (block_write offset payload) → IsNext (machine_at w place) login offset payload → Serves (judging_step w.target.layer sent.generation sent.bytes).1 login.node (block_write offset payload)

abbrev pub AllFollow : List Moment → WorldState → Type 0
AllFollow past w = (sent : Sent) (packet : Packet) (place : ℕ) (login : Login) → IsMainReply w sent packet place → login_at w.target place ≡ Some login → FollowsReply w sent packet place login

abbrev pub FollowingLaw : Type 0
FollowingLaw = Always AllFollow

-- ---- behind a reply to a write of data
-- what an agent asks to write with a step is another write than its main transaction: a status block goes to the FIFO of the login
abbrev pub AsksForOther : Machine → Login → AgentStep × Machine → Type 0
AsksForOther m login s = (offset size : ℕ) → s.0.ask ≡ Write offset size → IsNext m login (if is_some s.0.ended then login.fifo else offset) s.1.outgoing

-- so it is of the next chunk of an answer, and of the status block behind the last one
abbrev pub ChunksDiffer : List Moment → WorldState → Type 0
ChunksDiffer past w = IsTame past → (sent : Sent) (packet : Packet) (place : ℕ) (login : Login) → IsMainReply w sent packet place → login_at w.target place ≡ Some login → (machine_at w place).phase ≡ phases.Answering → (plain : PlainDisk) (told : Option Told) (answer : Answer)
    → AsksForOther (machine_at w place) login (reply_step (machine_at w place) place plain told Main answer)

abbrev pub ChunksLaw : Type 0
ChunksLaw = Always ChunksDiffer

-- ---- behind a reply to a write of a status block
-- what an agent asks to write then is another write, unless it is a status block too
abbrev pub DataDiffer : List Moment → WorldState → Type 0
DataDiffer past w = IsTame past → (sent : Sent) (packet : Packet) (place : ℕ) (login : Login) → IsMainReply w sent packet place → login_at w.target place ≡ Some login → (machine_at w place).phase ≡ phases.WritingStatus → (plain : PlainDisk) (told : Option Told) (answer : Answer)
    → (let s = reply_step (machine_at w place) place plain told Main answer in s.0.ended ≡ None → AsksForOther (machine_at w place) login s)

abbrev pub DataLaw : Type 0
DataLaw = Always DataDiffer

-- A status block too is another one: it names the next ORB, which stands in another slot.
abbrev pub StatusesDiffer : List Moment → WorldState → Type 0
StatusesDiffer past w = IsTame past → (sent : Sent) (packet : Packet) (place : ℕ) (login : Login) → IsMainReply w sent packet place → login_at w.target place ≡ Some login → (machine_at w place).phase ≡ phases.WritingStatus → (plain : PlainDisk) (told : Option Told) (answer : Answer)
    → AsksForOther (machine_at w place) login (reply_step (machine_at w place) place plain told Main answer)

abbrev pub StatusesLaw : Type 0
StatusesLaw = Always StatusesDiffer

-- ---- behind a reply
-- so each write that an agent asks for finds a label to the node of its login: the write of a status block goes to its FIFO
abbrev pub FindsNext : List Moment → WorldState → Type 0
FindsNext past w = IsTame past → (sent : Sent) (packet : Packet) (place : ℕ) (login : Login) → IsMainReply w sent packet place → login_at w.target place ≡ Some login → (plain : PlainDisk) (told : Option Told) (answer : Answer) (offset size : ℕ)
    → (let s = reply_step (machine_at w place) place plain told Main answer in let body = block_write (if is_some s.0.ended then login.fifo else offset) s.1.outgoing in s.0.ask ≡ Write offset size → FitsRequest body → Serves (judging_step w.target.layer sent.generation sent.bytes).1 login.node body)

abbrev pub NextLaw : Type 0
NextLaw = Always FindsNext
