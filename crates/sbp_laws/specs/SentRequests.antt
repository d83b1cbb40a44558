-- The sent law, of requests (NCITS 325-1998, agents). Behind its response a turn sends exactly the requests that an agent, the management
-- operation, a load, or an initiator's action or ROM read has in it and finds a label for, in this order, each to its node, with its address,
-- its length and its value.
use Rattle.std.specs.Prelude.{◌≡◌, ℕ, zero, suc, ◌+◌, Bool, true, false, List, [], ◌∷◌, ◌++◌, length, drop, Option, Some, None}
use Rattle.async_packet.specs.Canon.{canon}
use Rattle.rbc_disk.specs.Disk.{Disk}
use Rattle.label_table.specs.Bodies.{Body, block_write, request_with, header_to}
use Rattle.label_table.specs.Requests.{label_of}
use Rattle.sbp_journal.specs.Run.{Moment, asked, said}
use Rattle.sbp_journal.specs.Wire.{Terms, terms}
use Rattle.sbp_journal.specs.declared.event.Event.TheVariants as events
use Rattle.sbp_journal.specs.declared.note.Note.{Note}
use Rattle.sbp_journal.specs.declared.note.Note.TheVariants as notes
use Rattle.sbp_laws.specs.Turns.{Turn, effects_of, sends_of}
use Rattle.sbp_laws.specs.Deliveries.{once_told}
use Rattle.sbp_laws.specs.Packets.{packet_at, answered_at, answer_in, id_of, id_for, label_for, request_bytes, sender_in, receiver_in}
use Rattle.sbp_laws.specs.Hosts.{host_at}
use Rattle.sbp_laws.specs.Targets.{Target}
use Rattle.sbp_laws.specs.Agents.{Request, requests_to, AgentTurn, agent_turn, agent_event, agent_requests_for, target_before, wire_before, wire_after}
use Rattle.sbp_laws.specs.Management.{manager_requests}
use Rattle.sbp_laws.specs.MediaLaw.{push_requests, logins_told}
use Rattle.sbp_laws.specs.Operations.{next_read}
use Rattle.sbp_laws.specs.Actions.{refusal_at, action_body}
use Rattle.sbp_laws.specs.SentAnswers.{answer_due}

-- ---- requests
abbrev pub agent_requests : Target → Turn → Option AgentTurn → List Request
agent_requests target t None = []
agent_requests target t (Some a) = agent_requests_for target t a

-- the requests of the target in a turn, in their order: of an agent, of the management operation, and of unsolicited statuses
abbrev pub target_requests : List Disk → Turn → List Request
target_requests disks t =
    let target = target_before disks t in
    agent_requests target t (agent_turn (agent_event disks t) target (wire_before t) t.rest) ++ (manager_requests target t ++ push_requests target (wire_after t) (logins_told target t))

-- an initiator's: the next quadlet of a ROM, or that of its action
abbrev pub host_requests : Turn → (i serial : ℕ) → Option ℕ → List Request
host_requests t i serial None = []
host_requests t i serial (Some own) = next_read (host_at t.past i) own (answer_in (packet_at (terms t.past) serial))

abbrev pub unless_refused : Option ℕ → List Request → List Request
unless_refused None requests = requests
unless_refused (Some number) requests = []

-- the requests of a turn, and the node that makes them
pub record Asks : Type 0 where
  pub node : ℕ
  pub requests : List Request

abbrev pub asks : ℕ → List Request → Asks
asks node requests = record { node = node; requests = requests }

abbrev pub asks_at : List Disk → Turn → (serial : ℕ) → Option ℕ → Asks
asks_at disks t serial None = asks 0 []
asks_at disks t serial (Some zero) = asks 0 (target_requests disks t)
asks_at disks t serial (Some (suc i)) = asks (suc i) (host_requests t i serial (answered_at (terms t.past) serial))

abbrev pub expiring : List Disk → Turn → Option ℕ → Asks
expiring disks t (Some zero) = asks 0 (target_requests disks t)
expiring disks t _ = asks 0 []

abbrev pub asks_by : List Disk → Turn → Moment → Asks
asks_by disks t (said (notes.Got serial)) = asks_at disks t serial (receiver_in ((terms t.past).sent serial))
asks_by disks t (said (notes.TimedOut serial)) = expiring disks t (sender_in ((terms t.past).sent serial))
asks_by disks t (asked line (events.Act i action)) =
    asks (suc i) (unless_refused (refusal_at t.past i action) (requests_to 0 (action_body action t.past i (host_at t.past i))))
asks_by disks t moment = asks 0 []

-- A packet is this request of a node, by the terms where it stands: it has the next serial, goes in the node's generation to the node that is
-- asked, and is spelled canonically under the lowest label that serves it.
pub record IsRequest (wire : Terms) (node : ℕ) (want : Request) (body : Body) (serial generation from to : ℕ) (bytes : List ℕ) : Type 0 where
  pub number : serial ≡ wire.count + 1
  pub in_generation : generation ≡ wire.generation node
  pub sender : from ≡ node
  pub receiver : to ≡ want.to
  pub label : label_for wire node want.to (request_bytes wire node want.to body) ≡ Some (label_of bytes)
  pub spelled : bytes ≡ canon (request_with (header_to (id_of wire node) (id_for wire node want.to) (label_of bytes)) body)

-- a chunk of an answer that is not told: a write to this address of some bytes, so many
pub record IsChunk (wire : Terms) (node : ℕ) (want : Request) (offset count serial generation from to : ℕ) (bytes : List ℕ) : Type 0 where
  pub payload : List ℕ
  pub size : length payload ≡ count
  pub is : IsRequest wire node want (block_write offset payload) serial generation from to bytes

abbrev pub IsAsked : Bool → Body → Terms → (node : ℕ) → Request → (serial generation from to : ℕ) → List ℕ → Type 0
IsAsked true (block_write offset payload) wire node want serial generation from to bytes = IsChunk wire node want offset (length payload) serial generation from to bytes
IsAsked is_untold body wire node want serial generation from to bytes = IsRequest wire node want body serial generation from to bytes

-- the packets are these requests, one by one, behind what stands before the first
abbrev pub ArePackets : List Moment → (node : ℕ) → List Note → List Request → Type 0
ArePackets past node [] [] = Unit {0}
ArePackets past node (notes.Sent serial generation from to bytes ∷ rest) (want ∷ requests) =
    IsAsked want.is_untold want.body (terms past) node want serial generation from to bytes
    × ArePackets (said (notes.Sent serial generation from to bytes) ∷ past) node rest requests
ArePackets past node rest requests = ⊥

-- what stands before the requests of a turn: its effects and its response
abbrev pub before_requests : List Disk → Turn → List Moment
before_requests disks t = once_told (t.start ∷ t.past) (effects_of t.rest ++ answer_due disks t t.start)

-- the packets of a turn behind its response
abbrev pub behind_answer : List Disk → Turn → List Note
behind_answer disks t = drop (length (answer_due disks t t.start)) (sends_of t.rest)

-- An injected packet, and the answer to a packet that is ignored, are no requests of a node.
abbrev pub asks_nothing : Moment → Bool
asks_nothing (said (notes.Ignored serial cause)) = true
asks_nothing (asked line (events.Inject i bytes)) = true
asks_nothing moment = false

abbrev pub RequestsLaw : List Disk → Turn → Type 0
RequestsLaw disks t =
    asks_nothing t.start ≡ false →
    ArePackets (before_requests disks t) (asks_by disks t t.start).node (behind_answer disks t) (asks_by disks t t.start).requests
