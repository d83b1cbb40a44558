-- What the target writes into the response buffers of an initiator (NCITS 325-1998, login response and query response), where no initiator injected packets: the responses
-- of the operations of the target for it alone. While such a response waits to be judged, the target has not gone on to the status of an operation of that initiator,
-- and no status block waits for it: so once the status waits, its response stands in the buffer.
use Rattle.std.specs.Prelude.{◌≡◌, ◌≤◌, ℕ, zero, suc, true, false, Bool, List, ◌∷◌, Some}
use Rattle.bus_memory.specs.declared.window.Window.TheVariants as windows
use Rattle.bus_memory.specs.Windows.{window_at}
use Rattle.mgmt_agent.specs.declared.operation.Operation.{Operation}
use Rattle.mgmt_agent.specs.declared.operation.Phase.{Phase}
use Rattle.mgmt_agent.specs.declared.operation.Phase.TheVariants as phases
use Rattle.rbc_disk.specs.Disk.{Disk}
use Rattle.sbp_journal.specs.Addresses.{Access}
use Rattle.sbp_journal.specs.Run.{Moment, said}
use Rattle.sbp_journal.specs.Transactions.{Sending, part_of, request, writing}
use Rattle.sbp_journal.specs.Wire.{terms}
use Rattle.sbp_journal.specs.declared.note.Note.TheVariants as notes
use Rattle.sbp_laws.specs.Packets.{access_in_bytes, id_for}
use Rattle.sbp_laws.specs.Targets.{target_at}
use Rattle.sbp_world.specs.Lists.ManagedFor.{is_its_packet, managed_for}
use Rattle.sbp_world.specs.Lists.Managing.{IsTelling}
use Rattle.sbp_world.specs.Lists.Tellings.{IsTaken}

abbrev pub is_responding : Phase → Bool
is_responding (phases.Response fifo) = true
is_responding phase = false

-- ---- what is written into a response buffer

-- a write there
pub record IsBufferWrite (bytes : List ℕ) : Type 0 where
  pub access : Access
  pub is : access_in_bytes bytes ≡ Some access
  pub writes : access.is_write ≡ true
  pub place : ℕ
  pub goes : window_at access.offset ≡ Some (windows.Response place)

-- it is the packet of an operation of the target for the node, which responds with it
pub record IsResponseOf (start : List Disk) (past : List Moment) (i serial generation to : ℕ) (bytes : List ℕ) : Type 0 where
  pub its : is_its_packet (target_at start past) (target_at start (said (notes.Sent serial generation zero to bytes) ∷ past)) serial ≡ true
  pub op : Operation
  pub operation : (target_at start past).manager.operation ≡ Some op
  pub responds : is_responding op.phase ≡ true
  pub source : op.source ≡ (terms past).ids generation (suc i)

-- each one that is sent to initiator i, while that has seen no later generation
abbrev pub BufferSo : List Disk → ℕ → Moment → List Moment → Type 0
BufferSo start i (said (notes.Sent serial generation zero to bytes)) past = to ≡ suc i → (terms past).generation (suc i) ≤ generation → IsBufferWrite bytes → IsResponseOf start past i serial generation to bytes
BufferSo start i moment past = Unit {0}

-- ---- a response that waits to be judged

pub record IsReplying (start : List Disk) (past : List Moment) (i serial : ℕ) : Type 0 where
  pub packet : Sending
  pub sent : (terms past).sent serial ≡ Some packet
  pub current : packet.generation ≡ (terms past).generation (suc i)
  pub op : Operation
  pub is_for : managed_for start past serial ≡ Some op
  pub responds : is_responding op.phase ≡ true
  pub source : op.source ≡ (terms past).ids packet.generation (suc i)
  pub label : ℕ
  pub part : part_of packet.bytes ≡ request label writing
  pub unjudged : (terms past).news serial ≡ 0

-- what is so while one waits: it is of the operation that the initiator has under way, and was taken; no status block waits; and an operation of the target for the
-- node, in one generation, responds and waits for the answer to this response
pub record IsReplied (start : List Disk) (past : List Moment) (i serial : ℕ) : Type 0 where
  pub taken : IsTaken start past i
  pub silent : (other place : ℕ) → IsTelling start past i other place → ⊥
  pub waits : (op : Operation) → (target_at start past).manager.operation ≡ Some op → (terms past).generation 0 ≡ (terms past).generation (suc i) → op.source ≡ id_for (terms past) 0 (suc i) → (is_responding op.phase ≡ true) × ((target_at start past).manages ≡ Some serial)

abbrev pub AreReplied : List Disk → List Moment → ℕ → Type 0
AreReplied start past i = (serial : ℕ) → IsReplying start past i serial → IsReplied start past i serial
