-- The state of a command agent, and what is read off it (NCITS 325-1998, command block agents).
use Rattle.std.specs.Prelude.{◌≡◌, ℕ, ◌+◌, ◌-◌, ◌%◌, ◌^◌, ◌≤◌, min, replicate, Bool, true, false, if◌then◌else◌, List, [], length, Option, Some, None}
use Rattle.orb_layout.specs.declared.command.CommandOrb.{CommandOrb}
use Rattle.orb_layout.specs.declared.pointer.OrbPointer.{OrbPointer}
use Rattle.orb_layout.specs.declared.pointer.OrbPointer.TheVariants.{Null, At}
use Rattle.page_table.specs.declared.segment.Segment.{Segment}
use Rattle.page_table.specs.declared.segment.Chunk.{Chunk}
use Rattle.page_table.specs.Buffer.{chunk, chunk_from, bytes_of}
use Rattle.rbc_disk.specs.declared.command.BufferPlan.{BufferPlan}
use Rattle.rbc_disk.specs.Runs.{data_length_of}
use Rattle.command_agent.specs.declared.phase.Phase.{Phase}
use Rattle.command_agent.specs.declared.phase.Phase.TheVariants as phases
use Rattle.command_agent.specs.declared.phase.ReadAhead.{ReadAhead}
use Rattle.command_agent.specs.declared.phase.ReadAhead.TheVariants as aheads
use Rattle.command_agent.specs.declared.step.Which.{Which}
use Rattle.command_agent.specs.declared.step.Which.TheVariants.{Main, Ahead}
use Rattle.command_agent.specs.declared.step.AgentState.{AgentState}
use Rattle.command_agent.specs.declared.step.AgentState.TheVariants as states

-- What an agent keeps: its phase, which names its main transaction, and the doorbell mark; of the present or last ORB the address, the ORB as it was last read, whether an abort marked it, its buffer, its data so far, its answer and how much of it was written; the read ahead of the ORB behind it; and the bytes of the write last asked for.
pub record Machine : Type 0 where
  pub phase : Phase
  pub doorbell : Bool
  pub present : ℕ
  pub orb : CommandOrb
  pub aborted : Bool
  pub ahead : ReadAhead
  pub segments : List Segment
  pub payload : List ℕ
  pub answer : List ℕ
  pub written : ℕ
  pub outgoing : List ℕ

-- stands for an ORB that was not read yet
abbrev pub unread : CommandOrb
unread = record {
  next = Null;
  descriptor = 0;
  descriptor_node = 0;
  format = 0;
  notify = false;
  to_initiator = false;
  speed = 0;
  max_payload = 0;
  has_table = false;
  page_size = 0;
  data_size = 0;
  cdb = replicate 12 0;
}

-- a new agent
abbrev pub new_machine : Machine
new_machine = record {
  phase = phases.Reset;
  doorbell = false;
  present = 0;
  orb = unread;
  aborted = false;
  ahead = aheads.Idle;
  segments = [];
  payload = [];
  answer = [];
  written = 0;
  outgoing = [];
}

abbrev pub state_in : Phase → AgentState
state_in phases.Reset = states.Reset
state_in phases.Suspended = states.Suspended
state_in phases.WritingLastStatus = states.Dead
state_in phases.Dead = states.Dead
state_in _ = states.Active

-- The present ORB is that of a transaction under way, but for a read of a next pointer.
abbrev pub has_present : Phase → Bool
has_present phases.Fetching = true
has_present phases.ReadingTable = true
has_present (phases.ReadingData wanted) = true
has_present phases.Answering = true
has_present phases.WritingStatus = true
has_present phases.WritingLastStatus = true
has_present _ = false

abbrev pub present_of : Machine → Option ℕ
present_of m = if has_present m.phase then Some m.present else None

-- the present ORB has neither run nor ended
abbrev pub awaits_run : Phase → Bool
awaits_run phases.Fetching = true
awaits_run phases.ReadingTable = true
awaits_run (phases.ReadingData wanted) = true
awaits_run _ = false

-- the main transaction is under way
abbrev pub is_sent : Phase → Bool
is_sent phases.Reset = false
is_sent phases.Suspended = false
is_sent phases.Dead = false
is_sent _ = true

abbrev pub is_ahead : ReadAhead → Bool
is_ahead (aheads.UnderWay rung) = true
is_ahead _ = false

-- the doorbell mark that the read ahead cleared
abbrev pub rung_in : ReadAhead → Bool
rung_in (aheads.UnderWay rung) = rung
rung_in _ = false

abbrev pub is_under_way : Which → Machine → Bool
is_under_way Main m = is_sent m.phase
is_under_way Ahead m = is_ahead m.ahead

-- the address of an ORB: the two low bits of a pointer count as zero
abbrev pub aligned : ℕ → ℕ
aligned offset = offset - offset % 4

-- the ORB that a pointer names
abbrev pub named : OrbPointer → Option ℕ
named Null = None
named (At offset) = Some (aligned offset)

-- the buffer that a command is judged by
abbrev pub plan_of : Machine → BufferPlan
plan_of m = record { to_initiator = m.orb.to_initiator; bytes = bytes_of m.segments }

-- the most bytes of a chunk: 2^(max_payload + 2)
abbrev pub limit_of : CommandOrb → ℕ
limit_of orb = 2 ^ (orb.max_payload + 2)

-- the last chunk ends with the bytes that are to be moved
abbrev pub cut_to : ℕ → Option Chunk → Chunk
cut_to left None = chunk 0 0
cut_to left (Some taken) = chunk taken.offset (min left taken.length)

-- the chunk behind `done` bytes of `total`
abbrev pub chunk_of : Machine → ℕ → ℕ → Chunk
chunk_of m done total = cut_to (total - done) (chunk_from m.segments done (limit_of m.orb))

-- What always holds, by phase.
pub record IsTabled (m : Machine) : Type 0 where
  pub few : m.orb.data_size ≤ 64
  pub limit : m.orb.max_payload ≤ 9
  pub fresh : m.payload ≡ []

pub record IsFilling (m : Machine) (wanted : ℕ) : Type 0 where
  pub within : length m.payload ≤ wanted
  pub fits : wanted ≤ bytes_of m.segments
  pub room : wanted ≤ 16384
  pub whole : wanted ≡ data_length_of false m.orb.cdb
  pub limit : m.orb.max_payload ≤ 9

pub record IsAnswering (m : Machine) : Type 0 where
  pub within : m.written ≤ length m.answer
  pub fits : length m.answer ≤ bytes_of m.segments
  pub limit : m.orb.max_payload ≤ 9

abbrev pub Holds : Phase → Machine → Type 0
Holds phases.Fetching m = m.payload ≡ []
Holds phases.ReadingTable m = IsTabled m
Holds (phases.ReadingData wanted) m = IsFilling m wanted
Holds phases.Answering m = IsAnswering m
Holds _ m = Unit {0}

pub record IsSound (m : Machine) : Type 0 where
  pub holds : Holds m.phase m
