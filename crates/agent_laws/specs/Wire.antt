-- What an agent asks for, and how its ORBs end, read off what calls tell.
use Rattle.std.specs.Prelude.{◌≡◌, ℕ, ◌*◌, Bool, true, false, List, [], ◌∷◌, ◌⊎◌, length, Option, Some, None}
use Rattle.orb_layout.specs.declared.command.CommandOrb.{CommandOrb}
use Rattle.orb_layout.specs.declared.pointer.OrbPointer.{OrbPointer}
use Rattle.orb_layout.specs.declared.pointer.OrbPointer.TheVariants.{Null, At}
use Rattle.orb_layout.specs.declared.status.StatusKind.{StatusKind}
use Rattle.orb_layout.specs.declared.status.StatusKind.TheVariants as kinds
use Rattle.orb_layout.specs.StatusBlocks.{status_bytes}
use Rattle.page_table.specs.declared.segment.Segment.{Segment}
use Rattle.page_table.specs.Buffer.{chunk}
use Rattle.rbc_disk.specs.declared.command.Outcome.{Outcome}
use Rattle.rbc_disk.specs.declared.command.Outcome.TheVariants as outcomes
use Rattle.command_agent.specs.declared.step.Which.{Which}
use Rattle.command_agent.specs.declared.step.Which.TheVariants.{Main, Ahead}
use Rattle.agent_laws.specs.Calls.{Call, notes, Note, Pointed, Cut, Turn, Reads, Writes, Promoted, Ended, Died, named, is_open, present_in, fetched_in, next_in}
use Rattle.agent_laws.specs.Buffers.{reads_table, table_in, data_in, buffer_in, wanted_in, piece_in}
use Rattle.agent_laws.specs.Answers.{outcome_in, is_good}
use Rattle.agent_laws.specs.Transactions.{main_in, behind_in}

-- the present or last ORB
abbrev pub last_in : List Note → ℕ
last_in [] = 0
last_in (Pointed at ∷ ns) = at
last_in (Turn at ∷ ns) = at
last_in (_ ∷ ns) = last_in ns

-- the agent became dead, and its list was not cut since
abbrev pub is_dead : List Note → Bool
is_dead [] = false
is_dead (Died cause ∷ ns) = true
is_dead (Pointed at ∷ ns) = false
is_dead (Cut ∷ ns) = false
is_dead (_ ∷ ns) = is_dead ns

-- A main read comes where no main transaction is under way. Without a present ORB it is that of the last one's next pointer; else of the present ORB until it was read; then of its page table where it has one with elements; and then of the next chunk of its data, in its buffer.
pub record MainReads (ns : List Note) (offset size : ℕ) : Type 0 where
  pub free : main_in ns ≡ false
  pub again : present_in ns ≡ None → (offset ≡ last_in ns) × (size ≡ 8)
  pub orb : (at : ℕ) → present_in ns ≡ Some at → fetched_in ns ≡ None → (offset ≡ at) × (size ≡ 32)
  pub table : (at : ℕ) (orb : CommandOrb) → present_in ns ≡ Some at → fetched_in ns ≡ Some orb → reads_table orb ≡ true → table_in ns ≡ None →
      (offset ≡ orb.descriptor) × (size ≡ 8 * orb.data_size)
  pub chunks : (at : ℕ) (segments : List Segment) → present_in ns ≡ Some at → buffer_in ns ≡ Some segments →
      piece_in ns (length (data_in ns)) (wanted_in ns) ≡ Some (chunk offset size)

-- A read ahead comes where none is under way, and is that of the ORB that the next pointer last read names.
abbrev pub MayRead : Which → List Note → ℕ → ℕ → Type 0
MayRead Main ns offset size = MainReads ns offset size
MayRead Ahead ns offset size = (behind_in ns ≡ false) × (named (next_in ns) ≡ Some offset) × (size ≡ 32)

-- An ORB ends good or with a check behind its run with that outcome, failed behind a run or none, and dummy, aborted or illegal without one.
abbrev pub EndsBy : StatusKind → Option Outcome → Type 0
EndsBy kinds.Good outcome = is_good outcome ≡ true
EndsBy (kinds.Check sense) outcome = outcome ≡ Some (outcomes.Check sense)
EndsBy kinds.Failed outcome = Unit {0}
EndsBy (kinds.Management meaning) outcome = ⊥
EndsBy _ outcome = outcome ≡ None

-- src is 0 where the next pointer last read is not null, and 1 where it is, or was not read
abbrev pub src_by : OrbPointer → ℕ
src_by Null = 1
src_by (At offset) = 0

-- Its status block: src by the next pointer last read, its kind and its address, written whole with 0 in the place of the FIFO's address.
abbrev pub block_bytes : List Note → ℕ → StatusKind → List ℕ
block_bytes ns at kind = status_bytes (record { src = src_by (next_in ns); kind = kind; orb = at })

-- A pointer is taken where no list is open, and where the agent is not dead, has no present ORB and no main transaction.
abbrev pub TakesPointer : List Note → Type 0
TakesPointer ns = (is_open ns ≡ false) ⊎ (((is_dead ns ≡ false) × (present_in ns ≡ None)) × (main_in ns ≡ false))

-- What an agent asks for and how its ORBs end. One main transaction is under way at a time, and one read ahead.
abbrev pub Wired : List Note → Type 0
Wired [] = Unit {0}
Wired (Pointed at ∷ ns) = TakesPointer ns × Wired ns
Wired (Reads which offset size ∷ ns) = MayRead which ns offset size × Wired ns
Wired (Writes offset size bytes ∷ ns) = (main_in ns ≡ false) × Wired ns
Wired (Promoted ∷ ns) = (main_in ns ≡ false) × Wired ns
Wired (Ended at kind offset size bytes ∷ ns) =
    (main_in ns ≡ false) × EndsBy kind (outcome_in ns) × (offset ≡ 0) × (size ≡ length bytes) × (bytes ≡ block_bytes ns at kind) × Wired ns
Wired (_ ∷ ns) = Wired ns

-- Over every list of calls.
abbrev pub CallsAreWired : Type 0
CallsAreWired = (calls : List Call) → Wired (notes calls)
