-- What the blocks of a drill's first unit hold at its end (RBC, WRITE): what the last ORB of the one initiator, or the last one of the other, that writes the block brought; and what it held at the start, if none does.
use Rattle.std.specs.Prelude.{◌≡◌, ℕ, zero, suc, ◌*◌, ◌==◌, Bool, false, if◌then◌else◌, List, ◌∷◌, length, Option, Some, None, Result, Ok}
use Rattle.rbc_command.specs.Commands.{command_of}
use Rattle.rbc_command.specs.declared.command.Command.{Command}
use Rattle.rbc_command.specs.declared.command.Command.TheVariants as commands
use Rattle.rbc_command.specs.declared.sense.Sense.{Sense}
use Rattle.rbc_disk.specs.Disk.{Disk, blocks_at}
use Rattle.rbc_disk.specs.Units.{new_unit, plain_disk}
use Rattle.sbp_journal.specs.Run.{Entry, Moment, history}
use Rattle.sbp_laws.specs.Targets.{disk_of}
use Rattle.sbp_laws.specs.Terms.{Request, appends, data_of, request_at}
use Rattle.sbp_laws.specs.Turns.{EachMoment}
use Rattle.drill_laws.specs.DrillCalm.{IsLawfulDrill}
use Rattle.drill_laws.specs.DrillDisk.{IsHealthy}
use Rattle.drill_laws.specs.DrillGood.{KeepsLists, RanWell}
use Rattle.drill_laws.specs.DrillRan.{RanThereAt}
use Rattle.drill_laws.specs.DrillTaken.{AreRungTaken}

-- a command block is a WRITE that begins at this block
abbrev pub is_write_of : ℕ → Result Command Sense → Bool
is_write_of block (Ok (commands.Write lba count)) = lba == block
is_write_of block _ = false

abbrev pub writes_to : ℕ → List ℕ → Bool
writes_to block cdb = is_write_of block (command_of cdb)

-- the data of the last one of some ORBs that writes a block
abbrev pub or_written : ℕ → Option Request → Option (List ℕ) → Option (List ℕ)
or_written block None before = before
or_written block (Some request) before = if writes_to block request.cdb then Some (data_of request.buffer) else before

abbrev pub last_write : (ℕ → Option Request) → (block count : ℕ) → Option (List ℕ)
last_write requests block zero = None
last_write requests block (suc k) = or_written block (requests k) (last_write requests block k)

-- of those that an initiator appended to its first list
abbrev pub last_of_its : List Moment → (i block : ℕ) → Option (List ℕ)
last_of_its past i block = last_write (request_at past i 0) block (appends past i 0)

-- a block holds what the last write of the one or of the other brought, or what it held at the start
pub data HoldsLast (first second : Option (List ℕ)) (start now : List ℕ) : Type 0 where
  as_before : first ≡ None → second ≡ None → now ≡ start → HoldsLast first second start now
  by_first : (bytes : List ℕ) → first ≡ Some bytes → now ≡ bytes → HoldsLast first second start now
  by_second : (bytes : List ℕ) → second ≡ Some bytes → now ≡ bytes → HoldsLast first second start now

-- the disk fold of the first unit, over these bytes at the start
pub record KeepsBlocks (disks : List Disk) (start : List ℕ) (past : List Moment) : Type 0 where
  pub bytes : List ℕ
  pub is : (disk_of disks past 0).bytes ≡ Some bytes
  pub size : length bytes ≡ length start
  pub blocks : (block : ℕ) → HoldsLast (last_of_its past 0 block) (last_of_its past 1 block) (blocks_at block 1 start) (blocks_at block 1 bytes)

-- each command ran there, without a failed medium call; nothing died and no ORB ended as a dummy; and each rung ORB has its status
pub record IsDoneWell (past : List Moment) : Type 0 where
  pub there : EachMoment RanThereAt past
  pub well : RanWell past
  pub taken : AreRungTaken past

-- a first medium whose bytes are told
pub record HasBytes (first : Disk) (start : List ℕ) : Type 0 where
  pub healthy : IsHealthy (plain_disk new_unit first)
  pub is : first.bytes ≡ Some start
  pub whole : length start ≡ 512 * first.blocks

abbrev pub WritesBlocks : Disk → List Disk → List Entry → Type 0
WritesBlocks first others entries = (start : List ℕ) → HasBytes first start → IsDoneWell (history entries) → KeepsBlocks (first ∷ others) start (history entries)

pub record DrillsWriteBlocks : Type 0 where
  pub blocks : (first : Disk) (others : List Disk) (entries : List Entry) → IsLawfulDrill (first ∷ others) entries → KeepsLists (first ∷ others) (history entries) → WritesBlocks first others entries
