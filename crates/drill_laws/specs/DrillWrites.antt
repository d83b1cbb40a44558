-- Which line of a drill writes a block last: what an initiator's last ORB that writes a block brings is what its last such line says, where no line was refused.
use Rattle.std.specs.Prelude.{◌≡◌, ◌<◌, ℕ, ◌==◌, ◌&&◌, false, if◌then◌else◌, List, [], ◌∷◌, length, replicate, Option, Some, None}
use Rattle.std.specs.List.{count_by}
use Rattle.rbc_disk.specs.Disk.{Disk, blocks_at}
use Rattle.script_text.specs.Draws.{block_read, block_write}
use Rattle.sbp_journal.specs.Run.{Entry, history, notes_of}
use Rattle.sbp_journal.specs.declared.event.Event.{Event}
use Rattle.sbp_journal.specs.declared.event.Event.TheVariants as events
use Rattle.sbp_journal.specs.declared.event.Action.TheVariants as actions
use Rattle.sbp_laws.specs.Actions.{buffer_of}
use Rattle.sbp_laws.specs.Targets.{disk_of}
use Rattle.sbp_laws.specs.Terms.{data_of}
use Rattle.drill_laws.specs.DrillBlocks.{HoldsLast, last_of_its, writes_to}
use Rattle.drill_laws.specs.DrillCalm.{IsLawfulDrill}
use Rattle.drill_laws.specs.DrillLines.{is_refused}
use Rattle.drill_laws.specs.DrillSettles.{events_said}

-- what a line of an initiator writes to a block, or what was written before
abbrev pub line_written : (i block : ℕ) → Event → Option (List ℕ) → Option (List ℕ)
line_written i block (events.Act j (actions.Append cmd)) before = if (i == j) && writes_to block cmd.cdb then Some (data_of (buffer_of cmd)) else before
line_written i block event before = before

-- behind some lines, in the order of time
abbrev pub last_line : (i block : ℕ) → Option (List ℕ) → List Event → Option (List ℕ)
last_line i block before [] = before
last_line i block before (event ∷ rest) = last_line i block (line_written i block event before) rest

-- The disk fold of the first unit, over these bytes at the start: a block holds what the last line of initiator 0 that writes it brought, or the last one of initiator 1, or what it held.
pub record HoldsLines (disks : List Disk) (start : List ℕ) (entries : List Entry) : Type 0 where
  pub bytes : List ℕ
  pub is : (disk_of disks (history entries) 0).bytes ≡ Some bytes
  pub size : length bytes ≡ length start
  pub blocks : (block : ℕ) → HoldsLast (last_line 0 block None (events_said entries)) (last_line 1 block None (events_said entries)) (blocks_at block 1 start) (blocks_at block 1 bytes)

-- what the commands of lines write
pub record WritesWhole : Type 0 where
  pub block : (lba byte block : ℕ) → lba < 64 → writes_to block (block_write lba byte).cdb ≡ (lba == block)
  pub brought : (lba byte : ℕ) → data_of (buffer_of (block_write lba byte)) ≡ replicate 512 byte
  pub none_read : (lba block : ℕ) → lba < 64 → writes_to block (block_read lba).cdb ≡ false

pub record LinesWriteBlocks : Type 0 where
  pub lines : (disks : List Disk) (entries : List Entry) → IsLawfulDrill disks entries → count_by is_refused (notes_of entries) ≡ 0 → (i block : ℕ) → last_of_its (history entries) i block ≡ last_line i block None (events_said entries)
  pub whole : WritesWhole
