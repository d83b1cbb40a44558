-- What the top call promises of `drill`, by its status.
use Rattle.std.specs.Prelude.{◌≡◌, ◌⊎◌, ℕ, ◌*◌, ◌≤◌, ◌<◌, true, false, List, [], length, take, slice_set, slice_index, Option, Some, None}
use Rattle.std.specs.Io.KnownBytes.{Appends}
use Rattle.sbp_base.specs.Faults.{Rose, last_count}
use Rattle.line_session.specs.Outside.{Outside}
use Rattle.rbc_disk.specs.Disk.{Disk, blocks_at, disk_at}
use Rattle.rbc_disk.specs.Held.{Held}
use Rattle.sbp_journal.specs.Text.{text_of}
use Rattle.sbp_journal.specs.declared.event.Event.{Event}
use Rattle.sbp_journal.specs.declared.note.Note.{Note}
use Rattle.script_text.specs.Drill.{generated}
use Rattle.sbp_world.specs.Wire.Journal.{journal_run}
use Rattle.drill_laws.specs.DrillBlocks.{HoldsLast as BlockHolds}
use Rattle.drill_laws.specs.DrillRuns.{EndsDrill}
use Rattle.drill_laws.specs.DrillWrites.{last_line}
use Rattle.drill_text.specs.Disks.{SumsUp}
use Rattle.drill_text.specs.Summary.{summary_text}
use Rattle.drill_text.specs.Sums.{sum_of_bytes, trace}
use Rattle.drill_text.specs.Tally.{tally_of}
use Rattle.script_runner.specs.Events.{numbered_from}
use Rattle.sbp_command.specs.Machine.{HasRun}
use Rattle.sbp_command.specs.declared.status.Status.{Status}
use Rattle.sbp_command.specs.declared.status.Status.TheVariants as statuses

-- Unit 0 was summed up, or read in part: no medium holds anything else, and at most the count of unit 0 has changed.
pub record SumsFirst (sum : Option ℕ) (before now : Held) : Type 0 where
  pub disks : now.disks ≡ before.disks
  pub others : now.faults ≡ slice_set before.faults 0 (slice_index now.faults 0)
  pub first : SumsUp sum (disk_at before.disks 0) (slice_index before.faults 0) (slice_index now.faults 0)

-- What the counts of the six lines come to (NCITS 325-1998, command block agents, status block): each command that was asked for was appended, and its status was taken.
pub record TalliesDrill (count : ℕ) (notes : List Note) : Type 0 where
  pub appended : (tally_of notes).appended ≡ count
  pub taken : (tally_of notes).taken ≡ count

-- Unit 0 was there and present at first, not protected, and of 64 blocks or more; and its count of faults, below its last value, did not rise.
pub record IsGoodFirst (before now : Held) : Type 0 where
  pub there : 0 < length before.disks
  pub counted : 0 < length before.faults
  pub present : (disk_at before.disks 0).is_present ≡ true
  pub unprotected : (disk_at before.disks 0).is_protected ≡ false
  pub room : 64 ≤ (disk_at before.disks 0).blocks
  pub below : slice_index before.faults 0 < last_count
  pub stays : slice_index now.faults 0 ≡ slice_index before.faults 0

-- a medium tells its bytes, which are whole
pub record TellsBytes (disk : Disk) (bytes : List ℕ) : Type 0 where
  pub is : disk.bytes ≡ Some bytes
  pub whole : length bytes ≡ 512 * disk.blocks

-- Of what held these bytes at first each block holds what the last one of some lines of initiator 0 that writes it brought, or the last one of initiator 1; and what it held, if none does (RBC, WRITE).
pub record HoldsLast (lines : List Event) (start : List ℕ) (disk : Disk) : Type 0 where
  pub bytes : List ℕ
  pub is : disk.bytes ≡ Some bytes
  pub size : length bytes ≡ length start
  pub blocks : (block : ℕ) → BlockHolds (last_line 0 block None lines) (last_line 1 block None lines) (blocks_at block 1 start) (blocks_at block 1 bytes)

-- where unit 0 was so each status is good, its blocks hold what the lines of the script wrote, and it was summed up
pub record EndsGood (seed count : ℕ) (before now : Held) (notes : List Note) (disk : Option ℕ) : Type 0 where
  pub good : (tally_of notes).good ≡ count
  pub blocks : (start : List ℕ) → TellsBytes (disk_at before.disks 0) start → HoldsLast (generated seed count) start (disk_at now.disks 0)
  pub summed : (bytes : List ℕ) → (disk_at now.disks 0).bytes ≡ Some bytes → disk ≡ Some (sum_of_bytes bytes)

-- A run of the machine over exactly the lines of the generated script, from what the media held at first; then unit 0 was summed
-- up; and the six lines tell what both came to. The run is at rest at its end: nothing was lost or managed, each settle is `settled`, and nothing is in flight. The sum of the tally is that over the whole text of the notes, cut at its line feeds.
pub record RanDrill (seed count : ℕ) (before now : Held) (output : List ℕ) : Type 0 where
  pub notes : List Note
  pub media : Held
  pub disk : Option ℕ
  pub ran : HasRun before (numbered_from 1 (generated seed count)) notes media
  pub ends : EndsDrill count (journal_run ran.line ran.run)
  pub counts : TalliesDrill count notes
  pub good : IsGoodFirst before now → EndsGood seed count before now notes disk
  pub trace_is : (tally_of notes).sum ≡ trace (text_of notes)
  pub summed : SumsFirst disk media now
  pub output_is : output ≡ summary_text (record { seed = seed; count = count; tally = tally_of notes; disk = disk })

-- The sink gained the six lines, and no call of it failed.
pub record WroteDrill (seed count : ℕ) (before now : Outside) : Type 0 where
  pub output : List ℕ
  pub ran : RanDrill seed count before.media now.media output
  pub written : Appends before.written now.written output
  pub no_fault : now.writes ≡ before.writes

-- The sink gained a front of them.
pub record TornDrill (seed count : ℕ) (before now : Outside) : Type 0 where
  pub output : List ℕ
  pub ran : RanDrill seed count before.media now.media output
  pub len : ℕ
  pub written : Appends before.written now.written (take len output)

-- Nothing was read.
pub record KeepsSource (before now : Outside) : Type 0 where
  pub left : now.left ≡ before.left
  pub reads : now.reads ≡ before.reads

abbrev pub DrillWrites : ℕ → ℕ → Status → Outside → Outside → Type 0
DrillWrites seed count statuses.Done before now = WroteDrill seed count before now
DrillWrites seed count statuses.WriteFault before now = Rose before.writes now.writes × TornDrill seed count before now
DrillWrites seed count statuses.NoMemory before now = (now.writes ≡ before.writes) × (Appends before.written now.written [] ⊎ TornDrill seed count before now)
DrillWrites seed count _ before now = ⊥

-- the clause of `drill` by status; where memory was wanting before the lines were whole nothing is said of the media
abbrev pub DrillEnds : ℕ → ℕ → Status → Outside → Outside → Type 0
DrillEnds seed count status before now = KeepsSource before now × DrillWrites seed count status before now
