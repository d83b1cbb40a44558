-- The management ORB that the target reads for an operation of an initiator, in every run (NCITS 325-1998, management agent): where one management operation of an
-- initiator is in hand at a time, the read was sent behind the first request of the operation that the initiator has under way, and the response brings the ORB
-- of that.
use Rattle.std.specs.Prelude.{◌≡◌, ◌<◌, ◌≤◌, ℕ, suc, true, List, ◌∷◌, ◌++◌, map, length, Option, Some}
use Rattle.rbc_disk.specs.Disk.{Disk}
use Rattle.rbc_disk.specs.Runs.{Told}
use Rattle.sbp_journal.specs.Run.{Moment, asked, said}
use Rattle.sbp_journal.specs.Wire.{terms}
use Rattle.sbp_laws.specs.Hosts.{Underway, is_management}
use Rattle.sbp_laws.specs.Packets.{receiver_in}
use Rattle.sbp_laws.specs.Served.{place_bytes, place_held}
use Rattle.sbp_world.specs.Histories.{history_of}
use Rattle.sbp_world.specs.Runs.{Run, after, beginning}
use Rattle.sbp_world.specs.Settling.{MayAll, after_all}
use Rattle.sbp_world.specs.Worlds.{begun}
use Rattle.sbp_world.specs.Hosts.Runs.{IsRun, more_deliveries}
use Rattle.sbp_world.specs.Lists.Managing.{ManagingLaw}
use Rattle.sbp_world.specs.Lists.Needs.{IsCalm, OpenBefore, OpenBetween}
use Rattle.sbp_world.specs.Lists.ReadOrbs.{IsAnswered, IsReading}

-- at a place of a run
pub record IsInPlace (start : List Disk) (past : List Moment) (i : ℕ) : Type 0 where
  pub behind : (read : ℕ) (underway : Underway) → IsReading start past i read underway → is_management underway.operation ≡ true → (terms past).generation 0 ≡ (terms past).generation (suc i) → receiver_in ((terms past).sent read) ≡ Some (suc i) → underway.first ≤ read
  pub brings : (read response : ℕ) (underway : Underway) (bytes : List ℕ) → IsReading start past i read underway → is_management underway.operation ≡ true → (terms past).generation 0 ≡ (terms past).generation (suc i) → IsAnswered past i response read bytes → bytes ≡ place_bytes (place_held past i underway.place)

-- After every line of every run, and behind each delivery of a line that delivers one packet after the other, where lists were open as they should be before.
pub record AreInPlace : Type 0 where
  pub after_lines : (line : ℕ) (run : Run) → IsRun run → 0 < run.units → run.units ≤ 4 → length run.start.disks ≡ run.units → OpenBefore line run run.entries → (i : ℕ) → i < run.initiators → IsCalm (history_of line run) i → IsInPlace run.start.disks (history_of line run) i
  pub between : (line : ℕ) (run : Run) → IsRun run → 0 < run.units → run.units ≤ 4 → length run.start.disks ≡ run.units → (next : ℕ) (most : Option ℕ) (told : List (Option Told)) → MayAll told (begun (after (beginning run) run.entries)) → OpenBetween line run next (more_deliveries most) told → (i : ℕ) → i < run.initiators → (let now = map said (after_all told (begun (after (beginning run) run.entries))).world.fresh ++ asked next (more_deliveries most) ∷ history_of line run in IsCalm now i → IsInPlace run.start.disks now i)

-- where one management operation of an initiator is in hand at a time
abbrev pub InPlaceLaw : Type 0
InPlaceLaw = ManagingLaw → AreInPlace
