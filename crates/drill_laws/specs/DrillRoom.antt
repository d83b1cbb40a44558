-- Room for what a drill appends, where each of its settles leaves no ORB untaken: a slot and a label are free for each line that appends (NCITS 325-1998, command block agents; IEEE 1394-1995, transaction layer).
use Rattle.std.specs.Prelude.{◌≡◌, ◌<◌, ◌≤◌, ℕ, ◌==◌, false, List, [], ◌∷◌, length}
use Rattle.rbc_disk.specs.Disk.{Disk}
use Rattle.sbp_journal.specs.Run.{Entry, Moment, history}
use Rattle.sbp_journal.specs.Wire.{terms}
use Rattle.sbp_journal.specs.declared.event.Event.{Event}
use Rattle.sbp_journal.specs.declared.event.Event.TheVariants as events
use Rattle.sbp_journal.specs.declared.event.Action.TheVariants as actions
use Rattle.sbp_laws.specs.Budget.{Lossless}
use Rattle.sbp_laws.specs.Completion.{in_the_air}
use Rattle.sbp_laws.specs.Lawful.{nobody}
use Rattle.sbp_laws.specs.Lists.{lowest_vacant, slots}
use Rattle.sbp_laws.specs.OnLists.{LawfulOnLists}
use Rattle.sbp_laws.specs.Packets.{is_under_way}
use Rattle.sbp_laws.specs.Turns.{EachMoment}
use Rattle.sbp_world.specs.Hosts.Runs.{IsRun}
use Rattle.sbp_world.specs.Runs.{Run}
use Rattle.sbp_world.specs.Wire.Journal.{journal_run}
use Rattle.script_text.specs.Drill.{generated}
use Rattle.drill_laws.specs.DrillCalm.{IsLawfulDrill}
use Rattle.drill_laws.specs.DrillRefused.{HaveRoom, IsAliveAt}
use Rattle.drill_laws.specs.DrillSettles.{events_said}
use Rattle.drill_laws.specs.DrillTakings.{AllTaken}

-- behind each settle each ORB that was appended has its status
abbrev pub TakesAtSettles : List Entry → Type 0
TakesAtSettles [] = Unit {0}
TakesAtSettles (entry ∷ before) = (entry.event ≡ events.Settle → AllTaken (history (entry ∷ before))) × TakesAtSettles before

-- at each front, where nothing was lost and nothing is in flight, no request is under way
abbrev pub IsQuietWhereStill : List Moment → Type 0
IsQuietWhereStill past = Lossless past → in_the_air past ≡ 0 → (serial : ℕ) → is_under_way (terms past) serial ≡ false

abbrev pub RestsWhereStill : List Entry → Type 0
RestsWhereStill [] = Unit {0}
RestsWhereStill (entry ∷ before) = IsQuietWhereStill (history (entry ∷ before)) × RestsWhereStill before

-- so it is in every run
pub record RunsRest : Type 0 where
  pub rests : (line : ℕ) (run : Run) → IsRun run → 0 < run.units → run.units ≤ 4 → length run.start.disks ≡ run.units → RestsWhereStill (journal_run line run).entries

-- a run over a generated script, in which no status tells of a dead agent, and each settle leaves nothing untaken
pub record IsTakenDrill (disks : List Disk) (entries : List Entry) : Type 0 where
  pub seed : ℕ
  pub count : ℕ
  pub script : events_said entries ≡ generated seed count
  pub lawful : IsLawfulDrill disks entries
  pub lists : LawfulOnLists nobody disks (history entries)
  pub alive : EachMoment IsAliveAt (history entries)
  pub takes : TakesAtSettles entries
  pub rests : RestsWhereStill entries

-- ---- slots
abbrev pub HasSlotFor : List Moment → Event → Type 0
HasSlotFor past (events.Act i (actions.Append cmd)) = (lowest_vacant (slots past i) == 32) ≡ false
HasSlotFor past event = Unit {0}

abbrev pub HaveSlots : List Entry → Type 0
HaveSlots [] = Unit {0}
HaveSlots (entry ∷ before) = HasSlotFor (history before) entry.event × HaveSlots before

pub record DrillsHaveSlots : Type 0 where
  pub free : (disks : List Disk) (entries : List Entry) → IsTakenDrill disks entries → HaveSlots entries

-- ---- both
-- so a line that appends lacks neither a slot nor a label
pub record DrillsHaveRoom : Type 0 where
  pub room : (disks : List Disk) (entries : List Entry) → IsTakenDrill disks entries → HaveRoom entries
