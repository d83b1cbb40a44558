-- What a drill has done behind its last settle (NCITS 325-1998, command block agents, status block): each ORB that was appended has its status, no agent died, and no line was refused.
use Rattle.std.specs.Prelude.{◌≡◌, ℕ, List}
use Rattle.rbc_disk.specs.Disk.{Disk}
use Rattle.sbp_journal.specs.Run.{Entry, history}
use Rattle.sbp_laws.specs.Completion.{in_the_air}
use Rattle.sbp_laws.specs.Lawful.{nobody}
use Rattle.sbp_laws.specs.OnLists.{LawfulOnLists}
use Rattle.sbp_laws.specs.Turns.{EachMoment}
use Rattle.script_text.specs.Drill.{generated}
use Rattle.sbp_world.specs.Completing.Done.{AllRungComplete}
use Rattle.drill_laws.specs.DrillCalm.{IsLawfulDrill}
use Rattle.drill_laws.specs.DrillGood.{IsDeathlessAt}
use Rattle.drill_laws.specs.DrillRefused.{HaveRoom, IsAliveAt}
use Rattle.drill_laws.specs.DrillRoom.{RestsWhereStill, TakesAtSettles}
use Rattle.drill_laws.specs.DrillStuck.{KeepsAnswers}
use Rattle.drill_laws.specs.DrillSettles.{events_said}
use Rattle.drill_laws.specs.DrillTaken.{AreRungTaken}

-- a run over a generated script of which each rung ORB completes, and whose last line left nothing in flight
pub record IsStillDrill (disks : List Disk) (entries : List Entry) : Type 0 where
  pub seed : ℕ
  pub count : ℕ
  pub script : events_said entries ≡ generated seed count
  pub lawful : IsLawfulDrill disks entries
  pub lists : LawfulOnLists nobody disks (history entries)
  pub answers : KeepsAnswers disks (history entries)
  pub rests : RestsWhereStill entries
  pub rung : AllRungComplete disks entries
  pub still : in_the_air (history entries) ≡ 0

pub record IsDoneDrill (entries : List Entry) : Type 0 where
  pub takes : TakesAtSettles entries
  pub taken : AreRungTaken (history entries)
  pub deathless : EachMoment IsDeathlessAt (history entries)
  pub alive : EachMoment IsAliveAt (history entries)
  pub room : HaveRoom entries

pub record DrillsAreDone : Type 0 where
  pub done : (disks : List Disk) (entries : List Entry) → IsStillDrill disks entries → IsDoneDrill entries
