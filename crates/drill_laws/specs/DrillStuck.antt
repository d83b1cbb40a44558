-- No session of a drill gets stuck (NCITS 325-1998, ORB_POINTER and DOORBELL): the target answers complete what each ring writes, DOORBELL in any state of the agent, and ORB_POINTER, which an initiator of a drill
-- writes once, in RESET.
use Rattle.std.specs.Prelude.{◌≤◌, List, length}
use Rattle.bus_transactions.specs.Answers.{AreAnswered}
use Rattle.rbc_disk.specs.Disk.{Disk}
use Rattle.sbp_journal.specs.Run.{Entry, Moment, history}
use Rattle.sbp_laws.specs.Turns.{EachMoment}
use Rattle.drill_laws.specs.DrillCalm.{IsLawfulDrill}
use Rattle.drill_laws.specs.DrillRefused.{IsUnstuckAt}

-- No more units than a target has, so that no register lies in its ROM; and each request that is judged has its response, the next packet.
pub record KeepsAnswers (disks : List Disk) (past : List Moment) : Type 0 where
  pub few : length disks ≤ 4
  pub answered : AreAnswered past

abbrev pub DrillsStayUnstuck : Type 0
DrillsStayUnstuck = (disks : List Disk) (entries : List Entry) → IsLawfulDrill disks entries → KeepsAnswers disks (history entries) → EachMoment IsUnstuckAt (history entries)
