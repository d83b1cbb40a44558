-- In a drill few requests of the target are nobody's (NCITS 325-1998, command block agents): no agent is put into RESET, so one drops its read ahead at most, as it dies.
use Rattle.std.specs.Prelude.{List}
use Rattle.rbc_disk.specs.Disk.{Disk}
use Rattle.sbp_journal.specs.Run.{Entry, history}
use Rattle.sbp_world.specs.Completing.Sights.{AreFewOfCutLists}
use Rattle.drill_laws.specs.DrillCalm.{IsLawfulDrill}

abbrev pub DrillsLeaveFew : Type 0
DrillsLeaveFew = (disks : List Disk) (entries : List Entry) → IsLawfulDrill disks entries → AreFewOfCutLists disks (history entries)
