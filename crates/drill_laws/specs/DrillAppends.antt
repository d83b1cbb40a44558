-- Each line of a drill that appends has one note that tells it, or is refused; so `appended` and the lines that were refused are together the lines that append.
use Rattle.std.specs.Prelude.{◌≡◌, ◌+◌, List}
use Rattle.std.specs.List.{count_by}
use Rattle.rbc_disk.specs.Disk.{Disk}
use Rattle.sbp_journal.specs.Run.{Entry, notes_of}
use Rattle.sbp_laws.specs.ActionLaw.{BringsEach}
use Rattle.drill_text.specs.Tally.{is_append}
use Rattle.drill_laws.specs.DrillLines.{AreDrillLines, append_lines, is_refused}
use Rattle.drill_laws.specs.DrillSettles.{events_said}

abbrev pub AppendsAreTold : Type 0
AppendsAreTold =
    (disks : List Disk) (entries : List Entry) → BringsEach disks entries → AreDrillLines entries → count_by is_append (notes_of entries) + count_by is_refused (notes_of entries) ≡ append_lines (events_said entries)
