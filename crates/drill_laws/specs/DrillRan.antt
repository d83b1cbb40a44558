-- How the commands of a drill run over a first unit that is as they need it (RBC): where each ran on it, and no medium call failed, each ran well, and the unit stays so.
use Rattle.std.specs.Prelude.{◌≡◌, false, List, ◌∷◌, Some}
use Rattle.rbc_disk.specs.Disk.{Disk}
use Rattle.rbc_disk.specs.Runs.{is_failure}
use Rattle.rbc_disk.specs.Units.{new_unit, plain_disk}
use Rattle.sbp_journal.specs.Run.{Entry, Moment, history, said}
use Rattle.sbp_journal.specs.declared.note.Note.TheVariants as notes
use Rattle.sbp_laws.specs.Lawful.{nobody}
use Rattle.sbp_laws.specs.OnLists.{LawfulOnLists}
use Rattle.sbp_laws.specs.Targets.{plain_of}
use Rattle.sbp_laws.specs.Turns.{EachMoment}
use Rattle.drill_laws.specs.DrillCalm.{IsLawfulDrill}
use Rattle.drill_laws.specs.DrillDisk.{IsHealthy}

-- each command ran on the first unit, and no medium call of it failed
abbrev pub RanThereAt : Moment → List Moment → Type 0
RanThereAt (said (notes.Ran i list number unit cdb bytes check)) past = (unit ≡ 0) × (is_failure check ≡ false)
RanThereAt moment past = Unit {0}

-- it ran well
abbrev pub IsUncheckedAt : Moment → List Moment → Type 0
IsUncheckedAt (said (notes.Ran i list number unit cdb bytes (Some sense))) past = ⊥
IsUncheckedAt moment past = Unit {0}

pub record RunsWell (disks : List Disk) (past : List Moment) : Type 0 where
  pub unchecked : EachMoment IsUncheckedAt past
  pub healthy : IsHealthy (plain_of disks past 0)

-- of a drill over these disks
abbrev pub WhereRanThere : Disk → List Disk → List Entry → Type 0
WhereRanThere first others entries = IsHealthy (plain_disk new_unit first) → EachMoment RanThereAt (history entries) → RunsWell (first ∷ others) (history entries)

pub record DrillsRunWell : Type 0 where
  pub well : (first : Disk) (others : List Disk) (entries : List Entry) → IsLawfulDrill (first ∷ others) entries → LawfulOnLists nobody (first ∷ others) (history entries) → WhereRanThere first others entries
