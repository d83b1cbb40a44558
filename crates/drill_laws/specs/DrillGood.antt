-- The statuses of a drill (NCITS 325-1998, status block): where no agent died, no ORB ended as a dummy, and each command that ran ran well, each status that was taken is good.
use Rattle.std.specs.Prelude.{◌≡◌, List, Some}
use Rattle.std.specs.List.{count_by}
use Rattle.orb_layout.specs.declared.status.StatusKind.TheVariants as kinds
use Rattle.rbc_disk.specs.Disk.{Disk}
use Rattle.sbp_journal.specs.Run.{Entry, Moment, history, notes_of, said}
use Rattle.sbp_journal.specs.declared.note.Note.TheVariants as notes
use Rattle.sbp_laws.specs.CauseLaw.{AbortedAt}
use Rattle.sbp_laws.specs.Lawful.{FormAt, nobody}
use Rattle.sbp_laws.specs.OnLists.{LawfulOnLists}
use Rattle.sbp_laws.specs.Turns.{EachMoment}
use Rattle.drill_text.specs.Tally.{is_good, is_taken}
use Rattle.drill_laws.specs.DrillCalm.{IsLawfulDrill}

-- no death of an agent, no dummy, and no command that ended with a check
abbrev pub IsWellAt : Moment → List Moment → Type 0
IsWellAt (said (notes.Dead i list cause)) past = ⊥
IsWellAt (said (notes.Ended i list number kinds.Dummy)) past = ⊥
IsWellAt (said (notes.Ran i list number unit cdb bytes (Some sense))) past = ⊥
IsWellAt moment past = Unit {0}

abbrev pub RanWell : List Moment → Type 0
RanWell past = EachMoment IsWellAt past

-- no death of an agent
abbrev pub IsDeathlessAt : Moment → List Moment → Type 0
IsDeathlessAt (said (notes.Dead i list cause)) past = ⊥
IsDeathlessAt moment past = Unit {0}

-- no ORB that ended as a dummy
abbrev pub IsUndummiedAt : Moment → List Moment → Type 0
IsUndummiedAt (said (notes.Ended i list number kinds.Dummy)) past = ⊥
IsUndummiedAt moment past = Unit {0}

-- the laws of lists, the form of the notes, and that what ends as aborted was marked
pub record KeepsLists (disks : List Disk) (past : List Moment) : Type 0 where
  pub lists : LawfulOnLists nobody disks past
  pub form : EachMoment FormAt past
  pub aborted : EachMoment (AbortedAt disks) past

pub record DrillsAreGood : Type 0 where
  pub good : (disks : List Disk) (entries : List Entry) → IsLawfulDrill disks entries → KeepsLists disks (history entries) → RanWell (history entries) → count_by is_good (notes_of entries) ≡ count_by is_taken (notes_of entries)
