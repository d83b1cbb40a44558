-- A drill, at rest: where each rung ORB of a list that was not cut has its status, each ORB that was appended has, so there are as many `taken` as `append` notes.
use Rattle.std.specs.Prelude.{◌≡◌, ◌<◌, ℕ, false, List}
use Rattle.std.specs.List.{count_by}
use Rattle.rbc_disk.specs.Disk.{Disk}
use Rattle.sbp_journal.specs.Run.{Entry, Moment, history, notes_of}
use Rattle.sbp_laws.specs.Lawful.{nobody}
use Rattle.sbp_laws.specs.Lists.{is_none_taken, taken_at}
use Rattle.sbp_laws.specs.OnLists.{LawfulOnLists}
use Rattle.sbp_world.specs.Completing.Sights.{IsFresh, rung}
use Rattle.drill_text.specs.Tally.{is_append, is_taken}
use Rattle.drill_laws.specs.DrillCalm.{IsLawfulDrill}

-- each rung ORB of a list that was begun since the latest reset, and was not cut, has its status
abbrev pub AreRungTaken : List Moment → Type 0
AreRungTaken past = (i n k : ℕ) → IsFresh past i n → k < rung past i n → is_none_taken (taken_at past i n k) ≡ false

abbrev pub DrillsTakeAll : Type 0
DrillsTakeAll =
    (disks : List Disk) (entries : List Entry) → IsLawfulDrill disks entries → LawfulOnLists nobody disks (history entries) → AreRungTaken (history entries) → count_by is_taken (notes_of entries) ≡ count_by is_append (notes_of entries)
