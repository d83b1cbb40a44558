-- The part of Lawful that is of the lists of ORBs, for the initiators outside a set: they run and end in their order, as they were appended and as the disk fold
-- allows; and of each one status is taken at most, as it ended, of the packet that its end sent.
use Rattle.std.specs.Prelude.{ℕ, Bool, List}
use Rattle.rbc_disk.specs.Disk.{Disk}
use Rattle.sbp_journal.specs.Run.{Run, Moment, history}
use Rattle.sbp_laws.specs.ExecutionLaw.{ExecutionLaw}
use Rattle.sbp_laws.specs.Lawful.{LawfulBut}
use Rattle.sbp_laws.specs.OrderLaw.{OrderLaw}
use Rattle.sbp_laws.specs.StatusLaw.{StatusLaw}

pub record LawfulOnLists (wild : ℕ → Bool) (start : List Disk) (past : List Moment) : Type 0 where
  pub order : OrderLaw wild past
  pub execution : ExecutionLaw wild start past
  pub status : StatusLaw wild past

-- A lawful run is so.
abbrev pub IsPartOnLists : Type 0
IsPartOnLists = (wild : ℕ → Bool) (run : Run) → LawfulBut wild run → LawfulOnLists wild run.start (history run.entries)
