-- What lies outside a call, at one moment.
use Rattle.std.specs.Prelude.{ℕ, List, Option}
use Rattle.rbc_disk.specs.Disk.{Disk}
use Rattle.rbc_disk.specs.Held.{Held, held}

-- the bytes left of the source and those written to the sink, where they tell them, with their counts of faults; and the media with
-- theirs
pub record Outside : Type 0 where
  pub left : Option (List ℕ)
  pub reads : ℕ
  pub written : Option (List ℕ)
  pub writes : ℕ
  pub media : Held

abbrev pub outside : Option (List ℕ) → ℕ → Option (List ℕ) → ℕ → List Disk → List ℕ → Outside
outside left reads written writes disks faults = record { left = left; reads = reads; written = written; writes = writes; media = held disks faults }
