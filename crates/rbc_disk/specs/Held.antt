-- What a list of media holds.
use Rattle.std.specs.Prelude.{ℕ, List}
use Rattle.rbc_disk.specs.Disk.{Disk}

-- what the media hold, and their counts of faults
pub record Held : Type 0 where
  pub disks : List Disk
  pub faults : List ℕ

abbrev pub held : List Disk → List ℕ → Held
held disks faults = record { disks = disks; faults = faults }
