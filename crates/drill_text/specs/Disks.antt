-- The sum of a disk.
use Rattle.std.specs.Prelude.{◌≡◌, ℕ, true, false, IfSome, Option, Some, None}
use Rattle.rbc_disk.specs.Disk.{Disk}
use Rattle.sbp_base.specs.Faults.{count_up}
use Rattle.drill_text.specs.Sums.{sum_of_bytes}

-- The sum over the bytes of a disk that is present, where it tells them, and no call failed.
pub record IsSummed (sum : ℕ) (disk : Disk) (before now : ℕ) : Type 0 where
  pub present : disk.is_present ≡ true
  pub no_fault : now ≡ before
  pub sum_is : IfSome disk.bytes (λ bytes. sum ≡ sum_of_bytes bytes)

-- A disk that is not present was not read; of a present one a read failed, which its count of faults tells.
pub data IsUnread (disk : Disk) (before now : ℕ) : Type 0 where
  absent : disk.is_present ≡ false → now ≡ before → IsUnread disk before now
  failed : disk.is_present ≡ true → now ≡ count_up before 1 → IsUnread disk before now

-- the sum of a disk, or none, by its count of faults before and after
abbrev pub SumsUp : Option ℕ → Disk → ℕ → ℕ → Type 0
SumsUp (Some sum) disk before now = IsSummed sum disk before now
SumsUp None disk before now = IsUnread disk before now
