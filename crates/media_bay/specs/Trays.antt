-- A bay: a tray that holds one disc or none, and a shelf of discs in order.
use Rattle.std.specs.Prelude.{ℕ, ◌==◌, ◌&&◌, Bool, true, false, List, [], ◌∷◌, map, Option, Some, None}
use Rattle.std.specs.List.{list_all}
use Rattle.rbc_disk.specs.Disk.{Disk, Disc, blank_bytes}

-- what a disc is on a shelf
abbrev pub disc_of : Disk → Disc
disc_of disk = record { bytes = disk.bytes; is_protected = disk.is_protected }

-- a disc for a bay of so many blocks: it is present and has as many
abbrev pub is_disc : ℕ → Disk → Bool
is_disc blocks disk = disk.is_present && disk.blocks == blocks

abbrev pub are_discs : ℕ → List Disk → Bool
are_discs blocks discs = list_all (is_disc blocks) discs

abbrev pub fits_tray : ℕ → Option Disk → Bool
fits_tray blocks None = true
fits_tray blocks (Some disc) = is_disc blocks disc

-- what a bay holds: with an empty tray it is not present, not protected and of zeros; else it is the disc in the tray
abbrev pub bay_disk : ℕ → Option Disk → List Disk → Disk
bay_disk blocks None shelf = record {
  bytes = Some (blank_bytes blocks 0);
  blocks = blocks;
  is_protected = false;
  is_present = false;
  is_bay = true;
  shelf = map disc_of shelf;
}
bay_disk blocks (Some disc) shelf = record {
  bytes = disc.bytes;
  blocks = blocks;
  is_protected = disc.is_protected;
  is_present = true;
  is_bay = true;
  shelf = map disc_of shelf;
}

-- a bay: its blocks, what the disc in its tray holds, what those on its shelf hold, the count of faults of the disc in the tray (0 where there is none), and its own
pub record BayState : Type 0 where
  pub blocks : ℕ
  pub tray : Option Disk
  pub shelf : List Disk
  pub disc_faults : ℕ
  pub faults : ℕ

abbrev pub held : BayState → Disk
held bay = bay_disk bay.blocks bay.tray bay.shelf

-- a new bay has the first disc in its tray
abbrev pub new_bay : ℕ → List Disk → Disk
new_bay blocks [] = bay_disk blocks None []
new_bay blocks (disc ∷ shelf) = bay_disk blocks (Some disc) shelf

-- the count of the disc in the tray
abbrev pub tray_faults : Option ℕ → ℕ
tray_faults None = 0
tray_faults (Some faults) = faults
