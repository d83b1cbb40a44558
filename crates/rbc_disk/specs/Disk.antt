-- What a medium holds.
use Rattle.std.specs.Prelude.{◌≡◌, ℕ, ◌+◌, ◌*◌, ◌%◌, ◌≤◌, ◌&&◌, Bool, true, false, not, IfSome, if◌then◌else◌, List, [], ◌∷◌, ◌++◌, length, take, drop, replicate, slice_index_or, Option, Some}
use Rattle.std.specs.Option.{option_map}
use Rattle.sbp_base.specs.Failing.{Plan}

-- a disc on a shelf: its bytes, where it tells them, and whether it is protected
pub record Disc : Type 0 where
  pub bytes : Option (List ℕ)
  pub is_protected : Bool

-- what a medium holds: its bytes, where it tells them; the shelf of a medium that is no bay is empty
pub record Disk : Type 0 where
  pub bytes : Option (List ℕ)
  pub blocks : ℕ
  pub is_protected : Bool
  pub is_present : Bool
  pub is_bay : Bool
  pub shelf : List Disc

-- 1 to 65,536 blocks of 512 bytes; only a bay has a shelf
pub record IsSound (disk : Disk) : Type 0 where
  pub some : 1 ≤ disk.blocks
  pub few : disk.blocks ≤ 65536
  pub whole : IfSome disk.bytes (λ bytes. length bytes ≡ 512 * disk.blocks)
  pub no_shelf : disk.is_bay ≡ false → disk.shelf ≡ []

-- whole blocks from `lba` on, inside the medium
pub record IsInside (disk : Disk) (lba len : ℕ) : Type 0 where
  pub within : 512 * lba + len ≤ 512 * disk.blocks
  pub whole : len % 512 ≡ 0

-- the bytes of `count` blocks from `lba` on
abbrev pub blocks_at : ℕ → ℕ → List ℕ → List ℕ
blocks_at lba count bytes = take (512 * count) (drop (512 * lba) bytes)

-- the bytes with these in the place of those from `at` on
abbrev pub overwrite : List ℕ → ℕ → List ℕ → List ℕ
overwrite bytes at new = take at bytes ++ (new ++ drop (length new) (drop at bytes))

-- the medium gives its bytes from block `lba` on
abbrev pub Gives : Disk → ℕ → List ℕ → Type 0
Gives disk lba got = IfSome disk.bytes (λ bytes. got ≡ take (length got) (drop (512 * lba) bytes))

-- the medium with these bytes from block `lba` on
abbrev pub written : Disk → ℕ → List ℕ → Disk
written disk lba new = record disk { bytes = option_map (λ bytes. overwrite bytes (512 * lba) new) disk.bytes }

-- an empty tray of a bay can be filled
abbrev pub can_load : Disk → Bool
can_load disk = disk.is_bay && not disk.is_present

-- the shelf's first disc goes into an empty tray
abbrev pub loaded_from : List Disc → Disk → Disk
loaded_from [] disk = disk
loaded_from (disc ∷ shelf) disk = record disk { bytes = disc.bytes; is_protected = disc.is_protected; is_present = true; shelf = shelf }

abbrev pub loaded : Disk → Disk
loaded disk = if can_load disk then loaded_from disk.shelf disk else disk

-- whether a load moves a disc
abbrev pub loads : Disk → Bool
loads disk = can_load disk && has_disc disk.shelf
  where
    has_disc : List Disc → Bool
    has_disc [] = false
    has_disc (disc ∷ shelf) = true

-- `512 * blocks` equal bytes
unfoldable pub blank_bytes : ℕ → ℕ → List ℕ
blank_bytes blocks fill = replicate (512 * blocks) fill

-- the disc in the tray is dropped; an empty tray holds zeros
abbrev pub ejected : Disk → Disk
ejected disk =
    if disk.is_bay && disk.is_present
    then record disk { bytes = Some (blank_bytes disk.blocks 0); is_protected = false; is_present = false }
    else disk

-- a present, open medium of these bytes that is no bay
abbrev pub open_disk : List ℕ → ℕ → Disk
open_disk bytes blocks = record {
  bytes = Some bytes;
  blocks = blocks;
  is_protected = false;
  is_present = true;
  is_bay = false;
  shelf = [];
}

-- such a medium of equal bytes
abbrev pub blank_disk : ℕ → ℕ → Disk
blank_disk blocks fill = open_disk (blank_bytes blocks fill) blocks

-- the same, but protected
abbrev pub protected : Disk → Disk
protected disk = record disk { is_protected = true }

-- the same, but not present
abbrev pub absent : Disk → Disk
absent disk = record disk { is_present = false }

-- a medium in memory that counts its faults: its bytes and blocks, and how many of its calls failed
pub record CountedBlocks : Type 0 where
  pub bytes : List ℕ
  pub blocks : ℕ
  pub faults : ℕ

-- an absent medium: its blocks, and how many of its calls failed
pub record EmptyBlocks : Type 0 where
  pub blocks : ℕ
  pub faults : ℕ

-- a medium some of whose calls fail: what it holds, and which of its calls fail
pub record FaultyDisk : Type 0 where
  pub held : Disk
  pub plan : Plan

-- what stands for a medium where there is none
abbrev pub no_disk : Disk
no_disk = record { bytes = Some []; blocks = 0; is_protected = false; is_present = false; is_bay = false; shelf = [] }

-- what the medium of unit `u` holds
abbrev pub disk_at : List Disk → ℕ → Disk
disk_at disks u = slice_index_or disks u no_disk
