-- The configuration ROM (IEEE 1212) as a relation between its quadlets, its blocks and its entries.
use Rattle.std.specs.Prelude.{◌≡◌, ℕ, ◌+◌, ◌*◌, ◌/◌, ◌%◌, ◌^◌, ◌<◌, ◌≤◌, ◌==◌, ◌&&◌, ◌||◌, ◌⊎◌, nat_lt, nat_le, min, not, Bool, true, false, IsTrue, if◌then◌else◌, List, [], ◌∷◌, length, take, drop, slice_index, Option, Some, None, zero, suc}
use Rattle.std.specs.List.{flat_map}
use Rattle.config_rom.specs.Sum.{sum_of}
use Rattle.config_rom.specs.declared.fault.RomFault.{RomFault}
use Rattle.config_rom.specs.declared.fault.RomFault.TheVariants as faults
use Rattle.config_rom.specs.declared.block.Block.{Block}
use Rattle.config_rom.specs.declared.block.Entry.{Entry}
use Rattle.config_rom.specs.declared.block.EntryKind.{EntryKind}
use Rattle.config_rom.specs.declared.block.EntryKind.TheVariants as kinds

-- ---- the bus information block

abbrev pub info_length : List ℕ → ℕ
info_length quads = slice_index quads 0 / 2 ^ 24

-- the name of the bus, "1394"
abbrev pub has_name : List ℕ → Bool
has_name quads = nat_le 4 (info_length quads) && (slice_index quads 1 == 0x31333934)

abbrev pub eui_of : List ℕ → ℕ
eui_of quads = slice_index quads 3 * 2 ^ 32 + slice_index quads 4

-- the sum of quadlet 0 is over the crc_length quadlets after it; one that runs past the end counts as wrong
abbrev pub bus_sum_is_right : List ℕ → Bool
bus_sum_is_right quads =
    let covered = slice_index quads 0 / 2 ^ 16 % 2 ^ 8 in
    nat_lt covered (length quads) && (sum_of (take covered (drop 1 quads)) == slice_index quads 0 % 2 ^ 16)

-- the position of the root directory's header
abbrev pub root_of : List ℕ → ℕ
root_of quads = 1 + info_length quads

-- ---- directories and leaves

abbrev pub kind_of : ℕ → EntryKind
kind_of bits =
    if bits == 0 then kinds.Immediate
    else if bits == 1 then kinds.Csr
    else if bits == 2 then kinds.Leaf
    else kinds.Directory

-- the directory entry at a position: key type, key value, value
unfoldable pub entry_at : List ℕ → ℕ → Entry
entry_at quads at =
    let quad = slice_index quads at in
    record { at = at; kind = kind_of (quad / 2 ^ 30); key = quad / 2 ^ 24 % 2 ^ 6; value = quad % 2 ^ 24 }

-- the length that the header at a position tells, in quadlets, itself not counted
abbrev pub length_at : List ℕ → ℕ → ℕ
length_at quads at = slice_index quads at / 2 ^ 16

-- the directory or leaf whose header stands at a position
unfoldable pub block_at : List ℕ → ℕ → Bool → Block
block_at quads at is_directory = record {
  at = at;
  length = length_at quads at;
  is_directory = is_directory;
  sum_is_right = sum_of (take (length_at quads at) (drop (at + 1) quads)) == slice_index quads at % 2 ^ 16;
}

-- the entries at `count` positions from `at` on
abbrev pub entries_from : List ℕ → ℕ → ℕ → List Entry
entries_from quads at zero = []
entries_from quads at (suc count) = entry_at quads at ∷ entries_from quads (suc at) count

-- the entries of a block by rising position: a leaf has none
abbrev pub entries_of : List ℕ → Block → List Entry
entries_of quads block = if block.is_directory then entries_from quads (suc block.at) block.length else []

-- an entry of this kind names a block, a directory or a leaf
abbrev pub names_kind : EntryKind → Bool → Bool
names_kind kinds.Immediate is_directory = false
names_kind kinds.Csr is_directory = false
names_kind kinds.Leaf is_directory = not is_directory
names_kind kinds.Directory is_directory = is_directory

abbrev pub is_link : Entry → Bool
is_link entry = names_kind entry.kind true || names_kind entry.kind false

-- the entry names the directory or leaf whose header stands at a position: its value is the distance to the header
unfoldable pub names : ℕ → Bool → Entry → Bool
names at is_directory entry = names_kind entry.kind is_directory && (entry.at + entry.value == at)

-- ---- the faults of a block

-- the entry names a block at the distance 0
abbrev pub is_void : Entry → Bool
is_void entry = is_link entry && (entry.value == 0)

-- the first such entry
abbrev pub first_void : List Entry → Option RomFault
first_void [] = None
first_void (entry ∷ entries) = if is_void entry then Some (faults.Entry entry.at) else first_void entries

-- 65,535 stands for every larger position
abbrev pub outside : ℕ → RomFault
outside at = faults.Outside (min at 65535)

-- the fault of the block whose header stands at a position: first of its extent, then of a directory's entries
unfoldable pub block_fault : List ℕ → ℕ → Bool → Option RomFault
block_fault quads at is_directory =
    if nat_le (length quads) at || nat_le (length quads) (at + length_at quads at) then Some (outside at)
    else first_void (entries_of quads (block_at quads at is_directory))

-- ---- the tree

abbrev pub IsIn : {A : Type 0} → A → List A → Type 0
IsIn x [] = ⊥
IsIn x (y ∷ ys) = (x ≡ y) ⊎ IsIn x ys

-- the turn of a block in the order of reading: by rising position, at one position the directory before the leaf
abbrev pub turn_at : ℕ → Bool → ℕ
turn_at at is_directory = 2 * at + (if is_directory then 0 else 1)

abbrev pub turn_of : Block → ℕ
turn_of block = turn_at block.at block.is_directory

-- the turns of the blocks rise, and none is below `least`; so no block is listed twice
abbrev pub Rises : ℕ → List Block → Type 0
Rises least [] = Unit {0}
Rises least (block ∷ blocks) = (least ≤ turn_of block) × Rises (suc (turn_of block)) blocks

-- the block is the root directory, or one of the entries names it
abbrev pub IsNamed : List ℕ → List Entry → ℕ → Bool → Type 0
IsNamed quads entries at is_directory =
    ((at ≡ root_of quads) × (is_directory ≡ true))
    ⊎ ((entry : Entry) × IsIn entry entries × IsTrue (names at is_directory entry))

-- The blocks whose turn is below `limit`, and the entries of their directories.
pub record TreeBelow (limit : ℕ) (quads : List ℕ) (blocks : List Block) (entries : List Entry) : Type 0 where
  -- by rising position, at one position the directory before the leaf, without repeats
  pub rising : Rises 0 blocks
  pub below : (block : Block) → IsIn block blocks → turn_of block < limit
  -- each block is as its quadlets stand, and has no fault
  pub stands : (block : Block) → IsIn block blocks → block ≡ block_at quads block.at block.is_directory
  pub sound : (block : Block) → IsIn block blocks → block_fault quads block.at block.is_directory ≡ None
  -- exactly the root directory and the blocks that an entry of a listed directory names
  pub only : (block : Block) → IsIn block blocks → IsNamed quads entries block.at block.is_directory
  pub each : (at : ℕ) (is_directory : Bool) → IsNamed quads entries at is_directory → turn_at at is_directory < limit → IsIn (block_at quads at is_directory) blocks
  -- the entries of the listed directories in their order
  pub listed : entries ≡ flat_map (entries_of quads) blocks

-- The configuration ROM: all blocks and all entries. An entry stands behind its directory's header, and the header that it names
-- behind the entry, so no block justifies itself.
pub record RomTree (quads : List ℕ) (blocks : List Block) (entries : List Entry) : Type 0 where
  -- at least six quadlets, and the name of the bus
  pub long : 6 ≤ length quads
  pub name : IsTrue (has_name quads)
  pub rising : Rises 0 blocks
  pub stands : (block : Block) → IsIn block blocks → block ≡ block_at quads block.at block.is_directory
  pub sound : (block : Block) → IsIn block blocks → block_fault quads block.at block.is_directory ≡ None
  pub only : (block : Block) → IsIn block blocks → IsNamed quads entries block.at block.is_directory
  pub each : (at : ℕ) (is_directory : Bool) → IsNamed quads entries at is_directory → IsIn (block_at quads at is_directory) blocks
  pub listed : entries ≡ flat_map (entries_of quads) blocks

-- The fault of a block is told where its turn comes: all blocks before it are read and have none.
pub record StopsAt (quads : List ℕ) (told : RomFault) : Type 0 where
  pub at : ℕ
  pub is_directory : Bool
  pub blocks : List Block
  pub entries : List Entry
  pub long : 6 ≤ length quads
  pub name : IsTrue (has_name quads)
  pub before : TreeBelow (turn_at at is_directory) quads blocks entries
  pub named : IsNamed quads entries at is_directory
  pub fault : block_fault quads at is_directory ≡ Some told

-- The first fault in the order of reading.
abbrev pub FirstFault : List ℕ → RomFault → Type 0
FirstFault quads (faults.Short need) = (need ≡ 6) × (length quads < 6)
FirstFault quads faults.Name = (6 ≤ length quads) × (has_name quads ≡ false)
FirstFault quads (faults.Entry at) = StopsAt quads (faults.Entry at)
FirstFault quads (faults.Outside at) = StopsAt quads (faults.Outside at)
FirstFault quads faults.NoMemory = ⊥
