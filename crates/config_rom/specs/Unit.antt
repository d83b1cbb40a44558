-- The SBP-2 unit among the directories (SBP-2, "Configuration ROM").
use Rattle.std.specs.Prelude.{ℕ, ◌+◌, ◌*◌, ◌/◌, ◌%◌, ◌^◌, ◌==◌, ◌&&◌, Bool, true, if◌then◌else◌, List, [], ◌∷◌, take, drop, count_by, Option, Some, None}
use Rattle.std.specs.List.{list_any}
use Rattle.config_rom.specs.declared.block.Block.{Block}
use Rattle.config_rom.specs.declared.block.Entry.{Entry}
use Rattle.config_rom.specs.declared.block.EntryKind.{EntryKind}
use Rattle.config_rom.specs.declared.block.EntryKind.TheVariants as kinds
use Rattle.config_rom.specs.declared.unit.SbpUnit.{SbpUnit}
use Rattle.config_rom.specs.Tree.{names, root_of, block_at, entries_of}

-- a directory and its entries
pub record Directory : Type 0 where
  pub at : ℕ
  pub entries : List Entry

-- the directories among the blocks, each with its entries: as many as its length tells, behind those of the directories before it
abbrev pub directories : List Block → List Entry → List Directory
directories [] entries = []
directories (block ∷ blocks) entries =
    if block.is_directory
    then record { at = block.at; entries = take block.length entries } ∷ directories blocks (drop block.length entries)
    else directories blocks entries

abbrev pub type_bits : EntryKind → ℕ
type_bits kinds.Immediate = 0
type_bits kinds.Csr = 1
type_bits kinds.Leaf = 2
type_bits kinds.Directory = 3

-- type and key value together
abbrev pub key_byte : Entry → ℕ
key_byte entry = type_bits entry.kind * 2 ^ 6 + entry.key

abbrev pub has_key : ℕ → Entry → Bool
has_key key entry = key_byte entry == key

abbrev pub has_value : ℕ → ℕ → Entry → Bool
has_value key value entry = has_key key entry && (entry.value == value)

-- the entries that a unit of SBP-2 must have
abbrev pub is_sbp : List Entry → Bool
is_sbp entries =
    list_any (has_value 0x12 0x00609E) entries && list_any (has_value 0x13 0x010483) entries
    && list_any (has_key 0x54) entries && list_any (has_key 0x14) entries

-- the value of the first entry with a key byte
abbrev pub first_value : ℕ → ℕ → List Entry → ℕ
first_value key default [] = default
first_value key default (entry ∷ entries) = if has_key key entry then entry.value else first_value key default entries

-- the five numbers; without an entry 3Ah the ORB size is 8 and the time-out 0
abbrev pub unit_of : List Entry → SbpUnit
unit_of entries = record {
  management = first_value 0x54 0 entries;
  orb_quads = first_value 0x3A 8 entries % 2 ^ 8;
  timeout = first_value 0x3A 8 entries / 2 ^ 8 % 2 ^ 8;
  units = count_by (has_key 0x14) entries;
  first_type = first_value 0x14 0 entries / 2 ^ 16 % 2 ^ 5;
}

-- an entry of the root with type 3 and key value 11h that names a directory
abbrev pub names_unit : ℕ → Entry → Bool
names_unit at entry = names at true entry && (entry.key == 0x11)

abbrev pub is_unit : List Entry → Directory → Bool
is_unit root directory = list_any (names_unit directory.at) root && is_sbp directory.entries

-- the first unit directory, by position, of SBP-2
abbrev pub first_unit : List Entry → List Directory → Option SbpUnit
first_unit root [] = None
first_unit root (directory ∷ directories) = if is_unit root directory then Some (unit_of directory.entries) else first_unit root directories

-- the root directory is the first block
abbrev pub root_entries : List Block → List Entry → List Entry
root_entries [] entries = []
root_entries (root ∷ blocks) entries = take root.length entries

unfoldable pub sbp_unit_of : List Block → List Entry → Option SbpUnit
sbp_unit_of blocks entries = first_unit (root_entries blocks entries) (directories blocks entries)

-- ---- the same said of the quadlets

-- an entry of the root directory names the directory as a unit, and its entries are those of SBP-2
abbrev pub is_unit_block : List ℕ → Block → Bool
is_unit_block quads block =
    block.is_directory
    && (list_any (names_unit block.at) (entries_of quads (block_at quads (root_of quads) true)) && is_sbp (entries_of quads block))

-- the unit of the first such directory
abbrev pub unit_in : List ℕ → List Block → Option SbpUnit
unit_in quads [] = None
unit_in quads (block ∷ blocks) = if is_unit_block quads block then Some (unit_of (entries_of quads block)) else unit_in quads blocks
