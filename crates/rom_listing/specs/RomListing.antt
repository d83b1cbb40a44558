-- The listing of `rom`: the quadlets of all lines, joined, read as one configuration ROM (IEEE 1212), block by block, and its
-- SBP-2 unit.
use Rattle.std.specs.Prelude.{ℕ, zero, suc, ◌+◌, ◌*◌, ◌/◌, ◌%◌, ◌==◌, nat_lt, Bool, true, false, not, if◌then◌else◌, List, [], ◌∷◌, ◌++◌, take, drop, length, slice_index, codes, Option, Some, None, Result, Ok, Err}
use Rattle.std.specs.List.{flat_map}
use Rattle.std.specs.Str.Lines.{lines}
use Rattle.byteorder.specs.Endian.{big_bytes}
use Rattle.hex.specs.declared.error.FromHexError.{FromHexError}
use Rattle.sbp_base.specs.Quadlets.{quad}
use Rattle.config_rom.specs.Reading.{Tree, reading}
use Rattle.config_rom.specs.Tree.{eui_of, bus_sum_is_right}
use Rattle.config_rom.specs.Unit.{sbp_unit_of}
use Rattle.config_rom.specs.declared.block.Block.{Block}
use Rattle.config_rom.specs.declared.block.Entry.{Entry}
use Rattle.config_rom.specs.declared.block.EntryKind.{EntryKind}
use Rattle.config_rom.specs.declared.block.EntryKind.TheVariants as kinds
use Rattle.config_rom.specs.declared.fault.RomFault.{RomFault}
use Rattle.config_rom.specs.declared.fault.RomFault.TheVariants as rom_faults
use Rattle.config_rom.specs.declared.unit.SbpUnit.{SbpUnit}
use Rattle.line_session.specs.Lines.{too_many, too_long}
use Rattle.line_text.specs.Fields.{Field, number, digits, name, rest_of_line}
use Rattle.line_text.specs.Digits.{spelled, no_digits}

-- ---- the lines of a listing

-- a number in two digits for each of so many bytes
abbrev pub hexadecimal : ℕ → ℕ → Field
hexadecimal bytes n = digits (big_bytes bytes n)

abbrev pub quadlet : ℕ → Field
quadlet n = hexadecimal 4 n

-- whether a sum is right
abbrev pub sum_name : Bool → List ℕ
sum_name true = codes "ok"
sum_name false = codes "wrong"

abbrev pub block_name : Bool → List ℕ
block_name true = codes "dir"
block_name false = codes "leaf"

abbrev pub kind_name : EntryKind → List ℕ
kind_name kinds.Immediate = codes "imm"
kind_name kinds.Csr = codes "csr"
kind_name kinds.Leaf = codes "leaf"
kind_name kinds.Directory = codes "dir"

-- `rom Q`
abbrev pub count_line : List ℕ → List ℕ
count_line quads = codes "rom" ++ rest_of_line (number (length quads) ∷ [])

-- `bus NAME CAPS EUI ok`
abbrev pub bus_line : List ℕ → Tree → List ℕ
bus_line quads tree = codes "bus" ++ rest_of_line (quadlet (slice_index quads 1) ∷ quadlet (slice_index quads 2) ∷ hexadecimal 8 tree.eui ∷ name (sum_name tree.bus_sum_is_right) ∷ [])

-- `dir P L ok` or `leaf P L ok`
abbrev pub block_line : Block → List ℕ
block_line block = block_name block.is_directory ++ rest_of_line (number block.at ∷ number block.length ∷ name (sum_name block.sum_is_right) ∷ [])

-- `entry P KIND KEY VALUE`
abbrev pub entry_line : Entry → List ℕ
entry_line entry = codes "entry" ++ rest_of_line (number entry.at ∷ name (kind_name entry.kind) ∷ digits (entry.key ∷ []) ∷ hexadecimal 3 entry.value ∷ [])

-- `quad P XXXXXXXX`
abbrev pub quad_line : ℕ → ℕ → List ℕ
quad_line at value = codes "quad" ++ rest_of_line (number at ∷ quadlet value ∷ [])

-- the lines of quadlets that stand one behind the other from a position on
abbrev pub quad_lines : ℕ → List ℕ → List ℕ
quad_lines at [] = []
quad_lines at (value ∷ values) = quad_line at value ++ quad_lines (suc at) values

-- `unit M O T U D`
abbrev pub unit_line : Option SbpUnit → List ℕ
unit_line None = codes "no unit" ++ 10 ∷ []
unit_line (Some unit) = codes "unit" ++ rest_of_line (number unit.management ∷ number unit.orb_quads ∷ number unit.timeout ∷ number unit.units ∷ number unit.first_type ∷ [])

-- ---- the listing of quadlets

-- what a block has: a directory its entries, which are the next ones of the tree, a leaf its quadlets
abbrev pub own_lines : List ℕ → Block → List Entry → List ℕ
own_lines quads block entries =
    if block.is_directory then flat_map entry_line (take block.length entries)
    else quad_lines (block.at + 1) (take block.length (drop (block.at + 1) quads))

-- the entries of the directories behind a block
abbrev pub entries_behind : Block → List Entry → List Entry
entries_behind block entries = if block.is_directory then drop block.length entries else entries

abbrev pub block_lines : List ℕ → List Block → List Entry → List ℕ
block_lines quads [] entries = []
block_lines quads (block ∷ blocks) entries = (block_line block ++ own_lines quads block entries) ++ block_lines quads blocks (entries_behind block entries)

abbrev pub tree_lines : List ℕ → Tree → List ℕ
tree_lines quads tree = (count_line quads ++ bus_line quads tree) ++ (block_lines quads tree.blocks tree.entries ++ unit_line (sbp_unit_of tree.blocks tree.entries))

-- a ROM with these blocks and entries
abbrev pub rom_tree : List ℕ → List Block → List Entry → Tree
rom_tree quads blocks entries = record { blocks = blocks; entries = entries; eui = eui_of quads; bus_sum_is_right = bus_sum_is_right quads }

-- the number of a fault, its name and its position; of Short the need in place of that, of Name nothing
abbrev pub rom_fault_fields : RomFault → List Field
rom_fault_fields (rom_faults.Short need) = number 1 ∷ name (codes "Short") ∷ number need ∷ []
rom_fault_fields rom_faults.Name = number 2 ∷ name (codes "Name") ∷ []
rom_fault_fields (rom_faults.Entry at) = number 3 ∷ name (codes "Entry") ∷ number at ∷ []
rom_fault_fields (rom_faults.Outside at) = number 4 ∷ name (codes "Outside") ∷ number at ∷ []
rom_fault_fields rom_faults.NoMemory = []

abbrev pub rom_fault_line : RomFault → List ℕ
rom_fault_line fault = codes "fault" ++ rest_of_line (rom_fault_fields fault)

-- the listing of a ROM that was read, or its fault alone
abbrev pub rom_lines : List ℕ → Result Tree RomFault → List ℕ
rom_lines quads (Ok tree) = tree_lines quads tree
rom_lines quads (Err fault) = rom_fault_line fault

unfoldable pub rom_listing : List ℕ → List ℕ
rom_listing quads = rom_lines quads (reading quads)

-- ---- the quadlets of lines

-- so many quadlets of bytes from the `at`-th on
abbrev pub quads_from : List ℕ → ℕ → ℕ → List ℕ
quads_from bytes at zero = []
quads_from bytes at (suc count) = quad bytes (4 * at) ∷ quads_from bytes (suc at) count

unfoldable pub quads_of : List ℕ → List ℕ
quads_of bytes = quads_from bytes 0 (length bytes / 4)

-- the numbers of the faults of a line whose bytes are no whole quadlets, and of one with which the quadlets pass 256
abbrev pub no_quadlets : ℕ
no_quadlets = 4

abbrev pub many_quadlets : ℕ
many_quadlets = 5

-- quadlets with those of bytes behind them
abbrev pub with_bytes : List ℕ → List ℕ → Result (List ℕ) ℕ
with_bytes quads bytes =
    if not (length bytes % 4 == 0) then Err no_quadlets
    else if nat_lt 256 (length quads + length (quads_of bytes)) then Err many_quadlets
    else Ok (quads ++ quads_of bytes)

-- the same of the bytes that digits spell
abbrev pub with_spelled : List ℕ → Result (List ℕ) FromHexError → Result (List ℕ) ℕ
with_spelled quads (Ok bytes) = with_bytes quads bytes
with_spelled quads (Err error) = Err no_digits

-- quadlets with those of a line behind them, or the number of the first fault that holds of it
abbrev pub with_line : ℕ → List ℕ → List ℕ → Result (List ℕ) ℕ
with_line n quads line =
    if nat_lt 65536 n then Err too_many
    else if nat_lt 8192 (length line) then Err too_long
    else with_spelled quads (spelled line)

abbrev pub onto_rom : ℕ → Result (List ℕ) ℕ → (List ℕ → Result (List ℕ) (ℕ × ℕ)) → Result (List ℕ) (ℕ × ℕ)
onto_rom n (Ok quads) rest = rest quads
onto_rom n (Err fault) rest = Err (n, fault)

-- quadlets with those of lines that are counted from `n` on, or the first faulty line's number and that of its fault
abbrev pub rom_from : ℕ → List (List ℕ) → List ℕ → Result (List ℕ) (ℕ × ℕ)
rom_from n [] quads = Ok quads
rom_from n (line ∷ rest) quads = onto_rom n (with_line n quads line) (rom_from (suc n) rest)

-- the quadlets of a list of bytes; lines are counted from 1
abbrev pub rom_quads : List ℕ → Result (List ℕ) (ℕ × ℕ)
rom_quads bytes = rom_from 1 (lines bytes) []
