-- The configuration ROM that is made.
use Rattle.std.specs.Prelude.{ℕ, zero, suc, ◌+◌, ◌*◌, ◌/◌, ◌%◌, ◌^◌, true, List, [], ◌∷◌, ◌++◌, length, Option, Some, None}
use Rattle.config_rom.specs.Sum.{sum_of}
use Rattle.config_rom.specs.declared.block.Block.{Block}
use Rattle.config_rom.specs.declared.block.Entry.{Entry}
use Rattle.config_rom.specs.declared.block.EntryKind.{EntryKind}
use Rattle.config_rom.specs.declared.block.EntryKind.TheVariants as kinds
use Rattle.config_rom.specs.declared.unit.SbpUnit.{SbpUnit}

-- the bus information block: its name, its capabilities, and the EUI-64
abbrev pub bus_quads : ℕ → List ℕ
bus_quads eui = 0x31333934 ∷ 0 ∷ eui / 2 ^ 32 ∷ eui % 2 ^ 32 ∷ []

-- a directory or leaf behind its header: its length and its sum
abbrev pub headed : List ℕ → List ℕ
headed quads = (length quads * 2 ^ 16 + sum_of quads) ∷ quads

-- the units' entries from number `first` on
abbrev pub unit_numbers : ℕ → ℕ → List ℕ
unit_numbers first zero = []
unit_numbers first (suc units) = (0x144E0000 + first) ∷ unit_numbers (suc first) units

abbrev pub unit_quads : ℕ → List ℕ
unit_quads units = 0x1200609E ∷ 0x13010483 ∷ 0x3800609E ∷ 0x390104D8 ∷ 0x54004000 ∷ 0x3A000408 ∷ unit_numbers 0 units

-- the root directory's entries: the vendor, the node's capabilities, and the unit directory where there are units
abbrev pub root_quads : ℕ → ℕ → List ℕ
root_quads eui zero = (0x03000000 + eui / 2 ^ 40) ∷ 0x0C0083C0 ∷ []
root_quads eui (suc units) = (0x03000000 + eui / 2 ^ 40) ∷ 0x0C0083C0 ∷ 0xD1000001 ∷ []

abbrev pub units_headed : ℕ → List ℕ
units_headed zero = []
units_headed (suc units) = headed (unit_quads (suc units))

unfoldable pub made : ℕ → ℕ → List ℕ
made eui units =
    (4 * 2 ^ 24 + 4 * 2 ^ 16 + sum_of (bus_quads eui)) ∷ bus_quads eui ++ headed (root_quads eui units) ++ units_headed units

-- ---- what is read of it

-- the root directory, and the unit directory where there are units, each with a right sum
abbrev pub made_blocks : ℕ → List Block
made_blocks zero = record { at = 5; length = 2; is_directory = true; sum_is_right = true } ∷ []
made_blocks (suc units) =
    record { at = 5; length = 3; is_directory = true; sum_is_right = true }
    ∷ record { at = 9; length = 7 + units; is_directory = true; sum_is_right = true } ∷ []

abbrev pub entry : ℕ → EntryKind → ℕ → ℕ → Entry
entry at kind key value = record { at = at; kind = kind; key = key; value = value }

-- the entries of the units from number `first` on
abbrev pub unit_entries : ℕ → ℕ → List Entry
unit_entries first zero = []
unit_entries first (suc units) = entry (16 + first) kinds.Immediate 0x14 (0x4E0000 + first) ∷ unit_entries (suc first) units

abbrev pub made_entries : ℕ → ℕ → List Entry
made_entries eui zero = entry 6 kinds.Immediate 0x03 (eui / 2 ^ 40) ∷ entry 7 kinds.Immediate 0x0C 0x0083C0 ∷ []
made_entries eui (suc units) =
    entry 6 kinds.Immediate 0x03 (eui / 2 ^ 40) ∷ entry 7 kinds.Immediate 0x0C 0x0083C0 ∷ entry 8 kinds.Directory 0x11 1
    ∷ entry 10 kinds.Immediate 0x12 0x00609E ∷ entry 11 kinds.Immediate 0x13 0x010483 ∷ entry 12 kinds.Immediate 0x38 0x00609E
    ∷ entry 13 kinds.Immediate 0x39 0x0104D8 ∷ entry 14 kinds.Csr 0x14 0x004000 ∷ entry 15 kinds.Immediate 0x3A 0x000408
    ∷ unit_entries 0 (suc units)

-- the unit of SBP-2, where there are units
abbrev pub made_unit : ℕ → Option SbpUnit
made_unit zero = None
made_unit (suc units) = Some (record { management = 0x4000; orb_quads = 8; timeout = 4; units = suc units; first_type = 14 })
