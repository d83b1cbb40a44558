-- A unit: its own state, and beside it what its medium holds.
use Rattle.std.specs.Prelude.{ℕ, ◌^◌, ◌==◌, Bool, true, false}
use Rattle.std.specs.Int.{bit_at, bit_not, w8}
use Rattle.std.specs.Int.Bits.{bit_and, bit_or}
use Rattle.rbc_disk.specs.Disk.{Disk}

-- A set of places of the login table is a mask: bit p stands for place p.
abbrev pub has_place : ℕ → ℕ → Bool
has_place places place = bit_at places place == 1

abbrev pub with_places : ℕ → ℕ → ℕ
with_places places more = bit_or places more

abbrev pub without_place : ℕ → ℕ → ℕ
without_place places place = bit_and places (bit_not w8 (2 ^ place))

-- whether the unit is started and its removal prevented, and the places that are marked: those that are to be told of a reset (unit attention), and those that are to be told of a changed medium
pub record UnitState : Type 0 where
  pub is_started : Bool
  pub is_prevented : Bool
  pub reset : ℕ
  pub changed : ℕ

-- a unit at the beginning
abbrev pub new_unit : UnitState
new_unit = record { is_started = true; is_prevented = false; reset = 0; changed = 0 }

-- a unit reset, with the places of the unit's logins
abbrev pub cleared : UnitState → ℕ → UnitState
cleared unit logins = record unit { is_started = true; is_prevented = false; reset = with_places unit.reset logins }

-- a changed medium, with the places of the logins to be told
abbrev pub changed_for : UnitState → ℕ → UnitState
changed_for unit logins = record unit { changed = with_places unit.changed logins }

-- the plain disk: a unit with what its medium holds
pub record PlainDisk : Type 0 where
  pub unit : UnitState
  pub medium : Disk

abbrev pub plain_disk : UnitState → Disk → PlainDisk
plain_disk unit medium = record { unit = unit; medium = medium }
