-- The places of a ring as a function: what it has under a serial.
use Rattle.std.specs.Prelude.{◌≡◌, ℕ, ◌==◌, ◌%◌, nat_eq, Bool, true, false, if◌then◌else◌, List, Option, Some, None, slice_index_or}
use Rattle.std.specs.Map.{lookup}
use Rattle.packet_store.specs.declared.ring.Place.{Place}
use Rattle.packet_store.specs.declared.ring.Ring.{Ring}

-- the slot of a serial
abbrev pub slot_of : ℕ → ℕ
slot_of serial = serial % 2048

-- what a slot has
abbrev pub slot : List (Option Place) → ℕ → Option Place
slot slots at = slice_index_or slots at None

-- a slot has the place of this serial
abbrev pub is_of : ℕ → Option Place → Bool
is_of serial None = false
is_of serial (Some k) = k.serial == serial

-- what a slot has, if that is of this serial, else what the older ones have
abbrev pub pick : ℕ → Option Place → Option Place → Option Place
pick serial None older = older
pick serial (Some k) older = if k.serial == serial then Some k else older

-- what the older ones have
abbrev pub older : List (ℕ × Place) → ℕ → Option Place
older entries serial = lookup (nat_eq serial) entries

-- the ring has this under a serial
unfoldable pub finds : Ring → ℕ → Option Place
finds ring serial = pick serial (slot ring.slots.items (slot_of serial)) (older ring.older.entries serial)

-- each place in a slot is in that of its serial
abbrev pub Placed : List (Option Place) → Type 0
Placed slots = (at : ℕ) (k : Place) → slot slots at ≡ Some k → slot_of k.serial ≡ at

-- no older place has a serial whose place is in its slot
abbrev pub Apart : List (Option Place) → List (ℕ × Place) → Type 0
Apart slots entries = (q : ℕ) → is_of q (slot slots (slot_of q)) ≡ true → older entries q ≡ None

-- a serial has one place at most
pub record IsRing (ring : Ring) : Type 0 where
  pub placed : Placed ring.slots.items
  pub apart : Apart ring.slots.items ring.older.entries
