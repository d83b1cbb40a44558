-- The fault of bytes that are no packet: the first of these that holds.
use Rattle.std.specs.Prelude.{ℕ, ◌-◌, Bool, nat_lt, not, ◌&&◌, if◌then◌else◌, List, [], ◌∷◌, length, Option, Some, None}
use Rattle.async_packet.specs.declared.fault.PacketFault.{PacketFault}
use Rattle.async_packet.specs.declared.fault.PacketFault.TheVariants.{Short, Code, TooBig, Long, Extended, LockLength}
use Rattle.async_packet.specs.Fields.{tcode_of, length_of, extended_of, is_kind, has_length, is_lock, is_extended, is_lock_length, head_of, whole_of, largest}

-- a row of the table: a fault, and where it holds
pub record Row : Type 0 where
  pub holds : Bool
  pub fault : PacketFault

abbrev row : Bool → PacketFault → Row
row holds fault = record { holds = holds; fault = fault }

-- the fault of the first row that holds
abbrev pub first : List Row → Option PacketFault
first [] = None
first (r ∷ rows) = if r.holds then Some r.fault else first rows

-- the last two rows, of bytes so many beside a whole packet
abbrev pub end_rows : ℕ → ℕ → List Row
end_rows count whole = row (nat_lt count whole) (Short whole) ∷ row (nat_lt whole count) (Long (count - whole)) ∷ []

-- the rows on data_length and extended_tcode, and the last two
abbrev pub length_rows : ℕ → ℕ → ℕ → ℕ → List Row
length_rows count tcode declared extended =
    row (has_length tcode && nat_lt largest declared) (TooBig declared)
    ∷ row (is_lock tcode && not (is_extended extended)) (Extended extended)
    ∷ row (is_lock tcode && not (is_lock_length tcode extended declared)) (LockLength declared)
    ∷ end_rows count (whole_of tcode declared)

-- all rows
abbrev pub rows : ℕ → ℕ → ℕ → ℕ → List Row
rows count tcode declared extended =
    row (nat_lt count 4) (Short 4)
    ∷ row (not (is_kind tcode)) (Code tcode)
    ∷ row (nat_lt count (head_of tcode)) (Short (head_of tcode))
    ∷ length_rows count tcode declared extended

-- the fault of bytes, if they have one
unfoldable pub fault_of : List ℕ → Option PacketFault
fault_of bytes = first (rows (length bytes) (tcode_of bytes) (length_of bytes) (extended_of bytes))
