-- Fields of quadlets, and the pointers and addresses in two quadlets (NCITS 325-1998, ORB pointers and address pointers).
use Rattle.std.specs.Prelude.{ℕ, ◌+◌, ◌*◌, ◌/◌, ◌%◌, ◌^◌, ◌<◌, ◌==◌, Bool, true, false, if◌then◌else◌, List}
use Rattle.std.specs.List.{flat_map}
use Rattle.byteorder.specs.Endian.{big_bytes}
use Rattle.sbp_base.specs.Quadlets.{quad}
use Rattle.orb_layout.specs.declared.pointer.OrbPointer.{OrbPointer}
use Rattle.orb_layout.specs.declared.pointer.OrbPointer.TheVariants.{Null, At}

-- a word as a bit
abbrev pub bit : Bool → ℕ
bit true = 1
bit false = 0

-- a bit of a quadlet as a word
abbrev pub flag : ℕ → ℕ → Bool
flag quadlet place = quadlet / 2 ^ place % 2 == 1

-- quadlets, one behind the other
abbrev pub quad_bytes : List ℕ → List ℕ
quad_bytes quads = flat_map (big_bytes 4) quads

-- an address in two quadlets: bits 47 to 32 in bits 15 to 0 of the first, bits 31 to 0 in the second
abbrev pub offset_at : List ℕ → ℕ → ℕ
offset_at bytes at = quad bytes at % 2 ^ 16 * 2 ^ 32 + quad bytes (at + 4)

-- the node ID of an address: bits 31 to 16 of its first quadlet
abbrev pub node_at : List ℕ → ℕ → ℕ
node_at bytes at = quad bytes at / 2 ^ 16

-- an ORB pointer: null where bit 31 of its first quadlet is 1
abbrev pub pointer_at : List ℕ → ℕ → OrbPointer
pointer_at bytes at = if quad bytes at / 2 ^ 31 == 1 then Null else At (offset_at bytes at)

-- the two quadlets of an ORB pointer
abbrev pub pointer_high : OrbPointer → ℕ
pointer_high Null = 2 ^ 31
pointer_high (At offset) = offset / 2 ^ 32

abbrev pub pointer_low : OrbPointer → ℕ
pointer_low Null = 0
pointer_low (At offset) = offset % 2 ^ 32

-- the places that an ORB pointer may name
abbrev pub IsPointer : OrbPointer → Type 0
IsPointer Null = Unit {0}
IsPointer (At offset) = offset < 2 ^ 48
