-- The unsolicited status block: src 2, resp 0, dead 0, len 5, sbp_status 00, with the sense 6/28/00 (NCITS 325-1998, unsolicited status).
use Rattle.std.specs.Prelude.{◌≡◌, ℕ, ◌==◌, ◌&&◌, Bool, if◌then◌else◌, List, [], ◌∷◌, ◌++◌, length, Option, Some, None}
use Rattle.byteorder.specs.Endian.{big_bytes}
use Rattle.sbp_base.specs.Quadlets.{quad}
use Rattle.rbc_command.specs.SenseData.{sense}
use Rattle.rbc_command.specs.declared.sense.Sense.{Sense}

-- its first three quadlets, of 12 bytes
unfoldable pub block_head : List ℕ
block_head = big_bytes 4 0x85000000 ++ big_bytes 4 0x00000000 ++ big_bytes 4 0x02062800

-- its last three, which are reserved
abbrev pub reserved_zeros : List ℕ
reserved_zeros = 0 ∷ 0 ∷ 0 ∷ 0 ∷ 0 ∷ 0 ∷ 0 ∷ 0 ∷ 0 ∷ 0 ∷ 0 ∷ 0 ∷ []

-- the block has 24 bytes
abbrev pub block : List ℕ
block = block_head ++ reserved_zeros

-- 24 bytes whose first three quadlets are those of the block
abbrev pub is_block : List ℕ → Bool
is_block bytes = length bytes == 24 && quad bytes 0 == 0x85000000 && quad bytes 4 == 0x00000000 && quad bytes 8 == 0x02062800

-- what an initiator reads in such a block: the medium may have changed
abbrev pub read_block : List ℕ → Option Sense
read_block bytes = if is_block bytes then Some (sense 6 0x28 0) else None

-- The block is read whatever its reserved bytes are.
abbrev pub ReadsBlock : Type 0
ReadsBlock = (reserved : List ℕ) → length reserved ≡ 12 → read_block (block_head ++ reserved) ≡ Some (sense 6 0x28 0)
