-- Status blocks, 8 to 32 bytes (NCITS 325-1998, status block; the check part is that of SCSI sense data).
use Rattle.std.specs.Prelude.{◌≡◌, ℕ, ◌+◌, ◌*◌, ◌/◌, ◌%◌, ◌^◌, ◌<◌, ◌==◌, ◌&&◌, nat_lt, Bool, true, false, if◌then◌else◌, List, [], ◌∷◌, ◌++◌, length, Option, Some, None, Result, Ok, Err}
use Rattle.std.specs.List.{list_any}
use Rattle.sbp_base.specs.Quadlets.{quad}
use Rattle.rbc_command.specs.declared.sense.Sense.{Sense}
use Rattle.rbc_command.specs.SenseData.{sense}
use Rattle.orb_layout.specs.declared.status.Row.{Row}
use Rattle.orb_layout.specs.declared.status.StatusBlock.{StatusBlock}
use Rattle.orb_layout.specs.declared.status.StatusKind.{StatusKind}
use Rattle.orb_layout.specs.declared.status.StatusKind.TheVariants.{Good, Check, Dummy, Aborted, Illegal, Failed, Management}
use Rattle.orb_layout.specs.declared.fault.OrbFault.{OrbFault}
use Rattle.orb_layout.specs.declared.fault.OrbFault.TheVariants.{Length, Form}
use Rattle.orb_layout.specs.Pointers.{quad_bytes, offset_at}

-- the fields of quadlet 0 above the ORB's offset: src, resp, dead, len and sbp_status
abbrev pub src_of : List ℕ → ℕ
src_of bytes = quad bytes 0 / 2 ^ 30

abbrev pub resp_of : List ℕ → ℕ
resp_of bytes = quad bytes 0 / 2 ^ 28 % 2 ^ 2

abbrev pub dead_of : List ℕ → ℕ
dead_of bytes = quad bytes 0 / 2 ^ 27 % 2

abbrev pub len_of : List ℕ → ℕ
len_of bytes = quad bytes 0 / 2 ^ 24 % 2 ^ 3

abbrev pub sbp_status_of : List ℕ → ℕ
sbp_status_of bytes = quad bytes 0 / 2 ^ 16 % 2 ^ 8

-- the fields of a row: resp, dead, len and sbp_status are these
abbrev pub has : List ℕ → ℕ → ℕ → ℕ → ℕ → Bool
has bytes resp dead len status =
    resp_of bytes == resp && dead_of bytes == dead && len_of bytes == len && sbp_status_of bytes == status

-- the check part: byte 0 is 02, the sense key is below 16, and the last three quadlets are zero
abbrev pub is_check_part : List ℕ → Bool
is_check_part bytes =
    quad bytes 8 / 2 ^ 24 == 2 && nat_lt (quad bytes 8 / 2 ^ 16 % 2 ^ 8) 16
    && quad bytes 12 == 0 && quad bytes 16 == 0 && quad bytes 20 == 0

abbrev pub sense_of : List ℕ → Sense
sense_of bytes = sense (quad bytes 8 / 2 ^ 16 % 2 ^ 8) (quad bytes 8 / 2 ^ 8 % 2 ^ 8) (quad bytes 8 % 2 ^ 8)

-- the meanings that a refused request may have, and those that a management operation may have
abbrev pub is_among : List ℕ → ℕ → Bool
is_among values status = list_any (λ value. status == value) values

abbrev pub illegal_meanings : List ℕ
illegal_meanings = 0x01 ∷ 0x02 ∷ 0x03 ∷ 0x06 ∷ 0xff ∷ []

abbrev pub management_meanings : List ℕ
management_meanings = 0x00 ∷ 0x01 ∷ 0x04 ∷ 0x05 ∷ 0x08 ∷ 0x09 ∷ 0x0a ∷ []

-- the rows of blocks that name a management ORB: one
abbrev pub management_kind : List ℕ → Option StatusKind
management_kind bytes =
    if has bytes 0 0 1 (sbp_status_of bytes) && is_among management_meanings (sbp_status_of bytes) && src_of bytes == 0
    then Some (Management (sbp_status_of bytes))
    else None

-- the rows of blocks that name any other ORB: six
unfoldable pub command_kind : List ℕ → Option StatusKind
command_kind bytes =
    if has bytes 0 0 1 0x00 then Some Good
    else if has bytes 0 0 5 0x00 && is_check_part bytes then Some (Check (sense_of bytes))
    else if has bytes 0 0 1 0x0b then Some Dummy
    else if has bytes 0 0 1 0x0c then Some Aborted
    else if has bytes 2 1 1 (sbp_status_of bytes) && is_among illegal_meanings (sbp_status_of bytes) then Some (Illegal (sbp_status_of bytes))
    else if has bytes 1 1 1 0xff then Some Failed
    else None

-- the row that reads a block, by the word whether it names a management ORB
abbrev pub kind_of : Bool → List ℕ → Option StatusKind
kind_of true bytes = management_kind bytes
kind_of false bytes = if nat_lt (src_of bytes) 2 then command_kind bytes else None

-- the bytes that a block has by its len
abbrev pub whole_length : List ℕ → ℕ
whole_length bytes = 4 * (len_of bytes + 1)

abbrev pub in_row : List ℕ → Option StatusKind → Result StatusBlock OrbFault
in_row bytes None = Err Form
in_row bytes (Some kind) = Ok record { src = src_of bytes; kind = kind; orb = offset_at bytes 0 }

abbrev pub read_block : Bool → List ℕ → Result StatusBlock OrbFault
read_block management bytes =
    if nat_lt (length bytes) 8 then Err (Length 8)
    else if nat_lt (length bytes) (whole_length bytes) then Err (Length (whole_length bytes))
    else if nat_lt (whole_length bytes) (length bytes) then Err Form
    else in_row bytes (kind_of management bytes)

-- what a block has in quadlet 0 by its kind
abbrev pub row : ℕ → ℕ → ℕ → ℕ → Row
row resp dead len status = record { resp = resp; dead = dead; len = len; status = status }

abbrev pub row_of : StatusKind → Row
row_of Good = row 0 0 1 0x00
row_of (Check told) = row 0 0 5 0x00
row_of Dummy = row 0 0 1 0x0b
row_of Aborted = row 0 0 1 0x0c
row_of (Illegal meaning) = row 2 1 1 meaning
row_of Failed = row 1 1 1 0xff
row_of (Management meaning) = row 0 0 1 meaning

abbrev pub status_head : StatusBlock → Row → ℕ
status_head block fields =
    block.src * 2 ^ 30 + fields.resp * 2 ^ 28 + fields.dead * 2 ^ 27 + fields.len * 2 ^ 24
    + fields.status * 2 ^ 16 + block.orb / 2 ^ 32

-- the first quadlet of the check part
abbrev pub sense_head : Sense → ℕ
sense_head told = 2 * 2 ^ 24 + told.key * 2 ^ 16 + told.code * 2 ^ 8 + told.qualifier

-- the quadlets of the check part
abbrev pub check_quads : StatusKind → List ℕ
check_quads (Check told) = sense_head told ∷ 0 ∷ 0 ∷ 0 ∷ []
check_quads _ = []

abbrev pub status_bytes : StatusBlock → List ℕ
status_bytes block =
    quad_bytes (status_head block (row_of block.kind) ∷ (block.orb % 2 ^ 32) ∷ []) ++ quad_bytes (check_quads block.kind)

-- The values of a kind that its row has.
abbrev pub IsKind : StatusKind → Type 0
IsKind (Check told) = (told.key < 16) × (told.code < 2 ^ 8) × (told.qualifier < 2 ^ 8)
IsKind (Illegal meaning) = is_among illegal_meanings meaning ≡ true
IsKind (Management meaning) = is_among management_meanings meaning ≡ true
IsKind _ = Unit {0}

-- the kind of a block that names a management ORB
abbrev pub is_management : StatusKind → Bool
is_management (Management meaning) = true
is_management _ = false

-- The blocks of the rows: src is 0 or 1, and 0 in the row management.
pub record IsStatusBlock (block : StatusBlock) : Type 0 where
  pub src : block.src < 2
  pub managed : is_management block.kind ≡ true → block.src ≡ 0
  pub kind : IsKind block.kind
  pub orb : block.orb < 2 ^ 48
