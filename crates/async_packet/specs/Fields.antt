-- The fields of an asynchronous packet, by their places (IEEE 1394-1995, asynchronous packets). Bit
-- 31 is the most significant bit of a quadlet.
use Rattle.std.specs.Prelude.{ℕ, ◌+◌, ◌*◌, ◌/◌, ◌%◌, ◌^◌, ◌==◌, ◌||◌, ◌&&◌, nat_le, Bool, not, if◌then◌else◌, List}
use Rattle.sbp_base.specs.Quadlets.{quad}
use Rattle.async_packet.specs.declared.packet.Header.{Header}

-- quadlet 0, bits 7 to 4
unfoldable pub tcode_of : List ℕ → ℕ
tcode_of bytes = quad bytes 0 / 2 ^ 4 % 2 ^ 4

-- quadlet 0 has the destination in bits 31 to 16, the label in 15 to 10, the retry code in 9 and 8
-- and the priority in 3 to 0; quadlet 1 has the source in bits 31 to 16
unfoldable pub header_of : List ℕ → Header
header_of bytes = record {
  destination = quad bytes 0 / 2 ^ 16;
  label = quad bytes 0 / 2 ^ 10 % 2 ^ 6;
  retry = quad bytes 0 / 2 ^ 8 % 2 ^ 2;
  priority = quad bytes 0 % 2 ^ 4;
  source = quad bytes 4 / 2 ^ 16;
}

-- a request's offset: its bits 47 to 32 in the low half of quadlet 1, the others in quadlet 2
unfoldable pub offset_of : List ℕ → ℕ
offset_of bytes = quad bytes 4 % 2 ^ 16 * 2 ^ 32 + quad bytes 8

-- a response's rcode: quadlet 1, bits 15 to 12
unfoldable pub rcode_of : List ℕ → ℕ
rcode_of bytes = quad bytes 4 / 2 ^ 12 % 2 ^ 4

-- quadlet 3 as a value
unfoldable pub value_of : List ℕ → ℕ
value_of bytes = quad bytes 12

-- data_length: quadlet 3, bits 31 to 16
unfoldable pub length_of : List ℕ → ℕ
length_of bytes = quad bytes 12 / 2 ^ 16

-- extended_tcode: quadlet 3, bits 15 to 0
unfoldable pub extended_of : List ℕ → ℕ
extended_of bytes = quad bytes 12 % 2 ^ 16

-- the tcodes of the kinds of packets
abbrev pub is_kind : ℕ → Bool
is_kind tcode = (nat_le tcode 2 || (nat_le 4 tcode && nat_le tcode 7)) || ((tcode == 9) || (tcode == 11))

-- the kinds that have a data_length: 1, 5, 7, 9 and B
abbrev pub has_length : ℕ → Bool
has_length tcode = ((tcode == 1) || (tcode == 5)) || ((tcode == 7) || ((tcode == 9) || (tcode == 11)))

-- the kinds of locks, which have an extended_tcode: 9 and B
abbrev pub is_lock : ℕ → Bool
is_lock tcode = (tcode == 9) || (tcode == 11)

-- the bytes of a kind before its payload
abbrev pub head_of : ℕ → ℕ
head_of tcode = if (tcode == 2) || (tcode == 4) then 12 else 16

-- a length padded to whole quadlets
abbrev pub padded : ℕ → ℕ
padded count = (count + 3) / 4 * 4

-- the bytes of a whole packet with this data_length: a read block request has no payload
abbrev pub whole_of : ℕ → ℕ → ℕ
whole_of tcode declared = if has_length tcode && not (tcode == 5) then 16 + padded declared else head_of tcode

-- the most bytes of payload
abbrev pub largest : ℕ
largest = 2048

-- the extended_tcodes of locks: 1 mask_swap, 2 compare_swap, 3 fetch_add, 4 little_add, 5
-- bounded_add, 6 wrap_add
abbrev pub is_extended : ℕ → Bool
is_extended code = nat_le 1 code && nat_le code 6

-- the lengths of a lock request: an argument for fetch_add and little_add, and else an argument and
-- a value, each of 4 or 8 bytes
abbrev pub is_request_length : ℕ → ℕ → Bool
is_request_length code count =
    if (code == 3) || (code == 4) then (count == 4) || (count == 8) else (count == 8) || (count == 16)

-- the lengths of a lock response: the old value, or nothing where the lock was refused
abbrev pub is_response_length : ℕ → Bool
is_response_length count = (count == 0) || ((count == 4) || (count == 8))

-- the lengths of a lock, by its tcode and its extended_tcode
abbrev pub is_lock_length : ℕ → ℕ → ℕ → Bool
is_lock_length tcode code count = if tcode == 9 then is_request_length code count else is_response_length count
