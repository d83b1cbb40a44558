-- Which bytes spell which packet (IEEE 1394-1995, asynchronous packets). Reserved bits and pad bytes
-- are free.
use Rattle.std.specs.Prelude.{◌≡◌, ◌≤◌, ◌+◌, ℕ, List, length, take, drop, IsTrue}
use Rattle.async_packet.specs.declared.packet.Header.{Header}
use Rattle.async_packet.specs.Packet.{Packet, write_quadlet, write_block, write_response, read_quadlet, read_block, read_quadlet_response, read_block_response, lock, lock_response}
use Rattle.async_packet.specs.Fields.{tcode_of, header_of, offset_of, rcode_of, value_of, length_of, extended_of, padded, largest, is_extended, is_request_length, is_response_length}

-- bytes of this tcode and length, which is all of them, with this header
pub record IsRow (tcode count : ℕ) (bytes : List ℕ) (header : Header) : Type 0 where
  pub kind : tcode_of bytes ≡ tcode
  pub whole : length bytes ≡ count
  pub fields : header ≡ header_of bytes

-- bytes with this payload behind 16 bytes: as long as data_length tells, and padded to a quadlet
pub record HasPayload (bytes payload : List ℕ) : Type 0 where
  pub long : length payload ≡ length_of bytes
  pub small : length payload ≤ largest
  pub here : payload ≡ take (length payload) (drop 16 bytes)

-- an extended_tcode of a lock
pub record HasExtended (bytes : List ℕ) (extended : ℕ) : Type 0 where
  pub read : extended ≡ extended_of bytes
  pub known : IsTrue (is_extended extended)

-- One case for each tcode.
abbrev pub Spells : List ℕ → Packet → Type 0
Spells bytes (write_quadlet header offset value) = IsRow 0 16 bytes header × (offset ≡ offset_of bytes) × (value ≡ value_of bytes)
Spells bytes (write_block header offset payload) = IsRow 1 (16 + padded (length payload)) bytes header × (offset ≡ offset_of bytes) × HasPayload bytes payload
Spells bytes (write_response header rcode) = IsRow 2 12 bytes header × (rcode ≡ rcode_of bytes)
Spells bytes (read_quadlet header offset) = IsRow 4 12 bytes header × (offset ≡ offset_of bytes)
Spells bytes (read_block header offset asked) = IsRow 5 16 bytes header × (offset ≡ offset_of bytes) × (asked ≡ length_of bytes) × (asked ≤ largest)
Spells bytes (read_quadlet_response header rcode value) = IsRow 6 16 bytes header × (rcode ≡ rcode_of bytes) × (value ≡ value_of bytes)
Spells bytes (read_block_response header rcode payload) = IsRow 7 (16 + padded (length payload)) bytes header × (rcode ≡ rcode_of bytes) × HasPayload bytes payload
Spells bytes (lock header offset extended payload) = IsRow 9 (16 + padded (length payload)) bytes header × (offset ≡ offset_of bytes) × HasExtended bytes extended × HasPayload bytes payload × IsTrue (is_request_length extended (length payload))
Spells bytes (lock_response header rcode extended payload) = IsRow 11 (16 + padded (length payload)) bytes header × (rcode ≡ rcode_of bytes) × HasExtended bytes extended × HasPayload bytes payload × IsTrue (is_response_length (length payload))

-- No bytes spell two packets.
abbrev pub SpellsOnce : Type 0
SpellsOnce = (bytes : List ℕ) (p q : Packet) → Spells bytes p → Spells bytes q → p ≡ q
