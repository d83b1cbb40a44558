-- The spelling of a packet in which reserved bits and pad bytes are zero, and which packets have one.
use Rattle.std.specs.Prelude.{◌≡◌, ℕ, ◌+◌, ◌-◌, ◌*◌, ◌/◌, ◌%◌, ◌^◌, ◌<◌, ◌≤◌, List, ◌++◌, length, replicate, IsTrue, Ok}
use Rattle.byteorder.specs.Endian.{big_bytes}
use Rattle.async_packet.specs.declared.packet.Header.{Header}
use Rattle.async_packet.specs.Packet.{Packet, write_quadlet, write_block, write_response, read_quadlet, read_block, read_quadlet_response, read_block_response, lock, lock_response}
use Rattle.async_packet.specs.Fields.{padded, largest, is_extended, is_request_length, is_response_length}
use Rattle.async_packet.specs.Reading.{reading}
use Rattle.async_packet.specs.Spells.{Spells}

-- three quadlets
unfoldable pub three : ℕ → ℕ → ℕ → List ℕ
three a b c = big_bytes 4 a ++ (big_bytes 4 b ++ big_bytes 4 c)

-- four quadlets
unfoldable pub four : ℕ → ℕ → ℕ → ℕ → List ℕ
four a b c d = big_bytes 4 a ++ (big_bytes 4 b ++ (big_bytes 4 c ++ big_bytes 4 d))

-- quadlet 0
abbrev pub first_quad : ℕ → Header → ℕ
first_quad tcode header =
    header.destination * 2 ^ 16 + header.label * 2 ^ 10 + header.retry * 2 ^ 8 + tcode * 2 ^ 4 + header.priority

-- quadlet 1 of a request, and of a response
abbrev pub request_quad : Header → ℕ → ℕ
request_quad header offset = header.source * 2 ^ 16 + offset / 2 ^ 32

abbrev pub response_quad : Header → ℕ → ℕ
response_quad header rcode = header.source * 2 ^ 16 + rcode * 2 ^ 12

-- a request of three and of four quadlets, and the responses
abbrev pub short_request : ℕ → Header → ℕ → List ℕ
short_request tcode header offset = three (first_quad tcode header) (request_quad header offset) (offset % 2 ^ 32)

abbrev pub request : ℕ → Header → ℕ → ℕ → List ℕ
request tcode header offset last = four (first_quad tcode header) (request_quad header offset) (offset % 2 ^ 32) last

abbrev pub short_response : ℕ → Header → ℕ → List ℕ
short_response tcode header rcode = three (first_quad tcode header) (response_quad header rcode) 0

abbrev pub response : ℕ → Header → ℕ → ℕ → List ℕ
response tcode header rcode last = four (first_quad tcode header) (response_quad header rcode) 0 last

-- quadlet 3 with a data_length and an extended_tcode
abbrev pub length_quad : ℕ → ℕ → ℕ
length_quad declared extended = declared * 2 ^ 16 + extended

-- a payload with its pad
abbrev pub with_pad : List ℕ → List ℕ
with_pad payload = payload ++ replicate (padded (length payload) - length payload) 0

abbrev pub canon : Packet → List ℕ
canon (write_quadlet header offset value) = request 0 header offset value
canon (write_block header offset payload) = request 1 header offset (length_quad (length payload) 0) ++ with_pad payload
canon (write_response header rcode) = short_response 2 header rcode
canon (read_quadlet header offset) = short_request 4 header offset
canon (read_block header offset asked) = request 5 header offset (length_quad asked 0)
canon (read_quadlet_response header rcode value) = response 6 header rcode value
canon (read_block_response header rcode payload) = response 7 header rcode (length_quad (length payload) 0) ++ with_pad payload
canon (lock header offset extended payload) = request 9 header offset (length_quad (length payload) extended) ++ with_pad payload
canon (lock_response header rcode extended payload) = response 11 header rcode (length_quad (length payload) extended) ++ with_pad payload

-- the number of a packet's bytes
abbrev pub encoded_length : Packet → ℕ
encoded_length (write_quadlet header offset value) = 16
encoded_length (write_block header offset payload) = 16 + padded (length payload)
encoded_length (write_response header rcode) = 12
encoded_length (read_quadlet header offset) = 12
encoded_length (read_block header offset asked) = 16
encoded_length (read_quadlet_response header rcode value) = 16
encoded_length (read_block_response header rcode payload) = 16 + padded (length payload)
encoded_length (lock header offset extended payload) = 16 + padded (length payload)
encoded_length (lock_response header rcode extended payload) = 16 + padded (length payload)

-- a header whose fields fit their bits
pub record FitsHeader (header : Header) : Type 0 where
  pub destination : header.destination < 2 ^ 16
  pub label : header.label < 2 ^ 6
  pub retry : header.retry < 2 ^ 2
  pub priority : header.priority < 2 ^ 4
  pub source : header.source < 2 ^ 16

-- a packet whose fields fit their bits and whose lengths keep their rules
abbrev pub IsValid : Packet → Type 0
IsValid (write_quadlet header offset value) = FitsHeader header × (offset < 2 ^ 48) × (value < 2 ^ 32)
IsValid (write_block header offset payload) = FitsHeader header × (offset < 2 ^ 48) × (length payload ≤ largest)
IsValid (write_response header rcode) = FitsHeader header × (rcode < 2 ^ 4)
IsValid (read_quadlet header offset) = FitsHeader header × (offset < 2 ^ 48)
IsValid (read_block header offset asked) = FitsHeader header × (offset < 2 ^ 48) × (asked ≤ largest)
IsValid (read_quadlet_response header rcode value) = FitsHeader header × (rcode < 2 ^ 4) × (value < 2 ^ 32)
IsValid (read_block_response header rcode payload) = FitsHeader header × (rcode < 2 ^ 4) × (length payload ≤ largest)
IsValid (lock header offset extended payload) = FitsHeader header × (offset < 2 ^ 48) × IsTrue (is_extended extended) × IsTrue (is_request_length extended (length payload))
IsValid (lock_response header rcode extended payload) = FitsHeader header × (rcode < 2 ^ 4) × IsTrue (is_extended extended) × IsTrue (is_response_length (length payload))

-- The canonical spelling of a valid packet spells it.
abbrev pub CanonSpells : Type 0
CanonSpells = (p : Packet) → IsValid p → Spells (canon p) p

-- It has as many bytes as encoded_length tells.
abbrev pub CanonLength : Type 0
CanonLength = (p : Packet) → length (canon p) ≡ encoded_length p

-- Reading it gives the packet.
abbrev pub DecodesBack : Type 0
DecodesBack = (p : Packet) → IsValid p → reading (canon p) ≡ Ok p
