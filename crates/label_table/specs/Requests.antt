-- What the labels and the filter read of a request (IEEE 1394-1995, transaction layer): its label,
-- its kind, and its last occurrence.
use Rattle.std.specs.Prelude.{ℕ, ◌+◌, ◌*◌, ◌/◌, ◌%◌, ◌^◌, ◌==◌, nat_le, not, is_some, Bool, true, false, if◌then◌else◌, List, slice_set, slice_index_or, Option, Some, None, IsTrue}
use Rattle.std.specs.Str.{bytes_eq}
use Rattle.async_packet.specs.Fields.{tcode_of}
use Rattle.async_packet.specs.Packet.{Packet, write_quadlet, write_block, write_response, read_quadlet, read_block, read_quadlet_response, read_block_response, lock, lock_response}
use Rattle.async_packet.specs.Spells.{Spells}
use Rattle.label_table.specs.declared.reply.ReplyKind.{ReplyKind}
use Rattle.label_table.specs.declared.reply.ReplyKind.TheVariants as kinds

-- the kind of a response; a request has none
abbrev pub reply_kind : Packet → Option ReplyKind
reply_kind (write_quadlet header offset value) = None
reply_kind (write_block header offset payload) = None
reply_kind (write_response header rcode) = Some kinds.Write
reply_kind (read_quadlet header offset) = None
reply_kind (read_block header offset asked) = None
reply_kind (read_quadlet_response header rcode value) = Some kinds.ReadQuadlet
reply_kind (read_block_response header rcode payload) = Some kinds.ReadBlock
reply_kind (lock header offset extended payload) = None
reply_kind (lock_response header rcode extended payload) = Some kinds.Lock

-- the packets that ask for a response
abbrev pub is_request_packet : Packet → Bool
is_request_packet p = not (is_some (reply_kind p))

-- the bytes spell a request
pub record IsRequest (bytes : List ℕ) : Type 0 where
  pub packet : Packet
  pub spelled : Spells bytes packet
  pub asks : IsTrue (is_request_packet packet)

-- the bytes spell this request
pub record IsRequestOf (bytes : List ℕ) (packet : Packet) : Type 0 where
  pub spelled : Spells bytes packet
  pub asks : IsTrue (is_request_packet packet)

-- the label: quadlet 0, bits 15 to 10, which are the high six bits of byte 2
unfoldable pub label_of : List ℕ → ℕ
label_of bytes = slice_index_or bytes 2 0 / 2 ^ 2 % 2 ^ 6

-- the bytes with this label in them
unfoldable pub with_label : ℕ → List ℕ → List ℕ
with_label number bytes = slice_set bytes 2 (number * 2 ^ 2 + slice_index_or bytes 2 0 % 2 ^ 2)

-- a write: tcodes 0 and 1
unfoldable pub is_write : List ℕ → Bool
is_write bytes = nat_le (tcode_of bytes) 1

-- the kind of the response that a request with this tcode asks for
abbrev pub kind_by_tcode : ℕ → ReplyKind
kind_by_tcode tcode =
    if tcode == 4 then kinds.ReadQuadlet else if tcode == 5 then kinds.ReadBlock else if tcode == 9 then kinds.Lock else kinds.Write

unfoldable pub kind_of : List ℕ → ReplyKind
kind_of bytes = kind_by_tcode (tcode_of bytes)

abbrev pub is_kind : ReplyKind → ReplyKind → Bool
is_kind kinds.Write kinds.Write = true
is_kind kinds.ReadQuadlet kinds.ReadQuadlet = true
is_kind kinds.ReadBlock kinds.ReadBlock = true
is_kind kinds.Lock kinds.Lock = true
is_kind kind other = false

-- whether a last request, where there is one, has these bytes
abbrev pub is_last : Option (List ℕ) → List ℕ → Bool
is_last None bytes = false
is_last (Some last) bytes = bytes_eq last bytes
