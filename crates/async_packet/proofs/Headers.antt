-- The header of bytes that spell a packet is the packet's.
use Rattle.std.specs.Prelude.{◌≡◌, List, ℕ}
use Rattle.async_packet.specs.Fields.{header_of}
use Rattle.async_packet.specs.Packet.{Packet, header_in, write_quadlet, write_block, write_response, read_quadlet, read_block, read_quadlet_response, read_block_response, lock, lock_response}
use Rattle.async_packet.specs.Spells.{Spells}

pub header_spelled : (bytes : List ℕ) (p : Packet) → Spells bytes p → header_in p ≡ header_of bytes
header_spelled bytes (write_quadlet header offset value) s = s.0.fields
header_spelled bytes (write_block header offset payload) s = s.0.fields
header_spelled bytes (write_response header rcode) s = s.0.fields
header_spelled bytes (read_quadlet header offset) s = s.0.fields
header_spelled bytes (read_block header offset asked) s = s.0.fields
header_spelled bytes (read_quadlet_response header rcode value) s = s.0.fields
header_spelled bytes (read_block_response header rcode payload) s = s.0.fields
header_spelled bytes (lock header offset extended payload) s = s.0.fields
header_spelled bytes (lock_response header rcode extended payload) s = s.0.fields
