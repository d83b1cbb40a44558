-- Packets as values: what a packet of the code says, with its payload in place of the lent slice.
use Rattle.std.specs.Prelude.{ℕ, List}
use Rattle.async_packet.specs.declared.packet.Header.{Header}
use Rattle.async_packet.specs.declared.packet.PacketRef.{PacketRef}
use Rattle.async_packet.specs.declared.packet.PacketRef.TheVariants as lent

-- The asynchronous packets (IEEE 1394-1995). Node IDs have 16 bits, offsets 48, quadlets 32.
pub data Packet : Type 0 where
  write_quadlet : Header → (offset value : ℕ) → Packet
  write_block : Header → (offset : ℕ) → (payload : List ℕ) → Packet
  write_response : Header → (rcode : ℕ) → Packet
  read_quadlet : Header → (offset : ℕ) → Packet
  read_block : Header → (offset asked : ℕ) → Packet
  read_quadlet_response : Header → (rcode value : ℕ) → Packet
  read_block_response : Header → (rcode : ℕ) → (payload : List ℕ) → Packet
  lock : Header → (offset extended : ℕ) → (payload : List ℕ) → Packet
  lock_response : Header → (rcode extended : ℕ) → (payload : List ℕ) → Packet

-- what a lent packet says
abbrev pub view : PacketRef → Packet
view (lent.WriteQuadlet header offset value) = write_quadlet header offset value
view (lent.WriteBlock header offset payload) = write_block header offset payload.now
view (lent.WriteResponse header rcode) = write_response header rcode
view (lent.ReadQuadlet header offset) = read_quadlet header offset
view (lent.ReadBlock header offset asked) = read_block header offset asked
view (lent.ReadQuadletResponse header rcode value) = read_quadlet_response header rcode value
view (lent.ReadBlockResponse header rcode payload) = read_block_response header rcode payload.now
view (lent.Lock header offset extended payload) = lock header offset extended payload.now
view (lent.LockResponse header rcode extended payload) = lock_response header rcode extended payload.now

-- the header of a packet
abbrev pub header_in : Packet → Header
header_in (write_quadlet header offset value) = header
header_in (write_block header offset payload) = header
header_in (write_response header rcode) = header
header_in (read_quadlet header offset) = header
header_in (read_block header offset asked) = header
header_in (read_quadlet_response header rcode value) = header
header_in (read_block_response header rcode payload) = header
header_in (lock header offset extended payload) = header
header_in (lock_response header rcode extended payload) = header
