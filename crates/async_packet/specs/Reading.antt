-- What bytes are, as a function of them: the packet that they spell, or the fault of bytes that are no packet.
use Rattle.std.specs.Prelude.{◌≡◌, ◌↔◌, ℕ, ◌==◌, if◌then◌else◌, List, take, drop, Option, Some, None, Result, Ok, Err}
use Rattle.async_packet.specs.declared.fault.PacketFault.{PacketFault}
use Rattle.async_packet.specs.declared.packet.PacketRef.{PacketRef}
use Rattle.async_packet.specs.Packet.{Packet, view, write_quadlet, write_block, write_response, read_quadlet, read_block, read_quadlet_response, read_block_response, lock, lock_response}
use Rattle.async_packet.specs.Fields.{tcode_of, header_of, offset_of, rcode_of, value_of, length_of, extended_of}
use Rattle.async_packet.specs.Faults.{fault_of}
use Rattle.async_packet.specs.Spells.{Spells}

-- as many bytes behind the first 16 as data_length tells
abbrev pub payload_in : List ℕ → List ℕ
payload_in bytes = take (length_of bytes) (drop 16 bytes)

-- the packet of the fields in bytes of this tcode
abbrev pub packet_in : List ℕ → ℕ → Packet
packet_in bytes tcode =
    if tcode == 0 then write_quadlet (header_of bytes) (offset_of bytes) (value_of bytes)
    else if tcode == 1 then write_block (header_of bytes) (offset_of bytes) (payload_in bytes)
    else if tcode == 2 then write_response (header_of bytes) (rcode_of bytes)
    else if tcode == 4 then read_quadlet (header_of bytes) (offset_of bytes)
    else if tcode == 5 then read_block (header_of bytes) (offset_of bytes) (length_of bytes)
    else if tcode == 6 then read_quadlet_response (header_of bytes) (rcode_of bytes) (value_of bytes)
    else if tcode == 7 then read_block_response (header_of bytes) (rcode_of bytes) (payload_in bytes)
    else if tcode == 9 then lock (header_of bytes) (offset_of bytes) (extended_of bytes) (payload_in bytes)
    else lock_response (header_of bytes) (rcode_of bytes) (extended_of bytes) (payload_in bytes)

abbrev pub unless_fault : Option PacketFault → Packet → Result Packet PacketFault
unless_fault None packet = Ok packet
unless_fault (Some fault) packet = Err fault

-- what bytes are
unfoldable pub reading : List ℕ → Result Packet PacketFault
reading bytes = unless_fault (fault_of bytes) (packet_in bytes (tcode_of bytes))

-- what an answer says of bytes
abbrev pub viewed : Result PacketRef PacketFault → Result Packet PacketFault
viewed (Ok packet) = Ok (view packet)
viewed (Err fault) = Err fault

-- It gives a packet exactly where the bytes spell it, and a fault exactly where that is the fault of the bytes.
pub record ReadsSpelling : Type 0 where
  pub packets : (bytes : List ℕ) (p : Packet) → reading bytes ≡ Ok p ↔ Spells bytes p
  pub faults : (bytes : List ℕ) (f : PacketFault) → reading bytes ≡ Err f ↔ fault_of bytes ≡ Some f
