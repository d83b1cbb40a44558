-- The part of a packet in a transaction (IEEE 1394-1995, transaction layer).
use Rattle.std.specs.Prelude.{ℕ, ◌==◌, Bool, true, false, if◌then◌else◌, List, Result, Ok, Err}
use Rattle.async_packet.specs.declared.fault.PacketFault.{PacketFault}
use Rattle.async_packet.specs.Packet.{Packet, write_quadlet, write_block, write_response, read_quadlet, read_block, read_quadlet_response, read_block_response, lock, lock_response}
use Rattle.async_packet.specs.Reading.{reading}
use Rattle.packet_store.specs.declared.role.Role.{Role}
use Rattle.packet_store.specs.declared.role.Role.TheVariants.{Request, Response, NoPacket}

-- the role of a packet
abbrev pub role_in : Packet → Role
role_in (write_quadlet header offset value) = Request header.label
role_in (write_block header offset payload) = Request header.label
role_in (write_response header rcode) = Response header.label
role_in (read_quadlet header offset) = Request header.label
role_in (read_block header offset asked) = Request header.label
role_in (read_quadlet_response header rcode value) = Response header.label
role_in (read_block_response header rcode payload) = Response header.label
role_in (lock header offset extended payload) = Request header.label
role_in (lock_response header rcode extended payload) = Response header.label

-- the role of what bytes are
abbrev pub role_by : Result Packet PacketFault → Role
role_by (Ok packet) = role_in packet
role_by (Err fault) = NoPacket

-- the role of bytes
unfoldable pub role_of : List ℕ → Role
role_of bytes = role_by (reading bytes)

-- the tcodes of requests
abbrev pub asks : ℕ → Bool
asks tcode =
    if tcode == 0 then true
    else if tcode == 1 then true
    else if tcode == 2 then false
    else if tcode == 4 then true
    else if tcode == 5 then true
    else if tcode == 6 then false
    else if tcode == 7 then false
    else if tcode == 9 then true
    else false
