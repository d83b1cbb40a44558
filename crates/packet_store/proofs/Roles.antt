-- The role of bytes, by their tcode and their label.
use Rattle.std.proofs.Common.{◌≡◌, ◌∙◌, refl, ap, ℕ, ◌≤◌, ◌==◌, Bool, true, false, if◌then◌else◌, List, length, Some, None}
use Rattle.async_packet.specs.declared.fault.PacketFault.{PacketFault}
use Rattle.async_packet.specs.declared.packet.Header.{Header}
use Rattle.async_packet.specs.Faults.{fault_of}
use Rattle.async_packet.specs.Fields.{header_of, offset_of, rcode_of, value_of, length_of, extended_of, tcode_of}
use Rattle.async_packet.specs.Packet.{write_quadlet, write_block, write_response, read_quadlet, read_block, read_quadlet_response, read_block_response, lock, lock_response}
use Rattle.async_packet.specs.Reading.{packet_in, payload_in, reading, unless_fault}
use Rattle.async_packet.proofs.Judged.{passes}
use Rattle.packet_store.specs.declared.role.Role.{Role}
use Rattle.packet_store.specs.declared.role.Role.TheVariants.{Request, Response, NoPacket}
use Rattle.packet_store.specs.Roles.{asks, role_by, role_in, role_of}

-- bytes with a fault are no packet
pub role_of_fault : (bytes : List ℕ) (fault : PacketFault) → fault_of bytes ≡ Some fault → role_of bytes ≡ NoPacket
unfolding role_of reading
role_of_fault bytes fault e = ap (λ f. role_by (unless_fault f (packet_in bytes (tcode_of bytes)))) e

-- those without one have a quadlet 0
pub long_without_fault : (bytes : List ℕ) → fault_of bytes ≡ None → 4 ≤ length bytes
long_without_fault bytes none = (passes bytes (tcode_of bytes) none refl).long

abbrev named : Bool → ℕ → Role
named is_request label = if is_request then Request label else Response label

-- the kinds in turn
by_kind : (b0 b1 b2 b4 b5 b6 b7 b9 : Bool) (h : Header) (o r v l x : ℕ) (p : List ℕ)
    → role_in (if b0 then write_quadlet h o v else if b1 then write_block h o p else if b2 then write_response h r else if b4 then read_quadlet h o else if b5 then read_block h o l else if b6 then read_quadlet_response h r v else if b7 then read_block_response h r p else if b9 then lock h o x p else lock_response h r x p)
    ≡ named (if b0 then true else if b1 then true else if b2 then false else if b4 then true else if b5 then true else if b6 then false else if b7 then false else if b9 then true else false) h.label
by_kind true b1 b2 b4 b5 b6 b7 b9 h o r v l x p = refl
by_kind false true b2 b4 b5 b6 b7 b9 h o r v l x p = refl
by_kind false false true b4 b5 b6 b7 b9 h o r v l x p = refl
by_kind false false false true b5 b6 b7 b9 h o r v l x p = refl
by_kind false false false false true b6 b7 b9 h o r v l x p = refl
by_kind false false false false false true b7 b9 h o r v l x p = refl
by_kind false false false false false false true b9 h o r v l x p = refl
by_kind false false false false false false false true h o r v l x p = refl
by_kind false false false false false false false false h o r v l x p = refl

kind_in : (bytes : List ℕ) (t : ℕ) → role_in (packet_in bytes t) ≡ named (asks t) (header_of bytes).label
kind_in bytes t = by_kind (t == 0) (t == 1) (t == 2) (t == 4) (t == 5) (t == 6) (t == 7) (t == 9) (header_of bytes) (offset_of bytes) (rcode_of bytes) (value_of bytes) (length_of bytes) (extended_of bytes) (payload_in bytes)

read_as : (bytes : List ℕ) → fault_of bytes ≡ None → role_of bytes ≡ named (asks (tcode_of bytes)) (header_of bytes).label
unfolding role_of reading
read_as bytes none =
    ap (λ f. role_by (unless_fault f (packet_in bytes (tcode_of bytes)))) none
    ∙ kind_in bytes (tcode_of bytes)

-- a packet whose tcode is that of a request, and the others
pub role_of_request : (bytes : List ℕ) → fault_of bytes ≡ None → asks (tcode_of bytes) ≡ true → role_of bytes ≡ Request (header_of bytes).label
role_of_request bytes none e = read_as bytes none ∙ ap (λ b. named b (header_of bytes).label) e

pub role_of_response : (bytes : List ℕ) → fault_of bytes ≡ None → asks (tcode_of bytes) ≡ false → role_of bytes ≡ Response (header_of bytes).label
role_of_response bytes none e = read_as bytes none ∙ ap (λ b. named b (header_of bytes).label) e
