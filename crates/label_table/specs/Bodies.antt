-- What a node asks of another, and the packets that it sends (IEEE 1394-1995, transaction layer).
use Rattle.std.specs.Prelude.{◌≡◌, ◌≤◌, ◌==◌, ℕ, if◌then◌else◌, List, [], length}
use Rattle.sbp_base.specs.Quadlets.{quad}
use Rattle.async_packet.specs.declared.packet.Header.{Header}
use Rattle.async_packet.specs.Fields.{largest}
use Rattle.async_packet.specs.Packet.{Packet, header_in, write_quadlet, write_block, write_response, read_quadlet, read_block, read_quadlet_response, read_block_response, lock, lock_response}
use Rattle.label_table.specs.declared.body.RequestBody.{RequestBody}
use Rattle.label_table.specs.declared.body.RequestBody.TheVariants as lent

-- what is asked for: a write or a read, of a quadlet or of a block
pub data Body : Type 0 where
  quadlet_write : (offset value : ℕ) → Body
  block_write : (offset : ℕ) → (payload : List ℕ) → Body
  quadlet_read : (offset : ℕ) → Body
  block_read : (offset asked : ℕ) → Body

-- what a lent body says
abbrev pub body_of : RequestBody → Body
body_of (lent.WriteQuadlet offset value) = quadlet_write offset value
body_of (lent.WriteBlock offset payload) = block_write offset payload.now
body_of (lent.ReadQuadlet offset) = quadlet_read offset
body_of (lent.ReadBlock offset asked) = block_read offset asked

-- no payload is too big, and none that is asked for
abbrev pub FitsBody : Body → Type 0
FitsBody (quadlet_write offset value) = Unit {0}
FitsBody (block_write offset payload) = length payload ≤ largest
FitsBody (quadlet_read offset) = Unit {0}
FitsBody (block_read offset asked) = asked ≤ largest

-- what a packet that a node sends begins with: retry code 1 and priority 0
abbrev pub header_to : ℕ → ℕ → ℕ → Header
header_to source destination label = record {
  destination = destination;
  label = label;
  retry = 1;
  priority = 0;
  source = source;
}

abbrev pub request_with : Header → Body → Packet
request_with header (quadlet_write offset value) = write_quadlet header offset value
request_with header (block_write offset payload) = write_block header offset payload
request_with header (quadlet_read offset) = read_quadlet header offset
request_with header (block_read offset asked) = read_block header offset asked

-- The response to a request. A read that is complete gives the bytes that were read, and another one
-- zero or nothing; no lock is done, so none gives the old value.
abbrev pub response_with : Header → Packet → ℕ → List ℕ → Packet
response_with header (read_quadlet asked offset) rcode given =
    read_quadlet_response header rcode (if rcode == 0 then quad given 0 else 0)
response_with header (read_block asked offset count) rcode given =
    read_block_response header rcode (if rcode == 0 then given else [])
response_with header (lock asked offset extended payload) rcode given = lock_response header rcode extended []
response_with header _ rcode given = write_response header rcode

-- a read that is complete gives as many bytes as were asked for
abbrev pub Gives : Packet → ℕ → List ℕ → Type 0
Gives (read_quadlet header offset) rcode given = rcode ≡ 0 → length given ≡ 4
Gives (read_block header offset asked) rcode given = rcode ≡ 0 → length given ≡ asked
Gives _ rcode given = Unit {0}

-- the response of a node to a request: to its source and under its label
abbrev pub response_to : ℕ → Packet → ℕ → List ℕ → Packet
response_to node request rcode given =
    response_with (header_to node (header_in request).source (header_in request).label) request rcode given
