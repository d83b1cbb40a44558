-- A request has 12 to 2,064 bytes, and a label of 6 bits.
use Rattle.std.specs.Prelude.{ℕ, ◌<◌, ◌≤◌, ◌^◌, List, length}
use Rattle.std.proofs.Common.{arith}
use Rattle.async_packet.specs.Packet.{Packet, header_in, write_quadlet, write_block, write_response, read_quadlet, read_block, read_quadlet_response, read_block_response, lock, lock_response}
use Rattle.async_packet.specs.Fields.{header_of}
use Rattle.async_packet.proofs.Headers.{header_spelled}
use Rattle.async_packet.specs.Spells.{Spells}
use Rattle.label_table.specs.Requests.{IsRequest, IsRequestOf}

pub least_spelled : (bytes : List ℕ) (p : Packet) → Spells bytes p → 12 ≤ length bytes
least_spelled bytes (write_quadlet header offset value) s = let e = s.0.whole in omega arith
least_spelled bytes (write_block header offset payload) s = let e = s.0.whole in omega arith
least_spelled bytes (write_response header rcode) s = let e = s.0.whole in omega arith
least_spelled bytes (read_quadlet header offset) s = let e = s.0.whole in omega arith
least_spelled bytes (read_block header offset asked) s = let e = s.0.whole in omega arith
least_spelled bytes (read_quadlet_response header rcode value) s = let e = s.0.whole in omega arith
least_spelled bytes (read_block_response header rcode payload) s = let e = s.0.whole in omega arith
least_spelled bytes (lock header offset extended payload) s = let e = s.0.whole in omega arith
least_spelled bytes (lock_response header rcode extended payload) s = let e = s.0.whole in omega arith

most_spelled : (bytes : List ℕ) (p : Packet) → Spells bytes p → length bytes ≤ 2064
most_spelled bytes (write_quadlet header offset value) s = let e = s.0.whole in omega arith
most_spelled bytes (write_block header offset payload) s = let e = s.0.whole in let m = s.2.small in omega arith
most_spelled bytes (write_response header rcode) s = let e = s.0.whole in omega arith
most_spelled bytes (read_quadlet header offset) s = let e = s.0.whole in omega arith
most_spelled bytes (read_block header offset asked) s = let e = s.0.whole in omega arith
most_spelled bytes (read_quadlet_response header rcode value) s = let e = s.0.whole in omega arith
most_spelled bytes (read_block_response header rcode payload) s = let e = s.0.whole in let m = s.2.small in omega arith
most_spelled bytes (lock header offset extended payload) s = let e = s.0.whole in let m = s.3.small in omega arith
most_spelled bytes (lock_response header rcode extended payload) s = let e = s.0.whole in let m = s.3.small in omega arith

pub least_of_request : (bytes : List ℕ) → IsRequest bytes → 12 ≤ length bytes
least_of_request bytes r = least_spelled bytes r.packet r.spelled

pub most_of_request : (bytes : List ℕ) → IsRequest bytes → length bytes ≤ 2064
most_of_request bytes r = most_spelled bytes r.packet r.spelled

label_fits : (bytes : List ℕ) → (header_of bytes).label < 2 ^ 6
unfolding header_of
label_fits bytes = omega arith

pub label_spelled : (bytes : List ℕ) (p : Packet) → IsRequestOf bytes p → (header_in p).label < 2 ^ 6
label_spelled bytes p r = rw (header_spelled bytes p r.spelled) (label_fits bytes)
