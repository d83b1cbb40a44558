-- Writing a label into bytes that spell a packet.
use Rattle.std.specs.Prelude.{◌≡◌, ℕ, ◌<◌, ◌≤◌, List, length, take, drop}
use Rattle.std.specs.List.{All}
use Rattle.std.proofs.Common.{arith, sym, ◌∙◌, ap}
use Rattle.std.proofs.lemmas.List.{drop-set-lt}
use Rattle.async_packet.specs.declared.packet.Header.{Header}
use Rattle.async_packet.specs.Fields.{offset_of, rcode_of, value_of, length_of, extended_of}
use Rattle.async_packet.specs.Packet.{Packet, write_quadlet, write_block, write_response, read_quadlet, read_block, read_quadlet_response, read_block_response, lock, lock_response}
use Rattle.async_packet.specs.Spells.{Spells, IsRow, HasPayload, HasExtended}
use Rattle.label_table.specs.Requests.{with_label}
use Rattle.label_table.specs.Laws.{relabel, relabelled, RelabelledLaw}
use Rattle.label_table.proofs.Parts.{label_length}
use Rattle.label_table.proofs.Steps.{tcode_with}
use Rattle.label_table.proofs.Requests.{least_spelled}
use Rattle.label_table.proofs.Laws.{header_law}

drop_with : (number at : ℕ) (bytes : List ℕ) → 2 < at → drop at (with_label number bytes) ≡ drop at bytes
unfolding with_label
drop_with number at bytes h = drop-set-lt at bytes 2 _ h

offset_with : (number : ℕ) (bytes : List ℕ) → offset_of (with_label number bytes) ≡ offset_of bytes
unfolding offset_of
offset_with number bytes = rw (drop_with number 4 bytes (omega arith), drop_with number 8 bytes (omega arith))

rcode_with : (number : ℕ) (bytes : List ℕ) → rcode_of (with_label number bytes) ≡ rcode_of bytes
unfolding rcode_of
rcode_with number bytes = rw (drop_with number 4 bytes (omega arith))

value_with : (number : ℕ) (bytes : List ℕ) → value_of (with_label number bytes) ≡ value_of bytes
unfolding value_of
value_with number bytes = rw (drop_with number 12 bytes (omega arith))

length_with : (number : ℕ) (bytes : List ℕ) → length_of (with_label number bytes) ≡ length_of bytes
unfolding length_of
length_with number bytes = rw (drop_with number 12 bytes (omega arith))

extended_with : (number : ℕ) (bytes : List ℕ) → extended_of (with_label number bytes) ≡ extended_of bytes
unfolding extended_of
extended_with number bytes = rw (drop_with number 12 bytes (omega arith))

row_with : (tcode count number : ℕ) (bytes : List ℕ) (header : Header) → All (λ byte. byte < 256) bytes → number < 64 → 12 ≤ length bytes → IsRow tcode count bytes header → IsRow tcode count (with_label number bytes) (relabel number header)
row_with tcode count number bytes header all small least r = record {
  kind = tcode_with number bytes least ∙ r.kind;
  whole = label_length number bytes ∙ r.whole;
  fields = ap (relabel number) r.fields ∙ sym (header_law bytes number all least small);
}

payload_with : (number : ℕ) (bytes payload : List ℕ) → HasPayload bytes payload → HasPayload (with_label number bytes) payload
payload_with number bytes payload p = record {
  long = p.long ∙ sym (length_with number bytes);
  small = p.small;
  here = p.here ∙ ap (take (length payload)) (sym (drop_with number 16 bytes (omega arith)));
}

lock_with : (number : ℕ) (bytes : List ℕ) (extended : ℕ) → HasExtended bytes extended → HasExtended (with_label number bytes) extended
lock_with number bytes extended e = record { read = e.read ∙ sym (extended_with number bytes); known = e.known }

spelled_with : (bytes : List ℕ) (p : Packet) (number : ℕ) → All (λ byte. byte < 256) bytes → number < 64 → 12 ≤ length bytes → Spells bytes p → Spells (with_label number bytes) (relabelled number p)
spelled_with bytes (write_quadlet header offset value) number all small least s = (row_with _ _ number bytes header all small least s.0, s.1 ∙ sym (offset_with number bytes), s.2 ∙ sym (value_with number bytes))
spelled_with bytes (write_block header offset payload) number all small least s = (row_with _ _ number bytes header all small least s.0, s.1 ∙ sym (offset_with number bytes), payload_with number bytes payload s.2)
spelled_with bytes (write_response header rcode) number all small least s = (row_with _ _ number bytes header all small least s.0, s.1 ∙ sym (rcode_with number bytes))
spelled_with bytes (read_quadlet header offset) number all small least s = (row_with _ _ number bytes header all small least s.0, s.1 ∙ sym (offset_with number bytes))
spelled_with bytes (read_block header offset asked) number all small least s = (row_with _ _ number bytes header all small least s.0, s.1 ∙ sym (offset_with number bytes), s.2 ∙ sym (length_with number bytes), s.3)
spelled_with bytes (read_quadlet_response header rcode value) number all small least s = (row_with _ _ number bytes header all small least s.0, s.1 ∙ sym (rcode_with number bytes), s.2 ∙ sym (value_with number bytes))
spelled_with bytes (read_block_response header rcode payload) number all small least s = (row_with _ _ number bytes header all small least s.0, s.1 ∙ sym (rcode_with number bytes), payload_with number bytes payload s.2)
spelled_with bytes (lock header offset extended payload) number all small least s = (row_with _ _ number bytes header all small least s.0, s.1 ∙ sym (offset_with number bytes), lock_with number bytes extended s.2, payload_with number bytes payload s.3, s.4)
spelled_with bytes (lock_response header rcode extended payload) number all small least s = (row_with _ _ number bytes header all small least s.0, s.1 ∙ sym (rcode_with number bytes), lock_with number bytes extended s.2, payload_with number bytes payload s.3, s.4)

pub relabelled_law : RelabelledLaw
relabelled_law bytes p number all small s = spelled_with bytes p number all small (least_spelled bytes p s) s
