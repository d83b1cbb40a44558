-- Writing a label into canonical bytes.
use Rattle.std.specs.Prelude.{◌≡◌, ℕ, ◌+◌, ◌*◌, ◌/◌, ◌%◌, ◌^◌, ◌<◌, List, [], ◌∷◌, ◌++◌, refl}
use Rattle.std.specs.List.{All}
use Rattle.std.proofs.Common.{arith, ap}
use Rattle.std.proofs.lemmas.List.Elements.{All-set}
use Rattle.std.specs.Int.{bytes_high_first}
use Rattle.async_packet.specs.declared.packet.Header.{Header}
use Rattle.async_packet.specs.Packet.{Packet, write_quadlet, write_block, write_response, read_quadlet, read_block, read_quadlet_response, read_block_response, lock, lock_response}
use Rattle.async_packet.specs.Canon.{three, four, first_quad, FitsHeader, IsValid, canon}
use Rattle.label_table.specs.Requests.{label_of, with_label}
use Rattle.label_table.specs.Laws.{relabel, relabelled, WritesLabels}

quad_with : (number a b : ℕ) (rest : List ℕ) → b / 2 ^ 24 % 2 ^ 8 ≡ a / 2 ^ 24 % 2 ^ 8 → b / 2 ^ 16 % 2 ^ 8 ≡ a / 2 ^ 16 % 2 ^ 8 → number * 2 ^ 2 + a / 2 ^ 8 % 2 ^ 8 % 2 ^ 2 ≡ b / 2 ^ 8 % 2 ^ 8 → b % 2 ^ 8 ≡ a % 2 ^ 8 → with_label number (bytes_high_first 4 a ++ rest) ≡ bytes_high_first 4 b ++ rest
unfolding with_label
quad_with number a b rest e f g h = rw (e, f, ← g, h) refl

-- quadlet 0 with a label
first_with : (tcode number : ℕ) (header : Header) (rest : List ℕ) → tcode < 2 ^ 4 → number < 64 → FitsHeader header → with_label number (bytes_high_first 4 (first_quad tcode header) ++ rest) ≡ bytes_high_first 4 (first_quad tcode (relabel number header)) ++ rest
first_with tcode number header rest t n fits =
    quad_with number (first_quad tcode header) (first_quad tcode (relabel number header)) rest
    (omega (arith, t, n, fits.destination, fits.label, fits.retry, fits.priority))
    (omega (arith, t, n, fits.destination, fits.label, fits.retry, fits.priority))
    (omega (arith, t, n, fits.destination, fits.label, fits.retry, fits.priority))
    (omega (arith, t, n, fits.destination, fits.label, fits.retry, fits.priority))

three_with : (tcode number : ℕ) (header : Header) (b c : ℕ) → tcode < 2 ^ 4 → number < 64 → FitsHeader header → with_label number (three (first_quad tcode header) b c) ≡ three (first_quad tcode (relabel number header)) b c
unfolding three
three_with tcode number header b c t n fits = first_with tcode number header (bytes_high_first 4 b ++ bytes_high_first 4 c) t n fits

four_with : (tcode number : ℕ) (header : Header) (b c d : ℕ) (rest : List ℕ) → tcode < 2 ^ 4 → number < 64 → FitsHeader header → with_label number (four (first_quad tcode header) b c d ++ rest) ≡ four (first_quad tcode (relabel number header)) b c d ++ rest
unfolding four
four_with tcode number header b c d rest t n fits =
    first_with tcode number header (bytes_high_first 4 b ++ (bytes_high_first 4 c ++ (bytes_high_first 4 d ++ rest))) t n fits

whole_with : (tcode number : ℕ) (header : Header) (b c d : ℕ) → tcode < 2 ^ 4 → number < 64 → FitsHeader header → with_label number (four (first_quad tcode header) b c d) ≡ four (first_quad tcode (relabel number header)) b c d
unfolding four
whole_with tcode number header b c d t n fits =
    first_with tcode number header (bytes_high_first 4 b ++ (bytes_high_first 4 c ++ bytes_high_first 4 d)) t n fits

pub canonical_with : (p : Packet) (number : ℕ) → IsValid p → number < 64 → with_label number (canon p) ≡ canon (relabelled number p)
canonical_with (write_quadlet header offset value) number v n = whole_with 0 number header _ _ _ (omega arith) n v.0
canonical_with (write_block header offset payload) number v n = four_with 1 number header _ _ _ _ (omega arith) n v.0
canonical_with (write_response header rcode) number v n = three_with 2 number header _ _ (omega arith) n v.0
canonical_with (read_quadlet header offset) number v n = three_with 4 number header _ _ (omega arith) n v.0
canonical_with (read_block header offset asked) number v n = whole_with 5 number header _ _ _ (omega arith) n v.0
canonical_with (read_quadlet_response header rcode value) number v n = whole_with 6 number header _ _ _ (omega arith) n v.0
canonical_with (read_block_response header rcode payload) number v n = four_with 7 number header _ _ _ _ (omega arith) n v.0
canonical_with (lock header offset extended payload) number v n = four_with 9 number header _ _ _ _ (omega arith) n v.0
canonical_with (lock_response header rcode extended payload) number v n = four_with 11 number header _ _ _ _ (omega arith) n v.0

fits_with : (header : Header) (number : ℕ) → FitsHeader header → number < 64 → FitsHeader (relabel number header)
fits_with header number f n = record {
  destination = f.destination;
  label = n;
  retry = f.retry;
  priority = f.priority;
  source = f.source;
}

valid_with : (p : Packet) (number : ℕ) → IsValid p → number < 64 → IsValid (relabelled number p)
valid_with (write_quadlet header offset value) number v n = (fits_with header number v.0 n, v.1, v.2)
valid_with (write_block header offset payload) number v n = (fits_with header number v.0 n, v.1, v.2)
valid_with (write_response header rcode) number v n = (fits_with header number v.0 n, v.1)
valid_with (read_quadlet header offset) number v n = (fits_with header number v.0 n, v.1)
valid_with (read_block header offset asked) number v n = (fits_with header number v.0 n, v.1, v.2)
valid_with (read_quadlet_response header rcode value) number v n = (fits_with header number v.0 n, v.1, v.2)
valid_with (read_block_response header rcode payload) number v n = (fits_with header number v.0 n, v.1, v.2)
valid_with (lock header offset extended payload) number v n = (fits_with header number v.0 n, v.1, v.2, v.3)
valid_with (lock_response header rcode extended payload) number v n = (fits_with header number v.0 n, v.1, v.2, v.3)

last_with : (bytes : List ℕ) (number before : ℕ) → with_label number (with_label before bytes) ≡ with_label number bytes
unfolding with_label
last_with [] number before = refl
last_with (a ∷ []) number before = refl
last_with (a ∷ b ∷ []) number before = refl
last_with (a ∷ b ∷ c ∷ bytes) number before = ap (λ x. a ∷ b ∷ (number * 2 ^ 2 + x) ∷ bytes) (omega arith)

small_label : (bytes : List ℕ) → label_of bytes < 64
unfolding label_of
small_label bytes = omega arith

byte_with : (bytes : List ℕ) (number : ℕ) → All (λ byte. byte < 256) bytes → number < 64 → All (λ byte. byte < 256) (with_label number bytes)
unfolding with_label
byte_with bytes number all n = All-set (λ byte. byte < 256) bytes 2 _ (omega arith) all

pub writes_labels : WritesLabels
writes_labels = record { canonical = canonical_with; valid = valid_with; last = last_with; small = small_label; bytes = byte_with }
