-- The canonical spelling of a valid packet spells it.
use Rattle.std.proofs.Common.{◌≡◌, ◌∙◌, refl, sym, subst, ap, ℕ, ◌+◌, ◌-◌, ◌*◌, ◌/◌, ◌%◌, ◌^◌, ◌<◌, ◌≤◌, true, List, [], ◌++◌, length, take, drop, replicate, length-append, append-nil, arith}
use Rattle.std.proofs.lemmas.List.{take_at, length-replicate}
use Rattle.std.proofs.lemmas.Bool.Decides.{nat_tests}
use Rattle.byteorder.specs.Endian.{big_bytes}
use Rattle.byteorder.specs.Numbers.{big_number-reads_back}
use Rattle.sbp_base.specs.Quadlets.{quad}
use Rattle.async_packet.specs.declared.packet.Header.{Header}
use Rattle.async_packet.specs.Packet.{write_quadlet, write_block, write_response, read_quadlet, read_block, read_quadlet_response, read_block_response, lock, lock_response}
use Rattle.async_packet.specs.Fields.{tcode_of, header_of, offset_of, rcode_of, value_of, length_of, extended_of, padded, largest, is_extended, is_request_length, is_response_length}
use Rattle.async_packet.specs.Spells.{IsRow, HasPayload}
use Rattle.async_packet.specs.Canon.{three, four, first_quad, request_quad, response_quad, length_quad, request, response, with_pad, canon, FitsHeader, CanonSpells, CanonLength}

-- bytes that begin with three quadlets
record Begins (bytes : List ℕ) (a b c : ℕ) : Type 0 where
  pub first : quad bytes 0 ≡ a
  pub second : quad bytes 4 ≡ b
  pub third : quad bytes 8 ≡ c

begins_three : (a b c : ℕ) → a < 2 ^ 32 → b < 2 ^ 32 → c < 2 ^ 32 → Begins (three a b c) a b c
unfolding three
begins_three a b c h k l = record {
  first = big_number-reads_back 4 a (big_bytes 4 b ++ big_bytes 4 c) h;
  second = big_number-reads_back 4 b (big_bytes 4 c) k;
  third = big_number-reads_back 4 c [] l;
}

begins_four : (a b c d : ℕ) (rest : List ℕ) → a < 2 ^ 32 → b < 2 ^ 32 → c < 2 ^ 32 → Begins (four a b c d ++ rest) a b c
unfolding four
begins_four a b c d rest h k l = record {
  first = big_number-reads_back 4 a (big_bytes 4 b ++ (big_bytes 4 c ++ (big_bytes 4 d ++ rest))) h;
  second = big_number-reads_back 4 b (big_bytes 4 c ++ (big_bytes 4 d ++ rest)) k;
  third = big_number-reads_back 4 c (big_bytes 4 d ++ rest) l;
}

fourth : (a b c d : ℕ) (rest : List ℕ) → d < 2 ^ 32 → quad (four a b c d ++ rest) 12 ≡ d
unfolding four
fourth a b c d rest h = big_number-reads_back 4 d rest h

length_three : (a b c : ℕ) → length (three a b c) ≡ 12
unfolding three
length_three a b c = refl

length_four : (a b c d : ℕ) → length (four a b c d) ≡ 16
unfolding four
length_four a b c d = refl

behind_four : (a b c d : ℕ) (rest : List ℕ) → drop 16 (four a b c d ++ rest) ≡ rest
unfolding four
behind_four a b c d rest = refl

length_padded : (payload : List ℕ) → length (with_pad payload) ≡ padded (length payload)
length_padded payload =
    let pad : ℕ = padded (length payload) - length payload in
    let zeros : List ℕ = replicate pad 0 in
    let e : length zeros ≡ pad = length-replicate pad 0 in
    omega (arith, e, length-append payload zeros)

-- the fields that quadlet 0 and the source give back
kind_back : (bytes : List ℕ) (tcode b c : ℕ) (header : Header) → tcode < 2 ^ 4 → FitsHeader header → Begins bytes (first_quad tcode header) b c → tcode_of bytes ≡ tcode
unfolding tcode_of
kind_back bytes tcode b c header small fits begins = rw begins.first (omega (arith, small, fits.destination, fits.label, fits.retry, fits.priority))

header_back : (bytes : List ℕ) (tcode b c low : ℕ) (header : Header) → tcode < 2 ^ 4 → low < 2 ^ 16 → b ≡ header.source * 2 ^ 16 + low → FitsHeader header → Begins bytes (first_quad tcode header) b c → header ≡ header_of bytes
unfolding header_of
header_back bytes tcode b c low header small fits_low is fits begins =
    let q : ℕ = first_quad tcode header in
    let destination : q / 2 ^ 16 ≡ header.destination = omega (arith, small, fits.label, fits.retry, fits.priority) in
    let label : q / 2 ^ 10 % 2 ^ 6 ≡ header.label = omega (arith, small, fits.label, fits.retry, fits.priority) in
    let retry : q / 2 ^ 8 % 2 ^ 2 ≡ header.retry = omega (arith, small, fits.label, fits.retry, fits.priority) in
    let priority : q % 2 ^ 4 ≡ header.priority = omega (arith, small, fits.label, fits.retry, fits.priority) in
    let source : b / 2 ^ 16 ≡ header.source = omega (arith, is, fits_low) in
    rw (begins.first, begins.second, destination, label, retry, priority, source) refl

first_fits : (tcode : ℕ) (header : Header) → tcode < 2 ^ 4 → FitsHeader header → first_quad tcode header < 2 ^ 32
first_fits tcode header small fits = omega (arith, fits.destination, fits.label, fits.retry, fits.priority)

request_fits : (header : Header) (offset : ℕ) → FitsHeader header → offset < 2 ^ 48 → request_quad header offset < 2 ^ 32
request_fits header offset fits small = omega (arith, fits.source)

response_fits : (header : Header) (rcode : ℕ) → FitsHeader header → rcode < 2 ^ 4 → response_quad header rcode < 2 ^ 32
response_fits header rcode fits small = omega (arith, fits.source)

-- what a request's quadlets give back
offset_back : (bytes : List ℕ) (a offset : ℕ) (header : Header) → offset < 2 ^ 48 → Begins bytes a (request_quad header offset) (offset % 2 ^ 32) → offset ≡ offset_of bytes
unfolding offset_of
offset_back bytes a offset header small begins = rw (begins.second, begins.third) (omega arith)

rcode_back : (bytes : List ℕ) (a rcode : ℕ) (header : Header) → rcode < 2 ^ 4 → Begins bytes a (response_quad header rcode) 0 → rcode ≡ rcode_of bytes
unfolding rcode_of
rcode_back bytes a rcode header small begins = rw begins.second (omega arith)

request_row : (bytes : List ℕ) (tcode offset count : ℕ) (header : Header) → tcode < 2 ^ 4 → FitsHeader header → offset < 2 ^ 48 → length bytes ≡ count → Begins bytes (first_quad tcode header) (request_quad header offset) (offset % 2 ^ 32) → IsRow tcode count bytes header
request_row bytes tcode offset count header small fits far long begins = record {
  kind = kind_back bytes tcode _ _ header small fits begins;
  whole = long;
  fields = header_back bytes tcode _ _ (offset / 2 ^ 32) header small (omega arith) refl fits begins;
}

response_row : (bytes : List ℕ) (tcode rcode count : ℕ) (header : Header) → tcode < 2 ^ 4 → FitsHeader header → rcode < 2 ^ 4 → length bytes ≡ count → Begins bytes (first_quad tcode header) (response_quad header rcode) 0 → IsRow tcode count bytes header
response_row bytes tcode rcode count header small fits answer long begins = record {
  kind = kind_back bytes tcode _ _ header small fits begins;
  whole = long;
  fields = header_back bytes tcode _ _ (rcode * 2 ^ 12) header small (omega arith) refl fits begins;
}

-- bytes that spell a packet with nothing behind its four quadlets
begins_alone : (a b c d : ℕ) → a < 2 ^ 32 → b < 2 ^ 32 → c < 2 ^ 32 → Begins (four a b c d) a b c
begins_alone a b c d h k l = subst (λ bytes. Begins bytes a b c) (append-nil (four a b c d)) (begins_four a b c d [] h k l)

fourth_alone : (a b c d : ℕ) → d < 2 ^ 32 → quad (four a b c d) 12 ≡ d
fourth_alone a b c d h = subst (λ bytes. quad bytes 12 ≡ d) (append-nil (four a b c d)) (fourth a b c d [] h)

-- quadlet 3 gives back what it is made of
value_back : (bytes : List ℕ) (value : ℕ) → quad bytes 12 ≡ value → value ≡ value_of bytes
unfolding value_of
value_back bytes value e = sym e

length_back : (bytes : List ℕ) (declared extended : ℕ) → extended < 2 ^ 16 → quad bytes 12 ≡ length_quad declared extended → declared ≡ length_of bytes
unfolding length_of
length_back bytes declared extended small e = rw e (omega arith)

extended_back : (bytes : List ℕ) (declared extended : ℕ) → extended < 2 ^ 16 → quad bytes 12 ≡ length_quad declared extended → extended ≡ extended_of bytes
unfolding extended_of
extended_back bytes declared extended small e = rw e (omega arith)

-- bytes that hold a payload behind four quadlets
record Carries (bytes : List ℕ) (a b c declared extended : ℕ) (payload : List ℕ) : Type 0 where
  pub begins : Begins bytes a b c
  pub last : quad bytes 12 ≡ length_quad declared extended
  pub long : length bytes ≡ 16 + padded (length payload)
  pub here : payload ≡ take (length payload) (drop 16 bytes)

carries : (a b c extended : ℕ) (payload : List ℕ) → a < 2 ^ 32 → b < 2 ^ 32 → c < 2 ^ 32 → extended < 2 ^ 16 → length payload ≤ largest → Carries (four a b c (length_quad (length payload) extended) ++ with_pad payload) a b c (length payload) extended payload
carries a b c extended payload h k l small fits =
    let last : ℕ = length_quad (length payload) extended in
    let zeros : List ℕ = replicate (padded (length payload) - length payload) 0 in
    record {
      begins = begins_four a b c last (with_pad payload) h k l;
      last = fourth a b c last (with_pad payload) (omega (arith, small, fits));
      long = omega (arith, length-append (four a b c last) (with_pad payload), length_four a b c last, length_padded payload);
      here = sym (ap (take (length payload)) (behind_four a b c last (with_pad payload)) ∙ take_at payload zeros (length payload) refl);
    }

payload_back : (bytes : List ℕ) (a b c extended : ℕ) (payload : List ℕ) → extended < 2 ^ 16 → length payload ≤ largest → Carries bytes a b c (length payload) extended payload → HasPayload bytes payload
payload_back bytes a b c extended payload small fits carry = record {
  long = length_back bytes (length payload) extended small carry.last;
  small = fits;
  here = carry.here;
}

-- a request or a response with a payload
request_carries : (tcode offset extended : ℕ) (header : Header) (payload : List ℕ) → tcode < 2 ^ 4 → FitsHeader header → offset < 2 ^ 48 → extended < 2 ^ 16 → length payload ≤ largest → Carries (request tcode header offset (length_quad (length payload) extended) ++ with_pad payload) (first_quad tcode header) (request_quad header offset) (offset % 2 ^ 32) (length payload) extended payload
request_carries tcode offset extended header payload small fits far code long = carries _ _ _ extended payload (first_fits tcode header small fits) (request_fits header offset fits far) (omega arith) code long

response_carries : (tcode rcode extended : ℕ) (header : Header) (payload : List ℕ) → tcode < 2 ^ 4 → FitsHeader header → rcode < 2 ^ 4 → extended < 2 ^ 16 → length payload ≤ largest → Carries (response tcode header rcode (length_quad (length payload) extended) ++ with_pad payload) (first_quad tcode header) (response_quad header rcode) 0 (length payload) extended payload
response_carries tcode rcode extended header payload small fits answer code long = carries _ _ _ extended payload (first_fits tcode header small fits) (response_fits header rcode fits answer) (omega arith) code long

-- a request of four quadlets alone, and a response
request_begins : (tcode offset last : ℕ) (header : Header) → tcode < 2 ^ 4 → FitsHeader header → offset < 2 ^ 48 → Begins (request tcode header offset last) (first_quad tcode header) (request_quad header offset) (offset % 2 ^ 32)
request_begins tcode offset last header small fits far = begins_alone _ _ _ last (first_fits tcode header small fits) (request_fits header offset fits far) (omega arith)

response_begins : (tcode rcode last : ℕ) (header : Header) → tcode < 2 ^ 4 → FitsHeader header → rcode < 2 ^ 4 → Begins (response tcode header rcode last) (first_quad tcode header) (response_quad header rcode) 0
response_begins tcode rcode last header small fits answer = begins_alone _ _ _ last (first_fits tcode header small fits) (response_fits header rcode fits answer) (omega arith)

-- the lengths of locks are small, and so are their codes
request_small : (code count : ℕ) → is_request_length code count ≡ true → count ≤ 16
request_small code count h = grind (arith, nat_tests)

response_small : (count : ℕ) → is_response_length count ≡ true → count ≤ 8
response_small count h = grind (arith, nat_tests)

extended_small : (code : ℕ) → is_extended code ≡ true → code < 2 ^ 16
extended_small code h = grind (arith, nat_tests)

pub canon_spells : CanonSpells
canon_spells (write_quadlet header offset value) v =
    let bytes = request 0 header offset value in
    let begins = request_begins 0 offset value header (omega arith) v.0 v.1 in
    (request_row bytes 0 offset 16 header (omega arith) v.0 v.1 (length_four _ _ _ _) begins, offset_back bytes _ offset header v.1 begins, value_back bytes value (fourth_alone _ _ _ value v.2))
canon_spells (write_block header offset payload) v =
    let bytes = canon (write_block header offset payload) in
    let carry = request_carries 1 offset 0 header payload (omega arith) v.0 v.1 (omega arith) v.2 in
    (request_row bytes 1 offset _ header (omega arith) v.0 v.1 carry.long carry.begins, offset_back bytes _ offset header v.1 carry.begins, payload_back bytes _ _ _ 0 payload (omega arith) v.2 carry)
canon_spells (write_response header rcode) v =
    let bytes = canon (write_response header rcode) in
    let begins = begins_three (first_quad 2 header) (response_quad header rcode) 0 (first_fits 2 header (omega arith) v.0) (response_fits header rcode v.0 v.1) (omega arith) in
    (response_row bytes 2 rcode 12 header (omega arith) v.0 v.1 (length_three _ _ _) begins, rcode_back bytes _ rcode header v.1 begins)
canon_spells (read_quadlet header offset) v =
    let bytes = canon (read_quadlet header offset) in
    let begins = begins_three (first_quad 4 header) (request_quad header offset) (offset % 2 ^ 32) (first_fits 4 header (omega arith) v.0) (request_fits header offset v.0 v.1) (omega arith) in
    (request_row bytes 4 offset 12 header (omega arith) v.0 v.1 (length_three _ _ _) begins, offset_back bytes _ offset header v.1 begins)
canon_spells (read_block header offset asked) v =
    let bytes = canon (read_block header offset asked) in
    let begins = request_begins 5 offset (length_quad asked 0) header (omega arith) v.0 v.1 in
    let last = fourth_alone (first_quad 5 header) (request_quad header offset) (offset % 2 ^ 32) (length_quad asked 0) (omega (arith, v.2)) in
    (request_row bytes 5 offset 16 header (omega arith) v.0 v.1 (length_four _ _ _ _) begins, offset_back bytes _ offset header v.1 begins, length_back bytes asked 0 (omega arith) last, v.2)
canon_spells (read_quadlet_response header rcode value) v =
    let bytes = canon (read_quadlet_response header rcode value) in
    let begins = response_begins 6 rcode value header (omega arith) v.0 v.1 in
    (response_row bytes 6 rcode 16 header (omega arith) v.0 v.1 (length_four _ _ _ _) begins, rcode_back bytes _ rcode header v.1 begins, value_back bytes value (fourth_alone _ _ _ value v.2))
canon_spells (read_block_response header rcode payload) v =
    let bytes = canon (read_block_response header rcode payload) in
    let carry = response_carries 7 rcode 0 header payload (omega arith) v.0 v.1 (omega arith) v.2 in
    (response_row bytes 7 rcode _ header (omega arith) v.0 v.1 carry.long carry.begins, rcode_back bytes _ rcode header v.1 carry.begins, payload_back bytes _ _ _ 0 payload (omega arith) v.2 carry)
canon_spells (lock header offset extended payload) v =
    let bytes = canon (lock header offset extended payload) in
    let code = extended_small extended v.2 in
    let long : length payload ≤ largest = omega (arith, request_small extended (length payload) v.3) in
    let carry = request_carries 9 offset extended header payload (omega arith) v.0 v.1 code long in
    (request_row bytes 9 offset _ header (omega arith) v.0 v.1 carry.long carry.begins, offset_back bytes _ offset header v.1 carry.begins, record { read = extended_back bytes (length payload) extended code carry.last; known = v.2 }, payload_back bytes _ _ _ extended payload code long carry, v.3)
canon_spells (lock_response header rcode extended payload) v =
    let bytes = canon (lock_response header rcode extended payload) in
    let code = extended_small extended v.2 in
    let long : length payload ≤ largest = omega (arith, response_small (length payload) v.3) in
    let carry = response_carries 11 rcode extended header payload (omega arith) v.0 v.1 code long in
    (response_row bytes 11 rcode _ header (omega arith) v.0 v.1 carry.long carry.begins, rcode_back bytes _ rcode header v.1 carry.begins, record { read = extended_back bytes (length payload) extended code carry.last; known = v.2 }, payload_back bytes _ _ _ extended payload code long carry, v.3)

block_length : (a b c d : ℕ) (payload : List ℕ) → length (four a b c d ++ with_pad payload) ≡ 16 + padded (length payload)
block_length a b c d payload = omega (arith, length-append (four a b c d) (with_pad payload), length_four a b c d, length_padded payload)

pub canon_length : CanonLength
canon_length (write_quadlet header offset value) = length_four _ _ _ _
canon_length (write_block header offset payload) = block_length _ _ _ _ payload
canon_length (write_response header rcode) = length_three _ _ _
canon_length (read_quadlet header offset) = length_three _ _ _
canon_length (read_block header offset asked) = length_four _ _ _ _
canon_length (read_quadlet_response header rcode value) = length_four _ _ _ _
canon_length (read_block_response header rcode payload) = block_length _ _ _ _ payload
canon_length (lock header offset extended payload) = block_length _ _ _ _ payload
canon_length (lock_response header rcode extended payload) = block_length _ _ _ _ payload
