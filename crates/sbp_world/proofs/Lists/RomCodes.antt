-- The packets of a target that give a quadlet (IEEE 1394-1995, read response for data quadlet): such a packet is the response to a read of a quadlet, with the quadlet that
-- was given. No request is one.
use Rattle.sbp_world.proofs.Words.Std.{arith, ◌≡◌, ◌∙◌, refl, sym, ap, ℕ, ◌+◌, ◌*◌, ◌/◌, ◌%◌, ◌^◌, ◌<◌, ◌==◌, Bool, true, false, cond, List, [], ◌++◌, Option, Some, None, big_bytes, big_from-bytes, quad}
use Rattle.sbp_world.proofs.Words.Wire.{Header, canon, first_quad, four, response_quad, three, tcode_of, value_of, Packet, lock, lock_response, read_block, read_block_response, read_quadlet, read_quadlet_response, write_block, write_quadlet, write_response, Asked, Body, block_read, block_write, header_to, quadlet_read, quadlet_write, request_with, response_to, Layer, asked_at, asking_in, asking_step, peer_at, peer_place, unlabelled, begun_for, with_label, begin_at, begin_step, lowest_from}
use Rattle.sbp_world.proofs.Lists.RomBytes.{IsGiven, none_given}
use Rattle.sbp_world.proofs.Lists.RomKeys.{IsRomQuad, none_keyed}
use Rattle.sbp_world.proofs.Hosts.Mild.{quad_tcode, tcode_same}
use Rattle.sbp_world.proofs.Common.{untrue}

-- a packet that gives a quadlet gives one that may stand in the target's ROM
abbrev pub IsFair : List ℕ → Type 0
IsFair bytes = (tcode_of bytes == 6) ≡ true → IsRomQuad (value_of bytes)

-- ---- the tcode stands in the first quadlet, what is given in the fourth

other_code : (peer label tcode : ℕ) (bytes rest : List ℕ) → tcode < 16 → (tcode == 6) ≡ false → bytes ≡ big_bytes 4 (peer * 2 ^ 16 + label * 2 ^ 10 + 1 * 2 ^ 8 + tcode * 2 ^ 4 + 0) ++ rest → (tcode_of bytes == 6) ≡ false
other_code peer label tcode bytes rest small apart e = ap (λ n. n == 6) (quad_tcode peer label tcode bytes rest small e) ∙ apart

fair_by : (bytes : List ℕ) → (tcode_of bytes == 6) ≡ false → IsFair bytes
fair_by bytes e f = untrue (sym e ∙ f)

value_four : (a b c d : ℕ) → value_of (four a b c d) ≡ d % 256 ^ 4
unfolding value_of four
value_four a b c d = big_from-bytes 4 d []

-- ---- a response

-- what is given to a read of a quadlet
abbrev pub IsGivenTo : Packet → List ℕ → Type 0
IsGivenTo (read_quadlet header offset) given = IsGiven given
IsGivenTo request given = Unit {0}

pub none_given_to : (p : Packet) → IsGivenTo p []
none_given_to (read_quadlet header offset) = none_given
none_given_to (read_block header offset asked) = tt
none_given_to (lock header offset extended payload) = tt
none_given_to (write_quadlet header offset value) = tt
none_given_to (write_block header offset payload) = tt
none_given_to (write_response header code) = tt
none_given_to (read_quadlet_response header code value) = tt
none_given_to (read_block_response header code payload) = tt
none_given_to (lock_response header code extended payload) = tt

given_by : (b : Bool) (given : List ℕ) → IsGiven given → IsRomQuad (cond b (quad given 0) 0 % 256 ^ 4)
given_by true given h = h
given_by false given h = none_keyed

quadlet_fair : (node : ℕ) (p : Packet) (rcode : ℕ) (given : List ℕ) (a b : ℕ) → canon (response_to node p rcode given) ≡ four a b 0 (cond (rcode == 0) (quad given 0) 0) → IsGiven given → IsFair (canon (response_to node p rcode given))
quadlet_fair node p rcode given a b e h code = read
  where
    last : ℕ
    last = cond (rcode == 0) (quad given 0) 0

    value : value_of (canon (response_to node p rcode given)) ≡ last % 256 ^ 4
    value = ap value_of e ∙ value_four a b 0 last

    read : IsRomQuad (value_of (canon (response_to node p rcode given)))
    read = λ f. ap (λ n. n % 2 ^ 24) value ∙ given_by (rcode == 0) given h (sym (ap (λ n. n / 2 ^ 24) value) ∙ f)

other_response : (node rcode : ℕ) (p : Packet) (given : List ℕ) (peer label tcode : ℕ) (rest : List ℕ) → tcode < 16 → (tcode == 6) ≡ false → canon (response_to node p rcode given) ≡ big_bytes 4 (peer * 2 ^ 16 + label * 2 ^ 10 + 1 * 2 ^ 8 + tcode * 2 ^ 4 + 0) ++ rest → IsFair (canon (response_to node p rcode given))
other_response node rcode p given peer label tcode rest small apart e = fair_by (canon (response_to node p rcode given)) (other_code peer label tcode (canon (response_to node p rcode given)) rest small apart e)

quadlet_response : (node rcode : ℕ) (header : Header) (offset : ℕ) (given : List ℕ) → IsGiven given → IsFair (canon (response_to node (read_quadlet header offset) rcode given))
quadlet_response node rcode header offset given h =
    let own = header_to node header.source header.label in
    quadlet_fair node (read_quadlet header offset) rcode given (first_quad 6 own) (response_quad own rcode) refl h

pub response_fair : (node rcode : ℕ) (p : Packet) (given : List ℕ) → IsGivenTo p given → IsFair (canon (response_to node p rcode given))
unfolding three four
response_fair node rcode (read_quadlet header at) given h = quadlet_response node rcode header at given h
response_fair node rcode (read_block header at asked) given h = other_response node rcode (read_block header at asked) given header.source header.label 7 _ (omega arith) refl refl
response_fair node rcode (lock header at extended payload) given h = other_response node rcode (lock header at extended payload) given header.source header.label 11 _ (omega arith) refl refl
response_fair node rcode (write_quadlet header at value) given h = other_response node rcode (write_quadlet header at value) given header.source header.label 2 _ (omega arith) refl refl
response_fair node rcode (write_block header at payload) given h = other_response node rcode (write_block header at payload) given header.source header.label 2 _ (omega arith) refl refl
response_fair node rcode (write_response header code) given h = other_response node rcode (write_response header code) given header.source header.label 2 _ (omega arith) refl refl
response_fair node rcode (read_quadlet_response header code value) given h = other_response node rcode (read_quadlet_response header code value) given header.source header.label 2 _ (omega arith) refl refl
response_fair node rcode (read_block_response header code payload) given h = other_response node rcode (read_block_response header code payload) given header.source header.label 2 _ (omega arith) refl refl
response_fair node rcode (lock_response header code extended payload) given h = other_response node rcode (lock_response header code extended payload) given header.source header.label 2 _ (omega arith) refl refl

-- ---- a request

plain_other : (node peer : ℕ) (body : Body) → (tcode_of (canon (request_with (header_to node peer 0) body)) == 6) ≡ false
unfolding three four
plain_other node peer (quadlet_write offset value) = other_code peer 0 0 (canon (request_with (header_to node peer 0) (quadlet_write offset value))) _ (omega arith) refl refl
plain_other node peer (block_write offset payload) = other_code peer 0 1 (canon (request_with (header_to node peer 0) (block_write offset payload))) _ (omega arith) refl refl
plain_other node peer (quadlet_read offset) = other_code peer 0 4 (canon (request_with (header_to node peer 0) (quadlet_read offset))) _ (omega arith) refl refl
plain_other node peer (block_read offset asked) = other_code peer 0 5 (canon (request_with (header_to node peer 0) (block_read offset asked))) _ (omega arith) refl refl

abbrev pub IfFair : Option Asked → Type 0
IfFair None = Unit {0}
IfFair (Some asked) = IsFair asked.bytes

module _ {P : Type 0} where
  found_fair : (layer : Layer P) (k peer : ℕ) (plain : List ℕ) (purpose : P) (number : Option ℕ) → (tcode_of plain == 6) ≡ false → IfFair (asked_at k layer (begun_for (peer_at layer k) peer purpose (begin_at number (peer_at layer k).table plain))).0
  found_fair layer k peer plain purpose None e = tt
  found_fair layer k peer plain purpose (Some number) e = fair_by (with_label number plain) (ap (λ n. n == 6) (tcode_same number plain) ∙ e)

  in_fair : (found : Option ℕ) (layer : Layer P) (peer : ℕ) (plain : List ℕ) (purpose : P) → (tcode_of plain == 6) ≡ false → IfFair (asking_in found layer peer plain purpose).0
  unfolding begin_step
  in_fair None layer peer plain purpose e = tt
  in_fair (Some k) layer peer plain purpose e = found_fair layer k peer plain purpose (lowest_from 0 plain (peer_at layer k).table.places) e

  pub asked_fair : (layer : Layer P) (peer : ℕ) (body : Body) (purpose : P) → IfFair (asking_step layer peer body purpose).0
  unfolding asking_step
  asked_fair layer peer body purpose = in_fair (peer_place peer layer) layer peer (unlabelled layer peer body) purpose (plain_other layer.node peer body)
