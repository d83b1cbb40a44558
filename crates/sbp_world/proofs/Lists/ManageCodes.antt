-- Which packets of a target answer a write with conflict_error, 4 (IEEE 1394-1995, write response): no request does, and a response does where that is its rcode.
use Rattle.sbp_world.proofs.Words.Std.{arith, ◌≡◌, ◌∙◌, refl, sym, ap, ℕ, ◌+◌, ◌*◌, ◌/◌, ◌%◌, ◌^◌, ◌<◌, ◌==◌, Bool, true, false, cond, List, ◌++◌, Option, Some, None, nat_tests, big_bytes, big_from-bytes}
use Rattle.sbp_world.proofs.Words.Wire.{PacketFault, Header, canon, four, three, fault_of, rcode_of, tcode_of, Packet, lock, lock_response, read_block, read_block_response, read_quadlet, read_quadlet_response, write_block, write_quadlet, write_response, packet_in, reading, unless_fault, Asked, Body, block_read, block_write, header_to, quadlet_read, quadlet_write, request_with, response_to, Layer, asked_at, asking_in, asking_step, peer_at, peer_place, unlabelled, begun_for, with_label, begin_at, begin_step, lowest_from, Kind, locking, part_by, part_in, part_of, reading_block, reading_quadlet, request, response, writing}
use Rattle.sbp_journal.specs.Transactions.{no_packet}
use Rattle.sbp_world.proofs.Hosts.Mild.{quad_tcode, tcode_same}
use Rattle.sbp_world.proofs.Common.{untrue}

-- a packet that does not
abbrev pub NoConflict : List ℕ → Type 0
NoConflict bytes = tcode_of bytes ≡ 2 → rcode_of bytes ≡ 4 → ⊥

-- ---- by its tcode

other_code : (bytes : List ℕ) (tcode : ℕ) → tcode_of bytes ≡ tcode → (tcode == 2) ≡ false → NoConflict bytes
other_code bytes tcode e apart two code =
    let same : tcode ≡ 2 = sym e ∙ two in
    let is : (tcode == 2) ≡ true = ap (λ n. n == 2) same in
    untrue (sym apart ∙ is)

coded : (peer label tcode : ℕ) (bytes rest : List ℕ) → tcode < 16 → (tcode == 2) ≡ false → bytes ≡ big_bytes 4 (peer * 2 ^ 16 + label * 2 ^ 10 + 1 * 2 ^ 8 + tcode * 2 ^ 4 + 0) ++ rest → NoConflict bytes
coded peer label tcode bytes rest small apart e = other_code bytes tcode (quad_tcode peer label tcode bytes rest small e) apart

-- ---- a response

pub rcode_three : (a b c : ℕ) → rcode_of (three a b c) ≡ b % 256 ^ 4 / 2 ^ 12 % 2 ^ 4
unfolding rcode_of three
rcode_three a b c = ap (λ n. n / 2 ^ 12 % 2 ^ 4) (big_from-bytes 4 b (big_bytes 4 c))

second_code : (node rcode : ℕ) → (node * 2 ^ 16 + rcode * 2 ^ 12) % 256 ^ 4 / 2 ^ 12 % 2 ^ 4 ≡ rcode % 2 ^ 4
second_code node rcode = omega arith

three_free : (a node rcode : ℕ) → (rcode % 2 ^ 4 ≡ 4 → ⊥) → NoConflict (three a (node * 2 ^ 16 + rcode * 2 ^ 12) 0)
three_free a node rcode h two code = h (sym (second_code node rcode) ∙ (sym (rcode_three a (node * 2 ^ 16 + rcode * 2 ^ 12) 0) ∙ code))

first_part : (header : Header) → ℕ
first_part header = header.source * 2 ^ 16 + header.label * 2 ^ 10 + 1 * 2 ^ 8 + 2 * 2 ^ 4 + 0

pub response_free : (node rcode : ℕ) (p : Packet) (given : List ℕ) → (rcode % 2 ^ 4 ≡ 4 → ⊥) → NoConflict (canon (response_to node p rcode given))
unfolding three four first_part
response_free node rcode (read_quadlet header at) given h = coded header.source header.label 6 (canon (response_to node (read_quadlet header at) rcode given)) _ (omega arith) refl refl
response_free node rcode (read_block header at asked) given h = coded header.source header.label 7 (canon (response_to node (read_block header at asked) rcode given)) _ (omega arith) refl refl
response_free node rcode (lock header at extended payload) given h = coded header.source header.label 11 (canon (response_to node (lock header at extended payload) rcode given)) _ (omega arith) refl refl
response_free node rcode (write_quadlet header at value) given h = three_free (first_part header) node rcode h
response_free node rcode (write_block header at payload) given h = three_free (first_part header) node rcode h
response_free node rcode (write_response header code) given h = three_free (first_part header) node rcode h
response_free node rcode (read_quadlet_response header code value) given h = three_free (first_part header) node rcode h
response_free node rcode (read_block_response header code payload) given h = three_free (first_part header) node rcode h
response_free node rcode (lock_response header code extended payload) given h = three_free (first_part header) node rcode h

-- ---- a request

abbrev plain_code : Body → ℕ
plain_code (quadlet_write offset value) = 0
plain_code (block_write offset payload) = 1
plain_code (quadlet_read offset) = 4
plain_code (block_read offset asked) = 5

plain_apart : (body : Body) → (plain_code body == 2) ≡ false
plain_apart (quadlet_write offset value) = refl
plain_apart (block_write offset payload) = refl
plain_apart (quadlet_read offset) = refl
plain_apart (block_read offset asked) = refl

plain_is : (node peer : ℕ) (body : Body) → tcode_of (canon (request_with (header_to node peer 0) body)) ≡ plain_code body
unfolding three four
plain_is node peer (quadlet_write offset value) = quad_tcode peer 0 0 (canon (request_with (header_to node peer 0) (quadlet_write offset value))) _ (omega arith) refl
plain_is node peer (block_write offset payload) = quad_tcode peer 0 1 (canon (request_with (header_to node peer 0) (block_write offset payload))) _ (omega arith) refl
plain_is node peer (quadlet_read offset) = quad_tcode peer 0 4 (canon (request_with (header_to node peer 0) (quadlet_read offset))) _ (omega arith) refl
plain_is node peer (block_read offset asked) = quad_tcode peer 0 5 (canon (request_with (header_to node peer 0) (block_read offset asked))) _ (omega arith) refl

abbrev pub IfAsked : Option Asked → Type 0
IfAsked None = Unit {0}
IfAsked (Some asked) = NoConflict asked.bytes

module _ {P : Type 0} where
  found_free : (layer : Layer P) (k peer : ℕ) (plain : List ℕ) (purpose : P) (number : Option ℕ) (code : ℕ) → tcode_of plain ≡ code → (code == 2) ≡ false → IfAsked (asked_at k layer (begun_for (peer_at layer k) peer purpose (begin_at number (peer_at layer k).table plain))).0
  found_free layer k peer plain purpose None code e apart = tt
  found_free layer k peer plain purpose (Some number) code e apart = other_code (with_label number plain) code (tcode_same number plain ∙ e) apart

  in_free : (found : Option ℕ) (layer : Layer P) (peer : ℕ) (plain : List ℕ) (purpose : P) (code : ℕ) → tcode_of plain ≡ code → (code == 2) ≡ false → IfAsked (asking_in found layer peer plain purpose).0
  unfolding begin_step
  in_free None layer peer plain purpose code e apart = tt
  in_free (Some k) layer peer plain purpose code e apart = found_free layer k peer plain purpose (lowest_from 0 plain (peer_at layer k).table.places) code e apart

  pub asked_free : (layer : Layer P) (peer : ℕ) (body : Body) (purpose : P) → IfAsked (asking_step layer peer body purpose).0
  unfolding asking_step
  asked_free layer peer body purpose = in_free (peer_place peer layer) layer peer (unlabelled layer peer body) purpose (plain_code body) (plain_is layer.node peer body) (plain_apart body)

-- ---- a response to a write has the tcode 2

abbrev IsOf : (l tcode : ℕ) → Packet → Type 0
IsOf l tcode p = part_in p ≡ response l writing → tcode ≡ 2

other_kind : {A : Type 0} (l m : ℕ) (kind : Kind) → response m kind ≡ response l writing → (kind ≡ writing → A) → A
other_kind l m kind e f = f (let same : kind ≡ writing = cc in same)

asks_none : {A : Type 0} (l m : ℕ) (kind : Kind) → request m kind ≡ response l writing → A
asks_none l m kind e = absurd (let no : request m kind ≡ response l writing = e in cc)

if_code : (l tcode : ℕ) (b : Bool) (p q : Packet) → (b ≡ true → IsOf l tcode p) → IsOf l tcode q → IsOf l tcode (cond b p q)
if_code l tcode true p q h k = h refl
if_code l tcode false p q h k = k

quadlet_no : {A : Type 0} → reading_quadlet ≡ writing → A
quadlet_no e = absurd (let no : reading_quadlet ≡ writing = e in cc)

block_no : {A : Type 0} → reading_block ≡ writing → A
block_no e = absurd (let no : reading_block ≡ writing = e in cc)

lock_no : {A : Type 0} → locking ≡ writing → A
lock_no e = absurd (let no : locking ≡ writing = e in cc)

packet_code : (l : ℕ) (bytes : List ℕ) (tcode : ℕ) → IsOf l tcode (packet_in bytes tcode)
packet_code l bytes tcode =
    if_code l tcode (tcode == 0) _ _ (λ b e. asks_none l _ _ e)
    (if_code l tcode (tcode == 1) _ _ (λ b e. asks_none l _ _ e)
    (if_code l tcode (tcode == 2) _ _ (λ b e. grind (arith, nat_tests))
    (if_code l tcode (tcode == 4) _ _ (λ b e. asks_none l _ _ e)
    (if_code l tcode (tcode == 5) _ _ (λ b e. asks_none l _ _ e)
    (if_code l tcode (tcode == 6) _ _ (λ b e. other_kind l _ _ e quadlet_no)
    (if_code l tcode (tcode == 7) _ _ (λ b e. other_kind l _ _ e block_no)
    (if_code l tcode (tcode == 9) _ _ (λ b e. asks_none l _ _ e) (λ e. other_kind l _ _ e lock_no))))))))

spelled_code : (l tcode : ℕ) (fault : Option PacketFault) (p : Packet) → IsOf l tcode p → part_by (unless_fault fault p) ≡ response l writing → tcode ≡ 2
spelled_code l tcode None p h e = h e
spelled_code l tcode (Some fault) p h e = absurd (let no : no_packet ≡ response l writing = e in cc)

pub answers_write : (bytes : List ℕ) (l : ℕ) → part_of bytes ≡ response l writing → tcode_of bytes ≡ 2
unfolding part_of reading
answers_write bytes l e = spelled_code l (tcode_of bytes) (fault_of bytes) (packet_in bytes (tcode_of bytes)) (packet_code l bytes (tcode_of bytes)) e
