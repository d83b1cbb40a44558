-- Which packets of the target write nothing: its responses, and its requests that read; and the bytes of a request are those of its body, under its label.
use Rattle.sbp_world.proofs.Words.Std.{arith, ◌≡◌, ◌∙◌, refl, ap, ◌<◌, ◌+◌, ◌*◌, ◌^◌, nat_eq, ℕ, Bool, true, false, cond, List, ◌++◌, Option, Some, None, big_bytes}
use Rattle.sbp_world.proofs.Words.Wire.{PacketFault, canon, four, three, tcode_of, fault_of, Packet, lock, lock_response, read_block, read_block_response, read_quadlet, read_quadlet_response, write_block, write_quadlet, write_response, packet_in, reading, unless_fault, Asked, Body, block_read, block_write, header_to, quadlet_read, quadlet_write, request_with, response_to, Layer, answering_step, asked_at, asking_in, asking_step, peer_at, peer_place, unlabelled, begun_for, with_label, begin_at, begin_step, lowest_from}
use Rattle.sbp_world.proofs.Words.Target.{Purpose}
use Rattle.sbp_world.proofs.Words.Laws.{is_write_in, access_in, access_in_bytes, spelled_by}
use Rattle.sbp_world.proofs.Hosts.Mild.{quad_tcode, tcode_same}

-- it writes nothing
abbrev pub IsRead : List ℕ → Type 0
IsRead bytes = is_write_in (access_in_bytes bytes) ≡ false

-- ---- by its tcode
abbrev Reads : Packet → Type 0
Reads p = is_write_in (access_in (Some p)) ≡ false

pick_packet : (b : Bool) (p q : Packet) → Reads p → Reads q → Reads (cond b p q)
pick_packet true p q h k = h
pick_packet false p q h k = k

other_packet : (b : Bool) (p q : Packet) → b ≡ false → Reads q → Reads (cond b p q)
other_packet true p q e k = absurd (let no : true ≡ false = e in cc)
other_packet false p q e k = k

pub code_reads : (bytes : List ℕ) → nat_eq (tcode_of bytes) 0 ≡ false → nat_eq (tcode_of bytes) 1 ≡ false → IsRead bytes
unfolding reading
code_reads bytes e f = by (fault_of bytes)
  where
    by : (fault : Option PacketFault) → is_write_in (access_in (spelled_by (unless_fault fault (packet_in bytes (tcode_of bytes))))) ≡ false
    by (Some fault) = refl
    by None =
        other_packet (nat_eq (tcode_of bytes) 0) _ _ e
        (other_packet (nat_eq (tcode_of bytes) 1) _ _ f
        (pick_packet (nat_eq (tcode_of bytes) 2) _ _ refl
        (pick_packet (nat_eq (tcode_of bytes) 4) _ _ refl
        (pick_packet (nat_eq (tcode_of bytes) 5) _ _ refl
        (pick_packet (nat_eq (tcode_of bytes) 6) _ _ refl
        (pick_packet (nat_eq (tcode_of bytes) 7) _ _ refl
        (pick_packet (nat_eq (tcode_of bytes) 9) _ _ refl refl)))))))

-- ---- the tcode stands in the first quadlet

coded : (peer label tcode : ℕ) (bytes rest : List ℕ) → tcode < 16 → nat_eq tcode 0 ≡ false → nat_eq tcode 1 ≡ false → bytes ≡ big_bytes 4 (peer * 2 ^ 16 + label * 2 ^ 10 + 1 * 2 ^ 8 + tcode * 2 ^ 4 + 0) ++ rest → IsRead bytes
coded peer label tcode bytes rest small none one e =
    let c = quad_tcode peer label tcode bytes rest small e in
    code_reads bytes (ap (λ n. nat_eq n 0) c ∙ none) (ap (λ n. nat_eq n 1) c ∙ one)

-- ---- a response
response_codes : (node : ℕ) (p : Packet) (rcode : ℕ) (given : List ℕ) → IsRead (canon (response_to node p rcode given))
unfolding three four
response_codes node (read_quadlet header offset) rcode given = coded header.source header.label 6 (canon (response_to node (read_quadlet header offset) rcode given)) _ (omega arith) refl refl refl
response_codes node (read_block header offset asked) rcode given = coded header.source header.label 7 (canon (response_to node (read_block header offset asked) rcode given)) _ (omega arith) refl refl refl
response_codes node (lock header offset extended payload) rcode given = coded header.source header.label 11 (canon (response_to node (lock header offset extended payload) rcode given)) _ (omega arith) refl refl refl
response_codes node (write_quadlet header offset value) rcode given = coded header.source header.label 2 (canon (response_to node (write_quadlet header offset value) rcode given)) _ (omega arith) refl refl refl
response_codes node (write_block header offset payload) rcode given = coded header.source header.label 2 (canon (response_to node (write_block header offset payload) rcode given)) _ (omega arith) refl refl refl
response_codes node (write_response header code) rcode given = coded header.source header.label 2 (canon (response_to node (write_response header code) rcode given)) _ (omega arith) refl refl refl
response_codes node (read_quadlet_response header code value) rcode given = coded header.source header.label 2 (canon (response_to node (read_quadlet_response header code value) rcode given)) _ (omega arith) refl refl refl
response_codes node (read_block_response header code payload) rcode given = coded header.source header.label 2 (canon (response_to node (read_block_response header code payload) rcode given)) _ (omega arith) refl refl refl
response_codes node (lock_response header code extended payload) rcode given = coded header.source header.label 2 (canon (response_to node (lock_response header code extended payload) rcode given)) _ (omega arith) refl refl refl

pub answer_reads : (layer : Layer Purpose) (p : Packet) (bytes : List ℕ) (rcode : ℕ) (given : List ℕ) → IsRead (answering_step layer p bytes rcode given).0
unfolding answering_step
answer_reads layer p bytes rcode given = response_codes layer.node p rcode given

-- ---- a request
-- the bytes of its body, under its label
abbrev pub IsOfBody : Layer Purpose → (peer : ℕ) → Body → Option Asked → Type 0
IsOfBody layer peer body None = Unit {0}
IsOfBody layer peer body (Some asked) = asked.bytes ≡ with_label asked.label.number (unlabelled layer peer body)

found_body : (layer : Layer Purpose) (k peer : ℕ) (body : Body) (purpose : Purpose) (number : Option ℕ) → IsOfBody layer peer body (asked_at k layer (begun_for (peer_at layer k) peer purpose (begin_at number (peer_at layer k).table (unlabelled layer peer body)))).0
found_body layer k peer body purpose None = tt
found_body layer k peer body purpose (Some number) = refl

in_body : (found : Option ℕ) (layer : Layer Purpose) (peer : ℕ) (body : Body) (purpose : Purpose) → IsOfBody layer peer body (asking_in found layer peer (unlabelled layer peer body) purpose).0
unfolding begin_step
in_body None layer peer body purpose = tt
in_body (Some k) layer peer body purpose = found_body layer k peer body purpose (lowest_from 0 (unlabelled layer peer body) (peer_at layer k).table.places)

pub asked_body : (layer : Layer Purpose) (peer : ℕ) (body : Body) (purpose : Purpose) → IsOfBody layer peer body (asking_step layer peer body purpose).0
unfolding asking_step
asked_body layer peer body purpose = in_body (peer_place peer layer) layer peer body purpose

-- it reads
abbrev pub reads_body : Body → Bool
reads_body (quadlet_read offset) = true
reads_body (block_read offset asked) = true
reads_body body = false

labelled : (peer tcode number : ℕ) (plain rest : List ℕ) → tcode < 16 → nat_eq tcode 0 ≡ false → nat_eq tcode 1 ≡ false → plain ≡ big_bytes 4 (peer * 2 ^ 16 + 0 * 2 ^ 10 + 1 * 2 ^ 8 + tcode * 2 ^ 4 + 0) ++ rest → IsRead (with_label number plain)
labelled peer tcode number plain rest small none one e =
    let c = tcode_same number plain ∙ quad_tcode peer 0 tcode plain rest small e in
    code_reads (with_label number plain) (ap (λ n. nat_eq n 0) c ∙ none) (ap (λ n. nat_eq n 1) c ∙ one)

pub body_reads : (number node peer : ℕ) (body : Body) → reads_body body ≡ true → IsRead (with_label number (canon (request_with (header_to node peer 0) body)))
unfolding three four
body_reads number node peer (quadlet_write offset value) e = absurd (let no : false ≡ true = e in cc)
body_reads number node peer (block_write offset payload) e = absurd (let no : false ≡ true = e in cc)
body_reads number node peer (quadlet_read offset) e = labelled peer 4 number (canon (request_with (header_to node peer 0) (quadlet_read offset))) _ (omega arith) refl refl refl
body_reads number node peer (block_read offset asked) e = labelled peer 5 number (canon (request_with (header_to node peer 0) (block_read offset asked))) _ (omega arith) refl refl refl
