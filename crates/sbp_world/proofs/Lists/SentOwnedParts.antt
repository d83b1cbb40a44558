-- A packet of the target that is a request has the number of its label in its bytes, and a response is no request, whether a packet can carry them or not.
use Rattle.sbp_world.proofs.Words.Std.{arith, ◌≡◌, ◌∙◌, refl, sym, ap, ◌<◌, ◌+◌, ◌*◌, ◌^◌, ◌==◌, ℕ, Bool, true, false, cond, List, ◌++◌, Option, Some, None, big_bytes}
use Rattle.sbp_world.proofs.Words.Wire.{PacketFault, canon, four, three, header_of, tcode_of, fault_of, Packet, lock, lock_response, read_block, read_block_response, read_quadlet, read_quadlet_response, write_block, write_quadlet, write_response, packet_in, reading, unless_fault, Body, block_read, block_write, header_to, quadlet_read, quadlet_write, request_with, response_to, Layer, answering_step, with_label, Kind, part_by, part_in, part_of, request, response}
use Rattle.sbp_world.proofs.Words.Target.{Purpose}
use Rattle.sbp_journal.specs.Transactions.{no_packet}
use Rattle.sbp_world.proofs.Hosts.Mild.{quad_tcode}

-- ---- the label of a request stands in its header
own_label : (m n : ℕ) (k kind : Kind) → request m k ≡ request n kind → m ≡ n
own_label m n k kind e = cc

pub answers_none : {A : Type 0} (m n : ℕ) (k kind : Kind) → response m k ≡ request n kind → A
answers_none m n k kind e = absurd (let no : response m k ≡ request n kind = e in cc)

module _ (bytes : List ℕ) (n : ℕ) (kind : Kind) where
  abbrev IsHeaded : Packet → Type 0
  IsHeaded p = part_in p ≡ request n kind → (header_of bytes).label ≡ n

  if_headed : (b : Bool) (p q : Packet) → IsHeaded p → IsHeaded q → IsHeaded (cond b p q)
  if_headed true p q h k = h
  if_headed false p q h k = k

  headed : (tcode : ℕ) → IsHeaded (packet_in bytes tcode)
  headed tcode =
      if_headed (tcode == 0) _ _ (λ e. own_label _ n _ kind e)
      (if_headed (tcode == 1) _ _ (λ e. own_label _ n _ kind e)
      (if_headed (tcode == 2) _ _ (λ e. answers_none _ n _ kind e)
      (if_headed (tcode == 4) _ _ (λ e. own_label _ n _ kind e)
      (if_headed (tcode == 5) _ _ (λ e. own_label _ n _ kind e)
      (if_headed (tcode == 6) _ _ (λ e. answers_none _ n _ kind e)
      (if_headed (tcode == 7) _ _ (λ e. answers_none _ n _ kind e)
      (if_headed (tcode == 9) _ _ (λ e. own_label _ n _ kind e) (λ e. answers_none _ n _ kind e))))))))

  read_headed : (fault : Option PacketFault) (p : Packet) → IsHeaded p → part_by (unless_fault fault p) ≡ request n kind → (header_of bytes).label ≡ n
  read_headed None p h e = h e
  read_headed (Some fault) p h e = absurd (let no : no_packet ≡ request n kind = e in cc)

  part_label : part_of bytes ≡ request n kind → (header_of bytes).label ≡ n
  unfolding part_of reading
  part_label e = read_headed (fault_of bytes) (packet_in bytes (tcode_of bytes)) (headed (tcode_of bytes)) e

-- ---- a label that was written into the bytes of a body
written_label : (number quad : ℕ) (rest : List ℕ) → number < 64 → (header_of (with_label number (big_bytes 4 quad ++ rest))).label ≡ number
unfolding header_of with_label
written_label number quad rest small = omega (arith, small)

first_label : (number quad : ℕ) (plain rest : List ℕ) → number < 64 → plain ≡ big_bytes 4 quad ++ rest → (header_of (with_label number plain)).label ≡ number
first_label number quad plain rest small e = ap (λ xs. (header_of (with_label number xs)).label) e ∙ written_label number quad rest small

abbrev quad_of : (peer tcode : ℕ) → ℕ
quad_of peer tcode = peer * 2 ^ 16 + 0 * 2 ^ 10 + 1 * 2 ^ 8 + tcode * 2 ^ 4 + 0

body_label : (number node peer : ℕ) (body : Body) → number < 64 → (header_of (with_label number (canon (request_with (header_to node peer 0) body)))).label ≡ number
unfolding three four
body_label number node peer (quadlet_write offset value) small = first_label number (quad_of peer 0) (canon (request_with (header_to node peer 0) (quadlet_write offset value))) _ small refl
body_label number node peer (block_write offset payload) small = first_label number (quad_of peer 1) (canon (request_with (header_to node peer 0) (block_write offset payload))) _ small refl
body_label number node peer (quadlet_read offset) small = first_label number (quad_of peer 4) (canon (request_with (header_to node peer 0) (quadlet_read offset))) _ small refl
body_label number node peer (block_read offset asked) small = first_label number (quad_of peer 5) (canon (request_with (header_to node peer 0) (block_read offset asked))) _ small refl

-- a request of a body that has this label has its number
pub asked_number : (number node peer : ℕ) (body : Body) (bytes : List ℕ) → number < 64 → bytes ≡ with_label number (canon (request_with (header_to node peer 0) body)) → (n : ℕ) (kind : Kind) → part_of bytes ≡ request n kind → number ≡ n
asked_number number node peer body bytes small is n kind e =
    sym (body_label number node peer body small) ∙ ap (λ xs. (header_of xs).label) (sym is) ∙ part_label bytes n kind e

-- ---- a response

-- bytes with this tcode are no request
abbrev IsAnswered : List ℕ → ℕ → Type 0
IsAnswered bytes tcode = (n : ℕ) (kind : Kind) → part_in (packet_in bytes tcode) ≡ request n kind → ⊥

abbrev pub IsNoRequest : List ℕ → Type 0
IsNoRequest bytes = (n : ℕ) (kind : Kind) → part_of bytes ≡ request n kind → ⊥

code_none : (bytes : List ℕ) (tcode : ℕ) → tcode_of bytes ≡ tcode → IsAnswered bytes tcode → IsNoRequest bytes
unfolding part_of reading
code_none bytes tcode same f n kind e = f n kind (sym (ap (λ c. part_in (packet_in bytes c)) same) ∙ by (fault_of bytes) e)
  where
    by : (fault : Option PacketFault) → part_by (unless_fault fault (packet_in bytes (tcode_of bytes))) ≡ request n kind → part_in (packet_in bytes (tcode_of bytes)) ≡ request n kind
    by None h = h
    by (Some fault) h = absurd (let no : no_packet ≡ request n kind = h in cc)

coded : (peer label tcode : ℕ) (bytes rest : List ℕ) → tcode < 16 → IsAnswered bytes tcode → bytes ≡ big_bytes 4 (peer * 2 ^ 16 + label * 2 ^ 10 + 1 * 2 ^ 8 + tcode * 2 ^ 4 + 0) ++ rest → IsNoRequest bytes
coded peer label tcode bytes rest small f e = code_none bytes tcode (quad_tcode peer label tcode bytes rest small e) f

answered_write : (bytes : List ℕ) → IsAnswered bytes 2
answered_write bytes n kind e = answers_none _ n _ kind e

answered_quadlet : (bytes : List ℕ) → IsAnswered bytes 6
answered_quadlet bytes n kind e = answers_none _ n _ kind e

answered_block : (bytes : List ℕ) → IsAnswered bytes 7
answered_block bytes n kind e = answers_none _ n _ kind e

answered_lock : (bytes : List ℕ) → IsAnswered bytes 11
answered_lock bytes n kind e = answers_none _ n _ kind e

response_none : (node : ℕ) (p : Packet) (rcode : ℕ) (given : List ℕ) → IsNoRequest (canon (response_to node p rcode given))
unfolding three four
response_none node (read_quadlet header offset) rcode given = let bytes = canon (response_to node (read_quadlet header offset) rcode given) in coded header.source header.label 6 bytes _ (omega arith) (answered_quadlet bytes) refl
response_none node (read_block header offset asked) rcode given = let bytes = canon (response_to node (read_block header offset asked) rcode given) in coded header.source header.label 7 bytes _ (omega arith) (answered_block bytes) refl
response_none node (lock header offset extended payload) rcode given = let bytes = canon (response_to node (lock header offset extended payload) rcode given) in coded header.source header.label 11 bytes _ (omega arith) (answered_lock bytes) refl
response_none node (write_quadlet header offset value) rcode given = let bytes = canon (response_to node (write_quadlet header offset value) rcode given) in coded header.source header.label 2 bytes _ (omega arith) (answered_write bytes) refl
response_none node (write_block header offset payload) rcode given = let bytes = canon (response_to node (write_block header offset payload) rcode given) in coded header.source header.label 2 bytes _ (omega arith) (answered_write bytes) refl
response_none node (write_response header code) rcode given = let bytes = canon (response_to node (write_response header code) rcode given) in coded header.source header.label 2 bytes _ (omega arith) (answered_write bytes) refl
response_none node (read_quadlet_response header code value) rcode given = let bytes = canon (response_to node (read_quadlet_response header code value) rcode given) in coded header.source header.label 2 bytes _ (omega arith) (answered_write bytes) refl
response_none node (read_block_response header code payload) rcode given = let bytes = canon (response_to node (read_block_response header code payload) rcode given) in coded header.source header.label 2 bytes _ (omega arith) (answered_write bytes) refl
response_none node (lock_response header code extended payload) rcode given = let bytes = canon (response_to node (lock_response header code extended payload) rcode given) in coded header.source header.label 2 bytes _ (omega arith) (answered_write bytes) refl

pub answer_none : (layer : Layer Purpose) (p : Packet) (bytes : List ℕ) (rcode : ℕ) (given : List ℕ) → IsNoRequest (answering_step layer p bytes rcode given).0
unfolding answering_step
answer_none layer p bytes rcode given = response_none layer.node p rcode given
