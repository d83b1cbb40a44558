-- A node that asks for no write of a quadlet sends none: neither its requests nor its responses spell one.
use Rattle.sbp_world.proofs.Words.Std.{arith, ◌≡◌, refl, ◌∙◌, ap, ℕ, ◌+◌, ◌*◌, ◌/◌, ◌%◌, ◌^◌, ◌<◌, ◌==◌, Bool, true, false, cond, List, [], ◌∷◌, ◌++◌, Option, Some, None, AllByRecursion, big_bytes, big_number, big_from-bytes}
use Rattle.sbp_world.proofs.Words.Wire.{PacketFault, canon, four, three, fault_of, tcode_of, Packet, lock, lock_response, read_block, read_block_response, read_quadlet, read_quadlet_response, write_block, write_quadlet, write_response, packet_in, reading, unless_fault, Asked, Body, block_read, block_write, header_to, quadlet_read, quadlet_write, request_with, response_to, Layer, answering_step, asked_at, asking_in, asking_step, peer_at, peer_place, unlabelled, begun_for, with_label, begin_at, begin_step, lowest_from, Outgoing, OutboxState}
use Rattle.sbp_world.proofs.Words.Target.{response, with_asked}
use Rattle.sbp_world.proofs.Words.Laws.{spelled_by}
use Rattle.sbp_world.proofs.Words.World.{writes_quadlet, AreOthers}

-- bytes whose tcode is none of a write of a quadlet
abbrev pub IsMild : List ℕ → Type 0
IsMild bytes = (tcode_of bytes == 0) ≡ false

abbrev pub AreMild : List Outgoing → Type 0
AreMild packets = AllByRecursion (λ packet. IsMild packet.bytes) packets

-- what the target hands out: no side of an initiator, and no write of a quadlet
abbrev pub FromTarget : OutboxState → Type 0
FromTarget o = AreOthers o.sides × AreMild o.packets

abbrev pub IsMildBody : Body → Type 0
IsMildBody (quadlet_write offset value) = ⊥
IsMildBody _ = Unit {0}

abbrev pub IsMildAsked : Option Asked → Type 0
IsMildAsked None = Unit {0}
IsMildAsked (Some asked) = IsMild asked.bytes

-- ---- what they spell

no_quadlet : (b : Bool) (x y : Packet) → writes_quadlet (Some x) ≡ false → writes_quadlet (Some y) ≡ false → writes_quadlet (Some (cond b x y)) ≡ false
no_quadlet true x y e f = e
no_quadlet false x y e f = f

behind_first : (b : Bool) (x y : Packet) → b ≡ false → writes_quadlet (Some y) ≡ false → writes_quadlet (Some (cond b x y)) ≡ false
behind_first true x y e f = absurd (let no : true ≡ false = e in cc)
behind_first false x y e f = f

packet_mild : (bytes : List ℕ) (tcode : ℕ) → (tcode == 0) ≡ false → writes_quadlet (Some (packet_in bytes tcode)) ≡ false
packet_mild bytes tcode e =
    behind_first (tcode == 0) _ _ e
    (no_quadlet (tcode == 1) _ _ refl
    (no_quadlet (tcode == 2) _ _ refl
    (no_quadlet (tcode == 4) _ _ refl
    (no_quadlet (tcode == 5) _ _ refl
    (no_quadlet (tcode == 6) _ _ refl
    (no_quadlet (tcode == 7) _ _ refl
    (no_quadlet (tcode == 9) _ _ refl refl)))))))

fault_mild : (fault : Option PacketFault) (p : Packet) → writes_quadlet (Some p) ≡ false → writes_quadlet (spelled_by (unless_fault fault p)) ≡ false
fault_mild None p e = e
fault_mild (Some fault) p e = refl

pub spells_mild : (bytes : List ℕ) → IsMild bytes → writes_quadlet (spelled_by (reading bytes)) ≡ false
unfolding reading
spells_mild bytes e = fault_mild (fault_of bytes) (packet_in bytes (tcode_of bytes)) (packet_mild bytes (tcode_of bytes) e)

-- ---- what a node sends

first_tcode : (peer label tcode : ℕ) → tcode < 16 → (peer * 2 ^ 16 + label * 2 ^ 10 + 1 * 2 ^ 8 + tcode * 2 ^ 4 + 0) % 256 ^ 4 / 2 ^ 4 % 2 ^ 4 ≡ tcode
first_tcode peer label tcode small = omega arith

pub quad_tcode : (peer label tcode : ℕ) (bytes rest : List ℕ) → tcode < 16 → bytes ≡ big_bytes 4 (peer * 2 ^ 16 + label * 2 ^ 10 + 1 * 2 ^ 8 + tcode * 2 ^ 4 + 0) ++ rest → tcode_of bytes ≡ tcode
unfolding tcode_of
quad_tcode peer label tcode bytes rest small e =
    ap (λ xs. big_number 4 xs / 2 ^ 4 % 2 ^ 4) e
    ∙ ap (λ n. n / 2 ^ 4 % 2 ^ 4) (big_from-bytes 4 (peer * 2 ^ 16 + label * 2 ^ 10 + 1 * 2 ^ 8 + tcode * 2 ^ 4 + 0) rest)
    ∙ first_tcode peer label tcode small

not_zero : (bytes : List ℕ) (tcode : ℕ) → tcode_of bytes ≡ tcode → (tcode == 0) ≡ false → IsMild bytes
not_zero bytes tcode e f = ap (λ n. n == 0) e ∙ f

-- a response, whatever it answers
pub response_mild : (node rcode : ℕ) (request : Packet) (given : List ℕ) → IsMild (canon (response_to node request rcode given))
unfolding three four
response_mild node rcode (write_quadlet header offset value) given = not_zero _ 2 (quad_tcode header.source header.label 2 _ _ (omega arith) refl) refl
response_mild node rcode (write_block header offset payload) given = not_zero _ 2 (quad_tcode header.source header.label 2 _ _ (omega arith) refl) refl
response_mild node rcode (write_response header code) given = not_zero _ 2 (quad_tcode header.source header.label 2 _ _ (omega arith) refl) refl
response_mild node rcode (read_quadlet header offset) given = not_zero _ 6 (quad_tcode header.source header.label 6 _ _ (omega arith) refl) refl
response_mild node rcode (read_block header offset asked) given = not_zero _ 7 (quad_tcode header.source header.label 7 _ _ (omega arith) refl) refl
response_mild node rcode (read_quadlet_response header code value) given = not_zero _ 2 (quad_tcode header.source header.label 2 _ _ (omega arith) refl) refl
response_mild node rcode (read_block_response header code payload) given = not_zero _ 2 (quad_tcode header.source header.label 2 _ _ (omega arith) refl) refl
response_mild node rcode (lock header offset extended payload) given = not_zero _ 11 (quad_tcode header.source header.label 11 _ _ (omega arith) refl) refl
response_mild node rcode (lock_response header code extended payload) given = not_zero _ 2 (quad_tcode header.source header.label 2 _ _ (omega arith) refl) refl

-- a request, by what it asks for
body_mild : (node peer : ℕ) (body : Body) → IsMildBody body → IsMild (canon (request_with (header_to node peer 0) body))
unfolding three four
body_mild node peer (quadlet_write offset value) m = absurd m
body_mild node peer (block_write offset payload) m = not_zero _ 1 (quad_tcode peer 0 1 _ _ (omega arith) refl) refl
body_mild node peer (quadlet_read offset) m = not_zero _ 4 (quad_tcode peer 0 4 _ _ (omega arith) refl) refl
body_mild node peer (block_read offset asked) m = not_zero _ 5 (quad_tcode peer 0 5 _ _ (omega arith) refl) refl

-- its label changes no tcode
pub tcode_same : (number : ℕ) (bytes : List ℕ) → tcode_of (with_label number bytes) ≡ tcode_of bytes
unfolding with_label tcode_of
tcode_same number [] = refl
tcode_same number (x ∷ []) = refl
tcode_same number (x ∷ y ∷ []) = refl
tcode_same number (x ∷ y ∷ z ∷ bytes) = omega arith

module _ {P : Type 0} where
  found_mild : (layer : Layer P) (k peer : ℕ) (plain : List ℕ) (purpose : P) (number : Option ℕ) → IsMild plain → IsMildAsked (asked_at k layer (begun_for (peer_at layer k) peer purpose (begin_at number (peer_at layer k).table plain))).0
  found_mild layer k peer plain purpose None m = tt
  found_mild layer k peer plain purpose (Some number) m = ap (λ n. n == 0) (tcode_same number plain) ∙ m

  in_mild : (found : Option ℕ) (layer : Layer P) (peer : ℕ) (plain : List ℕ) (purpose : P) → IsMild plain → IsMildAsked (asking_in found layer peer plain purpose).0
  unfolding begin_step
  in_mild None layer peer plain purpose m = tt
  in_mild (Some k) layer peer plain purpose m = found_mild layer k peer plain purpose (lowest_from 0 plain (peer_at layer k).table.places) m

  pub asked_mild : (layer : Layer P) (peer : ℕ) (body : Body) (purpose : P) → IsMildBody body → IsMildAsked (asking_step layer peer body purpose).0
  unfolding asking_step
  asked_mild layer peer body purpose m = in_mild (peer_place peer layer) layer peer (unlabelled layer peer body) purpose (body_mild layer.node peer body m)

-- ---- one packet more
pub more_mild : (packets : List Outgoing) (packet : Outgoing) → AreMild packets → IsMild packet.bytes → AreMild (packets ++ packet ∷ [])
more_mild [] packet h m = (m, tt)
more_mild (other ∷ packets) packet h m = (h.0, more_mild packets packet h.1 m)

pub asked_more : (peer : ℕ) (asked : Option Asked) (packets : List Outgoing) → IsMildAsked asked → AreMild packets → AreMild (with_asked peer asked packets)
asked_more peer None packets m h = h
asked_more peer (Some asked) packets m h = more_mild packets _ h m

pub answers_more : {P : Type 0} (layer : Layer P) (packets : List Outgoing) (p : Packet) (bytes : List ℕ) (rcode : ℕ) (given : List ℕ) → AreMild packets → AreMild (packets ++ response p (answering_step layer p bytes rcode given).0 ∷ [])
unfolding answering_step
answers_more layer packets p bytes rcode given h = more_mild packets _ h (response_mild layer.node rcode p given)
