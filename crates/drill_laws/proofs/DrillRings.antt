-- What a packet writes, by its bytes (IEEE 1394-1995, asynchronous packets): a response writes nothing; what an initiator of a drill sends in a line that appends is a write of ORB_POINTER or of DOORBELL.
use Rattle.std.proofs.Common.{◌≡◌, ◌∙◌, refl, sym, ap, subst, ℕ, zero, suc, ◌+◌, ◌*◌, ◌/◌, ◌%◌, ◌^◌, ◌<◌, ◌≤◌, ◌==◌, Bool, true, false, cond, List, [], ◌∷◌, ◌++◌, length, slice_index_or, Option, Some, None, Result, Ok, arith}
use Rattle.byteorder.specs.Endian.{big_bytes}
use Rattle.async_packet.specs.declared.fault.PacketFault.{PacketFault}
use Rattle.async_packet.specs.declared.packet.Header.{Header}
use Rattle.async_packet.specs.Canon.{FitsHeader, IsValid, canon, first_quad, four, length_quad, request_quad, three, with_pad}
use Rattle.async_packet.specs.Fields.{largest}
use Rattle.async_packet.specs.Packet.{Packet, lock, lock_response, read_block, read_block_response, read_quadlet, read_quadlet_response, write_block, write_quadlet, write_response}
use Rattle.async_packet.specs.Reading.{reading}
use Rattle.async_packet.proofs.RoundTrip.{canon_spells}
use Rattle.async_packet.proofs.Spelled.{reading_spelled}
use Rattle.label_table.specs.Bodies.{header_to, response_to}
use Rattle.label_table.specs.Requests.{label_of}
use Rattle.sbp_base.specs.Quadlets.{quad}
use Rattle.sbp_journal.specs.Addresses.{Access, access_of, base_of, doorbell, orb_pointer, register, start_at}
use Rattle.sbp_laws.specs.Packets.{access_in, access_in_bytes, spelled_by}

-- ---- what a packet writes
-- an address is that of ORB_POINTER or of DOORBELL of an agent
pub data IsRing (offset : ℕ) : Type 0 where
  points : (place : ℕ) → start_at offset ≡ register place orb_pointer → IsRing offset
  bells : (place : ℕ) → start_at offset ≡ register place doorbell → IsRing offset

-- bytes write nowhere else
abbrev pub AreHarmless : List ℕ → Type 0
AreHarmless bytes = (access : Access) → access_in_bytes bytes ≡ Some access → access.is_write ≡ true → IsRing access.offset

-- ---- the byte with the transaction code
abbrev pub code_byte : List ℕ → ℕ
code_byte bytes = slice_index_or bytes 3 0

four_code : (a b c d : ℕ) (rest : List ℕ) → code_byte (four a b c d ++ rest) ≡ a % 256
unfolding four
four_code a b c d rest = refl

four_alone : (a b c d : ℕ) → code_byte (four a b c d) ≡ a % 256
unfolding four
four_alone a b c d = refl

three_code : (a b c : ℕ) → code_byte (three a b c) ≡ a % 256
unfolding three
three_code a b c = refl

-- of a response
abbrev first_of : (destination label code : ℕ) → ℕ
first_of destination label code = destination * 2 ^ 16 + label * 2 ^ 10 + 1 * 2 ^ 8 + code * 2 ^ 4 + 0

short_high : (destination label b c : ℕ) → 32 ≤ code_byte (three (first_of destination label 2) b c)
short_high destination label b c = let code = three_code (first_of destination label 2) b c in omega (arith, code)

four_high : (destination label b c d : ℕ) → 32 ≤ code_byte (four (first_of destination label 6) b c d)
four_high destination label b c d = let code = four_alone (first_of destination label 6) b c d in omega (arith, code)

block_high : (destination label b c d : ℕ) (rest : List ℕ) → 32 ≤ code_byte (four (first_of destination label 7) b c d ++ rest)
block_high destination label b c d rest = let code = four_code (first_of destination label 7) b c d rest in omega (arith, code)

lock_high : (destination label b c d : ℕ) (rest : List ℕ) → 32 ≤ code_byte (four (first_of destination label 11) b c d ++ rest)
lock_high destination label b c d rest = let code = four_code (first_of destination label 11) b c d rest in omega (arith, code)

pub responses_high : (node : ℕ) (request : Packet) (rcode : ℕ) (given : List ℕ) → 32 ≤ code_byte (canon (response_to node request rcode given))
responses_high node (write_quadlet h offset value) rcode given = short_high h.source h.label (node * 2 ^ 16 + rcode * 2 ^ 12) 0
responses_high node (write_block h offset payload) rcode given = short_high h.source h.label (node * 2 ^ 16 + rcode * 2 ^ 12) 0
responses_high node (write_response h other) rcode given = short_high h.source h.label (node * 2 ^ 16 + rcode * 2 ^ 12) 0
responses_high node (read_quadlet_response h other value) rcode given = short_high h.source h.label (node * 2 ^ 16 + rcode * 2 ^ 12) 0
responses_high node (read_block_response h other payload) rcode given = short_high h.source h.label (node * 2 ^ 16 + rcode * 2 ^ 12) 0
responses_high node (lock_response h other extended payload) rcode given = short_high h.source h.label (node * 2 ^ 16 + rcode * 2 ^ 12) 0
responses_high node (read_quadlet h offset) rcode given = four_high h.source h.label (node * 2 ^ 16 + rcode * 2 ^ 12) 0 (cond (rcode == 0) (quad given 0) 0)
responses_high node (read_block h offset asked) rcode given =
    block_high h.source h.label (node * 2 ^ 16 + rcode * 2 ^ 12) 0 (length_quad (length (cond (rcode == 0) given [])) 0) (with_pad (cond (rcode == 0) given []))
responses_high node (lock h offset extended payload) rcode given = lock_high h.source h.label (node * 2 ^ 16 + rcode * 2 ^ 12) 0 (length_quad 0 extended) (with_pad [])

-- of a write
quad_low : (h : Header) (b c d : ℕ) → h.priority < 2 ^ 4 → code_byte (four (first_quad 0 h) b c d) < 32
quad_low h b c d small = let code = four_alone (first_quad 0 h) b c d in omega (arith, code, small)

block_low : (h : Header) (b c d : ℕ) (rest : List ℕ) → h.priority < 2 ^ 4 → code_byte (four (first_quad 1 h) b c d ++ rest) < 32
block_low h b c d rest small = let code = four_code (first_quad 1 h) b c d rest in omega (arith, code, small)

abbrev is_write_of : Option Access → Bool
is_write_of None = false
is_write_of (Some access) = access.is_write

not_written : {A : Type 0} (found : Option Access) (access : Access) → is_write_of found ≡ false → found ≡ Some access → access.is_write ≡ true → A
not_written found access none e w = absurd (let no : false ≡ true = sym none ∙ ap is_write_of e ∙ w in cc no)

writes_low : (p : Packet) → IsValid p → (access : Access) → access_of p ≡ Some access → access.is_write ≡ true → code_byte (canon p) < 32
writes_low (write_quadlet h offset value) v access e w = quad_low h (request_quad h offset) (offset % 2 ^ 32) value v.0.priority
writes_low (write_block h offset payload) v access e w = block_low h (request_quad h offset) (offset % 2 ^ 32) (length_quad (length payload) 0) (with_pad payload) v.0.priority
writes_low (read_quadlet h offset) v access e w = not_written _ access refl e w
writes_low (read_block h offset asked) v access e w = not_written _ access refl e w
writes_low (lock h offset extended payload) v access e w = not_written _ access refl e w
writes_low (write_response h rcode) v access e w = absurd (let no : None ≡ Some access = e in cc no)
writes_low (read_quadlet_response h rcode value) v access e w = absurd (let no : None ≡ Some access = e in cc no)
writes_low (read_block_response h rcode payload) v access e w = absurd (let no : None ≡ Some access = e in cc no)
writes_low (lock_response h rcode extended payload) v access e w = absurd (let no : None ≡ Some access = e in cc no)

-- ---- reading
reads_canon : (bytes : List ℕ) (p : Packet) → IsValid p → bytes ≡ canon p → access_in_bytes bytes ≡ access_of p
reads_canon bytes p v e =
    let read : reading bytes ≡ Ok p = ap reading e ∙ reading_spelled (canon p) p (canon_spells p v) in
    ap (λ (r : Result Packet PacketFault). access_in (spelled_by r)) read

pub responses_harmless : (bytes : List ℕ) (p : Packet) → IsValid p → bytes ≡ canon p → 32 ≤ code_byte bytes → AreHarmless bytes
responses_harmless bytes p v e high access found w =
    let low = writes_low p v access (sym (reads_canon bytes p v e) ∙ found) w in
    let same : code_byte bytes ≡ code_byte (canon p) = ap code_byte e in
    absurd (omega (arith, low, same, high))

-- ---- a ring
some_access : (a b : Access) → Some a ≡ Some b → a.offset ≡ b.offset
some_access a b e = cc e

of_access : (bytes : List ℕ) (a : Access) → access_in_bytes bytes ≡ Some a → IsRing a.offset → AreHarmless bytes
of_access bytes a is ring access found w = subst IsRing (some_access a access (sym is ∙ found)) ring

header_fits : (source destination label : ℕ) → source < 2 ^ 16 → destination < 2 ^ 16 → label < 2 ^ 6 → FitsHeader (header_to source destination label)
header_fits source destination label s d l = record { destination = d; label = l; retry = omega arith; priority = omega arith; source = s }

label_fits : (bytes : List ℕ) → label_of bytes < 2 ^ 6
unfolding label_of
label_fits bytes = omega arith

-- what it asks for
pub pointer_asks : (bytes payload : List ℕ) (source destination offset : ℕ) → source < 2 ^ 16 → destination < 2 ^ 16 → offset < 2 ^ 48 → length payload ≤ largest → bytes ≡ canon (write_block (header_to source destination (label_of bytes)) offset payload)
    → access_in_bytes bytes ≡ access_of (write_block (header_to source destination (label_of bytes)) offset payload)
pointer_asks bytes payload source destination offset s d o l e =
    let h = header_to source destination (label_of bytes) in
    reads_canon bytes (write_block h offset payload) (header_fits source destination (label_of bytes) s d (label_fits bytes), o, l) e

-- of ORB_POINTER
pub pointer_harmless : (bytes payload : List ℕ) (source destination offset : ℕ) → source < 2 ^ 16 → destination < 2 ^ 16 → offset < 2 ^ 48 → length payload ≤ largest → IsRing offset → bytes ≡ canon (write_block (header_to source destination (label_of bytes)) offset payload) → AreHarmless bytes
pointer_harmless bytes payload source destination offset s d o l ring e =
    let h = header_to source destination (label_of bytes) in
    of_access bytes _ (reads_canon bytes (write_block h offset payload) (header_fits source destination (label_of bytes) s d (label_fits bytes), o, l) e) ring

-- of DOORBELL, whatever number it has
quad_same : (a b c d p q r s : ℕ) → a ≡ p → b ≡ q → c ≡ r → d ≡ s → a ∷ b ∷ c ∷ d ∷ [] ≡ p ∷ q ∷ r ∷ s ∷ []
quad_same a b c d p q r s e f g h = cc

low_quad : (x : ℕ) → big_bytes 4 x ≡ big_bytes 4 (x % 2 ^ 32)
low_quad x =
    let y = x % 2 ^ 32 in
    quad_same (x / 256 ^ 3 % 256) (x / 256 ^ 2 % 256) (x / 256 ^ 1 % 256) (x % 256) (y / 256 ^ 3 % 256) (y / 256 ^ 2 % 256) (y / 256 ^ 1 % 256) (y % 256) (omega arith) (omega arith) (omega arith) (omega arith)

four_low : (a b c d : ℕ) → four a b c d ≡ four a b c (d % 2 ^ 32)
unfolding four
four_low a b c d = ap (λ (q : List ℕ). big_bytes 4 a ++ (big_bytes 4 b ++ (big_bytes 4 c ++ q))) (low_quad d)

pub bell_asks : (bytes : List ℕ) (source destination offset value : ℕ) → source < 2 ^ 16 → destination < 2 ^ 16 → offset < 2 ^ 48 → bytes ≡ canon (write_quadlet (header_to source destination (label_of bytes)) offset value)
    → access_in_bytes bytes ≡ access_of (write_quadlet (header_to source destination (label_of bytes)) offset (value % 2 ^ 32))
bell_asks bytes source destination offset value s d o e =
    let h = header_to source destination (label_of bytes) in
    let valid : IsValid (write_quadlet h offset (value % 2 ^ 32)) = (header_fits source destination (label_of bytes) s d (label_fits bytes), o, omega arith) in
    reads_canon bytes (write_quadlet h offset (value % 2 ^ 32)) valid (e ∙ four_low _ _ _ value)

pub bell_harmless : (bytes : List ℕ) (source destination offset value : ℕ) → source < 2 ^ 16 → destination < 2 ^ 16 → offset < 2 ^ 48 → IsRing offset → bytes ≡ canon (write_quadlet (header_to source destination (label_of bytes)) offset value) → AreHarmless bytes
bell_harmless bytes source destination offset value s d o ring e =
    let h = header_to source destination (label_of bytes) in
    let valid : IsValid (write_quadlet h offset (value % 2 ^ 32)) = (header_fits source destination (label_of bytes) s d (label_fits bytes), o, omega arith) in
    of_access bytes _ (reads_canon bytes (write_quadlet h offset (value % 2 ^ 32)) valid (e ∙ four_low _ _ _ value)) ring

-- the registers of the two initiators' agents
pub pointer_place : (i : ℕ) → i < 2 → IsRing ((base_of i + 0x08) % 2 ^ 48)
unfolding start_at
pointer_place zero small = points 0 refl
pointer_place (suc zero) small = points 1 refl
pointer_place (suc (suc i)) small = absurd (omega (arith, small))

pub bell_place : (i : ℕ) → i < 2 → IsRing ((base_of i + 0x10) % 2 ^ 48)
unfolding start_at
bell_place zero small = bells 0 refl
bell_place (suc zero) small = bells 1 refl
bell_place (suc (suc i)) small = absurd (omega (arith, small))
