-- What fits a packet makes a valid one, of bytes below 256.
use Rattle.std.proofs.Common.{arith, ◌≡◌, refl, sym, ap, ◌∙◌, subst, ℕ, zero, suc, ◌+◌, ◌*◌, ◌/◌, ◌-◌, ◌%◌, ◌^◌, ◌<◌, ◌≤◌, ◌==◌, nat_eq, Bool, true, false, cond, List, [], ◌∷◌, ◌++◌, length, take, drop, replicate, get_or, set, slice_set, slice_index_or, Option, Some, None, Result, Ok, Err}
use Rattle.std.proofs.lemmas.Bool.Decides.{nat_tests}
use Rattle.std.proofs.lemmas.List.{get_or-drop}
use Rattle.std.specs.List.{All}
use Rattle.byteorder.specs.Endian.{big_bytes}
use Rattle.sbp_base.specs.Quadlets.{quad}
use Rattle.async_packet.specs.Canon.{canon, FitsHeader, IsValid, three, four, with_pad}
use Rattle.async_packet.specs.declared.packet.Header.{Header}
use Rattle.async_packet.specs.Fields.{header_of, largest, padded}
use Rattle.async_packet.specs.Packet.{Packet, header_in, write_quadlet, write_block, write_response, read_quadlet, read_block, read_quadlet_response, read_block_response, lock, lock_response}
use Rattle.async_packet.specs.Spells.{Spells, IsRow}
use Rattle.label_table.specs.Bodies.{Body, Gives, quadlet_write, block_write, quadlet_read, block_read, header_to, request_with, response_to, response_with}
use Rattle.label_table.specs.Requests.{IsRequestOf, with_label}
use Rattle.bus_transactions.specs.Fitting.{AreBytes, FitsAnswer, FitsRequest}

-- ---- bytes
pub no_bytes : AreBytes []
no_bytes k = omega arith

pub bytes_append : (xs ys : List ℕ) → AreBytes xs → AreBytes ys → AreBytes (xs ++ ys)
bytes_append [] ys a b k = b k
bytes_append (x ∷ xs) ys a b zero = a 0
bytes_append (x ∷ xs) ys a b (suc k) = bytes_append xs ys (λ i. a (suc i)) b k

pub bytes_zeros : (n : ℕ) → AreBytes (replicate n 0)
bytes_zeros zero k = omega arith
bytes_zeros (suc n) zero = omega arith
bytes_zeros (suc n) (suc k) = bytes_zeros n k

pub bytes_take : (n : ℕ) (xs : List ℕ) → AreBytes xs → AreBytes (take n xs)
bytes_take zero xs a k = omega arith
bytes_take (suc n) [] a k = omega arith
bytes_take (suc n) (x ∷ xs) a zero = a 0
bytes_take (suc n) (x ∷ xs) a (suc k) = bytes_take n xs (λ i. a (suc i)) k

pub bytes_drop : (n : ℕ) (xs : List ℕ) → AreBytes xs → AreBytes (drop n xs)
bytes_drop n xs a k = rw (get_or-drop n xs k 0) (a (n + k))

-- one is put in the place of another
pub put_or : {A : Type 0} (P : A → Type 0) (xs : List A) (q p : ℕ) (y d : A) → (p ≡ q → P y) → P (get_or xs p d) → P (get_or (set xs q y) p d)
put_or P [] q p y d new old = old
put_or P (x ∷ xs) zero zero y d new old = new refl
put_or P (x ∷ xs) zero (suc p) y d new old = old
put_or P (x ∷ xs) (suc q) zero y d new old = old
put_or P (x ∷ xs) (suc q) (suc p) y d new old = put_or P xs q p y d (λ e. new (ap suc e)) old

pub bytes_set : (xs : List ℕ) (q y : ℕ) → AreBytes xs → y < 256 → AreBytes (set xs q y)
bytes_set xs q y a s k = put_or (λ b. b < 256) xs q k y 0 (λ e. s) (a k)

pub bytes_quad : (x : ℕ) → AreBytes (big_bytes 4 x)
bytes_quad x zero = omega arith
bytes_quad x (suc zero) = omega arith
bytes_quad x (suc (suc zero)) = omega arith
bytes_quad x (suc (suc (suc zero))) = omega arith
bytes_quad x (suc (suc (suc (suc k)))) = omega arith

pub quad_fits : (bytes : List ℕ) (at : ℕ) → AreBytes bytes → quad bytes at < 2 ^ 32
quad_fits bytes at small =
    let p : get_or (drop at bytes) 0 0 < 256 = rw (get_or-drop at bytes 0 0) (small (at + 0)) in
    let q : get_or (drop at bytes) 1 0 < 256 = rw (get_or-drop at bytes 1 0) (small (at + 1)) in
    let r : get_or (drop at bytes) 2 0 < 256 = rw (get_or-drop at bytes 2 0) (small (at + 2)) in
    let s : get_or (drop at bytes) 3 0 < 256 = rw (get_or-drop at bytes 3 0) (small (at + 3)) in
    omega arith

-- ---- the bytes of a packet
three_bytes : (a b c : ℕ) → AreBytes (three a b c)
unfolding three
three_bytes a b c = bytes_append (big_bytes 4 a) (big_bytes 4 b ++ big_bytes 4 c) (bytes_quad a) (bytes_append (big_bytes 4 b) (big_bytes 4 c) (bytes_quad b) (bytes_quad c))

four_bytes : (a b c d : ℕ) → AreBytes (four a b c d)
unfolding four
four_bytes a b c d =
    bytes_append (big_bytes 4 a) (big_bytes 4 b ++ (big_bytes 4 c ++ big_bytes 4 d)) (bytes_quad a)
    (bytes_append (big_bytes 4 b) (big_bytes 4 c ++ big_bytes 4 d) (bytes_quad b) (bytes_append (big_bytes 4 c) (big_bytes 4 d) (bytes_quad c) (bytes_quad d)))

padded_bytes : (payload : List ℕ) → AreBytes payload → AreBytes (with_pad payload)
padded_bytes payload a = bytes_append payload (replicate (padded (length payload) - length payload) 0) a (bytes_zeros _)

pub request_bytes : (header : Header) (body : Body) → FitsRequest body → AreBytes (canon (request_with header body))
request_bytes header (quadlet_write offset value) f = four_bytes _ _ _ _
request_bytes header (block_write offset payload) f = bytes_append (four _ _ _ _) (with_pad payload) (four_bytes _ _ _ _) (padded_bytes payload f.2)
request_bytes header (quadlet_read offset) f = three_bytes _ _ _
request_bytes header (block_read offset asked) f = four_bytes _ _ _ _

or_nothing : (b : Bool) (given : List ℕ) → AreBytes given → AreBytes (cond b given [])
or_nothing true given a = a
or_nothing false given a = no_bytes

pub answer_bytes : (header : Header) (asked : Packet) (rcode : ℕ) (given : List ℕ) → AreBytes given → AreBytes (canon (response_with header asked rcode given))
answer_bytes header (read_quadlet h offset) rcode given a = four_bytes _ _ _ _
answer_bytes header (read_block h offset count) rcode given a =
    bytes_append (four _ _ _ _) (with_pad (cond (rcode == 0) given [])) (four_bytes _ _ _ _) (padded_bytes (cond (rcode == 0) given []) (or_nothing (rcode == 0) given a))
answer_bytes header (lock h offset extended payload) rcode given a = bytes_append (four _ _ _ _) (with_pad []) (four_bytes _ _ _ _) (padded_bytes [] no_bytes)
answer_bytes header (write_quadlet h offset value) rcode given a = three_bytes _ _ _
answer_bytes header (write_block h offset payload) rcode given a = three_bytes _ _ _
answer_bytes header (write_response h code) rcode given a = three_bytes _ _ _
answer_bytes header (read_quadlet_response h code value) rcode given a = three_bytes _ _ _
answer_bytes header (read_block_response h code payload) rcode given a = three_bytes _ _ _
answer_bytes header (lock_response h code extended payload) rcode given a = three_bytes _ _ _

-- ---- validity
header_fits : (node peer label : ℕ) → node < 2 ^ 16 → peer < 2 ^ 16 → label < 2 ^ 6 → FitsHeader (header_to node peer label)
header_fits node peer label n p l = record { destination = p; label = l; retry = omega arith; priority = omega arith; source = n }

pub request_fits : (node peer : ℕ) (body : Body) → node < 2 ^ 16 → peer < 2 ^ 16 → FitsRequest body → IsValid (request_with (header_to node peer 0) body)
request_fits node peer (quadlet_write offset value) n p f = (header_fits node peer 0 n p (omega arith), f.0, f.1)
request_fits node peer (block_write offset payload) n p f = (header_fits node peer 0 n p (omega arith), f.0, f.1)
request_fits node peer (quadlet_read offset) n p f = (header_fits node peer 0 n p (omega arith), f)
request_fits node peer (block_read offset asked) n p f = (header_fits node peer 0 n p (omega arith), f.0, f.1)

-- the label of what was read has 6 bits
label_fits : (bytes : List ℕ) → (header_of bytes).label < 2 ^ 6
unfolding header_of
label_fits bytes = omega arith

row_label : (tcode count : ℕ) (bytes : List ℕ) (header : Header) → IsRow tcode count bytes header → header.label < 2 ^ 6
row_label tcode count bytes header r = subst (λ (h : Header). h.label < 2 ^ 6) (sym r.fields) (label_fits bytes)

quad_if : (b : Bool) (given : List ℕ) → AreBytes given → cond b (quad given 0) 0 < 2 ^ 32
quad_if true given a = quad_fits given 0 a
quad_if false given a = omega arith

long_if : (b : Bool) (given : List ℕ) (count : ℕ) → (b ≡ true → length given ≡ count) → count ≤ largest → length (cond b given []) ≤ largest
long_if true given count e s = let f = e refl in omega arith
long_if false given count e s = omega arith

is_zero : (n : ℕ) → (n == 0) ≡ true → n ≡ 0
is_zero n e = grind (arith, nat_tests)

untrue : false ≡ true → ⊥
untrue e = cc

pub answer_fits : (node : ℕ) (asked : Packet) (bytes : List ℕ) (rcode : ℕ) (given : List ℕ) → node < 2 ^ 16 → (header_in asked).source < 2 ^ 16 → IsRequestOf bytes asked → FitsAnswer asked rcode given → IsValid (response_to node asked rcode given)
answer_fits node (write_quadlet h offset value) bytes rcode given n s r f = (header_fits node h.source h.label n s (row_label _ _ bytes h r.spelled.0), f.small)
answer_fits node (write_block h offset payload) bytes rcode given n s r f = (header_fits node h.source h.label n s (row_label _ _ bytes h r.spelled.0), f.small)
answer_fits node (read_quadlet h offset) bytes rcode given n s r f =
    (header_fits node h.source h.label n s (row_label _ _ bytes h r.spelled.0), f.small, quad_if (rcode == 0) given f.bytes)
answer_fits node (read_block h offset count) bytes rcode given n s r f =
    (header_fits node h.source h.label n s (row_label _ _ bytes h r.spelled.0), f.small, long_if (rcode == 0) given count (λ e. f.gives (is_zero rcode e)) r.spelled.3)
answer_fits node (lock h offset extended payload) bytes rcode given n s r f =
    (header_fits node h.source h.label n s (row_label _ _ bytes h r.spelled.0), f.small, r.spelled.2.known, refl)
answer_fits node (write_response h code) bytes rcode given n s r f = absurd (untrue r.asks)
answer_fits node (read_quadlet_response h code value) bytes rcode given n s r f = absurd (untrue r.asks)
answer_fits node (read_block_response h code payload) bytes rcode given n s r f = absurd (untrue r.asks)
answer_fits node (lock_response h code extended payload) bytes rcode given n s r f = absurd (untrue r.asks)
