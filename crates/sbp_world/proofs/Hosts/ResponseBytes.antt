-- The payload of the response to a block read that is complete.
use Rattle.sbp_world.proofs.Words.Std.{arith, ◌≡◌, refl, sym, ap, ◌∙◌, ℕ, ◌^◌, ◌<◌, ◌≤◌, ◌==◌, Bool, true, false, cond, List, [], ◌∷◌, length, take, Option, Some, None, Ok, nat_tests, true≢false}
use Rattle.sbp_world.proofs.Words.Wire.{FitsHeader, canon, largest, Packet, lock, lock_response, read_block, read_block_response, read_quadlet, read_quadlet_response, write_block, write_quadlet, write_response, reading, Header, AreBytes, header_to, response_to, Access, access_of, Moment, Kind, locking, part_in, request, response}
use Rattle.sbp_world.proofs.Words.Initiator.{pointer_at, Payload, Refused}
use Rattle.sbp_world.proofs.Words.Laws.{IsRead, answer_in, answer_of, spelled_by, host_reply}
use Rattle.async_packet.proofs.RoundTrip.{canon_spells}
use Rattle.async_packet.proofs.Spelled.{reading_spelled}
use Rattle.bus_transactions.proofs.FitJudged.{is_request, source_fits}
use Rattle.label_table.proofs.Requests.{label_spelled}
use Rattle.sbp_world.proofs.Hosts.Answering.{none_is}
use Rattle.sbp_world.proofs.Hosts.ResponseTells.{some}

-- ---- the request

abbrev writes : Option Access → Bool
writes None = false
writes (Some access) = access.is_write

abbrev is_block_in : Option Access → Bool
is_block_in None = false
is_block_in (Some access) = access.is_block

abbrev offset_in : Option Access → ℕ
offset_in None = 0
offset_in (Some access) = access.offset

abbrev count_in : Option Access → ℕ
count_in None = 0
count_in (Some access) = access.count

abbrev rcode_in : List Moment → ℕ → Option Access → ℕ
rcode_in past i None = 0
rcode_in past i (Some access) = (host_reply past i access).rcode

pub record IsBlockRead (p : Packet) (address count : ℕ) : Type 0 where
  pub header : Header
  pub is : p ≡ read_block header address count

-- a read of a block that is complete is no lock
pub block_read : (past : List Moment) (i : ℕ) (p : Packet) (access : Access) (address count : ℕ) → access_of p ≡ Some access → IsRead access address count → (host_reply past i access).rcode ≡ 0 → IsBlockRead p address count
block_read past i (read_block header offset asked) access address count e r z = record {
  header = header;
  is = ap (λ x. read_block header x asked) (ap offset_in e ∙ r.from) ∙ ap (λ x. read_block header address x) (ap count_in e ∙ r.size);
}
block_read past i (read_quadlet header offset) access address count e r z = absurd (true≢false (sym r.block ∙ sym (ap is_block_in e)))
block_read past i (write_quadlet header offset value) access address count e r z = absurd (true≢false (ap writes e ∙ r.read))
block_read past i (write_block header offset payload) access address count e r z = absurd (true≢false (ap writes e ∙ r.read))
block_read past i (lock header offset extended payload) access address count e r z = absurd (some 5 (ap (rcode_in past i) e ∙ z))
block_read past i (write_response header rcode) access address count e r z = absurd (none_is e)
block_read past i (read_quadlet_response header rcode value) access address count e r z = absurd (none_is e)
block_read past i (read_block_response header rcode payload) access address count e r z = absurd (none_is e)
block_read past i (lock_response header rcode extended payload) access address count e r z = absurd (none_is e)

-- ---- a response that tells bytes answers a read

-- it is of no lock
pub tells_read : (p : Packet) (l : ℕ) (k : Kind) (bytes : List ℕ) → answer_of p ≡ Payload bytes → part_in p ≡ response l k → k ≡ locking → ⊥
tells_read (write_quadlet header offset value) l k bytes e f g = cc
tells_read (write_block header offset payload) l k bytes e f g = cc
tells_read (read_quadlet header offset) l k bytes e f g = cc
tells_read (read_block header offset asked) l k bytes e f g = cc
tells_read (lock header offset extended payload) l k bytes e f g = cc
tells_read (write_response header rcode) l k bytes e f g = cc
tells_read (read_quadlet_response header rcode value) l k bytes e f g = cc
tells_read (read_block_response header rcode payload) l k bytes e f g = cc
tells_read (lock_response header rcode extended payload) l k bytes e f g = cc

-- a request for a block that is neither a write nor a lock
pub block_read_of : (p : Packet) (access : Access) (l : ℕ) (k : Kind) → access_of p ≡ Some access → access.is_write ≡ false → access.is_block ≡ true → part_in p ≡ request l k → (k ≡ locking → ⊥) → IsBlockRead p access.offset access.count
block_read_of (read_block header offset asked) access l k e w b f n = record {
  header = header;
  is = ap (λ x. read_block header x asked) (ap offset_in e) ∙ ap (λ x. read_block header access.offset x) (ap count_in e);
}
block_read_of (read_quadlet header offset) access l k e w b f n = absurd (true≢false (sym b ∙ sym (ap is_block_in e)))
block_read_of (write_quadlet header offset value) access l k e w b f n = absurd (true≢false (ap writes e ∙ w))
block_read_of (write_block header offset payload) access l k e w b f n = absurd (true≢false (ap writes e ∙ w))
block_read_of (lock header offset extended payload) access l k e w b f n = let is : k ≡ locking = cc in absurd (n is)
block_read_of (write_response header rcode) access l k e w b f n = absurd (none_is e)
block_read_of (read_quadlet_response header rcode value) access l k e w b f n = absurd (none_is e)
block_read_of (read_block_response header rcode payload) access l k e w b f n = absurd (none_is e)
block_read_of (lock_response header rcode extended payload) access l k e w b f n = absurd (none_is e)

-- it asks for no more than a packet carries
pub asked_most : (bytes : List ℕ) (p : Packet) → reading bytes ≡ Ok p → (address count : ℕ) → IsBlockRead p address count → count ≤ 2048
asked_most bytes p read address count b =
    let f = is_request bytes (read_block b.header address count) (read ∙ ap (λ x. Ok x) b.is) refl in
    let most : count ≤ largest = f.spelled.3 in
    most

-- ---- the response

module _ (bytes : List ℕ) (p : Packet) (read : reading bytes ≡ Ok p) (are : AreBytes bytes) (own : ℕ) (small : own < 2 ^ 16) (address count : ℕ) (b : IsBlockRead p address count) where
  abbrev asking : Packet
  asking = read_block b.header address count

  abbrev pub reply_as : (rcode : ℕ) → List ℕ → Packet
  reply_as rcode payload = read_block_response (header_to own b.header.source b.header.label) rcode payload

  read_request : reading bytes ≡ Ok asking
  read_request = read ∙ ap (λ x. Ok x) b.is

  fits : FitsHeader (header_to own b.header.source b.header.label)
  fits = record {
    destination = source_fits bytes asking read_request are;
    label = label_spelled bytes asking (is_request bytes asking read_request refl);
    retry = omega arith;
    priority = omega arith;
    source = small;
  }

  -- it is read as what it is
  spelled_as : (rcode : ℕ) (payload : List ℕ) → rcode < 2 ^ 4 → length payload ≤ largest → reading (canon (reply_as rcode payload)) ≡ Ok (reply_as rcode payload)
  spelled_as rcode payload few long = reading_spelled (canon (reply_as rcode payload)) (reply_as rcode payload) (canon_spells (reply_as rcode payload) (fits, few, long))

  -- one that is complete tells what was given
  pub tells_given : (given : List ℕ) → length given ≤ largest → (rcode : ℕ) → rcode ≡ 0 → answer_in (spelled_by (reading (canon (response_to own p rcode given)))) ≡ Payload given
  tells_given given long rcode z =
      let few : 0 < 2 ^ 4 = omega arith in
      ap (λ x. answer_in (spelled_by (reading (canon (response_to own x rcode given))))) b.is
      ∙ (ap (λ x. answer_in (spelled_by (reading (canon (response_to own asking x given))))) z
      ∙ ap (λ x. answer_in (spelled_by x)) (spelled_as 0 given few long))

  -- one that is not complete tells no bytes
  refuses : (rcode : ℕ) (given : List ℕ) → rcode < 2 ^ 4 → (rcode == 0) ≡ false → answer_in (spelled_by (reading (canon (response_to own p rcode given)))) ≡ Refused rcode
  refuses rcode given few z =
      ap (λ x. answer_in (spelled_by (reading (canon (response_to own x rcode given))))) b.is
      ∙ (ap (λ c. answer_in (spelled_by (reading (canon (reply_as rcode (cond c given [])))))) z
      ∙ (ap (λ x. answer_in (spelled_by x)) (spelled_as rcode [] few (omega arith))
      ∙ ap (λ c. cond c (Payload []) (Refused rcode)) z))

  -- so one that tells bytes is complete
  pub completes : (rcode : ℕ) (given payload : List ℕ) → rcode < 2 ^ 4 → answer_in (spelled_by (reading (canon (response_to own p rcode given)))) ≡ Payload payload → rcode ≡ 0
  completes rcode given payload few e = by_zero (rcode == 0) refl
    where
      none : Refused rcode ≡ Payload payload → ⊥
      none e = cc

      by_zero : (c : Bool) → (rcode == 0) ≡ c → rcode ≡ 0
      by_zero true z = grind (arith, nat_tests)
      by_zero false z = absurd (none (sym (refuses rcode given few z) ∙ e))

-- ---- a next pointer is read of the first 8 bytes of its ORB

pub front_pointer : (xs : List ℕ) → pointer_at (take 8 xs) 0 ≡ pointer_at xs 0
front_pointer [] = refl
front_pointer (a ∷ []) = refl
front_pointer (a ∷ b ∷ []) = refl
front_pointer (a ∷ b ∷ c ∷ []) = refl
front_pointer (a ∷ b ∷ c ∷ d ∷ []) = refl
front_pointer (a ∷ b ∷ c ∷ d ∷ e ∷ []) = refl
front_pointer (a ∷ b ∷ c ∷ d ∷ e ∷ f ∷ []) = refl
front_pointer (a ∷ b ∷ c ∷ d ∷ e ∷ f ∷ g ∷ []) = refl
front_pointer (a ∷ b ∷ c ∷ d ∷ e ∷ f ∷ g ∷ h ∷ rest) = refl
