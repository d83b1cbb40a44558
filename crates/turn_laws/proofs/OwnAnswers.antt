-- How a response ends the request of an initiator that it answers: the initiator and the terms read the same of it.
use Rattle.std.proofs.Common.{[], ◌<◌, ◌==◌, ◌^◌, ◌∙◌, ◌∷◌, ◌≡◌, ◌++◌, Bool, Err, List, None, Ok, Option, Some, ap, cond, false, refl, subst, sym, true, ℕ}
use Rattle.async_packet.specs.Fields.{tcode_of, value_of}
use Rattle.async_packet.specs.Faults.{fault_of}
use Rattle.async_packet.specs.Packet.{Packet, lock, lock_response, read_block, read_block_response, read_quadlet, read_quadlet_response, write_block, write_quadlet, write_response}
use Rattle.async_packet.specs.Reading.{packet_in, reading, unless_fault}
use Rattle.async_packet.specs.declared.fault.PacketFault.{PacketFault}
use Rattle.bus_transactions.specs.Fitting.{AreBytes}
use Rattle.byteorder.specs.Endian.{big_bytes, big_number}
use Rattle.byteorder.specs.Numbers.{big_number-reads_back}
use Rattle.orb_layout.specs.Replies.{Answer, Done, Expired, Payload, Refused}
use Rattle.orb_layout.proofs.Spelled.{quad_small}
use Rattle.sbp_base.specs.Quadlets.{quad}
use Rattle.sbp_initiator.specs.States.{ending_of}
use Rattle.sbp_initiator.specs.declared.purpose.Ending.{Ending}
use Rattle.sbp_initiator.specs.declared.purpose.Ending.TheVariants as endings
use Rattle.sbp_journal.specs.Transactions.{Kind, is_same_kind, locking, part_in, reading_block, reading_quadlet, request, response, writing}
use Rattle.sbp_laws.specs.Packets.{answer_of}
use Rattle.sbp_world.proofs.Common.{untrue}

-- ---- how a request of a kind ends, and by what answer
abbrev pub write_answer : Ending → Answer
write_answer (endings.Complete value) = Done
write_answer (endings.Refused rcode) = Refused rcode
write_answer endings.Expired = Expired

-- of a read of a quadlet
pub data IsRead : Ending → Answer → Type 0 where
  gives : (value : ℕ) (bytes : List ℕ) → quad bytes 0 ≡ value → IsRead (endings.Complete value) (Payload bytes)
  refuses : (rcode : ℕ) → IsRead (endings.Refused rcode) (Refused rcode)
  lapses : IsRead endings.Expired Expired

pub data IsEndOf : Kind → Ending → Answer → Type 0 where
  of_write : (ending : Ending) → IsEndOf writing ending (write_answer ending)
  of_read : (ending : Ending) (answer : Answer) → IsRead ending answer → IsEndOf reading_quadlet ending answer
  of_block : (ending : Ending) (answer : Answer) → IsEndOf reading_block ending answer
  of_lock : (ending : Ending) (answer : Answer) → IsEndOf locking ending answer

pub quad_read : (ending : Ending) (answer : Answer) → IsEndOf reading_quadlet ending answer → IsRead ending answer
quad_read _ _ (of_read ending answer r) = r

pub write_end : (ending : Ending) (answer : Answer) → IsEndOf writing ending answer → answer ≡ write_answer ending
write_end _ _ (of_write ending) = refl

-- ---- what a response that is read gives
quad_is : (value : ℕ) → value < 2 ^ 32 → quad (big_bytes 4 value) 0 ≡ value
quad_is value small = ap (λ xs. big_number 4 xs) (sym (append_none (big_bytes 4 value))) ∙ big_number-reads_back 4 value [] small
  where
    append_none : (xs : List ℕ) → xs ++ [] ≡ xs
    append_none [] = refl
    append_none (x ∷ xs) = ap (λ ys. x ∷ ys) (append_none xs)

-- a value of a quadlet
abbrev pub IsSmall : Packet → Type 0
IsSmall (read_quadlet_response header rcode value) = value < 2 ^ 32
IsSmall p = Unit {0}

module _ (bytes : List ℕ) (are : AreBytes bytes) where
  pick_small : (b : Bool) (x y : Packet) → IsSmall x → IsSmall y → IsSmall (cond b x y)
  pick_small true x y h k = h
  pick_small false x y h k = k

  value_small : value_of bytes < 2 ^ 32
  unfolding value_of
  value_small = quad_small bytes 12 are

  packet_small : (tcode : ℕ) → IsSmall (packet_in bytes tcode)
  packet_small tcode =
      pick_small (tcode == 0) _ _ tt
      (pick_small (tcode == 1) _ _ tt
      (pick_small (tcode == 2) _ _ tt
      (pick_small (tcode == 4) _ _ tt
      (pick_small (tcode == 5) _ _ tt
      (pick_small (tcode == 6) _ _ value_small
      (pick_small (tcode == 7) _ _ tt
      (pick_small (tcode == 9) _ _ tt tt)))))))

  unless_small : (fault : Option PacketFault) (p q : Packet) → unless_fault fault p ≡ Ok q → IsSmall p → IsSmall q
  unless_small None p q e h = let same : p ≡ q = cc in subst IsSmall same h
  unless_small (Some fault) p q e h = absurd (let no : Err fault ≡ Ok q = e in cc)

  pub read_small : (p : Packet) → reading bytes ≡ Ok p → IsSmall p
  unfolding reading
  read_small p e = unless_small (fault_of bytes) (packet_in bytes (tcode_of bytes)) p e (packet_small (tcode_of bytes))

-- ---- how a response ends the request that it answers
same_kind : (a b : Kind) → is_same_kind a b ≡ true → b ≡ a
same_kind writing writing e = refl
same_kind writing reading_quadlet e = untrue e
same_kind writing reading_block e = untrue e
same_kind writing locking e = untrue e
same_kind reading_quadlet writing e = untrue e
same_kind reading_quadlet reading_quadlet e = refl
same_kind reading_quadlet reading_block e = untrue e
same_kind reading_quadlet locking e = untrue e
same_kind reading_block writing e = untrue e
same_kind reading_block reading_quadlet e = untrue e
same_kind reading_block reading_block e = refl
same_kind reading_block locking e = untrue e
same_kind locking writing e = untrue e
same_kind locking reading_quadlet e = untrue e
same_kind locking reading_block e = untrue e
same_kind locking locking e = refl

pub kind_is : (n l : ℕ) (k m : Kind) → response n k ≡ response l m → k ≡ m
kind_is n l k m e = cc

pub no_response : {A : Type 0} (n l : ℕ) (k m : Kind) → request n k ≡ response l m → A
no_response n l k m e = absurd (let no : request n k ≡ response l m = e in cc)

written_end : (b : Bool) (rcode : ℕ) → IsEndOf writing (cond b (endings.Complete 0) (endings.Refused rcode)) (cond b Done (Refused rcode))
written_end true rcode = of_write (endings.Complete 0)
written_end false rcode = of_write (endings.Refused rcode)

read_end : (b : Bool) (rcode value : ℕ) → value < 2 ^ 32 → IsEndOf reading_quadlet (cond b (endings.Complete value) (endings.Refused rcode)) (cond b (Payload (big_bytes 4 value)) (Refused rcode))
read_end true rcode value small = of_read (endings.Complete value) (Payload (big_bytes 4 value)) (gives value (big_bytes 4 value) (quad_is value small))
read_end false rcode value small = of_read (endings.Refused rcode) (Refused rcode) (refuses rcode)

pub packet_ends : (p : Packet) → IsSmall p → (l : ℕ) (k waited : Kind) → part_in p ≡ response l k → is_same_kind waited k ≡ true → IsEndOf waited (ending_of p) (answer_of p)
packet_ends (write_response header rcode) small l k waited part alike =
    subst (λ x. IsEndOf x (ending_of (write_response header rcode)) (answer_of (write_response header rcode))) (kind_is header.label l writing k part ∙ same_kind waited k alike) (written_end (rcode == 0) rcode)
packet_ends (read_quadlet_response header rcode value) small l k waited part alike =
    subst (λ x. IsEndOf x (ending_of (read_quadlet_response header rcode value)) (answer_of (read_quadlet_response header rcode value))) (kind_is header.label l reading_quadlet k part ∙ same_kind waited k alike) (read_end (rcode == 0) rcode value small)
packet_ends (read_block_response header rcode payload) small l k waited part alike =
    subst (λ x. IsEndOf x (ending_of (read_block_response header rcode payload)) (answer_of (read_block_response header rcode payload))) (kind_is header.label l reading_block k part ∙ same_kind waited k alike) (of_block _ _)
packet_ends (lock_response header rcode extended payload) small l k waited part alike =
    subst (λ x. IsEndOf x (ending_of (lock_response header rcode extended payload)) (answer_of (lock_response header rcode extended payload))) (kind_is header.label l locking k part ∙ same_kind waited k alike) (of_lock _ _)
packet_ends (write_quadlet header offset value) small l k waited part alike = no_response header.label l writing k part
packet_ends (write_block header offset payload) small l k waited part alike = no_response header.label l writing k part
packet_ends (read_quadlet header offset) small l k waited part alike = no_response header.label l reading_quadlet k part
packet_ends (read_block header offset asked) small l k waited part alike = no_response header.label l reading_block k part
packet_ends (lock header offset extended payload) small l k waited part alike = no_response header.label l locking k part
