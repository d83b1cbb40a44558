-- The bytes of a request of an agent spell what it asked for.
use Rattle.sbp_world.proofs.Words.Std.{◌≡◌, ◌∙◌, refl, ap, subst, ℕ, ◌+◌, ◌*◌, ◌/◌, ◌%◌, ◌^◌, ◌<◌, nat_le, Bool, true, false, cond, List, [], ◌∷◌, ◌++◌, length, Option, Some, None, Result, Ok, arith, false≢true, same_Some, none-some, big_bytes}
use Rattle.sbp_world.proofs.Words.Wire.{IsValid, canon, four, three, with_pad, largest, Packet, reading, PacketFault, FitsRequest, Body, block_read, block_write, header_to, quadlet_read, quadlet_write, request_with, relabelled, with_label, Access, access_of}
use Rattle.sbp_world.proofs.Words.Target.{agent_body}
use Rattle.sbp_world.proofs.Words.Initiator.{Ask, Nothing, Read, Write}
use Rattle.sbp_world.proofs.Words.Laws.{access_in, access_in_bytes, spelled_by}
use Rattle.sbp_world.proofs.Words.World.{IsAccessFor, read_access, write_access}
use Rattle.async_packet.proofs.RoundTrip.{canon_spells}
use Rattle.async_packet.proofs.Spelled.{reading_spelled}
use Rattle.bus_transactions.proofs.Fits.{request_fits}
use Rattle.label_table.proofs.Rewritten.{writes_labels}

-- ---- a source counts by its low 16 bits
four_same : (a b c d p q r s : ℕ) → a ≡ p → b ≡ q → c ≡ r → d ≡ s → a ∷ b ∷ c ∷ d ∷ [] ≡ p ∷ q ∷ r ∷ s ∷ []
four_same a b c d p q r s e f g h = cc

source_quad : (node high : ℕ) → high < 2 ^ 16 → big_bytes 4 (node * 2 ^ 16 + high) ≡ big_bytes 4 (node % 2 ^ 16 * 2 ^ 16 + high)
source_quad node high h =
    let x = node * 2 ^ 16 + high in
    let y = node % 2 ^ 16 * 2 ^ 16 + high in
    four_same (x / 256 ^ 3 % 256) (x / 256 ^ 2 % 256) (x / 256 ^ 1 % 256) (x % 256) (y / 256 ^ 3 % 256) (y / 256 ^ 2 % 256) (y / 256 ^ 1 % 256) (y % 256) (omega arith) (omega arith) (omega arith) (omega arith)

four_as : (a b same c d : ℕ) → big_bytes 4 b ≡ big_bytes 4 same → four a b c d ≡ four a same c d
unfolding four
four_as a b same c d e = ap (λ (q : List ℕ). big_bytes 4 a ++ (q ++ (big_bytes 4 c ++ big_bytes 4 d))) e

three_as : (a b same c : ℕ) → big_bytes 4 b ≡ big_bytes 4 same → three a b c ≡ three a same c
unfolding three
three_as a b same c e = ap (λ (q : List ℕ). big_bytes 4 a ++ (q ++ big_bytes 4 c)) e

high_small : (offset : ℕ) → offset < 2 ^ 48 → offset / 2 ^ 32 < 2 ^ 16
high_small offset h = omega arith

respelled : (node peer : ℕ) (body : Body) → FitsRequest body → canon (request_with (header_to node peer 0) body) ≡ canon (request_with (header_to (node % 2 ^ 16) peer 0) body)
respelled node peer (quadlet_write offset value) f = four_as _ (node * 2 ^ 16 + offset / 2 ^ 32) (node % 2 ^ 16 * 2 ^ 16 + offset / 2 ^ 32) _ _ (source_quad node (offset / 2 ^ 32) (high_small offset f.0))
respelled node peer (block_write offset payload) f =
    ap (λ (q : List ℕ). q ++ with_pad payload) (four_as _ (node * 2 ^ 16 + offset / 2 ^ 32) (node % 2 ^ 16 * 2 ^ 16 + offset / 2 ^ 32) _ _ (source_quad node (offset / 2 ^ 32) (high_small offset f.0)))
respelled node peer (quadlet_read offset) f = three_as _ (node * 2 ^ 16 + offset / 2 ^ 32) (node % 2 ^ 16 * 2 ^ 16 + offset / 2 ^ 32) _ (source_quad node (offset / 2 ^ 32) (high_small offset f))
respelled node peer (block_read offset asked) f = four_as _ (node * 2 ^ 16 + offset / 2 ^ 32) (node % 2 ^ 16 * 2 ^ 16 + offset / 2 ^ 32) _ _ (source_quad node (offset / 2 ^ 32) (high_small offset f.0))

-- ---- a request reads back
low_small : (node : ℕ) → node % 2 ^ 16 < 2 ^ 16
low_small node = omega arith

abbrev pub plain : (node peer : ℕ) → Body → Packet
plain node peer body = request_with (header_to (node % 2 ^ 16) peer 0) body

pub reads_back : (node peer number : ℕ) (body : Body) (bytes : List ℕ) → peer < 2 ^ 16 → number < 64 → FitsRequest body → bytes ≡ with_label number (canon (request_with (header_to node peer 0) body)) → access_in_bytes bytes ≡ access_of (relabelled number (plain node peer body))
reads_back node peer number body bytes small below fits e =
    let p = plain node peer body in
    let now = relabelled number p in
    let valid : IsValid p = request_fits (node % 2 ^ 16) peer body (low_small node) small fits in
    let spelled : bytes ≡ canon now = e ∙ ap (with_label number) (respelled node peer body fits) ∙ writes_labels.canonical p number valid below in
    let read : reading bytes ≡ Ok now = ap reading spelled ∙ reading_spelled (canon now) now (canon_spells now (writes_labels.valid p number valid below)) in
    ap (λ (r : Result Packet PacketFault). access_in (spelled_by r)) read

-- ---- and is for what was asked
pub record IsAskedFor (ask : Ask) (is_status : Bool) (fifo : ℕ) (outgoing : List ℕ) (found : Option Access) : Type 0 where
  pub access : Access
  pub is : found ≡ Some access
  pub asks : IsAccessFor ask is_status fifo access
  pub payload : access.is_write ≡ true → access.payload ≡ outgoing

module _ (number node peer : ℕ) where
  abbrev pub Found : Body → Option Access
  Found body = access_of (relabelled number (plain node peer body))

  read_by : (b : Bool) (offset len : ℕ) (is_status : Bool) (fifo : ℕ) (outgoing : List ℕ) (body : Body) → cond b (Some (block_read offset len)) None ≡ Some body → IsAskedFor (Read offset len) is_status fifo outgoing (Found body)
  read_by true offset len is_status fifo outgoing body e =
      subst (λ (x : Body). IsAskedFor (Read offset len) is_status fifo outgoing (Found x)) (same_Some _ body e)
      (record { access = read_access offset len; is = refl; asks = refl; payload = λ w. absurd (false≢true w) })
  read_by false offset len is_status fifo outgoing body e = absurd (none-some body e)

  write_by : (b : Bool) (offset len : ℕ) (is_status : Bool) (fifo : ℕ) (outgoing : List ℕ) (body : Body) → length outgoing ≡ len → cond b (Some (block_write (cond is_status fifo offset) outgoing)) None ≡ Some body → IsAskedFor (Write offset len) is_status fifo outgoing (Found body)
  write_by true offset len is_status fifo outgoing body size e =
      subst (λ (x : Body). IsAskedFor (Write offset len) is_status fifo outgoing (Found x)) (same_Some _ body e)
      (record { access = write_access (cond is_status fifo offset) outgoing; is = refl; asks = (refl, size); payload = λ w. refl })
  write_by false offset len is_status fifo outgoing body size e = absurd (none-some body e)

  pub is_asked_for : (ask : Ask) (is_status : Bool) (fifo : ℕ) (outgoing : List ℕ) (body : Body) → ((offset size : ℕ) → ask ≡ Write offset size → length outgoing ≡ size) → agent_body ask is_status fifo outgoing ≡ Some body → IsAskedFor ask is_status fifo outgoing (Found body)
  is_asked_for (Read offset len) is_status fifo outgoing body size e = read_by (nat_le len largest) offset len is_status fifo outgoing body e
  is_asked_for (Write offset len) is_status fifo outgoing body size e = write_by (nat_le (length outgoing) largest) offset len is_status fifo outgoing body (size offset len refl) e
  is_asked_for Nothing is_status fifo outgoing body size e = absurd (none-some body e)
