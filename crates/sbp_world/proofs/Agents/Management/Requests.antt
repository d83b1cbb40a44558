-- What a request of the operation is on the wire: a request under its label, that the terms take for the operation's.
use Rattle.sbp_world.proofs.Words.Std.{arith, ◌≡◌, ◌∙◌, refl, sym, ap, subst, ℕ, ◌^◌, ◌<◌, ◌==◌, nat_le, Bool, true, false, cond, List, [], length, Option, Some, None, Result, Ok}
use Rattle.sbp_world.proofs.Words.Wire.{IsValid, canon, largest, Packet, reading, PacketFault, FitsRequest, Asked, Body, block_read, block_write, header_to, quadlet_read, quadlet_write, request_with, Layer, asked_at, asking_in, asking_step, peer_at, peer_place, unlabelled, begun_for, with_label, begin_at, begin_step, lowest_from, Kind, is_same_kind, locking, part_in, part_of, reading_block, reading_quadlet, request, writing, relabelled}
use Rattle.sbp_world.proofs.Words.Target.{Purpose, agent_body, manager_body}
use Rattle.sbp_world.proofs.Words.Initiator.{Ask}
use Rattle.sbp_world.proofs.Words.Laws.{access_in, access_in_bytes, spelled_by, is_write_access, wants}
use Rattle.bus_transactions.proofs.Fits.{request_fits}
use Rattle.bus_transactions.proofs.PacketParts.{part_read}
use Rattle.label_table.proofs.Calls.{after_kept}
use Rattle.orb_layout.specs.declared.ask.Ask.TheVariants as ask
use Rattle.sbp_target.proofs.Histories.Primitives.{Known}
use Rattle.sbp_target.proofs.Histories.Seats.{Lives}
use Rattle.async_packet.proofs.RoundTrip.{canon_spells}
use Rattle.async_packet.proofs.Spelled.{reading_spelled}
use Rattle.label_table.proofs.Rewritten.{writes_labels}
use Rattle.label_table.proofs.Steps.{lowest_below}

-- ---- the label of a request

-- its number has 6 bits, and stands in the bytes
pub record IsLabelled (plain : List ℕ) (asked : Asked) : Type 0 where
  pub small : asked.label.number < 64
  pub bytes_are : asked.bytes ≡ with_label asked.label.number plain

abbrev IfLabelled : List ℕ → Option Asked → Type 0
IfLabelled plain None = Unit {0}
IfLabelled plain (Some asked) = IsLabelled plain asked

found_labelled : (layer : Layer Purpose) (k peer : ℕ) (plain : List ℕ) (purpose : Purpose) (number : Option ℕ) → ((n : ℕ) → number ≡ Some n → n < 64) → IfLabelled plain (asked_at k layer (begun_for (peer_at layer k) peer purpose (begin_at number (peer_at layer k).table plain))).0
found_labelled layer k peer plain purpose None s = tt
found_labelled layer k peer plain purpose (Some number) s = record { small = s number refl; bytes_are = refl }

in_labelled : (found : Option ℕ) (layer : Layer Purpose) (peer : ℕ) (plain : List ℕ) (purpose : Purpose) → ((k : ℕ) → length (peer_at layer k).table.places ≡ 64) → IfLabelled plain (asking_in found layer peer plain purpose).0
unfolding begin_step
in_labelled None layer peer plain purpose full = tt
in_labelled (Some k) layer peer plain purpose full =
    found_labelled layer k peer plain purpose (lowest_from 0 plain (peer_at layer k).table.places)
    (λ n e. let b = lowest_below n plain (peer_at layer k).table.places e in let f = full k in omega arith)

step_labelled : (layer : Layer Purpose) (peer : ℕ) (body : Body) (purpose : Purpose) → ((k : ℕ) → length (peer_at layer k).table.places ≡ 64) → IfLabelled (unlabelled layer peer body) (asking_step layer peer body purpose).0
unfolding asking_step
step_labelled layer peer body purpose full = in_labelled (peer_place peer layer) layer peer (unlabelled layer peer body) purpose full

pub asked_labelled : (layer now : Layer Purpose) (lives : Lives) (peer : ℕ) (body : Body) (purpose : Purpose) (asked : Asked) → Known layer lives → asking_step layer peer body purpose ≡ (Some asked, now) → IsLabelled (unlabelled layer peer body) asked
asked_labelled layer now lives peer body purpose asked k e =
    subst (λ (r : Option Asked × Layer Purpose). IfLabelled (unlabelled layer peer body) r.0) e
    (step_labelled layer peer body purpose
    (λ n. ap (λ (l : Layer Purpose). length (peer_at l n).table.places) (sym k.layer_is) ∙ (after_kept 0xffc0 k.steps).parts.full n))

-- ---- its bytes

abbrev pub writes_body : Body → Bool
writes_body (quadlet_write offset value) = true
writes_body (block_write offset payload) = true
writes_body (quadlet_read offset) = false
writes_body (block_read offset asked) = false

abbrev pub kind_for : Body → Kind
kind_for (quadlet_write offset value) = writing
kind_for (block_write offset payload) = writing
kind_for (quadlet_read offset) = reading_quadlet
kind_for (block_read offset asked) = reading_block

-- a request of this number, that writes where its body does
pub record IsRequestFor (number : ℕ) (body : Body) (bytes : List ℕ) : Type 0 where
  pub part : part_of bytes ≡ request number (kind_for body)
  pub writes : is_write_access (access_in_bytes bytes) ≡ writes_body body

body_part : (node peer n : ℕ) (body : Body) → part_in (relabelled n (request_with (header_to node peer 0) body)) ≡ request n (kind_for body)
body_part node peer n (quadlet_write offset value) = refl
body_part node peer n (block_write offset payload) = refl
body_part node peer n (quadlet_read offset) = refl
body_part node peer n (block_read offset asked) = refl

body_writes : (node peer n : ℕ) (body : Body) → is_write_access (access_in (Some (relabelled n (request_with (header_to node peer 0) body)))) ≡ writes_body body
body_writes node peer n (quadlet_write offset value) = refl
body_writes node peer n (block_write offset payload) = refl
body_writes node peer n (quadlet_read offset) = refl
body_writes node peer n (block_read offset asked) = refl

pub asks_valid : (node peer : ℕ) (body : Body) (asked : Asked) → IsValid (request_with (header_to node peer 0) body) → IsLabelled (canon (request_with (header_to node peer 0) body)) asked → IsRequestFor asked.label.number body asked.bytes
asks_valid node peer body asked v l =
    let p : Packet = request_with (header_to node peer 0) body in
    let n = asked.label.number in
    let spelled : asked.bytes ≡ canon (relabelled n p) = l.bytes_are ∙ writes_labels.canonical p n v l.small in
    let read : reading asked.bytes ≡ Ok (relabelled n p) = ap reading spelled ∙ reading_spelled (canon (relabelled n p)) (relabelled n p) (canon_spells (relabelled n p) (writes_labels.valid p n v l.small)) in
    record {
      part = part_read asked.bytes (relabelled n p) read ∙ body_part node peer n body;
      writes = ap (λ (r : Result Packet PacketFault). is_write_access (access_in (spelled_by r))) read ∙ body_writes node peer n body;
    }

pub asks_as : (node peer : ℕ) (body : Body) (asked : Asked) → node < 2 ^ 16 → peer < 2 ^ 16 → FitsRequest body → IsLabelled (canon (request_with (header_to node peer 0) body)) asked → IsRequestFor asked.label.number body asked.bytes
asks_as node peer body asked a b fits l = asks_valid node peer body asked (request_fits node peer body a b fits) l

pub no_lock_for : (body : Body) → is_same_kind (kind_for body) locking ≡ false
no_lock_for (quadlet_write offset value) = refl
no_lock_for (block_write offset payload) = refl
no_lock_for (quadlet_read offset) = refl
no_lock_for (block_read offset asked) = refl

-- ---- what was asked for wants it

read_wants : (b : Bool) (offset len : ℕ) (body : Body) → cond b (Some (block_read offset len)) None ≡ Some body → writes_body body ≡ false
read_wants true offset len body e = ap writes_body (let s : body ≡ block_read offset len = cc in s)
read_wants false offset len body e = absurd (none_not e)
  where
    none_not : {x : Body} → None ≡ Some x → ⊥
    none_not e = cc

reads_want : (b : Bool) (offset len : ℕ) (body : Body) → cond b (Some (quadlet_read offset)) (agent_body (ask.Read offset len) false 0 []) ≡ Some body → writes_body body ≡ false
reads_want true offset len body e = ap writes_body (let s : body ≡ quadlet_read offset = cc in s)
reads_want false offset len body e = read_wants (nat_le len largest) offset len body e

write_wants : (b : Bool) (offset : ℕ) (outgoing : List ℕ) (body : Body) → cond b (Some (block_write offset outgoing)) None ≡ Some body → writes_body body ≡ true
write_wants true offset outgoing body e = ap writes_body (let s : body ≡ block_write offset outgoing = cc in s)
write_wants false offset outgoing body e = absurd (none_not e)
  where
    none_not : {x : Body} → None ≡ Some x → ⊥
    none_not e = cc

pub body_wants : (a : Ask) (outgoing : List ℕ) (body : Body) → manager_body a outgoing ≡ Some body → wants a (writes_body body) ≡ true
body_wants (ask.Read offset len) outgoing body e = rw (reads_want (len == 4) offset len body e) refl
body_wants (ask.Write offset len) outgoing body e = rw (write_wants (nat_le (length outgoing) largest) offset outgoing body e) refl
body_wants ask.Nothing outgoing body e = absurd (none_not e)
  where
    none_not : {x : Body} → None ≡ Some x → ⊥
    none_not e = cc
