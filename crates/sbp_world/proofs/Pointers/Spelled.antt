-- What the bytes of a request of a transaction layer say that it asks for.
use Rattle.sbp_world.proofs.Words.Std.{arith, ◌≡◌, refl, sym, ◌∙◌, ap, ℕ, suc, ◌+◌, ◌<◌, Bool, true, false, cond, List, [], ◌∷◌, length, Option, Some, None, Ok, same_Some}
use Rattle.sbp_world.proofs.Words.Wire.{IsValid, canon, Packet, reading, Asked, Place, Body, block_read, block_write, header_to, quadlet_read, quadlet_write, request_with, relabelled, Layer, asked_at, asking_in, asking_step, peer_at, peer_place, unlabelled, begun_for, begin_at, begin_step, lowest_from, serves, with_label, access_of, IsLayer}
use Rattle.sbp_world.proofs.Words.Initiator.{Purpose}
use Rattle.sbp_world.proofs.Words.Laws.{access_in, access_in_bytes}
use Rattle.async_packet.proofs.RoundTrip.{canon_spells}
use Rattle.async_packet.proofs.Spelled.{reading_spelled}
use Rattle.label_table.proofs.Calls.{after_kept}
use Rattle.label_table.proofs.Rewritten.{writes_labels}
use Rattle.sbp_laws.specs.Packets.{spelled_by as read_by}

-- whatever its header says
pub same_access : (node peer n : ℕ) (body : Body) → access_of (relabelled n (request_with (header_to node peer 0) body)) ≡ access_of (request_with (header_to 0 0 0) body)
same_access node peer n (quadlet_write offset value) = refl
same_access node peer n (block_write offset payload) = refl
same_access node peer n (quadlet_read offset) = refl
same_access node peer n (block_read offset asked) = refl

-- a label that serves is one of the table
pub below_by : (b : Bool) (number count n : ℕ) (rest : Option ℕ) → cond b (Some number) rest ≡ Some n → (rest ≡ Some n → n < number + 1 + count) → n < number + suc count
below_by true number count n rest e h = let f : number ≡ n = cc in omega arith
below_by false number count n rest e h = let f = h e in omega arith

pub below : (number : ℕ) (bytes : List ℕ) (places : List Place) (n : ℕ) → lowest_from number bytes places ≡ Some n → n < number + length places
unfolding lowest_from
below number bytes [] n e = cc
below number bytes (place ∷ places) n e =
    below_by (serves number bytes place) number (length places) n (lowest_from (number + 1) bytes places) e (λ f. below (number + 1) bytes places n f)

pub read_canon : (p : Packet) → IsValid p → reading (canon p) ≡ Ok p
read_canon p v = reading_spelled (canon p) p (canon_spells p v)

module _ (layer : Layer Purpose) (peer : ℕ) (body : Body) (purpose : Purpose) (c : IsLayer layer) (v : IsValid (request_with (header_to layer.node peer 0) body)) where
  -- the packet under a label
  under_label : (n : ℕ) → n < 64 → access_in_bytes (with_label n (unlabelled layer peer body)) ≡ access_of (request_with (header_to 0 0 0) body)
  under_label n small =
      let p : Packet = request_with (header_to layer.node peer 0) body in
      let spelled : with_label n (canon p) ≡ canon (relabelled n p) = writes_labels.canonical p n v small in
      ap (λ x. access_in (read_by x)) (ap reading spelled ∙ read_canon (relabelled n p) (writes_labels.valid p n v small))
      ∙ same_access layer.node peer n body

  found_spelled : (k : ℕ) (number : Option ℕ) → ((n : ℕ) → number ≡ Some n → n < 64) → (asked : Asked) → (asked_at k layer (begun_for (peer_at layer k) peer purpose (begin_at number (peer_at layer k).table (unlabelled layer peer body)))).0 ≡ Some asked → access_in_bytes asked.bytes ≡ access_of (request_with (header_to 0 0 0) body)
  found_spelled k None s asked e = cc
  found_spelled k (Some number) s asked e = ap (λ (a : Asked). access_in_bytes a.bytes) (sym (same_Some _ asked e)) ∙ under_label number (s number refl)

  full : (k : ℕ) → length (peer_at layer k).table.places ≡ 64
  full k = ap (λ (l : Layer Purpose). length (peer_at l k).table.places) (sym c.layer_is) ∙ (after_kept c.first c.calls).parts.full k

  asking_spelled : (found : Option ℕ) (asked : Asked) → (asking_in found layer peer (unlabelled layer peer body) purpose).0 ≡ Some asked → access_in_bytes asked.bytes ≡ access_of (request_with (header_to 0 0 0) body)
  unfolding begin_step
  asking_spelled None asked e = cc
  asking_spelled (Some k) asked e =
      found_spelled k (lowest_from 0 (unlabelled layer peer body) (peer_at layer k).table.places)
      (λ n g. let b = below 0 (unlabelled layer peer body) (peer_at layer k).table.places n g in let f = full k in omega arith) asked e

  pub spelled_by : (asked : Asked) → (asking_step layer peer body purpose).0 ≡ Some asked → access_in_bytes asked.bytes ≡ access_of (request_with (header_to 0 0 0) body)
  unfolding asking_step
  spelled_by asked e = asking_spelled (peer_place peer layer) asked e
