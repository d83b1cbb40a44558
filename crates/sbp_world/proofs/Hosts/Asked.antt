-- What the transaction layer sends when it is asked for something: a request, under a label.
use Rattle.sbp_world.proofs.Words.Std.{arith, ◌≡◌, refl, sym, ◌∙◌, ap, ℕ, ◌<◌, List, length, Option, Some, None}
use Rattle.sbp_world.proofs.Words.Wire.{IsValid, LabelParts, Asked, Body, header_to, request_with, Layer, asked_at, asking_in, asking_step, peer_at, peer_place, unlabelled, begun_for, begin_at, begin_step, lowest_from, Kind, part_of, request, IsLayer}
use Rattle.sbp_world.proofs.Words.Initiator.{Purpose}
use Rattle.label_table.proofs.Calls.{after_kept}
use Rattle.bus_transactions.proofs.MoveAsk.{asked_bytes}
use Rattle.sbp_world.proofs.Pointers.Spelled.{below}

-- under this label
pub record IsRequest (number : ℕ) (bytes : List ℕ) : Type 0 where
  pub kind : Kind
  pub part : part_of bytes ≡ request number kind

-- that of a packet that leaves
abbrev pub number_in : Option LabelParts → ℕ
number_in None = 0
number_in (Some label) = label.number

abbrev pub IfRequest : Option Asked → Type 0
IfRequest None = Unit {0}
IfRequest (Some asked) = IsRequest asked.label.number asked.bytes

module _ (layer : Layer Purpose) (peer : ℕ) (body : Body) (purpose : Purpose) (c : IsLayer layer) (v : IsValid (request_with (header_to layer.node peer 0) body)) where
  found_request : (k : ℕ) (number : Option ℕ) → ((n : ℕ) → number ≡ Some n → n < 64) → IfRequest (asked_at k layer (begun_for (peer_at layer k) peer purpose (begin_at number (peer_at layer k).table (unlabelled layer peer body)))).0
  found_request k None s = tt
  found_request k (Some number) s = let a = asked_bytes layer.node peer number body _ v (s number refl) refl in record { kind = a.kind; part = a.part }

  full : (k : ℕ) → length (peer_at layer k).table.places ≡ 64
  full k = ap (λ (l : Layer Purpose). length (peer_at l k).table.places) (sym c.layer_is) ∙ (after_kept c.first c.calls).parts.full k

  asking_request : (found : Option ℕ) → IfRequest (asking_in found layer peer (unlabelled layer peer body) purpose).0
  unfolding begin_step
  asking_request None = tt
  asking_request (Some k) =
      found_request k (lowest_from 0 (unlabelled layer peer body) (peer_at layer k).table.places)
      (λ n e. let b = below 0 (unlabelled layer peer body) (peer_at layer k).table.places n e in let f = full k in omega arith)

  pub is_request : IfRequest (asking_step layer peer body purpose).0
  unfolding asking_step
  is_request = asking_request (peer_place peer layer)
