-- Calls of the transaction layer that count nothing.
use Rattle.std.proofs.Common.{◌≡◌, refl, sym, ap, subst, ℕ, nat_lt, Bool, true, false, cond, List, Option, Some, None, Result, Ok, Err}
use Rattle.async_packet.specs.Packet.{Packet, header_in}
use Rattle.async_packet.specs.declared.fault.PacketFault.{PacketFault}
use Rattle.async_packet.specs.Labels.{LabelParts}
use Rattle.async_packet.specs.Reading.{reading}
use Rattle.std.specs.Option.{IfNone}
use Rattle.label_table.specs.declared.reply.ReplyKind.{ReplyKind}
use Rattle.label_table.specs.Peers.{PeerPlace, close_place}
use Rattle.label_table.specs.Requests.{reply_kind}
use Rattle.label_table.specs.Judging.{Row, by_generation, by_grammar, by_label, by_response, by_again, by_request, row_of}
use Rattle.label_table.specs.Layer.{Layer, Finding, answering_step, closed_at, closed_by, closing_in, closing_step, peer_at, peer_place, facts_of, judged_by, judging_step, responded, seeing_step, seen_in_generation}
use Rattle.sbp_initiator.specs.declared.purpose.Purpose.{Purpose}
use Rattle.sbp_initiator.specs.Judged.{IsSame}

-- A generation that is not new leaves the layer as it was.
unseen : (b : Bool) (layer after other : Layer Purpose) (left : Bool × Layer Purpose) → left ≡ cond b (true, other) (false, layer) → left.0 ≡ false → left.1 ≡ layer
unseen true layer after other left e f = let g : left.0 ≡ true = ap (λ (p : Bool × Layer Purpose). p.0) e in cc
unseen false layer after other left e f = ap (λ (p : Bool × Layer Purpose). p.1) e

pub see_same : (seen : Bool) (layer after : Layer Purpose) (generation id : ℕ) → (seen, after) ≡ seeing_step layer generation id → seen ≡ false → after ≡ layer
unfolding seeing_step
see_same seen layer after generation id e f =
    unseen (nat_lt layer.generation generation) layer after (seen_in_generation layer generation id) (seen, after) e f

-- An answer counts no call.
pub answer_calls : (layer after : Layer Purpose) (p : Packet) (bytes given response : List ℕ) (rcode : ℕ) → (response, after) ≡ answering_step layer p bytes rcode given → after.calls ≡ layer.calls
unfolding answering_step
answer_calls layer after p bytes given response rcode e = ap (λ (r : List ℕ × Layer Purpose). r.1.calls) e

-- Only a response that closes a transaction changes the layer.
placed : (k : ℕ) (layer : Layer Purpose) (r : Option (LabelParts × Option Purpose) × PeerPlace Purpose) → IfNone (closed_at k layer r).0 ((closed_at k layer r).1 ≡ layer)
placed k layer (Some closed, place) = tt
placed k layer (None, place) = refl

peered : (k : Option ℕ) (layer : Layer Purpose) (number : ℕ) (kind : ReplyKind) → IfNone (closing_in k layer number kind).0 ((closing_in k layer number kind).1 ≡ layer)
peered None layer number kind = refl
peered (Some k) layer number kind = placed k layer (close_place (peer_at layer k) number kind)

closes : (layer : Layer Purpose) (peer number : ℕ) (kind : ReplyKind) → IfNone (closing_step layer peer number kind).0 ((closing_step layer peer number kind).1 ≡ layer)
unfolding closing_step
closes layer peer number kind = peered (peer_place peer layer) layer number kind

closed : (kind : Option ReplyKind) (layer : Layer Purpose) (p : Packet) → IfNone (closed_by kind layer p).0 ((closed_by kind layer p).1 ≡ layer)
closed None layer p = refl
closed (Some kind) layer p = closes layer (header_in p).source (header_in p).label kind

closing : (p : Packet) (layer : Layer Purpose) (r : Option (LabelParts × Option Purpose) × Layer Purpose) → IfNone r.0 (r.1 ≡ layer) → IsSame (responded p r).0 layer (responded p r).1
closing p layer (Some (label, purpose), after) h = tt
closing p layer (None, after) h = h

judged_rows : (row : Row) (layer : Layer Purpose) (bytes : List ℕ) (read : Result Packet PacketFault) → IsSame (judged_by row layer bytes read).0 layer (judged_by row layer bytes read).1
judged_rows by_generation layer bytes read = refl
judged_rows by_grammar layer bytes read = refl
judged_rows by_label layer bytes read = refl
judged_rows by_response layer bytes (Ok p) = closing p layer (closed_by (reply_kind p) layer p) (closed (reply_kind p) layer p)
judged_rows by_again layer bytes (Ok p) = refl
judged_rows by_request layer bytes (Ok p) = refl
judged_rows by_response layer bytes (Err fault) = refl
judged_rows by_again layer bytes (Err fault) = refl
judged_rows by_request layer bytes (Err fault) = refl

judged : (layer : Layer Purpose) (generation : ℕ) (bytes : List ℕ) → IsSame (judging_step layer generation bytes).0 layer (judging_step layer generation bytes).1
unfolding judging_step
judged layer generation bytes = judged_rows (row_of (facts_of layer generation bytes)) layer bytes (reading bytes)

pub judged_same : (finding : Finding Purpose) (layer after : Layer Purpose) (generation : ℕ) (bytes : List ℕ) → (finding, after) ≡ judging_step layer generation bytes → IsSame finding layer after
judged_same finding layer after generation bytes e =
    subst (λ (p : Finding Purpose × Layer Purpose). IsSame p.0 layer p.1) (sym e) (judged layer generation bytes)
