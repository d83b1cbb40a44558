-- What the layer finds of a delivery, and what it leaves.
use Rattle.std.proofs.Common.{◌≡◌, refl, ap, ℕ, is_some, Bool, true, false, List, Option, Some, None, Result, Ok, Err}
use Rattle.std.specs.Option.{IfNone}
use Rattle.async_packet.specs.Packet.{Packet, header_in}
use Rattle.async_packet.specs.declared.fault.PacketFault.{PacketFault}
use Rattle.async_packet.specs.Labels.{LabelParts}
use Rattle.async_packet.specs.Reading.{reading}
use Rattle.label_table.specs.declared.reply.ReplyKind.{ReplyKind}
use Rattle.label_table.specs.declared.reply.Verdict.{Verdict}
use Rattle.label_table.specs.declared.reply.Verdict.TheVariants as verdicts
use Rattle.label_table.specs.Filter.{judge_step}
use Rattle.label_table.specs.Peers.{PeerPlace, close_place}
use Rattle.label_table.specs.Requests.{reply_kind}
use Rattle.label_table.specs.Judging.{Facts, Row, by_generation, by_grammar, by_label, by_response, by_again, by_request, row_of}
use Rattle.label_table.specs.Layer.{Layer, Finding, of_generation, of_grammar, of_label, of_response, of_again, of_request, is_again, rcode_in, closed_at, closed_by, closing_in, closing_step, peer_at, peer_place, facts_in, facts_of, judged_by, judging_step, responded}
use Rattle.sbp_target.specs.declared.purpose.Purpose.{Purpose}

pub record IsRead (bytes : List ℕ) (p : Packet) (is_response : Bool) : Type 0 where
  pub read : reading bytes ≡ Ok p
  pub kind : is_some (reply_kind p) ≡ is_response

pub record IsRemembered (before : Layer Purpose) (bytes : List ℕ) (p : Packet) (rcode : ℕ) : Type 0 where
  pub read : reading bytes ≡ Ok p
  pub again : judge_step before.filter (header_in p).source bytes ≡ verdicts.Again rcode

-- Only a response changes the layer. What is found is what the bytes are.
abbrev pub IsFound : Finding Purpose → Layer Purpose → Layer Purpose → List ℕ → Type 0
IsFound of_generation before now bytes = now ≡ before
IsFound of_grammar before now bytes = now ≡ before
IsFound of_label before now bytes = now ≡ before
IsFound (of_response p label purpose) before now bytes = IsRead bytes p true
IsFound (of_again p rcode) before now bytes = (now ≡ before) × IsRemembered before bytes p rcode
IsFound (of_request p) before now bytes = (now ≡ before) × IsRead bytes p false

-- what a row says of its facts
abbrev RowSays : Row → Facts → Type 0
RowSays by_again facts = facts.is_repeated ≡ true
RowSays by_request facts = facts.is_response ≡ false
RowSays _ facts = Unit {0}

row_says_at : (c n r a p : Bool) → RowSays (row_of (record { is_current = c; is_for_node = n; is_response = r; is_awaited = a; is_repeated = p })) (record { is_current = c; is_for_node = n; is_response = r; is_awaited = a; is_repeated = p })
row_says_at false n r a p = tt
row_says_at true false r a p = tt
row_says_at true true true false p = tt
row_says_at true true true true p = tt
row_says_at true true false a true = refl
row_says_at true true false a false = refl

row_says : (facts : Facts) → RowSays (row_of facts) facts
row_says facts = row_says_at facts.is_current facts.is_for_node facts.is_response facts.is_awaited facts.is_repeated

again_is : (v : Verdict) → is_again v ≡ true → v ≡ verdicts.Again (rcode_in v)
again_is (verdicts.Again rcode) e = refl
again_is verdicts.Fresh e = cc
again_is verdicts.Crowded e = cc

-- a response that closes nothing leaves the layer
placed : (k : ℕ) (layer : Layer Purpose) (r : Option (LabelParts × Option Purpose) × PeerPlace Purpose) → IfNone (closed_at k layer r).0 ((closed_at k layer r).1 ≡ layer)
placed k layer (Some closed, place) = tt
placed k layer (None, place) = refl

peered : (k : Option ℕ) (layer : Layer Purpose) (number : ℕ) (kind : ReplyKind) → IfNone (closing_in k layer number kind).0 ((closing_in k layer number kind).1 ≡ layer)
peered None layer number kind = refl
peered (Some k) layer number kind = placed k layer (close_place (peer_at layer k) number kind)

closes : (layer : Layer Purpose) (peer number : ℕ) (kind : ReplyKind) → IfNone (closing_step layer peer number kind).0 ((closing_step layer peer number kind).1 ≡ layer)
unfolding closing_step
closes layer peer number kind = peered (peer_place peer layer) layer number kind

answers_one : (layer : Layer Purpose) (bytes : List ℕ) (p : Packet) (r : Option (LabelParts × Option Purpose) × Layer Purpose) → IfNone r.0 (r.1 ≡ layer) → reading bytes ≡ Ok p → is_some (reply_kind p) ≡ true → IsFound (responded p r).0 layer (responded p r).1 bytes
answers_one layer bytes p (Some (label, purpose), now) h e k = record { read = e; kind = k }
answers_one layer bytes p (None, now) h e k = h

response_found : (layer : Layer Purpose) (bytes : List ℕ) (p : Packet) (kind : Option ReplyKind) → reading bytes ≡ Ok p → reply_kind p ≡ kind → IsFound (responded p (closed_by kind layer p)).0 layer (responded p (closed_by kind layer p)).1 bytes
response_found layer bytes p None e k = refl
response_found layer bytes p (Some kind) e k =
    answers_one layer bytes p (closing_step layer (header_in p).source (header_in p).label kind) (closes layer (header_in p).source (header_in p).label kind) e (ap (λ (o : Option ReplyKind). is_some o) k)

found_by : (layer : Layer Purpose) (generation : ℕ) (bytes : List ℕ) (row : Row) (read : Result Packet PacketFault) → reading bytes ≡ read → RowSays row (facts_in layer generation bytes read) → IsFound (judged_by row layer bytes read).0 layer (judged_by row layer bytes read).1 bytes
found_by layer generation bytes by_generation read e s = refl
found_by layer generation bytes by_grammar read e s = refl
found_by layer generation bytes by_label read e s = refl
found_by layer generation bytes by_response (Ok p) e s = response_found layer bytes p (reply_kind p) e refl
found_by layer generation bytes by_again (Ok p) e s = (refl, record { read = e; again = again_is (judge_step layer.filter (header_in p).source bytes) s })
found_by layer generation bytes by_request (Ok p) e s = (refl, record { read = e; kind = s })
found_by layer generation bytes by_response (Err fault) e s = refl
found_by layer generation bytes by_again (Err fault) e s = refl
found_by layer generation bytes by_request (Err fault) e s = refl

pub found : (layer : Layer Purpose) (generation : ℕ) (bytes : List ℕ) → IsFound (judging_step layer generation bytes).0 layer (judging_step layer generation bytes).1 bytes
unfolding judging_step
found layer generation bytes =
    found_by layer generation bytes (row_of (facts_of layer generation bytes)) (reading bytes) refl (row_says (facts_of layer generation bytes))
