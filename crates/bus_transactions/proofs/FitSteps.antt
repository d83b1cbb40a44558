-- What the steps of a layer leave: its node, and requests of bytes.
use Rattle.std.proofs.Common.{nat_lt, replicate, arith, ◌≡◌, refl, sym, ap, ◌∙◌, subst, ℕ, zero, suc, ◌+◌, ◌*◌, ◌%◌, ◌^◌, ◌<◌, ◌≤◌, Bool, true, false, cond, List, [], ◌∷◌, length, get_or, Option, Some, None, Result, Ok, Err}
use Rattle.async_packet.specs.Labels.{LabelParts}
use Rattle.async_packet.specs.declared.fault.PacketFault.{PacketFault}
use Rattle.async_packet.specs.Packet.{Packet, header_in}
use Rattle.async_packet.specs.Reading.{reading}
use Rattle.label_table.specs.declared.judgement.Asked.{Asked}
use Rattle.label_table.specs.declared.reply.NoLabel.{NoLabel}
use Rattle.label_table.specs.declared.reply.ReplyKind.{ReplyKind}
use Rattle.label_table.specs.declared.reply.Stale.{Stale}
use Rattle.label_table.specs.declared.source.Remembered.{Remembered}
use Rattle.label_table.specs.Filter.{SourcePlace, new_filter, no_request, no_source, place_for, remember_at, remembered, request_at, source_at}
use Rattle.label_table.specs.Judging.{Row, by_generation, by_grammar, by_label, by_response, by_again, by_request, row_of}
use Rattle.label_table.specs.Bodies.{Body, header_to, request_with}
use Rattle.label_table.specs.Layer.{Layer, answering_step, asked_at, asking_in, asking_step, closed_at, closed_by, closing_in, closing_step, disowning_in, disowning_step, expired_at, expiring_in, expiring_step, facts_of, judged_by, judging_step, new_layer, peer_at, peer_place, responded, seeing_step, seen_in_generation, unlabelled}
use Rattle.label_table.specs.Peers.{PeerPlace, begun_for, close_place, expire_place}
use Rattle.label_table.specs.Requests.{label_of, reply_kind, with_label}
use Rattle.label_table.specs.declared.place.Place.{Place}
use Rattle.label_table.specs.Table.{begin_at, begin_step, lowest_from, serves}
use Rattle.label_table.specs.History as wire
use Rattle.label_table.proofs.Calls.{after_kept}
use Rattle.bus_transactions.specs.Fitting.{AreBytes, FitsFilter, FitsRequest, IsLayer}
use Rattle.bus_transactions.proofs.Fits.{bytes_set, put_or, request_bytes}

pub replicate_or : {A : Type 0} (n k : ℕ) (a : A) → get_or (replicate n a) k a ≡ a
replicate_or zero k a = refl
replicate_or (suc n) zero a = refl
replicate_or (suc n) (suc k) a = replicate_or n k a

-- ---- a filter, and labels
remembers : (found : Option ℕ) (filter : List SourcePlace) (source : ℕ) (bytes : List ℕ) (rcode : ℕ) → rcode < 2 ^ 4 → FitsFilter filter → FitsFilter (remember_at found filter source bytes rcode)
unfolding remembered
remembers None filter source bytes rcode s f k label = f k label
remembers (Some n) filter source bytes rcode s f k label =
    put_or (λ (x : SourcePlace). (request_at label x).rcode < 2 ^ 4) filter n k (remembered (source_at filter n) source bytes rcode) no_source
    (λ e. put_or (λ (x : Remembered). x.rcode < 2 ^ 4) (source_at filter n).requests (label_of bytes) label (record { last = Some bytes; rcode = rcode }) no_request (λ g. s) (f n label))
    (f k label)

new_request : (k label : ℕ) → request_at label (source_at new_filter k) ≡ no_request
new_request k label =
    ap (λ (x : SourcePlace). request_at label x) (replicate_or 5 k no_source) ∙ replicate_or 64 label no_request

pub new_filter_fits : FitsFilter new_filter
new_filter_fits k label = rw (new_request k label) (omega arith)

abbrev pub IfAsked : Option Asked → Type 0
IfAsked None = Unit {0}
IfAsked (Some asked) = AreBytes asked.bytes

label_bytes : (number : ℕ) (bytes : List ℕ) → number < 64 → AreBytes bytes → AreBytes (with_label number bytes)
unfolding with_label
label_bytes number bytes n a = bytes_set bytes 2 _ a (omega arith)

lowest_by : (b : Bool) (number count n : ℕ) (rest : Option ℕ) → cond b (Some number) rest ≡ Some n → (rest ≡ Some n → n < number + 1 + count) → n < number + suc count
lowest_by true number count n rest e h = let g = same e in omega arith
  where
    same : Some number ≡ Some n → number ≡ n
    same f = cc
lowest_by false number count n rest e h = let g = h e in omega arith

lowest_below : (number : ℕ) (bytes : List ℕ) (places : List Place) (n : ℕ) → lowest_from number bytes places ≡ Some n → n < number + length places
unfolding lowest_from
lowest_below number bytes [] n e = cc
lowest_below number bytes (place ∷ places) n e =
    lowest_by (serves number bytes place) number (length places) n (lowest_from (number + 1) bytes places) e (λ f. lowest_below (number + 1) bytes places n f)

module _ {P : Type 0} where
  -- ---- what asks, time-outs and judging leave
  pub record Same (layer now : Layer P) : Type 0 where
    pub node : now.node ≡ layer.node
    pub filter : now.filter ≡ layer.filter

  same_self : (layer : Layer P) → Same layer layer
  same_self layer = record { node = refl; filter = refl }

  asked_same : (k : ℕ) (layer : Layer P) (r : Result LabelParts NoLabel × (PeerPlace P × List ℕ)) → Same layer (asked_at k layer r).1
  asked_same k layer (Ok label, (place, bytes)) = record { node = refl; filter = refl }
  asked_same k layer (Err none, (place, bytes)) = same_self layer

  asking_same : (found : Option ℕ) (layer : Layer P) (peer : ℕ) (bytes : List ℕ) (purpose : P) → Same layer (asking_in found layer peer bytes purpose).1
  asking_same None layer peer bytes purpose = same_self layer
  asking_same (Some k) layer peer bytes purpose = asked_same k layer (begun_for (peer_at layer k) peer purpose (begin_step (peer_at layer k).table bytes))

  pub asks_same : (layer : Layer P) (peer : ℕ) (body : Body) (purpose : P) → Same layer (asking_step layer peer body purpose).1
  unfolding asking_step
  asks_same layer peer body purpose = asking_same (peer_place peer layer) layer peer (unlabelled layer peer body) purpose

  disowning_same : (found : Option ℕ) (layer : Layer P) (label : LabelParts) → Same layer (disowning_in found layer label)
  disowning_same None layer label = same_self layer
  disowning_same (Some k) layer label = record { node = refl; filter = refl }

  pub disowns_same : (layer : Layer P) (peer : ℕ) (label : LabelParts) → Same layer (disowning_step layer peer label)
  unfolding disowning_step
  disowns_same layer peer label = disowning_same (peer_place peer layer) layer label

  expired_same : (k : ℕ) (layer : Layer P) (r : Result (Option P) Stale × PeerPlace P) → Same layer (expired_at k layer r).1
  expired_same k layer (Ok purpose, place) = record { node = refl; filter = refl }
  expired_same k layer (Err stale, place) = same_self layer

  expiring_same : (found : Option ℕ) (layer : Layer P) (label : LabelParts) → Same layer (expiring_in found layer label).1
  expiring_same None layer label = same_self layer
  expiring_same (Some k) layer label = expired_same k layer (expire_place (peer_at layer k) label)

  pub expires_same : (layer : Layer P) (peer : ℕ) (label : LabelParts) → Same layer (expiring_step layer peer label).1
  unfolding expiring_step
  expires_same layer peer label = expiring_same (peer_place peer layer) layer label

  closed_same : (k : ℕ) (layer : Layer P) (r : Option (LabelParts × Option P) × PeerPlace P) → Same layer (closed_at k layer r).1
  closed_same k layer (Some closed, place) = record { node = refl; filter = refl }
  closed_same k layer (None, place) = same_self layer

  closing_same : (found : Option ℕ) (layer : Layer P) (number : ℕ) (kind : ReplyKind) → Same layer (closing_in found layer number kind).1
  closing_same None layer number kind = same_self layer
  closing_same (Some k) layer number kind = closed_same k layer (close_place (peer_at layer k) number kind)

  closes_same : (kind : Option ReplyKind) (layer : Layer P) (p : Packet) → Same layer (closed_by kind layer p).1
  unfolding closing_step
  closes_same None layer p = same_self layer
  closes_same (Some kind) layer p = closing_same (peer_place (header_in p).source layer) layer (header_in p).label kind

  responded_same : (layer : Layer P) (p : Packet) (r : Option (LabelParts × Option P) × Layer P) → Same layer r.1 → Same layer (responded p r).1
  responded_same layer p (Some (label, purpose), now) s = s
  responded_same layer p (None, now) s = s

  judged_same : (row : Row) (layer : Layer P) (bytes : List ℕ) (read : Result Packet PacketFault) → Same layer (judged_by row layer bytes read).1
  judged_same by_generation layer bytes read = same_self layer
  judged_same by_grammar layer bytes read = same_self layer
  judged_same by_label layer bytes read = same_self layer
  judged_same by_response layer bytes (Ok p) = responded_same layer p (closed_by (reply_kind p) layer p) (closes_same (reply_kind p) layer p)
  judged_same by_again layer bytes (Ok p) = same_self layer
  judged_same by_request layer bytes (Ok p) = same_self layer
  judged_same by_response layer bytes (Err fault) = same_self layer
  judged_same by_again layer bytes (Err fault) = same_self layer
  judged_same by_request layer bytes (Err fault) = same_self layer

  pub judges_same : (layer : Layer P) (generation : ℕ) (bytes : List ℕ) → Same layer (judging_step layer generation bytes).1
  unfolding judging_step
  judges_same layer generation bytes = judged_same (row_of (facts_of layer generation bytes)) layer bytes (reading bytes)

  -- ---- a layer that calls led to
  pub goes : (layer : Layer P) (call : wire.Call P) → Same layer (wire.done call layer) → IsLayer layer → IsLayer (wire.done call layer)
  goes layer call s c = record {
    first = c.first;
    calls = call ∷ c.calls;
    layer_is = ap (λ (l : Layer P). wire.done call l) c.layer_is;
    filter = subst (λ (f : List SourcePlace). FitsFilter f) (sym s.filter) c.filter;
    small = subst (λ (n : ℕ). n < 2 ^ 16) (sym s.node) c.small;
  }

  pub answers_go : (layer : Layer P) (p : Packet) (bytes : List ℕ) (rcode : ℕ) (given : List ℕ) → rcode < 2 ^ 4 → IsLayer layer → IsLayer (answering_step layer p bytes rcode given).1
  unfolding answering_step
  answers_go layer p bytes rcode given s c = record {
    first = c.first;
    calls = wire.answers p bytes rcode given ∷ c.calls;
    layer_is = ap (λ (l : Layer P). (answering_step l p bytes rcode given).1) c.layer_is;
    filter = remembers (place_for (header_in p).source layer.filter) layer.filter (header_in p).source bytes rcode s c.filter;
    small = c.small;
  }

  pub new_goes : (node : ℕ) → node < 2 ^ 16 → IsLayer (new_layer {P = P} node)
  new_goes node s = record { first = node; calls = []; layer_is = refl; filter = new_filter_fits; small = s }

  sees_if : (b : Bool) (layer : Layer P) (generation id : ℕ) → nat_lt layer.generation generation ≡ b → id < 2 ^ 16 → IsLayer layer → IsLayer (seeing_step layer generation id).1
  unfolding seeing_step
  sees_if b layer generation id e s c = record {
    first = c.first;
    calls = wire.sees generation id ∷ c.calls;
    layer_is = ap (λ (l : Layer P). (seeing_step l generation id).1) c.layer_is;
    filter = kept (nat_lt layer.generation generation);
    small = least (nat_lt layer.generation generation);
  }
    where
      kept : (x : Bool) → FitsFilter (cond {A = Bool × Layer P} x (true, seen_in_generation layer generation id) (false, layer)).1.filter
      kept true = new_filter_fits
      kept false = c.filter

      least : (x : Bool) → (cond {A = Bool × Layer P} x (true, seen_in_generation layer generation id) (false, layer)).1.node < 2 ^ 16
      least true = s
      least false = c.small

  pub sees_goes : (layer : Layer P) (generation id : ℕ) → id < 2 ^ 16 → IsLayer layer → IsLayer (seeing_step layer generation id).1
  sees_goes layer generation id s c = sees_if (nat_lt layer.generation generation) layer generation id refl s c

  full : (layer : Layer P) (k : ℕ) → IsLayer layer → length (peer_at layer k).table.places ≡ 64
  full layer k c = ap (λ (l : Layer P). length (peer_at l k).table.places) (sym c.layer_is) ∙ (after_kept c.first c.calls).parts.full k

  -- ---- the bytes of a request
  found_bytes : (layer : Layer P) (k peer : ℕ) (bytes : List ℕ) (purpose : P) (number : Option ℕ) → ((n : ℕ) → number ≡ Some n → n < 64) → AreBytes bytes → IfAsked (asked_at k layer (begun_for (peer_at layer k) peer purpose (begin_at number (peer_at layer k).table bytes))).0
  found_bytes layer k peer bytes purpose None s a = tt
  found_bytes layer k peer bytes purpose (Some number) s a = label_bytes number bytes (s number refl) a

  asking_bytes : (found : Option ℕ) (layer : Layer P) (peer : ℕ) (bytes : List ℕ) (purpose : P) → IsLayer layer → AreBytes bytes → IfAsked (asking_in found layer peer bytes purpose).0
  unfolding begin_step
  asking_bytes None layer peer bytes purpose c a = tt
  asking_bytes (Some k) layer peer bytes purpose c a =
      found_bytes layer k peer bytes purpose (lowest_from 0 bytes (peer_at layer k).table.places)
      (λ n e. let b = lowest_below 0 bytes (peer_at layer k).table.places n e in let f = full layer k c in omega arith) a

  pub asked_bytes : (layer : Layer P) (peer : ℕ) (body : Body) (purpose : P) → IsLayer layer → FitsRequest body → IfAsked (asking_step layer peer body purpose).0
  unfolding asking_step
  asked_bytes layer peer body purpose c f =
      asking_bytes (peer_place peer layer) layer peer (unlabelled layer peer body) purpose c (request_bytes (header_to layer.node peer 0) body f)
