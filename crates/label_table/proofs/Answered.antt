-- What a node answered is what its filter remembers, and what it asks is canonical.
use Rattle.std.specs.Prelude.{◌≡◌, ◌≢◌, ℕ, ◌+◌, ◌≤◌, ◌<◌, Bool, true, false, cond, List, [], ◌∷◌, length, Option, Some, None, IfSome, Result, Ok, Err, refl}
use Rattle.std.proofs.Common.{arith, sym, ◌∙◌, ap, subst}
use Rattle.async_packet.specs.declared.fault.PacketFault.{PacketFault}
use Rattle.async_packet.specs.Labels.{LabelParts}
use Rattle.async_packet.specs.Packet.{Packet, header_in}
use Rattle.async_packet.specs.Canon.{IsValid, canon}
use Rattle.label_table.specs.declared.reply.ReplyKind.{ReplyKind}
use Rattle.label_table.specs.declared.reply.NoLabel.{NoLabel}
use Rattle.label_table.specs.declared.reply.Stale.{Stale}
use Rattle.label_table.specs.declared.reply.Verdict.TheVariants as verdicts
use Rattle.label_table.specs.Requests.{with_label, reply_kind}
use Rattle.label_table.specs.Table.{begin_at, begin_step, lowest_from}
use Rattle.label_table.specs.Filter.{judge_step, remember_step}
use Rattle.label_table.specs.Last.{Answered, filter_after}
use Rattle.label_table.specs.Laws.{relabelled}
use Rattle.label_table.specs.Bodies.{Body, quadlet_write, block_write, quadlet_read, block_read, header_to, request_with}
use Rattle.label_table.specs.Judging.{Row, by_generation, by_grammar, by_label, by_response, by_again, by_request}
use Rattle.label_table.specs.Peers.{PeerPlace, begun_for}
use Rattle.label_table.specs.Layer.{Layer, with_peer, peer_at, unlabelled, closed_at, closing_in, closing_step, closed_by, responded, judged_by, judging_step, answering_step, asked_at, asking_in, asking_step, expired_at, expiring_in, expiring_step, disowning_in, disowning_step, seen_in_generation, seeing_step}
use Rattle.label_table.specs.History.{Call, judges, answers, asks, lets_expire, disowns, sees, after, answered, RememberedLaw, AskedLaw}
use Rattle.label_table.specs.declared.judgement.Asked.{Asked}
use Rattle.label_table.proofs.Calls.{after_kept}
use Rattle.label_table.proofs.Last.{last_law}
use Rattle.label_table.proofs.Steps.{lowest_below}
use Rattle.label_table.proofs.Rewritten.{canonical_with}

-- what a call leaves as it was, where no generation is seen and no request answered
pub record Stays {P : Type 0} (old new : Layer P) : Type 0 where
  pub generation : new.generation ≡ old.generation
  pub node : new.node ≡ old.node
  pub filter : new.filter ≡ old.filter
  pub least : old.calls ≤ new.calls
  pub most : new.calls ≤ old.calls + 1

module _ {P : Type 0} (layer : Layer P) where
  same : Stays layer layer
  same = record { generation = refl; node = refl; filter = refl; least = omega arith; most = omega arith }

  one_place : (k : ℕ) (place : PeerPlace P) → Stays layer (with_peer layer k place)
  one_place k place = record { generation = refl; node = refl; filter = refl; least = omega arith; most = omega arith }

  closed_stays : (k : ℕ) (c : Option (LabelParts × Option P) × PeerPlace P) → Stays layer (closed_at k layer c).1
  closed_stays k (Some closed, place) = one_place k place
  closed_stays k (None, place) = same

  closing_stays : (place : Option ℕ) (number : ℕ) (kind : ReplyKind) → Stays layer (closing_in place layer number kind).1
  closing_stays None number kind = same
  closing_stays (Some k) number kind = closed_stays k _

  response_stays : (kind : Option ReplyKind) (p : Packet) → Stays layer (closed_by kind layer p).1
  unfolding closing_step
  response_stays None p = same
  response_stays (Some kind) p = closing_stays _ (header_in p).label kind

  responded_is : (p : Packet) (c : Option (LabelParts × Option P) × Layer P) → (responded p c).1 ≡ c.1
  responded_is p (Some (label, purpose), new) = refl
  responded_is p (None, new) = refl

  judged_by_stays : (row : Row) (bytes : List ℕ) (read : Result Packet PacketFault) → Stays layer (judged_by row layer bytes read).1
  judged_by_stays by_generation bytes read = same
  judged_by_stays by_grammar bytes read = same
  judged_by_stays by_label bytes read = same
  judged_by_stays by_response bytes (Ok p) = subst (Stays layer) (sym (responded_is p (closed_by (reply_kind p) layer p))) (response_stays (reply_kind p) p)
  judged_by_stays by_again bytes (Ok p) = same
  judged_by_stays by_request bytes (Ok p) = same
  judged_by_stays by_response bytes (Err fault) = same
  judged_by_stays by_again bytes (Err fault) = same
  judged_by_stays by_request bytes (Err fault) = same

  asked_at_stays : (k : ℕ) (a : Result LabelParts NoLabel × (PeerPlace P × List ℕ)) → Stays layer (asked_at k layer a).1
  asked_at_stays k (Ok label, (place, bytes)) = one_place k place
  asked_at_stays k (Err none, (place, bytes)) = same

  asking_in_stays : (place : Option ℕ) (s : ℕ) (bytes : List ℕ) (for : P) → Stays layer (asking_in place layer s bytes for).1
  asking_in_stays None s bytes for = same
  asking_in_stays (Some k) s bytes for = asked_at_stays k _

  expired_at_stays : (k : ℕ) (e : Result (Option P) Stale × PeerPlace P) → Stays layer (expired_at k layer e).1
  expired_at_stays k (Ok purpose, place) = one_place k place
  expired_at_stays k (Err stale, place) = same

  expiring_in_stays : (place : Option ℕ) (label : LabelParts) → Stays layer (expiring_in place layer label).1
  expiring_in_stays None label = same
  expiring_in_stays (Some k) label = expired_at_stays k _

  disowning_in_stays : (place : Option ℕ) (label : LabelParts) → Stays layer (disowning_in place layer label)
  disowning_in_stays None label = same
  disowning_in_stays (Some k) label = record { generation = refl; node = refl; filter = refl; least = omega arith; most = omega arith }

  -- the calls
  pub judging_stays : (generation : ℕ) (bytes : List ℕ) → Stays layer (judging_step layer generation bytes).1
  unfolding judging_step
  judging_stays generation bytes = judged_by_stays _ bytes _

  pub asking_stays : (peer : ℕ) (body : Body) (for : P) → Stays layer (asking_step layer peer body for).1
  unfolding asking_step
  asking_stays peer body for = asking_in_stays _ peer _ for

  pub expiring_stays : (peer : ℕ) (label : LabelParts) → Stays layer (expiring_step layer peer label).1
  unfolding expiring_step
  expiring_stays peer label = expiring_in_stays _ label

  pub disowning_stays : (peer : ℕ) (label : LabelParts) → Stays layer (disowning_step layer peer label)
  unfolding disowning_step
  disowning_stays peer label = disowning_in_stays _ label

  seeing_filter : (later : Bool) (g node : ℕ) (js : List Answered) → layer.filter ≡ filter_after js → (cond {A = Bool × Layer P} later (true, seen_in_generation layer g node) (false, layer)).1.filter ≡ filter_after (cond later [] js)
  seeing_filter true g node js e = refl
  seeing_filter false g node js e = e

filter_is : {P : Type 0} (node : ℕ) (calls : List (Call P)) → (after node calls).filter ≡ filter_after (answered node calls)
unfolding answering_step seeing_step
filter_is node [] = refl
filter_is node (judges generation bytes ∷ calls) = (judging_stays (after node calls) generation bytes).filter ∙ filter_is node calls
filter_is node (answers request bytes rcode given ∷ calls) = ap (λ f. remember_step f (header_in request).source bytes rcode) (filter_is node calls)
filter_is node (asks s body for ∷ calls) = (asking_stays (after node calls) s body for).filter ∙ filter_is node calls
filter_is node (lets_expire s label ∷ calls) = (expiring_stays (after node calls) s label).filter ∙ filter_is node calls
filter_is node (disowns s label ∷ calls) = (disowning_stays (after node calls) s label).filter ∙ filter_is node calls
filter_is node (sees g id ∷ calls) = seeing_filter (after node calls) _ g id (answered node calls) (filter_is node calls)

pub remembered_law : (P : Type 0) → RememberedLaw P
remembered_law P node calls room source bytes free =
    let e = filter_is node calls in
    ap (λ f. judge_step f source bytes) e ∙ last_law (answered node calls) room source bytes (subst (λ f. judge_step f source bytes ≢ verdicts.Crowded) e free)

with_header : (node peer number : ℕ) (body : Body) → relabelled number (request_with (header_to node peer 0) body) ≡ request_with (header_to node peer number) body
with_header node peer number (quadlet_write offset value) = refl
with_header node peer number (block_write offset payload) = refl
with_header node peer number (quadlet_read offset) = refl
with_header node peer number (block_read offset asked) = refl

-- the bytes that a label was written into
labelled : {P : Type 0} (layer : Layer P) (s k : ℕ) (bytes : List ℕ) (for : P) (label : Option ℕ) → lowest_from 0 bytes (peer_at layer k).table.places ≡ label → length (peer_at layer k).table.places ≤ 64 → IfSome (asked_at k layer (begun_for (peer_at layer k) s for (begin_at label (peer_at layer k).table bytes))).0 (λ asked. (asked.bytes ≡ with_label asked.label.number bytes) × (asked.label.number < 64))
labelled layer s k bytes for None e full = tt
labelled layer s k bytes for (Some n) e full = (refl, let b = lowest_below n bytes (peer_at layer k).table.places e in omega arith)

labelled_in : {P : Type 0} (layer : Layer P) (s : ℕ) (bytes : List ℕ) (for : P) (place : Option ℕ) → ((k : ℕ) → length (peer_at layer k).table.places ≤ 64) → IfSome (asking_in place layer s bytes for).0 (λ asked. (asked.bytes ≡ with_label asked.label.number bytes) × (asked.label.number < 64))
unfolding begin_step
labelled_in layer s bytes for None full = tt
labelled_in layer s bytes for (Some k) full = labelled layer s k bytes for _ refl (full k)

if_canonical : (node peer : ℕ) (body : Body) (asked : Option Asked) → IsValid (request_with (header_to node peer 0) body) → IfSome asked (λ asked. (asked.bytes ≡ with_label asked.label.number (canon (request_with (header_to node peer 0) body))) × (asked.label.number < 64)) → IfSome asked (λ asked. asked.bytes ≡ canon (request_with (header_to node peer asked.label.number) body))
if_canonical node peer body None v i = tt
if_canonical node peer body (Some a) v i =
    i.0 ∙ canonical_with (request_with (header_to node peer 0) body) a.label.number v i.1 ∙ ap canon (with_header node peer a.label.number body)

pub asked_law : (P : Type 0) → AskedLaw P
unfolding asking_step
asked_law P node calls peer body purpose v =
    let layer = after node calls in
    if_canonical layer.node peer body _ v (labelled_in layer peer (unlabelled layer peer body) purpose _ (λ k. let f = (after_kept node calls).parts.full k in omega arith))
