-- The transaction layer of a node (IEEE 1394-1995, transaction layer): what it holds, and what each
-- call makes of it.
use Rattle.std.specs.Prelude.{◌≡◌, ◌≤◌, ◌<◌, ℕ, ◌+◌, ◌^◌, ◌==◌, nat_lt, Bool, true, false, is_some, if◌then◌else◌, List, length, map, replicate, slice_set, slice_index_or, Option, Some, None, Result, Ok, Err}
use Rattle.async_packet.specs.declared.fault.PacketFault.{PacketFault}
use Rattle.async_packet.specs.Labels.{LabelParts}
use Rattle.async_packet.specs.Packet.{Packet, view, header_in}
use Rattle.async_packet.specs.Canon.{canon}
use Rattle.async_packet.specs.Reading.{reading}
use Rattle.async_packet.specs.Spells.{Spells}
use Rattle.label_table.specs.declared.reply.ReplyKind.{ReplyKind}
use Rattle.label_table.specs.declared.reply.NoLabel.{NoLabel}
use Rattle.label_table.specs.declared.reply.Stale.{Stale}
use Rattle.label_table.specs.declared.reply.Verdict.{Verdict}
use Rattle.label_table.specs.declared.reply.Verdict.TheVariants as verdicts
use Rattle.label_table.specs.declared.judgement.Asked.{Asked}
use Rattle.label_table.specs.declared.judgement.Judgement.{Judgement}
use Rattle.label_table.specs.declared.judgement.Judgement.TheVariants as lent
use Rattle.label_table.specs.Requests.{IsRequestOf, is_request_packet, reply_kind}
use Rattle.label_table.specs.Table.{count_free}
use Rattle.label_table.specs.Filter.{SourcePlace, new_filter, request_at, source_at, judge_step, remember_step}
use Rattle.label_table.specs.Owned.{owned_place}
use Rattle.label_table.specs.Bodies.{Body, header_to, request_with, response_to}
use Rattle.label_table.specs.Peers.{PeerPlace, peer_of, no_peer, ask_place, close_place, expire_place, disown_place, clear_place}
use Rattle.label_table.specs.Judging.{Facts, Row, by_generation, by_grammar, by_label, by_response, by_again, by_request, row_of}

-- The generation that the node is in, and its ID in that; the calls that changed its labels; five
-- tables of labels, given to peers as it first sends to them in this generation; and the last
-- requests that it judged.
pub record Layer (P : Type 0) : Type 0 where
  pub generation : ℕ
  pub node : ℕ
  pub calls : ℕ
  pub peers : List (PeerPlace P)
  pub filter : List SourcePlace

-- What a delivery is found to be: ignored for its generation, its grammar or its label; a response
-- that closes this transaction, which was for this or for nobody; a write that comes again, with the
-- rcode that it had; or a request that the node answers.
pub data Finding (P : Type 0) : Type 0 where
  of_generation : Finding P
  of_grammar : Finding P
  of_label : Finding P
  of_response : Packet → LabelParts → Option P → Finding P
  of_again : Packet → (rcode : ℕ) → Finding P
  of_request : Packet → Finding P

-- whether a verdict is that a write comes again, and the rcode that it had
abbrev pub is_again : Verdict → Bool
is_again (verdicts.Again rcode) = true
is_again verdicts.Fresh = false
is_again verdicts.Crowded = false

abbrev pub rcode_in : Verdict → ℕ
rcode_in (verdicts.Again rcode) = rcode
rcode_in verdicts.Fresh = 0
rcode_in verdicts.Crowded = 0

module _ {P : Type 0} where
  abbrev pub new_layer : ℕ → Layer P
  new_layer node = record {
    generation = 0;
    node = node;
    calls = 0;
    peers = replicate 5 no_peer;
    filter = new_filter;
  }

  abbrev pub peer_at : Layer P → ℕ → PeerPlace P
  peer_at layer place = slice_index_or layer.peers place no_peer

  -- the place that a peer has, or else the first that none has
  abbrev pub peer_place : ℕ → Layer P → Option ℕ
  peer_place peer layer = owned_place peer_of peer layer.peers

  -- the layer after a call that changes the labels of a place
  abbrev pub with_peer : Layer P → ℕ → PeerPlace P → Layer P
  with_peer layer place peer =
      record layer { calls = layer.calls + 1; peers = slice_set layer.peers place peer }

  -- what a lent judgement says
  abbrev pub finding_of : Judgement P → Finding P
  finding_of lent.Generation = of_generation
  finding_of lent.Grammar = of_grammar
  finding_of lent.Label = of_label
  finding_of (lent.Response packet label purpose) = of_response (view packet) label purpose
  finding_of (lent.Again packet rcode) = of_again (view packet) rcode
  finding_of (lent.Request packet) = of_request (view packet)

  -- Closing the transaction of a peer, a label and a kind of response: which it was, and what for.
  abbrev pub closed_at : ℕ → Layer P → Option (LabelParts × Option P) × PeerPlace P → Option (LabelParts × Option P) × Layer P
  closed_at k layer (Some closed, place) = (Some closed, with_peer layer k place)
  closed_at k layer (None, place) = (None, layer)

  abbrev pub closing_in : Option ℕ → Layer P → ℕ → ReplyKind → Option (LabelParts × Option P) × Layer P
  closing_in None layer number kind = (None, layer)
  closing_in (Some k) layer number kind = closed_at k layer (close_place (peer_at layer k) number kind)

  unfoldable pub closing_step : Layer P → ℕ → ℕ → ReplyKind → Option (LabelParts × Option P) × Layer P
  closing_step layer peer number kind = closing_in (peer_place peer layer) layer number kind

  -- the transaction that a packet of this kind of response closes
  abbrev pub closed_by : Option ReplyKind → Layer P → Packet → Option (LabelParts × Option P) × Layer P
  closed_by None layer p = (None, layer)
  closed_by (Some kind) layer p = closing_step layer (header_in p).source (header_in p).label kind

  -- what a delivery is judged by
  abbrev pub facts_in : Layer P → ℕ → List ℕ → Result Packet PacketFault → Facts
  facts_in layer generation bytes (Err fault) = record {
    is_current = generation == layer.generation;
    is_for_node = false;
    is_response = false;
    is_awaited = false;
    is_repeated = false;
  }
  facts_in layer generation bytes (Ok p) = record {
    is_current = generation == layer.generation;
    is_for_node = (header_in p).destination == layer.node;
    is_response = is_some (reply_kind p);
    is_awaited = is_some (closed_by (reply_kind p) layer p).0;
    is_repeated = is_again (judge_step layer.filter (header_in p).source bytes);
  }

  abbrev pub facts_of : Layer P → ℕ → List ℕ → Facts
  facts_of layer generation bytes = facts_in layer generation bytes (reading bytes)

  abbrev pub responded : Packet → Option (LabelParts × Option P) × Layer P → Finding P × Layer P
  responded p (Some (label, purpose), layer) = (of_response p label purpose, layer)
  responded p (None, layer) = (of_label, layer)

  -- A delivery by the row that decides.
  abbrev pub judged_by : Row → Layer P → List ℕ → Result Packet PacketFault → Finding P × Layer P
  judged_by by_generation layer bytes read = (of_generation, layer)
  judged_by by_grammar layer bytes read = (of_grammar, layer)
  judged_by by_label layer bytes read = (of_label, layer)
  judged_by by_response layer bytes (Ok p) = responded p (closed_by (reply_kind p) layer p)
  judged_by by_again layer bytes (Ok p) =
      (of_again p (rcode_in (judge_step layer.filter (header_in p).source bytes)), layer)
  judged_by by_request layer bytes (Ok p) = (of_request p, layer)
  judged_by _ layer bytes (Err fault) = (of_grammar, layer)

  unfoldable pub judging_step : Layer P → ℕ → List ℕ → Finding P × Layer P
  judging_step layer generation bytes =
      judged_by (row_of (facts_of layer generation bytes)) layer bytes (reading bytes)

  -- A request is answered, and remembered with the rcode where its source has room.
  unfoldable pub answering_step : Layer P → Packet → List ℕ → ℕ → List ℕ → List ℕ × Layer P
  answering_step layer request bytes rcode given =
      (canon (response_to layer.node request rcode given), record layer { filter = remember_step layer.filter (header_in request).source bytes rcode })

  -- A peer is asked, for something. A sixth peer finds no label.
  abbrev pub asked_at : ℕ → Layer P → Result LabelParts NoLabel × (PeerPlace P × List ℕ) → Option Asked × Layer P
  asked_at k layer (Ok label, (place, bytes)) =
      (Some (record { label = label; bytes = bytes }), with_peer layer k place)
  asked_at k layer (Err none, (place, bytes)) = (None, layer)

  abbrev pub asking_in : Option ℕ → Layer P → ℕ → List ℕ → P → Option Asked × Layer P
  asking_in None layer peer bytes purpose = (None, layer)
  asking_in (Some k) layer peer bytes purpose = asked_at k layer (ask_place (peer_at layer k) peer bytes purpose)

  -- the bytes of a request before it has its label
  abbrev pub unlabelled : Layer P → ℕ → Body → List ℕ
  unlabelled layer peer body = canon (request_with (header_to layer.node peer 0) body)

  unfoldable pub asking_step : Layer P → ℕ → Body → P → Option Asked × Layer P
  asking_step layer peer body purpose =
      asking_in (peer_place peer layer) layer peer (unlabelled layer peer body) purpose

  -- A transaction times out.
  abbrev pub expired_at : ℕ → Layer P → Result (Option P) Stale × PeerPlace P → Result (Option P) Stale × Layer P
  expired_at k layer (Ok purpose, place) = (Ok purpose, with_peer layer k place)
  expired_at k layer (Err stale, place) = (Err stale, layer)

  abbrev pub expiring_in : Option ℕ → Layer P → LabelParts → Result (Option P) Stale × Layer P
  expiring_in None layer label = (Err (record {}), layer)
  expiring_in (Some k) layer label = expired_at k layer (expire_place (peer_at layer k) label)

  unfoldable pub expiring_step : Layer P → ℕ → LabelParts → Result (Option P) Stale × Layer P
  expiring_step layer peer label = expiring_in (peer_place peer layer) layer label

  -- A transaction under way belongs to nobody from now on.
  abbrev pub disowning_in : Option ℕ → Layer P → LabelParts → Layer P
  disowning_in None layer label = layer
  disowning_in (Some k) layer label =
      record layer { peers = slice_set layer.peers k (disown_place (peer_at layer k) label) }

  unfoldable pub disowning_step : Layer P → ℕ → LabelParts → Layer P
  disowning_step layer peer label = disowning_in (peer_place peer layer) layer label

  -- the labels to a peer that are neither under way nor resting; a sixth peer has none
  abbrev pub free_in : Option ℕ → Layer P → ℕ
  free_in None layer = 0
  free_in (Some k) layer = count_free (peer_at layer k).table.places

  unfoldable pub free_labels : Layer P → ℕ → ℕ
  free_labels layer peer = free_in (peer_place peer layer) layer

  -- A later generation is seen: everything of the one before is forgotten.
  abbrev pub seen_in_generation : Layer P → ℕ → ℕ → Layer P
  seen_in_generation layer generation node = record {
    generation = generation;
    node = node;
    calls = layer.calls + 1;
    peers = map (clear_place generation) layer.peers;
    filter = new_filter;
  }

  unfoldable pub seeing_step : Layer P → ℕ → ℕ → Bool × Layer P
  seeing_step layer generation node =
      if nat_lt layer.generation generation then (true, seen_in_generation layer generation node) else (false, layer)

-- what is lent is what the bytes spell: a response, or a request, with an rcode of 4 bits
abbrev pub IsLent : {P : Type 0} → List ℕ → Finding P → Type 0
IsLent bytes (of_response p label purpose) = Spells bytes p × (is_request_packet p ≡ false)
IsLent bytes (of_again p rcode) = IsRequestOf bytes p × (rcode < 2 ^ 4)
IsLent bytes (of_request p) = IsRequestOf bytes p
IsLent bytes _ = Unit {0}

-- five places, no table of which counts more calls than the layer; each rcode has 4 bits
pub record IsSound {P : Type 0} (calls : ℕ) (peers : List (PeerPlace P)) (filter : List SourcePlace) : Type 0 where
  pub size : length peers ≡ 5
  pub counted : (k : ℕ) → (slice_index_or peers k no_peer).table.calls ≤ calls
  pub answered : (k l : ℕ) → (request_at l (source_at filter k)).rcode < 2 ^ 4
