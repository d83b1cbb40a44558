-- A packet that a node sent itself is a request of the law where its bytes are those of the request's body, whatever its label: it has the number, the generation, the label and the spelling that each packet has.
use Rattle.std.proofs.Common.{arith, ◌≡◌, ◌∙◌, refl, sym, ap, subst, ℕ, ◌+◌, ◌≤◌, List, length, Some, Ok}
use Rattle.async_packet.specs.Canon.{IsValid, canon}
use Rattle.async_packet.specs.Packet.{Packet, header_in}
use Rattle.async_packet.specs.declared.packet.Header.{Header}
use Rattle.async_packet.specs.Reading.{reading}
use Rattle.async_packet.proofs.RoundTrip.{canon_spells}
use Rattle.async_packet.proofs.Spelled.{reading_spelled}
use Rattle.bus_transactions.specs.Sent as bus
use Rattle.bus_transactions.specs.Wire.{transaction}
use Rattle.bus_transactions.proofs.MoveAsk.{AskedBytes, asked_bytes}
use Rattle.label_table.specs.Bodies.{Body, block_read, block_write, header_to, quadlet_read, quadlet_write, request_with}
use Rattle.label_table.specs.Requests.{with_label}
use Rattle.label_table.proofs.Requests.{least_spelled}
use Rattle.label_table.proofs.Rewritten.{writes_labels}
use Rattle.sbp_journal.specs.Wire.{Terms}
use Rattle.sbp_laws.specs.Agents.{Request}
use Rattle.sbp_laws.specs.Packets.{id_for, id_of, label_for, request_bytes, serves}
use Rattle.sbp_laws.specs.SentRequests.{IsRequest}
use Rattle.sbp_world.proofs.Hosts.Labels.{first_found, serves_same}
use Rattle.turn_laws.proofs.RequestLabels.{AreOf, with_other}

header_of : (header : Header) (body : Body) → header_in (request_with header body) ≡ header
header_of header (quadlet_write offset value) = refl
header_of header (block_write offset payload) = refl
header_of header (quadlet_read offset) = refl
header_of header (block_read offset asked) = refl

module _ (t : Terms) (generation node : ℕ) (want : Request) (bytes : List ℕ) (own : bus.IsOwn t generation node want.to bytes) (body : Body) (a : AreOf body bytes) where
  abbrev b : AskedBytes a.source a.destination a.label body bytes
  b = asked_bytes a.source a.destination a.label body bytes a.valid a.small a.spelled

  abbrev its : Packet
  its = request_with (header_to a.source a.destination 0) body

  abbrev plain : Packet
  plain = request_with (header_to a.source a.destination a.label) body

  canonical : bytes ≡ canon plain
  canonical = a.spelled ∙ writes_labels.canonical its a.label a.valid a.small ∙ ap canon (with_other a.source a.destination a.label body)

  valid : IsValid plain
  valid = subst IsValid (with_other a.source a.destination a.label body) (writes_labels.valid its a.label a.valid a.small)

  abbrev p : Packet
  p = own.canonical.packet

  same : p ≡ plain
  same =
      let x : reading bytes ≡ Ok p = ap reading own.canonical.spelled ∙ reading_spelled (canon p) p (canon_spells p own.canonical.valid) in
      let y : reading bytes ≡ Ok plain = ap reading canonical ∙ reading_spelled (canon plain) plain (canon_spells plain valid) in
      cc

  header_is : header_to a.source a.destination a.label ≡ header_to (id_of t node) (id_for t node want.to) (header_in p).label
  header_is = sym (header_of (header_to a.source a.destination a.label) body) ∙ ap header_in (sym same) ∙ own.canonical.header

  source_is : a.source ≡ id_of t node
  source_is = ap (λ (h : Header). h.source) header_is

  destination_is : a.destination ≡ id_for t node want.to
  destination_is = ap (λ (h : Header). h.destination) header_is

  -- as it would be under label 0
  abbrev bare : List ℕ
  bare = request_bytes t node want.to body

  bare_is : canon its ≡ bare
  bare_is =
      ap (λ x. canon (request_with (header_to x a.destination 0) body)) source_is ∙ ap (λ x. canon (request_with (header_to (id_of t node) x 0) body)) destination_is

  least : 12 ≤ length bare
  least = subst (λ (bs : List ℕ). 12 ≤ length bs) bare_is (least_spelled (canon its) its (canon_spells its a.valid))

  labels_are : (m : ℕ) → with_label m bare ≡ with_label m bytes
  labels_are m = ap (with_label m) (sym bare_is) ∙ sym (ap (with_label m) a.spelled ∙ writes_labels.last (canon its) m a.label)

  label_is : label_for t node want.to bare ≡ Some a.label
  unfolding label_for
  label_is =
      let low = own.lowest a.label b.kind b.part in
      let small = a.small in
      let spelled : with_label a.label bare ≡ bytes = ap (with_label a.label) (sym bare_is) ∙ sym a.spelled in
      first_found 64 0 a.label (serves t node want.to bare) (omega arith) (omega (arith, small))
      (serves_same t node want.to bare a.label least ∙ ap (bus.serves t (transaction (t.generation node) node want.to a.label)) spelled ∙ low.takes)
      (λ m l. serves_same t node want.to bare m least ∙ ap (bus.serves t (transaction (t.generation node) node want.to m)) (labels_are m) ∙ low.lower m l)

  pub is_request : (serial from to : ℕ) → serial ≡ t.count + 1 → from ≡ node → to ≡ want.to → IsRequest t node want body serial generation from to bytes
  is_request serial from to number sender receiver = record {
    number = number;
    in_generation = own.now;
    sender = sender;
    receiver = receiver;
    label = label_is ∙ ap Some (sym b.label);
    spelled =
        canonical
        ∙ (ap (λ x. canon (request_with (header_to x a.destination a.label) body)) source_is
        ∙ (ap (λ x. canon (request_with (header_to (id_of t node) x a.label) body)) destination_is
        ∙ ap (λ n. canon (request_with (header_to (id_of t node) (id_for t node want.to) n) body)) (sym b.label)));
  }
