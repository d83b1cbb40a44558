-- A request of a node finds a label exactly where the history says so: at any wire that stands and owes no answer, so also between two moves of a turn, and for any layer of the node whatever
-- its transactions are for.
use Rattle.std.proofs.Common.{arith, ◌≡◌, refl, sym, ◌∙◌, ap, subst, ℕ, ◌≤◌, ◌<◌, is_some, List, Option, Some, None, length}
use Rattle.std.proofs.lemmas.Option.{same_Some}
use Rattle.async_packet.specs.Canon.{IsValid, canon}
use Rattle.label_table.specs.Laws.{relabelled}
use Rattle.async_packet.proofs.RoundTrip.{canon_spells}
use Rattle.async_packet.proofs.Spelled.{reading_spelled}
use Rattle.bus_transactions.specs.Bare.{bare, bare_after, same}
use Rattle.bus_transactions.specs.May.{MayAsk}
use Rattle.bus_transactions.specs.Sent.{LabelsLaw, bare_request}
use Rattle.bus_transactions.specs.Sent as sent
use Rattle.bus_transactions.specs.Wire.{Node, Wire, id_for, transaction}
use Rattle.bus_transactions.proofs.Bares.{takes_steps}
use Rattle.bus_transactions.proofs.Places.{Places}
use Rattle.bus_transactions.proofs.MoveAsk.{asked_bytes}
use Rattle.bus_transactions.proofs.SentLaws.{asked_own, labels_always}
use Rattle.bus_transactions.proofs.Stands.{Stands as Holds}
use Rattle.bus_transactions.proofs.Steps.{AskedAs, asks}
use Rattle.label_table.specs.declared.judgement.Asked.{Asked}
use Rattle.label_table.specs.Bodies.{Body, block_read, block_write, header_to, quadlet_read, quadlet_write, request_with}
use Rattle.label_table.specs.Layer.{Layer, asking_step, unlabelled}
use Rattle.label_table.specs.Requests.{label_of, with_label}
use Rattle.label_table.proofs.Requests.{least_spelled}
use Rattle.label_table.proofs.Rewritten.{writes_labels}
use Rattle.sbp_journal.specs.Addresses.{Access, access_of}
use Rattle.sbp_journal.specs.Run.{Moment}
use Rattle.sbp_journal.specs.Wire.{Terms, terms}
use Rattle.sbp_laws.specs.Packets.{access_in, access_in_bytes, finds_label, label_for, request_bytes, serves, spelled_by, id_of}
use Rattle.sbp_laws.specs.Packets as packets
use Rattle.sbp_world.specs.Hosts.Labels.{label_in}
use Rattle.sbp_world.specs.Wire.Wires.{StandsAt}
use Rattle.sbp_world.specs.Worlds.{WorldState}
use Rattle.sbp_world.proofs.Agents.Management.Still.{hist}
use Rattle.sbp_world.proofs.Hosts.Labels.{first_found, serves_same, none_found, found_by, some_label}
use Rattle.sbp_world.proofs.Wire.Bus.{holds}

-- what a request asks for, whoever sends it
abbrev pub body_access : Body → Option Access
body_access body = access_of (request_with (header_to 0 0 0) body)

label_access : (number from to : ℕ) (body : Body) → access_of (relabelled number (request_with (header_to from to 0) body)) ≡ body_access body
label_access number from to (quadlet_write offset value) = refl
label_access number from to (block_write offset payload) = refl
label_access number from to (quadlet_read offset) = refl
label_access number from to (block_read offset asked) = refl

-- a request with another label
pub with_other : (from to n : ℕ) (body : Body) → relabelled n (request_with (header_to from to 0) body) ≡ request_with (header_to from to n) body
with_other from to n (quadlet_write offset value) = refl
with_other from to n (block_write offset payload) = refl
with_other from to n (quadlet_read offset) = refl
with_other from to n (block_read offset wanted) = refl

-- these bytes ask for this, from one ID to another, under some label
pub record AreOf (body : Body) (bytes : List ℕ) : Type 0 where
  pub source : ℕ
  pub destination : ℕ
  pub label : ℕ
  pub valid : IsValid (request_with (header_to source destination 0) body)
  pub small : label < 64
  pub spelled : bytes ≡ with_label label (canon (request_with (header_to source destination 0) body))

pub access_in_body : (body : Body) (bytes : List ℕ) → AreOf body bytes → access_in_bytes bytes ≡ body_access body
access_in_body body bytes a =
    let p = request_with (header_to a.source a.destination 0) body in
    let q = relabelled a.label p in
    let spelled : bytes ≡ canon q = a.spelled ∙ writes_labels.canonical p a.label a.valid a.small in
    ap access_in_bytes spelled ∙ (ap (λ r. access_in (spelled_by r)) (reading_spelled (canon q) q (canon_spells q (writes_labels.valid p a.label a.valid a.small))) ∙ label_access a.label a.source a.destination body)

-- a request that found a label is canonical under it, and that is the lowest that serves
pub record IsSpelled (t : Terms) (node peer : ℕ) (body : Body) (asked : Asked) : Type 0 where
  pub label : label_for t node peer (request_bytes t node peer body) ≡ Some asked.label.number
  pub number : label_of asked.bytes ≡ asked.label.number
  pub spelled : asked.bytes ≡ canon (request_with (header_to (id_of t node) (packets.id_for t node peer) asked.label.number) body)

-- ---- the label and the bytes of a request that found one
named_by : (l : Node) (id : ℕ) (body : Body) (asked : Asked) (r : Option Asked × Node) → AskedAs l id (unlabelled l id body) r → r.0 ≡ Some asked → (asked.label.number < 64) × (asked.bytes ≡ with_label asked.label.number (unlabelled l id body))
named_by l id body asked (None, new) a e = absurd (let no : None ≡ Some asked = e in cc)
named_by l id body asked (Some other, new) a e = subst (λ (x : Asked). (x.label.number < 64) × (x.bytes ≡ with_label x.label.number (unlabelled l id body))) (same_Some other asked e) (a.small, a.labelled)

bare_answer : {P : Type 0} (r : Option Asked × Layer P) → (bare_after same r).0 ≡ r.0
bare_answer (asked, after) = refl

-- of any layer whose places are in order
pub layer_spells : {P : Type 0} (layer : Layer P) (id : ℕ) (body : Body) → Places (bare layer).generation (bare layer).peers → IsValid (request_with (header_to layer.node id 0) body) → (purpose : P) (asked : Asked) → (asking_step layer id body purpose).0 ≡ Some asked → AreOf body asked.bytes
layer_spells {P} layer id body places valid purpose asked e =
    let l = bare layer in
    let n = named_by l id body asked (asking_step l id body tt) (asks l id body places) (ap (λ r. r.0) ((takes_steps P).asks layer id body purpose) ∙ (bare_answer (asking_step layer id body purpose) ∙ e)) in
    record { source = layer.node; destination = id; label = asked.label.number; valid = valid; small = n.0; spelled = n.1 }

module _ {P : Type 0} {past : List Moment} {layers : ℕ → Node} (w : WorldState) (stands : StandsAt past layers None w) (node peer : ℕ) (node_there : node ≤ length w.initiators) (peer_there : peer ≤ length w.initiators) (layer : Layer P) (own_is : layers node ≡ bare layer) (id : ℕ) (id_is : id_for stands.wire node peer ≡ id) (body : Body) (valid : IsValid (request_with (header_to layer.node id 0) body)) where
  abbrev wire : Wire
  wire = stands.wire

  abbrev T : Terms
  T = terms wire.past

  abbrev own : Layer (Unit {0}) → ℕ → Option Asked
  own l to = (asking_step l to body tt).0

  wire_holds : Holds wire
  wire_holds = holds wire stands.reached

  layer_is : wire.layer node ≡ bare layer
  layer_is = stands.is.layers_are node node_there ∙ own_is

  asks_same : (purpose : P) → (asking_step layer id body purpose).0 ≡ own (wire.layer node) (id_for wire node peer)
  asks_same purpose =
      sym (ap (λ l. own l (id_for wire node peer)) layer_is
      ∙ (ap (own (bare layer)) id_is
      ∙ (ap (λ r. r.0) ((takes_steps P).asks layer id body purpose)
      ∙ bare_answer (asking_step layer id body purpose))))

  may : MayAsk wire node peer body
  may = record {
    free = stands.is.due_is;
    node_small = let f = stands.is.few in omega (arith, f, node_there);
    peer_small = let f = stands.is.few in omega (arith, f, peer_there);
    valid =
        subst (λ (l : Node). IsValid (request_with (header_to l.node (id_for wire node peer) 0) body)) (sym layer_is)
        (subst (λ n. IsValid (request_with (header_to layer.node n 0) body)) (sym id_is) valid);
  }

  -- the bytes of the request, as the history spells them
  abbrev bytes : List ℕ
  bytes = bare_request T node peer body

  bytes_are : unlabelled (wire.layer node) (id_for wire node peer) body ≡ bytes
  bytes_are =
      let n = wire_holds.nodes node in
      ap (λ x. canon (request_with (header_to x (id_for wire node peer) 0) body)) n.id
      ∙ ap (λ g. canon (request_with (header_to (T.ids (T.generation node) node) (T.ids g peer) 0) body)) n.generation

  least : 12 ≤ length bytes
  least =
      let p = request_with (header_to (wire.layer node).node (id_for wire node peer) 0) body in
      subst (λ (bs : List ℕ). 12 ≤ length bs) bytes_are (least_spelled (canon p) p (canon_spells p may.valid))

  none_serves : own (wire.layer node) (id_for wire node peer) ≡ None → label_for T node peer bytes ≡ None
  unfolding label_for
  none_serves e =
      let law : LabelsLaw wire = subst LabelsLaw (sym stands.reached.is) (labels_always stands.reached.moves stands.reached.may) in
      none_found 64 0 (serves T node peer bytes) (λ m l. serves_same T node peer bytes m least ∙ law node peer m body may e (omega arith))

  one_serves : (asked : Asked) (new : Node) → AskedAs (wire.layer node) (id_for wire node peer) (unlabelled (wire.layer node) (id_for wire node peer) body) (Some asked, new) → label_for T node peer bytes ≡ Some asked.label.number
  unfolding label_for
  one_serves asked new a =
      let n = asked.label.number in
      let b = asked_bytes (wire.layer node).node (id_for wire node peer) n body asked.bytes may.valid a.small a.labelled in
      let lowest = (asked_own wire wire_holds node peer body may asked new a).lowest n b.kind b.part in
      let spelled : asked.bytes ≡ with_label n bytes = a.labelled ∙ ap (with_label n) bytes_are in
      let small = a.small in
      first_found 64 0 n (serves T node peer bytes) (omega arith) (omega arith)
      (serves_same T node peer bytes n least ∙ (sym (ap (sent.serves T (transaction (T.generation node) node peer n)) spelled) ∙ lowest.takes))
      (λ m l. serves_same T node peer bytes m least
      ∙ (ap (sent.serves T (transaction (T.generation node) node peer m)) (sym (ap (with_label m) spelled ∙ writes_labels.last bytes m n))
      ∙ lowest.lower m l))

  label_by : (r : Option Asked × Node) → AskedAs (wire.layer node) (id_for wire node peer) (unlabelled (wire.layer node) (id_for wire node peer) body) r → (r.0 ≡ None → label_for T node peer bytes ≡ None) → label_in r.0 ≡ label_for T node peer bytes
  label_by (None, new) a h = sym (h refl)
  label_by (Some asked, new) a h = sym (one_serves asked new a)

  pub label_at : (purpose : P) → (let t = terms (hist past w) in label_in (asking_step layer id body purpose).0 ≡ label_for t node peer (request_bytes t node peer body))
  label_at purpose =
      ap label_in (asks_same purpose)
      ∙ (label_by (asking_step (wire.layer node) (id_for wire node peer) body tt) (asks (wire.layer node) (id_for wire node peer) body (wire_holds.nodes node).places) none_serves
      ∙ ap (λ ms. label_for (terms ms) node peer (request_bytes (terms ms) node peer body)) stands.is.past_is)

  pub finds_at : (purpose : P) → is_some (asking_step layer id body purpose).0 ≡ finds_label (terms (hist past w)) node peer body
  finds_at purpose =
      let t = terms (hist past w) in
      sym (some_label (asking_step layer id body purpose).0)
      ∙ (ap (λ o. is_some o) (label_at purpose) ∙ sym (found_by t node peer body (label_for t node peer (request_bytes t node peer body)) refl))

  -- ---- its bytes
  pub spelled_at : (purpose : P) (asked : Asked) → (asking_step layer id body purpose).0 ≡ Some asked → IsSpelled (terms (hist past w)) node peer body asked
  spelled_at purpose asked e =
      let n = asked.label.number in
      let a = named_by (wire.layer node) (id_for wire node peer) body asked (asking_step (wire.layer node) (id_for wire node peer) body tt) (asks (wire.layer node) (id_for wire node peer) body (wire_holds.nodes node).places) (sym (asks_same purpose) ∙ e) in
      let known = wire_holds.nodes node in
      let old = request_with (header_to (wire.layer node).node (id_for wire node peer) 0) body in
      record {
        label = sym (label_at purpose) ∙ ap label_in e;
        number = (asked_bytes (wire.layer node).node (id_for wire node peer) n body asked.bytes may.valid a.0 a.1).label;
        spelled =
            a.1 ∙ writes_labels.canonical old n may.valid a.0
            ∙ ap canon (with_other (wire.layer node).node (id_for wire node peer) n body)
            ∙ ap (λ x. canon (request_with (header_to x (id_for wire node peer) n) body)) known.id
            ∙ ap (λ g. canon (request_with (header_to (T.ids (T.generation node) node) (T.ids g peer) n) body)) known.generation
            ∙ ap (λ ms. let t = terms ms in canon (request_with (header_to (t.ids (t.generation node) node) (t.ids (t.generation node) peer) n) body)) stands.is.past_is;
      }

  -- of its body
  pub bytes_at : (purpose : P) (asked : Asked) → (asking_step layer id body purpose).0 ≡ Some asked → AreOf body asked.bytes
  bytes_at purpose asked e =
      let own_layer = wire.layer node in
      let to = id_for wire node peer in
      let n = named_by own_layer to body asked (asking_step own_layer to body tt) (asks own_layer to body (wire_holds.nodes node).places) (sym (asks_same purpose) ∙ e) in
      record { source = own_layer.node; destination = to; label = asked.label.number; valid = may.valid; small = n.0; spelled = n.1 }
