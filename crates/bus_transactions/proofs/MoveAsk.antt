-- A node asks another.
use Rattle.bus_transactions.proofs.ServedFacts.{Served, served_begun}
use Rattle.std.specs.Prelude.{◌≡◌, ℕ, ◌+◌, ◌<◌, nat_eq, true, false, List, Option, Some, None, Ok, refl}
use Rattle.std.proofs.Common.{arith, sym, ◌∙◌, ap, subst}
use Rattle.sbp_base.specs.Update.{upd}
use Rattle.async_packet.specs.declared.packet.Header.{Header}
use Rattle.async_packet.specs.Packet.{Packet, header_in}
use Rattle.async_packet.specs.Canon.{IsValid, canon}
use Rattle.async_packet.specs.Reading.{reading}
use Rattle.async_packet.proofs.RoundTrip.{canon_spells}
use Rattle.async_packet.proofs.Spelled.{reading_spelled}
use Rattle.label_table.specs.declared.judgement.Asked.{Asked}
use Rattle.label_table.specs.declared.place.LabelState.{LabelState}
use Rattle.label_table.specs.declared.place.LabelState.TheVariants as states
use Rattle.label_table.specs.Requests.{label_of, with_label, kind_of, is_write, is_last}
use Rattle.label_table.specs.Table.{is_free}
use Rattle.label_table.specs.Laws.{relabelled}
use Rattle.label_table.specs.Bodies.{Body, quadlet_write, block_write, quadlet_read, block_read, header_to, request_with}
use Rattle.label_table.specs.Peers.{state_for, last_for}
use Rattle.label_table.specs.Layer.{unlabelled, asking_step}
use Rattle.label_table.proofs.Requests.{least_spelled}
use Rattle.label_table.proofs.Rewritten.{writes_labels}
use Rattle.label_table.proofs.Steps.{label_with}
use Rattle.packet_store.specs.Stored.{send_step}
use Rattle.sbp_journal.specs.Transactions.{Kind, writing, reading_quadlet, reading_block, request, part_in, part_of, Transaction, at, Sending, between, begun_by}
use Rattle.sbp_journal.specs.Wire.{Terms, terms, sends, kind_in, by_bus_rule, in_flight, Held, free, waits, rests}
use Rattle.bus_transactions.specs.Wire.{Node, Wire, as_sent, transaction, id_for, outgoing, next_serial}
use Rattle.bus_transactions.specs.Moves.{ask, asking, moved}
use Rattle.bus_transactions.specs.May.{MayAsk}
use Rattle.bus_transactions.specs.Rows.{shape, shape_of, idle, kind_as}
use Rattle.bus_transactions.proofs.PacketParts.{part_read, to_read, asking_read, read_once}
use Rattle.bus_transactions.proofs.Steps.{may_take, Asks, AskedAs, asks}
use Rattle.bus_transactions.proofs.Facts.{Honest, nat_same, request_asked, asked_begun}
use Rattle.bus_transactions.proofs.FactsSent.{begins_at, facts_begun}
use Rattle.bus_transactions.proofs.Follows.{Follows, last_is, follows_sent}
use Rattle.bus_transactions.proofs.NodeRows.{IsNode, node_asks, node_beside}
use Rattle.bus_transactions.proofs.Stands.{DueIs, due_transaction, On, Stands, node_case, begun_terms, marked}

-- ---- the packet of a request
pub record IsAsking (node peer n : ℕ) (body : Body) (p : Packet) : Type 0 where
  pub kind : Kind
  pub part : part_in p ≡ request n kind
  pub header : header_in p ≡ header_to node peer n
  pub before : part_in (request_with (header_to node peer 0) body) ≡ request 0 kind

pub asking_packet : (node peer n : ℕ) (body : Body) → IsAsking node peer n body (relabelled n (request_with (header_to node peer 0) body))
asking_packet node peer n (quadlet_write offset value) = record { kind = writing; part = refl; header = refl; before = refl }
asking_packet node peer n (block_write offset payload) = record { kind = writing; part = refl; header = refl; before = refl }
asking_packet node peer n (quadlet_read offset) = record { kind = reading_quadlet; part = refl; header = refl; before = refl }
asking_packet node peer n (block_read offset asked) = record { kind = reading_block; part = refl; header = refl; before = refl }

-- what its bytes are
pub record AskedBytes (node peer n : ℕ) (body : Body) (bytes : List ℕ) : Type 0 where
  pub packet : Packet
  pub read : reading bytes ≡ Ok packet
  pub kind : Kind
  pub part : part_of bytes ≡ request n kind
  pub header : header_in packet ≡ header_to node peer n
  pub kind_is : kind_of (canon (request_with (header_to node peer 0) body)) ≡ kind_as kind
  pub writes : is_write bytes ≡ is_write (canon (request_with (header_to node peer 0) body))
  pub label : label_of bytes ≡ n
  pub spelled : bytes ≡ canon packet
  pub valid : IsValid packet

read_canon : (p : Packet) → IsValid p → reading (canon p) ≡ Ok p
read_canon p v = reading_spelled (canon p) p (canon_spells p v)

pub asked_bytes : (node peer n : ℕ) (body : Body) (bytes : List ℕ) → IsValid (request_with (header_to node peer 0) body) → n < 64 → bytes ≡ with_label n (canon (request_with (header_to node peer 0) body)) → AskedBytes node peer n body bytes
asked_bytes node peer n body bytes v small e =
    let p : Packet = request_with (header_to node peer 0) body in
    let a = asking_packet node peer n body in
    let spelled : bytes ≡ canon (relabelled n p) = e ∙ writes_labels.canonical p n v small in
    let valid = writes_labels.valid p n v small in
    let read : reading bytes ≡ Ok (relabelled n p) = ap reading spelled ∙ read_canon (relabelled n p) valid in
    let old = asking_read (canon p) p 0 a.kind (read_canon p v) a.before in
    let new = asking_read bytes (relabelled n p) n a.kind read a.part in
    record {
      packet = relabelled n p;
      read = read;
      kind = a.kind;
      part = part_read bytes (relabelled n p) read ∙ a.part;
      header = a.header;
      kind_is = old.kind;
      writes = new.writes ∙ sym old.writes;
      label = ap label_of e ∙ label_with n (canon p) small (least_spelled (canon p) p (canon_spells p v));
      spelled = spelled;
      valid = valid;
    }

-- ---- a label that may be taken
free_state : (state : LabelState) → is_free state ≡ true → shape state ≡ idle
free_state states.Free e = refl
free_state (states.UnderWay kind serial) e = cc
free_state states.Resting e = cc

idle_held : (held : Held) → shape_of held ≡ idle → held ≡ free
idle_held free e = refl
idle_held (waits kind s) e = cc
idle_held rests e = cc

taken_free : (layer : Node) (peer n : ℕ) (bytes : List ℕ) → may_take layer peer bytes n ≡ true → is_free (state_for layer.peers peer n) ≡ true
taken_free layer peer n bytes e = grind arith

taken_differs : (layer : Node) (peer n : ℕ) (bytes : List ℕ) → may_take layer peer bytes n ≡ true → is_write bytes ≡ true → is_last (last_for layer.peers peer n) (with_label n bytes) ≡ false
taken_differs layer peer n bytes e w = grind arith

-- ---- the move
module _ (w : Wire) (h : Stands w) (i j : ℕ) (body : Body) (may : MayAsk w i j body) where
  abbrev T : Terms
  T = terms w.past

  asked_on : (asked : Asked) (new : Node) → Asks (w.layer i) new (id_for w i j) (unlabelled (w.layer i) (id_for w i j) body) asked → Stands (asking (Some asked, new) i j w)
  asked_on asked new a =
      let n : ℕ = asked.label.number in
      let g : ℕ = T.generation i in
      let u : Transaction = transaction g i j n in
      let node = h.nodes i in
      let peer_is : id_for w i j ≡ T.ids g j = ap (λ x. T.ids x j) node.generation in
      let b = asked_bytes (w.layer i).node (id_for w i j) n body asked.bytes may.valid a.small a.labelled in
      let q : Sending = outgoing w i j asked.bytes false in
      let serial : next_serial w ≡ T.count + 1 = ap (λ x. x + 1) (last_is h.follows) in
      let owes : T.owes ≡ None = subst (DueIs T w.layer) may.free h.due_is in
      let begun : begun_by q ≡ Some u = asked_begun q (between q i j n) refl (request_asked q n b.kind b.part) ∙ ap (λ x. Some (transaction x i j n)) node.generation in
      let fresh = h.facts.unsent (next_serial w) (omega arith) in
      let terms_are : sends (next_serial w) (marked T (next_serial w) q (T.injected (next_serial w))) T ≡ begins_at T u b.kind q =
      begun_terms T (next_serial w) q u b.kind owes begun refl (ap kind_in b.part) serial fresh.honest in
      let is_free : T.held u ≡ free = idle_held (T.held u) (sym (ap (λ p. shape (state_for (w.layer i).peers p n)) peer_is ∙ node.states_are j n) ∙ free_state _ (taken_free (w.layer i) (id_for w i j) n (unlabelled (w.layer i) (id_for w i j) body) a.takes)) in
      let last_same : last_for (w.layer i).peers (id_for w i j) n ≡ T.last u = ap (λ p. last_for (w.layer i).peers p n) peer_is ∙ node.lasts_are j n in
      let differs : is_write asked.bytes ≡ true → is_last (T.last u) asked.bytes ≡ false = λ x.
      ap (λ o. is_last o asked.bytes) (sym last_same)
      ∙ ap (is_last (last_for (w.layer i).peers (id_for w i j) n)) a.labelled
      ∙ taken_differs (w.layer i) (id_for w i j) n (unlabelled (w.layer i) (id_for w i j) body) a.takes (sym b.writes ∙ x) in
      let honest : Honest T.ids T.generation T.injects q = record {
        from_small = may.node_small;
        to_small = may.peer_small;
        past = let e = node.generation in omega arith;
        bold = λ e. cc;
        is_for = λ e. to_read asked.bytes b.packet (id_for w i j) b.read ∙ ap (λ (x : Header). nat_eq x.destination (id_for w i j)) b.header ∙ nat_same (id_for w i j);
        source = λ p e.
            let same : b.packet ≡ p = read_once asked.bytes b.packet p b.read e in
            ap (λ x. (header_in x).source) (sym same) ∙ ap (λ (x : Header). x.source) b.header ∙ node.id ∙ ap (λ x. T.ids x i) (sym node.generation);
        label = λ l k e. b.label ∙ label_one n l b.kind k (sym b.part ∙ e);
      } in
      subst (λ t. On t (send_step w.store (as_sent q)) (upd w.layer i new) w.bus w.ids w.due) (sym terms_are) (record {
        facts = facts_begun h.facts u b.kind q begun is_free differs honest (omega arith) b.part;
        follows = subst (λ o. Follows (T.count + 1) (upd T.sent (T.count + 1) (Some q)) (upd (by_bus_rule o T.sent T.flight) (T.count + 1) in_flight) (send_step w.store (as_sent q))) begun (follows_sent h.follows q (T.count + 1) refl);
        bus_is = h.bus_is;
        ids_are = h.ids_are;
        due_is = subst (DueIs (begins_at T u b.kind q) (upd w.layer i new)) (sym may.free) owes;
        codes = subst (λ d. Served (begins_at T u b.kind q) (due_transaction d)) (sym may.free) (served_begun h.facts (subst (λ d. Served T (due_transaction d)) may.free h.codes) u b.kind q begun);
        nodes = λ k.
            node_case (λ x l. IsNode (T.ids (T.generation x)) (T.generation x) x (at T.held u (waits b.kind (T.count + 1))) (at T.last u (Some asked.bytes)) T.seen T.given (due_transaction w.due) l) i k new w.layer (nat_eq k i) refl
            (node_asks node (h.facts.apart g) new (id_for w i j) j (T.count + 1) (unlabelled (w.layer i) (id_for w i j) body) asked b.kind may.peer_small peer_is b.kind_is a)
            (λ d. node_beside (h.nodes k) u (waits b.kind (T.count + 1)) (Some asked.bytes) d);
      })
    where
      label_one : (n l : ℕ) (k m : Kind) → request n k ≡ request l m → n ≡ l
      label_one n l k m e = cc

  ask_case : (r : Option Asked × Node) → AskedAs (w.layer i) (id_for w i j) (unlabelled (w.layer i) (id_for w i j) body) r → Stands (asking r i j w)
  ask_case (Some asked, new) a = asked_on asked new a
  ask_case (None, new) a = h

  pub move_ask : Stands (moved (ask i j body) w)
  move_ask = ask_case (asking_step (w.layer i) (id_for w i j) body tt) (asks (w.layer i) (id_for w i j) body (h.nodes i).places)
