-- A node answers the request that it has judged.
use Rattle.bus_transactions.proofs.ServedFacts.{Served, served_paid}
use Rattle.bus_transactions.specs.Answers.{IsOwed, IsSentFor}
use Rattle.bus_transactions.specs.Sent.{IsOwn}
use Rattle.std.specs.Prelude.{◌≡◌, ℕ, ◌+◌, ◌<◌, nat_eq, Bool, true, false, cond, List, Some, None, Ok, refl}
use Rattle.std.proofs.Common.{arith, sym, ◌∙◌, ap, subst}
use Rattle.sbp_base.specs.Update.{upd}
use Rattle.async_packet.specs.declared.packet.Header.{Header}
use Rattle.async_packet.specs.Fields.{rcode_of}
use Rattle.async_packet.specs.Packet.{Packet, header_in, write_quadlet, write_block, write_response, read_quadlet, read_block, read_quadlet_response, read_block_response, lock, lock_response}
use Rattle.async_packet.specs.Canon.{IsValid, canon}
use Rattle.async_packet.specs.Reading.{reading}
use Rattle.async_packet.specs.Spells.{Spells}
use Rattle.async_packet.proofs.RoundTrip.{canon_spells}
use Rattle.async_packet.proofs.Spelled.{reading_spelled}
use Rattle.label_table.specs.Bodies.{header_to, response_to}
use Rattle.label_table.specs.Filter.{remember_step}
use Rattle.label_table.specs.Layer.{answering_step}
use Rattle.packet_store.specs.Stored.{send_step}
use Rattle.sbp_journal.specs.Transactions.{Kind, request, response, part_in, part_of, Transaction, is_same, at, Sending, between, asked_by, begun_by}
use Rattle.sbp_journal.specs.Wire.{Terms, terms, in_flight, by_bus_rule, asked_in, sends}
use Rattle.bus_transactions.specs.Wire.{Node, Due, Wire, as_sent, transaction, outgoing, next_serial, is_stated, is_reply}
use Rattle.bus_transactions.specs.Moves.{answer, answered, answering, moved}
use Rattle.bus_transactions.specs.May.{MayAnswer}
use Rattle.bus_transactions.proofs.PacketParts.{same_is, part_read, to_read, asking_read, read_once}
use Rattle.bus_transactions.proofs.Follows.{Follows, last_is, follows_sent}
use Rattle.bus_transactions.proofs.Facts.{fair, Honest, Flies, nat_same, request_asked, response_asked, none_begun, IsReply}
use Rattle.bus_transactions.proofs.FactsSent.{puts_at, facts_put}
use Rattle.bus_transactions.proofs.NodeRows.{IsNode, node_answered, node_answered_beside}
use Rattle.bus_transactions.proofs.Stands.{IsDue, On, Stands, node_case, paid_terms, marked}

-- ---- the packet of a response
pub record IsAnswer (node : ℕ) (p : Packet) (rcode l : ℕ) (kind : Kind) (given : List ℕ) : Type 0 where
  pub part : part_in (response_to node p rcode given) ≡ response (header_in p).label kind
  pub header : header_in (response_to node p rcode given) ≡ header_to node (header_in p).source (header_in p).label
  pub rcode_is : (bytes : List ℕ) → Spells bytes (response_to node p rcode given) → rcode ≡ rcode_of bytes

kind_is : {l m : ℕ} {k j : Kind} → request l k ≡ request m j → k ≡ j
kind_is e = cc

pub answer_packet : (node : ℕ) (p : Packet) (rcode l : ℕ) (kind : Kind) (given : List ℕ) → part_in p ≡ request l kind → IsAnswer node p rcode l kind given
answer_packet node (write_quadlet header offset value) rcode l kind given e = record { part = ap (response header.label) (kind_is e); header = refl; rcode_is = λ bytes s. s.1 }
answer_packet node (write_block header offset payload) rcode l kind given e = record { part = ap (response header.label) (kind_is e); header = refl; rcode_is = λ bytes s. s.1 }
answer_packet node (write_response header code) rcode l kind given e = cc
answer_packet node (read_quadlet header offset) rcode l kind given e = record { part = ap (response header.label) (kind_is e); header = refl; rcode_is = λ bytes s. s.1 }
answer_packet node (read_block header offset asked) rcode l kind given e = record { part = ap (response header.label) (kind_is e); header = refl; rcode_is = λ bytes s. s.1 }
answer_packet node (read_quadlet_response header code value) rcode l kind given e = cc
answer_packet node (read_block_response header code payload) rcode l kind given e = cc
answer_packet node (lock header offset extended payload) rcode l kind given e = record { part = ap (response header.label) (kind_is e); header = refl; rcode_is = λ bytes s. s.1 }
answer_packet node (lock_response header code extended payload) rcode l kind given e = cc

-- ---- the move
module _ (w : Wire) (h : Stands w) (d : Due) (rcode : ℕ) (given : List ℕ) (owed : w.due ≡ Some d) (valid : IsValid (response_to (w.layer d.request.to).node d.packet rcode given)) where
  abbrev T : Terms
  T = terms w.past

  o : On T w.store w.layer w.bus w.ids (Some d)
  o = subst (On T w.store w.layer w.bus w.ids) owed h

  abbrev i : ℕ
  i = d.request.to

  abbrev j : ℕ
  j = d.request.from

  abbrev p : Packet
  p = response_to (w.layer i).node d.packet rcode given

  abbrev q : Sending
  q = outgoing w i j (canon p) false

  pub due : IsDue T w.layer d
  due = o.due_is

  abbrev v : Transaction
  v = between d.request j i due.label

  abbrev new : Node
  new = record (w.layer i) { filter = remember_step (w.layer i).filter (header_in d.packet).source d.request.bytes rcode }

  is_asked : asked_by d.request ≡ Some v
  is_asked = request_asked d.request due.label due.kind due.part

  asking : (header_in d.packet).label ≡ due.label
  asking = (asking_read d.request.bytes d.packet due.label due.kind due.read (sym (part_read d.request.bytes d.packet due.read) ∙ due.part)).label

  packet_is : IsAnswer (w.layer i).node d.packet rcode due.label due.kind given
  packet_is = answer_packet (w.layer i).node d.packet rcode due.label due.kind given (sym (part_read d.request.bytes d.packet due.read) ∙ due.part)

  read_is : reading (canon p) ≡ Ok p
  read_is = reading_spelled (canon p) p (canon_spells p valid)

  pub part_is : part_of (canon p) ≡ response due.label due.kind
  part_is = part_read (canon p) p read_is ∙ packet_is.part ∙ ap (λ l. response l due.kind) asking

  pub generation_is : (w.layer i).generation ≡ d.request.generation
  generation_is = (o.nodes i).generation ∙ sym due.now

  none : begun_by q ≡ None
  none = none_begun q (response_asked q due.label due.kind part_is)

  pub from_is : (header_in d.packet).source ≡ T.ids d.request.generation j
  from_is = (o.facts.honest d.serial d.request due.sent_is).source d.packet due.read

  honest : Honest T.ids T.generation T.injects q
  honest = record {
    from_small = (o.facts.honest d.serial d.request due.sent_is).to_small;
    to_small = (o.facts.honest d.serial d.request due.sent_is).from_small;
    past = let e = (o.nodes i).generation in omega arith;
    bold = λ e. cc;
    is_for = λ e.
        to_read (canon p) p (T.ids (w.layer i).generation j) read_is
        ∙ ap (λ (x : Header). nat_eq x.destination (T.ids (w.layer i).generation j)) packet_is.header
        ∙ ap (λ x. nat_eq x (T.ids (w.layer i).generation j)) (from_is ∙ ap (λ g. T.ids g j) (sym generation_is))
        ∙ nat_same (T.ids (w.layer i).generation j);
    source = λ r e.
        ap (λ x. (header_in x).source) (sym (read_once (canon p) p r read_is e))
        ∙ ap (λ (x : Header). x.source) packet_is.header
        ∙ (o.nodes i).id ∙ ap (λ g. T.ids g i) (sym (o.nodes i).generation);
    label = λ l k e. absurd (apart (sym part_is ∙ e));
  }
    where
      apart : {l m : ℕ} {k n : Kind} → response l k ≡ request m n → ⊥
      apart e = cc

  same_transaction : (l : ℕ) (k : Kind) → part_of (canon p) ≡ response l k → between q j i l ≡ v
  same_transaction l k e = ap (λ g. transaction g j i l) generation_is ∙ ap (λ m. transaction d.request.generation j i m) (label_is (sym e ∙ part_is))
    where
      label_is : {l m : ℕ} {k n : Kind} → response l k ≡ response m n → l ≡ m
      label_is e = cc

  flies : Flies T.injects T.current T.judged (upd T.answers (T.count + 1) (Some due.owed.serial) (T.count + 1)) in_flight (T.count + 1) q
  flies = record {
    asks = λ u e. absurd (nothing (sym none ∙ e));
    replies = λ l k part is_honest live h.
        let e = same_transaction l k part in
        let own : d.serial ≡ T.current v = due.own (subst (λ u. fair T.injects u ≡ true) e h) in
        subst (λ u. (upd T.answers (T.count + 1) (Some due.owed.serial) (T.count + 1) ≡ Some (T.current u)) × (0 < T.judged (T.current u))) (sym e) (
          ap (λ b. cond b (Some due.owed.serial) (T.answers (T.count + 1))) (nat_same (T.count + 1)) ∙ ap Some (due.serial_is ∙ own),
          subst (λ n. 0 < T.judged n) own due.came,
        );
  }
    where
      nothing : {u : Transaction} → None ≡ Some u → ⊥
      nothing e = cc

  ungiven : (u : Transaction) (b : Bool) → is_same u v ≡ b → T.generation u.responder < u.generation → cond b rcode (T.given u) ≡ 0
  ungiven u false e l = o.facts.ungiven u l
  ungiven u true e l =
      let late : T.generation v.responder < v.generation = subst (λ x. T.generation x.responder < x.generation) (same_is u v e) l in
      let now = due.now in
      absurd (omega arith)

  reply_to : (r : ℕ) → upd T.answers (T.count + 1) (Some due.owed.serial) (T.count + 1) ≡ Some r → IsReply (Some q) (T.sent r)
  reply_to r e =
      let is : due.owed.serial ≡ r = serial_one (sym (ap (λ b. cond b (Some due.owed.serial) (T.answers (T.count + 1))) (nat_same (T.count + 1))) ∙ e) in
      record {
        reply = q;
        asking = d.request;
        reply_is = refl;
        asking_is = ap T.sent (sym is ∙ due.serial_is) ∙ due.sent_is;
        label = due.label;
        kind = due.kind;
        reply_part = part_is;
        asking_part = due.part;
        generation = generation_is;
        from_is = refl;
        to_is = refl;
      }
    where
      serial_one : {m n : ℕ} → Some m ≡ Some n → m ≡ n
      serial_one e = cc

  pub terms_are : sends (next_serial w) (marked T (next_serial w) q (T.injected (next_serial w))) T ≡ puts_at T q T.injects (upd T.answers (T.count + 1) (Some due.owed.serial)) (at T.given v rcode) None
  terms_are =
      let serial : next_serial w ≡ T.count + 1 = ap (λ x. x + 1) (last_is o.follows) in
      let fresh = o.facts.unsent (next_serial w) (omega arith) in
      paid_terms T (next_serial w) q due.owed v rcode due.owes_is none refl
      (ap (λ s. asked_in (T.sent s)) due.serial_is ∙ ap asked_in due.sent_is ∙ is_asked)
      (sym (packet_is.rcode_is (canon p) (canon_spells p valid))) serial fresh.honest

  old : (k : ℕ) → IsNode (T.ids (T.generation k)) (T.generation k) k T.held T.last T.seen T.given (Some v) (w.layer k)
  old k = subst (λ of. IsNode (T.ids (T.generation k)) (T.generation k) k T.held T.last T.seen T.given of (w.layer k)) is_asked (o.nodes k)

  own_node : IsNode (T.ids (T.generation i)) (T.generation i) i T.held T.last T.seen (at T.given v rcode) None new
  own_node =
      node_answered (old i) (o.facts.apart (T.generation i)) d.request.bytes rcode (header_in d.packet).source due.place
      (from_is ∙ ap (λ g. T.ids g j) due.now)
      ((o.facts.honest d.serial d.request due.sent_is).label due.label due.kind due.part)
      due.heard (ap (λ g. transaction g j i due.label) due.now) due.room (o.facts.honest d.serial d.request due.sent_is).from_small

  answered_on : is_reply d.reply rcode ≡ true → On (puts_at T q T.injects (upd T.answers (T.count + 1) (Some due.owed.serial)) (at T.given v rcode) None) (send_step w.store (as_sent q)) (upd w.layer i new) w.bus w.ids None
  answered_on stated = record {
    facts = facts_put o.facts q none T.injects (λ k e. e) (upd T.answers (T.count + 1) (Some due.owed.serial)) (λ r e. ap (λ b. cond b (Some due.owed.serial) (T.answers r)) e) honest flies (at T.given v rcode) (λ u. ungiven u (is_same u v) refl) None reply_to;
    follows = subst (λ b. Follows (T.count + 1) (upd T.sent (T.count + 1) (Some q)) (upd (by_bus_rule b T.sent T.flight) (T.count + 1) in_flight) (send_step w.store (as_sent q))) none (follows_sent o.follows q (T.count + 1) refl);
    bus_is = o.bus_is;
    ids_are = o.ids_are;
    due_is = refl;
    codes = served_paid o.facts v (subst (Served T) is_asked o.codes) q rcode due.owed due.owes_is (upd T.answers (T.count + 1) (Some due.owed.serial)) (due.stated rcode stated) (sym (packet_is.rcode_is (canon p) (canon_spells p valid))) same_transaction none;
    nodes = λ k.
        node_case (λ x l. IsNode (T.ids (T.generation x)) (T.generation x) x T.held T.last T.seen (at T.given v rcode) None l) i k new w.layer (nat_eq k i) refl
        own_node (λ e. node_answered_beside (old k) rcode e);
  }

  answered_stands : is_reply d.reply rcode ≡ true → Stands (answered (answering_step (w.layer i) d.packet d.request.bytes rcode given) d w)
  unfolding answering_step
  answered_stands stated = subst (λ t. On t (send_step w.store (as_sent q)) (upd w.layer i new) w.bus w.ids None) (sym terms_are) (answered_on stated)

  -- the packet is the node's own, and the answer that is owed
  pub answered_own : IsOwn T (w.layer i).generation i j (canon p)
  answered_own = record {
    now = (o.nodes i).generation;
    canonical = record {
      packet = p;
      valid = valid;
      spelled = refl;
      header =
          packet_is.header
          ∙ ap (λ x. header_to x (header_in d.packet).source (header_in d.packet).label) (o.nodes i).id
          ∙ ap (λ x. header_to (T.ids (T.generation i) i) x (header_in d.packet).label) (from_is ∙ ap (λ g. T.ids g j) due.now)
          ∙ ap (λ x. header_to (T.ids (T.generation i) i) (T.ids (T.generation i) j) x) (sym (ap (λ (x : Header). x.label) packet_is.header));
    };
    lowest = λ l k e. absurd (apart (sym part_is ∙ e));
  }
    where
      apart : {l m : ℕ} {k n : Kind} → response l k ≡ request m n → ⊥
      apart e = cc

  pub pays_owed : is_reply d.reply rcode ≡ true → (b : Bool) → IsOwed T due.owed (record { generation = (w.layer i).generation; from = i; to = j; bytes = canon p; injected = b })
  pays_owed stated b = record {
    asking = d.request;
    sent = ap T.sent due.serial_is ∙ due.sent_is;
    responds = record {
      label = due.label;
      kind = due.kind;
      asks = due.part;
      replies = part_is;
      generation = generation_is;
      from = refl;
      to = refl;
    };
    stated = subst (λ x. is_stated due.owed.cause (T.given v) x ≡ true) (packet_is.rcode_is (canon p) (canon_spells p valid)) (due.stated rcode stated);
  }

  pub answered_owed : is_reply d.reply rcode ≡ true → (b : Bool) → IsSentFor T.owes T (record { generation = (w.layer i).generation; from = i; to = j; bytes = canon p; injected = b })
  answered_owed stated b = subst (λ x. IsSentFor x T (record { generation = (w.layer i).generation; from = i; to = j; bytes = canon p; injected = b })) (sym due.owes_is) (pays_owed stated b)

pub move_answer : (w : Wire) → Stands w → (rcode : ℕ) (given : List ℕ) → MayAnswer w rcode given → Stands (moved (answer rcode given) w)
move_answer w h rcode given may =
    subst (λ o. Stands (answering o rcode given w)) (sym may.owed) (answered_stands w h may.due rcode given may.owed may.valid may.stated)
