-- A write of an initiator that injected no packets, and that the target finds new, was not taken as new before.
use Rattle.sbp_world.proofs.Words.Std.{arith, ◌≡◌, ◌∙◌, refl, sym, ap, subst, ◌<◌, ◌&&◌, ℕ, not, nat_eq, Bool, true, false, List, Option, Some, None, Result, Ok, Err, nat_tests}
use Rattle.sbp_world.proofs.Words.Wire.{PacketFault, LabelParts, Packet, header_in, lock, lock_response, read_block, read_block_response, read_quadlet, read_quadlet_response, write_block, write_quadlet, write_response, reading, Node, as_sending, Due, Remembered, place_for, seen_at, Facts, Row, by_again, by_generation, by_grammar, by_label, by_request, by_response, row_of, Layer, closed_by, facts_in, facts_of, judged_by, judging_step, of_request, responded, is_last, is_write, label_of, reply_kind, Sent, found_sent, is_flying, Stored, Access, access_of, Moment, Sending, Transaction, begun_by, between, part_by, part_of, request, writing, Terms, terms}
use Rattle.sbp_world.proofs.Words.Laws.{access_in, access_in_bytes, spelled_by}
use Rattle.sbp_world.proofs.Words.World.{WorldState, Stands}
use Rattle.bus_transactions.proofs.Facts.{asked_begun, request_asked}
use Rattle.bus_transactions.proofs.Follows.{found_kept}
use Rattle.bus_transactions.proofs.JudgedStep.{again_at, remembered_is}
use Rattle.bus_transactions.proofs.NodeRows.{IsNode}
use Rattle.bus_transactions.proofs.PacketParts.{asking_read, request_read}
use Rattle.bus_transactions.proofs.Reaches.{goes_on}
use Rattle.bus_transactions.proofs.Stands.{due_transaction}
use Rattle.bus_transactions.proofs.Ties.{is_first, tie_judged}
use Rattle.sbp_world.proofs.Wire.Bus.{holds}
use Rattle.sbp_world.proofs.Agents.Management.Holding.{past_terms, was_sent}
use Rattle.sbp_world.proofs.Agents.Management.Still.{hist}

-- ---- what is found to be a request is no repeat
module _ {P : Type 0} where
  of_row : (p : Packet) (r : Option (LabelParts × Option P) × Layer P) (found : Packet) → (responded p r).0 ≡ of_request found → ⊥
  of_row p (Some (label, purpose), layer) found e = cc
  of_row p (None, layer) found e = cc

  requested : (row : Row) (layer : Layer P) (bytes : List ℕ) (read : Result Packet PacketFault) (p : Packet) → (judged_by row layer bytes read).0 ≡ of_request p → row ≡ by_request
  requested by_request layer bytes read p e = refl
  requested by_generation layer bytes (Ok q) p e = cc
  requested by_generation layer bytes (Err fault) p e = cc
  requested by_grammar layer bytes (Ok q) p e = cc
  requested by_grammar layer bytes (Err fault) p e = cc
  requested by_label layer bytes (Ok q) p e = cc
  requested by_label layer bytes (Err fault) p e = cc
  requested by_response layer bytes (Ok q) p e = absurd (of_row q (closed_by (reply_kind q) layer q) p e)
  requested by_response layer bytes (Err fault) p e = cc
  requested by_again layer bytes (Ok q) p e = cc
  requested by_again layer bytes (Err fault) p e = cc

new_at : (c n r a x : Bool) → row_of (record { is_current = c; is_for_node = n; is_response = r; is_awaited = a; is_repeated = x }) ≡ by_request → x ≡ false
new_at false n r a x e = cc
new_at true false r a x e = cc
new_at true true true false x e = cc
new_at true true true true x e = cc
new_at true true false a true e = cc
new_at true true false a false e = refl

new_of : (f : Facts) → row_of f ≡ by_request → f.is_repeated ≡ false
new_of f e = new_at f.is_current f.is_for_node f.is_response f.is_awaited f.is_repeated e

is_not : (b c : Bool) → (b && c) ≡ false → b ≡ true → c ≡ false
is_not true c e f = e
is_not false c e f = cc

-- ---- a write that the target finds new
module _ {past : List Moment} (w : WorldState) (h : Stands past w) (serial : ℕ) (sent : Sent) (found : found_sent serial w.store.kept ≡ Some sent) (to_is : sent.to ≡ 0) (label : ℕ) (part : part_of sent.bytes ≡ request label writing) (calm : (terms (hist past w)).injects sent.from ≡ false) (p : Packet) (judged : (judging_step w.target.layer sent.generation sent.bytes).0 ≡ of_request p) (current : sent.generation ≡ (terms (hist past w)).generation 0) where
  abbrev t : Terms
  t = terms h.wire.past

  abbrev q : Sending
  q = as_sending sent

  abbrev u : Transaction
  u = between q q.from q.to label

  abbrev bytes : List ℕ
  bytes = sent.bytes

  same : t ≡ terms (hist past w)
  same = past_terms w h

  sent_there : t.sent serial ≡ Some q
  sent_there = ap (λ (x : Terms). x.sent serial) same ∙ was_sent w h serial sent found

  calm_there : t.injects sent.from ≡ false
  calm_there = ap (λ (x : Terms). x.injects sent.from) same ∙ calm

  honest : sent.injected ≡ false
  honest = by sent.injected refl
    where
      by : (b : Bool) → sent.injected ≡ b → b ≡ false
      by true e = let z = ((holds h.wire h.reached).facts.honest serial q sent_there).bold e in cc
      by false e = refl

  begun : begun_by q ≡ Some u
  begun = asked_begun q u honest (request_asked q label writing part)

  serial_is : serial ≡ t.current u
  serial_is =
      let on = holds h.wire h.reached in
      let wire_found = goes_on.finds h.wire serial sent h.reached (ap (λ (st : Stored). found_sent serial st.kept) h.is.store_is ∙ found) in
      let k = found_kept on.follows serial (record { serial = serial; in_flight = is_flying serial h.wire.store.kept; sent = sent }) wire_found in
      (on.facts.flies serial q sent_there).asks u begun k.live

  later : 0 < t.current u
  later = by (nat_eq (t.current u) 0) refl
    where
      by : (b : Bool) → nat_eq (t.current u) 0 ≡ b → 0 < t.current u
      by true e =
          let zero_is : t.current u ≡ 0 = grind (arith, nat_tests) in
          let none : t.sent serial ≡ None = ap t.sent (serial_is ∙ zero_is) ∙ (holds h.wire h.reached).facts.zero in
          absurd (let z : None ≡ Some q = sym none ∙ sent_there in cc)
      by false e = grind (arith, nat_tests)

  last_is : t.last u ≡ Some bytes
  last_is =
      let a = (holds h.wire h.reached).facts.asked u later in
      let one : Some a.packet ≡ Some q = sym a.sent_is ∙ ap t.sent (sym serial_is) ∙ sent_there in
      let packet_is : a.packet ≡ q = cc in
      a.last_is ∙ ap (λ (x : Sending). Some x.bytes) packet_is

  writes : is_write bytes ≡ true
  writes = let r = request_read bytes label writing part in (asking_read bytes r.packet label writing r.read r.is).writes

  node : IsNode (t.ids q.generation) q.generation q.to t.held t.last t.seen t.given None (h.wire.layer 0)
  node =
      let n = (holds h.wire h.reached).nodes 0 in
      let now : sent.generation ≡ t.generation 0 = current ∙ sym (ap (λ (x : Terms). x.generation 0) same) in
      subst (λ (k : ℕ). IsNode (t.ids q.generation) q.generation k t.held t.last t.seen t.given None (h.wire.layer 0)) (sym to_is)
      (subst (λ (g : ℕ). IsNode (t.ids g) g 0 t.held t.last t.seen t.given None (h.wire.layer 0)) (sym now)
      (subst (λ (d : Option Due). IsNode (t.ids (t.generation 0)) (t.generation 0) 0 t.held t.last t.seen t.given (due_transaction d) (h.wire.layer 0)) h.is.due_is n))

  filter_is : (h.wire.layer 0).filter ≡ w.target.layer.filter
  filter_is = ap (λ (l : Node). l.filter) (h.is.layers_are 0 (omega arith))

  not_repeated : (facts_of w.target.layer sent.generation bytes).is_repeated ≡ false
  unfolding judging_step
  not_repeated =
      let f = facts_of w.target.layer sent.generation bytes in
      new_of f (requested (row_of f) w.target.layer bytes (reading bytes) p judged)

  not_last : is_last (t.seen u) bytes ≡ false
  not_last =
      let r = request_read bytes label writing part in
      let source = (header_in r.packet).source in
      let facts = (holds h.wire h.reached).facts.honest serial q sent_there in
      let seen = remembered_is t (h.wire.layer 0) q node facts.source facts.label r.packet label writing r.read part in
      let again = sym (ap (λ (x : Result Packet PacketFault). (facts_in w.target.layer sent.generation bytes x).is_repeated) r.read) ∙ not_repeated in
      let at = sym (again_at w.target.layer.filter bytes (place_for source w.target.layer.filter)) ∙ again in
      let here = is_not (is_write bytes) _ at writes in
      sym (ap (λ (x : Remembered). is_last x.last bytes) (ap (λ filter. seen_at source filter (label_of bytes)) (sym filter_is) ∙ seen)) ∙ here

  pub never_new : (terms (hist past w)).news serial ≡ 0
  never_new =
      let tie = (holds h.wire h.reached).facts.tie u in
      let now = tie_judged tie bytes last_is in
      let fair_one : not (t.injects sent.from) ≡ true = ap not calm_there in
      let most = now.most fair_one bytes last_is writes in
      let one = is_first (t.seen u) bytes writes not_last in
      let none : t.news (t.current u) ≡ 0 = omega (arith, most, one) in
      ap (λ (x : Terms). x.news serial) (sym same) ∙ ap t.news serial_is ∙ none

-- ---- what writes is a request to write
pub record Writes (bytes : List ℕ) : Type 0 where
  pub label : ℕ
  pub part : part_of bytes ≡ request label writing

abbrev is_writing : Option Access → Bool
is_writing None = false
is_writing (Some a) = a.is_write

writes_in : (p : Packet) (access : Access) → access_of p ≡ Some access → access.is_write ≡ true → (label : ℕ) × (part_by (Ok p) ≡ request label writing)
writes_in (write_quadlet header offset value) access e w = (header.label, refl)
writes_in (write_block header offset payload) access e w = (header.label, refl)
writes_in (read_quadlet header offset) access e w = absurd (let z : false ≡ true = ap (λ (o : Option Access). is_writing o) e ∙ w in cc)
writes_in (read_block header offset size) access e w = absurd (let z : false ≡ true = ap (λ (o : Option Access). is_writing o) e ∙ w in cc)
writes_in (lock header offset extended payload) access e w = absurd (let z : false ≡ true = ap (λ (o : Option Access). is_writing o) e ∙ w in cc)
writes_in (lock_response header rcode extended payload) access e w = absurd (let z : None ≡ Some access = e in cc)
writes_in (write_response header rcode) access e w = absurd (let z : None ≡ Some access = e in cc)
writes_in (read_quadlet_response header rcode value) access e w = absurd (let z : None ≡ Some access = e in cc)
writes_in (read_block_response header rcode payload) access e w = absurd (let z : None ≡ Some access = e in cc)

writes_by : (r : Result Packet PacketFault) (access : Access) → access_in (spelled_by r) ≡ Some access → access.is_write ≡ true → (label : ℕ) × (part_by r ≡ request label writing)
writes_by (Ok p) access e w = writes_in p access e w
writes_by (Err fault) access e w = absurd (let z : None ≡ Some access = e in cc)

pub writes_of : (bytes : List ℕ) (access : Access) → access_in_bytes bytes ≡ Some access → access.is_write ≡ true → Writes bytes
unfolding part_of
writes_of bytes access e w = let x = writes_by (reading bytes) access e w in record { label = x.0; part = x.1 }
