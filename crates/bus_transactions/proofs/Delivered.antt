-- What a delivery makes of the history and the nodes, by what it is found to be.
use Rattle.async_packet.specs.Fields.{rcode_of}
use Rattle.sbp_journal.specs.declared.cause.Cause.TheVariants as causes
use Rattle.bus_transactions.proofs.ServedFacts.{Served, IsWrite, served_news, served_judged, served_closed}
use Rattle.std.specs.Prelude.{◌≡◌, ℕ, ◌+◌, ◌<◌, nat_eq, Bool, true, false, cond, Option, Some, None, Ok, refl}
use Rattle.std.proofs.Common.{arith, sym, ◌∙◌, ap, subst}
use Rattle.sbp_base.specs.Update.{upd}
use Rattle.async_packet.specs.Packet.{Packet, header_in}
use Rattle.async_packet.specs.Reading.{reading}
use Rattle.label_table.specs.Filter.{place_for}
use Rattle.packet_store.specs.Stored.{Stored}
use Rattle.sbp_journal.specs.declared.cause.Cause.{Cause}
use Rattle.sbp_journal.specs.Transactions.{Kind, request, response, part_of, Transaction, at, Sending, between, asked_by, begun_by}
use Rattle.sbp_journal.specs.Wire.{Terms, free, waits, is_news}
use Rattle.bus_transactions.specs.Wire.{Node, is_stated, is_reply, Reply}
use Rattle.bus_transactions.proofs.PacketParts.{same_refl}
use Rattle.bus_transactions.proofs.Follows.{is_live}
use Rattle.bus_transactions.proofs.Ties.{counts_new}
use Rattle.bus_transactions.proofs.Facts.{fair, both, both_fair, both_other, fair_not, not_true, nat_same, request_asked, response_asked, none_begun, asked_begun}
use Rattle.bus_transactions.proofs.FactsJudged.{news_at, facts_news, judged_at, facts_judged, closed_at, facts_closed}
use Rattle.bus_transactions.proofs.NodeRows.{IsNode, node_judged}
use Rattle.bus_transactions.proofs.Stands.{On, node_case}

differ : true ≡ false → ⊥
differ e = cc

-- `t` are the terms once the packet has arrived
module _ (t : Terms) (store : Stored) (layer : ℕ → Node) (bus : ℕ) (ids : ℕ → ℕ) (o : On t store layer bus ids None) (s : ℕ) (q : Sending) (sent : t.sent s ≡ Some q) (live : is_live (t.flight s) ≡ true) where
  -- the node's layer stays
  same_nodes : (P : ℕ → Node → Type 0) → ((k : ℕ) → P k (layer k)) → (new : Node) → new ≡ layer q.to → (k : ℕ) → P k (upd layer q.to new k)
  same_nodes P all new e k = node_case P q.to k new layer (nat_eq k q.to) refl (subst (P q.to) (sym e) (all q.to)) (λ d. all k)

  IsNow : ℕ → Node → Type 0
  IsNow k l = IsNode (t.ids (t.generation k)) (t.generation k) k t.held t.last t.seen t.given None l

  pub stays_on : (new : Node) → new ≡ layer q.to → On t store (upd layer q.to new) bus ids None
  unfolding IsNow
  stays_on new e = record {
    facts = o.facts;
    follows = o.follows;
    bus_is = o.bus_is;
    ids_are = o.ids_are;
    due_is = o.due_is;
    codes = o.codes;
    nodes = same_nodes IsNow o.nodes new e;
  }

  elsewhere : (n : ℕ) (r : ℕ) → nat_eq r s ≡ false → upd t.news s n r ≡ t.news r
  elsewhere n r d = ap (λ b. cond b n (t.news r)) d

  -- it is news, and is no request of a transaction
  pub news_on : begun_by q ≡ None → (new : Node) → new ≡ layer q.to → On (is_news s t) store (upd layer q.to new) bus ids None
  unfolding IsNow
  news_on none new e = record {
    facts = facts_news o.facts s q sent none (upd t.news s (t.news s + 1)) t.served (elsewhere (t.news s + 1));
    follows = o.follows;
    bus_is = o.bus_is;
    ids_are = o.ids_are;
    due_is = o.due_is;
    codes = served_news o.facts o.codes s q sent none (upd t.news s (t.news s + 1)) t.served (λ r d. refl);
    nodes = same_nodes IsNow o.nodes new e;
  }

  -- ---- a request is judged
  own_asked : (v : Transaction) → asked_by q ≡ Some v → v.requester ≡ q.from → fair t.injects v ≡ true → s ≡ t.current v
  own_asked v a r f = by_test q.injected refl
    where
      by_test : (b : Bool) → q.injected ≡ b → s ≡ t.current v
      by_test false i = (o.facts.flies s q sent).asks v (asked_begun q v i a) live
      by_test true i = absurd (not_true (fair_not t.injects v (ap t.injects r ∙ (o.facts.honest s q sent).bold i)) f)

  pub judged_on : (p : Packet) (l place : ℕ) (k : Kind) (cause : Option Cause) (news served : ℕ → ℕ) (reply : Reply) (new : Node) → reading q.bytes ≡ Ok p → part_of q.bytes ≡ request l k → t.generation q.to ≡ q.generation → news s ≡ t.news s + counts_new (t.seen (between q q.from q.to l)) q.bytes → ((r : ℕ) → nat_eq r s ≡ false → news r ≡ t.news r) → place_for (header_in p).source (layer q.to).filter ≡ Some place → new ≡ layer q.to → ((rcode : ℕ) → is_reply reply rcode ≡ true → is_stated cause (t.given (between q q.from q.to l)) rcode ≡ true) → ((r : ℕ) → nat_eq r s ≡ false → served r ≡ t.served r) → (counts_new (t.seen (between q q.from q.to l)) q.bytes ≡ 0 → (cause ≡ Some causes.Again) × (served s ≡ t.served s)) → (counts_new (t.seen (between q q.from q.to l)) q.bytes ≡ 1 → (rcode : ℕ) → is_stated cause (t.given (between q q.from q.to l)) rcode ≡ true → rcode ≡ 0 → served s ≡ t.served s + 1) → On (judged_at t s q (between q q.from q.to l) (Some (record { serial = s; cause = cause })) news served) store (upd layer q.to new) bus ids (Some (record { serial = s; request = q; packet = p; reply = reply }))
  judged_on p l place k cause news served reply new read part now counted other room same stated beyond again fresh =
      let v : Transaction = between q q.from q.to l in
      let a = request_asked q l k part in
      record {
        facts = facts_judged o.facts s q v sent live a news counted other (omega arith) (Some (record { serial = s; cause = cause })) served;
        follows = o.follows;
        bus_is = o.bus_is;
        ids_are = o.ids_are;
        due_is = record {
          sent_is = sent;
          owed = record { serial = s; cause = cause };
          owes_is = refl;
          serial_is = refl;
          read = read;
          label = l;
          kind = k;
          part = part;
          now = sym now;
          heard = ap (λ b. cond b (Some q.bytes) (t.seen v)) (same_refl v);
          stated = stated;
          own = own_asked v a refl;
          came = subst (λ b. 0 < cond b (t.judged s + 1) (t.judged s)) (sym (nat_same s)) (omega arith);
          place = place;
          room = ap (λ (x : Node). place_for (header_in p).source x.filter) (ap (λ b. cond b new (layer q.to)) (nat_same q.to) ∙ same) ∙ room;
        };
        codes = subst (Served (judged_at t s q v (Some (record { serial = s; cause = cause })) news served)) (sym a) (served_judged o.facts o.codes s q v sent live a refl cause news served beyond again fresh);
        nodes = λ n. subst (λ of. IsNode (t.ids (t.generation n)) (t.generation n) n t.held t.last (at t.seen v (Some q.bytes)) t.given of (upd layer q.to new n)) (sym a)
            (same_nodes (λ x y. IsNode (t.ids (t.generation x)) (t.generation x) x t.held t.last (at t.seen v (Some q.bytes)) t.given (Some v) y) (λ x. node_judged (o.nodes x) v (Some q.bytes)) new same n);
      }

  -- ---- a response closes its transaction
  pub closed_on : (l : ℕ) (k k' : Kind) (r rcode : ℕ) (news served : ℕ → ℕ) (new : Node) → rcode_of q.bytes ≡ rcode → ((x : ℕ) → nat_eq x s ≡ false → served x ≡ t.served x) → part_of q.bytes ≡ response l k → t.generation q.to ≡ q.generation → t.held (between q q.to q.from l) ≡ waits k' r → ((x : ℕ) → nat_eq x s ≡ false → news x ≡ t.news x) → ((x : ℕ) → nat_eq x q.to ≡ false → IsNode (t.ids (t.generation x)) (t.generation x) x (at t.held (between q q.to q.from l) free) t.last t.seen t.given None (layer x)) → IsNode (t.ids (t.generation q.to)) (t.generation q.to) q.to (at t.held (between q q.to q.from l) free) t.last t.seen t.given None new → On (closed_at (news_at t news served) (between q q.to q.from l) r rcode) store (upd layer q.to new) bus ids None
  closed_on l k k' r rcode news served new code beyond part now waiting other beside own =
      let u : Transaction = between q q.to q.from l in
      let none = none_begun q (response_asked q l k part) in
      record {
        facts = facts_closed (facts_news o.facts s q sent none news served other) u k' r rcode waiting (came u);
        follows = o.follows;
        bus_is = o.bus_is;
        ids_are = o.ids_are;
        due_is = o.due_is;
        codes = served_closed (facts_news o.facts s q sent none news served other) (served_news o.facts o.codes s q sent none news served beyond) u k' r rcode waiting (λ w. (sym code ∙ came_code w, came u w.fairly));
        nodes = λ n. node_case (λ x y. IsNode (t.ids (t.generation x)) (t.generation x) x (at t.held u free) t.last t.seen t.given None y) q.to n new layer (nat_eq n q.to) refl own (beside n);
      }
    where
      honest : (b : Bool) → q.injected ≡ b → t.injects q.from ≡ false → b ≡ false
      honest false i n = refl
      honest true i n = absurd (not_true n ((o.facts.honest s q sent).bold i))

      came_code : IsWrite (news_at t news served) (between q q.to q.from l) → rcode_of q.bytes ≡ t.given (between q q.to q.from l)
      came_code w = o.codes.replies (between q q.to q.from l) s (record { fairly = w.fairly; bytes = w.bytes; last = w.last; writes = w.writes }) refl (record { packet = q; sent = sent; label = l; kind = k; part = part; honest = honest q.injected refl (both_other t.injects (between q q.to q.from l) w.fairly); live = live; is = refl })

      came : (u : Transaction) → both t.injects (between q q.to q.from l) ≡ true → 0 < t.judged (t.current (between q q.to q.from l))
      came u b = ((o.facts.flies s q sent).replies l k part (honest q.injected refl (both_other t.injects (between q q.to q.from l) b)) live (both_fair t.injects (between q q.to q.from l) b)).1
