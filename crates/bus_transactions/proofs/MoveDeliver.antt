-- A packet is delivered.
use Rattle.bus_transactions.proofs.Rooms.{has_room}
use Rattle.bus_transactions.proofs.ServedFacts.{served_flight}
use Rattle.label_table.specs.Requests.{is_write, is_last}
use Rattle.label_table.specs.declared.source.Remembered.{Remembered}
use Rattle.std.specs.Prelude.{◌≡◌, ℕ, ◌+◌, nat_eq, Bool, true, false, cond, List, Option, Some, None, Result, Ok, Err, refl, ◌&&◌, suc}
use Rattle.std.proofs.Common.{arith, sym, ◌∙◌, ap, subst}
use Rattle.sbp_base.specs.Update.{upd}
use Rattle.async_packet.specs.Fields.{rcode_of}
use Rattle.async_packet.specs.declared.fault.PacketFault.{PacketFault}
use Rattle.async_packet.specs.Labels.{LabelParts}
use Rattle.async_packet.specs.Packet.{Packet, header_in}
use Rattle.async_packet.specs.Reading.{reading}
use Rattle.label_table.specs.declared.place.LabelState.TheVariants as states
use Rattle.label_table.specs.Filter.{place_for, judge_step, source_of}
use Rattle.label_table.specs.Judging.{Facts, Row, by_grammar, by_label, by_response, by_again, by_request, row_of}
use Rattle.label_table.specs.Layer.{Finding, of_generation, of_grammar, of_label, of_response, of_again, of_request, facts_in, judging_step, rcode_in, is_again}
use Rattle.label_table.specs.Layer as layers
use Rattle.packet_store.specs.declared.sent.Kept.{Kept}
use Rattle.packet_store.specs.Kept.{is_flying}
use Rattle.packet_store.specs.Stored.{Stored}
use Rattle.sbp_journal.specs.Transactions.{Kind, is_same_kind, Part, request, response, no_packet, part_of, is_to, Transaction, at, Sending, between, asked_by, begun_by}
use Rattle.sbp_journal.specs.Wire.{Terms, terms, Flight, delivered, Held, free, waits, rests, arrives, is_news, is_served, judges, closes, closes_if, gets_as, gets, ignores_that, judges_if, noted}
use Rattle.sbp_journal.specs.declared.cause.Cause.{Cause}
use Rattle.sbp_journal.specs.declared.cause.Cause.TheVariants as causes
use Rattle.bus_transactions.specs.Wire.{Node, as_before, as_decided, Wire, as_sending, transaction, first_note, due_for, is_stated}
use Rattle.bus_transactions.specs.Moves.{deliver, arrived, judging, delivering, moved}
use Rattle.bus_transactions.specs.May.{MayDeliver, may_ignore}
use Rattle.bus_transactions.specs.Judging.{is_response, is_repeated, is_awaited, waits_for, facts_of}
use Rattle.bus_transactions.proofs.PacketParts.{part_read, PartOf, asks, replies, part_case, answering_read}
use Rattle.bus_transactions.proofs.Follows.{Follows, is_live, follows_delivered, found_kept}
use Rattle.bus_transactions.proofs.Ties.{counts_new}
use Rattle.bus_transactions.proofs.Facts.{not_true, nat_same, injected_begun, request_asked, response_asked, none_begun, asked_is, Honest, nat_is}
use Rattle.bus_transactions.proofs.FactsJudged.{facts_flight, news_at, judged_at, closed_at}
use Rattle.bus_transactions.proofs.JudgedStep.{Says, row_says, Responds, Requests, JudgedAs, judged_step, facts_agree, remembered_is, again_at, rcode_at}
use Rattle.bus_transactions.proofs.NodeRows.{IsNode, node_frees, node_beside_held}
use Rattle.bus_transactions.proofs.Stands.{On, Stands}
use Rattle.bus_transactions.proofs.Delivered.{stays_on, news_on, judged_on, closed_on}
use Rattle.bus_transactions.proofs.MoveOthers.{settled}

-- ---- the packet arrives
arrived_live : (b c : Bool) (state : Flight) → is_live (cond b delivered state) ≡ true → (b ≡ true → is_live state ≡ true) → is_live state ≡ true
arrived_live true c state e here = here refl
arrived_live false c state e here = e

module _ (w : Wire) (h : Stands w) (s : ℕ) (q : Sending) (free_now : w.due ≡ None) (sent : (terms w.past).sent s ≡ Some q) (live : is_live ((terms w.past).flight s) ≡ true) (flies : (terms w.past).repeats ≡ false → is_flying s w.store.kept ≡ true) where
  abbrev T : Terms
  T = terms w.past

  abbrev pub A : Terms
  A = arrives s T

  store_by : (b : Bool) → T.repeats ≡ b → Follows T.count T.sent (cond b T.flight (upd T.flight s delivered)) (arrived b s w.store)
  store_by true e = h.follows
  store_by false e = follows_delivered h.follows s (flies e)

  live_by : (b : Bool) (r : ℕ) (p : Sending) → T.sent r ≡ Some p → is_live (cond {A = ℕ → Flight} b T.flight (upd T.flight s delivered) r) ≡ true → is_live (T.flight r) ≡ true
  live_by true r p e l = l
  live_by false r p e l = arrived_live (nat_eq r s) false (T.flight r) l (λ i. let is : s ≡ r = grind arith in subst (λ x. is_live (T.flight x) ≡ true) is live)

  pub has_arrived : On A (arrived T.repeats s w.store) w.layer w.bus w.ids None
  has_arrived =
      let o = settled w h free_now in
      record {
        facts = facts_flight o.facts (cond T.repeats T.flight (upd T.flight s delivered)) (live_by T.repeats);
        follows = store_by T.repeats refl;
        bus_is = o.bus_is;
        ids_are = o.ids_are;
        due_is = o.due_is;
        codes = served_flight o.codes (cond T.repeats T.flight (upd T.flight s delivered)) (live_by T.repeats);
        nodes = o.nodes;
      }

  here_by : (b : Bool) → is_live (cond {A = ℕ → Flight} b T.flight (upd T.flight s delivered) s) ≡ true
  here_by true = live
  here_by false = ap (λ b. is_live (cond b delivered (T.flight s))) (nat_same s)

  pub here : is_live (A.flight s) ≡ true
  here = here_by T.repeats

-- ---- what it is found to be
none_response : (q : Sending) → is_response (part_of q.bytes) ≡ true → asked_by q ≡ None
none_response q e = by_part (part_of q.bytes) refl e
  where
    by_part : (part : Part) → part_of q.bytes ≡ part → is_response part ≡ true → asked_by q ≡ None
    by_part (request l k) i e = cc
    by_part (response l k) i e = response_asked q l k i
    by_part no_packet i e = cc

-- the part of a request
record IsRequest (bytes : List ℕ) : Type 0 where
  label : ℕ
  kind : Kind
  part : part_of bytes ≡ request label kind

request_is : (bytes : List ℕ) (p : Packet) → reading bytes ≡ Ok p → is_response (part_of bytes) ≡ false → IsRequest bytes
request_is bytes p e no_response = by_case (part_case p)
  where
    by_case : PartOf p → IsRequest bytes
    by_case (asks l k i n) = record { label = l; kind = k; part = part_read bytes p e ∙ i }
    by_case (replies l k i n) = absurd (not_true no_response (ap is_response (part_read bytes p e ∙ i)))

record IsResponse (bytes : List ℕ) : Type 0 where
  label : ℕ
  kind : Kind
  part : part_of bytes ≡ response label kind

response_is : (bytes : List ℕ) → is_response (part_of bytes) ≡ true → IsResponse bytes
response_is bytes e = by_part (part_of bytes) refl e
  where
    by_part : (part : Part) → part_of bytes ≡ part → is_response part ≡ true → IsResponse bytes
    by_part (request l k) i e = cc
    by_part (response l k) i e = record { label = l; kind = k; part = i }
    by_part no_packet i e = cc

record Waiting (held : Held) (kind : Kind) : Type 0 where
  kind' : Kind
  serial : ℕ
  is : held ≡ waits kind' serial
  same : is_same_kind kind' kind ≡ true

waiting_is : (held : Held) (kind : Kind) → waits_for held kind ≡ true → Waiting held kind
waiting_is free kind e = cc
waiting_is rests kind e = cc
waiting_is (waits k r) kind e = record { kind' = k; serial = r; is = refl; same = e }

repeated_count : (t : Terms) (q : Sending) (l : ℕ) (k : Kind) (b : Bool) → part_of q.bytes ≡ request l k → is_repeated t (part_of q.bytes) q ≡ b → counts_new (t.seen (between q q.from q.to l)) q.bytes ≡ cond b 0 1
repeated_count t q l k b part e = ap (λ x. cond x 0 1) (sym (ap (λ p. is_repeated t p q) part) ∙ e)

-- a cause of the node's own states its rcode whatever was given before
decided_stated : (cause : Option Cause) (given rcode : ℕ) → may_ignore cause ≡ true → is_stated cause 0 rcode ≡ true → is_stated cause given rcode ≡ true
decided_stated None given rcode known e = refl
decided_stated (Some causes.Generation) given rcode known e = cc
decided_stated (Some causes.Label) given rcode known e = cc
decided_stated (Some causes.Again) given rcode known e = cc
decided_stated (Some causes.Grammar) given rcode known e = e
decided_stated (Some causes.Source) given rcode known e = e
decided_stated (Some causes.Login) given rcode known e = e
decided_stated (Some causes.Slot) given rcode known e = e

module _ (w : Wire) (h : Stands w) (s : ℕ) (q : Sending) (cause : Option Cause) (free_now : w.due ≡ None) (sent : (terms w.past).sent s ≡ Some q) (live : is_live ((terms w.past).flight s) ≡ true) (flies : (terms w.past).repeats ≡ false → is_flying s w.store.kept ≡ true) where
  abbrev pub B : Terms
  B = arrives s (terms w.past)

  abbrev store' : Stored
  store' = arrived (terms w.past).repeats s w.store

  o : On B store' w.layer w.bus w.ids None
  o = has_arrived w h s q free_now sent live flies

  still : is_live (B.flight s) ≡ true
  still = here w h s q free_now sent live flies

  abbrev pub F : Facts
  F = layers.facts_of (w.layer q.to) q.generation q.bytes

  -- the rows of the history
  pub is_now : F.is_current ≡ true → B.generation q.to ≡ q.generation
  is_now e =
      let c : nat_eq q.generation (w.layer q.to).generation ≡ true = sym (current_in (reading q.bytes)) ∙ e in
      let i : q.generation ≡ (w.layer q.to).generation = grind arith in
      sym (i ∙ (o.nodes q.to).generation)
    where
      current_in : (read : Result Packet PacketFault) → (facts_in (w.layer q.to) q.generation q.bytes read).is_current ≡ nat_eq q.generation (w.layer q.to).generation
      current_in (Err fault) = refl
      current_in (Ok p) = refl

  node_now : B.generation q.to ≡ q.generation → IsNode (B.ids q.generation) q.generation q.to B.held B.last B.seen B.given None (w.layer q.to)
  node_now e = subst (λ g. IsNode (B.ids g) g q.to B.held B.last B.seen B.given None (w.layer q.to)) e (o.nodes q.to)

  pub agree : B.generation q.to ≡ q.generation → F ≡ facts_of B q
  agree e = facts_agree B (w.layer q.to) q (node_now e) (o.facts.honest s q sent).source (o.facts.honest s q sent).label e refl

  row_now : (row : Row) → row_of F ≡ row → F.is_current ≡ true → Says row (facts_of B q)
  row_now row r e = subst (Says row) (agree (is_now e)) (row_says F row r)

  -- the filter has a place for the source
  room_now : (p : Packet) → reading q.bytes ≡ Ok p → B.generation q.to ≡ q.generation → (k : ℕ) × (place_for (header_in p).source (w.layer q.to).filter ≡ Some k)
  room_now p read now =
      let n = node_now now in
      let honest = o.facts.honest s q sent in
      let r = has_room source_of (B.ids q.generation) q.from (w.layer q.to).filter honest.from_small n.room in
      (r.0, ap (λ x. place_for x (w.layer q.to).filter) (honest.source p read) ∙ r.1)

  generation_case : (new : Node) → new ≡ w.layer q.to → On (noted (first_note of_generation cause s) (terms w.past)) store' (upd w.layer q.to new) w.bus w.ids None
  generation_case new same =
      subst (λ t. On t store' (upd w.layer q.to new) w.bus w.ids None) (sym (ap (λ so. ignores_that so causes.Generation s (terms w.past)) sent))
      (stays_on B store' w.layer w.bus w.ids o s q sent still new same)

  grammar_case : (new : Node) → new ≡ w.layer q.to → row_of F ≡ by_grammar → On (noted (first_note of_grammar cause s) (terms w.past)) store' (upd w.layer q.to new) w.bus w.ids None
  grammar_case new same r =
      let f = row_now by_grammar r (row_says F by_grammar r).0 in
      let is_wild : (b : Bool) → q.injected ≡ b → b ≡ true = wild_by f.1 in
      let none : begun_by q ≡ None = injected_begun q (is_wild q.injected refl) in
      subst (λ t. On t store' (upd w.layer q.to new) w.bus w.ids None)
      (sym (ap (λ so. ignores_that so causes.Grammar s (terms w.past)) sent ∙ ap (λ b. judges_if b (asked_by q) s q (is_news s B)) f.1))
      (news_on B store' w.layer w.bus w.ids o s q sent still none new same)
    where
      wild_by : is_to q.bytes (B.ids q.generation q.to) ≡ false → (b : Bool) → q.injected ≡ b → b ≡ true
      wild_by e true i = refl
      wild_by e false i = absurd (not_true e ((o.facts.honest s q sent).is_for i))

  label_case : (new : Node) → new ≡ w.layer q.to → row_of F ≡ by_label → On (noted (first_note of_label cause s) (terms w.past)) store' (upd w.layer q.to new) w.bus w.ids None
  label_case new same r =
      let f = row_now by_label r (row_says F by_label r).0.current in
      subst (λ t. On t store' (upd w.layer q.to new) w.bus w.ids None) (sym (ap (λ so. ignores_that so causes.Label s (terms w.past)) sent))
      (news_on B store' w.layer w.bus w.ids o s q sent still (none_begun q (none_response q f.1)) new same)

  response_case : (new : Node) (p : Packet) (label : LabelParts) (purpose : Option (Unit {0})) → Responds (w.layer q.to) new q.bytes F p → On (noted (first_note (of_response p label purpose) cause s) (terms w.past)) store' (upd w.layer q.to new) w.bus w.ids None
  response_case new p label purpose x =
      let now = is_now (row_says F by_response x.row).0.current in
      let f = row_now by_response x.row (row_says F by_response x.row).0.current in
      let r = response_is q.bytes f.1 in
      let u : Transaction = between q q.to q.from r.label in
      let waiting = waiting_is (B.held u) r.kind (sym (ap (λ part. is_awaited B part q) r.part) ∙ f.2) in
      let node = node_now now in
      let a = answering_read q.bytes p r.label r.kind x.read (sym (part_read q.bytes p x.read) ∙ r.part) in
      let from : (header_in p).source ≡ B.ids q.generation q.from = (o.facts.honest s q sent).source p x.read in
      let own : IsNode (B.ids q.generation) q.generation q.to (at B.held (transaction q.generation q.to q.from (header_in p).label) free) B.last B.seen B.given None new =
      node_frees node (o.facts.apart q.generation) new (header_in p).source q.from (header_in p).label x.kind states.Free free from refl x.frees in
      let own' : IsNode (B.ids (B.generation q.to)) (B.generation q.to) q.to (at B.held u free) B.last B.seen B.given None new =
      subst (λ g. IsNode (B.ids g) g q.to (at B.held u free) B.last B.seen B.given None new) (sym now)
      (subst (λ l. IsNode (B.ids q.generation) q.generation q.to (at B.held (transaction q.generation q.to q.from l) free) B.last B.seen B.given None new) a.label own) in
      let terms_are : noted (first_note (of_response p label purpose) cause s) (terms w.past) ≡ closed_at (news_at B (upd B.news s (B.news s + 1)) (upd B.served s (B.served s + 1))) u waiting.serial (rcode_of q.bytes) =
      ap (λ so. gets so s (terms w.past)) sent
      ∙ ap (λ part. gets_as part s q (is_served s (is_news s B))) r.part
      ∙ ap (λ held. closes held u r.kind (rcode_of q.bytes) (is_served s (is_news s B))) waiting.is
      ∙ ap (λ b. closes_if b waiting.serial u (rcode_of q.bytes) (is_served s (is_news s B))) waiting.same in
      subst (λ t. On t store' (upd w.layer q.to new) w.bus w.ids None) (sym terms_are)
      (closed_on B store' w.layer w.bus w.ids o s q sent still r.label r.kind waiting.kind' waiting.serial (rcode_of q.bytes) (upd B.news s (B.news s + 1)) (upd B.served s (B.served s + 1)) new refl (λ x d. ap (λ b. cond b (B.served s + 1) (B.served x)) d) r.part now waiting.is (λ x d. ap (λ b. cond b (B.news s + 1) (B.news x)) d) (λ n d. node_beside_held (o.nodes n) u free d) own')

  again_case : (new : Node) (p : Packet) (rcode : ℕ) → Requests (w.layer q.to) new q.bytes F p by_again → rcode ≡ rcode_in (judge_step (w.layer q.to).filter (header_in p).source q.bytes) → On (noted (first_note (of_again p rcode) cause s) (terms w.past)) store' (upd w.layer q.to new) w.bus w.ids (due_for (of_again p rcode) cause s q)
  again_case new p rcode x code =
      let now = is_now (row_says F by_again x.row_is).0.current in
      let f = row_now by_again x.row_is (row_says F by_again x.row_is).0.current in
      let r = request_is q.bytes p x.read f.1 in
      let v : Transaction = between q q.from q.to r.label in
      let place = room_now p x.read now in
      let zero = repeated_count B q r.label r.kind true r.part f.2 in
      let counted : B.news s ≡ B.news s + counts_new (B.seen v) q.bytes = omega (arith, zero) in
      subst (λ t. On t store' (upd w.layer q.to new) w.bus w.ids (due_for (of_again p rcode) cause s q))
      (sym (ap (λ so. ignores_that so causes.Again s (terms w.past)) sent ∙ ap (λ a. judges a (Some causes.Again) s q B) (request_asked q r.label r.kind r.part)))
      (judged_on B store' w.layer w.bus w.ids o s q sent still p r.label place.0 r.kind (Some causes.Again) B.news B.served (as_before rcode) new x.read r.part now counted (λ x d. refl) place.1 x.same
      (λ c e. subst (λ g. is_stated (Some causes.Again) g c ≡ true) (code ∙ before_is (o.facts.honest s q sent) (node_now now) p r.label r.kind x.read r.part f.2) e) (λ r d. refl) (λ e. (refl, refl)) (λ e. absurd (zero_one (sym zero ∙ e))))
    where
      zero_one : {n : ℕ} → 0 ≡ suc n → ⊥
      zero_one e = cc

      before_is : Honest B.ids B.generation B.injects q → IsNode (B.ids q.generation) q.generation q.to B.held B.last B.seen B.given None (w.layer q.to) → (p : Packet) (l : ℕ) (k : Kind) → reading q.bytes ≡ Ok p → part_of q.bytes ≡ request l k → is_repeated B (part_of q.bytes) q ≡ true → rcode_in (judge_step (w.layer q.to).filter (header_in p).source q.bytes) ≡ B.given (between q q.from q.to l)
      before_is honest node p l k read part again =
          let r = remembered_is B (w.layer q.to) q node honest.source honest.label p l k read part in
          let a : is_again (judge_step (w.layer q.to).filter (header_in p).source q.bytes) ≡ true =
          again_at (w.layer q.to).filter q.bytes (place_for (header_in p).source (w.layer q.to).filter)
          ∙ ap (λ (x : Remembered). is_write q.bytes && is_last x.last q.bytes) r
          ∙ sym (ap (λ x. is_repeated B x q) part) ∙ again in
          rcode_at (w.layer q.to).filter q.bytes (place_for (header_in p).source (w.layer q.to).filter) a ∙ ap (λ (x : Remembered). x.rcode) r

  -- a request that the node decides on, got or ignored
  request_on : may_ignore cause ≡ true → (new : Node) (p : Packet) (served : ℕ → ℕ) → ((r : ℕ) → nat_eq r s ≡ false → served r ≡ B.served r) → ((given rcode : ℕ) → is_stated cause given rcode ≡ true → rcode ≡ 0 → served s ≡ B.served s + 1) → Requests (w.layer q.to) new q.bytes F p by_request → (t : Terms) → ((v : Transaction) → asked_by q ≡ Some v → is_to q.bytes (B.ids q.generation q.to) ≡ true → t ≡ judged_at B s q v (Some (record { serial = s; cause = cause })) (upd B.news s (B.news s + 1)) served) → On t store' (upd w.layer q.to new) w.bus w.ids (due_for (of_request p) cause s q)
  request_on known new p served beyond serves x t is =
      let now = is_now (row_says F by_request x.row_is).0.current in
      let f = row_now by_request x.row_is (row_says F by_request x.row_is).0.current in
      let r = request_is q.bytes p x.read f.1 in
      let v : Transaction = between q q.from q.to r.label in
      let a = request_asked q r.label r.kind r.part in
      let place = room_now p x.read now in
      let one = repeated_count B q r.label r.kind false r.part f.2 in
      let here : upd B.news s (B.news s + 1) s ≡ B.news s + 1 = ap (λ b. cond b (B.news s + 1) (B.news s)) (nat_same s) in
      let counted : upd B.news s (B.news s + 1) s ≡ B.news s + counts_new (B.seen v) q.bytes = here ∙ ap (λ n. B.news s + n) (sym one) in
      subst (λ t. On t store' (upd w.layer q.to new) w.bus w.ids (due_for (of_request p) cause s q)) (sym (is v a f.0.for_node))
      (judged_on B store' w.layer w.bus w.ids o s q sent still p r.label place.0 r.kind cause (upd B.news s (B.news s + 1)) served (as_decided cause) new x.read r.part now counted (λ x d. ap (λ b. cond b (B.news s + 1) (B.news x)) d) place.1 x.same (λ c e. decided_stated cause (B.given v) c known e) beyond (λ e. absurd (zero_one (sym e ∙ one))) (λ e c st nil. serves (B.given v) c st nil))
    where
      zero_one : {n : ℕ} → 0 ≡ suc n → ⊥
      zero_one e = cc

-- a cause that states another rcode than 0
no_code : (rcode code : ℕ) → nat_eq rcode (suc code) ≡ true → rcode ≡ 0 → ⊥
no_code rcode code e nil = let i = nat_is rcode (suc code) e in absurd (omega (arith, i, nil))

-- the terms of a request that is taken, or ignored for a cause
gets_request : (t : Terms) (s : ℕ) (q : Sending) (v : Transaction) → asked_by q ≡ Some v → gets_as (part_of q.bytes) s q t ≡ judges (Some v) None s q t
gets_request t s q v a =
    let r = asked_is q v a in
    ap (λ part. gets_as part s q t) r.part ∙ ap (λ o. judges o None s q t) a

module _ (w : Wire) (h : Stands w) (s : ℕ) (q : Sending) (free_now : w.due ≡ None) (sent : (terms w.past).sent s ≡ Some q) (live : is_live ((terms w.past).flight s) ≡ true) (flies : (terms w.past).repeats ≡ false → is_flying s w.store.kept ≡ true) where
  abbrev C : Terms
  C = arrives s (terms w.past)

  request_case : (cause : Option Cause) → may_ignore cause ≡ true → (new : Node) (p : Packet) → Requests (w.layer q.to) new q.bytes (layers.facts_of (w.layer q.to) q.generation q.bytes) p by_request → On (noted (first_note (of_request p) cause s) (terms w.past)) (arrived (terms w.past).repeats s w.store) (upd w.layer q.to new) w.bus w.ids (due_for (of_request p) cause s q)
  request_case None known new p x =
      request_on w h s q None free_now sent live flies known new p (upd C.served s (C.served s + 1)) (λ r d. ap (λ b. cond b (C.served s + 1) (C.served r)) d) (λ g c st nil. ap (λ b. cond b (C.served s + 1) (C.served s)) (nat_same s)) x _ (λ v a f.
      ap (λ so. gets so s (terms w.past)) sent ∙ gets_request (is_served s (is_news s C)) s q v a)
  request_case (Some causes.Generation) known new p x = cc
  request_case (Some causes.Label) known new p x = cc
  request_case (Some causes.Again) known new p x = cc
  request_case (Some causes.Grammar) known new p x =
      request_on w h s q (Some causes.Grammar) free_now sent live flies known new p C.served (λ r d. refl) (λ g c st nil. absurd (no_code c 4 st nil)) x _ (λ v a f.
      ap (λ so. ignores_that so causes.Grammar s (terms w.past)) sent
      ∙ ap (λ b. judges_if b (asked_by q) s q (is_news s C)) f
      ∙ ap (λ o. judges o (Some causes.Grammar) s q (is_news s C)) a)
  request_case (Some causes.Source) known new p x =
      request_on w h s q (Some causes.Source) free_now sent live flies known new p C.served (λ r d. refl) (λ g c st nil. absurd (no_code c 6 st nil)) x _ (λ v a f.
      ap (λ so. ignores_that so causes.Source s (terms w.past)) sent ∙ ap (λ o. judges o (Some causes.Source) s q (is_news s C)) a)
  request_case (Some causes.Login) known new p x =
      request_on w h s q (Some causes.Login) free_now sent live flies known new p C.served (λ r d. refl) (λ g c st nil. absurd (no_code c 6 st nil)) x _ (λ v a f.
      ap (λ so. ignores_that so causes.Login s (terms w.past)) sent ∙ ap (λ o. judges o (Some causes.Login) s q (is_news s C)) a)
  request_case (Some causes.Slot) known new p x =
      request_on w h s q (Some causes.Slot) free_now sent live flies known new p (upd C.served s (C.served s + 1)) (λ r d. ap (λ b. cond b (C.served s + 1) (C.served r)) d) (λ g c st nil. ap (λ b. cond b (C.served s + 1) (C.served s)) (nat_same s)) x _ (λ v a f.
      ap (λ so. ignores_that so causes.Slot s (terms w.past)) sent ∙ ap (λ o. judges o (Some causes.Slot) s q (is_served s (is_news s C))) a)

  judged_case : (cause : Option Cause) → may_ignore cause ≡ true → (r : Finding (Unit {0}) × Node) → JudgedAs (w.layer q.to) q.bytes (layers.facts_of (w.layer q.to) q.generation q.bytes) r → Stands (judging r cause s q (record w { store = arrived (terms w.past).repeats s w.store }))
  judged_case cause known (of_generation, new) j = generation_case w h s q cause free_now sent live flies new j.0
  judged_case cause known (of_grammar, new) j = grammar_case w h s q cause free_now sent live flies new j.0 j.1
  judged_case cause known (of_label, new) j = label_case w h s q cause free_now sent live flies new j.0 j.1
  judged_case cause known (of_response p label purpose, new) j = response_case w h s q cause free_now sent live flies new p label purpose j
  judged_case cause known (of_again p rcode, new) j = again_case w h s q cause free_now sent live flies new p rcode j.0 j.1
  judged_case cause known (of_request p, new) j = request_case cause known new p j

  pub delivered_on : (cause : Option Cause) → may_ignore cause ≡ true → Stands (delivering s q cause w)
  delivered_on cause known =
      judged_case cause known (judging_step (w.layer q.to) q.generation q.bytes) (judged_step (w.layer q.to) q.generation q.bytes (h.nodes q.to).places)

pub move_deliver : (w : Wire) → Stands w → (kept : Kept) (cause : Option Cause) → MayDeliver w kept cause → Stands (moved (deliver kept cause) w)
move_deliver w h kept cause may =
    let k = found_kept h.follows kept.serial kept may.kept_is in
    let is : k.packet ≡ as_sending kept.sent = ap as_sending (sym k.is) in
    delivered_on w h kept.serial (as_sending kept.sent) may.free (k.sent ∙ ap Some is) k.live may.flies cause may.known
