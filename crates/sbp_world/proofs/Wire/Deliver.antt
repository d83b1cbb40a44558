-- A packet is delivered, once or once more, to a node: it is judged, and a request is answered.
use Rattle.sbp_world.proofs.Words.Std.{if◌then◌else◌, slice_index_or, sym, ◌∙◌, ap, subst, upd}
use Rattle.sbp_world.proofs.Words.Wire.{PacketFault, IsValid, LabelParts, Packet, header_in, reading, ReplyKind, Gives, response_to, Row, by_generation, by_grammar, by_label, by_response, by_again, by_request, row_of, Layer, Finding, of_generation, of_grammar, of_label, of_response, of_again, of_request, answering_step, closed_at, closed_by, closing_in, closing_step, facts_of, judged_by, judging_step, peer_at, peer_place, responded, PeerPlace, close_place, reply_kind, Kept, Sent, found_sent, is_flying, Stored, deliver_step, send_step, bare, bare_after, bare_finding, same, may_ignore, answer, answered, answering, arrived, deliver, judging, answer_to, Due, Node, Reply, Wire, as_sending, as_sent, due_for, first_note, is_reply, outgoing, Moment, said, Sending, part_of, Terms, noted, terms, Cause, Note, topology_at}
use Rattle.sbp_world.proofs.Words.World.{marked, posted, leaves, sent_to, WorldState, with_note, Knows, IsWireAt, StandsAt}
use Rattle.std.specs.Prelude.{◌≡◌, ◌≤◌, ◌<◌, ℕ, ◌+◌, not, nat_eq, Bool, true, false, cond, List, ◌∷◌, length, Option, Some, None, Result, Ok, Err, refl}
use Rattle.bus_transactions.proofs.Bares.{takes_steps}
use Rattle.bus_transactions.proofs.Facts.{none_begun, response_asked}
use Rattle.bus_transactions.proofs.Follows.{last_is}
use Rattle.bus_transactions.proofs.MoveAnswer as answers
use Rattle.bus_transactions.proofs.Reaches.{goes_on}
use Rattle.sbp_journal.specs.declared.cause.Cause.TheVariants as causes
use Rattle.sbp_world.proofs.Wire.Agrees.{Agrees, got_agrees, ignored_agrees, sent_knows, still_knows}
use Rattle.sbp_world.proofs.Wire.Asks.{own_layer, sent_past, sight_by, still_fair}
use Rattle.sbp_world.proofs.Wire.Bus.{holds, sent_ids}
use Rattle.sbp_world.proofs.Wire.Found.{IsKnown, id_known, node_found}
use Rattle.sbp_world.proofs.Wire.Latest.{other_knows}
use Rattle.sbp_world.proofs.Wire.Tells.{leads}
use Rattle.sbp_world.proofs.Wire.Entered.{Less, answers_less, entered_by, judges_less, less_entered}

-- ---- judging leaves a layer in its generation
module _ {P : Type 0} where
  closed_stays : (k : ℕ) (layer : Layer P) (r : Option (LabelParts × Option P) × PeerPlace P) → (closed_at k layer r).1.generation ≡ layer.generation
  closed_stays k layer (Some closed, place) = refl
  closed_stays k layer (None, place) = refl

  closing_stays : (k : Option ℕ) (layer : Layer P) (number : ℕ) (kind : ReplyKind) → (closing_in k layer number kind).1.generation ≡ layer.generation
  closing_stays None layer number kind = refl
  closing_stays (Some k) layer number kind = closed_stays k layer (close_place (peer_at layer k) number kind)

  closes_stay : (kind : Option ReplyKind) (layer : Layer P) (p : Packet) → (closed_by kind layer p).1.generation ≡ layer.generation
  unfolding closing_step
  closes_stay None layer p = refl
  closes_stay (Some kind) layer p = closing_stays (peer_place (header_in p).source layer) layer (header_in p).label kind

  responded_stays : (p : Packet) (r : Option (LabelParts × Option P) × Layer P) → (responded p r).1 ≡ r.1
  responded_stays p (Some (label, purpose), layer) = refl
  responded_stays p (None, layer) = refl

  judged_stays : (row : Row) (layer : Layer P) (bytes : List ℕ) (read : Result Packet PacketFault) → (judged_by row layer bytes read).1.generation ≡ layer.generation
  judged_stays by_generation layer bytes read = refl
  judged_stays by_grammar layer bytes read = refl
  judged_stays by_label layer bytes read = refl
  judged_stays by_response layer bytes (Ok p) =
      ap (λ (l : Layer P). l.generation) (responded_stays p (closed_by (reply_kind p) layer p)) ∙ closes_stay (reply_kind p) layer p
  judged_stays by_again layer bytes (Ok p) = refl
  judged_stays by_request layer bytes (Ok p) = refl
  judged_stays by_response layer bytes (Err fault) = refl
  judged_stays by_again layer bytes (Err fault) = refl
  judged_stays by_request layer bytes (Err fault) = refl

  pub judging_stays : (layer : Layer P) (generation : ℕ) (bytes : List ℕ) → (judging_step layer generation bytes).1.generation ≡ layer.generation
  unfolding judging_step
  judging_stays layer generation bytes = judged_stays (row_of (facts_of layer generation bytes)) layer bytes (reading bytes)

-- ---- the first note
decided_agrees : (cause : Option Cause) (s : ℕ) (t : Terms) (p : Packet) → Agrees t (noted (first_note (of_request p) cause s) t)
decided_agrees None s t p = got_agrees (t.sent s) s t
decided_agrees (Some cause) s t p = ignored_agrees (t.sent s) cause s t

first_agrees : (f : Finding (Unit {0})) (cause : Option Cause) (s : ℕ) (t : Terms) → Agrees t (noted (first_note f cause s) t)
first_agrees of_generation cause s t = ignored_agrees (t.sent s) causes.Generation s t
first_agrees of_grammar cause s t = ignored_agrees (t.sent s) causes.Grammar s t
first_agrees of_label cause s t = ignored_agrees (t.sent s) causes.Label s t
first_agrees (of_response p label purpose) cause s t = got_agrees (t.sent s) s t
first_agrees (of_again p rcode) cause s t = ignored_agrees (t.sent s) causes.Again s t
first_agrees (of_request p) cause s t = decided_agrees cause s t p

-- ---- a packet is judged
module _ {P : Type 0} {past : List Moment} {layers : ℕ → Node} (w : WorldState) (h : StandsAt past layers None w) (serial : ℕ) (sent : Sent) (there : sent.to ≤ length w.initiators) (layer : Layer P) (own : layers sent.to ≡ bare layer) where
  abbrev found_now : Finding P × Layer P
  found_now = judging_step layer sent.generation sent.bytes

  abbrev note_now : Option Cause → Note
  note_now cause = first_note (bare_finding found_now.0) cause serial

  abbrev due_now : Option Cause → Option Due
  due_now cause = due_for (bare_finding found_now.0) cause serial (as_sending sent)

  judged_in : (cause : Option Cause) → may_ignore cause ≡ true → found_sent serial w.store.kept ≡ Some sent → ((terms h.wire.past).repeats ≡ false → is_flying serial w.store.kept ≡ true) → (store : Stored) → arrived (terms h.wire.past).repeats serial h.wire.store ≡ store → StandsAt past (upd layers sent.to (bare found_now.1)) (due_now cause) (with_note (note_now cause) (record w { store = store }))
  judged_in cause may found flies store s =
      let wire = h.wire in
      let now = with_note (note_now cause) (record w { store = store }) in
      let kept : Kept = record { serial = serial; in_flight = is_flying serial wire.store.kept; sent = sent } in
      let step : judging_step (wire.layer sent.to) sent.generation sent.bytes ≡ bare_after bare_finding found_now =
      ap (λ (l : Node). judging_step l sent.generation sent.bytes) (own_layer w h sent.to there layer own)
      ∙ (takes_steps P).judges layer sent.generation sent.bytes in
      let agrees = first_agrees (bare_finding found_now.0) cause serial (terms wire.past) in
      let arrived_wire : Wire = record wire { store = arrived (terms wire.past).repeats serial wire.store } in
      leads w now h (deliver kept cause) (record {
        free = h.is.due_is;
        kept_is = goes_on.finds wire serial sent h.reached (ap (λ (st : Stored). found_sent serial st.kept) h.is.store_is ∙ found);
        flies = λ r. ap (λ (st : Stored). is_flying serial st.kept) h.is.store_is ∙ flies r;
        known = may;
      })
      (subst (λ (r : Finding (Unit {0}) × Node). IsWireAt past (upd layers sent.to (bare found_now.1)) (due_now cause) now (judging r cause serial (as_sending sent) arrived_wire)) (sym step) (record {
        store_is = s;
        bus_is = h.is.bus_is;
        ids_are = h.is.ids_are;
        layers_are = λ n l. ap (λ (x : Node). cond (nat_eq n sent.to) (bare found_now.1) x) (h.is.layers_are n l);
        due_is = refl;
        past_is = ap (λ ms. said (note_now cause) ∷ ms) h.is.past_is;
        few = h.is.few;
        seen = h.is.seen;
        size = h.is.size;
        sizes = h.is.sizes;
        sights = λ n l. sight_by w h sent.to there layer own found_now.1 n (nat_eq n sent.to) refl (judging_stays layer sent.generation sent.bytes) ∙ h.is.sights n l;
        known_ids = λ n peer l m. ap (λ (ids : ℕ → ℕ → ℕ). ids (topology_at w.generations n).generation peer) agrees.ids ∙ h.is.known_ids n peer l m;
        knows = still_knows agrees h.is.knows;
        entered = entered_by (sym agrees.ids) (less_entered wire.layer sent.to (bare found_now.1) (subst (λ (r : Finding (Unit {0}) × Node). Less (wire.layer sent.to) r.1) step (judges_less (wire.layer sent.to) sent.generation sent.bytes ((holds wire h.reached).nodes sent.to).places)) h.is.entered);
        fair = ap (λ (f : ℕ → Bool). f 0) agrees.injects ∙ h.is.fair;
      }))

  pub judged_marked : (cause : Option Cause) → may_ignore cause ≡ true → found_sent serial w.store.kept ≡ Some sent → (again : Bool) → (terms h.wire.past).repeats ≡ again → (again ≡ false → is_flying serial w.store.kept ≡ true) → StandsAt past (upd layers sent.to (bare found_now.1)) (due_now cause) (with_note (note_now cause) (marked serial again w))
  judged_marked cause may found true r flies =
      judged_in cause may found (λ x. flies (sym r ∙ x)) w.store (ap (λ b. arrived b serial h.wire.store) r ∙ h.is.store_is)
  judged_marked cause may found false r flies =
      subst (λ b. StandsAt past (upd layers sent.to (bare found_now.1)) (due_now cause) (with_note (note_now cause) (if not b then w else record w { store = deliver_step w.store serial }))) (sym (flies refl))
      (judged_in cause may found (λ x. flies refl) (deliver_step w.store serial) (ap (λ b. arrived b serial h.wire.store) r ∙ ap (λ (st : Stored). deliver_step st serial) h.is.store_is))

-- ---- a request is answered
module _ {P : Type 0} {past : List Moment} {layers : ℕ → Node} (w : WorldState) (serial : ℕ) (sent : Sent) (p : Packet) (reply : Reply) (h : StandsAt past layers (Some (record { serial = serial; request = as_sending sent; packet = p; reply = reply })) w) (there : sent.to ≤ length w.initiators) (layer : Layer P) (own : layers sent.to ≡ bare layer) (rcode : ℕ) (given : List ℕ) where
  abbrev due_of : Due
  due_of = record { serial = serial; request = as_sending sent; packet = p; reply = reply }

  abbrev answer_now : List ℕ × Layer P
  answer_now = answering_step layer p sent.bytes rcode given

  answer_stays : answer_now.1.generation ≡ layer.generation
  unfolding answering_step
  answer_stays = refl

  answer_is : answering_step (h.wire.layer sent.to) p sent.bytes rcode given ≡ bare_after same answer_now
  answer_is = ap (λ (l : Node). answering_step l p sent.bytes rcode given) (own_layer w h sent.to there layer own) ∙ (takes_steps P).answers layer p sent.bytes rcode given

  module _ (valid : IsValid (response_to layer.node p rcode given)) (small : (n : ℕ) → slice_index_or answer_now.0 n 0 < 256) where
    valid_wire : IsValid (response_to (h.wire.layer sent.to).node p rcode given)
    valid_wire = subst (λ (l : Node). IsValid (response_to l.node p rcode given)) (sym (own_layer w h sent.to there layer own)) valid

    from_there : sent.from ≤ length w.initiators
    from_there = (h.is.knows.ours serial (as_sending sent) (answers.due h.wire (holds h.wire h.reached) due_of rcode given h.is.due_is valid_wire).sent_is).from

    source_known : IsKnown w sent.to (header_in p).source
    source_known = record {
      node = sent.from;
      there = from_there;
      id_is = sym (id_known w h sent.to there sent.from from_there)
          ∙ ap (λ g. (terms h.wire.past).ids g sent.from) (answers.generation_is h.wire (holds h.wire h.reached) due_of rcode given h.is.due_is valid_wire)
          ∙ sym (answers.from_is h.wire (holds h.wire h.reached) due_of rcode given h.is.due_is valid_wire);
    }

    answer_knows : Knows w.requests (length w.initiators) (terms (sent_past sent.to sent.from answer_now.0 h.wire.store (h.wire.layer sent.to).generation h.wire.past))
    unfolding answering_step
    answer_knows =
        let wire = h.wire in
        let t : Terms = terms wire.past in
        let all = holds wire h.reached in
        let s = wire.store.last + 1 in
        let q : Sending = record { generation = (wire.layer sent.to).generation; from = sent.to; to = sent.from; bytes = answer_now.0; injected = t.injected s } in
        let due = answers.due wire all due_of rcode given h.is.due_is valid_wire in
        let part = ap part_of (sym (ap (λ (r : List ℕ × Node). r.0) answer_is)) ∙ answers.part_is wire all due_of rcode given h.is.due_is valid_wire in
        sent_knows s q t None (none_begun q (response_asked q due.label due.kind part)) (ap (λ x. x + 1) (last_is all.follows)) (other_knows h.is.knows q (record { from = there; to = from_there; bytes = small }))

    answers_in : is_reply reply rcode ≡ true → Gives p rcode given → StandsAt past (upd layers sent.to (bare answer_now.1)) None (posted sent.to sent.from false answer_now.0 w)
    unfolding posted
    answers_in stated gives =
        let wire = h.wire in
        let g = h.is.sights sent.to there in
        let now = posted sent.to sent.from false answer_now.0 w in
        leads w now h (answer rcode given) (record { due = due_of; owed = h.is.due_is; stated = stated; gives = gives; valid = valid_wire })
        (subst (λ o. IsWireAt past (upd layers sent.to (bare answer_now.1)) None now (answering o rcode given wire)) (sym h.is.due_is)
        (subst (λ (r : List ℕ × Node). IsWireAt past (upd layers sent.to (bare answer_now.1)) None now (answered r due_of wire)) (sym answer_is) (record {
          store_is = ap (λ (st : Stored). send_step st (as_sent (outgoing wire sent.to sent.from answer_now.0 false))) h.is.store_is
              ∙ ap (λ x. send_step w.store (record { generation = x; from = sent.to; to = sent.from; bytes = answer_now.0; injected = false })) g;
          bus_is = h.is.bus_is;
          ids_are = h.is.ids_are;
          layers_are = λ n l. ap (λ (x : Node). cond (nat_eq n sent.to) (bare answer_now.1) x) (h.is.layers_are n l);
          due_is = refl;
          past_is = ap (λ (st : Stored). sent_past sent.to sent.from answer_now.0 st (wire.layer sent.to).generation wire.past) h.is.store_is
              ∙ ap (λ x. sent_past sent.to sent.from answer_now.0 w.store x wire.past) g
              ∙ ap (λ ms. sent_past sent.to sent.from answer_now.0 w.store (topology_at w.generations sent.to).generation ms) h.is.past_is;
          few = h.is.few;
          seen = h.is.seen;
          size = h.is.size;
          sizes = h.is.sizes;
          sights = λ n l. sight_by w h sent.to there layer own answer_now.1 n (nat_eq n sent.to) refl answer_stays ∙ h.is.sights n l;
          known_ids = λ n peer l m.
              ap (λ (ids : ℕ → ℕ → ℕ). ids (topology_at w.generations n).generation peer)
              (sent_ids (wire.store.last + 1) (wire.layer sent.to).generation sent.to sent.from answer_now.0 (terms wire.past))
              ∙ h.is.known_ids n peer l m;
          knows = answer_knows;
          entered = entered_by (sym (sent_ids (wire.store.last + 1) (wire.layer sent.to).generation sent.to sent.from answer_now.0 (terms wire.past)))
              (less_entered wire.layer sent.to (bare answer_now.1) (subst (λ (r : List ℕ × Node). Less (wire.layer sent.to) r.1) answer_is (answers_less (wire.layer sent.to) p sent.bytes rcode given)) h.is.entered);
          fair = still_fair wire h.reached sent.to sent.from answer_now.0 h.is.fair;
        })))

    pub answers_one : is_reply reply rcode ≡ true → Gives p rcode given → StandsAt past (upd layers sent.to (bare answer_now.1)) None (leaves sent.to (answer_to p answer_now.0) w)
    unfolding leaves source_known
    answers_one stated gives =
        subst (λ o. StandsAt past (upd layers sent.to (bare answer_now.1)) None (sent_to o sent.to (answer_to p answer_now.0) w)) (sym (node_found w h sent.to there (header_in p).source source_known)) (answers_in stated gives)
