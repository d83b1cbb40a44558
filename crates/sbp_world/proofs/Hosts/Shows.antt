-- The labels of the initiators of a world, by its history: as a world stands, as a packet is judged, and as a transaction times out.
use Rattle.sbp_world.proofs.Words.Std.{arith, ◌≡◌, refl, sym, ◌∙◌, ap, subst, ℕ, suc, ◌<◌, ◌≤◌, ◌==◌, nat_eq, not, Bool, true, false, cond, ◌||◌, List, ◌∷◌, length, map, Option, Some, None, Result, Ok, Err, nat_tests, get_or-map, upd}
use Rattle.sbp_world.proofs.Words.Wire.{LabelParts, bare, bare_after, bare_finding, bare_place, bare_purpose, bare_result, may_ignore, expire, expiring, moved, IsAwaited, IsOf, awaits, shape, shape_of, Due, Node, Wire, as_sending, first_note, id_for, transaction, ReplyKind, Stale, Finding, Layer, expiring_step, judging_step, of_again, of_generation, of_grammar, of_label, of_request, of_response, is_owned_by, or_else, owned_place, shown_in, PeerPlace, no_peer, peer_of, state_for, place_at, Sent, found_sent, is_flying, deliver_step, Request, id_of, topology_at, judged_note, find, empty_outbox, Moment, said, Kind, Sending, Transaction, Held, Terms, free, rests, terms, waits, Cause, Judged, is_to}
use Rattle.sbp_world.proofs.Words.Target.{expired}
use Rattle.sbp_world.proofs.Words.Initiator.{expire_step, receive_step, received, Purpose, InitiatorState}
use Rattle.sbp_world.proofs.Words.World.{marked, target_left, WorldState, initiator_at, with_note, Stands, StandsAt, layer_in, layers_of, history}
use Rattle.std.proofs.Common.{is_ok, position, slice_index_or}
use Rattle.bus_transactions.proofs.Bares.{takes_steps}
use Rattle.bus_transactions.proofs.Reaches.{goes_on}
use Rattle.bus_transactions.proofs.Rooms.{position_map}
use Rattle.bus_transactions.proofs.Stands.{Stands as Holds}
use Rattle.bus_transactions.proofs.Steps.{ExpiredAs, expires}
use Rattle.label_table.specs.declared.place.LabelState.TheVariants as states
use Rattle.sbp_journal.specs.declared.cause.Cause.TheVariants as causes
use Rattle.sbp_journal.specs.declared.cause.Judged.TheVariants as judgements
use Rattle.sbp_journal.specs.declared.note.Note.TheVariants as notes
use Rattle.sbp_target.specs.Nodes as target
use Rattle.sbp_world.proofs.Wire.Agrees.{ignored_agrees, timed_agrees}
use Rattle.sbp_world.proofs.Wire.Asks.{own_layer}
use Rattle.sbp_world.proofs.Wire.Bus.{holds}
use Rattle.sbp_world.proofs.Wire.Deliver.{judged_marked}
use Rattle.sbp_world.proofs.Wire.Expires.{Aims, latest}
use Rattle.sbp_world.proofs.Wire.Found.{id_known}
use Rattle.sbp_world.proofs.Wire.Handles.{expired_generation}
use Rattle.sbp_world.proofs.Wire.Holding.{NodesOf, to_target}
use Rattle.sbp_world.proofs.Wire.UnderWay.{layer_ok, own_ok, target_ok}
use Rattle.sbp_world.proofs.Hosts.Held.{begun_from, ignored_quiet, timed_generation}
use Rattle.sbp_world.proofs.Hosts.Knows.{was_sent}
use Rattle.sbp_world.proofs.Hosts.Shown.{IsHeard, IsShown, NotFrom, NotTo}
use Rattle.sbp_world.proofs.Agents.Purposes.{peer_bare}

-- ---- a layer without what its transactions are for has the same labels

module _ {P : Type 0} where
  owned_bare : (s : ℕ) (peers : List (PeerPlace P)) → owned_place peer_of s (map bare_place peers) ≡ owned_place peer_of s peers
  unfolding owned_place
  owned_bare s peers =
      ap (λ o. or_else o (position (is_owned_by peer_of None) (map bare_place peers))) (position_map (is_owned_by peer_of (Some s)) bare_place peers)
      ∙ ap (or_else (position (is_owned_by peer_of (Some s)) peers)) (position_map (is_owned_by peer_of None) bare_place peers)

  state_in : (found : Option ℕ) (peers : List (PeerPlace P)) (number : ℕ) → shown_in (λ (place : PeerPlace (Unit {0})). (place_at place.table number).state) no_peer states.Free found (map bare_place peers) ≡ shown_in (λ (place : PeerPlace P). (place_at place.table number).state) no_peer states.Free found peers
  state_in None peers number = refl
  state_in (Some k) peers number =
      ap (λ (place : PeerPlace (Unit {0})). (place_at place.table number).state) (ap (slice_index_or (map bare_place peers) k) (sym (peer_bare P)) ∙ get_or-map bare_place peers k no_peer)

  pub state_bare : (layer : Layer P) (peer number : ℕ) → state_for (bare layer).peers peer number ≡ state_for layer.peers peer number
  state_bare layer peer number =
      ap (λ found. shown_in (λ (place : PeerPlace (Unit {0})). (place_at place.table number).state) no_peer states.Free found (map bare_place layer.peers)) (owned_bare peer layer.peers)
      ∙ state_in (owned_place peer_of peer layer.peers) layer.peers number

-- ---- by what holds of a wire

pub shown_by : (wire : Wire) → Holds wire → (i : ℕ) (layer : Layer Purpose) → wire.layer (suc i) ≡ bare layer → (past : List Moment) → wire.past ≡ past → (target : ℕ) → id_for wire (suc i) 0 ≡ target → IsShown past i target layer
shown_by wire h i layer own past is target id =
    let node = h.nodes (suc i) in
    let t : Terms = terms wire.past in
    let g : t.generation (suc i) ≡ layer.generation = sym node.generation ∙ ap (λ (l : Node). l.generation) own in
    let row : t.ids (t.generation (suc i)) 0 ≡ target = ap (λ x. t.ids x 0) (sym node.generation) ∙ id in
    subst (λ ms. IsShown ms i target layer) is (record {
      generation = sym g;
      named = ap (λ x. t.ids x 0) (sym g) ∙ row;
      own = ap (λ x. t.ids x (suc i)) (sym g) ∙ (sym node.id ∙ ap (λ (l : Node). l.node) own);
      states = λ number.
          ap shape (sym (state_bare layer target number))
          ∙ ap (λ (l : Node). shape (state_for l.peers target number)) (sym own)
          ∙ ap (λ p. shape (state_for (wire.layer (suc i)).peers p number)) (sym row)
          ∙ node.states_are 0 number
          ∙ ap (λ x. shape_of (t.held (transaction x (suc i) 0 number))) g;
    })

pub shown_at : {past : List Moment} {layers : ℕ → Node} {due : Option Due} (w : WorldState) (h : StandsAt past layers due w) (i : ℕ) → suc i ≤ length w.initiators → (layer : Layer Purpose) → layers (suc i) ≡ bare layer → (target : ℕ) → id_of (topology_at w.generations (suc i)) 0 ≡ target → IsShown (history w past) i target layer
shown_at {past} w h i there layer own target id =
    shown_by h.wire (holds h.wire h.reached) i layer (h.is.layers_are (suc i) there ∙ own) (history w past) h.is.past_is target
    (ap (λ g. (terms h.wire.past).ids g 0) (h.is.sights (suc i) there) ∙ h.is.known_ids (suc i) 0 there (omega arith) ∙ id)

-- as it stands
pub shown_now : {past : List Moment} {lines : ℕ} (w : WorldState) → Stands past w → NodesOf w lines → (i : ℕ) → i < length w.initiators → IsShown (history w past) i (initiator_at w i).target (initiator_at w i).layer
shown_now w h n i inside =
    shown_at w h i (omega arith) (initiator_at w i).layer refl (initiator_at w i).target (to_target w.generations.seen i (initiator_at w i).target (n.own.holds i inside).fits.target_known)

-- ---- a packet is judged

-- what is known of a packet that arrives: where it goes; and, of the initiator that hears it, what its labels are then
pub record Arriving (past : List Moment) (serial : ℕ) (sent : Sent) (w : WorldState) : Type 0 where
  pub away : (i : ℕ) → (sent.to == suc i) ≡ false → NotTo (history w past) i serial
  pub heard : (i : ℕ) → sent.to ≡ suc i → IsHeard (history w past) i serial sent.generation sent.bytes
  pub now : (i : ℕ) → i < length w.initiators → IsShown (history w past) i (initiator_at w i).target (initiator_at w i).layer
  pub shown : (i : ℕ) → sent.to ≡ suc i → i < length w.initiators → IsShown (said (judged_note serial (receive_step sent.generation sent.bytes empty_outbox (initiator_at w i)).0) ∷ history w past) i (initiator_at w i).target (judging_step (initiator_at w i).layer sent.generation sent.bytes).1

-- the same labels
shown_same : (past now : List Moment) (i target : ℕ) (layer : Layer Purpose) → (terms now).held ≡ (terms past).held → (terms now).generation ≡ (terms past).generation → (terms now).ids ≡ (terms past).ids → IsShown past i target layer → IsShown now i target layer
shown_same past now i target layer held generation ids h = record {
  generation = h.generation ∙ ap (λ (g : ℕ → ℕ). g (suc i)) (sym generation);
  named = ap (λ (f : ℕ → ℕ → ℕ). f layer.generation 0) ids ∙ h.named;
  own = ap (λ (f : ℕ → ℕ → ℕ). f layer.generation (suc i)) ids ∙ h.own;
  states = λ number. h.states number ∙ ap (λ (x : Transaction → Held). shape_of (x (transaction layer.generation (suc i) 0 number))) (sym held);
}

-- whatever the cause for which the packet is ignored
ignored_same : (past : List Moment) (serial i target : ℕ) (layer : Layer Purpose) (cause other : Cause) → IsShown (said (notes.Ignored serial other) ∷ past) i target layer → IsShown (said (notes.Ignored serial cause) ∷ past) i target layer
ignored_same past serial i target layer cause other h =
    let t : Terms = terms past in
    let a = ignored_quiet (t.sent serial) cause serial t in
    let b = ignored_quiet (t.sent serial) other serial t in
    shown_same (said (notes.Ignored serial other) ∷ past) (said (notes.Ignored serial cause) ∷ past) i target layer (a.held ∙ sym b.held) (a.generation ∙ sym b.generation) ((ignored_agrees (t.sent serial) cause serial t).ids ∙ sym (ignored_agrees (t.sent serial) other serial t).ids) h

module _ (past : List Moment) (serial i target : ℕ) (bytes : List ℕ) (s : InitiatorState) where
  abbrev ByCause : Finding Purpose × Layer Purpose → Type 0
  ByCause x = (cause : Option Cause) → may_ignore cause ≡ true → IsShown (said (first_note (bare_finding x.0) cause serial) ∷ past) i target x.1

  by_judged : (judged : Judged) (layer : Layer Purpose) → IsShown (said (notes.Got serial) ∷ past) i target layer → IsShown (said (notes.Ignored serial causes.Slot) ∷ past) i target layer → IsShown (said (judged_note serial judged) ∷ past) i target layer
  by_judged judgements.Got layer got ignored = got
  by_judged (judgements.Ignored cause) layer got ignored = ignored_same past serial i target layer cause causes.Slot ignored

  by_finding : (x : Finding Purpose × Layer Purpose) → ByCause x → IsShown (said (judged_note serial (received x bytes empty_outbox s).0) ∷ past) i target x.1
  by_finding (of_generation, layer) h = h None refl
  by_finding (of_grammar, layer) h = h None refl
  by_finding (of_label, layer) h = h None refl
  by_finding (of_response p label purpose, layer) h = h None refl
  by_finding (of_again p rcode, layer) h = h None refl
  by_finding (of_request p, layer) h = by_judged (received (of_request p, layer) bytes empty_outbox s).0 layer (h None refl) (h (Some causes.Slot) refl)

same_history : (past : List Moment) (serial : ℕ) (again b : Bool) (w : WorldState) → history (cond b w (record w { store = deliver_step w.store serial })) past ≡ history w past
same_history past serial again true w = refl
same_history past serial again false w = refl

same_topology : (serial node : ℕ) (b : Bool) (w : WorldState) → id_of (topology_at (cond b w (record w { store = deliver_step w.store serial })).generations node) 0 ≡ id_of (topology_at w.generations node) 0
same_topology serial node true w = refl
same_topology serial node false w = refl

same_count : (serial : ℕ) (b : Bool) (w : WorldState) → length (cond b w (record w { store = deliver_step w.store serial })).initiators ≡ length w.initiators
same_count serial true w = refl
same_count serial false w = refl

upd_here : (f : ℕ → Node) (k n : ℕ) (x : Node) → n ≡ k → upd f k x n ≡ x
upd_here f k n x e = ap (λ b. cond b x (f n)) (let g : nat_eq n k ≡ true = grind (arith, nat_tests) in g)

module _ {past : List Moment} {lines : ℕ} (w : WorldState) (h : Stands past w) (nodes : NodesOf w lines) (serial : ℕ) (again : Bool) (repeats : (terms h.wire.past).repeats ≡ again) (flies : again ≡ false → is_flying serial w.store.kept ≡ true) (sent : Sent) (found : found_sent serial w.store.kept ≡ Some sent) where
  judged_shown : (i : ℕ) → sent.to ≡ suc i → i < length w.initiators → ByCause (history w past) serial i (initiator_at w i).target sent.bytes (initiator_at w i) (judging_step (initiator_at w i).layer sent.generation sent.bytes)
  judged_shown i to_is inside cause may =
      let s = initiator_at w i in
      let x = judging_step s.layer sent.generation sent.bytes in
      let there : sent.to ≤ length w.initiators = omega arith in
      let own : layers_of w sent.to ≡ bare s.layer = ap (λ n. layer_in w.target.layer w.initiators n) to_is in
      let stands = judged_marked w h serial sent there s.layer own cause may found again repeats flies in
      let b = again || not (is_flying serial w.store.kept) in
      let v = with_note (first_note (bare_finding x.0) cause serial) (marked serial again w) in
      let size : length v.initiators ≡ length w.initiators = same_count serial b w in
      let target_is : id_of (topology_at v.generations (suc i)) 0 ≡ s.target = same_topology serial (suc i) b w ∙ to_target w.generations.seen i s.target (nodes.own.holds i inside).fits.target_known in
      subst (λ ms. IsShown (said (first_note (bare_finding x.0) cause serial) ∷ ms) i s.target x.1) (same_history past serial again b w)
      (shown_at v stands i (omega arith) x.1 (upd_here (layers_of w) sent.to (suc i) (bare x.1) (sym to_is)) s.target target_is)

  arriving_shown : (i : ℕ) → sent.to ≡ suc i → i < length w.initiators → IsShown (said (judged_note serial (receive_step sent.generation sent.bytes empty_outbox (initiator_at w i)).0) ∷ history w past) i (initiator_at w i).target (judging_step (initiator_at w i).layer sent.generation sent.bytes).1
  unfolding receive_step
  arriving_shown i to_is inside =
      let s = initiator_at w i in
      by_finding (history w past) serial i s.target sent.bytes s (judging_step s.layer sent.generation sent.bytes) (judged_shown i to_is inside)

  packet_is : (packet : Sending) → (terms (history w past)).sent serial ≡ Some packet → packet ≡ as_sending sent
  packet_is packet e = let f = sym e ∙ was_sent w h serial sent found in cc

  of_packet : IsOf (terms (history w past)) (as_sending sent)
  of_packet = subst (λ ms. IsOf (terms ms) (as_sending sent)) h.is.past_is (goes_on.packets h.wire serial (as_sending sent) h.reached (ap (λ ms. (terms ms).sent serial) h.is.past_is ∙ was_sent w h serial sent found))

  apart_there : (generation one other : ℕ) → (terms (history w past)).ids generation one ≡ (terms (history w past)).ids generation other → one ≡ other
  apart_there generation one other e =
      goes_on.apart h.wire generation one other h.reached (ap (λ ms. (terms ms).ids generation one) h.is.past_is ∙ e ∙ sym (ap (λ ms. (terms ms).ids generation other) h.is.past_is))

  goes_there : (as_sending sent).injected ≡ false → is_to sent.bytes ((terms (history w past)).ids sent.generation sent.to) ≡ true
  goes_there unforged =
      subst (λ ms. is_to sent.bytes ((terms ms).ids sent.generation sent.to) ≡ true) h.is.past_is
      (((holds h.wire h.reached).facts.honest serial (as_sending sent) (ap (λ ms. (terms ms).sent serial) h.is.past_is ∙ was_sent w h serial sent found)).is_for unforged)

  pub arriving : Arriving past serial sent w
  arriving = record {
    away = λ i e packet f. ap (λ (q : Sending). nat_eq q.to (suc i)) (packet_is packet f) ∙ e;
    heard = λ i e. record { packet = as_sending sent; sent = was_sent w h serial sent found; generation_is = refl; bytes_are = refl; to_is = e; source = of_packet.source; goes = goes_there; apart = apart_there };
    now = λ i inside. shown_now w h nodes i inside;
    shown = arriving_shown;
  }

-- ---- a transaction times out

-- what is known of a request that may time out: which node sent it, and what the labels of its initiator are then
pub record Lapsing (past : List Moment) (serial : ℕ) (request : Request) (w : WorldState) : Type 0 where
  pub target_away : request.node ≡ 0 → (target_left (expired request.peer request.label (target.scene w.target empty_outbox)) w.target).0 ≡ true → (i : ℕ) → NotFrom (history w past) i serial
  pub own_away : (i : ℕ) → request.node ≡ suc i → i < length w.initiators → (expire_step request.label empty_outbox (initiator_at w i)).0 ≡ true → (j : ℕ) → (j == i) ≡ false → NotFrom (history w past) j serial
  pub shown : (i : ℕ) → request.node ≡ suc i → i < length w.initiators → (expire_step request.label empty_outbox (initiator_at w i)).0 ≡ true → IsShown (said (notes.TimedOut serial) ∷ history w past) i (initiator_at w i).target (expiring_step (initiator_at w i).layer (initiator_at w i).target request.label).1

-- a label that waits
record Waits (held : Held) : Type 0 where
  kind : Kind
  serial : ℕ
  is : held ≡ waits kind serial

held_waits : (held : Held) (kind : ReplyKind) → awaits kind ≡ shape_of held → Waits held
held_waits free kind e = cc
held_waits rests kind e = cc
held_waits (waits k s) kind e = record { kind = k; serial = s; is = refl }

abbrev IsWaiting : Node → ℕ → LabelParts → Type 0
IsWaiting layer peer label = (kind : ReplyKind) × ((serial : ℕ) × (state_for layer.peers peer label.number ≡ states.UnderWay kind serial))

state_by : (layer : Node) (peer : ℕ) (label : LabelParts) (r : Result (Option (Unit {0})) Stale × Node) → ExpiredAs layer peer label r → is_ok r.0 ≡ true → IsWaiting layer peer label
state_by layer peer label (Ok purpose, new) x e = (x.kind, (x.frees.serial, x.frees.was))
state_by layer peer label (Err stale, new) x e = cc

now_is : (layer : Node) (peer : ℕ) (label : LabelParts) (r : Result (Option (Unit {0})) Stale × Node) → is_ok r.0 ≡ true → expiring_step layer peer label ≡ r → ((purpose : Option (Unit {0})) (new : Node) → expiring_step layer peer label ≡ (Ok purpose, new) → label.generation ≡ layer.generation) → label.generation ≡ layer.generation
now_is layer peer label (Ok purpose, new) o e f = f purpose new e
now_is layer peer label (Err stale, new) o e f = cc

module _ {P : Type 0} {past : List Moment} (w : WorldState) (h : Stands past w) (serial : ℕ) (request : Request) (found : find w.requests serial ≡ Some request) (there : request.node ≤ length w.initiators) (layer : Layer P) (own : layers_of w request.node ≡ bare layer) (id : ℕ) (aims : Aims w h serial request found there layer own id) (ok : is_ok (expiring_step layer id request.label).0 ≡ true) where
  abbrev wire_layer : Node
  wire_layer = h.wire.layer request.node

  wire_ok : is_ok (expiring_step wire_layer id request.label).0 ≡ true
  wire_ok = layer_ok w h request.node there layer own id request.label ∙ ok

  same_generation : request.label.generation ≡ wire_layer.generation
  same_generation =
      let node = (holds h.wire h.reached).nodes request.node in
      now_is wire_layer id request.label (expiring_step wire_layer id request.label) wire_ok refl (λ purpose new e. expired_generation wire_layer id request.label purpose new node.places e)

  -- its sender is this node
  pub sent_from : (packet : Sending) → (terms (history w past)).sent serial ≡ Some packet → packet.from ≡ request.node
  sent_from packet sent =
      let wire = h.wire in
      let t : Terms = terms wire.past in
      let node = (holds wire h.reached).nodes request.node in
      let l = wire_layer in
      let entry = latest w h serial request found there layer own id in
      let number = request.label.number in
      let aim : id ≡ t.ids (t.generation request.node) entry.to = sym (aims same_generation) ∙ ap (λ g. t.ids g entry.to) node.generation in
      let state = state_by l id request.label (expiring_step l id request.label) (expires l id request.label node.places) wire_ok in
      let u = transaction (t.generation request.node) request.node entry.to number in
      let waiting = held_waits (t.held u) state.0
      (sym (ap shape state.1.1) ∙ ap (λ p. shape (state_for l.peers p number)) aim ∙ node.states_are entry.to number) in
      let a : IsAwaited t u waiting.kind waiting.serial = goes_on.awaited wire u waiting.kind waiting.serial h.reached waiting.is in
      let generation : request.label.generation ≡ t.generation request.node = same_generation ∙ node.generation in
      let current : waiting.serial ≡ serial =
      a.current ∙ ap (λ g. t.current (transaction g request.node entry.to number)) (sym generation) ∙ entry.current_is in
      let same : Some packet ≡ Some a.packet = sym sent ∙ ap (λ ms. (terms ms).sent serial) (sym h.is.past_is) ∙ ap t.sent (sym current) ∙ a.sent in
      let packet_is : packet ≡ a.packet = cc in
      ap (λ (q : Sending). q.from) packet_is ∙ sym (begun_from a.packet u a.begun)

  -- and what is left where it sent to this one
  module _ (purpose : Option P) (new : Layer P) (is : expiring_step layer id request.label ≡ (Ok purpose, new)) (to : ℕ) (to_is : (latest w h serial request found there layer own id).to ≡ to) where
    abbrev result : Result (Option (Unit {0})) Stale × Node
    result = (Ok (bare_purpose purpose), bare new)

    step : expiring_step wire_layer (id_for h.wire request.node to) request.label ≡ result
    step =
        ap (λ x. expiring_step wire_layer x request.label) (ap (id_for h.wire request.node) (sym to_is) ∙ aims same_generation)
        ∙ ap (λ (l : Node). expiring_step l id request.label) (own_layer w h request.node there layer own)
        ∙ (takes_steps P).expires layer id request.label
        ∙ ap (λ (r : Result (Option P) Stale × Layer P). bare_after bare_result r) is

    abbrev pub wire_then : Wire
    wire_then = expiring result request.node to request.label.number h.wire

    pub then_holds : Holds wire_then
    then_holds =
        let move = expire request.node to request.label in
        let r = goes_on.more h.wire move h.reached (record { free = h.is.due_is; current = ap (λ (r : Result (Option (Unit {0})) Stale × Node). is_ok r.0) step }) in
        subst (λ (r : Result (Option (Unit {0})) Stale × Node). Holds (expiring r request.node to request.label.number h.wire)) step (holds (moved move h.wire) r)

    pub then_past : wire_then.past ≡ said (notes.TimedOut serial) ∷ history w past
    then_past =
        let t : Terms = terms h.wire.past in
        let current : t.current (transaction wire_layer.generation request.node to request.label.number) ≡ serial =
        ap (λ g. t.current (transaction g request.node to request.label.number)) (sym same_generation)
        ∙ ap (λ n. t.current (transaction request.label.generation request.node n request.label.number)) (sym to_is)
        ∙ (latest w h serial request found there layer own id).current_is in
        ap (λ n. said (notes.TimedOut n) ∷ h.wire.past) current ∙ ap (λ ms. said (notes.TimedOut serial) ∷ ms) h.is.past_is

    -- in the generation and with the IDs that it had
    pub then_id : id_for wire_then request.node 0 ≡ id_for h.wire request.node 0
    then_id =
        let t : Terms = terms h.wire.past in
        let sent = t.sent (t.current (transaction wire_layer.generation request.node to request.label.number)) in
        let old = (holds h.wire h.reached).nodes request.node in
        let now = then_holds.nodes request.node in
        let g : (wire_then.layer request.node).generation ≡ wire_layer.generation =
        now.generation ∙ ap (λ (f : ℕ → ℕ). f request.node) (timed_generation sent t) ∙ sym old.generation in
        ap (λ (ids : ℕ → ℕ → ℕ). ids (wire_then.layer request.node).generation 0) (timed_agrees sent t).ids ∙ ap (λ x. t.ids x 0) g

-- ---- of a world

module _ {past : List Moment} {lines : ℕ} (w : WorldState) (h : Stands past w) (nodes : NodesOf w lines) (serial : ℕ) (request : Request) (found : find w.requests serial ≡ Some request) where
  from_not : (from node i : ℕ) → from ≡ node → (node == suc i) ≡ false → (from == suc i) ≡ false
  from_not from node i e f = ap (λ n. nat_eq n (suc i)) e ∙ f

  target_lapse : request.node ≡ 0 → (target_left (expired request.peer request.label (target.scene w.target empty_outbox)) w.target).0 ≡ true → (i : ℕ) → NotFrom (history w past) i serial
  unfolding expired
  target_lapse zero_is e i packet sent =
      let there : request.node ≤ length w.initiators = subst (λ n. n ≤ length w.initiators) (sym zero_is) (omega arith) in
      let own : layers_of w request.node ≡ bare w.target.layer = ap (λ n. layer_in w.target.layer w.initiators n) zero_is in
      let entry = latest w h serial request found there w.target.layer own request.peer in
      from_not packet.from request.node i
      (sent_from w h serial request found there w.target.layer own request.peer
      (λ g. ap (λ x. (terms h.wire.past).ids x entry.to) (sym g) ∙ sym entry.peer_is)
      (target_ok (expiring_step w.target.layer request.peer request.label) request.peer request.label (target.scene w.target empty_outbox) w.target ∙ e)
      packet sent)
      (ap (λ n. nat_eq n (suc i)) zero_is ∙ (let z : (0 == suc i) ≡ false = grind (arith, nat_tests) in z))

  module _ (i : ℕ) (node_is : request.node ≡ suc i) (inside : i < length w.initiators) where
    abbrev old : InitiatorState
    old = initiator_at w i

    own_there : request.node ≤ length w.initiators
    own_there = subst (λ x. x ≤ length w.initiators) (sym node_is) inside

    own_own : layers_of w request.node ≡ bare old.layer
    own_own = ap (λ x. layer_in w.target.layer w.initiators x) node_is

    to_zero : (latest w h serial request found own_there old.layer own_own old.target).to ≡ 0
    to_zero = (latest w h serial request found own_there old.layer own_own old.target).aimed (subst (λ x. 0 < x) (sym node_is) (omega arith))

    target_is : id_for h.wire request.node 0 ≡ old.target
    target_is =
        id_known w h request.node own_there 0 (omega arith)
        ∙ ap (λ x. id_of (topology_at w.generations x) 0) node_is
        ∙ to_target w.generations.seen i old.target (nodes.own.holds i inside).fits.target_known

    own_aims : Aims w h serial request found own_there old.layer own_own old.target
    own_aims g = ap (id_for h.wire request.node) to_zero ∙ target_is

    own_ok_is : (expire_step request.label empty_outbox old).0 ≡ true → is_ok (expiring_step old.layer old.target request.label).0 ≡ true
    unfolding expire_step
    own_ok_is e = own_ok (expiring_step old.layer old.target request.label) old ∙ e

    own_lapse : (expire_step request.label empty_outbox old).0 ≡ true → (j : ℕ) → (j == i) ≡ false → NotFrom (history w past) j serial
    own_lapse e j f packet sent =
        from_not packet.from request.node j
        (sent_from w h serial request found own_there old.layer own_own old.target own_aims (own_ok_is e) packet sent)
        (ap (λ n. nat_eq n (suc j)) node_is ∙ (let g : (suc i == suc j) ≡ false = grind (arith, nat_tests) in g))

    shown_as : (r : Result (Option Purpose) Stale × Layer Purpose) → expiring_step old.layer old.target request.label ≡ r → is_ok r.0 ≡ true → IsShown (said (notes.TimedOut serial) ∷ history w past) i old.target r.1
    shown_as (Ok purpose, new) is ok =
        let o : is_ok (expiring_step old.layer old.target request.label).0 ≡ true = ap (λ (r : Result (Option Purpose) Stale × Layer Purpose). is_ok r.0) is in
        let wire = wire_then w h serial request found own_there old.layer own_own old.target own_aims o purpose new is 0 to_zero in
        let id = then_id w h serial request found own_there old.layer own_own old.target own_aims o purpose new is 0 to_zero in
        shown_by wire (then_holds w h serial request found own_there old.layer own_own old.target own_aims o purpose new is 0 to_zero) i new
        (upd_here h.wire.layer request.node (suc i) (bare new) (sym node_is))
        (said (notes.TimedOut serial) ∷ history w past)
        (then_past w h serial request found own_there old.layer own_own old.target own_aims o purpose new is 0 to_zero)
        old.target
        (ap (λ n. id_for wire n 0) (sym node_is) ∙ id ∙ target_is)
    shown_as (Err stale, new) is ok = cc

    own_shown : (expire_step request.label empty_outbox old).0 ≡ true → IsShown (said (notes.TimedOut serial) ∷ history w past) i old.target (expiring_step old.layer old.target request.label).1
    own_shown e = shown_as (expiring_step old.layer old.target request.label) refl (own_ok_is e)

  pub lapsing : Lapsing past serial request w
  lapsing = record { target_away = target_lapse; own_away = own_lapse; shown = own_shown }
