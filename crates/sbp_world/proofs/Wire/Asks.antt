-- What a node asks, and what it gives up, is a list of moves of the wire: the packets leave for the nodes that have the IDs.
use Rattle.sbp_world.proofs.Words.Std.{if◌then◌else◌, slice_index_or, arith, sym, ◌∙◌, ap, subst, false≢true, upd}
use Rattle.sbp_world.proofs.Words.Wire.{IsValid, LabelParts, Asked, NoLabel, Body, header_to, request_with, Layer, asked_at, asking_in, asking_step, disowning_in, disowning_step, peer_at, peer_place, unlabelled, PeerPlace, ask_place, state_for, Stored, send_step, bare, bare_after, same, AreSmall, ask, asking, disown, AreAsks, AreGivenUp, GivesUp, of_known, of_none, IsAsking, layer_after, request_to, requests_of, with_asked, Reached, Wire, Due, Node, as_sent, id_for, outgoing, transaction, Moment, said, Sending, begun_by, between, Terms, sends, terms, Outgoing, id_of, topology_at, RequestsState, add_step, place_of, request_of, ReplyKind, kind_of, Request}
use Rattle.sbp_world.proofs.Words.World.{posted, sent, sent_all, sent_to, WorldState, AreEntered, IsEntered, Knows, IsWireAt, StandsAt}
use Rattle.std.specs.Prelude.{◌≡◌, ◌≤◌, ◌<◌, ℕ, ◌+◌, ◌&&◌, nat_eq, Bool, true, false, cond, List, [], ◌∷◌, ◌++◌, length, Option, Some, None, Result, Ok, Err, refl}
use Rattle.label_table.specs.History as calls
use Rattle.bus_transactions.proofs.Bares.{takes_steps}
use Rattle.bus_transactions.proofs.Facts.{asked_begun, request_asked}
use Rattle.bus_transactions.proofs.Follows.{last_is}
use Rattle.bus_transactions.proofs.MoveAsk.{asked_bytes}
use Rattle.bus_transactions.proofs.Steps.{AskedAs, Asks, asks}
use Rattle.sbp_journal.specs.declared.note.Note.TheVariants as notes
use Rattle.sbp_world.specs.Sending.{with_request}
use Rattle.sbp_world.proofs.Wire.Alike.{IsAlike, all_alike, sent_more}
use Rattle.sbp_world.proofs.Wire.Agrees.{sends_agrees, sent_knows}
use Rattle.sbp_world.proofs.Wire.Bus.{aged, holds, sent_ids}
use Rattle.sbp_world.proofs.Wire.Found.{IsKnown, id_known, node_found}
use Rattle.sbp_world.proofs.Wire.Handles.{asked_generation}
use Rattle.sbp_world.proofs.Wire.Latest.{asked_knows, new_entered, still_entered}
use Rattle.sbp_world.proofs.Wire.Tells.{leads}
use Rattle.sbp_world.proofs.Wire.Entered.{Waits, same_test, asked_waits, disowns_less, entered_by, less_entered}
use Rattle.bus_transactions.proofs.Places.{Places}
use Rattle.bus_transactions.proofs.Reaches.{goes_on}
use Rattle.label_table.specs.declared.place.LabelState.TheVariants as states

-- ---- a function with another value at one node
pub upd_own : {A : Type 0} (f : ℕ → A) (at : ℕ) (value : A) → upd f at value at ≡ value
upd_own f at value = ap (λ b. cond b value (f at)) (let e : nat_eq at at ≡ true = grind arith in e)

upd_by : {A : Type 0} (f : ℕ → A) (at k : ℕ) (value : A) (b : Bool) → nat_eq k at ≡ b → f at ≡ value → f k ≡ cond b value (f k)
upd_by f at k value true e same = ap f (let x : k ≡ at = grind arith in x) ∙ same
upd_by f at k value false e same = refl

pub upd_same : {A : Type 0} (f : ℕ → A) (at : ℕ) (value : A) → f at ≡ value → (k : ℕ) → f k ≡ upd f at value k
upd_same f at value e k = upd_by f at k value (nat_eq k at) refl e

twice_by : {A : Type 0} (b : Bool) (first second other : A) → cond b second (cond b first other) ≡ cond b second other
twice_by true first second other = refl
twice_by false first second other = refl

pub upd_twice : {A : Type 0} (f : ℕ → A) (at : ℕ) (first second : A) (k : ℕ) → upd (upd f at first) at second k ≡ upd f at second k
upd_twice f at first second k = twice_by (nat_eq k at) first second (f k)

-- the layers may be said in another way
pub relayered : {past : List Moment} {layers left : ℕ → Node} {due : Option Due} (w : WorldState) → StandsAt past layers due w → ((k : ℕ) → k ≤ length w.initiators → layers k ≡ left k) → StandsAt past left due w
relayered w h e = record {
  wire = h.wire;
  reached = h.reached;
  is = record {
    store_is = h.is.store_is;
    bus_is = h.is.bus_is;
    ids_are = h.is.ids_are;
    layers_are = λ k l. h.is.layers_are k l ∙ e k l;
    due_is = h.is.due_is;
    past_is = h.is.past_is;
    few = h.is.few;
    seen = h.is.seen;
    size = h.is.size;
    sizes = h.is.sizes;
    sights = h.is.sights;
    known_ids = h.is.known_ids;
    knows = h.is.knows;
    entered = h.is.entered;
    fair = h.is.fair;
  };
}

-- ---- what asking and giving up leave of a layer
module _ {P : Type 0} where
  abbrev OnAsking : Layer P → Option Asked × Layer P → Type 0
  OnAsking layer (None, new) = new ≡ layer
  OnAsking layer (Some asked, new) = (new.generation ≡ layer.generation) × (new.node ≡ layer.node)

  asked_stays : (k : ℕ) (layer : Layer P) (r : Result LabelParts NoLabel × (PeerPlace P × List ℕ)) → OnAsking layer (asked_at k layer r)
  asked_stays k layer (Ok label, (place, bytes)) = (refl, refl)
  asked_stays k layer (Err none, (place, bytes)) = refl

  asking_stays : (k : Option ℕ) (layer : Layer P) (peer : ℕ) (bytes : List ℕ) (purpose : P) → OnAsking layer (asking_in k layer peer bytes purpose)
  asking_stays None layer peer bytes purpose = refl
  asking_stays (Some k) layer peer bytes purpose = asked_stays k layer (ask_place (peer_at layer k) peer bytes purpose)

  asks_stay : (layer : Layer P) (peer : ℕ) (body : Body) (purpose : P) → OnAsking layer (asking_step layer peer body purpose)
  unfolding asking_step
  asks_stay layer peer body purpose = asking_stays (peer_place peer layer) layer peer (unlabelled layer peer body) purpose

  disowned_stays : (k : Option ℕ) (layer : Layer P) (label : LabelParts) → (disowning_in k layer label).generation ≡ layer.generation
  disowned_stays None layer label = refl
  disowned_stays (Some k) layer label = refl

  disowns_stay : (layer : Layer P) (peer : ℕ) (label : LabelParts) → (disowning_step layer peer label).generation ≡ layer.generation
  unfolding disowning_step
  disowns_stay layer peer label = disowned_stays (peer_place peer layer) layer label

-- ---- one step of a node's layer
abbrev pub sent_past : (from to : ℕ) (bytes : List ℕ) → Stored → (generation : ℕ) → List Moment → List Moment
sent_past from to bytes store generation past = said (notes.Sent (store.last + 1) generation from to bytes) ∷ past

-- a packet of a node's own leaves who injected packets as it was
pub still_fair : (wire : Wire) → Reached wire → (from to : ℕ) (bytes : List ℕ) → (terms wire.past).injects 0 ≡ false → (terms (sent_past from to bytes wire.store (wire.layer from).generation wire.past)).injects 0 ≡ false
still_fair wire r from to bytes e =
    let t : Terms = terms wire.past in
    let all = holds wire r in
    let s = wire.store.last + 1 in
    let serial : s ≡ t.count + 1 = ap (λ x. x + 1) (last_is all.follows) in
    let q : Sending = record { generation = (wire.layer from).generation; from = from; to = to; bytes = bytes; injected = t.injected s } in
    ap (λ (f : ℕ → Bool). f 0) (sends_agrees s q t).injects
    ∙ ap (λ b. (if b then upd t.injects from true else t.injects) 0) (all.facts.unsent s (omega (arith, serial))).honest
    ∙ e

module _ {P : Type 0} {past : List Moment} {layers : ℕ → Node} {due : Option Due} (w : WorldState) (h : StandsAt past layers due w) (from : ℕ) (there : from ≤ length w.initiators) (layer : Layer P) (own : layers from ≡ bare layer) where
  pub own_layer : h.wire.layer from ≡ bare layer
  own_layer = h.is.layers_are from there ∙ own

  id_is : (id : ℕ) (k : IsKnown w from id) → id_for h.wire from k.node ≡ id
  id_is id k = id_known w h from there k.node k.there ∙ k.id_is

  -- the new layer is in the generation of the old one
  pub sight_by : (new : Layer P) (k : ℕ) (b : Bool) → nat_eq k from ≡ b → new.generation ≡ layer.generation → (cond b (bare new) (h.wire.layer k)).generation ≡ (h.wire.layer k).generation
  sight_by new k true e g =
      g ∙ ap (λ (l : Node). l.generation) (sym own_layer) ∙ ap (λ x. (h.wire.layer x).generation) (let x : from ≡ k = grind arith in x)
  sight_by new k false e g = refl

  -- a transaction is given up
  gives_up_known : (id : ℕ) (label : LabelParts) (k : IsKnown w from id) → StandsAt past (upd layers from (bare (disowning_step layer id label))) due w
  gives_up_known id label k =
      let new = disowning_step layer id label in
      let is : disowning_step (h.wire.layer from) (id_for h.wire from k.node) label ≡ bare new =
      ap (λ (l : Node). disowning_step l (id_for h.wire from k.node) label) own_layer
      ∙ ap (λ i. disowning_step (bare layer) i label) (id_is id k)
      ∙ (takes_steps P).disowns layer id label in
      leads w w h (disown from k.node label) tt (record {
        store_is = h.is.store_is;
        bus_is = h.is.bus_is;
        ids_are = h.is.ids_are;
        layers_are = λ k l. ap (λ (x : Node). cond (nat_eq k from) x (h.wire.layer k)) is ∙ ap (λ (x : Node). cond (nat_eq k from) (bare new) x) (h.is.layers_are k l);
        due_is = h.is.due_is;
        past_is = h.is.past_is;
        few = h.is.few;
        seen = h.is.seen;
        size = h.is.size;
        sizes = h.is.sizes;
        sights = λ k l.
            ap (λ (x : Node). (cond (nat_eq k from) x (h.wire.layer k)).generation) is
            ∙ sight_by new k (nat_eq k from) refl (disowns_stay layer id label)
            ∙ h.is.sights k l;
        known_ids = h.is.known_ids;
        knows = h.is.knows;
        entered = less_entered h.wire.layer from (disowning_step (h.wire.layer from) (id_for h.wire from k.node) label) (disowns_less (h.wire.layer from) (id_for h.wire from k.node) label ((holds h.wire h.reached).nodes from).places) h.is.entered;
        fair = h.is.fair;
      })

  gives_up : (known : ℕ → Type 0) → ((id : ℕ) → known id → IsKnown w from id) → (id : ℕ) (label : LabelParts) → GivesUp known layer id label → StandsAt past (upd layers from (bare (disowning_step layer id label))) due w
  gives_up known all id label (of_known k) = gives_up_known id label (all id k)
  gives_up known all id label (of_none e) =
      relayered w h (λ k l. upd_same layers from (bare (disowning_step layer id label)) (own ∙ ap bare (sym e)) k)

-- the bytes of a request that found a label
abbrev IfSmall : Option Asked → Type 0
IfSmall None = Unit {0}
IfSmall (Some asked) = (n : ℕ) → slice_index_or asked.bytes n 0 < 256

both_same : (a b c d : ℕ) → (nat_eq a b && nat_eq c d) ≡ true → (a ≡ b) × (c ≡ d)
both_same a b c d e = (grind arith, grind arith)

same_call : (kind other : ReplyKind) (call second : ℕ) → states.UnderWay kind call ≡ states.UnderWay other second → call ≡ second
same_call kind other call second e = cc

pub label_is : (label : LabelParts) (number generation call : ℕ) → number ≡ label.number → generation ≡ label.generation → call ≡ label.serial → record { number = number; generation = generation; serial = call } ≡ label
label_is label number generation call n g c =
    ap (λ x. record { number = x; generation = generation; serial = call }) n
    ∙ ap (λ x. record { number = label.number; generation = x; serial = call }) g
    ∙ ap (λ x. record { number = label.number; generation = label.generation; serial = x }) c

same_places : (a b c x y z : ℕ) → a < 5 → b < 5 → c < 64 → x < 5 → y < 5 → z < 64 → place_of a b c ≡ place_of x y z → (a ≡ x) × ((b ≡ y) × (c ≡ z))
same_places a b c x y z al bl cl xl yl zl e = (omega (arith, e), (omega (arith, e), omega (arith, e)))

-- a request leaves, if it finds a label
module _ {P : Type 0} {past : List Moment} {layers : ℕ → Node} (w : WorldState) (h : StandsAt past layers None w) (from : ℕ) (there : from ≤ length w.initiators) (layer : Layer P) (own : layers from ≡ bare layer) (id : ℕ) (body : Body) (purpose : P) (k : IsKnown w from id) (aimed : 0 < from → k.node ≡ 0) (valid : IsValid (request_with (header_to layer.node id 0) body)) where
  may_ask : IsValid (request_with (header_to (h.wire.layer from).node (id_for h.wire from k.node) 0) body)
  may_ask =
      subst (λ (l : Node). IsValid (request_with (header_to l.node (id_for h.wire from k.node) 0) body)) (sym (own_layer w h from there layer own))
      (subst (λ i. IsValid (request_with (header_to layer.node i 0) body)) (sym (id_is w h from there layer own id k)) valid)

  asks_know : (asked : Asked) (new : Node) → asking_step (h.wire.layer from) (id_for h.wire from k.node) body tt ≡ (Some asked, new) → ((n : ℕ) → slice_index_or asked.bytes n 0 < 256) → Knows (add_step (w.store.last + 1) k.node (request_of from id asked.label) w.requests) (length w.initiators) (terms (sent_past from k.node asked.bytes h.wire.store (h.wire.layer from).generation h.wire.past))
  asks_know asked new step small =
      let wire = h.wire in
      let t : Terms = terms wire.past in
      let all = holds wire h.reached in
      let few = h.is.few in
      let to_there = k.there in
      let s = wire.store.last + 1 in
      let serial : s ≡ t.count + 1 = ap (λ x. x + 1) (last_is all.follows) in
      let serial_now : w.store.last + 1 ≡ t.count + 1 = ap (λ (st : Stored). st.last + 1) (sym h.is.store_is) ∙ serial in
      let a : AskedAs (wire.layer from) (id_for wire from k.node) (unlabelled (wire.layer from) (id_for wire from k.node) body) (Some asked, new) =
      subst (AskedAs (wire.layer from) (id_for wire from k.node) (unlabelled (wire.layer from) (id_for wire from k.node) body)) step (asks (wire.layer from) (id_for wire from k.node) body (all.nodes from).places) in
      let number = asked.label.number in
      let b = asked_bytes (wire.layer from).node (id_for wire from k.node) number body asked.bytes may_ask a.small a.labelled in
      let q : Sending = record { generation = (wire.layer from).generation; from = from; to = k.node; bytes = asked.bytes; injected = t.injected s } in
      let fresh = all.facts.unsent s (omega arith) in
      let same_generation : asked.label.generation ≡ (wire.layer from).generation = asked_generation (wire.layer from) (id_for wire from k.node) body asked new (all.nodes from).places step in
      let u = transaction asked.label.generation from k.node number in
      let begun : begun_by q ≡ Some u = asked_begun q (between q from k.node number) fresh.honest (request_asked q number b.kind b.part) ∙ ap (λ g. Some (transaction g from k.node number)) (sym same_generation) in
      let past_now : asked.label.generation ≤ t.bus = subst (λ g. g ≤ t.bus) (sym same_generation) (aged wire from h.reached) in
      let peer_is : id ≡ t.ids asked.label.generation k.node = sym (id_is w h from there layer own id k) ∙ ap (λ g. t.ids g k.node) (sym same_generation) in
      subst (λ m. Knows (add_step m k.node (request_of from id asked.label) w.requests) (length w.initiators) (sends s q t)) (sym serial_now)
      (sent_knows s q t (Some u) begun serial
      (asked_knows h.is.knows from k.node id asked.label q (omega arith) (omega arith) a.small (record { from = there; to = to_there; bytes = small }) aimed past_now peer_is))

  -- its transaction waits, and it is found
  asks_enter : (asked : Asked) (new : Node) → asking_step (h.wire.layer from) (id_for h.wire from k.node) body tt ≡ (Some asked, new) → AreEntered (add_step (w.store.last + 1) k.node (request_of from id asked.label) w.requests) (length w.initiators) (upd h.wire.layer from new) (terms h.wire.past).ids
  asks_enter asked new step = record {
    entry = λ node peer number kind call l m small s. by_node (nat_eq node from) node peer number kind call refl l m small s;
  }
    where
      t : Terms
      t = terms h.wire.past

      old : Node
      old = h.wire.layer from

      now : RequestsState
      now = add_step (w.store.last + 1) k.node (request_of from id asked.label) w.requests

      places : Places old.generation old.peers
      places = ((holds h.wire h.reached).nodes from).places

      a : Asks old new (id_for h.wire from k.node) (unlabelled old (id_for h.wire from k.node) body) asked
      a = subst (AskedAs old (id_for h.wire from k.node) (unlabelled old (id_for h.wire from k.node) body)) step (asks old (id_for h.wire from k.node) body places)

      waits : Waits (id_for h.wire from k.node) asked.label new
      waits = asked_waits old (id_for h.wire from k.node) body asked new places step

      generation : new.generation ≡ old.generation
      generation = a.shows.stays.generation

      serial_now : w.store.last + 1 ≡ t.count + 1
      serial_now = ap (λ (st : Stored). st.last + 1) (sym h.is.store_is) ∙ ap (λ x. x + 1) (last_is (holds h.wire h.reached).follows)

      any : Sending
      any = outgoing h.wire from k.node asked.bytes false

      from_five : from < 5
      from_five = let few = h.is.few in omega arith

      to_five : k.node < 5
      to_five = let few = h.is.few in let l = k.there in omega arith

      kept : (node peer number : ℕ) (request : Request) → node < 5 → peer < 5 → number < 64 → (node ≡ from → peer ≡ k.node → number ≡ asked.label.number → ⊥) → IsEntered w.requests node peer number request → IsEntered now node peer number request
      kept node peer number request x y z differs e =
          subst (λ m. IsEntered (add_step m k.node (request_of from id asked.label) w.requests) node peer number request) (sym serial_now)
          (still_entered h.is.knows from k.node id asked.label any from_five to_five a.small node peer number request
          (λ same. let p = same_places node peer number from k.node asked.label.number x y z from_five to_five a.small same in differs p.0 p.1.0 p.1.1) e)

      added : IsEntered now from k.node asked.label.number (request_of from id asked.label)
      added =
          subst (λ m. IsEntered (add_step m k.node (request_of from id asked.label) w.requests) from k.node asked.label.number (request_of from id asked.label)) (sym serial_now)
          (new_entered h.is.knows from k.node id asked.label any from_five to_five a.small)

      by_label : (b : Bool) (peer number : ℕ) (kind : ReplyKind) (call : ℕ) → (nat_eq (t.ids old.generation peer) (id_for h.wire from k.node) && nat_eq number asked.label.number) ≡ b → peer ≤ length w.initiators → number < 64 → state_for new.peers (t.ids old.generation peer) number ≡ states.UnderWay kind call → cond b (states.UnderWay (kind_of (unlabelled old (id_for h.wire from k.node) body)) a.serial) (state_for old.peers (t.ids old.generation peer) number) ≡ states.UnderWay kind call → IsEntered now from peer number (request_of from (t.ids old.generation peer) (record { number = number; generation = old.generation; serial = call }))
      by_label true peer number kind call e m small here s =
          let same = both_same (t.ids old.generation peer) (id_for h.wire from k.node) number asked.label.number e in
          let peer_is : peer ≡ k.node = goes_on.apart h.wire old.generation peer k.node h.reached same.0 in
          let call_is : call ≡ asked.label.serial = same_call kind waits.kind call asked.label.serial (sym here ∙ ap (λ i. state_for new.peers i number) same.0 ∙ ap (λ n. state_for new.peers (id_for h.wire from k.node) n) same.1 ∙ waits.is) in
          let id_same : t.ids old.generation peer ≡ id = same.0 ∙ id_is w h from there layer own id k in
          let label_same = label_is asked.label number old.generation call same.1 (sym (asked_generation old (id_for h.wire from k.node) body asked new places step)) call_is in
          subst (λ (r : Request). IsEntered now from peer number r) (sym (ap (λ i. request_of from i (record { number = number; generation = old.generation; serial = call })) id_same ∙ ap (λ l. request_of from id l) label_same))
          (subst (λ p. IsEntered now from p number (request_of from id asked.label)) (sym peer_is)
          (subst (λ n. IsEntered now from k.node n (request_of from id asked.label)) (sym same.1) added))
      by_label false peer number kind call e m small here s =
          let few = h.is.few in
          kept from peer number (request_of from (t.ids old.generation peer) (record { number = number; generation = old.generation; serial = call })) from_five (omega arith) small
          (λ x y z. false≢true (sym e ∙ ap (λ p. nat_eq (t.ids old.generation p) (id_for h.wire from k.node) && nat_eq number asked.label.number) y ∙ ap (λ n. nat_eq (id_for h.wire from k.node) (id_for h.wire from k.node) && nat_eq n asked.label.number) z ∙ same_test (id_for h.wire from k.node) asked.label.number))
          (h.is.entered.entry from peer number kind call there m small s)

      by_node : (b : Bool) (node peer number : ℕ) (kind : ReplyKind) (call : ℕ) → nat_eq node from ≡ b → node ≤ length w.initiators → peer ≤ length w.initiators → number < 64 → state_for (cond b new (h.wire.layer node)).peers (t.ids (cond b new (h.wire.layer node)).generation peer) number ≡ states.UnderWay kind call → IsEntered now node peer number (request_of node (t.ids (cond b new (h.wire.layer node)).generation peer) (record { number = number; generation = (cond b new (h.wire.layer node)).generation; serial = call }))
      by_node true node peer number kind call e l m small s =
          let node_is : node ≡ from = grind arith in
          let here = ap (λ g. state_for new.peers (t.ids g peer) number) (sym generation) ∙ s in
          subst (λ x. IsEntered now x peer number (request_of x (t.ids new.generation peer) (record { number = number; generation = new.generation; serial = call }))) (sym node_is)
          (subst (λ g. IsEntered now from peer number (request_of from (t.ids g peer) (record { number = number; generation = g; serial = call }))) (sym generation)
          (by_label (nat_eq (t.ids old.generation peer) (id_for h.wire from k.node) && nat_eq number asked.label.number) peer number kind call refl m small here (sym (a.shows.states_are (t.ids old.generation peer) number) ∙ here)))
      by_node false node peer number kind call e l m small s =
          let few = h.is.few in
          kept node peer number (request_of node (t.ids (h.wire.layer node).generation peer) (record { number = number; generation = (h.wire.layer node).generation; serial = call })) (omega arith) (omega arith) small
          (λ x y z. false≢true (sym e ∙ ap (λ n. nat_eq n from) x ∙ (let f : nat_eq from from ≡ true = grind arith in f)))
          (h.is.entered.entry node peer number kind call l m small s)

  asks_as : (asked : Asked) (new : Layer P) → asking_step layer id body purpose ≡ (Some asked, new) → ((n : ℕ) → slice_index_or asked.bytes n 0 < 256) → StandsAt past (upd layers from (bare new)) None (with_request (w.store.last + 1) k.node (request_of from id asked.label) (posted from k.node false asked.bytes w))
  unfolding posted
  asks_as asked new e small =
      let wire = h.wire in
      let few = h.is.few in
      let to_there = k.there in
      let g = h.is.sights from there in
      let stays : OnAsking layer (Some asked, new) = subst (OnAsking layer) e (asks_stay layer id body purpose) in
      let step : asking_step (wire.layer from) (id_for wire from k.node) body tt ≡ (Some asked, bare new) =
      ap (λ (l : Node). asking_step l (id_for wire from k.node) body tt) (own_layer w h from there layer own)
      ∙ ap (λ i. asking_step (bare layer) i body tt) (id_is w h from there layer own id k)
      ∙ (takes_steps P).asks layer id body purpose
      ∙ ap (λ (p : Option Asked × Layer P). bare_after same p) e in
      let now = with_request (w.store.last + 1) k.node (request_of from id asked.label) (posted from k.node false asked.bytes w) in
      leads w now h (ask from k.node body) (record { free = h.is.due_is; node_small = omega arith; peer_small = omega arith; valid = may_ask })
      (subst (λ (r : Option Asked × Node). IsWireAt past (upd layers from (bare new)) None now (asking r from k.node wire)) (sym step) (record {
        store_is = ap (λ (st : Stored). send_step st (as_sent (outgoing wire from k.node asked.bytes false))) h.is.store_is
            ∙ ap (λ x. send_step w.store (record { generation = x; from = from; to = k.node; bytes = asked.bytes; injected = false })) g;
        bus_is = h.is.bus_is;
        ids_are = h.is.ids_are;
        layers_are = λ n l. ap (λ (x : Node). cond (nat_eq n from) (bare new) x) (h.is.layers_are n l);
        due_is = h.is.due_is;
        past_is = ap (λ (st : Stored). sent_past from k.node asked.bytes st (wire.layer from).generation wire.past) h.is.store_is
            ∙ ap (λ x. sent_past from k.node asked.bytes w.store x wire.past) g
            ∙ ap (λ ms. sent_past from k.node asked.bytes w.store (topology_at w.generations from).generation ms) h.is.past_is;
        few = h.is.few;
        seen = h.is.seen;
        size = h.is.size;
        sizes = h.is.sizes;
        sights = λ n l. sight_by w h from there layer own new n (nat_eq n from) refl stays.0 ∙ h.is.sights n l;
        known_ids = λ n peer l m.
            ap (λ (ids : ℕ → ℕ → ℕ). ids (topology_at w.generations n).generation peer)
            (sent_ids (wire.store.last + 1) (wire.layer from).generation from k.node asked.bytes (terms wire.past))
            ∙ h.is.known_ids n peer l m;
        knows = asks_know asked (bare new) step small;
        entered = entered_by (sym (sent_ids (wire.store.last + 1) (wire.layer from).generation from k.node asked.bytes (terms wire.past))) (asks_enter asked (bare new) step);
        fair = still_fair wire h.reached from k.node asked.bytes h.is.fair;
      }))

  asks_by : (r : Option Asked × Layer P) → asking_step layer id body purpose ≡ r → IfSmall r.0 → StandsAt past (upd layers from (bare r.1)) None (sent_all from (with_asked id r.0 []) w)
  unfolding sent_all sent
  asks_by (None, new) e small =
      let stays : new ≡ layer = subst (OnAsking layer) e (asks_stay layer id body purpose) in
      relayered w h (λ n l. upd_same layers from (bare new) (own ∙ ap bare (sym stays)) n)
  asks_by (Some asked, new) e small =
      subst (λ o. StandsAt past (upd layers from (bare new)) None (sent_to o from (request_to id asked) w)) (sym (node_found w h from there id k)) (asks_as asked new e small)

  asks_one : IfSmall (asking_step layer id body purpose).0 → StandsAt past (upd layers from (bare (asking_step layer id body purpose).1)) None (sent_all from (with_asked id (asking_step layer id body purpose).0 []) w)
  asks_one small = asks_by (asking_step layer id body purpose) refl small

-- ---- all of them
pub small_parts : (packets more : List Outgoing) → AreSmall (packets ++ more) → AreSmall packets × AreSmall more
small_parts [] more a = (tt, a)
small_parts (packet ∷ packets) more a = let b = small_parts packets more a.1 in ((a.0, b.0), b.1)

small_split : (id : ℕ) (asked : Option Asked) (packets : List Outgoing) → AreSmall (with_asked id asked packets) → AreSmall packets × IfSmall asked
small_split id None packets a = (a, tt)
small_split id (Some asked) packets a = let b = small_parts packets (request_to id asked ∷ []) a in (b.0, b.1.0)

with_asked_more : (from id : ℕ) (asked : Option Asked) (packets : List Outgoing) (w : WorldState) → sent_all from (with_asked id asked packets) w ≡ sent_all from (with_asked id asked []) (sent_all from packets w)
unfolding sent_all
with_asked_more from id None packets w = refl
with_asked_more from id (Some asked) packets w = sent_more from packets (request_to id asked ∷ []) w

-- what is known is known after some packets, too
unfoldable pub known_still : (w v : WorldState) (from id : ℕ) → IsAlike w v → IsKnown w from id → IsKnown v from id
known_still w v from id a k = record {
  node = k.node;
  there = subst (λ xs. k.node ≤ length xs) (sym a.initiators) k.there;
  id_is = subst (λ g. id_of (topology_at g from) k.node ≡ id) (sym a.generations) k.id_is;
}

module _ {P : Type 0} {past : List Moment} {layers : ℕ → Node} (w : WorldState) (from : ℕ) (there : from ≤ length w.initiators) (layer : Layer P) (own : layers from ≡ bare layer) (known : ℕ → Type 0) (all : (id : ℕ) → known id → IsKnown w from id) (aims : (id : ℕ) (k : known id) → 0 < from → (all id k).node ≡ 0) where
  -- transactions that are given up, whatever is to be answered
  pub given_up : {due : Option Due} (steps : List (calls.Call P)) → AreGivenUp known layer steps → StandsAt past layers due w → StandsAt past (upd layers from (bare (layer_after layer steps))) due w
  given_up [] a h = relayered w h (λ k l. upd_same layers from (bare layer) own k)
  given_up (calls.disowns peer label ∷ steps) a h =
      let before = layer_after layer steps in
      let b = given_up steps a.1 h in
      let c = gives_up w b from there before (upd_own layers from (bare before)) known all peer label a.0 in
      relayered w c (λ k l. upd_twice layers from (bare before) (bare (disowning_step before peer label)) k)
  given_up (calls.judges generation bytes ∷ steps) a h = absurd a
  given_up (calls.answers p bytes rcode given ∷ steps) a h = absurd a
  given_up (calls.asks peer body purpose ∷ steps) a h = absurd a
  given_up (calls.lets_expire peer label ∷ steps) a h = absurd a
  given_up (calls.sees generation node ∷ steps) a h = absurd a

  -- nodes are asked
  asks_go : (steps : List (calls.Call P)) → AreAsks known layer steps → AreSmall (requests_of layer steps) → StandsAt past layers None w → StandsAt past (upd layers from (bare (layer_after layer steps))) None (sent_all from (requests_of layer steps) w)
  unfolding sent_all known_still
  asks_go [] a small h = relayered w h (λ k l. upd_same layers from (bare layer) own k)
  asks_go (calls.disowns peer label ∷ steps) a small h =
      let before = layer_after layer steps in
      let v = sent_all from (requests_of layer steps) w in
      let b = asks_go steps a.1 small h in
      let alike = all_alike from (requests_of layer steps) w in
      let inside : from ≤ length v.initiators = subst (λ xs. from ≤ length xs) (sym alike.initiators) there in
      let c = gives_up v b from inside before (upd_own layers from (bare before)) known (λ id k. known_still w v from id alike (all id k)) peer label a.0 in
      relayered v c (λ k l. upd_twice layers from (bare before) (bare (disowning_step before peer label)) k)
  asks_go (calls.asks peer body purpose ∷ steps) a small h =
      let before = layer_after layer steps in
      let v = sent_all from (requests_of layer steps) w in
      let r = asking_step before peer body purpose in
      let split = small_split peer r.0 (requests_of layer steps) small in
      let b = asks_go steps a.1 split.0 h in
      let alike = all_alike from (requests_of layer steps) w in
      let inside : from ≤ length v.initiators = subst (λ xs. from ≤ length xs) (sym alike.initiators) there in
      let known_now = known_still w v from peer alike (all peer a.0.there) in
      let c = asks_one v b from inside before (upd_own layers from (bare before)) peer body purpose known_now (aims peer a.0.there) a.0.valid split.1 in
      let u = sent_all from (with_asked peer r.0 []) v in
      subst (λ x. StandsAt past (upd layers from (bare r.1)) None x) (sym (with_asked_more from peer r.0 (requests_of layer steps) w))
      (relayered u c (λ k l. upd_twice layers from (bare before) (bare r.1) k))
  asks_go (calls.judges generation bytes ∷ steps) a small h = absurd a
  asks_go (calls.answers p bytes rcode given ∷ steps) a small h = absurd a
  asks_go (calls.lets_expire peer label ∷ steps) a small h = absurd a
  asks_go (calls.sees generation node ∷ steps) a small h = absurd a

  -- what a node asks in a call
  pub asking_goes : (now : Layer P) (packets : List Outgoing) → IsAsking known layer now packets → AreSmall packets → StandsAt past layers None w → StandsAt past (upd layers from (bare now)) None (sent_all from packets w)
  asking_goes now packets a small h =
      subst (λ ps. StandsAt past (upd layers from (bare now)) None (sent_all from ps w)) a.packets_are
      (subst (λ (l : Layer P). StandsAt past (upd layers from (bare l)) None (sent_all from (requests_of layer a.steps) w)) a.layer_is
      (asks_go a.steps a.may (subst AreSmall (sym a.packets_are) small) h))
