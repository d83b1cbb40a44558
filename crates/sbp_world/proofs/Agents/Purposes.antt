-- What the requests of the target are for, in every run.
use Rattle.sbp_world.proofs.Words.Std.{arith, ◌≡◌, ◌∙◌, refl, sym, ap, subst, ℕ, ◌<◌, List, length, map, Option, Some, None, position, slice_index_or, get_or-map}
use Rattle.sbp_world.proofs.Words.Wire.{LabelParts, bare, bare_place, awaits, kind_as, shape, shape_of, Node, transaction, LabelState, ReplyKind, under_way, Layer, is_owned_by, or_else, owned_place, shown_in, PeerPlace, no_peer, peer_of, last_for, purpose_for, state_for, place_at, Place, topology_at, find, serial_at, request_of, Moment, Kind, Held, Terms, free, rests, terms, waits}
use Rattle.sbp_world.proofs.Words.Target.{source_in, Disk, Purpose, Sent, desk_at, IsUnderWay, TransactionLaw}
use Rattle.sbp_world.proofs.Words.Laws.{target_at}
use Rattle.sbp_world.proofs.Words.World.{WorldState, Stands, Awaits, ArePurposesAt, HasPurpose}
use Rattle.bus_transactions.proofs.Reaches.{goes_on}
use Rattle.bus_transactions.proofs.Rooms.{position_map}
use Rattle.label_table.specs.declared.place.LabelState.TheVariants as states
use Rattle.label_table.specs.History as wire
use Rattle.label_table.proofs.Calls.{after_kept}
use Rattle.sbp_target.specs.declared.purpose.Purpose.TheVariants as purposes
use Rattle.sbp_world.proofs.Wire.Bus.{holds}
use Rattle.sbp_world.proofs.Wire.Entered.{number_small}
use Rattle.sbp_world.proofs.Wire.Found.{IsKnown, has_known}
use Rattle.sbp_world.proofs.Wire.Holding.{KnownTo}
use Rattle.sbp_target.proofs.Histories.Calling.{Good}
use Rattle.sbp_target.proofs.Histories.Seats.{IsFor}
use Rattle.sbp_world.proofs.Agents.Management.Holding.{Holding, good_of, known_id, law_of, past_terms, same_id}
use Rattle.sbp_world.proofs.Agents.Management.Still.{hist}
use Rattle.sbp_world.specs.Agents.Purposes.{HasRequest}

-- ---- labels of a layer, and of the layer without what its transactions are for
pub peer_bare : (P : Type 0) → bare_place {P = P} no_peer ≡ no_peer
peer_bare P = ap (λ xs. record { peer = None; table = (no_peer {P = P}).table; purposes = xs }) refl

module _ {P : Type 0} where
  owned_bare : (peer : ℕ) (peers : List (PeerPlace P)) → owned_place peer_of peer (map bare_place peers) ≡ owned_place peer_of peer peers
  unfolding owned_place
  owned_bare peer peers =
      ap (λ o. or_else o (position (is_owned_by peer_of None) (map bare_place peers))) (position_map (is_owned_by peer_of (Some peer)) bare_place peers)
      ∙ ap (or_else (position (is_owned_by peer_of (Some peer)) peers)) (position_map (is_owned_by peer_of None) bare_place peers)

  looked_at_bare : {B : Type 0} (look : Place → B) (blank : B) (number : ℕ) (peers : List (PeerPlace P)) (k : Option ℕ) → shown_in (λ (place : PeerPlace (Unit {0})). look (place_at place.table number)) no_peer blank k (map bare_place peers) ≡ shown_in (λ (place : PeerPlace P). look (place_at place.table number)) no_peer blank k peers
  looked_at_bare look blank number peers None = refl
  looked_at_bare look blank number peers (Some k) =
      ap (λ (vacant : PeerPlace (Unit {0})). look (place_at (slice_index_or (map bare_place peers) k vacant).table number)) (sym (peer_bare P))
      ∙ ap (λ (place : PeerPlace (Unit {0})). look (place_at place.table number)) (get_or-map bare_place peers k no_peer)

  looked_bare : {B : Type 0} (look : Place → B) (blank : B) (layer : Layer P) (peer number : ℕ) → shown_in (λ (place : PeerPlace (Unit {0})). look (place_at place.table number)) no_peer blank (owned_place peer_of peer (bare layer).peers) (bare layer).peers ≡ shown_in (λ (place : PeerPlace P). look (place_at place.table number)) no_peer blank (owned_place peer_of peer layer.peers) layer.peers
  looked_bare look blank layer peer number =
      ap (λ k. shown_in (λ (place : PeerPlace (Unit {0})). look (place_at place.table number)) no_peer blank k (map bare_place layer.peers)) (owned_bare peer layer.peers)
      ∙ looked_at_bare look blank number layer.peers (owned_place peer_of peer layer.peers)

  pub state_bare : (layer : Layer P) (peer number : ℕ) → state_for (bare layer).peers peer number ≡ state_for layer.peers peer number
  state_bare layer peer number = looked_bare (λ place. place.state) states.Free layer peer number

  pub last_bare : (layer : Layer P) (peer number : ℕ) → last_for (bare layer).peers peer number ≡ last_for layer.peers peer number
  last_bare layer peer number = looked_bare (λ place. place.last) None layer peer number

-- ---- a label that waits, at its table and on the wire
pub record Waits (held : Held) : Type 0 where
  pub kind : Kind
  pub serial : ℕ
  pub is : held ≡ waits kind serial

pub held_waits : (held : Held) (kind : ReplyKind) → awaits kind ≡ shape_of held → Waits held
held_waits free kind e = cc
held_waits rests kind e = cc
held_waits (waits k s) kind e = record { kind = k; serial = s; is = refl }

record Calls (state : LabelState) (kind : ReplyKind) : Type 0 where
  call : ℕ
  is : state ≡ states.UnderWay kind call

state_waits : (state : LabelState) (kind : ReplyKind) → shape state ≡ awaits kind → Calls state kind
state_waits states.Free kind e = cc
state_waits states.Resting kind e = cc
state_waits (states.UnderWay k call) kind e = let same : k ≡ kind = cc in record { call = call; is = ap (λ x. states.UnderWay x call) same }

module _ (units ready : ℕ) (has : 0 < units) (start : List Disk) {past : List Moment} {lines : ℕ} (w : WorldState) (h : Holding units ready start past lines w) where
  abbrev stands : Stands past w
  stands = h.sound.stands

  pub g : Good w.target
  g = good_of units ready h.calls w.target has h.made

  pub law : TransactionLaw w.target
  law = law_of units ready h.calls w.target has h.made

  abbrev t : Terms
  t = terms (hist past w)

  abbrev ids : ℕ → ℕ
  ids = t.ids (t.generation 0)

  abbrev layer : Layer Purpose
  layer = w.target.layer

  layer_is : stands.wire.layer 0 ≡ bare layer
  layer_is = stands.is.layers_are 0 (omega arith)

  -- the labels of the target are those of the wire
  pub labels : (peer number : ℕ) → shape (state_for layer.peers (ids peer) number) ≡ shape_of (t.held (transaction (t.generation 0) 0 peer number))
  labels peer number =
      subst (λ (x : Terms). shape (state_for layer.peers (x.ids (x.generation 0) peer) number) ≡ shape_of (x.held (transaction (x.generation 0) 0 peer number))) (past_terms w stands)
      (let x : Terms = terms stands.wire.past in
      let node = (holds stands.wire stands.reached).nodes 0 in
      sym (ap shape (ap (λ (l : Node). state_for l.peers (x.ids (x.generation 0) peer) number) layer_is ∙ state_bare layer (x.ids (x.generation 0) peer) number)) ∙ node.states_are peer number)

  -- ---- what a desk keeps has its request
  module _ (place : ℕ) (sent : Sent) (f : IsFor g.lives (purposes.Agent place) sent) (known : KnownTo w.generations.seen sent.peer) where
    abbrev number : ℕ
    number = sent.label.number

    aimed : IsKnown w 0 sent.peer
    aimed = has_known (topology_at w.generations 0) (length w.initiators) sent.peer (stands.is.sizes 0 (omega arith)) known

    peer_is : ids aimed.node ≡ sent.peer
    peer_is = known_id w stands aimed.node aimed.there ∙ aimed.id_is

    life : wire.life sent.peer sent.label (wire.history 0xffc0 g.mid.known.steps) ≡ under_way f.kind (Some (purposes.Agent place))
    life = sym (g.mid.known.lives_are sent.peer sent.label) ∙ f.life

    -- at its table, by the whole of its label
    pub state_is : state_for layer.peers sent.peer number ≡ states.UnderWay f.kind sent.label.serial
    state_is =
        ap (λ (x : Layer Purpose). state_for x.peers sent.peer number) (sym g.mid.known.layer_is)
        ∙ (after_kept 0xffc0 g.mid.known.steps).agree.stands sent.peer sent.label f.kind (Some (purposes.Agent place)) life

    generation_is : sent.label.generation ≡ (stands.wire.layer 0).generation
    generation_is =
        (after_kept 0xffc0 g.mid.known.steps).agree.now sent.peer sent.label f.kind (Some (purposes.Agent place)) life
        ∙ ap (λ (x : Layer Purpose). x.generation) g.mid.known.layer_is
        ∙ sym (ap (λ (l : Node). l.generation) layer_is)

    pub label_generation : sent.label.generation ≡ layer.generation
    label_generation = generation_is ∙ ap (λ (l : Node). l.generation) layer_is

    waiting : Waits (t.held (transaction (t.generation 0) 0 aimed.node number))
    waiting =
        held_waits (t.held (transaction (t.generation 0) 0 aimed.node number)) f.kind
        (sym (ap shape state_is) ∙ ap (λ i. shape (state_for layer.peers i number)) (sym peer_is) ∙ labels aimed.node number)

    -- and the bus has it under this label
    abbrev x : Terms
    x = terms stands.wire.past

    abbrev wire_layer : Node
    wire_layer = stands.wire.layer 0

    wire_generation : wire_layer.generation ≡ x.generation 0
    wire_generation = ((holds stands.wire stands.reached).nodes 0).generation

    wire_peer : x.ids wire_layer.generation aimed.node ≡ sent.peer
    wire_peer =
        ap (λ n. x.ids n aimed.node) wire_generation ∙ ap (λ (y : Terms). y.ids (y.generation 0) aimed.node) (past_terms w stands) ∙ peer_is

    wire_state : state_for wire_layer.peers (x.ids wire_layer.generation aimed.node) number ≡ states.UnderWay f.kind sent.label.serial
    wire_state =
        ap (λ i. state_for wire_layer.peers i number) wire_peer ∙ ap (λ (l : Node). state_for l.peers sent.peer number) layer_is ∙ state_bare layer sent.peer number ∙ state_is

    abbrev handle : LabelParts
    handle = record { number = number; generation = wire_layer.generation; serial = sent.label.serial }

    label_is : handle ≡ sent.label
    label_is = ap (λ n. record { number = number; generation = n; serial = sent.label.serial }) (sym generation_is)

    small : number < 64
    small = number_small wire_layer (x.ids wire_layer.generation aimed.node) number sent.label.serial f.kind ((holds stands.wire stands.reached).nodes 0).places wire_state

    abbrev entry : ℕ
    entry = serial_at w.requests 0 aimed.node number

    entered : find w.requests entry ≡ Some (request_of 0 (x.ids wire_layer.generation aimed.node) handle)
    entered = (stands.is.entered.entry 0 aimed.node number f.kind sent.label.serial (omega arith) aimed.there small wire_state).found

    wire_waits : x.held (transaction (x.generation 0) 0 aimed.node number) ≡ waits waiting.kind waiting.serial
    wire_waits = ap (λ (y : Terms). y.held (transaction (y.generation 0) 0 aimed.node number)) (past_terms w stands) ∙ waiting.is

    entry_is : entry ≡ waiting.serial
    entry_is =
        let latest = stands.is.knows.latest entry (request_of 0 (x.ids wire_layer.generation aimed.node) handle) entered in
        let to_is : latest.to ≡ aimed.node = goes_on.apart stands.wire wire_layer.generation latest.to aimed.node stands.reached (sym latest.peer_is) in
        sym latest.current_is
        ∙ ap (λ to. x.current (transaction wire_layer.generation 0 to number)) to_is
        ∙ ap (λ n. x.current (transaction n 0 aimed.node number)) wire_generation
        ∙ sym (goes_on.awaited stands.wire (transaction (x.generation 0) 0 aimed.node number) waiting.kind waiting.serial stands.reached wire_waits).current

    pub has_request : HasRequest t w.requests sent
    has_request = record {
      peer = aimed.node;
      kind = waiting.kind;
      serial = waiting.serial;
      peer_is = peer_is;
      waits_for = waiting.is;
      found = ap (find w.requests) (sym entry_is) ∙ entered ∙ ap (λ i. Some (request_of 0 i handle)) wire_peer ∙ ap (λ (l : LabelParts). Some (request_of 0 sent.peer l)) label_is;
    }

  pub main_has : (place : ℕ) → place < 8 → (sent : Sent) → (desk_at w.target place).main ≡ Some sent → HasRequest t w.requests sent
  main_has place b sent e =
      has_request place sent ((g.mid.seats place b).main_for sent e).0 ((h.sound.nodes.target_holds.fits.seats place).main sent e).0

  pub ahead_has : (place : ℕ) → place < 8 → (sent : Sent) → (desk_at w.target place).ahead ≡ Some sent → HasRequest t w.requests sent
  ahead_has place b sent e =
      has_request place sent ((g.mid.seats place b).ahead_for sent e).0 ((h.sound.nodes.target_holds.fits.seats place).ahead sent e).0

  -- ---- what waits is for something
  abbrev manages : Option ℕ
  manages = (target_at start (hist past w)).manages

  pub operation_by : (peer number : ℕ) (kind : Kind) (serial : ℕ) → t.held (transaction (t.generation 0) 0 peer number) ≡ waits kind serial → IsUnderWay layer (Some purposes.Management) (ids peer) number → (source : Option ℕ) → source_in w.target.manager.operation ≡ source → Awaits t layer source manages → manages ≡ Some serial
  operation_by peer number kind serial e under None f a = absurd (law.none_has f (ids peer) number under)
  operation_by peer number kind serial e under (Some source) f a =
      let one = law.operation_has source f in
      let here = one.only (ids peer) number under in
      let there = one.only source a.number a.under_way in
      let number_is : a.number ≡ number = there.1 ∙ sym here.1 in
      let peer_is : a.peer ≡ peer = same_id w stands a.peer peer (a.peer_is ∙ sym here.0) in
      let both : waits a.kind a.serial ≡ waits kind serial =
      sym a.waits_for ∙ ap (λ p. t.held (transaction (t.generation 0) 0 p a.number)) peer_is ∙ ap (λ n. t.held (transaction (t.generation 0) 0 peer n)) number_is ∙ e in
      let serial_is : a.serial ≡ serial = cc in
      a.manages_is ∙ ap Some serial_is

  pub has_purpose : (peer number : ℕ) (kind : Kind) (serial : ℕ) → t.held (transaction (t.generation 0) 0 peer number) ≡ waits kind serial → HasPurpose t w.target manages peer number serial
  has_purpose peer number kind serial e =
      let s = state_waits (state_for layer.peers (ids peer) number) (kind_as kind) (labels peer number ∙ ap shape_of e) in
      let purpose = purpose_for layer.peers (ids peer) number in
      let under : IsUnderWay layer purpose (ids peer) number = record { kind = kind_as kind; serial = s.call; waits = s.is; is_for = refl } in
      record {
        purpose = purpose;
        under_way = under;
        agent = λ place f.
            let own : IsUnderWay layer (Some (purposes.Agent place)) (ids peer) number = subst (λ p. IsUnderWay layer p (ids peer) number) f under in
            let b = law.places place (ids peer) number own in
            (b, (law.agents_have place b).no_more (ids peer) number own);
        operation = λ f. operation_by peer number kind serial e (subst (λ p. IsUnderWay layer p (ids peer) number) f under) (source_in w.target.manager.operation) refl h.at.awaits;
      }

  pub are_purposes : ArePurposesAt start (hist past w) w
  are_purposes = record { main = main_has; ahead = ahead_has; all = has_purpose }
