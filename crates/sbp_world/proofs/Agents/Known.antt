-- Over each turn of a world the bus knows the requests that the target has sent.
use Rattle.sbp_world.proofs.Words.Std.{arith, ◌≡◌, ◌∙◌, ◌⊎◌, refl, sym, ap, subst, inl, inr, ℕ, suc, ◌+◌, ◌<◌, ◌≤◌, ◌||◌, not, nat_lt, Bool, true, false, cond, List, [], ◌∷◌, length, Option, Some, None, position, slice_index_or, position-Some}
use Rattle.sbp_world.proofs.Words.Wire.{LabelParts, bare, Node, transaction, ReplyKind, Layer, expiring_step, judging_step, state_for, StoredSent, found_sent, is_flying, Stored, deliver_step, Topology, BusRequest, GenerationsState, id_of, is_at, node_of, one_of_five, topology_at, judged_note, RequestsState, find, place_of, serial_at, request_of, Moment, Transaction, terms, Outgoing, OutboxState}
use Rattle.sbp_world.proofs.Words.Target.{Disk, Held, Told, Purpose, alone, lets_expire, sees, ticks, NodeState, new_node, received, with_key}
use Rattle.sbp_world.proofs.Words.World.{marked, whole_of, BytesTold, handed_out, told_seen, with_seen, told_all, WorldState, with_note, with_target, Stands, Has, Request, with_request, with_requests, AllLeave, AreKnown}
use Rattle.bus_transactions.proofs.Facts.{asked_is, begun_asked}
use Rattle.label_table.specs.declared.place.LabelState.TheVariants as states
use Rattle.label_table.specs.History as wire
use Rattle.label_table.proofs.Calls.{after_kept}
use Rattle.label_table.proofs.Told.{under_way_is}
use Rattle.sbp_journal.specs.declared.note.Note.TheVariants as notes
use Rattle.sbp_world.proofs.FitTarget.Law.{fitting_law}
use Rattle.sbp_world.proofs.Wire.Alike.{told_alike}
use Rattle.sbp_world.proofs.Wire.Bus.{holds}
use Rattle.sbp_world.proofs.Wire.Entered.{number_small}
use Rattle.sbp_world.proofs.Wire.TargetForgets.{seen_stays, ticked_stays}
use Rattle.sbp_world.proofs.Wire.Holding.{KnownTo, known_small, target_has}
use Rattle.sbp_world.proofs.Wire.Nodes.{handed_alike, marked_alike}
use Rattle.sbp_world.proofs.Agents.Management.Holding.{Holding, ours}
use Rattle.sbp_world.proofs.Agents.Entries.{AllWritten, Placed, Sized, Stays, all_placed, all_told_requests, all_written, found_here, found_positive, own_stays, quiet_requests}
use Rattle.sbp_world.proofs.Agents.Fresh.{Apart, Started, delivery_apart, expiry_apart, lives_of, one_started, one_waited}
use Rattle.sbp_world.proofs.Agents.Leaving.{packets_leave, source_known}
use Rattle.sbp_world.proofs.Agents.Peers.{all_told_store}
use Rattle.sbp_world.proofs.Agents.Purposes.{state_bare}
use Rattle.sbp_world.proofs.Agents.Serials.{Within, requests_within}

-- What is kept: each request was given its label by the layer, in these calls of it; and the bus knows those that are under way.
pub record AreSent (requests : List Request) (node : NodeState) (bus : RequestsState) : Type 0 where
  pub calls : List (wire.Call Purpose)
  pub layer_is : wire.after 0xffc0 calls ≡ node.layer
  pub begun : (r : Request) → Has requests r → Started (lives_of calls r.to r.label)
  pub known : AreKnown requests node bus

pub sent_first : (units ready : ℕ) (bus : RequestsState) → AreSent [] (new_node units ready) bus
sent_first units ready bus = record { calls = []; layer_is = refl; begun = λ r h. absurd h; known = record { known = λ r h. absurd h } }

-- ---- lists of requests
one_within : (to serial : ℕ) (label : Option LabelParts) (before now : List Request) → Within before now → Within (with_request to label serial before) (with_request to label serial now)
one_within to serial None before now w r h = w r h
one_within to serial (Some label) before now w r (inl same) = inl same
one_within to serial (Some label) before now w r (inr h) = inr (w r h)

all_within : (last : ℕ) (packets : List Outgoing) (before now : List Request) → Within before now → Within (with_requests last packets before) (with_requests last packets now)
all_within last [] before now w = w
all_within last (packet ∷ later) before now w =
    all_within (last + 1) later (with_request packet.to packet.label (last + 1) before) (with_request packet.to packet.label (last + 1) now) (one_within packet.to (last + 1) packet.label before now w)

none_within : (requests : List Request) → Within [] requests
none_within requests r h = absurd h

one_split : (to serial : ℕ) (label : Option LabelParts) (requests : List Request) (r : Request) → Has (with_request to label serial requests) r → Has (with_request to label serial []) r ⊎ Has requests r
one_split to serial None requests r h = inr h
one_split to serial (Some label) requests r (inl same) = inl (inl same)
one_split to serial (Some label) requests r (inr h) = inr h

-- a request is of the packets, or was there before
all_split : (last : ℕ) (packets : List Outgoing) (requests : List Request) (r : Request) → Has (with_requests last packets requests) r → Has (with_requests last packets []) r ⊎ Has requests r
all_split last [] requests r h = inr h
all_split last (packet ∷ later) requests r h = by (all_split (last + 1) later (with_request packet.to packet.label (last + 1) requests) r h)
  where
    first : List Request
    first = with_request packet.to packet.label (last + 1) []

    by_first : Has first r ⊎ Has requests r → Has (with_requests (last + 1) later first) r ⊎ Has requests r
    by_first (inl f) = inl (requests_within (last + 1) later first r f)
    by_first (inr f) = inr f

    by : Has (with_requests (last + 1) later []) r ⊎ Has (with_request packet.to packet.label (last + 1) requests) r → Has (with_requests (last + 1) later first) r ⊎ Has requests r
    by (inl f) = inl (all_within (last + 1) later [] first (none_within first) r f)
    by (inr f) = by_first (one_split packet.to (last + 1) packet.label requests r f)

-- ---- a label that is under way in a layer is so in the lives of its calls
module _ (calls : List (wire.Call Purpose)) (layer : Layer Purpose) (led : wire.after 0xffc0 calls ≡ layer) (peer : ℕ) (label : LabelParts) where
  pub life_waits : (kind : ReplyKind) → label.generation ≡ layer.generation → state_for layer.peers peer label.number ≡ states.UnderWay kind label.serial → wire.IsUnderWay (lives_of calls peer label)
  life_waits kind g s =
      let life = (after_kept 0xffc0 calls).agree.waits peer label kind (g ∙ sym (ap (λ (l : Layer Purpose). l.generation) led)) (ap (λ (l : Layer Purpose). state_for l.peers peer label.number) led ∙ s) in
      subst wire.IsUnderWay (sym life) tt

  record Under : Type 0 where
    kind : ReplyKind
    generation_is : label.generation ≡ layer.generation
    state_is : state_for layer.peers peer label.number ≡ states.UnderWay kind label.serial

  layer_waits : wire.IsUnderWay (lives_of calls peer label) → Under
  layer_waits u =
      let w = under_way_is (lives_of calls peer label) u in
      record {
        kind = w.0;
        generation_is = (after_kept 0xffc0 calls).agree.now peer label w.0 w.1 w.2 ∙ ap (λ (l : Layer Purpose). l.generation) led;
        state_is = sym (ap (λ (l : Layer Purpose). state_for l.peers peer label.number) led) ∙ (after_kept 0xffc0 calls).agree.stands peer label w.0 w.1 w.2;
      }

-- ---- the node of an ID, as the target knows the nodes
record Reaches (w : WorldState) (id to : ℕ) : Type 0 where
  there : to ≤ length w.initiators
  id_is : id_of (topology_at w.generations 0) to ≡ id

module _ {past : List Moment} (w : WorldState) (stands : Stands past w) where
  sized : Sized w.requests
  sized = record { serials = stands.is.knows.size; requests = stands.is.knows.room }

  small_place : (to number : ℕ) → to ≤ length w.initiators → number < 64 → place_of 0 to number < 1600
  small_place to number l small = let few = stands.is.few in omega arith

  -- a node that has it on the bus
  reaches : (id to : ℕ) → node_of w.generations 0 id ≡ Some to → Reaches w id to
  reaches id to e = by (position (is_at id) top.ids) refl e
    where
      top : Topology
      top = topology_at w.generations 0

      by_five : (node : ℕ) (b : Bool) → position (is_at id) top.ids ≡ Some node → cond b (Some node) None ≡ Some to → Reaches w id to
      by_five node false f e = absurd (let x : None ≡ Some to = e in cc)
      by_five node true f e =
          let same : node ≡ to = cc in
          let p = position-Some (is_at id) top.ids node 0 f in
          let size = stands.is.sizes 0 (omega arith) in
          let inside = p.0 in
          let at : is_at id (slice_index_or top.ids node 0) ≡ true = p.1 in
          let is : id_of top node ≡ id = grind arith in
          subst (Reaches w id) same (record { there = omega arith; id_is = is })

      by : (o : Option ℕ) → position (is_at id) top.ids ≡ o → one_of_five o ≡ Some to → Reaches w id to
      by None f e = absurd (let x : None ≡ Some to = e in cc)
      by (Some node) f e = by_five node (nat_lt node 5) f e

  -- ---- a request of the target under a label that is under way is found at its place
  record Entered (id : ℕ) (label : LabelParts) (to : ℕ) : Type 0 where
    small : label.number < 64
    found : find w.requests (serial_at w.requests 0 to label.number) ≡ Some (request_of 0 id label)
    there : slice_index_or w.requests.requests (place_of 0 to label.number) None ≡ Some (request_of 0 id label)

  entered : (id : ℕ) (label : LabelParts) (kind : ReplyKind) (to : ℕ) → Reaches w id to → label.generation ≡ w.target.layer.generation → state_for w.target.layer.peers id label.number ≡ states.UnderWay kind label.serial → Entered id label to
  entered id label kind to r generation_is state_is =
      let number = label.number in
      let layer = stands.wire.layer 0 in
      let ids = (terms stands.wire.past).ids in
      let layer_is : layer ≡ bare w.target.layer = stands.is.layers_are 0 (omega arith) in
      let peer_is : ids layer.generation to ≡ id = ap (λ g. ids g to) (stands.is.sights 0 (omega arith)) ∙ stands.is.known_ids 0 to (omega arith) r.there ∙ r.id_is in
      let wire_state : state_for layer.peers (ids layer.generation to) number ≡ states.UnderWay kind label.serial =
      ap (λ i. state_for layer.peers i number) peer_is ∙ ap (λ (l : Node). state_for l.peers id number) layer_is ∙ state_bare w.target.layer id number ∙ state_is in
      let small = number_small layer (ids layer.generation to) number label.serial kind ((holds stands.wire stands.reached).nodes 0).places wire_state in
      let entry = stands.is.entered.entry 0 to number kind label.serial (omega arith) r.there small wire_state in
      let wire_label : LabelParts = record { number = number; generation = layer.generation; serial = label.serial } in
      let label_is : wire_label ≡ label = ap (λ g. record { number = number; generation = g; serial = label.serial }) (ap (λ (l : Node). l.generation) layer_is ∙ sym generation_is) in
      let found : find w.requests (serial_at w.requests 0 to number) ≡ Some (request_of 0 id label) =
      entry.found ∙ ap (λ i. Some (request_of 0 i wire_label)) peer_is ∙ ap (λ (l : LabelParts). Some (request_of 0 id l)) label_is in
      record {
        small = small;
        found = found;
        there = sym (found_here w.requests stands.is.knows.size stands.is.knows.apart (place_of 0 to number) (small_place to number r.there small) entry.written) ∙ found;
      }

  -- ---- the place of a request that is found
  record Standing (id : ℕ) (label : LabelParts) (serial : ℕ) : Type 0 where
    to : ℕ
    reaches : Reaches w id to
    place_is : serial_at w.requests 0 to label.number ≡ serial

  standing : (id : ℕ) (label : LabelParts) (serial : ℕ) → label.generation ≡ w.target.layer.generation → find w.requests serial ≡ Some (request_of 0 id label) → Standing id label serial
  standing id label serial generation_is found =
      let t = terms stands.wire.past in
      let l = stands.is.knows.latest serial (request_of 0 id label) found in
      let u = transaction label.generation 0 l.to label.number in
      let positive = found_positive w.requests stands.is.knows.blank serial (request_of 0 id label) found in
      let a = (holds stands.wire stands.reached).facts.asked u (subst (λ n. 0 < n) (sym l.current_is) positive) in
      let b = asked_is a.packet u (begun_asked a.packet u a.begun).1 in
      let to_is : l.to ≡ a.packet.to = ap (λ (x : Transaction). x.responder) b.is in
      let there : l.to ≤ length w.initiators = subst (λ n. n ≤ length w.initiators) (sym to_is) (stands.is.knows.ours (t.current u) a.packet a.sent_is).to in
      let generation : label.generation ≡ (topology_at w.generations 0).generation =
      generation_is ∙ sym (ap (λ (n : Node). n.generation) (stands.is.layers_are 0 (omega arith))) ∙ stands.is.sights 0 (omega arith) in
      record {
        to = l.to;
        reaches = record {
          there = there;
          id_is = sym (stands.is.known_ids 0 l.to (omega arith) there) ∙ sym (ap (λ g. t.ids g l.to) generation) ∙ sym l.peer_is;
        };
        place_is = l.place_is;
      }

-- ---- what leaves has a node
record Aimed (generations : GenerationsState) (id : ℕ) : Type 0 where
  to : ℕ
  there : node_of generations 0 id ≡ Some to

module _ (generations : GenerationsState) where
  one_aimed : (packet : Outgoing) (serial to : ℕ) → node_of generations 0 packet.to ≡ Some to → (label : Option LabelParts) (r : Request) → Has (with_request packet.to label serial []) r → Aimed generations r.to
  one_aimed packet serial to there None r h = absurd h
  one_aimed packet serial to there (Some label) r (inl same) = subst (λ (x : Request). Aimed generations x.to) same (record { to = to; there = there })
  one_aimed packet serial to there (Some label) r (inr h) = absurd h

  all_aimed : (last : ℕ) (packets : List Outgoing) → AllLeave generations packets → (r : Request) → Has (with_requests last packets []) r → Aimed generations r.to
  all_aimed last [] a r h = absurd h
  all_aimed last (packet ∷ later) a r h =
      by (λ f. all_aimed (last + 1) later a.1 r f) (all_split (last + 1) later (with_request packet.to packet.label (last + 1) []) r h)
    where
      by : (Has (with_requests (last + 1) later []) r → Aimed generations r.to) → Has (with_requests (last + 1) later []) r ⊎ Has (with_request packet.to packet.label (last + 1) []) r → Aimed generations r.to
      by rest (inl f) = rest f
      by rest (inr f) = one_aimed packet (last + 1) a.0.to a.0.there packet.label r f

-- ---- two requests of a place are one
record Alike (a b : Request) : Type 0 where
  to_is : a.to ≡ b.to
  label_is : a.label ≡ b.label

alike : (a b : Request) (o : Option BusRequest) → o ≡ Some (request_of 0 a.to a.label) → o ≡ Some (request_of 0 b.to b.label) → Alike a b
alike a b o e f =
    let both : Some (request_of 0 a.to a.label) ≡ Some (request_of 0 b.to b.label) = sym e ∙ f in
    let same : request_of 0 a.to a.label ≡ request_of 0 b.to b.label = cc in
    record { to_is = ap (λ (x : BusRequest). x.peer) same; label_is = ap (λ (x : BusRequest). x.label) same }

-- ---- the target hands out what its layer gave in a call
module _ {past : List Moment} (w : WorldState) (stands : Stands past w) (requests : List Request) (k : AreSent requests w.target w.requests) (call : wire.Call Purpose) (v : WorldState) (same_requests : v.requests ≡ w.requests) (same_generations : v.generations ≡ w.generations) (same_initiators : v.initiators ≡ w.initiators) (outbox : OutboxState) (a : Apart (call ∷ k.calls) v.target.layer outbox.packets) (leave : AllLeave w.generations outbox.packets) {later : List Moment} (stands_now : Stands later (handed_out 0 0 outbox v)) where
  abbrev now : WorldState
  now = handed_out 0 0 outbox v

  abbrev told_world : WorldState
  told_world = told_all 0 outbox.sides v

  abbrev last : ℕ
  last = v.store.last

  told_is : told_world.requests ≡ w.requests
  told_is = all_told_requests 0 outbox.sides v ∙ same_requests

  told_generations : told_world.generations ≡ w.generations
  told_generations = (told_alike 0 outbox.sides v).generations ∙ same_generations

  told_last : told_world.store.last ≡ last
  told_last = ap (λ (s : Stored). s.last) (all_told_store 0 outbox.sides v)

  told_leave : AllLeave told_world.generations outbox.packets
  told_leave = subst (λ (g : GenerationsState). AllLeave g outbox.packets) (sym told_generations) leave

  told_sized : Sized told_world.requests
  told_sized = subst Sized (sym told_is) (sized w stands)

  layer_now : now.target.layer ≡ v.target.layer
  layer_now = ap (λ (n : NodeState). n.layer) (handed_alike 0 0 outbox v).target

  leads_now : wire.after 0xffc0 a.all ≡ now.target.layer
  leads_now = a.leads ∙ sym layer_now

  reaches_now : (id to : ℕ) → Reaches w id to → Reaches now id to
  reaches_now id to r =
      let same = handed_alike 0 0 outbox v in
      record {
        there = subst (λ n. to ≤ n) (sym (ap length (same.initiators ∙ same_initiators))) r.there;
        id_is = ap (λ (g : GenerationsState). id_of (topology_at g 0) to) (same.generations ∙ same_generations) ∙ r.id_is;
      }

  -- where requests of this turn stand
  placed : (place : ℕ) → place < 1600 → Placed (with_requests last outbox.packets []) w.requests now.requests place
  placed place small =
      subst (λ n. Placed (with_requests n outbox.packets []) w.requests now.requests place) told_last
      (subst (λ (b : RequestsState). Placed (with_requests told_world.store.last outbox.packets []) b now.requests place) told_is
      (all_placed outbox.packets told_world [] told_leave told_sized place small))

  written : AllWritten w.generations (with_requests last outbox.packets []) now.requests
  written =
      subst (λ n. AllWritten w.generations (with_requests n outbox.packets []) now.requests) told_last
      (subst (λ (g : GenerationsState). AllWritten g (with_requests told_world.store.last outbox.packets []) now.requests) told_generations
      (all_written outbox.packets told_world [] told_leave told_sized (record { each = λ r h. absurd h })))

  module _ (r : Request) (kind : ReplyKind) (g : r.label.generation ≡ now.target.layer.generation) (s : state_for now.target.layer.peers r.to r.label.number ≡ states.UnderWay kind r.label.serial) where
    -- one of before
    old_began : Has requests r → Started (lives_of (call ∷ k.calls) r.to r.label)
    old_began h = one_started call k.calls r.to r.label (k.begun r h)

    old_waited : Has requests r → wire.IsUnderWay (lives_of k.calls r.to r.label)
    old_waited h =
        one_waited call k.calls r.to r.label (k.begun r h)
        (a.waited r.to r.label (old_began h) (life_waits a.all now.target.layer leads_now r.to r.label kind g s))

    old_found : (h : Has requests r) → find now.requests r.serial ≡ Some (request_of 0 r.to r.label)
    old_found h =
        let u = layer_waits k.calls w.target.layer k.layer_is r.to r.label (old_waited h) in
        let at = standing w stands r.to r.label r.serial u.generation_is (k.known.known r h u.kind u.generation_is u.state_is) in
        let e = entered now stands_now r.to r.label kind at.to (reaches_now r.to at.to at.reaches) g s in
        by at.to at.place_is e.found e.there (placed (place_of 0 at.to r.label.number) (small_place w stands at.to r.label.number at.reaches.there e.small))
      where
        by : (to : ℕ) → serial_at w.requests 0 to r.label.number ≡ r.serial → find now.requests (serial_at now.requests 0 to r.label.number) ≡ Some (request_of 0 r.to r.label) → slice_index_or now.requests.requests (place_of 0 to r.label.number) None ≡ Some (request_of 0 r.to r.label) → Placed (with_requests last outbox.packets []) w.requests now.requests (place_of 0 to r.label.number) → find now.requests r.serial ≡ Some (request_of 0 r.to r.label)
        by to is found there (inl st) = ap (find now.requests) (sym (st.serial_is ∙ is)) ∙ found
        by to is found there (inr wr) =
            let two = alike wr.request r _ wr.request_is there in
            absurd (a.fresh last wr.request wr.has (subst (λ (l : LabelParts). Started (lives_of (call ∷ k.calls) wr.request.to l)) (sym two.label_is) (subst (λ p. Started (lives_of (call ∷ k.calls) p r.label)) (sym two.to_is) (old_began h))))

    -- one of this turn
    new_found : Has (with_requests last outbox.packets []) r → find now.requests r.serial ≡ Some (request_of 0 r.to r.label)
    new_found h =
        let aim = all_aimed w.generations last outbox.packets leave r h in
        let at = reaches w stands r.to aim.to aim.there in
        let e = entered now stands_now r.to r.label kind aim.to (reaches_now r.to aim.to at) g s in
        let wr = written.each r h aim.to aim.there (small_place w stands aim.to r.label.number at.there e.small) in
        let two = alike wr.request r _ wr.request_is e.there in
        let is = wr.serial_is ∙ a.unique last wr.request r wr.has h two.to_is two.label_is in
        ap (find now.requests) (sym is) ∙ e.found

    either : Has (with_requests last outbox.packets []) r ⊎ Has requests r → find now.requests r.serial ≡ Some (request_of 0 r.to r.label)
    either (inl h) = new_found h
    either (inr h) = old_found h

  begun_now : (r : Request) → Has (with_requests last outbox.packets []) r ⊎ Has requests r → Started (lives_of a.all r.to r.label)
  begun_now r (inl h) = a.started last r h
  begun_now r (inr h) = a.longer r.to r.label (one_started call k.calls r.to r.label (k.begun r h))

  hands_known : AreSent (with_requests last outbox.packets requests) now.target now.requests
  hands_known = record {
    calls = a.all;
    layer_is = leads_now;
    begun = λ r h. begun_now r (all_split last outbox.packets requests r h);
    known = record { known = λ r h kind g s. either r kind g s (all_split last outbox.packets requests r h) };
  }

-- ---- the target hands out no packet
module _ (requests : List Request) (node : NodeState) (bus : RequestsState) (k : AreSent requests node bus) where
  rests : (now : NodeState) (other : RequestsState) → now.layer ≡ node.layer → other ≡ bus → AreSent requests now other
  rests new other e f = record {
    calls = k.calls;
    layer_is = k.layer_is ∙ sym e;
    begun = k.begun;
    known = record {
      known = λ r h kind g s.
          ap (λ (b : RequestsState). find b r.serial) f
          ∙ k.known.known r h kind (g ∙ ap (λ (l : Layer Purpose). l.generation) e) (sym (ap (λ (l : Layer Purpose). state_for l.peers r.to r.label.number) e) ∙ s);
    };
  }

  -- but its layer has had a call
  calls_once : (call : wire.Call Purpose) (now : NodeState) (other : RequestsState) → wire.done call node.layer ≡ now.layer → other ≡ bus → AreSent requests now other
  calls_once call new other e f =
      let led : wire.after 0xffc0 (call ∷ k.calls) ≡ new.layer = ap (wire.done call) k.layer_is ∙ e in
      record {
        calls = call ∷ k.calls;
        layer_is = led;
        begun = λ r h. one_started call k.calls r.to r.label (k.begun r h);
        known = record {
          known = λ r h kind g s.
              let waited = one_waited call k.calls r.to r.label (k.begun r h) (life_waits (call ∷ k.calls) new.layer led r.to r.label kind g s) in
              let u = layer_waits k.calls node.layer k.layer_is r.to r.label waited in
              ap (λ (b : RequestsState). find b r.serial) f ∙ k.known.known r h u.kind u.generation_is u.state_is;
        };
      }

quiet_known : (requests : List Request) (outbox : OutboxState) (v : WorldState) → outbox.packets ≡ [] → AreSent requests v.target v.requests → AreSent (with_requests v.store.last outbox.packets requests) (handed_out 0 0 outbox v).target (handed_out 0 0 outbox v).requests
quiet_known requests outbox v none k =
    let now = handed_out 0 0 outbox v in
    subst (λ ps. AreSent (with_requests v.store.last ps requests) now.target now.requests) (sym none)
    (rests requests v.target v.requests k now.target now.requests (ap (λ (n : NodeState). n.layer) (handed_alike 0 0 outbox v).target) (quiet_requests 0 0 outbox v none))

marked_requests : (serial : ℕ) (again : Bool) (w : WorldState) → (marked serial again w).requests ≡ w.requests
marked_requests serial again w = by (again || not (is_flying serial w.store.kept))
  where
    by : (b : Bool) → (cond b w (record w { store = deliver_step w.store serial })).requests ≡ w.requests
    by true = refl
    by false = refl

-- ---- the turns
module _ (units ready : ℕ) (has : 0 < units) (start : List Disk) {past : List Moment} {lines : ℕ} (w : WorldState) (h : Holding units ready start past lines w) (requests : List Request) (k : AreSent requests w.target w.requests) where
  abbrev K : ℕ → Type 0
  K = KnownTo w.generations.seen

  pub known_over_delivery : (serial : ℕ) (sent : StoredSent) → found_sent serial w.store.kept ≡ Some sent → sent.to ≡ 0 → (again : Bool) (run : Option Told) → BytesTold run → (media : Held) → (let r = received run sent.generation sent.bytes (whole_of w.target media) in let v = with_note (judged_note serial r.0) (marked serial again (with_target r.1.node w)) in let now = handed_out 0 0 r.1.outbox v in (later : List Moment) → Stands later now → AreSent (with_requests v.store.last r.1.outbox.packets requests) now.target now.requests)
  known_over_delivery serial sent found zero_to again run bytes_told media later stands_now =
      let r = received run sent.generation sent.bytes (whole_of w.target media) in
      let with_new = with_target r.1.node w in
      let v = with_note (judged_note serial r.0) (marked serial again with_new) in
      let m = marked_alike with_new serial again in
      let d = (fitting_law (target_has w.generations.seen) (target_has w.generations.seen)).deliveries run media.disks sent.generation sent.bytes w.target (known_small w.generations.seen) h.sound.nodes.target_holds
      (record { bytes_fit = (ours w h.sound.stands serial sent found).bytes; source = source_known units ready has start w h serial sent found; told_fits = bytes_told }) in
      let a = delivery_apart K w.target.layer k.calls k.layer_is sent.generation sent.bytes (judging_step w.target.layer sent.generation sent.bytes).0 r.0 r.1.node.layer r.1.outbox.packets d.delivers in
      hands_known w h.sound.stands requests k (wire.judges sent.generation sent.bytes) v (marked_requests serial again with_new) m.generations m.initiators r.1.outbox
      (subst (λ (l : Layer Purpose). Apart (wire.judges sent.generation sent.bytes ∷ k.calls) l r.1.outbox.packets) (sym (ap (λ (n : NodeState). n.layer) m.target)) a)
      ((packets_leave units ready has start w h).deliveries serial sent run media found zero_to bytes_told) stands_now

  pub known_over_lapse : (serial : ℕ) (request : BusRequest) → find w.requests serial ≡ Some request → request.node ≡ 0 → (let x = alone (lets_expire request.peer request.label) w.target in let v = with_note (notes.TimedOut serial) (with_target x.node w) in let now = handed_out 0 0 x.outbox v in (later : List Moment) → Stands later now → AreSent (with_requests v.store.last x.outbox.packets requests) now.target now.requests)
  known_over_lapse serial request found zero_node later stands_now =
      let x = alone (lets_expire request.peer request.label) w.target in
      let v = with_note (notes.TimedOut serial) (with_target x.node w) in
      let e = (fitting_law (target_has w.generations.seen) (target_has w.generations.seen)).expiries request.peer request.label w.target (known_small w.generations.seen) h.sound.nodes.target_holds in
      let a = expiry_apart K w.target.layer k.calls k.layer_is request.peer request.label (expiring_step w.target.layer request.peer request.label).0 x.node.layer x.outbox.packets e.expires in
      hands_known w h.sound.stands requests k (wire.lets_expire request.peer request.label) v refl refl refl x.outbox a
      ((packets_leave units ready has start w h).expiries serial request found zero_node) stands_now

  pub known_over_sight : (let x = alone (sees w.generations.latest.generation (id_of w.generations.latest 0)) w.target in let v = with_target x.node (with_seen 0 (told_seen 0 w)) in let now = handed_out 0 0 x.outbox v in AreSent (with_requests v.store.last x.outbox.packets requests) now.target now.requests)
  known_over_sight =
      let generation = w.generations.latest.generation in
      let id = id_of w.generations.latest 0 in
      let x = alone (sees generation id) w.target in
      let stays = seen_stays generation id w.target in
      quiet_known requests x.outbox (with_target x.node (with_seen 0 (told_seen 0 w))) stays.silent.unsent
      (calls_once requests w.target w.requests k (wire.sees generation id) x.node w.requests (sym stays.layer_is) refl)

  pub known_over_second : (let x = alone ticks w.target in let v = with_target x.node (with_note notes.Tick w) in let now = handed_out 0 0 x.outbox v in AreSent (with_requests v.store.last x.outbox.packets requests) now.target now.requests)
  known_over_second =
      let x = alone ticks w.target in
      let stays = ticked_stays w.target in
      quiet_known requests x.outbox (with_target x.node (with_note notes.Tick w)) stays.silent.unsent
      (rests requests w.target w.requests k x.node w.requests stays.layer_is refl)

  pub known_over_key : (unit : ℕ) (key : List ℕ) → AreSent requests (with_key unit key w.target) w.requests
  known_over_key unit key = rests requests w.target w.requests k (with_key unit key w.target) w.requests refl refl

  -- an initiator has a turn
  pub known_over_own : (i weight : ℕ) (outbox : OutboxState) (v : WorldState) → v.target ≡ w.target → v.requests ≡ w.requests → (let now = handed_out (suc i) weight outbox v in (later : List Moment) → Stands later now → AreSent requests now.target now.requests)
  known_over_own i weight outbox v same_target same_requests later stands_now = record {
    calls = k.calls;
    layer_is = k.layer_is ∙ sym layer_now;
    begun = k.begun;
    known = record {
      known = λ r m kind g s.
          still r.serial r.to r.label
          (k.known.known r m kind (g ∙ ap (λ (l : Layer Purpose). l.generation) layer_now) (sym (ap (λ (l : Layer Purpose). state_for l.peers r.to r.label.number) layer_now) ∙ s));
    };
  }
    where
      now : WorldState
      now = handed_out (suc i) weight outbox v

      told_world : WorldState
      told_world = told_all weight outbox.sides v

      told_is : told_world.requests ≡ w.requests
      told_is = all_told_requests weight outbox.sides v ∙ same_requests

      layer_now : now.target.layer ≡ w.target.layer
      layer_now = ap (λ (n : NodeState). n.layer) ((handed_alike (suc i) weight outbox v).target ∙ same_target)

      still : (serial id : ℕ) (label : LabelParts) → find w.requests serial ≡ Some (request_of 0 id label) → find now.requests serial ≡ Some (request_of 0 id label)
      still serial id label found =
          let knows = h.sound.stands.is.knows in
          let here = stands_now.is.knows in
          let l = knows.latest serial (request_of 0 id label) found in
          let place = place_of 0 l.to label.number in
          let a = l.to_small in
          let b = l.number_small in
          let positive = found_positive w.requests knows.blank serial (request_of 0 id label) found in
          let small : place < 320 = omega arith in
          let st = subst (λ (q : RequestsState). Stays q now.requests place) told_is (own_stays i place small outbox.packets told_world) in
          let is : slice_index_or now.requests.serials place 0 ≡ serial = st.serial_is ∙ l.place_is in
          let was : slice_index_or w.requests.requests place None ≡ Some (request_of 0 id label) =
          sym (found_here w.requests knows.size knows.apart place (omega arith) (subst (λ n. 0 < n) (sym l.place_is) positive)) ∙ ap (find w.requests) l.place_is ∙ found in
          ap (find now.requests) (sym is) ∙ found_here now.requests here.size here.apart place (omega arith) (subst (λ n. 0 < n) (sym is) positive) ∙ st.request_is ∙ was
