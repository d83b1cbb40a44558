-- After each turn of a world who has a place is known, and the target's peers are initiators.
use Rattle.sbp_world.proofs.Words.Std.{arith, ◌≡◌, ◌∙◌, refl, sym, ap, subst, ℕ, zero, suc, ◌-◌, ◌^◌, ◌<◌, ◌≤◌, ◌||◌, not, nat_lt, Bool, true, false, cond, List, [], ◌∷◌, length, Option, Some, None, Result, Ok, Err, get_or-set_at}
use Rattle.sbp_world.proofs.Words.Wire.{Packet, header_in, reading, Node, Stale, Layer, expiring_step, judging_step, seeing_step, seen_in_generation, Sent, found_sent, is_flying, Stored, deliver_step, Topology, Holder, Request, GenerationsState, id_of, no_topology, node_of, topology_at, judged_note, initiator_by, Judged, Side, OutboxState, empty_outbox, Moment, terms}
use Rattle.sbp_world.proofs.Words.Target.{Table, Operation, Disk, Told, Purpose, after, alone, lets_expire, sees, ticks, NodeState, TargetScene, scene, expired, received, reset_by, seen, with_key, Whole}
use Rattle.sbp_world.proofs.Words.Initiator.{Nothing}
use Rattle.sbp_world.proofs.Words.World.{marked, whole_of, BytesTold, FitsOperation, Holds, handed_out, keyed, no_unit, see_line, target_sees, target_ticks, tick_line, told_seen, with_seen, refused, target_left, timed_out, initiator_of, told, told_all, Scene, WorldState, with_note, with_target, Stands, CallsKeep, Agrees, Office}
use Rattle.bus_transactions.proofs.FitJudged.{found_as}
use Rattle.mgmt_agent.specs.Machine as management
use Rattle.sbp_journal.specs.declared.note.Note.TheVariants as notes
use Rattle.sbp_journal.specs.declared.side.Side.TheVariants as sides
use Rattle.sbp_world.specs.Nodes as nodes
use Rattle.sbp_world.specs.Packets as packets
use Rattle.sbp_world.proofs.FitTarget.Law.{fitting_law}
use Rattle.sbp_world.proofs.Wire.Alike.{told_alike}
use Rattle.sbp_world.proofs.Wire.Bus.{aged, holds}
use Rattle.sbp_world.proofs.Wire.TargetForgets.{seen_stays, ticked_stays}
use Rattle.sbp_world.proofs.Wire.Found.{has_known, known_has, node_found}
use Rattle.sbp_world.proofs.Wire.Holding.{known_small, latest_small}
use Rattle.sbp_world.proofs.Wire.Nodes.{handed_alike, marked_alike}
use Rattle.sbp_target.proofs.Histories.Calling.{Good}
use Rattle.sbp_world.proofs.Agents.Management.Calls.{forgets_if, management_law}
use Rattle.sbp_world.proofs.Agents.Management.Calm.{From}
use Rattle.sbp_world.proofs.Agents.Management.Holding.{Holding, good_of, is_of, known_id, ours, same_id, target_generation}
use Rattle.sbp_world.proofs.Formed.{AreOwn, IsOwn}
use Rattle.sbp_world.proofs.Agents.Management.Still.{hist}
use Rattle.sbp_world.proofs.Agents.Calling.{IsOwned, delivery_told, lapse_told, second_told, sight_told}
use Rattle.sbp_world.proofs.Agents.Leaving.{source_known}
use Rattle.sbp_world.proofs.Agents.Peers.{AllTo, AreNoLoops, Peer, all_sent_places, all_told_store, delivery_to, expiry_to, found_leaves, is_peer, marked_kept, none_to, own_sent, peer_known, peer_of, peer_other, target_sent}
use Rattle.sbp_world.proofs.Agents.Placed.{Placed, placed_for}
use Rattle.sbp_world.proofs.Agents.Telling.{Of}

-- what the target knows of the nodes
abbrev pub seen_by : WorldState → Topology
seen_by w = topology_at w.generations 0

pub record Seats (w : WorldState) : Type 0 where
  pub placed : Placed (Of (seen_by w)) w.target.logins.places w.places
  pub peers : Holds (Peer (seen_by w)) w.target
  pub leaves : AreNoLoops w.store.kept

pub marked_same : (serial : ℕ) (again : Bool) (w : WorldState) → (marked serial again w).places ≡ w.places
marked_same serial again w = by (again || not (is_flying serial w.store.kept))
  where
    by : (b : Bool) → (cond b w (record w { store = deliver_step w.store serial })).places ≡ w.places
    by true = refl
    by false = refl

-- ---- another world with the same nodes, logins and places
pub seats_same : (w v : WorldState) → seen_by v ≡ seen_by w → v.target ≡ w.target → v.places ≡ w.places → AreNoLoops v.store.kept → Seats w → Seats v
seats_same w v e t p h s = record {
  placed = subst (λ (x : Topology). Placed (Of x) v.target.logins.places v.places) (sym e)
      (subst (λ (n : NodeState). Placed (Of (seen_by w)) n.logins.places v.places) (sym t)
      (subst (λ (ps : List (Option Holder)). Placed (Of (seen_by w)) w.target.logins.places ps) (sym p) s.placed));
  peers = subst (λ (x : Topology). Holds (Peer x) v.target) (sym e) (subst (λ (n : NodeState). Holds (Peer (seen_by w)) n) (sym t) s.peers);
  leaves = h;
}

-- ---- an initiator has a turn
own_places : (weight : ℕ) (side : Side) (w : WorldState) → IsOwn side → (told weight side w).places ≡ w.places
unfolding told
own_places weight (sides.Own note) w h = refl
own_places weight (sides.Opened place orb) w h = absurd h
own_places weight (sides.Ran place orb cdb payload outcome) w h = absurd h
own_places weight (sides.Ended place orb status) w h = absurd h
own_places weight (sides.Dead place cause) w h = absurd h
own_places weight (sides.Cut place cause) w h = absurd h
own_places weight (sides.Managed node function subject status login) w h = absurd h
own_places weight (sides.ManageFailed node cause) w h = absurd h
own_places weight (sides.Held login) w h = absurd h
own_places weight (sides.Expired login) w h = absurd h
own_places weight (sides.Back login) w h = absurd h
own_places weight (sides.Left login) w h = absurd h
own_places weight (sides.Cleared unit) w h = absurd h
own_places weight (sides.Unsolicited place) w h = absurd h
own_places weight (sides.Unsent place) w h = absurd h

all_own_places : (weight : ℕ) (later : List Side) (w : WorldState) → AreOwn later → (told_all weight later w).places ≡ w.places
unfolding told_all
all_own_places weight [] w h = refl
all_own_places weight (side ∷ later) w h = all_own_places weight later (told weight side w) h.1 ∙ own_places weight side w h.0

pub own_hands : (i weight : ℕ) (outbox : OutboxState) (w v : WorldState) → AreOwn outbox.sides → seen_by v ≡ seen_by w → v.target ≡ w.target → v.places ≡ w.places → AreNoLoops v.store.kept → Seats w → Seats (handed_out (suc i) weight outbox v)
own_hands i weight outbox w v own e t p h s =
    let a = handed_alike (suc i) weight outbox v in
    let told_world = told_all weight outbox.sides v in
    seats_same w (handed_out (suc i) weight outbox v) (ap (λ (g : GenerationsState). topology_at g 0) a.generations ∙ e) (a.target ∙ t)
    (all_sent_places (suc i) outbox.packets told_world ∙ all_own_places weight outbox.sides v own ∙ p)
    (own_sent i outbox.packets told_world (subst (λ (x : Stored). AreNoLoops x.kept) (sym (all_told_store weight outbox.sides v)) h)) s

-- ---- the target has a turn, from a world that its new state makes
pub record Turned (now : Topology) (v : NodeState → WorldState) (x : TargetScene) : Type 0 where
  pub placed : Placed (Of now) x.node.logins.places (told_all 0 x.outbox.sides (v x.node)).places
  pub peers : Holds (Peer now) x.node
  pub packets : AllTo (Peer now) x.outbox.packets

pub target_hands : (now : Topology) (v : NodeState → WorldState) (x : TargetScene) → seen_by (v x.node) ≡ now → (v x.node).target ≡ x.node → AreNoLoops (v x.node).store.kept → Turned now v x → Seats (handed_out 0 0 x.outbox (v x.node))
target_hands now v x e t h turned =
    let first = v x.node in
    let told_world = told_all 0 x.outbox.sides first in
    let last = handed_out 0 0 x.outbox first in
    let a = handed_alike 0 0 x.outbox first in
    let seen_is : seen_by last ≡ now = ap (λ (g : GenerationsState). topology_at g 0) a.generations ∙ e in
    let target_is : last.target ≡ x.node = a.target ∙ t in
    let told_is : seen_by told_world ≡ now = ap (λ (g : GenerationsState). topology_at g 0) (told_alike 0 x.outbox.sides first).generations ∙ e in
    record {
      placed = subst (λ (y : Topology). Placed (Of y) last.target.logins.places last.places) (sym seen_is)
          (subst (λ (n : NodeState). Placed (Of now) n.logins.places last.places) (sym target_is)
          (subst (λ (ps : List (Option Holder)). Placed (Of now) x.node.logins.places ps) (sym (all_sent_places 0 x.outbox.packets told_world)) turned.placed));
      peers = subst (λ (y : Topology). Holds (Peer y) last.target) (sym seen_is) (subst (λ (n : NodeState). Holds (Peer now) n) (sym target_is) turned.peers);
      leaves = target_sent x.outbox.packets told_world (subst (λ (y : Topology). AllTo (Peer y) x.outbox.packets) (sym told_is) turned.packets)
          (subst (λ (y : Stored). AreNoLoops y.kept) (sym (all_told_store 0 x.outbox.sides first)) h);
    }

-- the office of a node
abbrev office_for : NodeState → Office
office_for node = record { table = node.logins; keys = node.keys; manager = node.manager; manages = None; asks = Nothing; decided = None }

agrees_itself : (node : NodeState) → Agrees (office_for node) node
agrees_itself node = record { table = refl; keys = refl; manager = refl }

module _ (units ready : ℕ) (has : 0 < units) (start : List Disk) {past : List Moment} {lines : ℕ} (w : WorldState) (h : Holding units ready start past lines w) (q : Seats w) where
  abbrev stands : Stands past w
  stands = h.sound.stands

  abbrev top : Topology
  top = seen_by w

  g : Good w.target
  g = good_of units ready h.calls w.target has h.made

  abbrev o : Office
  o = office_for w.target

  keeps : CallsKeep w.target o
  keeps = subst (λ (n : NodeState). CallsKeep n (office_for n)) h.made (management_law units ready h.calls (office_for (after units ready h.calls)) has (agrees_itself (after units ready h.calls)))

  there : 0 ≤ length w.initiators
  there = omega arith

  small : (id : ℕ) → Peer top id → id < 2 ^ 16
  small id p = known_small w.generations.seen id (peer_known top id p)

  -- a peer is an initiator
  pub of_peer : (id : ℕ) → Peer top id → Of top (initiator_of w id) id
  of_peer id p =
      let k = has_known top (length w.initiators) id (stands.is.sizes 0 there) (peer_known top id p) in
      by k.node k.there k.id_is (node_found w stands 0 there id k)
    where
      by : (node : ℕ) → node ≤ length w.initiators → id_of top node ≡ id → node_of w.generations 0 id ≡ Some node → Of top (initiator_of w id) id
      by zero l e f = absurd (peer_other top id p e)
      by (suc i) l e f =
          let is : initiator_of w id ≡ i = ap initiator_by f ∙ (let z : suc i - 1 ≡ i = omega arith in z) in
          let size = stands.is.sizes 0 there in
          subst (λ x. Of top x id) (sym is) (e, omega arith)

  owned_by : (v : WorldState) → v.generations ≡ w.generations → IsOwned top w.target v
  owned_by v e source f =
      let z : initiator_of v source ≡ initiator_of w source = ap (λ (x : GenerationsState). initiator_by (node_of x 0 source)) e in
      subst (λ i. Of top i source) (sym z) (of_peer source (by w.target.manager.operation q.peers.fits.manager.operation f))
    where
      by : (operation : Option Operation) → FitsOperation (Peer top) operation → management.source_in operation ≡ Some source → Peer top source
      by None fits f = absurd (let x : None ≡ Some source = f in cc)
      by (Some own) fits f = let x : own.source ≡ source = cc in subst (Peer top) x fits.0

  -- ---- a packet is delivered
  module _ (serial : ℕ) (sent : Sent) (found : found_sent serial w.store.kept ≡ Some sent) (zero_to : sent.to ≡ 0) where
    source_peer : sent.generation ≡ w.target.layer.generation → (p : Packet) → reading sent.bytes ≡ Ok p → Peer top (header_in p).source
    source_peer current p read =
        let layer_is : w.target.layer.generation ≡ top.generation = sym (ap (λ (l : Node). l.generation) (stands.is.layers_are 0 there)) ∙ stands.is.sights 0 there in
        let own = ours w stands serial sent found in
        let id_is : id_of top sent.from ≡ (header_in p).source = sym (known_id w stands sent.from own.from) ∙ ap (λ x. (terms (hist past w)).ids x sent.from) (target_generation w stands ∙ sym layer_is ∙ sym current) ∙ sym ((is_of w stands serial sent found).source p read) in
        peer_of top (header_in p).source (source_known units ready has start w h serial sent found current p read)
        (λ same.
        let z : 0 ≡ sent.from = same_id w stands 0 sent.from (known_id w stands 0 there ∙ same ∙ sym id_is ∙ sym (known_id w stands sent.from own.from)) in
        found_leaves serial w.store.kept sent q.leaves found (sym z) zero_to)

    module _ (run : Option Told) (bytes_told : BytesTold run) (s : Scene) (is : s.world ≡ w) (again : Bool) where
      abbrev r : Judged × Whole
      r = received run sent.generation sent.bytes (whole_of w.target s.media)

      abbrev judged_world : NodeState → WorldState
      judged_world node = with_note (judged_note serial r.0) (marked serial again (with_target node w))

      abbrev now : TargetScene
      now = scene r.1.node r.1.outbox

      delivery_turn : Turned top judged_world now
      delivery_turn =
          let v = judged_world r.1.node in
          let m = marked_alike (with_target r.1.node w) serial again in
          let places_are : v.places ≡ w.places = marked_same serial again (with_target r.1.node w) in
          let told_now = delivery_told top w.target g o (agrees_itself w.target) v (subst (λ (ps : List (Option Holder)). Placed (Of top) w.target.logins.places ps) (sym places_are) q.placed) (owned_by v m.generations) run s.media.disks sent.generation sent.bytes in
          let d = (fitting_law (is_peer top) (is_peer top)).deliveries run s.media.disks sent.generation sent.bytes w.target small q.peers (record { bytes_fit = (ours w stands serial sent found).bytes; source = source_peer; told_fits = bytes_told }) in
          record {
            placed = subst (λ (t : Table). Placed (Of top) t.places (told_all 0 r.1.outbox.sides v).places) (keeps.deliveries run s.media.disks sent.generation sent.bytes).table told_now;
            peers = d.holds;
            packets = delivery_to (Peer top) w.target.layer sent.generation sent.bytes source_peer (judging_step w.target.layer sent.generation sent.bytes).0 _ _ _ _ (found_as w.target.layer sent.generation sent.bytes h.sound.nodes.target_holds.layer.filter) d.delivers;
          }

      pub delivery_seats : Seats (handed_out 0 0 r.1.outbox (judged_world r.1.node))
      delivery_seats =
          let m = marked_alike (with_target r.1.node w) serial again in
          target_hands top judged_world now (ap (λ (x : GenerationsState). topology_at x 0) m.generations) m.target (marked_kept serial again (with_target r.1.node w) q.leaves) delivery_turn

  -- ---- a transaction times out
  module _ (request : Request) (serial : ℕ) where
    abbrev lapsed_world : NodeState → WorldState
    lapsed_world node = with_note (notes.TimedOut serial) (with_target node w)

    lapse_turn : Turned top lapsed_world (alone (lets_expire request.peer request.label) w.target)
    lapse_turn =
        let x = alone (lets_expire request.peer request.label) w.target in
        let v = lapsed_world x.node in
        let e = (fitting_law (is_peer top) (is_peer top)).expiries request.peer request.label w.target small q.peers in
        record {
          placed = subst (λ (t : Table). Placed (Of top) t.places (told_all 0 x.outbox.sides v).places) (keeps.expiries request.peer request.label).table
              (lapse_told top w.target g o (agrees_itself w.target) v q.placed (owned_by v refl) request.peer request.label);
          peers = e.holds;
          packets = expiry_to (Peer top) (expiring_step w.target.layer request.peer request.label).0 _ _ _ e.expires;
        }

    pub lapse_seats : (line : ℕ) (r : Result (Unit {0}) Stale × TargetScene) → expired request.peer request.label (scene w.target empty_outbox) ≡ r → request.node ≡ 0 → Seats (timed_out line serial request.node (packets.at_target (target_left r w.target) w))
    lapse_seats line (Err stale, x) e z = record { placed = q.placed; peers = q.peers; leaves = q.leaves }
    lapse_seats line (Ok done, x) e z =
        let turned = subst (Turned top lapsed_world) (ap (λ (y : Result (Unit {0}) Stale × TargetScene). y.1) e) lapse_turn in
        subst (λ n. Seats (handed_out n 0 x.outbox (lapsed_world x.node))) (sym z) (target_hands top lapsed_world x refl refl q.leaves turned)

  -- ---- a second
  ticked_world : NodeState → WorldState
  ticked_world node = with_target node (with_note notes.Tick w)

  pub tick_seats : Seats (tick_line w)
  unfolding tick_line target_ticks ticked_world
  tick_seats =
      let x = alone ticks w.target in
      let v = ticked_world x.node in
      target_hands top ticked_world x refl refl q.leaves (record {
        placed = subst (λ (t : Table). Placed (Of top) t.places (told_all 0 x.outbox.sides v).places) keeps.seconds.table
            (second_told top w.target g o (agrees_itself w.target) v q.placed);
        peers = (fitting_law (is_peer top) (is_peer top)).seconds w.target q.peers;
        packets = none_to (Peer top) x.outbox.packets (ticked_stays w.target).silent.unsent;
      })

  -- ---- the target sees the latest generation
  abbrev latest : Topology
  latest = w.generations.latest

  abbrev seen_world : NodeState → WorldState
  seen_world node = with_target node (with_seen 0 (told_seen 0 w))

  seen_now : seen_by (with_seen 0 w) ≡ latest
  seen_now = let s = stands.is.seen in get_or-set_at w.generations.seen 0 0 latest no_topology refl (omega arith)

  -- where it saw it before, its nodes have the same IDs
  same_ids : nat_lt w.target.layer.generation latest.generation ≡ false → (peer : ℕ) → peer ≤ length w.initiators → id_of top peer ≡ id_of latest peer
  same_ids e peer l =
      let all = holds stands.wire stands.reached in
      let a = aged stands.wire 0 stands.reached in
      let b = stands.is.bus_is in
      let c = all.bus_is in
      let s = stands.is.sights 0 there in
      let layer_is : (stands.wire.layer 0).generation ≡ w.target.layer.generation = ap (λ (n : Node). n.generation) (stands.is.layers_are 0 there) in
      let above : latest.generation ≤ w.target.layer.generation = not_below w.target.layer.generation latest.generation e in
      let now : top.generation ≡ (terms stands.wire.past).bus = omega arith in
      sym (stands.is.known_ids 0 peer there l) ∙ ap (λ x. (terms stands.wire.past).ids x peer) now ∙ sym (all.ids_are peer) ∙ stands.is.ids_are peer l
    where
      not_below : (m n : ℕ) → nat_lt m n ≡ false → n ≤ m
      not_below m n e = grind arith

  abbrev own_id : ℕ
  own_id = id_of latest 0

  flag_by : (b : Bool) (x y : Layer Purpose) → (cond {A = Bool × Layer Purpose} b (true, x) (false, y)).0 ≡ b
  flag_by true x y = refl
  flag_by false x y = refl

  step_flag : (seeing_step w.target.layer latest.generation own_id).0 ≡ nat_lt w.target.layer.generation latest.generation
  unfolding seeing_step
  step_flag = flag_by (nat_lt w.target.layer.generation latest.generation) (seen_in_generation w.target.layer latest.generation own_id) w.target.layer

  abbrev sight : TargetScene
  sight = alone (sees latest.generation own_id) w.target

  sight_peers : (b : Bool) → nat_lt w.target.layer.generation latest.generation ≡ b → Holds (Peer latest) sight.node
  sight_peers true e = (fitting_law (is_peer top) (is_peer latest)).sights latest.generation own_id w.target (latest_small latest 0) e q.peers
  sight_peers false e =
      (fitting_law (is_peer top) (is_peer latest)).widens sight.node
      (λ id p.
      let k = has_known top (length w.initiators) id (stands.is.sizes 0 there) (peer_known top id p) in
      peer_of latest id (known_has latest (length w.initiators) id stands.is.size (record { node = k.node; there = k.there; id_is = sym (same_ids e k.node k.there) ∙ k.id_is }))
      (λ same. peer_other top id p (same_ids e 0 there ∙ same)))
      ((fitting_law (is_peer top) (is_peer top)).old_sights latest.generation own_id w.target e q.peers)

  sight_placed : (r : Bool × Layer Purpose) → From g.lives r.1 → r.0 ≡ nat_lt w.target.layer.generation latest.generation → (let x = (reset_by r (scene w.target empty_outbox)).1 in Placed (Of latest) x.node.logins.places (told_all 0 x.outbox.sides (seen_world x.node)).places)
  unfolding told_all
  sight_placed (true, layer) f e =
      let x = (reset_by (true, layer) (scene w.target empty_outbox)).1 in
      sight_told top w.target g o (agrees_itself w.target) (seen_world x.node) q.placed latest layer f
  sight_placed (false, layer) f e =
      placed_for (Of top) (Of latest) w.target.logins.places w.places
      (λ i id of. let l = of.1 in let a = stands.is.sizes 0 there in let b = stands.is.size in (sym (same_ids (sym e) (suc i) (omega arith)) ∙ of.0, omega arith)) q.placed

  sight_turn : Turned latest seen_world sight
  unfolding seen
  sight_turn = record {
    placed = sight_placed (seeing_step w.target.layer latest.generation own_id) (forgets_if w.target g latest.generation own_id (nat_lt w.target.layer.generation latest.generation) refl) step_flag;
    peers = sight_peers (nat_lt w.target.layer.generation latest.generation) refl;
    packets = none_to (Peer latest) sight.outbox.packets (seen_stays latest.generation own_id w.target).silent.unsent;
  }

  pub sight_seats : Seats (see_line 0 w)
  unfolding see_line nodes.sees target_sees
  sight_seats = target_hands latest seen_world sight seen_now refl q.leaves sight_turn

  -- ---- a unit gets a key
  pub key_seats : (line unit : ℕ) (key : List ℕ) → Seats (keyed line unit key w)
  unfolding keyed
  key_seats line unit key = by (nat_lt unit (length w.target.units))
    where
      by : (b : Bool) → Seats (cond b (with_note (notes.Key unit) (with_target (with_key unit key w.target) w)) (refused line no_unit w))
      by true = record { placed = q.placed; peers = (fitting_law (is_peer top) (is_peer top)).keys unit key w.target q.peers; leaves = q.leaves }
      by false = record { placed = q.placed; peers = q.peers; leaves = q.leaves }
