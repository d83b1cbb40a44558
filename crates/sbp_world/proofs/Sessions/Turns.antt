-- After each turn of a world the target knows caught up nodes alone, and live sessions are of generations that it has seen.
use Rattle.sbp_world.proofs.Words.Std.{arith, ◌≡◌, ◌∙◌, refl, sym, ap, subst, ℕ, suc, ◌-◌, ◌^◌, ◌<◌, ◌≤◌, nat_eq, nat_lt, Bool, true, false, cond, List, length, Option, Some, None, Result, Ok, Err, position, slice_set, nat_tests, get_or-set_at, get_or-set_other, position-Some, false≢true}
use Rattle.sbp_world.proofs.Words.Wire.{Packet, header_in, reading, Node, as_sending, Stale, Finding, judging_step, of_again, of_generation, of_grammar, of_label, of_request, of_response, seeing_step, Sent, found_sent, Topology, Request, GenerationsState, id_of, is_at, no_topology, node_in, node_of, one_of_five, sees_latest, topology_at, judged_note, Judged, empty_outbox, Moment, Terms, terms}
use Rattle.sbp_world.proofs.Words.Target.{Disk, Told, alone, sees, ticks, NodeState, TargetScene, scene, expired, received, with_key, Whole}
use Rattle.sbp_world.proofs.Words.Initiator.{OwnPurpose, InitiatorState, Turn, receive_step, see_step}
use Rattle.sbp_world.proofs.Words.World.{marked, whole_of, with_initiators, BytesTold, Holds, handed_out, keyed, no_unit, see_line, target_sees, target_ticks, tick_line, told_seen, with_seen, refused, target_left, timed_out, Scene, WorldState, initiator_at, with_initiator, with_note, with_target, Stands}
use Rattle.bus_transactions.proofs.FitJudged.{IsFoundAs, found_as}
use Rattle.bus_transactions.proofs.Reaches.{goes_on}
use Rattle.label_table.proofs.Owned.{position_none}
use Rattle.sbp_journal.specs.declared.note.Note.TheVariants as notes
use Rattle.sbp_world.specs.Nodes as nodes
use Rattle.sbp_world.specs.Packets as packets
use Rattle.sbp_world.proofs.FitTarget.Law.{fitting_law}
use Rattle.sbp_world.proofs.Wire.Bus.{aged, holds}
use Rattle.sbp_world.proofs.Wire.Found.{IsIdOf, has_id, has_known, known_has, node_found, at_node, has_node, five}
use Rattle.sbp_world.proofs.Wire.Holding.{known_small, latest_small, to_target}
use Rattle.sbp_world.proofs.Wire.Nodes.{handed_alike, marked_alike}
use Rattle.sbp_world.proofs.Agents.Management.Holding.{Holding, is_of, known_id, ours, past_terms, target_generation, was_sent}
use Rattle.sbp_world.proofs.Agents.Management.Still.{hist}
use Rattle.sbp_world.proofs.Agents.Leaving.{source_known}
use Rattle.sbp_world.proofs.Sessions.Caught.{Met, met_alike, met_but, Seen, Sits, Up, is_up, own_hands, sits_any, sits_cleared, sits_plain, sits_relist, sits_to, target_hands, up_by, up_flag, up_known, up_later, up_of}
use Rattle.sbp_world.proofs.Sessions.Sessions.{IfAsked, receives, sees as session_sees}

-- the node that has an ID
record Holder (g : GenerationsState) (id : ℕ) : Type 0 where
  node : ℕ
  there : node_of g 0 id ≡ Some node

node_found_in : (g : GenerationsState) (id : ℕ) → Up g id → Holder g id
node_found_in g id u = by (node_of g 0 id) refl
  where
    by : (found : Option ℕ) → node_of g 0 id ≡ found → Holder g id
    by None e = absurd (false≢true (sym (ap (up_by g) e) ∙ up_flag g id u))
    by (Some node) e = record { node = node; there = e }

-- ---- the first node that has an ID

found_in : (topology : Topology) (nodes id : ℕ) → nodes ≤ 4 → length topology.ids ≡ suc nodes → ((i j : ℕ) → i ≤ nodes → j ≤ nodes → id_of topology i ≡ id_of topology j → i ≡ j) → (k : IsIdOf topology nodes id) → node_in topology id ≡ Some k.node
found_in topology nodes id few size apart k = by (position (is_at id) topology.ids) refl
  where
    by : (p : Option ℕ) → position (is_at id) topology.ids ≡ p → one_of_five p ≡ Some k.node
    by None e =
        let l = k.there in
        let none = position_none (is_at id) topology.ids k.node 0 e (omega arith) in
        let yes = at_node topology id k.node k.id_is in
        cc
    by (Some node) e =
        let l = k.there in
        let p = position-Some (is_at id) topology.ids node 0 e in
        let inside = p.0 in
        let same = apart node k.node (omega arith) k.there (has_node topology id node p.1 ∙ sym k.id_is) in
        five node (omega arith) ∙ ap Some same

-- ---- a node sees the latest generation: each node is in the generation of before, or in a later one
module _ (w : WorldState) (node : ℕ) where
  abbrev pub next : GenerationsState
  next = sees_latest node w.generations

  pub other_same : (k : ℕ) → nat_eq k node ≡ false → topology_at next k ≡ topology_at w.generations k
  other_same k e = get_or-set_other w.generations.seen node k w.generations.latest no_topology (λ x. let y : nat_eq k node ≡ true = grind (arith, nat_tests) in false≢true (sym e ∙ y))

  pub own_latest : node < length w.generations.seen → topology_at next node ≡ w.generations.latest
  own_latest l = get_or-set_at w.generations.seen node node w.generations.latest no_topology refl l

module _ {past : List Moment} (w : WorldState) (stands : Stands past w) where
  abbrev g : GenerationsState
  g = w.generations

  pub wire_generation : (node : ℕ) → node ≤ length w.initiators → (terms (hist past w)).generation node ≡ (topology_at g node).generation
  wire_generation node l =
      ap (λ (t : Terms). t.generation node) (sym (past_terms w stands)) ∙ sym ((holds stands.wire stands.reached).nodes node).generation ∙ stands.is.sights node l

  -- no node is in a later generation than the latest
  pub not_later : (node : ℕ) → node ≤ length w.initiators → (topology_at g node).generation ≤ g.latest.generation
  not_later node l =
      let a = aged stands.wire node stands.reached in
      let b = (holds stands.wire stands.reached).bus_is in
      let c = stands.is.bus_is in
      let d = stands.is.sights node l in
      omega arith

  -- a packet is of a generation that its sender has seen
  pub sent_seen : (serial : ℕ) (sent : Sent) → found_sent serial w.store.kept ≡ Some sent → sent.generation ≤ (topology_at g sent.from).generation
  sent_seen serial sent found =
      let all = holds stands.wire stands.reached in
      let honest = all.facts.honest serial (as_sending sent) (ap (λ (t : Terms). t.sent serial) (past_terms w stands) ∙ was_sent w stands serial sent found) in
      subst (λ x. sent.generation ≤ x) (ap (λ (t : Terms). t.generation sent.from) (past_terms w stands) ∙ wire_generation sent.from (ours w stands serial sent found).from) honest.past

  -- the nodes have IDs of their own in the latest generation
  latest_ids : (peer : ℕ) → peer ≤ length w.initiators → (terms stands.wire.past).ids (terms stands.wire.past).bus peer ≡ id_of g.latest peer
  latest_ids peer l = sym ((holds stands.wire stands.reached).ids_are peer) ∙ stands.is.ids_are peer l

  latest_apart : (i j : ℕ) → i ≤ length w.initiators → j ≤ length w.initiators → id_of g.latest i ≡ id_of g.latest j → i ≡ j
  latest_apart i j l m e =
      goes_on.apart stands.wire (terms stands.wire.past).bus i j stands.reached (latest_ids i l ∙ e ∙ sym (latest_ids j m))

  pub rises : (node k : ℕ) → node ≤ length w.initiators → (topology_at g k).generation ≤ (topology_at (next w node) k).generation
  rises node k l = by (nat_eq k node) refl
    where
      by : (b : Bool) → nat_eq k node ≡ b → (topology_at g k).generation ≤ (topology_at (next w node) k).generation
      by true e =
          let same : k ≡ node = grind (arith, nat_tests) in
          let size = stands.is.seen in
          subst (λ x. (topology_at g x).generation ≤ (topology_at (next w node) x).generation) (sym same)
          (subst (λ (x : Topology). (topology_at g node).generation ≤ x.generation) (sym (own_latest w node (omega arith))) (not_later node l))
      by false e =
          let x = ap (λ (t : Topology). t.generation) (other_same w node k e) in
          omega arith

  -- an initiator sees it: the target knows the nodes that it knew
  widens_own : (i : ℕ) → suc i ≤ length w.initiators → (id : ℕ) → Up g id → Up (next w (suc i)) id
  widens_own i l id u =
      let f = node_found_in g id u in
      let zero_same : topology_at (next w (suc i)) 0 ≡ topology_at g 0 = other_same w (suc i) 0 (grind (arith, nat_tests)) in
      let before = up_later g id f.node u f.there in
      let after = rises (suc i) f.node l in
      let z = ap (λ (t : Topology). t.generation) zero_same in
      up_of (next w (suc i)) id f.node (ap (λ (t : Topology). has_id t id) zero_same ∙ up_known g id u) (ap (λ (t : Topology). node_in t id) zero_same ∙ f.there) (omega arith)

  -- the target sees it, and was in it before
  module _ (e : nat_lt w.target.layer.generation g.latest.generation ≡ false) where
    pub layer_generation : w.target.layer.generation ≡ (topology_at g 0).generation
    layer_generation = sym (ap (λ (l : Node). l.generation) (stands.is.layers_are 0 (omega arith))) ∙ stands.is.sights 0 (omega arith)

    pub now_generation : (topology_at g 0).generation ≡ g.latest.generation
    now_generation =
        let a = not_later 0 (omega arith) in
        let b = layer_generation in
        let c : g.latest.generation ≤ w.target.layer.generation = grind (arith, nat_tests) in
        omega arith

    pub same_ids : (peer : ℕ) → peer ≤ length w.initiators → id_of (topology_at g 0) peer ≡ id_of g.latest peer
    same_ids peer l =
        let b = stands.is.bus_is in
        let c = (holds stands.wire stands.reached).bus_is in
        let d = now_generation in
        let now : (topology_at g 0).generation ≡ (terms stands.wire.past).bus = omega arith in
        sym (stands.is.known_ids 0 peer (omega arith) l) ∙ ap (λ x. (terms stands.wire.past).ids x peer) now ∙ latest_ids peer l

    widens_same : (id : ℕ) → Up g id → Up (next w 0) id
    widens_same id u =
        let few = stands.is.few in
        let size = stands.is.seen in
        let k = has_known (topology_at g 0) (length w.initiators) id (stands.is.sizes 0 (omega arith)) (up_known g id u) in
        let known : IsIdOf g.latest (length w.initiators) id = record { node = k.node; there = k.there; id_is = sym (same_ids k.node k.there) ∙ k.id_is } in
        let zero_is : topology_at (next w 0) 0 ≡ g.latest = own_latest w 0 (omega arith) in
        let z = ap (λ (t : Topology). t.generation) zero_is in
        let before = up_later g id k.node u (node_found w stands 0 (omega arith) id k) in
        let after = rises 0 k.node (omega arith) in
        let now = now_generation in
        up_of (next w 0) id k.node
        (ap (λ (t : Topology). has_id t id) zero_is ∙ known_has g.latest (length w.initiators) id stands.is.size known)
        (ap (λ (t : Topology). node_in t id) zero_is ∙ found_in g.latest (length w.initiators) id few stands.is.size latest_apart known)
        (omega arith)

module _ (units ready : ℕ) (has : 0 < units) (start : List Disk) {past : List Moment} {lines : ℕ} (w : WorldState) (h : Holding units ready start past lines w) (m : Met w) where
  abbrev here : Stands past w
  here = h.sound.stands

  abbrev G : GenerationsState
  G = w.generations

  zero_there : 0 ≤ length w.initiators
  zero_there = omega arith

  target_layer : w.target.layer.generation ≡ (topology_at G 0).generation
  target_layer = sym (ap (λ (l : Node). l.generation) (here.is.layers_are 0 zero_there)) ∙ here.is.sights 0 zero_there

  small : (id : ℕ) → Up G id → id < 2 ^ 16
  small id u = known_small G.seen id (up_known G id u)

  -- ---- a packet is delivered to the target
  module _ (serial : ℕ) (sent : Sent) (found : found_sent serial w.store.kept ≡ Some sent) where
    source_up : sent.generation ≡ w.target.layer.generation → (p : Packet) → reading sent.bytes ≡ Ok p → Up G (header_in p).source
    source_up current p read =
        let own = ours w here serial sent found in
        let id_is : id_of (topology_at G 0) sent.from ≡ (header_in p).source = sym (known_id w here sent.from own.from) ∙ ap (λ x. (terms (hist past w)).ids x sent.from) (target_generation w here ∙ sym target_layer ∙ sym current) ∙ sym ((is_of w here serial sent found).source p read) in
        let late = sent_seen w here serial sent found in
        let layer = target_layer in
        up_of G (header_in p).source sent.from (source_known units ready has start w h serial sent found current p read)
        (node_found w here 0 zero_there (header_in p).source (record { node = sent.from; there = own.from; id_is = id_is })) (omega arith)

    module _ (run : Option Told) (bytes_told : BytesTold run) (s : Scene) (is : s.world ≡ w) (again : Bool) where
      abbrev r : Judged × Whole
      r = received run sent.generation sent.bytes (whole_of w.target s.media)

      pub delivery_met : Met (handed_out 0 0 r.1.outbox (with_note (judged_note serial r.0) (marked serial again (with_target r.1.node w))))
      delivery_met =
          let a = marked_alike (with_target r.1.node w) serial again in
          let d = (fitting_law (is_up G) (is_up G)).deliveries run s.media.disks sent.generation sent.bytes w.target small m.up (record { bytes_fit = (ours w here serial sent found).bytes; source = source_up; told_fits = bytes_told }) in
          target_hands r.1.outbox r.1.node w _ (record { generations = a.generations; target = a.target; initiators = a.initiators }) d.holds m

  -- ---- a transaction of the target times out
  module _ (request : Request) (serial : ℕ) where
    abbrev lapsed_world : NodeState → WorldState
    lapsed_world node = with_note (notes.TimedOut serial) (with_target node w)

    pub lapse_met : (line : ℕ) (r : Result (Unit {0}) Stale × TargetScene) → expired request.peer request.label (scene w.target empty_outbox) ≡ r → request.node ≡ 0 → Met (timed_out line serial request.node (packets.at_target (target_left r w.target) w))
    lapse_met line (Err stale, x) e z = record { up = m.up; sits = m.sits }
    lapse_met line (Ok done, x) e z =
        let e_now = (fitting_law (is_up G) (is_up G)).expiries request.peer request.label w.target small m.up in
        let up_now = subst (λ (y : TargetScene). Holds (Up G) y.node) (ap (λ (y : Result (Unit {0}) Stale × TargetScene). y.1) e) e_now.holds in
        subst (λ n. Met (handed_out n 0 x.outbox (lapsed_world x.node))) (sym z) (target_hands x.outbox x.node w (lapsed_world x.node) (record { generations = refl; target = refl; initiators = refl }) up_now m)

  -- ---- a second
  pub tick_met : Met (tick_line w)
  unfolding tick_line target_ticks
  tick_met =
      let x = alone ticks w.target in
      target_hands x.outbox x.node w (with_target x.node (with_note notes.Tick w)) (record { generations = refl; target = refl; initiators = refl }) ((fitting_law (is_up G) (is_up G)).seconds w.target m.up) m

  -- ---- a unit gets a key
  pub key_met : (line unit : ℕ) (key : List ℕ) → Met (keyed line unit key w)
  unfolding keyed
  key_met line unit key = by (nat_lt unit (length w.target.units))
    where
      by : (b : Bool) → Met (cond b (with_note (notes.Key unit) (with_target (with_key unit key w.target) w)) (refused line no_unit w))
      by true = record { up = (fitting_law (is_up G) (is_up G)).keys unit key w.target m.up; sits = m.sits }
      by false = record { up = m.up; sits = m.sits }

  -- ---- the target sees the latest generation
  abbrev later : GenerationsState
  later = next w 0

  abbrev seen_base : WorldState
  seen_base = with_seen 0 (told_seen 0 w)

  abbrev own_id : ℕ
  own_id = id_of G.latest 0

  abbrev sight : TargetScene
  sight = alone (sees G.latest.generation own_id) w.target

  sight_up : (b : Bool) → nat_lt w.target.layer.generation G.latest.generation ≡ b → Holds (Up later) sight.node
  sight_up true e = (fitting_law (is_up G) (is_up later)).sights G.latest.generation own_id w.target (latest_small G.latest 0) e m.up
  sight_up false e =
      (fitting_law (is_up G) (is_up later)).widens sight.node (widens_same w here e)
      ((fitting_law (is_up G) (is_up G)).old_sights G.latest.generation own_id w.target e m.up)

  sight_seen : (i : ℕ) → Seen G i → Seen later i
  sight_seen i before =
      let after = rises w here 0 0 zero_there in
      let own = ap (λ (t : Topology). t.generation) (other_same w 0 (suc i) (grind (arith, nat_tests))) in
      omega arith

  sight_sits : (i : ℕ) → Sits (Seen later i) (initiator_at w i).seat (initiator_at w i).lists
  sight_sits i = sits_to (Seen G i) (Seen later i) (initiator_at w i).seat (initiator_at w i).lists (sight_seen i) (m.sits i)

  pub sight_met : Met (see_line 0 w)
  unfolding see_line nodes.sees target_sees
  sight_met =
      let base : Met (record seen_base { target = sight.node }) = record { up = sight_up (nat_lt w.target.layer.generation G.latest.generation) refl; sits = sight_sits } in
      target_hands sight.outbox sight.node (record seen_base { target = sight.node }) (with_target sight.node seen_base) (record { generations = refl; target = refl; initiators = refl }) base.up base

  -- ---- an initiator sees it
  module _ (i : ℕ) (inside : suc i ≤ length w.initiators) where
    abbrev own_later : GenerationsState
    own_later = next w (suc i)

    abbrev own_base : WorldState
    own_base = with_seen (suc i) (told_seen (suc i) w)

    zero_same : topology_at own_later 0 ≡ topology_at G 0
    zero_same = other_same w (suc i) 0 (grind (arith, nat_tests))

    -- where it was in this generation, it is in none later than before
    not_new : nat_lt (initiator_at w i).layer.generation G.latest.generation ≡ false → (topology_at own_later (suc i)).generation ≤ (topology_at G (suc i)).generation
    not_new e =
        let size = here.is.seen in
        let layer : (initiator_at w i).layer.generation ≡ (topology_at G (suc i)).generation = sym (ap (λ (l : Node). l.generation) (here.is.layers_are (suc i) inside)) ∙ here.is.sights (suc i) inside in
        let now = ap (λ (t : Topology). t.generation) (own_latest w (suc i) (omega arith)) in
        let c : G.latest.generation ≤ (initiator_at w i).layer.generation = grind (arith, nat_tests) in
        omega arith

    flag_is : (seeing_step (initiator_at w i).layer G.latest.generation (id_of G.latest (suc i))).0 ≡ nat_lt (initiator_at w i).layer.generation G.latest.generation
    unfolding seeing_step
    flag_is = by (nat_lt (initiator_at w i).layer.generation G.latest.generation) refl
      where
        by : (b : Bool) → nat_lt (initiator_at w i).layer.generation G.latest.generation ≡ b → (seeing_step (initiator_at w i).layer G.latest.generation (id_of G.latest (suc i))).0 ≡ b
        by true e = rw e refl
        by false e = rw e refl

    stays_in : (seeing_step (initiator_at w i).layer G.latest.generation (id_of G.latest (suc i))).0 ≡ false → Seen G i → Seen own_later i
    stays_in f before =
        let own = not_new (sym flag_is ∙ f) in
        let z = ap (λ (t : Topology). t.generation) zero_same in
        omega arith

    stays_seen : (seeing_step (initiator_at w i).layer G.latest.generation (id_of G.latest (suc i))).0 ≡ false → Sits (Seen own_later i) (initiator_at w i).seat (initiator_at w i).lists
    stays_seen f = sits_to (Seen G i) (Seen own_later i) (initiator_at w i).seat (initiator_at w i).lists (stays_in f) (m.sits i)

    others_in : (j : ℕ) → nat_eq j i ≡ false → Seen G j → Seen own_later j
    others_in j d before =
        let z = ap (λ (t : Topology). t.generation) zero_same in
        let apart : nat_eq (suc j) (suc i) ≡ false = grind (arith, nat_tests) in
        let own = ap (λ (t : Topology). t.generation) (other_same w (suc i) (suc j) apart) in
        omega arith

    others_seen : (j : ℕ) → nat_eq j i ≡ false → Sits (Seen own_later j) (initiator_at w j).seat (initiator_at w j).lists
    others_seen j d = sits_to (Seen G j) (Seen own_later j) (initiator_at w j).seat (initiator_at w j).lists (others_in j d) (m.sits j)

    own_turn : ℕ → Turn
    own_turn j = see_step G.latest.generation (id_of G.latest (suc i)) (id_of G.latest 0) empty_outbox (initiator_at own_base j)

    own_seen : (j : ℕ) → j ≡ i → Met (handed_out (suc i) 0 (own_turn j).0 (with_initiator j (own_turn j).1 own_base))
    unfolding own_turn
    own_seen j same = subst (λ k. Met (handed_out (suc i) 0 (own_turn k).0 (with_initiator k (own_turn k).1 own_base))) (sym same) at
      where
        state : InitiatorState
        state = initiator_at w i

        sits_now : Sits (Seen own_later i) (own_turn i).1.seat (own_turn i).1.lists
        sits_now =
            session_sees (Sits (Seen own_later i)) (sits_plain (Seen own_later i)) (sits_relist (Seen own_later i)) G.latest.generation (id_of G.latest (suc i)) (id_of G.latest 0) empty_outbox state
            (sits_cleared (Seen own_later i) state.seat) stays_seen

        up_now : Holds (Up own_later) w.target
        up_now = (fitting_law (is_up G) (is_up own_later)).widens w.target (widens_own w here i inside) m.up

        at : Met (handed_out (suc i) 0 (own_turn i).0 (with_initiator i (own_turn i).1 own_base))
        at =
            met_alike (with_initiator i (own_turn i).1 own_base) (handed_out (suc i) 0 (own_turn i).0 (with_initiator i (own_turn i).1 own_base))
            (handed_alike (suc i) 0 (own_turn i).0 (with_initiator i (own_turn i).1 own_base))
            (met_but own_base i (own_turn i).1 inside up_now sits_now others_seen)

    pub own_sight_met : Met (see_line (suc i) w)
    unfolding see_line nodes.sees own_turn
    own_sight_met = by (nat_eq (suc i) 0) (let e : nat_eq (suc i) 0 ≡ false = grind arith in e)
      where
        by : (b : Bool) → b ≡ false → Met (nodes.handed_all (suc i) (cond b (nodes.target_learns own_base) (nodes.initiator_learns (suc i) own_base)))
        by true e = absurd (let x : true ≡ false = e in cc)
        by false e = own_seen (suc i - 1) (let x : suc i - 1 ≡ i = omega arith in x)

  -- ---- a packet is delivered to an initiator
  module _ (serial : ℕ) (sent : Sent) (found : found_sent serial w.store.kept ≡ Some sent) (i : ℕ) (inside : i < length w.initiators) where
    abbrev own : InitiatorState
    own = initiator_at w i

    own_layer : own.layer.generation ≡ (topology_at G (suc i)).generation
    own_layer = sym (ap (λ (l : Node). l.generation) (here.is.layers_are (suc i) (omega arith))) ∙ here.is.sights (suc i) (omega arith)

    -- a request of the target is of a generation that the target has seen
    of_target : sent.generation ≡ own.layer.generation → (p : Packet) → reading sent.bytes ≡ Ok p → (header_in p).source ≡ own.target → Seen G i
    of_target current p read of =
        let there : suc i ≤ length w.initiators = omega arith in
        let generation : sent.generation ≡ (topology_at G (suc i)).generation = current ∙ own_layer in
        let from_target : (terms here.wire.past).ids (topology_at G (suc i)).generation sent.from ≡ (terms here.wire.past).ids (topology_at G (suc i)).generation 0 =
        ap (λ x. (terms here.wire.past).ids x sent.from) (sym generation)
        ∙ ap (λ (t : Terms). t.ids sent.generation sent.from) (past_terms w here)
        ∙ sym ((is_of w here serial sent found).source p read)
        ∙ of
        ∙ sym (to_target G.seen i own.target (h.sound.nodes.own.holds i inside).fits.target_known)
        ∙ sym (here.is.known_ids (suc i) 0 there zero_there) in
        let zero_from : sent.from ≡ 0 = goes_on.apart here.wire (topology_at G (suc i)).generation sent.from 0 here.reached from_target in
        let seen_it = subst (λ n. sent.generation ≤ (topology_at G n).generation) zero_from (sent_seen w here serial sent found) in
        omega arith

    given : (f : Finding OwnPurpose) → IsFoundAs own.layer sent.generation sent.bytes f → IfAsked (Sits (Seen G i)) (sits_plain (Seen G i)) (sits_relist (Seen G i)) own.target f
    given of_generation k = tt
    given of_grammar k = tt
    given of_label k = tt
    given (of_response p label purpose) k = tt
    given (of_again p rcode) k = tt
    given (of_request p) k = λ of seat lists. sits_any (Seen G i) seat lists (of_target k.current p k.read of)

    pub own_delivery_met : (again : Bool) → (let r = receive_step sent.generation sent.bytes empty_outbox own in Met (handed_out (suc i) 0 r.1.0 (with_note (judged_note serial r.0) (marked serial again (with_initiators (slice_set w.initiators i r.1.1) w)))))
    own_delivery_met again =
        let r = receive_step sent.generation sent.bytes empty_outbox own in
        let a = marked_alike (with_initiators (slice_set w.initiators i r.1.1) w) serial again in
        own_hands i 0 r.1.0 r.1.1 w _ (record { generations = a.generations; target = a.target; initiators = a.initiators })
        (receives (Sits (Seen G i)) (sits_plain (Seen G i)) (sits_relist (Seen G i)) sent.generation sent.bytes empty_outbox own
        (given (judging_step own.layer sent.generation sent.bytes).0 (found_as own.layer sent.generation sent.bytes (h.sound.nodes.own.holds i inside).layer.filter))
        (m.sits i)) m
