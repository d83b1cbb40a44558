-- A node sees the latest generation, and knows the nodes that it asks in it.
use Rattle.sbp_world.proofs.Words.Std.{if◌then◌else◌, slice_set, arith, sym, ◌∙◌, ap, subst, get_or-set_at, get_or-set_other}
use Rattle.sbp_world.proofs.Words.Wire.{Node, Moment, empty_outbox, terms, Topology, id_of, no_topology, topology_at}
use Rattle.sbp_world.proofs.Words.Target.{NodeState, seen}
use Rattle.sbp_world.proofs.Words.Initiator.{Turn, see_step, InitiatorState}
use Rattle.sbp_world.proofs.Words.World.{handed_out, handed_all, initiator_learns, see_line, sees, target_learns, target_sees, told_seen, with_seen, WorldState, initiator_at, with_initiator, with_target, OwnFittingLaw, OwnHolds, Holds, FittingLaw, Stands}
use Rattle.std.specs.Prelude.{◌≡◌, ◌≤◌, ◌<◌, ℕ, zero, suc, ◌-◌, nat_eq, nat_lt, Bool, true, false, List, length, refl}
use Rattle.sbp_target.specs.Nodes as target
use Rattle.sbp_world.proofs.Wire.Bus.{aged, holds}
use Rattle.sbp_world.proofs.Wire.Found.{has_id, has_known, known_has}
use Rattle.sbp_world.proofs.Wire.Holding.{In, KnownTo, NodesHold, NodesOf, OwnNodes, Sound, TargetOf, latest_small, of_target, own_has, target_has, to_target, nodes_alike, own_set, seen_at, state_at}
use Rattle.sbp_world.proofs.Wire.Lines.{learns_at, sees_line}
use Rattle.sbp_world.proofs.Wire.Nodes.{handed_alike}

-- ---- the IDs of the latest generation, for a node that is in it already
module _ {past : List Moment} (w : WorldState) (h : Stands past w) (node : ℕ) (there : node ≤ length w.initiators) where
  abbrev latest : Topology
  latest = w.generations.latest

  abbrev now_seen : List Topology
  now_seen = slice_set w.generations.seen node latest

  seen_now : seen_at now_seen node ≡ latest
  seen_now = let s = h.is.seen in get_or-set_at w.generations.seen node node latest no_topology refl (omega arith)

  seen_other : (k : ℕ) → nat_eq k node ≡ false → seen_at now_seen k ≡ seen_at w.generations.seen k
  seen_other k e = get_or-set_other w.generations.seen node k latest no_topology (λ x. let y : nat_eq k node ≡ true = grind arith in cc)

  same_ids : nat_lt (h.wire.layer node).generation latest.generation ≡ false → (peer : ℕ) → peer ≤ length w.initiators → id_of (seen_at w.generations.seen node) peer ≡ id_of latest peer
  same_ids e peer l =
      let all = holds h.wire h.reached in
      let a = aged h.wire node h.reached in
      let b = h.is.bus_is in
      let c = all.bus_is in
      let g = h.is.sights node there in
      let above : latest.generation ≤ (h.wire.layer node).generation = not_below (h.wire.layer node).generation latest.generation e in
      let now : (topology_at w.generations node).generation ≡ (terms h.wire.past).bus = omega arith in
      sym (h.is.known_ids node peer there l) ∙ ap (λ x. (terms h.wire.past).ids x peer) now ∙ sym (all.ids_are peer) ∙ h.is.ids_are peer l
    where
      not_below : (m n : ℕ) → nat_lt m n ≡ false → n ≤ m
      not_below m n e = grind arith

module _ (targets : FittingLaw) (initiators : OwnFittingLaw) where
  -- ---- the target
  module _ {past : List Moment} {lines : ℕ} (w : WorldState) (s : Sound past lines w) where
    abbrev saw_target : NodeState
    saw_target = (seen w.generations.latest.generation (id_of w.generations.latest 0) (target.scene w.target empty_outbox)).1.node

    abbrev target_seen : List Topology
    target_seen = slice_set w.generations.seen 0 w.generations.latest

    saw_by : (b : Bool) → nat_lt w.target.layer.generation w.generations.latest.generation ≡ b → Holds (KnownTo target_seen) saw_target
    saw_by true e =
        (targets (target_has w.generations.seen) (target_has target_seen)).sights w.generations.latest.generation (id_of w.generations.latest 0) w.target (latest_small w.generations.latest 0) e s.nodes.target_holds
    saw_by false e =
        let there : 0 ≤ length w.initiators = omega arith in
        let still : nat_lt (s.stands.wire.layer 0).generation w.generations.latest.generation ≡ false =
        ap (λ (l : Node). nat_lt l.generation w.generations.latest.generation) (s.stands.is.layers_are 0 there) ∙ e in
        (targets (target_has w.generations.seen) (target_has target_seen)).widens saw_target
        (λ id k.
        let old = has_known (seen_at w.generations.seen 0) (length w.initiators) id (s.stands.is.sizes 0 there) k in
        known_has (seen_at target_seen 0) (length w.initiators) id (ap (λ (t : Topology). length t.ids) (seen_now w s.stands 0 there) ∙ s.stands.is.size)
        (record {
          node = old.node;
          there = old.there;
          id_is = ap (λ t. id_of t old.node) (seen_now w s.stands 0 there) ∙ sym (same_ids w s.stands 0 there still old.node old.there) ∙ old.id_is;
        }))
        ((targets (target_has w.generations.seen) (target_has w.generations.seen)).old_sights w.generations.latest.generation (id_of w.generations.latest 0) w.target e s.nodes.target_holds)

    others_seen : OwnNodes target_seen w.initiators lines
    others_seen = record {
      holds = λ i l. subst (λ t. OwnHolds (In (λ id. nat_eq (id_of t 0) id)) (state_at w.initiators i)) (sym (seen_other w s.stands 0 (omega arith) (suc i) (let e : nat_eq (suc i) 0 ≡ false = grind arith in e))) (s.nodes.own.holds i l);
      counts = s.nodes.own.counts;
    }

    target_saw_line : NodesOf (see_line 0 w) lines
    unfolding see_line sees target_sees
    target_saw_line =
        let after = (seen w.generations.latest.generation (id_of w.generations.latest 0) (target.scene w.target empty_outbox)).1 in
        let v = with_target after.node (with_seen 0 (told_seen 0 w)) in
        nodes_alike v (handed_out 0 0 after.outbox v) lines (handed_alike 0 0 after.outbox v)
        (record { target_holds = saw_by (nat_lt w.target.layer.generation w.generations.latest.generation) refl; own = others_seen })

  -- ---- an initiator
  module _ {past : List Moment} {lines : ℕ} (w : WorldState) (s : Sound past lines w) (i : ℕ) (inside : i < length w.initiators) where
    abbrev old_own : InitiatorState
    old_own = initiator_at w i

    abbrev saw_own : Turn
    saw_own = see_step w.generations.latest.generation (id_of w.generations.latest (suc i)) (id_of w.generations.latest 0) empty_outbox old_own

    abbrev own_seen : List Topology
    own_seen = slice_set w.generations.seen (suc i) w.generations.latest

    own_by : (b : Bool) → nat_lt old_own.layer.generation w.generations.latest.generation ≡ b → OwnHolds (TargetOf own_seen i) saw_own.1
    own_by true e =
        (initiators (own_has w.generations.seen i) (own_has own_seen i)).sights w.generations.latest.generation (id_of w.generations.latest (suc i)) (id_of w.generations.latest 0) old_own (latest_small w.generations.latest (suc i))
        (of_target own_seen i (id_of w.generations.latest 0) (ap (λ t. id_of t 0) (seen_now w s.stands (suc i) inside))) e (s.nodes.own.holds i inside)
    own_by false e =
        let still : nat_lt (s.stands.wire.layer (suc i)).generation w.generations.latest.generation ≡ false =
        ap (λ (l : Node). nat_lt l.generation w.generations.latest.generation) (s.stands.is.layers_are (suc i) inside) ∙ e in
        (initiators (own_has w.generations.seen i) (own_has own_seen i)).widens saw_own.1
        (λ id k. of_target own_seen i id (ap (λ t. id_of t 0) (seen_now w s.stands (suc i) inside) ∙ sym (same_ids w s.stands (suc i) inside still 0 (omega arith)) ∙ to_target w.generations.seen i id k))
        ((initiators (own_has w.generations.seen i) (own_has w.generations.seen i)).old_sights w.generations.latest.generation (id_of w.generations.latest (suc i)) (id_of w.generations.latest 0) old_own e (s.nodes.own.holds i inside))

    apart_next : (j : ℕ) → nat_eq j i ≡ false → nat_eq (suc j) (suc i) ≡ false
    apart_next j e = grind arith

    own_saw : NodesHold own_seen (slice_set w.initiators i saw_own.1) w.target lines
    own_saw = record {
      target_holds = subst (λ t. Holds (In (has_id t)) w.target) (sym (seen_other w s.stands (suc i) inside 0 (let e : nat_eq 0 (suc i) ≡ false = grind arith in e))) s.nodes.target_holds;
      own = own_set own_seen w.initiators lines i saw_own.1 inside (own_by (nat_lt old_own.layer.generation w.generations.latest.generation) refl)
          (subst (λ n. n ≤ lines) (sym ((initiators (own_has w.generations.seen i) (own_has w.generations.seen i)).seen_acts w.generations.latest.generation (id_of w.generations.latest (suc i)) (id_of w.generations.latest 0) old_own)) (s.nodes.own.counts i inside))
          (record {
            holds = λ j e l. subst (λ t. OwnHolds (In (λ id. nat_eq (id_of t 0) id)) (state_at w.initiators j)) (sym (seen_other w s.stands (suc i) inside (suc j) (apart_next j e))) (s.nodes.own.holds j l);
            counts = λ j e l. s.nodes.own.counts j l;
          });
    }

    own_saw_as : (j : ℕ) → j ≡ i → NodesOf (handed_all (suc i) (learns_at i j (with_seen (suc i) (told_seen (suc i) w)))) lines
    unfolding learns_at
    own_saw_as j e =
        let v = with_initiator i saw_own.1 (with_seen (suc i) (told_seen (suc i) w)) in
        subst (λ x. NodesOf (handed_all (suc i) (learns_at i x (with_seen (suc i) (told_seen (suc i) w)))) lines) (sym e)
        (nodes_alike v (handed_out (suc i) 0 saw_own.0 v) lines (handed_alike (suc i) 0 saw_own.0 v) own_saw)

    own_saw_by : (b : Bool) → b ≡ false → NodesOf (handed_all (suc i) (if b then target_learns (with_seen (suc i) (told_seen (suc i) w)) else initiator_learns (suc i) (with_seen (suc i) (told_seen (suc i) w)))) lines
    unfolding learns_at
    own_saw_by true e = cc
    own_saw_by false e = own_saw_as (suc i - 1) (omega arith)

    own_saw_line : NodesOf (see_line (suc i) w) lines
    unfolding see_line sees
    own_saw_line = own_saw_by (nat_eq (suc i) 0) (let e : nat_eq (suc i) 0 ≡ false = grind arith in e)

  pub sights : {past : List Moment} {lines : ℕ} (w : WorldState) (node : ℕ) → node ≤ length w.initiators → Sound past lines w → Sound past lines (see_line node w)
  sights {past} {lines} w zero l s = record { stands = sees_line past w zero l s.stands; nodes = target_saw_line w s }
  sights {past} {lines} w (suc i) l s = record { stands = sees_line past w (suc i) l s.stands; nodes = own_saw_line w s i l }
