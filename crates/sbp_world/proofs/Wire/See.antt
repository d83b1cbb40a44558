-- A node sees the latest generation of the bus; a second passes at the target; a unit gets a key.
use Rattle.sbp_world.proofs.Words.Std.{if◌then◌else◌, slice_index_or, slice_set, arith, sym, ◌∙◌, ap, subst, get_or-set_at, get_or-set_other, upd}
use Rattle.sbp_world.proofs.Words.Wire.{Layer, seen_in_generation, seeing_step, bare, see, Node, Wire, Moment, said, terms, Topology, id_of, no_topology, topology_at}
use Rattle.sbp_world.proofs.Words.Target.{NodeState, Purpose}
use Rattle.sbp_world.proofs.Words.Initiator.{InitiatorState, new_state}
use Rattle.sbp_world.proofs.Words.World.{told_seen, with_seen, WorldState, AreEntered, Knows, Stands, layer_in}
use Rattle.std.specs.Prelude.{◌≡◌, ◌≤◌, ◌<◌, ℕ, zero, suc, nat_eq, nat_lt, Bool, true, false, cond, List, ◌∷◌, length, refl}
use Rattle.std.proofs.lemmas.List.{length-set}
use Rattle.bus_transactions.proofs.Bares.{takes_steps}
use Rattle.sbp_journal.specs.declared.note.Note.TheVariants as notes
use Rattle.sbp_world.proofs.Wire.Bus.{aged, holds}
use Rattle.sbp_world.proofs.Wire.Tells.{leads}
use Rattle.sbp_world.proofs.Wire.Entered.{less_entered, sees_less}

-- a layer that sees a generation is in it
sees_generation : {P : Type 0} (layer : Layer P) (generation id : ℕ) → layer.generation ≤ generation → (seeing_step layer generation id).1.generation ≡ generation
unfolding seeing_step
sees_generation {P} layer generation id l = by_test (nat_lt layer.generation generation) refl
  where
    made : Bool → Bool × Layer P
    made b = if b then (true, seen_in_generation layer generation id) else (false, layer)

    by_test : (b : Bool) → nat_lt layer.generation generation ≡ b → (made b).1.generation ≡ generation
    by_test true e = refl
    by_test false e = grind arith

-- the layer of the wire and that of the world
pub seen_layer : {P : Type 0} (wire : Wire) (node : ℕ) (layer : Layer P) (generation id : ℕ) → wire.layer node ≡ bare layer → wire.bus ≡ generation → wire.ids node ≡ id → (seeing_step (wire.layer node) wire.bus (wire.ids node)).1 ≡ bare (seeing_step layer generation id).1
seen_layer wire node layer generation id e g i =
    ap (λ (l : Node). (seeing_step l wire.bus (wire.ids node)).1) e
    ∙ ap (λ x. (seeing_step (bare layer) x (wire.ids node)).1) g
    ∙ ap (λ x. (seeing_step (bare layer) generation x).1) i
    ∙ ap (λ (p : Bool × Node). p.1) ((takes_steps _).sees layer generation id)

-- a topology that one node sees
topology_is : (seen : List Topology) (latest : Topology) (node other : ℕ) (b : Bool) → nat_eq other node ≡ b → node < length seen → slice_index_or (slice_set seen node latest) other no_topology ≡ cond b latest (slice_index_or seen other no_topology)
topology_is seen latest node other true e l = get_or-set_at seen node other latest no_topology (grind arith) l
topology_is seen latest node other false e l = get_or-set_other seen node other latest no_topology (λ x. let y : nat_eq other node ≡ true = grind arith in cc)

module _ (past : List Moment) (w : WorldState) (node : ℕ) (there : node ≤ length w.initiators) (h : Stands past w) where
  abbrev latest : Topology
  latest = w.generations.latest

  abbrev seen_new : Node
  seen_new = (seeing_step (h.wire.layer node) h.wire.bus (h.wire.ids node)).1

  abbrev old_at : ℕ → Topology
  old_at k = topology_at w.generations k

  new_topology : (k : ℕ) → slice_index_or (slice_set w.generations.seen node latest) k no_topology ≡ cond (nat_eq k node) latest (old_at k)
  new_topology k = let s = h.is.seen in topology_is w.generations.seen latest node k (nat_eq k node) refl (omega arith)

  sight_case : (k : ℕ) (b : Bool) → nat_eq k node ≡ b → k ≤ length w.initiators → (cond b seen_new (h.wire.layer k)).generation ≡ (cond b latest (old_at k)).generation
  sight_case k true e l =
      let a = aged h.wire node h.reached in
      let bus = (holds h.wire h.reached).bus_is in
      sees_generation (h.wire.layer node) h.wire.bus (h.wire.ids node) (subst (λ x. (h.wire.layer node).generation ≤ x) (sym bus) a) ∙ h.is.bus_is
  sight_case k false e l = h.is.sights k l

  ids_case : (k peer : ℕ) (b : Bool) → k ≤ length w.initiators → peer ≤ length w.initiators → (terms h.wire.past).ids (cond b latest (old_at k)).generation peer ≡ id_of (cond b latest (old_at k)) peer
  ids_case k peer true l m =
      let all = holds h.wire h.reached in
      ap (λ g. (terms h.wire.past).ids g peer) (sym h.is.bus_is ∙ all.bus_is) ∙ sym (all.ids_are peer) ∙ h.is.ids_are peer m
  ids_case k peer false l m = h.is.known_ids k peer l m

  size_case : (k : ℕ) (b : Bool) → k ≤ length w.initiators → length (cond b latest (old_at k)).ids ≡ suc (length w.initiators)
  size_case k true l = h.is.size
  size_case k false l = h.is.sizes k l

  pub saw : (target : NodeState) (initiators : List InitiatorState) → length initiators ≡ length w.initiators → ((k : ℕ) → k ≤ length w.initiators → upd h.wire.layer node seen_new k ≡ layer_in target.layer initiators k) → Stands past (record (with_seen node (told_seen node w)) { target = target; initiators = initiators })
  saw target initiators n layers =
      let few = h.is.few in
      let size = h.is.size in
      let seen = h.is.seen in
      leads w (record (with_seen node (told_seen node w)) { target = target; initiators = initiators }) h (see node) h.is.due_is (record {
        store_is = h.is.store_is;
        bus_is = h.is.bus_is;
        ids_are = λ k l. h.is.ids_are k (omega arith);
        layers_are = λ k l. layers k (omega arith);
        due_is = h.is.due_is;
        past_is = ap (λ g. said (notes.Seen node g) ∷ h.wire.past) h.is.bus_is ∙ ap (λ ms. said (notes.Seen node latest.generation) ∷ ms) h.is.past_is;
        few = omega arith;
        seen = length-set w.generations.seen node latest ∙ seen ∙ ap suc (sym n);
        size = size ∙ ap suc (sym n);
        sizes = λ k l. ap (λ (t : Topology). length t.ids) (new_topology k) ∙ size_case k (nat_eq k node) (omega arith) ∙ ap suc (sym n);
        sights = λ k l. sight_case k (nat_eq k node) refl (omega arith) ∙ ap (λ (t : Topology). t.generation) (sym (new_topology k));
        known_ids = λ k peer l m.
            ap (λ (t : Topology). (terms h.wire.past).ids t.generation peer) (new_topology k)
            ∙ ids_case k peer (nat_eq k node) (omega arith) (omega arith)
            ∙ ap (λ (t : Topology). id_of t peer) (sym (new_topology k));
        knows = subst (λ m. Knows w.requests m (terms h.wire.past)) (sym n) h.is.knows;
        entered = subst (λ m. AreEntered w.requests m (upd h.wire.layer node seen_new) (terms h.wire.past).ids) (sym n) (less_entered h.wire.layer node seen_new (sees_less (h.wire.layer node) h.wire.bus (h.wire.ids node)) h.is.entered);
        fair = h.is.fair;
      })

-- the other nodes have the layers that they had
pub not_zero : (k : ℕ) → nat_eq (suc k) 0 ≡ false
not_zero k = grind arith

pub zero_not : (k : ℕ) → nat_eq 0 (suc k) ≡ false
zero_not k = grind arith

pub target_layers : (wire : Wire) (new : Node) (target old : Layer Purpose) (initiators : List InitiatorState) → new ≡ bare target → ((k : ℕ) → k ≤ length initiators → wire.layer k ≡ layer_in old initiators k) → (k : ℕ) → k ≤ length initiators → upd wire.layer 0 new k ≡ layer_in target initiators k
target_layers wire new target old initiators e all zero l = e
target_layers wire new target old initiators e all (suc k) l = ap (λ b. cond b new (wire.layer (suc k))) (not_zero k) ∙ all (suc k) l

other_layer : (wire : Wire) (new : Node) (target : Layer Purpose) (initiators : List InitiatorState) (i : ℕ) (state : InitiatorState) → i < length initiators → new ≡ bare state.layer → ((k : ℕ) → k ≤ length initiators → wire.layer k ≡ layer_in target initiators k) → (k : ℕ) (b : Bool) → nat_eq (suc k) (suc i) ≡ b → suc k ≤ length initiators → cond b new (wire.layer (suc k)) ≡ bare (slice_index_or (slice_set initiators i state) k (new_state 0 false)).layer
other_layer wire new target initiators i state there e all k true f l =
    e ∙ ap (λ (s : InitiatorState). bare s.layer) (sym (get_or-set_at initiators i k state (new_state 0 false) (grind arith) there))
other_layer wire new target initiators i state there e all k false f l =
    all (suc k) l ∙ ap (λ (s : InitiatorState). bare s.layer) (sym (get_or-set_other initiators i k state (new_state 0 false) (λ x. let y : nat_eq (suc k) (suc i) ≡ true = grind arith in cc)))

pub initiator_layers : (wire : Wire) (new : Node) (target : Layer Purpose) (initiators : List InitiatorState) (i : ℕ) (state : InitiatorState) → i < length initiators → new ≡ bare state.layer → ((k : ℕ) → k ≤ length initiators → wire.layer k ≡ layer_in target initiators k) → (k : ℕ) → k ≤ length initiators → upd wire.layer (suc i) new k ≡ layer_in target (slice_set initiators i state) k
initiator_layers wire new target initiators i state there e all zero l = ap (λ b. cond b new (wire.layer 0)) (zero_not i) ∙ all zero l
initiator_layers wire new target initiators i state there e all (suc k) l = other_layer wire new target initiators i state there e all k (nat_eq (suc k) (suc i)) refl l
