-- A node takes the place of the one before: the world stands with the layers as they were, until the packets of the call have left.
use Rattle.sbp_world.proofs.Words.Std.{if◌then◌else◌, slice_index_or, slice_set, arith, sym, ◌∙◌, ap, subst, get_or-set_at, get_or-set_other, upd}
use Rattle.sbp_world.proofs.Words.Wire.{Layer, is_flying, deliver_step, bare, Due, Node, Moment, OutboxState, terms}
use Rattle.sbp_world.proofs.Words.Target.{NodeState, Purpose}
use Rattle.sbp_world.proofs.Words.Initiator.{InitiatorState, new_state}
use Rattle.sbp_world.proofs.Words.World.{marked, handed_out, told_all, WorldState, AreEntered, Knows, Stands, StandsAt, layer_in, layers_of}
use Rattle.std.specs.Prelude.{◌≡◌, ◌≤◌, ◌<◌, ℕ, zero, suc, ◌||◌, not, nat_eq, Bool, true, false, cond, List, length, Option, None, refl}
use Rattle.sbp_world.proofs.Wire.Alike.{IsAlike, all_alike, alike_same, alike_then, told_alike}
use Rattle.sbp_world.proofs.Wire.Asks.{relayered}
use Rattle.sbp_world.proofs.Wire.See.{not_zero, zero_not}

unfoldable pub nodes_beside : {past : List Moment} {layers : ℕ → Node} {due : Option Due} (w : WorldState) → StandsAt past layers due w → (target : NodeState) (initiators : List InitiatorState) → length initiators ≡ length w.initiators → StandsAt past layers due (record w { target = target; initiators = initiators })
nodes_beside w h target initiators n = record {
  wire = h.wire;
  reached = h.reached;
  is = record {
    store_is = h.is.store_is;
    bus_is = h.is.bus_is;
    ids_are = λ k l. h.is.ids_are k (subst (λ m. k ≤ m) n l);
    layers_are = λ k l. h.is.layers_are k (subst (λ m. k ≤ m) n l);
    due_is = h.is.due_is;
    past_is = h.is.past_is;
    few = subst (λ m. m ≤ 4) (sym n) h.is.few;
    seen = h.is.seen ∙ ap suc (sym n);
    size = h.is.size ∙ ap suc (sym n);
    sizes = λ k l. h.is.sizes k (subst (λ m. k ≤ m) n l) ∙ ap suc (sym n);
    sights = λ k l. h.is.sights k (subst (λ m. k ≤ m) n l);
    known_ids = λ k peer l m. h.is.known_ids k peer (subst (λ x. k ≤ x) n l) (subst (λ x. peer ≤ x) n m);
    knows = subst (λ m. Knows w.requests m (terms h.wire.past)) (sym n) h.is.knows;
    entered = subst (λ m. AreEntered w.requests m h.wire.layer (terms h.wire.past).ids) (sym n) h.is.entered;
    fair = h.is.fair;
  };
}

-- ---- worlds that are alike
marked_by : (b : Bool) (w : WorldState) (serial : ℕ) → IsAlike w (if b then w else record w { store = deliver_step w.store serial })
marked_by true w serial = alike_same w
marked_by false w serial = record { generations = refl; target = refl; initiators = refl }

pub marked_alike : (w : WorldState) (serial : ℕ) (again : Bool) → IsAlike w (marked serial again w)
marked_alike w serial again = marked_by (again || not (is_flying serial w.store.kept)) w serial

pub handed_alike : (node weight : ℕ) (outbox : OutboxState) (w : WorldState) → IsAlike w (handed_out node weight outbox w)
handed_alike node weight outbox w =
    let v = told_all weight outbox.sides w in
    alike_then w v (handed_out node weight outbox w) (told_alike weight outbox.sides w) (all_alike node outbox.packets v)

-- ---- the layers of the nodes, where one has another
target_now : (now old : Layer Purpose) (initiators : List InitiatorState) (k : ℕ) → upd (layer_in old initiators) 0 (bare now) k ≡ layer_in now initiators k
target_now now old initiators zero = refl
target_now now old initiators (suc k) = ap (λ b. cond b (bare now) (layer_in old initiators (suc k))) (not_zero k)

own_by : (initiators : List InitiatorState) (i k : ℕ) (state : InitiatorState) (b : Bool) → nat_eq (suc k) (suc i) ≡ b → i < length initiators → cond b (bare state.layer) (bare (slice_index_or initiators k (new_state 0 false)).layer) ≡ bare (slice_index_or (slice_set initiators i state) k (new_state 0 false)).layer
own_by initiators i k state true e l =
    ap (λ (s : InitiatorState). bare s.layer) (sym (get_or-set_at initiators i k state (new_state 0 false) (grind arith) l))
own_by initiators i k state false e l =
    ap (λ (s : InitiatorState). bare s.layer) (sym (get_or-set_other initiators i k state (new_state 0 false) (λ x. let y : nat_eq (suc k) (suc i) ≡ true = grind arith in cc)))

own_now : (target : Layer Purpose) (initiators : List InitiatorState) (i : ℕ) (state : InitiatorState) → i < length initiators → (k : ℕ) → upd (layer_in target initiators) (suc i) (bare state.layer) k ≡ layer_in target (slice_set initiators i state) k
own_now target initiators i state l zero = ap (λ b. cond b (bare state.layer) (bare target)) (zero_not i)
own_now target initiators i state l (suc k) = own_by initiators i k state (nat_eq (suc k) (suc i)) refl l

pub layers_alike : (w v : WorldState) → IsAlike w v → (k : ℕ) → layers_of w k ≡ layers_of v k
layers_alike w v a k =
    ap (λ (t : NodeState). layer_in t.layer w.initiators k) (sym a.target) ∙ ap (λ xs. layer_in v.target.layer xs k) (sym a.initiators)

-- A world stands, and has the nodes and the generations of another.
pub record Lands (past : List Moment) (new v : WorldState) : Type 0 where
  pub stands : Stands past v
  pub alike : IsAlike new v

-- what has left, and what is told, of the target, and of an initiator
pub target_lands : {past : List Moment} (w v : WorldState) (to : ℕ) (state : NodeState) → to ≡ 0 → IsAlike (record w { target = state }) v → StandsAt past (upd (layers_of w) to (bare state.layer)) None v → Lands past (record w { target = state }) v
target_lands w v to state e a h = record {
  stands = relayered v h (λ k l.
      ap (λ n. upd (layers_of w) n (bare state.layer) k) e
      ∙ target_now state.layer w.target.layer w.initiators k
      ∙ layers_alike (record w { target = state }) v a k);
  alike = a;
}

pub own_lands : {past : List Moment} (w v : WorldState) (to i : ℕ) (state : InitiatorState) → to ≡ suc i → i < length w.initiators → IsAlike (record w { initiators = slice_set w.initiators i state }) v → StandsAt past (upd (layers_of w) to (bare state.layer)) None v → Lands past (record w { initiators = slice_set w.initiators i state }) v
own_lands w v to i state e there a h = record {
  stands = relayered v h (λ k l.
      ap (λ n. upd (layers_of w) n (bare state.layer) k) e
      ∙ own_now w.target.layer w.initiators i state there k
      ∙ layers_alike (record w { initiators = slice_set w.initiators i state }) v a k);
  alike = a;
}
