-- What holds of the nodes of a world beside its wire: each knows the nodes that it asks, by their IDs in its generation.
use Rattle.sbp_world.proofs.Words.Std.{slice_index_or, slice_set, arith, sym, ◌∙◌, subst, get_or-set_at, get_or-set_other}
use Rattle.sbp_world.proofs.Words.Wire.{Moment, Topology, GenerationsState, id_of, no_topology}
use Rattle.sbp_world.proofs.Words.Target.{NodeState}
use Rattle.sbp_world.proofs.Words.Initiator.{InitiatorState, new_state}
use Rattle.sbp_world.proofs.Words.World.{WorldState, with_target, OwnHolds, Holds, Stands}
use Rattle.std.specs.Prelude.{◌≡◌, ◌≤◌, ◌<◌, ℕ, suc, ◌+◌, ◌%◌, ◌^◌, nat_eq, Bool, true, false, List, length, refl}
use Rattle.std.proofs.lemmas.List.{length-set}
use Rattle.sbp_world.proofs.Wire.Alike.{IsAlike}
use Rattle.sbp_world.proofs.Wire.Found.{has_id, has_in}
use Rattle.sbp_world.proofs.Wire.Nodes.{Lands}

-- which topology a node sees, and the IDs that are known to the target, and to initiator i
abbrev pub seen_at : List Topology → ℕ → Topology
seen_at seen node = slice_index_or seen node no_topology

-- the numbers of a set that is given by a test
abbrev pub In : (ℕ → Bool) → ℕ → Type 0
In has number = has number ≡ true

abbrev pub target_has : List Topology → ℕ → Bool
target_has seen = has_id (seen_at seen 0)

abbrev pub own_has : List Topology → (i id : ℕ) → Bool
own_has seen i id = nat_eq (id_of (seen_at seen (suc i)) 0) id

abbrev pub KnownTo : List Topology → ℕ → Type 0
KnownTo seen = In (target_has seen)

abbrev pub TargetOf : List Topology → (i : ℕ) → ℕ → Type 0
TargetOf seen i = In (own_has seen i)

pub to_target : (seen : List Topology) (i id : ℕ) → TargetOf seen i id → id_of (seen_at seen (suc i)) 0 ≡ id
to_target seen i id e = grind arith

pub of_target : (seen : List Topology) (i id : ℕ) → id_of (seen_at seen (suc i)) 0 ≡ id → TargetOf seen i id
of_target seen i id e = grind arith

abbrev pub state_at : List InitiatorState → ℕ → InitiatorState
state_at states i = slice_index_or states i (new_state 0 false)

-- an initiator has done no more actions than there were lines
pub record OwnNodes (seen : List Topology) (states : List InitiatorState) (lines : ℕ) : Type 0 where
  pub holds : (i : ℕ) → i < length states → OwnHolds (TargetOf seen i) (state_at states i)
  pub counts : (i : ℕ) → i < length states → (state_at states i).counts.acts ≤ lines

pub record NodesHold (seen : List Topology) (states : List InitiatorState) (target : NodeState) (lines : ℕ) : Type 0 where
  pub target_holds : Holds (KnownTo seen) target
  pub own : OwnNodes seen states lines

abbrev pub NodesOf : WorldState → (lines : ℕ) → Type 0
NodesOf w lines = NodesHold w.generations.seen w.initiators w.target lines

pub record Sound (past : List Moment) (lines : ℕ) (w : WorldState) : Type 0 where
  pub stands : Stands past w
  pub nodes : NodesOf w lines

-- the wire of a world and its initiators, whatever its target knows
pub record OwnSound (past : List Moment) (lines : ℕ) (w : WorldState) : Type 0 where
  pub stands : Stands past w
  pub own : OwnNodes w.generations.seen w.initiators lines

abbrev pub own_sound : {past : List Moment} {lines : ℕ} {w : WorldState} → Sound past lines w → OwnSound past lines w
own_sound s = record { stands = s.stands; own = s.nodes.own }

-- So is another world, with the target and the generations of this one.
pub record OwnGoes (past : List Moment) (lines : ℕ) (w v : WorldState) : Type 0 where
  pub sound : OwnSound past lines v
  pub target : v.target ≡ w.target
  pub generations : v.generations ≡ w.generations

-- ---- another world with these nodes
pub nodes_alike : (w v : WorldState) (lines : ℕ) → IsAlike w v → NodesOf w lines → NodesOf v lines
nodes_alike w v lines a n =
    subst (λ (g : GenerationsState). NodesHold g.seen v.initiators v.target lines) (sym a.generations)
    (subst (λ xs. NodesHold w.generations.seen xs v.target lines) (sym a.initiators)
    (subst (λ t. NodesHold w.generations.seen w.initiators t lines) (sym a.target) n))

pub lands_sound : {past : List Moment} {lines : ℕ} (new v : WorldState) → Lands past new v → NodesOf new lines → Sound past lines v
lands_sound {lines = lines} new v l n = record { stands = l.stands; nodes = nodes_alike new v lines l.alike n }

pub own_alike : (w v : WorldState) (lines : ℕ) → IsAlike w v → OwnNodes w.generations.seen w.initiators lines → OwnNodes v.generations.seen v.initiators lines
own_alike w v lines a n =
    subst (λ (g : GenerationsState). OwnNodes g.seen v.initiators lines) (sym a.generations)
    (subst (λ xs. OwnNodes w.generations.seen xs lines) (sym a.initiators) n)

-- where the target is as it was
pub lands_own : {past : List Moment} {lines : ℕ} (w new v : WorldState) → Lands past new v → new.target ≡ w.target → new.generations ≡ w.generations → OwnNodes new.generations.seen new.initiators lines → OwnGoes past lines w v
lands_own {lines = lines} w new v l t g n = record {
  sound = record { stands = l.stands; own = own_alike new v lines l.alike n };
  target = l.alike.target ∙ t;
  generations = l.alike.generations ∙ g;
}

-- and knows what it knew
pub own_then : {past : List Moment} {lines before : ℕ} (w v : WorldState) → NodesOf w before → OwnGoes past lines w v → Sound past lines v
own_then {lines = lines} w v n o = record {
  stands = o.sound.stands;
  nodes = record {
    target_holds = subst (λ (g : GenerationsState). Holds (KnownTo g.seen) v.target) (sym o.generations) (subst (λ t. Holds (KnownTo w.generations.seen) t) (sym o.target) n.target_holds);
    own = o.sound.own;
  };
}

pub later_own : {seen : List Topology} {states : List InitiatorState} {lines : ℕ} → OwnNodes seen states lines → OwnNodes seen states (lines + 1)
later_own n = record { holds = n.holds; counts = λ i l. let c = n.counts i l in omega arith }

pub later : (w : WorldState) (lines : ℕ) → NodesOf w lines → NodesOf w (lines + 1)
later w lines n = record {
  target_holds = n.target_holds;
  own = later_own n.own;
}

-- the target has another state
pub with_target_holds : (w : WorldState) (lines : ℕ) (state : NodeState) → Holds (KnownTo w.generations.seen) state → NodesOf w lines → NodesOf (with_target state w) lines
with_target_holds w lines state h n = record { target_holds = h; own = n.own }

-- an initiator has another state
set_case : (Good : ℕ → InitiatorState → Type 0) (states : List InitiatorState) (i : ℕ) (state : InitiatorState) → i < length states → Good i state → ((j : ℕ) → nat_eq j i ≡ false → j < length states → Good j (state_at states j)) → (j : ℕ) (b : Bool) → nat_eq j i ≡ b → j < length states → Good j (state_at (slice_set states i state) j)
set_case Good states i state l g all j true e m =
    let x : j ≡ i = grind arith in
    subst (Good j) (sym (get_or-set_at states i j state (new_state 0 false) x l)) (subst (λ k. Good k state) (sym x) g)
set_case Good states i state l g all j false e m =
    subst (Good j) (sym (get_or-set_other states i j state (new_state 0 false) (λ x. let y : nat_eq j i ≡ true = grind arith in cc))) (all j e m)

-- the initiators but one
pub record OwnOthers (seen : List Topology) (states : List InitiatorState) (lines but : ℕ) : Type 0 where
  pub holds : (i : ℕ) → nat_eq i but ≡ false → i < length states → OwnHolds (TargetOf seen i) (state_at states i)
  pub counts : (i : ℕ) → nat_eq i but ≡ false → i < length states → (state_at states i).counts.acts ≤ lines

pub own_set : (seen : List Topology) (states : List InitiatorState) (lines i : ℕ) (state : InitiatorState) → i < length states → OwnHolds (TargetOf seen i) state → state.counts.acts ≤ lines → OwnOthers seen states lines i → OwnNodes seen (slice_set states i state) lines
own_set seen states lines i state l h c n =
    let size = length-set states i state in
    record {
      holds = λ j m. set_case (λ k s. OwnHolds (TargetOf seen k) s) states i state l h n.holds j (nat_eq j i) refl (omega arith);
      counts = λ j m. set_case (λ k (s : InitiatorState). s.counts.acts ≤ lines) states i state l c n.counts j (nat_eq j i) refl (omega arith);
    }

-- ---- IDs have 16 bits
small_id : (topology : Topology) (node : ℕ) → id_of topology node < 2 ^ 16
small_id topology node = small_by (slice_index_or topology.ids node 0)
  where
    small_by : (x : ℕ) → 65472 + x % 64 < 2 ^ 16
    small_by x = omega arith

pub known_small : (seen : List Topology) (id : ℕ) → KnownTo seen id → id < 2 ^ 16
known_small seen id k = let p = has_in (seen_at seen 0) id k in subst (λ x. x < 2 ^ 16) p.id_is (small_id (seen_at seen 0) p.node)

pub target_small : (seen : List Topology) (i id : ℕ) → TargetOf seen i id → id < 2 ^ 16
target_small seen i id e = subst (λ x. x < 2 ^ 16) (to_target seen i id e) (small_id (seen_at seen (suc i)) 0)

pub latest_small : (topology : Topology) (node : ℕ) → id_of topology node < 2 ^ 16
latest_small topology node = small_id topology node
