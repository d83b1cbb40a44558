-- The node that has an ID, as another node knows it.
use Rattle.sbp_world.proofs.Words.Std.{if◌then◌else◌, position, slice_index_or, arith, sym, ◌∙◌, ap, position-Some}
use Rattle.sbp_world.proofs.Words.Wire.{Due, Node, id_for, Moment, terms, Topology, id_of, is_at, node_of, one_of_five, topology_at}
use Rattle.sbp_world.proofs.Words.World.{WorldState, StandsAt}
use Rattle.std.specs.Prelude.{◌≡◌, ◌≤◌, ◌<◌, ℕ, suc, is_some, nat_lt, Bool, true, false, List, length, Option, Some, None, refl}
use Rattle.label_table.proofs.Owned.{position_none}
use Rattle.bus_transactions.proofs.Reaches.{goes_on}

-- an ID of one of the nodes
pub record IsIdOf (topology : Topology) (nodes id : ℕ) : Type 0 where
  pub node : ℕ
  pub there : node ≤ nodes
  pub id_is : id_of topology node ≡ id

-- whose ID it is, as a node knows it
abbrev pub IsKnown : WorldState → (from id : ℕ) → Type 0
IsKnown w from id = IsIdOf (topology_at w.generations from) (length w.initiators) id

pub at_node : (topology : Topology) (id node : ℕ) → id_of topology node ≡ id → is_at id (slice_index_or topology.ids node 0) ≡ true
at_node topology id node e = grind arith

pub has_node : (topology : Topology) (id node : ℕ) → is_at id (slice_index_or topology.ids node 0) ≡ true → id_of topology node ≡ id
has_node topology id node e = grind arith

-- the same by a test
abbrev pub has_id : Topology → ℕ → Bool
has_id topology id = is_some (position (is_at id) topology.ids)

pub record IsIn (topology : Topology) (id : ℕ) : Type 0 where
  pub node : ℕ
  pub inside : node < length topology.ids
  pub id_is : id_of topology node ≡ id

in_by : (topology : Topology) (id : ℕ) (found : Option ℕ) → position (is_at id) topology.ids ≡ found → is_some found ≡ true → IsIn topology id
in_by topology id None e some = cc
in_by topology id (Some node) e some =
    let p = position-Some (is_at id) topology.ids node 0 e in
    record { node = node; inside = p.0; id_is = has_node topology id node p.1 }

pub has_in : (topology : Topology) (id : ℕ) → has_id topology id ≡ true → IsIn topology id
has_in topology id e = in_by topology id (position (is_at id) topology.ids) refl e

pub has_known : (topology : Topology) (nodes id : ℕ) → length topology.ids ≡ suc nodes → has_id topology id ≡ true → IsIdOf topology nodes id
has_known topology nodes id size e =
    let p = has_in topology id e in
    let l = p.inside in
    record { node = p.node; there = omega arith; id_is = p.id_is }

known_by : (topology : Topology) (nodes id : ℕ) (found : Option ℕ) → length topology.ids ≡ suc nodes → IsIdOf topology nodes id → position (is_at id) topology.ids ≡ found → is_some found ≡ true
known_by topology nodes id None size k e =
    let l = k.there in
    let no = position_none (is_at id) topology.ids k.node 0 e (omega arith) in
    let yes = at_node topology id k.node k.id_is in
    cc
known_by topology nodes id (Some node) size k e = refl

pub known_has : (topology : Topology) (nodes id : ℕ) → length topology.ids ≡ suc nodes → IsIdOf topology nodes id → has_id topology id ≡ true
known_has topology nodes id size k = known_by topology nodes id (position (is_at id) topology.ids) size k refl

pub five : (node : ℕ) → node < 5 → one_of_five (Some node) ≡ Some node
five node l = by_test (nat_lt node 5) refl
  where
    by_test : (b : Bool) → nat_lt node 5 ≡ b → (if b then Some node else None) ≡ Some node
    by_test true e = refl
    by_test false e = let x : nat_lt node 5 ≡ true = grind arith in cc

module _ {past : List Moment} {layers : ℕ → Node} {due : Option Due} (w : WorldState) (h : StandsAt past layers due w) (from : ℕ) (there : from ≤ length w.initiators) where
  -- the ID of a peer, as the wire and as the world has it
  pub id_known : (peer : ℕ) → peer ≤ length w.initiators → id_for h.wire from peer ≡ id_of (topology_at w.generations from) peer
  id_known peer l = ap (λ g. (terms h.wire.past).ids g peer) (h.is.sights from there) ∙ h.is.known_ids from peer there l

  same_node : (i j : ℕ) → i ≤ length w.initiators → j ≤ length w.initiators → id_of (topology_at w.generations from) i ≡ id_of (topology_at w.generations from) j → i ≡ j
  same_node i j l m e =
      goes_on.apart h.wire (topology_at w.generations from).generation i j h.reached (h.is.known_ids from i there l ∙ e ∙ sym (h.is.known_ids from j there m))

  found_by : (id : ℕ) (k : IsKnown w from id) (p : Option ℕ) → position (is_at id) (topology_at w.generations from).ids ≡ p → one_of_five p ≡ Some k.node
  found_by id k None e =
      let size = h.is.sizes from there in
      let l = k.there in
      let no = position_none (is_at id) (topology_at w.generations from).ids k.node 0 e (omega arith) in
      let yes = at_node (topology_at w.generations from) id k.node k.id_is in
      cc
  found_by id k (Some node) e =
      let size = h.is.sizes from there in
      let few = h.is.few in
      let p = position-Some (is_at id) (topology_at w.generations from).ids node 0 e in
      let inside = p.0 in
      let same = same_node node k.node (omega arith) k.there (has_node (topology_at w.generations from) id node p.1 ∙ sym k.id_is) in
      five node (omega arith) ∙ ap Some same

  pub node_found : (id : ℕ) (k : IsKnown w from id) → node_of w.generations from id ≡ Some k.node
  node_found id k = found_by id k (position (is_at id) (topology_at w.generations from).ids) refl
