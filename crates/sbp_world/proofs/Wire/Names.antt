-- The node that an injected packet names, as the law and as the world find it.
use Rattle.sbp_world.proofs.Words.Std.{if◌then◌else◌, arith, sym, ◌∙◌, ap}
use Rattle.sbp_world.proofs.Words.Wire.{Moment, Terms, terms, world_id, node_of, topology_at, destination_in, other_node, source_in}
use Rattle.sbp_world.proofs.Words.Laws.{may_inject, names_node, node_from, id_for, id_of}
use Rattle.sbp_world.proofs.Words.World.{injected_to, WorldState, Stands}
use Rattle.std.specs.Prelude.{◌≡◌, ◌≤◌, ◌<◌, ℕ, zero, suc, ◌+◌, ◌==◌, ◌&&◌, ◌||◌, not, nat_eq, nat_lt, nat_le, Bool, true, false, cond, List, length, Option, Some, None, refl}
use Rattle.sbp_world.proofs.Wire.Bus.{holds, node_has}
use Rattle.sbp_world.proofs.Wire.Found.{node_found}

-- ---- by the terms
module _ (t : Terms) (i id : ℕ) where
  record Names (nodes : ℕ) : Type 0 where
    node : ℕ
    below : node < nodes
    is : id_for t (suc i) node ≡ id
    other : nat_eq node (suc i) ≡ false

  names_some : (nodes : ℕ) → names_node t i nodes id ≡ true → Names nodes
  names_some zero e = cc
  names_some (suc node) e = by_test (λ f. names_some node f) (id_for t (suc i) node == id) (nat_eq node (suc i)) refl refl e
    where
      further : Names node → Names (suc node)
      further n = let l = n.below in record { node = n.node; below = omega arith; is = n.is; other = n.other }

      by_test : (names_node t i node id ≡ true → Names node) → (a b : Bool) → (id_for t (suc i) node == id) ≡ a → nat_eq node (suc i) ≡ b → ((a && not b) || names_node t i node id) ≡ true → Names (suc node)
      by_test before true false f g e = record { node = node; below = omega arith; is = grind arith; other = g }
      by_test before true true f g e = further (before e)
      by_test before false b f g e = further (before e)

  names_none : (nodes : ℕ) → names_node t i nodes id ≡ false → (node : ℕ) → node < nodes → id_for t (suc i) node ≡ id → node ≡ suc i
  names_none zero e node l is = absurd (omega arith)
  names_none (suc last) e node l is = by_test (λ f m. names_none last f node m is) (id_for t (suc i) last == id) (nat_eq last (suc i)) (nat_eq node last) refl refl refl e
    where
      by_test : (names_node t i last id ≡ false → node < last → node ≡ suc i) → (a b c : Bool) → (id_for t (suc i) last == id) ≡ a → nat_eq last (suc i) ≡ b → nat_eq node last ≡ c → ((a && not b) || names_node t i last id) ≡ false → node ≡ suc i
      by_test before true false c f g h e = cc
      by_test before true true true f g h e = grind arith
      by_test before true true false f g h e = before e (grind arith)
      by_test before false b true f g h e =
          let x : id_for t (suc i) last ≡ id = ap (id_for t (suc i)) (let y : last ≡ node = grind arith in y) ∙ is in
          let z : (id_for t (suc i) last == id) ≡ true = grind arith in
          cc
      by_test before false b false f g h e = before e (grind arith)

  from_is : (nodes node aim : ℕ) → node ≤ aim → aim < node + nodes → id_for t (suc i) aim ≡ id → ((o : ℕ) → o < aim → id_for t (suc i) o ≡ id → o ≡ aim) → node_from t i nodes node id ≡ aim
  from_is zero node aim l m is one = absurd (omega arith)
  from_is (suc nodes) node aim l m is one = by_test (λ below. from_is nodes (node + 1) aim (omega (arith, below)) (omega (arith, m)) is one) (id_for t (suc i) node == id) (nat_eq node aim) refl refl
    where
      by_test : (node < aim → node_from t i nodes (node + 1) id ≡ aim) → (a b : Bool) → (id_for t (suc i) node == id) ≡ a → nat_eq node aim ≡ b → cond a node (node_from t i nodes (node + 1) id) ≡ aim
      by_test later true true f g = grind arith
      by_test later true false f g =
          let below : node < aim = grind arith in
          one node below (grind arith)
      by_test later false true f g =
          let x : id_for t (suc i) node ≡ id = ap (id_for t (suc i)) (let y : node ≡ aim = grind arith in y) ∙ is in
          let z : (id_for t (suc i) node == id) ≡ true = grind arith in
          cc
      by_test later false false f g = later (grind arith)

-- ---- in a world
module _ {past : List Moment} (w : WorldState) (h : Stands past w) (i : ℕ) (inside : suc i ≤ length w.initiators) where
  abbrev now : Terms
  now = terms h.wire.past

  -- an ID, as the law and as the world has it
  id_same : (node : ℕ) → node ≤ length w.initiators → id_for now (suc i) node ≡ world_id (topology_at w.generations (suc i)) node
  id_same node l =
      ap (λ g. now.ids g node) (sym ((holds h.wire h.reached).nodes (suc i)).generation ∙ h.is.sights (suc i) inside)
      ∙ h.is.known_ids (suc i) node inside l

  one_id : (a b : ℕ) → id_for now (suc i) a ≡ id_for now (suc i) b → a ≡ b
  one_id a b e = (holds h.wire h.reached).facts.apart (now.generation (suc i)) a b e

  found_node : (id node : ℕ) → node ≤ length w.initiators → id_for now (suc i) node ≡ id → node_of w.generations (suc i) id ≡ Some node
  found_node id node l e = node_found w h (suc i) inside id (record { node = node; there = l; id_is = sym (id_same node l) ∙ e })

  -- who is found has the ID
  found_id : (id node : ℕ) → node_of w.generations (suc i) id ≡ Some node → (node ≤ length w.initiators) × (id_for now (suc i) node ≡ id)
  found_id id node e =
      let k = node_has (topology_at w.generations (suc i)) id node e in
      let size = h.is.sizes (suc i) inside in
      let l = k.there in
      let there : node ≤ length w.initiators = omega arith in
      (there, id_same node there ∙ k.id_is)

  module _ (bytes : List ℕ) where
    abbrev nodes : ℕ
    nodes = suc (length w.initiators)

    abbrev aimed_to : Bool → Option ℕ
    aimed_to may = if may then Some (node_from now i nodes 0 (destination_in bytes)) else None

    -- no other node has the destination
    none_named : (to : Option ℕ) (sender : Option ℕ) → names_node now i nodes (destination_in bytes) ≡ false → node_of w.generations (suc i) (destination_in bytes) ≡ to → other_node (suc i) to sender ≡ None
    none_named None sender e f = refl
    none_named (Some to) None e f = refl
    none_named (Some to) (Some sender) e f =
        let found = found_id (destination_in bytes) to f in
        let l = found.0 in
        let same = names_none now i (destination_in bytes) nodes e to (omega arith) found.1 in
        let z : nat_eq to (suc i) ≡ true = grind arith in
        ap (λ b. if (sender == suc i) && not b then Some to else None) z ∙ off (sender == suc i)
      where
        off : (b : Bool) → (if b && false then Some to else None) ≡ None
        off true = refl
        off false = refl

    -- the source is not the sender
    not_sender : (to : Option ℕ) (sender : Option ℕ) → (source_in bytes == id_for now (suc i) (suc i)) ≡ false → node_of w.generations (suc i) (source_in bytes) ≡ sender → other_node (suc i) to sender ≡ None
    not_sender None sender e f = refl
    not_sender (Some to) None e f = refl
    not_sender (Some to) (Some sender) e f = by_test (nat_eq sender (suc i)) (not (nat_eq to (suc i))) refl
      where
        by_test : (a b : Bool) → nat_eq sender (suc i) ≡ a → (if a && b then Some to else None) ≡ None
        by_test true b g =
            let found = found_id (source_in bytes) sender f in
            let same : id_for now (suc i) (suc i) ≡ source_in bytes = ap (id_for now (suc i)) (let y : suc i ≡ sender = grind arith in y) ∙ found.1 in
            let z : (source_in bytes == id_for now (suc i) (suc i)) ≡ true = grind arith in
            cc
        by_test false b g = refl

    by_halves : (a b : Bool) → names_node now i nodes (destination_in bytes) ≡ a → (source_in bytes == id_for now (suc i) (suc i)) ≡ b → other_node (suc i) (node_of w.generations (suc i) (destination_in bytes)) (node_of w.generations (suc i) (source_in bytes)) ≡ aimed_to (a && b)
    by_halves false b e f = none_named (node_of w.generations (suc i) (destination_in bytes)) (node_of w.generations (suc i) (source_in bytes)) e refl
    by_halves true false e f = not_sender (node_of w.generations (suc i) (destination_in bytes)) (node_of w.generations (suc i) (source_in bytes)) f refl
    by_halves true true e f =
        let n = names_some now i (destination_in bytes) nodes e in
        let l = n.below in
        let there : n.node ≤ length w.initiators = omega arith in
        let own : id_for now (suc i) (suc i) ≡ source_in bytes = grind arith in
        let differs : nat_eq n.node (suc i) ≡ false = n.other in
        let same : nat_eq (suc i) (suc i) ≡ true = grind arith in
        ap (λ o. other_node (suc i) o (node_of w.generations (suc i) (source_in bytes))) (found_node (destination_in bytes) n.node there n.is)
        ∙ ap (λ o. other_node (suc i) (Some n.node) o) (found_node (source_in bytes) (suc i) inside own)
        ∙ ap (λ b. if b && not (nat_eq n.node (suc i)) then Some n.node else None) same
        ∙ ap (λ b. if not b then Some n.node else None) differs
        ∙ ap Some (sym (from_is now i (destination_in bytes) nodes 0 n.node (omega arith) (omega arith) n.is (λ o m g. one_id o n.node (g ∙ sym n.is))))

    by_length : (short : Bool) → nat_lt (length bytes) 8 ≡ short → (if short then None else other_node (suc i) (node_of w.generations (suc i) (destination_in bytes)) (node_of w.generations (suc i) (source_in bytes))) ≡ aimed_to (may_inject now i nodes bytes)
    by_length true e =
        let long : nat_le 8 (length bytes) ≡ false = grind arith in
        ap (λ b. aimed_to (b && names_node now i nodes (destination_in bytes) && (source_in bytes == id_of now (suc i)))) (sym long)
    by_length false e =
        let long : nat_le 8 (length bytes) ≡ true = grind arith in
        by_halves (names_node now i nodes (destination_in bytes)) (source_in bytes == id_for now (suc i) (suc i)) refl refl
        ∙ ap (λ b. aimed_to (b && names_node now i nodes (destination_in bytes) && (source_in bytes == id_of now (suc i)))) (sym long)

    -- the node that injected bytes go to, exactly where they may be injected
    pub goes_to : injected_to (suc i) bytes w ≡ aimed_to (may_inject now i nodes bytes)
    unfolding injected_to
    goes_to = by_length (nat_lt (length bytes) 8) refl
