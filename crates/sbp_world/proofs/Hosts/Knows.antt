-- What the wire that a world stands for tells of its initiators: what a packet is that the store has, the generation that an initiator is in,
-- and that its target is a node.
use Rattle.sbp_world.proofs.Words.Std.{arith, ◌≡◌, refl, sym, ◌∙◌, ap, ℕ, suc, ◌<◌, ◌≤◌, not, nat_eq, nat_lt, Bool, true, false, List, length, Some, nat_tests}
use Rattle.sbp_world.proofs.Words.Wire.{Node, as_sending, Layer, seeing_step, Sent, found_sent, is_flying, Stored, Moment, Terms, terms, id_of, node_of}
use Rattle.sbp_world.proofs.Words.World.{WorldState, initiator_at, Stands, history, MaySee}
use Rattle.bus_transactions.proofs.Follows.{found_kept}
use Rattle.bus_transactions.proofs.Reaches.{goes_on}
use Rattle.sbp_world.proofs.Wire.Bus.{aged, holds}
use Rattle.sbp_world.proofs.Wire.Found.{node_found}
use Rattle.sbp_world.proofs.Wire.Holding.{NodesOf, to_target}

-- ---- a packet that is got stays as it was sent

-- ---- a sight

pub seen_flag : {P : Type 0} (layer : Layer P) (generation node : ℕ) → (seeing_step layer generation node).0 ≡ nat_lt layer.generation generation
unfolding seeing_step
seen_flag layer generation node = by_test (nat_lt layer.generation generation) refl
  where
    by_test : (b : Bool) → nat_lt layer.generation generation ≡ b → (seeing_step layer generation node).0 ≡ b
    by_test true e = rw e refl
    by_test false e = rw e refl

is_later : (own seen known : ℕ) → own ≡ known → own ≤ seen → nat_lt own seen ≡ not (nat_eq seen known)
is_later own seen known e l = by_tests (nat_lt own seen) (nat_eq seen known) refl refl
  where
    by_tests : (c d : Bool) → nat_lt own seen ≡ c → nat_eq seen known ≡ d → c ≡ not d
    by_tests true false f g = refl
    by_tests false true f g = refl
    by_tests true true f g = absurd (grind (arith, nat_tests))
    by_tests false false f g = absurd (grind (arith, nat_tests))

pub seen_test : (own seen known : ℕ) → own ≤ seen → known ≡ own → not (nat_eq seen known) ≡ nat_lt own seen
seen_test own seen known l e = sym (is_later own seen known (sym e) l)

-- ---- of a world

module _ {past : List Moment} (w : WorldState) (h : Stands past w) where
  past_terms : terms h.wire.past ≡ terms (history w past)
  past_terms = ap terms h.is.past_is

  pub was_sent : (serial : ℕ) (sent : Sent) → found_sent serial w.store.kept ≡ Some sent → (terms (history w past)).sent serial ≡ Some (as_sending sent)
  was_sent serial sent found =
      let wire_found = goes_on.finds h.wire serial sent h.reached (ap (λ (st : Stored). found_sent serial st.kept) h.is.store_is ∙ found) in
      let k = found_kept (holds h.wire h.reached).follows serial (record { serial = serial; in_flight = is_flying serial h.wire.store.kept; sent = sent }) wire_found in
      ap (λ (t : Terms). t.sent serial) (sym past_terms) ∙ k.sent ∙ ap Some (sym (ap as_sending k.is))

  -- the generation that an initiator is in
  own_generation : (i : ℕ) → suc i ≤ length w.initiators → (initiator_at w i).layer.generation ≡ (terms (history w past)).generation (suc i)
  own_generation i l =
      sym (ap (λ (n : Node). n.generation) (h.is.layers_are (suc i) l))
      ∙ ((holds h.wire h.reached).nodes (suc i)).generation
      ∙ ap (λ (t : Terms). t.generation (suc i)) past_terms

  own_aged : (i : ℕ) → suc i ≤ length w.initiators → (initiator_at w i).layer.generation ≤ w.generations.latest.generation
  own_aged i l =
      let a = aged h.wire (suc i) h.reached in
      let b : (initiator_at w i).layer.generation ≡ (h.wire.layer (suc i)).generation = sym (ap (λ (n : Node). n.generation) (h.is.layers_are (suc i) l)) in
      let c = (holds h.wire h.reached).bus_is in
      let d = h.is.bus_is in
      omega arith

  pub may_see : (i : ℕ) → suc i ≤ length w.initiators → MaySee past i w
  may_see i l =
      seen_flag (initiator_at w i).layer w.generations.latest.generation (id_of w.generations.latest (suc i))
      ∙ is_later (initiator_at w i).layer.generation w.generations.latest.generation ((terms (history w past)).generation (suc i)) (own_generation i l) (own_aged i l)

  -- the target of an initiator is node 0
  pub target_there : {lines : ℕ} (i : ℕ) → i < length w.initiators → NodesOf w lines → node_of w.generations (suc i) (initiator_at w i).target ≡ Some 0
  target_there i b n =
      node_found w h (suc i) (omega arith) (initiator_at w i).target
      (record { node = 0; there = omega arith; id_is = to_target w.generations.seen i (initiator_at w i).target (n.own.holds i b).fits.target_known })
