-- A transaction times out at a node of any kind, or at an initiator: the request that is found times out at its sender, or the line is refused.
use Rattle.sbp_world.proofs.Words.Std.{slice_set, arith, sym, ◌∙◌, ap, subst, set-get_or, upd}
use Rattle.sbp_world.proofs.Words.Wire.{Stale, Layer, expiring_step, bare, AreSmall, ArePlainSides, IsExpiry, Node, id_for, Moment, OutboxState, empty_outbox, terms, Request, id_of, topology_at, no_packet, find}
use Rattle.sbp_world.proofs.Words.Target.{NodeState}
use Rattle.sbp_world.proofs.Words.Initiator.{Turn, new_state, expire_step, expired_as, OwnPurpose, InitiatorState}
use Rattle.sbp_world.proofs.Words.World.{at_initiator, refused, timed_out, WorldState, initiator_at, with_initiator, with_note, with_target, Stands, StandsAt, layer_in, layers_of}
use Rattle.std.specs.Prelude.{◌≡◌, ◌≤◌, ◌<◌, ℕ, suc, Bool, true, false, List, length, Option, Some, None, Result, Ok, Err, refl}
use Rattle.std.proofs.lemmas.List.{length-set}
use Rattle.sbp_journal.specs.declared.note.Note.TheVariants as notes
use Rattle.sbp_world.proofs.Wire.Bus.{refuses}
use Rattle.sbp_world.proofs.Wire.Expires.{expiry_goes, latest, stale_same}
use Rattle.sbp_world.proofs.Wire.Found.{IsKnown, id_known}
use Rattle.sbp_world.proofs.Wire.Handing.{Knowing}
use Rattle.sbp_world.proofs.Wire.Nodes.{Lands, handed_alike, nodes_beside, own_lands, target_lands}
use Rattle.sbp_world.proofs.Wire.Arrivals.{IsTarget}

-- what a node did at a time-out, from its layer after that on
pub record Lapses {P : Type 0} (known : ℕ → Type 0) (f : Result (Option P) Stale × Layer P) (now : Layer P) (outbox : OutboxState) : Type 0 where
  pub expires : IsExpiry known f.0 f.1 now outbox.packets
  pub plain : ArePlainSides outbox.sides
  pub small : AreSmall outbox.packets

pub refused_lands : {past : List Moment} (w : WorldState) (line number : ℕ) → Stands past w → Lands past w (refused line number w)
refused_lands {past} w line number h = record {
  stands = refuses past w line number h;
  alike = record { generations = refl; target = refl; initiators = refl };
}

-- ---- at a node in the place of the target
-- The transaction times out at its layer, and the target that the world has behind it has a layer that waits for the same transactions.
module _ {P : Type 0} {past : List Moment} (w : WorldState) (h : Stands past w) (line serial : ℕ) (request : Request) (found : find w.requests serial ≡ Some request) (zero_is : request.node ≡ 0) (layer : Layer P) (same : bare w.target.layer ≡ bare layer) (known : ℕ → Type 0) (all : (id : ℕ) → known id → IsKnown w 0 id) (purpose : Option P) (new now : Layer P) (outbox : OutboxState) (target : NodeState) (same_now : bare target.layer ≡ bare now) where
  pub zero_lapses : expiring_step layer request.peer request.label ≡ (Ok purpose, new) → Lapses known (Ok purpose, new) now outbox → Lands past (with_target target w) (timed_out line serial request.node (true, (outbox, with_target target w)))
  unfolding nodes_beside
  zero_lapses e d =
      let v = with_target target w in
      let v_stands = nodes_beside w h target w.initiators refl in
      let there : request.node ≤ length w.initiators = subst (λ n. n ≤ length w.initiators) (sym zero_is) (omega arith) in
      let own : layers_of w request.node ≡ bare layer = ap (λ n. layer_in w.target.layer w.initiators n) zero_is ∙ same in
      let k : Knowing known v request.node = record { all = λ id q. subst (λ n. IsKnown w n id) (sym zero_is) (all id q); aims = λ id q l. absurd (omega (arith, zero_is, l)) } in
      let entry = latest v v_stands serial request found there layer own request.peer in
      let goes = expiry_goes v v_stands serial request found there layer own request.peer
      (λ g. ap (λ x. (terms h.wire.past).ids x entry.to) (sym g) ∙ sym entry.peer_is)
      known k purpose new now outbox e d.expires d.plain d.small in
      let alike = handed_alike request.node 0 outbox (with_note (notes.TimedOut serial) v) in
      target_lands w (timed_out line serial request.node (true, (outbox, v))) request.node target zero_is (record { generations = alike.generations; target = alike.target; initiators = alike.initiators })
      (subst (λ (l : Node). StandsAt past (upd (layers_of w) request.node l) None (timed_out line serial request.node (true, (outbox, v)))) (sym same_now) goes)

-- ---- at an initiator
module _ {past : List Moment} (w : WorldState) (h : Stands past w) (line serial : ℕ) (request : Request) (found : find w.requests serial ≡ Some request) (i : ℕ) (node_is : request.node ≡ suc i) (inside : i < length w.initiators) (aimed : IsTarget w (suc i) (initiator_at w i).target) (known : ℕ → Type 0) (all : (id : ℕ) → known id → IsTarget w (suc i) id) where
  abbrev old : InitiatorState
  old = initiator_at w i

  abbrev own_left : Result (Option OwnPurpose) Stale × Layer OwnPurpose → Bool × Turn
  own_left f = expired_as f empty_outbox old

  abbrev own_line : Result (Option OwnPurpose) Stale × Layer OwnPurpose → WorldState
  own_line f = timed_out line serial request.node (at_initiator i (own_left f) w)

  own_found : (f : Result (Option OwnPurpose) Stale × Layer OwnPurpose) → expiring_step old.layer old.target request.label ≡ f → Lapses known f (own_left f).1.1.layer (own_left f).1.0 → Lands past (with_initiator i (own_left f).1.1 w) (own_line f)
  unfolding nodes_beside
  own_found (Err stale, new) e d =
      let same = stale_same old.layer old.target request.label stale new e in
      let back : slice_set w.initiators i (record old { layer = new }) ≡ w.initiators =
      ap (λ (l : Layer OwnPurpose). slice_set w.initiators i (record old { layer = l })) same ∙ set-get_or w.initiators i (new_state 0 false) in
      refused_lands (with_initiator i (record old { layer = new }) w) line no_packet (subst (λ (xs : List InitiatorState). Stands past (record w { initiators = xs })) (sym back) h)
  own_found (Ok purpose, new) e d =
      let turn = (own_left (Ok purpose, new)).1 in
      let v = with_initiator i turn.1 w in
      let n = length-set w.initiators i turn.1 in
      let v_stands = nodes_beside w h w.target (slice_set w.initiators i turn.1) n in
      let there : request.node ≤ length w.initiators = subst (λ x. x ≤ length w.initiators) (sym node_is) inside in
      let v_there : request.node ≤ length v.initiators = subst (λ x. request.node ≤ x) (sym n) there in
      let own : layers_of w request.node ≡ bare old.layer = ap (λ x. layer_in w.target.layer w.initiators x) node_is in
      let k : Knowing known v request.node = record {
        all = λ id q. record { node = 0; there = omega arith; id_is = ap (λ x. id_of (topology_at w.generations x) 0) node_is ∙ all id q };
        aims = λ id q l. refl;
      } in
      let entry = latest v v_stands serial request found v_there old.layer own old.target in
      let to_zero : entry.to ≡ 0 = entry.aimed (subst (λ x. 0 < x) (sym node_is) (omega arith)) in
      let goes = expiry_goes v v_stands serial request found v_there old.layer own old.target
      (λ g. ap (id_for h.wire request.node) to_zero ∙ id_known w h request.node there 0 (omega arith) ∙ ap (λ x. id_of (topology_at w.generations x) 0) node_is ∙ aimed)
      known k purpose new turn.1.layer turn.0 e d.expires d.plain d.small in
      let alike = handed_alike request.node 0 turn.0 (with_note (notes.TimedOut serial) v) in
      own_lands w (own_line (Ok purpose, new)) request.node i turn.1 node_is inside (record { generations = alike.generations; target = alike.target; initiators = alike.initiators }) goes

  pub own_lapses : Lapses known (expiring_step old.layer old.target request.label) (expire_step request.label empty_outbox old).1.1.layer (expire_step request.label empty_outbox old).1.0 → Lands past (with_initiator i (expire_step request.label empty_outbox old).1.1 w) (timed_out line serial request.node (at_initiator i (expire_step request.label empty_outbox old) w))
  unfolding expire_step
  own_lapses d = own_found (expiring_step old.layer old.target request.label) refl d
