-- A packet is delivered to a node of any kind, or to an initiator: what its node does with it is a list of moves of the wire.
use Rattle.sbp_world.proofs.Words.Std.{slice_set, arith, sym, ◌∙◌, ap, subst, upd}
use Rattle.sbp_world.proofs.Words.Wire.{Layer, Finding, judging_step, Sent, found_sent, is_flying, bare, AreSmall, ArePlainSides, IsDelivery, Node, Moment, terms, OutboxState, empty_outbox, Judged, judged_note, id_of, topology_at}
use Rattle.sbp_world.proofs.Words.Target.{Told, NodeState}
use Rattle.sbp_world.proofs.Words.Initiator.{Turn, receive_step, InitiatorState}
use Rattle.sbp_world.proofs.Words.World.{Arrival, arrived, at_none, delivered, delivered_by, initiators_received, marked, received_by, received_step, initiator_received, handed_out, WorldState, Scene, initiator_at, with_initiator, with_note, with_target, Stands, StandsAt, layer_in, layers_of}
use Rattle.std.specs.Prelude.{◌≡◌, ◌≤◌, ◌<◌, ℕ, suc, Bool, true, false, List, length, Option, Some, None, refl}
use Rattle.std.proofs.lemmas.List.{length-set}
use Rattle.sbp_world.proofs.Wire.Alike.{IsAlike, alike_same, alike_then}
use Rattle.sbp_world.proofs.Wire.Deliver.{judged_marked}
use Rattle.sbp_world.proofs.Wire.Found.{IsKnown}
use Rattle.sbp_world.proofs.Wire.Handing.{Knowing, delivery_goes, knowing_still, there_still}
use Rattle.sbp_world.proofs.Wire.Nodes.{Lands, handed_alike, marked_alike, nodes_beside, own_lands, target_lands}
use Rattle.sbp_world.proofs.Wire.Comes.{none_after, own_inside, own_is, own_outside}

-- what a node did with a packet, from its layer after the judging on
pub record Does {P : Type 0} (known : ℕ → Type 0) (f : Finding P × Layer P) (bytes : List ℕ) (judged : Judged) (now : Layer P) (outbox : OutboxState) : Type 0 where
  pub delivers : IsDelivery known f.0 judged bytes f.1 now outbox.packets
  pub plain : ArePlainSides outbox.sides
  pub small : AreSmall outbox.packets

-- the packet that is delivered, once or once more
pub record Comes {past : List Moment} (serial : ℕ) (again : Bool) (sent : Sent) (w : WorldState) (h : Stands past w) : Type 0 where
  pub found : found_sent serial w.store.kept ≡ Some sent
  pub repeats : (terms h.wire.past).repeats ≡ again
  pub flies : again ≡ false → is_flying serial w.store.kept ≡ true

-- ---- a node of any kind
module _ {P : Type 0} {past : List Moment} (w : WorldState) (h : Stands past w) (serial : ℕ) (again : Bool) (sent : Sent) (c : Comes serial again sent w h) (there : sent.to ≤ length w.initiators) (layer : Layer P) (own : layers_of w sent.to ≡ bare layer) (target : NodeState) (initiators : List InitiatorState) (n : length initiators ≡ length w.initiators) (known : ℕ → Type 0) (k : Knowing known w sent.to) (judged : Judged) (now : Layer P) (outbox : OutboxState) where
  abbrev pub new_nodes : WorldState
  new_nodes = record w { target = target; initiators = initiators }

  abbrev pub all_handed : WorldState
  all_handed = handed_out sent.to 0 outbox (with_note (judged_note serial judged) (marked serial again new_nodes))

  known_new : Knowing known new_nodes sent.to
  known_new = record {
    all = λ id q. record { node = (k.all id q).node; there = subst (λ m. (k.all id q).node ≤ m) (sym n) (k.all id q).there; id_is = (k.all id q).id_is };
    aims = k.aims;
  }

  pub node_goes : Does known (judging_step layer sent.generation sent.bytes) sent.bytes judged now outbox → StandsAt past (upd (layers_of w) sent.to (bare now)) None all_handed
  unfolding nodes_beside
  node_goes d =
      let f = judging_step layer sent.generation sent.bytes in
      let new_stands = nodes_beside w h target initiators n in
      let inside : sent.to ≤ length initiators = subst (λ m. sent.to ≤ m) (sym n) there in
      let mark = marked_alike new_nodes serial again in
      delivery_goes past (layers_of w) known (marked serial again new_nodes) serial sent (there_still new_nodes (marked serial again new_nodes) sent.to mark inside) (knowing_still new_nodes (marked serial again new_nodes) mark known_new) judged f.1 now outbox d.plain d.small f.0
      (λ cause may. judged_marked new_nodes new_stands serial sent inside layer own cause may c.found again c.repeats c.flies)
      d.delivers

  pub handed_new : IsAlike new_nodes all_handed
  handed_new =
      let mark = marked_alike new_nodes serial again in
      alike_then new_nodes (with_note (judged_note serial judged) (marked serial again new_nodes)) all_handed
      (record { generations = mark.generations; target = mark.target; initiators = mark.initiators })
      (handed_alike sent.to 0 outbox (with_note (judged_note serial judged) (marked serial again new_nodes)))

-- what a node does is what is delivered
pub delivered_as : (Holds : WorldState → Type 0) (serial : ℕ) (again : Bool) (told : Option Told) (s : Scene) (r : Option Arrival × (OutboxState × Scene)) → received_step told serial s ≡ r → Holds (delivered_by serial again r).world → Holds (delivered serial again told s).world
unfolding delivered
delivered_as Holds serial again told s r e h = subst (λ x. Holds (delivered_by serial again x).world) (sym e) h

-- ---- a node in the place of the target
-- Its layer judged the packet, and the target that the world has behind it has a layer that waits for the same transactions.
module _ {P : Type 0} {past : List Moment} (w : WorldState) (h : Stands past w) (serial : ℕ) (again : Bool) (sent : Sent) (c : Comes serial again sent w h) (zero_to : sent.to ≡ 0) (layer : Layer P) (same : bare w.target.layer ≡ bare layer) (known : ℕ → Type 0) (all : (id : ℕ) → known id → IsKnown w 0 id) (judged : Judged) (now : Layer P) (outbox : OutboxState) (target : NodeState) (same_now : bare target.layer ≡ bare now) where
  pub zero_goes : Does known (judging_step layer sent.generation sent.bytes) sent.bytes judged now outbox → Lands past (with_target target w) (handed_out sent.to 0 outbox (with_note (judged_note serial judged) (marked serial again (with_target target w))))
  zero_goes d =
      let there : sent.to ≤ length w.initiators = subst (λ n. n ≤ length w.initiators) (sym zero_to) (omega arith) in
      let own : layers_of w sent.to ≡ bare layer = ap (λ n. layer_in w.target.layer w.initiators n) zero_to ∙ same in
      let k : Knowing known w sent.to = record { all = λ id q. subst (λ n. IsKnown w n id) (sym zero_to) (all id q); aims = λ id q l. absurd (omega (arith, zero_to, l)) } in
      let goes = node_goes w h serial again sent c there layer own target w.initiators refl known k judged now outbox d in
      let alike = handed_new w h serial again sent c there layer own target w.initiators refl known k judged now outbox in
      target_lands w (all_handed w h serial again sent c there layer own target w.initiators refl known k judged now outbox) sent.to target zero_to alike
      (subst (λ (l : Node). StandsAt past (upd (layers_of w) sent.to l) None (all_handed w h serial again sent c there layer own target w.initiators refl known k judged now outbox)) (sym same_now) goes)

-- ---- an initiator
-- an initiator asks the target alone
abbrev pub IsTarget : WorldState → (from id : ℕ) → Type 0
IsTarget w from id = id_of (topology_at w.generations from) 0 ≡ id

module _ {past : List Moment} (s : Scene) (h : Stands past s.world) (serial : ℕ) (again : Bool) (sent : Sent) (c : Comes serial again sent s.world h) (i : ℕ) where
  abbrev pub own_does : Judged × Turn
  own_does = receive_step sent.generation sent.bytes empty_outbox (initiator_at s.world i)

  pub own_goes : (known : ℕ → Type 0) → ((id : ℕ) → known id → IsTarget s.world (suc i) id) → sent.to ≡ suc i → i < length s.world.initiators → Does known (judging_step (initiator_at s.world i).layer sent.generation sent.bytes) sent.bytes own_does.0 own_does.1.1.layer own_does.1.0 → Lands past (with_initiator i own_does.1.1 s.world) (delivered_by serial again (initiator_received sent s)).world
  unfolding initiators_received arrived
  own_goes known all to_is inside d =
      let w = s.world in
      let r = own_does in
      let layer = (initiator_at w i).layer in
      let there : sent.to ≤ length w.initiators = subst (λ n. n ≤ length w.initiators) (sym to_is) (omega arith) in
      let own : layers_of w sent.to ≡ bare layer = ap (λ n. layer_in w.target.layer w.initiators n) to_is in
      let states = slice_set w.initiators i r.1.1 in
      let n = length-set w.initiators i r.1.1 in
      let k : Knowing known w sent.to = record {
        all = λ id q. record { node = 0; there = omega arith; id_is = ap (λ x. id_of (topology_at w.generations x) 0) to_is ∙ all id q };
        aims = λ id q l. refl;
      } in
      let goes = node_goes w h serial again sent c there layer own w.target states n known k r.0 r.1.1.layer r.1.0 d in
      let alike = handed_new w h serial again sent c there layer own w.target states n known k r.0 r.1.1.layer r.1.0 in
      subst (λ x. Lands past (with_initiator i r.1.1 w) (delivered_by serial again x).world) (sym (own_is i s sent to_is ∙ own_inside sent i s inside))
      (own_lands w (all_handed w h serial again sent c there layer own w.target states n known k r.0 r.1.1.layer r.1.0) sent.to i r.1.1 to_is inside alike goes)

  -- no initiator has this number
  pub none_goes : sent.to ≡ suc i → length s.world.initiators ≤ i → Lands past s.world (delivered_by serial again (initiator_received sent s)).world
  none_goes to_is outside =
      subst (λ x. Lands past s.world (delivered_by serial again x).world) (sym (own_is i s sent to_is ∙ own_outside sent i s outside))
      (record { stands = none_after past serial again s h; alike = alike_same s.world })

-- the store has no packet of this serial
pub none_at : {past : List Moment} (s : Scene) → Stands past s.world → (serial : ℕ) (again : Bool) (told : Option Told) → found_sent serial s.world.store.kept ≡ None → Lands past s.world (delivered serial again told s).world
unfolding received_step
none_at {past} s h serial again told e =
    delivered_as (Lands past s.world) serial again told s (at_none s) (ap (λ o. received_by told o s) e)
    (record { stands = none_after past serial again s h; alike = alike_same s.world })
