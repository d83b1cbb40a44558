-- A transaction that times out at its sender is under way, by what the history says.
use Rattle.sbp_world.proofs.Words.Std.{is_ok, if◌then◌else◌, arith, sym, ◌∙◌, ap, subst}
use Rattle.sbp_world.proofs.Words.Wire.{LabelParts, ReplyKind, Stale, Layer, expiring_step, state_for, bare, bare_after, bare_result, IsAwaited, awaits, shape, shape_of, Node, id_for, transaction, empty_outbox, Moment, Kind, Sending, Transaction, Held, Terms, begun_in, free, rests, terms, waits, Request, id_of, topology_at, find}
use Rattle.sbp_world.proofs.Words.Target.{Purpose, NodeState, expired, expired_in}
use Rattle.sbp_world.proofs.Words.Initiator.{expire_step, expired_as, OwnPurpose, InitiatorState}
use Rattle.sbp_world.proofs.Words.World.{at_initiator, initiator_expires, target_expired, target_left, WorldState, initiator_at, Stands, layer_in, layers_of}
use Rattle.std.specs.Prelude.{◌≡◌, ◌≤◌, ◌<◌, ℕ, zero, suc, ◌-◌, ◌==◌, ◌&&◌, nat_eq, nat_lt, Bool, true, false, List, length, Option, Some, Result, Ok, Err, refl}
use Rattle.label_table.specs.declared.place.LabelState.TheVariants as states
use Rattle.bus_transactions.proofs.Bares.{takes_steps}
use Rattle.bus_transactions.proofs.Reaches.{goes_on}
use Rattle.bus_transactions.proofs.Steps.{ExpiredAs, expires}
use Rattle.sbp_laws.specs.Packets as laws
use Rattle.sbp_target.specs.Nodes as target
use Rattle.sbp_world.specs.Packets.{at_target}
use Rattle.sbp_world.specs.Packets as packets
use Rattle.sbp_world.proofs.Wire.Asks.{own_layer}
use Rattle.sbp_world.proofs.Wire.Bus.{holds}
use Rattle.sbp_world.proofs.Wire.Expires.{Aims, latest}
use Rattle.sbp_world.proofs.Wire.Found.{id_known}
use Rattle.sbp_world.proofs.Wire.Handles.{expired_generation}
use Rattle.sbp_world.proofs.Wire.Arrivals.{IsTarget}

-- ---- a label that waits
record Waits (held : Held) : Type 0 where
  kind : Kind
  serial : ℕ
  is : held ≡ waits kind serial

held_waits : (held : Held) (kind : ReplyKind) → awaits kind ≡ shape_of held → Waits held
held_waits free kind e = cc
held_waits rests kind e = cc
held_waits (waits k s) kind e = record { kind = k; serial = s; is = refl }

waits_as : (t : Terms) (u : Transaction) (packet : Sending) (serial : ℕ) (kind : Kind) → t.sent serial ≡ Some packet → begun_in (Some packet) ≡ Some u → t.generation u.requester ≡ u.generation → t.held u ≡ waits kind serial → laws.is_under_way t serial ≡ true
waits_as t u packet serial kind sent begun now held =
    ap (λ so. laws.waits_for t (begun_in so) serial) sent
    ∙ ap (λ o. laws.waits_for t o serial) begun
    ∙ ap (λ b. b && laws.is_waiting_for (t.held u) serial) (let e : laws.is_of_now t u ≡ true = grind arith in e)
    ∙ ap (λ x. laws.is_waiting_for x serial) held
    ∙ (let e : (serial == serial) ≡ true = grind arith in e)

-- ---- what times out at a layer
abbrev IsUnderWay : Node → ℕ → LabelParts → Type 0
IsUnderWay layer peer label = (kind : ReplyKind) × ((serial : ℕ) × (state_for layer.peers peer label.number ≡ states.UnderWay kind serial))

state_by : (layer : Node) (peer : ℕ) (label : LabelParts) (r : Result (Option (Unit {0})) Stale × Node) → ExpiredAs layer peer label r → is_ok r.0 ≡ true → IsUnderWay layer peer label
state_by layer peer label (Ok purpose, new) x e = (x.kind, (x.frees.serial, x.frees.was))
state_by layer peer label (Err stale, new) x e = cc

pub bare_ok : {P : Type 0} (r : Result (Option P) Stale × Layer P) → is_ok (bare_after bare_result r).0 ≡ is_ok r.0
bare_ok (Ok purpose, new) = refl
bare_ok (Err stale, new) = refl

-- a layer of the world answers as that of the wire
pub layer_ok : {P : Type 0} {past : List Moment} (w : WorldState) (h : Stands past w) (node : ℕ) → node ≤ length w.initiators → (layer : Layer P) → layers_of w node ≡ bare layer → (id : ℕ) (label : LabelParts) → is_ok (expiring_step (h.wire.layer node) id label).0 ≡ is_ok (expiring_step layer id label).0
layer_ok {P} w h node there layer own id label =
    ap (λ (l : Node). is_ok (expiring_step l id label).0) (own_layer w h node there layer own)
    ∙ ap (λ (r : Result (Option (Unit {0})) Stale × Node). is_ok r.0) ((takes_steps P).expires layer id label)
    ∙ bare_ok (expiring_step layer id label)

now_is : (layer : Node) (peer : ℕ) (label : LabelParts) (r : Result (Option (Unit {0})) Stale × Node) → (Ok' : is_ok r.0 ≡ true) → expiring_step layer peer label ≡ r → ((purpose : Option (Unit {0})) (new : Node) → expiring_step layer peer label ≡ (Ok purpose, new) → label.generation ≡ layer.generation) → label.generation ≡ layer.generation
now_is layer peer label (Ok purpose, new) o e f = f purpose new e
now_is layer peer label (Err stale, new) o e f = cc

module _ {P : Type 0} {past : List Moment} (w : WorldState) (h : Stands past w) (serial : ℕ) (request : Request) (found : find w.requests serial ≡ Some request) (there : request.node ≤ length w.initiators) (layer : Layer P) (own : layers_of w request.node ≡ bare layer) (id : ℕ) where
  pub under_way : Aims w h serial request found there layer own id → is_ok (expiring_step layer id request.label).0 ≡ true → laws.is_under_way (terms h.wire.past) serial ≡ true
  under_way aims o =
      let wire = h.wire in
      let t : Terms = terms wire.past in
      let all = holds wire h.reached in
      let node = all.nodes request.node in
      let l = wire.layer request.node in
      let entry = latest w h serial request found there layer own id in
      let number = request.label.number in
      let ok = layer_ok w h request.node there layer own id request.label ∙ o in
      let same_generation : request.label.generation ≡ l.generation =
      now_is l id request.label (expiring_step l id request.label) ok refl (λ purpose new e. expired_generation l id request.label purpose new node.places e) in
      let aim : id ≡ t.ids (t.generation request.node) entry.to = sym (aims same_generation) ∙ ap (λ g. t.ids g entry.to) node.generation in
      let state = state_by l id request.label (expiring_step l id request.label) (expires l id request.label node.places) ok in
      let u = transaction (t.generation request.node) request.node entry.to number in
      let waiting = held_waits (t.held u) state.0
      (sym (ap shape state.1.1) ∙ ap (λ p. shape (state_for l.peers p number)) aim ∙ node.states_are entry.to number) in
      let a : IsAwaited t u waiting.kind waiting.serial = goes_on.awaited wire u waiting.kind waiting.serial h.reached waiting.is in
      let generation : request.label.generation ≡ t.generation request.node = same_generation ∙ node.generation in
      let current : waiting.serial ≡ serial =
      a.current ∙ ap (λ g. t.current (transaction g request.node entry.to number)) (sym generation) ∙ entry.current_is in
      waits_as t u a.packet serial waiting.kind (ap t.sent (sym current) ∙ a.sent) a.begun refl (waiting.is ∙ ap (λ s. waits waiting.kind s) current)

-- ---- at the target, and at an initiator
pub target_ok : (r : Result (Option Purpose) Stale × Layer Purpose) (peer : ℕ) (label : LabelParts) (s : target.Scene) (old : NodeState) → is_ok r.0 ≡ (target_left (expired_in r peer label s) old).0
target_ok (Ok purpose, layer) peer label s old = refl
target_ok (Err stale, layer) peer label s old = refl

pub at_target_is : (r : Bool × _) (w : WorldState) → (at_target r w).0 ≡ r.0
at_target_is (b, (outbox, node)) w = refl

pub at_own_is : (i : ℕ) (r : Bool × _) (w : WorldState) → (at_initiator i r w).0 ≡ r.0
at_own_is i (b, (outbox, state)) w = refl

pub own_ok : (r : Result (Option OwnPurpose) Stale × Layer OwnPurpose) (s : InitiatorState) → is_ok r.0 ≡ (expired_as r empty_outbox s).0
own_ok (Ok purpose, layer) s = refl
own_ok (Err stale, layer) s = refl

module _ {past : List Moment} (w : WorldState) (h : Stands past w) (serial : ℕ) (request : Request) (found : find w.requests serial ≡ Some request) where
  at_zero : request.node ≡ 0 → (target_expired request w.target).0 ≡ true → laws.is_under_way (terms h.wire.past) serial ≡ true
  unfolding target_expired expired
  at_zero zero_is e =
      let there : request.node ≤ length w.initiators = subst (λ n. n ≤ length w.initiators) (sym zero_is) (omega arith) in
      let own : layers_of w request.node ≡ bare w.target.layer = ap (λ n. layer_in w.target.layer w.initiators n) zero_is in
      let entry = latest w h serial request found there w.target.layer own request.peer in
      under_way w h serial request found there w.target.layer own request.peer
      (λ g. ap (λ x. (terms h.wire.past).ids x entry.to) (sym g) ∙ sym entry.peer_is)
      (target_ok (expiring_step w.target.layer request.peer request.label) request.peer request.label (target.scene w.target empty_outbox) w.target ∙ e)

  at_own : (i : ℕ) → request.node ≡ suc i → i < length w.initiators → IsTarget w (suc i) (initiator_at w i).target → (expire_step request.label empty_outbox (initiator_at w i)).0 ≡ true → laws.is_under_way (terms h.wire.past) serial ≡ true
  unfolding expire_step
  at_own i node_is inside aimed e =
      let old = initiator_at w i in
      let there : request.node ≤ length w.initiators = subst (λ x. x ≤ length w.initiators) (sym node_is) inside in
      let own : layers_of w request.node ≡ bare old.layer = ap (λ x. layer_in w.target.layer w.initiators x) node_is in
      let entry = latest w h serial request found there old.layer own old.target in
      let to_zero : entry.to ≡ 0 = entry.aimed (subst (λ x. 0 < x) (sym node_is) (omega arith)) in
      under_way w h serial request found there old.layer own old.target
      (λ g. ap (id_for h.wire request.node) to_zero ∙ id_known w h request.node there 0 (omega arith) ∙ ap (λ x. id_of (topology_at w.generations x) 0) node_is ∙ aimed)
      (own_ok (expiring_step old.layer old.target request.label) old ∙ e)

  module _ (aimed : (i : ℕ) → i < length w.initiators → IsTarget w (suc i) (initiator_at w i).target) where
    own_if : (i j : ℕ) → request.node ≡ suc i → j ≡ i → (b : Bool) → nat_lt j (length w.initiators) ≡ b → (if b then at_initiator j (expire_step request.label empty_outbox (initiator_at w j)) w else (false, (empty_outbox, w))).0 ≡ true → laws.is_under_way (terms h.wire.past) serial ≡ true
    own_if i j node_is same true f e =
        let inside : i < length w.initiators = grind arith in
        at_own i node_is inside (aimed i inside)
        (ap (λ x. (expire_step request.label empty_outbox (initiator_at w x)).0) (sym same) ∙ sym (at_own_is j (expire_step request.label empty_outbox (initiator_at w j)) w) ∙ e)
    own_if i j node_is same false f e = cc

    by_node : (node : ℕ) → request.node ≡ node → (packets.expires request w).0 ≡ true → laws.is_under_way (terms h.wire.past) serial ≡ true
    unfolding packets.expires
    by_node zero z e =
        let zero_test : nat_eq request.node 0 ≡ true = grind arith in
        at_zero z (sym (at_target_is (target_expired request w.target) w) ∙ sym (ap (λ b. (if b then at_target (target_expired request w.target) w else initiator_expires request w).0) zero_test) ∙ e)
    by_node (suc i) n e =
        let zero_test : nat_eq request.node 0 ≡ false = grind arith in
        own_if i (request.node - 1) n (omega (arith, n)) (nat_lt (request.node - 1) (length w.initiators)) refl
        (sym (ap (λ b. (if b then at_target (target_expired request w.target) w else initiator_expires request w).0) zero_test) ∙ e)

    -- what expires was under way
    pub expired_was : (packets.expires request w).0 ≡ true → laws.is_under_way (terms h.wire.past) serial ≡ true
    expired_was e = by_node request.node refl e
