-- A transaction that is under way, by what the history says, is found by its serial, and times out.
use Rattle.sbp_world.proofs.Words.Std.{is_ok, if◌then◌else◌, arith, sym, ◌∙◌, ap, subst}
use Rattle.sbp_world.proofs.Words.Wire.{LabelParts, LabelState, ReplyKind, expiring_step, state_for, awaits, kind_as, shape, shape_of, Node, id_for, transaction, empty_outbox, Moment, Kind, Sending, Transaction, begun_by, Held, Terms, free, rests, terms, waits, Request, id_of, topology_at, find, serial_at, request_of}
use Rattle.sbp_world.proofs.Words.Target.{expired}
use Rattle.sbp_world.proofs.Words.Initiator.{expire_step}
use Rattle.sbp_world.proofs.Words.World.{at_initiator, initiator_expires, target_expired, WorldState, initiator_at, Stands, layer_in}
use Rattle.std.specs.Prelude.{◌≡◌, ◌≤◌, ◌<◌, ℕ, zero, suc, ◌-◌, ◌&&◌, nat_eq, nat_lt, Bool, true, false, List, length, Option, Some, None, refl}
use Rattle.label_table.specs.declared.place.LabelState.TheVariants as states
use Rattle.bus_transactions.proofs.Facts.{asked_is, begun_asked}
use Rattle.bus_transactions.proofs.Reaches.{goes_on}
use Rattle.sbp_laws.specs.Packets as laws
use Rattle.sbp_target.specs.Nodes as target
use Rattle.sbp_world.specs.Packets.{at_target}
use Rattle.sbp_world.specs.Packets as packets
use Rattle.sbp_world.proofs.Wire.Bus.{holds}
use Rattle.sbp_world.proofs.Wire.Entered.{number_small, waiting_expires}
use Rattle.sbp_world.proofs.Wire.Found.{id_known}
use Rattle.sbp_world.proofs.Wire.Arrivals.{IsTarget}
use Rattle.sbp_world.proofs.Wire.UnderWay.{at_own_is, at_target_is, layer_ok, own_ok, target_ok}

-- the transaction that a serial is under way for
record Awaited (t : Terms) (serial : ℕ) : Type 0 where
  packet : Sending
  sent : t.sent serial ≡ Some packet
  u : Transaction
  begun : begun_by packet ≡ Some u
  now : t.generation u.requester ≡ u.generation
  kind : Kind
  held : t.held u ≡ waits kind serial

awaited_held : (t : Terms) (serial : ℕ) (q : Sending) → t.sent serial ≡ Some q → (u : Transaction) → begun_by q ≡ Some u → (n : Bool) → laws.is_of_now t u ≡ n → (held : Held) → t.held u ≡ held → (n && laws.is_waiting_for held serial) ≡ true → Awaited t serial
awaited_held t serial q e u b false n held h f = cc
awaited_held t serial q e u b true n free h f = cc
awaited_held t serial q e u b true n rests h f = cc
awaited_held t serial q e u b true n (waits kind other) h f = record {
  packet = q;
  sent = e;
  u = u;
  begun = b;
  now = grind arith;
  kind = kind;
  held = h ∙ ap (waits kind) (let x : other ≡ serial = grind arith in x);
}

awaited_as : (t : Terms) (serial : ℕ) (q : Sending) → t.sent serial ≡ Some q → (begun : Option Transaction) → begun_by q ≡ begun → laws.waits_for t begun serial ≡ true → Awaited t serial
awaited_as t serial q e None b f = cc
awaited_as t serial q e (Some u) b f = awaited_held t serial q e u b (laws.is_of_now t u) refl (t.held u) refl f

awaited_by : (t : Terms) (serial : ℕ) (sent : Option Sending) → t.sent serial ≡ sent → laws.waits_for t (laws.begun_in sent) serial ≡ true → Awaited t serial
awaited_by t serial None e f = cc
awaited_by t serial (Some q) e f = awaited_as t serial q e (begun_by q) refl f

state_waits : (state : LabelState) (kind : ReplyKind) → shape state ≡ awaits kind → (call : ℕ) × (state ≡ states.UnderWay kind call)
state_waits states.Free kind e = cc
state_waits states.Resting kind e = cc
state_waits (states.UnderWay k call) kind e = let same : k ≡ kind = cc in (call, ap (λ x. states.UnderWay x call) same)

record Lapses (w : WorldState) (layer : ℕ → Node) (t : Terms) (serial : ℕ) : Type 0 where
  request : Request
  found : find w.requests serial ≡ Some request
  there : request.node ≤ length w.initiators
  ok : is_ok (expiring_step (layer request.node) request.peer request.label).0 ≡ true
  to_target : 0 < request.node → request.peer ≡ t.ids (layer request.node).generation 0

module _ {past : List Moment} (w : WorldState) (h : Stands past w) (serial : ℕ) where
  is_found : laws.is_under_way (terms h.wire.past) serial ≡ true → Lapses w h.wire.layer (terms h.wire.past) serial
  is_found e =
      let wire = h.wire in
      let t : Terms = terms wire.past in
      let a : Awaited t serial = awaited_by t serial (t.sent serial) refl e in
      let u = a.u in
      let ours = h.is.knows.ours serial a.packet a.sent in
      let by = asked_is a.packet u (begun_asked a.packet u a.begun).1 in
      let there : u.requester ≤ length w.initiators = subst (λ (v : Transaction). v.requester ≤ length w.initiators) (sym by.is) ours.from in
      let to_there : u.responder ≤ length w.initiators = subst (λ (v : Transaction). v.responder ≤ length w.initiators) (sym by.is) ours.to in
      let node = (holds wire h.reached).nodes u.requester in
      let l = wire.layer u.requester in
      let peer = t.ids l.generation u.responder in
      let shaped : shape (state_for l.peers peer u.label) ≡ awaits (kind_as a.kind) =
      ap (λ g. shape (state_for l.peers (t.ids g u.responder) u.label)) node.generation
      ∙ node.states_are u.responder u.label
      ∙ ap (λ g. shape_of (t.held (transaction g u.requester u.responder u.label))) a.now
      ∙ ap shape_of a.held in
      let state = state_waits (state_for l.peers peer u.label) (kind_as a.kind) shaped in
      let label : LabelParts = record { number = u.label; generation = l.generation; serial = state.0 } in
      let request : Request = request_of u.requester peer label in
      let small = number_small l peer u.label state.0 (kind_as a.kind) node.places state.1 in
      let entered = h.is.entered.entry u.requester u.responder u.label (kind_as a.kind) state.0 there to_there small state.1 in
      let latest_now = h.is.knows.latest (serial_at w.requests u.requester u.responder u.label) request entered.found in
      let to_is : latest_now.to ≡ u.responder = goes_on.apart wire l.generation latest_now.to u.responder h.reached (sym latest_now.peer_is) in
      let current : serial_at w.requests u.requester u.responder u.label ≡ serial =
      sym latest_now.current_is
      ∙ ap (λ to. t.current (transaction l.generation u.requester to u.label)) to_is
      ∙ ap (λ g. t.current (transaction g u.requester u.responder u.label)) (node.generation ∙ a.now)
      ∙ sym (goes_on.awaited wire u a.kind serial h.reached a.held).current in
      record {
        request = request;
        found = ap (find w.requests) (sym current) ∙ entered.found;
        there = there;
        ok = waiting_expires l peer label (kind_as a.kind) node.places state.1 refl;
        to_target = λ positive. latest_now.peer_is ∙ ap (λ to. t.ids l.generation to) (latest_now.aimed positive);
      }

module _ {past : List Moment} (w : WorldState) (h : Stands past w) (aimed : (i : ℕ) → i < length w.initiators → IsTarget w (suc i) (initiator_at w i).target) (request : Request) (there : request.node ≤ length w.initiators) (ok : is_ok (expiring_step (h.wire.layer request.node) request.peer request.label).0 ≡ true) (to_target : 0 < request.node → request.peer ≡ id_for h.wire request.node 0) where
  target_lapses : request.node ≡ 0 → (target_expired request w.target).0 ≡ true
  unfolding target_expired expired
  target_lapses zero_is =
      sym (target_ok (expiring_step w.target.layer request.peer request.label) request.peer request.label (target.scene w.target empty_outbox) w.target)
      ∙ sym (layer_ok w h request.node there w.target.layer (ap (λ n. layer_in w.target.layer w.initiators n) zero_is) request.peer request.label)
      ∙ ok

  own_lapses : (i : ℕ) → request.node ≡ suc i → i < length w.initiators → (expire_step request.label empty_outbox (initiator_at w i)).0 ≡ true
  unfolding expire_step
  own_lapses i node_is inside =
      let old = initiator_at w i in
      let peer_is : request.peer ≡ old.target =
      to_target (subst (λ x. 0 < x) (sym node_is) (omega arith))
      ∙ id_known w h request.node there 0 (omega arith) ∙ ap (λ x. id_of (topology_at w.generations x) 0) node_is ∙ aimed i inside in
      sym (own_ok (expiring_step old.layer old.target request.label) old)
      ∙ sym (layer_ok w h request.node there old.layer (ap (λ x. layer_in w.target.layer w.initiators x) node_is) old.target request.label)
      ∙ (subst (λ p. is_ok (expiring_step (h.wire.layer request.node) p request.label).0 ≡ true) peer_is ok)

  lapses_if : (i j : ℕ) → request.node ≡ suc i → j ≡ i → (b : Bool) → nat_lt j (length w.initiators) ≡ b → (if b then at_initiator j (expire_step request.label empty_outbox (initiator_at w j)) w else (false, (empty_outbox, w))).0 ≡ true
  lapses_if i j node_is same true f =
      let inside : i < length w.initiators = grind arith in
      at_own_is j (expire_step request.label empty_outbox (initiator_at w j)) w
      ∙ ap (λ x. (expire_step request.label empty_outbox (initiator_at w x)).0) same
      ∙ own_lapses i node_is inside
  lapses_if i j node_is same false f =
      let x : nat_lt j (length w.initiators) ≡ true = grind arith in cc

  lapses_at : (node : ℕ) → request.node ≡ node → (packets.expires request w).0 ≡ true
  unfolding packets.expires
  lapses_at zero z =
      let zero_test : nat_eq request.node 0 ≡ true = grind arith in
      ap (λ b. (if b then at_target (target_expired request w.target) w else initiator_expires request w).0) zero_test
      ∙ at_target_is (target_expired request w.target) w
      ∙ target_lapses z
  lapses_at (suc i) n =
      let zero_test : nat_eq request.node 0 ≡ false = grind arith in
      ap (λ b. (if b then at_target (target_expired request w.target) w else initiator_expires request w).0) zero_test
      ∙ lapses_if i (request.node - 1) n (omega (arith, n)) (nat_lt (request.node - 1) (length w.initiators)) refl

-- a request that is found, and times out
pub record TimesOutNow (w : WorldState) (serial : ℕ) : Type 0 where
  pub request : Request
  pub found : find w.requests serial ≡ Some request
  pub expires : (packets.expires request w).0 ≡ true

pub under_way_expires : {past : List Moment} (w : WorldState) (h : Stands past w) (serial : ℕ) → ((i : ℕ) → i < length w.initiators → IsTarget w (suc i) (initiator_at w i).target) → laws.is_under_way (terms h.wire.past) serial ≡ true → TimesOutNow w serial
under_way_expires w h serial aimed e =
    let f = is_found w h serial e in
    record {
      request = f.request;
      found = f.found;
      expires = lapses_at w h aimed f.request f.there f.ok f.to_target f.request.node refl;
    }
