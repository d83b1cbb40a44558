-- A transaction times out: the request that is found by the serial is the present one of its transaction.
use Rattle.sbp_world.proofs.Words.Std.{is_ok, sym, ◌∙◌, ap, subst, upd}
use Rattle.sbp_world.proofs.Words.Wire.{LabelParts, Stale, Layer, expired_at, expiring_in, expiring_step, peer_at, peer_place, PeerPlace, expire_place, bare, bare_after, bare_purpose, bare_result, expire, expiring, AreSmall, ArePlainSides, IsAsking, Node, id_for, transaction, Moment, said, OutboxState, Terms, terms, Request, topology_at, find}
use Rattle.sbp_world.proofs.Words.World.{handed_out, WorldState, with_note, IsLatest, IsWireAt, StandsAt}
use Rattle.std.specs.Prelude.{◌≡◌, ◌≤◌, ℕ, nat_eq, Bool, cond, List, ◌∷◌, length, Option, Some, None, Result, Ok, Err, refl}
use Rattle.bus_transactions.proofs.Bares.{takes_steps}
use Rattle.sbp_journal.specs.declared.note.Note.TheVariants as notes
use Rattle.sbp_world.proofs.Wire.Agrees.{still_knows, timed_agrees}
use Rattle.sbp_world.proofs.Wire.Asks.{own_layer, relayered, sight_by, upd_own, upd_twice}
use Rattle.sbp_world.proofs.Wire.Bus.{holds}
use Rattle.sbp_world.proofs.Wire.Handing.{Knowing, asks_out}
use Rattle.sbp_world.proofs.Wire.Handles.{expired_generation}
use Rattle.sbp_world.proofs.Wire.Tells.{leads}
use Rattle.sbp_world.proofs.Wire.Entered.{entered_by, expires_less, less_entered}

-- ---- a time-out leaves a layer in its generation
module _ {P : Type 0} where
  expired_stays : (k : ℕ) (layer : Layer P) (r : Result (Option P) Stale × PeerPlace P) → (expired_at k layer r).1.generation ≡ layer.generation
  expired_stays k layer (Ok purpose, place) = refl
  expired_stays k layer (Err stale, place) = refl

  expires_in : (k : Option ℕ) (layer : Layer P) (label : LabelParts) → (expiring_in k layer label).1.generation ≡ layer.generation
  expires_in None layer label = refl
  expires_in (Some k) layer label = expired_stays k layer (expire_place (peer_at layer k) label)

  expires_stay : (layer : Layer P) (peer : ℕ) (label : LabelParts) → (expiring_step layer peer label).1.generation ≡ layer.generation
  unfolding expiring_step
  expires_stay layer peer label = expires_in (peer_place peer layer) layer label

  -- a stale one leaves it as it was
  abbrev IfStale : Layer P → Result (Option P) Stale × Layer P → Type 0
  IfStale layer (Ok purpose, new) = Unit {0}
  IfStale layer (Err stale, new) = new ≡ layer

  stale_at : (k : ℕ) (layer : Layer P) (r : Result (Option P) Stale × PeerPlace P) → IfStale layer (expired_at k layer r)
  stale_at k layer (Ok purpose, place) = tt
  stale_at k layer (Err stale, place) = refl

  stale_in : (k : Option ℕ) (layer : Layer P) (label : LabelParts) → IfStale layer (expiring_in k layer label)
  stale_in None layer label = refl
  stale_in (Some k) layer label = stale_at k layer (expire_place (peer_at layer k) label)

  stale_by : (layer : Layer P) (peer : ℕ) (label : LabelParts) → IfStale layer (expiring_step layer peer label)
  unfolding expiring_step
  stale_by layer peer label = stale_in (peer_place peer layer) layer label

  pub stale_same : (layer : Layer P) (peer : ℕ) (label : LabelParts) (stale : Stale) (new : Layer P) → expiring_step layer peer label ≡ (Err stale, new) → new ≡ layer
  stale_same layer peer label stale new e = subst (IfStale layer) e (stale_by layer peer label)

-- ---- the move
module _ {P : Type 0} {past : List Moment} {layers : ℕ → Node} (w : WorldState) (h : StandsAt past layers None w) (serial : ℕ) (request : Request) (found : find w.requests serial ≡ Some request) (there : request.node ≤ length w.initiators) (layer : Layer P) (own : layers request.node ≡ bare layer) (id : ℕ) where
  pub latest : IsLatest w.requests (terms h.wire.past).ids (terms h.wire.past).current (terms h.wire.past).bus serial request
  latest = h.is.knows.latest serial request found

  -- the ID that the request went to, as its sender's layer has it
  abbrev pub Aims : Type 0
  Aims = request.label.generation ≡ (h.wire.layer request.node).generation → id_for h.wire request.node latest.to ≡ id

  pub timed_out_as : Aims → (purpose : Option P) (new : Layer P) → expiring_step layer id request.label ≡ (Ok purpose, new) → StandsAt past (upd layers request.node (bare new)) None (with_note (notes.TimedOut serial) w)
  timed_out_as aims purpose new e =
      let wire = h.wire in
      let t : Terms = terms wire.past in
      let to = latest.to in
      let number = request.label.number in
      let now = with_note (notes.TimedOut serial) w in
      let all = holds wire h.reached in
      let first : expiring_step (wire.layer request.node) id request.label ≡ (Ok (bare_purpose purpose), bare new) =
      ap (λ (l : Node). expiring_step l id request.label) (own_layer w h request.node there layer own)
      ∙ (takes_steps P).expires layer id request.label
      ∙ ap (λ (r : Result (Option P) Stale × Layer P). bare_after bare_result r) e in
      let same_generation : request.label.generation ≡ (wire.layer request.node).generation =
      expired_generation (wire.layer request.node) id request.label (bare_purpose purpose) (bare new) (all.nodes request.node).places first in
      let step : expiring_step (wire.layer request.node) (id_for wire request.node to) request.label ≡ (Ok (bare_purpose purpose), bare new) =
      ap (λ i. expiring_step (wire.layer request.node) i request.label) (aims same_generation) ∙ first in
      let current_is : t.current (transaction (wire.layer request.node).generation request.node to number) ≡ serial =
      ap (λ g. t.current (transaction g request.node to number)) (sym same_generation) ∙ latest.current_is in
      let agrees = timed_agrees (t.sent (t.current (transaction (wire.layer request.node).generation request.node to number))) t in
      let stays : new.generation ≡ layer.generation = ap (λ (r : Result (Option P) Stale × Layer P). r.1.generation) (sym e) ∙ expires_stay layer id request.label in
      leads w now h (expire request.node to request.label) (record {
        free = h.is.due_is;
        current = ap (λ (r : Result (Option (Unit {0})) Stale × Node). is_ok r.0) step;
      })
      (subst (λ (r : Result (Option (Unit {0})) Stale × Node). IsWireAt past (upd layers request.node (bare new)) None now (expiring r request.node to number wire)) (sym step) (record {
        store_is = h.is.store_is;
        bus_is = h.is.bus_is;
        ids_are = h.is.ids_are;
        layers_are = λ n l. ap (λ (x : Node). cond (nat_eq n request.node) (bare new) x) (h.is.layers_are n l);
        due_is = h.is.due_is;
        past_is = ap (λ n. said (notes.TimedOut n) ∷ wire.past) current_is ∙ ap (λ ms. said (notes.TimedOut serial) ∷ ms) h.is.past_is;
        few = h.is.few;
        seen = h.is.seen;
        size = h.is.size;
        sizes = h.is.sizes;
        sights = λ n l. sight_by w h request.node there layer own new n (nat_eq n request.node) refl stays ∙ h.is.sights n l;
        known_ids = λ n peer l m. ap (λ (ids : ℕ → ℕ → ℕ). ids (topology_at w.generations n).generation peer) agrees.ids ∙ h.is.known_ids n peer l m;
        knows = still_knows agrees h.is.knows;
        entered = entered_by (sym agrees.ids) (less_entered wire.layer request.node (bare new) (expires_less (wire.layer request.node) id request.label (all.nodes request.node).places first) h.is.entered);
        fair = ap (λ (f : ℕ → Bool). f 0) agrees.injects ∙ h.is.fair;
      }))

  -- and then nodes are asked
  pub expiry_goes : Aims → (known : ℕ → Type 0) → Knowing known w request.node → (purpose : Option P) (new now : Layer P) (outbox : OutboxState) → expiring_step layer id request.label ≡ (Ok purpose, new) → IsAsking known new now outbox.packets → ArePlainSides outbox.sides → AreSmall outbox.packets → StandsAt past (upd layers request.node (bare now)) None (handed_out request.node 0 outbox (with_note (notes.TimedOut serial) w))
  expiry_goes aims known k purpose new now outbox e a plain small =
      relayered (handed_out request.node 0 outbox (with_note (notes.TimedOut serial) w))
      (asks_out known (with_note (notes.TimedOut serial) w) request.node 0 there (record { all = k.all; aims = k.aims }) new now (upd_own layers request.node (bare new)) outbox plain small a (timed_out_as aims purpose new e))
      (λ n l. upd_twice layers request.node (bare new) (bare now) n)
