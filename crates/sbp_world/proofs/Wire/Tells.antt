-- What is told of other things than the wire, and the lines that begin.
use Rattle.sbp_world.proofs.Words.Std.{sym, ◌∙◌, ap}
use Rattle.sbp_world.proofs.Words.Wire.{May, is_plain, is_reset, Move, tell, start, moved, ArePlainSides, IsPlainSide, Due, Node, Moment, asked, said, Terms, terms, opened, Event, Note, Side, ListLoad, Holder, topology_at, counted}
use Rattle.sbp_world.proofs.Words.World.{told, told_all, WorldState, with_note, without_notes, IsWireAt, Stands, StandsAt}
use Rattle.std.specs.Prelude.{◌≡◌, ℕ, Bool, true, false, List, [], ◌∷◌, ◌++◌, map, Option, refl}
use Rattle.bus_transactions.proofs.MoveOthers.{plain_terms}
use Rattle.bus_transactions.proofs.Reaches.{goes_on}
use Rattle.sbp_journal.specs.declared.event.Event.TheVariants as events
use Rattle.sbp_journal.specs.declared.side.Side.TheVariants as sides
use Rattle.sbp_world.proofs.Wire.Agrees.{opened_agrees, plain_agrees, still_knows}
use Rattle.sbp_world.proofs.Wire.Entered.{entered_by}

-- one move leads on
pub leads : {past later : List Moment} {layers left : ℕ → Node} {due owed : Option Due} (w new : WorldState) (h : StandsAt past layers due w) (move : Move) → May move h.wire → IsWireAt later left owed new (moved move h.wire) → StandsAt later left owed new
leads w new h move may is = record {
  wire = moved move h.wire;
  reached = goes_on.more h.wire move h.reached may;
  is = is;
}

-- a note that the wire does not read
pub tells : {layers : ℕ → Node} {due : Option Due} (past : List Moment) (w : WorldState) (note : Note) → is_plain note ≡ true → StandsAt past layers due w → StandsAt past layers due (with_note note w)
tells past w note plain h = leads w (with_note note w) h (tell note) plain (record {
  store_is = h.is.store_is;
  bus_is = h.is.bus_is;
  ids_are = h.is.ids_are;
  layers_are = h.is.layers_are;
  due_is = h.is.due_is;
  past_is = ap (λ ms. said note ∷ ms) h.is.past_is;
  few = h.is.few;
  seen = h.is.seen;
  size = h.is.size;
  sizes = h.is.sizes;
  sights = h.is.sights;
  known_ids = λ node peer l m.
      ap (λ (t : Terms). t.ids (topology_at w.generations node).generation peer) (plain_terms note (terms h.wire.past) plain) ∙ h.is.known_ids node peer l m;
  knows = still_knows (plain_agrees note (terms h.wire.past) plain) h.is.knows;
  entered = entered_by (sym (plain_agrees note (terms h.wire.past) plain).ids) h.is.entered;
  fair = ap (λ (f : ℕ → Bool). f 0) (plain_agrees note (terms h.wire.past) plain).injects ∙ h.is.fair;
})

-- places and loads are no part of the wire
pub places_beside : {layers : ℕ → Node} {due : Option Due} (past : List Moment) (w : WorldState) (places : List (Option Holder)) (loads : List ListLoad) → StandsAt past layers due w → StandsAt past layers due (record w { places = places; loads = loads })
places_beside past w places loads h = record {
  wire = h.wire;
  reached = h.reached;
  is = record {
    store_is = h.is.store_is;
    bus_is = h.is.bus_is;
    ids_are = h.is.ids_are;
    layers_are = h.is.layers_are;
    due_is = h.is.due_is;
    past_is = h.is.past_is;
    few = h.is.few;
    seen = h.is.seen;
    size = h.is.size;
    sizes = h.is.sizes;
    sights = h.is.sights;
    known_ids = h.is.known_ids;
    knows = h.is.knows;
    entered = h.is.entered;
    fair = h.is.fair;
  };
}

-- a line that is no reset begins
opened_ids : (event : Event) (t : Terms) → is_reset event ≡ false → (opened event t).ids ≡ t.ids
opened_ids (events.Begin initiators ready) t e = refl
opened_ids (events.Act initiator action) t e = refl
opened_ids (events.Reset physical) t e = cc
opened_ids (events.See node) t e = refl
opened_ids (events.Deliver s) t e = refl
opened_ids (events.Repeat s) t e = refl
opened_ids (events.Lose s) t e = refl
opened_ids (events.Timeout s) t e = refl
opened_ids (events.Step count) t e = refl
opened_ids events.Settle t e = refl
opened_ids events.Tick t e = refl
opened_ids (events.Inject initiator bytes) t e = refl
opened_ids (events.Key unit key) t e = refl

pub starts : (past : List Moment) (w : WorldState) (line : ℕ) (event : Event) → is_reset event ≡ false → Stands past w → Stands (asked line event ∷ (map said w.fresh ++ past)) (without_notes w)
starts past w line event other h = leads w (without_notes w) h (start line event) (record { free = h.is.due_is; other = other }) (record {
  store_is = h.is.store_is;
  bus_is = h.is.bus_is;
  ids_are = h.is.ids_are;
  layers_are = h.is.layers_are;
  due_is = h.is.due_is;
  past_is = ap (λ ms. asked line event ∷ ms) h.is.past_is;
  few = h.is.few;
  seen = h.is.seen;
  size = h.is.size;
  sizes = h.is.sizes;
  sights = h.is.sights;
  known_ids = λ node peer l m.
      ap (λ (ids : ℕ → ℕ → ℕ). ids (topology_at w.generations node).generation peer) (opened_ids event (terms h.wire.past) other) ∙ h.is.known_ids node peer l m;
  knows = still_knows (opened_agrees event (terms h.wire.past) other) h.is.knows;
  entered = entered_by (sym (opened_agrees event (terms h.wire.past) other).ids) h.is.entered;
  fair = ap (λ (f : ℕ → Bool). f 0) (opened_agrees event (terms h.wire.past) other).injects ∙ h.is.fair;
})

-- ---- what a node tells
told_one : {layers : ℕ → Node} {due : Option Due} (past : List Moment) (weight : ℕ) (side : Side) (w : WorldState) → IsPlainSide side → StandsAt past layers due w → StandsAt past layers due (told weight side w)
unfolding told is_plain
told_one past weight (sides.Own note) w p h = tells past _ note p (places_beside past w w.places (counted weight note w.loads) h)
told_one past weight (sides.Opened place orb) w p h = places_beside past w _ w.loads h
told_one past weight (sides.Ran place orb cdb payload outcome) w p h = tells past w _ refl h
told_one past weight (sides.Ended place orb status) w p h = tells past w _ refl h
told_one past weight (sides.Dead place cause) w p h = tells past w _ refl h
told_one past weight (sides.Cut place cause) w p h = tells past _ _ refl (places_beside past w w.places _ h)
told_one past weight (sides.Managed node function subject status login) w p h = tells past _ _ refl (places_beside past w _ w.loads h)
told_one past weight (sides.ManageFailed node cause) w p h = tells past w _ refl h
told_one past weight (sides.Held login) w p h = tells past w _ refl h
told_one past weight (sides.Expired login) w p h = tells past _ _ refl (places_beside past w _ w.loads h)
told_one past weight (sides.Back login) w p h = tells past w _ refl h
told_one past weight (sides.Left login) w p h = tells past _ _ refl (places_beside past w _ w.loads h)
told_one past weight (sides.Cleared unit) w p h = tells past w _ refl h
told_one past weight (sides.Unsolicited place) w p h = tells past w _ refl h
told_one past weight (sides.Unsent place) w p h = tells past w _ refl h

pub told_plain : {layers : ℕ → Node} {due : Option Due} (past : List Moment) (weight : ℕ) (told_now : List Side) (w : WorldState) → ArePlainSides told_now → StandsAt past layers due w → StandsAt past layers due (told_all weight told_now w)
unfolding told_all
told_plain past weight [] w p h = h
told_plain past weight (side ∷ later) w p h = told_plain past weight later (told weight side w) p.1 (told_one past weight side w p.0 h)
