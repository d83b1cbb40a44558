-- The lines in which nothing leaves a node.
use Rattle.sbp_world.proofs.Words.Std.{if◌then◌else◌, slice_set, arith, sym, ◌∙◌, ap, subst}
use Rattle.sbp_world.proofs.Words.Wire.{seeing_step, bare, is_plain, Moment, OutboxState, empty_outbox, Outgoing, id_of}
use Rattle.sbp_world.proofs.Words.Target.{NodeState, seen, ticked, with_key}
use Rattle.sbp_world.proofs.Words.Initiator.{Turn, see_step}
use Rattle.sbp_world.proofs.Words.World.{handed_out, keyed, no_unit, handed_all, initiator_learns, see_line, sees, target_learns, target_sees, target_ticks, tick_line, told_seen, with_seen, refused, sent_all, told_all, WorldState, initiator_at, with_initiator, with_note, with_target, Stands, layer_in}
use Rattle.std.specs.Prelude.{◌≡◌, ◌≤◌, ◌<◌, ℕ, zero, suc, ◌-◌, nat_eq, nat_lt, Bool, true, false, List, [], length, refl}
use Rattle.std.proofs.lemmas.List.{length-set}
use Rattle.sbp_journal.specs.declared.note.Note.TheVariants as notes
use Rattle.sbp_target.specs.Nodes as target
use Rattle.sbp_world.specs.Nodes.{at_initiator}
use Rattle.sbp_world.proofs.Wire.Bus.{refuses}
use Rattle.sbp_world.proofs.Wire.Forgets.{IsSilent, sees_rests}
use Rattle.sbp_world.proofs.Wire.TargetForgets.{seen_stays, ticked_stays}
use Rattle.sbp_world.proofs.Wire.Alike.{told_alike}
use Rattle.sbp_world.proofs.Wire.Asks.{relayered}
use Rattle.sbp_world.proofs.Wire.Nodes.{layers_alike}
use Rattle.sbp_world.proofs.Wire.See.{initiator_layers, saw, seen_layer, target_layers, not_zero}
use Rattle.sbp_world.proofs.Wire.Tells.{tells, told_plain}

-- what a node hands out in which no packet leaves
none_sent : (past : List Moment) (node : ℕ) (packets : List Outgoing) (w : WorldState) → packets ≡ [] → Stands past w → Stands past (sent_all node packets w)
unfolding sent_all
none_sent past node packets w e h = subst (λ ps. Stands past (sent_all node ps w)) (sym e) h

pub hands_out : (past : List Moment) (node weight : ℕ) (outbox : OutboxState) (w : WorldState) → IsSilent outbox → Stands past w → Stands past (handed_out node weight outbox w)
hands_out past node weight outbox w s h =
    let v = told_all weight outbox.sides w in
    none_sent past node outbox.packets v s.unsent
    (relayered v (told_plain past weight outbox.sides w s.plain h) (λ k l. layers_alike w v (told_alike weight outbox.sides w) k))

-- the target changes in what is not its layer
same_layer : (past : List Moment) (w : WorldState) (node : NodeState) → node.layer ≡ w.target.layer → Stands past w → Stands past (with_target node w)
same_layer past w node e h = record {
  wire = h.wire;
  reached = h.reached;
  is = record {
    store_is = h.is.store_is;
    bus_is = h.is.bus_is;
    ids_are = h.is.ids_are;
    layers_are = λ k l. h.is.layers_are k l ∙ ap (λ x. layer_in x w.initiators k) (sym e);
    due_is = h.is.due_is;
    past_is = h.is.past_is;
    few = h.is.few;
    seen = h.is.seen;
    size = h.is.size;
    sizes = h.is.sizes;
    sights = h.is.sights;
    known_ids = h.is.known_ids;
    knows = h.is.knows;
    entered = h.is.entered;
    fair = h.is.fair;
  };
}

-- ---- a second passes
pub ticks : (past : List Moment) (w : WorldState) → Stands past w → Stands past (tick_line w)
unfolding tick_line target_ticks is_plain
ticks past w h =
    let s = ticked (target.scene w.target empty_outbox) in
    let t = ticked_stays w.target in
    hands_out past 0 0 s.outbox (with_target s.node (with_note notes.Tick w)) t.silent
    (same_layer past (with_note notes.Tick w) s.node t.layer_is (tells past w notes.Tick refl h))

-- ---- a key
keys_by : (past : List Moment) (w : WorldState) (line unit : ℕ) (key : List ℕ) (b : Bool) → Stands past w → Stands past (if b then with_note (notes.Key unit) (with_target (with_key unit key w.target) w) else refused line no_unit w)
unfolding is_plain
keys_by past w line unit key true h = tells past (with_target (with_key unit key w.target) w) (notes.Key unit) refl (same_layer past w (with_key unit key w.target) refl h)
keys_by past w line unit key false h = refuses past w line no_unit h

pub keys : (past : List Moment) (w : WorldState) (line unit : ℕ) (key : List ℕ) → Stands past w → Stands past (keyed line unit key w)
unfolding keyed
keys past w line unit key h = keys_by past w line unit key (nat_lt unit (length w.target.units)) h

-- ---- a node sees the latest generation
target_saw : (past : List Moment) (w : WorldState) → Stands past w → Stands past (handed_all 0 (target_learns (with_seen 0 (told_seen 0 w))))
unfolding target_sees
target_saw past w h =
    let g = w.generations.latest.generation in
    let id = id_of w.generations.latest 0 in
    let s = (seen g id (target.scene w.target empty_outbox)).1 in
    let t = seen_stays g id w.target in
    let there : 0 ≤ length w.initiators = omega arith in
    hands_out past 0 0 s.outbox (with_target s.node (with_seen 0 (told_seen 0 w))) t.silent
    (saw past w 0 there h s.node w.initiators refl
    (target_layers h.wire (seeing_step (h.wire.layer 0) h.wire.bus (h.wire.ids 0)).1 s.node.layer w.target.layer w.initiators
    (seen_layer h.wire 0 w.target.layer g id (h.is.layers_are 0 there) h.is.bus_is (h.is.ids_are 0 there) ∙ ap bare (sym t.layer_is))
    h.is.layers_are))

-- initiator i, whose number as a node is i + 1
unfoldable pub learns_at : ℕ → ℕ → WorldState → OutboxState × WorldState
learns_at i j w =
    at_initiator j (see_step w.generations.latest.generation (id_of w.generations.latest (suc i)) (id_of w.generations.latest 0) empty_outbox (initiator_at w j)) w

initiator_saw : (past : List Moment) (w : WorldState) (i : ℕ) → suc i ≤ length w.initiators → Stands past w → Stands past (handed_all (suc i) (learns_at i i (with_seen (suc i) (told_seen (suc i) w))))
unfolding learns_at
initiator_saw past w i there h =
    let g = w.generations.latest.generation in
    let id = id_of w.generations.latest (suc i) in
    let old = initiator_at w i in
    let turn : Turn = see_step g id (id_of w.generations.latest 0) empty_outbox old in
    let t = sees_rests g id (id_of w.generations.latest 0) old in
    let inside : i < length w.initiators = omega arith in
    hands_out past (suc i) 0 turn.0 (with_initiator i turn.1 (with_seen (suc i) (told_seen (suc i) w))) t.silent
    (saw past w (suc i) there h w.target (slice_set w.initiators i turn.1) (length-set w.initiators i turn.1)
    (initiator_layers h.wire (seeing_step (h.wire.layer (suc i)) h.wire.bus (h.wire.ids (suc i))).1 w.target.layer w.initiators i turn.1 inside
    (seen_layer h.wire (suc i) old.layer g id (h.is.layers_are (suc i) there) h.is.bus_is (h.is.ids_are (suc i) there) ∙ ap bare (sym t.layer_is))
    h.is.layers_are))

other_saw : (past : List Moment) (w : WorldState) (i j : ℕ) → j ≡ i → suc i ≤ length w.initiators → Stands past w → Stands past (handed_all (suc i) (learns_at i j (with_seen (suc i) (told_seen (suc i) w))))
other_saw past w i j e there h =
    subst (λ x. Stands past (handed_all (suc i) (learns_at i x (with_seen (suc i) (told_seen (suc i) w))))) (sym e) (initiator_saw past w i there h)

saw_by : (past : List Moment) (w : WorldState) (i : ℕ) (b : Bool) → b ≡ false → suc i ≤ length w.initiators → Stands past w → Stands past (handed_all (suc i) (if b then target_learns (with_seen (suc i) (told_seen (suc i) w)) else initiator_learns (suc i) (with_seen (suc i) (told_seen (suc i) w))))
unfolding learns_at
saw_by past w i true e there h = cc
saw_by past w i false e there h = other_saw past w i (suc i - 1) (omega arith) there h

pub sees_line : (past : List Moment) (w : WorldState) (node : ℕ) → node ≤ length w.initiators → Stands past w → Stands past (see_line node w)
unfolding see_line sees
sees_line past w zero l h = target_saw past w h
sees_line past w (suc i) l h = saw_by past w i (nat_eq (suc i) 0) (not_zero i) l h
