-- A delivery, a time-out, a sight and a second of a world: one note, and behind it effects.
use Rattle.sbp_world.proofs.Words.Std.{◌≡◌, refl, sym, subst, ℕ, ◌-◌, ◌≤◌, ◌==◌, nat_lt, nat_eq, Bool, true, false, cond, List, ◌∷◌, length, Option, Some, Result, Ok, Err}
use Rattle.sbp_world.proofs.Words.Wire.{Stale, Sent, found_sent, Judged, empty_outbox, Request, no_packet, id_of}
use Rattle.sbp_world.proofs.Words.Target.{Held, Told, NodeState, expired, received, seen, ticked, Whole}
use Rattle.sbp_world.proofs.Words.Initiator.{see_step}
use Rattle.sbp_world.proofs.Words.World.{at_target, delivered, faults_after, initiator_received, left_target, received_by, received_step, target_received, whole_of, handed_all, initiator_learns, see_line, sees, target_learns, target_sees, target_ticks, tick_line, told_seen, with_seen, expires, initiator_expires, target_expired, target_left, Scene, WorldState, initiator_at, with_note}
use Rattle.sbp_journal.specs.declared.note.Note.TheVariants as notes
use Rattle.sbp_target.specs.Nodes as target
use Rattle.sbp_world.specs.Nodes as nodes
use Rattle.sbp_world.specs.Packets as packets
use Rattle.sbp_world.proofs.Wire.Effects.{AreEffectSides, others_effects}
use Rattle.sbp_world.proofs.Wire.OwnTells as own
use Rattle.sbp_world.proofs.Wire.TargetTells as target_tells
use Rattle.sbp_world.proofs.Wire.Turns.{Arrives, Delivered, Ends, Learns, Turned, at_target_arrives, delivered_is, ended_refuses, ended_turns, ends_at_initiator, hands_all, initiator_arrives, initiator_pair, is_inside, pick_ends, pick_learns, target_ends, target_pair, turned_by}

-- ---- a delivery
left_tells : (r : Judged × Whole) (faults : List ℕ) → AreEffectSides r.1.outbox.sides → AreEffectSides (left_target r faults).1.0.sides
left_tells (judged, w) faults h = h

target_tell : (told : Option Told) (sent : Sent) (old : NodeState) (media : Held) → AreEffectSides (target_received told sent old media).1.0.sides
unfolding target_received
target_tell told sent old media =
    left_tells (received told sent.generation sent.bytes (whole_of old media)) (faults_after told sent old media)
    (others_effects (received told sent.generation sent.bytes (whole_of old media)).1.outbox.sides (target_tells.receives told sent.generation sent.bytes (whole_of old media) tt))

arrives_where : (b : Bool) (told : Option Told) (sent : Sent) (s : Scene) → nat_eq sent.to 0 ≡ b → sent.to ≤ length s.world.initiators → Arrives (cond b (at_target sent.to (target_received told sent s.world.target s.media) s) (initiator_received sent s)) s
arrives_where true told sent s e l =
    at_target_arrives sent.to (target_received told sent s.world.target s.media) s (target_tell told sent s.world.target s.media)
arrives_where false told sent s e l =
    initiator_arrives sent s (nat_lt (sent.to - 1) (length s.world.initiators)) (is_inside sent.to (length s.world.initiators) e l)

arrives : (told : Option Told) (serial : ℕ) (s : Scene) (sent : Sent) → found_sent serial s.world.store.kept ≡ Some sent → sent.to ≤ length s.world.initiators → Arrives (received_step told serial s) s
unfolding received_step
arrives told serial s sent found l =
    subst (λ o. Arrives (received_by told o s) s) (sym found) (arrives_where (nat_eq sent.to 0) told sent s refl l)

pub delivers : (serial : ℕ) (again : Bool) (told : Option Told) (s : Scene) (sent : Sent) → found_sent serial s.world.store.kept ≡ Some sent → sent.to ≤ length s.world.initiators → Delivered serial s.world.fresh (delivered serial again told s).world.fresh
unfolding delivered
delivers serial again told s sent found l = delivered_is serial again (received_step told serial s) s (arrives told serial s sent found l)

-- ---- a sight, and a second
sight_tells : (generation id : ℕ) (node : NodeState) → AreEffectSides (target_sees generation id node).0.sides
unfolding target_sees
sight_tells generation id node = others_effects (seen generation id (target.scene node empty_outbox)).1.outbox.sides (target_tells.sees generation id (target.scene node empty_outbox) tt)

second_tells : (node : NodeState) → AreEffectSides (target_ticks node).0.sides
unfolding target_ticks
second_tells node = others_effects (ticked (target.scene node empty_outbox)).outbox.sides (target_tells.ticks (target.scene node empty_outbox) tt)

learns : (node : ℕ) (w : WorldState) → Learns (sees node w) w
unfolding sees
learns node w =
    let latest = w.generations.latest in
    let r = see_step latest.generation (id_of latest node) (id_of latest 0) empty_outbox (initiator_at w (node - 1)) in
    pick_learns (node == 0) (target_learns w) (initiator_learns node w) w
    (target_pair (target_sees latest.generation (id_of latest 0) w.target) w (sight_tells latest.generation (id_of latest 0) w.target))
    (initiator_pair (node - 1) r w (own.sees latest.generation (id_of latest node) (id_of latest 0) empty_outbox (initiator_at w (node - 1)) tt))

pub sight_turns : (node : ℕ) (w : WorldState) → Turned (notes.Seen node w.generations.latest.generation) w.fresh (see_line node w).fresh
unfolding see_line
sight_turns node w =
    let x = with_seen node (told_seen node w) in
    turned_by (notes.Seen node w.generations.latest.generation) w.fresh (handed_all node (sees node x)).fresh (hands_all node (sees node x) x (learns node x))

pub second_turns : (w : WorldState) → Turned notes.Tick w.fresh (tick_line w).fresh
unfolding tick_line
second_turns w =
    let x = with_note notes.Tick w in
    let r = nodes.at_target (target_ticks w.target) x in
    turned_by notes.Tick w.fresh (handed_all 0 r).fresh (hands_all 0 r x (target_pair (target_ticks w.target) x (second_tells w.target)))

-- ---- a time-out
target_left_tells : (r : Result (Unit {0}) Stale × target.Scene) (old : NodeState) → AreEffectSides r.1.outbox.sides → AreEffectSides (target_left r old).1.0.sides
target_left_tells (Ok done, s) old h = h
target_left_tells (Err stale, s) old h = tt

target_expiry : (request : Request) (node : NodeState) → AreEffectSides (target_expired request node).1.0.sides
unfolding target_expired
target_expiry request node =
    target_left_tells (expired request.peer request.label (target.scene node empty_outbox)) node (others_effects (expired request.peer request.label (target.scene node empty_outbox)).1.outbox.sides (target_tells.expires request.peer request.label (target.scene node empty_outbox) tt))

pub ends : (request : Request) (w : WorldState) → Ends (expires request w) w
unfolding expires
ends request w =
    pick_ends (request.node == 0) (packets.at_target (target_expired request w.target) w) (initiator_expires request w) w
    (target_ends (target_expired request w.target) w (target_expiry request w.target)) (ends_at_initiator request w)

-- where the transaction is under way at its sender
pub lapse_turns : (line serial : ℕ) (request : Request) (w : WorldState) → (expires request w).0 ≡ true → Turned (notes.TimedOut serial) w.fresh (packets.timed_out line serial request.node (expires request w)).fresh
lapse_turns line serial request w e = ended_turns line serial request.node (expires request w) w e (ends request w)

pub stale_refuses : (line serial : ℕ) (request : Request) (w : WorldState) → (expires request w).0 ≡ false → (packets.timed_out line serial request.node (expires request w)).fresh ≡ notes.Refused line no_packet ∷ w.fresh
stale_refuses line serial request w e = ended_refuses line serial request.node (expires request w) w e (ends request w)
