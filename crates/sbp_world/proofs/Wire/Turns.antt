-- A delivery, a time-out, a sight and a second, whatever node hands out effects: one note, and behind it effects.
use Rattle.sbp_world.proofs.Words.Std.{◌≡◌, refl, ap, subst, ℕ, ◌-◌, ◌≤◌, nat_lt, nat_eq, Bool, true, false, cond, List, ◌∷◌, ◌++◌, length, Option, Some, None, arith}
use Rattle.sbp_world.proofs.Words.Wire.{Sent, Judged, Note, OutboxState, empty_outbox, Request, judged_note, no_packet}
use Rattle.sbp_world.proofs.Words.Target.{Held, NodeState}
use Rattle.sbp_world.proofs.Words.Initiator.{InitiatorState, new_state, expire_step, receive_step}
use Rattle.sbp_world.proofs.Words.Laws.{AreEffects}
use Rattle.sbp_world.proofs.Words.World.{Arrival, arrived, arrived_by, at_none, at_target, delivered_by, initiators_received, listed, marked, handed_out, handed_all, initiator_expires, Scene, WorldState, initiator_at, with_note}
use Rattle.std.proofs.Common.{slice_index_or}
use Rattle.sbp_journal.specs.declared.cause.Judged.TheVariants as judgements
use Rattle.sbp_journal.specs.declared.note.Note.TheVariants as notes
use Rattle.sbp_laws.specs.Deliveries as laws
use Rattle.sbp_world.specs.Delivering.{at_initiator}
use Rattle.sbp_world.specs.Nodes as nodes
use Rattle.sbp_world.specs.Packets as packets
use Rattle.sbp_world.proofs.Wire.Effects.{AreEffectSides}
use Rattle.sbp_world.proofs.Wire.Gains.{Gains, hands_out}
use Rattle.sbp_world.proofs.Wire.OwnTells as own
use Rattle.sbp_world.proofs.Lists.Extends.{marked_fresh}

-- one note more, and behind it effects, the latest one first
pub record Turned (first : Note) (old new : List Note) : Type 0 where
  pub more : List Note
  pub is : new ≡ more ++ first ∷ old
  pub effects : AreEffects more

pub turned_by : (first : Note) (old new : List Note) → Gains (first ∷ old) new → Turned first old new
turned_by first old new g = record { more = g.more; is = g.is; effects = g.effects }

-- ---- a delivery
pub record Delivered (serial : ℕ) (old new : List Note) : Type 0 where
  pub first : Note
  pub by : laws.delivered_by first ≡ Some serial
  pub turned : Turned first old new

pub judged_by : (serial : ℕ) (judged : Judged) → laws.delivered_by (judged_note serial judged) ≡ Some serial
judged_by serial judgements.Got = refl
judged_by serial (judgements.Ignored cause) = refl

listed_tells : (i : ℕ) (r : Judged × (OutboxState × InitiatorState)) (states : List InitiatorState) → AreEffectSides r.1.0.sides → AreEffectSides (listed i r states).1.0.sides
listed_tells i (judged, (outbox, state)) states h = h

initiators_tell : (i : ℕ) (sent : Sent) (states : List InitiatorState) → AreEffectSides (initiators_received i sent states).1.0.sides
unfolding initiators_received
initiators_tell i sent states =
    let s = slice_index_or states i (new_state 0 false) in
    listed_tells i (receive_step sent.generation sent.bytes empty_outbox s) states (own.receives sent.generation sent.bytes empty_outbox s tt)

-- a node judged the packet, and what it hands out is effects
pub record Arrives (r : Option Arrival × (OutboxState × Scene)) (s : Scene) : Type 0 where
  pub arrival : Arrival
  pub is : r.0 ≡ Some arrival
  pub sides : AreEffectSides r.1.0.sides
  pub before : r.1.1.world.fresh ≡ s.world.fresh

pub at_target_arrives : (to : ℕ) (r : Judged × (OutboxState × (NodeState × Held))) (s : Scene) → AreEffectSides r.1.0.sides → Arrives (at_target to r s) s
at_target_arrives to (judged, (outbox, (state, media))) s h = record { arrival = _; is = refl; sides = h; before = refl }

pub at_initiator_arrives : (to : ℕ) (r : Judged × (OutboxState × List InitiatorState)) (s : Scene) → AreEffectSides r.1.0.sides → Arrives (at_initiator to r s) s
at_initiator_arrives to (judged, (outbox, states)) s h = record { arrival = _; is = refl; sides = h; before = refl }

pub initiator_arrives : (sent : Sent) (s : Scene) (b : Bool) → b ≡ true → Arrives (cond b (at_initiator sent.to (initiators_received (sent.to - 1) sent s.world.initiators) s) (at_none s)) s
initiator_arrives sent s true e =
    at_initiator_arrives sent.to (initiators_received (sent.to - 1) sent s.world.initiators) s (initiators_tell (sent.to - 1) sent s.world.initiators)
initiator_arrives sent s false e = cc

pub is_inside : (to n : ℕ) → nat_eq to 0 ≡ false → to ≤ n → nat_lt (to - 1) n ≡ true
is_inside to n e l = grind arith

pub marked_by : (b : Bool) (w x : WorldState) → x.fresh ≡ w.fresh → (cond b w x).fresh ≡ w.fresh
marked_by true w x e = refl
marked_by false w x e = e

pub arrived_turns : (serial : ℕ) (again : Bool) (a : Arrival) (outbox : OutboxState) (w : WorldState) → AreEffectSides outbox.sides → Delivered serial w.fresh (arrived serial again a outbox w).fresh
unfolding arrived
arrived_turns serial again a outbox w e =
    let note = judged_note serial a.judged in
    let v = with_note note (marked serial again w) in
    record {
      first = note;
      by = judged_by serial a.judged;
      turned = turned_by note w.fresh (handed_out a.node 0 outbox v).fresh
          (subst (λ ns. Gains (note ∷ ns) (handed_out a.node 0 outbox v).fresh) (marked_fresh serial again w) (hands_out a.node 0 outbox v e));
    }

pub arrived_is : (serial : ℕ) (again : Bool) (o : Option Arrival) (a : Arrival) (outbox : OutboxState) (w : WorldState) → o ≡ Some a → AreEffectSides outbox.sides → Delivered serial w.fresh (arrived_by serial again o outbox w).fresh
arrived_is serial again None a outbox w e h = cc
arrived_is serial again (Some b) a outbox w e h = arrived_turns serial again b outbox w h

pub delivered_is : (serial : ℕ) (again : Bool) (r : Option Arrival × (OutboxState × Scene)) (s : Scene) → Arrives r s → Delivered serial s.world.fresh (delivered_by serial again r).world.fresh
delivered_is serial again (o, (outbox, t)) s a =
    subst (λ ns. Delivered serial ns (arrived_by serial again o outbox t.world).fresh) a.before (arrived_is serial again o a.arrival outbox t.world a.is a.sides)

-- ---- a sight, and a second
pub record Learns (r : OutboxState × WorldState) (w : WorldState) : Type 0 where
  pub sides : AreEffectSides r.0.sides
  pub before : r.1.fresh ≡ w.fresh

pub hands_all : (node : ℕ) (r : OutboxState × WorldState) (w : WorldState) → Learns r w → Gains w.fresh (handed_all node r).fresh
hands_all node (outbox, x) w l = subst (λ ns. Gains ns (handed_out node 0 outbox x).fresh) l.before (hands_out node 0 outbox x l.sides)

pub pick_learns : (b : Bool) (x y : OutboxState × WorldState) (w : WorldState) → Learns x w → Learns y w → Learns (cond b x y) w
pick_learns true x y w h i = h
pick_learns false x y w h i = i

pub target_pair : (r : OutboxState × NodeState) (w : WorldState) → AreEffectSides r.0.sides → Learns (nodes.at_target r w) w
target_pair (outbox, node) w h = record { sides = h; before = refl }

pub initiator_pair : (i : ℕ) (r : OutboxState × InitiatorState) (w : WorldState) → AreEffectSides r.0.sides → Learns (nodes.at_initiator i r w) w
initiator_pair i (outbox, state) w h = record { sides = h; before = refl }

-- ---- a time-out
pub record Ends (r : Bool × (OutboxState × WorldState)) (w : WorldState) : Type 0 where
  pub sides : AreEffectSides r.1.0.sides
  pub before : r.1.1.fresh ≡ w.fresh

pub pick_ends : (b : Bool) (x y : Bool × (OutboxState × WorldState)) (w : WorldState) → Ends x w → Ends y w → Ends (cond b x y) w
pick_ends true x y w h i = h
pick_ends false x y w h i = i

pub target_ends : (r : Bool × (OutboxState × NodeState)) (w : WorldState) → AreEffectSides r.1.0.sides → Ends (packets.at_target r w) w
target_ends (done, (outbox, node)) w h = record { sides = h; before = refl }

pub initiator_ends : (i : ℕ) (r : Bool × (OutboxState × InitiatorState)) (w : WorldState) → AreEffectSides r.1.0.sides → Ends (packets.at_initiator i r w) w
initiator_ends i (done, (outbox, state)) w h = record { sides = h; before = refl }

pub ends_at_initiator : (request : Request) (w : WorldState) → Ends (initiator_expires request w) w
ends_at_initiator request w =
    let r = expire_step request.label empty_outbox (initiator_at w (request.node - 1)) in
    pick_ends (nat_lt (request.node - 1) (length w.initiators)) (packets.at_initiator (request.node - 1) r w) (false, (empty_outbox, w)) w
    (initiator_ends (request.node - 1) r w (own.expires request.label empty_outbox (initiator_at w (request.node - 1)) tt))
    (record { sides = tt; before = refl })

-- where the transaction was under way at its sender
pub ended_turns : (line serial node : ℕ) (r : Bool × (OutboxState × WorldState)) (w : WorldState) → r.0 ≡ true → Ends r w → Turned (notes.TimedOut serial) w.fresh (packets.timed_out line serial node r).fresh
ended_turns line serial node (true, (outbox, x)) w e d =
    let v = with_note (notes.TimedOut serial) x in
    turned_by (notes.TimedOut serial) w.fresh (handed_out node 0 outbox v).fresh
    (subst (λ ns. Gains (notes.TimedOut serial ∷ ns) (handed_out node 0 outbox v).fresh) d.before (hands_out node 0 outbox v d.sides))
ended_turns line serial node (false, (outbox, x)) w e d = cc

-- and where it was not
pub ended_refuses : (line serial node : ℕ) (r : Bool × (OutboxState × WorldState)) (w : WorldState) → r.0 ≡ false → Ends r w → (packets.timed_out line serial node r).fresh ≡ notes.Refused line no_packet ∷ w.fresh
ended_refuses line serial node (true, (outbox, x)) w e d = cc
ended_refuses line serial node (false, (outbox, x)) w e d = ap (λ ns. notes.Refused line no_packet ∷ ns) d.before
