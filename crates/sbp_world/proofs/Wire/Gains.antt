-- What nodes hand out is told as the effects of a turn: of notes no other leaves a node, and each packet has its note.
use Rattle.sbp_world.proofs.Words.Std.{◌≡◌, refl, ◌∙◌, sym, ap, ℕ, ◌+◌, true, false, List, [], ◌∷◌, ◌++◌, Option, Some, None, append_assoc}
use Rattle.sbp_world.proofs.Words.Wire.{LabelParts, Note, Outgoing, Side, OutboxState, node_of}
use Rattle.sbp_world.proofs.Words.Laws.{AreEffects, is_effect}
use Rattle.sbp_world.proofs.Words.World.{handed_out, asked, posted, sent, sent_all, sent_to, told, told_all, WorldState}
use Rattle.sbp_journal.specs.declared.side.Side.TheVariants as sides
use Rattle.sbp_world.proofs.Wire.Effects.{AreEffectSides, IsEffectSide}

-- ---- effects, in any order
pub effects_append : (one two : List Note) → AreEffects one → AreEffects two → AreEffects (one ++ two)
effects_append [] two f g = g
effects_append (note ∷ one) two f g = (f.0, effects_append one two f.1 g)

-- notes that stand before others, the latest one first, and are effects
pub record Gains (old new : List Note) : Type 0 where
  pub more : List Note
  pub is : new ≡ more ++ old
  pub effects : AreEffects more

pub gains_none : (old : List Note) → Gains old old
gains_none old = record { more = []; is = refl; effects = tt }

pub gains_one : (old : List Note) (note : Note) → is_effect note ≡ true → Gains old (note ∷ old)
gains_one old note e = record { more = note ∷ []; is = refl; effects = (e, tt) }

pub gains_then : (old middle new : List Note) → Gains old middle → Gains middle new → Gains old new
gains_then old middle new g h = record {
  more = h.more ++ g.more;
  is = h.is ∙ ap (λ ns. h.more ++ ns) g.is ∙ sym (append_assoc h.more g.more old);
  effects = effects_append h.more g.more h.effects g.effects;
}

-- ---- what is told
one_told : (weight : ℕ) (side : Side) (w : WorldState) → IsEffectSide side → Gains w.fresh (told weight side w).fresh
unfolding told
one_told weight (sides.Own note) w e = gains_one w.fresh note e
one_told weight (sides.Opened place orb) w e = gains_none w.fresh
one_told weight (sides.Ran place orb cdb payload outcome) w e = gains_one w.fresh _ refl
one_told weight (sides.Ended place orb status) w e = gains_one w.fresh _ refl
one_told weight (sides.Dead place cause) w e = gains_one w.fresh _ refl
one_told weight (sides.Cut place cause) w e = gains_one w.fresh _ refl
one_told weight (sides.Managed node function subject status login) w e = gains_one w.fresh _ refl
one_told weight (sides.ManageFailed node cause) w e = gains_one w.fresh _ refl
one_told weight (sides.Held login) w e = gains_one w.fresh _ refl
one_told weight (sides.Expired login) w e = gains_one w.fresh _ refl
one_told weight (sides.Back login) w e = gains_one w.fresh _ refl
one_told weight (sides.Left login) w e = gains_one w.fresh _ refl
one_told weight (sides.Cleared unit) w e = gains_one w.fresh _ refl
one_told weight (sides.Unsolicited place) w e = gains_one w.fresh _ refl
one_told weight (sides.Unsent place) w e = gains_one w.fresh _ refl

all_told : (weight : ℕ) (sides : List Side) (w : WorldState) → AreEffectSides sides → Gains w.fresh (told_all weight sides w).fresh
unfolding told_all
all_told weight [] w e = gains_none w.fresh
all_told weight (side ∷ later) w e =
    gains_then w.fresh (told weight side w).fresh (told_all weight later (told weight side w)).fresh (one_told weight side w e.0) (all_told weight later (told weight side w) e.1)

-- ---- what is sent
pub asked_fresh : (serial to node peer : ℕ) (label : Option LabelParts) (w : WorldState) → (asked serial to node peer label w).fresh ≡ w.fresh
asked_fresh serial to node peer None w = refl
asked_fresh serial to node peer (Some label) w = refl

one_to : (to : Option ℕ) (from : ℕ) (packet : Outgoing) (w : WorldState) → Gains w.fresh (sent_to to from packet w).fresh
unfolding posted
one_to None from packet w = gains_none w.fresh
one_to (Some to) from packet w = record {
  more = _ ∷ [];
  is = asked_fresh (w.store.last + 1) to from packet.to packet.label (posted from to false packet.bytes w);
  effects = (refl, tt);
}

one_sent : (from : ℕ) (packet : Outgoing) (w : WorldState) → Gains w.fresh (sent from packet w).fresh
unfolding sent
one_sent from packet w = one_to (node_of w.generations from packet.to) from packet w

pub all_sent : (from : ℕ) (packets : List Outgoing) (w : WorldState) → Gains w.fresh (sent_all from packets w).fresh
unfolding sent_all
all_sent from [] w = gains_none w.fresh
all_sent from (packet ∷ later) w =
    gains_then w.fresh (sent from packet w).fresh (sent_all from later (sent from packet w)).fresh (one_sent from packet w) (all_sent from later (sent from packet w))

-- ---- what is handed out
pub hands_out : (node weight : ℕ) (outbox : OutboxState) (w : WorldState) → AreEffectSides outbox.sides → Gains w.fresh (handed_out node weight outbox w).fresh
hands_out node weight outbox w e =
    let v = told_all weight outbox.sides w in
    gains_then w.fresh v.fresh (handed_out node weight outbox w).fresh (all_told weight outbox.sides w e) (all_sent node outbox.packets v)
