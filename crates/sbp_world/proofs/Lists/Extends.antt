-- What a node hands out, and a delivery, stand behind the notes that there are.
use Rattle.sbp_world.proofs.Words.Std.{◌≡◌, ◌∙◌, refl, sym, ap, subst, ℕ, ◌+◌, ◌-◌, ◌==◌, ◌||◌, not, nat_lt, Bool, true, false, cond, List, [], ◌∷◌, ◌++◌, length, Option, Some, None}
use Rattle.sbp_world.proofs.Words.Wire.{LabelParts, Sent, found_sent, is_flying, deliver_step, node_of, judged_note, Note, Outgoing, Side, OutboxState}
use Rattle.sbp_world.proofs.Words.Target.{Told}
use Rattle.sbp_world.proofs.Words.World.{Arrival, arrived, arrived_by, at_none, at_target, delivered, delivered_by, initiator_received, initiators_received, marked, received_by, received_step, target_received, handed_out, asked, posted, sent, sent_all, sent_to, told, told_all, Scene, WorldState, with_note}
use Rattle.sbp_journal.specs.declared.side.Side.TheVariants as sides
use Rattle.sbp_world.specs.Delivering.{at_initiator}
use Rattle.sbp_world.proofs.Common.{notes_joined}

pub record Extends (old new : List Note) : Type 0 where
  pub more : List Note
  pub is : more ++ old ≡ new

pub extends_none : (ns : List Note) → Extends ns ns
extends_none ns = record { more = []; is = refl }

pub extends_then : (one two three : List Note) → Extends one two → Extends two three → Extends one three
extends_then one two three a b = record { more = b.more ++ a.more; is = notes_joined b.more a.more one ∙ ap (λ ns. b.more ++ ns) a.is ∙ b.is }

extends_one : (note : Note) (ns : List Note) → Extends ns (note ∷ ns)
extends_one note ns = record { more = note ∷ []; is = refl }

one_told : (weight : ℕ) (side : Side) (w : WorldState) → Extends w.fresh (told weight side w).fresh
unfolding told
one_told weight (sides.Own note) w = extends_one note w.fresh
one_told weight (sides.Opened place orb) w = extends_none w.fresh
one_told weight (sides.Ran place orb cdb payload outcome) w = extends_one _ w.fresh
one_told weight (sides.Ended place orb status) w = extends_one _ w.fresh
one_told weight (sides.Dead place cause) w = extends_one _ w.fresh
one_told weight (sides.Cut place cause) w = extends_one _ w.fresh
one_told weight (sides.Managed node function subject status login) w = extends_one _ w.fresh
one_told weight (sides.ManageFailed node cause) w = extends_one _ w.fresh
one_told weight (sides.Held login) w = extends_one _ w.fresh
one_told weight (sides.Expired login) w = extends_one _ w.fresh
one_told weight (sides.Back login) w = extends_one _ w.fresh
one_told weight (sides.Left login) w = extends_one _ w.fresh
one_told weight (sides.Cleared unit) w = extends_one _ w.fresh
one_told weight (sides.Unsolicited place) w = extends_one _ w.fresh
one_told weight (sides.Unsent place) w = extends_one _ w.fresh

pub all_told : (weight : ℕ) (side : List Side) (w : WorldState) → Extends w.fresh (told_all weight side w).fresh
unfolding told_all
all_told weight [] w = extends_none w.fresh
all_told weight (side ∷ later) w =
    let v = told weight side w in extends_then w.fresh v.fresh (told_all weight later v).fresh (one_told weight side w) (all_told weight later v)

asked_extends : (serial to node peer : ℕ) (label : Option LabelParts) (old : List Note) (w : WorldState) → Extends old w.fresh → Extends old (asked serial to node peer label w).fresh
asked_extends serial to node peer None old w e = e
asked_extends serial to node peer (Some label) old w e = e

to_extends : (to : Option ℕ) (from : ℕ) (packet : Outgoing) (w : WorldState) → Extends w.fresh (sent_to to from packet w).fresh
unfolding posted
to_extends None from packet w = extends_none w.fresh
to_extends (Some to) from packet w = asked_extends (w.store.last + 1) to from packet.to packet.label w.fresh (posted from to false packet.bytes w) (extends_one _ w.fresh)

pub all_sent : (from : ℕ) (packets : List Outgoing) (w : WorldState) → Extends w.fresh (sent_all from packets w).fresh
unfolding sent_all sent
all_sent from [] w = extends_none w.fresh
all_sent from (packet ∷ later) w =
    let v = sent from packet w in extends_then w.fresh v.fresh (sent_all from later v).fresh (to_extends (node_of w.generations from packet.to) from packet w) (all_sent from later v)

pub handed_extends : (node weight : ℕ) (outbox : OutboxState) (w : WorldState) → Extends w.fresh (handed_out node weight outbox w).fresh
handed_extends node weight outbox w =
    let v = told_all weight outbox.sides w in extends_then w.fresh v.fresh (handed_out node weight outbox w).fresh (all_told weight outbox.sides w) (all_sent node outbox.packets v)

pub marked_fresh : (serial : ℕ) (again : Bool) (w : WorldState) → (marked serial again w).fresh ≡ w.fresh
marked_fresh serial again w = by (again || not (is_flying serial w.store.kept))
  where
    by : (b : Bool) → (cond b w (record w { store = deliver_step w.store serial })).fresh ≡ w.fresh
    by true = refl
    by false = refl

arrived_extends : (serial : ℕ) (again : Bool) (arrival : Option Arrival) (outbox : OutboxState) (w : WorldState) → Extends w.fresh (arrived_by serial again arrival outbox w).fresh
unfolding arrived
arrived_extends serial again None outbox w = extends_none w.fresh
arrived_extends serial again (Some a) outbox w =
    let v = with_note (judged_note serial a.judged) (marked serial again w) in
    extends_then w.fresh v.fresh (handed_out a.node 0 outbox v).fresh (record { more = judged_note serial a.judged ∷ []; is = ap (λ ns. judged_note serial a.judged ∷ ns) (sym (marked_fresh serial again w)) }) (handed_extends a.node 0 outbox v)

-- the node that a packet comes to adds no notes by itself
abbrev Kept : Scene → Option Arrival × (OutboxState × Scene) → Type 0
Kept s x = x.1.1.world.fresh ≡ s.world.fresh

pick : (s : Scene) (b : Bool) (x y : Option Arrival × (OutboxState × Scene)) → Kept s x → Kept s y → Kept s (cond b x y)
pick s true x y h i = h
pick s false x y h i = i

received_fresh : (run : Option Told) (found : Option Sent) (s : Scene) → Kept s (received_by run found s)
unfolding target_received initiators_received
received_fresh run None s = refl
received_fresh run (Some sent) s =
    pick s (sent.to == 0) (at_target sent.to (target_received run sent s.world.target s.media) s) (initiator_received sent s) refl
    (pick s (nat_lt (sent.to - 1) (length s.world.initiators)) (at_initiator sent.to (initiators_received (sent.to - 1) sent s.world.initiators) s) (at_none s) refl refl)

pub delivered_extends : (serial : ℕ) (again : Bool) (run : Option Told) (s : Scene) → Extends s.world.fresh (delivered serial again run s).world.fresh
unfolding delivered received_step
delivered_extends serial again run s =
    let x = received_by run (found_sent serial s.world.store.kept) s in
    subst (λ ns. Extends ns (delivered_by serial again x).world.fresh) (received_fresh run (found_sent serial s.world.store.kept) s) (arrived_extends serial again x.0 x.1.0 x.1.1.world)
