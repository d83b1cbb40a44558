-- What a node hands out stands behind the notes of a line: the target's tells and packets, or those of another node.
use Rattle.sbp_world.proofs.Words.Std.{◌≡◌, ◌∙◌, refl, ap, subst, ℕ, ◌+◌, ◌==◌, not, Bool, true, false, List, [], ◌∷◌, ◌++◌, Option, Some, None}
use Rattle.sbp_world.proofs.Words.Wire.{LabelParts, node_of, OutboxState, Note, Outgoing, Side}
use Rattle.sbp_world.proofs.Words.World.{handed_out, asked, posted, sent, sent_all, sent_to, told, told_all, WorldState, AreOthers, IsOther, AllOf}
use Rattle.sbp_journal.specs.declared.note.Note.TheVariants as notes
use Rattle.sbp_journal.specs.declared.side.Side.TheVariants as sides
use Rattle.sbp_world.proofs.Formed.{AreOwn, IsNoRun}
use Rattle.sbp_world.proofs.Agents.Peers.{all_sent_places}
use Rattle.sbp_world.proofs.Lists.OpenedMoments.{of_others, of_target}
use Rattle.sbp_world.proofs.Common.{notes_joined}

pub record Behind (A : Note → Bool) (old new : List Note) : Type 0 where
  pub more : List Note
  pub is : more ++ old ≡ new
  pub all : AllOf A more

both_all : (A : Note → Bool) (a b : List Note) → AllOf A a → AllOf A b → AllOf A (a ++ b)
both_all A [] b x y = y
both_all A (n ∷ a) b x y = (x.0, both_all A a b x.1 y)

module _ (A : Note → Bool) where
  pub behind_none : (ns : List Note) → Behind A ns ns
  behind_none ns = record { more = []; is = refl; all = tt }

  pub behind_then : (one two three : List Note) → Behind A one two → Behind A two three → Behind A one three
  behind_then one two three a b = record {
    more = b.more ++ a.more;
    is = notes_joined b.more a.more one ∙ ap (λ ns. b.more ++ ns) a.is ∙ b.is;
    all = both_all A b.more a.more b.all a.all;
  }

  pub behind_one : (note : Note) (ns : List Note) → A note ≡ true → Behind A ns (note ∷ ns)
  behind_one note ns e = record { more = note ∷ []; is = refl; all = (e, tt) }

  -- ---- packets
  module _ (from : ℕ) (sends : (serial generation to : ℕ) (bytes : List ℕ) → A (notes.Sent serial generation from to bytes) ≡ true) where
    asked_behind : (serial to node peer : ℕ) (label : Option LabelParts) (old : List Note) (w : WorldState) → Behind A old w.fresh → Behind A old (asked serial to node peer label w).fresh
    asked_behind serial to node peer None old w e = e
    asked_behind serial to node peer (Some label) old w e = e

    posted_behind : (to : ℕ) (bytes : List ℕ) (w : WorldState) → Behind A w.fresh (posted from to false bytes w).fresh
    unfolding posted
    posted_behind to bytes w = record { more = notes.Sent _ _ from to bytes ∷ []; is = refl; all = (sends _ _ to bytes, tt) }

    to_behind : (to : Option ℕ) (packet : Outgoing) (w : WorldState) → Behind A w.fresh (sent_to to from packet w).fresh
    to_behind None packet w = behind_none w.fresh
    to_behind (Some to) packet w = asked_behind (w.store.last + 1) to from packet.to packet.label w.fresh (posted from to false packet.bytes w) (posted_behind to packet.bytes w)

    pub all_sent : (packets : List Outgoing) (w : WorldState) → Behind A w.fresh (sent_all from packets w).fresh
    unfolding sent_all sent
    all_sent [] w = behind_none w.fresh
    all_sent (packet ∷ later) w =
        let v = sent from packet w in behind_then w.fresh v.fresh (sent_all from later v).fresh (to_behind (node_of w.generations from packet.to) packet w) (all_sent later v)

-- ---- what the target tells
module _ (weight : ℕ) where
  abbrev T : WorldState → WorldState → Type 0
  T w v = Behind of_target w.fresh v.fresh

  target_one : (side : Side) (w : WorldState) → IsOther side → T w (told weight side w)
  unfolding told
  target_one (sides.Own note) w o = absurd o
  target_one (sides.Opened place orb) w o = behind_none of_target w.fresh
  target_one (sides.Ran place orb cdb payload outcome) w o = record { more = notes.Ran _ _ _ _ _ _ _ ∷ []; is = refl; all = (refl, tt) }
  target_one (sides.Ended place orb status) w o = record { more = notes.Ended _ _ _ _ ∷ []; is = refl; all = (refl, tt) }
  target_one (sides.Dead place cause) w o = record { more = notes.Dead _ _ _ ∷ []; is = refl; all = (refl, tt) }
  target_one (sides.Cut place cause) w o = record { more = notes.Cut _ _ _ ∷ []; is = refl; all = (refl, tt) }
  target_one (sides.Managed node function subject status login) w o = record { more = notes.Managed _ _ _ _ _ ∷ []; is = refl; all = (refl, tt) }
  target_one (sides.ManageFailed node cause) w o = record { more = notes.ManageFailed _ _ ∷ []; is = refl; all = (refl, tt) }
  target_one (sides.Held login) w o = behind_one of_target (notes.Held login) w.fresh refl
  target_one (sides.Expired login) w o = behind_one of_target (notes.Expired login) w.fresh refl
  target_one (sides.Back login) w o = behind_one of_target (notes.Back login) w.fresh refl
  target_one (sides.Left login) w o = behind_one of_target (notes.Left login) w.fresh refl
  target_one (sides.Cleared unit) w o = behind_one of_target (notes.Cleared unit) w.fresh refl
  target_one (sides.Unsolicited place) w o = record { more = notes.Unsolicited _ ∷ []; is = refl; all = (refl, tt) }
  target_one (sides.Unsent place) w o = record { more = notes.Unsent _ ∷ []; is = refl; all = (refl, tt) }

  target_told : (side : List Side) (w : WorldState) → AreOthers side → T w (told_all weight side w)
  unfolding told_all
  target_told [] w o = behind_none of_target w.fresh
  target_told (side ∷ later) w o =
      let v = told weight side w in behind_then of_target w.fresh v.fresh (told_all weight later v).fresh (target_one side w o.0) (target_told later v o.1)

  pub target_handed : (outbox : OutboxState) (w : WorldState) → AreOthers outbox.sides → T w (handed_out 0 weight outbox w)
  target_handed outbox w o =
      let v = told_all weight outbox.sides w in
      behind_then of_target w.fresh v.fresh (handed_out 0 weight outbox w).fresh (target_told outbox.sides w o) (all_sent of_target 0 (λ serial generation to bytes. refl) outbox.packets v)

  -- ---- what an initiator tells
  own_note : (note : Note) → IsNoRun note → of_others note ≡ true
  own_note (notes.Begin initiators ready) h = absurd h
  own_note (notes.Got serial) h = absurd h
  own_note (notes.Ignored serial cause) h = absurd h
  own_note (notes.TimedOut serial) h = absurd h
  own_note (notes.Seen node generation) h = absurd h
  own_note (notes.Sent serial generation from to bytes) h = absurd h
  own_note _ h = refl

  abbrev O : WorldState → WorldState → Type 0
  O w v = Behind of_others w.fresh v.fresh

  own_told : (side : List Side) (w : WorldState) → AreOwn side → O w (told_all weight side w)
  unfolding told_all told
  own_told [] w h = behind_none of_others w.fresh
  own_told (sides.Own note ∷ later) w h =
      let v = told weight (sides.Own note) w in
      behind_then of_others w.fresh v.fresh (told_all weight later v).fresh (behind_one of_others note w.fresh (own_note note h.0.1)) (own_told later v h.1)
  own_told (sides.Opened a b ∷ later) w h = absurd h.0
  own_told (sides.Ran a b c d e ∷ later) w h = absurd h.0
  own_told (sides.Ended a b c ∷ later) w h = absurd h.0
  own_told (sides.Dead a b ∷ later) w h = absurd h.0
  own_told (sides.Cut a b ∷ later) w h = absurd h.0
  own_told (sides.Managed a b c d e ∷ later) w h = absurd h.0
  own_told (sides.ManageFailed a b ∷ later) w h = absurd h.0
  own_told (sides.Held a ∷ later) w h = absurd h.0
  own_told (sides.Expired a ∷ later) w h = absurd h.0
  own_told (sides.Back a ∷ later) w h = absurd h.0
  own_told (sides.Left a ∷ later) w h = absurd h.0
  own_told (sides.Cleared a ∷ later) w h = absurd h.0
  own_told (sides.Unsolicited a ∷ later) w h = absurd h.0
  own_told (sides.Unsent a ∷ later) w h = absurd h.0

  pub own_handed : (from : ℕ) → (from == 0) ≡ false → (outbox : OutboxState) (w : WorldState) → AreOwn outbox.sides → O w (handed_out from weight outbox w)
  own_handed from other outbox w h =
      let v = told_all weight outbox.sides w in
      behind_then of_others w.fresh v.fresh (handed_out from weight outbox w).fresh (own_told outbox.sides w h) (all_sent of_others from (λ serial generation to bytes. ap not other) outbox.packets v)

  -- and this leaves who has the places of the target
  told_places : (side : List Side) (w : WorldState) → AreOwn side → (told_all weight side w).places ≡ w.places
  unfolding told_all told
  told_places [] w h = refl
  told_places (sides.Own note ∷ later) w h = told_places later (told weight (sides.Own note) w) h.1
  told_places (sides.Opened a b ∷ later) w h = absurd h.0
  told_places (sides.Ran a b c d e ∷ later) w h = absurd h.0
  told_places (sides.Ended a b c ∷ later) w h = absurd h.0
  told_places (sides.Dead a b ∷ later) w h = absurd h.0
  told_places (sides.Cut a b ∷ later) w h = absurd h.0
  told_places (sides.Managed a b c d e ∷ later) w h = absurd h.0
  told_places (sides.ManageFailed a b ∷ later) w h = absurd h.0
  told_places (sides.Held a ∷ later) w h = absurd h.0
  told_places (sides.Expired a ∷ later) w h = absurd h.0
  told_places (sides.Back a ∷ later) w h = absurd h.0
  told_places (sides.Left a ∷ later) w h = absurd h.0
  told_places (sides.Cleared a ∷ later) w h = absurd h.0
  told_places (sides.Unsolicited a ∷ later) w h = absurd h.0
  told_places (sides.Unsent a ∷ later) w h = absurd h.0

  pub own_places : (from : ℕ) (outbox : OutboxState) (w : WorldState) → AreOwn outbox.sides → (handed_out from weight outbox w).places ≡ w.places
  own_places from outbox w h = all_sent_places from outbox.packets (told_all weight outbox.sides w) ∙ told_places outbox.sides w h

pub all_new : (A : Note → Bool) (new : List Note) → Behind A [] new → AllOf A new
all_new A new b = subst (AllOf A) b.is (both_all A b.more [] b.all tt)

-- ---- as moments
