-- What leaves the agents of the target, and who has their places, and appends nothing, leaves the rooms as they are at most: a line that begins, a delivery to an
-- initiator, a key. In no delivery an ORB is appended.
use Rattle.sbp_world.proofs.Words.Std.{arith, ◌≡◌, ◌∙◌, refl, sym, ap, subst, ◌<◌, ◌≤◌, ◌||◌, not, ℕ, zero, suc, nat_lt, Bool, true, false, cond, List, [], ◌∷◌, length, Option, Some, None, slice_index_or, slice_set, false≢true}
use Rattle.sbp_world.proofs.Words.Wire.{Event, Moment, Note, OutboxState, Sent, Side, asks, deliver_step, empty_outbox, found_sent, holder_at, is_flying, judged_note, said}
use Rattle.sbp_world.proofs.Words.Target.{Machine, NodeState, Told, desk_at}
use Rattle.sbp_world.proofs.Words.Initiator.{new_state, receive_step}
use Rattle.sbp_world.proofs.Words.Laws.{ends, is_cut}
use Rattle.sbp_world.proofs.Words.World.{AreOthers, Arrival, MayAt, MayReceive, MayTold, Scene, WorldState, arrived, at_target, delivered, delivered_by, handed_out, initiator_received, initiators_received, machine_at, marked, received_by, received_step, target_received, told, told_all, with_initiators, with_note, with_target}
use Rattle.command_agent.specs.Making.{is_at_work}
use Rattle.sbp_journal.specs.declared.note.Note.TheVariants as notes
use Rattle.sbp_journal.specs.declared.side.Side.TheVariants as sides
use Rattle.sbp_world.proofs.Agents.Management.Still.{hist}
use Rattle.sbp_world.proofs.Common.{itself}
use Rattle.sbp_world.proofs.Counting.Grown.{Goes, IsNoAppend, first_goes, goes_none, goes_then, one_moment, sent_goes, told_goes}
use Rattle.sbp_world.proofs.Counting.RoomTurns.{rooms_least}
use Rattle.sbp_world.proofs.Counting.Worked.{Begun, WorksOn, has_ended, was_cut, works}
use Rattle.sbp_world.proofs.Hosts.Hands.{hand_law}
use Rattle.sbp_world.proofs.Hosts.OrbTells as tell
use Rattle.sbp_world.proofs.Hosts.OrbTerms.{AreStill, is_left}
use Rattle.sbp_world.proofs.Lists.Adds.{Stays}
use Rattle.sbp_world.proofs.Lists.Deliveries.{first_of}
use Rattle.sbp_world.proofs.Wire.Comes.{own_inside, own_outside, received_is, to_own, to_zero}
use Rattle.sbp_world.specs.Counting.Rooms.{rooms}

-- ---- the agents and their places stay
pub record IsAside (before now : List Moment) (w v : WorldState) : Type 0 where
  pub goes : Goes before now
  pub ends_are : (i n : ℕ) → ends now i n ≡ ends before i n
  pub cuts_are : (i n : ℕ) → is_cut now i n ≡ is_cut before i n
  pub machines : (p : ℕ) → machine_at v p ≡ machine_at w p
  pub places : v.places ≡ w.places

module _ (before now : List Moment) (w v : WorldState) (a : IsAside before now w v) where
  same_work : (i n : ℕ) → WorksOn w i n → WorksOn v i n
  same_work i n h = record {
    place = h.place;
    small = h.small;
    initiator_is = ap (λ ps. (holder_at ps h.place).initiator) a.places ∙ h.initiator_is;
    list = ap (λ ps. (holder_at ps h.place).list) a.places ∙ h.list;
    busy = ap (λ (m : Machine). is_at_work m.phase) (a.machines h.place) ∙ h.busy;
  }

  begun_aside : (i n k : ℕ) → Begun before w i n k → Begun now v i n k
  begun_aside i n k (was_cut e) = was_cut (a.cuts_are i n ∙ e)
  begun_aside i n k (has_ended b) = has_ended (let e = a.ends_are i n in omega (arith, b, e))
  begun_aside i n k (works e h) = works (e ∙ sym (a.ends_are i n)) (same_work i n h)

  pub rooms_aside : rooms now v now ≤ rooms before w before
  rooms_aside = rooms_least before now w v a.goes begun_aside

-- a line that begins
pub line_aside : (before : List Moment) (line : ℕ) (event : Event) (w v : WorldState) → v.target ≡ w.target → v.places ≡ w.places → IsAside before (asks line event ∷ before) w v
line_aside before line event w v target places = record {
  goes = one_moment (asks line event) before tt;
  ends_are = λ i n. refl;
  cuts_are = λ i n. refl;
  machines = λ p. ap (λ (t : NodeState). (desk_at t p).agent) target;
  places = places;
}

-- what others than the target do, and a key
pub stays_aside : (wild : ℕ → Bool) (past : List Moment) (w v : WorldState) → Stays wild past w v → Goes (hist past w) (hist past v) → IsAside (hist past w) (hist past v) w v
stays_aside wild past w v s g = record {
  goes = g;
  ends_are = s.adds.ends_are;
  cuts_are = s.adds.cuts_are;
  machines = λ p. ap (λ (t : NodeState). (desk_at t p).agent) s.target;
  places = s.places;
}

-- ---- no delivery appends
module _ (past : List Moment) where
  -- what an initiator tells that says nothing of ORBs
  none_of : (note : Note) → ((i : ℕ) → is_left i note ≡ true) → IsNoAppend (said note)
  none_of (notes.Append j n k cdb buffer) h = false≢true (sym (ap not (itself j)) ∙ h j)
  none_of note h = tt

  still_goes : (weight : ℕ) (side : List Side) (w : WorldState) → AreStill side → Goes (hist past w) (hist past (told_all weight side w))
  unfolding told_all told
  still_goes weight [] w h = goes_none (hist past w)
  still_goes weight (sides.Own note ∷ later) w h =
      let x = told weight (sides.Own note) w in
      goes_then (hist past w) (hist past x) (hist past (told_all weight later x)) (one_moment (said note) (hist past w) (none_of note h.0)) (still_goes weight later x h.1)
  still_goes weight (side ∷ later) w h = absurd h.0

  module _ (serial : ℕ) (again : Bool) (w : WorldState) where
    marked_same : (b : Bool) → hist past (cond b w (record w { store = deliver_step w.store serial })) ≡ hist past w
    marked_same true = refl
    marked_same false = refl

    judged_goes : (u : WorldState) → hist past u ≡ hist past w → (note : Note) → Goes (hist past u) (said note ∷ hist past u) → Goes (hist past w) (hist past (with_note note u))
    judged_goes u same note g = subst (λ ms. Goes ms (said note ∷ hist past u)) same g

  module _ (s : Scene) (serial : ℕ) (again : Bool) (run : Option Told) where
    abbrev W : WorldState
    W = s.world

    abbrev end : WorldState
    end = (delivered serial again run s).world

    abbrev E : WorldState → Type 0
    E v = Goes (hist past W) (hist past v)

    module _ (sent : Sent) where
      heard_target : found_sent serial W.store.kept ≡ Some sent → sent.to ≡ 0 → AreOthers (target_received run sent W.target s.media).1.0.sides → E end
      unfolding delivered target_received arrived
      heard_target found zero_to others =
          let x = target_received run sent W.target s.media in
          let one = with_target x.1.1.0 W in
          let u = with_note (judged_note serial x.0) (marked serial again one) in
          let last_is : end ≡ handed_out 0 0 x.1.0 u =
          ap (λ (y : Option Arrival × (OutboxState × Scene)). (delivered_by serial again y).world)
          (received_is run serial s sent found ∙ ap (λ b. cond b (at_target sent.to (target_received run sent W.target s.media) s) (initiator_received sent s)) (to_zero sent.to zero_to))
          ∙ ap (λ n. handed_out n 0 x.1.0 u) zero_to in
          let first = judged_goes serial again one (marked serial again one) (marked_same serial again one (again || not (is_flying serial W.store.kept))) (judged_note serial x.0) (first_goes (hist past (marked serial again one)) (judged_note serial x.0) (first_of serial x.0)) in
          let there = told_all 0 x.1.0.sides u in
          subst E (sym last_is)
          (goes_then (hist past W) (hist past u) (hist past (handed_out 0 0 x.1.0 u)) first
          (goes_then (hist past u) (hist past there) (hist past (handed_out 0 0 x.1.0 u)) (told_goes past x.1.0.sides u others) (sent_goes past 0 x.1.0.packets there)))

      heard_own : found_sent serial W.store.kept ≡ Some sent → (i : ℕ) → sent.to ≡ suc i → i < length W.initiators → E end
      unfolding delivered initiators_received arrived
      heard_own found i to_is inside =
          let old = slice_index_or W.initiators i (new_state 0 false) in
          let x = receive_step sent.generation sent.bytes empty_outbox old in
          let one = with_initiators (slice_set W.initiators i x.1.1) W in
          let u = with_note (judged_note serial x.0) (marked serial again one) in
          let last_is : end ≡ handed_out sent.to 0 x.1.0 u =
          ap (λ (y : Option Arrival × (OutboxState × Scene)). (delivered_by serial again y).world) (to_own run serial i s sent found to_is ∙ own_inside sent i s inside) in
          let first = judged_goes serial again one (marked serial again one) (marked_same serial again one (again || not (is_flying serial W.store.kept))) (judged_note serial x.0) (first_goes (hist past (marked serial again one)) (judged_note serial x.0) (first_of serial x.0)) in
          let there = told_all 0 x.1.0.sides u in
          subst E (sym last_is)
          (goes_then (hist past W) (hist past u) (hist past (handed_out sent.to 0 x.1.0 u)) first
          (goes_then (hist past u) (hist past there) (hist past (handed_out sent.to 0 x.1.0 u)) (still_goes 0 x.1.0.sides u (tell.receives sent.generation sent.bytes empty_outbox old tt)) (sent_goes past sent.to x.1.0.packets there)))

      heard_none : found_sent serial W.store.kept ≡ Some sent → (i : ℕ) → sent.to ≡ suc i → length W.initiators ≤ i → E end
      unfolding delivered
      heard_none found i to_is outside =
          subst E (sym (ap (λ (y : Option Arrival × (OutboxState × Scene)). (delivered_by serial again y).world) (to_own run serial i s sent found to_is ∙ own_outside sent i s outside))) (goes_none (hist past W))

      heard_at : found_sent serial W.store.kept ≡ Some sent → (to : ℕ) → sent.to ≡ to → (sent.to ≡ 0 → AreOthers (target_received run sent W.target s.media).1.0.sides) → E end
      heard_at found zero e others = heard_target found e (others e)
      heard_at found (suc i) e others = by (nat_lt i (length W.initiators)) refl
        where
          by : (b : Bool) → nat_lt i (length W.initiators) ≡ b → E end
          by true f = heard_own found i e (grind arith)
          by false f = heard_none found i e (grind arith)

    heard_by : (so : Option Sent) → found_sent serial W.store.kept ≡ so → MayAt run so s → E end
    unfolding delivered received_step
    heard_by None e m = subst E (sym (ap (λ o. (delivered_by serial again (received_by run o s)).world) e)) (goes_none (hist past W))
    heard_by (Some sent) e m = heard_at sent e sent.to refl (λ z. hand_law.received run sent W.target s.media (subst (λ b. MayTold b run sent s) (to_zero sent.to z) m))

    pub delivered_goes : MayReceive run serial s → Goes (hist past s.world) (hist past (delivered serial again run s).world)
    unfolding MayReceive
    delivered_goes m = heard_by (found_sent serial W.store.kept) refl m
