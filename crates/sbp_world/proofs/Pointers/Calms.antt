-- A line of a world: a packet that an initiator sends in a line that is no action of it, and did not inject, asks for no write.
use Rattle.sbp_world.proofs.Words.Std.{arith, ◌≡◌, refl, sym, ap, subst, ℕ, suc, ◌+◌, ◌-◌, ◌<◌, ◌==◌, ◌||◌, not, nat_lt, Bool, true, false, cond, List, [], ◌∷◌, length, Option, Some, None, Result, Ok, Err, nat_tests}
use Rattle.sbp_world.proofs.Words.Wire.{LabelParts, Stale, Sent, found_sent, is_flying, deliver_step, Moment, said, OutboxState, empty_outbox, terms, Judged, Action, Note, Outgoing, Side, Request, id_of, node_of, judged_note, find}
use Rattle.sbp_world.proofs.Words.Target.{Held, Told, NodeState, scene, expired}
use Rattle.sbp_world.proofs.Words.Initiator.{act_step, Turn, expire_step, receive_step, see_step}
use Rattle.sbp_world.proofs.Words.Laws.{EachMoment, event_of}
use Rattle.sbp_world.proofs.Words.World.{Arrival, MayAt, MayReceive, MayTold, arrived, at_none, at_target, delivered, delivered_by, initiator_received, initiators_received, listed, received_at, received_by, received_step, target_received, handed_out, acted, acted_by, weight_in, see_line, target_ticks, tick_line, world_expires, initiator_expires, target_expired, target_left, timed_out, timeout_line, timeout_of, asked_at, posted, sent, sent_all, sent_to, told, told_all, Scene, WorldState, initiator_at, with_initiator, with_note, with_target, behind, AreNotes, AreOthers, IsOther, history}
use Rattle.sbp_journal.specs.declared.cause.Judged.TheVariants as judgements
use Rattle.sbp_journal.specs.declared.event.Event.TheVariants as events
use Rattle.sbp_journal.specs.declared.note.Note.TheVariants as notes
use Rattle.sbp_journal.specs.declared.side.Side.TheVariants as sides
use Rattle.sbp_target.specs.Nodes as target
use Rattle.sbp_world.specs.Delivering.{at_initiator}
use Rattle.sbp_world.specs.Nodes as nodes
use Rattle.sbp_world.specs.Packets as packets
use Rattle.sbp_world.proofs.FitInitiator.Law.{fitting_law as own_fitting_law}
use Rattle.sbp_world.proofs.InitiatorForms as initiators
use Rattle.sbp_world.proofs.Wire.OwnHears.{ours}
use Rattle.sbp_world.proofs.Wire.Holding.{Sound, own_has, target_small}
use Rattle.sbp_world.proofs.Hosts.ActLeft.{act_left}
use Rattle.sbp_world.proofs.Hosts.Carries.{IsNoAct}
use Rattle.sbp_world.proofs.Hosts.Hands.{second_tells, sight_tells, target_tells}
use Rattle.sbp_world.proofs.Hosts.Outboxes.{all_own, line_stays as line_same}
use Rattle.sbp_world.proofs.Hosts.Layered.{AreTame, expire_left, is_tame, receive_left}
use Rattle.sbp_world.proofs.Hosts.Liners.{own_notes}
use Rattle.sbp_world.proofs.Hosts.PointSees.{see_left}
use Rattle.sbp_world.proofs.Hosts.TargetTells as target_tell
use Rattle.sbp_world.proofs.Pointers.Quiet.{AreQuiet, IsQuiet, expire_quiet, receive_quiet, see_quiet}
use Rattle.sbp_world.proofs.Common.{untrue}

abbrev pub Calm : Moment → List Moment → Type 0
Calm (said (notes.Sent serial generation from to bytes)) past = (i : ℕ) → from ≡ suc i → (terms past).injected serial ≡ false → IsNoAct i (event_of past) → IsQuiet bytes
Calm moment past = Unit {0}

abbrev pub AllCalm : List Moment → Type 0
AllCalm past = EachMoment Calm past

-- ---- notes

calm_note : (note : Note) (past : List Moment) → is_tame note ≡ true → Calm (said note) past
calm_note (notes.Append i n k cdb buffer) past e = tt
calm_note (notes.Low i n k) past e = tt
calm_note (notes.Linked i n k) past e = tt
calm_note (notes.Rung i n k) past e = tt
calm_note (notes.Dummied i n k) past e = tt
calm_note (notes.Taken i n k status answer) past e = tt
calm_note (notes.Drop i n) past e = tt
calm_note (notes.Op i operation word) past e = tt
calm_note (notes.Stuck i) past e = tt
calm_note (notes.Told i) past e = tt
calm_note _ past e = untrue e

told_calm : (told : List Side) (past : List Moment) → AreTame told → AllCalm past → AllCalm (behind told past)
told_calm [] past t h = h
told_calm (sides.Own note ∷ later) past t h = told_calm later (said note ∷ past) t.1 (calm_note note past t.0, h)
told_calm (_ ∷ later) past t h = absurd t.0

judged_calm : (serial : ℕ) (judged : Judged) (past : List Moment) → Calm (said (judged_note serial judged)) past
judged_calm serial judgements.Got past = tt
judged_calm serial (judgements.Ignored cause) past = tt

none_from : {A : Type 0} (from i : ℕ) → from ≡ 0 → from ≡ suc i → A
none_from from i e f = absurd (let x : ⊥ = omega arith in x)

module _ (past : List Moment) where
  abbrev pub IsCalm : WorldState → Type 0
  IsCalm w = AllCalm (history w past)

  other_calm : (weight : ℕ) (side : Side) (w : WorldState) → IsOther side → IsCalm w → IsCalm (told weight side w)
  unfolding told
  other_calm weight (sides.Own note) w f h = absurd f
  other_calm weight (sides.Opened place orb) w f h = h
  other_calm weight _ w f h = (tt, h)

  others_calm : (weight : ℕ) (told : List Side) (w : WorldState) → AreOthers told → IsCalm w → IsCalm (told_all weight told w)
  unfolding told_all
  others_calm weight [] w f h = h
  others_calm weight (side ∷ later) w f h = others_calm weight later (told weight side w) f.1 (other_calm weight side w f.0 h)

  -- ---- packets

  abbrev Leaves : ℕ → List Outgoing → Type 0
  Leaves from packets = (i : ℕ) → from ≡ suc i → IsNoAct i (event_of past) → AreQuiet packets

  posted_calm : (from to : ℕ) (bytes : List ℕ) (w : WorldState) → ((i : ℕ) → from ≡ suc i → IsNoAct i (event_of past) → IsQuiet bytes) → IsCalm w → IsCalm (posted from to false bytes w)
  unfolding posted
  posted_calm from to bytes w q h = ((λ i e honest n. q i e (subst (IsNoAct i) (line_same w.fresh past) n)), h)

  asked_calm : (serial to node peer : ℕ) (label : Option LabelParts) (w : WorldState) → IsCalm w → IsCalm (asked_at serial to node peer label w)
  asked_calm serial to node peer None w h = h
  asked_calm serial to node peer (Some label) w h = h

  to_calm : (to : Option ℕ) (from : ℕ) (packet : Outgoing) (w : WorldState) → ((i : ℕ) → from ≡ suc i → IsNoAct i (event_of past) → IsQuiet packet.bytes) → IsCalm w → IsCalm (sent_to to from packet w)
  to_calm None from packet w q h = h
  to_calm (Some to) from packet w q h = asked_calm (w.store.last + 1) to from packet.to packet.label (posted from to false packet.bytes w) (posted_calm from to packet.bytes w q h)

  sent_calm : (from : ℕ) (packet : Outgoing) (w : WorldState) → ((i : ℕ) → from ≡ suc i → IsNoAct i (event_of past) → IsQuiet packet.bytes) → IsCalm w → IsCalm (sent from packet w)
  unfolding sent
  sent_calm from packet w q h = to_calm (node_of w.generations from packet.to) from packet w q h

  all_sent : (from : ℕ) (packets : List Outgoing) (w : WorldState) → Leaves from packets → IsCalm w → IsCalm (sent_all from packets w)
  unfolding sent_all
  all_sent from [] w q h = h
  all_sent from (packet ∷ later) w q h = all_sent from later (sent from packet w) (λ i e n. (q i e n).1) (sent_calm from packet w (λ i e n. (q i e n).0) h)

  target_hands : (from weight : ℕ) (outbox : OutboxState) (w : WorldState) → AreOthers outbox.sides → from ≡ 0 → IsCalm w → IsCalm (handed_out from weight outbox w)
  target_hands from weight outbox w o z h = all_sent from outbox.packets (told_all weight outbox.sides w) (λ i e n. none_from from i z e) (others_calm weight outbox.sides w o h)

  own_hands : (from weight : ℕ) (outbox : OutboxState) (w : WorldState) → AreNotes outbox.sides → AreTame outbox.sides → Leaves from outbox.packets → IsCalm w → IsCalm (handed_out from weight outbox w)
  own_hands from weight outbox w o tame q h =
      all_sent from outbox.packets (told_all weight outbox.sides w) q
      (subst AllCalm (sym (all_own past weight outbox.sides w o)) (told_calm outbox.sides (history w past) tame h))

  -- ---- a delivery

  module _ (serial : ℕ) (again : Bool) where
    abbrev mark : Bool → WorldState → WorldState
    mark b w = cond b w (record w { store = deliver_step w.store serial })

    marked_calm : (b : Bool) (w : WorldState) → IsCalm w → IsCalm (mark b w)
    marked_calm true w h = h
    marked_calm false w h = h

    abbrev Arrives : Option Arrival × (OutboxState × Scene) → Type 0
    Arrives r = IsCalm (delivered_by serial again r).world

    pick_arrives : (b : Bool) (x y : Option Arrival × (OutboxState × Scene)) → (b ≡ true → Arrives x) → (b ≡ false → Arrives y) → Arrives (cond b x y)
    pick_arrives true x y h i = h refl
    pick_arrives false x y h i = i refl

    at_target_calm : (node : ℕ) (r : Judged × (OutboxState × (NodeState × Held))) (s : Scene) → AreOthers r.1.0.sides → node ≡ 0 → IsCalm s.world → Arrives (at_target node r s)
    unfolding arrived
    at_target_calm node (judged, (outbox, (state, media))) s o z h =
        let w = mark (again || not (is_flying serial s.world.store.kept)) (with_target state s.world) in
        target_hands node 0 outbox (with_note (judged_note serial judged) w) o z
        (judged_calm serial judged (history w past), marked_calm (again || not (is_flying serial s.world.store.kept)) (with_target state s.world) h)

    at_own_calm : (i node : ℕ) (r : Judged × Turn) (s : Scene) → AreNotes r.1.0.sides → AreTame r.1.0.sides → AreQuiet r.1.0.packets → IsCalm s.world → Arrives (at_initiator node (listed i r s.world.initiators) s)
    unfolding arrived
    at_own_calm i node (judged, (outbox, state)) s o tame q h =
        let v = with_initiator i state s.world in
        let w = mark (again || not (is_flying serial s.world.store.kept)) v in
        own_hands node 0 outbox (with_note (judged_note serial judged) w) o tame (λ j e n. q)
        (judged_calm serial judged (history w past), marked_calm (again || not (is_flying serial s.world.store.kept)) v h)

    module _ (lines : ℕ) (s : Scene) (sound : Sound past lines s.world) (h : IsCalm s.world) where
      own_received : (sent : Sent) → found_sent serial s.world.store.kept ≡ Some sent → Arrives (initiator_received sent s)
      unfolding initiators_received
      own_received sent found =
          let w = s.world in
          let i = sent.to - 1 in
          let old = initiator_at w i in
          let r = receive_step sent.generation sent.bytes empty_outbox old in
          pick_arrives (nat_lt i (length w.initiators)) (at_initiator sent.to (initiators_received i sent w.initiators) s) (at_none s)
          (λ e.
          let inside : i < length w.initiators = grind (arith, nat_tests) in
          let own = sound.nodes.own.holds i inside in
          let d = (own_fitting_law (own_has w.generations.seen i) (own_has w.generations.seen i)).deliveries sent.generation sent.bytes old (target_small w.generations.seen i) own (ours w sound.stands serial sent found).bytes in
          at_own_calm i sent.to r s (own_notes r.1.0.sides (initiators.receives sent.generation sent.bytes empty_outbox old tt))
          (receive_left sent.generation sent.bytes old).told
          (receive_quiet _ sent.generation sent.bytes old (target_small w.generations.seen i old.target own.fits.target_known) own.layer d.delivers) h)
          (λ e. h)

      received_where : (told : Option Told) (sent : Sent) → MayTold (sent.to == 0) told sent s → found_sent serial s.world.store.kept ≡ Some sent → Arrives (received_at told sent s)
      received_where told sent m found =
          pick_arrives (sent.to == 0) (at_target sent.to (target_received told sent s.world.target s.media) s) (initiator_received sent s)
          (λ e. at_target_calm sent.to (target_received told sent s.world.target s.media) s (target_tells told sent s.world.target s.media (subst (λ b. MayTold b told sent s) e m)) (let z : sent.to ≡ 0 = grind (arith, nat_tests) in z) h)
          (λ e. own_received sent found)

      received_found : (told : Option Told) (found : Option Sent) → found_sent serial s.world.store.kept ≡ found → MayAt told found s → Arrives (received_by told found s)
      received_found told None e m = h
      received_found told (Some sent) e m = received_where told sent m e

      pub delivers_calm : (told : Option Told) → MayReceive told serial s → IsCalm (delivered serial again told s).world
      unfolding delivered received_step MayReceive
      delivers_calm told m = received_found told (found_sent serial s.world.store.kept) refl m

  -- ---- a time-out

  module _ (line serial : ℕ) where
    abbrev Ends : ℕ → Bool × (OutboxState × WorldState) → Type 0
    Ends node r = IsCalm (timed_out line serial node r)

    pick_ends : (node : ℕ) (b : Bool) (x y : Bool × (OutboxState × WorldState)) → (b ≡ true → Ends node x) → (b ≡ false → Ends node y) → Ends node (cond b x y)
    pick_ends node true x y h i = h refl
    pick_ends node false x y h i = i refl

    target_ends : (node : ℕ) (r : Result (Unit {0}) Stale × target.Scene) (w : WorldState) → node ≡ 0 → AreOthers r.1.outbox.sides → IsCalm w → Ends node (packets.at_target (target_left r w.target) w)
    target_ends node (Ok done, s) w z o h = target_hands node 0 s.outbox (with_note (notes.TimedOut serial) (with_target s.node w)) o z (tt, h)
    target_ends node (Err stale, s) w z o h = (tt, h)

    own_ends : (i node : ℕ) (r : Bool × Turn) (w : WorldState) → AreNotes r.1.0.sides → AreTame r.1.0.sides → AreQuiet r.1.0.packets → IsCalm w → Ends node (packets.at_initiator i r w)
    own_ends i node (true, (outbox, state)) w o tame q h = own_hands node 0 outbox (with_note (notes.TimedOut serial) (with_initiator i state w)) o tame (λ j e n. q) (tt, h)
    own_ends i node (false, (outbox, state)) w o tame q h = (tt, h)

    own_expires : (request : Request) (w : WorldState) → IsCalm w → Ends request.node (initiator_expires request w)
    own_expires request w h =
        let i = request.node - 1 in
        let old = initiator_at w i in
        let r = expire_step request.label empty_outbox old in
        pick_ends request.node (nat_lt i (length w.initiators)) (packets.at_initiator i r w) (false, (empty_outbox, w))
        (λ e. own_ends i request.node r w (own_notes r.1.0.sides (initiators.expires request.label empty_outbox old tt)) (expire_left request.label old).told (expire_quiet request.label old) h)
        (λ e. (tt, h))

    all_expires : (request : Request) (w : WorldState) → IsCalm w → Ends request.node (world_expires request w)
    unfolding world_expires target_expired
    all_expires request w h =
        pick_ends request.node (request.node == 0) (packets.at_target (target_expired request w.target) w) (initiator_expires request w)
        (λ e. target_ends request.node (expired request.peer request.label (scene w.target empty_outbox)) w (let z : request.node ≡ 0 = grind (arith, nat_tests) in z) (target_tell.expires request.peer request.label (scene w.target empty_outbox) tt) h)
        (λ e. own_expires request w h)

    found_expires : (request : Option Request) (w : WorldState) → IsCalm w → IsCalm (timeout_of request line serial w)
    found_expires None w h = (tt, h)
    found_expires (Some request) w h = all_expires request w h

    pub line_expires : (w : WorldState) → IsCalm w → IsCalm (timeout_line line serial w)
    unfolding timeout_line
    line_expires w h = found_expires (find w.requests serial) w h

  -- ---- a sight

  module _ (node : ℕ) (w : WorldState) (h : IsCalm w) where
    abbrev seen : WorldState
    seen = nodes.with_seen node (nodes.told_seen node w)

    abbrev Sees : OutboxState × WorldState → Type 0
    Sees r = IsCalm (nodes.handed_all node r)

    pick_sees : (b : Bool) (x y : OutboxState × WorldState) → (b ≡ true → Sees x) → (b ≡ false → Sees y) → Sees (cond b x y)
    pick_sees true x y h i = h refl
    pick_sees false x y h i = i refl

    target_pair : (r : OutboxState × NodeState) → AreOthers r.0.sides → node ≡ 0 → Sees (nodes.at_target r seen)
    target_pair (outbox, state) o z = target_hands node 0 outbox (with_target state seen) o z (tt, h)

    own_pair : (i : ℕ) (r : Turn) → AreNotes r.0.sides → AreTame r.0.sides → AreQuiet r.0.packets → Sees (nodes.at_initiator i r seen)
    own_pair i (outbox, state) o tame q = own_hands node 0 outbox (with_initiator i state seen) o tame (λ j e n. q) (tt, h)

    pub line_sees : IsCalm (see_line node w)
    unfolding see_line nodes.sees
    line_sees =
        pick_sees (node == 0) (nodes.target_learns seen) (nodes.initiator_learns node seen)
        (λ e. target_pair (nodes.target_sees w.generations.latest.generation (id_of w.generations.latest 0) w.target) (sight_tells w.generations.latest.generation (id_of w.generations.latest 0) w.target) (let z : node ≡ 0 = grind (arith, nat_tests) in z))
        (λ e.
        let i = node - 1 in
        let old = initiator_at w i in
        let g = w.generations.latest.generation in
        let id = id_of w.generations.latest node in
        let other = id_of w.generations.latest 0 in
        own_pair i (see_step g id other empty_outbox old) (own_notes (see_step g id other empty_outbox old).0.sides (initiators.sees g id other empty_outbox old tt)) (see_left g id other old).told (see_quiet g id other old))

  -- ---- a second

  pub ticks : (w : WorldState) → IsCalm w → IsCalm (tick_line w)
  unfolding tick_line
  ticks w h = by_pair (target_ticks w.target) (second_tells w.target)
    where
      by_pair : (r : OutboxState × NodeState) → AreOthers r.0.sides → IsCalm (nodes.handed_all 0 (nodes.at_target r (with_note notes.Tick w)))
      by_pair (outbox, node) o = target_hands 0 0 outbox (with_target node (with_note notes.Tick w)) o refl (tt, h)

  -- ---- an action

  module _ (line i : ℕ) (action : Action) (w : WorldState) (h : IsCalm w) (under : event_of past ≡ Some (events.Act i action)) where
    acts_by : (r : Option ℕ × Turn) → act_step action empty_outbox (initiator_at w i) ≡ r → IsCalm (acted_by r line i action w)
    acts_by (Some number, (outbox, state)) e = (tt, h)
    acts_by (None, t) e =
        let old = initiator_at w i in
        let done : (act_step action empty_outbox old).0 ≡ None = ap (λ (x : Option ℕ × Turn). x.0) e in
        let turn : (act_step action empty_outbox old).1 ≡ t = ap (λ (x : Option ℕ × Turn). x.1) e in
        own_hands (i + 1) (weight_in action) t.0 (with_initiator i t.1 w)
        (subst (λ (x : Turn). AreNotes x.0.sides) turn (own_notes (act_step action empty_outbox old).1.0.sides (initiators.acts action empty_outbox old tt)))
        (subst (λ (x : Turn). AreTame x.0.sides) turn (act_left action old done).told)
        (λ j f n. acts_there j (subst (IsNoAct j) under n) f) h
      where
        acts_there : {A : Type 0} (j : ℕ) → (j == i) ≡ false → i + 1 ≡ suc j → A
        acts_there j n f = untrue (let x : false ≡ true = grind (arith, nat_tests) in x)

    pub acts_calm : IsCalm (acted line i action w)
    unfolding acted
    acts_calm = acts_by (act_step action empty_outbox (initiator_at w i)) refl
