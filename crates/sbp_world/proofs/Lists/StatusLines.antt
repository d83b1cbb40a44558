-- Each line of a world in which the target sends nothing, and each second and generation that it sees, leave the packets that it sent to an initiator as they were.
use Rattle.sbp_world.proofs.Words.Std.{arith, ◌≡◌, refl, sym, subst, ℕ, suc, ◌+◌, ◌-◌, ◌==◌, nat_lt, Bool, true, false, cond, List, [], ◌∷◌, length, Option, Some, None, ◌∙◌, ap, zero, ◌||◌, not, ◌<◌, ◌≤◌, if◌then◌else◌, slice_set, AllByRecursion, nat_tests, false≢true}
use Rattle.sbp_world.proofs.Words.Wire.{LabelParts, Request, id_of, node_of, judged_note, no_node, no_packet, find, OutboxState, empty_outbox, Moment, said, Action, Note, Outgoing, Side, Layer, seeing_step, Sent, found_sent, is_flying, deliver_step, Judged}
use Rattle.sbp_world.proofs.Words.Target.{NodeState, scene, received, seen, ticked, with_key, tick_step, Purpose, Told}
use Rattle.sbp_world.proofs.Words.Initiator.{act_step, Turn, expire_step, receive_step, see_step, StatusBlock}
use Rattle.sbp_world.proofs.Words.Laws.{EachMoment}
use Rattle.sbp_world.proofs.Words.World.{AreOthers, history, handed_out, acted, acted_by, keyed, no_unit, weight_in, handed_all, initiator_learns, reset_line, see_line, sees, target_learns, target_ticks, tick_line, told_seen, with_seen, at_initiator, expires, initiator_expires, inject_line, injected, injected_to, is_in_flight, lose_line, lost, refused, target_expired, timed_out, timeout_line, timeout_of, asked_for, posted, sent, sent_all, sent_to, told, told_all, Scene, WorldState, initiator_at, with_initiator, with_note, with_target, IsStatusWrite, SentSo, Arrival, arrived, at_target, delivered, delivered_by, initiator_received, initiators_received, marked, received_by, received_step, target_received, whole_of, with_initiators}
use Rattle.sbp_world.proofs.Hosts.ActLeft.{act_left}
use Rattle.sbp_world.proofs.Hosts.Hands.{second_tells, sight_tells}
use Rattle.sbp_world.proofs.Hosts.Layered.{AreTame, expire_left, is_tame, receive_left, IsFine, others_fine, tame_fine}
use Rattle.sbp_world.proofs.Hosts.PointSees.{see_left}
use Rattle.sbp_journal.specs.declared.note.Note.TheVariants as notes
use Rattle.sbp_journal.specs.declared.side.Side.TheVariants as sides
use Rattle.sbp_world.specs.Nodes as nodes
use Rattle.sbp_world.specs.Packets as packets
use Rattle.sbp_target.proofs.Histories.Pass.{Leaves, sees_by, ticks_by}
use Rattle.sbp_world.proofs.Lists.StatusPackets.{AllPlain}
use Rattle.sbp_journal.specs.declared.cause.Judged.TheVariants as judgements
use Rattle.sbp_world.proofs.Wire.Comes.{own_inside, own_outside, received_is, to_own, to_zero}

-- a note is of no packet that is sent
abbrev pub is_plain : Note → Bool
is_plain (notes.Sent serial generation from to bytes) = false
is_plain _ = true

tame_plain : (note : Note) → is_tame note ≡ true → is_plain note ≡ true
tame_plain (notes.Sent serial generation from to bytes) e = absurd (false≢true e)
tame_plain _ e = refl

-- ---- what the target hands out as a second passes, or a generation is seen
abbrev P : Layer Purpose → List Outgoing → Type 0
P layer packets = AllPlain packets

leaves : Leaves P
leaves = record { disowns = λ layer packets peer label h. h }

second_plain : (node : NodeState) → AllPlain (target_ticks node).0.packets
unfolding ticked target_ticks
second_plain node = ticks_by P (tick_step node.logins) (scene node empty_outbox) tt

sight_plain : (generation id : ℕ) (node : NodeState) → AllPlain (nodes.target_sees generation id node).0.packets
unfolding seen nodes.target_sees
sight_plain generation id node = sees_by P leaves (seeing_step node.layer generation id) (scene node empty_outbox) tt

abbrev pub S : ℕ → List Moment → WorldState → Type 0
S o past w = EachMoment (SentSo o) (history w past)

pub plain_on : (o : ℕ) (note : Note) (ms : List Moment) → is_plain note ≡ true → EachMoment (SentSo o) ms → EachMoment (SentSo o) (said note ∷ ms)
plain_on o (notes.Sent serial generation from to bytes) ms e h = absurd (false≢true e)
plain_on o _ ms e h = (tt, h)

-- ---- what a node tells

module _ (o : ℕ) (past : List Moment) where
  one_side : (weight : ℕ) (side : Side) (w : WorldState) → IsFine is_plain side → S o past w → S o past (told weight side w)
  unfolding told
  one_side weight (sides.Own note) w f h = plain_on o note (history w past) f h
  one_side weight (sides.Opened place orb) w f h = h
  one_side weight (sides.Ran place orb cdb payload outcome) w f h = (tt, h)
  one_side weight (sides.Ended place orb status) w f h = (tt, h)
  one_side weight (sides.Dead place cause) w f h = (tt, h)
  one_side weight (sides.Cut place cause) w f h = (tt, h)
  one_side weight (sides.Managed node function subject status login) w f h = (tt, h)
  one_side weight (sides.ManageFailed node cause) w f h = (tt, h)
  one_side weight (sides.Held login) w f h = (tt, h)
  one_side weight (sides.Expired login) w f h = (tt, h)
  one_side weight (sides.Back login) w f h = (tt, h)
  one_side weight (sides.Left login) w f h = (tt, h)
  one_side weight (sides.Cleared unit) w f h = (tt, h)
  one_side weight (sides.Unsolicited place) w f h = (tt, h)
  one_side weight (sides.Unsent place) w f h = (tt, h)

  all_sides : (weight : ℕ) (told : List Side) (w : WorldState) → AllByRecursion (IsFine is_plain) told → S o past w → S o past (told_all weight told w)
  unfolding told_all
  all_sides weight [] w f h = h
  all_sides weight (side ∷ later) w f h = all_sides weight later (told weight side w) f.1 (one_side weight side w f.0 h)

  -- ---- the packets of a node

  waits_on : (serial to node peer : ℕ) (label : Option LabelParts) (w : WorldState) → S o past w → S o past (asked_for serial to node peer label w)
  waits_on serial to node peer None w h = h
  waits_on serial to node peer (Some label) w h = h

  posts : (from to : ℕ) (bytes : List ℕ) (w : WorldState) → (from ≡ 0 → (slot : ℕ) (block : StatusBlock) → IsStatusWrite bytes slot block → ⊥) → S o past w → S o past (posted from to false bytes w)
  unfolding posted
  posts from to bytes w f h = (λ of there slot block x. absurd (f of slot block x), h)

  leaves_to : (to : Option ℕ) (from : ℕ) (packet : Outgoing) (w : WorldState) → (from ≡ 0 → (slot : ℕ) (block : StatusBlock) → IsStatusWrite packet.bytes slot block → ⊥) → S o past w → S o past (sent_to to from packet w)
  leaves_to None from packet w f h = h
  leaves_to (Some to) from packet w f h = waits_on (w.store.last + 1) to from packet.to packet.label (posted from to false packet.bytes w) (posts from to packet.bytes w f h)

  all_leave : (from : ℕ) (packets : List Outgoing) (w : WorldState) → (from ≡ 0 → AllPlain packets) → S o past w → S o past (sent_all from packets w)
  unfolding sent_all sent
  all_leave from [] w f h = h
  all_leave from (packet ∷ later) w f h =
      all_leave from later (sent from packet w) (λ e. (f e).1) (leaves_to (node_of w.generations from packet.to) from packet w (λ e. (f e).0) h)

  pub hands : (from weight : ℕ) (outbox : OutboxState) (w : WorldState) → AllByRecursion (IsFine is_plain) outbox.sides → (from ≡ 0 → AllPlain outbox.packets) → S o past w → S o past (handed_out from weight outbox w)
  hands from weight outbox w f g h = all_leave from outbox.packets (told_all weight outbox.sides w) g (all_sides weight outbox.sides w f h)

  pub target_hands : (weight : ℕ) (outbox : OutboxState) (w : WorldState) → AreOthers outbox.sides → AllPlain outbox.packets → S o past w → S o past (handed_out 0 weight outbox w)
  target_hands weight outbox w f g h = hands 0 weight outbox w (others_fine is_plain outbox.sides f) (λ e. g) h

  pub own_hands : (i weight : ℕ) (outbox : OutboxState) (w : WorldState) → AreTame outbox.sides → S o past w → S o past (handed_out (suc i) weight outbox w)
  own_hands i weight outbox w f h = hands (suc i) weight outbox w (tame_fine is_plain tame_plain outbox.sides f) (λ e. absurd (omega (arith, e))) h

  pub notes_on : (note : Note) (w : WorldState) → is_plain note ≡ true → S o past w → S o past (with_note note w)
  notes_on note w e h = plain_on o note (history w past) e h

  -- ---- an initiator acts

  acts_by : (w : WorldState) (line i : ℕ) (action : Action) (r : Option ℕ × Turn) → (r.0 ≡ None → AreTame r.1.0.sides) → S o past w → S o past (acted_by r line i action w)
  acts_by w line i action (Some number, turn) f h = notes_on (notes.Refused line number) w refl h
  acts_by w line i action (None, turn) f h =
      subst (λ n. S o past (handed_out n (weight_in action) turn.0 (with_initiator i turn.1 w))) (let e : suc i ≡ i + 1 = omega arith in e)
      (own_hands i (weight_in action) turn.0 (with_initiator i turn.1 w) (f refl) h)

  pub acts : (w : WorldState) (line i : ℕ) (action : Action) → S o past w → S o past (acted line i action w)
  unfolding acted
  acts w line i action h = acts_by w line i action (act_step action empty_outbox (initiator_at w i)) (λ e. (act_left action (initiator_at w i) e).told) h

  -- ---- a transaction times out

  lapses_own : (w : WorldState) (line serial i j : ℕ) (r : Bool × Turn) → AreTame r.1.0.sides → S o past w → S o past (timed_out line serial (suc i) (at_initiator j r w))
  lapses_own w line serial i j (true, turn) f h = own_hands i 0 turn.0 (with_note (notes.TimedOut serial) (with_initiator j turn.1 w)) f (notes_on (notes.TimedOut serial) w refl h)
  lapses_own w line serial i j (false, turn) f h = notes_on (notes.Refused line no_packet) w refl h

  own_if : (w : WorldState) (line serial i j : ℕ) (request : Request) (b : Bool) → S o past w → S o past (timed_out line serial (suc i) (if b then at_initiator j (expire_step request.label empty_outbox (initiator_at w j)) w else (false, (empty_outbox, w))))
  own_if w line serial i j request true h = lapses_own w line serial i j (expire_step request.label empty_outbox (initiator_at w j)) (expire_left request.label (initiator_at w j)).told h
  own_if w line serial i j request false h = notes_on (notes.Refused line no_packet) w refl h

  lapses_by : (w : WorldState) (line serial : ℕ) (request : Request) (b : Bool) → (request.node == 0) ≡ b → (request.node ≡ 0 → S o past (timed_out line serial request.node (packets.at_target (target_expired request w.target) w))) → S o past w → S o past (timed_out line serial request.node (if b then packets.at_target (target_expired request w.target) w else initiator_expires request w))
  lapses_by w line serial request true e t h = t (let node : request.node ≡ 0 = grind (arith, nat_tests) in node)
  lapses_by w line serial request false e t h =
      let i = request.node - 1 in
      let node : request.node ≡ suc i = grind (arith, nat_tests) in
      subst (λ n. S o past (timed_out line serial n (initiator_expires request w))) (sym node) (own_if w line serial i (request.node - 1) request (nat_lt (request.node - 1) (length w.initiators)) h)

  timeout_by : (w : WorldState) (line serial : ℕ) (found : Option Request) → ((request : Request) → found ≡ Some request → request.node ≡ 0 → S o past (timed_out line serial request.node (packets.at_target (target_expired request w.target) w))) → S o past w → S o past (timeout_of found line serial w)
  unfolding expires
  timeout_by w line serial None t h = notes_on (notes.Refused line no_packet) w refl h
  timeout_by w line serial (Some request) t h = lapses_by w line serial request (request.node == 0) refl (t request refl) h

  pub times_out : (w : WorldState) (line serial : ℕ) → ((request : Request) → find w.requests serial ≡ Some request → request.node ≡ 0 → S o past (timed_out line serial request.node (packets.at_target (target_expired request w.target) w))) → S o past w → S o past (timeout_line line serial w)
  unfolding timeout_line
  times_out w line serial t h = timeout_by w line serial (find w.requests serial) t h

  -- ---- a second passes, a reset is seen

  pub seconds : (w : WorldState) → S o past w → S o past (tick_line w)
  unfolding tick_line target_ticks
  seconds w h = target_hands 0 (target_ticks w.target).0 (with_target (target_ticks w.target).1 (with_note notes.Tick w)) (second_tells w.target) (second_plain w.target) (notes_on notes.Tick w refl h)

  target_sees : (w : WorldState) → S o past w → S o past (handed_all 0 (target_learns w))
  unfolding nodes.target_sees
  target_sees w h =
      let r = nodes.target_sees w.generations.latest.generation (id_of w.generations.latest 0) w.target in
      target_hands 0 r.0 (with_target r.1 w) (sight_tells _ _ w.target) (sight_plain _ _ w.target) h

  sees_at : (w : WorldState) (node at : ℕ) (b : Bool) → (b ≡ true → node ≡ 0) → (b ≡ false → (i : ℕ) × (node ≡ suc i)) → S o past w → S o past (handed_all node (cond b (target_learns w) (initiator_learns at w)))
  sees_at w node at true none some h = subst (λ n. S o past (handed_all n (target_learns w))) (sym (none refl)) (target_sees w h)
  sees_at w node at false none some h =
      let k = some refl in
      let old = initiator_at w (at - 1) in
      subst (λ n. S o past (handed_all n (initiator_learns at w))) (sym k.1)
      (own_hands k.0 0 (see_step w.generations.latest.generation (id_of w.generations.latest at) (id_of w.generations.latest 0) empty_outbox old).0 _ (see_left w.generations.latest.generation (id_of w.generations.latest at) (id_of w.generations.latest 0) old).told h)

  pub sights : (w : WorldState) (node : ℕ) → S o past w → S o past (see_line node w)
  unfolding see_line sees
  sights w node h =
      let seen = with_seen node (told_seen node w) in
      sees_at seen node node (node == 0) (λ e. grind (arith, nat_tests)) (λ e. (node - 1, (let g : node ≡ suc (node - 1) = grind (arith, nat_tests) in g))) (notes_on (notes.Seen node w.generations.latest.generation) w refl h)

  -- ---- the other lines
  pub refuses : (w : WorldState) (line number : ℕ) → S o past w → S o past (refused line number w)
  refuses w line number h = notes_on (notes.Refused line number) w refl h

  pub loses : (w : WorldState) (line serial : ℕ) → S o past w → S o past (lose_line line serial w)
  unfolding lose_line
  loses w line serial h = by (is_in_flight serial w)
    where
      by : (b : Bool) → S o past (cond b (lost serial w) (refused line no_packet w))
      by true = (tt, h)
      by false = refuses w line no_packet h

  injects_to : (w : WorldState) (line i : ℕ) (bytes : List ℕ) (to : Option ℕ) → S o past w → S o past (injected to line (i + 1) bytes w)
  unfolding posted
  injects_to w line i bytes None h = refuses w line no_node h
  injects_to w line i bytes (Some to) h = ((λ of there slot block x. absurd (omega (arith, of))), (tt, h))

  pub injects : (w : WorldState) (line i : ℕ) (bytes : List ℕ) → S o past w → S o past (inject_line line i bytes w)
  unfolding inject_line
  injects w line i bytes h = injects_to w line i bytes (injected_to (i + 1) bytes w) h

  pub resets : (w : WorldState) (physical : List ℕ) → S o past w → S o past (reset_line physical w)
  unfolding reset_line
  resets w physical h = (tt, h)

  pub keys : (w : WorldState) (line unit : ℕ) (key : List ℕ) → S o past w → S o past (keyed line unit key w)
  unfolding keyed
  keys w line unit key h = by (nat_lt unit (length w.target.units))
    where
      by : (b : Bool) → S o past (cond b (with_note (notes.Key unit) (with_target (with_key unit key w.target) w)) (refused line no_unit w))
      by true = (tt, h)
      by false = refuses w line no_unit h

  -- ---- a delivery
  judged_on : (judged : Judged) (serial : ℕ) (ms : List Moment) → EachMoment (SentSo o) ms → EachMoment (SentSo o) (said (judged_note serial judged) ∷ ms)
  judged_on judgements.Got serial ms h = (tt, h)
  judged_on (judgements.Ignored cause) serial ms h = (tt, h)

  judges : (judged : Judged) (serial : ℕ) (again : Bool) (v : WorldState) → S o past v → S o past (with_note (judged_note serial judged) (marked serial again v))
  judges judged serial again v h = by (again || not (is_flying serial v.store.kept))
    where
      by : (b : Bool) → S o past (with_note (judged_note serial judged) (cond b v (record v { store = deliver_step v.store serial })))
      by true = judged_on judged serial (history v past) h
      by false = judged_on judged serial (history v past) h

  module _ (s : Scene) (serial : ℕ) (again : Bool) (run : Option Told) (h : S o past s.world) where
    abbrev w : WorldState
    w = s.world

    module _ (sent : Sent) (found : found_sent serial w.store.kept ≡ Some sent) where
      -- the world behind the note of how the target judged it, and what the target hands out then
      abbrev TargetHands : Type 0
      TargetHands = (let r = received run sent.generation sent.bytes (whole_of w.target s.media) in S o past (handed_out 0 0 r.1.outbox (with_note (judged_note serial r.0) (marked serial again (with_target r.1.node w)))))

      pub target_is : sent.to ≡ 0 → (let r = received run sent.generation sent.bytes (whole_of w.target s.media) in (delivered serial again run s).world ≡ handed_out 0 0 r.1.outbox (with_note (judged_note serial r.0) (marked serial again (with_target r.1.node w))))
      unfolding delivered target_received arrived
      target_is zero_to =
          let r = received run sent.generation sent.bytes (whole_of w.target s.media) in
          let v = with_note (judged_note serial r.0) (marked serial again (with_target r.1.node w)) in
          ap (λ (x : Option Arrival × (OutboxState × Scene)). (delivered_by serial again x).world)
          (received_is run serial s sent found ∙ ap (λ b. cond b (at_target sent.to (target_received run sent w.target s.media) s) (initiator_received sent s)) (to_zero sent.to zero_to))
          ∙ ap (λ n. handed_out n 0 r.1.outbox v) zero_to

      heard_target : sent.to ≡ 0 → TargetHands → S o past (delivered serial again run s).world
      heard_target zero_to k = subst (S o past) (sym (target_is zero_to)) k

      heard_own : (i : ℕ) → i < length w.initiators → sent.to ≡ suc i → S o past (delivered serial again run s).world
      unfolding delivered initiators_received arrived
      heard_own i inside to_is =
          let own = initiator_at w i in
          let r = receive_step sent.generation sent.bytes empty_outbox own in
          let x = with_initiators (slice_set w.initiators i r.1.1) w in
          let v = with_note (judged_note serial r.0) (marked serial again x) in
          let last_is : (delivered serial again run s).world ≡ handed_out sent.to 0 r.1.0 v =
          ap (λ (x : Option Arrival × (OutboxState × Scene)). (delivered_by serial again x).world) (to_own run serial i s sent found to_is ∙ own_inside sent i s inside) in
          subst (S o past) (sym (last_is ∙ ap (λ n. handed_out n 0 r.1.0 v) to_is))
          (own_hands i 0 r.1.0 v (receive_left sent.generation sent.bytes own).told (judges r.0 serial again x h))

      heard_none : (i : ℕ) → sent.to ≡ suc i → length w.initiators ≤ i → S o past (delivered serial again run s).world
      unfolding delivered
      heard_none i to_is outside =
          subst (S o past) (sym (ap (λ (x : Option Arrival × (OutboxState × Scene)). (delivered_by serial again x).world) (to_own run serial i s sent found to_is ∙ own_outside sent i s outside))) h

      heard_at : (to : ℕ) → sent.to ≡ to → (sent.to ≡ 0 → TargetHands) → S o past (delivered serial again run s).world
      heard_at zero e k = heard_target e (k e)
      heard_at (suc i) e k = by (nat_lt i (length w.initiators)) refl
        where
          by : (b : Bool) → nat_lt i (length w.initiators) ≡ b → S o past (delivered serial again run s).world
          by true f = heard_own i (grind arith) e
          by false f = heard_none i e (grind arith)

    heard_by : (so : Option Sent) → found_sent serial w.store.kept ≡ so → ((sent : Sent) (found : found_sent serial w.store.kept ≡ Some sent) → sent.to ≡ 0 → TargetHands sent found) → S o past (delivered serial again run s).world
    unfolding delivered received_step
    heard_by None e k = subst (S o past) (sym (ap (λ o. (delivered_by serial again (received_by run o s)).world) e)) h
    heard_by (Some sent) e k = heard_at sent e sent.to refl (k sent e)

    pub heard : ((sent : Sent) (found : found_sent serial w.store.kept ≡ Some sent) → sent.to ≡ 0 → TargetHands sent found) → S o past (delivered serial again run s).world
    heard k = heard_by (found_sent serial w.store.kept) refl k
