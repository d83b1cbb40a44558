-- What a node tells and hands out in a line keeps that the target answers a write of MANAGEMENT_AGENT with conflict_error as it finds an operation under way alone, and that nothing is owed as a
-- second passes.
use Rattle.sbp_world.proofs.Words.Std.{arith, ◌≡◌, refl, sym, subst, ℕ, suc, ◌+◌, ◌-◌, ◌==◌, nat_lt, Bool, true, false, cond, List, [], ◌∷◌, length, Option, Some, None, Result, Ok, Err, if◌then◌else◌, AllByRecursion, nat_tests}
use Rattle.sbp_world.proofs.Words.Wire.{LabelParts, Stale, Request, id_of, node_of, judged_note, no_packet, find, OutboxState, empty_outbox, Moment, said, terms, Judged, Action, Note, Outgoing, Side}
use Rattle.sbp_world.proofs.Words.Target.{Disk, scene, expired}
use Rattle.sbp_world.proofs.Words.Initiator.{act_step, Turn, expire_step, see_step}
use Rattle.sbp_world.proofs.Words.Laws.{EachMoment}
use Rattle.sbp_world.proofs.Words.World.{AreOthers, history, handed_out, acted, acted_by, weight_in, handed_all, initiator_learns, see_line, sees, target_learns, target_ticks, tick_line, told_seen, with_seen, at_initiator, expires, initiator_expires, target_expired, target_left, timed_out, timeout_line, timeout_of, asked_for, posted, sent, sent_all, sent_to, told, told_all, WorldState, initiator_at, with_initiator, with_note, with_target}
use Rattle.sbp_world.proofs.Hosts.ActLeft.{act_left}
use Rattle.sbp_world.proofs.Hosts.Hands.{second_tells, sight_tells}
use Rattle.sbp_world.proofs.Hosts.Layered.{AreTame, expire_left, is_tame, IsFine, others_fine, tame_fine}
use Rattle.sbp_world.proofs.Hosts.PointSees.{see_left}
use Rattle.sbp_world.proofs.Hosts.TargetTells as target_tell
use Rattle.sbp_journal.specs.declared.cause.Judged.TheVariants as judgements
use Rattle.sbp_journal.specs.declared.note.Note.TheVariants as notes
use Rattle.sbp_journal.specs.declared.side.Side.TheVariants as sides
use Rattle.sbp_target.specs.Nodes as target
use Rattle.sbp_world.specs.Nodes as nodes
use Rattle.sbp_world.specs.Packets as packets
use Rattle.sbp_world.proofs.Lists.ManageAnswers.{IsFound, free_found}
use Rattle.sbp_world.proofs.Lists.ManageCalls.{First, NoConflicts, lapse_free, second_free, sight_free}
use Rattle.sbp_world.proofs.Common.{untrue}

-- of a packet of the target, and of a second
abbrev pub FoundAt : List Disk → Moment → List Moment → Type 0
FoundAt start (said (notes.Sent serial generation from to bytes)) past = from ≡ 0 → IsFound start past bytes
FoundAt start (said notes.Tick) past = (terms past).owes ≡ None
FoundAt start moment past = Unit {0}

abbrev pub AreFound : List Disk → List Moment → Type 0
AreFound start past = EachMoment (FoundAt start) past

abbrev pub is_plain : Note → Bool
is_plain (notes.Sent serial generation from to bytes) = false
is_plain notes.Tick = false
is_plain note = true

tame_plain : (note : Note) → is_tame note ≡ true → is_plain note ≡ true
tame_plain (notes.Sent serial generation from to bytes) e = untrue e
tame_plain notes.Tick e = untrue e
tame_plain note e = refl

pub plain_on : (start : List Disk) (note : Note) (past : List Moment) → is_plain note ≡ true → AreFound start past → AreFound start (said note ∷ past)
plain_on start (notes.Sent serial generation from to bytes) past e h = untrue e
plain_on start notes.Tick past e h = untrue e
plain_on start note past e h = (tt, h)

pub judged_on : (start : List Disk) (serial : ℕ) (judged : Judged) (past : List Moment) → AreFound start past → AreFound start (said (judged_note serial judged) ∷ past)
judged_on start serial judgements.Got past h = (tt, h)
judged_on start serial (judgements.Ignored cause) past h = (tt, h)

-- ---- what a node tells

module _ (start : List Disk) (past : List Moment) where
  abbrev pub B : WorldState → Type 0
  B w = AreFound start (history w past)

  one_side : (weight : ℕ) (side : Side) (w : WorldState) → IsFine is_plain side → B w → B (told weight side w)
  unfolding told
  one_side weight (sides.Own note) w f h = plain_on start note (history w past) f h
  one_side weight (sides.Opened place orb) w f h = h
  one_side weight (sides.Ran place orb cdb payload outcome) w f h = (tt, h)
  one_side weight (sides.Ended place orb status) w f h = (tt, h)
  one_side weight (sides.Dead place cause) w f h = (tt, h)
  one_side weight (sides.Cut place cause) w f h = (tt, h)
  one_side weight (sides.Managed node function subject status login) w f h = (tt, h)
  one_side weight (sides.ManageFailed node cause) w f h = (tt, h)
  one_side weight (sides.Held login) w f h = (tt, h)
  one_side weight (sides.Expired login) w f h = (tt, h)
  one_side weight (sides.Back login) w f h = (tt, h)
  one_side weight (sides.Left login) w f h = (tt, h)
  one_side weight (sides.Cleared unit) w f h = (tt, h)
  one_side weight (sides.Unsolicited place) w f h = (tt, h)
  one_side weight (sides.Unsent place) w f h = (tt, h)

  all_sides : (weight : ℕ) (told : List Side) (w : WorldState) → AllByRecursion (IsFine is_plain) told → B w → B (told_all weight told w)
  unfolding told_all
  all_sides weight [] w f h = h
  all_sides weight (side ∷ later) w f h = all_sides weight later (told weight side w) f.1 (one_side weight side w f.0 h)

  -- ---- the packets of a node

  waits_on : (serial to node peer : ℕ) (label : Option LabelParts) (w : WorldState) → B w → B (asked_for serial to node peer label w)
  waits_on serial to node peer None w h = h
  waits_on serial to node peer (Some label) w h = h

  posts : (from to : ℕ) (bytes : List ℕ) (w : WorldState) → (from ≡ 0 → IsFound start (history w past) bytes) → B w → B (posted from to false bytes w)
  unfolding posted
  posts from to bytes w f h = (f, h)

  leaves_to : (to : Option ℕ) (from : ℕ) (packet : Outgoing) (w : WorldState) → (from ≡ 0 → IsFound start (history w past) packet.bytes) → B w → B (sent_to to from packet w)
  leaves_to None from packet w f h = h
  leaves_to (Some to) from packet w f h = waits_on (w.store.last + 1) to from packet.to packet.label (posted from to false packet.bytes w) (posts from to packet.bytes w f h)

  all_leave : (from : ℕ) (packets : List Outgoing) (w : WorldState) → (from ≡ 0 → NoConflicts packets) → B w → B (sent_all from packets w)
  unfolding sent_all sent
  all_leave from [] w f h = h
  all_leave from (packet ∷ later) w f h =
      all_leave from later (sent from packet w) (λ e. (f e).1) (leaves_to (node_of w.generations from packet.to) from packet w (λ e. free_found start (history w past) packet.bytes (f e).0) h)

  hands : (from weight : ℕ) (outbox : OutboxState) (w : WorldState) → AllByRecursion (IsFine is_plain) outbox.sides → (from ≡ 0 → NoConflicts outbox.packets) → B w → B (handed_out from weight outbox w)
  hands from weight outbox w f g h = all_leave from outbox.packets (told_all weight outbox.sides w) g (all_sides weight outbox.sides w f h)

  pub target_hands : (weight : ℕ) (outbox : OutboxState) (w : WorldState) → AreOthers outbox.sides → NoConflicts outbox.packets → B w → B (handed_out 0 weight outbox w)
  target_hands weight outbox w f g h = hands 0 weight outbox w (others_fine is_plain outbox.sides f) (λ e. g) h

  pub own_hands : (i weight : ℕ) (outbox : OutboxState) (w : WorldState) → AreTame outbox.sides → B w → B (handed_out (suc i) weight outbox w)
  own_hands i weight outbox w f h = hands (suc i) weight outbox w (tame_fine is_plain tame_plain outbox.sides f) (λ e. absurd (omega (arith, e))) h

  -- the first packet is as it is found behind what is told
  first_leaves : (first : Outgoing) (more : List Outgoing) (w : WorldState) → IsFound start (history w past) first.bytes → NoConflicts more → B w → B (sent_all 0 (first ∷ more) w)
  unfolding sent_all sent
  first_leaves first more w f g h = all_leave 0 more (sent 0 first w) (λ e. g) (leaves_to (node_of w.generations 0 first.to) 0 first w (λ e. f) h)

  pub first_hands : (outbox : OutboxState) (w : WorldState) → AreOthers outbox.sides → (x : First outbox.packets) → IsFound start (history (told_all 0 outbox.sides w) past) x.first.bytes → B w → B (handed_out 0 0 outbox w)
  first_hands outbox w f x g h =
      let u = told_all 0 outbox.sides w in
      subst (λ ps. B (sent_all 0 ps u)) (sym x.packets_are) (first_leaves x.first x.more u g x.others (all_sides 0 outbox.sides w (others_fine is_plain outbox.sides f) h))

  pub notes_on : (note : Note) (w : WorldState) → is_plain note ≡ true → B w → B (with_note note w)
  notes_on note w e h = plain_on start note (history w past) e h

  -- ---- an initiator acts

  acts_by : (w : WorldState) (line i : ℕ) (action : Action) (r : Option ℕ × Turn) → (r.0 ≡ None → AreTame r.1.0.sides) → B w → B (acted_by r line i action w)
  acts_by w line i action (Some number, turn) f h = notes_on (notes.Refused line number) w refl h
  acts_by w line i action (None, turn) f h =
      subst (λ n. B (handed_out n (weight_in action) turn.0 (with_initiator i turn.1 w))) (let e : suc i ≡ i + 1 = omega arith in e)
      (own_hands i (weight_in action) turn.0 (with_initiator i turn.1 w) (f refl) h)

  pub acts : (w : WorldState) (line i : ℕ) (action : Action) → B w → B (acted line i action w)
  unfolding acted
  acts w line i action h = acts_by w line i action (act_step action empty_outbox (initiator_at w i)) (λ e. (act_left action (initiator_at w i) e).told) h

  -- ---- a transaction times out

  lapses_own : (w : WorldState) (line serial i j : ℕ) (r : Bool × Turn) → AreTame r.1.0.sides → B w → B (timed_out line serial (suc i) (at_initiator j r w))
  lapses_own w line serial i j (true, turn) f h = own_hands i 0 turn.0 (with_note (notes.TimedOut serial) (with_initiator j turn.1 w)) f (notes_on (notes.TimedOut serial) w refl h)
  lapses_own w line serial i j (false, turn) f h = notes_on (notes.Refused line no_packet) w refl h

  own_if : (w : WorldState) (line serial i j : ℕ) (request : Request) (b : Bool) → B w → B (timed_out line serial (suc i) (if b then at_initiator j (expire_step request.label empty_outbox (initiator_at w j)) w else (false, (empty_outbox, w))))
  own_if w line serial i j request true h = lapses_own w line serial i j (expire_step request.label empty_outbox (initiator_at w j)) (expire_left request.label (initiator_at w j)).told h
  own_if w line serial i j request false h = notes_on (notes.Refused line no_packet) w refl h

  target_lapses : (w : WorldState) (line serial : ℕ) (r : Result (Unit {0}) Stale × target.Scene) → AreOthers r.1.outbox.sides → NoConflicts r.1.outbox.packets → B w → B (timed_out line serial 0 (packets.at_target (target_left r w.target) w))
  target_lapses w line serial (Ok done, x) f g h = target_hands 0 x.outbox (with_note (notes.TimedOut serial) (with_target x.node w)) f g (notes_on (notes.TimedOut serial) w refl h)
  target_lapses w line serial (Err stale, x) f g h = notes_on (notes.Refused line no_packet) w refl h

  lapses_by : (w : WorldState) (line serial : ℕ) (request : Request) (b : Bool) → (request.node == 0) ≡ b → B w → B (timed_out line serial request.node (if b then packets.at_target (target_expired request w.target) w else initiator_expires request w))
  unfolding target_expired
  lapses_by w line serial request true e h =
      let node : request.node ≡ 0 = grind (arith, nat_tests) in
      let x = scene w.target empty_outbox in
      subst (λ n. B (timed_out line serial n (packets.at_target (target_expired request w.target) w))) (sym node)
      (target_lapses w line serial (expired request.peer request.label x) (target_tell.expires request.peer request.label x tt) (lapse_free request.peer request.label w.target) h)
  lapses_by w line serial request false e h =
      let i = request.node - 1 in
      let node : request.node ≡ suc i = grind (arith, nat_tests) in
      subst (λ n. B (timed_out line serial n (initiator_expires request w))) (sym node) (own_if w line serial i (request.node - 1) request (nat_lt (request.node - 1) (length w.initiators)) h)

  timeout_by : (w : WorldState) (line serial : ℕ) (request : Option Request) → B w → B (timeout_of request line serial w)
  unfolding expires
  timeout_by w line serial None h = notes_on (notes.Refused line no_packet) w refl h
  timeout_by w line serial (Some request) h = lapses_by w line serial request (request.node == 0) refl h

  pub times_out : (w : WorldState) (line serial : ℕ) → B w → B (timeout_line line serial w)
  unfolding timeout_line
  times_out w line serial h = timeout_by w line serial (find w.requests serial) h

  -- ---- a second passes, a reset is seen

  pub seconds : (w : WorldState) → (terms (history w past)).owes ≡ None → B w → B (tick_line w)
  unfolding tick_line target_ticks
  seconds w quiet h = target_hands 0 (target_ticks w.target).0 (with_target (target_ticks w.target).1 (with_note notes.Tick w)) (second_tells w.target) (second_free w.target) (quiet, h)

  target_sees : (w : WorldState) → B w → B (handed_all 0 (target_learns w))
  unfolding nodes.target_sees
  target_sees w h =
      let r = nodes.target_sees w.generations.latest.generation (id_of w.generations.latest 0) w.target in
      target_hands 0 r.0 (with_target r.1 w) (sight_tells _ _ w.target) (sight_free _ _ w.target) h

  sees_at : (w : WorldState) (node at : ℕ) (b : Bool) → (b ≡ true → node ≡ 0) → (b ≡ false → (i : ℕ) × (node ≡ suc i)) → B w → B (handed_all node (cond b (target_learns w) (initiator_learns at w)))
  sees_at w node at true none some h = subst (λ n. B (handed_all n (target_learns w))) (sym (none refl)) (target_sees w h)
  sees_at w node at false none some h =
      let k = some refl in
      let old = initiator_at w (at - 1) in
      subst (λ n. B (handed_all n (initiator_learns at w))) (sym k.1)
      (own_hands k.0 0 (see_step w.generations.latest.generation (id_of w.generations.latest at) (id_of w.generations.latest 0) empty_outbox old).0 _ (see_left w.generations.latest.generation (id_of w.generations.latest at) (id_of w.generations.latest 0) old).told h)

  pub sights : (w : WorldState) (node : ℕ) → B w → B (see_line node w)
  unfolding see_line sees
  sights w node h =
      let seen = with_seen node (told_seen node w) in
      sees_at seen node node (node == 0) (λ e. grind (arith, nat_tests)) (λ e. (node - 1, (let g : node ≡ suc (node - 1) = grind (arith, nat_tests) in g))) (notes_on (notes.Seen node w.generations.latest.generation) w refl h)
