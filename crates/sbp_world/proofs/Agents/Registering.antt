-- After each line of a world, and behind each delivery of one, the terms have the target's registers enabled.
use Rattle.sbp_world.proofs.Words.Std.{arith, ◌≡◌, ◌∙◌, refl, sym, ap, subst, ℕ, zero, suc, ◌+◌, ◌-◌, ◌^◌, ◌<◌, ◌≤◌, not, nat_eq, nat_lt, Bool, true, false, cond, List, [], ◌∷◌, ◌++◌, length, map, Option, Some, None, Result, Ok, Err, if◌then◌else◌, slice_index_or, slice_set, common_steps}
use Rattle.sbp_world.proofs.Words.Wire.{as_sending, Stale, Sent, found_sent, Request, id_of, end_note, judged_note, no_node, no_packet, find, Judged, Action, Event, Note, Side, OutboxState, empty_outbox, Moment, asked, said, terms}
use Rattle.sbp_world.proofs.Words.Target.{Disk, Told, alone, lets_expire, Desk, new_desk, NodeState, scene, expired, received, with_key}
use Rattle.sbp_world.proofs.Words.Initiator.{Expired, act_step, Turn, new_state, expire_step, receive_step, see_step}
use Rattle.sbp_world.proofs.Words.Laws.{Target, is_serial, known_at, over, laws_replied, reset_seen, target_at}
use Rattle.sbp_world.proofs.Words.World.{Arrival, arrived, at_target, delivered, delivered_by, initiator_received, initiators_received, marked, received_by, received_step, target_received, whole_of, with_initiators, handed_out, moments_behind, acted, acted_by, happens, keyed, no_unit, weight_in, new_world, ready_logins, handed_all, initiator_learns, reset_line, see_line, sees, target_learns, target_sees, target_ticks, tick_line, told_seen, with_seen, at_initiator, delivered_if, expires, first_told, initiator_expires, inject_line, injected, injected_to, is_in_flight, lose_line, lost, may_repeat, refused, target_expired, target_left, timed_out, timeout_line, timeout_of, AreEntries, Entry, Run, after, beginning, posted, after_all, delivered_at, delivered_next, is_settled, lowest, told, told_all, Scene, WorldState, begun, initiator_at, with_initiator, with_note, with_target, without_notes, AreLines, IsLine, AreTermsOf, EnabledTermsBetweenLaw, EnabledTermsLaw}
use Rattle.std.specs.Prelude.{replicate}
use Rattle.sbp_journal.specs.declared.cause.Judged.TheVariants as judgements
use Rattle.sbp_journal.specs.declared.event.Event.TheVariants as events
use Rattle.sbp_journal.specs.declared.note.Note.TheVariants as notes
use Rattle.sbp_journal.specs.declared.side.Side.TheVariants as sides
use Rattle.sbp_laws.specs.Packets as laws
use Rattle.sbp_target.specs.Nodes as target
use Rattle.sbp_world.specs.Packets as packets
use Rattle.sbp_world.proofs.Wire.Comes.{own_inside, own_outside, received_is, to_own, to_zero}
use Rattle.sbp_world.proofs.Wire.Nodes.{handed_alike, marked_alike}
use Rattle.sbp_world.proofs.Wire.ToldBytes.{happened_fits}
use Rattle.sbp_world.proofs.Wire.CommandBytes.{AreTold}
use Rattle.sbp_world.proofs.Agents.Management.Firsts.{got_there}
use Rattle.sbp_world.proofs.Agents.Management.Holding.{Holding, marked_hist, was_sent}
use Rattle.sbp_world.proofs.InitiatorForms as own
use Rattle.sbp_world.proofs.Agents.Management.Lines.{all_heard, line_holds, opens}
use Rattle.sbp_world.proofs.Formed.{AreOwn, IsNoRun, IsOwn}
use Rattle.sbp_world.proofs.Agents.Management.Runs.{holds_after, no_repeats, not_reset}
use Rattle.sbp_world.proofs.Agents.Management.Still.{hist}
use Rattle.sbp_world.proofs.Agents.Agreeing.{delivery_agrees, lapse_agrees, second_agrees, sight_agrees}
use Rattle.sbp_world.proofs.Agents.Disabling.{IsStill, all_still, enabled_in, injected_still, note_still, one_note, over_same, reply_keeps, wire_in}
use Rattle.sbp_world.proofs.Agents.Heeding.{same_registers}
use Rattle.sbp_world.proofs.Agents.Holders.{seats_after}
use Rattle.sbp_world.proofs.Agents.Seats.{Seats}
use Rattle.sbp_world.proofs.Agents.Seating.{all_seats, opened as seats_opened}
use Rattle.sbp_world.proofs.Hosts.Runs.{are_told}

-- ---- a note of an initiator says nothing of registers
own_still : (note : Note) → IsNoRun note → IsStill note
own_still (notes.Got serial) h = absurd h
own_still (notes.TimedOut serial) h = absurd h
own_still (notes.Seen node generation) h = absurd h
own_still (notes.Left id) h = absurd h
own_still (notes.Expired id) h = absurd h
own_still (notes.Unsolicited i) h = absurd h
own_still note h = tt

module _ (start : List Disk) where
  abbrev Agree : List Moment → WorldState → Type 0
  Agree past w = AreTermsOf (enabled_in start past w) w.target

  carries : (past later : List Moment) (w v : WorldState) → enabled_in start later v ≡ enabled_in start past w → v.target ≡ w.target → Agree past w → Agree later v
  carries past later w v e f a = record {
    size = ap length e ∙ a.size;
    each = λ place small. ap (λ xs. slice_index_or xs place false) e ∙ a.each place small ∙ sym (ap (λ (n : NodeState). (target.desk_at n place).is_enabled) f);
  }

  noted : (past : List Moment) (w : WorldState) (note : Note) → IsStill note → Agree past w → Agree past (with_note note w)
  noted past w note s a = carries past past w (with_note note w) (one_note start past note w s) refl a

  -- ---- what initiators tell
  own_told : (past : List Moment) (weight : ℕ) (side : Side) (w : WorldState) → IsOwn side → enabled_in start past (told weight side w) ≡ enabled_in start past w
  unfolding told
  own_told past weight (sides.Own note) w h = note_still note (map said w.fresh ++ past) (wire_in start past w) (target_at start (map said w.fresh ++ past)) (own_still note h.1)
  own_told past weight (sides.Opened place orb) w h = absurd h
  own_told past weight (sides.Ran place orb cdb payload outcome) w h = absurd h
  own_told past weight (sides.Ended place orb status) w h = absurd h
  own_told past weight (sides.Dead place cause) w h = absurd h
  own_told past weight (sides.Cut place cause) w h = absurd h
  own_told past weight (sides.Managed node function subject status login) w h = absurd h
  own_told past weight (sides.ManageFailed node cause) w h = absurd h
  own_told past weight (sides.Held login) w h = absurd h
  own_told past weight (sides.Expired login) w h = absurd h
  own_told past weight (sides.Back login) w h = absurd h
  own_told past weight (sides.Left login) w h = absurd h
  own_told past weight (sides.Cleared unit) w h = absurd h
  own_told past weight (sides.Unsolicited place) w h = absurd h
  own_told past weight (sides.Unsent place) w h = absurd h

  all_own_told : (past : List Moment) (weight : ℕ) (later : List Side) (w : WorldState) → AreOwn later → enabled_in start past (told_all weight later w) ≡ enabled_in start past w
  unfolding told_all
  all_own_told past weight [] w h = refl
  all_own_told past weight (side ∷ later) w h = all_own_told past weight later (told weight side w) h.1 ∙ own_told past weight side w h.0

  own_hands : (past : List Moment) (node weight : ℕ) (outbox : OutboxState) (w v : WorldState) → AreOwn outbox.sides → enabled_in start past v ≡ enabled_in start past w → v.target ≡ w.target → Agree past w → Agree past (handed_out node weight outbox v)
  own_hands past node weight outbox w v h e f a =
      carries past past w (handed_out node weight outbox v)
      ((all_still start past node outbox.packets (told_all weight outbox.sides v)).enabled ∙ all_own_told past weight outbox.sides v h ∙ e)
      ((handed_alike node weight outbox v).target ∙ f) a

  -- ---- first notes of turns that are not the target's
  module _ (ms : List Moment) where
    abbrev T : Target
    T = target_at start ms

    lapsed_by : (b : Bool) (serial : ℕ) → (cond b (laws_replied serial Expired (over T)) (over T)).enabled ≡ T.enabled
    lapsed_by true serial = (reply_keeps serial Expired (over T)).enabled ∙ (over_same T).enabled
    lapsed_by false serial = (over_same T).enabled

    lapsed_enabled : (serial : ℕ) → (target_at start (said (notes.TimedOut serial) ∷ ms)).enabled ≡ T.enabled
    lapsed_enabled serial = lapsed_by (is_serial (laws.sender_in ((known_at start ms).wire.sent serial)) 0) serial

    seen_by : (node generation : ℕ) (b : Bool) → nat_eq node 0 ≡ b → b ≡ false → (target_at start (said (notes.Seen node generation) ∷ ms)).enabled ≡ T.enabled
    seen_by node generation true e f = absurd (let z : true ≡ false = f in cc)
    seen_by node generation false e f =
        ap (λ b. (cond b (reset_seen (not (nat_eq generation ((known_at start ms).wire.generation 0))) (over T)) (over T)).enabled) e ∙ (over_same T).enabled

  -- ---- an initiator acts
  acts_by : (past : List Moment) (w : WorldState) (line i : ℕ) (action : Action) (r : Option ℕ × Turn) → own.At r.1 → Agree past w → Agree past (acted_by r line i action w)
  acts_by past w line i action (Some number, turn) tells a = noted past w (notes.Refused line number) tt a
  acts_by past w line i action (None, turn) tells a = own_hands past (i + 1) (weight_in action) turn.0 w (with_initiator i turn.1 w) tells refl refl a

  acts : (past : List Moment) (w : WorldState) (line i : ℕ) (action : Action) → Agree past w → Agree past (acted line i action w)
  unfolding acted
  acts past w line i action a = acts_by past w line i action (act_step action empty_outbox (initiator_at w i)) (own.acts action empty_outbox (initiator_at w i) tt) a

  -- ---- a packet is lost, or injected
  loses : (past : List Moment) (w : WorldState) (line serial : ℕ) → Agree past w → Agree past (lose_line line serial w)
  unfolding lose_line
  loses past w line serial a = by (is_in_flight serial w)
    where
      by : (b : Bool) → Agree past (cond b (lost serial w) (refused line no_packet w))
      by true = let n = noted past w (notes.Lost serial) tt a in record { size = n.size; each = n.each }
      by false = noted past w (notes.Refused line no_packet) tt a

  injects_to : (past : List Moment) (w : WorldState) (line from : ℕ) (bytes : List ℕ) (to : Option ℕ) → Agree past w → Agree past (injected to line from bytes w)
  unfolding posted
  injects_to past w line from bytes None a = noted past w (notes.Refused line no_node) tt a
  injects_to past w line from bytes (Some to) a = carries past past w (posted from to true bytes w) (injected_still start past from to bytes w) refl a

  injects : (past : List Moment) (w : WorldState) (line i : ℕ) (bytes : List ℕ) → Agree past w → Agree past (inject_line line i bytes w)
  unfolding inject_line
  injects past w line i bytes a = injects_to past w line (i + 1) bytes (injected_to (i + 1) bytes w) a

  -- ---- an initiator sees a generation
  sees_own : (past : List Moment) (w : WorldState) (i : ℕ) → Agree past w → Agree past (see_line (suc i) w)
  unfolding see_line sees
  sees_own past w i a = by (nat_eq (suc i) 0) (let e : nat_eq (suc i) 0 ≡ false = grind arith in e)
    where
      told_world : WorldState
      told_world = with_seen (suc i) (told_seen (suc i) w)

      by : (b : Bool) → b ≡ false → Agree past (handed_all (suc i) (if b then target_learns told_world else initiator_learns (suc i) told_world))
      by true e = absurd (let x : true ≡ false = e in cc)
      by false e =
          let turn : Turn = see_step told_world.generations.latest.generation (id_of told_world.generations.latest (suc i)) (id_of told_world.generations.latest 0) empty_outbox (initiator_at told_world (suc i - 1)) in
          own_hands past (suc i) 0 turn.0 w (with_initiator (suc i - 1) turn.1 told_world)
          (own.sees told_world.generations.latest.generation (id_of told_world.generations.latest (suc i)) (id_of told_world.generations.latest 0) empty_outbox (initiator_at told_world (suc i - 1)) tt)
          (seen_by (hist past w) (suc i) w.generations.latest.generation (nat_eq (suc i) 0) refl (let z : nat_eq (suc i) 0 ≡ false = grind arith in z)) refl a

module _ (units ready : ℕ) (has : 0 < units) (start : List Disk) where
  -- ---- a transaction times out
  module _ {past : List Moment} {lines : ℕ} (w : WorldState) (h : Holding units ready start past lines w) (seats : Seats w) (a : Agree start past w) (line serial : ℕ) where
    abbrev Ends : WorldState → Type 0
    Ends now = (more : ℕ) → Holding units ready start past more now → Agree start past now

    refused_ends : Ends (refused line no_packet w)
    refused_ends more later = noted start past w (notes.Refused line no_packet) tt a

    lapses_own : (request : Request) (i j : ℕ) → request.node ≡ suc i → (r : Bool × Turn) → own.At r.1 → Ends (timed_out line serial request.node (at_initiator j r w))
    lapses_own request i j e (true, turn) tells more later =
        let v = with_note (notes.TimedOut serial) (with_initiator j turn.1 w) in
        own_hands start past request.node 0 turn.0 w v tells (lapsed_enabled start (hist past w) serial) refl a
    lapses_own request i j e (false, turn) tells more later = noted start past w (notes.Refused line no_packet) tt a

    own_if : (request : Request) (i j : ℕ) → request.node ≡ suc i → (b : Bool) → Ends (timed_out line serial request.node (if b then at_initiator j (expire_step request.label empty_outbox (initiator_at w j)) w else (false, (empty_outbox, w))))
    own_if request i j e true = lapses_own request i j e (expire_step request.label empty_outbox (initiator_at w j)) (own.expires request.label empty_outbox (initiator_at w j) tt)
    own_if request i j e false = refused_ends

    lapses_target : (request : Request) → request.node ≡ 0 → (r : Result (Unit {0}) Stale × target.Scene) → expired request.peer request.label (scene w.target empty_outbox) ≡ r → Ends (timed_out line serial request.node (packets.at_target (target_left r w.target) w))
    lapses_target request z (Err stale, x) e more later = refused_ends more later
    lapses_target request z (Ok done, x) e more later =
        let same : alone (lets_expire request.peer request.label) w.target ≡ x = ap (λ (y : Result (Unit {0}) Stale × target.Scene). y.1) e in
        let now_is : handed_out request.node 0 x.outbox (with_note (notes.TimedOut serial) (with_target x.node w)) ≡ handed_out 0 0 x.outbox (with_note (notes.TimedOut serial) (with_target x.node w)) =
        ap (λ n. handed_out n 0 x.outbox (with_note (notes.TimedOut serial) (with_target x.node w))) z in
        let turned = subst (λ (y : target.Scene). (many : ℕ) → (let now = handed_out 0 0 y.outbox (with_note (notes.TimedOut serial) (with_target y.node w)) in Holding units ready start past many now → AreTermsOf (enabled_in start past now) now.target)) same
        (lapse_agrees units ready has start w h seats a serial request.peer request.label) in
        subst (Agree start past) (sym now_is) (turned more (subst (Holding units ready start past more) now_is later))

    lapses_at : (request : Request) (node : ℕ) → request.node ≡ node → Ends (timed_out line serial request.node (expires request w))
    unfolding expires target_expired
    lapses_at request zero e =
        let is_zero : nat_eq request.node 0 ≡ true = grind arith in
        subst (λ b. Ends (timed_out line serial request.node (if b then packets.at_target (target_expired request w.target) w else initiator_expires request w))) (sym is_zero)
        (lapses_target request e (expired request.peer request.label (scene w.target empty_outbox)) refl)
    lapses_at request (suc i) e =
        let other : nat_eq request.node 0 ≡ false = grind arith in
        subst (λ b. Ends (timed_out line serial request.node (if b then packets.at_target (target_expired request w.target) w else initiator_expires request w))) (sym other)
        (own_if request i (request.node - 1) e (nat_lt (request.node - 1) (length w.initiators)))

    times_out_by : (so : Option Request) → Ends (timeout_of so line serial w)
    times_out_by None = refused_ends
    times_out_by (Some request) = lapses_at request request.node refl

    times_out : Ends (timeout_line line serial w)
    unfolding timeout_line
    times_out = times_out_by (find w.requests serial)

  -- ---- a packet is delivered
  module _ {past : List Moment} {lines : ℕ} (s : Scene) (h : Holding units ready start past lines s.world) (seats : Seats s.world) (a : Agree start past s.world) (serial : ℕ) (again : Bool) (run : Option Told) where
    abbrev After : Type 0
    After = (more : ℕ) → Holding units ready start past more (delivered serial again run s).world → Agree start past (delivered serial again run s).world

    module _ (sent : Sent) (found : found_sent serial s.world.store.kept ≡ Some sent) where
      heard_target : sent.to ≡ 0 → After
      unfolding delivered target_received arrived
      heard_target zero_to more later =
          let w = s.world in
          let r = received run sent.generation sent.bytes (whole_of w.target s.media) in
          let last_is : (delivered serial again run s).world ≡ handed_out 0 0 r.1.outbox (with_note (judged_note serial r.0) (marked serial again (with_target r.1.node w))) =
          ap (λ (x : Option Arrival × (OutboxState × Scene)). (delivered_by serial again x).world)
          (received_is run serial s sent found ∙ ap (λ b. cond b (at_target sent.to (target_received run sent w.target s.media) s) (initiator_received sent s)) (to_zero sent.to zero_to))
          ∙ ap (λ n. handed_out n 0 r.1.outbox (with_note (judged_note serial r.0) (marked serial again (with_target r.1.node w)))) zero_to in
          subst (Agree start past) (sym last_is)
          (delivery_agrees units ready has start w h seats a serial again sent found zero_to run s.media more (subst (Holding units ready start past more) last_is later))

      own_first : nat_eq sent.to 0 ≡ false → (judged : Judged) (v : WorldState) → hist past v ≡ hist past s.world → enabled_in start past (with_note (judged_note serial judged) v) ≡ enabled_in start past s.world
      own_first e judgements.Got v same =
          let ms = hist past s.world in
          ap (λ xs. (target_at start (said (notes.Got serial) ∷ xs)).enabled) same
          ∙ ap (λ (x : Target). x.enabled) (got_there start ms serial (as_sending sent) (was_sent s.world h.sound.stands serial sent found) e)
          ∙ (over_same (target_at start ms)).enabled
      own_first e (judgements.Ignored cause) v same =
          ap (λ xs. (target_at start (said (notes.Ignored serial cause) ∷ xs)).enabled) same ∙ (over_same (target_at start (hist past s.world))).enabled

      heard_own : (i : ℕ) → sent.to ≡ suc i → i < length s.world.initiators → After
      unfolding delivered initiators_received arrived
      heard_own i to_is inside more later =
          let w = s.world in
          let r = receive_step sent.generation sent.bytes empty_outbox (slice_index_or w.initiators i (new_state 0 false)) in
          let states = slice_set w.initiators i r.1.1 in
          let v = with_note (judged_note serial r.0) (marked serial again (with_initiators states w)) in
          let last_is : (delivered serial again run s).world ≡ handed_out sent.to 0 r.1.0 v =
          ap (λ (x : Option Arrival × (OutboxState × Scene)). (delivered_by serial again x).world) (to_own run serial i s sent found to_is ∙ own_inside sent i s inside) in
          subst (Agree start past) (sym last_is)
          (own_hands start past sent.to 0 r.1.0 w v (own.receives sent.generation sent.bytes empty_outbox (slice_index_or w.initiators i (new_state 0 false)) tt)
          (own_first (let z : nat_eq sent.to 0 ≡ false = grind arith in z) r.0 (marked serial again (with_initiators states w)) (marked_hist past serial again (with_initiators states w)))
          (marked_alike (with_initiators states w) serial again).target a)

      heard_none : (i : ℕ) → sent.to ≡ suc i → length s.world.initiators ≤ i → After
      unfolding delivered
      heard_none i to_is outside more later =
          subst (Agree start past) (sym (ap (λ (x : Option Arrival × (OutboxState × Scene)). (delivered_by serial again x).world) (to_own run serial i s sent found to_is ∙ own_outside sent i s outside))) a

      heard_at : (to : ℕ) → sent.to ≡ to → After
      heard_at zero e = heard_target e
      heard_at (suc i) e = by (nat_lt i (length s.world.initiators)) refl
        where
          by : (b : Bool) → nat_lt i (length s.world.initiators) ≡ b → After
          by true f = heard_own i e (grind arith)
          by false f = heard_none i e (grind arith)

    heard_by : (so : Option Sent) → found_sent serial s.world.store.kept ≡ so → After
    unfolding delivered received_step
    heard_by None e = λ more later. subst (Agree start past) (sym (ap (λ o. (delivered_by serial again (received_by run o s)).world) e)) a
    heard_by (Some sent) e = heard_at sent e sent.to refl

    heard : After
    heard = heard_by (found_sent serial s.world.store.kept) refl

  delivers_if : {past : List Moment} {lines more : ℕ} (b : Bool) (line serial : ℕ) (again : Bool) (told : List (Option Told)) (s : Scene) → Holding units ready start past lines s.world → Seats s.world → Agree start past s.world → Holding units ready start past more (delivered_if b line serial again told s).world → Agree start past (delivered_if b line serial again told s).world
  delivers_if {past} {lines} {more} true line serial again told s h q a later = heard s h q a serial again (first_told told) more later
  delivers_if {past} false line serial again told s h q a later = noted start past s.world (notes.Refused line no_packet) tt a

  next_heard : {past : List Moment} {lines more : ℕ} (told : Option Told) (s : Scene) → Holding units ready start past lines s.world → Seats s.world → Agree start past s.world → (o : Option ℕ) → Holding units ready start past more (delivered_at o told s).world → Agree start past (delivered_at o told s).world
  next_heard told s h q a None later = a
  next_heard {past} {lines} {more} told s h q a (Some serial) later = heard s h q a serial false told more later

  pub all_agree : {past : List Moment} {lines : ℕ} (told : List (Option Told)) → AreTold told → (s : Scene) → Holding units ready start past lines s.world → Seats s.world → Agree start past s.world → (terms past).repeats ≡ false → Agree start past (after_all told s).world
  unfolding delivered_next
  all_agree [] t s h q a r = a
  all_agree (told ∷ before) t s h q a r =
      let b = after_all before s in
      next_heard told b (all_heard units ready has start before t.1 s h r) (all_seats units ready has start before t.1 s h q r) (all_agree before t.1 s h q a r) (lowest b.world)
      (all_heard units ready has start (told ∷ before) t s h r)

  ends : (past : List Moment) (w : WorldState) (b : Bool) → Agree start past w → Agree start past (with_note (end_note b) w)
  ends past w true a = noted start past w notes.Settled tt a
  ends past w false a = noted start past w notes.Stopped tt a

  -- ---- a line
  pub opened : (past : List Moment) (line : ℕ) (event : Event) (w : WorldState) → Agree start past w → Agree start (asked line event ∷ hist past w) (without_notes w)
  opened past line event w a = carries start past (asked line event ∷ hist past w) w (without_notes w) (over_same (target_at start (hist past w))).enabled refl a

  keys : (past : List Moment) (w : WorldState) (line unit : ℕ) (key : List ℕ) → Agree start past w → Agree start past (keyed line unit key w)
  unfolding keyed
  keys past w line unit key a = by (nat_lt unit (length w.target.units))
    where
      by : (b : Bool) → Agree start past (cond b (with_note (notes.Key unit) (with_target (with_key unit key w.target) w)) (refused line no_unit w))
      by true =
          let n = noted start past w (notes.Key unit) tt a in
          record { size = n.size; each = λ place small. n.each place small ∙ sym ((same_registers w.target (with_key unit key w.target) refl).each place) }
      by false = noted start past w (notes.Refused line no_unit) tt a

  sights : {past : List Moment} {lines : ℕ} (w : WorldState) (node : ℕ) → Holding units ready start past lines w → Seats w → Agree start past w → Agree start past (see_line node w)
  unfolding see_line sees target_sees
  sights w zero h q a = sight_agrees units ready has start w h q a
  sights {past} w (suc i) h q a = sees_own start past w i a

  seconds : {past : List Moment} {lines more : ℕ} (w : WorldState) → Holding units ready start past lines w → Seats w → Agree start past w → Holding units ready start past more (tick_line w) → Agree start past (tick_line w)
  unfolding tick_line target_ticks
  seconds {past} {lines} {more} w h q a later = second_agrees units ready has start w h q a more later

  pub line_agrees : {past : List Moment} {lines more : ℕ} (line : ℕ) (event : Event) (told : List (Option Told)) (s : Scene) → IsLine event (length s.world.initiators) → AreTold told → Holding units ready start past lines s.world → Seats s.world → Agree start past s.world → Holding units ready start (asked line event ∷ hist past s.world) more (happens line event told s).world → Agree start (asked line event ∷ hist past s.world) (happens line event told s).world
  unfolding happens reset_line
  line_agrees line (events.Begin initiators is_ready) told s l t h q a later = absurd l
  line_agrees {past} line (events.Act initiator action) told s l t h q a later =
      let e = events.Act initiator action in acts start (asked line e ∷ hist past s.world) (without_notes s.world) line initiator action (opened past line e s.world a)
  line_agrees {past} line (events.Reset physical) told s l t h q a later =
      let e = events.Reset physical in
      let n = noted start (asked line e ∷ hist past s.world) (without_notes s.world) (notes.Reset (s.world.generations.latest.generation + 1)) tt (opened past line e s.world a) in
      record { size = n.size; each = n.each }
  line_agrees {past} line (events.See node) told s l t h q a later =
      let e = events.See node in
      sights (without_notes s.world) node (opens units ready has start line e s.world refl h) (seats_opened units ready has start s.world q) (opened past line e s.world a)
  line_agrees {past} line (events.Deliver serial) told s l t h q a later =
      let e = events.Deliver serial in
      delivers_if (is_in_flight serial (begun s).world) line serial false told (begun s) (opens units ready has start line e s.world refl h) (seats_opened units ready has start s.world q) (opened past line e s.world a) later
  line_agrees {past} line (events.Repeat serial) told s l t h q a later =
      let e = events.Repeat serial in
      delivers_if (may_repeat serial (begun s).world) line serial true told (begun s) (opens units ready has start line e s.world refl h) (seats_opened units ready has start s.world q) (opened past line e s.world a) later
  line_agrees {past} line (events.Lose serial) told s l t h q a later =
      let e = events.Lose serial in loses start (asked line e ∷ hist past s.world) (without_notes s.world) line serial (opened past line e s.world a)
  line_agrees {past} {lines} {more} line (events.Timeout serial) told s l t h q a later =
      let e = events.Timeout serial in
      times_out (without_notes s.world) (opens units ready has start line e s.world refl h) (seats_opened units ready has start s.world q) (opened past line e s.world a) line serial more later
  line_agrees {past} line (events.Step count) told s l t h q a later =
      let e = events.Step count in
      all_agree told t (begun s) (opens units ready has start line e s.world refl h) (seats_opened units ready has start s.world q) (opened past line e s.world a) refl
  line_agrees {past} line events.Settle told s l t h q a later =
      let e = events.Settle in
      ends (asked line e ∷ hist past s.world) (after_all told (begun s)).world (is_settled (after_all told (begun s)).world)
      (all_agree told t (begun s) (opens units ready has start line e s.world refl h) (seats_opened units ready has start s.world q) (opened past line e s.world a) refl)
  line_agrees {past} line events.Tick told s l t h q a later =
      let e = events.Tick in
      seconds (without_notes s.world) (opens units ready has start line e s.world refl h) (seats_opened units ready has start s.world q) (opened past line e s.world a) later
  line_agrees {past} line (events.Inject initiator bytes) told s l t h q a later =
      let e = events.Inject initiator bytes in injects start (asked line e ∷ hist past s.world) (without_notes s.world) line initiator bytes (opened past line e s.world a)
  line_agrees {past} line (events.Key unit key) told s l t h q a later =
      let e = events.Key unit key in keys (asked line e ∷ hist past s.world) (without_notes s.world) line unit key (opened past line e s.world a)

-- ---- runs
none_agree : (place : ℕ) → slice_index_or (replicate 8 false) place false ≡ (slice_index_or (replicate 8 new_desk) place new_desk).is_enabled
none_agree place =
    let a : slice_index_or (replicate 8 false) place false ≡ false = grind (arith, common_steps) in
    let b : slice_index_or (replicate 8 new_desk) place new_desk ≡ new_desk = grind (arith, common_steps) in
    a ∙ sym (ap (λ (d : Desk). d.is_enabled) b)

first_agrees : (line : ℕ) (run : Run) → AreTermsOf (target_at run.start.disks (moments_behind line run [])).enabled (beginning run).world.target
unfolding new_world
first_agrees line run = record { size = refl; each = λ place small. none_agree place }

agrees_after : (line : ℕ) (run : Run) (entries : List Entry) → run.initiators ≤ 4 → 0 < run.units → run.units ≤ 4 → length run.start.disks ≡ run.units → length entries + 2 < 2 ^ 32 → AreEntries (beginning run) entries → AreLines run entries → AreTermsOf (target_at run.start.disks (moments_behind line run entries)).enabled (after (beginning run) entries).world.target
agrees_after line run [] few has small size short all fit = first_agrees line run
agrees_after line run (e ∷ before) few has small size short all fit =
    let b = holds_after line run before few has small size (omega arith) all.1 fit.1 in
    let s = after (beginning run) before in
    let logins = ready_logins run.initiators run.ready in
    let told = happened_fits e.event e.told s all.0.may in
    let now = (happens e.line e.event e.told s).world in
    let was : AreTermsOf (enabled_in run.start.disks b.past s.world) s.world.target =
    subst (λ ms. AreTermsOf (target_at run.start.disks ms).enabled s.world.target) (sym b.is) (agrees_after line run before few has small size (omega arith) all.1 fit.1) in
    let later = line_holds run.units logins has run.start.disks e.line e.event e.told s fit.0 told (omega arith) b.holds in
    let agrees = line_agrees run.units logins has run.start.disks e.line e.event e.told s fit.0 told b.holds (seats_after line run before few has small size (omega arith) all.1 fit.1) was later in
    subst (λ ms. AreTermsOf (target_at run.start.disks ms).enabled now.target)
    (ap (λ ns. map said ns ++ asked e.line e.event ∷ hist b.past s.world) (sym all.0.notes_are) ∙ ap (λ ms. map said e.notes ++ asked e.line e.event ∷ ms) b.is) agrees

pub enabled_terms_law : EnabledTermsLaw
enabled_terms_law line run few has small size short all fit = agrees_after line run run.entries few has small size short all fit

pub enabled_terms_between_law : EnabledTermsBetweenLaw
enabled_terms_between_law line run few has small size short all fit next event d told may =
    let r = holds_after line run run.entries few has small size short all fit in
    let s = after (beginning run) run.entries in
    let logins = ready_logins run.initiators run.ready in
    let was : AreTermsOf (enabled_in run.start.disks r.past s.world) s.world.target =
    subst (λ ms. AreTermsOf (target_at run.start.disks ms).enabled s.world.target) (sym r.is) (agrees_after line run run.entries few has small size short all fit) in
    let begins = opens run.units logins has run.start.disks next event s.world (not_reset event d) r.holds in
    let repeats = no_repeats event (hist r.past s.world) next d in
    let seats = seats_opened run.units logins has run.start.disks s.world (seats_after line run run.entries few has small size short all fit) in
    let w = (after_all told (begun s)).world in
    subst (λ ms. AreTermsOf (target_at run.start.disks (map said w.fresh ++ asked next event ∷ ms)).enabled w.target) r.is
    (all_agree run.units logins has run.start.disks told (are_told told s may) (begun s) begins seats (opened run.units logins has run.start.disks r.past next event s.world was) repeats)
