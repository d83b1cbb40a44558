-- After each line of a world, and behind each delivery of one, who has a place is known.
use Rattle.sbp_world.proofs.Words.Std.{arith, ◌≡◌, ◌∙◌, refl, sym, ap, subst, ℕ, zero, suc, ◌+◌, ◌-◌, ◌<◌, ◌≤◌, nat_eq, nat_lt, Bool, true, false, cond, List, [], ◌∷◌, length, Option, Some, None, if◌then◌else◌, slice_index_or, slice_set, get_or-set_other}
use Rattle.sbp_world.proofs.Words.Wire.{Sent, found_sent, Request, GenerationsState, id_of, no_topology, end_note, judged_note, no_node, no_packet, find, Action, Event, OutboxState, empty_outbox, Moment, terms}
use Rattle.sbp_world.proofs.Words.Target.{Disk, Told, scene, expired, received}
use Rattle.sbp_world.proofs.Words.Initiator.{act_step, Turn, new_state, expire_step, receive_step, see_step}
use Rattle.sbp_world.proofs.Words.World.{Arrival, arrived, at_target, delivered, delivered_by, initiator_received, initiators_received, marked, received_by, received_step, target_received, whole_of, with_initiators, BytesTold, handed_out, acted, acted_by, happens, weight_in, handed_all, initiator_learns, reset_line, see_line, sees, target_learns, told_seen, with_seen, at_initiator, delivered_if, expires, first_told, initiator_expires, inject_line, injected, injected_to, is_in_flight, lose_line, lost, may_repeat, refused, target_expired, timed_out, timeout_line, timeout_of, posted, after_all, delivered_at, delivered_next, is_settled, lowest, Scene, WorldState, begun, initiator_at, with_initiator, with_note, with_target, without_notes, IsLine}
use Rattle.sbp_journal.specs.declared.event.Event.TheVariants as events
use Rattle.sbp_journal.specs.declared.note.Note.TheVariants as notes
use Rattle.sbp_world.specs.Packets as packets
use Rattle.sbp_world.proofs.Wire.Comes.{own_inside, own_outside, received_is, to_own, to_zero}
use Rattle.sbp_world.proofs.Wire.Nodes.{marked_alike}
use Rattle.sbp_world.proofs.Wire.CommandBytes.{AreTold}
use Rattle.sbp_world.proofs.Agents.Management.Holding.{Holding}
use Rattle.sbp_world.proofs.InitiatorForms as own
use Rattle.sbp_world.proofs.Agents.Management.Lines.{all_heard, opens}
use Rattle.sbp_world.proofs.Agents.Peers.{injects_on, lost_kept, marked_kept}
use Rattle.sbp_world.proofs.Agents.Seats.{Seats, delivery_seats, key_seats, lapse_seats, marked_same, own_hands, sight_seats, tick_seats}
use Rattle.sbp_world.proofs.Wire.Sound.{first_fits}

copied : (w : WorldState) (line number : ℕ) → Seats w → Seats (refused line number w)
copied w line number q = record { placed = q.placed; peers = q.peers; leaves = q.leaves }

module _ (units ready : ℕ) (has : 0 < units) (start : List Disk) where
  -- ---- an initiator acts
  acts_by : (w : WorldState) (line i : ℕ) (action : Action) (r : Option ℕ × Turn) → own.At r.1 → Seats w → Seats (acted_by r line i action w)
  acts_by w line i action (Some number, turn) tells q = record { placed = q.placed; peers = q.peers; leaves = q.leaves }
  acts_by w line i action (None, turn) tells q =
      subst (λ n. Seats (handed_out n (weight_in action) turn.0 (with_initiator i turn.1 w))) (let e : suc i ≡ i + 1 = omega arith in e)
      (own_hands i (weight_in action) turn.0 w (with_initiator i turn.1 w) tells refl refl refl q.leaves q)

  acts : (w : WorldState) (line i : ℕ) (action : Action) → Seats w → Seats (acted line i action w)
  unfolding acted
  acts w line i action q = acts_by w line i action (act_step action empty_outbox (initiator_at w i)) (own.acts action empty_outbox (initiator_at w i) tt) q

  -- ---- a packet is lost, or injected
  loses : (w : WorldState) (line serial : ℕ) → Seats w → Seats (lose_line line serial w)
  unfolding lose_line
  loses w line serial q = by (is_in_flight serial w)
    where
      by : (b : Bool) → Seats (cond b (lost serial w) (refused line no_packet w))
      by true = record { placed = q.placed; peers = q.peers; leaves = lost_kept serial w.store.kept q.leaves }
      by false = copied w line no_packet q

  injects_to : (w : WorldState) (line i : ℕ) (bytes : List ℕ) (to : Option ℕ) → Seats w → Seats (injected to line (i + 1) bytes w)
  unfolding posted
  injects_to w line i bytes None q = copied w line no_node q
  injects_to w line i bytes (Some to) q = record { placed = q.placed; peers = q.peers; leaves = injects_on (i + 1) to bytes w (λ e f. absurd (omega (arith, e))) q.leaves }

  injects : (w : WorldState) (line i : ℕ) (bytes : List ℕ) → Seats w → Seats (inject_line line i bytes w)
  unfolding inject_line
  injects w line i bytes q = injects_to w line i bytes (injected_to (i + 1) bytes w) q

  -- ---- an initiator sees a generation
  sees_own : (w : WorldState) (i : ℕ) → Seats w → Seats (see_line (suc i) w)
  unfolding see_line sees
  sees_own w i q = by (nat_eq (suc i) 0) (let e : nat_eq (suc i) 0 ≡ false = grind arith in e)
    where
      told_world : WorldState
      told_world = with_seen (suc i) (told_seen (suc i) w)

      by : (b : Bool) → b ≡ false → Seats (handed_all (suc i) (if b then target_learns told_world else initiator_learns (suc i) told_world))
      by true e = absurd (let x : true ≡ false = e in cc)
      by false e =
          let turn : Turn = see_step told_world.generations.latest.generation (id_of told_world.generations.latest (suc i)) (id_of told_world.generations.latest 0) empty_outbox (initiator_at told_world (suc i - 1)) in
          own_hands i 0 turn.0 w (with_initiator (suc i - 1) turn.1 told_world)
          (own.sees told_world.generations.latest.generation (id_of told_world.generations.latest (suc i)) (id_of told_world.generations.latest 0) empty_outbox (initiator_at told_world (suc i - 1)) tt)
          (get_or-set_other w.generations.seen (suc i) 0 w.generations.latest no_topology (λ z. absurd (let x : 0 ≡ suc i = z in omega (arith, x)))) refl refl q.leaves q

  -- ---- a transaction times out
  module _ {past : List Moment} {lines : ℕ} (w : WorldState) (h : Holding units ready start past lines w) (q : Seats w) (line serial : ℕ) where
    lapses_own : (request : Request) (i j : ℕ) → request.node ≡ suc i → (r : Bool × Turn) → own.At r.1 → Seats (timed_out line serial request.node (at_initiator j r w))
    lapses_own request i j e (true, turn) tells =
        subst (λ n. Seats (handed_out n 0 turn.0 (with_note (notes.TimedOut serial) (with_initiator j turn.1 w)))) (sym e)
        (own_hands i 0 turn.0 w (with_note (notes.TimedOut serial) (with_initiator j turn.1 w)) tells refl refl refl q.leaves q)
    lapses_own request i j e (false, turn) tells = record { placed = q.placed; peers = q.peers; leaves = q.leaves }

    own_if : (request : Request) (i j : ℕ) → request.node ≡ suc i → (b : Bool) → Seats (timed_out line serial request.node (if b then at_initiator j (expire_step request.label empty_outbox (initiator_at w j)) w else (false, (empty_outbox, w))))
    own_if request i j e true = lapses_own request i j e (expire_step request.label empty_outbox (initiator_at w j)) (own.expires request.label empty_outbox (initiator_at w j) tt)
    own_if request i j e false = record { placed = q.placed; peers = q.peers; leaves = q.leaves }

    lapses_at : (request : Request) (node : ℕ) → request.node ≡ node → Seats (timed_out line serial request.node (expires request w))
    unfolding expires target_expired
    lapses_at request zero e =
        let is_zero : nat_eq request.node 0 ≡ true = grind arith in
        subst (λ b. Seats (timed_out line serial request.node (if b then packets.at_target (target_expired request w.target) w else initiator_expires request w))) (sym is_zero)
        (lapse_seats units ready has start w h q request serial line (expired request.peer request.label (scene w.target empty_outbox)) refl e)
    lapses_at request (suc i) e =
        let other : nat_eq request.node 0 ≡ false = grind arith in
        subst (λ b. Seats (timed_out line serial request.node (if b then packets.at_target (target_expired request w.target) w else initiator_expires request w))) (sym other)
        (own_if request i (request.node - 1) e (nat_lt (request.node - 1) (length w.initiators)))

    times_out_by : (so : Option Request) → Seats (timeout_of so line serial w)
    times_out_by None = record { placed = q.placed; peers = q.peers; leaves = q.leaves }
    times_out_by (Some request) = lapses_at request request.node refl

    times_out : Seats (timeout_line line serial w)
    unfolding timeout_line
    times_out = times_out_by (find w.requests serial)

  -- ---- a packet is delivered
  module _ {past : List Moment} {lines : ℕ} (s : Scene) (h : Holding units ready start past lines s.world) (q : Seats s.world) (serial : ℕ) (again : Bool) (run : Option Told) (bytes : BytesTold run) where
    module _ (sent : Sent) (found : found_sent serial s.world.store.kept ≡ Some sent) where
      heard_target : sent.to ≡ 0 → Seats (delivered serial again run s).world
      unfolding delivered target_received arrived
      heard_target zero_to =
          let w = s.world in
          let r = received run sent.generation sent.bytes (whole_of w.target s.media) in
          let last_is : (delivered serial again run s).world ≡ handed_out 0 0 r.1.outbox (with_note (judged_note serial r.0) (marked serial again (with_target r.1.node w))) =
          ap (λ (x : Option Arrival × (OutboxState × Scene)). (delivered_by serial again x).world)
          (received_is run serial s sent found ∙ ap (λ b. cond b (at_target sent.to (target_received run sent w.target s.media) s) (initiator_received sent s)) (to_zero sent.to zero_to))
          ∙ ap (λ n. handed_out n 0 r.1.outbox (with_note (judged_note serial r.0) (marked serial again (with_target r.1.node w)))) zero_to in
          subst Seats (sym last_is) (delivery_seats units ready has start w h q serial sent found zero_to run bytes s refl again)

      heard_own : (i : ℕ) → sent.to ≡ suc i → i < length s.world.initiators → Seats (delivered serial again run s).world
      unfolding delivered initiators_received arrived
      heard_own i to_is inside =
          let w = s.world in
          let r = receive_step sent.generation sent.bytes empty_outbox (slice_index_or w.initiators i (new_state 0 false)) in
          let states = slice_set w.initiators i r.1.1 in
          let v = with_note (judged_note serial r.0) (marked serial again (with_initiators states w)) in
          let m = marked_alike (with_initiators states w) serial again in
          let last_is : (delivered serial again run s).world ≡ handed_out sent.to 0 r.1.0 v =
          ap (λ (x : Option Arrival × (OutboxState × Scene)). (delivered_by serial again x).world) (to_own run serial i s sent found to_is ∙ own_inside sent i s inside) in
          subst Seats (sym (last_is ∙ ap (λ n. handed_out n 0 r.1.0 v) to_is))
          (own_hands i 0 r.1.0 w v (own.receives sent.generation sent.bytes empty_outbox (slice_index_or w.initiators i (new_state 0 false)) tt)
          (ap (λ (x : GenerationsState). slice_index_or x.seen 0 no_topology) m.generations) m.target (marked_same serial again (with_initiators states w)) (marked_kept serial again (with_initiators states w) q.leaves) q)

      heard_none : (i : ℕ) → sent.to ≡ suc i → length s.world.initiators ≤ i → Seats (delivered serial again run s).world
      unfolding delivered
      heard_none i to_is outside =
          subst Seats (sym (ap (λ (x : Option Arrival × (OutboxState × Scene)). (delivered_by serial again x).world) (to_own run serial i s sent found to_is ∙ own_outside sent i s outside))) q

      heard_at : (to : ℕ) → sent.to ≡ to → Seats (delivered serial again run s).world
      heard_at zero e = heard_target e
      heard_at (suc i) e = by (nat_lt i (length s.world.initiators)) refl
        where
          by : (b : Bool) → nat_lt i (length s.world.initiators) ≡ b → Seats (delivered serial again run s).world
          by true f = heard_own i e (grind arith)
          by false f = heard_none i e (grind arith)

    heard_by : (so : Option Sent) → found_sent serial s.world.store.kept ≡ so → Seats (delivered serial again run s).world
    unfolding delivered received_step
    heard_by None e = subst Seats (sym (ap (λ o. (delivered_by serial again (received_by run o s)).world) e)) q
    heard_by (Some sent) e = heard_at sent e sent.to refl

    heard : Seats (delivered serial again run s).world
    heard = heard_by (found_sent serial s.world.store.kept) refl

  delivers_if : {past : List Moment} {lines : ℕ} (b : Bool) (line serial : ℕ) (again : Bool) (told : List (Option Told)) (s : Scene) → AreTold told → Holding units ready start past lines s.world → Seats s.world → Seats (delivered_if b line serial again told s).world
  delivers_if true line serial again told s t h q = heard s h q serial again (first_told told) (first_fits told t)
  delivers_if false line serial again told s t h q = copied s.world line no_packet q

  next_heard : {past : List Moment} {lines : ℕ} (told : Option Told) → BytesTold told → (s : Scene) → Holding units ready start past lines s.world → Seats s.world → (o : Option ℕ) → Seats (delivered_at o told s).world
  next_heard told t s h q None = q
  next_heard told t s h q (Some serial) = heard s h q serial false told t

  pub all_seats : {past : List Moment} {lines : ℕ} (told : List (Option Told)) → AreTold told → (s : Scene) → Holding units ready start past lines s.world → Seats s.world → (terms past).repeats ≡ false → Seats (after_all told s).world
  unfolding delivered_next
  all_seats [] t s h q r = q
  all_seats (told ∷ before) t s h q r =
      next_heard told t.0 (after_all before s) (all_heard units ready has start before t.1 s h r) (all_seats before t.1 s h q r) (lowest (after_all before s).world)

  ends : (w : WorldState) (b : Bool) → Seats w → Seats (with_note (end_note b) w)
  ends w b q = record { placed = q.placed; peers = q.peers; leaves = q.leaves }

  -- ---- a line
  pub opened : (w : WorldState) → Seats w → Seats (without_notes w)
  opened w q = record { placed = q.placed; peers = q.peers; leaves = q.leaves }

  sights : {past : List Moment} {lines : ℕ} (w : WorldState) (node : ℕ) → Holding units ready start past lines w → Seats w → Seats (see_line node w)
  sights w zero h q = sight_seats units ready has start w h q
  sights w (suc i) h q = sees_own w i q

  pub line_seats : {past : List Moment} {lines : ℕ} (line : ℕ) (event : Event) (told : List (Option Told)) (s : Scene) → IsLine event (length s.world.initiators) → AreTold told → Holding units ready start past lines s.world → Seats s.world → Seats (happens line event told s).world
  unfolding happens reset_line
  line_seats line (events.Begin initiators is_ready) told s l t h q = absurd l
  line_seats line (events.Act initiator action) told s l t h q = acts (without_notes s.world) line initiator action (opened s.world q)
  line_seats line (events.Reset physical) told s l t h q = record { placed = q.placed; peers = q.peers; leaves = q.leaves }
  line_seats line (events.See node) told s l t h q = sights (without_notes s.world) node (opens units ready has start line (events.See node) s.world refl h) (opened s.world q)
  line_seats line (events.Deliver serial) told s l t h q =
      delivers_if (is_in_flight serial (begun s).world) line serial false told (begun s) t (opens units ready has start line (events.Deliver serial) s.world refl h) (opened s.world q)
  line_seats line (events.Repeat serial) told s l t h q =
      delivers_if (may_repeat serial (begun s).world) line serial true told (begun s) t (opens units ready has start line (events.Repeat serial) s.world refl h) (opened s.world q)
  line_seats line (events.Lose serial) told s l t h q = loses (without_notes s.world) line serial (opened s.world q)
  line_seats line (events.Timeout serial) told s l t h q =
      times_out (without_notes s.world) (opens units ready has start line (events.Timeout serial) s.world refl h) (opened s.world q) line serial
  line_seats line (events.Step count) told s l t h q = all_seats told t (begun s) (opens units ready has start line (events.Step count) s.world refl h) (opened s.world q) refl
  line_seats line events.Settle told s l t h q =
      ends (after_all told (begun s)).world (is_settled (after_all told (begun s)).world)
      (all_seats told t (begun s) (opens units ready has start line events.Settle s.world refl h) (opened s.world q) refl)
  line_seats line events.Tick told s l t h q = tick_seats units ready has start (without_notes s.world) (opens units ready has start line events.Tick s.world refl h) (opened s.world q)
  line_seats line (events.Inject initiator bytes) told s l t h q = injects (without_notes s.world) line initiator bytes (opened s.world q)
  line_seats line (events.Key unit key) told s l t h q =
      key_seats units ready has start (without_notes s.world) (opens units ready has start line (events.Key unit key) s.world refl h) (opened s.world q) line unit key
