-- After each line of a world, and behind each delivery of one, the target knows caught up nodes alone, and live sessions are of generations that it has seen.
use Rattle.sbp_world.proofs.Words.Std.{arith, ◌≡◌, ◌∙◌, refl, sym, ap, subst, ℕ, zero, suc, ◌+◌, ◌-◌, ◌<◌, ◌≤◌, nat_eq, nat_lt, Bool, true, false, cond, List, [], ◌∷◌, length, Option, Some, None, if◌then◌else◌, slice_index_or, slice_set}
use Rattle.sbp_world.proofs.Words.Wire.{Sent, found_sent, Request, end_note, judged_note, no_node, no_packet, find, Action, Event, OutboxState, empty_outbox, Moment, terms}
use Rattle.sbp_world.proofs.Words.Target.{Disk, Told, scene, expired, received}
use Rattle.sbp_world.proofs.Words.Initiator.{act_step, is_in_live, session_of, Seat, Turn, new_state, expire_step, receive_step}
use Rattle.sbp_world.proofs.Words.World.{Arrival, arrived, at_target, delivered, delivered_by, initiator_received, initiators_received, marked, received_by, received_step, target_received, whole_of, with_initiators, BytesTold, handed_out, acted, acted_by, happens, weight_in, reset_line, see_line, at_initiator, delivered_if, expires, first_told, initiator_expires, inject_line, injected, injected_to, is_in_flight, lose_line, lost, may_repeat, refused, target_expired, timed_out, timeout_line, timeout_of, posted, after_all, delivered_at, delivered_next, is_settled, lowest, Scene, WorldState, begun, initiator_at, with_initiator, with_note, with_target, without_notes, IsLine}
use Rattle.sbp_world.proofs.Hosts.Acts.{goes_on}
use Rattle.sbp_session.specs.declared.seat.Seat.TheVariants as seats
use Rattle.sbp_journal.specs.declared.event.Event.TheVariants as events
use Rattle.sbp_journal.specs.declared.note.Note.TheVariants as notes
use Rattle.sbp_world.specs.Packets as packets
use Rattle.sbp_world.proofs.Wire.Comes.{own_inside, own_outside, received_is, to_own, to_zero}
use Rattle.sbp_world.proofs.Wire.CommandBytes.{AreTold}
use Rattle.sbp_world.proofs.Agents.Management.Holding.{Holding}
use Rattle.sbp_world.proofs.Agents.Management.Lines.{all_heard, opens}
use Rattle.sbp_world.proofs.Sessions.Caught.{Met, Seen, Sits, met_own, is_in, own_hands, sits_any, sits_plain, sits_relist}
use Rattle.sbp_world.proofs.Sessions.Sessions.{acts as session_acts, expires as session_expires}
use Rattle.sbp_world.proofs.Sessions.Turns.{delivery_met, key_met, lapse_met, own_delivery_met, own_sight_met, sight_met, tick_met}
use Rattle.sbp_world.proofs.Lists.Joins.{prepared}
use Rattle.sbp_world.proofs.Wire.Sound.{first_fits}

copied : (w : WorldState) (line number : ℕ) → Met w → Met (refused line number w)
copied w line number m = record { up = m.up; sits = m.sits }

-- an ORB is prepared in a live session alone
in_by : (seat : Seat) → is_in_live (session_of seat) ≡ true → is_in seat ≡ true
in_by (seats.Out out) e = e
in_by (seats.Entering entering) e = e
in_by (seats.Live live) e = refl
in_by (seats.Held response) e = e
in_by (seats.Returning response) e = e
in_by (seats.Leaving response) e = refl
in_by (seats.Stuck origin) e = e

module _ (units ready : ℕ) (has : 0 < units) (start : List Disk) where
  -- ---- an initiator acts
  acts_by : (w : WorldState) (line i : ℕ) (action : Action) (r : Option ℕ × Turn) → Sits (Seen w.generations i) r.1.1.seat r.1.1.lists → Met w → Met (acted_by r line i action w)
  acts_by w line i action (Some number, turn) s m = let n = met_own w i turn.1 s m in record { up = n.up; sits = n.sits }
  acts_by w line i action (None, turn) s m =
      subst (λ n. Met (handed_out n (weight_in action) turn.0 (with_initiator i turn.1 w))) (let e : suc i ≡ i + 1 = omega arith in e)
      (own_hands i (weight_in action) turn.0 turn.1 w (with_initiator i turn.1 w) (record { generations = refl; target = refl; initiators = refl }) s m)

  acts : (w : WorldState) (line i : ℕ) (action : Action) → Met w → Met (acted line i action w)
  unfolding acted
  acts w line i action m =
      acts_by w line i action (act_step action empty_outbox (initiator_at w i))
      (session_acts (Sits (Seen w.generations i)) (sits_plain (Seen w.generations i)) (sits_relist (Seen w.generations i)) action empty_outbox (initiator_at w i)
      (λ e p lists. sits_any (Seen w.generations i) (initiator_at w i).seat lists ((m.sits i).joined (in_by (initiator_at w i).seat (prepared action (initiator_at w i) p (goes_on action (initiator_at w i) e))))) (m.sits i)) m

  -- ---- a packet is lost, or injected
  loses : (w : WorldState) (line serial : ℕ) → Met w → Met (lose_line line serial w)
  unfolding lose_line
  loses w line serial m = by (is_in_flight serial w)
    where
      by : (b : Bool) → Met (cond b (lost serial w) (refused line no_packet w))
      by true = record { up = m.up; sits = m.sits }
      by false = copied w line no_packet m

  injects_to : (w : WorldState) (line i : ℕ) (bytes : List ℕ) (to : Option ℕ) → Met w → Met (injected to line (i + 1) bytes w)
  unfolding posted
  injects_to w line i bytes None m = copied w line no_node m
  injects_to w line i bytes (Some to) m = record { up = m.up; sits = m.sits }

  injects : (w : WorldState) (line i : ℕ) (bytes : List ℕ) → Met w → Met (inject_line line i bytes w)
  unfolding inject_line
  injects w line i bytes m = injects_to w line i bytes (injected_to (i + 1) bytes w) m

  -- ---- a transaction times out
  module _ {past : List Moment} {lines : ℕ} (w : WorldState) (h : Holding units ready start past lines w) (m : Met w) (line serial : ℕ) where
    lapses_own : (request : Request) (i j : ℕ) → request.node ≡ suc i → j ≡ i → (r : Bool × Turn) → Sits (Seen w.generations j) r.1.1.seat r.1.1.lists → Met (timed_out line serial request.node (at_initiator j r w))
    lapses_own request i j e same (true, turn) s =
        subst (λ n. Met (handed_out n 0 turn.0 (with_note (notes.TimedOut serial) (with_initiator j turn.1 w)))) (ap suc same ∙ sym e)
        (own_hands j 0 turn.0 turn.1 w (with_note (notes.TimedOut serial) (with_initiator j turn.1 w)) (record { generations = refl; target = refl; initiators = refl }) s m)
    lapses_own request i j e same (false, turn) s = let n = met_own w j turn.1 s m in record { up = n.up; sits = n.sits }

    own_if : (request : Request) (i j : ℕ) → request.node ≡ suc i → j ≡ i → (b : Bool) → Met (timed_out line serial request.node (if b then at_initiator j (expire_step request.label empty_outbox (initiator_at w j)) w else (false, (empty_outbox, w))))
    own_if request i j e same true =
        lapses_own request i j e same (expire_step request.label empty_outbox (initiator_at w j))
        (session_expires (Sits (Seen w.generations j)) (sits_plain (Seen w.generations j)) (sits_relist (Seen w.generations j)) request.label empty_outbox (initiator_at w j) (m.sits j))
    own_if request i j e same false = record { up = m.up; sits = m.sits }

    lapses_at : (request : Request) (node : ℕ) → request.node ≡ node → Met (timed_out line serial request.node (expires request w))
    unfolding expires target_expired
    lapses_at request zero e =
        let is_zero : nat_eq request.node 0 ≡ true = grind arith in
        subst (λ b. Met (timed_out line serial request.node (if b then packets.at_target (target_expired request w.target) w else initiator_expires request w))) (sym is_zero)
        (lapse_met units ready has start w h m request serial line (expired request.peer request.label (scene w.target empty_outbox)) refl e)
    lapses_at request (suc i) e =
        let other : nat_eq request.node 0 ≡ false = grind arith in
        subst (λ b. Met (timed_out line serial request.node (if b then packets.at_target (target_expired request w.target) w else initiator_expires request w))) (sym other)
        (own_if request i (request.node - 1) e (let x : request.node - 1 ≡ i = omega (arith, e) in x) (nat_lt (request.node - 1) (length w.initiators)))

    times_out_by : (so : Option Request) → Met (timeout_of so line serial w)
    times_out_by None = record { up = m.up; sits = m.sits }
    times_out_by (Some request) = lapses_at request request.node refl

    times_out : Met (timeout_line line serial w)
    unfolding timeout_line
    times_out = times_out_by (find w.requests serial)

  -- ---- a packet is delivered
  module _ {past : List Moment} {lines : ℕ} (s : Scene) (h : Holding units ready start past lines s.world) (m : Met s.world) (serial : ℕ) (again : Bool) (run : Option Told) (bytes : BytesTold run) where
    module _ (sent : Sent) (found : found_sent serial s.world.store.kept ≡ Some sent) where
      heard_target : sent.to ≡ 0 → Met (delivered serial again run s).world
      unfolding delivered target_received arrived
      heard_target zero_to =
          let w = s.world in
          let r = received run sent.generation sent.bytes (whole_of w.target s.media) in
          let last_is : (delivered serial again run s).world ≡ handed_out 0 0 r.1.outbox (with_note (judged_note serial r.0) (marked serial again (with_target r.1.node w))) =
          ap (λ (x : Option Arrival × (OutboxState × Scene)). (delivered_by serial again x).world)
          (received_is run serial s sent found ∙ ap (λ b. cond b (at_target sent.to (target_received run sent w.target s.media) s) (initiator_received sent s)) (to_zero sent.to zero_to))
          ∙ ap (λ n. handed_out n 0 r.1.outbox (with_note (judged_note serial r.0) (marked serial again (with_target r.1.node w)))) zero_to in
          subst Met (sym last_is) (delivery_met units ready has start w h m serial sent found run bytes s refl again)

      heard_own : (i : ℕ) → sent.to ≡ suc i → i < length s.world.initiators → Met (delivered serial again run s).world
      unfolding delivered initiators_received arrived
      heard_own i to_is inside =
          let w = s.world in
          let r = receive_step sent.generation sent.bytes empty_outbox (slice_index_or w.initiators i (new_state 0 false)) in
          let v = with_note (judged_note serial r.0) (marked serial again (with_initiators (slice_set w.initiators i r.1.1) w)) in
          let last_is : (delivered serial again run s).world ≡ handed_out sent.to 0 r.1.0 v =
          ap (λ (x : Option Arrival × (OutboxState × Scene)). (delivered_by serial again x).world) (to_own run serial i s sent found to_is ∙ own_inside sent i s inside) in
          subst Met (sym (last_is ∙ ap (λ n. handed_out n 0 r.1.0 v) to_is)) (own_delivery_met units ready has start w h m serial sent found i inside again)

      heard_none : (i : ℕ) → sent.to ≡ suc i → length s.world.initiators ≤ i → Met (delivered serial again run s).world
      unfolding delivered
      heard_none i to_is outside =
          subst Met (sym (ap (λ (x : Option Arrival × (OutboxState × Scene)). (delivered_by serial again x).world) (to_own run serial i s sent found to_is ∙ own_outside sent i s outside))) m

      heard_at : (to : ℕ) → sent.to ≡ to → Met (delivered serial again run s).world
      heard_at zero e = heard_target e
      heard_at (suc i) e = by (nat_lt i (length s.world.initiators)) refl
        where
          by : (b : Bool) → nat_lt i (length s.world.initiators) ≡ b → Met (delivered serial again run s).world
          by true f = heard_own i e (grind arith)
          by false f = heard_none i e (grind arith)

    heard_by : (so : Option Sent) → found_sent serial s.world.store.kept ≡ so → Met (delivered serial again run s).world
    unfolding delivered received_step
    heard_by None e = subst Met (sym (ap (λ o. (delivered_by serial again (received_by run o s)).world) e)) m
    heard_by (Some sent) e = heard_at sent e sent.to refl

    heard : Met (delivered serial again run s).world
    heard = heard_by (found_sent serial s.world.store.kept) refl

  delivers_if : {past : List Moment} {lines : ℕ} (b : Bool) (line serial : ℕ) (again : Bool) (told : List (Option Told)) (s : Scene) → AreTold told → Holding units ready start past lines s.world → Met s.world → Met (delivered_if b line serial again told s).world
  delivers_if true line serial again told s t h m = heard s h m serial again (first_told told) (first_fits told t)
  delivers_if false line serial again told s t h m = copied s.world line no_packet m

  next_heard : {past : List Moment} {lines : ℕ} (told : Option Told) → BytesTold told → (s : Scene) → Holding units ready start past lines s.world → Met s.world → (o : Option ℕ) → Met (delivered_at o told s).world
  next_heard told t s h m None = m
  next_heard told t s h m (Some serial) = heard s h m serial false told t

  pub all_met : {past : List Moment} {lines : ℕ} (told : List (Option Told)) → AreTold told → (s : Scene) → Holding units ready start past lines s.world → Met s.world → (terms past).repeats ≡ false → Met (after_all told s).world
  unfolding delivered_next
  all_met [] t s h m r = m
  all_met (told ∷ before) t s h m r =
      next_heard told t.0 (after_all before s) (all_heard units ready has start before t.1 s h r) (all_met before t.1 s h m r) (lowest (after_all before s).world)

  ends : (w : WorldState) (b : Bool) → Met w → Met (with_note (end_note b) w)
  ends w b m = record { up = m.up; sits = m.sits }

  -- ---- a line
  pub opened : (w : WorldState) → Met w → Met (without_notes w)
  opened w m = record { up = m.up; sits = m.sits }

  sights : {past : List Moment} {lines : ℕ} (w : WorldState) (node : ℕ) → node ≤ length w.initiators → Holding units ready start past lines w → Met w → Met (see_line node w)
  sights w zero l h m = sight_met units ready has start w h m
  sights w (suc i) l h m = own_sight_met units ready has start w h m i l

  pub line_met : {past : List Moment} {lines : ℕ} (line : ℕ) (event : Event) (told : List (Option Told)) (s : Scene) → IsLine event (length s.world.initiators) → AreTold told → Holding units ready start past lines s.world → Met s.world → Met (happens line event told s).world
  unfolding happens reset_line
  line_met line (events.Begin initiators is_ready) told s l t h m = absurd l
  line_met line (events.Act initiator action) told s l t h m = acts (without_notes s.world) line initiator action (opened s.world m)
  line_met line (events.Reset physical) told s l t h m = record { up = m.up; sits = m.sits }
  line_met line (events.See node) told s l t h m = sights (without_notes s.world) node l (opens units ready has start line (events.See node) s.world refl h) (opened s.world m)
  line_met line (events.Deliver serial) told s l t h m =
      delivers_if (is_in_flight serial (begun s).world) line serial false told (begun s) t (opens units ready has start line (events.Deliver serial) s.world refl h) (opened s.world m)
  line_met line (events.Repeat serial) told s l t h m =
      delivers_if (may_repeat serial (begun s).world) line serial true told (begun s) t (opens units ready has start line (events.Repeat serial) s.world refl h) (opened s.world m)
  line_met line (events.Lose serial) told s l t h m = loses (without_notes s.world) line serial (opened s.world m)
  line_met line (events.Timeout serial) told s l t h m =
      times_out (without_notes s.world) (opens units ready has start line (events.Timeout serial) s.world refl h) (opened s.world m) line serial
  line_met line (events.Step count) told s l t h m = all_met told t (begun s) (opens units ready has start line (events.Step count) s.world refl h) (opened s.world m) refl
  line_met line events.Settle told s l t h m =
      ends (after_all told (begun s)).world (is_settled (after_all told (begun s)).world)
      (all_met told t (begun s) (opens units ready has start line events.Settle s.world refl h) (opened s.world m) refl)
  line_met line events.Tick told s l t h m = tick_met units ready has start (without_notes s.world) (opens units ready has start line events.Tick s.world refl h) (opened s.world m)
  line_met line (events.Inject initiator bytes) told s l t h m = injects (without_notes s.world) line initiator bytes (opened s.world m)
  line_met line (events.Key unit key) told s l t h m =
      key_met units ready has start (without_notes s.world) (opens units ready has start line (events.Key unit key) s.world refl h) (opened s.world m) line unit key
