-- Each line keeps what the world counts; an action appends one ORB at most.
use Rattle.sbp_world.proofs.Words.Std.{slice_set, ◌≡◌, arith, refl, sym, ◌∙◌, ap, subst, nat_tests, set-get_or}
use Rattle.sbp_world.proofs.Words.Wire.{LabelParts, Stale, Layer, expiring_step, Sent, found_sent, is_flying, deliver_step, lose_step, Moment, said, Judged, Action, Event, OutboxState, empty_outbox, Request, judged_note, id_of, no_node, no_packet, find}
use Rattle.sbp_world.proofs.Words.Target.{Held, Told, NodeState, expired, received, with_key, Whole}
use Rattle.sbp_world.proofs.Words.Initiator.{Purpose, InitiatorState, IsAction, act_step, Turn, new_state, expire_step, expired_as, receive_step, see_step}
use Rattle.sbp_world.proofs.Words.Laws.{cmd_of, event_of}
use Rattle.sbp_world.proofs.Words.World.{Arrival, arrived, at_none, at_target, delivered, delivered_by, faults_after, initiator_received, initiators_received, left_target, listed, marked, received_at, received_by, received_step, target_received, whole_of, handed_out, acted, acted_by, happens_to, keyed, no_unit, weight_in, handed_all, initiator_learns, reset_line, see_line, sees, target_learns, target_sees, target_ticks, tick_line, told_seen, with_seen, delivered_if, expires, first_told, inject_line, injected, injected_to, initiator_expires, is_in_flight, lose_line, may_repeat, refused, target_expired, target_left, timed_out, timeout_line, timeout_of, sent_all, after_all, delivered_at, delivered_next, lowest, settled, settled_from, told_all, Scene, WorldState, initiator_at, with_initiator, with_note, with_target, IsLine}
use Rattle.std.specs.Prelude.{ℕ, ◌+◌, ◌-◌, ◌^◌, ◌<◌, ◌≤◌, ◌==◌, ◌||◌, not, nat_lt, Bool, true, false, cond, List, [], ◌∷◌, ◌++◌, length, map, Option, Some, None, Result, Ok, Err}
use Rattle.sbp_journal.specs.declared.cause.Judged.TheVariants as judgements
use Rattle.sbp_journal.specs.declared.event.Event.TheVariants as events
use Rattle.sbp_journal.specs.declared.note.Note.TheVariants as notes
use Rattle.sbp_target.specs.Nodes as target
use Rattle.sbp_world.specs.Delivering.{at_initiator}
use Rattle.sbp_world.specs.Nodes as nodes
use Rattle.sbp_world.specs.Packets as packets
use Rattle.sbp_initiator.proofs.FirstRow.{refusal_law}
use Rattle.sbp_world.proofs.Wire.Balanced.{Balanced, CountsIn, marks_balance, notes_balance, own_balances, own_begins, posts_balance, state_at, target_balances}
use Rattle.sbp_world.proofs.Wire.Counted.{counted_more, most_share}
use Rattle.sbp_world.proofs.Wire.Effects.{AreOtherSides}
use Rattle.sbp_world.proofs.Wire.OwnCalls as calls
use Rattle.sbp_world.proofs.Wire.OwnCounts.{Own, history}
use Rattle.sbp_world.proofs.Wire.OwnDoes as own
use Rattle.sbp_world.proofs.Wire.Slotted.{present_key}
use Rattle.sbp_world.proofs.Wire.TargetTells as target_tells

module _ (past : List Moment) (most : ℕ) where
  pub refuses : (line number : ℕ) (w : WorldState) → Balanced past most w → Balanced past most (refused line number w)
  refuses line number w b = notes_balance past most (notes.Refused line number) w refl b

  -- ---- a delivery
  abbrev Arrives : ℕ → Bool → Option Arrival × (OutboxState × Scene) → Type 0
  Arrives serial again r = Balanced past most (delivered_by serial again r).world

  pick_arrives : (serial : ℕ) (again : Bool) (b : Bool) (x y : Option Arrival × (OutboxState × Scene)) → Arrives serial again x → (b ≡ false → Arrives serial again y) → Arrives serial again (cond b x y)
  pick_arrives serial again true x y h i = h
  pick_arrives serial again false x y h i = i refl

  pub judged_balances : (serial : ℕ) (judged : Judged) (w : WorldState) → Balanced past most w → Balanced past most (with_note (judged_note serial judged) w)
  judged_balances serial judgements.Got w b = notes_balance past most (notes.Got serial) w refl b
  judged_balances serial (judgements.Ignored cause) w b = notes_balance past most (notes.Ignored serial cause) w refl b

  pub target_arrives : (serial : ℕ) (again : Bool) (node : ℕ) (r : Judged × (OutboxState × (NodeState × Held))) (s : Scene) → AreOtherSides r.1.0.sides → Balanced past most s.world → Arrives serial again (at_target node r s)
  unfolding arrived
  target_arrives serial again node (judged, (outbox, (state, media))) s o b =
      let v = with_target state s.world in
      let x = with_note (judged_note serial judged) (marked serial again v) in
      target_balances past most node 0 outbox x.target x o (judged_balances serial judged (marked serial again v) (marks_balance past most serial again v (record { counted = b.counted; states = b.states })))

  left_tells : (r : Judged × Whole) (faults : List ℕ) → AreOtherSides r.1.outbox.sides → AreOtherSides (left_target r faults).1.0.sides
  left_tells (judged, w) faults h = h

  target_tell : (told : Option Told) (sent : Sent) (old : NodeState) (media : Held) → AreOtherSides (target_received told sent old media).1.0.sides
  unfolding target_received
  target_tell told sent old media =
      left_tells (received told sent.generation sent.bytes (whole_of old media)) (faults_after told sent old media)
      (target_tells.receives told sent.generation sent.bytes (whole_of old media) tt)

  marked_states : (serial : ℕ) (again : Bool) (w : WorldState) → (marked serial again w).initiators ≡ w.initiators
  marked_states serial again w = by (again || not (is_flying serial w.store.kept))
    where
      by : (c : Bool) → (cond c w (record w { store = deliver_step w.store serial })).initiators ≡ w.initiators
      by true = refl
      by false = refl

  -- an initiator that has judged
  own_arrives : (serial : ℕ) (again : Bool) (i node : ℕ) (r : Judged × Turn) (s : Scene) (inside : i < length s.world.initiators) → ((w : WorldState) → CountsIn s.world.initiators most (history w past) w → Own past 0 w i (length s.world.initiators) inside (λ j. (state_at s.world.initiators j).lists.slots.lists) (λ j. present_key (state_at s.world.initiators j).lists.slots.present) most r.1.0.sides r.1.1.number r.1.1.lists.slots) → Balanced past most s.world → Arrives serial again (at_initiator node (listed i r s.world.initiators) s)
  unfolding arrived
  own_arrives serial again i node (judged, (outbox, state)) s inside own b =
      let states = s.world.initiators in
      let now = slice_set states i state in
      let v = record s.world { initiators = now } in
      let m = marked serial again v in
      let x = with_note (judged_note serial judged) m in
      own_balances past most x states i node 0 (outbox, state) inside (marked_states serial again v) b.states
      (own x (counts_now serial again judged b.counted))
    where
      note_counts : (judged : Judged) (w : WorldState) → CountsIn s.world.initiators most (history w past) w → CountsIn s.world.initiators most (said (judged_note serial judged) ∷ history w past) w
      note_counts judgements.Got w c = c
      note_counts (judgements.Ignored cause) w c = c

      counts_by : (c : Bool) (judged : Judged) (states : List InitiatorState) → CountsIn s.world.initiators most (history s.world past) s.world → CountsIn s.world.initiators most (said (judged_note serial judged) ∷ history (cond c (record s.world { initiators = states }) (record s.world { initiators = states; store = deliver_step s.world.store serial })) past) (cond c (record s.world { initiators = states }) (record s.world { initiators = states; store = deliver_step s.world.store serial }))
      counts_by true judged states c = note_counts judged (record s.world { initiators = states }) c
      counts_by false judged states c = note_counts judged (record s.world { initiators = states; store = deliver_step s.world.store serial }) c

      counts_now : (serial_now : ℕ) (again_now : Bool) (judged : Judged) → CountsIn s.world.initiators most (history s.world past) s.world → CountsIn s.world.initiators most (history (with_note (judged_note serial judged) (marked serial again (record s.world { initiators = slice_set s.world.initiators i state }))) past) (with_note (judged_note serial judged) (marked serial again (record s.world { initiators = slice_set s.world.initiators i state })))
      counts_now serial_now again_now judged c = counts_by (again || not (is_flying serial s.world.store.kept)) judged (slice_set s.world.initiators i state) c

  pub own_received : (serial : ℕ) (again : Bool) (packet : Sent) (s : Scene) → Balanced past most s.world → Arrives serial again (initiator_received packet s)
  unfolding initiators_received
  own_received serial again packet s b = by (nat_lt (packet.to - 1) (length s.world.initiators)) refl
    where
      by : (c : Bool) → nat_lt (packet.to - 1) (length s.world.initiators) ≡ c → Arrives serial again (cond c (at_initiator packet.to (initiators_received (packet.to - 1) packet s.world.initiators) s) (at_none s))
      by true e =
          let i = packet.to - 1 in
          let inside : i < length s.world.initiators = grind (arith, nat_tests) in
          let old = state_at s.world.initiators i in
          own_arrives serial again i packet.to (receive_step packet.generation packet.bytes empty_outbox old) s inside
          (λ w c. calls.receives past 0 w i (length s.world.initiators) inside _ _ most packet.generation packet.bytes empty_outbox old (own_begins past most w s.world.initiators i 0 inside b.states c)) b
      by false e = b

  received_balances : (serial : ℕ) (again : Bool) (told : Option Told) (packet : Sent) (s : Scene) → Balanced past most s.world → Arrives serial again (received_at told packet s)
  received_balances serial again told packet s b =
      pick_arrives serial again (packet.to == 0) (at_target packet.to (target_received told packet s.world.target s.media) s) (initiator_received packet s)
      (target_arrives serial again packet.to (target_received told packet s.world.target s.media) s (target_tell told packet s.world.target s.media) b)
      (λ e. own_received serial again packet s b)

  found_balances : (serial : ℕ) (again : Bool) (told : Option Told) (packet : Option Sent) (s : Scene) → Balanced past most s.world → Arrives serial again (received_by told packet s)
  found_balances serial again told None s b = b
  found_balances serial again told (Some packet) s b = received_balances serial again told packet s b

  pub delivers : (serial : ℕ) (again : Bool) (told : Option Told) (s : Scene) → Balanced past most s.world → Balanced past most (delivered serial again told s).world
  unfolding delivered received_step
  delivers serial again told s b = found_balances serial again told (found_sent serial s.world.store.kept) s b

  delivers_if : (c : Bool) (line serial : ℕ) (again : Bool) (told : List (Option Told)) (s : Scene) → Balanced past most s.world → Balanced past most (delivered_if c line serial again told s).world
  delivers_if true line serial again told s b = delivers serial again (first_told told) s b
  delivers_if false line serial again told s b = refuses line no_packet s.world b

  delivers_at : (serial : Option ℕ) (told : Option Told) (s : Scene) → Balanced past most s.world → Balanced past most (delivered_at serial told s).world
  delivers_at None told s b = b
  delivers_at (Some serial) told s b = delivers serial false told s b

  delivers_next : (told : Option Told) (s : Scene) → Balanced past most s.world → Balanced past most (delivered_next told s).world
  unfolding delivered_next
  delivers_next told s b = delivers_at (lowest s.world) told s b

  delivers_all : (told : List (Option Told)) (s : Scene) → Balanced past most s.world → Balanced past most (after_all told s).world
  delivers_all [] s b = b
  delivers_all (told ∷ before) s b = delivers_next told (after_all before s) (delivers_all before s b)

  pub settles_by : (c : Bool) (s : Scene) → Balanced past most s.world → Balanced past most (settled_from c s).world
  settles_by true s b = notes_balance past most notes.Settled s.world refl b
  settles_by false s b = notes_balance past most notes.Stopped s.world refl b

  -- ---- a time-out
  abbrev Ends : (line serial node : ℕ) → Bool × (OutboxState × WorldState) → Type 0
  Ends line serial node r = Balanced past most (timed_out line serial node r)

  pick_ends : (line serial node : ℕ) (b : Bool) (x y : Bool × (OutboxState × WorldState)) → Ends line serial node x → (b ≡ false → Ends line serial node y) → Ends line serial node (cond b x y)
  pick_ends line serial node true x y h i = h
  pick_ends line serial node false x y h i = i refl

  pub target_ends : (line serial node : ℕ) (r : Result (Unit {0}) Stale × target.Scene) (w : WorldState) → AreOtherSides r.1.outbox.sides → Balanced past most w → Ends line serial node (packets.at_target (target_left r w.target) w)
  target_ends line serial node (Ok done, s) w o b =
      target_balances past most node 0 s.outbox s.node (with_note (notes.TimedOut serial) w) o (notes_balance past most (notes.TimedOut serial) w refl b)
  target_ends line serial node (Err stale, s) w o b = refuses line no_packet (with_target w.target w) (record { counted = b.counted; states = b.states })

  own_ends : (line serial i node : ℕ) (r : Bool × Turn) (w : WorldState) (inside : i < length w.initiators) → ((x : WorldState) → CountsIn w.initiators most (history x past) x → Own past 0 x i (length w.initiators) inside (λ j. (state_at w.initiators j).lists.slots.lists) (λ j. present_key (state_at w.initiators j).lists.slots.present) most r.1.0.sides r.1.1.number r.1.1.lists.slots) → (r.0 ≡ false → r.1.0 ≡ empty_outbox) → Balanced past most w → Ends line serial node (packets.at_initiator i r w)
  unfolding told_all sent_all
  own_ends line serial i node (true, (outbox, state)) w inside own stale b =
      own_balances past most (with_note (notes.TimedOut serial) (with_initiator i state w)) w.initiators i node 0 (outbox, state) inside refl b.states
      (own (with_note (notes.TimedOut serial) (with_initiator i state w)) b.counted)
  own_ends line serial i node (false, (outbox, state)) w inside own stale b =
      refuses line no_packet (with_initiator i state w)
      (nothing (stale refl) (own_balances past most (with_initiator i state w) w.initiators i node 0 (outbox, state) inside refl b.states (own (with_initiator i state w) b.counted)))
    where
      nothing : outbox ≡ empty_outbox → Balanced past most (handed_out node 0 outbox (with_initiator i state w)) → Balanced past most (with_initiator i state w)
      nothing e h = subst (λ x. Balanced past most (handed_out node 0 x (with_initiator i state w))) e h

  stale_silent : (r : Result (Option Purpose) Stale × Layer Purpose) (s : InitiatorState) → (expired_as r empty_outbox s).0 ≡ false → (expired_as r empty_outbox s).1.0 ≡ empty_outbox
  stale_silent (Err stale, layer) s e = refl
  stale_silent (Ok purpose, layer) s e = absurd (untrue e)
    where
      untrue : true ≡ false → ⊥
      untrue e = cc

  silent : (label : LabelParts) (s : InitiatorState) → (expire_step label empty_outbox s).0 ≡ false → (expire_step label empty_outbox s).1.0 ≡ empty_outbox
  unfolding expire_step
  silent label s e = stale_silent (expiring_step s.layer s.target label) s e

  pub own_expires : (line serial : ℕ) (request : Request) (w : WorldState) → Balanced past most w → Ends line serial request.node (initiator_expires request w)
  own_expires line serial request w b = by (nat_lt (request.node - 1) (length w.initiators)) refl
    where
      by : (c : Bool) → nat_lt (request.node - 1) (length w.initiators) ≡ c → Ends line serial request.node (cond c (packets.at_initiator (request.node - 1) (expire_step request.label empty_outbox (initiator_at w (request.node - 1))) w) (false, (empty_outbox, w)))
      by true e =
          let i = request.node - 1 in
          let inside : i < length w.initiators = grind (arith, nat_tests) in
          let old = initiator_at w i in
          own_ends line serial i request.node (expire_step request.label empty_outbox old) w inside
          (λ x c. calls.expires past 0 x i (length w.initiators) inside _ _ most request.label empty_outbox old (own_begins past most x w.initiators i 0 inside b.states c))
          (silent request.label old) b
      by false e = refuses line no_packet w b

  expires_balance : (line serial : ℕ) (request : Request) (w : WorldState) → Balanced past most w → Ends line serial request.node (expires request w)
  unfolding expires target_expired
  expires_balance line serial request w b =
      pick_ends line serial request.node (request.node == 0) (packets.at_target (target_expired request w.target) w) (initiator_expires request w)
      (target_ends line serial request.node (expired request.peer request.label (target.scene w.target empty_outbox)) w (target_tells.expires request.peer request.label (target.scene w.target empty_outbox) tt) b)
      (λ e. own_expires line serial request w b)

  timeout_of_balances : (request : Option Request) (line serial : ℕ) (w : WorldState) → Balanced past most w → Balanced past most (timeout_of request line serial w)
  timeout_of_balances None line serial w b = refuses line no_packet w b
  timeout_of_balances (Some request) line serial w b = expires_balance line serial request w b

  times_out : (line serial : ℕ) (w : WorldState) → Balanced past most w → Balanced past most (timeout_line line serial w)
  unfolding timeout_line
  times_out line serial w b = timeout_of_balances (find w.requests serial) line serial w b

  -- ---- a sight, a second and a reset
  target_pair : (r : OutboxState × NodeState) (w : WorldState) → AreOtherSides r.0.sides → Balanced past most w → Balanced past most (handed_all 0 (nodes.at_target r w))
  target_pair (outbox, node) w o b = target_balances past most 0 0 outbox node w o b

  pick_sees : (node : ℕ) (b : Bool) (x y : OutboxState × WorldState) → (b ≡ true → Balanced past most (handed_all node x)) → (b ≡ false → Balanced past most (handed_all node y)) → Balanced past most (handed_all node (cond b x y))
  pick_sees node true x y h i = h refl
  pick_sees node false x y h i = i refl

  own_pair : (i node : ℕ) (t : Turn) (w : WorldState) (inside : i < length w.initiators) → ((x : WorldState) → CountsIn w.initiators most (history x past) x → Own past 0 x i (length w.initiators) inside (λ j. (state_at w.initiators j).lists.slots.lists) (λ j. present_key (state_at w.initiators j).lists.slots.present) most t.0.sides t.1.number t.1.lists.slots) → Balanced past most w → Balanced past most (handed_all node (nodes.at_initiator i t w))
  own_pair i node (outbox, state) w inside own b =
      own_balances past most (with_initiator i state w) w.initiators i node 0 (outbox, state) inside refl b.states (own (with_initiator i state w) b.counted)

  sight_tells : (generation id : ℕ) (node : NodeState) → AreOtherSides (target_sees generation id node).0.sides
  unfolding target_sees
  sight_tells generation id node = target_tells.sees generation id (target.scene node empty_outbox) tt

  second_tells : (node : NodeState) → AreOtherSides (target_ticks node).0.sides
  unfolding target_ticks
  second_tells node = target_tells.ticks (target.scene node empty_outbox) tt

  seen_balances : (node : ℕ) (w : WorldState) → node ≤ length w.initiators → Balanced past most w → Balanced past most (see_line node w)
  unfolding see_line sees
  seen_balances node w l b =
      let g = w.generations.latest.generation in
      let v = with_seen node (told_seen node w) in
      let x : Balanced past most v = record { counted = (notes_balance past most (notes.Seen node g) w refl b).counted; states = b.states } in
      let id = id_of w.generations.latest node in
      let other = id_of w.generations.latest 0 in
      pick_sees node (node == 0) (target_learns v) (initiator_learns node v)
      (λ e.
      let z : 0 ≡ node = grind (arith, nat_tests) in
      subst (λ k. Balanced past most (handed_all k (target_learns v))) z (target_pair (target_sees g other w.target) v (sight_tells g other w.target) x))
      (λ e.
      let i = node - 1 in
      let inside : i < length w.initiators = grind (arith, nat_tests) in
      let old = initiator_at w i in
      own_pair i node (see_step g id other empty_outbox old) v inside
      (λ y c. calls.sees past 0 y i (length w.initiators) inside _ _ most g id other empty_outbox old (own_begins past most y w.initiators i 0 inside b.states c)) x)

  ticks_balance : (w : WorldState) → Balanced past most w → Balanced past most (tick_line w)
  unfolding tick_line
  ticks_balance w b = target_pair (target_ticks w.target) (with_note notes.Tick w) (second_tells w.target) (notes_balance past most notes.Tick w refl b)

  resets_balance : (ids : List ℕ) (w : WorldState) → Balanced past most w → Balanced past most (reset_line ids w)
  unfolding reset_line
  resets_balance ids w b = notes_balance past most (notes.Reset _) _ refl (record { counted = b.counted; states = b.states })

  -- ---- other lines
  pub loses_balance : (line serial : ℕ) (w : WorldState) → Balanced past most w → Balanced past most (lose_line line serial w)
  unfolding lose_line
  loses_balance line serial w b = by (is_in_flight serial w)
    where
      by : (c : Bool) → Balanced past most (cond c (packets.lost serial w) (refused line no_packet w))
      by true = notes_balance past most (notes.Lost serial) (record w { store = lose_step w.store serial }) refl (record { counted = b.counted; states = b.states })
      by false = refuses line no_packet w b

  injects_by : (to : Option ℕ) (line from : ℕ) (bytes : List ℕ) (w : WorldState) → Balanced past most w → Balanced past most (injected to line from bytes w)
  injects_by None line from bytes w b = refuses line no_node w b
  injects_by (Some to) line from bytes w b = posts_balance past most from to true bytes w b

  injects_balance : (line initiator : ℕ) (bytes : List ℕ) (w : WorldState) → Balanced past most w → Balanced past most (inject_line line initiator bytes w)
  unfolding inject_line
  injects_balance line initiator bytes w b = injects_by (injected_to (initiator + 1) bytes w) line (initiator + 1) bytes w b

  keys_balance : (line unit : ℕ) (key : List ℕ) (w : WorldState) → Balanced past most w → Balanced past most (keyed line unit key w)
  unfolding keyed
  keys_balance line unit key w b = by (nat_lt unit (length w.target.units))
    where
      by : (c : Bool) → Balanced past most (cond c (with_note (notes.Key unit) (with_target (with_key unit key w.target) w)) (refused line no_unit w))
      by true = notes_balance past most (notes.Key unit) (with_target (with_key unit key w.target) w) refl (record { counted = b.counted; states = b.states })
      by false = refuses line no_unit w b

  -- ---- an action
  module _ (small : most + most_share < 2 ^ 64) where
    pub more_balance : (w : WorldState) → Balanced past most w → Balanced past (most + most_share) w
    more_balance w b = record {
      counted = counted_more (length w.initiators) _ _ most (most + most_share) (history w past) w.places w.loads (omega arith) small b.counted;
      states = b.states;
    }

    -- the line asks for this action
    module _ (line i : ℕ) (action : Action) (w : WorldState) (inside : i < length w.initiators) (fields : IsAction action) (asks : event_of (history w past) ≡ Some (events.Act i action)) (b : Balanced past most w) where
      abbrev old : InitiatorState
      old = initiator_at w i

      own_acts : (x : WorldState) → x.fresh ≡ w.fresh → CountsIn w.initiators most (history x past) x → Own past (weight_in action) x i (length w.initiators) inside (λ j. (state_at w.initiators j).lists.slots.lists) (λ j. present_key (state_at w.initiators j).lists.slots.present) (most + most_share) (act_step action empty_outbox old).1.0.sides (act_step action empty_outbox old).1.1.number (act_step action empty_outbox old).1.1.lists.slots
      own_acts x e c =
          own.acts past (weight_in action) x i (length w.initiators) inside _ _ most small action empty_outbox old
          (record { event = λ cmd f. ap cmd_of (ap (λ ns. event_of (map said ns ++ past)) e ∙ asks) ∙ f; weighs = refl; fields = fields })
          (own_begins past most x w.initiators i (weight_in action) inside b.states c)

      acts_by : (r : Option ℕ × Turn) → act_step action empty_outbox old ≡ r → Balanced past (most + most_share) (acted_by r line i action w)
      acts_by (Some number, (outbox, state)) e =
          let same = refusal_law.unchanged action empty_outbox old number (ap (λ (x : Option ℕ × Turn). x.0) e) in
          let kept : state ≡ old = sym (ap (λ (x : Option ℕ × Turn). x.1.1) e) ∙ ap (λ (x : Turn). x.1) same in
          refused_more (with_initiator i state w)
          (subst (λ (x : InitiatorState). Balanced past (most + most_share) (with_initiator i x w)) (sym kept)
          (subst (λ (xs : List InitiatorState). Balanced past (most + most_share) (record w { initiators = xs })) (sym (set-get_or w.initiators i (new_state 0 false))) (more_balance w b)))
        where
          refused_more : (x : WorldState) → Balanced past (most + most_share) x → Balanced past (most + most_share) (refused line number x)
          refused_more x h = notes_balance past (most + most_share) (notes.Refused line number) x refl h
      acts_by (None, t) e =
          let x = with_initiator i t.1 w in
          own_balances past (most + most_share) x w.initiators i (i + 1) (weight_in action) t inside refl b.states
          (subst (λ (r : Option ℕ × Turn). Own past (weight_in action) x i (length w.initiators) inside (λ j. (state_at w.initiators j).lists.slots.lists) (λ j. present_key (state_at w.initiators j).lists.slots.present) (most + most_share) r.1.0.sides r.1.1.number r.1.1.lists.slots) e
          (own_acts x refl b.counted))

      pub acts_balance : Balanced past (most + most_share) (acted line i action w)
      unfolding acted
      acts_balance = acts_by (act_step action empty_outbox old) refl

    -- ---- a line
    pub happens_balance : (line : ℕ) (event : Event) (told : List (Option Told)) (s : Scene) → IsLine event (length s.world.initiators) → event_of (history s.world past) ≡ Some event → Balanced past most s.world → Balanced past (most + most_share) (happens_to line event told s).world
    happens_balance line (events.Begin initiators ready) told s q e b = absurd q
    happens_balance line (events.Act i action) told s q e b = acts_balance line i action s.world q.0 q.2 e b
    happens_balance line (events.Reset ids) told s q e b = more_balance (reset_line ids s.world) (resets_balance ids s.world b)
    happens_balance line (events.See node) told s q e b = more_balance (see_line node s.world) (seen_balances node s.world q b)
    happens_balance line (events.Deliver serial) told s q e b =
        more_balance (delivered_if (is_in_flight serial s.world) line serial false told s).world (delivers_if (is_in_flight serial s.world) line serial false told s b)
    happens_balance line (events.Repeat serial) told s q e b =
        more_balance (delivered_if (may_repeat serial s.world) line serial true told s).world (delivers_if (may_repeat serial s.world) line serial true told s b)
    happens_balance line (events.Lose serial) told s q e b = more_balance (lose_line line serial s.world) (loses_balance line serial s.world b)
    happens_balance line (events.Timeout serial) told s q e b = more_balance (timeout_line line serial s.world) (times_out line serial s.world b)
    happens_balance line (events.Step count) told s q e b = more_balance (after_all told s).world (delivers_all told s b)
    happens_balance line events.Settle told s q e b = more_balance (settled told s).world (settles_by _ (after_all told s) (delivers_all told s b))
    happens_balance line events.Tick told s q e b = more_balance (tick_line s.world) (ticks_balance s.world b)
    happens_balance line (events.Inject initiator bytes) told s q e b = more_balance (inject_line line initiator bytes s.world) (injects_balance line initiator bytes s.world b)
    happens_balance line (events.Key unit key) told s q e b = more_balance (keyed line unit key s.world) (keys_balance line unit key s.world b)
