-- After each line of a world, and behind each delivery of one, the units of the terms are the target's, with what the media hold.
use Rattle.sbp_world.proofs.Words.Std.{arith, ◌≡◌, ◌∙◌, refl, sym, ap, subst, ℕ, zero, suc, ◌+◌, ◌-◌, ◌<◌, ◌≤◌, nat_eq, nat_lt, Bool, true, false, cond, List, [], ◌∷◌, length, Option, Some, None, Result, Ok, Err, if◌then◌else◌, slice_index_or, slice_set, unwrap_or}
use Rattle.sbp_world.proofs.Words.Wire.{Stale, Sent, found_sent, Holder, Request, id_of, end_note, judged_note, no_node, no_packet, holder_at, or_nobody, find_request, Judged, Action, Event, Note, OutboxState, empty_outbox, Moment, asked, said, Terms, begun_in, terms}
use Rattle.sbp_world.proofs.Words.Target.{Login, Table, find, is_live, is_of_node, Disk, Held, Told, PlainDisk, alone, lets_expire, sees, ticks, NodeState, TargetScene, scene, expired, received, with_key, Whole}
use Rattle.sbp_world.proofs.Words.Initiator.{act_step, Turn, new_state, expire_step, receive_step, see_step}
use Rattle.sbp_world.proofs.Words.Laws.{id_for, known_at, place_on, target_at}
use Rattle.sbp_world.proofs.Words.World.{Arrival, arrived, at_target, delivered, delivered_by, initiator_received, initiators_received, marked, received_by, received_step, target_received, whole_of, with_initiators, handed_out, acted, acted_by, happens, keyed, no_unit, weight_in, handed_all, initiator_learns, reset_line, see_line, target_learns, target_sees, target_ticks, tick_line, told_seen, with_seen, at_initiator, delivered_if, expires, first_told, initiator_expires, inject_line, injected, injected_to, is_in_flight, lose_line, lost, may_repeat, refused, target_expired, target_left, timed_out, timeout_line, timeout_of, posted, after_all, delivered_at, delivered_next, is_settled, lowest, holder, Scene, WorldState, begun, initiator_at, with_initiator, with_note, with_target, without_notes, IsLine, IsHeld}
use Rattle.sbp_journal.specs.declared.cause.Judged.TheVariants as judgements
use Rattle.sbp_journal.specs.declared.event.Event.TheVariants as events
use Rattle.sbp_journal.specs.declared.note.Note.TheVariants as notes
use Rattle.sbp_world.specs.Delivering as delivering
use Rattle.sbp_world.specs.Nodes as world_nodes
use Rattle.sbp_world.specs.Packets as packets
use Rattle.sbp_world.proofs.Wire.Comes.{own_inside, own_outside, received_is, to_own, to_zero}
use Rattle.sbp_world.proofs.Wire.Nodes.{handed_alike, marked_alike}
use Rattle.sbp_world.proofs.Wire.CommandBytes.{AreTold}
use Rattle.sbp_target.proofs.Histories.Calling.{Good}
use Rattle.sbp_world.proofs.Agents.Management.Holding.{Holding, good_of, marked_hist}
use Rattle.sbp_world.proofs.InitiatorForms as own
use Rattle.sbp_world.proofs.Agents.Management.Lines.{all_heard, opens}
use Rattle.sbp_world.proofs.Formed.{AreOwn}
use Rattle.sbp_world.proofs.Agents.Management.Still.{gets_clock, hist, ignores_still, lapses_clock}
use Rattle.sbp_world.proofs.Agents.Holders.{are_held}
use Rattle.sbp_world.proofs.Agents.Seating.{all_seats, opened as opened_seats}
use Rattle.sbp_world.proofs.Agents.Seats.{Seats, marked_same}
use Rattle.sbp_world.proofs.Agents.UnitsRun.{Leaves, Match}
use Rattle.sbp_world.proofs.Agents.UnitsTold.{AllSpare, AreFound, IsFoundBy, Makes, Same, SparesUnits, got_same, ignored_same, is_over, lapse_same, one_note, own_hands, places_in, posts, spared_hands, target_hands, units_in}
use Rattle.sbp_world.proofs.Agents.UnitsTurns.{delivery_leaves, lapse_leaves, second_spares, sight_spares}

-- the units of the terms are the target's
abbrev pub Units : List Disk → List Moment → WorldState → List Disk → Type 0
Units start past w disks = Match (units_in start past w) w.target.units disks

-- ---- the first note of a turn

-- the target finds the same nodes by their IDs
abbrev SameIds : Terms → Terms → Type 0
SameIds t u = (peer : ℕ) → id_for u 0 peer ≡ id_for t 0 peer

ids_of : (t u : Terms) → u.generation 0 ≡ t.generation 0 → ((peer : ℕ) → u.ids (t.generation 0) peer ≡ t.ids (t.generation 0) peer) → SameIds t u
ids_of t u g i peer = ap (λ n. u.ids n peer) g ∙ i peer

module _ (start : List Disk) (ms : List Moment) where
  abbrev t : Terms
  t = terms ms

  judged_same : (judged : Judged) (serial : ℕ) → Same (target_at start ms) (target_at start (said (judged_note serial judged) ∷ ms))
  judged_same judgements.Got serial = got_same serial ms (known_at start ms).wire (target_at start ms)
  judged_same (judgements.Ignored cause) serial = ignored_same serial cause ms (known_at start ms).wire (target_at start ms)

  judged_ids : (judged : Judged) (serial : ℕ) → SameIds t (terms (said (judged_note serial judged) ∷ ms))
  judged_ids judgements.Got serial =
      let c = gets_clock (t.sent serial) serial t in ids_of t (terms (said (notes.Got serial) ∷ ms)) c.generation c.ids
  judged_ids (judgements.Ignored cause) serial =
      let c = ignores_still (t.sent serial) cause serial t in ids_of t (terms (said (notes.Ignored serial cause) ∷ ms)) c.generation c.ids

  lapsed_ids : (serial : ℕ) → SameIds t (terms (said (notes.TimedOut serial) ∷ ms))
  lapsed_ids serial = let c = lapses_clock (begun_in (t.sent serial)) t in ids_of t (terms (said (notes.TimedOut serial) ∷ ms)) c.generation c.ids

-- who is found stays so
found_stays : (start : List Disk) (ms later : List Moment) (x : Holder) (place : ℕ) (login : Login) → (target_at start later).table ≡ (target_at start ms).table → SameIds (terms ms) (terms later) → IsFoundBy start ms x place login → IsFoundBy start later x place login
found_stays start ms later x place login same ids f = record {
  unit_is = f.unit_is;
  found =
      ap (λ id. place_on (target_at start later) login.unit id) (ids (x.initiator + 1))
      ∙ ap (λ (y : Table). unwrap_or (find (is_of_node login.unit (id_for (terms ms) 0 (x.initiator + 1))) y.places) 8) same
      ∙ f.found;
}

-- ---- another world with the same units
units_same : (start : List Disk) (past later : List Moment) (w v : WorldState) (disks : List Disk) → units_in start later v ≡ units_in start past w → v.target ≡ w.target → Units start past w disks → Units start later v disks
units_same start past later w v disks e t m =
    subst (λ ts. Match ts v.target.units disks) (sym e) (subst (λ (n : NodeState). Match (units_in start past w) n.units disks) (sym t) m)

noted : (start : List Disk) (past : List Moment) (note : Note) (w : WorldState) (disks : List Disk) → SparesUnits note → Units start past w disks → Units start past (with_note note w) disks
noted start past note w disks f m = units_same start past past w (with_note note w) disks (one_note start past note w f) refl m

-- an initiator has a turn
own_turn : (start : List Disk) (past : List Moment) (node weight : ℕ) (outbox : OutboxState) (w v : WorldState) (disks : List Disk) → AreOwn outbox.sides → units_in start past v ≡ units_in start past w → v.target ≡ w.target → Units start past w disks → Units start past (handed_out node weight outbox v) disks
own_turn start past node weight outbox w v disks own e t m =
    units_same start past past w (handed_out node weight outbox v) disks (own_hands start past node weight outbox v own ∙ e) ((handed_alike node weight outbox v).target ∙ t) m

-- the target has one
target_turn : (start : List Disk) (past : List Moment) (v : WorldState) (x : TargetScene) (places : List (Option Login)) (first : List PlainDisk) (disks : List Disk) → v.target ≡ x.node → units_in start past v ≡ first → places_in start past v ≡ places → AreFound start past v places → Leaves places first x disks → Units start past (handed_out 0 0 x.outbox v) disks
target_turn start past v x places first disks node_is units_are table f l =
    let last = handed_out 0 0 x.outbox v in
    let units_now : units_in start past last ≡ l.now = target_hands start past x.outbox v places l.now table f (subst (λ ts. Makes places ts l.now x.outbox.sides) (sym units_are) l.makes) in
    let target_now : last.target ≡ x.node = (handed_alike 0 0 x.outbox v).target ∙ node_is in
    subst (λ ts. Match ts last.target.units disks) (sym units_now) (subst (λ (n : NodeState). Match l.now n.units disks) (sym target_now) l.match)

-- and tells of no unit
spared_turn : (start : List Disk) (past : List Moment) (w v : WorldState) (x : TargetScene) (disks : List Disk) → v.target ≡ x.node → units_in start past v ≡ units_in start past w → AllSpare x.outbox.sides → x.node.units ≡ w.target.units → Units start past w disks → Units start past (handed_out 0 0 x.outbox v) disks
spared_turn start past w v x disks node_is units_are spare same m =
    let last = handed_out 0 0 x.outbox v in
    let target_now : last.target ≡ x.node = (handed_alike 0 0 x.outbox v).target ∙ node_is in
    subst (λ ts. Match ts last.target.units disks) (sym (spared_hands start past x.outbox v spare ∙ units_are))
    (subst (λ (n : NodeState). Match (units_in start past w) n.units disks) (sym target_now) (subst (λ us. Match (units_in start past w) us disks) (sym same) m))

-- ---- turns of the target
module _ (units ready : ℕ) (has : 0 < units) (start : List Disk) {past : List Moment} {lines : ℕ} (w : WorldState) (h : Holding units ready start past lines w) (q : Seats w) where
  good : Good w.target
  good = good_of units ready h.calls w.target has h.made

  -- each live login is found by who has its place
  held_found : (place : ℕ) (login : Login) → is_live login ≡ true → IsHeld (terms (hist past w)) (length w.initiators) (target_at start (hist past w)) w.places place login → IsFoundBy start (hist past w) (holder w place) place login
  held_found place login live i =
      subst (λ (x : Holder). IsFoundBy start (hist past w) x place login) (sym (ap or_nobody i.there)) (record { unit_is = i.unit_is; found = (i.live live).place_is })

  all_found : AreFound start past w w.target.logins.places
  all_found place login e live = held_found place login live ((are_held units ready has start w h q).held place login e)

  -- and behind the first note of a turn
  found_behind : (v : WorldState) (note : Note) → hist past v ≡ said note ∷ hist past w → v.places ≡ w.places → (target_at start (said note ∷ hist past w)).table ≡ (target_at start (hist past w)).table → SameIds (terms (hist past w)) (terms (said note ∷ hist past w)) → AreFound start past v w.target.logins.places
  found_behind v note e p same ids place login there live =
      subst (λ ms. IsFoundBy start ms (holder v place) place login) (sym e)
      (subst (λ ps. IsFoundBy start (said note ∷ hist past w) (holder_at ps place) place login) (sym p)
      (found_stays start (hist past w) (said note ∷ hist past w) (holder w place) place login same ids (all_found place login there live)))

  -- ---- a packet is delivered
  module _ (serial : ℕ) (sent : Sent) (run : Option Told) (media : Held) (again : Bool) (m : Units start past w media.disks) where
    abbrev r : Judged × Whole
    r = received run sent.generation sent.bytes (whole_of w.target media)

    abbrev judged_world : WorldState
    judged_world = with_note (judged_note serial r.0) (marked serial again (with_target r.1.node w))

    delivery_units : Units start past (handed_out 0 0 r.1.outbox judged_world) r.1.disks
    delivery_units =
        let v = judged_world in
        let ms = hist past w in
        let note = judged_note serial r.0 in
        let e : hist past v ≡ said note ∷ ms = ap (λ xs. said note ∷ xs) (marked_hist past serial again (with_target r.1.node w)) in
        let same = judged_same start ms r.0 serial in
        target_turn start past v (scene r.1.node r.1.outbox) w.target.logins.places (units_in start past w) r.1.disks (marked_alike (with_target r.1.node w) serial again).target
        (ap (λ xs. (target_at start xs).units) e ∙ same.0)
        (ap (λ xs. (target_at start xs).table.places) e ∙ ap (λ (y : Table). y.places) (same.1 ∙ h.at.agrees.table))
        (found_behind v note e (marked_same serial again (with_target r.1.node w)) same.1 (judged_ids start ms r.0 serial))
        (delivery_leaves w.target good (units_in start past w) media.disks m run sent.generation sent.bytes)

  -- ---- a transaction times out
  module _ (request : Request) (serial : ℕ) (disks : List Disk) (m : Units start past w disks) where
    abbrev lapsed : TargetScene
    lapsed = alone (lets_expire request.peer request.label) w.target

    lapse_turn : Units start past (handed_out 0 0 lapsed.outbox (with_note (notes.TimedOut serial) (with_target lapsed.node w))) disks
    lapse_turn =
        let x = lapsed in
        let v = with_note (notes.TimedOut serial) (with_target x.node w) in
        let ms = hist past w in
        let same = lapse_same serial ms (known_at start ms).wire (target_at start ms) in
        target_turn start past v x w.target.logins.places (units_in start past w) disks refl same.0 (ap (λ (y : Table). y.places) (same.1 ∙ h.at.agrees.table))
        (found_behind v (notes.TimedOut serial) refl refl same.1 (lapsed_ids start ms serial))
        (lapse_leaves w.target good (units_in start past w) disks m request.peer request.label)

    lapse_units : (line : ℕ) (y : Result (Unit {0}) Stale × TargetScene) → expired request.peer request.label (scene w.target empty_outbox) ≡ y → request.node ≡ 0 → Units start past (timed_out line serial request.node (packets.at_target (target_left y w.target) w)) disks
    lapse_units line (Err stale, x) e z = noted start past (notes.Refused line no_packet) w disks tt m
    lapse_units line (Ok done, x) e z =
        subst (λ n. Units start past (handed_out n 0 x.outbox (with_note (notes.TimedOut serial) (with_target x.node w))) disks) (sym z)
        (subst (λ (y : TargetScene). Units start past (handed_out 0 0 y.outbox (with_note (notes.TimedOut serial) (with_target y.node w))) disks) (ap (λ (y : Result (Unit {0}) Stale × TargetScene). y.1) e) lapse_turn)

-- ---- a second, a sight and a key
module _ (start : List Disk) (past : List Moment) (w : WorldState) (disks : List Disk) (m : Units start past w disks) where
  tick_units : Units start past (tick_line w) disks
  unfolding tick_line target_ticks
  tick_units =
      let x = alone ticks w.target in
      let s = second_spares w.target in
      spared_turn start past w (with_target x.node (with_note notes.Tick w)) x disks refl (one_note start past notes.Tick w tt) s.told s.units m

  sight_units : Units start past (see_line 0 w) disks
  unfolding see_line world_nodes.sees target_sees
  sight_units =
      let x = alone (sees w.generations.latest.generation (id_of w.generations.latest 0)) w.target in
      let s = sight_spares w.target w.generations.latest.generation (id_of w.generations.latest 0) in
      spared_turn start past w (with_target x.node (with_seen 0 (told_seen 0 w))) x disks refl (one_note start past (notes.Seen 0 w.generations.latest.generation) w tt) s.told s.units m

  key_units : (line unit : ℕ) (key : List ℕ) → Units start past (keyed line unit key w) disks
  unfolding keyed
  key_units line unit key = by (nat_lt unit (length w.target.units))
    where
      by : (b : Bool) → Units start past (cond b (with_note (notes.Key unit) (with_target (with_key unit key w.target) w)) (refused line no_unit w)) disks
      by true =
          let units_are = one_note start past (notes.Key unit) w tt in
          subst (λ ts. Match ts w.target.units disks) (sym units_are) m
      by false = noted start past (notes.Refused line no_unit) w disks tt m

  -- ---- other lines
  refuses : (line number : ℕ) → Units start past (refused line number w) disks
  refuses line number = noted start past (notes.Refused line number) w disks tt m

  acts_by : (line i : ℕ) (action : Action) (r : Option ℕ × Turn) → own.At r.1 → Units start past (acted_by r line i action w) disks
  acts_by line i action (Some number, turn) tells =
      units_same start past past w (refused line number (with_initiator i turn.1 w)) disks (one_note start past (notes.Refused line number) w tt) refl m
  acts_by line i action (None, turn) tells =
      own_turn start past (i + 1) (weight_in action) turn.0 w (with_initiator i turn.1 w) disks tells refl refl m

  acts : (line i : ℕ) (action : Action) → Units start past (acted line i action w) disks
  unfolding acted
  acts line i action = acts_by line i action (act_step action empty_outbox (initiator_at w i)) (own.acts action empty_outbox (initiator_at w i) tt)

  loses : (line serial : ℕ) → Units start past (lose_line line serial w) disks
  unfolding lose_line
  loses line serial = by (is_in_flight serial w)
    where
      by : (b : Bool) → Units start past (cond b (lost serial w) (refused line no_packet w)) disks
      by true = units_same start past past w (lost serial w) disks (one_note start past (notes.Lost serial) w tt) refl m
      by false = refuses line no_packet

  posted_units : (from to : ℕ) (bytes : List ℕ) → Units start past (posted from to true bytes w) disks
  unfolding posted
  posted_units from to bytes = units_same start past past w (posted from to true bytes w) disks (posts start past from to true bytes w) refl m

  injects_to : (line i : ℕ) (bytes : List ℕ) (to : Option ℕ) → Units start past (injected to line (i + 1) bytes w) disks
  injects_to line i bytes None = refuses line no_node
  injects_to line i bytes (Some to) = posted_units (i + 1) to bytes

  injects : (line i : ℕ) (bytes : List ℕ) → Units start past (inject_line line i bytes w) disks
  unfolding inject_line
  injects line i bytes = injects_to line i bytes (injected_to (i + 1) bytes w)

  sees_own : (i : ℕ) → Units start past (see_line (suc i) w) disks
  unfolding see_line world_nodes.sees
  sees_own i = by (nat_eq (suc i) 0) (let e : nat_eq (suc i) 0 ≡ false = grind arith in e)
    where
      told_world : WorldState
      told_world = with_seen (suc i) (told_seen (suc i) w)

      by : (b : Bool) → b ≡ false → Units start past (handed_all (suc i) (if b then target_learns told_world else initiator_learns (suc i) told_world)) disks
      by true e = absurd (let x : true ≡ false = e in cc)
      by false e =
          let turn : Turn = see_step told_world.generations.latest.generation (id_of told_world.generations.latest (suc i)) (id_of told_world.generations.latest 0) empty_outbox (initiator_at told_world (suc i - 1)) in
          own_turn start past (suc i) 0 turn.0 w (with_initiator (suc i - 1) turn.1 told_world) disks
          (own.sees told_world.generations.latest.generation (id_of told_world.generations.latest (suc i)) (id_of told_world.generations.latest 0) empty_outbox (initiator_at told_world (suc i - 1)) tt)
          (one_note start past (notes.Seen (suc i) w.generations.latest.generation) w tt) refl m

  resets : (physical : List ℕ) → Units start past (reset_line physical w) disks
  unfolding reset_line
  resets physical = units_same start past past w (reset_line physical w) disks (one_note start past (notes.Reset (w.generations.latest.generation + 1)) w tt) refl m

  sights : (node : ℕ) → Units start past (see_line node w) disks
  sights zero = sight_units
  sights (suc i) = sees_own i

module _ (units ready : ℕ) (has : 0 < units) (start : List Disk) where
  -- ---- a transaction times out
  module _ {past : List Moment} {lines : ℕ} (w : WorldState) (h : Holding units ready start past lines w) (q : Seats w) (disks : List Disk) (m : Units start past w disks) (line serial : ℕ) where
    lapses_own : (request : Request) (i j : ℕ) → request.node ≡ suc i → (r : Bool × Turn) → own.At r.1 → Units start past (timed_out line serial request.node (at_initiator j r w)) disks
    lapses_own request i j e (true, turn) tells =
        subst (λ n. Units start past (handed_out n 0 turn.0 (with_note (notes.TimedOut serial) (with_initiator j turn.1 w))) disks) (sym e)
        (own_turn start past (suc i) 0 turn.0 w (with_note (notes.TimedOut serial) (with_initiator j turn.1 w)) disks tells (one_note start past (notes.TimedOut serial) w tt) refl m)
    lapses_own request i j e (false, turn) tells =
        units_same start past past w (refused line no_packet (with_initiator j turn.1 w)) disks (one_note start past (notes.Refused line no_packet) w tt) refl m

    own_if : (request : Request) (i j : ℕ) → request.node ≡ suc i → (b : Bool) → Units start past (timed_out line serial request.node (if b then at_initiator j (expire_step request.label empty_outbox (initiator_at w j)) w else (false, (empty_outbox, w)))) disks
    own_if request i j e true = lapses_own request i j e (expire_step request.label empty_outbox (initiator_at w j)) (own.expires request.label empty_outbox (initiator_at w j) tt)
    own_if request i j e false = refuses start past w disks m line no_packet

    lapses_at : (request : Request) (node : ℕ) → request.node ≡ node → Units start past (timed_out line serial request.node (expires request w)) disks
    unfolding expires target_expired
    lapses_at request zero e =
        let is_zero : nat_eq request.node 0 ≡ true = grind arith in
        subst (λ b. Units start past (timed_out line serial request.node (if b then packets.at_target (target_expired request w.target) w else initiator_expires request w)) disks) (sym is_zero)
        (lapse_units units ready has start w h q request serial disks m line (expired request.peer request.label (scene w.target empty_outbox)) refl e)
    lapses_at request (suc i) e =
        let other : nat_eq request.node 0 ≡ false = grind arith in
        subst (λ b. Units start past (timed_out line serial request.node (if b then packets.at_target (target_expired request w.target) w else initiator_expires request w)) disks) (sym other)
        (own_if request i (request.node - 1) e (nat_lt (request.node - 1) (length w.initiators)))

    times_out_by : (so : Option Request) → Units start past (timeout_of so line serial w) disks
    times_out_by None = refuses start past w disks m line no_packet
    times_out_by (Some request) = lapses_at request request.node refl

    times_out : Units start past (timeout_line line serial w) disks
    unfolding timeout_line
    times_out = times_out_by (find_request w.requests serial)

  -- ---- a packet is delivered
  abbrev Here : List Moment → Scene → Type 0
  Here past s = Units start past s.world s.media.disks

  module _ {past : List Moment} {lines : ℕ} (s : Scene) (h : Holding units ready start past lines s.world) (q : Seats s.world) (m : Units start past s.world s.media.disks) (serial : ℕ) (again : Bool) (run : Option Told) where
    module _ (sent : Sent) (found : found_sent serial s.world.store.kept ≡ Some sent) where
      heard_target : sent.to ≡ 0 → Here past (delivered serial again run s)
      unfolding delivered target_received arrived
      heard_target zero_to =
          let w = s.world in
          let r = received run sent.generation sent.bytes (whole_of w.target s.media) in
          let last_is : delivered serial again run s ≡ delivered_by serial again (at_target sent.to (target_received run sent w.target s.media) s) =
          ap (λ (x : Option Arrival × (OutboxState × Scene)). delivered_by serial again x)
          (received_is run serial s sent found ∙ ap (λ b. cond b (at_target sent.to (target_received run sent w.target s.media) s) (initiator_received sent s)) (to_zero sent.to zero_to)) in
          subst (Here past) (sym last_is)
          (subst (λ n. Units start past (handed_out n 0 r.1.outbox (with_note (judged_note serial r.0) (marked serial again (with_target r.1.node w)))) r.1.disks) (sym zero_to)
          (delivery_units units ready has start w h q serial sent run s.media again m))

      heard_own : (i : ℕ) → sent.to ≡ suc i → i < length s.world.initiators → Here past (delivered serial again run s)
      unfolding delivered initiators_received arrived
      heard_own i to_is inside =
          let w = s.world in
          let r = receive_step sent.generation sent.bytes empty_outbox (slice_index_or w.initiators i (new_state 0 false)) in
          let states = slice_set w.initiators i r.1.1 in
          let first = marked serial again (with_initiators states w) in
          let note = judged_note serial r.0 in
          let v = with_note note first in
          let a = marked_alike (with_initiators states w) serial again in
          let last_is : delivered serial again run s ≡ delivered_by serial again (delivering.at_initiator sent.to (initiators_received i sent w.initiators) s) =
          ap (λ (x : Option Arrival × (OutboxState × Scene)). delivered_by serial again x) (to_own run serial i s sent found to_is ∙ own_inside sent i s inside) in
          let units_are : units_in start past v ≡ units_in start past w =
          ap (λ ms. (target_at start (said note ∷ ms)).units) (marked_hist past serial again (with_initiators states w)) ∙ (judged_same start (hist past w) r.0 serial).0 in
          subst (Here past) (sym last_is) (own_turn start past sent.to 0 r.1.0 w v s.media.disks (own.receives sent.generation sent.bytes empty_outbox (slice_index_or w.initiators i (new_state 0 false)) tt) units_are a.target m)

      heard_none : (i : ℕ) → sent.to ≡ suc i → length s.world.initiators ≤ i → Here past (delivered serial again run s)
      unfolding delivered
      heard_none i to_is outside =
          subst (Here past) (sym (ap (λ (x : Option Arrival × (OutboxState × Scene)). delivered_by serial again x) (to_own run serial i s sent found to_is ∙ own_outside sent i s outside))) m

      heard_at : (to : ℕ) → sent.to ≡ to → Here past (delivered serial again run s)
      heard_at zero e = heard_target e
      heard_at (suc i) e = by (nat_lt i (length s.world.initiators)) refl
        where
          by : (b : Bool) → nat_lt i (length s.world.initiators) ≡ b → Here past (delivered serial again run s)
          by true f = heard_own i e (grind arith)
          by false f = heard_none i e (grind arith)

    heard_by : (so : Option Sent) → found_sent serial s.world.store.kept ≡ so → Here past (delivered serial again run s)
    unfolding delivered received_step
    heard_by None e = subst (Here past) (sym (ap (λ o. delivered_by serial again (received_by run o s)) e)) m
    heard_by (Some sent) e = heard_at sent e sent.to refl

    heard : Here past (delivered serial again run s)
    heard = heard_by (found_sent serial s.world.store.kept) refl

  delivers_if : {past : List Moment} {lines : ℕ} (b : Bool) (line serial : ℕ) (again : Bool) (told : List (Option Told)) (s : Scene) → Holding units ready start past lines s.world → Seats s.world → Here past s → Here past (delivered_if b line serial again told s)
  delivers_if true line serial again told s h q m = heard s h q m serial again (first_told told)
  delivers_if {past} false line serial again told s h q m = refuses start past s.world s.media.disks m line no_packet

  next_heard : {past : List Moment} {lines : ℕ} (told : Option Told) (s : Scene) → Holding units ready start past lines s.world → Seats s.world → Here past s → (o : Option ℕ) → Here past (delivered_at o told s)
  next_heard told s h q m None = m
  next_heard told s h q m (Some serial) = heard s h q m serial false told

  pub all_units : {past : List Moment} {lines : ℕ} (told : List (Option Told)) → AreTold told → (s : Scene) → Holding units ready start past lines s.world → Seats s.world → Units start past s.world s.media.disks → (terms past).repeats ≡ false → (let x = after_all told s in Units start past x.world x.media.disks)
  unfolding delivered_next
  all_units [] t s h q m r = m
  all_units (told ∷ before) t s h q m r =
      next_heard told (after_all before s) (all_heard units ready has start before t.1 s h r) (all_seats units ready has start before t.1 s h q r) (all_units before t.1 s h q m r) (lowest (after_all before s).world)

  ends : (past : List Moment) (w : WorldState) (b : Bool) (disks : List Disk) → Units start past w disks → Units start past (with_note (end_note b) w) disks
  ends past w true disks m = noted start past notes.Settled w disks tt m
  ends past w false disks m = noted start past notes.Stopped w disks tt m

  -- ---- a line
  pub opened : (past : List Moment) (line : ℕ) (event : Event) (w : WorldState) (disks : List Disk) → Units start past w disks → Units start (asked line event ∷ hist past w) (without_notes w) disks
  opened past line event w disks m =
      units_same start past (asked line event ∷ hist past w) w (without_notes w) disks (is_over (target_at start (hist past w))).0 refl m

  pub line_units : {past : List Moment} {lines : ℕ} (line : ℕ) (event : Event) (told : List (Option Told)) (s : Scene) → IsLine event (length s.world.initiators) → AreTold told → Holding units ready start past lines s.world → Seats s.world → Units start past s.world s.media.disks → (let x = happens line event told s in Units start (asked line event ∷ hist past s.world) x.world x.media.disks)
  unfolding happens
  line_units line (events.Begin initiators is_ready) told s l t h q m = absurd l
  line_units {past} line (events.Act initiator action) told s l t h q m =
      let e = events.Act initiator action in
      acts start (asked line e ∷ hist past s.world) (without_notes s.world) s.media.disks (opened past line e s.world s.media.disks m) line initiator action
  line_units {past} line (events.Reset physical) told s l t h q m =
      let e = events.Reset physical in
      resets start (asked line e ∷ hist past s.world) (without_notes s.world) s.media.disks (opened past line e s.world s.media.disks m) physical
  line_units {past} line (events.See node) told s l t h q m =
      let e = events.See node in
      sights start (asked line e ∷ hist past s.world) (without_notes s.world) s.media.disks (opened past line e s.world s.media.disks m) node
  line_units {past} line (events.Deliver serial) told s l t h q m =
      let e = events.Deliver serial in
      delivers_if (is_in_flight serial (begun s).world) line serial false told (begun s) (opens units ready has start line e s.world refl h) (opened_seats units ready has start s.world q) (opened past line e s.world s.media.disks m)
  line_units {past} line (events.Repeat serial) told s l t h q m =
      let e = events.Repeat serial in
      delivers_if (may_repeat serial (begun s).world) line serial true told (begun s) (opens units ready has start line e s.world refl h) (opened_seats units ready has start s.world q) (opened past line e s.world s.media.disks m)
  line_units {past} line (events.Lose serial) told s l t h q m =
      let e = events.Lose serial in
      loses start (asked line e ∷ hist past s.world) (without_notes s.world) s.media.disks (opened past line e s.world s.media.disks m) line serial
  line_units {past} line (events.Timeout serial) told s l t h q m =
      let e = events.Timeout serial in
      times_out (without_notes s.world) (opens units ready has start line e s.world refl h) (opened_seats units ready has start s.world q) s.media.disks (opened past line e s.world s.media.disks m) line serial
  line_units {past} line (events.Step count) told s l t h q m =
      let e = events.Step count in
      all_units told t (begun s) (opens units ready has start line e s.world refl h) (opened_seats units ready has start s.world q) (opened past line e s.world s.media.disks m) refl
  line_units {past} line events.Settle told s l t h q m =
      let e = events.Settle in
      let x = after_all told (begun s) in
      ends (asked line e ∷ hist past s.world) x.world (is_settled x.world) x.media.disks
      (all_units told t (begun s) (opens units ready has start line e s.world refl h) (opened_seats units ready has start s.world q) (opened past line e s.world s.media.disks m) refl)
  line_units {past} line events.Tick told s l t h q m =
      let e = events.Tick in
      tick_units start (asked line e ∷ hist past s.world) (without_notes s.world) s.media.disks (opened past line e s.world s.media.disks m)
  line_units {past} line (events.Inject initiator bytes) told s l t h q m =
      let e = events.Inject initiator bytes in
      injects start (asked line e ∷ hist past s.world) (without_notes s.world) s.media.disks (opened past line e s.world s.media.disks m) line initiator bytes
  line_units {past} line (events.Key unit key) told s l t h q m =
      let e = events.Key unit key in
      key_units start (asked line e ∷ hist past s.world) (without_notes s.world) s.media.disks (opened past line e s.world s.media.disks m) line unit key
