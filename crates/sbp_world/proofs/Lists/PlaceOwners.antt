-- Behind a turn of a world the place of an agent that is out of RESET is that of the initiator which had it before: in the turn of a login its agent is in RESET.
use Rattle.sbp_world.proofs.Words.Std.{arith, ◌≡◌, ◌∙◌, ◌⊎◌, inl, inr, refl, sym, ap, subst, ◌<◌, ◌≤◌, not, ◌||◌, ℕ, zero, suc, nat_eq, nat_lt, Bool, true, false, cond, List, [], ◌∷◌, length, Option, Some, None, Result, Ok, Err, slice_index_or, slice_set, nat_tests}
use Rattle.sbp_world.proofs.Words.Wire.{Stale, Layer, expiring_step, Sent, found_sent, is_flying, deliver_step, Holder, Request, id_of, end_note, judged_note, no_packet, holder_at, or_nobody, find, list_in, Judged, Event, OutboxState, empty_outbox, Moment}
use Rattle.sbp_world.proofs.Words.Target.{point_step, Disk, Told, alone, sees, ticks, Purpose, NodeState, TargetScene, scene, expired, expired_in, received, with_key, Whole, orb_of}
use Rattle.sbp_world.proofs.Words.Initiator.{new_state, receive_step}
use Rattle.sbp_world.proofs.Words.World.{Arrival, arrived, at_target, delivered, delivered_by, initiator_received, initiators_received, marked, received_by, received_step, target_received, whole_of, with_initiators, handed_out, MayHappen, acted, happens, keyed, no_unit, reset_line, see_line, target_sees, target_ticks, tick_line, told_seen, with_seen, MayIf, delivered_if, expires, initiator_expires, inject_line, is_in_flight, lose_line, may_repeat, refused, target_expired, target_left, timed_out, timeout_line, timeout_of, MayNext, delivered_at, delivered_next, lowest, holder, ticket_at, told_all, IsLine, Scene, WorldState, begun, with_note, with_target, without_notes, AreHeldAt}
use Rattle.sbp_world.proofs.Lists.Walks.{Turn, by_delivery as turn_delivery, by_end as turn_end, by_line as turn_line, by_start as turn_start}
use Rattle.sbp_journal.specs.declared.event.Event.TheVariants as events
use Rattle.sbp_journal.specs.declared.note.Note.TheVariants as notes
use Rattle.sbp_world.specs.Nodes as nodes
use Rattle.sbp_world.specs.Packets as packets
use Rattle.sbp_world.specs.Settling as settling
use Rattle.sbp_target.proofs.Histories.Calling.{Good}
use Rattle.sbp_world.proofs.Wire.Comes.{own_inside, own_outside, received_is, to_own, to_zero}
use Rattle.sbp_world.proofs.Wire.Nodes.{handed_alike}
use Rattle.sbp_world.proofs.Agents.Peers.{all_sent_places}
use Rattle.sbp_world.proofs.Agents.Management.Holding.{Holding, good_of}
use Rattle.sbp_world.proofs.Agents.Management.Still.{hist}
use Rattle.sbp_world.proofs.Lists.Adds.{Stays}
use Rattle.sbp_world.proofs.Lists.Courses.{Goes, by_delivery, by_end, by_line, by_start}
use Rattle.sbp_world.proofs.Lists.Lines.{hears, own_lapses, own_sight}
use Rattle.sbp_world.proofs.Lists.OpenCuts.{Here, Listing, Open}
use Rattle.sbp_world.proofs.Lists.OpenDeliveries.{Points, delivery_open, lapse_open}
use Rattle.sbp_world.proofs.Lists.OpenManages as manages
use Rattle.sbp_world.proofs.Lists.OpenTurns.{AreSeated, Before, begins, sound}
use Rattle.sbp_world.proofs.Lists.OpenedOthers.{OthersDo, acts_does, injects_does, loses_does, refused_does, resets_does}
use Rattle.sbp_world.proofs.Lists.Turned.{IsOne}

-- the place of an agent that is out of RESET then is of the initiator that had it
abbrev pub Owns : WorldState → WorldState → Type 0
Owns w v = (p : ℕ) → p < 8 → Listing v.target p → (holder v p).initiator ≡ (holder w p).initiator

pub places_own : (w v : WorldState) → v.places ≡ w.places → Owns w v
places_own w v e p b l = ap (λ ps. (holder_at ps p).initiator) e

stays_own : (past : List Moment) (w v : WorldState) → Stays (λ i. false) past w v → Owns w v
stays_own past w v s = places_own w v s.places

-- what is known of a place
pub record IsSeatedWell (w : WorldState) : Type 0 where
  pub good : Good w.target
  pub seats : AreSeated w

module _ (w : WorldState) (f : IsSeatedWell w) where
  abbrev O : WorldState → Type 0
  O v = Owns w v

  -- a call of the target
  handed_own : (u : WorldState) (node : NodeState) (outbox : OutboxState) → u.target ≡ node → ((p : ℕ) → p < 8 → Listing node p → (holder (told_all 0 outbox.sides u) p).initiator ≡ (holder w p).initiator) → O (handed_out 0 0 outbox u)
  handed_own u node outbox target held p b l =
      ap (λ ps. (holder_at ps p).initiator) (all_sent_places 0 outbox.packets (told_all 0 outbox.sides u))
      ∙ held p b (subst (λ (n : NodeState). Listing n p) ((handed_alike 0 0 outbox u).target ∙ target) l)

  pub open_holders : (u : WorldState) (s : TargetScene) → Open u (holder w) (Before w f.good f.seats) w.target.logins.places (sound w f.good f.seats) s → (p : ℕ) → p < 8 → Listing s.node p → (holder (told_all 0 s.outbox.sides u) p).initiator ≡ (holder w p).initiator
  open_holders u s k p b l = ap (λ (h : Option Holder). (or_nobody h).initiator) (k.kept p b l)

  -- a packet that the target gets
  module _ (serial : ℕ) (sent : Sent) (run : Option Told) (s : Scene) (again : Bool) where
    abbrev x : Judged × Whole
    x = received run sent.generation sent.bytes (whole_of w.target s.media)

    abbrev u : WorldState
    u = with_note (judged_note serial x.0) (marked serial again (with_target x.1.node w))

    record Marks : Type 0 where
      places : u.places ≡ w.places
      target : u.target ≡ x.1.node

    marks : Marks
    marks = by (again || not (is_flying serial w.store.kept))
      where
        Of : Bool → Type 0
        Of b = let y = cond b (with_target x.1.node w) (record (with_target x.1.node w) { store = deliver_step w.store serial }) in (y.places ≡ w.places) × (y.target ≡ x.1.node)

        of : (b : Bool) → Of b
        of true = (refl, refl)
        of false = (refl, refl)

        by : Bool → Marks
        by b = let m = of (again || not (is_flying serial w.store.kept)) in record { places = m.0; target = m.1 }

    point_holders : Points w f.good f.seats u marks.places sent run s.media x.0 (scene x.1.node x.1.outbox) → (p : ℕ) → p < 8 → Listing x.1.node p → (holder (told_all 0 x.1.outbox.sides u) p).initiator ≡ (holder w p).initiator
    point_holders k p b l = ap (λ (h : Option Holder). (or_nobody h).initiator) (k.after.0.kept p b l) ∙ pick (nat_eq p k.place) refl
      where
        new : Holder
        new = record (holder w k.place) { list = list_in (ticket_at u k.place (orb_of (point_step (Here w.target k.place) k.pointer).1)) }

        pick : (c : Bool) → nat_eq p k.place ≡ c → (cond c new (holder w p)).initiator ≡ (holder w p).initiator
        pick true e = ap (λ q. (holder w q).initiator) (let same : k.place ≡ p = grind (arith, nat_tests) in same)
        pick false e = refl

    pub delivery_holders : (p : ℕ) → p < 8 → Listing x.1.node p → (holder (told_all 0 x.1.outbox.sides u) p).initiator ≡ (holder w p).initiator
    delivery_holders = by (delivery_open w f.good f.seats u marks.places sent run s.media)
      where
        by : Open u (holder w) (Before w f.good f.seats) w.target.logins.places (sound w f.good f.seats) (scene x.1.node x.1.outbox) ⊎ Points w f.good f.seats u marks.places sent run s.media x.0 (scene x.1.node x.1.outbox) → (p : ℕ) → p < 8 → Listing x.1.node p → (holder (told_all 0 x.1.outbox.sides u) p).initiator ≡ (holder w p).initiator
        by (inl k) = open_holders u (scene x.1.node x.1.outbox) k
        by (inr k) = point_holders k

    delivery_own : O (handed_out 0 0 x.1.outbox u)
    delivery_own = handed_own u x.1.node x.1.outbox marks.target delivery_holders

  -- a transaction of it that times out
  module _ (line serial : ℕ) (request : Request) (zero_node : request.node ≡ 0) where
    abbrev Left : Result (Unit {0}) Stale × TargetScene → WorldState
    Left y = timed_out line serial request.node (packets.at_target (target_left y w.target) w)

    lapse_by : (y : Result (Option Purpose) Stale × Layer Purpose) → O (Left (expired_in y request.peer request.label (scene w.target empty_outbox)))
    lapse_by (Ok purpose, layer) =
        let t = (expired_in (Ok purpose, layer) request.peer request.label (scene w.target empty_outbox)).1 in
        let u = with_note (notes.TimedOut serial) (with_target t.node w) in
        subst (λ n. O (handed_out n 0 t.outbox u)) (sym zero_node) (handed_own u t.node t.outbox refl (open_holders u t (lapse_open w f.good f.seats u refl layer request.peer request.label purpose)))
    lapse_by (Err stale, layer) = places_own w (refused line no_packet w) refl

    lapse_own : O (Left (expired request.peer request.label (scene w.target empty_outbox)))
    unfolding expired
    lapse_own = lapse_by (expiring_step w.target.layer request.peer request.label)

  -- a generation that it sees, a second, a key
  sight_own : O (see_line 0 w)
  unfolding see_line nodes.sees target_sees
  sight_own =
      let g = w.generations.latest in
      let t = alone (sees g.generation (id_of g 0)) w.target in
      let u = with_target t.node (with_seen 0 (told_seen 0 w)) in
      handed_own u t.node t.outbox refl
      (open_holders u t (manages.sees u (holder w) (Before w f.good f.seats) w.target.logins (sound w f.good f.seats) g.generation (id_of g 0) (scene w.target empty_outbox) (begins w f.good f.seats u refl w.target.layer)))

  tick_own : O (tick_line w)
  unfolding tick_line target_ticks
  tick_own =
      let t = alone ticks w.target in
      let u = with_target t.node (with_note notes.Tick w) in
      handed_own u t.node t.outbox refl
      (open_holders u t (manages.ticks u (holder w) (Before w f.good f.seats) w.target.logins (sound w f.good f.seats) (scene w.target empty_outbox) refl (begins w f.good f.seats u refl w.target.layer)))

  key_own : (line unit : ℕ) (key : List ℕ) → O (keyed line unit key w)
  unfolding keyed
  key_own line unit key = by (nat_lt unit (length w.target.units))
    where
      by : (b : Bool) → O (cond b (with_note (notes.Key unit) (with_target (with_key unit key w.target) w)) (refused line no_unit w))
      by true = places_own w (with_note (notes.Key unit) (with_target (with_key unit key w.target) w)) refl
      by false = places_own w (refused line no_unit w) refl

  module _ (past : List Moment) (line serial : ℕ) where
    lapses_at : (request : Request) (node : ℕ) → request.node ≡ node → O (timed_out line serial request.node (expires request w))
    unfolding expires target_expired
    lapses_at request zero e =
        let is_zero : nat_eq request.node 0 ≡ true = grind arith in
        subst (λ b. O (timed_out line serial request.node (cond b (packets.at_target (target_expired request w.target) w) (initiator_expires request w)))) (sym is_zero) (lapse_own line serial request e)
    lapses_at request (suc i) e =
        let other : nat_eq request.node 0 ≡ false = grind arith in
        subst (λ b. O (timed_out line serial request.node (cond b (packets.at_target (target_expired request w.target) w) (initiator_expires request w)))) (sym other)
        (stays_own past w (timed_out line serial request.node (initiator_expires request w)) (own_lapses (λ i. false) past line serial request w))

    late_by : (so : Option Request) → O (timeout_of so line serial w)
    late_by None = places_own w (refused line no_packet w) refl
    late_by (Some request) = lapses_at request request.node refl

    late_own : O (timeout_line line serial w)
    unfolding timeout_line
    late_own = late_by (find w.requests serial)

-- ---- a packet is delivered
module _ (past : List Moment) (s : Scene) (f : IsSeatedWell s.world) (serial : ℕ) (again : Bool) (run : Option Told) where
  abbrev from : WorldState
  from = s.world

  abbrev end : WorldState
  end = (delivered serial again run s).world

  abbrev E : WorldState → Type 0
  E v = Owns from v

  module _ (sent : Sent) (found : found_sent serial from.store.kept ≡ Some sent) where
    heard_target : sent.to ≡ 0 → E end
    unfolding delivered target_received arrived
    heard_target zero_to =
        let x = target_received run sent from.target s.media in
        let last_is : end ≡ handed_out 0 0 x.1.0 (with_note (judged_note serial x.0) (marked serial again (with_target x.1.1.0 from))) =
        ap (λ (y : Option Arrival × (OutboxState × Scene)). (delivered_by serial again y).world)
        (received_is run serial s sent found ∙ ap (λ b. cond b (at_target sent.to (target_received run sent from.target s.media) s) (initiator_received sent s)) (to_zero sent.to zero_to))
        ∙ ap (λ n. handed_out n 0 x.1.0 (with_note (judged_note serial x.0) (marked serial again (with_target x.1.1.0 from)))) zero_to in
        subst E (sym last_is) (delivery_own from f serial sent run s again)

    heard_own : (i : ℕ) → sent.to ≡ suc i → i < length from.initiators → E end
    unfolding delivered initiators_received arrived
    heard_own i to_is inside =
        let x = receive_step sent.generation sent.bytes empty_outbox (slice_index_or from.initiators i (new_state 0 false)) in
        let v = with_note (judged_note serial x.0) (marked serial again (with_initiators (slice_set from.initiators i x.1.1) from)) in
        let last_is : end ≡ handed_out sent.to 0 x.1.0 v =
        ap (λ (y : Option Arrival × (OutboxState × Scene)). (delivered_by serial again y).world) (to_own run serial i s sent found to_is ∙ own_inside sent i s inside) in
        let is = last_is ∙ ap (λ n. handed_out n 0 x.1.0 v) to_is in
        stays_own past from end (subst (Stays (λ i. false) past from) (sym is) (hears (λ i. false) past serial i again sent from))

    heard_none : (i : ℕ) → sent.to ≡ suc i → length from.initiators ≤ i → E end
    unfolding delivered
    heard_none i to_is outside =
        subst E (sym (ap (λ (y : Option Arrival × (OutboxState × Scene)). (delivered_by serial again y).world) (to_own run serial i s sent found to_is ∙ own_outside sent i s outside))) (places_own from from refl)

    heard_at : (to : ℕ) → sent.to ≡ to → E end
    heard_at zero e = heard_target e
    heard_at (suc i) e = by (nat_lt i (length from.initiators)) refl
      where
        by : (b : Bool) → nat_lt i (length from.initiators) ≡ b → E end
        by true f = heard_own i e (grind arith)
        by false f = heard_none i e (grind arith)

  heard_by : (so : Option Sent) → found_sent serial from.store.kept ≡ so → E end
  unfolding delivered received_step
  heard_by None e = subst E (sym (ap (λ o. (delivered_by serial again (received_by run o s)).world) e)) (places_own from from refl)
  heard_by (Some sent) e = heard_at sent e sent.to refl

  heard : E end
  heard = heard_by (found_sent serial from.store.kept) refl

next_heard : (past : List Moment) (s : Scene) → IsSeatedWell s.world → (one : Option Told) (so : Option ℕ) → settling.MayAt so one s → Owns s.world (delivered_at so one s).world
next_heard past s f one None m = absurd m
next_heard past s f one (Some serial) m = heard past s f serial false one

delivery_owns : (past : List Moment) (s : Scene) → IsSeatedWell s.world → (one : Option Told) → MayNext one s → Owns s.world (delivered_next one s).world
unfolding delivered_next MayNext
delivery_owns past s f one m = next_heard past s f one (lowest s.world) m

-- ---- a line that delivers one packet at most
module _ (past : List Moment) (line : ℕ) (s : Scene) (f : IsSeatedWell (begun s).world) where
  abbrev w0 : WorldState
  w0 = without_notes s.world

  others : (v : WorldState) → OthersDo w0 v → Owns w0 v
  others v d = places_own w0 v d.places

  one_heard : (serial : ℕ) (again b : Bool) (told : List (Option Told)) → MayIf b serial told (begun s) → Owns w0 (delivered_if b line serial again told (begun s)).world
  one_heard serial again true [] m = absurd m
  one_heard serial again true (one ∷ []) m = heard past (begun s) f serial again one
  one_heard serial again true (one ∷ other ∷ more) m = absurd m
  one_heard serial again false told m = others (refused line no_packet w0) (refused_does s.world line no_packet)

  sights : (node : ℕ) → Owns w0 (see_line node w0)
  sights zero = sight_own w0 f
  sights (suc i) = stays_own past w0 (see_line (suc i) w0) (own_sight (λ i. false) past w0 i)

  line_owns : (event : Event) (told : List (Option Told)) → IsOne event → IsLine event (length s.world.initiators) → MayHappen event told s → Owns w0 (happens line event told s).world
  unfolding happens MayHappen
  line_owns (events.Begin initiators is_ready) told o q m = absurd q
  line_owns (events.Act i action) told o q m = others (acted line i action w0) (acts_does s.world line i action)
  line_owns (events.Reset physical) told o q m = others (reset_line physical w0) (resets_does s.world physical)
  line_owns (events.See node) told o q m = sights node
  line_owns (events.Deliver serial) told o q m = one_heard serial false (is_in_flight serial (begun s).world) told m
  line_owns (events.Repeat serial) told o q m = one_heard serial true (may_repeat serial (begun s).world) told m
  line_owns (events.Lose serial) told o q m = others (lose_line line serial w0) (loses_does s.world line serial)
  line_owns (events.Timeout serial) told o q m = late_own w0 f past line serial
  line_owns (events.Step count) told o q m = absurd o
  line_owns events.Settle told o q m = absurd o
  line_owns events.Tick told o q m = tick_own w0 f
  line_owns (events.Inject i bytes) told o q m = others (inject_line line i bytes w0) (injects_does s.world line i bytes)
  line_owns (events.Key unit key) told o q m = key_own w0 f line unit key

-- ---- a turn
goes_owns : (past : List Moment) (s : Scene) (later : List Moment) (t : Scene) → Goes past s later t → IsSeatedWell s.world → Owns s.world t.world
goes_owns _ _ _ _ (by_line past s line event told one fit may) f = line_owns (hist past s.world) line s (record { good = f.good; seats = λ p login e. let k = f.seats p login e in record { holder_is = k.holder_is; there = k.there; id_is = k.id_is } }) event told one fit may
goes_owns _ _ _ _ (by_start past s line most) f = places_own s.world (begun s).world refl
goes_owns _ _ _ _ (by_delivery past s one may no_act) f = delivery_owns past s f one may
goes_owns _ _ _ _ (by_end past s done) f = places_own s.world (with_note (end_note done) s.world) refl

turn_own : (past : List Moment) (s : Scene) (later : List Moment) (t : Scene) → Turn past s later t → IsSeatedWell s.world → Owns s.world t.world
turn_own _ _ _ _ (turn_line past s line event told one fit may) f = line_owns (hist past s.world) line s (record { good = f.good; seats = λ p login e. let k = f.seats p login e in record { holder_is = k.holder_is; there = k.there; id_is = k.id_is } }) event told one fit may
turn_own _ _ _ _ (turn_start past s line event d) f = places_own s.world (begun s).world refl
turn_own _ _ _ _ (turn_delivery past s one may) f = delivery_owns past s f one may
turn_own _ _ _ _ (turn_end past s done) f = places_own s.world (with_note (end_note done) s.world) refl

module _ (units ready : ℕ) (has : 0 < units) (start : List Disk) {past : List Moment} {lines : ℕ} (s : Scene) (h : Holding units ready start past lines s.world) (held : AreHeldAt start (hist past s.world) s.world) where
  seated : IsSeatedWell s.world
  seated = record {
    good = good_of units ready h.calls s.world.target has h.made;
    seats = λ p login e. let k = held.held p login e in record { holder_is = k.holder; there = k.there; id_is = k.login_is };
  }

  pub turn_owns : (later : List Moment) (t : Scene) → Goes past s later t → Owns s.world t.world
  turn_owns later t g = goes_owns past s later t g seated

  pub walk_owns : (later : List Moment) (t : Scene) → Turn past s later t → Owns s.world t.world
  walk_owns later t turn = turn_own past s later t turn seated
