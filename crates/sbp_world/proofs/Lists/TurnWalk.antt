-- Each turn of a run leaves the target, gives a unit a key, or is one call of the target and what that hands out.
use Rattle.sbp_world.proofs.Words.Std.{arith, ◌≡◌, ◌∙◌, refl, sym, ap, subst, inl, inr, ◌<◌, ◌≤◌, ◌||◌, not, ℕ, zero, suc, nat_eq, nat_lt, Bool, true, false, cond, List, [], ◌∷◌, ◌++◌, map, length, Option, Some, None, Result, Ok, Err, slice_index_or, slice_set}
use Rattle.sbp_world.proofs.Words.Wire.{LabelParts, Packet, Stale, Layer, expiring_step, judging_step, of_response, Sent, found_sent, is_flying, deliver_step, Request, id_of, judged_note, no_packet, find, Judged, Event, Note, OutboxState, empty_outbox, Moment, asked, said}
use Rattle.sbp_world.proofs.Words.Target.{Disk, Told, Call, alone, lets_expire, receives, sees, ticks, Purpose, TargetScene, scene, expired, expired_in, received, received_as, with_key, with_layer, Whole}
use Rattle.sbp_world.proofs.Words.Initiator.{new_state, receive_step}
use Rattle.sbp_world.proofs.Words.Laws.{OrderLaw}
use Rattle.sbp_world.proofs.Words.World.{Arrival, MayAt, MayReceive, MayTold, arrived, at_target, delivered, delivered_by, initiator_received, initiators_received, marked, received_by, received_step, target_received, whole_of, with_initiators, handed_out, MayHappen, happens, keyed, no_unit, see_line, target_sees, target_ticks, tick_line, told_seen, with_seen, MayIf, delivered_if, expires, initiator_expires, is_in_flight, may_repeat, refused, target_expired, target_left, timed_out, timeout_line, timeout_of, MayNext, delivered_at, delivered_next, lowest, IsLine, Scene, WorldState, begun, initiator_at, with_note, with_target, without_notes, AreRows, AreOthers}
use Rattle.sbp_journal.specs.declared.event.Event.TheVariants as events
use Rattle.sbp_journal.specs.declared.note.Note.TheVariants as notes
use Rattle.sbp_target.proofs.Histories.Calling.{Good}
use Rattle.sbp_world.specs.Nodes as nodes
use Rattle.sbp_world.specs.Packets as packets
use Rattle.sbp_world.specs.Settling as settling
use Rattle.sbp_world.proofs.Wire.Comes.{own_inside, own_outside, received_is, to_own, to_zero}
use Rattle.sbp_world.proofs.Agents.Management.Holding.{good_of}
use Rattle.sbp_world.proofs.Agents.Management.Still.{hist}
use Rattle.sbp_world.proofs.Hosts.Hands.{hand_law}
use Rattle.sbp_world.proofs.Hosts.StepLaws.{step_law}
use Rattle.sbp_world.proofs.Lists.Adds.{stays_same}
use Rattle.sbp_world.proofs.Lists.BusyDeliveries.{Called, delivery_called, lapse_called, sight_called, tick_called}
use Rattle.sbp_world.proofs.Lists.Full.{IsFull, full_closed}
use Rattle.sbp_world.proofs.Lists.Lines.{acts, hears, injects, loses, own_lapses, own_sight, refuses, resets}
use Rattle.sbp_world.proofs.Lists.PlaceOwners.{IsSeatedWell}
use Rattle.sbp_world.proofs.Lists.Stays.{stays_end}
use Rattle.sbp_world.proofs.Lists.TurnAway.{acts_none, end_none, hears_none, injects_none, lapses_none, loses_none, refuses_none, resets_none, same_none, sight_none}
use Rattle.sbp_world.proofs.Lists.TurnCalls.{IsCalled, Comes, TurnCalls, TurnFrom, calls, is_sight, keyed as key_set, leaves}
use Rattle.sbp_world.proofs.Lists.Turned.{IsOne}
use Rattle.sbp_world.proofs.Lists.Turns.{First, late_it, seen_it, tick_it}
use Rattle.sbp_world.proofs.Lists.Walks.{Standing, Step, Turn, by_delivery, by_end, by_line, by_start}
use Rattle.sbp_world.proofs.Lists.Deliveries.{first_of}

-- the numbers of the initiators
abbrev pub AreNumbered : List Moment → WorldState → Type 0
AreNumbered ms w = (i : ℕ) → i < length w.initiators → (initiator_at w i).number ≡ i

module _ (wild : ℕ → Bool) (past : List Moment) where
  abbrev T : WorldState → WorldState → Type 0
  T w v = TurnCalls wild past w v

  -- ---- a call of the target, which is this by what it is then and what it hands out
  record CallTo (w v : WorldState) (call : Call) (t : TargetScene) : Type 0 where
    good : Good w.target
    u : WorldState
    first : Note
    starts : First first
    fresh : hist past u ≡ said first ∷ hist past w
    places : u.places ≡ w.places
    bus : is_sight call ≡ false → u.generations ≡ w.generations
    target : u.target ≡ t.node
    layer : Layer Purpose
    called : Called w good ⊥ (λ p m. IsFull m) full_closed layer t
    others : AreOthers t.outbox.sides
    comes : (run : Option Told) (disks : List Disk) (generation : ℕ) (bytes : List ℕ) → call ≡ receives run disks generation bytes → Comes w first generation bytes
    is : v ≡ handed_out 0 0 t.outbox u

  by_call : (w v : WorldState) (call : Call) (t : TargetScene) → alone call w.target ≡ t → CallTo w v call t → T w v
  by_call w v call t e c =
      let k = subst (CallTo w v call) (sym e) c in
      calls (record {
        good = k.good;
        call = call;
        u = k.u;
        first = k.first;
        starts = k.starts;
        fresh = k.fresh;
        places = k.places;
        bus = k.bus;
        target = k.target;
        layer = k.layer;
        called = k.called;
        others = k.others;
        comes = k.comes;
        is = k.is;
      })

  module _ (w : WorldState) (f : IsSeatedWell w) where
    -- a packet that the target gets
    module _ (serial : ℕ) (sent : Sent) (found : found_sent serial w.store.kept ≡ Some sent) (zero_to : sent.to ≡ 0) (run : Option Told) (s : Scene) (again : Bool) (others : AreOthers (received run sent.generation sent.bytes (whole_of w.target s.media)).1.outbox.sides) where
      abbrev x : Judged × Whole
      x = received run sent.generation sent.bytes (whole_of w.target s.media)

      abbrev u : WorldState
      u = with_note (judged_note serial x.0) (marked serial again (with_target x.1.node w))

      pub record Marks : Type 0 where
        pub places : u.places ≡ w.places
        pub generations : u.generations ≡ w.generations
        pub fresh : u.fresh ≡ judged_note serial x.0 ∷ w.fresh
        pub target : u.target ≡ x.1.node

      pub marks : Marks
      marks = by (again || not (is_flying serial w.store.kept))
        where
          Of : Bool → Type 0
          Of b = let y = cond b (with_target x.1.node w) (record (with_target x.1.node w) { store = deliver_step w.store serial }) in (y.places ≡ w.places) × ((y.generations ≡ w.generations) × ((y.fresh ≡ w.fresh) × (y.target ≡ x.1.node)))

          of : (b : Bool) → Of b
          of true = (refl, (refl, (refl, refl)))
          of false = (refl, (refl, (refl, refl)))

          by : Bool → Marks
          by b = let m = of (again || not (is_flying serial w.store.kept)) in record { places = m.0; generations = m.1.0; fresh = ap (λ ns. judged_note serial x.0 ∷ ns) m.1.1.0; target = m.1.1.1 }

      -- a response is got
      heard_got : (packet : Packet) (label : LabelParts) (purpose : Option Purpose) → (judging_step w.target.layer sent.generation sent.bytes).0 ≡ of_response packet label purpose → judged_note serial x.0 ≡ notes.Got serial
      unfolding received
      heard_got packet label purpose e =
          let found = judging_step w.target.layer sent.generation sent.bytes in
          ap (λ f. judged_note serial (received_as run sent.bytes f (with_layer found.1 (whole_of w.target s.media))).0) e

      pub came_by : (other : Option Told) (disks : List Disk) (generation : ℕ) (bytes : List ℕ) → receives run s.media.disks sent.generation sent.bytes ≡ receives other disks generation bytes → Comes w (judged_note serial x.0) generation bytes
      came_by other disks generation bytes e =
          let same_generation : sent.generation ≡ generation = cc in
          let same_bytes : sent.bytes ≡ bytes = cc in
          record {
            serial = serial;
            sent = sent;
            found = found;
            to = zero_to;
            generation_is = same_generation;
            bytes_is = same_bytes;
            got = λ packet label purpose f. heard_got packet label purpose (ap (λ g. (judging_step w.target.layer g sent.bytes).0) same_generation ∙ (ap (λ b. (judging_step w.target.layer generation b).0) same_bytes ∙ f));
          }

      unfoldable pub delivery_is_called : IsCalled past w (handed_out 0 0 x.1.outbox u)
      delivery_is_called = record {
        good = f.good;
        call = receives run s.media.disks sent.generation sent.bytes;
        u = u;
        first = judged_note serial x.0;
        starts = first_of serial x.0;
        fresh = ap (λ ns. map said ns ++ past) marks.fresh;
        places = marks.places;
        bus = λ e. marks.generations;
        target = marks.target;
        layer = (judging_step w.target.layer sent.generation sent.bytes).1;
        called = delivery_called w f.good ⊥ (λ p m. IsFull m) full_closed f.seats sent run s.media (λ p label place found b login served which e given. absurd given);
        others = others;
        comes = came_by;
        is = refl;
      }

      delivery_calls : T w (handed_out 0 0 x.1.outbox u)
      delivery_calls = calls delivery_is_called

    -- a transaction of the target times out
    module _ (line serial : ℕ) (request : Request) (zero_node : request.node ≡ 0) where
      abbrev Left : Result (Unit {0}) Stale × TargetScene → WorldState
      Left y = timed_out line serial request.node (packets.at_target (target_left y w.target) w)

      abbrev Expired : Result (Option Purpose) Stale × Layer Purpose → Result (Unit {0}) Stale × TargetScene
      Expired y = expired_in y request.peer request.label (scene w.target empty_outbox)

      lapse_by : (y : Result (Option Purpose) Stale × Layer Purpose) → alone (lets_expire request.peer request.label) w.target ≡ (Expired y).1 → AreOthers (Expired y).1.outbox.sides → T w (Left (Expired y))
      lapse_by (Ok purpose, layer) e others =
          let t = (Expired (Ok purpose, layer)).1 in
          let u = with_note (notes.TimedOut serial) (with_target t.node w) in
          subst (λ n. T w (handed_out n 0 t.outbox u)) (sym zero_node)
          (by_call w (handed_out 0 0 t.outbox u) (lets_expire request.peer request.label) t e
          (record {
            good = f.good;
            u = u;
            first = notes.TimedOut serial;
            starts = late_it serial;
            fresh = refl;
            places = refl;
            bus = λ e. refl;
            target = refl;
            layer = layer;
            called = lapse_called w f.good ⊥ (λ p m. IsFull m) full_closed f.seats layer request.peer request.label purpose;
            others = others;
            comes = λ run disks generation bytes z. absurd (let no : lets_expire request.peer request.label ≡ receives run disks generation bytes = z in cc);
            is = refl;
          }))
      lapse_by (Err stale, layer) e others = leaves (refuses wild past line no_packet w) (refuses_none past line no_packet w)

      lapse_calls : T w (Left (expired request.peer request.label (scene w.target empty_outbox)))
      unfolding expired
      lapse_calls = lapse_by (expiring_step w.target.layer request.peer request.label) refl (hand_law.expires request.peer request.label w.target)

    -- a generation that it sees, a second, a key
    sight_calls : T w (see_line 0 w)
    unfolding see_line nodes.sees target_sees
    sight_calls =
        let g = w.generations.latest in
        let t = alone (sees g.generation (id_of g 0)) w.target in
        let u = with_target t.node (with_seen 0 (told_seen 0 w)) in
        by_call w (handed_out 0 0 t.outbox u) (sees g.generation (id_of g 0)) t refl
        (record {
          good = f.good;
          u = u;
          first = notes.Seen 0 g.generation;
          starts = seen_it 0 g.generation;
          fresh = refl;
          places = refl;
          bus = λ e. absurd (let z : true ≡ false = e in cc);
          target = refl;
          layer = w.target.layer;
          called = sight_called w f.good ⊥ (λ p m. IsFull m) full_closed g.generation (id_of g 0);
          others = hand_law.sees g.generation (id_of g 0) w.target;
          comes = λ run disks generation bytes z. absurd (let no : sees g.generation (id_of g 0) ≡ receives run disks generation bytes = z in cc);
          is = refl;
        })

    tick_calls : T w (tick_line w)
    unfolding tick_line target_ticks
    tick_calls =
        let t = alone ticks w.target in
        let u = with_target t.node (with_note notes.Tick w) in
        by_call w (handed_out 0 0 t.outbox u) ticks t refl
        (record {
          good = f.good;
          u = u;
          first = notes.Tick;
          starts = tick_it;
          fresh = refl;
          places = refl;
          bus = λ e. refl;
          target = refl;
          layer = w.target.layer;
          called = tick_called w f.good ⊥ (λ p m. IsFull m) full_closed;
          others = hand_law.ticks w.target;
          comes = λ run disks generation bytes z. absurd (let no : ticks ≡ receives run disks generation bytes = z in cc);
          is = refl;
        })

  key_calls : (w : WorldState) (line unit : ℕ) (key : List ℕ) → T w (keyed line unit key w)
  unfolding keyed
  key_calls w line unit key = by (nat_lt unit (length w.target.units))
    where
      by : (b : Bool) → T w (cond b (with_note (notes.Key unit) (with_target (with_key unit key w.target) w)) (refused line no_unit w))
      by true = key_set unit key refl refl refl
      by false = leaves (refuses wild past line no_unit w) (refuses_none past line no_unit w)

  -- ---- a packet is delivered
  module _ (s : Scene) (f : IsSeatedWell s.world) (serial : ℕ) (again : Bool) (run : Option Told) where
    abbrev W : WorldState
    W = s.world

    abbrev end : WorldState
    end = (delivered serial again run s).world

    module _ (sent : Sent) (found : found_sent serial W.store.kept ≡ Some sent) where
      heard_target : sent.to ≡ 0 → AreOthers (target_received run sent W.target s.media).1.0.sides → T W end
      unfolding delivered target_received arrived
      heard_target zero_to others =
          let x = target_received run sent W.target s.media in
          let last_is : end ≡ handed_out 0 0 x.1.0 (with_note (judged_note serial x.0) (marked serial again (with_target x.1.1.0 W))) =
          ap (λ (y : Option Arrival × (OutboxState × Scene)). (delivered_by serial again y).world)
          (received_is run serial s sent found ∙ ap (λ b. cond b (at_target sent.to (target_received run sent W.target s.media) s) (initiator_received sent s)) (to_zero sent.to zero_to))
          ∙ ap (λ n. handed_out n 0 x.1.0 (with_note (judged_note serial x.0) (marked serial again (with_target x.1.1.0 W)))) zero_to in
          subst (T W) (sym last_is) (delivery_calls W f serial sent found zero_to run s again others)

      heard_own : (i : ℕ) → sent.to ≡ suc i → i < length W.initiators → T W end
      unfolding delivered initiators_received arrived
      heard_own i to_is inside =
          let x = receive_step sent.generation sent.bytes empty_outbox (slice_index_or W.initiators i (new_state 0 false)) in
          let v = with_note (judged_note serial x.0) (marked serial again (with_initiators (slice_set W.initiators i x.1.1) W)) in
          let last_is : end ≡ handed_out sent.to 0 x.1.0 v =
          ap (λ (y : Option Arrival × (OutboxState × Scene)). (delivered_by serial again y).world) (to_own run serial i s sent found to_is ∙ own_inside sent i s inside) in
          let is = last_is ∙ ap (λ n. handed_out n 0 x.1.0 v) to_is in
          subst (T W) (sym is) (leaves (hears wild past serial i again sent W) (hears_none past serial i again sent W found to_is))

      heard_none : (i : ℕ) → sent.to ≡ suc i → length W.initiators ≤ i → T W end
      unfolding delivered
      heard_none i to_is outside =
          subst (T W) (sym (ap (λ (y : Option Arrival × (OutboxState × Scene)). (delivered_by serial again y).world) (to_own run serial i s sent found to_is ∙ own_outside sent i s outside)))
          (leaves (stays_same wild past W) (same_none past W))

      heard_at : (to : ℕ) → sent.to ≡ to → (sent.to ≡ 0 → AreOthers (target_received run sent W.target s.media).1.0.sides) → T W end
      heard_at zero e others = heard_target e (others e)
      heard_at (suc i) e others = by (nat_lt i (length W.initiators)) refl
        where
          by : (b : Bool) → nat_lt i (length W.initiators) ≡ b → T W end
          by true f = heard_own i e (grind arith)
          by false f = heard_none i e (grind arith)

    heard_by : (so : Option Sent) → found_sent serial W.store.kept ≡ so → MayAt run so s → T W end
    unfolding delivered received_step
    heard_by None e m = subst (T W) (sym (ap (λ o. (delivered_by serial again (received_by run o s)).world) e)) (leaves (stays_same wild past W) (same_none past W))
    heard_by (Some sent) e m = heard_at sent e sent.to refl (λ z. hand_law.received run sent W.target s.media (subst (λ b. MayTold b run sent s) (to_zero sent.to z) m))

    heard : MayReceive run serial s → T W end
    unfolding MayReceive
    heard m = heard_by (found_sent serial W.store.kept) refl m

  next_heard : (s : Scene) → IsSeatedWell s.world → (one : Option Told) (so : Option ℕ) → settling.MayAt so one s → T s.world (delivered_at so one s).world
  next_heard s f one None m = absurd m
  next_heard s f one (Some serial) m = heard s f serial false one m

  delivery_turn : (s : Scene) (one : Option Told) → MayNext one s → IsSeatedWell s.world → T s.world (delivered_next one s).world
  unfolding delivered_next MayNext
  delivery_turn s one m f = next_heard s f one (lowest s.world) m

  -- ---- a transaction times out
  module _ (w : WorldState) (f : IsSeatedWell w) (line serial : ℕ) where
    lapses_at : (request : Request) (node : ℕ) → request.node ≡ node → T w (timed_out line serial request.node (expires request w))
    unfolding expires target_expired
    lapses_at request zero e =
        let is_zero : nat_eq request.node 0 ≡ true = grind arith in
        subst (λ b. T w (timed_out line serial request.node (cond b (packets.at_target (target_expired request w.target) w) (initiator_expires request w)))) (sym is_zero) (lapse_calls w f line serial request e)
    lapses_at request (suc i) e =
        let other : nat_eq request.node 0 ≡ false = grind arith in
        subst (λ b. T w (timed_out line serial request.node (cond b (packets.at_target (target_expired request w.target) w) (initiator_expires request w)))) (sym other)
        (leaves (own_lapses wild past line serial request w) (lapses_none past line serial request w (λ z. absurd (omega (arith, e, z)))))

    late_by : (so : Option Request) → T w (timeout_of so line serial w)
    late_by None = leaves (refuses wild past line no_packet w) (refuses_none past line no_packet w)
    late_by (Some request) = lapses_at request request.node refl

    late : T w (timeout_line line serial w)
    unfolding timeout_line
    late = late_by (find w.requests serial)

  -- ---- a line that delivers one packet at most
  one_heard : (s : Scene) → IsSeatedWell s.world → (line serial : ℕ) (again b : Bool) (told : List (Option Told)) → MayIf b serial told s → T s.world (delivered_if b line serial again told s).world
  one_heard s f line serial again true [] m = absurd m
  one_heard s f line serial again true (one ∷ []) m = heard s f serial again one m
  one_heard s f line serial again true (one ∷ other ∷ more) m = absurd m
  one_heard s f line serial again false told m = leaves (refuses wild past line no_packet s.world) (refuses_none past line no_packet s.world)

  sights : (w : WorldState) → IsSeatedWell w → (node : ℕ) → T w (see_line node w)
  sights w f zero = sight_calls w f
  sights w f (suc i) = leaves (own_sight wild past w i) (sight_none past w i)

-- ---- a line
line_calls : (wild : ℕ → Bool) (past : List Moment) (line : ℕ) (s : Scene) (event : Event) (told : List (Option Told)) → IsOne event → IsLine event (length s.world.initiators) → MayHappen event told s → AreNumbered (hist past s.world) s.world → ((i : ℕ) → i < length s.world.initiators → AreRows (asked line event ∷ hist past s.world) i (initiator_at s.world i).lists.slots) → OrderLaw wild (asked line event ∷ hist past s.world) → IsSeatedWell (without_notes s.world) → TurnCalls wild (asked line event ∷ hist past s.world) (without_notes s.world) (happens line event told s).world
unfolding happens MayHappen
line_calls wild past line s (events.Begin initiators is_ready) told o q m number rows law f = absurd q
line_calls wild past line s (events.Act i action) told o q m number rows law f =
    let now = asked line (events.Act i action) ∷ hist past s.world in
    let w = without_notes s.world in
    leaves (acts wild now line i action w (number i q.0) (rows i q.0) law) (acts_none now line i action w)
line_calls wild past line s (events.Reset physical) told o q m number rows law f =
    let now = asked line (events.Reset physical) ∷ hist past s.world in let w = without_notes s.world in leaves (resets wild now w physical) (resets_none now w physical)
line_calls wild past line s (events.See node) told o q m number rows law f = sights wild (asked line (events.See node) ∷ hist past s.world) (without_notes s.world) f node
line_calls wild past line s (events.Deliver serial) told o q m number rows law f =
    one_heard wild (asked line (events.Deliver serial) ∷ hist past s.world) (begun s) f line serial false (is_in_flight serial (begun s).world) told m
line_calls wild past line s (events.Repeat serial) told o q m number rows law f =
    one_heard wild (asked line (events.Repeat serial) ∷ hist past s.world) (begun s) f line serial true (may_repeat serial (begun s).world) told m
line_calls wild past line s (events.Lose serial) told o q m number rows law f =
    let now = asked line (events.Lose serial) ∷ hist past s.world in let w = without_notes s.world in leaves (loses wild now w line serial) (loses_none now w line serial)
line_calls wild past line s (events.Timeout serial) told o q m number rows law f = late wild (asked line (events.Timeout serial) ∷ hist past s.world) (without_notes s.world) f line serial
line_calls wild past line s (events.Step count) told o q m number rows law f = absurd o
line_calls wild past line s events.Settle told o q m number rows law f = absurd o
line_calls wild past line s events.Tick told o q m number rows law f = tick_calls wild (asked line events.Tick ∷ hist past s.world) (without_notes s.world) f
line_calls wild past line s (events.Inject i bytes) told o q m number rows law f =
    let now = asked line (events.Inject i bytes) ∷ hist past s.world in let w = without_notes s.world in leaves (injects wild now w line i bytes) (injects_none now w line i bytes)
line_calls wild past line s (events.Key unit key) told o q m number rows law f = key_calls wild (asked line (events.Key unit key) ∷ hist past s.world) (without_notes s.world) line unit key

-- ---- each turn
pub begun_seated : (w : WorldState) → IsSeatedWell w → IsSeatedWell (without_notes w)
begun_seated w f = record { good = f.good; seats = λ p login e. let k = f.seats p login e in record { holder_is = k.holder_is; there = k.there; id_is = k.id_is } }

pub turn_calls : (wild : ℕ → Bool) (past : List Moment) (s : Scene) (later : List Moment) (t : Scene) → Turn past s later t → IsSeatedWell s.world → AreNumbered (hist past s.world) s.world → ((i : ℕ) → i < length s.world.initiators → AreRows (hist past s.world) i (initiator_at s.world i).lists.slots) → OrderLaw wild (hist past s.world) → TurnFrom wild past s.world later t.world
turn_calls wild _ _ _ _ (by_line past s line event told o q m) f number rows law = record {
  w = without_notes s.world;
  target = refl;
  places = refl;
  bus = refl;
  store = refl;
  begins = inr (line, (event, refl));
  turn = line_calls wild past line s event told o q m number (λ i c. step_law.asked line event (hist past s.world) i (initiator_at s.world i).lists.slots (rows i c)) (tt, law) (begun_seated s.world f);
}
turn_calls wild _ _ _ _ (by_start past s line event d) f number rows law =
    let now = asked line event ∷ hist past s.world in
    let w = without_notes s.world in
    record { w = w; target = refl; places = refl; bus = refl; store = refl; begins = inr (line, (event, refl)); turn = leaves (stays_same wild now w) (same_none now w) }
turn_calls wild _ _ _ _ (by_delivery past s one m) f number rows law = record { w = s.world; target = refl; places = refl; bus = refl; store = refl; begins = inl refl; turn = delivery_turn wild past s one m f }
turn_calls wild _ _ _ _ (by_end past s done) f number rows law = record { w = s.world; target = refl; places = refl; bus = refl; store = refl; begins = inl refl; turn = leaves (stays_end wild past done s.world) (end_none past done s.world) }

-- the places of the target by what is known of a place
pub seated_of : (wild : ℕ → Bool) (units ready : ℕ) → 0 < units → (start : List Disk) (past : List Moment) (lines : ℕ) (w : WorldState) → Standing wild units ready start past lines w → IsSeatedWell w
seated_of wild units ready has start past lines w s = record {
  good = good_of units ready s.reached.holds.calls w.target has s.reached.holds.made;
  seats = λ p login e. let k = s.reached.site.held.held p login e in record { holder_is = k.holder; there = k.there; id_is = k.login_is };
}

pub turn_from : (wild : ℕ → Bool) (units ready : ℕ) → 0 < units → (start : List Disk) (Q U : List Moment → WorldState → Type 0) (past : List Moment) (s : Scene) (later : List Moment) (t : Scene) → Step wild units ready start Q U past s later t → AreNumbered (hist past s.world) s.world → TurnFrom wild past s.world later t.world
turn_from wild units ready has start Q U past s later t step number =
    turn_calls wild past s later t step.turn (seated_of wild units ready has start past step.lines s.world step.stands) number step.stands.reached.site.rows step.stands.reached.kept.law
