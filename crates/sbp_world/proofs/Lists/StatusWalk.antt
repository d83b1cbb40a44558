-- Each turn of a run sends each status to an initiator that injected no packets as it is to be: where this is known of what the management and the answers of agents
-- write. A delivery to the target, or a time-out of its own, sends statuses; every other line none.
use Rattle.sbp_world.proofs.Words.Std.{arith, ◌≡◌, ◌∙◌, refl, sym, ap, subst, ◌<◌, ◌≤◌, ◌||◌, not, ℕ, suc, nat_eq, Bool, true, false, cond, List, [], ◌∷◌, length, Option, Some, None, Result, Ok, Err}
use Rattle.sbp_world.proofs.Words.Wire.{Packet, Stale, Layer, expiring_step, judging_step, of_request, Sent, found_sent, is_flying, deliver_step, Request, end_note, judged_note, no_packet, find, Event, Note, empty_outbox, Moment, asked, Sending, terms}
use Rattle.sbp_world.proofs.Words.Target.{point_step, Held, Told, Purpose, manage, NodeState, TargetScene, scene, expired, expired_in, received, is_barred, demand_of}
use Rattle.sbp_world.proofs.Words.Initiator.{Ask, OrbPointer, Answer}
use Rattle.sbp_world.proofs.Words.Laws.{EachMoment}
use Rattle.sbp_world.proofs.Words.World.{MayAt, MayReceive, MayTold, delivered, marked, target_received, whole_of, handed_out, MayHappen, happens, MayIf, delivered_if, expires, initiator_expires, is_in_flight, may_repeat, target_expired, target_left, timed_out, timeout_line, timeout_of, MayNext, delivered_at, delivered_next, lowest, IsLine, Scene, WorldState, begun, initiator_at, with_note, with_target, without_notes, has_list, AreRows, AreOthers, IsFor, machine_at, AreOwnOf, AreStatuses, IsToHost, SentSo}
use Rattle.sbp_journal.specs.declared.event.Event.TheVariants as events
use Rattle.sbp_journal.specs.declared.note.Note.TheVariants as notes
use Rattle.sbp_world.specs.Packets as packets
use Rattle.sbp_world.specs.Settling as settling
use Rattle.sbp_world.proofs.Wire.Comes.{to_zero}
use Rattle.target_base.specs.declared.address.Access.TheVariants as accesses
use Rattle.target_base.specs.declared.address.Demand.TheVariants as demands
use Rattle.sbp_world.proofs.Agents.Management.Still.{hist}
use Rattle.sbp_world.proofs.Hosts.Hands.{hand_law}
use Rattle.sbp_world.proofs.Hosts.StepLaws.{step_law}
use Rattle.sbp_world.proofs.Lists.Deliveries.{waits_has}
use Rattle.sbp_world.proofs.Lists.Generations.{moment_generation}
use Rattle.sbp_world.proofs.Lists.NamedWrites.{Like, like_asked}
use Rattle.sbp_world.proofs.Lists.Passing.{PassLaw}
use Rattle.sbp_world.proofs.Lists.RunOutcomes.{AreAsked}
use Rattle.sbp_world.proofs.Lists.StatusActs.{first}
use Rattle.sbp_world.proofs.Lists.StatusLines.{S, acts, heard, injects, keys, loses, notes_on, refuses, resets, seconds, sights, target_is, times_out}
use Rattle.sbp_world.proofs.Lists.StatusTurn.{Acting, Answers, Behind, IsFirst, delivery_sends, judged_first, lapse_sends, late_first}
use Rattle.sbp_world.proofs.Lists.Stays.{ready_now}
use Rattle.sbp_world.proofs.Lists.Turned.{IsOne}
use Rattle.sbp_world.proofs.Lists.Turns.{Ready}
use Rattle.sbp_world.proofs.Lists.Walks.{Turn, by_delivery, by_end, by_line, by_start}

-- ---- as a line begins, statuses are as they were
module _ (line : ℕ) (event : Event) (ms : List Moment) (i : ℕ) (b : AreStatuses ms i) where
  abbrev now : List Moment
  now = asked line event ∷ ms

  like : Like ms now
  like = like_asked line event ms

  to_host : (serial : ℕ) (packet : Sending) → IsToHost now i serial packet → IsToHost ms i serial packet
  to_host serial packet t = record { is = ap (λ (f : ℕ → Option Sending). f serial) (sym like.sent) ∙ t.is; from_target = t.from_target; to_host = t.to_host }

  generation_same : (terms now).generation (suc i) ≡ (terms ms).generation (suc i)
  generation_same = ap (λ (f : ℕ → ℕ). f (suc i)) like.generation

  pub statuses_asked : AreStatuses now i
  statuses_asked = record {
    seen = λ serial slot block packet t write. let s = b.seen serial slot block packet (to_host serial packet t) write in subst (λ g. packet.generation ≤ g) (sym generation_same) s;
    waiting = λ serial slot block packet t write current fresh.
        let o = b.waiting serial slot block packet (to_host serial packet t) write (current ∙ generation_same) (ap (λ (f : ℕ → ℕ). f serial) (sym like.news) ∙ fresh) in
        record {
          list = o.list;
          number = o.number;
          sent = o.sent;
          ended = record { status = o.ended.status; is = o.ended.is; same = o.ended.same };
          has = record { there = o.has.there; held = o.has.held };
        };
    taken = (tt, b.taken);
  }

pub behind_marks : (w : WorldState) (node : NodeState) (serial : ℕ) (again : Bool) (note : Note) → Behind note w (with_note note (marked serial again (with_target node w)))
behind_marks w node serial again note = by (again || not (is_flying serial w.store.kept))
  where
    by : (b : Bool) → Behind note w (with_note note (cond b (with_target node w) (record (with_target node w) { store = deliver_step w.store serial })))
    by true = record { places = refl; initiators = refl; fresh = refl; generations = refl }
    by false = record { places = refl; initiators = refl; fresh = refl; generations = refl }

module _ (wild : ℕ → Bool) (i : ℕ) (own : wild i ≡ false) where
  -- what the answers of agents, and the management, are taken to write
  pub record Given (past : List Moment) (w : WorldState) (r : Ready wild past w) (statuses : AreStatuses (hist past w) i) (each : EachMoment (SentSo i) (hist past w)) (rows : AreRows (hist past w) i (initiator_at w i).lists.slots) : Type 0 where
    pub answers : (sent : Sent) (is_for : IsFor w sent) (run : Option Told) (media : Held) (serial : ℕ) → Answers wild i own past w r statuses each rows sent is_for run media serial
    pub owned : AreOwnOf w i
    pub managed : (layer : Layer Purpose) (s : TargetScene) (note : Note) → IsFirst note → (u : WorldState) → Behind note w u → AreOthers s.outbox.sides → (answer : Answer) → s ≡ manage answer (first w r.good layer) → S i past (handed_out 0 0 s.outbox u)

  module _ (Placed : WorldState → Type 0) where
    -- what is known of a place
    pub record Facts (past : List Moment) (w : WorldState) : Type 0 where
      pub ready : Ready wild past w
      pub statuses : AreStatuses (hist past w) i
      pub each : EachMoment (SentSo i) (hist past w)
      pub rows : AreRows (hist past w) i (initiator_at w i).lists.slots
      pub asked_orbs : AreAsked wild (hist past w) w
      pub placed : Placed w
      pub up : (q : ℕ) → q < 8 → has_list (machine_at w q).phase ≡ true → Acting wild i own past w q
      pub point_up : (sent : Sent) → IsFor w sent → (p : Packet) → (judging_step w.target.layer sent.generation sent.bytes).0 ≡ of_request p → is_barred w.target p ≡ false → (q : ℕ) → q < 8 → (pointer : OrbPointer) → demand_of (length w.target.rom) p ≡ demands.Agent q (accesses.Point pointer) → (ask : Ask) → (point_step (machine_at w q) pointer).0 ≡ Ok ask → Acting wild i own past w q

    up_asked : (line : ℕ) (event : Event) (past : List Moment) (w : WorldState) (q : ℕ) → Acting wild i own past w q → Acting wild i own (asked line event ∷ hist past w) (without_notes w) q
    up_asked line event past w q u =
        let same = moment_generation (suc i) (asked line event) (hist past w) refl in
        (record { mine = λ login e n. u.0.mine login e n; caught = λ m. let a = u.0.caught m in omega (arith, a, same); present = λ m g. u.0.present m (g ∙ same) }, λ login e. u.1 login e)

    module _ (placed_on : (w : WorldState) → Placed w → Placed (without_notes w)) where
      pub facts_asked : (line : ℕ) (event : Event) (past : List Moment) (w : WorldState) → Facts past w → Facts (asked line event ∷ hist past w) (without_notes w)
      facts_asked line event past w f = record {
        ready = ready_now wild line event past w f.ready;
        statuses = statuses_asked line event (hist past w) i f.statuses;
        each = (tt, f.each);
        rows = step_law.asked line event (hist past w) i (initiator_at w i).lists.slots f.rows;
        asked_orbs = λ place c is_open mine n list number from below. f.asked_orbs place c is_open mine n list number from below;
        placed = placed_on w f.placed;
        up = λ q b l. up_asked line event past w q (f.up q b l);
        point_up = λ sent is_for p judged bar q b pointer demand ask took. up_asked line event past w q (f.point_up sent (record { serial = is_for.serial; found = is_for.found; to = is_for.to }) p judged bar q b pointer demand ask took);
      }

      module _ (gives : (past : List Moment) (w : WorldState) (r : Ready wild past w) (statuses : AreStatuses (hist past w) i) (each : EachMoment (SentSo i) (hist past w)) (rows : AreRows (hist past w) i (initiator_at w i).lists.slots) → AreAsked wild (hist past w) w → Placed w → Given past w r statuses each rows) where
        module _ (past : List Moment) where
          abbrev Then : WorldState → Type 0
          Then v = PassLaw wild (hist past v)

          -- ---- a packet is delivered
          module _ (s : Scene) (f : Facts past s.world) (serial : ℕ) (again : Bool) (run : Option Told) where
            abbrev w : WorldState
            w = s.world

            abbrev end : WorldState
            end = (delivered serial again run s).world

            given : Given past w f.ready f.statuses f.each f.rows
            given = gives past w f.ready f.statuses f.each f.rows f.asked_orbs f.placed

            hands : MayReceive run serial s → Then end → (sent : Sent) (found : found_sent serial w.store.kept ≡ Some sent) → sent.to ≡ 0 → (let x = received run sent.generation sent.bytes (whole_of w.target s.media) in S i past (handed_out 0 0 x.1.outbox (with_note (judged_note serial x.0) (marked serial again (with_target x.1.node w)))))
            unfolding MayReceive target_received
            hands m passes sent found z =
                let x = received run sent.generation sent.bytes (whole_of w.target s.media) in
                let u = with_note (judged_note serial x.0) (marked serial again (with_target x.1.node w)) in
                let is_for : IsFor w sent = record { serial = serial; found = found; to = z } in
                let others : AreOthers x.1.outbox.sides = hand_law.received run sent w.target s.media (subst (λ b. MayTold b run sent s) (to_zero sent.to z) (subst (λ so. MayAt run so s) found m)) in
                let b = behind_marks w x.1.node serial again (judged_note serial x.0) in
                delivery_sends wild i own past w f.ready f.statuses f.each f.rows sent is_for run s.media serial u b others (subst Then (target_is i past s serial again run f.each sent found z) passes)
                (given.answers sent is_for run s.media serial)
                (λ peer label place c which e. f.up place c (waits_has wild past w f.ready place c peer label which e))
                (λ p g bar q c d l. f.up q c l)
                (λ p g bar q c pointer d ask e. f.point_up sent is_for p g bar q c pointer d ask e)
                (λ answer e. given.managed (judging_step w.target.layer sent.generation sent.bytes).1 (scene x.1.node x.1.outbox) (judged_note serial x.0) (judged_first serial x.0) u b others answer e) given.owned

            pub hears : MayReceive run serial s → Then end → S i past end
            hears m passes = heard i past s serial again run f.each (hands m passes)

          next_heard : (s : Scene) → Facts past s.world → (one : Option Told) (so : Option ℕ) → settling.MayAt so one s → Then (delivered_at so one s).world → S i past (delivered_at so one s).world
          next_heard s f one None m passes = absurd m
          next_heard s f one (Some serial) m passes = hears s f serial false one m passes

          -- ---- a transaction of the target times out
          module _ (w : WorldState) (f : Facts past w) (line serial : ℕ) where
            abbrev Left : Request → Result (Unit {0}) Stale × TargetScene → WorldState
            Left request y = timed_out line serial request.node (packets.at_target (target_left y w.target) w)

            lapse_by : (request : Request) → request.node ≡ 0 → (y : Result (Option Purpose) Stale × Layer Purpose) → AreOthers (expired_in y request.peer request.label (scene w.target empty_outbox)).1.outbox.sides → Then (Left request (expired_in y request.peer request.label (scene w.target empty_outbox))) → S i past (Left request (expired_in y request.peer request.label (scene w.target empty_outbox)))
            lapse_by request z (Ok purpose, layer) others passes =
                let t = (expired_in (Ok purpose, layer) request.peer request.label (scene w.target empty_outbox)).1 in
                let u = with_note (notes.TimedOut serial) (with_target t.node w) in
                let b : Behind (notes.TimedOut serial) w u = record { places = refl; initiators = refl; fresh = refl; generations = refl } in
                let given = gives past w f.ready f.statuses f.each f.rows f.asked_orbs f.placed in
                subst (λ n. S i past (handed_out n 0 t.outbox u)) (sym z)
                (lapse_sends wild i own past w f.ready f.statuses f.each f.rows layer request.peer request.label purpose serial u b others (subst (λ n. Then (handed_out n 0 t.outbox u)) z passes)
                (λ place c which e. f.up place c (waits_has wild past w f.ready place c request.peer request.label which e))
                (λ answer e. given.managed layer t (notes.TimedOut serial) (late_first serial) u b others answer e) given.owned)
            lapse_by request z (Err stale, layer) others passes = refuses i past w line no_packet f.each

            lapse : (request : Request) → find w.requests serial ≡ Some request → request.node ≡ 0 → Then (timeout_line line serial w) → S i past (timed_out line serial request.node (packets.at_target (target_expired request w.target) w))
            unfolding timeout_line expires target_expired expired
            lapse request found z passes =
                let is_zero : nat_eq request.node 0 ≡ true = grind arith in
                lapse_by request z (expiring_step w.target.layer request.peer request.label) (hand_law.expires request.peer request.label w.target)
                (subst (λ b. Then (timed_out line serial request.node (cond b (packets.at_target (target_expired request w.target) w) (initiator_expires request w)))) is_zero
                (subst (λ so. Then (timeout_of so line serial w)) found passes))

            pub lapses : Then (timeout_line line serial w) → S i past (timeout_line line serial w)
            lapses passes = times_out i past w line serial (λ request found z. lapse request found z passes) f.each

          -- ---- a line that delivers one packet at most
          one_heard : (s : Scene) → Facts past s.world → (line serial : ℕ) (again b : Bool) (told : List (Option Told)) → MayIf b serial told s → Then (delivered_if b line serial again told s).world → S i past (delivered_if b line serial again told s).world
          one_heard s f line serial again true [] m passes = absurd m
          one_heard s f line serial again true (one ∷ []) m passes = hears s f serial again one m passes
          one_heard s f line serial again true (one ∷ other ∷ more) m passes = absurd m
          one_heard s f line serial again false told m passes = refuses i past s.world line no_packet f.each

          ends_on : (done : Bool) (w : WorldState) → S i past w → S i past (with_note (end_note done) w)
          ends_on true w h = notes_on i past notes.Settled w refl h
          ends_on false w h = notes_on i past notes.Stopped w refl h

        line_sends : (past : List Moment) (line : ℕ) (s : Scene) (event : Event) (told : List (Option Told)) → IsOne event → IsLine event (length s.world.initiators) → MayHappen event told s → Facts (asked line event ∷ hist past s.world) (without_notes s.world) → PassLaw wild (hist (asked line event ∷ hist past s.world) (happens line event told s).world) → S i (asked line event ∷ hist past s.world) (happens line event told s).world
        unfolding happens MayHappen
        line_sends past line s (events.Begin initiators is_ready) told o q m f passes = absurd q
        line_sends past line s (events.Act j action) told o q m f passes = acts i (asked line (events.Act j action) ∷ hist past s.world) (without_notes s.world) line j action f.each
        line_sends past line s (events.Reset physical) told o q m f passes = resets i (asked line (events.Reset physical) ∷ hist past s.world) (without_notes s.world) physical f.each
        line_sends past line s (events.See node) told o q m f passes = sights i (asked line (events.See node) ∷ hist past s.world) (without_notes s.world) node f.each
        line_sends past line s (events.Deliver serial) told o q m f passes =
            one_heard (asked line (events.Deliver serial) ∷ hist past s.world) (begun s) f line serial false (is_in_flight serial (begun s).world) told m passes
        line_sends past line s (events.Repeat serial) told o q m f passes =
            one_heard (asked line (events.Repeat serial) ∷ hist past s.world) (begun s) f line serial true (may_repeat serial (begun s).world) told m passes
        line_sends past line s (events.Lose serial) told o q m f passes = loses i (asked line (events.Lose serial) ∷ hist past s.world) (without_notes s.world) line serial f.each
        line_sends past line s (events.Timeout serial) told o q m f passes = lapses (asked line (events.Timeout serial) ∷ hist past s.world) (without_notes s.world) f line serial passes
        line_sends past line s (events.Step count) told o q m f passes = absurd o
        line_sends past line s events.Settle told o q m f passes = absurd o
        line_sends past line s events.Tick told o q m f passes = seconds i (asked line events.Tick ∷ hist past s.world) (without_notes s.world) f.each
        line_sends past line s (events.Inject j bytes) told o q m f passes = injects i (asked line (events.Inject j bytes) ∷ hist past s.world) (without_notes s.world) line j bytes f.each
        line_sends past line s (events.Key unit key) told o q m f passes = keys i (asked line (events.Key unit key) ∷ hist past s.world) (without_notes s.world) line unit key f.each

        delivery_turn : (past : List Moment) (s : Scene) (one : Option Told) → MayNext one s → Facts past s.world → PassLaw wild (hist past (delivered_next one s).world) → S i past (delivered_next one s).world
        unfolding delivered_next MayNext
        delivery_turn past s one m f passes = next_heard past s f one (lowest s.world) m passes

        -- ---- each turn
        pub turn_sends : (past : List Moment) (s : Scene) (later : List Moment) (t : Scene) → Turn past s later t → Facts past s.world → PassLaw wild (hist later t.world) → EachMoment (SentSo i) (hist later t.world)
        turn_sends _ _ _ _ (by_line past s line event told o q m) f passes = line_sends past line s event told o q m (facts_asked line event past s.world f) passes
        turn_sends _ _ _ _ (by_start past s line event d) f passes = (tt, f.each)
        turn_sends _ _ _ _ (by_delivery past s one m) f passes = delivery_turn past s one m f passes
        turn_sends _ _ _ _ (by_end past s done) f passes = ends_on past done s.world f.each
