-- Each turn of a run sends the data of answers as they are to be sent, to an initiator that injected no packets: where this is known of the management.
use Rattle.sbp_world.proofs.Words.Std.{arith, ◌≡◌, ◌∙◌, refl, sym, subst, ◌<◌, ℕ, suc, Bool, true, false, List, [], ◌∷◌, length, Option, Some, None, Result, Ok, Err}
use Rattle.sbp_world.proofs.Words.Wire.{Packet, Stale, Layer, expiring_step, judging_step, of_response, Sent, found_sent, Request, topology_at, end_note, judged_note, no_packet, find, Event, Note, empty_outbox, Moment, asked, terms, LabelParts}
use Rattle.sbp_world.proofs.Words.Target.{Disk, plain_in, Login, is_live, Told, Purpose, manage, TargetScene, login_at, scene, answer_in, expired, expired_in, received}
use Rattle.sbp_world.proofs.Words.Initiator.{Expired}
use Rattle.sbp_world.proofs.Words.Laws.{plain_of, ends, EachMoment}
use Rattle.sbp_world.proofs.Words.World.{initiator_in, MayAt, MayReceive, MayTell, MayTold, delivered, marked, target_received, whole_of, handed_out, MayHappen, happens, MayIf, delivered_if, expires, is_in_flight, may_repeat, target_expired, target_left, timed_out, timeout_line, MayNext, delivered_at, delivered_next, lowest, IsLine, Scene, WorldState, begun, with_note, with_target, without_notes, has_list, AreOthers, IsFor, machine_at, DataSo}
use Rattle.sbp_world.proofs.Lists.AnswerRuns.{answer_on}
use Rattle.sbp_journal.specs.declared.event.Event.TheVariants as events
use Rattle.sbp_journal.specs.declared.note.Note.TheVariants as notes
use Rattle.sbp_target.specs.declared.purpose.Purpose.TheVariants as purposes
use Rattle.sbp_world.specs.Packets as packets
use Rattle.sbp_world.specs.Settling as settling
use Rattle.sbp_world.proofs.Wire.Comes.{to_zero}
use Rattle.sbp_world.proofs.Agents.Management.Still.{hist}
use Rattle.sbp_world.proofs.Hosts.Hands.{hand_law}
use Rattle.sbp_world.proofs.Lists.Generations.{moment_generation}
use Rattle.sbp_world.proofs.Lists.RunOutcomes.{AreAsked}
use Rattle.sbp_world.proofs.Lists.StatusActs.{first}
use Rattle.sbp_world.proofs.Lists.DataLines.{S, acts, heard, injects, keys, loses, notes_on, refuses, resets, seconds, sights, times_out}
use Rattle.sbp_world.proofs.Lists.DataHeard.{AreOwnFor, AreToldSo, data_heard, data_late, HaveSlots}
use Rattle.sbp_world.proofs.Lists.StatusTurn.{Behind, IsFirst, Up, judged_first, late_first}
use Rattle.sbp_world.proofs.Lists.StatusWalk.{behind_marks}
use Rattle.sbp_world.proofs.Lists.Stays.{ready_now}
use Rattle.sbp_world.proofs.Lists.Turned.{IsOne}
use Rattle.sbp_world.proofs.Lists.Turns.{Ready}
use Rattle.sbp_world.proofs.Lists.Walks.{Turn, by_delivery, by_end, by_line, by_start}
use Rattle.sbp_world.proofs.Lists.DataHears.{AreHeard, heard_asked}
use Rattle.sbp_world.proofs.Lists.DataSteps.{ArePrepared}
use Rattle.sbp_world.proofs.Lists.Full.{IsFull}

module _ (disks : List Disk) (wild : ℕ → Bool) (i : ℕ) (own : wild i ≡ false) where
  -- what the management is taken to write
  pub record Given (past : List Moment) (w : WorldState) (r : Ready wild past w) : Type 0 where
    pub owned : AreOwnFor w i
    pub managed : (sent : Sent) → IsFor w sent → (p : Packet) (label : LabelParts) → (judging_step w.target.layer sent.generation sent.bytes).0 ≡ of_response p label (Some purposes.Management) → (s : TargetScene) (note : Note) → IsFirst note → (u : WorldState) → Behind note w u → AreOthers s.outbox.sides → s ≡ manage (answer_in p) (first w r.good (judging_step w.target.layer sent.generation sent.bytes).1) → S disks i past (handed_out 0 0 s.outbox u)
    pub lapsed : (layer : Layer Purpose) (s : TargetScene) (note : Note) → IsFirst note → (u : WorldState) → Behind note w u → AreOthers s.outbox.sides → s ≡ manage Expired (first w r.good layer) → S disks i past (handed_out 0 0 s.outbox u)

  -- the units' media are as the history says
  abbrev pub AreUnits : List Moment → Scene → Type 0
  AreUnits ms s = (unit : ℕ) → plain_of disks ms unit ≡ plain_in s.world.target.units s.media.disks unit

  module _ (Placed : WorldState → Type 0) where
    -- what is known of a place
    pub record Facts (past : List Moment) (w : WorldState) : Type 0 where
      pub ready : Ready wild past w
      pub each : EachMoment (DataSo disks i) (hist past w)
      pub asked_orbs : AreAsked wild (hist past w) w
      pub placed : Placed w
      pub prepared : ArePrepared (hist past w) w
      pub slots : HaveSlots (hist past w) i
      pub full : (q : ℕ) → q < 8 → wild (initiator_in w q) ≡ false → IsFull (machine_at w q)
      pub same_gen : (topology_at w.generations 0).generation ≡ (terms (hist past w)).generation 0
      pub up : (q : ℕ) → q < 8 → has_list (machine_at w q).phase ≡ true → Up wild i own past w q
      pub lives : (q : ℕ) → q < 8 → has_list (machine_at w q).phase ≡ true → (login : Login) → login_at w.target q ≡ Some login → is_live login ≡ true
      pub answered : AreToldSo disks wild (hist past w) w

    up_asked : (line : ℕ) (event : Event) (past : List Moment) (w : WorldState) (q : ℕ) → Up wild i own past w q → Up wild i own (asked line event ∷ hist past w) (without_notes w) q
    up_asked line event past w q u =
        let same = moment_generation (suc i) (asked line event) (hist past w) refl in
        record {
          mine = λ login e n. u.mine login e n;
          caught = λ m. let a = u.caught m in omega (arith, a, same);
          present = λ m g. u.present m (g ∙ same);
        }

    module _ (placed_on : (w : WorldState) → Placed w → Placed (without_notes w)) where
      pub facts_asked : (line : ℕ) (event : Event) (past : List Moment) (w : WorldState) → Facts past w → Facts (asked line event ∷ hist past w) (without_notes w)
      facts_asked line event past w f = record {
        ready = ready_now wild line event past w f.ready;
        each = (tt, f.each);
        asked_orbs = λ place c is_open mine n list number from below. f.asked_orbs place c is_open mine n list number from below;
        placed = placed_on w f.placed;
        prepared = λ place n k inside named. let x = f.prepared place n k inside (record { list = named.list; number = named.number }) in record { there = x.there; small = x.small; filled = x.filled };
        full = λ q b own. f.full q b own;
        same_gen = f.same_gen ∙ sym (moment_generation 0 (asked line event) (hist past w) refl);
        slots = λ n k e from below. let x = f.slots n k e from below in record { there = x.there; held = x.held };
        up = λ q b l. up_asked line event past w q (f.up q b l);
        lives = λ q b l login e. f.lives q b l login e;
        answered = record {
          had = λ q b own e n list latest.
              answer_on disks (asked line event ∷ []) (hist past w) (asked line event ∷ hist past w) refl (initiator_in w q) n (ends (hist past w) (initiator_in w q) n) (machine_at w q).answer (f.answered.had q b own e n list latest);
          fills = λ j n k cmd g. f.answered.fills j n k cmd g;
          unit_is = λ q login is. f.answered.unit_is q login is;
        };
      }

      module _ (gives : (past : List Moment) (w : WorldState) (r : Ready wild past w) → AreAsked wild (hist past w) w → Placed w → EachMoment (DataSo disks i) (hist past w) → HaveSlots (hist past w) i → Given past w r) where
        module _ (past : List Moment) where
          -- ---- a packet is delivered
          module _ (s : Scene) (f : Facts past s.world) (heard_so : AreHeard wild (hist past s.world) s.world) (units : AreUnits (hist past s.world) s) (serial : ℕ) (again : Bool) (run : Option Told) where
            abbrev w : WorldState
            w = s.world

            abbrev end : WorldState
            end = (delivered serial again run s).world

            given : Given past w f.ready
            given = gives past w f.ready f.asked_orbs f.placed f.each f.slots

            hands : MayReceive run serial s → (sent : Sent) (found : found_sent serial w.store.kept ≡ Some sent) → sent.to ≡ 0 → (let x = received run sent.generation sent.bytes (whole_of w.target s.media) in S disks i past (handed_out 0 0 x.1.outbox (with_note (judged_note serial x.0) (marked serial again (with_target x.1.node w)))))
            unfolding MayReceive target_received
            hands m sent found z =
                let x = received run sent.generation sent.bytes (whole_of w.target s.media) in
                let u = with_note (judged_note serial x.0) (marked serial again (with_target x.1.node w)) in
                let is_for : IsFor w sent = record { serial = serial; found = found; to = z } in
                let may : MayTell run sent w.target s.media = subst (λ b. MayTold b run sent s) (to_zero sent.to z) (subst (λ so. MayAt run so s) found m) in
                let others : AreOthers x.1.outbox.sides = hand_law.received run sent w.target s.media may in
                let b = behind_marks w x.1.node serial again (judged_note serial x.0) in
                data_heard disks wild i own past w f.ready f.asked_orbs given.owned f.each f.slots f.up f.lives sent is_for run s.media serial f.prepared heard_so refl f.full f.same_gen may f.answered units u b others
                (λ p label found e. given.managed sent is_for p label found (scene x.1.node x.1.outbox) (judged_note serial x.0) (judged_first serial x.0) u b others e)

            pub hears : MayReceive run serial s → S disks i past end
            hears m = heard disks i past s serial again run f.each (hands m)

          next_heard : (s : Scene) → Facts past s.world → AreHeard wild (hist past s.world) s.world → AreUnits (hist past s.world) s → (one : Option Told) (so : Option ℕ) → settling.MayAt so one s → S disks i past (delivered_at so one s).world
          next_heard s f h units one None m = absurd m
          next_heard s f h units one (Some serial) m = hears s f h units serial false one m

          -- ---- a transaction of the target times out
          module _ (w : WorldState) (f : Facts past w) (line serial : ℕ) where
            abbrev Left : Request → Result (Unit {0}) Stale × TargetScene → WorldState
            Left request y = timed_out line serial request.node (packets.at_target (target_left y w.target) w)

            lapse_by : (request : Request) → request.node ≡ 0 → (y : Result (Option Purpose) Stale × Layer Purpose) → AreOthers (expired_in y request.peer request.label (scene w.target empty_outbox)).1.outbox.sides → S disks i past (Left request (expired_in y request.peer request.label (scene w.target empty_outbox)))
            lapse_by request z (Ok purpose, layer) others =
                let t = (expired_in (Ok purpose, layer) request.peer request.label (scene w.target empty_outbox)).1 in
                let u = with_note (notes.TimedOut serial) (with_target t.node w) in
                let b : Behind (notes.TimedOut serial) w u = record { places = refl; initiators = refl; fresh = refl; generations = refl } in
                let given = gives past w f.ready f.asked_orbs f.placed f.each f.slots in
                subst (λ n. S disks i past (handed_out n 0 t.outbox u)) (sym z)
                (data_late disks wild i own past w f.ready f.asked_orbs given.owned f.each f.slots f.lives layer request.peer request.label purpose serial u b others
                (λ e. given.lapsed layer t (notes.TimedOut serial) (late_first serial) u b others e))
            lapse_by request z (Err stale, layer) others = refuses disks i past w line no_packet f.each

            lapse : (request : Request) → find w.requests serial ≡ Some request → request.node ≡ 0 → S disks i past (timed_out line serial request.node (packets.at_target (target_expired request w.target) w))
            unfolding timeout_line expires target_expired expired
            lapse request found z = lapse_by request z (expiring_step w.target.layer request.peer request.label) (hand_law.expires request.peer request.label w.target)

            pub lapses : S disks i past (timeout_line line serial w)
            lapses = times_out disks i past w line serial (λ request found z. lapse request found z) f.each

          -- ---- a line that delivers one packet at most
          one_heard : (s : Scene) → Facts past s.world → AreHeard wild (hist past s.world) s.world → AreUnits (hist past s.world) s → (line serial : ℕ) (again b : Bool) (told : List (Option Told)) → MayIf b serial told s → S disks i past (delivered_if b line serial again told s).world
          one_heard s f h units line serial again true [] m = absurd m
          one_heard s f h units line serial again true (one ∷ []) m = hears s f h units serial again one m
          one_heard s f h units line serial again true (one ∷ other ∷ more) m = absurd m
          one_heard s f h units line serial again false told m = refuses disks i past s.world line no_packet f.each

          ends_on : (done : Bool) (w : WorldState) → S disks i past w → S disks i past (with_note (end_note done) w)
          ends_on true w h = notes_on disks i past notes.Settled w refl h
          ends_on false w h = notes_on disks i past notes.Stopped w refl h

        line_data : (past : List Moment) (line : ℕ) (s : Scene) (event : Event) (told : List (Option Told)) → IsOne event → IsLine event (length s.world.initiators) → MayHappen event told s → Facts (asked line event ∷ hist past s.world) (without_notes s.world) → AreHeard wild (hist past s.world) s.world → AreUnits (asked line event ∷ hist past s.world) s → S disks i (asked line event ∷ hist past s.world) (happens line event told s).world
        unfolding happens MayHappen
        line_data past line s (events.Begin initiators is_ready) told o q m f h units = absurd q
        line_data past line s (events.Act j action) told o q m f h units = acts disks i (asked line (events.Act j action) ∷ hist past s.world) (without_notes s.world) line j action f.each
        line_data past line s (events.Reset physical) told o q m f h units = resets disks i (asked line (events.Reset physical) ∷ hist past s.world) (without_notes s.world) physical f.each
        line_data past line s (events.See node) told o q m f h units = sights disks i (asked line (events.See node) ∷ hist past s.world) (without_notes s.world) node f.each
        line_data past line s (events.Deliver serial) told o q m f h units =
            one_heard (asked line (events.Deliver serial) ∷ hist past s.world) (begun s) f (heard_asked wild line (events.Deliver serial) false (λ t. refl) (hist past s.world) s.world h) units line serial false (is_in_flight serial (begun s).world) told m
        line_data past line s (events.Repeat serial) told o q m f h units =
            one_heard (asked line (events.Repeat serial) ∷ hist past s.world) (begun s) f (heard_asked wild line (events.Repeat serial) true (λ t. refl) (hist past s.world) s.world h) units line serial true (may_repeat serial (begun s).world) told m
        line_data past line s (events.Lose serial) told o q m f h units = loses disks i (asked line (events.Lose serial) ∷ hist past s.world) (without_notes s.world) line serial f.each
        line_data past line s (events.Timeout serial) told o q m f h units = lapses (asked line (events.Timeout serial) ∷ hist past s.world) (without_notes s.world) f line serial
        line_data past line s (events.Step count) told o q m f h units = absurd o
        line_data past line s events.Settle told o q m f h units = absurd o
        line_data past line s events.Tick told o q m f h units = seconds disks i (asked line events.Tick ∷ hist past s.world) (without_notes s.world) f.each
        line_data past line s (events.Inject j bytes) told o q m f h units = injects disks i (asked line (events.Inject j bytes) ∷ hist past s.world) (without_notes s.world) line j bytes f.each
        line_data past line s (events.Key unit key) told o q m f h units = keys disks i (asked line (events.Key unit key) ∷ hist past s.world) (without_notes s.world) line unit key f.each

        delivery_turn : (past : List Moment) (s : Scene) (one : Option Told) → MayNext one s → Facts past s.world → AreHeard wild (hist past s.world) s.world → AreUnits (hist past s.world) s → S disks i past (delivered_next one s).world
        unfolding delivered_next MayNext
        delivery_turn past s one m f h units = next_heard past s f h units one (lowest s.world) m

        -- ---- each turn
        pub turn_data : (past : List Moment) (s : Scene) (later : List Moment) (t : Scene) → Turn past s later t → Facts past s.world → AreHeard wild (hist past s.world) s.world → AreUnits (hist past s.world) s → ((line : ℕ) (event : Event) → AreUnits (asked line event ∷ hist past s.world) s) → EachMoment (DataSo disks i) (hist later t.world)
        turn_data _ _ _ _ (by_line past s line event told o q m) f h units then = line_data past line s event told o q m (facts_asked line event past s.world f) h (then line event)
        turn_data _ _ _ _ (by_start past s line event d) f h units then = (tt, f.each)
        turn_data _ _ _ _ (by_delivery past s one m) f h units then = delivery_turn past s one m f h units
        turn_data _ _ _ _ (by_end past s done) f h units then = ends_on past done s.world f.each
