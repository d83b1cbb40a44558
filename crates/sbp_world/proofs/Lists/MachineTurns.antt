-- What holds of each machine of an agent, and stays by each step of it, stays in each turn of a world: the agents step in calls of the target alone.
use Rattle.sbp_world.proofs.Words.Std.{arith, ◌≡◌, ◌∙◌, refl, sym, ap, subst, ◌<◌, ◌≤◌, ℕ, zero, suc, nat_eq, nat_lt, Bool, true, false, cond, List, [], ◌∷◌, length, Option, Some, None, not, ◌||◌, Result, Ok, Err, ◌+◌, slice_index_or, slice_set, nat_tests, false≢true}
use Rattle.sbp_world.proofs.Words.Wire.{Sent, found_sent, is_flying, Request, end_note, judged_note, no_packet, find, Event, OutboxState, empty_outbox, Moment, asked, Stale, Layer, expiring_step, judging_step, deliver_step, id_of, Action, LabelParts, Packet, header_in, of_response}
use Rattle.sbp_world.proofs.Words.Target.{Told, with_key, expired, expired_in, received, alone, sees, ticks, Purpose, TargetScene, scene, NodeState, desk_at, Held, Machine, Login, served_login, plain_in, Which, which_in, reply_step, answer_in}
use Rattle.sbp_world.proofs.Words.Initiator.{new_state, receive_step, OwnTurn, act_step}
use Rattle.sbp_world.proofs.Words.World.{Arrival, MayAt, MayReceive, MayTold, arrived, at_target, delivered, delivered_by, initiator_received, initiators_received, marked, received_by, received_step, target_received, with_initiators, whole_of, MayTell, handed_out, MayHappen, acted, happens, keyed, no_unit, acted_by, weight_in, reset_line, see_line, target_sees, target_ticks, tick_line, told_seen, with_seen, MayIf, delivered_if, expires, initiator_expires, inject_line, is_in_flight, lose_line, may_repeat, refused, target_expired, timed_out, timeout_line, timeout_of, target_left, MayNext, delivered_at, delivered_next, lowest, IsLine, Scene, WorldState, begun, initiator_at, with_note, with_target, without_notes, with_initiator, machine_at}
use Rattle.sbp_journal.specs.declared.event.Event.TheVariants as events
use Rattle.sbp_journal.specs.declared.note.Note.TheVariants as notes
use Rattle.sbp_world.specs.Packets as packets
use Rattle.sbp_world.specs.Settling as settling
use Rattle.sbp_world.specs.Nodes as nodes
use Rattle.sbp_world.proofs.Wire.Comes.{own_inside, own_outside, received_is, to_own, to_zero}
use Rattle.sbp_world.proofs.Agents.Management.Still.{hist}
use Rattle.sbp_world.proofs.Lists.Adds.{Stays}
use Rattle.sbp_world.proofs.Lists.Lines.{hears, injects, loses, own_lapses, own_sight, refuses, resets}
use Rattle.sbp_world.proofs.Lists.Stays.{stays_end, ready_now}
use Rattle.sbp_world.proofs.Lists.Turned.{IsOne}
use Rattle.sbp_world.proofs.Lists.Walks.{Turn, by_delivery, by_end, by_line, by_start}
use Rattle.sbp_world.proofs.Lists.BusyDeliveries.{delivery_called, lapse_called, sight_called, tick_called, Called, acts as acting, points, rests}
use Rattle.sbp_world.proofs.Lists.OpenTurns.{AreSeated}
use Rattle.sbp_world.proofs.Lists.Turns.{Ready}
use Rattle.sbp_world.proofs.Wire.Nodes.{handed_alike}
use Rattle.sbp_world.proofs.Lists.Full.{IsClosed}
use Rattle.sbp_target.specs.declared.purpose.Purpose.TheVariants as purposes

-- ---- the packet that is delivered in a turn, and what is told by it
abbrev pub line_heard : Event → List (Option Told) → ℕ → Option Told → Type 0
line_heard (events.Deliver serial) told = λ at run. (at ≡ serial) × (told ≡ run ∷ [])
line_heard (events.Repeat serial) told = λ at run. (at ≡ serial) × (told ≡ run ∷ [])
line_heard _ told = λ at run. ⊥

abbrev pub next_told : Scene → Option Told → ℕ → Option Told → Type 0
next_told s one = λ at run. (lowest s.world ≡ Some at) × (one ≡ run)

abbrev pub heard_in : (past : List Moment) (s : Scene) (later : List Moment) (t : Scene) → Turn past s later t → ℕ → Option Told → Type 0
heard_in _ _ _ _ (by_line past s line event told o q m) = line_heard event told
heard_in _ _ _ _ (by_start past s line event d) = λ at run. ⊥
heard_in _ _ _ _ (by_delivery past s one m) = next_told s one
heard_in _ _ _ _ (by_end past s done) = λ at run. ⊥

module _ (G : ℕ → Machine → Type 0) (closed : IsClosed G) where
  abbrev pub F : WorldState → Type 0
  F w = (q : ℕ) → q < 8 → G q (machine_at w q)

  same_target : (w v : WorldState) → v.target ≡ w.target → F w → F v
  same_target w v e o q b = subst (λ (t : NodeState). G q (desk_at t q).agent) (sym e) (o q b)

  -- what a packet brings to an agent keeps it
  abbrev pub Replies : (ℕ → Option Told → Type 0) → WorldState → Held → Type 0
  Replies heard w media =
      (serial : ℕ) (sent : Sent) (run : Option Told) → heard serial run → found_sent serial w.store.kept ≡ Some sent → sent.to ≡ 0 → MayTell run sent w.target media → (p : Packet) (label : LabelParts) (place : ℕ) → (judging_step w.target.layer sent.generation sent.bytes).0 ≡ of_response p label (Some (purposes.Agent place)) → place < 8 → (login : Login) → served_login w.target place ≡ Some login → (which : Which) → which_in (desk_at w.target place) (header_in p).source label ≡ Some which → G place (machine_at w place) → G place (reply_step (machine_at w place) place (plain_in w.target.units media.disks login.unit) run which (answer_in p)).1

  -- what is known as a turn begins
  pub record Facts (wild : ℕ → Bool) (heard : ℕ → Option Told → Type 0) (past : List Moment) (w : WorldState) (media : Held) : Type 0 where
    pub ready : Ready wild past w
    pub seats : AreSeated w
    pub replies : Replies heard w media

  facts_asked : (wild : ℕ → Bool) (heard : ℕ → Option Told → Type 0) (line : ℕ) (event : Event) (past : List Moment) (w : WorldState) (media : Held) → Facts wild heard past w media → Facts wild heard (asked line event ∷ hist past w) (without_notes w) media
  facts_asked wild heard line event past w media f = record {
    ready = ready_now wild line event past w f.ready;
    seats = λ p login e. let k = f.seats p login e in record { holder_is = k.holder_is; there = k.there; id_is = k.id_is };
    replies = λ serial sent run h found zero_to may p label place judged b login served which e. f.replies serial sent run h found zero_to may p label place judged b login served which e;
  }

  module _ (wild : ℕ → Bool) (heard : ℕ → Option Told → Type 0) (past : List Moment) where
    -- ---- a call of the target
    module _ (w : WorldState) (media : Held) (f : Facts wild heard past w media) (o : F w) where
      call_full : (layer : Layer Purpose) (s : TargetScene) → Called w f.ready.good (Unit {0}) G closed layer s → (q : ℕ) → q < 8 → G q (desk_at s.node q).agent
      call_full layer s (rests c) q b = c.full q (o q b)
      call_full layer s (acting p c has a) q b = by (nat_eq q p) refl
        where
          by : (x : Bool) → nat_eq q p ≡ x → G q (desk_at s.node q).agent
          by true e = let same : p ≡ q = grind (arith, nat_tests) in subst (λ j. G j (desk_at s.node j).agent) same (a.full tt (o p c))
          by false e = subst (λ m. G q m) (sym (a.same q (λ same. false≢true (sym e ∙ (let z : nat_eq q p ≡ true = grind (arith, nat_tests) in z))))) (o q b)
      call_full layer s (points p c a) q b = by (nat_eq q p) refl
        where
          by : (x : Bool) → nat_eq q p ≡ x → G q (desk_at s.node q).agent
          by true e = let same : p ≡ q = grind (arith, nat_tests) in subst (λ j. G j (desk_at s.node j).agent) same (a.full tt (o p c))
          by false e = subst (λ m. G q m) (sym (a.same q (λ same. false≢true (sym e ∙ (let z : nat_eq q p ≡ true = grind (arith, nat_tests) in z))))) (o q b)

      called : (u : WorldState) (layer : Layer Purpose) (s : TargetScene) → u.target ≡ s.node → Called w f.ready.good (Unit {0}) G closed layer s → F (handed_out 0 0 s.outbox u)
      called u layer s is c q b = subst (λ (t : NodeState). G q (desk_at t q).agent) (sym ((handed_alike 0 0 s.outbox u).target ∙ is)) (call_full layer s c q b)

      -- ---- a packet that the target gets
      delivery_full : (serial : ℕ) (sent : Sent) (run : Option Told) → heard serial run → found_sent serial w.store.kept ≡ Some sent → sent.to ≡ 0 → MayTell run sent w.target media → (again : Bool) → (let x = received run sent.generation sent.bytes (whole_of w.target media) in F (handed_out 0 0 x.1.outbox (with_note (judged_note serial x.0) (marked serial again (with_target x.1.node w)))))
      delivery_full serial sent run h found zero_to may again =
          let x = received run sent.generation sent.bytes (whole_of w.target media) in
          called (with_note (judged_note serial x.0) (marked serial again (with_target x.1.node w))) (judging_step w.target.layer sent.generation sent.bytes).1 (scene x.1.node x.1.outbox) (by (again || not (is_flying serial w.store.kept)))
          (delivery_called w f.ready.good (Unit {0}) G closed f.seats sent run media
          (λ p label place judged b login served which e given full. f.replies serial sent run h found zero_to may p label place judged b login served which e full))
        where
          by : (b : Bool) → (let x = received run sent.generation sent.bytes (whole_of w.target media) in (cond b (with_target x.1.node w) (record (with_target x.1.node w) { store = deliver_step w.store serial })).target ≡ x.1.node)
          by true = refl
          by false = refl

    -- ---- a packet is delivered
    module _ (s : Scene) (f : Facts wild heard past s.world s.media) (o : F s.world) (serial : ℕ) (again : Bool) (run : Option Told) (h : heard serial run) where
      abbrev w : WorldState
      w = s.world

      abbrev end : WorldState
      end = (delivered serial again run s).world

      module _ (sent : Sent) (found : found_sent serial w.store.kept ≡ Some sent) where
        heard_target : sent.to ≡ 0 → MayTell run sent w.target s.media → F end
        unfolding delivered target_received arrived
        heard_target zero_to may =
            let x = target_received run sent w.target s.media in
            let last_is : end ≡ handed_out 0 0 x.1.0 (with_note (judged_note serial x.0) (marked serial again (with_target x.1.1.0 w))) =
            ap (λ (y : Option Arrival × (OutboxState × Scene)). (delivered_by serial again y).world)
            (received_is run serial s sent found ∙ ap (λ b. cond b (at_target sent.to (target_received run sent w.target s.media) s) (initiator_received sent s)) (to_zero sent.to zero_to))
            ∙ ap (λ n. handed_out n 0 x.1.0 (with_note (judged_note serial x.0) (marked serial again (with_target x.1.1.0 w)))) zero_to in
            subst F (sym last_is) (delivery_full w s.media f o serial sent run h found zero_to may again)

        heard_own : (i : ℕ) → sent.to ≡ suc i → i < length w.initiators → F end
        unfolding delivered initiators_received arrived
        heard_own i to_is inside =
            let x = receive_step sent.generation sent.bytes empty_outbox (slice_index_or w.initiators i (new_state 0 false)) in
            let v = with_note (judged_note serial x.0) (marked serial again (with_initiators (slice_set w.initiators i x.1.1) w)) in
            let last_is : end ≡ handed_out sent.to 0 x.1.0 v =
            ap (λ (y : Option Arrival × (OutboxState × Scene)). (delivered_by serial again y).world) (to_own run serial i s sent found to_is ∙ own_inside sent i s inside) in
            let is = last_is ∙ ap (λ n. handed_out n 0 x.1.0 v) to_is in
            same_target w end (subst (Stays wild past w) (sym is) (hears wild past serial i again sent w)).target o

        heard_none : (i : ℕ) → sent.to ≡ suc i → length w.initiators ≤ i → F end
        unfolding delivered
        heard_none i to_is outside =
            subst F (sym (ap (λ (y : Option Arrival × (OutboxState × Scene)). (delivered_by serial again y).world) (to_own run serial i s sent found to_is ∙ own_outside sent i s outside))) o

        heard_at : (to : ℕ) → sent.to ≡ to → (sent.to ≡ 0 → MayTell run sent w.target s.media) → F end
        heard_at zero e may = heard_target e (may e)
        heard_at (suc i) e may = by (nat_lt i (length w.initiators)) refl
          where
            by : (b : Bool) → nat_lt i (length w.initiators) ≡ b → F end
            by true g = heard_own i e (grind arith)
            by false g = heard_none i e (grind arith)

      heard_by : (so : Option Sent) → found_sent serial w.store.kept ≡ so → MayAt run so s → F end
      unfolding delivered received_step
      heard_by None e m = subst F (sym (ap (λ x. (delivered_by serial again (received_by run x s)).world) e)) o
      heard_by (Some sent) e m = heard_at sent e sent.to refl (λ z. subst (λ b. MayTold b run sent s) (to_zero sent.to z) m)

      heard_now : MayReceive run serial s → F end
      unfolding MayReceive
      heard_now m = heard_by (found_sent serial w.store.kept) refl m

    next_heard : (s : Scene) → Facts wild heard past s.world s.media → F s.world → (one : Option Told) (so : Option ℕ) → ((serial : ℕ) → so ≡ Some serial → heard serial one) → settling.MayAt so one s → F (delivered_at so one s).world
    next_heard s f o one None hs m = absurd m
    next_heard s f o one (Some serial) hs m = heard_now s f o serial false one (hs serial refl) m

    -- ---- a transaction times out
    module _ (w : WorldState) (media : Held) (f : Facts wild heard past w media) (o : F w) (line serial : ℕ) where
      lapse_by : (request : Request) → request.node ≡ 0 → (y : Result (Option Purpose) Stale × Layer Purpose) → F (timed_out line serial request.node (packets.at_target (target_left (expired_in y request.peer request.label (scene w.target empty_outbox)) w.target) w))
      lapse_by request z (Ok purpose, layer) =
          let t = (expired_in (Ok purpose, layer) request.peer request.label (scene w.target empty_outbox)).1 in
          let u = with_note (notes.TimedOut serial) (with_target t.node w) in
          subst (λ n. F (handed_out n 0 t.outbox u)) (sym z) (called w media f o u layer t refl (lapse_called w f.ready.good (Unit {0}) G closed f.seats layer request.peer request.label purpose))
      lapse_by request z (Err stale, layer) = same_target w (refused line no_packet w) (refuses wild past line no_packet w).target o

      lapse_full : (request : Request) → request.node ≡ 0 → F (timed_out line serial request.node (packets.at_target (target_left (expired request.peer request.label (scene w.target empty_outbox)) w.target) w))
      unfolding expired
      lapse_full request z = lapse_by request z (expiring_step w.target.layer request.peer request.label)

      lapses_at : (request : Request) (node : ℕ) → request.node ≡ node → F (timed_out line serial request.node (expires request w))
      unfolding expires target_expired
      lapses_at request zero e =
          let is_zero : nat_eq request.node 0 ≡ true = grind arith in
          subst (λ b. F (timed_out line serial request.node (cond b (packets.at_target (target_expired request w.target) w) (initiator_expires request w)))) (sym is_zero) (lapse_full request e)
      lapses_at request (suc i) e =
          let other : nat_eq request.node 0 ≡ false = grind arith in
          subst (λ b. F (timed_out line serial request.node (cond b (packets.at_target (target_expired request w.target) w) (initiator_expires request w)))) (sym other)
          (same_target w (timed_out line serial request.node (initiator_expires request w)) (own_lapses wild past line serial request w).target o)

      late_by : (so : Option Request) → F (timeout_of so line serial w)
      late_by None = same_target w (refused line no_packet w) (refuses wild past line no_packet w).target o
      late_by (Some request) = lapses_at request request.node refl

      late : F (timeout_line line serial w)
      unfolding timeout_line
      late = late_by (find w.requests serial)

    -- ---- a line that delivers one packet at most
    one_heard : (s : Scene) → Facts wild heard past s.world s.media → F s.world → (line serial : ℕ) (again b : Bool) (told : List (Option Told)) → ((run : Option Told) → told ≡ run ∷ [] → heard serial run) → MayIf b serial told s → F (delivered_if b line serial again told s).world
    one_heard s f o line serial again true [] hs m = absurd m
    one_heard s f o line serial again true (one ∷ []) hs m = heard_now s f o serial again one (hs one refl) m
    one_heard s f o line serial again true (one ∷ other ∷ more) hs m = absurd m
    one_heard s f o line serial again false told hs m = same_target s.world (refused line no_packet s.world) (refuses wild past line no_packet s.world).target o

    sights : (w : WorldState) (media : Held) → Facts wild heard past w media → F w → (node : ℕ) → F (see_line node w)
    unfolding see_line nodes.sees target_sees
    sights w media f o zero =
        let g = w.generations.latest in
        let t = alone (sees g.generation (id_of g 0)) w.target in
        called w media f o (with_target t.node (with_seen 0 (told_seen 0 w))) w.target.layer t refl (sight_called w f.ready.good (Unit {0}) G closed g.generation (id_of g 0))
    sights w media f o (suc i) = same_target w (see_line (suc i) w) (own_sight wild past w i).target o

    tick_full : (w : WorldState) (media : Held) → Facts wild heard past w media → F w → F (tick_line w)
    unfolding tick_line target_ticks
    tick_full w media f o =
        let t = alone ticks w.target in
        called w media f o (with_target t.node (with_note notes.Tick w)) w.target.layer t refl (tick_called w f.ready.good (Unit {0}) G closed)

    key_full : (w : WorldState) → F w → (line unit : ℕ) (key : List ℕ) → F (keyed line unit key w)
    unfolding keyed
    key_full w o line unit key = by (nat_lt unit (length w.target.units))
      where
        by : (b : Bool) → F (cond b (with_note (notes.Key unit) (with_target (with_key unit key w.target) w)) (refused line no_unit w))
        by true q b = o q b
        by false q b = same_target w (refused line no_unit w) (refuses wild past line no_unit w).target o q b

    act_full : (w : WorldState) → F w → (line i : ℕ) (action : Action) → F (acted line i action w)
    unfolding acted
    act_full w o line i action = by (act_step action empty_outbox (initiator_at w i))
      where
        by : (r : Option ℕ × OwnTurn) → F (acted_by r line i action w)
        by (Some number, turn) = same_target w (refused line number w) (refuses wild past line number w).target o
        by (None, (outbox, state)) = same_target w (handed_out (i + 1) (weight_in action) outbox (with_initiator i state w)) (handed_alike (i + 1) (weight_in action) outbox (with_initiator i state w)).target o

  -- ---- a line
  module _ (wild : ℕ → Bool) (past : List Moment) (line : ℕ) (s : Scene) where
    line_full : (event : Event) (told : List (Option Told)) → IsOne event → IsLine event (length s.world.initiators) → MayHappen event told s → Facts wild (line_heard event told) (asked line event ∷ hist past s.world) (without_notes s.world) s.media → F (without_notes s.world) → F (happens line event told s).world
    unfolding happens MayHappen
    line_full (events.Begin initiators is_ready) told o q m f b = absurd q
    line_full (events.Act i action) told o q m f b = act_full wild (line_heard (events.Act i action) told) (asked line (events.Act i action) ∷ hist past s.world) (without_notes s.world) b line i action
    line_full (events.Reset physical) told o q m f b = same_target (without_notes s.world) (reset_line physical (without_notes s.world)) (resets wild (asked line (events.Reset physical) ∷ hist past s.world) (without_notes s.world) physical).target b
    line_full (events.See node) told o q m f b = sights wild (line_heard (events.See node) told) (asked line (events.See node) ∷ hist past s.world) (without_notes s.world) s.media f b node
    line_full (events.Deliver serial) told o q m f b = one_heard wild (line_heard (events.Deliver serial) told) (asked line (events.Deliver serial) ∷ hist past s.world) (begun s) f b line serial false (is_in_flight serial (begun s).world) told (λ run e. (refl, e)) m
    line_full (events.Repeat serial) told o q m f b = one_heard wild (line_heard (events.Repeat serial) told) (asked line (events.Repeat serial) ∷ hist past s.world) (begun s) f b line serial true (may_repeat serial (begun s).world) told (λ run e. (refl, e)) m
    line_full (events.Lose serial) told o q m f b = same_target (without_notes s.world) (lose_line line serial (without_notes s.world)) (loses wild (asked line (events.Lose serial) ∷ hist past s.world) (without_notes s.world) line serial).target b
    line_full (events.Timeout serial) told o q m f b = late wild (line_heard (events.Timeout serial) told) (asked line (events.Timeout serial) ∷ hist past s.world) (without_notes s.world) s.media f b line serial
    line_full (events.Step count) told o q m f b = absurd o
    line_full events.Settle told o q m f b = absurd o
    line_full events.Tick told o q m f b = tick_full wild (line_heard events.Tick told) (asked line events.Tick ∷ hist past s.world) (without_notes s.world) s.media f b
    line_full (events.Inject i bytes) told o q m f b = same_target (without_notes s.world) (inject_line line i bytes (without_notes s.world)) (injects wild (asked line (events.Inject i bytes) ∷ hist past s.world) (without_notes s.world) line i bytes).target b
    line_full (events.Key unit key) told o q m f b = key_full wild (line_heard (events.Key unit key) told) (asked line (events.Key unit key) ∷ hist past s.world) (without_notes s.world) b line unit key

  -- ---- each turn
  delivery_turn : (wild : ℕ → Bool) (past : List Moment) (s : Scene) (one : Option Told) → MayNext one s → Facts wild (next_told s one) past s.world s.media → F s.world → F (delivered_next one s).world
  unfolding delivered_next MayNext
  delivery_turn wild past s one m f b = next_heard wild (next_told s one) past s f b one (lowest s.world) (λ serial e. (e, refl)) m

  pub turn_full : (wild : ℕ → Bool) (past : List Moment) (s : Scene) (later : List Moment) (t : Scene) (turn : Turn past s later t) → Facts wild (heard_in past s later t turn) past s.world s.media → F s.world → F t.world
  turn_full wild _ _ _ _ (by_line past s line event told o q m) f b = line_full wild past line s event told o q m (facts_asked wild (line_heard event told) line event past s.world s.media f) b
  turn_full wild _ _ _ _ (by_start past s line event d) f b = b
  turn_full wild _ _ _ _ (by_delivery past s one m) f b = delivery_turn wild past s one m f b
  turn_full wild _ _ _ _ (by_end past s done) f b = same_target s.world (with_note (end_note done) s.world) (stays_end wild past done s.world).target b
