-- Each delivery, and each line of a world that delivers one packet at most, is a turn that leaves the initiators, or one that leaves the target and who has
-- its places.
use Rattle.sbp_world.proofs.Words.Std.{arith, ◌≡◌, ◌∙◌, refl, sym, ap, subst, ℕ, zero, suc, ◌<◌, ◌≤◌, nat_eq, nat_lt, Bool, true, false, cond, List, [], ◌∷◌, ◌++◌, length, Option, Some, None, Result, Ok, Err, slice_index_or, slice_set}
use Rattle.sbp_world.proofs.Words.Wire.{Stale, Layer, expiring_step, Sent, found_sent, Request, id_of, judged_note, no_packet, find, Judged, Event, Note, OutboxState, empty_outbox, Moment, said}
use Rattle.sbp_world.proofs.Words.Target.{Told, alone, sees, ticks, Purpose, TargetScene, scene, expired, expired_in, received, with_key}
use Rattle.sbp_world.proofs.Words.Initiator.{new_state, receive_step}
use Rattle.sbp_world.proofs.Words.Laws.{OrderLaw}
use Rattle.sbp_world.proofs.Words.World.{Arrival, arrived, at_target, delivered, delivered_by, initiator_received, initiators_received, marked, received_by, received_step, target_received, whole_of, with_initiators, handed_out, MayHappen, happens, keyed, no_unit, see_line, target_sees, target_ticks, tick_line, told_seen, with_seen, MayIf, delivered_if, expires, initiator_expires, is_in_flight, may_repeat, refused, target_expired, target_left, timed_out, timeout_line, timeout_of, Scene, WorldState, begun, with_note, with_target, without_notes, IsLine}
use Rattle.sbp_journal.specs.declared.cause.Judged.TheVariants as judgements
use Rattle.sbp_journal.specs.declared.event.Event.TheVariants as events
use Rattle.sbp_journal.specs.declared.note.Note.TheVariants as notes
use Rattle.sbp_world.specs.Nodes as nodes
use Rattle.sbp_world.specs.Packets as packets
use Rattle.sbp_world.proofs.Wire.Comes.{own_inside, own_outside, received_is, to_own, to_zero}
use Rattle.sbp_world.proofs.Wire.Nodes.{handed_alike, marked_alike}
use Rattle.sbp_world.proofs.Agents.Management.Still.{hist}
use Rattle.sbp_world.proofs.Lists.Adds.{Stays}
use Rattle.sbp_world.proofs.Lists.Awaited.{Starts, got_starts, ignored_starts}
use Rattle.sbp_world.proofs.Lists.Extends.{handed_extends, marked_fresh}
use Rattle.sbp_world.proofs.Lists.Lines.{acts, hears, injects, loses, own_lapses, own_sight, refuses, resets}
use Rattle.sbp_world.proofs.Lists.Passes.{Hosts}

module _ (wild : ℕ → Bool) (past : List Moment) where
  pub data Turned (w v : WorldState) : Type 0 where
    by_target : v.initiators ≡ w.initiators → Turned w v
    by_other : Stays wild past w v → Turned w v

  -- a delivery: there is no packet, or a turn begins with the note of its judgement
  pub data Delivers (w v : WorldState) : Type 0 where
    nothing : v ≡ w → Delivers w v
    delivers : (more : List Note) (note : Note) → Starts (said note) → more ++ note ∷ w.fresh ≡ v.fresh → Turned w v → Delivers w v

-- a line that delivers one packet at most
abbrev pub IsOne : Event → Type 0
IsOne (events.Step count) = ⊥
IsOne events.Settle = ⊥
IsOne event = Unit {0}

pub starts_judged : (serial : ℕ) (judged : Judged) → Starts (said (judged_note serial judged))
starts_judged serial judgements.Got = got_starts serial
starts_judged serial (judgements.Ignored cause) = ignored_starts serial cause

module _ (wild : ℕ → Bool) (past : List Moment) where
  -- ---- a packet is delivered
  module _ (s : Scene) (serial : ℕ) (again : Bool) (run : Option Told) where
    abbrev w : WorldState
    w = s.world

    abbrev after_it : WorldState
    after_it = (delivered serial again run s).world

    module _ (sent : Sent) (found : found_sent serial w.store.kept ≡ Some sent) where
      turned_target : sent.to ≡ 0 → Delivers wild past w after_it
      unfolding delivered target_received arrived
      turned_target zero_to =
          let x = received run sent.generation sent.bytes (whole_of w.target s.media) in
          let u = with_note (judged_note serial x.0) (marked serial again (with_target x.1.node w)) in
          let last_is : after_it ≡ handed_out sent.to 0 x.1.outbox u =
          ap (λ (y : Option Arrival × (OutboxState × Scene)). (delivered_by serial again y).world)
          (received_is run serial s sent found ∙ ap (λ b. cond b (at_target sent.to (target_received run sent w.target s.media) s) (initiator_received sent s)) (to_zero sent.to zero_to)) in
          let more = handed_extends sent.to 0 x.1.outbox u in
          delivers more.more (judged_note serial x.0) (starts_judged serial x.0)
          (ap (λ ns. more.more ++ judged_note serial x.0 ∷ ns) (sym (marked_fresh serial again (with_target x.1.node w))) ∙ more.is ∙ ap (λ (v : WorldState). v.fresh) (sym last_is))
          (by_target (ap (λ (v : WorldState). v.initiators) last_is ∙ ((handed_alike sent.to 0 x.1.outbox u).initiators ∙ (marked_alike (with_target x.1.node w) serial again).initiators)))

      turned_own : (i : ℕ) → sent.to ≡ suc i → i < length w.initiators → Delivers wild past w after_it
      unfolding delivered initiators_received arrived
      turned_own i to_is inside =
          let x = receive_step sent.generation sent.bytes empty_outbox (slice_index_or w.initiators i (new_state 0 false)) in
          let one = with_initiators (slice_set w.initiators i x.1.1) w in
          let u = with_note (judged_note serial x.0) (marked serial again one) in
          let last_is : after_it ≡ handed_out sent.to 0 x.1.0 u =
          ap (λ (y : Option Arrival × (OutboxState × Scene)). (delivered_by serial again y).world) (to_own run serial i s sent found to_is ∙ own_inside sent i s inside) in
          let is = last_is ∙ ap (λ n. handed_out n 0 x.1.0 u) to_is in
          let more = handed_extends (suc i) 0 x.1.0 u in
          delivers more.more (judged_note serial x.0) (starts_judged serial x.0)
          (ap (λ ns. more.more ++ judged_note serial x.0 ∷ ns) (sym (marked_fresh serial again one)) ∙ more.is ∙ ap (λ (v : WorldState). v.fresh) (sym is))
          (by_other (subst (Stays wild past w) (sym is) (hears wild past serial i again sent w)))

      turned_none : (i : ℕ) → sent.to ≡ suc i → length w.initiators ≤ i → Delivers wild past w after_it
      unfolding delivered
      turned_none i to_is outside = nothing (ap (λ (y : Option Arrival × (OutboxState × Scene)). (delivered_by serial again y).world) (to_own run serial i s sent found to_is ∙ own_outside sent i s outside))

      turned_at : (to : ℕ) → sent.to ≡ to → Delivers wild past w after_it
      turned_at zero e = turned_target e
      turned_at (suc i) e = by (nat_lt i (length w.initiators)) refl
        where
          by : (b : Bool) → nat_lt i (length w.initiators) ≡ b → Delivers wild past w after_it
          by true f = turned_own i e (grind arith)
          by false f = turned_none i e (grind arith)

    turned_by : (so : Option Sent) → found_sent serial w.store.kept ≡ so → Delivers wild past w after_it
    unfolding delivered received_step
    turned_by None e = nothing (ap (λ o. (delivered_by serial again (received_by run o s)).world) e)
    turned_by (Some sent) e = turned_at sent e sent.to refl

    pub turned : Delivers wild past w after_it
    turned = turned_by (found_sent serial w.store.kept) refl

  -- ---- a transaction times out
  module _ (w : WorldState) (line serial : ℕ) where
    abbrev Lapsed : Request → Result (Unit {0}) Stale × TargetScene → WorldState
    Lapsed request y = timed_out line serial request.node (packets.at_target (target_left y w.target) w)

    lapse_by : (request : Request) (x : Result (Option Purpose) Stale × Layer Purpose) → (Lapsed request (expired_in x request.peer request.label (scene w.target empty_outbox))).initiators ≡ w.initiators
    lapse_by request (Ok purpose, layer) =
        let t = (expired_in (Ok purpose, layer) request.peer request.label (scene w.target empty_outbox)).1 in
        let u = with_note (notes.TimedOut serial) (with_target t.node w) in
        (handed_alike request.node 0 t.outbox u).initiators
    lapse_by request (Err stale, layer) = refl

    lapse_same : (request : Request) → (Lapsed request (expired request.peer request.label (scene w.target empty_outbox))).initiators ≡ w.initiators
    unfolding expired
    lapse_same request = lapse_by request (expiring_step w.target.layer request.peer request.label)

    lapses_at : (request : Request) (node : ℕ) → request.node ≡ node → Turned wild past w (timed_out line serial request.node (expires request w))
    unfolding expires target_expired
    lapses_at request zero e =
        let is_zero : nat_eq request.node 0 ≡ true = grind arith in
        subst (λ b. Turned wild past w (timed_out line serial request.node (cond b (packets.at_target (target_expired request w.target) w) (initiator_expires request w)))) (sym is_zero)
        (by_target (lapse_same request))
    lapses_at request (suc i) e =
        let other : nat_eq request.node 0 ≡ false = grind arith in
        by_other
        (subst (λ b. Stays wild past w (timed_out line serial request.node (cond b (packets.at_target (target_expired request w.target) w) (initiator_expires request w)))) (sym other)
        (own_lapses wild past line serial request w))

    late_by : (so : Option Request) → Turned wild past w (timeout_of so line serial w)
    late_by None = by_other (refuses wild past line no_packet w)
    late_by (Some request) = lapses_at request request.node refl

    late : Turned wild past w (timeout_line line serial w)
    unfolding timeout_line
    late = late_by (find w.requests serial)

  -- ---- the target sees a generation, a second goes by, a key is set
  module _ (w : WorldState) where
    sight_same : (see_line 0 w).initiators ≡ w.initiators
    unfolding see_line nodes.sees target_sees
    sight_same =
        let t = alone (sees w.generations.latest.generation (id_of w.generations.latest 0)) w.target in
        (handed_alike 0 0 t.outbox (with_target t.node (with_seen 0 (told_seen 0 w)))).initiators

    tick_same : (tick_line w).initiators ≡ w.initiators
    unfolding tick_line target_ticks
    tick_same = let t = alone ticks w.target in (handed_alike 0 0 t.outbox (with_target t.node (with_note notes.Tick w))).initiators

    key_same : (line unit : ℕ) (key : List ℕ) → (keyed line unit key w).initiators ≡ w.initiators
    unfolding keyed
    key_same line unit key = by (nat_lt unit (length w.target.units))
      where
        by : (b : Bool) → (cond b (with_note (notes.Key unit) (with_target (with_key unit key w.target) w)) (refused line no_unit w)).initiators ≡ w.initiators
        by true = refl
        by false = refl

    sights : (node : ℕ) → Turned wild past w (see_line node w)
    sights zero = by_target sight_same
    sights (suc i) = by_other (own_sight wild past w i)

  of_delivery : (w v : WorldState) → Delivers wild past w v → Turned wild past w v
  of_delivery w v (nothing e) = by_target (ap (λ (x : WorldState). x.initiators) e)
  of_delivery w v (delivers more note starts is t) = t

  one_turned : (line serial : ℕ) (again b : Bool) (told : List (Option Told)) (s : Scene) → MayIf b serial told s → Turned wild past s.world (delivered_if b line serial again told s).world
  one_turned line serial again true [] s m = absurd m
  one_turned line serial again true (one ∷ []) s m = of_delivery s.world (delivered serial again one s).world (turned s serial again one)
  one_turned line serial again true (one ∷ other ∷ more) s m = absurd m
  one_turned line serial again false told s m = by_other (refuses wild past line no_packet s.world)

  pub line_turned : (line : ℕ) (event : Event) (told : List (Option Told)) (s : Scene) → IsOne event → IsLine event (length s.world.initiators) → MayHappen event told s → Hosts wild past (without_notes s.world) → OrderLaw wild (hist past (without_notes s.world)) → Turned wild past (without_notes s.world) (happens line event told s).world
  unfolding happens MayHappen
  line_turned line (events.Begin initiators is_ready) told s o q m h l = absurd q
  line_turned line (events.Act i action) told s o q m h l = by_other (acts wild past line i action (without_notes s.world) (h.number i q.0) (h.rows i q.0) l)
  line_turned line (events.Reset physical) told s o q m h l = by_other (resets wild past (without_notes s.world) physical)
  line_turned line (events.See node) told s o q m h l = sights (without_notes s.world) node
  line_turned line (events.Deliver serial) told s o q m h l = one_turned line serial false (is_in_flight serial (begun s).world) told (begun s) m
  line_turned line (events.Repeat serial) told s o q m h l = one_turned line serial true (may_repeat serial (begun s).world) told (begun s) m
  line_turned line (events.Lose serial) told s o q m h l = by_other (loses wild past (without_notes s.world) line serial)
  line_turned line (events.Timeout serial) told s o q m h l = late (without_notes s.world) line serial
  line_turned line (events.Step count) told s o q m h l = absurd o
  line_turned line events.Settle told s o q m h l = absurd o
  line_turned line events.Tick told s o q m h l = by_target (tick_same (without_notes s.world))
  line_turned line (events.Inject i bytes) told s o q m h l = by_other (injects wild past (without_notes s.world) line i bytes)
  line_turned line (events.Key unit key) told s o q m h l = by_target (key_same (without_notes s.world) line unit key)
