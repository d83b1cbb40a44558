-- Deliveries, and each line of a world, keep what is known of the agents, where what the laws of lists stand on holds as the line goes on.
use Rattle.sbp_world.proofs.Words.Std.{arith, ◌≡◌, ◌∙◌, refl, sym, ap, subst, ℕ, zero, suc, ◌<◌, ◌≤◌, nat_eq, nat_lt, Bool, true, false, cond, List, [], ◌∷◌, ◌++◌, length, Option, Some, None, slice_index_or, slice_set}
use Rattle.sbp_world.proofs.Words.Wire.{Sent, found_sent, Request, end_note, judged_note, no_packet, find, Event, OutboxState, empty_outbox, Moment, asked}
use Rattle.sbp_world.proofs.Words.Target.{Told, received}
use Rattle.sbp_world.proofs.Words.Initiator.{new_state, receive_step}
use Rattle.sbp_world.proofs.Words.Laws.{linked, appends}
use Rattle.sbp_world.proofs.Words.World.{Arrival, arrived, at_target, delivered, delivered_by, initiator_received, initiators_received, marked, received_by, received_step, target_received, whole_of, with_initiators, handed_out, MayHappen, acted, happens, reset_line, see_line, MayIf, delivered_if, expires, initiator_expires, inject_line, is_in_flight, lose_line, may_repeat, refused, target_expired, timed_out, timeout_line, timeout_of, after_all, delivered_at, delivered_next, is_settled, lowest, Scene, WorldState, begun, initiator_at, with_note, with_target, without_notes, IsLine, AreRows, Lasts, Unrun, UnrunLaw, IsCalm, Needs, machine_at}
use Rattle.sbp_journal.specs.declared.event.Event.TheVariants as events
use Rattle.sbp_world.specs.Packets as packets
use Rattle.sbp_world.proofs.Wire.Comes.{own_inside, own_outside, received_is, to_own, to_zero}
use Rattle.sbp_target.proofs.Histories.Calling.{Good}
use Rattle.sbp_world.proofs.Agents.Management.Still.{hist}
use Rattle.sbp_world.proofs.Lists.Adds.{Stays}
use Rattle.sbp_world.proofs.Lists.Kept.{Kept}
use Rattle.sbp_world.proofs.Lists.Lines.{acts, delivery_keeps, hears, injects, key_keeps, lapse_keeps, loses, own_lapses, own_sight, refuses, resets, sight_keeps, tick_keeps}
use Rattle.sbp_world.proofs.Lists.Stays.{goes_on, stays_end}
use Rattle.sbp_world.proofs.Lists.Takings.{AllTake}
use Rattle.sbp_world.proofs.Lists.Turns.{AllHad, Ready}

module _ (wild : ℕ → Bool) where
  -- what is known of a history between two turns beside the agents
  pub record Facts (past : List Moment) (w : WorldState) : Type 0 where
    pub good : Good w.target
    pub needs : (i : ℕ) → wild i ≡ false → Needs (hist past w) w i
    pub calm : (i : ℕ) → wild i ≡ false → IsCalm (hist past w) i
    pub within : (i n : ℕ) → i < length w.initiators → linked (hist past w) i n ≤ appends (hist past w) i n
    pub unrun : UnrunLaw → (i : ℕ) → wild i ≡ false → Unrun (hist past w) w
    pub had : AllHad wild (hist past w) w
    pub take : AllTake wild past w

  pub ready : (past : List Moment) (w : WorldState) → Facts past w → Kept wild past (machine_at w) w → Ready wild past w
  ready past w f k = record { good = f.good; needs = f.needs; unrun = f.unrun; had = f.had; calm = f.calm; within = f.within; kept = k }

  -- and that the lists of the initiators only grew
  abbrev pub Grown : List Moment → WorldState → WorldState → Type 0
  Grown past w v = (i : ℕ) → i < length w.initiators → (later before : List Moment) → later ++ before ≡ hist past v → Lasts before (hist past v) i

  abbrev K : List Moment → WorldState → Type 0
  K past w = Kept wild past (machine_at w) w

  by_stays : (past : List Moment) (w v : WorldState) → Ready wild past w → Grown past w v → Stays wild past w v → K past v
  by_stays past w v r g s = goes_on wild past w v r s (λ i b. g i b s.adds.later (hist past w) s.adds.is)

  -- ---- a packet is delivered
  module _ (past : List Moment) (s : Scene) (r : Ready wild past s.world) (take : AllTake wild past s.world) (serial : ℕ) (again : Bool) (run : Option Told) (g : Grown past s.world (delivered serial again run s).world) where
    module _ (sent : Sent) (found : found_sent serial s.world.store.kept ≡ Some sent) where
      heard_target : sent.to ≡ 0 → K past (delivered serial again run s).world
      unfolding delivered target_received arrived
      heard_target zero_to =
          let w = s.world in
          let x = received run sent.generation sent.bytes (whole_of w.target s.media) in
          let last_is : (delivered serial again run s).world ≡ handed_out 0 0 x.1.outbox (with_note (judged_note serial x.0) (marked serial again (with_target x.1.node w))) =
          ap (λ (y : Option Arrival × (OutboxState × Scene)). (delivered_by serial again y).world)
          (received_is run serial s sent found ∙ ap (λ b. cond b (at_target sent.to (target_received run sent w.target s.media) s) (initiator_received sent s)) (to_zero sent.to zero_to))
          ∙ ap (λ n. handed_out n 0 x.1.outbox (with_note (judged_note serial x.0) (marked serial again (with_target x.1.node w)))) zero_to in
          subst (K past) (sym last_is) (delivery_keeps wild past w r serial sent found zero_to (take serial sent found zero_to) run s refl again)

      heard_own : (i : ℕ) → sent.to ≡ suc i → i < length s.world.initiators → K past (delivered serial again run s).world
      unfolding delivered initiators_received arrived
      heard_own i to_is inside =
          let w = s.world in
          let x = receive_step sent.generation sent.bytes empty_outbox (slice_index_or w.initiators i (new_state 0 false)) in
          let v = with_note (judged_note serial x.0) (marked serial again (with_initiators (slice_set w.initiators i x.1.1) w)) in
          let last_is : (delivered serial again run s).world ≡ handed_out sent.to 0 x.1.0 v =
          ap (λ (y : Option Arrival × (OutboxState × Scene)). (delivered_by serial again y).world) (to_own run serial i s sent found to_is ∙ own_inside sent i s inside) in
          let is = last_is ∙ ap (λ n. handed_out n 0 x.1.0 v) to_is in
          by_stays past w (delivered serial again run s).world r g (subst (Stays wild past w) (sym is) (hears wild past serial i again sent w))

      heard_none : (i : ℕ) → sent.to ≡ suc i → length s.world.initiators ≤ i → K past (delivered serial again run s).world
      unfolding delivered
      heard_none i to_is outside =
          subst (K past) (sym (ap (λ (y : Option Arrival × (OutboxState × Scene)). (delivered_by serial again y).world) (to_own run serial i s sent found to_is ∙ own_outside sent i s outside))) r.kept

      heard_at : (to : ℕ) → sent.to ≡ to → K past (delivered serial again run s).world
      heard_at zero e = heard_target e
      heard_at (suc i) e = by (nat_lt i (length s.world.initiators)) refl
        where
          by : (b : Bool) → nat_lt i (length s.world.initiators) ≡ b → K past (delivered serial again run s).world
          by true f = heard_own i e (grind arith)
          by false f = heard_none i e (grind arith)

    heard_by : (so : Option Sent) → found_sent serial s.world.store.kept ≡ so → K past (delivered serial again run s).world
    unfolding delivered received_step
    heard_by None e = subst (K past) (sym (ap (λ o. (delivered_by serial again (received_by run o s)).world) e)) r.kept
    heard_by (Some sent) e = heard_at sent e sent.to refl

    pub heard : K past (delivered serial again run s).world
    heard = heard_by (found_sent serial s.world.store.kept) refl

  -- ---- one after the other
  -- what is known before each delivery, and that the lists only grew in it
  abbrev pub AllFacts : List Moment → List (Option Told) → Scene → Type 0
  AllFacts past [] s = Unit {0}
  AllFacts past (one ∷ told) s = (Facts past (after_all told s).world × Grown past (after_all told s).world (after_all (one ∷ told) s).world) × AllFacts past told s

  next_heard : (past : List Moment) (one : Option Told) (t : Scene) → Ready wild past t.world → AllTake wild past t.world → (o : Option ℕ) → Grown past t.world (delivered_at o one t).world → K past (delivered_at o one t).world
  next_heard past one t r a None h = r.kept
  next_heard past one t r a (Some serial) h = heard past t r a serial false one h

  pub all_heard : (past : List Moment) (told : List (Option Told)) (s : Scene) → AllFacts past told s → K past s.world → K past (after_all told s).world
  unfolding delivered_next
  all_heard past [] s f k = k
  all_heard past (one ∷ told) s f k =
      let t = after_all told s in next_heard past one t (ready past t.world f.0.0 (all_heard past told s f.1 k)) f.0.0.take (lowest t.world) f.0.1

  -- ---- a transaction times out
  module _ (past : List Moment) (w : WorldState) (r : Ready wild past w) (line serial : ℕ) where
    lapses_at : (request : Request) (node : ℕ) → request.node ≡ node → Grown past w (timed_out line serial request.node (expires request w)) → K past (timed_out line serial request.node (expires request w))
    unfolding expires target_expired
    lapses_at request zero e g =
        let is_zero : nat_eq request.node 0 ≡ true = grind arith in
        subst (λ b. K past (timed_out line serial request.node (cond b (packets.at_target (target_expired request w.target) w) (initiator_expires request w)))) (sym is_zero)
        (lapse_keeps wild past w r line serial request e)
    lapses_at request (suc i) e g =
        let other : nat_eq request.node 0 ≡ false = grind arith in
        by_stays past w (timed_out line serial request.node (expires request w)) r g
        (subst (λ b. Stays wild past w (timed_out line serial request.node (cond b (packets.at_target (target_expired request w.target) w) (initiator_expires request w)))) (sym other)
        (own_lapses wild past line serial request w))

    late_by : (so : Option Request) → Grown past w (timeout_of so line serial w) → K past (timeout_of so line serial w)
    late_by None g = by_stays past w (refused line no_packet w) r g (refuses wild past line no_packet w)
    late_by (Some request) g = lapses_at request request.node refl g

    pub late : Grown past w (timeout_line line serial w) → K past (timeout_line line serial w)
    unfolding timeout_line
    late g = late_by (find w.requests serial) g

  -- ---- a line
  one_heard : (past : List Moment) (line serial : ℕ) (again b : Bool) (told : List (Option Told)) (s : Scene) → Ready wild past s.world → AllTake wild past s.world → MayIf b serial told s → Grown past s.world (delivered_if b line serial again told s).world → K past (delivered_if b line serial again told s).world
  one_heard past line serial again true [] s r a m g = absurd m
  one_heard past line serial again true (one ∷ []) s r a m g = heard past s r a serial again one g
  one_heard past line serial again true (one ∷ other ∷ more) s r a m g = absurd m
  one_heard past line serial again false told s r a m g = by_stays past s.world (refused line no_packet s.world) r g (refuses wild past line no_packet s.world)

  sights : (past : List Moment) (w : WorldState) (node : ℕ) → Ready wild past w → Grown past w (see_line node w) → K past (see_line node w)
  sights past w zero r g = sight_keeps wild past w r
  sights past w (suc i) r g = by_stays past w (see_line (suc i) w) r g (own_sight wild past w i)

  -- what is known of the deliveries of a line that settles
  pub record MoreFacts (past : List Moment) (told : List (Option Told)) (s : Scene) : Type 0 where
    pub all : AllFacts past told s
    pub last : Facts past (after_all told s).world
    pub count : length (after_all told s).world.initiators ≡ length s.world.initiators

  -- and what a line stands on that delivers packets
  abbrev pub More : Event → List Moment → List (Option Told) → Scene → Type 0
  More (events.Deliver serial) past told s = AllTake wild past s.world
  More (events.Repeat serial) past told s = AllTake wild past s.world
  More (events.Step count) past told s = AllFacts past told s
  More events.Settle past told s = MoreFacts past told s
  More event past told s = Unit {0}

  -- the initiators' slots by the history
  pub record Hosts (past : List Moment) (w : WorldState) : Type 0 where
    pub number : (i : ℕ) → i < length w.initiators → (initiator_at w i).number ≡ i
    pub rows : (i : ℕ) → i < length w.initiators → AreRows (hist past w) i (initiator_at w i).lists.slots

  pub line_keeps : (past : List Moment) (line : ℕ) (event : Event) (told : List (Option Told)) (s : Scene) → IsLine event (length s.world.initiators) → MayHappen event told s → Ready wild (asked line event ∷ hist past s.world) (without_notes s.world) → Hosts (asked line event ∷ hist past s.world) (without_notes s.world) → More event (asked line event ∷ hist past s.world) told (begun s) → Grown (asked line event ∷ hist past s.world) (without_notes s.world) (happens line event told s).world → K (asked line event ∷ hist past s.world) (happens line event told s).world
  unfolding happens MayHappen
  line_keeps past line (events.Begin initiators is_ready) told s q m r h f g = absurd q
  line_keeps past line (events.Act i action) told s q m r h f g =
      let now = asked line (events.Act i action) ∷ hist past s.world in
      let w = without_notes s.world in
      by_stays now w (acted line i action w) r g (acts wild now line i action w (h.number i q.0) (h.rows i q.0) r.kept.law)
  line_keeps past line (events.Reset physical) told s q m r h f g =
      let now = asked line (events.Reset physical) ∷ hist past s.world in
      let w = without_notes s.world in
      by_stays now w (reset_line physical w) r g (resets wild now w physical)
  line_keeps past line (events.See node) told s q m r h f g = sights (asked line (events.See node) ∷ hist past s.world) (without_notes s.world) node r g
  line_keeps past line (events.Deliver serial) told s q m r h f g =
      one_heard (asked line (events.Deliver serial) ∷ hist past s.world) line serial false (is_in_flight serial (begun s).world) told (begun s) r f m g
  line_keeps past line (events.Repeat serial) told s q m r h f g =
      one_heard (asked line (events.Repeat serial) ∷ hist past s.world) line serial true (may_repeat serial (begun s).world) told (begun s) r f m g
  line_keeps past line (events.Lose serial) told s q m r h f g =
      let now = asked line (events.Lose serial) ∷ hist past s.world in
      let w = without_notes s.world in
      by_stays now w (lose_line line serial w) r g (loses wild now w line serial)
  line_keeps past line (events.Timeout serial) told s q m r h f g = late (asked line (events.Timeout serial) ∷ hist past s.world) (without_notes s.world) r line serial g
  line_keeps past line (events.Step count) told s q m r h f g = all_heard (asked line (events.Step count) ∷ hist past s.world) told (begun s) f r.kept
  line_keeps past line events.Settle told s q m r h f g =
      let now = asked line events.Settle ∷ hist past s.world in
      let t = after_all told (begun s) in
      let k = all_heard now told (begun s) f.all r.kept in
      let same = f.count in
      by_stays now t.world (with_note (end_note (is_settled t.world)) t.world) (ready now t.world f.last k) (λ i b. g i (subst (λ n. i < n) same b)) (stays_end wild now (is_settled t.world) t.world)
  line_keeps past line events.Tick told s q m r h f g = tick_keeps wild (asked line events.Tick ∷ hist past s.world) (without_notes s.world) r
  line_keeps past line (events.Inject initiator bytes) told s q m r h f g =
      let now = asked line (events.Inject initiator bytes) ∷ hist past s.world in
      let w = without_notes s.world in
      by_stays now w (inject_line line initiator bytes w) r g (injects wild now w line initiator bytes)
  line_keeps past line (events.Key unit key) told s q m r h f g = key_keeps wild (asked line (events.Key unit key) ∷ hist past s.world) (without_notes s.world) r line unit key
