-- After each line of a world, and behind each delivery of one, the agents of the terms are the target's.
use Rattle.sbp_world.proofs.Words.Std.{arith, ◌≡◌, ◌∙◌, refl, sym, ap, subst, ℕ, zero, suc, ◌+◌, ◌^◌, ◌<◌, ◌≤◌, ◌||◌, not, nat_eq, nat_lt, Bool, true, false, cond, List, [], ◌∷◌, length, Option, Some, None, slice_index_or, slice_set}
use Rattle.sbp_world.proofs.Words.Wire.{judging_step, Sent, found_sent, is_flying, deliver_step, end_note, judged_note, no_packet, OutboxState, empty_outbox, Moment, asked, said, terms, Judged, Event}
use Rattle.sbp_world.proofs.Words.Target.{Disk, Told, TellsIn, received, with_layer, Whole}
use Rattle.sbp_world.proofs.Words.Initiator.{new_state, receive_step, InitiatorState}
use Rattle.sbp_world.proofs.Words.Laws.{receiver_in, Target, is_serial, over, target_at}
use Rattle.sbp_world.proofs.Words.World.{Arrival, MayAt, MayReceive, MayTell, MayTold, arrived, at_target, delivered, delivered_by, faults_after, initiator_received, initiators_received, marked, received_by, received_step, target_received, whole_of, with_initiators, BytesTold, handed_out, MayHappen, happens, MayIf, delivered_if, is_in_flight, may_repeat, MayAll, MayNext, after_all, delivered_at, delivered_next, is_settled, lowest, Scene, WorldState, begun, with_note, with_target, without_notes, IsLine, AreOf, with_requests}
use Rattle.sbp_journal.specs.declared.cause.Judged.TheVariants as judgements
use Rattle.sbp_journal.specs.declared.event.Event.TheVariants as events
use Rattle.sbp_journal.specs.declared.note.Note.TheVariants as notes
use Rattle.sbp_world.specs.Settling as settling
use Rattle.sbp_world.proofs.Wire.Comes.{own_inside, own_outside, received_is, to_own, to_zero, to_suc as not_zero}
use Rattle.sbp_world.proofs.Wire.Holding.{Sound}
use Rattle.sbp_world.proofs.Wire.Nodes.{handed_alike, marked_alike}
use Rattle.sbp_world.proofs.Wire.CommandBytes.{AreTold}
use Rattle.sbp_world.proofs.Agents.Management.Holding.{Holding, marked_hist, was_sent}
use Rattle.sbp_world.proofs.Agents.Management.Idle.{over_idle}
use Rattle.sbp_world.proofs.InitiatorForms as own
use Rattle.sbp_world.proofs.Agents.Management.Lines.{all_heard, line_holds, opens}
use Rattle.sbp_world.proofs.Agents.Management.Still.{hist}
use Rattle.sbp_world.proofs.Agents.Management.Told.{term_in}
use Rattle.sbp_world.proofs.Agents.Asides.{asides_law}
use Rattle.sbp_world.proofs.Agents.CrewDelivery.{delivered_crew}
use Rattle.sbp_world.proofs.Agents.CrewOthers.{got_out, settled_ends, stopped_ends}
use Rattle.sbp_world.proofs.Agents.CrewPass.{AllSites, Crewed, IsSite, acts, injects, keys_line, loses, own_crew, refuses, resets, same_crew, sights, ticks_line, times_out}
use Rattle.sbp_world.proofs.Agents.Known.{known_over_delivery}

-- what a line tells of runs, as its deliveries begin
abbrev pub LineSites : Event → List Disk → List Moment → List (Option Told) → Scene → Type 0
LineSites (events.Deliver serial) start past told s = IsSite start past s
LineSites (events.Repeat serial) start past told s = IsSite start past s
LineSites (events.Step count) start past told s = AllSites start past told s
LineSites events.Settle start past told s = AllSites start past told s
LineSites event start past told s = Unit {0}

marked_requests : (serial : ℕ) (again : Bool) (w : WorldState) → (marked serial again w).requests ≡ w.requests
marked_requests serial again w = by (again || not (is_flying serial w.store.kept))
  where
    by : (b : Bool) → (cond b w (record w { store = deliver_step w.store serial })).requests ≡ w.requests
    by true = refl
    by false = refl

-- what was told of a run in a delivery to the target
run_tells : (run : Option Told) (serial : ℕ) (sent : Sent) (s : Scene) → found_sent serial s.world.store.kept ≡ Some sent → sent.to ≡ 0 → MayReceive run serial s → MayTell run sent s.world.target s.media
unfolding MayReceive
run_tells run serial sent s found zero_to may =
    let z : nat_eq sent.to 0 ≡ true = grind arith in
    subst (λ b. MayTold b run sent s) z (subst (λ o. MayAt run o s) found may)

module _ (units ready : ℕ) (has : 0 < units) (start : List Disk) where
  abbrev C : List Moment → WorldState → Type 0
  C past w = Crewed start past w

  abbrev H : List Moment → ℕ → WorldState → Type 0
  H past lines w = Holding units ready start past lines w

  -- ---- a packet is delivered
  module _ {past : List Moment} {lines : ℕ} (s : Scene) (h : H past lines s.world) (c : C past s.world) (serial : ℕ) (again : Bool) (run : Option Told) (bytes : BytesTold run) (may : MayReceive run serial s) (u : IsSite start past s) where
    module _ (sent : Sent) (found : found_sent serial s.world.store.kept ≡ Some sent) where
      -- to the target
      module _ (zero_to : sent.to ≡ 0) where
        abbrev w : WorldState
        w = s.world

        abbrev r : Judged × Whole
        r = received run sent.generation sent.bytes (whole_of w.target s.media)

        abbrev v : WorldState
        v = with_note (judged_note serial r.0) (marked serial again (with_target r.1.node w))

        are_now : (faults now : List ℕ) → TellsIn run (judging_step w.target.layer sent.generation sent.bytes).0 (with_layer (judging_step w.target.layer sent.generation sent.bytes).1 (whole_of w.target s.media)) faults now → Sound past lines (handed_out 0 0 r.1.outbox v) → AreOf (with_requests v.store.last r.1.outbox.packets c.requests) (over (term_in start past (handed_out 0 0 r.1.outbox v))).agents r.1.node
        are_now faults now t sound =
            delivered_crew units ready has start w h serial again sent found zero_to c.requests c.are c.sent.known run s.media u.units.each u.held bytes faults now t sound

        are_left : MayTell run sent w.target s.media → Sound past lines (handed_out 0 0 r.1.outbox v) → AreOf (with_requests v.store.last r.1.outbox.packets c.requests) (over (term_in start past (handed_out 0 0 r.1.outbox v))).agents r.1.node
        unfolding MayTell
        are_left t sound = are_now s.media.faults (faults_after run sent w.target s.media) t sound

        heard_crew : Sound past lines (handed_out 0 0 r.1.outbox v) → C past (handed_out 0 0 r.1.outbox v)
        heard_crew sound =
            let now = handed_out 0 0 r.1.outbox v in
            let target_is : now.target ≡ r.1.node = (handed_alike 0 0 r.1.outbox v).target ∙ (marked_alike (with_target r.1.node w) serial again).target in
            record {
              requests = with_requests v.store.last r.1.outbox.packets c.requests;
              are = subst (λ n. AreOf (with_requests v.store.last r.1.outbox.packets c.requests) (over (term_in start past now)).agents n) (sym target_is) (are_left (run_tells run serial sent s found zero_to may) sound);
              sent = known_over_delivery units ready has start w h c.requests c.sent serial sent found zero_to again run bytes s.media past sound.stands;
            }

        heard_target : Sound past lines (delivered serial again run s).world → C past (delivered serial again run s).world
        unfolding delivered target_received arrived
        heard_target sound =
            let last_is : (delivered serial again run s).world ≡ handed_out 0 0 r.1.outbox v =
            ap (λ (x : Option Arrival × (OutboxState × Scene)). (delivered_by serial again x).world)
            (received_is run serial s sent found ∙ ap (λ b. cond b (at_target sent.to (target_received run sent w.target s.media) s) (initiator_received sent s)) (to_zero sent.to zero_to))
            ∙ ap (λ n. handed_out n 0 r.1.outbox v) zero_to in
            subst (C past) (sym last_is) (heard_crew (subst (Sound past lines) last_is sound))

      -- to an initiator
      abbrev t : Target
      t = term_in start past s.world

      abbrev first_of : Judged → List InitiatorState → WorldState
      first_of judged states = with_note (judged_note serial judged) (marked serial again (with_initiators states s.world))

      first_is : (i : ℕ) → sent.to ≡ suc i → (judged : Judged) (states : List InitiatorState) → term_in start past (first_of judged states) ≡ over t
      first_is i e judgements.Got states =
          ap (λ ms. target_at start (said (notes.Got serial) ∷ ms)) (marked_hist past serial again (with_initiators states s.world))
          ∙ got_out start (hist past s.world) serial (ap (λ so. is_serial (receiver_in so) 0) (was_sent s.world h.sound.stands serial sent found) ∙ not_zero sent.to i e)
      first_is i e (judgements.Ignored cause) states =
          ap (λ ms. target_at start (said (notes.Ignored serial cause) ∷ ms)) (marked_hist past serial again (with_initiators states s.world))

      heard_own : (i : ℕ) → sent.to ≡ suc i → i < length s.world.initiators → Sound past lines (delivered serial again run s).world → C past (delivered serial again run s).world
      unfolding delivered initiators_received arrived
      heard_own i to_is inside sound =
          let w = s.world in
          let r = receive_step sent.generation sent.bytes empty_outbox (slice_index_or w.initiators i (new_state 0 false)) in
          let states = slice_set w.initiators i r.1.1 in
          let v = first_of r.0 states in
          let is_over = first_is i to_is r.0 states in
          let last_is : (delivered serial again run s).world ≡ handed_out (suc i) 0 r.1.0 v =
          ap (λ (x : Option Arrival × (OutboxState × Scene)). (delivered_by serial again x).world) (to_own run serial i s sent found to_is ∙ own_inside sent i s inside)
          ∙ ap (λ n. handed_out n 0 r.1.0 v) to_is in
          subst (C past) (sym last_is)
          (own_crew units ready has start w h i 0 r.1.0 v (own.receives sent.generation sent.bytes empty_outbox (slice_index_or w.initiators i (new_state 0 false)) tt)
          (ap (λ (x : Target). x.reply) is_over ∙ (over_idle t).reply) (ap (λ (x : Target). (over x).agents) is_over ∙ asides_law.twice t)
          (marked_alike (with_initiators states w) serial again).target (marked_requests serial again (with_initiators states w)) (subst (Sound past lines) last_is sound) c)

      heard_none : (i : ℕ) → sent.to ≡ suc i → length s.world.initiators ≤ i → C past (delivered serial again run s).world
      unfolding delivered
      heard_none i to_is outside =
          subst (C past) (sym (ap (λ (x : Option Arrival × (OutboxState × Scene)). (delivered_by serial again x).world) (to_own run serial i s sent found to_is ∙ own_outside sent i s outside))) c

      heard_at : (to : ℕ) → sent.to ≡ to → Sound past lines (delivered serial again run s).world → C past (delivered serial again run s).world
      heard_at zero e sound = heard_target e sound
      heard_at (suc i) e sound = by (nat_lt i (length s.world.initiators)) refl
        where
          by : (b : Bool) → nat_lt i (length s.world.initiators) ≡ b → C past (delivered serial again run s).world
          by true f = heard_own i e (grind arith) sound
          by false f = heard_none i e (grind arith)

    heard_by : (so : Option Sent) → found_sent serial s.world.store.kept ≡ so → Sound past lines (delivered serial again run s).world → C past (delivered serial again run s).world
    unfolding delivered received_step
    heard_by None e sound = subst (C past) (sym (ap (λ o. (delivered_by serial again (received_by run o s)).world) e)) c
    heard_by (Some sent) e sound = heard_at sent e sent.to refl sound

    heard : Sound past lines (delivered serial again run s).world → C past (delivered serial again run s).world
    heard sound = heard_by (found_sent serial s.world.store.kept) refl sound

  delivers_if : {past : List Moment} {lines : ℕ} (b : Bool) (line serial : ℕ) (again : Bool) (told : List (Option Told)) (s : Scene) → AreTold told → MayIf b serial told s → IsSite start past s → H past lines s.world → (term_in start past s.world).reply ≡ None → C past s.world → Sound past lines (delivered_if b line serial again told s).world → C past (delivered_if b line serial again told s).world
  delivers_if true line serial again [] s t m u h idle c sound = absurd m
  delivers_if true line serial again (run ∷ []) s t m u h idle c sound = heard s h c serial again run t.0 m u sound
  delivers_if true line serial again (run ∷ (other ∷ more)) s t m u h idle c sound = absurd m
  delivers_if false line serial again told s t m u h idle c sound = refuses units ready has start s.world h idle c line no_packet

  next_heard : {past : List Moment} {lines : ℕ} (run : Option Told) → BytesTold run → (s : Scene) → H past lines s.world → C past s.world → IsSite start past s → (o : Option ℕ) → settling.MayAt o run s → Sound past lines (delivered_at o run s).world → C past (delivered_at o run s).world
  next_heard run t s h c u None m sound = absurd m
  next_heard run t s h c u (Some serial) m sound = heard s h c serial false run t m u sound

  pub all_crew : {past : List Moment} {lines : ℕ} (told : List (Option Told)) → AreTold told → (s : Scene) → MayAll told s → AllSites start past told s → H past lines s.world → C past s.world → (terms past).repeats ≡ false → C past (after_all told s).world
  unfolding delivered_next MayNext
  all_crew [] t s m u h c r = c
  all_crew (run ∷ before) t s m u h c r =
      next_heard run t.0 (after_all before s) (all_heard units ready has start before t.1 s h r) (all_crew before t.1 s m.1 u.1 h c r) u.0 (lowest (after_all before s).world) m.0
      (all_heard units ready has start (run ∷ before) t s h r).sound

  ends : {past : List Moment} (w : WorldState) (b : Bool) → C past w → C past (with_note (end_note b) w)
  ends {past} w true c = same_crew units ready has start w (with_note notes.Settled w) (settled_ends (term_in start past w)) refl refl c
  ends {past} w false c = same_crew units ready has start w (with_note notes.Stopped w) (stopped_ends (term_in start past w)) refl refl c

  -- ---- a line
  module _ (line : ℕ) (event : Event) (w : WorldState) (past : List Moment) where
    pub opened : C past w → C (asked line event ∷ hist past w) (without_notes w)
    opened c = same_crew units ready has start w (without_notes w) (asides_law.twice (term_in start past w)) refl refl c

    opened_idle : (term_in start (asked line event ∷ hist past w) (without_notes w)).reply ≡ None
    opened_idle = (over_idle (term_in start past w)).reply

  goes : {past : List Moment} {lines : ℕ} (line : ℕ) (event : Event) (told : List (Option Told)) (s : Scene) → IsLine event (length s.world.initiators) → AreTold told → MayHappen event told s → LineSites event start (asked line event ∷ hist past s.world) told (begun s) → H past lines s.world → C past s.world → Sound (asked line event ∷ hist past s.world) (lines + 1) (happens line event told s).world → C (asked line event ∷ hist past s.world) (happens line event told s).world
  unfolding happens MayHappen
  goes line (events.Begin initiators is_ready) told s l t m u h c sound = absurd l
  goes {past} line (events.Act initiator action) told s l t m u h c sound =
      let e = events.Act initiator action in
      acts units ready has start (without_notes s.world) (opens units ready has start line e s.world refl h) (opened_idle line e s.world past) (opened line e s.world past c) line initiator action sound
  goes {past} line (events.Reset physical) told s l t m u h c sound =
      let e = events.Reset physical in
      resets units ready has start (without_notes s.world) (opened_idle line e s.world past) (opened line e s.world past c) physical
  goes {past} line (events.See node) told s l t m u h c sound =
      let e = events.See node in
      sights units ready has start (without_notes s.world) (opens units ready has start line e s.world refl h) (opened_idle line e s.world past) (opened line e s.world past c) node sound
  goes {past} line (events.Deliver serial) told s l t m u h c sound =
      let e = events.Deliver serial in
      delivers_if (is_in_flight serial (begun s).world) line serial false told (begun s) t m u (opens units ready has start line e s.world refl h) (opened_idle line e s.world past) (opened line e s.world past c) sound
  goes {past} line (events.Repeat serial) told s l t m u h c sound =
      let e = events.Repeat serial in
      delivers_if (may_repeat serial (begun s).world) line serial true told (begun s) t m u (opens units ready has start line e s.world refl h) (opened_idle line e s.world past) (opened line e s.world past c) sound
  goes {past} line (events.Lose serial) told s l t m u h c sound =
      let e = events.Lose serial in
      loses units ready has start (without_notes s.world) (opens units ready has start line e s.world refl h) (opened_idle line e s.world past) (opened line e s.world past c) line serial
  goes {past} line (events.Timeout serial) told s l t m u h c sound =
      let e = events.Timeout serial in
      times_out units ready has start (without_notes s.world) (opens units ready has start line e s.world refl h) (opened_idle line e s.world past) (opened line e s.world past c) line serial sound
  goes {past} line (events.Step count) told s l t m u h c sound =
      let e = events.Step count in
      all_crew told t (begun s) m.may u (opens units ready has start line e s.world refl h) (opened line e s.world past c) refl
  goes {past} line events.Settle told s l t m u h c sound =
      let e = events.Settle in
      ends (after_all told (begun s)).world (is_settled (after_all told (begun s)).world)
      (all_crew told t (begun s) m.may u (opens units ready has start line e s.world refl h) (opened line e s.world past c) refl)
  goes {past} line events.Tick told s l t m u h c sound =
      let e = events.Tick in
      ticks_line units ready has start (without_notes s.world) (opens units ready has start line e s.world refl h) (opened_idle line e s.world past) (opened line e s.world past c)
  goes {past} line (events.Inject initiator bytes) told s l t m u h c sound =
      let e = events.Inject initiator bytes in
      injects units ready has start (without_notes s.world) (opens units ready has start line e s.world refl h) (opened_idle line e s.world past) (opened line e s.world past c) line initiator bytes
  goes {past} line (events.Key unit key) told s l t m u h c sound =
      let e = events.Key unit key in
      keys_line units ready has start (without_notes s.world) (opens units ready has start line e s.world refl h) (opened_idle line e s.world past) (opened line e s.world past c) line unit key

  pub line_crew : {past : List Moment} {lines : ℕ} (line : ℕ) (event : Event) (told : List (Option Told)) (s : Scene) → IsLine event (length s.world.initiators) → AreTold told → MayHappen event told s → LineSites event start (asked line event ∷ hist past s.world) told (begun s) → lines + 1 < 2 ^ 32 → H past lines s.world → C past s.world → C (asked line event ∷ hist past s.world) (happens line event told s).world
  line_crew line event told s l t m u few h c = goes line event told s l t m u h c (line_holds units ready has start line event told s l t few h).sound
