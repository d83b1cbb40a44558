-- In a run in which lists were open as they should be before, each turn keeps that the last ORB of a list stands in its slot while its agent is at the end of the list.
use Rattle.sbp_world.proofs.Words.Std.{arith, ◌≡◌, ◌∙◌, refl, sym, ap, subst, ◌<◌, ◌≤◌, ℕ, zero, suc, nat_eq, nat_lt, Bool, true, false, cond, List, [], ◌∷◌, length, Option, Some, None, Result, Ok, Err, slice_index_or, slice_set}
use Rattle.sbp_world.proofs.Words.Wire.{Stale, Layer, expiring_step, Sent, found_sent, judged_note, end_note, no_packet, Event, empty_outbox, OutboxState, Moment, asked, said, Request, find}
use Rattle.sbp_world.proofs.Words.Target.{Told, Purpose, TargetScene, scene, expired_in, expired}
use Rattle.sbp_world.proofs.Words.Initiator.{new_state, receive_step}
use Rattle.sbp_world.proofs.Words.Laws.{status_due, OrderLaw}
use Rattle.sbp_world.proofs.Words.World.{marked, MayAt, MayReceive, MayTold, arrived, at_target, delivered, delivered_by, initiator_received, initiators_received, received_by, received_step, target_received, with_initiators, handed_out, Scene, WorldState, initiator_at, with_note, with_target, without_notes, begun, AreRows, AreOthers, machine_at, Arrival, MayHappen, acted, happens, reset_line, see_line, MayIf, delivered_if, expires, initiator_expires, inject_line, is_in_flight, lose_line, may_repeat, target_expired, target_left, timed_out, timeout_line, timeout_of, MayNext, delivered_at, delivered_next, lowest, IsLine}
use Rattle.sbp_journal.specs.declared.note.Note.TheVariants as notes
use Rattle.sbp_world.proofs.Agents.Management.Still.{hist}
use Rattle.sbp_world.proofs.Hosts.StepLaws.{step_law}
use Rattle.sbp_world.proofs.Lists.Generations.{moment_generation}
use Rattle.sbp_world.proofs.Lists.StatusCall.{AreRested, IsFirst, rests_has, held_by}
use Rattle.sbp_journal.specs.declared.event.Event.TheVariants as events
use Rattle.sbp_world.specs.Packets as packets
use Rattle.sbp_world.specs.Settling as settling
use Rattle.sbp_world.proofs.Wire.Comes.{own_inside, own_outside, received_is, to_own, to_zero}
use Rattle.sbp_world.proofs.Hosts.Hands.{hand_law}
use Rattle.sbp_world.proofs.Lists.Lines.{acts, injects, loses, resets}
use Rattle.sbp_world.proofs.Lists.OpenedOthers.{acts_does, injects_does, loses_does, resets_does}
use Rattle.sbp_world.proofs.Lists.Rises.{Rises}
use Rattle.sbp_world.proofs.Lists.StatusBehind.{At, Then, after_of, at_asked, inside_then, low_at}
use Rattle.sbp_world.proofs.Lists.StatusOthers.{hears_rests, key_rests, line_rests, own_lapse_rests, own_sight_rests, refused_rests}
use Rattle.sbp_world.proofs.Lists.StatusTargets.{delivery_rests, lapse_rests, sight_rests, tick_rests}
use Rattle.sbp_world.proofs.Lists.Turned.{IsOne}
use Rattle.sbp_world.proofs.Lists.Walks.{Turn, by_delivery, by_end, by_line, by_start}

end_first : (i : ℕ) (done : Bool) (H : List Moment) → IsFirst i (said (end_note done)) H
end_first i true H = record { null = λ n k. tt; prepared = λ slot. refl; begun = refl; ended = λ n. refl; appended = λ n. refl; still = moment_generation 0 (said notes.Settled) H refl }
end_first i false H = record { null = λ n k. tt; prepared = λ slot. refl; begun = refl; ended = λ n. refl; appended = λ n. refl; still = moment_generation 0 (said notes.Stopped) H refl }

module _ (wild : ℕ → Bool) (past : List Moment) where
  abbrev B : WorldState → Type 0
  B v = AreRested wild (hist past v) v

  abbrev Behind : WorldState → WorldState → Type 0
  Behind w v = Then wild w (hist past v) v

  -- ---- a packet is delivered
  module _ (s : Scene) (at : At wild past s.world) (serial : ℕ) (again : Bool) (run : Option Told) where
    abbrev w : WorldState
    w = s.world

    abbrev end : WorldState
    end = (delivered serial again run s).world

    module _ (sent : Sent) (found : found_sent serial w.store.kept ≡ Some sent) (then : Behind w end) where
      heard_target : sent.to ≡ 0 → AreOthers (target_received run sent w.target s.media).1.0.sides → B end
      unfolding delivered target_received arrived
      heard_target zero_to others =
          let x = target_received run sent w.target s.media in
          let last_is : end ≡ handed_out 0 0 x.1.0 (with_note (judged_note serial x.0) (marked serial again (with_target x.1.1.0 w))) =
          ap (λ (y : Option Arrival × (OutboxState × Scene)). (delivered_by serial again y).world)
          (received_is run serial s sent found ∙ ap (λ b. cond b (at_target sent.to (target_received run sent w.target s.media) s) (initiator_received sent s)) (to_zero sent.to zero_to))
          ∙ ap (λ n. handed_out n 0 x.1.0 (with_note (judged_note serial x.0) (marked serial again (with_target x.1.1.0 w)))) zero_to in
          subst B (sym last_is) (delivery_rests wild past w at serial sent found zero_to run s again others (subst (Behind w) last_is then))

      heard_own : (i : ℕ) → sent.to ≡ suc i → i < length w.initiators → B end
      unfolding delivered initiators_received arrived
      heard_own i to_is inside =
          let x = receive_step sent.generation sent.bytes empty_outbox (slice_index_or w.initiators i (new_state 0 false)) in
          let v = with_note (judged_note serial x.0) (marked serial again (with_initiators (slice_set w.initiators i x.1.1) w)) in
          let last_is : end ≡ handed_out sent.to 0 x.1.0 v =
          ap (λ (y : Option Arrival × (OutboxState × Scene)). (delivered_by serial again y).world) (to_own run serial i s sent found to_is ∙ own_inside sent i s inside) in
          let is = last_is ∙ ap (λ n. handed_out n 0 x.1.0 v) to_is in
          subst B (sym is) (hears_rests wild past w at serial i again sent (subst (Behind w) is then))

      heard_none : (i : ℕ) → sent.to ≡ suc i → length w.initiators ≤ i → B end
      unfolding delivered
      heard_none i to_is outside =
          subst B (sym (ap (λ (y : Option Arrival × (OutboxState × Scene)). (delivered_by serial again y).world) (to_own run serial i s sent found to_is ∙ own_outside sent i s outside))) at.rested

      heard_at : (to : ℕ) → sent.to ≡ to → (sent.to ≡ 0 → AreOthers (target_received run sent w.target s.media).1.0.sides) → B end
      heard_at zero e others = heard_target e (others e)
      heard_at (suc i) e others = by (nat_lt i (length w.initiators)) refl
        where
          by : (b : Bool) → nat_lt i (length w.initiators) ≡ b → B end
          by true f = heard_own i e (grind arith)
          by false f = heard_none i e (grind arith)

    heard_by : (so : Option Sent) → found_sent serial w.store.kept ≡ so → MayAt run so s → Behind w end → B end
    unfolding delivered received_step
    heard_by None e m then = subst B (sym (ap (λ o. (delivered_by serial again (received_by run o s)).world) e)) at.rested
    heard_by (Some sent) e m then = heard_at sent e then sent.to refl (λ z. hand_law.received run sent w.target s.media (subst (λ b. MayTold b run sent s) (to_zero sent.to z) m))

    heard : MayReceive run serial s → Behind w end → B end
    unfolding MayReceive
    heard m then = heard_by (found_sent serial w.store.kept) refl m then

  next_heard : (s : Scene) → At wild past s.world → (one : Option Told) (so : Option ℕ) → settling.MayAt so one s → Behind s.world (delivered_at so one s).world → B (delivered_at so one s).world
  next_heard s at one None m then = absurd m
  next_heard s at one (Some serial) m then = heard s at serial false one m then

  -- ---- a transaction times out
  module _ (w : WorldState) (at : At wild past w) (none : status_due (hist past w) ≡ None) (line serial : ℕ) where
    abbrev Left : Request → Result (Unit {0}) Stale × TargetScene → WorldState
    Left request y = timed_out line serial request.node (packets.at_target (target_left y w.target) w)

    lapse_by : (request : Request) → request.node ≡ 0 → (y : Result (Option Purpose) Stale × Layer Purpose) → AreOthers (expired_in y request.peer request.label (scene w.target empty_outbox)).1.outbox.sides → Behind w (Left request (expired_in y request.peer request.label (scene w.target empty_outbox))) → B (Left request (expired_in y request.peer request.label (scene w.target empty_outbox)))
    lapse_by request z (Ok purpose, layer) others then =
        let t = (expired_in (Ok purpose, layer) request.peer request.label (scene w.target empty_outbox)).1 in
        let u = with_note (notes.TimedOut serial) (with_target t.node w) in
        subst (λ n. B (handed_out n 0 t.outbox u)) (sym z) (lapse_rests wild past w at serial request.peer request.label purpose layer others (subst (λ n. Behind w (handed_out n 0 t.outbox u)) z then))
    lapse_by request z (Err stale, layer) others then = refused_rests wild past w at none line no_packet then

    lapses_at : (request : Request) (node : ℕ) → request.node ≡ node → Behind w (timed_out line serial request.node (expires request w)) → B (timed_out line serial request.node (expires request w))
    unfolding expires target_expired expired
    lapses_at request zero e then =
        let is_zero : nat_eq request.node 0 ≡ true = grind arith in
        let of = λ (b : Bool). timed_out line serial request.node (cond b (packets.at_target (target_expired request w.target) w) (initiator_expires request w)) in
        subst (λ b. B (of b)) (sym is_zero)
        (lapse_by request e (expiring_step w.target.layer request.peer request.label) (hand_law.expires request.peer request.label w.target) (subst (λ b. Behind w (of b)) is_zero then))
    lapses_at request (suc i) e then =
        let other : nat_eq request.node 0 ≡ false = grind arith in
        let of = λ (b : Bool). timed_out line serial request.node (cond b (packets.at_target (target_expired request w.target) w) (initiator_expires request w)) in
        subst (λ b. B (of b)) (sym other) (own_lapse_rests wild past w at none line serial request other (subst (λ b. Behind w (of b)) other then))

    late_by : (so : Option Request) → Behind w (timeout_of so line serial w) → B (timeout_of so line serial w)
    late_by None then = refused_rests wild past w at none line no_packet then
    late_by (Some request) then = lapses_at request request.node refl then

    late : Behind w (timeout_line line serial w) → B (timeout_line line serial w)
    unfolding timeout_line
    late then = late_by (find w.requests serial) then

  -- ---- a line that delivers one packet at most
  one_heard : (s : Scene) → At wild past s.world → status_due (hist past s.world) ≡ None → (line serial : ℕ) (again b : Bool) (told : List (Option Told)) → MayIf b serial told s → Behind s.world (delivered_if b line serial again told s).world → B (delivered_if b line serial again told s).world
  one_heard s at none line serial again true [] m then = absurd m
  one_heard s at none line serial again true (one ∷ []) m then = heard s at serial again one m then
  one_heard s at none line serial again true (one ∷ other ∷ more) m then = absurd m
  one_heard s at none line serial again false told m then = refused_rests wild past s.world at none line no_packet then

  see_rests : (w : WorldState) → At wild past w → status_due (hist past w) ≡ None → (node : ℕ) → Rises (hist past (see_line node w)) → Behind w (see_line node w) → B (see_line node w)
  see_rests w at none zero rises then = sight_rests wild past w at none rises then
  see_rests w at none (suc j) rises then = own_sight_rests wild past w at none j then

-- ---- a line
module _ (wild : ℕ → Bool) (past : List Moment) (line : ℕ) (s : Scene) (at : At wild past s.world) where
  abbrev w0 : WorldState
  w0 = without_notes s.world

  abbrev on : Event → List Moment
  on event = asked line event ∷ hist past s.world

  asked_at : (event : Event) → At wild (on event) w0
  asked_at event = at_asked wild line event past s.world at

  abbrev Goes : Event → WorldState → Type 0
  Goes event v = Then wild s.world (hist (on event) v) v → AreRested wild (hist (on event) v) v

  as_then : (now : List Moment) (v : WorldState) → Then wild s.world now v → Then wild w0 now v
  as_then now v t = record { later = t.later; latest = t.latest; opened = t.opened; count = t.count }

  line_held : (event : Event) (told : List (Option Told)) → IsOne event → IsLine event (length s.world.initiators) → MayHappen event told s → ((i : ℕ) → i < length s.world.initiators → (initiator_at s.world i).number ≡ i) → OrderLaw wild (hist past s.world) → ((i : ℕ) → i < length s.world.initiators → AreRows (hist past s.world) i (initiator_at s.world i).lists.slots) → Rises (hist (on event) (happens line event told s).world) → Goes event (happens line event told s).world
  unfolding happens MayHappen
  line_held (events.Begin initiators is_ready) told o q m number law rows g then = absurd q
  line_held (events.Act i action) told o q m number law rows g then =
      line_rests wild past s.world at line (events.Act i action) (acted line i action w0) (acts_does s.world line i action)
      (acts wild (on (events.Act i action)) line i action w0 (number i q.0) (step_law.asked line (events.Act i action) (hist past s.world) i (initiator_at s.world i).lists.slots (rows i q.0)) (tt, law)) then
  line_held (events.Reset physical) told o q m number law rows g then =
      line_rests wild past s.world at line (events.Reset physical) (reset_line physical w0) (resets_does s.world physical) (resets wild (on (events.Reset physical)) w0 physical) then
  line_held (events.See node) told o q m number law rows g then =
      see_rests wild (on (events.See node)) w0 (asked_at (events.See node)) refl node g (as_then _ _ then)
  line_held (events.Deliver serial) told o q m number law rows g then =
      one_heard wild (on (events.Deliver serial)) (begun s) (asked_at (events.Deliver serial)) refl line serial false (is_in_flight serial (begun s).world) told m (as_then _ _ then)
  line_held (events.Repeat serial) told o q m number law rows g then =
      one_heard wild (on (events.Repeat serial)) (begun s) (asked_at (events.Repeat serial)) refl line serial true (may_repeat serial (begun s).world) told m (as_then _ _ then)
  line_held (events.Lose serial) told o q m number law rows g then =
      line_rests wild past s.world at line (events.Lose serial) (lose_line line serial w0) (loses_does s.world line serial) (loses wild (on (events.Lose serial)) w0 line serial) then
  line_held (events.Timeout serial) told o q m number law rows g then = late wild (on (events.Timeout serial)) w0 (asked_at (events.Timeout serial)) refl line serial (as_then _ _ then)
  line_held (events.Step count) told o q m number law rows g then = absurd o
  line_held events.Settle told o q m number law rows g then = absurd o
  line_held events.Tick told o q m number law rows g then = tick_rests wild (on events.Tick) w0 (asked_at events.Tick) refl (as_then _ _ then)
  line_held (events.Inject i bytes) told o q m number law rows g then =
      line_rests wild past s.world at line (events.Inject i bytes) (inject_line line i bytes w0) (injects_does s.world line i bytes) (injects wild (on (events.Inject i bytes)) w0 line i bytes) then
  line_held (events.Key unit key) told o q m number law rows g then = key_rests wild past s.world at line (events.Key unit key) unit key then

-- ---- each turn
delivery_turn : (wild : ℕ → Bool) (past : List Moment) (s : Scene) (one : Option Told) → MayNext one s → At wild past s.world → Then wild s.world (hist past (delivered_next one s).world) (delivered_next one s).world → AreRested wild (hist past (delivered_next one s).world) (delivered_next one s).world
unfolding delivered_next MayNext
delivery_turn wild past s one m at then = next_heard wild past s at one (lowest s.world) m then

end_turn : (wild : ℕ → Bool) (past : List Moment) (w : WorldState) (done : Bool) → At wild past w → Then wild w (hist past (with_note (end_note done) w)) (with_note (end_note done) w) → AreRested wild (hist past (with_note (end_note done) w)) (with_note (end_note done) w)
end_turn wild past w done at then i q mild c rv mine n k list e =
    let H = hist past w in
    let first = end_first i done H in
    let inside = inside_then wild w (said (end_note done) ∷ H) (with_note (end_note done) w) then i q c rv mine in
    let h = at.rested i q mild c rv mine n k list (sym (first.ended n) ∙ e) in
    held_by wild i mild H (said (end_note done)) [] tt first (low_at wild past w at i mild inside q c (rests_has (machine_at w q) rv) mine) (after_of wild i (said (end_note done) ∷ H) (then.later i mild inside) [] (said (end_note done)) H refl) n k e h.below h.slotted (first.null n k, h.null)

pub turn_held : (wild : ℕ → Bool) (past : List Moment) (s : Scene) (later : List Moment) (t : Scene) → Turn past s later t → At wild past s.world → ((i : ℕ) → i < length s.world.initiators → (initiator_at s.world i).number ≡ i) → OrderLaw wild (hist past s.world) → ((i : ℕ) → i < length s.world.initiators → AreRows (hist past s.world) i (initiator_at s.world i).lists.slots) → Rises (hist later t.world) → Then wild s.world (hist later t.world) t.world → AreRested wild (hist later t.world) t.world
turn_held wild _ _ _ _ (by_line past s line event told o q m) at number law rows g then = line_held wild past line s at event told o q m number law rows g then
turn_held wild _ _ _ _ (by_start past s line event d) at number law rows g then = (at_asked wild line event past s.world at).rested
turn_held wild _ _ _ _ (by_delivery past s one m) at number law rows g then = delivery_turn wild past s one m at then
turn_held wild _ _ _ _ (by_end past s done) at number law rows g then = end_turn wild past s.world done at then
