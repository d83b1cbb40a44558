-- In every run the target answers a write of MANAGEMENT_AGENT with conflict_error as it finds an operation under way alone, and nothing is owed as a second passes: after each line, and behind each
-- delivery of a line that may follow.
use Rattle.sbp_world.proofs.Words.Std.{arith, ◌≡◌, ◌∙◌, refl, sym, ap, subst, ℕ, zero, suc, ◌+◌, ◌<◌, ◌≤◌, ◌^◌, ◌||◌, nat_lt, Bool, true, false, cond, List, [], ◌∷◌, ◌++◌, length, map, Option, Some, None, not, slice_set}
use Rattle.sbp_world.proofs.Words.Wire.{as_sending, Sent, found_sent, is_flying, deliver_step, end_note, judged_note, no_node, no_packet, OutboxState, empty_outbox, Moment, asked, said, terms, Judged, Event, Side}
use Rattle.sbp_world.proofs.Words.Target.{Operation, Disk, Told, received, Whole}
use Rattle.sbp_world.proofs.Words.Initiator.{receive_step}
use Rattle.sbp_world.proofs.Words.Laws.{target_at}
use Rattle.sbp_world.proofs.Words.World.{AreOthers, history, IsRun, more_deliveries, Arrival, MayAt, MayReceive, MayTell, MayTold, arrived, at_target, delivered, delivered_by, initiator_received, initiators_received, marked, received_by, received_step, target_received, whole_of, with_initiators, handed_out, history_of, moments_behind, MayHappen, happens, keyed, no_unit, ready_logins, reset_line, MayIf, delivered_if, inject_line, injected, injected_to, is_in_flight, lose_line, lost, may_repeat, refused, AreEntries, Entry, Run, after, beginning, posted, MayAll, MayNext, after_all, delivered_at, delivered_next, is_settled, lowest, told_all, Scene, WorldState, begun, initiator_at, with_note, with_target, without_notes, AreLines, IsLine, DeliversMore}
use Rattle.sbp_world.proofs.Hosts.Hands.{target_tells}
use Rattle.sbp_world.proofs.Hosts.Layered.{receive_left}
use Rattle.mgmt_agent.specs.Machine as manager
use Rattle.sbp_journal.specs.declared.event.Event.TheVariants as events
use Rattle.sbp_journal.specs.declared.note.Note.TheVariants as notes
use Rattle.sbp_journal.specs.declared.side.Side.TheVariants as sides
use Rattle.sbp_world.specs.Settling as settling
use Rattle.sbp_world.proofs.Wire.Comes.{own_inside, own_outside, received_is, to_own, to_zero}
use Rattle.sbp_world.proofs.Wire.ToldBytes.{happened_fits}
use Rattle.sbp_world.proofs.Wire.CommandBytes.{AreTold}
use Rattle.sbp_world.proofs.Agents.Management.Holding.{Holding, marked_hist, was_sent}
use Rattle.sbp_world.proofs.Agents.Management.Lines.{all_heard, opens}
use Rattle.sbp_world.proofs.Agents.Management.Outs.{told_terms}
use Rattle.sbp_world.proofs.Agents.Management.Runs.{holds_after, no_repeats, not_reset}
use Rattle.sbp_world.proofs.Agents.Management.Sides.{AllBehind}
use Rattle.sbp_world.proofs.Agents.Management.Still.{hist}
use Rattle.sbp_world.proofs.Lists.ManageAnswers.{IsFound, elsewhere_found, ignored_found, refusing}
use Rattle.sbp_world.proofs.Lists.ManageCalls.{Handed, delivery_handed, elsewhere, ignored, others, refuses}
use Rattle.sbp_world.proofs.Lists.ManageTells.{AreFound, B, acts, first_hands, judged_on, notes_on, own_hands, plain_on, seconds, sights, target_hands, times_out}
use Rattle.sbp_world.proofs.Lists.OpenedWorlds.{wired}
use Rattle.sbp_world.proofs.Hosts.Runs.{are_told}

others_behind : (told : List Side) → AreOthers told → AllBehind told
others_behind [] h = tt
others_behind (sides.Own note ∷ later) h = absurd h.0
others_behind (_ ∷ later) h = (tt, others_behind later h.1)

none_told : (v : WorldState) → told_all 0 [] v ≡ v
unfolding told_all
none_told v = refl

-- ---- a delivery

module _ (units ready : ℕ) (start : List Disk) {past : List Moment} {lines : ℕ} (s : Scene) (holds : Holding units ready start past lines s.world) (h : B start past s.world) (serial : ℕ) (again : Bool) (run : Option Told) (may : MayReceive run serial s) where
  abbrev w : WorldState
  w = s.world

  abbrev H : List Moment
  H = hist past w

  quiet : (terms H).owes ≡ None
  quiet = (wired w holds.sound.stands).quiet

  -- the note of how it was judged
  judges : (judged : Judged) (v : WorldState) → AreFound start (said (judged_note serial judged) ∷ history v past) → B start past (with_note (judged_note serial judged) (marked serial again v))
  judges judged v k = by (again || not (is_flying serial v.store.kept))
    where
      by : (b : Bool) → B start past (with_note (judged_note serial judged) (cond b v (record v { store = deliver_step v.store serial })))
      by true = k
      by false = k

  module _ (sent : Sent) (found : found_sent serial w.store.kept ≡ Some sent) where
    told_by : sent.to ≡ 0 → MayTell run sent w.target s.media
    unfolding MayReceive
    told_by zero_to =
        let at : MayAt run (Some sent) s = subst (λ o. MayAt run o s) found may in subst (λ b. MayTold b run sent s) (to_zero sent.to zero_to) at

    was : (terms H).sent serial ≡ Some (as_sending sent)
    was = was_sent w holds.sound.stands serial sent found

    abbrev r : Judged × Whole
    r = received run sent.generation sent.bytes (whole_of w.target s.media)

    abbrev v : WorldState
    v = with_note (judged_note serial r.0) (marked serial again (with_target r.1.node w))

    history_is : history v past ≡ said (judged_note serial r.0) ∷ H
    history_is = ap (λ ms. said (judged_note serial r.0) ∷ ms) (marked_hist past serial again (with_target r.1.node w))

    -- the terms behind what is told
    terms_are : AreOthers r.1.outbox.sides → terms (history (told_all 0 r.1.outbox.sides v) past) ≡ terms (said (judged_note serial r.0) ∷ H)
    terms_are o = told_terms past 0 r.1.outbox.sides v (others_behind r.1.outbox.sides o) ∙ ap terms history_is

    manager_is : (op : Operation) → w.target.manager.operation ≡ Some op → (target_at start H).manager.operation ≡ Some op
    manager_is op e = ap (λ (m : manager.Machine). m.operation) holds.at.agrees.manager ∙ e

    -- behind what is told the first packet is found as it is to be
    ends_as : sent.to ≡ 0 → AreOthers r.1.outbox.sides → Handed w.target.manager.operation sent.bytes r → B start past v → B start past (handed_out 0 0 r.1.outbox v)
    ends_as to o (others f) k = target_hands start past 0 r.1.outbox v o f k
    ends_as to o (ignored cause e x) k =
        first_hands start past r.1.outbox v o x (ignored_found start H quiet serial x.first.bytes cause (history (told_all 0 r.1.outbox.sides v) past) (terms_are o ∙ ap (λ j. terms (said (judged_note serial j) ∷ H)) e)) k
    ends_as to o (elsewhere p read n x) k =
        first_hands start past r.1.outbox v o x (elsewhere_found start H quiet serial x.first.bytes (as_sending sent) was p read r.0 (history (told_all 0 r.1.outbox.sides v) past) (terms_are o) n) k
    ends_as to o (refuses op p access under read asks at serves got none x) k =
        let here : history (told_all 0 r.1.outbox.sides v) past ≡ said (notes.Got serial) ∷ H =
        ap (λ told. history (told_all 0 told v) past) none ∙ ap (λ x. history x past) (none_told v) ∙ history_is ∙ ap (λ j. said (judged_note serial j) ∷ H) got in
        first_hands start past r.1.outbox v o x
        (subst (λ ms. IsFound start ms x.first.bytes) (sym here)
        (λ owed owes cause a asking there zero code rcode. refusing start H quiet serial x.first.bytes (as_sending sent) was p read to op (manager_is op under) access asks at serves))
        k

    heard_target : sent.to ≡ 0 → B start past (delivered serial again run s).world
    unfolding delivered target_received arrived
    heard_target zero_to =
        let last_is : (delivered serial again run s).world ≡ handed_out 0 0 r.1.outbox v =
        ap (λ (x : Option Arrival × (OutboxState × Scene)). (delivered_by serial again x).world)
        (received_is run serial s sent found ∙ ap (λ b. cond b (at_target sent.to (target_received run sent w.target s.media) s) (initiator_received sent s)) (to_zero sent.to zero_to))
        ∙ ap (λ n. handed_out n 0 r.1.outbox v) zero_to in
        subst (B start past) (sym last_is)
        (ends_as zero_to (target_tells run sent w.target s.media (told_by zero_to)) (delivery_handed run sent.generation sent.bytes w.target s.media.disks holds.rom)
        (judges r.0 (with_target r.1.node w) (judged_on start serial r.0 (history w past) h)))

    heard_own : (i : ℕ) → i < length w.initiators → sent.to ≡ suc i → B start past (delivered serial again run s).world
    unfolding delivered initiators_received arrived
    heard_own i inside to_is =
        let r = receive_step sent.generation sent.bytes empty_outbox (initiator_at w i) in
        let x = with_initiators (slice_set w.initiators i r.1.1) w in
        let v = with_note (judged_note serial r.0) (marked serial again x) in
        let last_is : (delivered serial again run s).world ≡ handed_out sent.to 0 r.1.0 v =
        ap (λ (x : Option Arrival × (OutboxState × Scene)). (delivered_by serial again x).world) (to_own run serial i s sent found to_is ∙ own_inside sent i s inside) in
        subst (B start past) (sym (last_is ∙ ap (λ n. handed_out n 0 r.1.0 v) to_is))
        (own_hands start past i 0 r.1.0 v (receive_left sent.generation sent.bytes (initiator_at w i)).told (judges r.0 x (judged_on start serial r.0 (history w past) h)))

    heard_none : (i : ℕ) → sent.to ≡ suc i → length w.initiators ≤ i → B start past (delivered serial again run s).world
    unfolding delivered
    heard_none i to_is outside =
        subst (B start past) (sym (ap (λ (x : Option Arrival × (OutboxState × Scene)). (delivered_by serial again x).world) (to_own run serial i s sent found to_is ∙ own_outside sent i s outside))) h

    heard_at : (to : ℕ) → sent.to ≡ to → B start past (delivered serial again run s).world
    heard_at zero e = heard_target e
    heard_at (suc i) e = by (nat_lt i (length w.initiators)) refl
      where
        by : (b : Bool) → nat_lt i (length w.initiators) ≡ b → B start past (delivered serial again run s).world
        by true f = heard_own i (grind arith) e
        by false f = heard_none i e (grind arith)

  heard_by : (so : Option Sent) → found_sent serial w.store.kept ≡ so → B start past (delivered serial again run s).world
  unfolding delivered received_step
  heard_by None e = subst (B start past) (sym (ap (λ o. (delivered_by serial again (received_by run o s)).world) e)) h
  heard_by (Some sent) e = heard_at sent e sent.to refl

  heard : B start past (delivered serial again run s).world
  heard = heard_by (found_sent serial w.store.kept) refl

-- ---- deliveries of a line

module _ (units ready : ℕ) (start : List Disk) where
  one_heard : {past : List Moment} {lines : ℕ} (serial line : ℕ) (again b : Bool) (told : List (Option Told)) (s : Scene) → MayIf b serial told s → Holding units ready start past lines s.world → B start past s.world → B start past (delivered_if b line serial again told s).world
  one_heard serial line again true [] s m holds h = absurd m
  one_heard serial line again true (told ∷ []) s m holds h = heard units ready start s holds h serial again told m
  one_heard serial line again true (told ∷ other ∷ more) s m holds h = absurd m
  one_heard {past = past} serial line again false told s m holds h = notes_on start past (notes.Refused line no_packet) s.world refl h

  next_told : {past : List Moment} {lines : ℕ} (told : Option Told) (s : Scene) → Holding units ready start past lines s.world → B start past s.world → (o : Option ℕ) → settling.MayAt o told s → B start past (delivered_at o told s).world
  next_told told s holds h None m = absurd m
  next_told told s holds h (Some serial) m = heard units ready start s holds h serial false told m

module _ (units ready : ℕ) (has : 0 < units) (start : List Disk) where
  all_told : {past : List Moment} {lines : ℕ} (told : List (Option Told)) → AreTold told → (s : Scene) → MayAll told s → Holding units ready start past lines s.world → (terms past).repeats ≡ false → B start past s.world → B start past (after_all told s).world
  unfolding delivered_next MayNext
  all_told [] t s m holds r h = h
  all_told (told ∷ before) t s m holds r h =
      let there = after_all before s in
      next_told units ready start told there (all_heard units ready has start before t.1 s holds r) (all_told before t.1 s m.1 holds r h) (lowest there.world) m.0

  -- ---- a line

  opened : (past : List Moment) (line : ℕ) (event : Event) (w : WorldState) → B start past w → B start (asked line event ∷ history w past) (without_notes w)
  opened past line event w h = (tt, h)

  injects : (past : List Moment) (line i : ℕ) (bytes : List ℕ) (w : WorldState) (to : Option ℕ) → B start past w → B start past (injected to line (i + 1) bytes w)
  unfolding posted
  injects past line i bytes w None h = notes_on start past (notes.Refused line no_node) w refl h
  injects past line i bytes w (Some to) h = (λ e. absurd (omega (arith, e)), (tt, h))

  loses : (past : List Moment) (line serial : ℕ) (w : WorldState) (b : Bool) → B start past w → B start past (cond b (lost serial w) (refused line no_packet w))
  loses past line serial w true h = notes_on start past (notes.Lost serial) w refl h
  loses past line serial w false h = notes_on start past (notes.Refused line no_packet) w refl h

  keys : (past : List Moment) (line unit : ℕ) (w x : WorldState) (b : Bool) → x.fresh ≡ w.fresh → B start past w → B start past (cond b (with_note (notes.Key unit) x) (refused line no_unit w))
  keys past line unit w x true e h = plain_on start (notes.Key unit) (history x past) refl (subst (λ fresh. AreFound start (map said fresh ++ past)) (sym e) h)
  keys past line unit w x false e h = notes_on start past (notes.Refused line no_unit) w refl h

  ends : (past : List Moment) (w : WorldState) (b : Bool) → B start past w → B start past (with_note (end_note b) w)
  ends past w true h = notes_on start past notes.Settled w refl h
  ends past w false h = notes_on start past notes.Stopped w refl h

  line_keeps : {past : List Moment} {lines : ℕ} (line : ℕ) (event : Event) (told : List (Option Told)) (s : Scene) → IsLine event (length s.world.initiators) → AreTold told → MayHappen event told s → Holding units ready start past lines s.world → B start past s.world → B start (asked line event ∷ history s.world past) (happens line event told s).world
  unfolding happens MayHappen reset_line lose_line inject_line keyed
  line_keeps line (events.Begin initiators is_ready) told s q t m holds h = absurd q
  line_keeps {past = past} line (events.Act i action) told s q t m holds h = let e = events.Act i action in acts start (asked line e ∷ history s.world past) (without_notes s.world) line i action (opened past line e s.world h)
  line_keeps {past = past} line (events.Reset physical) told s q t m holds h = let e = events.Reset physical in (tt, opened past line e s.world h)
  line_keeps {past = past} line (events.See node) told s q t m holds h = let e = events.See node in sights start (asked line e ∷ history s.world past) (without_notes s.world) node (opened past line e s.world h)
  line_keeps {past = past} line (events.Deliver serial) told s q t m holds h =
      let e = events.Deliver serial in one_heard units ready start serial line false (is_in_flight serial (begun s).world) told (begun s) m (opens units ready has start line e s.world refl holds) (opened past line e s.world h)
  line_keeps {past = past} line (events.Repeat serial) told s q t m holds h =
      let e = events.Repeat serial in one_heard units ready start serial line true (may_repeat serial (begun s).world) told (begun s) m (opens units ready has start line e s.world refl holds) (opened past line e s.world h)
  line_keeps {past = past} line (events.Lose serial) told s q t m holds h =
      let e = events.Lose serial in loses (asked line e ∷ history s.world past) line serial (without_notes s.world) (is_in_flight serial (without_notes s.world)) (opened past line e s.world h)
  line_keeps {past = past} line (events.Timeout serial) told s q t m holds h = let e = events.Timeout serial in times_out start (asked line e ∷ history s.world past) (without_notes s.world) line serial (opened past line e s.world h)
  line_keeps {past = past} line (events.Step count) told s q t m holds h =
      let e = events.Step count in
      all_told told t (begun s) m.may (opens units ready has start line e s.world refl holds) refl (opened past line e s.world h)
  line_keeps {past = past} line events.Settle told s q t m holds h =
      let e = events.Settle in
      ends (asked line e ∷ history s.world past) (after_all told (begun s)).world (is_settled (after_all told (begun s)).world)
      (all_told told t (begun s) m.may (opens units ready has start line e s.world refl holds) refl (opened past line e s.world h))
  line_keeps {past = past} line events.Tick told s q t m holds h =
      let e = events.Tick in
      seconds start (asked line e ∷ history s.world past) (without_notes s.world) (wired s.world holds.sound.stands).quiet (opened past line e s.world h)
  line_keeps {past = past} line (events.Inject initiator bytes) told s q t m holds h =
      let e = events.Inject initiator bytes in
      injects (asked line e ∷ history s.world past) line initiator bytes (without_notes s.world) (injected_to (initiator + 1) bytes (without_notes s.world)) (opened past line e s.world h)
  line_keeps {past = past} line (events.Key unit key) told s q t m holds h =
      let e = events.Key unit key in keys (asked line e ∷ history s.world past) line unit (without_notes s.world) _ (nat_lt unit (length s.world.target.units)) refl (opened past line e s.world h)

-- ---- a run

module _ (line : ℕ) (run : Run) (has : 0 < run.units) (units_few : run.units ≤ 4) (size : length run.start.disks ≡ run.units) where
  abbrev logins : ℕ
  logins = ready_logins run.initiators run.ready

  abbrev disks : List Disk
  disks = run.start.disks

  are_after : (entries : List Entry) → run.initiators ≤ 4 → length entries + 2 < 2 ^ 32 → AreEntries (beginning run) entries → AreLines run entries → AreFound disks (moments_behind line run entries)
  are_after [] few short all fit = (tt, (tt, tt))
  are_after (e ∷ before) few short all fit =
      let b = holds_after line run before few has units_few size (omega arith) all.1 fit.1 in
      let s = after (beginning run) before in
      let so_far : B disks b.past s.world = subst (AreFound disks) (sym b.is) (are_after before few (omega arith) all.1 fit.1) in
      subst (AreFound disks)
      (ap (λ ns. map said ns ++ asked e.line e.event ∷ (map said s.world.fresh ++ b.past)) (sym all.0.notes_are)
      ∙ ap (λ ms. map said e.notes ++ asked e.line e.event ∷ ms) b.is)
      (line_keeps run.units logins has disks e.line e.event e.told s fit.0 (happened_fits e.event e.told s all.0.may) all.0.may b.holds so_far)

  pub found_after : IsRun run → AreFound disks (history_of line run)
  found_after r = are_after run.entries r.few r.short r.entries r.lines

  between_by : IsRun run → (next : ℕ) (event : Event) → DeliversMore event → (told : List (Option Told)) → MayAll told (begun (after (beginning run) run.entries)) → AreFound disks (map said (after_all told (begun (after (beginning run) run.entries))).world.fresh ++ asked next event ∷ history_of line run)
  between_by r next event d told m =
      let b = holds_after line run run.entries r.few has units_few size r.short r.entries r.lines in
      let s = after (beginning run) run.entries in
      let so_far : B disks b.past s.world = subst (AreFound disks) (sym b.is) (found_after r) in
      let w = (after_all told (begun s)).world in
      subst (λ ms. AreFound disks (map said w.fresh ++ asked next event ∷ ms)) b.is
      (all_told run.units logins has disks told (are_told told s m) (begun s) m (opens run.units logins has disks next event s.world (not_reset event d) b.holds) (no_repeats event (history s.world b.past) next d) (opened run.units logins has disks b.past next event s.world so_far))

  pub found_between : IsRun run → (next : ℕ) (most : Option ℕ) (told : List (Option Told)) → MayAll told (begun (after (beginning run) run.entries)) → AreFound disks (map said (after_all told (begun (after (beginning run) run.entries))).world.fresh ++ asked next (more_deliveries most) ∷ history_of line run)
  found_between r next (Some count) told m = between_by r next (events.Step count) tt told m
  found_between r next None told m = between_by r next events.Settle tt told m
