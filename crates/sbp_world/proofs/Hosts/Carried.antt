-- What the lines of a run carry on holds of each initiator after every line.
use Rattle.sbp_world.proofs.Words.Std.{arith, ◌≡◌, refl, sym, ◌∙◌, ap, subst, ℕ, suc, ◌+◌, ◌^◌, ◌<◌, ◌≤◌, ◌==◌, nat_lt, Bool, true, false, cond, List, [], ◌∷◌, ◌++◌, length, map, Option, Some, None, nat_tests}
use Rattle.sbp_world.proofs.Words.Wire.{is_reset, Sent, flying, found_sent, Stored, Moment, asked, said, terms, Action, Event, node_of, reset_step, topology_at, end_note, no_node, no_packet}
use Rattle.sbp_world.proofs.Words.Target.{Told, with_key}
use Rattle.sbp_world.proofs.Words.Initiator.{InitiatorState, Demand, asked_for, demand_of, wanted_body, new_state}
use Rattle.sbp_world.proofs.Words.World.{moments_behind, MayHappen, acted, happens, keyed, no_unit, new_world, reset_line, MayIf, delivered_if, inject_line, injected, injected_to, is_in_flight, lose_line, lost, may_repeat, refused, AreEntries, Entry, Run, after, beginning, posted, MayAll, MayNext, after_all, delivered_at, delivered_next, is_settled, lowest, Scene, WorldState, begun, initiator_at, with_note, with_target, without_notes, AreLines, IsLine, Stands, BytesTold, history, IsRun, more_deliveries}
use Rattle.bus_transactions.proofs.Fits.{request_fits}
use Rattle.bus_transactions.proofs.Follows.{last_is}
use Rattle.sbp_journal.specs.declared.event.Event.TheVariants as events
use Rattle.sbp_journal.specs.declared.note.Note.TheVariants as notes
use Rattle.sbp_world.specs.Settling as settling
use Rattle.sbp_world.proofs.FitInitiator.Law.{fitting_law as own_fitting_law}
use Rattle.sbp_world.proofs.FitTarget.Law.{fitting_law}
use Rattle.sbp_world.proofs.Making.{initiators_size}
use Rattle.sbp_world.proofs.Wire.Bus.{holds}
use Rattle.sbp_world.proofs.FitInitiator.Acts.{IfDemand, demand_fits}
use Rattle.sbp_world.proofs.Wire.Holding.{Sound, TargetOf, target_small}
use Rattle.sbp_world.proofs.Wire.Repeats.{said_same}
use Rattle.sbp_world.proofs.Wire.Runs.{sound_after}
use Rattle.sbp_world.proofs.Wire.Sound.{first_flies, next_heard, opens}
use Rattle.sbp_world.proofs.Wire.Starts.{states_at}
use Rattle.sbp_world.proofs.Wire.ToldBytes.{happened_fits}
use Rattle.sbp_world.proofs.Wire.CommandBytes.{AreTold}
use Rattle.sbp_world.proofs.Hosts.Acting.{acts}
use Rattle.sbp_world.proofs.Hosts.Asked.{IfRequest, is_request}
use Rattle.sbp_world.proofs.Hosts.Carries.{Are, Carries, CarriesSent, IsLineOf, IsNoAct, NoneActs, by_more, note_carried}
use Rattle.sbp_world.proofs.Hosts.Knows.{may_see, target_there}
use Rattle.sbp_world.proofs.Hosts.Passes.{delivers, line_expires, line_sees, ticks}
use Rattle.sbp_world.proofs.Hosts.Runs.{are_told, count_after, count_between}
use Rattle.sbp_world.proofs.Hosts.Shows.{Arriving, arriving, lapsing, shown_now}
use Rattle.sbp_world.proofs.Common.{untrue}
use Rattle.sbp_world.proofs.Hosts.Outboxes.{line_stays as line_same}

-- the next packet was not injected
pub fresh : {past : List Moment} (w : WorldState) → Stands past w → (terms (history w past)).injected (w.store.last + 1) ≡ false
fresh w h =
    let k = holds h.wire h.reached in
    let counted : w.store.last ≡ (terms h.wire.past).count = ap (λ (st : Stored). st.last) (sym h.is.store_is) ∙ last_is k.follows in
    ap (λ ms. (terms ms).injected (w.store.last + 1)) (sym h.is.past_is) ∙ (k.facts.unsent (w.store.last + 1) (omega arith)).honest

-- what an action asks for is a request
pub own_request : {past : List Moment} {lines : ℕ} (w : WorldState) (i : ℕ) → i < length w.initiators → lines + 1 < 2 ^ 32 → Sound past lines w → (action : Action) (d : Demand) → demand_of action (initiator_at w i) ≡ Some d → IfRequest (asked_for d (initiator_at w i)).0
own_request w i inside few sound action d e =
    let s = initiator_at w i in
    let h = sound.nodes.own.holds i inside in
    let count = sound.nodes.own.counts i inside in
    let small = h.fits.running_fits in
    let fits : IfDemand (Some d) = subst IfDemand e (demand_fits (TargetOf w.generations.seen i) s.counts.acts (s.counts.acts + 1) s h.fits (omega arith) action) in
    let peer : s.target < 2 ^ 16 = target_small w.generations.seen i s.target h.fits.target_known in
    is_request s.layer s.target (wanted_body d.wanted) d.purpose h.layer (request_fits s.layer.node s.target (wanted_body d.wanted) h.layer.small peer fits)

-- a line that is no action stays so
none_acts : (past : List Moment) (line : ℕ) (event : Event) (w : WorldState) → ((i : ℕ) → IsNoAct i (Some event)) → NoneActs (history w (asked line event ∷ past))
none_acts past line event w n i = subst (IsNoAct i) (sym (line_same w.fresh (asked line event ∷ past))) (n i)

-- a world behind some deliveries
record Heard (P : List Moment → ℕ → InitiatorState → Type 0) (past : List Moment) (lines : ℕ) (w : WorldState) : Type 0 where
  sound : Sound past lines w
  all : Are P past w

-- what holds of the initiators of a world, by a history
abbrev pub AreAt : (List Moment → ℕ → InitiatorState → Type 0) → List Moment → WorldState → Type 0
AreAt P ms w = (i : ℕ) → i < length w.initiators → P ms i (initiator_at w i)

-- what is known behind each line of a run
abbrev pub Knows : (List Moment → ℕ → InitiatorState → Type 0) → ℕ → Run → Type 0
Knows Q line run = (entries : List Entry) → run.initiators ≤ 4 → length entries + 2 < 2 ^ 32 → AreEntries (beginning run) entries → AreLines run entries → AreAt Q (moments_behind line run entries) (after (beginning run) entries).world

-- a world between two deliveries of a run's next line
pub record StandsBetween (line : ℕ) (run : Run) (next : ℕ) (event : Event) (w : WorldState) : Type 0 where
  pub past : List Moment
  pub lines : ℕ
  pub sound : Sound past lines w
  pub is : history w past ≡ map said w.fresh ++ asked next event ∷ moments_behind line run run.entries
  pub size : length w.initiators ≡ run.initiators

module _ {Q : List Moment → ℕ → InitiatorState → Type 0} (P : List Moment → ℕ → InitiatorState → Type 0) (law : CarriesSent Q P) where
  opened : (past : List Moment) (line : ℕ) (event : Event) (w : WorldState) → Are P past w → Are P (asked line event ∷ history w past) (without_notes w)
  opened past line event w h i b = law.asked line event (history w past) i (initiator_at w i) (h i b)

  -- ---- an action

  acts_line : {past : List Moment} {lines : ℕ} (line i : ℕ) (w : WorldState) → i < length w.initiators → lines + 1 < 2 ^ 32 → Sound past lines w → Are Q past w → Are P past w → (action : Action) → IsLineOf action → Are P (asked line (events.Act i action) ∷ history w past) (acted line i action (without_notes w))
  acts_line {past} line i w inside few sound known h action fit =
      let event = events.Act i action in
      acts P law (asked line event ∷ history w past) line i action (without_notes w) inside (opened past line event w h) refl fit
      (shown_now (without_notes w) (opens line event w refl sound).stands sound.nodes i inside)
      (law.known line event (history w past) i (initiator_at w i) (known i inside))
      (ap (λ n. node_of w.generations n (initiator_at w i).target) (let e : i + 1 ≡ suc i = omega arith in e) ∙ target_there w sound.stands i inside sound.nodes)
      (fresh w sound.stands) (λ d e. own_request w i inside few sound action d e)

  -- ---- deliveries

  module _ (past : List Moment) (lines line : ℕ) (event : Event) (n : (i : ℕ) → IsNoAct i (Some event)) where
    abbrev now : List Moment
    now = asked line event ∷ past

    one_heard : (serial : ℕ) (again : Bool) (b : Bool) (told : List (Option Told)) (s : Scene) → MayIf b serial told s → ((sent : Sent) → b ≡ true → found_sent serial s.world.store.kept ≡ Some sent → Arriving now serial sent s.world) → Are P now s.world → Are P now (delivered_if b line serial again told s).world
    one_heard serial again true [] s m k h = absurd m
    one_heard serial again true (told ∷ []) s m k h = delivers P law now serial again told s m (λ sent f. k sent refl f) (none_acts past line event s.world n) h
    one_heard serial again true (told ∷ other ∷ more) s m k h = absurd m
    one_heard serial again false told s m k h = note_carried P law now s.world (notes.Refused line no_packet) (λ i. refl) (λ i. tt) h

    next_told : (told : Option Told) → BytesTold told → (s : Scene) → Heard P now lines s.world → (terms now).repeats ≡ false → (o : Option ℕ) → lowest s.world ≡ o → settling.MayAt o told s → Heard P now lines (delivered_at o told s).world
    next_told told t s h r None e m = absurd m
    next_told told t s h r (Some serial) e m = record {
      sound = next_heard fitting_law own_fitting_law told t s h.sound r (Some serial) e;
      all = delivers P law now serial false told s m
          (λ sent f. arriving s.world h.sound.stands h.sound.nodes serial false
          (ap (λ p. (terms p).repeats) h.sound.stands.is.past_is ∙ said_same s.world.fresh now ∙ r)
          (λ x. first_flies (flying s.world.store.kept) serial e) sent f)
          (none_acts past line event s.world n) h.all;
    }

    all_told : (told : List (Option Told)) → AreTold told → (s : Scene) → MayAll told s → Heard P now lines s.world → (terms now).repeats ≡ false → Heard P now lines (after_all told s).world
    unfolding delivered_next MayNext
    all_told [] t s m h r = h
    all_told (told ∷ before) t s m h r =
        let b = all_told before t.1 s m.1 h r in
        next_told told t.0 (after_all before s) b r (lowest (after_all before s).world) refl m.0

  ends : (past : List Moment) (w : WorldState) (b : Bool) → Are P past w → Are P past (with_note (end_note b) w)
  ends past w true h = note_carried P law past w notes.Settled (λ i. refl) (λ i. tt) h
  ends past w false h = note_carried P law past w notes.Stopped (λ i. refl) (λ i. tt) h

  -- ---- the other lines

  loses : (past : List Moment) (line serial : ℕ) (w : WorldState) (b : Bool) → Are P past w → Are P past (cond b (lost serial w) (refused line no_packet w))
  loses past line serial w true h = note_carried P law past w (notes.Lost serial) (λ i. refl) (λ i. tt) h
  loses past line serial w false h = note_carried P law past w (notes.Refused line no_packet) (λ i. refl) (λ i. tt) h

  keys : (past : List Moment) (line unit : ℕ) (key : List ℕ) (w : WorldState) (b : Bool) → Are P past w → Are P past (cond b (with_note (notes.Key unit) (with_target (with_key unit key w.target) w)) (refused line no_unit w))
  keys past line unit key w true h = note_carried P law past w (notes.Key unit) (λ i. refl) (λ i. tt) h
  keys past line unit key w false h = note_carried P law past w (notes.Refused line no_unit) (λ i. refl) (λ i. tt) h

  injects : (past : List Moment) (line from : ℕ) (bytes : List ℕ) (w : WorldState) (to : Option ℕ) → (from == 0) ≡ false → NoneActs (history w past) → Are P past w → Are P past (injected to line from bytes w)
  unfolding posted
  injects past line from bytes w None z n h = note_carried P law past w (notes.Refused line no_node) (λ i. refl) (λ i. tt) h
  injects past line from bytes w (Some to) z n h = λ i b.
      let serial = w.store.last + 1 in
      law.sent serial (topology_at w.generations from).generation from to bytes (said (notes.Injected serial) ∷ history w past) i (initiator_at w i) (n i, λ e. absurd (let no : true ≡ false = sym (ap (λ n. n == 0) e) ∙ z in cc))
      (law.apart (notes.Injected serial) (history w past) i (initiator_at w i) refl tt (h i b))

  -- ---- every line

  line_keeps : {past : List Moment} {lines : ℕ} (line : ℕ) (event : Event) (told : List (Option Told)) (s : Scene) → lines + 1 < 2 ^ 32 → IsLine event (length s.world.initiators) → AreTold told → MayHappen event told s → Sound past lines s.world → Are Q past s.world → Are P past s.world → Are P (asked line event ∷ history s.world past) (happens line event told s).world
  unfolding happens MayHappen reset_line lose_line inject_line keyed
  line_keeps line (events.Begin initiators ready) told s few q t m sound known h = absurd q
  line_keeps line (events.Act i action) told s few q t m sound known h = acts_line line i s.world q.0 few sound known h action (q.2, q.3)
  line_keeps {past} line (events.Reset physical) told s few q t m sound known h =
      let w = s.world in
      let v = record (without_notes w) { generations = reset_step physical w.generations } in
      note_carried P law (asked line (events.Reset physical) ∷ history w past) v (notes.Reset v.generations.latest.generation) (λ i. refl) (λ i. tt) (opened past line (events.Reset physical) w h)
  line_keeps {past} line (events.See node) told s few q t m sound known h =
      let event = events.See node in
      let o = opens line event s.world refl sound in
      line_sees P law (asked line event ∷ history s.world past) node (without_notes s.world) (λ i. tt) (opened past line event s.world h)
      (λ i e. let l : node ≤ length s.world.initiators = q in omega arith)
      (λ i e. may_see (without_notes s.world) o.stands i (let l : node ≤ length s.world.initiators = q in omega arith))
  line_keeps {past} {lines} line (events.Deliver serial) told s few q t m sound known h =
      let event = events.Deliver serial in
      let o = opens line event s.world refl sound in
      one_heard (history s.world past) lines line event (λ i. tt) serial false (is_in_flight serial (begun s).world) told (begun s) m
      (λ sent f found. arriving (begun s).world o.stands o.nodes serial false (ap (λ p. (terms p).repeats) o.stands.is.past_is) (λ e. f) sent found)
      (opened past line event s.world h)
  line_keeps {past} {lines} line (events.Repeat serial) told s few q t m sound known h =
      let event = events.Repeat serial in
      let o = opens line event s.world refl sound in
      one_heard (history s.world past) lines line event (λ i. tt) serial true (may_repeat serial (begun s).world) told (begun s) m
      (λ sent f found. arriving (begun s).world o.stands o.nodes serial true (ap (λ p. (terms p).repeats) o.stands.is.past_is) (λ e. untrue (sym e)) sent found)
      (opened past line event s.world h)
  line_keeps {past} line (events.Lose serial) told s few q t m sound known h =
      let event = events.Lose serial in
      loses (asked line event ∷ history s.world past) line serial (without_notes s.world) (is_in_flight serial (without_notes s.world)) (opened past line event s.world h)
  line_keeps {past} line (events.Timeout serial) told s few q t m sound known h =
      let event = events.Timeout serial in
      let o = opens line event s.world refl sound in
      line_expires P law (asked line event ∷ history s.world past) line serial (without_notes s.world)
      (λ request found. lapsing (without_notes s.world) o.stands o.nodes serial request found) (λ i. tt) (opened past line event s.world h)
  line_keeps {past} {lines} line (events.Step count) told s few q t m sound known h =
      let event = events.Step count in
      (all_told (history s.world past) lines line event (λ i. tt) told t (begun s) m.may (record { sound = opens line event s.world refl sound; all = opened past line event s.world h }) refl).all
  line_keeps {past} {lines} line events.Settle told s few q t m sound known h =
      let all = all_told (history s.world past) lines line events.Settle (λ i. tt) told t (begun s) m.may (record { sound = opens line events.Settle s.world refl sound; all = opened past line events.Settle s.world h }) refl in
      let w = (after_all told (begun s)).world in
      ends (asked line events.Settle ∷ history s.world past) w (is_settled w) all.all
  line_keeps {past} line events.Tick told s few q t m sound known h =
      ticks P law (asked line events.Tick ∷ history s.world past) (without_notes s.world) (λ i. tt) (opened past line events.Tick s.world h)
  line_keeps {past} line (events.Inject initiator bytes) told s few q t m sound known h =
      let event = events.Inject initiator bytes in
      injects (asked line event ∷ history s.world past) line (initiator + 1) bytes (without_notes s.world) (injected_to (initiator + 1) bytes (without_notes s.world)) (let z : (initiator + 1 == 0) ≡ false = grind (arith, nat_tests) in z) (λ i. tt) (opened past line event s.world h)
  line_keeps {past} line (events.Key unit key) told s few q t m sound known h =
      let event = events.Key unit key in
      keys (asked line event ∷ history s.world past) line unit key (without_notes s.world) (nat_lt unit (length s.world.target.units)) (opened past line event s.world h)

  -- ---- a run

  module _ (line : ℕ) (run : Run) (known : Knows Q line run) (first : (i : ℕ) → i < run.initiators → P (moments_behind line run []) i (new_state i run.ready)) where
    first_are : AreAt P (moments_behind line run []) (beginning run).world
    unfolding new_world
    first_are i b =
        let there : i < run.initiators = subst (λ n. i < n) (initiators_size run.initiators run.ready) b in
        subst (P (moments_behind line run []) i) (sym (states_at run.initiators i run.ready (new_state 0 false) there)) (first i there)

    are_after : (entries : List Entry) → run.initiators ≤ 4 → length entries + 2 < 2 ^ 32 → AreEntries (beginning run) entries → AreLines run entries → AreAt P (moments_behind line run entries) (after (beginning run) entries).world
    are_after [] few short all fit = first_are
    are_after (e ∷ before) few short all fit =
        let b = sound_after fitting_law own_fitting_law line run before few (omega arith) all.1 fit.1 in
        let s = after (beginning run) before in
        let so_far : Are P b.past s.world = subst (λ ms. AreAt P ms s.world) (sym b.is) (are_after before few (omega arith) all.1 fit.1) in
        let before_it : Are Q b.past s.world = subst (λ ms. AreAt Q ms s.world) (sym b.is) (known before few (omega arith) all.1 fit.1) in
        let now = (happens e.line e.event e.told s).world in
        subst (λ ms. AreAt P ms now)
        (ap (λ ns. map said ns ++ asked e.line e.event ∷ (map said s.world.fresh ++ b.past)) (sym all.0.notes_are)
        ∙ ap (λ ms. map said e.notes ++ asked e.line e.event ∷ ms) b.is)
        (line_keeps e.line e.event e.told s (omega arith) fit.0 (happened_fits e.event e.told s all.0.may) all.0.may b.sound before_it so_far)

    pub sent_of_runs : IsRun run → (i : ℕ) → i < run.initiators → P (moments_behind line run run.entries) i (initiator_at (after (beginning run) run.entries).world i)
    sent_of_runs r i b = are_after run.entries r.few r.short r.entries r.lines i (subst (λ n. i < n) (sym (count_after run run.entries)) b)

    -- ---- between two deliveries of a line

    between_by : IsRun run → (next : ℕ) (event : Event) → is_reset event ≡ false → ((i : ℕ) → IsNoAct i (Some event)) → ((ms : List Moment) → (terms (asked next event ∷ ms)).repeats ≡ false) → (told : List (Option Told)) → MayAll told (begun (after (beginning run) run.entries)) → (i : ℕ) → i < run.initiators → (let w = (after_all told (begun (after (beginning run) run.entries))).world in P (map said w.fresh ++ asked next event ∷ moments_behind line run run.entries) i (initiator_at w i))
    between_by r next event e n repeats told m i b =
        let before = sound_after fitting_law own_fitting_law line run run.entries r.few r.short r.entries r.lines in
        let s = after (beginning run) run.entries in
        let so_far : Are P before.past s.world = subst (λ ms. AreAt P ms s.world) (sym before.is) (are_after run.entries r.few r.short r.entries r.lines) in
        let all = all_told (history s.world before.past) (length run.entries) next event n told (are_told told s m) (begun s) m
        (record { sound = opens next event s.world e before.sound; all = opened before.past next event s.world so_far }) (repeats (history s.world before.past)) in
        let w = (after_all told (begun s)).world in
        subst (λ ms. P (map said w.fresh ++ asked next event ∷ ms) i (initiator_at w i)) before.is
        (all.all i (subst (λ k. i < k) (sym (count_between told s ∙ count_after run run.entries)) b))

    -- and how the world stands there
    between_stands : IsRun run → (next : ℕ) (event : Event) → is_reset event ≡ false → ((i : ℕ) → IsNoAct i (Some event)) → ((ms : List Moment) → (terms (asked next event ∷ ms)).repeats ≡ false) → (told : List (Option Told)) → MayAll told (begun (after (beginning run) run.entries)) → StandsBetween line run next event (after_all told (begun (after (beginning run) run.entries))).world
    between_stands r next event e n repeats told m =
        let before = sound_after fitting_law own_fitting_law line run run.entries r.few r.short r.entries r.lines in
        let s = after (beginning run) run.entries in
        let so_far : Are P before.past s.world = subst (λ ms. AreAt P ms s.world) (sym before.is) (are_after run.entries r.few r.short r.entries r.lines) in
        let all = all_told (history s.world before.past) (length run.entries) next event n told (are_told told s m) (begun s) m
        (record { sound = opens next event s.world e before.sound; all = opened before.past next event s.world so_far }) (repeats (history s.world before.past)) in
        let w = (after_all told (begun s)).world in
        record {
          past = asked next event ∷ history s.world before.past;
          lines = length run.entries;
          sound = all.sound;
          is = ap (λ ms. map said w.fresh ++ asked next event ∷ ms) before.is;
          size = count_between told s ∙ count_after run run.entries;
        }

    pub sent_stands_between : IsRun run → (next : ℕ) (most : Option ℕ) (told : List (Option Told)) → MayAll told (begun (after (beginning run) run.entries)) → StandsBetween line run next (more_deliveries most) (after_all told (begun (after (beginning run) run.entries))).world
    sent_stands_between r next (Some count) told m = between_stands r next (events.Step count) refl (λ j. tt) (λ ms. refl) told m
    sent_stands_between r next None told m = between_stands r next events.Settle refl (λ j. tt) (λ ms. refl) told m

    pub sent_between_runs : IsRun run → (next : ℕ) (most : Option ℕ) (told : List (Option Told)) → MayAll told (begun (after (beginning run) run.entries)) → (i : ℕ) → i < run.initiators → (let w = (after_all told (begun (after (beginning run) run.entries))).world in P (map said w.fresh ++ asked next (more_deliveries most) ∷ moments_behind line run run.entries) i (initiator_at w i))
    sent_between_runs r next (Some count) told m i b = between_by r next (events.Step count) refl (λ j. tt) (λ ms. refl) told m i b
    sent_between_runs r next None told m i b = between_by r next events.Settle refl (λ j. tt) (λ ms. refl) told m i b

-- where nothing is known of what the target sends
module _ {Q : List Moment → ℕ → InitiatorState → Type 0} (P : List Moment → ℕ → InitiatorState → Type 0) (law : Carries Q P) (line : ℕ) (run : Run) (known : Knows Q line run) (first : (i : ℕ) → i < run.initiators → P (moments_behind line run []) i (new_state i run.ready)) where
  pub of_runs : IsRun run → (i : ℕ) → i < run.initiators → P (moments_behind line run run.entries) i (initiator_at (after (beginning run) run.entries).world i)
  of_runs r i b = sent_of_runs P (by_more law) line run known first r i b

  pub stands_between : IsRun run → (next : ℕ) (most : Option ℕ) (told : List (Option Told)) → MayAll told (begun (after (beginning run) run.entries)) → StandsBetween line run next (more_deliveries most) (after_all told (begun (after (beginning run) run.entries))).world
  stands_between r next most told m = sent_stands_between P (by_more law) line run known first r next most told m

  pub between_runs : IsRun run → (next : ℕ) (most : Option ℕ) (told : List (Option Told)) → MayAll told (begun (after (beginning run) run.entries)) → (i : ℕ) → i < run.initiators → (let w = (after_all told (begun (after (beginning run) run.entries))).world in P (map said w.fresh ++ asked next (more_deliveries most) ∷ moments_behind line run run.entries) i (initiator_at w i))
  between_runs r next most told m i b = sent_between_runs P (by_more law) line run known first r next most told m i b
