-- For which list an agent is out of RESET, at each place of a run before which lists were open as they should be.
use Rattle.sbp_world.proofs.Words.Std.{arith, ◌≡◌, ◌∙◌, refl, sym, ap, subst, ℕ, suc, ◌+◌, ◌^◌, ◌<◌, ◌≤◌, false, List, [], ◌∷◌, ◌++◌, map, length, Option, Some, None}
use Rattle.sbp_world.proofs.Words.Wire.{is_reset, end_note, Event, Moment, asked, said}
use Rattle.sbp_world.proofs.Words.Target.{Disk, Told}
use Rattle.sbp_world.proofs.Words.World.{history_of, moments_behind, MayHappen, happens, new_world, ready_logins, AreEntries, Entry, Run, after, beginning, MayAll, after_all, is_settled, AreLines, Scene, WorldState, begun, without_notes, IsRun, more_deliveries, IsCalm, OpenAfter, OpenBefore, OpenBetween, OpenIn, OpenLists, OpenWhile, IsTameOrFew, AreAllOpenFor, AreOpenFor, View, view}
use Rattle.sbp_journal.specs.declared.event.Event.TheVariants as events
use Rattle.sbp_world.proofs.Wire.ToldBytes.{happened_fits}
use Rattle.sbp_world.proofs.Agents.Management.Begins.{first_holds, first_past}
use Rattle.sbp_world.proofs.Agents.Management.Holding.{Holding}
use Rattle.sbp_world.proofs.Agents.Management.Lines.{line_holds, opens}
use Rattle.sbp_world.proofs.Agents.Management.Still.{hist}
use Rattle.sbp_world.proofs.Agents.Holders.{are_held}
use Rattle.sbp_world.proofs.Agents.Seating.{opened as seats_open}
use Rattle.sbp_world.proofs.Agents.Holders as holders
use Rattle.sbp_world.proofs.Hosts.Runs.{count_after, count_between}
use Rattle.sbp_world.proofs.Lists.Calm.{asked_calm}
use Rattle.sbp_world.proofs.Lists.OpenProved.{closed, facts_at as old_facts_at}
use Rattle.sbp_world.proofs.Lists.OpenedPlaces.{IsPlace, Laws, ManagementLaw, place_after, place_between}
use Rattle.sbp_world.proofs.Lists.OpenedRuns.{AllFacts, AllOpen, Behind, Facts, More, all_heard, here_asked, line_open, mine_asked}
use Rattle.sbp_world.proofs.Lists.OpenedGrown.{asked_view}
use Rattle.sbp_world.proofs.Lists.OpenedOthers.{alike_open}
use Rattle.sbp_world.proofs.Lists.OpenedBeside.{beside_line, beside_next}
use Rattle.sbp_world.proofs.Lists.Beside.{tame_or_few_before}
use Rattle.sbp_world.proofs.Lists.OpenedTargets.{Telling}
use Rattle.sbp_world.proofs.Lists.OpenedTurns.{none_open}
use Rattle.sbp_world.proofs.Lists.Runs.{as_front}
use Rattle.sbp_world.proofs.Lists.OpenedWorlds.{alike_up, wired}
use Rattle.sbp_world.proofs.Common.{delivers}
use Rattle.sbp_world.proofs.Lists.JoinLaws.{moments_same, lines_same}

module _ (telling : (units logins : ℕ) (has : 0 < units) (start : List Disk) → Telling units logins has start) (laws : Laws) (management : ManagementLaw) (line : ℕ) (run : Run) (few : run.initiators ≤ 4) (has : 0 < run.units) (small : run.units ≤ 4) (size : length run.start.disks ≡ run.units) where
  abbrev n : ℕ
  n = run.initiators

  abbrev logins : ℕ
  logins = ready_logins run.initiators run.ready

  abbrev start : List Disk
  start = run.start.disks

  abbrev H : List Moment → ℕ → WorldState → Type 0
  H past lines w = Holding run.units logins start past lines w

  abbrev F : List Moment → WorldState → Type 0
  F past w = Facts n run.units logins has start (telling run.units logins has start) past w

  abbrev B : List Moment → WorldState → Type 0
  B past w = Behind n run.units logins has start (telling run.units logins has start) past w

  abbrev O : List Moment → WorldState → Type 0
  O past w = AllOpen n run.units logins has start (telling run.units logins has start) past w

  abbrev front : List Entry → Run
  front entries = record run { entries = entries }

  abbrev moments : List Entry → List Moment
  moments entries = moments_behind line run entries

  -- a place is as the history stands there
  behind_of : (past : List Moment) (w : WorldState) → (lines : ℕ) → H past lines w → IsPlace start n (hist past w) w → B past w
  behind_of past w lines h p = record { behind = p.behind; tells = λ i b c. (p.minded i b c).tells; held = record { lines = lines; holds = h }; opened = p.opened }

  -- ---- a run of some of its lines
  module _ (entries : List Entry) (short : length entries + 2 < 2 ^ 32) (every : AreEntries (beginning run) entries) (fit : AreLines run entries) (so_far : OpenBefore line run entries) (beside : IsTameOrFew (moments entries)) where
    abbrev here : Scene
    here = after (beginning run) entries

    is_run : IsRun (front entries)
    is_run = record { few = few; short = short; entries = every; lines = lines_same run entries entries fit }

    behind_is : history_of line (front entries) ≡ moments entries
    behind_is = moments_same line run entries entries

    pub place_at : IsPlace start n (moments entries) here.world
    place_at = subst (λ ms. IsPlace start n ms here.world) behind_is (place_after laws management line (front entries) is_run has small size (as_front line run entries entries so_far) (subst IsTameOrFew (sym behind_is) beside))

    module _ (past : List Moment) (lines : ℕ) (h : H past lines here.world) (is : hist past here.world ≡ moments entries) where
      pub place_here : IsPlace start n (hist past here.world) here.world
      place_here = subst (λ ms. IsPlace start n ms here.world) (sym is) place_at

      -- as a line begins
      pub first_facts : (next : ℕ) (event : Event) → is_reset event ≡ false → F (asked next event ∷ hist past here.world) (without_notes here.world)
      first_facts next event e =
          let b = opens run.units logins has start next event here.world e h in
          record {
            lines = lines + 1;
            holds = b;
            held = are_held run.units logins has start (without_notes here.world) b (seats_open run.units logins has start here.world (holders.seats_after line run entries few has small size short every fit));
            here = λ i c calm. here_asked next event (hist past here.world) here.world i (place_here.here i c (asked_calm next event (hist past here.world) i calm));
            mine = λ i c calm. mine_asked next event (hist past here.world) here.world i (place_here.minded i c (asked_calm next event (hist past here.world) i calm)).mine;
          }

      -- between deliveries of a line that follows
      module _ (next : ℕ) (most : Option ℕ) (begins : OpenAfter line run entries) where
        abbrev event : Event
        event = more_deliveries most

        abbrev now : List Moment
        now = asked next event ∷ hist past here.world

        abbrev at : List (Option Told) → WorldState
        at told = (after_all told (begun here)).world

        -- and lists were so behind each one
        abbrev Before : List (Option Told) → Type 0
        Before told = OpenWhile (asked next event ∷ moments entries) told (begun here)

        -- nor did an initiator inject packets, or few logins were given
        abbrev Beside : List (Option Told) → Type 0
        Beside told = IsTameOrFew (map said (at told).fresh ++ asked next event ∷ moments entries)

        were : (told : List (Option Told)) → Before told → OpenBetween line (front entries) next event told
        were told goes =
            let same = sym behind_is in
            record {
              before = as_front line run entries entries so_far;
              begins = subst (λ ms. OpenLists ms here.world) same begins;
              goes = subst (λ ms. OpenWhile (asked next event ∷ ms) told (begun here)) same goes;
            }

        pub place_told : (told : List (Option Told)) → MayAll told (begun here) → Before told → Beside told → IsPlace start n (hist now (at told)) (at told)
        place_told told m goes beside_told =
            subst (λ ms. IsPlace start n (map said (at told).fresh ++ asked next event ∷ ms) (at told)) (behind_is ∙ sym is)
            (place_between laws management line (front entries) is_run has small size next most told m (were told goes) (subst (λ ms. IsTameOrFew (map said (at told).fresh ++ asked next event ∷ ms)) (sym behind_is) beside_told))

        pub facts_at : (told : List (Option Told)) → MayAll told (begun here) → Before told → Beside told → F now (at told)
        facts_at told m goes beside_told =
            let f = old_facts_at line run few has small size entries short every fit past lines h is next event (delivers most) told m in
            record { lines = f.lines; holds = f.holds; held = f.held; here = (place_told told m goes beside_told).here; mine = λ i b c. ((place_told told m goes beside_told).minded i b c).mine }

        behind_at : (told : List (Option Told)) → MayAll told (begun here) → Before told → Beside told → B now (at told)
        behind_at told m goes beside_told =
            let f = old_facts_at line run few has small size entries short every fit past lines h is next event (delivers most) told m in
            behind_of now (at told) f.lines f.holds (place_told told m goes beside_told)

        pub all_facts : (told : List (Option Told)) → MayAll told (begun here) → Before told → Beside told → AllFacts n run.units logins has start (telling run.units logins has start) now told (begun here)
        all_facts [] m goes beside_told = tt
        all_facts (one ∷ told) m goes beside_told =
            let first = beside_next (asked next event ∷ moments entries) one (after_all told (begun here)) beside_told in
            (record { facts = facts_at told m.1 goes.1 first; behind = behind_at (one ∷ told) m goes beside_told }, all_facts told m.1 goes.1 first)

      -- what a line that may follow asks for
      more_of : (next : ℕ) (event : Event) (told : List (Option Told)) → MayHappen event told here → OpenAfter line run entries → OpenIn event (asked next event ∷ moments entries) told (begun here) → IsTameOrFew (map said (happens next event told here).world.fresh ++ asked next event ∷ moments entries) → More n run.units logins has start (telling run.units logins has start) event (asked next event ∷ hist past here.world) told (begun here)
      unfolding MayHappen happens
      more_of next (events.Begin initiators is_ready) told m begins goes beside_told = tt
      more_of next (events.Act initiator action) told m begins goes beside_told = tt
      more_of next (events.Reset physical) told m begins goes beside_told = tt
      more_of next (events.See node) told m begins goes beside_told = tt
      more_of next (events.Deliver serial) told m begins goes beside_told = tt
      more_of next (events.Repeat serial) told m begins goes beside_told = tt
      more_of next (events.Lose serial) told m begins goes beside_told = tt
      more_of next (events.Timeout serial) told m begins goes beside_told = tt
      more_of next (events.Step count) told m begins goes beside_told = all_facts next (Some count) begins told m.may goes beside_told
      more_of next events.Settle told m begins goes beside_told =
          let t = after_all told (begun here) in
          all_facts next None begins told m.may goes.1 (tame_or_few_before (said (end_note (is_settled t.world)) ∷ []) (map said t.world.fresh ++ asked next events.Settle ∷ moments entries) beside_told)
      more_of next events.Tick told m begins goes beside_told = tt
      more_of next (events.Inject initiator bytes) told m begins goes beside_told = tt
      more_of next (events.Key unit key) told m begins goes beside_told = tt

  -- as a line begins the agents are the same
  pub begun_open : (next : ℕ) (event : Event) (past : List Moment) (w : WorldState) → O past w → O (asked next event ∷ hist past w) (without_notes w)
  begun_open next event past w o i b calm =
      subst (λ (x : View). AreOpenFor x (without_notes w) i) (sym (asked_view next event (hist past w) i))
      (alike_open (view (hist past w) i) w (without_notes w) i (alike_up w (without_notes w) refl refl i) (o i b (asked_calm next event (hist past w) i calm)))

  -- ---- behind the lines of a run
  pub record After (entries : List Entry) (w : WorldState) : Type 0 where
    pub past : List Moment
    pub holds : H past (length entries) w
    pub is : hist past w ≡ moments entries
    pub opened : O past w

  first_after : After [] (beginning run).world
  unfolding new_world
  first_after = record {
    past = first_past line run.initiators run.ready;
    holds = first_holds run.initiators run.ready run.units line start few small size;
    is = refl;
    opened = λ i b calm. none_open _ (beginning run).world i (λ p c u. closed p c u.up);
  }

  next_after : (e : Entry) (before : List Entry) → length (e ∷ before) + 2 < 2 ^ 32 → AreEntries (beginning run) (e ∷ before) → AreLines run (e ∷ before) → OpenBefore line run (e ∷ before) → IsTameOrFew (moments (e ∷ before)) → After before (after (beginning run) before).world → After (e ∷ before) (happens e.line e.event e.told (after (beginning run) before)).world
  next_after e before long every fit so_far beside b =
      let short : length before + 2 < 2 ^ 32 = omega arith in
      let s = after (beginning run) before in
      let now = asked e.line e.event ∷ hist b.past s.world in
      let first = beside_line e.notes e.line e.event (moments before) beside in
      let is = ap (λ ns. map said ns ++ now) (sym every.0.notes_are) ∙ ap (λ ms. map said e.notes ++ asked e.line e.event ∷ ms) b.is in
      let end = (happens e.line e.event e.told s).world in
      let there = line_holds run.units logins has start e.line e.event e.told s fit.0 (happened_fits e.event e.told s every.0.may) (omega arith) b.holds in
      record {
        past = now;
        holds = subst (λ k. H now k end) (let x : length before + 1 ≡ suc (length before) = omega arith in x) there;
        is = is;
        opened =
            line_open n run.units logins has start (telling run.units logins has start) b.past e.line s (wired s.world b.holds.sound.stands)
            (place_here before short every.1 fit.1 so_far.1 first b.past (length before) b.holds b.is).here b.opened e.event e.told fit.0 every.0.may
            (first_facts before short every.1 fit.1 so_far.1 first b.past (length before) b.holds b.is e.line e.event)
            (more_of before short every.1 fit.1 so_far.1 first b.past (length before) b.holds b.is e.line e.event e.told every.0.may so_far.0.begins so_far.0.goes
            (subst (λ ns. IsTameOrFew (map said ns ++ asked e.line e.event ∷ moments before)) every.0.notes_are beside))
            (behind_of now end (length before + 1) there (subst (λ ms. IsPlace start n ms end) (sym is) (place_at (e ∷ before) long every fit so_far beside)));
      }

  pub opened_after : (entries : List Entry) → length entries + 2 < 2 ^ 32 → AreEntries (beginning run) entries → AreLines run entries → OpenBefore line run entries → IsTameOrFew (moments entries) → After entries (after (beginning run) entries).world
  opened_after [] short every fit so_far beside = first_after
  opened_after (e ∷ before) short every fit so_far beside =
      next_after e before short every fit so_far beside (opened_after before (omega arith) every.1 fit.1 so_far.1 (beside_line e.notes e.line e.event (moments before) beside))

module _ (telling : (units logins : ℕ) (has : 0 < units) (start : List Disk) → Telling units logins has start) (laws : Laws) (management : ManagementLaw) (line : ℕ) (run : Run) (r : IsRun run) (has : 0 < run.units) (small : run.units ≤ 4) (size : length run.start.disks ≡ run.units) where
  abbrev last : Scene
  last = after (beginning run) run.entries

  abbrev known : OpenBefore line run run.entries → IsTameOrFew (history_of line run) → After telling laws management line run r.few has small size run.entries last.world
  known so_far beside = opened_after telling laws management line run r.few has small size run.entries r.short r.entries r.lines so_far beside

  pub open_after : OpenBefore line run run.entries → IsTameOrFew (history_of line run) → AreAllOpenFor (history_of line run) last.world
  open_after so_far beside i b calm =
      let k = known so_far beside in
      subst (λ ms. AreOpenFor (view ms i) last.world i) k.is (k.opened i (subst (λ m. i < m) (count_after run run.entries) b) (subst (λ ms. IsCalm ms i) (sym k.is) calm))

  module _ (next : ℕ) (most : Option ℕ) (told : List (Option Told)) (m : MayAll told (begun last)) (so_far : OpenBetween line run next (more_deliveries most) told) where
    abbrev end : WorldState
    end = (after_all told (begun last)).world

    pub open_between : IsTameOrFew (map said end.fresh ++ asked next (more_deliveries most) ∷ history_of line run) → AreAllOpenFor (map said end.fresh ++ asked next (more_deliveries most) ∷ history_of line run) end
    open_between beside i b calm =
        let first_beside = beside_line end.fresh next (more_deliveries most) (history_of line run) beside in
        let k = known so_far.before first_beside in
        let now = asked next (more_deliveries most) ∷ hist k.past last.world in
        let each = all_facts telling laws management line run r.few has small size run.entries r.short r.entries r.lines so_far.before first_beside k.past (length run.entries) k.holds k.is next most so_far.begins told m so_far.goes beside in
        let first = begun_open telling laws management line run r.few has small size next (more_deliveries most) k.past last.world k.opened in
        let o = all_heard run.initiators run.units (ready_logins run.initiators run.ready) has run.start.disks (telling run.units (ready_logins run.initiators run.ready) has run.start.disks) now told (begun last) each m first in
        let inside : i < run.initiators = subst (λ m. i < m) (count_after run run.entries) (subst (λ m. i < m) (count_between told last) b) in
        subst (λ ms. AreOpenFor (view (map said end.fresh ++ asked next (more_deliveries most) ∷ ms) i) end i) k.is
        (o i inside (subst (λ ms. IsCalm (map said end.fresh ++ asked next (more_deliveries most) ∷ ms) i) (sym k.is) calm))
