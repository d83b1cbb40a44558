-- In every run each command ran on a unit that a `login` line asked for: it ran at the place of a live login of its initiator, which is on that unit.
use Rattle.sbp_world.proofs.Words.Std.{arith, ◌≡◌, ◌∙◌, inl, inr, ◌⊎◌, refl, sym, ap, subst, ℕ, ◌<◌, Bool, true, false, List, [], ◌∷◌, ◌++◌, map, length, Option, Some, None, same_Some}
use Rattle.sbp_world.proofs.Words.Wire.{Holder, end_note, judged_note, or_nobody, Judged, Event, Note, Moment, asked, said}
use Rattle.sbp_world.proofs.Words.Target.{Login, is_live, Disk, Told, login_at, plain_in}
use Rattle.sbp_world.proofs.Words.World.{AreHeldAt, moments_behind, more_deliveries, MayHappen, happens, ready_logins, is_in_flight, may_repeat, Run, beginning, MayNext, delivered_at, delivered_next, lowest, holder, IsLine, Scene, WorldState, begun, without_notes}
use Rattle.login_table.proofs.Searching.{within}
use Rattle.sbp_journal.specs.declared.cause.Judged.TheVariants as judgements
use Rattle.sbp_journal.specs.declared.event.Event.TheVariants as events
use Rattle.sbp_journal.specs.declared.note.Note.TheVariants as notes
use Rattle.sbp_target.proofs.Histories.Calling.{Good}
use Rattle.sbp_world.proofs.Agents.Management.Still.{hist}
use Rattle.sbp_world.proofs.Agents.UnitsRun.{live_login}
use Rattle.sbp_world.proofs.Agents.UnitsTold.{HasLogin}
use Rattle.sbp_world.specs.Settling.{MayAt}
use Rattle.sbp_world.specs.Lists.LoginUnits.{AreOnUnits, IsRunOnUnit, RunUnitAt, RunUnitsLaw, RunsOnUnits, is_asked_unit}
use Rattle.sbp_world.proofs.Common.{said_split}
use Rattle.sbp_world.proofs.Lists.Beside.{tame_of_before}
use Rattle.sbp_world.proofs.Lists.Clauses.{open_lists_law}
use Rattle.sbp_world.proofs.Lists.Courses.{EveryPlace, Goes, Keeps, at_between, at_lines, by_delivery, by_end, by_line, by_start, more_than_one}
use Rattle.sbp_world.proofs.Lists.ListsProved.{closing}
use Rattle.sbp_world.proofs.Lists.LiveRuns.{goes_size}
use Rattle.sbp_world.proofs.Lists.LiveTurns.{good as good_target}
use Rattle.sbp_world.proofs.Lists.OrbsMade.{more_asked}
use Rattle.sbp_world.proofs.Lists.OwnFifos.{tame_before}
use Rattle.sbp_world.proofs.Lists.RunTells.{served_there}
use Rattle.sbp_world.proofs.Lists.Runless.{AllPlain, Delivers, IsPlain, IsRunBy, IsRunlessBy, NoneRun, OneRan, Plainly, acts, delivery_comes, injects, keys, late, loses, no_run, none_judged, one_comes, one_run, resets, sights, ticks}
use Rattle.sbp_world.proofs.Lists.Turned.{IsOne}
use Rattle.sbp_world.proofs.Lists.UnitLaws.{Facts, facts_everywhere, on_units}

-- ---- a run, by what is known of the place before it
module _ (start : List Disk) (past : List Moment) (s : Scene) (good : Good s.world.target) (held : AreHeldAt start past s.world) (on : AreOnUnits past s.world) (run : Option Told) (serial : ℕ) (ran : Note) (r : IsRunBy s run serial ran) where
  abbrev w : WorldState
  w = s.world

  abbrev login : Login
  login = r.by.login

  there : login_at w.target r.place ≡ Some login
  there = served_there w.target r.place login r.by.served

  small : r.place < 8
  small = let l = within w.target.logins.places r.place login there in let c = good.table.sound.size in omega (arith, l, c)

  live : is_live login ≡ true
  live =
      let has : HasLogin w.target.logins.places r.place = live_login w.target good r.place small (plain_in w.target.units s.media.disks login.unit) run r.by.which _ r.outcome r.by.ran in
      subst (λ (x : Login). is_live x ≡ true) (same_Some has.login login (sym has.is ∙ there)) has.live

  unit_is : (holder w r.place).unit ≡ login.unit
  unit_is = let k = held.held r.place login there in ap (λ (h : Holder). h.unit) (ap or_nobody k.there) ∙ k.unit_is

  abbrev n : ℕ
  n = length w.initiators

  ran_on : (later : List Moment) → (holder w r.place).initiator < n → IsRunOnUnit (later ++ past) n (holder w r.place).initiator (holder w r.place).unit
  ran_on later inside =
      let i = (holder w r.place).initiator in
      record {
        all = λ tame.
            let a = on.all (tame_before later past tame) (omega (arith, inside)) r.place login there in
            record { i = a.i; inside = a.inside; asked = more_asked later past a.i (holder w r.place).unit (subst (λ u. is_asked_unit past a.i u ≡ true) (sym unit_is) a.asked) };
        own = λ tame. more_asked later past i (holder w r.place).unit (subst (λ u. is_asked_unit past i u ≡ true) (sym unit_is) (on.own i inside (tame_of_before later past i tame) r.place login there live refl));
      }

  pub run_on : (later : List Moment) → RunUnitAt n (said ran) (later ++ past)
  run_on later = subst (λ note. RunUnitAt n (said note) (later ++ past)) (sym r.is) (ran_on later)

-- ---- notes of no run
module _ (n : ℕ) where
  abbrev Law : List Moment → Type 0
  Law past = RunsOnUnits n past

  plain_at : (note : Note) → IsPlain note → (past : List Moment) → RunUnitAt n (said note) past
  plain_at (notes.Ran i list number unit cdb bytes check) h past = absurd h
  plain_at note h past = tt

  plain_law : (more : List Note) → AllPlain more → (past : List Moment) → Law past → Law (map said more ++ past)
  plain_law [] h past l = l
  plain_law (note ∷ more) h past l = (plain_at note h.0 (map said more ++ past), plain_law more h.1 past l)

  plainly : (past : List Moment) (old new : List Note) → Plainly old new → Law (map said old ++ past) → Law (map said new ++ past)
  plainly past old new q l = subst (λ ns. Law (map said ns ++ past)) q.is (subst Law (sym (said_split q.more old past)) (plain_law q.more q.plain (map said old ++ past) l))

  judged_at : (serial : ℕ) (judged : Judged) (past : List Moment) → RunUnitAt n (said (judged_note serial judged)) past
  judged_at serial judgements.Got past = tt
  judged_at serial (judgements.Ignored cause) past = tt

  end_at : (done : Bool) (past : List Moment) → RunUnitAt n (said (end_note done)) past
  end_at true past = tt
  end_at false past = tt

  -- a packet is delivered
  delivers : (past : List Moment) (None_ran : ℕ → Judged → Type 0) (Ran : ℕ → Note → Type 0) (old new : List Note) → ((serial : ℕ) (ran : Note) → Ran serial ran → RunUnitAt n (said ran) (said (notes.Got serial) ∷ (map said old ++ past))) → Delivers None_ran Ran old new → Law (map said old ++ past) → Law (map said new ++ past)
  delivers past None_ran Ran old new f (none_judged e) l = subst (λ ns. Law (map said ns ++ past)) (sym e) l
  delivers past None_ran Ran old new f (no_run serial judged none q) l = plainly past (judged_note serial judged ∷ old) new q (judged_at serial judged (map said old ++ past), l)
  delivers past None_ran Ran old new f (one_run serial ran r q) l = plainly past (ran ∷ notes.Got serial ∷ old) new q (f serial ran r, (tt, l))

-- ---- a turn
module _ (start : List Disk) (past : List Moment) (s : Scene) (good : Good s.world.target) (held : AreHeldAt start (hist past s.world) s.world) (on : AreOnUnits (hist past s.world) s.world) where
  abbrev count : ℕ
  count = length s.world.initiators

  abbrev ms : List Moment
  ms = hist past s.world

  abbrev L : List Moment → Type 0
  L now = RunsOnUnits count now

  -- a line
  held_begun : AreHeldAt start ms (begun s).world
  held_begun = record { held = held.held; free = held.free; operation = held.operation; leaves = held.leaves }

  on_begun : AreOnUnits ms (begun s).world
  on_begun = record { all = on.all; own = on.own }

  module _ (line : ℕ) (event : Event) where
    told_by : (packet : ℕ) (again : Bool) (told : List (Option Told)) (serial : ℕ) (ran : Note) → OneRan (begun s) good line packet again told serial ran → RunUnitAt count (said ran) (said (notes.Got serial) ∷ asked line event ∷ ms)
    told_by packet again [] serial ran r = absurd r
    told_by packet again (run ∷ more) serial ran r = run_on start ms (begun s) good held_begun on_begun run serial ran r (said (notes.Got serial) ∷ asked line event ∷ [])

    quiet : (new : List Note) → Plainly [] new → L ms → L (map said new ++ asked line event ∷ ms)
    quiet new q l = plainly count (asked line event ∷ ms) [] new q (tt, l)

    one : (packet : ℕ) (again : Bool) (told : List (Option Told)) (new : List Note) → Plainly [] new ⊎ Delivers (NoneRun (begun s) good line packet again told) (OneRan (begun s) good line packet again told) [] new → L ms → L (map said new ++ asked line event ∷ ms)
    one packet again told new (inl q) l = quiet new q l
    one packet again told new (inr d) l = delivers count (asked line event ∷ ms) (NoneRun (begun s) good line packet again told) (OneRan (begun s) good line packet again told) [] new (told_by packet again told) d (tt, l)

  line_on : (line : ℕ) (event : Event) (told : List (Option Told)) → IsOne event → IsLine event (length s.world.initiators) → MayHappen event told s → L ms → L (hist (asked line event ∷ ms) (happens line event told s).world)
  unfolding happens MayHappen
  line_on line (events.Begin initiators is_ready) told o f m l = absurd f
  line_on line (events.Act i action) told o f m l = quiet line (events.Act i action) _ (acts (without_notes s.world) line i action) l
  line_on line (events.Reset physical) told o f m l = quiet line (events.Reset physical) _ (resets (without_notes s.world) physical) l
  line_on line (events.See node) told o f m l = quiet line (events.See node) _ (sights (without_notes s.world) node) l
  line_on line (events.Deliver serial) told o f m l = one line (events.Deliver serial) serial false told _ (one_comes (begun s) good line serial false (is_in_flight serial (begun s).world) told m) l
  line_on line (events.Repeat serial) told o f m l = one line (events.Repeat serial) serial true told _ (one_comes (begun s) good line serial true (may_repeat serial (begun s).world) told m) l
  line_on line (events.Lose serial) told o f m l = quiet line (events.Lose serial) _ (loses (without_notes s.world) line serial) l
  line_on line (events.Timeout serial) told o f m l = quiet line (events.Timeout serial) _ (late (without_notes s.world) line serial) l
  line_on line (events.Step most) told o f m l = absurd o
  line_on line events.Settle told o f m l = absurd o
  line_on line events.Tick told o f m l = quiet line events.Tick _ (ticks (without_notes s.world)) l
  line_on line (events.Inject i bytes) told o f m l = quiet line (events.Inject i bytes) _ (injects (without_notes s.world) line i bytes) l
  line_on line (events.Key unit key) told o f m l = quiet line (events.Key unit key) _ (keys (without_notes s.world) line unit key) l

  -- a delivery
  lowest_on : (one : Option Told) (o : Option ℕ) → MayAt o one s → L ms → L (hist past (delivered_at o one s).world)
  lowest_on run None m l = absurd m
  lowest_on run (Some serial) m l =
      delivers count past (IsRunlessBy s run) (IsRunBy s run) s.world.fresh (delivered_at (Some serial) run s).world.fresh (λ at ran r. run_on start ms s good held on run at ran r (said (notes.Got at) ∷ [])) (delivery_comes s good serial false run m) l

  next_on : (one : Option Told) → MayNext one s → L ms → L (hist past (delivered_next one s).world)
  unfolding delivered_next MayNext
  next_on run m l = lowest_on run (lowest s.world) m l

goes_on : (start : List Disk) (past : List Moment) (s : Scene) (later : List Moment) (t : Scene) → Goes past s later t → Good s.world.target → AreHeldAt start (hist past s.world) s.world → AreOnUnits (hist past s.world) s.world → RunsOnUnits (length s.world.initiators) (hist past s.world) → RunsOnUnits (length s.world.initiators) (hist later t.world)
goes_on start _ _ _ _ (by_line past s line event told o f m) good held on l = line_on start past s good held on line event told o f m l
goes_on start _ _ _ _ (by_start past s line most) good held on l = (tt, l)
goes_on start _ _ _ _ (by_delivery past s one m none) good held on l = next_on start past s good held on one m l
goes_on start _ _ _ _ (by_end past s done) good held on l = (end_at (length s.world.initiators) done (hist past s.world), l)

-- ---- at each place of every run
abbrev RunsAt : List Moment → WorldState → Type 0
RunsAt past w = RunsOnUnits (length w.initiators) past

all_runs : (units ready : ℕ) → 0 < units → (start : List Disk) → Keeps units ready start (Facts start) RunsAt
all_runs units ready has start past s later t lines more g h h_now q q_now l =
    subst (λ n. RunsOnUnits n (hist later t.world)) (sym (goes_size past s later t g)) (goes_on start past s later t g (good_target units ready has start s.world h) q.held (on_units start (hist past s.world) s.world q) l)

first_runs : (line : ℕ) (run : Run) → RunsAt (moments_behind line run []) (beginning run).world
first_runs line run = (tt, (tt, tt))

runs_everywhere : EveryPlace (λ start past w. RunsAt past w)
runs_everywhere = record {
  after_lines = λ line run r has small size so_far.
      at_lines Facts RunsAt facts_everywhere line run r.few has small size (all_runs run.units (ready_logins run.initiators run.ready) has run.start.disks) (first_runs line run) r so_far;
  between = λ line run r has small size next most told m so_far.
      at_between Facts RunsAt facts_everywhere line run r.few has small size (all_runs run.units (ready_logins run.initiators run.ready) has run.start.disks) (first_runs line run) r next most told m so_far;
}

pub run_units_law : RunUnitsLaw
run_units_law = record {
  after_lines = λ line run r has small size tame. runs_everywhere.after_lines line run r has small size (closing.before open_lists_law line run r has small size tame);
  between = λ line run r has small size next most told m tame. runs_everywhere.between line run r has small size next most told m (closing.between open_lists_law line run r has small size next (more_deliveries most) (more_than_one most) told m tame);
}
