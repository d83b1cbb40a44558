-- A statement that each turn of a run keeps holds at every place of the run between two turns, where lists were open as they should be before this place. A turn is
-- a line that delivers one packet at most, the beginning of one that delivers more, a delivery of it, or the end of one that settles.
use Rattle.sbp_world.proofs.Words.Std.{arith, ◌≡◌, ◌∙◌, refl, sym, ap, subst, ℕ, suc, ◌+◌, ◌^◌, ◌<◌, ◌≤◌, Bool, List, [], ◌∷◌, ◌++◌, map, length, Option, Some, None}
use Rattle.sbp_world.proofs.Words.Wire.{Event, Moment, asked, said}
use Rattle.sbp_world.proofs.Words.Target.{Disk, Told}
use Rattle.sbp_world.proofs.Words.Laws.{event_of}
use Rattle.sbp_world.proofs.Words.World.{history_of, moments_behind, MayHappen, happens, new_world, ready_logins, AreEntries, Entry, Run, after, beginning, MayAll, MayNext, after_all, delivered_next, is_settled, settled_from, AreLines, IsLine, Scene, WorldState, begun, DeliversMore, IsRun, more_deliveries, OpenAfter, OpenBefore, OpenBetween, OpenIn, OpenLists, OpenWhile}
use Rattle.sbp_journal.specs.declared.event.Event.TheVariants as events
use Rattle.sbp_world.proofs.Wire.ToldBytes.{happened_fits}
use Rattle.sbp_world.proofs.Agents.Management.Begins.{first_holds, first_past}
use Rattle.sbp_world.proofs.Agents.Management.Holding.{Holding}
use Rattle.sbp_world.proofs.Agents.Management.Lines.{all_heard, line_holds, opens}
use Rattle.sbp_world.proofs.Agents.Management.Runs.{no_repeats, not_reset}
use Rattle.sbp_world.proofs.Agents.Management.Still.{hist}
use Rattle.sbp_world.proofs.Lists.Runs.{as_front}
use Rattle.sbp_world.proofs.Hosts.Carries.{IsNoAct}
use Rattle.sbp_world.proofs.Lists.Turned.{IsOne}
use Rattle.sbp_world.proofs.Lists.JoinLaws.{moments_same, lines_same}
use Rattle.sbp_world.proofs.Hosts.Runs.{are_told}

-- from a scene with a history behind which its line began, to the next one
pub data Goes : List Moment → Scene → List Moment → Scene → Type 0 where
  by_line : (past : List Moment) (s : Scene) (line : ℕ) (event : Event) (told : List (Option Told)) → IsOne event → IsLine event (length s.world.initiators) → MayHappen event told s → Goes past s (asked line event ∷ hist past s.world) (happens line event told s)
  by_start : (past : List Moment) (s : Scene) (line : ℕ) (most : Option ℕ) → Goes past s (asked line (more_deliveries most) ∷ hist past s.world) (begun s)
  by_delivery : (past : List Moment) (s : Scene) (one : Option Told) → MayNext one s → ((i : ℕ) → IsNoAct i (event_of past)) → Goes past s past (delivered_next one s)
  by_end : (past : List Moment) (s : Scene) (done : Bool) → Goes past s past (settled_from done s)

-- what holds at every place of a run before which lists were open as they should be
pub record EveryPlace (Q : List Disk → List Moment → WorldState → Type 0) : Type 0 where
  pub after_lines : (line : ℕ) (run : Run) → IsRun run → 0 < run.units → run.units ≤ 4 → length run.start.disks ≡ run.units → OpenBefore line run run.entries → Q run.start.disks (history_of line run) (after (beginning run) run.entries).world
  pub between : (line : ℕ) (run : Run) → IsRun run → 0 < run.units → run.units ≤ 4 → length run.start.disks ≡ run.units → (next : ℕ) (most : Option ℕ) (told : List (Option Told)) → MayAll told (begun (after (beginning run) run.entries)) → OpenBetween line run next (more_deliveries most) told → (let w = (after_all told (begun (after (beginning run) run.entries))).world in Q run.start.disks (map said w.fresh ++ asked next (more_deliveries most) ∷ history_of line run) w)

-- each turn keeps a statement
abbrev pub Keeps : (units ready : ℕ) → List Disk → (Q P : List Moment → WorldState → Type 0) → Type 0
Keeps units ready start Q P =
    (past : List Moment) (s : Scene) (later : List Moment) (t : Scene) (lines more : ℕ) → Goes past s later t → Holding units ready start past lines s.world → Holding units ready start later more t.world → Q (hist past s.world) s.world → Q (hist later t.world) t.world → P (hist past s.world) s.world → P (hist later t.world) t.world

-- ---- a run with another list of entries

-- in a line that delivers more an initiator acts not
pub more_no_act : (most : Option ℕ) (i : ℕ) → IsNoAct i (Some (more_deliveries most))
more_no_act (Some count) i = tt
more_no_act None i = tt

pub more_than_one : (most : Option ℕ) → DeliversMore (more_deliveries most)
more_than_one (Some count) = tt
more_than_one None = tt

module _ (Q : List Disk → List Moment → WorldState → Type 0) (P : List Moment → WorldState → Type 0) (every_place : EveryPlace Q) (line : ℕ) (run : Run) (few : run.initiators ≤ 4) (has : 0 < run.units) (small : run.units ≤ 4) (size : length run.start.disks ≡ run.units) (keeps : Keeps run.units (ready_logins run.initiators run.ready) run.start.disks (Q run.start.disks) P) (first : P (moments_behind line run []) (beginning run).world) where
  abbrev logins : ℕ
  logins = ready_logins run.initiators run.ready

  abbrev H : List Moment → ℕ → WorldState → Type 0
  H past lines w = Holding run.units logins run.start.disks past lines w

  abbrev front : List Entry → Run
  front entries = record run { entries = entries }

  -- behind some of its lines
  module _ (entries : List Entry) (short : length entries + 2 < 2 ^ 32) (every : AreEntries (beginning run) entries) (fit : AreLines run entries) where
    abbrev here : Scene
    here = after (beginning run) entries

    is_run : IsRun (front entries)
    is_run = record { few = few; short = short; entries = every; lines = lines_same run entries entries fit }

    module _ (past : List Moment) (h : H past (length entries) here.world) (is : hist past here.world ≡ moments_behind line run entries) where
      history_is : history_of line (front entries) ≡ hist past here.world
      history_is = moments_same line run entries entries ∙ sym is

      known : OpenBefore line run entries → Q run.start.disks (hist past here.world) here.world
      known o = subst (λ ms. Q run.start.disks ms here.world) history_is (every_place.after_lines line (front entries) is_run has small size (as_front line run entries entries o))

      module _ (next : ℕ) (most : Option ℕ) where
        abbrev now : List Moment
        now = asked next (more_deliveries most) ∷ hist past here.world

        abbrev at : List (Option Told) → Scene
        at told = after_all told (begun here)

        holds_at : (told : List (Option Told)) → MayAll told (begun here) → H now (length entries + 1) (at told).world
        holds_at told m =
            let d = more_than_one most in
            all_heard run.units logins has run.start.disks told (are_told told here m) (begun here) (opens run.units logins has run.start.disks next (more_deliveries most) here.world (not_reset (more_deliveries most) d) h) (no_repeats (more_deliveries most) (hist past here.world) next d)

        module _ (o : OpenBefore line run entries) (begins : OpenAfter line run entries) where
          -- lists were open as they should be before each of these deliveries
          abbrev While : List (Option Told) → Type 0
          While told = OpenWhile (asked next (more_deliveries most) ∷ moments_behind line run entries) told (begun here)

          as_between : (told : List (Option Told)) → While told → OpenBetween line (front entries) next (more_deliveries most) told
          as_between told goes =
              let same = sym (moments_same line run entries entries) in
              record {
                before = as_front line run entries entries o;
                begins = subst (λ ms. OpenLists ms here.world) same begins;
                goes = subst (λ ms. OpenWhile (asked next (more_deliveries most) ∷ ms) told (begun here)) same goes;
              }

          known_at : (told : List (Option Told)) → MayAll told (begun here) → While told → Q run.start.disks (hist now (at told).world) (at told).world
          known_at told m goes =
              subst (λ ms. Q run.start.disks (map said (at told).world.fresh ++ asked next (more_deliveries most) ∷ ms) (at told).world) history_is (every_place.between line (front entries) is_run has small size next most told m (as_between told goes))

          kept_at : (told : List (Option Told)) → MayAll told (begun here) → While told → P (hist past here.world) here.world → P (hist now (at told).world) (at told).world
          kept_at [] m goes p = keeps past here now (begun here) (length entries) (length entries + 1) (by_start past here next most) h (holds_at [] m) (known o) (known_at [] m goes) p
          kept_at (one ∷ told) m goes p =
              keeps now (at told) now (at (one ∷ told)) (length entries + 1) (length entries + 1) (by_delivery now (at told) one m.0 (more_no_act most)) (holds_at told m.1) (holds_at (one ∷ told) m) (known_at told m.1 goes.1) (known_at (one ∷ told) m goes) (kept_at told m.1 goes.1 p)

  -- ---- behind the lines of a run
  record Behind (entries : List Entry) (w : WorldState) : Type 0 where
    past : List Moment
    holds : H past (length entries) w
    is : hist past w ≡ moments_behind line run entries
    stands : P (hist past w) w

  first_behind : Behind [] (beginning run).world
  unfolding new_world
  first_behind = record {
    past = first_past line run.initiators run.ready;
    holds = first_holds run.initiators run.ready run.units line run.start.disks few small size;
    is = refl;
    stands = first;
  }

  module _ (e : Entry) (before : List Entry) (short : length (e ∷ before) + 2 < 2 ^ 32) (every : AreEntries (beginning run) (e ∷ before)) (fit : AreLines run (e ∷ before)) (so_far : OpenBefore line run (e ∷ before)) (b : Behind before (after (beginning run) before).world) where
    abbrev s : Scene
    s = after (beginning run) before

    abbrev t : Scene
    t = happens e.line e.event e.told s

    abbrev now_past : List Moment
    now_past = asked e.line e.event ∷ hist b.past s.world

    short_before : length before + 2 < 2 ^ 32
    short_before = omega arith

    holds_then : H now_past (suc (length before)) t.world
    holds_then =
        subst (λ n. H now_past n t.world) (let x : length before + 1 ≡ suc (length before) = omega arith in x)
        (line_holds run.units logins has run.start.disks e.line e.event e.told s fit.0 (happened_fits e.event e.told s every.0.may) (omega arith) b.holds)

    is_then : hist now_past t.world ≡ moments_behind line run (e ∷ before)
    is_then = ap (λ ns. map said ns ++ now_past) (sym every.0.notes_are) ∙ ap (λ ms. map said e.notes ++ asked e.line e.event ∷ ms) b.is

    known_then : Q run.start.disks (hist now_past t.world) t.world
    known_then = known (e ∷ before) short every fit now_past holds_then is_then so_far

    abbrev K : Q run.start.disks (hist b.past s.world) s.world
    K = known before short_before every.1 fit.1 b.past b.holds b.is so_far.1

    abbrev Stands : Scene → Type 0
    Stands x = P (hist now_past x.world) x.world

    one_line : IsOne e.event → Stands t
    one_line one = keeps b.past s now_past t (length before) (suc (length before)) (by_line b.past s e.line e.event e.told one fit.0 every.0.may) b.holds holds_then K known_then b.stands

    abbrev InLine : Event → Type 0
    InLine event = OpenIn event (asked e.line event ∷ moments_behind line run before) e.told (begun s)

    goes_in : (event : Event) → e.event ≡ event → InLine event
    goes_in event f = subst InLine f so_far.0.goes

    steps : (most : Option ℕ) → e.event ≡ more_deliveries most → MayAll e.told (begun s) → OpenWhile (asked e.line (more_deliveries most) ∷ moments_behind line run before) e.told (begun s) → P (hist (asked e.line (more_deliveries most) ∷ hist b.past s.world) (after_all e.told (begun s)).world) (after_all e.told (begun s)).world
    steps most f m goes = kept_at before short_before every.1 fit.1 b.past b.holds b.is e.line most so_far.1 so_far.0.begins e.told m goes b.stands

    stands_by : (event : Event) → e.event ≡ event → Stands t
    unfolding happens MayHappen
    stands_by (events.Step count) f =
        let m = subst (λ (x : Event). MayHappen x e.told s) f every.0.may in
        subst (λ (x : Event). P (hist (asked e.line x ∷ hist b.past s.world) (happens e.line x e.told s).world) (happens e.line x e.told s).world) (sym f) (steps (Some count) f m.may (goes_in (events.Step count) f))
    stands_by events.Settle f =
        let m = subst (λ (x : Event). MayHappen x e.told s) f every.0.may in
        let now = asked e.line events.Settle ∷ hist b.past s.world in
        let u = after_all e.told (begun s) in
        let held = holds_at before short_before every.1 fit.1 b.past b.holds b.is e.line None e.told m.may in
        let goes = goes_in events.Settle f in
        let seen = known_at before short_before every.1 fit.1 b.past b.holds b.is e.line None so_far.1 so_far.0.begins e.told m.may goes.1 in
        let held_then = subst (λ (x : Event). H (asked e.line x ∷ hist b.past s.world) (suc (length before)) (happens e.line x e.told s).world) f holds_then in
        let seen_then = subst (λ (x : Event). Q run.start.disks (hist (asked e.line x ∷ hist b.past s.world) (happens e.line x e.told s).world) (happens e.line x e.told s).world) f known_then in
        subst (λ (x : Event). P (hist (asked e.line x ∷ hist b.past s.world) (happens e.line x e.told s).world) (happens e.line x e.told s).world) (sym f)
        (keeps now u now (settled_from (is_settled u.world) u) (length before + 1) (suc (length before)) (by_end now u (is_settled u.world)) held held_then seen seen_then (steps None f m.may goes.1))
    stands_by (events.Begin initiators is_ready) f = absurd (subst (λ (x : Event). IsLine x (length s.world.initiators)) f fit.0)
    stands_by (events.Act j action) f = one_line (subst IsOne (sym f) tt)
    stands_by (events.Reset physical) f = one_line (subst IsOne (sym f) tt)
    stands_by (events.See node) f = one_line (subst IsOne (sym f) tt)
    stands_by (events.Deliver serial) f = one_line (subst IsOne (sym f) tt)
    stands_by (events.Repeat serial) f = one_line (subst IsOne (sym f) tt)
    stands_by (events.Lose serial) f = one_line (subst IsOne (sym f) tt)
    stands_by (events.Timeout serial) f = one_line (subst IsOne (sym f) tt)
    stands_by events.Tick f = one_line (subst IsOne (sym f) tt)
    stands_by (events.Inject j bytes) f = one_line (subst IsOne (sym f) tt)
    stands_by (events.Key unit key) f = one_line (subst IsOne (sym f) tt)

    next_behind : Behind (e ∷ before) t.world
    next_behind = record { past = now_past; holds = holds_then; is = is_then; stands = stands_by e.event refl }

  behind : (entries : List Entry) → length entries + 2 < 2 ^ 32 → AreEntries (beginning run) entries → AreLines run entries → OpenBefore line run entries → Behind entries (after (beginning run) entries).world
  behind [] short every fit so_far = first_behind
  behind (e ∷ before) short every fit so_far =
      let few_lines : length before + 2 < 2 ^ 32 = omega arith in next_behind e before short every fit so_far (behind before few_lines every.1 fit.1 so_far.1)

  -- ---- at every place
  module _ (r : IsRun run) where
    abbrev last : Scene
    last = after (beginning run) run.entries

    pub at_lines : OpenBefore line run run.entries → P (history_of line run) last.world
    at_lines so_far = let b = behind run.entries r.short r.entries r.lines so_far in subst (λ ms. P ms last.world) b.is b.stands

    pub at_between : (next : ℕ) (most : Option ℕ) (told : List (Option Told)) → MayAll told (begun last) → OpenBetween line run next (more_deliveries most) told → (let w = (after_all told (begun last)).world in P (map said w.fresh ++ asked next (more_deliveries most) ∷ history_of line run) w)
    at_between next most told m so_far =
        let b = behind run.entries r.short r.entries r.lines so_far.before in
        let w = (after_all told (begun last)).world in
        subst (λ ms. P (map said w.fresh ++ asked next (more_deliveries most) ∷ ms) w) b.is (kept_at run.entries r.short r.entries r.lines b.past b.holds b.is next most so_far.before so_far.begins told m so_far.goes b.stands)
