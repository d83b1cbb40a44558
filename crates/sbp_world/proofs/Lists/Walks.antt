-- A statement that each turn of a run keeps holds at every place of the run between two turns, where lists were open as they should be before this place. A turn
-- is a line that delivers one packet at most, the beginning of one that delivers more, a delivery of it, and the end of one that settles.
use Rattle.sbp_world.proofs.Words.Std.{arith, ◌≡◌, ◌∙◌, refl, sym, subst, ℕ, ◌+◌, ◌^◌, ◌<◌, ◌≤◌, Bool, false, List, [], ◌∷◌, ◌++◌, map, length, Option}
use Rattle.sbp_world.proofs.Words.Wire.{end_note, Event, Moment, asked, said}
use Rattle.sbp_world.proofs.Words.Target.{Disk, Told}
use Rattle.sbp_world.proofs.Words.Laws.{injectors}
use Rattle.sbp_world.proofs.Words.World.{history_of, moments_behind, MayHappen, happens, ready_logins, AreEntries, Entry, Run, after, beginning, MayAll, MayNext, after_all, delivered_next, is_settled, settled_from, AreLines, IsLine, Scene, WorldState, begun, DeliversMore, IsRun, more_deliveries, Always, Under, IsCalm, OpenAfter, OpenBefore, OpenBehind, OpenBetween, OpenIn, OpenLists, OpenWhile, machine_at, OpensLaw}
use Rattle.sbp_world.proofs.Agents.Management.Runs.{no_repeats, not_reset}
use Rattle.sbp_world.proofs.Agents.Holders.{seats_after}
use Rattle.sbp_world.proofs.Agents.Management.Lines.{opens}
use Rattle.sbp_world.proofs.Agents.Seats.{Seats}
use Rattle.sbp_world.proofs.Agents.Seating.{opened as seats_opened}
use Rattle.sbp_world.proofs.Agents.Units.{AreThe, units_after}
use Rattle.sbp_world.proofs.Agents.UnitsLines.{Units, all_units, opened as units_opened}
use Rattle.sbp_journal.specs.declared.event.Event.TheVariants as events
use Rattle.sbp_world.proofs.Agents.Management.Holding.{Holding}
use Rattle.sbp_world.proofs.Agents.Management.Still.{hist}
use Rattle.sbp_world.proofs.Hosts.Runs.{count_after, count_between, are_told}
use Rattle.sbp_world.proofs.Lists.Courses.{EveryPlace}
use Rattle.sbp_world.proofs.Lists.Calm.{asked_calm, calm_before}
use Rattle.sbp_world.proofs.Lists.Kept.{Kept}
use Rattle.sbp_world.proofs.Lists.Passes.{ready}
use Rattle.sbp_world.proofs.Lists.OpenProved.{opens_law}
use Rattle.sbp_world.proofs.Lists.Runs.{EarlyAfter, KeptAfter, as_front, at_told, calm_at, calm_back, early_after, facts, facts_at, history_is, holds_at, is_run, kept_told, lists_at, lists_here, next_holds, next_is, next_kept, site, site_at}
use Rattle.sbp_world.proofs.Lists.RunSites.{more_by}
use Rattle.sbp_world.proofs.Lists.Sites.{Site}
use Rattle.sbp_world.proofs.Lists.Turned.{IsOne}
use Rattle.sbp_world.proofs.Lists.Turns.{Ready}
use Rattle.sbp_world.proofs.Lists.JoinLaws.{moments_same}

-- ---- the turns of a run
-- from a scene with a history behind which its line began, to the next one
pub data Turn : List Moment → Scene → List Moment → Scene → Type 0 where
  by_line : (past : List Moment) (s : Scene) (line : ℕ) (event : Event) (told : List (Option Told)) → IsOne event → IsLine event (length s.world.initiators) → MayHappen event told s → Turn past s (asked line event ∷ hist past s.world) (happens line event told s)
  by_start : (past : List Moment) (s : Scene) (line : ℕ) (event : Event) → DeliversMore event → Turn past s (asked line event ∷ hist past s.world) (begun s)
  by_delivery : (past : List Moment) (s : Scene) (one : Option Told) → MayNext one s → Turn past s past (delivered_next one s)
  by_end : (past : List Moment) (s : Scene) (done : Bool) → Turn past s past (settled_from done s)

-- what is known of a place, where lists were open as they should be before it
pub record Reached (wild : ℕ → Bool) (units ready : ℕ) (start : List Disk) (past : List Moment) (lines : ℕ) (w : WorldState) : Type 0 where
  pub holds : Holding units ready start past lines w
  pub site : Site start past w
  pub calm : (i : ℕ) → wild i ≡ false → IsCalm (hist past w) i
  pub kept : Kept wild past (machine_at w) w

-- and where they are so there
pub record Standing (wild : ℕ → Bool) (units ready : ℕ) (start : List Disk) (past : List Moment) (lines : ℕ) (w : WorldState) : Type 0 where
  pub reached : Reached wild units ready start past lines w
  pub lists : (i : ℕ) → wild i ≡ false → OpenLists (hist past w) w
  pub known_all : Ready wild past w

-- A turn, with what is known of the place before and of the one behind.
pub record Step (wild : ℕ → Bool) (units ready : ℕ) (start : List Disk) (Q U : List Moment → WorldState → Type 0) (past : List Moment) (s : Scene) (later : List Moment) (t : Scene) : Type 0 where
  pub turn : Turn past s later t
  pub lines : ℕ
  pub more : ℕ
  pub stands : Standing wild units ready start past lines s.world
  pub reaches : Reached wild units ready start later more t.world
  pub known : Q (hist past s.world) s.world
  pub known_then : Q (hist later t.world) t.world
  pub so_far : (i : ℕ) → wild i ≡ false → U (hist past s.world) s.world
  pub so_far_then : (i : ℕ) → wild i ≡ false → U (hist later t.world) t.world
  pub count : length t.world.initiators ≡ length s.world.initiators
  pub units_are : Units start past s.world s.media.disks

-- each turn keeps a statement
abbrev pub Walks : (ℕ → Bool) → (units ready : ℕ) → List Disk → (Q U P : List Moment → WorldState → Type 0) → Type 0
Walks wild units ready start Q U P = (past : List Moment) (s : Scene) (later : List Moment) (t : Scene) → Step wild units ready start Q U past s later t → P (hist past s.world) s.world → P (hist later t.world) t.world

-- ---- over a run
abbrev opened : (wild : ℕ → Bool) → (i : ℕ) → wild i ≡ false → OpensLaw
opened wild i own = opens_law

module _ (wild : ℕ → Bool) (Q : List Moment → WorldState → Type 0) (V : List Disk → List Moment → WorldState → Type 0) (P : List Moment → WorldState → Type 0) (always : Always Q) (under : EveryPlace V) (line : ℕ) (run : Run) (few : run.initiators ≤ 4) (has : 0 < run.units) (small : run.units ≤ 4) (size : length run.start.disks ≡ run.units) (walks : Walks wild run.units (ready_logins run.initiators run.ready) run.start.disks Q (V run.start.disks) P) (first : P (moments_behind line run []) (beginning run).world) where
  abbrev U : List Moment → WorldState → Type 0
  U = V run.start.disks

  abbrev logins : ℕ
  logins = ready_logins run.initiators run.ready

  abbrev Given : Type 0 → Type 0
  Given known = (i : ℕ) → wild i ≡ false → known

  abbrev AllCalm : List Moment → Type 0
  AllCalm ms = (i : ℕ) → wild i ≡ false → IsCalm ms i

  -- behind some of its lines
  module _ (entries : List Entry) (short : length entries + 2 < 2 ^ 32) (all : AreEntries (beginning run) entries) (fit : AreLines run entries) where
    abbrev here : Scene
    here = after (beginning run) entries

    reached_here : (b : KeptAfter wild (opened wild) line run few has small size entries here.world) → AllCalm (moments_behind line run entries) → Reached wild run.units logins run.start.disks b.past (length entries) here.world
    reached_here b calm = record {
      holds = b.holds;
      site = site wild (opened wild) line run few has small size entries short all fit b.past (length entries) b.holds b.is;
      calm = λ i own. subst (λ ms. IsCalm ms i) (sym b.is) (calm i own);
      kept = b.kept;
    }

    known_here : (b : KeptAfter wild (opened wild) line run few has small size entries here.world) → Q (hist b.past here.world) here.world
    known_here b =
        subst (λ ms. Q ms here.world) (history_is wild (opened wild) line run few has small size entries short all fit b.past (length entries) b.holds b.is)
        (always.after_lines line (record run { entries = entries }) (is_run wild (opened wild) line run few has small size entries short all fit) has small size)

    so_far_here : Given (OpenBefore line run entries) → (b : KeptAfter wild (opened wild) line run few has small size entries here.world) → (i : ℕ) → wild i ≡ false → U (hist b.past here.world) here.world
    so_far_here lists b i own =
        subst (λ ms. U ms here.world) (history_is wild (opened wild) line run few has small size entries short all fit b.past (length entries) b.holds b.is)
        (under.after_lines line (record run { entries = entries }) (is_run wild (opened wild) line run few has small size entries short all fit) has small size (as_front line run entries entries (lists i own)))

    module _ (lists : Given (OpenBefore line run entries)) (x : EarlyAfter wild (opened wild) line run few has small size entries here.world) (ends : Given (OpenAfter line run entries)) (calm : AllCalm (moments_behind line run entries)) where
      abbrev b : KeptAfter wild (opened wild) line run few has small size entries here.world
      b = x.so_far

      open_here : (i : ℕ) → wild i ≡ false → OpenLists (hist b.past here.world) here.world
      open_here = lists_here wild (opened wild) line run few has small size entries short all fit b.past (length entries) b.holds b.is ends

      past_calm : AllCalm (hist b.past here.world)
      past_calm i own = subst (λ ms. IsCalm ms i) (sym b.is) (calm i own)

      standing_here : Standing wild run.units logins run.start.disks b.past (length entries) here.world
      standing_here = record {
        reached = reached_here b calm;
        lists = open_here;
        known_all = ready wild b.past here.world (facts wild (opened wild) line run few has small size entries short all fit b.past (length entries) b.holds b.is lists open_here past_calm x.early) b.kept;
      }

      -- the units are those of the target by the history
      seats_here : Seats here.world
      seats_here = seats_after line run entries few has small size short all fit

      units_here : Units run.start.disks b.past here.world here.media.disks
      units_here = subst (λ ms. AreThe run.start.disks ms here.world here.media.disks) (sym b.is) (units_after line run entries few has small size short all fit)

      -- between deliveries of a line that follows
      module _ (next : ℕ) (event : Event) (d : DeliversMore event) where
        abbrev now : List Moment
        now = asked next event ∷ hist b.past here.world

        abbrev at : List (Option Told) → WorldState
        at told = (after_all told (begun here)).world

        abbrev Before : List (Option Told) → Type 0
        Before told = Given (OpenWhile (asked next event ∷ moments_behind line run entries) told (begun here))

        units_there : (told : List (Option Told)) → MayAll told (begun here) → Units run.start.disks now (at told) (after_all told (begun here)).media.disks
        units_there told m =
            all_units run.units logins has run.start.disks told (are_told told here m) (begun here) (opens run.units logins has run.start.disks next event here.world (not_reset event d) b.holds) (seats_opened run.units logins has run.start.disks here.world seats_here)
            (units_opened run.units logins has run.start.disks b.past next event here.world here.media.disks units_here) (no_repeats event (hist b.past here.world) next d)

        reached_at : (told : List (Option Told)) → MayAll told (begun here) → Before told → AllCalm (hist now (at told)) → Reached wild run.units logins run.start.disks now (length entries + 1) (at told)
        reached_at told m before c = record {
          holds = holds_at wild (opened wild) line run few has small size entries short all fit b.past (length entries) b.holds b.is next event d told m;
          site = site_at wild (opened wild) line run few has small size entries short all fit b.past (length entries) b.holds b.is next event d told m;
          calm = c;
          kept = (kept_told wild (opened wild) line run few has small size entries short all fit b.past (length entries) b.holds b.is next event d lists open_here past_calm b.kept x.early told m before c).kept_there;
        }

        open_at : (told : List (Option Told)) → Given (OpenBehind (asked next event ∷ moments_behind line run entries) told (begun here)) → (i : ℕ) → wild i ≡ false → OpenLists (hist now (at told)) (at told)
        open_at = lists_at wild (opened wild) line run few has small size entries short all fit b.past (length entries) b.holds b.is next event d

        standing_at : (told : List (Option Told)) → MayAll told (begun here) → Before told → Given (OpenBehind (asked next event ∷ moments_behind line run entries) told (begun here)) → AllCalm (hist now (at told)) → Standing wild run.units logins run.start.disks now (length entries + 1) (at told)
        standing_at told m before behind c =
            let k = at_told wild (opened wild) line run few has small size entries short all fit b.past (length entries) b.holds b.is next event d lists open_here past_calm b.kept x.early told m before (open_at told behind) c in
            record {
              reached = reached_at told m before c;
              lists = open_at told behind;
              known_all =
                  ready wild now (at told)
                  (facts_at wild (opened wild) line run few has small size entries short all fit b.past (length entries) b.holds b.is next event d lists open_here told m before (open_at told behind) c k.early_there)
                  k.kept_at.kept_there;
            }

        known_at : (told : List (Option Told)) → MayAll told (begun here) → Q (hist now (at told)) (at told)
        known_at told m =
            more_by (λ e. Q (map said (at told).fresh ++ asked next e ∷ hist b.past here.world) (at told))
            (λ o. subst (λ ms. Q (map said (at told).fresh ++ asked next (more_deliveries o) ∷ ms) (at told)) (history_is wild (opened wild) line run few has small size entries short all fit b.past (length entries) b.holds b.is)
            (always.between line (record run { entries = entries }) (is_run wild (opened wild) line run few has small size entries short all fit) has small size next o told m)) event d

        so_far_at : (told : List (Option Told)) → MayAll told (begun here) → Before told → (i : ℕ) → wild i ≡ false → U (hist now (at told)) (at told)
        so_far_at told m before i own =
            more_by (λ e. OpenWhile (asked next e ∷ moments_behind line run entries) told (begun here) → U (map said (at told).fresh ++ asked next e ∷ hist b.past here.world) (at told))
            (λ o so_far.
            let same = sym (moments_same line run entries entries) in
            subst (λ ms. U (map said (at told).fresh ++ asked next (more_deliveries o) ∷ ms) (at told)) (history_is wild (opened wild) line run few has small size entries short all fit b.past (length entries) b.holds b.is)
            (under.between line (record run { entries = entries }) (is_run wild (opened wild) line run few has small size entries short all fit) has small size next o told m (record {
              before = as_front line run entries entries (lists i own);
              begins = subst (λ ms. OpenLists ms here.world) same (ends i own);
              goes = subst (λ ms. OpenWhile (asked next (more_deliveries o) ∷ ms) told (begun here)) same so_far;
            })))
            event d (before i own)

        pub walk_at : (told : List (Option Told)) → MayAll told (begun here) → Before told → AllCalm (hist now (at told)) → P (hist b.past here.world) here.world → P (hist now (at told)) (at told)
        walk_at [] m before c p =
            walks b.past here now (begun here) (record {
              turn = by_start b.past here next event d;
              lines = length entries;
              more = length entries + 1;
              stands = standing_here;
              reaches = reached_at [] m before c;
              known = known_here b;
              known_then = known_at [] m;
              so_far = so_far_here lists b;
              so_far_then = so_far_at [] m before;
              count = refl;
              units_are = units_here;
            }) p
        walk_at (one ∷ told) m before c p =
            let e = calm_at wild (opened wild) line run few has small size entries short all fit b.past (length entries) b.holds b.is next event d one told c in
            let rest : Before told = λ i own. (before i own).1 in
            walks now (after_all told (begun here)) now (after_all (one ∷ told) (begun here)) (record {
              turn = by_delivery now (after_all told (begun here)) one m.0;
              lines = length entries + 1;
              more = length entries + 1;
              stands = standing_at told m.1 rest (λ i own. (before i own).0) e;
              reaches = reached_at (one ∷ told) m before c;
              known = known_at told m.1;
              known_then = known_at (one ∷ told) m;
              so_far = so_far_at told m.1 rest;
              so_far_then = so_far_at (one ∷ told) m before;
              count = count_between (one ∷ told) here ∙ sym (count_between told here);
              units_are = units_there told m.1;
            }) (walk_at told m.1 rest e p)

      -- a line that follows
      module _ (more : ℕ) where
        abbrev Goes : ℕ → Event → List (Option Told) → Type 0
        Goes next event told =
            IsLine event (length here.world.initiators) → MayHappen event told here → Given (OpenIn event (asked next event ∷ moments_behind line run entries) told (begun here)) → Reached wild run.units logins run.start.disks (asked next event ∷ hist b.past here.world) more (happens next event told here).world → Q (hist (asked next event ∷ hist b.past here.world) (happens next event told here).world) (happens next event told here).world → ((i : ℕ) → wild i ≡ false → U (hist (asked next event ∷ hist b.past here.world) (happens next event told here).world) (happens next event told here).world) → length (happens next event told here).world.initiators ≡ length here.world.initiators → P (hist b.past here.world) here.world → P (hist (asked next event ∷ hist b.past here.world) (happens next event told here).world) (happens next event told here).world

        one_line : (next : ℕ) (event : Event) (told : List (Option Told)) → IsOne event → Goes next event told
        one_line next event told o q m before r k u count p =
            walks b.past here (asked next event ∷ hist b.past here.world) (happens next event told here) (record {
              turn = by_line b.past here next event told o q m;
              lines = length entries;
              more = more;
              stands = standing_here;
              reaches = r;
              known = known_here b;
              known_then = k;
              so_far = so_far_here lists b;
              so_far_then = u;
              count = count;
              units_are = units_here;
            }) p

        walk_line : (next : ℕ) (event : Event) (told : List (Option Told)) → Goes next event told
        unfolding happens MayHappen
        walk_line next (events.Step count) told q m before r k u same p = walk_at next (events.Step count) tt told m.may before r.calm p
        walk_line next events.Settle told q m before r k u same p =
            let now : List Moment = asked next events.Settle ∷ hist b.past here.world in
            let t = after_all told (begun here) in
            let rest : Given (OpenWhile (asked next events.Settle ∷ moments_behind line run entries) told (begun here)) = λ i own. (before i own).1 in
            let c : AllCalm (hist now t.world) = λ i own. calm_before (said (end_note (is_settled t.world)) ∷ []) (hist now t.world) i (r.calm i own) in
            walks now t now (settled_from (is_settled t.world) t) (record {
              turn = by_end now t (is_settled t.world);
              lines = length entries + 1;
              more = more;
              stands = standing_at next events.Settle tt told m.may rest (λ i own. (before i own).0) c;
              reaches = r;
              known = known_at next events.Settle tt told m.may;
              known_then = k;
              so_far = so_far_at next events.Settle tt told m.may rest;
              so_far_then = u;
              count = refl;
              units_are = units_there next events.Settle tt told m.may;
            }) (walk_at next events.Settle tt told m.may rest c p)
        walk_line next (events.Begin initiators is_ready) told q m before r k u count p = one_line next (events.Begin initiators is_ready) told tt q m before r k u count p
        walk_line next (events.Act initiator action) told q m before r k u count p = one_line next (events.Act initiator action) told tt q m before r k u count p
        walk_line next (events.Reset physical) told q m before r k u count p = one_line next (events.Reset physical) told tt q m before r k u count p
        walk_line next (events.See node) told q m before r k u count p = one_line next (events.See node) told tt q m before r k u count p
        walk_line next (events.Deliver serial) told q m before r k u count p = one_line next (events.Deliver serial) told tt q m before r k u count p
        walk_line next (events.Repeat serial) told q m before r k u count p = one_line next (events.Repeat serial) told tt q m before r k u count p
        walk_line next (events.Lose serial) told q m before r k u count p = one_line next (events.Lose serial) told tt q m before r k u count p
        walk_line next (events.Timeout serial) told q m before r k u count p = one_line next (events.Timeout serial) told tt q m before r k u count p
        walk_line next events.Tick told q m before r k u count p = one_line next events.Tick told tt q m before r k u count p
        walk_line next (events.Inject initiator bytes) told q m before r k u count p = one_line next (events.Inject initiator bytes) told tt q m before r k u count p
        walk_line next (events.Key unit key) told q m before r k u count p = one_line next (events.Key unit key) told tt q m before r k u count p

  pub walk_after : (entries : List Entry) → length entries + 2 < 2 ^ 32 → AreEntries (beginning run) entries → AreLines run entries → Given (OpenBefore line run entries) → AllCalm (moments_behind line run entries) → P (moments_behind line run entries) (after (beginning run) entries).world
  walk_after [] short all fit lists calm = first
  walk_after (e ∷ before) short all fit lists calm =
      let s = after (beginning run) before in
      let w = (after (beginning run) (e ∷ before)).world in
      let few_lines : length before + 2 < 2 ^ 32 = omega arith in
      let begins : Given (OpenAfter line run before) = λ i own. (lists i own).0.begins in
      let goes : Given (OpenIn e.event (asked e.line e.event ∷ moments_behind line run before) e.told (begun s)) = λ i own. (lists i own).0.goes in
      let rest : Given (OpenBefore line run before) = λ i own. (lists i own).1 in
      let back : AllCalm (moments_behind line run before) = calm_back wild (opened wild) line run few has small size e before calm in
      let x = early_after wild (opened wild) line run few has small size before few_lines all.1 fit.1 rest begins back in
      let b : KeptAfter wild (opened wild) line run few has small size (e ∷ before) w = record {
        past = asked e.line e.event ∷ hist x.so_far.past s.world;
        holds = next_holds wild (opened wild) line run few has small size e before few_lines short all fit rest x begins goes calm;
        is = next_is wild (opened wild) line run few has small size e before few_lines short all fit rest x begins goes calm;
        kept = next_kept wild (opened wild) line run few has small size e before few_lines short all fit rest x begins goes calm;
      } in
      let there = subst (λ ms. P ms s.world) (sym x.so_far.is) (walk_after before few_lines all.1 fit.1 rest back) in
      subst (λ ms. P ms w) b.is
      (walk_line before few_lines all.1 fit.1 rest x begins back (length (e ∷ before)) e.line e.event e.told fit.0 all.0.may goes (reached_here (e ∷ before) short all fit b calm) (known_here (e ∷ before) short all fit b) (so_far_here (e ∷ before) short all fit lists b) (count_after run (e ∷ before) ∙ sym (count_after run before)) there)

-- ---- so it is of every run, of the initiators that injected no packets
every : {U : List Moment → WorldState → Type 0} → Under U → EveryPlace (λ start. U)
every under = record {
  after_lines = λ line run r has small size so_far. under.after_lines line run r has small size so_far;
  between = λ line run r has small size next most told m so_far. under.between line run r has small size next most told m so_far;
}

-- by what the units' media held at the start
module _ (Q : List Moment → WorldState → Type 0) (V : List Disk → List Moment → WorldState → Type 0) (P : List Disk → (ℕ → Bool) → List Moment → WorldState → Type 0) (always : Always Q) (under : EveryPlace V) (walks : (wild : ℕ → Bool) (units ready : ℕ) → 0 < units → (start : List Disk) → Walks wild units ready start Q (V start) (P start wild)) (first : (wild : ℕ → Bool) (line : ℕ) (run : Run) → P run.start.disks wild (moments_behind line run []) (beginning run).world) (line : ℕ) (run : Run) (r : IsRun run) (has : 0 < run.units) (small : run.units ≤ 4) (size : length run.start.disks ≡ run.units) where
  abbrev last : Scene
  last = after (beginning run) run.entries

  abbrev own_walks : (wild : ℕ → Bool) → Walks wild run.units (ready_logins run.initiators run.ready) run.start.disks Q (V run.start.disks) (P run.start.disks wild)
  own_walks wild = walks wild run.units (ready_logins run.initiators run.ready) has run.start.disks

  lines_walked : (wild : ℕ → Bool) → OpenBefore line run run.entries → ((i : ℕ) → wild i ≡ false → IsCalm (history_of line run) i) → P run.start.disks wild (history_of line run) last.world
  lines_walked wild so_far calm = walk_after wild Q V (P run.start.disks wild) always under line run r.few has small size (own_walks wild) (first wild line run) run.entries r.short r.entries r.lines (λ i own. so_far) calm

  pub walked_from : OpenBefore line run run.entries → P run.start.disks (injectors (history_of line run)) (history_of line run) last.world
  walked_from so_far = lines_walked (injectors (history_of line run)) so_far (λ i own. own)

  module _ (next : ℕ) (event : Event) (d : DeliversMore event) (told : List (Option Told)) (m : MayAll told (begun last)) (so_far : OpenBetween line run next event told) where
    abbrev end : WorldState
    end = (after_all told (begun last)).world

    abbrev ms : List Moment
    ms = map said end.fresh ++ asked next event ∷ history_of line run

    abbrev wild : ℕ → Bool
    wild = injectors ms

    first_calm : (i : ℕ) → wild i ≡ false → IsCalm (history_of line run) i
    first_calm i own = asked_calm next event (history_of line run) i (calm_before (map said end.fresh) (asked next event ∷ history_of line run) i own)

    x : EarlyAfter wild (opened wild) line run r.few has small size run.entries last.world
    x = early_after wild (opened wild) line run r.few has small size run.entries r.short r.entries r.lines (λ i own. so_far.before) (λ i own. so_far.begins) first_calm

    pub walked_from_between : P run.start.disks wild ms end
    walked_from_between =
        let p = subst (λ h. P run.start.disks wild h last.world) (sym x.so_far.is) (lines_walked wild so_far.before first_calm) in
        subst (λ h. P run.start.disks wild (map said end.fresh ++ asked next event ∷ h) end) x.so_far.is
        (walk_at wild Q V (P run.start.disks wild) always under line run r.few has small size (own_walks wild) (first wild line run) run.entries r.short r.entries r.lines (λ i own. so_far.before) x (λ i own. so_far.begins) first_calm next event d told m (λ i own. so_far.goes)
        (λ i own. subst (λ h. IsCalm (map said end.fresh ++ asked next event ∷ h) i) (sym x.so_far.is) own) p)

module _ (Q U : List Moment → WorldState → Type 0) (P : (ℕ → Bool) → List Moment → WorldState → Type 0) (always : Always Q) (under : Under U) (walks : (wild : ℕ → Bool) (units ready : ℕ) → 0 < units → (start : List Disk) → Walks wild units ready start Q U (P wild)) (first : (wild : ℕ → Bool) (line : ℕ) (run : Run) → P wild (moments_behind line run []) (beginning run).world) (line : ℕ) (run : Run) (r : IsRun run) (has : 0 < run.units) (small : run.units ≤ 4) (size : length run.start.disks ≡ run.units) where
  pub walked_after : OpenBefore line run run.entries → P (injectors (history_of line run)) (history_of line run) (after (beginning run) run.entries).world
  walked_after = walked_from Q (λ start. U) (λ start. P) always (every under) walks first line run r has small size

  pub walked_between : (next : ℕ) (event : Event) (d : DeliversMore event) (told : List (Option Told)) (m : MayAll told (begun (after (beginning run) run.entries))) → OpenBetween line run next event told → (let w = (after_all told (begun (after (beginning run) run.entries))).world in let now = map said w.fresh ++ asked next event ∷ history_of line run in P (injectors now) now w)
  walked_between = walked_from_between Q (λ start. U) (λ start. P) always (every under) walks first line run r has small size
