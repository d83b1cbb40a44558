-- A walk over runs under a condition that was so before wherever it is so, such as that no initiator injected packets: what is known of a place where it is so, is known of
-- the places before.
use Rattle.sbp_world.proofs.Words.Std.{◌≡◌, sym, subst, ◌<◌, ◌≤◌, ℕ, Bool, List, [], ◌∷◌, ◌++◌, map, length, Option}
use Rattle.sbp_world.proofs.Words.Wire.{Event, Moment, asked, said}
use Rattle.sbp_world.proofs.Words.Target.{Disk, Told}
use Rattle.sbp_world.proofs.Words.Laws.{injectors}
use Rattle.sbp_world.proofs.Words.World.{history_of, moments_behind, Run, after, beginning, MayAll, after_all, Scene, WorldState, begun, DeliversMore, IsRun, Always, Under, UnderFrom, OpenBefore, OpenBetween}
use Rattle.sbp_world.proofs.Agents.Management.Still.{hist}
use Rattle.sbp_world.proofs.Lists.Gots.{Next, next, next_line, same_still, turn_next}
use Rattle.sbp_world.proofs.Lists.Walks.{Step, Turn, Walks, walked_from, walked_from_between}
use Rattle.sbp_world.proofs.Lists.Courses.{EveryPlace}

-- a condition on a history that was so before wherever it is so
abbrev pub Where : (List Moment → Type 0) → (List Moment → WorldState → Type 0) → List Moment → WorldState → Type 0
Where Still U past w = Still past → U past w

module _ (Still : List Moment → Type 0) (closed : (later past : List Moment) → Still (later ++ past) → Still past) where
  next_still : (before now : List Moment) → Next before now → Still now → Still before
  next_still before now (same_still e) still = subst Still e still
  next_still before now (next front q moment is) still = closed (moment ∷ []) before (closed (map said front) (moment ∷ before) (subst Still (sym is) still))
  next_still before now (next_line front q note line event is) still =
      closed (said note ∷ asked line event ∷ []) before (closed (map said front) (said note ∷ asked line event ∷ before) (subst Still (sym is) still))

  pub turn_still : (past : List Moment) (s : Scene) (later : List Moment) (t : Scene) → Turn past s later t → Still (hist later t.world) → Still (hist past s.world)
  turn_still past s later t turn still = next_still (hist past s.world) (hist later t.world) (turn_next past s later t turn) still

  module _ (wild : ℕ → Bool) (units ready : ℕ) (start : List Disk) (Q U P : List Moment → WorldState → Type 0) where
    still_step : (past : List Moment) (s : Scene) (later : List Moment) (t : Scene) → Step wild units ready start Q (Where Still U) past s later t → Still (hist later t.world) → Step wild units ready start Q U past s later t
    still_step past s later t step still = record {
      turn = step.turn;
      lines = step.lines;
      more = step.more;
      stands = step.stands;
      reaches = step.reaches;
      known = step.known;
      known_then = step.known_then;
      so_far = λ i own. step.so_far i own (turn_still past s later t step.turn still);
      so_far_then = λ i own. step.so_far_then i own still;
      count = step.count;
      units_are = step.units_are;
    }

    still_walks : Walks wild units ready start Q U P → Walks wild units ready start Q (Where Still U) (Where Still P)
    still_walks walks past s later t step p = λ still. walks past s later t (still_step past s later t step still) (p (turn_still past s later t step.turn still))

  -- by what the units' media held at the start
  module _ (Q : List Moment → WorldState → Type 0) (V : List Disk → List Moment → WorldState → Type 0) (P : List Disk → (ℕ → Bool) → List Moment → WorldState → Type 0) (always : Always Q) (under : UnderFrom (λ start. Where Still (V start))) (walks : (wild : ℕ → Bool) (units ready : ℕ) → 0 < units → (start : List Disk) → Walks wild units ready start Q (V start) (P start wild)) (first : (wild : ℕ → Bool) (line : ℕ) (run : Run) → P run.start.disks wild (moments_behind line run []) (beginning run).world) (line : ℕ) (run : Run) (r : IsRun run) (has : 0 < run.units) (small : run.units ≤ 4) (size : length run.start.disks ≡ run.units) where
    abbrev Over : List Disk → List Moment → WorldState → Type 0
    Over start = Where Still (V start)

    abbrev Kept : List Disk → (ℕ → Bool) → List Moment → WorldState → Type 0
    Kept start wild = Where Still (P start wild)

    over : EveryPlace Over
    over = record {
      after_lines = λ at_line one is_run some few fits so_far. under.after_lines at_line one is_run some few fits so_far;
      between = λ at_line one is_run some few fits next most told m so_far. under.between at_line one is_run some few fits next most told m so_far;
    }

    each_walks : (wild : ℕ → Bool) (units ready : ℕ) → 0 < units → (start : List Disk) → Walks wild units ready start Q (Over start) (Kept start wild)
    each_walks wild units ready has start = still_walks wild units ready start Q (V start) (P start wild) (walks wild units ready has start)

    each_first : (wild : ℕ → Bool) (line : ℕ) (run : Run) → Kept run.start.disks wild (moments_behind line run []) (beginning run).world
    each_first wild line run = λ still. first wild line run

    pub from_after : OpenBefore line run run.entries → Still (history_of line run) → P run.start.disks (injectors (history_of line run)) (history_of line run) (after (beginning run) run.entries).world
    from_after so_far still = walked_from Q Over Kept always over each_walks each_first line run r has small size so_far still

    pub from_between : (line_number : ℕ) (event : Event) (d : DeliversMore event) (told : List (Option Told)) (m : MayAll told (begun (after (beginning run) run.entries))) → OpenBetween line run line_number event told → (let w = (after_all told (begun (after (beginning run) run.entries))).world in let now = map said w.fresh ++ asked line_number event ∷ history_of line run in Still now → P run.start.disks (injectors now) now w)
    from_between line_number event d told m so_far still = walked_from_between Q Over Kept always over each_walks each_first line run r has small size line_number event d told m so_far still

  module _ (Q U : List Moment → WorldState → Type 0) (P : (ℕ → Bool) → List Moment → WorldState → Type 0) (always : Always Q) (under : Under (Where Still U)) (walks : (wild : ℕ → Bool) (units ready : ℕ) → 0 < units → (start : List Disk) → Walks wild units ready start Q U (P wild)) (first : (wild : ℕ → Bool) (line : ℕ) (run : Run) → P wild (moments_behind line run []) (beginning run).world) (line : ℕ) (run : Run) (r : IsRun run) (has : 0 < run.units) (small : run.units ≤ 4) (size : length run.start.disks ≡ run.units) where
    from_start : UnderFrom (λ start. Where Still U)
    from_start = record {
      after_lines = λ at_line one is_run some few fits so_far. under.after_lines at_line one is_run some few fits so_far;
      between = λ at_line one is_run some few fits next most told m so_far. under.between at_line one is_run some few fits next most told m so_far;
    }

    pub still_after : OpenBefore line run run.entries → Still (history_of line run) → P (injectors (history_of line run)) (history_of line run) (after (beginning run) run.entries).world
    still_after = from_after Q (λ start. U) (λ start. P) always from_start walks first line run r has small size

    pub still_between : (line_number : ℕ) (event : Event) (d : DeliversMore event) (told : List (Option Told)) (m : MayAll told (begun (after (beginning run) run.entries))) → OpenBetween line run line_number event told → (let w = (after_all told (begun (after (beginning run) run.entries))).world in let now = map said w.fresh ++ asked line_number event ∷ history_of line run in Still now → P (injectors now) now w)
    still_between = from_between Q (λ start. U) (λ start. P) always from_start walks first line run r has small size
