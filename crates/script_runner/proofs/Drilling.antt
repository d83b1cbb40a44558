-- A drill is run line by line.
use Rattle.std.proofs.Common.{◌≡◌, ◌∙◌, refl, sym, ap, subst, ℕ, suc, ◌+◌, ◌<◌, ◌≤◌, true, List, [], ◌∷◌, ◌++◌, drop, length, reverse, Some, None, append_assoc, arith}
use Rattle.std.specs.List.{AllByRecursion, slice_get}
use Rattle.rbc_disk.specs.Held.{Held}
use Rattle.sbp_journal.specs.declared.event.Event.{Event}
use Rattle.sbp_journal.specs.Written.{IsTyped}
use Rattle.sbp_journal.specs.declared.note.Note.{Note}
use Rattle.sbp_world.specs.Lines.{Happens, IsEvent}
use Rattle.sbp_world.specs.Making.{new_world, notes_begin}
use Rattle.sbp_world.specs.Runs.{entry, with_entry}
use Rattle.sbp_world.specs.Worlds.{WorldState}
use Rattle.sbp_world.proofs.Standing.{begins, goes_on}
use Rattle.sbp_world.specs.Wire.Lines.{IsLine}
use Rattle.script_text.specs.Drill.{generated, turns}
use Rattle.drill_text.specs.Tally.{TallyState, tally_of}
use Rattle.script_runner.specs.Drilling.{AreLeft, Drilled, InDrill}
use Rattle.script_runner.specs.Events.{events_of, journal, numbered_from}
use Rattle.script_runner.specs.Runner.{scene_of}
use Rattle.script_runner.proofs.Kept.{world_fresh}
use Rattle.script_runner.proofs.Entries.{more_lines}

-- ---- the lines that are left

-- the first one was taken
pub taken_first : {A : Type 0} (xs ys : List A) (x : A) → Some x ≡ slice_get xs 0 → ys ≡ drop 1 xs → xs ≡ x ∷ ys
taken_first [] ys x e d = absurd (cc e)
taken_first (z ∷ xs) ys x e d = let same : x ≡ z = cc e in ap (λ w. w ∷ xs) (sym same) ∙ ap (λ zs. x ∷ zs) (sym d)

pub none_left : {A : Type 0} (xs : List A) → None ≡ slice_get xs 0 → xs ≡ []
none_left [] e = refl
none_left (y ∷ xs) e = absurd (cc e)

-- it may happen, and is one of the wire
pub first_fits : (line n : ℕ) (left rest : List Event) (event : Event) → left ≡ event ∷ rest → AreLeft line left n → IsEvent event n × IsLine event n
first_fits line n left rest event e h =
    let fit = subst (AllByRecursion (λ event. IsEvent event 2)) e h.fit in
    let lines = subst (AllByRecursion (λ event. IsLine event 2)) e h.lines in
    (subst (IsEvent event) (sym h.two) fit.0, subst (IsLine event) (sym h.two) lines.0)

pub left_behind : (line n m : ℕ) (left rest : List Event) (event : Event) → left ≡ event ∷ rest → m ≡ n → AreLeft line left n → AreLeft (line + 1) rest m
left_behind line n m left rest event e same h = record {
  two = same ∙ h.two;
  few = let size = ap length e in let few = h.few in omega (arith, size, few);
  fit = (subst (AllByRecursion (λ event. IsEvent event 2)) e h.fit).1;
  lines = (subst (AllByRecursion (λ event. IsLine event 2)) e h.lines).1;
}

-- ---- one more line

-- the run begins
pub drill_begins : (seed count units : ℕ) (start : Held) (tally : TallyState) → units ≡ length start.disks → 1 ≤ length start.disks → length start.disks ≤ 4 → tally ≡ tally_of (notes_begin 2 true ∷ [])
    → InDrill start (generated seed count) 1 (turns count 1 seed) tally (new_world 2 true units) start
drill_begins seed count units start tally u one four e = record {
  run = record { initiators = 2; ready = true; units = units; start = start; entries = [] };
  start_is = refl;
  units_are = u;
  some = subst (λ n. 0 < n) (sym u) (omega (arith, one));
  most = subst (λ n. n ≤ 4) (sym u) four;
  few = omega arith;
  events_are = refl;
  tally_is = e;
  stands = begins 2 true units start;
  lines = tt;
  typed = tt;
  count = refl;
}

-- the same, of a script, a world and a tally that are these
pub drill_begun : (seed count units : ℕ) (start : Held) (script : List Event) (tally : TallyState) (world : WorldState) (said : List Note) → script ≡ turns count 1 seed → world ≡ new_world 2 true units → units ≡ length start.disks → 1 ≤ length start.disks → length start.disks ≤ 4 → tally ≡ tally_of said → said ≡ reverse world.fresh
    → InDrill start (generated seed count) 1 script tally world start
drill_begun seed count units start script tally world said s w u one four t n =
    let first : said ≡ notes_begin 2 true ∷ [] = n ∙ ap reverse (ap (λ v. v.fresh) w ∙ world_fresh 2 true units) in
    let begun = drill_begins seed count units start tally u one four (t ∙ ap tally_of first) in
    subst (λ v. InDrill start (generated seed count) 1 script tally v start) (sym w) (subst (λ es. InDrill start (generated seed count) 1 es tally (new_world 2 true units) start) (sym s) begun)

-- a line was run
pub drill_more : (start old media : Held) (all left rest : List Event) (line : ℕ) (event : Event) (before after : TallyState) (w v : WorldState) → left ≡ event ∷ rest → Happens (line + 1) event (scene_of w old) (scene_of v media)
    → ((notes : List Note) → before ≡ tally_of notes → after ≡ tally_of (notes ++ reverse v.fresh)) → AllByRecursion IsTyped v.fresh → IsLine event (length w.initiators) → InDrill start all line left before w old → InDrill start all (line + 1) rest after v media
drill_more start old media all left rest line event before after w v l k t typed i h = record {
  run = with_entry h.run (entry (line + 1) event k.told v.fresh);
  start_is = h.start_is;
  units_are = h.units_are;
  some = h.some;
  most = h.most;
  few = h.few;
  events_are = append_assoc (events_of 1 h.run) ((line + 1, event) ∷ []) (numbered_from (line + 1 + 1) rest) ∙ subst (λ es. events_of 1 h.run ++ numbered_from (line + 1) es ≡ numbered_from 1 all) l h.events_are;
  tally_is = t (journal h.run) h.tally_is;
  stands = goes_on h.run (line + 1) event (scene_of w old) (scene_of v media) h.stands k;
  lines = more_lines h.run (entry (line + 1) event k.told v.fresh) (scene_of w old) h.stands.state i h.lines;
  typed = (typed, h.typed);
  count = let before : length h.run.entries + 1 ≡ line = h.count in let now : suc (length h.run.entries) + 1 ≡ line + 1 = omega (arith, before) in now;
}

-- all was run
pub drill_over : (start media : Held) (all left : List Event) (line : ℕ) (tally : TallyState) (w : WorldState) → left ≡ [] → line ≤ 20001 → InDrill start all line left tally w media → Drilled start all tally media
drill_over start media all left line tally w l few h = record { line = line; world = w; few = few; done = subst (λ es. InDrill start all line es tally w media) l h }
