-- At each place of a run there are as many initiators as its first line says, and a status is taken for these alone.
use Rattle.sbp_world.proofs.Words.Std.{arith, ◌≡◌, ◌∙◌, refl, sym, subst, ℕ, ◌≤◌, nat_eq, Bool, true, false, cond, List, [], ◌∷◌, ◌++◌, map, length, Option, Some, None, reverse}
use Rattle.sbp_world.proofs.Words.Wire.{Event, Moment, Note, asked, history, said}
use Rattle.sbp_world.proofs.Words.Target.{Disk, Told}
use Rattle.sbp_world.proofs.Words.Laws.{BringsLine, LineLaw, initiators, taken_at}
use Rattle.sbp_world.proofs.Words.World.{history_of, moments_behind, happens, AreEntries, Entry, Run, after, beginning, MayAll, MayNext, after_all, delivered_at, delivered_next, lowest, Scene, WorldState, begun, AreLines, IsLine, IsRun}
use Rattle.sbp_journal.specs.declared.event.Event.TheVariants as events
use Rattle.sbp_journal.specs.declared.note.Note.TheVariants as notes
use Rattle.sbp_world.specs.Settling as settling
use Rattle.sbp_world.specs.Wire.Journal.{journal_entries}
use Rattle.sbp_world.proofs.Common.{untrue, above}
use Rattle.sbp_world.proofs.FitInitiator.Law.{fitting_law as own_fitting_law}
use Rattle.sbp_world.proofs.FitTarget.Law.{fitting_law}
use Rattle.sbp_world.proofs.Hosts.Carried.{between_runs}
use Rattle.sbp_world.proofs.Hosts.Hosted.{Cored, cored_carried, first_cored}
use Rattle.sbp_world.proofs.Hosts.Runs.{are_told, count_after, count_between}
use Rattle.sbp_world.proofs.Hosts.Statuses.Insides.{Inside, delivers_inside}
use Rattle.sbp_world.proofs.Hosts.Statuses.Ranges.{InsideIn, run_inside}
use Rattle.sbp_world.proofs.Wire.Begun.{NoneBegins, same_initiators}
use Rattle.sbp_world.proofs.Wire.Brings.{up_to_brings}
use Rattle.sbp_world.proofs.Wire.Entries.{act_none, bus_law, none_back, none_by}
use Rattle.sbp_world.proofs.Wire.Runs.{sound_after}
use Rattle.sbp_world.proofs.Wire.Sound.{opens}

-- ---- no later line begins a run
pub none_at : (line : ℕ) (event : Event) (told : List (Option Told)) (s : Scene) (disks : List Disk) (past : List Moment) (ns : List Note) → IsLine event (length s.world.initiators) → ns ≡ (happens line event told s).world.fresh → BringsLine disks past line event (reverse ns) → NoneBegins ns
unfolding happens
none_at line (events.Act i action) told s disks past ns q e b = subst NoneBegins (sym e) (act_none line i action (begun s).world refl)
none_at line (events.Begin n ready) told s disks past ns q e b = absurd q
none_at line event told s disks past ns q e b = none_back ns (none_by disks past line event (reverse ns) tt b)

counted_lines : (line : ℕ) (run : Run) (entries : List Entry) → AreEntries (beginning run) entries → AreLines run entries → LineLaw run.start.disks (journal_entries line run entries) → initiators (moments_behind line run entries) ≡ run.initiators
counted_lines line run [] all fit laws = refl
counted_lines line run (e ∷ before) all fit laws =
    let s = after (beginning run) before in
    let none = none_at e.line e.event e.told s run.start.disks (history (journal_entries line run before)) e.notes fit.0 all.0.notes_are laws.0 in
    same_initiators e.notes (asked e.line e.event ∷ moments_behind line run before) none ∙ counted_lines line run before all.1 fit.1 laws.1

module _ (line : ℕ) (run : Run) (r : IsRun run) (size : length run.start.disks ≡ run.units) where
  abbrev here : Scene
  here = after (beginning run) run.entries

  initiators_after : initiators (history_of line run) ≡ run.initiators
  initiators_after = counted_lines line run run.entries r.entries r.lines (bus_law.lawful line run r.few (sym size) r.short r.entries r.lines).lines

  pub counted_after : length here.world.initiators ≡ initiators (history_of line run)
  counted_after = count_after run run.entries ∙ sym initiators_after

  -- behind deliveries of a line that follows
  module _ (next : ℕ) (event : Event) (told : List (Option Told)) (m : MayAll told (begun here)) where
    abbrev w : WorldState
    w = (after_all told (begun here)).world

    pub none_between : NoneBegins w.fresh
    none_between =
        let b = sound_after fitting_law own_fitting_law line run run.entries r.few r.short r.entries r.lines in
        let steps = events.Step (length told) in
        let sound = opens next steps here.world refl b.sound in
        none_back w.fresh
        (none_by run.start.disks (map said here.world.fresh ++ b.past) next steps (reverse w.fresh) tt
        (up_to_brings fitting_law own_fitting_law (begun here) sound refl refl (length told) told (are_told told here m)
        (record { few = omega arith; all = λ l. absurd (omega (arith, l)); may = m })))

    pub counted_between : length w.initiators ≡ initiators (map said w.fresh ++ asked next event ∷ history_of line run)
    counted_between = count_between told here ∙ (counted_after ∙ sym (same_initiators w.fresh (asked next event ∷ history_of line run) none_between))

-- ---- no status is taken for another
pick_none : {A : Type 0} (b : Bool) (x y : Option A) → b ≡ false → y ≡ None → cond b x y ≡ None
pick_none true x y e none = untrue (sym e)
pick_none false x y e none = none

inside_none : (most : ℕ) (past : List Moment) → InsideIn most past → (i n k : ℕ) → most ≤ i → taken_at past i n k ≡ None
inside_none most [] h i n k l = refl
inside_none most (said (notes.Taken j m o status answer) ∷ past) h i n k l = pick_none (nat_eq i j) _ (taken_at past i n k) (above i j most h.0 l) (inside_none most past h.1 i n k l)
inside_none most (_ ∷ past) h i n k l = inside_none most past h i n k l

more_none : (most : ℕ) (ns : List Note) (past : List Moment) → Inside most ns → (i n k : ℕ) → most ≤ i → taken_at past i n k ≡ None → taken_at (map said ns ++ past) i n k ≡ None
more_none most [] past h i n k l none = none
more_none most (notes.Taken j m o status answer ∷ ns) past h i n k l none = pick_none (nat_eq i j) _ (taken_at (map said ns ++ past) i n k) (above i j most h.0 l) (more_none most ns past h.1 i n k l none)
more_none most (note ∷ ns) past h i n k l none = more_none most ns past h i n k l none

module _ (line : ℕ) (run : Run) (r : IsRun run) where
  abbrev last : Scene
  last = after (beginning run) run.entries

  pub none_taken_after : (i n k : ℕ) → run.initiators ≤ i → taken_at (history_of line run) i n k ≡ None
  none_taken_after = inside_none run.initiators (history_of line run) (run_inside line run r)

  -- behind deliveries of a line that follows
  abbrev there : List (Option Told) → Scene
  there told = after_all told (begun last)

  abbrev AreInside : Scene → Type 0
  AreInside s = Inside run.initiators s.world.fresh

  lowest_inside : (told : List (Option Told)) → MayAll told (begun last) → (one : Option Told) (found : Option ℕ) → settling.MayAt found one (there told) → AreInside (there told) → AreInside (delivered_at found one (there told))
  lowest_inside told m one None may h = absurd may
  lowest_inside told m one (Some serial) may h =
      let size = count_between told last ∙ count_after run run.entries in
      delivers_inside run.initiators run.ready serial false (there told) (omega (arith, size))
      (λ i l. (between_runs (Cored run.ready) (cored_carried run.ready) line run (λ entries few short all fit j c. tt) (λ j c. first_cored line j run.initiators run.ready c) r line None told m i (omega (arith, size, l))).own) h one may

  all_inside : (told : List (Option Told)) → MayAll told (begun last) → AreInside (there told)
  unfolding delivered_next MayNext
  all_inside [] m = tt
  all_inside (one ∷ before) m = lowest_inside before m.1 one (lowest (there before).world) m.0 (all_inside before m.1)

  pub none_taken_between : (next : ℕ) (event : Event) (told : List (Option Told)) → MayAll told (begun last) → (i n k : ℕ) → run.initiators ≤ i → taken_at (map said (there told).world.fresh ++ asked next event ∷ history_of line run) i n k ≡ None
  none_taken_between next event told m i n k l =
      more_none run.initiators (there told).world.fresh (asked next event ∷ history_of line run) (all_inside told m) i n k l (none_taken_after i n k l)
