-- Each line of a world keeps the laws of the runs that it stands for.
use Rattle.sbp_world.proofs.Words.Std.{◌∙◌, ap, arith, subst, sym, refl, ◌≤◌, ◌∷◌, ◌++◌, map, true, false}
use Rattle.sbp_world.proofs.Words.Wire.{Event, Note, asked, end_note, said}
use Rattle.sbp_world.proofs.Words.Target.{Disk}
use Rattle.sbp_world.proofs.Words.World.{IsCalm, after_all, begun, entry, history_of, is_settled, with_entry, IsRun, Happens, new_world, AreEntries, Run, StandsFor, beginning, HasSettled, Settles, BeginsLawfully, HasLaws, IsLikeAScripts, KeepsLaws, SettlesLawfully, StandsLawfully, AreOpenLists, AreStates, Scene, WorldState, scene, without_notes}
use Rattle.std.specs.Prelude.{◌≡◌, ℕ, Bool, List, []}
use Rattle.sbp_journal.specs.declared.event.Event.TheVariants as events
use Rattle.sbp_laws.specs.Budget.{Lossless, budget, most_deliveries}
use Rattle.sbp_laws.specs.Completion.{EndsSettled}
use Rattle.sbp_world.specs.Lists.OwnLogins.{IsTame}
use Rattle.sbp_world.specs.Wire.Keeping.{SettlesWhereItMay}
use Rattle.sbp_world.proofs.Completing.DoneFronts.{all_rung_complete_law}
use Rattle.sbp_world.proofs.Counting.CompletionRuns.{completion_law, entries_same}
use Rattle.sbp_world.proofs.Lists.JoinLaws.{lines_same, moments_same}
use Rattle.sbp_world.proofs.Lists.ListLaws.{list_laws}
use Rattle.sbp_world.proofs.Lists.Executes.{due_runs_law}
use Rattle.sbp_world.proofs.Lists.GrantRuns.{few_logins_law}
use Rattle.sbp_world.proofs.Standing.{begins, goes_on, settles}
use Rattle.sbp_world.proofs.Wire.Entries.{bus_law}
use Rattle.sbp_world.proofs.Wire.Typed.{lawful_where_typed}
use Rattle.sbp_world.proofs.Wire.Runs.{all_runs}
use Rattle.sbp_world.proofs.Wire.States.{are_open_lists, are_states}

laws_of : (run : Run) → AreEntries (beginning run) run.entries → (first : ℕ) → IsLikeAScripts run → HasLaws first run
laws_of run are first is =
    let bounds : IsRun run = record { few = is.few; short = is.count; entries = are; lines = is.lines } in
    record {
      of_wire = (all_runs.runs first run is.few is.count are is.lines).has_laws;
      on_the_bus = bus_law.lawful first run is.few is.media is.count are is.lines;
      written = lawful_where_typed first run is.few (bus_law.lawful first run is.few is.media is.count are is.lines);
      due = λ some most. due_runs_law.after_lines first run bounds some most (sym is.media);
      few_logins = λ some most. few_logins_law.few first run bounds some most (sym is.media);
      lists = λ some most. list_laws first run bounds some most (sym is.media);
      completes = λ one some most. completion_law first run bounds one some most (sym is.media);
      rung = λ some most. all_rung_complete_law first run bounds some most (sym is.media);
    }

-- the scene that stands for a run is the one behind its lines
lawfully : (run : Run) (s : Scene) → StandsFor run s → StandsLawfully run s
lawfully run s stands =
    let bounds : IsLikeAScripts run → IsRun run = λ is. record { few = is.few; short = is.count; entries = stands.lines; lines = is.lines } in
    record {
      stands = stands;
      has_laws = laws_of run stands.lines;
      states = λ first is some most. subst (AreStates run.start.disks (history_of first run)) (sym stands.state) (are_states first run (bounds is) some most (sym is.media));
      open_lists = λ first is some most tame.
          subst (λ (x : Scene). AreOpenLists run.start.disks (history_of first run) x.world) (sym stands.state) (are_open_lists first run (bounds is) some most (sym is.media) tame);
    }

pub begins_lawfully : (initiators : ℕ) (ready : Bool) (units : ℕ) (world : WorldState) → world ≡ new_world initiators ready units → BeginsLawfully initiators ready units world
begins_lawfully initiators ready units world e start =
    lawfully _ _ (subst (λ w. StandsFor (record { initiators = initiators; ready = ready; units = units; start = start; entries = [] }) (record { world = w; media = start })) (sym e) (begins initiators ready units start))

pub keeps_laws : (line : ℕ) (event : Event) (old new : Scene) → Happens line event old new → KeepsLaws line event old new
keeps_laws line event old new h run stands = record { told = h.told; keeps = lawfully _ _ (goes_on run line event old new stands h) }

pub settles_lawfully : (line : ℕ) (done : Bool) (old new : Scene) → HasSettled done old new → SettlesLawfully line old new
settles_lawfully line done old new h run stands = record { told = h.told; keeps = lawfully _ _ (settles run line done old new stands h) }

-- what the calls of a world give, which keep its parts
pub step_keeps : (line : ℕ) (event : Event) (w inside : WorldState) (disks : List Disk) (faults : List ℕ) (new : Scene) → inside ≡ w → Happens line event (scene inside disks faults) new → KeepsLaws line event (scene w disks faults) new
step_keeps line event w inside disks faults new e h = keeps_laws line event (scene w disks faults) new (subst (λ x. Happens line event (scene x disks faults) new) e h)

pub settle_keeps : (done : Bool) (line : ℕ) (w inside cleared : WorldState) (disks : List Disk) (faults : List ℕ) (new : Scene) → inside ≡ w → cleared ≡ without_notes inside → Settles done (scene cleared disks faults) new → SettlesLawfully line (scene w disks faults) new
settle_keeps done line w inside cleared disks faults new e f h = settles_lawfully line done (scene w disks faults) new (subst (λ x. Settles done (scene x disks faults) new) (f ∙ ap without_notes e) h)

-- ---- what a `settle` answers
ends_done : (done : Bool) (told : List Note) → EndsSettled (end_note done ∷ told) → done ≡ true
ends_done true told e = refl
ends_done false told e = absurd e

pub settles_where_it_may : (line : ℕ) (done : Bool) (old new : Scene) → HasSettled done old new → SettlesWhereItMay line done old new
settles_where_it_may line done old new h run first stands may =
    let e = entry line events.Settle h.told new.world.fresh in
    let now = with_entry run e in
    let like : IsLikeAScripts now = record { few = may.like.few; media = may.like.media; count = (let count = may.count in omega (arith, count)); lines = (tt, lines_same run (e ∷ run.entries) run.entries may.like.lines) } in
    let tame : IsTame (history_of first now) = λ i. subst (λ ms. IsCalm (map said new.world.fresh ++ asked line events.Settle ∷ ms) i) (sym (moments_same first run (e ∷ run.entries) run.entries)) (may.tame i) in
    let laws = laws_of now (settles run line done old new stands h).lines first like in
    let before = sym (entries_same first run run.entries (e ∷ run.entries)) ∙ bus_law.tie first run in
    let ends = (laws.completes may.some may.unit may.units tame).settles.0 (subst Lossless (sym before) may.lossless) (subst (λ ms. budget ms ≤ most_deliveries) (sym before) may.small) in
    let t = after_all h.told (begun old) in
    h.done ∙ ap (λ (s : Scene). is_settled s.world) h.is ∙ ends_done (is_settled t.world) t.world.fresh (subst EndsSettled (ap (λ (s : Scene). s.world.fresh) h.is) ends)

pub settle_settles_where : (done : Bool) (line : ℕ) (w inside cleared : WorldState) (disks : List Disk) (faults : List ℕ) (new : Scene) → inside ≡ w → cleared ≡ without_notes inside → Settles done (scene cleared disks faults) new → SettlesWhereItMay line done (scene w disks faults) new
settle_settles_where done line w inside cleared disks faults new e f h = settles_where_it_may line done (scene w disks faults) new (subst (λ x. Settles done (scene x disks faults) new) (f ∙ ap without_notes e) h)
