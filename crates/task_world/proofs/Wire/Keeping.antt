-- Each line of a task world keeps the laws of the wire of the runs that it stands for.
use Rattle.sbp_world.proofs.Words.Std.{◌≡◌, sym, subst, arith, AllByRecursion, ℕ, ◌≤◌, List, [], ◌∷◌}
use Rattle.sbp_world.proofs.Words.Wire.{Event, asked}
use Rattle.sbp_world.proofs.Words.Laws.{EachMoment, FormedOnTheBus, HasFormAt, OnceLaw, injectors}
use Rattle.rbc_disk.specs.Held.{Held}
use Rattle.sbp_world.proofs.Words.World.{AreForms, IsOfWire, history_of, journal_run, moments_behind}
use Rattle.sbp_world.proofs.Wire.Entries.{bus_law, forms_of}
use Rattle.sbp_world.proofs.Wire.Typed.{lawful_where_typed}
use Rattle.sbp_world.specs.Runs.{Entry, Run}
use Rattle.task_world.specs.Lines.{IsTaskEvent, TaskHappens}
use Rattle.task_world.specs.Making.{first_scene, new_task_world}
use Rattle.task_world.specs.Runs.{IsTaskRun, TaskRuns, first_run}
use Rattle.task_world.specs.Wire.Keeping.{BeginsTaskLaws, IsLikeAScripts, KeepsTaskLaws, StandsLawfully, WireLaw}
use Rattle.task_world.specs.Worlds.{TaskScene, TaskWorldState}
use Rattle.task_world.proofs.LineForms.{form_law}
use Rattle.task_world.proofs.Standing.{begins, goes_on}
use Rattle.task_world.proofs.Wire.Lined.{line_law}
use Rattle.task_world.proofs.Wire.Runs.{once_law, run_is, task_run, wire_laws}

-- each note has its form
all_forms : (line : ℕ) (start : Held) (entries : List Entry) → AllByRecursion AreForms entries → EachMoment HasFormAt (moments_behind line (task_run start entries) entries)
all_forms line start [] f = (tt, (tt, tt))
all_forms line start (e ∷ before) f = forms_of e.notes (asked e.line e.event ∷ moments_behind line (task_run start before) before) f.0 (tt, all_forms line start before f.1)

formed : (first : ℕ) (run : Run) → IsTaskRun run → IsLikeAScripts run → run ≡ task_run run.start run.entries → FormedOnTheBus (injectors (history_of first run)) (journal_run first run)
formed first run is fits e =
    subst (λ (r : Run). FormedOnTheBus (injectors (history_of first r)) (journal_run first r)) (sym e)
    (let r = task_run run.start run.entries in
    let tie = bus_law.tie first r in
    record {
      form = subst (λ p. EachMoment HasFormAt p) (sym tie) (all_forms first run.start run.entries (form_law.runs run is));
      once = subst (λ p. OnceLaw (injectors (history_of first r)) p) (sym tie) (once_law first run.start run.entries fits.count is.lines fits.lines);
      lines = line_law first run.start run.entries fits.count is.lines fits.lines;
    })

few : (run : Run) → IsTaskRun run → run.initiators ≤ 4
few run is = let one = is.one in omega (arith, one)

pub wire_law : WireLaw
wire_law first run is fits =
    let e = run_is run is in
    let bus = formed first run is fits e in
    record {
      of_wire = subst (λ (r : Run). IsOfWire (history_of first r)) (sym e) (wire_laws first run.start run.entries fits.count is.lines fits.lines);
      on_the_bus = bus;
      written = lawful_where_typed first run (few run is) bus;
    }

lawfully : (run : Run) (s : TaskScene) → TaskRuns run s → StandsLawfully run s
lawfully run s stands = record { stands = stands; has_laws = λ first is. wire_law first run stands.is is }

pub begins_laws : (w : TaskWorldState) → w ≡ new_task_world → BeginsTaskLaws w
begins_laws w e = subst BeginsTaskLaws (sym e) (λ start. lawfully (first_run start) (first_scene start) (begins start))

pub keeps_laws : (line : ℕ) (event : Event) (old new : TaskScene) → IsTaskEvent event → TaskHappens line event old new → KeepsTaskLaws line event old new
keeps_laws line event old new fits h run stands = record { told = h.told; keeps = lawfully _ _ (goes_on run line event old new stands fits h) }
