-- The laws of the wire hold of every run of `tasks`.
use Rattle.sbp_world.proofs.Words.Std.{◌≡◌, ◌∙◌, refl, sym, ap, subst, arith, ℕ, suc, ◌+◌, ◌^◌, ◌<◌, true, List, [], ◌∷◌, ◌++◌, length, map}
use Rattle.sbp_world.proofs.Words.Wire.{Moment, asked, said}
use Rattle.rbc_disk.specs.Held.{Held}
use Rattle.sbp_journal.specs.declared.event.Event.TheVariants as events
use Rattle.sbp_laws.specs.Lawful.{injectors}
use Rattle.sbp_laws.specs.OnceLaw.{OnceLaw}
use Rattle.sbp_world.proofs.FitInitiator.Law.{fitting_law as own_fitting_law}
use Rattle.sbp_world.proofs.Wire.Entries.{once_behind}
use Rattle.sbp_world.proofs.Wire.Holding.{target_has}
use Rattle.sbp_world.proofs.Wire.Runs.{first_known, first_own, first_seen}
use Rattle.sbp_world.proofs.Wire.Starts.{begins, laws_of}
use Rattle.sbp_world.proofs.Words.World.{IsLine, IsOfWire, moments_behind, new_world}
use Rattle.sbp_world.specs.Runs.{Entry, Run}
use Rattle.task_world.specs.Lines.{task_happens}
use Rattle.task_world.specs.Making.{first_scene}
use Rattle.task_world.specs.Runs.{AreEntries, IsTaskRun, after}
use Rattle.task_world.specs.Wire.Keeping.{AreLines, HasMoves, WireRunLaw}
use Rattle.task_world.specs.Worlds.{TaskScene}
use Rattle.task_world.proofs.Fit.Law.{fitting_law}
use Rattle.task_world.proofs.Wire.Delivered.{SoundScene}
use Rattle.task_world.proofs.Wire.Holding.{one_initiator}
use Rattle.task_world.proofs.Wire.Lines.{line_goes}
use Rattle.task_world.proofs.Wire.ToldBytes.{happened_fits}

-- a run by one ready initiator over one unit
abbrev pub task_run : Held → List Entry → Run
task_run start entries = record { initiators = 1; ready = true; units = 1; start = start; entries = entries }

pub record SoundAfter (line : ℕ) (start : Held) (entries : List Entry) (s : TaskScene) : Type 0 where
  pub past : List Moment
  pub sound : SoundScene past (length entries) s
  pub is : map said s.scene.world.fresh ++ past ≡ moments_behind line (task_run start entries) entries

sound_first : (line : ℕ) (start : Held) → SoundAfter line start [] (first_scene start)
unfolding new_world
sound_first line start = record {
  past = asked line (events.Begin 1 true) ∷ [];
  sound = record {
    own = record { stands = begins line 1 true 1 (omega arith); own = first_own 1 (omega arith) own_fitting_law true };
    target_is = refl;
    bus = refl;
    holds = (fitting_law (target_has (first_seen 1))).begins (first_known 1 (omega arith) 0 (omega arith));
  };
  is = refl;
}

pub sound_after : (line : ℕ) (start : Held) (entries : List Entry) → length entries + 2 < 2 ^ 32 → AreEntries (first_scene start) entries → AreLines entries → SoundAfter line start entries (after (first_scene start) entries)
sound_after line start [] most all fit = sound_first line start
sound_after line start (e ∷ before) most all fit =
    let b = sound_after line start before (omega arith) all.1 fit.1 in
    let s = after (first_scene start) before in
    record {
      past = asked e.line e.event ∷ (map said s.scene.world.fresh ++ b.past);
      sound = subst (λ n. SoundScene (asked e.line e.event ∷ (map said s.scene.world.fresh ++ b.past)) n (task_happens e.line e.event e.told s)) (let x : length before + 1 ≡ suc (length before) = omega arith in x)
          (line_goes fitting_law own_fitting_law e.line e.event e.told s all.0.event.here (subst (IsLine e.event) (sym (one_initiator s.scene.world s.node b.sound)) fit.0) (happened_fits e.event e.told s all.0.may) (omega arith) b.sound);
      is = ap (λ ns. map said ns ++ asked e.line e.event ∷ (map said s.scene.world.fresh ++ b.past)) (sym all.0.notes_are)
          ∙ ap (λ ms. map said e.notes ++ asked e.line e.event ∷ ms) b.is;
    }

-- the wire, and the once law
pub wire_laws : (line : ℕ) (start : Held) (entries : List Entry) → length entries + 2 < 2 ^ 32 → AreEntries (first_scene start) entries → AreLines entries → IsOfWire (moments_behind line (task_run start entries) entries)
wire_laws line start entries most all fit =
    let r = sound_after line start entries most all fit in
    subst IsOfWire r.is (laws_of r.past (after (first_scene start) entries).scene.world r.sound.own.stands)

pub once_law : (line : ℕ) (start : Held) (entries : List Entry) → length entries + 2 < 2 ^ 32 → AreEntries (first_scene start) entries → AreLines entries → OnceLaw (injectors (moments_behind line (task_run start entries) entries)) (moments_behind line (task_run start entries) entries)
once_law line start entries most all fit =
    let r = sound_after line start entries most all fit in
    once_behind (after (first_scene start) entries).scene.world r.sound.own.stands (moments_behind line (task_run start entries) entries) r.is

-- a run of `tasks` is such a run
pub run_is : (run : Run) → IsTaskRun run → run ≡ task_run run.start run.entries
run_is run is =
    ap (λ n. record run { initiators = n }) is.one
    ∙ ap (λ b. record run { initiators = 1; ready = b }) is.ready
    ∙ ap (λ n. record run { initiators = 1; ready = true; units = n }) is.unit

pub wire_run_law : WireRunLaw
wire_run_law first run is fits =
    subst (λ (r : Run). HasMoves first r) (sym (run_is run is))
    (record {
      of_wire = wire_laws first run.start run.entries fits.count is.lines fits.lines;
      once = once_law first run.start run.entries fits.count is.lines fits.lines;
    })
