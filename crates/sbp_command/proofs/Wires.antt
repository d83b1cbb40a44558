-- A run of the machine whose events are those of lines is lawful, and the terms of its history are the states of the nodes.
use Rattle.std.proofs.Common.{◌≡◌, ◌∙◌, inr, refl, sym, ap, subst, ℕ, ◌+◌, ◌^◌, ◌<◌, ◌≤◌, List, [], ◌∷◌, length, arith}
use Rattle.std.specs.List.{AllByRecursion}
use Rattle.std.proofs.lemmas.List.{length-append}
use Rattle.sbp_journal.specs.declared.event.Event.{Event}
use Rattle.sbp_world.specs.Completing.Deaths.{AreLegal}
use Rattle.sbp_world.specs.Completing.Done.{AllRungComplete}
use Rattle.sbp_world.specs.Histories.{history_of}
use Rattle.sbp_world.specs.Runs.{AreEntries, Entry, Run, StandsFor, after, beginning}
use Rattle.sbp_world.specs.Worlds.{WorldState}
use Rattle.rbc_disk.specs.Disk.{Disk}
use Rattle.rbc_disk.specs.Held.{Held}
use Rattle.sbp_journal.specs.Run.{Moment}
use Rattle.journal_text.proofs.TextsBack.{texts_determine}
use Rattle.sbp_world.specs.Forms.{AreTyped}
use Rattle.sbp_command.proofs.Forms.{is_written}
use Rattle.sbp_world.proofs.Lists.GrantRuns.{few_logins_law}
use Rattle.sbp_world.specs.Lists.FewLogins.{FewLogins, IsTameOrFew}
use Rattle.sbp_world.specs.Lists.OwnLogins.{IsTame}
use Rattle.sbp_world.specs.Wire.Lines.{AreLines}
use Rattle.sbp_world.specs.Wire.Journal.{journal_run}
use Rattle.sbp_world.specs.Wire.States.{AreOpenLists, AreStates}
use Rattle.sbp_world.proofs.Wire.States.{are_open_lists, are_states}
use Rattle.sbp_world.specs.Hosts.Runs.{IsRun}
use Rattle.turn_laws.specs.LawfulRuns.{IsLawfulRun}
use Rattle.turn_laws.proofs.LawfulRuns.{lawful_runs_law}
use Rattle.script_runner.specs.Events.{events_in, events_of, journal}
use Rattle.script_runner.specs.Runner.{scene_of}
use Rattle.sbp_command.specs.Machine.{HasRun}
use Rattle.sbp_command.proofs.Media.{run_fits, run_leaves}

-- ---- how many there are

events_count : (entries : List Entry) → length (events_in entries) ≡ length entries
events_count [] = refl
events_count (e ∷ before) =
    let one = length-append (events_in before) ((e.line, e.event) ∷ []) in
    let rest = events_count before in
    omega (arith, one, rest)

-- as many as the events behind the first
pub entries_few : (line : ℕ) (run : Run) (happened : List (ℕ × Event)) → events_of line run ≡ happened → length happened ≤ 65536 → length run.entries ≤ 65535
entries_few line run happened e few =
    let all = ap length e in
    let rest = events_count run.entries in
    omega (arith, all, rest, few)

-- ---- the laws
module _ (line : ℕ) (run : Run) (few : run.initiators ≤ 4) (count : length run.entries ≤ 65535) (all : AreEntries (beginning run) run.entries) (lines : AreLines run run.entries) where
  abbrev past : List Moment
  past = history_of line run

  short : length run.entries + 2 < 2 ^ 32
  short = omega arith

  is : IsRun run
  is = record { few = few; short = short; entries = all; lines = lines }

  -- by what the media held at first
  module _ (start : Held) (same : run.start ≡ start) (units : run.units ≡ length start.disks) where
    over : (F : List Disk → Type 0) → F run.start.disks → F start.disks
    over F h = subst F (ap (λ (held : Held). held.disks) same) h

    -- of a machine of one to four units
    module _ (some : 0 < run.units) (most : run.units ≤ 4) where
      size : length run.start.disks ≡ run.units
      size = ap (λ (h : Held). length h.disks) same ∙ sym units

      few_logins : FewLogins past
      few_logins = few_logins_law.few line run is some most size (omega arith)

      given : IsTameOrFew past
      given = inr few_logins

      run_laws : AllByRecursion AreTyped run.entries → IsLawfulRun line run
      run_laws typed = lawful_runs_law.lawful line run is some most size typed given

      run_rung : AllByRecursion AreTyped run.entries → AreLegal past → IsTame past → AllRungComplete start.disks (journal_run line run).entries
      run_rung typed legal tame = over (λ disks. AllRungComplete disks (journal_run line run).entries) ((run_laws typed).rung tame few_logins legal)

      run_states : AreStates start.disks past (after (beginning run) run.entries)
      run_states = over (λ disks. AreStates disks past (after (beginning run) run.entries)) (are_states line run is some most size)

      run_open_lists : AreOpenLists start.disks past (after (beginning run) run.entries).world
      run_open_lists = over (λ disks. AreOpenLists disks past (after (beginning run) run.entries).world) (are_open_lists line run is some most size given)

-- ---- a run of the machine

-- it is one over its events, whose notes are its journal
pub has_run : (line : ℕ) (run : Run) (start media : Held) (world : WorldState) (happened : List (ℕ × Event)) → run.start ≡ start → run.units ≡ length start.disks → 0 < run.units → run.units ≤ 4 → run.initiators ≤ 4 → length run.entries ≤ 65535 → events_of line run ≡ happened
    → StandsFor run (scene_of world media) → AreLines run run.entries → AllByRecursion AreTyped run.entries → AreLegal (history_of line run) → HasRun start happened (journal run) media
has_run line run start media world happened same units some most few count events stands lines typed legal =
    let left : media ≡ (after (beginning run) run.entries).media = ap (λ s. s.media) stands.state in
    record {
      line = line;
      run = run;
      start_is = same;
      units_are = units;
      machine = record { is = is line run few count stands.lines lines; some = some; most = most; size = ap (λ (held : Held). length held.disks) same ∙ sym units };
      lines_are = stands.lines;
      events_are = events;
      notes_are = refl;
      media_are = left;
      media_fit = run_fits run start media same few stands.lines left;
      leaves = run_leaves line run start media same few stands.lines left;
      lawful = run_laws line run few count stands.lines lines start same units some most typed;
      legal = legal;
      rung = run_rung line run few count stands.lines lines start same units some most typed legal;
      states = run_states line run few count stands.lines lines start same units some most;
      open_lists = run_open_lists line run few count stands.lines lines start same units some most;
      written = is_written run few stands.lines typed;
      by_text = λ others w same_text. texts_determine others (journal run) w (is_written run few stands.lines typed) same_text;
    }
