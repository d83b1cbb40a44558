-- A script of `tasks` ends as its status says.
use Rattle.std.proofs.Common.{◌≡◌, ◌∙◌, refl, sym, ap, subst, arith, ℕ, ◌+◌, ◌≤◌, inl, inr, List, [], ◌∷◌, ◌++◌, length, reverse, Option, Some, None}
use Rattle.std.specs.List.{AllByRecursion}
use Rattle.std.proofs.lemmas.List.{reverse-reverse}
use Rattle.rbc_disk.specs.Held.{Held}
use Rattle.sbp_journal.specs.Written.{IsWritten}
use Rattle.sbp_journal.specs.declared.event.Event.{Event}
use Rattle.sbp_journal.specs.declared.note.Note.{Note}
use Rattle.sbp_journal.proofs.Each.{all_reverse}
use Rattle.media_laws.specs.Media.{media_after}
use Rattle.journal_text.proofs.TextsBack.{texts_determine}
use Rattle.line_session.specs.Outside.{Outside}
use Rattle.line_session.specs.Meaning.{Refused}
use Rattle.line_session.specs.Ends.{Ends}
use Rattle.line_session.specs.declared.status.Status.{Status}
use Rattle.script_text.specs.Script.{Script}
use Rattle.script_runner.specs.Events.{journal}
use Rattle.script_runner.specs.Script.{begun_by}
use Rattle.sbp_world.specs.Forms.{AreTyped}
use Rattle.sbp_world.specs.Runs.{Run}
use Rattle.task_world.specs.Runs.{IsTaskRun}
use Rattle.task_world.specs.Worlds.{TaskScene, TaskWorldState}
use Rattle.task_world.specs.Media.{notes_of}
use Rattle.task_world.specs.Wire.Keeping.{IsLikeAScripts}
use Rattle.task_world.proofs.NotesWritten.{notes_are_written}
use Rattle.task_world.proofs.Wire.Keeping.{wire_law}
use Rattle.sbp_command.specs.Headline.{status_of}
use Rattle.sbp_command.specs.TaskEnds.{HasTaskRun, IsLawfulTaskRun, RunsTasks, TaskEnds, task_command}
use Rattle.sbp_command.specs.TaskLines.{of_lines}
use Rattle.sbp_command.specs.TaskRunner.{InRun, RanSo, Stands, task_meaning}
use Rattle.sbp_command.proofs.Media.{journal_back}
use Rattle.sbp_command.proofs.Scripts.{GoesOn, IsCommand, Tells, faulty, script_ends}
use Rattle.sbp_command.proofs.TaskMedia.{run_fits, run_leaves}
use Rattle.sbp_command.proofs.TaskScripts.{refused-says, served-fault, served-next, task_events_few}
use Rattle.sbp_command.proofs.Wires.{entries_few}

-- ---- what the task machine did

written : (run : Run) → IsTaskRun run → AllByRecursion AreTyped run.entries → AllByRecursion IsWritten (journal run)
written run is typed =
    subst (AllByRecursion IsWritten) (sym (ap reverse (journal_back run)) ∙ reverse-reverse (journal run)) (all_reverse IsWritten (notes_of run) (notes_are_written run is typed))

-- its lines are such as a script's, as many as there may be
like_a_script : (start : Held) (happened : List (ℕ × Event)) (text : List ℕ) (world : TaskWorldState) (media : Held) → length happened ≤ 65536 → (h : InRun start happened text world media) → IsLikeAScripts h.run
like_a_script start happened text world media few h =
    let lines = entries_few h.line h.run happened h.events_are few in
    record { count = omega (arith, lines); lines = h.lines }

-- so that it is lawful
is_lawful : (line : ℕ) (run : Run) → IsTaskRun run → IsLikeAScripts run → AllByRecursion AreTyped run.entries → IsLawfulTaskRun line run
is_lawful line run is like typed =
    let laws = wire_law line run is like in
    record { of_wire = laws.of_wire; on_the_bus = laws.written typed }

has_task_run : (start : Held) (happened : List (ℕ × Event)) (text : List ℕ) (world : TaskWorldState) (media : Held) → length happened ≤ 65536 → (h : InRun start happened text world media) → HasTaskRun start happened (journal h.run) media
has_task_run start happened text world media few h = record {
  line = h.line;
  run = h.run;
  start_is = h.start_is;
  task_run = h.stands.is;
  events_are = h.events_are;
  notes_are = refl;
  medium_is = ap (λ (s : TaskScene). s.scene.media) h.stands.state;
  others = h.others;
  media_fit = run_fits start media world h.run h.start_is h.stands h.others;
  leaves = run_leaves start media world h.run h.start_is h.stands h.others h.line;
  lawful = is_lawful h.line h.run h.stands.is (like_a_script start happened text world media few h) h.typed;
  written = written h.run h.stands.is h.typed;
  by_text = λ others w same_text. texts_determine others (journal h.run) w (written h.run h.stands.is h.typed) same_text;
}

tells_by : (start : Held) (happened : List (ℕ × Event)) (text : List ℕ) (o : Option TaskWorldState) (media : Held) → length happened ≤ 65536 → Stands start happened text o media → Tells task_command start happened text media
tells_by start happened text None media few h = record {
  notes = [];
  ran = inl (record { events_are = h.events_are; notes_are = refl; media_are = h.media_are });
  text_is = h.text_is;
}
tells_by start happened text (Some world) media few h = record {
  notes = journal h.run;
  ran = inr (has_task_run start happened text world media few h);
  text_is = h.text_is;
}

-- the media are what the notes leave of them
left_by_notes : (start now : Held) (happened : List (ℕ × Event)) (notes : List Note) → RunsTasks start happened notes now → now ≡ media_after (reverse notes) start
left_by_notes start now happened notes (inl h) = h.media_are ∙ ap (λ ns. media_after (reverse ns) start) (sym h.notes_are)
left_by_notes start now happened notes (inr h) = h.media_fit

-- ---- how it ended

tells : (start : Held) (served : List (List ℕ)) (text : List ℕ) (state : Option TaskWorldState) (media : Held) → RanSo start served text state media → Tells task_command start (of_lines served).events text media
tells start served text state media h =
    let few = task_events_few served in
    let count = h.count in
    tells_by start (of_lines served).events text state media (omega (arith, few, count)) h.stands

next : (served : List (List ℕ)) (line : List ℕ) (others : List (List ℕ)) → (of_lines served).fault ≡ None → GoesOn (of_lines served) (of_lines (served ++ line ∷ others))
next served line others clean = record { more = _; events = ap (λ (s : Script). s.events) (served-next served line others clean) }

found : (served : List (List ℕ)) (line : List ℕ) (others : List (List ℕ)) (fault : ℕ) → (of_lines served).fault ≡ None → Refused task_meaning served line fault → of_lines (served ++ line ∷ others) ≡ faulty (of_lines served) (1 + length served) fault
found served line others fault clean refused =
    served-fault served line others fault clean (refused-says (1 + length served) (begun_by 0 (of_lines served).events) line fault refused)

task_is : (start : Held) → IsCommand task_meaning task_command start
task_is start = record {
  of_lines = of_lines;
  script_is = λ input. refl;
  clean = λ served text state media h. h.clean;
  tells = tells start;
  next = next;
  fault = found;
  closed = λ served text media h. h;
  stays = λ old new h. h;
  fits = λ happened notes now h. left_by_notes start now happened notes h;
}

pub task_ends : (status : Status) (before now : Outside) → Ends task_meaning status before now → TaskEnds (status_of status) before now
task_ends status before now h = script_ends task_meaning task_command before now (task_is before.media) status h
