-- A run of a script ends as its status says.
use Rattle.std.proofs.Common.{◌≡◌, refl, ap, ℕ, ◌+◌, ◌≤◌, inl, inr, List, [], ◌∷◌, ◌++◌, length, Option, Some, None, arith}
use Rattle.rbc_disk.specs.Held.{Held}
use Rattle.sbp_journal.specs.declared.event.Event.{Event}
use Rattle.sbp_world.specs.Worlds.{WorldState}
use Rattle.line_session.specs.Outside.{Outside}
use Rattle.line_session.specs.Meaning.{Refused}
use Rattle.line_session.specs.Ends.{Ends}
use Rattle.line_session.specs.declared.status.Status.{Status}
use Rattle.script_text.specs.Script.{Script}
use Rattle.script_runner.specs.Events.{journal}
use Rattle.script_runner.specs.Legal.{AreLegalLines}
use Rattle.script_runner.specs.Script.{begun_by, of_lines}
use Rattle.script_runner.specs.Runner.{RanSo, RunnerState, Stands, run_meaning}
use Rattle.script_runner.proofs.LegalScripts.{legal_scripts_law}
use Rattle.script_runner.proofs.ScriptLines.{events_few, served-next, served-fault, refused-says}
use Rattle.sbp_command.specs.Headline.{RunEnds, run_command, status_of}
use Rattle.sbp_command.proofs.LegalRuns.{run_legal}
use Rattle.sbp_command.proofs.Media.{left_by_notes}
use Rattle.sbp_command.proofs.Scripts.{GoesOn, IsCommand, Tells, faulty, script_ends}
use Rattle.sbp_command.proofs.Wires.{entries_few, has_run}

tells_by : (start media : Held) (happened : List (ℕ × Event)) (text : List ℕ) (o : Option WorldState) → length happened ≤ 65536 → AreLegalLines happened → Stands start happened text o media → Tells run_command start happened text media
tells_by start media happened text None few legal h = record {
  notes = [];
  ran = inl (record { events_are = h.events_are; notes_are = refl; media_are = h.media_are });
  text_is = h.text_is;
}
tells_by start media happened text (Some w) few legal h = record {
  notes = journal h.run;
  ran = inr (has_run h.line h.run start media w happened h.start_is h.units_are h.some h.most h.few (entries_few h.line h.run happened h.events_are few) h.events_are h.stands h.lines h.typed (run_legal h.line h.run happened h.events_are legal));
  text_is = h.text_is;
}

tells : (start : Held) (served : List (List ℕ)) (text : List ℕ) (state : RunnerState) (media : Held) → RanSo start served text state media → Tells run_command start (of_lines served).events text media
tells start served text state media h =
    let few = events_few 1 0 served in
    let count = h.count in
    tells_by start media (of_lines served).events text state.world (omega (arith, few, count)) (legal_scripts_law.scripts 1 0 served) h.stands

next : (served : List (List ℕ)) (line : List ℕ) (others : List (List ℕ)) → (of_lines served).fault ≡ None → GoesOn (of_lines served) (of_lines (served ++ line ∷ others))
next served line others clean = record { more = _; events = ap (λ (s : Script). s.events) (served-next served line others clean) }

found : (served : List (List ℕ)) (line : List ℕ) (others : List (List ℕ)) (fault : ℕ) → (of_lines served).fault ≡ None → Refused run_meaning served line fault → of_lines (served ++ line ∷ others) ≡ faulty (of_lines served) (1 + length served) fault
found served line others fault clean refused =
    served-fault served line others fault clean (refused-says (1 + length served) (begun_by 0 (of_lines served).events) line fault refused)

run_is : (start : Held) → IsCommand run_meaning run_command start
run_is start = record {
  of_lines = of_lines;
  script_is = λ input. refl;
  clean = λ served text state media h. h.clean;
  tells = tells start;
  next = next;
  fault = found;
  closed = λ served text media h. h;
  stays = λ old new h. h;
  fits = λ happened notes now h. left_by_notes start now happened notes h;
}

pub run_ends : (status : Status) (before now : Outside) → Ends run_meaning status before now → RunEnds (status_of status) before now
run_ends status before now h = script_ends run_meaning run_command before now (run_is before.media) status h
