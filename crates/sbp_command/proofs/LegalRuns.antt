-- The history of a run of the machine over lines whose commands are legal has legal commands alone.
use Rattle.std.proofs.Common.{◌≡◌, sym, subst, ℕ, List, [], ◌∷◌, ◌++◌, map}
use Rattle.sbp_journal.specs.Run.{Moment, said}
use Rattle.sbp_journal.specs.declared.event.Event.{Event}
use Rattle.sbp_journal.specs.declared.note.Note.{Note}
use Rattle.sbp_journal.proofs.Each.{all_back, all_front}
use Rattle.sbp_world.specs.Completing.Deaths.{AreLegal}
use Rattle.sbp_world.specs.Histories.{history_of, moments_behind}
use Rattle.sbp_world.specs.Runs.{Entry, Run}
use Rattle.script_runner.specs.Events.{events_in, events_of}
use Rattle.script_runner.specs.Legal.{AreLegalLines, IsLegalEvent}

notes_legal : (ns : List Note) (past : List Moment) → AreLegal past → AreLegal (map said ns ++ past)
notes_legal [] past legal = legal
notes_legal (note ∷ ns) past legal = (tt, notes_legal ns past legal)

entries_legal : (line : ℕ) (run : Run) (entries : List Entry) → AreLegalLines (events_in entries) → AreLegal (moments_behind line run entries)
entries_legal line run [] legal = (tt, (tt, tt))
entries_legal line run (e ∷ before) legal =
    let last = all_back (λ (asks : ℕ × Event). IsLegalEvent asks.1) (events_in before) ((e.line, e.event) ∷ []) legal in
    let earlier = all_front (λ (asks : ℕ × Event). IsLegalEvent asks.1) (events_in before) ((e.line, e.event) ∷ []) legal in
    notes_legal e.notes _ (last.0 e.line (moments_behind line run before), entries_legal line run before earlier)

pub run_legal : (line : ℕ) (run : Run) (happened : List (ℕ × Event)) → events_of line run ≡ happened → AreLegalLines happened → AreLegal (history_of line run)
run_legal line run happened events legal = entries_legal line run run.entries (subst AreLegalLines (sym events) legal).1
