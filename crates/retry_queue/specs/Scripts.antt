-- The scripts of a queue: what their lines may say, and the journal of a queue by the lines of its script, each with what the world told in it.
use Rattle.std.specs.Prelude.{◌≡◌, ℕ, IsTrue, true, List, [], ◌∷◌, ◌++◌, map, reverse, Option, Some, None}
use Rattle.sbp_journal.specs.declared.event.Event.{Event}
use Rattle.sbp_journal.specs.declared.event.Event.TheVariants as events
use Rattle.sbp_journal.specs.declared.note.Note.{Note}
use Rattle.sbp_world.specs.Making.{notes_begin}
use Rattle.sbp_world.specs.Wire.Lines.{IsLine}
use Rattle.retry_queue.specs.declared.line.QueueLine.{QueueLine}
use Rattle.retry_queue.specs.declared.line.QueueLine.TheVariants.{Bus, Submit, Pump}
use Rattle.retry_queue.specs.declared.note.QueueNote.{QueueNote}
use Rattle.retry_queue.specs.declared.note.QueueNote.TheVariants as told_notes
use Rattle.retry_queue.specs.Journals.{IsSubmission}
use Rattle.retry_queue.specs.Kept.{asked_by, kept, told}
use Rattle.retry_queue.specs.Lines.{is_bus_line}
use Rattle.retry_queue.specs.Queues.{behind, pumped, step_of, writes}
use Rattle.retry_queue.specs.Steps.{Step, submissions}

-- a line that was served: its number, what it said, and the notes of the world in it, the latest one first
pub record Served : Type 0 where
  pub line : ℕ
  pub said : QueueLine
  pub notes : List Note

-- the event that a line hands to the world behind a journal, if it does one: a pump that of its table
abbrev pub event_in : QueueLine → List Step → Option Event
event_in (Bus event) past = Some event
event_in (Submit lba bytes) past = None
event_in Pump past = pumped (kept past) (writes past)

-- what the queue tells in a line, the latest note first: the notes of the world, with each `written` behind its `taken`; the number of a
-- submission, which are counted from 0; or that a pump is idle
abbrev pub told_in : QueueLine → Option Event → List Note → List Step → List QueueNote
told_in (Submit lba bytes) event notes past = told_notes.Submit (submissions past) lba bytes ∷ []
told_in said None notes past = told_notes.Idle ∷ []
told_in said (Some event) notes past = told (asked_by event) notes (kept past)

-- the journal with these steps more
abbrev pub with_line : List Step → ℕ → Option Event → List QueueNote → List Step
with_line past line None fresh = map step_of fresh ++ past
with_line past line (Some event) fresh = behind past line event fresh

abbrev pub fresh_in : Served → List Step → List QueueNote
fresh_in served past = told_in served.said (event_in served.said past) served.notes past

abbrev pub with_served : Served → List Step → List Step
with_served served past = with_line past served.line (event_in served.said past) (fresh_in served past)

-- the journal of some lines, the latest one first
abbrev pub journal : List Served → List Step
journal [] = []
journal (served ∷ before) = with_served served (journal before)

-- what the lines say, and what the queue tells in them, in their order
abbrev pub said_in : List Served → List (ℕ × QueueLine)
said_in [] = []
said_in (served ∷ before) = said_in before ++ (served.line, served.said) ∷ []

abbrev pub notes_in : List Served → List QueueNote
notes_in [] = []
notes_in (served ∷ before) = notes_in before ++ reverse (fresh_in served (journal before))

-- the line that begins a run
abbrev pub beginning_line : QueueLine
beginning_line = Bus (events.Begin 1 true)

abbrev pub first_served : ℕ → Served
first_served line = record { line = line; said = beginning_line; notes = notes_begin 1 true ∷ [] }

-- ---- which lines there may be

-- the event of a line of the bus
pub record IsOfBus (event : Event) : Type 0 where
  pub bus : IsTrue (is_bus_line event)
  pub line : IsLine event 1

-- what a line may say in a run that has begun
abbrev pub MaySay : QueueLine → Type 0
MaySay (Bus event) = IsOfBus event
MaySay (Submit lba bytes) = IsSubmission lba bytes
MaySay Pump = Unit {0}

-- The first line begins the run, and each other one says what it may say.
abbrev pub AreServed : List Served → Type 0
AreServed [] = ⊥
AreServed (served ∷ []) = served ≡ first_served served.line
AreServed (served ∷ other ∷ before) = MaySay served.said × AreServed (other ∷ before)
