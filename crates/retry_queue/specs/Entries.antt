-- Where an ORB is appended in the notes of a line: first, by the line's CMD, and by no other line. And what the lines of a queue bring by
-- this.
use Rattle.std.specs.Prelude.{◌≡◌, ◌⊎◌, ℕ, Bool, true, false, List, [], ◌∷◌, ◌++◌, reverse, None}
use Rattle.rbc_disk.specs.Disk.{Disk}
use Rattle.sbp_journal.specs.Run.{Moment, asked, said}
use Rattle.sbp_journal.specs.declared.event.Cmd.{Cmd}
use Rattle.sbp_journal.specs.declared.event.Action.TheVariants as actions
use Rattle.sbp_journal.specs.declared.event.Event.{Event}
use Rattle.sbp_journal.specs.declared.event.Event.TheVariants as events
use Rattle.sbp_journal.specs.declared.note.Note.{Note}
use Rattle.sbp_journal.specs.declared.note.Note.TheVariants as notes
use Rattle.sbp_laws.specs.ActionLaw.{Brings}
use Rattle.sbp_laws.specs.Actions.{buffer_of, new_list, new_number}
use Rattle.sbp_laws.specs.Lists.{present_list, waits_in}
use Rattle.sbp_laws.specs.OrderLaw.{IsNextAppend}
use Rattle.sbp_laws.specs.Turns.{EachMoment}
use Rattle.retry_queue.specs.Steps.{EachStep, Step, of_world, told, world}
use Rattle.retry_queue.specs.Journals.{BroughtAt, MadeAt}

abbrev pub is_append : Note → Bool
is_append (notes.Append i n k cdb buffer) = true
is_append _ = false

abbrev pub AppendNone : List Note → Type 0
AppendNone [] = Unit {0}
AppendNone (note ∷ rest) = (is_append note ≡ false) × AppendNone rest

-- the first note is the append, of the CMD and behind what stood before the line, and the only one
pub record AppendsFirst (past : List Moment) (i : ℕ) (cmd : Cmd) (brought : List Note) : Type 0 where
  pub rest : List Note
  pub is : brought ≡ notes.Append i (new_list past i) (new_number past i) cmd.cdb (buffer_of cmd) ∷ rest
  pub alone : AppendNone rest

-- the notes of a line, in the order of time
abbrev pub AppendsSo : List Moment → Event → List Note → Type 0
AppendsSo past (events.Act i (actions.Append cmd)) brought = AppendNone brought ⊎ AppendsFirst past i cmd brought
AppendsSo past (events.Act i (actions.Put cmd)) brought = AppendNone brought ⊎ AppendsFirst past i cmd brought
AppendsSo past event brought = AppendNone brought

-- So does each line whose notes the action law allows.
abbrev pub AppendsComeFirst : Type 0
AppendsComeFirst = (disks : List Disk) (past : List Moment) (line : ℕ) (event : Event) (brought : List Note) → Brings disks past line event brought → AppendsSo past event brought

-- ---- the steps of a line: its notes, the latest one first, and among them what is told of submissions
abbrev pub AreStepsOf : List Step → List Note → Type 0
AreStepsOf [] [] = Unit {0}
AreStepsOf [] (note ∷ earlier) = ⊥
AreStepsOf (of_world (said said_note) ∷ steps) (note ∷ earlier) = (said_note ≡ note) × AreStepsOf steps earlier
AreStepsOf (told number status ∷ steps) earlier = AreStepsOf steps earlier
AreStepsOf _ earlier = ⊥

-- what each note stands on, by the laws of runs: an append is the next one of its list, a status is taken of an ORB that waits, and a run
-- begins before its lists do
abbrev pub StandsAt : Moment → List Moment → Type 0
StandsAt (said (notes.Begin initiators ready)) past = present_list past 0 ≡ None
StandsAt (said (notes.Append i n k cdb buffer)) past = IsNextAppend past i n k
StandsAt (said (notes.Taken i n k status answer)) past = waits_in past i n k ≡ true
StandsAt moment past = Unit {0}

-- the events of a queue: its initiator alone acts, and puts no ORB without an append
abbrev pub IsQueueEvent : Event → Type 0
IsQueueEvent (events.Act i (actions.Put cmd)) = ⊥
IsQueueEvent (events.Act i action) = i ≡ 0
IsQueueEvent event = Unit {0}

-- a line behind a journal: its event, its notes and its steps
pub record IsLineOf (disks : List Disk) (before : List Step) (line : ℕ) (event : Event) (notes : List Note) (steps : List Step) : Type 0 where
  pub own : IsQueueEvent event
  pub brings : Brings disks (world before) line event (reverse notes)
  pub steps_are : AreStepsOf steps notes
  pub made : EachStep MadeAt (steps ++ of_world (asked line event) ∷ before)
  pub stands : EachMoment StandsAt (world (steps ++ of_world (asked line event) ∷ before))

-- What the world brings by a line is what is asked of journals.
abbrev pub LinesBring : Type 0
LinesBring = (disks : List Disk) (before : List Step) (line : ℕ) (event : Event) (notes : List Note) (steps : List Step) → IsLineOf disks before line event notes steps → EachStep BroughtAt before
    → EachStep BroughtAt (steps ++ of_world (asked line event) ∷ before)
