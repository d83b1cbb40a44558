-- A run of the machine: how it began, and for each line after that its event, what was told in it and its notes.
use Rattle.std.specs.Prelude.{◌≡◌, ℕ, Bool, List, [], ◌∷◌, Option}
use Rattle.rbc_disk.specs.Held.{Held}
use Rattle.rbc_disk.specs.Runs.{Told}
use Rattle.sbp_journal.specs.declared.event.Event.{Event}
use Rattle.sbp_journal.specs.declared.event.Event.TheVariants as events
use Rattle.sbp_journal.specs.declared.note.Note.{Note}
use Rattle.sbp_world.specs.Lines.{Happens, MayHappen, happens}
use Rattle.sbp_world.specs.Making.{new_world}
use Rattle.sbp_world.specs.Settling.{HasSettled}
use Rattle.sbp_world.specs.Worlds.{Scene}

-- a line, with what the commands told that ran in it and its notes, the latest one of both first
pub record Entry : Type 0 where
  pub line : ℕ
  pub event : Event
  pub told : List (Option Told)
  pub notes : List Note

abbrev pub entry : ℕ → Event → List (Option Told) → List Note → Entry
entry line event told notes = record { line = line; event = event; told = told; notes = notes }

-- how many initiators and units there are, whether the initiators are logged in, what the media held at the start with their counts of
-- faults, and the lines after the first, the latest one first
pub record Run : Type 0 where
  pub initiators : ℕ
  pub ready : Bool
  pub units : ℕ
  pub start : Held
  pub entries : List Entry

abbrev pub with_entry : Run → Entry → Run
with_entry run line = record run { entries = line ∷ run.entries }

abbrev pub first_scene : ℕ → Bool → ℕ → Held → Scene
first_scene initiators ready units start = record { world = new_world initiators ready units; media = start }

abbrev pub beginning : Run → Scene
beginning run = first_scene run.initiators run.ready run.units run.start

-- the scene after some lines
abbrev pub after : Scene → List Entry → Scene
after s [] = s
after s (e ∷ before) = happens e.line e.event e.told (after s before)

-- A line from a scene: it may have told this, and these are its notes.
pub record IsNext (e : Entry) (s : Scene) : Type 0 where
  pub may : MayHappen e.event e.told s
  pub notes_are : e.notes ≡ (happens e.line e.event e.told s).world.fresh

abbrev pub AreEntries : Scene → List Entry → Type 0
AreEntries s [] = Unit {0}
AreEntries s (e ∷ before) = IsNext e (after s before) × AreEntries s before

-- A world and its media stand for a run.
pub record StandsFor (run : Run) (s : Scene) : Type 0 where
  pub state : s ≡ after (beginning run) run.entries
  pub lines : AreEntries (beginning run) run.entries

-- A new world stands for the run before any line after `begin`, over any media.
abbrev pub BeginsLaw : Type 0
BeginsLaw =
    (initiators : ℕ) (ready : Bool) (units : ℕ) (start : Held) → StandsFor (record { initiators = initiators; ready = ready; units = units; start = start; entries = [] }) (first_scene initiators ready units start)

-- What a step of a world does, whatever run it stands for: it stands afterwards for that run with one entry more, and its notes are those of the entry.
abbrev pub GoesOnLaw : Type 0
GoesOnLaw =
    (run : Run) (line : ℕ) (event : Event) (old new : Scene) → StandsFor run old → (h : Happens line event old new) → StandsFor (with_entry run (entry line event h.told new.world.fresh)) new

-- A `settle` is a line like the others.
abbrev pub SettlesLaw : Type 0
SettlesLaw =
    (run : Run) (line : ℕ) (done : Bool) (old new : Scene) → StandsFor run old → (h : HasSettled done old new) → StandsFor (with_entry run (entry line events.Settle h.told new.world.fresh)) new
