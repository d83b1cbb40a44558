-- What a run of the machine over the events of a script is.
use Rattle.std.specs.Prelude.{◌≡◌, ◌⊎◌, ◌<◌, ◌≤◌, ℕ, List, [], length, reverse}
use Rattle.std.specs.List.{AllByRecursion}
use Rattle.rbc_disk.specs.Held.{Held}
use Rattle.sbp_journal.specs.declared.event.Event.{Event}
use Rattle.sbp_journal.specs.declared.note.Note.{Note}
use Rattle.sbp_journal.specs.Text.{text_of}
use Rattle.sbp_journal.specs.Written.{IsWritten}
use Rattle.media_laws.specs.Media.{LeavesMedia, media_after}
use Rattle.sbp_world.specs.Completing.Deaths.{AreLegal}
use Rattle.sbp_world.specs.Completing.Done.{AllRungComplete}
use Rattle.sbp_world.specs.Histories.{history_of}
use Rattle.sbp_world.specs.Hosts.Runs.{IsRun}
use Rattle.sbp_world.specs.Lists.OwnLogins.{IsTame}
use Rattle.sbp_world.specs.Runs.{AreEntries, Run, after, beginning}
use Rattle.sbp_world.specs.Wire.Journal.{journal_run}
use Rattle.sbp_world.specs.Wire.States.{AreOpenLists, AreStates}
use Rattle.turn_laws.specs.LawfulRuns.{IsLawfulRun}
use Rattle.script_runner.specs.Events.{events_of, journal}

-- A run of a machine of up to four initiators, with one to four units and a medium for each, whose lines are those of the wire.
pub record IsMachine (run : Run) : Type 0 where
  pub is : IsRun run
  pub some : 0 < run.units
  pub most : run.units ≤ 4
  pub size : length run.start.disks ≡ run.units

-- A run of the machine, over exactly these events and from what the media held at first: its notes, and what it leaves of the media. That is
-- what the notes alone say of them: each medium holds what the disk fold gives, and each failing run raised its count. The run is
-- lawful, and its commands are legal, so that what a law of runs says of legal commands holds of it; and where nobody injected packets, each rung ORB completes, behind each line. The terms of its journal are the states of the nodes as it ends. Its notes are written so that their text
-- determines them: no other notes of such a form have it.
pub record HasRun (start : Held) (happened : List (ℕ × Event)) (notes : List Note) (now : Held) : Type 0 where
  pub line : ℕ
  pub run : Run
  pub start_is : run.start ≡ start
  pub units_are : run.units ≡ length start.disks
  pub machine : IsMachine run
  pub lines_are : AreEntries (beginning run) run.entries
  pub events_are : events_of line run ≡ happened
  pub notes_are : notes ≡ journal run
  pub media_are : now ≡ (after (beginning run) run.entries).media
  pub media_fit : now ≡ media_after (reverse notes) start
  pub leaves : LeavesMedia start (history_of line run) now
  pub lawful : IsLawfulRun line run
  pub legal : AreLegal (history_of line run)
  pub rung : IsTame (history_of line run) → AllRungComplete start.disks (journal_run line run).entries
  pub states : AreStates start.disks (history_of line run) (after (beginning run) run.entries)
  pub open_lists : AreOpenLists start.disks (history_of line run) (after (beginning run) run.entries).world
  pub written : AllByRecursion IsWritten notes
  pub by_text : (others : List Note) → AllByRecursion IsWritten others → text_of others ≡ text_of notes → others ≡ notes

-- No run begins: there is no event and no note, and the media are as they were.
pub record HasNone (start : Held) (happened : List (ℕ × Event)) (notes : List Note) (now : Held) : Type 0 where
  pub events_are : happened ≡ []
  pub notes_are : notes ≡ []
  pub media_are : now ≡ start

-- what the machine does over some events
abbrev pub Runs : Held → List (ℕ × Event) → List Note → Held → Type 0
Runs start happened notes now = HasNone start happened notes now ⊎ HasRun start happened notes now
