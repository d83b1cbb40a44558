-- What a drill has come to, line by line.
use Rattle.std.specs.Prelude.{◌≡◌, ℕ, ◌+◌, ◌<◌, ◌≤◌, List, [], ◌++◌, length}
use Rattle.std.specs.List.{AllByRecursion}
use Rattle.rbc_disk.specs.Held.{Held}
use Rattle.sbp_journal.specs.declared.event.Event.{Event}
use Rattle.sbp_world.specs.Forms.{AreTyped}
use Rattle.sbp_world.specs.Lines.{IsEvent}
use Rattle.sbp_world.specs.Runs.{Run, StandsFor}
use Rattle.sbp_world.specs.Worlds.{WorldState}
use Rattle.sbp_world.specs.Wire.Lines.{AreLines, IsLine}
use Rattle.drill_text.specs.Tally.{TallyState, tally_of}
use Rattle.script_runner.specs.Events.{events_of, journal, numbered_from}
use Rattle.script_runner.specs.Runner.{scene_of}

-- The world and the media stand for a run of the machine up to a line, behind which these events are left of all; and its journal was
-- tallied, of notes inside their types. Each line is one of the wire, and there are as many as their number says.
pub record InDrill (start : Held) (all : List Event) (line : ℕ) (left : List Event) (tally : TallyState) (world : WorldState) (media : Held) : Type 0 where
  pub run : Run
  pub start_is : run.start ≡ start
  pub units_are : run.units ≡ length start.disks
  pub some : 0 < run.units
  pub most : run.units ≤ 4
  pub few : run.initiators ≤ 4
  pub events_are : events_of 1 run ++ numbered_from (line + 1) left ≡ numbered_from 1 all
  pub tally_is : tally ≡ tally_of (journal run)
  pub stands : StandsFor run (scene_of world media)
  pub lines : AreLines run run.entries
  pub typed : AllByRecursion AreTyped run.entries
  pub count : length run.entries + 1 ≡ line

-- The lines that are left are such as a run of two initiators takes, and lines of the wire; with those before they are 20,001 at most.
pub record AreLeft (line : ℕ) (left : List Event) (initiators : ℕ) : Type 0 where
  pub two : initiators ≡ 2
  pub few : line + length left ≤ 20001
  pub fit : AllByRecursion (λ event. IsEvent event 2) left
  pub lines : AllByRecursion (λ event. IsLine event 2) left

-- All was run: no line is left of at most 20,001.
pub record Drilled (start : Held) (all : List Event) (tally : TallyState) (media : Held) : Type 0 where
  pub line : ℕ
  pub world : WorldState
  pub few : line ≤ 20001
  pub done : InDrill start all line [] tally world media
