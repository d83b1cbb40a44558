-- What `run` does with lines.
use Rattle.std.specs.Prelude.{◌≡◌, ℕ, ◌+◌, ◌<◌, ◌≤◌, List, [], ◌∷◌, length, slice_index, refl, Option, Some, None, Err}
use Rattle.std.specs.List.{All, AllByRecursion}
use Rattle.std.proofs.Math.Nat.{le_refl}
use Rattle.rbc_disk.specs.Held.{Held}
use Rattle.sbp_journal.specs.declared.event.Event.{Event}
use Rattle.sbp_journal.specs.declared.event.Event.TheVariants as events
use Rattle.sbp_journal.specs.Text.{text_of}
use Rattle.sbp_world.specs.Forms.{AreTyped}
use Rattle.sbp_world.specs.Lines.{IsEvent}
use Rattle.sbp_world.specs.Runs.{Run, StandsFor}
use Rattle.sbp_world.specs.Worlds.{Scene, WorldState}
use Rattle.line_session.specs.Meaning.{Meaning}
use Rattle.sbp_world.specs.FitInitiator.{BytesAction}
use Rattle.sbp_world.specs.Wire.Lines.{AreLines, IsLine}
use Rattle.script_runner.specs.Events.{MayLeave, events_of, journal}
use Rattle.script_runner.specs.Script.{begun_by, of_lines, says}

-- how many initiators the run has, none before it begins, and its world
pub record RunnerState : Type 0 where
  pub initiators : ℕ
  pub world : Option WorldState

abbrev pub not_begun : RunnerState
not_begun = record { initiators = 0; world = None }

abbrev pub running : ℕ → WorldState → RunnerState
running initiators world = record { initiators = initiators; world = Some world }

abbrev pub scene_of : WorldState → Held → Scene
scene_of world media = record { world = world; media = media }

-- The world and the media stand for a run of the machine over these events, of one to four units, whose journal has this text and is of
-- notes inside their types.
pub record InRun (start : Held) (happened : List (ℕ × Event)) (text : List ℕ) (world : WorldState) (media : Held) : Type 0 where
  pub line : ℕ
  pub run : Run
  pub start_is : run.start ≡ start
  pub units_are : run.units ≡ length start.disks
  pub some : 0 < run.units
  pub most : run.units ≤ 4
  pub few : run.initiators ≤ 4
  pub events_are : events_of line run ≡ happened
  pub text_is : text ≡ text_of (journal run)
  pub stands : StandsFor run (scene_of world media)
  pub lines : AreLines run run.entries
  pub typed : AllByRecursion AreTyped run.entries

-- No run has begun.
pub record IsIdle (start : Held) (happened : List (ℕ × Event)) (text : List ℕ) (media : Held) : Type 0 where
  pub events_are : happened ≡ []
  pub text_is : text ≡ []
  pub media_are : media ≡ start

abbrev pub Stands : Held → List (ℕ × Event) → List ℕ → Option WorldState → Held → Type 0
Stands start happened text None media = IsIdle start happened text media
Stands start happened text (Some world) media = InRun start happened text world media

-- The lines are as many as there may be, and have no fault, and the world and the media stand for a run over their events, whose journal
-- has this text.
pub record RanSo (start : Held) (served : List (List ℕ)) (text : List ℕ) (state : RunnerState) (media : Held) : Type 0 where
  pub count : length served ≤ 65536
  pub clean : (of_lines served).fault ≡ None
  pub initiators : state.initiators ≡ begun_by 0 (of_lines served).events
  pub stands : Stands start (of_lines served).events text state.world media

-- The world has so many initiators, and a unit for each medium.
pub record GoesOn (initiators : ℕ) (world : WorldState) (media : Held) : Type 0 where
  pub count : length world.initiators ≡ initiators
  pub begun : 0 < initiators
  pub units : length world.target.units ≡ length media.disks

abbrev pub CanGoOn : ℕ → Option WorldState → Held → Type 0
CanGoOn initiators None media = initiators ≡ 0
CanGoOn initiators (Some world) media = GoesOn initiators world media

-- There are one to four media, and the world, if there is one, can go on over them.
pub record CanRun (state : RunnerState) (media : Held) : Type 0 where
  pub some : 1 ≤ length media.disks
  pub few : length media.disks ≤ 4
  pub world : CanGoOn state.initiators state.world media

-- an event that begins a run
abbrev pub IsBeginning : Event → Type 0
IsBeginning (events.Begin initiators ready) = (1 ≤ initiators) × (initiators ≤ 4)
IsBeginning _ = ⊥

-- what may happen: a run begins once, and then it goes on
abbrev pub MayHappenIn : Option WorldState → Event → Type 0
MayHappenIn None event = IsBeginning event
MayHappenIn (Some world) event = IsEvent event (length world.initiators)

-- the bytes of an event are below 256
abbrev pub HasBytes : Event → Type 0
HasBytes (events.Act initiator action) = BytesAction action
HasBytes (events.Inject initiator bytes) = All (λ byte. byte < 256) bytes
HasBytes _ = Unit {0}

-- what happens in a world is a line of the wire
abbrev pub IsLineIn : Option WorldState → Event → Type 0
IsLineIn None event = Unit {0}
IsLineIn (Some world) event = IsLine event (length world.initiators)

abbrev pub run_meaning : Meaning RunnerState
run_meaning = record {
  ready = λ number state media. CanRun state media;
  ran = RanSo;
  refuses = λ served line fault. says (1 + length served) (begun_by 0 (of_lines served).events) line ≡ Err fault;
  closed = λ served text start media. (state : RunnerState) × RanSo start served text state media;
  stays = MayLeave;
  stays_same = λ media. record { count = refl; fell = record { each = λ unit. le_refl (slice_index media.faults unit) } };
}
