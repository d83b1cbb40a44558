-- The laws of the wire over every run of a world: each line of it is a list of moves of the wire.
use Rattle.std.specs.Prelude.{◌≡◌, ◌≤◌, ◌<◌, ℕ, suc, ◌+◌, ◌^◌, Bool, true, false, List, [], ◌∷◌, ◌++◌, length, map, sum, slice_index_or}
use Rattle.std.specs.List.{All}
use Rattle.sbp_initiator.specs.Acting.{IsAction}
use Rattle.sbp_world.specs.FitInitiator.{BytesAction}
use Rattle.rbc_disk.specs.Runs.{answer_length_of, data_length_of}
use Rattle.sbp_journal.specs.Run.{Moment, asked, said, history}
use Rattle.sbp_journal.specs.declared.event.Action.{Action}
use Rattle.sbp_journal.specs.declared.event.Action.TheVariants as actions
use Rattle.sbp_journal.specs.declared.event.Cmd.{Cmd}
use Rattle.sbp_journal.specs.declared.event.Event.{Event}
use Rattle.sbp_journal.specs.declared.event.Event.TheVariants as events
use Rattle.sbp_world.specs.Histories.{history_of, moments_behind}
use Rattle.sbp_world.specs.Making.{new_world}
use Rattle.sbp_world.specs.Runs.{AreEntries, Entry, Run, after, beginning}
use Rattle.sbp_world.specs.Worlds.{WorldState}
use Rattle.sbp_laws.specs.Lawful.{injectors}
use Rattle.sbp_laws.specs.OnTheBus.{FormedOnTheBus}
use Rattle.sbp_world.specs.Wire.History.{IsOfWire}
use Rattle.sbp_world.specs.Wire.Journal.{journal_run}
use Rattle.sbp_world.specs.Wire.Wires.{Stands}

-- the physical IDs of a reset: one from 0 to 62 for each node, and no two the same
pub record HasIds (physical : List ℕ) (nodes : ℕ) : Type 0 where
  pub count : length physical ≡ nodes
  pub small : (i : ℕ) → i < length physical → slice_index_or physical i 0 ≤ 62
  pub apart : (i j : ℕ) → i < length physical → j < length physical → slice_index_or physical i 0 ≡ slice_index_or physical j 0 → i ≡ j

-- A command fills its buffer, whether its unit is a bay or not (NCITS 325-1998, data descriptor): to the target it brings as many data as its command
-- block says; to the initiator as many bytes as the answer to that block has are brought; and its segments, where it has any, make up the buffer.
pub record FillsBuffer (cmd : Cmd) : Type 0 where
  pub payload : cmd.to_initiator ≡ false → length cmd.payload ≡ cmd.length
  pub segments : 0 < length cmd.segments → sum cmd.segments ≡ cmd.length
  pub brought : (is_bay : Bool) → cmd.to_initiator ≡ false → data_length_of is_bay cmd.cdb ≡ cmd.length
  pub answered : (is_bay : Bool) → cmd.to_initiator ≡ true → answer_length_of is_bay cmd.cdb ≡ cmd.length

-- so do the commands of an action; and a login and a query name one of the units that a line may name
abbrev pub FillsAction : Action → Type 0
FillsAction (actions.Put cmd) = FillsBuffer cmd
FillsAction (actions.Append cmd) = FillsBuffer cmd
FillsAction (actions.Login unit reconnect exclusive password) = unit < 4
FillsAction (actions.Query unit) = unit < 4
FillsAction _ = Unit {0}

-- The event of a line that is not the first, in a run of so many initiators: its numbers are in the ranges of a line's fields, its bytes are
-- below 256, a unit is one of four, and a command fills its buffer.
abbrev pub IsLine : Event → (initiators : ℕ) → Type 0
IsLine (events.Begin initiators ready) n = ⊥
IsLine (events.Act initiator action) n = (initiator < n) × BytesAction action × IsAction action × FillsAction action
IsLine (events.Reset physical) n = HasIds physical (suc n)
IsLine (events.See node) n = node ≤ n
IsLine (events.Inject initiator bytes) n = (initiator < n) × All (λ byte. byte < 256) bytes
IsLine _ n = Unit {0}

-- A world stands so behind some lines of a run, whose history has the laws of the wire.
pub record StandsAfter (line : ℕ) (run : Run) (entries : List Entry) (w : WorldState) : Type 0 where
  pub past : List Moment
  pub stands : Stands past w
  pub is : map said w.fresh ++ past ≡ moments_behind line run entries
  pub has_laws : IsOfWire (moments_behind line run entries)

abbrev pub AreLines : Run → List Entry → Type 0
AreLines run [] = Unit {0}
AreLines run (e ∷ before) = IsLine e.event (length (after (beginning run) before).world.initiators) × AreLines run before

-- A new world stands for a wire that moves lead to; the history of such a world has the laws of the wire; and so has that of every run of up
-- to four initiators and of fewer than 2^32 - 2 lines.
pub record RunLaw : Type 0 where
  pub begins : (line initiators : ℕ) (ready : Bool) (units : ℕ) → initiators ≤ 4 → Stands (asked line (events.Begin initiators ready) ∷ []) (new_world initiators ready units)
  pub has_laws : (past : List Moment) (w : WorldState) → Stands past w → IsOfWire (map said w.fresh ++ past)
  pub runs : (line : ℕ) (run : Run) → run.initiators ≤ 4 → length run.entries + 2 < 2 ^ 32 → AreEntries (beginning run) run.entries → AreLines run run.entries → StandsAfter line run run.entries (after (beginning run) run.entries).world

-- The history of a run of the machine is that of its journal. And such a run, over as many media as it has units, has the part of the laws that is
-- of the bus, for the initiators that injected no packets: the form of its notes, the once law, and what each line of the bus brings.
pub record BusLaw : Type 0 where
  pub tie : (line : ℕ) (run : Run) → history (journal_run line run).entries ≡ history_of line run
  pub lawful : (line : ℕ) (run : Run) → run.initiators ≤ 4 → run.units ≡ length run.start.disks → length run.entries + 2 < 2 ^ 32 → AreEntries (beginning run) run.entries → AreLines run run.entries → FormedOnTheBus (injectors (history_of line run)) (journal_run line run)
