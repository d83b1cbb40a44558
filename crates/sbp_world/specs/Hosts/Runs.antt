-- The lists of every initiator over every run of the machine (NCITS 325-1998, ORBs in the memory of the initiator): the run terms of its history
-- are the rows of its slots, after each line, and behind each delivery of a line that delivers one packet after the other. So what the run
-- terms say of its lists is what its slots say.
use Rattle.std.specs.Prelude.{◌<◌, ◌≤◌, ℕ, ◌+◌, ◌^◌, List, ◌∷◌, ◌++◌, length, map, Option, Some, None}
use Rattle.rbc_disk.specs.Runs.{Told}
use Rattle.sbp_journal.specs.Run.{asked, said}
use Rattle.sbp_journal.specs.declared.event.Event.{Event}
use Rattle.sbp_journal.specs.declared.event.Event.TheVariants as events
use Rattle.sbp_world.specs.Histories.{history_of}
use Rattle.sbp_world.specs.Runs.{AreEntries, Run, after, beginning}
use Rattle.sbp_world.specs.Settling.{MayAll, after_all}
use Rattle.sbp_world.specs.Worlds.{begun, initiator_at}
use Rattle.sbp_world.specs.Wire.Lines.{AreLines}
use Rattle.sbp_world.specs.Hosts.Reading.{ReadAs}
use Rattle.sbp_world.specs.Hosts.Worlds.{IsHost}

-- a line of so many deliveries at most, or of all
abbrev pub more_deliveries : Option ℕ → Event
more_deliveries (Some count) = events.Step count
more_deliveries None = events.Settle

-- a run of the machine of up to four initiators and fewer than 2^32 - 2 lines
pub record IsRun (run : Run) : Type 0 where
  pub few : run.initiators ≤ 4
  pub short : length run.entries + 2 < 2 ^ 32
  pub entries : AreEntries (beginning run) run.entries
  pub lines : AreLines run run.entries

pub record RunLaw : Type 0 where
  pub rows : (line : ℕ) (run : Run) → IsRun run → (i : ℕ) → i < run.initiators → IsHost (history_of line run) i (initiator_at (after (beginning run) run.entries).world i)
  pub between : (line : ℕ) (run : Run) → IsRun run → (next : ℕ) (most : Option ℕ) (told : List (Option Told)) → MayAll told (begun (after (beginning run) run.entries)) → (i : ℕ) → i < run.initiators → (let w = (after_all told (begun (after (beginning run) run.entries))).world in IsHost (map said w.fresh ++ asked next (more_deliveries most) ∷ history_of line run) i (initiator_at w i))
  pub reads : (line : ℕ) (run : Run) → IsRun run → (i : ℕ) → i < run.initiators → ReadAs (history_of line run) i (initiator_at (after (beginning run) run.entries).world i).lists.slots
