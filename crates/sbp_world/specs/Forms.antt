-- The notes of a run have the form of a journal's notes, so that its text can be written and read back; that they are inside the types of
-- their fields a world says of each line's.
use Rattle.std.specs.Prelude.{ℕ, Bool}
use Rattle.std.specs.List.{AllByRecursion}
use Rattle.sbp_journal.specs.declared.event.Event.{Event}
use Rattle.sbp_journal.specs.Form.{HasForm}
use Rattle.sbp_journal.specs.Written.{IsTyped}
use Rattle.sbp_world.specs.Lines.{Happens}
use Rattle.sbp_world.specs.Making.{new_world}
use Rattle.sbp_world.specs.Runs.{Entry, Run, StandsFor}
use Rattle.sbp_world.specs.Settling.{HasSettled}
use Rattle.sbp_world.specs.Worlds.{Scene, WorldState}

abbrev pub HaveForm : WorldState → Type 0
HaveForm w = AllByRecursion HasForm w.fresh

-- an entry's notes
abbrev pub AreForms : Entry → Type 0
AreForms e = AllByRecursion HasForm e.notes

abbrev pub AreTyped : Entry → Type 0
AreTyped e = AllByRecursion IsTyped e.notes

-- So it is of the line that begins a run, of each line from any scene, and so of every line of a run.
pub record FormLaw : Type 0 where
  pub begins : (initiators : ℕ) (ready : Bool) (units : ℕ) → HaveForm (new_world initiators ready units)
  pub lines : (line : ℕ) (event : Event) (old new : Scene) → Happens line event old new → HaveForm new.world
  pub settles : (done : Bool) (old new : Scene) → HasSettled done old new → HaveForm new.world
  pub runs : (run : Run) (s : Scene) → StandsFor run s → AllByRecursion AreForms run.entries
