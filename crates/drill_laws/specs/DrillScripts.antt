-- The generated script, as lines of a drill.
use Rattle.std.specs.Prelude.{◌≡◌, ℕ, suc, List, [], ◌∷◌, Option, Some, None}
use Rattle.std.specs.List.{AllByRecursion}
use Rattle.sbp_journal.specs.declared.event.Event.{Event}
use Rattle.sbp_journal.specs.declared.event.Event.TheVariants as events
use Rattle.script_text.specs.Drill.{turns}
use Rattle.drill_laws.specs.DrillLines.{IsDrillLine, append_lines}

-- the last one of some events
abbrev pub last_of : List Event → Option Event
last_of [] = None
last_of (event ∷ []) = Some event
last_of (event ∷ next ∷ rest) = last_of (next ∷ rest)

-- Behind its first line each line of the script is one of a drill; as many of them append as were asked for; and the last one settles, if there is one.
pub record ScriptsAreDrills : Type 0 where
  pub lines : (count line x : ℕ) → AllByRecursion IsDrillLine (turns count line x)
  pub appends : (count line x : ℕ) → append_lines (turns count line x) ≡ count
  pub settles : (count line x : ℕ) → last_of (turns (suc count) line x) ≡ Some events.Settle
