-- The script of a drill.
use Rattle.std.specs.Prelude.{ℕ, zero, suc, ◌+◌, ◌%◌, ◌==◌, ◌||◌, Bool, true, if◌then◌else◌, List, [], ◌∷◌, ◌++◌}
use Rattle.sbp_journal.specs.declared.event.Event.{Event}
use Rattle.sbp_journal.specs.declared.event.Event.TheVariants as events
use Rattle.script_text.specs.Draws.{turn}

-- a settle, where one is due
abbrev pub settle : Bool → List Event
settle due = if due then events.Settle ∷ [] else []

-- it is due behind each sixteenth line and behind the last one
abbrev pub is_due : ℕ → ℕ → Bool
is_due line left = (line % 16 == 0) || (left == 0)

-- the lines that are left, counted from `line` on
unfoldable pub turns : ℕ → ℕ → ℕ → List Event
turns zero line x = []
turns (suc left) line x = (turn x).event ∷ (settle (is_due line left) ++ turns left (line + 1) (turn x).state)

-- the first line, where it is still to come
abbrev pub start : Bool → List Event
start begun = if begun then [] else events.Begin 2 true ∷ []

-- what is left of a drill
abbrev pub events_left : Bool → Bool → ℕ → ℕ → ℕ → List Event
events_left begun due left line x = start begun ++ (settle due ++ turns left line x)

-- the generated script: `count` lines from a seed
abbrev pub generated : ℕ → ℕ → List Event
generated seed count = events.Begin 2 true ∷ turns count 1 seed
