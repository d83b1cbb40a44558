-- The script of `tasks`: the events of its lines before the first faulty one, and that line's fault.
use Rattle.std.specs.Prelude.{ℕ, ◌==◌, ◌&&◌, Bool, if◌then◌else◌, List, [], ◌∷◌, Option, Some, Result, Ok, Err}
use Rattle.std.specs.Str.Lines.{lines}
use Rattle.sbp_journal.specs.declared.event.Event.{Event}
use Rattle.sbp_journal.specs.declared.event.Event.TheVariants as events
use Rattle.script_text.specs.Script.{Script}
use Rattle.script_runner.specs.Script as run
use Rattle.task_world.specs.Lines.{is_task_line}
use Rattle.sbp_command.specs.QueueLines.{not_here}

-- ---- a line

-- a line of `tasks`, of which one begins the run, by one ready initiator
abbrev pub is_here : Event → Bool
is_here (events.Begin initiators ready) = (initiators == 1) && ready
is_here event = is_task_line event

-- what a line says that has no other fault
abbrev pub found : Result (Option Event) ℕ → Result (Option Event) ℕ
found (Ok (Some event)) = if is_here event then Ok (Some event) else Err not_here
found read = read

-- what a line says, or the number of its fault
abbrev pub heard : ℕ → List ℕ → Result (Option Event) ℕ
heard initiators line = found (run.heard initiators line)

abbrev pub says : ℕ → ℕ → List ℕ → Result (Option Event) ℕ
says number initiators line = found (run.says number initiators line)

-- ---- the lines

-- the events before the first that is none of `tasks`, and that line's fault, or else the script's own
abbrev pub here_from : List (ℕ × Event) → Option (ℕ × ℕ) → Script
here_from [] fault = record { events = []; fault = fault }
here_from ((number, event) ∷ rest) fault =
    if is_here event
    then record { events = (number, event) ∷ (here_from rest fault).events; fault = (here_from rest fault).fault }
    else record { events = []; fault = Some (number, not_here) }

abbrev pub here : Script → Script
here s = here_from s.events s.fault

-- whole lines, which are counted from 1
abbrev pub of_lines : List (List ℕ) → Script
of_lines served = here (run.of_lines served)

abbrev pub task_script : List ℕ → Script
task_script bytes = of_lines (lines bytes)
