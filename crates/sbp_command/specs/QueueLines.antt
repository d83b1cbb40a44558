-- The script of `queue`: what its lines say before the first faulty one, and that line's fault.
use Rattle.std.specs.Prelude.{ℕ, suc, nat_lt, Bool, true, if◌then◌else◌, List, [], ◌∷◌, Option, Some, None, Result, Ok, Err}
use Rattle.std.specs.Str.Lines.{lines}
use Rattle.sbp_journal.specs.declared.event.Event.TheVariants as events
use Rattle.script_text.specs.Script.{fault_number, too_many}
use Rattle.script_words.specs.declared.fault.LineFault.{LineFault}
use Rattle.retry_queue.specs.Lines.{is_queue_line, reading}
use Rattle.retry_queue.specs.declared.line.QueueLine.{QueueLine}
use Rattle.retry_queue.specs.declared.line.QueueLine.TheVariants.{Bus}

-- ---- a line

-- the fault of a line that has no other one and is none of `queue`
abbrev pub not_here : ℕ
not_here = 11

abbrev pub is_here : QueueLine → Bool
is_here (Bus event) = is_queue_line event
is_here _ = true

abbrev pub found : Option QueueLine → Result (Option QueueLine) ℕ
found None = Ok None
found (Some said) = if is_here said then Ok (Some said) else Err not_here

-- what a line says, or the number of its fault
abbrev pub numbered : Result (Option QueueLine) LineFault → Result (Option QueueLine) ℕ
numbered (Ok said) = found said
numbered (Err fault) = Err (fault_number fault)

abbrev pub heard : ℕ → List ℕ → Result (Option QueueLine) ℕ
heard initiators line = numbered (reading line initiators)

abbrev pub says : ℕ → ℕ → List ℕ → Result (Option QueueLine) ℕ
says number initiators line = if nat_lt 65536 number then Err too_many else heard initiators line

-- ---- the lines

-- how many initiators the run has behind a line
abbrev pub initiators_after : ℕ → Result (Option QueueLine) ℕ → ℕ
initiators_after initiators (Ok (Some (Bus (events.Begin n ready)))) = n
initiators_after initiators _ = initiators

-- and behind what some lines say
abbrev pub begun_by : ℕ → List (ℕ × QueueLine) → ℕ
begun_by initiators [] = initiators
begun_by initiators (line ∷ rest) = begun_by (initiators_after initiators (Ok (Some line.1))) rest

-- what numbered lines say, and the first faulty line's number and fault
pub record QueueScript : Type 0 where
  pub said : List (ℕ × QueueLine)
  pub fault : Option (ℕ × ℕ)

abbrev pub onto_script : ℕ → Result (Option QueueLine) ℕ → QueueScript → QueueScript
onto_script number (Ok None) rest = rest
onto_script number (Ok (Some said)) rest = record { said = (number, said) ∷ rest.said; fault = rest.fault }
onto_script number (Err fault) rest = record { said = []; fault = Some (number, fault) }

-- lines that are counted from `number` on, in a run of so many initiators
abbrev pub script_from : ℕ → ℕ → List (List ℕ) → QueueScript
script_from number initiators [] = record { said = []; fault = None }
script_from number initiators (line ∷ rest) =
    let read = says number initiators line in
    onto_script number read (script_from (suc number) (initiators_after initiators read) rest)

-- whole lines, which are counted from 1; no run has begun before the first
abbrev pub of_lines : List (List ℕ) → QueueScript
of_lines served = script_from 1 0 served

abbrev pub queue_script : List ℕ → QueueScript
queue_script bytes = of_lines (lines bytes)
