-- The script in a list of bytes: the numbered events of the lines before the first faulty one, and that line's fault.
use Rattle.std.specs.Prelude.{ℕ, suc, nat_lt, if◌then◌else◌, List, [], ◌∷◌, Option, Some, None, Result, Ok, Err}
use Rattle.std.specs.Str.Lines.{lines}
use Rattle.sbp_journal.specs.declared.event.Event.{Event}
use Rattle.sbp_journal.specs.declared.event.Event.TheVariants as events
use Rattle.script_words.specs.declared.fault.LineFault.{LineFault}
use Rattle.script_words.specs.declared.fault.LineFault.TheVariants as faults
use Rattle.script_text.specs.Line.{reading}

-- the number by which a fault is told; want of memory is no fault of a line
abbrev pub fault_number : LineFault → ℕ
fault_number faults.TooLong = 1
fault_number faults.Unknown = 3
fault_number faults.Shape = 4
fault_number faults.Range = 5
fault_number faults.Place = 6
fault_number faults.NoInitiator = 7
fault_number faults.Byte = 8
fault_number faults.NoMemory = 0

-- the fault of a line whose number is above 65,536
abbrev pub too_many : ℕ
too_many = 2

-- what a line says, or the number of its fault
abbrev pub numbered : Result (Option Event) LineFault → Result (Option Event) ℕ
numbered (Ok event) = Ok event
numbered (Err fault) = Err (fault_number fault)

abbrev pub line_says : ℕ → List ℕ → ℕ → Result (Option Event) ℕ
line_says number line initiators = if nat_lt 65536 number then Err too_many else numbered (reading line initiators)

-- how many initiators the bus has behind a line
abbrev pub initiators_after : ℕ → Result (Option Event) ℕ → ℕ
initiators_after initiators (Ok (Some (events.Begin n ready))) = n
initiators_after initiators _ = initiators

-- numbered events, and the first faulty line's number and fault
pub record Script : Type 0 where
  pub events : List (ℕ × Event)
  pub fault : Option (ℕ × ℕ)

abbrev pub onto_script : ℕ → Result (Option Event) ℕ → Script → Script
onto_script number (Ok None) rest = rest
onto_script number (Ok (Some event)) rest = record { events = (number, event) ∷ rest.events; fault = rest.fault }
onto_script number (Err fault) rest = record { events = []; fault = Some (number, fault) }

-- the script of lines that are counted from `number` on, on a bus of so many initiators
abbrev pub script_from : ℕ → ℕ → List (List ℕ) → Script
script_from number initiators [] = record { events = []; fault = None }
script_from number initiators (line ∷ rest) =
    let says = line_says number line initiators in
    onto_script number says (script_from (suc number) (initiators_after initiators says) rest)

-- the script in a list of bytes; lines are counted from 1, and no bus stands before the first
abbrev pub script : List ℕ → Script
script bytes = script_from 1 0 (lines bytes)
