-- The script of `run`, line by line.
use Rattle.std.specs.Prelude.{◌≡◌, ℕ, List, [], ◌∷◌, Option, Some, Result, Ok, Err}
use Rattle.sbp_journal.specs.declared.event.Event.{Event}
use Rattle.script_text.specs.Line.{reading}
use Rattle.script_text.specs.Script.{Script, fault_number, initiators_after, line_says, numbered, script_from}
use Rattle.script_words.specs.declared.fault.LineFault.{LineFault as ScriptFault}
use Rattle.script_words.specs.declared.fault.LineFault.TheVariants as script_faults
use Rattle.line_session.specs.declared.serve.LineError.{LineError}
use Rattle.line_session.specs.declared.serve.LineError.TheVariants.{Fault, NoMemory}

-- the script of whole lines, which are counted from 1
abbrev pub of_lines : List (List ℕ) → Script
of_lines served = script_from 1 0 served

-- how many initiators a run has behind some events
abbrev pub begun_by : ℕ → List (ℕ × Event) → ℕ
begun_by initiators [] = initiators
begun_by initiators (line ∷ rest) = begun_by (initiators_after initiators (Ok (Some line.1))) rest

-- what a line says to a run of so many initiators: its event, or nothing, or the number of its fault
abbrev pub says : ℕ → ℕ → List ℕ → Result (Option Event) ℕ
says number initiators line = line_says number line initiators

-- what a line says, whatever its number
abbrev pub heard : ℕ → List ℕ → Result (Option Event) ℕ
heard initiators line = numbered (reading line initiators)

-- why a line of a script gave nothing
abbrev pub error_of : ScriptFault → LineError
error_of script_faults.NoMemory = NoMemory
error_of fault = Fault (fault_number fault)

-- an answer gives that, unless memory was wanting
abbrev pub Hears : {A : Type 0} → Result (Option A) LineError → Result (Option A) ℕ → Type 0
Hears (Ok said) read = read ≡ Ok said
Hears (Err (Fault fault)) read = read ≡ Err fault
Hears (Err NoMemory) read = Unit {0}
