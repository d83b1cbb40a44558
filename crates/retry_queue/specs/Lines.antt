-- What a line of `queue` says: `submit LBA DATA`, `pump`, or what the line says in any other command.
use Rattle.std.specs.Prelude.{ℕ, ◌==◌, ◌&&◌, nat_lt, Bool, true, false, not, if◌then◌else◌, List, [], ◌∷◌, drop, length, codes, bytes_eq, Option, Some, None, Result, Ok, Err}
use Rattle.std.specs.List.{list_all}
use denote.Ref.{Bor}
use Rattle.sbp_journal.specs.declared.event.Event.{Event}
use Rattle.sbp_journal.specs.declared.event.Event.TheVariants as events
use Rattle.script_words.specs.declared.fault.LineFault.{LineFault}
use Rattle.script_words.specs.declared.fault.LineFault.TheVariants as faults
use Rattle.script_words.specs.Words.{◌>>=◌, words, word_at, number}
use Rattle.script_words.specs.Payload.{bytes_of, pieces}
use Rattle.script_text.specs.declared.column.Column.TheVariants.{Number, Data}
use Rattle.script_text.specs.Rows.{take_all}
use Rattle.script_text.specs.Line as lines
use Rattle.retry_queue.specs.declared.line.QueueLine.{QueueLine}
use Rattle.retry_queue.specs.declared.line.QueueLine.TheVariants.{Bus, Submit, Pump}

-- ---- the two lines of `queue` alone

-- no fault of a line that comes before those of its words; they are looked for in this order
abbrev pub placed : List ℕ → ℕ → Result (Unit {0}) LineFault
placed line initiators =
    if nat_lt 8192 (length line) then Err faults.TooLong
    else if not (list_all lines.is_printable line) then Err faults.Byte
    else if initiators == 0 then Err faults.Place else Ok tt

-- a write of the data that a word spells, at the block that another one spells
abbrev pub written : List (List ℕ) → Result QueueLine LineFault
written (lba ∷ content ∷ tail) =
    number 0 4294967295 lba >>= λ lba. bytes_of (pieces content) >>= λ bytes. Ok (Submit lba bytes)
written _ = Err faults.Shape

-- the words behind `submit`
abbrev pub submission : List (List ℕ) → Result QueueLine LineFault
submission ws = if take_all (Number ∷ Data ∷ []) ws then written ws else Err faults.Shape

-- and those behind `pump`: none
abbrev pub pumping : List (List ℕ) → Result QueueLine LineFault
pumping [] = Ok Pump
pumping (word ∷ ws) = Err faults.Shape

abbrev pub some_line : QueueLine → Result (Option QueueLine) LineFault
some_line said = Ok (Some said)

abbrev pub own : Result (Unit {0}) LineFault → Result QueueLine LineFault → Result (Option QueueLine) LineFault
own place says = place >>= λ _. says >>= some_line

-- ---- any line

abbrev pub bus : Option Event → Option QueueLine
bus None = None
bus (Some event) = Some (Bus event)

abbrev pub bus_line : Result (Option Event) LineFault → Result (Option QueueLine) LineFault
bus_line says = says >>= λ event. Ok (bus event)

-- by the words of the line
abbrev pub reading_by : List (List ℕ) → List ℕ → ℕ → Result (Option QueueLine) LineFault
reading_by ws line initiators =
    if bytes_eq (word_at ws 0) (codes "submit") then own (placed line initiators) (submission (drop 1 ws))
    else if bytes_eq (word_at ws 0) (codes "pump") then own (placed line initiators) (pumping (drop 1 ws))
    else bus_line (lines.reading line initiators)

abbrev pub reading : List ℕ → ℕ → Result (Option QueueLine) LineFault
reading line initiators = reading_by (words line) line initiators

-- the words of what stands behind the first blank of a line, if it has one
abbrev pub words_behind : Option (Bor (List ℕ)) → List (List ℕ)
words_behind None = []
words_behind (Some rest) = words rest.now

-- ---- which lines there are

-- the lines of the bus
abbrev pub is_bus_line : Event → Bool
is_bus_line (events.Deliver serial) = true
is_bus_line (events.Repeat serial) = true
is_bus_line (events.Lose serial) = true
is_bus_line (events.Timeout serial) = true
is_bus_line (events.Step count) = true
is_bus_line events.Settle = true
is_bus_line (events.Reset physical) = true
is_bus_line (events.See node) = true
is_bus_line events.Tick = true
is_bus_line _ = false

-- `begin 1 ready`, and those of the bus; a line that has no other fault and is none of these has fault 11
abbrev pub is_queue_line : Event → Bool
is_queue_line (events.Begin initiators ready) = (initiators == 1) && ready
is_queue_line event = is_bus_line event
