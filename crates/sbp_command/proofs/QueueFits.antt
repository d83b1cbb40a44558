-- What a line of `queue` says is what it may say: the beginning before a run has begun, and one of `queue` then.
use Rattle.std.proofs.Common.{◌≡◌, ◌∙◌, refl, ap, subst, ℕ, ◌≤◌, ◌==◌, nat_lt, Bool, true, false, not, cond, List, [], ◌∷◌, drop, length, codes, bytes_eq, Option, Some, None, Result, Ok, Err, arith}
use Rattle.std.specs.Prelude.{IfOk, IfSome}
use Rattle.std.specs.List.{list_all}
use Rattle.std.proofs.lemmas.Bool.{eqb-true}
use Rattle.sbp_journal.specs.declared.event.Event.{Event}
use Rattle.sbp_journal.specs.declared.event.Event.TheVariants as events
use Rattle.script_words.specs.declared.fault.LineFault.{LineFault}
use Rattle.script_words.specs.declared.fault.LineFault.TheVariants as faults
use Rattle.script_words.specs.Words.{◌>>=◌, number, word_at, words}
use Rattle.script_words.specs.Payload.{bytes_of, pieces}
use Rattle.script_text.specs.declared.column.Column.TheVariants.{Number, Data}
use Rattle.script_text.specs.Rows.{take_all}
use Rattle.script_text.specs.Line as lines
use Rattle.sbp_world.specs.Wire.Lines.{IsLine}
use Rattle.retry_queue.specs.declared.line.QueueLine.{QueueLine}
use Rattle.retry_queue.specs.declared.line.QueueLine.TheVariants.{Bus}
use Rattle.retry_queue.specs.Lines.{bus_line, is_queue_line, own, placed, pumping, reading, reading_by, some_line, submission, written}
use Rattle.retry_queue.specs.Queues.{QueueState}
use Rattle.retry_queue.specs.Scripts.{IsOfBus, MaySay, beginning_line}
use Rattle.script_runner.specs.Runner.{HasBytes, IsBeginning}
use Rattle.script_runner.proofs.Fits.{are_blocks, both, line_begins, line_is, then_fits, within}
use Rattle.sbp_command.specs.QueueLines.{is_here}
use Rattle.sbp_command.specs.QueueRunner.{MaySayIn, initiators_in}

-- ---- one step after another

-- what holds where the first step finds no fault
then_holds : {A B : Type 0} (Q : A → Type 0) (P : B → Type 0) (r : Result A LineFault) (f : A → Result B LineFault) → IfOk r Q → ((a : A) → Q a → IfOk (f a) P) → IfOk (r >>= f) P
then_holds Q P (Ok a) f q k = k a q
then_holds Q P (Err fault) f q k = tt

either_holds : {A : Type 0} (P : A → Type 0) (t : Bool) (a b : Result A LineFault) → IfOk a P → IfOk b P → IfOk (cond t a b) P
either_holds P true a b p q = p
either_holds P false a b p q = q

-- where a line says something that is here, that
abbrev Holds : (QueueLine → Type 0) → Option QueueLine → Type 0
Holds P said = IfSome said (λ said. is_here said ≡ true → P said)

own_holds : (P : QueueLine → Type 0) (place : Result (Unit {0}) LineFault) (read : Result QueueLine LineFault) → IfOk read P → IfOk (own place read) (Holds P)
own_holds P (Ok done) read h = then_holds P (Holds P) read some_line h (λ said p here. p)
own_holds P (Err fault) read h = tt

bus_holds : (P : QueueLine → Type 0) (read : Result (Option Event) LineFault) → ((event : Event) → read ≡ Ok (Some event) → is_queue_line event ≡ true → P (Bus event)) → IfOk (bus_line read) (Holds P)
bus_holds P (Ok None) h = tt
bus_holds P (Ok (Some event)) h = λ here. h event refl here
bus_holds P (Err fault) h = tt

-- by the words of the line
reading_holds : (P : QueueLine → Type 0) (ws : List (List ℕ)) (line : List ℕ) (i : ℕ) → IfOk (own (placed line i) (submission (drop 1 ws))) (Holds P) → IfOk (own (placed line i) (pumping (drop 1 ws))) (Holds P)
    → IfOk (bus_line (lines.reading line i)) (Holds P) → IfOk (reading_by ws line i) (Holds P)
reading_holds P ws line i submits pumps others =
    either_holds (Holds P) (bytes_eq (word_at ws 0) (codes "submit")) (own (placed line i) (submission (drop 1 ws))) (cond (bytes_eq (word_at ws 0) (codes "pump")) (own (placed line i) (pumping (drop 1 ws))) (bus_line (lines.reading line i))) submits
    (either_holds (Holds P) (bytes_eq (word_at ws 0) (codes "pump")) (own (placed line i) (pumping (drop 1 ws))) (bus_line (lines.reading line i)) pumps others)

says_so : (P : QueueLine → Type 0) (read : Result (Option QueueLine) LineFault) (said : QueueLine) → IfOk read (Holds P) → read ≡ Ok (Some said) → is_here said ≡ true → P said
says_so P read said h e here = subst (λ r. IfOk r (Holds P)) e h here

-- ---- a run has begun

-- a write has one to 32 whole blocks
written_fits : (ws : List (List ℕ)) → IfOk (written ws) MaySay
written_fits [] = tt
written_fits (lba ∷ []) = tt
written_fits (lba ∷ content ∷ tail) =
    then_fits MaySay (number 0 4294967295 lba) _ (λ place e. then_fits MaySay (bytes_of (pieces content)) _ (λ bytes k.
    let blocks = are_blocks (pieces content) bytes k in
    let most = (within 0 4294967295 place lba e).1 in
    record { address = omega (arith, most); some = blocks.some; few = blocks.few; whole = blocks.whole }))

submission_fits : (ws : List (List ℕ)) → IfOk (submission ws) MaySay
submission_fits ws = either_holds MaySay (take_all (Number ∷ Data ∷ []) ws) (written ws) (Err faults.Shape) (written_fits ws) tt

pumping_fits : (ws : List (List ℕ)) → IfOk (pumping ws) MaySay
pumping_fits [] = tt
pumping_fits (word ∷ ws) = tt

-- a line of `queue` that begins no run is one of the bus, which has no bytes
of_bus : (event : Event) → is_queue_line event ≡ true → (HasBytes event → IsLine event 1) → IsOfBus event
of_bus (events.Begin initiators ready) e line = absurd (line tt)
of_bus (events.Act initiator action) e line = absurd (cc e)
of_bus (events.Inject initiator bytes) e line = absurd (cc e)
of_bus (events.Key unit key) e line = absurd (cc e)
of_bus (events.Reset physical) e line = record { bus = e; line = line tt }
of_bus (events.See node) e line = record { bus = e; line = line tt }
of_bus (events.Deliver serial) e line = record { bus = e; line = line tt }
of_bus (events.Repeat serial) e line = record { bus = e; line = line tt }
of_bus (events.Lose serial) e line = record { bus = e; line = line tt }
of_bus (events.Timeout serial) e line = record { bus = e; line = line tt }
of_bus (events.Step count) e line = record { bus = e; line = line tt }
of_bus events.Settle e line = record { bus = e; line = line tt }
of_bus events.Tick e line = record { bus = e; line = line tt }

line_fits : (line : List ℕ) → IfOk (reading line 1) (Holds MaySay)
line_fits line =
    reading_holds MaySay (words line) line 1 (own_holds MaySay (placed line 1) (submission (drop 1 (words line))) (submission_fits (drop 1 (words line)))) (own_holds MaySay (placed line 1) (pumping (drop 1 (words line))) (pumping_fits (drop 1 (words line))))
    (bus_holds MaySay (lines.reading line 1) (λ event e here. of_bus event here (line_is line 1 event (omega arith) e)))

-- ---- no run has begun

abbrev Begins : QueueLine → Type 0
Begins said = said ≡ beginning_line

never : (P : QueueLine → Type 0) (line : List ℕ) (read : Result QueueLine LineFault) → IfOk (own (placed line 0) read) (Holds P)
never P line read =
    by (nat_lt 8192 (length line)) (not (list_all lines.is_printable line))
  where
    by : (long strange : Bool) → IfOk (own (cond long (Err faults.TooLong) (cond strange (Err faults.Byte) (Err faults.Place))) read) (Holds P)
    by true strange = tt
    by false true = tt
    by false false = tt

begins_one : (event : Event) → IsBeginning event → is_queue_line event ≡ true → Begins (Bus event)
begins_one (events.Begin initiators ready) h e =
    let is = both (initiators == 1) ready e in
    ap (λ n. Bus (events.Begin n ready)) (eqb-true initiators 1 is.0) ∙ ap (λ r. Bus (events.Begin 1 r)) is.1
begins_one (events.Act initiator action) h e = absurd h
begins_one (events.Inject initiator bytes) h e = absurd h
begins_one (events.Key unit key) h e = absurd h
begins_one (events.Reset physical) h e = absurd h
begins_one (events.See node) h e = absurd h
begins_one (events.Deliver serial) h e = absurd h
begins_one (events.Repeat serial) h e = absurd h
begins_one (events.Lose serial) h e = absurd h
begins_one (events.Timeout serial) h e = absurd h
begins_one (events.Step count) h e = absurd h
begins_one events.Settle h e = absurd h
begins_one events.Tick h e = absurd h

first_fits : (line : List ℕ) → IfOk (reading line 0) (Holds Begins)
first_fits line =
    reading_holds Begins (words line) line 0 (never Begins line (submission (drop 1 (words line)))) (never Begins line (pumping (drop 1 (words line))))
    (bus_holds Begins (lines.reading line 0) (λ event e here. begins_one event (line_begins line event e) here))

-- ---- whether or not

pub may_say : (o : Option QueueState) (line : List ℕ) (said : QueueLine) → reading line (initiators_in o) ≡ Ok (Some said) → is_here said ≡ true → MaySayIn o said
may_say None line said e here = says_so Begins (reading line 0) said (first_fits line) e here
may_say (Some queue) line said e here = says_so MaySay (reading line 1) said (line_fits line) e here

pub initiators_few : (o : Option QueueState) → initiators_in o ≤ 4
initiators_few None = omega arith
initiators_few (Some queue) = omega arith
