-- The script of `run`, line by line.
use Rattle.std.proofs.Common.{◌≡◌, ◌≢◌, ◌∙◌, refl, sym, ap, ℕ, suc, ◌+◌, ◌≤◌, nat_lt, Bool, true, false, if◌then◌else◌, List, [], ◌∷◌, ◌++◌, length, Option, Some, None, Result, Ok, Err, append-nil, add-zero, arith}
use Rattle.std.proofs.lemmas.Bool.{le-ltb}
use Rattle.sbp_journal.specs.declared.event.Event.{Event}
use Rattle.script_text.specs.Line.{reading}
use Rattle.script_text.specs.Script.{Script, fault_number, initiators_after, line_says, numbered, onto_script, script_from}
use Rattle.script_words.specs.declared.fault.LineFault.{LineFault as ScriptFault}
use Rattle.script_words.specs.declared.fault.LineFault.TheVariants as script_faults
use Rattle.line_session.specs.Lines.{limit_fault, too_many, too_long}
use Rattle.line_session.specs.Meaning.{RefusedFor}
use Rattle.script_runner.specs.Script.{Hears, begun_by, error_of, heard, of_lines, says}

-- one script behind another
abbrev pub behind : Script → Script → Script
behind first second = record { events = first.events ++ second.events; fault = second.fault }

onto_script-behind : (n : ℕ) (said : Result (Option Event) ℕ) (first second : Script) → (onto_script n said first).fault ≡ None → onto_script n said (behind first second) ≡ behind (onto_script n said first) second
onto_script-behind n (Ok None) first second h = refl
onto_script-behind n (Ok (Some event)) first second h = refl
onto_script-behind n (Err fault) first second h = cc h

onto_script-none : (n : ℕ) (said : Result (Option Event) ℕ) (first : Script) → (onto_script n said first).fault ≡ None → first.fault ≡ None
onto_script-none n (Ok None) first h = h
onto_script-none n (Ok (Some event)) first h = h
onto_script-none n (Err fault) first h = cc h

-- how many initiators the run has behind lines: what their events say
onto_script-begun : (n i : ℕ) (said : Result (Option Event) ℕ) (first : Script) → (onto_script n said first).fault ≡ None → begun_by (initiators_after i said) first.events ≡ begun_by i (onto_script n said first).events
onto_script-begun n i (Ok None) first h = refl
onto_script-begun n i (Ok (Some event)) first h = refl
onto_script-begun n i (Err fault) first h = absurd (cc)

pub begun_by-more : (i : ℕ) (happened : List (ℕ × Event)) (line : ℕ × Event) → begun_by i (happened ++ line ∷ []) ≡ initiators_after (begun_by i happened) (Ok (Some line.1))
begun_by-more i [] line = refl
begun_by-more i (first ∷ rest) line = begun_by-more (initiators_after i (Ok (Some first.1))) rest line

-- no more events than lines
onto_few : (n count : ℕ) (said : Result (Option Event) ℕ) (rest : Script) → length rest.events ≤ count → length (onto_script n said rest).events ≤ suc count
onto_few n count (Ok None) rest few = omega (arith, few)
onto_few n count (Ok (Some event)) rest few = omega (arith, few)
onto_few n count (Err fault) rest few = omega arith

pub events_few : (n i : ℕ) (ls : List (List ℕ)) → length (script_from n i ls).events ≤ length ls
events_few n i [] = omega arith
events_few n i (line ∷ ls) =
    let said = line_says n line i in
    onto_few n (length ls) said (script_from (suc n) (initiators_after i said) ls) (events_few (suc n) (initiators_after i said) ls)

-- behind lines without a fault the script goes on
script_from-append : (n i : ℕ) (ls ms : List (List ℕ)) → (script_from n i ls).fault ≡ None → script_from n i (ls ++ ms) ≡ behind (script_from n i ls) (script_from (n + length ls) (begun_by i (script_from n i ls).events) ms)
script_from-append n i [] ms h = ap (λ number. script_from number i ms) (sym (add-zero n))
script_from-append n i (line ∷ ls) ms h =
    let moved : suc n + length ls ≡ n + suc (length ls) = omega arith in
    let said = line_says n line i in
    let first = script_from (suc n) (initiators_after i said) ls in
    ap (onto_script n said) (script_from-append (suc n) (initiators_after i said) ls ms (onto_script-none n said first h))
    ∙ onto_script-behind n said first (script_from (suc n + length ls) (begun_by (initiators_after i said) first.events) ms) h
    ∙ ap (λ number. behind (onto_script n said first) (script_from number (begun_by (initiators_after i said) first.events) ms)) moved
    ∙ ap (λ b. behind (onto_script n said first) (script_from (n + suc (length ls)) b ms)) (onto_script-begun n i said first h)

-- the next line behind lines without a fault
pub served-next : (served : List (List ℕ)) (line : List ℕ) (others : List (List ℕ)) → (of_lines served).fault ≡ None
    → of_lines (served ++ line ∷ others) ≡ behind (of_lines served) (script_from (1 + length served) (begun_by 0 (of_lines served).events) (line ∷ others))
served-next served line others h = script_from-append 1 0 served (line ∷ others) h

-- the events of what a line says
abbrev pub said_events : ℕ → Option Event → List (ℕ × Event)
said_events number None = []
said_events number (Some event) = (number, event) ∷ []

said-one : (n : ℕ) (said : Option Event) → onto_script n (Ok said) (record { events = []; fault = None }) ≡ record { events = said_events n said; fault = None }
said-one n None = refl
said-one n (Some event) = refl

-- one more line without a fault
pub served-more : (served : List (List ℕ)) (line : List ℕ) (said : Option Event) → (of_lines served).fault ≡ None → says (1 + length served) (begun_by 0 (of_lines served).events) line ≡ Ok said
    → of_lines (served ++ line ∷ []) ≡ record { events = (of_lines served).events ++ said_events (1 + length served) said; fault = None }
served-more served line said h e =
    served-next served line [] h ∙ ap (behind (of_lines served)) (ap (λ read. onto_script (1 + length served) read (record { events = []; fault = None })) e ∙ said-one (1 + length served) said)

-- a fault stops the script
pub served-fault : (served : List (List ℕ)) (line : List ℕ) (others : List (List ℕ)) (fault : ℕ) → (of_lines served).fault ≡ None → says (1 + length served) (begun_by 0 (of_lines served).events) line ≡ Err fault
    → of_lines (served ++ line ∷ others) ≡ record { events = (of_lines served).events; fault = Some (1 + length served, fault) }
served-fault served line others fault h e =
    let begun = begun_by 0 (of_lines served).events in
    served-next served line others h
    ∙ ap (λ said. behind (of_lines served) (onto_script (1 + length served) said (script_from (suc (1 + length served)) (initiators_after begun said) others))) e
    ∙ ap (λ events. record { events = events; fault = Some (1 + length served, fault) }) (append-nil (of_lines served).events)

-- ---- lines within their limits, and others

pub within_cases : {A : Type 0} (many : Bool) (read : Result A ℕ) → many ≡ false → (if many then Err too_many else read) ≡ read
within_cases true read e = cc e
within_cases false read e = refl

pub says-within : (n i : ℕ) (line : List ℕ) → n ≤ 65536 → says n i line ≡ heard i line
says-within n i line few = within_cases (nat_lt 65536 n) (numbered (reading line i)) (le-ltb 65536 n few)

pub reading-long : (line : List ℕ) (initiators : ℕ) → nat_lt 8192 (length line) ≡ true → reading line initiators ≡ Err script_faults.TooLong
reading-long line initiators e = rw e refl

heard-long : (i : ℕ) (line : List ℕ) → nat_lt 8192 (length line) ≡ true → numbered (reading line i) ≡ Err too_long
heard-long i line e = ap numbered (reading-long line i e)

pub refused_cases : {A : Type 0} (many long : Bool) (read : Result A ℕ) (fault : ℕ) → (long ≡ true → read ≡ Err too_long)
    → RefusedFor (if many then Some too_many else if long then Some too_long else None) ((if many then Err too_many else read) ≡ Err fault) fault
    → (if many then Err too_many else read) ≡ Err fault
refused_cases true long read fault h r = ap Err (sym r)
refused_cases false true read fault h r = h refl ∙ ap Err (sym r)
refused_cases false false read fault h r = r

-- a line that is refused says its fault
pub refused-says : (n i : ℕ) (line : List ℕ) (fault : ℕ) → RefusedFor (limit_fault n line) (says n i line ≡ Err fault) fault → says n i line ≡ Err fault
refused-says n i line fault r = refused_cases (nat_lt 65536 n) (nat_lt 8192 (length line)) (numbered (reading line i)) fault (heard-long i line) r

-- ---- the errors of lines

abbrev pub read_error : {A : Type 0} → ScriptFault → Result A ScriptFault
read_error fault = Err fault

-- a fault that was read is told by its number
pub hears_fault : {A B : Type 0} (fault : ScriptFault) (numbers : Result A ScriptFault → Result (Option B) ℕ) (read : Result A ScriptFault) → ((other : ScriptFault) → numbers (Err other) ≡ Err (fault_number other))
    → (read_error {A = A} fault ≢ Err script_faults.NoMemory → read_error fault ≡ read) → Hears (Err (error_of fault)) (numbers read)
hears_fault script_faults.TooLong numbers read by h = ap numbers (sym (h (λ e. absurd (cc)))) ∙ by script_faults.TooLong
hears_fault script_faults.Unknown numbers read by h = ap numbers (sym (h (λ e. absurd (cc)))) ∙ by script_faults.Unknown
hears_fault script_faults.Shape numbers read by h = ap numbers (sym (h (λ e. absurd (cc)))) ∙ by script_faults.Shape
hears_fault script_faults.Range numbers read by h = ap numbers (sym (h (λ e. absurd (cc)))) ∙ by script_faults.Range
hears_fault script_faults.Place numbers read by h = ap numbers (sym (h (λ e. absurd (cc)))) ∙ by script_faults.Place
hears_fault script_faults.NoInitiator numbers read by h = ap numbers (sym (h (λ e. absurd (cc)))) ∙ by script_faults.NoInitiator
hears_fault script_faults.Byte numbers read by h = ap numbers (sym (h (λ e. absurd (cc)))) ∙ by script_faults.Byte
hears_fault script_faults.NoMemory numbers read by h = tt

-- the fault of a line that was read
pub hears : (fault : ScriptFault) (i : ℕ) (line : List ℕ) → (read_error {A = Option Event} fault ≢ Err script_faults.NoMemory → read_error fault ≡ reading line i) → Hears (Err (error_of fault)) (heard i line)
hears fault i line h = hears_fault fault numbered (reading line i) (λ other. refl) h
