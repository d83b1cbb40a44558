-- The script of `queue`, line by line.
use Rattle.std.proofs.Common.{◌≡◌, ◌≢◌, ◌∙◌, refl, sym, ap, ℕ, suc, ◌+◌, ◌≤◌, nat_lt, Bool, true, false, if◌then◌else◌, List, [], ◌∷◌, ◌++◌, drop, length, codes, bytes_eq, Option, Some, None, Result, Ok, Err, append-nil, add-zero, arith}
use Rattle.std.proofs.lemmas.Bool.{le-ltb}
use Rattle.sbp_journal.specs.declared.event.Event.{Event}
use Rattle.script_words.specs.declared.fault.LineFault.{LineFault}
use Rattle.script_words.specs.declared.fault.LineFault.TheVariants as faults
use Rattle.script_words.specs.Words.{words, word_at}
use Rattle.script_text.specs.Line as lines
use Rattle.line_session.specs.Lines.{limit_fault, too_long}
use Rattle.line_session.specs.Meaning.{RefusedFor}
use Rattle.retry_queue.specs.declared.line.QueueLine.{QueueLine}
use Rattle.retry_queue.specs.Lines.{bus_line, own, placed, pumping, reading, reading_by, submission}
use Rattle.script_runner.specs.Script.{Hears, error_of}
use Rattle.script_runner.proofs.ScriptLines.{hears_fault, read_error, reading-long, refused_cases, within_cases}
use Rattle.sbp_command.specs.QueueLines.{QueueScript, begun_by, heard, initiators_after, is_here, not_here, numbered, of_lines, onto_script, says, script_from}

-- one script behind another
abbrev pub behind : QueueScript → QueueScript → QueueScript
behind first second = record { said = first.said ++ second.said; fault = second.fault }

onto_script-behind : (n : ℕ) (read : Result (Option QueueLine) ℕ) (first second : QueueScript) → (onto_script n read first).fault ≡ None → onto_script n read (behind first second) ≡ behind (onto_script n read first) second
onto_script-behind n (Ok None) first second h = refl
onto_script-behind n (Ok (Some said)) first second h = refl
onto_script-behind n (Err fault) first second h = cc h

onto_script-none : (n : ℕ) (read : Result (Option QueueLine) ℕ) (first : QueueScript) → (onto_script n read first).fault ≡ None → first.fault ≡ None
onto_script-none n (Ok None) first h = h
onto_script-none n (Ok (Some said)) first h = h
onto_script-none n (Err fault) first h = cc h

-- how many initiators the run has behind lines: what they say
onto_script-begun : (n i : ℕ) (read : Result (Option QueueLine) ℕ) (first : QueueScript) → (onto_script n read first).fault ≡ None → begun_by (initiators_after i read) first.said ≡ begun_by i (onto_script n read first).said
onto_script-begun n i (Ok None) first h = refl
onto_script-begun n i (Ok (Some said)) first h = refl
onto_script-begun n i (Err fault) first h = absurd (cc)

pub begun_by-more : (i : ℕ) (before : List (ℕ × QueueLine)) (line : ℕ × QueueLine) → begun_by i (before ++ line ∷ []) ≡ initiators_after (begun_by i before) (Ok (Some line.1))
begun_by-more i [] line = refl
begun_by-more i (first ∷ rest) line = begun_by-more (initiators_after i (Ok (Some first.1))) rest line

-- no more is said than there are lines
onto_few : (n count : ℕ) (read : Result (Option QueueLine) ℕ) (rest : QueueScript) → length rest.said ≤ count → length (onto_script n read rest).said ≤ suc count
onto_few n count (Ok None) rest few = omega (arith, few)
onto_few n count (Ok (Some said)) rest few = omega (arith, few)
onto_few n count (Err fault) rest few = omega arith

pub said_few : (n i : ℕ) (ls : List (List ℕ)) → length (script_from n i ls).said ≤ length ls
said_few n i [] = omega arith
said_few n i (line ∷ ls) =
    let read = says n i line in
    onto_few n (length ls) read (script_from (suc n) (initiators_after i read) ls) (said_few (suc n) (initiators_after i read) ls)

-- behind lines without a fault the script goes on
script_from-append : (n i : ℕ) (ls ms : List (List ℕ)) → (script_from n i ls).fault ≡ None → script_from n i (ls ++ ms) ≡ behind (script_from n i ls) (script_from (n + length ls) (begun_by i (script_from n i ls).said) ms)
script_from-append n i [] ms h = ap (λ number. script_from number i ms) (sym (add-zero n))
script_from-append n i (line ∷ ls) ms h =
    let moved : suc n + length ls ≡ n + suc (length ls) = omega arith in
    let read = says n i line in
    let first = script_from (suc n) (initiators_after i read) ls in
    ap (onto_script n read) (script_from-append (suc n) (initiators_after i read) ls ms (onto_script-none n read first h))
    ∙ onto_script-behind n read first (script_from (suc n + length ls) (begun_by (initiators_after i read) first.said) ms) h
    ∙ ap (λ number. behind (onto_script n read first) (script_from number (begun_by (initiators_after i read) first.said) ms)) moved
    ∙ ap (λ b. behind (onto_script n read first) (script_from (n + suc (length ls)) b ms)) (onto_script-begun n i read first h)

-- the next line behind lines without a fault
pub served-next : (served : List (List ℕ)) (line : List ℕ) (others : List (List ℕ)) → (of_lines served).fault ≡ None
    → of_lines (served ++ line ∷ others) ≡ behind (of_lines served) (script_from (1 + length served) (begun_by 0 (of_lines served).said) (line ∷ others))
served-next served line others h = script_from-append 1 0 served (line ∷ others) h

-- what a line says, with its number
abbrev pub said_at : ℕ → Option QueueLine → List (ℕ × QueueLine)
said_at number None = []
said_at number (Some said) = (number, said) ∷ []

said-one : (n : ℕ) (said : Option QueueLine) → onto_script n (Ok said) (record { said = []; fault = None }) ≡ record { said = said_at n said; fault = None }
said-one n None = refl
said-one n (Some said) = refl

-- one more line without a fault
pub served-more : (served : List (List ℕ)) (line : List ℕ) (said : Option QueueLine) → (of_lines served).fault ≡ None → says (1 + length served) (begun_by 0 (of_lines served).said) line ≡ Ok said
    → of_lines (served ++ line ∷ []) ≡ record { said = (of_lines served).said ++ said_at (1 + length served) said; fault = None }
served-more served line said h e =
    served-next served line [] h ∙ ap (behind (of_lines served)) (ap (λ read. onto_script (1 + length served) read (record { said = []; fault = None })) e ∙ said-one (1 + length served) said)

-- a fault stops the script
pub served-fault : (served : List (List ℕ)) (line : List ℕ) (others : List (List ℕ)) (fault : ℕ) → (of_lines served).fault ≡ None → says (1 + length served) (begun_by 0 (of_lines served).said) line ≡ Err fault
    → of_lines (served ++ line ∷ others) ≡ record { said = (of_lines served).said; fault = Some (1 + length served, fault) }
served-fault served line others fault h e =
    let begun = begun_by 0 (of_lines served).said in
    served-next served line others h
    ∙ ap (λ read. behind (of_lines served) (onto_script (1 + length served) read (script_from (suc (1 + length served)) (initiators_after begun read) others))) e
    ∙ ap (λ all. record { said = all; fault = Some (1 + length served, fault) }) (append-nil (of_lines served).said)

-- ---- lines within their limits, and others

pub says-within : (n i : ℕ) (line : List ℕ) → n ≤ 65536 → says n i line ≡ heard i line
says-within n i line few = within_cases (nat_lt 65536 n) (heard i line) (le-ltb 65536 n few)

placed-long : (line : List ℕ) (i : ℕ) → nat_lt 8192 (length line) ≡ true → placed line i ≡ Err faults.TooLong
placed-long line i e = rw e refl

-- whichever words the line begins with
long_cases : (submits pumps : Bool) (place : Result (Unit {0}) LineFault) (write pump : Result QueueLine LineFault) (bus : Result (Option Event) LineFault) → place ≡ Err faults.TooLong → bus ≡ Err faults.TooLong
    → (if submits then own place write else if pumps then own place pump else bus_line bus) ≡ Err faults.TooLong
long_cases true pumps place write pump bus p b = ap (λ x. own x write) p
long_cases false true place write pump bus p b = ap (λ x. own x pump) p
long_cases false false place write pump bus p b = ap bus_line b

queue-long : (ws : List (List ℕ)) (line : List ℕ) (i : ℕ) → nat_lt 8192 (length line) ≡ true → reading_by ws line i ≡ Err faults.TooLong
queue-long ws line i e =
    long_cases (bytes_eq (word_at ws 0) (codes "submit")) (bytes_eq (word_at ws 0) (codes "pump")) (placed line i) (submission (drop 1 ws)) (pumping (drop 1 ws)) (lines.reading line i) (placed-long line i e) (reading-long line i e)

heard-long : (i : ℕ) (line : List ℕ) → nat_lt 8192 (length line) ≡ true → heard i line ≡ Err too_long
heard-long i line e = ap numbered (queue-long (words line) line i e)

-- a line that is refused says its fault
pub refused-says : (n i : ℕ) (line : List ℕ) (fault : ℕ) → RefusedFor (limit_fault n line) (says n i line ≡ Err fault) fault → says n i line ≡ Err fault
refused-says n i line fault r = refused_cases (nat_lt 65536 n) (nat_lt 8192 (length line)) (heard i line) fault (heard-long i line) r

-- ---- what a line was heard to say

pub hears : (fault : LineFault) (i : ℕ) (line : List ℕ) → (read_error {A = Option QueueLine} fault ≢ Err faults.NoMemory → read_error fault ≡ reading line i) → Hears (Err (error_of fault)) (heard i line)
hears fault i line h = hears_fault fault numbered (reading line i) (λ other. refl) h

-- an answer that is no fault was read
pub was_read : (said : Option QueueLine) (i : ℕ) (line : List ℕ) → (Ok said ≢ Err faults.NoMemory → Ok said ≡ reading line i) → reading line i ≡ Ok said
was_read said i line h = sym (h (λ e. absurd (cc e)))

-- it is one of `queue`
pub hears_said : (i : ℕ) (line : List ℕ) (said : QueueLine) → reading line i ≡ Ok (Some said) → is_here said ≡ true → heard i line ≡ Ok (Some said)
hears_said i line said e here = ap numbered e ∙ ap (λ b. if b then Ok (Some said) else Err not_here) here

-- it is none
pub hears_other : (i : ℕ) (line : List ℕ) (said : QueueLine) → reading line i ≡ Ok (Some said) → is_here said ≡ false → heard i line ≡ Err not_here
hears_other i line said e other = ap numbered e ∙ ap (λ b. if b then Ok (Some said) else Err not_here) other

-- it says nothing
pub hears_none : (i : ℕ) (line : List ℕ) → reading line i ≡ Ok None → heard i line ≡ Ok None
hears_none i line e = ap numbered e
