-- The script of `tasks`, line by line: it is that of `run`, up to the first line that is not here.
use Rattle.std.proofs.Common.{◌≡◌, ◌∙◌, refl, sym, ap, subst, ℕ, suc, ◌+◌, ◌≤◌, nat_lt, Bool, true, false, if◌then◌else◌, List, [], ◌∷◌, ◌++◌, length, Option, Some, None, Result, Ok, Err, append-nil, arith}
use Rattle.std.specs.Prelude.{IfSome}
use Rattle.sbp_journal.specs.declared.event.Event.{Event}
use Rattle.script_text.specs.Script.{Script, initiators_after, line_says, numbered, onto_script, script_from}
use Rattle.line_session.specs.Lines.{limit_fault, too_long, too_many}
use Rattle.line_session.specs.Meaning.{RefusedFor}
use Rattle.line_session.specs.declared.serve.LineError.{LineError}
use Rattle.line_session.specs.declared.serve.LineError.TheVariants.{Fault, NoMemory}
use Rattle.script_runner.specs.Script as run
use Rattle.script_runner.specs.Script.{Hears, begun_by}
use Rattle.script_runner.proofs.ScriptLines.{behind, reading-long, refused_cases, said_events}
use Rattle.script_runner.proofs.ScriptLines as lines
use Rattle.sbp_command.specs.QueueLines.{not_here}
use Rattle.sbp_command.specs.TaskLines.{found, heard, here, here_from, is_here, of_lines, says}

-- ---- what a line says

-- it is here, if it is an event
abbrev Here : Option Event → Type 0
Here said = IfSome said (λ event. is_here event ≡ true)

found_here : (b : Bool) (event : Event) (said : Option Event) → is_here event ≡ b → (if b then Ok (Some event) else Err not_here) ≡ Ok said → (said ≡ Some event) × Here said
found_here true event said t e = let same : said ≡ Some event = cc e in (same, subst Here (sym same) t)
found_here false event said t e = absurd (cc e)

found_ok : (read : Result (Option Event) ℕ) (said : Option Event) → found read ≡ Ok said → (read ≡ Ok said) × Here said
found_ok (Ok None) None e = (refl, tt)
found_ok (Ok None) (Some event) e = absurd (cc e)
found_ok (Ok (Some event)) said e = let f = found_here (is_here event) event said refl e in (ap Ok (sym f.0), f.1)
found_ok (Err fault) said e = absurd (cc e)

-- a fault of the line itself, or an event that is not here
data Faults (read : Result (Option Event) ℕ) (fault : ℕ) : Type 0 where
  own : read ≡ Err fault → Faults read fault
  other : (event : Event) → read ≡ Ok (Some event) → is_here event ≡ false → fault ≡ not_here → Faults read fault

fault_by : (b : Bool) (event : Event) (fault : ℕ) → is_here event ≡ b → (if b then Ok (Some event) else Err not_here) ≡ Err fault → Faults (Ok (Some event)) fault
fault_by true event fault t e = absurd (cc e)
fault_by false event fault t e = other event refl t (cc e)

found_err : (read : Result (Option Event) ℕ) (fault : ℕ) → found read ≡ Err fault → Faults read fault
found_err (Ok None) fault e = absurd (cc e)
found_err (Ok (Some event)) fault e = fault_by (is_here event) event fault refl e
found_err (Err own_fault) fault e = own (cc e)

-- ---- the events that are here

abbrev whole : List (ℕ × Event) → Option (ℕ × ℕ) → Script
whole events fault = record { events = events; fault = fault }

-- one event more before them
abbrev onto : Bool → ℕ → Event → Script → Script
onto b number event rest =
    if b then record { events = (number, event) ∷ rest.events; fault = rest.fault } else record { events = []; fault = Some (number, not_here) }

onto_few : (b : Bool) (number : ℕ) (event : Event) (rest : Script) (count : ℕ) → length rest.events ≤ count → length (onto b number event rest).events ≤ suc count
onto_few true number event rest count few = omega (arith, few)
onto_few false number event rest count few = omega arith

onto_clean : (b : Bool) (number : ℕ) (event : Event) (rest : Script) → (onto b number event rest).fault ≡ None → (b ≡ true) × (rest.fault ≡ None)
onto_clean true number event rest e = (refl, e)
onto_clean false number event rest e = absurd (cc e)

-- without a fault all are here
pub all_here : (events : List (ℕ × Event)) (fault : Option (ℕ × ℕ)) → (here_from events fault).fault ≡ None → (here_from events fault ≡ whole events None) × (fault ≡ None)
all_here [] fault e = (ap (whole []) e, e)
all_here ((number, event) ∷ rest) fault e =
    let c = onto_clean (is_here event) number event (here_from rest fault) e in
    let more = all_here rest fault c.1 in
    (ap (λ b. onto b number event (here_from rest fault)) c.0 ∙ ap (onto true number event) more.0, more.1)

-- then those behind them are found by themselves
here_behind : (events more : List (ℕ × Event)) (fault : Option (ℕ × ℕ)) → (here_from events None).fault ≡ None → here_from (events ++ more) fault ≡ behind (whole events None) (here_from more fault)
here_behind [] more fault e = refl
here_behind ((number, event) ∷ rest) more fault e =
    let c = onto_clean (is_here event) number event (here_from rest None) e in
    ap (λ b. onto b number event (here_from (rest ++ more) fault)) c.0 ∙ ap (onto true number event) (here_behind rest more fault c.1)

-- ---- the lines that were served

-- a front without a fault is that of `run`
record IsClean (served : List (List ℕ)) : Type 0 where
  fault : (run.of_lines served).fault ≡ None
  here : (here_from (run.of_lines served).events None).fault ≡ None
  same : of_lines served ≡ whole (run.of_lines served).events None

is_clean : (served : List (List ℕ)) → (of_lines served).fault ≡ None → IsClean served
is_clean served e =
    let s = run.of_lines served in
    let all = all_here s.events s.fault e in
    record {
      fault = all.1;
      here = subst (λ f. (here_from s.events f).fault ≡ None) all.1 e;
      same = all.0;
    }

pub events_few : (served : List (List ℕ)) → (of_lines served).fault ≡ None → length (of_lines served).events ≤ length served
events_few served e = subst (λ (s : Script). length s.events ≤ length served) (sym (is_clean served e).same) (lines.events_few 1 0 served)

-- other lines behind them
next_by : (served : List (List ℕ)) (more : Script) (all : Script) → IsClean served → all ≡ behind (run.of_lines served) more → here all ≡ behind (of_lines served) (here more)
next_by served more all c e =
    ap here e ∙ (here_behind (run.of_lines served).events more.events more.fault c.here ∙ ap (λ (s : Script). behind s (here more)) (sym c.same))

pub served-next : (served : List (List ℕ)) (line : List ℕ) (others : List (List ℕ)) → (of_lines served).fault ≡ None
    → of_lines (served ++ line ∷ others) ≡ behind (of_lines served) (here (script_from (1 + length served) (begun_by 0 (run.of_lines served).events) (line ∷ others)))
served-next served line others e =
    let c = is_clean served e in
    next_by served (script_from (1 + length served) (begun_by 0 (run.of_lines served).events) (line ∷ others)) (run.of_lines (served ++ line ∷ others)) c (lines.served-next served line others c.fault)

-- how many initiators there are behind them
begun_same : (served : List (List ℕ)) → IsClean served → begun_by 0 (of_lines served).events ≡ begun_by 0 (run.of_lines served).events
begun_same served c = ap (λ (s : Script). begun_by 0 s.events) c.same

same_says : (served : List (List ℕ)) (line : List ℕ) (read : Result (Option Event) ℕ) → IsClean served → run.says (1 + length served) (begun_by 0 (of_lines served).events) line ≡ read → run.says (1 + length served) (begun_by 0 (run.of_lines served).events) line ≡ read
same_says served line read c e = ap (λ n. run.says (1 + length served) n line) (sym (begun_same served c)) ∙ e

said_here : (number : ℕ) (said : Option Event) → Here said → here (whole (said_events number said) None) ≡ whole (said_events number said) None
said_here number None h = refl
said_here number (Some event) h = ap (λ b. onto b number event (whole [] None)) h

-- one more line without a fault
pub served-more : (served : List (List ℕ)) (line : List ℕ) (said : Option Event) → (of_lines served).fault ≡ None → says (1 + length served) (begun_by 0 (of_lines served).events) line ≡ Ok said
    → of_lines (served ++ line ∷ []) ≡ whole ((of_lines served).events ++ said_events (1 + length served) said) None
served-more served line said clean e =
    let c = is_clean served clean in
    let f = found_ok (run.says (1 + length served) (begun_by 0 (of_lines served).events) line) said e in
    let read = same_says served line (Ok said) c f.0 in
    next_by served (whole (said_events (1 + length served) said) None) (run.of_lines (served ++ line ∷ [])) c (lines.served-more served line said c.fault read)
    ∙ ap (behind (of_lines served)) (said_here (1 + length served) said f.1)

-- a fault stops the script
other_stops : (number : ℕ) (event : Event) (rest : Script) → is_here event ≡ false → here (onto_script number (Ok (Some event)) rest) ≡ whole [] (Some (number, not_here))
other_stops number event rest t = ap (λ b. onto b number event (here rest)) t

stopped : (served : List (List ℕ)) (line : List ℕ) (others : List (List ℕ)) (fault : ℕ) → IsClean served → (of_lines served).fault ≡ None → Faults (run.says (1 + length served) (begun_by 0 (run.of_lines served).events) line) fault
    → of_lines (served ++ line ∷ others) ≡ whole (of_lines served).events (Some (1 + length served, fault))
stopped served line others fault c clean (own e) =
    next_by served (whole [] (Some (1 + length served, fault))) (run.of_lines (served ++ line ∷ others)) c
    (lines.served-fault served line others fault c.fault e ∙ ap (λ es. whole es (Some (1 + length served, fault))) (sym (append-nil (run.of_lines served).events)))
    ∙ ap (λ es. whole es (Some (1 + length served, fault))) (append-nil (of_lines served).events)
stopped served line others fault c clean (other event e t n) =
    let begun = begun_by 0 (run.of_lines served).events in
    let rest = script_from (suc (1 + length served)) (initiators_after begun (line_says (1 + length served) line begun)) others in
    served-next served line others clean
    ∙ ap (λ (read : Result (Option Event) ℕ). behind (of_lines served) (here (onto_script (1 + length served) read rest))) e
    ∙ ap (behind (of_lines served)) (other_stops (1 + length served) event rest t)
    ∙ ap (λ es. whole es (Some (1 + length served, not_here))) (append-nil (of_lines served).events)
    ∙ ap (λ f. whole (of_lines served).events (Some (1 + length served, f))) (sym n)

pub served-fault : (served : List (List ℕ)) (line : List ℕ) (others : List (List ℕ)) (fault : ℕ) → (of_lines served).fault ≡ None → says (1 + length served) (begun_by 0 (of_lines served).events) line ≡ Err fault
    → of_lines (served ++ line ∷ others) ≡ whole (of_lines served).events (Some (1 + length served, fault))
served-fault served line others fault clean e =
    let c = is_clean served clean in
    stopped served line others fault c clean (found_err (run.says (1 + length served) (begun_by 0 (run.of_lines served).events) line) fault (ap (λ n. says (1 + length served) n line) (sym (begun_same served c)) ∙ e))

-- ---- lines within their limits, and others

pub says-within : (n i : ℕ) (line : List ℕ) → n ≤ 65536 → says n i line ≡ heard i line
says-within n i line few = ap found (lines.says-within n i line few)

heard-long : (i : ℕ) (line : List ℕ) → nat_lt 8192 (length line) ≡ true → heard i line ≡ Err too_long
heard-long i line e = ap (λ read. found (numbered read)) (reading-long line i e)

found_many : (many : Bool) (read : Result (Option Event) ℕ) → found (if many then Err too_many else read) ≡ (if many then Err too_many else found read)
found_many true read = refl
found_many false read = refl

-- a line that is refused says its fault
pub refused-says : (n i : ℕ) (line : List ℕ) (fault : ℕ) → RefusedFor (limit_fault n line) (says n i line ≡ Err fault) fault → says n i line ≡ Err fault
refused-says n i line fault r =
    let same = found_many (nat_lt 65536 n) (run.heard i line) in
    same ∙ refused_cases (nat_lt 65536 n) (nat_lt 8192 (length line)) (heard i line) fault (heard-long i line) (subst (λ (read : Result (Option Event) ℕ). RefusedFor (limit_fault n line) (read ≡ Err fault) fault) same r)

-- ---- what a line was heard to say

-- it is one of `tasks`
pub hears_said : (i : ℕ) (line : List ℕ) (event : Event) → run.heard i line ≡ Ok (Some event) → is_here event ≡ true → heard i line ≡ Ok (Some event)
hears_said i line event e t = ap found e ∙ ap (λ b. if b then Ok (Some event) else Err not_here) t

-- it is none
pub hears_other : (i : ℕ) (line : List ℕ) (event : Event) → run.heard i line ≡ Ok (Some event) → is_here event ≡ false → heard i line ≡ Err not_here
hears_other i line event e t = ap found e ∙ ap (λ b. if b then Ok (Some event) else Err not_here) t

-- it says nothing
pub hears_none : (i : ℕ) (line : List ℕ) → run.heard i line ≡ Ok None → heard i line ≡ Ok None
hears_none i line e = ap found e

-- it has another fault
pub hears_fault : (error : LineError) (i : ℕ) (line : List ℕ) → Hears {A = Event} (Err error) (run.heard i line) → Hears {A = Event} (Err error) (heard i line)
hears_fault (Fault fault) i line e = ap found e
hears_fault NoMemory i line e = tt

-- ---- there are at most as many events as lines

here_few : (events : List (ℕ × Event)) (fault : Option (ℕ × ℕ)) → length (here_from events fault).events ≤ length events
here_few [] fault = omega arith
here_few ((number, event) ∷ rest) fault = onto_few (is_here event) number event (here_from rest fault) (length rest) (here_few rest fault)

pub task_events_few : (served : List (List ℕ)) → length (of_lines served).events ≤ length served
task_events_few served =
    let all = lines.events_few 1 0 served in
    let here = here_few (run.of_lines served).events (run.of_lines served).fault in
    omega (arith, all, here)
