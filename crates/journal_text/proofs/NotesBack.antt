-- The words of a line, read back as its note: one reader for each keyword.
use Rattle.std.proofs.Common.{◌≡◌, ◌==◌, ◌<◌, ◌^◌, ◌⊎◌, inl, inr, ℕ, zero, suc, Bool, true, false, cond, List, [], ◌∷◌, ◌++◌, map, drop, get_or, codes, bytes_eq, Option, Some, None, refl, sym, ap, lit<, subst, append-nil, arith}
use Rattle.std.specs.List.{AllByRecursion}
use Rattle.std.specs.Int.{IsInRange}
use Rattle.std.specs.Fmt.{decimal}
use Rattle.std.proofs.lemmas.Bool.Decides.{nat_tests}
use Rattle.rbc_command.specs.declared.sense.Sense.{Sense}
use Rattle.orb_layout.specs.declared.ask.FailCause.{FailCause}
use Rattle.orb_layout.specs.declared.ask.FailCause.TheVariants as fail_causes
use Rattle.orb_layout.specs.declared.status.StatusKind.{StatusKind}
use Rattle.orb_layout.specs.declared.status.StatusKind.TheVariants.{Good, Check, Dummy, Aborted, Illegal, Failed, Management}
use Rattle.sbp_journal.specs.declared.cause.Cause.{Cause}
use Rattle.sbp_journal.specs.declared.cause.Cause.TheVariants as causes
use Rattle.sbp_journal.specs.declared.cause.CutCause.{CutCause}
use Rattle.sbp_journal.specs.declared.cause.CutCause.TheVariants as cut_causes
use Rattle.sbp_journal.specs.declared.note.Note.{Note}
use Rattle.sbp_journal.specs.declared.note.Note.TheVariants as notes
use Rattle.sbp_journal.specs.declared.note.NoteBuffer.{NoteBuffer}
use Rattle.sbp_journal.specs.declared.note.NoteBuffer.TheVariants.{Nothing, In, Out}
use Rattle.sbp_journal.specs.declared.operation.FunctionWord.{FunctionWord}
use Rattle.sbp_journal.specs.declared.operation.FunctionWord.TheVariants as functions
use Rattle.sbp_journal.specs.declared.operation.Operation.{Operation}
use Rattle.sbp_journal.specs.declared.operation.Operation.TheVariants as operations
use Rattle.sbp_journal.specs.declared.operation.OpWord.{OpWord}
use Rattle.sbp_journal.specs.declared.operation.OpWord.TheVariants as op_words
use Rattle.sbp_journal.specs.Form.{IsStatus, IsAnswer, IsCheck}
use Rattle.line_text.specs.Fields.{Field, maybe, node_name, word}
use Rattle.sbp_journal.specs.Text.{mode, cause_word, cut_word, fail_word, function_word, operation_word, status_fields, check_fields, end_fields, answer_fields, buffer_fields, login_fields, words_of}
use Rattle.sbp_journal.specs.Written.{Fits, IsWritten}
use Rattle.sbp_journal.proofs.LineWords.{answer_status}
use Rattle.journal_text.proofs.FieldsBack.{number_of, number_back, decimal_digits, unhex, unhex_back, byte_in, byte_back, sense_of, sense_back}
use Rattle.journal_text.proofs.CanonicalBack.{canonical_from, canonical_back}

-- ---- fixed words

-- what a word stands for in a table, else the last entry's meaning
abbrev look : {A : Type 0} → A → List (List ℕ × A) → List ℕ → A
look other [] text = other
look other (entry ∷ entries) text = cond (bytes_eq text entry.0) entry.1 (look other entries text)

abbrev mode_of : List ℕ → Bool
mode_of text = bytes_eq text (codes "ready")

mode_back : (ready : Bool) → mode_of (mode ready) ≡ ready
mode_back true = refl
mode_back false = refl

abbrev cause_of : List ℕ → Cause
cause_of text = look causes.Slot ((codes "generation", causes.Generation) ∷ (codes "grammar", causes.Grammar) ∷ (codes "label", causes.Label) ∷ (codes "again", causes.Again) ∷ (codes "source", causes.Source) ∷ (codes "login", causes.Login) ∷ []) text

cause_back : (cause : Cause) → cause_of (cause_word cause) ≡ cause
cause_back causes.Generation = refl
cause_back causes.Grammar = refl
cause_back causes.Label = refl
cause_back causes.Again = refl
cause_back causes.Source = refl
cause_back causes.Login = refl
cause_back causes.Slot = refl

abbrev cut_of : List ℕ → CutCause
cut_of text = look cut_causes.Reset ((codes "agentreset", cut_causes.AgentReset) ∷ (codes "abortset", cut_causes.AbortSet) ∷ (codes "unitreset", cut_causes.UnitReset) ∷ (codes "targetreset", cut_causes.TargetReset) ∷ (codes "logout", cut_causes.Logout) ∷ []) text

cut_back : (cause : CutCause) → cut_of (cut_word cause) ≡ cause
cut_back cut_causes.AgentReset = refl
cut_back cut_causes.AbortSet = refl
cut_back cut_causes.UnitReset = refl
cut_back cut_causes.TargetReset = refl
cut_back cut_causes.Logout = refl
cut_back cut_causes.Reset = refl

abbrev fail_of : List ℕ → FailCause
fail_of text = look fail_causes.Grammar ((codes "timeout", fail_causes.Timeout) ∷ (codes "label", fail_causes.Label) ∷ (codes "refused", fail_causes.Refused) ∷ []) text

fail_back : (cause : FailCause) → fail_of (fail_word cause) ≡ cause
fail_back fail_causes.Timeout = refl
fail_back fail_causes.Label = refl
fail_back fail_causes.Refused = refl
fail_back fail_causes.Grammar = refl

abbrev function_of : List ℕ → FunctionWord
function_of text = look functions.Other ((codes "login", functions.Login) ∷ (codes "query", functions.Query) ∷ (codes "reconnect", functions.Reconnect) ∷ (codes "logout", functions.Logout) ∷ (codes "abort", functions.Abort) ∷ (codes "abortset", functions.AbortSet) ∷ (codes "lureset", functions.UnitReset) ∷ (codes "treset", functions.TargetReset) ∷ []) text

function_back : (function : FunctionWord) → function_of (function_word function) ≡ function
function_back functions.Login = refl
function_back functions.Query = refl
function_back functions.Reconnect = refl
function_back functions.Logout = refl
function_back functions.Abort = refl
function_back functions.AbortSet = refl
function_back functions.UnitReset = refl
function_back functions.TargetReset = refl
function_back functions.Other = refl

abbrev operation_of : List ℕ → Operation
operation_of text = look operations.Enable ((codes "rom", operations.Rom) ∷ (codes "login", operations.Login) ∷ (codes "query", operations.Query) ∷ (codes "reconnect", operations.Reconnect) ∷ (codes "logout", operations.Logout) ∷ (codes "abort", operations.Abort) ∷ (codes "abortset", operations.AbortSet) ∷ (codes "lureset", operations.UnitReset) ∷ (codes "treset", operations.TargetReset) ∷ (codes "agentreset", operations.AgentReset) ∷ (codes "state", operations.State) ∷ []) text

operation_back : (operation : Operation) → operation_of (operation_word operation) ≡ operation
operation_back operations.Rom = refl
operation_back operations.Login = refl
operation_back operations.Query = refl
operation_back operations.Reconnect = refl
operation_back operations.Logout = refl
operation_back operations.Abort = refl
operation_back operations.AbortSet = refl
operation_back operations.UnitReset = refl
operation_back operations.TargetReset = refl
operation_back operations.AgentReset = refl
operation_back operations.State = refl
operation_back operations.Enable = refl

-- ---- numbers among other words

-- a number is no word that begins with a byte that is no digit
no_number : (c : ℕ) (rest text : List ℕ) → (c < 48) ⊎ (57 < c) → AllByRecursion (IsInRange 48 57) text → bytes_eq text (c ∷ rest) ≡ false
no_number c rest [] out h = refl
no_number c rest (byte ∷ text) out h = rw (apart byte c h.0 out) refl
  where
    apart : (byte c : ℕ) → IsInRange 48 57 byte → (c < 48) ⊎ (57 < c) → (byte == c) ≡ false
    apart byte c k out = elim out [ inl l ↦ grind (arith, nat_tests) | inr l ↦ grind (arith, nat_tests) ]

abbrev maybe_of : List ℕ → Option ℕ
maybe_of text = cond (bytes_eq text (codes "-")) None (Some (number_of text))

maybe_back : (n : Option ℕ) → Fits (maybe n) → maybe_of (word (maybe n)) ≡ n
maybe_back None h = refl
maybe_back (Some n) h = rw (no_number 45 [] (decimal n) (inl (lit< tt)) (decimal_digits n h), number_back n h) refl

abbrev node_of : List ℕ → ℕ
node_of text = cond (bytes_eq text (codes "t")) 0 (suc (number_of text))

node_back : (n : ℕ) → n < 2 ^ 64 → node_of (word (node_name n)) ≡ n
node_back zero h = refl
node_back (suc n) h = let less : n < 2 ^ 64 = omega arith in rw (no_number 116 [] (decimal n) (inr (lit< tt)) (decimal_digits n less), number_back n less) refl

abbrev unit_of : List ℕ → ℕ
unit_of text = number_of (drop 1 text)

-- ---- statuses, checks and ends

abbrev at : List (List ℕ) → ℕ → List ℕ
at ws place = get_or ws place []

abbrev status_of : List (List ℕ) → StatusKind
status_of ws = look Failed ((codes "good", Good) ∷ (codes "check", Check (sense_of (at ws 1))) ∷ (codes "dummy", Dummy) ∷ (codes "aborted", Aborted) ∷ (codes "illegal", Illegal (byte_in (at ws 1))) ∷ []) (at ws 0)

-- words behind those of a status do not change it
status_back : (status : StatusKind) (rest : List Field) → IsStatus status → AllByRecursion Fits (status_fields status) → status_of (map word (status_fields status ++ rest)) ≡ status
status_back Good rest h k = refl
status_back (Check sense) rest h k = ap Check (sense_back sense h k.1.0.0 k.1.0.1)
status_back Dummy rest h k = refl
status_back Aborted rest h k = refl
status_back (Illegal meaning) rest h k = ap Illegal (byte_back meaning k.1.0.0)
status_back Failed rest h k = refl
status_back (Management meaning) rest h k = absurd h

abbrev check_of : List (List ℕ) → Option Sense
check_of ws = cond (bytes_eq (at ws 0) (codes "good")) None (Some (sense_of (at ws 1)))

check_back : (check : Option Sense) → IsCheck check → AllByRecursion Fits (check_fields check) → check_of (map word (check_fields check)) ≡ check
check_back None h k = refl
check_back (Some sense) h k = ap Some (sense_back sense h k.1.0.0 k.1.0.1)

abbrev answer_of : List (List ℕ) → List ℕ
answer_of [] = []
answer_of (text ∷ ws) = canonical_from text

abbrev answer_from : StatusKind → List (List ℕ) → List ℕ
answer_from Good ws = answer_of (drop 1 ws)
answer_from _ ws = []

answer_back : (status : StatusKind) (answer : List ℕ) → IsAnswer status answer → AllByRecursion Fits (status_fields status ++ answer_fields answer) → answer_from status (map word (status_fields status ++ answer_fields answer)) ≡ answer
answer_back Good [] h k = refl
answer_back Good (byte ∷ answer) h k = canonical_back (byte ∷ answer) k.1.0.0 k.1.0.1
answer_back (Check sense) answer h k = sym h.0
answer_back Dummy answer h k = sym h.0
answer_back Aborted answer h k = sym h.0
answer_back (Illegal meaning) answer h k = sym h.0
answer_back Failed answer h k = sym h.0
answer_back (Management meaning) answer h k = absurd h.1

abbrev count_of : List (List ℕ) → OpWord
count_of [] = op_words.Done
count_of (text ∷ ws) = op_words.Count (maybe_of text)

abbrev end_of : List (List ℕ) → OpWord
end_of ws = look (op_words.State (number_of (at ws 0))) ((codes "done", count_of (drop 1 ws)) ∷ (codes "refused", op_words.Refused (byte_in (at ws 1))) ∷ (codes "conflict", op_words.Conflict) ∷ (codes "error", op_words.Error) ∷ (codes "reset", op_words.Reset) ∷ (codes "bad", op_words.Bad (number_of (at ws 1))) ∷ (codes "none", op_words.NoUnit) ∷ []) (at ws 0)

state_back : (value : ℕ) → value < 2 ^ 64 → end_of (map word (end_fields (op_words.State value))) ≡ op_words.State value
state_back value h =
    let ds = decimal_digits value h in
    rw (no_number 100 (codes "one") (decimal value) (inr (lit< tt)) ds, no_number 114 (codes "efused") (decimal value) (inr (lit< tt)) ds, no_number 99 (codes "onflict") (decimal value) (inr (lit< tt)) ds, no_number 101 (codes "rror") (decimal value) (inr (lit< tt)) ds, no_number 114 (codes "eset") (decimal value) (inr (lit< tt)) ds, no_number 98 (codes "ad") (decimal value) (inr (lit< tt)) ds, no_number 110 (codes "one") (decimal value) (inr (lit< tt)) ds, number_back value h) refl

end_back : (end : OpWord) → AllByRecursion Fits (end_fields end) → end_of (map word (end_fields end)) ≡ end
end_back op_words.Done h = refl
end_back (op_words.Refused status) h = ap op_words.Refused (byte_back status h.1.0.0)
end_back op_words.Conflict h = refl
end_back op_words.Error h = refl
end_back op_words.Reset h = refl
end_back (op_words.Count count) h = ap op_words.Count (maybe_back count h.1.0)
end_back (op_words.Bad fault) h = ap op_words.Bad (number_back fault h.1.0)
end_back op_words.NoUnit h = refl
end_back (op_words.State value) h = state_back value h.0

abbrev login_of : List (List ℕ) → Option ℕ
login_of [] = None
login_of (text ∷ ws) = Some (number_of text)

login_back : (login : Option ℕ) → AllByRecursion Fits (login_fields login) → login_of (map word (login_fields login)) ≡ login
login_back None h = refl
login_back (Some n) h = ap Some (number_back n h.0)

abbrev buffer_of : List (List ℕ) → NoteBuffer
buffer_of ws = look Nothing ((codes "in", In (number_of (at ws 1))) ∷ (codes "out", Out (canonical_from (at ws 1))) ∷ []) (at ws 0)

buffer_back : (buffer : NoteBuffer) → AllByRecursion Fits (buffer_fields buffer) → buffer_of (map word (buffer_fields buffer)) ≡ buffer
buffer_back Nothing h = refl
buffer_back (In len) h = ap In (number_back len h.1.0)
buffer_back (Out bs) h = ap Out (canonical_back bs h.1.0.0 h.1.0.1)

plain_status : (status : StatusKind) → IsStatus status → AllByRecursion Fits (status_fields status) → status_of (map word (status_fields status)) ≡ status
plain_status status h k = subst (λ fs. status_of (map word fs) ≡ status) (append-nil (status_fields status)) (status_back status [] h k)

-- what an answer says of its status, and of the words of that
status_of_answer : (status : StatusKind) (answer : List ℕ) → IsAnswer status answer → IsStatus status
status_of_answer status answer h = answer_status status answer h

front_fits : (status : StatusKind) (rest : List Field) → AllByRecursion Fits (status_fields status ++ rest) → AllByRecursion Fits (status_fields status)
front_fits Good rest h = (tt, tt)
front_fits (Check sense) rest h = (tt, (h.1.0, tt))
front_fits Dummy rest h = (tt, tt)
front_fits Aborted rest h = (tt, tt)
front_fits (Illegal meaning) rest h = (tt, (h.1.0, tt))
front_fits Failed rest h = (tt, tt)
front_fits (Management meaning) rest h = tt

-- ---- the readers

-- a keyword, and what makes a note of the words behind it
record Reader : Type 0 where
  keyword : List ℕ
  read : List (List ℕ) → Note

abbrev reader : List ℕ → (List (List ℕ) → Note) → Reader
reader text read = record { keyword = text; read = read }

abbrev readers : List Reader
readers =
    reader (codes "begin") (λ ws. notes.Begin (number_of (at ws 0)) (mode_of (at ws 1)))
    ∷ reader (codes "append") (λ ws. notes.Append (number_of (at ws 0)) (number_of (at ws 1)) (number_of (at ws 2)) (unhex (at ws 3)) (buffer_of (drop 4 ws)))
    ∷ reader (codes "low") (λ ws. notes.Low (number_of (at ws 0)) (number_of (at ws 1)) (number_of (at ws 2)))
    ∷ reader (codes "linked") (λ ws. notes.Linked (number_of (at ws 0)) (number_of (at ws 1)) (number_of (at ws 2)))
    ∷ reader (codes "rung") (λ ws. notes.Rung (number_of (at ws 0)) (number_of (at ws 1)) (number_of (at ws 2)))
    ∷ reader (codes "dummied") (λ ws. notes.Dummied (number_of (at ws 0)) (number_of (at ws 1)) (number_of (at ws 2)))
    ∷ reader (codes "sent") (λ ws. notes.Sent (number_of (at ws 0)) (number_of (at ws 1)) (node_of (at ws 2)) (node_of (at ws 3)) (unhex (at ws 4)))
    ∷ reader (codes "injected") (λ ws. notes.Injected (number_of (at ws 0)))
    ∷ reader (codes "got") (λ ws. notes.Got (number_of (at ws 0)))
    ∷ reader (codes "ignored") (λ ws. notes.Ignored (number_of (at ws 0)) (cause_of (at ws 1)))
    ∷ reader (codes "lost") (λ ws. notes.Lost (number_of (at ws 0)))
    ∷ reader (codes "timedout") (λ ws. notes.TimedOut (number_of (at ws 0)))
    ∷ reader (codes "ran") (λ ws. notes.Ran (number_of (at ws 0)) (maybe_of (at ws 1)) (maybe_of (at ws 2)) (unit_of (at ws 3)) (unhex (at ws 4)) (canonical_from (at ws 5)) (check_of (drop 6 ws)))
    ∷ reader (codes "ended") (λ ws. notes.Ended (number_of (at ws 0)) (maybe_of (at ws 1)) (maybe_of (at ws 2)) (status_of (drop 3 ws)))
    ∷ reader (codes "taken") (λ ws. notes.Taken (number_of (at ws 0)) (number_of (at ws 1)) (number_of (at ws 2)) (status_of (drop 3 ws)) (answer_from (status_of (drop 3 ws)) (drop 3 ws)))
    ∷ reader (codes "cut") (λ ws. notes.Cut (number_of (at ws 0)) (maybe_of (at ws 1)) (cut_of (at ws 2)))
    ∷ reader (codes "dead") (λ ws. notes.Dead (number_of (at ws 0)) (maybe_of (at ws 1)) (fail_of (at ws 2)))
    ∷ reader (codes "drop") (λ ws. notes.Drop (number_of (at ws 0)) (number_of (at ws 1)))
    ∷ reader (codes "mgmt") (λ ws. notes.Managed (number_of (at ws 0)) (function_of (at ws 1)) (number_of (at ws 2)) (byte_in (at ws 3)) (login_of (drop 4 ws)))
    ∷ reader (codes "mgmtfail") (λ ws. notes.ManageFailed (number_of (at ws 0)) (fail_of (at ws 1)))
    ∷ reader (codes "held") (λ ws. notes.Held (number_of (at ws 0)))
    ∷ reader (codes "expired") (λ ws. notes.Expired (number_of (at ws 0)))
    ∷ reader (codes "back") (λ ws. notes.Back (number_of (at ws 0)))
    ∷ reader (codes "left") (λ ws. notes.Left (number_of (at ws 0)))
    ∷ reader (codes "cleared") (λ ws. notes.Cleared (number_of (at ws 0)))
    ∷ reader (codes "op") (λ ws. notes.Op (number_of (at ws 0)) (operation_of (at ws 1)) (end_of (drop 2 ws)))
    ∷ reader (codes "stuck") (λ ws. notes.Stuck (number_of (at ws 0)))
    ∷ reader (codes "reset") (λ ws. notes.Reset (number_of (at ws 0)))
    ∷ reader (codes "seen") (λ ws. notes.Seen (node_of (at ws 0)) (number_of (at ws 1)))
    ∷ reader (codes "tick") (λ ws. notes.Tick)
    ∷ reader (codes "refused") (λ ws. notes.Refused (number_of (at ws 0)) (number_of (at ws 1)))
    ∷ reader (codes "settled") (λ ws. notes.Settled)
    ∷ reader (codes "stopped") (λ ws. notes.Stopped)
    ∷ reader (codes "key") (λ ws. notes.Key (number_of (at ws 0)))
    ∷ reader (codes "unsolicited") (λ ws. notes.Unsolicited (number_of (at ws 0)))
    ∷ reader (codes "unsent") (λ ws. notes.Unsent (number_of (at ws 0)))
    ∷ reader (codes "told") (λ ws. notes.Told (number_of (at ws 0)))
    ∷ []

abbrev read_by : List Reader → List ℕ → List (List ℕ) → Note
read_by [] text ws = notes.Tick
read_by (r ∷ rs) text ws = cond (bytes_eq text r.keyword) (r.read ws) (read_by rs text ws)

-- the note of the words of a line
abbrev pub note_of : List (List ℕ) → Note
note_of ws = read_by readers (at ws 0) (drop 1 ws)

pub note_back : (note : Note) → IsWritten note → note_of (words_of note) ≡ note
note_back (notes.Begin n ready) h = rw (number_back n h.1.0, mode_back ready) refl
note_back (notes.Append i l k cdb buffer) h = rw (number_back i h.1.0, number_back l h.1.1.0, number_back k h.1.1.1.0, unhex_back cdb h.1.1.1.1.0, buffer_back buffer h.1.1.1.1.1) refl
note_back (notes.Low i l k) h = rw (number_back i h.1.0, number_back l h.1.1.0, number_back k h.1.1.1.0) refl
note_back (notes.Linked i l k) h = rw (number_back i h.1.0, number_back l h.1.1.0, number_back k h.1.1.1.0) refl
note_back (notes.Rung i l k) h = rw (number_back i h.1.0, number_back l h.1.1.0, number_back k h.1.1.1.0) refl
note_back (notes.Dummied i l k) h = rw (number_back i h.1.0, number_back l h.1.1.0, number_back k h.1.1.1.0) refl
note_back (notes.Sent s g from to bs) h = rw (number_back s h.1.0, number_back g h.1.1.0, node_back from h.1.1.1.0, node_back to h.1.1.1.1.0, unhex_back bs h.1.1.1.1.1.0) refl
note_back (notes.Injected n) h = rw (number_back n h.1.0) refl
note_back (notes.Got n) h = rw (number_back n h.1.0) refl
note_back (notes.Ignored s cause) h = rw (number_back s h.1.0, cause_back cause) refl
note_back (notes.Lost n) h = rw (number_back n h.1.0) refl
note_back (notes.TimedOut n) h = rw (number_back n h.1.0) refl
note_back (notes.Ran i l k u cdb bs check) h = rw (number_back i h.1.0, maybe_back l h.1.1.0, maybe_back k h.1.1.1.0, number_back u h.1.1.1.1.0, unhex_back cdb h.1.1.1.1.1.0, canonical_back bs h.1.1.1.1.1.1.0.0 h.1.1.1.1.1.1.0.1, check_back check h.0 h.1.1.1.1.1.1.1) refl
note_back (notes.Ended i l k status) h = rw (number_back i h.1.0, maybe_back l h.1.1.0, maybe_back k h.1.1.1.0, plain_status status h.0 h.1.1.1.1) refl
note_back (notes.Taken i l k status answer) h = rw (number_back i h.1.0, number_back l h.1.1.0, number_back k h.1.1.1.0, status_back status (answer_fields answer) (status_of_answer status answer h.0) (front_fits status (answer_fields answer) h.1.1.1.1), answer_back status answer h.0 h.1.1.1.1) refl
note_back (notes.Cut i l cause) h = rw (number_back i h.1.0, maybe_back l h.1.1.0, cut_back cause) refl
note_back (notes.Dead i l cause) h = rw (number_back i h.1.0, maybe_back l h.1.1.0, fail_back cause) refl
note_back (notes.Drop i l) h = rw (number_back i h.1.0, number_back l h.1.1.0) refl
note_back (notes.Managed i function subject status login) h = rw (number_back i h.1.0, function_back function, number_back subject h.1.1.1.0, byte_back status h.1.1.1.1.0.0, login_back login h.1.1.1.1.1) refl
note_back (notes.ManageFailed i cause) h = rw (number_back i h.1.0, fail_back cause) refl
note_back (notes.Held n) h = rw (number_back n h.1.0) refl
note_back (notes.Expired n) h = rw (number_back n h.1.0) refl
note_back (notes.Back n) h = rw (number_back n h.1.0) refl
note_back (notes.Left n) h = rw (number_back n h.1.0) refl
note_back (notes.Cleared n) h = rw (number_back n h.1.0) refl
note_back (notes.Op i operation end) h = rw (number_back i h.1.0, operation_back operation, end_back end h.1.1.1) refl
note_back (notes.Stuck n) h = rw (number_back n h.1.0) refl
note_back (notes.Reset n) h = rw (number_back n h.1.0) refl
note_back (notes.Seen node g) h = rw (node_back node h.1.0, number_back g h.1.1.0) refl
note_back notes.Tick h = refl
note_back (notes.Refused line reason) h = rw (number_back line h.1.0, number_back reason h.1.1.0) refl
note_back notes.Settled h = refl
note_back notes.Stopped h = refl
note_back (notes.Key n) h = rw (number_back n h.1.0) refl
note_back (notes.Unsolicited n) h = rw (number_back n h.1.0) refl
note_back (notes.Unsent n) h = rw (number_back n h.1.0) refl
note_back (notes.Told n) h = rw (number_back n h.1.0) refl
