-- The text of a note: one line of words, separated by single blanks.
use Rattle.std.specs.Prelude.{ℕ, Bool, true, false, List, [], ◌∷◌, ◌++◌, map, codes, Option, Some, None}
use Rattle.std.specs.List.{join_with_byte, flat_map}
use Rattle.rbc_command.specs.declared.sense.Sense.{Sense}
use Rattle.orb_layout.specs.declared.ask.FailCause.{FailCause}
use Rattle.orb_layout.specs.declared.ask.FailCause.TheVariants as fail_causes
use Rattle.orb_layout.specs.declared.status.StatusKind.{StatusKind}
use Rattle.orb_layout.specs.declared.status.StatusKind.TheVariants.{Good, Check, Dummy, Aborted, Illegal, Failed, Management}
use Rattle.line_text.specs.Fields.{Field, number, maybe, node_name, unit_name, digits, bytes, sense_data, name, word}
use Rattle.sbp_journal.specs.declared.cause.Cause.{Cause}
use Rattle.sbp_journal.specs.declared.cause.Cause.TheVariants as causes
use Rattle.sbp_journal.specs.declared.cause.CutCause.{CutCause}
use Rattle.sbp_journal.specs.declared.cause.CutCause.TheVariants as cut_causes
use Rattle.sbp_journal.specs.declared.note.Note.{Note}
use Rattle.sbp_journal.specs.declared.note.Note.TheVariants as notes
use Rattle.sbp_journal.specs.declared.note.NoteBuffer.{NoteBuffer}
use Rattle.sbp_journal.specs.declared.note.NoteBuffer.TheVariants.{Nothing, In, Out}
use Rattle.sbp_journal.specs.declared.operation.FunctionWord.{FunctionWord}
use Rattle.sbp_journal.specs.declared.operation.FunctionWord.TheVariants as functions
use Rattle.sbp_journal.specs.declared.operation.Operation.{Operation}
use Rattle.sbp_journal.specs.declared.operation.Operation.TheVariants as operations
use Rattle.sbp_journal.specs.declared.operation.OpWord.{OpWord}
use Rattle.sbp_journal.specs.declared.operation.OpWord.TheVariants as op_words

abbrev pub status_fields : StatusKind → List Field
status_fields Good = name (codes "good") ∷ []
status_fields (Check sense) = name (codes "check") ∷ sense_data sense ∷ []
status_fields Dummy = name (codes "dummy") ∷ []
status_fields Aborted = name (codes "aborted") ∷ []
status_fields (Illegal meaning) = name (codes "illegal") ∷ digits (meaning ∷ []) ∷ []
status_fields Failed = name (codes "failed") ∷ []
status_fields (Management meaning) = []  -- no note has it

abbrev pub check_fields : Option Sense → List Field
check_fields None = status_fields Good
check_fields (Some sense) = status_fields (Check sense)

-- an answer of one byte or more
abbrev pub answer_fields : List ℕ → List Field
answer_fields [] = []
answer_fields (byte ∷ rest) = bytes (byte ∷ rest) ∷ []

abbrev pub buffer_fields : NoteBuffer → List Field
buffer_fields Nothing = name (codes "none") ∷ []
buffer_fields (In len) = name (codes "in") ∷ number len ∷ []
buffer_fields (Out bs) = name (codes "out") ∷ bytes bs ∷ []

abbrev pub mode : Bool → List ℕ
mode true = codes "ready"
mode false = codes "cold"

-- why a packet was ignored
abbrev pub cause_word : Cause → List ℕ
cause_word causes.Generation = codes "generation"
cause_word causes.Grammar = codes "grammar"
cause_word causes.Label = codes "label"
cause_word causes.Again = codes "again"
cause_word causes.Source = codes "source"
cause_word causes.Login = codes "login"
cause_word causes.Slot = codes "slot"

-- why a list was cut
abbrev pub cut_word : CutCause → List ℕ
cut_word cut_causes.AgentReset = codes "agentreset"
cut_word cut_causes.AbortSet = codes "abortset"
cut_word cut_causes.UnitReset = codes "unitreset"
cut_word cut_causes.TargetReset = codes "targetreset"
cut_word cut_causes.Logout = codes "logout"
cut_word cut_causes.Reset = codes "reset"

-- why an agent is dead, or a management operation failed
abbrev pub fail_word : FailCause → List ℕ
fail_word fail_causes.Timeout = codes "timeout"
fail_word fail_causes.Label = codes "label"
fail_word fail_causes.Refused = codes "refused"
fail_word fail_causes.Grammar = codes "grammar"

abbrev pub function_word : FunctionWord → List ℕ
function_word functions.Login = codes "login"
function_word functions.Query = codes "query"
function_word functions.Reconnect = codes "reconnect"
function_word functions.Logout = codes "logout"
function_word functions.Abort = codes "abort"
function_word functions.AbortSet = codes "abortset"
function_word functions.UnitReset = codes "lureset"
function_word functions.TargetReset = codes "treset"
function_word functions.Other = codes "other"

abbrev pub operation_word : Operation → List ℕ
operation_word operations.Rom = codes "rom"
operation_word operations.Login = codes "login"
operation_word operations.Query = codes "query"
operation_word operations.Reconnect = codes "reconnect"
operation_word operations.Logout = codes "logout"
operation_word operations.Abort = codes "abort"
operation_word operations.AbortSet = codes "abortset"
operation_word operations.UnitReset = codes "lureset"
operation_word operations.TargetReset = codes "treset"
operation_word operations.AgentReset = codes "agentreset"
operation_word operations.State = codes "state"
operation_word operations.Enable = codes "enable"

-- how an operation ended
abbrev pub end_fields : OpWord → List Field
end_fields op_words.Done = name (codes "done") ∷ []
end_fields (op_words.Refused status) = name (codes "refused") ∷ digits (status ∷ []) ∷ []
end_fields op_words.Conflict = name (codes "conflict") ∷ []
end_fields op_words.Error = name (codes "error") ∷ []
end_fields op_words.Reset = name (codes "reset") ∷ []
end_fields (op_words.Count count) = name (codes "done") ∷ maybe count ∷ []
end_fields (op_words.Bad fault) = name (codes "bad") ∷ number fault ∷ []
end_fields op_words.NoUnit = name (codes "none") ∷ []
end_fields (op_words.State value) = number value ∷ []

-- the login ID that a decision gives
abbrev pub login_fields : Option ℕ → List Field
login_fields None = []
login_fields (Some login) = number login ∷ []

-- the ORB `orb` of the list `list` of an initiator
abbrev pub orb_fields : ℕ → ℕ → ℕ → List Field
orb_fields initiator list orb = number initiator ∷ number list ∷ number orb ∷ []

abbrev pub named_fields : ℕ → Option ℕ → Option ℕ → List Field
named_fields initiator list orb = number initiator ∷ maybe list ∷ maybe orb ∷ []

-- what ran: a command of a unit, with the data that was read for it
abbrev pub work_fields : ℕ → List ℕ → List ℕ → List Field
work_fields unit cdb bs = unit_name unit ∷ digits cdb ∷ bytes bs ∷ []

-- the only sense of an unsolicited status: 6/28/00
abbrev pub told_word : List ℕ
told_word = codes "6/28/00"

abbrev pub keyword : Note → List ℕ
keyword (notes.Begin initiators ready) = codes "begin"
keyword (notes.Append initiator list orb cdb buffer) = codes "append"
keyword (notes.Low initiator list orb) = codes "low"
keyword (notes.Linked initiator list orb) = codes "linked"
keyword (notes.Rung initiator list orb) = codes "rung"
keyword (notes.Dummied initiator list orb) = codes "dummied"
keyword (notes.Sent serial generation from to bs) = codes "sent"
keyword (notes.Injected serial) = codes "injected"
keyword (notes.Got serial) = codes "got"
keyword (notes.Ignored serial cause) = codes "ignored"
keyword (notes.Lost serial) = codes "lost"
keyword (notes.TimedOut serial) = codes "timedout"
keyword (notes.Ran initiator list orb unit cdb bs check) = codes "ran"
keyword (notes.Ended initiator list orb status) = codes "ended"
keyword (notes.Taken initiator list orb status answer) = codes "taken"
keyword (notes.Cut initiator list cause) = codes "cut"
keyword (notes.Dead initiator list cause) = codes "dead"
keyword (notes.Drop initiator list) = codes "drop"
keyword (notes.Managed initiator function subject status login) = codes "mgmt"
keyword (notes.ManageFailed initiator cause) = codes "mgmtfail"
keyword (notes.Held login) = codes "held"
keyword (notes.Expired login) = codes "expired"
keyword (notes.Back login) = codes "back"
keyword (notes.Left login) = codes "left"
keyword (notes.Cleared unit) = codes "cleared"
keyword (notes.Op initiator operation end) = codes "op"
keyword (notes.Stuck initiator) = codes "stuck"
keyword (notes.Reset generation) = codes "reset"
keyword (notes.Seen node generation) = codes "seen"
keyword notes.Tick = codes "tick"
keyword (notes.Refused line reason) = codes "refused"
keyword notes.Settled = codes "settled"
keyword notes.Stopped = codes "stopped"
keyword (notes.Key unit) = codes "key"
keyword (notes.Unsolicited initiator) = codes "unsolicited"
keyword (notes.Unsent initiator) = codes "unsent"
keyword (notes.Told initiator) = codes "told"

abbrev pub fields : Note → List Field
fields (notes.Begin initiators ready) = number initiators ∷ name (mode ready) ∷ []
fields (notes.Append initiator list orb cdb buffer) = orb_fields initiator list orb ++ digits cdb ∷ buffer_fields buffer
fields (notes.Low initiator list orb) = orb_fields initiator list orb
fields (notes.Linked initiator list orb) = orb_fields initiator list orb
fields (notes.Rung initiator list orb) = orb_fields initiator list orb
fields (notes.Dummied initiator list orb) = orb_fields initiator list orb
fields (notes.Sent serial generation from to bs) = number serial ∷ number generation ∷ node_name from ∷ node_name to ∷ digits bs ∷ []
fields (notes.Injected serial) = number serial ∷ []
fields (notes.Got serial) = number serial ∷ []
fields (notes.Ignored serial cause) = number serial ∷ name (cause_word cause) ∷ []
fields (notes.Lost serial) = number serial ∷ []
fields (notes.TimedOut serial) = number serial ∷ []
fields (notes.Ran initiator list orb unit cdb bs check) =
    named_fields initiator list orb ++ work_fields unit cdb bs ++ check_fields check
fields (notes.Ended initiator list orb status) = named_fields initiator list orb ++ status_fields status
fields (notes.Taken initiator list orb status answer) = orb_fields initiator list orb ++ status_fields status ++ answer_fields answer
fields (notes.Cut initiator list cause) = number initiator ∷ maybe list ∷ name (cut_word cause) ∷ []
fields (notes.Dead initiator list cause) = number initiator ∷ maybe list ∷ name (fail_word cause) ∷ []
fields (notes.Drop initiator list) = number initiator ∷ number list ∷ []
fields (notes.Managed initiator function subject status login) =
    number initiator ∷ name (function_word function) ∷ number subject ∷ digits (status ∷ []) ∷ login_fields login
fields (notes.ManageFailed initiator cause) = number initiator ∷ name (fail_word cause) ∷ []
fields (notes.Held login) = number login ∷ []
fields (notes.Expired login) = number login ∷ []
fields (notes.Back login) = number login ∷ []
fields (notes.Left login) = number login ∷ []
fields (notes.Cleared unit) = number unit ∷ []
fields (notes.Op initiator operation end) = number initiator ∷ name (operation_word operation) ∷ end_fields end
fields (notes.Stuck initiator) = number initiator ∷ []
fields (notes.Reset generation) = number generation ∷ []
fields (notes.Seen node generation) = node_name node ∷ number generation ∷ []
fields notes.Tick = []
fields (notes.Refused line reason) = number line ∷ number reason ∷ []
fields notes.Settled = []
fields notes.Stopped = []
fields (notes.Key unit) = number unit ∷ []
fields (notes.Unsolicited initiator) = number initiator ∷ []
fields (notes.Unsent initiator) = number initiator ∷ []
fields (notes.Told initiator) = number initiator ∷ name told_word ∷ []

-- the words of a note, the line that they make, and the text of some notes
abbrev pub words_of : Note → List (List ℕ)
words_of note = keyword note ∷ map word (fields note)

abbrev pub note_text : Note → List ℕ
note_text note = join_with_byte 32 (words_of note) ++ 10 ∷ []

abbrev pub text_of : List Note → List ℕ
text_of ns = flat_map note_text ns
