-- A text of notes, read back line by line and word by word.
use Rattle.std.proofs.Common.{◌≡◌, ◌==◌, ◌&&◌, inl, ◌<◌, ℕ, zero, suc, not, Bool, true, false, List, [], ◌∷◌, ◌++◌, map, Option, Some, None, append_assoc, refl, sym, ap, ◌∙◌, lit<, arith}
use Rattle.std.specs.List.{join_with_byte, list_all, AllByRecursion}
use Rattle.rbc_command.specs.declared.sense.Sense.{Sense}
use Rattle.orb_layout.specs.declared.ask.FailCause.{FailCause}
use Rattle.orb_layout.specs.declared.ask.FailCause.TheVariants as fail_causes
use Rattle.orb_layout.specs.declared.status.StatusKind.{StatusKind}
use Rattle.orb_layout.specs.declared.status.StatusKind.TheVariants.{Good, Check, Dummy, Aborted, Illegal, Failed, Management}
use Rattle.sbp_journal.specs.declared.cause.Cause.{Cause}
use Rattle.sbp_journal.specs.declared.cause.Cause.TheVariants as causes
use Rattle.sbp_journal.specs.declared.cause.CutCause.{CutCause}
use Rattle.sbp_journal.specs.declared.cause.CutCause.TheVariants as cut_causes
use Rattle.sbp_journal.specs.declared.note.Note.{Note}
use Rattle.sbp_journal.specs.declared.note.Note.TheVariants as notes
use Rattle.sbp_journal.specs.declared.note.NoteBuffer.{NoteBuffer}
use Rattle.sbp_journal.specs.declared.note.NoteBuffer.TheVariants.{Nothing, In, Out}
use Rattle.sbp_journal.specs.declared.operation.FunctionWord.{FunctionWord}
use Rattle.sbp_journal.specs.declared.operation.FunctionWord.TheVariants as functions
use Rattle.sbp_journal.specs.declared.operation.Operation.{Operation}
use Rattle.sbp_journal.specs.declared.operation.Operation.TheVariants as operations
use Rattle.sbp_journal.specs.declared.operation.OpWord.{OpWord}
use Rattle.sbp_journal.specs.declared.operation.OpWord.TheVariants as op_words
use Rattle.line_text.specs.Fields.{Field, number, maybe, node_name, unit_name, digits, payload, bytes, sense_data, name, word}
use Rattle.sbp_journal.specs.Text.{mode, cause_word, cut_word, fail_word, function_word, operation_word, status_fields, check_fields, end_fields, answer_fields, buffer_fields, login_fields, keyword, fields, words_of, text_of}
use Rattle.sbp_journal.specs.Form.{HasForm, IsStatus, IsCheck}
use Rattle.sbp_journal.specs.Written.{Fits, IsWritten}
use Rattle.sbp_journal.proofs.LineWords.{answer_status}
use Rattle.journal_text.proofs.WordsBack.{Lacks, split, split_at, split-join, lacks, lacks-append}
use Rattle.journal_text.proofs.FieldsBack.{decimal_lacks, encode_lacks, sense_lacks}
use Rattle.journal_text.proofs.CanonicalBack.{IsApart, canonical_lacks}
use Rattle.journal_text.proofs.NotesBack.{note_of, note_back}

-- ---- no word has a blank or a line feed

abbrev pub is_plain : ℕ → Bool
is_plain byte = not (byte == 32) && not (byte == 10)

-- each fixed word is plain, by a test of its bytes, and a sense key is one digit
abbrev pub IsPlain : Field → Type 0
IsPlain (name text) = list_all is_plain text ≡ true
IsPlain (sense_data sense) = sense.key < 16
IsPlain _ = Unit {0}

-- a byte that stands in no word
record IsBetween (c : ℕ) : Type 0 where
  apart : IsApart c
  plus : (43 == c) ≡ false
  dash : (45 == c) ≡ false
  slash : (47 == c) ≡ false
  target : (116 == c) ≡ false
  unit : (117 == c) ≡ false
  plain : is_plain c ≡ false

blank : IsBetween 32
blank = record { apart = record { hex = refl; decimal = inl (lit< tt); star = refl }; plus = refl; dash = refl; slash = refl; target = refl; unit = refl; plain = refl }

feed : IsBetween 10
feed = record { apart = record { hex = refl; decimal = inl (lit< tt); star = refl }; plus = refl; dash = refl; slash = refl; target = refl; unit = refl; plain = refl }

word_lacks : (c : ℕ) → IsBetween c → (field : Field) → Fits field → IsPlain field → Lacks c (word field)
word_lacks c out (number n) h p = decimal_lacks c n h out.apart.decimal
word_lacks c out (maybe None) h p = (out.dash, tt)
word_lacks c out (maybe (Some n)) h p = decimal_lacks c n h out.apart.decimal
word_lacks c out (node_name zero) h p = (out.target, tt)
word_lacks c out (node_name (suc n)) h p = decimal_lacks c n (omega arith) out.apart.decimal
word_lacks c out (unit_name n) h p = (out.unit, decimal_lacks c n h out.apart.decimal)
word_lacks c out (digits bs) h p = encode_lacks c bs out.apart.hex h
word_lacks c out (payload []) h p = (out.dash, tt)
word_lacks c out (payload (byte ∷ rest)) h p = encode_lacks c (byte ∷ rest) out.apart.hex h
word_lacks c out (bytes bs) h p = canonical_lacks c out.apart out.plus out.dash bs h.0 h.1
word_lacks c out (sense_data sense) h p = sense_lacks c sense out.apart.hex out.slash p h.0 h.1
word_lacks c out (name text) h p = lacks c is_plain text out.plain p

words_lack : (c : ℕ) → IsBetween c → (fs : List Field) → AllByRecursion Fits fs → AllByRecursion IsPlain fs → AllByRecursion (Lacks c) (map word fs)
words_lack c out [] h p = tt
words_lack c out (field ∷ fs) h p = (word_lacks c out field h.0 p.0, words_lack c out fs h.1 p.1)

plain_mode : (ready : Bool) → list_all is_plain (mode ready) ≡ true
plain_mode true = refl
plain_mode false = refl

plain_cause : (cause : Cause) → list_all is_plain (cause_word cause) ≡ true
plain_cause causes.Generation = refl
plain_cause causes.Grammar = refl
plain_cause causes.Label = refl
plain_cause causes.Again = refl
plain_cause causes.Source = refl
plain_cause causes.Login = refl
plain_cause causes.Slot = refl

plain_cut : (cause : CutCause) → list_all is_plain (cut_word cause) ≡ true
plain_cut cut_causes.AgentReset = refl
plain_cut cut_causes.AbortSet = refl
plain_cut cut_causes.UnitReset = refl
plain_cut cut_causes.TargetReset = refl
plain_cut cut_causes.Logout = refl
plain_cut cut_causes.Reset = refl

plain_fail : (cause : FailCause) → list_all is_plain (fail_word cause) ≡ true
plain_fail fail_causes.Timeout = refl
plain_fail fail_causes.Label = refl
plain_fail fail_causes.Refused = refl
plain_fail fail_causes.Grammar = refl

plain_function : (function : FunctionWord) → list_all is_plain (function_word function) ≡ true
plain_function functions.Login = refl
plain_function functions.Query = refl
plain_function functions.Reconnect = refl
plain_function functions.Logout = refl
plain_function functions.Abort = refl
plain_function functions.AbortSet = refl
plain_function functions.UnitReset = refl
plain_function functions.TargetReset = refl
plain_function functions.Other = refl

plain_operation : (operation : Operation) → list_all is_plain (operation_word operation) ≡ true
plain_operation operations.Rom = refl
plain_operation operations.Login = refl
plain_operation operations.Query = refl
plain_operation operations.Reconnect = refl
plain_operation operations.Logout = refl
plain_operation operations.Abort = refl
plain_operation operations.AbortSet = refl
plain_operation operations.UnitReset = refl
plain_operation operations.TargetReset = refl
plain_operation operations.AgentReset = refl
plain_operation operations.State = refl
plain_operation operations.Enable = refl

plain_status : (status : StatusKind) (rest : List Field) → IsStatus status → AllByRecursion IsPlain rest → AllByRecursion IsPlain (status_fields status ++ rest)
plain_status Good rest k h = (refl, h)
plain_status (Check sense) rest k h = (refl, (k, h))
plain_status Dummy rest k h = (refl, h)
plain_status Aborted rest k h = (refl, h)
plain_status (Illegal meaning) rest k h = (refl, (tt, h))
plain_status Failed rest k h = (refl, h)
plain_status (Management meaning) rest k h = h

plain_last : (status : StatusKind) → IsStatus status → AllByRecursion IsPlain (status_fields status)
plain_last Good k = (refl, tt)
plain_last (Check sense) k = (refl, (k, tt))
plain_last Dummy k = (refl, tt)
plain_last Aborted k = (refl, tt)
plain_last (Illegal meaning) k = (refl, (tt, tt))
plain_last Failed k = (refl, tt)
plain_last (Management meaning) k = tt

plain_check : (check : Option Sense) → IsCheck check → AllByRecursion IsPlain (check_fields check)
plain_check None k = (refl, tt)
plain_check (Some sense) k = (refl, (k, tt))

plain_answer : (answer : List ℕ) → AllByRecursion IsPlain (answer_fields answer)
plain_answer [] = tt
plain_answer (byte ∷ answer) = (tt, tt)

plain_end : (end : OpWord) → AllByRecursion IsPlain (end_fields end)
plain_end op_words.Done = (refl, tt)
plain_end (op_words.Refused status) = (refl, (tt, tt))
plain_end op_words.Conflict = (refl, tt)
plain_end op_words.Error = (refl, tt)
plain_end op_words.Reset = (refl, tt)
plain_end (op_words.Count count) = (refl, (tt, tt))
plain_end (op_words.Bad fault) = (refl, (tt, tt))
plain_end op_words.NoUnit = (refl, tt)
plain_end (op_words.State value) = (tt, tt)

plain_login : (login : Option ℕ) → AllByRecursion IsPlain (login_fields login)
plain_login None = tt
plain_login (Some n) = (tt, tt)

plain_buffer : (buffer : NoteBuffer) → AllByRecursion IsPlain (buffer_fields buffer)
plain_buffer Nothing = (refl, tt)
plain_buffer (In len) = (refl, (tt, tt))
plain_buffer (Out bs) = (refl, (tt, tt))

pub plain_fields : (note : Note) → HasForm note → AllByRecursion IsPlain (fields note)
plain_fields (notes.Begin n ready) h = (tt, (plain_mode ready, tt))
plain_fields (notes.Append i l k cdb buffer) h = (tt, (tt, (tt, (tt, plain_buffer buffer))))
plain_fields (notes.Low i l k) h = (tt, (tt, (tt, tt)))
plain_fields (notes.Linked i l k) h = (tt, (tt, (tt, tt)))
plain_fields (notes.Rung i l k) h = (tt, (tt, (tt, tt)))
plain_fields (notes.Dummied i l k) h = (tt, (tt, (tt, tt)))
plain_fields (notes.Sent s g from to bs) h = (tt, (tt, (tt, (tt, (tt, tt)))))
plain_fields (notes.Injected n) h = (tt, tt)
plain_fields (notes.Got n) h = (tt, tt)
plain_fields (notes.Ignored s cause) h = (tt, (plain_cause cause, tt))
plain_fields (notes.Lost n) h = (tt, tt)
plain_fields (notes.TimedOut n) h = (tt, tt)
plain_fields (notes.Ran i l k u cdb bs check) h = (tt, (tt, (tt, (tt, (tt, (tt, plain_check check h))))))
plain_fields (notes.Ended i l k status) h = (tt, (tt, (tt, plain_last status h)))
plain_fields (notes.Taken i l k status answer) h = (tt, (tt, (tt, plain_status status (answer_fields answer) (answer_status status answer h) (plain_answer answer))))
plain_fields (notes.Cut i l cause) h = (tt, (tt, (plain_cut cause, tt)))
plain_fields (notes.Dead i l cause) h = (tt, (tt, (plain_fail cause, tt)))
plain_fields (notes.Drop i l) h = (tt, (tt, tt))
plain_fields (notes.Managed i function subject status login) h = (tt, (plain_function function, (tt, (tt, plain_login login))))
plain_fields (notes.ManageFailed i cause) h = (tt, (plain_fail cause, tt))
plain_fields (notes.Held n) h = (tt, tt)
plain_fields (notes.Expired n) h = (tt, tt)
plain_fields (notes.Back n) h = (tt, tt)
plain_fields (notes.Left n) h = (tt, tt)
plain_fields (notes.Cleared n) h = (tt, tt)
plain_fields (notes.Op i operation end) h = (tt, (plain_operation operation, plain_end end))
plain_fields (notes.Stuck n) h = (tt, tt)
plain_fields (notes.Reset n) h = (tt, tt)
plain_fields (notes.Seen node g) h = (tt, (tt, tt))
plain_fields notes.Tick h = tt
plain_fields (notes.Refused line reason) h = (tt, (tt, tt))
plain_fields notes.Settled h = tt
plain_fields notes.Stopped h = tt
plain_fields (notes.Key n) h = (tt, tt)
plain_fields (notes.Unsolicited n) h = (tt, tt)
plain_fields (notes.Unsent n) h = (tt, tt)
plain_fields (notes.Told n) h = (tt, (refl, tt))

pub plain_keyword : (note : Note) → list_all is_plain (keyword note) ≡ true
plain_keyword (notes.Begin n ready) = refl
plain_keyword (notes.Append i l k cdb buffer) = refl
plain_keyword (notes.Low i l k) = refl
plain_keyword (notes.Linked i l k) = refl
plain_keyword (notes.Rung i l k) = refl
plain_keyword (notes.Dummied i l k) = refl
plain_keyword (notes.Sent s g from to bs) = refl
plain_keyword (notes.Injected n) = refl
plain_keyword (notes.Got n) = refl
plain_keyword (notes.Ignored s cause) = refl
plain_keyword (notes.Lost n) = refl
plain_keyword (notes.TimedOut n) = refl
plain_keyword (notes.Ran i l k u cdb bs check) = refl
plain_keyword (notes.Ended i l k status) = refl
plain_keyword (notes.Taken i l k status answer) = refl
plain_keyword (notes.Cut i l cause) = refl
plain_keyword (notes.Dead i l cause) = refl
plain_keyword (notes.Drop i l) = refl
plain_keyword (notes.Managed i function subject status login) = refl
plain_keyword (notes.ManageFailed i cause) = refl
plain_keyword (notes.Held n) = refl
plain_keyword (notes.Expired n) = refl
plain_keyword (notes.Back n) = refl
plain_keyword (notes.Left n) = refl
plain_keyword (notes.Cleared n) = refl
plain_keyword (notes.Op i operation end) = refl
plain_keyword (notes.Stuck n) = refl
plain_keyword (notes.Reset n) = refl
plain_keyword (notes.Seen node g) = refl
plain_keyword notes.Tick = refl
plain_keyword (notes.Refused line reason) = refl
plain_keyword notes.Settled = refl
plain_keyword notes.Stopped = refl
plain_keyword (notes.Key n) = refl
plain_keyword (notes.Unsolicited n) = refl
plain_keyword (notes.Unsent n) = refl
plain_keyword (notes.Told n) = refl

note_lacks : (c : ℕ) → IsBetween c → (note : Note) → IsWritten note → AllByRecursion (Lacks c) (words_of note)
note_lacks c out note h = (lacks c is_plain (keyword note) out.plain (plain_keyword note), words_lack c out (fields note) h.1 (plain_fields note h.0))

-- ---- lines and words

pub join_lacks : (c : ℕ) → (32 == c) ≡ false → (ws : List (List ℕ)) → AllByRecursion (Lacks c) ws → Lacks c (join_with_byte 32 ws)
join_lacks c out [] h = tt
join_lacks c out (text ∷ []) h = h.0
join_lacks c out (text ∷ next ∷ ws) h = lacks-append c text (32 ∷ join_with_byte 32 (next ∷ ws)) h.0 (out, join_lacks c out (next ∷ ws) h.1)

-- the note of a line
abbrev note_in : List ℕ → Note
note_in line = note_of (split 32 line)

line_back : (note : Note) → IsWritten note → note_in (join_with_byte 32 (words_of note)) ≡ note
line_back note h = ap note_of (split-join 32 (keyword note) (map word (fields note)) (note_lacks 32 blank note h)) ∙ note_back note h

-- the notes of a text, and one more for what stands behind the last line feed
abbrev notes_in : List ℕ → List Note
notes_in text = map note_in (split 10 text)

text_back : (ns : List Note) → AllByRecursion IsWritten ns → notes_in (text_of ns) ≡ ns ++ note_in [] ∷ []
text_back [] h = refl
text_back (note ∷ ns) h =
    let line = join_with_byte 32 (words_of note) in
    let lines : split 10 (text_of (note ∷ ns)) ≡ line ∷ split 10 (text_of ns) =
    ap (split 10) (append_assoc line (10 ∷ []) (text_of ns)) ∙ split_at 10 line (text_of ns) (join_lacks 10 refl (words_of note) (note_lacks 10 feed note h.0)) in
    ap (map note_in) lines ∙ rw (line_back note h.0, text_back ns h.1) refl

front_same : (end : Note) (ns ms : List Note) → ns ++ end ∷ [] ≡ ms ++ end ∷ [] → ns ≡ ms
front_same end [] [] e = refl
front_same end [] (m ∷ []) e = cc e
front_same end [] (m ∷ next ∷ ms) e = cc e
front_same end (n ∷ []) [] e = cc e
front_same end (n ∷ next ∷ ns) [] e = cc e
front_same end (n ∷ ns) (m ∷ ms) e =
    let first : n ≡ m = cc e in
    let rest : ns ++ end ∷ [] ≡ ms ++ end ∷ [] = cc e in
    rw first (ap (λ xs. m ∷ xs) (front_same end ns ms rest))

pub texts_determine : (ns ms : List Note) → AllByRecursion IsWritten ns → AllByRecursion IsWritten ms → text_of ns ≡ text_of ms → ns ≡ ms
texts_determine ns ms h k e = front_same (note_in []) ns ms (sym (text_back ns h) ∙ ap notes_in e ∙ text_back ms k)
