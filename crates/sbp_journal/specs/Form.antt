-- The form that each note of a run has; a text of notes in this form can be read back.
use Rattle.std.specs.Prelude.{◌≡◌, ◌<◌, ◌&&◌, ◌==◌, is_some, Bool, true, false, ℕ, List, [], length, Option, Some, None}
use Rattle.rbc_command.specs.declared.sense.Sense.{Sense}
use Rattle.orb_layout.specs.declared.status.StatusKind.{StatusKind}
use Rattle.orb_layout.specs.declared.status.StatusKind.TheVariants.{Good, Check, Management}
use Rattle.sbp_journal.specs.declared.note.Note.{Note}
use Rattle.sbp_journal.specs.declared.note.Note.TheVariants.{Append, Ran, Ended, Taken, Managed}
use Rattle.sbp_journal.specs.declared.note.NoteBuffer.{NoteBuffer}
use Rattle.sbp_journal.specs.declared.note.NoteBuffer.TheVariants.{Nothing, In, Out}
use Rattle.sbp_journal.specs.declared.operation.FunctionWord.{FunctionWord}
use Rattle.sbp_journal.specs.declared.operation.FunctionWord.TheVariants as functions

-- a sense key has four bits
abbrev pub IsSense : Sense → Type 0
IsSense sense = sense.key < 16

-- a buffer that is named has a byte
abbrev pub IsBuffer : NoteBuffer → Type 0
IsBuffer Nothing = Unit {0}
IsBuffer (In len) = 0 < len
IsBuffer (Out bytes) = 0 < length bytes

abbrev pub IsCheck : Option Sense → Type 0
IsCheck None = Unit {0}
IsCheck (Some sense) = IsSense sense

-- an ORB of a list ends with no status of management
abbrev pub IsStatus : StatusKind → Type 0
IsStatus (Check sense) = IsSense sense
IsStatus (Management meaning) = ⊥
IsStatus _ = Unit {0}

-- only a good status has an answer
abbrev pub IsAnswer : StatusKind → List ℕ → Type 0
IsAnswer Good answer = Unit {0}
IsAnswer status answer = (answer ≡ []) × IsStatus status

abbrev pub is_login : FunctionWord → Bool
is_login functions.Login = true
is_login _ = false

-- a login with status 00, and no other decision, gives a login ID
abbrev pub IsDecision : FunctionWord → ℕ → Option ℕ → Type 0
IsDecision function status login = is_some login ≡ (is_login function && (status == 0))

abbrev pub HasForm : Note → Type 0
HasForm (Append initiator list orb cdb buffer) = IsBuffer buffer
HasForm (Ran initiator list orb unit cdb bytes check) = IsCheck check
HasForm (Ended initiator list orb status) = IsStatus status
HasForm (Taken initiator list orb status answer) = IsAnswer status answer
HasForm (Managed initiator function subject status login) = IsDecision function status login
HasForm _ = Unit {0}
