-- How the operations of an initiator end, and what a call tells beside (NCITS 325-1998, tasks and task management). At most one
-- operation is under way: it begins with an action that is done, of which no other is done before it has ended. It ends in a call that
-- tells one `op`, of this operation and with a word of its table, or as a generation is seen, with `reset`. A read of AGENT_STATE is no
-- operation, and ends beside them. Within a delivery or a time-out `drop` stands before `op`, and `op` before `stuck`.
use Rattle.std.specs.Prelude.{◌≡◌, ℕ, ◌==◌, ◌&&◌, not, Bool, true, false, List, [], ◌∷◌, ◌++◌, Option, Some, None}
use Rattle.sbp_journal.specs.declared.note.Note.{Note}
use Rattle.sbp_journal.specs.declared.note.Note.TheVariants as notes
use Rattle.sbp_journal.specs.declared.operation.Operation.{Operation}
use Rattle.sbp_journal.specs.declared.operation.Operation.TheVariants as operations
use Rattle.sbp_journal.specs.declared.operation.OpWord.{OpWord}
use Rattle.sbp_journal.specs.declared.operation.OpWord.TheVariants as words
use Rattle.sbp_journal.specs.declared.side.Side.{Side}
use Rattle.sbp_journal.specs.declared.side.Side.TheVariants as sides
use Rattle.sbp_session.specs.declared.seat.Seat.{Seat}
use Rattle.sbp_initiator.specs.declared.purpose.Ending.{Ending}
use Rattle.sbp_initiator.specs.declared.purpose.Ending.TheVariants as endings
use Rattle.sbp_initiator.specs.declared.purpose.Purpose.{Purpose}
use Rattle.sbp_initiator.specs.declared.purpose.Purpose.TheVariants as purposes
use Rattle.sbp_initiator.specs.declared.purpose.Running.{Running}
use Rattle.sbp_session.specs.Seats.{is_stuck_seat}

-- ---- notes

-- notes of an initiator, as its outbox tells them
abbrev pub own : List Note → List Side
own [] = []
own (note ∷ ns) = sides.Own note ∷ own ns

-- an operation that ended, and the word of its end
pub record OpEnd : Type 0 where
  pub operation : Operation
  pub word : OpWord

abbrev pub drops : ℕ → Option ℕ → List Note
drops number None = []
drops number (Some list) = notes.Drop number list ∷ []

abbrev pub ops : ℕ → Option OpEnd → List Note
ops number None = []
ops number (Some end) = notes.Op number end.operation end.word ∷ []

abbrev pub state_ops : ℕ → Option OpWord → List Note
state_ops number None = []
state_ops number (Some word) = notes.Op number operations.State word ∷ []

abbrev pub sticks : ℕ → Bool → List Note
sticks number false = []
sticks number true = notes.Stuck number ∷ []

-- what a delivery or a time-out tells of lists, operations, reads of AGENT_STATE and the session, in this order
abbrev pub notes_of : ℕ → Option ℕ → Option OpEnd → Option OpWord → Bool → List Note
notes_of number drop op state stuck = drops number drop ++ (ops number op ++ (state_ops number state ++ sticks number stuck))

-- ---- words

abbrev pub is_rom : Operation → Bool
is_rom operations.Rom = true
is_rom _ = false

abbrev pub is_query : Operation → Bool
is_query operations.Query = true
is_query _ = false

-- the operations that have a management ORB
abbrev pub is_managed : Operation → Bool
is_managed operations.Login = true
is_managed operations.Query = true
is_managed operations.Reconnect = true
is_managed operations.Logout = true
is_managed operations.Abort = true
is_managed operations.AbortSet = true
is_managed operations.UnitReset = true
is_managed operations.TargetReset = true
is_managed _ = false

-- the words of an operation that ends without a reset: each may end with an error; one with a management ORB with a conflict, or refused
-- with a status other than 00; a query with a count, and every other one as done; and a ROM may be bad, or have no unit
abbrev pub is_word_of : Operation → OpWord → Bool
is_word_of operation words.Error = true
is_word_of operation words.Conflict = is_managed operation
is_word_of operation (words.Refused status) = is_managed operation && not (status == 0)
is_word_of operation (words.Count logins) = is_query operation
is_word_of operation words.Done = not (is_query operation)
is_word_of operation (words.Bad fault) = is_rom operation
is_word_of operation words.NoUnit = is_rom operation
is_word_of operation (words.State value) = false
is_word_of operation words.Reset = false

-- how a read of AGENT_STATE ends: with the number read, or with an error
abbrev pub state_word : Ending → OpWord
state_word (endings.Complete value) = words.State value
state_word (endings.Refused rcode) = words.Error
state_word endings.Expired = words.Error

-- the end of a transaction ends such a read
abbrev pub read_ends : Purpose → Ending → Option OpWord
read_ends (purposes.State act list) ending = Some (state_word ending)
read_ends _ ending = None

-- ---- the session

-- A write request of the initiator's own fails: it times out, or is answered by another rcode than 0.
abbrev pub is_failed : Ending → Bool
is_failed (endings.Complete value) = false
is_failed (endings.Refused rcode) = true
is_failed endings.Expired = true

-- A write to MANAGEMENT_AGENT that is answered conflict_error, 4, ends the operation alone.
abbrev pub is_managed_failed : Ending → Bool
is_managed_failed (endings.Complete value) = false
is_managed_failed (endings.Refused rcode) = not (rcode == 4)
is_managed_failed endings.Expired = true

-- a read is no write
abbrev pub fails_write : Purpose → Ending → Bool
fails_write (purposes.Pointer list) ending = is_failed ending
fails_write purposes.Doorbell ending = is_failed ending
fails_write (purposes.AgentReset act) ending = is_failed ending
fails_write (purposes.Enable act) ending = is_failed ending
fails_write (purposes.Management act) ending = is_managed_failed ending
fails_write (purposes.Rom act) ending = false
fails_write (purposes.State act list) ending = false

-- The session becomes Stuck as a write fails; one that is Stuck stays so, without a second note.
abbrev pub sticks_by : Bool → Seat → Bool
sticks_by fails seat = fails && not (is_stuck_seat seat)

-- ---- operations

-- The operation under way ended, with a word of its table.
pub record IsEnd (before : Option Running) (end : OpEnd) : Type 0 where
  pub running : Running
  pub under_way : before ≡ Some running
  pub same : running.operation ≡ end.operation
  pub word : is_word_of end.operation end.word ≡ true

-- No `op`, and the operation under way stays; or one, with which it ends, and none is under way.
abbrev pub OpMove : Option Running → Option OpEnd → Option Running → Type 0
OpMove before None after = after ≡ before
OpMove before (Some end) after = IsEnd before end × (after ≡ None)
