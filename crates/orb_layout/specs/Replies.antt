-- What came of a request, and whether it failed (IEEE 1394-1995, transaction layer).
use Rattle.std.specs.Prelude.{ℕ, ◌==◌, if◌then◌else◌, List, length, Option, Some, None, Result, Ok, Err}
use Rattle.std.specs.Borrow.{Bor}
use Rattle.orb_layout.specs.declared.ask.Reply.{Reply}
use Rattle.orb_layout.specs.declared.ask.Reply.TheVariants as replies
use Rattle.orb_layout.specs.declared.ask.FailCause.{FailCause}
use Rattle.orb_layout.specs.declared.ask.FailCause.TheVariants as causes

-- a reply without what it is lent from
pub data Answer : Type 0 where
  Payload : (bytes : List ℕ) → Answer
  Done : Answer
  Refused : (rcode : ℕ) → Answer
  Expired : Answer
  NoLabel : Answer

abbrev pub answer_of : Reply → Answer
answer_of (replies.Payload bytes) = Payload bytes.now
answer_of replies.Done = Done
answer_of (replies.Refused rcode) = Refused rcode
answer_of replies.Expired = Expired
answer_of replies.NoLabel = NoLabel

-- the bytes of a read of so many bytes, or why it failed
abbrev pub payload_of : Answer → ℕ → Result (List ℕ) FailCause
payload_of (Payload bytes) size = if length bytes == size then Ok bytes else Err causes.Grammar
payload_of Done size = Err causes.Grammar
payload_of (Refused rcode) size = Err causes.Refused
payload_of Expired size = Err causes.Timeout
payload_of NoLabel size = Err causes.Label

-- why a write failed
abbrev pub write_failure : Answer → Option FailCause
write_failure (Payload bytes) = Some causes.Grammar
write_failure Done = None
write_failure (Refused rcode) = Some causes.Refused
write_failure Expired = Some causes.Timeout
write_failure NoLabel = Some causes.Label

-- bytes that are lent
abbrev pub lent : Result (Bor (List ℕ)) FailCause → Result (List ℕ) FailCause
lent (Ok bytes) = Ok bytes.now
lent (Err cause) = Err cause
