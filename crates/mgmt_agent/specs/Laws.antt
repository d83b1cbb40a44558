-- Whole operations of the management agent, over every list of its calls (NCITS 325-1998, management
-- agent). What happens is a list of notes, the latest of them first.
use Rattle.std.specs.Prelude.{◌≡◌, ℕ, suc, ◌+◌, ◌*◌, ◌^◌, ◌<◌, ◌==◌, ◌&&◌, ◌||◌, not, Bool, true, false, if◌then◌else◌, List, [], ◌∷◌, length, take, Option, Some, None, Result, Ok}
use Rattle.sbp_base.specs.Quadlets.{quad}
use Rattle.orb_layout.specs.declared.management.ManagementOrb.{ManagementOrb}
use Rattle.orb_layout.specs.declared.ask.Ask.{Ask}
use Rattle.orb_layout.specs.declared.ask.Ask.TheVariants as asks
use Rattle.orb_layout.specs.declared.ask.FailCause.{FailCause}
use Rattle.orb_layout.specs.ManagementOrbs.{management_orb}
use Rattle.login_table.specs.Table.{Table}
use Rattle.mgmt_agent.specs.declared.decision.Decision.{Decision}
use Rattle.mgmt_agent.specs.declared.decision.Effect.{Effect}
use Rattle.mgmt_agent.specs.declared.decision.Outcome.{Outcome}
use Rattle.mgmt_agent.specs.declared.decision.ManagerStep.{ManagerStep}
use Rattle.mgmt_agent.specs.declared.operation.Busy.{Busy}
use Rattle.mgmt_agent.specs.declared.operation.Operation.{Operation}
use Rattle.mgmt_agent.specs.Decisions.{decide, told}
use Rattle.orb_layout.specs.Replies.{Answer, Payload, Done}
use Rattle.mgmt_agent.specs.Machine.{Machine, new_machine, start_step, reply_step, clear_step, cut_response, status_block, high_eui_at, low_eui_at}

-- a call, with the logins and the keys that a reply is taken beside
pub data Call : Type 0 where
  start : (source orb : ℕ) → Call
  reply : (table : Table) → (keys : List (List ℕ)) → Answer → Call
  clear : Call

-- What is seen of the calls: an operation was started; a read or a write was asked for, the write with
-- its bytes; the payload of a read came, or a write was done; a decision was told, beside these logins
-- and keys, with its effect and the logins that it left; the operation ended with its status block
-- written, failed, or was cleared.
pub data Note : Type 0 where
  started : (source orb : ℕ) → Note
  reads : (offset size : ℕ) → Note
  writes : (offset : ℕ) → (bytes : List ℕ) → Note
  got : (bytes : List ℕ) → Note
  done : Note
  decided : (before : Table) → (keys : List (List ℕ)) → Decision → Effect → (left : Table) → Note
  ended : Note
  failed : FailCause → Note
  cleared : Note

abbrev pub note_start : Result Ask Busy → ℕ → ℕ → List Note → List Note
note_start (Ok (asks.Read offset size)) source orb notes = reads offset size ∷ started source orb ∷ notes
note_start _ source orb notes = notes

abbrev pub note_answer : Answer → Option FailCause → List Note → List Note
note_answer (Payload bytes) None notes = got bytes ∷ notes
note_answer Done None notes = done ∷ notes
note_answer _ failure notes = notes

abbrev pub note_decided : Option Decision → Effect → Table → List (List ℕ) → Table → List Note → List Note
note_decided None effect before keys left notes = notes
note_decided (Some decision) effect before keys left notes = decided before keys decision effect left ∷ notes

abbrev pub note_end : Option FailCause → List Note → List Note
note_end None notes = ended ∷ notes
note_end (Some cause) notes = failed cause ∷ notes

abbrev pub note_ask : Ask → Option FailCause → List ℕ → List Note → List Note
note_ask (asks.Read offset size) failure outgoing notes = reads offset size ∷ notes
note_ask (asks.Write offset size) failure outgoing notes = writes offset (take size outgoing) ∷ notes
note_ask asks.Nothing failure outgoing notes = note_end failure notes

abbrev pub note_step : ManagerStep × (Machine × Table) → Table → List (List ℕ) → Answer → List Note → List Note
note_step (step, (m, left)) before keys answer notes =
    note_ask step.ask step.failed m.outgoing (note_decided step.decided step.effect before keys left (note_answer answer step.failed notes))

-- a reply is taken while an operation is under way
abbrev pub note_reply : Option Operation → Machine → Table → List (List ℕ) → Answer → List Note → List Note
note_reply None m table keys answer notes = notes
note_reply (Some operation) m table keys answer notes = note_step (reply_step m table keys answer) table keys answer notes

abbrev pub after : Call → Machine → Machine
after (start source orb) m = (start_step m source orb).1
after (reply table keys answer) m = (reply_step m table keys answer).1.0
after clear m = clear_step m

abbrev pub noted : Call → Machine → List Note → List Note
noted (start source orb) m notes = note_start (start_step m source orb).0 source orb notes
noted (reply table keys answer) m notes = note_reply m.operation m table keys answer notes
noted clear m notes = cleared ∷ notes

-- the manager after these calls, the latest of them first, and what was seen of them
abbrev pub manager_after : List Call → Machine
manager_after [] = new_machine
manager_after (call ∷ calls) = after call (manager_after calls)

abbrev pub notes_of : List Call → List Note
notes_of [] = []
notes_of (call ∷ calls) = noted call (manager_after calls) (notes_of calls)

-- an operation is under way
abbrev pub under_way : List Note → Bool
under_way [] = false
under_way (started source orb ∷ notes) = true
under_way (ended ∷ notes) = false
under_way (failed cause ∷ notes) = false
under_way (cleared ∷ notes) = false
under_way (_ ∷ notes) = under_way notes

-- the request under way: none, a read of so many bytes, or a write
pub data Request : Type 0 where
  no_request : Request
  a_read : (size : ℕ) → Request
  a_write : Request

abbrev pub request : List Note → Request
request [] = no_request
request (reads offset size ∷ notes) = a_read size
request (writes offset bytes ∷ notes) = a_write
request (_ ∷ notes) = no_request

abbrev pub is_asked : Request → Bool
is_asked no_request = false
is_asked _ = true

-- of the latest operation: its source, the address of its ORB, what was read, the latest first, the
-- number of its decisions and of its writes, and the logins and keys of its decision
abbrev pub source_of : List Note → ℕ
source_of [] = 0
source_of (started source orb ∷ notes) = source
source_of (_ ∷ notes) = source_of notes

abbrev pub address_of : List Note → ℕ
address_of [] = 0
address_of (started source orb ∷ notes) = orb
address_of (_ ∷ notes) = address_of notes

abbrev pub gots : List Note → List (List ℕ)
gots [] = []
gots (started source orb ∷ notes) = []
gots (got bytes ∷ notes) = bytes ∷ gots notes
gots (_ ∷ notes) = gots notes

abbrev pub decisions : List Note → ℕ
decisions [] = 0
decisions (started source orb ∷ notes) = 0
decisions (decided before keys decision effect left ∷ notes) = suc (decisions notes)
decisions (_ ∷ notes) = decisions notes

abbrev pub written : List Note → ℕ
written [] = 0
written (started source orb ∷ notes) = 0
written (writes offset bytes ∷ notes) = suc (written notes)
written (_ ∷ notes) = written notes

-- the ORB that was read first
abbrev pub orb_in : List (List ℕ) → ManagementOrb
orb_in [] = management_orb []
orb_in (bytes ∷ []) = management_orb bytes
orb_in (bytes ∷ before ∷ more) = orb_in (before ∷ more)

-- the EUI-64 that was read after it, high quadlet first
abbrev pub eui_in : List (List ℕ) → ℕ
eui_in (low ∷ high ∷ orb ∷ []) = quad high 0 * 2 ^ 32 + quad low 0
eui_in _ = 0

-- the decision, with all that follows from it, on what was read of the latest operation
abbrev pub outcome_on : List Note → Table → List (List ℕ) → Outcome × Table
outcome_on notes table keys = decide (orb_in (gots notes)) (source_of notes) (eui_in (gots notes)) table keys

-- that of the latest decision
abbrev pub outcome_of : List Note → Outcome × Table → Outcome × Table
outcome_of [] none = none
outcome_of (decided before keys decision effect left ∷ notes) none = outcome_on notes before keys
outcome_of (_ ∷ notes) none = outcome_of notes none

-- the response that it has, cut after the length that the ORB allows
abbrev pub response_after : List Note → Outcome × Table → List ℕ
response_after notes none = cut_response (orb_in (gots notes)) (outcome_of notes none).0 (outcome_of notes none).1

-- the reads of an operation in their order: the ORB, and the two quadlets of the EUI-64
abbrev pub read_at : List (List ℕ) → ℕ → ℕ × ℕ
read_at [] orb = (orb, 32)
read_at (first ∷ []) orb = (high_eui_at, 4)
read_at _ orb = (low_eui_at, 4)

-- how much is read before the decision: the EUI-64 as well for a login (function 0) and a reconnect
-- (function 3) of request format 0
abbrev pub reads_for : ManagementOrb → ℕ
reads_for orb = if orb.format == 0 && (orb.function == 0x0 || orb.function == 0x3) then 3 else 1

-- how much is to be read, as far as what was read tells: the ORB at first
abbrev pub reads_known : List (List ℕ) → ℕ
reads_known [] = 1
reads_known (bytes ∷ before) = reads_for (orb_in (bytes ∷ before))

-- A read is one of an operation that is not decided and has more to read, the next in order, and no
-- other request is under way.
pub record IsRead (offset size : ℕ) (notes : List Note) : Type 0 where
  pub under : under_way notes ≡ true
  pub alone : request notes ≡ no_request
  pub open_still : decisions notes ≡ 0
  pub more : length (gots notes) < reads_known (gots notes)
  pub next : (offset, size) ≡ read_at (gots notes) (address_of notes)

-- A decision is the first of its operation, comes when all was read and before anything is written, and
-- is the one on the ORB and the EUI-64 that were read, with its effect.
pub record IsDecision (before : Table) (keys : List (List ℕ)) (decision : Decision) (effect : Effect) (left : Table) (notes : List Note) : Type 0 where
  pub under : under_way notes ≡ true
  pub alone : request notes ≡ no_request
  pub first : decisions notes ≡ 0
  pub unwritten : written notes ≡ 0
  pub read : length (gots notes) ≡ reads_for (orb_in (gots notes))
  pub decision_is : decision ≡ told (orb_in (gots notes)) (outcome_on notes before keys).0
  pub effect_is : effect ≡ (outcome_on notes before keys).0.effect
  pub left_is : left ≡ (outcome_on notes before keys).1

-- the writes of a decided operation in their order: the response where it has bytes, and the status
-- block, which names the ORB
abbrev pub write_at : List Note → Outcome × Table → ℕ × List ℕ
write_at notes none =
    if written notes == 0 && not (length (response_after notes none) == 0)
    then ((orb_in (gots notes)).second, response_after notes none)
    else ((orb_in (gots notes)).fifo, status_block (address_of notes) (outcome_of notes none).0.status)

-- how many writes a decided operation has
abbrev pub writes_for : List Note → Outcome × Table → ℕ
writes_for notes none = if length (response_after notes none) == 0 then 1 else 2

-- A write is one of an operation that is decided once and has more to write, the next in order, and no
-- other request is under way.
pub record IsWrite (offset : ℕ) (bytes : List ℕ) (notes : List Note) : Type 0 where
  pub under : under_way notes ≡ true
  pub alone : request notes ≡ no_request
  pub decided_once : decisions notes ≡ 1
  pub more : (none : Outcome × Table) → written notes < writes_for notes none
  pub next : (none : Outcome × Table) → (offset, bytes) ≡ write_at notes none

-- An operation ends that is decided once and has written all, and no request is under way.
pub record IsEnd (notes : List Note) : Type 0 where
  pub under : under_way notes ≡ true
  pub alone : request notes ≡ no_request
  pub decided_once : decisions notes ≡ 1
  pub written_all : (none : Outcome × Table) → written notes ≡ writes_for notes none

-- An answer is one to the request under way: a payload is as long as the read asked for.
pub record IsAnswer (asked : Request) (notes : List Note) : Type 0 where
  pub under : under_way notes ≡ true
  pub own : request notes ≡ asked

-- An operation fails while a request of it is under way.
pub record IsFailure (notes : List Note) : Type 0 where
  pub under : under_way notes ≡ true
  pub asked : is_asked (request notes) ≡ true

-- Each note is lawful after those before it.
abbrev pub Lawful : List Note → Type 0
Lawful [] = Unit {0}
Lawful (started source orb ∷ notes) = (under_way notes ≡ false) × Lawful notes
Lawful (reads offset size ∷ notes) = IsRead offset size notes × Lawful notes
Lawful (writes offset bytes ∷ notes) = IsWrite offset bytes notes × Lawful notes
Lawful (got bytes ∷ notes) = IsAnswer (a_read (length bytes)) notes × Lawful notes
Lawful (done ∷ notes) = IsAnswer a_write notes × Lawful notes
Lawful (decided before keys decision effect left ∷ notes) = IsDecision before keys decision effect left notes × Lawful notes
Lawful (ended ∷ notes) = IsEnd notes × Lawful notes
Lawful (failed cause ∷ notes) = IsFailure notes × Lawful notes
Lawful (cleared ∷ notes) = Lawful notes

abbrev pub OperationLaw : Type 0
OperationLaw = (calls : List Call) → Lawful (notes_of calls)
