-- The management agent, one request after the other (NCITS 325-1998, management agent).
use Rattle.std.specs.Prelude.{◌≡◌, ℕ, ◌+◌, ◌*◌, ◌^◌, ◌==◌, if◌then◌else◌, List, [], length, take, Option, Some, None, Result, Ok, Err}
use Rattle.sbp_base.specs.Quadlets.{quad}
use Rattle.orb_layout.specs.declared.management.ManagementOrb.{ManagementOrb}
use Rattle.orb_layout.specs.declared.status.StatusKind.TheVariants as kinds
use Rattle.orb_layout.specs.declared.ask.Ask.{Ask}
use Rattle.orb_layout.specs.declared.ask.Ask.TheVariants as asks
use Rattle.orb_layout.specs.declared.ask.FailCause.{FailCause}
use Rattle.orb_layout.specs.ManagementOrbs.{management_orb}
use Rattle.orb_layout.specs.Replies.{Answer, payload_of, write_failure}
use Rattle.orb_layout.specs.StatusBlocks.{status_bytes}
use Rattle.login_table.specs.Table.{Table}
use Rattle.mgmt_agent.specs.declared.status.Status.{Status}
use Rattle.mgmt_agent.specs.declared.status.Status.TheVariants as statuses
use Rattle.mgmt_agent.specs.Statuses.{number_of}
use Rattle.mgmt_agent.specs.declared.decision.Effect.TheVariants as effects
use Rattle.mgmt_agent.specs.declared.decision.Outcome.{Outcome}
use Rattle.mgmt_agent.specs.declared.decision.ManagerStep.{ManagerStep}
use Rattle.mgmt_agent.specs.declared.operation.Busy.{Busy}
use Rattle.mgmt_agent.specs.declared.operation.Operation.{Operation}
use Rattle.mgmt_agent.specs.declared.operation.Phase.{Phase}
use Rattle.mgmt_agent.specs.declared.operation.Phase.TheVariants as phases
use Rattle.mgmt_agent.specs.Decisions.{decide, reads_eui, told, response_bytes}

-- the operation under way, and the bytes of the write last asked for
pub record Machine : Type 0 where
  pub operation : Option Operation
  pub outgoing : List ℕ

abbrev pub new_machine : Machine
new_machine = record { operation = None; outgoing = [] }

-- the node whose operation is under way
abbrev pub source_in : Option Operation → Option ℕ
source_in None = None
source_in (Some operation) = Some operation.source

-- the payload that a phase waits for; two phases wait for a write
abbrev pub read_size : Phase → Option ℕ
read_size phases.Orb = Some 32
read_size (phases.HighEui orb) = Some 4
read_size (phases.LowEui orb high) = Some 4
read_size (phases.Response fifo) = None
read_size phases.Status = None

-- A request is asked for exactly while an operation is under way, and it is what its phase waits for.
abbrev pub Asks : Ask → Option Operation → ℕ → Type 0
Asks asks.Nothing operation outgoing = operation ≡ None
Asks (asks.Read offset size) None outgoing = ⊥
Asks (asks.Read offset size) (Some operation) outgoing = read_size operation.phase ≡ Some size
Asks (asks.Write offset size) None outgoing = ⊥
Asks (asks.Write offset size) (Some operation) outgoing = (read_size operation.phase ≡ None) × (size ≡ outgoing)

-- the high and the low quadlet of the EUI-64 in a ROM
abbrev pub high_eui_at : ℕ
high_eui_at = 0xfffff000040c

abbrev pub low_eui_at : ℕ
low_eui_at = 0xfffff0000410

-- a step that asks for something and does nothing else
abbrev pub quiet : Ask → ManagerStep
quiet ask = record { ask = ask; decided = None; effect = effects.Nothing; failed = None }

abbrev pub failing : FailCause → ManagerStep
failing cause = record { ask = asks.Nothing; decided = None; effect = effects.Nothing; failed = Some cause }

-- the machine with an operation in a phase
abbrev pub in_phase : Machine → Operation → Phase → Machine
in_phase m operation phase = record m { operation = Some (record operation { phase = phase }) }

abbrev pub start_with : Option Operation → Machine → ℕ → ℕ → Result Ask Busy × Machine
start_with None m source orb = (Ok (asks.Read orb 32), record m { operation = Some (record { source = source; orb = orb; phase = phases.Orb }) })
start_with (Some operation) m source orb = (Err (record {}), m)

-- An operation is started where none is under way: its ORB is read.
unfoldable pub start_step : Machine → ℕ → ℕ → Result Ask Busy × Machine
start_step m source orb = start_with m.operation m source orb

abbrev pub end_step : Machine → ManagerStep × Machine
end_step m = (quiet asks.Nothing, record m { operation = None })

abbrev pub fail_step : Machine → FailCause → ManagerStep × Machine
fail_step m cause = (failing cause, record m { operation = None })

-- the status block of a management ORB
abbrev pub status_block : ℕ → Status → List ℕ
status_block orb status = status_bytes (record { src = 0; kind = kinds.Management (number_of status); orb = orb })

-- The status block is written to the ORB's FIFO.
abbrev pub status_step : Machine → Operation → ℕ → Status → ManagerStep × Machine
status_step m operation fifo status =
    (quiet (asks.Write fifo 8), record m { operation = Some (record operation { phase = phases.Status }); outgoing = status_block operation.orb status })

-- The response that goes out is written; where that is empty, the status block is.
abbrev pub respond_step : Machine → Operation → ManagementOrb → Status → ManagerStep × Machine
respond_step m operation orb status =
    if length m.outgoing == 0
    then status_step m operation orb.fifo status
    else (quiet (asks.Write orb.second (length m.outgoing)), in_phase m operation (phases.Response orb.fifo))

-- A quadlet of the source's EUI-64 is read.
abbrev pub eui_step : Machine → Operation → Phase → ℕ → ManagerStep × Machine
eui_step m operation phase at = (quiet (asks.Read at 4), in_phase m operation phase)

-- the response to an ORB, cut after the length that the ORB allows
abbrev pub cut_response : ManagementOrb → Outcome → Table → List ℕ
cut_response orb outcome table = take orb.response_length (response_bytes outcome.response table.places)

-- a step tells a decision and its effect
abbrev pub telling : ManagementOrb → Outcome → ManagerStep → ManagerStep
telling orb outcome step = record step { decided = Some (told orb outcome); effect = outcome.effect }

-- The ORB is decided, and what the target writes first is asked for.
abbrev pub decided_as : Outcome × Table → Machine → Operation → ManagementOrb → ManagerStep × (Machine × Table)
decided_as (outcome, table) m operation orb =
    let s = respond_step (record m { outgoing = cut_response orb outcome table }) operation orb outcome.status in
    (telling orb outcome s.0, (s.1, table))

unfoldable pub decide_step : Machine → Operation → ManagementOrb → ℕ → Table → List (List ℕ) → ManagerStep × (Machine × Table)
decide_step m operation orb eui table keys = decided_as (decide orb operation.source eui table keys) m operation orb

-- a step that leaves the logins as they are
abbrev pub beside : Table → ManagerStep × Machine → ManagerStep × (Machine × Table)
beside table s = (s.0, (s.1, table))

-- The ORB was read: the EUI-64 is read where the function wants it, else the ORB is decided.
abbrev pub orb_read : Machine → Operation → ManagementOrb → Table → List (List ℕ) → ManagerStep × (Machine × Table)
orb_read m operation orb table keys =
    if reads_eui orb
    then beside table (eui_step m operation (phases.HighEui orb) high_eui_at)
    else decide_step m operation orb 0 table keys

abbrev pub orb_got : Result (List ℕ) FailCause → Machine → Operation → Table → List (List ℕ) → ManagerStep × (Machine × Table)
orb_got (Err cause) m operation table keys = beside table (fail_step m cause)
orb_got (Ok bytes) m operation table keys = orb_read m operation (management_orb bytes) table keys

abbrev pub high_got : Result (List ℕ) FailCause → Machine → Operation → ManagementOrb → ManagerStep × Machine
high_got (Err cause) m operation orb = fail_step m cause
high_got (Ok bytes) m operation orb = eui_step m operation (phases.LowEui orb (quad bytes 0)) low_eui_at

abbrev pub low_got : Result (List ℕ) FailCause → Machine → Operation → ManagementOrb → ℕ → Table → List (List ℕ) → ManagerStep × (Machine × Table)
low_got (Err cause) m operation orb high table keys = beside table (fail_step m cause)
low_got (Ok bytes) m operation orb high table keys = decide_step m operation orb (high * 2 ^ 32 + quad bytes 0) table keys

-- The response was written: the status block is next, with status 00.
abbrev pub response_written : Option FailCause → Machine → Operation → ℕ → ManagerStep × Machine
response_written None m operation fifo = status_step m operation fifo statuses.NoFault
response_written (Some cause) m operation fifo = fail_step m cause

-- The status block was written, and the operation ends.
abbrev pub status_written : Option FailCause → Machine → ManagerStep × Machine
status_written None m = end_step m
status_written (Some cause) m = fail_step m cause

abbrev pub reply_in : Phase → Machine → Operation → Table → List (List ℕ) → Answer → ManagerStep × (Machine × Table)
reply_in phases.Orb m operation table keys answer = orb_got (payload_of answer 32) m operation table keys
reply_in (phases.HighEui orb) m operation table keys answer = beside table (high_got (payload_of answer 4) m operation orb)
reply_in (phases.LowEui orb high) m operation table keys answer = low_got (payload_of answer 4) m operation orb high table keys
reply_in (phases.Response fifo) m operation table keys answer = beside table (response_written (write_failure answer) m operation fifo)
reply_in phases.Status m operation table keys answer = beside table (status_written (write_failure answer) m)

abbrev pub reply_to : Option Operation → Machine → Table → List (List ℕ) → Answer → ManagerStep × (Machine × Table)
reply_to None m table keys answer = beside table (quiet asks.Nothing, m)
reply_to (Some operation) m table keys answer = reply_in operation.phase m operation table keys answer

-- A reply to what was asked last, and the logins at that time.
unfoldable pub reply_step : Machine → Table → List (List ℕ) → Answer → ManagerStep × (Machine × Table)
reply_step m table keys answer = reply_to m.operation m table keys answer

abbrev pub clear_step : Machine → Machine
clear_step m = record m { operation = None }
