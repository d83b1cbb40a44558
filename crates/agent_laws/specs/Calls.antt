-- Lists of the calls of an agent, and what they tell, the latest first.
use Rattle.std.specs.Prelude.{◌≡◌, ℕ, suc, ◌-◌, ◌*◌, ◌%◌, length, Bool, true, false, if◌then◌else◌, List, [], ◌∷◌, Option, Some, None, Result, Ok, Err}
use Rattle.orb_layout.specs.declared.ask.Ask.{Ask}
use Rattle.orb_layout.specs.declared.ask.Ask.TheVariants.{Read, Write, Nothing}
use Rattle.orb_layout.specs.declared.ask.FailCause.{FailCause}
use Rattle.orb_layout.specs.declared.command.CommandOrb.{CommandOrb}
use Rattle.orb_layout.specs.declared.pointer.OrbPointer.{OrbPointer}
use Rattle.orb_layout.specs.declared.pointer.OrbPointer.TheVariants.{Null, At}
use Rattle.orb_layout.specs.declared.status.StatusKind.{StatusKind}
use Rattle.orb_layout.specs.CommandOrbs.{command_orb}
use Rattle.orb_layout.specs.Pointers.{pointer_at}
use Rattle.rbc_disk.specs.declared.command.BufferPlan.{BufferPlan}
use Rattle.rbc_disk.specs.declared.command.Outcome.{Outcome}
use Rattle.rbc_disk.specs.Units.{PlainDisk}
use Rattle.rbc_disk.specs.Runs.{need_of, Feeds, Told}
use Rattle.command_agent.specs.declared.phase.Phase.{Phase}
use Rattle.command_agent.specs.declared.phase.Phase.TheVariants as phases
use Rattle.command_agent.specs.declared.phase.ReadAhead.{ReadAhead}
use Rattle.command_agent.specs.declared.phase.ReadAhead.TheVariants as aheads
use Rattle.command_agent.specs.declared.step.AgentStep.{AgentStep}
use Rattle.command_agent.specs.declared.step.PointRefusal.{PointRefusal}
use Rattle.command_agent.specs.declared.step.Which.{Which}
use Rattle.command_agent.specs.declared.step.Which.TheVariants.{Main, Ahead}
use Rattle.orb_layout.specs.Replies.{Answer, payload_of, write_failure}
use Rattle.command_agent.specs.Machine.{Machine, new_machine, is_ahead, plan_of, chunk_of}
use Rattle.command_agent.specs.Steps.{point_step, doorbell_step, reset_step, abort_step, reply_step}

-- the address of an ORB: the two low bits of a pointer count as zero
abbrev pub aligned : ℕ → ℕ
aligned offset = offset - offset % 4

-- the ORB that a pointer names
abbrev pub named : OrbPointer → Option ℕ
named Null = None
named (At offset) = Some (aligned offset)

-- a call; a reply with what the unit and its medium hold, and what a run tells where there is one
pub data Call : Type 0 where
  Point : (pointer : OrbPointer) → Call
  Doorbell : Call
  Reset : Call
  Abort : (orb : ℕ) → Call
  Reply : (place : ℕ) (plain : PlainDisk) (told : Option Told) (which : Which) (answer : Answer) → Call

abbrev pub after_call : Call → Machine → Machine
after_call (Point pointer) m = (point_step m pointer).1
after_call Doorbell m = (doorbell_step m).1
after_call Reset m = reset_step m
after_call (Abort orb) m = abort_step m orb
after_call (Reply place plain told which answer) m = (reply_step m place plain told which answer).1

abbrev pub after_calls : List Call → Machine
after_calls [] = new_machine
after_calls (call ∷ calls) = after_call call (after_calls calls)

-- What calls tell, each ORB named by its address. From the initiator: a pointer was taken; a doorbell; the list was cut. What came of a transaction. Of the present ORB: its turn came; its bytes, its page table and a chunk of its data were read; the next pointer of the last ORB was read again; the bytes of the ORB behind it were read ahead, and used at its turn; its command ran, with this buffer and data, and told this. What was asked for: reads, the writes of an answer, and as an ORB ended the write of its status block, each with its address, its length and its bytes; or the read ahead became the main transaction. The agent became dead.
pub data Note : Type 0 where
  Pointed : (at : ℕ) → Note
  Rung : Note
  Cut : Note
  Came : (which : Which) (answer : Answer) → Note
  Turn : (at : ℕ) → Note
  Fetched : (orb : CommandOrb) → Note
  Table : (bytes : List ℕ) → Note
  Data : (bytes : List ℕ) → Note
  Reread : (next : OrbPointer) → Note
  AheadRead : (orb : CommandOrb) → Note
  AheadUsed : (orb : CommandOrb) → Note
  Ran : (at : ℕ) (orb : CommandOrb) (buffer : BufferPlan) (place : ℕ) (plain : PlainDisk) (payload : List ℕ) (outcome : Outcome) (answer : List ℕ) → Note
  Reads : (which : Which) (offset size : ℕ) → Note
  Writes : (offset size : ℕ) (bytes : List ℕ) → Note
  Promoted : Note
  Ended : (at : ℕ) (kind : StatusKind) (offset size : ℕ) (bytes : List ℕ) → Note
  Died : (cause : FailCause) → Note

-- what was asked for, with the bytes of a write
abbrev pub asked : Which → Ask → List ℕ → List Note → List Note
asked which (Read offset size) bytes ns = Reads which offset size ∷ ns
asked which (Write offset size) bytes ns = Writes offset size bytes ∷ ns
asked which Nothing bytes ns = ns

abbrev pub pointer_taken : OrbPointer → List Note → List Note
pointer_taken Null ns = ns
pointer_taken (At next) ns = Pointed (aligned next) ∷ ns

abbrev pub point_notes : OrbPointer → Result Ask PointRefusal → List Note → List Note
point_notes pointer (Ok ask) ns = asked Main ask [] (pointer_taken pointer ns)
point_notes pointer (Err refusal) ns = ns

-- the turn of the next ORB, by the next pointer and what was read ahead
abbrev pub turn_notes : OrbPointer → ReadAhead → List Note → List Note
turn_notes Null ahead ns = ns
turn_notes (At next) (aheads.Kept orb) ns = Fetched orb ∷ Turn (aligned next) ∷ AheadUsed orb ∷ ns
turn_notes (At next) _ ns = Turn (aligned next) ∷ ns

abbrev pub fetch_notes : Result (List ℕ) FailCause → List Note → List Note
fetch_notes (Ok bytes) ns = Fetched (command_orb bytes) ∷ ns
fetch_notes (Err cause) ns = ns

abbrev pub table_notes : Result (List ℕ) FailCause → List Note → List Note
table_notes (Ok bytes) ns = Table bytes ∷ ns
table_notes (Err cause) ns = ns

abbrev pub data_notes : Result (List ℕ) FailCause → List Note → List Note
data_notes (Ok bytes) ns = Data bytes ∷ ns
data_notes (Err cause) ns = ns

abbrev pub reread_notes : Result (List ℕ) FailCause → ReadAhead → List Note → List Note
reread_notes (Ok bytes) ahead ns = turn_notes (pointer_at bytes 0) ahead (Reread (pointer_at bytes 0) ∷ ns)
reread_notes (Err cause) ahead ns = ns

abbrev pub status_notes : Option FailCause → OrbPointer → ReadAhead → List Note → List Note
status_notes None next ahead ns = turn_notes next ahead ns
status_notes (Some cause) next ahead ns = ns

abbrev pub ahead_notes : Result (List ℕ) FailCause → List Note → List Note
ahead_notes (Ok bytes) ns = AheadRead (command_orb bytes) ∷ ns
ahead_notes (Err cause) ns = ns

-- what a reply to a transaction tells
abbrev pub main_notes : Phase → Machine → Answer → List Note → List Note
main_notes phases.Fetching m answer ns = fetch_notes (payload_of answer 32) ns
main_notes phases.ReadingTable m answer ns = table_notes (payload_of answer (8 * m.orb.data_size)) ns
main_notes (phases.ReadingData wanted) m answer ns = data_notes (payload_of answer (chunk_of m (length m.payload) wanted).length) ns
main_notes phases.ReadingNext m answer ns = reread_notes (payload_of answer 8) m.ahead ns
main_notes phases.WritingStatus m answer ns = status_notes (write_failure answer) m.orb.next m.ahead ns
main_notes _ m answer ns = ns

abbrev pub heard : Machine → Which → Answer → List Note → List Note
heard m Main answer ns = main_notes m.phase m answer (Came Main answer ∷ ns)
heard m Ahead answer ns = if is_ahead m.ahead then ahead_notes (payload_of answer 32) (Came Ahead answer ∷ ns) else Came Ahead answer ∷ ns

-- what the step tells of the present ORB
abbrev pub run_notes : Option Outcome → (Outcome → Note) → List Note → List Note
run_notes None note ns = ns
run_notes (Some outcome) note ns = note outcome ∷ ns

abbrev pub promotion_notes : Bool → List Note → List Note
promotion_notes true ns = Promoted ∷ ns
promotion_notes false ns = ns

abbrev pub death_notes : Option FailCause → List Note → List Note
death_notes None ns = ns
death_notes (Some cause) ns = Died cause ∷ ns

-- the request of a step; with `ended` it is the write of the status block
abbrev pub status_note : StatusKind → Ask → ℕ → List ℕ → List Note → List Note
status_note kind (Write offset size) at bytes ns = Ended at kind offset size bytes ∷ ns
status_note kind _ at bytes ns = Ended at kind 0 0 [] ∷ ns

abbrev pub ask_notes : Option StatusKind → Ask → ℕ → List ℕ → List Note → List Note
ask_notes (Some kind) ask at bytes ns = status_note kind ask at bytes ns
ask_notes None ask at bytes ns = asked Main ask bytes ns

abbrev pub step_notes : ℕ → PlainDisk → AgentStep → Machine → List Note → List Note
step_notes place plain step m ns =
    asked Ahead step.ahead []
    (death_notes step.dead
    (ask_notes step.ended step.ask m.present m.outgoing
    (run_notes step.ran (λ outcome. Ran m.present m.orb (plan_of m) place plain m.payload outcome m.answer)
    (promotion_notes step.promoted ns))))

abbrev pub noted : Call → Machine → List Note → List Note
noted (Point pointer) m ns = point_notes pointer (point_step m pointer).0 ns
noted Doorbell m ns = asked Main (doorbell_step m).0 [] (Rung ∷ ns)
noted Reset m ns = Cut ∷ ns
noted (Abort orb) m ns = ns
noted (Reply place plain told which answer) m ns =
    step_notes place plain (reply_step m place plain told which answer).0 (reply_step m place plain told which answer).1 (heard m which answer ns)

abbrev pub notes : List Call → List Note
notes [] = []
notes (call ∷ calls) = noted call (after_calls calls) (notes calls)

-- a list is open: a pointer was taken, and it was not cut since
abbrev pub is_open : List Note → Bool
is_open [] = false
is_open (Pointed at ∷ ns) = true
is_open (Cut ∷ ns) = false
is_open (_ ∷ ns) = is_open ns

-- the present ORB: the one pointed to, or whose turn came, until it ends
abbrev pub present_in : List Note → Option ℕ
present_in [] = None
present_in (Pointed at ∷ ns) = Some at
present_in (Turn at ∷ ns) = Some at
present_in (Cut ∷ ns) = None
present_in (Ended at kind offset size bytes ∷ ns) = None
present_in (_ ∷ ns) = present_in ns

-- its bytes
abbrev pub fetched_in : List Note → Option CommandOrb
fetched_in [] = None
fetched_in (Fetched orb ∷ ns) = Some orb
fetched_in (Pointed at ∷ ns) = None
fetched_in (Turn at ∷ ns) = None
fetched_in (_ ∷ ns) = fetched_in ns

-- the next pointer last read of the present or last ORB
abbrev pub next_in : List Note → OrbPointer
next_in [] = Null
next_in (Fetched orb ∷ ns) = orb.next
next_in (Reread next ∷ ns) = next
next_in (Pointed at ∷ ns) = Null
next_in (Turn at ∷ ns) = Null
next_in (_ ∷ ns) = next_in ns

-- how often it ran
abbrev pub runs_in : List Note → ℕ
runs_in [] = 0
runs_in (Ran at orb buffer place plain payload outcome answer ∷ ns) = suc (runs_in ns)
runs_in (Pointed at ∷ ns) = 0
runs_in (Turn at ∷ ns) = 0
runs_in (_ ∷ ns) = runs_in ns

-- the bytes of the ORB behind it, read ahead since its own turn
abbrev pub ahead_in : List Note → Option CommandOrb
ahead_in [] = None
ahead_in (AheadRead orb ∷ ns) = Some orb
ahead_in (AheadUsed orb ∷ ns) = None
ahead_in (Pointed at ∷ ns) = None
ahead_in (Turn at ∷ ns) = None
ahead_in (Cut ∷ ns) = None
ahead_in (_ ∷ ns) = ahead_in ns

-- In an open list the turn comes when the ORB before has ended, and to the ORB that its next pointer last read names. Bytes read ahead are used at the turn behind that in which they were read, once. The command of the present ORB runs once, as its bytes were read, with all of its data. A chunk of an answer is written when it has run. The present ORB ends, and is then no more the present one.
abbrev pub Lawful : List Note → Type 0
Lawful [] = Unit {0}
Lawful (Turn at ∷ ns) = (present_in ns ≡ None) × (is_open ns ≡ true) × (named (next_in ns) ≡ Some at) × Lawful ns
Lawful (AheadUsed orb ∷ ns) = (ahead_in ns ≡ Some orb) × Lawful ns
Lawful (Ran at orb buffer place plain payload outcome answer ∷ ns) =
    (present_in ns ≡ Some at) × (runs_in ns ≡ 0) × (fetched_in ns ≡ Some orb) × Feeds (need_of orb.cdb buffer plain place) payload × Lawful ns
Lawful (Writes offset size bytes ∷ ns) = (runs_in ns ≡ 1) × Lawful ns
Lawful (Ended at kind offset size bytes ∷ ns) = (present_in ns ≡ Some at) × Lawful ns
Lawful (_ ∷ ns) = Lawful ns

-- the ORBs that ended since the latest pointer that was taken, the latest first
abbrev pub ended : List Note → List ℕ
ended [] = []
ended (Pointed at ∷ ns) = []
ended (Ended at kind offset size bytes ∷ ns) = at ∷ ended ns
ended (_ ∷ ns) = ended ns

-- those whose turn came, the one pointed to among them, but for one that was cut
abbrev pub begun : List Note → List ℕ
begun [] = []
begun (Pointed at ∷ ns) = at ∷ []
begun (Turn at ∷ ns) = at ∷ begun ns
begun (Cut ∷ ns) = ended ns
begun (_ ∷ ns) = begun ns

abbrev pub before_present : Option ℕ → List ℕ → List ℕ
before_present None orbs = orbs
before_present (Some at) orbs = at ∷ orbs

-- The ORBs whose turn came are, in order, those that ended, and then the present one.
abbrev pub InOrder : List Note → Type 0
InOrder ns = begun ns ≡ before_present (present_in ns) (ended ns)

-- Over every list of calls.
abbrev pub CallsAreLawful : Type 0
CallsAreLawful = (calls : List Call) → Lawful (notes calls)

abbrev pub CallsKeepOrder : Type 0
CallsKeepOrder = (calls : List Call) → InOrder (notes calls)
