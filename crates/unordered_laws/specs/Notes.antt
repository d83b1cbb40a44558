-- What the calls of an agent of the unordered unit tell, the latest first.
use Rattle.std.specs.Prelude.{ℕ, ◌-◌, ◌%◌, ◌==◌, is_some, if◌then◌else◌, Bool, true, false, List, [], ◌∷◌, Option, Some, None, Result, Ok, Err}
use Rattle.orb_layout.specs.declared.ask.Ask.{Ask}
use Rattle.orb_layout.specs.declared.ask.Ask.TheVariants.{Read}
use Rattle.orb_layout.specs.declared.ask.FailCause.{FailCause}
use Rattle.orb_layout.specs.declared.pointer.OrbPointer.{OrbPointer}
use Rattle.orb_layout.specs.declared.pointer.OrbPointer.TheVariants.{Null, At}
use Rattle.orb_layout.specs.declared.status.StatusKind.{StatusKind}
use Rattle.orb_layout.specs.CommandOrbs.{command_orb}
use Rattle.orb_layout.specs.Pointers.{pointer_at}
use Rattle.orb_layout.specs.Replies.{Answer, payload_of}
use Rattle.rbc_disk.specs.declared.command.Outcome.{Outcome}
use Rattle.command_agent.specs.declared.step.PointRefusal.{PointRefusal}
use Rattle.command_agent.specs.Tasks.{writes_status}
use Rattle.unordered_agent.specs.declared.fetcher.FetchPhase.{FetchPhase}
use Rattle.unordered_agent.specs.declared.fetcher.FetchPhase.TheVariants as phases
use Rattle.unordered_agent.specs.declared.step.TaskStep.{TaskStep}
use Rattle.unordered_agent.specs.Machine.{TaskMachine, task_at, is_busy}
use Rattle.unordered_agent.specs.Steps.{asked, point_step, doorbell_step, place_of}
use Rattle.unordered_laws.specs.Calls.{Call, Point, Doorbell, Reset, Reply, after_calls, replied}

-- the address of an ORB: the two low bits of a pointer count as zero
abbrev pub aligned : ℕ → ℕ
aligned offset = offset - offset % 4

-- From the initiator: a pointer was taken; a doorbell; the list was cut; the transaction of a place, 8 that of the fetcher, was answered or failed. The ORB that the fetcher read, or whose read failed, took a task place, with its address and its next pointer; the next pointer of the last ORB was read again. Of the ORB in a task place: its command ran; it ended, and these bytes are its status block; its status write was answered or failed. What a call asks for, with the places, in the order of sending. The agent became dead, so that no other task goes on.
pub data Note : Type 0 where
  Pointed : (at : ℕ) → Note
  Rung : Note
  Cut : Note
  Came : (place : ℕ) → Note
  Got : (place at : ℕ) (next : OrbPointer) → Note
  Reread : (next : OrbPointer) → Note
  Ran : (place : ℕ) → Note
  Ended : (place : ℕ) (kind : StatusKind) (bytes : List ℕ) → Note
  Answered : (place : ℕ) → Note
  Sent : (asks : List (ℕ × Ask)) → Note
  Died : Note

-- what a place asks for among requests
abbrev pub ask_of : ℕ → List (ℕ × Ask) → Option Ask
ask_of place [] = None
ask_of place ((other, ask) ∷ asks) = if other == place then Some ask else ask_of place asks

-- the fetcher's read under way: its address and its length
abbrev pub read_by : Option Ask → Option (ℕ × ℕ) → Option (ℕ × ℕ)
read_by (Some (Read offset size)) reading = Some (offset, size)
read_by _ reading = reading

abbrev pub reading_in : List Note → Option (ℕ × ℕ)
reading_in [] = None
reading_in (Sent asks ∷ ns) = read_by (ask_of 8 asks) (reading_in ns)
reading_in (Came place ∷ ns) = if place == 8 then None else reading_in ns
reading_in (Cut ∷ ns) = None
reading_in (Died ∷ ns) = None
reading_in (_ ∷ ns) = reading_in ns

-- a request of a task place is under way
abbrev pub under_way : ℕ → List Note → Bool
under_way place [] = false
under_way place (Sent asks ∷ ns) = if is_some (ask_of place asks) then true else under_way place ns
under_way place (Came other ∷ ns) = if other == place then false else under_way place ns
under_way place (Cut ∷ ns) = false
under_way place (Died ∷ ns) = false
under_way place (_ ∷ ns) = under_way place ns

abbrev pub address_of : Option (ℕ × ℕ) → ℕ
address_of None = 0
address_of (Some (offset, size)) = offset

-- the next pointer in the bytes of an ORB; null where its read failed
abbrev pub next_by : Result (List ℕ) FailCause → OrbPointer
next_by (Ok bytes) = (command_orb bytes).next
next_by (Err cause) = Null

abbrev pub reread_notes : Result (List ℕ) FailCause → List Note → List Note
reread_notes (Ok bytes) ns = Reread (pointer_at bytes 0) ∷ ns
reread_notes (Err cause) ns = ns

-- what came of the fetcher's transaction, and of that of a task
abbrev pub fetch_notes : FetchPhase → ℕ → ℕ → Answer → List Note → List Note
fetch_notes phases.Fetching place at answer ns = Got place at (next_by (payload_of answer 32)) ∷ ns
fetch_notes phases.ReadingNext place at answer ns = reread_notes (payload_of answer 8) ns
fetch_notes _ place at answer ns = ns

abbrev pub answer_notes : Bool → ℕ → List Note → List Note
answer_notes true place ns = Answered place ∷ ns
answer_notes false place ns = ns

abbrev pub heard_at : Bool → TaskMachine → ℕ → Answer → List Note → List Note
heard_at true s place answer ns = fetch_notes s.fetcher.phase (place_of s 8) (address_of (reading_in ns)) answer (Came 8 ∷ ns)
heard_at false s place answer ns = answer_notes (writes_status (task_at s place).phase) place (Came place ∷ ns)

abbrev pub heard : Bool → TaskMachine → ℕ → Answer → List Note → List Note
heard true s place answer ns = heard_at (place == 8) s place answer ns
heard false s place answer ns = ns

-- what a step tells of the ORB in a place, with the bytes that the place then has to write
abbrev pub ran_notes : ℕ → Option Outcome → List Note → List Note
ran_notes place None ns = ns
ran_notes place (Some outcome) ns = Ran place ∷ ns

abbrev pub end_notes : ℕ → Option StatusKind → List ℕ → List Note → List Note
end_notes place None bytes ns = ns
end_notes place (Some kind) bytes ns = Ended place kind bytes ∷ ns

abbrev pub death_notes : Option FailCause → List Note → List Note
death_notes None ns = ns
death_notes (Some cause) ns = Died ∷ ns

abbrev pub step_notes : ℕ → TaskStep → List ℕ → List Note → List Note
step_notes place step bytes ns = death_notes step.dead (Sent step.asks ∷ end_notes place step.ended bytes (ran_notes place step.ran ns))

abbrev pub pointer_taken : OrbPointer → List Note → List Note
pointer_taken Null ns = ns
pointer_taken (At first) ns = Pointed (aligned first) ∷ ns

abbrev pub point_notes : OrbPointer → Result Ask PointRefusal → List Note → List Note
point_notes pointer (Ok ask) ns = Sent (asked 8 ask) ∷ pointer_taken pointer ns
point_notes pointer (Err refusal) ns = ns

abbrev pub noted : Call → TaskMachine → List Note → List Note
noted (Point pointer) s ns = point_notes pointer (point_step s pointer).0 ns
noted Doorbell s ns = Sent (asked 8 (doorbell_step s).0) ∷ Rung ∷ ns
noted Reset s ns = Cut ∷ ns
noted (Reply login plain told place answer) s ns =
    step_notes (place_of s place) (replied login plain told place answer s).0 (task_at (replied login plain told place answer s).1 (place_of s place)).outgoing
    (heard (is_busy place s) s place answer ns)

abbrev pub notes : List Call → List Note
notes [] = []
notes (call ∷ calls) = noted call (after_calls calls) (notes calls)

-- a list is open: a pointer was taken, and it was not cut since
abbrev pub is_open : List Note → Bool
is_open [] = false
is_open (Pointed at ∷ ns) = true
is_open (Cut ∷ ns) = false
is_open (_ ∷ ns) = is_open ns

-- the agent became dead, and its list was not cut since
abbrev pub is_dead : List Note → Bool
is_dead [] = false
is_dead (Died ∷ ns) = true
is_dead (Pointed at ∷ ns) = false
is_dead (Cut ∷ ns) = false
is_dead (_ ∷ ns) = is_dead ns
