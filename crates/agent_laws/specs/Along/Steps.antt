-- What each call of an agent does along a list (NCITS 325-1998, command block agents, ordered execution and status block).
use Rattle.std.specs.Prelude.{◌≡◌, ◌⊎◌, ℕ, suc, ◌+◌, ◌*◌, ◌==◌, ◌<◌, IfSome, true, false, List, [], ◌++◌, length, Option, Some, None, Result, Ok, Err}
use Rattle.orb_layout.specs.declared.ask.Ask.{Ask}
use Rattle.orb_layout.specs.declared.ask.Ask.TheVariants.{Read, Write, Nothing}
use Rattle.orb_layout.specs.declared.ask.FailCause.{FailCause}
use Rattle.orb_layout.specs.declared.command.CommandOrb.{CommandOrb}
use Rattle.orb_layout.specs.declared.pointer.OrbPointer.{OrbPointer}
use Rattle.orb_layout.specs.declared.status.StatusKind.{StatusKind}
use Rattle.orb_layout.specs.declared.status.StatusKind.TheVariants as kinds
use Rattle.orb_layout.specs.CommandOrbs.{command_orb}
use Rattle.orb_layout.specs.Pointers.{pointer_at}
use Rattle.orb_layout.specs.Replies.{Answer, payload_of, write_failure}
use Rattle.orb_layout.specs.StatusBlocks.{status_bytes}
use Rattle.page_table.specs.declared.segment.Segment.{Segment}
use Rattle.page_table.specs.Elements.{elements_of}
use Rattle.rbc_disk.specs.declared.command.Outcome.{Outcome}
use Rattle.rbc_disk.specs.Units.{PlainDisk}
use Rattle.rbc_disk.specs.Runs.{need_of, data_length_of, Feeds, Told}
use Rattle.command_agent.specs.declared.phase.Phase.{Phase}
use Rattle.command_agent.specs.declared.phase.Phase.TheVariants as phases
use Rattle.command_agent.specs.declared.step.AgentStep.{AgentStep}
use Rattle.command_agent.specs.declared.step.PointRefusal.{PointRefusal}
use Rattle.command_agent.specs.declared.step.Which.{Which}
use Rattle.command_agent.specs.declared.step.Which.TheVariants.{Main, Ahead}
use Rattle.command_agent.specs.Machine.{Machine, new_machine, is_ahead, chunk_of, named}
use Rattle.command_agent.specs.Steps.{src_of, answer_chunk, point_step, doorbell_step, reset_step, abort_step, reply_step, lost_step}
use Rattle.agent_laws.specs.Answers.{to_write}
use Rattle.agent_laws.specs.Buffers.{plan_for}
use Rattle.agent_laws.specs.Wire.{EndsBy}
use Rattle.agent_laws.specs.Along.Lists.{OrbList, Leads, IsGood, IsLaid, Grows}
use Rattle.agent_laws.specs.Along.Along.{Progress, at_start, IsNext, Along}
use Rattle.agent_laws.specs.Along.Requests.{main_under, ahead_under, main_by, ahead_by, forgets, main_beside, ahead_beside}

-- ---- how far the list is behind a step
abbrev pub run_by : Option Outcome → (answer : List ℕ) → Progress → Progress
run_by None answer p = p
run_by (Some outcome) answer p = record p { outcome = Some outcome; answer = answer; carried = 0 }

abbrev pub end_by : Option StatusKind → (src : ℕ) → Progress → Progress
end_by None src p = p
end_by (Some kind) src p = record p { ended = suc p.ended; outcome = None; answer = []; carried = 0; src = src }

abbrev pub progress_by : AgentStep × Machine → Progress → Progress
progress_by (step, m) p = end_by step.ended (src_of m.orb.next) (run_by step.ran m.answer p)

-- the write of a status block was answered, or it failed
abbrev pub status_by : Option FailCause → Progress → Progress
status_by None p = record p { answered = suc p.answered }
status_by (Some cause) p = p

-- the write of so many bytes of an answer
abbrev pub chunk_by : Option FailCause → ℕ → Progress → Progress
chunk_by None size p = record p { carried = p.carried + size }
chunk_by (Some cause) size p = p

abbrev pub main_heard : Phase → Machine → Answer → Progress → Progress
main_heard phases.Answering m answer p = chunk_by (write_failure answer) (answer_chunk m) p
main_heard phases.WritingStatus m answer p = status_by (write_failure answer) p
main_heard phases.WritingLastStatus m answer p = status_by (write_failure answer) p
main_heard _ m answer p = p

abbrev pub heard_by : Which → Machine → Answer → Progress → Progress
heard_by Main m answer p = main_heard m.phase m answer p
heard_by Ahead m answer p = p

-- ---- what a step tells
-- A run is that of the ORB behind those that have ended, for the first time, with its bytes, which are no dummy's, its buffer and its data, all of
-- them or none, and all where the command needs them.
pub record IsRun (l : OrbList) (p : Progress) (place : ℕ) (plain : PlainDisk) (at : ℕ) (orb : CommandOrb) (segments : List Segment) (payload : List ℕ) : Type 0 where
  pub turn : IsNext l p.ended p.answered at
  pub once : p.outcome ≡ None
  pub good : IsGood l p.ended orb
  pub proper : (orb.format == 3) ≡ false
  pub buffer : l.is_buffer p.ended orb segments
  pub part : l.is_data p.ended orb segments payload
  pub whole : (payload ≡ []) ⊎ (length payload ≡ data_length_of false orb.cdb)
  pub fed : Feeds (need_of orb.cdb (plan_for orb segments) plain place) payload

-- But where it failed, an ORB that ends was read, and as a dummy exactly where it ends as one.
abbrev pub WasRead : StatusKind → OrbList → ℕ → CommandOrb → Type 0
WasRead kinds.Failed l k orb = Unit {0}
WasRead kinds.Dummy l k orb = l.is_orb k orb × ((orb.format == 3) ≡ true)
WasRead _ l k orb = l.is_orb k orb × ((orb.format == 3) ≡ false)

-- Where it ends good, all of what its run told is written.
abbrev pub IsWhole : StatusKind → Progress → Type 0
IsWhole kinds.Good p = p.carried ≡ length (to_write p.outcome p.answer)
IsWhole _ p = Unit {0}

-- The ORB that ends is the one behind those that have ended; good or with a check behind its run with that outcome alone, as dummy, aborted or
-- illegal without one. Its status block is asked for, of this kind and with its address, and with src by its next pointer.
pub record IsEnd (l : OrbList) (p : Progress) (kind : StatusKind) (at : ℕ) (orb : CommandOrb) (outgoing : List ℕ) (ask : Ask) : Type 0 where
  pub turn : IsNext l p.ended p.answered at
  pub by : EndsBy kind p.outcome
  pub whole : IsWhole kind p
  pub read : WasRead kind l p.ended orb
  pub leads : Leads l p.ended orb.next
  pub block : outgoing ≡ status_bytes (record { src = src_of orb.next; kind = kind; orb = l.address p.ended })
  pub asks : ask ≡ Write 0 (length outgoing)

-- A step, with what is under way beside it: the agent is along the list, further by what the step tells; what it tells is of the ORB behind those
-- that have ended; and what is under way is what was asked for.
pub record Keeps (l : OrbList) (p : Progress) (place : ℕ) (plain : PlainDisk) (main ahead : Ask) (s : AgentStep × Machine) : Type 0 where
  pub along : Along l (progress_by s p) s.1
  pub runs : IfSome s.0.ran (λ outcome. IsRun l p place plain s.1.present s.1.orb s.1.segments s.1.payload)
  pub ends : IfSome s.0.ended (λ kind. IsEnd l (run_by s.0.ran s.1.answer p) kind s.1.present s.1.orb s.1.outgoing s.0.ask)
  pub main_is : main_under s.1 ≡ main_by s.0.promoted s.0.ask main ahead
  pub ahead_is : ahead_under s.1 ≡ ahead_by (forgets s.0) s.0.ahead ahead

-- ---- what the answer to a read is to bring
-- the bytes of the ORB of this number
abbrev pub BringsOrb : OrbList → ℕ → Answer → Type 0
BringsOrb l k answer = (bytes : List ℕ) → payload_of answer 32 ≡ Ok bytes → IsGood l k (command_orb bytes)

-- of the present ORB its bytes, its page table, or the next bytes of its data; of the last one its next pointer
abbrev pub MainBrings : OrbList → (ended : ℕ) → Phase → Machine → Answer → Type 0
MainBrings l ended phases.Fetching m answer = BringsOrb l ended answer
MainBrings l ended phases.ReadingTable m answer = (bytes : List ℕ) → payload_of answer (8 * m.orb.data_size) ≡ Ok bytes → l.is_buffer ended m.orb (elements_of bytes)
MainBrings l ended (phases.ReadingData wanted) m answer = (bytes : List ℕ) → payload_of answer (chunk_of m (length m.payload) wanted).length ≡ Ok bytes → l.is_data ended m.orb m.segments (m.payload ++ bytes)
MainBrings l ended phases.ReadingNext m answer = (bytes : List ℕ) (last : ℕ) → ended ≡ suc last → payload_of answer 8 ≡ Ok bytes → Leads l last (pointer_at bytes 0)
MainBrings l ended _ m answer = Unit {0}

-- of the ORB behind the present one, or behind the last one
abbrev pub AheadBrings : OrbList → (ended : ℕ) → Phase → Answer → Type 0
AheadBrings l ended phases.ReadingTable answer = BringsOrb l (suc ended) answer
AheadBrings l ended (phases.ReadingData wanted) answer = BringsOrb l (suc ended) answer
AheadBrings l ended phases.Answering answer = BringsOrb l (suc ended) answer
AheadBrings l ended phases.WritingStatus answer = BringsOrb l ended answer
AheadBrings l ended _ answer = Unit {0}

abbrev pub Brings : OrbList → (ended : ℕ) → Machine → Which → Answer → Type 0
Brings l ended m Main answer = MainBrings l ended m.phase m answer
Brings l ended m Ahead answer = AheadBrings l ended m.phase answer

-- ---- the laws of the calls
abbrev pub Replies : OrbList → Type 0
Replies l =
    (p : Progress) (m : Machine) (place : ℕ) (plain : PlainDisk) (told : Option Told) (which : Which) (answer : Answer) → IsLaid l → Along l p m → Brings l p.ended m which answer
    → Keeps l (heard_by which m answer p) place plain (main_beside which m) (ahead_beside which m) (reply_step m place plain told which answer)

abbrev pub Loses : OrbList → Type 0
Loses l =
    (p : Progress) (m : Machine) (place : ℕ) (plain : PlainDisk) (which : Which) (cause : FailCause) → Along l p m
    → Keeps l p place plain (main_beside which m) (ahead_beside which m) (lost_step m which cause)

-- the pointer to the first ORB is taken: from here on the agent is along the list
pub record IsBegun (l : OrbList) (ask : Ask) (m : Machine) : Type 0 where
  pub along : Along l at_start m
  pub asks : ask ≡ Read (l.address 0) 32
  pub main_is : main_under m ≡ ask
  pub ahead_is : ahead_under m ≡ Nothing

-- what a pointer brings, where it is taken and where not
abbrev pub PointerBrings : OrbList → Machine → Result Ask PointRefusal × Machine → Type 0
PointerBrings l m (Ok ask, now) = IsBegun l ask now
PointerBrings l m (Err refusal, now) = now ≡ m

abbrev pub Points : OrbList → Type 0
Points l =
    (m : Machine) (pointer : OrbPointer) → IsLaid l → named pointer ≡ Some (l.address 0) → 0 < l.linked → PointerBrings l m (point_step m pointer)

-- a call that tells nothing
pub record Stays (l : OrbList) (p : Progress) (m : Machine) (ask : Ask) (now : Machine) : Type 0 where
  pub along : Along l p now
  pub main_is : main_under now ≡ main_by false ask (main_under m) Nothing
  pub ahead_is : ahead_under now ≡ ahead_under m

abbrev pub Rings : OrbList → Type 0
Rings l = (p : Progress) (m : Machine) → Along l p m → Stays l p m (doorbell_step m).0 (doorbell_step m).1

abbrev pub Aborts : OrbList → Type 0
Aborts l = (p : Progress) (m : Machine) (orb : ℕ) → Along l p m → Stays l p m Nothing (abort_step m orb)

-- nothing is under way behind an AGENT_RESET, and no list is open
pub record IsCut (l : OrbList) (p : Progress) (now : Machine) : Type 0 where
  pub along : Along l p now
  pub main_is : main_under now ≡ Nothing
  pub ahead_is : ahead_under now ≡ Nothing

abbrev pub Resets : OrbList → Type 0
Resets l = (p : Progress) (m : Machine) → IsCut l p (reset_step m)

-- A list that grows keeps an agent along it.
abbrev pub GrowsLaw : OrbList → OrbList → Type 0
GrowsLaw l more = (p : Progress) (m : Machine) → Grows l more → Along l p m → Along more p m

-- ---- what is under way
-- the number of the ORB that is read ahead
abbrev pub number_behind : Phase → (ended : ℕ) → ℕ
number_behind phases.WritingStatus ended = ended
number_behind _ ended = suc ended

-- Of an agent along a list the present ORB is read at the address of the one behind those that have ended, the next pointer again at that of the last
-- one, and what is read ahead is the ORB behind.
pub record IsOfList (l : OrbList) (p : Progress) (m : Machine) : Type 0 where
  pub fetched : m.phase ≡ phases.Fetching → main_under m ≡ Read (l.address p.ended) 32
  pub again : m.phase ≡ phases.ReadingNext → (last : ℕ) → p.ended ≡ suc last → main_under m ≡ Read (l.address last) 8
  pub behind : is_ahead m.ahead ≡ true → ahead_under m ≡ Read (l.address (number_behind m.phase p.ended)) 32

abbrev pub Asks : OrbList → Type 0
Asks l = (p : Progress) (m : Machine) → Along l p m → IsOfList l p m

-- a new agent is along any list
abbrev pub StartsAlong : OrbList → Type 0
StartsAlong l = (p : Progress) → Along l p new_machine

-- Each call of an agent keeps it along a list.
pub record KeepsAlong (l : OrbList) : Type 0 where
  pub replies : Replies l
  pub loses : Loses l
  pub points : Points l
  pub rings : Rings l
  pub aborts : Aborts l
  pub resets : Resets l
  pub asks : Asks l
  pub begins : StartsAlong l
