-- What the steps of a task tell of its ORB, and how far they leave it.
use Rattle.std.proofs.Common.{◌≡◌, refl, ap, ℕ, ◌+◌, ◌*◌, ◌==◌, Bool, true, false, cond, List, ◌++◌, length, Option, Some, None, Result, Ok, Err}
use Rattle.orb_layout.specs.declared.ask.Ask.{Ask}
use Rattle.orb_layout.specs.declared.ask.Ask.TheVariants.{Nothing}
use Rattle.orb_layout.specs.declared.ask.FailCause.{FailCause}
use Rattle.orb_layout.specs.declared.ask.FailCause.TheVariants as causes
use Rattle.orb_layout.specs.declared.pointer.OrbPointer.{OrbPointer}
use Rattle.orb_layout.specs.declared.pointer.OrbPointer.TheVariants.{Null, At}
use Rattle.orb_layout.specs.declared.status.StatusKind.{StatusKind}
use Rattle.orb_layout.specs.declared.status.StatusKind.TheVariants as kinds
use Rattle.orb_layout.specs.CommandOrbs.{command_orb}
use Rattle.orb_layout.specs.StatusBlocks.{status_bytes}
use Rattle.orb_layout.specs.Replies.{Answer, payload_of, write_failure}
use Rattle.page_table.specs.declared.fault.PageFault.{PageFault}
use Rattle.page_table.specs.Elements.{elements_of, first_fault}
use Rattle.rbc_disk.specs.declared.command.Need.{Need}
use Rattle.rbc_disk.specs.declared.command.Need.TheVariants as needs
use Rattle.rbc_disk.specs.declared.command.Outcome.{Outcome}
use Rattle.rbc_disk.specs.declared.command.Outcome.TheVariants as outcomes
use Rattle.rbc_disk.specs.Units.{PlainDisk}
use Rattle.rbc_disk.specs.Runs.{need_of, Told}
use Rattle.command_agent.specs.declared.phase.Phase.{Phase}
use Rattle.command_agent.specs.declared.phase.Phase.TheVariants as agents
use Rattle.command_agent.specs.declared.step.AgentStep.{AgentStep}
use Rattle.command_agent.specs.declared.step.Move.{Move}
use Rattle.command_agent.specs.declared.step.Move.TheVariants as moves
use Rattle.command_agent.specs.declared.step.Which.TheVariants.{Main}
use Rattle.command_agent.specs.Machine.{Machine, aligned, plan_of, chunk_of}
use Rattle.command_agent.specs.Checks.{verdict, death_by, reads_table}
use Rattle.command_agent.specs.Steps.{src_of, block_of, end_step, told_or, served, sent, ran_as, with_outcome, run_step, judged, checked, answer_chunk, answer_step, chunk_written, data_step, data_grown, data_read, elements_read, table_read, unread_buffer, turned, advanced}
use Rattle.command_agent.specs.Steps as agent
use Rattle.command_agent.specs.Tasks.{begun, begin_step, writes_status}
use Rattle.unordered_agent.specs.Machine.{is_worked}
use Rattle.unordered_laws.specs.Notes.{next_by}
use Rattle.unordered_laws.specs.Stages.{Stage, Vacant, Waiting, Running, Ending, src_by, block_for}

-- how far an ORB is in a phase
abbrev pub stage_of : Phase → Stage
stage_of agents.ReadingTable = Waiting
stage_of (agents.ReadingData wanted) = Waiting
stage_of agents.Answering = Running
stage_of agents.WritingStatus = Ending
stage_of agents.WritingLastStatus = Ending
stage_of _ = Vacant

-- Of the ORB that made the agent dead the notes tell no more.
abbrev pub Agrees : Stage → Phase → Type 0
Agrees stage agents.WritingLastStatus = Unit {0}
Agrees stage phase = stage ≡ stage_of phase

abbrev pub staged : Option Outcome → Option StatusKind → Stage → Stage
staged ran (Some kind) from = Ending
staged (Some outcome) None from = Running
staged None None from = from

abbrev pub RunsFrom : Option Outcome → Stage → Type 0
RunsFrom None from = Unit {0}
RunsFrom (Some outcome) from = from ≡ Waiting

-- as an ORB ends, its status block is written
abbrev pub Blocks : Option StatusKind → List ℕ → ℕ × OrbPointer → Type 0
Blocks None bytes orb = Unit {0}
Blocks (Some kind) bytes orb = bytes ≡ block_for orb kind

abbrev pub is_asked : Ask → Bool
is_asked Nothing = false
is_asked ask = true

-- a step of an ORB in this stage, at this address and with this next pointer
pub record Tells (from : Stage) (orb : ℕ × OrbPointer) (t : AgentStep × Machine) : Type 0 where
  pub after : Agrees (staged t.0.ran t.0.ended from) t.1.phase
  pub runs : RunsFrom t.0.ran from
  pub asks : is_asked t.0.ask ≡ true
  pub address : t.1.present ≡ orb.0
  pub link : t.1.orb.next ≡ orb.1
  pub block : Blocks t.0.ended t.1.outgoing orb

-- the ORB of an agent
abbrev pub orb_of : Machine → ℕ × OrbPointer
orb_of m = (m.present, m.orb.next)

src_is : (next : OrbPointer) → src_of next ≡ src_by next
src_is Null = refl
src_is (At offset) = refl

block_is : (m : Machine) (kind : StatusKind) → status_bytes (block_of m kind) ≡ block_for (orb_of m) kind
block_is m kind = ap (λ (src : ℕ). status_bytes (record { src = src; kind = kind; orb = m.present })) (src_is m.orb.next)

tells_if : (from : Stage) (orb : ℕ × OrbPointer) (b : Bool) (x y : AgentStep × Machine) → Tells from orb x → Tells from orb y → Tells from orb (cond b x y)
tells_if from orb true x y h k = h
tells_if from orb false x y h k = k

end_tells : (from : Stage) (m : Machine) (kind : StatusKind) (dead : Option FailCause) → Tells from (orb_of m) (end_step m kind dead)
end_tells from m kind None = record { after = refl; runs = tt; asks = refl; address = refl; link = refl; block = block_is m kind }
end_tells from m kind (Some cause) = record { after = tt; runs = tt; asks = refl; address = refl; link = refl; block = block_is m kind }

good_tells : (b : Bool) (len : ℕ) (m : Machine) → Tells Waiting (orb_of m) (with_outcome (outcomes.Good len) (cond b (end_step m kinds.Good None) (answer_step m)))
good_tells true len m = record { after = refl; runs = refl; asks = refl; address = refl; link = refl; block = block_is m kinds.Good }
good_tells false len m = record { after = refl; runs = refl; asks = refl; address = refl; link = refl; block = tt }

ran_tells : (m : Machine) (outcome : Outcome) → Tells Waiting (orb_of m) (with_outcome outcome (ran_as m outcome))
ran_tells m (outcomes.Check sense) = record { after = refl; runs = refl; asks = refl; address = refl; link = refl; block = block_is m (kinds.Check sense) }
ran_tells m (outcomes.Good len) = good_tells (len == 0) len m

run_tells : (m : Machine) (told : Told) → Tells Waiting (orb_of m) (run_step m told)
run_tells m told = ran_tells (record m { answer = told.answer; written = 0 }) told.outcome

judged_tells : (m : Machine) (told : Told) (need : Need) → Tells Waiting (orb_of m) (judged m told need)
judged_tells m told needs.RunNow = run_tells m told
judged_tells m told (needs.Payload len) = record { after = refl; runs = tt; asks = refl; address = refl; link = refl; block = tt }

checked_tells : (m : Machine) (login : ℕ) (plain : PlainDisk) (told : Told) (kind : Option StatusKind) → Tells Waiting (orb_of m) (checked m login plain told kind)
checked_tells m login plain told (Some kind) = end_tells Waiting m kind (death_by kind)
checked_tells m login plain told None =
    tells_if Waiting (orb_of m) (reads_table m.orb) _ _ (record { after = refl; runs = tt; asks = refl; address = refl; link = refl; block = tt })
    (judged_tells (record m { segments = unread_buffer m.orb }) told (need_of m.orb.cdb (plan_of (record m { segments = unread_buffer m.orb })) plain login))

begun_tells : (m : Machine) (orb login : ℕ) (plain : PlainDisk) (told : Told) (bytes : Result (List ℕ) FailCause) → Tells Waiting (aligned orb, next_by bytes) (begun (turned m orb) login plain told bytes)
begun_tells m orb login plain told (Ok bytes) = checked_tells (record (turned m orb) { orb = command_orb bytes }) login plain told (verdict (command_orb bytes) (turned m orb).aborted)
begun_tells m orb login plain told (Err cause) = record { after = tt; runs = tt; asks = refl; address = refl; link = refl; block = block_is (turned m orb) kinds.Failed }

-- an ORB that was read
pub begin_tells : (m : Machine) (login : ℕ) (plain : PlainDisk) (told : Option Told) (orb : ℕ) (answer : Answer) → Tells Waiting (aligned orb, next_by (payload_of answer 32)) (begin_step m login plain told orb answer)
unfolding begin_step
begin_tells m login plain told orb answer = begun_tells m orb login plain (told_or told) (payload_of answer 32)

-- what follows from a reply
record Serves (from : Stage) (orb : ℕ × OrbPointer) (login : ℕ) (plain : PlainDisk) (told : Told) (s : Move × Machine) : Type 0 where
  tells : Tells from orb (served login plain told s.0 s.1)

serves_if : (from : Stage) (orb : ℕ × OrbPointer) (login : ℕ) (plain : PlainDisk) (told : Told) (b : Bool) (x y : Move × Machine) → Serves from orb login plain told x → Serves from orb login plain told y → Serves from orb login plain told (cond b x y)
serves_if from orb login plain told true x y h k = h
serves_if from orb login plain told false x y h k = k

ends : (from : Stage) (login : ℕ) (plain : PlainDisk) (told : Told) (m : Machine) (kind : StatusKind) (dead : Option FailCause) → Serves from (orb_of m) login plain told (sent (end_step m kind dead))
ends from login plain told m kind dead = record { tells = end_tells from m kind dead }

elements_serve : (m : Machine) (login : ℕ) (plain : PlainDisk) (told : Told) (bytes : List ℕ) (fault : Option PageFault) → Serves Waiting (orb_of m) login plain told (elements_read m bytes fault)
elements_serve m login plain told bytes (Some fault) = ends Waiting login plain told m (kinds.Illegal 0xff) (Some causes.Grammar)
elements_serve m login plain told bytes None =
    record { tells = judged_tells (record m { segments = elements_of bytes }) told (need_of m.orb.cdb (plan_of (record m { segments = elements_of bytes })) plain login) }

table_serves : (m : Machine) (login : ℕ) (plain : PlainDisk) (told : Told) (bytes : Result (List ℕ) FailCause) → Serves Waiting (orb_of m) login plain told (table_read m bytes)
table_serves m login plain told (Err cause) = ends Waiting login plain told m kinds.Failed (Some cause)
table_serves m login plain told (Ok bytes) =
    serves_if Waiting (orb_of m) login plain told m.aborted (sent (end_step m kinds.Aborted None)) (elements_read m bytes (first_fault 0 (elements_of bytes)))
    (ends Waiting login plain told m kinds.Aborted None) (elements_serve m login plain told bytes (first_fault 0 (elements_of bytes)))

data_serves : (m : Machine) (login : ℕ) (plain : PlainDisk) (told : Told) (wanted : ℕ) (bytes : Result (List ℕ) FailCause) → Serves Waiting (orb_of m) login plain told (data_read m wanted bytes)
data_serves m login plain told wanted (Err cause) = ends Waiting login plain told m kinds.Failed (Some cause)
data_serves m login plain told wanted (Ok bytes) =
    serves_if Waiting (orb_of m) login plain told m.aborted (sent (end_step m kinds.Aborted None)) (data_grown (record m { payload = m.payload ++ bytes }) wanted)
    (ends Waiting login plain told m kinds.Aborted None)
    (serves_if Waiting (orb_of m) login plain told (length (m.payload ++ bytes) == wanted) (moves.Run, record m { payload = m.payload ++ bytes }) (sent (data_step (record m { payload = m.payload ++ bytes }) wanted))
    (record { tells = run_tells (record m { payload = m.payload ++ bytes }) told }) (record { tells = record { after = refl; runs = tt; asks = refl; address = refl; link = refl; block = tt } }))

grown_serves : (m : Machine) (login : ℕ) (plain : PlainDisk) (told : Told) (b : Bool) → Serves Running (orb_of m) login plain told (sent (cond b (end_step m kinds.Good None) (answer_step m)))
grown_serves m login plain told true = ends Running login plain told m kinds.Good None
grown_serves m login plain told false = record { tells = record { after = refl; runs = tt; asks = refl; address = refl; link = refl; block = tt } }

chunk_serves : (m : Machine) (login : ℕ) (plain : PlainDisk) (told : Told) (failure : Option FailCause) → Serves Running (orb_of m) login plain told (chunk_written m failure)
chunk_serves m login plain told (Some cause) = ends Running login plain told m kinds.Failed (Some cause)
chunk_serves m login plain told None = grown_serves (record m { written = m.written + answer_chunk m }) login plain told (m.written + answer_chunk m == length m.answer)

advance_serves : (phase : Phase) (m : Machine) (login : ℕ) (plain : PlainDisk) (told : Told) (answer : Answer) → is_worked phase ≡ true → writes_status phase ≡ false → Serves (stage_of phase) (orb_of m) login plain told (advanced phase m answer)
advance_serves agents.ReadingTable m login plain told answer w n = table_serves m login plain told (payload_of answer (8 * m.orb.data_size))
advance_serves (agents.ReadingData wanted) m login plain told answer w n = data_serves m login plain told wanted (payload_of answer (chunk_of m (length m.payload) wanted).length)
advance_serves agents.Answering m login plain told answer w n = chunk_serves m login plain told (write_failure answer)
advance_serves agents.WritingStatus m login plain told answer w n = cc n
advance_serves agents.WritingLastStatus m login plain told answer w n = cc n
advance_serves agents.Reset m login plain told answer w n = cc w
advance_serves agents.Fetching m login plain told answer w n = cc w
advance_serves agents.ReadingNext m login plain told answer w n = cc w
advance_serves agents.Suspended m login plain told answer w n = cc w
advance_serves agents.Dead m login plain told answer w n = cc w

-- another transaction of a task
pub reply_tells : (m : Machine) (login : ℕ) (plain : PlainDisk) (told : Option Told) (answer : Answer) → is_worked m.phase ≡ true → writes_status m.phase ≡ false → Tells (stage_of m.phase) (orb_of m) (agent.reply_step m login plain told Main answer)
unfolding agent.reply_step
reply_tells m login plain told answer w n = (advance_serves m.phase m login plain (told_or told) answer w n).tells
