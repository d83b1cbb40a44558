-- A task works its ORB until its status block is written.
use Rattle.std.proofs.Common.{◌≡◌, refl, ℕ, ◌+◌, ◌*◌, ◌==◌, Bool, true, false, cond, List, ◌++◌, length, not, Option, Some, None, Result, Ok, Err}
use Rattle.std.specs.Prelude.{◌||◌}
use Rattle.orb_layout.specs.declared.ask.FailCause.{FailCause}
use Rattle.orb_layout.specs.declared.status.StatusKind.{StatusKind}
use Rattle.orb_layout.specs.declared.status.StatusKind.TheVariants as kinds
use Rattle.orb_layout.specs.CommandOrbs.{command_orb}
use Rattle.orb_layout.specs.Replies.{Answer, payload_of, write_failure}
use Rattle.page_table.specs.declared.fault.PageFault.{PageFault}
use Rattle.page_table.specs.Elements.{elements_of, first_fault}
use Rattle.rbc_disk.specs.declared.command.Need.{Need}
use Rattle.rbc_disk.specs.declared.command.Need.TheVariants as needs
use Rattle.rbc_disk.specs.declared.command.Outcome.{Outcome}
use Rattle.rbc_disk.specs.declared.command.Outcome.TheVariants as outcomes
use Rattle.rbc_disk.specs.Units.{PlainDisk}
use Rattle.rbc_disk.specs.Runs.{need_of, Told}
use Rattle.command_agent.specs.declared.phase.Phase.{Phase}
use Rattle.command_agent.specs.declared.phase.Phase.TheVariants as agents
use Rattle.command_agent.specs.declared.step.AgentStep.{AgentStep}
use Rattle.command_agent.specs.declared.step.Move.{Move}
use Rattle.command_agent.specs.declared.step.Move.TheVariants as moves
use Rattle.command_agent.specs.declared.step.Which.TheVariants.{Main}
use Rattle.command_agent.specs.Machine.{Machine, plan_of, chunk_of, is_sent}
use Rattle.command_agent.specs.Checks.{verdict, death_by, reads_table}
use Rattle.command_agent.specs.Steps.{end_step, fail_step, status_phase, told_or, served, sent, ran_as, with_outcome, run_step, judged, judge_step, passed_step, checked, check_step, answer_chunk, answer_step, chunk_written, data_step, data_grown, data_read, elements_read, table_read, unread_buffer, turned, advanced}
use Rattle.command_agent.specs.Steps as agent
use Rattle.command_agent.specs.Tasks.{begun, begin_step, writes_status}
use Rattle.unordered_agent.specs.Machine.{is_free, is_task, is_vacant, is_worked}

abbrev Works : AgentStep × Machine → Type 0
Works s = is_worked s.1.phase ≡ true

works_if : (b : Bool) (x y : AgentStep × Machine) → Works x → Works y → Works (cond b x y)
works_if true x y h k = h
works_if false x y h k = k

end_works : (m : Machine) (kind : StatusKind) (dead : Option FailCause) → Works (end_step m kind dead)
end_works m kind None = refl
end_works m kind (Some cause) = refl

ran_works : (m : Machine) (outcome : Outcome) → Works (ran_as m outcome)
ran_works m (outcomes.Check sense) = refl
ran_works m (outcomes.Good len) = works_if (len == 0) (end_step m kinds.Good None) (answer_step m) refl refl

run_works : (m : Machine) (told : Told) → Works (run_step m told)
run_works m told = ran_works (record m { answer = told.answer; written = 0 }) told.outcome

judged_works : (m : Machine) (told : Told) (need : Need) → Works (judged m told need)
judged_works m told needs.RunNow = run_works m told
judged_works m told (needs.Payload len) = refl

checked_works : (m : Machine) (login : ℕ) (plain : PlainDisk) (told : Told) (kind : Option StatusKind) → Works (checked m login plain told kind)
checked_works m login plain told (Some kind) = end_works m kind (death_by kind)
checked_works m login plain told None =
    works_if (reads_table m.orb) _ _ refl
    (judged_works (record m { segments = unread_buffer m.orb }) told (need_of m.orb.cdb (plan_of (record m { segments = unread_buffer m.orb })) plain login))

begun_works : (m : Machine) (login : ℕ) (plain : PlainDisk) (told : Told) (bytes : Result (List ℕ) FailCause) → Works (begun m login plain told bytes)
begun_works m login plain told (Ok bytes) = checked_works (record m { orb = command_orb bytes }) login plain told (verdict (command_orb bytes) m.aborted)
begun_works m login plain told (Err cause) = refl

-- an ORB that was read is worked
pub begin_works : (m : Machine) (login : ℕ) (plain : PlainDisk) (told : Option Told) (orb : ℕ) (answer : Answer) → is_worked (begin_step m login plain told orb answer).1.phase ≡ true
unfolding begin_step
begin_works m login plain told orb answer = begun_works (turned m orb) login plain (told_or told) (payload_of answer 32)

-- what follows from a reply
record Serves (login : ℕ) (plain : PlainDisk) (told : Told) (s : Move × Machine) : Type 0 where
  works : Works (served login plain told s.0 s.1)

serves_if : (login : ℕ) (plain : PlainDisk) (told : Told) (b : Bool) (x y : Move × Machine) → Serves login plain told x → Serves login plain told y → Serves login plain told (cond b x y)
serves_if login plain told true x y h k = h
serves_if login plain told false x y h k = k

elements_serve : (m : Machine) (login : ℕ) (plain : PlainDisk) (told : Told) (bytes : List ℕ) (fault : Option PageFault) → Serves login plain told (elements_read m bytes fault)
elements_serve m login plain told bytes (Some fault) = record { works = refl }
elements_serve m login plain told bytes None =
    record { works = judged_works (record m { segments = elements_of bytes }) told (need_of m.orb.cdb (plan_of (record m { segments = elements_of bytes })) plain login) }

table_serves : (m : Machine) (login : ℕ) (plain : PlainDisk) (told : Told) (bytes : Result (List ℕ) FailCause) → Serves login plain told (table_read m bytes)
table_serves m login plain told (Err cause) = record { works = refl }
table_serves m login plain told (Ok bytes) =
    serves_if login plain told m.aborted (sent (end_step m kinds.Aborted None)) (elements_read m bytes (first_fault 0 (elements_of bytes)))
    (record { works = refl }) (elements_serve m login plain told bytes (first_fault 0 (elements_of bytes)))

data_serves : (m : Machine) (login : ℕ) (plain : PlainDisk) (told : Told) (wanted : ℕ) (bytes : Result (List ℕ) FailCause) → Serves login plain told (data_read m wanted bytes)
data_serves m login plain told wanted (Err cause) = record { works = refl }
data_serves m login plain told wanted (Ok bytes) =
    serves_if login plain told m.aborted (sent (end_step m kinds.Aborted None)) (data_grown (record m { payload = m.payload ++ bytes }) wanted)
    (record { works = refl })
    (serves_if login plain told (length (m.payload ++ bytes) == wanted) (moves.Run, record m { payload = m.payload ++ bytes }) (sent (data_step (record m { payload = m.payload ++ bytes }) wanted))
    (record { works = run_works (record m { payload = m.payload ++ bytes }) told }) (record { works = refl }))

grown_serves : (m : Machine) (login : ℕ) (plain : PlainDisk) (told : Told) (b : Bool) → Serves login plain told (sent (cond b (end_step m kinds.Good None) (answer_step m)))
grown_serves m login plain told true = record { works = refl }
grown_serves m login plain told false = record { works = refl }

chunk_serves : (m : Machine) (login : ℕ) (plain : PlainDisk) (told : Told) (failure : Option FailCause) → Serves login plain told (chunk_written m failure)
chunk_serves m login plain told (Some cause) = record { works = refl }
chunk_serves m login plain told None = grown_serves (record m { written = m.written + answer_chunk m }) login plain told (m.written + answer_chunk m == length m.answer)

-- the phases of a task whose status block is not being written
advance_serves : (phase : Phase) (m : Machine) (login : ℕ) (plain : PlainDisk) (told : Told) (answer : Answer) → is_worked phase ≡ true → writes_status phase ≡ false → Serves login plain told (advanced phase m answer)
advance_serves agents.ReadingTable m login plain told answer w n = table_serves m login plain told (payload_of answer (8 * m.orb.data_size))
advance_serves (agents.ReadingData wanted) m login plain told answer w n = data_serves m login plain told wanted (payload_of answer (chunk_of m (length m.payload) wanted).length)
advance_serves agents.Answering m login plain told answer w n = chunk_serves m login plain told (write_failure answer)
advance_serves agents.WritingStatus m login plain told answer w n = cc n
advance_serves agents.WritingLastStatus m login plain told answer w n = cc n
advance_serves agents.Reset m login plain told answer w n = cc w
advance_serves agents.Fetching m login plain told answer w n = cc w
advance_serves agents.ReadingNext m login plain told answer w n = cc w
advance_serves agents.Suspended m login plain told answer w n = cc w
advance_serves agents.Dead m login plain told answer w n = cc w

-- it is worked still
pub reply_works : (m : Machine) (login : ℕ) (plain : PlainDisk) (told : Option Told) (answer : Answer) → is_worked m.phase ≡ true → writes_status m.phase ≡ false → is_worked (agent.reply_step m login plain told Main answer).1.phase ≡ true
unfolding agent.reply_step
reply_works m login plain told answer w n = (advance_serves m.phase m login plain (told_or told) answer w n).works

-- a task is worked exactly where its place is not free
busy_works : (phase : Phase) → not (is_sent phase) ≡ false → (is_vacant phase || is_worked phase) ≡ true → is_worked phase ≡ true
busy_works agents.Reset e t = cc e
busy_works agents.Fetching e t = t
busy_works agents.ReadingTable e t = refl
busy_works (agents.ReadingData wanted) e t = refl
busy_works agents.Answering e t = refl
busy_works agents.WritingStatus e t = refl
busy_works agents.WritingLastStatus e t = refl
busy_works agents.ReadingNext e t = t
busy_works agents.Suspended e t = t
busy_works agents.Dead e t = t

pub task_works : (m : Machine) → is_free m ≡ false → is_task m ≡ true → is_worked m.phase ≡ true
task_works m e t = busy_works m.phase e t

works_busy : (phase : Phase) → is_worked phase ≡ true → not (is_sent phase) ≡ false
works_busy agents.ReadingTable w = refl
works_busy (agents.ReadingData wanted) w = refl
works_busy agents.Answering w = refl
works_busy agents.WritingStatus w = refl
works_busy agents.WritingLastStatus w = refl
works_busy agents.Reset w = cc w
works_busy agents.Fetching w = refl
works_busy agents.ReadingNext w = refl
works_busy agents.Suspended w = cc w
works_busy agents.Dead w = cc w

pub worked_busy : (m : Machine) → is_worked m.phase ≡ true → is_free m ≡ false
worked_busy m w = works_busy m.phase w

any_works : (b c : Bool) → c ≡ true → (b || c) ≡ true
any_works true c e = refl
any_works false c e = e

pub worked_task : (m : Machine) → is_worked m.phase ≡ true → is_task m ≡ true
worked_task m w = any_works (is_vacant m.phase) (is_worked m.phase) w
