-- What each call of an agent of the unordered unit does (NCITS 325-1998, command block agents), in equations over its state.
use Rattle.std.specs.Prelude.{ℕ, ◌==◌, Bool, true, false, if◌then◌else◌, List, [], ◌∷◌, ◌++◌, map, slice_set, Option, Some, None, Result, Ok, Err}
use Rattle.orb_layout.specs.declared.ask.Ask.{Ask}
use Rattle.orb_layout.specs.declared.ask.Ask.TheVariants.{Nothing}
use Rattle.orb_layout.specs.declared.ask.FailCause.{FailCause}
use Rattle.orb_layout.specs.declared.pointer.OrbPointer.{OrbPointer}
use Rattle.orb_layout.specs.declared.pointer.OrbPointer.TheVariants.{Null, At}
use Rattle.orb_layout.specs.Pointers.{pointer_at}
use Rattle.orb_layout.specs.Replies.{Answer, payload_of, write_failure}
use Rattle.rbc_disk.specs.Units.{PlainDisk}
use Rattle.rbc_disk.specs.Runs.{Told}
use Rattle.command_agent.specs.declared.step.AgentState.{AgentState}
use Rattle.command_agent.specs.declared.step.AgentState.TheVariants as states
use Rattle.command_agent.specs.declared.step.AgentStep.{AgentStep}
use Rattle.command_agent.specs.declared.step.PointRefusal.{PointRefusal}
use Rattle.command_agent.specs.declared.step.PointRefusal.TheVariants as refusals
use Rattle.command_agent.specs.declared.step.Which.TheVariants.{Main}
use Rattle.command_agent.specs.Machine.{Machine}
use Rattle.command_agent.specs.Machine as machine
use Rattle.command_agent.specs.Steps.{reset_step}
use Rattle.command_agent.specs.Steps as agent
use Rattle.command_agent.specs.Tasks.{begin_step, relinked, writes_status}
use Rattle.unordered_agent.specs.declared.fetcher.FetchPhase.{FetchPhase}
use Rattle.unordered_agent.specs.declared.fetcher.FetchPhase.TheVariants as phases
use Rattle.unordered_agent.specs.declared.step.TaskStep.{TaskStep}
use Rattle.unordered_agent.specs.Machine.{TaskMachine, state_in, are_free, lowest_free, has_free, task_at}
use Rattle.unordered_agent.specs.Fetching.{opened_at, reread, followed, seated, died}

-- what a place asks for
abbrev pub asked : ℕ → Ask → List (ℕ × Ask)
asked place Nothing = []
asked place ask = (place, ask) ∷ []

-- nothing is sent and nothing told
abbrev pub quiet : TaskStep
quiet = record { asks = []; ran = None; ended = None; dead = None }

abbrev pub fetches : Ask → TaskStep
fetches ask = record quiet { asks = asked 8 ask }

abbrev pub dies : FailCause → TaskStep
dies cause = record quiet { dead = Some cause }

-- the step of the task in a place, with the fetcher's request behind its own
abbrev pub task_step : ℕ → AgentStep → Ask → TaskStep
task_step place step ask = record { asks = asked place step.ask ++ asked 8 ask; ran = step.ran; ended = step.ended; dead = step.dead }

-- ORB_POINTER
abbrev pub pointed : TaskMachine → OrbPointer → Result Ask PointRefusal × TaskMachine
pointed s Null = (Err refusals.Null, s)
pointed s (At first) = (Ok (opened_at s.fetcher first).0, record s { fetcher = (opened_at s.fetcher first).1 })

-- a pointer is taken in RESET, and in SUSPENDED where each task place is free
abbrev pub takes_pointer : AgentState → List Machine → Bool
takes_pointer states.Reset tasks = true
takes_pointer states.Suspended tasks = are_free tasks
takes_pointer _ tasks = false

unfoldable pub point_step : TaskMachine → OrbPointer → Result Ask PointRefusal × TaskMachine
point_step s pointer = if takes_pointer (state_in s.fetcher.phase) s.tasks then pointed s pointer else (Err refusals.Conflict, s)

-- DOORBELL
abbrev pub doorbell_in : AgentState → TaskMachine → Ask × TaskMachine
doorbell_in states.Active s = (Nothing, record s { fetcher = record s.fetcher { doorbell = true } })
doorbell_in states.Suspended s = ((reread s.fetcher).0, record s { fetcher = (reread s.fetcher).1 })
doorbell_in _ s = (Nothing, s)

unfoldable pub doorbell_step : TaskMachine → Ask × TaskMachine
doorbell_step s = doorbell_in (state_in s.fetcher.phase) s

-- AGENT_RESET
unfoldable pub reset_all_step : TaskMachine → TaskMachine
reset_all_step s = record { fetcher = record s.fetcher { phase = phases.Reset }; tasks = map reset_step s.tasks }

-- the agent becomes dead: each task is dropped but the one whose ORB made it so
abbrev pub is_dead : AgentState → Bool
is_dead states.Dead = true
is_dead _ = false

abbrev pub dropped : Machine → Machine
dropped task = if is_dead (machine.state_in task.phase) then task else reset_step task

abbrev pub die_step : TaskMachine → TaskMachine
die_step s = record { fetcher = died s.fetcher; tasks = map dropped s.tasks }

abbrev pub settled : Option FailCause → TaskMachine → TaskMachine
settled None s = s
settled (Some cause) s = die_step s

abbrev pub with_task : TaskMachine → ℕ → Machine → TaskMachine
with_task s place task = record s { tasks = slice_set s.tasks place task }

-- the fetcher goes on behind the ORB that it read, unless this made the agent dead
abbrev pub goes_on : Option FailCause → TaskMachine → Ask × TaskMachine
goes_on None s = ((followed s.fetcher.next s.fetcher (has_free s.tasks)).0, record s { fetcher = (followed s.fetcher.next s.fetcher (has_free s.tasks)).1 })
goes_on (Some cause) s = (Nothing, die_step s)

abbrev pub fetcher_follows : TaskMachine → TaskStep × TaskMachine
fetcher_follows s = (fetches (goes_on None s).0, (goes_on None s).1)

-- the ORB that was read takes a place, with what its first step tells
abbrev pub placed : TaskMachine → ℕ → AgentStep × Machine → TaskMachine
placed s place task = record { fetcher = seated s.fetcher place task.1.orb.next; tasks = slice_set s.tasks place task.1 }

abbrev pub begun : TaskMachine → ℕ → AgentStep × Machine → TaskStep × TaskMachine
begun s place task = (task_step place task.0 (goes_on task.0.dead (placed s place task)).0, (goes_on task.0.dead (placed s place task)).1)

abbrev pub orb_read : TaskMachine → ℕ → PlainDisk → Option Told → Answer → Option ℕ → TaskStep × TaskMachine
orb_read s login plain told answer (Some place) = begun s place (begin_step (task_at s place) login plain told s.fetcher.orb answer)
orb_read s login plain told answer None = (quiet, s)

-- the next pointer of the last ORB was read again: src of its status goes by it
abbrev pub pointer_read : TaskMachine → OrbPointer → TaskMachine
pointer_read s next = record {
  fetcher = record s.fetcher { next = next };
  tasks = slice_set s.tasks s.fetcher.newest (relinked (task_at s s.fetcher.newest) next);
}

abbrev pub next_read : TaskMachine → Result (List ℕ) FailCause → TaskStep × TaskMachine
next_read s (Err cause) = (dies cause, die_step s)
next_read s (Ok bytes) = fetcher_follows (pointer_read s (pointer_at bytes 0))

-- the reply to the fetcher's transaction
abbrev pub fetch_replied : FetchPhase → TaskMachine → ℕ → PlainDisk → Option Told → Answer → TaskStep × TaskMachine
fetch_replied phases.Fetching s login plain told answer = orb_read s login plain told answer (lowest_free s.tasks)
fetch_replied phases.ReadingNext s login plain told answer = next_read s (payload_of answer 8)
fetch_replied _ s login plain told answer = (quiet, s)

-- a status block was written: the task's place is free, and a fetcher that waits for one goes on
abbrev pub freed : FetchPhase → TaskMachine → TaskStep × TaskMachine
freed phases.Waiting s = fetcher_follows s
freed _ s = (quiet, s)

abbrev pub released : TaskMachine → ℕ → TaskMachine
released s place = with_task s place (reset_step (task_at s place))

abbrev pub status_written : FetchPhase → TaskMachine → ℕ → Option FailCause → TaskStep × TaskMachine
status_written phases.Dead s place failure = (quiet, released s place)
status_written phase s place (Some cause) = (dies cause, die_step s)
status_written phase s place None = freed phase (released s place)

-- another transaction of a task
abbrev pub worked : TaskMachine → ℕ → AgentStep × Machine → TaskStep × TaskMachine
worked s place task = (task_step place task.0 Nothing, settled task.0.dead (with_task s place task.1))

abbrev pub task_replied : TaskMachine → ℕ → PlainDisk → Option Told → ℕ → Answer → TaskStep × TaskMachine
task_replied s login plain told place answer =
    if writes_status (task_at s place).phase
    then status_written s.fetcher.phase s place (write_failure answer)
    else worked s place (agent.reply_step (task_at s place) login plain told Main answer)

-- a reply to the transaction of a place, 8 that of the fetcher
unfoldable pub reply_step : TaskMachine → ℕ → PlainDisk → Option Told → ℕ → Answer → TaskStep × TaskMachine
reply_step s login plain told place answer =
    if place == 8
    then fetch_replied s.fetcher.phase s login plain told answer
    else task_replied s login plain told place answer

-- the place of the ORB that a reply is about: that of the task, or for the fetcher the lowest one that is free
abbrev pub or_none : Option ℕ → ℕ
or_none None = 8
or_none (Some place) = place

abbrev pub place_of : TaskMachine → ℕ → ℕ
place_of s place = if place == 8 then or_none (lowest_free s.tasks) else place
