-- The state of an agent of the unordered unit, and what is read off it.
use Rattle.std.specs.Prelude.{◌≡◌, ℕ, ◌<◌, ◌==◌, if◌then◌else◌, ◌||◌, nat_lt, not, is_some, Bool, true, false, List, length, position, replicate, slice_index_or, Option}
use Rattle.std.specs.List.{list_all}
use Rattle.orb_layout.specs.declared.pointer.OrbPointer.{OrbPointer}
use Rattle.orb_layout.specs.declared.pointer.OrbPointer.TheVariants.{Null, At}
use Rattle.command_agent.specs.declared.phase.Phase.{Phase}
use Rattle.command_agent.specs.declared.phase.Phase.TheVariants as agents
use Rattle.command_agent.specs.declared.step.AgentState.{AgentState}
use Rattle.command_agent.specs.declared.step.AgentState.TheVariants as states
use Rattle.command_agent.specs.declared.step.Which.TheVariants.{Main}
use Rattle.command_agent.specs.Machine.{Machine, new_machine, is_under_way, aligned}
use Rattle.unordered_agent.specs.declared.fetcher.FetchPhase.{FetchPhase}
use Rattle.unordered_agent.specs.declared.fetcher.FetchPhase.TheVariants as phases
use Rattle.unordered_agent.specs.declared.fetcher.Fetcher.{Fetcher}

-- What an agent keeps: its fetcher with the doorbell mark, and of each of the 8 task places the command agent that works the ORB in it.
pub record TaskMachine : Type 0 where
  pub fetcher : Fetcher
  pub tasks : List Machine

abbrev pub both : Fetcher → List Machine → TaskMachine
both fetcher tasks = record { fetcher = fetcher; tasks = tasks }

abbrev pub new_fetcher : Fetcher
new_fetcher = record { phase = phases.Reset; doorbell = false; orb = 0; next = Null; newest = 0 }

-- a new agent
abbrev pub new_agent : TaskMachine
new_agent = record { fetcher = new_fetcher; tasks = replicate 8 new_machine }

abbrev pub state_in : FetchPhase → AgentState
state_in phases.Reset = states.Reset
state_in phases.AtEnd = states.Suspended
state_in phases.Dead = states.Dead
state_in _ = states.Active

-- the fetcher's transaction is under way
abbrev pub is_reading : FetchPhase → Bool
is_reading phases.Fetching = true
is_reading phases.ReadingNext = true
is_reading _ = false

-- a task place is free where no transaction of its agent is under way
abbrev pub is_free : Machine → Bool
is_free task = not (is_under_way Main task)

abbrev pub are_free : List Machine → Bool
are_free tasks = list_all is_free tasks

abbrev pub lowest_free : List Machine → Option ℕ
lowest_free tasks = position is_free tasks

abbrev pub has_free : List Machine → Bool
has_free tasks = is_some (lowest_free tasks)

abbrev pub agent_at : List Machine → ℕ → Machine
agent_at tasks place = slice_index_or tasks place new_machine

abbrev pub task_at : TaskMachine → ℕ → Machine
task_at s place = agent_at s.tasks place

-- the transaction of a place is under way: that of a task, or with place 8 the fetcher's
abbrev pub is_busy : ℕ → TaskMachine → Bool
is_busy place s = if place == 8 then is_reading s.fetcher.phase else (if nat_lt place 8 then is_under_way Main (task_at s place) else false)

-- an ORB is worked: its page table or its data are read, or its answer or its status block is written
abbrev pub is_worked : Phase → Bool
is_worked agents.ReadingTable = true
is_worked (agents.ReadingData wanted) = true
is_worked agents.Answering = true
is_worked agents.WritingStatus = true
is_worked agents.WritingLastStatus = true
is_worked _ = false

abbrev pub is_vacant : Phase → Bool
is_vacant agents.Reset = true
is_vacant _ = false

-- the agent of a task place is in RESET or works an ORB: it fetches none, and follows no next pointer
abbrev pub is_task : Machine → Bool
is_task task = is_vacant task.phase || is_worked task.phase

-- the ORB that a next pointer names is the one that is read; behind a null pointer it is the first one of a list
abbrev pub Names : OrbPointer → ℕ → Type 0
Names Null orb = Unit {0}
Names (At next) orb = orb ≡ aligned next

abbrev pub is_null : OrbPointer → Bool
is_null Null = true
is_null (At next) = false

-- The fetch rule, by what the fetcher does while a list is open and the agent is not dead. Where a task place is free, and the next pointer last read of the last ORB is not null, the ORB that it names is read; the fetcher waits only where no place is free. Where that pointer is null it is read again, or no doorbell came since its last read was sent.
abbrev pub FetchRule : FetchPhase → Fetcher → List Machine → Type 0
FetchRule phases.Reset f tasks = are_free tasks ≡ true
FetchRule phases.Fetching f tasks = (has_free tasks ≡ true) × Names f.next f.orb
FetchRule phases.ReadingNext f tasks = f.next ≡ Null
FetchRule phases.Waiting f tasks = (has_free tasks ≡ false) × (is_null f.next ≡ false)
FetchRule phases.AtEnd f tasks = (f.next ≡ Null) × (f.doorbell ≡ false)
FetchRule phases.Dead f tasks = Unit {0}

-- What always holds.
pub record IsSound (f : Fetcher) (tasks : List Machine) : Type 0 where
  pub size : length tasks ≡ 8
  pub newest : f.newest < 8
  pub worked : list_all is_task tasks ≡ true
  pub rule : FetchRule f.phase f tasks
