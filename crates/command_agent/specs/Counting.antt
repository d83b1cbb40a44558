-- How many requests of an agent are yet to be made (NCITS 325-1998, command block agents). Each transaction of an ORB follows the reply to the one before, so with each reply this number falls by the requests that the reply makes; a request is counted where it is made, a read ahead with the ORB that is checked before it.
use Rattle.std.specs.Prelude.{ℕ, ◌+◌, ◌-◌, ◌/◌, ◌==◌, ◌≤◌, if◌then◌else◌, List, [], ◌∷◌, length}
use Rattle.orb_layout.specs.declared.ask.Ask.{Ask}
use Rattle.orb_layout.specs.declared.ask.Ask.TheVariants.{Nothing}
use Rattle.orb_layout.specs.declared.ask.FailCause.{FailCause}
use Rattle.orb_layout.specs.Pointers.{bit}
use Rattle.page_table.specs.declared.segment.Segment.{Segment}
use Rattle.command_agent.specs.declared.phase.Phase.{Phase}
use Rattle.command_agent.specs.declared.phase.Phase.TheVariants as phases
use Rattle.command_agent.specs.declared.step.AgentStep.{AgentStep}
use Rattle.command_agent.specs.declared.step.Which.TheVariants.{Main, Ahead}
use Rattle.command_agent.specs.Machine.{Machine, limit_of, chunk_of, rung_in}
use Rattle.command_agent.specs.Steps.{lost_step}

-- 1 for a request
abbrev pub is_made : Ask → ℕ
is_made Nothing = 0
is_made _ = 1

-- 1 for the doorbell mark: it has a next pointer read again once
abbrev pub mark : Machine → ℕ
mark m = bit m.doorbell

-- the pieces of at most `limit` bytes, each within a segment, that are left of a buffer behind `done` bytes
abbrev pub pieces_from : List Segment → ℕ → ℕ → ℕ
pieces_from [] limit done = 0
pieces_from (segment ∷ rest) limit done = (segment.length - done + limit - 1) / limit + pieces_from rest limit (done - segment.length)

-- none are left behind the last byte that is to be moved
abbrev pub pieces_to : ℕ → List Segment → ℕ → ℕ → ℕ
pieces_to total segments limit done = if done == total then 0 else pieces_from segments limit done

-- the chunks behind the one that begins behind `done` bytes
abbrev pub behind : Machine → ℕ → ℕ → ℕ
behind m done total = pieces_to total m.segments (limit_of m.orb) (done + (chunk_of m done total).length)

-- the chunks of data behind the one under way; where none are wanted, which no agent reads, those of an answer
abbrev pub data_left : Machine → ℕ → ℕ
data_left m wanted = if wanted == 0 then pieces_from m.segments (limit_of m.orb) 0 else behind m (length m.payload) wanted

-- The requests yet to be made for the present ORB behind the main transaction under way, where it has at most `tables` page tables and `chunks` chunks: its page table, its chunks, its status block and the read ahead of the ORB behind it.
abbrev pub left_in : Phase → ℕ → ℕ → Machine → ℕ
left_in phases.Fetching tables chunks m = tables + chunks + 2
left_in phases.ReadingTable tables chunks m = chunks + 1
left_in (phases.ReadingData wanted) tables chunks m = data_left m wanted + 1
left_in phases.Answering tables chunks m = behind m m.written (length m.answer) + 1
left_in _ tables chunks m = 0

abbrev pub left_of : ℕ → ℕ → Machine → ℕ
left_of tables chunks m = left_in m.phase tables chunks m

-- what a step asks for, and what is left behind it
abbrev pub made : ℕ → ℕ → AgentStep × Machine → ℕ
made tables chunks s = is_made s.0.ask + is_made s.0.ahead + left_of tables chunks s.1

-- A step makes no more requests than so many, those left behind it counted, and leaves no more doorbell marks than so many.
pub record MakesAtMost (tables chunks most marks : ℕ) (s : AgentStep × Machine) : Type 0 where
  pub requests : made tables chunks s ≤ most
  pub marked : mark s.1 ≤ marks

-- A main transaction that fails leaves no more to be made than before it.
abbrev pub FailuresMakeNoMore : Type 0
FailuresMakeNoMore = (tables chunks : ℕ) (m : Machine) (cause : FailCause) →
    MakesAtMost tables chunks (left_of tables chunks m) (mark m) (lost_step m Main cause)

-- A read ahead that fails makes nothing, and gives back no more than the doorbell mark that it cleared.
abbrev pub LostAheadsMakeNoMore : Type 0
LostAheadsMakeNoMore = (tables chunks : ℕ) (m : Machine) (cause : FailCause) →
    made tables chunks (lost_step m Ahead cause) + mark (lost_step m Ahead cause).1 ≤ left_of tables chunks m + mark m + bit (rung_in m.ahead)
