-- What an agent has under way: its main transaction and its read ahead, as the requests that they are of.
use Rattle.std.specs.Prelude.{◌*◌, ◌||◌, is_some, Bool, true, false, length}
use Rattle.orb_layout.specs.declared.ask.Ask.{Ask}
use Rattle.orb_layout.specs.declared.ask.Ask.TheVariants.{Read, Write, Nothing}
use Rattle.orb_layout.specs.declared.pointer.OrbPointer.{OrbPointer}
use Rattle.orb_layout.specs.declared.pointer.OrbPointer.TheVariants.{At}
use Rattle.command_agent.specs.declared.phase.Phase.{Phase}
use Rattle.command_agent.specs.declared.phase.Phase.TheVariants as phases
use Rattle.command_agent.specs.declared.phase.ReadAhead.{ReadAhead}
use Rattle.command_agent.specs.declared.phase.ReadAhead.TheVariants as aheads
use Rattle.command_agent.specs.declared.step.AgentStep.{AgentStep}
use Rattle.command_agent.specs.declared.step.Which.{Which}
use Rattle.command_agent.specs.declared.step.Which.TheVariants.{Main, Ahead}
use Rattle.command_agent.specs.Machine.{Machine, aligned, chunk_of}
use Rattle.command_agent.specs.Steps.{answer_chunk}

-- the main transaction, by phase: a read of the present ORB, of its page table, of a chunk of its data, a write of a chunk of its answer or of its
-- status block, with 0 in the place of the FIFO's address, or a read of the last ORB's next pointer
abbrev pub main_ask : Phase → Machine → Ask
main_ask phases.Fetching m = Read m.present 32
main_ask phases.ReadingTable m = Read m.orb.descriptor (8 * m.orb.data_size)
main_ask (phases.ReadingData wanted) m = Read (chunk_of m (length m.payload) wanted).offset (chunk_of m (length m.payload) wanted).length
main_ask phases.Answering m = Write (chunk_of m m.written (length m.answer)).offset (answer_chunk m)
main_ask phases.WritingStatus m = Write 0 (length m.outgoing)
main_ask phases.WritingLastStatus m = Write 0 (length m.outgoing)
main_ask phases.ReadingNext m = Read m.present 8
main_ask _ m = Nothing

-- the read ahead: of the ORB that the next pointer names
abbrev pub ahead_ask : ReadAhead → OrbPointer → Ask
ahead_ask (aheads.UnderWay rung) (At next) = Read (aligned next) 32
ahead_ask _ _ = Nothing

abbrev pub main_under : Machine → Ask
main_under m = main_ask m.phase m

abbrev pub ahead_under : Machine → Ask
ahead_under m = ahead_ask m.ahead m.orb.next

-- The main transaction behind a step: what it asks for; or, where the read ahead became it, this; or what was under way beside it.
abbrev pub main_by : Bool → Ask → (main ahead : Ask) → Ask
main_by true Nothing main ahead = ahead
main_by false Nothing main ahead = main
main_by promoted ask main ahead = ask

-- The read ahead behind a step: what it asks for; none, where it became the main transaction or the agent dead; or what was under way beside it.
abbrev pub ahead_by : Bool → Ask → Ask → Ask
ahead_by gone (Read offset size) ahead = Read offset size
ahead_by true ask ahead = Nothing
ahead_by false ask ahead = ahead

abbrev pub forgets : AgentStep → Bool
forgets step = step.promoted || is_some step.dead

-- what is under way beside the transaction that was answered or lost
abbrev pub main_beside : Which → Machine → Ask
main_beside Main m = Nothing
main_beside Ahead m = main_under m

abbrev pub ahead_beside : Which → Machine → Ask
ahead_beside Main m = ahead_under m
ahead_beside Ahead m = Nothing
