-- How many requests the target has yet to make, at most, for the ORBs whose turn has not come (NCITS 325-1998, command block agents and linked
-- lists of ORBs). An ORB takes a fetch, a status block, the read ahead of the ORB behind it, a read of its page table and a request for each chunk of
-- its buffer. Its turn comes as an agent begins to work it; so an ORB that ended, that is worked, or whose list was cut counts nothing here.
use Rattle.std.specs.Prelude.{ℕ, zero, suc, ◌+◌, ◌≤◌, ◌==◌, ◌&&◌, ◌||◌, not, nat_lt, if◌then◌else◌, Bool, false, List, [], ◌∷◌, length, Option, Some, None}
use Rattle.command_agent.specs.Making.{is_at_work}
use Rattle.command_agent.specs.declared.phase.Phase.{Phase}
use Rattle.command_agent.specs.declared.phase.Phase.TheVariants as phases
use Rattle.command_agent.specs.Counting.{left_of, pieces_from}
use Rattle.command_agent.specs.Machine.{Machine, limit_of}
use Rattle.sbp_journal.specs.Run.{Moment, said}
use Rattle.sbp_journal.specs.declared.event.Cmd.{Cmd}
use Rattle.sbp_journal.specs.declared.note.Note.TheVariants as notes
use Rattle.sbp_journal.specs.declared.side.Side.{Side}
use Rattle.sbp_journal.specs.declared.side.Side.TheVariants as sides
use Rattle.sbp_laws.specs.CarriedBytes.{pieces_of}
use Rattle.sbp_laws.specs.Lists.{command_at, is_list}
use Rattle.sbp_laws.specs.OrderLaw.{is_cut}
use Rattle.sbp_laws.specs.Terms.{ends}
use Rattle.sbp_world.specs.Telling.{holder}
use Rattle.sbp_world.specs.Worlds.{WorldState}
use Rattle.sbp_world.specs.Lists.Needs.{initiator_in, machine_at}

-- ---- a command
-- the elements of its page table, and the chunks of its buffer, as the budget has them
abbrev pub elements_of : Option Cmd → ℕ
elements_of None = 0
elements_of (Some cmd) = length cmd.segments

abbrev pub chunks_of : Option Cmd → ℕ
chunks_of None = 0
chunks_of (Some cmd) = length (pieces_of 0 cmd)

-- the requests for an ORB with that command: they are at most half of its share in the budget
abbrev pub half_of : Option Cmd → ℕ
half_of command = 3 + (elements_of command + chunks_of command)

-- ---- who works an ORB
abbrev pub is_at_work_in : WorldState → (place : ℕ) → Bool
is_at_work_in w place = is_at_work (machine_at w place).phase

-- the agent of a place is at work, on list n of initiator i
abbrev pub works_at : WorldState → (i n place : ℕ) → Bool
works_at w i n place = (initiator_in w place == i) && is_list (holder w place).list n && is_at_work_in w place

unfoldable pub works_below : WorldState → (i n places : ℕ) → Bool
works_below w i n zero = false
works_below w i n (suc place) = works_at w i n place || works_below w i n place

abbrev pub is_worked : WorldState → (i n : ℕ) → Bool
is_worked w i n = works_below w i n 8

-- ---- rooms
-- the turn of ORB k of list n came, or its list was cut
abbrev pub is_begun : List Moment → WorldState → (i n k : ℕ) → Bool
is_begun all w i n k = is_cut all i n || (nat_lt k (ends all i n) || ((k == ends all i n) && is_worked w i n))

abbrev pub room : List Moment → WorldState → (i n k : ℕ) → ℕ
room all w i n k = if is_begun all w i n k then 0 else half_of (command_at all i n k)

-- the sum of a number over the ORBs that were appended
abbrev pub over_appends : (ℕ → ℕ → ℕ → ℕ) → List Moment → ℕ
over_appends f [] = 0
over_appends f (said (notes.Append i n k cdb buffer) ∷ past) = f i n k + over_appends f past
over_appends f (_ ∷ past) = over_appends f past

-- of the ORBs that were appended up to a moment, by what is known at the end
abbrev pub rooms : (all : List Moment) → WorldState → (past : List Moment) → ℕ
rooms all w past = over_appends (room all w) past

-- ---- the present ORB of a place
abbrev pub of_list : Option ℕ → (ℕ → Option Cmd) → Option Cmd
of_list None command = None
of_list (Some n) command = command n

-- the command of the ORB behind those that have ended, of the list of a place
abbrev pub present_command : List Moment → WorldState → (place : ℕ) → Option Cmd
present_command past w place = of_list (holder w place).list (λ n. command_at past (initiator_in w place) n (ends past (initiator_in w place) n))

abbrev pub tables_of : List Moment → WorldState → (place : ℕ) → ℕ
tables_of past w place = elements_of (present_command past w place)

abbrev pub chunks_in : List Moment → WorldState → (place : ℕ) → ℕ
chunks_in past w place = chunks_of (present_command past w place)

-- the requests yet to be made for it
abbrev pub left_at : List Moment → WorldState → (place : ℕ) → ℕ
left_at past w place = left_of (tables_of past w place) (chunks_in past w place) (machine_at w place)

-- An agent that moves data has them in a buffer of at most so many chunks.
abbrev pub HoldsAtMost : Phase → (chunks : ℕ) → Machine → Type 0
HoldsAtMost (phases.ReadingData wanted) chunks m = pieces_from m.segments (limit_of m.orb) 0 ≤ chunks
HoldsAtMost phases.Answering chunks m = pieces_from m.segments (limit_of m.orb) 0 ≤ chunks
HoldsAtMost phase chunks m = Unit {0}

-- ---- whose turn came in a call
unfoldable pub over_places : (ℕ → ℕ) → (places : ℕ) → ℕ
over_places f zero = 0
over_places f (suc place) = f place + over_places f place

-- an end is told of the agent of a place
abbrev pub is_end_of : (place : ℕ) → Side → Bool
is_end_of place (sides.Ended other orb status) = other == place
is_end_of place side = false

abbrev pub ends_at : (place : ℕ) → List Side → Bool
ends_at place [] = false
ends_at place (side ∷ later) = is_end_of place side || ends_at place later

-- An ORB of the place has its turn in a call that tells these sides: the agent was not at work before, and it is behind the call, or an ORB of it ended.
abbrev pub has_turn : (before now : WorldState) → List Side → (place : ℕ) → Bool
has_turn before now told place = not (is_at_work_in before place) && (is_at_work_in now place || ends_at place told)

-- the requests for that ORB, which is the one behind those that had ended before the call, of the list of the place behind it
abbrev pub new_at : List Moment → (before now : WorldState) → List Side → (place : ℕ) → ℕ
new_at past before now told place = if has_turn before now told place then half_of (present_command past now place) else 0

abbrev pub newly : List Moment → (before now : WorldState) → List Side → ℕ
newly past before now told = over_places (new_at past before now told) 8
