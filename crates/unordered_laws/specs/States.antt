-- In which state an agent is, and when it takes a pointer (NCITS 325-1998, command block agents), read off what calls tell.
use Rattle.std.specs.Prelude.{◌≡◌, ℕ, Bool, true, false, List, ◌⊎◌, Option, None, Ok}
use Rattle.orb_layout.specs.declared.ask.Ask.{Ask}
use Rattle.orb_layout.specs.declared.pointer.OrbPointer.{OrbPointer}
use Rattle.command_agent.specs.declared.step.AgentState.{AgentState}
use Rattle.command_agent.specs.declared.step.AgentState.TheVariants as states
use Rattle.unordered_agent.specs.Machine.{state_in}
use Rattle.unordered_agent.specs.Steps.{point_step}
use Rattle.unordered_laws.specs.Calls.{Call, after_calls}
use Rattle.unordered_laws.specs.Notes.{Note, notes, reading_in, is_open, is_dead}
use Rattle.unordered_laws.specs.Order.{first_in, orbs_in, next_of}
use Rattle.unordered_laws.specs.Fetches.{unanswered}

-- by whether it is dead and a list is open, what the fetcher reads, and which ORB is the next one
abbrev pub state_by : Bool → Bool → Option (ℕ × ℕ) → Option ℕ → AgentState
state_by true opened reading next = states.Dead
state_by false false reading next = states.Reset
state_by false true None None = states.Suspended
state_by false true reading next = states.Active

-- An agent is DEAD where it became dead, RESET where no list is open, SUSPENDED where the last ORB's next pointer is null and the fetcher reads nothing, whether tasks run or not, and else ACTIVE.
abbrev pub StateLaw : Type 0
StateLaw = (calls : List Call) → state_in (after_calls calls).fetcher.phase ≡ state_by (is_dead (notes calls)) (is_open (notes calls)) (reading_in (notes calls)) (next_of (first_in (notes calls)) (orbs_in (notes calls)))

-- a list is over: each of its ORBs was answered, there is no next one, and nothing is read
pub record IsOver (ns : List Note) : Type 0 where
  pub alive : is_dead ns ≡ false
  pub answered : unanswered ns ≡ 0
  pub last : next_of (first_in ns) (orbs_in ns) ≡ None
  pub idle : reading_in ns ≡ None

-- A pointer is taken only where no list is open, or the list is over.
abbrev pub PointLaw : Type 0
PointLaw = (calls : List Call) (pointer : OrbPointer) (ask : Ask) → (point_step (after_calls calls) pointer).0 ≡ Ok ask → (is_open (notes calls) ≡ false) ⊎ IsOver (notes calls)
