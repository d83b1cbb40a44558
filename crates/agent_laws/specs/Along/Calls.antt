-- What an agent tells along a list, over every list of calls behind the one that takes the pointer to the list's first ORB (NCITS 325-1998, ordered
-- execution).
use Rattle.std.specs.Prelude.{◌≡◌, ℕ, zero, suc, ◌<◌, List, [], ◌∷◌, Option, Some, None, Ok}
use Rattle.orb_layout.specs.declared.ask.Ask.{Ask}
use Rattle.orb_layout.specs.declared.ask.FailCause.{FailCause}
use Rattle.orb_layout.specs.declared.command.CommandOrb.{CommandOrb}
use Rattle.orb_layout.specs.declared.pointer.OrbPointer.{OrbPointer}
use Rattle.orb_layout.specs.declared.status.StatusKind.{StatusKind}
use Rattle.orb_layout.specs.Replies.{Answer}
use Rattle.page_table.specs.declared.segment.Segment.{Segment}
use Rattle.rbc_disk.specs.declared.command.Outcome.{Outcome}
use Rattle.rbc_disk.specs.Units.{PlainDisk}
use Rattle.rbc_disk.specs.Runs.{Told}
use Rattle.command_agent.specs.declared.step.AgentStep.{AgentStep}
use Rattle.command_agent.specs.declared.step.Which.{Which}
use Rattle.command_agent.specs.Machine.{Machine, named}
use Rattle.command_agent.specs.Steps.{quiet, point_step, doorbell_step, reset_step, abort_step, reply_step, lost_step}
use Rattle.agent_laws.specs.Wire.{EndsBy}
use Rattle.agent_laws.specs.Along.Lists.{OrbList, IsLaid}
use Rattle.agent_laws.specs.Along.Steps.{Brings}

-- a call; a reply with what the unit and its medium hold, and what a run tells where there is one
pub data Call : Type 0 where
  Ring : Call
  Abort : (orb : ℕ) → Call
  Reset : Call
  Reply : (place : ℕ) (plain : PlainDisk) (told : Option Told) (which : Which) (answer : Answer) → Call
  Lose : (which : Which) (cause : FailCause) → Call

abbrev pub step_of : Call → Machine → AgentStep × Machine
step_of Ring m = (quiet, (doorbell_step m).1)
step_of (Abort orb) m = (quiet, abort_step m orb)
step_of Reset m = (quiet, reset_step m)
step_of (Reply place plain told which answer) m = reply_step m place plain told which answer
step_of (Lose which cause) m = lost_step m which cause

-- the agent behind calls, the latest one first
abbrev pub behind : Machine → List Call → Machine
behind start [] = start
behind start (call ∷ calls) = (step_of call (behind start calls)).1

-- What they tell, the latest first: an ORB, named by its address, ran as it was read, with this buffer, these data and this outcome; or it ended.
pub data Tale : Type 0 where
  Ran : (at : ℕ) (orb : CommandOrb) (segments : List Segment) (payload : List ℕ) (outcome : Outcome) → Tale
  Ended : (at : ℕ) (kind : StatusKind) → Tale

abbrev pub run_tales : Option Outcome → Machine → List Tale → List Tale
run_tales None m ts = ts
run_tales (Some outcome) m ts = Ran m.present m.orb m.segments m.payload outcome ∷ ts

abbrev pub end_tales : Option StatusKind → Machine → List Tale → List Tale
end_tales None m ts = ts
end_tales (Some kind) m ts = Ended m.present kind ∷ ts

abbrev pub tales_of : AgentStep × Machine → List Tale → List Tale
tales_of (step, m) ts = end_tales step.ended m (run_tales step.ran m ts)

abbrev pub tales : Machine → List Call → List Tale
tales start [] = []
tales start (call ∷ calls) = tales_of (step_of call (behind start calls)) (tales start calls)

-- how many ORBs ended
abbrev pub ends : List Tale → ℕ
ends [] = 0
ends (Ended at kind ∷ ts) = suc (ends ts)
ends (tale ∷ ts) = ends ts

-- how the last run since then came out
abbrev pub outcome_in : List Tale → Option Outcome
outcome_in [] = None
outcome_in (Ran at orb segments payload outcome ∷ ts) = Some outcome
outcome_in (Ended at kind ∷ ts) = None

-- each read that is answered brings what it is to bring of the ORB of its number
abbrev pub AllBring : OrbList → Machine → List Call → Type 0
AllBring l start [] = Unit {0}
AllBring l start (Reply place plain told which answer ∷ calls) = Brings l (ends (tales start calls)) (behind start calls) which answer × AllBring l start calls
AllBring l start (call ∷ calls) = AllBring l start calls

-- The ORB is the one behind those that have ended, and it is linked.
pub record IsInTurn (l : OrbList) (ts : List Tale) (at : ℕ) : Type 0 where
  pub place : at ≡ l.address (ends ts)
  pub linked : ends ts < l.linked

-- It runs for the first time, as it was read, with its buffer and its data.
pub record RunsInTurn (l : OrbList) (ts : List Tale) (at : ℕ) (orb : CommandOrb) (segments : List Segment) (payload : List ℕ) : Type 0 where
  pub turn : IsInTurn l ts at
  pub once : outcome_in ts ≡ None
  pub own : l.is_orb (ends ts) orb
  pub buffer : l.is_buffer (ends ts) orb segments
  pub part : l.is_data (ends ts) orb segments payload

-- It ends good or with a check behind its run with that outcome alone, and as dummy, aborted or illegal without one.
pub record EndsInTurn (l : OrbList) (ts : List Tale) (at : ℕ) (kind : StatusKind) : Type 0 where
  pub turn : IsInTurn l ts at
  pub by : EndsBy kind (outcome_in ts)

abbrev pub InTurn : OrbList → List Tale → Type 0
InTurn l [] = Unit {0}
InTurn l (Ran at orb segments payload outcome ∷ ts) = RunsInTurn l ts at orb segments payload × InTurn l ts
InTurn l (Ended at kind ∷ ts) = EndsInTurn l ts at kind × InTurn l ts

-- the addresses of the ORBs that ended, and of the first ones of a list, the last of them first
abbrev pub ended : List Tale → List ℕ
ended [] = []
ended (Ended at kind ∷ ts) = at ∷ ended ts
ended (tale ∷ ts) = ended ts

abbrev pub first_ones : OrbList → ℕ → List ℕ
first_ones l zero = []
first_ones l (suc n) = l.address n ∷ first_ones l n

-- the pointer to the first ORB of a list is taken
pub record TakesList (l : OrbList) (m : Machine) (pointer : OrbPointer) : Type 0 where
  pub first : named pointer ≡ Some (l.address 0)
  pub linked : 0 < l.linked
  pub ask : Ask
  pub taken : (point_step m pointer).0 ≡ Ok ask

-- Behind it, whatever the calls are, the ORBs run and end in the order of the list; those that ended are its first ones, each once.
pub record GoesAlong (l : OrbList) (start : Machine) (calls : List Call) : Type 0 where
  pub turns : InTurn l (tales start calls)
  pub order : ended (tales start calls) ≡ first_ones l (ends (tales start calls))

abbrev pub GoesAlongLaw : OrbList → Type 0
GoesAlongLaw l = (m : Machine) (pointer : OrbPointer) → IsLaid l → TakesList l m pointer → (calls : List Call) → AllBring l (point_step m pointer).1 calls → GoesAlong l (point_step m pointer).1 calls
