-- The data and the answer of each ORB go through its own transactions alone.
use Rattle.std.specs.Prelude.{◌≡◌, ◌≢◌, ℕ, List, [], ◌∷◌, ◌⊎◌, Option}
use Rattle.orb_layout.specs.declared.ask.Ask.{Ask}
use Rattle.orb_layout.specs.Replies.{Answer}
use Rattle.rbc_disk.specs.Units.{PlainDisk}
use Rattle.rbc_disk.specs.Runs.{Told}
use Rattle.command_agent.specs.Machine.{Machine}
use Rattle.unordered_agent.specs.Machine.{TaskMachine, task_at}
use Rattle.unordered_agent.specs.Steps.{place_of}
use Rattle.unordered_laws.specs.Calls.{Call, Reply, after_call, replied}

-- the address and the command of an ORB, its buffer, its data, its answer, and what was last written for it
pub record SameOrb (a b : Machine) : Type 0 where
  pub orb : a.present ≡ b.present
  pub cdb : a.orb.cdb ≡ b.orb.cdb
  pub buffer : a.segments ≡ b.segments
  pub payload : a.payload ≡ b.payload
  pub answer : a.answer ≡ b.answer
  pub written : a.written ≡ b.written
  pub outgoing : a.outgoing ≡ b.outgoing

-- a call is none of a task place, where it is no reply that is about the ORB in it
abbrev pub IsOther : Call → TaskMachine → ℕ → Type 0
IsOther (Reply login plain told place answer) s other = other ≢ place_of s place
IsOther _ s other = Unit {0}

-- Whatever an agent's state is, a call leaves the ORB in each other place as it was.
abbrev pub ApartLaw : Type 0
ApartLaw = (call : Call) (s : TaskMachine) (other : ℕ) → IsOther call s other → SameOrb (task_at (after_call call s) other) (task_at s other)

-- at most two requests: one of this place, and behind it one of the fetcher
abbrev pub IsInTurn : ℕ → List (ℕ × Ask) → Type 0
IsInTurn place [] = Unit {0}
IsInTurn place ((from, ask) ∷ []) = (from ≡ place) ⊎ (from ≡ 8)
IsInTurn place ((from, ask) ∷ (behind, next) ∷ []) = (from ≡ place) × (behind ≡ 8)
IsInTurn place _ = ⊥

-- Whatever an agent's state is, a reply asks for nothing but the next transaction of the ORB that it is about, and then of the fetcher.
abbrev pub AsksLaw : Type 0
AsksLaw = (login : ℕ) (plain : PlainDisk) (told : Option Told) (place : ℕ) (answer : Answer) (s : TaskMachine) → IsInTurn (place_of s place) (replied login plain told place answer s).0.asks
