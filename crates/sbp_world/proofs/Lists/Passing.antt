-- What the pass over the runs keeps of a history, and how an agent goes along a list: how often its ORBs ran, where what this stands on holds.
use Rattle.sbp_world.proofs.Words.Wire.{check_of, Moment, said, Cmd, Append, Ended, Ran}
use Rattle.sbp_world.proofs.Words.Target.{Outcome, Machine, Along, Progress}
use Rattle.sbp_world.proofs.Words.Initiator.{StatusKind}
use Rattle.sbp_world.proofs.Words.Laws.{MayEndWith, command_at, linked, slot_at, IsNextEnd, ends, ran_status, runs, status_of, EachMoment}
use Rattle.sbp_world.proofs.Words.World.{WasHad, orbs_by, IsAppend, IsNextRun, UnrunLaw}
use Rattle.std.specs.Prelude.{◌≡◌, ℕ, Bool, true, false, List, Option, Some, None}

-- ---- the agents
-- the runs of an ORB by the history, and the status with which it ran, where its command ran so, or did not
abbrev pub HasRun : Option Outcome → (runs : ℕ) → Option StatusKind → Type 0
HasRun None runs status = runs ≡ 0
HasRun (Some outcome) runs status = status ≡ Some (status_of (check_of outcome))

pub record IsOn (linked : ℕ) (slot : ℕ → ℕ) (command : ℕ → Option Cmd) (ended : ℕ) (runs : ℕ → ℕ) (status : ℕ → Option StatusKind) (m : Machine) : Type 0 where
  pub progress : Progress
  pub is : progress.ended ≡ ended
  pub ran : UnrunLaw → HasRun progress.outcome (runs progress.ended) (status progress.ended)
  pub along : Along (orbs_by linked slot command) progress m

abbrev pub GoesOn : List Moment → (i n : ℕ) → Machine → Type 0
GoesOn past i n m = IsOn (linked past i n) (slot_at past i n) (command_at past i n) (ends past i n) (runs past i n) (ran_status past i n) m

-- ---- the law
pub record RunsNext (past : List Moment) (i n k : ℕ) (cdb bytes : List ℕ) : Type 0 where
  pub next : IsNextRun past i n k cdb bytes
  pub once : UnrunLaw → runs past i n k ≡ 0

pub record EndsNext (past : List Moment) (i n k : ℕ) (status : StatusKind) : Type 0 where
  pub turn : IsNextEnd past i n k
  pub by : UnrunLaw → MayEndWith status (ran_status past i n k)
  pub had : WasHad past i n

abbrev pub PassAt : (ℕ → Bool) → Moment → List Moment → Type 0
PassAt wild (said (Append i n k cdb buffer)) past = IsAppend past i n k
PassAt wild (said (Ran i (Some n) (Some k) unit cdb bytes check)) past = wild i ≡ false → RunsNext past i n k cdb bytes
PassAt wild (said (Ran i n k unit cdb bytes check)) past = wild i ≡ true
PassAt wild (said (Ended i (Some n) (Some k) status)) past = wild i ≡ false → EndsNext past i n k status
PassAt wild (said (Ended i n k status)) past = wild i ≡ true
PassAt wild moment past = Unit {0}

abbrev pub PassLaw : (ℕ → Bool) → List Moment → Type 0
PassLaw wild past = EachMoment (PassAt wild) past
