-- Which lists are pointed to and present at rest (NCITS 325-1998, ORB_POINTER and fetch agents). ORB_POINTER was written for each list with a rung ORB. Where a run is lossless and nothing is in flight,
-- the write for each such list that its initiator began since it first saw the latest reset, and that was not cut, was taken as new, in the generation that the initiator is in. A list whose write was
-- so taken, and that was not cut, is the latest one of its initiator, at an agent that is out of RESET; at rest it is present, and where no agent of the initiator is DEAD, an agent is SUSPENDED with it.
use Rattle.std.specs.Prelude.{◌≡◌, ◌<◌, ℕ, suc, List, length, Some}
use Rattle.command_agent.specs.declared.phase.Phase.TheVariants as phases
use Rattle.sbp_journal.specs.Run.{Moment}
use Rattle.sbp_journal.specs.Transactions.{Sending}
use Rattle.sbp_journal.specs.Wire.{terms}
use Rattle.sbp_laws.specs.Budget.{Lossless}
use Rattle.sbp_laws.specs.Completion.{in_the_air}
use Rattle.sbp_laws.specs.Lists.{present_list}
use Rattle.sbp_laws.specs.Terms.{lists}
use Rattle.sbp_world.specs.Completing.RestStatuses.{HasDead}
use Rattle.sbp_world.specs.Completing.Sights.{IsFresh, rung}
use Rattle.sbp_world.specs.Lists.Closes.{Always}
use Rattle.sbp_world.specs.Lists.FewLogins.{FewLogins}
use Rattle.sbp_world.specs.Lists.Needs.{IsCalm, initiator_in, machine_at}
use Rattle.sbp_world.specs.Lists.Opened.{IsUp}
use Rattle.sbp_world.specs.Lists.OwnLogins.{IsTame}
use Rattle.sbp_world.specs.Pointers.Pointers.{pointed_list}
use Rattle.sbp_world.specs.Telling.{holder}
use Rattle.sbp_world.specs.Worlds.{WorldState}

-- ---- a list that an agent has
-- an agent that is out of RESET has the latest list of an initiator
pub record IsUpWith (past : List Moment) (w : WorldState) (i n : ℕ) : Type 0 where
  pub place : ℕ
  pub small : place < 8
  pub up : IsUp w i place
  pub list : (holder w place).list ≡ Some n
  pub latest : suc n ≡ lists past i

-- ---- the write of ORB_POINTER for a list
pub record HasWrite (past : List Moment) (i n : ℕ) : Type 0 where
  pub serial : ℕ
  pub pointed : pointed_list past serial i ≡ Some n

-- each list with a rung ORB has one
abbrev pub HaveWrites : List Moment → WorldState → Type 0
HaveWrites past w = (i n : ℕ) → i < length w.initiators → 0 < rung past i n → HasWrite past i n

abbrev pub RungWrittenLaw : Type 0
RungWrittenLaw = Always HaveWrites

-- ORB_POINTER was written for a list, in the generation that its initiator is in, and was taken as new
pub record WasPointed (past : List Moment) (i n : ℕ) : Type 0 where
  pub serial : ℕ
  pub packet : Sending
  pub sent : (terms past).sent serial ≡ Some packet
  pub from_is : packet.from ≡ suc i
  pub pointed : pointed_list past serial i ≡ Some n
  pub current : packet.generation ≡ (terms past).generation (suc i)
  pub taken : 0 < (terms past).news serial

-- at rest that of each list with a rung ORB was, which its initiator began since it first saw the latest reset, and which was not cut
abbrev pub WerePointed : List Moment → WorldState → Type 0
WerePointed past w = Lossless past → in_the_air past ≡ 0 → (i n : ℕ) → i < length w.initiators → IsCalm past i → IsFresh past i n → 0 < rung past i n → WasPointed past i n

abbrev pub RestPointedLaw : Type 0
RestPointedLaw = Always WerePointed

-- ---- at rest
-- the present list of an initiator, which a SUSPENDED agent has
pub record IsPresent (past : List Moment) (w : WorldState) (i n : ℕ) : Type 0 where
  pub place : ℕ
  pub small : place < 8
  pub own : initiator_in w place ≡ i
  pub list : (holder w place).list ≡ Some n
  pub suspended : (machine_at w place).phase ≡ phases.Suspended
  pub present : present_list past i ≡ Some n
  pub latest : suc n ≡ lists past i

-- a list with a rung ORB that its initiator began since it first saw the latest reset, and that was not cut, is the present one at rest, and a SUSPENDED agent has it, unless one of the initiator's is DEAD
abbrev pub FreshPresent : List Moment → WorldState → Type 0
FreshPresent past w = IsTame past → Lossless past → in_the_air past ≡ 0 → (i n : ℕ) → i < length w.initiators → (HasDead w i → ⊥) → IsFresh past i n → 0 < rung past i n → IsPresent past w i n

-- so it is where few logins were given
abbrev pub FreshFewLaw : Type 0
FreshFewLaw = Always (λ past w. FewLogins past → FreshPresent past w)
