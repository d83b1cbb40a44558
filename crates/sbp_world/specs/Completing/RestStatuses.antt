-- The statuses of a run at rest (NCITS 325-1998, status block). Where a run is without loss, nothing is in flight, and no initiator injected packets, or few logins were given: of each list that is
-- the present one of an initiator that injected none, and was not cut, the status of each ORB that ended was taken; but for that of the last one, where the agent of the list is DEAD.
use Rattle.std.specs.Prelude.{◌≡◌, ◌⊎◌, ◌<◌, ℕ, suc, true, is_some, List, length, Some}
use Rattle.command_agent.specs.declared.phase.Phase.TheVariants as phases
use Rattle.sbp_journal.specs.Run.{Moment}
use Rattle.sbp_laws.specs.Budget.{Lossless}
use Rattle.sbp_laws.specs.Completion.{in_the_air}
use Rattle.sbp_laws.specs.Lists.{present_list, taken_at}
use Rattle.sbp_laws.specs.OrderLaw.{IsOpen}
use Rattle.sbp_laws.specs.Terms.{ends}
use Rattle.sbp_world.specs.Lists.Closes.{Always, WhereTameOrFew}
use Rattle.sbp_world.specs.Lists.Needs.{IsCalm, initiator_in, machine_at}
use Rattle.sbp_world.specs.Worlds.{WorldState}

-- an agent of an initiator is DEAD
pub record HasDead (w : WorldState) (i : ℕ) : Type 0 where
  pub place : ℕ
  pub small : place < 8
  pub initiator_is : initiator_in w place ≡ i
  pub dead : (machine_at w place).phase ≡ phases.Dead

abbrev pub WasTaken : List Moment → (i n k : ℕ) → Type 0
WasTaken past i n k = is_some (taken_at past i n k) ≡ true

abbrev pub AreTaken : List Moment → WorldState → Type 0
AreTaken past w = (i : ℕ) → i < length w.initiators → IsCalm past i → (n : ℕ) → IsOpen past i n → present_list past i ≡ Some n → (k : ℕ) → k < ends past i n → WasTaken past i n k ⊎ ((suc k ≡ ends past i n) × HasDead w i)

abbrev pub RestStatusesLaw : Type 0
RestStatusesLaw = Always (WhereTameOrFew (λ past w. Lossless past → in_the_air past ≡ 0 → AreTaken past w))
