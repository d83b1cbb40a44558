-- At rest an agent that is out of RESET, and not DEAD, is SUSPENDED, and its list is the present one of its initiator; so where no ORB of the list is rung behind those that ended, each rung ORB of it has
-- its status.
use Rattle.sbp_world.proofs.Words.Std.{◌≡◌, ◌∙◌, refl, ap, inl, inr, ◌⊎◌, ◌<◌, not, ℕ, suc, is_some, true, false, List, Option, Some, None, length}
use Rattle.sbp_world.proofs.Words.Wire.{Moment, terms}
use Rattle.sbp_world.proofs.Words.Target.{Phase, state_in, is_reset}
use Rattle.sbp_world.proofs.Words.Laws.{TakenStatus, ends, is_cut, taken_at}
use Rattle.sbp_world.proofs.Words.World.{IsCalm, IsHere, WorldState, has_list, machine_at}
use Rattle.command_agent.specs.declared.phase.Phase.TheVariants as phases
use Rattle.sbp_laws.specs.Lists.{is_none_taken}
use Rattle.sbp_world.specs.Completing.Present.{IsPresent, IsUpWith}
use Rattle.sbp_world.specs.Completing.Rest.{TargetRests, is_resting}
use Rattle.sbp_world.specs.Completing.RestStatuses.{AreTaken, HasDead, WasTaken}
use Rattle.sbp_world.proofs.Common.{untrue}

-- ---- an agent at rest
rests_suspended : (phase : Phase) → is_resting phase ≡ true → not (is_reset (state_in phase)) ≡ true → (phase ≡ phases.Dead → ⊥) → phase ≡ phases.Suspended
rests_suspended phases.Suspended r up alive = refl
rests_suspended phases.Reset r up alive = untrue up
rests_suspended phases.Dead r up alive = absurd (alive refl)
rests_suspended phases.Fetching r up alive = untrue r
rests_suspended phases.ReadingTable r up alive = untrue r
rests_suspended (phases.ReadingData wanted) r up alive = untrue r
rests_suspended phases.Answering r up alive = untrue r
rests_suspended phases.WritingStatus r up alive = untrue r
rests_suspended phases.WritingLastStatus r up alive = untrue r
rests_suspended phases.ReadingNext r up alive = untrue r

module _ (past : List Moment) (w : WorldState) (i n : ℕ) (rest : TargetRests w.target) (here : IsHere past w i) (same : (terms past).generation 0 ≡ (terms past).generation (suc i)) (alive : HasDead w i → ⊥) (o : IsUpWith past w i n) where
  suspended : (machine_at w o.place).phase ≡ phases.Suspended
  suspended =
      rests_suspended (machine_at w o.place).phase (rest.desks o.place o.small).phase o.up.up
      (λ dead. alive (record { place = o.place; small = o.small; initiator_is = o.up.own; dead = dead }))

  pub is_present : IsPresent past w i n
  is_present = record {
    place = o.place;
    small = o.small;
    own = o.up.own;
    list = o.list;
    suspended = suspended;
    present = here.present o.place o.small (ap has_list suspended) o.up.own same ∙ o.list;
    latest = o.latest;
  }

-- ---- its statuses
one_taken : (t : Option TakenStatus) → is_some t ≡ true → is_none_taken t ≡ false
one_taken (Some t) e = refl
one_taken None e = untrue e

module _ (past : List Moment) (w : WorldState) (i n : ℕ) (inside : i < length w.initiators) (calm : IsCalm past i) (taken : AreTaken past w) (alive : HasDead w i → ⊥) (uncut : is_cut past i n ≡ false) (o : IsPresent past w i n) where
  pub ended_taken : (k : ℕ) → k < ends past i n → is_none_taken (taken_at past i n k) ≡ false
  ended_taken k less = by (taken i inside calm n (record { latest = o.latest; uncut = uncut }) o.present k less)
    where
      by : WasTaken past i n k ⊎ ((suc k ≡ ends past i n) × HasDead w i) → is_none_taken (taken_at past i n k) ≡ false
      by (inl e) = one_taken (taken_at past i n k) e
      by (inr (last, dead)) = absurd (alive dead)
