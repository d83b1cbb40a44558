-- In a turn in which an agent of the target that has a list is put to RESET its list is cut, and no ORB ends.
use Rattle.sbp_world.proofs.Words.Std.{◌≡◌, ◌∙◌, refl, sym, ap, subst, inl, inr, ◌⊎◌, ◌<◌, ℕ, Bool, true, false, List, [], ◌∷◌, Some}
use Rattle.sbp_world.proofs.Words.Wire.{holder_at, OutboxState, Moment, asked, Event, Side}
use Rattle.sbp_world.proofs.Words.Target.{Machine, state_in, is_reset, Phase, Disk, alone, NodeState, desk_at}
use Rattle.sbp_world.proofs.Words.Laws.{is_cut, ends}
use Rattle.sbp_world.proofs.Words.World.{holder, told, told_all, Scene, WorldState, initiator_in, machine_at}
use Rattle.command_agent.specs.declared.phase.Phase.TheVariants as phases
use Rattle.sbp_journal.specs.declared.side.Side.TheVariants as sides
use Rattle.sbp_world.proofs.Wire.Nodes.{handed_alike}
use Rattle.sbp_world.proofs.Agents.Management.Still.{hist}
use Rattle.sbp_world.proofs.Lists.Adds.{all_stay}
use Rattle.sbp_world.proofs.Lists.BusyCuts.{AreBeside}
use Rattle.sbp_world.proofs.Lists.Full.{IsFull, full_closed}
use Rattle.sbp_world.proofs.Lists.ResetCuts.{call_is_cut, call_rests}
use Rattle.sbp_world.proofs.Lists.StepsUp.{IsUp}
use Rattle.sbp_world.proofs.Lists.TurnCalls.{IsCalled, TurnCalls, TurnFrom, calls, keyed, leaves}
use Rattle.sbp_world.proofs.Lists.TurnWalk.{AreNumbered, turn_from}
use Rattle.sbp_world.proofs.Lists.UnrunTerms.{first_as}
use Rattle.sbp_world.proofs.Lists.Walks.{Step}

-- an agent that is the same is not put to RESET
up_stays : (m now : Machine) → now ≡ m → IsUp m → now.phase ≡ phases.Reset → ⊥
up_stays m now same up e =
    let z : true ≡ false = sym (ap (λ (x : Phase). is_reset (state_in x)) e) ∙ (ap (λ (n : Machine). is_reset (state_in n.phase)) same ∙ up) in cc

-- what the target tells of no step of an agent ends no ORB
module _ (past : List Moment) (i n : ℕ) where
  pub beside_ends : (side : List Side) (w : WorldState) → AreBeside side → ends (hist past (told_all 0 side w)) i n ≡ ends (hist past w) i n
  unfolding told_all told
  beside_ends [] w h = refl
  beside_ends (sides.Own note ∷ later) w h = absurd h.0
  beside_ends (sides.Ended place orb status ∷ later) w h = absurd h.0
  beside_ends (side ∷ later) w h = beside_ends later (told 0 side w) h.1

-- ---- one call
module _ (past : List Moment) (w v : WorldState) (c : IsCalled past w v) (p : ℕ) (up : IsUp (machine_at w p)) (over : (machine_at v p).phase ≡ phases.Reset) where
  abbrev node : NodeState
  node = (alone c.call w.target).node

  abbrev outbox : OutboxState
  outbox = (alone c.call w.target).outbox

  over_there : (desk_at node p).agent.phase ≡ phases.Reset
  over_there = sym (ap (λ (t : NodeState). (desk_at t p).agent.phase) (ap (λ (x : WorldState). x.target) c.is ∙ ((handed_alike 0 0 outbox c.u).target ∙ c.target))) ∙ over

  call_cuts : (n : ℕ) → (holder w p).list ≡ Some n → is_cut (hist past v) (initiator_in w p) n ≡ true
  call_cuts n list_is =
      subst (λ (x : WorldState). is_cut (hist past x) (initiator_in w p) n ≡ true) (sym c.is)
      (call_is_cut w c.good ⊥ (λ q m. IsFull m) full_closed c.layer node outbox p up over_there past c.u c.places n list_is c.called)

  call_ends : (i n : ℕ) → ends (hist past v) i n ≡ ends (hist past w) i n
  call_ends i n =
      let told_there = told_all 0 outbox.sides c.u in
      let cutting = call_rests w c.good ⊥ (λ q m. IsFull m) full_closed c.layer node outbox p up over_there c.called in
      ap (λ (x : WorldState). ends (hist past x) i n) c.is
      ∙ ((all_stay (λ j. true) past 0 outbox.packets told_there).adds.ends_are i n
      ∙ (beside_ends past i n outbox.sides c.u cutting.beside ∙ (ap (λ ms. ends ms i n) c.fresh ∙ (first_as (hist past w) c.first c.starts).ends_are i n)))

-- ---- a turn
module _ (wild : ℕ → Bool) (past : List Moment) (before : WorldState) (later : List Moment) (v : WorldState) (x : TurnFrom wild past before later v) (p : ℕ) (up : IsUp (machine_at before p)) (over : (machine_at v p).phase ≡ phases.Reset) where
  machine_is : machine_at x.w p ≡ machine_at before p
  machine_is = ap (λ (t : NodeState). (desk_at t p).agent) x.target

  up_there : IsUp (machine_at x.w p)
  up_there = ap (λ (m : Machine). is_reset (state_in m.phase)) machine_is ∙ up

  pub from_is_cut : (n : ℕ) → (holder before p).list ≡ Some n → is_cut (hist later v) (initiator_in before p) n ≡ true
  from_is_cut n list_is = subst (λ i. is_cut (hist later v) i n ≡ true) (ap (λ ps. (holder_at ps p).initiator) x.places) (by x.turn)
    where
      by : TurnCalls wild later x.w v → is_cut (hist later v) (initiator_in x.w p) n ≡ true
      by (leaves s none) = absurd (up_stays (machine_at x.w p) (machine_at v p) (ap (λ (t : NodeState). (desk_at t p).agent) s.target) up_there over)
      by (keyed unit key target places is) = absurd (up_stays (machine_at x.w p) (machine_at v p) (ap (λ (t : NodeState). (desk_at t p).agent) target) up_there over)
      by (calls c) = call_cuts later x.w v c p up_there over n (ap (λ ps. (holder_at ps p).list) x.places ∙ list_is)

  pub from_ends_stay : (i n : ℕ) → ends (hist later v) i n ≡ ends (hist past before) i n
  from_ends_stay i n = by x.turn ∙ from_begins x.begins
    where
      from_begins : (hist later x.w ≡ hist past before) ⊎ ((line : ℕ) × ((event : Event) × (hist later x.w ≡ asked line event ∷ hist past before))) → ends (hist later x.w) i n ≡ ends (hist past before) i n
      from_begins (inl e) = ap (λ ms. ends ms i n) e
      from_begins (inr h) = ap (λ ms. ends ms i n) h.1.1

      by : TurnCalls wild later x.w v → ends (hist later v) i n ≡ ends (hist later x.w) i n
      by (leaves s none) = s.adds.ends_are i n
      by (keyed unit key target places is) = ap (λ ms. ends ms i n) is
      by (calls c) = call_ends later x.w v c p up_there over i n

-- ---- a turn of a run
module _ (wild : ℕ → Bool) (units ready : ℕ) (has : 0 < units) (start : List Disk) (Q U : List Moment → WorldState → Type 0) (past : List Moment) (s : Scene) (later : List Moment) (t : Scene) (step : Step wild units ready start Q U past s later t) (number : AreNumbered (hist past s.world) s.world) (p : ℕ) (up : IsUp (machine_at s.world p)) (over : (machine_at t.world p).phase ≡ phases.Reset) where
  abbrev turn : TurnFrom wild past s.world later t.world
  turn = turn_from wild units ready has start Q U past s later t step number

  -- the list of the agent is cut in it
  pub turn_is_cut : (n : ℕ) → (holder s.world p).list ≡ Some n → is_cut (hist later t.world) (initiator_in s.world p) n ≡ true
  turn_is_cut n list_is = from_is_cut wild past s.world later t.world turn p up over n list_is

  -- and no ORB ends in it
  pub turn_ends_stay : (i n : ℕ) → ends (hist later t.world) i n ≡ ends (hist past s.world) i n
  turn_ends_stay i n = from_ends_stay wild past s.world later t.world turn p up over i n
