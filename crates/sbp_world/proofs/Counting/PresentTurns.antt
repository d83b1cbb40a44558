-- The ORB that an agent works behind a call of the target is the one that it worked before, or the one whose turn came: of its list as many had ended before.
use Rattle.sbp_world.proofs.Words.Std.{◌≡◌, ◌∙◌, refl, sym, ap, ◌<◌, not, ℕ, suc, Bool, true, false, List, Some}
use Rattle.sbp_world.proofs.Words.Wire.{Holder, Moment, Side}
use Rattle.sbp_world.proofs.Words.Target.{Machine, TargetScene, desk_at, is_reset, state_in}
use Rattle.sbp_world.proofs.Words.Laws.{command_at, ends, lists}
use Rattle.sbp_world.proofs.Words.World.{IsUp, WorldState, holder, initiator_in}
use Rattle.command_agent.specs.Making.{is_at_work}
use Rattle.sbp_world.proofs.Agents.Management.Still.{hist}
use Rattle.sbp_world.proofs.Counting.Tells.{ends_in_over, no_end, other_end, over_rests}
use Rattle.sbp_world.proofs.Counting.Turns.{IsGround, IsTurn, scene_of, told_of, turn}
use Rattle.sbp_world.proofs.Lists.BusyDeliveries.{Called, acts, points, rests}
use Rattle.sbp_world.proofs.Lists.BusyFollows.{AreOf, has_end}
use Rattle.sbp_world.proofs.Lists.EndingCalls.{call_called}
use Rattle.sbp_world.proofs.Lists.EndingSteps.{over_up}
use Rattle.sbp_world.proofs.Lists.Full.{IsFull, full_closed}
use Rattle.sbp_world.proofs.Lists.TurnCalls.{IsCalled}
use Rattle.sbp_world.proofs.Lists.TurnCuts.{beside_ends}
use Rattle.sbp_world.specs.Counting.Rooms.{is_at_work_in, of_list, present_command}

module _ (past : List Moment) (w v : WorldState) (ground : IsGround (hist past w) (hist past v) w v) (c : IsCalled past w v) where
  abbrev before : List Moment
  before = hist past w

  abbrev now : List Moment
  now = hist past v

  abbrev t : TargetScene
  t = scene_of past w v c

  abbrev told : List Side
  told = told_of past w v c

  this : IsTurn past w v c
  this = turn past w v ground c

  module _ (p : ℕ) (b : p < 8) (e : is_at_work_in v p ≡ true) (n : ℕ) where
    -- an end at another place is of another initiator
    end_apart : (q : ℕ) → q < 8 → AreOf q told → has_end told ≡ true → (holder c.u q).initiator ≡ initiator_in v p → ⊥
    end_apart q d of f same =
        let over = ends_in_over w c.good t q of f (call_called w c.good c.call) in
        let up = ap (λ (m : Machine). not (is_reset (state_in m.phase))) (this.machine_now q) ∙ over_up (desk_at t.node q).agent.phase over in
        let i = initiator_in v p in
        let there : IsUp v i q = record { up = up; own = ground.owns q d up ∙ ap (λ (h : Holder). h.initiator) (sym (this.holder_u q)) ∙ same } in
        let at = ground.apart_now i p q (ground.calm_now i) b d (this.up_now p e) there in
        over_rests (desk_at t.node q).agent.phase over (ap (λ (m : Machine). is_at_work m.phase) (sym (this.machine_now q)) ∙ ap (is_at_work_in v) at ∙ e)

    ends_of : (q : ℕ) → q < 8 → AreOf q told → ends now (initiator_in v p) n ≡ ends before (initiator_in v p) n
    ends_of q d of = by (has_end told) refl
      where
        by : (x : Bool) → has_end told ≡ x → ends now (initiator_in v p) n ≡ ends before (initiator_in v p) n
        by false f = this.same_ends (initiator_in v p) n (no_end past q (initiator_in v p) n told c.u of f)
        by true f = this.same_ends (initiator_in v p) n (other_end past q (initiator_in v p) n told c.u of (end_apart q d of f))

    -- as many of its list had ended before
    work_ends : ends now (initiator_in v p) n ≡ ends before (initiator_in v p) n
    work_ends = by c.called
      where
        by : Called w c.good ⊥ (λ p m. IsFull m) full_closed c.layer t → ends now (initiator_in v p) n ≡ ends before (initiator_in v p) n
        by (rests r) = this.same_ends (initiator_in v p) n (beside_ends past (initiator_in v p) n told c.u r.beside)
        by (acts q d h a) = ends_of q d a.of
        by (points q d a) = ends_of q d a.of

    command_same : command_at now (initiator_in v p) n (ends now (initiator_in v p) n) ≡ command_at before (initiator_in v p) n (ends before (initiator_in v p) n)
    command_same = this.goes.commands (initiator_in v p) n (ends now (initiator_in v p) n) ∙ ap (command_at before (initiator_in v p) n) work_ends

  present_at : (ms : List Moment) (y : WorldState) (p n : ℕ) → (holder y p).list ≡ Some n → present_command ms y p ≡ command_at ms (initiator_in y p) n (ends ms (initiator_in y p) n)
  present_at ms y p n e = ap (λ l. of_list l (λ n. command_at ms (initiator_in y p) n (ends ms (initiator_in y p) n))) e

  -- it is the one that was worked before
  pub present_stays : (p : ℕ) → p < 8 → is_at_work_in w p ≡ true → is_at_work_in v p ≡ true → present_command now v p ≡ present_command before w p
  present_stays p b was e =
      let k = ground.working p b was (ground.calm (initiator_in w p)) in
      let i = initiator_in v p in
      let own = this.owner p b e in
      let latest : suc k.n ≡ lists now i = k.latest ∙ (ap (lists before) (sym own) ∙ sym (this.goes.lists_are i)) in
      let list = ground.latest_now i p k.n (ground.calm_now i) b (this.up_now p e) latest in
      present_at now v p k.n list ∙ command_same p b e k.n ∙ ap (λ j. command_at before j k.n (ends before j k.n)) own ∙ sym (present_at before w p k.n k.list)

  -- or the one whose turn came
  pub present_comes : (p : ℕ) → p < 8 → is_at_work_in v p ≡ true → present_command now v p ≡ present_command before v p
  present_comes p b e =
      let k = ground.working_now p b e (ground.calm_now (initiator_in v p)) in
      present_at now v p k.n k.list ∙ command_same p b e k.n ∙ sym (present_at before v p k.n k.list)
