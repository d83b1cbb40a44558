-- An agent that has a list and is put to RESET by a call of the target has its list cut in that turn: no step puts it there.
use Rattle.sbp_world.proofs.Words.Std.{arith, ◌≡◌, ◌∙◌, refl, sym, ap, subst, inl, inr, ◌⊎◌, ◌<◌, ℕ, nat_eq, Bool, true, false, List, Some, nat_tests}
use Rattle.sbp_world.proofs.Words.Wire.{Layer, Holder, holder_at, OutboxState, Moment}
use Rattle.sbp_world.proofs.Words.Target.{Machine, state_in, is_reset, Phase, Purpose, NodeState, desk_at, scene}
use Rattle.sbp_world.proofs.Words.Laws.{is_cut}
use Rattle.sbp_world.proofs.Words.World.{handed_out, holder, told_all, WorldState, initiator_in, machine_at}
use Rattle.command_agent.specs.declared.phase.Phase.TheVariants as phases
use Rattle.sbp_target.proofs.Histories.Calling.{Good}
use Rattle.sbp_world.proofs.Agents.Management.Still.{hist}
use Rattle.sbp_world.proofs.Lists.Adds.{Stays, all_stay}
use Rattle.sbp_world.proofs.Lists.BusyCuts.{Cutting, WasCut}
use Rattle.sbp_world.proofs.Lists.Busy.{is_busy}
use Rattle.sbp_world.proofs.Lists.BusyDeliveries.{Called, acts, points, rests}
use Rattle.sbp_world.proofs.Lists.BusyFollows.{Acts}
use Rattle.sbp_world.proofs.Lists.BusyTold.{cut_told}
use Rattle.sbp_world.proofs.Lists.Full.{IsClosed}
use Rattle.sbp_world.proofs.Lists.StepsUp.{IsUp}

module _ (F : ℕ → Machine → Type 0) (closed : IsClosed F) (past : List Moment) (w u : WorldState) (places : u.places ≡ w.places) (node : NodeState) (outbox : OutboxState) (c : Cutting F closed (machine_at w) (scene node outbox)) where
  -- packets leave the target
  sends : Stays (λ j. true) past (told_all 0 outbox.sides u) (handed_out 0 0 outbox u)
  sends = all_stay (λ j. true) past 0 outbox.packets (told_all 0 outbox.sides u)

  module _ (p n : ℕ) (list_is : (holder w p).list ≡ Some n) where
    same : holder u p ≡ holder w p
    same = ap (λ ps. holder_at ps p) places

    pub was_cut : WasCut p outbox.sides → is_cut (hist past (handed_out 0 0 outbox u)) (initiator_in w p) n ≡ true
    was_cut cut =
        sends.adds.cuts_are (initiator_in w p) n
        ∙ (ap (λ (h : Holder). is_cut (hist past (told_all 0 outbox.sides u)) h.initiator n) (sym same)
        ∙ cut_told past p n outbox.sides u c.beside cut (ap (λ (h : Holder). h.list) same ∙ list_is))

    pub reset_is_cut : ((machine_at w p).phase ≡ phases.Reset → ⊥) → (desk_at node p).agent.phase ≡ phases.Reset → is_cut (hist past (handed_out 0 0 outbox u)) (initiator_in w p) n ≡ true
    reset_is_cut up over = by (c.stays p)
      where
        by : ((desk_at node p).agent.phase ≡ (machine_at w p).phase) ⊎ WasCut p outbox.sides → is_cut (hist past (handed_out 0 0 outbox u)) (initiator_in w p) n ≡ true
        by (inl e) = absurd (up (sym e ∙ over))
        by (inr cut) = was_cut cut

-- ---- any call of the target
module _ (w : WorldState) (g : Good w.target) (Given : Type 0) (F : ℕ → Machine → Type 0) (closed : IsClosed F) (layer : Layer Purpose) (node : NodeState) (outbox : OutboxState) (p : ℕ) (up : IsUp (machine_at w p)) (over : (desk_at node p).agent.phase ≡ phases.Reset) where
  reset_not : (m : Machine) → IsUp m → m.phase ≡ phases.Reset → ⊥
  reset_not m h e = let z : true ≡ false = sym (ap (λ (x : Phase). is_reset (state_in x)) e) ∙ h in cc

  module _ (q : ℕ) (b : q < 8) (Known : Type 0) (a : Acts q b Known Given F closed (machine_at w) (scene node outbox)) where
    steps_not : ⊥
    steps_not = by (nat_eq p q) refl
      where
        by : (x : Bool) → nat_eq p q ≡ x → ⊥
        by true e =
            let same : p ≡ q = grind (arith, nat_tests) in
            reset_not (desk_at node q).agent (a.up (subst (λ k. IsUp (machine_at w k)) same up)) (ap (λ k. (desk_at node k).agent.phase) (sym same) ∙ over)
        by false e =
            let apart : p ≡ q → ⊥ = λ f. let z : nat_eq p q ≡ true = grind (arith, nat_tests) in let y : true ≡ false = sym z ∙ e in cc in
            reset_not (machine_at w p) up (sym (ap (λ (m : Machine). m.phase) (a.same p apart)) ∙ over)

  -- no agent makes a step in it
  pub call_rests : Called w g Given F closed layer (scene node outbox) → Cutting F closed (machine_at w) (scene node outbox)
  call_rests (rests c) = c
  call_rests (acts q b h a) = absurd (steps_not q b (is_busy (machine_at w q).phase ≡ true) a)
  call_rests (points q b a) = absurd (steps_not q b (Unit {0}) a)

  pub call_is_cut : (past : List Moment) (u : WorldState) → u.places ≡ w.places → (n : ℕ) → (holder w p).list ≡ Some n → Called w g Given F closed layer (scene node outbox) → is_cut (hist past (handed_out 0 0 outbox u)) (initiator_in w p) n ≡ true
  call_is_cut past u places n list_is called = reset_is_cut F closed past w u places node outbox (call_rests called) p n list_is (reset_not (machine_at w p) up) over
