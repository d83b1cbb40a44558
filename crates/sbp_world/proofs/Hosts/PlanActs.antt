-- What an action leaves of what an initiator's slots bring with a good status: the plan of the ORB that it prepares.
use Rattle.sbp_world.proofs.Words.Std.{◌≡◌, refl, ◌∙◌, ap, ℕ, ◌==◌, is_some, Bool, true, false, cond, List, Option, Some, None, Result, Ok, Err}
use Rattle.sbp_world.proofs.Words.Wire.{Label, Layer, OutboxState, Action, Cmd}
use Rattle.sbp_world.proofs.Words.Initiator.{ManagementOrb, ListState, dummy_lists, high_lists, low_lists, manage_lists, pin_lists, find_in, may_prepare, TicketParts, AnswerPlan, ListFault, PresentList, act_step, asked_as, asked_for, demand_of, demanded_as, done_step, dummy_for, facts_with, judged_as, link_as, link_step, login_id, low_as, low_step, managed_by, orb_by, pinned_for, put_as, put_step, ring_for, ring_step, with_running, asked_by, plan_of, prepared_as, put_lists, Turn, then_step, refusal, is_unwritten, Demand, Purpose, InitiatorState}
use Rattle.std.proofs.Common.{slice_set}
use Rattle.orb_list.specs.Table as table
use Rattle.sbp_journal.specs.declared.event.Action.TheVariants as actions

-- ---- the steps of the slots

lowered : (lists : ListState) → (low_lists lists).1.answers ≡ lists.answers
unfolding low_lists
lowered lists = refl

raised : (lists : ListState) → (high_lists lists).1.answers ≡ lists.answers
unfolding high_lists
raised lists = refl

dummied : (lists : ListState) (t : TicketParts) → (dummy_lists lists t).answers ≡ lists.answers
unfolding dummy_lists
dummied lists t = refl

managed : (lists : ListState) (place : ℕ) (orb : ManagementOrb) → (manage_lists lists place orb).answers ≡ lists.answers
unfolding manage_lists
managed lists place orb = refl

same_lists : (b : Bool) (x y : ListState) → y.answers ≡ x.answers → (cond b x y).answers ≡ x.answers
same_lists true x y e = refl
same_lists false x y e = e

pinned : (lists : ListState) (t : TicketParts) → (pin_lists lists t).answers ≡ lists.answers
unfolding pin_lists
pinned lists t = same_lists (is_some lists.slots.pinned) lists _ refl

-- ---- what a step of an action leaves

module _ (plans : List AnswerPlan) where
  abbrev K : InitiatorState → Type 0
  K s = s.lists.answers ≡ plans

  pick : (b : Bool) (u v : InitiatorState) → K u → K v → K (cond b u v)
  pick true u v h i = h
  pick false u v h i = i

  put_plan : (r : Option TicketParts × ListState) (cmd : Cmd) (o : OutboxState) (s : InitiatorState) → r.1.answers ≡ plans → K (put_as r cmd o s).1
  put_plan (None, lists) cmd o s k = k
  put_plan (Some t, lists) cmd o s k = pick (t.number == 0) _ _ k k

  low_plan : (r : Option TicketParts × ListState) (o : OutboxState) (s : InitiatorState) → r.1.answers ≡ plans → K (low_as r o s).1
  low_plan (None, lists) o s k = k
  low_plan (Some t, lists) o s k = k

  link_plan : (r : Option TicketParts × ListState) (o : OutboxState) (s : InitiatorState) → r.1.answers ≡ plans → K (link_as r o s).1
  link_plan (None, lists) o s k = k
  link_plan (Some t, lists) o s k = k

  ring_plan : (present : Option PresentList) (o : OutboxState) (s : InitiatorState) → K s → K (ring_for present o s).1
  ring_plan None o s k = k
  ring_plan (Some list) o s k = pick (is_unwritten s.marks.pointing) _ (with_running s) k k

  -- what follows an ORB that is prepared
  linked_plan : (t : Turn) → K t.1 → K (then_step ring_step (then_step link_step (then_step low_step t))).1
  linked_plan t k =
      let a = low_step t.0 t.1 in
      let b = link_step a.0 a.1 in
      ring_plan b.1.lists.slots.present b.0 b.1
      (link_plan (high_lists a.1.lists) a.0 a.1 (raised a.1.lists ∙ low_plan (low_lists t.1.lists) t.0 t.1 (lowered t.1.lists ∙ k)))

  dummy_plan : (found : Option TicketParts) (o : OutboxState) (s : InitiatorState) → K s → K (dummy_for found o s).1
  dummy_plan None o s k = k
  dummy_plan (Some t) o s k = dummied s.lists t ∙ k

  pin_plan : (found : Option TicketParts) (s : InitiatorState) → K s → K (pinned_for found s)
  pin_plan None s k = k
  pin_plan (Some t) s k = pinned s.lists t ∙ k

-- ---- an action that is done

-- it prepares no ORB
abbrev pub IsPlain : Action → Type 0
IsPlain (actions.Put cmd) = ⊥
IsPlain (actions.Append cmd) = ⊥
IsPlain _ = Unit {0}

done_plain : (action : Action) (o : OutboxState) (s : InitiatorState) → IsPlain action → (done_step action o s).1.lists.answers ≡ s.lists.answers
unfolding done_step
done_plain (actions.Put cmd) o s q = absurd q
done_plain (actions.Append cmd) o s q = absurd q
done_plain actions.Low o s q = low_plan s.lists.answers (low_lists s.lists) o s (lowered s.lists)
done_plain actions.Link o s q = link_plan s.lists.answers (high_lists s.lists) o s (raised s.lists)
done_plain actions.Ring o s q = ring_plan s.lists.answers s.lists.slots.present o s refl
done_plain (actions.Dummy orb) o s q = dummy_plan s.lists.answers (find_in s.lists.slots.slots orb) o s refl
done_plain actions.Rom o s q = refl
done_plain actions.AgentReset o s q = refl
done_plain actions.State o s q = refl
done_plain actions.Enable o s q = refl
done_plain (actions.Abort orb) o s q =
    let u = managed_by (orb_by (actions.Abort orb) s) _ s in
    pin_plan s.lists.answers (find_in u.lists.slots.slots orb) u (managed s.lists _ _)
done_plain (actions.Login unit reconnect exclusive password) o s q = managed s.lists _ _
done_plain (actions.Query unit) o s q = managed s.lists _ _
done_plain actions.Reconnect o s q = managed s.lists _ _
done_plain actions.Logout o s q = managed s.lists _ _
done_plain actions.AbortSet o s q = managed s.lists _ _
done_plain actions.UnitReset o s q = managed s.lists _ _
done_plain actions.TargetReset o s q = managed s.lists _ _

module _ (cmd : Cmd) (slot : ℕ) where
  abbrev with_plan : InitiatorState → List AnswerPlan
  with_plan s = slice_set s.lists.answers slot (plan_of cmd)

  put_at : (r : Result ℕ ListFault) (o : OutboxState) (s : InitiatorState) → r ≡ Ok slot → (put_as (prepared_as (table.prepare_at r s.lists.slots s.lists.memory (asked_by cmd s.layer.node (login_id s))) s.lists cmd) cmd o s).1.lists.answers ≡ with_plan s
  put_at (Ok other) o s e =
      let same : other ≡ slot = cc in
      put_plan (with_plan s) (prepared_as (table.prepare_at (Ok other) s.lists.slots s.lists.memory (asked_by cmd s.layer.node (login_id s))) s.lists cmd) cmd o s (ap (λ n. slice_set s.lists.answers n (plan_of cmd)) same)
  put_at (Err fault) o s e = absurd (cc e)

  put_done : (o : OutboxState) (s : InitiatorState) → may_prepare s.lists.slots ≡ Ok slot → (put_step cmd o s).1.lists.answers ≡ with_plan s
  unfolding put_lists table.prepare_step
  put_done o s e = put_at (may_prepare s.lists.slots) o s e

-- it is one that is refused, or done, whatever its label is
module _ (action : Action) (o : OutboxState) (s : InitiatorState) (plans : List AnswerPlan) (done : (layer : Layer Purpose) → (done_step action o (record s { layer = layer })).1.lists.answers ≡ plans) where
  asked_plan : (r : Option Label × Layer Purpose) → (asked_as r action o s).0 ≡ None → (asked_as r action o s).1.1.lists.answers ≡ plans
  asked_plan (None, layer) e = absurd (cc e)
  asked_plan (Some asked, layer) e = done layer

  demanded_plan : (demand : Option Demand) → (demanded_as demand action o s).0 ≡ None → (demanded_as demand action o s).1.1.lists.answers ≡ plans
  demanded_plan None e = done s.layer
  demanded_plan (Some demand) e = asked_plan (asked_for demand s) e

  judged_plan : (refused : Option ℕ) → (judged_as refused action o s).0 ≡ None → (judged_as refused action o s).1.1.lists.answers ≡ plans
  judged_plan (Some number) e = absurd (cc e)
  judged_plan None e = demanded_plan (demand_of action s) e

  acted_plan : (act_step action o s).0 ≡ None → (act_step action o s).1.1.lists.answers ≡ plans
  unfolding act_step
  acted_plan e = judged_plan (refusal action (facts_with true s action)) e

pub plain_plans : (action : Action) (o : OutboxState) (s : InitiatorState) → IsPlain action → (act_step action o s).0 ≡ None → (act_step action o s).1.1.lists.answers ≡ s.lists.answers
plain_plans action o s q e = acted_plan action o s s.lists.answers (λ layer. done_plain action o (record s { layer = layer }) q) e

pub put_plans : (cmd : Cmd) (slot : ℕ) (o : OutboxState) (s : InitiatorState) → may_prepare s.lists.slots ≡ Ok slot → (act_step (actions.Put cmd) o s).0 ≡ None → (act_step (actions.Put cmd) o s).1.1.lists.answers ≡ slice_set s.lists.answers slot (plan_of cmd)
unfolding done_step
put_plans cmd slot o s e n = acted_plan (actions.Put cmd) o s (slice_set s.lists.answers slot (plan_of cmd)) (λ layer. put_done cmd slot o (record s { layer = layer }) e) n

pub append_plans : (cmd : Cmd) (slot : ℕ) (o : OutboxState) (s : InitiatorState) → may_prepare s.lists.slots ≡ Ok slot → (act_step (actions.Append cmd) o s).0 ≡ None → (act_step (actions.Append cmd) o s).1.1.lists.answers ≡ slice_set s.lists.answers slot (plan_of cmd)
unfolding done_step
append_plans cmd slot o s e n =
    acted_plan (actions.Append cmd) o s (slice_set s.lists.answers slot (plan_of cmd))
    (λ layer. linked_plan (slice_set s.lists.answers slot (plan_of cmd)) (put_step cmd o (record s { layer = layer })) (put_done cmd slot o (record s { layer = layer }) e)) n
