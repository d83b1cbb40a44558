-- An action leaves its initiator's number.
use Rattle.sbp_world.proofs.Words.Std.{◌≡◌, refl, ◌∙◌, ℕ, ◌==◌, Bool, true, false, cond, Option, Some, None}
use Rattle.sbp_world.proofs.Words.Wire.{Asked, Layer, OutboxState, Action, Cmd}
use Rattle.sbp_world.proofs.Words.Initiator.{PresentList, TicketParts, find_in, Demand, Purpose, InitiatorState, ListState, high_lists, low_lists, put_lists, refusal, is_unwritten, act_step, append_step, asked_as, asked_for, demand_of, demanded_as, done_step, dummy_for, facts_with, judged_as, link_as, link_step, login_id, low_as, low_step, managed_by, orb_by, pinned_for, put_as, put_step, ring_for}
use Rattle.sbp_journal.specs.declared.event.Action.TheVariants as actions
use Rattle.sbp_journal.specs.declared.operation.Operation.TheVariants as operations

pick : (b : Bool) (x y : InitiatorState) (n : ℕ) → x.number ≡ n → y.number ≡ n → (cond b x y).number ≡ n
pick true x y n e f = e
pick false x y n e f = f

put_number : (r : Option TicketParts × ListState) (cmd : Cmd) (o : OutboxState) (s : InitiatorState) → (put_as r cmd o s).1.number ≡ s.number
put_number (None, lists) cmd o s = refl
put_number (Some t, lists) cmd o s = pick (t.number == 0) _ _ s.number refl refl

low_number : (r : Option TicketParts × ListState) (o : OutboxState) (s : InitiatorState) → (low_as r o s).1.number ≡ s.number
low_number (None, lists) o s = refl
low_number (Some t, lists) o s = refl

link_number : (r : Option TicketParts × ListState) (o : OutboxState) (s : InitiatorState) → (link_as r o s).1.number ≡ s.number
link_number (None, lists) o s = refl
link_number (Some t, lists) o s = refl

ring_number : (list : Option PresentList) (o : OutboxState) (s : InitiatorState) → (ring_for list o s).1.number ≡ s.number
ring_number None o s = refl
ring_number (Some list) o s = pick (is_unwritten s.marks.pointing) _ _ s.number refl refl

append_number : (cmd : Cmd) (o : OutboxState) (s : InitiatorState) → (append_step cmd o s).1.number ≡ s.number
append_number cmd o s =
    let a = put_step cmd o s in
    let b = low_step a.0 a.1 in
    let c = link_step b.0 b.1 in
    ring_number c.1.lists.slots.present c.0 c.1 ∙ link_number (high_lists b.1.lists) b.0 b.1 ∙ low_number (low_lists a.1.lists) a.0 a.1 ∙ put_number (put_lists s.lists cmd s.layer.node (login_id s)) cmd o s

dummy_number : (found : Option TicketParts) (o : OutboxState) (s : InitiatorState) → (dummy_for found o s).1.number ≡ s.number
dummy_number None o s = refl
dummy_number (Some t) o s = refl

pin_number : (found : Option TicketParts) (s : InitiatorState) → (pinned_for found s).number ≡ s.number
pin_number None s = refl
pin_number (Some t) s = refl

done_number : (action : Action) (o : OutboxState) (s : InitiatorState) → (done_step action o s).1.number ≡ s.number
unfolding done_step
done_number (actions.Put cmd) o s = put_number (put_lists s.lists cmd s.layer.node (login_id s)) cmd o s
done_number (actions.Append cmd) o s = append_number cmd o s
done_number actions.Low o s = low_number (low_lists s.lists) o s
done_number actions.Link o s = link_number (high_lists s.lists) o s
done_number actions.Ring o s = ring_number s.lists.slots.present o s
done_number (actions.Dummy orb) o s = dummy_number (find_in s.lists.slots.slots orb) o s
done_number actions.Rom o s = refl
done_number actions.AgentReset o s = refl
done_number actions.State o s = refl
done_number actions.Enable o s = refl
done_number (actions.Login unit reconnect exclusive password) o s = refl
done_number (actions.Query unit) o s = refl
done_number actions.Reconnect o s = refl
done_number actions.Logout o s = refl
done_number (actions.Abort orb) o s =
    let begun = managed_by (orb_by (actions.Abort orb) s) operations.Abort s in
    pin_number (find_in begun.lists.slots.slots orb) begun
done_number actions.AbortSet o s = refl
done_number actions.UnitReset o s = refl
done_number actions.TargetReset o s = refl

asked_number : (r : Option Asked × Layer Purpose) (action : Action) (o : OutboxState) (s : InitiatorState) → (asked_as r action o s).1.1.number ≡ s.number
asked_number (None, layer) action o s = refl
asked_number (Some asked, layer) action o s = done_number action o (record s { layer = layer })

demanded_number : (demand : Option Demand) (action : Action) (o : OutboxState) (s : InitiatorState) → (demanded_as demand action o s).1.1.number ≡ s.number
demanded_number None action o s = done_number action o s
demanded_number (Some demand) action o s = asked_number (asked_for demand s) action o s

judged_number : (refused : Option ℕ) (action : Action) (o : OutboxState) (s : InitiatorState) → (judged_as refused action o s).1.1.number ≡ s.number
judged_number (Some number) action o s = refl
judged_number None action o s = demanded_number (demand_of action s) action o s

pub act_number : (action : Action) (o : OutboxState) (s : InitiatorState) → (act_step action o s).1.1.number ≡ s.number
unfolding act_step
act_number action o s = judged_number (refusal action (facts_with true s action)) action o s
