-- The packets of an action: none, or one request to the target; and what tells of an action leaves the bus of its world.
use Rattle.sbp_world.proofs.Words.Std.{◌≡◌, refl, ◌∙◌, subst, sym, ℕ, List, [], ◌∷◌, ◌++◌, true, Option, Some, None}
use Rattle.sbp_world.proofs.Words.Wire.{Asked, Layer, OutboxState, empty_outbox, Action, Cmd, Outgoing, Side}
use Rattle.sbp_world.proofs.Words.Initiator.{PresentList, ListState, high_lists, low_lists, find_in, TicketParts, Demand, Purpose, InitiatorState, act_step, append_step, asked_as, asked_for, demand_of, demanded_as, done_step, dummy_for, facts_with, judged_as, link_as, link_step, login_id, low_as, low_step, put_as, put_step, ring_for, put_lists, refusal}
use Rattle.sbp_world.proofs.Words.World.{told, told_all, WorldState}
use Rattle.sbp_journal.specs.declared.event.Action.TheVariants as actions
use Rattle.sbp_journal.specs.declared.side.Side.TheVariants as sides
use Rattle.sbp_world.proofs.Hosts.Asked.{IfRequest, IsRequest, number_in}

-- ---- a step of a list sends nothing

put_sends : (r : Option TicketParts × ListState) (cmd : Cmd) (o : OutboxState) (s : InitiatorState) → (put_as r cmd o s).0.packets ≡ o.packets
put_sends (None, lists) cmd o s = refl
put_sends (Some t, lists) cmd o s = refl

low_sends : (r : Option TicketParts × ListState) (o : OutboxState) (s : InitiatorState) → (low_as r o s).0.packets ≡ o.packets
low_sends (None, lists) o s = refl
low_sends (Some t, lists) o s = refl

link_sends : (r : Option TicketParts × ListState) (o : OutboxState) (s : InitiatorState) → (link_as r o s).0.packets ≡ o.packets
link_sends (None, lists) o s = refl
link_sends (Some t, lists) o s = refl

ring_sends : (found : Option PresentList) (o : OutboxState) (s : InitiatorState) → (ring_for found o s).0.packets ≡ o.packets
ring_sends None o s = refl
ring_sends (Some list) o s = refl

dummy_sends : (found : Option TicketParts) (o : OutboxState) (s : InitiatorState) → (dummy_for found o s).0.packets ≡ o.packets
dummy_sends None o s = refl
dummy_sends (Some t) o s = refl

append_sends : (cmd : Cmd) (o : OutboxState) (s : InitiatorState) → (append_step cmd o s).0.packets ≡ o.packets
append_sends cmd o s =
    let a = put_step cmd o s in
    let b = low_step a.0 a.1 in
    let c = link_step b.0 b.1 in
    ring_sends c.1.lists.slots.present c.0 c.1 ∙ link_sends (high_lists b.1.lists) b.0 b.1 ∙ low_sends (low_lists a.1.lists) a.0 a.1 ∙ put_sends (put_lists s.lists cmd s.layer.node (login_id s)) cmd o s

pub done_sends : (action : Action) (o : OutboxState) (s : InitiatorState) → (done_step action o s).0.packets ≡ o.packets
unfolding done_step
done_sends (actions.Put cmd) o s = put_sends (put_lists s.lists cmd s.layer.node (login_id s)) cmd o s
done_sends (actions.Append cmd) o s = append_sends cmd o s
done_sends actions.Low o s = low_sends (low_lists s.lists) o s
done_sends actions.Link o s = link_sends (high_lists s.lists) o s
done_sends actions.Ring o s = ring_sends s.lists.slots.present o s
done_sends (actions.Dummy orb) o s = dummy_sends (find_in s.lists.slots.slots orb) o s
done_sends actions.Rom o s = refl
done_sends actions.AgentReset o s = refl
done_sends actions.State o s = refl
done_sends actions.Enable o s = refl
done_sends (actions.Login unit reconnect exclusive password) o s = refl
done_sends (actions.Query unit) o s = refl
done_sends actions.Reconnect o s = refl
done_sends actions.Logout o s = refl
done_sends (actions.Abort orb) o s = refl
done_sends actions.AbortSet o s = refl
done_sends actions.UnitReset o s = refl
done_sends actions.TargetReset o s = refl

-- ---- what an action sends

abbrev pub AreRequests : (target : ℕ) → List Outgoing → Type 0
AreRequests target [] = Unit {0}
AreRequests target (packet ∷ []) = (packet.to ≡ target) × IsRequest (number_in packet.label) packet.bytes
AreRequests target (packet ∷ other ∷ more) = ⊥

asked_sends : (r : Option Asked × Layer Purpose) (action : Action) (s : InitiatorState) → IfRequest r.0 → AreRequests s.target (asked_as r action empty_outbox s).1.0.packets
asked_sends (None, layer) action s f = tt
asked_sends (Some asked, layer) action s f =
    let u = record s { layer = layer } in
    subst (λ (ps : List Outgoing). AreRequests s.target (ps ++ record { to = s.target; label = Some asked.label; bytes = asked.bytes } ∷ [])) (sym (done_sends action empty_outbox u)) (refl, f)

demanded_sends : (demand : Option Demand) (action : Action) (s : InitiatorState) → ((d : Demand) → demand ≡ Some d → IfRequest (asked_for d s).0) → AreRequests s.target (demanded_as demand action empty_outbox s).1.0.packets
demanded_sends None action s f = subst (AreRequests s.target) (sym (done_sends action empty_outbox s)) tt
demanded_sends (Some demand) action s f = asked_sends (asked_for demand s) action s (f demand refl)

judged_sends : (refused : Option ℕ) (action : Action) (s : InitiatorState) → ((d : Demand) → demand_of action s ≡ Some d → IfRequest (asked_for d s).0) → AreRequests s.target (judged_as refused action empty_outbox s).1.0.packets
judged_sends (Some number) action s f = tt
judged_sends None action s f = demanded_sends (demand_of action s) action s f

pub act_sends : (action : Action) (s : InitiatorState) → ((d : Demand) → demand_of action s ≡ Some d → IfRequest (asked_for d s).0) → AreRequests s.target (act_step action empty_outbox s).1.0.packets
unfolding act_step
act_sends action s f = judged_sends (refusal action (facts_with true s action)) action s f

-- ---- what is told leaves the bus

pub record SameBus (w x : WorldState) : Type 0 where
  pub store : x.store ≡ w.store
  pub generations : x.generations ≡ w.generations

told_bus : (weight : ℕ) (side : Side) (w : WorldState) → SameBus w (told weight side w)
unfolding told
told_bus weight (sides.Own note) w = record { store = refl; generations = refl }
told_bus weight (sides.Opened place orb) w = record { store = refl; generations = refl }
told_bus weight (sides.Ran place orb cdb payload outcome) w = record { store = refl; generations = refl }
told_bus weight (sides.Ended place orb status) w = record { store = refl; generations = refl }
told_bus weight (sides.Dead place cause) w = record { store = refl; generations = refl }
told_bus weight (sides.Cut place cause) w = record { store = refl; generations = refl }
told_bus weight (sides.Managed node function subject status login) w = record { store = refl; generations = refl }
told_bus weight (sides.ManageFailed node cause) w = record { store = refl; generations = refl }
told_bus weight (sides.Held login) w = record { store = refl; generations = refl }
told_bus weight (sides.Expired login) w = record { store = refl; generations = refl }
told_bus weight (sides.Back login) w = record { store = refl; generations = refl }
told_bus weight (sides.Left login) w = record { store = refl; generations = refl }
told_bus weight (sides.Cleared unit) w = record { store = refl; generations = refl }
told_bus weight (sides.Unsolicited place) w = record { store = refl; generations = refl }
told_bus weight (sides.Unsent place) w = record { store = refl; generations = refl }

pub all_told_bus : (weight : ℕ) (side : List Side) (w : WorldState) → SameBus w (told_all weight side w)
unfolding told_all
all_told_bus weight [] w = record { store = refl; generations = refl }
all_told_bus weight (side ∷ later) w =
    let a = told_bus weight side w in
    let b = all_told_bus weight later (told weight side w) in
    record { store = b.store ∙ a.store; generations = b.generations ∙ a.generations }
