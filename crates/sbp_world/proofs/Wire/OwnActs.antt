-- What an initiator tells in an action: the steps of its list.
use Rattle.sbp_world.proofs.Words.Std.{◌≡◌, refl, ℕ, true, List, [], ◌∷◌, ◌++◌, Option, Some, None}
use Rattle.sbp_world.proofs.Words.Wire.{Asked, Layer, Action, Cmd, Note, Side, buffer_of, OutboxState}
use Rattle.sbp_world.proofs.Words.Initiator.{PresentList, TicketParts, find_in, is_step, Demand, Purpose, InitiatorState, ListState, high_lists, low_lists, put_lists, refusal, Turn, told, act_step, append_step, asked_as, asked_for, demand_of, demanded_as, done_step, dummy_for, facts_with, judged_as, link_as, link_step, login_id, low_as, low_step, put_as, put_step, ring_for}
use Rattle.sbp_journal.specs.declared.event.Action.TheVariants as actions
use Rattle.sbp_journal.specs.declared.note.Note.TheVariants as notes
use Rattle.sbp_journal.specs.declared.side.Side.TheVariants as sides

-- each is a note of a step of a list
abbrev pub IsStepSide : Side → Type 0
IsStepSide (sides.Own note) = is_step note ≡ true
IsStepSide _ = ⊥

abbrev pub AreStepSides : List Side → Type 0
AreStepSides [] = Unit {0}
AreStepSides (side ∷ told) = IsStepSide side × AreStepSides told

steps_more : (told : List Side) (side : Side) → AreStepSides told → IsStepSide side → AreStepSides (told ++ side ∷ [])
steps_more [] side h e = (e, tt)
steps_more (first ∷ told) side h e = (h.0, steps_more told side h.1 e)

abbrev pub At : Turn → Type 0
At t = AreStepSides t.0.sides

tells : (o : OutboxState) (note : Note) → AreStepSides o.sides → is_step note ≡ true → AreStepSides (told o note).sides
tells o note h e = steps_more o.sides (sides.Own note) h e

puts_as : (r : Option TicketParts × ListState) (cmd : Cmd) (o : OutboxState) (s : InitiatorState) → AreStepSides o.sides → At (put_as r cmd o s)
puts_as (None, lists) cmd o s h = h
puts_as (Some t, lists) cmd o s h = tells o (notes.Append s.number t.list t.number cmd.cdb (buffer_of cmd)) h refl

puts : (cmd : Cmd) (o : OutboxState) (s : InitiatorState) → AreStepSides o.sides → At (put_step cmd o s)
puts cmd o s h = puts_as (put_lists s.lists cmd s.layer.node (login_id s)) cmd o s h

lows_as : (r : Option TicketParts × ListState) (o : OutboxState) (s : InitiatorState) → AreStepSides o.sides → At (low_as r o s)
lows_as (None, lists) o s h = h
lows_as (Some t, lists) o s h = tells o (notes.Low s.number t.list t.number) h refl

links_as : (r : Option TicketParts × ListState) (o : OutboxState) (s : InitiatorState) → AreStepSides o.sides → At (link_as r o s)
links_as (None, lists) o s h = h
links_as (Some t, lists) o s h = tells o (notes.Linked s.number t.list t.number) h refl

rings_for : (list : Option PresentList) (o : OutboxState) (s : InitiatorState) → AreStepSides o.sides → At (ring_for list o s)
rings_for None o s h = h
rings_for (Some list) o s h = tells o (notes.Rung s.number list.tail.list _) h refl

dummies_for : (ticket : Option TicketParts) (o : OutboxState) (s : InitiatorState) → AreStepSides o.sides → At (dummy_for ticket o s)
dummies_for None o s h = h
dummies_for (Some t) o s h = tells o (notes.Dummied s.number t.list t.number) h refl

appends : (cmd : Cmd) (o : OutboxState) (s : InitiatorState) → AreStepSides o.sides → At (append_step cmd o s)
appends cmd o s h =
    let a = put_step cmd o s in
    let b = low_step a.0 a.1 in
    let c = link_step b.0 b.1 in
    rings_for c.1.lists.slots.present c.0 c.1 (links_as (high_lists b.1.lists) b.0 b.1 (lows_as (low_lists a.1.lists) a.0 a.1 (puts cmd o s h)))

does : (action : Action) (o : OutboxState) (s : InitiatorState) → AreStepSides o.sides → At (done_step action o s)
unfolding done_step
does (actions.Put cmd) o s h = puts cmd o s h
does (actions.Append cmd) o s h = appends cmd o s h
does actions.Low o s h = lows_as (low_lists s.lists) o s h
does actions.Link o s h = links_as (high_lists s.lists) o s h
does actions.Ring o s h = rings_for s.lists.slots.present o s h
does (actions.Dummy orb) o s h = dummies_for (find_in s.lists.slots.slots orb) o s h
does actions.Rom o s h = h
does actions.AgentReset o s h = h
does actions.State o s h = h
does actions.Enable o s h = h
does (actions.Login unit reconnect exclusive password) o s h = h
does (actions.Query unit) o s h = h
does actions.Reconnect o s h = h
does actions.Logout o s h = h
does (actions.Abort orb) o s h = h
does actions.AbortSet o s h = h
does actions.UnitReset o s h = h
does actions.TargetReset o s h = h

asks_as : (r : Option Asked × Layer Purpose) (action : Action) (o : OutboxState) (s : InitiatorState) → AreStepSides o.sides → At (asked_as r action o s).1
asks_as (None, layer) action o s h = h
asks_as (Some asked, layer) action o s h = does action o (record s { layer = layer }) h

demands_as : (demand : Option Demand) (action : Action) (o : OutboxState) (s : InitiatorState) → AreStepSides o.sides → At (demanded_as demand action o s).1
demands_as None action o s h = does action o s h
demands_as (Some demand) action o s h = asks_as (asked_for demand s) action o s h

judges_as : (number : Option ℕ) (action : Action) (o : OutboxState) (s : InitiatorState) → AreStepSides o.sides → At (judged_as number action o s).1
judges_as (Some number) action o s h = h
judges_as None action o s h = demands_as (demand_of action s) action o s h

pub acts : (action : Action) (o : OutboxState) (s : InitiatorState) → AreStepSides o.sides → At (act_step action o s).1
unfolding act_step
acts action o s h = judges_as (refusal action (facts_with true s action)) action o s h
