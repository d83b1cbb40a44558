-- At most 256 quadlets of the target's ROM are got, whatever the calls.
use Rattle.std.proofs.Common.{arith, ap, ℕ, ◌≤◌, nat_eq, Bool, true, false, cond, List, [], ◌∷◌, length, Option, Some, None}
use Rattle.label_table.specs.declared.judgement.Asked.{Asked}
use Rattle.label_table.specs.Layer.{Layer}
use Rattle.sbp_initiator.specs.declared.purpose.Demand.{Demand}
use Rattle.sbp_initiator.specs.declared.purpose.Pointing.TheVariants as pointings
use Rattle.orb_list.specs.declared.list.PresentList.{PresentList}
use Rattle.orb_list.specs.Lists.{ListState, high_lists, low_lists}
use Rattle.orb_list.specs.Table.{find_in}
use Rattle.sbp_session.specs.Moves.{goes, pointing}
use Rattle.sbp_journal.specs.declared.event.Action.{Action}
use Rattle.sbp_journal.specs.declared.event.Action.TheVariants as actions
use Rattle.sbp_journal.specs.declared.event.Cmd.{Cmd}
use Rattle.sbp_initiator.specs.Acting.{facts_with, demand_of, asked_for, login_id, orb_by, managed_by, with_running, pinned_for, put_as, put_step, low_as, low_step, link_as, link_step, ring_for, append_step, dummy_for, done_step, asked_as, demanded_as, judged_as, act_step}
use Rattle.sbp_initiator.specs.Commands.{put_lists}
use Rattle.sbp_initiator.specs.Initiators.{new_state}
use Rattle.sbp_initiator.specs.Refusals.{refusal}
use Rattle.orb_list.specs.Tickets.{TicketParts}
use Rattle.sbp_initiator.specs.States.{is_unwritten, no_marks}
use Rattle.sbp_journal.specs.declared.operation.Operation.TheVariants as operations
use Rattle.sbp_journal.specs.Outgoings.{OutboxState}
use Rattle.sbp_initiator.specs.declared.purpose.Purpose.{Purpose}
use Rattle.sbp_initiator.specs.declared.state.InitiatorState.{InitiatorState}
use Rattle.sbp_initiator.specs.Effects.{Turn}
use Rattle.sbp_initiator.specs.Receiving.{expire_step}
use Rattle.sbp_initiator.specs.Seeing.{see_step}
use Rattle.sbp_initiator.specs.Histories.Laws as laws
use Rattle.sbp_initiator.specs.Histories.Laws.{Call, acts, receives, lets_expire, done, after}
use Rattle.sbp_initiator.specs.Handing.{IsQuiet, QuadletLaw}
use Rattle.sbp_initiator.proofs.Quiet.{expire_quiet, see_quiet}
use Rattle.sbp_initiator.proofs.Handing.{delivery_law}

-- there are 256 quadlets at most
abbrev AreFew : InitiatorState → Type 0
AreFew s = length s.quads ≤ 256

few_of : (b : Bool) (s t : InitiatorState) → AreFew s → AreFew t → AreFew (cond b s t)
few_of true s t h k = h
few_of false s t h k = k

puts : (r : Option TicketParts × ListState) (cmd : Cmd) (o : OutboxState) (s : InitiatorState) → AreFew s → AreFew (put_as r cmd o s).1
puts (None, lists) cmd o s h = h
puts (Some t, lists) cmd o s h = (let u = record s { lists = lists } in few_of (nat_eq t.number 0) (record u { marks = record no_marks { first = t.slot } }) u h h)

lows : (r : Option TicketParts × ListState) (o : OutboxState) (s : InitiatorState) → AreFew s → AreFew (low_as r o s).1
lows (None, lists) o s h = h
lows (Some t, lists) o s h = h

links : (r : Option TicketParts × ListState) (o : OutboxState) (s : InitiatorState) → AreFew s → AreFew (link_as r o s).1
links (None, lists) o s h = h
links (Some t, lists) o s h = h

rings : (present : Option PresentList) (o : OutboxState) (s : InitiatorState) → AreFew s → AreFew (ring_for present o s).1
rings None o s h = h
rings (Some list) o s h = few_of (is_unwritten s.marks.pointing) (record s { marks = record s.marks { pointing = pointings.Written }; seat = goes pointing s.seat }) (with_running s) h h

appends : (cmd : Cmd) (o : OutboxState) (s : InitiatorState) → AreFew s → AreFew (append_step cmd o s).1
appends cmd o s h =
    let x = put_step cmd o s in
    let y = low_step x.0 x.1 in
    let z = link_step y.0 y.1 in
    rings z.1.lists.slots.present z.0 z.1 (links (high_lists y.1.lists) y.0 y.1 (lows (low_lists x.1.lists) x.0 x.1 (puts (put_lists s.lists cmd s.layer.node (login_id s)) cmd o s h)))

dummies : (t : Option TicketParts) (o : OutboxState) (s : InitiatorState) → AreFew s → AreFew (dummy_for t o s).1
dummies None o s h = h
dummies (Some t) o s h = h

pins : (t : Option TicketParts) (s : InitiatorState) → AreFew s → AreFew (pinned_for t s)
pins None s h = h
pins (Some t) s h = h

-- an action, but `rom`, leaves the quadlets; that one forgets them
dones : (action : Action) (o : OutboxState) (s : InitiatorState) → AreFew s → AreFew (done_step action o s).1
unfolding done_step
dones (actions.Put cmd) o s h = puts (put_lists s.lists cmd s.layer.node (login_id s)) cmd o s h
dones (actions.Append cmd) o s h = appends cmd o s h
dones actions.Low o s h = lows (low_lists s.lists) o s h
dones actions.Link o s h = links (high_lists s.lists) o s h
dones actions.Ring o s h = rings s.lists.slots.present o s h
dones (actions.Dummy orb) o s h = dummies (find_in s.lists.slots.slots orb) o s h
dones actions.Rom o s h = omega arith
dones actions.AgentReset o s h = h
dones actions.State o s h = h
dones actions.Enable o s h = h
dones (actions.Login unit reconnect exclusive password) o s h = h
dones (actions.Query unit) o s h = h
dones actions.Reconnect o s h = h
dones actions.Logout o s h = h
dones (actions.Abort orb) o s h = (let t = managed_by (orb_by (actions.Abort orb) s) operations.Abort s in pins (find_in t.lists.slots.slots orb) t h)
dones actions.AbortSet o s h = h
dones actions.UnitReset o s h = h
dones actions.TargetReset o s h = h

asked_few : (r : Option Asked × Layer Purpose) (action : Action) (o : OutboxState) (s : InitiatorState) → AreFew s → AreFew (asked_as r action o s).1.1
asked_few (None, layer) action o s h = h
asked_few (Some asked, layer) action o s h = dones action o (record s { layer = layer }) h

demanded_few : (demand : Option Demand) (action : Action) (o : OutboxState) (s : InitiatorState) → AreFew s → AreFew (demanded_as demand action o s).1.1
demanded_few None action o s h = dones action o s h
demanded_few (Some demand) action o s h = asked_few (asked_for demand s) action o s h

judged_few : (refused : Option ℕ) (action : Action) (o : OutboxState) (s : InitiatorState) → AreFew s → AreFew (judged_as refused action o s).1.1
judged_few (Some number) action o s h = h
judged_few None action o s h = demanded_few (demand_of action s) action o s h

act_few : (action : Action) (o : OutboxState) (s : InitiatorState) → AreFew s → AreFew (act_step action o s).1.1
unfolding act_step
act_few action o s h = judged_few (refusal action (facts_with true s action)) action o s h

quiet_few : (before after : Turn) → AreFew before.1 → IsQuiet before after → AreFew after.1
quiet_few before after h q = (let e = ap length q.quads in omega (arith, h, e))

pub call_few : (call : Call) (t : Turn) → AreFew t.1 → AreFew (done call t).1
call_few (acts action) t h = act_few action t.0 t.1 h
call_few (receives generation bytes) t h = (delivery_law generation bytes t.0 t.1 h).few
call_few (lets_expire label) t h = quiet_few t (expire_step label t.0 t.1).1 h (expire_quiet label t.0 t.1)
call_few (laws.sees generation id target) t h = quiet_few t (see_step generation id target t.0 t.1) h (see_quiet generation id target t.0 t.1)

first_few : (number : ℕ) (ready : Bool) → AreFew (new_state number ready)
unfolding new_state
first_few number ready = omega arith

run_few : (number : ℕ) (ready : Bool) (calls : List Call) → AreFew (after number ready calls).1
run_few number ready [] = first_few number ready
run_few number ready (call ∷ calls) = call_few call (after number ready calls) (run_few number ready calls)

pub quadlet_law : QuadletLaw
quadlet_law = record { expires = expire_quiet; sees = see_quiet; few = run_few }
