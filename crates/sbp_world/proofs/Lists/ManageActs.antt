-- What is in hand of an initiator's management as it does an action: that which begins an operation of management finds nothing in hand.
use Rattle.sbp_world.proofs.Words.Std.{◌≡◌, ◌∙◌, refl, sym, ap, subst, ℕ, ◌+◌, ◌<◌, Bool, true, false, cond, List, Option, Some, None}
use Rattle.sbp_world.proofs.Words.Wire.{Asked, ReplyKind, Life, under_way, Layer, empty_outbox, Moment, Action, Operation}
use Rattle.sbp_world.proofs.Words.Initiator.{after_by, begun_as, is_managed, Demand, Purpose, Running, InitiatorState, act_step, asked_as, asked_for, demand_of, demanded_as, done_step, facts_with, judged_as, ring_demand, fits_session, refusal, is_unwritten, session_of, is_stuck_seat, Seat}
use Rattle.sbp_world.proofs.Words.Laws.{operation_of}
use Rattle.sbp_initiator.proofs.Histories.Actions.{Allowed, done_does}
use Rattle.sbp_initiator.proofs.Histories.Effects.{HasMarks}
use Rattle.sbp_initiator.proofs.Histories.Over.{sound}
use Rattle.sbp_initiator.proofs.Histories.Purposes.{IsOf, all_began, life_of}
use Rattle.label_table.specs.History as wire
use Rattle.sbp_initiator.specs.declared.purpose.Purpose.TheVariants as purposes
use Rattle.sbp_initiator.specs.Refusals as refusals
use Rattle.sbp_journal.specs.declared.event.Action.TheVariants as actions
use Rattle.sbp_journal.specs.declared.operation.Operation.TheVariants as operations
use Rattle.sbp_session.specs.declared.seat.Seat.TheVariants as seats
use Rattle.sbp_world.proofs.Hosts.Hosted.{Cored}
use Rattle.sbp_world.proofs.Hosts.Lives.{At, at_life}
use Rattle.sbp_world.proofs.Lists.ManageTerms.{none_is, same_some}
use Rattle.sbp_world.proofs.Common.{untrue}

-- ---- an action that is not refused

-- it finds the session not stuck
fits_stuck : (action : Action) → fits_session action refusals.is_stuck ≡ true → ⊥
fits_stuck actions.Rom e = untrue e
fits_stuck (actions.Query unit) e = untrue e
fits_stuck (actions.Login unit reconnect exclusive password) e = untrue e
fits_stuck actions.Reconnect e = untrue e
fits_stuck _ e = untrue e

pub seat_unstuck : (action : Action) (seat : Seat) → fits_session action (session_of seat) ≡ true → is_stuck_seat seat ≡ false
seat_unstuck action (seats.Out out) e = refl
seat_unstuck action (seats.Entering entering) e = refl
seat_unstuck action (seats.Live live) e = refl
seat_unstuck action (seats.Held response) e = refl
seat_unstuck action (seats.Returning response) e = refl
seat_unstuck action (seats.Leaving response) e = refl
seat_unstuck action (seats.Stuck origin) e = absurd (fits_stuck action e)

-- ---- the operation behind it

after_same : (begins : Option Operation) (s : InitiatorState) (layer : Layer Purpose) → after_by begins (record s { layer = layer }) ≡ after_by begins s
after_same None s layer = refl
after_same (Some operation) s layer = by (is_managed operation)
  where
    by : (b : Bool) → Some (begun_as b operation (record s { layer = layer })) ≡ Some (begun_as b operation s)
    by true = refl
    by false = refl

module _ (action : Action) (s : InitiatorState) (a : Allowed action s) (marks : HasMarks s.lists.slots.present s.marks.pointing) where
  done_operation : (layer : Layer Purpose) → (done_step action empty_outbox (record s { layer = layer })).1.operation ≡ after_by (refusals.operation_of action) s
  done_operation layer =
      (done_does action empty_outbox (record s { layer = layer }) (record { prepares = a.prepares; rings = a.rings; marks = marks })).operation ∙ after_same (refusals.operation_of action) s layer

  asked_operation : (r : Option Asked × Layer Purpose) → (asked_as r action empty_outbox s).0 ≡ None → (asked_as r action empty_outbox s).1.1.operation ≡ after_by (refusals.operation_of action) s
  asked_operation (None, layer) e = none_is 10 (sym e)
  asked_operation (Some asked, layer) e = done_operation layer

  demanded_operation : (demand : Option Demand) → (demanded_as demand action empty_outbox s).0 ≡ None → (demanded_as demand action empty_outbox s).1.1.operation ≡ after_by (refusals.operation_of action) s
  demanded_operation None e = done_operation s.layer
  demanded_operation (Some demand) e = asked_operation (asked_for demand s) e

  judged_operation : (r : Option ℕ) → (judged_as r action empty_outbox s).0 ≡ None → (judged_as r action empty_outbox s).1.1.operation ≡ after_by (refusals.operation_of action) s
  judged_operation (Some number) e = none_is number (sym e)
  judged_operation None e = demanded_operation (demand_of action s) e

  pub act_operation : (act_step action empty_outbox s).0 ≡ None → (act_step action empty_outbox s).1.1.operation ≡ after_by (refusals.operation_of action) s
  unfolding act_step
  act_operation e = judged_operation (refusal action (facts_with true s action)) e

pub same_operation : (action : Action) → operation_of action ≡ refusals.operation_of action
same_operation actions.Rom = refl
same_operation _ = refl

-- what begins is of this action
pub record IsNew (operation : Operation) (s : InitiatorState) (r : Running) : Type 0 where
  pub is : r.operation ≡ operation
  pub act : r.act ≡ s.counts.acts

pub new_by : (b : Bool) (operation : Operation) (s : InitiatorState) → IsNew operation s (begun_as b operation s)
new_by true operation s = record { is = refl; act = refl }
new_by false operation s = record { is = refl; act = refl }

-- ---- what a transaction for management is for, by its action

module _ (ready : Bool) (past : List Moment) (i : ℕ) (s : InitiatorState) (c : Cored ready past i s) where
  -- which is an earlier one
  pub earlier : (peer number act : ℕ) → At s.layer peer number (Some (purposes.Management act)) → act < s.counts.acts
  earlier peer number act a =
      let k = c.own.called in
      let w = (sound i ready k.calls).wires in
      let b : At (wire.after (0xffc1 + i) w.calls) peer number (Some (purposes.Management act)) = subst (λ (l : Layer Purpose). At l peer number (Some (purposes.Management act))) (sym (w.layer_is ∙ ap (λ (x : InitiatorState). x.layer) k.is)) a in
      let life = at_life (0xffc1 + i) w.calls peer number (Some (purposes.Management act)) b in
      let e = is_earlier b.kind _ life _ (life_of _ peer _ (wire.history (0xffc1 + i) w.calls) (all_began _ (0xffc1 + i) w.calls w.asks)) in
      subst (λ (x : InitiatorState). act < x.counts.acts) k.is e.earlier
    where
      is_earlier : (kind : ReplyKind) (x : Life Purpose) → x ≡ under_way kind (Some (purposes.Management act)) → (P : Purpose → Type 0) → IsOf P x → P (purposes.Management act)
      is_earlier kind x f P h = subst (IsOf P) f h

abbrev is_managing : Purpose → Bool
is_managing (purposes.Management act) = true
is_managing _ = false

ring_not : (b : Bool) (x y : Demand) → is_managing x.purpose ≡ false → is_managing y.purpose ≡ false → is_managing (cond b x y).purpose ≡ false
ring_not true x y e f = e
ring_not false x y e f = f

ring_manages : (s : InitiatorState) (demand : Demand) (act : ℕ) → Some (ring_demand s) ≡ Some demand → demand.purpose ≡ purposes.Management act → ⊥
ring_manages s demand act e f =
    untrue (sym (ring_not (is_unwritten s.marks.pointing) _ _ refl refl) ∙ ap (λ (d : Demand). is_managing d.purpose) (same_some _ demand e) ∙ ap is_managing f)

-- a demand of management is that of its action
pub demand_manages : (action : Action) (s : InitiatorState) (demand : Demand) (act : ℕ) → demand_of action s ≡ Some demand → demand.purpose ≡ purposes.Management act → operation_of action ≡ None → ⊥
demand_manages actions.State s demand act e f o = untrue (ap (λ (d : Demand). is_managing d.purpose) (same_some _ demand e) ∙ ap is_managing f)
demand_manages (actions.Append cmd) s demand act e f o = ring_manages s demand act e f
demand_manages actions.Ring s demand act e f o = ring_manages s demand act e f
demand_manages (actions.Put cmd) s demand act e f o = none_is demand e
demand_manages actions.Low s demand act e f o = none_is demand e
demand_manages actions.Link s demand act e f o = none_is demand e
demand_manages (actions.Dummy orb) s demand act e f o = none_is demand e
demand_manages actions.Rom s demand act e f o = none_is operations.Rom (sym o)
demand_manages actions.AgentReset s demand act e f o = none_is operations.AgentReset (sym o)
demand_manages actions.Enable s demand act e f o = none_is operations.Enable (sym o)
demand_manages (actions.Login unit reconnect exclusive password) s demand act e f o = none_is operations.Login (sym o)
demand_manages (actions.Query unit) s demand act e f o = none_is operations.Query (sym o)
demand_manages actions.Reconnect s demand act e f o = none_is operations.Reconnect (sym o)
demand_manages actions.Logout s demand act e f o = none_is operations.Logout (sym o)
demand_manages (actions.Abort orb) s demand act e f o = none_is operations.Abort (sym o)
demand_manages actions.AbortSet s demand act e f o = none_is operations.AbortSet (sym o)
demand_manages actions.UnitReset s demand act e f o = none_is operations.UnitReset (sym o)
demand_manages actions.TargetReset s demand act e f o = none_is operations.TargetReset (sym o)
