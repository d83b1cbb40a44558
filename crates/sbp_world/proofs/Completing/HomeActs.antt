-- An action leaves a session that is not stuck so; and where it is stuck no action is done.
use Rattle.sbp_world.proofs.Words.Std.{◌≡◌, refl, ℕ, ◌==◌, Bool, true, false, cond, Option, Some, None}
use Rattle.sbp_world.proofs.Words.Wire.{Action, Asked, Cmd, Layer, OutboxState, empty_outbox}
use Rattle.sbp_world.proofs.Words.Initiator.{InitiatorState, ListState, PresentList, Purpose, Demand, Seat, TicketParts, Turn, act_step, append_step, asked_as, asked_for, demand_of, demanded_as, done_step, dummy_for, facts_with, find_in, goes, high_lists, is_stuck_seat, is_unwritten, judged_as, link_as, link_step, login_id, low_as, low_lists, low_step, managed_by, no_marks, orb_by, pinned_for, pointing, put_as, put_lists, put_step, refusal, ring_for, sent, with_running}
use Rattle.sbp_initiator.specs.declared.purpose.Pointing.TheVariants as pointings
use Rattle.sbp_journal.specs.declared.event.Action.TheVariants as actions
use Rattle.sbp_journal.specs.declared.operation.Operation.TheVariants as operations
use Rattle.sbp_session.specs.declared.seat.Seat.TheVariants as seats
use Rattle.sbp_world.proofs.Lists.ManageActs.{seat_unstuck}
use Rattle.sbp_world.proofs.Pointers.Asks.{act_allowed}
use Rattle.sbp_world.proofs.Lists.LiveOwn.{two_ways}
use Rattle.sbp_world.proofs.Common.{untrue}

-- where it is stuck none is done
pub not_done : {A : Type 0} (action : Action) (s : InitiatorState) → is_stuck_seat s.seat ≡ true → (act_step action empty_outbox s).0 ≡ None → A
not_done action s stuck done = two_ways (is_stuck_seat s.seat) stuck (seat_unstuck action s.seat (act_allowed action s done).session)

-- ---- none makes it so
sent_stuck : (seat : Seat) → is_stuck_seat (goes sent seat) ≡ true → is_stuck_seat seat ≡ true
unfolding goes
sent_stuck (seats.Out out) e = untrue e
sent_stuck (seats.Entering entering) e = untrue e
sent_stuck (seats.Live live) e = by live.pointing e
  where
    by : (b : Bool) → is_stuck_seat (cond b (seats.Live live) (seats.Leaving live.response)) ≡ true → false ≡ true
    by true f = f
    by false f = f
sent_stuck (seats.Held response) e = untrue e
sent_stuck (seats.Returning response) e = untrue e
sent_stuck (seats.Leaving response) e = untrue e
sent_stuck (seats.Stuck origin) e = refl

points_stuck : (seat : Seat) → is_stuck_seat (goes pointing seat) ≡ true → is_stuck_seat seat ≡ true
unfolding goes
points_stuck (seats.Out out) e = untrue e
points_stuck (seats.Entering entering) e = untrue e
points_stuck (seats.Live live) e = untrue e
points_stuck (seats.Held response) e = untrue e
points_stuck (seats.Returning response) e = untrue e
points_stuck (seats.Leaving response) e = untrue e
points_stuck (seats.Stuck origin) e = refl

module _ (s : InitiatorState) where
  abbrev At : InitiatorState → Type 0
  At u = is_stuck_seat u.seat ≡ true → is_stuck_seat s.seat ≡ true

  puts : (r : Option TicketParts × ListState) (cmd : Cmd) (o : OutboxState) (u : InitiatorState) → At u → At (put_as r cmd o u).1
  puts (None, lists) cmd o u h = h
  puts (Some t, lists) cmd o u h = by (t.number == 0)
    where
      by : (b : Bool) → At (cond b (record u { lists = lists; marks = record no_marks { first = t.slot } }) (record u { lists = lists }))
      by true = h
      by false = h

  lows : (r : Option TicketParts × ListState) (o : OutboxState) (u : InitiatorState) → At u → At (low_as r o u).1
  lows (None, lists) o u h = h
  lows (Some t, lists) o u h = h

  links : (r : Option TicketParts × ListState) (o : OutboxState) (u : InitiatorState) → At u → At (link_as r o u).1
  links (None, lists) o u h = h
  links (Some t, lists) o u h = h

  rings : (list : Option PresentList) (o : OutboxState) (u : InitiatorState) → At u → At (ring_for list o u).1
  rings None o u h = h
  rings (Some list) o u h = by (is_unwritten u.marks.pointing)
    where
      by : (b : Bool) → At (cond b (record u { marks = record u.marks { pointing = pointings.Written }; seat = goes pointing u.seat }) (with_running u))
      by true = λ e. h (points_stuck u.seat e)
      by false = h

  dummies : (t : Option TicketParts) (o : OutboxState) (u : InitiatorState) → At u → At (dummy_for t o u).1
  dummies None o u h = h
  dummies (Some t) o u h = h

  appends : (cmd : Cmd) (o : OutboxState) (u : InitiatorState) → At u → At (append_step cmd o u).1
  appends cmd o u h =
      let a = put_step cmd o u in
      let b = low_step a.0 a.1 in
      let c = link_step b.0 b.1 in
      let put = puts (put_lists u.lists cmd u.layer.node (login_id u)) cmd o u h in
      let low = lows (low_lists a.1.lists) a.0 a.1 put in
      rings c.1.lists.slots.present c.0 c.1 (links (high_lists b.1.lists) b.0 b.1 low)

  pinned_at : (t : Option TicketParts) (u : InitiatorState) → At u → At (pinned_for t u)
  pinned_at None u h = h
  pinned_at (Some t) u h = h

  does : (action : Action) → At (done_step action empty_outbox s).1
  unfolding done_step
  does (actions.Put cmd) = puts (put_lists s.lists cmd s.layer.node (login_id s)) cmd empty_outbox s (λ e. e)
  does (actions.Append cmd) = appends cmd empty_outbox s (λ e. e)
  does actions.Low = lows (low_lists s.lists) empty_outbox s (λ e. e)
  does actions.Link = links (high_lists s.lists) empty_outbox s (λ e. e)
  does actions.Ring = rings s.lists.slots.present empty_outbox s (λ e. e)
  does (actions.Dummy orb) = dummies (find_in s.lists.slots.slots orb) empty_outbox s (λ e. e)
  does actions.Rom = λ e. e
  does actions.AgentReset = λ e. e
  does actions.State = λ e. e
  does actions.Enable = λ e. e
  does (actions.Login unit reconnect exclusive password) = λ e. sent_stuck s.seat e
  does (actions.Query unit) = λ e. e
  does actions.Reconnect = λ e. sent_stuck s.seat e
  does actions.Logout = λ e. sent_stuck s.seat e
  does (actions.Abort orb) = pinned_at (find_in (managed_by (orb_by (actions.Abort orb) s) operations.Abort s).lists.slots.slots orb) (managed_by (orb_by (actions.Abort orb) s) operations.Abort s) (λ e. e)
  does actions.AbortSet = λ e. e
  does actions.UnitReset = λ e. e
  does actions.TargetReset = λ e. e

module _ (action : Action) (s : InitiatorState) where
  abbrev Ends : Option ℕ × Turn → Type 0
  Ends r = At s r.1.1

  asked_ends : (r : Option Asked × Layer Purpose) → Ends (asked_as r action empty_outbox s)
  asked_ends (None, layer) = λ e. e
  asked_ends (Some asked, layer) = does (record s { layer = layer }) action

  demanded_ends : (demand : Option Demand) → Ends (demanded_as demand action empty_outbox s)
  demanded_ends None = does s action
  demanded_ends (Some demand) = asked_ends (asked_for demand s)

  judged_ends : (refused : Option ℕ) → Ends (judged_as refused action empty_outbox s)
  judged_ends (Some number) = λ e. e
  judged_ends None = demanded_ends (demand_of action s)

  pub act_unstuck : is_stuck_seat (act_step action empty_outbox s).1.1.seat ≡ true → is_stuck_seat s.seat ≡ true
  unfolding act_step
  act_unstuck = judged_ends (refusal action (facts_with true s action))
