-- What an action of an initiator, and the sight of a generation, make of its session and of its operation under way: an operation begins while none is, and one that
-- moves the session does so; each other action leaves both. A later generation that is seen leaves none under way and no session in.
use Rattle.sbp_world.proofs.Words.Std.{◌≡◌, ◌∙◌, refl, sym, ap, ℕ, ◌==◌, Bool, true, false, cond, Option, Some, None}
use Rattle.sbp_world.proofs.Words.Wire.{Asked, Layer, seeing_step, Action, Cmd, Operation, OutboxState, empty_outbox}
use Rattle.sbp_world.proofs.Words.Initiator.{ManagementOrb, PresentList, ListState, drop_lists, high_lists, low_lists, find_in, TicketParts, act_step, append_step, asked_as, asked_for, demand_of, demanded_as, done_step, dummy_for, facts_with, judged_as, link_as, link_step, login_id, low_as, low_step, manage_start, managed_by, orb_by, pinned_for, put_as, put_step, register_start, ring_for, with_running, put_lists, Demand, Purpose, Running, InitiatorState, Turn, moves_session, is_in_held, is_in_live, is_in_out, is_in_stuck, refusal, interrupted, resets_told, see_step, seen_as, is_unwritten, no_marks, session_of, Origin, Seat, from_stuck, goes, pointing, reset, sent, is_stuck_seat, points}
use Rattle.sbp_world.proofs.Hosts.Acts.{Goes, goes_layer, goes_on}
use Rattle.sbp_initiator.specs.declared.purpose.Pointing.TheVariants as pointings
use Rattle.sbp_journal.specs.declared.event.Action.TheVariants as actions
use Rattle.sbp_journal.specs.declared.operation.Operation.TheVariants as operations
use Rattle.sbp_session.specs.declared.seat.Origin.TheVariants as origins
use Rattle.sbp_session.specs.declared.seat.Seat.TheVariants as seats
use Rattle.sbp_world.proofs.Sessions.Sessions.{drop_seat}
use Rattle.sbp_world.proofs.Lists.LiveMoves.{IsLike, drop_operation, like_pointing, like_self, like_then}
use Rattle.sbp_world.proofs.Lists.LiveStandings.{Stand, apart, comes, inside, leaves, stand_of}
use Rattle.sbp_world.proofs.Common.{untrue}

-- an operation that moves the session begins: from where it stands to where
pub data Sends : Operation → Stand → Stand → Type 0 where
  logs_in : Sends operations.Login apart comes
  comes_back : Sends operations.Reconnect apart comes
  goes_out : (number : ℕ) → Sends operations.Logout (inside number) (leaves number)

-- What an action leaves.
pub data Acted (s : InitiatorState) (operation : Option Running) (seat : Seat) : Type 0 where
  idle : operation ≡ s.operation → IsLike s.seat seat → Acted s operation seat
  begins : (running : Running) → s.operation ≡ None → is_stuck_seat s.seat ≡ false → operation ≡ Some running → moves_session running.operation ≡ false → seat ≡ s.seat → Acted s operation seat
  moves : (running : Running) → s.operation ≡ None → is_stuck_seat s.seat ≡ false → operation ≡ Some running → is_stuck_seat seat ≡ false → Sends running.operation (stand_of s.seat) (stand_of seat) → Acted s operation seat

-- an action is done in no session that is stuck
unstuck : (seat : Seat) → is_in_stuck (session_of seat) ≡ false → is_stuck_seat seat ≡ false
unstuck (seats.Out out) e = refl
unstuck (seats.Entering entering) e = refl
unstuck (seats.Live live) e = refl
unstuck (seats.Held response) e = refl
unstuck (seats.Returning response) e = refl
unstuck (seats.Leaving response) e = refl
unstuck (seats.Stuck origin) e = untrue (sym e)

-- what sending makes of it
record Sent (operation : Operation) (before now : Seat) : Type 0 where
  stuck : is_stuck_seat now ≡ false
  by : Sends operation (stand_of before) (stand_of now)

login_sent : (seat : Seat) → is_in_out (session_of seat) ≡ true → Sent operations.Login seat (goes sent seat)
unfolding goes
login_sent (seats.Out out) e = record { stuck = refl; by = logs_in }
login_sent (seats.Entering entering) e = untrue e
login_sent (seats.Live live) e = untrue e
login_sent (seats.Held response) e = untrue e
login_sent (seats.Returning response) e = untrue e
login_sent (seats.Leaving response) e = untrue e
login_sent (seats.Stuck origin) e = untrue e

reconnect_sent : (seat : Seat) → is_in_held (session_of seat) ≡ true → Sent operations.Reconnect seat (goes sent seat)
unfolding goes
reconnect_sent (seats.Out out) e = untrue e
reconnect_sent (seats.Entering entering) e = untrue e
reconnect_sent (seats.Live live) e = untrue e
reconnect_sent (seats.Held response) e = record { stuck = refl; by = comes_back }
reconnect_sent (seats.Returning response) e = untrue e
reconnect_sent (seats.Leaving response) e = untrue e
reconnect_sent (seats.Stuck origin) e = untrue e

logout_sent : (seat : Seat) → is_in_live (session_of seat) ≡ true → points seat ≡ false → Sent operations.Logout seat (goes sent seat)
unfolding goes
logout_sent (seats.Live live) e f = by live.pointing f
  where
    by : (b : Bool) → b ≡ false → Sent operations.Logout (seats.Live live) (cond b (seats.Live live) (seats.Leaving live.response))
    by true g = untrue (sym g)
    by false g = record { stuck = refl; by = goes_out live.response.login }
logout_sent (seats.Out out) e f = untrue e
logout_sent (seats.Entering entering) e f = untrue e
logout_sent (seats.Held response) e f = untrue e
logout_sent (seats.Returning response) e f = untrue e
logout_sent (seats.Leaving response) e f = untrue e
logout_sent (seats.Stuck origin) e f = untrue e

-- ---- an action
module _ (s : InitiatorState) where
  abbrev At : Turn → Type 0
  At t = Acted s t.1.operation t.1.seat

  -- ---- the steps of a list
  abbrev Rests : InitiatorState → Type 0
  Rests u = (u.operation ≡ s.operation) × IsLike s.seat u.seat

  puts : (r : Option TicketParts × ListState) (cmd : Cmd) (o : OutboxState) (u : InitiatorState) → Rests u → Rests (put_as r cmd o u).1
  puts (None, lists) cmd o u h = h
  puts (Some t, lists) cmd o u h = by (t.number == 0)
    where
      by : (b : Bool) → Rests (cond b (record u { lists = lists; marks = record no_marks { first = t.slot } }) (record u { lists = lists }))
      by true = h
      by false = h

  lows : (r : Option TicketParts × ListState) (o : OutboxState) (u : InitiatorState) → Rests u → Rests (low_as r o u).1
  lows (None, lists) o u h = h
  lows (Some t, lists) o u h = h

  links : (r : Option TicketParts × ListState) (o : OutboxState) (u : InitiatorState) → Rests u → Rests (link_as r o u).1
  links (None, lists) o u h = h
  links (Some t, lists) o u h = h

  rings : (list : Option PresentList) (o : OutboxState) (u : InitiatorState) → Rests u → Rests (ring_for list o u).1
  rings None o u h = h
  rings (Some list) o u h = by (is_unwritten u.marks.pointing)
    where
      by : (b : Bool) → Rests (cond b (record u { marks = record u.marks { pointing = pointings.Written }; seat = goes pointing u.seat }) (with_running u))
      by true = (h.0, like_then s.seat u.seat (goes pointing u.seat) h.1 (like_pointing u.seat))
      by false = h

  dummies : (t : Option TicketParts) (o : OutboxState) (u : InitiatorState) → Rests u → Rests (dummy_for t o u).1
  dummies None o u h = h
  dummies (Some t) o u h = h

  appends : (cmd : Cmd) (o : OutboxState) (u : InitiatorState) → Rests u → Rests (append_step cmd o u).1
  appends cmd o u h =
      let a = put_step cmd o u in
      let b = low_step a.0 a.1 in
      let c = link_step b.0 b.1 in
      let put = puts (put_lists u.lists cmd u.layer.node (login_id u)) cmd o u h in
      let low = lows (low_lists a.1.lists) a.0 a.1 put in
      rings c.1.lists.slots.present c.0 c.1 (links (high_lists b.1.lists) b.0 b.1 low)

  rested : (t : Turn) → Rests t.1 → At t
  rested t h = idle h.0 h.1

  here : Rests s
  here = (refl, like_self s.seat)

  -- ---- an operation begins
  quiet : (operation : Operation) (act : ℕ) (managed : Option ℕ) (u : InitiatorState) → s.operation ≡ None → is_stuck_seat s.seat ≡ false → u.operation ≡ Some (record { operation = operation; act = act; managed = managed }) → moves_session operation ≡ false → u.seat ≡ s.seat → At (empty_outbox, u)
  quiet operation act managed u none free e m same = begins (record { operation = operation; act = act; managed = managed }) none free e m same

  moving : (operation : Operation) (act : ℕ) (managed : Option ℕ) (u : InitiatorState) → s.operation ≡ None → is_stuck_seat s.seat ≡ false → u.operation ≡ Some (record { operation = operation; act = act; managed = managed }) → Sent operation s.seat u.seat → At (empty_outbox, u)
  moving operation act managed u none free e x = moves (record { operation = operation; act = act; managed = managed }) none free e x.stuck x.by

  pinned_at : (t : Option TicketParts) (orb : ManagementOrb) → s.operation ≡ None → is_stuck_seat s.seat ≡ false → At (empty_outbox, pinned_for t (managed_by orb operations.Abort s))
  pinned_at None orb none free = quiet operations.Abort s.counts.acts (Some s.counts.managed) (managed_by orb operations.Abort s) none free refl refl refl
  pinned_at (Some t) orb none free = quiet operations.Abort s.counts.acts (Some s.counts.managed) (pinned_for (Some t) (managed_by orb operations.Abort s)) none free refl refl refl

  does : (action : Action) → Goes action s → At (done_step action empty_outbox s)
  unfolding done_step
  does (actions.Put cmd) g = rested (put_step cmd empty_outbox s) (puts (put_lists s.lists cmd s.layer.node (login_id s)) cmd empty_outbox s here)
  does (actions.Append cmd) g = rested (append_step cmd empty_outbox s) (appends cmd empty_outbox s here)
  does actions.Low g = rested (low_step empty_outbox s) (lows (low_lists s.lists) empty_outbox s here)
  does actions.Link g = rested (link_step empty_outbox s) (links (high_lists s.lists) empty_outbox s here)
  does actions.Ring g = rested (ring_for s.lists.slots.present empty_outbox s) (rings s.lists.slots.present empty_outbox s here)
  does (actions.Dummy orb) g = rested (dummy_for (find_in s.lists.slots.slots orb) empty_outbox s) (dummies (find_in s.lists.slots.slots orb) empty_outbox s here)
  does actions.Rom g = quiet operations.Rom s.counts.acts None (register_start actions.Rom s) g.allowed.free (unstuck s.seat g.rows.stuck) refl refl refl
  does actions.AgentReset g = quiet operations.AgentReset s.counts.acts None (register_start actions.AgentReset s) g.allowed.free (unstuck s.seat g.rows.stuck) refl refl refl
  does actions.State g = idle refl (like_self s.seat)
  does actions.Enable g = quiet operations.Enable s.counts.acts None (register_start actions.Enable s) g.allowed.free (unstuck s.seat g.rows.stuck) refl refl refl
  does (actions.Login unit reconnect exclusive password) g =
      moving operations.Login s.counts.acts (Some s.counts.managed) (manage_start (actions.Login unit reconnect exclusive password) s) g.allowed.free (unstuck s.seat g.rows.stuck) refl (login_sent s.seat g.allowed.session)
  does (actions.Query unit) g = quiet operations.Query s.counts.acts (Some s.counts.managed) (manage_start (actions.Query unit) s) g.allowed.free (unstuck s.seat g.rows.stuck) refl refl refl
  does actions.Reconnect g = moving operations.Reconnect s.counts.acts (Some s.counts.managed) (manage_start actions.Reconnect s) g.allowed.free (unstuck s.seat g.rows.stuck) refl (reconnect_sent s.seat g.allowed.session)
  does actions.Logout g = moving operations.Logout s.counts.acts (Some s.counts.managed) (manage_start actions.Logout s) g.allowed.free (unstuck s.seat g.rows.stuck) refl (logout_sent s.seat g.allowed.session (g.allowed.closes refl))
  does (actions.Abort orb) g = pinned_at (find_in (managed_by (orb_by (actions.Abort orb) s) operations.Abort s).lists.slots.slots orb) (orb_by (actions.Abort orb) s) g.allowed.free (unstuck s.seat g.rows.stuck)
  does actions.AbortSet g = quiet operations.AbortSet s.counts.acts (Some s.counts.managed) (manage_start actions.AbortSet s) g.allowed.free (unstuck s.seat g.rows.stuck) refl refl refl
  does actions.UnitReset g = quiet operations.UnitReset s.counts.acts (Some s.counts.managed) (manage_start actions.UnitReset s) g.allowed.free (unstuck s.seat g.rows.stuck) refl refl refl
  does actions.TargetReset g = quiet operations.TargetReset s.counts.acts (Some s.counts.managed) (manage_start actions.TargetReset s) g.allowed.free (unstuck s.seat g.rows.stuck) refl refl refl

-- behind a layer it is another state with the same session and operation
module _ (action : Action) (s : InitiatorState) where
  asked_acts : (r : Option Asked × Layer Purpose) → Goes action s → Acted s (asked_as r action empty_outbox s).1.1.operation (asked_as r action empty_outbox s).1.1.seat
  asked_acts (None, layer) g = idle refl (like_self s.seat)
  asked_acts (Some asked, layer) g = again (does (record s { layer = layer }) action (goes_layer action s layer g))
    where
      again : {operation : Option Running} {seat : Seat} → Acted (record s { layer = layer }) operation seat → Acted s operation seat
      again (idle e l) = idle e l
      again (begins running none free e m same) = begins running none free e m same
      again (moves running none free e stuck by) = moves running none free e stuck by

  demanded_acts : (demand : Option Demand) → Goes action s → Acted s (demanded_as demand action empty_outbox s).1.1.operation (demanded_as demand action empty_outbox s).1.1.seat
  demanded_acts None g = does s action g
  demanded_acts (Some demand) g = asked_acts (asked_for demand s) g

  judged_acts : (refused : Option ℕ) → refusal action (facts_with true s action) ≡ refused → Acted s (judged_as refused action empty_outbox s).1.1.operation (judged_as refused action empty_outbox s).1.1.seat
  judged_acts (Some number) f = idle refl (like_self s.seat)
  judged_acts None f = demanded_acts (demand_of action s) (goes_on action s f)

  pub act_acts : Acted s (act_step action empty_outbox s).1.1.operation (act_step action empty_outbox s).1.1.seat
  unfolding act_step
  act_acts = judged_acts (refusal action (facts_with true s action)) refl

-- ---- a generation is seen

-- What a later one leaves.
pub record IsReset (operation : Option Running) (seat : Seat) : Type 0 where
  pub none : operation ≡ None
  pub out : stand_of seat ≡ apart
  pub free : is_stuck_seat seat ≡ false

stuck_reset : (origin : Origin) → (stand_of (from_stuck reset origin) ≡ apart) × (is_stuck_seat (from_stuck reset origin) ≡ false)
stuck_reset (origins.Out out) = (refl, refl)
stuck_reset (origins.Entering entering) = (refl, refl)
stuck_reset (origins.Live live) = (refl, refl)
stuck_reset (origins.Held response) = (refl, refl)
stuck_reset (origins.Returning response) = (refl, refl)
stuck_reset (origins.Leaving response) = (refl, refl)

reset_seat : (seat : Seat) → (stand_of (goes reset seat) ≡ apart) × (is_stuck_seat (goes reset seat) ≡ false)
unfolding goes
reset_seat (seats.Out out) = (refl, refl)
reset_seat (seats.Entering entering) = (refl, refl)
reset_seat (seats.Live live) = (refl, refl)
reset_seat (seats.Held response) = (refl, refl)
reset_seat (seats.Returning response) = (refl, refl)
reset_seat (seats.Leaving response) = (refl, refl)
reset_seat (seats.Stuck origin) = stuck_reset origin

module _ (s : InitiatorState) (target : ℕ) where
  sight_old : (r : Bool × Layer Purpose) → r.0 ≡ false → (let t = seen_as r target empty_outbox s in (t.1.operation ≡ s.operation) × (t.1.seat ≡ s.seat))
  sight_old (false, layer) e = (refl, refl)
  sight_old (true, layer) e = untrue (sym e)

  sight_new : (r : Bool × Layer Purpose) → r.0 ≡ true → (let t = seen_as r target empty_outbox s in IsReset t.1.operation t.1.seat)
  sight_new (false, layer) e = untrue e
  sight_new (true, layer) e =
      let u = interrupted (record s { layer = layer }) target in
      let q = resets_told s.number s.operation s.states empty_outbox in
      let r = reset_seat s.seat in
      let seat_is = drop_seat (drop_lists u.lists) q u in
      record { none = drop_operation (drop_lists u.lists) q u; out = ap stand_of seat_is ∙ r.0; free = ap is_stuck_seat seat_is ∙ r.1 }

pub see_old : (generation id target : ℕ) (s : InitiatorState) → (seeing_step s.layer generation id).0 ≡ false → (let t = see_step generation id target empty_outbox s in (t.1.operation ≡ s.operation) × (t.1.seat ≡ s.seat))
unfolding see_step
see_old generation id target s e = sight_old s target (seeing_step s.layer generation id) e

pub see_new : (generation id target : ℕ) (s : InitiatorState) → (seeing_step s.layer generation id).0 ≡ true → (let t = see_step generation id target empty_outbox s in IsReset t.1.operation t.1.seat)
unfolding see_step
see_new generation id target s e = sight_new s target (seeing_step s.layer generation id) e
