-- What moves a session that has a list: the moves that end no operation by a status leave it so, and the response that it carries; and so does the end of an
-- operation, but for a logout.
use Rattle.sbp_world.proofs.Words.Std.{◌≡◌, refl, sym, ◌∙◌, Bool, true, false, cond, Some}
use Rattle.sbp_world.proofs.Words.Wire.{Action, Operation}
use Rattle.sbp_world.proofs.Words.Initiator.{moves_session, fits_session, is_in_live, is_leaving, is_stuck, session_of, carried, carried_on, Event, bad, conflict, entered, failed, goes, good, pointed, pointing, reset, sent, Origin, Seat}
use Rattle.sbp_world.proofs.Words.World.{session_in, is_seated}
use Rattle.sbp_journal.specs.declared.event.Action.TheVariants as actions
use Rattle.sbp_journal.specs.declared.operation.Operation.TheVariants as operations
use Rattle.sbp_session.proofs.Rows.{response_by_moves}
use Rattle.sbp_session.specs.declared.seat.Seat.TheVariants as seats
use Rattle.sbp_world.proofs.Hosts.Knowing.{Sits}
use Rattle.sbp_world.proofs.Pointers.Walks.{is_kept}
use Rattle.sbp_world.proofs.Common.{untrue}

-- ---- the response stays

kept_on : (event : Event) (seat : Seat) → is_kept event ≡ true → carried_on event seat ≡ carried seat
kept_on sent seat e = refl
kept_on (entered response) seat e = untrue e
kept_on good seat e = untrue e
kept_on bad seat e = untrue e
kept_on conflict seat e = refl
kept_on pointing seat e = refl
kept_on pointed seat e = refl
kept_on reset seat e = untrue e
kept_on failed seat e = refl

pub kept_carried : (event : Event) (seat : Seat) → is_kept event ≡ true → carried (goes event seat) ≡ carried seat
kept_carried event seat e = response_by_moves event seat ∙ kept_on event seat e

-- ---- and the session

sent_seated : (seat : Seat) → is_seated seat ≡ true → is_seated (goes sent seat) ≡ true
unfolding goes
sent_seated (seats.Live x) e = by x.pointing
  where
    by : (b : Bool) → is_seated (cond b (seats.Live x) (seats.Leaving x.response)) ≡ true
    by true = refl
    by false = refl
sent_seated (seats.Leaving response) e = refl
sent_seated (seats.Stuck origin) e = e
sent_seated (seats.Out out) e = untrue e
sent_seated (seats.Entering entering) e = untrue e
sent_seated (seats.Held response) e = untrue e
sent_seated (seats.Returning response) e = untrue e

conflict_seated : (seat : Seat) → is_seated seat ≡ true → is_seated (goes conflict seat) ≡ true
unfolding goes
conflict_seated (seats.Live x) e = refl
conflict_seated (seats.Leaving response) e = refl
conflict_seated (seats.Stuck origin) e = e
conflict_seated (seats.Out out) e = untrue e
conflict_seated (seats.Entering entering) e = untrue e
conflict_seated (seats.Held response) e = untrue e
conflict_seated (seats.Returning response) e = untrue e

pointing_seated : (seat : Seat) → is_seated seat ≡ true → is_seated (goes pointing seat) ≡ true
unfolding goes
pointing_seated (seats.Live x) e = refl
pointing_seated (seats.Leaving response) e = refl
pointing_seated (seats.Stuck origin) e = e
pointing_seated (seats.Out out) e = untrue e
pointing_seated (seats.Entering entering) e = untrue e
pointing_seated (seats.Held response) e = untrue e
pointing_seated (seats.Returning response) e = untrue e

pointed_seated : (seat : Seat) → is_seated seat ≡ true → is_seated (goes pointed seat) ≡ true
unfolding goes
pointed_seated (seats.Live x) e = refl
pointed_seated (seats.Leaving response) e = refl
pointed_seated (seats.Stuck origin) e = e
pointed_seated (seats.Out out) e = untrue e
pointed_seated (seats.Entering entering) e = untrue e
pointed_seated (seats.Held response) e = untrue e
pointed_seated (seats.Returning response) e = untrue e

failed_seated : (seat : Seat) → is_seated seat ≡ true → is_seated (goes failed seat) ≡ true
unfolding goes
failed_seated (seats.Live x) e = refl
failed_seated (seats.Leaving response) e = refl
failed_seated (seats.Stuck origin) e = e
failed_seated (seats.Out out) e = untrue e
failed_seated (seats.Entering entering) e = untrue e
failed_seated (seats.Held response) e = untrue e
failed_seated (seats.Returning response) e = untrue e

pub kept_seated : (event : Event) (seat : Seat) → is_kept event ≡ true → is_seated seat ≡ true → is_seated (goes event seat) ≡ true
kept_seated sent seat k e = sent_seated seat e
kept_seated (entered response) seat k e = untrue k
kept_seated good seat k e = untrue k
kept_seated bad seat k e = untrue k
kept_seated conflict seat k e = conflict_seated seat e
kept_seated pointing seat k e = pointing_seated seat e
kept_seated pointed seat k e = pointed_seated seat e
kept_seated reset seat k e = untrue k
kept_seated failed seat k e = failed_seated seat e

-- ---- the end of an operation but a logout

abbrev pub is_reset_seen : Event → Bool
is_reset_seen reset = true
is_reset_seen _ = false

abbrev pub is_logout : Operation → Bool
is_logout operations.Logout = true
is_logout _ = false

stuck_stays : (event : Event) (origin : Origin) → is_reset_seen event ≡ false → goes event (seats.Stuck origin) ≡ seats.Stuck origin
unfolding goes
stuck_stays sent origin e = refl
stuck_stays (entered response) origin e = refl
stuck_stays good origin e = refl
stuck_stays bad origin e = refl
stuck_stays conflict origin e = refl
stuck_stays pointing origin e = refl
stuck_stays pointed origin e = refl
stuck_stays reset origin e = untrue (sym e)
stuck_stays failed origin e = refl

login_stays : (event : Event) (seat : Seat) → is_reset_seen event ≡ false → Sits (Some operations.Login) (session_in seat) → is_seated seat ≡ true → goes event seat ≡ seat
login_stays event (seats.Stuck origin) e s f = stuck_stays event origin e
login_stays event (seats.Entering entering) e s f = untrue f
login_stays event (seats.Out out) e s f = absurd s
login_stays event (seats.Live x) e s f = absurd s
login_stays event (seats.Held response) e s f = absurd s
login_stays event (seats.Returning response) e s f = absurd s
login_stays event (seats.Leaving response) e s f = absurd s

reconnect_stays : (event : Event) (seat : Seat) → is_reset_seen event ≡ false → Sits (Some operations.Reconnect) (session_in seat) → is_seated seat ≡ true → goes event seat ≡ seat
reconnect_stays event (seats.Stuck origin) e s f = stuck_stays event origin e
reconnect_stays event (seats.Returning response) e s f = untrue f
reconnect_stays event (seats.Out out) e s f = absurd s
reconnect_stays event (seats.Entering entering) e s f = absurd s
reconnect_stays event (seats.Live x) e s f = absurd s
reconnect_stays event (seats.Held response) e s f = absurd s
reconnect_stays event (seats.Leaving response) e s f = absurd s

pub moved_stays : (operation : Operation) (event : Event) (seat : Seat) → is_reset_seen event ≡ false → is_logout operation ≡ false → Sits (Some operation) (session_in seat) → is_seated seat ≡ true → cond (moves_session operation) (goes event seat) seat ≡ seat
moved_stays operations.Login event seat e l s f = login_stays event seat e s f
moved_stays operations.Reconnect event seat e l s f = reconnect_stays event seat e s f
moved_stays operations.Logout event seat e l s f = untrue (sym l)
moved_stays operations.Rom event seat e l s f = refl
moved_stays operations.Query event seat e l s f = refl
moved_stays operations.Abort event seat e l s f = refl
moved_stays operations.AbortSet event seat e l s f = refl
moved_stays operations.UnitReset event seat e l s f = refl
moved_stays operations.TargetReset event seat e l s f = refl
moved_stays operations.AgentReset event seat e l s f = refl
moved_stays operations.State event seat e l s f = refl
moved_stays operations.Enable event seat e l s f = refl

-- ---- a session that is live

-- an action is done in one that has a list only as it is live
leaves_not : (action : Action) → fits_session action is_leaving ≡ true → false ≡ true
leaves_not actions.Rom e = e
leaves_not (actions.Query unit) e = e
leaves_not (actions.Login unit reconnect exclusive password) e = e
leaves_not actions.Reconnect e = e
leaves_not _ e = e

sticks_not : (action : Action) → fits_session action is_stuck ≡ true → false ≡ true
sticks_not actions.Rom e = e
sticks_not (actions.Query unit) e = e
sticks_not (actions.Login unit reconnect exclusive password) e = e
sticks_not actions.Reconnect e = e
sticks_not _ e = e

pub seated_live : (action : Action) (seat : Seat) → fits_session action (session_of seat) ≡ true → is_seated seat ≡ true → is_in_live (session_of seat) ≡ true
seated_live action (seats.Live x) e f = refl
seated_live action (seats.Leaving response) e f = untrue (leaves_not action e)
seated_live action (seats.Stuck origin) e f = untrue (sticks_not action e)
seated_live action (seats.Out out) e f = untrue f
seated_live action (seats.Entering entering) e f = untrue f
seated_live action (seats.Held response) e f = untrue f
seated_live action (seats.Returning response) e f = untrue f

pub live_seated : (seat : Seat) → is_in_live (session_of seat) ≡ true → is_seated seat ≡ true
live_seated (seats.Live x) e = refl
live_seated (seats.Out out) e = untrue e
live_seated (seats.Entering entering) e = untrue e
live_seated (seats.Held response) e = untrue e
live_seated (seats.Returning response) e = untrue e
live_seated (seats.Leaving response) e = untrue e
live_seated (seats.Stuck origin) e = untrue e
