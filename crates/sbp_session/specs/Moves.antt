-- The table of the sessions: what makes a session go from a state to another (NCITS 325-1998, login,
-- reconnect and logout).
use Rattle.std.specs.Prelude.{true, false, cond, List, [], ◌∷◌, Result, Ok, Err}
use Rattle.orb_layout.specs.declared.login.LoginResponse.{LoginResponse}
use Rattle.sbp_session.specs.Sessions.{LiveSession, live_with}
use Rattle.sbp_session.specs.Seats.{unstick}
use Rattle.sbp_session.specs.declared.seat.Seat.{Seat}
use Rattle.sbp_session.specs.declared.seat.Seat.TheVariants as seats
use Rattle.sbp_session.specs.declared.seat.Origin.{Origin}
use Rattle.sbp_session.specs.declared.seat.Origin.TheVariants as origins

-- What happens at an initiator: it sends its login, logout or reconnect, which ends with status 00 (of
-- a login with a response), with another status, or at a conflict_error; it sends an ORB_POINTER write,
-- which is answered; it sees a reset; or a write of its own fails.
pub data Event : Type 0 where
  sent : Event
  entered : LoginResponse → Event
  good : Event
  bad : Event
  conflict : Event
  pointing : Event
  pointed : Event
  reset : Event
  failed : Event

abbrev pub from_live : Event → LiveSession → Seat
from_live sent live = cond live.pointing (seats.Live live) (seats.Leaving live.response)
from_live pointing live = seats.Live (record live { pointing = true })
from_live pointed live = seats.Live (record live { pointing = false })
from_live reset live = seats.Held live.response
from_live failed live = seats.Stuck (origins.Live live)
from_live _ live = seats.Live live

abbrev pub from_entering : Event → Seat
from_entering (entered response) = seats.Live (live_with response)
from_entering bad = seats.Out tt
from_entering conflict = seats.Out tt
from_entering reset = seats.Out tt
from_entering failed = seats.Stuck (origins.Entering tt)
from_entering _ = seats.Entering tt

abbrev pub from_out : Event → Seat
from_out sent = seats.Entering tt
from_out failed = seats.Stuck (origins.Out tt)
from_out _ = seats.Out tt

abbrev pub from_held : Event → LoginResponse → Seat
from_held sent response = seats.Returning response
from_held failed response = seats.Stuck (origins.Held response)
from_held _ response = seats.Held response

abbrev pub from_returning : Event → LoginResponse → Seat
from_returning good response = seats.Live (live_with response)
from_returning bad response = seats.Out tt
from_returning conflict response = seats.Held response
from_returning reset response = seats.Held response
from_returning failed response = seats.Stuck (origins.Returning response)
from_returning _ response = seats.Returning response

abbrev pub from_leaving : Event → LoginResponse → Seat
from_leaving good response = seats.Out tt
from_leaving bad response = seats.Out tt
from_leaving conflict response = seats.Live (live_with response)
from_leaving reset response = seats.Held response
from_leaving failed response = seats.Stuck (origins.Leaving response)
from_leaving _ response = seats.Leaving response

abbrev pub from_stuck : Event → Origin → Seat
from_stuck reset origin = unstick origin
from_stuck _ origin = seats.Stuck origin

-- The row of the state: what it goes to, or that it stays.
unfoldable pub goes : Event → Seat → Seat
goes event (seats.Out out) = from_out event
goes event (seats.Entering entering) = from_entering event
goes event (seats.Live live) = from_live event live
goes event (seats.Held response) = from_held event response
goes event (seats.Returning response) = from_returning event response
goes event (seats.Leaving response) = from_leaving event response
goes event (seats.Stuck origin) = from_stuck event origin

-- what a logout makes of a session: the session itself where it is refused
abbrev pub left_or_live : Result LoginResponse LiveSession → Seat
left_or_live (Ok response) = seats.Leaving response
left_or_live (Err live) = seats.Live live

-- the session after more events, the latest of them first
abbrev pub session_after : List Event → Seat → Seat
session_after [] seat = seat
session_after (event ∷ events) seat = goes event (session_after events seat)
