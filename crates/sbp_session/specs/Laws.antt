-- The laws of the sessions, over every event and every list of events (NCITS 325-1998, login, reconnect and
-- logout).
use Rattle.std.specs.Prelude.{◌≡◌, Bool, true, false, List, [], ◌∷◌, Option, Some, None}
use Rattle.orb_layout.specs.declared.login.LoginResponse.{LoginResponse}
use Rattle.sbp_session.specs.Sessions.{live_with}
use Rattle.sbp_session.specs.Moves.{Event, sent, entered, good, bad, conflict, reset, goes, session_after}
use Rattle.sbp_session.specs.declared.seat.Seat.{Seat}
use Rattle.sbp_session.specs.declared.seat.Seat.TheVariants as seats
use Rattle.sbp_session.specs.declared.seat.Origin.{Origin}
use Rattle.sbp_session.specs.declared.seat.Origin.TheVariants as origins

abbrev pub kept_by : Origin → Option LoginResponse
kept_by (origins.Out out) = None
kept_by (origins.Entering entering) = None
kept_by (origins.Live live) = Some live.response
kept_by (origins.Held response) = Some response
kept_by (origins.Returning response) = Some response
kept_by (origins.Leaving response) = Some response

-- the response that a session carries
abbrev pub carried : Seat → Option LoginResponse
carried (seats.Out out) = None
carried (seats.Entering entering) = None
carried (seats.Live live) = Some live.response
carried (seats.Held response) = Some response
carried (seats.Returning response) = Some response
carried (seats.Leaving response) = Some response
carried (seats.Stuck origin) = kept_by origin

abbrev pub latest_with : Event → Seat → Option LoginResponse → Option LoginResponse
latest_with (entered response) (seats.Entering entering) latest = Some response
latest_with _ seat latest = latest

-- the response of the latest login that ended with status 00, or that of the first session
abbrev pub latest : List Event → Seat → Option LoginResponse
latest [] seat = carried seat
latest (event ∷ events) seat = latest_with event (session_after events seat) (latest events seat)

-- A session that carries a response carries that of the latest login.
abbrev pub ResponseLaw : Type 0
ResponseLaw =
    (events : List Event) (seat : Seat) (response : LoginResponse) → carried (session_after events seat) ≡ Some response → latest events seat ≡ Some response

-- what an event makes of the response: it comes with a login that ends with status 00, and goes as a
-- reconnect ends with another status or a logout with any
abbrev pub carried_on : Event → Seat → Option LoginResponse
carried_on (entered response) (seats.Entering entering) = Some response
carried_on bad (seats.Returning response) = None
carried_on good (seats.Leaving response) = None
carried_on bad (seats.Leaving response) = None
carried_on event seat = carried seat

-- A session gains and loses its response by these moves, and by no others.
abbrev pub CarriedLaw : Type 0
CarriedLaw = (event : Event) (seat : Seat) → carried (goes event seat) ≡ carried_on event seat

abbrev pub rested : Option LoginResponse → Seat
rested None = seats.Out tt
rested (Some response) = seats.Held response

-- A seen reset leaves a session that carries a response held with it, and any other out.
abbrev pub ResetLaw : Type 0
ResetLaw = (seat : Seat) → goes reset seat ≡ rested (carried seat)

abbrev pub sees_reset : List Event → Bool
sees_reset [] = false
sees_reset (reset ∷ events) = true
sees_reset (_ ∷ events) = sees_reset events

-- A session whose write failed is stuck with what it carried, and stays so until a reset is seen.
abbrev pub StuckLaw : Type 0
StuckLaw =
    (events : List Event) (origin : Origin) → sees_reset events ≡ false → session_after events (seats.Stuck origin) ≡ seats.Stuck origin

-- no login, logout or reconnect is under way
abbrev pub is_idle : Seat → Bool
is_idle (seats.Entering entering) = false
is_idle (seats.Returning response) = false
is_idle (seats.Leaving response) = false
is_idle _ = true

-- An operation that is sent and ends with status 00: a login and a reconnect make the session live, and
-- a logout takes it out. One that a conflict_error answers leaves the session as it was before.
pub record EndsLaw : Type 0 where
  pub login : (response : LoginResponse) → goes (entered response) (goes sent (seats.Out tt)) ≡ seats.Live (live_with response)
  pub reconnect : (response : LoginResponse) → goes good (goes sent (seats.Held response)) ≡ seats.Live (live_with response)
  pub logout : (response : LoginResponse) → goes good (goes sent (seats.Live (live_with response))) ≡ seats.Out tt
  pub undone : (seat : Seat) → is_idle seat ≡ true → goes conflict (goes sent seat) ≡ seat
