-- What is read off a session; and the stuck one: what it becomes stuck from, and what a seen reset makes of it.
use Rattle.std.specs.Prelude.{Bool, true, false}
use Rattle.orb_layout.specs.declared.login.LoginResponse.{LoginResponse}
use Rattle.sbp_session.specs.declared.seat.Seat.{Seat}
use Rattle.sbp_session.specs.declared.seat.Seat.TheVariants as seats
use Rattle.sbp_session.specs.declared.seat.Origin.{Origin}
use Rattle.sbp_session.specs.declared.seat.Origin.TheVariants as origins

-- an ORB_POINTER write is under way
abbrev pub points : Seat → Bool
points (seats.Live live) = live.pointing
points _ = false

abbrev pub no_response : LoginResponse
no_response = record { login = 0; agent = 0; hold = 0 }

-- the response of the login
abbrev pub response_in : Seat → LoginResponse
response_in (seats.Live live) = live.response
response_in (seats.Held response) = response
response_in (seats.Returning response) = response
response_in (seats.Leaving response) = response
response_in _ = no_response

abbrev pub is_out_seat : Seat → Bool
is_out_seat (seats.Out out) = true
is_out_seat _ = false

abbrev pub is_stuck_seat : Seat → Bool
is_stuck_seat (seats.Stuck origin) = true
is_stuck_seat _ = false

-- the state that a session becomes stuck in; a stuck one keeps its own
abbrev pub stick : Seat → Origin
stick (seats.Out out) = origins.Out out
stick (seats.Entering entering) = origins.Entering entering
stick (seats.Live live) = origins.Live live
stick (seats.Held response) = origins.Held response
stick (seats.Returning response) = origins.Returning response
stick (seats.Leaving response) = origins.Leaving response
stick (seats.Stuck origin) = origin

-- the state after a seen reset, by the state that the session became stuck in alone
abbrev pub unstick : Origin → Seat
unstick (origins.Out out) = seats.Out out
unstick (origins.Entering entering) = seats.Out tt
unstick (origins.Live live) = seats.Held live.response
unstick (origins.Held response) = seats.Held response
unstick (origins.Returning response) = seats.Held response
unstick (origins.Leaving response) = seats.Held response
