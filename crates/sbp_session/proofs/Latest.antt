-- A session carries the response of its latest login.
use Rattle.std.specs.Prelude.{◌≡◌, [], ◌∷◌, Option, Some}
use Rattle.std.proofs.Common.{arith}
use Rattle.orb_layout.specs.declared.login.LoginResponse.{LoginResponse}
use Rattle.sbp_session.specs.Moves.{Event, entered, goes, session_after}
use Rattle.sbp_session.specs.Laws.{carried, latest, latest_with, ResponseLaw}
use Rattle.sbp_session.specs.declared.seat.Seat.{Seat}
use Rattle.sbp_session.specs.declared.seat.Seat.TheVariants as seats

-- What one event leaves is the login's response, or was carried before.
step : (event : Event) (seat : Seat) (before : Option LoginResponse) (response : LoginResponse) → ((r : LoginResponse) → carried seat ≡ Some r → before ≡ Some r) → carried (goes event seat) ≡ Some response → latest_with event seat before ≡ Some response
unfolding goes
step (entered r) (seats.Entering entering) before response f e = e
step event seat before response f e = grind arith

pub response_of_latest_login : ResponseLaw
response_of_latest_login [] seat response e = e
response_of_latest_login (event ∷ events) seat response e = step event (session_after events seat) (latest events seat) response (λ r. response_of_latest_login events seat r) e
