-- Where the session of an initiator stands as an operation that moves it ends, by a status block or by a conflict_error. It is on its way by such an operation alone, but
-- where it is stuck and no management operation is under way.
use Rattle.sbp_world.proofs.Words.Std.{arith, ◌≡◌, ◌∙◌, refl, sym, ap, ◌⊎◌, ℕ, ◌==◌, Bool, true, false, cond, List, Option, Some, None, nat_tests, false≢true}
use Rattle.sbp_world.proofs.Words.Wire.{Operation}
use Rattle.sbp_world.proofs.Words.Initiator.{LoginResponse, login_response, Running, good_event, moves_session, Seat, bad, conflict, goes, is_stuck_seat}
use Rattle.sbp_world.proofs.Words.Laws.{is_management}
use Rattle.sbp_world.proofs.Words.World.{session_in}
use Rattle.sbp_world.proofs.Hosts.Knowing.{Sits}
use Rattle.sbp_journal.specs.declared.operation.Operation.TheVariants as operations
use Rattle.sbp_session.specs.declared.seat.Seat.TheVariants as seats
use Rattle.sbp_world.proofs.Lists.LiveMoves.{IsLike, told_event}
use Rattle.sbp_world.proofs.Lists.LiveStandings.{apart, comes, inside, leaves, stand_of}
use Rattle.sbp_world.proofs.Common.{untrue}

-- a management operation is under way
abbrev pub in_hand : Option Running → Bool
in_hand None = false
in_hand (Some running) = is_management running.operation

-- the session is stuck with none
pub record GaveUp (operation : Option Running) (seat : Seat) : Type 0 where
  pub stuck : is_stuck_seat seat ≡ true
  pub none : in_hand operation ≡ false

abbrev pub enters : Operation → Bool
enters operations.Login = true
enters operations.Reconnect = true
enters _ = false

abbrev pub is_entry : Option Running → Bool
is_entry None = false
is_entry (Some running) = enters running.operation

abbrev pub quits : Operation → Bool
quits operations.Logout = true
quits _ = false

abbrev pub is_exit : Option Running → Bool
is_exit None = false
is_exit (Some running) = quits running.operation

-- the session is on its way by the operation under way alone
pub record Fit (operation : Option Running) (seat : Seat) : Type 0 where
  pub coming : stand_of seat ≡ comes → (is_entry operation ≡ true) ⊎ GaveUp operation seat
  pub going : (number : ℕ) → stand_of seat ≡ leaves number → (is_exit operation ≡ true) ⊎ GaveUp operation seat

pub moves_managed : (operation : Operation) → moves_session operation ≡ true → is_management operation ≡ true
moves_managed operations.Login e = refl
moves_managed operations.Reconnect e = refl
moves_managed operations.Logout e = refl
moves_managed operations.Rom e = untrue e
moves_managed operations.Query e = untrue e
moves_managed operations.Abort e = untrue e
moves_managed operations.AbortSet e = untrue e
moves_managed operations.UnitReset e = untrue e
moves_managed operations.TargetReset e = untrue e
moves_managed operations.AgentReset e = untrue e
moves_managed operations.State e = untrue e
moves_managed operations.Enable e = untrue e

pub enters_moves : (operation : Operation) → enters operation ≡ true → moves_session operation ≡ true
enters_moves operations.Login e = refl
enters_moves operations.Reconnect e = refl
enters_moves operations.Logout e = refl
enters_moves operations.Rom e = untrue e
enters_moves operations.Query e = untrue e
enters_moves operations.Abort e = untrue e
enters_moves operations.AbortSet e = untrue e
enters_moves operations.UnitReset e = untrue e
enters_moves operations.TargetReset e = untrue e
enters_moves operations.AgentReset e = untrue e
enters_moves operations.State e = untrue e
enters_moves operations.Enable e = untrue e

pub quits_moves : (operation : Operation) → quits operation ≡ true → moves_session operation ≡ true
quits_moves operations.Logout e = refl
quits_moves operations.Login e = refl
quits_moves operations.Reconnect e = refl
quits_moves operations.Rom e = untrue e
quits_moves operations.Query e = untrue e
quits_moves operations.Abort e = untrue e
quits_moves operations.AbortSet e = untrue e
quits_moves operations.UnitReset e = untrue e
quits_moves operations.TargetReset e = untrue e
quits_moves operations.AgentReset e = untrue e
quits_moves operations.State e = untrue e
quits_moves operations.Enable e = untrue e

pub two_ways : {A : Type 0} (b : Bool) → b ≡ true → b ≡ false → A
two_ways true e f = untrue (sym f)
two_ways false e f = untrue e

-- ---- it gave up
pub up_like : (operation now : Option Running) (before after : Seat) → now ≡ operation → IsLike before after → GaveUp operation before → GaveUp now after
up_like operation now before after e l g = record { stuck = l.stuck g.stuck; none = ap in_hand e ∙ g.none }

pub not_up : {A : Type 0} (operation : Option Running) (seat : Seat) → is_stuck_seat seat ≡ false → GaveUp operation seat → A
not_up operation seat free g = two_ways (is_stuck_seat seat) g.stuck free

-- ---- the session of an operation that ends by a status block or a conflict_error: what it was, and what it is

pub data Came (operation : Operation) (status : ℕ) (response : List ℕ) (before now : Seat) : Type 0 where
  still_stuck : is_stuck_seat now ≡ true → Came operation status response before now
  granted_in : operation ≡ operations.Login → status ≡ 0 → stand_of before ≡ comes → stand_of now ≡ inside (login_response response).login → Came operation status response before now
  granted_back : (own : LoginResponse) → operation ≡ operations.Reconnect → status ≡ 0 → before ≡ seats.Returning own → stand_of now ≡ inside own.login → Came operation status response before now
  refused_in : (status ≡ 0 → ⊥) → stand_of before ≡ comes → stand_of now ≡ apart → Came operation status response before now
  went_out : (number : ℕ) → stand_of before ≡ leaves number → stand_of now ≡ apart → Came operation status response before now

is_zero : (status : ℕ) → (status == 0) ≡ true → status ≡ 0
is_zero status e = grind (arith, nat_tests)

not_zero : (status : ℕ) → (status == 0) ≡ false → status ≡ 0 → ⊥
not_zero status e f = (let g : (status == 0) ≡ true = grind (arith, nat_tests) in false≢true (sym e ∙ g))

module _ (status : ℕ) (response : List ℕ) where
  abbrev Now : Operation → Bool → Seat → Seat
  Now operation b seat = goes (cond b (good_event operation response) bad) seat

  login_came : (seat : Seat) → Sits (Some operations.Login) (session_in seat) → (b : Bool) → (status == 0) ≡ b → Came operations.Login status response seat (Now operations.Login b seat)
  unfolding goes
  login_came (seats.Entering entering) s true e = granted_in refl (is_zero status e) refl refl
  login_came (seats.Entering entering) s false e = refused_in (not_zero status e) refl refl
  login_came (seats.Stuck origin) s true e = still_stuck refl
  login_came (seats.Stuck origin) s false e = still_stuck refl
  login_came (seats.Out out) s b e = absurd s
  login_came (seats.Live live) s b e = absurd s
  login_came (seats.Held own) s b e = absurd s
  login_came (seats.Returning own) s b e = absurd s
  login_came (seats.Leaving own) s b e = absurd s

  reconnect_came : (seat : Seat) → Sits (Some operations.Reconnect) (session_in seat) → (b : Bool) → (status == 0) ≡ b → Came operations.Reconnect status response seat (Now operations.Reconnect b seat)
  unfolding goes
  reconnect_came (seats.Returning own) s true e = granted_back own refl (is_zero status e) refl refl
  reconnect_came (seats.Returning own) s false e = refused_in (not_zero status e) refl refl
  reconnect_came (seats.Stuck origin) s true e = still_stuck refl
  reconnect_came (seats.Stuck origin) s false e = still_stuck refl
  reconnect_came (seats.Out out) s b e = absurd s
  reconnect_came (seats.Entering entering) s b e = absurd s
  reconnect_came (seats.Live live) s b e = absurd s
  reconnect_came (seats.Held own) s b e = absurd s
  reconnect_came (seats.Leaving own) s b e = absurd s

  logout_came : (seat : Seat) → Sits (Some operations.Logout) (session_in seat) → (b : Bool) → (status == 0) ≡ b → Came operations.Logout status response seat (Now operations.Logout b seat)
  unfolding goes
  logout_came (seats.Leaving own) s true e = went_out own.login refl refl
  logout_came (seats.Leaving own) s false e = went_out own.login refl refl
  logout_came (seats.Stuck origin) s true e = still_stuck refl
  logout_came (seats.Stuck origin) s false e = still_stuck refl
  logout_came (seats.Out out) s b e = absurd s
  logout_came (seats.Entering entering) s b e = absurd s
  logout_came (seats.Live live) s b e = absurd s
  logout_came (seats.Held own) s b e = absurd s
  logout_came (seats.Returning own) s b e = absurd s

  pub came : (operation : Operation) (seat : Seat) → moves_session operation ≡ true → Sits (Some operation) (session_in seat) → Came operation status response seat (goes (told_event operation status response) seat)
  came operations.Login seat m s = login_came seat s (status == 0) refl
  came operations.Reconnect seat m s = reconnect_came seat s (status == 0) refl
  came operations.Logout seat m s = logout_came seat s (status == 0) refl
  came operations.Rom seat m s = untrue m
  came operations.Query seat m s = untrue m
  came operations.Abort seat m s = untrue m
  came operations.AbortSet seat m s = untrue m
  came operations.UnitReset seat m s = untrue m
  came operations.TargetReset seat m s = untrue m
  came operations.AgentReset seat m s = untrue m
  came operations.State seat m s = untrue m
  came operations.Enable seat m s = untrue m

-- it is as it was before the operation
pub data Undid (before now : Seat) : Type 0 where
  stuck_still : is_stuck_seat now ≡ true → Undid before now
  out_again : stand_of before ≡ comes → stand_of now ≡ apart → Undid before now
  in_again : (number : ℕ) → stand_of before ≡ leaves number → stand_of now ≡ inside number → Undid before now

pub undid : (operation : Operation) (seat : Seat) → moves_session operation ≡ true → Sits (Some operation) (session_in seat) → Undid seat (goes conflict seat)
unfolding goes
undid operations.Login (seats.Entering entering) m s = out_again refl refl
undid operations.Login (seats.Stuck origin) m s = stuck_still refl
undid operations.Login (seats.Out out) m s = absurd s
undid operations.Login (seats.Live live) m s = absurd s
undid operations.Login (seats.Held own) m s = absurd s
undid operations.Login (seats.Returning own) m s = absurd s
undid operations.Login (seats.Leaving own) m s = absurd s
undid operations.Reconnect (seats.Returning own) m s = out_again refl refl
undid operations.Reconnect (seats.Stuck origin) m s = stuck_still refl
undid operations.Reconnect (seats.Out out) m s = absurd s
undid operations.Reconnect (seats.Entering entering) m s = absurd s
undid operations.Reconnect (seats.Live live) m s = absurd s
undid operations.Reconnect (seats.Held own) m s = absurd s
undid operations.Reconnect (seats.Leaving own) m s = absurd s
undid operations.Logout (seats.Leaving own) m s = in_again own.login refl refl
undid operations.Logout (seats.Stuck origin) m s = stuck_still refl
undid operations.Logout (seats.Out out) m s = absurd s
undid operations.Logout (seats.Entering entering) m s = absurd s
undid operations.Logout (seats.Live live) m s = absurd s
undid operations.Logout (seats.Held own) m s = absurd s
undid operations.Logout (seats.Returning own) m s = absurd s
undid operations.Rom seat m s = untrue m
undid operations.Query seat m s = untrue m
undid operations.Abort seat m s = untrue m
undid operations.AbortSet seat m s = untrue m
undid operations.UnitReset seat m s = untrue m
undid operations.TargetReset seat m s = untrue m
undid operations.AgentReset seat m s = untrue m
undid operations.State seat m s = untrue m
undid operations.Enable seat m s = untrue m
