-- Who has the places of the target's logins, by unit and ID.
use Rattle.std.proofs.Common.{ℕ, ◌%◌, ◌==◌, Bool, true, false, cond, List, get_or, Option, Some, None}
use Rattle.login_table.specs.declared.login.Login.{Login}
use Rattle.sbp_journal.specs.declared.operation.FunctionWord.{FunctionWord}
use Rattle.sbp_journal.specs.declared.operation.FunctionWord.TheVariants as functions
use Rattle.media_laws.proofs.Lists.{replaced}

-- the unit and the ID of a login
pub record Seat : Type 0 where
  pub unit : ℕ
  pub login : ℕ

abbrev pub seat : ℕ → ℕ → Seat
seat unit login = record { unit = unit; login = login }

abbrev pub seat_of : Option Login → Option Seat
seat_of None = None
seat_of (Some login) = Some (seat login.unit login.login)

abbrev pub is_empty : Option Seat → Bool
is_empty None = true
is_empty (Some seat) = false

abbrev pub seat_has : ℕ → Option Seat → Bool
seat_has login None = false
seat_has login (Some seat) = seat.login == login

abbrev pub unit_of : Option Seat → ℕ
unit_of None = 0
unit_of (Some seat) = seat.unit

abbrev pub unit_at : List (Option Seat) → ℕ → ℕ
unit_at seats place = unit_of (get_or seats place None)

-- a login leaves; one is entered
abbrev pub without : ℕ → List (Option Seat) → List (Option Seat)
without login seats = replaced (seat_has login) None seats

abbrev pub with_seat : Seat → List (Option Seat) → List (Option Seat)
with_seat new seats = replaced is_empty (Some new) seats

abbrev pub seats_by : FunctionWord → ℕ → ℕ → List (Option Seat) → List (Option Seat)
seats_by functions.Login subject login seats = with_seat (seat (subject % 256) login) seats
seats_by word subject login seats = seats

abbrev pub decided_seats : ℕ → FunctionWord → ℕ → ℕ → List (Option Seat) → List (Option Seat)
decided_seats status word subject login seats = cond (status == 0) (seats_by word subject login seats) seats
