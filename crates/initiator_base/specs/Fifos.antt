-- The FIFOs of an initiator (NCITS 325-1998, status block): which one stands at an address, and which status makes an agent dead.
use Rattle.std.specs.Prelude.{ℕ, ◌-◌, ◌%◌, ◌==◌, ◌&&◌, ◌||◌, not, nat_le, nat_lt, Bool, true, false, if◌then◌else◌, Option, Some, None}
use Rattle.orb_layout.specs.declared.status.StatusKind.{StatusKind}
use Rattle.orb_layout.specs.declared.status.StatusKind.TheVariants as kinds
use Rattle.initiator_base.specs.declared.fifos.Fifo.{Fifo}
use Rattle.initiator_base.specs.declared.fifos.Fifo.TheVariants as fifos
use Rattle.initiator_base.specs.Places.{login_fifo, place_fifo}

-- that of the latest login number is open, where the session is not Out
abbrev pub is_open_login : ℕ → (is_out : Bool) → ℕ → Bool
is_open_login logins is_out offset = nat_lt 0 logins && offset == login_fifo (logins - 1) && not is_out

abbrev pub is_login_fifo : ℕ → Bool
is_login_fifo offset = nat_le 0x1300_0000 offset && nat_lt offset 0x20_1300_0000 && offset % 0x20 == 0

-- the FIFO at an address, where so many login numbers were used
unfoldable pub fifo_at : ℕ → (is_out : Bool) → ℕ → Option Fifo
fifo_at logins is_out offset =
    if offset == place_fifo 0 || offset == place_fifo 1 then Some fifos.Place
    else if is_open_login logins is_out offset then Some fifos.Login
    else if is_login_fifo offset then Some fifos.Closed
    else None

-- a status with the dead bit
abbrev pub is_dead_kind : StatusKind → Bool
is_dead_kind (kinds.Illegal meaning) = true
is_dead_kind kinds.Failed = true
is_dead_kind _ = false
