-- An initiator at the start of a run.
use Rattle.std.specs.Prelude.{ℕ, ◌+◌, ◌*◌, Bool, true, false, List, [], Option, Some, None}
use Rattle.config_rom.specs.Make.{made}
use Rattle.label_table.specs.Layer.{new_layer}
use Rattle.orb_layout.specs.declared.login.LoginResponse.{LoginResponse}
use Rattle.sbp_session.specs.declared.seat.Seat.{Seat}
use Rattle.sbp_session.specs.declared.seat.Seat.TheVariants as seats
use Rattle.sbp_session.specs.Sessions.{live_with}
use Rattle.sbp_initiator.specs.declared.state.Counts.{Counts}
use Rattle.sbp_initiator.specs.declared.state.InitiatorState.{InitiatorState}
use Rattle.orb_list.specs.Lists.{new_lists}
use Rattle.sbp_initiator.specs.States.{no_marks}

-- the login that a ready initiator has: ID one above its number, in the place of its number, and a hold of 3
abbrev pub ready_response : ℕ → LoginResponse
ready_response number = record { login = number + 1; agent = 0xffff_f004_0000 + 0x20 * number; hold = 3 }

-- Live where it is ready, and Out otherwise
abbrev pub first_seat : Bool → ℕ → Seat
first_seat true number = seats.Live (live_with (ready_response number))
first_seat false number = seats.Out tt

-- a ready initiator has read the target's ROM
abbrev pub first_management : Bool → Option ℕ
first_management true = Some 0xffff_f001_0000
first_management false = None

-- and used login number 0
abbrev pub first_logins : Bool → ℕ
first_logins true = 1
first_logins false = 0

abbrev pub first_counts : Bool → Counts
first_counts ready = record { managed = 0; logins = first_logins ready; running = 1; calls = 0; acts = 0 }

-- its ROM has its EUI-64 and no unit
abbrev pub own_rom : ℕ → List ℕ
own_rom number = made (0x0200_0000_0000_0001 + number) 0

-- In generation 0 the target has physical ID 0 and initiator i has i + 1.
unfoldable pub new_state : ℕ → Bool → InitiatorState
new_state number ready = record {
  number = number;
  target = 0xffc0;
  layer = new_layer (0xffc1 + number);
  seat = first_seat ready number;
  lists = new_lists (own_rom number);
  marks = no_marks;
  operation = None;
  states = [];
  quads = [];
  management = first_management ready;
  counts = first_counts ready;
}
