-- What is in flight, of packets under serials: the lowest serial, and how many there are.
use Rattle.std.specs.Prelude.{◌≡◌, ℕ, ◌<◌, ◌==◌, ◌&&◌, not, true, false, Option, Some, None, length}
use Rattle.packet_store.specs.declared.sent.Kept.{Kept}
use Rattle.packet_store.specs.declared.packets.Packets.{Packets}
use Rattle.packet_store.specs.declared.aloft.Flights.{Flights}
use Rattle.packet_store.specs.Packets.{holds}
use Rattle.packet_store.specs.Kept.{flying, in_air}
use Rattle.packet_store.specs.Shelves.{listed}

-- this serial is in flight, and none below it; or none is
abbrev pub Least : (ℕ → Option Kept) → Option ℕ → Type 0
Least f None = (q : ℕ) → in_air (f q) ≡ false
Least f (Some s) = (in_air (f s) ≡ true) × ((q : ℕ) → q < s → in_air (f q) ≡ false)

-- this serial is the next one in flight above another
abbrev pub IsNext : (ℕ → Option Kept) → ℕ → ℕ → Type 0
IsNext f from s = (in_air (f s) ≡ true) × ((q : ℕ) → from < q → q < s → in_air (f q) ≡ false)

-- one serial is in flight no more, and the others are as before
abbrev pub Landed : ℕ → (before after : ℕ → Option Kept) → Type 0
Landed serial before after = (q : ℕ) → in_air (after q) ≡ (not (serial == q) && in_air (before q))

-- nothing above a serial is in flight
abbrev pub NoneAbove : ℕ → (ℕ → Option Kept) → Type 0
NoneAbove last f = (q : ℕ) → last < q → in_air (f q) ≡ false

-- the lowest one, where one above all others takes off
abbrev pub lowest_with : ℕ → Option ℕ → Option ℕ
lowest_with serial None = Some serial
lowest_with serial (Some s) = Some s

-- the fields fit what the packets has, up to the last serial
pub record AreFlights (packets : Packets) (last : ℕ) (flights : Flights) : Type 0 where
  pub lowest : Least (holds packets) flights.lowest
  pub counted : flights.count ≡ length (flying (listed (holds packets) last))
