-- What changes a slot's buffer over lists of calls.
use Rattle.std.specs.Prelude.{◌≡◌, ℕ, ◌==◌, Bool, true, false, List, [], ◌∷◌, ◌++◌, length, Option, Some, None, Result, Ok, Err}
use Rattle.bus_memory.specs.declared.access.Access.TheVariants.{Write}
use Rattle.bus_memory.specs.declared.access.Rcode.{Rcode}
use Rattle.bus_memory.specs.declared.access.Spot.{Spot}
use Rattle.bus_memory.specs.declared.window.Window.TheVariants as windows
use Rattle.bus_memory.specs.Memory.{Memory, slot_at, is_written}
use Rattle.bus_memory.specs.Access.{judged, spot_of}
use Rattle.bus_memory.specs.Laws.{is_same}
use Rattle.orb_list.specs.declared.fault.ListFault.{ListFault}
use Rattle.orb_list.specs.Tickets.{TicketParts}
use Rattle.orb_list.specs.Table.{SlotTable, prepare_step}
use Rattle.orb_list.specs.Runs.{Call, Prepare, LinkLow, LinkHigh, MakeDummy, TakeStatus, DropList, FreeAll, Pin, Unpin, TryWrite, Fill, SetQuad, run}

-- a slot is given out
abbrev pub is_given : Result TicketParts ListFault → ℕ → Bool
is_given (Ok t) k = t.slot == k
is_given (Err fault) k = false

-- an access is served in the buffer of a slot
abbrev pub is_into : Result Spot Rcode → ℕ → Bool
is_into (Ok spot) k = is_same spot.window (windows.Buffer k)
is_into (Err rcode) k = false

-- a place is in the buffer of a slot
abbrev pub is_spot_in : Option Spot → ℕ → Bool
is_spot_in None k = false
is_spot_in (Some spot) k = is_same spot.window (windows.Buffer k)

-- a call gives the slot out, fills its buffer or sets a quadlet there, or is a write of the target that is served there
abbrev pub touches : Call → SlotTable → Memory → ℕ → Bool
touches (Prepare asked) s m k = is_given (prepare_step s m asked).0 k
touches (Fill slot at bytes) s m k = slot == k
touches (TryWrite offset bytes) s m k = is_into (judged m Write offset (length bytes)) k
touches (SetQuad offset value) s m k = is_spot_in (spot_of m offset 4) k
touches LinkLow s m k = false
touches LinkHigh s m k = false
touches (MakeDummy t) s m k = false
touches (TakeStatus block) s m k = false
touches DropList s m k = false
touches FreeAll s m k = false
touches (Pin t) s m k = false
touches Unpin s m k = false

-- None of the later calls, which come after the earlier ones, touches the buffer of a slot.
abbrev pub NoneTouches : List Call → List Call → List ℕ → ℕ → Type 0
NoneTouches [] earlier quads k = Unit {0}
NoneTouches (call ∷ later) earlier quads k =
    (touches call (run (later ++ earlier) quads).table (run (later ++ earlier) quads).memory k ≡ false) × NoneTouches later earlier quads k

-- Over every list of calls the bytes of a slot's buffer, as an ORB that is prepared there leaves them, stay until the slot is
-- given out again, its buffer is filled, a quadlet is set there, or a write of the target is served there, which is only where
-- the direction of the slot's ORB is 1.
pub record BufferLaw : Type 0 where
  pub stays : (later earlier : List Call) (quads : List ℕ) (k : ℕ) → NoneTouches later earlier quads k → (slot_at (run (later ++ earlier) quads).memory k).buffer ≡ (slot_at (run earlier quads).memory k).buffer
  pub direction : (m : Memory) (offset count k : ℕ) → is_into (judged m Write offset count) k ≡ true → is_written (slot_at m k) ≡ true
