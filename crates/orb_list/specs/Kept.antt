-- What the image holds of the ORB that was prepared last in each slot.
use Rattle.std.specs.Prelude.{◌≡◌, ℕ, ◌*◌, ◌+◌, ◌<◌, ◌≤◌, ◌==◌, if◌then◌else◌, List, [], ◌∷◌, ◌++◌, length, take, drop, Option, Some, None}
use Rattle.byteorder.specs.Endian.{big_bytes}
use Rattle.bus_memory.specs.declared.slot.SlotMemory.{SlotMemory}
use Rattle.bus_memory.specs.declared.window.Window.TheVariants as windows
use Rattle.bus_memory.specs.Windows.{IsWindow, start}
use Rattle.bus_memory.specs.Memory.{slot_at}
use Rattle.orb_layout.specs.declared.pointer.OrbPointer.{OrbPointer}
use Rattle.orb_layout.specs.declared.pointer.OrbPointer.TheVariants.{Null, At}
use Rattle.orb_layout.specs.declared.command.CommandOrb.{CommandOrb}
use Rattle.orb_layout.specs.CommandOrbs.{command_bytes}
use Rattle.orb_layout.specs.Pointers.{pointer_at, pointer_high}
use Rattle.orb_list.specs.Tickets.{TicketParts}
use Rattle.orb_list.specs.Requests.{Asked, IsRequest}
use Rattle.orb_list.specs.Layout.{orb_of, table_bytes}
use Rattle.orb_list.specs.declared.list.Linking.{Linking}
use Rattle.orb_list.specs.Table.{low_of, waits_low, waits_high}
use Rattle.orb_list.specs.Holds.{IsBefore}
use Rattle.orb_list.specs.Runs.{Call, Prepare, Fill, SetQuad, Note, Prepared, LowWritten, Linked, Dummied, Taken, Dropped, Freed, Pinned, Unpinned, run}

-- an ORB by its ticket and its request, its next pointer and the low quadlet that was written for it, and its format
pub record Kept : Type 0 where
  pub ticket : TicketParts
  pub asked : Asked
  pub next : OrbPointer
  pub low : ℕ
  pub format : ℕ

abbrev pub new_kept : TicketParts → Asked → Kept
new_kept t asked = record { ticket = t; asked = asked; next = Null; low = 0; format = 0 }

-- a change of the ORB in one slot
abbrev pub in_slot : ℕ → ℕ → (Kept → Kept) → Option Kept → Option Kept
in_slot slot k f None = None
in_slot slot k f (Some o) = Some (if k == slot then f o else o)

abbrev pub next_is : TicketParts → Kept → Kept
next_is t o = record o { next = At (start (windows.Orb t.slot)) }

abbrev pub low_is : TicketParts → Kept → Kept
low_is t o = record o { low = low_of t }

abbrev pub is_dummy : Kept → Kept
is_dummy o = record o { format = 3 }

-- the ORB that was prepared last in a slot: its next pointer is null until the ORB behind it is linked, and then that ORB's
-- address
abbrev pub kept_in : List Note → ℕ → Option Kept
kept_in [] k = None
kept_in (Prepared t asked ∷ ns) k = if k == t.slot then Some (new_kept t asked) else kept_in ns k
kept_in (LowWritten before t ∷ ns) k = in_slot before k (low_is t) (kept_in ns k)
kept_in (Linked before t ∷ ns) k = in_slot before k (next_is t) (kept_in ns k)
kept_in (Dummied t ∷ ns) k = in_slot t.slot k is_dummy (kept_in ns k)
kept_in (Taken t block ∷ ns) k = kept_in ns k
kept_in (Dropped number ∷ ns) k = kept_in ns k
kept_in (Freed ∷ ns) k = kept_in ns k
kept_in (Pinned t ∷ ns) k = kept_in ns k
kept_in (Unpinned t ∷ ns) k = kept_in ns k

-- the ORB with its format, but for its next pointer
abbrev pub orb_now : Kept → CommandOrb
orb_now o = record (orb_of o.asked o.ticket.slot) { format = o.format }

-- The slot has the ORB, each byte of it: the high quadlet of its next pointer, the low quadlet that was written last, and the rest
-- of its spelling; so its next pointer is read back. It has its page table.
pub record HoldsOrb (o : Kept) (memory : SlotMemory) : Type 0 where
  pub orb : memory.orb ≡ big_bytes 4 (pointer_high o.next) ++ (big_bytes 4 o.low ++ drop 8 (command_bytes (orb_now o)))
  pub pointer : pointer_at memory.orb 0 ≡ o.next
  pub table : take (8 * length o.asked.segments) memory.table ≡ table_bytes o.ticket.slot 0 o.asked.segments

abbrev pub IfHoldsOrb : Option Kept → SlotMemory → Type 0
IfHoldsOrb None memory = Unit {0}
IfHoldsOrb (Some o) memory = HoldsOrb o memory

-- A quadlet at this address stands in a place of management.
pub record IsManaged (offset : ℕ) : Type 0 where
  pub place : ℕ
  pub exists : IsWindow (windows.Management place)
  pub begins : start (windows.Management place) ≤ offset
  pub ends : offset + 4 ≤ start (windows.Management place) + 32

-- A call that prepares has a request of a command, one that fills stays inside a buffer, and one that sets a quadlet does so in
-- a place of management.
abbrev pub IsProper : Call → Type 0
IsProper (Prepare asked) = IsRequest asked
IsProper (Fill slot at bytes) = (slot < 32) × (at + length bytes ≤ 32768)
IsProper (SetQuad offset value) = IsManaged offset
IsProper _ = Unit {0}

abbrev pub AreProper : List Call → Type 0
AreProper [] = Unit {0}
AreProper (call ∷ calls) = IsProper call × AreProper calls

-- Over every list of calls each slot has the ORB that was prepared last in it: its next pointer is null until the high
-- quadlet of the ORB behind it was written, and then that ORB's address; its low quadlet is 0 until that of the ORB behind it
-- was written; the other bytes are as prepared, but for the format of a dummy. These quadlets are written into the slot of the
-- ORB before the one that is linked, of the same list.
pub record ServedLaw : Type 0 where
  pub served : (calls : List Call) (quads : List ℕ) (k : ℕ) → AreProper calls → k < 32 → IfHoldsOrb (kept_in (run calls quads).notes k) (slot_at (run calls quads).memory k)
  pub before_low : (calls : List Call) (quads : List ℕ) (linking : Linking) → AreProper calls → waits_low (run calls quads).table.present ≡ Some linking → IsBefore (run calls quads).table.slots linking.tail linking.before
  pub before_high : (calls : List Call) (quads : List ℕ) (linking : Linking) → AreProper calls → waits_high (run calls quads).table.present ≡ Some linking → IsBefore (run calls quads).table.slots linking.tail linking.before
