-- What calls of the slots and their image do in turn, with notes of it, the latest first.
use Rattle.std.specs.Prelude.{ℕ, ◌&&◌, ◌||◌, not, Bool, false, List, [], ◌∷◌, Option, Some, None, Result, Ok, Err}
use Rattle.bus_memory.specs.declared.window.Window.TheVariants as windows
use Rattle.bus_memory.specs.Memory.{Memory, new_memory, with_bytes}
use Rattle.bus_memory.specs.Access.{write_step, set_step}
use Rattle.orb_layout.specs.declared.status.StatusBlock.{StatusBlock}
use Rattle.orb_list.specs.declared.fault.ListFault.{ListFault}
use Rattle.orb_list.specs.Tickets.{TicketParts, is_ticket}
use Rattle.orb_list.specs.Requests.{Asked}
use Rattle.orb_list.specs.Table.{SlotTable, new_table, low_step, high_step, waits_low, waits_high, prepare_step, dummy_step, status_step, drop_step, free_all_step, pin_step, unpin_step}

-- the calls: those of the slots, and of the image a write of the target that is tried, bytes that are filled and a quadlet
-- that is set
pub data Call : Type 0 where
  Prepare : Asked → Call
  LinkLow : Call
  LinkHigh : Call
  MakeDummy : TicketParts → Call
  TakeStatus : StatusBlock → Call
  DropList : Call
  FreeAll : Call
  Pin : TicketParts → Call
  Unpin : Call
  TryWrite : ℕ → List ℕ → Call
  Fill : ℕ → ℕ → List ℕ → Call
  SetQuad : ℕ → ℕ → Call

-- what was done: an ORB was prepared for a request; a quadlet of a next pointer was written into the ORB in a slot, for the
-- ORB that is linked there; an ORB became a dummy; its status was taken; a list was dropped; all slots were freed;
-- the slot of an ORB was pinned, and the pin ended
pub data Note : Type 0 where
  Prepared : TicketParts → Asked → Note
  LowWritten : ℕ → TicketParts → Note
  Linked : ℕ → TicketParts → Note
  Dummied : TicketParts → Note
  Taken : TicketParts → StatusBlock → Note
  Dropped : ℕ → Note
  Freed : Note
  Pinned : TicketParts → Note
  Unpinned : TicketParts → Note

pub record Run : Type 0 where
  pub table : SlotTable
  pub memory : Memory
  pub notes : List Note

abbrev pub beginning : List ℕ → Run
beginning quads = record { table = new_table; memory = new_memory quads; notes = [] }

-- what each call leaves
abbrev pub left_by : Call → SlotTable → Memory → SlotTable × Memory
left_by (Prepare asked) s m = (prepare_step s m asked).1
left_by LinkLow s m = (low_step s m).1
left_by LinkHigh s m = (high_step s m).1
left_by (MakeDummy t) s m = (dummy_step s m t).1
left_by (TakeStatus block) s m = (status_step s m block).1
left_by DropList s m = ((drop_step s).1, m)
left_by FreeAll s m = free_all_step s m
left_by (Pin t) s m = ((pin_step s t).1, m)
left_by Unpin s m = unpin_step s m
left_by (TryWrite offset bytes) s m = (s, (write_step m offset bytes).1)
left_by (Fill slot at bytes) s m = (s, with_bytes m (windows.Buffer slot) at bytes)
left_by (SetQuad offset value) s m = (s, set_step m offset value)

-- a note where a call was not refused
abbrev pub if_ok : {A : Type 0} → (A → Note) → Result A ListFault → List Note → List Note
if_ok note (Ok x) notes = note x ∷ notes
if_ok note (Err fault) notes = notes

abbrev pub if_some : {A : Type 0} → (A → Note) → Option A → List Note → List Note
if_some note (Some x) notes = note x ∷ notes
if_some note None notes = notes

-- what each call notes
abbrev pub noted_by : Call → SlotTable → Memory → List Note → List Note
noted_by (Prepare asked) s m ns = if_ok (λ t. Prepared t asked) (prepare_step s m asked).0 ns
noted_by LinkLow s m ns = if_some (λ linking. LowWritten linking.before linking.tail) (waits_low s.present) ns
noted_by LinkHigh s m ns = if_some (λ linking. Linked linking.before linking.tail) (waits_high s.present) ns
noted_by (MakeDummy t) s m ns = if_ok (λ done. Dummied t) (dummy_step s m t).0 ns
noted_by (TakeStatus block) s m ns = if_ok (λ t. Taken t block) (status_step s m block).0 ns
noted_by DropList s m ns = if_some (λ number. Dropped number) (drop_step s).0 ns
noted_by FreeAll s m ns = Freed ∷ ns
noted_by (Pin t) s m ns = if_ok (λ done. Pinned t) (pin_step s t).0 ns
noted_by Unpin s m ns = if_some (λ t. Unpinned t) s.pinned ns
noted_by (TryWrite offset bytes) s m ns = ns
noted_by (Fill slot at bytes) s m ns = ns
noted_by (SetQuad offset value) s m ns = ns

abbrev pub happens : Run → Call → Run
happens r call = record {
  table = (left_by call r.table r.memory).0;
  memory = (left_by call r.table r.memory).1;
  notes = noted_by call r.table r.memory r.notes;
}

-- the run of calls, the latest first
abbrev pub run : List Call → List ℕ → Run
run [] quads = beginning quads
run (call ∷ earlier) quads = happens (run earlier quads) call

-- an ORB waits from its preparation until its status is taken, its list is dropped or all slots are freed
abbrev pub waits : List Note → TicketParts → Bool
waits [] t = false
waits (Prepared u asked ∷ ns) t = is_ticket u t || waits ns t
waits (Taken u block ∷ ns) t = not (is_ticket u t) && waits ns t
waits (Dropped number ∷ ns) t = false
waits (Freed ∷ ns) t = false
waits (LowWritten before u ∷ ns) t = waits ns t
waits (Linked before u ∷ ns) t = waits ns t
waits (Dummied u ∷ ns) t = waits ns t
waits (Pinned u ∷ ns) t = waits ns t
waits (Unpinned u ∷ ns) t = waits ns t
