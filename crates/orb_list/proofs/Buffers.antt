-- What leaves a slot's buffer as it is.
use Rattle.std.proofs.Common.{arith, ◌≡◌, refl, ◌∙◌, ap, ℕ, zero, suc, ◌==◌, ◌||◌, nat_eq, Bool, true, false, cond, List, [], ◌∷◌, ◌++◌, length, take, drop, get_or, Option, Some, None, Result, Ok, Err}
use Rattle.std.proofs.lemmas.Bool.Decides.{nat_tests}
use Rattle.std.proofs.Math.ListN.{set}
use Rattle.byteorder.specs.Endian.{big_bytes}
use Rattle.bus_memory.specs.declared.access.Access.TheVariants.{Write}
use Rattle.bus_memory.specs.declared.access.Rcode.{Rcode}
use Rattle.bus_memory.specs.declared.access.Rcode.TheVariants.{TypeError}
use Rattle.bus_memory.specs.declared.access.Spot.{Spot}
use Rattle.bus_memory.specs.declared.slot.SlotMemory.{SlotMemory}
use Rattle.bus_memory.specs.declared.window.Window.{Window}
use Rattle.bus_memory.specs.declared.window.Window.TheVariants as windows
use Rattle.bus_memory.specs.Windows.{is_fifo, slot_of}
use Rattle.bus_memory.specs.Memory.{Memory, empty_slot, slot_at, with_slot, with_armed, with_bytes, is_written}
use Rattle.bus_memory.specs.Access.{judged, judged_at, spot_of, takes_writes, write_at, set_at}
use Rattle.bus_memory.specs.Laws.{is_same}
use Rattle.orb_layout.specs.CommandOrbs.{command_bytes}
use Rattle.orb_layout.specs.declared.status.StatusBlock.{StatusBlock}
use Rattle.orb_list.specs.declared.fault.ListFault.{ListFault}
use Rattle.orb_list.specs.declared.list.Linking.{Linking}
use Rattle.orb_list.specs.Tickets.{TicketParts}
use Rattle.orb_list.specs.Requests.{Asked}
use Rattle.orb_list.specs.Layout.{behind, orb_of, table_bytes, data_in_segments, data_written, written}
use Rattle.orb_list.specs.Table as table
use Rattle.orb_list.specs.Table.{SlotTable, waiting, slot_in, may_prepare, waits_low, waits_high, low_for, high_for}
use Rattle.orb_list.specs.Runs.{Call, Prepare, LinkLow, LinkHigh, MakeDummy, TakeStatus, DropList, FreeAll, Pin, Unpin, TryWrite, Fill, SetQuad, left_by, run}
use Rattle.orb_list.specs.Buffers.{is_given, is_into, is_spot_in, touches, NoneTouches, BufferLaw}
use Rattle.orb_list.proofs.Closed.{closed_keeps}

-- A slot's memory is set, and its buffer is the one that stood there.
set_same : (slots : List SlotMemory) (b k : ℕ) (x : SlotMemory) → x.buffer ≡ (get_or slots b empty_slot).buffer → (get_or (set slots b x) k empty_slot).buffer ≡ (get_or slots k empty_slot).buffer
set_same [] b k x e = refl
set_same (slot ∷ slots) zero zero x e = e
set_same (slot ∷ slots) zero (suc k) x e = refl
set_same (slot ∷ slots) (suc b) zero x e = refl
set_same (slot ∷ slots) (suc b) (suc k) x e = set_same slots b k x e

-- Another slot's memory is set.
set_other : (slots : List SlotMemory) (b k : ℕ) (x : SlotMemory) → nat_eq b k ≡ false → get_or (set slots b x) k empty_slot ≡ get_or slots k empty_slot
set_other [] b k x e = refl
set_other (slot ∷ slots) zero zero x e = cc
set_other (slot ∷ slots) zero (suc k) x e = refl
set_other (slot ∷ slots) (suc b) zero x e = refl
set_other (slot ∷ slots) (suc b) (suc k) x e = let f : nat_eq b k ≡ false = grind (arith, nat_tests) in set_other slots b k x f

same_buffer : (m : Memory) (b k : ℕ) (x : SlotMemory) → x.buffer ≡ (slot_at m b).buffer → (slot_at (with_slot m b x) k).buffer ≡ (slot_at m k).buffer
same_buffer m b k x e = set_same m.slots b k x e

other_slot : (m : Memory) (b k : ℕ) (x : SlotMemory) → nat_eq b k ≡ false → slot_at (with_slot m b x) k ≡ slot_at m k
other_slot m b k x e = set_other m.slots b k x e

-- A request is written into another slot.
other_segments : (m : Memory) (slot at : ℕ) (segments payload : List ℕ) (k : ℕ) → nat_eq slot k ≡ false → slot_at (data_in_segments m slot at segments payload) k ≡ slot_at m k
other_segments m slot at [] payload k e = refl
other_segments m slot at (count ∷ rest) payload k e =
    other_segments (with_bytes m (windows.Buffer slot) at (take count payload)) slot (behind at count) rest (drop count payload) k e
    ∙ other_slot m slot k _ e

other_data : (m : Memory) (slot : ℕ) (segments payload : List ℕ) (k : ℕ) → nat_eq slot k ≡ false → slot_at (data_written m slot segments payload) k ≡ slot_at m k
other_data m slot [] payload k e = other_slot m slot k _ e
other_data m slot (first ∷ rest) payload k e = other_segments m slot 0 (first ∷ rest) payload k e

other_written : (m : Memory) (slot : ℕ) (asked : Asked) (k : ℕ) → nat_eq slot k ≡ false → slot_at (written m slot asked) k ≡ slot_at m k
other_written m slot asked k e =
    let armed = with_armed m slot true in
    let orb = with_bytes armed (windows.Orb slot) 0 (command_bytes (orb_of asked slot)) in
    other_data (with_bytes orb (windows.Table slot) 0 (table_bytes slot 0 asked.segments)) slot asked.segments asked.payload k e
    ∙ other_slot orb slot k _ e
    ∙ other_slot armed slot k _ e
    ∙ other_slot m slot k _ e

-- Bytes are written into a window.
buffer_window : (m : Memory) (w : Window) (at : ℕ) (bytes : List ℕ) (k : ℕ) → is_same w (windows.Buffer k) ≡ false → (slot_at (with_bytes m w at bytes) k).buffer ≡ (slot_at m k).buffer
buffer_window m windows.Rom at bytes k e = refl
buffer_window m (windows.Management p) at bytes k e = refl
buffer_window m (windows.Response p) at bytes k e = refl
buffer_window m (windows.Orb b) at bytes k e = same_buffer m b k _ refl
buffer_window m (windows.Table b) at bytes k e = same_buffer m b k _ refl
buffer_window m (windows.Buffer b) at bytes k e = ap (λ (s : SlotMemory). s.buffer) (other_slot m b k _ e)

buffer_spot : (m : Memory) (bytes : List ℕ) (found : Result Spot Rcode) (k : ℕ) → is_into found k ≡ false → (slot_at (write_at m bytes found).1 k).buffer ≡ (slot_at m k).buffer
buffer_spot m bytes (Err rcode) k e = refl
buffer_spot m bytes (Ok spot) k e = buffer_window m spot.window spot.at bytes k e

buffer_quad : (m : Memory) (value : ℕ) (found : Option Spot) (k : ℕ) → is_spot_in found k ≡ false → (slot_at (set_at m value found) k).buffer ≡ (slot_at m k).buffer
buffer_quad m value None k e = refl
buffer_quad m value (Some spot) k e = buffer_window m spot.window spot.at (big_bytes 4 value) k e

-- Each call.
buffer_prepare : (found : Result ℕ ListFault) (s : SlotTable) (m : Memory) (asked : Asked) (k : ℕ) → is_given (table.prepare_at found s m asked).0 k ≡ false → (slot_at (table.prepare_at found s m asked).1.1 k).buffer ≡ (slot_at m k).buffer
buffer_prepare (Err fault) s m asked k e = refl
buffer_prepare (Ok slot) s m asked k e = ap (λ (memory : SlotMemory). memory.buffer) (other_written m slot asked k e)

buffer_low : (found : Option Linking) (s : SlotTable) (m : Memory) (k : ℕ) → (slot_at (low_for found s m).1.1 k).buffer ≡ (slot_at m k).buffer
buffer_low None s m k = refl
buffer_low (Some linking) s m k = same_buffer m linking.before k _ refl

buffer_high : (found : Option Linking) (s : SlotTable) (m : Memory) (k : ℕ) → (slot_at (high_for found s m).1.1 k).buffer ≡ (slot_at m k).buffer
buffer_high None s m k = refl
buffer_high (Some linking) s m k = closed_keeps _ _ (windows.Buffer k) ∙ same_buffer m linking.before k _ refl

buffer_dummy : (found : Result (Unit {0}) ListFault) (s : SlotTable) (m : Memory) (t : TicketParts) (k : ℕ) → (slot_at (table.dummy_at found s m t).1.1 k).buffer ≡ (slot_at m k).buffer
buffer_dummy (Err fault) s m t k = refl
buffer_dummy (Ok done) s m t k = same_buffer m t.slot k _ refl

buffer_status_at : (found : Option TicketParts) (number : ℕ) (s : SlotTable) (m : Memory) (block : StatusBlock) (k : ℕ) → (slot_at (table.status_at found number s m block).1.1 k).buffer ≡ (slot_at m k).buffer
buffer_status_at None number s m block k = refl
buffer_status_at (Some t) number s m block k = closed_keeps _ m (windows.Buffer k)

buffer_status : (found : Option ℕ) (s : SlotTable) (m : Memory) (block : StatusBlock) (k : ℕ) → (slot_at (table.status_for found s m block).1.1 k).buffer ≡ (slot_at m k).buffer
buffer_status None s m block k = refl
buffer_status (Some number) s m block k = buffer_status_at (waiting (slot_in s.slots number)) number s m block k

buffer_unpin : (pinned : Option TicketParts) (s : SlotTable) (m : Memory) (k : ℕ) → (slot_at (table.unpin_for pinned s m).1 k).buffer ≡ (slot_at m k).buffer
buffer_unpin None s m k = refl
buffer_unpin (Some t) s m k = closed_keeps _ m (windows.Buffer k)

buffer_call : (call : Call) (s : SlotTable) (m : Memory) (k : ℕ) → touches call s m k ≡ false → (slot_at (left_by call s m).1 k).buffer ≡ (slot_at m k).buffer
unfolding table.prepare_step table.low_step table.high_step table.dummy_step table.status_step table.free_all_step table.unpin_step
buffer_call (Prepare asked) s m k e = buffer_prepare (may_prepare s) s m asked k e
buffer_call LinkLow s m k e = buffer_low (waits_low s.present) s m k
buffer_call LinkHigh s m k e = buffer_high (waits_high s.present) s m k
buffer_call (MakeDummy t) s m k e = buffer_dummy (table.checked s t) s m t k
buffer_call (TakeStatus block) s m k e = buffer_status (slot_of block.orb) s m block k
buffer_call DropList s m k e = refl
buffer_call FreeAll s m k e = closed_keeps (table.all_freed s).slots m (windows.Buffer k)
buffer_call (Pin t) s m k e = refl
buffer_call Unpin s m k e = buffer_unpin s.pinned s m k
buffer_call (TryWrite offset bytes) s m k e = buffer_spot m bytes (judged m Write offset (length bytes)) k e
buffer_call (Fill slot at bytes) s m k e = ap (λ (memory : SlotMemory). memory.buffer) (other_slot m slot k _ e)
buffer_call (SetQuad offset value) s m k e = buffer_quad m value (spot_of m offset 4) k e

buffer_stays : (later earlier : List Call) (quads : List ℕ) (k : ℕ) → NoneTouches later earlier quads k → (slot_at (run (later ++ earlier) quads).memory k).buffer ≡ (slot_at (run earlier quads).memory k).buffer
buffer_stays [] earlier quads k n = refl
buffer_stays (call ∷ later) earlier quads k n =
    buffer_call call (run (later ++ earlier) quads).table (run (later ++ earlier) quads).memory k n.0 ∙ buffer_stays later earlier quads k n.1

-- A write that is served in a buffer has the direction of the slot's ORB.
into_window : (m : Memory) (w : Window) (k : ℕ) → takes_writes m w ≡ true → is_same w (windows.Buffer k) ≡ true → is_written (slot_at m k) ≡ true
into_window m windows.Rom k t e = cc
into_window m (windows.Orb b) k t e = cc
into_window m (windows.Table b) k t e = cc
into_window m (windows.Management p) k t e = cc
into_window m (windows.Response p) k t e = cc
into_window m (windows.Buffer b) k t e =
    let n : k ≡ b = grind (arith, nat_tests) in
    ap (λ (j : ℕ). is_written (slot_at m j)) n ∙ t

into_spot : (m : Memory) (spot : Spot) (k : ℕ) (taken : Bool) → takes_writes m spot.window ≡ taken → is_into (cond taken (Ok spot) (Err TypeError)) k ≡ true → is_written (slot_at m k) ≡ true
into_spot m spot k false t e = cc
into_spot m spot k true t e = into_window m spot.window k t e

into_found : (m : Memory) (found : Option Spot) (k : ℕ) → is_into (judged_at m Write found) k ≡ true → is_written (slot_at m k) ≡ true
into_found m None k e = cc
into_found m (Some spot) k e = into_spot m spot k (takes_writes m spot.window) refl e

into_when : (m : Memory) (offset count k : ℕ) (b : Bool) → is_into (cond b (Err TypeError) (judged_at m Write (spot_of m offset count))) k ≡ true → is_written (slot_at m k) ≡ true
into_when m offset count k true e = cc
into_when m offset count k false e = into_found m (spot_of m offset count) k e

into_buffer : (m : Memory) (offset count k : ℕ) → is_into (judged m Write offset count) k ≡ true → is_written (slot_at m k) ≡ true
unfolding judged
into_buffer m offset count k e = into_when m offset count k ((count == 0) || is_fifo offset) e

pub buffer_law : BufferLaw
buffer_law = record { stays = buffer_stays; direction = into_buffer }
