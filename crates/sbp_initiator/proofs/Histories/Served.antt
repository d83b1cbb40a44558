-- What the target reads: the ROM stays, and the slots are those of the calls of the slots.
use Rattle.std.proofs.Common.{◌≡◌, refl, sym, ap, subst, ◌∙◌, ℕ, ◌||◌, nat_eq, Bool, true, false, cond, List, [], ◌∷◌, ◌++◌, append_assoc, length, take, drop, Option, Some, None, Result, Ok, Err}
use Rattle.bus_memory.specs.declared.access.Access.TheVariants.{Write}
use Rattle.bus_memory.specs.declared.access.Rcode.TheVariants.{TypeError}
use Rattle.bus_memory.specs.declared.access.Spot.{Spot}
use Rattle.bus_memory.specs.declared.window.Window.{Window}
use Rattle.bus_memory.specs.declared.window.Window.TheVariants as windows
use Rattle.bus_memory.specs.Access.{judged, judged_at, set_step, spot_of, takes_writes, write_at, write_step}
use Rattle.bus_memory.specs.Laws.{IsWhole}
use Rattle.bus_memory.specs.Memory.{Memory, new_memory, rom_bytes, slot_at, with_bytes}
use Rattle.bus_memory.specs.Windows.{is_fifo}
use Rattle.bus_memory.proofs.Found.{own_law}
use Rattle.orb_layout.specs.declared.status.StatusBlock.{StatusBlock}
use Rattle.orb_list.specs.declared.fault.ListFault.{ListFault}
use Rattle.orb_list.specs.declared.list.Linking.{Linking}
use Rattle.orb_list.specs.Kept.{AreProper, IfHoldsOrb, IsManaged, IsProper, kept_in}
use Rattle.orb_list.specs.Layout.{behind, data_in_segments, data_written}
use Rattle.orb_list.specs.Requests.{Asked}
use Rattle.orb_list.specs.Runs.{Call, Prepare, LinkLow, LinkHigh, MakeDummy, TakeStatus, DropList, FreeAll, Pin, Unpin, TryWrite, Fill, SetQuad, left_by, run}
use Rattle.orb_list.specs.Table.{SlotTable, checked, closed, dummy_at, dummy_step, free_all_step, high_for, high_step, low_for, low_step, may_prepare, prepare_at, prepare_step, slot_in, status_at, status_for, status_step, unpin_for, unpin_step, waiting, waits_high, waits_low}
use Rattle.orb_list.specs.Tickets.{TicketParts}
use Rattle.orb_list.proofs.Buffers.{buffer_law}
use Rattle.orb_list.proofs.Imaged.{served_law}
use Rattle.orb_list.proofs.Steps.{held_law}
use Rattle.bus_memory.specs.Windows.{slot_of}
use Rattle.sbp_initiator.specs.Initiators.{own_rom}
use Rattle.sbp_initiator.specs.Histories.Laws.{AreCalls, after}
use Rattle.sbp_initiator.specs.Histories.Laws as initiator_calls
use Rattle.sbp_initiator.proofs.Histories.Slotted.{slot_law}
use Rattle.sbp_initiator.specs.Histories.Served.{ReadsLaw}
use Rattle.sbp_initiator.specs.Histories.Slots.{slot_calls, slot_calls_after, slot_calls_since}
use Rattle.sbp_initiator.proofs.Histories.Over.{sound}

-- ---- each call of the slots leaves the ROM

segments_rom : (m : Memory) (slot at : ℕ) (counts data_left : List ℕ) → (data_in_segments m slot at counts data_left).rom ≡ m.rom
segments_rom m slot at [] data_left = refl
segments_rom m slot at (count ∷ rest) data_left =
    segments_rom (with_bytes m (windows.Buffer slot) at (take count data_left)) slot (behind at count) rest (drop count data_left)

data_rom : (m : Memory) (slot : ℕ) (segments payload : List ℕ) → (data_written m slot segments payload).rom ≡ m.rom
data_rom m slot [] payload = refl
data_rom m slot (first ∷ rest) payload = segments_rom m slot 0 (first ∷ rest) payload

prepared_rom : (r : Result ℕ ListFault) (s : SlotTable) (m : Memory) (asked : Asked) → (prepare_at r s m asked).1.1.rom ≡ m.rom
prepared_rom (Err fault) s m asked = refl
prepared_rom (Ok slot) s m asked = data_rom _ slot asked.segments asked.payload

prepare_rom : (s : SlotTable) (m : Memory) (asked : Asked) → (prepare_step s m asked).1.1.rom ≡ m.rom
unfolding prepare_step
prepare_rom s m asked = prepared_rom (may_prepare s) s m asked

lowered_rom : (linking : Option Linking) (s : SlotTable) (m : Memory) → (low_for linking s m).1.1.rom ≡ m.rom
lowered_rom None s m = refl
lowered_rom (Some linking) s m = refl

low_rom : (s : SlotTable) (m : Memory) → (low_step s m).1.1.rom ≡ m.rom
unfolding low_step
low_rom s m = lowered_rom (waits_low s.present) s m

linked_rom : (linking : Option Linking) (s : SlotTable) (m : Memory) → (high_for linking s m).1.1.rom ≡ m.rom
unfolding closed
linked_rom None s m = refl
linked_rom (Some linking) s m = refl

high_rom : (s : SlotTable) (m : Memory) → (high_step s m).1.1.rom ≡ m.rom
unfolding high_step
high_rom s m = linked_rom (waits_high s.present) s m

dummied_rom : (r : Result (Unit {0}) ListFault) (s : SlotTable) (m : Memory) (t : TicketParts) → (dummy_at r s m t).1.1.rom ≡ m.rom
dummied_rom (Err fault) s m t = refl
dummied_rom (Ok done) s m t = refl

dummy_rom : (s : SlotTable) (m : Memory) (t : TicketParts) → (dummy_step s m t).1.1.rom ≡ m.rom
unfolding dummy_step
dummy_rom s m t = dummied_rom (checked s t) s m t

taken_rom : (t : Option TicketParts) (slot : ℕ) (s : SlotTable) (m : Memory) (block : StatusBlock) → (status_at t slot s m block).1.1.rom ≡ m.rom
unfolding closed
taken_rom None slot s m block = refl
taken_rom (Some t) slot s m block = refl

found_rom : (slot : Option ℕ) (s : SlotTable) (m : Memory) (block : StatusBlock) → (status_for slot s m block).1.1.rom ≡ m.rom
found_rom None s m block = refl
found_rom (Some slot) s m block = taken_rom (waiting (slot_in s.slots slot)) slot s m block

status_rom : (s : SlotTable) (m : Memory) (block : StatusBlock) → (status_step s m block).1.1.rom ≡ m.rom
unfolding status_step
status_rom s m block = found_rom (slot_of block.orb) s m block

freed_rom : (s : SlotTable) (m : Memory) → (free_all_step s m).1.rom ≡ m.rom
unfolding free_all_step closed
freed_rom s m = refl

unpinned_rom : (t : Option TicketParts) (s : SlotTable) (m : Memory) → (unpin_for t s m).1.rom ≡ m.rom
unfolding closed
unpinned_rom None s m = refl
unpinned_rom (Some t) s m = refl

unpin_rom : (s : SlotTable) (m : Memory) → (unpin_step s m).1.rom ≡ m.rom
unfolding unpin_step
unpin_rom s m = unpinned_rom s.pinned s m

untrue : false ≡ true → ⊥
untrue e = cc

-- a write into a window that takes writes is none into the ROM
into_rom : (window : Window) (m : Memory) (at : ℕ) (bytes : List ℕ) → takes_writes m window ≡ true → (with_bytes m window at bytes).rom ≡ m.rom
into_rom windows.Rom m at bytes e = absurd (untrue e)
into_rom (windows.Orb slot) m at bytes e = refl
into_rom (windows.Table slot) m at bytes e = refl
into_rom (windows.Buffer slot) m at bytes e = refl
into_rom (windows.Management place) m at bytes e = refl
into_rom (windows.Response place) m at bytes e = refl

write_spot : (c : Bool) (spot : Spot) (m : Memory) (bytes : List ℕ) → takes_writes m spot.window ≡ c → (write_at m bytes (cond c (Ok spot) (Err TypeError))).1.rom ≡ m.rom
write_spot true spot m bytes e = into_rom spot.window m spot.at bytes e
write_spot false spot m bytes e = refl

write_found : (spot : Option Spot) (m : Memory) (bytes : List ℕ) → (write_at m bytes (judged_at m Write spot)).1.rom ≡ m.rom
write_found None m bytes = refl
write_found (Some spot) m bytes = write_spot (takes_writes m spot.window) spot m bytes refl

write_row : (c : Bool) (spot : Option Spot) (m : Memory) (bytes : List ℕ) → (write_at m bytes (cond c (Err TypeError) (judged_at m Write spot))).1.rom ≡ m.rom
write_row true spot m bytes = refl
write_row false spot m bytes = write_found spot m bytes

write_rom : (m : Memory) (offset : ℕ) (bytes : List ℕ) → (write_step m offset bytes).1.rom ≡ m.rom
unfolding judged
write_rom m offset bytes = write_row (nat_eq (length bytes) 0 || is_fifo offset) (spot_of m offset (length bytes)) m bytes

set_rom : (m : Memory) (offset value : ℕ) → IsWhole m → IsManaged offset → (set_step m offset value).rom ≡ m.rom
set_rom m offset value whole p =
    ap (λ (x : Memory). x.rom) (own_law.set m offset p.place value whole (record { exists = p.exists; begins = p.begins; ends = p.ends }))

call_rom : (call : Call) (s : SlotTable) (m : Memory) → IsProper call → IsWhole m → (left_by call s m).1.rom ≡ m.rom
call_rom (Prepare asked) s m p whole = prepare_rom s m asked
call_rom LinkLow s m p whole = low_rom s m
call_rom LinkHigh s m p whole = high_rom s m
call_rom (MakeDummy t) s m p whole = dummy_rom s m t
call_rom (TakeStatus block) s m p whole = status_rom s m block
call_rom DropList s m p whole = refl
call_rom FreeAll s m p whole = freed_rom s m
call_rom (Pin t) s m p whole = refl
call_rom Unpin s m p whole = unpin_rom s m
call_rom (TryWrite offset bytes) s m p whole = write_rom m offset bytes
call_rom (Fill slot at bytes) s m p whole = refl
call_rom (SetQuad offset value) s m p whole = set_rom m offset value whole p

first_rom : (quads : List ℕ) → (new_memory quads).rom ≡ rom_bytes quads
unfolding new_memory
first_rom quads = refl

run_rom : (calls : List Call) (quads : List ℕ) → AreProper calls → (run calls quads).memory.rom ≡ rom_bytes quads
run_rom [] quads h = first_rom quads
run_rom (call ∷ calls) quads h =
    call_rom call (run calls quads).table (run calls quads).memory h.0 (held_law.run_held calls quads h.1).whole ∙ run_rom calls quads h.1

since_is : (number : ℕ) (ready : Bool) (later earlier : List initiator_calls.Call) → slot_calls_after number ready (later ++ earlier) ≡ slot_calls_since number ready later earlier ++ slot_calls_after number ready earlier
since_is number ready [] earlier = refl
since_is number ready (call ∷ later) earlier =
    let now = slot_calls call (after number ready (later ++ earlier)) in
    ap (λ (x : List Call). now ++ x) (since_is number ready later earlier)
    ∙ sym (append_assoc now (slot_calls_since number ready later earlier) (slot_calls_after number ready earlier))

earlier_calls : (later earlier : List initiator_calls.Call) → AreCalls (later ++ earlier) → AreCalls earlier
earlier_calls [] earlier h = h
earlier_calls (call ∷ later) earlier h = earlier_calls later earlier h.1

pub reads_law : ReadsLaw
reads_law = record {
  reads = λ number ready calls h.
      let w = slot_law number ready calls h in
      let done = slot_calls_after number ready calls in
      let m = (after number ready calls).1.lists.memory in
      record {
        orb = λ k b. subst (λ (x : Memory). IfHoldsOrb (kept_in (run done (own_rom number)).notes k) (slot_at x k)) w.memory (served_law.served done (own_rom number) k w.proper b);
        read = λ k out b e. own_law.read m k out b e;
        place = (sound number ready calls).marks.orbs;
        rom = sym (ap (λ (x : Memory). x.rom) w.memory) ∙ run_rom done (own_rom number) w.proper;
      };
  buffer = λ number ready later earlier k h n.
      let a = slot_law number ready (later ++ earlier) h in
      let b = slot_law number ready earlier (earlier_calls later earlier h) in
      let since = slot_calls_since number ready later earlier in
      let before = slot_calls_after number ready earlier in
      sym (ap (λ (x : Memory). (slot_at x k).buffer) a.memory)
      ∙ ap (λ (x : List Call). (slot_at (run x (own_rom number)).memory k).buffer) (since_is number ready later earlier)
      ∙ buffer_law.stays since before (own_rom number) k n ∙ ap (λ (x : Memory). (slot_at x k).buffer) b.memory;
}
