-- What the steps of the slots and the writes of the target leave in the memory are bytes.
use Rattle.sbp_world.proofs.Words.Std.{arith, ◌≡◌, refl, sym, subst, ℕ, zero, suc, ◌+◌, ◌-◌, ◌*◌, ◌^◌, ◌<◌, ◌≤◌, ◌==◌, ◌&&◌, ◌||◌, nat_le, is_some, Bool, true, false, cond, List, [], ◌∷◌, ◌++◌, length, take, drop, get_or, Option, Some, None, Result, Ok, Err, nat_tests, length-drop, length-take, big_bytes, with_quad}
use Rattle.sbp_world.proofs.Words.Wire.{AreBytes, Cmd}
use Rattle.sbp_world.proofs.Words.Initiator.{Access, Rcode, TypeError, AddressError, Spot, PlaceMemory, SlotMemory, Window, judged, judged_at, rcode_number, read_at, read_step, serves, spot_in, spot_of, write_at, Memory, bytes_in, empty_place, empty_slot, new_memory, patch, place_at, slot_at, with_armed, with_bytes, with_place, with_slot, is_fifo, slot_of, start, window_at, ManagementOrb, StatusBlock, command_bytes, command_quads, management_bytes, management_quads, quad_bytes, ListFault, Linking, Slot, behind, data_in_segments, data_written, orb_of, table_bytes, written, Asked, SlotTable, checked, closed, closed_slots, dummy_at, dummy_step, free_all_step, high_for, high_step, low_for, may_prepare, pin_step, prepare_at, prepare_step, slot_in, status_at, status_for, unpin_for, unpin_step, waiting, waits_high, waits_low, with_orb_quad, TicketParts, ListState, drop_lists, dummy_lists, free_lists, high_lists, low_lists, manage_lists, pin_lists, stepped, take_lists, unpin_lists, with_slots, write_lists, prepared_as, put_lists}
use Rattle.sbp_world.proofs.Words.World.{BytesCommand, FitsMemory, FitsPlace, FitsSlot}
use Rattle.bus_memory.specs.declared.access.Access.TheVariants.{Read, Write}
use Rattle.bus_memory.specs.declared.window.Window.TheVariants as windows
use Rattle.bus_memory.specs.Access.{is_open}
use Rattle.bus_transactions.proofs.Fits.{bytes_append, bytes_drop, bytes_quad, bytes_take, bytes_zeros, no_bytes, put_or}
use Rattle.bus_transactions.proofs.FitSteps.{replicate_or}
use Rattle.orb_list.specs.Table.{low_step, status_step}
use Rattle.sbp_world.proofs.FitTarget.Agents.{quads_bytes}

-- ---- bytes that are written

pub bytes_patch : (old : List ℕ) (at : ℕ) (bytes : List ℕ) → AreBytes old → AreBytes bytes → AreBytes (patch old at bytes)
bytes_patch old at bytes a b =
    bytes_append (take at old) (bytes ++ drop (at + length bytes) old) (bytes_take at old a)
    (bytes_append bytes (drop (at + length bytes) old) b (bytes_drop (at + length bytes) old a))

bytes_with_quad : (old : List ℕ) (at value : ℕ) → AreBytes old → AreBytes (with_quad old at value)
bytes_with_quad old at value a =
    bytes_append (take at old) (big_bytes 4 value ++ drop (at + 4) old) (bytes_take at old a) (bytes_append (big_bytes 4 value) (drop (at + 4) old) (bytes_quad value) (bytes_drop (at + 4) old a))

-- ---- a memory with a part that is another
slot_fits : (m : Memory) (number : ℕ) (slot : SlotMemory) → FitsMemory m → FitsSlot slot → FitsMemory (with_slot m number slot)
slot_fits m number slot f s = record { rom = f.rom; slots = λ k. put_or FitsSlot m.slots number k slot empty_slot (λ e. s) (f.slots k); places = f.places }

place_fits : (m : Memory) (number : ℕ) (place : PlaceMemory) → FitsMemory m → FitsPlace place → FitsMemory (with_place m number place)
place_fits m number place f s = record { rom = f.rom; slots = f.slots; places = λ k. put_or FitsPlace m.places number k place empty_place (λ e. s) (f.places k) }

pub fits_bytes : (m : Memory) (window : Window) (at : ℕ) (bytes : List ℕ) → FitsMemory m → AreBytes bytes → FitsMemory (with_bytes m window at bytes)
fits_bytes m windows.Rom at bytes f b = record { rom = bytes_patch m.rom at bytes f.rom b; slots = f.slots; places = f.places }
fits_bytes m (windows.Orb slot) at bytes f b =
    let s = f.slots slot in slot_fits m slot _ f (record { orb = bytes_patch (slot_at m slot).orb at bytes s.orb b; table = s.table; buffer = s.buffer })
fits_bytes m (windows.Table slot) at bytes f b =
    let s = f.slots slot in slot_fits m slot _ f (record { orb = s.orb; table = bytes_patch (slot_at m slot).table at bytes s.table b; buffer = s.buffer })
fits_bytes m (windows.Buffer slot) at bytes f b =
    let s = f.slots slot in slot_fits m slot _ f (record { orb = s.orb; table = s.table; buffer = bytes_patch (slot_at m slot).buffer at bytes s.buffer b })
fits_bytes m (windows.Management place) at bytes f b =
    let s = f.places place in place_fits m place _ f (record { orb = bytes_patch (place_at m place).orb at bytes s.orb b; response = s.response })
fits_bytes m (windows.Response place) at bytes f b =
    let s = f.places place in place_fits m place _ f (record { orb = s.orb; response = bytes_patch (place_at m place).response at bytes s.response b })

armed_fits : (m : Memory) (slot : ℕ) (armed : Bool) → FitsMemory m → FitsMemory (with_armed m slot armed)
armed_fits m slot armed f = let s = f.slots slot in slot_fits m slot _ f (record { orb = s.orb; table = s.table; buffer = s.buffer })

orb_quad_fits : (m : Memory) (slot at value : ℕ) → FitsMemory m → FitsMemory (with_orb_quad m slot at value)
orb_quad_fits m slot at value f =
    let s = f.slots slot in slot_fits m slot _ f (record { orb = bytes_with_quad (slot_at m slot).orb at value s.orb; table = s.table; buffer = s.buffer })

closed_each : (slots : List Slot) (memories : List SlotMemory) (k : ℕ) → FitsSlot (get_or memories k empty_slot) → FitsSlot (get_or (closed_slots slots memories) k empty_slot)
closed_each [] memories k f = f
closed_each (slot ∷ slots) [] k f = f
closed_each (slot ∷ slots) (memory ∷ memories) zero f = record { orb = f.orb; table = f.table; buffer = f.buffer }
closed_each (slot ∷ slots) (memory ∷ memories) (suc k) f = closed_each slots memories k f

closed_fits : (slots : List Slot) (m : Memory) → FitsMemory m → FitsMemory (closed slots m)
unfolding closed
closed_fits slots m f = record { rom = f.rom; slots = λ k. closed_each slots m.slots k (f.slots k); places = f.places }

-- a new memory
empty_slot_fits : FitsSlot empty_slot
unfolding empty_slot
empty_slot_fits = record { orb = bytes_zeros 32; table = bytes_zeros 512; buffer = bytes_zeros 32768 }

empty_place_fits : FitsPlace empty_place
unfolding empty_place
empty_place_fits = record { orb = bytes_zeros 32; response = bytes_zeros 256 }

pub new_memory_fits : (quads : List ℕ) → FitsMemory (new_memory quads)
unfolding new_memory
new_memory_fits quads = record {
  rom = quads_bytes quads;
  slots = λ k. subst FitsSlot (sym (replicate_or 32 k empty_slot)) empty_slot_fits;
  places = λ k. subst FitsPlace (sym (replicate_or 2 k empty_place)) empty_place_fits;
}

-- ---- the slots
table_small : (slot at : ℕ) (segments : List ℕ) → AreBytes (table_bytes slot at segments)
table_small slot at [] = no_bytes
table_small slot at (count ∷ rest) =
    bytes_append (big_bytes 4 (count * 2 ^ 16)) (big_bytes 4 (start (windows.Buffer slot) + at) ++ table_bytes slot (behind at count) rest) (bytes_quad (count * 2 ^ 16))
    (bytes_append (big_bytes 4 (start (windows.Buffer slot) + at)) (table_bytes slot (behind at count) rest) (bytes_quad (start (windows.Buffer slot) + at)) (table_small slot (behind at count) rest))

segments_fit : (m : Memory) (slot at : ℕ) (segments payload : List ℕ) → FitsMemory m → AreBytes payload → FitsMemory (data_in_segments m slot at segments payload)
segments_fit m slot at [] payload f a = f
segments_fit m slot at (count ∷ rest) payload f a =
    segments_fit (with_bytes m (windows.Buffer slot) at (take count payload)) slot (behind at count) rest (drop count payload)
    (fits_bytes m (windows.Buffer slot) at (take count payload) f (bytes_take count payload a)) (bytes_drop count payload a)

data_fits : (m : Memory) (slot : ℕ) (segments payload : List ℕ) → FitsMemory m → AreBytes payload → FitsMemory (data_written m slot segments payload)
data_fits m slot [] payload f a = fits_bytes m (windows.Buffer slot) 0 payload f a
data_fits m slot (first ∷ rest) payload f a = segments_fit m slot 0 (first ∷ rest) payload f a

written_fits : (m : Memory) (slot : ℕ) (asked : Asked) → FitsMemory m → AreBytes asked.cdb → AreBytes asked.payload → FitsMemory (written m slot asked)
written_fits m slot asked f c p =
    let armed = with_armed m slot true in
    let orb_small = bytes_append (quad_bytes (command_quads (orb_of asked slot))) asked.cdb (quads_bytes (command_quads (orb_of asked slot))) c in
    data_fits _ slot asked.segments asked.payload
    (fits_bytes _ (windows.Table slot) 0 (table_bytes slot 0 asked.segments) (fits_bytes armed (windows.Orb slot) 0 (command_bytes (orb_of asked slot)) (armed_fits m slot true f) orb_small) (table_small slot 0 asked.segments)) p

prepared_at : (r : Result ℕ ListFault) (s : SlotTable) (m : Memory) (asked : Asked) → FitsMemory m → AreBytes asked.cdb → AreBytes asked.payload → FitsMemory (prepare_at r s m asked).1.1
prepared_at (Err fault) s m asked f c p = f
prepared_at (Ok slot) s m asked f c p = written_fits m slot asked f c p

prepared : (s : SlotTable) (m : Memory) (asked : Asked) → FitsMemory m → AreBytes asked.cdb → AreBytes asked.payload → FitsMemory (prepare_step s m asked).1.1
unfolding prepare_step
prepared s m asked f c p = prepared_at (may_prepare s) s m asked f c p

low_at : (linking : Option Linking) (s : SlotTable) (m : Memory) → FitsMemory m → FitsMemory (low_for linking s m).1.1
low_at None s m f = f
low_at (Some linking) s m f = orb_quad_fits m linking.before 4 _ f

high_at : (linking : Option Linking) (s : SlotTable) (m : Memory) → FitsMemory m → FitsMemory (high_for linking s m).1.1
high_at None s m f = f
high_at (Some linking) s m f = closed_fits _ (with_orb_quad m linking.before 0 _) (orb_quad_fits m linking.before 0 _ f)

dummied_at : (r : Result (Unit {0}) ListFault) (s : SlotTable) (m : Memory) (t : TicketParts) → FitsMemory m → FitsMemory (dummy_at r s m t).1.1
dummied_at (Err fault) s m t f = f
dummied_at (Ok done) s m t f = orb_quad_fits m t.slot 16 _ f

unpinned_for : (t : Option TicketParts) (s : SlotTable) (m : Memory) → FitsMemory m → FitsMemory (unpin_for t s m).1
unpinned_for None s m f = f
unpinned_for (Some t) s m f = closed_fits _ m f

taken_at : (t : Option TicketParts) (number : ℕ) (s : SlotTable) (m : Memory) (block : StatusBlock) → FitsMemory m → FitsMemory (status_at t number s m block).1.1
taken_at None number s m block f = f
taken_at (Some t) number s m block f = closed_fits _ m f

taken_for : (number : Option ℕ) (s : SlotTable) (m : Memory) (block : StatusBlock) → FitsMemory m → FitsMemory (status_for number s m block).1.1
taken_for None s m block f = f
taken_for (Some number) s m block f = taken_at (waiting (slot_in s.slots number)) number s m block f

-- ---- the lists
pub put_fits : (lists : ListState) (cmd : Cmd) (node login : ℕ) → BytesCommand cmd → FitsMemory lists.memory → FitsMemory (put_lists lists cmd node login).1.memory
unfolding put_lists
put_fits lists cmd node login b f = by (prepare_step lists.slots lists.memory _) (prepared lists.slots lists.memory _ f b.cdb b.payload)
  where
    by : (r : Result TicketParts ListFault × (SlotTable × Memory)) → FitsMemory r.1.1 → FitsMemory (prepared_as r lists cmd).1.memory
    by (Ok t, parts) g = g
    by (Err fault, parts) g = g

pub low_fits : (lists : ListState) → FitsMemory lists.memory → FitsMemory (low_lists lists).1.memory
unfolding low_lists low_step
low_fits lists f = by (low_for (waits_low lists.slots.present) lists.slots lists.memory) (low_at (waits_low lists.slots.present) lists.slots lists.memory f)
  where
    by : (r : Result TicketParts ListFault × (SlotTable × Memory)) → FitsMemory r.1.1 → FitsMemory (stepped r lists).1.memory
    by (result, parts) g = g

pub high_fits : (lists : ListState) → FitsMemory lists.memory → FitsMemory (high_lists lists).1.memory
unfolding high_lists high_step
high_fits lists f = by (high_for (waits_high lists.slots.present) lists.slots lists.memory) (high_at (waits_high lists.slots.present) lists.slots lists.memory f)
  where
    by : (r : Result TicketParts ListFault × (SlotTable × Memory)) → FitsMemory r.1.1 → FitsMemory (stepped r lists).1.memory
    by (result, parts) g = g

pub take_fits : (lists : ListState) (block : StatusBlock) → FitsMemory lists.memory → FitsMemory (take_lists lists block).1.memory
unfolding take_lists status_step
take_fits lists block f = by (status_for (slot_of block.orb) lists.slots lists.memory block) (taken_for (slot_of block.orb) lists.slots lists.memory block f)
  where
    by : (r : Result TicketParts ListFault × (SlotTable × Memory)) → FitsMemory r.1.1 → FitsMemory (stepped r lists).1.memory
    by (result, parts) g = g

pub dummy_fits : (lists : ListState) (t : TicketParts) → FitsMemory lists.memory → FitsMemory (dummy_lists lists t).memory
unfolding dummy_lists dummy_step
dummy_fits lists t f = dummied_at (checked lists.slots t) lists.slots lists.memory t f

pub drop_fits : (lists : ListState) → FitsMemory lists.memory → FitsMemory (drop_lists lists).1.memory
unfolding drop_lists
drop_fits lists f = f

pub free_fits : (lists : ListState) → FitsMemory lists.memory → FitsMemory (free_lists lists).memory
unfolding free_lists free_all_step
free_fits lists f = closed_fits _ lists.memory f

pub pin_fits : (lists : ListState) (t : TicketParts) → FitsMemory lists.memory → FitsMemory (pin_lists lists t).memory
unfolding pin_lists
pin_fits lists t f = by (is_some lists.slots.pinned)
  where
    by : (b : Bool) → FitsMemory (cond b lists (with_slots lists (pin_step lists.slots t).1)).memory
    by true = f
    by false = f

pub unpin_fits : (lists : ListState) → FitsMemory lists.memory → FitsMemory (unpin_lists lists).memory
unfolding unpin_lists unpin_step
unpin_fits lists f = unpinned_for lists.slots.pinned lists.slots lists.memory f

wrote_at : (m : Memory) (bytes : List ℕ) (r : Result Spot Rcode) → AreBytes bytes → FitsMemory m → FitsMemory (write_at m bytes r).1
wrote_at m bytes (Ok spot) a f = fits_bytes m spot.window spot.at bytes f a
wrote_at m bytes (Err rcode) a f = f

pub write_fits : (lists : ListState) (offset : ℕ) (bytes : List ℕ) → AreBytes bytes → FitsMemory lists.memory → FitsMemory (write_lists lists offset bytes).1.memory
unfolding write_lists
write_fits lists offset bytes a f = wrote_at lists.memory bytes (judged lists.memory Write offset (length bytes)) a f

pub manage_fits : (lists : ListState) (place : ℕ) (orb : ManagementOrb) → FitsMemory lists.memory → FitsMemory (manage_lists lists place orb).memory
unfolding manage_lists
manage_fits lists place orb f = fits_bytes lists.memory (windows.Management place) 0 (management_bytes orb) f (quads_bytes (management_quads orb))

-- ---- what is read
window_bytes : (m : Memory) (window : Window) → FitsMemory m → AreBytes (bytes_in m window)
window_bytes m windows.Rom f = f.rom
window_bytes m (windows.Orb slot) f = (f.slots slot).orb
window_bytes m (windows.Table slot) f = (f.slots slot).table
window_bytes m (windows.Buffer slot) f = (f.slots slot).buffer
window_bytes m (windows.Management place) f = (f.places place).orb
window_bytes m (windows.Response place) f = (f.places place).response

-- as many bytes as there is room for, where the rcode is 0
pub record FitsRead (count : ℕ) (r : ℕ × List ℕ) : Type 0 where
  pub small : r.0 < 2 ^ 4
  pub bytes : AreBytes r.1
  pub long : length r.1 ≡ count

abbrev IfInside : Memory → ℕ → Result Spot Rcode → Type 0
IfInside m count (Ok spot) = spot.at + count ≤ length (bytes_in m spot.window)
IfInside m count (Err rcode) = Unit {0}

abbrev IfSpotInside : Memory → ℕ → Option Spot → Type 0
IfSpotInside m count None = Unit {0}
IfSpotInside m count (Some spot) = spot.at + count ≤ length (bytes_in m spot.window)

spot_inside : (m : Memory) (offset count : ℕ) (window : Option Window) → IfSpotInside m count (spot_in m offset count window)
spot_inside m offset count None = tt
spot_inside m offset count (Some window) = by (is_open m window) (nat_le (offset - start window + count) (length (bytes_in m window))) refl
  where
    inside : nat_le (offset - start window + count) (length (bytes_in m window)) ≡ true → offset - start window + count ≤ length (bytes_in m window)
    inside e = grind (arith, nat_tests)

    by : (a b : Bool) → nat_le (offset - start window + count) (length (bytes_in m window)) ≡ b → IfSpotInside m count (cond (a && b) (Some (record { window = window; at = offset - start window })) None)
    by true true e = inside e
    by true false e = tt
    by false b e = tt

judged_spot : (m : Memory) (access : Access) (count : ℕ) (spot : Option Spot) → IfSpotInside m count spot → IfInside m count (judged_at m access spot)
judged_spot m access count None i = tt
judged_spot m access count (Some spot) i = by (serves m access spot.window)
  where
    by : (b : Bool) → IfInside m count (cond b (Ok spot) (Err TypeError))
    by true = i
    by false = tt

judged_inside : (m : Memory) (access : Access) (offset count : ℕ) → IfInside m count (judged m access offset count)
unfolding judged spot_of
judged_inside m access offset count = by ((count == 0) || is_fifo offset)
  where
    by : (b : Bool) → IfInside m count (cond b (Err TypeError) (judged_at m access (spot_in m offset count (window_at offset))))
    by true = tt
    by false = judged_spot m access count (spot_in m offset count (window_at offset)) (spot_inside m offset count (window_at offset))

rcode_small : (rcode : Rcode) → rcode_number rcode < 2 ^ 4
rcode_small TypeError = omega arith
rcode_small AddressError = omega arith

pub taken_length : (at count : ℕ) (xs : List ℕ) → at + count ≤ length xs → length (take count (drop at xs)) ≡ count
taken_length at count xs h = simp (length-take, length-drop) (omega arith)

read_length : (m : Memory) (out : List ℕ) (r : Result Spot Rcode) → IfInside m (length out) r → length (read_at m out r).1 ≡ length out
read_length m out (Ok spot) i = taken_length spot.at (length out) (bytes_in m spot.window) i
read_length m out (Err rcode) i = refl

-- a read gives as many bytes as there is room for
pub read_long : (m : Memory) (offset : ℕ) (out : List ℕ) → length (read_step m offset out).1 ≡ length out
read_long m offset out = read_length m out (judged m Read offset (length out)) (judged_inside m Read offset (length out))

read_by : (m : Memory) (out : List ℕ) (r : Result Spot Rcode) → FitsMemory m → AreBytes out → IfInside m (length out) r → FitsRead (length out) (read_at m out r)
read_by m out (Ok spot) f a i = record {
  small = omega arith;
  bytes = bytes_take (length out) (drop spot.at (bytes_in m spot.window)) (bytes_drop spot.at (bytes_in m spot.window) (window_bytes m spot.window f));
  long = read_length m out (Ok spot) i;
}
read_by m out (Err rcode) f a i = record { small = rcode_small rcode; bytes = a; long = refl }

pub read_fits : (m : Memory) (offset : ℕ) (out : List ℕ) → FitsMemory m → AreBytes out → FitsRead (length out) (read_step m offset out)
read_fits m offset out f a = read_by m out (judged m Read offset (length out)) f a (judged_inside m Read offset (length out))

pub wrote_small : (m : Memory) (bytes : List ℕ) (r : Result Spot Rcode) → (write_at m bytes r).0 < 2 ^ 4
wrote_small m bytes (Ok spot) = omega arith
wrote_small m bytes (Err rcode) = rcode_small rcode
