-- What the steps of an initiator's slots leave of its places of management: all of them.
use Rattle.sbp_world.proofs.Words.Std.{◌≡◌, refl, ℕ, List, [], ◌∷◌, Option, Some, None, Result, Ok, Err}
use Rattle.sbp_world.proofs.Words.Wire.{Cmd}
use Rattle.sbp_world.proofs.Words.Initiator.{Memory, with_bytes, StatusBlock, ListFault, Linking, behind, data_in_segments, data_written, written, AnswerPlan, ListState, drop_lists, dummy_lists, free_lists, high_lists, low_lists, pin_lists, planned_as, take_lists, unpin_lists, with_slots, Asked, SlotTable, checked, closed, dummy_at, dummy_step, free_all_step, high_for, high_step, low_for, may_prepare, pin_step, prepare_at, prepare_step, slot_in, status_at, status_for, unpin_for, unpin_step, waiting, waits_high, waits_low, TicketParts, slot_of, asked_by, put_lists}
use Rattle.std.specs.Prelude.{is_some, take, drop, Bool, true, false, cond}
use Rattle.bus_memory.specs.declared.window.Window.TheVariants as windows
use Rattle.orb_list.specs.Table.{low_step, status_step}

-- the places of a memory stand
abbrev pub Stand : Memory → Memory → Type 0
Stand m n = n.places ≡ m.places

-- ---- the links

low_stands : (linking : Option Linking) (s : SlotTable) (m : Memory) → Stand m (low_for linking s m).1.1
low_stands None s m = refl
low_stands (Some linking) s m = refl

pub low_places : (lists : ListState) → Stand lists.memory (low_lists lists).1.memory
unfolding low_lists low_step
low_places lists = low_stands (waits_low lists.slots.present) lists.slots lists.memory

high_stands : (linking : Option Linking) (s : SlotTable) (m : Memory) → Stand m (high_for linking s m).1.1
unfolding closed
high_stands None s m = refl
high_stands (Some linking) s m = refl

pub high_places : (lists : ListState) → Stand lists.memory (high_lists lists).1.memory
unfolding high_lists high_step
high_places lists = high_stands (waits_high lists.slots.present) lists.slots lists.memory

-- ---- statuses

status_stands : (t : Option TicketParts) (number : ℕ) (s : SlotTable) (m : Memory) (block : StatusBlock) → Stand m (status_at t number s m block).1.1
unfolding closed
status_stands None number s m block = refl
status_stands (Some t) number s m block = refl

for_stands : (number : Option ℕ) (s : SlotTable) (m : Memory) (block : StatusBlock) → Stand m (status_for number s m block).1.1
for_stands None s m block = refl
for_stands (Some number) s m block = status_stands (waiting (slot_in s.slots number)) number s m block

pub take_places : (lists : ListState) (block : StatusBlock) → Stand lists.memory (take_lists lists block).1.memory
unfolding take_lists status_step
take_places lists block = for_stands (slot_of block.orb) lists.slots lists.memory block

-- ---- pins, drops, dummies

unpin_stands : (t : Option TicketParts) (s : SlotTable) (m : Memory) → Stand m (unpin_for t s m).1
unfolding closed
unpin_stands None s m = refl
unpin_stands (Some t) s m = refl

pub unpin_places : (lists : ListState) → Stand lists.memory (unpin_lists lists).memory
unfolding unpin_lists unpin_step
unpin_places lists = unpin_stands lists.slots.pinned lists.slots lists.memory

pub drop_places : (lists : ListState) → Stand lists.memory (drop_lists lists).1.memory
unfolding drop_lists
drop_places lists = refl

pub pin_places : (lists : ListState) (t : TicketParts) → Stand lists.memory (pin_lists lists t).memory
unfolding pin_lists
pin_places lists t = by (is_some lists.slots.pinned)
  where
    by : (b : Bool) → Stand lists.memory (cond b lists (with_slots lists (pin_step lists.slots t).1)).memory
    by true = refl
    by false = refl

pub free_places : (lists : ListState) → Stand lists.memory (free_lists lists).memory
unfolding free_lists free_all_step closed
free_places lists = refl

dummy_stands : (r : _) (s : SlotTable) (m : Memory) (t : TicketParts) → Stand m (dummy_at r s m t).1.1
dummy_stands (Err fault) s m t = refl
dummy_stands (Ok done) s m t = refl

pub dummy_places : (lists : ListState) (t : TicketParts) → Stand lists.memory (dummy_lists lists t).memory
unfolding dummy_lists dummy_step
dummy_places lists t = dummy_stands (checked lists.slots t) lists.slots lists.memory t

-- ---- an ORB is prepared

segments_stand : (m : Memory) (slot at : ℕ) (counts data_left : List ℕ) → Stand m (data_in_segments m slot at counts data_left)
segments_stand m slot at [] data_left = refl
segments_stand m slot at (count ∷ rest) data_left =
    segments_stand (with_bytes m (windows.Buffer slot) at (take count data_left)) slot (behind at count) rest (drop count data_left)

data_stands : (m : Memory) (slot : ℕ) (segments payload : List ℕ) → Stand m (data_written m slot segments payload)
data_stands m slot [] payload = refl
data_stands m slot (first ∷ rest) payload = segments_stand m slot 0 (first ∷ rest) payload

written_stands : (m : Memory) (slot : ℕ) (asked : Asked) → Stand m (written m slot asked)
written_stands m slot asked = data_stands _ slot asked.segments asked.payload

prepare_stands : (r : Result ℕ ListFault) (s : SlotTable) (m : Memory) (asked : Asked) → Stand m (prepare_at r s m asked).1.1
prepare_stands (Err fault) s m asked = refl
prepare_stands (Ok slot) s m asked = written_stands m slot asked

planned_stands : (r : Result TicketParts ListFault × (SlotTable × Memory)) (lists : ListState) (plan : AnswerPlan) → Stand lists.memory r.1.1 → Stand lists.memory (planned_as r lists plan).1.memory
planned_stands (Ok t, parts) lists plan h = h
planned_stands (Err fault, parts) lists plan h = h

pub put_places : (lists : ListState) (cmd : Cmd) (node login : ℕ) → Stand lists.memory (put_lists lists cmd node login).1.memory
unfolding put_lists prepare_step
put_places lists cmd node login =
    planned_stands (prepare_step lists.slots lists.memory (asked_by cmd node login)) lists _ (prepare_stands (may_prepare lists.slots) lists.slots lists.memory (asked_by cmd node login))
