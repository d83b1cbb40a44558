-- The slots of an initiator and its present list, and what each call does.
use Rattle.std.specs.Prelude.{ℕ, ◌+◌, ◌*◌, ◌/◌, ◌%◌, ◌^◌, ◌==◌, ◌&&◌, ◌||◌, not, nat_lt, Bool, true, false, if◌then◌else◌, List, [], ◌∷◌, map, max, position, replicate, slice_set, slice_index_or, Option, Some, None, Result, Ok, Err}
use Rattle.sbp_base.specs.Quadlets.{quad, with_quad}
use Rattle.bus_memory.specs.declared.slot.SlotMemory.{SlotMemory}
use Rattle.bus_memory.specs.declared.window.Window.TheVariants as windows
use Rattle.bus_memory.specs.Windows.{start, slot_of}
use Rattle.bus_memory.specs.Memory.{Memory, slot_at, with_slot}
use Rattle.orb_layout.specs.declared.pointer.OrbPointer.TheVariants.{At}
use Rattle.orb_layout.specs.declared.status.StatusBlock.{StatusBlock}
use Rattle.orb_layout.specs.StatusBlocks.{row_of}
use Rattle.orb_layout.specs.Pointers.{pointer_high, pointer_low}
use Rattle.orb_list.specs.declared.fault.ListFault.{ListFault}
use Rattle.orb_list.specs.declared.fault.ListFault.TheVariants as faults
use Rattle.orb_list.specs.declared.list.Link.{Link}
use Rattle.orb_list.specs.declared.list.Link.TheVariants as links
use Rattle.orb_list.specs.declared.list.Linking.{Linking}
use Rattle.orb_list.specs.declared.list.PresentList.{PresentList}
use Rattle.orb_list.specs.declared.slot.SlotState.{SlotState}
use Rattle.orb_list.specs.declared.slot.SlotState.TheVariants as states
use Rattle.orb_list.specs.declared.slot.Slot.{Slot}
use Rattle.orb_list.specs.Tickets.{TicketParts, ticket, is_ticket}
use Rattle.orb_list.specs.Requests.{Asked}
use Rattle.orb_list.specs.Layout.{written}

-- the 32 slots by number, the present list, the lists that were begun, the ORB whose slot is pinned, and how many calls
-- changed this and how many prepared an ORB
pub record SlotTable : Type 0 where
  pub slots : List Slot
  pub present : Option PresentList
  pub lists : ℕ
  pub pinned : Option TicketParts
  pub calls : ℕ
  pub acts : ℕ

abbrev pub unused : Slot
unused = record { state = states.Free; last = None }

abbrev pub new_table : SlotTable
new_table = record { slots = replicate 32 unused; present = None; lists = 0; pinned = None; calls = 0; acts = 0 }

abbrev pub slot_in : List Slot → ℕ → Slot
slot_in slots number = slice_index_or slots number unused

abbrev pub free_state : SlotState → Bool
free_state states.Free = true
free_state states.Waiting = false
free_state (states.Taken had_next) = false
free_state states.Resting = false

abbrev pub is_free : Slot → Bool
is_free slot = free_state slot.state

-- the table after one more call that changes it
abbrev pub counted : SlotTable → SlotTable
counted s = record s { calls = s.calls + 1 }

abbrev pub with_state : SlotTable → ℕ → SlotState → SlotTable
with_state s number state = record s { slots = slice_set s.slots number (record (slot_in s.slots number) { state = state }) }

-- When a slot becomes free.

-- the link of the ORB that was prepared last is done
abbrev pub is_done : Link → Bool
is_done links.Done = true
is_done (links.Low before) = false
is_done (links.High before) = false

-- the ORB behind the one of this number is linked
abbrev pub next_is_linked : PresentList → ℕ → Bool
next_is_linked list number = nat_lt number list.tail.number && (is_done list.link || nat_lt (number + 1) list.tail.number)

abbrev pub is_pinned : Option TicketParts → TicketParts → Bool
is_pinned None t = false
is_pinned (Some pinned) t = is_ticket pinned t

-- of an ORB whose status was taken: the ORB behind it is linked, its src was 0 or the status of a later ORB was taken, and
-- it is not pinned
abbrev pub over_for : PresentList → Option TicketParts → Bool → Option TicketParts → Bool
over_for list pinned had_next None = false
over_for list pinned had_next (Some t) =
    next_is_linked list t.number && (had_next || nat_lt t.number list.passed) && not (is_pinned pinned t)

abbrev pub over_in : PresentList → Option TicketParts → SlotState → Option TicketParts → Bool
over_in list pinned states.Free last = false
over_in list pinned states.Waiting last = false
over_in list pinned (states.Taken had_next) last = over_for list pinned had_next last
over_in list pinned states.Resting last = false

abbrev pub is_over : PresentList → Option TicketParts → Slot → Bool
is_over list pinned slot = over_in list pinned slot.state slot.last

-- a slot whose ORB is over becomes free
unfoldable pub released : Option PresentList → Option TicketParts → Slot → Slot
released None pinned slot = slot
released (Some list) pinned slot = if is_over list pinned slot then record slot { state = states.Free } else slot

-- a slot that is free is not armed, every other stays as it is
abbrev pub closed_slot : Slot → SlotMemory → SlotMemory
closed_slot slot memory = record memory { is_armed = memory.is_armed && not (is_free slot) }

abbrev pub closed_slots : List Slot → List SlotMemory → List SlotMemory
closed_slots [] memories = memories
closed_slots (slot ∷ slots) [] = []
closed_slots (slot ∷ slots) (memory ∷ memories) = closed_slot slot memory ∷ closed_slots slots memories

unfoldable pub closed : List Slot → Memory → Memory
closed slots m = record m { slots = closed_slots slots m.slots }

abbrev pub swept : SlotTable → SlotTable
swept s = record s { slots = map (released s.present s.pinned) s.slots }

-- each slot whose ORB is over becomes free
abbrev pub sweep : SlotTable → Memory → SlotTable × Memory
sweep s m = (swept s, closed (swept s).slots m)

-- An ORB is prepared.

abbrev pub is_mid_link : Option PresentList → Bool
is_mid_link None = false
is_mid_link (Some list) = not (is_done list.link)

-- the lowest free slot
abbrev pub lowest : List Slot → Option ℕ
lowest slots = position is_free slots

abbrev pub free_slot : Option ℕ → Result ℕ ListFault
free_slot None = Err faults.NoSlot
free_slot (Some number) = Ok number

abbrev pub may_prepare : SlotTable → Result ℕ ListFault
may_prepare s = if is_mid_link s.present then Err faults.MidLink else free_slot (lowest s.slots)

abbrev pub list_number : Option PresentList → ℕ → ℕ
list_number None lists = lists
list_number (Some list) lists = list.tail.list

abbrev pub orb_number : Option PresentList → ℕ
orb_number None = 0
orb_number (Some list) = list.tail.number + 1

-- A list begins with the first ORB that is prepared while there is none.
abbrev pub extended : Option PresentList → TicketParts → PresentList
extended None t = record { tail = t; link = links.Done; passed = 0 }
extended (Some list) t = record { tail = t; link = links.Low list.tail.slot; passed = list.passed }

abbrev pub lists_begun : Option PresentList → ℕ → ℕ
lists_begun None lists = lists + 1
lists_begun (Some list) lists = lists

abbrev pub next_ticket : SlotTable → ℕ → ℕ → TicketParts
next_ticket s slot login = ticket login (list_number s.present s.lists) (orb_number s.present) slot s.calls

abbrev pub added : SlotTable → TicketParts → SlotTable
added s t = record {
  slots = slice_set s.slots t.slot (record { state = states.Waiting; last = Some t });
  present = Some (extended s.present t);
  lists = lists_begun s.present s.lists;
  pinned = s.pinned;
  calls = s.calls + 1;
  acts = s.acts + 1;
}

abbrev pub prepare_at : Result ℕ ListFault → SlotTable → Memory → Asked → Result TicketParts ListFault × (SlotTable × Memory)
prepare_at (Err fault) s m asked = (Err fault, (s, m))
prepare_at (Ok slot) s m asked =
    (Ok (next_ticket s slot asked.login), (added s (next_ticket s slot asked.login), written m slot asked))

unfoldable pub prepare_step : SlotTable → Memory → Asked → Result TicketParts ListFault × (SlotTable × Memory)
prepare_step s m asked = prepare_at (may_prepare s) s m asked

-- An ORB is linked.

-- a quadlet of a slot's ORB is set
abbrev pub with_orb_quad : Memory → ℕ → ℕ → ℕ → Memory
with_orb_quad m slot at value = with_slot m slot (record (slot_at m slot) { orb = with_quad (slot_at m slot).orb at value })

-- the pointer to an ORB
abbrev pub low_of : TicketParts → ℕ
low_of t = pointer_low (At (start (windows.Orb t.slot)))

abbrev pub high_of : TicketParts → ℕ
high_of t = pointer_high (At (start (windows.Orb t.slot)))

abbrev pub link_set : Option PresentList → Link → Option PresentList
link_set None link = None
link_set (Some list) link = Some (record list { link = link })

abbrev pub with_link : SlotTable → Link → SlotTable
with_link s link = record s { present = link_set s.present link; calls = s.calls + 1 }

-- the ORB that waits for a quadlet of its link, and the slot of the ORB before it, where that quadlet is written
abbrev pub low_in : Link → TicketParts → Option Linking
low_in links.Done tail = None
low_in (links.Low before) tail = Some (record { before = before; tail = tail })
low_in (links.High before) tail = None

abbrev pub high_in : Link → TicketParts → Option Linking
high_in links.Done tail = None
high_in (links.Low before) tail = None
high_in (links.High before) tail = Some (record { before = before; tail = tail })

abbrev pub waits_low : Option PresentList → Option Linking
waits_low None = None
waits_low (Some list) = low_in list.link list.tail

abbrev pub waits_high : Option PresentList → Option Linking
waits_high None = None
waits_high (Some list) = high_in list.link list.tail

abbrev pub low_for : Option Linking → SlotTable → Memory → Result TicketParts ListFault × (SlotTable × Memory)
low_for None s m = (Err faults.NotLinking, (s, m))
low_for (Some linking) s m =
    (Ok linking.tail, (with_link s (links.High linking.before), with_orb_quad m linking.before 4 (low_of linking.tail)))

unfoldable pub low_step : SlotTable → Memory → Result TicketParts ListFault × (SlotTable × Memory)
low_step s m = low_for (waits_low s.present) s m

abbrev pub high_for : Option Linking → SlotTable → Memory → Result TicketParts ListFault × (SlotTable × Memory)
high_for None s m = (Err faults.NotLinking, (s, m))
high_for (Some linking) s m =
    (Ok linking.tail, sweep (with_link s links.Done) (with_orb_quad m linking.before 0 (high_of linking.tail)))

unfoldable pub high_step : SlotTable → Memory → Result TicketParts ListFault × (SlotTable × Memory)
high_step s m = high_for (waits_high s.present) s m

-- Tickets of ORBs that wait.

abbrev pub waits_in : SlotState → Option TicketParts → Option TicketParts
waits_in states.Free last = None
waits_in states.Waiting last = last
waits_in (states.Taken had_next) last = None
waits_in states.Resting last = None

-- the ORB that waits in a slot
abbrev pub waiting : Slot → Option TicketParts
waiting slot = waits_in slot.state slot.last

abbrev pub is_the : Option TicketParts → TicketParts → Bool
is_the None t = false
is_the (Some waits) t = is_ticket waits t

abbrev pub is_present : Option PresentList → TicketParts → Bool
is_present None t = false
is_present (Some list) t = list.tail.list == t.list

-- a ticket is of the present list, and its ORB waits; else the first of the refusals
unfoldable pub checked : SlotTable → TicketParts → Result (Unit {0}) ListFault
checked s t =
    if not (is_present s.present t) then Err faults.Stale
    else if is_the (waiting (slot_in s.slots t.slot)) t then Ok tt else Err faults.Taken

-- the waiting ORB of a number
abbrev pub has_number : ℕ → Option TicketParts → Bool
has_number number None = false
has_number number (Some t) = t.number == number

unfoldable pub find_in : List Slot → ℕ → Option TicketParts
find_in [] number = None
find_in (slot ∷ slots) number = if has_number number (waiting slot) then waiting slot else find_in slots number

-- quadlet 4 with the request format 3
abbrev pub as_dummy : ℕ → ℕ
as_dummy options = options / 2 ^ 31 * 2 ^ 31 + 3 * 2 ^ 29 + options % 2 ^ 29

abbrev pub dummy_at : Result (Unit {0}) ListFault → SlotTable → Memory → TicketParts → Result (Unit {0}) ListFault × (SlotTable × Memory)
dummy_at (Err fault) s m t = (Err fault, (s, m))
dummy_at (Ok done) s m t = (Ok tt, (counted s, with_orb_quad m t.slot 16 (as_dummy (quad (slot_at m t.slot).orb 16))))

unfoldable pub dummy_step : SlotTable → Memory → TicketParts → Result (Unit {0}) ListFault × (SlotTable × Memory)
dummy_step s m t = dummy_at (checked s t) s m t

abbrev pub pin_at : Result (Unit {0}) ListFault → SlotTable → TicketParts → Result (Unit {0}) ListFault × SlotTable
pin_at (Err fault) s t = (Err fault, s)
pin_at (Ok done) s t = (Ok tt, counted (record s { pinned = Some t }))

unfoldable pub pin_step : SlotTable → TicketParts → Result (Unit {0}) ListFault × SlotTable
pin_step s t = pin_at (checked s t) s t

abbrev pub unpin_for : Option TicketParts → SlotTable → Memory → SlotTable × Memory
unpin_for None s m = (s, m)
unpin_for (Some t) s m = sweep (counted (record s { pinned = None })) m

unfoldable pub unpin_step : SlotTable → Memory → SlotTable × Memory
unpin_step s m = unpin_for s.pinned s m

-- A status is taken.

-- a slot whose status was taken rests where resp is not 0
abbrev pub state_after : StatusBlock → SlotState
state_after block = if (row_of block.kind).resp == 0 then states.Taken (block.src == 0) else states.Resting

abbrev pub passed_for : Option PresentList → ℕ → Option PresentList
passed_for None number = None
passed_for (Some list) number = Some (record list { passed = max list.passed number })

abbrev pub with_status : SlotTable → ℕ → TicketParts → StatusBlock → SlotTable
with_status s number t block =
    record (with_state s number (state_after block)) { present = passed_for s.present t.number; calls = s.calls + 1 }

abbrev pub status_at : Option TicketParts → ℕ → SlotTable → Memory → StatusBlock → Result TicketParts ListFault × (SlotTable × Memory)
status_at None number s m block = (Err faults.Slot, (s, m))
status_at (Some t) number s m block = (Ok t, sweep (with_status s number t block) m)

abbrev pub status_for : Option ℕ → SlotTable → Memory → StatusBlock → Result TicketParts ListFault × (SlotTable × Memory)
status_for None s m block = (Err faults.Slot, (s, m))
status_for (Some number) s m block = status_at (waiting (slot_in s.slots number)) number s m block

unfoldable pub status_step : SlotTable → Memory → StatusBlock → Result TicketParts ListFault × (SlotTable × Memory)
status_step s m block = status_for (slot_of block.orb) s m block

-- The present list is dropped, and all slots are freed.

-- a slot of a dropped list rests where it is not free
abbrev pub rested : Slot → Slot
rested slot = if is_free slot then slot else record slot { state = states.Resting }

abbrev pub drop_for : Option PresentList → SlotTable → Option ℕ × SlotTable
drop_for None s = (None, s)
drop_for (Some list) s = (Some list.tail.list, counted (record s { slots = map rested s.slots; present = None }))

unfoldable pub drop_step : SlotTable → Option ℕ × SlotTable
drop_step s = drop_for s.present s

abbrev pub freed : Slot → Slot
freed slot = record slot { state = states.Free }

-- every slot is free, and no list is present
abbrev pub all_freed : SlotTable → SlotTable
all_freed s = counted (record s { slots = map freed s.slots; present = None; pinned = None })

unfoldable pub free_all_step : SlotTable → Memory → SlotTable × Memory
free_all_step s m = (all_freed s, closed (all_freed s).slots m)
