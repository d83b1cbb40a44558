-- The lists of an initiator: its slots, the memory that holds their ORBs, and what each ORB's status brings.
use Rattle.std.specs.Prelude.{◌≡◌, ℕ, ◌==◌, is_some, if◌then◌else◌, List, [], ◌∷◌, ◌++◌, length, take, drop, replicate, slice_set, slice_index_or, Option, Some, None, Result, Ok, Err}
use Rattle.bus_memory.specs.declared.window.Window.TheVariants as windows
use Rattle.bus_memory.specs.Windows.{slot_of}
use Rattle.bus_memory.specs.Memory.{Memory, new_memory, slot_at, with_bytes}
use Rattle.bus_memory.specs.Access.{write_step}
use Rattle.orb_layout.specs.declared.status.StatusBlock.{StatusBlock}
use Rattle.orb_layout.specs.declared.management.ManagementOrb.{ManagementOrb}
use Rattle.orb_layout.specs.ManagementOrbs.{management_bytes}
use Rattle.orb_list.specs.declared.fault.ListFault.{ListFault}
use Rattle.orb_list.specs.Tickets.{TicketParts}
use Rattle.orb_list.specs.Requests.{Asked}
use Rattle.orb_list.specs.Layout.{behind}
use Rattle.orb_list.specs.Table.{SlotTable, new_table, slot_in, prepare_step, low_step, high_step, dummy_step, status_step, drop_step, free_all_step, pin_step, unpin_step}
use Rattle.orb_list.specs.Holds.{HoldsSlots}
use Rattle.orb_list.specs.declared.answer.AnswerPlan.{AnswerPlan}

-- the slots, the memory, and by slot what the status of the ORB that was prepared last there brings
pub record ListState : Type 0 where
  pub slots : SlotTable
  pub memory : Memory
  pub answers : List AnswerPlan

-- nothing is brought
abbrev pub no_answer : AnswerPlan
no_answer = record { count = 0; segments = [] }

abbrev pub new_lists : List ℕ → ListState
new_lists quads = record { slots = new_table; memory = new_memory quads; answers = replicate 32 no_answer }

-- the memory holds the slots, and each slot has its plan
pub record IsHeld (slots : SlotTable) (memory : Memory) (answers : List AnswerPlan) : Type 0 where
  pub holds : HoldsSlots slots.slots memory
  pub plans : length answers ≡ 32

abbrev pub with_parts : ListState → SlotTable × Memory → ListState
with_parts lists parts = record lists { slots = parts.0; memory = parts.1 }

abbrev pub with_slots : ListState → SlotTable → ListState
with_slots lists slots = record lists { slots = slots }

abbrev pub with_memory : ListState → Memory → ListState
with_memory lists memory = record lists { memory = memory }

-- the ticket of what was done, where it was not refused
abbrev pub ticket_in : Result TicketParts ListFault → Option TicketParts
ticket_in (Ok t) = Some t
ticket_in (Err fault) = None

-- ---- an ORB is prepared for a command

-- the bytes that a good status of the command brings: those of its buffer, where this goes to the initiator
abbrev pub plan_for : Asked → AnswerPlan
plan_for asked = record { count = if asked.to_initiator then asked.length else 0; segments = asked.segments }

abbrev pub planned_as : Result TicketParts ListFault × (SlotTable × Memory) → ListState → AnswerPlan → Option TicketParts × ListState
planned_as (Ok t, parts) lists plan =
    (Some t, record { slots = parts.0; memory = parts.1; answers = slice_set lists.answers t.slot plan })
planned_as (Err fault, parts) lists plan = (None, with_parts lists parts)

unfoldable pub prepare_lists : ListState → Asked → Option TicketParts × ListState
prepare_lists lists asked = planned_as (prepare_step lists.slots lists.memory asked) lists (plan_for asked)

-- ---- the other steps of the slots, with their memory

abbrev pub stepped : Result TicketParts ListFault × (SlotTable × Memory) → ListState → Option TicketParts × ListState
stepped (result, parts) lists = (ticket_in result, with_parts lists parts)

unfoldable pub low_lists : ListState → Option TicketParts × ListState
low_lists lists = stepped (low_step lists.slots lists.memory) lists

unfoldable pub high_lists : ListState → Option TicketParts × ListState
high_lists lists = stepped (high_step lists.slots lists.memory) lists

unfoldable pub take_lists : ListState → StatusBlock → Option TicketParts × ListState
take_lists lists block = stepped (status_step lists.slots lists.memory block) lists

unfoldable pub dummy_lists : ListState → TicketParts → ListState
dummy_lists lists t = with_parts lists (dummy_step lists.slots lists.memory t).1

unfoldable pub drop_lists : ListState → Option ℕ × ListState
drop_lists lists = ((drop_step lists.slots).0, with_slots lists (drop_step lists.slots).1)

unfoldable pub free_lists : ListState → ListState
free_lists lists = with_parts lists (free_all_step lists.slots lists.memory)

-- at most one slot is pinned
unfoldable pub pin_lists : ListState → TicketParts → ListState
pin_lists lists t = if is_some lists.slots.pinned then lists else with_slots lists (pin_step lists.slots t).1

unfoldable pub unpin_lists : ListState → ListState
unpin_lists lists = with_parts lists (unpin_step lists.slots lists.memory)

-- ---- the memory

unfoldable pub write_lists : ListState → ℕ → List ℕ → ℕ × ListState
write_lists lists offset bytes =
    ((write_step lists.memory offset bytes).0, with_memory lists (write_step lists.memory offset bytes).1)

-- a management ORB stands in a place
unfoldable pub manage_lists : ListState → ℕ → ManagementOrb → ListState
manage_lists lists place orb =
    with_memory lists (with_bytes lists.memory (windows.Management place) 0 (management_bytes orb))

-- ---- what a good status brings

-- the bytes of a buffer in segments, joined in order
abbrev pub in_segments : List ℕ → List ℕ → List ℕ
in_segments buffer [] = []
in_segments buffer (count ∷ rest) = take count buffer ++ in_segments (drop (behind 0 count) buffer) rest

abbrev pub answer_in : List ℕ → ℕ → List ℕ → List ℕ
answer_in buffer count [] = take count buffer
answer_in buffer count (first ∷ rest) = in_segments buffer (first ∷ rest)

abbrev pub plan_at : ListState → ℕ → AnswerPlan
plan_at lists slot = slice_index_or lists.answers slot no_answer

-- the answer that stands in a slot's buffer; none where none is brought
abbrev pub answer_by : AnswerPlan → List ℕ → List ℕ
answer_by plan buffer = if plan.count == 0 then [] else answer_in buffer plan.count plan.segments

unfoldable pub answer_at : ListState → ℕ → List ℕ
answer_at lists slot = answer_by (plan_at lists slot) (slot_at lists.memory slot).buffer

-- ---- which ORB is meant

-- the latest ORB that was prepared in the slot of an address
abbrev pub last_in : ListState → Option ℕ → Option TicketParts
last_in lists None = None
last_in lists (Some slot) = (slot_in lists.slots.slots slot).last

abbrev pub last_at : ListState → ℕ → Option TicketParts
last_at lists orb = last_in lists (slot_of orb)
