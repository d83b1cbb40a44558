-- What every table keeps, and that a memory holds its slots.
use Rattle.std.specs.Prelude.{◌≡◌, ℕ, ◌+◌, ◌<◌, ◌≤◌, not, false, List, length, Option, Some, None}
use Rattle.bus_memory.specs.Memory.{Memory, slot_at}
use Rattle.bus_memory.specs.Laws.{IsWhole}
use Rattle.orb_list.specs.declared.list.Link.{Link}
use Rattle.orb_list.specs.declared.list.Link.TheVariants as links
use Rattle.orb_list.specs.declared.list.PresentList.{PresentList}
use Rattle.orb_list.specs.declared.slot.Slot.{Slot}
use Rattle.orb_list.specs.Tickets.{TicketParts}
use Rattle.orb_list.specs.Table.{SlotTable, is_free, slot_in}

-- The ORB that was prepared last in a slot is this one, and the slot is in use or rests.
pub record IsIn (slots : List Slot) (number : ℕ) (t : TicketParts) : Type 0 where
  pub below : number < 32
  pub last : (slot_in slots number).last ≡ Some t
  pub held : is_free (slot_in slots number) ≡ false

-- The ORB before the last one, of the same list, keeps its slot.
pub record IsBefore (slots : List Slot) (tail : TicketParts) (number : ℕ) : Type 0 where
  pub orb : TicketParts
  pub in_slot : IsIn slots number orb
  pub list : orb.list ≡ tail.list
  pub before : orb.number + 1 ≡ tail.number

abbrev pub HoldsLink : List Slot → TicketParts → Link → Type 0
HoldsLink slots tail links.Done = Unit {0}
HoldsLink slots tail (links.Low before) = IsBefore slots tail before
HoldsLink slots tail (links.High before) = IsBefore slots tail before

-- The ORB that was prepared last keeps its slot, and the one before it where it is not linked yet.
pub record HoldsList (slots : List Slot) (acts : ℕ) (list : PresentList) : Type 0 where
  pub count : list.tail.number < acts
  pub tail : IsIn slots list.tail.slot list.tail
  pub link : HoldsLink slots list.tail list.link

-- A link of the present list fits.
abbrev pub KeepsLink : List Slot → Option PresentList → Link → Type 0
KeepsLink slots None link = Unit {0}
KeepsLink slots (Some list) link = HoldsLink slots list.tail link

abbrev pub HoldsPresent : List Slot → ℕ → Option PresentList → Type 0
HoldsPresent slots acts None = Unit {0}
HoldsPresent slots acts (Some list) = HoldsList slots acts list

pub record IsSound (s : SlotTable) : Type 0 where
  pub size : length s.slots ≡ 32
  pub lists : s.lists ≤ s.acts
  pub present : HoldsPresent s.slots s.acts s.present

-- A memory holds slots: its windows have their lengths, and a slot is armed exactly where it is in use or rests.
pub record HoldsSlots (slots : List Slot) (m : Memory) : Type 0 where
  pub whole : IsWhole m
  pub armed : (number : ℕ) → number < 32 → (slot_at m number).is_armed ≡ not (is_free (slot_in slots number))

-- A memory that held the slots before holds them now.
abbrev pub KeepsHeld : List Slot → List Slot → Type 0
KeepsHeld old new = (m : Memory) → HoldsSlots old m → HoldsSlots new m
