-- A step of an initiator's slots begins no list, but for one that prepares an ORB.
use Rattle.sbp_world.proofs.Words.Std.{◌≡◌, ◌∙◌, refl, sym, ap, ℕ, is_some, true, false, List, Option, Some, None, false≢true}
use Rattle.sbp_world.proofs.Words.Initiator.{Memory, ManagementOrb, StatusBlock, Link, Linking, PresentList, ListState, drop_lists, dummy_lists, free_lists, high_lists, low_lists, manage_lists, pin_lists, take_lists, unpin_lists, write_lists, SlotTable, drop_for, drop_step, free_all_step, high_for, high_step, link_set, low_for, passed_for, slot_in, status_at, status_for, waiting, waits_high, waits_low, TicketParts, slot_of}
use Rattle.sbp_initiator.proofs.Histories.Actions.{dummy_present, pins_present}
use Rattle.sbp_initiator.proofs.Histories.Effects.{unpin_present}
use Rattle.orb_list.specs.Table.{low_step, status_step}

-- a list is present only where one was
abbrev pub Fewer : ListState → ListState → Type 0
Fewer old new = is_some new.slots.present ≡ true → is_some old.slots.present ≡ true

same : (old new : ListState) → new.slots.present ≡ old.slots.present → Fewer old new
same old new e f = sym (ap (λ (o : Option PresentList). is_some o) e) ∙ f

alike : (old new : ListState) → is_some new.slots.present ≡ is_some old.slots.present → Fewer old new
alike old new e f = sym e ∙ f

set_alike : (present : Option PresentList) (link : Link) → is_some (link_set present link) ≡ is_some present
set_alike None link = refl
set_alike (Some list) link = refl

passed_alike : (present : Option PresentList) (number : ℕ) → is_some (passed_for present number) ≡ is_some present
passed_alike None number = refl
passed_alike (Some list) number = refl

low_alike : (linking : Option Linking) (s : SlotTable) (m : Memory) → is_some (low_for linking s m).1.0.present ≡ is_some s.present
low_alike None s m = refl
low_alike (Some linking) s m = set_alike s.present _

pub low_fewer : (lists : ListState) → Fewer lists (low_lists lists).1
unfolding low_lists low_step
low_fewer lists = alike lists (low_lists lists).1 (low_alike (waits_low lists.slots.present) lists.slots lists.memory)

high_alike : (linking : Option Linking) (s : SlotTable) (m : Memory) → is_some (high_for linking s m).1.0.present ≡ is_some s.present
high_alike None s m = refl
high_alike (Some linking) s m = set_alike s.present _

pub high_fewer : (lists : ListState) → Fewer lists (high_lists lists).1
unfolding high_lists high_step
high_fewer lists = alike lists (high_lists lists).1 (high_alike (waits_high lists.slots.present) lists.slots lists.memory)

status_alike : (t : Option TicketParts) (number : ℕ) (s : SlotTable) (m : Memory) (block : StatusBlock) → is_some (status_at t number s m block).1.0.present ≡ is_some s.present
status_alike None number s m block = refl
status_alike (Some t) number s m block = passed_alike s.present t.number

for_alike : (number : Option ℕ) (s : SlotTable) (m : Memory) (block : StatusBlock) → is_some (status_for number s m block).1.0.present ≡ is_some s.present
for_alike None s m block = refl
for_alike (Some number) s m block = status_alike (waiting (slot_in s.slots number)) number s m block

pub take_fewer : (lists : ListState) (block : StatusBlock) → Fewer lists (take_lists lists block).1
unfolding take_lists status_step
take_fewer lists block = alike lists (take_lists lists block).1 (for_alike (slot_of block.orb) lists.slots lists.memory block)

drop_none : (present : Option PresentList) (s : SlotTable) → s.present ≡ present → (drop_for present s).1.present ≡ None
drop_none None s e = e
drop_none (Some list) s e = refl

pub drop_fewer : (lists : ListState) → Fewer lists (drop_lists lists).1
unfolding drop_lists drop_step
drop_fewer lists f = absurd (false≢true (ap (λ (o : Option PresentList). is_some o) (sym (drop_none lists.slots.present lists.slots refl)) ∙ f))

pub free_none : (lists : ListState) → is_some (free_lists lists).slots.present ≡ false
unfolding free_lists free_all_step
free_none lists = refl

pub dummy_fewer : (lists : ListState) (t : TicketParts) → Fewer lists (dummy_lists lists t)
dummy_fewer lists t = same lists (dummy_lists lists t) (dummy_present lists t)

pub pin_fewer : (lists : ListState) (t : TicketParts) → Fewer lists (pin_lists lists t)
pin_fewer lists t = same lists (pin_lists lists t) (pins_present lists t)

pub unpin_fewer : (lists : ListState) → Fewer lists (unpin_lists lists)
unpin_fewer lists = same lists (unpin_lists lists) (unpin_present lists)

pub write_fewer : (lists : ListState) (offset : ℕ) (bytes : List ℕ) → Fewer lists (write_lists lists offset bytes).1
unfolding write_lists
write_fewer lists offset bytes f = f

pub manage_fewer : (lists : ListState) (place : ℕ) (orb : ManagementOrb) → Fewer lists (manage_lists lists place orb)
unfolding manage_lists
manage_fewer lists place orb f = f
