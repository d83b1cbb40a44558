-- What the steps of the slots count, and that a memory goes on to hold them.
use Rattle.std.proofs.Common.{arith, ◌≡◌, refl, sym, ap, ◌∙◌, ℕ, ◌+◌, ◌≤◌, List, replicate, Option, Some, None, Result, Ok, Err}
use Rattle.bus_memory.specs.Memory.{Memory, new_memory}
use Rattle.bus_memory.specs.Access.{write_step}
use Rattle.orb_layout.specs.declared.status.StatusBlock.{StatusBlock}
use Rattle.orb_list.specs.declared.fault.ListFault.{ListFault}
use Rattle.orb_list.specs.declared.list.Linking.{Linking}
use Rattle.orb_list.specs.declared.list.PresentList.{PresentList}
use Rattle.orb_list.specs.Tickets.{TicketParts}
use Rattle.orb_list.specs.Requests.{Asked}
use Rattle.orb_list.specs.Table.{SlotTable, new_table, may_prepare, prepare_at, prepare_step, waits_low, low_for, low_step, waits_high, high_for, high_step, checked, dummy_at, dummy_step, slot_in, waiting, status_at, status_for, status_step, drop_for, drop_step, free_all_step, pin_at, pin_step, unpin_for, unpin_step}
use Rattle.bus_memory.specs.Windows.{slot_of}
use Rattle.orb_list.specs.Holds.{HoldsSlots}
use Rattle.orb_list.specs.Lists.{IsHeld, no_answer}
use Rattle.orb_list.proofs.Steps.{held_law}
use Rattle.orb_list.proofs.Stays.{stays_law}

-- a step counts one call at most, and no ORB that is prepared
pub record Counts (old new : SlotTable) : Type 0 where
  pub calls : new.calls ≤ old.calls + 1
  pub acts : new.acts ≡ old.acts

same : (s : SlotTable) → Counts s s
same s = record { calls = omega arith; acts = refl }

once : (s : SlotTable) (t : SlotTable) → t.calls ≡ s.calls + 1 → t.acts ≡ s.acts → Counts s t
once s t e f = record { calls = omega arith; acts = f }

prepared : (r : Result ℕ ListFault) (s : SlotTable) (m : Memory) (asked : Asked) → (prepare_at r s m asked).1.0.calls ≤ s.calls + 1
prepared (Ok slot) s m asked = omega arith
prepared (Err fault) s m asked = omega arith

pub prepare_calls : (s : SlotTable) (m : Memory) (asked : Asked) → (prepare_step s m asked).1.0.calls ≤ s.calls + 1
unfolding prepare_step
prepare_calls s m asked = prepared (may_prepare s) s m asked

prepared_acts : (r : Result ℕ ListFault) (s : SlotTable) (m : Memory) (asked : Asked) → (prepare_at r s m asked).1.0.acts ≤ s.acts + 1
prepared_acts (Ok slot) s m asked = omega arith
prepared_acts (Err fault) s m asked = omega arith

pub prepare_acts : (s : SlotTable) (m : Memory) (asked : Asked) → (prepare_step s m asked).1.0.acts ≤ s.acts + 1
unfolding prepare_step
prepare_acts s m asked = prepared_acts (may_prepare s) s m asked

lowered : (l : Option Linking) (s : SlotTable) (m : Memory) → Counts s (low_for l s m).1.0
lowered None s m = same s
lowered (Some l) s m = once s _ refl refl

pub low_counts : (s : SlotTable) (m : Memory) → Counts s (low_step s m).1.0
unfolding low_step
low_counts s m = lowered (waits_low s.present) s m

raised : (l : Option Linking) (s : SlotTable) (m : Memory) → Counts s (high_for l s m).1.0
raised None s m = same s
raised (Some l) s m = once s _ refl refl

pub high_counts : (s : SlotTable) (m : Memory) → Counts s (high_step s m).1.0
unfolding high_step
high_counts s m = raised (waits_high s.present) s m

dummied : (r : Result (Unit {0}) ListFault) (s : SlotTable) (m : Memory) (t : TicketParts) → Counts s (dummy_at r s m t).1.0
dummied (Ok done) s m t = once s _ refl refl
dummied (Err fault) s m t = same s

pub dummy_counts : (s : SlotTable) (m : Memory) (t : TicketParts) → Counts s (dummy_step s m t).1.0
unfolding dummy_step
dummy_counts s m t = dummied (checked s t) s m t

noted : (w : Option TicketParts) (k : ℕ) (s : SlotTable) (m : Memory) (b : StatusBlock) → Counts s (status_at w k s m b).1.0
noted None k s m b = same s
noted (Some t) k s m b = once s _ refl refl

found : (k : Option ℕ) (s : SlotTable) (m : Memory) (b : StatusBlock) → Counts s (status_for k s m b).1.0
found None s m b = same s
found (Some k) s m b = noted (waiting (slot_in s.slots k)) k s m b

pub status_counts : (s : SlotTable) (m : Memory) (b : StatusBlock) → Counts s (status_step s m b).1.0
unfolding status_step
status_counts s m b = found (slot_of b.orb) s m b

-- A status that is not taken leaves the slots as they were.
noted_slots : (w : Option TicketParts) (k : ℕ) (s : SlotTable) (m : Memory) (b : StatusBlock) (fault : ListFault) → (status_at w k s m b).0 ≡ Err fault → (status_at w k s m b).1.0 ≡ s
noted_slots None k s m b fault e = refl
noted_slots (Some t) k s m b fault e = cc

found_slots : (k : Option ℕ) (s : SlotTable) (m : Memory) (b : StatusBlock) (fault : ListFault) → (status_for k s m b).0 ≡ Err fault → (status_for k s m b).1.0 ≡ s
found_slots None s m b fault e = refl
found_slots (Some k) s m b fault e = noted_slots (waiting (slot_in s.slots k)) k s m b fault e

pub status_slots : (s left : SlotTable) (m after : Memory) (b : StatusBlock) (result : Result TicketParts ListFault) (fault : ListFault) → (result, (left, after)) ≡ status_step s m b → result ≡ Err fault → left ≡ s
unfolding status_step
status_slots s left m after b result fault e f =
    let r = status_for (slot_of b.orb) s m b in
    let x : r.0 ≡ Err fault = sym (ap (λ (p : Result TicketParts ListFault × (SlotTable × Memory)). p.0) e) ∙ f in
    ap (λ (p : Result TicketParts ListFault × (SlotTable × Memory)). p.1.0) e ∙ found_slots (slot_of b.orb) s m b fault x

dropped : (p : Option PresentList) (s : SlotTable) → Counts s (drop_for p s).1
dropped None s = same s
dropped (Some list) s = once s _ refl refl

pub drop_counts : (s : SlotTable) → Counts s (drop_step s).1
unfolding drop_step
drop_counts s = dropped s.present s

pub free_counts : (s : SlotTable) (m : Memory) → Counts s (free_all_step s m).0
unfolding free_all_step
free_counts s m = once s _ refl refl

pinned_at : (r : Result (Unit {0}) ListFault) (s : SlotTable) (t : TicketParts) → Counts s (pin_at r s t).1
pinned_at (Ok done) s t = once s _ refl refl
pinned_at (Err fault) s t = same s

pub pin_counts : (s : SlotTable) (t : TicketParts) → Counts s (pin_step s t).1
unfolding pin_step
pin_counts s t = pinned_at (checked s t) s t

unpinned : (p : Option TicketParts) (s : SlotTable) (m : Memory) → Counts s (unpin_for p s m).0
unpinned None s m = same s
unpinned (Some t) s m = once s _ refl refl

pub unpin_counts : (s : SlotTable) (m : Memory) → Counts s (unpin_step s m).0
unfolding unpin_step
unpin_counts s m = unpinned s.pinned s m

-- A new memory holds new slots, and one that holds slots does so after a write of the target.
pub new_is_held : (quads : List ℕ) → IsHeld new_table (new_memory quads) (replicate 32 no_answer)
new_is_held quads = record { holds = held_law.new_held quads; plans = refl }

pub written_held : (s : SlotTable) (m : Memory) (offset : ℕ) (bytes : List ℕ) → HoldsSlots s.slots m → HoldsSlots s.slots (write_step m offset bytes).1
written_held s m offset bytes h = (stays_law.write s.slots m offset bytes h).held
