-- What every step keeps.
use Rattle.std.proofs.Common.{arith, ◌≡◌, refl, sym, ◌∙◌, ap, subst, ℕ, ◌+◌, ◌<◌, ◌≤◌, not, Bool, true, false, cond, List, [], ◌∷◌, length, map, Option, Some, None, Result, Ok, Err}
use Rattle.std.proofs.Math.ListN.{length-set}
use Rattle.std.proofs.lemmas.List.{get_or-map, length-map, length-replicate}
use Rattle.std.proofs.lemmas.List.Quantifiers.{position-Some}
use Rattle.bus_memory.specs.Windows.{slot_of}
use Rattle.bus_memory.specs.Memory.{Memory, slot_at}
use Rattle.orb_layout.specs.declared.status.StatusBlock.{StatusBlock}
use Rattle.sbp_base.specs.Quadlets.{quad}
use Rattle.orb_list.specs.declared.fault.ListFault.{ListFault}
use Rattle.orb_list.specs.declared.list.Link.{Link}
use Rattle.orb_list.specs.declared.list.Link.TheVariants as links
use Rattle.orb_list.specs.declared.list.PresentList.{PresentList}
use Rattle.orb_list.specs.declared.slot.SlotState.TheVariants as states
use Rattle.orb_list.specs.declared.slot.Slot.{Slot}
use Rattle.orb_list.specs.Tickets.{TicketParts}
use Rattle.orb_list.specs.Requests.{Asked, IsRequest}
use Rattle.orb_list.specs.Table as table
use Rattle.orb_list.specs.Table.{SlotTable, unused, new_table, slot_in, is_free, waiting, may_prepare, next_ticket, lists_begun, link_set, low_in, high_in, low_for, high_for, waits_low, waits_high, with_link, low_of, high_of, with_orb_quad, as_dummy, released, freed, rested, state_after, passed_for}
use Rattle.orb_list.specs.Holds.{HoldsLink, HoldsList, HoldsPresent, IsSound, HoldsSlots}
use Rattle.orb_list.specs.Runs.{Call, Prepare, LinkLow, LinkHigh, MakeDummy, TakeStatus, DropList, FreeAll, Pin, Unpin, TryWrite, Fill, SetQuad, left_by, run}
use Rattle.orb_list.specs.Kept.{IsProper, AreProper}
use Rattle.orb_list.specs.Steps.{HeldLaw}
use Rattle.orb_list.proofs.Sound.{present_added, present_changed, present_released, state_held}
use Rattle.orb_list.proofs.Held.{held_written, held_quad, held_released, held_freed, held_status, held_new, waiting_held}
use Rattle.orb_list.proofs.Tied.{may_lowest, past_slots}
use Rattle.orb_list.proofs.Imaged.{checked_small}
use Rattle.orb_list.proofs.Stays.{stays_law}

-- The slots are sound.
swept_sound : (s : SlotTable) → IsSound s → IsSound (table.swept s)
swept_sound s i = record {
  size = length-map s.slots (released s.present s.pinned) ∙ i.size;
  lists = i.lists;
  present = present_released s.slots s.acts s.present s.pinned i.size i.present;
}

lists_more : (present : Option PresentList) (lists acts : ℕ) → lists ≤ acts → lists_begun present lists ≤ acts + 1
lists_more None lists acts h = omega arith
lists_more (Some list) lists acts h = omega arith

sound_prepare : (s : SlotTable) (m : Memory) (asked : Asked) (found : Result ℕ ListFault) → may_prepare s ≡ found → IsSound s → IsSound (table.prepare_at found s m asked).1.0
sound_prepare s m asked (Err fault) e i = i
sound_prepare s m asked (Ok slot) e i =
    let p = position-Some is_free s.slots slot unused (may_lowest s slot e) in
    let l : slot < length s.slots = p.0 in
    let n = i.size in
    record {
      size = length-set s.slots slot _ ∙ i.size;
      lists = lists_more s.present s.lists s.acts i.lists;
      present = present_added s.slots s.acts s.present (next_ticket s slot asked.login) s.lists i.size (omega arith) refl refl p.1 i.present;
    }

sound_link : (s : SlotTable) (list : PresentList) (link : Link) → s.present ≡ Some list → HoldsLink s.slots list.tail link → HoldsList s.slots s.acts list → IsSound s → IsSound (with_link s link)
sound_link s list link p l h i = record {
  size = i.size;
  lists = i.lists;
  present = subst (λ (q : Option PresentList). HoldsPresent s.slots s.acts (link_set q link)) (sym p) (record { count = h.count; tail = h.tail; link = l });
}

sound_low_in : (s : SlotTable) (m : Memory) (list : PresentList) (link : Link) → s.present ≡ Some list → HoldsLink s.slots list.tail link → HoldsList s.slots s.acts list → IsSound s → IsSound (low_for (low_in link list.tail) s m).1.0
sound_low_in s m list links.Done p l h i = i
sound_low_in s m list (links.High b) p l h i = i
sound_low_in s m list (links.Low b) p l h i = sound_link s list (links.High b) p l h i

sound_high_in : (s : SlotTable) (m : Memory) (list : PresentList) (link : Link) → s.present ≡ Some list → HoldsList s.slots s.acts list → IsSound s → IsSound (high_for (high_in link list.tail) s m).1.0
sound_high_in s m list links.Done p h i = i
sound_high_in s m list (links.Low b) p h i = i
sound_high_in s m list (links.High b) p h i = swept_sound (with_link s links.Done) (sound_link s list links.Done p tt h i)

present_at : (s : SlotTable) (list : PresentList) → s.present ≡ Some list → IsSound s → HoldsList s.slots s.acts list
present_at s list p i = subst (λ (q : Option PresentList). HoldsPresent s.slots s.acts q) p i.present

sound_low : (s : SlotTable) (m : Memory) (present : Option PresentList) → s.present ≡ present → IsSound s → IsSound (low_for (waits_low present) s m).1.0
sound_low s m None p i = i
sound_low s m (Some list) p i = let h = present_at s list p i in sound_low_in s m list list.link p h.link h i

sound_high : (s : SlotTable) (m : Memory) (present : Option PresentList) → s.present ≡ present → IsSound s → IsSound (high_for (waits_high present) s m).1.0
sound_high s m None p i = i
sound_high s m (Some list) p i = sound_high_in s m list list.link p (present_at s list p i) i

sound_dummy : (s : SlotTable) (m : Memory) (t : TicketParts) (found : Result (Unit {0}) ListFault) → IsSound s → IsSound (table.dummy_at found s m t).1.0
sound_dummy s m t (Err fault) i = i
sound_dummy s m t (Ok done) i = record { size = i.size; lists = i.lists; present = i.present }

sound_status_at : (s : SlotTable) (m : Memory) (block : StatusBlock) (number : ℕ) (found : Option TicketParts) → waiting (slot_in s.slots number) ≡ found → IsSound s → IsSound (table.status_at found number s m block).1.0
sound_status_at s m block number None e i = i
sound_status_at s m block number (Some t) e i =
    let small = past_slots s.slots number t i.size e in
    let n = i.size in
    swept_sound (table.with_status s number t block) (record {
      size = length-set s.slots number (record (slot_in s.slots number) { state = state_after block }) ∙ i.size;
      lists = i.lists;
      present = present_changed s.slots s.acts number s.present t.number (record (slot_in s.slots number) { state = state_after block }) (omega arith) refl (state_held block) i.present;
    })

sound_status : (s : SlotTable) (m : Memory) (block : StatusBlock) (found : Option ℕ) → IsSound s → IsSound (table.status_for found s m block).1.0
sound_status s m block None i = i
sound_status s m block (Some number) i = sound_status_at s m block number (waiting (slot_in s.slots number)) refl i

sound_drop : (s : SlotTable) (found : Option PresentList) → IsSound s → IsSound (table.drop_for found s).1
sound_drop s None i = i
sound_drop s (Some list) i = record { size = length-map s.slots rested ∙ i.size; lists = i.lists; present = tt }

sound_pin : (s : SlotTable) (t : TicketParts) (found : Result (Unit {0}) ListFault) → IsSound s → IsSound (table.pin_at found s t).1
sound_pin s t (Err fault) i = i
sound_pin s t (Ok done) i = record { size = i.size; lists = i.lists; present = i.present }

sound_unpin : (s : SlotTable) (m : Memory) (pinned : Option TicketParts) → IsSound s → IsSound (table.unpin_for pinned s m).0
sound_unpin s m None i = i
sound_unpin s m (Some t) i = swept_sound (table.counted (record s { pinned = None })) (record { size = i.size; lists = i.lists; present = i.present })

sound_call : (call : Call) (s : SlotTable) (m : Memory) → IsSound s → IsSound (left_by call s m).0
unfolding table.prepare_step table.low_step table.high_step table.dummy_step table.status_step table.drop_step table.free_all_step table.pin_step table.unpin_step
sound_call (Prepare asked) s m i = sound_prepare s m asked (may_prepare s) refl i
sound_call LinkLow s m i = sound_low s m s.present refl i
sound_call LinkHigh s m i = sound_high s m s.present refl i
sound_call (MakeDummy t) s m i = sound_dummy s m t (table.checked s t) i
sound_call (TakeStatus block) s m i = sound_status s m block (slot_of block.orb) i
sound_call DropList s m i = sound_drop s s.present i
sound_call FreeAll s m i = record { size = length-map s.slots freed ∙ i.size; lists = i.lists; present = tt }
sound_call (Pin t) s m i = sound_pin s t (table.checked s t) i
sound_call Unpin s m i = sound_unpin s m s.pinned i
sound_call (TryWrite offset bytes) s m i = i
sound_call (Fill slot at bytes) s m i = i
sound_call (SetQuad offset value) s m i = i

-- The memory holds the slots.
held_prepare : (s : SlotTable) (m : Memory) (asked : Asked) (found : Result ℕ ListFault) → may_prepare s ≡ found → length s.slots ≡ 32 → IsRequest asked → HoldsSlots s.slots m → HoldsSlots (table.prepare_at found s m asked).1.0.slots (table.prepare_at found s m asked).1.1
held_prepare s m asked (Err fault) e n r h = h
held_prepare s m asked (Ok slot) e n r h =
    let p = position-Some is_free s.slots slot unused (may_lowest s slot e) in
    let l : slot < length s.slots = p.0 in
    held_written s.slots m slot (record { state = states.Waiting; last = Some (next_ticket s slot asked.login) }) asked n h (omega arith) refl r

held_low_in : (s : SlotTable) (m : Memory) (list : PresentList) (link : Link) → HoldsLink s.slots list.tail link → HoldsSlots s.slots m → HoldsSlots (low_for (low_in link list.tail) s m).1.0.slots (low_for (low_in link list.tail) s m).1.1
held_low_in s m list links.Done l h = h
held_low_in s m list (links.High b) l h = h
held_low_in s m list (links.Low b) l h = held_quad s.slots m b 4 (low_of list.tail) h l.in_slot.below (omega arith)

held_high_in : (s : SlotTable) (m : Memory) (list : PresentList) (link : Link) → length s.slots ≡ 32 → HoldsLink s.slots list.tail link → HoldsSlots s.slots m → HoldsSlots (high_for (high_in link list.tail) s m).1.0.slots (high_for (high_in link list.tail) s m).1.1
held_high_in s m list links.Done n l h = h
held_high_in s m list (links.Low b) n l h = h
held_high_in s m list (links.High b) n l h =
    held_released s.slots (with_link s links.Done).present s.pinned (with_orb_quad m b 0 (high_of list.tail)) n
    (held_quad s.slots m b 0 (high_of list.tail) h l.in_slot.below (omega arith))

held_low : (s : SlotTable) (m : Memory) (present : Option PresentList) → s.present ≡ present → IsSound s → HoldsSlots s.slots m → HoldsSlots (low_for (waits_low present) s m).1.0.slots (low_for (waits_low present) s m).1.1
held_low s m None p i h = h
held_low s m (Some list) p i h = held_low_in s m list list.link (present_at s list p i).link h

held_high : (s : SlotTable) (m : Memory) (present : Option PresentList) → s.present ≡ present → IsSound s → HoldsSlots s.slots m → HoldsSlots (high_for (waits_high present) s m).1.0.slots (high_for (waits_high present) s m).1.1
held_high s m None p i h = h
held_high s m (Some list) p i h = held_high_in s m list list.link i.size (present_at s list p i).link h

held_dummy : (s : SlotTable) (m : Memory) (t : TicketParts) (found : Result (Unit {0}) ListFault) → table.checked s t ≡ found → length s.slots ≡ 32 → HoldsSlots s.slots m → HoldsSlots (table.dummy_at found s m t).1.0.slots (table.dummy_at found s m t).1.1
held_dummy s m t (Err fault) e n h = h
held_dummy s m t (Ok done) e n h = held_quad s.slots m t.slot 16 (as_dummy (quad (slot_at m t.slot).orb 16)) h (checked_small s t n e) (omega arith)

held_status_at : (s : SlotTable) (m : Memory) (block : StatusBlock) (number : ℕ) (found : Option TicketParts) → waiting (slot_in s.slots number) ≡ found → length s.slots ≡ 32 → HoldsSlots s.slots m → HoldsSlots (table.status_at found number s m block).1.0.slots (table.status_at found number s m block).1.1
held_status_at s m block number None e n h = h
held_status_at s m block number (Some t) e n h =
    held_released (table.with_status s number t block).slots (passed_for s.present t.number) s.pinned m (length-set s.slots number (record (slot_in s.slots number) { state = state_after block }) ∙ n)
    (held_status s.slots m number block n (past_slots s.slots number t n e) (waiting_held (slot_in s.slots number) t e) h)

held_status_for : (s : SlotTable) (m : Memory) (block : StatusBlock) (found : Option ℕ) → length s.slots ≡ 32 → HoldsSlots s.slots m → HoldsSlots (table.status_for found s m block).1.0.slots (table.status_for found s m block).1.1
held_status_for s m block None n h = h
held_status_for s m block (Some number) n h = held_status_at s m block number (waiting (slot_in s.slots number)) refl n h

rested_free : (b : Bool) (slot : Slot) → is_free slot ≡ b → is_free (cond b slot (record slot { state = states.Resting })) ≡ b
rested_free true slot e = e
rested_free false slot e = refl

held_rested : (slots : List Slot) (m : Memory) → length slots ≡ 32 → HoldsSlots slots m → HoldsSlots (map rested slots) m
held_rested slots m n h = record {
  whole = h.whole;
  armed = λ number b.
      h.armed number b
      ∙ ap (λ (free : Bool). not free) (sym (rested_free (is_free (slot_in slots number)) (slot_in slots number) refl) ∙ ap (λ (slot : Slot). is_free slot) (sym (get_or-map rested slots number unused unused (omega arith))));
}

held_drop : (s : SlotTable) (m : Memory) (found : Option PresentList) → length s.slots ≡ 32 → HoldsSlots s.slots m → HoldsSlots (table.drop_for found s).1.slots m
held_drop s m None n h = h
held_drop s m (Some list) n h = held_rested s.slots m n h

held_pin : (s : SlotTable) (m : Memory) (t : TicketParts) (found : Result (Unit {0}) ListFault) → HoldsSlots s.slots m → HoldsSlots (table.pin_at found s t).1.slots m
held_pin s m t (Err fault) h = h
held_pin s m t (Ok done) h = h

held_unpin : (s : SlotTable) (m : Memory) (pinned : Option TicketParts) → length s.slots ≡ 32 → HoldsSlots s.slots m → HoldsSlots (table.unpin_for pinned s m).0.slots (table.unpin_for pinned s m).1
held_unpin s m None n h = h
held_unpin s m (Some t) n h = held_released s.slots s.present None m n h

held_call : (call : Call) (s : SlotTable) (m : Memory) → IsSound s → IsProper call → HoldsSlots s.slots m → HoldsSlots (left_by call s m).0.slots (left_by call s m).1
unfolding table.prepare_step table.low_step table.high_step table.dummy_step table.status_step table.drop_step table.free_all_step table.pin_step table.unpin_step
held_call (Prepare asked) s m i p h = held_prepare s m asked (may_prepare s) refl i.size p h
held_call LinkLow s m i p h = held_low s m s.present refl i h
held_call LinkHigh s m i p h = held_high s m s.present refl i h
held_call (MakeDummy t) s m i p h = held_dummy s m t (table.checked s t) refl i.size h
held_call (TakeStatus block) s m i p h = held_status_for s m block (slot_of block.orb) i.size h
held_call DropList s m i p h = held_drop s m s.present i.size h
held_call FreeAll s m i p h = held_freed s.slots m i.size h
held_call (Pin t) s m i p h = held_pin s m t (table.checked s t) h
held_call Unpin s m i p h = held_unpin s m s.pinned i.size h
held_call (TryWrite offset bytes) s m i p h = (stays_law.write s.slots m offset bytes h).held
held_call (Fill slot at bytes) s m i p h = (stays_law.fill s.slots m slot at bytes h p.0 p.1).held
held_call (SetQuad offset value) s m i p h =
    let e = p.exists in
    let b = p.begins in
    let n = p.ends in
    (stays_law.set s.slots m p.place offset value h (record { exists = e; begins = b; ends = n })).held

new_sound : IsSound new_table
new_sound = record { size = length-replicate 32 unused; lists = omega arith; present = tt }

pub run_sound : (calls : List Call) (quads : List ℕ) → IsSound (run calls quads).table
run_sound [] quads = new_sound
run_sound (call ∷ earlier) quads = sound_call call (run earlier quads).table (run earlier quads).memory (run_sound earlier quads)

pub run_held : (calls : List Call) (quads : List ℕ) → AreProper calls → HoldsSlots (run calls quads).table.slots (run calls quads).memory
run_held [] quads p = held_new quads
run_held (call ∷ earlier) quads p =
    held_call call (run earlier quads).table (run earlier quads).memory (run_sound earlier quads) p.0 (run_held earlier quads p.1)

pub held_law : HeldLaw
held_law = record { new_sound = new_sound; new_held = held_new; sound = sound_call; held = held_call; run_sound = run_sound; run_held = run_held }
