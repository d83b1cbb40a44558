-- A slot that no ORB was prepared in is free.
use Rattle.sbp_world.proofs.Words.Std.{◌≡◌, refl, sym, ◌∙◌, ℕ, zero, suc, Bool, true, false, cond, List, [], ◌∷◌, map, replicate, Option, Some, None, Result, Ok, Err}
use Rattle.sbp_world.proofs.Words.Initiator.{Memory, slot_of, StatusBlock, ListFault, Linking, PresentList, SlotState, Slot, Asked, Prepare, LinkLow, LinkHigh, MakeDummy, TakeStatus, DropList, FreeAll, Pin, Unpin, TryWrite, Fill, SetQuad, left_by, run, SlotTable, freed, is_free, is_over, may_prepare, released, rested, slot_in, state_after, unused, waiting, waits_in, TicketParts}
use Rattle.std.proofs.Common.{slice_set}
use Rattle.orb_list.specs.declared.list.Link.TheVariants as links
use Rattle.orb_list.specs.declared.slot.SlotState.TheVariants as states
use Rattle.orb_list.specs.Runs.{Call}
use Rattle.orb_list.specs.Table as table

-- a slot has an ORB, or is free
abbrev pub HasLast : Slot → Type 0
HasLast slot = slot.last ≡ None → is_free slot ≡ true

abbrev pub AllLast : List Slot → Type 0
AllLast [] = Unit {0}
AllLast (slot ∷ slots) = HasLast slot × AllLast slots

all_map : (f : Slot → Slot) → ((slot : Slot) → HasLast slot → HasLast (f slot)) → (slots : List Slot) → AllLast slots → AllLast (map f slots)
all_map f h [] a = tt
all_map f h (slot ∷ slots) a = (h slot a.0, all_map f h slots a.1)

all_set : (slots : List Slot) (k : ℕ) (x : Slot) → AllLast slots → HasLast x → AllLast (slice_set slots k x)
all_set [] k x a h = tt
all_set (slot ∷ slots) zero x a h = (h, a.1)
all_set (slot ∷ slots) (suc k) x a h = (a.0, all_set slots k x a.1 h)

pub all_at : (slots : List Slot) (k : ℕ) → AllLast slots → HasLast (slot_in slots k)
all_at [] k a = λ e. refl
all_at (slot ∷ slots) zero a = a.0
all_at (slot ∷ slots) (suc k) a = all_at slots k a.1

all_new : (n : ℕ) → AllLast (replicate n unused)
all_new zero = tt
all_new (suc n) = ((λ e. refl), all_new n)

-- ---- what a slot becomes

freed_last : (slot : Slot) → HasLast slot → HasLast (freed slot)
freed_last slot h e = refl

over_last : (b : Bool) (slot : Slot) → HasLast slot → HasLast (cond b (freed slot) slot)
over_last true slot h = λ e. refl
over_last false slot h = h

released_last : (present : Option PresentList) (pinned : Option TicketParts) (slot : Slot) → HasLast slot → HasLast (released present pinned slot)
unfolding released
released_last None pinned slot h = h
released_last (Some list) pinned slot h = over_last (is_over list pinned slot) slot h

rested_last : (slot : Slot) → HasLast slot → HasLast (rested slot)
rested_last slot h = by_free (is_free slot) refl
  where
    by_free : (b : Bool) → is_free slot ≡ b → HasLast (cond b slot (record slot { state = states.Resting }))
    by_free true e = h
    by_free false e = λ l. absurd (differ (sym (h l) ∙ e))
      where
        differ : true ≡ false → ⊥
        differ e = cc

-- one that waits has an ORB
waits_last : (state : SlotState) (last : Option TicketParts) (t : TicketParts) → waits_in state last ≡ Some t → last ≡ None → ⊥
waits_last states.Waiting None t w e = absurd (differ w)
  where
    differ : None ≡ Some t → ⊥
    differ e = cc
waits_last states.Waiting (Some u) t w e = absurd (differ e)
  where
    differ : Some u ≡ None → ⊥
    differ e = cc
waits_last states.Free last t w e = absurd (differ w)
  where
    differ : None ≡ Some t → ⊥
    differ e = cc
waits_last (states.Taken had_next) last t w e = absurd (differ w)
  where
    differ : None ≡ Some t → ⊥
    differ e = cc
waits_last states.Resting last t w e = absurd (differ w)
  where
    differ : None ≡ Some t → ⊥
    differ e = cc

-- ---- what a call leaves

module _ (s : SlotTable) (m : Memory) (a : AllLast s.slots) where
  swept_last : (x : SlotTable) → AllLast x.slots → AllLast (table.swept x).slots
  swept_last x b = all_map (released x.present x.pinned) (released_last x.present x.pinned) x.slots b

  prepares : (asked : Asked) (r : Result ℕ ListFault) → AllLast (table.prepare_at r s m asked).1.0.slots
  prepares asked (Err fault) = a
  prepares asked (Ok slot) =
      let t = table.next_ticket s slot asked.login in
      all_set s.slots t.slot (record { state = states.Waiting; last = Some t }) a (λ e. absurd (differ t e))
    where
      differ : (t : TicketParts) → Some t ≡ None → ⊥
      differ t e = cc

  lows : (found : Option Linking) → AllLast (table.low_for found s m).1.0.slots
  lows None = a
  lows (Some linking) = a

  highs : (found : Option Linking) → AllLast (table.high_for found s m).1.0.slots
  highs None = a
  highs (Some linking) = swept_last (table.with_link s links.Done) a

  dummies : (t : TicketParts) (r : Result (Unit {0}) ListFault) → AllLast (table.dummy_at r s m t).1.0.slots
  dummies t (Err fault) = a
  dummies t (Ok done) = a

  status_taken : (number : ℕ) (block : StatusBlock) (found : Option TicketParts) → waiting (slot_in s.slots number) ≡ found → AllLast (table.status_at found number s m block).1.0.slots
  status_taken number block None e = a
  status_taken number block (Some t) e =
      let slot = slot_in s.slots number in
      swept_last (table.with_status s number t block)
      (all_set s.slots number (record slot { state = state_after block }) a (λ l. absurd (waits_last slot.state slot.last t e l)))

  statuses : (block : StatusBlock) (found : Option ℕ) → AllLast (table.status_for found s m block).1.0.slots
  statuses block None = a
  statuses block (Some number) = status_taken number block (waiting (slot_in s.slots number)) refl

  drops : (present : Option PresentList) → AllLast (table.drop_for present s).1.slots
  drops None = a
  drops (Some list) = all_map rested rested_last s.slots a

  pins : (t : TicketParts) (r : Result (Unit {0}) ListFault) → AllLast (table.pin_at r s t).1.slots
  pins t (Err fault) = a
  pins t (Ok done) = a

  unpins : (pinned : Option TicketParts) → AllLast (table.unpin_for pinned s m).0.slots
  unpins None = a
  unpins (Some t) = swept_last (table.counted (record s { pinned = None })) a

  call_last : (call : Call) → AllLast (left_by call s m).0.slots
  unfolding table.prepare_step table.low_step table.high_step table.dummy_step table.status_step table.drop_step table.free_all_step table.pin_step table.unpin_step
  call_last (Prepare asked) = prepares asked (may_prepare s)
  call_last LinkLow = lows (table.waits_low s.present)
  call_last LinkHigh = highs (table.waits_high s.present)
  call_last (MakeDummy t) = dummies t (table.checked s t)
  call_last (TakeStatus block) = statuses block (slot_of block.orb)
  call_last DropList = drops s.present
  call_last FreeAll = all_map freed freed_last s.slots a
  call_last (Pin t) = pins t (table.checked s t)
  call_last Unpin = unpins s.pinned
  call_last (TryWrite offset bytes) = a
  call_last (Fill slot at bytes) = a
  call_last (SetQuad offset value) = a

pub run_last : (calls : List Call) (quads : List ℕ) → AllLast (run calls quads).table.slots
run_last [] quads = all_new 32
run_last (call ∷ earlier) quads = let r = run earlier quads in call_last r.table r.memory (run_last earlier quads) call
