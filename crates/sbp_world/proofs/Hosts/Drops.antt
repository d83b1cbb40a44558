-- The present list is dropped, and a generation frees every slot.
use Rattle.sbp_world.proofs.Words.Std.{◌≡◌, refl, sym, ◌∙◌, ap, subst, ℕ, ◌+◌, ◌<◌, Bool, true, false, cond, List, [], ◌∷◌, length, map, replicate, Option, Some, None, length-map}
use Rattle.sbp_world.proofs.Words.Initiator.{SlotState, Slot, TicketParts, SlotTable, slot_in, is_free, rested}
use Rattle.sbp_world.proofs.Words.Laws.{TakenStatus, Row, vacant, put_to_rest, new_slots}
use Rattle.sbp_world.proofs.Words.World.{name_in, row, row_by, ListTerms, over_at, IfLast, StateFits, IfHeld, Fits, Frees, Rows}
use Rattle.orb_list.specs.declared.slot.SlotState.TheVariants as states
use Rattle.orb_list.specs.Table as table
use Rattle.orb_list.proofs.Tied.{rested_last}
use Rattle.sbp_world.proofs.Hosts.Sweeps.{map_at, closes_still}

-- the terms behind a drop, and behind a generation that is seen
abbrev pub drop_terms : Bool → ListTerms → ListTerms
drop_terms own t = record t { present = cond own None t.present }

-- ---- a drop

rest_row : (state : SlotState) (last : Option TicketParts) → put_to_rest (row_by state last) ≡ row (rested (record { state = state; last = last }))
rest_row states.Free last = refl
rest_row states.Resting last = refl
rest_row states.Waiting None = refl
rest_row states.Waiting (Some u) = refl
rest_row (states.Taken had_next) None = refl
rest_row (states.Taken had_next) (Some u) = refl

rest_rows : (slots : List Slot) → map put_to_rest (map row slots) ≡ map row (map rested slots)
rest_rows [] = refl
rest_rows (slot ∷ slots) =
    ap (λ x. x ∷ map put_to_rest (map row slots)) (rest_row slot.state slot.last) ∙ ap (λ xs. row (rested slot) ∷ xs) (rest_rows slots)

rest_state : (taken : ℕ → ℕ → Option TakenStatus) (state : SlotState) (last : Option TicketParts) → StateFits None taken (rested (record { state = state; last = last })).state (rested (record { state = state; last = last })).last
rest_state taken states.Free last = tt
rest_state taken states.Resting last = tt
rest_state taken states.Waiting last = tt
rest_state taken (states.Taken had_next) last = tt

rest_held : (slot : Slot) → is_free slot ≡ false → is_free (rested slot) ≡ false
rest_held slot e = ap (λ c. is_free (cond c slot (record slot { state = states.Resting }))) e

abbrev pub dropped_table : SlotTable → SlotTable
dropped_table s = record s { slots = map rested s.slots; present = None; calls = s.calls + 1 }

module _ (t : ListTerms) (s : SlotTable) (f : Fits t s) where
  rest_last : (k : ℕ) → k < 32 → (slot_in (map rested s.slots) k).last ≡ (slot_in s.slots k).last
  rest_last k b = ap (λ (x : Slot). x.last) (map_at rested s.slots k f.size b) ∙ rested_last (is_free (slot_in s.slots k)) (slot_in s.slots k)

  held_dropped : (pinned : Option TicketParts) → IfHeld s.slots pinned → IfHeld (map rested s.slots) pinned
  held_dropped None h = tt
  held_dropped (Some p) h = record {
    small = h.small;
    last = rest_last p.slot h.small ∙ h.last;
    held = ap is_free (map_at rested s.slots p.slot f.size h.small) ∙ rest_held (slot_in s.slots p.slot) h.held;
  }

  pub dropped_fits : Fits (drop_terms true t) (dropped_table s)
  dropped_fits = record {
    size = length-map s.slots rested ∙ f.size;
    present = refl;
    begun = f.begun;
    pinned = f.pinned;
    held = held_dropped s.pinned f.held;
    prepared = λ k b. f.prepared k b ∙ ap name_in (sym (rest_last k b));
    last = λ k b. subst (IfLast s.lists t.appended t.place k) (sym (rest_last k b)) (f.last k b);
    states = λ k b. subst (λ (x : Slot). StateFits None t.taken x.state x.last) (sym (map_at rested s.slots k f.size b)) (rest_state t.taken (slot_in s.slots k).state (slot_in s.slots k).last);
    list = tt;
    to_come = record { appended = f.to_come.appended; linked = f.to_come.linked; lowered = f.to_come.lowered; passed = f.to_come.passed; taken = f.to_come.taken };
  }

pub dropped_rows : (t : ListTerms) (rows : List Row) (s : SlotTable) (g : Row → Row) → Rows t rows s → Frees (over_at (drop_terms true t)) g → Rows (drop_terms true t) (map g (map put_to_rest rows)) (dropped_table s)
dropped_rows t rows s g r h =
    closes_still (drop_terms true t) (dropped_table s) (map put_to_rest rows) g (dropped_fits t s r.fits) (ap (map put_to_rest) r.rows_are ∙ rest_rows s.slots) h (λ k b. refl)

-- ---- every slot is freed

-- the terms behind a later generation, with the list that was dropped
abbrev pub seen_terms : ListTerms → ListTerms
seen_terms t = record t { present = None; pinned = None }

freed_rows : (slots : List Slot) → map row (map table.freed slots) ≡ replicate (length slots) vacant
freed_rows [] = refl
freed_rows (slot ∷ slots) = ap (λ xs. vacant ∷ xs) (freed_rows slots)

pub freed_fits : (t : ListTerms) (s : SlotTable) → Fits t s → Rows (seen_terms t) new_slots (table.all_freed s)
freed_fits t s f = record {
  fits = record {
    size = length-map s.slots table.freed ∙ f.size;
    present = refl;
    begun = f.begun;
    pinned = refl;
    held = tt;
    prepared = λ k b. f.prepared k b ∙ ap name_in (sym (freed_last k b));
    last = λ k b. subst (IfLast s.lists t.appended t.place k) (sym (freed_last k b)) (f.last k b);
    states = λ k b. subst (λ (x : Slot). StateFits None t.taken x.state x.last) (sym (map_at table.freed s.slots k f.size b)) tt;
    list = tt;
    to_come = record { appended = f.to_come.appended; linked = f.to_come.linked; lowered = f.to_come.lowered; passed = f.to_come.passed; taken = f.to_come.taken };
  };
  rows_are = sym (freed_rows s.slots ∙ ap (λ n. replicate n vacant) f.size);
  swept = λ k b. refl;
}
  where
    freed_last : (k : ℕ) → k < 32 → (slot_in (map table.freed s.slots) k).last ≡ (slot_in s.slots k).last
    freed_last k b = ap (λ (x : Slot). x.last) (map_at table.freed s.slots k f.size b)
