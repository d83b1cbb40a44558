-- The slots are gone through in turn, and those whose ORBs are over are freed and closed.
use Rattle.std.proofs.Common.{arith, ◌≡◌, refl, sym, ◌∙◌, ap, ℕ, ◌+◌, ◌<◌, ◌≤◌, zero, suc, [], ◌∷◌, ◌++◌, not, Bool, true, false, List, length, take, drop, map, get_or, Option, Some, None}
use Rattle.std.proofs.Math.ListN.{set}
use Rattle.std.proofs.lemmas.Bool.{cond-true, cond-false}
use Rattle.std.proofs.lemmas.List.{get_or-map, get_or_at, drop_more, length-map, length-take, set-get_or, take_all}
use Rattle.std.proofs.lemmas.List.Edits.{map_over_more}
use Rattle.bus_memory.specs.Memory.{Memory, slot_at, with_armed}
use Rattle.orb_list.specs.declared.list.PresentList.{PresentList}
use Rattle.orb_list.specs.declared.slot.Slot.{Slot}
use Rattle.orb_list.specs.Holds.{HoldsSlots}
use Rattle.orb_list.specs.Tickets.{TicketParts}
use Rattle.orb_list.specs.Table.{SlotTable, sweep, swept, slot_in, is_free, is_over, released, freed, closed, unused}
use Rattle.orb_list.proofs.Closed.{closed_free, closed_held, closed_none, closed_unarmed}

released_over : (list : PresentList) (pinned : Option TicketParts) (slot : Slot) → is_over list pinned slot ≡ true → released (Some list) pinned slot ≡ freed slot
unfolding released
released_over list pinned slot e = cond-true _ _ _ e

released_held : (list : PresentList) (pinned : Option TicketParts) (slot : Slot) → is_over list pinned slot ≡ false → released (Some list) pinned slot ≡ slot
unfolding released
released_held list pinned slot e = cond-false _ _ _ e

-- so many slots are done, and the others are as they were
abbrev pub done : PresentList → Option TicketParts → List Slot → ℕ → List Slot
done list pinned slots i = map (released (Some list) pinned) (take i slots) ++ drop i slots

abbrev pub all_done : PresentList → Option TicketParts → List Slot → List Slot
all_done list pinned slots = map (released (Some list) pinned) slots

-- one slot more is gone through, whose memory tells whether it is free
closed_next : (slots : List Slot) (m : Memory) (i : ℕ) → i < length slots → (slot_at m i).is_armed ≡ not (is_free (slot_in slots i)) → (b : Bool) → is_free (slot_in slots i) ≡ b → closed (take i slots) m ≡ closed (take (i + 1) slots) m
closed_next slots m i lt armed true f = closed_unarmed slots m i lt (armed ∙ ap (λ (b : Bool). not b) f)
closed_next slots m i lt armed false f = closed_held slots m i lt f

module _ (list : PresentList) (pinned : Option TicketParts) (slots others : List Slot) (i : ℕ) (lt : i < length slots) (h : others ≡ done list pinned slots i) where
  abbrev front : List Slot
  front = map (released (Some list) pinned) (take i slots)

  front_long : length front ≡ i
  front_long = length-map (take i slots) (released (Some list) pinned) ∙ omega (arith, length-take i slots)

  -- the slot that is next, whatever stands beyond the end
  pub next_read : (d : Slot) → get_or others i d ≡ slot_in slots i
  next_read d = ap (λ (l : List Slot). get_or l i d) (h ∙ ap (λ (l : List Slot). front ++ l) (drop_more slots i unused lt)) ∙ get_or_at front _ _ d i front_long

  one_done : set others i (released (Some list) pinned (slot_in others i)) ≡ done list pinned slots (i + 1)
  one_done = map_over_more (released (Some list) pinned) slots others i (slot_in others i) lt h (next_read unused ∙ sym (next_read (slot_in others i)))

  next_done : slot_in (all_done list pinned slots) i ≡ released (Some list) pinned (slot_in others i)
  next_done = get_or-map (released (Some list) pinned) slots i unused unused lt ∙ ap (λ (s : Slot). released (Some list) pinned s) (sym (next_read unused))

  all_long : i < length (all_done list pinned slots)
  all_long = omega (arith, lt, length-map slots (released (Some list) pinned))

  -- a slot whose ORB is over is freed, and closed
  pub over_done : (m image : Memory) → image ≡ closed (take i (all_done list pinned slots)) m → is_over list pinned (slot_in others i) ≡ true → (set others i (freed (slot_in others i)) ≡ done list pinned slots (i + 1)) × (with_armed image i false ≡ closed (take (i + 1) (all_done list pinned slots)) m)
  over_done m image g e =
      let now = released_over list pinned (slot_in others i) e in
      let free : is_free (slot_in (all_done list pinned slots) i) ≡ true = ap (λ (s : Slot). is_free s) (next_done ∙ now) in (
        ap (λ (s : Slot). set others i s) (sym now) ∙ one_done,
        ap (λ (x : Memory). with_armed x i false) g ∙ closed_free (all_done list pinned slots) m i all_long free,
      )

  -- every other slot stays, and is closed already where it is free
  pub held_done : (m image : Memory) → image ≡ closed (take i (all_done list pinned slots)) m → (slot_at m i).is_armed ≡ not (is_free (slot_in slots i)) → is_over list pinned (slot_in others i) ≡ false → (others ≡ done list pinned slots (i + 1)) × (image ≡ closed (take (i + 1) (all_done list pinned slots)) m)
  held_done m image g armed e =
      let now = released_held list pinned (slot_in others i) e in
      let same : slot_in (all_done list pinned slots) i ≡ slot_in slots i = next_done ∙ now ∙ next_read unused in
      let own : (slot_at m i).is_armed ≡ not (is_free (slot_in (all_done list pinned slots) i)) = armed ∙ ap (λ (s : Slot). not (is_free s)) (sym same) in (
        sym (set-get_or others i unused) ∙ ap (λ (s : Slot). set others i s) (sym now) ∙ one_done,
        g ∙ closed_next (all_done list pinned slots) m i all_long own (is_free (slot_in (all_done list pinned slots) i)) refl,
      )

-- without a list no ORB is over
none_over : (pinned : Option TicketParts) (slots : List Slot) → map (released None pinned) slots ≡ slots
unfolding released
none_over pinned [] = refl
none_over pinned (slot ∷ slots) = ap (λ (l : List Slot). slot ∷ l) (none_over pinned slots)

closed_front : (slots : List Slot) (m : Memory) (i : ℕ) → i ≤ length slots → ((k : ℕ) → k < length slots → (slot_at m k).is_armed ≡ not (is_free (slot_in slots k))) → closed (take i slots) m ≡ m
closed_front slots m zero h f = closed_none slots m
closed_front slots m (suc i) h f =
    let lt : i < length slots = omega (arith, h) in
    let n : suc i ≡ i + 1 = omega arith in
    ap (λ (k : ℕ). closed (take k slots) m) n
    ∙ sym (closed_next slots m i lt (f i lt) (is_free (slot_in slots i)) refl)
    ∙ closed_front slots m i (omega (arith, h)) f

-- a memory that holds slots has closed the free ones
closed_already : (slots : List Slot) (m : Memory) → length slots ≡ 32 → HoldsSlots slots m → closed slots m ≡ m
closed_already slots m long h =
    ap (λ (l : List Slot). closed l m) (sym (take_all (length slots) slots (omega arith)))
    ∙ closed_front slots m (length slots) (omega arith) (λ k lt. h.armed k (omega (arith, lt, long)))

-- so nothing is swept then
pub unswept : (s : SlotTable) (m : Memory) → s.present ≡ None → length s.slots ≡ 32 → HoldsSlots s.slots m → (s, m) ≡ sweep s m
unswept s m none long h =
    let same : map (released s.present s.pinned) s.slots ≡ s.slots = ap (λ (p : Option PresentList). map (released p s.pinned) s.slots) none ∙ none_over s.pinned s.slots in
    let closed_same : closed (swept s).slots m ≡ m = ap (λ (l : List Slot). closed l m) same ∙ closed_already s.slots m long h in
    ap (λ (l : List Slot). (record s { slots = l }, m)) (sym same) ∙ ap (λ (x : Memory). (swept s, x)) (sym closed_same)
