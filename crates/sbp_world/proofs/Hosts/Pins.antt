-- A slot is pinned, and the pin ends.
use Rattle.sbp_world.proofs.Words.Std.{◌≡◌, refl, sym, ◌∙◌, ap, ◌+◌, ◌<◌, ◌&&◌, ◌||◌, not, nat_lt, Bool, true, false, cond, List, map, Option, Some, None}
use Rattle.sbp_world.proofs.Words.Initiator.{PresentList, SlotState, Slot, TicketParts, is_ticket, SlotTable, slot_in, is_free, waiting}
use Rattle.sbp_world.proofs.Words.Laws.{Orb, Row}
use Rattle.sbp_world.proofs.Words.World.{name, name_in, ListTerms, over_at, IfList, IfHeld, Fits, Frees, over_now, Rows}
use Rattle.orb_list.specs.declared.slot.SlotState.TheVariants as states
use Rattle.orb_list.specs.Table as table
use Rattle.orb_list.proofs.Tied.{free_waits, waits_last}
use Rattle.sbp_world.proofs.Hosts.Sweeps.{closes, closes_still}

abbrev pub pin_terms : Bool → Option Orb → ListTerms → ListTerms
pin_terms own pinned t = record t { pinned = cond own pinned t.pinned }

abbrev pub pinned_table : SlotTable → Option TicketParts → SlotTable
pinned_table s pinned = record s { pinned = pinned; calls = s.calls + 1 }

module _ (t : ListTerms) (s : SlotTable) (f : Fits t s) (pinned : Option TicketParts) (h : IfHeld s.slots pinned) where
  pinned_list : (present : Option PresentList) → IfList t s.slots s.lists present → IfList (pin_terms true (name_in pinned) t) s.slots s.lists present
  pinned_list None l = tt
  pinned_list (Some list) l = record { below = l.below; appended = l.appended; linked = l.linked; lowered = l.lowered; passed = l.passed; waits = l.waits }

  pinned_fits : Fits (pin_terms true (name_in pinned) t) (pinned_table s pinned)
  pinned_fits = record {
    size = f.size;
    present = f.present;
    begun = f.begun;
    pinned = refl;
    held = h;
    prepared = f.prepared;
    last = f.last;
    states = f.states;
    list = pinned_list s.present f.list;
    to_come = record { appended = f.to_come.appended; linked = f.to_come.linked; lowered = f.to_come.lowered; passed = f.to_come.passed; taken = f.to_come.taken };
  }

and_off : (x q : Bool) → x && true ≡ false → x && q ≡ false
and_off true q e = cc
and_off false q e = refl

pin_over : (list : PresentList) (t : TicketParts) (state : SlotState) (last : Option TicketParts) → table.over_in list None state last ≡ false → table.over_in list (Some t) state last ≡ false
pin_over list t states.Free last e = refl
pin_over list t states.Waiting last e = refl
pin_over list t states.Resting last e = refl
pin_over list t (states.Taken h) None e = refl
pin_over list t (states.Taken h) (Some v) e = and_off (table.next_is_linked list v.number && (h || nat_lt v.number list.passed)) (not (is_ticket t v)) (assoc (table.next_is_linked list v.number) (h || nat_lt v.number list.passed) e)
  where
    assoc : (a b : Bool) → a && b && true ≡ false → (a && b) && true ≡ false
    assoc true true e = cc
    assoc true false e = refl
    assoc false b e = refl

pin_now : (p : Option PresentList) (t : TicketParts) (slot : Slot) → over_now p None slot ≡ false → over_now p (Some t) slot ≡ false
pin_now None t slot e = refl
pin_now (Some list) t slot e = pin_over list t slot.state slot.last e

-- an ORB that waits holds its slot
waits_held : (slots : List Slot) (u : TicketParts) → u.slot < 32 → waiting (slot_in slots u.slot) ≡ Some u → IfHeld slots (Some u)
waits_held slots u b w = record { small = b; last = waits_last (slot_in slots u.slot) u w; held = not_free (is_free (slot_in slots u.slot)) refl }
  where
    not_free : (c : Bool) → is_free (slot_in slots u.slot) ≡ c → c ≡ false
    not_free false e = refl
    not_free true e = absurd (free_waits (slot_in slots u.slot) u e w)

pub pinned_rows : (t : ListTerms) (rows : List Row) (s : SlotTable) (u : TicketParts) (g : Row → Row) → Rows t rows s → s.pinned ≡ None → u.slot < 32 → waiting (slot_in s.slots u.slot) ≡ Some u → Frees (over_at (pin_terms true (Some (name u)) t)) g → Rows (pin_terms true (Some (name u)) t) (map g rows) (pinned_table s (Some u))
pinned_rows t rows s u g r n b w h =
    closes_still (pin_terms true (Some (name u)) t) (pinned_table s (Some u)) rows g (pinned_fits t s r.fits (Some u) (waits_held s.slots u b w)) r.rows_are h
    (λ k c. pin_now s.present u (slot_in s.slots k) (ap (λ q. over_now s.present q (slot_in s.slots k)) (sym n) ∙ r.swept k c))

pub unpinned_rows : (t : ListTerms) (rows : List Row) (s : SlotTable) (g : Row → Row) → Rows t rows s → Frees (over_at (pin_terms true None t)) g → Rows (pin_terms true None t) (map g rows) (table.swept (pinned_table s None))
unpinned_rows t rows s g r h = closes (pin_terms true None t) (pinned_table s None) rows g (pinned_fits t s r.fits None tt) r.rows_are h
