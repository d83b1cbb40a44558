-- Slots whose ORBs are over become free, in the table and in the run terms.
use Rattle.sbp_world.proofs.Words.Std.{arith, ◌≡◌, refl, sym, ◌∙◌, ap, subst, ℕ, suc, ◌<◌, ◌&&◌, ◌||◌, not, nat_lt, Bool, true, false, cond, List, [], ◌∷◌, length, map, Option, Some, None, length-map}
use Rattle.sbp_world.proofs.Words.Wire.{Moment}
use Rattle.sbp_world.proofs.Words.Initiator.{PresentList, SlotState, Slot, TicketParts, is_ticket, SlotTable, slot_in, unused, is_free, next_is_linked, over_in, is_over, released, waiting}
use Rattle.sbp_world.proofs.Words.Laws.{TakenStatus, Row}
use Rattle.sbp_world.proofs.Words.World.{name_in, row, ListTerms, terms_at, over_at, IfLast, StateFits, Waits, IfList, IfHeld, Fits, Frees, over_now, Swept, Rows}
use Rattle.std.proofs.lemmas.List.{get_or-map}
use Rattle.orb_list.specs.declared.slot.SlotState.TheVariants as states
use Rattle.orb_list.specs.Table as table
use Rattle.orb_list.proofs.Tied.{ticket_itself, released_last, released_waits}
use Rattle.sbp_laws.specs.Lists as terms
use Rattle.sbp_world.proofs.Hosts.Over.{settles}

-- A term of the run frees a slot so.
pub frees : (past : List Moment) (i : ℕ) → Frees (over_at (terms_at past i)) (terms.freed past i)
frees past i = record { of_vacant = refl; of_resting = refl; of_used = λ one. refl }

pub map_at : (f : Slot → Slot) (slots : List Slot) (k : ℕ) → length slots ≡ 32 → k < 32 → slot_in (map f slots) k ≡ f (slot_in slots k)
map_at f slots k l b = get_or-map f slots k unused unused (omega arith)

-- ---- what is released keeps all but its state

-- a slot that is pinned is not released
pinned_stays : (list : PresentList) (p : TicketParts) (state : SlotState) → over_in list (Some p) state (Some p) ≡ false
pinned_stays list p states.Free = refl
pinned_stays list p states.Waiting = refl
pinned_stays list p states.Resting = refl
pinned_stays list p (states.Taken had_next) =
    let e : not (is_ticket p p) ≡ false = ap not (ticket_itself p) in
    ap (λ c. next_is_linked list p.number && (had_next || nat_lt p.number list.passed) && c) e
    ∙ and_right_false (next_is_linked list p.number) (had_next || nat_lt p.number list.passed)
  where
    and_right_false : (a b : Bool) → a && b && false ≡ false
    and_right_false true true = refl
    and_right_false true false = refl
    and_right_false false b = refl

held_slot : (present : Option PresentList) (p : TicketParts) (slot : Slot) → slot.last ≡ Some p → is_free slot ≡ false → is_free (released present (Some p) slot) ≡ false
unfolding released
held_slot None p slot e h = h
held_slot (Some list) p slot e h =
    let o : is_over list (Some p) slot ≡ false = ap (λ x. over_in list (Some p) slot.state x) e ∙ pinned_stays list p slot.state in
    ap (λ c. is_free (cond c (record slot { state = states.Free }) slot)) o ∙ h

held_released : (slots : List Slot) (present : Option PresentList) (pinned : Option TicketParts) → length slots ≡ 32 → IfHeld slots pinned → IfHeld (map (released present pinned) slots) pinned
held_released slots present None z h = tt
held_released slots present (Some p) z h = record {
  small = h.small;
  last = ap (λ (x : Slot). x.last) (map_at (released present (Some p)) slots p.slot z h.small) ∙ (released_last present (Some p) (slot_in slots p.slot) ∙ h.last);
  held = ap is_free (map_at (released present (Some p)) slots p.slot z h.small) ∙ held_slot present p (slot_in slots p.slot) h.last h.held;
}

state_cond : (b : Bool) (present : Option PresentList) (taken : ℕ → ℕ → Option TakenStatus) (slot : Slot) → StateFits present taken slot.state slot.last → StateFits present taken (cond b (record slot { state = states.Free }) slot).state (cond b (record slot { state = states.Free }) slot).last
state_cond true present taken slot f = tt
state_cond false present taken slot f = f

state_released : (present other : Option PresentList) (pinned : Option TicketParts) (taken : ℕ → ℕ → Option TakenStatus) (slot : Slot) → StateFits other taken slot.state slot.last → StateFits other taken (released present pinned slot).state (released present pinned slot).last
unfolding released
state_released None other pinned taken slot f = f
state_released (Some list) other pinned taken slot f = state_cond (is_over list pinned slot) other taken slot f

waits_released : (slots : List Slot) (present : Option PresentList) (pinned : Option TicketParts) (list number : ℕ) → length slots ≡ 32 → Waits slots list number → Waits (map (released present pinned) slots) list number
waits_released slots present pinned list number z w = record {
  ticket = w.ticket;
  of_list = w.of_list;
  numbered = w.numbered;
  small = w.small;
  waits = ap waiting (map_at (released present pinned) slots w.ticket.slot z w.small) ∙ (released_waits present pinned (slot_in slots w.ticket.slot) ∙ w.waits);
}

list_released : (t : ListTerms) (slots : List Slot) (begun : ℕ) (present other : Option PresentList) (pinned : Option TicketParts) → length slots ≡ 32 → IfList t slots begun other → IfList t (map (released present pinned) slots) begun other
list_released t slots begun present None pinned z l = tt
list_released t slots begun present (Some list) pinned z l = record {
  below = l.below;
  appended = l.appended;
  linked = l.linked;
  lowered = l.lowered;
  passed = l.passed;
  waits = λ number b e. waits_released slots present pinned list.tail.list number z (l.waits number b e);
}

pub swept_fits : (t : ListTerms) (s : SlotTable) → Fits t s → Fits t (table.swept s)
swept_fits t s f = record {
  size = length-map s.slots (released s.present s.pinned) ∙ f.size;
  present = f.present;
  begun = f.begun;
  pinned = f.pinned;
  held = held_released s.slots s.present s.pinned f.size f.held;
  prepared = λ k b. f.prepared k b ∙ ap name_in (sym (last_same k b));
  last = λ k b. subst (IfLast s.lists t.appended t.place k) (sym (last_same k b)) (f.last k b);
  states = λ k b. subst (λ (x : Slot). StateFits s.present t.taken x.state x.last) (sym (map_at (released s.present s.pinned) s.slots k f.size b)) (state_released s.present s.present s.pinned t.taken (slot_in s.slots k) (f.states k b));
  list = list_released t s.slots s.lists s.present s.present s.pinned f.size f.list;
  to_come = f.to_come;
}
  where
    last_same : (k : ℕ) → k < 32 → (slot_in (map (released s.present s.pinned) s.slots) k).last ≡ (slot_in s.slots k).last
    last_same k b = ap (λ (x : Slot). x.last) (map_at (released s.present s.pinned) s.slots k f.size b) ∙ released_last s.present s.pinned (slot_in s.slots k)

-- ---- none that is over is left

over_gone : (list : PresentList) (pinned : Option TicketParts) (slot : Slot) (b : Bool) → is_over list pinned slot ≡ b → is_over list pinned (cond b (record slot { state = states.Free }) slot) ≡ false
over_gone list pinned slot true e = refl
over_gone list pinned slot false e = e

released_over : (present : Option PresentList) (pinned : Option TicketParts) (slot : Slot) → over_now present pinned (released present pinned slot) ≡ false
unfolding released
released_over None pinned slot = refl
released_over (Some list) pinned slot = over_gone list pinned slot (is_over list pinned slot) refl

pub is_swept : (s : SlotTable) → length s.slots ≡ 32 → Swept (table.swept s)
is_swept s z k b = ap (over_now s.present s.pinned) (map_at (released s.present s.pinned) s.slots k z b) ∙ released_over s.present s.pinned (slot_in s.slots k)

stays : (present : Option PresentList) (pinned : Option TicketParts) (slot : Slot) → over_now present pinned slot ≡ false → released present pinned slot ≡ slot
unfolding released
stays None pinned slot e = refl
stays (Some list) pinned slot e = ap (λ c. cond c (record slot { state = states.Free }) slot) e

all_stay : (present : Option PresentList) (pinned : Option TicketParts) (slots : List Slot) → ((k : ℕ) → k < length slots → over_now present pinned (slot_in slots k) ≡ false) → map (released present pinned) slots ≡ slots
all_stay present pinned [] e = refl
all_stay present pinned (slot ∷ slots) e =
    ap (λ x. x ∷ map (released present pinned) slots) (stays present pinned slot (e 0 (omega arith)))
    ∙ ap (λ xs. slot ∷ xs) (all_stay present pinned slots (λ k b. e (suc k) (omega arith)))

-- ---- behind a note the slots are swept

module _ (t : ListTerms) (s : SlotTable) (rows : List Row) (g : Row → Row) (f : Fits t s) (same : rows ≡ map row s.slots) (h : Frees (over_at t) g) where
  pub closes : Rows t (map g rows) (table.swept s)
  closes = record {
    fits = swept_fits t s f;
    rows_are = ap (map g) same ∙ settles t s f g h;
    swept = is_swept s f.size;
  }

  pub closes_still : Swept s → Rows t (map g rows) s
  closes_still n =
      let z = f.size in
      let e : map (released s.present s.pinned) s.slots ≡ s.slots = all_stay s.present s.pinned s.slots (λ k b. n k (omega arith)) in
      record {
        fits = f;
        rows_are = ap (map g) same ∙ (settles t s f g h ∙ ap (map row) e);
        swept = n;
      }

-- a note that says nothing of them leaves them
pub rests : (t : ListTerms) (s : SlotTable) (rows : List Row) (g : Row → Row) → Frees (over_at t) g → Rows t rows s → Rows t (map g rows) s
rests t s rows g h r = closes_still t s rows g r.fits r.rows_are h r.swept
