-- What each step keeps of a table.
use Rattle.std.proofs.Common.{arith, ◌≡◌, refl, sym, ◌∙◌, ap, subst, ℕ, ◌+◌, ◌<◌, ◌==◌, nat_eq, nat_lt, Bool, true, false, cond, List, length, map, get_or, slice_set, Option, Some, None}
use Rattle.std.proofs.lemmas.Bool.Decides.{nat_tests}
use Rattle.std.proofs.lemmas.Grind.{common_steps}
use Rattle.std.proofs.lemmas.List.{get_or-map, get_or_default, length-map}
use Rattle.std.proofs.lemmas.List.Quantifiers.{position-Some}
use Rattle.orb_list.specs.declared.list.Link.{Link}
use Rattle.orb_list.specs.declared.list.Link.TheVariants as links
use Rattle.orb_list.specs.declared.list.PresentList.{PresentList}
use Rattle.orb_list.specs.declared.slot.SlotState.{SlotState}
use Rattle.orb_list.specs.declared.slot.SlotState.TheVariants as states
use Rattle.orb_list.specs.declared.slot.Slot.{Slot}
use Rattle.orb_layout.specs.declared.status.StatusBlock.{StatusBlock}
use Rattle.orb_layout.specs.StatusBlocks.{row_of}
use Rattle.orb_list.specs.Tickets.{TicketParts}
use Rattle.orb_list.specs.Table.{SlotTable, unused, slot_in, free_state, is_free, is_done, next_is_linked, over_in, is_over, released, passed_for, state_after, extended, list_number, orb_number, lowest}
use Rattle.orb_list.specs.Holds.{IsIn, HoldsLink, HoldsPresent, IsSound}

pub slot_after : (slots : List Slot) (k j : ℕ) (x : Slot) → k < length slots → slot_in (slice_set slots k x) j ≡ cond (nat_eq j k) x (slot_in slots j)
slot_after slots k j x h = grind (arith, common_steps)

-- A slot that is changed keeps its ORB and is not freed.
in_changed : (slots : List Slot) (k j : ℕ) (t : TicketParts) (x : Slot) (b : Bool) → nat_eq j k ≡ b → k < length slots → x.last ≡ (slot_in slots k).last → is_free x ≡ false → IsIn slots j t → IsIn (slice_set slots k x) j t
in_changed slots k j t x true e h l f i =
    let n : j ≡ k = grind (arith, nat_tests) in
    let s : slot_in (slice_set slots k x) j ≡ x = slot_after slots k j x h ∙ rw e refl in
    record {
      below = i.below;
      last = ap (λ (y : Slot). y.last) s ∙ l ∙ ap (λ (m : ℕ). (slot_in slots m).last) (sym n) ∙ i.last;
      held = ap (λ (y : Slot). is_free y) s ∙ f;
    }
in_changed slots k j t x false e h l f i =
    let s : slot_in (slice_set slots k x) j ≡ slot_in slots j = slot_after slots k j x h ∙ rw e refl in
    record { below = i.below; last = ap (λ (y : Slot). y.last) s ∙ i.last; held = ap (λ (y : Slot). is_free y) s ∙ i.held }

-- A free slot that is taken leaves the others.
in_other : (slots : List Slot) (k j : ℕ) (t : TicketParts) (x : Slot) → k < length slots → is_free (slot_in slots k) ≡ true → IsIn slots j t → IsIn (slice_set slots k x) j t
in_other slots k j t x h f i =
    let apart : j ≡ k → ⊥ = λ (n : j ≡ k). let g = i.held in let e : is_free (slot_in slots j) ≡ true = ap (λ (m : ℕ). is_free (slot_in slots m)) n ∙ f in cc in
    let b : nat_eq j k ≡ false = grind (arith, nat_tests) in
    let s : slot_in (slice_set slots k x) j ≡ slot_in slots j = slot_after slots k j x h ∙ rw b refl in
    record { below = i.below; last = ap (λ (y : Slot). y.last) s ∙ i.last; held = ap (λ (y : Slot). is_free y) s ∙ i.held }

link_changed : (slots : List Slot) (k : ℕ) (x : Slot) (tail : TicketParts) (link : Link) → k < length slots → x.last ≡ (slot_in slots k).last → is_free x ≡ false → HoldsLink slots tail link → HoldsLink (slice_set slots k x) tail link
link_changed slots k x tail links.Done h l f i = tt
link_changed slots k x tail (links.Low b) h l f i =
    record { orb = i.orb; in_slot = in_changed slots k b i.orb x _ refl h l f i.in_slot; list = i.list; before = i.before }
link_changed slots k x tail (links.High b) h l f i =
    record { orb = i.orb; in_slot = in_changed slots k b i.orb x _ refl h l f i.in_slot; list = i.list; before = i.before }

-- The slot of an ORB whose next is not linked is not released.
not_over : (list : PresentList) (pinned : Option TicketParts) (state : SlotState) (t : TicketParts) → next_is_linked list t.number ≡ false → over_in list pinned state (Some t) ≡ false
not_over list pinned states.Free t e = refl
not_over list pinned states.Waiting t e = refl
not_over list pinned (states.Taken h) t e = rw e refl
not_over list pinned states.Resting t e = refl

stays_in : (slots : List Slot) (list : PresentList) (pinned : Option TicketParts) (j : ℕ) (t : TicketParts) → length slots ≡ 32 → next_is_linked list t.number ≡ false → IsIn slots j t → IsIn (map (released (Some list) pinned) slots) j t
unfolding released
stays_in slots list pinned j t size n i =
    let b = i.below in
    let over : is_over list pinned (slot_in slots j) ≡ false = ap (λ (l : Option TicketParts). over_in list pinned (slot_in slots j).state l) i.last ∙ not_over list pinned (slot_in slots j).state t n in
    let s : slot_in (map (released (Some list) pinned) slots) j ≡ slot_in slots j = get_or-map (released (Some list) pinned) slots j unused unused (omega arith) ∙ rw over refl in
    record { below = i.below; last = ap (λ (y : Slot). y.last) s ∙ i.last; held = ap (λ (y : Slot). is_free y) s ∙ i.held }

tail_not_linked : (list : PresentList) → next_is_linked list list.tail.number ≡ false
tail_not_linked list = let e : nat_lt list.tail.number list.tail.number ≡ false = grind (arith, nat_tests) in rw e refl

before_not_linked : (list : PresentList) (n : ℕ) → is_done list.link ≡ false → n + 1 ≡ list.tail.number → next_is_linked list n ≡ false
before_not_linked list n d e =
    let a : nat_lt n list.tail.number ≡ true = grind (arith, nat_tests) in
    let b : nat_lt (n + 1) list.tail.number ≡ false = grind (arith, nat_tests) in
    rw (a, b, d) refl

link_released : (slots : List Slot) (list : PresentList) (pinned : Option TicketParts) (link : Link) → link ≡ list.link → length slots ≡ 32 → HoldsLink slots list.tail link → HoldsLink (map (released (Some list) pinned) slots) list.tail link
link_released slots list pinned links.Done e size i = tt
link_released slots list pinned (links.Low b) e size i =
    let d : is_done list.link ≡ false = ap is_done (sym e) in
    record { orb = i.orb; in_slot = stays_in slots list pinned b i.orb size (before_not_linked list i.orb.number d i.before) i.in_slot; list = i.list; before = i.before }
link_released slots list pinned (links.High b) e size i =
    let d : is_done list.link ≡ false = ap is_done (sym e) in
    record { orb = i.orb; in_slot = stays_in slots list pinned b i.orb size (before_not_linked list i.orb.number d i.before) i.in_slot; list = i.list; before = i.before }

pub present_released : (slots : List Slot) (acts : ℕ) (present : Option PresentList) (pinned : Option TicketParts) → length slots ≡ 32 → HoldsPresent slots acts present → HoldsPresent (map (released present pinned) slots) acts present
present_released slots acts None pinned size i = tt
present_released slots acts (Some list) pinned size i = record {
  count = i.count;
  tail = stays_in slots list pinned list.tail.slot list.tail size (tail_not_linked list) i.tail;
  link = link_released slots list pinned list.link refl size i.link;
}

pub present_changed : (slots : List Slot) (acts k : ℕ) (present : Option PresentList) (number : ℕ) (x : Slot) → k < length slots → x.last ≡ (slot_in slots k).last → is_free x ≡ false → HoldsPresent slots acts present → HoldsPresent (slice_set slots k x) acts (passed_for present number)
present_changed slots acts k None number x h l f i = tt
present_changed slots acts k (Some list) number x h l f i = record {
  count = i.count;
  tail = in_changed slots k list.tail.slot list.tail x _ refl h l f i.tail;
  link = link_changed slots k x list.tail list.link h l f i.link;
}

pub present_added : (slots : List Slot) (acts : ℕ) (present : Option PresentList) (t : TicketParts) (lists : ℕ) → length slots ≡ 32 → t.slot < 32 → t.list ≡ list_number present lists → t.number ≡ orb_number present → is_free (slot_in slots t.slot) ≡ true → HoldsPresent slots acts present
    → HoldsPresent (slice_set slots t.slot (record { state = states.Waiting; last = Some t })) (acts + 1) (Some (extended present t))
present_added slots acts None t lists size small l n f i =
    let s : slot_in (slice_set slots t.slot (record { state = states.Waiting; last = Some t })) t.slot ≡ record { state = states.Waiting; last = Some t } = grind (arith, common_steps) in
    record {
      count = omega arith;
      tail = record { below = small; last = ap (λ (y : Slot). y.last) s; held = ap (λ (y : Slot). is_free y) s };
      link = tt;
    }
present_added slots acts (Some list) t lists size small l n f i =
    let s : slot_in (slice_set slots t.slot (record { state = states.Waiting; last = Some t })) t.slot ≡ record { state = states.Waiting; last = Some t } = grind (arith, common_steps) in
    let c = i.count in
    record {
      count = omega arith;
      tail = record { below = small; last = ap (λ (y : Slot). y.last) s; held = ap (λ (y : Slot). is_free y) s };
      link = record {
        orb = list.tail;
        in_slot = in_other slots t.slot list.tail.slot list.tail _ (omega arith) f i.tail;
        list = sym l;
        before = sym n;
      };
    }

-- A status that was taken leaves its slot in use or at rest.
taken_held : (b had_next : Bool) → free_state (cond b (states.Taken had_next) states.Resting) ≡ false
taken_held true had_next = refl
taken_held false had_next = refl

pub state_held : (block : StatusBlock) → free_state (state_after block) ≡ false
state_held block = taken_held ((row_of block.kind).resp == 0) (block.src == 0)

pub sound_status : (slots : List Slot) (acts k : ℕ) (present : Option PresentList) (number : ℕ) (y : Slot) (state : SlotState) → length slots ≡ 32 → k < 32 → free_state state ≡ false → HoldsPresent slots acts present → HoldsPresent (slice_set slots k (record (get_or slots k y) { state = state })) acts (passed_for present number)
sound_status slots acts k present number y state size small f i =
    present_changed slots acts k present number (record (get_or slots k y) { state = state }) (omega arith) (ap (λ (z : Slot). z.last) (get_or_default slots k y unused (omega arith))) f i

pub sound_swept : (s : SlotTable) (slots : List Slot) → slots ≡ map (released s.present s.pinned) s.slots → IsSound s → IsSound (record s { slots = slots })
sound_swept s slots e i = record {
  size = ap (λ (l : List Slot). length l) e ∙ length-map s.slots (released s.present s.pinned) ∙ i.size;
  lists = i.lists;
  present = subst (λ (l : List Slot). HoldsPresent l s.acts s.present) (sym e) (present_released s.slots s.acts s.present s.pinned i.size i.present);
}

-- The lowest free slot is free.
pub lowest_free : (slots : List Slot) (k : ℕ) → lowest slots ≡ Some k → is_free (slot_in slots k) ≡ true
lowest_free slots k e = (position-Some is_free slots k unused e).1
