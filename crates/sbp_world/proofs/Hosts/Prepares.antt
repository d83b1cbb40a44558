-- An ORB is prepared: the first one of a list, or the next one of the present list.
use Rattle.sbp_world.proofs.Words.Std.{arith, ◌≡◌, refl, sym, ◌∙◌, ap, subst, inl, inr, ◌⊎◌, ℕ, suc, ◌+◌, ◌-◌, ◌<◌, ◌≤◌, ◌&&◌, ◌||◌, not, nat_eq, nat_lt, Bool, true, false, cond, List, length, Option, Some, None, length-set, nat_tests}
use Rattle.sbp_world.proofs.Words.Initiator.{Link, PresentList, SlotState, Slot, TicketParts, SlotTable, slot_in, is_free, is_done, waiting}
use Rattle.sbp_world.proofs.Words.Laws.{orb, TakenStatus}
use Rattle.sbp_world.proofs.Words.World.{name, name_in, ListTerms, IfLast, StateFits, linked_by, LoweredFits, Waits, IfList, IfHeld, ToCome, Fits, over_now}
use Rattle.std.proofs.Common.{slice_set}
use Rattle.orb_list.specs.declared.list.Link.TheVariants as links
use Rattle.orb_list.specs.declared.slot.SlotState.TheVariants as states
use Rattle.orb_list.specs.Table as table
use Rattle.orb_list.proofs.Tied.{free_waits, set_here, set_there}
use Rattle.sbp_world.specs.Hosts.Fits.{IsOf, IsTaken}
use Rattle.sbp_world.proofs.Common.{itself}

-- the terms behind an append, of the first ORB of a list or of another one, in the slot `low`; only the first one begins a list
abbrev pub first_terms : Bool → (n low : ℕ) → ListTerms → ListTerms
first_terms own n low t = record {
  present = cond own (Some n) t.present;
  begun = cond own (suc t.begun) t.begun;
  appended = λ m. cond own (cond (nat_eq m n) (suc (t.appended n)) (t.appended m)) (t.appended m);
  linked = λ m. cond own (cond (nat_eq m n) 1 (t.linked m)) (t.linked m);
  lowered = t.lowered;
  passed = t.passed;
  taken = t.taken;
  place = λ m l. cond own (cond (nat_eq m n) (cond (nat_eq l 0) low (t.place m l)) (t.place m l)) (t.place m l);
  prepared = λ x. cond own (cond (nat_eq x low) (Some (orb n 0)) (t.prepared x)) (t.prepared x);
  pinned = t.pinned;
}

abbrev pub next_terms : (own starts : Bool) → (n k low : ℕ) → ListTerms → ListTerms
next_terms own starts n k low t = record {
  present = cond own (Some n) t.present;
  begun = cond own (cond starts (suc t.begun) t.begun) t.begun;
  appended = λ m. cond own (cond (nat_eq m n) (suc (t.appended n)) (t.appended m)) (t.appended m);
  linked = t.linked;
  lowered = t.lowered;
  passed = t.passed;
  taken = t.taken;
  place = λ m l. cond own (cond (nat_eq m n) (cond (nat_eq l (suc k)) low (t.place m l)) (t.place m l)) (t.place m l);
  prepared = λ x. cond own (cond (nat_eq x low) (Some (orb n (suc k))) (t.prepared x)) (t.prepared x);
  pinned = t.pinned;
}

-- a slot that is free is none that an ORB waits in, and none that is pinned
module _ (slots : List Slot) (j : ℕ) (x : Slot) (z : length slots ≡ 32) (small : j < 32) (free : is_free (slot_in slots j) ≡ true) where
  apart_held : (k : ℕ) → is_free (slot_in slots k) ≡ false → nat_eq k j ≡ false
  apart_held k h =
      let apart : k ≡ j → ⊥ = λ (n : k ≡ j). let e : true ≡ false = sym free ∙ (ap (λ m. is_free (slot_in slots m)) (sym n) ∙ h) in cc in
      grind (arith, nat_tests)

  held_set : (pinned : Option TicketParts) → IfHeld slots pinned → IfHeld (slice_set slots j x) pinned
  held_set None h = tt
  held_set (Some p) h =
      let e = set_there slots j p.slot x (apart_held p.slot h.held) (omega arith) in
      record { small = h.small; last = ap (λ (y : Slot). y.last) e ∙ h.last; held = ap is_free e ∙ h.held }

  waits_set : (list number : ℕ) → Waits slots list number → Waits (slice_set slots j x) list number
  waits_set list number w =
      let n : nat_eq w.ticket.slot j ≡ false = not_free (is_free (slot_in slots w.ticket.slot)) refl in
      record {
        ticket = w.ticket;
        of_list = w.of_list;
        numbered = w.numbered;
        small = w.small;
        waits = ap waiting (set_there slots j w.ticket.slot x n (omega arith)) ∙ w.waits;
      }
    where
      not_free : (b : Bool) → is_free (slot_in slots w.ticket.slot) ≡ b → nat_eq w.ticket.slot j ≡ false
      not_free true e = absurd (free_waits (slot_in slots w.ticket.slot) w.ticket e w.waits)
      not_free false e = apart_held w.ticket.slot e

  -- a property of each slot and its number
  each_set : (P : ℕ → Slot → Type 0) → P j x → ((k : ℕ) → k < 32 → nat_eq k j ≡ false → P k (slot_in slots k)) → (k : ℕ) → k < 32 → P k (slot_in (slice_set slots j x) k)
  each_set P here there k b = at_slot (nat_eq k j) refl
    where
      at_slot : (c : Bool) → nat_eq k j ≡ c → P k (slot_in (slice_set slots j x) k)
      at_slot true e =
          let n : j ≡ k = grind (arith, nat_tests) in
          subst (P k) (sym (set_here slots j k x e (omega arith))) (subst (λ m. P m x) n here)
      at_slot false e = subst (P k) (sym (set_there slots j k x e (omega arith))) (there k b e)

-- ---- what an append changes of the terms
pub record Grows (t new : ListTerms) (u : TicketParts) : Type 0 where
  pub present : new.present ≡ Some u.list
  pub before : t.appended u.list ≡ u.number
  pub appended : new.appended u.list ≡ suc u.number
  pub others : (m : ℕ) → nat_eq m u.list ≡ false → new.appended m ≡ t.appended m
  pub linked : (m : ℕ) → nat_eq m u.list ≡ false → new.linked m ≡ t.linked m
  pub lowered : (m : ℕ) → new.lowered m ≡ t.lowered m
  pub passed : (m : ℕ) → new.passed m ≡ t.passed m
  pub taken : (m l : ℕ) → new.taken m l ≡ t.taken m l
  pub place : new.place u.list u.number ≡ u.slot
  pub places : (m l : ℕ) → l < t.appended m → new.place m l ≡ t.place m l
  pub prepared : new.prepared u.slot ≡ Some (name u)
  pub prepares : (k : ℕ) → nat_eq k u.slot ≡ false → new.prepared k ≡ t.prepared k
  pub pinned : new.pinned ≡ t.pinned

-- the list that an ORB was prepared in, with its link
abbrev pub list_of : TicketParts → Link → ℕ → PresentList
list_of u link passed = record { tail = u; link = link; passed = passed }

module _ (t new : ListTerms) (u : TicketParts) (g : Grows t new u) where
  more_appended : (m : ℕ) → t.appended m ≤ new.appended m
  more_appended m = at_list (nat_eq m u.list) refl
    where
      at_list : (c : Bool) → nat_eq m u.list ≡ c → t.appended m ≤ new.appended m
      at_list true e =
          let n : u.list ≡ m = grind (arith, nat_tests) in
          let a = g.before in
          let b = g.appended in
          subst (λ x. t.appended x ≤ new.appended x) n (omega arith)
      at_list false e = let a = g.others m e in omega arith

  last_grows : (begun more k : ℕ) (last : Option TicketParts) → begun ≤ more → IfLast begun t.appended t.place k last → IfLast more new.appended new.place k last
  last_grows begun more k None h l = tt
  last_grows begun more k (Some v) h l =
      let a = l.list in
      let b = l.below in
      let c = more_appended v.list in
      record { slot = l.slot; list = omega arith; below = omega arith; at = g.places v.list v.number b ∙ l.at }

  come_grows : (begun more : ℕ) → begun ≤ more → u.list < more → ToCome t begun → ToCome new more
  come_grows begun more h below c = record {
    appended = λ n b. g.others n (other n b) ∙ c.appended n (omega arith);
    linked = λ n b. g.linked n (other n b) ∙ c.linked n (omega arith);
    lowered = λ n b. g.lowered n ∙ c.lowered n (omega arith);
    passed = λ n b. g.passed n ∙ c.passed n (omega arith);
    taken = λ n k b. let m = more_appended n in g.taken n k ∙ c.taken n k (omega arith);
  }
    where
      other : (n : ℕ) → more ≤ n → nat_eq n u.list ≡ false
      other n b = grind (arith, nat_tests)

module _ (t new : ListTerms) (s : SlotTable) (u : TicketParts) (g : Grows t new u) (f : Fits t s) (small : u.slot < 32) (free : is_free (slot_in s.slots u.slot) ≡ true) where
  abbrev pub new_slot : Slot
  new_slot = record { state = states.Waiting; last = Some u }

  abbrev pub new_slots : List Slot
  new_slots = slice_set s.slots u.slot new_slot

  waits_now : (begun : ℕ) (old : Option PresentList) → IfList t s.slots begun old → (IsOf old u ⊎ (t.appended u.list ≡ 0)) → (k : ℕ) → k < new.appended u.list → new.taken u.list k ≡ None → Waits new_slots u.list k
  waits_now begun old l o k b e = at_number (nat_eq k u.number) refl
    where
      here : Waits new_slots u.list u.number
      here = record {
        ticket = u;
        of_list = refl;
        numbered = refl;
        small = small;
        waits = ap waiting (set_here s.slots u.slot u.slot new_slot (itself u.slot) (let z = f.size in omega arith));
      }

      before : (old : Option PresentList) → IfList t s.slots begun old → (IsOf old u ⊎ (t.appended u.list ≡ 0)) → k < t.appended u.list → Waits new_slots u.list k
      before old l (inr z) c = absurd (omega arith)
      before None l (inl n) c = absurd n
      before (Some list) l (inl n) c =
          subst (λ m. Waits new_slots m k) n
          (waits_set s.slots u.slot new_slot f.size small free list.tail.list k
          (l.waits k (subst (λ m. k < t.appended m) (sym n) c) (ap (λ m. t.taken m k) n ∙ (sym (g.taken u.list k) ∙ e))))

      at_number : (c : Bool) → nat_eq k u.number ≡ c → Waits new_slots u.list k
      at_number true c = let n : u.number ≡ k = grind (arith, nat_tests) in subst (Waits new_slots u.list) n here
      at_number false c =
          let a = g.before in
          let d = g.appended in
          before old l o (grind (arith, nat_tests))

  pub added_fits : (link : Link) (passed more calls acts : ℕ) → s.lists ≤ more → u.list < more → new.begun ≡ more → ((v : TicketParts) → IsOf s.present v → u.list ≡ v.list) → (IsOf s.present u ⊎ (t.appended u.list ≡ 0)) → new.linked u.list ≡ linked_by link u.number → LoweredFits link u.number (t.lowered u.list) → t.passed u.list - 1 ≡ passed
      → Fits new (record { slots = new_slots; present = Some (list_of u link passed); lists = more; pinned = s.pinned; calls = calls; acts = acts })
  added_fits link passed more calls acts h below begun same o linked lowered passes = record {
    size = length-set s.slots u.slot new_slot ∙ f.size;
    present = g.present;
    begun = begun;
    pinned = g.pinned ∙ f.pinned;
    held = held_set s.slots u.slot new_slot f.size small free s.pinned f.held;
    prepared = each_set s.slots u.slot new_slot f.size small free (λ k (x : Slot). new.prepared k ≡ name_in x.last) g.prepared (λ k b e. g.prepares k e ∙ f.prepared k b);
    last = each_set s.slots u.slot new_slot f.size small free (λ k (x : Slot). IfLast more new.appended new.place k x.last)
        (record { slot = refl; list = below; below = let a = g.appended in omega arith; at = g.place })
        (λ k b e. last_grows t new u g s.lists more k (slot_in s.slots k).last h (f.last k b));
    states = each_set s.slots u.slot new_slot f.size small free (λ k (x : Slot). StateFits (Some (list_of u link passed)) new.taken x.state x.last)
        (refl, none_yet)
        (λ k b e. state_grows (slot_in s.slots k).state (slot_in s.slots k).last (f.states k b));
    list = record {
      below = below;
      appended = g.appended;
      linked = linked;
      lowered = subst (LoweredFits link u.number) (sym (g.lowered u.list)) lowered;
      passed = ap (λ n. n - 1) (g.passed u.list) ∙ passes;
      waits = waits_now s.lists s.present f.list o;
    };
    to_come = come_grows t new u g s.lists more h below f.to_come;
  }
    where
      none_yet : new.taken u.list u.number ≡ None
      none_yet = let a = g.before in g.taken u.list u.number ∙ f.to_come.taken u.list u.number (omega arith)

      taken_grows : (v : TicketParts) (had_next : Bool) → IsTaken (t.taken v.list v.number) had_next → IsTaken (new.taken v.list v.number) had_next
      taken_grows v had_next x = record { taken = x.taken; is = g.taken v.list v.number ∙ x.is; resp = x.resp; src = x.src }

      state_grows : (state : SlotState) (last : Option TicketParts) → StateFits s.present t.taken state last → StateFits (Some (list_of u link passed)) new.taken state last
      state_grows states.Free last x = tt
      state_grows states.Resting last x = tt
      state_grows states.Waiting None x = absurd x
      state_grows states.Waiting (Some v) x = (same v x.0, g.taken v.list v.number ∙ x.1)
      state_grows (states.Taken had_next) None x = absurd x
      state_grows (states.Taken had_next) (Some v) x = (same v x.0, taken_grows v had_next x.1)

-- ---- none is over because of it

first_over : (list : PresentList) (pinned : Option TicketParts) (taken : ℕ → ℕ → Option TakenStatus) (state : SlotState) (last : Option TicketParts) → StateFits None taken state last → table.over_in list pinned state last ≡ false
first_over list pinned taken states.Free last x = refl
first_over list pinned taken states.Resting last x = refl
first_over list pinned taken states.Waiting last x = refl
first_over list pinned taken (states.Taken had_next) None x = refl
first_over list pinned taken (states.Taken had_next) (Some v) x = absurd x.0

-- the ORB behind the list's last one is not linked yet
next_link : (tail k : ℕ) → (nat_lt k (tail + 1) && nat_lt (k + 1) (tail + 1)) ≡ nat_lt k tail
next_link tail k = grind (arith, nat_tests)

done_link : (link : Link) (tail k : ℕ) → is_done link ≡ true → (nat_lt k tail && (is_done link || nat_lt (k + 1) tail)) ≡ nat_lt k tail
done_link link tail k e = ap (λ c. nat_lt k tail && (c || nat_lt (k + 1) tail)) e ∙ and_true (nat_lt k tail)
  where
    and_true : (a : Bool) → a && true ≡ a
    and_true true = refl
    and_true false = refl

next_over : (list new : PresentList) (pinned : Option TicketParts) (before : ℕ) (state : SlotState) (last : Option TicketParts) → is_done list.link ≡ true → new.link ≡ links.Low before → new.tail.number ≡ list.tail.number + 1 → new.passed ≡ list.passed → table.over_in list pinned state last ≡ false → table.over_in new pinned state last ≡ false
next_over list new pinned before states.Free last d l n p e = refl
next_over list new pinned before states.Resting last d l n p e = refl
next_over list new pinned before states.Waiting last d l n p e = refl
next_over list new pinned before (states.Taken had_next) None d l n p e = refl
next_over list new pinned before (states.Taken had_next) (Some v) d l n p e =
    ap (λ c. c && (had_next || nat_lt v.number new.passed) && not (table.is_pinned pinned v)) same
    ∙ (ap (λ c. table.next_is_linked list v.number && (had_next || nat_lt v.number c) && not (table.is_pinned pinned v)) p ∙ e)
  where
    same : table.next_is_linked new v.number ≡ table.next_is_linked list v.number
    same = ap (λ c. nat_lt v.number new.tail.number && (is_done c || nat_lt (v.number + 1) new.tail.number)) l
        ∙ (ap (λ c. nat_lt v.number c && nat_lt (v.number + 1) c) n
        ∙ (next_link list.tail.number v.number ∙ sym (done_link list.link list.tail.number v.number d)))

module _ (slots : List Slot) (u : TicketParts) (z : length slots ≡ 32) (small : u.slot < 32) (free : is_free (slot_in slots u.slot) ≡ true) where
  pub first_swept : (list : PresentList) (pinned : Option TicketParts) (taken : ℕ → ℕ → Option TakenStatus) → ((k : ℕ) → k < 32 → StateFits None taken (slot_in slots k).state (slot_in slots k).last) → (k : ℕ) → k < 32 → over_now (Some list) pinned (slot_in (slice_set slots u.slot (record { state = states.Waiting; last = Some u })) k) ≡ false
  first_swept list pinned taken f =
      each_set slots u.slot (record { state = states.Waiting; last = Some u }) z small free (λ k (x : Slot). over_now (Some list) pinned x ≡ false) refl (λ k b e. first_over list pinned taken (slot_in slots k).state (slot_in slots k).last (f k b))

  pub next_swept : (list new : PresentList) (pinned : Option TicketParts) (before : ℕ) → is_done list.link ≡ true → new.link ≡ links.Low before → new.tail.number ≡ list.tail.number + 1 → new.passed ≡ list.passed → ((k : ℕ) → k < 32 → over_now (Some list) pinned (slot_in slots k) ≡ false) → (k : ℕ) → k < 32 → over_now (Some new) pinned (slot_in (slice_set slots u.slot (record { state = states.Waiting; last = Some u })) k) ≡ false
  next_swept list new pinned before d l n p f =
      each_set slots u.slot (record { state = states.Waiting; last = Some u }) z small free (λ k (x : Slot). over_now (Some new) pinned x ≡ false) refl (λ k b e. next_over list new pinned before (slot_in slots k).state (slot_in slots k).last d l n p (f k b))
