-- The status of an ORB is taken.
use Rattle.sbp_world.proofs.Words.Std.{arith, ◌≡◌, refl, sym, ◌∙◌, ap, subst, ℕ, zero, suc, ◌+◌, ◌-◌, ◌<◌, ◌≤◌, ◌==◌, ◌&&◌, not, max, nat_eq, Bool, true, false, cond, List, [], ◌∷◌, length, map, Option, Some, None, length-set, nat_tests}
use Rattle.sbp_world.proofs.Words.Initiator.{StatusKind, row_of, PresentList, SlotState, Slot, TicketParts, SlotTable, slot_in, is_free, waiting, waits_in}
use Rattle.sbp_world.proofs.Words.Laws.{TakenStatus, Row, used, resting, rests_at}
use Rattle.sbp_world.proofs.Words.World.{name, name_in, row, row_by, ListTerms, over_at, LastFits, IfLast, StateFits, Waits, IfHeld, Fits, Frees, Rows}
use Rattle.std.proofs.Common.{slice_set}
use Rattle.orb_list.specs.declared.slot.SlotState.TheVariants as states
use Rattle.orb_list.specs.Table as table
use Rattle.orb_list.proofs.Tied.{set_here, set_there, waits_last}
use Rattle.sbp_world.proofs.Hosts.Over.{one_ticket, last_at, slot_is, here}
use Rattle.sbp_world.proofs.Hosts.Sweeps.{closes}
use Rattle.sbp_world.proofs.Common.{itself}

-- the terms behind a status that was taken; its ORB, or an earlier one, is the highest, counted from 1
abbrev pub taken_terms : Bool → (n k : ℕ) → TakenStatus → (highest : ℕ) → ListTerms → ListTerms
taken_terms own n k x highest t = record t {
  taken = λ m l. cond own (cond (nat_eq m n) (cond (nat_eq l k) (Some x) (t.taken m l)) (t.taken m l)) (t.taken m l);
  passed = λ m. cond own (cond (nat_eq m n) highest (t.passed m)) (t.passed m);
}

-- what the status makes of its ORB's slot
abbrev pub state_by : TakenStatus → SlotState
state_by x = cond ((row_of x.status).resp == 0) (states.Taken (x.src == 0)) states.Resting

abbrev pub rows_taken : Bool → (n k : ℕ) → StatusKind → List Row → List Row
rows_taken own n k status rows = cond (own && not ((row_of status).resp == 0)) (map (rests_at n k) rows) rows

abbrev with_passed : PresentList → ℕ → PresentList
with_passed list number = record list { passed = max list.passed number }

abbrev pub taken_slots : List Slot → TicketParts → TakenStatus → List Slot
taken_slots slots u x = slice_set slots u.slot (record (slot_in slots u.slot) { state = state_by x })

abbrev pub taken_table : SlotTable → PresentList → TicketParts → TakenStatus → SlotTable
taken_table s list u x = record s { slots = taken_slots s.slots u x; present = Some (with_passed list u.number); calls = s.calls + 1 }

waits_state : (slot : Slot) (u : TicketParts) → waiting slot ≡ Some u → slot.state ≡ states.Waiting
waits_state slot u e = by_state slot.state slot.last e
  where
    by_state : (state : SlotState) (last : Option TicketParts) → waits_in state last ≡ Some u → state ≡ states.Waiting
    by_state states.Free last e = cc
    by_state states.Waiting last e = refl
    by_state (states.Taken had_next) last e = cc
    by_state states.Resting last e = cc

module _ (t : ListTerms) (s : SlotTable) (list : PresentList) (f : Fits t (record s { present = Some list })) (u : TicketParts) (small : u.slot < 32) (w : waiting (slot_in s.slots u.slot) ≡ Some u) (x : TakenStatus) where
  abbrev highest : ℕ
  highest = max (t.passed u.list) (suc u.number)

  abbrev now : ListTerms
  now = taken_terms true u.list u.number x highest t

  at : (slot_in s.slots u.slot).last ≡ Some u
  at = waits_last (slot_in s.slots u.slot) u w

  u_fits : LastFits s.lists t.appended t.place u.slot u
  u_fits = last_at t (record s { present = Some list }) f u.slot u small at

  u_state : StateFits (Some list) t.taken states.Waiting (Some u)
  u_state =
      subst (λ c. StateFits (Some list) t.taken c (Some u)) (waits_state (slot_in s.slots u.slot) u w)
      (subst (StateFits (Some list) t.taken (slot_in s.slots u.slot).state) at (f.states u.slot small))

  -- an ORB in another slot has another name
  other_name : (k : ℕ) (v : TicketParts) → k < 32 → nat_eq k u.slot ≡ false → (slot_in s.slots k).last ≡ Some v → (nat_eq v.list u.list && nat_eq v.number u.number) ≡ false
  other_name k v b e l = by_names (nat_eq v.list u.list && nat_eq v.number u.number) refl
    where
      by_names : (c : Bool) → (nat_eq v.list u.list && nat_eq v.number u.number) ≡ c → c ≡ false
      by_names false e = refl
      by_names true g =
          let n : v.list ≡ u.list = grind (arith, nat_tests) in
          let m : v.number ≡ u.number = grind (arith, nat_tests) in
          let old = record s { present = Some list } in
          let same = one_ticket s.lists t.appended t.place s.slots v u (slot_is t old f k v b l) (slot_is t old f u.slot u small at) (here t old f k v b l) at n m in
          let i : v.slot ≡ k = (last_at t old f k v b l).slot in
          let j : v.slot ≡ u.slot = ap (λ (y : TicketParts). y.slot) same in
          absurd (grind (arith, nat_tests))

  taken_other : (m l : ℕ) → (nat_eq m u.list && nat_eq l u.number) ≡ false → now.taken m l ≡ t.taken m l
  taken_other m l e = by_tests (nat_eq m u.list) (nat_eq l u.number) e
    where
      by_tests : (a b : Bool) → (a && b) ≡ false → cond a (cond b (Some x) (t.taken m l)) (t.taken m l) ≡ t.taken m l
      by_tests true true e = absurd (untrue e)
        where
          untrue : true ≡ false → ⊥
          untrue e = cc
      by_tests true false e = refl
      by_tests false b e = refl

  taken_here : now.taken u.list u.number ≡ Some x
  taken_here =
      ap (λ c. cond c (cond (nat_eq u.number u.number) (Some x) (t.taken u.list u.number)) (t.taken u.list u.number)) (itself u.list)
      ∙ ap (λ c. cond c (Some x) (t.taken u.list u.number)) (itself u.number)

  each_taken : (P : ℕ → Slot → Type 0) → P u.slot (record (slot_in s.slots u.slot) { state = state_by x }) → ((k : ℕ) → k < 32 → nat_eq k u.slot ≡ false → P k (slot_in s.slots k)) → (k : ℕ) → k < 32 → P k (slot_in (taken_slots s.slots u x) k)
  each_taken P here there k b = at_slot (nat_eq k u.slot) refl
    where
      new : Slot
      new = record (slot_in s.slots u.slot) { state = state_by x }

      at_slot : (c : Bool) → nat_eq k u.slot ≡ c → P k (slot_in (taken_slots s.slots u x) k)
      at_slot true e =
          let n : u.slot ≡ k = grind (arith, nat_tests) in
          let z = f.size in
          subst (P k) (sym (set_here s.slots u.slot k new e (omega arith))) (subst (λ m. P m new) n here)
      at_slot false e = let z = f.size in subst (P k) (sym (set_there s.slots u.slot k new e (omega arith))) (there k b e)

  not_free_state : (b h : Bool) → table.free_state (cond b (states.Taken h) states.Resting) ≡ false
  not_free_state true h = refl
  not_free_state false h = refl

  held_taken : (pinned : Option TicketParts) → IfHeld s.slots pinned → IfHeld (taken_slots s.slots u x) pinned
  held_taken None h = tt
  held_taken (Some p) h =
      let e = each_taken (λ k (y : Slot). (k ≡ p.slot → (y.last ≡ Some p) × (is_free y ≡ false)))
      (λ n. (ap (λ k. (slot_in s.slots k).last) n ∙ h.last, not_free_state ((row_of x.status).resp == 0) (x.src == 0)))
      (λ k b e n. (ap (λ k. (slot_in s.slots k).last) n ∙ h.last, ap (λ k. is_free (slot_in s.slots k)) n ∙ h.held)) p.slot h.small refl in
      record { small = h.small; last = e.0; held = e.1 }

  state_other : (k : ℕ) (state : SlotState) (last : Option TicketParts) → k < 32 → nat_eq k u.slot ≡ false → (slot_in s.slots k).last ≡ last → StateFits (Some list) t.taken state last → StateFits (Some (with_passed list u.number)) now.taken state last
  state_other k states.Free last b e l y = tt
  state_other k states.Resting last b e l y = tt
  state_other k states.Waiting None b e l y = absurd y
  state_other k states.Waiting (Some v) b e l y = (y.0, taken_other v.list v.number (other_name k v b e l) ∙ y.1)
  state_other k (states.Taken had_next) None b e l y = absurd y
  state_other k (states.Taken had_next) (Some v) b e l y =
      (y.0, record { taken = y.1.taken; is = taken_other v.list v.number (other_name k v b e l) ∙ y.1.is; resp = y.1.resp; src = y.1.src })

  state_here : (b : Bool) → ((row_of x.status).resp == 0) ≡ b → StateFits (Some (with_passed list u.number)) now.taken (cond b (states.Taken (x.src == 0)) states.Resting) (Some u)
  state_here true e = (u_state.0, record { taken = x; is = taken_here; resp = e; src = refl })
  state_here false e = tt

  waits_taken : (k : ℕ) → k < t.appended list.tail.list → now.taken list.tail.list k ≡ None → Waits (taken_slots s.slots u x) list.tail.list k
  waits_taken k b e = by_number (nat_eq k u.number) refl
    where
      same : list.tail.list ≡ u.list
      same = u_state.0

      untrue : {A : Type 0} → Some x ≡ None → A
      untrue e = absurd (differ e)
        where
          differ : Some x ≡ None → ⊥
          differ e = cc

      by_number : (c : Bool) → nat_eq k u.number ≡ c → Waits (taken_slots s.slots u x) list.tail.list k
      by_number true c =
          let n : k ≡ u.number = grind (arith, nat_tests) in
          untrue (sym taken_here ∙ (ap (λ m. now.taken m u.number) (sym same) ∙ (ap (now.taken list.tail.list) (sym n) ∙ e)))
      by_number false c =
          let other : (nat_eq list.tail.list u.list && nat_eq k u.number) ≡ false = ap (λ d. nat_eq list.tail.list u.list && d) c ∙ and_false (nat_eq list.tail.list u.list) in
          let v = f.list.waits k b (sym (taken_other list.tail.list k other) ∙ e) in
          let apart : nat_eq v.ticket.slot u.slot ≡ false = not_here v (nat_eq v.ticket.slot u.slot) refl in
          let z = f.size in
          record {
            ticket = v.ticket;
            of_list = v.of_list;
            numbered = v.numbered;
            small = v.small;
            waits = ap waiting (set_there s.slots u.slot v.ticket.slot (record (slot_in s.slots u.slot) { state = state_by x }) apart (omega arith)) ∙ v.waits;
          }
        where
          and_false : (a : Bool) → a && false ≡ false
          and_false true = refl
          and_false false = refl

          not_here : (v : Waits s.slots list.tail.list k) (d : Bool) → nat_eq v.ticket.slot u.slot ≡ d → d ≡ false
          not_here v false g = refl
          not_here v true g =
              let n : v.ticket.slot ≡ u.slot = grind (arith, nat_tests) in
              let h : Some v.ticket ≡ Some u = sym v.waits ∙ (ap (λ m. waiting (slot_in s.slots m)) n ∙ w) in
              let i : v.ticket ≡ u = cc in
              let j : k ≡ u.number = sym v.numbered ∙ ap (λ (y : TicketParts). y.number) i in
              absurd (grind (arith, nat_tests))

  taken_fits : Fits now (taken_table s list u x)
  taken_fits = record {
    size = length-set s.slots u.slot _ ∙ f.size;
    present = f.present;
    begun = f.begun;
    pinned = f.pinned;
    held = held_taken s.pinned f.held;
    prepared = each_taken (λ k (y : Slot). t.prepared k ≡ name_in y.last) (f.prepared u.slot small) (λ k b e. f.prepared k b);
    last = each_taken (λ k (y : Slot). IfLast s.lists t.appended t.place k y.last) (f.last u.slot small) (λ k b e. f.last k b);
    states = each_taken (λ k (y : Slot). StateFits (Some (with_passed list u.number)) now.taken y.state y.last)
        (subst (StateFits (Some (with_passed list u.number)) now.taken (state_by x)) (sym at) (state_here ((row_of x.status).resp == 0) refl))
        (λ k b e. state_other k (slot_in s.slots k).state (slot_in s.slots k).last b e refl (f.states k b));
    list = record {
      below = f.list.below;
      appended = f.list.appended;
      linked = f.list.linked;
      lowered = f.list.lowered;
      passed = passed_now;
      waits = waits_taken;
    };
    to_come = record {
      appended = f.to_come.appended;
      linked = f.to_come.linked;
      lowered = f.to_come.lowered;
      passed = λ n b. let g = u_fits.list in let e : nat_eq n u.list ≡ false = grind (arith, nat_tests) in ap (λ c. cond c highest (t.passed n)) e ∙ f.to_come.passed n b;
      taken = λ n k b. taken_other n k (not_yet n k b) ∙ f.to_come.taken n k b;
    };
  }
    where
      passed_now : cond (nat_eq list.tail.list u.list) highest (t.passed list.tail.list) - 1 ≡ max list.passed u.number
      passed_now =
          let same : list.tail.list ≡ u.list = u_state.0 in
          let e : nat_eq list.tail.list u.list ≡ true = grind (arith, nat_tests) in
          let before : t.passed u.list - 1 ≡ list.passed = ap (λ n. t.passed n - 1) (sym same) ∙ f.list.passed in
          ap (λ c. cond c highest (t.passed list.tail.list) - 1) e ∙ omega arith

      not_yet : (n k : ℕ) → t.appended n ≤ k → (nat_eq n u.list && nat_eq k u.number) ≡ false
      not_yet n k b = by_tests (nat_eq n u.list && nat_eq k u.number) refl
        where
          by_tests : (c : Bool) → (nat_eq n u.list && nat_eq k u.number) ≡ c → c ≡ false
          by_tests false e = refl
          by_tests true e =
              let g = u_fits.below in
              let i : n ≡ u.list = grind (arith, nat_tests) in
              let j : k ≡ u.number = grind (arith, nat_tests) in
              let c : u.number < t.appended n = subst (λ m. u.number < t.appended m) (sym i) g in
              absurd (omega arith)

  -- ---- the rows

  row_here : row (slot_in s.slots u.slot) ≡ used (name u)
  row_here = ap (λ c. row_by c (slot_in s.slots u.slot).last) (waits_state (slot_in s.slots u.slot) u w) ∙ ap (row_by states.Waiting) at

  row_cond : (b : Bool) (last : Option TicketParts) → last ≡ Some u → row_by (cond b (states.Taken (x.src == 0)) states.Resting) last ≡ cond b (used (name u)) resting
  row_cond true last e = ap (row_by (states.Taken (x.src == 0))) e
  row_cond false last e = refl

  -- a status with resp 0 leaves the rows
  rows_good : (slots : List Slot) (j : ℕ) → j < length slots → slot_in slots j ≡ slot_in s.slots u.slot → ((row_of x.status).resp == 0) ≡ true → map row (slice_set slots j (record (slot_in s.slots u.slot) { state = state_by x })) ≡ map row slots
  rows_good [] j b e r = absurd (omega arith)
  rows_good (slot ∷ slots) zero b e r =
      ap (λ y. y ∷ map row slots) (row_cond ((row_of x.status).resp == 0) (slot_in s.slots u.slot).last at ∙ (ap (λ c. cond c (used (name u)) resting) r ∙ (sym row_here ∙ ap row (sym e))))
  rows_good (slot ∷ slots) (suc j) b e r = ap (λ ys. row slot ∷ ys) (rows_good slots j (omega arith) e r)

  -- one with another resp puts its slot to rest
  rest_by : (state : SlotState) (last : Option TicketParts) → ((v : TicketParts) → last ≡ Some v → (nat_eq v.list u.list && nat_eq v.number u.number) ≡ false) → rests_at u.list u.number (row_by state last) ≡ row_by state last
  rest_by states.Free last n = refl
  rest_by states.Resting last n = refl
  rest_by states.Waiting None n = refl
  rest_by states.Waiting (Some v) n = ap (λ c. cond c resting (used (name v))) (n v refl)
  rest_by (states.Taken had_next) None n = refl
  rest_by (states.Taken had_next) (Some v) n = ap (λ c. cond c resting (used (name v))) (n v refl)

  names_itself : (nat_eq u.list u.list && nat_eq u.number u.number) ≡ true
  names_itself = ap (λ c. c && nat_eq u.number u.number) (itself u.list) ∙ itself u.number

  rest_here : rests_at u.list u.number (used (name u)) ≡ resting
  rest_here = ap (λ c. cond c resting (used (name u))) names_itself

  -- the slots before the ORB's own one, and those behind it
  rest_all : (slots : List Slot) → ((k : ℕ) → k < length slots → rests_at u.list u.number (row (slot_in slots k)) ≡ row (slot_in slots k)) → map (rests_at u.list u.number) (map row slots) ≡ map row slots
  rest_all [] n = refl
  rest_all (slot ∷ slots) n =
      ap (λ y. y ∷ map (rests_at u.list u.number) (map row slots)) (n 0 (omega arith))
      ∙ ap (λ ys. row slot ∷ ys) (rest_all slots (λ k b. n (suc k) (omega arith)))

  rows_bad : (slots : List Slot) (j : ℕ) → j < length slots → slot_in slots j ≡ slot_in s.slots u.slot → ((k : ℕ) → k < length slots → nat_eq k j ≡ false → rests_at u.list u.number (row (slot_in slots k)) ≡ row (slot_in slots k)) → ((row_of x.status).resp == 0) ≡ false
      → map (rests_at u.list u.number) (map row slots) ≡ map row (slice_set slots j (record (slot_in s.slots u.slot) { state = state_by x }))
  rows_bad [] j b e n r = absurd (omega arith)
  rows_bad (slot ∷ slots) zero b e n r =
      ap (λ y. y ∷ map (rests_at u.list u.number) (map row slots))
      (ap (rests_at u.list u.number) (ap row e ∙ row_here) ∙ (rest_here ∙ sym (row_cond ((row_of x.status).resp == 0) (slot_in s.slots u.slot).last at ∙ ap (λ c. cond c (used (name u)) resting) r)))
      ∙ ap (λ ys. row (record (slot_in s.slots u.slot) { state = state_by x }) ∷ ys) (rest_all slots (λ k c. n (suc k) (omega arith) (grind (arith, nat_tests))))
  rows_bad (slot ∷ slots) (suc j) b e n r =
      ap (λ y. y ∷ map (rests_at u.list u.number) (map row slots)) (n 0 (omega arith) (grind (arith, nat_tests)))
      ∙ ap (λ ys. row slot ∷ ys) (rows_bad slots j (omega arith) e (λ k c d. n (suc k) (omega arith) (behind k j d)) r)
    where
      behind : (k j : ℕ) → nat_eq k j ≡ false → nat_eq (suc k) (suc j) ≡ false
      behind k j d = grind (arith, nat_tests)

  rows_now : (b : Bool) → ((row_of x.status).resp == 0) ≡ b → cond (not b) (map (rests_at u.list u.number) (map row s.slots)) (map row s.slots) ≡ map row (taken_slots s.slots u x)
  rows_now true r = let z = f.size in sym (rows_good s.slots u.slot (omega arith) refl r)
  rows_now false r =
      let z = f.size in
      rows_bad s.slots u.slot (omega arith) refl
      (λ k c d. rest_by (slot_in s.slots k).state (slot_in s.slots k).last (λ v l. other_name k v (omega arith) d l)) r

module _ (t : ListTerms) (rows : List Row) (s : SlotTable) (list : PresentList) (r : Rows t rows (record s { present = Some list })) (u : TicketParts) (small : u.slot < 32) (w : waiting (slot_in s.slots u.slot) ≡ Some u) (x : TakenStatus) where
  abbrev later : ListTerms
  later = taken_terms true u.list u.number x (max (t.passed u.list) (suc u.number)) t

  pub taken_rows : (g : Row → Row) → Frees (over_at later) g → Rows later (map g (rows_taken true u.list u.number x.status rows)) (table.swept (taken_table s list u x))
  taken_rows g h =
      closes later (taken_table s list u x) (rows_taken true u.list u.number x.status rows) g (taken_fits t s list r.fits u small w x)
      (ap (rows_taken true u.list u.number x.status) r.rows_are ∙ rows_now t s list r.fits u small w x ((row_of x.status).resp == 0) refl) h
