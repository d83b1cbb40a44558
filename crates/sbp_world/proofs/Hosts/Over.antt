-- A slot is over by the run terms exactly where it is by its table.
use Rattle.sbp_world.proofs.Words.Std.{arith, ◌≡◌, refl, sym, ◌∙◌, ap, subst, ℕ, suc, ◌+◌, ◌-◌, ◌<◌, ◌==◌, ◌&&◌, ◌||◌, not, nat_lt, Bool, true, false, cond, List, [], ◌∷◌, length, map, Option, Some, None, nat_tests}
use Rattle.sbp_world.proofs.Words.Initiator.{Link, PresentList, SlotState, Slot, TicketParts, is_ticket, SlotTable, slot_in, is_done, next_is_linked, over_for, released}
use Rattle.sbp_world.proofs.Words.Laws.{Row, vacant, used, is_over_by, is_pinned}
use Rattle.sbp_world.proofs.Words.World.{name, name_in, row, row_by, ListTerms, over_at, LastFits, IfLast, StateFits, linked_by, ListFits, IfList, IfHeld, Fits, Frees}
use Rattle.orb_list.specs.declared.list.Link.TheVariants as links
use Rattle.orb_list.specs.declared.slot.SlotState.TheVariants as states
use Rattle.orb_list.specs.Table as table
use Rattle.orb_list.proofs.Tied.{ticket_itself}
use Rattle.sbp_world.specs.Hosts.Fits.{IsTaken}

-- ---- the rule of the slots is that of the terms

same_link : (link : Link) (tail k : ℕ) → nat_lt (suc k) (linked_by link tail) ≡ (nat_lt k tail && (is_done link || nat_lt (k + 1) tail))
same_link links.Done tail k = grind (arith, nat_tests)
same_link (links.Low before) tail k = grind (arith, nat_tests)
same_link (links.High before) tail k = grind (arith, nat_tests)

same_passed : (passed k : ℕ) → nat_lt (suc k) passed ≡ nat_lt k (passed - 1)
same_passed passed k = grind (arith, nat_tests)

-- two tickets of one list and one number are one ticket
other_ticket : (p t : TicketParts) → (p.list == t.list) && (p.number == t.number) ≡ false → is_ticket p t ≡ false
other_ticket p t e = grind (arith, nat_tests)

module _ (begun : ℕ) (appended : ℕ → ℕ) (place : ℕ → ℕ → ℕ) (slots : List Slot) (p t : TicketParts) where
  pub one_ticket : LastFits begun appended place p.slot p → LastFits begun appended place t.slot t → (slot_in slots p.slot).last ≡ Some p → (slot_in slots t.slot).last ≡ Some t → p.list ≡ t.list → p.number ≡ t.number → p ≡ t
  one_ticket f g a b n k =
      let same : p.slot ≡ t.slot = sym f.at ∙ (ap (λ x. place x p.number) n ∙ (ap (place t.list) k ∙ g.at)) in
      let e : Some p ≡ Some t = sym a ∙ (ap (λ x. (slot_in slots x).last) same ∙ b) in
      cc

  pin_when : (b : Bool) → (p.list == t.list) && (p.number == t.number) ≡ b → LastFits begun appended place p.slot p → LastFits begun appended place t.slot t → (slot_in slots p.slot).last ≡ Some p → (slot_in slots t.slot).last ≡ Some t → b ≡ is_ticket p t
  pin_when false e f g a c = sym (other_ticket p t e)
  pin_when true e f g a c =
      let n : p.list ≡ t.list = grind (arith, nat_tests) in
      let k : p.number ≡ t.number = grind (arith, nat_tests) in
      sym (ap (λ x. is_ticket p x) (sym (one_ticket f g a c n k)) ∙ ticket_itself p)

module _ (t : ListTerms) (s : SlotTable) (f : Fits t s) where
  -- what is said of the last ORB of a slot
  pub last_at : (k : ℕ) (u : TicketParts) → k < 32 → (slot_in s.slots k).last ≡ Some u → LastFits s.lists t.appended t.place k u
  last_at k u b e = subst (IfLast s.lists t.appended t.place k) e (f.last k b)

  pub slot_is : (k : ℕ) (u : TicketParts) → k < 32 → (slot_in s.slots k).last ≡ Some u → LastFits s.lists t.appended t.place u.slot u
  slot_is k u b e =
      let g = last_at k u b e in subst (λ x. LastFits s.lists t.appended t.place x u) (sym g.slot) g

  pub here : (k : ℕ) (u : TicketParts) → k < 32 → (slot_in s.slots k).last ≡ Some u → (slot_in s.slots u.slot).last ≡ Some u
  here k u b e = ap (λ x. (slot_in s.slots x).last) (last_at k u b e).slot ∙ e

  same_pin : (k : ℕ) (u : TicketParts) (pinned : Option TicketParts) → k < 32 → (slot_in s.slots k).last ≡ Some u → IfHeld s.slots pinned → is_pinned (name_in pinned) u.list u.number ≡ table.is_pinned pinned u
  same_pin k u None b e h = refl
  same_pin k u (Some p) b e h =
      pin_when s.lists t.appended t.place s.slots p u ((p.list == u.list) && (p.number == u.number)) refl (slot_is p.slot p h.small h.last) (slot_is k u b e) h.last (here k u b e)

  -- an ORB whose status was taken
  same_over : (list : PresentList) (k : ℕ) (u : TicketParts) (had_next : Bool) → ListFits t s.slots s.lists list → k < 32 → (slot_in s.slots k).last ≡ Some u → list.tail.list ≡ u.list → IsTaken (t.taken u.list u.number) had_next → over_at t (name u) ≡ over_for list s.pinned had_next (Some u)
  same_over list k u had_next l b e o x =
      let linked : t.linked u.list ≡ linked_by list.link list.tail.number = ap t.linked (sym o) ∙ l.linked in
      let passed : t.passed u.list - 1 ≡ list.passed = ap (λ n. t.passed n - 1) (sym o) ∙ l.passed in
      let pin : is_pinned t.pinned u.list u.number ≡ table.is_pinned s.pinned u = ap (λ p. is_pinned p u.list u.number) f.pinned ∙ same_pin k u s.pinned b e f.held in
      ap (λ found. is_over_by found (t.linked u.list) (t.passed u.list) u.number (is_pinned t.pinned u.list u.number)) x.is
      ∙ (ap (λ r. r && nat_lt (suc u.number) (t.linked u.list) && ((x.taken.src == 0) || nat_lt (suc u.number) (t.passed u.list)) && not (is_pinned t.pinned u.list u.number)) x.resp
      ∙ (ap (λ c. c && ((x.taken.src == 0) || nat_lt (suc u.number) (t.passed u.list)) && not (is_pinned t.pinned u.list u.number)) (ap (nat_lt (suc u.number)) linked ∙ same_link list.link list.tail.number u.number)
      ∙ (ap (λ c. next_is_linked list u.number && (c || nat_lt (suc u.number) (t.passed u.list)) && not (is_pinned t.pinned u.list u.number)) x.src
      ∙ (ap (λ c. next_is_linked list u.number && (had_next || c) && not (is_pinned t.pinned u.list u.number)) (same_passed (t.passed u.list) u.number ∙ ap (nat_lt u.number) passed)
      ∙ ap (λ c. next_is_linked list u.number && (had_next || nat_lt u.number list.passed) && not c) pin))))

  -- one without
  not_over : (u : TicketParts) → t.taken u.list u.number ≡ None → over_at t (name u) ≡ false
  not_over u e = ap (λ found. is_over_by found (t.linked u.list) (t.passed u.list) u.number (is_pinned t.pinned u.list u.number)) e

  -- ---- a slot is freed by both
  row_cond : (b : Bool) (state : SlotState) (u : TicketParts) → row_by state (Some u) ≡ used (name u) → cond b vacant (used (name u)) ≡ row (cond b (record { state = states.Free; last = Some u }) (record { state = state; last = Some u }))
  row_cond true state u e = refl
  row_cond false state u e = sym e

  module _ (g : Row → Row) (h : Frees (over_at t) g) where
    row_freed : (k : ℕ) (present : Option PresentList) (state : SlotState) (last : Option TicketParts) → k < 32 → (slot_in s.slots k).last ≡ last → IfList t s.slots s.lists present → StateFits present t.taken state last → g (row_by state last) ≡ row (released present s.pinned (record { state = state; last = last }))
    unfolding released
    row_freed k None states.Free last b e l x = h.of_vacant
    row_freed k None states.Resting last b e l x = h.of_resting
    row_freed k None states.Waiting None b e l x = absurd x
    row_freed k None states.Waiting (Some u) b e l x = absurd x.0
    row_freed k None (states.Taken had_next) None b e l x = absurd x
    row_freed k None (states.Taken had_next) (Some u) b e l x = absurd x.0
    row_freed k (Some list) states.Free last b e l x = h.of_vacant
    row_freed k (Some list) states.Resting last b e l x = h.of_resting
    row_freed k (Some list) states.Waiting None b e l x = absurd x
    row_freed k (Some list) states.Waiting (Some u) b e l x =
        h.of_used (name u) ∙ ap (λ c. cond c vacant (used (name u))) (not_over u x.1)
    row_freed k (Some list) (states.Taken had_next) None b e l x = absurd x
    row_freed k (Some list) (states.Taken had_next) (Some u) b e l x =
        h.of_used (name u)
        ∙ (ap (λ c. cond c vacant (used (name u))) (same_over list k u had_next l b e x.0 x.1)
        ∙ row_cond (over_for list s.pinned had_next (Some u)) (states.Taken had_next) u refl)

    each_freed : (k : ℕ) → k < 32 → g (row (slot_in s.slots k)) ≡ row (released s.present s.pinned (slot_in s.slots k))
    each_freed k b = row_freed k s.present (slot_in s.slots k).state (slot_in s.slots k).last b refl f.list (f.states k b)

    all_freed : (slots : List Slot) → ((k : ℕ) → k < length slots → g (row (slot_in slots k)) ≡ row (released s.present s.pinned (slot_in slots k))) → map g (map row slots) ≡ map row (map (released s.present s.pinned) slots)
    all_freed [] e = refl
    all_freed (slot ∷ slots) e =
        ap (λ x. x ∷ map g (map row slots)) (e 0 (omega arith))
        ∙ ap (λ xs. row (released s.present s.pinned slot) ∷ xs) (all_freed slots (λ k b. e (suc k) (omega arith)))

    pub settles : map g (map row s.slots) ≡ map row (map (released s.present s.pinned) s.slots)
    settles = let z = f.size in all_freed s.slots (λ k b. each_freed k (omega arith))
