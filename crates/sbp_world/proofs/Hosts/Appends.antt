-- An ORB that is prepared is appended to its list.
use Rattle.sbp_world.proofs.Words.Std.{arith, ◌≡◌, refl, sym, ◌∙◌, ap, subst, inl, inr, ℕ, zero, suc, ◌+◌, ◌-◌, ◌<◌, nat_eq, Bool, true, false, cond, List, [], ◌∷◌, length, map, Option, Some, None, Ok, Err, nat_tests, map-set, position-Some}
use Rattle.sbp_world.proofs.Words.Wire.{Moment, said, NoteBuffer}
use Rattle.sbp_world.proofs.Words.Initiator.{Link, PresentList, SlotState, Slot, TicketParts, SlotTable, slot_in, unused, is_free, is_done, is_mid_link, added, extended, lists_begun, free_slot, lowest, may_prepare, next_ticket}
use Rattle.sbp_world.proofs.Words.Laws.{orb, Row, used, is_vacant, lowest_vacant}
use Rattle.sbp_world.proofs.Words.World.{name, row, row_by, used_by, ListTerms, terms_at, over_at, StateFits, linked_by, LoweredFits, over_now, ListFits, IfList, Frees, Rows, AreRows}
use Rattle.std.proofs.Common.{slice_set}
use Rattle.orb_list.specs.declared.fault.ListFault.TheVariants as faults
use Rattle.orb_list.specs.declared.list.Link.TheVariants as links
use Rattle.orb_list.specs.declared.slot.SlotState.TheVariants as states
use Rattle.orb_list.specs.Table as table
use Rattle.orb_list.proofs.Tied.{may_lowest}
use Rattle.sbp_journal.specs.declared.note.Note.TheVariants as notes
use Rattle.sbp_laws.specs.Lists as terms
use Rattle.sbp_world.specs.Hosts.Fits.{IsOf}
use Rattle.sbp_world.proofs.Hosts.Sweeps.{frees, closes_still}
use Rattle.sbp_world.proofs.Hosts.Prepares.{first_terms, next_terms, Grows, list_of, added_fits, first_swept, next_swept}
use Rattle.sbp_world.proofs.Common.{itself}

-- ---- the lowest free slot

used_not : (last : Option TicketParts) → is_vacant (used_by last) ≡ false
used_not None = refl
used_not (Some t) = refl

vacant_by : (state : SlotState) (last : Option TicketParts) → is_vacant (row_by state last) ≡ table.free_state state
vacant_by states.Free last = refl
vacant_by states.Waiting last = used_not last
vacant_by (states.Taken had_next) last = used_not last
vacant_by states.Resting last = refl

pub vacant_row : (slot : Slot) → is_vacant (row slot) ≡ is_free slot
vacant_row slot = vacant_by slot.state slot.last

lowest_from : (slots : List Slot) (k : ℕ) → k < length slots → is_free (slot_in slots k) ≡ true → ((l : ℕ) → l < k → is_free (slot_in slots l) ≡ false) → lowest_vacant (map row slots) ≡ k
lowest_from [] k b f n = absurd (omega arith)
lowest_from (slot ∷ slots) zero b f n =
    ap (λ c. cond c 0 (suc (lowest_vacant (map row slots)))) (vacant_row slot ∙ f)
lowest_from (slot ∷ slots) (suc k) b f n =
    ap (λ c. cond c 0 (suc (lowest_vacant (map row slots)))) (vacant_row slot ∙ n 0 (omega arith))
    ∙ ap suc (lowest_from slots k (omega arith) f (λ l c. n (suc l) (omega arith)))

pub lowest_is : (slots : List Slot) (k : ℕ) → lowest slots ≡ Some k → lowest_vacant (map row slots) ≡ k
lowest_is slots k e = let p = position-Some is_free slots k unused e in lowest_from slots k p.0 p.1 p.2

not_mid : (mid : Bool) (found : Option ℕ) (slot : ℕ) → cond mid (Err faults.MidLink) (free_slot found) ≡ Ok slot → mid ≡ false
not_mid true found slot e = cc
not_mid false found slot e = refl

-- ---- the first ORB of a list

module _ (t : ListTerms) (n slot : ℕ) (u : TicketParts) (at : u.slot ≡ slot) (of : u.list ≡ n) (numbered : u.number ≡ 0) (none : t.appended n ≡ 0) where
  grows_first : Grows t (first_terms true n slot t) u
  grows_first = record {
    present = ap (λ x. Some x) (sym of);
    before = ap t.appended of ∙ (none ∙ sym numbered);
    appended = ap (λ m. cond (nat_eq m n) (suc (t.appended n)) (t.appended m)) of ∙ (ap (λ c. cond c (suc (t.appended n)) (t.appended n)) (itself n) ∙ (ap suc none ∙ ap suc (sym numbered)));
    others = λ m e. ap (λ c. cond c (suc (t.appended n)) (t.appended m)) (ap (nat_eq m) (sym of) ∙ e);
    linked = λ m e. ap (λ c. cond c 1 (t.linked m)) (ap (nat_eq m) (sym of) ∙ e);
    lowered = λ m. refl;
    passed = λ m. refl;
    taken = λ m l. refl;
    place = ap (λ m. cond (nat_eq m n) (cond (nat_eq u.number 0) slot (t.place m u.number)) (t.place m u.number)) of
        ∙ (ap (λ c. cond c (cond (nat_eq u.number 0) slot (t.place n u.number)) (t.place n u.number)) (itself n)
        ∙ (ap (λ l. cond (nat_eq l 0) slot (t.place n l)) numbered ∙ sym at));
    places = λ m l b. places_at m l b (nat_eq m n) (nat_eq l 0) refl refl;
    prepared = ap (λ x. cond (nat_eq x slot) (Some (orb n 0)) (t.prepared x)) at ∙ (ap (λ c. cond c (Some (orb n 0)) (t.prepared slot)) (itself slot) ∙ ap (λ x. Some x) (same_name u n of numbered));
    prepares = λ k e. ap (λ c. cond c (Some (orb n 0)) (t.prepared k)) (ap (nat_eq k) (sym at) ∙ e);
    pinned = refl;
  }
    where
      same_name : (u : TicketParts) (n : ℕ) → u.list ≡ n → u.number ≡ 0 → orb n 0 ≡ name u
      same_name u n a b = ap (λ x. orb x 0) (sym a) ∙ ap (orb u.list) (sym b)

      places_at : (m l : ℕ) → l < t.appended m → (c d : Bool) → nat_eq m n ≡ c → nat_eq l 0 ≡ d → cond c (cond d slot (t.place m l)) (t.place m l) ≡ t.place m l
      places_at m l b false d e f = refl
      places_at m l b true false e f = refl
      places_at m l b true true e f =
          let g : n ≡ m = grind (arith, nat_tests) in
          let h : t.appended m ≡ 0 = subst (λ x. t.appended x ≡ 0) g none in
          absurd (omega arith)

module _ (t : ListTerms) (n k slot : ℕ) (u : TicketParts) (at : u.slot ≡ slot) (of : u.list ≡ n) (numbered : u.number ≡ suc k) (last : t.appended n ≡ suc k) where
  grows_next : Grows t (next_terms true false n k slot t) u
  grows_next = record {
    present = ap (λ x. Some x) (sym of);
    before = ap t.appended of ∙ (last ∙ sym numbered);
    appended = ap (λ m. cond (nat_eq m n) (suc (t.appended n)) (t.appended m)) of ∙ (ap (λ c. cond c (suc (t.appended n)) (t.appended n)) (itself n) ∙ (ap suc last ∙ ap suc (sym numbered)));
    others = λ m e. ap (λ c. cond c (suc (t.appended n)) (t.appended m)) (ap (nat_eq m) (sym of) ∙ e);
    linked = λ m e. refl;
    lowered = λ m. refl;
    passed = λ m. refl;
    taken = λ m l. refl;
    place = ap (λ m. cond (nat_eq m n) (cond (nat_eq u.number (suc k)) slot (t.place m u.number)) (t.place m u.number)) of
        ∙ (ap (λ c. cond c (cond (nat_eq u.number (suc k)) slot (t.place n u.number)) (t.place n u.number)) (itself n)
        ∙ (ap (λ l. cond (nat_eq l (suc k)) slot (t.place n l)) numbered ∙ (ap (λ c. cond c slot (t.place n (suc k))) (itself (suc k)) ∙ sym at)));
    places = λ m l b. places_at m l b (nat_eq m n) (nat_eq l (suc k)) refl refl;
    prepared = ap (λ x. cond (nat_eq x slot) (Some (orb n (suc k))) (t.prepared x)) at ∙ (ap (λ c. cond c (Some (orb n (suc k))) (t.prepared slot)) (itself slot) ∙ ap (λ x. Some x) (same_name u n of numbered));
    prepares = λ x e. ap (λ c. cond c (Some (orb n (suc k))) (t.prepared x)) (ap (nat_eq x) (sym at) ∙ e);
    pinned = refl;
  }
    where
      same_name : (u : TicketParts) (n : ℕ) → u.list ≡ n → u.number ≡ suc k → orb n (suc k) ≡ name u
      same_name u n a b = ap (λ x. orb x (suc k)) (sym a) ∙ ap (orb u.list) (sym b)

      places_at : (m l : ℕ) → l < t.appended m → (c d : Bool) → nat_eq m n ≡ c → nat_eq l (suc k) ≡ d → cond c (cond d slot (t.place m l)) (t.place m l) ≡ t.place m l
      places_at m l b false d e f = refl
      places_at m l b true false e f = refl
      places_at m l b true true e f =
          let g : n ≡ m = grind (arith, nat_tests) in
          let i : l ≡ suc k = grind (arith, nat_tests) in
          let h : t.appended m ≡ suc k = subst (λ x. t.appended x ≡ suc k) g last in
          absurd (omega arith)

-- the rows behind an append
rows_set : (slots : List Slot) (rows : List Row) (u : TicketParts) (slot n k : ℕ) → rows ≡ map row slots → u.slot ≡ slot → u.list ≡ n → u.number ≡ k → slice_set rows slot (used (orb n k)) ≡ map row (slice_set slots u.slot (record { state = states.Waiting; last = Some u }))
rows_set slots rows u slot n k same at of numbered =
    ap (λ xs. slice_set xs slot (used (orb n k))) same
    ∙ (ap (λ x. slice_set (map row slots) x (used (orb n k))) (sym at)
    ∙ (ap (λ x. slice_set (map row slots) u.slot (used (orb x k))) (sym of)
    ∙ (ap (λ x. slice_set (map row slots) u.slot (used (orb u.list x))) (sym numbered)
    ∙ sym (map-set row slots u.slot (record { state = states.Waiting; last = Some u })))))

-- the list that an ORB is added to, by the list before
abbrev pub added_to : Option PresentList → SlotTable → TicketParts → SlotTable
added_to present s u = record {
  slots = slice_set s.slots u.slot (record { state = states.Waiting; last = Some u });
  present = Some (extended present u);
  lists = lists_begun present s.lists;
  pinned = s.pinned;
  calls = s.calls + 1;
  acts = s.acts + 1;
}

module _ (t : ListTerms) (rows : List Row) (s : SlotTable) (u : TicketParts) (r : Rows t rows s) (low : lowest s.slots ≡ Some u.slot) where
  small : u.slot < 32
  small = let p = position-Some is_free s.slots u.slot unused low in let z = r.fits.size in let b : u.slot < length s.slots = p.0 in omega arith

  free : is_free (slot_in s.slots u.slot) ≡ true
  free = (position-Some is_free s.slots u.slot unused low).1

  vacant_at : lowest_vacant rows ≡ u.slot
  vacant_at = ap lowest_vacant r.rows_are ∙ lowest_is s.slots u.slot low

  -- no list is present
  pub first_rows : (g : Row → Row) → s.present ≡ None → u.list ≡ s.lists → u.number ≡ 0 → Frees (over_at (first_terms true u.list (lowest_vacant rows) t)) g → Rows (first_terms true u.list (lowest_vacant rows) t) (map g (slice_set rows (lowest_vacant rows) (used (orb u.list 0)))) (added_to None s u)
  first_rows g n of numbered h =
      let v = vacant_at in
      let c = r.fits.to_come in
      let none : t.appended u.list ≡ 0 = c.appended u.list (omega arith) in
      let grows = grows_first t u.list (lowest_vacant rows) u (sym v) refl numbered none in
      let state : (k : ℕ) → k < 32 → StateFits None t.taken (slot_in s.slots k).state (slot_in s.slots k).last = λ k b. subst (λ p. StateFits p t.taken (slot_in s.slots k).state (slot_in s.slots k).last) n (r.fits.states k b) in
      closes_still (first_terms true u.list (lowest_vacant rows) t) (added_to None s u) (slice_set rows (lowest_vacant rows) (used (orb u.list 0))) g
      (added_fits t (first_terms true u.list (lowest_vacant rows) t) s u grows r.fits small free links.Done 0 (s.lists + 1) (s.calls + 1) (s.acts + 1)
      (omega arith) (omega arith) (ap suc r.fits.begun ∙ omega arith) (λ x y. absurd (subst (λ p. IsOf p x) n y)) (inr none)
      (ap (λ c. cond c 1 (t.linked u.list)) (itself u.list) ∙ ap suc (sym numbered))
      (c.lowered u.list (omega arith) ∙ sym numbered)
      (ap (λ x. x - 1) (c.passed u.list (omega arith))))
      (rows_set s.slots rows u (lowest_vacant rows) u.list 0 r.rows_are (sym v) refl numbered) h
      (first_swept s.slots u r.fits.size small free (list_of u links.Done 0) s.pinned t.taken state)

  -- a list is present, and its last ORB is linked
  pub next_rows : (g : Row → Row) (list : PresentList) (k : ℕ) → s.present ≡ Some list → is_done list.link ≡ true → u.list ≡ list.tail.list → k ≡ list.tail.number → u.number ≡ suc k → Frees (over_at (next_terms true false u.list k (lowest_vacant rows) t)) g → Rows (next_terms true false u.list k (lowest_vacant rows) t) (map g (slice_set rows (lowest_vacant rows) (used (orb u.list (suc k))))) (added_to (Some list) s u)
  next_rows g list k n done of tail numbered h =
      let v = vacant_at in
      let l : ListFits t s.slots s.lists list = subst (IfList t s.slots s.lists) n r.fits.list in
      let last : t.appended u.list ≡ suc k = ap t.appended of ∙ (l.appended ∙ ap suc (sym tail)) in
      let grows = grows_next t u.list k (lowest_vacant rows) u (sym v) refl numbered last in
      let swept : (x : ℕ) → x < 32 → table.is_over list s.pinned (slot_in s.slots x) ≡ false = λ x b. subst (λ p. over_now p s.pinned (slot_in s.slots x) ≡ false) n (r.swept x b) in
      let below = l.below in
      closes_still (next_terms true false u.list k (lowest_vacant rows) t) (added_to (Some list) s u) (slice_set rows (lowest_vacant rows) (used (orb u.list (suc k)))) g
      (added_fits t (next_terms true false u.list k (lowest_vacant rows) t) s u grows r.fits small free (links.Low list.tail.slot) list.passed s.lists (s.calls + 1) (s.acts + 1)
      (omega arith) (omega arith) r.fits.begun (λ x y. of ∙ subst (λ p. IsOf p x) n y) (inl (subst (λ p. IsOf p u) (sym n) (sym of)))
      (ap t.linked of ∙ (l.linked ∙ (linked_done list.link list.tail.number done ∙ (ap suc (sym tail) ∙ sym numbered))))
      (ap suc (ap t.lowered of ∙ (lowered_done list.link list.tail.number (t.lowered list.tail.list) done l.lowered ∙ sym tail)) ∙ sym numbered)
      (ap (λ x. t.passed x - 1) of ∙ l.passed))
      (rows_set s.slots rows u (lowest_vacant rows) u.list (suc k) r.rows_are (sym v) refl numbered) h
      (next_swept s.slots u r.fits.size small free list (list_of u (links.Low list.tail.slot) list.passed) s.pinned list.tail.slot done refl (numbered ∙ (ap suc tail ∙ omega arith)) refl swept)
    where
      linked_done : (link : Link) (number : ℕ) → is_done link ≡ true → linked_by link number ≡ suc number
      linked_done links.Done number e = refl
      linked_done (links.Low before) number e = cc
      linked_done (links.High before) number e = cc

      lowered_done : (link : Link) (number lowered : ℕ) → is_done link ≡ true → LoweredFits link number lowered → lowered ≡ number
      lowered_done links.Done number lowered e f = f
      lowered_done (links.Low before) number lowered e f = cc
      lowered_done (links.High before) number lowered e f = cc

-- ---- with the note of the append

module _ (past : List Moment) (i : ℕ) (cdb : List ℕ) (buffer : NoteBuffer) where
  first_note : (s : SlotTable) (u : TicketParts) → AreRows past i s → lowest s.slots ≡ Some u.slot → s.present ≡ None → u.list ≡ s.lists → u.number ≡ 0 → AreRows (said (notes.Append i u.list zero cdb buffer) ∷ past) i (added_to None s u)
  first_note s u r low n of numbered =
      let low_row = lowest_vacant (terms.slots past i) in
      let now = said (notes.Append i u.list zero cdb buffer) ∷ past in
      subst (λ b. Frees (over_at (first_terms b u.list low_row (terms_at past i))) (terms.freed now i) → Rows (first_terms b u.list low_row (terms_at past i)) (map (terms.freed now i) (cond b (slice_set (terms.slots past i) low_row (used (orb u.list 0))) (terms.slots past i))) (added_to None s u)) (sym (itself i))
      (λ h. first_rows (terms_at past i) (terms.slots past i) s u r low (terms.freed now i) n of numbered h) (frees now i)

  next_note : (s : SlotTable) (u : TicketParts) (list : PresentList) (k : ℕ) → AreRows past i s → lowest s.slots ≡ Some u.slot → s.present ≡ Some list → is_done list.link ≡ true → u.list ≡ list.tail.list → k ≡ list.tail.number → u.number ≡ suc k → AreRows (said (notes.Append i u.list (suc k) cdb buffer) ∷ past) i (added_to (Some list) s u)
  next_note s u list k r low n done of tail numbered =
      let low_row = lowest_vacant (terms.slots past i) in
      let now = said (notes.Append i u.list (suc k) cdb buffer) ∷ past in
      subst (λ b. Frees (over_at (next_terms b (nat_eq (suc k) 0) u.list k low_row (terms_at past i))) (terms.freed now i) → Rows (next_terms b (nat_eq (suc k) 0) u.list k low_row (terms_at past i)) (map (terms.freed now i) (cond b (slice_set (terms.slots past i) low_row (used (orb u.list (suc k)))) (terms.slots past i))) (added_to (Some list) s u)) (sym (itself i))
      (subst (λ c. Frees (over_at (next_terms true c u.list k low_row (terms_at past i))) (terms.freed now i) → Rows (next_terms true c u.list k low_row (terms_at past i)) (map (terms.freed now i) (slice_set (terms.slots past i) low_row (used (orb u.list (suc k))))) (added_to (Some list) s u)) (sym (not_first k))
      (λ h. next_rows (terms_at past i) (terms.slots past i) s u r low (terms.freed now i) list k n done of tail numbered h)) (frees now i)
    where
      not_first : (k : ℕ) → nat_eq (suc k) 0 ≡ false
      not_first k = grind (arith, nat_tests)

  -- an ORB that is prepared is told by its name
  added_note : (s : SlotTable) (present : Option PresentList) (slot login : ℕ) → AreRows past i s → s.present ≡ present → lowest s.slots ≡ Some slot → is_mid_link present ≡ false
      → AreRows (said (notes.Append i (table.list_number present s.lists) (table.orb_number present) cdb buffer) ∷ past) i (added_to present s (table.next_ticket (record s { present = present }) slot login))
  added_note s None slot login r n low mid = first_note s (table.next_ticket (record s { present = None }) slot login) r low n refl refl
  added_note s (Some list) slot login r n low mid =
      subst (λ k. AreRows (said (notes.Append i list.tail.list k cdb buffer) ∷ past) i (added_to (Some list) s (table.next_ticket (record s { present = Some list }) slot login))) (let e : suc list.tail.number ≡ list.tail.number + 1 = omega arith in e)
      (next_note s (table.next_ticket (record s { present = Some list }) slot login) list list.tail.number r low n (done list.link mid) refl refl (let e : list.tail.number + 1 ≡ suc list.tail.number = omega arith in e))
    where
      done : (link : Link) → table.is_mid_link (Some (record list { link = link })) ≡ false → is_done link ≡ true
      done links.Done e = refl
      done (links.Low before) e = cc
      done (links.High before) e = cc

  pub append_rows : (s : SlotTable) (slot login : ℕ) → AreRows past i s → may_prepare s ≡ Ok slot → AreRows (said (notes.Append i (next_ticket s slot login).list (next_ticket s slot login).number cdb buffer) ∷ past) i (added s (next_ticket s slot login))
  append_rows s slot login r e = added_note s s.present slot login r refl (may_lowest s slot e) (not_mid (is_mid_link s.present) (lowest s.slots) slot e)
