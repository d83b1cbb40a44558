-- The slots and the notes of a run, tied.
use Rattle.std.proofs.Common.{arith, ◌≡◌, refl, sym, ◌∙◌, ap, subst, ℕ, ◌<◌, ◌≤◌, ◌==◌, ◌&&◌, ◌||◌, not, nat_eq, Bool, true, false, cond, List, [], ◌∷◌, length, map, replicate, slice_set, Option, Some, None, Result, Ok, Err}
use Rattle.std.proofs.Math.ListN.{length-set}
use Rattle.std.proofs.lemmas.Bool.Decides.{nat_tests}
use Rattle.std.proofs.lemmas.List.{get_or-map, get_or_past, length-map, length-replicate}
use Rattle.std.proofs.lemmas.List.Quantifiers.{position-Some}
use Rattle.bus_memory.specs.Windows.{slot_of}
use Rattle.bus_memory.specs.Memory.{Memory}
use Rattle.bus_memory.proofs.Written.{replicated}
use Rattle.orb_layout.specs.declared.status.StatusBlock.{StatusBlock}
use Rattle.orb_layout.specs.StatusBlocks.{row_of}
use Rattle.orb_list.specs.declared.fault.ListFault.{ListFault}
use Rattle.orb_list.specs.declared.fault.ListFault.TheVariants as faults
use Rattle.orb_list.specs.declared.list.Link.TheVariants as links
use Rattle.orb_list.specs.declared.list.Linking.{Linking}
use Rattle.orb_list.specs.declared.list.PresentList.{PresentList}
use Rattle.orb_list.specs.declared.slot.SlotState.{SlotState}
use Rattle.orb_list.specs.declared.slot.SlotState.TheVariants as states
use Rattle.orb_list.specs.declared.slot.Slot.{Slot}
use Rattle.orb_list.specs.Tickets.{TicketParts, is_ticket, ticket}
use Rattle.orb_list.specs.Requests.{Asked}
use Rattle.orb_list.specs.Table.{SlotTable, unused, slot_in, is_free, waiting, waits_in, released, is_over, over_in, freed, rested, state_after, passed_for, lowest, is_mid_link, free_slot, may_prepare, next_ticket, prepare_at, prepare_step, low_for, low_step, high_for, high_step, waits_low, waits_high, with_link, checked, dummy_at, dummy_step, status_at, status_for, status_step, drop_for, drop_step, free_all_step, pin_at, pin_step, unpin_for, unpin_step}
use Rattle.orb_list.specs.Runs.{Call, Prepare, LinkLow, LinkHigh, MakeDummy, TakeStatus, DropList, FreeAll, Pin, Unpin, TryWrite, Fill, SetQuad, Note, Prepared, LowWritten, Linked, Dummied, Taken, Dropped, Freed, Pinned, Unpinned, if_ok, if_some, left_by, noted_by, run, waits}
use Rattle.orb_list.specs.Laws.{SlotsLaw}
use Rattle.orb_list.proofs.Sound.{slot_after}

-- One ORB has one ticket.
pub same_ticket : (a b : TicketParts) → is_ticket a b ≡ true → a ≡ b
same_ticket a b e =
    let l : a.login ≡ b.login = grind (arith, nat_tests) in
    let i : a.list ≡ b.list = grind (arith, nat_tests) in
    let n : a.number ≡ b.number = grind (arith, nat_tests) in
    let s : a.slot ≡ b.slot = grind (arith, nat_tests) in
    let x : a.serial ≡ b.serial = grind (arith, nat_tests) in
    ap (λ (v : ℕ). ticket v a.list a.number a.slot a.serial) l
    ∙ ap (λ (v : ℕ). ticket b.login v a.number a.slot a.serial) i
    ∙ ap (λ (v : ℕ). ticket b.login b.list v a.slot a.serial) n
    ∙ ap (λ (v : ℕ). ticket b.login b.list b.number v a.serial) s
    ∙ ap (λ (v : ℕ). ticket b.login b.list b.number b.slot v) x

pub ticket_itself : (a : TicketParts) → is_ticket a a ≡ true
ticket_itself a = grind (arith, nat_tests)

pub set_here : (slots : List Slot) (k j : ℕ) (x : Slot) → nat_eq j k ≡ true → k < length slots → slot_in (slice_set slots k x) j ≡ x
set_here slots k j x e h = slot_after slots k j x h ∙ ap (λ (b : Bool). cond b x (slot_in slots j)) e

pub set_there : (slots : List Slot) (k j : ℕ) (x : Slot) → nat_eq j k ≡ false → k < length slots → slot_in (slice_set slots k x) j ≡ slot_in slots j
set_there slots k j x e h = slot_after slots k j x h ∙ ap (λ (b : Bool). cond b x (slot_in slots j)) e

pub record Tied (slots : List Slot) (ns : List Note) : Type 0 where
  pub size : length slots ≡ 32
  pub index : (k : ℕ) (t : TicketParts) → k < 32 → (slot_in slots k).last ≡ Some t → t.slot ≡ k
  pub keeps : (t : TicketParts) → waits ns t ≡ true → waiting (slot_in slots t.slot) ≡ Some t
  pub back : (k : ℕ) (t : TicketParts) → k < 32 → waiting (slot_in slots k) ≡ Some t → waits ns t ≡ true

free_waits_in : (state : SlotState) (last : Option TicketParts) (t : TicketParts) → is_free (record { state = state; last = last }) ≡ true → waits_in state last ≡ Some t → ⊥
free_waits_in states.Free last t f e = cc
free_waits_in states.Waiting last t f e = cc
free_waits_in (states.Taken h) last t f e = cc
free_waits_in states.Resting last t f e = cc

pub free_waits : (slot : Slot) (t : TicketParts) → is_free slot ≡ true → waiting slot ≡ Some t → ⊥
free_waits slot t f e = free_waits_in slot.state slot.last t f e

waits_last_in : (state : SlotState) (last : Option TicketParts) (t : TicketParts) → waits_in state last ≡ Some t → last ≡ Some t
waits_last_in states.Free last t e = cc
waits_last_in states.Waiting last t e = e
waits_last_in (states.Taken h) last t e = cc
waits_last_in states.Resting last t e = cc

pub waits_last : (slot : Slot) (t : TicketParts) → waiting slot ≡ Some t → slot.last ≡ Some t
waits_last slot t e = waits_last_in slot.state slot.last t e

-- An ORB that waits has a slot.
pub past_slots : (slots : List Slot) (k : ℕ) (t : TicketParts) → length slots ≡ 32 → waiting (slot_in slots k) ≡ Some t → k < 32
past_slots slots k t l e =
    let past : 32 ≤ k → ⊥ = λ h. let f : waiting (slot_in slots k) ≡ None = ap waiting (get_or_past slots k unused (omega arith)) in cc in
    grind arith

-- Slots that keep what waits in them and was prepared in them last.
tied_map : (slots : List Slot) (ns : List Note) (f : Slot → Slot) → ((s : Slot) → waiting (f s) ≡ waiting s) → ((s : Slot) → (f s).last ≡ s.last) → Tied slots ns → Tied (map f slots) ns
tied_map slots ns f w l i =
    let at : (k : ℕ) → k < 32 → slot_in (map f slots) k ≡ f (slot_in slots k) = λ (k : ℕ) (b : k < 32). let n = i.size in get_or-map f slots k unused unused (omega arith) in
    record {
      size = length-map slots f ∙ i.size;
      index = λ k t b e. i.index k t b (sym (ap (λ (s : Slot). s.last) (at k b) ∙ l (slot_in slots k)) ∙ e);
      keeps = λ t e. let g = i.keeps t e in ap waiting (at t.slot (past_slots slots t.slot t i.size g)) ∙ w (slot_in slots t.slot) ∙ g;
      back = λ k t b e. i.back k t b (sym (ap waiting (at k b) ∙ w (slot_in slots k)) ∙ e);
    }

-- No ORB waits any more.
tied_none : (slots : List Slot) (ns ms : List Note) (f : Slot → Slot) → ((s : Slot) → waiting (f s) ≡ None) → ((s : Slot) → (f s).last ≡ s.last) → ((t : TicketParts) → waits ms t ≡ false) → Tied slots ns → Tied (map f slots) ms
tied_none slots ns ms f w l n i =
    let at : (k : ℕ) → k < 32 → slot_in (map f slots) k ≡ f (slot_in slots k) = λ (k : ℕ) (b : k < 32). let n = i.size in get_or-map f slots k unused unused (omega arith) in
    record {
      size = length-map slots f ∙ i.size;
      index = λ k t b e. i.index k t b (sym (ap (λ (s : Slot). s.last) (at k b) ∙ l (slot_in slots k)) ∙ e);
      keeps = λ t e. let g = n t in cc;
      back = λ k t b e. let g : waiting (slot_in (map f slots) k) ≡ None = ap waiting (at k b) ∙ w (slot_in slots k) in cc;
    }

-- The same slots with a note that tells of no waiting ORB.
tied_note : (slots : List Slot) (ns ms : List Note) → ((t : TicketParts) → waits ms t ≡ waits ns t) → Tied slots ns → Tied slots ms
tied_note slots ns ms w i = record {
  size = i.size;
  index = i.index;
  keeps = λ t e. i.keeps t (sym (w t) ∙ e);
  back = λ k t b e. w t ∙ i.back k t b e;
}

or_true : (b : Bool) → (b || true) ≡ true
or_true true = refl
or_true false = refl

-- An ORB is prepared in a free slot.
abbrev fresh : TicketParts → Slot
fresh t = record { state = states.Waiting; last = Some t }

index_added : (slots : List Slot) (t u : TicketParts) (k : ℕ) (b : Bool) → nat_eq k t.slot ≡ b → length slots ≡ 32 → t.slot < 32 → ((slot_in slots k).last ≡ Some u → u.slot ≡ k) → (slot_in (slice_set slots t.slot (fresh t)) k).last ≡ Some u → u.slot ≡ k
index_added slots t u k true e l s i h =
    let n : k ≡ t.slot = grind (arith, nat_tests) in
    let f : Some t ≡ Some u = sym (ap (λ (x : Slot). x.last) (set_here slots t.slot k (fresh t) e (omega arith))) ∙ h in
    let g : t ≡ u = cc in
    sym (ap (λ (x : TicketParts). x.slot) g) ∙ sym n
index_added slots t u k false e l s i h = i (sym (ap (λ (x : Slot). x.last) (set_there slots t.slot k (fresh t) e (omega arith))) ∙ h)

keeps_added : (slots : List Slot) (ns : List Note) (t u : TicketParts) (b c : Bool) → is_ticket t u ≡ b → nat_eq u.slot t.slot ≡ c → length slots ≡ 32 → t.slot < 32 → is_free (slot_in slots t.slot) ≡ true → (waits ns u ≡ true → waiting (slot_in slots u.slot) ≡ Some u) → b || waits ns u ≡ true → waiting (slot_in (slice_set slots t.slot (fresh t)) u.slot) ≡ Some u
keeps_added slots ns t u true c e d l s f i h =
    let g : t ≡ u = same_ticket t u e in
    let n : nat_eq u.slot t.slot ≡ true = let m : u.slot ≡ t.slot = sym (ap (λ (x : TicketParts). x.slot) g) in grind (arith, nat_tests) in
    ap waiting (set_here slots t.slot u.slot (fresh t) n (omega arith)) ∙ ap (λ (x : TicketParts). Some x) g
keeps_added slots ns t u false true e d l s f i h =
    let n : u.slot ≡ t.slot = grind (arith, nat_tests) in
    absurd (free_waits (slot_in slots u.slot) u (ap (λ (k : ℕ). is_free (slot_in slots k)) n ∙ f) (i h))
keeps_added slots ns t u false false e d l s f i h = ap waiting (set_there slots t.slot u.slot (fresh t) d (omega arith)) ∙ i h

back_added : (slots : List Slot) (ns : List Note) (t u : TicketParts) (k : ℕ) (b : Bool) → nat_eq k t.slot ≡ b → length slots ≡ 32 → t.slot < 32 → (waiting (slot_in slots k) ≡ Some u → waits ns u ≡ true) → waiting (slot_in (slice_set slots t.slot (fresh t)) k) ≡ Some u → is_ticket t u || waits ns u ≡ true
back_added slots ns t u k true e l s i h =
    let f : Some t ≡ Some u = sym (ap waiting (set_here slots t.slot k (fresh t) e (omega arith))) ∙ h in
    let g : t ≡ u = cc in
    let n : is_ticket t u ≡ true = subst (λ (x : TicketParts). is_ticket t x ≡ true) g (ticket_itself t) in
    rw n refl
back_added slots ns t u k false e l s i h =
    let n : waits ns u ≡ true = i (sym (ap waiting (set_there slots t.slot k (fresh t) e (omega arith))) ∙ h) in
    rw n (or_true (is_ticket t u))

tied_added : (slots : List Slot) (ns : List Note) (t : TicketParts) (asked : Asked) → t.slot < 32 → is_free (slot_in slots t.slot) ≡ true → Tied slots ns → Tied (slice_set slots t.slot (fresh t)) (Prepared t asked ∷ ns)
tied_added slots ns t asked s f i = record {
  size = length-set slots t.slot (fresh t) ∙ i.size;
  index = λ k u b e. index_added slots t u k _ refl i.size s (i.index k u b) e;
  keeps = λ u e. keeps_added slots ns t u _ _ refl refl i.size s f (i.keeps u) e;
  back = λ k u b e. back_added slots ns t u k _ refl i.size s (i.back k u b) e;
}

-- A status is taken of the ORB that waits in a slot.
abbrev moved : Slot → SlotState → Slot
moved slot state = record slot { state = state }

index_taken : (slots : List Slot) (j k : ℕ) (u : TicketParts) (state : SlotState) (b : Bool) → nat_eq k j ≡ b → length slots ≡ 32 → j < 32 → ((slot_in slots k).last ≡ Some u → u.slot ≡ k) → (slot_in (slice_set slots j (moved (slot_in slots j) state)) k).last ≡ Some u → u.slot ≡ k
index_taken slots j k u state true e l s i h =
    let n : k ≡ j = grind (arith, nat_tests) in
    i (ap (λ (m : ℕ). (slot_in slots m).last) n ∙ sym (ap (λ (x : Slot). x.last) (set_here slots j k (moved (slot_in slots j) state) e (omega arith))) ∙ h)
index_taken slots j k u state false e l s i h = i (sym (ap (λ (x : Slot). x.last) (set_there slots j k (moved (slot_in slots j) state) e (omega arith))) ∙ h)

keeps_taken : (slots : List Slot) (ns : List Note) (j : ℕ) (t u : TicketParts) (state : SlotState) (b c : Bool) → is_ticket t u ≡ b → nat_eq u.slot j ≡ c → length slots ≡ 32 → j < 32 → waiting (slot_in slots j) ≡ Some t → (waits ns u ≡ true → waiting (slot_in slots u.slot) ≡ Some u) → not b && waits ns u ≡ true → waiting (slot_in (slice_set slots j (moved (slot_in slots j) state)) u.slot) ≡ Some u
keeps_taken slots ns j t u state true c e d l s w i h = cc
keeps_taken slots ns j t u state false true e d l s w i h =
    let n : u.slot ≡ j = grind (arith, nat_tests) in
    let f : Some t ≡ Some u = sym w ∙ ap (λ (m : ℕ). waiting (slot_in slots m)) (sym n) ∙ i h in
    let g : t ≡ u = cc in
    let x : is_ticket t u ≡ true = subst (λ (y : TicketParts). is_ticket t y ≡ true) g (ticket_itself t) in
    cc
keeps_taken slots ns j t u state false false e d l s w i h = ap waiting (set_there slots j u.slot (moved (slot_in slots j) state) d (omega arith)) ∙ i h

back_taken : (slots : List Slot) (ns : List Note) (j k : ℕ) (t u : TicketParts) (state : SlotState) (b : Bool) → nat_eq k j ≡ b → length slots ≡ 32 → j < 32 → t.slot ≡ j → u.slot ≡ k → waits_in state (slot_in slots j).last ≡ None → (waiting (slot_in slots k) ≡ Some u → waits ns u ≡ true) → waiting (slot_in (slice_set slots j (moved (slot_in slots j) state)) k) ≡ Some u → not (is_ticket t u) && waits ns u ≡ true
back_taken slots ns j k t u state true e l s p q w i h =
    let f : waiting (slot_in (slice_set slots j (moved (slot_in slots j) state)) k) ≡ None = ap waiting (set_here slots j k (moved (slot_in slots j) state) e (omega arith)) ∙ w in
    cc
back_taken slots ns j k t u state false e l s p q w i h =
    let n : waits ns u ≡ true = i (sym (ap waiting (set_there slots j k (moved (slot_in slots j) state) e (omega arith))) ∙ h) in
    let d : (t.slot == u.slot) ≡ false = grind (arith, nat_tests) in
    let x : is_ticket t u ≡ false = grind (arith, nat_tests) in
    rw (x, n) refl

tied_taken : (slots : List Slot) (ns : List Note) (j : ℕ) (t : TicketParts) (block : StatusBlock) (state : SlotState) → j < 32 → waiting (slot_in slots j) ≡ Some t → ((last : Option TicketParts) → waits_in state last ≡ None) → Tied slots ns → Tied (slice_set slots j (moved (slot_in slots j) state)) (Taken t block ∷ ns)
tied_taken slots ns j t block state s w n i = record {
  size = length-set slots j (moved (slot_in slots j) state) ∙ i.size;
  index = λ k u b e. index_taken slots j k u state _ refl i.size s (i.index k u b) e;
  keeps = λ u e. keeps_taken slots ns j t u state _ _ refl refl i.size s w (i.keeps u) e;
  back = λ k u b e.
      let q = index_taken slots j k u state _ refl i.size s (i.index k u b) (waits_last _ u e) in
      back_taken slots ns j k t u state _ refl i.size s (i.index j t s (waits_last (slot_in slots j) t w)) q (n (slot_in slots j).last) (i.back k u b) e;
}

-- What each call keeps.
over_taken : (list : PresentList) (pinned : Option TicketParts) (state : SlotState) (last : Option TicketParts) → over_in list pinned state last ≡ true → waits_in state last ≡ None
over_taken list pinned states.Free last e = refl
over_taken list pinned states.Waiting last e = cc
over_taken list pinned (states.Taken h) last e = refl
over_taken list pinned states.Resting last e = refl

over_waits : (b : Bool) (slot : Slot) → (b ≡ true → waiting slot ≡ None) → waiting (cond b (moved slot states.Free) slot) ≡ waiting slot
over_waits true slot h = sym (h refl)
over_waits false slot h = refl

over_last : (b : Bool) (slot : Slot) → (cond b (moved slot states.Free) slot).last ≡ slot.last
over_last true slot = refl
over_last false slot = refl

pub released_waits : (present : Option PresentList) (pinned : Option TicketParts) (slot : Slot) → waiting (released present pinned slot) ≡ waiting slot
unfolding released
released_waits None pinned slot = refl
released_waits (Some list) pinned slot = over_waits (is_over list pinned slot) slot (over_taken list pinned slot.state slot.last)

pub released_last : (present : Option PresentList) (pinned : Option TicketParts) (slot : Slot) → (released present pinned slot).last ≡ slot.last
unfolding released
released_last None pinned slot = refl
released_last (Some list) pinned slot = over_last (is_over list pinned slot) slot

tied_swept : (slots : List Slot) (ns : List Note) (present : Option PresentList) (pinned : Option TicketParts) → Tied slots ns → Tied (map (released present pinned) slots) ns
tied_swept slots ns present pinned i = tied_map slots ns (released present pinned) (released_waits present pinned) (released_last present pinned) i

free_found : (found : Option ℕ) (slot : ℕ) → free_slot found ≡ Ok slot → found ≡ Some slot
free_found None slot e = cc
free_found (Some k) slot e = let f : k ≡ slot = cc in ap (λ (n : ℕ). Some n) f

may_found : (mid : Bool) (found : Option ℕ) (slot : ℕ) → cond mid (Err faults.MidLink) (free_slot found) ≡ Ok slot → found ≡ Some slot
may_found true found slot e = cc
may_found false found slot e = free_found found slot e

pub may_lowest : (s : SlotTable) (slot : ℕ) → may_prepare s ≡ Ok slot → lowest s.slots ≡ Some slot
may_lowest s slot e = may_found (is_mid_link s.present) (lowest s.slots) slot e

tied_prepare_at : (s : SlotTable) (m : Memory) (asked : Asked) (ns : List Note) (found : Result ℕ ListFault) → may_prepare s ≡ found → Tied s.slots ns → Tied (prepare_at found s m asked).1.0.slots (if_ok (λ t. Prepared t asked) (prepare_at found s m asked).0 ns)
tied_prepare_at s m asked ns (Err fault) e i = i
tied_prepare_at s m asked ns (Ok slot) e i =
    let p = position-Some is_free s.slots slot unused (may_lowest s slot e) in
    let l : slot < length s.slots = p.0 in
    let n = i.size in
    tied_added s.slots ns (next_ticket s slot asked.login) asked (omega arith) p.1 i

tied_prepare : (s : SlotTable) (m : Memory) (asked : Asked) (ns : List Note) → Tied s.slots ns → Tied (prepare_step s m asked).1.0.slots (if_ok (λ t. Prepared t asked) (prepare_step s m asked).0 ns)
unfolding prepare_step
tied_prepare s m asked ns i = tied_prepare_at s m asked ns (may_prepare s) refl i

tied_low_for : (s : SlotTable) (m : Memory) (ns : List Note) (found : Option Linking) → Tied s.slots ns → Tied (low_for found s m).1.0.slots (if_some (λ linking. LowWritten linking.before linking.tail) found ns)
tied_low_for s m ns None i = i
tied_low_for s m ns (Some l) i = tied_note s.slots ns (LowWritten l.before l.tail ∷ ns) (λ t. refl) i

tied_low : (s : SlotTable) (m : Memory) (ns : List Note) → Tied s.slots ns → Tied (low_step s m).1.0.slots (if_some (λ linking. LowWritten linking.before linking.tail) (waits_low s.present) ns)
unfolding low_step
tied_low s m ns i = tied_low_for s m ns (waits_low s.present) i

tied_high_for : (s : SlotTable) (m : Memory) (ns : List Note) (found : Option Linking) → Tied s.slots ns → Tied (high_for found s m).1.0.slots (if_some (λ linking. Linked linking.before linking.tail) found ns)
tied_high_for s m ns None i = i
tied_high_for s m ns (Some l) i =
    tied_swept s.slots (Linked l.before l.tail ∷ ns) (with_link s links.Done).present s.pinned (tied_note s.slots ns (Linked l.before l.tail ∷ ns) (λ t. refl) i)

tied_high : (s : SlotTable) (m : Memory) (ns : List Note) → Tied s.slots ns → Tied (high_step s m).1.0.slots (if_some (λ linking. Linked linking.before linking.tail) (waits_high s.present) ns)
unfolding high_step
tied_high s m ns i = tied_high_for s m ns (waits_high s.present) i

tied_dummy_at : (s : SlotTable) (m : Memory) (t : TicketParts) (ns : List Note) (found : Result (Unit {0}) ListFault) → Tied s.slots ns → Tied (dummy_at found s m t).1.0.slots (if_ok (λ done. Dummied t) (dummy_at found s m t).0 ns)
tied_dummy_at s m t ns (Err fault) i = i
tied_dummy_at s m t ns (Ok done) i = tied_note s.slots ns (Dummied t ∷ ns) (λ u. refl) i

tied_dummy : (s : SlotTable) (m : Memory) (t : TicketParts) (ns : List Note) → Tied s.slots ns → Tied (dummy_step s m t).1.0.slots (if_ok (λ done. Dummied t) (dummy_step s m t).0 ns)
unfolding dummy_step
tied_dummy s m t ns i = tied_dummy_at s m t ns (checked s t) i

none_after : (b had_next : Bool) (last : Option TicketParts) → waits_in (cond b (states.Taken had_next) states.Resting) last ≡ None
none_after true had_next last = refl
none_after false had_next last = refl

tied_status_at : (s : SlotTable) (m : Memory) (block : StatusBlock) (ns : List Note) (number : ℕ) (found : Option TicketParts) → waiting (slot_in s.slots number) ≡ found → Tied s.slots ns → Tied (status_at found number s m block).1.0.slots (if_ok (λ t. Taken t block) (status_at found number s m block).0 ns)
tied_status_at s m block ns number None e i = i
tied_status_at s m block ns number (Some t) e i =
    tied_swept (slice_set s.slots number (moved (slot_in s.slots number) (state_after block))) (Taken t block ∷ ns) (passed_for s.present t.number) s.pinned
    (tied_taken s.slots ns number t block (state_after block) (past_slots s.slots number t i.size e) e (none_after ((row_of block.kind).resp == 0) (block.src == 0)) i)

tied_status_for : (s : SlotTable) (m : Memory) (block : StatusBlock) (ns : List Note) (found : Option ℕ) → Tied s.slots ns → Tied (status_for found s m block).1.0.slots (if_ok (λ t. Taken t block) (status_for found s m block).0 ns)
tied_status_for s m block ns None i = i
tied_status_for s m block ns (Some number) i = tied_status_at s m block ns number (waiting (slot_in s.slots number)) refl i

tied_status : (s : SlotTable) (m : Memory) (block : StatusBlock) (ns : List Note) → Tied s.slots ns → Tied (status_step s m block).1.0.slots (if_ok (λ t. Taken t block) (status_step s m block).0 ns)
unfolding status_step
tied_status s m block ns i = tied_status_for s m block ns (slot_of block.orb) i

free_none : (state : SlotState) (last : Option TicketParts) → is_free (record { state = state; last = last }) ≡ true → waits_in state last ≡ None
free_none states.Free last f = refl
free_none states.Waiting last f = cc
free_none (states.Taken h) last f = refl
free_none states.Resting last f = refl

rested_when : (b : Bool) (slot : Slot) → is_free slot ≡ b → waiting (cond b slot (moved slot states.Resting)) ≡ None
rested_when true slot e = free_none slot.state slot.last e
rested_when false slot e = refl

pub rested_last : (b : Bool) (slot : Slot) → (cond b slot (moved slot states.Resting)).last ≡ slot.last
rested_last true slot = refl
rested_last false slot = refl

tied_drop_for : (s : SlotTable) (ns : List Note) (found : Option PresentList) → Tied s.slots ns → Tied (drop_for found s).1.slots (if_some (λ number. Dropped number) (drop_for found s).0 ns)
tied_drop_for s ns None i = i
tied_drop_for s ns (Some list) i =
    tied_none s.slots ns (Dropped list.tail.list ∷ ns) rested (λ slot. rested_when (is_free slot) slot refl) (λ slot. rested_last (is_free slot) slot) (λ t. refl) i

tied_drop : (s : SlotTable) (ns : List Note) → Tied s.slots ns → Tied (drop_step s).1.slots (if_some (λ number. Dropped number) (drop_step s).0 ns)
unfolding drop_step
tied_drop s ns i = tied_drop_for s ns s.present i

tied_free_all : (s : SlotTable) (m : Memory) (ns : List Note) → Tied s.slots ns → Tied (free_all_step s m).0.slots (Freed ∷ ns)
unfolding free_all_step
tied_free_all s m ns i = tied_none s.slots ns (Freed ∷ ns) freed (λ slot. refl) (λ slot. refl) (λ t. refl) i

tied_pin_at : (s : SlotTable) (t : TicketParts) (ns : List Note) (found : Result (Unit {0}) ListFault) → Tied s.slots ns → Tied (pin_at found s t).1.slots (if_ok (λ done. Pinned t) (pin_at found s t).0 ns)
tied_pin_at s t ns (Err fault) i = i
tied_pin_at s t ns (Ok done) i = tied_note s.slots ns (Pinned t ∷ ns) (λ u. refl) i

tied_pin : (s : SlotTable) (t : TicketParts) (ns : List Note) → Tied s.slots ns → Tied (pin_step s t).1.slots (if_ok (λ done. Pinned t) (pin_step s t).0 ns)
unfolding pin_step
tied_pin s t ns i = tied_pin_at s t ns (checked s t) i

tied_unpin_for : (s : SlotTable) (m : Memory) (ns : List Note) (pinned : Option TicketParts) → Tied s.slots ns → Tied (unpin_for pinned s m).0.slots (if_some (λ t. Unpinned t) pinned ns)
tied_unpin_for s m ns None i = i
tied_unpin_for s m ns (Some t) i = tied_swept s.slots (Unpinned t ∷ ns) s.present None (tied_note s.slots ns (Unpinned t ∷ ns) (λ u. refl) i)

tied_unpin : (s : SlotTable) (m : Memory) (ns : List Note) → Tied s.slots ns → Tied (unpin_step s m).0.slots (if_some (λ t. Unpinned t) s.pinned ns)
unfolding unpin_step
tied_unpin s m ns i = tied_unpin_for s m ns s.pinned i

tied_call : (call : Call) (s : SlotTable) (m : Memory) (ns : List Note) → Tied s.slots ns → Tied (left_by call s m).0.slots (noted_by call s m ns)
tied_call (Prepare asked) s m ns i = tied_prepare s m asked ns i
tied_call LinkLow s m ns i = tied_low s m ns i
tied_call LinkHigh s m ns i = tied_high s m ns i
tied_call (MakeDummy t) s m ns i = tied_dummy s m t ns i
tied_call (TakeStatus block) s m ns i = tied_status s m block ns i
tied_call DropList s m ns i = tied_drop s ns i
tied_call FreeAll s m ns i = tied_free_all s m ns i
tied_call (Pin t) s m ns i = tied_pin s t ns i
tied_call Unpin s m ns i = tied_unpin s m ns i
tied_call (TryWrite offset bytes) s m ns i = i
tied_call (Fill slot at bytes) s m ns i = i
tied_call (SetQuad offset value) s m ns i = i

tied_new : Tied (replicate 32 unused) []
tied_new = record {
  size = length-replicate 32 unused;
  index = λ k t b e. let f : (slot_in (replicate 32 unused) k).last ≡ None = ap (λ (s : Slot). s.last) (replicated 32 k unused) in cc;
  keeps = λ t e. cc;
  back = λ k t b e. let f : waiting (slot_in (replicate 32 unused) k) ≡ None = ap waiting (replicated 32 k unused) in cc;
}

pub tied_run : (calls : List Call) (quads : List ℕ) → Tied (run calls quads).table.slots (run calls quads).notes
tied_run [] quads = tied_new
tied_run (call ∷ earlier) quads =
    tied_call call (run earlier quads).table (run earlier quads).memory (run earlier quads).notes (tied_run earlier quads)

-- The laws.
prepared_at : (s : SlotTable) (m : Memory) (asked : Asked) (t : TicketParts) (found : Result ℕ ListFault) → (prepare_at found s m asked).0 ≡ Ok t → found ≡ Ok t.slot
prepared_at s m asked t (Err fault) e = cc
prepared_at s m asked t (Ok slot) e =
    let f : next_ticket s slot asked.login ≡ t = cc in
    ap (λ (u : TicketParts). Ok u.slot) f

prepared_lowest : (s : SlotTable) (m : Memory) (asked : Asked) (t : TicketParts) → (prepare_step s m asked).0 ≡ Ok t → lowest s.slots ≡ Some t.slot
unfolding prepare_step
prepared_lowest s m asked t e = may_lowest s t.slot (prepared_at s m asked t (may_prepare s) e)

apart_at : (slots : List Slot) (t u : TicketParts) → waiting (slot_in slots t.slot) ≡ Some t → waiting (slot_in slots u.slot) ≡ Some u → t.slot ≡ u.slot → t ≡ u
apart_at slots t u a b e =
    let f : Some t ≡ Some u = sym a ∙ ap (λ (k : ℕ). waiting (slot_in slots k)) e ∙ b in
    cc

lower_not : (slots : List Slot) (k lower : ℕ) → lowest slots ≡ Some k → lower < k → is_free (slot_in slots lower) ≡ false
lower_not slots k lower e b = (position-Some is_free slots k unused e).2 lower b

pub slots_law : SlotsLaw
slots_law calls quads =
    let r = run calls quads in
    let i = tied_run calls quads in
    record {
      keeps = i.keeps;
      apart = λ t u a b e. apart_at r.table.slots t u (i.keeps t a) (i.keeps u b) e;
      live = i.index;
      free = λ asked t e. (position-Some is_free r.table.slots t.slot unused (prepared_lowest r.table r.memory asked t e)).1;
      lowest = λ asked t lower e b. lower_not r.table.slots t.slot lower (prepared_lowest r.table r.memory asked t e) b;
    }
