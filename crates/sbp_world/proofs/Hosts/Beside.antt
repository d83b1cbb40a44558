-- Notes that say nothing of an initiator's slots leave its terms, and so does a packet that is sent, but for that of an abort.
use Rattle.sbp_world.proofs.Words.Std.{arith, ◌≡◌, refl, sym, ◌∙◌, ap, subst, ℕ, zero, suc, ◌<◌, ◌==◌, ◌&&◌, not, max, nat_eq, Bool, true, false, cond, List, [], ◌∷◌, length, map, Option, Some, None, Result, Ok, Err, nat_tests, not-true}
use Rattle.sbp_world.proofs.Words.Wire.{Moment, asked, said, wire_terms, Event, Operation, OpWord, Note, NoteBuffer}
use Rattle.sbp_world.proofs.Words.Initiator.{StatusKind, ListFault, PresentList, SlotState, Slot, TicketParts, SlotTable, slot_in, unused, new_table, waiting}
use Rattle.sbp_world.proofs.Words.Laws.{lists, appends, event_of, access_at, Orb, orb, TakenStatus, Row, used, new_slots, pins, lowest_vacant, put_to_rest}
use Rattle.sbp_world.proofs.Words.World.{name, name_in, present_in, ListTerms, terms_at, over_at, StateFits, IfLast, Fits, Frees, Rows, AreRows, is_beside, IsNoAbort}
use Rattle.std.proofs.Common.{slice_set}
use Rattle.bus_memory.proofs.Written.{replicated}
use Rattle.orb_list.specs.declared.fault.ListFault.TheVariants as faults
use Rattle.orb_list.specs.declared.slot.SlotState.TheVariants as states
use Rattle.orb_list.specs.Table as table
use Rattle.orb_list.proofs.Tied.{ticket_itself, waits_last}
use Rattle.sbp_journal.specs.declared.event.Event.TheVariants as events
use Rattle.sbp_journal.specs.declared.event.Action.TheVariants as actions
use Rattle.sbp_journal.specs.declared.operation.Operation.TheVariants as operations
use Rattle.sbp_journal.specs.declared.note.Note.TheVariants as notes
use Rattle.sbp_laws.specs.Lists as terms
use Rattle.sbp_world.specs.Hosts.Fits.{IsOf}
use Rattle.sbp_world.proofs.Hosts.Over.{last_at}
use Rattle.sbp_world.proofs.Hosts.Sweeps.{frees, rests}
use Rattle.sbp_world.proofs.Hosts.Links.{low_terms, link_terms}
use Rattle.sbp_world.proofs.Hosts.Takes.{taken_terms, rows_taken}
use Rattle.sbp_world.proofs.Hosts.Drops.{drop_terms}
use Rattle.sbp_world.proofs.Hosts.Pins.{pin_terms, pinned_table, pinned_rows}
use Rattle.sbp_world.proofs.Common.{itself}

-- ---- at the start

new_slot_at : (k : ℕ) → slot_in new_table.slots k ≡ unused
new_slot_at k = replicated 32 k unused

pub begins : (line i initiators : ℕ) (ready : Bool) → AreRows (said (notes.Begin initiators ready) ∷ asked line (events.Begin initiators ready) ∷ []) i new_table
begins line i initiators ready = record {
  fits = record {
    size = refl;
    present = refl;
    begun = refl;
    pinned = refl;
    held = tt;
    prepared = λ k b. ap (λ (x : Slot). name_in x.last) (sym (new_slot_at k));
    last = λ k b. subst (λ (x : Slot). IfLast 0 (λ n. 0) (λ n l. 0) k x.last) (sym (new_slot_at k)) tt;
    states = λ k b. subst (λ (x : Slot). StateFits None (λ n l. None) x.state x.last) (sym (new_slot_at k)) tt;
    list = tt;
    to_come = record { appended = λ n b. refl; linked = λ n b. refl; lowered = λ n b. refl; passed = λ n b. refl; taken = λ n k b. refl };
  };
  rows_are = refl;
  swept = λ k b. refl;
}

-- ---- a note of another one

beside_of : (T : Bool → ListTerms) (R : Bool → List Row) (s : SlotTable) (f : Row → Row) (b c : Bool) → b ≡ false → c ≡ false → Frees (over_at (T b)) f → Rows (T false) (R false) s → Rows (T b) (map f (R c)) s
beside_of T R s f b c e g h r =
    subst (λ x. Rows (T b) (map f (R x)) s) (sym g)
    (subst (λ y. Frees (over_at (T y)) f → Rows (T y) (map f (R false)) s) (sym e) (λ h. rests (T false) s (R false) f h r) h)

pub turned : (i j : ℕ) → not (nat_eq i j) ≡ true → nat_eq j i ≡ false
turned i j e = let d : nat_eq i j ≡ false = not-true (nat_eq i j) e in grind (arith, nat_tests)

-- ---- the ORB of a number

pub find_waits : (slots : List Slot) (number : ℕ) (u : TicketParts) → table.find_in slots number ≡ Some u → (k : ℕ) × ((k < length slots) × (waiting (slot_in slots k) ≡ Some u))
unfolding table.find_in
find_waits [] number u e = absurd (none e)
  where
    none : None ≡ Some u → ⊥
    none e = cc
find_waits (slot ∷ slots) number u e = by_test (find_waits slots number u) (table.has_number number (waiting slot)) e
  where
    by_test : (table.find_in slots number ≡ Some u → (k : ℕ) × ((k < length slots) × (waiting (slot_in slots k) ≡ Some u))) → (b : Bool) → cond b (waiting slot) (table.find_in slots number) ≡ Some u → (k : ℕ) × ((k < length (slot ∷ slots)) × (waiting (slot_in (slot ∷ slots) k) ≡ Some u))
    by_test behind true e = (0, (omega arith, e))
    by_test behind false e = let f = behind e in let b = f.1.0 in (suc f.0, (omega arith, f.1.1))

found_waits : (s : SlotTable) (u : TicketParts) → table.find_in s.slots u.number ≡ Some u → (k : ℕ) × ((k < length s.slots) × (waiting (slot_in s.slots k) ≡ Some u))
found_waits s u e = find_waits s.slots u.number u e

module _ {t : ListTerms} (s : SlotTable) (f : Fits t s) (u : TicketParts) (w : (k : ℕ) × ((k < length s.slots) × (waiting (slot_in s.slots k) ≡ Some u))) where
  at_number : w.0 < 32
  at_number = let z = f.size in let b = w.1.0 in omega arith

  at_slot : u.slot ≡ w.0
  at_slot = (last_at t s f w.0 u at_number (waits_last (slot_in s.slots w.0) u w.1.1)).slot

  pub found_small : u.slot < 32
  found_small = subst (λ k. k < 32) (sym at_slot) at_number

  pub found_here : waiting (slot_in s.slots u.slot) ≡ Some u
  found_here = ap (λ k. waiting (slot_in s.slots k)) at_slot ∙ w.1.1

  pub found_list : IsOf s.present u
  found_list = waits_of (slot_in s.slots w.0).state (slot_in s.slots w.0).last w.1.1 (f.states w.0 at_number)
    where
      waits_of : (state : SlotState) (last : Option TicketParts) → table.waits_in state last ≡ Some u → StateFits s.present t.taken state last → IsOf s.present u
      waits_of states.Free last e f = cc
      waits_of states.Waiting None e f = absurd f
      waits_of states.Waiting (Some v) e f = let g : v ≡ u = cc in subst (IsOf s.present) g f.0
      waits_of (states.Taken had_next) last e f = cc
      waits_of states.Resting last e f = cc

pub present_of : (present : Option PresentList) (u : TicketParts) → IsOf present u → present_in present ≡ Some u.list
present_of None u h = absurd h
present_of (Some list) u h = ap (λ x. Some x) h

abbrev pub no_fault : Result (Unit {0}) ListFault
no_fault = Ok tt

pub found_checked : (s : SlotTable) (u : TicketParts) → IsOf s.present u → waiting (slot_in s.slots u.slot) ≡ Some u → table.checked s u ≡ no_fault
unfolding table.checked
found_checked s u of w = checked_by (table.is_present s.present u) (table.is_the (waiting (slot_in s.slots u.slot)) u) (is_here s.present of) (ap (λ x. table.is_the x u) w ∙ ticket_itself u)
  where
    is_here : (present : Option PresentList) → IsOf present u → table.is_present present u ≡ true
    is_here None of = absurd of
    is_here (Some list) of = let e : list.tail.list ≡ u.list = of in grind (arith, nat_tests)

    checked_by : (b c : Bool) → b ≡ true → c ≡ true → cond (not b) (Err faults.Stale) (cond c no_fault (Err faults.Taken)) ≡ no_fault
    checked_by true true e g = refl
    checked_by true false e g = cc
    checked_by false c e g = cc

module _ (past : List Moment) (i : ℕ) (s : SlotTable) (r : AreRows past i s) where
  beside_append : (j n k : ℕ) (cdb : List ℕ) (buffer : NoteBuffer) → not (nat_eq i j) ≡ true → AreRows (said (notes.Append j n k cdb buffer) ∷ past) i s
  beside_append j n zero cdb buffer e =
      let now = said (notes.Append j n zero cdb buffer) ∷ past in
      let low = lowest_vacant (terms.slots past j) in
      beside_of (λ b. record {
        present = cond b (Some n) (terms.present_list past i);
        begun = cond b (suc (lists past j)) (lists past i);
        appended = λ m. cond b (cond (nat_eq m n) (suc (appends past j n)) (appends past i m)) (appends past i m);
        linked = λ m. cond b (cond (nat_eq m n) 1 (terms.linked past i m)) (terms.linked past i m);
        lowered = terms.lowered past i;
        passed = terms.passed past i;
        taken = terms.taken_at past i;
        place = λ m l. cond b (cond (nat_eq m n) (cond (nat_eq l 0) low (terms.slot_at past i m l)) (terms.slot_at past i m l)) (terms.slot_at past i m l);
        prepared = λ x. cond b (cond (nat_eq x low) (Some (orb n 0)) (terms.prepared_in past i x)) (terms.prepared_in past i x);
        pinned = terms.pinned_orb past i;
      }) (λ c. cond c (slice_set (terms.slots past i) (lowest_vacant (terms.slots past i)) (used (orb n 0))) (terms.slots past i)) s (terms.freed now i) (nat_eq i j) (nat_eq j i) (not-true (nat_eq i j) e) (turned i j e) (frees now i) r
  beside_append j n (suc k) cdb buffer e =
      let now = said (notes.Append j n (suc k) cdb buffer) ∷ past in
      let low = lowest_vacant (terms.slots past j) in
      beside_of (λ b. record {
        present = cond b (Some n) (terms.present_list past i);
        begun = cond b (cond (nat_eq (suc k) 0) (suc (lists past j)) (lists past j)) (lists past i);
        appended = λ m. cond b (cond (nat_eq m n) (suc (appends past j n)) (appends past i m)) (appends past i m);
        linked = terms.linked past i;
        lowered = terms.lowered past i;
        passed = terms.passed past i;
        taken = terms.taken_at past i;
        place = λ m l. cond b (cond (nat_eq m n) (cond (nat_eq l (suc k)) low (terms.slot_at past i m l)) (terms.slot_at past i m l)) (terms.slot_at past i m l);
        prepared = λ x. cond b (cond (nat_eq x low) (Some (orb n (suc k))) (terms.prepared_in past i x)) (terms.prepared_in past i x);
        pinned = terms.pinned_orb past i;
      }) (λ c. cond c (slice_set (terms.slots past i) (lowest_vacant (terms.slots past i)) (used (orb n (suc k)))) (terms.slots past i)) s (terms.freed now i) (nat_eq i j) (nat_eq j i) (not-true (nat_eq i j) e) (turned i j e) (frees now i) r

  beside_low : (j n k : ℕ) → not (nat_eq i j) ≡ true → AreRows (said (notes.Low j n k) ∷ past) i s
  beside_low j n k e =
      let now = said (notes.Low j n k) ∷ past in
      beside_of (λ b. low_terms b n k (terms_at past i)) (λ c. terms.slots past i) s (terms.freed now i) (nat_eq i j) (nat_eq j i) (not-true (nat_eq i j) e) (turned i j e) (frees now i) r

  beside_linked : (j n k : ℕ) → not (nat_eq i j) ≡ true → AreRows (said (notes.Linked j n k) ∷ past) i s
  beside_linked j n k e =
      let now = said (notes.Linked j n k) ∷ past in
      beside_of (λ b. link_terms b n k (terms_at past i)) (λ c. terms.slots past i) s (terms.freed now i) (nat_eq i j) (nat_eq j i) (not-true (nat_eq i j) e) (turned i j e) (frees now i) r

  beside_taken : (j n k : ℕ) (status : StatusKind) (answer : List ℕ) → not (nat_eq i j) ≡ true → AreRows (said (notes.Taken j n k status answer) ∷ past) i s
  beside_taken j n k status answer e =
      let now = said (notes.Taken j n k status answer) ∷ past in
      let taken : TakenStatus = record { status = status; src = terms.src_in (access_at (wire_terms past) (terms.last_got past)) } in
      beside_of (λ b. taken_terms b n k taken (max (terms.passed past j n) (suc k)) (terms_at past i)) (λ c. rows_taken c n k status (terms.slots past i)) s (terms.freed now i) (nat_eq i j) (nat_eq j i) (not-true (nat_eq i j) e) (turned i j e) (frees now i) r

  beside_drop : (j n : ℕ) → not (nat_eq i j) ≡ true → AreRows (said (notes.Drop j n) ∷ past) i s
  beside_drop j n e =
      let now = said (notes.Drop j n) ∷ past in
      beside_of (λ b. drop_terms b (terms_at past i)) (λ c. cond c (map put_to_rest (terms.slots past i)) (terms.slots past i)) s (terms.freed now i) (nat_eq i j) (nat_eq j i) (not-true (nat_eq i j) e) (turned i j e) (frees now i) r

  beside_abort : (j : ℕ) (word : OpWord) → not (nat_eq i j) ≡ true → AreRows (said (notes.Op j operations.Abort word) ∷ past) i s
  beside_abort j word e =
      let now = said (notes.Op j operations.Abort word) ∷ past in
      beside_of (λ b. pin_terms b None (terms_at past i)) (λ c. terms.slots past i) s (terms.freed now i) (nat_eq i j) (nat_eq j i) (not-true (nat_eq i j) e) (turned i j e) (frees now i) r

  rest_of : (note : Note) → Frees (over_at (terms_at past i)) (terms.freed (said note ∷ past) i) → Rows (terms_at past i) (map (terms.freed (said note ∷ past) i) (terms.slots past i)) s
  rest_of note h = rests (terms_at past i) s (terms.slots past i) (terms.freed (said note ∷ past) i) h r

  beside_op : (j : ℕ) (operation : Operation) (word : OpWord) → is_beside i (notes.Op j operation word) ≡ true → AreRows (said (notes.Op j operation word) ∷ past) i s
  beside_op j operations.Abort word e = beside_abort j word e
  beside_op j operations.Rom word e = rest_of (notes.Op j operations.Rom word) (frees (said (notes.Op j operations.Rom word) ∷ past) i)
  beside_op j operations.Login word e = rest_of (notes.Op j operations.Login word) (frees (said (notes.Op j operations.Login word) ∷ past) i)
  beside_op j operations.Query word e = rest_of (notes.Op j operations.Query word) (frees (said (notes.Op j operations.Query word) ∷ past) i)
  beside_op j operations.Reconnect word e = rest_of (notes.Op j operations.Reconnect word) (frees (said (notes.Op j operations.Reconnect word) ∷ past) i)
  beside_op j operations.Logout word e = rest_of (notes.Op j operations.Logout word) (frees (said (notes.Op j operations.Logout word) ∷ past) i)
  beside_op j operations.AbortSet word e = rest_of (notes.Op j operations.AbortSet word) (frees (said (notes.Op j operations.AbortSet word) ∷ past) i)
  beside_op j operations.UnitReset word e = rest_of (notes.Op j operations.UnitReset word) (frees (said (notes.Op j operations.UnitReset word) ∷ past) i)
  beside_op j operations.TargetReset word e = rest_of (notes.Op j operations.TargetReset word) (frees (said (notes.Op j operations.TargetReset word) ∷ past) i)
  beside_op j operations.AgentReset word e = rest_of (notes.Op j operations.AgentReset word) (frees (said (notes.Op j operations.AgentReset word) ∷ past) i)
  beside_op j operations.State word e = rest_of (notes.Op j operations.State word) (frees (said (notes.Op j operations.State word) ∷ past) i)
  beside_op j operations.Enable word e = rest_of (notes.Op j operations.Enable word) (frees (said (notes.Op j operations.Enable word) ∷ past) i)

  -- ---- a packet

  -- an abort of another initiator pins no slot of this one
  pins_none : (event : Option Event) (present : Option ℕ) (pinned : Option Orb) → IsNoAbort i event → pins event i present pinned ≡ pinned
  pins_none None present pinned h = refl
  pins_none (Some (events.Act j (actions.Abort k))) None pinned h = refl
  pins_none (Some (events.Act j (actions.Abort k))) (Some n) pinned h =
      let d : nat_eq j i ≡ false = grind (arith, nat_tests) in ap (λ b. cond b (Some (orb n k)) pinned) d
  pins_none (Some (events.Act j actions.Rom)) present pinned h = refl
  pins_none (Some (events.Act j (actions.Login unit reconnect exclusive password))) present pinned h = refl
  pins_none (Some (events.Act j (actions.Query unit))) present pinned h = refl
  pins_none (Some (events.Act j actions.Reconnect)) present pinned h = refl
  pins_none (Some (events.Act j actions.Logout)) present pinned h = refl
  pins_none (Some (events.Act j actions.AbortSet)) present pinned h = refl
  pins_none (Some (events.Act j actions.UnitReset)) present pinned h = refl
  pins_none (Some (events.Act j actions.TargetReset)) present pinned h = refl
  pins_none (Some (events.Act j actions.AgentReset)) present pinned h = refl
  pins_none (Some (events.Act j actions.State)) present pinned h = refl
  pins_none (Some (events.Act j (actions.Dummy k))) present pinned h = refl
  pins_none (Some (events.Act j (actions.Put cmd))) present pinned h = refl
  pins_none (Some (events.Act j (actions.Append cmd))) present pinned h = refl
  pins_none (Some (events.Act j actions.Low)) present pinned h = refl
  pins_none (Some (events.Act j actions.Link)) present pinned h = refl
  pins_none (Some (events.Act j actions.Ring)) present pinned h = refl
  pins_none (Some (events.Act j actions.Enable)) present pinned h = refl
  pins_none (Some (events.Begin initiators ready)) present pinned h = refl
  pins_none (Some (events.Reset physical)) present pinned h = refl
  pins_none (Some (events.See node)) present pinned h = refl
  pins_none (Some (events.Deliver serial)) present pinned h = refl
  pins_none (Some (events.Repeat serial)) present pinned h = refl
  pins_none (Some (events.Lose serial)) present pinned h = refl
  pins_none (Some (events.Timeout serial)) present pinned h = refl
  pins_none (Some (events.Step count)) present pinned h = refl
  pins_none (Some events.Settle) present pinned h = refl
  pins_none (Some events.Tick) present pinned h = refl
  pins_none (Some (events.Inject initiator bytes)) present pinned h = refl
  pins_none (Some (events.Key unit key)) present pinned h = refl

  -- what is pinned behind a packet of an initiator is what was before
  pinned_as : (b : Bool) (pinned : Option Orb) (f : Row → Row) → pinned ≡ terms.pinned_orb past i → Frees (over_at (pin_terms b pinned (terms_at past i))) f → Rows (pin_terms b pinned (terms_at past i)) (map f (terms.slots past i)) s
  pinned_as true pinned f e h =
      subst (λ p. Frees (over_at (pin_terms true p (terms_at past i))) f → Rows (pin_terms true p (terms_at past i)) (map f (terms.slots past i)) s) (sym e) (λ g. rests (terms_at past i) s (terms.slots past i) f g r) h
  pinned_as false pinned f e h = rests (terms_at past i) s (terms.slots past i) f h r

  other_pins : (j : ℕ) (b : Bool) (f : Row → Row) → nat_eq i j ≡ b → IsNoAbort i (event_of past) → Frees (over_at (pin_terms b (pins (event_of past) j (terms.present_list past j) (terms.pinned_orb past j)) (terms_at past i))) f → Rows (pin_terms b (pins (event_of past) j (terms.present_list past j) (terms.pinned_orb past j)) (terms_at past i)) (map f (terms.slots past i)) s
  other_pins j false f e n h = rests (terms_at past i) s (terms.slots past i) f h r
  other_pins j true f e n h =
      let same : i ≡ j = grind (arith, nat_tests) in
      pinned_as true (pins (event_of past) j (terms.present_list past j) (terms.pinned_orb past j)) f
      (subst (λ x. pins (event_of past) x (terms.present_list past x) (terms.pinned_orb past x) ≡ terms.pinned_orb past i) same (pins_none (event_of past) (terms.present_list past i) (terms.pinned_orb past i) n)) h

  pub sent_rests : (serial generation from to : ℕ) (bytes : List ℕ) → IsNoAbort i (event_of past) → AreRows (said (notes.Sent serial generation from to bytes) ∷ past) i s
  sent_rests serial generation zero to bytes n = rest_of (notes.Sent serial generation zero to bytes) (frees (said (notes.Sent serial generation zero to bytes) ∷ past) i)
  sent_rests serial generation (suc j) to bytes n =
      let now = said (notes.Sent serial generation (suc j) to bytes) ∷ past in
      other_pins j (nat_eq i j) (terms.freed now i) refl n (frees now i)

  beside_sent : (serial generation from to : ℕ) (bytes : List ℕ) → not (nat_eq from (suc i)) ≡ true → AreRows (said (notes.Sent serial generation from to bytes) ∷ past) i s
  beside_sent serial generation zero to bytes e = rest_of (notes.Sent serial generation zero to bytes) (frees (said (notes.Sent serial generation zero to bytes) ∷ past) i)
  beside_sent serial generation (suc j) to bytes e =
      let now = said (notes.Sent serial generation (suc j) to bytes) ∷ past in
      let d : nat_eq (suc j) (suc i) ≡ false = not-true (nat_eq (suc j) (suc i)) e in
      let c : nat_eq i j ≡ false = grind (arith, nat_tests) in
      beside_of (λ b. pin_terms b (pins (event_of past) j (terms.present_list past j) (terms.pinned_orb past j)) (terms_at past i)) (λ x. terms.slots past i) s (terms.freed now i) (nat_eq i j) false c refl (frees now i) r

  beside_seen : (node generation : ℕ) → not (nat_eq node (suc i)) ≡ true → AreRows (said (notes.Seen node generation) ∷ past) i s
  beside_seen zero generation e =
      let now = said (notes.Seen zero generation) ∷ past in
      beside_of (λ b. terms_at past i) (λ c. cond (c && not (generation == (wire_terms past).generation zero)) new_slots (terms.slots past i)) s (terms.freed now i) false (nat_eq zero (suc i)) refl (not-true (nat_eq zero (suc i)) e) (frees now i) r
  beside_seen (suc j) generation e =
      let now = said (notes.Seen (suc j) generation) ∷ past in
      let d : nat_eq (suc j) (suc i) ≡ false = not-true (nat_eq (suc j) (suc i)) e in
      let c : nat_eq i j ≡ false = grind (arith, nat_tests) in
      beside_of (λ b. pin_terms b (cond (generation == (wire_terms past).generation (suc j)) (terms.pinned_orb past j) None) (terms_at past i)) (λ c. cond (c && not (generation == (wire_terms past).generation (suc j))) new_slots (terms.slots past i)) s (terms.freed now i) (nat_eq i j) (nat_eq (suc j) (suc i)) c d (frees now i) r

  pub beside_rests : (note : Note) → is_beside i note ≡ true → AreRows (said note ∷ past) i s
  beside_rests (notes.Append j n k cdb buffer) e = beside_append j n k cdb buffer e
  beside_rests (notes.Low j n k) e = beside_low j n k e
  beside_rests (notes.Linked j n k) e = beside_linked j n k e
  beside_rests (notes.Taken j n k status answer) e = beside_taken j n k status answer e
  beside_rests (notes.Drop j n) e = beside_drop j n e
  beside_rests (notes.Op j operation word) e = beside_op j operation word e
  beside_rests (notes.Sent serial generation from to bytes) e = beside_sent serial generation from to bytes e
  beside_rests (notes.Seen node generation) e = beside_seen node generation e
  beside_rests (notes.Begin initiators ready) e = rest_of (notes.Begin initiators ready) (frees (said (notes.Begin initiators ready) ∷ past) i)
  beside_rests (notes.Rung j n k) e = rest_of (notes.Rung j n k) (frees (said (notes.Rung j n k) ∷ past) i)
  beside_rests (notes.Dummied j n k) e = rest_of (notes.Dummied j n k) (frees (said (notes.Dummied j n k) ∷ past) i)
  beside_rests (notes.Injected serial) e = rest_of (notes.Injected serial) (frees (said (notes.Injected serial) ∷ past) i)
  beside_rests (notes.Got serial) e = rest_of (notes.Got serial) (frees (said (notes.Got serial) ∷ past) i)
  beside_rests (notes.Ignored serial cause) e = rest_of (notes.Ignored serial cause) (frees (said (notes.Ignored serial cause) ∷ past) i)
  beside_rests (notes.Lost serial) e = rest_of (notes.Lost serial) (frees (said (notes.Lost serial) ∷ past) i)
  beside_rests (notes.TimedOut serial) e = rest_of (notes.TimedOut serial) (frees (said (notes.TimedOut serial) ∷ past) i)
  beside_rests (notes.Ran j n k at cdb bytes check) e = rest_of (notes.Ran j n k at cdb bytes check) (frees (said (notes.Ran j n k at cdb bytes check) ∷ past) i)
  beside_rests (notes.Ended j n k status) e = rest_of (notes.Ended j n k status) (frees (said (notes.Ended j n k status) ∷ past) i)
  beside_rests (notes.Cut j n cause) e = rest_of (notes.Cut j n cause) (frees (said (notes.Cut j n cause) ∷ past) i)
  beside_rests (notes.Dead j n cause) e = rest_of (notes.Dead j n cause) (frees (said (notes.Dead j n cause) ∷ past) i)
  beside_rests (notes.Managed j word subject status login) e = rest_of (notes.Managed j word subject status login) (frees (said (notes.Managed j word subject status login) ∷ past) i)
  beside_rests (notes.ManageFailed j cause) e = rest_of (notes.ManageFailed j cause) (frees (said (notes.ManageFailed j cause) ∷ past) i)
  beside_rests (notes.Held id) e = rest_of (notes.Held id) (frees (said (notes.Held id) ∷ past) i)
  beside_rests (notes.Expired id) e = rest_of (notes.Expired id) (frees (said (notes.Expired id) ∷ past) i)
  beside_rests (notes.Back id) e = rest_of (notes.Back id) (frees (said (notes.Back id) ∷ past) i)
  beside_rests (notes.Left id) e = rest_of (notes.Left id) (frees (said (notes.Left id) ∷ past) i)
  beside_rests (notes.Cleared at) e = rest_of (notes.Cleared at) (frees (said (notes.Cleared at) ∷ past) i)
  beside_rests (notes.Stuck j) e = rest_of (notes.Stuck j) (frees (said (notes.Stuck j) ∷ past) i)
  beside_rests (notes.Reset generation) e = rest_of (notes.Reset generation) (frees (said (notes.Reset generation) ∷ past) i)
  beside_rests notes.Tick e = rest_of notes.Tick (frees (said notes.Tick ∷ past) i)
  beside_rests (notes.Refused line number) e = rest_of (notes.Refused line number) (frees (said (notes.Refused line number) ∷ past) i)
  beside_rests notes.Settled e = rest_of notes.Settled (frees (said notes.Settled ∷ past) i)
  beside_rests notes.Stopped e = rest_of notes.Stopped (frees (said notes.Stopped ∷ past) i)
  beside_rests (notes.Key at) e = rest_of (notes.Key at) (frees (said (notes.Key at) ∷ past) i)
  beside_rests (notes.Unsolicited j) e = rest_of (notes.Unsolicited j) (frees (said (notes.Unsolicited j) ∷ past) i)
  beside_rests (notes.Unsent j) e = rest_of (notes.Unsent j) (frees (said (notes.Unsent j) ∷ past) i)
  beside_rests (notes.Told j) e = rest_of (notes.Told j) (frees (said (notes.Told j) ∷ past) i)

  -- ---- the request of an abort

  pub pin_told : (serial generation to : ℕ) (bytes : List ℕ) (u : TicketParts) → event_of past ≡ Some (events.Act i (actions.Abort u.number)) → s.pinned ≡ None → table.find_in s.slots u.number ≡ Some u → AreRows (said (notes.Sent serial generation (suc i) to bytes) ∷ past) i (table.pin_step s u).1
  unfolding table.pin_step
  pin_told serial generation to bytes u line none found =
      let now = said (notes.Sent serial generation (suc i) to bytes) ∷ past in
      let w = found_waits s u found in
      let small = found_small s r.fits u w in
      let here = found_here s r.fits u w in
      let of_list = found_list s r.fits u w in
      subst (λ x. AreRows now i (table.pin_at x s u).1) (sym (found_checked s u of_list here))
      (subst (λ b. Frees (over_at (pin_terms b (pins (event_of past) i (terms.present_list past i) (terms.pinned_orb past i)) (terms_at past i))) (terms.freed now i) → Rows (pin_terms b (pins (event_of past) i (terms.present_list past i) (terms.pinned_orb past i)) (terms_at past i)) (map (terms.freed now i) (terms.slots past i)) (pinned_table s (Some u))) (sym (itself i))
      (subst (λ p. Frees (over_at (pin_terms true p (terms_at past i))) (terms.freed now i) → Rows (pin_terms true p (terms_at past i)) (map (terms.freed now i) (terms.slots past i)) (pinned_table s (Some u))) (sym (pins_this of_list))
      (λ h. pinned_rows (terms_at past i) (terms.slots past i) s u (terms.freed now i) r none small here h)) (frees now i))
    where
      pins_this : IsOf s.present u → pins (event_of past) i (terms.present_list past i) (terms.pinned_orb past i) ≡ Some (name u)
      pins_this of =
          ap (λ e. pins e i (terms.present_list past i) (terms.pinned_orb past i)) line
          ∙ (ap (λ p. pins (Some (events.Act i (actions.Abort u.number))) i p (terms.pinned_orb past i)) (r.fits.present ∙ present_of s.present u of)
          ∙ ap (λ b. cond b (Some (name u)) (terms.pinned_orb past i)) (itself i))
