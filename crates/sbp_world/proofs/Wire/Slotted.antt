-- The slots of an initiator: the ORBs that wait are of the present list and no later than its last one, and every ORB that has a name is of a
-- list that was begun.
use Rattle.sbp_world.proofs.Words.Std.{slice_set, ◌≡◌, arith, refl, sym, ◌∙◌, ap, subst, nat_eq, length-set, get_or_past, length-map, position-Some, same_Some}
use Rattle.sbp_world.proofs.Words.Initiator.{Memory, slot_of, StatusBlock, row_of, ListFault, Link, Linking, PresentList, SlotState, Slot, TicketParts, SlotTable, checked, drop_for, drop_step, dummy_at, dummy_step, extended, free_all_step, free_state, freed, high_for, high_step, is_free, link_set, list_number, lists_begun, low_for, may_prepare, next_ticket, orb_number, passed_for, pin_at, pin_step, prepare_at, prepare_step, rested, slot_in, state_after, status_at, status_for, swept, unpin_for, unpin_step, unused, waiting, waits_high, waits_in, waits_low, with_link, with_status, released, Asked}
use Rattle.std.specs.Prelude.{ℕ, suc, ◌+◌, ◌<◌, ◌≤◌, ◌==◌, Bool, true, false, cond, List, length, map, Option, Some, None, Result, Ok, Err}
use Rattle.std.proofs.lemmas.List.{get_or-map}
use Rattle.orb_list.specs.declared.list.Link.TheVariants as links
use Rattle.orb_list.specs.declared.slot.SlotState.TheVariants as states
use Rattle.orb_list.specs.Table.{counted, low_step, status_step}
use Rattle.orb_list.proofs.Tied.{may_lowest, past_slots, released_last, released_waits, rested_last, set_here, set_there}

-- the present list, and its last ORB
abbrev pub present_key : Option PresentList → Option (ℕ × ℕ)
present_key None = None
present_key (Some list) = Some (list.tail.list, list.tail.number)

abbrev pub IsOfKey : Option (ℕ × ℕ) → TicketParts → Type 0
IsOfKey None t = ⊥
IsOfKey (Some (n, k)) t = (t.list ≡ n) × (t.number ≤ k)

pub record Slotted (slots : List Slot) (key : Option (ℕ × ℕ)) (begun : ℕ) : Type 0 where
  pub size : length slots ≡ 32
  pub waits : (k : ℕ) (t : TicketParts) → k < 32 → waiting (slot_in slots k) ≡ Some t → IsOfKey key t
  pub last : (k : ℕ) (t : TicketParts) → k < 32 → (slot_in slots k).last ≡ Some t → t.list < begun

abbrev pub SlottedIn : SlotTable → Type 0
SlottedIn s = Slotted s.slots (present_key s.present) s.lists

-- ---- slots
none_some : {A : Type 0} (x : A) → None ≡ Some x → ⊥
none_some x e = cc

mapped : (slots : List Slot) (f : Slot → Slot) (key now : Option (ℕ × ℕ)) (begun : ℕ) → ((s : Slot) (t : TicketParts) → waiting (f s) ≡ Some t → IsOfKey key t → IsOfKey now t) → ((s : Slot) (t : TicketParts) → waiting (f s) ≡ Some t → waiting s ≡ Some t) → ((s : Slot) → (f s).last ≡ s.last) → Slotted slots key begun → Slotted (map f slots) now begun
mapped slots f key now begun g w l h =
    let size = h.size in
    let at : (k : ℕ) → k < 32 → slot_in (map f slots) k ≡ f (slot_in slots k) = λ (k : ℕ) (b : k < 32). get_or-map f slots k unused unused (omega (arith, size, b)) in
    record {
      size = length-map slots f ∙ h.size;
      waits = λ k t b e.
          let x : waiting (f (slot_in slots k)) ≡ Some t = sym (ap waiting (at k b)) ∙ e in
          g (slot_in slots k) t x (h.waits k t b (w (slot_in slots k) t x));
      last = λ k t b e. h.last k t b (sym (ap (λ (s : Slot). s.last) (at k b) ∙ l (slot_in slots k)) ∙ e);
    }

kept_slots : (slots : List Slot) (f : Slot → Slot) (key : Option (ℕ × ℕ)) (begun : ℕ) → ((s : Slot) → waiting (f s) ≡ waiting s) → ((s : Slot) → (f s).last ≡ s.last) → Slotted slots key begun → Slotted (map f slots) key begun
kept_slots slots f key begun w l h = mapped slots f key key begun (λ s t e x. x) (λ s t e. sym (w s) ∙ e) l h

emptied : (slots : List Slot) (f : Slot → Slot) (key : Option (ℕ × ℕ)) (begun : ℕ) → ((s : Slot) → waiting (f s) ≡ None) → ((s : Slot) → (f s).last ≡ s.last) → Slotted slots key begun → Slotted (map f slots) None begun
emptied slots f key begun w l h =
    mapped slots f key None begun (λ s t e x. none_some t (sym (w s) ∙ e)) (λ s t e. absurd (none_some t (sym (w s) ∙ e))) l h

-- a slot whose ORB does not wait any more
unwaited : (slots : List Slot) (number : ℕ) (state : SlotState) (key : Option (ℕ × ℕ)) (begun : ℕ) → number < 32 → ((last : Option TicketParts) → waits_in state last ≡ None) → Slotted slots key begun → Slotted (slice_set slots number (record (slot_in slots number) { state = state })) key begun
unwaited slots number state key begun small none h = record {
  size = length-set slots number (record (slot_in slots number) { state = state }) ∙ h.size;
  waits = λ k t b e. waits_by k t b (nat_eq k number) refl e;
  last = λ k t b e. last_by k t b (nat_eq k number) refl e;
}
  where
    inside : length slots ≡ 32 → number < 32 → number < length slots
    inside a b = omega (arith, a, b)

    waits_by : (k : ℕ) (t : TicketParts) → k < 32 → (c : Bool) → nat_eq k number ≡ c → waiting (slot_in (slice_set slots number (record (slot_in slots number) { state = state })) k) ≡ Some t → IsOfKey key t
    waits_by k t b true c e =
        absurd (none_some t (sym (ap waiting (set_here slots number k (record (slot_in slots number) { state = state }) c (inside h.size small)) ∙ none (slot_in slots number).last) ∙ e))
    waits_by k t b false c e = h.waits k t b (sym (ap waiting (set_there slots number k (record (slot_in slots number) { state = state }) c (inside h.size small))) ∙ e)

    last_by : (k : ℕ) (t : TicketParts) → k < 32 → (c : Bool) → nat_eq k number ≡ c → (slot_in (slice_set slots number (record (slot_in slots number) { state = state })) k).last ≡ Some t → t.list < begun
    last_by k t b true c e =
        h.last number t small (sym (ap (λ (s : Slot). s.last) (set_here slots number k (record (slot_in slots number) { state = state }) c (inside h.size small))) ∙ e)
    last_by k t b false c e = h.last k t b (sym (ap (λ (s : Slot). s.last) (set_there slots number k (record (slot_in slots number) { state = state }) c (inside h.size small))) ∙ e)

-- an ORB is prepared in a slot
abbrev fresh : TicketParts → Slot
fresh t = record { state = states.Waiting; last = Some t }

prepared : (slots : List Slot) (u : TicketParts) (key now : Option (ℕ × ℕ)) (begun begun_now : ℕ) → u.slot < 32 → IsOfKey now u → u.list < begun_now → begun ≤ begun_now → ((t : TicketParts) → IsOfKey key t → IsOfKey now t) → Slotted slots key begun → Slotted (slice_set slots u.slot (fresh u)) now begun_now
prepared slots u key now begun begun_now small own below more wider h = record {
  size = length-set slots u.slot (fresh u) ∙ h.size;
  waits = λ k t b e. waits_by k t b (nat_eq k u.slot) refl e;
  last = λ k t b e. last_by k t b (nat_eq k u.slot) refl e;
}
  where
    inside : length slots ≡ 32 → u.slot < 32 → u.slot < length slots
    inside a b = omega (arith, a, b)

    waits_by : (k : ℕ) (t : TicketParts) → k < 32 → (c : Bool) → nat_eq k u.slot ≡ c → waiting (slot_in (slice_set slots u.slot (fresh u)) k) ≡ Some t → IsOfKey now t
    waits_by k t b true c e = subst (IsOfKey now) (same_Some u t (sym (ap waiting (set_here slots u.slot k (fresh u) c (inside h.size small))) ∙ e)) own
    waits_by k t b false c e = wider t (h.waits k t b (sym (ap waiting (set_there slots u.slot k (fresh u) c (inside h.size small))) ∙ e))

    last_by : (k : ℕ) (t : TicketParts) → k < 32 → (c : Bool) → nat_eq k u.slot ≡ c → (slot_in (slice_set slots u.slot (fresh u)) k).last ≡ Some t → t.list < begun_now
    last_by k t b true c e = subst (λ (x : TicketParts). x.list < begun_now) (same_Some u t (sym (ap (λ (s : Slot). s.last) (set_here slots u.slot k (fresh u) c (inside h.size small))) ∙ e)) below
    last_by k t b false c e =
        let l = h.last k t b (sym (ap (λ (s : Slot). s.last) (set_there slots u.slot k (fresh u) c (inside h.size small))) ∙ e) in
        omega (arith, l, more)

-- ---- steps that change neither the present list and its last ORB nor how many lists were begun
pub record Same (s t : SlotTable) : Type 0 where
  pub key : present_key t.present ≡ present_key s.present
  pub lists : t.lists ≡ s.lists
  pub slots : SlottedIn s → SlottedIn t

same_by : (s t : SlotTable) → present_key t.present ≡ present_key s.present → t.lists ≡ s.lists → (Slotted s.slots (present_key s.present) s.lists → Slotted t.slots (present_key s.present) s.lists) → Same s t
same_by s t key lists slots = record {
  key = key;
  lists = lists;
  slots = λ h. subst (λ k. Slotted t.slots k t.lists) (sym key) (subst (Slotted t.slots (present_key s.present)) (sym lists) (slots h));
}

pub same_itself : (s : SlotTable) → Same s s
same_itself s = record { key = refl; lists = refl; slots = λ h. h }

pub same_then : (s t u : SlotTable) → Same s t → Same t u → Same s u
same_then s t u a b = record { key = b.key ∙ a.key; lists = b.lists ∙ a.lists; slots = λ h. b.slots (a.slots h) }

link_key : (present : Option PresentList) (link : Link) → present_key (link_set present link) ≡ present_key present
link_key None link = refl
link_key (Some list) link = refl

passed_key : (present : Option PresentList) (number : ℕ) → present_key (passed_for present number) ≡ present_key present
passed_key None number = refl
passed_key (Some list) number = refl

same_link : (s : SlotTable) (link : Link) → Same s (with_link s link)
same_link s link = same_by s (with_link s link) (link_key s.present link) refl (λ h. h)

same_swept : (s : SlotTable) → Same s (swept s)
same_swept s =
    same_by s (swept s) refl refl (kept_slots s.slots (released s.present s.pinned) (present_key s.present) s.lists (released_waits s.present s.pinned) (released_last s.present s.pinned))

same_low_for : (s : SlotTable) (m : Memory) (found : Option Linking) → Same s (low_for found s m).1.0
same_low_for s m None = same_itself s
same_low_for s m (Some linking) = same_link s (links.High linking.before)

pub same_low : (s : SlotTable) (m : Memory) → Same s (low_step s m).1.0
unfolding low_step
same_low s m = same_low_for s m (waits_low s.present)

same_high_for : (s : SlotTable) (m : Memory) (found : Option Linking) → Same s (high_for found s m).1.0
same_high_for s m None = same_itself s
same_high_for s m (Some linking) = same_then s (with_link s links.Done) (swept (with_link s links.Done)) (same_link s links.Done) (same_swept (with_link s links.Done))

pub same_high : (s : SlotTable) (m : Memory) → Same s (high_step s m).1.0
unfolding high_step
same_high s m = same_high_for s m (waits_high s.present)

same_dummy_at : (found : Result (Unit {0}) ListFault) (s : SlotTable) (m : Memory) (t : TicketParts) → Same s (dummy_at found s m t).1.0
same_dummy_at (Err fault) s m t = same_itself s
same_dummy_at (Ok done) s m t = same_by s (counted s) refl refl (λ h. h)

pub same_dummy : (s : SlotTable) (m : Memory) (t : TicketParts) → Same s (dummy_step s m t).1.0
unfolding dummy_step
same_dummy s m t = same_dummy_at (checked s t) s m t

same_pin_at : (found : Result (Unit {0}) ListFault) (s : SlotTable) (t : TicketParts) → Same s (pin_at found s t).1
same_pin_at (Err fault) s t = same_itself s
same_pin_at (Ok done) s t = same_by s (counted (record s { pinned = Some t })) refl refl (λ h. h)

pub same_pin : (s : SlotTable) (t : TicketParts) → Same s (pin_step s t).1
unfolding pin_step
same_pin s t = same_pin_at (checked s t) s t

same_unpin_for : (found : Option TicketParts) (s : SlotTable) (m : Memory) → Same s (unpin_for found s m).0
same_unpin_for None s m = same_itself s
same_unpin_for (Some t) s m =
    let u = counted (record s { pinned = None }) in
    same_then s u (swept u) (same_by s u refl refl (λ h. h)) (same_swept u)

pub same_unpin : (s : SlotTable) (m : Memory) → Same s (unpin_step s m).0
unfolding unpin_step
same_unpin s m = same_unpin_for s.pinned s m

-- ---- a status
none_after : (b c : Bool) (last : Option TicketParts) → waits_in (cond b (states.Taken c) states.Resting) last ≡ None
none_after true c last = refl
none_after false c last = refl

same_status_at : (found : Option TicketParts) (number : ℕ) (s : SlotTable) (m : Memory) (block : StatusBlock) → waiting (slot_in s.slots number) ≡ found → length s.slots ≡ 32 → Same s (status_at found number s m block).1.0
same_status_at None number s m block e size = same_itself s
same_status_at (Some t) number s m block e size =
    let u = with_status s number t block in
    same_then s u (swept u)
    (same_by s u (passed_key s.present t.number) refl (unwaited s.slots number (state_after block) (present_key s.present) s.lists (past_slots s.slots number t size e) (none_after ((row_of block.kind).resp == 0) (block.src == 0))))
    (same_swept u)

same_status_for : (found : Option ℕ) (s : SlotTable) (m : Memory) (block : StatusBlock) → length s.slots ≡ 32 → Same s (status_for found s m block).1.0
same_status_for None s m block size = same_itself s
same_status_for (Some number) s m block size = same_status_at (waiting (slot_in s.slots number)) number s m block refl size

pub same_status : (s : SlotTable) (m : Memory) (block : StatusBlock) → length s.slots ≡ 32 → Same s (status_step s m block).1.0
unfolding status_step
same_status s m block size = same_status_for (slot_of block.orb) s m block size

abbrev done : TicketParts → Result TicketParts ListFault
done t = Ok t

ok_is : (x y : TicketParts) → done x ≡ done y → x ≡ y
ok_is x y e = cc

err_ok : (fault : ListFault) (y : TicketParts) → Err fault ≡ done y → ⊥
err_ok fault y e = cc

status_at_ok : (found : Option TicketParts) (number : ℕ) (s : SlotTable) (m : Memory) (block : StatusBlock) (u : TicketParts) → waiting (slot_in s.slots number) ≡ found → SlottedIn s → (status_at found number s m block).0 ≡ Ok u → IsOfKey (present_key s.present) u
status_at_ok None number s m block u w h e = absurd (err_ok _ u e)
status_at_ok (Some t) number s m block u w h e =
    h.waits number u (past_slots s.slots number t h.size w) (w ∙ ap (λ (x : TicketParts). Some x) (ok_is t u e))

status_for_ok : (found : Option ℕ) (s : SlotTable) (m : Memory) (block : StatusBlock) (u : TicketParts) → SlottedIn s → (status_for found s m block).0 ≡ Ok u → IsOfKey (present_key s.present) u
status_for_ok None s m block u h e = absurd (err_ok _ u e)
status_for_ok (Some number) s m block u h e = status_at_ok (waiting (slot_in s.slots number)) number s m block u refl h e

-- the ORB waited
pub status_ok : (s : SlotTable) (m : Memory) (block : StatusBlock) (u : TicketParts) → SlottedIn s → (status_step s m block).0 ≡ Ok u → IsOfKey (present_key s.present) u
unfolding status_step
status_ok s m block u h e = status_for_ok (slot_of block.orb) s m block u h e

-- ---- the list is dropped
free_none : (state : SlotState) (last : Option TicketParts) → free_state state ≡ true → waits_in state last ≡ None
free_none states.Free last f = refl
free_none states.Waiting last f = cc
free_none (states.Taken h) last f = refl
free_none states.Resting last f = refl

rested_none : (b : Bool) (slot : Slot) → is_free slot ≡ b → waiting (cond b slot (record slot { state = states.Resting })) ≡ None
rested_none true slot e = free_none slot.state slot.last e
rested_none false slot e = refl

-- what a drop leaves
pub record Drops (s t : SlotTable) : Type 0 where
  pub key : t.present ≡ None
  pub lists : t.lists ≡ s.lists
  pub slots : SlottedIn s → SlottedIn t

drops_for : (found : Option PresentList) (s : SlotTable) → s.present ≡ found → Drops s (drop_for found s).1
drops_for None s e = record { key = e; lists = refl; slots = λ h. h }
drops_for (Some list) s e = record {
  key = refl;
  lists = refl;
  slots = λ h. emptied s.slots rested (present_key s.present) s.lists (λ slot. rested_none (is_free slot) slot refl) (λ slot. rested_last (is_free slot) slot) h;
}

pub drops : (s : SlotTable) → Drops s (drop_step s).1
unfolding drop_step
drops s = drops_for s.present s refl

drop_is_for : (found : Option PresentList) (s : SlotTable) (n : ℕ) → (drop_for found s).0 ≡ Some n → (k : ℕ) × (present_key found ≡ Some (n, k))
drop_is_for None s n e = absurd (none_some n e)
drop_is_for (Some list) s n e = (list.tail.number, ap (λ x. Some (x, list.tail.number)) (same_Some list.tail.list n e))

pub drop_is : (s : SlotTable) (n : ℕ) → (drop_step s).0 ≡ Some n → (k : ℕ) × (present_key s.present ≡ Some (n, k))
unfolding drop_step
drop_is s n e = drop_is_for s.present s n e

drop_none_for : (found : Option PresentList) (s : SlotTable) → (drop_for found s).0 ≡ None → (drop_for found s).1 ≡ s
drop_none_for None s e = refl
drop_none_for (Some list) s e = absurd (none_some list.tail.list (sym e))

pub drop_none : (s : SlotTable) → (drop_step s).0 ≡ None → (drop_step s).1 ≡ s
unfolding drop_step
drop_none s e = drop_none_for s.present s e

-- all slots are freed where no list is present
pub same_freed : (s : SlotTable) (m : Memory) → s.present ≡ None → Same s (free_all_step s m).0
unfolding free_all_step
same_freed s m n =
    let none : present_key s.present ≡ None = ap present_key n in
    record {
      key = sym none;
      lists = refl;
      slots = λ h. emptied s.slots freed (present_key s.present) s.lists (λ slot. refl) (λ slot. refl) h;
    }

-- ---- an ORB is prepared
pub record Prepares (s t : SlotTable) (u : TicketParts) : Type 0 where
  pub key : present_key t.present ≡ Some (list_number s.present s.lists, orb_number s.present)
  pub lists : t.lists ≡ lists_begun s.present s.lists
  pub slots : SlottedIn s → SlottedIn t
  pub list_is : u.list ≡ list_number s.present s.lists
  pub number_is : u.number ≡ orb_number s.present

extended_key : (present : Option PresentList) (u : TicketParts) → present_key (Some (extended present u)) ≡ Some (u.list, u.number)
extended_key None u = refl
extended_key (Some list) u = refl

-- the list is the latest one
abbrev pub IsLatest : Option (ℕ × ℕ) → (begun : ℕ) → Type 0
IsLatest None begun = Unit {0}
IsLatest (Some (n, k)) begun = suc n ≡ begun

prepared_by : (s : SlotTable) (slot login : ℕ) (found : Option PresentList) → s.present ≡ found → slot < 32 → IsLatest (present_key found) s.lists → Slotted s.slots (present_key found) s.lists → Slotted (slice_set s.slots slot (fresh (next_ticket s slot login))) (Some ((next_ticket s slot login).list, (next_ticket s slot login).number)) (lists_begun found s.lists)
prepared_by s slot login None e small latest h =
    prepared s.slots (next_ticket s slot login) None _ s.lists (s.lists + 1) small (refl, omega arith)
    (let f : list_number s.present s.lists ≡ s.lists = ap (λ p. list_number p s.lists) e in omega (arith, f)) (omega arith) (λ t x. absurd x) h
prepared_by s slot login (Some list) e small latest h =
    prepared s.slots (next_ticket s slot login) (Some (list.tail.list, list.tail.number)) _ s.lists s.lists small (refl, omega arith)
    (let f : list_number s.present s.lists ≡ list.tail.list = ap (λ p. list_number p s.lists) e in omega (arith, f, latest)) (omega arith)
    (λ t x.
    let a = x.0 in
    let b = x.1 in
    let f : list_number s.present s.lists ≡ list.tail.list = ap (λ p. list_number p s.lists) e in
    let g : orb_number s.present ≡ list.tail.number + 1 = ap orb_number e in
    (a ∙ sym f, omega (arith, b, g)))
    h

slot_small : (s : SlotTable) (slot : ℕ) → length s.slots ≡ 32 → may_prepare s ≡ Ok slot → slot < 32
slot_small s slot size e = let p = position-Some is_free s.slots slot unused (may_lowest s slot e) in let l : slot < length s.slots = p.0 in omega (arith, l, size)

prepares_at : (s : SlotTable) (m : Memory) (asked : Asked) (found : Result ℕ ListFault) (u : TicketParts) → may_prepare s ≡ found → IsLatest (present_key s.present) s.lists → (prepare_at found s m asked).0 ≡ Ok u → Prepares s (prepare_at found s m asked).1.0 u
prepares_at s m asked (Err fault) u e latest f = absurd (err_ok fault u f)
prepares_at s m asked (Ok slot) u e latest f =
    let t = next_ticket s slot asked.login in
    let same : t ≡ u = ok_is t u f in
    record {
      key = extended_key s.present t;
      lists = refl;
      slots = λ h.
          subst (λ k. Slotted (slice_set s.slots slot (fresh t)) k (lists_begun s.present s.lists)) (sym (extended_key s.present t))
          (prepared_by s slot asked.login s.present refl (slot_small s slot h.size e) latest h);
      list_is = sym (ap (λ (x : TicketParts). x.list) same);
      number_is = sym (ap (λ (x : TicketParts). x.number) same);
    }

pub prepares : (s : SlotTable) (m : Memory) (asked : Asked) (u : TicketParts) → IsLatest (present_key s.present) s.lists → (prepare_step s m asked).0 ≡ Ok u → Prepares s (prepare_step s m asked).1.0 u
unfolding prepare_step
prepares s m asked u latest f = prepares_at s m asked (may_prepare s) u refl latest f

refused_at : (s : SlotTable) (m : Memory) (asked : Asked) (found : Result ℕ ListFault) (fault : ListFault) → (prepare_at found s m asked).0 ≡ Err fault → (prepare_at found s m asked).1.0 ≡ s
refused_at s m asked (Err other) fault f = refl
refused_at s m asked (Ok slot) fault f = absurd (err_ok fault (next_ticket s slot asked.login) (sym f))

pub refused : (s : SlotTable) (m : Memory) (asked : Asked) (fault : ListFault) → (prepare_step s m asked).0 ≡ Err fault → (prepare_step s m asked).1.0 ≡ s
unfolding prepare_step
refused s m asked fault f = refused_at s m asked (may_prepare s) fault f

-- ---- names
pub last_small : (slots : List Slot) (k : ℕ) (t : TicketParts) → length slots ≡ 32 → (slot_in slots k).last ≡ Some t → k < 32
last_small slots k t size e =
    let past : 32 ≤ k → ⊥ = λ h. let f : (slot_in slots k).last ≡ None = ap (λ (s : Slot). s.last) (get_or_past slots k unused (omega (arith, h, size))) in none_some t (sym f ∙ e) in
    grind arith
