-- The slots of ORBs that are not over, and their next pointers.
use Rattle.sbp_world.proofs.Words.Std.{arith, ◌≡◌, refl, sym, ◌∙◌, ap, subst, ℕ, ◌+◌, ◌<◌, ◌≤◌, ◌==◌, ◌&&◌, ◌||◌, not, nat_eq, Bool, true, false, cond, List, [], ◌∷◌, length, map, Option, Some, None, Result, Ok, Err, length-set, nat_tests, position-Some, unwrap_or}
use Rattle.sbp_world.proofs.Words.Initiator.{Memory, slot_of, StatusBlock, row_of, ListFault, Link, Linking, PresentList, SlotState, Slot, dropped_at, free_by, is_linked, is_over_by, is_passed, over_by, status_of, pinned_by, PinsAlone, HoldsLink, HoldsPresent, IsBefore, was_prepared, Kept, in_slot, is_dummy, kept_in, low_is, new_kept, next_is, Asked, Prepare, LinkLow, LinkHigh, MakeDummy, TakeStatus, DropList, FreeAll, Pin, Unpin, TryWrite, Fill, SetQuad, Note, Prepared, LowWritten, Linked, Dummied, Taken, Dropped, Freed, Pinned, Unpinned, if_ok, if_some, left_by, noted_by, run, SlotTable, is_free, is_pinned, may_prepare, next_ticket, slot_in, unused, waits_high, waits_low, TicketParts, is_ticket}
use Rattle.sbp_world.proofs.Words.World.{KeepingLaw, linked_as, points_to}
use Rattle.std.proofs.Common.{slice_set}
use Rattle.bus_memory.proofs.Written.{replicated}
use Rattle.orb_list.specs.declared.list.Link.TheVariants as links
use Rattle.orb_list.specs.declared.slot.SlotState.TheVariants as states
use Rattle.orb_list.specs.Runs.{Call}
use Rattle.orb_list.specs.Table as table
use Rattle.orb_list.proofs.Frees.{free_law}
use Rattle.orb_list.proofs.Keeps.{keeps_law}
use Rattle.orb_list.proofs.Steps.{held_law}
use Rattle.orb_list.proofs.Tied.{may_lowest, past_slots, released_last, rested_last, same_ticket, set_here, set_there, ticket_itself, tied_run}
use Rattle.sbp_world.specs.Hosts.Keeping.{HasSlot, asked_for}
use Rattle.sbp_world.proofs.Hosts.Appends.{added_to}
use Rattle.sbp_world.proofs.Hosts.Sweeps.{map_at}

-- ---- when an ORB is not over

-- what stands before a drop was not taken, linked or passed either
status_before : (ns before : List Note) (list : ℕ) (t : TicketParts) → dropped_at ns list ≡ Some before → status_of ns t ≡ None → status_of before t ≡ None
status_before [] before list t d e = absurd (none d)
  where
    none : None ≡ Some before → ⊥
    none d = cc
status_before (Taken u block ∷ ns) before list t d e = status_before ns before list t d (behind (is_ticket u t) e)
  where
    behind : (b : Bool) → cond b (Some block) (status_of ns t) ≡ None → status_of ns t ≡ None
    behind true e = cc
    behind false e = e
status_before (Dropped number ∷ ns) before list t d e = by_list (λ g. status_before ns before list t g e) (number == list) d
  where
    by_list : (dropped_at ns list ≡ Some before → status_of before t ≡ None) → (b : Bool) → cond b (Some ns) (dropped_at ns list) ≡ Some before → status_of before t ≡ None
    by_list f true d = let g : ns ≡ before = cc in subst (λ x. status_of x t ≡ None) g e
    by_list f false d = f d
status_before (Prepared u asked ∷ ns) before list t d e = status_before ns before list t d e
status_before (LowWritten at u ∷ ns) before list t d e = status_before ns before list t d e
status_before (Linked at u ∷ ns) before list t d e = status_before ns before list t d e
status_before (Dummied u ∷ ns) before list t d e = status_before ns before list t d e
status_before (Freed ∷ ns) before list t d e = status_before ns before list t d e
status_before (Pinned u ∷ ns) before list t d e = status_before ns before list t d e
status_before (Unpinned u ∷ ns) before list t d e = status_before ns before list t d e

or_right_off : (a b : Bool) → a || b ≡ false → b ≡ false
or_right_off true b e = cc
or_right_off false b e = e

linked_before : (ns before : List Note) (list n k : ℕ) → dropped_at ns list ≡ Some before → is_linked ns n k ≡ false → is_linked before n k ≡ false
linked_before [] before list n k d e = absurd (none d)
  where
    none : None ≡ Some before → ⊥
    none d = cc
linked_before (Linked at u ∷ ns) before list n k d e = linked_before ns before list n k d (or_right_off ((u.list == n) && (u.number == k)) (is_linked ns n k) e)
linked_before (Dropped number ∷ ns) before list n k d e = by_list (λ g. linked_before ns before list n k g e) (number == list) d
  where
    by_list : (dropped_at ns list ≡ Some before → is_linked before n k ≡ false) → (b : Bool) → cond b (Some ns) (dropped_at ns list) ≡ Some before → is_linked before n k ≡ false
    by_list f true d = let g : ns ≡ before = cc in subst (λ x. is_linked x n k ≡ false) g e
    by_list f false d = f d
linked_before (Prepared u asked ∷ ns) before list n k d e = linked_before ns before list n k d e
linked_before (LowWritten at u ∷ ns) before list n k d e = linked_before ns before list n k d e
linked_before (Dummied u ∷ ns) before list n k d e = linked_before ns before list n k d e
linked_before (Taken u block ∷ ns) before list n k d e = linked_before ns before list n k d e
linked_before (Freed ∷ ns) before list n k d e = linked_before ns before list n k d e
linked_before (Pinned u ∷ ns) before list n k d e = linked_before ns before list n k d e
linked_before (Unpinned u ∷ ns) before list n k d e = linked_before ns before list n k d e

not_taken : (ns : List Note) (t : TicketParts) → status_of ns t ≡ None → is_over_by ns t ≡ false
not_taken ns t e = ap (λ x. over_by x ns t) e

not_linked : (ns : List Note) (t : TicketParts) (found : Option StatusBlock) → is_linked ns t.list (t.number + 1) ≡ false → over_by found ns t ≡ false
not_linked ns t None e = refl
not_linked ns t (Some block) e =
    ap (λ c. ((row_of block.kind).resp == 0) && c && ((block.src == 0) || is_passed ns t.list t.number) && not (is_pinned (pinned_by ns) t)) e
    ∙ off ((row_of block.kind).resp == 0) ((block.src == 0) || is_passed ns t.list t.number) (not (is_pinned (pinned_by ns) t))
  where
    off : (a d q : Bool) → a && false && d && q ≡ false
    off true d q = refl
    off false d q = refl

pub till_taken : (ns : List Note) (t : TicketParts) → status_of ns t ≡ None → free_by ns (Some t) ≡ false
till_taken ns t e = by_drop (dropped_at ns t.list) refl
  where
    by_drop : (d : Option (List Note)) → dropped_at ns t.list ≡ d → is_over_by (unwrap_or d ns) t ≡ false
    by_drop None g = not_taken ns t e
    by_drop (Some before) g = not_taken before t (status_before ns before t.list t g e)

pub till_linked : (ns : List Note) (t : TicketParts) → is_linked ns t.list (t.number + 1) ≡ false → free_by ns (Some t) ≡ false
till_linked ns t e = by_drop (dropped_at ns t.list) refl
  where
    by_drop : (d : Option (List Note)) → dropped_at ns t.list ≡ d → is_over_by (unwrap_or d ns) t ≡ false
    by_drop None g = not_linked ns t (status_of ns t) e
    by_drop (Some before) g = not_linked before t (status_of before t) (linked_before ns before t.list t.list (t.number + 1) g e)

pub till_passed : (ns : List Note) (t : TicketParts) (block : StatusBlock) → dropped_at ns t.list ≡ None → status_of ns t ≡ Some block → (block.src == 0) ≡ false → is_passed ns t.list t.number ≡ false → free_by ns (Some t) ≡ false
till_passed ns t block d e src passed =
    ap (λ x. is_over_by (unwrap_or x ns) t) d
    ∙ (ap (λ x. over_by x ns t) e
    ∙ (ap (λ c. ((row_of block.kind).resp == 0) && is_linked ns t.list (t.number + 1) && (c || is_passed ns t.list t.number) && not (is_pinned (pinned_by ns) t)) src
    ∙ (ap (λ c. ((row_of block.kind).resp == 0) && is_linked ns t.list (t.number + 1) && c && not (is_pinned (pinned_by ns) t)) passed
    ∙ off ((row_of block.kind).resp == 0) (is_linked ns t.list (t.number + 1)))))
  where
    off : (a b : Bool) → a && b && false && not (is_pinned (pinned_by ns) t) ≡ false
    off true true = refl
    off true false = refl
    off false b = refl

-- ---- what is kept of each slot

-- an ORB of the present list is not behind its last one
abbrev pub UpTo : Option PresentList → TicketParts → Type 0
UpTo None t = Unit {0}
UpTo (Some list) t = list.tail.list ≡ t.list → t.number ≤ list.tail.number

pub record KeptFits (present : Option PresentList) (lists : ℕ) (ns : List Note) (k : ℕ) (o : Kept) : Type 0 where
  pub slot : o.ticket.slot ≡ k
  pub list : o.ticket.list < lists
  pub up_to : UpTo present o.ticket
  pub asked : asked_for ns o.ticket ≡ Some o.asked
  pub next : o.next ≡ points_to (linked_as ns o.ticket.list (o.ticket.number + 1))

abbrev pub IfKept : Option PresentList → ℕ → List Note → ℕ → Option Kept → Type 0
IfKept present lists ns k None = Unit {0}
IfKept present lists ns k (Some o) = KeptFits present lists ns k o

-- the ORB that was prepared last in a slot is the one that the image has there
abbrev pub Same : Option TicketParts → Option Kept → Type 0
Same None None = Unit {0}
Same None (Some o) = ⊥
Same (Some t) None = ⊥
Same (Some t) (Some o) = o.ticket ≡ t

-- no ORB behind the last one is linked, nor the last one while its link is not done
abbrev pub EndsAt : Link → ℕ → ℕ
EndsAt links.Done number = number + 1
EndsAt (links.Low before) number = number
EndsAt (links.High before) number = number

pub record ListEnds (lists : ℕ) (ns : List Note) (list : PresentList) : Type 0 where
  pub below : list.tail.list < lists
  pub none : (m : ℕ) → EndsAt list.link list.tail.number ≤ m → linked_as ns list.tail.list m ≡ None

abbrev pub IfEnds : ℕ → List Note → Option PresentList → Type 0
IfEnds lists ns None = Unit {0}
IfEnds lists ns (Some list) = ListEnds lists ns list

-- two slots have no ORBs of one name
abbrev pub Apart : Option Kept → Option Kept → ℕ → ℕ → Type 0
Apart (Some o) (Some p) j k = o.ticket.list ≡ p.ticket.list → o.ticket.number ≡ p.ticket.number → j ≡ k
Apart _ _ j k = Unit {0}

pub record Chained (s : SlotTable) (ns : List Note) : Type 0 where
  pub kept : (k : ℕ) → k < 32 → IfKept s.present s.lists ns k (kept_in ns k)
  pub same : (k : ℕ) → k < 32 → Same (slot_in s.slots k).last (kept_in ns k)
  pub apart : (j k : ℕ) → j < 32 → k < 32 → Apart (kept_in ns j) (kept_in ns k) j k
  pub list : IfEnds s.lists ns s.present
  pub to_come : (n m : ℕ) → s.lists ≤ n → linked_as ns n m ≡ None

kept_as : (present other : Option PresentList) (lists : ℕ) (ns ms : List Note) (k : ℕ) (found : Option Kept) → ((t : TicketParts) → asked_for ms t ≡ asked_for ns t) → ((n m : ℕ) → linked_as ms n m ≡ linked_as ns n m) → ((t : TicketParts) → UpTo present t → UpTo other t) → IfKept present lists ns k found → IfKept other lists ms k found
kept_as present other lists ns ms k None a l u f = tt
kept_as present other lists ns ms k (Some o) a l u f = record {
  slot = f.slot;
  list = f.list;
  up_to = u o.ticket f.up_to;
  asked = a o.ticket ∙ f.asked;
  next = f.next ∙ ap points_to (sym (l o.ticket.list (o.ticket.number + 1)));
}

-- what leaves the ORBs of the slots, and what was linked
chained_by : (s new : SlotTable) (ns ms : List Note) → new.lists ≡ s.lists → ((k : ℕ) → k < 32 → (slot_in new.slots k).last ≡ (slot_in s.slots k).last) → ((k : ℕ) → kept_in ms k ≡ kept_in ns k) → ((t : TicketParts) → asked_for ms t ≡ asked_for ns t) → ((n m : ℕ) → linked_as ms n m ≡ linked_as ns n m) → ((t : TicketParts) → UpTo s.present t → UpTo new.present t) → IfEnds s.lists ns new.present → Chained s ns → Chained new ms
chained_by s new ns ms lists last kept a l u ends c = record {
  kept = λ k b.
      subst (λ x. IfKept new.present x ms k (kept_in ms k)) (sym lists)
      (subst (IfKept new.present s.lists ms k) (sym (kept k)) (kept_as s.present new.present s.lists ns ms k (kept_in ns k) a l u (c.kept k b)));
  same = λ k b. subst (λ x. Same x (kept_in ms k)) (sym (last k b)) (subst (Same (slot_in s.slots k).last) (sym (kept k)) (c.same k b));
  apart = λ j k b d. subst (λ x. Apart x (kept_in ms k) j k) (sym (kept j)) (subst (λ x. Apart (kept_in ns j) x j k) (sym (kept k)) (c.apart j k b d));
  list = subst (λ x. IfEnds x ms new.present) (sym lists) (ends_as new.present ends);
  to_come = λ n m b. l n m ∙ c.to_come n m (subst (λ x. x ≤ n) lists b);
}
  where
    ends_as : (present : Option PresentList) → IfEnds s.lists ns present → IfEnds s.lists ms present
    ends_as None e = tt
    ends_as (Some list) e = record { below = e.below; none = λ m b. l list.tail.list m ∙ e.none m b }

-- a change of an ORB's bytes that leaves its ticket, its request and its next pointer
pub record Leaves (f : Kept → Kept) : Type 0 where
  pub ticket : (o : Kept) → (f o).ticket ≡ o.ticket
  pub asked : (o : Kept) → (f o).asked ≡ o.asked
  pub next : (o : Kept) → (f o).next ≡ o.next

module _ (f : Kept → Kept) (v : Leaves f) (at : ℕ) where
  leaves_if : (b : Bool) (present : Option PresentList) (lists : ℕ) (ns : List Note) (k : ℕ) (o : Kept) → KeptFits present lists ns k o → KeptFits present lists ns k (cond b (f o) o)
  leaves_if false present lists ns k o h = h
  leaves_if true present lists ns k o h = record {
    slot = ap (λ (t : TicketParts). t.slot) (v.ticket o) ∙ h.slot;
    list = subst (λ (t : TicketParts). t.list < lists) (sym (v.ticket o)) h.list;
    up_to = subst (UpTo present) (sym (v.ticket o)) h.up_to;
    asked = ap (asked_for ns) (v.ticket o) ∙ (h.asked ∙ ap (λ x. Some x) (sym (v.asked o)));
    next = v.next o ∙ (h.next ∙ ap (λ (t : TicketParts). points_to (linked_as ns t.list (t.number + 1))) (sym (v.ticket o)));
  }

  leaves_kept : (present : Option PresentList) (lists : ℕ) (ns : List Note) (k : ℕ) (found : Option Kept) → IfKept present lists ns k found → IfKept present lists ns k (in_slot at k f found)
  leaves_kept present lists ns k None h = tt
  leaves_kept present lists ns k (Some o) h = leaves_if (k == at) present lists ns k o h

  ticket_if : (b : Bool) (o : Kept) → (cond b (f o) o).ticket ≡ o.ticket
  ticket_if true o = v.ticket o
  ticket_if false o = refl

  leaves_same : (last : Option TicketParts) (k : ℕ) (found : Option Kept) → Same last found → Same last (in_slot at k f found)
  leaves_same None k None h = tt
  leaves_same None k (Some o) h = h
  leaves_same (Some t) k None h = h
  leaves_same (Some t) k (Some o) h = ticket_if (k == at) o ∙ h

  leaves_apart : (j k : ℕ) (a b : Option Kept) → Apart a b j k → Apart (in_slot at j f a) (in_slot at k f b) j k
  leaves_apart j k None b h = tt
  leaves_apart j k (Some o) None h = tt
  leaves_apart j k (Some o) (Some p) h = λ n m.
      h (sym (ap (λ (t : TicketParts). t.list) (ticket_if (j == at) o)) ∙ (n ∙ ap (λ (t : TicketParts). t.list) (ticket_if (k == at) p)))
      (sym (ap (λ (t : TicketParts). t.number) (ticket_if (j == at) o)) ∙ (m ∙ ap (λ (t : TicketParts). t.number) (ticket_if (k == at) p)))

  -- the same of all slots
  chained_leaves : (s : SlotTable) (ns : List Note) (calls : ℕ) (present : Option PresentList) (ms : List Note) → ((k : ℕ) → kept_in ms k ≡ in_slot at k f (kept_in ns k)) → ((t : TicketParts) → asked_for ms t ≡ asked_for ns t) → ((n m : ℕ) → linked_as ms n m ≡ linked_as ns n m) → ((t : TicketParts) → UpTo s.present t → UpTo present t) → IfEnds s.lists ns present → Chained s ns → Chained (record s { present = present; calls = calls }) ms
  chained_leaves s ns calls present ms kept a l u ends c = record {
    kept = λ k b. subst (IfKept present s.lists ms k) (sym (kept k)) (kept_as s.present present s.lists ns ms k (in_slot at k f (kept_in ns k)) a l u (leaves_kept s.present s.lists ns k (kept_in ns k) (c.kept k b)));
    same = λ k b. subst (Same (slot_in s.slots k).last) (sym (kept k)) (leaves_same (slot_in s.slots k).last k (kept_in ns k) (c.same k b));
    apart = λ j k b d. subst (λ x. Apart x (kept_in ms k) j k) (sym (kept j)) (subst (λ x. Apart (in_slot at j f (kept_in ns j)) x j k) (sym (kept k)) (leaves_apart j k (kept_in ns j) (kept_in ns k) (c.apart j k b d)));
    list = ends_as present ends;
    to_come = λ n m b. l n m ∙ c.to_come n m b;
  }
    where
      ends_as : (p : Option PresentList) → IfEnds s.lists ns p → IfEnds s.lists ms p
      ends_as None e = tt
      ends_as (Some list) e = record { below = e.below; none = λ m b. l list.tail.list m ∙ e.none m b }

low_leaves : (t : TicketParts) → Leaves (low_is t)
low_leaves t = record { ticket = λ o. refl; asked = λ o. refl; next = λ o. refl }

dummy_leaves : Leaves is_dummy
dummy_leaves = record { ticket = λ o. refl; asked = λ o. refl; next = λ o. refl }

-- ---- an ORB is prepared

set_at : (slots : List Slot) (j : ℕ) (x : Slot) (P : ℕ → Slot → Type 0) → length slots ≡ 32 → j < 32 → P j x → ((k : ℕ) → k < 32 → nat_eq k j ≡ false → P k (slot_in slots k)) → (k : ℕ) → k < 32 → P k (slot_in (slice_set slots j x) k)
set_at slots j x P z small here there k b = by_slot (nat_eq k j) refl
  where
    by_slot : (c : Bool) → nat_eq k j ≡ c → P k (slot_in (slice_set slots j x) k)
    by_slot true e =
        let n : j ≡ k = grind (arith, nat_tests) in
        subst (P k) (sym (set_here slots j k x e (omega arith))) (subst (λ m. P m x) n here)
    by_slot false e = subst (P k) (sym (set_there slots j k x e (omega arith))) (there k b e)

-- the list that it is put into
abbrev pub grown : Option PresentList → TicketParts → Link → ℕ → PresentList
grown present u link passed = record { tail = u; link = link; passed = passed }

module _ (s : SlotTable) (ns : List Note) (c : Chained s ns) (u : TicketParts) (asked : Asked) (z : length s.slots ≡ 32) (small : u.slot < 32) (more : ℕ) (lists : s.lists ≤ more) (below : u.list < more) where
  abbrev after : List Note
  after = Prepared u asked ∷ ns

  -- the new ORB is none that there is
  module _ (new : (o : Kept) (k : ℕ) → KeptFits s.present s.lists ns k o → o.ticket.list ≡ u.list → o.ticket.number < u.number) (none : (m : ℕ) → u.number ≤ m → linked_as ns u.list m ≡ None) where
    other_ticket : (o : Kept) (k : ℕ) → KeptFits s.present s.lists ns k o → is_ticket u o.ticket ≡ false
    other_ticket o k f = by_test (is_ticket u o.ticket) refl
      where
        by_test : (b : Bool) → is_ticket u o.ticket ≡ b → b ≡ false
        by_test false e = refl
        by_test true e =
            let g = same_ticket u o.ticket e in
            let l = new o k f (sym (ap (λ (t : TicketParts). t.list) g)) in
            let n : u.number ≡ o.ticket.number = ap (λ (t : TicketParts). t.number) g in
            absurd (omega arith)

    old_kept : (link : Link) (passed k : ℕ) (found : Option Kept) → IfKept s.present s.lists ns k found → IfKept (Some (grown s.present u link passed)) more after k found
    old_kept link passed k None f = tt
    old_kept link passed k (Some o) f = record {
      slot = f.slot;
      list = let l = f.list in omega arith;
      up_to = λ e. let l = new o k f (sym e) in omega arith;
      asked = ap (λ b. cond b (Some asked) (asked_for ns o.ticket)) (other_ticket o k f) ∙ f.asked;
      next = f.next;
    }

    new_fits : (link : Link) (passed : ℕ) → KeptFits (Some (grown s.present u link passed)) more after u.slot (new_kept u asked)
    new_fits link passed = record {
      slot = refl;
      list = below;
      up_to = λ e. omega arith;
      asked = ap (λ b. cond b (Some asked) (asked_for ns u)) (ticket_itself u);
      next = ap points_to (sym (none (u.number + 1) (omega arith)));
    }

    kept_if : (P : Option Kept → Type 0) (b : Bool) (x y : Option Kept) → (b ≡ true → P x) → (b ≡ false → P y) → P (cond b x y)
    kept_if P true x y h i = h refl
    kept_if P false x y h i = i refl

    new_apart : (k : ℕ) → k < 32 → (found : Option Kept) → IfKept s.present s.lists ns k found → Apart (Some (new_kept u asked)) found u.slot k
    new_apart k b None f = tt
    new_apart k b (Some o) f = λ n m. let l = new o k f (sym n) in absurd (omega arith)

    apart_new : (k : ℕ) → k < 32 → (found : Option Kept) → IfKept s.present s.lists ns k found → Apart found (Some (new_kept u asked)) k u.slot
    apart_new k b None f = tt
    apart_new k b (Some o) f = λ n m. let l = new o k f n in absurd (omega arith)

    equal : (k : ℕ) → (k == u.slot) ≡ true → u.slot ≡ k
    equal k e = grind (arith, nat_tests)

    chained_added : (link : Link) (passed calls acts : ℕ) → EndsAt link u.number ≤ u.number + 1 → u.number ≤ EndsAt link u.number → Chained (record { slots = slice_set s.slots u.slot (record { state = states.Waiting; last = Some u }); present = Some (grown s.present u link passed); lists = more; pinned = s.pinned; calls = calls; acts = acts }) after
    chained_added link passed calls acts high low = record {
      kept = λ k b. kept_if (IfKept (Some (grown s.present u link passed)) more after k) (k == u.slot) (Some (new_kept u asked)) (kept_in ns k)
          (λ e. subst (λ m. KeptFits (Some (grown s.present u link passed)) more after m (new_kept u asked)) (equal k e) (new_fits link passed))
          (λ e. old_kept link passed k (kept_in ns k) (c.kept k b));
      same = set_at s.slots u.slot (record { state = states.Waiting; last = Some u }) (λ k (x : Slot). Same x.last (kept_in after k)) z small
          (subst (λ b. Same (Some u) (cond b (Some (new_kept u asked)) (kept_in ns u.slot))) (sym (self u.slot)) refl)
          (λ k b e. subst (λ d. Same (slot_in s.slots k).last (cond d (Some (new_kept u asked)) (kept_in ns k))) (sym e) (c.same k b));
      apart = λ j k b d. kept_if (λ x. Apart x (kept_in after k) j k) (j == u.slot) (Some (new_kept u asked)) (kept_in ns j)
          (λ e. kept_if (λ x. Apart (Some (new_kept u asked)) x j k) (k == u.slot) (Some (new_kept u asked)) (kept_in ns k)
          (λ g n m. sym (equal j e) ∙ equal k g)
          (λ g. subst (λ m. Apart (Some (new_kept u asked)) (kept_in ns k) m k) (equal j e) (new_apart k d (kept_in ns k) (c.kept k d))))
          (λ e. kept_if (λ x. Apart (kept_in ns j) x j k) (k == u.slot) (Some (new_kept u asked)) (kept_in ns k)
          (λ g. subst (λ m. Apart (kept_in ns j) (Some (new_kept u asked)) j m) (equal k g) (apart_new j b (kept_in ns j) (c.kept j b)))
          (λ g. c.apart j k b d));
      list = record { below = below; none = λ m b. none m (omega arith) };
      to_come = λ n m b. c.to_come n m (omega arith);
    }
      where
        self : (n : ℕ) → (n == n) ≡ true
        self n = grind (arith, nat_tests)

-- ---- an ORB is linked

module _ (s : SlotTable) (ns : List Note) (c : Chained s ns) (list : PresentList) (before : ℕ) (p : s.present ≡ Some list) (l : list.link ≡ links.High before) (b : IsBefore s.slots list.tail before) where
  abbrev linked : List Note
  linked = Linked before list.tail ∷ ns

  abbrev now : PresentList
  now = record list { link = links.Done }

  ends : ListEnds s.lists ns list
  ends = subst (IfEnds s.lists ns) p c.list

  same_as : (last : Option TicketParts) (found : Option Kept) (o : Kept) → Same last found → last ≡ Some b.orb → found ≡ Some o → o.ticket ≡ b.orb
  same_as None found o h e f = cc
  same_as (Some t) None o h e f = cc
  same_as (Some t) (Some q) o h e f =
      let g : q ≡ o = cc in
      let i : t ≡ b.orb = cc in
      ap (λ (x : Kept). x.ticket) (sym g) ∙ (h ∙ i)

  here : (o : Kept) → kept_in ns before ≡ Some o → o.ticket ≡ b.orb
  here o e = same_as (slot_in s.slots before).last (kept_in ns before) o (c.same before b.in_slot.below) b.in_slot.last e

  is_kept : (last : Option TicketParts) (found : Option Kept) → Same last found → last ≡ Some b.orb → (o : Kept) × (found ≡ Some o)
  is_kept None found h e = cc
  is_kept (Some t) None h e = absurd h
  is_kept (Some t) (Some o) h e = (o, refl)

  up_to_now : (t : TicketParts) → UpTo s.present t → UpTo (Some now) t
  up_to_now t h = let g : UpTo (Some list) t = subst (λ x. UpTo x t) p h in g

  -- of another slot, the ORB behind is another one
  other : (k : ℕ) (o : Kept) → k < 32 → (k == before) ≡ false → kept_in ns k ≡ Some o → ((list.tail.list == o.ticket.list) && (list.tail.number == o.ticket.number + 1)) ≡ false
  other k o small e f = by_test ((list.tail.list == o.ticket.list) && (list.tail.number == o.ticket.number + 1)) refl
    where
      by_test : (d : Bool) → ((list.tail.list == o.ticket.list) && (list.tail.number == o.ticket.number + 1)) ≡ d → d ≡ false
      by_test false g = refl
      by_test true g =
          let q = is_kept (slot_in s.slots before).last (kept_in ns before) (c.same before b.in_slot.below) b.in_slot.last in
          let t = here q.0 q.1 in
          let x : list.tail.list ≡ o.ticket.list = grind (arith, nat_tests) in
          let y : list.tail.number ≡ o.ticket.number + 1 = grind (arith, nat_tests) in
          let v = b.list in
          let w = b.before in
          let i : o.ticket.list ≡ q.0.ticket.list = sym x ∙ (sym v ∙ ap (λ (z : TicketParts). z.list) (sym t)) in
          let n : o.ticket.number ≡ b.orb.number = omega arith in
          let j : o.ticket.number ≡ q.0.ticket.number = n ∙ ap (λ (z : TicketParts). z.number) (sym t) in
          let a : Apart (Some o) (Some q.0) k before = subst (λ z. Apart z (Some q.0) k before) f (subst (λ z. Apart (kept_in ns k) z k before) q.1 (c.apart k before small b.in_slot.below)) in
          let m : k ≡ before = a i j in
          absurd (grind (arith, nat_tests))

  behind_it : (o : Kept) → o.ticket ≡ b.orb → ((list.tail.list == o.ticket.list) && (list.tail.number == o.ticket.number + 1)) ≡ true
  behind_it o e =
      let x : o.ticket.list ≡ list.tail.list = ap (λ (z : TicketParts). z.list) e ∙ b.list in
      let w = b.before in
      let n : o.ticket.number ≡ b.orb.number = ap (λ (z : TicketParts). z.number) e in
      let y : list.tail.number ≡ o.ticket.number + 1 = omega arith in
      grind (arith, nat_tests)

  linked_if : (d : Bool) (k : ℕ) (o : Kept) → k < 32 → (k == before) ≡ d → kept_in ns k ≡ Some o → KeptFits s.present s.lists ns k o → KeptFits (Some now) s.lists linked k (cond d (next_is list.tail o) o)
  linked_if true k o small e f h =
      let n : k ≡ before = grind (arith, nat_tests) in
      record {
        slot = h.slot;
        list = h.list;
        up_to = up_to_now o.ticket h.up_to;
        asked = h.asked;
        next = ap (λ d. points_to (cond d (Some list.tail) (linked_as ns o.ticket.list (o.ticket.number + 1)))) (sym (behind_it o (here o (ap (kept_in ns) (sym n) ∙ f))));
      }
  linked_if false k o small e f h = record {
    slot = h.slot;
    list = h.list;
    up_to = up_to_now o.ticket h.up_to;
    asked = h.asked;
    next = h.next ∙ ap (λ d. points_to (cond d (Some list.tail) (linked_as ns o.ticket.list (o.ticket.number + 1)))) (sym (other k o small e f));
  }

  linked_kept : (k : ℕ) (found : Option Kept) → k < 32 → kept_in ns k ≡ found → IfKept s.present s.lists ns k found → IfKept (Some now) s.lists linked k (in_slot before k (next_is list.tail) found)
  linked_kept k None small f h = tt
  linked_kept k (Some o) small f h = linked_if (k == before) k o small refl f h

  next_ticket_same : (d : Bool) (o : Kept) → (cond d (next_is list.tail o) o).ticket ≡ o.ticket
  next_ticket_same true o = refl
  next_ticket_same false o = refl

  linked_same : (last : Option TicketParts) (k : ℕ) (found : Option Kept) → Same last found → Same last (in_slot before k (next_is list.tail) found)
  linked_same None k None h = tt
  linked_same None k (Some o) h = h
  linked_same (Some t) k None h = h
  linked_same (Some t) k (Some o) h = next_ticket_same (k == before) o ∙ h

  linked_apart : (j k : ℕ) (x y : Option Kept) → Apart x y j k → Apart (in_slot before j (next_is list.tail) x) (in_slot before k (next_is list.tail) y) j k
  linked_apart j k None y h = tt
  linked_apart j k (Some o) None h = tt
  linked_apart j k (Some o) (Some q) h = λ n m.
      h (sym (ap (λ (t : TicketParts). t.list) (next_ticket_same (j == before) o)) ∙ (n ∙ ap (λ (t : TicketParts). t.list) (next_ticket_same (k == before) q)))
      (sym (ap (λ (t : TicketParts). t.number) (next_ticket_same (j == before) o)) ∙ (m ∙ ap (λ (t : TicketParts). t.number) (next_ticket_same (k == before) q)))

  chained_linked : (calls : ℕ) → Chained (record s { present = Some now; calls = calls }) linked
  chained_linked calls = record {
    kept = λ k small. linked_kept k (kept_in ns k) small refl (c.kept k small);
    same = λ k small. linked_same (slot_in s.slots k).last k (kept_in ns k) (c.same k small);
    apart = λ j k x y. linked_apart j k (kept_in ns j) (kept_in ns k) (c.apart j k x y);
    list = record {
      below = ends.below;
      none = λ m h. let e : ((list.tail.list == list.tail.list) && (list.tail.number == m)) ≡ false = apart_number m h in ap (λ d. cond d (Some list.tail) (linked_as ns list.tail.list m)) e ∙ ends.none m (subst (λ (x : Link). EndsAt x list.tail.number ≤ m) (sym l) (omega arith));
    };
    to_come = λ n m h. let g = ends.below in let e : ((list.tail.list == n) && (list.tail.number == m)) ≡ false = apart_list n m h in ap (λ d. cond d (Some list.tail) (linked_as ns n m)) e ∙ c.to_come n m h;
  }
    where
      apart_number : (m : ℕ) → list.tail.number + 1 ≤ m → ((list.tail.list == list.tail.list) && (list.tail.number == m)) ≡ false
      apart_number m h = let e : (list.tail.number == m) ≡ false = grind (arith, nat_tests) in ap (λ d. (list.tail.list == list.tail.list) && d) e ∙ off (list.tail.list == list.tail.list)
        where
          off : (a : Bool) → a && false ≡ false
          off true = refl
          off false = refl

      apart_list : (n m : ℕ) → s.lists ≤ n → ((list.tail.list == n) && (list.tail.number == m)) ≡ false
      apart_list n m h = let g = ends.below in let e : (list.tail.list == n) ≡ false = grind (arith, nat_tests) in ap (λ d. d && (list.tail.number == m)) e

-- ---- every call

up_to_none : (old : Option PresentList) (t : TicketParts) → UpTo old t → UpTo None t
up_to_none old t h = tt

up_to_link : (present : Option PresentList) (link : Link) (t : TicketParts) → UpTo present t → UpTo (table.link_set present link) t
up_to_link None link t h = tt
up_to_link (Some list) link t h = h

up_to_passed : (present : Option PresentList) (number : ℕ) (t : TicketParts) → UpTo present t → UpTo (table.passed_for present number) t
up_to_passed None number t h = tt
up_to_passed (Some list) number t h = h

ends_passed : (lists : ℕ) (ns : List Note) (present : Option PresentList) (number : ℕ) → IfEnds lists ns present → IfEnds lists ns (table.passed_for present number)
ends_passed lists ns None number e = tt
ends_passed lists ns (Some list) number e = record { below = e.below; none = e.none }

ends_low : (lists : ℕ) (ns : List Note) (list : PresentList) (before : ℕ) → list.link ≡ links.Low before → ListEnds lists ns list → ListEnds lists ns (record list { link = links.High before })
ends_low lists ns list before l e = record { below = e.below; none = λ m b. e.none m (subst (λ (x : Link). EndsAt x list.tail.number ≤ m) (sym l) b) }

-- the ORB of each slot stays as slots are released, rest or are freed
released_all : (slots : List Slot) (present : Option PresentList) (pinned : Option TicketParts) → length slots ≡ 32 → (k : ℕ) → k < 32 → (slot_in (map (table.released present pinned) slots) k).last ≡ (slot_in slots k).last
released_all slots present pinned z k b = ap (λ (x : Slot). x.last) (map_at (table.released present pinned) slots k z b) ∙ released_last present pinned (slot_in slots k)

rested_all : (slots : List Slot) → length slots ≡ 32 → (k : ℕ) → k < 32 → (slot_in (map table.rested slots) k).last ≡ (slot_in slots k).last
rested_all slots z k b = ap (λ (x : Slot). x.last) (map_at table.rested slots k z b) ∙ rested_last (is_free (slot_in slots k)) (slot_in slots k)

freed_all : (slots : List Slot) → length slots ≡ 32 → (k : ℕ) → k < 32 → (slot_in (map table.freed slots) k).last ≡ (slot_in slots k).last
freed_all slots z k b = ap (λ (x : Slot). x.last) (map_at table.freed slots k z b)

state_all : (slots : List Slot) (j : ℕ) (state : SlotState) → length slots ≡ 32 → j < 32 → (k : ℕ) → k < 32 → (slot_in (slice_set slots j (record (slot_in slots j) { state = state })) k).last ≡ (slot_in slots k).last
state_all slots j state z small = set_at slots j (record (slot_in slots j) { state = state }) (λ k (x : Slot). x.last ≡ (slot_in slots k).last) z small refl (λ k b e. refl)

module _ (s : SlotTable) (m : Memory) (ns : List Note) (z : length s.slots ≡ 32) (sound : HoldsPresent s.slots s.acts s.present) (c : Chained s ns) where
  -- a list begins, or goes on
  chained_first : (slot login : ℕ) (asked : Asked) → slot < 32 → s.present ≡ None → Chained (added_to None s (next_ticket (record s { present = None }) slot login)) (Prepared (next_ticket (record s { present = None }) slot login) asked ∷ ns)
  chained_first slot login asked small n =
      chained_added s ns c (next_ticket (record s { present = None }) slot login) asked z small (s.lists + 1) (omega arith) (omega arith)
      (λ o k f e. let l = f.list in absurd (omega arith))
      (λ x b. c.to_come s.lists x (omega arith))
      links.Done 0 (s.calls + 1) (s.acts + 1) (omega arith) (omega arith)

  ends_by : (lists : ℕ) (list : PresentList) (x : ℕ) (link : Link) → list.tail.number + 1 ≤ x → EndsAt link list.tail.number ≤ x
  ends_by lists list x links.Done b = b
  ends_by lists list x (links.Low before) b = omega arith
  ends_by lists list x (links.High before) b = omega arith

  chained_next : (list : PresentList) (slot login : ℕ) (asked : Asked) → slot < 32 → s.present ≡ Some list → Chained (added_to (Some list) s (next_ticket (record s { present = Some list }) slot login)) (Prepared (next_ticket (record s { present = Some list }) slot login) asked ∷ ns)
  chained_next list slot login asked small n =
      let e : ListEnds s.lists ns list = subst (IfEnds s.lists ns) n c.list in
      let below = e.below in
      chained_added s ns c (next_ticket (record s { present = Some list }) slot login) asked z small s.lists (omega arith) below
      (λ o k f g. let h : UpTo (Some list) o.ticket = subst (λ x. UpTo x o.ticket) n f.up_to in let i = h (sym g) in omega arith)
      (λ x b. e.none x (ends_by s.lists list x list.link b))
      (links.Low list.tail.slot) list.passed (s.calls + 1) (s.acts + 1) (omega arith) (omega arith)

  chained_prepare : (asked : Asked) (found : Result ℕ ListFault) → may_prepare s ≡ found → Chained (table.prepare_at found s m asked).1.0 (if_ok (λ t. Prepared t asked) (table.prepare_at found s m asked).0 ns)
  chained_prepare asked (Err fault) e = c
  chained_prepare asked (Ok slot) e =
      let p = position-Some is_free s.slots slot unused (may_lowest s slot e) in
      let b : slot < length s.slots = p.0 in
      by_list s.present refl (omega arith)
    where
      by_list : (present : Option PresentList) → s.present ≡ present → slot < 32 → Chained (table.added s (next_ticket s slot asked.login)) (Prepared (next_ticket s slot asked.login) asked ∷ ns)
      by_list None n small = subst (λ x. Chained (added_to x s (next_ticket (record s { present = x }) slot asked.login)) (Prepared (next_ticket (record s { present = x }) slot asked.login) asked ∷ ns)) (sym n) (chained_first slot asked.login asked small n)
      by_list (Some list) n small = subst (λ x. Chained (added_to x s (next_ticket (record s { present = x }) slot asked.login)) (Prepared (next_ticket (record s { present = x }) slot asked.login) asked ∷ ns)) (sym n) (chained_next list slot asked.login asked small n)

  -- links
  chained_low_by : (list : PresentList) (link : Link) → s.present ≡ Some list → list.link ≡ link → Chained (table.low_for (table.low_in link list.tail) s m).1.0 (if_some (λ linking. LowWritten linking.before linking.tail) (table.low_in link list.tail) ns)
  chained_low_by list links.Done p l = c
  chained_low_by list (links.High before) p l = c
  chained_low_by list (links.Low before) p l =
      let present = table.link_set s.present (links.High before) in
      chained_leaves (low_is list.tail) (low_leaves list.tail) before s ns (s.calls + 1) present (LowWritten before list.tail ∷ ns) (λ k. refl) (λ t. refl) (λ n k. refl) (up_to_link s.present (links.High before))
      (subst (λ x. IfEnds s.lists ns (table.link_set x (links.High before))) (sym p) (ends_low s.lists ns list before l (subst (IfEnds s.lists ns) p c.list))) c

  chained_low : (present : Option PresentList) → s.present ≡ present → Chained (table.low_for (waits_low present) s m).1.0 (if_some (λ linking. LowWritten linking.before linking.tail) (waits_low present) ns)
  chained_low None p = c
  chained_low (Some list) p = chained_low_by list list.link p refl

  chained_swept : (t : SlotTable) (ms : List Note) → length t.slots ≡ 32 → Chained t ms → Chained (table.swept t) ms
  chained_swept t ms y d = chained_by t (table.swept t) ms ms refl (released_all t.slots t.present t.pinned y) (λ k. refl) (λ t. refl) (λ n k. refl) (λ t h. h) d.list d

  chained_high_by : (list : PresentList) (link : Link) → s.present ≡ Some list → list.link ≡ link → HoldsLink s.slots list.tail link → Chained (table.high_for (table.high_in link list.tail) s m).1.0 (if_some (λ linking. Linked linking.before linking.tail) (table.high_in link list.tail) ns)
  chained_high_by list links.Done p l b = c
  chained_high_by list (links.Low before) p l b = c
  chained_high_by list (links.High before) p l b =
      subst (λ x. Chained (table.swept (record s { present = table.link_set x links.Done; calls = s.calls + 1 })) (Linked before list.tail ∷ ns)) (sym p)
      (chained_swept (record s { present = Some (record list { link = links.Done }); calls = s.calls + 1 }) (Linked before list.tail ∷ ns) z (chained_linked s ns c list before p l b (s.calls + 1)))

  chained_high : (present : Option PresentList) → s.present ≡ present → Chained (table.high_for (waits_high present) s m).1.0 (if_some (λ linking. Linked linking.before linking.tail) (waits_high present) ns)
  chained_high None p = c
  chained_high (Some list) p = let h : HoldsPresent s.slots s.acts (Some list) = subst (HoldsPresent s.slots s.acts) p sound in chained_high_by list list.link p refl h.link

  chained_dummy : (t : TicketParts) (found : Result (Unit {0}) ListFault) → Chained (table.dummy_at found s m t).1.0 (if_ok (λ done. Dummied t) (table.dummy_at found s m t).0 ns)
  chained_dummy t (Err fault) = c
  chained_dummy t (Ok done) = chained_leaves is_dummy dummy_leaves t.slot s ns (s.calls + 1) s.present (Dummied t ∷ ns) (λ k. refl) (λ t. refl) (λ n k. refl) (λ t h. h) c.list c

  chained_status_at : (block : StatusBlock) (number : ℕ) (found : Option TicketParts) → table.waiting (slot_in s.slots number) ≡ found → Chained (table.status_at found number s m block).1.0 (if_ok (λ t. Taken t block) (table.status_at found number s m block).0 ns)
  chained_status_at block number None e = c
  chained_status_at block number (Some u) e =
      let small = past_slots s.slots number u z e in
      let t = table.with_status s number u block in
      let y : length t.slots ≡ 32 = length-set s.slots number (record (slot_in s.slots number) { state = table.state_after block }) ∙ z in
      chained_swept t (Taken u block ∷ ns) y
      (chained_by s t ns (Taken u block ∷ ns) refl (state_all s.slots number (table.state_after block) z small) (λ k. refl) (λ t. refl) (λ n k. refl) (up_to_passed s.present u.number) (ends_passed s.lists ns s.present u.number c.list) c)

  chained_status : (block : StatusBlock) (found : Option ℕ) → Chained (table.status_for found s m block).1.0 (if_ok (λ t. Taken t block) (table.status_for found s m block).0 ns)
  chained_status block None = c
  chained_status block (Some number) = chained_status_at block number (table.waiting (slot_in s.slots number)) refl

  chained_drop : (found : Option PresentList) → Chained (table.drop_for found s).1 (if_some (λ number. Dropped number) (table.drop_for found s).0 ns)
  chained_drop None = c
  chained_drop (Some list) = chained_by s (table.drop_for (Some list) s).1 ns (Dropped list.tail.list ∷ ns) refl (rested_all s.slots z) (λ k. refl) (λ t. refl) (λ n k. refl) (up_to_none s.present) tt c

  chained_pin : (t : TicketParts) (found : Result (Unit {0}) ListFault) → Chained (table.pin_at found s t).1 (if_ok (λ done. Pinned t) (table.pin_at found s t).0 ns)
  chained_pin t (Err fault) = c
  chained_pin t (Ok done) = chained_by s (table.pin_at (Ok done) s t).1 ns (Pinned t ∷ ns) refl (λ k b. refl) (λ k. refl) (λ t. refl) (λ n k. refl) (λ t h. h) c.list c

  chained_unpin : (pinned : Option TicketParts) → Chained (table.unpin_for pinned s m).0 (if_some (λ t. Unpinned t) pinned ns)
  chained_unpin None = c
  chained_unpin (Some t) =
      let u = record s { pinned = None; calls = s.calls + 1 } in
      chained_swept u (Unpinned t ∷ ns) z (chained_by s u ns (Unpinned t ∷ ns) refl (λ k b. refl) (λ k. refl) (λ t. refl) (λ n k. refl) (λ t h. h) c.list c)

  chained_call : (call : Call) → Chained (left_by call s m).0 (noted_by call s m ns)
  unfolding table.prepare_step table.low_step table.high_step table.dummy_step table.status_step table.drop_step table.free_all_step table.pin_step table.unpin_step
  chained_call (Prepare asked) = chained_prepare asked (may_prepare s) refl
  chained_call LinkLow = chained_low s.present refl
  chained_call LinkHigh = chained_high s.present refl
  chained_call (MakeDummy t) = chained_dummy t (table.checked s t)
  chained_call (TakeStatus block) = chained_status block (slot_of block.orb)
  chained_call DropList = chained_drop s.present
  chained_call FreeAll = chained_by s (table.all_freed s) ns (Freed ∷ ns) refl (freed_all s.slots z) (λ k. refl) (λ t. refl) (λ n k. refl) (up_to_none s.present) tt c
  chained_call (Pin t) = chained_pin t (table.checked s t)
  chained_call Unpin = chained_unpin s.pinned
  chained_call (TryWrite offset bytes) = c
  chained_call (Fill slot at bytes) = c
  chained_call (SetQuad offset value) = c

chained_new : Chained table.new_table []
chained_new = record {
  kept = λ k b. tt;
  same = λ k b. subst (λ (x : Slot). Same x.last None) (sym (replicated 32 k unused)) tt;
  apart = λ j k b d. tt;
  list = tt;
  to_come = λ n m b. refl;
}

pub chained_run : (calls : List Call) (quads : List ℕ) → Chained (run calls quads).table (run calls quads).notes
chained_run [] quads = chained_new
chained_run (call ∷ earlier) quads =
    let r = run earlier quads in
    chained_call r.table r.memory r.notes (tied_run earlier quads).size (held_law.run_sound earlier quads).present (chained_run earlier quads) call

-- ---- the law

slot_kept : (last : Option TicketParts) (found : Option Kept) (t : TicketParts) → last ≡ Some t → Same last found → (o : Kept) × ((found ≡ Some o) × (o.ticket ≡ t))
slot_kept None found t e h = cc
slot_kept (Some u) None t e h = absurd h
slot_kept (Some u) (Some o) t e h = let g : u ≡ t = cc in (o, (refl, h ∙ g))

-- an ORB that was prepared has one of the slots
module _ (t : TicketParts) (ns : List Note) where
  quiet_ok : {A : Type 0} (note : A → Note) (r : Result A ListFault) → ((x : A) → was_prepared (note x ∷ ns) t ≡ was_prepared ns t) → was_prepared (if_ok note r ns) t ≡ true → was_prepared ns t ≡ true
  quiet_ok note (Ok x) q e = sym (q x) ∙ e
  quiet_ok note (Err fault) q e = e

  quiet_some : {A : Type 0} (note : A → Note) (r : Option A) → ((x : A) → was_prepared (note x ∷ ns) t ≡ was_prepared ns t) → was_prepared (if_some note r ns) t ≡ true → was_prepared ns t ≡ true
  quiet_some note (Some x) q e = sym (q x) ∙ e
  quiet_some note None q e = e

  small_prepare : (s : SlotTable) (m : Memory) (asked : Asked) (found : Result ℕ ListFault) → may_prepare s ≡ found → length s.slots ≡ 32 → was_prepared (if_ok (λ t. Prepared t asked) (table.prepare_at found s m asked).0 ns) t ≡ true → (was_prepared ns t ≡ true → t.slot < 32) → t.slot < 32
  small_prepare s m asked (Err fault) e z h f = f h
  small_prepare s m asked (Ok slot) e z h f =
      let p = position-Some is_free s.slots slot unused (may_lowest s slot e) in
      let b : slot < length s.slots = p.0 in
      by_test (is_ticket (next_ticket s slot asked.login) t) refl (omega arith) h
    where
      by_test : (b : Bool) → is_ticket (next_ticket s slot asked.login) t ≡ b → slot < 32 → b || was_prepared ns t ≡ true → t.slot < 32
      by_test true g small h = subst (λ (x : TicketParts). x.slot < 32) (same_ticket (next_ticket s slot asked.login) t g) small
      by_test false g small h = f h

  small_call : (call : Call) (s : SlotTable) (m : Memory) → length s.slots ≡ 32 → was_prepared (noted_by call s m ns) t ≡ true → (was_prepared ns t ≡ true → t.slot < 32) → t.slot < 32
  unfolding table.prepare_step table.drop_step
  small_call (Prepare asked) s m z h f = small_prepare s m asked (may_prepare s) refl z h f
  small_call LinkLow s m z h f = f (quiet_some (λ (l : Linking). LowWritten l.before l.tail) (waits_low s.present) (λ x. refl) h)
  small_call LinkHigh s m z h f = f (quiet_some (λ (l : Linking). Linked l.before l.tail) (waits_high s.present) (λ x. refl) h)
  small_call (MakeDummy u) s m z h f = f (quiet_ok (λ done. Dummied u) (table.dummy_step s m u).0 (λ x. refl) h)
  small_call (TakeStatus block) s m z h f = f (quiet_ok (λ u. Taken u block) (table.status_step s m block).0 (λ x. refl) h)
  small_call DropList s m z h f = f (quiet_some (λ number. Dropped number) (table.drop_for s.present s).0 (λ x. refl) h)
  small_call FreeAll s m z h f = absurd (untrue h)
    where
      untrue : false ≡ true → ⊥
      untrue e = cc
  small_call (Pin u) s m z h f = f (quiet_ok (λ done. Pinned u) (table.pin_step s u).0 (λ x. refl) h)
  small_call Unpin s m z h f = f (quiet_some (λ u. Unpinned u) s.pinned (λ x. refl) h)
  small_call (TryWrite offset bytes) s m z h f = f h
  small_call (Fill slot at bytes) s m z h f = f h
  small_call (SetQuad offset value) s m z h f = f h

prepared_small : (calls : List Call) (quads : List ℕ) (t : TicketParts) → was_prepared (run calls quads).notes t ≡ true → t.slot < 32
prepared_small [] quads t h = absurd (untrue h)
  where
    untrue : false ≡ true → ⊥
    untrue e = cc
prepared_small (call ∷ earlier) quads t h =
    let r = run earlier quads in small_call t r.notes call r.table r.memory (tied_run earlier quads).size h (prepared_small earlier quads t)

module _ (calls : List Call) (quads : List ℕ) (t : TicketParts) (pins : PinsAlone calls quads) where
  has_slot : was_prepared (run calls quads).notes t ≡ true → free_by (run calls quads).notes (Some t) ≡ false → HasSlot (run calls quads) t
  has_slot w f =
      let r = run calls quads in
      let small = prepared_small calls quads t w in
      let p = keeps_law.keeps calls quads t pins w f in
      let last = keeps_law.last calls quads t.slot t pins small p in
      let c = chained_run calls quads in
      let k = slot_kept (slot_in r.table.slots t.slot).last (kept_in r.notes t.slot) t last (c.same t.slot small) in
      let fits : KeptFits r.table.present r.table.lists r.notes t.slot k.0 = subst (IfKept r.table.present r.table.lists r.notes t.slot) k.1.0 (c.kept t.slot small) in
      record {
        below = small;
        last = last;
        held = free_law calls quads t.slot pins small ∙ (ap (free_by r.notes) p ∙ f);
        kept = k.0;
        kept_is = k.1.0;
        ticket = k.1.1;
        asked = ap (asked_for r.notes) (sym k.1.1) ∙ fits.asked;
        next = fits.next ∙ ap (λ (x : TicketParts). points_to (linked_as r.notes x.list (x.number + 1))) k.1.1;
      }

one_ticket : (calls : List Call) (quads : List ℕ) (t u : TicketParts) → HasSlot (run calls quads) t → HasSlot (run calls quads) u → t.list ≡ u.list → t.number ≡ u.number → t ≡ u
one_ticket calls quads t u h g n m =
    let r = run calls quads in
    let c = chained_run calls quads in
    let a : Apart (Some h.kept) (Some g.kept) t.slot u.slot =
    subst (λ x. Apart x (Some g.kept) t.slot u.slot) h.kept_is (subst (λ x. Apart (kept_in r.notes t.slot) x t.slot u.slot) g.kept_is (c.apart t.slot u.slot h.below g.below)) in
    let same : t.slot ≡ u.slot = a (ap (λ (x : TicketParts). x.list) h.ticket ∙ (n ∙ ap (λ (x : TicketParts). x.list) (sym g.ticket))) (ap (λ (x : TicketParts). x.number) h.ticket ∙ (m ∙ ap (λ (x : TicketParts). x.number) (sym g.ticket))) in
    let e : Some t ≡ Some u = sym h.last ∙ (ap (λ k. (slot_in r.table.slots k).last) same ∙ g.last) in
    cc

pub keeping_law : KeepingLaw
keeping_law = record {
  has = λ calls quads t p w f. has_slot calls quads t p w f;
  till_taken = till_taken;
  till_linked = till_linked;
  till_passed = till_passed;
  one = one_ticket;
}
