-- The table, the image and the notes of a run, tied.
use Rattle.std.proofs.Common.{arith, ◌≡◌, refl, sym, ◌∙◌, ap, subst, ℕ, ◌+◌, ◌-◌, ◌<◌, ◌≤◌, ◌==◌, ◌||◌, not, nat_eq, Bool, true, false, cond, List, [], ◌∷◌, length, map, Option, Some, None, Result, Ok, Err}
use Rattle.std.proofs.lemmas.Bool.Decides.{nat_tests}
use Rattle.std.proofs.lemmas.List.Quantifiers.{position-Some}
use Rattle.std.proofs.Math.ListN.{length-set}
use Rattle.bus_memory.specs.declared.access.Access.TheVariants.{Write}
use Rattle.bus_memory.specs.declared.access.Rcode.TheVariants.{TypeError}
use Rattle.bus_memory.specs.declared.access.Spot.{Spot}
use Rattle.bus_memory.specs.declared.window.Window.{Window}
use Rattle.bus_memory.specs.declared.window.Window.TheVariants as windows
use Rattle.bus_memory.specs.Windows.{IsWindow, start, is_fifo, slot_of}
use Rattle.bus_memory.specs.Memory.{Memory, new_memory, slot_at, with_bytes}
use Rattle.bus_memory.specs.Access.{judged, judged_at, spot_of, takes_writes, write_at, write_step, set_at, set_step}
use Rattle.bus_memory.specs.Laws.{IsWhole, IsFound, IsInside, size}
use Rattle.bus_memory.proofs.Found.{window_law}
use Rattle.bus_memory.proofs.Written.{whole_set, last_set_law}
use Rattle.sbp_base.specs.Quadlets.{quad, with_quad}
use Rattle.byteorder.specs.Endian.{big_bytes}
use Rattle.orb_layout.specs.declared.pointer.OrbPointer.TheVariants.{Null}
use Rattle.orb_layout.specs.declared.status.StatusBlock.{StatusBlock}
use Rattle.orb_list.specs.declared.fault.ListFault.{ListFault}
use Rattle.orb_list.specs.declared.fault.ListFault.TheVariants as faults
use Rattle.orb_list.specs.declared.list.Link.{Link}
use Rattle.orb_list.specs.declared.list.Link.TheVariants as links
use Rattle.orb_list.specs.declared.list.PresentList.{PresentList}
use Rattle.orb_list.specs.declared.slot.Slot.{Slot}
use Rattle.orb_list.specs.Tickets.{TicketParts}
use Rattle.orb_list.specs.Requests.{Asked, IsRequest}
use Rattle.orb_list.specs.Table as table
use Rattle.orb_list.specs.Table.{SlotTable, slot_in, is_free, unused, waiting, may_prepare, next_ticket, extended, low_of, low_in, high_in, waits_low, waits_high, low_for, high_for, with_link, with_orb_quad, high_of, as_dummy, passed_for, link_set, released, freed, state_after}
use Rattle.orb_list.specs.Runs.{Call, Prepare, LinkLow, LinkHigh, MakeDummy, TakeStatus, DropList, FreeAll, Pin, Unpin, TryWrite, Fill, SetQuad, Note, Prepared, LowWritten, Linked, Dummied, Taken, Dropped, Freed, Pinned, Unpinned, if_ok, if_some, left_by, noted_by, run}
use Rattle.orb_list.specs.Kept.{Kept, new_kept, in_slot, next_is, low_is, is_dummy, kept_in, IsManaged, IsProper, AreProper, ServedLaw}
use Rattle.orb_list.specs.Holds.{HoldsLink, HoldsList, HoldsPresent}
use Rattle.orb_list.proofs.Closed.{closed_whole}
use Rattle.orb_list.proofs.Held.{keeps_written, low_before, high_before}
use Rattle.orb_list.proofs.Sound.{present_released, present_changed, present_added, state_held}
use Rattle.orb_list.proofs.Tied.{Tied, may_lowest, past_slots, tied_run}
use Rattle.orb_list.proofs.Spelled.{IsSpelled, IfSpelled, IsData, if_served, spelled_low, spelled_high, spelled_dummy, spelled_slot, spelled_closed, spelled_data, spelled_written}

abbrev IfNull : Option Kept → Type 0
IfNull None = Unit {0}
IfNull (Some o) = o.next ≡ Null

abbrev IfLow : Option Kept → ℕ → Type 0
IfLow None low = Unit {0}
IfLow (Some o) low = o.low ≡ low

record LowAt (ns : List Note) (tail : TicketParts) (b : ℕ) : Type 0 where
  apart : nat_eq tail.slot b ≡ false
  null : IfNull (kept_in ns b)

record HighAt (ns : List Note) (tail : TicketParts) (b : ℕ) : Type 0 where
  apart : nat_eq tail.slot b ≡ false
  low : IfLow (kept_in ns b) (low_of tail)

abbrev LinkFits : List Note → TicketParts → Link → Type 0
LinkFits ns tail links.Done = Unit {0}
LinkFits ns tail (links.Low b) = LowAt ns tail b
LinkFits ns tail (links.High b) = HighAt ns tail b

abbrev PresentFits : List Note → Option PresentList → Type 0
PresentFits ns None = Unit {0}
PresentFits ns (Some list) = LinkFits ns list.tail list.link × IfNull (kept_in ns list.tail.slot)

-- the part of the tie that the image has
record Imaged (s : SlotTable) (m : Memory) (ns : List Note) : Type 0 where
  sound : HoldsPresent s.slots s.acts s.present
  whole : IsWhole m
  spelled : (j : ℕ) → j < 32 → IfSpelled (kept_in ns j) (slot_at m j)
  fits : PresentFits ns s.present

null_when : (same : Bool) (f : Kept → Kept) (o : Kept) → ((o : Kept) → (f o).next ≡ o.next) → o.next ≡ Null → (cond same (f o) o).next ≡ Null
null_when true f o n i = n o ∙ i
null_when false f o n i = i

null_kept : (b j : ℕ) (f : Kept → Kept) (found : Option Kept) → ((o : Kept) → (f o).next ≡ o.next) → IfNull found → IfNull (in_slot b j f found)
null_kept b j f None n i = tt
null_kept b j f (Some o) n i = null_when (nat_eq j b) f o n i

low_when : (same : Bool) (f : Kept → Kept) (o : Kept) (low : ℕ) → ((o : Kept) → (f o).low ≡ o.low) → o.low ≡ low → (cond same (f o) o).low ≡ low
low_when true f o low n i = n o ∙ i
low_when false f o low n i = i

low_kept : (b j : ℕ) (f : Kept → Kept) (found : Option Kept) (low : ℕ) → ((o : Kept) → (f o).low ≡ o.low) → IfLow found low → IfLow (in_slot b j f found) low
low_kept b j f None low n i = tt
low_kept b j f (Some o) low n i = low_when (nat_eq j b) f o low n i

-- an ORB that is apart from the one that changes
null_apart : (b j : ℕ) (f : Kept → Kept) (found : Option Kept) → nat_eq j b ≡ false → IfNull found → IfNull (in_slot b j f found)
null_apart b j f None e i = tt
null_apart b j f (Some o) e i = ap (λ (s : Bool). (cond s (f o) o).next) e ∙ i

itself : (n : ℕ) → nat_eq n n ≡ true
itself n = grind (arith, nat_tests)

-- An ORB is prepared.
null_new : (ns : List Note) (t : TicketParts) (asked : Asked) → IfNull (kept_in (Prepared t asked ∷ ns) t.slot)
null_new ns t asked = subst (λ (b : Bool). IfNull (cond b (Some (new_kept t asked)) (kept_in ns t.slot))) (sym (itself t.slot)) refl

fits_added : (ns : List Note) (slots : List Slot) (acts : ℕ) (present : Option PresentList) (t : TicketParts) (asked : Asked) → HoldsPresent slots acts present → is_free (slot_in slots t.slot) ≡ true → PresentFits ns present → PresentFits (Prepared t asked ∷ ns) (Some (extended present t))
fits_added ns slots acts None t asked h f i = (tt, null_new ns t asked)
fits_added ns slots acts (Some list) t asked h f i =
    let differ : t.slot ≡ list.tail.slot → ⊥ = λ (e : t.slot ≡ list.tail.slot). let g = h.tail.held in let d : is_free (slot_in slots list.tail.slot) ≡ true = ap (λ (k : ℕ). is_free (slot_in slots k)) (sym e) ∙ f in cc in
    let a : nat_eq t.slot list.tail.slot ≡ false = grind (arith, nat_tests) in
    let b : nat_eq list.tail.slot t.slot ≡ false = grind (arith, nat_tests) in
    (record { apart = a; null = subst (λ (c : Bool). IfNull (cond c (Some (new_kept t asked)) (kept_in ns list.tail.slot))) (sym b) i.1 }, null_new ns t asked)

imaged_prepare_at : (s : SlotTable) (m : Memory) (asked : Asked) (ns : List Note) (found : Result ℕ ListFault) → may_prepare s ≡ found → IsRequest asked → Tied s.slots ns → Imaged s m ns → Imaged (table.prepare_at found s m asked).1.0 (table.prepare_at found s m asked).1.1 (if_ok (λ t. Prepared t asked) (table.prepare_at found s m asked).0 ns)
imaged_prepare_at s m asked ns (Err fault) e r t i = i
imaged_prepare_at s m asked ns (Ok slot) e r t i =
    let p = position-Some is_free s.slots slot unused (may_lowest s slot e) in
    let l : slot < length s.slots = p.0 in
    let n = t.size in
    let small : slot < 32 = omega arith in
    let u = next_ticket s slot asked.login in
    record {
      sound = present_added s.slots s.acts s.present u s.lists t.size small refl refl p.1 i.sound;
      whole = (keeps_written m slot asked i.whole small r).whole;
      spelled = λ j b. spelled_written m slot j u asked (kept_in ns j) _ refl i.whole small r refl (i.spelled j b);
      fits = fits_added ns s.slots s.acts s.present u asked i.sound p.1 i.fits;
    }

-- The low quadlet of a link is written.
with_quad_whole : (m : Memory) (k at value : ℕ) → IsWhole m → k < 32 → at + 4 ≤ 32 → IsWhole (with_orb_quad m k at value)
with_quad_whole m k at value w s h = whole_set m (windows.Orb k) at (big_bytes 4 value) w s h

low_now : (b : ℕ) (t : TicketParts) (found : Option Kept) → IfLow (in_slot b b (low_is t) found) (low_of t)
low_now b t None = tt
low_now b t (Some o) = ap (λ (c : Bool). (cond c (low_is t o) o).low) (itself b)

null_found : (found : Option Kept) (o : Kept) → found ≡ Some o → IfNull found → o.next ≡ Null
null_found None o e i = cc
null_found (Some p) o e i = let f : p ≡ o = cc in ap (λ (q : Kept). q.next) (sym f) ∙ i

low_found : (found : Option Kept) (o : Kept) (low : ℕ) → found ≡ Some o → IfLow found low → o.low ≡ low
low_found None o low e i = cc
low_found (Some p) o low e i = let f : p ≡ o = cc in ap (λ (q : Kept). q.low) (sym f) ∙ i

imaged_low_in : (s : SlotTable) (m : Memory) (ns : List Note) (list : PresentList) (link : Link) → s.present ≡ Some list → HoldsList s.slots s.acts list → HoldsLink s.slots list.tail link → LinkFits ns list.tail link → IfNull (kept_in ns list.tail.slot) → Imaged s m ns
    → Imaged (low_for (low_in link list.tail) s m).1.0 (low_for (low_in link list.tail) s m).1.1 (if_some (λ linking. LowWritten linking.before linking.tail) (low_in link list.tail) ns)
imaged_low_in s m ns list links.Done p h l f n i = i
imaged_low_in s m ns list (links.High b) p h l f n i = i
imaged_low_in s m ns list (links.Low b) p h l f n i =
    let small = l.in_slot.below in
    let w = i.whole.slots in
    record {
      sound = subst (λ (q : Option PresentList). HoldsPresent s.slots s.acts (link_set q (links.High b))) (sym p) (record { count = h.count; tail = h.tail; link = l });
      whole = with_quad_whole m b 4 (low_of list.tail) i.whole small (omega arith);
      spelled = λ j c.
          spelled_slot m b j (record (slot_at m b) { orb = with_quad (slot_at m b).orb 4 (low_of list.tail) }) (low_is list.tail) (kept_in ns j) _ refl (omega arith)
          (λ o e d x. spelled_low o (slot_at m b) list.tail (null_found (kept_in ns b) o (ap (λ (k : ℕ). kept_in ns k) (sym d) ∙ e) f.null) (subst (λ (k : ℕ). IsSpelled o (slot_at m k)) d x))
          (i.spelled j c);
      fits = subst (λ (q : Option PresentList). PresentFits (LowWritten b list.tail ∷ ns) (link_set q (links.High b))) (sym p)
          (record { apart = f.apart; low = low_now b list.tail (kept_in ns b) }, null_kept b list.tail.slot (low_is list.tail) (kept_in ns list.tail.slot) (λ o. refl) n);
    }

imaged_high_in : (s : SlotTable) (m : Memory) (ns : List Note) (list : PresentList) (link : Link) → s.present ≡ Some list → length s.slots ≡ 32 → HoldsList s.slots s.acts list → HoldsLink s.slots list.tail link → LinkFits ns list.tail link → IfNull (kept_in ns list.tail.slot) → Imaged s m ns
    → Imaged (high_for (high_in link list.tail) s m).1.0 (high_for (high_in link list.tail) s m).1.1 (if_some (λ linking. Linked linking.before linking.tail) (high_in link list.tail) ns)
imaged_high_in s m ns list links.Done p z h l f n i = i
imaged_high_in s m ns list (links.Low b) p z h l f n i = i
imaged_high_in s m ns list (links.High b) p z h l f n i =
    let small = l.in_slot.below in
    let w = i.whole.slots in
    let present = (with_link s links.Done).present in
    let sound : HoldsPresent s.slots s.acts present = subst (λ (q : Option PresentList). HoldsPresent s.slots s.acts (link_set q links.Done)) (sym p) (record { count = h.count; tail = h.tail; link = tt }) in
    record {
      sound = present_released s.slots s.acts present s.pinned z sound;
      whole = closed_whole (map (released present s.pinned) s.slots) (with_orb_quad m b 0 (high_of list.tail)) (with_quad_whole m b 0 (high_of list.tail) i.whole small (omega arith));
      spelled = λ j c.
          spelled_closed (map (released present s.pinned) s.slots) (with_orb_quad m b 0 (high_of list.tail)) j (kept_in (Linked b list.tail ∷ ns) j)
          (spelled_slot m b j (record (slot_at m b) { orb = with_quad (slot_at m b).orb 0 (high_of list.tail) }) (next_is list.tail) (kept_in ns j) _ refl (omega arith)
          (λ o e d x. spelled_high o (slot_at m b) list.tail h.tail.below (low_found (kept_in ns b) o (low_of list.tail) (ap (λ (k : ℕ). kept_in ns k) (sym d) ∙ e) f.low) (subst (λ (k : ℕ). IsSpelled o (slot_at m k)) d x))
          (i.spelled j c));
      fits = subst (λ (q : Option PresentList). PresentFits (Linked b list.tail ∷ ns) (link_set q links.Done)) (sym p)
          (tt, null_apart b list.tail.slot (next_is list.tail) (kept_in ns list.tail.slot) f.apart n);
    }

imaged_low_for : (s : SlotTable) (m : Memory) (ns : List Note) (present : Option PresentList) → s.present ≡ present → Tied s.slots ns → Imaged s m ns → Imaged (low_for (waits_low present) s m).1.0 (low_for (waits_low present) s m).1.1 (if_some (λ linking. LowWritten linking.before linking.tail) (waits_low present) ns)
imaged_low_for s m ns None p t i = i
imaged_low_for s m ns (Some list) p t i =
    let h : HoldsPresent s.slots s.acts (Some list) = subst (λ (q : Option PresentList). HoldsPresent s.slots s.acts q) p i.sound in
    let f : PresentFits ns (Some list) = subst (λ (q : Option PresentList). PresentFits ns q) p i.fits in
    imaged_low_in s m ns list list.link p h h.link f.0 f.1 i

imaged_high_for : (s : SlotTable) (m : Memory) (ns : List Note) (present : Option PresentList) → s.present ≡ present → Tied s.slots ns → Imaged s m ns → Imaged (high_for (waits_high present) s m).1.0 (high_for (waits_high present) s m).1.1 (if_some (λ linking. Linked linking.before linking.tail) (waits_high present) ns)
imaged_high_for s m ns None p t i = i
imaged_high_for s m ns (Some list) p t i =
    let h : HoldsPresent s.slots s.acts (Some list) = subst (λ (q : Option PresentList). HoldsPresent s.slots s.acts q) p i.sound in
    let f : PresentFits ns (Some list) = subst (λ (q : Option PresentList). PresentFits ns q) p i.fits in
    imaged_high_in s m ns list list.link p t.size h h.link f.0 f.1 i

-- An ORB becomes a dummy.
link_dummy : (ns : List Note) (t tail : TicketParts) (link : Link) → LinkFits ns tail link → LinkFits (Dummied t ∷ ns) tail link
link_dummy ns t tail links.Done f = tt
link_dummy ns t tail (links.Low b) f = record { apart = f.apart; null = null_kept t.slot b is_dummy (kept_in ns b) (λ o. refl) f.null }
link_dummy ns t tail (links.High b) f = record { apart = f.apart; low = low_kept t.slot b is_dummy (kept_in ns b) (low_of tail) (λ o. refl) f.low }

fits_dummy : (ns : List Note) (t : TicketParts) (present : Option PresentList) → PresentFits ns present → PresentFits (Dummied t ∷ ns) present
fits_dummy ns t None f = tt
fits_dummy ns t (Some list) f = (link_dummy ns t list.tail list.link f.0, null_kept t.slot list.tail.slot is_dummy (kept_in ns list.tail.slot) (λ o. refl) f.1)

pub is_the_some : (found : Option TicketParts) (t : TicketParts) → table.is_the found t ≡ true → (u : TicketParts) × (found ≡ Some u)
is_the_some None t e = cc
is_the_some (Some u) t e = (u, refl)

abbrev checked_for : Bool → Bool → Result (Unit {0}) ListFault
checked_for present the = cond (not present) (Err faults.Stale) (cond the (Ok tt) (Err faults.Taken))

pub checked_waits : (present the : Bool) → checked_for present the ≡ Ok tt → the ≡ true
checked_waits true true e = refl
checked_waits true false e = cc
checked_waits false the e = cc

pub checked_small : (s : SlotTable) (t : TicketParts) → length s.slots ≡ 32 → table.checked s t ≡ Ok tt → t.slot < 32
unfolding table.checked
checked_small s t l e =
    let u = is_the_some (waiting (slot_in s.slots t.slot)) t (checked_waits (table.is_present s.present t) (table.is_the (waiting (slot_in s.slots t.slot)) t) e) in
    past_slots s.slots t.slot u.0 l u.1

imaged_dummy_at : (s : SlotTable) (m : Memory) (t : TicketParts) (ns : List Note) (found : Result (Unit {0}) ListFault) → table.checked s t ≡ found → Tied s.slots ns → Imaged s m ns → Imaged (table.dummy_at found s m t).1.0 (table.dummy_at found s m t).1.1 (if_ok (λ done. Dummied t) (table.dummy_at found s m t).0 ns)
imaged_dummy_at s m t ns (Err fault) e k i = i
imaged_dummy_at s m t ns (Ok done) e k i =
    let small = checked_small s t k.size e in
    let w = i.whole.slots in
    record {
      sound = i.sound;
      whole = with_quad_whole m t.slot 16 (as_dummy (quad (slot_at m t.slot).orb 16)) i.whole small (omega arith);
      spelled = λ j c.
          spelled_slot m t.slot j (record (slot_at m t.slot) { orb = with_quad (slot_at m t.slot).orb 16 (as_dummy (quad (slot_at m t.slot).orb 16)) }) is_dummy (kept_in ns j) _ refl (omega arith)
          (λ o f d x. spelled_dummy o (slot_at m t.slot) (subst (λ (k : ℕ). IsSpelled o (slot_at m k)) d x))
          (i.spelled j c);
      fits = fits_dummy ns t s.present i.fits;
    }

-- A status is taken.
link_same : (ns ms : List Note) (tail : TicketParts) (link : Link) → ((j : ℕ) → kept_in ms j ≡ kept_in ns j) → LinkFits ns tail link → LinkFits ms tail link
link_same ns ms tail links.Done e f = tt
link_same ns ms tail (links.Low b) e f = record { apart = f.apart; null = subst (λ (o : Option Kept). IfNull o) (sym (e b)) f.null }
link_same ns ms tail (links.High b) e f = record { apart = f.apart; low = subst (λ (o : Option Kept). IfLow o (low_of tail)) (sym (e b)) f.low }

fits_passed : (ns ms : List Note) (present : Option PresentList) (number : ℕ) → ((j : ℕ) → kept_in ms j ≡ kept_in ns j) → PresentFits ns present → PresentFits ms (passed_for present number)
fits_passed ns ms None number e f = tt
fits_passed ns ms (Some list) number e f = (link_same ns ms list.tail list.link e f.0, subst (λ (o : Option Kept). IfNull o) (sym (e list.tail.slot)) f.1)

imaged_swept : (s : SlotTable) (m : Memory) (ns : List Note) → length s.slots ≡ 32 → Imaged s m ns → Imaged (table.sweep s m).0 (table.sweep s m).1 ns
imaged_swept s m ns z i = record {
  sound = present_released s.slots s.acts s.present s.pinned z i.sound;
  whole = closed_whole (map (released s.present s.pinned) s.slots) m i.whole;
  spelled = λ j c. spelled_closed (map (released s.present s.pinned) s.slots) m j (kept_in ns j) (i.spelled j c);
  fits = i.fits;
}

imaged_status_at : (s : SlotTable) (m : Memory) (block : StatusBlock) (ns : List Note) (number : ℕ) (found : Option TicketParts) → waiting (slot_in s.slots number) ≡ found → Tied s.slots ns → Imaged s m ns → Imaged (table.status_at found number s m block).1.0 (table.status_at found number s m block).1.1 (if_ok (λ t. Taken t block) (table.status_at found number s m block).0 ns)
imaged_status_at s m block ns number None e k i = i
imaged_status_at s m block ns number (Some t) e k i =
    let z = k.size in
    let small = past_slots s.slots number t z e in
    imaged_swept (table.with_status s number t block) m (Taken t block ∷ ns) (length-set s.slots number (record (slot_in s.slots number) { state = state_after block }) ∙ z)
    (record {
      sound = present_changed s.slots s.acts number s.present t.number (record (slot_in s.slots number) { state = state_after block }) (omega arith) refl (state_held block) i.sound;
      whole = i.whole;
      spelled = i.spelled;
      fits = fits_passed ns (Taken t block ∷ ns) s.present t.number (λ j. refl) i.fits;
    })

imaged_status_for : (s : SlotTable) (m : Memory) (block : StatusBlock) (ns : List Note) (found : Option ℕ) → Tied s.slots ns → Imaged s m ns → Imaged (table.status_for found s m block).1.0 (table.status_for found s m block).1.1 (if_ok (λ t. Taken t block) (table.status_for found s m block).0 ns)
imaged_status_for s m block ns None k i = i
imaged_status_for s m block ns (Some number) k i = imaged_status_at s m block ns number (waiting (slot_in s.slots number)) refl k i

imaged_drop_for : (s : SlotTable) (m : Memory) (ns : List Note) (found : Option PresentList) → Imaged s m ns → Imaged (table.drop_for found s).1 m (if_some (λ number. Dropped number) (table.drop_for found s).0 ns)
imaged_drop_for s m ns None i = i
imaged_drop_for s m ns (Some list) i = record { sound = tt; whole = i.whole; spelled = i.spelled; fits = tt }

imaged_freed : (s : SlotTable) (m : Memory) (ns : List Note) → Imaged s m ns → Imaged (table.all_freed s) (table.closed (table.all_freed s).slots m) (Freed ∷ ns)
imaged_freed s m ns i = record {
  sound = tt;
  whole = closed_whole (map freed s.slots) m i.whole;
  spelled = λ j c. spelled_closed (map freed s.slots) m j (kept_in ns j) (i.spelled j c);
  fits = tt;
}

fits_same : (ns ms : List Note) (present : Option PresentList) → ((j : ℕ) → kept_in ms j ≡ kept_in ns j) → PresentFits ns present → PresentFits ms present
fits_same ns ms None e f = tt
fits_same ns ms (Some list) e f = (link_same ns ms list.tail list.link e f.0, subst (λ (o : Option Kept). IfNull o) (sym (e list.tail.slot)) f.1)

imaged_pin_at : (s : SlotTable) (m : Memory) (t : TicketParts) (ns : List Note) (found : Result (Unit {0}) ListFault) → Imaged s m ns → Imaged (table.pin_at found s t).1 m (if_ok (λ done. Pinned t) (table.pin_at found s t).0 ns)
imaged_pin_at s m t ns (Err fault) i = i
imaged_pin_at s m t ns (Ok done) i = record { sound = i.sound; whole = i.whole; spelled = i.spelled; fits = fits_same ns (Pinned t ∷ ns) s.present (λ j. refl) i.fits }

imaged_unpin_for : (s : SlotTable) (m : Memory) (ns : List Note) (pinned : Option TicketParts) → length s.slots ≡ 32 → Imaged s m ns → Imaged (table.unpin_for pinned s m).0 (table.unpin_for pinned s m).1 (if_some (λ t. Unpinned t) pinned ns)
imaged_unpin_for s m ns None z i = i
imaged_unpin_for s m ns (Some t) z i =
    imaged_swept (table.counted (record s { pinned = None })) m (Unpinned t ∷ ns) z (record { sound = i.sound; whole = i.whole; spelled = i.spelled; fits = fits_same ns (Unpinned t ∷ ns) s.present (λ j. refl) i.fits })

-- Bytes of buffers and responses are written.
imaged_data : (s : SlotTable) (m : Memory) (ns : List Note) (w : Window) (at : ℕ) (bytes : List ℕ) → IsData w → IsWindow w → at + length bytes ≤ size m w → Imaged s m ns → Imaged s (with_bytes m w at bytes) ns
imaged_data s m ns w at bytes d x h i = record {
  sound = i.sound;
  whole = whole_set m w at bytes i.whole x h;
  spelled = λ j c. spelled_data m w at bytes j (kept_in ns j) d i.whole x (i.spelled j c);
  fits = i.fits;
}

pub data_window : (m : Memory) (w : Window) → takes_writes m w ≡ true → IsData w
data_window m windows.Rom e = cc
data_window m (windows.Orb k) e = cc
data_window m (windows.Table k) e = cc
data_window m (windows.Buffer k) e = tt
data_window m (windows.Management p) e = cc
data_window m (windows.Response p) e = tt

imaged_spot : (s : SlotTable) (m : Memory) (ns : List Note) (offset : ℕ) (bytes : List ℕ) (spot : Spot) (taken : Bool) → takes_writes m spot.window ≡ taken → IsFound m offset (length bytes) (Some spot) → Imaged s m ns → Imaged s (write_at m bytes (cond taken (Ok spot) (Err TypeError))).1 ns
imaged_spot s m ns offset bytes spot false e f i = i
imaged_spot s m ns offset bytes spot true e f i =
    let g = f.0.ends in
    let p : start spot.window + spot.at ≡ offset = f.2 in
    imaged_data s m ns spot.window spot.at bytes (data_window m spot.window e) f.0.exists (omega arith) i

imaged_found : (s : SlotTable) (m : Memory) (ns : List Note) (offset : ℕ) (bytes : List ℕ) (found : Option Spot) → IsFound m offset (length bytes) found → Imaged s m ns → Imaged s (write_at m bytes (judged_at m Write found)).1 ns
imaged_found s m ns offset bytes None f i = i
imaged_found s m ns offset bytes (Some spot) f i = imaged_spot s m ns offset bytes spot (takes_writes m spot.window) refl f i

imaged_write_when : (s : SlotTable) (m : Memory) (ns : List Note) (offset : ℕ) (bytes : List ℕ) (b : Bool) → Imaged s m ns → Imaged s (write_at m bytes (cond b (Err TypeError) (judged_at m Write (spot_of m offset (length bytes))))).1 ns
imaged_write_when s m ns offset bytes true i = i
imaged_write_when s m ns offset bytes false i =
    imaged_found s m ns offset bytes (spot_of m offset (length bytes)) (window_law.no_other m offset (length bytes) i.whole) i

imaged_write : (s : SlotTable) (m : Memory) (ns : List Note) (offset : ℕ) (bytes : List ℕ) → Imaged s m ns → Imaged s (write_step m offset bytes).1 ns
unfolding judged
imaged_write s m ns offset bytes i = imaged_write_when s m ns offset bytes ((length bytes == 0) || is_fifo offset) i

-- A quadlet is set in a place of management.
imaged_quad : (s : SlotTable) (m : Memory) (ns : List Note) (offset value : ℕ) → IsManaged offset → Imaged s m ns → Imaged s (set_step m offset value) ns
imaged_quad s m ns offset value p i =
    let b = p.begins in
    let e = p.ends in
    let inside : IsInside m offset 4 (windows.Management p.place) = record { exists = p.exists; begins = b; ends = e } in
    subst (λ (found : Option Spot). Imaged s (set_at m value found) ns) (sym (window_law.found m offset 4 (windows.Management p.place) i.whole (omega arith) inside refl))
    (imaged_data s m ns (windows.Management p.place) (offset - start (windows.Management p.place)) (big_bytes 4 value) tt p.exists (omega arith) i)

-- Every call.
imaged_call : (call : Call) (s : SlotTable) (m : Memory) (ns : List Note) → IsProper call → Tied s.slots ns → Imaged s m ns → Imaged (left_by call s m).0 (left_by call s m).1 (noted_by call s m ns)
unfolding table.prepare_step table.low_step table.high_step table.dummy_step table.status_step table.drop_step table.free_all_step table.pin_step table.unpin_step
imaged_call (Prepare asked) s m ns p t i = imaged_prepare_at s m asked ns (may_prepare s) refl p t i
imaged_call LinkLow s m ns p t i = imaged_low_for s m ns s.present refl t i
imaged_call LinkHigh s m ns p t i = imaged_high_for s m ns s.present refl t i
imaged_call (MakeDummy u) s m ns p t i = imaged_dummy_at s m u ns (table.checked s u) refl t i
imaged_call (TakeStatus block) s m ns p t i = imaged_status_for s m block ns (slot_of block.orb) t i
imaged_call DropList s m ns p t i = imaged_drop_for s m ns s.present i
imaged_call FreeAll s m ns p t i = imaged_freed s m ns i
imaged_call (Pin u) s m ns p t i = imaged_pin_at s m u ns (table.checked s u) i
imaged_call Unpin s m ns p t i = imaged_unpin_for s m ns s.pinned t.size i
imaged_call (TryWrite offset bytes) s m ns p t i = imaged_write s m ns offset bytes i
imaged_call (Fill slot at bytes) s m ns p t i = imaged_data s m ns (windows.Buffer slot) at bytes tt p.0 p.1 i
imaged_call (SetQuad offset value) s m ns p t i = imaged_quad s m ns offset value p i

imaged_new : (quads : List ℕ) → Imaged table.new_table (new_memory quads) []
imaged_new quads = record { sound = tt; whole = last_set_law.new quads; spelled = λ j c. tt; fits = tt }

imaged_run : (calls : List Call) (quads : List ℕ) → AreProper calls → Imaged (run calls quads).table (run calls quads).memory (run calls quads).notes
imaged_run [] quads p = imaged_new quads
imaged_run (call ∷ earlier) quads p =
    imaged_call call (run earlier quads).table (run earlier quads).memory (run earlier quads).notes p.0 (tied_run earlier quads) (imaged_run earlier quads p.1)

pub served_law : ServedLaw
served_law = record {
  served = λ calls quads k p b. if_served (kept_in (run calls quads).notes k) (slot_at (run calls quads).memory k) ((imaged_run calls quads p).spelled k b);
  before_low = λ calls quads linking p e.
      low_before (run calls quads).table.slots (run calls quads).table.acts (run calls quads).table.present linking (imaged_run calls quads p).sound e;
  before_high = λ calls quads linking p e.
      high_before (run calls quads).table.slots (run calls quads).table.acts (run calls quads).table.present linking (imaged_run calls quads p).sound e;
}
