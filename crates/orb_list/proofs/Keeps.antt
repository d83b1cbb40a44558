-- An ORB keeps its slot until it is over.
use Rattle.std.proofs.Common.{arith, ◌≡◌, refl, sym, ◌∙◌, ap, subst, inl, inr, ℕ, ◌+◌, ◌<◌, ◌==◌, ◌&&◌, ◌||◌, ◌⊎◌, nat_lt, Bool, true, false, cond, List, [], ◌∷◌, length, Option, Some, None, Result, Ok, Err}
use Rattle.std.proofs.lemmas.Bool.Decides.{nat_tests}
use Rattle.std.specs.Prelude.{unwrap_or}
use Rattle.bus_memory.specs.Windows.{slot_of}
use Rattle.bus_memory.specs.Memory.{Memory}
use Rattle.orb_layout.specs.declared.status.StatusBlock.{StatusBlock}
use Rattle.orb_list.specs.declared.fault.ListFault.{ListFault}
use Rattle.orb_list.specs.declared.list.Linking.{Linking}
use Rattle.orb_list.specs.declared.list.PresentList.{PresentList}
use Rattle.orb_list.specs.declared.slot.SlotState.{SlotState}
use Rattle.orb_list.specs.declared.slot.SlotState.TheVariants as states
use Rattle.orb_list.specs.Tickets.{TicketParts, is_ticket}
use Rattle.orb_list.specs.Requests.{Asked}
use Rattle.orb_list.specs.Table as table
use Rattle.orb_list.specs.Table.{SlotTable, unused, slot_in, is_free, may_prepare, next_ticket, waits_low, waits_high, waits_in, waiting, is_the, is_present}
use Rattle.orb_list.specs.Runs.{Call, Prepare, LinkLow, LinkHigh, MakeDummy, TakeStatus, DropList, FreeAll, Pin, Unpin, TryWrite, Fill, SetQuad, Note, Prepared, LowWritten, Linked, Dummied, Taken, Dropped, Pinned, Unpinned, if_ok, if_some, noted_by, run}
use Rattle.orb_list.specs.Frees.{prepared_in, status_of, is_linked, is_passed, dropped_at, over_by, is_over_by, free_by, PinsAlone}
use Rattle.orb_list.specs.Keeps.{was_prepared, KeepsLaw}
use Rattle.std.proofs.lemmas.List.Quantifiers.{position-Some}
use Rattle.orb_list.proofs.Tied.{same_ticket, may_lowest, past_slots, tied_run}
use Rattle.orb_list.proofs.Imaged.{checked_waits}
use Rattle.orb_list.proofs.Frees.{PlaceFits, OrbFits, SlotFits, PresentIs, Exact, exact_run, final_slot, or_right, over_more, waits_here}

-- An ORB that was prepared is the last in its slot, or is over.
abbrev Gone : List Note → Type 0
Gone ns = (t : TicketParts) → was_prepared ns t ≡ true → (prepared_in ns t.slot ≡ Some t) ⊎ (free_by ns (Some t) ≡ true)

over_in_life : (ns ms : List Note) (t : TicketParts) (dropped : Option (List Note)) → (is_over_by ns t ≡ true → is_over_by ms t ≡ true) → is_over_by (unwrap_or dropped ns) t ≡ true → is_over_by (unwrap_or dropped ms) t ≡ true
over_in_life ns ms t None o f = o f
over_in_life ns ms t (Some before) o f = f

free_keeps : (ns ms : List Note) (t : TicketParts) → dropped_at ms t.list ≡ dropped_at ns t.list → (is_over_by ns t ≡ true → is_over_by ms t ≡ true) → free_by ns (Some t) ≡ true → free_by ms (Some t) ≡ true
free_keeps ns ms t d o f = ap (λ (x : Option (List Note)). is_over_by (unwrap_or x ms) t) d ∙ over_in_life ns ms t (dropped_at ns t.list) o f

still_when : (ns ms : List Note) (t : TicketParts) → prepared_in ms t.slot ≡ prepared_in ns t.slot → (free_by ns (Some t) ≡ true → free_by ms (Some t) ≡ true) → (prepared_in ns t.slot ≡ Some t) ⊎ (free_by ns (Some t) ≡ true) → (prepared_in ms t.slot ≡ Some t) ⊎ (free_by ms (Some t) ≡ true)
still_when ns ms t p o (inl e) = inl (p ∙ e)
still_when ns ms t p o (inr f) = inr (o f)

gone_more : (ns ms : List Note) → ((t : TicketParts) → was_prepared ms t ≡ was_prepared ns t) → ((k : ℕ) → prepared_in ms k ≡ prepared_in ns k) → ((t : TicketParts) → free_by ns (Some t) ≡ true → free_by ms (Some t) ≡ true) → Gone ns → Gone ms
gone_more ns ms w p o g t e = still_when ns ms t (p t.slot) (o t) (g t (sym (w t) ∙ e))

-- An ORB whose status was not taken is not over.
not_over : (ns : List Note) (t : TicketParts) → status_of ns t ≡ None → is_over_by ns t ≡ true → ⊥
not_over ns t e o = let f : is_over_by ns t ≡ false = ap (λ (found : Option StatusBlock). over_by found ns t) e in cc

-- An ORB is prepared.
prepared_when : (ns : List Note) (u t : TicketParts) (asked : Asked) (same : Bool) → (t.slot == u.slot) ≡ same → free_by ns (prepared_in ns u.slot) ≡ true → (prepared_in ns t.slot ≡ Some t) ⊎ (free_by ns (Some t) ≡ true) → (cond same (Some u) (prepared_in ns t.slot) ≡ Some t) ⊎ (free_by (Prepared u asked ∷ ns) (Some t) ≡ true)
prepared_when ns u t asked same e f (inr o) = inr (free_keeps ns (Prepared u asked ∷ ns) t refl (over_more ns (Prepared u asked ∷ ns) t refl (λ x. x) (λ x. x) (λ x. x)) o)
prepared_when ns u t asked false e f (inl p) = inl p
prepared_when ns u t asked true e f (inl p) =
    let n : t.slot ≡ u.slot = grind (arith, nat_tests) in
    let o : free_by ns (Some t) ≡ true = ap (λ (found : Option TicketParts). free_by ns found) (sym p ∙ ap (λ (k : ℕ). prepared_in ns k) n) ∙ f in
    inr (free_keeps ns (Prepared u asked ∷ ns) t refl (over_more ns (Prepared u asked ∷ ns) t refl (λ x. x) (λ x. x) (λ x. x)) o)

gone_prepared : (ns : List Note) (u t : TicketParts) (asked : Asked) (b : Bool) → is_ticket u t ≡ b → free_by ns (prepared_in ns u.slot) ≡ true → Gone ns → b || was_prepared ns t ≡ true → (prepared_in (Prepared u asked ∷ ns) t.slot ≡ Some t) ⊎ (free_by (Prepared u asked ∷ ns) (Some t) ≡ true)
gone_prepared ns u t asked true e f g w =
    let same : u ≡ t = same_ticket u t e in
    let n : t.slot ≡ u.slot = sym (ap (λ (x : TicketParts). x.slot) same) in
    let here : (t.slot == u.slot) ≡ true = grind (arith, nat_tests) in
    inl (ap (λ (b : Bool). cond b (Some u) (prepared_in ns t.slot)) here ∙ ap (λ (x : TicketParts). Some x) same)
gone_prepared ns u t asked false e f g w = prepared_when ns u t asked (t.slot == u.slot) refl f (g t w)

gone_prepare : (s : SlotTable) (m : Memory) (asked : Asked) (ns : List Note) (found : Result ℕ ListFault) → may_prepare s ≡ found → length s.slots ≡ 32 → Exact s ns → Gone ns → Gone (if_ok (λ t. Prepared t asked) (table.prepare_at found s m asked).0 ns)
gone_prepare s m asked ns (Err fault) e z i g = g
gone_prepare s m asked ns (Ok slot) e z i g =
    let p = position-Some is_free s.slots slot unused (may_lowest s slot e) in
    let l : slot < length s.slots = p.0 in
    let small : slot < 32 = omega arith in
    let free : free_by ns (prepared_in ns slot) ≡ true = sym (final_slot s.present s.lists s.calls ns s.pinned (prepared_in ns slot) (slot_in s.slots slot) i.loose.present i.loose.pinned (i.swept slot small) (i.loose.slots slot small)) ∙ p.1 in
    λ t w. gone_prepared ns (next_ticket s slot asked.login) t asked _ refl free g w

-- A link, a dummy, and the end of a pin.
gone_low : (ns : List Note) (found : Option Linking) → Gone ns → Gone (if_some (λ linking. LowWritten linking.before linking.tail) found ns)
gone_low ns None g = g
gone_low ns (Some l) g =
    let ms = LowWritten l.before l.tail ∷ ns in
    gone_more ns ms (λ t. refl) (λ k. refl) (λ t o. free_keeps ns ms t refl (over_more ns ms t refl (λ x. x) (λ x. x) (λ x. x)) o) g

gone_high : (ns : List Note) (found : Option Linking) → Gone ns → Gone (if_some (λ linking. Linked linking.before linking.tail) found ns)
gone_high ns None g = g
gone_high ns (Some l) g =
    let ms = Linked l.before l.tail ∷ ns in
    gone_more ns ms (λ t. refl) (λ k. refl)
    (λ t o. free_keeps ns ms t refl (over_more ns ms t refl (λ x. or_right ((l.tail.list == t.list) && (l.tail.number == t.number + 1)) (is_linked ns t.list (t.number + 1)) x) (λ x. x) (λ x. x)) o) g

gone_dummy : (s : SlotTable) (m : Memory) (u : TicketParts) (ns : List Note) (found : Result (Unit {0}) ListFault) → Gone ns → Gone (if_ok (λ done. Dummied u) (table.dummy_at found s m u).0 ns)
gone_dummy s m u ns (Err fault) g = g
gone_dummy s m u ns (Ok done) g =
    let ms = Dummied u ∷ ns in
    gone_more ns ms (λ t. refl) (λ k. refl) (λ t o. free_keeps ns ms t refl (over_more ns ms t refl (λ x. x) (λ x. x) (λ x. x)) o) g

gone_unpin : (ns : List Note) (found : Option TicketParts) → Gone ns → Gone (if_some (λ t. Unpinned t) found ns)
gone_unpin ns None g = g
gone_unpin ns (Some u) g =
    let ms = Unpinned u ∷ ns in
    gone_more ns ms (λ t. refl) (λ k. refl) (λ t o. free_keeps ns ms t refl (over_more ns ms t refl (λ x. x) (λ x. x) (λ x. refl)) o) g

-- The ORB that waits in a slot has no status.
place_none : (p : Option PresentList) (ns : List Note) (t u : TicketParts) (state : SlotState) (last : Option TicketParts) (dropped : Option (List Note)) → waits_in state last ≡ Some u → PlaceFits p ns t state dropped → status_of ns t ≡ None
place_none p ns t u states.Waiting last None w f = f.1
place_none p ns t u states.Waiting last (Some before) w f = absurd f.0
place_none p ns t u states.Free last dropped w f = cc
place_none p ns t u (states.Taken h) last dropped w f = cc
place_none p ns t u states.Resting last dropped w f = cc

waits_none : (s : SlotTable) (ns : List Note) (k : ℕ) (t : TicketParts) → k < 32 → waiting (slot_in s.slots k) ≡ Some t → Exact s ns → status_of ns t ≡ None
waits_none s ns k t b w i =
    let h = waits_here s.present s.lists s.calls ns (prepared_in ns k) (slot_in s.slots k) t w (i.loose.slots k b) in
    let f : OrbFits s.present s.lists s.calls ns t (slot_in s.slots k) = subst (λ (x : Option TicketParts). SlotFits s.present s.lists s.calls ns x (slot_in s.slots k)) h.is (i.loose.slots k b) in
    place_none s.present ns t t (slot_in s.slots k).state (slot_in s.slots k).last (dropped_at ns t.list) w f.fits

-- A status is taken.
taken_over : (ns : List Note) (u t : TicketParts) (block : StatusBlock) (b : Bool) → is_ticket u t ≡ b → status_of ns u ≡ None → is_over_by ns t ≡ true → is_over_by (Taken u block ∷ ns) t ≡ true
taken_over ns u t block true e n o = absurd (not_over ns t (ap (λ (x : TicketParts). status_of ns x) (sym (same_ticket u t e)) ∙ n) o)
taken_over ns u t block false e n o =
    over_more ns (Taken u block ∷ ns) t (ap (λ (b : Bool). cond b (Some block) (status_of ns t)) e) (λ x. x) (λ x. or_right ((u.list == t.list) && nat_lt t.number u.number) (is_passed ns t.list t.number) x) (λ x. x) o

gone_status_at : (s : SlotTable) (m : Memory) (block : StatusBlock) (ns : List Note) (number : ℕ) (found : Option TicketParts) → waiting (slot_in s.slots number) ≡ found → length s.slots ≡ 32 → Exact s ns → Gone ns → Gone (if_ok (λ t. Taken t block) (table.status_at found number s m block).0 ns)
gone_status_at s m block ns number None e z i g = g
gone_status_at s m block ns number (Some u) e z i g =
    let ms = Taken u block ∷ ns in
    let n = waits_none s ns number u (past_slots s.slots number u z e) e i in
    gone_more ns ms (λ t. refl) (λ k. refl) (λ t o. free_keeps ns ms t refl (taken_over ns u t block _ refl n) o) g

gone_status : (s : SlotTable) (m : Memory) (block : StatusBlock) (ns : List Note) (found : Option ℕ) → length s.slots ≡ 32 → Exact s ns → Gone ns → Gone (if_ok (λ t. Taken t block) (table.status_for found s m block).0 ns)
gone_status s m block ns None z i g = g
gone_status s m block ns (Some number) z i g = gone_status_at s m block ns number (waiting (slot_in s.slots number)) refl z i g

-- A list is dropped.
drop_when : (ns : List Note) (list : ℕ) (t : TicketParts) (same : Bool) (dropped : Option (List Note)) → (list == t.list) ≡ same → dropped_at ns t.list ≡ dropped → dropped_at ns list ≡ None → is_over_by (unwrap_or dropped ns) t ≡ true → is_over_by (unwrap_or (cond same (Some ns) dropped) (Dropped list ∷ ns)) t ≡ true
drop_when ns list t true None e d y o = o
drop_when ns list t true (Some before) e d y o =
    let n : list ≡ t.list = grind (arith, nat_tests) in
    let c : Some before ≡ None = sym d ∙ ap (λ (x : ℕ). dropped_at ns x) (sym n) ∙ y in
    cc
drop_when ns list t false None e d y o = over_more ns (Dropped list ∷ ns) t refl (λ x. x) (λ x. x) (λ x. x) o
drop_when ns list t false (Some before) e d y o = o

gone_drop : (s : SlotTable) (ns : List Note) (found : Option PresentList) → s.present ≡ found → Exact s ns → Gone ns → Gone (if_some (λ number. Dropped number) (table.drop_for found s).0 ns)
gone_drop s ns None p i g = g
gone_drop s ns (Some list) p i g =
    let ms = Dropped list.tail.list ∷ ns in
    let l : PresentIs (Some list) s.lists ns = subst (λ (x : Option PresentList). PresentIs x s.lists ns) p i.loose.present in
    gone_more ns ms (λ t. refl) (λ k. refl) (λ t o. drop_when ns list.tail.list t _ (dropped_at ns t.list) refl refl l.open_yet o) g

-- A slot is pinned.
pinned_over : (ns : List Note) (u t : TicketParts) (b : Bool) → is_ticket u t ≡ b → status_of ns u ≡ None → is_over_by ns t ≡ true → is_over_by (Pinned u ∷ ns) t ≡ true
pinned_over ns u t true e n o = absurd (not_over ns t (ap (λ (x : TicketParts). status_of ns x) (sym (same_ticket u t e)) ∙ n) o)
pinned_over ns u t false e n o = over_more ns (Pinned u ∷ ns) t refl (λ x. x) (λ x. x) (λ x. e) o

is_the_waiting : (found : Option TicketParts) (t : TicketParts) → is_the found t ≡ true → found ≡ Some t
is_the_waiting None t e = cc
is_the_waiting (Some u) t e = ap (λ (x : TicketParts). Some x) (same_ticket u t e)

checked_waiting : (s : SlotTable) (t : TicketParts) → table.checked s t ≡ Ok tt → waiting (slot_in s.slots t.slot) ≡ Some t
unfolding table.checked
checked_waiting s t e = is_the_waiting (waiting (slot_in s.slots t.slot)) t (checked_waits (is_present s.present t) (is_the (waiting (slot_in s.slots t.slot)) t) e)

gone_pin : (s : SlotTable) (u : TicketParts) (ns : List Note) (found : Result (Unit {0}) ListFault) → table.checked s u ≡ found → length s.slots ≡ 32 → Exact s ns → Gone ns → Gone (if_ok (λ done. Pinned u) (table.pin_at found s u).0 ns)
gone_pin s u ns (Err fault) e z i g = g
gone_pin s u ns (Ok done) e z i g =
    let ms = Pinned u ∷ ns in
    let w = checked_waiting s u e in
    let n = waits_none s ns u.slot u (past_slots s.slots u.slot u z w) w i in
    gone_more ns ms (λ t. refl) (λ k. refl) (λ t o. free_keeps ns ms t refl (pinned_over ns u t _ refl n) o) g

-- Every call.
gone_call : (call : Call) (s : SlotTable) (m : Memory) (ns : List Note) → length s.slots ≡ 32 → Exact s ns → Gone ns → Gone (noted_by call s m ns)
unfolding table.prepare_step table.low_step table.high_step table.dummy_step table.status_step table.drop_step table.pin_step
gone_call (Prepare asked) s m ns z i g = gone_prepare s m asked ns (may_prepare s) refl z i g
gone_call LinkLow s m ns z i g = gone_low ns (waits_low s.present) g
gone_call LinkHigh s m ns z i g = gone_high ns (waits_high s.present) g
gone_call (MakeDummy u) s m ns z i g = gone_dummy s m u ns (table.checked s u) g
gone_call (TakeStatus block) s m ns z i g = gone_status s m block ns (slot_of block.orb) z i g
gone_call DropList s m ns z i g = gone_drop s ns s.present refl i g
gone_call FreeAll s m ns z i g = λ t w. cc
gone_call (Pin u) s m ns z i g = gone_pin s u ns (table.checked s u) refl z i g
gone_call Unpin s m ns z i g = gone_unpin ns s.pinned g
gone_call (TryWrite offset bytes) s m ns z i g = g
gone_call (Fill slot at bytes) s m ns z i g = g
gone_call (SetQuad offset value) s m ns z i g = g

gone_run : (calls : List Call) (quads : List ℕ) → PinsAlone calls quads → Gone (run calls quads).notes
gone_run [] quads p = λ t w. cc
gone_run (call ∷ earlier) quads p =
    let tied = tied_run earlier quads in
    gone_call call (run earlier quads).table (run earlier quads).memory (run earlier quads).notes tied.size (exact_run earlier quads p.1) (gone_run earlier quads p.1)

keeps_when : (ns : List Note) (t : TicketParts) → free_by ns (Some t) ≡ false → (prepared_in ns t.slot ≡ Some t) ⊎ (free_by ns (Some t) ≡ true) → prepared_in ns t.slot ≡ Some t
keeps_when ns t f (inl e) = e
keeps_when ns t f (inr o) = let c : true ≡ false = sym o ∙ f in cc

last_here : (s : SlotTable) (ns : List Note) (k : ℕ) (t : TicketParts) → k < 32 → prepared_in ns k ≡ Some t → Exact s ns → (slot_in s.slots k).last ≡ Some t
last_here s ns k t b e i =
    let f : OrbFits s.present s.lists s.calls ns t (slot_in s.slots k) = subst (λ (x : Option TicketParts). SlotFits s.present s.lists s.calls ns x (slot_in s.slots k)) e (i.loose.slots k b) in
    f.last

pub keeps_law : KeepsLaw
keeps_law = record {
  keeps = λ calls quads t p w f. keeps_when (run calls quads).notes t f (gone_run calls quads p t w);
  last = λ calls quads k t p b e. last_here (run calls quads).table (run calls quads).notes k t b e (exact_run calls quads p);
}
