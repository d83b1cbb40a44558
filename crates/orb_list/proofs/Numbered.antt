-- The ORBs that wait are of the present list, and their numbers differ.
use Rattle.std.proofs.Common.{arith, ◌≡◌, refl, sym, ◌∙◌, ap, subst, ℕ, ◌≤◌, ◌&&◌, ◌||◌, not, Bool, true, false, List, [], ◌∷◌, Option, Some, None, Result, Ok, Err}
use Rattle.std.proofs.lemmas.Bool.Decides.{nat_tests}
use Rattle.bus_memory.specs.Windows.{slot_of}
use Rattle.bus_memory.specs.Memory.{Memory}
use Rattle.orb_layout.specs.declared.status.StatusBlock.{StatusBlock}
use Rattle.orb_list.specs.declared.fault.ListFault.{ListFault}
use Rattle.orb_list.specs.declared.list.Link.{Link}
use Rattle.orb_list.specs.declared.list.Linking.{Linking}
use Rattle.orb_list.specs.declared.list.PresentList.{PresentList}
use Rattle.orb_list.specs.Tickets.{TicketParts, is_ticket, ticket}
use Rattle.orb_list.specs.Requests.{Asked}
use Rattle.orb_list.specs.Table as table
use Rattle.orb_list.specs.Table.{SlotTable, extended, is_present, link_set, list_number, orb_number, passed_for, slot_in, waiting, waits_high, waits_low}
use Rattle.orb_list.specs.Runs.{Call, Prepare, LinkLow, LinkHigh, MakeDummy, TakeStatus, DropList, FreeAll, Pin, Unpin, TryWrite, Fill, SetQuad, Note, Prepared, LowWritten, Linked, Dummied, Taken, Dropped, Freed, Pinned, Unpinned, if_ok, if_some, left_by, noted_by, run, waits}
use Rattle.orb_list.proofs.Tied.{same_ticket}

-- An ORB is of a list, and not behind its last one.
abbrev Within : Option PresentList → TicketParts → Type 0
Within None t = ⊥
Within (Some list) t = (list.tail.list ≡ t.list) × (t.number ≤ list.tail.number)

pub record Numbered (present : Option PresentList) (ns : List Note) : Type 0 where
  pub within : (t : TicketParts) → waits ns t ≡ true → Within present t
  pub one : (t u : TicketParts) → waits ns t ≡ true → waits ns u ≡ true → t.number ≡ u.number → t ≡ u

-- No ORB waits but those that did, and the list has the same last ORB.
fewer : (old new : Option PresentList) (ns ms : List Note) → ((t : TicketParts) → Within old t → Within new t) → ((t : TicketParts) → waits ms t ≡ true → waits ns t ≡ true) → Numbered old ns → Numbered new ms
fewer old new ns ms w f i = record { within = λ t e. w t (i.within t (f t e)); one = λ t u a b e. i.one t u (f t a) (f u b) e }

within_link : (present : Option PresentList) (link : Link) (t : TicketParts) → Within present t → Within (link_set present link) t
within_link None link t w = w
within_link (Some list) link t w = w

within_passed : (present : Option PresentList) (number : ℕ) (t : TicketParts) → Within present t → Within (passed_for present number) t
within_passed None number t w = w
within_passed (Some list) number t w = w

and_right : (a b : Bool) → (a && b) ≡ true → b ≡ true
and_right true b e = e
and_right false b e = cc

-- An ORB is prepared.
abbrev fresh : Option PresentList → ℕ → ℕ → ℕ → ℕ → TicketParts
fresh present lists slot login calls = ticket login (list_number present lists) (orb_number present) slot calls

within_fresh : (present : Option PresentList) (lists slot login calls : ℕ) → Within (Some (extended present (fresh present lists slot login calls))) (fresh present lists slot login calls)
within_fresh None lists slot login calls = (refl, omega arith)
within_fresh (Some list) lists slot login calls = (refl, omega arith)

within_before : (present : Option PresentList) (lists slot login calls : ℕ) (u : TicketParts) → Within present u → Within (Some (extended present (fresh present lists slot login calls))) u
within_before None lists slot login calls u w = absurd w
within_before (Some list) lists slot login calls u w = let b = w.1 in (w.0, omega arith)

within_added : (present : Option PresentList) (lists slot login calls : ℕ) (ns : List Note) (u : TicketParts) (b : Bool) → is_ticket (fresh present lists slot login calls) u ≡ b → Numbered present ns → b || waits ns u ≡ true → Within (Some (extended present (fresh present lists slot login calls))) u
within_added present lists slot login calls ns u true e i h =
    let t = fresh present lists slot login calls in
    subst (λ (v : TicketParts). Within (Some (extended present t)) v) (same_ticket t u e) (within_fresh present lists slot login calls)
within_added present lists slot login calls ns u false e i h = within_before present lists slot login calls u (i.within u h)

-- No ORB that waits has the next number.
not_next : (present : Option PresentList) (v : TicketParts) → Within present v → v.number ≡ orb_number present → ⊥
not_next None v w e = w
not_next (Some list) v w e = let b = w.1 in omega arith

one_added : (present : Option PresentList) (lists slot login calls : ℕ) (ns : List Note) (u v : TicketParts) (b c : Bool) → is_ticket (fresh present lists slot login calls) u ≡ b → is_ticket (fresh present lists slot login calls) v ≡ c → Numbered present ns → b || waits ns u ≡ true → c || waits ns v ≡ true → u.number ≡ v.number → u ≡ v
one_added present lists slot login calls ns u v true true e f i h k n =
    let t = fresh present lists slot login calls in
    sym (same_ticket t u e) ∙ same_ticket t v f
one_added present lists slot login calls ns u v true false e f i h k n =
    let t = fresh present lists slot login calls in
    absurd (not_next present v (i.within v k) (sym n ∙ sym (ap (λ (x : TicketParts). x.number) (same_ticket t u e))))
one_added present lists slot login calls ns u v false true e f i h k n =
    let t = fresh present lists slot login calls in
    absurd (not_next present u (i.within u h) (n ∙ sym (ap (λ (x : TicketParts). x.number) (same_ticket t v f))))
one_added present lists slot login calls ns u v false false e f i h k n = i.one u v h k n

-- Each call.
numbered_prepare : (found : Result ℕ ListFault) (s : SlotTable) (m : Memory) (asked : Asked) (ns : List Note) → Numbered s.present ns → Numbered (table.prepare_at found s m asked).1.0.present (if_ok (λ t. Prepared t asked) (table.prepare_at found s m asked).0 ns)
numbered_prepare (Err fault) s m asked ns i = i
numbered_prepare (Ok slot) s m asked ns i = record {
  within = λ u e. within_added s.present s.lists slot asked.login s.calls ns u _ refl i e;
  one = λ u v a b e. one_added s.present s.lists slot asked.login s.calls ns u v _ _ refl refl i a b e;
}

numbered_low : (found : Option Linking) (s : SlotTable) (m : Memory) (ns : List Note) → Numbered s.present ns → Numbered (table.low_for found s m).1.0.present (if_some (λ linking. LowWritten linking.before linking.tail) found ns)
numbered_low None s m ns i = i
numbered_low (Some l) s m ns i = fewer s.present _ ns (LowWritten l.before l.tail ∷ ns) (within_link s.present _) (λ t e. e) i

numbered_high : (found : Option Linking) (s : SlotTable) (m : Memory) (ns : List Note) → Numbered s.present ns → Numbered (table.high_for found s m).1.0.present (if_some (λ linking. Linked linking.before linking.tail) found ns)
numbered_high None s m ns i = i
numbered_high (Some l) s m ns i = fewer s.present _ ns (Linked l.before l.tail ∷ ns) (within_link s.present _) (λ t e. e) i

numbered_dummy : (found : Result (Unit {0}) ListFault) (s : SlotTable) (m : Memory) (t : TicketParts) (ns : List Note) → Numbered s.present ns → Numbered (table.dummy_at found s m t).1.0.present (if_ok (λ done. Dummied t) (table.dummy_at found s m t).0 ns)
numbered_dummy (Err fault) s m t ns i = i
numbered_dummy (Ok done) s m t ns i = fewer s.present s.present ns (Dummied t ∷ ns) (λ u w. w) (λ u e. e) i

numbered_status_at : (found : Option TicketParts) (number : ℕ) (s : SlotTable) (m : Memory) (block : StatusBlock) (ns : List Note) → Numbered s.present ns → Numbered (table.status_at found number s m block).1.0.present (if_ok (λ t. Taken t block) (table.status_at found number s m block).0 ns)
numbered_status_at None number s m block ns i = i
numbered_status_at (Some t) number s m block ns i =
    fewer s.present _ ns (Taken t block ∷ ns) (within_passed s.present t.number) (λ u e. and_right (not (is_ticket t u)) (waits ns u) e) i

numbered_status : (found : Option ℕ) (s : SlotTable) (m : Memory) (block : StatusBlock) (ns : List Note) → Numbered s.present ns → Numbered (table.status_for found s m block).1.0.present (if_ok (λ t. Taken t block) (table.status_for found s m block).0 ns)
numbered_status None s m block ns i = i
numbered_status (Some number) s m block ns i = numbered_status_at (waiting (slot_in s.slots number)) number s m block ns i

none_waits : (ms : List Note) → ((t : TicketParts) → waits ms t ≡ false) → Numbered None ms
none_waits ms n = record { within = λ t e. let f = n t in cc; one = λ t u a b e. let f = n t in cc }

numbered_drop : (found : Option PresentList) (s : SlotTable) (ns : List Note) → Numbered s.present ns → Numbered (table.drop_for found s).1.present (if_some (λ number. Dropped number) (table.drop_for found s).0 ns)
numbered_drop None s ns i = i
numbered_drop (Some list) s ns i = none_waits (Dropped list.tail.list ∷ ns) (λ t. refl)

numbered_pin : (found : Result (Unit {0}) ListFault) (s : SlotTable) (t : TicketParts) (ns : List Note) → Numbered s.present ns → Numbered (table.pin_at found s t).1.present (if_ok (λ done. Pinned t) (table.pin_at found s t).0 ns)
numbered_pin (Err fault) s t ns i = i
numbered_pin (Ok done) s t ns i = fewer s.present s.present ns (Pinned t ∷ ns) (λ u w. w) (λ u e. e) i

numbered_unpin : (pinned : Option TicketParts) (s : SlotTable) (m : Memory) (ns : List Note) → Numbered s.present ns → Numbered (table.unpin_for pinned s m).0.present (if_some (λ t. Unpinned t) pinned ns)
numbered_unpin None s m ns i = i
numbered_unpin (Some t) s m ns i = fewer s.present s.present ns (Unpinned t ∷ ns) (λ u w. w) (λ u e. e) i

numbered_call : (call : Call) (s : SlotTable) (m : Memory) (ns : List Note) → Numbered s.present ns → Numbered (left_by call s m).0.present (noted_by call s m ns)
unfolding table.prepare_step table.low_step table.high_step table.dummy_step table.status_step table.drop_step table.free_all_step table.pin_step table.unpin_step
numbered_call (Prepare asked) s m ns i = numbered_prepare (table.may_prepare s) s m asked ns i
numbered_call LinkLow s m ns i = numbered_low (waits_low s.present) s m ns i
numbered_call LinkHigh s m ns i = numbered_high (waits_high s.present) s m ns i
numbered_call (MakeDummy t) s m ns i = numbered_dummy (table.checked s t) s m t ns i
numbered_call (TakeStatus block) s m ns i = numbered_status (slot_of block.orb) s m block ns i
numbered_call DropList s m ns i = numbered_drop s.present s ns i
numbered_call FreeAll s m ns i = none_waits (Freed ∷ ns) (λ t. refl)
numbered_call (Pin t) s m ns i = numbered_pin (table.checked s t) s t ns i
numbered_call Unpin s m ns i = numbered_unpin s.pinned s m ns i
numbered_call (TryWrite offset bytes) s m ns i = i
numbered_call (Fill slot at bytes) s m ns i = i
numbered_call (SetQuad offset value) s m ns i = i

pub numbered_run : (calls : List Call) (quads : List ℕ) → Numbered (run calls quads).table.present (run calls quads).notes
numbered_run [] quads = none_waits [] (λ t. refl)
numbered_run (call ∷ earlier) quads =
    numbered_call call (run earlier quads).table (run earlier quads).memory (run earlier quads).notes (numbered_run earlier quads)

pub within_present : (present : Option PresentList) (t : TicketParts) → Within present t → is_present present t ≡ true
within_present None t w = absurd w
within_present (Some list) t w = let e : list.tail.list ≡ t.list = w.0 in grind (arith, nat_tests)
