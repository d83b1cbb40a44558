-- Each step of the slots, with the note that tells it.
use Rattle.sbp_world.proofs.Words.Std.{◌≡◌, refl, sym, ◌∙◌, ap, subst, ℕ, suc, ◌+◌, ◌<◌, ◌==◌, Bool, true, cond, List, ◌∷◌, map, max, Option, Some, None, Ok}
use Rattle.sbp_world.proofs.Words.Wire.{Moment, said, wire_terms, OpWord}
use Rattle.sbp_world.proofs.Words.Initiator.{Memory, slot_of, StatusBlock, Link, Linking, PresentList, SlotState, TicketParts, SlotTable, slot_in, waiting, low_in, high_in, low_for, high_for, waits_low, waits_high, row_of}
use Rattle.sbp_world.proofs.Words.Laws.{access_at, TakenStatus, put_to_rest, last_got, src_in, pinned_orb}
use Rattle.sbp_world.proofs.Words.World.{name_in, terms_at, over_at, StateFits, Frees, Rows, AreRows, MayTake}
use Rattle.std.proofs.Common.{slice_set}
use Rattle.orb_list.specs.declared.list.Link.TheVariants as links
use Rattle.orb_list.specs.declared.slot.SlotState.TheVariants as states
use Rattle.orb_list.specs.Table as table
use Rattle.orb_list.proofs.Tied.{past_slots, waits_last}
use Rattle.sbp_journal.specs.declared.note.Note.TheVariants as notes
use Rattle.sbp_journal.specs.declared.operation.Operation.TheVariants as operations
use Rattle.sbp_laws.specs.Lists as terms
use Rattle.sbp_world.proofs.Hosts.Over.{last_at}
use Rattle.sbp_world.proofs.Hosts.Sweeps.{frees, rests}
use Rattle.sbp_world.proofs.Hosts.Links.{low_terms, link_terms, low_rows, high_rows}
use Rattle.sbp_world.proofs.Hosts.Takes.{taken_terms, rows_taken, taken_rows}
use Rattle.sbp_world.proofs.Hosts.Drops.{drop_terms, dropped_rows, dropped_table}
use Rattle.sbp_world.proofs.Hosts.Pins.{pin_terms, pinned_table, unpinned_rows}
use Rattle.sbp_world.proofs.Common.{itself}

-- a table with this present list
abbrev pub with_present : SlotTable → Option PresentList → SlotTable
with_present s present = record s { present = present }

module _ (past : List Moment) (i : ℕ) (s : SlotTable) (r : AreRows past i s) where
  -- ---- links

  low_note : (present : Option PresentList) (linking : Linking) (m : Memory) → s.present ≡ present → waits_low present ≡ Some linking → AreRows (said (notes.Low i linking.tail.list linking.tail.number) ∷ past) i (low_for (Some linking) (with_present s present) m).1.0
  low_note None linking m n w = absurd (none w)
    where
      none : None ≡ Some linking → ⊥
      none w = cc
  low_note (Some list) linking m n w = by_link list.link refl w
    where
      old : AreRows past i (with_present s (Some list))
      old = subst (λ p. AreRows past i (with_present s p)) n r

      told : (before : ℕ) → list.link ≡ links.Low before → AreRows (said (notes.Low i list.tail.list list.tail.number) ∷ past) i (low_for (Some (record { before = before; tail = list.tail })) (with_present s (Some list)) m).1.0
      told before l =
          let now = said (notes.Low i list.tail.list list.tail.number) ∷ past in
          subst (λ b. Frees (over_at (low_terms b list.tail.list list.tail.number (terms_at past i))) (terms.freed now i) → Rows (low_terms b list.tail.list list.tail.number (terms_at past i)) (map (terms.freed now i) (terms.slots past i)) (low_for (Some (record { before = before; tail = list.tail })) (with_present s (Some list)) m).1.0) (sym (itself i))
          (λ h. low_rows (terms_at past i) (terms.slots past i) s list old before (terms.freed now i) l h) (frees now i)

      by_link : (link : Link) → list.link ≡ link → low_in link list.tail ≡ Some linking → AreRows (said (notes.Low i linking.tail.list linking.tail.number) ∷ past) i (low_for (Some linking) (with_present s (Some list)) m).1.0
      by_link links.Done l w = absurd (differ w)
        where
          differ : None ≡ Some linking → ⊥
          differ w = cc
      by_link (links.High before) l w = absurd (differ w)
        where
          differ : None ≡ Some linking → ⊥
          differ w = cc
      by_link (links.Low before) l w =
          let same : record { before = before; tail = list.tail } ≡ linking = cc in
          subst (λ (x : Linking). AreRows (said (notes.Low i x.tail.list x.tail.number) ∷ past) i (low_for (Some x) (with_present s (Some list)) m).1.0) same (told before l)

  high_note : (present : Option PresentList) (linking : Linking) (m : Memory) → s.present ≡ present → waits_high present ≡ Some linking → AreRows (said (notes.Linked i linking.tail.list linking.tail.number) ∷ past) i (high_for (Some linking) (with_present s present) m).1.0
  high_note None linking m n w = absurd (none w)
    where
      none : None ≡ Some linking → ⊥
      none w = cc
  high_note (Some list) linking m n w = by_link list.link refl w
    where
      old : AreRows past i (with_present s (Some list))
      old = subst (λ p. AreRows past i (with_present s p)) n r

      told : (before : ℕ) → list.link ≡ links.High before → AreRows (said (notes.Linked i list.tail.list list.tail.number) ∷ past) i (high_for (Some (record { before = before; tail = list.tail })) (with_present s (Some list)) m).1.0
      told before l =
          let now = said (notes.Linked i list.tail.list list.tail.number) ∷ past in
          subst (λ b. Frees (over_at (link_terms b list.tail.list list.tail.number (terms_at past i))) (terms.freed now i) → Rows (link_terms b list.tail.list list.tail.number (terms_at past i)) (map (terms.freed now i) (terms.slots past i)) (high_for (Some (record { before = before; tail = list.tail })) (with_present s (Some list)) m).1.0) (sym (itself i))
          (λ h. high_rows (terms_at past i) (terms.slots past i) s list old before (terms.freed now i) l h) (frees now i)

      by_link : (link : Link) → list.link ≡ link → high_in link list.tail ≡ Some linking → AreRows (said (notes.Linked i linking.tail.list linking.tail.number) ∷ past) i (high_for (Some linking) (with_present s (Some list)) m).1.0
      by_link links.Done l w = absurd (differ w)
        where
          differ : None ≡ Some linking → ⊥
          differ w = cc
      by_link (links.Low before) l w = absurd (differ w)
        where
          differ : None ≡ Some linking → ⊥
          differ w = cc
      by_link (links.High before) l w =
          let same : record { before = before; tail = list.tail } ≡ linking = cc in
          subst (λ (x : Linking). AreRows (said (notes.Linked i x.tail.list x.tail.number) ∷ past) i (high_for (Some x) (with_present s (Some list)) m).1.0) same (told before l)

  pub low_told : (linking : Linking) (m : Memory) → waits_low s.present ≡ Some linking → AreRows (said (notes.Low i linking.tail.list linking.tail.number) ∷ past) i (table.low_step s m).1.0
  unfolding table.low_step
  low_told linking m w = subst (λ x. AreRows (said (notes.Low i linking.tail.list linking.tail.number) ∷ past) i (low_for x s m).1.0) (sym w) (low_note s.present linking m refl w)

  pub high_told : (linking : Linking) (m : Memory) → waits_high s.present ≡ Some linking → AreRows (said (notes.Linked i linking.tail.list linking.tail.number) ∷ past) i (table.high_step s m).1.0
  unfolding table.high_step
  high_told linking m w = subst (λ x. AreRows (said (notes.Linked i linking.tail.list linking.tail.number) ∷ past) i (high_for x s m).1.0) (sym w) (high_note s.present linking m refl w)

  -- ---- a status

  taken_note : (present : Option PresentList) (u : TicketParts) (number : ℕ) (m : Memory) (block : StatusBlock) (answer : List ℕ) → s.present ≡ present → waiting (slot_in s.slots number) ≡ Some u → MayTake past block → AreRows (said (notes.Taken i u.list u.number block.kind answer) ∷ past) i (table.swept (table.with_status (with_present s present) number u block))
  taken_note None u number m block answer n w may =
      let small = past_slots s.slots number u r.fits.size w in
      absurd (waits_none (slot_in s.slots number).state (slot_in s.slots number).last w (subst (λ p. StateFits p (terms_at past i).taken (slot_in s.slots number).state (slot_in s.slots number).last) n (r.fits.states number small)))
    where
      waits_none : (state : SlotState) (last : Option TicketParts) → table.waits_in state last ≡ Some u → StateFits None (terms_at past i).taken state last → ⊥
      waits_none states.Free last e f = cc
      waits_none states.Waiting None e f = f
      waits_none states.Waiting (Some v) e f = f.0
      waits_none (states.Taken had_next) last e f = cc
      waits_none states.Resting last e f = cc
  taken_note (Some list) u number m block answer n w may =
      subst (λ k. AreRows now i (table.swept (table.with_status (with_present s (Some list)) k u block))) at_slot
      (subst (λ b. Frees (over_at (taken_terms b u.list u.number status highest (terms_at past i))) (terms.freed now i) → Rows (taken_terms b u.list u.number status highest (terms_at past i)) (map (terms.freed now i) (rows_taken b u.list u.number block.kind (terms.slots past i))) (table.swept (table.with_status (with_present s (Some list)) u.slot u block))) (sym (itself i))
      (λ h. subst (λ c. Rows (taken_terms true u.list u.number status highest (terms_at past i)) (map (terms.freed now i) (rows_taken true u.list u.number block.kind (terms.slots past i))) (table.swept (with_src c))) (ap (λ x. x == 0) may)
      (taken_rows (terms_at past i) (terms.slots past i) s list old u small here status (terms.freed now i) h)) (frees now i))
    where
      now : List Moment
      now = said (notes.Taken i u.list u.number block.kind answer) ∷ past

      status : TakenStatus
      status = record { status = block.kind; src = src_in (access_at (wire_terms past) (last_got past)) }

      highest : ℕ
      highest = max (terms.passed past i u.list) (suc u.number)

      old : AreRows past i (with_present s (Some list))
      old = subst (λ p. AreRows past i (with_present s p)) n r

      number_small : number < 32
      number_small = past_slots s.slots number u r.fits.size w

      fits_last : u.slot ≡ number
      fits_last = (last_at (terms_at past i) s r.fits number u number_small (waits_last (slot_in s.slots number) u w)).slot

      at_slot : u.slot ≡ number
      at_slot = fits_last

      small : u.slot < 32
      small = subst (λ k. k < 32) (sym at_slot) number_small

      here : waiting (slot_in s.slots u.slot) ≡ Some u
      here = ap (λ k. waiting (slot_in s.slots k)) at_slot ∙ w

      with_src : Bool → SlotTable
      with_src c = record (with_present s (Some list)) {
        slots = slice_set s.slots u.slot (record (slot_in s.slots u.slot) { state = cond ((row_of block.kind).resp == 0) (states.Taken c) states.Resting });
        present = Some (record list { passed = max list.passed u.number });
        calls = s.calls + 1;
      }

  pub taken_told : (u : TicketParts) (m : Memory) (block : StatusBlock) (answer : List ℕ) → (table.status_step s m block).0 ≡ Ok u → MayTake past block → AreRows (said (notes.Taken i u.list u.number block.kind answer) ∷ past) i (table.status_step s m block).1.0
  unfolding table.status_step
  taken_told u m block answer e may = by_slot (slot_of block.orb) e
    where
      by_slot : (found : Option ℕ) → (table.status_for found s m block).0 ≡ Ok u → AreRows (said (notes.Taken i u.list u.number block.kind answer) ∷ past) i (table.status_for found s m block).1.0
      by_slot None e = cc
      by_slot (Some number) e = by_orb (waiting (slot_in s.slots number)) refl e
        where
          by_orb : (found : Option TicketParts) → waiting (slot_in s.slots number) ≡ found → (table.status_at found number s m block).0 ≡ Ok u → AreRows (said (notes.Taken i u.list u.number block.kind answer) ∷ past) i (table.status_at found number s m block).1.0
          by_orb None w e = cc
          by_orb (Some v) w e =
              let same : v ≡ u = cc in
              subst (λ x. AreRows (said (notes.Taken i u.list u.number block.kind answer) ∷ past) i (table.swept (table.with_status s number x block))) (sym same)
              (taken_note s.present u number m block answer refl (w ∙ ap (λ x. Some x) same) may)

  -- ---- a drop
  pub dropped_told : (n : ℕ) → (table.drop_step s).0 ≡ Some n → AreRows (said (notes.Drop i n) ∷ past) i (table.drop_step s).1
  unfolding table.drop_step
  dropped_told n e = by_list s.present e
    where
      now : List Moment
      now = said (notes.Drop i n) ∷ past

      by_list : (present : Option PresentList) → (table.drop_for present s).0 ≡ Some n → AreRows now i (table.drop_for present s).1
      by_list None e = absurd (differ e)
        where
          differ : None ≡ Some n → ⊥
          differ e = cc
      by_list (Some list) e =
          subst (λ b. Frees (over_at (drop_terms b (terms_at past i))) (terms.freed now i) → Rows (drop_terms b (terms_at past i)) (map (terms.freed now i) (cond b (map put_to_rest (terms.slots past i)) (terms.slots past i))) (dropped_table s)) (sym (itself i))
          (λ h. dropped_rows (terms_at past i) (terms.slots past i) s (terms.freed now i) r h) (frees now i)

  -- ---- a pin and its end
  pub unpinned_told : (word : OpWord) (u : TicketParts) → s.pinned ≡ Some u → (m : Memory) → AreRows (said (notes.Op i operations.Abort word) ∷ past) i (table.unpin_step s m).0
  unfolding table.unpin_step
  unpinned_told word u e m =
      let now = said (notes.Op i operations.Abort word) ∷ past in
      subst (λ x. AreRows now i (table.unpin_for x s m).0) (sym e)
      (subst (λ b. Frees (over_at (pin_terms b None (terms_at past i))) (terms.freed now i) → Rows (pin_terms b None (terms_at past i)) (map (terms.freed now i) (terms.slots past i)) (table.swept (pinned_table s None))) (sym (itself i))
      (λ h. unpinned_rows (terms_at past i) (terms.slots past i) s (terms.freed now i) r h) (frees now i))

  -- an abort of which no slot is pinned ends
  pub none_told : (word : OpWord) → s.pinned ≡ None → (m : Memory) → AreRows (said (notes.Op i operations.Abort word) ∷ past) i (table.unpin_step s m).0
  unfolding table.unpin_step
  none_told word e m =
      let now = said (notes.Op i operations.Abort word) ∷ past in
      subst (λ x. AreRows now i (table.unpin_for x s m).0) (sym e)
      (subst (λ b. Frees (over_at (pin_terms b None (terms_at past i))) (terms.freed now i) → Rows (pin_terms b None (terms_at past i)) (map (terms.freed now i) (terms.slots past i)) s) (sym (itself i))
      (λ h. rests (pin_terms true None (terms_at past i)) s (terms.slots past i) (terms.freed now i) h still) (frees now i))
    where
      none_pinned : pinned_orb past i ≡ None
      none_pinned = r.fits.pinned ∙ ap name_in e

      still : Rows (pin_terms true None (terms_at past i)) (terms.slots past i) s
      still = subst (λ p. Rows (record (terms_at past i) { pinned = p }) (terms.slots past i) s) none_pinned r

  pub unpins : (word : OpWord) (m : Memory) → AreRows (said (notes.Op i operations.Abort word) ∷ past) i (table.unpin_step s m).0
  unpins word m = by_pin s.pinned refl
    where
      by_pin : (pinned : Option TicketParts) → s.pinned ≡ pinned → AreRows (said (notes.Op i operations.Abort word) ∷ past) i (table.unpin_step s m).0
      by_pin None e = none_told word e m
      by_pin (Some u) e = unpinned_told word u e m
