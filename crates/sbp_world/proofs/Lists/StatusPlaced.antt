-- An ORB of the present list of an initiator, of which no status was taken, has its slot.
use Rattle.sbp_world.proofs.Words.Std.{◌≡◌, ◌∙◌, refl, sym, ap, subst, inl, ◌<◌, ℕ, zero, suc, List, [], ◌∷◌, map, Option, Some, None, slice_index_or, same_Some, none-some}
use Rattle.sbp_world.proofs.Words.Wire.{Moment}
use Rattle.sbp_world.proofs.Words.Initiator.{PresentList, Slot, SlotState, SlotTable, slot_in, waits_in, TicketParts}
use Rattle.sbp_world.proofs.Words.Laws.{Row, orb, present_list, slot_at, slots, taken_at, used, vacant, appends}
use Rattle.sbp_world.proofs.Words.World.{AreRows, IfList, terms_at, name, present_in, row, row_by, HasSlot}
use Rattle.orb_list.specs.declared.slot.SlotState.TheVariants as states
use Rattle.orb_list.proofs.Tied.{waits_last}
use Rattle.sbp_world.proofs.Hosts.Over.{last_at as last_fits}
use Rattle.sbp_world.proofs.Lists.OpenListed.{stands_there}

same_ticket : (x y : TicketParts) → Some x ≡ Some y → x ≡ y
same_ticket x y e = cc

row_at : (all : List Slot) (k : ℕ) → slice_index_or (map row all) k vacant ≡ row (slot_in all k)
row_at [] k = refl
row_at (slot ∷ all) zero = refl
row_at (slot ∷ all) (suc k) = row_at all k

row_waits : (state : SlotState) (last : Option TicketParts) (t : TicketParts) → waits_in state last ≡ Some t → row_by state last ≡ used (name t)
row_waits states.Free last t e = absurd (none-some t e)
row_waits states.Waiting None t e = absurd (none-some t e)
row_waits states.Waiting (Some u) t e = ap (λ (x : TicketParts). used (name x)) (same_ticket u t e)
row_waits (states.Taken had_next) last t e = absurd (none-some t e)
row_waits states.Resting last t e = absurd (none-some t e)

module _ (past : List Moment) (i n k : ℕ) (s : SlotTable) (rows : AreRows past i s) (inside : k < appends past i n) (none : taken_at past i n k ≡ None) where
  uses_slot : (present : Option PresentList) → present_list past i ≡ present_in present → IfList (terms_at past i) s.slots s.lists present → present_list past i ≡ Some n → slice_index_or (slots past i) (slot_at past i n k) vacant ≡ used (orb n k)
  uses_slot None p l f = absurd (let z : None ≡ Some n = sym p ∙ f in cc)
  uses_slot (Some list) p l f =
      let same : list.tail.list ≡ n = same_Some list.tail.list n (sym p ∙ f) in
      let w = l.waits k (subst (λ m. k < appends past i m) (sym same) inside) (subst (λ m. taken_at past i m k ≡ None) (sym same) none) in
      let slot = slot_in s.slots w.ticket.slot in
      let fits = last_fits (terms_at past i) s rows.fits w.ticket.slot w.ticket w.small (waits_last slot w.ticket w.waits) in
      let list_is : w.ticket.list ≡ n = w.of_list ∙ same in
      let at : slot_at past i n k ≡ w.ticket.slot = ap (λ m. slot_at past i m k) (sym list_is) ∙ (ap (slot_at past i w.ticket.list) (sym w.numbered) ∙ fits.at) in
      ap (λ m. slice_index_or (slots past i) m vacant) at
      ∙ (ap (λ (rs : List Row). slice_index_or rs w.ticket.slot vacant) rows.rows_are ∙ (row_at s.slots w.ticket.slot ∙ (row_waits slot.state slot.last w.ticket w.waits ∙ (ap (λ m. used (orb m w.ticket.number)) list_is ∙ ap (λ m. used (orb n m)) w.numbered))))

  pub has_slot : present_list past i ≡ Some n → HasSlot past i (slot_at past i n k) (orb n k)
  has_slot f = record {
    there = (stands_there past i n k s rows inside none f).is;
    held = inl (uses_slot s.present rows.fits.present rows.fits.list f);
  }
