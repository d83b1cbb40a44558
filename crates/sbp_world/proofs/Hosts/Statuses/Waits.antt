-- An ORB that waits in a slot waits by the run terms, and its slot is the one that they name.
use Rattle.sbp_world.proofs.Common.{all_three}
use Rattle.sbp_world.proofs.Words.Std.{arith, ◌≡◌, ◌∙◌, ap, subst, ℕ, ◌<◌, nat_lt, true, List, Option, Some, None, nat_tests}
use Rattle.sbp_world.proofs.Words.Wire.{Moment}
use Rattle.sbp_world.proofs.Words.Initiator.{PresentList, SlotState, SlotTable, slot_in, waiting, waits_by, TicketParts}
use Rattle.sbp_world.proofs.Words.Laws.{is_list, is_none_taken, prepared_in, present_list, slot_at, taken_at, waits_in, appends}
use Rattle.sbp_world.proofs.Words.World.{AreRows, IfLast, LastFits, StateFits, name, name_in, present_in}
use Rattle.orb_list.specs.declared.slot.SlotState.TheVariants as states
use Rattle.orb_list.proofs.Tied.{waits_last}
use Rattle.sbp_world.specs.Hosts.Fits.{IsOf}

module _ (past : List Moment) (i : ℕ) (s : SlotTable) (rows : AreRows past i s) (slot : ℕ) (small : slot < 32) (t : TicketParts) (w : waiting (slot_in s.slots slot) ≡ Some t) where
  last : (slot_in s.slots slot).last ≡ Some t
  last = waits_last (slot_in s.slots slot) t w

  abbrev Present : TicketParts → Type 0
  Present x = IsOf s.present x × (taken_at past i x.list x.number ≡ None)

  by_state : (state : SlotState) (last : Option TicketParts) → waits_by state last ≡ Some t → StateFits s.present (taken_at past i) state last → Present t
  by_state states.Free last e f = cc
  by_state states.Waiting None e f = cc
  by_state states.Waiting (Some v) e f = let same : v ≡ t = cc in subst Present same f
  by_state (states.Taken had_next) last e f = cc
  by_state states.Resting last e f = cc

  present : Present t
  present = by_state (slot_in s.slots slot).state (slot_in s.slots slot).last w (rows.fits.states slot small)

  fits : LastFits s.lists (appends past i) (slot_at past i) slot t
  fits = subst (IfLast s.lists (appends past i) (slot_at past i) slot) last (rows.fits.last slot small)

  listed : (p : Option PresentList) → IsOf p t → is_list (present_in p) t.list ≡ true
  listed None of = absurd of
  listed (Some list) of = grind (arith, nat_tests)

  pub waits_so : waits_in past i t.list t.number ≡ true
  waits_so =
      let below = fits.below in
      all_three (is_list (present_list past i) t.list) (nat_lt t.number (appends past i t.list)) (is_none_taken (taken_at past i t.list t.number))
      (ap (λ (p : Option ℕ). is_list p t.list) rows.fits.present ∙ listed s.present present.0)
      (let b : nat_lt t.number (appends past i t.list) ≡ true = grind (arith, nat_tests) in b)
      (ap is_none_taken present.1)

  pub place : slot_at past i t.list t.number ≡ slot
  place = fits.at

  pub prepared : prepared_in past i slot ≡ Some (name t)
  prepared = rows.fits.prepared slot small ∙ ap name_in last
