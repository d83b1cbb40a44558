-- The last ORB of the present list is linked behind the one before it: first the low quadlet of its next pointer, then the high one.
use Rattle.sbp_world.proofs.Words.Std.{◌≡◌, refl, sym, ◌∙◌, ap, subst, ℕ, suc, ◌+◌, ◌&&◌, ◌||◌, not, nat_eq, nat_lt, Bool, true, false, cond, List, map, Option, Some, None}
use Rattle.sbp_world.proofs.Words.Initiator.{Link, PresentList, SlotState, TicketParts, SlotTable, slot_in, is_done}
use Rattle.sbp_world.proofs.Words.Laws.{TakenStatus, Row}
use Rattle.sbp_world.proofs.Words.World.{ListTerms, over_at, linked_by, LoweredFits, StateFits, Fits, Frees, Rows}
use Rattle.orb_list.specs.declared.list.Link.TheVariants as links
use Rattle.orb_list.specs.declared.slot.SlotState.TheVariants as states
use Rattle.orb_list.specs.Table as table
use Rattle.sbp_world.proofs.Hosts.Sweeps.{closes, closes_still}
use Rattle.sbp_world.proofs.Common.{itself, above}

-- the terms behind the low quadlet, and behind the high one
abbrev pub low_terms : Bool → (n k : ℕ) → ListTerms → ListTerms
low_terms own n k t = record t { lowered = λ m. cond own (cond (nat_eq m n) k (t.lowered m)) (t.lowered m) }

abbrev pub link_terms : Bool → (n k : ℕ) → ListTerms → ListTerms
link_terms own n k t = record t { linked = λ m. cond own (cond (nat_eq m n) (suc k) (t.linked m)) (t.linked m) }

abbrev with_link : PresentList → Link → PresentList
with_link list link = record list { link = link }

state_link : (list : PresentList) (link : Link) (taken : ℕ → ℕ → Option TakenStatus) (state : SlotState) (last : Option TicketParts) → StateFits (Some list) taken state last → StateFits (Some (with_link list link)) taken state last
state_link list link taken states.Free last x = tt
state_link list link taken states.Resting last x = tt
state_link list link taken states.Waiting None x = absurd x
state_link list link taken states.Waiting (Some v) x = x
state_link list link taken (states.Taken had_next) None x = absurd x
state_link list link taken (states.Taken had_next) (Some v) x = x

-- the table with another link
abbrev linked_table : SlotTable → PresentList → Link → SlotTable
linked_table s list link = record s { present = Some (with_link list link); calls = s.calls + 1 }

module _ (t : ListTerms) (s : SlotTable) (list : PresentList) (f : Fits t (record s { present = Some list })) where
  low_fits : (before : ℕ) → list.link ≡ links.Low before → Fits (low_terms true list.tail.list list.tail.number t) (linked_table s list (links.High before))
  low_fits before l =
      let x = f.list in
      record {
        size = f.size;
        present = f.present;
        begun = f.begun;
        pinned = f.pinned;
        held = f.held;
        prepared = f.prepared;
        last = f.last;
        states = λ k b. state_link list (links.High before) t.taken (slot_in s.slots k).state (slot_in s.slots k).last (f.states k b);
        list = record {
          below = x.below;
          appended = x.appended;
          linked = x.linked ∙ ap (λ c. linked_by c list.tail.number) l;
          lowered = ap (λ c. cond c list.tail.number (t.lowered list.tail.list)) (itself list.tail.list);
          passed = x.passed;
          waits = x.waits;
        };
        to_come = record {
          appended = f.to_come.appended;
          linked = f.to_come.linked;
          lowered = λ n b. ap (λ c. cond c list.tail.number (t.lowered n)) (above n list.tail.list s.lists x.below b) ∙ f.to_come.lowered n b;
          passed = f.to_come.passed;
          taken = f.to_come.taken;
        };
      }

  high_fits : (before : ℕ) → list.link ≡ links.High before → Fits (link_terms true list.tail.list list.tail.number t) (linked_table s list links.Done)
  high_fits before l =
      let x = f.list in
      record {
        size = f.size;
        present = f.present;
        begun = f.begun;
        pinned = f.pinned;
        held = f.held;
        prepared = f.prepared;
        last = f.last;
        states = λ k b. state_link list links.Done t.taken (slot_in s.slots k).state (slot_in s.slots k).last (f.states k b);
        list = record {
          below = x.below;
          appended = x.appended;
          linked = ap (λ c. cond c (suc list.tail.number) (t.linked list.tail.list)) (itself list.tail.list);
          lowered = subst (λ c. LoweredFits c list.tail.number (t.lowered list.tail.list)) l x.lowered;
          passed = x.passed;
          waits = x.waits;
        };
        to_come = record {
          appended = f.to_come.appended;
          linked = λ n b. ap (λ c. cond c (suc list.tail.number) (t.linked n)) (above n list.tail.list s.lists x.below b) ∙ f.to_come.linked n b;
          lowered = f.to_come.lowered;
          passed = f.to_come.passed;
          taken = f.to_come.taken;
        };
      }

-- none is over because of the low quadlet
low_over : (list : PresentList) (before : ℕ) (pinned : Option TicketParts) (state : SlotState) (last : Option TicketParts) → list.link ≡ links.Low before → table.over_in list pinned state last ≡ false → table.over_in (with_link list (links.High before)) pinned state last ≡ false
low_over list before pinned states.Free last l e = refl
low_over list before pinned states.Resting last l e = refl
low_over list before pinned states.Waiting last l e = refl
low_over list before pinned (states.Taken had_next) None l e = refl
low_over list before pinned (states.Taken had_next) (Some v) l e =
    ap (λ c. (nat_lt v.number list.tail.number && (c || nat_lt (v.number + 1) list.tail.number)) && (had_next || nat_lt v.number list.passed) && not (table.is_pinned pinned v)) (sym (ap is_done l)) ∙ e

module _ (t : ListTerms) (rows : List Row) (s : SlotTable) (list : PresentList) (r : Rows t rows (record s { present = Some list })) where
  pub low_rows : (before : ℕ) (g : Row → Row) → list.link ≡ links.Low before → Frees (over_at (low_terms true list.tail.list list.tail.number t)) g → Rows (low_terms true list.tail.list list.tail.number t) (map g rows) (linked_table s list (links.High before))
  low_rows before g l h =
      closes_still (low_terms true list.tail.list list.tail.number t) (linked_table s list (links.High before)) rows g (low_fits t s list r.fits before l) r.rows_are h
      (λ k b. low_over list before s.pinned (slot_in s.slots k).state (slot_in s.slots k).last l (r.swept k b))

  pub high_rows : (before : ℕ) (g : Row → Row) → list.link ≡ links.High before → Frees (over_at (link_terms true list.tail.list list.tail.number t)) g → Rows (link_terms true list.tail.list list.tail.number t) (map g rows) (table.swept (linked_table s list links.Done))
  high_rows before g l h =
      closes (link_terms true list.tail.list list.tail.number t) (linked_table s list links.Done) rows g (high_fits t s list r.fits before l) r.rows_are h
