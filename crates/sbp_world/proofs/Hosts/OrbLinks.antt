-- An ORB is linked, or becomes a dummy, and that is told.
use Rattle.sbp_world.proofs.Words.Std.{arith, ◌≡◌, refl, sym, ap, subst, ◌∙◌, ℕ, suc, ◌<◌, ◌==◌, nat_eq, nat_le, nat_lt, Bool, true, false, cond, List, ◌∷◌, length, Option, Some, None, nat_tests}
use Rattle.sbp_world.proofs.Words.Wire.{Moment, said}
use Rattle.sbp_world.proofs.Words.Initiator.{start, OrbPointer, Null, At, Link, Linking, PresentList, HoldsLink, HoldsList, HoldsPresent, IsBefore, Kept, in_slot, is_dummy, kept_in, low_is, next_is, LinkHigh, LinkLow, MakeDummy, Note, LowWritten, Linked, Dummied, if_ok, if_some, run, SlotTable, find_in, slot_in, waiting, waits_high, waits_low, TicketParts}
use Rattle.sbp_world.proofs.Words.World.{AreRows, IfList, ListFits, LoweredFits, linked_by, terms_at}
use Rattle.bus_memory.specs.declared.window.Window.TheVariants as windows
use Rattle.orb_list.specs.declared.list.Link.TheVariants as links
use Rattle.orb_list.specs.Runs.{Call}
use Rattle.orb_list.specs.Table as table
use Rattle.orb_list.proofs.Steps.{held_law}
use Rattle.orb_list.proofs.Tied.{waits_last}
use Rattle.sbp_journal.specs.declared.note.Note.TheVariants as notes
use Rattle.sbp_world.proofs.Hosts.Beside.{find_waits, found_checked, found_here, found_list, found_small, no_fault}
use Rattle.sbp_world.proofs.Hosts.Chains.{Same, chained_run}
use Rattle.sbp_world.proofs.Hosts.Over.{last_at}
use Rattle.sbp_world.proofs.Hosts.OrbAppends.{kept_last}
use Rattle.sbp_world.proofs.Hosts.OrbFits.{AllFit, IfFits, NoneYet, OrbFits, low_to}
use Rattle.sbp_world.proofs.Hosts.OrbTerms.{OrbTerms, dummy_said, link_said, low_said, orb_terms, with_dummy, with_link, with_low}

abbrev pointer_to : ℕ → OrbPointer
pointer_to slot = At (start (windows.Orb slot))

-- ---- an ORB is linked

-- the ORB that waits for the high quadlet of its link
pub record Waits (present : Option PresentList) (linking : Linking) : Type 0 where
  pub list : PresentList
  pub is : present ≡ Some list
  pub link : list.link ≡ links.High linking.before
  pub tail : list.tail ≡ linking.tail

pub waits_for : (present : Option PresentList) (linking : Linking) → waits_high present ≡ Some linking → Waits present linking
waits_for None linking e = absurd (differ e)
  where
    differ : None ≡ Some linking → ⊥
    differ e = cc
waits_for (Some list) linking e = by_link list.link refl e
  where
    by_link : (link : Link) → list.link ≡ link → table.high_in link list.tail ≡ Some linking → Waits (Some list) linking
    by_link links.Done l e = absurd (differ e)
      where
        differ : None ≡ Some linking → ⊥
        differ e = cc
    by_link (links.Low before) l e = absurd (differ e)
      where
        differ : None ≡ Some linking → ⊥
        differ e = cc
    by_link (links.High before) l e =
        let g : record { before = before; tail = list.tail } ≡ linking = cc in
        record { list = list; is = refl; link = l ∙ ap (λ (x : Linking). links.High x.before) g; tail = ap (λ (x : Linking). x.tail) g }

-- the ORB before is linked to it, and every other one as it was
module _ (t : OrbTerms) (n k slot : ℕ) (linked : t.linked n ≡ k) (place : t.place n k ≡ slot) where
  abbrev now : OrbTerms
  now = with_link true n k t

  linked_here : (o : Kept) (tail : TicketParts) → o.ticket.list ≡ n → suc o.ticket.number ≡ k → tail.slot ≡ slot → OrbFits t o → OrbFits now (next_is tail o)
  linked_here o tail of before at f = record {
    cmd = f.cmd;
    node = f.node;
    login = f.login;
    at = f.at;
    fits = f.fits;
    fills = f.fills;
    asked = f.asked;
    command = f.command;
    request = f.request;
    next = sym (ap (λ a. cond (nat_lt (suc o.ticket.number) (cond a (suc k) (t.linked o.ticket.list))) (pointer_to (t.place o.ticket.list (suc o.ticket.number))) Null) same
        ∙ (ap (λ b. cond b (pointer_to (t.place o.ticket.list (suc o.ticket.number))) Null) less
        ∙ ap pointer_to (ap (λ x. t.place x (suc o.ticket.number)) of ∙ (ap (t.place n) before ∙ (place ∙ sym at)))));
    low = f.low;
    format = f.format;
  }
    where
      same : nat_eq o.ticket.list n ≡ true
      same = grind (arith, nat_tests)

      less : nat_lt (suc o.ticket.number) (suc k) ≡ true
      less = grind (arith, nat_tests)

  linked_there : (o : Kept) → (o.ticket.list ≡ n → suc o.ticket.number ≡ k → ⊥) → OrbFits t o → OrbFits now o
  linked_there o other f = record {
    cmd = f.cmd;
    node = f.node;
    login = f.login;
    at = f.at;
    fits = f.fits;
    fills = f.fills;
    asked = f.asked;
    command = f.command;
    request = f.request;
    next = f.next ∙ sym (ap (λ b. cond b (pointer_to (t.place o.ticket.list (suc o.ticket.number))) Null) (by_list (nat_eq o.ticket.list n) refl));
    low = f.low;
    format = f.format;
  }
    where
      by_list : (a : Bool) → nat_eq o.ticket.list n ≡ a → nat_lt (suc o.ticket.number) (cond a (suc k) (t.linked o.ticket.list)) ≡ nat_lt (suc o.ticket.number) (t.linked o.ticket.list)
      by_list false e = refl
      by_list true e =
          let same : o.ticket.list ≡ n = grind (arith, nat_tests) in
          let l : t.linked o.ticket.list ≡ k = ap t.linked same ∙ linked in
          by_number (nat_eq (suc o.ticket.number) k) refl same l
        where
          by_number : (c : Bool) → nat_eq (suc o.ticket.number) k ≡ c → o.ticket.list ≡ n → t.linked o.ticket.list ≡ k → nat_lt (suc o.ticket.number) (suc k) ≡ nat_lt (suc o.ticket.number) (t.linked o.ticket.list)
          by_number true g same l = absurd (other same (grind (arith, nat_tests)))
          by_number false g same l = grind (arith, nat_tests)

-- ---- the low quadlet of an ORB is written

-- the ORB that waits for it
pub record WaitsLow (present : Option PresentList) (linking : Linking) : Type 0 where
  pub list : PresentList
  pub is : present ≡ Some list
  pub link : list.link ≡ links.Low linking.before
  pub tail : list.tail ≡ linking.tail

pub waits_for_low : (present : Option PresentList) (linking : Linking) → waits_low present ≡ Some linking → WaitsLow present linking
waits_for_low None linking e = absurd (differ e)
  where
    differ : None ≡ Some linking → ⊥
    differ e = cc
waits_for_low (Some list) linking e = by_link list.link refl e
  where
    by_link : (link : Link) → list.link ≡ link → table.low_in link list.tail ≡ Some linking → WaitsLow (Some list) linking
    by_link links.Done l e = absurd (differ e)
      where
        differ : None ≡ Some linking → ⊥
        differ e = cc
    by_link (links.High before) l e = absurd (differ e)
      where
        differ : None ≡ Some linking → ⊥
        differ e = cc
    by_link (links.Low before) l e =
        let g : record { before = before; tail = list.tail } ≡ linking = cc in
        record { list = list; is = refl; link = l ∙ ap (λ (x : Linking). links.Low x.before) g; tail = ap (λ (x : Linking). x.tail) g }

module _ (t : OrbTerms) (n k slot : ℕ) (lowered : suc (t.lowered n) ≡ k) (place : t.place n k ≡ slot) where
  abbrev low_now : OrbTerms
  low_now = with_low true n k t

  lowered_here : (o : Kept) (tail : TicketParts) → o.ticket.list ≡ n → suc o.ticket.number ≡ k → tail.slot ≡ slot → OrbFits t o → OrbFits low_now (low_is tail o)
  lowered_here o tail of before at f = record {
    cmd = f.cmd;
    node = f.node;
    login = f.login;
    at = f.at;
    fits = f.fits;
    fills = f.fills;
    asked = f.asked;
    command = f.command;
    request = f.request;
    next = f.next;
    low = sym (ap (λ a. cond (nat_le (suc o.ticket.number) (cond a k (t.lowered o.ticket.list))) (low_to (t.place o.ticket.list (suc o.ticket.number))) 0) same
        ∙ (ap (λ b. cond b (low_to (t.place o.ticket.list (suc o.ticket.number))) 0) less
        ∙ ap low_to (ap (λ x. t.place x (suc o.ticket.number)) of ∙ (ap (t.place n) before ∙ (place ∙ sym at)))));
    format = f.format;
  }
    where
      same : nat_eq o.ticket.list n ≡ true
      same = grind (arith, nat_tests)

      less : nat_le (suc o.ticket.number) k ≡ true
      less = grind (arith, nat_tests)

  lowered_there : (o : Kept) → (o.ticket.list ≡ n → suc o.ticket.number ≡ k → ⊥) → OrbFits t o → OrbFits low_now o
  lowered_there o other f = record {
    cmd = f.cmd;
    node = f.node;
    login = f.login;
    at = f.at;
    fits = f.fits;
    fills = f.fills;
    asked = f.asked;
    command = f.command;
    request = f.request;
    next = f.next;
    low = f.low ∙ sym (ap (λ b. cond b (low_to (t.place o.ticket.list (suc o.ticket.number))) 0) (by_list (nat_eq o.ticket.list n) refl));
    format = f.format;
  }
    where
      by_list : (a : Bool) → nat_eq o.ticket.list n ≡ a → nat_le (suc o.ticket.number) (cond a k (t.lowered o.ticket.list)) ≡ nat_le (suc o.ticket.number) (t.lowered o.ticket.list)
      by_list false e = refl
      by_list true e =
          let same : o.ticket.list ≡ n = grind (arith, nat_tests) in
          let l : suc (t.lowered o.ticket.list) ≡ k = ap (λ x. suc (t.lowered x)) same ∙ lowered in
          by_number (nat_eq (suc o.ticket.number) k) refl same l
        where
          by_number : (c : Bool) → nat_eq (suc o.ticket.number) k ≡ c → o.ticket.list ≡ n → suc (t.lowered o.ticket.list) ≡ k → nat_le (suc o.ticket.number) k ≡ nat_le (suc o.ticket.number) (t.lowered o.ticket.list)
          by_number true g same l = absurd (other same (grind (arith, nat_tests)))
          by_number false g same l = grind (arith, nat_tests)

-- ---- an ORB becomes a dummy

module _ (t : OrbTerms) (n k : ℕ) where
  abbrev dummied : OrbTerms
  dummied = with_dummy true n k t

  dummy_here : (o : Kept) → o.ticket.list ≡ n → o.ticket.number ≡ k → OrbFits t o → OrbFits dummied (is_dummy o)
  dummy_here o of numbered f = record {
    cmd = f.cmd;
    node = f.node;
    login = f.login;
    at = f.at;
    fits = f.fits;
    fills = f.fills;
    asked = f.asked;
    command = f.command;
    request = f.request;
    next = f.next;
    low = f.low;
    format = sym (ap (λ b. cond b 3 0) (both (nat_eq o.ticket.list n) (nat_eq o.ticket.number k) same_list same_number));
  }
    where
      same_list : nat_eq o.ticket.list n ≡ true
      same_list = grind (arith, nat_tests)

      same_number : nat_eq o.ticket.number k ≡ true
      same_number = grind (arith, nat_tests)

      both : (a b : Bool) → a ≡ true → b ≡ true → cond a (cond b true (t.dummy o.ticket.list o.ticket.number)) (t.dummy o.ticket.list o.ticket.number) ≡ true
      both true true e g = refl
      both true false e g = cc
      both false b e g = cc

  not_both : (a b d : Bool) → (a ≡ true → b ≡ true → ⊥) → cond a (cond b true d) d ≡ d
  not_both true true d h = absurd (h refl refl)
  not_both true false d h = refl
  not_both false b d h = refl

  dummy_there : (o : Kept) → (o.ticket.list ≡ n → o.ticket.number ≡ k → ⊥) → OrbFits t o → OrbFits dummied o
  dummy_there o other f = record {
    cmd = f.cmd;
    node = f.node;
    login = f.login;
    at = f.at;
    fits = f.fits;
    fills = f.fills;
    asked = f.asked;
    command = f.command;
    request = f.request;
    next = f.next;
    low = f.low;
    format = f.format ∙ sym (ap (λ b. cond b 3 0) (not_both (nat_eq o.ticket.list n) (nat_eq o.ticket.number k) (t.dummy o.ticket.list o.ticket.number) apart));
  }
    where
      apart : nat_eq o.ticket.list n ≡ true → nat_eq o.ticket.number k ≡ true → ⊥
      apart e g = other (grind (arith, nat_tests)) (grind (arith, nat_tests))

  none_dummied : k < t.appended n → NoneYet t → NoneYet dummied
  none_dummied below h m l b = not_both (nat_eq m n) (nat_eq l k) (t.dummy m l) apart ∙ h m l b
    where
      apart : nat_eq m n ≡ true → nat_eq l k ≡ true → ⊥
      apart e g =
          let same : m ≡ n = grind (arith, nat_tests) in
          let a : t.appended m ≡ t.appended n = ap t.appended same in
          let c : l ≡ k = grind (arith, nat_tests) in
          absurd (omega arith)

-- ---- by the rows of the slots

module _ (past : List Moment) (i : ℕ) (calls : List Call) (quads : List ℕ) (rows : AreRows past i (run calls quads).table) (h : AllFit (orb_terms past i) (run calls quads).notes) where
  abbrev t : OrbTerms
  t = orb_terms past i

  abbrev s : SlotTable
  s = (run calls quads).table

  abbrev ns : List Note
  ns = (run calls quads).notes

  -- two slots have no ORBs of one name
  one_slot : (k : ℕ) (o : Kept) (j : ℕ) (u : TicketParts) → k < 32 → kept_in ns k ≡ Some o → j < 32 → (slot_in s.slots j).last ≡ Some u → o.ticket.list ≡ u.list → o.ticket.number ≡ u.number → k ≡ j
  one_slot k o j u b e c f n m =
      let p = kept_last past i calls quads rows k o b e in
      let q = last_at (terms_at past i) s rows.fits j u c f in
      sym p.at ∙ (ap (λ x. t.place x o.ticket.number) n ∙ (ap (t.place u.list) m ∙ q.at))

  -- the ORB of a slot
  ticket_is : (last : Option TicketParts) (found : Option Kept) (o : Kept) (u : TicketParts) → Same last found → last ≡ Some u → found ≡ Some o → o.ticket ≡ u
  ticket_is None found o u h e f = absurd (differ e)
    where
      differ : None ≡ Some u → ⊥
      differ e = cc
  ticket_is (Some v) None o u h e f = absurd h
  ticket_is (Some v) (Some p) o u h e f =
      let g : p ≡ o = cc in
      let c : v ≡ u = cc in
      ap (λ (x : Kept). x.ticket) (sym g) ∙ (h ∙ c)

  kept_ticket : (k : ℕ) (o : Kept) (u : TicketParts) → k < 32 → kept_in ns k ≡ Some o → (slot_in s.slots k).last ≡ Some u → o.ticket ≡ u
  kept_ticket k o u b e f = ticket_is (slot_in s.slots k).last (kept_in ns k) o u ((chained_run calls quads).same k b) f e

  -- ---- a link

  module _ (list : PresentList) (before : ℕ) (p : s.present ≡ Some list) (l : list.link ≡ links.High before) where
    abbrev tail : TicketParts
    tail = list.tail

    holds : HoldsList s.slots s.acts list
    holds = subst (HoldsPresent s.slots s.acts) p (held_law.run_sound calls quads).present

    list_fits : ListFits (terms_at past i) s.slots s.lists list
    list_fits = subst (IfList (terms_at past i) s.slots s.lists) p rows.fits.list

    is_before : IsBefore s.slots tail before
    is_before = subst (HoldsLink s.slots tail) l holds.link

    count : t.linked tail.list ≡ tail.number
    count = list_fits.linked ∙ ap (λ x. linked_by x tail.number) l

    place : t.place tail.list tail.number ≡ tail.slot
    place = (last_at (terms_at past i) s rows.fits tail.slot tail holds.tail.below holds.tail.last).at

    link_if : (c : Bool) (k : ℕ) (o : Kept) → k < 32 → (k == before) ≡ c → kept_in ns k ≡ Some o → OrbFits t o → OrbFits (with_link true tail.list tail.number t) (cond c (next_is tail o) o)
    link_if true k o small e f g =
        let at : k ≡ before = grind (arith, nat_tests) in
        let b = is_before in
        let q : o.ticket ≡ b.orb = kept_ticket before o b.orb b.in_slot.below (ap (kept_in ns) (sym at) ∙ f) b.in_slot.last in
        let m : o.ticket.number ≡ b.orb.number = ap (λ (x : TicketParts). x.number) q in
        let c = b.before in
        linked_here t tail.list tail.number tail.slot count place o tail (ap (λ (x : TicketParts). x.list) q ∙ b.list) (omega arith) refl g
    link_if false k o small e f g =
        let b = is_before in
        linked_there t tail.list tail.number tail.slot count place o
        (λ n m.
        let c = b.before in
        let same : k ≡ before = one_slot k o before b.orb small f b.in_slot.below b.in_slot.last (n ∙ sym b.list) (omega arith) in
        absurd (grind (arith, nat_tests))) g

    link_kept : (k : ℕ) (found : Option Kept) → k < 32 → kept_in ns k ≡ found → IfFits t found → IfFits (with_link true tail.list tail.number t) (in_slot before k (next_is tail) found)
    link_kept k None b e g = tt
    link_kept k (Some o) b e g = link_if (k == before) k o b refl e g

    link_noted : (run (LinkHigh ∷ calls) quads).notes ≡ Linked before tail ∷ ns
    link_noted =
        ap (λ x. if_some (λ (linking : Linking). Linked linking.before linking.tail) (waits_high x) ns) p
        ∙ ap (λ x. if_some (λ (linking : Linking). Linked linking.before linking.tail) (table.high_in x tail) ns) l

    link_all : AllFit (orb_terms (said (notes.Linked i tail.list tail.number) ∷ past) i) (run (LinkHigh ∷ calls) quads).notes
    link_all =
        subst (AllFit (orb_terms (said (notes.Linked i tail.list tail.number) ∷ past) i)) (sym link_noted)
        (subst (λ x. AllFit x (Linked before tail ∷ ns)) (sym (link_said past i tail.list tail.number)) (λ k b. link_kept k (kept_in ns k) b refl (h k b)))

  -- ---- a low quadlet

  module _ (list : PresentList) (before : ℕ) (p : s.present ≡ Some list) (l : list.link ≡ links.Low before) where
    abbrev low_tail : TicketParts
    low_tail = list.tail

    low_holds : HoldsList s.slots s.acts list
    low_holds = subst (HoldsPresent s.slots s.acts) p (held_law.run_sound calls quads).present

    low_list : ListFits (terms_at past i) s.slots s.lists list
    low_list = subst (IfList (terms_at past i) s.slots s.lists) p rows.fits.list

    low_before : IsBefore s.slots low_tail before
    low_before = subst (HoldsLink s.slots low_tail) l low_holds.link

    low_count : suc (t.lowered low_tail.list) ≡ low_tail.number
    low_count = subst (λ x. LoweredFits x low_tail.number (t.lowered low_tail.list)) l low_list.lowered

    low_place : t.place low_tail.list low_tail.number ≡ low_tail.slot
    low_place = (last_at (terms_at past i) s rows.fits low_tail.slot low_tail low_holds.tail.below low_holds.tail.last).at

    low_if : (c : Bool) (k : ℕ) (o : Kept) → k < 32 → (k == before) ≡ c → kept_in ns k ≡ Some o → OrbFits t o → OrbFits (with_low true low_tail.list low_tail.number t) (cond c (low_is low_tail o) o)
    low_if true k o small e f g =
        let at : k ≡ before = grind (arith, nat_tests) in
        let b = low_before in
        let q : o.ticket ≡ b.orb = kept_ticket before o b.orb b.in_slot.below (ap (kept_in ns) (sym at) ∙ f) b.in_slot.last in
        let m : o.ticket.number ≡ b.orb.number = ap (λ (x : TicketParts). x.number) q in
        let c = b.before in
        lowered_here t low_tail.list low_tail.number low_tail.slot low_count low_place o low_tail (ap (λ (x : TicketParts). x.list) q ∙ b.list) (omega arith) refl g
    low_if false k o small e f g =
        let b = low_before in
        lowered_there t low_tail.list low_tail.number low_tail.slot low_count low_place o
        (λ n m.
        let c = b.before in
        let same : k ≡ before = one_slot k o before b.orb small f b.in_slot.below b.in_slot.last (n ∙ sym b.list) (omega arith) in
        absurd (grind (arith, nat_tests))) g

    low_kept : (k : ℕ) (found : Option Kept) → k < 32 → kept_in ns k ≡ found → IfFits t found → IfFits (with_low true low_tail.list low_tail.number t) (in_slot before k (low_is low_tail) found)
    low_kept k None b e g = tt
    low_kept k (Some o) b e g = low_if (k == before) k o b refl e g

    low_noted : (run (LinkLow ∷ calls) quads).notes ≡ LowWritten before low_tail ∷ ns
    low_noted =
        ap (λ x. if_some (λ (linking : Linking). LowWritten linking.before linking.tail) (waits_low x) ns) p
        ∙ ap (λ x. if_some (λ (linking : Linking). LowWritten linking.before linking.tail) (table.low_in x low_tail) ns) l

    low_all : AllFit (orb_terms (said (notes.Low i low_tail.list low_tail.number) ∷ past) i) (run (LinkLow ∷ calls) quads).notes
    low_all =
        subst (AllFit (orb_terms (said (notes.Low i low_tail.list low_tail.number) ∷ past) i)) (sym low_noted)
        (subst (λ x. AllFit x (LowWritten before low_tail ∷ ns)) (sym (low_said past i low_tail.list low_tail.number)) (λ k b. low_kept k (kept_in ns k) b refl (h k b)))

  pub low_fits : (linking : Linking) → waits_low s.present ≡ Some linking → AllFit (orb_terms (said (notes.Low i linking.tail.list linking.tail.number) ∷ past) i) (run (LinkLow ∷ calls) quads).notes
  low_fits linking w =
      let q = waits_for_low s.present linking w in
      subst (λ (x : TicketParts). AllFit (orb_terms (said (notes.Low i x.list x.number) ∷ past) i) (run (LinkLow ∷ calls) quads).notes) q.tail (low_all q.list linking.before q.is q.link)

  pub low_none : (linking : Linking) → NoneYet t → NoneYet (orb_terms (said (notes.Low i linking.tail.list linking.tail.number) ∷ past) i)
  low_none linking none = subst NoneYet (sym (low_said past i linking.tail.list linking.tail.number)) none

  pub link_fits : (linking : Linking) → waits_high s.present ≡ Some linking → AllFit (orb_terms (said (notes.Linked i linking.tail.list linking.tail.number) ∷ past) i) (run (LinkHigh ∷ calls) quads).notes
  link_fits linking w =
      let q = waits_for s.present linking w in
      subst (λ (x : TicketParts). AllFit (orb_terms (said (notes.Linked i x.list x.number) ∷ past) i) (run (LinkHigh ∷ calls) quads).notes) q.tail (link_all q.list linking.before q.is q.link)

  pub link_none : (linking : Linking) → NoneYet t → NoneYet (orb_terms (said (notes.Linked i linking.tail.list linking.tail.number) ∷ past) i)
  link_none linking none = subst NoneYet (sym (link_said past i linking.tail.list linking.tail.number)) none

  -- ---- a dummy

  module _ (number : ℕ) (u : TicketParts) (found : find_in s.slots number ≡ Some u) where
    abbrev waits : (k : ℕ) × ((k < length s.slots) × (waiting (slot_in s.slots k) ≡ Some u))
    waits = find_waits s.slots number u found

    small : u.slot < 32
    small = found_small s rows.fits u waits

    last : (slot_in s.slots u.slot).last ≡ Some u
    last = waits_last (slot_in s.slots u.slot) u (found_here s rows.fits u waits)

    checks : table.checked s u ≡ no_fault
    checks = found_checked s u (found_list s rows.fits u waits) (found_here s rows.fits u waits)

    dummy_if : (c : Bool) (k : ℕ) (o : Kept) → k < 32 → (k == u.slot) ≡ c → kept_in ns k ≡ Some o → OrbFits t o → OrbFits (with_dummy true u.list u.number t) (cond c (is_dummy o) o)
    dummy_if true k o b e f g =
        let at : k ≡ u.slot = grind (arith, nat_tests) in
        let q : o.ticket ≡ u = kept_ticket u.slot o u small (ap (kept_in ns) (sym at) ∙ f) last in
        dummy_here t u.list u.number o (ap (λ (x : TicketParts). x.list) q) (ap (λ (x : TicketParts). x.number) q) g
    dummy_if false k o b e f g =
        dummy_there t u.list u.number o
        (λ n m. let same : k ≡ u.slot = one_slot k o u.slot u b f small last n m in absurd (grind (arith, nat_tests))) g

    dummy_kept : (k : ℕ) (kept : Option Kept) → k < 32 → kept_in ns k ≡ kept → IfFits t kept → IfFits (with_dummy true u.list u.number t) (in_slot u.slot k is_dummy kept)
    dummy_kept k None b e g = tt
    dummy_kept k (Some o) b e g = dummy_if (k == u.slot) k o b refl e g

    dummy_noted : (run (MakeDummy u ∷ calls) quads).notes ≡ Dummied u ∷ ns
    unfolding table.dummy_step
    dummy_noted = ap (λ x. if_ok (λ done. Dummied u) (table.dummy_at x s (run calls quads).memory u).0 ns) checks

    pub dummy_fits : AllFit (orb_terms (said (notes.Dummied i u.list u.number) ∷ past) i) (run (MakeDummy u ∷ calls) quads).notes
    dummy_fits =
        subst (AllFit (orb_terms (said (notes.Dummied i u.list u.number) ∷ past) i)) (sym dummy_noted)
        (subst (λ x. AllFit x (Dummied u ∷ ns)) (sym (dummy_said past i u.list u.number)) (λ k b. dummy_kept k (kept_in ns k) b refl (h k b)))

    pub dummy_none : NoneYet t → NoneYet (orb_terms (said (notes.Dummied i u.list u.number) ∷ past) i)
    dummy_none none =
        subst NoneYet (sym (dummy_said past i u.list u.number))
        (none_dummied t u.list u.number (last_at (terms_at past i) s rows.fits u.slot u small last).below none)
