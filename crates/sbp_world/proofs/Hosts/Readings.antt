-- The run terms of an initiator's lists are read off its slots.
use Rattle.sbp_world.proofs.Words.Std.{arith, ◌≡◌, refl, sym, ◌∙◌, ap, subst, ℕ, zero, suc, ◌+◌, ◌-◌, ◌<◌, ◌≤◌, ◌==◌, ◌&&◌, not, is_some, nat_lt, Bool, true, false, cond, List, [], ◌∷◌, length, map, Option, Some, None, position_or_len, nat_tests}
use Rattle.sbp_world.proofs.Words.Wire.{Moment}
use Rattle.sbp_world.proofs.Words.Initiator.{Link, PresentList, SlotState, Slot, TicketParts, SlotTable, find_in, is_free, list_number, lowest, orb_number, slot_in, waiting, waits_high, waits_low}
use Rattle.sbp_world.proofs.Words.Laws.{appends, TakenStatus, lowest_vacant, present_list, is_none_taken, waits_in, is_mid_link, is_lowered, list_for, waits_of}
use Rattle.sbp_world.proofs.Words.World.{row, present_in, ListTerms, terms_at, StateFits, ListFits, IfList, LoweredFits, linked_by, AreRows, ReadAs, ReadLaw, last_linked}
use Rattle.std.proofs.Common.{is_none}
use Rattle.orb_list.specs.declared.list.Link.TheVariants as links
use Rattle.orb_list.specs.declared.slot.SlotState.TheVariants as states
use Rattle.orb_list.specs.Table as table
use Rattle.orb_list.proofs.Tied.{waits_last}
use Rattle.sbp_laws.specs.Lists as terms
use Rattle.sbp_world.proofs.Hosts.Appends.{vacant_row}
use Rattle.sbp_world.proofs.Hosts.Acts.{found_number}
use Rattle.sbp_world.proofs.Hosts.Beside.{find_waits}
use Rattle.sbp_world.proofs.Hosts.Over.{last_at}

-- ---- the lowest free slot
pub lowest_same : (slots : List Slot) → lowest_vacant (map row slots) ≡ position_or_len is_free slots
lowest_same [] = refl
lowest_same (slot ∷ slots) =
    ap (λ c. cond c 0 (suc (lowest_vacant (map row slots)))) (vacant_row slot) ∙ turned (is_free slot) (lowest_vacant (map row slots)) (position_or_len is_free slots) (lowest_same slots)
  where
    turned : (b : Bool) (n m : ℕ) → n ≡ m → cond b 0 (suc n) ≡ cond (not b) (1 + m) 0
    turned true n m e = refl
    turned false n m e = omega arith

within_all : (slots : List Slot) → position_or_len is_free slots ≤ length slots
within_all [] = omega arith
within_all (slot ∷ slots) = by_test (within_all slots) (is_free slot)
  where
    by_test : position_or_len is_free slots ≤ length slots → (b : Bool) → cond (not b) (1 + position_or_len is_free slots) 0 ≤ suc (length slots)
    by_test h true = omega arith
    by_test h false = omega arith

is_full : (n : ℕ) → n ≤ 32 → (n == 32) ≡ not (nat_lt n 32)
is_full n b = grind (arith, nat_tests)

found_if : (b : Bool) (n : ℕ) → is_some (cond b (Some n) None) ≡ b
found_if true n = refl
found_if false n = refl

full_same : (slots : List Slot) → length slots ≡ 32 → (lowest_vacant (map row slots) == 32) ≡ not (is_some (lowest slots))
full_same slots z =
    let n = position_or_len is_free slots in
    let b = within_all slots in
    ap (λ x. x == 32) (lowest_same slots) ∙ (is_full n (omega arith) ∙ (ap (λ x. not (nat_lt n x)) (sym z) ∙ ap not (sym (found_if (nat_lt n (length slots)) n))))

-- ---- the links of the present list
mid_same : (link : Link) (number : ℕ) → nat_lt (linked_by link number) (suc number) ≡ not (table.is_done link)
mid_same links.Done number = grind (arith, nat_tests)
mid_same (links.Low before) number = grind (arith, nat_tests)
mid_same (links.High before) number = grind (arith, nat_tests)

lowered_same : (link : Link) (number lowered : ℕ) (t : TicketParts) → LoweredFits link number lowered → (not (table.is_done link) && not (suc lowered == suc number)) ≡ is_some (table.low_in link t)
lowered_same links.Done number lowered t f = refl
lowered_same (links.Low before) number lowered t f = let e : (suc lowered == suc number) ≡ false = grind (arith, nat_tests) in ap not e
lowered_same (links.High before) number lowered t f = let e : (suc lowered == suc number) ≡ true = grind (arith, nat_tests) in ap not e

raised_same : (link : Link) (number lowered : ℕ) (t : TicketParts) → LoweredFits link number lowered → (not (table.is_done link) && (suc lowered == suc number)) ≡ is_some (table.high_in link t)
raised_same links.Done number lowered t f = refl
raised_same (links.Low before) number lowered t f = grind (arith, nat_tests)
raised_same (links.High before) number lowered t f = grind (arith, nat_tests)

rung_same : (link : Link) (number : ℕ) → linked_by link number - 1 ≡ cond (table.is_done link) number (number - 1)
rung_same links.Done number = omega arith
rung_same (links.Low before) number = refl
rung_same (links.High before) number = refl

-- ---- the ORB of a number
finds : (slots : List Slot) (j : ℕ) (u : TicketParts) (number : ℕ) → j < length slots → waiting (slot_in slots j) ≡ Some u → u.number ≡ number → is_some (find_in slots number) ≡ true
unfolding find_in
finds [] j u number b w n = absurd (omega arith)
finds (slot ∷ slots) zero u number b w n =
    let here : table.has_number number (waiting slot) ≡ true = ap (table.has_number number) w ∙ same u.number number n in
    ap (λ c. is_some (cond c (waiting slot) (find_in slots number))) here ∙ ap is_some w
  where
    same : (a b : ℕ) → a ≡ b → (a == b) ≡ true
    same a b e = grind (arith, nat_tests)
finds (slot ∷ slots) (suc j) u number b w n = by_test (finds slots j u number (omega arith) w n) (waiting slot) (table.has_number number (waiting slot)) refl
  where
    by_test : is_some (find_in slots number) ≡ true → (found : Option TicketParts) (c : Bool) → table.has_number number found ≡ c → is_some (cond c found (find_in slots number)) ≡ true
    by_test h found false e = h
    by_test h (Some v) true e = refl
    by_test h None true e = absurd (untrue e)
      where
        untrue : false ≡ true → ⊥
        untrue e = cc

module _ (past : List Moment) (i : ℕ) (s : SlotTable) (r : AreRows past i s) where
  t : ListTerms
  t = terms_at past i

  -- an ORB that is found waits
  found_is : (list : PresentList) (k : ℕ) (u : TicketParts) → s.present ≡ Some list → find_in s.slots k ≡ Some u → u.number ≡ k → waits_in past i list.tail.list k ≡ true
  found_is list k u p e n =
      let w = find_waits s.slots k u e in
      let z = r.fits.size in
      let b = w.1.0 in
      let small : w.0 < 32 = omega arith in
      let last = last_at (terms_at past i) s r.fits w.0 u small (waits_last (slot_in s.slots w.0) u w.1.1) in
      let f = state_of (slot_in s.slots w.0).state (slot_in s.slots w.0).last w.1.1 (subst (λ x. StateFits x (terms.taken_at past i) (slot_in s.slots w.0).state (slot_in s.slots w.0).last) p (r.fits.states w.0 small)) in
      let here : terms.is_list (present_list past i) list.tail.list ≡ true = ap (λ x. terms.is_list x list.tail.list) (r.fits.present ∙ ap present_in p) ∙ self list.tail.list in
      let below : nat_lt k (appends past i list.tail.list) ≡ true = ap (λ m. nat_lt k (appends past i m)) f.0 ∙ (ap (λ m. nat_lt m (appends past i u.list)) (sym n) ∙ less u.number (appends past i u.list) last.below) in
      let none : is_none_taken (terms.taken_at past i list.tail.list k) ≡ true = ap (λ m. is_none_taken (terms.taken_at past i m k)) f.0 ∙ (ap (λ m. is_none_taken (terms.taken_at past i u.list m)) (sym n) ∙ ap is_none_taken f.1) in
      all_true (terms.is_list (present_list past i) list.tail.list) (nat_lt k (appends past i list.tail.list)) (is_none_taken (terms.taken_at past i list.tail.list k)) here below none
    where
      self : (n : ℕ) → (n == n) ≡ true
      self n = grind (arith, nat_tests)

      less : (a b : ℕ) → a < b → nat_lt a b ≡ true
      less a b h = grind (arith, nat_tests)

      all_true : (a b c : Bool) → a ≡ true → b ≡ true → c ≡ true → (a && b && c) ≡ true
      all_true true true true x y z = refl
      all_true true true false x y z = cc
      all_true true false c x y z = cc
      all_true false b c x y z = cc

      state_of : (state : SlotState) (last : Option TicketParts) → table.waits_in state last ≡ Some u → StateFits (Some list) (terms.taken_at past i) state last → (list.tail.list ≡ u.list) × (terms.taken_at past i u.list u.number ≡ None)
      state_of states.Free last e f = cc
      state_of states.Waiting None e f = absurd f
      state_of states.Waiting (Some v) e f =
          let g : v ≡ u = cc in subst (λ (x : TicketParts). (list.tail.list ≡ x.list) × (terms.taken_at past i x.list x.number ≡ None)) g f
      state_of (states.Taken had_next) last e f = cc
      state_of states.Resting last e f = cc

  -- one that waits is found
  waits_found : (list : PresentList) (k : ℕ) → ListFits (terms_at past i) s.slots s.lists list → waits_in past i list.tail.list k ≡ true → is_some (find_in s.slots k) ≡ true
  waits_found list k l e =
      let a = and_left (terms.is_list (present_list past i) list.tail.list) (nat_lt k (appends past i list.tail.list)) (is_none_taken (terms.taken_at past i list.tail.list k)) e in
      let w = l.waits k (let x = a.0 in less k (appends past i list.tail.list) x) (taken_none (terms.taken_at past i list.tail.list k) a.1) in
      let z = r.fits.size in
      let b = w.small in
      finds s.slots w.ticket.slot w.ticket k (omega arith) w.waits w.numbered
    where
      and_left : (a b c : Bool) → (a && b && c) ≡ true → (b ≡ true) × (c ≡ true)
      and_left true true true e = (refl, refl)
      and_left true true false e = cc
      and_left true false c e = cc
      and_left false b c e = cc

      less : (a b : ℕ) → nat_lt a b ≡ true → a < b
      less a b h = grind (arith, nat_tests)

      taken_none : (x : Option TakenStatus) → is_none_taken x ≡ true → x ≡ None
      taken_none None e = refl
      taken_none (Some x) e = cc

  both_ways : (a b : Bool) → (a ≡ true → b ≡ true) → (b ≡ true → a ≡ true) → a ≡ b
  both_ways true b f g = sym (f refl)
  both_ways false true f g = g refl
  both_ways false false f g = refl

  some_found : (found : Option TicketParts) → is_some found ≡ true → (u : TicketParts) × (found ≡ Some u)
  some_found None e = absurd (untrue e)
    where
      untrue : false ≡ true → ⊥
      untrue e = cc
  some_found (Some u) e = (u, refl)

  waits_same : (k : ℕ) (present : Option PresentList) → s.present ≡ present → IfList (terms_at past i) s.slots s.lists present → waits_of past i k (present_in present) ≡ is_some (find_in s.slots k)
  waits_same k None p l = sym (none_found (find_in s.slots k) refl)
    where
      none_waits : (state : SlotState) (last : Option TicketParts) (u : TicketParts) → table.waits_in state last ≡ Some u → StateFits None (terms.taken_at past i) state last → ⊥
      none_waits states.Free last u e f = cc
      none_waits states.Waiting None u e f = f
      none_waits states.Waiting (Some v) u e f = f.0
      none_waits (states.Taken had_next) last u e f = cc
      none_waits states.Resting last u e f = cc

      none_found : (found : Option TicketParts) → find_in s.slots k ≡ found → is_some (find_in s.slots k) ≡ false
      none_found None e = ap is_some e
      none_found (Some u) e =
          let w = find_waits s.slots k u e in
          let z = r.fits.size in
          let b = w.1.0 in
          absurd (none_waits (slot_in s.slots w.0).state (slot_in s.slots w.0).last u w.1.1 (subst (λ x. StateFits x (terms.taken_at past i) (slot_in s.slots w.0).state (slot_in s.slots w.0).last) p (r.fits.states w.0 (omega arith))))
  waits_same k (Some list) p l =
      both_ways (waits_in past i list.tail.list k) (is_some (find_in s.slots k)) (λ e. waits_found list k l e)
      (λ e. let f = some_found (find_in s.slots k) e in found_is list k f.0 p f.1 (found_number s.slots k f.0 f.1))

  none_same : (present : Option PresentList) → is_none (present_in present) ≡ not (is_some present)
  none_same None = refl
  none_same (Some list) = refl

  mid_link_same : (present : Option PresentList) → IfList (terms_at past i) s.slots s.lists present → is_mid_link past i (present_in present) ≡ table.is_mid_link present
  mid_link_same None l = refl
  mid_link_same (Some list) l = ap (λ n. nat_lt n (appends past i list.tail.list)) l.linked ∙ (ap (nat_lt (linked_by list.link list.tail.number)) l.appended ∙ mid_same list.link list.tail.number)

  low_same : (present : Option PresentList) → IfList (terms_at past i) s.slots s.lists present → (is_mid_link past i (present_in present) && not (is_lowered past i (present_in present))) ≡ is_some (waits_low present)
  low_same None l = refl
  low_same (Some list) l =
      ap (λ c. c && not (suc (terms.lowered past i list.tail.list) == appends past i list.tail.list)) (mid_link_same (Some list) l)
      ∙ (ap (λ n. not (table.is_done list.link) && not (suc (terms.lowered past i list.tail.list) == n)) l.appended
      ∙ lowered_same list.link list.tail.number (terms.lowered past i list.tail.list) list.tail l.lowered)

  high_same : (present : Option PresentList) → IfList (terms_at past i) s.slots s.lists present → (is_mid_link past i (present_in present) && is_lowered past i (present_in present)) ≡ is_some (waits_high present)
  high_same None l = refl
  high_same (Some list) l =
      ap (λ c. c && (suc (terms.lowered past i list.tail.list) == appends past i list.tail.list)) (mid_link_same (Some list) l)
      ∙ (ap (λ n. not (table.is_done list.link) && (suc (terms.lowered past i list.tail.list) == n)) l.appended
      ∙ raised_same list.link list.tail.number (terms.lowered past i list.tail.list) list.tail l.lowered)

  list_same : (present : Option PresentList) → list_for past i (present_in present) ≡ list_number present s.lists
  list_same None = r.fits.begun
  list_same (Some list) = refl

  number_same : (present : Option PresentList) → IfList (terms_at past i) s.slots s.lists present → appends past i (list_number present s.lists) ≡ orb_number present
  number_same None l = r.fits.to_come.appended s.lists (omega arith)
  number_same (Some list) l = l.appended ∙ (let e : suc list.tail.number ≡ list.tail.number + 1 = omega arith in e)

  pub read_as : ReadAs past i s
  read_as =
      let p = r.fits.present in
      let list = ap (list_for past i) p ∙ list_same s.present in
      record {
        none = ap is_none p ∙ none_same s.present;
        mid_link = ap (is_mid_link past i) p ∙ mid_link_same s.present r.fits.list;
        low = ap (λ x. is_mid_link past i x && not (is_lowered past i x)) p ∙ low_same s.present r.fits.list;
        high = ap (λ x. is_mid_link past i x && is_lowered past i x) p ∙ high_same s.present r.fits.list;
        waits = λ k. ap (waits_of past i k) p ∙ waits_same k s.present refl r.fits.list;
        full = ap (λ xs. lowest_vacant xs == 32) r.rows_are ∙ full_same s.slots r.fits.size;
        list = list;
        number = ap (appends past i) list ∙ number_same s.present r.fits.list;
        rung = λ x e. rung_of x (subst (IfList (terms_at past i) s.slots s.lists) e r.fits.list);
        named = r.fits.prepared;
      }
    where
      rung_of : (x : PresentList) → ListFits (terms_at past i) s.slots s.lists x → terms.linked past i x.tail.list - 1 ≡ last_linked x
      rung_of x l = ap (λ n. n - 1) l.linked ∙ rung_same x.link x.tail.number

pub read_law : ReadLaw
read_law = read_as
