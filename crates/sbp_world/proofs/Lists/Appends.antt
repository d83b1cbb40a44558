-- What an action tells is good: an append has the next number of the present list, or begins the next list, and its slot is one in which no ORB of its
-- list waits.
use Rattle.sbp_world.proofs.Words.Std.{◌≡◌, ◌∙◌, refl, sym, ap, subst, ◌<◌, ◌≤◌, ◌==◌, ℕ, zero, suc, nat_eq, not, is_some, Bool, true, false, cond, List, [], ◌∷◌, map, length, Option, Some, None, arith, if◌then◌else◌, nat_tests, same_Some, none-some}
use Rattle.sbp_world.proofs.Words.Wire.{Action, Cmd, Moment, said}
use Rattle.sbp_world.proofs.Words.Initiator.{PresentList, SlotState, Slot, SlotTable, free_state, is_free, lowest, slot_in, waiting, waits_in, TicketParts, InitiatorState}
use Rattle.sbp_world.proofs.Words.Laws.{action_notes, append_notes, list_for, new_list, new_number, is_vacant, lowest_vacant, present_list, slot_at, slots, taken_at, IsNextAppend, OrderLaw, appends, lists}
use Rattle.sbp_world.proofs.Words.World.{AreRows, IfLast, IfList, LastFits, Waits, terms_at, present_in, row, IsAppend}
use Rattle.orb_list.specs.declared.slot.SlotState.TheVariants as states
use Rattle.orb_list.proofs.Tied.{waits_last}
use Rattle.sbp_journal.specs.declared.event.Action.TheVariants as actions
use Rattle.sbp_journal.specs.declared.note.Note.TheVariants as notes
use Rattle.sbp_world.proofs.Hosts.Acts.{Goes}
use Rattle.sbp_world.proofs.Hosts.Appends.{vacant_row}
use Rattle.sbp_world.proofs.Hosts.Readings.{read_as}
use Rattle.sbp_world.proofs.Lists.Adds.{AllGood}

-- ---- what the order of the appends says of the lists of an initiator

-- the present list is the latest one, and has ORBs
record Latest (present : Option ℕ) (lists_are : ℕ) (appended : ℕ → ℕ) : Type 0 where
  is : (n : ℕ) → present ≡ Some n → suc n ≡ lists_are
  has : (n : ℕ) → present ≡ Some n → 0 < appended n
  to_come : (m : ℕ) → lists_are ≤ m → appended m ≡ 0

latest_append : (lists_are : ℕ) (appended : ℕ → ℕ) (n k : ℕ) → k ≡ appended n → (if k == 0 then n else suc n) ≡ lists_are → ((m : ℕ) → lists_are ≤ m → appended m ≡ 0) → Latest (Some n) (if k == 0 then suc lists_are else lists_are) (λ m. cond (nat_eq m n) (suc (appended n)) (appended m))
latest_append lists_are appended n k e f to_come = by (k == 0) f
  where
    by : (b : Bool) → cond b n (suc n) ≡ lists_are → Latest (Some n) (cond b (suc lists_are) lists_are) (λ m. cond (nat_eq m n) (suc (appended n)) (appended m))
    by b f = record {
      is = λ m g. let same = same_Some n m g in is_by b m same f;
      has = λ m g. let same = same_Some n m g in has_by m same;
      to_come = λ m l. to_by b m (nat_eq m n) refl f l;
    }
      where
        is_by : (b : Bool) (m : ℕ) → n ≡ m → cond b n (suc n) ≡ lists_are → suc m ≡ cond b (suc lists_are) lists_are
        is_by true m same f = ap suc (sym same ∙ f)
        is_by false m same f = ap suc (sym same) ∙ f

        has_by : (m : ℕ) → n ≡ m → 0 < cond (nat_eq m n) (suc (appended n)) (appended m)
        has_by m same =
            let z : nat_eq m n ≡ true = grind (arith, nat_tests) in
            subst (λ x. 0 < cond x (suc (appended n)) (appended m)) (sym z) (omega arith)

        to_by : (b : Bool) (m : ℕ) (c : Bool) → nat_eq m n ≡ c → cond b n (suc n) ≡ lists_are → cond b (suc lists_are) lists_are ≤ m → cond c (suc (appended n)) (appended m) ≡ 0
        to_by true m true g f l = let same : m ≡ n = grind (arith, nat_tests) in absurd (omega arith)
        to_by false m true g f l = let same : m ≡ n = grind (arith, nat_tests) in absurd (omega arith)
        to_by true m false g f l = to_come m (omega arith)
        to_by false m false g f l = to_come m l

none_latest : (lists_are : ℕ) (appended : ℕ → ℕ) → ((m : ℕ) → lists_are ≤ m → appended m ≡ 0) → Latest None lists_are appended
none_latest lists_are appended to_come = record { is = λ n e. absurd (none-some n e); has = λ n e. absurd (none-some n e); to_come = to_come }

-- ---- the lowest free slot
pub lowest_free : (slots : List Slot) → lowest_vacant (map row slots) < length slots → is_free (slot_in slots (lowest_vacant (map row slots))) ≡ true
lowest_free [] b = absurd (omega arith)
lowest_free (slot ∷ slots) b = by (λ c. lowest_free slots c) (is_vacant (row slot)) refl b
  where
    by : (lowest_vacant (map row slots) < length slots → is_free (slot_in slots (lowest_vacant (map row slots))) ≡ true) → (x : Bool) → is_vacant (row slot) ≡ x → cond x 0 (suc (lowest_vacant (map row slots))) < suc (length slots) → is_free (slot_in (slot ∷ slots) (cond x 0 (suc (lowest_vacant (map row slots))))) ≡ true
    by later true e b = sym (vacant_row slot) ∙ e
    by later false e b = later (omega arith)

lowest_within : (slots : List Slot) → lowest_vacant (map row slots) ≤ length slots
lowest_within [] = omega arith
lowest_within (slot ∷ slots) = by (is_vacant (row slot)) (lowest_within slots)
  where
    by : (x : Bool) → lowest_vacant (map row slots) ≤ length slots → cond x 0 (suc (lowest_vacant (map row slots))) ≤ suc (length slots)
    by true h = omega arith
    by false h = omega arith

busy_by : (state : SlotState) (last : Option TicketParts) (t : TicketParts) → waits_in state last ≡ Some t → free_state state ≡ true → ⊥
busy_by states.Free last t e f = cc
busy_by states.Waiting last t e f = cc
busy_by (states.Taken h) last t e f = cc
busy_by states.Resting last t e f = cc

busy : (slot : Slot) (t : TicketParts) → waiting slot ≡ Some t → is_free slot ≡ true → ⊥
busy slot t e f = busy_by slot.state slot.last t e f

module _ (wild : ℕ → Bool) where
  latest_of : (past : List Moment) → OrderLaw wild past → (i : ℕ) → Latest (present_list past i) (lists past i) (appends past i)
  latest_of [] law i = none_latest 0 (λ m. 0) (λ m l. refl)
  latest_of (said (notes.Append j n k cdb buffer) ∷ past) law i = by (latest_of past law.1 i) (nat_eq i j) refl
    where
      by : Latest (present_list past i) (lists past i) (appends past i) → (b : Bool) → nat_eq i j ≡ b → Latest (cond b (Some n) (present_list past i)) (cond b (if k == 0 then suc (lists past j) else lists past j) (lists past i)) (λ m. cond b (cond (nat_eq m n) (suc (appends past j n)) (appends past i m)) (appends past i m))
      by before true e =
          let same : i ≡ j = grind (arith, nat_tests) in
          let g = subst (λ x. IsNextAppend past x n k) (sym same) law.0 in
          subst (λ x. Latest (Some n) (if k == 0 then suc (lists past x) else lists past x) (λ m. cond (nat_eq m n) (suc (appends past x n)) (appends past i m))) same
          (latest_append (lists past i) (appends past i) n k g.number g.list before.to_come)
      by before false e = before
  latest_of (said (notes.Drop j n) ∷ past) law i = by (latest_of past law.1 i) (nat_eq i j)
    where
      by : Latest (present_list past i) (lists past i) (appends past i) → (b : Bool) → Latest (cond b None (present_list past i)) (lists past i) (appends past i)
      by before true = none_latest (lists past i) (appends past i) before.to_come
      by before false = before
  latest_of (_ ∷ past) law i = latest_of past law.1 i

  -- the next append of an initiator
  next_good : (past : List Moment) (i : ℕ) → OrderLaw wild past → IsNextAppend past i (new_list past i) (new_number past i)
  next_good past i law = record { number = refl; list = by (present_list past i) refl }
    where
      l : Latest (present_list past i) (lists past i) (appends past i)
      l = latest_of past law i

      by : (present : Option ℕ) → present_list past i ≡ present → (if appends past i (list_for past i present) == 0 then list_for past i present else suc (list_for past i present)) ≡ lists past i
      by None e =
          let z : appends past i (lists past i) ≡ 0 = l.to_come (lists past i) (omega arith) in
          ap (λ x. cond (x == 0) (lists past i) (suc (lists past i))) z
      by (Some n) e =
          let some = l.has n e in
          let z : (appends past i n == 0) ≡ false = grind (arith, nat_tests) in
          ap (λ b. cond b n (suc n)) z ∙ l.is n e

  -- ---- it stands in a slot in which none of its list waits
  module _ (past : List Moment) (i : ℕ) (s : InitiatorState) (rows : AreRows past i s.lists.slots) (law : OrderLaw wild past) where
    abbrev table : SlotTable
    table = s.lists.slots

    abbrev n : ℕ
    n = new_list past i

    abbrev free : ℕ
    free = lowest_vacant (slots past i)

    -- a slot that waits is not free
    waits_not : (l : ℕ) → Waits table.slots n l → slot_at past i n l ≡ free → ⊥
    waits_not l w e =
        let last = waits_last (slot_in table.slots w.ticket.slot) w.ticket w.waits in
        let fits : LastFits table.lists (appends past i) (slot_at past i) w.ticket.slot w.ticket = subst (IfLast table.lists (appends past i) (slot_at past i) w.ticket.slot) last (rows.fits.last w.ticket.slot w.small) in
        let at : slot_at past i n l ≡ w.ticket.slot = ap (λ a. slot_at past i a l) (sym w.of_list) ∙ ap (λ a. slot_at past i w.ticket.list a) (sym w.numbered) ∙ fits.at in
        let here : free ≡ w.ticket.slot = sym e ∙ at in
        let low : lowest_vacant (map row table.slots) ≡ w.ticket.slot = sym (ap lowest_vacant rows.rows_are) ∙ here in
        let inside : w.ticket.slot < length table.slots = let z = rows.fits.size in let b = w.small in omega (arith, z, b) in
        let vacant = lowest_free table.slots (subst (λ k. k < length table.slots) (sym low) inside) in
        busy (slot_in table.slots w.ticket.slot) w.ticket w.waits (subst (λ k. is_free (slot_in table.slots k) ≡ true) low vacant)

    present_apart : (found : Option PresentList) → table.present ≡ found → present_list past i ≡ present_in found → (l : ℕ) → l < appends past i n → taken_at past i n l ≡ None → slot_at past i n l ≡ free → ⊥
    present_apart None f p l b t e =
        let to_come = (latest_of past law i).to_come (lists past i) (omega arith) in
        let new : n ≡ lists past i = ap (λ o. list_for past i o) p in
        let zero_of : appends past i n ≡ 0 = ap (λ a. appends past i a) new ∙ to_come in
        absurd (omega (arith, zero_of, b))
    present_apart (Some list) f p l b t e =
        let new : n ≡ list.tail.list = ap (λ o. list_for past i o) p in
        let fits = subst (IfList (terms_at past i) table.slots table.lists) f rows.fits.list in
        waits_not l (subst (λ a. Waits table.slots a l) (sym new) (fits.waits l (subst (λ a. l < appends past i a) new b) (subst (λ a. taken_at past i a l ≡ None) new t))) e

    next_append : not (is_some (lowest table.slots)) ≡ false → IsAppend past i n (new_number past i)
    next_append found =
        let full : (free == 32) ≡ false = (read_as past i table rows).full ∙ found in
        let most : free ≤ 32 = subst (λ k. k ≤ 32) (sym (ap lowest_vacant rows.rows_are)) (subst (λ k. lowest_vacant (map row table.slots) ≤ k) rows.fits.size (lowest_within table.slots)) in
        record {
          next = next_good past i law;
          slot = grind (arith, nat_tests);
          apart = present_apart table.present refl rows.fits.present;
        }

    appended_good : (n k : ℕ) (cmd : Cmd) → IsAppend past i n k → AllGood (append_notes i n k cmd) past
    appended_good n zero cmd g = (g, (tt, tt))
    appended_good n (suc k) cmd g = (g, (tt, (tt, (tt, tt))))

    pub action_good : (action : Action) → Goes action s → AllGood (action_notes action past i) past
    action_good (actions.Put cmd) g = (next_append g.rows.no_slot, tt)
    action_good (actions.Append cmd) g = appended_good n (new_number past i) cmd (next_append g.rows.no_slot)
    action_good actions.Low g = (tt, tt)
    action_good actions.Link g = (tt, tt)
    action_good actions.Ring g = (tt, tt)
    action_good (actions.Dummy k) g = (tt, tt)
    action_good (actions.Abort k) g = tt
    action_good actions.Rom g = tt
    action_good actions.AgentReset g = tt
    action_good actions.State g = tt
    action_good actions.Enable g = tt
    action_good (actions.Login unit reconnect exclusive password) g = tt
    action_good (actions.Query unit) g = tt
    action_good actions.Reconnect g = tt
    action_good actions.Logout g = tt
    action_good actions.AbortSet g = tt
    action_good actions.UnitReset g = tt
    action_good actions.TargetReset g = tt
