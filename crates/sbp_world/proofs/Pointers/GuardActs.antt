-- What an action leaves of the history that an initiator is guarded by, before its request.
use Rattle.sbp_world.proofs.Words.Std.{arith, ◌≡◌, refl, sym, ◌∙◌, ap, subst, ℕ, ◌+◌, ◌<◌, nat_eq, is_some, Bool, true, false, cond, List, ◌∷◌, length, Option, Some, None, Result, Ok, Err, nat_tests, position-Some}
use Rattle.sbp_world.proofs.Words.Wire.{Moment, said, terms, Action, Note, NoteBuffer}
use Rattle.sbp_world.proofs.Words.Initiator.{ListFault, PresentList, is_free, list_number, may_prepare, orb_number, unused, InitiatorState, first_in, ends_list, is_list_step, prepares, rings, is_list, operation_in, own}
use Rattle.sbp_world.proofs.Words.Laws.{action_notes, cuts_list, new_list, new_number, running_operation, Host, Underway, host_at, lowest_vacant, present_list, slot_at, slots, event_of}
use Rattle.sbp_world.proofs.Words.World.{behind, Core, host_core, operation_by, own_core, work_in, work_of, AreRows, ReadAs, present_in, MayAppend, is_cutting}
use Rattle.std.proofs.Common.{unwrap_or}
use Rattle.orb_list.proofs.Tied.{may_lowest}
use Rattle.sbp_journal.specs.declared.note.Note.TheVariants as notes
use Rattle.sbp_initiator.proofs.Histories.Actions.{Allowed, is_ok}
use Rattle.sbp_world.proofs.Hosts.Appends.{lowest_is}
use Rattle.sbp_world.proofs.Hosts.Readings.{read_law}
use Rattle.sbp_world.proofs.Pointers.Guarded.{firsts}
use Rattle.sbp_world.proofs.Pointers.Passing.{Stand}
use Rattle.sbp_world.proofs.Pointers.PendActs.{Places}
use Rattle.sbp_world.proofs.Pointers.Pends.{Pend}
use Rattle.sbp_world.proofs.Pointers.Steps.{AreLinks, ToldAs, append, append_operation, append_present, append_session, append_slot, links, links_stand, links_still, silent, told_as}
use Rattle.sbp_world.proofs.Hosts.Hosted.{working, worked, cuts_same}
use Rattle.sbp_world.proofs.Common.{untrue}

-- ---- the operation under way

pub cutting_is : (past : List Moment) (i : ℕ) (s : InitiatorState) → host_core (host_at past i) ≡ own_core s → is_cutting past i ≡ ends_list (operation_in s.operation)
cutting_is past i s e =
    ap cuts_list (working (host_at past i).operation ∙ ap (λ (c : Core). operation_by c.work) e ∙ sym (worked s.operation)) ∙ cuts_same (operation_in s.operation)

none_working : (u : Option Underway) → work_of u ≡ None → u ≡ None
none_working None e = refl
none_working (Some underway) e = absurd (differ e)
  where
    differ : work_of (Some underway) ≡ None → ⊥
    differ e = cc

pub none_underway : (past : List Moment) (i : ℕ) (s : InitiatorState) → host_core (host_at past i) ≡ own_core s → s.operation ≡ None → (host_at past i).operation ≡ None
none_underway past i s e f = none_working (host_at past i).operation (ap (λ (c : Core). c.work) e ∙ ap work_in f)

-- ---- what is told stands, and what it leaves

-- the slot of the first ORB of the present list, as a ring finds it
pub record Rung (later : List Moment) (i : ℕ) (s : InitiatorState) : Type 0 where
  pub list : ℕ
  pub present : present_list later i ≡ Some list
  pub slot : first_in s.lists.slots.present s ≡ slot_at later i list 0

pub record Told (past : List Moment) (i : ℕ) (action : Action) (s : InitiatorState) (later : List Moment) : Type 0 where
  pub stands : Stand i past → Stand i later
  pub session : (host_at later i).session ≡ (host_at past i).session
  pub operation : (host_at later i).operation ≡ (host_at past i).operation
  pub places : Places (firsts past i) (firsts later i) action s
  pub line : event_of later ≡ event_of past
  pub wire : terms later ≡ terms past
  pub rung : rings action ≡ true → Rung later i s

pub some_of : (present : Option PresentList) → is_some present ≡ true → (list : PresentList) × (present ≡ Some list)
some_of None e = untrue e
some_of (Some list) e = (list, refl)

pub ok_of : (r : Result ℕ ListFault) → is_ok r ≡ true → (slot : ℕ) × (r ≡ Ok slot)
ok_of (Ok slot) e = (slot, refl)
ok_of (Err fault) e = untrue e

is_itself : (list : PresentList) → is_list (Some list) list.tail.list ≡ true
is_itself list = grind (arith, nat_tests)

list_of : (present : Option PresentList) (n : ℕ) → is_list present n ≡ true → (list : PresentList) × ((present ≡ Some list) × (n ≡ list.tail.list))
list_of None n e = untrue e
list_of (Some list) n e = (list, (refl, (let f : n ≡ list.tail.list = grind (arith, nat_tests) in f)))

above : (n : ℕ) → nat_eq 0 (n + 1) ≡ false
above n = grind (arith, nat_tests)

same_number : (n m : ℕ) → n ≡ m → nat_eq n m ≡ true
same_number n m e = grind (arith, nat_tests)

not_below : (n m : ℕ) → n ≡ m + 1 → n ≡ 0 → ⊥
not_below n m e f = omega arith

above_zero : (n : ℕ) → n ≡ 0 → 0 < n → ⊥
above_zero n e f = omega arith

module _ (past : List Moment) (i : ℕ) (action : Action) (s : InitiatorState) (rows : AreRows past i s.lists.slots) (core : host_core (host_at past i) ≡ own_core s) (a : Allowed action s) (k : Pend false (firsts past i) s) (lists_ready : rings action ≡ true → prepares action ≡ false → is_some s.lists.slots.present ≡ true) where
  reads : ReadAs past i s.lists.slots
  reads = read_law past i s.lists.slots rows

  uncut : is_list_step action ≡ true → is_cutting past i ≡ false
  uncut e = cutting_is past i s core ∙ a.steps e

  -- ---- steps but appends

  module _ (ns : List Note) (h : AreLinks i ns) (none : prepares action ≡ false) (step : is_list_step action ≡ true) where
    abbrev after_links : List Moment
    after_links = behind (own ns) past

    links_told : Told past i action s after_links
    links_told =
        let still = links_still ns past i h in
        record {
          stands = links_stand ns past i h (uncut step);
          session = ap (λ (x : Host). x.session) still.host;
          operation = ap (λ (x : Host). x.operation) still.host;
          places = record {
            same = λ n e. ap (λ (f : ℕ → ℕ → ℕ → ℕ). f i n 0) still.places;
            begun = λ e. untrue (sym none ∙ e);
          };
          line = still.line;
          wire = still.wire;
          rung = λ r.
              let list = some_of s.lists.slots.present (lists_ready r none) in
              record {
                list = list.0.tail.list;
                present = ap (λ (f : ℕ → Option ℕ). f i) still.present ∙ rows.fits.present ∙ ap present_in list.1;
                slot = ap (λ p. first_in p s) list.1 ∙ k.first list.0.tail.list (ap (λ p. is_list p list.0.tail.list) list.1 ∙ is_itself list.0) ∙ sym (ap (λ (f : ℕ → ℕ → ℕ → ℕ). f i list.0.tail.list 0) still.places);
              };
        }

  -- ---- an append

  module _ (cdb : List ℕ) (buffer : NoteBuffer) (rest : List Note) (h : AreLinks i rest) (prepared : prepares action ≡ true) (step : is_list_step action ≡ true) where
    abbrev n : ℕ
    n = new_list past i

    abbrev m : ℕ
    m = new_number past i

    abbrev ms : List Moment
    ms = said (notes.Append i n m cdb buffer) ∷ past

    abbrev after_append : List Moment
    after_append = behind (own rest) ms

    -- a slot is vacant
    vacant : lowest_vacant (slots past i) < 32
    vacant =
        let found = ok_of (may_prepare s.lists.slots) (a.prepares prepared) in
        let low = may_lowest s.lists.slots found.0 found.1 in
        let there = position-Some is_free s.lists.slots.slots found.0 unused low in
        let inside : found.0 < length s.lists.slots.slots = there.0 in
        let is : lowest_vacant (slots past i) ≡ found.0 = ap lowest_vacant rows.rows_are ∙ lowest_is s.lists.slots.slots found.0 low in
        let size = rows.fits.size in
        omega arith

    may_append_by : (present : Option PresentList) → s.lists.slots.present ≡ present → MayAppend past i n m
    may_append_by None p = record {
      uncut = uncut step;
      small = vacant;
      first = λ e. (rows.fits.present ∙ ap present_in p, reads.list ∙ ap (λ x. list_number x s.lists.slots.lists) p ∙ sym rows.fits.begun);
      later = λ e. absurd (above_zero m (reads.number ∙ ap orb_number p) e);
    }
    may_append_by (Some list) p = record {
      uncut = uncut step;
      small = vacant;
      first = λ e. absurd (not_below m list.tail.number (reads.number ∙ ap orb_number p) e);
      later = λ e. rows.fits.present ∙ ap present_in p ∙ ap Some (sym (reads.list ∙ ap (λ x. list_number x s.lists.slots.lists) p));
    }

    append_stands : Stand i past → Stand i after_append
    append_stands stand =
        links_stand rest ms i h (ap (λ o. cuts_list (running_operation o)) (append_operation past i n m cdb buffer) ∙ uncut step)
        ((λ same. may_append_by s.lists.slots.present refl), stand)

    -- the slot of the first ORB of a list
    slot_is : (l : ℕ) → slot_at after_append i l 0 ≡ cond (nat_eq l n) (cond (nat_eq 0 m) (lowest_vacant (slots past i)) (slot_at past i l 0)) (slot_at past i l 0)
    slot_is l = ap (λ (f : ℕ → ℕ → ℕ → ℕ). f i l 0) (links_still rest ms i h).places ∙ append_slot past i n m cdb buffer l

    -- of the list that was present it stays
    slot_stays : (list : PresentList) → s.lists.slots.present ≡ Some list → (l : ℕ) → slot_at after_append i l 0 ≡ slot_at past i l 0
    slot_stays list p l =
        slot_is l
        ∙ ap (λ b. cond (nat_eq l n) (cond b (lowest_vacant (slots past i)) (slot_at past i l 0)) (slot_at past i l 0)) (ap (nat_eq 0) (reads.number ∙ ap orb_number p) ∙ above list.tail.number)
        ∙ either (nat_eq l n)
      where
        either : (b : Bool) → cond b (slot_at past i l 0) (slot_at past i l 0) ≡ slot_at past i l 0
        either true = refl
        either false = refl

    -- of one that begins it is the one that is prepared
    slot_begins : s.lists.slots.present ≡ None → (slot : ℕ) → may_prepare s.lists.slots ≡ Ok slot → slot_at after_append i n 0 ≡ slot
    slot_begins p slot e =
        slot_is n
        ∙ ap (λ b. cond b (cond (nat_eq 0 m) (lowest_vacant (slots past i)) (slot_at past i n 0)) (slot_at past i n 0)) (same_number n n refl)
        ∙ ap (λ b. cond b (lowest_vacant (slots past i)) (slot_at past i n 0)) (same_number 0 m (sym (reads.number ∙ ap orb_number p)))
        ∙ ap lowest_vacant rows.rows_are
        ∙ lowest_is s.lists.slots.slots slot (may_lowest s.lists.slots slot e)

    begun_list : s.lists.slots.present ≡ None → n ≡ s.lists.slots.lists
    begun_list p = reads.list ∙ ap (λ x. list_number x s.lists.slots.lists) p

    append_places : Places (firsts past i) (firsts after_append i) action s
    append_places = record {
      same = λ l e. let list = list_of s.lists.slots.present l e in slot_stays list.0 list.1.0 l;
      begun = λ e slot f p. ap (λ l. slot_at after_append i l 0) (sym (begun_list p)) ∙ slot_begins p slot f;
    }

    rung_by : (present : Option PresentList) → s.lists.slots.present ≡ present → first_in present s ≡ slot_at after_append i n 0
    rung_by None p =
        let found = ok_of (may_prepare s.lists.slots) (a.prepares prepared) in
        ap (λ o. unwrap_or o 0) (may_lowest s.lists.slots found.0 found.1) ∙ sym (slot_begins p found.0 found.1)
    rung_by (Some list) p =
        let list_is : n ≡ list.tail.list = reads.list ∙ ap (λ x. list_number x s.lists.slots.lists) p in
        k.first list.tail.list (ap (λ x. is_list x list.tail.list) p ∙ is_itself list)
        ∙ sym (slot_stays list p list.tail.list)
        ∙ ap (λ l. slot_at after_append i l 0) (sym list_is)

    append_told : Told past i action s after_append
    append_told =
        let still = links_still rest ms i h in
        record {
          stands = append_stands;
          session = ap (λ (x : Host). x.session) still.host ∙ append_session past i n m cdb buffer;
          operation = ap (λ (x : Host). x.operation) still.host ∙ append_operation past i n m cdb buffer;
          places = append_places;
          line = still.line;
          wire = still.wire;
          rung = λ r. record {
            list = n;
            present = ap (λ (f : ℕ → Option ℕ). f i) still.present ∙ append_present past i n m cdb buffer;
            slot = rung_by s.lists.slots.present refl;
          };
        }

  -- ---- one that tells nothing

  silent_told : rings action ≡ false → prepares action ≡ false → Told past i action s past
  silent_told none unprepared = record {
    stands = λ x. x;
    session = refl;
    operation = refl;
    places = record { same = λ n e. refl; begun = λ e. untrue (sym unprepared ∙ e) };
    line = refl;
    wire = refl;
    rung = λ r. untrue (sym none ∙ r);
  }

  told_by : (ns : List Note) → ToldAs past i action ns → Told past i action s (behind (own ns) past)
  told_by ns (silent e p r) = subst (λ x. Told past i action s (behind (own x) past)) (sym e) (silent_told r p)
  told_by ns (links h p step) = links_told ns h p step
  told_by ns (append cdb buffer rest e h p step) = subst (λ x. Told past i action s (behind (own x) past)) (sym e) (append_told cdb buffer rest h p step)

  pub action_told : Told past i action s (behind (own (action_notes action past i)) past)
  action_told = told_by (action_notes action past i) (told_as past i action)
