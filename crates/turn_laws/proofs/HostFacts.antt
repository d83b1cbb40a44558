-- How the judgement law judges a request to an initiator, by the terms of its history, is how the initiator does by its state. Their facts differ where a FIFO is closed, and there the row is that of the closed one.
use Rattle.std.proofs.Common.{arith, ◌≡◌, ◌∙◌, refl, sym, ap, subst, ℕ, ◌+◌, ◌*◌, ◌-◌, ◌^◌, ◌%◌, ◌<◌, ◌≤◌, ◌==◌, ◌&&◌, ◌||◌, not, nat_le, nat_lt, is_some, Bool, true, false, cond, List, length, Option, Some, None, Result, Ok, Err}
use Rattle.std.proofs.lemmas.Bool.Decides.{nat_tests}
use Rattle.std.proofs.lemmas.Bool.{false≢true, or_parts}
use Rattle.async_packet.specs.Packet.{Packet, lock, lock_response, read_block as reads_block, read_block_response, read_quadlet, read_quadlet_response, write_block, write_quadlet, write_response}
use Rattle.bus_memory.specs.Windows.{is_fifo, slot_of, start, within}
use Rattle.bus_memory.specs.declared.window.Window.TheVariants as windows
use Rattle.bus_memory.proofs.Found.{slot_of_law}
use Rattle.initiator_base.specs.Fifos.{fifo_at, is_login_fifo, is_open_login}
use Rattle.initiator_base.specs.Places.{is_managed_orb, place_fifo}
use Rattle.initiator_base.specs.declared.fifos.Fifo.{Fifo}
use Rattle.initiator_base.specs.declared.fifos.Fifo.TheVariants as fifos
use Rattle.media_bay.specs.Unsolicited.{is_block}
use Rattle.orb_layout.specs.Pointers.{offset_at}
use Rattle.orb_layout.specs.StatusBlocks.{is_management as is_management_kind, read_block}
use Rattle.orb_layout.specs.declared.fault.OrbFault.{OrbFault}
use Rattle.orb_layout.specs.declared.status.StatusBlock.{StatusBlock}
use Rattle.orb_layout.specs.declared.status.StatusKind.{StatusKind}
use Rattle.orb_layout.specs.declared.status.StatusKind.TheVariants as kinds
use Rattle.orb_list.specs.Table.{SlotTable, slot_in, waiting}
use Rattle.orb_list.specs.Table as table
use Rattle.orb_list.specs.Tickets.{TicketParts}
use Rattle.orb_list.specs.declared.list.PresentList.{PresentList}
use Rattle.orb_list.specs.declared.slot.SlotState.{SlotState}
use Rattle.orb_list.specs.declared.slot.SlotState.TheVariants as states
use Rattle.sbp_initiator.specs.Histories.Judging as own
use Rattle.sbp_initiator.specs.States.{is_orb_of, is_present_orb, place_of, status_in}
use Rattle.sbp_initiator.specs.declared.purpose.Running.{Running}
use Rattle.sbp_initiator.specs.declared.state.InitiatorState.{InitiatorState}
use Rattle.sbp_journal.specs.Addresses.{Access, access_of, lies_in_rom}
use Rattle.sbp_journal.specs.Rows.{RequestFacts, judging_of}
use Rattle.sbp_journal.specs.Run.{Moment}
use Rattle.sbp_laws.specs.Hosts.{Host, Underway, host_at, is_management}
use Rattle.sbp_laws.specs.JudgementLaw as law
use Rattle.sbp_laws.specs.JudgementLaw.{host_facts, is_managed, is_open_fifo, is_out, read_status, waits_for}
use Rattle.sbp_laws.specs.Lists.{TakenStatus, is_list, is_none_taken, named_in, prepared_in, present_list, taken_at, waits_in}
use Rattle.sbp_laws.specs.Operations.{names_management}
use Rattle.sbp_laws.specs.Targets.{login_fifo}
use Rattle.sbp_laws.specs.Terms.{appends}
use Rattle.sbp_session.specs.Seats.{is_out_seat}
use Rattle.sbp_session.specs.declared.seat.Seat.{Seat}
use Rattle.sbp_session.specs.declared.seat.Seat.TheVariants as seats
use Rattle.sbp_world.specs.Hosts.Core.{Core, Work, host_core, own_core, placed, session_in, work_in, work_of}
use Rattle.sbp_world.specs.Hosts.Fits.{AreRows, IfLast, IfList, IsOf, LastFits, ListFits, StateFits, Waits, terms_at}
use Rattle.sbp_world.specs.Hosts.Rows.{name_in, present_in}
use Rattle.sbp_world.proofs.Hosts.Answering.{asks_block, asks_quadlet, locks, none_is, writes_block}
use Rattle.sbp_world.proofs.Hosts.Statuses.Blocks.{IsManaged, command_is, is_read_by, managed_kind, place_slot}
use Rattle.sbp_world.proofs.Lists.StatusKnown.{all_three}

-- ---- the FIFO at an address: of one that is closed, the law's test for an open one fails
abbrev pub AtFifo : Option Fifo → (at_fifo of_login is_open : Bool) → Type 0
AtFifo None f l o = (f ≡ false) × (l ≡ false)
AtFifo (Some fifos.Closed) f l o = (l ≡ true) × (o ≡ false)
AtFifo (Some fifos.Login) f l o = (f ≡ true) × (l ≡ true) × (o ≡ true)
AtFifo (Some fifos.Place) f l o = (f ≡ true) × (l ≡ false)

abbrev fifo_test : ℕ → Bool
fifo_test offset = (offset == 0x1200_2000) || (offset == 0x1200_2020) || (within 0x1300_0000 (0x1300_0000 + 0x20 * 2 ^ 32) offset && (offset % 0x20 == 0))

abbrev login_test : ℕ → Bool
login_test offset = fifo_test offset && not (offset == 0x12002000) && not (offset == 0x12002020)

abbrev pub open_test : (logins : ℕ) (out : Bool) (offset : ℕ) → Bool
open_test logins out offset = not out && not (logins == 0) && (offset + 0x20 == login_fifo logins)

-- which FIFO it is by the tests for a place, an open login and a login
abbrev fifo_by : (first second is_open of_login : Bool) → Option Fifo
fifo_by first second is_open of_login = cond (first || second) (Some fifos.Place) (cond is_open (Some fifos.Login) (cond of_login (Some fifos.Closed) None))

pub fifo_is : (logins : ℕ) (out : Bool) (offset : ℕ) → logins ≤ 2 ^ 32 → AtFifo (fifo_at logins out offset) (is_fifo offset) (law.is_login_fifo offset) (open_test logins out offset)
unfolding fifo_at is_fifo
fifo_is logins out offset few = by_tests (offset == place_fifo 0) (offset == place_fifo 1) (is_open_login logins out offset) (is_login_fifo offset) refl refl refl refl
  where
    shut : (o : Bool) → open_test logins out offset ≡ o → is_open_login logins out offset ≡ false → o ≡ false
    shut false e c = refl
    shut true e c =
        let inside : out ≡ false = grind (arith, nat_tests) in
        let some : 0 < logins = grind (arith, nat_tests) in
        let at : offset + 0x20 ≡ 0x1300_0000 + 0x20 * logins = grind (arith, nat_tests) in
        let here : offset ≡ 0x1300_0000 + 0x20 * (logins - 1) = omega arith in
        absurd (grind (arith, nat_tests))

    by_tests : (a b c d : Bool) → (offset == place_fifo 0) ≡ a → (offset == place_fifo 1) ≡ b → is_open_login logins out offset ≡ c → is_login_fifo offset ≡ d → AtFifo (fifo_by a b c d) (fifo_test offset) (login_test offset) (open_test logins out offset)
    by_tests true b c d f g h k = (grind (arith, nat_tests), grind (arith, nat_tests))
    by_tests false true c d f g h k = (grind (arith, nat_tests), grind (arith, nat_tests))
    by_tests false false true d f g h k =
        let some : 0 < logins = grind (arith, nat_tests) in
        let at : offset ≡ 0x1300_0000 + 0x20 * (logins - 1) = grind (arith, nat_tests) in
        let inside : out ≡ false = grind (arith, nat_tests) in
        let low : 0x1300_0000 ≤ offset = omega arith in
        let high : offset < 0x1300_0000 + 0x20 * 2 ^ 32 = omega arith in
        let whole : offset % 0x20 ≡ 0 = omega arith in
        let next : offset + 0x20 ≡ 0x1300_0000 + 0x20 * logins = omega arith in
        (grind (arith, nat_tests), grind (arith, nat_tests), grind (arith, nat_tests))
    by_tests false false false true f g h k = (grind (arith, nat_tests), shut (open_test logins out offset) refl h)
    by_tests false false false false f g h k = (grind (arith, nat_tests), grind (arith, nat_tests))

-- ---- the judging by the facts of the law, and by those of the initiator
abbrev law_facts : (lk wr bl rom tgt at_fifo of_login is_open unsolicited read awaited : Bool) → RequestFacts
law_facts lk wr bl rom tgt at_fifo of_login is_open unsolicited read awaited = record {
  to_initiator = true;
  reads_rom = not lk && not wr && rom;
  of_target = tgt;
  of_other_login = false;
  to_closed_fifo = wr && of_login && not is_open;
  is_status = wr && bl && at_fifo;
  is_unsolicited = of_login && unsolicited;
  is_read = read;
  is_awaited = awaited;
}

abbrev own_facts : (lk wr bl rom tgt : Bool) → Option Fifo → (unsolicited read awaited : Bool) → RequestFacts
own_facts lk wr bl rom tgt fifo unsolicited read awaited = record {
  to_initiator = true;
  reads_rom = (not lk && not wr) && rom;
  of_target = tgt;
  of_other_login = false;
  to_closed_fifo = (not lk && wr) && own.is_closed fifo;
  is_status = (not lk && wr) && bl && own.is_open fifo;
  is_unsolicited = own.is_of_login fifo && unsolicited;
  is_read = read;
  is_awaited = awaited;
}

module _ (bl rom tgt unsolicited read awaited : Bool) where
  written : (fifo : Option Fifo) (f l o : Bool) → AtFifo fifo f l o → judging_of (law_facts false true bl rom tgt f l o unsolicited read awaited) ≡ judging_of (own_facts false true bl rom tgt fifo unsolicited read awaited)
  written None false false o (e, g) = refl
  written None true l o (e, g) = absurd (false≢true (sym e))
  written None false true o (e, g) = absurd (false≢true (sym g))
  written (Some fifos.Closed) f true false (e, g) = refl
  written (Some fifos.Closed) f false o (e, g) = absurd (false≢true e)
  written (Some fifos.Closed) f true true (e, g) = absurd (false≢true (sym g))
  written (Some fifos.Login) true true true (e, g, h) = refl
  written (Some fifos.Login) false l o (e, g, h) = absurd (false≢true e)
  written (Some fifos.Login) true false o (e, g, h) = absurd (false≢true g)
  written (Some fifos.Login) true true false (e, g, h) = absurd (false≢true h)
  written (Some fifos.Place) true false o (e, g) = refl
  written (Some fifos.Place) false l o (e, g) = absurd (false≢true e)
  written (Some fifos.Place) true true o (e, g) = absurd (false≢true (sym g))

  rows_same : (lk wr : Bool) → (lk && wr) ≡ false → (fifo : Option Fifo) (f l o : Bool) → AtFifo fifo f l o → judging_of (law_facts lk wr bl rom tgt f l o unsolicited read awaited) ≡ judging_of (own_facts lk wr bl rom tgt fifo unsolicited read awaited)
  rows_same true true one fifo f l o at = absurd (false≢true (sym one))
  rows_same true false one fifo f l o at = refl
  rows_same false false one fifo f l o at = refl
  rows_same false true one fifo f l o at = written fifo f l o at

-- no request locks and writes
abbrev both_kinds : Access → Bool
both_kinds access = access.is_lock && access.is_write

pub one_kind : (p : Packet) (access : Access) → access_of p ≡ Some access → (access.is_lock && access.is_write) ≡ false
one_kind (write_quadlet header offset value) access e = let is : asks_quadlet true offset ≡ access = cc in ap both_kinds (sym is)
one_kind (write_block header offset payload) access e = let is : writes_block offset payload ≡ access = cc in ap both_kinds (sym is)
one_kind (read_quadlet header offset) access e = let is : asks_quadlet false offset ≡ access = cc in ap both_kinds (sym is)
one_kind (reads_block header offset asked) access e = let is : asks_block offset asked ≡ access = cc in ap both_kinds (sym is)
one_kind (lock header offset extended payload) access e = let is : locks offset (length payload) ≡ access = cc in ap both_kinds (sym is)
one_kind (write_response header rcode) access e = absurd (none_is e)
one_kind (read_quadlet_response header rcode value) access e = absurd (none_is e)
one_kind (read_block_response header rcode payload) access e = absurd (none_is e)
one_kind (lock_response header rcode extended payload) access e = absurd (none_is e)

-- ---- an ORB waits by the terms where the slot that it was prepared in waits
none_taken : (x : Option TakenStatus) → is_none_taken x ≡ true → x ≡ None
none_taken None e = refl
none_taken (Some taken) e = absurd (false≢true e)

waits_last : (state : SlotState) (last : Option TicketParts) (ticket : TicketParts) → table.waits_in state last ≡ Some ticket → last ≡ Some ticket
waits_last states.Waiting last ticket e = e
waits_last states.Free last ticket e = absurd (let no : None ≡ Some ticket = e in cc)
waits_last (states.Taken had_next) last ticket e = absurd (let no : None ≡ Some ticket = e in cc)
waits_last states.Resting last ticket e = absurd (let no : None ≡ Some ticket = e in cc)

module _ (ms : List Moment) (i : ℕ) (slots : SlotTable) (rows : AreRows ms i slots) where
  abbrev Last : ℕ → Option TicketParts → Type 0
  Last k last = IfLast slots.lists (appends ms i) (terms_at ms i).place k last

  abbrev States : SlotState → Option TicketParts → Type 0
  States state last = StateFits slots.present (taken_at ms i) state last

  present_is : (present : Option PresentList) (t : TicketParts) → IsOf present t → is_list (present_in present) t.list ≡ true
  present_is None t e = absurd e
  present_is (Some list) t e = let same : list.tail.list ≡ t.list = e in (let test : (list.tail.list == t.list) ≡ true = grind (arith, nat_tests) in test)

  waits_there : (t : TicketParts) → IsOf slots.present t → taken_at ms i t.list t.number ≡ None → t.number < appends ms i t.list → waits_in ms i t.list t.number ≡ true
  waits_there t of none below =
      let here : nat_lt t.number (appends ms i t.list) ≡ true = grind (arith, nat_tests) in
      ap (λ b. b && nat_lt t.number (appends ms i t.list) && is_none_taken (taken_at ms i t.list t.number)) (ap (λ p. is_list p t.list) rows.fits.present ∙ present_is slots.present t of)
      ∙ (ap (λ b. true && b && is_none_taken (taken_at ms i t.list t.number)) here ∙ ap (λ x. true && true && is_none_taken x) none)

  in_list : (n k : ℕ) (present : Option PresentList) → slots.present ≡ present → is_list (present_in present) n ≡ true → k < appends ms i n → taken_at ms i n k ≡ None → Waits slots.slots n k
  in_list n k None e is below none = absurd (false≢true is)
  in_list n k (Some list) e is below none =
      let fits : ListFits (terms_at ms i) slots.slots slots.lists list = subst (IfList (terms_at ms i) slots.slots slots.lists) e rows.fits.list in
      let test : (list.tail.list == n) ≡ true = is in
      let same : n ≡ list.tail.list = grind (arith, nat_tests) in
      subst (λ m. Waits slots.slots m k) (sym same) (fits.waits k (subst (λ m. k < appends ms i m) same below) (subst (λ m. taken_at ms i m k ≡ None) same none))

  -- the slot of an ORB that waits is the one that it was prepared in
  waits_here : (k : ℕ) (t : TicketParts) → k < 32 → LastFits slots.lists (appends ms i) (terms_at ms i).place k t → waits_in ms i t.list t.number ≡ true → is_some (waiting (slot_in slots.slots k)) ≡ true
  waits_here k t small last e =
      let parts = all_three (is_list (present_list ms i) t.list) (nat_lt t.number (appends ms i t.list)) (is_none_taken (taken_at ms i t.list t.number)) e in
      let below : t.number < appends ms i t.list = (let b = parts.1 in grind (arith, nat_tests)) in
      let w = in_list t.list t.number slots.present refl (sym (ap (λ p. is_list p t.list) rows.fits.present) ∙ parts.0) below (none_taken _ parts.2) in
      let slot = slot_in slots.slots w.ticket.slot in
      let there = subst (Last w.ticket.slot) (waits_last slot.state slot.last w.ticket w.waits) (rows.fits.last w.ticket.slot w.small) in
      let same : w.ticket.slot ≡ k =
      sym there.at ∙ (ap (λ n. (terms_at ms i).place n w.ticket.number) w.of_list ∙ (ap (λ n. (terms_at ms i).place t.list n) w.numbered ∙ last.at)) in
      ap (λ n. is_some (waiting (slot_in slots.slots n))) (sym same) ∙ ap (λ (o : Option TicketParts). is_some o) w.waits

  none_waits : (k : ℕ) (t : TicketParts) → k < 32 → LastFits slots.lists (appends ms i) (terms_at ms i).place k t → is_some (waiting (slot_in slots.slots k)) ≡ false → waits_in ms i t.list t.number ≡ false
  none_waits k t small last e = by (waits_in ms i t.list t.number) refl
    where
      by : (b : Bool) → waits_in ms i t.list t.number ≡ b → b ≡ false
      by false f = refl
      by true f = absurd (false≢true (sym e ∙ waits_here k t small last f))

  by_slot : (k : ℕ) → k < 32 → (state : SlotState) (last : Option TicketParts) → States state last → Last k last → (table.waits_in state last ≡ waiting (slot_in slots.slots k)) → waits_for ms i (name_in last) ≡ is_some (table.waits_in state last)
  by_slot k small states.Free None fits at e = refl
  by_slot k small states.Waiting None fits at e = refl
  by_slot k small (states.Taken had_next) None fits at e = refl
  by_slot k small states.Resting None fits at e = refl
  by_slot k small states.Waiting (Some t) fits at e = waits_there t fits.0 fits.1 at.below
  by_slot k small states.Free (Some t) fits at e = none_waits k t small at (ap (λ (o : Option TicketParts). is_some o) (sym e))
  by_slot k small (states.Taken had_next) (Some t) fits at e = none_waits k t small at (ap (λ (o : Option TicketParts). is_some o) (sym e))
  by_slot k small states.Resting (Some t) fits at e = none_waits k t small at (ap (λ (o : Option TicketParts). is_some o) (sym e))

  waits_same : (k : ℕ) → k < 32 → waits_for ms i (prepared_in ms i k) ≡ is_some (waiting (slot_in slots.slots k))
  waits_same k small =
      let slot = slot_in slots.slots k in
      ap (waits_for ms i) (rows.fits.prepared k small) ∙ by_slot k small slot.state slot.last (rows.fits.states k small) (rows.fits.last k small) refl

  pub named_waits : (address : ℕ) (so : Option ℕ) → slot_of address ≡ so → waits_for ms i (named_in ms i so) ≡ own.waits_in slots.slots so
  named_waits address None e = refl
  named_waits address (Some k) e = waits_same k (slot_of_law.begins address k e).0

-- ---- the management ORB of the operation under way
abbrev pub place_by : Option Work → Option ℕ
place_by None = None
place_by (Some work) = work.place

module _ (block : StatusBlock) where
  by_place : (b : Bool) (place : ℕ) (m : Option ℕ) → cond b (Some place) None ≡ placed m → (b && (block.orb == start (windows.Management place))) ≡ is_orb_of m block.orb
  by_place true place None e = absurd (let no : Some place ≡ None = e in cc)
  by_place true place (Some m) e = let same : place ≡ place_of m = (let f : Some place ≡ Some (place_of m) = e in cc) in ap (λ n. block.orb == start (windows.Management n)) same
  by_place false place None e = refl
  by_place false place (Some m) e = absurd (let no : None ≡ Some (place_of m) = e in cc)

  pub managed_same : (u : Option Underway) (r : Option Running) → work_of u ≡ work_in r → is_managed u block ≡ is_present_orb block.orb r
  managed_same None None e = refl
  managed_same None (Some running) e = absurd (let no : None ≡ Some _ = e in cc)
  managed_same (Some underway) None e = absurd (let no : Some _ ≡ None = e in cc)
  managed_same (Some underway) (Some running) e = by_place (is_management underway.operation) underway.place running.managed (ap place_by e)

  -- it stands in one of two places
  pub none_there : (r : Option Running) → names_management block.orb ≡ false → is_present_orb block.orb r ≡ false
  none_there None e = refl
  none_there (Some running) e = by_managed running.managed
    where
      in_place : (m : ℕ) (b : Bool) → (m % 2 == 0) ≡ b → (block.orb == start (windows.Management (m % 2))) ≡ false
      in_place m true f = let zero : m % 2 ≡ 0 = grind (arith, nat_tests) in ap (λ n. block.orb == start (windows.Management n)) zero ∙ (or_parts _ _ e).0
      in_place m false f =
          let some : 0 < m % 2 = grind (arith, nat_tests) in
          let one : m % 2 ≡ 1 = omega (arith, some) in ap (λ n. block.orb == start (windows.Management n)) one ∙ (or_parts _ _ e).1

      by_managed : (m : Option ℕ) → is_orb_of m block.orb ≡ false
      by_managed None = refl
      by_managed (Some m) = in_place m (m % 2 == 0) refl

-- ---- a block is awaited
or_none : (b : Bool) → (b || false) ≡ b
or_none true = refl
or_none false = refl

module _ (ms : List Moment) (i : ℕ) (s : InitiatorState) (rows : AreRows ms i s.lists.slots) (core : host_core (host_at ms i) ≡ own_core s) (few : s.counts.logins ≤ 2 ^ 32) where
  abbrev host : Host
  host = host_at ms i

  work_is : work_of host.operation ≡ work_in s.operation
  work_is = ap (λ (c : Core). c.work) core

  other_awaited : (block : StatusBlock) → names_management block.orb ≡ false → (kind : StatusKind) → is_management_kind kind ≡ false → (waits_for ms i (named_in ms i (slot_of block.orb)) || is_managed host.operation block) ≡ own.is_awaited_by kind block.orb s
  other_awaited block unnamed kind other = by kind other
    where
      none : is_managed host.operation block ≡ false
      none = managed_same block host.operation s.operation work_is ∙ none_there block s.operation unnamed

      waits : (waits_for ms i (named_in ms i (slot_of block.orb)) || is_managed host.operation block) ≡ own.waits_in s.lists.slots.slots (slot_of block.orb)
      waits =
          ap (λ b. waits_for ms i (named_in ms i (slot_of block.orb)) || b) none
          ∙ (or_none (waits_for ms i (named_in ms i (slot_of block.orb))) ∙ named_waits ms i s.lists.slots rows block.orb (slot_of block.orb) refl)

      by : (k : StatusKind) → is_management_kind k ≡ false → (waits_for ms i (named_in ms i (slot_of block.orb)) || is_managed host.operation block) ≡ own.is_awaited_by k block.orb s
      by (kinds.Management code) e = absurd (false≢true (sym e))
      by kinds.Good e = waits
      by (kinds.Check sense) e = waits
      by kinds.Dummy e = waits
      by kinds.Aborted e = waits
      by (kinds.Illegal meaning) e = waits
      by kinds.Failed e = waits

  managed_awaited : (block : StatusBlock) → is_managed_orb block.orb ≡ true → IsManaged block.kind → (waits_for ms i (named_in ms i (slot_of block.orb)) || is_managed host.operation block) ≡ own.is_awaited_by block.kind block.orb s
  managed_awaited block at m =
      ap (λ so. waits_for ms i (named_in ms i so) || is_managed host.operation block) (place_slot block.orb at)
      ∙ (managed_same block host.operation s.operation work_is ∙ ap (λ k. own.is_awaited_by k block.orb s) (sym m.is))

  awaited_by : (payload : List ℕ) (named : Bool) → names_management (offset_at payload 0) ≡ named → (read : Result StatusBlock OrbFault) → read_block named payload ≡ read → law.is_awaited ms i host read ≡ own.is_awaited read s
  awaited_by payload named n (Err fault) e = refl
  awaited_by payload true n (Ok block) e = managed_awaited block (ap is_managed_orb (is_read_by true payload block e).orb ∙ n) (managed_kind payload block e)
  awaited_by payload false n (Ok block) e = other_awaited block (ap names_management (is_read_by false payload block e).orb ∙ n) block.kind (command_is payload block e)

  -- the law reads a block as the initiator does
  read_same : (payload : List ℕ) → read_status payload ≡ status_in payload
  read_same payload = by (nat_lt (length payload) 8) refl
    where
      by : (short : Bool) → nat_lt (length payload) 8 ≡ short → read_status payload ≡ status_in payload
      by true e = rw e refl
      by false e = let long : nat_le 8 (length payload) ≡ true = grind (arith, nat_tests) in ap (λ b. read_block (b && is_managed_orb (offset_at payload 0)) payload) (sym long)

  is_read_same : (read : Result StatusBlock OrbFault) → law.is_read read ≡ own.is_read read
  is_read_same (Ok block) = refl
  is_read_same (Err fault) = refl

  out_same : (seat : Seat) → is_out (session_in seat) ≡ is_out_seat seat
  out_same (seats.Out out) = refl
  out_same (seats.Entering entering) = refl
  out_same (seats.Live live) = refl
  out_same (seats.Held response) = refl
  out_same (seats.Returning response) = refl
  out_same (seats.Leaving response) = refl
  out_same (seats.Stuck origin) = refl

  open_same : (offset : ℕ) → is_open_fifo host offset ≡ open_test s.counts.logins (is_out_seat s.seat) offset
  open_same offset =
      ap (λ o. open_test host.logins o offset) (ap (λ (c : Core). is_out c.session) core ∙ out_same s.seat)
      ∙ ap (λ n. open_test n (is_out_seat s.seat) offset) (ap (λ (c : Core). c.logins) core)

  pub judging_same : (access : Access) (from source : ℕ) → (access.is_lock && access.is_write) ≡ false → (from == 0) ≡ (source == s.target) → judging_of (host_facts ms i host from access) ≡ judging_of (own.facts_at (own.fifo_for access s) access source s)
  judging_same access from source one target =
      let lk = access.is_lock in
      let wr = access.is_write in
      let bl = access.is_block in
      let rom = lies_in_rom 32 access in
      let f = is_fifo access.offset in
      let l = law.is_login_fifo access.offset in
      let u = is_block access.payload in
      let read = status_in access.payload in
      let o = open_test s.counts.logins (is_out_seat s.seat) access.offset in
      ap (λ b. judging_of (law_facts lk wr bl rom b f l (is_open_fifo host access.offset) u (law.is_read (read_status access.payload)) (law.is_awaited ms i host (read_status access.payload)))) target
      ∙ (ap (λ b. judging_of (law_facts lk wr bl rom (source == s.target) f l b u (law.is_read (read_status access.payload)) (law.is_awaited ms i host (read_status access.payload)))) (open_same access.offset)
      ∙ (ap (λ b. judging_of (law_facts lk wr bl rom (source == s.target) f l o u b (law.is_awaited ms i host (read_status access.payload)))) (is_read_same (read_status access.payload) ∙ ap own.is_read (read_same access.payload))
      ∙ (ap (λ b. judging_of (law_facts lk wr bl rom (source == s.target) f l o u (own.is_read read) b)) (awaited_by access.payload (names_management (offset_at access.payload 0)) refl (read_status access.payload) refl ∙ ap (λ r. own.is_awaited r s) (read_same access.payload))
      ∙ rows_same bl rom (source == s.target) u (own.is_read read) (own.is_awaited read s) lk wr one (own.fifo_for access s) f l o (fifo_is s.counts.logins (is_out_seat s.seat) access.offset few))))
