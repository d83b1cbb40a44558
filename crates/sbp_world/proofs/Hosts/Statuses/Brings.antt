-- What a request that an initiator gets brings: the status that is due, or none.
use Rattle.sbp_world.proofs.Words.Std.{arith, ◌≡◌, refl, sym, ◌∙◌, ap, subst, ◌⊎◌, inl, inr, ℕ, ◌-◌, ◌^◌, ◌≤◌, ◌&&◌, ◌||◌, nat_eq, nat_lt, not, is_some, Bool, true, false, cond, List, [], ◌∷◌, length, Option, Some, None, Result, Ok, Err, nat_tests, AllByRecursion}
use Rattle.sbp_world.proofs.Words.Wire.{Packet, lock, lock_response, reads_block, read_block_response, read_quadlet, read_quadlet_response, write_block, write_quadlet, write_response, Access, access_of, Judging, ignored_as, judging_of, serving, telling, Moment, Cause, Note}
use Rattle.sbp_world.proofs.Words.Target.{is_block}
use Rattle.sbp_world.proofs.Words.Initiator.{is_fifo, slot_of, start, Fifo, fifo_at, is_login_fifo, is_open_login, names_place, place_fifo, OrbFault, StatusBlock, StatusKind, is_management, read_block, ListState, take_lists, slot_in, waiting, TicketParts, is_out_seat, InitiatorState, answer_of, status_in, facts_at, fifo_for, is_awaited, is_awaited_by, is_read, judging_for, note_of, waits_there, block_note, block_notes, brought, brought_by, nothing, taken_of, unsolicited, waiting_at}
use Rattle.sbp_world.proofs.Words.Laws.{Orb, named_in, slot_at, waits_in, if_waits, taking_by, taking_of, login_fifo}
use Rattle.sbp_world.proofs.Words.World.{AreRows, name, is_place_fifo}
use Rattle.bus_memory.proofs.Found.{slot_of_law}
use Rattle.bus_memory.specs.declared.window.Window.TheVariants as windows
use Rattle.initiator_base.specs.declared.fifos.Fifo.TheVariants as fifos
use Rattle.orb_layout.specs.declared.status.StatusKind.TheVariants as kinds
use Rattle.sbp_journal.specs.declared.cause.Cause.TheVariants as causes
use Rattle.sbp_journal.specs.declared.cause.Judged.TheVariants as judgements
use Rattle.sbp_journal.specs.declared.note.Note.TheVariants as notes
use Rattle.sbp_initiator.specs.Histories.Taking.{read_as, taken_by}
use Rattle.sbp_world.proofs.Hosts.Answering.{no_fifo, some_fifo}
use Rattle.sbp_world.proofs.Hosts.Statuses.Blocks.{command_is, managed_kind, placed_none, unsolicited_none}
use Rattle.sbp_world.proofs.Hosts.Statuses.Folds.{is_calm}
use Rattle.sbp_world.proofs.Hosts.Statuses.Waits.{place, prepared, waits_so}
use Rattle.sbp_world.proofs.Common.{untrue}

abbrev pub AreCalm : List Note → Type 0
AreCalm ns = AllByRecursion (λ note. is_calm note ≡ true) ns

pub ignored_got : {A : Type 0} (cause : Cause) → judgements.Ignored cause ≡ judgements.Got → A
ignored_got cause e = absurd (differ e)
  where
    differ : judgements.Ignored cause ≡ judgements.Got → ⊥
    differ e = cc

-- ---- the FIFO at an address

-- that of the latest login is at its address
pub login_at : (logins : ℕ) (out : Bool) (offset : ℕ) → fifo_at logins out offset ≡ Some fifos.Login → offset ≡ login_fifo (logins - 1)
unfolding fifo_at
login_at logins out offset e = by_tests (nat_eq offset (place_fifo 0)) (nat_eq offset (place_fifo 1)) (nat_lt 0 logins) (nat_eq offset (login_fifo (logins - 1))) (not out) (is_login_fifo offset) refl e
  where
    place_not : Some fifos.Place ≡ Some fifos.Login → ⊥
    place_not e = cc

    rest_not : (d : Bool) → cond d (Some fifos.Closed) None ≡ Some fifos.Login → ⊥
    rest_not true e = cc
    rest_not false e = cc

    by_tests : (a b c g h d : Bool) → nat_eq offset (login_fifo (logins - 1)) ≡ g → cond (a || b) (Some fifos.Place) (cond (c && g && h) (Some fifos.Login) (cond d (Some fifos.Closed) None)) ≡ Some fifos.Login → offset ≡ login_fifo (logins - 1)
    by_tests true b c g h d f e = absurd (place_not e)
    by_tests false true c g h d f e = absurd (place_not e)
    by_tests false false true true h d f e = grind (arith, nat_tests)
    by_tests false false true false h d f e = absurd (rest_not d e)
    by_tests false false false g h d f e = absurd (rest_not d e)

-- that of a place is at one of theirs
pub place_at : (logins : ℕ) (out : Bool) (offset : ℕ) → fifo_at logins out offset ≡ Some fifos.Place → is_place_fifo offset ≡ true
unfolding fifo_at
place_at logins out offset e = by_tests (nat_eq offset (place_fifo 0)) (nat_eq offset (place_fifo 1)) (is_open_login logins out offset) (is_login_fifo offset) refl refl e
  where
    rest_not : (c d : Bool) → cond c (Some fifos.Login) (cond d (Some fifos.Closed) None) ≡ Some fifos.Place → ⊥
    rest_not true d e = cc
    rest_not false true e = cc
    rest_not false false e = cc

    by_tests : (a b c d : Bool) → nat_eq offset (place_fifo 0) ≡ a → nat_eq offset (place_fifo 1) ≡ b → cond (a || b) (Some fifos.Place) (cond c (Some fifos.Login) (cond d (Some fifos.Closed) None)) ≡ Some fifos.Place → is_place_fifo offset ≡ true
    by_tests true b c d f g e = ap (λ (x : Bool). x || nat_eq offset (place_fifo 1)) f
    by_tests false true c d f g e = ap (λ (x : Bool). x || nat_eq offset (place_fifo 1)) f ∙ g
    by_tests false false c d f g e = absurd (rest_not c d e)

-- ---- what is taken

-- A note takes the status of an ORB that waits, and this is what is due.
pub record Took (past : List Moment) (i : ℕ) (s : InitiatorState) (access : Access) (note : Note) : Type 0 where
  pub block : StatusBlock
  pub ticket : TicketParts
  pub answer : List ℕ
  pub is : note ≡ notes.Taken s.number ticket.list ticket.number block.kind answer
  pub due : taking_by past i (Some access) ≡ record { initiator = i; one = name ticket; status = block.kind } ∷ []
  pub is_write : access.is_write ≡ true
  pub is_block : access.is_block ≡ true
  pub goes : (access.offset ≡ login_fifo (s.counts.logins - 1)) ⊎ (is_place_fifo access.offset ≡ true)
  pub read : read_block false access.payload ≡ Ok block
  pub address : block.orb ≡ start (windows.Orb (slot_at past i ticket.list ticket.number))
  pub waits : waits_in past i ticket.list ticket.number ≡ true

-- Nothing is due and none is taken, or the one that is due is.
pub data Outcome (past : List Moment) (i : ℕ) (s : InitiatorState) (access : Access) (note : Option Note) : Type 0 where
  none_due : AreCalm (block_notes note) → taking_by past i (Some access) ≡ [] → Outcome past i s access note
  one_due : (first : Note) → note ≡ Some first → Took past i s access first → Outcome past i s access note

module _ (past : List Moment) (i : ℕ) (s : InitiatorState) (rows : AreRows past i s.lists.slots) (few : s.counts.logins ≤ 2 ^ 32) where
  -- what a packet brings, by what it asks for
  abbrev pub Brings : Packet → Option Access → Type 0
  Brings p None = AreCalm (block_notes (block_note (brought p s) s))
  Brings p (Some access) = Outcome past i s access (block_note (brought p s) s)

  none_noted : (a b : Bool) → AreCalm (block_notes (block_note (cond a nothing (cond b nothing nothing)) s))
  none_noted true b = tt
  none_noted false true = tt
  none_noted false false = tt

  none_one : (a : Bool) → AreCalm (block_notes (block_note (cond a nothing nothing) s))
  none_one true = tt
  none_one false = tt

  module _ (offset : ℕ) (payload : List ℕ) where
    abbrev access : Access
    access = record { is_lock = false; is_write = true; is_block = true; offset = offset; count = length payload; payload = payload }

    abbrev Comes : Option Note → Type 0
    Comes note = Outcome past i s access note

    due_of : is_fifo offset ≡ true → taking_by past i (Some access) ≡ taking_of past i (read_block false payload)
    due_of f = ap (λ (b : Bool). cond b (taking_of past i (read_block false payload)) []) f

    -- ---- a status block at an open FIFO

    module _ (f : is_fifo offset ≡ true) (goes : (offset ≡ login_fifo (s.counts.logins - 1)) ⊎ (is_place_fifo offset ≡ true)) where
      module _ (block : StatusBlock) (read : read_block false payload ≡ Ok block) where
        taken_here : (slot : ℕ) (t : TicketParts) (answer : List ℕ) → slot_of block.orb ≡ Some slot → waiting (slot_in s.lists.slots.slots slot) ≡ Some t → Took past i s access (notes.Taken s.number t.list t.number block.kind answer)
        taken_here slot t answer at w =
            let begins = slot_of_law.begins block.orb slot at in
            let so = waits_so past i s.lists.slots rows slot begins.0 t w in
            record {
              block = block;
              ticket = t;
              answer = answer;
              is = refl;
              due = due_of f
                  ∙ (ap (taking_of past i) read
                  ∙ (ap (λ (found : Option ℕ). if_waits past i (named_in past i found) block.kind) at
                  ∙ (ap (λ (found : Option Orb). if_waits past i found block.kind) (prepared past i s.lists.slots rows slot begins.0 t w)
                  ∙ ap (λ (b : Bool). cond b (record { initiator = i; one = name t; status = block.kind } ∷ []) []) so)));
              is_write = refl;
              is_block = refl;
              goes = goes;
              read = read;
              address = begins.1 ∙ ap (λ (n : ℕ). start (windows.Orb n)) (sym (place past i s.lists.slots rows slot begins.0 t w));
              waits = so;
            }

        -- the ORB that waits in a slot
        in_slot : (slot : ℕ) (found : Option TicketParts) (kind : StatusKind) (lists : ListState) → block.kind ≡ kind → slot_of block.orb ≡ Some slot → waiting (slot_in s.lists.slots.slots slot) ≡ found → note_of (cond (not (is_some found)) (ignored_as causes.Slot 0) serving) ≡ judgements.Got → Comes (taken_of found kind lists s.number)
        in_slot slot None kind lists k at w got = ignored_got causes.Slot got
        in_slot slot (Some t) kind lists k at w got =
            one_due (notes.Taken s.number t.list t.number kind (answer_of kind lists t.slot)) refl
            (subst (λ (x : StatusKind). Took past i s access (notes.Taken s.number t.list t.number x (answer_of kind lists t.slot))) k (taken_here slot t (answer_of kind lists t.slot) at w))

        at_slot : (found : Option ℕ) (kind : StatusKind) (lists : ListState) → block.kind ≡ kind → slot_of block.orb ≡ found → note_of (cond (not (waits_there s.lists.slots.slots found)) (ignored_as causes.Slot 0) serving) ≡ judgements.Got → Comes (taken_of (waiting_at s.lists.slots.slots found) kind lists s.number)
        at_slot None kind lists k at got = ignored_got causes.Slot got
        at_slot (Some slot) kind lists k at got = in_slot slot (waiting (slot_in s.lists.slots.slots slot)) kind lists k at refl got

        by_kind : (kind : StatusKind) → block.kind ≡ kind → note_of (cond (not (is_awaited_by kind block.orb s)) (ignored_as causes.Slot 0) serving) ≡ judgements.Got → Comes (taken_by kind block s)
        by_kind (kinds.Management code) k got = untrue (sym (command_is payload block read) ∙ ap is_management k)
        by_kind kinds.Good k got = at_slot (slot_of block.orb) kinds.Good (take_lists s.lists block).1 k refl got
        by_kind (kinds.Check sense) k got = at_slot (slot_of block.orb) (kinds.Check sense) (take_lists s.lists block).1 k refl got
        by_kind kinds.Dummy k got = at_slot (slot_of block.orb) kinds.Dummy (take_lists s.lists block).1 k refl got
        by_kind kinds.Aborted k got = at_slot (slot_of block.orb) kinds.Aborted (take_lists s.lists block).1 k refl got
        by_kind (kinds.Illegal meaning) k got = at_slot (slot_of block.orb) (kinds.Illegal meaning) (take_lists s.lists block).1 k refl got
        by_kind kinds.Failed k got = at_slot (slot_of block.orb) kinds.Failed (take_lists s.lists block).1 k refl got

      abbrev judged_last : Result StatusBlock OrbFault → Judging
      judged_last r = cond (not (is_read r)) (ignored_as causes.Grammar 5) (cond (not (is_awaited r s)) (ignored_as causes.Slot 0) serving)

      by_read : (named : Bool) (r : Result StatusBlock OrbFault) → names_place payload ≡ named → read_block named payload ≡ r → note_of (judged_last r) ≡ judgements.Got → Comes (block_note (read_as r) s)
      by_read named (Err fault) n e got = ignored_got causes.Grammar got
      by_read true (Ok block) n e got =
          let m = managed_kind payload block e in
          none_due (subst (λ (kind : StatusKind). AreCalm (block_notes (taken_by kind block s))) (sym m.is) tt) (due_of f ∙ placed_none past i payload n)
      by_read false (Ok block) n e got = by_kind block e block.kind refl got

      -- where it is the unsolicited block, or is read
      by_unsolicited : (u a : Bool) → (u ≡ true → is_block payload ≡ true) → note_of (cond a (ignored_as causes.Source 7) (cond u telling (judged_last (read_block (names_place payload) payload)))) ≡ judgements.Got → Comes (block_note (cond a nothing (cond u unsolicited (read_as (read_block (names_place payload) payload)))) s)
      by_unsolicited u true x got = ignored_got causes.Source got
      by_unsolicited true false x got = none_due (refl, tt) (due_of f ∙ unsolicited_none past i payload (x refl))
      by_unsolicited false false x got = by_read (names_place payload) (read_block (names_place payload) payload) refl refl got

    -- ---- a block write by the FIFO at its address

    never : {A : Type 0} (a : Bool) → note_of (cond a (ignored_as causes.Source 7) (ignored_as causes.Login 7)) ≡ judgements.Got → A
    never true e = ignored_got causes.Source e
    never false e = ignored_got causes.Login e

    by_fifo : (fifo : Option Fifo) (source : ℕ) → fifo_for access s ≡ fifo → note_of (judging_of (facts_at fifo access source s)) ≡ judgements.Got → Comes (block_note (brought_by (facts_at fifo access source s) (status_in payload)) s)
    by_fifo None source e got =
        none_due (none_one (not (nat_eq source s.target)))
        (ap (λ (b : Bool). cond b (taking_of past i (read_block false payload)) []) (no_fifo s.counts.logins (is_out_seat s.seat) offset e))
    by_fifo (Some fifos.Closed) source e got = never (not (nat_eq source s.target)) got
    by_fifo (Some fifos.Login) source e got =
        by_unsolicited (some_fifo s.counts.logins (is_out_seat s.seat) offset fifos.Login few e) (inl (login_at s.counts.logins (is_out_seat s.seat) offset e)) (is_block payload) (not (nat_eq source s.target)) (λ u. u) got
    by_fifo (Some fifos.Place) source e got =
        by_unsolicited (some_fifo s.counts.logins (is_out_seat s.seat) offset fifos.Place few e) (inr (place_at s.counts.logins (is_out_seat s.seat) offset e)) false (not (nat_eq source s.target)) (λ u. untrue u) got

  pub outcome_of : (p : Packet) → note_of (judging_for p s) ≡ judgements.Got → Brings p (access_of p)
  outcome_of (write_block header offset payload) got = by_fifo offset payload (fifo_for (access offset payload) s) header.source refl got
  outcome_of (write_quadlet header offset value) got = none_due (none_noted _ _) refl
  outcome_of (read_quadlet header offset) got = none_due (none_one _) refl
  outcome_of (reads_block header offset asked) got = none_due (none_one _) refl
  outcome_of (lock header offset extended payload) got = none_due (none_one _) refl
  outcome_of (write_response header rcode) got = tt
  outcome_of (read_quadlet_response header rcode value) got = tt
  outcome_of (read_block_response header rcode payload) got = tt
  outcome_of (lock_response header rcode extended payload) got = tt
