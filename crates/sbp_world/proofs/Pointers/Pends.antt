-- What holds of an initiator's marks: while its list is the present one they have the slot of its first ORB; a session that is not Stuck counts as
-- pointing while ORB_POINTER was written and not answered; and no operation that ends lists is under way then. The ends of transactions
-- keep it, and none drops a list then.
use Rattle.sbp_world.proofs.Words.Std.{◌≡◌, refl, sym, ap, ◌∙◌, ℕ, nat_eq, Bool, true, false, cond, List, length, Option, Some, None, Result, Ok, Err}
use Rattle.sbp_world.proofs.Words.Wire.{Asked, Layer, asking_step, Operation, OpWord, OutboxState}
use Rattle.sbp_world.proofs.Words.Target.{RomFault, SbpUnit, Tree, reading, sbp_unit_of}
use Rattle.sbp_world.proofs.Words.Initiator.{PresentList, drop_for, drop_step, drop_lists, unpin_lists, with_quad, management_at, Seat, Event, bad, conflict, pointed, failed, goes, is_stuck_seat, points, Ending, Pointing, Purpose, Running, InitiatorState, ends_list, counts_for, is_list, is_unwritten, operation_in, dropped_as, drop_list_step, end_step, end_own_for, end_own_step, then_step, with_answered, pointer_ended, doorbell_ended, fail_step, reset_ended, enable_ended, moves_session, moved, conflict_for, conflict_step, is_conflict, management_ended, response_of, good_event, good_word, drop_where, good_end, managed_step, fault_number, with_unit, with_rom, finish_rom, next_quad, asked_quad, ask_quad, is_address, rom_ended, with_dead, known_where, state_ended, ended_step, ended_for}
use Rattle.sbp_journal.specs.declared.operation.Operation.TheVariants as operations
use Rattle.sbp_journal.specs.declared.operation.OpWord.TheVariants as words
use Rattle.sbp_initiator.specs.declared.purpose.Ending.TheVariants as endings
use Rattle.sbp_initiator.specs.declared.purpose.Pointing.TheVariants as pointings
use Rattle.sbp_initiator.specs.declared.purpose.Purpose.TheVariants as purposes
use Rattle.sbp_initiator.proofs.Histories.Effects.{unpin_present}
use Rattle.sbp_initiator.proofs.Histories.Stands.{failed_sticks, is_plain, plain_goes}
use Rattle.sbp_world.proofs.Common.{untrue}

-- `place` has the slot of the first ORB of each list; `pended` says whether ORB_POINTER was written and not answered as the call began.
pub record Pends (pended : Bool) (place : ℕ → ℕ) (seat : Seat) (present : Option PresentList) (slot : ℕ) (mark : Pointing) (operation : Option Running) : Type 0 where
  pub first : (n : ℕ) → is_list present n ≡ true → slot ≡ place n
  pub counts : mark ≡ pointings.Written → is_stuck_seat seat ≡ false → points seat ≡ true
  pub beside : mark ≡ pointings.Written → ends_list (operation_in operation) ≡ false
  pub stays : pended ≡ true → is_unwritten mark ≡ false

abbrev pub Pend : Bool → (ℕ → ℕ) → InitiatorState → Type 0
Pend pended place s = Pends pended place s.seat s.lists.slots.present s.marks.first s.marks.pointing s.operation

pub unwritten_not : {A : Type 0} → pointings.Unwritten ≡ pointings.Written → A
unwritten_not e = absurd (differ e)
  where
    differ : pointings.Unwritten ≡ pointings.Written → ⊥
    differ e = cc

answered_not : {A : Type 0} → pointings.Answered ≡ pointings.Written → A
answered_not e = absurd (differ e)
  where
    differ : pointings.Answered ≡ pointings.Written → ⊥
    differ e = cc

-- Of a transaction that ends: an ORB_POINTER is that of the present list; an AGENT_RESET, and a read of AGENT_STATE that counts for this list, are not
-- under way beside one.
abbrev pub IfEnding : Bool → Option Purpose → Option PresentList → Type 0
IfEnding pended (Some (purposes.Pointer list)) present = is_list present list ≡ true
IfEnding pended (Some (purposes.AgentReset act)) present = pended ≡ false
IfEnding pended (Some (purposes.State act list)) present = counts_for present list ≡ true → pended ≡ false
IfEnding pended _ present = Unit {0}

-- ---- parts of it change

module _ {pended : Bool} {place : ℕ → ℕ} {seat : Seat} {present : Option PresentList} {slot : ℕ} {mark : Pointing} {operation : Option Running} where
  pub stuck_pends : Pends pended place seat present slot mark operation → Pends pended place (goes failed seat) present slot mark operation
  stuck_pends k = record { first = k.first; counts = λ e f. untrue (sym f ∙ failed_sticks seat); beside = k.beside; stays = k.stays }

  pub moved_pends : (event : Event) → is_plain event ≡ true → Pends pended place seat present slot mark operation → Pends pended place (goes event seat) present slot mark operation
  moved_pends event e k =
      let a = plain_goes event seat e in
      record { first = k.first; counts = λ f g. a.points_same g ∙ k.counts f (a.stuck g); beside = k.beside; stays = k.stays }

  -- the present list, whatever else of it, is the same
  pub listed_pends : (new : Option PresentList) → ((n : ℕ) → is_list new n ≡ is_list present n) → Pends pended place seat present slot mark operation → Pends pended place seat new slot mark operation
  listed_pends new f k = record { first = λ n g. k.first n (sym (f n) ∙ g); counts = k.counts; beside = k.beside; stays = k.stays }

  -- there is none any more
  pub gone_pends : pended ≡ false → Pends pended place seat present slot mark operation → Pends pended place seat None 0 pointings.Unwritten operation
  gone_pends p k = record { first = λ n g. untrue g; counts = λ e f. unwritten_not e; beside = λ e. unwritten_not e; stays = λ e. untrue (sym p ∙ e) }

  -- the operation under way ends
  pub over_pends : Pends pended place seat present slot mark operation → Pends pended place seat present slot mark None
  over_pends k = record { first = k.first; counts = k.counts; beside = λ e. refl; stays = k.stays }

-- ---- the ends of transactions

module _ (pended : Bool) (place : ℕ → ℕ) where
  pub end_pends : (operation : Operation) (word : OpWord) (o : OutboxState) (s : InitiatorState) → Pend pended place s → Pend pended place (end_step operation word o s).1
  end_pends operation word o s k =
      listed_pends (unpin_lists s.lists).slots.present (λ n. ap (λ (p : Option PresentList). is_list p n) (unpin_present s.lists)) (over_pends k)

  own_as : (c : Bool) (running : Running) (word : OpWord) (o : OutboxState) (s : InitiatorState) → Pend pended place s → Pend pended place (cond c (end_step running.operation word o s) (o, s)).1
  own_as true running word o s k = end_pends running.operation word o s k
  own_as false running word o s k = k

  own_for : (r : Option Running) (act : ℕ) (word : OpWord) (o : OutboxState) (s : InitiatorState) → Pend pended place s → Pend pended place (end_own_for r act word o s).1
  own_for None act word o s k = k
  own_for (Some running) act word o s k = own_as (nat_eq running.act act) running word o s k

  pub own_pends : (act : ℕ) (word : OpWord) (o : OutboxState) (s : InitiatorState) → Pend pended place s → Pend pended place (end_own_step act word o s).1
  own_pends act word o s k = own_for s.operation act word o s k

  fail_pends : (act : ℕ) (o : OutboxState) (s : InitiatorState) → Pend pended place s → Pend pended place (fail_step act o s).1
  fail_pends act o s k = stuck_pends (own_pends act words.Error o s k)

  dropped_pends : (present : Option PresentList) (o : OutboxState) (s : InitiatorState) → pended ≡ false → Pend pended place s → s.lists.slots.present ≡ present → Pend pended place (dropped_as ((drop_for present s.lists.slots).0, record s.lists { slots = (drop_for present s.lists.slots).1 }) o s).1
  dropped_pends None o s p k f = k
  dropped_pends (Some list) o s p k f = gone_pends p k

  pub drop_pends : (o : OutboxState) (s : InitiatorState) → pended ≡ false → Pend pended place s → Pend pended place (drop_list_step o s).1
  unfolding drop_lists drop_step
  drop_pends o s p k = dropped_pends s.lists.slots.present o s p k refl

  -- ORB_POINTER of the present list is answered
  answered_pends : (c : Bool) (s : InitiatorState) → c ≡ true → Pend pended place s → Pend pended place (cond c (with_answered (record s { seat = goes pointed s.seat })) (record s { seat = goes pointed s.seat }))
  answered_pends true s e k = record { first = k.first; counts = λ f g. answered_not f; beside = λ f. answered_not f; stays = λ f. refl }
  answered_pends false s e k = untrue e

  pointer_pends : (list : ℕ) (ending : Ending) (o : OutboxState) (s : InitiatorState) → is_list s.lists.slots.present list ≡ true → Pend pended place s → Pend pended place (pointer_ended list ending o s).1
  pointer_pends list (endings.Complete value) o s e k = answered_pends (is_list s.lists.slots.present list) s e k
  pointer_pends list (endings.Refused rcode) o s e k = stuck_pends k
  pointer_pends list endings.Expired o s e k = stuck_pends k

  doorbell_pends : (ending : Ending) (o : OutboxState) (s : InitiatorState) → Pend pended place s → Pend pended place (doorbell_ended ending o s).1
  doorbell_pends (endings.Complete value) o s k = k
  doorbell_pends (endings.Refused rcode) o s k = stuck_pends k
  doorbell_pends endings.Expired o s k = stuck_pends k

  reset_pends : (act : ℕ) (ending : Ending) (o : OutboxState) (s : InitiatorState) → pended ≡ false → Pend pended place s → Pend pended place (reset_ended act ending o s).1
  reset_pends act (endings.Complete value) o s p k = let t = drop_list_step o s in own_pends act words.Done t.0 t.1 (drop_pends o s p k)
  reset_pends act (endings.Refused rcode) o s p k = fail_pends act o s k
  reset_pends act endings.Expired o s p k = fail_pends act o s k

  enable_pends : (act : ℕ) (ending : Ending) (o : OutboxState) (s : InitiatorState) → Pend pended place s → Pend pended place (enable_ended act ending o s).1
  enable_pends act (endings.Complete value) o s k = own_pends act words.Done o s k
  enable_pends act (endings.Refused rcode) o s k = fail_pends act o s k
  enable_pends act endings.Expired o s k = fail_pends act o s k

  -- ---- management

  moved_as : (c : Bool) (event : Event) (s : InitiatorState) → is_plain event ≡ true → Pend pended place s → Pend pended place (cond c (record s { seat = goes event s.seat }) s)
  moved_as true event s e k = moved_pends event e k
  moved_as false event s e k = k

  moved_so : (operation : Operation) (event : Event) (s : InitiatorState) → is_plain event ≡ true → Pend pended place s → Pend pended place (moved operation event s)
  moved_so operation event s e k = moved_as (moves_session operation) event s e k

  conflict_as : (c : Bool) (running : Running) (o : OutboxState) (s : InitiatorState) → Pend pended place s → Pend pended place (cond c (end_step running.operation words.Conflict o (moved running.operation conflict s)) (o, s)).1
  conflict_as true running o s k = end_pends running.operation words.Conflict o (moved running.operation conflict s) (moved_so running.operation conflict s refl k)
  conflict_as false running o s k = k

  conflict_pends : (r : Option Running) (act : ℕ) (o : OutboxState) (s : InitiatorState) → Pend pended place s → Pend pended place (conflict_for r act o s).1
  conflict_pends None act o s k = k
  conflict_pends (Some running) act o s k = conflict_as (nat_eq running.act act) running o s k

  refused_pends : (c : Bool) (act : ℕ) (o : OutboxState) (s : InitiatorState) → Pend pended place s → Pend pended place (cond c (conflict_step act o s) (fail_step act o s)).1
  refused_pends true act o s k = conflict_pends s.operation act o s k
  refused_pends false act o s k = fail_pends act o s k

  management_pends : (act : ℕ) (ending : Ending) (o : OutboxState) (s : InitiatorState) → Pend pended place s → Pend pended place (management_ended act ending o s).1
  management_pends act (endings.Complete value) o s k = k
  management_pends act (endings.Refused rcode) o s k = refused_pends (is_conflict rcode) act o s k
  management_pends act endings.Expired o s k = fail_pends act o s k

  where_pends : (c : Bool) (o : OutboxState) (s : InitiatorState) → (c ≡ true → pended ≡ false) → Pend pended place s → Pend pended place (drop_where c o s).1
  where_pends true o s p k = drop_pends o s (p refl) k
  where_pends false o s p k = k

  good_plain : (operation : Operation) (response : List ℕ) → is_plain (good_event operation response) ≡ true
  good_plain operations.Login response = refl
  good_plain operations.Query response = refl
  good_plain operations.Rom response = refl
  good_plain operations.Reconnect response = refl
  good_plain operations.Logout response = refl
  good_plain operations.Abort response = refl
  good_plain operations.AbortSet response = refl
  good_plain operations.UnitReset response = refl
  good_plain operations.TargetReset response = refl
  good_plain operations.AgentReset response = refl
  good_plain operations.State response = refl
  good_plain operations.Enable response = refl

  managed_as : (c : Bool) (running : Running) (status : ℕ) (o : OutboxState) (s : InitiatorState) → (ends_list (Some running.operation) ≡ true → pended ≡ false) → Pend pended place s → Pend pended place (cond c (then_step (good_end running) (drop_where (ends_list (Some running.operation)) o s)) (end_step running.operation (words.Refused status) o (moved running.operation bad s))).1
  managed_as true running status o s p k =
      let t = drop_where (ends_list (Some running.operation)) o s in
      let event = good_event running.operation (response_of running t.1) in
      end_pends running.operation (good_word running.operation (response_of running t.1)) t.0 (moved running.operation event t.1)
      (moved_so running.operation event t.1 (good_plain running.operation (response_of running t.1)) (where_pends (ends_list (Some running.operation)) o s p k))
  managed_as false running status o s p k =
      end_pends running.operation (words.Refused status) o (moved running.operation bad s) (moved_so running.operation bad s refl k)

  pub managed_pends : (running : Running) (status : ℕ) (o : OutboxState) (s : InitiatorState) → (ends_list (Some running.operation) ≡ true → pended ≡ false) → Pend pended place s → Pend pended place (managed_step running status o s).1
  managed_pends running status o s p k = managed_as (nat_eq status 0) running status o s p k

  -- ---- the target's ROM

  unit_pends : (unit : Option SbpUnit) (act : ℕ) (o : OutboxState) (s : InitiatorState) → Pend pended place s → Pend pended place (with_unit unit act o s).1
  unit_pends None act o s k = own_pends act words.NoUnit o s k
  unit_pends (Some unit) act o s k = own_pends act words.Done o (record s { management = Some (management_at unit.management) }) k

  rom_pends : (read : Result Tree RomFault) (act : ℕ) (o : OutboxState) (s : InitiatorState) → Pend pended place s → Pend pended place (with_rom read act o s).1
  rom_pends (Ok tree) act o s k = unit_pends (sbp_unit_of tree.blocks tree.entries) act o s k
  rom_pends (Err fault) act o s k = own_pends act (words.Bad (fault_number fault)) o s k

  asked_pends : (r : Option Asked × Layer Purpose) (act : ℕ) (o : OutboxState) (s : InitiatorState) → Pend pended place s → Pend pended place (asked_quad r act o s).1
  asked_pends (None, layer) act o s k = own_pends act words.Error o (record s { layer = layer }) k
  asked_pends (Some asked, layer) act o s k = k

  quad_pends : (c : Bool) (act : ℕ) (o : OutboxState) (s : InitiatorState) → Pend pended place s → Pend pended place (cond c (finish_rom act o s) (ask_quad act o s)).1
  quad_pends true act o s k = rom_pends (reading s.quads) act o s k
  quad_pends false act o s k = asked_pends (asking_step s.layer s.target (next_quad s.quads) (purposes.Rom act)) act o s k

  refused_rom : (c : Bool) (act : ℕ) (o : OutboxState) (s : InitiatorState) → Pend pended place s → Pend pended place (cond c (finish_rom act o s) (end_own_step act words.Error o s)).1
  refused_rom true act o s k = rom_pends (reading s.quads) act o s k
  refused_rom false act o s k = own_pends act words.Error o s k

  rom_ended_pends : (act : ℕ) (ending : Ending) (o : OutboxState) (s : InitiatorState) → Pend pended place s → Pend pended place (rom_ended act ending o s).1
  rom_ended_pends act (endings.Complete value) o s k =
      let t = record s { quads = with_quad s.quads value } in quad_pends (nat_eq (length t.quads) 256) act o t k
  rom_ended_pends act (endings.Refused rcode) o s k = refused_rom (is_address rcode) act o s k
  rom_ended_pends act endings.Expired o s k = own_pends act words.Error o s k

  -- ---- the state of the agent

  pub dead_pends : (c : Bool) (s : InitiatorState) → Pend pended place s → Pend pended place (cond c (with_dead s) s)
  dead_pends true s k = k
  dead_pends false s k = k

  known_as : (zero : Bool) (value : ℕ) (o : OutboxState) (s : InitiatorState) → pended ≡ false → Pend pended place s → Pend pended place (cond zero (drop_list_step o s) (o, cond (nat_eq value 3) (with_dead s) s)).1
  known_as true value o s p k = drop_pends o s p k
  known_as false value o s p k = dead_pends (nat_eq value 3) s k

  known_pends : (c : Bool) (value : ℕ) (o : OutboxState) (s : InitiatorState) → (c ≡ true → pended ≡ false) → Pend pended place s → Pend pended place (known_where c value o s).1
  known_pends true value o s p k = known_as (nat_eq value 0) value o s (p refl) k
  known_pends false value o s p k = k

  state_pends : (act : ℕ) (list : Option ℕ) (ending : Ending) (o : OutboxState) (s : InitiatorState) → (counts_for s.lists.slots.present list ≡ true → pended ≡ false) → Pend pended place s → Pend pended place (state_ended act list ending o s).1
  state_pends act list (endings.Complete value) o s p k = known_pends (counts_for s.lists.slots.present list) value o s p k
  state_pends act list (endings.Refused rcode) o s p k = k
  state_pends act list endings.Expired o s p k = k

  -- ---- all of them

  ended_pends : (purpose : Purpose) (ending : Ending) (o : OutboxState) (s : InitiatorState) → IfEnding pended (Some purpose) s.lists.slots.present → Pend pended place s → Pend pended place (ended_step purpose ending o s).1
  unfolding ended_step
  ended_pends (purposes.Pointer list) ending o s c k = pointer_pends list ending o s c k
  ended_pends purposes.Doorbell ending o s c k = doorbell_pends ending o s k
  ended_pends (purposes.AgentReset act) ending o s c k = reset_pends act ending o s c k
  ended_pends (purposes.Enable act) ending o s c k = enable_pends act ending o s k
  ended_pends (purposes.Management act) ending o s c k = management_pends act ending o s k
  ended_pends (purposes.Rom act) ending o s c k = rom_ended_pends act ending o s k
  ended_pends (purposes.State act list) ending o s c k = state_pends act list ending o s c k

  pub for_pends : (purpose : Option Purpose) (ending : Ending) (o : OutboxState) (s : InitiatorState) → IfEnding pended purpose s.lists.slots.present → Pend pended place s → Pend pended place (ended_for purpose ending o s).1
  for_pends None ending o s c k = k
  for_pends (Some purpose) ending o s c k = ended_pends purpose ending o s c k
