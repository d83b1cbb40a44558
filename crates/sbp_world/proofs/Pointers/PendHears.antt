-- What holds of an initiator's marks is kept by deliveries and time-outs, and as a generation is seen.
use Rattle.sbp_world.proofs.Words.Std.{◌≡◌, refl, ℕ, nat_lt, ◌&&◌, Bool, true, false, cond, List, replicate, Option, Some, None, Result, Ok, Err, big_bytes}
use Rattle.sbp_world.proofs.Words.Wire.{LabelParts, Header, Packet, write_quadlet, write_block, write_response, read_quadlet, read_block, read_quadlet_response, read_block_response, lock, lock_response, Stale, Layer, Finding, of_generation, of_grammar, of_label, of_response, of_again, of_request, expiring_step, judging_step, seeing_step, seen_in_generation, OutboxState, empty_outbox}
use Rattle.sbp_world.proofs.Words.Target.{is_block}
use Rattle.sbp_world.proofs.Words.Initiator.{read_step, slot_of, OrbFault, StatusBlock, StatusKind, PresentList, TicketParts, free_all_step, passed_for, slot_in, status_at, status_for, slot_step, waiting, ListState, free_lists, stepped, take_lists, write_lists, Fifo, is_dead_kind, Purpose, Running, InitiatorState, ends_list, ending_of, is_list, is_orb_of, operation_in, status_in, address_error, addressed, block_at, block_by, block_step, called, expire_step, expired_as, fifo_of, got_step, ignored_step, is_foreign, managed_for, present_for, quadlet_at, read_as, receive_step, received, request_step, serve_step, status_step, taken_as, written_as, see_step, seen_as}
use Rattle.orb_layout.specs.declared.status.StatusKind.TheVariants as kinds
use Rattle.sbp_journal.specs.declared.cause.Cause.TheVariants as causes
use Rattle.initiator_base.specs.declared.fifos.Fifo.TheVariants as fifos
use Rattle.sbp_initiator.specs.declared.purpose.Ending.TheVariants as endings
use Rattle.sbp_world.proofs.Pointers.Pends.{IfEnding, Pend, dead_pends, for_pends, listed_pends, managed_pends, unwritten_not}
use Rattle.sbp_world.proofs.Common.{untrue}

-- ---- a status is taken, and a write is tried: the list that was present is

abbrev pub SameList : ListState → ListState → Type 0
SameList old new = (n : ℕ) → is_list new.slots.present n ≡ is_list old.slots.present n

passed_list : (present : Option PresentList) (number n : ℕ) → is_list (passed_for present number) n ≡ is_list present n
passed_list None number n = refl
passed_list (Some list) number n = refl

status_list : (t : Option TicketParts) (slot : ℕ) (block : StatusBlock) (lists : ListState) → SameList lists (stepped (status_at t slot lists.slots lists.memory block) lists).1
status_list None slot block lists = λ n. refl
status_list (Some t) slot block lists = λ n. passed_list lists.slots.present t.number n

for_list : (slot : Option ℕ) (block : StatusBlock) (lists : ListState) → SameList lists (stepped (status_for slot lists.slots lists.memory block) lists).1
for_list None block lists = λ n. refl
for_list (Some slot) block lists = status_list (waiting (slot_in lists.slots.slots slot)) slot block lists

pub take_list : (lists : ListState) (block : StatusBlock) → SameList lists (take_lists lists block).1
unfolding take_lists slot_step
take_list lists block = for_list (slot_of block.orb) block lists

pub write_list : (lists : ListState) (offset : ℕ) (bytes : List ℕ) → SameList lists (write_lists lists offset bytes).1
unfolding write_lists
write_list lists offset bytes = λ n. refl

-- ---- a request

-- an operation that ends lists is not under way beside a write of ORB_POINTER
abbrev pub Ending : Bool → Option Running → Type 0
Ending pended operation = ends_list (operation_in operation) ≡ true → pended ≡ false

module _ (pended : Bool) (place : ℕ → ℕ) (bytes : List ℕ) (o : OutboxState) (s : InitiatorState) (m : Ending pended s.operation) (k : Pend pended place s) where
  module _ (p : Packet) where
    present_pends : (c : Bool) (running : Running) (code : ℕ) → (ends_list (Some running.operation) ≡ true → pended ≡ false) → Pend pended place (managed_for (cond c (Some running) None) code p bytes o s).1.1
    present_pends true running code e = managed_pends pended place running code o (called s) e k
    present_pends false running code e = k

    operation_pends : (operation : Option Running) (code orb : ℕ) → Ending pended operation → Pend pended place (managed_for (present_for orb operation) code p bytes o s).1.1
    operation_pends None code orb e = k
    operation_pends (Some running) code orb e = present_pends (is_orb_of running.managed orb) running code e

    takes_pends : (t : Option TicketParts) (lists : ListState) (kind : StatusKind) → SameList s.lists lists → Pend pended place (taken_as (t, lists) kind p bytes o s).1.1
    takes_pends None lists kind l = listed_pends lists.slots.present l k
    takes_pends (Some t) lists kind l = dead_pends pended place (is_dead_kind kind) (record (called s) { lists = lists }) (listed_pends lists.slots.present l k)

    taken_pends : (kind : StatusKind) (block : StatusBlock) → Pend pended place (taken_as (take_lists s.lists block) kind p bytes o s).1.1
    taken_pends kind block = takes_pends (take_lists s.lists block).0 (take_lists s.lists block).1 kind (take_list s.lists block)

    kind_pends : (kind : StatusKind) (block : StatusBlock) → Pend pended place (block_by kind block p bytes o s).1.1
    kind_pends (kinds.Management code) block = operation_pends s.operation code block.orb m
    kind_pends kinds.Good block = taken_pends kinds.Good block
    kind_pends (kinds.Check sense) block = taken_pends (kinds.Check sense) block
    kind_pends kinds.Dummy block = taken_pends kinds.Dummy block
    kind_pends kinds.Aborted block = taken_pends kinds.Aborted block
    kind_pends (kinds.Illegal meaning) block = taken_pends (kinds.Illegal meaning) block
    kind_pends kinds.Failed block = taken_pends kinds.Failed block

    block_pends : (r : Result StatusBlock OrbFault) → Pend pended place (block_step r p bytes o s).1.1
    block_pends (Err fault) = k
    block_pends (Ok block) = kind_pends block.kind block

    unsolicited_pends : (c : Bool) (r : Result StatusBlock OrbFault) (t : OutboxState) → Pend pended place (cond c (got_step p bytes (t, called s)) (block_step r p bytes o s)).1.1
    unsolicited_pends true r t = k
    unsolicited_pends false r t = block_pends r

    read_pends : (r : ℕ × List ℕ) → Pend pended place (read_as r p bytes o s).1.1
    read_pends (rcode, out) = k

    written_pends : (r : ℕ × ListState) → SameList s.lists r.1 → Pend pended place (written_as r p bytes o s).1.1
    written_pends (rcode, lists) l = listed_pends lists.slots.present l k

    source_pends : (c : Bool) → Pend pended place (addressed p bytes o s).1.1 → Pend pended place (cond c (ignored_step causes.Source address_error p bytes (o, s)) (addressed p bytes o s)).1.1
    source_pends true h = k
    source_pends false h = h

  serve_pends : (p : Packet) → Pend pended place (serve_step p bytes o s).1.1
  serve_pends (read_quadlet header offset) = read_pends (read_quadlet header offset) (read_step s.lists.memory offset (replicate 4 0))
  serve_pends (read_block header offset asked) = read_pends (read_block header offset asked) (read_step s.lists.memory offset (replicate asked 0))
  serve_pends (write_quadlet header offset value) = written_pends (write_quadlet header offset value) (write_lists s.lists offset (big_bytes 4 value)) (write_list s.lists offset (big_bytes 4 value))
  serve_pends (write_block header offset payload) = written_pends (write_block header offset payload) (write_lists s.lists offset payload) (write_list s.lists offset payload)
  serve_pends (write_response header rcode) = k
  serve_pends (read_quadlet_response header rcode value) = k
  serve_pends (read_block_response header rcode payload) = k
  serve_pends (lock header offset extended payload) = k
  serve_pends (lock_response header rcode extended payload) = k

  status_pends : (is_login : Bool) (header : Header) (offset : ℕ) (payload : List ℕ) → Pend pended place (status_step is_login payload (write_block header offset payload) bytes o s).1.1
  status_pends is_login header offset payload = unsolicited_pends (write_block header offset payload) (is_login && is_block payload) (status_in payload) _

  write_pends : (fifo : Option Fifo) (header : Header) (offset : ℕ) (payload : List ℕ) → Pend pended place (block_at fifo payload (write_block header offset payload) bytes o s).1.1
  write_pends None header offset payload = serve_pends (write_block header offset payload)
  write_pends (Some fifos.Closed) header offset payload = k
  write_pends (Some fifos.Login) header offset payload = status_pends true header offset payload
  write_pends (Some fifos.Place) header offset payload = status_pends false header offset payload

  quadlet_pends : (fifo : Option Fifo) (header : Header) (offset value : ℕ) → Pend pended place (quadlet_at fifo (write_quadlet header offset value) bytes o s).1.1
  quadlet_pends None header offset value = serve_pends (write_quadlet header offset value)
  quadlet_pends (Some fifos.Closed) header offset value = k
  quadlet_pends (Some fifos.Login) header offset value = serve_pends (write_quadlet header offset value)
  quadlet_pends (Some fifos.Place) header offset value = serve_pends (write_quadlet header offset value)

  addressed_pends : (p : Packet) → Pend pended place (addressed p bytes o s).1.1
  addressed_pends (write_quadlet header offset value) = quadlet_pends (fifo_of s offset) header offset value
  addressed_pends (write_block header offset payload) = write_pends (fifo_of s offset) header offset payload
  addressed_pends (read_quadlet header offset) = serve_pends (read_quadlet header offset)
  addressed_pends (read_block header offset asked) = serve_pends (read_block header offset asked)
  addressed_pends (lock header offset extended payload) = serve_pends (lock header offset extended payload)
  addressed_pends (write_response header rcode) = serve_pends (write_response header rcode)
  addressed_pends (read_quadlet_response header rcode value) = serve_pends (read_quadlet_response header rcode value)
  addressed_pends (read_block_response header rcode payload) = serve_pends (read_block_response header rcode payload)
  addressed_pends (lock_response header rcode extended payload) = serve_pends (lock_response header rcode extended payload)

  request_pends : (p : Packet) → Pend pended place (request_step p bytes o s).1.1
  request_pends p = source_pends p (is_foreign p s) (addressed_pends p)

-- ---- a delivery and a time-out

-- what is known of a transaction that is found to end
abbrev pub IfClosed : Bool → Finding Purpose → Option PresentList → Type 0
IfClosed pended (of_response p label purpose) present = IfEnding pended purpose present
IfClosed pended _ present = Unit {0}

abbrev pub IfExpired : Bool → Result (Option Purpose) Stale → Option PresentList → Type 0
IfExpired pended (Ok purpose) present = IfEnding pended purpose present
IfExpired pended (Err stale) present = Unit {0}

module _ (pended : Bool) (place : ℕ → ℕ) (s : InitiatorState) (m : Ending pended s.operation) (k : Pend pended place s) where
  received_pends : (finding : Finding Purpose) (layer : Layer Purpose) (bytes : List ℕ) → IfClosed pended finding s.lists.slots.present → Pend pended place (received (finding, layer) bytes empty_outbox s).1.1
  received_pends of_generation layer bytes c = k
  received_pends of_grammar layer bytes c = k
  received_pends of_label layer bytes c = k
  received_pends (of_response p label purpose) layer bytes c = for_pends pended place purpose (ending_of p) empty_outbox (called (record s { layer = layer })) c k
  received_pends (of_again p rcode) layer bytes c = k
  received_pends (of_request p) layer bytes c = request_pends pended place bytes empty_outbox (record s { layer = layer }) m k p

  pub receive_pends : (generation : ℕ) (bytes : List ℕ) → IfClosed pended (judging_step s.layer generation bytes).0 s.lists.slots.present → Pend pended place (receive_step generation bytes empty_outbox s).1.1
  unfolding receive_step
  receive_pends generation bytes c = received_pends (judging_step s.layer generation bytes).0 (judging_step s.layer generation bytes).1 bytes c

  expired_pends : (r : Result (Option Purpose) Stale) (layer : Layer Purpose) → IfExpired pended r s.lists.slots.present → Pend pended place (expired_as (r, layer) empty_outbox s).1.1
  expired_pends (Err stale) layer c = k
  expired_pends (Ok purpose) layer c = for_pends pended place purpose endings.Expired empty_outbox (called (record s { layer = layer })) c k

  pub expire_pends : (label : LabelParts) → IfExpired pended (expiring_step s.layer s.target label).0 s.lists.slots.present → Pend pended place (expire_step label empty_outbox s).1.1
  unfolding expire_step
  expire_pends label c = expired_pends (expiring_step s.layer s.target label).0 (expiring_step s.layer s.target label).1 c

-- ---- a generation is seen

-- nothing is under way, and every list is gone
module _ (place : ℕ → ℕ) (s : InitiatorState) (k : Pend false place s) where
  saw_pends : (c : Bool) (new : Layer Purpose) (target : ℕ) → Pend false place (seen_as (cond c (true, new) (false, s.layer)) target empty_outbox s).1
  unfolding free_lists free_all_step
  saw_pends false new target = record { first = k.first; counts = k.counts; beside = k.beside; stays = k.stays }
  saw_pends true new target = record { first = λ n g. untrue g; counts = λ e f. unwritten_not e; beside = λ e. unwritten_not e; stays = λ e. untrue e }

  pub see_pends : (generation id target : ℕ) → Pend false place (see_step generation id target empty_outbox s).1
  unfolding see_step seeing_step
  see_pends generation id target = saw_pends (nat_lt s.layer.generation generation) (seen_in_generation s.layer generation id) target
