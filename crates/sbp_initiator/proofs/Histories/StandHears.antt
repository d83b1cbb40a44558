-- What holds while a write of ORB_POINTER or of AGENT_RESET is under way is kept by the requests of others, by time-outs and deliveries, and as
-- a generation is seen.
use Rattle.std.proofs.Common.{◌≡◌, refl, sym, ap, subst, ◌∙◌, ℕ, nat_lt, ◌&&◌, is_some, Bool, true, false, cond, List, replicate, Option, Some, None, Result, Ok, Err}
use Rattle.byteorder.specs.Endian.{big_bytes}
use Rattle.async_packet.specs.Labels.{LabelParts}
use Rattle.async_packet.specs.declared.packet.Header.{Header}
use Rattle.async_packet.specs.Packet.{Packet, write_quadlet, write_block, write_response, read_quadlet, read_block, read_quadlet_response, read_block_response, lock, lock_response}
use Rattle.label_table.specs.declared.reply.Stale.{Stale}
use Rattle.label_table.specs.Layer.{Layer, Finding, of_generation, of_grammar, of_label, of_response, of_again, of_request, seeing_step, seen_in_generation}
use Rattle.bus_memory.specs.Access.{read_step}
use Rattle.bus_memory.specs.Windows.{slot_of}
use Rattle.media_bay.specs.Unsolicited.{is_block}
use Rattle.orb_layout.specs.declared.fault.OrbFault.{OrbFault}
use Rattle.orb_layout.specs.declared.status.StatusBlock.{StatusBlock}
use Rattle.orb_layout.specs.declared.status.StatusKind.{StatusKind}
use Rattle.orb_layout.specs.declared.status.StatusKind.TheVariants as kinds
use Rattle.orb_list.specs.declared.list.PresentList.{PresentList}
use Rattle.orb_list.specs.Tickets.{TicketParts}
use Rattle.orb_list.specs.Table.{free_all_step, passed_for, slot_in, status_at, status_for, status_step as slot_step, waiting}
use Rattle.orb_list.specs.Lists.{ListState, free_lists, stepped, take_lists, write_lists}
use Rattle.sbp_journal.specs.declared.cause.Cause.TheVariants as causes
use Rattle.sbp_journal.specs.Outgoings.{OutboxState}
use Rattle.initiator_base.specs.declared.fifos.Fifo.{Fifo}
use Rattle.initiator_base.specs.declared.fifos.Fifo.TheVariants as fifos
use Rattle.initiator_base.specs.Fifos.{is_dead_kind}
use Rattle.sbp_initiator.specs.declared.purpose.Ending.TheVariants as endings
use Rattle.sbp_initiator.specs.declared.purpose.Purpose.{Purpose}
use Rattle.sbp_initiator.specs.declared.purpose.Running.{Running}
use Rattle.sbp_initiator.specs.declared.state.InitiatorState.{InitiatorState}
use Rattle.sbp_initiator.specs.Refusals.{ends_list}
use Rattle.sbp_initiator.specs.States.{ending_of, is_list, is_orb_of, operation_in, status_in}
use Rattle.sbp_initiator.specs.declared.purpose.Pointing.{Pointing}
use Rattle.sbp_initiator.specs.declared.purpose.Pointing.TheVariants as pointings
use Rattle.sbp_initiator.specs.Effects.{drop_list_step, with_dead}
use Rattle.sbp_initiator.specs.Receiving.{address_error, addressed, block_at, block_by, block_step, called, expired_as, fifo_of, got_step, ignored_step, is_foreign, managed_for, present_for, quadlet_at, read_as, received, request_step, serve_step, status_step, taken_as, written_as}
use Rattle.sbp_initiator.specs.Seeing.{interrupted, resets_told, see_step, seen_as}
use Rattle.sbp_initiator.specs.Histories.Ends.{is_managed}
use Rattle.sbp_initiator.specs.Histories.Pointing.{IsReset}
use Rattle.sbp_initiator.proofs.Histories.Busy.{Busy, idle, points_to, resets_for, busy_found, busy_out, is_busy}
use Rattle.sbp_initiator.proofs.Histories.Requests.{HasOrb}
use Rattle.sbp_initiator.proofs.Histories.Stands.{IfClosing, Managing, Stand, Stands, drop_stands, for_stands, is_points, listed_stands, managed_stands, reset_points}

untrue : {A : Type 0} → false ≡ true → A
untrue e = absurd (differ e)
  where
    differ : false ≡ true → ⊥
    differ e = cc

-- ---- a status is taken

passed_list : (present : Option PresentList) (number n : ℕ) → is_list (passed_for present number) n ≡ is_list present n
passed_list None number n = refl
passed_list (Some list) number n = refl

-- the list that was present is, and no other was begun
record SameList (old new : ListState) : Type 0 where
  list : (n : ℕ) → is_list new.slots.present n ≡ is_list old.slots.present n
  count : new.slots.lists ≡ old.slots.lists

status_list : (t : Option TicketParts) (slot : ℕ) (block : StatusBlock) (lists : ListState) → SameList lists (stepped (status_at t slot lists.slots lists.memory block) lists).1
status_list None slot block lists = record { list = λ n. refl; count = refl }
status_list (Some t) slot block lists = record { list = λ n. passed_list lists.slots.present t.number n; count = refl }

for_list : (slot : Option ℕ) (block : StatusBlock) (lists : ListState) → SameList lists (stepped (status_for slot lists.slots lists.memory block) lists).1
for_list None block lists = record { list = λ n. refl; count = refl }
for_list (Some slot) block lists = status_list (waiting (slot_in lists.slots.slots slot)) slot block lists

take_list : (lists : ListState) (block : StatusBlock) → SameList lists (take_lists lists block).1
unfolding take_lists slot_step
take_list lists block = for_list (slot_of block.orb) block lists

write_list : (lists : ListState) (offset : ℕ) (bytes : List ℕ) → SameList lists (write_lists lists offset bytes).1
unfolding write_lists
write_list lists offset bytes = record { list = λ n. refl; count = refl }

-- ---- a request

-- no write of ORB_POINTER is under way beside an operation that ends a list
ends_points : (b busy : Busy) (counted : ℕ → Option ℕ) (running : Running) (s : InitiatorState) → busy ≡ b → s.operation ≡ Some running → ends_list (Some running.operation) ≡ true → Stand busy counted s → is_points b ≡ false
ends_points idle busy counted running s e f g k = refl
ends_points (resets_for act) busy counted running s e f g k = refl
ends_points (points_to n) busy counted running s e f g k =
    untrue (sym (k.beside n e) ∙ ap (λ (r : Option Running). ends_list (operation_in r)) f ∙ g)

module _ (busy : Busy) (counted : ℕ → Option ℕ) (p : Packet) (bytes : List ℕ) (o : OutboxState) (s : InitiatorState) (has : HasOrb s.operation) (k : Stand busy counted s) where
  managing : (running : Running) → s.operation ≡ Some running → is_managed running.operation ≡ true → Managing busy running
  managing running e m = record {
    other = λ act g. untrue (sym (ap is_managed (subst (λ (r : Option Running). IsReset act r) e (k.resets act g)).1) ∙ m);
    closes = λ g. ends_points busy busy counted running s refl e g k;
  }

  present_stands : (c : Bool) (running : Running) (code : ℕ) → s.operation ≡ Some running → (c ≡ true → is_managed running.operation ≡ true) → Stand busy counted (managed_for (cond c (Some running) None) code p bytes o s).1.1
  present_stands true running code e m = managed_stands busy counted running code o (called s) (managing running e (m refl)) k
  present_stands false running code e m = k

  named_orb : (managed : Option ℕ) (orb : ℕ) → is_orb_of managed orb ≡ true → is_some managed ≡ true
  named_orb None orb e = cc
  named_orb (Some number) orb e = refl

  operation_stands : (operation : Option Running) (code orb : ℕ) → s.operation ≡ operation → Stand busy counted (managed_for (present_for orb operation) code p bytes o s).1.1
  operation_stands None code orb e = k
  operation_stands (Some running) code orb e =
      present_stands (is_orb_of running.managed orb) running code e (λ c. has.managed running e (named_orb running.managed orb c))

  dead_stands : (dead : Bool) (lists : ListState) → SameList s.lists lists → Stand busy counted (cond dead (with_dead (record (called s) { lists = lists })) (record (called s) { lists = lists }))
  dead_stands true lists l = listed_stands lists.slots.present lists.slots.lists l.list l.count k
  dead_stands false lists l = listed_stands lists.slots.present lists.slots.lists l.list l.count k

  takes_stands : (t : Option TicketParts) (lists : ListState) (kind : StatusKind) → SameList s.lists lists → Stand busy counted (taken_as (t, lists) kind p bytes o s).1.1
  takes_stands None lists kind l = listed_stands lists.slots.present lists.slots.lists l.list l.count k
  takes_stands (Some t) lists kind l = dead_stands (is_dead_kind kind) lists l

  taken_stands : (kind : StatusKind) (block : StatusBlock) → Stand busy counted (taken_as (take_lists s.lists block) kind p bytes o s).1.1
  taken_stands kind block = takes_stands (take_lists s.lists block).0 (take_lists s.lists block).1 kind (take_list s.lists block)

  kind_stands : (kind : StatusKind) (block : StatusBlock) → Stand busy counted (block_by kind block p bytes o s).1.1
  kind_stands (kinds.Management code) block = operation_stands s.operation code block.orb refl
  kind_stands kinds.Good block = taken_stands kinds.Good block
  kind_stands (kinds.Check sense) block = taken_stands (kinds.Check sense) block
  kind_stands kinds.Dummy block = taken_stands kinds.Dummy block
  kind_stands kinds.Aborted block = taken_stands kinds.Aborted block
  kind_stands (kinds.Illegal meaning) block = taken_stands (kinds.Illegal meaning) block
  kind_stands kinds.Failed block = taken_stands kinds.Failed block

  block_stands : (r : Result StatusBlock OrbFault) → Stand busy counted (block_step r p bytes o s).1.1
  block_stands (Err fault) = k
  block_stands (Ok block) = kind_stands block.kind block

  unsolicited_stands : (c : Bool) (r : Result StatusBlock OrbFault) (t : OutboxState) → Stand busy counted (cond c (got_step p bytes (t, called s)) (block_step r p bytes o s)).1.1
  unsolicited_stands true r t = k
  unsolicited_stands false r t = block_stands r

  read_stands : (r : ℕ × List ℕ) → Stand busy counted (read_as r p bytes o s).1.1
  read_stands (rcode, out) = k

  written_stands : (r : ℕ × ListState) → SameList s.lists r.1 → Stand busy counted (written_as r p bytes o s).1.1
  written_stands (rcode, lists) l = listed_stands lists.slots.present lists.slots.lists l.list l.count k

  source_stands : (c : Bool) → Stand busy counted (addressed p bytes o s).1.1 → Stand busy counted (cond c (ignored_step causes.Source address_error p bytes (o, s)) (addressed p bytes o s)).1.1
  source_stands true h = k
  source_stands false h = h

module _ (busy : Busy) (counted : ℕ → Option ℕ) (bytes : List ℕ) (o : OutboxState) (s : InitiatorState) (has : HasOrb s.operation) (k : Stand busy counted s) where
  serve_stands : (p : Packet) → Stand busy counted (serve_step p bytes o s).1.1
  serve_stands (read_quadlet header offset) = read_stands busy counted (read_quadlet header offset) bytes o s has k (read_step s.lists.memory offset (replicate 4 0))
  serve_stands (read_block header offset asked) = read_stands busy counted (read_block header offset asked) bytes o s has k (read_step s.lists.memory offset (replicate asked 0))
  serve_stands (write_quadlet header offset value) = written_stands busy counted (write_quadlet header offset value) bytes o s has k (write_lists s.lists offset (big_bytes 4 value)) (write_list s.lists offset (big_bytes 4 value))
  serve_stands (write_block header offset payload) = written_stands busy counted (write_block header offset payload) bytes o s has k (write_lists s.lists offset payload) (write_list s.lists offset payload)
  serve_stands (write_response header rcode) = k
  serve_stands (read_quadlet_response header rcode value) = k
  serve_stands (read_block_response header rcode payload) = k
  serve_stands (lock header offset extended payload) = k
  serve_stands (lock_response header rcode extended payload) = k

  status_stands : (is_login : Bool) (header : Header) (offset : ℕ) (payload : List ℕ) → Stand busy counted (status_step is_login payload (write_block header offset payload) bytes o s).1.1
  status_stands is_login header offset payload =
      unsolicited_stands busy counted (write_block header offset payload) bytes o s has k (is_login && is_block payload) (status_in payload) _

  write_stands : (fifo : Option Fifo) (header : Header) (offset : ℕ) (payload : List ℕ) → Stand busy counted (block_at fifo payload (write_block header offset payload) bytes o s).1.1
  write_stands None header offset payload = serve_stands (write_block header offset payload)
  write_stands (Some fifos.Closed) header offset payload = k
  write_stands (Some fifos.Login) header offset payload = status_stands true header offset payload
  write_stands (Some fifos.Place) header offset payload = status_stands false header offset payload

  quadlet_stands : (fifo : Option Fifo) (header : Header) (offset value : ℕ) → Stand busy counted (quadlet_at fifo (write_quadlet header offset value) bytes o s).1.1
  quadlet_stands None header offset value = serve_stands (write_quadlet header offset value)
  quadlet_stands (Some fifos.Closed) header offset value = k
  quadlet_stands (Some fifos.Login) header offset value = serve_stands (write_quadlet header offset value)
  quadlet_stands (Some fifos.Place) header offset value = serve_stands (write_quadlet header offset value)

  addressed_stands : (p : Packet) → Stand busy counted (addressed p bytes o s).1.1
  addressed_stands (write_quadlet header offset value) = quadlet_stands (fifo_of s offset) header offset value
  addressed_stands (write_block header offset payload) = write_stands (fifo_of s offset) header offset payload
  addressed_stands (read_quadlet header offset) = serve_stands (read_quadlet header offset)
  addressed_stands (read_block header offset asked) = serve_stands (read_block header offset asked)
  addressed_stands (lock header offset extended payload) = serve_stands (lock header offset extended payload)
  addressed_stands (write_response header rcode) = serve_stands (write_response header rcode)
  addressed_stands (read_quadlet_response header rcode value) = serve_stands (read_quadlet_response header rcode value)
  addressed_stands (read_block_response header rcode payload) = serve_stands (read_block_response header rcode payload)
  addressed_stands (lock_response header rcode extended payload) = serve_stands (lock_response header rcode extended payload)

  pub request_stands : (p : Packet) → Stand busy counted (request_step p bytes o s).1.1
  request_stands p = source_stands busy counted p bytes o s has k (is_foreign p s) (addressed_stands p)

-- ---- a delivery and a time-out

pub received_stands : (busy : Busy) (counted : ℕ → Option ℕ) (finding : Finding Purpose) (layer : Layer Purpose) (bytes : List ℕ) (o : OutboxState) (s : InitiatorState) → HasOrb s.operation → ((p : Packet) (label : LabelParts) (purpose : Option Purpose) → finding ≡ of_response p label purpose → IfClosing busy counted purpose s) → Stand busy counted s → Stand (busy_found finding busy) counted (received (finding, layer) bytes o s).1.1
received_stands busy counted of_generation layer bytes o s has c k = k
received_stands busy counted of_grammar layer bytes o s has c k = k
received_stands busy counted of_label layer bytes o s has c k = k
received_stands busy counted (of_response p label purpose) layer bytes o s has c k =
    for_stands busy counted purpose (ending_of p) o (called (record s { layer = layer })) (closing_with purpose (c p label purpose refl)) k
  where
    closing_with : (purpose : Option Purpose) → IfClosing busy counted purpose s → IfClosing busy counted purpose (called (record s { layer = layer }))
    closing_with None f = tt
    closing_with (Some purpose) f = record { its = f.its; fits = f.fits; counts = f.counts }
received_stands busy counted (of_again p rcode) layer bytes o s has c k = k
received_stands busy counted (of_request p) layer bytes o s has c k = request_stands busy counted bytes o (record s { layer = layer }) has k p

pub expired_stands : (busy : Busy) (counted : ℕ → Option ℕ) (r : Result (Option Purpose) Stale) (layer : Layer Purpose) (o : OutboxState) (s : InitiatorState) → ((purpose : Option Purpose) → r ≡ Ok purpose → IfClosing busy counted purpose s) → Stand busy counted s → Stand (busy_out r busy) counted (expired_as (r, layer) o s).1.1
expired_stands busy counted (Err stale) layer o s c k = k
expired_stands busy counted (Ok purpose) layer o s c k =
    for_stands busy counted purpose endings.Expired o (called (record s { layer = layer })) (closing_with purpose (c purpose refl)) k
  where
    closing_with : (purpose : Option Purpose) → IfClosing busy counted purpose s → IfClosing busy counted purpose (called (record s { layer = layer }))
    closing_with None f = tt
    closing_with (Some purpose) f = record { its = f.its; fits = f.fits; counts = f.counts }

-- ---- a generation is seen

free_stands : (counted : ℕ → Option ℕ) (mark : Pointing) (s : InitiatorState) → Stand idle counted s → Stands idle counted s.seat (free_lists s.lists).slots.present (free_lists s.lists).slots.lists mark s.operation
unfolding free_lists free_all_step
free_stands counted mark s k = record {
  session = k.session;
  list = λ n g. untrue (ap is_busy g);
  written = λ n g. untrue (ap is_busy g);
  beside = k.beside;
  resets = k.resets;
  below = k.below;
  answered = λ act n g h. untrue h;
}

-- nothing is under way, and the session moves by the reset
reset_stands : (busy : Busy) (counted : ℕ → Option ℕ) (s : InitiatorState) (target : ℕ) → Stand busy counted s → Stand idle counted (interrupted s target)
reset_stands busy counted s target k = record {
  session = λ f. reset_points s.seat;
  list = λ n g. untrue (ap is_busy g);
  written = λ n g. untrue (ap is_busy g);
  beside = λ n g. untrue (ap is_busy g);
  resets = λ act g. untrue (ap is_busy g);
  below = k.below;
  answered = k.answered;
}

saw_stands : (c : Bool) (busy : Busy) (counted : ℕ → Option ℕ) (new : Layer Purpose) (target : ℕ) (o : OutboxState) (s : InitiatorState) → Stand busy counted s → Stand (cond c idle busy) counted (seen_as (cond c (true, new) (false, s.layer)) target o s).1
saw_stands false busy counted new target o s k = k
saw_stands true busy counted new target o s k =
    let u = record s { layer = new } in
    let v = interrupted u target in
    let x = resets_told u.number u.operation u.states o in
    let t = drop_list_step x v in
    free_stands counted pointings.Unwritten t.1 (drop_stands idle counted x v refl (reset_stands busy counted u target k))

pub see_stands : (busy : Busy) (counted : ℕ → Option ℕ) (generation id target : ℕ) (o : OutboxState) (s : InitiatorState) → Stand busy counted s → Stand (cond (nat_lt s.layer.generation generation) idle busy) counted (see_step generation id target o s).1
unfolding see_step seeing_step
see_stands busy counted generation id target o s k =
    saw_stands (nat_lt s.layer.generation generation) busy counted (seen_in_generation s.layer generation id) target o s k
