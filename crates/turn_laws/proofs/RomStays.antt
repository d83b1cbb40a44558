-- What stays as an initiator gets a request: an operation without a management ORB, and what it has of a ROM.
use Rattle.std.proofs.Common.{◌≡◌, ◌∙◌, refl, sym, ap, ℕ, ◌==◌, ◌&&◌, Bool, true, false, cond, List, [], replicate, Option, Some, None, Result, Ok, Err}
use Rattle.async_packet.specs.Packet.{Packet, lock, lock_response, read_block, read_block_response, read_quadlet, read_quadlet_response, write_block, write_quadlet, write_response}
use Rattle.bus_memory.specs.Access.{read_step}
use Rattle.byteorder.specs.Endian.{big_bytes}
use Rattle.initiator_base.specs.Fifos.{is_dead_kind}
use Rattle.initiator_base.specs.declared.fifos.Fifo.{Fifo}
use Rattle.initiator_base.specs.declared.fifos.Fifo.TheVariants as fifos
use Rattle.label_table.specs.Layer.{Layer, answering_step}
use Rattle.media_bay.specs.Unsolicited.{is_block}
use Rattle.orb_layout.specs.declared.fault.OrbFault.{OrbFault}
use Rattle.orb_layout.specs.declared.status.StatusBlock.{StatusBlock}
use Rattle.orb_layout.specs.declared.status.StatusKind.{StatusKind}
use Rattle.orb_layout.specs.declared.status.StatusKind.TheVariants as kinds
use Rattle.orb_list.specs.Lists.{ListState, drop_lists, take_lists, write_lists}
use Rattle.orb_list.specs.Tickets.{TicketParts}
use Rattle.sbp_initiator.specs.Effects.{Turn, drop_where, dropped_as, end_step, good_end, good_event, managed_step, moved, moves_session, response_of, then_step, told, with_dead}
use Rattle.sbp_initiator.specs.Receiving.{addressed, block_at, block_by, block_step, called, fifo_of, got_step, ignored_step, is_foreign, managed_for, present_for, quadlet_at, read_as, request_step, respond_step, serve_step, status_step, taken_as, taken_by, written_as}
use Rattle.sbp_initiator.specs.Refusals.{ends_list}
use Rattle.sbp_initiator.specs.States.{is_orb_of, is_present_orb, status_in}
use Rattle.sbp_initiator.specs.declared.purpose.Purpose.{Purpose}
use Rattle.sbp_initiator.specs.declared.purpose.Running.{Running}
use Rattle.sbp_initiator.specs.declared.state.InitiatorState.{InitiatorState}
use Rattle.sbp_journal.specs.Outgoings.{OutboxState}
use Rattle.sbp_journal.specs.declared.cause.Cause.TheVariants as causes
use Rattle.sbp_journal.specs.declared.cause.Judged.{Judged}
use Rattle.sbp_journal.specs.declared.note.Note.TheVariants as notes
use Rattle.sbp_journal.specs.declared.operation.OpWord.TheVariants as words
use Rattle.sbp_session.specs.Moves.{Event, bad, goes}
use Rattle.sbp_world.proofs.Common.{none_is}
use Rattle.turn_laws.proofs.RomEnds.{own_rom}

-- what is kept by all that a request changes
record IsKept (Is : InitiatorState → Type 0) : Type 0 where
  relayered : (u : InitiatorState) (layer : Layer Purpose) → Is u → Is (record u { layer = layer })
  relisted : (u : InitiatorState) (lists : ListState) → Is u → Is (record u { lists = lists })
  counted : (u : InitiatorState) → Is u → Is (called u)
  marked : (u : InitiatorState) → Is u → Is (with_dead u)
  -- a status of the management ORB of its operation
  managed : (orb status : ℕ) (running : Running) (o : OutboxState) (u : InitiatorState) → present_for orb u.operation ≡ Some running → Is u → Is (managed_step running status o (called u)).1

module _ (Is : InitiatorState → Type 0) (keeps : IsKept Is) where
  abbrev At : Judged × Turn → Type 0
  At x = Is x.1.1

  pick : (b : Bool) (x y : Judged × Turn) → At x → At y → At (cond b x y)
  pick true x y h k = h
  pick false x y h k = k

  responds : (p : Packet) (bytes : List ℕ) (rcode : ℕ) (given : List ℕ) (t : Turn) → Is t.1 → Is (respond_step p bytes rcode given t).1
  responds p bytes rcode given t h = keeps.relayered t.1 (answering_step t.1.layer p bytes rcode given).1 h

  module _ (bytes : List ℕ) (o : OutboxState) (u : InitiatorState) (h : Is u) where
    takes : (t : Option TicketParts × ListState) (kind : StatusKind) (p : Packet) → At (taken_as t kind p bytes o u)
    takes (None, lists) kind p = responds p bytes 0 [] (o, record u { lists = lists }) (keeps.relisted u lists h)
    takes (Some t, lists) kind p =
        let v = record (called u) { lists = lists } in responds p bytes 0 [] (taken_by t lists kind o (called u)) (by (is_dead_kind kind) v (keeps.relisted (called u) lists (keeps.counted u h)))
      where
        by : (b : Bool) (v : InitiatorState) → Is v → Is (cond b (with_dead v) v)
        by true v e = keeps.marked v e
        by false v e = e

    present_by : (orb status : ℕ) (found : Option Running) → present_for orb u.operation ≡ found → (p : Packet) → At (managed_for found status p bytes o u)
    present_by orb status None e p = responds p bytes 0 [] (o, u) h
    present_by orb status (Some running) e p = responds p bytes 0 [] (managed_step running status o (called u)) (keeps.managed orb status running o u e h)

    blocks_by : (kind : StatusKind) (block : StatusBlock) (p : Packet) → At (block_by kind block p bytes o u)
    blocks_by (kinds.Management status) block p = present_by block.orb status (present_for block.orb u.operation) refl p
    blocks_by kinds.Good block p = takes (take_lists u.lists block) kinds.Good p
    blocks_by (kinds.Check sense) block p = takes (take_lists u.lists block) (kinds.Check sense) p
    blocks_by kinds.Dummy block p = takes (take_lists u.lists block) kinds.Dummy p
    blocks_by kinds.Aborted block p = takes (take_lists u.lists block) kinds.Aborted p
    blocks_by (kinds.Illegal meaning) block p = takes (take_lists u.lists block) (kinds.Illegal meaning) p
    blocks_by kinds.Failed block p = takes (take_lists u.lists block) kinds.Failed p

    blocks : (x : Result StatusBlock OrbFault) (p : Packet) → At (block_step x p bytes o u)
    blocks (Err fault) p = responds p bytes 5 [] (o, u) h
    blocks (Ok block) p = blocks_by block.kind block p

    statuses : (is_login : Bool) (payload : List ℕ) (p : Packet) → At (status_step is_login payload p bytes o u)
    statuses is_login payload p =
        pick (is_login && is_block payload) (got_step p bytes (told o (notes.Told u.number), called u)) (block_step (status_in payload) p bytes o u)
        (responds p bytes 0 [] (told o (notes.Told u.number), called u) (keeps.counted u h)) (blocks (status_in payload) p)

    reads : (x : ℕ × List ℕ) (p : Packet) → At (read_as x p bytes o u)
    reads (rcode, out) p = responds p bytes rcode out (o, called u) (keeps.counted u h)

    writes : (x : ℕ × ListState) (p : Packet) → At (written_as x p bytes o u)
    writes (rcode, lists) p = responds p bytes rcode [] (o, record (called u) { lists = lists }) (keeps.relisted (called u) lists (keeps.counted u h))

    serves : (p : Packet) → At (serve_step p bytes o u)
    serves (read_quadlet header offset) = reads (read_step u.lists.memory offset (replicate 4 0)) (read_quadlet header offset)
    serves (read_block header offset asked) = reads (read_step u.lists.memory offset (replicate asked 0)) (read_block header offset asked)
    serves (write_quadlet header offset value) = writes (write_lists u.lists offset (big_bytes 4 value)) (write_quadlet header offset value)
    serves (write_block header offset payload) = writes (write_lists u.lists offset payload) (write_block header offset payload)
    serves (write_response header rcode) = responds (write_response header rcode) bytes 6 [] (o, called u) (keeps.counted u h)
    serves (read_quadlet_response header rcode value) = responds (read_quadlet_response header rcode value) bytes 6 [] (o, called u) (keeps.counted u h)
    serves (read_block_response header rcode payload) = responds (read_block_response header rcode payload) bytes 6 [] (o, called u) (keeps.counted u h)
    serves (lock header offset extended payload) = responds (lock header offset extended payload) bytes 6 [] (o, called u) (keeps.counted u h)
    serves (lock_response header rcode extended payload) = responds (lock_response header rcode extended payload) bytes 6 [] (o, called u) (keeps.counted u h)

    fifo_blocks : (fifo : Option Fifo) (payload : List ℕ) (p : Packet) → At (block_at fifo payload p bytes o u)
    fifo_blocks None payload p = serves p
    fifo_blocks (Some fifos.Closed) payload p = responds p bytes 7 [] (o, u) h
    fifo_blocks (Some fifos.Login) payload p = statuses true payload p
    fifo_blocks (Some fifos.Place) payload p = statuses false payload p

    fifo_quadlets : (fifo : Option Fifo) (p : Packet) → At (quadlet_at fifo p bytes o u)
    fifo_quadlets (Some fifos.Closed) p = responds p bytes 7 [] (o, u) h
    fifo_quadlets (Some fifos.Login) p = serves p
    fifo_quadlets (Some fifos.Place) p = serves p
    fifo_quadlets None p = serves p

    addresses : (p : Packet) → At (addressed p bytes o u)
    addresses (write_block header offset payload) = fifo_blocks (fifo_of u offset) payload (write_block header offset payload)
    addresses (write_quadlet header offset value) = fifo_quadlets (fifo_of u offset) (write_quadlet header offset value)
    addresses (read_quadlet header offset) = serves (read_quadlet header offset)
    addresses (read_block header offset asked) = serves (read_block header offset asked)
    addresses (write_response header rcode) = serves (write_response header rcode)
    addresses (read_quadlet_response header rcode value) = serves (read_quadlet_response header rcode value)
    addresses (read_block_response header rcode payload) = serves (read_block_response header rcode payload)
    addresses (lock header offset extended payload) = serves (lock header offset extended payload)
    addresses (lock_response header rcode extended payload) = serves (lock_response header rcode extended payload)

    request_keeps : (p : Packet) → At (request_step p bytes o u)
    request_keeps p = pick (is_foreign p u) (ignored_step causes.Source 7 p bytes (o, u)) (addressed p bytes o u) (responds p bytes 7 [] (o, u) h) (addresses p)

-- ---- an operation without a management ORB
module _ (r : Running) (bare : r.managed ≡ None) where
  abbrev Runs : InitiatorState → Type 0
  Runs u = u.operation ≡ Some r

  -- it is not of a block
  none_present : (orb : ℕ) (operation : Option Running) → operation ≡ Some r → present_for orb operation ≡ None
  none_present orb operation e =
      ap (λ x. cond (is_present_orb orb operation) x None) e
      ∙ (ap (λ x. cond (is_present_orb orb x) (Some r) None) e ∙ ap (λ m. cond (is_orb_of m orb) (Some r) None) bare)

  runs : IsKept Runs
  runs = record {
    relayered = λ u layer h. h;
    relisted = λ u lists h. h;
    counted = λ u h. h;
    marked = λ u h. h;
    managed = λ orb status running o u e h. none_is running (sym (none_present orb u.operation h) ∙ e);
  }

  pub request_stays : (bytes : List ℕ) (o : OutboxState) (u : InitiatorState) → Runs u → (p : Packet) → Runs (request_step p bytes o u).1.1
  request_stays bytes o u h p = request_keeps Runs runs bytes o u h p

-- ---- what it has of a ROM
dropped_rom : (d : Option ℕ × ListState) (o : OutboxState) (u : InitiatorState) → own_rom (dropped_as d o u).1 ≡ own_rom u
dropped_rom (None, lists) o u = refl
dropped_rom (Some n, lists) o u = refl

where_rom : (b : Bool) (o : OutboxState) (u : InitiatorState) → own_rom (drop_where b o u).1 ≡ own_rom u
where_rom true o u = dropped_rom (drop_lists u.lists) o u
where_rom false o u = refl

moved_rom : (b : Bool) (event : Event) (u : InitiatorState) → own_rom (cond b (record u { seat = goes event u.seat }) u) ≡ own_rom u
moved_rom true event u = refl
moved_rom false event u = refl

managed_rom : (running : Running) (status : ℕ) (o : OutboxState) (u : InitiatorState) → own_rom (managed_step running status o u).1 ≡ own_rom u
managed_rom running status o u = by (status == 0)
  where
    dropped : Turn
    dropped = drop_where (ends_list (Some running.operation)) o u

    by : (b : Bool) → own_rom (cond b (then_step (good_end running) dropped) (end_step running.operation (words.Refused status) o (moved running.operation bad u))).1 ≡ own_rom u
    by true = moved_rom (moves_session running.operation) (good_event running.operation (response_of running dropped.1)) dropped.1 ∙ where_rom (ends_list (Some running.operation)) o u
    by false = moved_rom (moves_session running.operation) bad u

pub request_reads : (bytes : List ℕ) (o : OutboxState) (u : InitiatorState) (p : Packet) → own_rom (request_step p bytes o u).1.1 ≡ own_rom u
request_reads bytes o u p =
    request_keeps (λ v. own_rom v ≡ own_rom u)
    (record {
      relayered = λ v layer h. h;
      relisted = λ v lists h. h;
      counted = λ v h. h;
      marked = λ v h. h;
      managed = λ orb status running o v e h. managed_rom running status o (called v) ∙ h;
    })
    bytes o u refl p
