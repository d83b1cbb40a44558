-- A request that is delivered to an initiator is answered, and nothing else is handed out.
use Rattle.std.proofs.Common.{◌≡◌, ap, ◌∙◌, ℕ, Bool, true, false, cond, List, [], ◌∷◌, ◌++◌, replicate, Option, Some, None, Result, Ok, Err}
use Rattle.byteorder.specs.Endian.{big_bytes}
use Rattle.async_packet.specs.Packet.{Packet, write_quadlet, write_block, write_response, read_quadlet, read_block, read_quadlet_response, read_block_response, lock, lock_response}
use Rattle.label_table.specs.Layer.{answering_step}
use Rattle.bus_memory.specs.Access.{read_step}
use Rattle.media_bay.specs.Unsolicited.{is_block}
use Rattle.orb_layout.specs.declared.fault.OrbFault.{OrbFault}
use Rattle.orb_layout.specs.declared.status.StatusBlock.{StatusBlock}
use Rattle.orb_layout.specs.declared.status.StatusKind.{StatusKind}
use Rattle.orb_layout.specs.declared.status.StatusKind.TheVariants as kinds
use Rattle.orb_list.specs.Lists.{ListState, take_lists, write_lists}
use Rattle.orb_list.specs.Tickets.{TicketParts}
use Rattle.sbp_journal.specs.declared.cause.Cause.TheVariants as causes
use Rattle.sbp_journal.specs.declared.note.Note.TheVariants as notes
use Rattle.sbp_journal.specs.declared.outbox.Outgoing.{Outgoing}
use Rattle.sbp_journal.specs.Outgoings.{OutboxState}
use Rattle.initiator_base.specs.declared.fifos.Fifo.{Fifo}
use Rattle.initiator_base.specs.declared.fifos.Fifo.TheVariants as fifos
use Rattle.initiator_base.specs.Fifos.{is_dead_kind}
use Rattle.sbp_initiator.specs.declared.purpose.Running.{Running}
use Rattle.sbp_initiator.specs.declared.state.InitiatorState.{InitiatorState}
use Rattle.sbp_initiator.specs.States.{status_in}
use Rattle.sbp_initiator.specs.Effects.{Turn, told, managed_step, with_dead}
use Rattle.sbp_initiator.specs.Receiving.{called, type_error, address_error, data_error, respond_step, ignored_step, got_step, answer_of, taken_by, taken_as, managed_for, present_for, block_by, block_step, read_as, written_as, serve_step, block_at, quadlet_at, fifo_of, addressed}
use Rattle.sbp_initiator.specs.Histories.Moves.{response}
use Rattle.async_packet.specs.Canon.{canon}
use Rattle.label_table.specs.Bodies.{response_to}
use Rattle.sbp_initiator.proofs.Quiet.{Has, either_state, managed}

module _ (packets : List Outgoing) (quads : List ℕ) (node : ℕ) where
  -- behind these packets stands a response of this node to a request
  abbrev pub Answers : Packet → Turn → Type 0
  Answers p turn = (rcode : ℕ) × (given : List ℕ) × (turn.0.packets ≡ packets ++ response p (canon (response_to node p rcode given)) ∷ []) × (turn.1.quads ≡ quads)

  pub responds : (p : Packet) (bytes : List ℕ) (rcode : ℕ) (given : List ℕ) (t : Turn) → Has packets quads node t → Answers p (respond_step p bytes rcode given t)
  unfolding answering_step
  responds p bytes rcode given t h =
      let own = λ (n : ℕ). response p (canon (response_to n p rcode given)) in
      (rcode, given, ap (λ (ps : List Outgoing). ps ++ own t.1.layer.node ∷ []) h.0 ∙ ap (λ (n : ℕ). packets ++ own n ∷ []) h.2, h.1)

  takes : (r : Option TicketParts × ListState) (kind : StatusKind) (p : Packet) (bytes : List ℕ) (o : OutboxState) (s : InitiatorState) → Has packets quads node (o, s) → Answers p (taken_as r kind p bytes o s).1
  takes (None, lists) kind p bytes o s h = responds p bytes 0 [] (o, record s { lists = lists }) h
  takes (Some t, lists) kind p bytes o s h =
      let u = record (called s) { lists = lists } in
      responds p bytes 0 [] (taken_by t lists kind o (called s)) (either_state packets quads node (is_dead_kind kind) (told o (notes.Taken s.number t.list t.number kind (answer_of kind lists t.slot))) (with_dead u) u h h)

  manages_for : (r : Option Running) (status : ℕ) (p : Packet) (bytes : List ℕ) (o : OutboxState) (s : InitiatorState) → Has packets quads node (o, s) → Answers p (managed_for r status p bytes o s).1
  manages_for None status p bytes o s h = responds p bytes 0 [] (o, s) h
  manages_for (Some r) status p bytes o s h = responds p bytes 0 [] (managed_step r status o (called s)) (managed packets quads node r status o (called s) h)

  by_kind : (kind : StatusKind) (block : StatusBlock) (p : Packet) (bytes : List ℕ) (o : OutboxState) (s : InitiatorState) → Has packets quads node (o, s) → Answers p (block_by kind block p bytes o s).1
  by_kind (kinds.Management status) block p bytes o s h = manages_for (present_for block.orb s.operation) status p bytes o s h
  by_kind kinds.Good block p bytes o s h = takes (take_lists s.lists block) kinds.Good p bytes o s h
  by_kind (kinds.Check sense) block p bytes o s h = takes (take_lists s.lists block) (kinds.Check sense) p bytes o s h
  by_kind kinds.Dummy block p bytes o s h = takes (take_lists s.lists block) kinds.Dummy p bytes o s h
  by_kind kinds.Aborted block p bytes o s h = takes (take_lists s.lists block) kinds.Aborted p bytes o s h
  by_kind (kinds.Illegal meaning) block p bytes o s h = takes (take_lists s.lists block) (kinds.Illegal meaning) p bytes o s h
  by_kind kinds.Failed block p bytes o s h = takes (take_lists s.lists block) kinds.Failed p bytes o s h

  blocks : (r : Result StatusBlock OrbFault) (p : Packet) (bytes : List ℕ) (o : OutboxState) (s : InitiatorState) → Has packets quads node (o, s) → Answers p (block_step r p bytes o s).1
  blocks (Err fault) p bytes o s h = responds p bytes data_error [] (o, s) h
  blocks (Ok block) p bytes o s h = by_kind block.kind block p bytes o s h

  statuses : (b : Bool) (r : Result StatusBlock OrbFault) (p : Packet) (bytes : List ℕ) (o : OutboxState) (s : InitiatorState) → Has packets quads node (o, s) → Answers p (cond b (got_step p bytes (told o (notes.Told s.number), called s)) (block_step r p bytes o s)).1
  statuses true r p bytes o s h = responds p bytes 0 [] (told o (notes.Told s.number), called s) h
  statuses false r p bytes o s h = blocks r p bytes o s h

  reads : (r : ℕ × List ℕ) (p : Packet) (bytes : List ℕ) (o : OutboxState) (s : InitiatorState) → Has packets quads node (o, s) → Answers p (read_as r p bytes o s).1
  reads (rcode, out) p bytes o s h = responds p bytes rcode out (o, called s) h

  writes : (r : ℕ × ListState) (p : Packet) (bytes : List ℕ) (o : OutboxState) (s : InitiatorState) → Has packets quads node (o, s) → Answers p (written_as r p bytes o s).1
  writes (rcode, lists) p bytes o s h = responds p bytes rcode [] (o, record (called s) { lists = lists }) h

  serves : (p : Packet) (bytes : List ℕ) (o : OutboxState) (s : InitiatorState) → Has packets quads node (o, s) → Answers p (serve_step p bytes o s).1
  serves (read_quadlet header offset) bytes o s h = reads (read_step s.lists.memory offset (replicate 4 0)) (read_quadlet header offset) bytes o s h
  serves (read_block header offset asked) bytes o s h = reads (read_step s.lists.memory offset (replicate asked 0)) (read_block header offset asked) bytes o s h
  serves (write_quadlet header offset value) bytes o s h = writes (write_lists s.lists offset (big_bytes 4 value)) (write_quadlet header offset value) bytes o s h
  serves (write_block header offset payload) bytes o s h = writes (write_lists s.lists offset payload) (write_block header offset payload) bytes o s h
  serves (write_response header rcode) bytes o s h = responds (write_response header rcode) bytes type_error [] (o, called s) h
  serves (read_quadlet_response header rcode value) bytes o s h = responds (read_quadlet_response header rcode value) bytes type_error [] (o, called s) h
  serves (read_block_response header rcode payload) bytes o s h = responds (read_block_response header rcode payload) bytes type_error [] (o, called s) h
  serves (lock header offset extended payload) bytes o s h = responds (lock header offset extended payload) bytes type_error [] (o, called s) h
  serves (lock_response header rcode extended payload) bytes o s h = responds (lock_response header rcode extended payload) bytes type_error [] (o, called s) h

  at_block : (fifo : Option Fifo) (payload : List ℕ) (p : Packet) (bytes : List ℕ) (o : OutboxState) (s : InitiatorState) → Has packets quads node (o, s) → Answers p (block_at fifo payload p bytes o s).1
  at_block None payload p bytes o s h = serves p bytes o s h
  at_block (Some fifos.Closed) payload p bytes o s h = responds p bytes address_error [] (o, s) h
  at_block (Some fifos.Login) payload p bytes o s h = statuses (is_block payload) (status_in payload) p bytes o s h
  at_block (Some fifos.Place) payload p bytes o s h = blocks (status_in payload) p bytes o s h

  at_quadlet : (fifo : Option Fifo) (p : Packet) (bytes : List ℕ) (o : OutboxState) (s : InitiatorState) → Has packets quads node (o, s) → Answers p (quadlet_at fifo p bytes o s).1
  at_quadlet None p bytes o s h = serves p bytes o s h
  at_quadlet (Some fifos.Closed) p bytes o s h = responds p bytes address_error [] (o, s) h
  at_quadlet (Some fifos.Login) p bytes o s h = serves p bytes o s h
  at_quadlet (Some fifos.Place) p bytes o s h = serves p bytes o s h

  addresses : (p : Packet) (bytes : List ℕ) (o : OutboxState) (s : InitiatorState) → Has packets quads node (o, s) → Answers p (addressed p bytes o s).1
  addresses (write_block header offset payload) bytes o s h = at_block (fifo_of s offset) payload (write_block header offset payload) bytes o s h
  addresses (write_quadlet header offset value) bytes o s h = at_quadlet (fifo_of s offset) (write_quadlet header offset value) bytes o s h
  addresses (read_quadlet header offset) bytes o s h = serves (read_quadlet header offset) bytes o s h
  addresses (read_block header offset asked) bytes o s h = serves (read_block header offset asked) bytes o s h
  addresses (write_response header rcode) bytes o s h = serves (write_response header rcode) bytes o s h
  addresses (read_quadlet_response header rcode value) bytes o s h = serves (read_quadlet_response header rcode value) bytes o s h
  addresses (read_block_response header rcode payload) bytes o s h = serves (read_block_response header rcode payload) bytes o s h
  addresses (lock header offset extended payload) bytes o s h = serves (lock header offset extended payload) bytes o s h
  addresses (lock_response header rcode extended payload) bytes o s h = serves (lock_response header rcode extended payload) bytes o s h

  pub by_source : (b : Bool) (p : Packet) (bytes : List ℕ) (o : OutboxState) (s : InitiatorState) → Has packets quads node (o, s) → Answers p (cond b (ignored_step causes.Source address_error p bytes (o, s)) (addressed p bytes o s)).1
  by_source true p bytes o s h = responds p bytes address_error [] (o, s) h
  by_source false p bytes o s h = addresses p bytes o s h
