-- A delivery, a time-out and a reset that is seen, as moves of an initiator's parts.
use Rattle.std.proofs.Common.{arith, refl, ℕ, ◌+◌, ◌&&◌, nat_lt, Bool, true, false, cond, List, [], ◌∷◌, replicate, Option, Some, None, Result, Ok, Err}
use Rattle.byteorder.specs.Endian.{big_bytes}
use Rattle.async_packet.specs.Labels.{LabelParts}
use Rattle.async_packet.specs.Packet.{Packet, header_in, write_quadlet, write_block, write_response, read_quadlet, read_block, read_quadlet_response, read_block_response, lock, lock_response}
use Rattle.label_table.specs.declared.reply.Stale.{Stale}
use Rattle.label_table.specs.Layer.{Layer, Finding, of_generation, of_grammar, of_label, of_response, of_again, of_request, answering_step, expiring_step, judging_step, seeing_step}
use Rattle.bus_memory.specs.Access.{read_step}
use Rattle.media_bay.specs.Unsolicited.{is_block}
use Rattle.orb_layout.specs.declared.fault.OrbFault.{OrbFault}
use Rattle.orb_layout.specs.declared.status.StatusBlock.{StatusBlock}
use Rattle.orb_layout.specs.declared.status.StatusKind.{StatusKind}
use Rattle.orb_layout.specs.declared.status.StatusKind.TheVariants as kinds
use Rattle.orb_list.specs.Runs as slot_runs
use Rattle.orb_list.specs.Tickets.{TicketParts}
use Rattle.sbp_journal.specs.declared.cause.Cause.TheVariants as causes
use Rattle.sbp_journal.specs.declared.note.Note.TheVariants as notes
use Rattle.sbp_journal.specs.declared.operation.Operation.{Operation}
use Rattle.sbp_journal.specs.declared.operation.Operation.TheVariants as operations
use Rattle.sbp_journal.specs.declared.operation.OpWord.TheVariants as words
use Rattle.sbp_journal.specs.Outgoings.{OutboxState}
use Rattle.initiator_base.specs.declared.fifos.Fifo.{Fifo}
use Rattle.initiator_base.specs.declared.fifos.Fifo.TheVariants as fifos
use Rattle.sbp_initiator.specs.declared.purpose.Purpose.{Purpose}
use Rattle.sbp_initiator.specs.declared.purpose.Ending.TheVariants as endings
use Rattle.sbp_initiator.specs.declared.purpose.Running.{Running}
use Rattle.sbp_initiator.specs.declared.state.InitiatorState.{InitiatorState}
use Rattle.orb_list.specs.Lists.{ListState, free_lists, take_lists, write_lists}
use Rattle.sbp_initiator.specs.States.{ending_of, no_marks, status_in}
use Rattle.sbp_initiator.specs.Effects.{Turn, told, with_dead, drop_list_step, managed_step}
use Rattle.initiator_base.specs.Fifos.{is_dead_kind}
use Rattle.sbp_initiator.specs.Receiving.{called, type_error, address_error, data_error, responded_as, respond_step, ignored_step, got_step, answer_of, taken_by, taken_as, managed_for, present_for, block_by, block_step, status_step, read_as, written_as, serve_step, is_foreign, block_at, quadlet_at, fifo_of, addressed, received, receive_step, expired_as, expire_step}
use Rattle.sbp_initiator.specs.Seeing.{reset_told, states_end, all_end, resets_told, interrupted, freed_step, reset_step, seen_as, see_step}
use Rattle.sbp_initiator.specs.Histories.Moves.{Stage, stage, staged, answered_with, by_call, Moves, tells, resets, relists, marks_as, works_at, reads_on, turns_to, counts_up, judges, answers, expires, sees, go_on}
use Rattle.sbp_initiator.proofs.Histories.Moved.{pick_state, pick_outbox, drop_moves, managed_moves, ended_for_moves}

module _ (b : Bool) (z : Stage) where
  called_moves : (o : OutboxState) (s : InitiatorState) → Moves b z (stage [] o s) → Moves b z (stage [] o (called s))
  called_moves o s m =
      go_on z _ _ m
      (counts_up (stage [] o s) (record s.counts { calls = s.counts.calls + 1 }) (record { managed = omega arith; logins = omega arith; running = omega arith; calls = omega arith; acts = omega arith }))

  responded : (p : Packet) (r : List ℕ × Layer Purpose) (o : OutboxState) (s : InitiatorState) → Moves b z (answered_with p (stage [] o s) r) → Moves b z (staged [] (responded_as r (header_in p).source o s))
  responded p (response, layer) o s m = m

  respond_moves : (p : Packet) (bytes : List ℕ) (rcode : ℕ) (given : List ℕ) (t : Turn) → Moves b z (staged [] t) → Moves b z (staged [] (respond_step p bytes rcode given t))
  respond_moves p bytes rcode given t m =
      responded p (answering_step t.1.layer p bytes rcode given) t.0 t.1 (go_on z _ _ m (answers t.0 t.1 p bytes rcode given))

  taken_moves : (t : TicketParts) (l : ListState) (kind : StatusKind) (o : OutboxState) (s : InitiatorState) → Moves b z (stage [] o (record s { lists = l })) → Moves b z (staged [] (taken_by t l kind o s))
  taken_moves t l kind o s m =
      let n = notes.Taken s.number t.list t.number kind (answer_of kind l t.slot) in
      let u = record s { lists = l } in
      let k = go_on z _ _ m (tells (stage [] o u) n) in
      pick_state b z [] (is_dead_kind kind) (told o n) (with_dead u) u (go_on z _ _ k (marks_as (stage [] (told o n) u) (record u.marks { is_dead = true }))) k

  takes : (t : Option TicketParts) (l : ListState) (kind : StatusKind) (p : Packet) (bytes : List ℕ) (o : OutboxState) (s : InitiatorState) → Moves b z (stage [] o (record s { lists = l })) → Moves b z (staged [] (taken_as (t, l) kind p bytes o s).1)
  takes None l kind p bytes o s m = respond_moves p bytes 0 [] (o, record s { lists = l }) m
  takes (Some t) l kind p bytes o s m =
      respond_moves p bytes 0 [] (taken_by t l kind o (called s)) (taken_moves t l kind o (called s) (called_moves o (record s { lists = l }) m))

  manages : (r : Option Running) (status : ℕ) (p : Packet) (bytes : List ℕ) (o : OutboxState) (s : InitiatorState) → Moves b z (stage [] o s) → Moves b z (staged [] (managed_for r status p bytes o s).1)
  manages None status p bytes o s m = respond_moves p bytes 0 [] (o, s) m
  manages (Some r) status p bytes o s m =
      respond_moves p bytes 0 [] (managed_step r status o (called s)) (managed_moves b z [] r status o (called s) (called_moves o s m))

  take_moves : (kind : StatusKind) (block : StatusBlock) (p : Packet) (bytes : List ℕ) (o : OutboxState) (s : InitiatorState) → Moves b z (stage [] o s) → Moves b z (staged [] (taken_as (take_lists s.lists block) kind p bytes o s).1)
  unfolding take_lists
  take_moves kind block p bytes o s m =
      takes (take_lists s.lists block).0 (take_lists s.lists block).1 kind p bytes o s (go_on z _ _ m (relists (stage [] o s) (by_call (slot_runs.TakeStatus block)) tt))

  kinds_moves : (kind : StatusKind) (block : StatusBlock) (p : Packet) (bytes : List ℕ) (o : OutboxState) (s : InitiatorState) → Moves b z (stage [] o s) → Moves b z (staged [] (block_by kind block p bytes o s).1)
  kinds_moves (kinds.Management status) block p bytes o s m = manages (present_for block.orb s.operation) status p bytes o s m
  kinds_moves kinds.Good block p bytes o s m = take_moves kinds.Good block p bytes o s m
  kinds_moves (kinds.Check sense) block p bytes o s m = take_moves (kinds.Check sense) block p bytes o s m
  kinds_moves kinds.Dummy block p bytes o s m = take_moves kinds.Dummy block p bytes o s m
  kinds_moves kinds.Aborted block p bytes o s m = take_moves kinds.Aborted block p bytes o s m
  kinds_moves (kinds.Illegal meaning) block p bytes o s m = take_moves (kinds.Illegal meaning) block p bytes o s m
  kinds_moves kinds.Failed block p bytes o s m = take_moves kinds.Failed block p bytes o s m

  block_moves : (r : Result StatusBlock OrbFault) (p : Packet) (bytes : List ℕ) (o : OutboxState) (s : InitiatorState) → Moves b z (stage [] o s) → Moves b z (staged [] (block_step r p bytes o s).1)
  block_moves (Err fault) p bytes o s m = respond_moves p bytes data_error [] (o, s) m
  block_moves (Ok block) p bytes o s m = kinds_moves block.kind block p bytes o s m

  when_block : (c : Bool) (r : Result StatusBlock OrbFault) (p : Packet) (bytes : List ℕ) (o : OutboxState) (s : InitiatorState) → Moves b z (stage [] o s) → Moves b z (staged [] (cond c (got_step p bytes (told o (notes.Told s.number), called s)) (block_step r p bytes o s)).1)
  when_block true r p bytes o s m =
      respond_moves p bytes 0 [] (told o (notes.Told s.number), called s)
      (called_moves (told o (notes.Told s.number)) s (go_on z _ _ m (tells (stage [] o s) (notes.Told s.number))))
  when_block false r p bytes o s m = block_moves r p bytes o s m

  status_moves : (is_login : Bool) (payload : List ℕ) (p : Packet) (bytes : List ℕ) (o : OutboxState) (s : InitiatorState) → Moves b z (stage [] o s) → Moves b z (staged [] (status_step is_login payload p bytes o s).1)
  status_moves is_login payload p bytes o s m = when_block (is_login && is_block payload) (status_in payload) p bytes o s m

  reads : (r : ℕ × List ℕ) (p : Packet) (bytes : List ℕ) (o : OutboxState) (s : InitiatorState) → Moves b z (stage [] o s) → Moves b z (staged [] (read_as r p bytes o s).1)
  reads (rcode, out) p bytes o s m = respond_moves p bytes rcode out (o, called s) (called_moves o s m)

  write_moves : (offset : ℕ) (payload : List ℕ) (p : Packet) (bytes : List ℕ) (o : OutboxState) (s : InitiatorState) → Moves b z (stage [] o s) → Moves b z (staged [] (written_as (write_lists s.lists offset payload) p bytes o s).1)
  unfolding write_lists
  write_moves offset payload p bytes o s m =
      let l = (write_lists s.lists offset payload).1 in
      respond_moves p bytes (write_lists s.lists offset payload).0 [] (o, record (called s) { lists = l })
      (called_moves o (record s { lists = l }) (go_on z _ _ m (relists (stage [] o s) (by_call (slot_runs.TryWrite offset payload)) tt)))

  serve_moves : (p : Packet) (bytes : List ℕ) (o : OutboxState) (s : InitiatorState) → Moves b z (stage [] o s) → Moves b z (staged [] (serve_step p bytes o s).1)
  serve_moves (read_quadlet header offset) bytes o s m = reads (read_step s.lists.memory offset (replicate 4 0)) (read_quadlet header offset) bytes o s m
  serve_moves (read_block header offset asked) bytes o s m = reads (read_step s.lists.memory offset (replicate asked 0)) (read_block header offset asked) bytes o s m
  serve_moves (write_quadlet header offset value) bytes o s m = write_moves offset (big_bytes 4 value) (write_quadlet header offset value) bytes o s m
  serve_moves (write_block header offset payload) bytes o s m = write_moves offset payload (write_block header offset payload) bytes o s m
  serve_moves (write_response header rcode) bytes o s m = respond_moves (write_response header rcode) bytes type_error [] (o, called s) (called_moves o s m)
  serve_moves (read_quadlet_response header rcode value) bytes o s m = respond_moves (read_quadlet_response header rcode value) bytes type_error [] (o, called s) (called_moves o s m)
  serve_moves (read_block_response header rcode payload) bytes o s m = respond_moves (read_block_response header rcode payload) bytes type_error [] (o, called s) (called_moves o s m)
  serve_moves (lock header offset extended payload) bytes o s m = respond_moves (lock header offset extended payload) bytes type_error [] (o, called s) (called_moves o s m)
  serve_moves (lock_response header rcode extended payload) bytes o s m = respond_moves (lock_response header rcode extended payload) bytes type_error [] (o, called s) (called_moves o s m)

  block_at_moves : (f : Option Fifo) (payload : List ℕ) (p : Packet) (bytes : List ℕ) (o : OutboxState) (s : InitiatorState) → Moves b z (stage [] o s) → Moves b z (staged [] (block_at f payload p bytes o s).1)
  block_at_moves None payload p bytes o s m = serve_moves p bytes o s m
  block_at_moves (Some fifos.Closed) payload p bytes o s m = respond_moves p bytes address_error [] (o, s) m
  block_at_moves (Some fifos.Login) payload p bytes o s m = status_moves true payload p bytes o s m
  block_at_moves (Some fifos.Place) payload p bytes o s m = status_moves false payload p bytes o s m

  quadlet_at_moves : (f : Option Fifo) (p : Packet) (bytes : List ℕ) (o : OutboxState) (s : InitiatorState) → Moves b z (stage [] o s) → Moves b z (staged [] (quadlet_at f p bytes o s).1)
  quadlet_at_moves None p bytes o s m = serve_moves p bytes o s m
  quadlet_at_moves (Some fifos.Closed) p bytes o s m = respond_moves p bytes address_error [] (o, s) m
  quadlet_at_moves (Some fifos.Login) p bytes o s m = serve_moves p bytes o s m
  quadlet_at_moves (Some fifos.Place) p bytes o s m = serve_moves p bytes o s m

  addressed_moves : (p : Packet) (bytes : List ℕ) (o : OutboxState) (s : InitiatorState) → Moves b z (stage [] o s) → Moves b z (staged [] (addressed p bytes o s).1)
  addressed_moves (write_block header offset payload) bytes o s m = block_at_moves (fifo_of s offset) payload (write_block header offset payload) bytes o s m
  addressed_moves (write_quadlet header offset value) bytes o s m = quadlet_at_moves (fifo_of s offset) (write_quadlet header offset value) bytes o s m
  addressed_moves (read_quadlet header offset) bytes o s m = serve_moves (read_quadlet header offset) bytes o s m
  addressed_moves (read_block header offset asked) bytes o s m = serve_moves (read_block header offset asked) bytes o s m
  addressed_moves (write_response header rcode) bytes o s m = serve_moves (write_response header rcode) bytes o s m
  addressed_moves (read_quadlet_response header rcode value) bytes o s m = serve_moves (read_quadlet_response header rcode value) bytes o s m
  addressed_moves (read_block_response header rcode payload) bytes o s m = serve_moves (read_block_response header rcode payload) bytes o s m
  addressed_moves (lock header offset extended payload) bytes o s m = serve_moves (lock header offset extended payload) bytes o s m
  addressed_moves (lock_response header rcode extended payload) bytes o s m = serve_moves (lock_response header rcode extended payload) bytes o s m

  foreign_moves : (c : Bool) (p : Packet) (bytes : List ℕ) (o : OutboxState) (s : InitiatorState) → Moves b z (stage [] o s) → Moves b z (staged [] (cond c (ignored_step causes.Source address_error p bytes (o, s)) (addressed p bytes o s)).1)
  foreign_moves true p bytes o s m = respond_moves p bytes address_error [] (o, s) m
  foreign_moves false p bytes o s m = addressed_moves p bytes o s m

  received_moves : (f : Finding Purpose) (l : Layer Purpose) (bytes : List ℕ) (o : OutboxState) (s : InitiatorState) → Moves b z (stage [] o (record s { layer = l })) → Moves b z (staged [] (received (f, l) bytes o s).1)
  received_moves of_generation l bytes o s m = m
  received_moves of_grammar l bytes o s m = m
  received_moves of_label l bytes o s m = m
  received_moves (of_response p label purpose) l bytes o s m =
      ended_for_moves b z purpose (ending_of p) o (called (record s { layer = l })) (called_moves o (record s { layer = l }) m)
  received_moves (of_again p rcode) l bytes o s m = respond_moves p bytes rcode [] (o, record s { layer = l }) m
  received_moves (of_request p) l bytes o s m = foreign_moves (is_foreign p (record s { layer = l })) p bytes o (record s { layer = l }) m

  pub receive_moves : (generation : ℕ) (bytes : List ℕ) (o : OutboxState) (s : InitiatorState) → Moves b z (stage [] o s) → Moves b z (staged [] (receive_step generation bytes o s).1)
  unfolding receive_step
  receive_moves generation bytes o s m =
      received_moves (judging_step s.layer generation bytes).0 (judging_step s.layer generation bytes).1 bytes o s (go_on z _ _ m (judges (stage [] o s) generation bytes))

  expired_moves : (r : Result (Option Purpose) Stale) (l : Layer Purpose) (o : OutboxState) (s : InitiatorState) → Moves b z (stage [] o (record s { layer = l })) → Moves b z (staged [] (expired_as (r, l) o s).1)
  expired_moves (Err stale) l o s m = m
  expired_moves (Ok purpose) l o s m =
      ended_for_moves b z purpose endings.Expired o (called (record s { layer = l })) (called_moves o (record s { layer = l }) m)

  pub expire_moves : (label : LabelParts) (o : OutboxState) (s : InitiatorState) → Moves b z (stage [] o s) → Moves b z (staged [] (expire_step label o s).1)
  unfolding expire_step
  expire_moves label o s m =
      expired_moves (expiring_step s.layer s.target label).0 (expiring_step s.layer s.target label).1 o s (go_on z _ _ m (expires (stage [] o s) s.target label))

  reset_tells : (number : ℕ) (operation : Operation) (o : OutboxState) (s : InitiatorState) → Moves b z (stage [] o s) → Moves b z (stage [] (reset_told number operation o) s)
  reset_tells number operation o s m = go_on z _ _ m (tells (stage [] o s) (notes.Op number operation words.Reset))

  states_moves : (number : ℕ) (acts : List ℕ) (o : OutboxState) (s : InitiatorState) → Moves b z (stage [] o s) → Moves b z (stage [] (states_end number acts o) s)
  states_moves number [] o s m = m
  states_moves number (act ∷ acts) o s m =
      states_moves number acts (reset_told number operations.State o) s (reset_tells number operations.State o s m)

  all_moves : (number : ℕ) (r : Running) (acts : List ℕ) (o : OutboxState) (s : InitiatorState) → Moves b z (stage [] o s) → Moves b z (stage [] (all_end number r acts o) s)
  all_moves number r [] o s m = reset_tells number r.operation o s m
  all_moves number r (act ∷ acts) o s m =
      pick_outbox b z [] (nat_lt r.act act) _ _ s
      (states_moves number (act ∷ acts) (reset_told number r.operation o) s (reset_tells number r.operation o s m))
      (all_moves number r acts (reset_told number operations.State o) s (reset_tells number operations.State o s m))

  resets_moves : (r : Option Running) (number : ℕ) (acts : List ℕ) (o : OutboxState) (s : InitiatorState) → Moves b z (stage [] o s) → Moves b z (stage [] (resets_told number r acts o) s)
  resets_moves None number acts o s m = states_moves number acts o s m
  resets_moves (Some r) number acts o s m = all_moves number r acts o s m

  freed_moves : (t : Turn) → Moves b z (staged [] t) → Moves b z (staged [] (freed_step t))
  unfolding free_lists
  freed_moves t m =
      let u = record t.1 { lists = free_lists t.1.lists } in
      go_on z _ _ (go_on z _ _ m (relists (staged [] t) (by_call slot_runs.FreeAll) tt)) (marks_as (stage [] t.0 u) no_marks)

module _ (z : Stage) where
  interrupted_moves : (o : OutboxState) (s : InitiatorState) (target : ℕ) → Moves true z (stage [] o s) → Moves true z (stage [] o (interrupted s target))
  interrupted_moves o s target m =
      let c = called s in
      let t = record c { target = target } in
      let w = record t { operation = None } in
      let r = record w { states = [] } in
      go_on z _ _ (go_on z _ _ (go_on z _ _ (go_on z _ _ (called_moves true z o s m) (turns_to (stage [] o c) target)) (works_at (stage [] o t) None)) (reads_on (stage [] o w) [])) (resets (stage [] o r) refl)

  reset_moves : (target : ℕ) (o : OutboxState) (s : InitiatorState) → Moves true z (stage [] o s) → Moves true z (staged [] (reset_step target o s))
  reset_moves target o s m =
      let p = resets_told s.number s.operation s.states o in
      let t = interrupted s target in
      freed_moves true z (drop_list_step p t)
      (drop_moves true z [] p t (interrupted_moves p s target (resets_moves true z s.operation s.number s.states o s m)))

  seen_moves : (seen : Bool) (l : Layer Purpose) (target : ℕ) (o : OutboxState) (s : InitiatorState) → Moves true z (stage [] o (record s { layer = l })) → Moves true z (staged [] (seen_as (seen, l) target o s))
  seen_moves false l target o s m = m
  seen_moves true l target o s m = reset_moves target o (record s { layer = l }) m

  pub see_moves : (generation id target : ℕ) (o : OutboxState) (s : InitiatorState) → Moves true z (stage [] o s) → Moves true z (staged [] (see_step generation id target o s))
  unfolding see_step
  see_moves generation id target o s m =
      seen_moves (seeing_step s.layer generation id).0 (seeing_step s.layer generation id).1 target o s (go_on z _ _ m (sees (stage [] o s) generation id))
