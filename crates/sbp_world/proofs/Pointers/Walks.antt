-- What a delivery and a time-out make of an initiator, by a property of what was told, of its session and of its lists: one that those moves of the session keep
-- that end no operation of management with a status, all steps of lists but those that prepare an ORB, and every note; and where a list is dropped, none is
-- left. The end of an operation of management by a status block is asked for apart.
use Rattle.sbp_world.proofs.Words.Std.{◌≡◌, refl, ap, ℕ, ◌==◌, ◌&&◌, nat_eq, Bool, true, false, cond, List, [], ◌∷◌, ◌++◌, replicate, Option, Some, None, Result, Ok, Err, big_bytes}
use Rattle.sbp_world.proofs.Words.Wire.{LabelParts, Packet, header_in, lock, lock_response, read_block, read_block_response, read_quadlet, read_quadlet_response, write_block, write_quadlet, write_response, Asked, Stale, Finding, Layer, answering_step, asking_step, expiring_step, judging_step, of_again, of_generation, of_grammar, of_label, of_request, of_response, Judged, Note, Operation, OpWord, Side, OutboxState, empty_outbox}
use Rattle.sbp_world.proofs.Words.Target.{RomFault, SbpUnit, Tree, reading, sbp_unit_of, is_block}
use Rattle.sbp_world.proofs.Words.Initiator.{read_step, OrbFault, StatusBlock, StatusKind, PresentList, ListState, drop_lists, take_lists, unpin_lists, write_lists, drop_for, drop_step, TicketParts, Fifo, is_dead_kind, with_quad, Ending, Purpose, Running, InitiatorState, Turn, ask_quad, asked_quad, conflict_for, conflict_step, doorbell_ended, drop_list_step, dropped_as, enable_ended, end_own_for, end_own_step, end_step, ended_for, ended_step, fail_step, fault_number, finish_rom, is_address, is_conflict, known_where, managed_step, management_ended, moved, moves_session, next_quad, pointer_ended, quad_got, reset_ended, rom_ended, state_ended, stick_step, told, with_answered, with_dead, with_rom, with_unit, addressed, answer_of, block_at, block_by, block_step, called, expire_step, expired_as, fifo_of, got_step, ignored_step, is_foreign, managed_for, present_for, quadlet_at, read_as, receive_step, received, request_step, respond_step, responded_as, serve_step, status_step, taken_as, taken_by, written_as, counts_for, ending_of, is_list, is_present_orb, status_in, Seat, Event, bad, conflict, entered, failed, goes, good, pointed, reset, is_stuck_seat}
use Rattle.orb_layout.specs.declared.status.StatusKind.TheVariants as kinds
use Rattle.sbp_journal.specs.declared.cause.Cause.TheVariants as ignored
use Rattle.sbp_journal.specs.declared.note.Note.TheVariants as notes
use Rattle.sbp_journal.specs.declared.operation.Operation.TheVariants as operations
use Rattle.sbp_journal.specs.declared.operation.OpWord.TheVariants as words
use Rattle.sbp_journal.specs.declared.side.Side.TheVariants as sides
use Rattle.initiator_base.specs.declared.fifos.Fifo.TheVariants as fifos
use Rattle.sbp_initiator.proofs.Histories.Effects.{unpin_present}
use Rattle.sbp_initiator.specs.declared.purpose.Ending.TheVariants as endings
use Rattle.sbp_initiator.specs.declared.purpose.Purpose.TheVariants as purposes
use Rattle.sbp_world.proofs.Pointers.PendHears.{SameList, take_list, write_list}

-- the moves that end no operation by a status, and see no reset
abbrev pub is_kept : Event → Bool
is_kept (entered response) = false
is_kept good = false
is_kept bad = false
is_kept reset = false
is_kept _ = true

abbrev pub is_drop_note : Note → Bool
is_drop_note (notes.Drop j n) = true
is_drop_note _ = false

under_way_by : (operation : Option Running) (running : Running) (b : Bool) → cond b operation None ≡ Some running → operation ≡ Some running
under_way_by operation running true e = e
under_way_by operation running false e = absurd (let differ : None ≡ Some running = e in cc)

pub present_is : (orb : ℕ) (operation : Option Running) (running : Running) → present_for orb operation ≡ Some running → operation ≡ Some running
present_is orb operation running e = under_way_by operation running (is_present_orb orb operation) e

pub unpin_same : (lists : ListState) → SameList lists (unpin_lists lists)
unpin_same lists n = ap (λ (p : Option PresentList). is_list p n) (unpin_present lists)

module _ (W : List Side → Seat → ListState → Type 0) (plain : (event : Event) (before : List Side) (seat : Seat) (lists : ListState) → is_kept event ≡ true → W before seat lists → W before (goes event seat) lists) (relist : (before : List Side) (seat : Seat) (old new : ListState) → SameList old new → W before seat old → W before seat new) (tells : (note : Note) (before : List Side) (seat : Seat) (lists : ListState) → is_drop_note note ≡ false → W before seat lists → W (before ++ sides.Own note ∷ []) seat lists) (gone : (number n : ℕ) (before : List Side) (seat : Seat) (old new : ListState) → new.slots.present ≡ None → W before seat old → W (before ++ sides.Own (notes.Drop number n) ∷ []) seat new) where
  abbrev pub At : Turn → Type 0
  At t = W t.0.sides t.1.seat t.1.lists

  abbrev Here : OutboxState → InitiatorState → Type 0
  Here o s = W o.sides s.seat s.lists

  pick : (b : Bool) (x y : Turn) → At x → At y → At (cond b x y)
  pick true x y h i = h
  pick false x y h i = i

  pick_state : (b : Bool) (o : OutboxState) (x y : InitiatorState) → Here o x → Here o y → Here o (cond b x y)
  pick_state true o x y h i = h
  pick_state false o x y h i = i

  -- ---- the end of a transaction

  sticks_by : (b : Bool) (o : OutboxState) (s : InitiatorState) → Here o s → Here (cond b o (told o (notes.Stuck s.number))) s
  sticks_by true o s h = h
  sticks_by false o s h = tells (notes.Stuck s.number) o.sides s.seat s.lists refl h

  sticks : (o : OutboxState) (s : InitiatorState) → Here o s → At (stick_step o s)
  sticks o s h = plain failed (cond (is_stuck_seat s.seat) o (told o (notes.Stuck s.number))).sides s.seat s.lists refl (sticks_by (is_stuck_seat s.seat) o s h)

  drops_for : (present : Option PresentList) (o : OutboxState) (s : InitiatorState) → s.lists.slots.present ≡ present → Here o s → At (dropped_as ((drop_for present s.lists.slots).0, record s.lists { slots = (drop_for present s.lists.slots).1 }) o s)
  drops_for None o s e h = h
  drops_for (Some list) o s e h = gone s.number list.tail.list o.sides s.seat s.lists (record s.lists { slots = (drop_for (Some list) s.lists.slots).1 }) refl h

  pub drops : (o : OutboxState) (s : InitiatorState) → Here o s → At (drop_list_step o s)
  unfolding drop_lists drop_step
  drops o s h = drops_for s.lists.slots.present o s refl h

  pub ends : (operation : Operation) (word : OpWord) (o : OutboxState) (s : InitiatorState) → Here o s → At (end_step operation word o s)
  ends operation word o s h =
      let note = notes.Op s.number operation word in
      relist (told o note).sides s.seat s.lists (unpin_lists s.lists) (unpin_same s.lists) (tells note o.sides s.seat s.lists refl h)

  owns_for : (running : Option Running) (act : ℕ) (word : OpWord) (o : OutboxState) (s : InitiatorState) → Here o s → At (end_own_for running act word o s)
  owns_for None act word o s h = h
  owns_for (Some running) act word o s h = pick (running.act == act) (end_step running.operation word o s) (o, s) (ends running.operation word o s h) h

  owns : (act : ℕ) (word : OpWord) (o : OutboxState) (s : InitiatorState) → Here o s → At (end_own_step act word o s)
  owns act word o s h = owns_for s.operation act word o s h

  fails : (act : ℕ) (o : OutboxState) (s : InitiatorState) → Here o s → At (fail_step act o s)
  fails act o s h =
      let t = end_own_step act words.Error o s in sticks t.0 t.1 (owns act words.Error o s h)

  pointer_sits : (list : ℕ) (ending : Ending) (o : OutboxState) (s : InitiatorState) → Here o s → At (pointer_ended list ending o s)
  pointer_sits list (endings.Complete value) o s h =
      let t = record s { seat = goes pointed s.seat } in
      let p = plain pointed o.sides s.seat s.lists refl h in
      pick_state (is_list s.lists.slots.present list) o (with_answered t) t p p
  pointer_sits list (endings.Refused rcode) o s h = sticks o s h
  pointer_sits list endings.Expired o s h = sticks o s h

  doorbell_sits : (ending : Ending) (o : OutboxState) (s : InitiatorState) → Here o s → At (doorbell_ended ending o s)
  doorbell_sits (endings.Complete value) o s h = h
  doorbell_sits (endings.Refused rcode) o s h = sticks o s h
  doorbell_sits endings.Expired o s h = sticks o s h

  reset_sits : (act : ℕ) (ending : Ending) (o : OutboxState) (s : InitiatorState) → Here o s → At (reset_ended act ending o s)
  reset_sits act (endings.Complete value) o s h =
      let t = drop_list_step o s in owns act words.Done t.0 t.1 (drops o s h)
  reset_sits act (endings.Refused rcode) o s h = fails act o s h
  reset_sits act endings.Expired o s h = fails act o s h

  enable_sits : (act : ℕ) (ending : Ending) (o : OutboxState) (s : InitiatorState) → Here o s → At (enable_ended act ending o s)
  enable_sits act (endings.Complete value) o s h = owns act words.Done o s h
  enable_sits act (endings.Refused rcode) o s h = fails act o s h
  enable_sits act endings.Expired o s h = fails act o s h

  -- ---- the answer to a write of MANAGEMENT_AGENT

  moves : (operation : Operation) (event : Event) (o : OutboxState) (s : InitiatorState) → W o.sides (goes event s.seat) s.lists → Here o s → Here o (moved operation event s)
  moves operation event o s p h = pick_state (moves_session operation) o (record s { seat = goes event s.seat }) s p h

  conflicts_for : (running : Option Running) (act : ℕ) (o : OutboxState) (s : InitiatorState) → Here o s → At (conflict_for running act o s)
  conflicts_for None act o s h = h
  conflicts_for (Some running) act o s h =
      let t = moved running.operation conflict s in
      pick (running.act == act) (end_step running.operation words.Conflict o t) (o, s) (ends running.operation words.Conflict o t (moves running.operation conflict o s (plain conflict o.sides s.seat s.lists refl h) h)) h

  management_sits : (act : ℕ) (ending : Ending) (o : OutboxState) (s : InitiatorState) → Here o s → At (management_ended act ending o s)
  management_sits act (endings.Complete value) o s h = h
  management_sits act (endings.Refused rcode) o s h =
      pick (is_conflict rcode) (conflict_step act o s) (fail_step act o s) (conflicts_for s.operation act o s h) (fails act o s h)
  management_sits act endings.Expired o s h = fails act o s h

  unit_sits : (unit : Option SbpUnit) (act : ℕ) (o : OutboxState) (s : InitiatorState) → Here o s → At (with_unit unit act o s)
  unit_sits None act o s h = owns act words.NoUnit o s h
  unit_sits (Some unit) act o s h = owns_for s.operation act words.Done o _ h

  rom_sits : (r : Result Tree RomFault) (act : ℕ) (o : OutboxState) (s : InitiatorState) → Here o s → At (with_rom r act o s)
  rom_sits (Ok tree) act o s h = unit_sits (sbp_unit_of tree.blocks tree.entries) act o s h
  rom_sits (Err fault) act o s h = owns act (words.Bad (fault_number fault)) o s h

  finishes : (act : ℕ) (o : OutboxState) (s : InitiatorState) → Here o s → At (finish_rom act o s)
  finishes act o s h = rom_sits (reading s.quads) act o s h

  quad_asked : (r : Option Asked × Layer Purpose) (act : ℕ) (o : OutboxState) (s : InitiatorState) → Here o s → At (asked_quad r act o s)
  quad_asked (Some asked, layer) act o s h = h
  quad_asked (None, layer) act o s h = owns act words.Error o (record s { layer = layer }) h

  quad_sits : (act : ℕ) (o : OutboxState) (s : InitiatorState) → Here o s → At (quad_got act o s)
  quad_sits act o s h =
      pick (nat_eq _ 256) (finish_rom act o s) (ask_quad act o s) (finishes act o s h)
      (quad_asked (asking_step s.layer s.target (next_quad s.quads) (purposes.Rom act)) act o s h)

  rom_ends : (act : ℕ) (ending : Ending) (o : OutboxState) (s : InitiatorState) → Here o s → At (rom_ended act ending o s)
  rom_ends act (endings.Complete value) o s h = quad_sits act o (record s { quads = with_quad s.quads value }) h
  rom_ends act (endings.Refused rcode) o s h =
      pick (is_address rcode) (finish_rom act o s) (end_own_step act words.Error o s) (finishes act o s h) (owns act words.Error o s h)
  rom_ends act endings.Expired o s h = owns act words.Error o s h

  known : (b : Bool) (value : ℕ) (o : OutboxState) (s : InitiatorState) → Here o s → At (known_where b value o s)
  known true value o s h = pick (value == 0) (drop_list_step o s) (o, cond (value == 3) (with_dead s) s) (drops o s h) (pick_state (value == 3) o (with_dead s) s h h)
  known false value o s h = h

  state_ends : (act : ℕ) (list : Option ℕ) (ending : Ending) (o : OutboxState) (s : InitiatorState) → Here o s → At (state_ended act list ending o s)
  state_ends act list (endings.Complete value) o s h =
      let t = known_where (counts_for s.lists.slots.present list) value o s in
      tells (notes.Op t.1.number operations.State (words.State value)) t.0.sides t.1.seat t.1.lists refl (known (counts_for s.lists.slots.present list) value o s h)
  state_ends act list (endings.Refused rcode) o s h = tells (notes.Op s.number operations.State words.Error) o.sides s.seat s.lists refl h
  state_ends act list endings.Expired o s h = tells (notes.Op s.number operations.State words.Error) o.sides s.seat s.lists refl h

  ended_sits : (purpose : Purpose) (ending : Ending) (o : OutboxState) (s : InitiatorState) → Here o s → At (ended_step purpose ending o s)
  unfolding ended_step
  ended_sits (purposes.Pointer list) ending o s h = pointer_sits list ending o s h
  ended_sits purposes.Doorbell ending o s h = doorbell_sits ending o s h
  ended_sits (purposes.AgentReset act) ending o s h = reset_sits act ending o s h
  ended_sits (purposes.Enable act) ending o s h = enable_sits act ending o s h
  ended_sits (purposes.Management act) ending o s h = management_sits act ending o s h
  ended_sits (purposes.Rom act) ending o s h = rom_ends act ending o s h
  ended_sits (purposes.State act list) ending o s h = state_ends act list ending o s h

  ends_for : (purpose : Option Purpose) (ending : Ending) (o : OutboxState) (s : InitiatorState) → Here o s → At (ended_for purpose ending o s)
  ends_for None ending o s h = h
  ends_for (Some purpose) ending o s h = ended_sits purpose ending o s h

  -- ---- packets

  responds_as : (r : List ℕ × Layer Purpose) (source : ℕ) (o : OutboxState) (s : InitiatorState) → Here o s → At (responded_as r source o s)
  responds_as (response, layer) source o s h = h

  responds : (p : Packet) (bytes : List ℕ) (rcode : ℕ) (given : List ℕ) (t : Turn) → At t → At (respond_step p bytes rcode given t)
  responds p bytes rcode given t h = responds_as (answering_step t.1.layer p bytes rcode given) (header_in p).source t.0 t.1 h

  takes_as : (r : Option TicketParts × ListState) (kind : StatusKind) (p : Packet) (bytes : List ℕ) (o : OutboxState) (s : InitiatorState) → SameList s.lists r.1 → Here o s → At (taken_as r kind p bytes o s).1
  takes_as (None, lists) kind p bytes o s f h = responds p bytes 0 [] (o, record s { lists = lists }) (relist o.sides s.seat s.lists lists f h)
  takes_as (Some ticket, lists) kind p bytes o s f h =
      let u = record (called s) { lists = lists } in
      let note = notes.Taken s.number ticket.list ticket.number kind (answer_of kind lists ticket.slot) in
      let k = tells note o.sides s.seat lists refl (relist o.sides s.seat s.lists lists f h) in
      responds p bytes 0 [] (taken_by ticket lists kind o (called s)) (pick_state (is_dead_kind kind) (told o note) (with_dead u) u k k)

  pick_judged : (b : Bool) (x y : Judged × Turn) → At x.1 → At y.1 → At (cond b x y).1
  pick_judged true x y h i = h
  pick_judged false x y h i = i

  reads_as : (r : ℕ × List ℕ) (p : Packet) (bytes : List ℕ) (o : OutboxState) (s : InitiatorState) → Here o s → At (read_as r p bytes o s).1
  reads_as (rcode, out) p bytes o s h = responds p bytes rcode out (o, called s) h

  writes_as : (r : ℕ × ListState) (p : Packet) (bytes : List ℕ) (o : OutboxState) (s : InitiatorState) → SameList s.lists r.1 → Here o s → At (written_as r p bytes o s).1
  writes_as (rcode, lists) p bytes o s f h = responds p bytes rcode [] (o, record (called s) { lists = lists }) (relist o.sides s.seat s.lists lists f h)

  serves : (p : Packet) (bytes : List ℕ) (o : OutboxState) (s : InitiatorState) → Here o s → At (serve_step p bytes o s).1
  serves (read_quadlet header offset) bytes o s h = reads_as (read_step s.lists.memory offset (replicate 4 0)) (read_quadlet header offset) bytes o s h
  serves (read_block header offset asked) bytes o s h = reads_as (read_step s.lists.memory offset (replicate asked 0)) (read_block header offset asked) bytes o s h
  serves (write_quadlet header offset value) bytes o s h = writes_as (write_lists s.lists offset (big_bytes 4 value)) (write_quadlet header offset value) bytes o s (write_list s.lists offset (big_bytes 4 value)) h
  serves (write_block header offset payload) bytes o s h = writes_as (write_lists s.lists offset payload) (write_block header offset payload) bytes o s (write_list s.lists offset payload) h
  serves (write_response header rcode) bytes o s h = responds (write_response header rcode) bytes 6 [] (o, called s) h
  serves (read_quadlet_response header rcode value) bytes o s h = responds (read_quadlet_response header rcode value) bytes 6 [] (o, called s) h
  serves (read_block_response header rcode payload) bytes o s h = responds (read_block_response header rcode payload) bytes 6 [] (o, called s) h
  serves (lock header offset extended payload) bytes o s h = responds (lock header offset extended payload) bytes 6 [] (o, called s) h
  serves (lock_response header rcode extended payload) bytes o s h = responds (lock_response header rcode extended payload) bytes 6 [] (o, called s) h

  quadlets_at : (fifo : Option Fifo) (p : Packet) (bytes : List ℕ) (o : OutboxState) (s : InitiatorState) → Here o s → At (quadlet_at fifo p bytes o s).1
  quadlets_at None p bytes o s h = serves p bytes o s h
  quadlets_at (Some fifos.Closed) p bytes o s h = responds p bytes 7 [] (o, s) h
  quadlets_at (Some fifos.Login) p bytes o s h = serves p bytes o s h
  quadlets_at (Some fifos.Place) p bytes o s h = serves p bytes o s h

  -- ---- a delivery, where the end of an operation by a status block is known

  module _ (s : InitiatorState) (here : W [] s.seat s.lists) (manages : (running : Running) (status : ℕ) (u : InitiatorState) → s.operation ≡ Some running → u.seat ≡ s.seat → u.lists ≡ s.lists → u.operation ≡ s.operation → u.number ≡ s.number → At (managed_step running status empty_outbox u)) where
    module _ (layer : Layer Purpose) (bytes : List ℕ) where
      abbrev u : InitiatorState
      u = record s { layer = layer }

      managed : (x : Option Running) (status orb : ℕ) (p : Packet) → present_for orb s.operation ≡ x → At (managed_for x status p bytes empty_outbox u).1
      managed None status orb p e = responds p bytes 0 [] (empty_outbox, u) here
      managed (Some running) status orb p e = responds p bytes 0 [] (managed_step running status empty_outbox (called u)) (manages running status (called u) (present_is orb s.operation running e) refl refl refl refl)

      kinds_by : (kind : StatusKind) (block : StatusBlock) (p : Packet) → At (block_by kind block p bytes empty_outbox u).1
      kinds_by (kinds.Management status) block p = managed (present_for block.orb s.operation) status block.orb p refl
      kinds_by kinds.Good block p = takes_as (take_lists u.lists block) kinds.Good p bytes empty_outbox u (take_list u.lists block) here
      kinds_by (kinds.Check sense) block p = takes_as (take_lists u.lists block) (kinds.Check sense) p bytes empty_outbox u (take_list u.lists block) here
      kinds_by kinds.Dummy block p = takes_as (take_lists u.lists block) kinds.Dummy p bytes empty_outbox u (take_list u.lists block) here
      kinds_by kinds.Aborted block p = takes_as (take_lists u.lists block) kinds.Aborted p bytes empty_outbox u (take_list u.lists block) here
      kinds_by (kinds.Illegal meaning) block p = takes_as (take_lists u.lists block) (kinds.Illegal meaning) p bytes empty_outbox u (take_list u.lists block) here
      kinds_by kinds.Failed block p = takes_as (take_lists u.lists block) kinds.Failed p bytes empty_outbox u (take_list u.lists block) here

      blocks : (r : Result StatusBlock OrbFault) (p : Packet) → At (block_step r p bytes empty_outbox u).1
      blocks (Err fault) p = responds p bytes 5 [] (empty_outbox, u) here
      blocks (Ok block) p = kinds_by block.kind block p

      statuses : (is_login : Bool) (payload : List ℕ) (p : Packet) → At (status_step is_login payload p bytes empty_outbox u).1
      statuses is_login payload p =
          pick_judged (is_login && is_block payload) (got_step p bytes (told empty_outbox (notes.Told s.number), called u)) (block_step (status_in payload) p bytes empty_outbox u)
          (responds p bytes 0 [] (told empty_outbox (notes.Told s.number), called u) (tells (notes.Told s.number) [] s.seat s.lists refl here)) (blocks (status_in payload) p)

      fifos_by : (fifo : Option Fifo) (payload : List ℕ) (p : Packet) → At (block_at fifo payload p bytes empty_outbox u).1
      fifos_by None payload p = serves p bytes empty_outbox u here
      fifos_by (Some fifos.Closed) payload p = responds p bytes 7 [] (empty_outbox, u) here
      fifos_by (Some fifos.Login) payload p = statuses true payload p
      fifos_by (Some fifos.Place) payload p = statuses false payload p

      reaches : (p : Packet) → At (addressed p bytes empty_outbox u).1
      reaches (read_quadlet header offset) = serves (read_quadlet header offset) bytes empty_outbox u here
      reaches (read_block header offset asked) = serves (read_block header offset asked) bytes empty_outbox u here
      reaches (write_quadlet header offset value) = quadlets_at (fifo_of u offset) (write_quadlet header offset value) bytes empty_outbox u here
      reaches (write_block header offset payload) = fifos_by (fifo_of u offset) payload (write_block header offset payload)
      reaches (write_response header rcode) = serves (write_response header rcode) bytes empty_outbox u here
      reaches (read_quadlet_response header rcode value) = serves (read_quadlet_response header rcode value) bytes empty_outbox u here
      reaches (read_block_response header rcode payload) = serves (read_block_response header rcode payload) bytes empty_outbox u here
      reaches (lock header offset extended payload) = serves (lock header offset extended payload) bytes empty_outbox u here
      reaches (lock_response header rcode extended payload) = serves (lock_response header rcode extended payload) bytes empty_outbox u here

      requests : (p : Packet) → At (request_step p bytes empty_outbox u).1
      requests p = pick_judged (is_foreign p u) (ignored_step ignored.Source 7 p bytes (empty_outbox, u)) (addressed p bytes empty_outbox u) (responds p bytes 7 [] (empty_outbox, u) here) (reaches p)

    receives_as : (f : Finding Purpose) (layer : Layer Purpose) (bytes : List ℕ) → At (received (f, layer) bytes empty_outbox s).1
    receives_as of_generation layer bytes = here
    receives_as of_grammar layer bytes = here
    receives_as of_label layer bytes = here
    receives_as (of_response p label purpose) layer bytes = ends_for purpose (ending_of p) empty_outbox (called (record s { layer = layer })) here
    receives_as (of_again p rcode) layer bytes = responds p bytes rcode [] (empty_outbox, record s { layer = layer }) here
    receives_as (of_request p) layer bytes = requests layer bytes p

    pub receives : (generation : ℕ) (bytes : List ℕ) → At (receive_step generation bytes empty_outbox s).1
    unfolding receive_step
    receives generation bytes = receives_as (judging_step s.layer generation bytes).0 (judging_step s.layer generation bytes).1 bytes

  -- ---- a time-out

  expires_as : (r : Result (Option Purpose) Stale × Layer Purpose) (s : InitiatorState) → W [] s.seat s.lists → At (expired_as r empty_outbox s).1
  expires_as (Err stale, layer) s h = h
  expires_as (Ok purpose, layer) s h = ends_for purpose endings.Expired empty_outbox (called (record s { layer = layer })) h

  pub expires : (label : LabelParts) (s : InitiatorState) → W [] s.seat s.lists → At (expire_step label empty_outbox s).1
  unfolding expire_step
  expires label s h = expires_as (expiring_step s.layer s.target label) s h
