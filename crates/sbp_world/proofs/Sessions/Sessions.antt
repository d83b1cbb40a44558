-- What a call of an initiator makes of its session and its lists, read by a property of both: one that all moves of the session keep but the two that end a
-- login or a reconnect with status 00, and all steps of lists but those that prepare an ORB. These moves are made by a status block of the target alone
-- (NCITS 325-1998, login and reconnect).
use Rattle.sbp_world.proofs.Words.Std.{◌≡◌, refl, sym, subst, is_some, ℕ, ◌==◌, ◌&&◌, not, nat_eq, Bool, true, false, cond, List, [], replicate, Option, Some, None, Result, Ok, Err, big_bytes, nat_tests, arith, false≢true}
use Rattle.sbp_world.proofs.Words.Wire.{LabelParts, Packet, header_in, lock, lock_response, read_block, read_block_response, read_quadlet, read_quadlet_response, write_block, write_quadlet, write_response, Asked, Stale, Finding, Layer, answering_step, asking_step, expiring_step, judging_step, of_again, of_generation, of_grammar, of_label, of_request, of_response, seeing_step, Judged, Action, Cmd, Operation, OpWord, OutboxState}
use Rattle.sbp_world.proofs.Words.Target.{RomFault, SbpUnit, Tree, reading, sbp_unit_of, is_block}
use Rattle.sbp_world.proofs.Words.Initiator.{read_step, OrbFault, StatusBlock, StatusKind, PresentList, ManagementOrb, ListState, drop_lists, dummy_lists, free_lists, high_lists, low_lists, manage_lists, pin_lists, take_lists, unpin_lists, write_lists, find_in, TicketParts, Fifo, is_dead_kind, with_quad, Demand, Ending, Purpose, Running, InitiatorState, put_lists, act_step, append_step, asked_as, asked_for, demand_of, demanded_as, done_step, dummy_for, facts_with, judged_as, link_as, link_step, login_id, low_as, low_step, managed_by, orb_by, pinned_for, put_as, put_step, ring_for, with_running, Turn, ask_quad, asked_quad, conflict_for, conflict_step, doorbell_ended, drop_list_step, dropped_as, enable_ended, end_own_for, end_own_step, end_step, ended_for, ended_step, fail_step, fault_number, finish_rom, is_address, is_conflict, known_where, management_ended, moved, moves_session, next_quad, pointer_ended, quad_got, reset_ended, rom_ended, state_ended, stick_step, told, with_answered, with_dead, with_rom, with_unit, addressed, block_at, block_by, block_step, called, expire_step, expired_as, fifo_of, got_step, ignored_step, is_foreign, managed_for, present_for, quadlet_at, read_as, receive_step, received, request_step, respond_step, responded_as, serve_step, status_step, taken_as, taken_by, written_as, prepares, refusal, interrupted, resets_told, see_step, seen_as, counts_for, ending_of, is_list, is_unwritten, no_marks, status_in, Seat, Event, conflict, entered, failed, goes, good, pointed, pointing, reset, sent}
use Rattle.orb_layout.specs.declared.status.StatusKind.TheVariants as kinds
use Rattle.sbp_journal.specs.declared.cause.Cause.TheVariants as ignored
use Rattle.sbp_journal.specs.declared.event.Action.TheVariants as actions
use Rattle.sbp_journal.specs.declared.note.Note.TheVariants as notes
use Rattle.sbp_journal.specs.declared.operation.Operation.TheVariants as operations
use Rattle.sbp_journal.specs.declared.operation.OpWord.TheVariants as words
use Rattle.initiator_base.specs.declared.fifos.Fifo.TheVariants as fifos
use Rattle.sbp_initiator.specs.declared.purpose.Ending.TheVariants as endings
use Rattle.sbp_initiator.specs.declared.purpose.Purpose.TheVariants as purposes
use Rattle.sbp_world.proofs.Sessions.Presents.{Fewer, drop_fewer, dummy_fewer, free_none, high_fewer, low_fewer, manage_fewer, pin_fewer, take_fewer, unpin_fewer, write_fewer}

-- the moves that end no operation with status 00
abbrev pub is_plain : Event → Bool
is_plain (entered response) = false
is_plain good = false
is_plain _ = true

-- a list that is dropped leaves the session
pub drop_seat : (r : Option ℕ × ListState) (o : OutboxState) (s : InitiatorState) → (dropped_as r o s).1.seat ≡ s.seat
drop_seat (None, lists) o s = refl
drop_seat (Some n, lists) o s = refl

-- a request that is not foreign is of the target
pub own_write : (source target : ℕ) → not (source == target) ≡ false → source ≡ target
own_write source target e = by (nat_eq source target) refl e
  where
    by : (b : Bool) → nat_eq source target ≡ b → not b ≡ false → source ≡ target
    by true f g = grind (arith, nat_tests)
    by false f g = absurd (false≢true (sym g))

-- a property of a session, kept by those
module _ (Sit : Seat → ListState → Type 0) (plain : (event : Event) (seat : Seat) (lists : ListState) → is_plain event ≡ true → Sit seat lists → Sit (goes event seat) lists) (relist : (seat : Seat) (old new : ListState) → Fewer old new → Sit seat old → Sit seat new) where
  abbrev pub At : Turn → Type 0
  At t = Sit t.1.seat t.1.lists

  pick : (b : Bool) (x y : Turn) → At x → At y → At (cond b x y)
  pick true x y h i = h
  pick false x y h i = i

  pick_state : (b : Bool) (x y : InitiatorState) → Sit x.seat x.lists → Sit y.seat y.lists → Sit (cond b x y).seat (cond b x y).lists
  pick_state true x y h i = h
  pick_state false x y h i = i

  -- ---- the end of a transaction

  sticks : (o : OutboxState) (s : InitiatorState) → Sit s.seat s.lists → At (stick_step o s)
  sticks o s h = plain failed s.seat s.lists refl h

  drops_as : (r : Option ℕ × ListState) (o : OutboxState) (s : InitiatorState) → Fewer s.lists r.1 → Sit s.seat s.lists → At (dropped_as r o s)
  drops_as (None, lists) o s f h = relist s.seat s.lists lists f h
  drops_as (Some n, lists) o s f h = relist s.seat s.lists lists f h

  drops : (o : OutboxState) (s : InitiatorState) → Sit s.seat s.lists → At (drop_list_step o s)
  drops o s h = drops_as (drop_lists s.lists) o s (drop_fewer s.lists) h

  ends : (operation : Operation) (word : OpWord) (o : OutboxState) (s : InitiatorState) → Sit s.seat s.lists → At (end_step operation word o s)
  ends operation word o s h = relist s.seat s.lists (unpin_lists s.lists) (unpin_fewer s.lists) h

  owns_for : (running : Option Running) (act : ℕ) (word : OpWord) (o : OutboxState) (s : InitiatorState) → Sit s.seat s.lists → At (end_own_for running act word o s)
  owns_for None act word o s h = h
  owns_for (Some running) act word o s h = pick (running.act == act) (end_step running.operation word o s) (o, s) (ends running.operation word o s h) h

  owns : (act : ℕ) (word : OpWord) (o : OutboxState) (s : InitiatorState) → Sit s.seat s.lists → At (end_own_step act word o s)
  owns act word o s h = owns_for s.operation act word o s h

  fails : (act : ℕ) (o : OutboxState) (s : InitiatorState) → Sit s.seat s.lists → At (fail_step act o s)
  fails act o s h =
      let t = end_own_step act words.Error o s in sticks t.0 t.1 (owns act words.Error o s h)

  pointer_sits : (list : ℕ) (ending : Ending) (o : OutboxState) (s : InitiatorState) → Sit s.seat s.lists → At (pointer_ended list ending o s)
  pointer_sits list (endings.Complete value) o s h =
      let t = record s { seat = goes pointed s.seat } in
      let p = plain pointed s.seat s.lists refl h in
      pick_state (is_list s.lists.slots.present list) (with_answered t) t p p
  pointer_sits list (endings.Refused rcode) o s h = sticks o s h
  pointer_sits list endings.Expired o s h = sticks o s h

  doorbell_sits : (ending : Ending) (o : OutboxState) (s : InitiatorState) → Sit s.seat s.lists → At (doorbell_ended ending o s)
  doorbell_sits (endings.Complete value) o s h = h
  doorbell_sits (endings.Refused rcode) o s h = sticks o s h
  doorbell_sits endings.Expired o s h = sticks o s h

  reset_sits : (act : ℕ) (ending : Ending) (o : OutboxState) (s : InitiatorState) → Sit s.seat s.lists → At (reset_ended act ending o s)
  reset_sits act (endings.Complete value) o s h =
      let t = drop_list_step o s in owns act words.Done t.0 t.1 (drops o s h)
  reset_sits act (endings.Refused rcode) o s h = fails act o s h
  reset_sits act endings.Expired o s h = fails act o s h

  enable_sits : (act : ℕ) (ending : Ending) (o : OutboxState) (s : InitiatorState) → Sit s.seat s.lists → At (enable_ended act ending o s)
  enable_sits act (endings.Complete value) o s h = owns act words.Done o s h
  enable_sits act (endings.Refused rcode) o s h = fails act o s h
  enable_sits act endings.Expired o s h = fails act o s h

  -- ---- the end of an operation of management

  moves : (operation : Operation) (event : Event) (s : InitiatorState) → Sit (goes event s.seat) s.lists → Sit s.seat s.lists → Sit (moved operation event s).seat (moved operation event s).lists
  moves operation event s p h = pick_state (moves_session operation) (record s { seat = goes event s.seat }) s p h

  conflicts_for : (running : Option Running) (act : ℕ) (o : OutboxState) (s : InitiatorState) → Sit s.seat s.lists → At (conflict_for running act o s)
  conflicts_for None act o s h = h
  conflicts_for (Some running) act o s h =
      let t = moved running.operation conflict s in
      pick (running.act == act) (end_step running.operation words.Conflict o t) (o, s) (ends running.operation words.Conflict o t (moves running.operation conflict s (plain conflict s.seat s.lists refl h) h)) h

  management_sits : (act : ℕ) (ending : Ending) (o : OutboxState) (s : InitiatorState) → Sit s.seat s.lists → At (management_ended act ending o s)
  management_sits act (endings.Complete value) o s h = h
  management_sits act (endings.Refused rcode) o s h =
      pick (is_conflict rcode) (conflict_step act o s) (fail_step act o s) (conflicts_for s.operation act o s h) (fails act o s h)
  management_sits act endings.Expired o s h = fails act o s h

  unit_sits : (unit : Option SbpUnit) (act : ℕ) (o : OutboxState) (s : InitiatorState) → Sit s.seat s.lists → At (with_unit unit act o s)
  unit_sits None act o s h = owns act words.NoUnit o s h
  unit_sits (Some unit) act o s h = owns_for s.operation act words.Done o _ h

  rom_sits : (r : Result Tree RomFault) (act : ℕ) (o : OutboxState) (s : InitiatorState) → Sit s.seat s.lists → At (with_rom r act o s)
  rom_sits (Ok tree) act o s h = unit_sits (sbp_unit_of tree.blocks tree.entries) act o s h
  rom_sits (Err fault) act o s h = owns act (words.Bad (fault_number fault)) o s h

  finishes : (act : ℕ) (o : OutboxState) (s : InitiatorState) → Sit s.seat s.lists → At (finish_rom act o s)
  finishes act o s h = rom_sits (reading s.quads) act o s h

  quad_asked : (r : Option Asked × Layer Purpose) (act : ℕ) (o : OutboxState) (s : InitiatorState) → Sit s.seat s.lists → At (asked_quad r act o s)
  quad_asked (Some asked, layer) act o s h = h
  quad_asked (None, layer) act o s h = owns act words.Error o (record s { layer = layer }) h

  quad_sits : (act : ℕ) (o : OutboxState) (s : InitiatorState) → Sit s.seat s.lists → At (quad_got act o s)
  quad_sits act o s h =
      pick (nat_eq _ 256) (finish_rom act o s) (ask_quad act o s) (finishes act o s h)
      (quad_asked (asking_step s.layer s.target (next_quad s.quads) (purposes.Rom act)) act o s h)

  rom_ends : (act : ℕ) (ending : Ending) (o : OutboxState) (s : InitiatorState) → Sit s.seat s.lists → At (rom_ended act ending o s)
  rom_ends act (endings.Complete value) o s h = quad_sits act o (record s { quads = with_quad s.quads value }) h
  rom_ends act (endings.Refused rcode) o s h =
      pick (is_address rcode) (finish_rom act o s) (end_own_step act words.Error o s) (finishes act o s h) (owns act words.Error o s h)
  rom_ends act endings.Expired o s h = owns act words.Error o s h

  known : (b : Bool) (value : ℕ) (o : OutboxState) (s : InitiatorState) → Sit s.seat s.lists → At (known_where b value o s)
  known true value o s h = pick (value == 0) (drop_list_step o s) (o, cond (value == 3) (with_dead s) s) (drops o s h) (pick_state (value == 3) (with_dead s) s h h)
  known false value o s h = h

  state_ends : (act : ℕ) (list : Option ℕ) (ending : Ending) (o : OutboxState) (s : InitiatorState) → Sit s.seat s.lists → At (state_ended act list ending o s)
  state_ends act list (endings.Complete value) o s h = known (counts_for s.lists.slots.present list) value o s h
  state_ends act list (endings.Refused rcode) o s h = h
  state_ends act list endings.Expired o s h = h

  ended_sits : (purpose : Purpose) (ending : Ending) (o : OutboxState) (s : InitiatorState) → Sit s.seat s.lists → At (ended_step purpose ending o s)
  unfolding ended_step
  ended_sits (purposes.Pointer list) ending o s h = pointer_sits list ending o s h
  ended_sits purposes.Doorbell ending o s h = doorbell_sits ending o s h
  ended_sits (purposes.AgentReset act) ending o s h = reset_sits act ending o s h
  ended_sits (purposes.Enable act) ending o s h = enable_sits act ending o s h
  ended_sits (purposes.Management act) ending o s h = management_sits act ending o s h
  ended_sits (purposes.Rom act) ending o s h = rom_ends act ending o s h
  ended_sits (purposes.State act list) ending o s h = state_ends act list ending o s h

  pub ends_for : (purpose : Option Purpose) (ending : Ending) (o : OutboxState) (s : InitiatorState) → Sit s.seat s.lists → At (ended_for purpose ending o s)
  ends_for None ending o s h = h
  ends_for (Some purpose) ending o s h = ended_sits purpose ending o s h

  -- ---- packets

  responds_as : (r : List ℕ × Layer Purpose) (source : ℕ) (o : OutboxState) (s : InitiatorState) → Sit s.seat s.lists → At (responded_as r source o s)
  responds_as (response, layer) source o s h = h

  pub responds : (p : Packet) (bytes : List ℕ) (rcode : ℕ) (given : List ℕ) (t : Turn) → At t → At (respond_step p bytes rcode given t)
  responds p bytes rcode given t h = responds_as (answering_step t.1.layer p bytes rcode given) (header_in p).source t.0 t.1 h

  pub takes_as : (r : Option TicketParts × ListState) (kind : StatusKind) (p : Packet) (bytes : List ℕ) (o : OutboxState) (s : InitiatorState) → Fewer s.lists r.1 → Sit s.seat s.lists → At (taken_as r kind p bytes o s).1
  takes_as (None, lists) kind p bytes o s f h = responds p bytes 0 [] (o, record s { lists = lists }) (relist s.seat s.lists lists f h)
  takes_as (Some ticket, lists) kind p bytes o s f h =
      let u = record (called s) { lists = lists } in
      let k = relist s.seat s.lists lists f h in
      responds p bytes 0 [] (taken_by ticket lists kind o (called s)) (pick_state (is_dead_kind kind) (with_dead u) u k k)

  pub pick_judged : (b : Bool) (x y : Judged × Turn) → At x.1 → At y.1 → At (cond b x y).1
  pick_judged true x y h i = h
  pick_judged false x y h i = i

  reads_as : (r : ℕ × List ℕ) (p : Packet) (bytes : List ℕ) (o : OutboxState) (s : InitiatorState) → Sit s.seat s.lists → At (read_as r p bytes o s).1
  reads_as (rcode, out) p bytes o s h = responds p bytes rcode out (o, called s) h

  writes_as : (r : ℕ × ListState) (p : Packet) (bytes : List ℕ) (o : OutboxState) (s : InitiatorState) → Fewer s.lists r.1 → Sit s.seat s.lists → At (written_as r p bytes o s).1
  writes_as (rcode, lists) p bytes o s f h = responds p bytes rcode [] (o, record (called s) { lists = lists }) (relist s.seat s.lists lists f h)

  pub serves : (p : Packet) (bytes : List ℕ) (o : OutboxState) (s : InitiatorState) → Sit s.seat s.lists → At (serve_step p bytes o s).1
  serves (read_quadlet header offset) bytes o s h = reads_as (read_step s.lists.memory offset (replicate 4 0)) (read_quadlet header offset) bytes o s h
  serves (read_block header offset asked) bytes o s h = reads_as (read_step s.lists.memory offset (replicate asked 0)) (read_block header offset asked) bytes o s h
  serves (write_quadlet header offset value) bytes o s h = writes_as (write_lists s.lists offset (big_bytes 4 value)) (write_quadlet header offset value) bytes o s (write_fewer s.lists offset (big_bytes 4 value)) h
  serves (write_block header offset payload) bytes o s h = writes_as (write_lists s.lists offset payload) (write_block header offset payload) bytes o s (write_fewer s.lists offset payload) h
  serves (write_response header rcode) bytes o s h = responds (write_response header rcode) bytes 6 [] (o, called s) h
  serves (read_quadlet_response header rcode value) bytes o s h = responds (read_quadlet_response header rcode value) bytes 6 [] (o, called s) h
  serves (read_block_response header rcode payload) bytes o s h = responds (read_block_response header rcode payload) bytes 6 [] (o, called s) h
  serves (lock header offset extended payload) bytes o s h = responds (lock header offset extended payload) bytes 6 [] (o, called s) h
  serves (lock_response header rcode extended payload) bytes o s h = responds (lock_response header rcode extended payload) bytes 6 [] (o, called s) h

  pub quadlets_at : (fifo : Option Fifo) (p : Packet) (bytes : List ℕ) (o : OutboxState) (s : InitiatorState) → Sit s.seat s.lists → At (quadlet_at fifo p bytes o s).1
  quadlets_at None p bytes o s h = serves p bytes o s h
  quadlets_at (Some fifos.Closed) p bytes o s h = responds p bytes 7 [] (o, s) h
  quadlets_at (Some fifos.Login) p bytes o s h = serves p bytes o s h
  quadlets_at (Some fifos.Place) p bytes o s h = serves p bytes o s h

  -- a block of the target, by which any session is so
  module _ (any : (seat : Seat) (lists : ListState) → Sit seat lists) where
    manages_for : (running : Option Running) (status : ℕ) (p : Packet) (bytes : List ℕ) (o : OutboxState) (s : InitiatorState) → Sit s.seat s.lists → At (managed_for running status p bytes o s).1
    manages_for None status p bytes o s h = responds p bytes 0 [] (o, s) h
    manages_for (Some running) status p bytes o s h = any _ _

    blocks_by : (kind : StatusKind) (block : StatusBlock) (p : Packet) (bytes : List ℕ) (o : OutboxState) (s : InitiatorState) → Sit s.seat s.lists → At (block_by kind block p bytes o s).1
    blocks_by (kinds.Management status) block p bytes o s h = manages_for (present_for block.orb s.operation) status p bytes o s h
    blocks_by kinds.Good block p bytes o s h = takes_as (take_lists s.lists block) kinds.Good p bytes o s (take_fewer s.lists block) h
    blocks_by (kinds.Check sense) block p bytes o s h = takes_as (take_lists s.lists block) (kinds.Check sense) p bytes o s (take_fewer s.lists block) h
    blocks_by kinds.Dummy block p bytes o s h = takes_as (take_lists s.lists block) kinds.Dummy p bytes o s (take_fewer s.lists block) h
    blocks_by kinds.Aborted block p bytes o s h = takes_as (take_lists s.lists block) kinds.Aborted p bytes o s (take_fewer s.lists block) h
    blocks_by (kinds.Illegal meaning) block p bytes o s h = takes_as (take_lists s.lists block) (kinds.Illegal meaning) p bytes o s (take_fewer s.lists block) h
    blocks_by kinds.Failed block p bytes o s h = takes_as (take_lists s.lists block) kinds.Failed p bytes o s (take_fewer s.lists block) h

    blocks : (r : Result StatusBlock OrbFault) (p : Packet) (bytes : List ℕ) (o : OutboxState) (s : InitiatorState) → Sit s.seat s.lists → At (block_step r p bytes o s).1
    blocks (Err fault) p bytes o s h = responds p bytes 5 [] (o, s) h
    blocks (Ok block) p bytes o s h = blocks_by block.kind block p bytes o s h

    statuses : (is_login : Bool) (payload : List ℕ) (p : Packet) (bytes : List ℕ) (o : OutboxState) (s : InitiatorState) → Sit s.seat s.lists → At (status_step is_login payload p bytes o s).1
    statuses is_login payload p bytes o s h =
        pick_judged (is_login && is_block payload) (got_step p bytes (told o (notes.Told s.number), called s)) (block_step (status_in payload) p bytes o s)
        (responds p bytes 0 [] (told o (notes.Told s.number), called s) h) (blocks (status_in payload) p bytes o s h)

    blocks_at : (fifo : Option Fifo) (payload : List ℕ) (p : Packet) (bytes : List ℕ) (o : OutboxState) (s : InitiatorState) → Sit s.seat s.lists → At (block_at fifo payload p bytes o s).1
    blocks_at None payload p bytes o s h = serves p bytes o s h
    blocks_at (Some fifos.Closed) payload p bytes o s h = responds p bytes 7 [] (o, s) h
    blocks_at (Some fifos.Login) payload p bytes o s h = statuses true payload p bytes o s h
    blocks_at (Some fifos.Place) payload p bytes o s h = statuses false payload p bytes o s h

  -- what is known where a request is of the target
  abbrev pub Given : ℕ → Packet → Type 0
  Given target p = (header_in p).source ≡ target → (seat : Seat) (lists : ListState) → Sit seat lists

  -- a write that is not foreign is of the target
  reaches : (p : Packet) (bytes : List ℕ) (o : OutboxState) (s : InitiatorState) → is_foreign p s ≡ false → Given s.target p → Sit s.seat s.lists → At (addressed p bytes o s).1
  reaches (read_quadlet header offset) bytes o s f g h = serves (read_quadlet header offset) bytes o s h
  reaches (read_block header offset asked) bytes o s f g h = serves (read_block header offset asked) bytes o s h
  reaches (write_quadlet header offset value) bytes o s f g h = quadlets_at (fifo_of s offset) (write_quadlet header offset value) bytes o s h
  reaches (write_block header offset payload) bytes o s f g h = blocks_at (g (own_write header.source s.target f)) (fifo_of s offset) payload (write_block header offset payload) bytes o s h
  reaches (write_response header rcode) bytes o s f g h = serves (write_response header rcode) bytes o s h
  reaches (read_quadlet_response header rcode value) bytes o s f g h = serves (read_quadlet_response header rcode value) bytes o s h
  reaches (read_block_response header rcode payload) bytes o s f g h = serves (read_block_response header rcode payload) bytes o s h
  reaches (lock header offset extended payload) bytes o s f g h = serves (lock header offset extended payload) bytes o s h
  reaches (lock_response header rcode extended payload) bytes o s f g h = serves (lock_response header rcode extended payload) bytes o s h

  requests : (p : Packet) (bytes : List ℕ) (o : OutboxState) (s : InitiatorState) → Given s.target p → Sit s.seat s.lists → At (request_step p bytes o s).1
  requests p bytes o s g h = by (is_foreign p s) refl
    where
      by : (b : Bool) → is_foreign p s ≡ b → At (cond b (ignored_step ignored.Source 7 p bytes (o, s)) (addressed p bytes o s)).1
      by true e = responds p bytes 7 [] (o, s) h
      by false e = reaches p bytes o s e g h

  abbrev pub IfAsked : ℕ → Finding Purpose → Type 0
  IfAsked target (of_request p) = Given target p
  IfAsked target _ = Unit {0}

  receives_as : (f : Finding Purpose) (layer : Layer Purpose) (bytes : List ℕ) (o : OutboxState) (s : InitiatorState) → IfAsked s.target f → Sit s.seat s.lists → At (received (f, layer) bytes o s).1
  receives_as of_generation layer bytes o s g h = h
  receives_as of_grammar layer bytes o s g h = h
  receives_as of_label layer bytes o s g h = h
  receives_as (of_response p label purpose) layer bytes o s g h = ends_for purpose (ending_of p) o (called (record s { layer = layer })) h
  receives_as (of_again p rcode) layer bytes o s g h = responds p bytes rcode [] (o, record s { layer = layer }) h
  receives_as (of_request p) layer bytes o s g h = requests p bytes o (record s { layer = layer }) g h

  pub receives : (generation : ℕ) (bytes : List ℕ) (o : OutboxState) (s : InitiatorState) → IfAsked s.target (judging_step s.layer generation bytes).0 → Sit s.seat s.lists → At (receive_step generation bytes o s).1
  unfolding receive_step
  receives generation bytes o s g h = receives_as (judging_step s.layer generation bytes).0 (judging_step s.layer generation bytes).1 bytes o s g h

  expires_as : (r : Result (Option Purpose) Stale × Layer Purpose) (o : OutboxState) (s : InitiatorState) → Sit s.seat s.lists → At (expired_as r o s).1
  expires_as (Err stale, layer) o s h = h
  expires_as (Ok purpose, layer) o s h = ends_for purpose endings.Expired o (called (record s { layer = layer })) h

  pub expires : (label : LabelParts) (o : OutboxState) (s : InitiatorState) → Sit s.seat s.lists → At (expire_step label o s).1
  unfolding expire_step
  expires label o s h = expires_as (expiring_step s.layer s.target label) o s h

  -- ---- a generation is seen

  -- what is known where no list is present
  abbrev pub Cleared : Seat → Type 0
  Cleared seat = (lists : ListState) → is_some lists.slots.present ≡ false → Sit (goes reset seat) lists

  sees_as : (r : Bool × Layer Purpose) (target : ℕ) (o : OutboxState) (s : InitiatorState) → Cleared s.seat → (r.0 ≡ false → Sit s.seat s.lists) → At (seen_as r target o s)
  sees_as (false, layer) target o s p h = h refl
  sees_as (true, layer) target o s p h =
      let u = interrupted (record s { layer = layer }) target in
      let q = resets_told s.number s.operation s.states o in
      let t = drop_list_step q u in
      subst (λ seat. Sit seat (free_lists t.1.lists)) (sym (drop_seat (drop_lists u.lists) q u)) (p (free_lists t.1.lists) (free_none t.1.lists))

  pub sees : (generation id target : ℕ) (o : OutboxState) (s : InitiatorState) → Cleared s.seat → ((seeing_step s.layer generation id).0 ≡ false → Sit s.seat s.lists) → At (see_step generation id target o s)
  unfolding see_step
  sees generation id target o s p h = sees_as (seeing_step s.layer generation id) target o s p h

  -- ---- actions

  lows_as : (r : Option TicketParts × ListState) (o : OutboxState) (s : InitiatorState) → Fewer s.lists r.1 → Sit s.seat s.lists → At (low_as r o s)
  lows_as (None, lists) o s f h = relist s.seat s.lists lists f h
  lows_as (Some t, lists) o s f h = relist s.seat s.lists lists f h

  links_as : (r : Option TicketParts × ListState) (o : OutboxState) (s : InitiatorState) → Fewer s.lists r.1 → Sit s.seat s.lists → At (link_as r o s)
  links_as (None, lists) o s f h = relist s.seat s.lists lists f h
  links_as (Some t, lists) o s f h = relist s.seat s.lists lists f h

  rings_for : (list : Option PresentList) (o : OutboxState) (s : InitiatorState) → Sit s.seat s.lists → At (ring_for list o s)
  rings_for None o s h = h
  rings_for (Some list) o s h = pick_state (is_unwritten s.marks.pointing) _ (with_running s) (plain pointing s.seat s.lists refl h) h

  dummies_for : (ticket : Option TicketParts) (o : OutboxState) (s : InitiatorState) → Sit s.seat s.lists → At (dummy_for ticket o s)
  dummies_for None o s h = h
  dummies_for (Some t) o s h = relist s.seat s.lists (dummy_lists s.lists t) (dummy_fewer s.lists t) h

  pins_for : (ticket : Option TicketParts) (s : InitiatorState) → Sit s.seat s.lists → Sit (pinned_for ticket s).seat (pinned_for ticket s).lists
  pins_for None s h = h
  pins_for (Some t) s h = relist s.seat s.lists (pin_lists s.lists t) (pin_fewer s.lists t) h

  -- an ORB stands in a place of management
  manages : (s : InitiatorState) (place : ℕ) (orb : ManagementOrb) → Sit s.seat s.lists → Sit s.seat (manage_lists s.lists place orb)
  manages s place orb h = relist s.seat s.lists (manage_lists s.lists place orb) (manage_fewer s.lists place orb) h

  moves_on : (s : InitiatorState) (place : ℕ) (orb : ManagementOrb) → Sit s.seat s.lists → Sit (goes sent s.seat) (manage_lists s.lists place orb)
  moves_on s place orb h = plain sent s.seat (manage_lists s.lists place orb) refl (manages s place orb h)

  -- what is known where an action prepares an ORB
  abbrev pub Begins : Action → Seat → Type 0
  Begins action seat = prepares action ≡ true → (lists : ListState) → Sit seat lists

  puts_as : (r : Option TicketParts × ListState) (cmd : Cmd) (o : OutboxState) (s : InitiatorState) → ((lists : ListState) → Sit s.seat lists) → At (put_as r cmd o s)
  puts_as (None, lists) cmd o s begin = begin lists
  puts_as (Some t, lists) cmd o s begin = pick_state (t.number == 0) (record s { lists = lists; marks = record no_marks { first = t.slot } }) (record s { lists = lists }) (begin lists) (begin lists)

  appends : (cmd : Cmd) (o : OutboxState) (s : InitiatorState) → ((lists : ListState) → Sit s.seat lists) → At (append_step cmd o s)
  appends cmd o s begin =
      let a = put_step cmd o s in
      let b = low_step a.0 a.1 in
      let c = link_step b.0 b.1 in
      let put = puts_as (put_lists s.lists cmd s.layer.node (login_id s)) cmd o s begin in
      let low = lows_as (low_lists a.1.lists) a.0 a.1 (low_fewer a.1.lists) put in
      rings_for c.1.lists.slots.present c.0 c.1 (links_as (high_lists b.1.lists) b.0 b.1 (high_fewer b.1.lists) low)

  does : (action : Action) (o : OutboxState) (s : InitiatorState) → Begins action s.seat → Sit s.seat s.lists → At (done_step action o s)
  unfolding done_step
  does (actions.Put cmd) o s begin h = puts_as (put_lists s.lists cmd s.layer.node (login_id s)) cmd o s (begin refl)
  does (actions.Append cmd) o s begin h = appends cmd o s (begin refl)
  does actions.Low o s begin h = lows_as (low_lists s.lists) o s (low_fewer s.lists) h
  does actions.Link o s begin h = links_as (high_lists s.lists) o s (high_fewer s.lists) h
  does actions.Ring o s begin h = rings_for s.lists.slots.present o s h
  does (actions.Dummy orb) o s begin h = dummies_for (find_in s.lists.slots.slots orb) o s h
  does actions.Rom o s begin h = h
  does actions.AgentReset o s begin h = h
  does actions.State o s begin h = h
  does actions.Enable o s begin h = h
  does (actions.Login unit reconnect exclusive password) o s begin h = moves_on s _ _ h
  does (actions.Query unit) o s begin h = manages s _ _ h
  does actions.Reconnect o s begin h = moves_on s _ _ h
  does actions.Logout o s begin h = moves_on s _ _ h
  does (actions.Abort orb) o s begin h = let v = managed_by (orb_by (actions.Abort orb) s) operations.Abort s in pins_for (find_in v.lists.slots.slots orb) v (manages s _ _ h)
  does actions.AbortSet o s begin h = manages s _ _ h
  does actions.UnitReset o s begin h = manages s _ _ h
  does actions.TargetReset o s begin h = manages s _ _ h

  asks_as : (r : Option Asked × Layer Purpose) (action : Action) (o : OutboxState) (s : InitiatorState) → Begins action s.seat → Sit s.seat s.lists → At (asked_as r action o s).1
  asks_as (None, layer) action o s begin h = h
  asks_as (Some asked, layer) action o s begin h = does action o (record s { layer = layer }) begin h

  demands_as : (demand : Option Demand) (action : Action) (o : OutboxState) (s : InitiatorState) → Begins action s.seat → Sit s.seat s.lists → At (demanded_as demand action o s).1
  demands_as None action o s begin h = does action o s begin h
  demands_as (Some demand) action o s begin h = asks_as (asked_for demand s) action o s begin h

  judges_as : (number : Option ℕ) (action : Action) (o : OutboxState) (s : InitiatorState) → (number ≡ None → Begins action s.seat) → Sit s.seat s.lists → At (judged_as number action o s).1
  judges_as (Some number) action o s begin h = h
  judges_as None action o s begin h = demands_as (demand_of action s) action o s (begin refl) h

  pub acts : (action : Action) (o : OutboxState) (s : InitiatorState) → (refusal action (facts_with true s action) ≡ None → Begins action s.seat) → Sit s.seat s.lists → At (act_step action o s).1
  unfolding act_step
  acts action o s begin h = judges_as (refusal action (facts_with true s action)) action o s begin h
