-- Each call of an initiator keeps what the world counts.
use Rattle.sbp_world.proofs.Words.Std.{◌≡◌, refl, sym, ◌∙◌, ap, subst, big_bytes}
use Rattle.sbp_world.proofs.Words.Wire.{LabelParts, Packet, header_in, lock, read_block, read_block_response, read_quadlet, read_quadlet_response, lock_response, write_block, write_quadlet, write_response, Asked, Stale, Layer, Finding, of_generation, of_grammar, of_label, of_response, of_again, of_request, answering_step, asking_step, expiring_step, judging_step, seeing_step, Moment, Judged, Note, Operation, OpWord, OutboxState}
use Rattle.sbp_world.proofs.Words.Target.{RomFault, SbpUnit, Tree, reading, sbp_unit_of, is_block}
use Rattle.sbp_world.proofs.Words.Initiator.{read_step, Memory, OrbFault, StatusBlock, StatusKind, ListFault, TicketParts, SlotTable, drop_step, free_all_step, unpin_step, SessionEvent, bad, conflict, Fifo, Ending, Purpose, Running, InitiatorState, drop_lists, free_lists, stepped, take_lists, unpin_lists, with_slots, write_lists, ends_list, counts_for, ending_of, is_list, status_in, is_stuck_seat, Turn, ask_quad, asked_quad, conflict_for, conflict_step, doorbell_ended, drop_list_step, drop_where, dropped_as, enable_ended, end_own_for, end_own_step, end_step, ended_for, ended_step, fail_step, fault_number, finish_rom, good_end, good_event, good_word, is_address, is_conflict, known_where, managed_step, management_ended, moved, moves_session, next_quad, pointed_step, pointer_ended, quad_got, reset_ended, response_of, rom_ended, state_ended, state_told, stick_step, then_step, told, with_dead, with_rom, with_unit, with_quad, is_dead_kind, addressed, answer_of, block_at, block_by, block_step, called, expire_step, expired_as, fifo_of, got_step, ignored_step, is_foreign, managed_for, present_for, quadlet_at, read_as, receive_step, received, request_step, respond_step, responded_as, serve_step, status_step, taken_as, taken_by, written_as, all_end, freed_step, interrupted, reset_step, reset_told, resets_told, see_step, seen_as, states_end}
use Rattle.sbp_world.proofs.Words.World.{WorldState}
use Rattle.std.specs.Prelude.{ℕ, ◌<◌, ◌==◌, ◌&&◌, nat_lt, Bool, true, false, cond, List, [], ◌∷◌, length, replicate, Option, Some, None, Result, Ok, Err}
use Rattle.orb_layout.specs.declared.status.StatusKind.TheVariants as kinds
use Rattle.orb_list.specs.Table as table
use Rattle.sbp_journal.specs.declared.cause.Cause.TheVariants as ignored
use Rattle.sbp_journal.specs.declared.note.Note.TheVariants as notes
use Rattle.sbp_journal.specs.declared.operation.Operation.TheVariants as operations
use Rattle.sbp_journal.specs.declared.operation.OpWord.TheVariants as words
use Rattle.initiator_base.specs.declared.fifos.Fifo.TheVariants as fifos
use Rattle.sbp_initiator.specs.declared.purpose.Ending.TheVariants as endings
use Rattle.sbp_initiator.specs.declared.purpose.Purpose.TheVariants as purposes
use Rattle.sbp_world.proofs.Wire.OwnCounts.{Own, is_counted, keeps, tells_drop, tells_plain, tells_taken}
use Rattle.sbp_world.proofs.Wire.Slotted.{Drops, Same, drop_is, drop_none, drops as drops_slots, same_freed, same_status, same_unpin, status_ok}

module _ (past : List Moment) (weight : ℕ) (w : WorldState) (i n : ℕ) (inside : i < n) (begun : ℕ → ℕ) (keys : ℕ → Option (ℕ × ℕ)) (most : ℕ) where
  abbrev pub At : Turn → Type 0
  At t = Own past weight w i n inside begun keys most t.0.sides t.1.number t.1.lists.slots

  pub tells : (o : OutboxState) (s : InitiatorState) (note : Note) → At (o, s) → is_counted note ≡ false → At (told o note, s)
  tells o s note h e = tells_plain past weight w i n inside begun keys most o.sides s.number s.lists.slots note e h

  -- other slots with as many lists and the same last ORB
  pub slots : (o : OutboxState) (s : InitiatorState) (t : SlotTable) → Same s.lists.slots t → At (o, s) → Own past weight w i n inside begun keys most o.sides s.number t
  slots o s t same h = keeps past weight w i n inside begun keys most o.sides s.number s.lists.slots t same h

  pub pick : (b : Bool) (x y : Turn) → At x → At y → At (cond b x y)
  pick true x y h i = h
  pick false x y h i = i

  pick_outbox : (b : Bool) (x y : OutboxState) (s : InitiatorState) → At (x, s) → At (y, s) → At (cond b x y, s)
  pick_outbox true x y s h i = h
  pick_outbox false x y s h i = i

  pub pick_state : (b : Bool) (o : OutboxState) (x y : InitiatorState) → At (o, x) → At (o, y) → At (o, cond b x y)
  pick_state true o x y h i = h
  pick_state false o x y h i = i

  -- ---- the end of a transaction

  sticks : (o : OutboxState) (s : InitiatorState) → At (o, s) → At (stick_step o s)
  sticks o s h = pick_outbox (is_stuck_seat s.seat) o (told o (notes.Stuck s.number)) s h (tells o s (notes.Stuck s.number) h refl)

  drops_by : (x : Option ℕ) (t : SlotTable) (o : OutboxState) (s : InitiatorState) → (drop_step s.lists.slots).0 ≡ x → (drop_step s.lists.slots).1 ≡ t → At (o, s) → At (dropped_as (x, with_slots s.lists t) o s)
  drops_by None t o s e f h = subst (λ z. Own past weight w i n inside begun keys most o.sides s.number z) (sym (drop_none s.lists.slots e) ∙ f) h
  drops_by (Some m) t o s e f h =
      let p = drop_is s.lists.slots m e in
      tells_drop past weight w i n inside begun keys most o.sides s.number m p.0 s.lists.slots t p.1 (subst (Drops s.lists.slots) f (drops_slots s.lists.slots)) h

  pub drops : (o : OutboxState) (s : InitiatorState) → At (o, s) → At (drop_list_step o s)
  unfolding drop_lists
  drops o s h = drops_by (drop_step s.lists.slots).0 (drop_step s.lists.slots).1 o s refl refl h

  ends : (operation : Operation) (word : OpWord) (o : OutboxState) (s : InitiatorState) → At (o, s) → At (end_step operation word o s)
  unfolding unpin_lists
  ends operation word o s h =
      slots (told o (notes.Op s.number operation word)) s (unpin_step s.lists.slots s.lists.memory).0 (same_unpin s.lists.slots s.lists.memory) (tells o s (notes.Op s.number operation word) h refl)

  owns_for : (running : Option Running) (act : ℕ) (word : OpWord) (o : OutboxState) (s : InitiatorState) → At (o, s) → At (end_own_for running act word o s)
  owns_for None act word o s h = h
  owns_for (Some running) act word o s h =
      pick (running.act == act) (end_step running.operation word o s) (o, s) (ends running.operation word o s h) h

  owns : (act : ℕ) (word : OpWord) (o : OutboxState) (s : InitiatorState) → At (o, s) → At (end_own_step act word o s)
  owns act word o s h = owns_for s.operation act word o s h

  fails : (act : ℕ) (o : OutboxState) (s : InitiatorState) → At (o, s) → At (fail_step act o s)
  fails act o s h =
      let t = end_own_step act words.Error o s in sticks t.0 t.1 (owns act words.Error o s h)

  pointed : (list : ℕ) (o : OutboxState) (s : InitiatorState) → At (o, s) → At (o, pointed_step list s)
  pointed list o s h = pick_state (is_list s.lists.slots.present list) o _ _ h h

  pointer_ends : (list : ℕ) (ending : Ending) (o : OutboxState) (s : InitiatorState) → At (o, s) → At (pointer_ended list ending o s)
  pointer_ends list (endings.Complete value) o s h = pointed list o s h
  pointer_ends list (endings.Refused rcode) o s h = sticks o s h
  pointer_ends list endings.Expired o s h = sticks o s h

  doorbell_ends : (ending : Ending) (o : OutboxState) (s : InitiatorState) → At (o, s) → At (doorbell_ended ending o s)
  doorbell_ends (endings.Complete value) o s h = h
  doorbell_ends (endings.Refused rcode) o s h = sticks o s h
  doorbell_ends endings.Expired o s h = sticks o s h

  reset_ends : (act : ℕ) (ending : Ending) (o : OutboxState) (s : InitiatorState) → At (o, s) → At (reset_ended act ending o s)
  reset_ends act (endings.Complete value) o s h =
      let t = drop_list_step o s in owns act words.Done t.0 t.1 (drops o s h)
  reset_ends act (endings.Refused rcode) o s h = fails act o s h
  reset_ends act endings.Expired o s h = fails act o s h

  enable_ends : (act : ℕ) (ending : Ending) (o : OutboxState) (s : InitiatorState) → At (o, s) → At (enable_ended act ending o s)
  enable_ends act (endings.Complete value) o s h = owns act words.Done o s h
  enable_ends act (endings.Refused rcode) o s h = fails act o s h
  enable_ends act endings.Expired o s h = fails act o s h

  moves : (operation : Operation) (event : SessionEvent) (o : OutboxState) (s : InitiatorState) → At (o, s) → At (o, moved operation event s)
  moves operation event o s h = pick_state (moves_session operation) o _ s h h

  conflicts_for : (running : Option Running) (act : ℕ) (o : OutboxState) (s : InitiatorState) → At (o, s) → At (conflict_for running act o s)
  conflicts_for None act o s h = h
  conflicts_for (Some running) act o s h =
      let t = moved running.operation conflict s in
      pick (running.act == act) (end_step running.operation words.Conflict o t) (o, s) (ends running.operation words.Conflict o t (moves running.operation conflict o s h)) h

  management_ends : (act : ℕ) (ending : Ending) (o : OutboxState) (s : InitiatorState) → At (o, s) → At (management_ended act ending o s)
  management_ends act (endings.Complete value) o s h = h
  management_ends act (endings.Refused rcode) o s h =
      pick (is_conflict rcode) (conflict_step act o s) (fail_step act o s) (conflicts_for s.operation act o s h) (fails act o s h)
  management_ends act endings.Expired o s h = fails act o s h

  drops_where : (b : Bool) (o : OutboxState) (s : InitiatorState) → At (o, s) → At (drop_where b o s)
  drops_where true o s h = drops o s h
  drops_where false o s h = h

  ends_good : (running : Running) (o : OutboxState) (s : InitiatorState) → At (o, s) → At (good_end running o s)
  ends_good running o s h =
      let response = response_of running s in
      ends running.operation (good_word running.operation response) o (moved running.operation (good_event running.operation response) s) (moves running.operation (good_event running.operation response) o s h)

  manages : (running : Running) (status : ℕ) (o : OutboxState) (s : InitiatorState) → At (o, s) → At (managed_step running status o s)
  manages running status o s h =
      let t = drop_where (ends_list (Some running.operation)) o s in
      let u = moved running.operation bad s in
      pick (status == 0) (then_step (good_end running) t) (end_step running.operation (words.Refused status) o u)
      (ends_good running t.0 t.1 (drops_where (ends_list (Some running.operation)) o s h))
      (ends running.operation (words.Refused status) o u (moves running.operation bad o s h))

  unit_ends : (unit : Option SbpUnit) (act : ℕ) (o : OutboxState) (s : InitiatorState) → At (o, s) → At (with_unit unit act o s)
  unit_ends None act o s h = owns act words.NoUnit o s h
  unit_ends (Some unit) act o s h = owns_for s.operation act words.Done o _ h

  tree_ends : (r : Result Tree RomFault) (act : ℕ) (o : OutboxState) (s : InitiatorState) → At (o, s) → At (with_rom r act o s)
  tree_ends (Ok tree) act o s h = unit_ends (sbp_unit_of tree.blocks tree.entries) act o s h
  tree_ends (Err fault) act o s h = owns act (words.Bad (fault_number fault)) o s h

  finishes : (act : ℕ) (o : OutboxState) (s : InitiatorState) → At (o, s) → At (finish_rom act o s)
  finishes act o s h = tree_ends (reading s.quads) act o s h

  quad_asked : (r : Option Asked × Layer Purpose) (act : ℕ) (o : OutboxState) (s : InitiatorState) → At (o, s) → At (asked_quad r act o s)
  quad_asked (Some asked, layer) act o s h = record { number_is = h.number_is; counted = h.counted; slotted = h.slotted; line = h.line }
  quad_asked (None, layer) act o s h = owns act words.Error o (record s { layer = layer }) h

  quad_ends : (act : ℕ) (o : OutboxState) (s : InitiatorState) → At (o, s) → At (quad_got act o s)
  quad_ends act o s h =
      pick (length s.quads == 256) (finish_rom act o s) (ask_quad act o s) (finishes act o s h)
      (quad_asked (asking_step s.layer s.target (next_quad s.quads) (purposes.Rom act)) act o s h)

  rom_ends : (act : ℕ) (ending : Ending) (o : OutboxState) (s : InitiatorState) → At (o, s) → At (rom_ended act ending o s)
  rom_ends act (endings.Complete value) o s h = quad_ends act o (record s { quads = with_quad s.quads value }) h
  rom_ends act (endings.Refused rcode) o s h =
      pick (is_address rcode) (finish_rom act o s) (end_own_step act words.Error o s) (finishes act o s h) (owns act words.Error o s h)
  rom_ends act endings.Expired o s h = owns act words.Error o s h

  known : (b : Bool) (value : ℕ) (o : OutboxState) (s : InitiatorState) → At (o, s) → At (known_where b value o s)
  known true value o s h = pick (value == 0) (drop_list_step o s) (o, cond (value == 3) (with_dead s) s) (drops o s h) (pick_state (value == 3) o (with_dead s) s h h)
  known false value o s h = h

  state_tells : (act : ℕ) (word : OpWord) (o : OutboxState) (s : InitiatorState) → At (o, s) → At (state_told act word o s)
  state_tells act word o s h = tells o s (notes.Op s.number operations.State word) h refl

  state_ends : (act : ℕ) (list : Option ℕ) (ending : Ending) (o : OutboxState) (s : InitiatorState) → At (o, s) → At (state_ended act list ending o s)
  state_ends act list (endings.Complete value) o s h =
      let t = known_where (counts_for s.lists.slots.present list) value o s in
      state_tells act (words.State value) t.0 t.1 (known (counts_for s.lists.slots.present list) value o s h)
  state_ends act list (endings.Refused rcode) o s h = state_tells act words.Error o s h
  state_ends act list endings.Expired o s h = state_tells act words.Error o s h

  purpose_ends : (purpose : Purpose) (ending : Ending) (o : OutboxState) (s : InitiatorState) → At (o, s) → At (ended_step purpose ending o s)
  unfolding ended_step
  purpose_ends (purposes.Pointer list) ending o s h = pointer_ends list ending o s h
  purpose_ends purposes.Doorbell ending o s h = doorbell_ends ending o s h
  purpose_ends (purposes.AgentReset act) ending o s h = reset_ends act ending o s h
  purpose_ends (purposes.Enable act) ending o s h = enable_ends act ending o s h
  purpose_ends (purposes.Management act) ending o s h = management_ends act ending o s h
  purpose_ends (purposes.Rom act) ending o s h = rom_ends act ending o s h
  purpose_ends (purposes.State act list) ending o s h = state_ends act list ending o s h

  ends_for : (purpose : Option Purpose) (ending : Ending) (o : OutboxState) (s : InitiatorState) → At (o, s) → At (ended_for purpose ending o s)
  ends_for None ending o s h = h
  ends_for (Some purpose) ending o s h = purpose_ends purpose ending o s h

  -- ---- packets

  responds_as : (r : List ℕ × Layer Purpose) (source : ℕ) (o : OutboxState) (s : InitiatorState) → At (o, s) → At (responded_as r source o s)
  responds_as (response, layer) source o s h = h

  responds : (p : Packet) (bytes : List ℕ) (rcode : ℕ) (given : List ℕ) (t : Turn) → At t → At (respond_step p bytes rcode given t)
  responds p bytes rcode given t h = responds_as (answering_step t.1.layer p bytes rcode given) (header_in p).source t.0 t.1 h

  takes_by : (r : Result TicketParts ListFault × (SlotTable × Memory)) (block : StatusBlock) (kind : StatusKind) (p : Packet) (bytes : List ℕ) (o : OutboxState) (s : InitiatorState) → table.status_step s.lists.slots s.lists.memory block ≡ r → At (o, s) → At (taken_as (stepped r s.lists) kind p bytes o s).1
  takes_by (Err fault, (t, m)) block kind p bytes o s e h =
      let same = subst (λ (x : Result TicketParts ListFault × (SlotTable × Memory)). Same s.lists.slots x.1.0) e (same_status s.lists.slots s.lists.memory block h.slotted.size) in
      responds p bytes 0 [] (o, record s { lists = (stepped (Err fault, (t, m)) s.lists).1 }) (slots o s t same h)
  takes_by (Ok u, (t, m)) block kind p bytes o s e h =
      let same = subst (λ (x : Result TicketParts ListFault × (SlotTable × Memory)). Same s.lists.slots x.1.0) e (same_status s.lists.slots s.lists.memory block h.slotted.size) in
      let of = status_ok s.lists.slots s.lists.memory block u h.slotted (ap (λ (x : Result TicketParts ListFault × (SlotTable × Memory)). x.0) e) in
      let lists = (stepped (Ok u, (t, m)) s.lists).1 in
      let answer = answer_of kind lists u.slot in
      let now = told o (notes.Taken s.number u.list u.number kind answer) in
      let x = tells_taken past weight w i n inside begun keys most o.sides s.number s.lists.slots t u kind answer of same h in
      responds p bytes 0 [] (taken_by u lists kind o (called s)) (pick_state (is_dead_kind kind) now (with_dead (record (called s) { lists = lists })) (record (called s) { lists = lists }) x x)

  takes : (block : StatusBlock) (kind : StatusKind) (p : Packet) (bytes : List ℕ) (o : OutboxState) (s : InitiatorState) → At (o, s) → At (taken_as (take_lists s.lists block) kind p bytes o s).1
  unfolding take_lists
  takes block kind p bytes o s h = takes_by (table.status_step s.lists.slots s.lists.memory block) block kind p bytes o s refl h

  manages_for : (running : Option Running) (status : ℕ) (p : Packet) (bytes : List ℕ) (o : OutboxState) (s : InitiatorState) → At (o, s) → At (managed_for running status p bytes o s).1
  manages_for None status p bytes o s h = responds p bytes 0 [] (o, s) h
  manages_for (Some running) status p bytes o s h = responds p bytes 0 [] (managed_step running status o (called s)) (manages running status o (called s) h)

  blocks_by : (kind : StatusKind) (block : StatusBlock) (p : Packet) (bytes : List ℕ) (o : OutboxState) (s : InitiatorState) → At (o, s) → At (block_by kind block p bytes o s).1
  blocks_by (kinds.Management status) block p bytes o s h = manages_for (present_for block.orb s.operation) status p bytes o s h
  blocks_by kinds.Good block p bytes o s h = takes block kinds.Good p bytes o s h
  blocks_by (kinds.Check sense) block p bytes o s h = takes block (kinds.Check sense) p bytes o s h
  blocks_by kinds.Dummy block p bytes o s h = takes block kinds.Dummy p bytes o s h
  blocks_by kinds.Aborted block p bytes o s h = takes block kinds.Aborted p bytes o s h
  blocks_by (kinds.Illegal meaning) block p bytes o s h = takes block (kinds.Illegal meaning) p bytes o s h
  blocks_by kinds.Failed block p bytes o s h = takes block kinds.Failed p bytes o s h

  blocks : (r : Result StatusBlock OrbFault) (p : Packet) (bytes : List ℕ) (o : OutboxState) (s : InitiatorState) → At (o, s) → At (block_step r p bytes o s).1
  blocks (Err fault) p bytes o s h = responds p bytes 5 [] (o, s) h
  blocks (Ok block) p bytes o s h = blocks_by block.kind block p bytes o s h

  pick_judged : (b : Bool) (x y : Judged × Turn) → At x.1 → At y.1 → At (cond b x y).1
  pick_judged true x y h i = h
  pick_judged false x y h i = i

  statuses : (is_login : Bool) (payload : List ℕ) (p : Packet) (bytes : List ℕ) (o : OutboxState) (s : InitiatorState) → At (o, s) → At (status_step is_login payload p bytes o s).1
  statuses is_login payload p bytes o s h =
      pick_judged (is_login && is_block payload) (got_step p bytes (told o (notes.Told s.number), called s)) (block_step (status_in payload) p bytes o s)
      (responds p bytes 0 [] (told o (notes.Told s.number), called s) (tells o s (notes.Told s.number) h refl))
      (blocks (status_in payload) p bytes o s h)

  reads_as : (r : ℕ × List ℕ) (p : Packet) (bytes : List ℕ) (o : OutboxState) (s : InitiatorState) → At (o, s) → At (read_as r p bytes o s).1
  reads_as (rcode, out) p bytes o s h = responds p bytes rcode out (o, called s) h

  writes : (offset : ℕ) (payload : List ℕ) (p : Packet) (bytes : List ℕ) (o : OutboxState) (s : InitiatorState) → At (o, s) → At (written_as (write_lists s.lists offset payload) p bytes o s).1
  unfolding write_lists
  writes offset payload p bytes o s h = responds p bytes (write_lists s.lists offset payload).0 [] (o, record (called s) { lists = (write_lists s.lists offset payload).1 }) h

  serves : (p : Packet) (bytes : List ℕ) (o : OutboxState) (s : InitiatorState) → At (o, s) → At (serve_step p bytes o s).1
  serves (read_quadlet header offset) bytes o s h = reads_as (read_step s.lists.memory offset (replicate 4 0)) (read_quadlet header offset) bytes o s h
  serves (read_block header offset asked) bytes o s h = reads_as (read_step s.lists.memory offset (replicate asked 0)) (read_block header offset asked) bytes o s h
  serves (write_quadlet header offset value) bytes o s h = writes offset (big_bytes 4 value) (write_quadlet header offset value) bytes o s h
  serves (write_block header offset payload) bytes o s h = writes offset payload (write_block header offset payload) bytes o s h
  serves (write_response header rcode) bytes o s h = responds (write_response header rcode) bytes 6 [] (o, called s) h
  serves (read_quadlet_response header rcode value) bytes o s h = responds (read_quadlet_response header rcode value) bytes 6 [] (o, called s) h
  serves (read_block_response header rcode payload) bytes o s h = responds (read_block_response header rcode payload) bytes 6 [] (o, called s) h
  serves (lock header offset extended payload) bytes o s h = responds (lock header offset extended payload) bytes 6 [] (o, called s) h
  serves (lock_response header rcode extended payload) bytes o s h = responds (lock_response header rcode extended payload) bytes 6 [] (o, called s) h

  blocks_at : (fifo : Option Fifo) (payload : List ℕ) (p : Packet) (bytes : List ℕ) (o : OutboxState) (s : InitiatorState) → At (o, s) → At (block_at fifo payload p bytes o s).1
  blocks_at None payload p bytes o s h = serves p bytes o s h
  blocks_at (Some fifos.Closed) payload p bytes o s h = responds p bytes 7 [] (o, s) h
  blocks_at (Some fifos.Login) payload p bytes o s h = statuses true payload p bytes o s h
  blocks_at (Some fifos.Place) payload p bytes o s h = statuses false payload p bytes o s h

  quadlets_at : (fifo : Option Fifo) (p : Packet) (bytes : List ℕ) (o : OutboxState) (s : InitiatorState) → At (o, s) → At (quadlet_at fifo p bytes o s).1
  quadlets_at None p bytes o s h = serves p bytes o s h
  quadlets_at (Some fifos.Closed) p bytes o s h = responds p bytes 7 [] (o, s) h
  quadlets_at (Some fifos.Login) p bytes o s h = serves p bytes o s h
  quadlets_at (Some fifos.Place) p bytes o s h = serves p bytes o s h

  reaches : (p : Packet) (bytes : List ℕ) (o : OutboxState) (s : InitiatorState) → At (o, s) → At (addressed p bytes o s).1
  reaches (read_quadlet header offset) bytes o s h = serves (read_quadlet header offset) bytes o s h
  reaches (read_block header offset asked) bytes o s h = serves (read_block header offset asked) bytes o s h
  reaches (write_quadlet header offset value) bytes o s h = quadlets_at (fifo_of s offset) (write_quadlet header offset value) bytes o s h
  reaches (write_block header offset payload) bytes o s h = blocks_at (fifo_of s offset) payload (write_block header offset payload) bytes o s h
  reaches (write_response header rcode) bytes o s h = serves (write_response header rcode) bytes o s h
  reaches (read_quadlet_response header rcode value) bytes o s h = serves (read_quadlet_response header rcode value) bytes o s h
  reaches (read_block_response header rcode payload) bytes o s h = serves (read_block_response header rcode payload) bytes o s h
  reaches (lock header offset extended payload) bytes o s h = serves (lock header offset extended payload) bytes o s h
  reaches (lock_response header rcode extended payload) bytes o s h = serves (lock_response header rcode extended payload) bytes o s h

  requests : (p : Packet) (bytes : List ℕ) (o : OutboxState) (s : InitiatorState) → At (o, s) → At (request_step p bytes o s).1
  requests p bytes o s h =
      pick_judged (is_foreign p s) (ignored_step ignored.Source 7 p bytes (o, s)) (addressed p bytes o s) (responds p bytes 7 [] (o, s) h) (reaches p bytes o s h)

  receives_as : (r : Finding Purpose × Layer Purpose) (bytes : List ℕ) (o : OutboxState) (s : InitiatorState) → At (o, s) → At (received r bytes o s).1
  receives_as (of_generation, layer) bytes o s h = h
  receives_as (of_grammar, layer) bytes o s h = h
  receives_as (of_label, layer) bytes o s h = h
  receives_as (of_response p label purpose, layer) bytes o s h = ends_for purpose (ending_of p) o (called (record s { layer = layer })) h
  receives_as (of_again p rcode, layer) bytes o s h = responds p bytes rcode [] (o, record s { layer = layer }) h
  receives_as (of_request p, layer) bytes o s h = requests p bytes o (record s { layer = layer }) h

  pub receives : (generation : ℕ) (bytes : List ℕ) (o : OutboxState) (s : InitiatorState) → At (o, s) → At (receive_step generation bytes o s).1
  unfolding receive_step
  receives generation bytes o s h = receives_as (judging_step s.layer generation bytes) bytes o s h

  expires_as : (r : Result (Option Purpose) Stale × Layer Purpose) (o : OutboxState) (s : InitiatorState) → At (o, s) → At (expired_as r o s).1
  expires_as (Err stale, layer) o s h = h
  expires_as (Ok purpose, layer) o s h = ends_for purpose endings.Expired o (called (record s { layer = layer })) h

  pub expires : (label : LabelParts) (o : OutboxState) (s : InitiatorState) → At (o, s) → At (expire_step label o s).1
  unfolding expire_step
  expires label o s h = expires_as (expiring_step s.layer s.target label) o s h

  -- ---- resets

  resets : (operation : Operation) (o : OutboxState) (s : InitiatorState) → At (o, s) → At (reset_told s.number operation o, s)
  resets operation o s h = tells o s (notes.Op s.number operation words.Reset) h refl

  states_reset : (acts : List ℕ) (o : OutboxState) (s : InitiatorState) → At (o, s) → At (states_end s.number acts o, s)
  states_reset [] o s h = h
  states_reset (act ∷ acts) o s h = states_reset acts (reset_told s.number operations.State o) s (resets operations.State o s h)

  all_reset : (running : Running) (acts : List ℕ) (o : OutboxState) (s : InitiatorState) → At (o, s) → At (all_end s.number running acts o, s)
  all_reset running [] o s h = resets running.operation o s h
  all_reset running (act ∷ acts) o s h =
      pick_outbox (nat_lt running.act act) (states_end s.number (act ∷ acts) (reset_told s.number running.operation o)) (all_end s.number running acts (reset_told s.number operations.State o)) s
      (states_reset (act ∷ acts) (reset_told s.number running.operation o) s (resets running.operation o s h))
      (all_reset running acts (reset_told s.number operations.State o) s (resets operations.State o s h))

  resets_tell : (running : Option Running) (acts : List ℕ) (o : OutboxState) (s : InitiatorState) → At (o, s) → At (resets_told s.number running acts o, s)
  resets_tell None acts o s h = states_reset acts o s h
  resets_tell (Some running) acts o s h = all_reset running acts o s h

  -- no list is present any more
  drop_leaves_by : (x : Option ℕ) (t : SlotTable) (o : OutboxState) (s : InitiatorState) → t.present ≡ None → (dropped_as (x, with_slots s.lists t) o s).1.lists.slots.present ≡ None
  drop_leaves_by None t o s e = e
  drop_leaves_by (Some m) t o s e = e

  drop_leaves : (o : OutboxState) (s : InitiatorState) → (drop_list_step o s).1.lists.slots.present ≡ None
  unfolding drop_lists
  drop_leaves o s = drop_leaves_by (drop_step s.lists.slots).0 (drop_step s.lists.slots).1 o s (drops_slots s.lists.slots).key

  frees : (t : Turn) → t.1.lists.slots.present ≡ None → At t → At (freed_step t)
  unfolding free_lists
  frees t e h = slots t.0 t.1 (free_all_step t.1.lists.slots t.1.lists.memory).0 (same_freed t.1.lists.slots t.1.lists.memory e) h

  all_resets : (target : ℕ) (o : OutboxState) (s : InitiatorState) → At (o, s) → At (reset_step target o s)
  all_resets target o s h =
      let now = resets_told s.number s.operation s.states o in
      let t = interrupted s target in
      frees (drop_list_step now t) (drop_leaves now t) (drops now t (resets_tell s.operation s.states o s h))

  sees_as : (r : Bool × Layer Purpose) (target : ℕ) (o : OutboxState) (s : InitiatorState) → At (o, s) → At (seen_as r target o s)
  sees_as (false, layer) target o s h = h
  sees_as (true, layer) target o s h = all_resets target o (record s { layer = layer }) h

  pub sees : (generation id target : ℕ) (o : OutboxState) (s : InitiatorState) → At (o, s) → At (see_step generation id target o s)
  unfolding see_step
  sees generation id target o s h = sees_as (seeing_step s.layer generation id) target o s h
