-- What a delivery, a time-out and a sight leave of what an initiator's slots bring with a good status.
use Rattle.sbp_world.proofs.Words.Std.{◌≡◌, refl, ◌∙◌, ℕ, ◌==◌, ◌&&◌, Bool, true, false, cond, List, [], length, replicate, Option, Some, None, Result, Ok, Err, big_bytes}
use Rattle.sbp_world.proofs.Words.Wire.{LabelParts, Packet, header_in, lock, lock_response, read_block, read_block_response, read_quadlet, read_quadlet_response, write_block, write_quadlet, write_response, Asked, Stale, Finding, Layer, answering_step, asking_step, expiring_step, judging_step, of_again, of_generation, of_grammar, of_label, of_request, of_response, seeing_step, OutboxState, Judged, Operation, OpWord}
use Rattle.sbp_world.proofs.Words.Target.{RomFault, SbpUnit, Tree, reading, sbp_unit_of, is_block}
use Rattle.sbp_world.proofs.Words.Initiator.{read_step, OrbFault, StatusBlock, StatusKind, ListState, drop_lists, take_lists, write_lists, free_lists, TicketParts, Event, bad, conflict, Fifo, is_dead_kind, management_at, with_quad, Ending, Purpose, Running, interrupted, resets_told, see_step, seen_as, InitiatorState, Turn, ask_quad, asked_quad, conflict_for, conflict_step, doorbell_ended, drop_list_step, drop_where, dropped_as, enable_ended, end_own_for, end_own_step, end_step, ended_for, ended_step, fail_step, fault_number, finish_rom, good_end, good_event, good_word, is_address, is_conflict, known_step, known_where, managed_step, management_ended, moved, moves_session, next_quad, pointer_ended, quad_got, reset_ended, response_of, rom_ended, state_ended, state_told, stick_step, told, with_dead, with_rom, with_unit, address_error, addressed, block_at, block_by, block_step, called, expire_step, expired_as, fifo_of, got_step, ignored_step, is_foreign, managed_for, present_for, quadlet_at, read_as, receive_step, received, request_step, respond_step, responded_as, serve_step, status_step, taken_as, taken_by, type_error, written_as, ends_list, counts_for, ending_of, is_list, status_in, AnswerPlan, unpin_lists}
use Rattle.orb_layout.specs.declared.status.StatusKind.TheVariants as kinds
use Rattle.sbp_journal.specs.declared.cause.Cause.TheVariants as causes
use Rattle.sbp_journal.specs.declared.note.Note.TheVariants as notes
use Rattle.sbp_journal.specs.declared.operation.OpWord.TheVariants as words
use Rattle.initiator_base.specs.declared.fifos.Fifo.TheVariants as fifos
use Rattle.sbp_initiator.specs.declared.purpose.Ending.TheVariants as endings
use Rattle.sbp_initiator.specs.declared.purpose.Purpose.TheVariants as purposes

-- ---- the steps of the slots

dropped : (lists : ListState) → (drop_lists lists).1.answers ≡ lists.answers
unfolding drop_lists
dropped lists = refl

unpinned : (lists : ListState) → (unpin_lists lists).answers ≡ lists.answers
unfolding unpin_lists
unpinned lists = refl

taken : (lists : ListState) (block : StatusBlock) → (take_lists lists block).1.answers ≡ lists.answers
unfolding take_lists
taken lists block = refl

wrote : (lists : ListState) (offset : ℕ) (bytes : List ℕ) → (write_lists lists offset bytes).1.answers ≡ lists.answers
unfolding write_lists
wrote lists offset bytes = refl

-- ---- what follows of a call

module _ (old : List AnswerPlan) where
  abbrev K : InitiatorState → Type 0
  K s = s.lists.answers ≡ old

  pick : (b : Bool) (x y : Turn) → K x.1 → K y.1 → K (cond b x y).1
  pick true x y h i = h
  pick false x y h i = i

  pick_state : (b : Bool) (u v : InitiatorState) → K u → K v → K (cond b u v)
  pick_state true u v h i = h
  pick_state false u v h i = i

  -- ---- the end of a transaction

  drop_as : (r : Option ℕ × ListState) (o : OutboxState) (s : InitiatorState) → r.1.answers ≡ old → K (dropped_as r o s).1
  drop_as (None, lists) o s k = k
  drop_as (Some n, lists) o s k = k

  drops : (o : OutboxState) (s : InitiatorState) → K s → K (drop_list_step o s).1
  drops o s k = drop_as (drop_lists s.lists) o s (dropped s.lists ∙ k)

  ends : (operation : Operation) (word : OpWord) (o : OutboxState) (s : InitiatorState) → K s → K (end_step operation word o s).1
  ends operation word o s k = unpinned s.lists ∙ k

  owns_for : (found : Option Running) (act : ℕ) (word : OpWord) (o : OutboxState) (s : InitiatorState) → K s → K (end_own_for found act word o s).1
  owns_for None act word o s k = k
  owns_for (Some running) act word o s k = pick (running.act == act) (end_step running.operation word o s) (o, s) (ends running.operation word o s k) k

  owns : (act : ℕ) (word : OpWord) (o : OutboxState) (s : InitiatorState) → K s → K (end_own_step act word o s).1
  owns act word o s k = owns_for s.operation act word o s k

  sticks : (o : OutboxState) (s : InitiatorState) → K s → K (stick_step o s).1
  sticks o s k = k

  fails : (act : ℕ) (o : OutboxState) (s : InitiatorState) → K s → K (fail_step act o s).1
  fails act o s k = let t = end_own_step act words.Error o s in sticks t.0 t.1 (owns act words.Error o s k)

  points : (list : ℕ) (ending : Ending) (o : OutboxState) (s : InitiatorState) → K s → K (pointer_ended list ending o s).1
  points list (endings.Complete value) o s k = pick_state (is_list s.lists.slots.present list) _ _ k k
  points list (endings.Refused rcode) o s k = sticks o s k
  points list endings.Expired o s k = sticks o s k

  rings : (ending : Ending) (o : OutboxState) (s : InitiatorState) → K s → K (doorbell_ended ending o s).1
  rings (endings.Complete value) o s k = k
  rings (endings.Refused rcode) o s k = sticks o s k
  rings endings.Expired o s k = sticks o s k

  resets : (act : ℕ) (ending : Ending) (o : OutboxState) (s : InitiatorState) → K s → K (reset_ended act ending o s).1
  resets act (endings.Complete value) o s k = let t = drop_list_step o s in owns act words.Done t.0 t.1 (drops o s k)
  resets act (endings.Refused rcode) o s k = fails act o s k
  resets act endings.Expired o s k = fails act o s k

  enables : (act : ℕ) (ending : Ending) (o : OutboxState) (s : InitiatorState) → K s → K (enable_ended act ending o s).1
  enables act (endings.Complete value) o s k = owns act words.Done o s k
  enables act (endings.Refused rcode) o s k = fails act o s k
  enables act endings.Expired o s k = fails act o s k

  moves : (operation : Operation) (event : Event) (o : OutboxState) (s : InitiatorState) → K s → K (moved operation event s)
  moves operation event o s k = pick_state (moves_session operation) _ s k k

  conflicts_for : (found : Option Running) (act : ℕ) (o : OutboxState) (s : InitiatorState) → K s → K (conflict_for found act o s).1
  conflicts_for None act o s k = k
  conflicts_for (Some running) act o s k =
      let u = moved running.operation conflict s in
      pick (running.act == act) (end_step running.operation words.Conflict o u) (o, s) (ends running.operation words.Conflict o u (moves running.operation conflict o s k)) k

  manages : (act : ℕ) (ending : Ending) (o : OutboxState) (s : InitiatorState) → K s → K (management_ended act ending o s).1
  manages act (endings.Complete value) o s k = k
  manages act (endings.Refused rcode) o s k = pick (is_conflict rcode) (conflict_step act o s) (fail_step act o s) (conflicts_for s.operation act o s k) (fails act o s k)
  manages act endings.Expired o s k = fails act o s k

  drops_where : (b : Bool) (o : OutboxState) (s : InitiatorState) → K s → K (drop_where b o s).1
  drops_where true o s k = drops o s k
  drops_where false o s k = k

  ends_good : (running : Running) (o : OutboxState) (s : InitiatorState) → K s → K (good_end running o s).1
  ends_good running o s k =
      let event = good_event running.operation (response_of running s) in
      ends running.operation (good_word running.operation (response_of running s)) o (moved running.operation event s) (moves running.operation event o s k)

  managed : (running : Running) (status : ℕ) (o : OutboxState) (s : InitiatorState) → K s → K (managed_step running status o s).1
  managed running status o s k =
      let t = drop_where (ends_list (Some running.operation)) o s in
      pick (status == 0) (good_end running t.0 t.1) (end_step running.operation (words.Refused status) o (moved running.operation bad s))
      (ends_good running t.0 t.1 (drops_where (ends_list (Some running.operation)) o s k))
      (ends running.operation (words.Refused status) o (moved running.operation bad s) (moves running.operation bad o s k))

  -- ---- the target's ROM

  unit_read : (unit : Option SbpUnit) (act : ℕ) (o : OutboxState) (s : InitiatorState) → K s → K (with_unit unit act o s).1
  unit_read None act o s k = owns act words.NoUnit o s k
  unit_read (Some unit) act o s k =
      let u = record s { management = Some (management_at unit.management) } in owns act words.Done o u (k)

  rom_read : (tree : Result Tree RomFault) (act : ℕ) (o : OutboxState) (s : InitiatorState) → K s → K (with_rom tree act o s).1
  rom_read (Ok tree) act o s k = unit_read (sbp_unit_of tree.blocks tree.entries) act o s k
  rom_read (Err fault) act o s k = owns act (words.Bad (fault_number fault)) o s k

  quad_asked : (r : Option Asked × Layer Purpose) (act : ℕ) (o : OutboxState) (s : InitiatorState) → K s → K (asked_quad r act o s).1
  quad_asked (Some asked, layer) act o s k = k
  quad_asked (None, layer) act o s k = owns act words.Error o (record s { layer = layer }) k

  quads : (act : ℕ) (o : OutboxState) (s : InitiatorState) → K s → K (quad_got act o s).1
  quads act o s k = pick (length s.quads == 256) (finish_rom act o s) (ask_quad act o s) (rom_read (reading s.quads) act o s k) (quad_asked (asking_step s.layer s.target (next_quad s.quads) (purposes.Rom act)) act o s k)

  roms : (act : ℕ) (ending : Ending) (o : OutboxState) (s : InitiatorState) → K s → K (rom_ended act ending o s).1
  roms act (endings.Complete value) o s k = quads act o (record s { quads = with_quad s.quads value }) k
  roms act (endings.Refused rcode) o s k = pick (is_address rcode) (finish_rom act o s) (end_own_step act words.Error o s) (rom_read (reading s.quads) act o s k) (owns act words.Error o s k)
  roms act endings.Expired o s k = owns act words.Error o s k

  -- ---- the state of the agent

  knows : (value : ℕ) (o : OutboxState) (s : InitiatorState) → K s → K (known_step value o s).1
  knows value o s k = pick (value == 0) (drop_list_step o s) (o, cond (value == 3) (with_dead s) s) (drops o s k) (pick_state (value == 3) (with_dead s) s k k)

  knows_where : (b : Bool) (value : ℕ) (o : OutboxState) (s : InitiatorState) → K s → K (known_where b value o s).1
  knows_where true value o s k = knows value o s k
  knows_where false value o s k = k

  state_tells : (act : ℕ) (word : OpWord) (o : OutboxState) (s : InitiatorState) → K s → K (state_told act word o s).1
  state_tells act word o s k = k

  states : (act : ℕ) (list : Option ℕ) (ending : Ending) (o : OutboxState) (s : InitiatorState) → K s → K (state_ended act list ending o s).1
  states act list (endings.Complete value) o s k =
      let b = counts_for s.lists.slots.present list in
      let t = known_where b value o s in state_tells act (words.State value) t.0 t.1 (knows_where b value o s k)
  states act list (endings.Refused rcode) o s k = state_tells act words.Error o s k
  states act list endings.Expired o s k = state_tells act words.Error o s k

  -- ---- by what the transaction was for

  ended : (purpose : Purpose) (ending : Ending) (o : OutboxState) (s : InitiatorState) → K s → K (ended_step purpose ending o s).1
  unfolding ended_step
  ended (purposes.Pointer list) ending o s k = points list ending o s k
  ended purposes.Doorbell ending o s k = rings ending o s k
  ended (purposes.AgentReset act) ending o s k = resets act ending o s k
  ended (purposes.Enable act) ending o s k = enables act ending o s k
  ended (purposes.Management act) ending o s k = manages act ending o s k
  ended (purposes.Rom act) ending o s k = roms act ending o s k
  ended (purposes.State act list) ending o s k = states act list ending o s k

  for_left : (purpose : Option Purpose) (ending : Ending) (o : OutboxState) (s : InitiatorState) → K s → K (ended_for purpose ending o s).1
  for_left None ending o s k = k
  for_left (Some purpose) ending o s k = ended purpose ending o s k

  -- ---- a request is answered

  responds_as : (r : List ℕ × Layer Purpose) (source : ℕ) (o : OutboxState) (s : InitiatorState) → K s → K (responded_as r source o s).1
  responds_as (response, layer) source o s k = k

  responds : (p : Packet) (bytes : List ℕ) (rcode : ℕ) (given : List ℕ) (t : Turn) → K t.1 → K (respond_step p bytes rcode given t).1
  responds p bytes rcode given t k = responds_as (answering_step t.1.layer p bytes rcode given) (header_in p).source t.0 t.1 k

  module _ (bytes : List ℕ) (o : OutboxState) where
    abbrev J : Judged × Turn → Type 0
    J r = K r.1.1

    pick_judged : (b : Bool) (x y : Judged × Turn) → J x → J y → J (cond b x y)
    pick_judged true x y h i = h
    pick_judged false x y h i = i

    takes : (r : Option TicketParts × ListState) (kind : StatusKind) (p : Packet) (s : InitiatorState) → r.1.answers ≡ old → J (taken_as r kind p bytes o s)
    takes (None, lists) kind p s k = responds p bytes 0 [] (o, record s { lists = lists }) k
    takes (Some t, lists) kind p s k =
        let u = record (called s) { lists = lists } in
        responds p bytes 0 [] (taken_by t lists kind o (called s)) (pick_state (is_dead_kind kind) (with_dead u) u k k)

    manages_for : (found : Option Running) (status : ℕ) (p : Packet) (s : InitiatorState) → K s → J (managed_for found status p bytes o s)
    manages_for None status p s k = responds p bytes 0 [] (o, s) k
    manages_for (Some running) status p s k = responds p bytes 0 [] (managed_step running status o (called s)) (managed running status o (called s) (k))

    blocks_by : (kind : StatusKind) (block : StatusBlock) (p : Packet) (s : InitiatorState) → K s → J (block_by kind block p bytes o s)
    blocks_by (kinds.Management status) block p s k = manages_for (present_for block.orb s.operation) status p s k
    blocks_by kinds.Good block p s k = takes (take_lists s.lists block) kinds.Good p s (taken s.lists block ∙ k)
    blocks_by (kinds.Check sense) block p s k = takes (take_lists s.lists block) (kinds.Check sense) p s (taken s.lists block ∙ k)
    blocks_by kinds.Dummy block p s k = takes (take_lists s.lists block) kinds.Dummy p s (taken s.lists block ∙ k)
    blocks_by kinds.Aborted block p s k = takes (take_lists s.lists block) kinds.Aborted p s (taken s.lists block ∙ k)
    blocks_by (kinds.Illegal meaning) block p s k = takes (take_lists s.lists block) (kinds.Illegal meaning) p s (taken s.lists block ∙ k)
    blocks_by kinds.Failed block p s k = takes (take_lists s.lists block) kinds.Failed p s (taken s.lists block ∙ k)

    blocks : (r : Result StatusBlock OrbFault) (p : Packet) (s : InitiatorState) → K s → J (block_step r p bytes o s)
    blocks (Err fault) p s k = responds p bytes 5 [] (o, s) k
    blocks (Ok block) p s k = blocks_by block.kind block p s k

    statuses : (is_login : Bool) (payload : List ℕ) (p : Packet) (s : InitiatorState) → K s → J (status_step is_login payload p bytes o s)
    statuses is_login payload p s k =
        pick_judged (is_login && is_block payload) (got_step p bytes (told o (notes.Told s.number), called s)) (block_step (status_in payload) p bytes o s)
        (responds p bytes 0 [] (told o (notes.Told s.number), called s) (k))
        (blocks (status_in payload) p s k)

    reads_as : (r : ℕ × List ℕ) (p : Packet) (s : InitiatorState) → K s → J (read_as r p bytes o s)
    reads_as (rcode, out) p s k = responds p bytes rcode out (o, called s) (k)

    writes_as : (r : ℕ × ListState) (p : Packet) (s : InitiatorState) → r.1.answers ≡ old → J (written_as r p bytes o s)
    writes_as (rcode, lists) p s k = responds p bytes rcode [] (o, record (called s) { lists = lists }) (k)

    unserved : (p : Packet) (s : InitiatorState) → K s → K (respond_step p bytes type_error [] (o, called s)).1
    unserved p s k = responds p bytes type_error [] (o, called s) (k)

    serves : (p : Packet) (s : InitiatorState) → K s → J (serve_step p bytes o s)
    serves (read_quadlet header offset) s k = reads_as (read_step s.lists.memory offset (replicate 4 0)) (read_quadlet header offset) s k
    serves (read_block header offset asked) s k = reads_as (read_step s.lists.memory offset (replicate asked 0)) (read_block header offset asked) s k
    serves (write_quadlet header offset value) s k = writes_as (write_lists s.lists offset (big_bytes 4 value)) (write_quadlet header offset value) s (wrote s.lists offset (big_bytes 4 value) ∙ k)
    serves (write_block header offset payload) s k = writes_as (write_lists s.lists offset payload) (write_block header offset payload) s (wrote s.lists offset payload ∙ k)
    serves (lock header offset extended payload) s k = unserved (lock header offset extended payload) s k
    serves (lock_response header rcode extended payload) s k = unserved (lock_response header rcode extended payload) s k
    serves (write_response header rcode) s k = unserved (write_response header rcode) s k
    serves (read_quadlet_response header rcode value) s k = unserved (read_quadlet_response header rcode value) s k
    serves (read_block_response header rcode payload) s k = unserved (read_block_response header rcode payload) s k

    block_ats : (fifo : Option Fifo) (payload : List ℕ) (p : Packet) (s : InitiatorState) → K s → J (block_at fifo payload p bytes o s)
    block_ats None payload p s k = serves p s k
    block_ats (Some fifos.Closed) payload p s k = responds p bytes address_error [] (o, s) k
    block_ats (Some fifos.Login) payload p s k = statuses true payload p s k
    block_ats (Some fifos.Place) payload p s k = statuses false payload p s k

    quadlet_ats : (fifo : Option Fifo) (p : Packet) (s : InitiatorState) → K s → J (quadlet_at fifo p bytes o s)
    quadlet_ats None p s k = serves p s k
    quadlet_ats (Some fifos.Closed) p s k = responds p bytes address_error [] (o, s) k
    quadlet_ats (Some fifos.Login) p s k = serves p s k
    quadlet_ats (Some fifos.Place) p s k = serves p s k

    addresses : (p : Packet) (s : InitiatorState) → K s → J (addressed p bytes o s)
    addresses (write_block header offset payload) s k = block_ats (fifo_of s offset) payload (write_block header offset payload) s k
    addresses (write_quadlet header offset value) s k = quadlet_ats (fifo_of s offset) (write_quadlet header offset value) s k
    addresses (read_quadlet header offset) s k = serves (read_quadlet header offset) s k
    addresses (read_block header offset asked) s k = serves (read_block header offset asked) s k
    addresses (lock header offset extended payload) s k = serves (lock header offset extended payload) s k
    addresses (lock_response header rcode extended payload) s k = serves (lock_response header rcode extended payload) s k
    addresses (write_response header rcode) s k = serves (write_response header rcode) s k
    addresses (read_quadlet_response header rcode value) s k = serves (read_quadlet_response header rcode value) s k
    addresses (read_block_response header rcode payload) s k = serves (read_block_response header rcode payload) s k

    requests : (p : Packet) (s : InitiatorState) → K s → J (request_step p bytes o s)
    requests p s k = pick_judged (is_foreign p s) (ignored_step causes.Source address_error p bytes (o, s)) (addressed p bytes o s) (responds p bytes address_error [] (o, s) k) (addresses p s k)

-- ---- a delivery and a time-out

received_plans : (x : Finding Purpose × Layer Purpose) (bytes : List ℕ) (o : OutboxState) (s : InitiatorState) → (received x bytes o s).1.1.lists.answers ≡ s.lists.answers
received_plans (of_generation, layer) bytes o s = refl
received_plans (of_grammar, layer) bytes o s = refl
received_plans (of_label, layer) bytes o s = refl
received_plans (of_response p label purpose, layer) bytes o s = for_left s.lists.answers purpose (ending_of p) o (called (record s { layer = layer })) refl
received_plans (of_again p rcode, layer) bytes o s = responds s.lists.answers p bytes rcode [] (o, record s { layer = layer }) refl
received_plans (of_request p, layer) bytes o s = requests s.lists.answers bytes o p (record s { layer = layer }) refl

pub receive_plans : (generation : ℕ) (bytes : List ℕ) (o : OutboxState) (s : InitiatorState) → (receive_step generation bytes o s).1.1.lists.answers ≡ s.lists.answers
unfolding receive_step
receive_plans generation bytes o s = received_plans (judging_step s.layer generation bytes) bytes o s

expired_plans : (r : Result (Option Purpose) Stale × Layer Purpose) (o : OutboxState) (s : InitiatorState) → (expired_as r o s).1.1.lists.answers ≡ s.lists.answers
expired_plans (Err stale, layer) o s = refl
expired_plans (Ok purpose, layer) o s = for_left s.lists.answers purpose endings.Expired o (called (record s { layer = layer })) refl

pub expire_plans : (label : LabelParts) (o : OutboxState) (s : InitiatorState) → (expire_step label o s).1.1.lists.answers ≡ s.lists.answers
unfolding expire_step
expire_plans label o s = expired_plans (expiring_step s.layer s.target label) o s

-- ---- a generation is seen

freed : (lists : ListState) → (free_lists lists).answers ≡ lists.answers
unfolding free_lists
freed lists = refl

seen_plans : (r : Bool × Layer Purpose) (target : ℕ) (o : OutboxState) (s : InitiatorState) → (seen_as r target o s).1.lists.answers ≡ s.lists.answers
seen_plans (false, layer) target o s = refl
seen_plans (true, layer) target o s =
    let u = interrupted (record s { layer = layer }) target in
    let told_now = resets_told s.number s.operation s.states o in
    freed (drop_list_step told_now u).1.lists ∙ drops s.lists.answers told_now u refl

pub see_plans : (generation id target : ℕ) (o : OutboxState) (s : InitiatorState) → (see_step generation id target o s).1.lists.answers ≡ s.lists.answers
unfolding see_step
see_plans generation id target o s = seen_plans (seeing_step s.layer generation id) target o s
