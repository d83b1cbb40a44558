-- What an initiator that hears a packet tells of the statuses that it takes.
use Rattle.sbp_world.proofs.Words.Std.{◌≡◌, refl, ℕ, nat_lt, ◌==◌, ◌&&◌, Bool, true, false, cond, List, [], ◌∷◌, ◌++◌, length, replicate, Option, Some, None, Result, Ok, Err, AllByRecursion, big_bytes}
use Rattle.sbp_world.proofs.Words.Wire.{Header, Packet, header_in, lock, lock_response, read_block, read_block_response, read_quadlet, read_quadlet_response, write_block, write_quadlet, write_response, LabelParts, Asked, Stale, Finding, Layer, answering_step, asking_step, judging_step, of_again, of_generation, of_grammar, of_label, of_request, of_response, expiring_step, seeing_step, OutboxState, empty_outbox, Judged, Note, Operation, OpWord, Side}
use Rattle.sbp_world.proofs.Words.Target.{RomFault, SbpUnit, Tree, reading, sbp_unit_of, is_block}
use Rattle.sbp_world.proofs.Words.Initiator.{read_step, OrbFault, StatusBlock, StatusKind, ListState, drop_lists, take_lists, write_lists, TicketParts, Event, bad, conflict, is_stuck_seat, Fifo, management_at, with_quad, Ending, Purpose, Running, all_end, interrupted, reset_told, resets_told, see_step, seen_as, states_end, InitiatorState, Turn, ask_quad, asked_quad, conflict_for, conflict_step, doorbell_ended, drop_list_step, drop_where, dropped_as, enable_ended, end_own_for, end_own_step, end_step, ended_for, ended_step, fail_step, fault_number, finish_rom, good_end, good_event, good_word, is_address, is_conflict, known_step, known_where, managed_step, management_ended, moved, next_quad, pointer_ended, quad_got, reset_ended, response_of, rom_ended, state_ended, state_told, stick_step, told, with_dead, with_rom, with_unit, expire_step, expired_as, address_error, addressed, answer_of, block_at, block_by, block_step, called, fifo_of, got_step, ignored_step, is_foreign, managed_for, present_for, quadlet_at, read_as, receive_step, received, request_step, respond_step, responded_as, serve_step, status_step, taken_as, taken_by, type_error, written_as, ends_list, counts_for, ending_of, status_in}
use Rattle.orb_layout.specs.declared.status.StatusKind.TheVariants as kinds
use Rattle.sbp_journal.specs.declared.cause.Cause.TheVariants as causes
use Rattle.sbp_journal.specs.declared.note.Note.TheVariants as notes
use Rattle.sbp_journal.specs.declared.operation.Operation.TheVariants as operations
use Rattle.sbp_journal.specs.declared.operation.OpWord.TheVariants as words
use Rattle.sbp_journal.specs.declared.side.Side.TheVariants as sides
use Rattle.initiator_base.specs.declared.fifos.Fifo.TheVariants as fifos
use Rattle.sbp_initiator.specs.declared.purpose.Ending.TheVariants as endings
use Rattle.sbp_initiator.specs.declared.purpose.Purpose.TheVariants as purposes

-- what is said of each good status that is taken
abbrev pub Says : ((j n k : ℕ) → List ℕ → Type 0) → Note → Type 0
Says P (notes.Taken j n k kinds.Good answer) = P j n k answer
Says P _ = Unit {0}

abbrev pub IsSaying : ((j n k : ℕ) → List ℕ → Type 0) → Side → Type 0
IsSaying P (sides.Own note) = Says P note
IsSaying P _ = Unit {0}

abbrev pub AllSay : ((j n k : ℕ) → List ℕ → Type 0) → List Side → Type 0
AllSay P told = AllByRecursion (IsSaying P) told

-- a block that is written to a FIFO
pub record IsToFifo (p : Packet) (s : InitiatorState) : Type 0 where
  pub header : Header
  pub offset : ℕ
  pub payload : List ℕ
  pub is : p ≡ write_block header offset payload
  pub fifo : Fifo
  pub at : fifo_of s offset ≡ Some fifo

module _ (P : (j n k : ℕ) → List ℕ → Type 0) where
  more : (told : List Side) (side : Side) → AllSay P told → IsSaying P side → AllSay P (told ++ side ∷ [])
  more [] side h f = (f, tt)
  more (first ∷ told) side h f = (h.0, more told side h.1 f)

  abbrev K : OutboxState → Type 0
  K o = AllSay P o.sides

  pick : (b : Bool) (x y : Turn) → K x.0 → K y.0 → K (cond b x y).0
  pick true x y h i = h
  pick false x y h i = i

  pick_state : (b : Bool) (o : OutboxState) (u v : InitiatorState) → K o → K o → K o
  pick_state b o u v h i = h

  pick_outbox : (b : Bool) (o p : OutboxState) (u : InitiatorState) → K o → K p → K (cond b o p)
  pick_outbox true o p u h i = h
  pick_outbox false o p u h i = i

  -- ---- the end of a transaction

  drop_as : (r : Option ℕ × ListState) (o : OutboxState) (s : InitiatorState) → K o → K (dropped_as r o s).0
  drop_as (None, lists) o s k = k
  drop_as (Some n, lists) o s k = more o.sides (sides.Own (notes.Drop s.number n)) k tt

  drops : (o : OutboxState) (s : InitiatorState) → K o → K (drop_list_step o s).0
  drops o s k = drop_as (drop_lists s.lists) o s k

  ends : (operation : Operation) (word : OpWord) (o : OutboxState) (s : InitiatorState) → K o → K (end_step operation word o s).0
  ends operation word o s k = more o.sides (sides.Own (notes.Op s.number operation word)) k tt

  owns_for : (found : Option Running) (act : ℕ) (word : OpWord) (o : OutboxState) (s : InitiatorState) → K o → K (end_own_for found act word o s).0
  owns_for None act word o s k = k
  owns_for (Some running) act word o s k = pick (running.act == act) (end_step running.operation word o s) (o, s) (ends running.operation word o s k) k

  owns : (act : ℕ) (word : OpWord) (o : OutboxState) (s : InitiatorState) → K o → K (end_own_step act word o s).0
  owns act word o s k = owns_for s.operation act word o s k

  sticks : (o : OutboxState) (s : InitiatorState) → K o → K (stick_step o s).0
  sticks o s k =
      let u = (stick_step o s).1 in
      pick_outbox (is_stuck_seat s.seat) o (told o (notes.Stuck s.number)) u (k) (more o.sides (sides.Own (notes.Stuck s.number)) k tt)

  fails : (act : ℕ) (o : OutboxState) (s : InitiatorState) → K o → K (fail_step act o s).0
  fails act o s k = let t = end_own_step act words.Error o s in sticks t.0 t.1 (owns act words.Error o s k)

  points : (list : ℕ) (ending : Ending) (o : OutboxState) (s : InitiatorState) → K o → K (pointer_ended list ending o s).0
  points list (endings.Complete value) o s k = k
  points list (endings.Refused rcode) o s k = sticks o s k
  points list endings.Expired o s k = sticks o s k

  rings : (ending : Ending) (o : OutboxState) (s : InitiatorState) → K o → K (doorbell_ended ending o s).0
  rings (endings.Complete value) o s k = k
  rings (endings.Refused rcode) o s k = sticks o s k
  rings endings.Expired o s k = sticks o s k

  resets : (act : ℕ) (ending : Ending) (o : OutboxState) (s : InitiatorState) → K o → K (reset_ended act ending o s).0
  resets act (endings.Complete value) o s k = let t = drop_list_step o s in owns act words.Done t.0 t.1 (drops o s k)
  resets act (endings.Refused rcode) o s k = fails act o s k
  resets act endings.Expired o s k = fails act o s k

  enables : (act : ℕ) (ending : Ending) (o : OutboxState) (s : InitiatorState) → K o → K (enable_ended act ending o s).0
  enables act (endings.Complete value) o s k = owns act words.Done o s k
  enables act (endings.Refused rcode) o s k = fails act o s k
  enables act endings.Expired o s k = fails act o s k

  moves : (operation : Operation) (event : Event) (o : OutboxState) (s : InitiatorState) → K o → K o
  moves operation event o s k = k

  conflicts_for : (found : Option Running) (act : ℕ) (o : OutboxState) (s : InitiatorState) → K o → K (conflict_for found act o s).0
  conflicts_for None act o s k = k
  conflicts_for (Some running) act o s k =
      let u = moved running.operation conflict s in
      pick (running.act == act) (end_step running.operation words.Conflict o u) (o, s) (ends running.operation words.Conflict o u (moves running.operation conflict o s k)) k

  manages : (act : ℕ) (ending : Ending) (o : OutboxState) (s : InitiatorState) → K o → K (management_ended act ending o s).0
  manages act (endings.Complete value) o s k = k
  manages act (endings.Refused rcode) o s k = pick (is_conflict rcode) (conflict_step act o s) (fail_step act o s) (conflicts_for s.operation act o s k) (fails act o s k)
  manages act endings.Expired o s k = fails act o s k

  drops_where : (b : Bool) (o : OutboxState) (s : InitiatorState) → K o → K (drop_where b o s).0
  drops_where true o s k = drops o s k
  drops_where false o s k = k

  ends_good : (running : Running) (o : OutboxState) (s : InitiatorState) → K o → K (good_end running o s).0
  ends_good running o s k =
      let event = good_event running.operation (response_of running s) in
      ends running.operation (good_word running.operation (response_of running s)) o (moved running.operation event s) (moves running.operation event o s k)

  managed : (running : Running) (status : ℕ) (o : OutboxState) (s : InitiatorState) → K o → K (managed_step running status o s).0
  managed running status o s k =
      let t = drop_where (ends_list (Some running.operation)) o s in
      pick (status == 0) (good_end running t.0 t.1) (end_step running.operation (words.Refused status) o (moved running.operation bad s))
      (ends_good running t.0 t.1 (drops_where (ends_list (Some running.operation)) o s k))
      (ends running.operation (words.Refused status) o (moved running.operation bad s) (moves running.operation bad o s k))

  -- ---- the target's ROM

  unit_read : (unit : Option SbpUnit) (act : ℕ) (o : OutboxState) (s : InitiatorState) → K o → K (with_unit unit act o s).0
  unit_read None act o s k = owns act words.NoUnit o s k
  unit_read (Some unit) act o s k =
      let u = record s { management = Some (management_at unit.management) } in owns act words.Done o u (k)

  rom_read : (tree : Result Tree RomFault) (act : ℕ) (o : OutboxState) (s : InitiatorState) → K o → K (with_rom tree act o s).0
  rom_read (Ok tree) act o s k = unit_read (sbp_unit_of tree.blocks tree.entries) act o s k
  rom_read (Err fault) act o s k = owns act (words.Bad (fault_number fault)) o s k

  quad_asked : (r : Option Asked × Layer Purpose) (act : ℕ) (o : OutboxState) (s : InitiatorState) → K o → K (asked_quad r act o s).0
  quad_asked (Some asked, layer) act o s k = k
  quad_asked (None, layer) act o s k = owns act words.Error o (record s { layer = layer }) k

  quads : (act : ℕ) (o : OutboxState) (s : InitiatorState) → K o → K (quad_got act o s).0
  quads act o s k = pick (length s.quads == 256) (finish_rom act o s) (ask_quad act o s) (rom_read (reading s.quads) act o s k) (quad_asked (asking_step s.layer s.target (next_quad s.quads) (purposes.Rom act)) act o s k)

  roms : (act : ℕ) (ending : Ending) (o : OutboxState) (s : InitiatorState) → K o → K (rom_ended act ending o s).0
  roms act (endings.Complete value) o s k = quads act o (record s { quads = with_quad s.quads value }) k
  roms act (endings.Refused rcode) o s k = pick (is_address rcode) (finish_rom act o s) (end_own_step act words.Error o s) (rom_read (reading s.quads) act o s k) (owns act words.Error o s k)
  roms act endings.Expired o s k = owns act words.Error o s k

  -- ---- the state of the agent

  knows : (value : ℕ) (o : OutboxState) (s : InitiatorState) → K o → K (known_step value o s).0
  knows value o s k = pick (value == 0) (drop_list_step o s) (o, cond (value == 3) (with_dead s) s) (drops o s k) (pick_state (value == 3) o (with_dead s) s (k) k)

  knows_where : (b : Bool) (value : ℕ) (o : OutboxState) (s : InitiatorState) → K o → K (known_where b value o s).0
  knows_where true value o s k = knows value o s k
  knows_where false value o s k = k

  state_tells : (act : ℕ) (word : OpWord) (o : OutboxState) (s : InitiatorState) → K o → K (state_told act word o s).0
  state_tells act word o s k = more o.sides (sides.Own (notes.Op s.number operations.State word)) k tt

  states : (act : ℕ) (list : Option ℕ) (ending : Ending) (o : OutboxState) (s : InitiatorState) → K o → K (state_ended act list ending o s).0
  states act list (endings.Complete value) o s k =
      let b = counts_for s.lists.slots.present list in
      let t = known_where b value o s in state_tells act (words.State value) t.0 t.1 (knows_where b value o s k)
  states act list (endings.Refused rcode) o s k = state_tells act words.Error o s k
  states act list endings.Expired o s k = state_tells act words.Error o s k

  -- ---- by what the transaction was for

  ended : (purpose : Purpose) (ending : Ending) (o : OutboxState) (s : InitiatorState) → K o → K (ended_step purpose ending o s).0
  unfolding ended_step
  ended (purposes.Pointer list) ending o s k = points list ending o s k
  ended purposes.Doorbell ending o s k = rings ending o s k
  ended (purposes.AgentReset act) ending o s k = resets act ending o s k
  ended (purposes.Enable act) ending o s k = enables act ending o s k
  ended (purposes.Management act) ending o s k = manages act ending o s k
  ended (purposes.Rom act) ending o s k = roms act ending o s k
  ended (purposes.State act list) ending o s k = states act list ending o s k

  for_left : (purpose : Option Purpose) (ending : Ending) (o : OutboxState) (s : InitiatorState) → K o → K (ended_for purpose ending o s).0
  for_left None ending o s k = k
  for_left (Some purpose) ending o s k = ended purpose ending o s k

  -- ---- a request is answered

  responds_as : (r : List ℕ × Layer Purpose) (source : ℕ) (o : OutboxState) (s : InitiatorState) → K o → K (responded_as r source o s).0
  responds_as (response, layer) source o s k = k

  responds : (p : Packet) (bytes : List ℕ) (rcode : ℕ) (given : List ℕ) (t : Turn) → K t.0 → K (respond_step p bytes rcode given t).0
  responds p bytes rcode given t k = responds_as (answering_step t.1.layer p bytes rcode given) (header_in p).source t.0 t.1 k

  module _ (bytes : List ℕ) (o : OutboxState) (s : InitiatorState) (heard : Packet) (says : IsToFifo heard s → (block : StatusBlock) (t : TicketParts) (lists : ListState) → take_lists s.lists block ≡ (Some t, lists) → P s.number t.list t.number (answer_of kinds.Good lists t.slot)) where
    abbrev J : Judged × Turn → Type 0
    J r = K r.1.0

    pick_judged : (b : Bool) (x y : Judged × Turn) → J x → J y → J (cond b x y)
    pick_judged true x y h i = h
    pick_judged false x y h i = i

    takes : (r : Option TicketParts × ListState) (kind : StatusKind) (p : Packet) → ((t : TicketParts) (lists : ListState) → r ≡ (Some t, lists) → Says P (notes.Taken s.number t.list t.number kind (answer_of kind lists t.slot))) → K o → J (taken_as r kind p bytes o s)
    takes (None, lists) kind p f k = responds p bytes 0 [] (o, record s { lists = lists }) k
    takes (Some t, lists) kind p f k =
        responds p bytes 0 [] (taken_by t lists kind o (called s)) (more o.sides (sides.Own (notes.Taken s.number t.list t.number kind (answer_of kind lists t.slot))) k (f t lists refl))

    manages_for : (found : Option Running) (status : ℕ) (p : Packet) → K o → J (managed_for found status p bytes o s)
    manages_for None status p k = responds p bytes 0 [] (o, s) k
    manages_for (Some running) status p k = responds p bytes 0 [] (managed_step running status o (called s)) (managed running status o (called s) (k))

    blocks_by : (kind : StatusKind) (block : StatusBlock) (p : Packet) → IsToFifo heard s → K o → J (block_by kind block p bytes o s)
    blocks_by (kinds.Management status) block p f k = manages_for (present_for block.orb s.operation) status p k
    blocks_by kinds.Good block p f k = takes (take_lists s.lists block) kinds.Good p (λ t lists e. says f block t lists e) k
    blocks_by (kinds.Check sense) block p f k = takes (take_lists s.lists block) (kinds.Check sense) p (λ t lists e. tt) k
    blocks_by kinds.Dummy block p f k = takes (take_lists s.lists block) kinds.Dummy p (λ t lists e. tt) k
    blocks_by kinds.Aborted block p f k = takes (take_lists s.lists block) kinds.Aborted p (λ t lists e. tt) k
    blocks_by (kinds.Illegal meaning) block p f k = takes (take_lists s.lists block) (kinds.Illegal meaning) p (λ t lists e. tt) k
    blocks_by kinds.Failed block p f k = takes (take_lists s.lists block) kinds.Failed p (λ t lists e. tt) k

    blocks : (r : Result StatusBlock OrbFault) (p : Packet) → IsToFifo heard s → K o → J (block_step r p bytes o s)
    blocks (Err fault) p f k = responds p bytes 5 [] (o, s) k
    blocks (Ok block) p f k = blocks_by block.kind block p f k

    statuses : (is_login : Bool) (payload : List ℕ) (p : Packet) → IsToFifo heard s → K o → J (status_step is_login payload p bytes o s)
    statuses is_login payload p f k =
        pick_judged (is_login && is_block payload) (got_step p bytes (told o (notes.Told s.number), called s)) (block_step (status_in payload) p bytes o s)
        (responds p bytes 0 [] (told o (notes.Told s.number), called s) (more o.sides (sides.Own (notes.Told s.number)) k tt))
        (blocks (status_in payload) p f k)

    reads_as : (r : ℕ × List ℕ) (p : Packet) → K o → J (read_as r p bytes o s)
    reads_as (rcode, out) p k = responds p bytes rcode out (o, called s) (k)

    writes_as : (r : ℕ × ListState) (p : Packet) → K o → J (written_as r p bytes o s)
    writes_as (rcode, lists) p k = responds p bytes rcode [] (o, record (called s) { lists = lists }) (k)

    unserved : (p : Packet) → K o → K (respond_step p bytes type_error [] (o, called s)).0
    unserved p k = responds p bytes type_error [] (o, called s) (k)

    serves : (p : Packet) → K o → J (serve_step p bytes o s)
    serves (read_quadlet header offset) k = reads_as (read_step s.lists.memory offset (replicate 4 0)) (read_quadlet header offset) k
    serves (read_block header offset asked) k = reads_as (read_step s.lists.memory offset (replicate asked 0)) (read_block header offset asked) k
    serves (write_quadlet header offset value) k = writes_as (write_lists s.lists offset (big_bytes 4 value)) (write_quadlet header offset value) k
    serves (write_block header offset payload) k = writes_as (write_lists s.lists offset payload) (write_block header offset payload) k
    serves (lock header offset extended payload) k = unserved (lock header offset extended payload) k
    serves (lock_response header rcode extended payload) k = unserved (lock_response header rcode extended payload) k
    serves (write_response header rcode) k = unserved (write_response header rcode) k
    serves (read_quadlet_response header rcode value) k = unserved (read_quadlet_response header rcode value) k
    serves (read_block_response header rcode payload) k = unserved (read_block_response header rcode payload) k

    block_ats : (fifo : Option Fifo) (payload : List ℕ) (p : Packet) → ((f : Fifo) → fifo ≡ Some f → IsToFifo heard s) → K o → J (block_at fifo payload p bytes o s)
    block_ats None payload p f k = serves p k
    block_ats (Some fifos.Closed) payload p f k = responds p bytes address_error [] (o, s) k
    block_ats (Some fifos.Login) payload p f k = statuses true payload p (f fifos.Login refl) k
    block_ats (Some fifos.Place) payload p f k = statuses false payload p (f fifos.Place refl) k

    quadlet_ats : (fifo : Option Fifo) (p : Packet) → K o → J (quadlet_at fifo p bytes o s)
    quadlet_ats None p k = serves p k
    quadlet_ats (Some fifos.Closed) p k = responds p bytes address_error [] (o, s) k
    quadlet_ats (Some fifos.Login) p k = serves p k
    quadlet_ats (Some fifos.Place) p k = serves p k

    addresses : (p : Packet) → heard ≡ p → K o → J (addressed p bytes o s)
    addresses (write_block header offset payload) e k = block_ats (fifo_of s offset) payload (write_block header offset payload) (λ f g. record { header = header; offset = offset; payload = payload; is = e; fifo = f; at = g }) k
    addresses (write_quadlet header offset value) e k = quadlet_ats (fifo_of s offset) (write_quadlet header offset value) k
    addresses (read_quadlet header offset) e k = serves (read_quadlet header offset) k
    addresses (read_block header offset asked) e k = serves (read_block header offset asked) k
    addresses (lock header offset extended payload) e k = serves (lock header offset extended payload) k
    addresses (lock_response header rcode extended payload) e k = serves (lock_response header rcode extended payload) k
    addresses (write_response header rcode) e k = serves (write_response header rcode) k
    addresses (read_quadlet_response header rcode value) e k = serves (read_quadlet_response header rcode value) k
    addresses (read_block_response header rcode payload) e k = serves (read_block_response header rcode payload) k

    requests : (p : Packet) → heard ≡ p → K o → J (request_step p bytes o s)
    requests p e k = pick_judged (is_foreign p s) (ignored_step causes.Source address_error p bytes (o, s)) (addressed p bytes o s) (responds p bytes address_error [] (o, s) k) (addresses p e k)

-- ---- a delivery

received_says : (P : (j n k : ℕ) → List ℕ → Type 0) (x : Finding Purpose × Layer Purpose) (bytes : List ℕ) (s : InitiatorState) → ((p : Packet) → x.0 ≡ of_request p → IsToFifo p s → (block : StatusBlock) (t : TicketParts) (lists : ListState) → take_lists s.lists block ≡ (Some t, lists) → P s.number t.list t.number (answer_of kinds.Good lists t.slot)) → AllSay P (received x bytes empty_outbox s).1.0.sides
received_says P (of_generation, layer) bytes s says = tt
received_says P (of_grammar, layer) bytes s says = tt
received_says P (of_label, layer) bytes s says = tt
received_says P (of_response p label purpose, layer) bytes s says = for_left P purpose (ending_of p) empty_outbox (called (record s { layer = layer })) tt
received_says P (of_again p rcode, layer) bytes s says = responds P p bytes rcode [] (empty_outbox, record s { layer = layer }) tt
received_says P (of_request p, layer) bytes s says = requests P bytes empty_outbox (record s { layer = layer }) p (λ f. says p refl (record { header = f.header; offset = f.offset; payload = f.payload; is = f.is; fifo = f.fifo; at = f.at })) p refl tt

pub receive_says : (P : (j n k : ℕ) → List ℕ → Type 0) (generation : ℕ) (bytes : List ℕ) (s : InitiatorState) → ((p : Packet) → (judging_step s.layer generation bytes).0 ≡ of_request p → IsToFifo p s → (block : StatusBlock) (t : TicketParts) (lists : ListState) → take_lists s.lists block ≡ (Some t, lists) → P s.number t.list t.number (answer_of kinds.Good lists t.slot)) → AllSay P (receive_step generation bytes empty_outbox s).1.0.sides
unfolding receive_step
receive_says P generation bytes s says = received_says P (judging_step s.layer generation bytes) bytes s says

-- ---- a time-out and a sight

expired_says : (P : (j n k : ℕ) → List ℕ → Type 0) (r : Result (Option Purpose) Stale × Layer Purpose) (s : InitiatorState) → AllSay P (expired_as r empty_outbox s).1.0.sides
expired_says P (Err stale, layer) s = tt
expired_says P (Ok purpose, layer) s = for_left P purpose endings.Expired empty_outbox (called (record s { layer = layer })) tt

pub expire_says : (P : (j n k : ℕ) → List ℕ → Type 0) (label : LabelParts) (s : InitiatorState) → AllSay P (expire_step label empty_outbox s).1.0.sides
unfolding expire_step
expire_says P label s = expired_says P (expiring_step s.layer s.target label) s

module _ (P : (j n k : ℕ) → List ℕ → Type 0) (number : ℕ) where
  reset_says : (operation : Operation) (o : OutboxState) → AllSay P o.sides → AllSay P (reset_told number operation o).sides
  reset_says operation o k = more P o.sides (sides.Own (notes.Op number operation words.Reset)) k tt

  states_say : (acts : List ℕ) (o : OutboxState) → AllSay P o.sides → AllSay P (states_end number acts o).sides
  states_say [] o k = k
  states_say (act ∷ acts) o k = states_say acts (reset_told number operations.State o) (reset_says operations.State o k)

  pick_says : (b : Bool) (o p : OutboxState) → AllSay P o.sides → AllSay P p.sides → AllSay P (cond b o p).sides
  pick_says true o p h i = h
  pick_says false o p h i = i

  ends_say : (running : Running) (acts : List ℕ) (o : OutboxState) → AllSay P o.sides → AllSay P (all_end number running acts o).sides
  ends_say running [] o k = reset_says running.operation o k
  ends_say running (act ∷ acts) o k =
      pick_says (nat_lt running.act act) (states_end number (act ∷ acts) (reset_told number running.operation o)) (all_end number running acts (reset_told number operations.State o))
      (states_say (act ∷ acts) (reset_told number running.operation o) (reset_says running.operation o k)) (ends_say running acts (reset_told number operations.State o) (reset_says operations.State o k))

  resets_say : (found : Option Running) (acts : List ℕ) (o : OutboxState) → AllSay P o.sides → AllSay P (resets_told number found acts o).sides
  resets_say None acts o k = states_say acts o k
  resets_say (Some running) acts o k = ends_say running acts o k

seen_says : (P : (j n k : ℕ) → List ℕ → Type 0) (r : Bool × Layer Purpose) (target : ℕ) (s : InitiatorState) → AllSay P (seen_as r target empty_outbox s).0.sides
seen_says P (false, layer) target s = tt
seen_says P (true, layer) target s =
    drops P (resets_told s.number s.operation s.states empty_outbox) (interrupted (record s { layer = layer }) target) (resets_say P s.number s.operation s.states empty_outbox tt)

pub see_says : (P : (j n k : ℕ) → List ℕ → Type 0) (generation id target : ℕ) (s : InitiatorState) → AllSay P (see_step generation id target empty_outbox s).0.sides
unfolding see_step
see_says P generation id target s = seen_says P (seeing_step s.layer generation id) target s
