-- Which calls of an initiator drop its list, beside actions: where a transaction ends that drops it, or a request comes while an operation that ends lists
-- is under way, or a later generation is seen. None drops the list of another one.
use Rattle.sbp_world.proofs.Words.Std.{◌≡◌, refl, ◌∙◌, ap, ℕ, ◌==◌, ◌&&◌, ◌||◌, nat_lt, Bool, true, false, cond, List, [], ◌∷◌, ◌++◌, length, replicate, Option, Some, None, Result, Ok, Err, big_bytes}
use Rattle.sbp_world.proofs.Words.Wire.{LabelParts, Packet, lock, lock_response, read_block, read_block_response, read_quadlet, read_quadlet_response, write_block, write_quadlet, write_response, Asked, Stale, Layer, Finding, of_again, of_generation, of_grammar, of_label, of_request, of_response, asking_step, expiring_step, judging_step, seeing_step, OutboxState, empty_outbox, Judged, Side, Operation, OpWord}
use Rattle.sbp_world.proofs.Words.Target.{RomFault, SbpUnit, Tree, rom_reading, sbp_unit_of, is_block}
use Rattle.sbp_world.proofs.Words.Initiator.{read_step, OrbFault, StatusBlock, StatusKind, PresentList, ListState, drop_lists, take_lists, write_lists, TicketParts, bad, conflict, is_stuck_seat, Fifo, with_quad, Ending, Purpose, Running, InitiatorState, Turn, ask_quad, asked_quad, conflict_for, drop_list_step, drop_where, dropped_as, enable_ended, end_own_for, end_own_step, end_step, moved, fail_step, fault_number, finish_rom, good_end, good_event, good_word, response_of, is_address, is_conflict, known_where, managed_step, management_ended, next_quad, pointer_ended, doorbell_ended, ended_step, quad_got, reset_ended, rom_ended, state_ended, stick_step, told, with_rom, with_unit, addressed, block_at, block_by, block_step, called, expire_step, expired_as, fifo_of, is_foreign, managed_for, present_for, quadlet_at, read_as, receive_step, received, request_step, serve_step, status_step, taken_as, written_as, ends_list, all_end, interrupted, reset_told, resets_told, see_step, seen_as, states_end, counts_for, ending_of, is_orb_of, operation_in, status_in, ends_the_list}
use Rattle.orb_layout.specs.declared.status.StatusKind.TheVariants as kinds
use Rattle.sbp_journal.specs.declared.note.Note.TheVariants as notes
use Rattle.sbp_journal.specs.declared.side.Side.TheVariants as sides
use Rattle.sbp_journal.specs.declared.operation.Operation.TheVariants as operations
use Rattle.sbp_journal.specs.declared.operation.OpWord.TheVariants as words
use Rattle.initiator_base.specs.declared.fifos.Fifo.TheVariants as fifos
use Rattle.sbp_initiator.specs.declared.purpose.Ending.TheVariants as endings
use Rattle.sbp_initiator.specs.declared.purpose.Purpose.TheVariants as purposes
use Rattle.sbp_world.proofs.Common.{untrue}

-- ---- a drop of the list of an initiator

abbrev pub is_drop : ℕ → Side → Bool
is_drop j (sides.Own (notes.Drop k n)) = k == j
is_drop j _ = false

abbrev pub drops_of : ℕ → List Side → Bool
drops_of j [] = false
drops_of j (side ∷ later) = is_drop j side || drops_of j later

-- the end of a transaction, or a request, may drop the list
abbrev pub may_drop : Finding Purpose → InitiatorState → Bool
may_drop (of_response p label (Some purpose)) s = ends_the_list purpose (ending_of p) s.lists.slots.present
may_drop (of_request p) s = ends_list (operation_in s.operation)
may_drop _ s = false

no_more : (b : Bool) → b ≡ false → (b || false) ≡ false
no_more true e = e
no_more false e = refl

pub more : (j : ℕ) (told : List Side) (side : Side) → is_drop j side ≡ false → drops_of j (told ++ side ∷ []) ≡ drops_of j told
more j [] side e = no_more (is_drop j side) e
more j (first ∷ told) side e = ap (λ b. is_drop j first || b) (more j told side e)

module _ (j : ℕ) where
  abbrev Same : OutboxState → Turn → Type 0
  Same o t = drops_of j t.0.sides ≡ drops_of j o.sides

  pick_same : (b : Bool) (o : OutboxState) (x y : Turn) → Same o x → Same o y → Same o (cond b x y)
  pick_same true o x y h k = h
  pick_same false o x y h k = k

  pick_told : (b : Bool) (o x y : OutboxState) → drops_of j x.sides ≡ drops_of j o.sides → drops_of j y.sides ≡ drops_of j o.sides → drops_of j (cond b x y).sides ≡ drops_of j o.sides
  pick_told true o x y h k = h
  pick_told false o x y h k = k

  stick_same : (o : OutboxState) (s : InitiatorState) → Same o (stick_step o s)
  stick_same o s = pick_told (is_stuck_seat s.seat) o _ _ refl (more j o.sides (sides.Own (notes.Stuck s.number)) refl)

  end_same : (operation : Operation) (word : OpWord) (o : OutboxState) (s : InitiatorState) → Same o (end_step operation word o s)
  end_same operation word o s = more j o.sides (sides.Own (notes.Op s.number operation word)) refl

  end_own_same : (operation : Option Running) (act : ℕ) (word : OpWord) (o : OutboxState) (s : InitiatorState) → Same o (end_own_for operation act word o s)
  end_own_same None act word o s = refl
  end_own_same (Some running) act word o s = pick_same (running.act == act) o _ _ (end_same running.operation word o s) refl

  fail_same : (act : ℕ) (o : OutboxState) (s : InitiatorState) → Same o (fail_step act o s)
  fail_same act o s =
      let t = end_own_step act words.Error o s in
      stick_same t.0 t.1 ∙ end_own_same s.operation act words.Error o s

  -- a drop is of the list of the initiator itself
  dropped_same : (r : Option ℕ × ListState) (o : OutboxState) (s : InitiatorState) → (s.number == j) ≡ false → Same o (dropped_as r o s)
  dropped_same (None, lists) o s away = refl
  dropped_same (Some n, lists) o s away = more j o.sides (sides.Own (notes.Drop s.number n)) away

  drop_same : (o : OutboxState) (s : InitiatorState) → (s.number == j) ≡ false → Same o (drop_list_step o s)
  drop_same o s away = dropped_same (drop_lists s.lists) o s away

  -- ---- the end of a transaction

  reset_same : (act : ℕ) (ending : Ending) (o : OutboxState) (s : InitiatorState) → (ends_the_list (purposes.AgentReset act) ending s.lists.slots.present ≡ true → (s.number == j) ≡ false) → Same o (reset_ended act ending o s)
  reset_same act (endings.Complete value) o s q = let t = drop_list_step o s in end_own_same t.1.operation act words.Done t.0 t.1 ∙ drop_same o s (q refl)
  reset_same act (endings.Refused rcode) o s q = fail_same act o s
  reset_same act endings.Expired o s q = fail_same act o s

  pointer_same : (list : ℕ) (ending : Ending) (o : OutboxState) (s : InitiatorState) → Same o (pointer_ended list ending o s)
  pointer_same list (endings.Complete value) o s = refl
  pointer_same list (endings.Refused rcode) o s = stick_same o s
  pointer_same list endings.Expired o s = stick_same o s

  doorbell_same : (ending : Ending) (o : OutboxState) (s : InitiatorState) → Same o (doorbell_ended ending o s)
  doorbell_same (endings.Complete value) o s = refl
  doorbell_same (endings.Refused rcode) o s = stick_same o s
  doorbell_same endings.Expired o s = stick_same o s

  enable_same : (act : ℕ) (ending : Ending) (o : OutboxState) (s : InitiatorState) → Same o (enable_ended act ending o s)
  enable_same act (endings.Complete value) o s = end_own_same s.operation act words.Done o s
  enable_same act (endings.Refused rcode) o s = fail_same act o s
  enable_same act endings.Expired o s = fail_same act o s

  conflict_same : (operation : Option Running) (act : ℕ) (o : OutboxState) (s : InitiatorState) → Same o (conflict_for operation act o s)
  conflict_same None act o s = refl
  conflict_same (Some running) act o s = pick_same (running.act == act) o _ _ (end_same running.operation words.Conflict o (moved running.operation conflict s)) refl

  management_same : (act : ℕ) (ending : Ending) (o : OutboxState) (s : InitiatorState) → Same o (management_ended act ending o s)
  management_same act (endings.Complete value) o s = refl
  management_same act (endings.Refused rcode) o s = pick_same (is_conflict rcode) o _ _ (conflict_same s.operation act o s) (fail_same act o s)
  management_same act endings.Expired o s = fail_same act o s

  zero_same : (b : Bool) (o : OutboxState) (s u : InitiatorState) → (b ≡ true → (s.number == j) ≡ false) → Same o (cond b (drop_list_step o s) (o, u))
  zero_same true o s u q = drop_same o s (q refl)
  zero_same false o s u q = refl

  known_same : (b : Bool) (value : ℕ) (o : OutboxState) (s : InitiatorState) → ((b && value == 0) ≡ true → (s.number == j) ≡ false) → Same o (known_where b value o s)
  known_same true value o s q = zero_same (value == 0) o s _ q
  known_same false value o s q = refl

  state_same : (act : ℕ) (list : Option ℕ) (ending : Ending) (o : OutboxState) (s : InitiatorState) → (ends_the_list (purposes.State act list) ending s.lists.slots.present ≡ true → (s.number == j) ≡ false) → Same o (state_ended act list ending o s)
  state_same act list (endings.Complete value) o s q =
      let t = known_where (counts_for s.lists.slots.present list) value o s in
      more j t.0.sides (sides.Own (notes.Op t.1.number operations.State (words.State value))) refl ∙ known_same (counts_for s.lists.slots.present list) value o s q
  state_same act list (endings.Refused rcode) o s q = more j o.sides (sides.Own (notes.Op s.number operations.State words.Error)) refl
  state_same act list endings.Expired o s q = more j o.sides (sides.Own (notes.Op s.number operations.State words.Error)) refl

  unit_same : (unit : Option SbpUnit) (act : ℕ) (o : OutboxState) (s : InitiatorState) → Same o (with_unit unit act o s)
  unit_same None act o s = end_own_same s.operation act words.NoUnit o s
  unit_same (Some unit) act o s = end_own_same s.operation act words.Done o (record s { management = _ })

  rom_same : (tree : Result Tree RomFault) (act : ℕ) (o : OutboxState) (s : InitiatorState) → Same o (with_rom tree act o s)
  rom_same (Ok tree) act o s = unit_same (sbp_unit_of tree.blocks tree.entries) act o s
  rom_same (Err fault) act o s = end_own_same s.operation act (words.Bad (fault_number fault)) o s

  asked_same : (r : Option Asked × Layer Purpose) (act : ℕ) (o : OutboxState) (s : InitiatorState) → Same o (asked_quad r act o s)
  asked_same (None, layer) act o s = end_own_same s.operation act words.Error o (record s { layer = layer })
  asked_same (Some asked, layer) act o s = refl

  quad_same : (act : ℕ) (o : OutboxState) (s : InitiatorState) → Same o (quad_got act o s)
  quad_same act o s =
      pick_same (length s.quads == 256) o (finish_rom act o s) (ask_quad act o s) (rom_same (rom_reading s.quads) act o s)
      (asked_same (asking_step s.layer s.target (next_quad s.quads) (purposes.Rom act)) act o s)

  read_same : (act : ℕ) (ending : Ending) (o : OutboxState) (s : InitiatorState) → Same o (rom_ended act ending o s)
  read_same act (endings.Complete value) o s = quad_same act o (record s { quads = with_quad s.quads value })
  read_same act (endings.Refused rcode) o s = pick_same (is_address rcode) o (finish_rom act o s) (end_own_step act words.Error o s) (rom_same (rom_reading s.quads) act o s) (end_own_same s.operation act words.Error o s)
  read_same act endings.Expired o s = end_own_same s.operation act words.Error o s

  ended_same : (purpose : Purpose) (ending : Ending) (o : OutboxState) (s : InitiatorState) → (ends_the_list purpose ending s.lists.slots.present ≡ true → (s.number == j) ≡ false) → Same o (ended_step purpose ending o s)
  unfolding ended_step
  ended_same (purposes.Pointer list) ending o s q = pointer_same list ending o s
  ended_same purposes.Doorbell ending o s q = doorbell_same ending o s
  ended_same (purposes.AgentReset act) ending o s q = reset_same act ending o s q
  ended_same (purposes.Enable act) ending o s q = enable_same act ending o s
  ended_same (purposes.Management act) ending o s q = management_same act ending o s
  ended_same (purposes.Rom act) ending o s q = read_same act ending o s
  ended_same (purposes.State act list) ending o s q = state_same act list ending o s q

  late_none : (purpose : Purpose) (present : Option PresentList) → ends_the_list purpose endings.Expired present ≡ true → (b : Bool) → b ≡ false
  late_none (purposes.Pointer list) present e b = untrue e
  late_none purposes.Doorbell present e b = untrue e
  late_none (purposes.AgentReset act) present e b = untrue e
  late_none (purposes.Enable act) present e b = untrue e
  late_none (purposes.Management act) present e b = untrue e
  late_none (purposes.Rom act) present e b = untrue e
  late_none (purposes.State act list) present e b = untrue e

  -- ---- a request

  good_same : (running : Running) (o : OutboxState) (s : InitiatorState) → Same o (good_end running o s)
  good_same running o s =
      end_same running.operation (good_word running.operation (response_of running s)) o (moved running.operation (good_event running.operation (response_of running s)) s)

  module _ (p : Packet) (bytes : List ℕ) (o : OutboxState) where
    abbrev Keeps : Judged × Turn → Type 0
    Keeps r = Same o r.1

    pick_keeps : (b : Bool) (x y : Judged × Turn) → Keeps x → Keeps y → Keeps (cond b x y)
    pick_keeps true x y h k = h
    pick_keeps false x y h k = k

    where_same : (b : Bool) (s : InitiatorState) → (b ≡ true → (s.number == j) ≡ false) → Same o (drop_where b o s)
    where_same true s q = drop_same o s (q refl)
    where_same false s q = refl

    managed_same : (running : Running) (code : ℕ) (s : InitiatorState) → (ends_list (Some running.operation) ≡ true → (s.number == j) ≡ false) → Same o (managed_step running code o s)
    managed_same running code s q =
        let t = drop_where (ends_list (Some running.operation)) o s in
        pick_same (code == 0) o _ _
        (good_same running t.0 t.1 ∙ where_same (ends_list (Some running.operation)) s q)
        (end_same running.operation (words.Refused code) o (moved running.operation bad s))

    present_same : (c : Bool) (running : Running) (code : ℕ) (s : InitiatorState) → (ends_list (Some running.operation) ≡ true → (s.number == j) ≡ false) → Keeps (managed_for (cond c (Some running) None) code p bytes o s)
    present_same true running code s q = managed_same running code (called s) q
    present_same false running code s q = refl

    operation_same : (operation : Option Running) (orb code : ℕ) (s : InitiatorState) → (ends_list (operation_in operation) ≡ true → (s.number == j) ≡ false) → Keeps (managed_for (present_for orb operation) code p bytes o s)
    operation_same None orb code s q = refl
    operation_same (Some running) orb code s q = present_same (is_orb_of running.managed orb) running code s q

    taken_same : (r : Option TicketParts × ListState) (kind : StatusKind) (s : InitiatorState) → Keeps (taken_as r kind p bytes o s)
    taken_same (None, lists) kind s = refl
    taken_same (Some t, lists) kind s = more j o.sides _ refl

    kind_same : (kind : StatusKind) (block : StatusBlock) (s : InitiatorState) → (ends_list (operation_in s.operation) ≡ true → (s.number == j) ≡ false) → Keeps (block_by kind block p bytes o s)
    kind_same (kinds.Management code) block s q = operation_same s.operation block.orb code s q
    kind_same kinds.Good block s q = taken_same (take_lists s.lists block) kinds.Good s
    kind_same (kinds.Check sense) block s q = taken_same (take_lists s.lists block) (kinds.Check sense) s
    kind_same kinds.Dummy block s q = taken_same (take_lists s.lists block) kinds.Dummy s
    kind_same kinds.Aborted block s q = taken_same (take_lists s.lists block) kinds.Aborted s
    kind_same (kinds.Illegal meaning) block s q = taken_same (take_lists s.lists block) (kinds.Illegal meaning) s
    kind_same kinds.Failed block s q = taken_same (take_lists s.lists block) kinds.Failed s

    block_same : (r : Result StatusBlock OrbFault) (s : InitiatorState) → (ends_list (operation_in s.operation) ≡ true → (s.number == j) ≡ false) → Keeps (block_step r p bytes o s)
    block_same (Err fault) s q = refl
    block_same (Ok block) s q = kind_same block.kind block s q

    status_same : (is_login : Bool) (payload : List ℕ) (s : InitiatorState) → (ends_list (operation_in s.operation) ≡ true → (s.number == j) ≡ false) → Keeps (status_step is_login payload p bytes o s)
    status_same is_login payload s q = pick_keeps (is_login && is_block payload) _ _ (more j o.sides (sides.Own (notes.Told s.number)) refl) (block_same (status_in payload) s q)

    read_keeps : (r : ℕ × List ℕ) (s : InitiatorState) → Keeps (read_as r p bytes o s)
    read_keeps (rcode, out) s = refl

    written_keeps : (r : ℕ × ListState) (s : InitiatorState) → Keeps (written_as r p bytes o s)
    written_keeps (rcode, lists) s = refl

  module _ (bytes : List ℕ) (o : OutboxState) (s : InitiatorState) where
    serve_keeps : (p : Packet) → Same o (serve_step p bytes o s).1
    serve_keeps (read_quadlet header offset) = read_keeps (read_quadlet header offset) bytes o (read_step s.lists.memory offset (replicate 4 0)) s
    serve_keeps (read_block header offset count) = read_keeps (read_block header offset count) bytes o (read_step s.lists.memory offset (replicate count 0)) s
    serve_keeps (write_quadlet header offset value) = written_keeps (write_quadlet header offset value) bytes o (write_lists s.lists offset (big_bytes 4 value)) s
    serve_keeps (write_block header offset payload) = written_keeps (write_block header offset payload) bytes o (write_lists s.lists offset payload) s
    serve_keeps (write_response header rcode) = refl
    serve_keeps (read_quadlet_response header rcode value) = refl
    serve_keeps (read_block_response header rcode payload) = refl
    serve_keeps (lock header offset extended payload) = refl
    serve_keeps (lock_response header rcode extended payload) = refl

    quadlet_keeps : (fifo : Option Fifo) (p : Packet) → Same o (quadlet_at fifo p bytes o s).1
    quadlet_keeps None p = serve_keeps p
    quadlet_keeps (Some fifos.Closed) p = refl
    quadlet_keeps (Some fifos.Login) p = serve_keeps p
    quadlet_keeps (Some fifos.Place) p = serve_keeps p

    module _ (q : ends_list (operation_in s.operation) ≡ true → (s.number == j) ≡ false) where
      block_keeps : (fifo : Option Fifo) (payload : List ℕ) (p : Packet) → Same o (block_at fifo payload p bytes o s).1
      block_keeps None payload p = serve_keeps p
      block_keeps (Some fifos.Closed) payload p = refl
      block_keeps (Some fifos.Login) payload p = status_same p bytes o true payload s q
      block_keeps (Some fifos.Place) payload p = status_same p bytes o false payload s q

      addressed_keeps : (p : Packet) → Same o (addressed p bytes o s).1
      addressed_keeps (write_quadlet header offset value) = quadlet_keeps (fifo_of s offset) (write_quadlet header offset value)
      addressed_keeps (write_block header offset payload) = block_keeps (fifo_of s offset) payload (write_block header offset payload)
      addressed_keeps (read_quadlet header offset) = serve_keeps (read_quadlet header offset)
      addressed_keeps (read_block header offset count) = serve_keeps (read_block header offset count)
      addressed_keeps (lock header offset extended payload) = serve_keeps (lock header offset extended payload)
      addressed_keeps (write_response header rcode) = serve_keeps (write_response header rcode)
      addressed_keeps (read_quadlet_response header rcode value) = serve_keeps (read_quadlet_response header rcode value)
      addressed_keeps (read_block_response header rcode payload) = serve_keeps (read_block_response header rcode payload)
      addressed_keeps (lock_response header rcode extended payload) = serve_keeps (lock_response header rcode extended payload)

      request_keeps : (p : Packet) → Same o (request_step p bytes o s).1
      request_keeps p = pick_keeps p bytes o (is_foreign p s) _ _ refl (addressed_keeps p)

  -- ---- a call

  found_drops : (f : Finding Purpose) (layer : Layer Purpose) (bytes : List ℕ) (s : InitiatorState) → (may_drop f s ≡ true → (s.number == j) ≡ false) → drops_of j (received (f, layer) bytes empty_outbox s).1.0.sides ≡ false
  found_drops of_generation layer bytes s q = refl
  found_drops of_grammar layer bytes s q = refl
  found_drops of_label layer bytes s q = refl
  found_drops (of_response p label None) layer bytes s q = refl
  found_drops (of_response p label (Some purpose)) layer bytes s q = ended_same purpose (ending_of p) empty_outbox (called (record s { layer = layer })) q
  found_drops (of_again p rcode) layer bytes s q = refl
  found_drops (of_request p) layer bytes s q = request_keeps bytes empty_outbox (record s { layer = layer }) q p

  pub receive_drops : (generation : ℕ) (bytes : List ℕ) (s : InitiatorState) → (may_drop (judging_step s.layer generation bytes).0 s ≡ true → (s.number == j) ≡ false) → drops_of j (receive_step generation bytes empty_outbox s).1.0.sides ≡ false
  unfolding receive_step
  receive_drops generation bytes s q = found_drops (judging_step s.layer generation bytes).0 (judging_step s.layer generation bytes).1 bytes s q

  expired_drops : (r : Result (Option Purpose) Stale × Layer Purpose) (s : InitiatorState) → drops_of j (expired_as r empty_outbox s).1.0.sides ≡ false
  expired_drops (Err stale, layer) s = refl
  expired_drops (Ok None, layer) s = refl
  expired_drops (Ok (Some purpose), layer) s = ended_same purpose endings.Expired empty_outbox (called (record s { layer = layer })) (λ e. late_none purpose s.lists.slots.present e (s.number == j))

  pub expire_drops : (label : LabelParts) (s : InitiatorState) → drops_of j (expire_step label empty_outbox s).1.0.sides ≡ false
  unfolding expire_step
  expire_drops label s = expired_drops (expiring_step s.layer s.target label) s

  -- ---- a generation is seen

  resets_same : (number : ℕ) (operation : Operation) (o : OutboxState) → drops_of j (reset_told number operation o).sides ≡ drops_of j o.sides
  resets_same number operation o = more j o.sides (sides.Own (notes.Op number operation words.Reset)) refl

  states_same : (number : ℕ) (acts : List ℕ) (o : OutboxState) → drops_of j (states_end number acts o).sides ≡ drops_of j o.sides
  states_same number [] o = refl
  states_same number (act ∷ acts) o = states_same number acts (reset_told number operations.State o) ∙ resets_same number operations.State o

  all_same : (number : ℕ) (running : Running) (acts : List ℕ) (o : OutboxState) → drops_of j (all_end number running acts o).sides ≡ drops_of j o.sides
  all_same number running [] o = resets_same number running.operation o
  all_same number running (act ∷ acts) o =
      pick_told (nat_lt running.act act) o _ _
      (states_same number (act ∷ acts) (reset_told number running.operation o) ∙ resets_same number running.operation o)
      (all_same number running acts (reset_told number operations.State o) ∙ resets_same number operations.State o)

  ends_same : (number : ℕ) (operation : Option Running) (acts : List ℕ) (o : OutboxState) → drops_of j (resets_told number operation acts o).sides ≡ drops_of j o.sides
  ends_same number None acts o = states_same number acts o
  ends_same number (Some running) acts o = all_same number running acts o

  seen_drops : (r : Bool × Layer Purpose) (target : ℕ) (s : InitiatorState) → (s.number == j) ≡ false → drops_of j (seen_as r target empty_outbox s).0.sides ≡ false
  seen_drops (false, layer) target s away = refl
  seen_drops (true, layer) target s away =
      let u = interrupted (record s { layer = layer }) target in
      let o = resets_told s.number s.operation s.states empty_outbox in
      drop_same o u away ∙ ends_same s.number s.operation s.states empty_outbox

  -- of another initiator
  pub see_drops : (generation id target : ℕ) (s : InitiatorState) → (s.number == j) ≡ false → drops_of j (see_step generation id target empty_outbox s).0.sides ≡ false
  unfolding see_step
  see_drops generation id target s away = seen_drops (seeing_step s.layer generation id) target s away
