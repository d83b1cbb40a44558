-- What a call leaves of an initiator's layer and tells: a delivery and a time-out ask for a quadlet of a ROM alone, where they ask; and what is
-- told says nothing of packets.
use Rattle.sbp_world.proofs.Words.Std.{◌≡◌, refl, sym, ◌∙◌, ap, ℕ, ◌==◌, ◌&&◌, Bool, true, false, cond, List, [], ◌∷◌, ◌++◌, length, replicate, Option, Some, None, Result, Ok, Err, AllByRecursion, big_bytes}
use Rattle.sbp_world.proofs.Words.Wire.{LabelParts, Packet, header_in, lock, lock_response, read_block, read_block_response, read_quadlet, read_quadlet_response, write_block, write_quadlet, write_response, Asked, Stale, Body, Finding, Layer, answering_step, asking_step, expiring_step, judging_step, of_again, of_generation, of_grammar, of_label, of_request, of_response, OutboxState, empty_outbox, Judged, Note, Operation, OpWord, Side}
use Rattle.sbp_world.proofs.Words.Target.{RomFault, SbpUnit, Tree, reading, sbp_unit_of, is_block}
use Rattle.sbp_world.proofs.Words.Initiator.{read_step, OrbFault, StatusBlock, StatusKind, ListState, drop_lists, take_lists, write_lists, TicketParts, Event, bad, conflict, is_stuck_seat, Fifo, is_dead_kind, management_at, with_quad, Ending, Purpose, Running, InitiatorState, Turn, ask_quad, asked_quad, conflict_for, conflict_step, doorbell_ended, drop_list_step, drop_where, dropped_as, enable_ended, end_own_for, end_own_step, end_step, ended_for, ended_step, fail_step, fault_number, finish_rom, good_end, good_event, good_word, is_address, is_conflict, known_step, known_where, managed_step, management_ended, moved, moves_session, next_quad, pointer_ended, quad_got, reset_ended, response_of, rom_ended, state_ended, state_told, stick_step, told, with_dead, with_rom, with_unit, address_error, addressed, answer_of, block_at, block_by, block_step, called, expire_step, expired_as, fifo_of, got_step, ignored_step, is_foreign, managed_for, present_for, quadlet_at, read_as, receive_step, received, request_step, respond_step, responded_as, serve_step, status_step, taken_as, taken_by, type_error, written_as, ends_list, counts_for, ending_of, is_list, status_in}
use Rattle.sbp_world.proofs.Words.World.{AreOthers}
use Rattle.orb_layout.specs.declared.status.StatusKind.TheVariants as kinds
use Rattle.sbp_journal.specs.declared.cause.Cause.TheVariants as causes
use Rattle.sbp_journal.specs.declared.note.Note.TheVariants as notes
use Rattle.sbp_journal.specs.declared.operation.Operation.TheVariants as operations
use Rattle.sbp_journal.specs.declared.operation.OpWord.TheVariants as words
use Rattle.sbp_journal.specs.declared.side.Side.TheVariants as sides
use Rattle.initiator_base.specs.declared.fifos.Fifo.TheVariants as fifos
use Rattle.sbp_initiator.specs.declared.purpose.Ending.TheVariants as endings
use Rattle.sbp_initiator.specs.declared.purpose.Purpose.TheVariants as purposes
use Rattle.sbp_initiator.proofs.Asked.{none_asked}

-- ---- what an initiator tells says nothing of packets

abbrev pub is_tame : Note → Bool
is_tame (notes.Append i n k cdb buffer) = true
is_tame (notes.Low i n k) = true
is_tame (notes.Linked i n k) = true
is_tame (notes.Rung i n k) = true
is_tame (notes.Dummied i n k) = true
is_tame (notes.Taken i n k status answer) = true
is_tame (notes.Drop i n) = true
is_tame (notes.Op i operation word) = true
is_tame (notes.Stuck i) = true
is_tame (notes.Told i) = true
is_tame _ = false

abbrev pub IsTame : Side → Type 0
IsTame (sides.Own note) = is_tame note ≡ true
IsTame _ = ⊥

abbrev pub AreTame : List Side → Type 0
AreTame told = AllByRecursion IsTame told

pub tame_more : (told : List Side) (side : Side) → AreTame told → IsTame side → AreTame (told ++ side ∷ [])
tame_more [] side h f = (f, tt)
tame_more (first ∷ told) side h f = (h.0, tame_more told side h.1 f)

-- ---- sides whose notes are so, where those of an initiator's calls are
module _ (is_plain : Note → Bool) where
  abbrev pub IsFine : Side → Type 0
  IsFine (sides.Own note) = is_plain note ≡ true
  IsFine _ = Unit {0}

  pub others_fine : (told : List Side) → AreOthers told → AllByRecursion IsFine told
  others_fine [] h = tt
  others_fine (sides.Own note ∷ later) h = absurd h.0
  others_fine (_ ∷ later) h = (tt, others_fine later h.1)

  pub tame_fine : ((note : Note) → is_tame note ≡ true → is_plain note ≡ true) → (told : List Side) → AreTame told → AllByRecursion IsFine told
  tame_fine plain [] h = tt
  tame_fine plain (sides.Own note ∷ later) h = (plain note h.0, tame_fine plain later h.1)
  tame_fine plain (_ ∷ later) h = absurd h.0

-- ---- what is left of a layer: its labels, or those behind the read of a quadlet of the target's ROM

pub data LayerLeft (old : Layer Purpose) (target : ℕ) (now : Layer Purpose) : Type 0 where
  same : now.generation ≡ old.generation → now.peers ≡ old.peers → LayerLeft old target now
  read : (body : Body) (act : ℕ) (asked : Asked) → asking_step old target body (purposes.Rom act) ≡ (Some asked, now) → LayerLeft old target now

pub record Left (old : Layer Purpose) (target : ℕ) (t : Turn) : Type 0 where
  pub told : AreTame t.0.sides
  pub target_is : t.1.target ≡ target
  pub layer : LayerLeft old target t.1.layer

-- the layer itself
record Kept (old : Layer Purpose) (target : ℕ) (t : Turn) : Type 0 where
  told : AreTame t.0.sides
  target_is : t.1.target ≡ target
  layer_is : t.1.layer ≡ old

module _ (old : Layer Purpose) (target : ℕ) where
  abbrev K : Turn → Type 0
  K t = Kept old target t

  abbrev L : Turn → Type 0
  L t = Left old target t

  loose : (t : Turn) → K t → L t
  loose t k = record { told = k.told; target_is = k.target_is; layer = same (ap (λ (l : Layer Purpose). l.generation) k.layer_is) (ap (λ (l : Layer Purpose). l.peers) k.layer_is) }

  tells : (note : Note) (o : OutboxState) (s u : InitiatorState) → is_tame note ≡ true → u.layer ≡ s.layer → u.target ≡ s.target → K (o, s) → K (told o note, u)
  tells note o s u e layer target k = record { told = tame_more o.sides (sides.Own note) k.told e; target_is = target ∙ k.target_is; layer_is = layer ∙ k.layer_is }

  still : (o : OutboxState) (s u : InitiatorState) → u.layer ≡ s.layer → u.target ≡ s.target → K (o, s) → K (o, u)
  still o s u layer target k = record { told = k.told; target_is = target ∙ k.target_is; layer_is = layer ∙ k.layer_is }

  pick : (b : Bool) (x y : Turn) → K x → K y → K (cond b x y)
  pick true x y h i = h
  pick false x y h i = i

  pick_left : (b : Bool) (x y : Turn) → L x → L y → L (cond b x y)
  pick_left true x y h i = h
  pick_left false x y h i = i

  pick_state : (b : Bool) (o : OutboxState) (u v : InitiatorState) → K (o, u) → K (o, v) → K (o, cond b u v)
  pick_state true o u v h i = h
  pick_state false o u v h i = i

  pick_outbox : (b : Bool) (o p : OutboxState) (u : InitiatorState) → K (o, u) → K (p, u) → K (cond b o p, u)
  pick_outbox true o p u h i = h
  pick_outbox false o p u h i = i

  -- ---- the end of a transaction

  drop_as : (r : Option ℕ × ListState) (o : OutboxState) (s : InitiatorState) → K (o, s) → K (dropped_as r o s)
  drop_as (None, lists) o s k = still o s (record s { lists = lists }) refl refl k
  drop_as (Some n, lists) o s k = tells (notes.Drop s.number n) o s (dropped_as (Some n, lists) o s).1 refl refl refl k

  drops : (o : OutboxState) (s : InitiatorState) → K (o, s) → K (drop_list_step o s)
  drops o s k = drop_as (drop_lists s.lists) o s k

  ends : (operation : Operation) (word : OpWord) (o : OutboxState) (s : InitiatorState) → K (o, s) → K (end_step operation word o s)
  ends operation word o s k = tells (notes.Op s.number operation word) o s (end_step operation word o s).1 refl refl refl k

  owns_for : (found : Option Running) (act : ℕ) (word : OpWord) (o : OutboxState) (s : InitiatorState) → K (o, s) → K (end_own_for found act word o s)
  owns_for None act word o s k = k
  owns_for (Some running) act word o s k = pick (running.act == act) (end_step running.operation word o s) (o, s) (ends running.operation word o s k) k

  owns : (act : ℕ) (word : OpWord) (o : OutboxState) (s : InitiatorState) → K (o, s) → K (end_own_step act word o s)
  owns act word o s k = owns_for s.operation act word o s k

  sticks : (o : OutboxState) (s : InitiatorState) → K (o, s) → K (stick_step o s)
  sticks o s k =
      let u = (stick_step o s).1 in
      pick_outbox (is_stuck_seat s.seat) o (told o (notes.Stuck s.number)) u (still o s u refl refl k) (tells (notes.Stuck s.number) o s u refl refl refl k)

  fails : (act : ℕ) (o : OutboxState) (s : InitiatorState) → K (o, s) → K (fail_step act o s)
  fails act o s k = let t = end_own_step act words.Error o s in sticks t.0 t.1 (owns act words.Error o s k)

  points : (list : ℕ) (ending : Ending) (o : OutboxState) (s : InitiatorState) → K (o, s) → K (pointer_ended list ending o s)
  points list (endings.Complete value) o s k = pick_state (is_list s.lists.slots.present list) o _ _ (still o s _ refl refl k) (still o s _ refl refl k)
  points list (endings.Refused rcode) o s k = sticks o s k
  points list endings.Expired o s k = sticks o s k

  rings : (ending : Ending) (o : OutboxState) (s : InitiatorState) → K (o, s) → K (doorbell_ended ending o s)
  rings (endings.Complete value) o s k = k
  rings (endings.Refused rcode) o s k = sticks o s k
  rings endings.Expired o s k = sticks o s k

  resets : (act : ℕ) (ending : Ending) (o : OutboxState) (s : InitiatorState) → K (o, s) → K (reset_ended act ending o s)
  resets act (endings.Complete value) o s k = let t = drop_list_step o s in owns act words.Done t.0 t.1 (drops o s k)
  resets act (endings.Refused rcode) o s k = fails act o s k
  resets act endings.Expired o s k = fails act o s k

  enables : (act : ℕ) (ending : Ending) (o : OutboxState) (s : InitiatorState) → K (o, s) → K (enable_ended act ending o s)
  enables act (endings.Complete value) o s k = owns act words.Done o s k
  enables act (endings.Refused rcode) o s k = fails act o s k
  enables act endings.Expired o s k = fails act o s k

  moves : (operation : Operation) (event : Event) (o : OutboxState) (s : InitiatorState) → K (o, s) → K (o, moved operation event s)
  moves operation event o s k = pick_state (moves_session operation) o _ s (still o s _ refl refl k) k

  conflicts_for : (found : Option Running) (act : ℕ) (o : OutboxState) (s : InitiatorState) → K (o, s) → K (conflict_for found act o s)
  conflicts_for None act o s k = k
  conflicts_for (Some running) act o s k =
      let u = moved running.operation conflict s in
      pick (running.act == act) (end_step running.operation words.Conflict o u) (o, s) (ends running.operation words.Conflict o u (moves running.operation conflict o s k)) k

  manages : (act : ℕ) (ending : Ending) (o : OutboxState) (s : InitiatorState) → K (o, s) → K (management_ended act ending o s)
  manages act (endings.Complete value) o s k = k
  manages act (endings.Refused rcode) o s k = pick (is_conflict rcode) (conflict_step act o s) (fail_step act o s) (conflicts_for s.operation act o s k) (fails act o s k)
  manages act endings.Expired o s k = fails act o s k

  drops_where : (b : Bool) (o : OutboxState) (s : InitiatorState) → K (o, s) → K (drop_where b o s)
  drops_where true o s k = drops o s k
  drops_where false o s k = k

  ends_good : (running : Running) (o : OutboxState) (s : InitiatorState) → K (o, s) → K (good_end running o s)
  ends_good running o s k =
      let event = good_event running.operation (response_of running s) in
      ends running.operation (good_word running.operation (response_of running s)) o (moved running.operation event s) (moves running.operation event o s k)

  managed : (running : Running) (status : ℕ) (o : OutboxState) (s : InitiatorState) → K (o, s) → K (managed_step running status o s)
  managed running status o s k =
      let t = drop_where (ends_list (Some running.operation)) o s in
      pick (status == 0) (good_end running t.0 t.1) (end_step running.operation (words.Refused status) o (moved running.operation bad s))
      (ends_good running t.0 t.1 (drops_where (ends_list (Some running.operation)) o s k))
      (ends running.operation (words.Refused status) o (moved running.operation bad s) (moves running.operation bad o s k))

  -- ---- the target's ROM

  unit_read : (unit : Option SbpUnit) (act : ℕ) (o : OutboxState) (s : InitiatorState) → K (o, s) → K (with_unit unit act o s)
  unit_read None act o s k = owns act words.NoUnit o s k
  unit_read (Some unit) act o s k =
      let u = record s { management = Some (management_at unit.management) } in owns act words.Done o u (still o s u refl refl k)

  rom_read : (tree : Result Tree RomFault) (act : ℕ) (o : OutboxState) (s : InitiatorState) → K (o, s) → K (with_rom tree act o s)
  rom_read (Ok tree) act o s k = unit_read (sbp_unit_of tree.blocks tree.entries) act o s k
  rom_read (Err fault) act o s k = owns act (words.Bad (fault_number fault)) o s k

  quad_asked : (r : Option Asked × Layer Purpose) (body : Body) (act : ℕ) (o : OutboxState) (s : InitiatorState) → asking_step s.layer s.target body (purposes.Rom act) ≡ r → K (o, s) → L (asked_quad r act o s)
  quad_asked (Some asked, layer) body act o s e k = record {
    told = k.told;
    target_is = k.target_is;
    layer = read body act asked (ap (λ n. asking_step old n body (purposes.Rom act)) (sym k.target_is) ∙ ap (λ l. asking_step l s.target body (purposes.Rom act)) (sym k.layer_is) ∙ e);
  }
  quad_asked (None, layer) body act o s e k =
      let u = record s { layer = layer } in
      loose (end_own_step act words.Error o u) (owns act words.Error o u (still o s u (none_asked s.layer layer s.target body (purposes.Rom act) (sym e)) refl k))

  quads : (act : ℕ) (o : OutboxState) (s : InitiatorState) → K (o, s) → L (quad_got act o s)
  quads act o s k =
      pick_left (length s.quads == 256) (finish_rom act o s) (ask_quad act o s) (loose (finish_rom act o s) (rom_read (reading s.quads) act o s k))
      (quad_asked (asking_step s.layer s.target (next_quad s.quads) (purposes.Rom act)) (next_quad s.quads) act o s refl k)

  roms : (act : ℕ) (ending : Ending) (o : OutboxState) (s : InitiatorState) → K (o, s) → L (rom_ended act ending o s)
  roms act (endings.Complete value) o s k = let u = record s { quads = with_quad s.quads value } in quads act o u (still o s u refl refl k)
  roms act (endings.Refused rcode) o s k =
      loose (rom_ended act (endings.Refused rcode) o s) (pick (is_address rcode) (finish_rom act o s) (end_own_step act words.Error o s) (rom_read (reading s.quads) act o s k) (owns act words.Error o s k))
  roms act endings.Expired o s k = loose (end_own_step act words.Error o s) (owns act words.Error o s k)

  -- ---- the state of the agent

  knows : (value : ℕ) (o : OutboxState) (s : InitiatorState) → K (o, s) → K (known_step value o s)
  knows value o s k = pick (value == 0) (drop_list_step o s) (o, cond (value == 3) (with_dead s) s) (drops o s k) (pick_state (value == 3) o (with_dead s) s (still o s (with_dead s) refl refl k) k)

  knows_where : (b : Bool) (value : ℕ) (o : OutboxState) (s : InitiatorState) → K (o, s) → K (known_where b value o s)
  knows_where true value o s k = knows value o s k
  knows_where false value o s k = k

  state_tells : (act : ℕ) (word : OpWord) (o : OutboxState) (s : InitiatorState) → K (o, s) → K (state_told act word o s)
  state_tells act word o s k = tells (notes.Op s.number operations.State word) o s (state_told act word o s).1 refl refl refl k

  states : (act : ℕ) (list : Option ℕ) (ending : Ending) (o : OutboxState) (s : InitiatorState) → K (o, s) → K (state_ended act list ending o s)
  states act list (endings.Complete value) o s k =
      let b = counts_for s.lists.slots.present list in
      let t = known_where b value o s in state_tells act (words.State value) t.0 t.1 (knows_where b value o s k)
  states act list (endings.Refused rcode) o s k = state_tells act words.Error o s k
  states act list endings.Expired o s k = state_tells act words.Error o s k

  -- ---- by what the transaction was for

  ended : (purpose : Purpose) (ending : Ending) (o : OutboxState) (s : InitiatorState) → K (o, s) → L (ended_step purpose ending o s)
  unfolding ended_step
  ended (purposes.Pointer list) ending o s k = loose _ (points list ending o s k)
  ended purposes.Doorbell ending o s k = loose _ (rings ending o s k)
  ended (purposes.AgentReset act) ending o s k = loose _ (resets act ending o s k)
  ended (purposes.Enable act) ending o s k = loose _ (enables act ending o s k)
  ended (purposes.Management act) ending o s k = loose _ (manages act ending o s k)
  ended (purposes.Rom act) ending o s k = roms act ending o s k
  ended (purposes.State act list) ending o s k = loose _ (states act list ending o s k)

  for_left : (purpose : Option Purpose) (ending : Ending) (o : OutboxState) (s : InitiatorState) → K (o, s) → L (ended_for purpose ending o s)
  for_left None ending o s k = loose (o, s) k
  for_left (Some purpose) ending o s k = ended purpose ending o s k

  -- ---- a request is answered

  responds_as : (r : List ℕ × Layer Purpose) (source : ℕ) (o : OutboxState) (s : InitiatorState) → r.1.generation ≡ s.layer.generation → r.1.peers ≡ s.layer.peers → K (o, s) → L (responded_as r source o s)
  responds_as (response, layer) source o s g e k = record {
    told = k.told;
    target_is = k.target_is;
    layer = same (g ∙ ap (λ (l : Layer Purpose). l.generation) k.layer_is) (e ∙ ap (λ (l : Layer Purpose). l.peers) k.layer_is);
  }

  responds : (p : Packet) (bytes : List ℕ) (rcode : ℕ) (given : List ℕ) (t : Turn) → K t → L (respond_step p bytes rcode given t)
  unfolding answering_step
  responds p bytes rcode given t k = responds_as (answering_step t.1.layer p bytes rcode given) (header_in p).source t.0 t.1 refl refl k

  module _ (bytes : List ℕ) (o : OutboxState) where
    abbrev J : Judged × Turn → Type 0
    J r = L r.1

    pick_judged : (b : Bool) (x y : Judged × Turn) → J x → J y → J (cond b x y)
    pick_judged true x y h i = h
    pick_judged false x y h i = i

    takes : (r : Option TicketParts × ListState) (kind : StatusKind) (p : Packet) (s : InitiatorState) → K (o, s) → J (taken_as r kind p bytes o s)
    takes (None, lists) kind p s k = responds p bytes 0 [] (o, record s { lists = lists }) (still o s _ refl refl k)
    takes (Some t, lists) kind p s k =
        let u = record (called s) { lists = lists } in
        let told_now = told o (notes.Taken s.number t.list t.number kind (answer_of kind lists t.slot)) in
        responds p bytes 0 [] (taken_by t lists kind o (called s))
        (pick_state (is_dead_kind kind) told_now (with_dead u) u (tells (notes.Taken s.number t.list t.number kind (answer_of kind lists t.slot)) o s (with_dead u) refl refl refl k) (tells (notes.Taken s.number t.list t.number kind (answer_of kind lists t.slot)) o s u refl refl refl k))

    manages_for : (found : Option Running) (status : ℕ) (p : Packet) (s : InitiatorState) → K (o, s) → J (managed_for found status p bytes o s)
    manages_for None status p s k = responds p bytes 0 [] (o, s) k
    manages_for (Some running) status p s k = responds p bytes 0 [] (managed_step running status o (called s)) (managed running status o (called s) (still o s (called s) refl refl k))

    blocks_by : (kind : StatusKind) (block : StatusBlock) (p : Packet) (s : InitiatorState) → K (o, s) → J (block_by kind block p bytes o s)
    blocks_by (kinds.Management status) block p s k = manages_for (present_for block.orb s.operation) status p s k
    blocks_by kinds.Good block p s k = takes (take_lists s.lists block) kinds.Good p s k
    blocks_by (kinds.Check sense) block p s k = takes (take_lists s.lists block) (kinds.Check sense) p s k
    blocks_by kinds.Dummy block p s k = takes (take_lists s.lists block) kinds.Dummy p s k
    blocks_by kinds.Aborted block p s k = takes (take_lists s.lists block) kinds.Aborted p s k
    blocks_by (kinds.Illegal meaning) block p s k = takes (take_lists s.lists block) (kinds.Illegal meaning) p s k
    blocks_by kinds.Failed block p s k = takes (take_lists s.lists block) kinds.Failed p s k

    blocks : (r : Result StatusBlock OrbFault) (p : Packet) (s : InitiatorState) → K (o, s) → J (block_step r p bytes o s)
    blocks (Err fault) p s k = responds p bytes 5 [] (o, s) k
    blocks (Ok block) p s k = blocks_by block.kind block p s k

    statuses : (is_login : Bool) (payload : List ℕ) (p : Packet) (s : InitiatorState) → K (o, s) → J (status_step is_login payload p bytes o s)
    statuses is_login payload p s k =
        pick_judged (is_login && is_block payload) (got_step p bytes (told o (notes.Told s.number), called s)) (block_step (status_in payload) p bytes o s)
        (responds p bytes 0 [] (told o (notes.Told s.number), called s) (tells (notes.Told s.number) o s (called s) refl refl refl k))
        (blocks (status_in payload) p s k)

    reads_as : (r : ℕ × List ℕ) (p : Packet) (s : InitiatorState) → K (o, s) → J (read_as r p bytes o s)
    reads_as (rcode, out) p s k = responds p bytes rcode out (o, called s) (still o s (called s) refl refl k)

    writes_as : (r : ℕ × ListState) (p : Packet) (s : InitiatorState) → K (o, s) → J (written_as r p bytes o s)
    writes_as (rcode, lists) p s k = responds p bytes rcode [] (o, record (called s) { lists = lists }) (still o s _ refl refl k)

    unserved : (p : Packet) (s : InitiatorState) → K (o, s) → L (respond_step p bytes type_error [] (o, called s))
    unserved p s k = responds p bytes type_error [] (o, called s) (still o s (called s) refl refl k)

    serves : (p : Packet) (s : InitiatorState) → K (o, s) → J (serve_step p bytes o s)
    serves (read_quadlet header offset) s k = reads_as (read_step s.lists.memory offset (replicate 4 0)) (read_quadlet header offset) s k
    serves (read_block header offset asked) s k = reads_as (read_step s.lists.memory offset (replicate asked 0)) (read_block header offset asked) s k
    serves (write_quadlet header offset value) s k = writes_as (write_lists s.lists offset (big_bytes 4 value)) (write_quadlet header offset value) s k
    serves (write_block header offset payload) s k = writes_as (write_lists s.lists offset payload) (write_block header offset payload) s k
    serves (lock header offset extended payload) s k = unserved (lock header offset extended payload) s k
    serves (lock_response header rcode extended payload) s k = unserved (lock_response header rcode extended payload) s k
    serves (write_response header rcode) s k = unserved (write_response header rcode) s k
    serves (read_quadlet_response header rcode value) s k = unserved (read_quadlet_response header rcode value) s k
    serves (read_block_response header rcode payload) s k = unserved (read_block_response header rcode payload) s k

    block_ats : (fifo : Option Fifo) (payload : List ℕ) (p : Packet) (s : InitiatorState) → K (o, s) → J (block_at fifo payload p bytes o s)
    block_ats None payload p s k = serves p s k
    block_ats (Some fifos.Closed) payload p s k = responds p bytes address_error [] (o, s) k
    block_ats (Some fifos.Login) payload p s k = statuses true payload p s k
    block_ats (Some fifos.Place) payload p s k = statuses false payload p s k

    quadlet_ats : (fifo : Option Fifo) (p : Packet) (s : InitiatorState) → K (o, s) → J (quadlet_at fifo p bytes o s)
    quadlet_ats None p s k = serves p s k
    quadlet_ats (Some fifos.Closed) p s k = responds p bytes address_error [] (o, s) k
    quadlet_ats (Some fifos.Login) p s k = serves p s k
    quadlet_ats (Some fifos.Place) p s k = serves p s k

    addresses : (p : Packet) (s : InitiatorState) → K (o, s) → J (addressed p bytes o s)
    addresses (write_block header offset payload) s k = block_ats (fifo_of s offset) payload (write_block header offset payload) s k
    addresses (write_quadlet header offset value) s k = quadlet_ats (fifo_of s offset) (write_quadlet header offset value) s k
    addresses (read_quadlet header offset) s k = serves (read_quadlet header offset) s k
    addresses (read_block header offset asked) s k = serves (read_block header offset asked) s k
    addresses (lock header offset extended payload) s k = serves (lock header offset extended payload) s k
    addresses (lock_response header rcode extended payload) s k = serves (lock_response header rcode extended payload) s k
    addresses (write_response header rcode) s k = serves (write_response header rcode) s k
    addresses (read_quadlet_response header rcode value) s k = serves (read_quadlet_response header rcode value) s k
    addresses (read_block_response header rcode payload) s k = serves (read_block_response header rcode payload) s k

    requests : (p : Packet) (s : InitiatorState) → K (o, s) → J (request_step p bytes o s)
    requests p s k = pick_judged (is_foreign p s) (ignored_step causes.Source address_error p bytes (o, s)) (addressed p bytes o s) (responds p bytes address_error [] (o, s) k) (addresses p s k)

-- ---- a delivery and a time-out

received_left : (x : Finding Purpose × Layer Purpose) (bytes : List ℕ) (s : InitiatorState) → Left x.1 s.target (received x bytes empty_outbox s).1
received_left (of_generation, layer) bytes s = record { told = tt; target_is = refl; layer = same refl refl }
received_left (of_grammar, layer) bytes s = record { told = tt; target_is = refl; layer = same refl refl }
received_left (of_label, layer) bytes s = record { told = tt; target_is = refl; layer = same refl refl }
received_left (of_response p label purpose, layer) bytes s = for_left layer s.target purpose (ending_of p) empty_outbox (called (record s { layer = layer })) (record { told = tt; target_is = refl; layer_is = refl })
received_left (of_again p rcode, layer) bytes s = responds layer s.target p bytes rcode [] (empty_outbox, record s { layer = layer }) (record { told = tt; target_is = refl; layer_is = refl })
received_left (of_request p, layer) bytes s = requests layer s.target bytes empty_outbox p (record s { layer = layer }) (record { told = tt; target_is = refl; layer_is = refl })

pub receive_left : (generation : ℕ) (bytes : List ℕ) (s : InitiatorState) → Left (judging_step s.layer generation bytes).1 s.target (receive_step generation bytes empty_outbox s).1
unfolding receive_step
receive_left generation bytes s = received_left (judging_step s.layer generation bytes) bytes s

expired_left : (r : Result (Option Purpose) Stale × Layer Purpose) (s : InitiatorState) → Left r.1 s.target (expired_as r empty_outbox s).1
expired_left (Err stale, layer) s = record { told = tt; target_is = refl; layer = same refl refl }
expired_left (Ok purpose, layer) s = for_left layer s.target purpose endings.Expired empty_outbox (called (record s { layer = layer })) (record { told = tt; target_is = refl; layer_is = refl })

pub expire_left : (label : LabelParts) (s : InitiatorState) → Left (expiring_step s.layer s.target label).1 s.target (expire_step label empty_outbox s).1
unfolding expire_step
expire_left label s = expired_left (expiring_step s.layer s.target label) s
