-- What an initiator tells in each call: notes of its own, which have the form of a journal, and none of which is of a run.
use Rattle.sbp_world.proofs.Words.Std.{◌≡◌, refl, ℕ, ◌==◌, ◌&&◌, nat_lt, nat_eq, Bool, true, false, cond, List, [], ◌∷◌, length, take, replicate, Option, Some, None, Result, Ok, Err, arith, big_bytes, slice_index_or}
use Rattle.sbp_world.proofs.Words.Wire.{LabelParts, Packet, header_in, lock, read_block, read_block_response, read_quadlet, read_quadlet_response, lock_response, write_block, write_quadlet, write_response, Asked, Stale, Layer, Finding, of_generation, of_grammar, of_label, of_response, of_again, of_request, answering_step, asking_step, expiring_step, judging_step, seeing_step, Judged, Action, Cmd, Note, NoteBuffer, Nothing, In, Operation, OpWord, buffer_of, in_buffer, out_buffer, HasForm, IsAnswer, IsBuffer, OutboxState, Sent, empty_outbox}
use Rattle.sbp_world.proofs.Words.Target.{RomFault, SbpUnit, Tree, reading, sbp_unit_of, is_block}
use Rattle.sbp_world.proofs.Words.Initiator.{read_step, OrbFault, StatusBlock, StatusKind, PresentList, TicketParts, find_in, bad, conflict, Fifo, Demand, Ending, Purpose, Running, InitiatorState, ListState, drop_lists, high_lists, low_lists, take_lists, write_lists, put_lists, ends_list, refusal, counts_for, ending_of, status_in, is_stuck_seat, Turn, ask_quad, asked_quad, conflict_for, conflict_step, doorbell_ended, drop_list_step, drop_where, dropped_as, enable_ended, end_own_for, end_own_step, end_step, ended_for, ended_step, fail_step, fault_number, finish_rom, good_end, good_event, good_word, is_address, is_conflict, known_where, managed_step, management_ended, moved, next_quad, pointer_ended, quad_got, reset_ended, response_of, rom_ended, state_ended, state_told, stick_step, then_step, told, with_dead, with_rom, with_unit, with_quad, act_step, append_step, asked_as, asked_for, demand_of, demanded_as, done_step, dummy_for, facts_with, judged_as, link_as, link_step, login_id, low_as, low_step, put_as, put_step, ring_for, addressed, answer_of, block_at, block_by, block_step, called, expire_step, expired_as, fifo_of, got_step, ignored_step, is_foreign, managed_for, present_for, quadlet_at, read_as, receive_step, received, request_step, respond_step, responded_as, serve_step, status_step, taken_as, taken_by, written_as, all_end, interrupted, reset_step, reset_told, resets_told, see_step, seen_as, states_end, new_state}
use Rattle.orb_layout.specs.declared.status.StatusKind.TheVariants as kinds
use Rattle.sbp_journal.specs.declared.cause.Cause.TheVariants as ignored
use Rattle.sbp_journal.specs.declared.event.Action.TheVariants as actions
use Rattle.sbp_journal.specs.declared.note.Note.TheVariants as notes
use Rattle.sbp_journal.specs.declared.operation.Operation.TheVariants as operations
use Rattle.sbp_journal.specs.declared.operation.OpWord.TheVariants as words
use Rattle.sbp_journal.specs.declared.side.Side.TheVariants as sides
use Rattle.initiator_base.specs.declared.fifos.Fifo.TheVariants as fifos
use Rattle.sbp_initiator.specs.declared.purpose.Ending.TheVariants as endings
use Rattle.sbp_initiator.specs.declared.purpose.Purpose.TheVariants as purposes
use Rattle.sbp_world.proofs.BlockForms.{IsKeyed, IsRead, block_keyed, ok_keyed}
use Rattle.sbp_world.proofs.Formed.{AreOwn, IsNoRun, own_more, pick_outbox}
use Rattle.sbp_world.specs.Delivering.{initiators_received, listed}

abbrev pub At : Turn → Type 0
At t = AreOwn t.0.sides

tells : (o : OutboxState) (note : Note) → AreOwn o.sides → HasForm note → IsNoRun note → AreOwn (told o note).sides
tells o note h f n = own_more o.sides (sides.Own note) h (f, n)

pick : (b : Bool) (x y : Turn) → At x → At y → At (cond b x y)
pick true x y h i = h
pick false x y h i = i

-- ---- the end of a transaction

sticks : (o : OutboxState) (s : InitiatorState) → AreOwn o.sides → At (stick_step o s)
sticks o s h = pick_outbox (is_stuck_seat s.seat) o (told o (notes.Stuck s.number)) h (tells o (notes.Stuck s.number) h tt tt)

drops_as : (r : Option ℕ × ListState) (o : OutboxState) (s : InitiatorState) → AreOwn o.sides → At (dropped_as r o s)
drops_as (None, lists) o s h = h
drops_as (Some n, lists) o s h = tells o (notes.Drop s.number n) h tt tt

drops : (o : OutboxState) (s : InitiatorState) → AreOwn o.sides → At (drop_list_step o s)
drops o s h = drops_as (drop_lists s.lists) o s h

ends : (operation : Operation) (word : OpWord) (o : OutboxState) (s : InitiatorState) → AreOwn o.sides → At (end_step operation word o s)
ends operation word o s h = tells o (notes.Op s.number operation word) h tt tt

owns_for : (running : Option Running) (act : ℕ) (word : OpWord) (o : OutboxState) (s : InitiatorState) → AreOwn o.sides → At (end_own_for running act word o s)
owns_for None act word o s h = h
owns_for (Some running) act word o s h =
    pick (running.act == act) (end_step running.operation word o s) (o, s) (ends running.operation word o s h) h

owns : (act : ℕ) (word : OpWord) (o : OutboxState) (s : InitiatorState) → AreOwn o.sides → At (end_own_step act word o s)
owns act word o s h = owns_for s.operation act word o s h

fails : (act : ℕ) (o : OutboxState) (s : InitiatorState) → AreOwn o.sides → At (fail_step act o s)
fails act o s h =
    let t = end_own_step act words.Error o s in sticks t.0 t.1 (owns act words.Error o s h)

pointer_tells : (list : ℕ) (ending : Ending) (o : OutboxState) (s : InitiatorState) → AreOwn o.sides → At (pointer_ended list ending o s)
pointer_tells list (endings.Complete value) o s h = h
pointer_tells list (endings.Refused rcode) o s h = sticks o s h
pointer_tells list endings.Expired o s h = sticks o s h

doorbell_tells : (ending : Ending) (o : OutboxState) (s : InitiatorState) → AreOwn o.sides → At (doorbell_ended ending o s)
doorbell_tells (endings.Complete value) o s h = h
doorbell_tells (endings.Refused rcode) o s h = sticks o s h
doorbell_tells endings.Expired o s h = sticks o s h

reset_tells : (act : ℕ) (ending : Ending) (o : OutboxState) (s : InitiatorState) → AreOwn o.sides → At (reset_ended act ending o s)
reset_tells act (endings.Complete value) o s h =
    let t = drop_list_step o s in owns act words.Done t.0 t.1 (drops o s h)
reset_tells act (endings.Refused rcode) o s h = fails act o s h
reset_tells act endings.Expired o s h = fails act o s h

enable_tells : (act : ℕ) (ending : Ending) (o : OutboxState) (s : InitiatorState) → AreOwn o.sides → At (enable_ended act ending o s)
enable_tells act (endings.Complete value) o s h = owns act words.Done o s h
enable_tells act (endings.Refused rcode) o s h = fails act o s h
enable_tells act endings.Expired o s h = fails act o s h

conflicts_for : (running : Option Running) (act : ℕ) (o : OutboxState) (s : InitiatorState) → AreOwn o.sides → At (conflict_for running act o s)
conflicts_for None act o s h = h
conflicts_for (Some running) act o s h =
    let t = moved running.operation conflict s in
    pick (running.act == act) (end_step running.operation words.Conflict o t) (o, s) (ends running.operation words.Conflict o t h) h

management_tells : (act : ℕ) (ending : Ending) (o : OutboxState) (s : InitiatorState) → AreOwn o.sides → At (management_ended act ending o s)
management_tells act (endings.Complete value) o s h = h
management_tells act (endings.Refused rcode) o s h =
    pick (is_conflict rcode) (conflict_step act o s) (fail_step act o s) (conflicts_for s.operation act o s h) (fails act o s h)
management_tells act endings.Expired o s h = fails act o s h

drops_where : (b : Bool) (o : OutboxState) (s : InitiatorState) → AreOwn o.sides → At (drop_where b o s)
drops_where true o s h = drops o s h
drops_where false o s h = h

ends_good : (running : Running) (o : OutboxState) (s : InitiatorState) → AreOwn o.sides → At (good_end running o s)
ends_good running o s h =
    let response = response_of running s in
    ends running.operation (good_word running.operation response) o (moved running.operation (good_event running.operation response) s) h

manages : (running : Running) (status : ℕ) (o : OutboxState) (s : InitiatorState) → AreOwn o.sides → At (managed_step running status o s)
manages running status o s h =
    let t = drop_where (ends_list (Some running.operation)) o s in
    let u = moved running.operation bad s in
    pick (status == 0) (then_step (good_end running) t) (end_step running.operation (words.Refused status) o u)
    (ends_good running t.0 t.1 (drops_where (ends_list (Some running.operation)) o s h))
    (ends running.operation (words.Refused status) o u h)

unit_tells : (unit : Option SbpUnit) (act : ℕ) (o : OutboxState) (s : InitiatorState) → AreOwn o.sides → At (with_unit unit act o s)
unit_tells None act o s h = owns act words.NoUnit o s h
unit_tells (Some unit) act o s h = owns_for s.operation act words.Done o _ h

rom_tells : (r : Result Tree RomFault) (act : ℕ) (o : OutboxState) (s : InitiatorState) → AreOwn o.sides → At (with_rom r act o s)
rom_tells (Ok tree) act o s h = unit_tells (sbp_unit_of tree.blocks tree.entries) act o s h
rom_tells (Err fault) act o s h = owns act (words.Bad (fault_number fault)) o s h

finishes : (act : ℕ) (o : OutboxState) (s : InitiatorState) → AreOwn o.sides → At (finish_rom act o s)
finishes act o s h = rom_tells (reading s.quads) act o s h

quad_asked : (r : Option Asked × Layer Purpose) (act : ℕ) (o : OutboxState) (s : InitiatorState) → AreOwn o.sides → At (asked_quad r act o s)
quad_asked (Some asked, layer) act o s h = h
quad_asked (None, layer) act o s h = owns act words.Error o (record s { layer = layer }) h

quad_tells : (act : ℕ) (o : OutboxState) (s : InitiatorState) → AreOwn o.sides → At (quad_got act o s)
quad_tells act o s h =
    pick (length s.quads == 256) (finish_rom act o s) (ask_quad act o s) (finishes act o s h)
    (quad_asked (asking_step s.layer s.target (next_quad s.quads) (purposes.Rom act)) act o s h)

rom_ends : (act : ℕ) (ending : Ending) (o : OutboxState) (s : InitiatorState) → AreOwn o.sides → At (rom_ended act ending o s)
rom_ends act (endings.Complete value) o s h = quad_tells act o (record s { quads = with_quad s.quads value }) h
rom_ends act (endings.Refused rcode) o s h =
    pick (is_address rcode) (finish_rom act o s) (end_own_step act words.Error o s) (finishes act o s h) (owns act words.Error o s h)
rom_ends act endings.Expired o s h = owns act words.Error o s h

known : (b : Bool) (value : ℕ) (o : OutboxState) (s : InitiatorState) → AreOwn o.sides → At (known_where b value o s)
known true value o s h = pick (value == 0) (drop_list_step o s) (o, cond (value == 3) (with_dead s) s) (drops o s h) h
known false value o s h = h

state_tells : (act : ℕ) (word : OpWord) (o : OutboxState) (s : InitiatorState) → AreOwn o.sides → At (state_told act word o s)
state_tells act word o s h = tells o (notes.Op s.number operations.State word) h tt tt

state_ends : (act : ℕ) (list : Option ℕ) (ending : Ending) (o : OutboxState) (s : InitiatorState) → AreOwn o.sides → At (state_ended act list ending o s)
state_ends act list (endings.Complete value) o s h =
    let t = known_where (counts_for s.lists.slots.present list) value o s in
    state_tells act (words.State value) t.0 t.1 (known (counts_for s.lists.slots.present list) value o s h)
state_ends act list (endings.Refused rcode) o s h = state_tells act words.Error o s h
state_ends act list endings.Expired o s h = state_tells act words.Error o s h

ended_tells : (purpose : Purpose) (ending : Ending) (o : OutboxState) (s : InitiatorState) → AreOwn o.sides → At (ended_step purpose ending o s)
unfolding ended_step
ended_tells (purposes.Pointer list) ending o s h = pointer_tells list ending o s h
ended_tells purposes.Doorbell ending o s h = doorbell_tells ending o s h
ended_tells (purposes.AgentReset act) ending o s h = reset_tells act ending o s h
ended_tells (purposes.Enable act) ending o s h = enable_tells act ending o s h
ended_tells (purposes.Management act) ending o s h = management_tells act ending o s h
ended_tells (purposes.Rom act) ending o s h = rom_ends act ending o s h
ended_tells (purposes.State act list) ending o s h = state_ends act list ending o s h

ends_for : (purpose : Option Purpose) (ending : Ending) (o : OutboxState) (s : InitiatorState) → AreOwn o.sides → At (ended_for purpose ending o s)
ends_for None ending o s h = h
ends_for (Some purpose) ending o s h = ended_tells purpose ending o s h

-- ---- packets

responds_as : (r : List ℕ × Layer Purpose) (source : ℕ) (o : OutboxState) (s : InitiatorState) → AreOwn o.sides → At (responded_as r source o s)
responds_as (response, layer) source o s h = h

responds : (p : Packet) (bytes : List ℕ) (rcode : ℕ) (given : List ℕ) (t : Turn) → At t → At (respond_step p bytes rcode given t)
responds p bytes rcode given t h = responds_as (answering_step t.1.layer p bytes rcode given) (header_in p).source t.0 t.1 h

-- an ORB of a list ends with no status of management
abbrev IsTaken : StatusKind → Type 0
IsTaken (kinds.Management meaning) = ⊥
IsTaken _ = Unit {0}

answer_has_form : (kind : StatusKind) (lists : ListState) (slot : ℕ) → IsKeyed kind → IsTaken kind → IsAnswer kind (answer_of kind lists slot)
answer_has_form kinds.Good lists slot k t = tt
answer_has_form (kinds.Check sense) lists slot k t = (refl, k)
answer_has_form kinds.Dummy lists slot k t = (refl, tt)
answer_has_form kinds.Aborted lists slot k t = (refl, tt)
answer_has_form (kinds.Illegal meaning) lists slot k t = (refl, tt)
answer_has_form kinds.Failed lists slot k t = (refl, tt)
answer_has_form (kinds.Management meaning) lists slot k t = absurd t

takes_as : (r : Option TicketParts × ListState) (kind : StatusKind) (p : Packet) (bytes : List ℕ) (o : OutboxState) (s : InitiatorState) → IsKeyed kind → IsTaken kind → AreOwn o.sides → At (taken_as r kind p bytes o s).1
takes_as (None, lists) kind p bytes o s k t h = responds p bytes 0 [] (o, record s { lists = lists }) h
takes_as (Some ticket, lists) kind p bytes o s k t h =
    responds p bytes 0 [] (taken_by ticket lists kind o (called s))
    (tells o (notes.Taken s.number ticket.list ticket.number kind (answer_of kind lists ticket.slot)) h (answer_has_form kind lists ticket.slot k t) tt)

manages_for : (running : Option Running) (status : ℕ) (p : Packet) (bytes : List ℕ) (o : OutboxState) (s : InitiatorState) → AreOwn o.sides → At (managed_for running status p bytes o s).1
manages_for None status p bytes o s h = responds p bytes 0 [] (o, s) h
manages_for (Some running) status p bytes o s h = responds p bytes 0 [] (managed_step running status o (called s)) (manages running status o (called s) h)

blocks_by : (kind : StatusKind) (block : StatusBlock) (p : Packet) (bytes : List ℕ) (o : OutboxState) (s : InitiatorState) → IsKeyed kind → AreOwn o.sides → At (block_by kind block p bytes o s).1
blocks_by (kinds.Management status) block p bytes o s k h = manages_for (present_for block.orb s.operation) status p bytes o s h
blocks_by kinds.Good block p bytes o s k h = takes_as (take_lists s.lists block) kinds.Good p bytes o s k tt h
blocks_by (kinds.Check sense) block p bytes o s k h = takes_as (take_lists s.lists block) (kinds.Check sense) p bytes o s k tt h
blocks_by kinds.Dummy block p bytes o s k h = takes_as (take_lists s.lists block) kinds.Dummy p bytes o s k tt h
blocks_by kinds.Aborted block p bytes o s k h = takes_as (take_lists s.lists block) kinds.Aborted p bytes o s k tt h
blocks_by (kinds.Illegal meaning) block p bytes o s k h = takes_as (take_lists s.lists block) (kinds.Illegal meaning) p bytes o s k tt h
blocks_by kinds.Failed block p bytes o s k h = takes_as (take_lists s.lists block) kinds.Failed p bytes o s k tt h

blocks : (r : Result StatusBlock OrbFault) (p : Packet) (bytes : List ℕ) (o : OutboxState) (s : InitiatorState) → IsRead r → AreOwn o.sides → At (block_step r p bytes o s).1
blocks (Err fault) p bytes o s k h = responds p bytes 5 [] (o, s) h
blocks (Ok block) p bytes o s k h = blocks_by block.kind block p bytes o s (ok_keyed block k) h

pick_judged : (b : Bool) (x y : Judged × Turn) → At x.1 → At y.1 → At (cond b x y).1
pick_judged true x y h i = h
pick_judged false x y h i = i

statuses : (is_login : Bool) (payload : List ℕ) (p : Packet) (bytes : List ℕ) (o : OutboxState) (s : InitiatorState) → AreOwn o.sides → At (status_step is_login payload p bytes o s).1
statuses is_login payload p bytes o s h =
    pick_judged (is_login && is_block payload) (got_step p bytes (told o (notes.Told s.number), called s)) (block_step (status_in payload) p bytes o s)
    (responds p bytes 0 [] (told o (notes.Told s.number), called s) (tells o (notes.Told s.number) h tt tt))
    (blocks (status_in payload) p bytes o s (block_keyed _ payload) h)

reads_as : (r : ℕ × List ℕ) (p : Packet) (bytes : List ℕ) (o : OutboxState) (s : InitiatorState) → AreOwn o.sides → At (read_as r p bytes o s).1
reads_as (rcode, out) p bytes o s h = responds p bytes rcode out (o, called s) h

writes_as : (r : ℕ × ListState) (p : Packet) (bytes : List ℕ) (o : OutboxState) (s : InitiatorState) → AreOwn o.sides → At (written_as r p bytes o s).1
writes_as (rcode, lists) p bytes o s h = responds p bytes rcode [] (o, record (called s) { lists = lists }) h

serves : (p : Packet) (bytes : List ℕ) (o : OutboxState) (s : InitiatorState) → AreOwn o.sides → At (serve_step p bytes o s).1
serves (read_quadlet header offset) bytes o s h = reads_as (read_step s.lists.memory offset (replicate 4 0)) (read_quadlet header offset) bytes o s h
serves (read_block header offset asked) bytes o s h = reads_as (read_step s.lists.memory offset (replicate asked 0)) (read_block header offset asked) bytes o s h
serves (write_quadlet header offset value) bytes o s h = writes_as (write_lists s.lists offset (big_bytes 4 value)) (write_quadlet header offset value) bytes o s h
serves (write_block header offset payload) bytes o s h = writes_as (write_lists s.lists offset payload) (write_block header offset payload) bytes o s h
serves (write_response header rcode) bytes o s h = responds (write_response header rcode) bytes 6 [] (o, called s) h
serves (read_quadlet_response header rcode value) bytes o s h = responds (read_quadlet_response header rcode value) bytes 6 [] (o, called s) h
serves (read_block_response header rcode payload) bytes o s h = responds (read_block_response header rcode payload) bytes 6 [] (o, called s) h
serves (lock header offset extended payload) bytes o s h = responds (lock header offset extended payload) bytes 6 [] (o, called s) h
serves (lock_response header rcode extended payload) bytes o s h = responds (lock_response header rcode extended payload) bytes 6 [] (o, called s) h

blocks_at : (fifo : Option Fifo) (payload : List ℕ) (p : Packet) (bytes : List ℕ) (o : OutboxState) (s : InitiatorState) → AreOwn o.sides → At (block_at fifo payload p bytes o s).1
blocks_at None payload p bytes o s h = serves p bytes o s h
blocks_at (Some fifos.Closed) payload p bytes o s h = responds p bytes 7 [] (o, s) h
blocks_at (Some fifos.Login) payload p bytes o s h = statuses true payload p bytes o s h
blocks_at (Some fifos.Place) payload p bytes o s h = statuses false payload p bytes o s h

quadlets_at : (fifo : Option Fifo) (p : Packet) (bytes : List ℕ) (o : OutboxState) (s : InitiatorState) → AreOwn o.sides → At (quadlet_at fifo p bytes o s).1
quadlets_at None p bytes o s h = serves p bytes o s h
quadlets_at (Some fifos.Closed) p bytes o s h = responds p bytes 7 [] (o, s) h
quadlets_at (Some fifos.Login) p bytes o s h = serves p bytes o s h
quadlets_at (Some fifos.Place) p bytes o s h = serves p bytes o s h

reaches : (p : Packet) (bytes : List ℕ) (o : OutboxState) (s : InitiatorState) → AreOwn o.sides → At (addressed p bytes o s).1
reaches (read_quadlet header offset) bytes o s h = serves (read_quadlet header offset) bytes o s h
reaches (read_block header offset asked) bytes o s h = serves (read_block header offset asked) bytes o s h
reaches (write_quadlet header offset value) bytes o s h = quadlets_at (fifo_of s offset) (write_quadlet header offset value) bytes o s h
reaches (write_block header offset payload) bytes o s h = blocks_at (fifo_of s offset) payload (write_block header offset payload) bytes o s h
reaches (write_response header rcode) bytes o s h = serves (write_response header rcode) bytes o s h
reaches (read_quadlet_response header rcode value) bytes o s h = serves (read_quadlet_response header rcode value) bytes o s h
reaches (read_block_response header rcode payload) bytes o s h = serves (read_block_response header rcode payload) bytes o s h
reaches (lock header offset extended payload) bytes o s h = serves (lock header offset extended payload) bytes o s h
reaches (lock_response header rcode extended payload) bytes o s h = serves (lock_response header rcode extended payload) bytes o s h

requests : (p : Packet) (bytes : List ℕ) (o : OutboxState) (s : InitiatorState) → AreOwn o.sides → At (request_step p bytes o s).1
requests p bytes o s h =
    pick_judged (is_foreign p s) (ignored_step ignored.Source 7 p bytes (o, s)) (addressed p bytes o s) (responds p bytes 7 [] (o, s) h) (reaches p bytes o s h)

receives_as : (r : Finding Purpose × Layer Purpose) (bytes : List ℕ) (o : OutboxState) (s : InitiatorState) → AreOwn o.sides → At (received r bytes o s).1
receives_as (of_generation, layer) bytes o s h = h
receives_as (of_grammar, layer) bytes o s h = h
receives_as (of_label, layer) bytes o s h = h
receives_as (of_response p label purpose, layer) bytes o s h = ends_for purpose (ending_of p) o (called (record s { layer = layer })) h
receives_as (of_again p rcode, layer) bytes o s h = responds p bytes rcode [] (o, record s { layer = layer }) h
receives_as (of_request p, layer) bytes o s h = requests p bytes o (record s { layer = layer }) h

pub receives : (generation : ℕ) (bytes : List ℕ) (o : OutboxState) (s : InitiatorState) → AreOwn o.sides → At (receive_step generation bytes o s).1
unfolding receive_step
receives generation bytes o s h = receives_as (judging_step s.layer generation bytes) bytes o s h

expires_as : (r : Result (Option Purpose) Stale × Layer Purpose) (o : OutboxState) (s : InitiatorState) → AreOwn o.sides → At (expired_as r o s).1
expires_as (Err stale, layer) o s h = h
expires_as (Ok purpose, layer) o s h = ends_for purpose endings.Expired o (called (record s { layer = layer })) h

pub expires : (label : LabelParts) (o : OutboxState) (s : InitiatorState) → AreOwn o.sides → At (expire_step label o s).1
unfolding expire_step
expires label o s h = expires_as (expiring_step s.layer s.target label) o s h

-- ---- resets

resets : (number : ℕ) (operation : Operation) (o : OutboxState) → AreOwn o.sides → AreOwn (reset_told number operation o).sides
resets number operation o h = tells o (notes.Op number operation words.Reset) h tt tt

states_reset : (number : ℕ) (acts : List ℕ) (o : OutboxState) → AreOwn o.sides → AreOwn (states_end number acts o).sides
states_reset number [] o h = h
states_reset number (act ∷ acts) o h = states_reset number acts (reset_told number operations.State o) (resets number operations.State o h)

all_reset : (number : ℕ) (running : Running) (acts : List ℕ) (o : OutboxState) → AreOwn o.sides → AreOwn (all_end number running acts o).sides
all_reset number running [] o h = resets number running.operation o h
all_reset number running (act ∷ acts) o h =
    pick_outbox (nat_lt running.act act) (states_end number (act ∷ acts) (reset_told number running.operation o)) (all_end number running acts (reset_told number operations.State o))
    (states_reset number (act ∷ acts) (reset_told number running.operation o) (resets number running.operation o h))
    (all_reset number running acts (reset_told number operations.State o) (resets number operations.State o h))

resets_tell : (number : ℕ) (running : Option Running) (acts : List ℕ) (o : OutboxState) → AreOwn o.sides → AreOwn (resets_told number running acts o).sides
resets_tell number None acts o h = states_reset number acts o h
resets_tell number (Some running) acts o h = all_reset number running acts o h

reset_tells_all : (target : ℕ) (o : OutboxState) (s : InitiatorState) → AreOwn o.sides → At (reset_step target o s)
reset_tells_all target o s h =
    drops (resets_told s.number s.operation s.states o) (interrupted s target) (resets_tell s.number s.operation s.states o h)

sees_as : (r : Bool × Layer Purpose) (target : ℕ) (o : OutboxState) (s : InitiatorState) → AreOwn o.sides → At (seen_as r target o s)
sees_as (false, layer) target o s h = h
sees_as (true, layer) target o s h = reset_tells_all target o (record s { layer = layer }) h

pub sees : (generation id target : ℕ) (o : OutboxState) (s : InitiatorState) → AreOwn o.sides → At (see_step generation id target o s)
unfolding see_step
sees generation id target o s h = sees_as (seeing_step s.layer generation id) target o s h

-- ---- actions

pub in_has_byte : (b : Bool) (len : ℕ) → nat_eq len 0 ≡ b → IsBuffer (cond b Nothing (In len))
in_has_byte true len e = tt
in_has_byte false len e = grind arith

pub out_has_byte : (bytes : List ℕ) → IsBuffer (out_buffer bytes)
out_has_byte [] = tt
out_has_byte (byte ∷ bytes) = omega arith

pub pick_buffer : (b : Bool) (x y : NoteBuffer) → IsBuffer x → IsBuffer y → IsBuffer (cond b x y)
pick_buffer true x y h i = h
pick_buffer false x y h i = i

pub buffer_has_byte : (cmd : Cmd) → IsBuffer (buffer_of cmd)
buffer_has_byte cmd =
    pick_buffer cmd.to_initiator (in_buffer cmd.length) (out_buffer (take cmd.length cmd.payload)) (in_has_byte (nat_eq cmd.length 0) cmd.length refl) (out_has_byte (take cmd.length cmd.payload))

puts_as : (r : Option TicketParts × ListState) (cmd : Cmd) (o : OutboxState) (s : InitiatorState) → AreOwn o.sides → At (put_as r cmd o s)
puts_as (None, lists) cmd o s h = h
puts_as (Some t, lists) cmd o s h = tells o (notes.Append s.number t.list t.number cmd.cdb (buffer_of cmd)) h (buffer_has_byte cmd) tt

puts : (cmd : Cmd) (o : OutboxState) (s : InitiatorState) → AreOwn o.sides → At (put_step cmd o s)
puts cmd o s h = puts_as (put_lists s.lists cmd s.layer.node (login_id s)) cmd o s h

lows_as : (r : Option TicketParts × ListState) (o : OutboxState) (s : InitiatorState) → AreOwn o.sides → At (low_as r o s)
lows_as (None, lists) o s h = h
lows_as (Some t, lists) o s h = tells o (notes.Low s.number t.list t.number) h tt tt

links_as : (r : Option TicketParts × ListState) (o : OutboxState) (s : InitiatorState) → AreOwn o.sides → At (link_as r o s)
links_as (None, lists) o s h = h
links_as (Some t, lists) o s h = tells o (notes.Linked s.number t.list t.number) h tt tt

rings_for : (list : Option PresentList) (o : OutboxState) (s : InitiatorState) → AreOwn o.sides → At (ring_for list o s)
rings_for None o s h = h
rings_for (Some list) o s h = tells o (notes.Rung s.number list.tail.list _) h tt tt

dummies_for : (ticket : Option TicketParts) (o : OutboxState) (s : InitiatorState) → AreOwn o.sides → At (dummy_for ticket o s)
dummies_for None o s h = h
dummies_for (Some t) o s h = tells o (notes.Dummied s.number t.list t.number) h tt tt

appends : (cmd : Cmd) (o : OutboxState) (s : InitiatorState) → AreOwn o.sides → At (append_step cmd o s)
appends cmd o s h =
    let a = put_step cmd o s in
    let b = low_step a.0 a.1 in
    let c = link_step b.0 b.1 in
    rings_for c.1.lists.slots.present c.0 c.1 (links_as (high_lists b.1.lists) b.0 b.1 (lows_as (low_lists a.1.lists) a.0 a.1 (puts cmd o s h)))

does : (action : Action) (o : OutboxState) (s : InitiatorState) → AreOwn o.sides → At (done_step action o s)
unfolding done_step
does (actions.Put cmd) o s h = puts cmd o s h
does (actions.Append cmd) o s h = appends cmd o s h
does actions.Low o s h = lows_as (low_lists s.lists) o s h
does actions.Link o s h = links_as (high_lists s.lists) o s h
does actions.Ring o s h = rings_for s.lists.slots.present o s h
does (actions.Dummy orb) o s h = dummies_for (find_in s.lists.slots.slots orb) o s h
does actions.Rom o s h = h
does actions.AgentReset o s h = h
does actions.State o s h = h
does actions.Enable o s h = h
does (actions.Login unit reconnect exclusive password) o s h = h
does (actions.Query unit) o s h = h
does actions.Reconnect o s h = h
does actions.Logout o s h = h
does (actions.Abort orb) o s h = h
does actions.AbortSet o s h = h
does actions.UnitReset o s h = h
does actions.TargetReset o s h = h

asks_as : (r : Option Asked × Layer Purpose) (action : Action) (o : OutboxState) (s : InitiatorState) → AreOwn o.sides → At (asked_as r action o s).1
asks_as (None, layer) action o s h = h
asks_as (Some asked, layer) action o s h = does action o (record s { layer = layer }) h

demands_as : (demand : Option Demand) (action : Action) (o : OutboxState) (s : InitiatorState) → AreOwn o.sides → At (demanded_as demand action o s).1
demands_as None action o s h = does action o s h
demands_as (Some demand) action o s h = asks_as (asked_for demand s) action o s h

judges_as : (number : Option ℕ) (action : Action) (o : OutboxState) (s : InitiatorState) → AreOwn o.sides → At (judged_as number action o s).1
judges_as (Some number) action o s h = h
judges_as None action o s h = demands_as (demand_of action s) action o s h

pub acts : (action : Action) (o : OutboxState) (s : InitiatorState) → AreOwn o.sides → At (act_step action o s).1
unfolding act_step
acts action o s h = judges_as (refusal action (facts_with true s action)) action o s h

-- ---- among the initiators
listed_own : (i : ℕ) (r : Judged × Turn) (states : List InitiatorState) → At r.1 → AreOwn (listed i r states).1.0.sides
listed_own i (judged, (outbox, state)) states h = h

pub initiators_own : (i : ℕ) (sent : Sent) (states : List InitiatorState) → AreOwn (initiators_received i sent states).1.0.sides
unfolding initiators_received
initiators_own i sent states =
    let s = slice_index_or states i (new_state 0 false) in
    listed_own i (receive_step sent.generation sent.bytes empty_outbox s) states (receives sent.generation sent.bytes empty_outbox s tt)
