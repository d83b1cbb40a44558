-- What an initiator tells in a delivery, in a time-out and as it sees a generation is of no step of a list, and so says nothing of its ORBs.
use Rattle.sbp_world.proofs.Words.Std.{◌≡◌, refl, sym, ℕ, ◌==◌, ◌&&◌, nat_lt, Bool, true, false, cond, List, [], ◌∷◌, ◌++◌, length, replicate, Option, Some, None, Result, Ok, Err, big_bytes, AllByRecursion}
use Rattle.sbp_world.proofs.Words.Wire.{LabelParts, Packet, header_in, lock, read_block, read_block_response, read_quadlet, read_quadlet_response, lock_response, write_block, write_quadlet, write_response, Asked, Stale, Layer, Finding, of_generation, of_grammar, of_label, of_response, of_again, of_request, answering_step, asking_step, expiring_step, judging_step, seeing_step, Judged, Note, Operation, OpWord, OutboxState, Side}
use Rattle.sbp_world.proofs.Words.Target.{RomFault, SbpUnit, Tree, reading, sbp_unit_of, is_block}
use Rattle.sbp_world.proofs.Words.Initiator.{is_step, read_step, OrbFault, StatusBlock, StatusKind, TicketParts, bad, conflict, Fifo, Ending, Purpose, Running, InitiatorState, ListState, drop_lists, take_lists, write_lists, ends_list, counts_for, ending_of, status_in, is_stuck_seat, Turn, ask_quad, asked_quad, conflict_for, conflict_step, doorbell_ended, drop_list_step, drop_where, dropped_as, enable_ended, end_own_for, end_own_step, end_step, ended_for, ended_step, fail_step, fault_number, finish_rom, good_end, good_event, good_word, is_address, is_conflict, known_where, managed_step, management_ended, moved, next_quad, pointer_ended, quad_got, reset_ended, response_of, rom_ended, state_ended, state_told, stick_step, then_step, told, with_dead, with_rom, with_unit, with_quad, addressed, answer_of, block_at, block_by, block_step, called, expire_step, expired_as, fifo_of, got_step, ignored_step, is_foreign, managed_for, present_for, quadlet_at, read_as, receive_step, received, request_step, respond_step, responded_as, serve_step, status_step, taken_as, taken_by, written_as, all_end, interrupted, reset_step, reset_told, resets_told, see_step, seen_as, states_end}
use Rattle.orb_layout.specs.declared.status.StatusKind.TheVariants as kinds
use Rattle.sbp_journal.specs.declared.cause.Cause.TheVariants as ignored
use Rattle.sbp_journal.specs.declared.note.Note.TheVariants as notes
use Rattle.sbp_journal.specs.declared.operation.Operation.TheVariants as operations
use Rattle.sbp_journal.specs.declared.operation.OpWord.TheVariants as words
use Rattle.sbp_journal.specs.declared.side.Side.TheVariants as sides
use Rattle.initiator_base.specs.declared.fifos.Fifo.TheVariants as fifos
use Rattle.sbp_initiator.specs.declared.purpose.Ending.TheVariants as endings
use Rattle.sbp_initiator.specs.declared.purpose.Purpose.TheVariants as purposes
use Rattle.sbp_world.proofs.Hosts.OrbTerms.{AreStill, IsStill, is_left}
use Rattle.sbp_world.proofs.Common.{untrue}

-- of no step of a list
abbrev pub IsUnstepped : Side → Type 0
IsUnstepped (sides.Own note) = is_step note ≡ false
IsUnstepped _ = ⊥

abbrev pub AreUnstepped : List Side → Type 0
AreUnstepped told = AllByRecursion IsUnstepped told

abbrev pub At : Turn → Type 0
At t = AreUnstepped t.0.sides

unstepped_more : (told : List Side) (side : Side) → AreUnstepped told → IsUnstepped side → AreUnstepped (told ++ side ∷ [])
unstepped_more [] side h f = (f, tt)
unstepped_more (first ∷ told) side h f = (h.0, unstepped_more told side h.1 f)

pick_outbox : (b : Bool) (x y : OutboxState) → AreUnstepped x.sides → AreUnstepped y.sides → AreUnstepped (cond b x y).sides
pick_outbox true x y h i = h
pick_outbox false x y h i = i

tells : (o : OutboxState) (note : Note) → AreUnstepped o.sides → is_step note ≡ false → AreUnstepped (told o note).sides
tells o note h f = unstepped_more o.sides (sides.Own note) h f

pick : (b : Bool) (x y : Turn) → At x → At y → At (cond b x y)
pick true x y h i = h
pick false x y h i = i

-- ---- the end of a transaction

sticks : (o : OutboxState) (s : InitiatorState) → AreUnstepped o.sides → At (stick_step o s)
sticks o s h = pick_outbox (is_stuck_seat s.seat) o (told o (notes.Stuck s.number)) h (tells o (notes.Stuck s.number) h refl)

drops_as : (r : Option ℕ × ListState) (o : OutboxState) (s : InitiatorState) → AreUnstepped o.sides → At (dropped_as r o s)
drops_as (None, lists) o s h = h
drops_as (Some n, lists) o s h = tells o (notes.Drop s.number n) h refl

drops : (o : OutboxState) (s : InitiatorState) → AreUnstepped o.sides → At (drop_list_step o s)
drops o s h = drops_as (drop_lists s.lists) o s h

ends : (operation : Operation) (word : OpWord) (o : OutboxState) (s : InitiatorState) → AreUnstepped o.sides → At (end_step operation word o s)
ends operation word o s h = tells o (notes.Op s.number operation word) h refl

owns_for : (running : Option Running) (act : ℕ) (word : OpWord) (o : OutboxState) (s : InitiatorState) → AreUnstepped o.sides → At (end_own_for running act word o s)
owns_for None act word o s h = h
owns_for (Some running) act word o s h =
    pick (running.act == act) (end_step running.operation word o s) (o, s) (ends running.operation word o s h) h

owns : (act : ℕ) (word : OpWord) (o : OutboxState) (s : InitiatorState) → AreUnstepped o.sides → At (end_own_step act word o s)
owns act word o s h = owns_for s.operation act word o s h

fails : (act : ℕ) (o : OutboxState) (s : InitiatorState) → AreUnstepped o.sides → At (fail_step act o s)
fails act o s h =
    let t = end_own_step act words.Error o s in sticks t.0 t.1 (owns act words.Error o s h)

pointer_tells : (list : ℕ) (ending : Ending) (o : OutboxState) (s : InitiatorState) → AreUnstepped o.sides → At (pointer_ended list ending o s)
pointer_tells list (endings.Complete value) o s h = h
pointer_tells list (endings.Refused rcode) o s h = sticks o s h
pointer_tells list endings.Expired o s h = sticks o s h

doorbell_tells : (ending : Ending) (o : OutboxState) (s : InitiatorState) → AreUnstepped o.sides → At (doorbell_ended ending o s)
doorbell_tells (endings.Complete value) o s h = h
doorbell_tells (endings.Refused rcode) o s h = sticks o s h
doorbell_tells endings.Expired o s h = sticks o s h

reset_tells : (act : ℕ) (ending : Ending) (o : OutboxState) (s : InitiatorState) → AreUnstepped o.sides → At (reset_ended act ending o s)
reset_tells act (endings.Complete value) o s h =
    let t = drop_list_step o s in owns act words.Done t.0 t.1 (drops o s h)
reset_tells act (endings.Refused rcode) o s h = fails act o s h
reset_tells act endings.Expired o s h = fails act o s h

enable_tells : (act : ℕ) (ending : Ending) (o : OutboxState) (s : InitiatorState) → AreUnstepped o.sides → At (enable_ended act ending o s)
enable_tells act (endings.Complete value) o s h = owns act words.Done o s h
enable_tells act (endings.Refused rcode) o s h = fails act o s h
enable_tells act endings.Expired o s h = fails act o s h

conflicts_for : (running : Option Running) (act : ℕ) (o : OutboxState) (s : InitiatorState) → AreUnstepped o.sides → At (conflict_for running act o s)
conflicts_for None act o s h = h
conflicts_for (Some running) act o s h =
    let t = moved running.operation conflict s in
    pick (running.act == act) (end_step running.operation words.Conflict o t) (o, s) (ends running.operation words.Conflict o t h) h

management_tells : (act : ℕ) (ending : Ending) (o : OutboxState) (s : InitiatorState) → AreUnstepped o.sides → At (management_ended act ending o s)
management_tells act (endings.Complete value) o s h = h
management_tells act (endings.Refused rcode) o s h =
    pick (is_conflict rcode) (conflict_step act o s) (fail_step act o s) (conflicts_for s.operation act o s h) (fails act o s h)
management_tells act endings.Expired o s h = fails act o s h

drops_where : (b : Bool) (o : OutboxState) (s : InitiatorState) → AreUnstepped o.sides → At (drop_where b o s)
drops_where true o s h = drops o s h
drops_where false o s h = h

ends_good : (running : Running) (o : OutboxState) (s : InitiatorState) → AreUnstepped o.sides → At (good_end running o s)
ends_good running o s h =
    let response = response_of running s in
    ends running.operation (good_word running.operation response) o (moved running.operation (good_event running.operation response) s) h

manages : (running : Running) (status : ℕ) (o : OutboxState) (s : InitiatorState) → AreUnstepped o.sides → At (managed_step running status o s)
manages running status o s h =
    let t = drop_where (ends_list (Some running.operation)) o s in
    let u = moved running.operation bad s in
    pick (status == 0) (then_step (good_end running) t) (end_step running.operation (words.Refused status) o u)
    (ends_good running t.0 t.1 (drops_where (ends_list (Some running.operation)) o s h))
    (ends running.operation (words.Refused status) o u h)

unit_tells : (unit : Option SbpUnit) (act : ℕ) (o : OutboxState) (s : InitiatorState) → AreUnstepped o.sides → At (with_unit unit act o s)
unit_tells None act o s h = owns act words.NoUnit o s h
unit_tells (Some unit) act o s h = owns_for s.operation act words.Done o _ h

rom_tells : (r : Result Tree RomFault) (act : ℕ) (o : OutboxState) (s : InitiatorState) → AreUnstepped o.sides → At (with_rom r act o s)
rom_tells (Ok tree) act o s h = unit_tells (sbp_unit_of tree.blocks tree.entries) act o s h
rom_tells (Err fault) act o s h = owns act (words.Bad (fault_number fault)) o s h

finishes : (act : ℕ) (o : OutboxState) (s : InitiatorState) → AreUnstepped o.sides → At (finish_rom act o s)
finishes act o s h = rom_tells (reading s.quads) act o s h

quad_asked : (r : Option Asked × Layer Purpose) (act : ℕ) (o : OutboxState) (s : InitiatorState) → AreUnstepped o.sides → At (asked_quad r act o s)
quad_asked (Some asked, layer) act o s h = h
quad_asked (None, layer) act o s h = owns act words.Error o (record s { layer = layer }) h

quad_tells : (act : ℕ) (o : OutboxState) (s : InitiatorState) → AreUnstepped o.sides → At (quad_got act o s)
quad_tells act o s h =
    pick (length s.quads == 256) (finish_rom act o s) (ask_quad act o s) (finishes act o s h)
    (quad_asked (asking_step s.layer s.target (next_quad s.quads) (purposes.Rom act)) act o s h)

rom_ends : (act : ℕ) (ending : Ending) (o : OutboxState) (s : InitiatorState) → AreUnstepped o.sides → At (rom_ended act ending o s)
rom_ends act (endings.Complete value) o s h = quad_tells act o (record s { quads = with_quad s.quads value }) h
rom_ends act (endings.Refused rcode) o s h =
    pick (is_address rcode) (finish_rom act o s) (end_own_step act words.Error o s) (finishes act o s h) (owns act words.Error o s h)
rom_ends act endings.Expired o s h = owns act words.Error o s h

known : (b : Bool) (value : ℕ) (o : OutboxState) (s : InitiatorState) → AreUnstepped o.sides → At (known_where b value o s)
known true value o s h = pick (value == 0) (drop_list_step o s) (o, cond (value == 3) (with_dead s) s) (drops o s h) h
known false value o s h = h

state_tells : (act : ℕ) (word : OpWord) (o : OutboxState) (s : InitiatorState) → AreUnstepped o.sides → At (state_told act word o s)
state_tells act word o s h = tells o (notes.Op s.number operations.State word) h refl

state_ends : (act : ℕ) (list : Option ℕ) (ending : Ending) (o : OutboxState) (s : InitiatorState) → AreUnstepped o.sides → At (state_ended act list ending o s)
state_ends act list (endings.Complete value) o s h =
    let t = known_where (counts_for s.lists.slots.present list) value o s in
    state_tells act (words.State value) t.0 t.1 (known (counts_for s.lists.slots.present list) value o s h)
state_ends act list (endings.Refused rcode) o s h = state_tells act words.Error o s h
state_ends act list endings.Expired o s h = state_tells act words.Error o s h

ended_tells : (purpose : Purpose) (ending : Ending) (o : OutboxState) (s : InitiatorState) → AreUnstepped o.sides → At (ended_step purpose ending o s)
unfolding ended_step
ended_tells (purposes.Pointer list) ending o s h = pointer_tells list ending o s h
ended_tells purposes.Doorbell ending o s h = doorbell_tells ending o s h
ended_tells (purposes.AgentReset act) ending o s h = reset_tells act ending o s h
ended_tells (purposes.Enable act) ending o s h = enable_tells act ending o s h
ended_tells (purposes.Management act) ending o s h = management_tells act ending o s h
ended_tells (purposes.Rom act) ending o s h = rom_ends act ending o s h
ended_tells (purposes.State act list) ending o s h = state_ends act list ending o s h

ends_for : (purpose : Option Purpose) (ending : Ending) (o : OutboxState) (s : InitiatorState) → AreUnstepped o.sides → At (ended_for purpose ending o s)
ends_for None ending o s h = h
ends_for (Some purpose) ending o s h = ended_tells purpose ending o s h

-- ---- packets

responds_as : (r : List ℕ × Layer Purpose) (source : ℕ) (o : OutboxState) (s : InitiatorState) → AreUnstepped o.sides → At (responded_as r source o s)
responds_as (response, layer) source o s h = h

responds : (p : Packet) (bytes : List ℕ) (rcode : ℕ) (given : List ℕ) (t : Turn) → At t → At (respond_step p bytes rcode given t)
responds p bytes rcode given t h = responds_as (answering_step t.1.layer p bytes rcode given) (header_in p).source t.0 t.1 h

takes_as : (r : Option TicketParts × ListState) (kind : StatusKind) (p : Packet) (bytes : List ℕ) (o : OutboxState) (s : InitiatorState) → AreUnstepped o.sides → At (taken_as r kind p bytes o s).1
takes_as (None, lists) kind p bytes o s h = responds p bytes 0 [] (o, record s { lists = lists }) h
takes_as (Some ticket, lists) kind p bytes o s h =
    responds p bytes 0 [] (taken_by ticket lists kind o (called s))
    (tells o (notes.Taken s.number ticket.list ticket.number kind (answer_of kind lists ticket.slot)) h refl)

manages_for : (running : Option Running) (status : ℕ) (p : Packet) (bytes : List ℕ) (o : OutboxState) (s : InitiatorState) → AreUnstepped o.sides → At (managed_for running status p bytes o s).1
manages_for None status p bytes o s h = responds p bytes 0 [] (o, s) h
manages_for (Some running) status p bytes o s h = responds p bytes 0 [] (managed_step running status o (called s)) (manages running status o (called s) h)

blocks_by : (kind : StatusKind) (block : StatusBlock) (p : Packet) (bytes : List ℕ) (o : OutboxState) (s : InitiatorState) → AreUnstepped o.sides → At (block_by kind block p bytes o s).1
blocks_by (kinds.Management status) block p bytes o s h = manages_for (present_for block.orb s.operation) status p bytes o s h
blocks_by kinds.Good block p bytes o s h = takes_as (take_lists s.lists block) kinds.Good p bytes o s h
blocks_by (kinds.Check sense) block p bytes o s h = takes_as (take_lists s.lists block) (kinds.Check sense) p bytes o s h
blocks_by kinds.Dummy block p bytes o s h = takes_as (take_lists s.lists block) kinds.Dummy p bytes o s h
blocks_by kinds.Aborted block p bytes o s h = takes_as (take_lists s.lists block) kinds.Aborted p bytes o s h
blocks_by (kinds.Illegal meaning) block p bytes o s h = takes_as (take_lists s.lists block) (kinds.Illegal meaning) p bytes o s h
blocks_by kinds.Failed block p bytes o s h = takes_as (take_lists s.lists block) kinds.Failed p bytes o s h

blocks : (r : Result StatusBlock OrbFault) (p : Packet) (bytes : List ℕ) (o : OutboxState) (s : InitiatorState) → AreUnstepped o.sides → At (block_step r p bytes o s).1
blocks (Err fault) p bytes o s h = responds p bytes 5 [] (o, s) h
blocks (Ok block) p bytes o s h = blocks_by block.kind block p bytes o s h

pick_judged : (b : Bool) (x y : Judged × Turn) → At x.1 → At y.1 → At (cond b x y).1
pick_judged true x y h i = h
pick_judged false x y h i = i

statuses : (is_login : Bool) (payload : List ℕ) (p : Packet) (bytes : List ℕ) (o : OutboxState) (s : InitiatorState) → AreUnstepped o.sides → At (status_step is_login payload p bytes o s).1
statuses is_login payload p bytes o s h =
    pick_judged (is_login && is_block payload) (got_step p bytes (told o (notes.Told s.number), called s)) (block_step (status_in payload) p bytes o s)
    (responds p bytes 0 [] (told o (notes.Told s.number), called s) (tells o (notes.Told s.number) h refl))
    (blocks (status_in payload) p bytes o s h)

reads_as : (r : ℕ × List ℕ) (p : Packet) (bytes : List ℕ) (o : OutboxState) (s : InitiatorState) → AreUnstepped o.sides → At (read_as r p bytes o s).1
reads_as (rcode, out) p bytes o s h = responds p bytes rcode out (o, called s) h

writes_as : (r : ℕ × ListState) (p : Packet) (bytes : List ℕ) (o : OutboxState) (s : InitiatorState) → AreUnstepped o.sides → At (written_as r p bytes o s).1
writes_as (rcode, lists) p bytes o s h = responds p bytes rcode [] (o, record (called s) { lists = lists }) h

serves : (p : Packet) (bytes : List ℕ) (o : OutboxState) (s : InitiatorState) → AreUnstepped o.sides → At (serve_step p bytes o s).1
serves (read_quadlet header offset) bytes o s h = reads_as (read_step s.lists.memory offset (replicate 4 0)) (read_quadlet header offset) bytes o s h
serves (read_block header offset asked) bytes o s h = reads_as (read_step s.lists.memory offset (replicate asked 0)) (read_block header offset asked) bytes o s h
serves (write_quadlet header offset value) bytes o s h = writes_as (write_lists s.lists offset (big_bytes 4 value)) (write_quadlet header offset value) bytes o s h
serves (write_block header offset payload) bytes o s h = writes_as (write_lists s.lists offset payload) (write_block header offset payload) bytes o s h
serves (write_response header rcode) bytes o s h = responds (write_response header rcode) bytes 6 [] (o, called s) h
serves (read_quadlet_response header rcode value) bytes o s h = responds (read_quadlet_response header rcode value) bytes 6 [] (o, called s) h
serves (read_block_response header rcode payload) bytes o s h = responds (read_block_response header rcode payload) bytes 6 [] (o, called s) h
serves (lock header offset extended payload) bytes o s h = responds (lock header offset extended payload) bytes 6 [] (o, called s) h
serves (lock_response header rcode extended payload) bytes o s h = responds (lock_response header rcode extended payload) bytes 6 [] (o, called s) h

blocks_at : (fifo : Option Fifo) (payload : List ℕ) (p : Packet) (bytes : List ℕ) (o : OutboxState) (s : InitiatorState) → AreUnstepped o.sides → At (block_at fifo payload p bytes o s).1
blocks_at None payload p bytes o s h = serves p bytes o s h
blocks_at (Some fifos.Closed) payload p bytes o s h = responds p bytes 7 [] (o, s) h
blocks_at (Some fifos.Login) payload p bytes o s h = statuses true payload p bytes o s h
blocks_at (Some fifos.Place) payload p bytes o s h = statuses false payload p bytes o s h

quadlets_at : (fifo : Option Fifo) (p : Packet) (bytes : List ℕ) (o : OutboxState) (s : InitiatorState) → AreUnstepped o.sides → At (quadlet_at fifo p bytes o s).1
quadlets_at None p bytes o s h = serves p bytes o s h
quadlets_at (Some fifos.Closed) p bytes o s h = responds p bytes 7 [] (o, s) h
quadlets_at (Some fifos.Login) p bytes o s h = serves p bytes o s h
quadlets_at (Some fifos.Place) p bytes o s h = serves p bytes o s h

reaches : (p : Packet) (bytes : List ℕ) (o : OutboxState) (s : InitiatorState) → AreUnstepped o.sides → At (addressed p bytes o s).1
reaches (read_quadlet header offset) bytes o s h = serves (read_quadlet header offset) bytes o s h
reaches (read_block header offset asked) bytes o s h = serves (read_block header offset asked) bytes o s h
reaches (write_quadlet header offset value) bytes o s h = quadlets_at (fifo_of s offset) (write_quadlet header offset value) bytes o s h
reaches (write_block header offset payload) bytes o s h = blocks_at (fifo_of s offset) payload (write_block header offset payload) bytes o s h
reaches (write_response header rcode) bytes o s h = serves (write_response header rcode) bytes o s h
reaches (read_quadlet_response header rcode value) bytes o s h = serves (read_quadlet_response header rcode value) bytes o s h
reaches (read_block_response header rcode payload) bytes o s h = serves (read_block_response header rcode payload) bytes o s h
reaches (lock header offset extended payload) bytes o s h = serves (lock header offset extended payload) bytes o s h
reaches (lock_response header rcode extended payload) bytes o s h = serves (lock_response header rcode extended payload) bytes o s h

requests : (p : Packet) (bytes : List ℕ) (o : OutboxState) (s : InitiatorState) → AreUnstepped o.sides → At (request_step p bytes o s).1
requests p bytes o s h =
    pick_judged (is_foreign p s) (ignored_step ignored.Source 7 p bytes (o, s)) (addressed p bytes o s) (responds p bytes 7 [] (o, s) h) (reaches p bytes o s h)

receives_as : (r : Finding Purpose × Layer Purpose) (bytes : List ℕ) (o : OutboxState) (s : InitiatorState) → AreUnstepped o.sides → At (received r bytes o s).1
receives_as (of_generation, layer) bytes o s h = h
receives_as (of_grammar, layer) bytes o s h = h
receives_as (of_label, layer) bytes o s h = h
receives_as (of_response p label purpose, layer) bytes o s h = ends_for purpose (ending_of p) o (called (record s { layer = layer })) h
receives_as (of_again p rcode, layer) bytes o s h = responds p bytes rcode [] (o, record s { layer = layer }) h
receives_as (of_request p, layer) bytes o s h = requests p bytes o (record s { layer = layer }) h

pub receives_unstepped : (generation : ℕ) (bytes : List ℕ) (o : OutboxState) (s : InitiatorState) → AreUnstepped o.sides → At (receive_step generation bytes o s).1
unfolding receive_step
receives_unstepped generation bytes o s h = receives_as (judging_step s.layer generation bytes) bytes o s h

expires_as : (r : Result (Option Purpose) Stale × Layer Purpose) (o : OutboxState) (s : InitiatorState) → AreUnstepped o.sides → At (expired_as r o s).1
expires_as (Err stale, layer) o s h = h
expires_as (Ok purpose, layer) o s h = ends_for purpose endings.Expired o (called (record s { layer = layer })) h

pub expires_unstepped : (label : LabelParts) (o : OutboxState) (s : InitiatorState) → AreUnstepped o.sides → At (expire_step label o s).1
unfolding expire_step
expires_unstepped label o s h = expires_as (expiring_step s.layer s.target label) o s h

-- ---- resets

resets : (number : ℕ) (operation : Operation) (o : OutboxState) → AreUnstepped o.sides → AreUnstepped (reset_told number operation o).sides
resets number operation o h = tells o (notes.Op number operation words.Reset) h refl

states_reset : (number : ℕ) (acts : List ℕ) (o : OutboxState) → AreUnstepped o.sides → AreUnstepped (states_end number acts o).sides
states_reset number [] o h = h
states_reset number (act ∷ acts) o h = states_reset number acts (reset_told number operations.State o) (resets number operations.State o h)

all_reset : (number : ℕ) (running : Running) (acts : List ℕ) (o : OutboxState) → AreUnstepped o.sides → AreUnstepped (all_end number running acts o).sides
all_reset number running [] o h = resets number running.operation o h
all_reset number running (act ∷ acts) o h =
    pick_outbox (nat_lt running.act act) (states_end number (act ∷ acts) (reset_told number running.operation o)) (all_end number running acts (reset_told number operations.State o))
    (states_reset number (act ∷ acts) (reset_told number running.operation o) (resets number running.operation o h))
    (all_reset number running acts (reset_told number operations.State o) (resets number operations.State o h))

resets_tell : (number : ℕ) (running : Option Running) (acts : List ℕ) (o : OutboxState) → AreUnstepped o.sides → AreUnstepped (resets_told number running acts o).sides
resets_tell number None acts o h = states_reset number acts o h
resets_tell number (Some running) acts o h = all_reset number running acts o h

reset_tells_all : (target : ℕ) (o : OutboxState) (s : InitiatorState) → AreUnstepped o.sides → At (reset_step target o s)
reset_tells_all target o s h =
    drops (resets_told s.number s.operation s.states o) (interrupted s target) (resets_tell s.number s.operation s.states o h)

sees_as : (r : Bool × Layer Purpose) (target : ℕ) (o : OutboxState) (s : InitiatorState) → AreUnstepped o.sides → At (seen_as r target o s)
sees_as (false, layer) target o s h = h
sees_as (true, layer) target o s h = reset_tells_all target o (record s { layer = layer }) h

pub sees_unstepped : (generation id target : ℕ) (o : OutboxState) (s : InitiatorState) → AreUnstepped o.sides → At (see_step generation id target o s)
unfolding see_step
sees_unstepped generation id target o s h = sees_as (seeing_step s.layer generation id) target o s h

-- ---- so it says nothing of the ORBs
unstepped_left : (note : Note) → is_step note ≡ false → (i : ℕ) → is_left i note ≡ true
unstepped_left (notes.Append j n k cdb buffer) e i = untrue (sym e)
unstepped_left (notes.Low j n k) e i = untrue (sym e)
unstepped_left (notes.Linked j n k) e i = untrue (sym e)
unstepped_left (notes.Dummied j n k) e i = untrue (sym e)
unstepped_left note e i = refl

unstepped_still : (side : Side) → IsUnstepped side → IsStill side
unstepped_still (sides.Own note) e = unstepped_left note e
unstepped_still (sides.Opened place orb) h = absurd h
unstepped_still (sides.Ran place orb cdb payload outcome) h = absurd h
unstepped_still (sides.Ended place orb status) h = absurd h
unstepped_still (sides.Dead place cause) h = absurd h
unstepped_still (sides.Cut place cause) h = absurd h
unstepped_still (sides.Managed node function subject status login) h = absurd h
unstepped_still (sides.ManageFailed node cause) h = absurd h
unstepped_still (sides.Held login) h = absurd h
unstepped_still (sides.Expired login) h = absurd h
unstepped_still (sides.Back login) h = absurd h
unstepped_still (sides.Left login) h = absurd h
unstepped_still (sides.Cleared unit) h = absurd h
unstepped_still (sides.Unsolicited place) h = absurd h
unstepped_still (sides.Unsent place) h = absurd h

all_still : (told : List Side) → AreUnstepped told → AreStill told
all_still [] h = tt
all_still (side ∷ told) h = (unstepped_still side h.0, all_still told h.1)

pub receives : (generation : ℕ) (bytes : List ℕ) (o : OutboxState) (s : InitiatorState) → AreUnstepped o.sides → AreStill (receive_step generation bytes o s).1.0.sides
receives generation bytes o s h = all_still (receive_step generation bytes o s).1.0.sides (receives_unstepped generation bytes o s h)

pub expires : (label : LabelParts) (o : OutboxState) (s : InitiatorState) → AreUnstepped o.sides → AreStill (expire_step label o s).1.0.sides
expires label o s h = all_still (expire_step label o s).1.0.sides (expires_unstepped label o s h)

pub sees : (generation id target : ℕ) (o : OutboxState) (s : InitiatorState) → AreUnstepped o.sides → AreStill (see_step generation id target o s).0.sides
sees generation id target o s h = all_still (see_step generation id target o s).0.sides (sees_unstepped generation id target o s h)
