-- What an initiator learns of MANAGEMENT_AGENT: where each quadlet that it reads of a ROM is one that may stand in the target's, it knows no other address than the one that
-- the target has, and it knows this one as soon as its session has left the state Out. Each call keeps that; only the response to a read of the ROM brings a quadlet.
use Rattle.sbp_world.proofs.Words.Std.{◌≡◌, ◌∙◌, refl, sym, ap, ℕ, nat_eq, nat_lt, ◌&&◌, not, is_some, Bool, true, false, cond, List, [], ◌∷◌, ◌++◌, length, replicate, Option, Some, None, Result, Ok, Err, same_Some, not-false, big_bytes}
use Rattle.sbp_world.proofs.Words.Wire.{Header, LabelParts, Packet, lock, lock_response, read_block, read_block_response, read_quadlet, read_quadlet_response, write_block, write_quadlet, write_response, Asked, Stale, Finding, Layer, asking_step, expiring_step, judging_step, of_again, of_generation, of_grammar, of_label, of_request, of_response, seeing_step, management_address, OutboxState, empty_outbox, Action, Cmd, Operation, OpWord, Refusals, first_row}
use Rattle.sbp_world.proofs.Words.Target.{RomFault, SbpUnit, Tree, reading, sbp_unit_of, is_block}
use Rattle.sbp_world.proofs.Words.Initiator.{read_step, Fifo, is_dead_kind, management_at, with_quad, OrbFault, StatusBlock, StatusKind, PresentList, ListState, drop_lists, high_lists, low_lists, take_lists, write_lists, find_in, TicketParts, Seat, Event, bad, conflict, entered, failed, from_out, from_stuck, goes, good, pointed, pointing, reset, sent, Demand, Ending, Purpose, Running, InitiatorState, act_step, append_step, asked_as, asked_for, demand_of, demanded_as, done_step, dummy_for, facts_with, judged_as, link_as, link_step, login_id, low_as, low_step, managed_by, orb_by, pinned_for, put_as, put_step, ring_for, with_running, put_lists, ask_quad, asked_quad, conflict_for, conflict_step, doorbell_ended, drop_list_step, drop_where, dropped_as, enable_ended, end_own_for, end_own_step, end_step, ended_for, ended_step, fail_step, fault_number, finish_rom, good_end, good_event, is_address, is_conflict, known_where, managed_step, management_ended, moved, moves_session, next_quad, pointer_ended, reset_ended, response_of, rom_ended, state_ended, then_step, with_answered, with_dead, with_rom, with_unit, new_state, address_error, addressed, block_at, block_by, block_step, called, expire_step, expired_as, fifo_of, got_step, ignored_step, is_foreign, managed_for, present_for, quadlet_at, read_as, receive_step, received, request_step, serve_step, status_step, taken_as, written_as, ends_list, is_in_held, is_in_live, needs_rom, refusal, rows_of, interrupted, resets_told, see_step, seen_as, counts_for, ending_of, is_list, is_orb_of, is_unwritten, session_of, status_in}
use Rattle.sbp_world.proofs.Words.Laws.{operation_of}
use Rattle.sbp_world.proofs.Words.World.{manages_in}
use Rattle.initiator_base.specs.declared.fifos.Fifo.TheVariants as fifos
use Rattle.orb_layout.specs.declared.status.StatusKind.TheVariants as kinds
use Rattle.sbp_journal.specs.declared.cause.Cause.TheVariants as causes
use Rattle.sbp_journal.specs.declared.event.Action.TheVariants as actions
use Rattle.sbp_journal.specs.declared.operation.Operation.TheVariants as operations
use Rattle.sbp_journal.specs.declared.operation.OpWord.TheVariants as words
use Rattle.sbp_session.specs.declared.seat.Seat.TheVariants as seats
use Rattle.sbp_session.specs.declared.seat.Origin.TheVariants as origins
use Rattle.sbp_initiator.specs.declared.purpose.Ending.TheVariants as endings
use Rattle.sbp_initiator.specs.declared.purpose.Pointing.TheVariants as pointings
use Rattle.sbp_initiator.specs.declared.purpose.Purpose.TheVariants as purposes
use Rattle.sbp_initiator.proofs.Histories.Actions.{allowed}
use Rattle.sbp_world.proofs.Lists.RomKeys.{AreRomQuads, IsRomQuad, management_is}
use Rattle.sbp_world.proofs.Common.{untrue}

-- a session that is not out, or became stuck so, began with a login: MANAGEMENT_AGENT is known then
abbrev pub knows_rom : Seat → Bool
knows_rom (seats.Out out) = false
knows_rom (seats.Entering entering) = true
knows_rom (seats.Live live) = true
knows_rom (seats.Held response) = true
knows_rom (seats.Returning response) = true
knows_rom (seats.Leaving response) = true
knows_rom (seats.Stuck (origins.Out out)) = false
knows_rom (seats.Stuck (origins.Entering entering)) = true
knows_rom (seats.Stuck (origins.Live live)) = true
knows_rom (seats.Stuck (origins.Held response)) = true
knows_rom (seats.Stuck (origins.Returning response)) = true
knows_rom (seats.Stuck (origins.Leaving response)) = true

pub record Learned (quads : List ℕ) (management : Option ℕ) (seat : Seat) : Type 0 where
  pub read : AreRomQuads quads
  pub there : (offset : ℕ) → management ≡ Some offset → offset ≡ management_address
  pub inside : knows_rom seat ≡ true → is_some management ≡ true

abbrev pub Knows : InitiatorState → Type 0
Knows s = Learned s.quads s.management s.seat

-- nothing but a login leads in
abbrev is_sending : Event → Bool
is_sending sent = true
is_sending event = false

from_out_in : (event : Event) → is_sending event ≡ false → knows_rom (from_out event) ≡ true → false ≡ true
from_out_in sent n e = sym n
from_out_in (entered response) n e = e
from_out_in good n e = e
from_out_in bad n e = e
from_out_in conflict n e = e
from_out_in pointing n e = e
from_out_in pointed n e = e
from_out_in reset n e = e
from_out_in failed n e = e

from_stuck_in : (event : Event) → knows_rom (from_stuck event (origins.Out tt)) ≡ true → false ≡ true
from_stuck_in sent e = e
from_stuck_in (entered response) e = e
from_stuck_in good e = e
from_stuck_in bad e = e
from_stuck_in conflict e = e
from_stuck_in pointing e = e
from_stuck_in pointed e = e
from_stuck_in reset e = e
from_stuck_in failed e = e

came_in : (event : Event) (seat : Seat) → is_sending event ≡ false → knows_rom (goes event seat) ≡ true → knows_rom seat ≡ true
unfolding goes
came_in event (seats.Out out) n e = from_out_in event n e
came_in event (seats.Entering entering) n e = refl
came_in event (seats.Live live) n e = refl
came_in event (seats.Held response) n e = refl
came_in event (seats.Returning response) n e = refl
came_in event (seats.Leaving response) n e = refl
came_in event (seats.Stuck (origins.Out out)) n e = from_stuck_in event e
came_in event (seats.Stuck (origins.Entering entering)) n e = refl
came_in event (seats.Stuck (origins.Live live)) n e = refl
came_in event (seats.Stuck (origins.Held response)) n e = refl
came_in event (seats.Stuck (origins.Returning response)) n e = refl
came_in event (seats.Stuck (origins.Leaving response)) n e = refl

-- a session that goes on
sat : (event : Event) (s : InitiatorState) → is_sending event ≡ false → Knows s → Learned s.quads s.management (goes event s.seat)
sat event s n k = record { read = k.read; there = k.there; inside = λ e. k.inside (came_in event s.seat n e) }

-- ---- what an action with a management ORB knows

some_is_none : (n : ℕ) → Some n ≡ None → ⊥
some_is_none n e = cc

third_row : (a b c : Bool) (rest : Option ℕ) → cond a (Some 1) (cond b (Some 2) (cond c (Some 3) rest)) ≡ None → c ≡ false
third_row true b c rest e = absurd (some_is_none 1 e)
third_row false true c rest e = absurd (some_is_none 2 e)
third_row false false true rest e = absurd (some_is_none 3 e)
third_row false false false rest e = refl

abbrev from_waiting : Refusals → Option ℕ
from_waiting r = first_row ((r.waiting, 4) ∷ (r.mid_link, 5) ∷ (r.not_linking, 6) ∷ (r.dead_seen, 7) ∷ (r.no_orb, 8) ∷ (r.no_slot, 9) ∷ (r.no_label, 10) ∷ [])

rom_row : (action : Action) (s : InitiatorState) → refusal action (facts_with true s action) ≡ None → (needs_rom action && not (is_some s.management)) ≡ false
unfolding refusal
rom_row action s e = let r = rows_of action (facts_with true s action) in third_row r.stuck r.wrong_state r.no_rom (from_waiting r) e

in_held : (seat : Seat) → is_in_held (session_of seat) ≡ true → knows_rom seat ≡ true
in_held (seats.Held response) e = refl
in_held (seats.Out out) e = e
in_held (seats.Entering entering) e = refl
in_held (seats.Live live) e = refl
in_held (seats.Returning response) e = refl
in_held (seats.Leaving response) e = refl
in_held (seats.Stuck origin) e = untrue e

in_live : (seat : Seat) → is_in_live (session_of seat) ≡ true → knows_rom seat ≡ true
in_live (seats.Live live) e = refl
in_live (seats.Out out) e = e
in_live (seats.Entering entering) e = refl
in_live (seats.Held response) e = refl
in_live (seats.Returning response) e = refl
in_live (seats.Leaving response) e = refl
in_live (seats.Stuck origin) e = untrue e

abbrev pub Can : Action → InitiatorState → Type 0
Can action s = manages_in (operation_of action) ≡ true → is_some s.management ≡ true

pub managed_ready : (action : Action) (s : InitiatorState) → refusal action (facts_with true s action) ≡ None → Knows s → Can action s
managed_ready (actions.Login unit reconnect exclusive password) s e k m = not-false (is_some s.management) (rom_row (actions.Login unit reconnect exclusive password) s e)
managed_ready (actions.Query unit) s e k m = not-false (is_some s.management) (rom_row (actions.Query unit) s e)
managed_ready actions.Reconnect s e k m = k.inside (in_held s.seat (allowed actions.Reconnect s e).session)
managed_ready actions.Logout s e k m = k.inside (in_live s.seat (allowed actions.Logout s e).session)
managed_ready (actions.Abort orb) s e k m = k.inside (in_live s.seat (allowed (actions.Abort orb) s e).session)
managed_ready actions.AbortSet s e k m = k.inside (in_live s.seat (allowed actions.AbortSet s e).session)
managed_ready actions.UnitReset s e k m = k.inside (in_live s.seat (allowed actions.UnitReset s e).session)
managed_ready actions.TargetReset s e k m = k.inside (in_live s.seat (allowed actions.TargetReset s e).session)
managed_ready (actions.Append cmd) s e k m = untrue m
managed_ready (actions.Put cmd) s e k m = untrue m
managed_ready actions.Low s e k m = untrue m
managed_ready actions.Link s e k m = untrue m
managed_ready actions.Ring s e k m = untrue m
managed_ready (actions.Dummy orb) s e k m = untrue m
managed_ready actions.Rom s e k m = untrue m
managed_ready actions.AgentReset s e k m = untrue m
managed_ready actions.State s e k m = untrue m
managed_ready actions.Enable s e k m = untrue m

-- a complete response brings a quadlet that may stand in the ROM
abbrev pub IsQuad : Ending → Type 0
IsQuad (endings.Complete value) = IsRomQuad value
IsQuad ending = Unit {0}

-- ---- the ends of transactions

pick : (b : Bool) (x y : InitiatorState) → Knows x → Knows y → Knows (cond b x y)
pick true x y h i = h
pick false x y h i = i

own_as : (b : Bool) (running : Running) (word : OpWord) (o : OutboxState) (s : InitiatorState) → Knows s → Knows (cond b (end_step running.operation word o s) (o, s)).1
own_as true running word o s k = k
own_as false running word o s k = k

own_for : (found : Option Running) (act : ℕ) (word : OpWord) (o : OutboxState) (s : InitiatorState) → Knows s → Knows (end_own_for found act word o s).1
own_for None act word o s k = k
own_for (Some running) act word o s k = own_as (nat_eq running.act act) running word o s k

owns : (act : ℕ) (word : OpWord) (o : OutboxState) (s : InitiatorState) → Knows s → Knows (end_own_step act word o s).1
owns act word o s k = own_for s.operation act word o s k

fails : (act : ℕ) (o : OutboxState) (s : InitiatorState) → Knows s → Knows (fail_step act o s).1
fails act o s k = let t = end_own_step act words.Error o s in sat failed t.1 refl (owns act words.Error o s k)

drop_as : (r : Option ℕ × ListState) (o : OutboxState) (s : InitiatorState) → Knows s → Knows (dropped_as r o s).1
drop_as (None, lists) o s k = k
drop_as (Some n, lists) o s k = k

drops : (o : OutboxState) (s : InitiatorState) → Knows s → Knows (drop_list_step o s).1
drops o s k = drop_as (drop_lists s.lists) o s k

pointer_as : (list : ℕ) (ending : Ending) (o : OutboxState) (s : InitiatorState) → Knows s → Knows (pointer_ended list ending o s).1
pointer_as list (endings.Complete value) o s k = let t = record s { seat = goes pointed s.seat } in let h = sat pointed s refl k in pick (is_list s.lists.slots.present list) (with_answered t) t h h
pointer_as list (endings.Refused rcode) o s k = sat failed s refl k
pointer_as list endings.Expired o s k = sat failed s refl k

doorbell_as : (ending : Ending) (o : OutboxState) (s : InitiatorState) → Knows s → Knows (doorbell_ended ending o s).1
doorbell_as (endings.Complete value) o s k = k
doorbell_as (endings.Refused rcode) o s k = sat failed s refl k
doorbell_as endings.Expired o s k = sat failed s refl k

reset_as : (act : ℕ) (ending : Ending) (o : OutboxState) (s : InitiatorState) → Knows s → Knows (reset_ended act ending o s).1
reset_as act (endings.Complete value) o s k = let t = drop_list_step o s in owns act words.Done t.0 t.1 (drops o s k)
reset_as act (endings.Refused rcode) o s k = fails act o s k
reset_as act endings.Expired o s k = fails act o s k

enable_as : (act : ℕ) (ending : Ending) (o : OutboxState) (s : InitiatorState) → Knows s → Knows (enable_ended act ending o s).1
enable_as act (endings.Complete value) o s k = owns act words.Done o s k
enable_as act (endings.Refused rcode) o s k = fails act o s k
enable_as act endings.Expired o s k = fails act o s k

moved_as : (operation : Operation) (event : Event) (s : InitiatorState) → is_sending event ≡ false → Knows s → Knows (moved operation event s)
moved_as operation event s n k = pick (moves_session operation) (record s { seat = goes event s.seat }) s (sat event s n k) k

good_apart : (operation : Operation) (response : List ℕ) → is_sending (good_event operation response) ≡ false
good_apart operations.Login response = refl
good_apart operation response = refl

conflict_by : (b : Bool) (running : Running) (o : OutboxState) (s : InitiatorState) → Knows s → Knows (cond b (end_step running.operation words.Conflict o (moved running.operation conflict s)) (o, s)).1
conflict_by true running o s k = moved_as running.operation conflict s refl k
conflict_by false running o s k = k

conflicts : (found : Option Running) (act : ℕ) (o : OutboxState) (s : InitiatorState) → Knows s → Knows (conflict_for found act o s).1
conflicts None act o s k = k
conflicts (Some running) act o s k = conflict_by (nat_eq running.act act) running o s k

refused_as : (b : Bool) (act : ℕ) (o : OutboxState) (s : InitiatorState) → Knows s → Knows (cond b (conflict_step act o s) (fail_step act o s)).1
refused_as true act o s k = conflicts s.operation act o s k
refused_as false act o s k = fails act o s k

management_as : (act : ℕ) (ending : Ending) (o : OutboxState) (s : InitiatorState) → Knows s → Knows (management_ended act ending o s).1
management_as act (endings.Complete value) o s k = k
management_as act (endings.Refused rcode) o s k = refused_as (is_conflict rcode) act o s k
management_as act endings.Expired o s k = fails act o s k

where_as : (b : Bool) (o : OutboxState) (s : InitiatorState) → Knows s → Knows (drop_where b o s).1
where_as true o s k = drops o s k
where_as false o s k = k

managed_as : (b : Bool) (running : Running) (status : ℕ) (o : OutboxState) (s : InitiatorState) → Knows s → Knows (cond b (then_step (good_end running) (drop_where (ends_list (Some running.operation)) o s)) (end_step running.operation (words.Refused status) o (moved running.operation bad s))).1
managed_as true running status o s k =
    let t = drop_where (ends_list (Some running.operation)) o s in
    let response = response_of running t.1 in
    moved_as running.operation (good_event running.operation response) t.1 (good_apart running.operation response) (where_as (ends_list (Some running.operation)) o s k)
managed_as false running status o s k = moved_as running.operation bad s refl k

manages : (running : Running) (status : ℕ) (o : OutboxState) (s : InitiatorState) → Knows s → Knows (managed_step running status o s).1
manages running status o s k = managed_as (nat_eq status 0) running status o s k

-- ---- the target's ROM

quads_more : (quads : List ℕ) (value : ℕ) → AreRomQuads quads → IsRomQuad value → AreRomQuads (quads ++ value ∷ [])
quads_more [] value h k = (k, tt)
quads_more (q ∷ quads) value h k = (h.0, quads_more quads value h.1 k)

quads_with : (quads : List ℕ) (value : ℕ) → AreRomQuads quads → IsRomQuad value → AreRomQuads (with_quad quads value)
quads_with quads value h k = by (nat_lt (length quads) 256)
  where
    by : (b : Bool) → AreRomQuads (cond b (quads ++ value ∷ []) quads)
    by true = quads_more quads value h k
    by false = h

unit_as : (unit : Option SbpUnit) (act : ℕ) (o : OutboxState) (s : InitiatorState) → ((own : SbpUnit) → unit ≡ Some own → own.management ≡ 0x4000) → Knows s → Knows (with_unit unit act o s).1
unit_as None act o s f k = owns act words.NoUnit o s k
unit_as (Some unit) act o s f k =
    owns act words.Done o (record s { management = Some (management_at unit.management) })
    (record { read = k.read; there = λ offset e. sym (same_Some (management_at unit.management) offset e) ∙ ap management_at (f unit refl); inside = λ e. refl })

rom_as : (r : Result Tree RomFault) (act : ℕ) (o : OutboxState) (s : InitiatorState) → reading s.quads ≡ r → Knows s → Knows (with_rom r act o s).1
rom_as (Ok tree) act o s e k = unit_as (sbp_unit_of tree.blocks tree.entries) act o s (λ own f. management_is s.quads tree k.read e own f) k
rom_as (Err fault) act o s e k = owns act (words.Bad (fault_number fault)) o s k

asked_by : (r : Option Asked × Layer Purpose) (act : ℕ) (o : OutboxState) (s : InitiatorState) → Knows s → Knows (asked_quad r act o s).1
asked_by (None, layer) act o s k = owns act words.Error o (record s { layer = layer }) k
asked_by (Some asked, layer) act o s k = k

quad_as : (b : Bool) (act : ℕ) (o : OutboxState) (s : InitiatorState) → Knows s → Knows (cond b (finish_rom act o s) (ask_quad act o s)).1
quad_as true act o s k = rom_as (reading s.quads) act o s refl k
quad_as false act o s k = asked_by (asking_step s.layer s.target (next_quad s.quads) (purposes.Rom act)) act o s k

refused_rom : (b : Bool) (act : ℕ) (o : OutboxState) (s : InitiatorState) → Knows s → Knows (cond b (finish_rom act o s) (end_own_step act words.Error o s)).1
refused_rom true act o s k = rom_as (reading s.quads) act o s refl k
refused_rom false act o s k = owns act words.Error o s k

rom_ends : (act : ℕ) (ending : Ending) (o : OutboxState) (s : InitiatorState) → IsQuad ending → Knows s → Knows (rom_ended act ending o s).1
rom_ends act (endings.Complete value) o s q k =
    let t = record s { quads = with_quad s.quads value } in
    quad_as (nat_eq (length t.quads) 256) act o t (record { read = quads_with s.quads value k.read q; there = k.there; inside = k.inside })
rom_ends act (endings.Refused rcode) o s q k = refused_rom (is_address rcode) act o s k
rom_ends act endings.Expired o s q k = owns act words.Error o s k

-- ---- the state of the agent

known_as : (b : Bool) (value : ℕ) (o : OutboxState) (s : InitiatorState) → Knows s → Knows (cond b (drop_list_step o s) (o, cond (nat_eq value 3) (with_dead s) s)).1
known_as true value o s k = drops o s k
known_as false value o s k = pick (nat_eq value 3) (with_dead s) s k k

knows_where : (b : Bool) (value : ℕ) (o : OutboxState) (s : InitiatorState) → Knows s → Knows (known_where b value o s).1
knows_where true value o s k = known_as (nat_eq value 0) value o s k
knows_where false value o s k = k

state_as : (act : ℕ) (list : Option ℕ) (ending : Ending) (o : OutboxState) (s : InitiatorState) → Knows s → Knows (state_ended act list ending o s).1
state_as act list (endings.Complete value) o s k = knows_where (counts_for s.lists.slots.present list) value o s k
state_as act list (endings.Refused rcode) o s k = k
state_as act list endings.Expired o s k = k

-- ---- all of them

ends : (purpose : Purpose) (ending : Ending) (o : OutboxState) (s : InitiatorState) → IsQuad ending → Knows s → Knows (ended_step purpose ending o s).1
unfolding ended_step
ends (purposes.Pointer list) ending o s q k = pointer_as list ending o s k
ends purposes.Doorbell ending o s q k = doorbell_as ending o s k
ends (purposes.AgentReset act) ending o s q k = reset_as act ending o s k
ends (purposes.Enable act) ending o s q k = enable_as act ending o s k
ends (purposes.Management act) ending o s q k = management_as act ending o s k
ends (purposes.Rom act) ending o s q k = rom_ends act ending o s q k
ends (purposes.State act list) ending o s q k = state_as act list ending o s k

ends_for : (purpose : Option Purpose) (ending : Ending) (o : OutboxState) (s : InitiatorState) → IsQuad ending → Knows s → Knows (ended_for purpose ending o s).1
ends_for None ending o s q k = k
ends_for (Some purpose) ending o s q k = ends purpose ending o s q k

-- ---- a request

module _ (bytes : List ℕ) (o : OutboxState) (s : InitiatorState) (k : Knows s) where
  module _ (p : Packet) where
    present_as : (b : Bool) (running : Running) (code : ℕ) → Knows (managed_for (cond b (Some running) None) code p bytes o s).1.1
    present_as true running code = manages running code o (called s) k
    present_as false running code = k

    operation_as : (operation : Option Running) (code orb : ℕ) → Knows (managed_for (present_for orb operation) code p bytes o s).1.1
    operation_as None code orb = k
    operation_as (Some running) code orb = present_as (is_orb_of running.managed orb) running code

    taken_by : (t : Option TicketParts) (lists : ListState) (kind : StatusKind) → Knows (taken_as (t, lists) kind p bytes o s).1.1
    taken_by None lists kind = k
    taken_by (Some t) lists kind = pick (is_dead_kind kind) (with_dead (record (called s) { lists = lists })) (record (called s) { lists = lists }) k k

    takes : (kind : StatusKind) (found : StatusBlock) → Knows (taken_as (take_lists s.lists found) kind p bytes o s).1.1
    takes kind found = taken_by (take_lists s.lists found).0 (take_lists s.lists found).1 kind

    kind_as : (kind : StatusKind) (found : StatusBlock) → Knows (block_by kind found p bytes o s).1.1
    kind_as (kinds.Management code) found = operation_as s.operation code found.orb
    kind_as kinds.Good found = takes kinds.Good found
    kind_as (kinds.Check sense) found = takes (kinds.Check sense) found
    kind_as kinds.Dummy found = takes kinds.Dummy found
    kind_as kinds.Aborted found = takes kinds.Aborted found
    kind_as (kinds.Illegal meaning) found = takes (kinds.Illegal meaning) found
    kind_as kinds.Failed found = takes kinds.Failed found

    block_as : (r : Result StatusBlock OrbFault) → Knows (block_step r p bytes o s).1.1
    block_as (Err fault) = k
    block_as (Ok found) = kind_as found.kind found

    unsolicited_as : (b : Bool) (r : Result StatusBlock OrbFault) (t : OutboxState) → Knows (cond b (got_step p bytes (t, called s)) (block_step r p bytes o s)).1.1
    unsolicited_as true r t = k
    unsolicited_as false r t = block_as r

    reads : (r : ℕ × List ℕ) → Knows (read_as r p bytes o s).1.1
    reads (rcode, out) = k

    writes : (r : ℕ × ListState) → Knows (written_as r p bytes o s).1.1
    writes (rcode, lists) = k

    source_as : (b : Bool) → Knows (addressed p bytes o s).1.1 → Knows (cond b (ignored_step causes.Source address_error p bytes (o, s)) (addressed p bytes o s)).1.1
    source_as true h = k
    source_as false h = h

  serves : (p : Packet) → Knows (serve_step p bytes o s).1.1
  serves (read_quadlet header offset) = reads (read_quadlet header offset) (read_step s.lists.memory offset (replicate 4 0))
  serves (read_block header offset asked) = reads (read_block header offset asked) (read_step s.lists.memory offset (replicate asked 0))
  serves (write_quadlet header offset value) = writes (write_quadlet header offset value) (write_lists s.lists offset (big_bytes 4 value))
  serves (write_block header offset payload) = writes (write_block header offset payload) (write_lists s.lists offset payload)
  serves (write_response header rcode) = k
  serves (read_quadlet_response header rcode value) = k
  serves (read_block_response header rcode payload) = k
  serves (lock header offset extended payload) = k
  serves (lock_response header rcode extended payload) = k

  status_as : (is_login : Bool) (header : Header) (offset : ℕ) (payload : List ℕ) → Knows (status_step is_login payload (write_block header offset payload) bytes o s).1.1
  status_as is_login header offset payload = unsolicited_as (write_block header offset payload) (is_login && is_block payload) (status_in payload) _

  block_to : (fifo : Option Fifo) (header : Header) (offset : ℕ) (payload : List ℕ) → Knows (block_at fifo payload (write_block header offset payload) bytes o s).1.1
  block_to None header offset payload = serves (write_block header offset payload)
  block_to (Some fifos.Closed) header offset payload = k
  block_to (Some fifos.Login) header offset payload = status_as true header offset payload
  block_to (Some fifos.Place) header offset payload = status_as false header offset payload

  quadlet_to : (fifo : Option Fifo) (header : Header) (offset value : ℕ) → Knows (quadlet_at fifo (write_quadlet header offset value) bytes o s).1.1
  quadlet_to None header offset value = serves (write_quadlet header offset value)
  quadlet_to (Some fifos.Closed) header offset value = k
  quadlet_to (Some fifos.Login) header offset value = serves (write_quadlet header offset value)
  quadlet_to (Some fifos.Place) header offset value = serves (write_quadlet header offset value)

  addressed_as : (p : Packet) → Knows (addressed p bytes o s).1.1
  addressed_as (write_quadlet header offset value) = quadlet_to (fifo_of s offset) header offset value
  addressed_as (write_block header offset payload) = block_to (fifo_of s offset) header offset payload
  addressed_as (read_quadlet header offset) = serves (read_quadlet header offset)
  addressed_as (read_block header offset asked) = serves (read_block header offset asked)
  addressed_as (lock header offset extended payload) = serves (lock header offset extended payload)
  addressed_as (write_response header rcode) = serves (write_response header rcode)
  addressed_as (read_quadlet_response header rcode value) = serves (read_quadlet_response header rcode value)
  addressed_as (read_block_response header rcode payload) = serves (read_block_response header rcode payload)
  addressed_as (lock_response header rcode extended payload) = serves (lock_response header rcode extended payload)

  requests : (p : Packet) → Knows (request_step p bytes o s).1.1
  requests p = source_as p (is_foreign p s) (addressed_as p)

-- ---- a delivery, a time-out, a sight

-- what a response brings
abbrev pub IsBrought : Finding Purpose → Type 0
IsBrought (of_response p label purpose) = IsQuad (ending_of p)
IsBrought found = Unit {0}

received_as : (s : InitiatorState) (found : Finding Purpose) (layer : Layer Purpose) (bytes : List ℕ) → IsBrought found → Knows s → Knows (received (found, layer) bytes empty_outbox s).1.1
received_as s of_generation layer bytes q k = k
received_as s of_grammar layer bytes q k = k
received_as s of_label layer bytes q k = k
received_as s (of_response p label purpose) layer bytes q k = ends_for purpose (ending_of p) empty_outbox (called (record s { layer = layer })) q k
received_as s (of_again p rcode) layer bytes q k = k
received_as s (of_request p) layer bytes q k = requests bytes empty_outbox (record s { layer = layer }) k p

pub receive_knows : (generation : ℕ) (bytes : List ℕ) (s : InitiatorState) → IsBrought (judging_step s.layer generation bytes).0 → Knows s → Knows (receive_step generation bytes empty_outbox s).1.1
unfolding receive_step
receive_knows generation bytes s q k = received_as s (judging_step s.layer generation bytes).0 (judging_step s.layer generation bytes).1 bytes q k

expires_as : (s : InitiatorState) (r : Result (Option Purpose) Stale) (layer : Layer Purpose) → Knows s → Knows (expired_as (r, layer) empty_outbox s).1.1
expires_as s (Err stale) layer k = k
expires_as s (Ok purpose) layer k = ends_for purpose endings.Expired empty_outbox (called (record s { layer = layer })) tt k

pub expire_knows : (label : LabelParts) (s : InitiatorState) → Knows s → Knows (expire_step label empty_outbox s).1.1
unfolding expire_step
expire_knows label s k = expires_as s (expiring_step s.layer s.target label).0 (expiring_step s.layer s.target label).1 k

sees_as : (s : InitiatorState) (r : Bool × Layer Purpose) (target : ℕ) → Knows s → Knows (seen_as r target empty_outbox s).1
sees_as s (false, layer) target k = k
sees_as s (true, layer) target k = let u = record s { layer = layer } in drops (resets_told s.number s.operation s.states empty_outbox) (interrupted u target) (sat reset s refl k)

pub see_knows : (generation id target : ℕ) (s : InitiatorState) → Knows s → Knows (see_step generation id target empty_outbox s).1
unfolding see_step
see_knows generation id target s k = sees_as s (seeing_step s.layer generation id) target k

-- ---- an action

puts_as : (r : Option TicketParts × ListState) (cmd : Cmd) (o : OutboxState) (s : InitiatorState) → Knows s → Knows (put_as r cmd o s).1
puts_as (None, lists) cmd o s k = k
puts_as (Some t, lists) cmd o s k = pick (nat_eq t.number 0) _ (record s { lists = lists }) k k

puts : (cmd : Cmd) (o : OutboxState) (s : InitiatorState) → Knows s → Knows (put_step cmd o s).1
puts cmd o s k = puts_as (put_lists s.lists cmd s.layer.node (login_id s)) cmd o s k

lows_as : (r : Option TicketParts × ListState) (o : OutboxState) (s : InitiatorState) → Knows s → Knows (low_as r o s).1
lows_as (None, lists) o s k = k
lows_as (Some t, lists) o s k = k

lows : (o : OutboxState) (s : InitiatorState) → Knows s → Knows (low_step o s).1
lows o s k = lows_as (low_lists s.lists) o s k

links_as : (r : Option TicketParts × ListState) (o : OutboxState) (s : InitiatorState) → Knows s → Knows (link_as r o s).1
links_as (None, lists) o s k = k
links_as (Some t, lists) o s k = k

links : (o : OutboxState) (s : InitiatorState) → Knows s → Knows (link_step o s).1
links o s k = links_as (high_lists s.lists) o s k

rings : (present : Option PresentList) (o : OutboxState) (s : InitiatorState) → Knows s → Knows (ring_for present o s).1
rings None o s k = k
rings (Some list) o s k = pick (is_unwritten s.marks.pointing) (record s { marks = record s.marks { pointing = pointings.Written }; seat = goes pointing s.seat }) (with_running s) (sat pointing s refl k) k

appends : (cmd : Cmd) (o : OutboxState) (s : InitiatorState) → Knows s → Knows (append_step cmd o s).1
appends cmd o s k =
    let x = put_step cmd o s in
    let y = low_step x.0 x.1 in
    let z = link_step y.0 y.1 in
    rings z.1.lists.slots.present z.0 z.1 (links y.0 y.1 (lows x.0 x.1 (puts cmd o s k)))

dummies : (t : Option TicketParts) (o : OutboxState) (s : InitiatorState) → Knows s → Knows (dummy_for t o s).1
dummies None o s k = k
dummies (Some t) o s k = k

pins : (t : Option TicketParts) (s : InitiatorState) → Knows s → Knows (pinned_for t s)
pins None s k = k
pins (Some t) s k = k

-- a login begins, a reconnect or a logout
sends_on : (s : InitiatorState) → is_some s.management ≡ true → Knows s → Learned s.quads s.management (goes sent s.seat)
sends_on s m k = record { read = k.read; there = k.there; inside = λ e. m }

does : (action : Action) (o : OutboxState) (s : InitiatorState) → Can action s → Knows s → Knows (done_step action o s).1
unfolding done_step
does (actions.Put cmd) o s c k = puts cmd o s k
does (actions.Append cmd) o s c k = appends cmd o s k
does actions.Low o s c k = lows o s k
does actions.Link o s c k = links o s k
does actions.Ring o s c k = rings s.lists.slots.present o s k
does (actions.Dummy orb) o s c k = dummies (find_in s.lists.slots.slots orb) o s k
does actions.Rom o s c k = record { read = tt; there = k.there; inside = k.inside }
does actions.AgentReset o s c k = k
does actions.State o s c k = k
does actions.Enable o s c k = k
does (actions.Login unit reconnect exclusive password) o s c k = sends_on s (c refl) k
does (actions.Query unit) o s c k = k
does actions.Reconnect o s c k = sends_on s (c refl) k
does actions.Logout o s c k = sends_on s (c refl) k
does (actions.Abort orb) o s c k = let t = managed_by (orb_by (actions.Abort orb) s) operations.Abort s in pins (find_in t.lists.slots.slots orb) t k
does actions.AbortSet o s c k = k
does actions.UnitReset o s c k = k
does actions.TargetReset o s c k = k

asks_as : (r : Option Asked × Layer Purpose) (action : Action) (o : OutboxState) (s : InitiatorState) → Can action s → Knows s → Knows (asked_as r action o s).1.1
asks_as (None, layer) action o s c k = k
asks_as (Some asked, layer) action o s c k = does action o (record s { layer = layer }) c k

demands_as : (demand : Option Demand) (action : Action) (o : OutboxState) (s : InitiatorState) → Can action s → Knows s → Knows (demanded_as demand action o s).1.1
demands_as None action o s c k = does action o s c k
demands_as (Some demand) action o s c k = asks_as (asked_for demand s) action o s c k

judges_as : (number : Option ℕ) (action : Action) (o : OutboxState) (s : InitiatorState) → refusal action (facts_with true s action) ≡ number → Knows s → Knows (judged_as number action o s).1.1
judges_as (Some number) action o s e k = k
judges_as None action o s e k = demands_as (demand_of action s) action o s (managed_ready action s e k) k

pub act_knows : (action : Action) (s : InitiatorState) → Knows s → Knows (act_step action empty_outbox s).1.1
unfolding act_step
act_knows action s k = judges_as (refusal action (facts_with true s action)) action empty_outbox s refl k

-- an action with a management ORB that is done has an address for it
done_by : (action : Action) (s : InitiatorState) (number : Option ℕ) → refusal action (facts_with true s action) ≡ number → (judged_as number action empty_outbox s).0 ≡ None → refusal action (facts_with true s action) ≡ None
done_by action s (Some number) e f = absurd (some_is_none number f)
done_by action s None e f = e

pub done_can : (action : Action) (s : InitiatorState) → (act_step action empty_outbox s).0 ≡ None → Knows s → Can action s
unfolding act_step
done_can action s d k = managed_ready action s (done_by action s (refusal action (facts_with true s action)) refl d) k

-- ---- as a run begins

first_there : (ready : Bool) (i offset : ℕ) → (new_state i ready).management ≡ Some offset → offset ≡ management_address
unfolding new_state
first_there true i offset e = sym (same_Some _ offset e)
first_there false i offset e = absurd (let no : None ≡ Some offset = e in cc)

first_quads : (ready : Bool) (i : ℕ) → AreRomQuads (new_state i ready).quads
unfolding new_state
first_quads ready i = tt

first_inside : (ready : Bool) (i : ℕ) → knows_rom (new_state i ready).seat ≡ true → is_some (new_state i ready).management ≡ true
unfolding new_state
first_inside true i e = refl
first_inside false i e = e

pub first_knows : (ready : Bool) (i : ℕ) → Knows (new_state i ready)
first_knows ready i = record { read = first_quads ready i; there = λ offset e. first_there ready i offset e; inside = first_inside ready i }
