-- The slots and the memory of an initiator are those of the calls that its own calls do, and what it knows is by what these were.
use Rattle.std.proofs.Common.{arith, ◌≡◌, refl, sym, ap, subst, ◌∙◌, ℕ, zero, suc, ◌<◌, ◌≤◌, nat_eq, nat_lt, ◌&&◌, is_some, Bool, true, false, cond, List, [], ◌∷◌, ◌++◌, Option, Some, None}
use Rattle.byteorder.specs.Endian.{big_bytes}
use Rattle.async_packet.specs.Packet.{Packet, write_quadlet, write_block, write_response, read_quadlet, read_block, read_quadlet_response, read_block_response, lock, lock_response}
use Rattle.label_table.specs.Layer.{Layer, Finding, of_generation, of_grammar, of_label, of_response, of_again, of_request, judging_step, seeing_step, seen_in_generation}
use Rattle.bus_memory.specs.Memory.{Memory}
use Rattle.bus_memory.specs.Laws.{IsWhole}
use Rattle.orb_layout.specs.declared.status.StatusBlock.{StatusBlock}
use Rattle.orb_layout.specs.declared.status.StatusKind.{StatusKind}
use Rattle.orb_layout.specs.declared.status.StatusKind.TheVariants as kinds
use Rattle.orb_list.specs.declared.list.PresentList.{PresentList}
use Rattle.orb_layout.specs.ManagementOrbs.{management_bytes}
use Rattle.orb_layout.specs.declared.management.ManagementOrb.{ManagementOrb}
use Rattle.orb_list.specs.Kept.{AreProper}
use Rattle.orb_list.specs.Runs as slot_runs
use Rattle.orb_list.specs.Runs.{left_by, run}
use Rattle.orb_list.specs.Table.{SlotTable, find_in}
use Rattle.orb_list.specs.Tickets.{TicketParts}
use Rattle.orb_list.proofs.Steps.{held_law}
use Rattle.sbp_journal.specs.declared.event.Action.{Action}
use Rattle.sbp_journal.specs.declared.event.Action.TheVariants as actions
use Rattle.sbp_journal.specs.Outgoings.{OutboxState}
use Rattle.initiator_base.specs.declared.fifos.Fifo.{Fifo}
use Rattle.initiator_base.specs.declared.fifos.Fifo.TheVariants as fifos
use Rattle.sbp_initiator.specs.declared.purpose.Ending.{Ending}
use Rattle.sbp_initiator.specs.declared.purpose.Ending.TheVariants as endings
use Rattle.sbp_initiator.specs.declared.purpose.ListMarks.{ListMarks}
use Rattle.sbp_initiator.specs.declared.purpose.Purpose.{Purpose}
use Rattle.sbp_initiator.specs.declared.purpose.Purpose.TheVariants as purposes
use Rattle.sbp_initiator.specs.declared.state.InitiatorState.{InitiatorState}
use Rattle.sbp_initiator.specs.Acting.{IsAction, act_step, orb_by}
use Rattle.sbp_initiator.specs.Effects.{Turn, drop_list_step}
use Rattle.sbp_initiator.specs.Initiators.{new_state, own_rom}
use Rattle.orb_list.specs.Lists.{ListState, free_lists}
use Rattle.sbp_initiator.specs.Receiving.{fifo_of, is_foreign}
use Rattle.sbp_initiator.specs.Seeing.{interrupted, resets_told, seen_as, see_step}
use Rattle.sbp_initiator.specs.States.{counts_for, ending_of, is_answered, is_list, place_of}
use Rattle.sbp_initiator.specs.Histories.Drops.{ends_the_list}
use Rattle.sbp_initiator.specs.Histories.Laws.{Call, acts, receives, lets_expire, AreCalls, IsCall, after, done}
use Rattle.sbp_initiator.specs.Histories.Laws as laws
use Rattle.sbp_initiator.specs.Histories.Marks.{answers_pointer, finds_dead, finding_answers, finding_dead, call_answers, call_dead, loses_list, known_if, reads_by, takes_dead}
use Rattle.sbp_initiator.specs.Histories.Slots.{action_calls, block_calls, block_writes, calls_if, drop_calls, dummy_calls, has_ended, heard_calls, orb_calls, pin_calls, quad_calls, quadlet_writes, request_calls, slot_calls, slot_calls_after, status_calls, unpin_calls, write_calls, written_by, AreSlotsOf, SlotLaw}
use Rattle.sbp_initiator.specs.Histories.Taking.{Brought, nothing, unsolicited, status, brought, block_drops, finding_drops}
use Rattle.sbp_initiator.proofs.Histories.Brings.{expire_leaves, finding_marks, receive_leaves}
use Rattle.sbp_initiator.proofs.Histories.Did.{act_leaves}
use Rattle.sbp_initiator.proofs.Histories.Leaves.{Calls, dead_marks, drops_keep, gone_marks, has_left, left_all, parts, purpose_marks, answered_marks, state_marks}

abbrev Parts : Type 0
Parts = SlotTable × Memory

-- ---- a generation is seen

-- the calls of a generation that is later, or none
abbrev seen_calls : Bool → Calls
seen_calls c = cond c (slot_runs.FreeAll ∷ slot_runs.DropList ∷ []) []

freed_parts : (lists : ListState) (calls : Calls) (p : Parts) → parts lists ≡ left_all calls p → parts (free_lists lists) ≡ left_all (slot_runs.FreeAll ∷ calls) p
unfolding free_lists
freed_parts lists calls p e = ap (λ (q : Parts). left_by slot_runs.FreeAll q.0 q.1) e

-- what a sight leaves: where it is of a later generation nothing is known of a list, and no read is under way
record Saw (c : Bool) (s t : InitiatorState) : Type 0 where
  lists : parts t.lists ≡ left_all (seen_calls c) (parts s.lists)
  answered : is_answered t.marks.pointing ≡ known_if c false (is_answered s.marks.pointing)
  dead : t.marks.is_dead ≡ known_if c false s.marks.is_dead
  states : t.states ≡ cond c [] s.states

seen_left : (c : Bool) (seen old : Layer Purpose) (target : ℕ) (o : OutboxState) (s : InitiatorState) → Saw c s (seen_as (cond c (true, seen) (false, old)) target o s).1
seen_left false seen old target o s = record { lists = refl; answered = refl; dead = refl; states = refl }
seen_left true seen old target o s =
    let u = record s { layer = seen } in
    let v = interrupted u target in
    let x = resets_told s.number s.operation s.states o in
    let k = drops_keep x v in
    let t = (drop_list_step x v).1 in
    let e : parts t.lists ≡ left_all (slot_runs.DropList ∷ []) (parts s.lists) = ap (λ (y : SlotTable). (y, t.lists.memory)) k.table ∙ ap (λ (m : Memory). ((left_all (slot_runs.DropList ∷ []) (parts s.lists)).0, m)) k.memory in
    record { lists = freed_parts t.lists (slot_runs.DropList ∷ []) (parts s.lists) e; answered = refl; dead = refl; states = k.states }

see_leaves : (generation id target : ℕ) (o : OutboxState) (s : InitiatorState) → Saw (nat_lt s.layer.generation generation) s (see_step generation id target o s).1
unfolding see_step seeing_step
see_leaves generation id target o s =
    seen_left (nat_lt s.layer.generation generation) (seen_in_generation s.layer generation id) s.layer target o s

-- ---- what is known, by what was found

-- the list is lost, or something is known of it
abbrev lost : Bool → Option PresentList → Bool
lost c present = c && is_some present

dead_is : (c d : Bool) (present : Option PresentList) (marks : ListMarks) → (gone_marks c present (dead_marks d marks)).is_dead ≡ known_if (lost c present) d marks.is_dead
dead_is true d (Some list) marks = refl
dead_is true true None marks = refl
dead_is true false None marks = refl
dead_is false true present marks = refl
dead_is false false present marks = refl

same_answer : (c d : Bool) (present : Option PresentList) (marks : ListMarks) → is_answered (gone_marks c present (dead_marks d marks)).pointing ≡ known_if (lost c present) false (is_answered marks.pointing)
same_answer true d (Some list) marks = refl
same_answer true true None marks = refl
same_answer true false None marks = refl
same_answer false true present marks = refl
same_answer false false present marks = refl

answered_is : (c : Bool) (marks : ListMarks) → is_answered (answered_marks c marks).pointing ≡ known_if false c (is_answered marks.pointing)
answered_is true marks = refl
answered_is false marks = refl

answered_dead : (c : Bool) (marks : ListMarks) → (answered_marks c marks).is_dead ≡ marks.is_dead
answered_dead true marks = refl
answered_dead false marks = refl

gone_dead : (present : Option PresentList) (marks : ListMarks) → (gone_marks true present marks).is_dead ≡ known_if (is_some present) false marks.is_dead
gone_dead None marks = refl
gone_dead (Some list) marks = refl

gone_answer : (present : Option PresentList) (marks : ListMarks) → is_answered (gone_marks true present marks).pointing ≡ known_if (is_some present) false (is_answered marks.pointing)
gone_answer None marks = refl
gone_answer (Some list) marks = refl

-- a read that counts for the present list: there is one
state_dead : (counts off three : Bool) (present : Option PresentList) (marks : ListMarks) → (counts ≡ true → is_some present ≡ true) → (state_marks counts off three present marks).is_dead ≡ known_if ((counts && off) && is_some present) (counts && three) marks.is_dead
state_dead true true three None marks f = absurd (untrue (f refl))
  where
    untrue : false ≡ true → ⊥
    untrue e = cc
state_dead true true three (Some list) marks f = refl
state_dead true false true present marks f = refl
state_dead true false false present marks f = refl
state_dead false off three present marks f = refl

state_answer : (counts off three : Bool) (present : Option PresentList) (marks : ListMarks) → is_answered (state_marks counts off three present marks).pointing ≡ known_if ((counts && off) && is_some present) false (is_answered marks.pointing)
state_answer true true three present marks = gone_answer present marks
state_answer true false true present marks = refl
state_answer true false false present marks = refl
state_answer false off three present marks = refl

counts_some : (present : Option PresentList) (list : Option ℕ) → counts_for present list ≡ true → is_some present ≡ true
counts_some None None e = e
counts_some None (Some n) e = e
counts_some (Some list) n e = refl

purpose_dead : (purpose : Purpose) (ending : Ending) (present : Option PresentList) (marks : ListMarks) → (purpose_marks purpose ending present marks).is_dead ≡ known_if (lost (ends_the_list purpose ending present) present) (finds_dead purpose ending present) marks.is_dead
purpose_dead (purposes.Pointer list) (endings.Complete value) present marks = answered_dead (is_list present list) marks
purpose_dead (purposes.Pointer list) (endings.Refused rcode) present marks = refl
purpose_dead (purposes.Pointer list) endings.Expired present marks = refl
purpose_dead purposes.Doorbell ending present marks = refl
purpose_dead (purposes.AgentReset act) (endings.Complete value) present marks = gone_dead present marks
purpose_dead (purposes.AgentReset act) (endings.Refused rcode) present marks = refl
purpose_dead (purposes.AgentReset act) endings.Expired present marks = refl
purpose_dead (purposes.Enable act) ending present marks = refl
purpose_dead (purposes.Management act) ending present marks = refl
purpose_dead (purposes.Rom act) ending present marks = refl
purpose_dead (purposes.State act list) (endings.Complete value) present marks =
    state_dead (counts_for present list) (nat_eq value 0) (nat_eq value 3) present marks (counts_some present list)
purpose_dead (purposes.State act list) (endings.Refused rcode) present marks = refl
purpose_dead (purposes.State act list) endings.Expired present marks = refl

purpose_answer : (purpose : Purpose) (ending : Ending) (present : Option PresentList) (marks : ListMarks) → is_answered (purpose_marks purpose ending present marks).pointing ≡ known_if (lost (ends_the_list purpose ending present) present) (answers_pointer purpose ending present) (is_answered marks.pointing)
purpose_answer (purposes.Pointer list) (endings.Complete value) present marks = answered_is (is_list present list) marks
purpose_answer (purposes.Pointer list) (endings.Refused rcode) present marks = refl
purpose_answer (purposes.Pointer list) endings.Expired present marks = refl
purpose_answer purposes.Doorbell ending present marks = refl
purpose_answer (purposes.AgentReset act) (endings.Complete value) present marks = gone_answer present marks
purpose_answer (purposes.AgentReset act) (endings.Refused rcode) present marks = refl
purpose_answer (purposes.AgentReset act) endings.Expired present marks = refl
purpose_answer (purposes.Enable act) ending present marks = refl
purpose_answer (purposes.Management act) ending present marks = refl
purpose_answer (purposes.Rom act) ending present marks = refl
purpose_answer (purposes.State act list) (endings.Complete value) present marks =
    state_answer (counts_for present list) (nat_eq value 0) (nat_eq value 3) present marks
purpose_answer (purposes.State act list) (endings.Refused rcode) present marks = refl
purpose_answer (purposes.State act list) endings.Expired present marks = refl

found_dead : (finding : Finding Purpose) (s : InitiatorState) → (finding_marks finding s).is_dead ≡ known_if (lost (finding_drops finding s) s.lists.slots.present) (finding_dead finding s) s.marks.is_dead
found_dead of_generation s = refl
found_dead of_grammar s = refl
found_dead of_label s = refl
found_dead (of_response p label None) s = refl
found_dead (of_response p label (Some purpose)) s = purpose_dead purpose (ending_of p) s.lists.slots.present s.marks
found_dead (of_again p rcode) s = refl
found_dead (of_request p) s = dead_is (block_drops (brought p s) s) (takes_dead (brought p s) s) s.lists.slots.present s.marks

found_answer : (finding : Finding Purpose) (s : InitiatorState) → is_answered (finding_marks finding s).pointing ≡ known_if (lost (finding_drops finding s) s.lists.slots.present) (finding_answers finding s) (is_answered s.marks.pointing)
found_answer of_generation s = refl
found_answer of_grammar s = refl
found_answer of_label s = refl
found_answer (of_response p label None) s = refl
found_answer (of_response p label (Some purpose)) s = purpose_answer purpose (ending_of p) s.lists.slots.present s.marks
found_answer (of_again p rcode) s = refl
found_answer (of_request p) s = same_answer (block_drops (brought p s) s) (takes_dead (brought p s) s) s.lists.slots.present s.marks

-- ---- each call

-- what a call leaves, in a memory that is whole
pub record CallLeaves (call : Call) (turn : Turn) : Type 0 where
  pub lists : parts (done call turn).1.lists ≡ left_all (slot_calls call turn) (parts turn.1.lists)
  pub answered : is_answered (done call turn).1.marks.pointing ≡ known_if (loses_list call turn) (call_answers call turn.1) (is_answered turn.1.marks.pointing)
  pub dead : (done call turn).1.marks.is_dead ≡ known_if (loses_list call turn) (call_dead call turn.1) turn.1.marks.is_dead
  pub states : (done call turn).1.states ≡ reads_by call turn turn.1.states

pub call_leaves : (call : Call) (turn : Turn) → IsWhole turn.1.lists.memory → CallLeaves call turn
call_leaves (acts action) turn whole =
    let a = act_leaves action turn.0 turn.1 whole in
    record { lists = a.lists; answered = a.answered; dead = a.dead; states = a.states }
call_leaves (receives generation bytes) turn whole =
    let finding = (judging_step turn.1.layer generation bytes).0 in
    let l = receive_leaves generation bytes turn.0 turn.1 in
    record {
      lists = has_left l;
      answered = ap (λ (m : ListMarks). is_answered m.pointing) l.marks ∙ found_answer finding turn.1;
      dead = ap (λ (m : ListMarks). m.is_dead) l.marks ∙ found_dead finding turn.1;
      states = l.states;
    }
call_leaves (lets_expire label) turn whole =
    let l = expire_leaves label turn.0 turn.1 in
    record {
      lists = has_left l ∙ ap (λ (x : Calls). left_all x (parts turn.1.lists)) (with_none (unpin_calls (has_ended turn.1.operation (done (lets_expire label) turn).1.operation)));
      answered = ap (λ (m : ListMarks). is_answered m.pointing) l.marks;
      dead = ap (λ (m : ListMarks). m.is_dead) l.marks;
      states = l.states;
    }
  where
    with_none : (x : Calls) → x ++ [] ≡ x
    with_none [] = refl
    with_none (y ∷ x) = ap (λ (z : Calls). y ∷ z) (with_none x)
call_leaves (laws.sees generation id target) turn whole =
    let l = see_leaves generation id target turn.0 turn.1 in
    record { lists = l.lists; answered = l.answered; dead = l.dead; states = l.states }

-- ---- calls that are proper

proper_append : (xs ys : Calls) → AreProper xs → AreProper ys → AreProper (xs ++ ys)
proper_append [] ys a b = b
proper_append (x ∷ xs) ys a b = (a.0, proper_append xs ys a.1 b)

quads_proper : (place : ℕ) (bytes : List ℕ) (n : ℕ) → place < 2 → n ≤ 8 → AreProper (quad_calls place bytes n)
unfolding quad_calls
quads_proper place bytes zero p h = tt
quads_proper place bytes (suc n) p h =
    (record { place = place; exists = p; begins = omega arith; ends = omega arith }, quads_proper place bytes n p (omega arith))

orb_proper : (orb : Option ManagementOrb) (n : ℕ) → AreProper (orb_calls orb (place_of n))
orb_proper None n = tt
orb_proper (Some orb) n = quads_proper (place_of n) (management_bytes orb) 8 (below n) (omega arith)
  where
    below : (n : ℕ) → place_of n < 2
    below n = omega arith

dummy_proper : (t : Option TicketParts) → AreProper (dummy_calls t)
dummy_proper None = tt
dummy_proper (Some t) = (tt, tt)

pin_proper : (c : Bool) (t : Option TicketParts) → AreProper (pin_calls c t)
pin_proper true t = tt
pin_proper false None = tt
pin_proper false (Some t) = (tt, tt)

action_proper : (action : Action) (s : InitiatorState) → IsAction action → AreProper (action_calls action s)
action_proper (actions.Put cmd) s h = (h _ _, tt)
action_proper (actions.Append cmd) s h = (tt, (tt, (h _ _, tt)))
action_proper actions.Low s h = (tt, tt)
action_proper actions.Link s h = (tt, tt)
action_proper (actions.Dummy orb) s h = dummy_proper (find_in s.lists.slots.slots orb)
action_proper (actions.Abort orb) s h =
    proper_append (pin_calls (is_some s.lists.slots.pinned) (find_in s.lists.slots.slots orb)) _ (pin_proper (is_some s.lists.slots.pinned) (find_in s.lists.slots.slots orb)) (orb_proper (Some (orb_by (actions.Abort orb) s)) s.counts.managed)
action_proper actions.Rom s h = tt
action_proper (actions.Login unit reconnect exclusive password) s h = orb_proper (Some (orb_by (actions.Login unit reconnect exclusive password) s)) s.counts.managed
action_proper (actions.Query unit) s h = orb_proper (Some (orb_by (actions.Query unit) s)) s.counts.managed
action_proper actions.Reconnect s h = orb_proper (Some (orb_by actions.Reconnect s)) s.counts.managed
action_proper actions.Logout s h = orb_proper (Some (orb_by actions.Logout s)) s.counts.managed
action_proper actions.AbortSet s h = orb_proper (Some (orb_by actions.AbortSet s)) s.counts.managed
action_proper actions.UnitReset s h = orb_proper (Some (orb_by actions.UnitReset s)) s.counts.managed
action_proper actions.TargetReset s h = orb_proper (Some (orb_by actions.TargetReset s)) s.counts.managed
action_proper actions.AgentReset s h = tt
action_proper actions.State s h = tt
action_proper actions.Ring s h = tt
action_proper actions.Enable s h = tt

if_proper : (refused : Option ℕ) (action : Action) (s : InitiatorState) → IsAction action → AreProper (calls_if refused action s)
if_proper (Some number) action s h = tt
if_proper None action s h = action_proper action s h

status_proper : (kind : StatusKind) (block : StatusBlock) → AreProper (status_calls kind block)
status_proper (kinds.Management code) block = tt
status_proper kinds.Good block = (tt, tt)
status_proper (kinds.Check sense) block = (tt, tt)
status_proper kinds.Dummy block = (tt, tt)
status_proper kinds.Aborted block = (tt, tt)
status_proper (kinds.Illegal meaning) block = (tt, tt)
status_proper kinds.Failed block = (tt, tt)

block_proper : (b : Brought) → AreProper (block_calls b)
block_proper nothing = tt
block_proper unsolicited = tt
block_proper (status block) = status_proper block.kind block

block_writes_proper : (fifo : Option Fifo) (offset : ℕ) (bytes : List ℕ) → AreProper (block_writes fifo offset bytes)
block_writes_proper None offset bytes = (tt, tt)
block_writes_proper (Some fifo) offset bytes = tt

quadlet_writes_proper : (fifo : Option Fifo) (offset : ℕ) (bytes : List ℕ) → AreProper (quadlet_writes fifo offset bytes)
quadlet_writes_proper None offset bytes = (tt, tt)
quadlet_writes_proper (Some fifos.Closed) offset bytes = tt
quadlet_writes_proper (Some fifos.Login) offset bytes = (tt, tt)
quadlet_writes_proper (Some fifos.Place) offset bytes = (tt, tt)

written_proper : (p : Packet) (s : InitiatorState) → AreProper (written_by p s)
written_proper (write_block header offset payload) s = block_writes_proper (fifo_of s offset) offset payload
written_proper (write_quadlet header offset value) s = quadlet_writes_proper (fifo_of s offset) offset (big_bytes 4 value)
written_proper (read_quadlet header offset) s = tt
written_proper (read_block header offset asked) s = tt
written_proper (lock header offset extended payload) s = tt
written_proper (write_response header rcode) s = tt
written_proper (read_quadlet_response header rcode value) s = tt
written_proper (read_block_response header rcode payload) s = tt
written_proper (lock_response header rcode extended payload) s = tt

pick_proper : (c : Bool) (xs : Calls) → AreProper xs → AreProper (cond c [] xs)
pick_proper true xs a = tt
pick_proper false xs a = a

request_proper : (finding : Finding Purpose) (s : InitiatorState) → AreProper (request_calls finding s)
request_proper (of_request p) s =
    proper_append (block_calls (brought p s)) (write_calls p s) (block_proper (brought p s)) (pick_proper (is_foreign p s) (written_by p s) (written_proper p s))
request_proper of_generation s = tt
request_proper of_grammar s = tt
request_proper of_label s = tt
request_proper (of_response p label purpose) s = tt
request_proper (of_again p rcode) s = tt

drop_proper : (c : Bool) → AreProper (drop_calls c)
drop_proper true = (tt, tt)
drop_proper false = tt

unpin_proper : (c : Bool) → AreProper (unpin_calls c)
unpin_proper true = (tt, tt)
unpin_proper false = tt

seen_proper : (c : Bool) → AreProper (seen_calls c)
seen_proper true = (tt, (tt, tt))
seen_proper false = tt

slot_proper : (call : Call) (turn : Turn) → IsCall call → AreProper (slot_calls call turn)
slot_proper (acts action) turn h = if_proper (act_step action turn.0 turn.1).0 action turn.1 h
slot_proper (receives generation bytes) turn h =
    let finding = (judging_step turn.1.layer generation bytes).0 in
    let c = has_ended turn.1.operation (done (receives generation bytes) turn).1.operation in
    proper_append (unpin_calls c) (heard_calls finding turn.1) (unpin_proper c)
    (proper_append (drop_calls (finding_drops finding turn.1)) (request_calls finding turn.1) (drop_proper (finding_drops finding turn.1)) (request_proper finding turn.1))
slot_proper (lets_expire label) turn h = unpin_proper (has_ended turn.1.operation (done (lets_expire label) turn).1.operation)
slot_proper (laws.sees generation id target) turn h = seen_proper (nat_lt turn.1.layer.generation generation)

-- ---- over every list of calls

-- a run goes on
run_on : (later calls : Calls) (quads : List ℕ) → ((run (later ++ calls) quads).table, (run (later ++ calls) quads).memory) ≡ left_all later ((run calls quads).table, (run calls quads).memory)
run_on [] calls quads = refl
run_on (call ∷ later) calls quads = ap (λ (p : Parts). left_by call p.0 p.1) (run_on later calls quads)

whole_of : (quads : List ℕ) (calls : Calls) (lists : ListState) → AreSlotsOf quads calls lists → IsWhole lists.memory
whole_of quads calls lists a = subst (λ (m : Memory). IsWhole m) a.memory (held_law.run_held calls quads a.proper).whole

slots_on : (quads : List ℕ) (later calls : Calls) (lists new : ListState) → AreProper later → parts new ≡ left_all later (parts lists) → AreSlotsOf quads calls lists → AreSlotsOf quads (later ++ calls) new
slots_on quads later calls lists new p e a =
    let r = run calls quads in
    let f : ((run (later ++ calls) quads).table, (run (later ++ calls) quads).memory) ≡ parts new = run_on later calls quads
    ∙ ap (λ (t : SlotTable). left_all later (t, r.memory)) a.table ∙ ap (λ (m : Memory). left_all later (lists.slots, m)) a.memory ∙ sym e in
    record {
      proper = proper_append later calls p a.proper;
      table = ap (λ (x : Parts). x.0) f;
      memory = ap (λ (x : Parts). x.1) f;
    }

first_slots : (number : ℕ) (ready : Bool) → AreSlotsOf (own_rom number) [] (new_state number ready).lists
unfolding new_state
first_slots number ready = record { proper = tt; table = refl; memory = refl }

pub slot_law : SlotLaw
slot_law number ready [] h = first_slots number ready
slot_law number ready (call ∷ calls) h =
    let turn = after number ready calls in
    let a = slot_law number ready calls h.1 in
    let l = call_leaves call turn (whole_of (own_rom number) (slot_calls_after number ready calls) turn.1.lists a) in
    slots_on (own_rom number) (slot_calls call turn) (slot_calls_after number ready calls) turn.1.lists (done call turn).1.lists (slot_proper call turn h.0) l.lists a

-- what a call leaves behind every list of calls
pub leaves_after : (number : ℕ) (ready : Bool) (call : Call) (calls : List Call) → AreCalls calls → CallLeaves call (after number ready calls)
leaves_after number ready call calls h =
    call_leaves call (after number ready calls) (whole_of (own_rom number) (slot_calls_after number ready calls) (after number ready calls).1.lists (slot_law number ready calls h))
