-- What an action leaves of the slots, of what is known of the present list, and of the reads of AGENT_STATE.
use Rattle.std.proofs.Common.{arith, ◌≡◌, refl, sym, ap, subst, ◌∙◌, ℕ, zero, suc, ◌+◌, ◌*◌, ◌<◌, ◌≤◌, nat_eq, not, is_some, Bool, true, false, cond, List, [], ◌∷◌, ◌++◌, length, drop, get_or, Option, Some, None, Result, Ok, Err}
use Rattle.byteorder.specs.Endian.{big_bytes}
use Rattle.sbp_base.specs.Quadlets.{quad}
use Rattle.async_packet.specs.Labels.{LabelParts}
use Rattle.label_table.specs.declared.judgement.Asked.{Asked}
use Rattle.label_table.specs.declared.reply.NoLabel.{NoLabel}
use Rattle.label_table.specs.Bodies.{Body}
use Rattle.label_table.specs.Peers.{PeerPlace, ask_place}
use Rattle.label_table.specs.Layer.{Layer, peer_place, peer_at, unlabelled, asked_at, asking_in, asking_step}
use Rattle.bus_memory.specs.declared.window.Window.TheVariants as windows
use Rattle.bus_memory.specs.Windows.{start}
use Rattle.bus_memory.specs.Memory.{Memory, with_bytes}
use Rattle.bus_memory.specs.Access.{set_step}
use Rattle.bus_memory.specs.Laws.{IsWhole}
use Rattle.orb_layout.specs.declared.management.ManagementOrb.{ManagementOrb}
use Rattle.orb_layout.specs.ManagementOrbs.{management_bytes, management_quads}
use Rattle.orb_layout.specs.Pointers.{quad_bytes}
use Rattle.orb_list.specs.declared.fault.ListFault.{ListFault}
use Rattle.orb_list.specs.declared.list.Linking.{Linking}
use Rattle.orb_list.specs.declared.list.PresentList.{PresentList}
use Rattle.orb_list.specs.Runs as slot_runs
use Rattle.orb_list.specs.Runs.{left_by}
use Rattle.orb_list.specs.Table.{SlotTable, find_in, high_for, high_step, low_for, low_step as slot_low, may_prepare, next_ticket, orb_number, pin_step, prepare_at, prepare_step, waits_high, waits_low}
use Rattle.orb_list.specs.Tickets.{TicketParts}
use Rattle.sbp_session.specs.Moves.{pointing, goes}
use Rattle.sbp_journal.specs.declared.event.Action.{Action}
use Rattle.sbp_journal.specs.declared.event.Action.TheVariants as actions
use Rattle.sbp_journal.specs.declared.event.Cmd.{Cmd}
use Rattle.sbp_journal.specs.declared.operation.Operation.TheVariants as operations
use Rattle.sbp_journal.specs.Outgoings.{OutboxState}
use Rattle.sbp_initiator.specs.declared.purpose.Demand.{Demand}
use Rattle.sbp_initiator.specs.declared.purpose.ListMarks.{ListMarks}
use Rattle.sbp_initiator.specs.declared.purpose.Pointing.{Pointing}
use Rattle.sbp_initiator.specs.declared.purpose.Pointing.TheVariants as pointings
use Rattle.sbp_initiator.specs.declared.purpose.Purpose.{Purpose}
use Rattle.sbp_initiator.specs.declared.state.InitiatorState.{InitiatorState}
use Rattle.sbp_initiator.specs.Refusals.{prepares, refusal}
use Rattle.orb_list.specs.Lists.{ListState, dummy_lists, high_lists, low_lists, manage_lists, pin_lists, stepped}
use Rattle.sbp_initiator.specs.Commands.{asked_by, prepared_as, put_lists}
use Rattle.sbp_initiator.specs.States.{is_answered, is_unwritten, no_marks, place_of, wanted_body}
use Rattle.sbp_initiator.specs.Effects.{Turn}
use Rattle.sbp_initiator.specs.Acting.{act_step, append_step, asked_as, asked_for, demand_of, demanded_as, done_step, dummy_for, facts_with, judged_as, link_as, link_step, login_id, low_as, low_step, manage_start, managed_by, orb_by, pinned_for, put_as, put_step, ring_for, with_running}
use Rattle.orb_list.proofs.Managed.{quad_is_set, quad_behind, quad_whole, orb_end}
use Rattle.sbp_initiator.specs.Histories.Marks.{begins_list, known_if, read_begun}
use Rattle.sbp_initiator.specs.Histories.Slots.{action_calls, calls_if, dummy_calls, pin_calls, quad_calls}
use Rattle.sbp_initiator.proofs.Histories.Actions.{Allowed, allowed, is_ok}
use Rattle.sbp_initiator.proofs.Histories.Leaves.{Calls, left_all, parts}

-- ---- a management ORB is written quadlet by quadlet

abbrev Parts : Type 0
Parts = SlotTable × Memory

set_next : (place : ℕ) (bytes : List ℕ) (n : ℕ) (m : Memory) → IsWhole m → place < 2 → suc n ≤ 8 → set_step m (start (windows.Management place) + 4 * n) (quad bytes (4 * n)) ≡ with_bytes m (windows.Management place) (4 * n) (big_bytes 4 (quad bytes (4 * n)))
set_next place bytes n m whole p h = quad_is_set m place (4 * n) (quad bytes (4 * n)) (start (windows.Management place) + 4 * n) refl whole p (omega arith)

quads_table : (place : ℕ) (bytes : List ℕ) (n : ℕ) (p : Parts) → (left_all (quad_calls place bytes n) p).0 ≡ p.0
unfolding quad_calls
quads_table place bytes zero p = refl
quads_table place bytes (suc n) p = quads_table place bytes n p

quads_whole : (place : ℕ) (bytes : List ℕ) (n : ℕ) (p : Parts) → place < 2 → n ≤ 8 → IsWhole p.1 → IsWhole (left_all (quad_calls place bytes n) p).1
unfolding quad_calls
quads_whole place bytes zero p b h whole = whole
quads_whole place bytes (suc n) p b h whole =
    let m : Memory = (left_all (quad_calls place bytes n) p).1 in
    let w : IsWhole m = quads_whole place bytes n p b (omega arith) whole in
    subst (λ (x : Memory). IsWhole x) (sym (set_next place bytes n m w b h)) (quad_whole m place (4 * n) (quad bytes (4 * n)) w b (omega arith))

quads_written : (place : ℕ) (bytes : List ℕ) (n : ℕ) (p : Parts) → place < 2 → length bytes ≡ 32 → ((i : ℕ) → get_or bytes i 0 < 256) → n ≤ 8 → IsWhole p.1 → with_bytes (left_all (quad_calls place bytes n) p).1 (windows.Management place) (4 * n) (drop (4 * n) bytes) ≡ with_bytes p.1 (windows.Management place) 0 bytes
unfolding quad_calls
quads_written place bytes zero p b l small h whole = refl
quads_written place bytes (suc n) p b l small h whole =
    let m : Memory = (left_all (quad_calls place bytes n) p).1 in
    let w : IsWhole m = quads_whole place bytes n p b (omega arith) whole in
    let e : 4 * suc n ≡ 4 * n + 4 = omega arith in
    ap (λ (k : ℕ). with_bytes (set_step m (start (windows.Management place) + 4 * n) (quad bytes (4 * n))) (windows.Management place) k (drop k bytes)) e
    ∙ ap (λ (x : Memory). with_bytes x (windows.Management place) (4 * n + 4) (drop (4 * n + 4) bytes)) (set_next place bytes n m w b h)
    ∙ quad_behind m place (4 * n) bytes w b l (omega arith) small
    ∙ quads_written place bytes n p b l small (omega arith) whole

-- the bytes of a management ORB are bytes
small_quad : (x : ℕ) (rest : List ℕ) → ((k : ℕ) → get_or rest k 0 < 256) → (k : ℕ) → get_or (big_bytes 4 x ++ rest) k 0 < 256
small_quad x rest h zero = omega arith
small_quad x rest h (suc zero) = omega arith
small_quad x rest h (suc (suc zero)) = omega arith
small_quad x rest h (suc (suc (suc zero))) = omega arith
small_quad x rest h (suc (suc (suc (suc k)))) = h k

no_bytes : (k : ℕ) → get_or [] k 0 < 256
no_bytes k = omega arith

small_quads : (qs : List ℕ) (k : ℕ) → get_or (quad_bytes qs) k 0 < 256
small_quads [] k = no_bytes k
small_quads (q ∷ qs) k = small_quad q (quad_bytes qs) (small_quads qs) k

small_orb : (orb : ManagementOrb) (k : ℕ) → get_or (management_bytes orb) k 0 < 256
small_orb orb = small_quads (management_quads orb)

orb_written : (place : ℕ) (orb : ManagementOrb) (p : Parts) → place < 2 → IsWhole p.1 → (left_all (quad_calls place (management_bytes orb) 8) p).1 ≡ with_bytes p.1 (windows.Management place) 0 (management_bytes orb)
orb_written place orb p b whole =
    orb_end (left_all (quad_calls place (management_bytes orb) 8) p).1 place 32 (management_bytes orb) refl (omega arith)
    ∙ quads_written place (management_bytes orb) 8 p b refl (small_orb orb) (omega arith) whole

place_below : (n : ℕ) → place_of n < 2
place_below n = omega arith

managed_parts : (lists : ListState) (n : ℕ) (orb : ManagementOrb) → IsWhole lists.memory → parts (manage_lists lists (place_of n) orb) ≡ left_all (quad_calls (place_of n) (management_bytes orb) 8) (parts lists)
unfolding manage_lists
managed_parts lists n orb whole =
    let p = left_all (quad_calls (place_of n) (management_bytes orb) 8) (parts lists) in
    ap (λ (m : Memory). (lists.slots, m)) (sym (orb_written (place_of n) orb (parts lists) (place_below n) whole))
    ∙ ap (λ (t : SlotTable). (t, p.1)) (sym (quads_table (place_of n) (management_bytes orb) 8 (parts lists)))

-- ---- what a step leaves

-- The slots are as these calls leave them; what is known is forgotten where a list begins, and stays else; and the reads stay.
record Steps (begins : Bool) (calls : Calls) (s t : InitiatorState) : Type 0 where
  lists : parts t.lists ≡ left_all calls (parts s.lists)
  answered : is_answered t.marks.pointing ≡ known_if begins false (is_answered s.marks.pointing)
  dead : t.marks.is_dead ≡ known_if begins false s.marks.is_dead
  states : t.states ≡ s.states

still : (s t : InitiatorState) → t.lists ≡ s.lists → t.marks ≡ s.marks → t.states ≡ s.states → Steps false [] s t
still s t lists marks states = record {
  lists = ap parts lists;
  answered = ap (λ (m : ListMarks). is_answered m.pointing) marks;
  dead = ap (λ (m : ListMarks). m.is_dead) marks;
  states = states;
}

step_then : (begins : Bool) (calls : Calls) (call : slot_runs.Call) (s t u : InitiatorState) → Steps begins calls s t → Steps false (call ∷ []) t u → Steps begins (call ∷ calls) s u
step_then begins calls call s t u a b = record {
  lists = b.lists ∙ ap (λ (p : Parts). left_by call p.0 p.1) a.lists;
  answered = b.answered ∙ a.answered;
  dead = b.dead ∙ a.dead;
  states = b.states ∙ a.states;
}

-- ---- an ORB is prepared

untrue : false ≡ true → ⊥
untrue e = cc

first_known : (c : Bool) (first : ℕ) (s : InitiatorState) (lists : ListState) (calls : Calls) → parts lists ≡ left_all calls (parts s.lists) → Steps c calls s (cond c (record s { lists = lists; marks = record no_marks { first = first } }) (record s { lists = lists }))
first_known true first s lists calls e = record { lists = e; answered = refl; dead = refl; states = refl }
first_known false first s lists calls e = record { lists = e; answered = refl; dead = refl; states = refl }

-- the first ORB of a list has number 0, and only it
first_is : (present : Option PresentList) → nat_eq (orb_number present) 0 ≡ not (is_some present)
first_is None = refl
first_is (Some list) = above list.tail.number
  where
    above : (n : ℕ) → nat_eq (n + 1) 0 ≡ false
    above n = grind arith

put_as_steps : (r : Result ℕ ListFault) (cmd : Cmd) (o : OutboxState) (s : InitiatorState) → is_ok r ≡ true → may_prepare s.lists.slots ≡ r → Steps (not (is_some s.lists.slots.present)) (slot_runs.Prepare (asked_by cmd s.layer.node (login_id s)) ∷ []) s (put_as (prepared_as (prepare_at r s.lists.slots s.lists.memory (asked_by cmd s.layer.node (login_id s))) s.lists cmd) cmd o s).1
unfolding prepare_step
put_as_steps (Err fault) cmd o s e f = absurd (untrue e)
put_as_steps (Ok slot) cmd o s e f =
    let t = next_ticket s.lists.slots slot (login_id s) in
    let lists = (prepared_as (prepare_at (Ok slot) s.lists.slots s.lists.memory (asked_by cmd s.layer.node (login_id s))) s.lists cmd).1 in
    let calls = slot_runs.Prepare (asked_by cmd s.layer.node (login_id s)) ∷ [] in
    subst (λ (c : Bool). Steps c calls s (cond (nat_eq t.number 0) (record s { lists = lists; marks = record no_marks { first = t.slot } }) (record s { lists = lists }))) (first_is s.lists.slots.present)
    (first_known (nat_eq t.number 0) t.slot s lists calls (ap (λ (r : Result ℕ ListFault). (prepare_at r s.lists.slots s.lists.memory (asked_by cmd s.layer.node (login_id s))).1) (sym f)))

put_steps : (cmd : Cmd) (o : OutboxState) (s : InitiatorState) → is_ok (may_prepare s.lists.slots) ≡ true → Steps (not (is_some s.lists.slots.present)) (slot_runs.Prepare (asked_by cmd s.layer.node (login_id s)) ∷ []) s (put_step cmd o s).1
unfolding put_lists prepare_step
put_steps cmd o s e = put_as_steps (may_prepare s.lists.slots) cmd o s e refl

-- ---- an ORB is linked

low_as_steps : (linking : Option Linking) (o : OutboxState) (s : InitiatorState) → waits_low s.lists.slots.present ≡ linking → Steps false (slot_runs.LinkLow ∷ []) s (low_as (stepped (low_for linking s.lists.slots s.lists.memory) s.lists) o s).1
unfolding slot_low
low_as_steps None o s e = record { lists = ap (λ (l : Option Linking). (low_for l s.lists.slots s.lists.memory).1) (sym e); answered = refl; dead = refl; states = refl }
low_as_steps (Some linking) o s e = record { lists = ap (λ (l : Option Linking). (low_for l s.lists.slots s.lists.memory).1) (sym e); answered = refl; dead = refl; states = refl }

low_steps : (o : OutboxState) (s : InitiatorState) → Steps false (slot_runs.LinkLow ∷ []) s (low_step o s).1
unfolding low_lists slot_low
low_steps o s = low_as_steps (waits_low s.lists.slots.present) o s refl

high_as_steps : (linking : Option Linking) (o : OutboxState) (s : InitiatorState) → waits_high s.lists.slots.present ≡ linking → Steps false (slot_runs.LinkHigh ∷ []) s (link_as (stepped (high_for linking s.lists.slots s.lists.memory) s.lists) o s).1
unfolding high_step
high_as_steps None o s e = record { lists = ap (λ (l : Option Linking). (high_for l s.lists.slots s.lists.memory).1) (sym e); answered = refl; dead = refl; states = refl }
high_as_steps (Some linking) o s e = record { lists = ap (λ (l : Option Linking). (high_for l s.lists.slots s.lists.memory).1) (sym e); answered = refl; dead = refl; states = refl }

link_steps : (o : OutboxState) (s : InitiatorState) → Steps false (slot_runs.LinkHigh ∷ []) s (link_step o s).1
unfolding high_lists high_step
link_steps o s = high_as_steps (waits_high s.lists.slots.present) o s refl

-- ---- a ring

unanswered : (p : Pointing) → is_unwritten p ≡ true → false ≡ is_answered p
unanswered pointings.Unwritten e = refl
unanswered pointings.Written e = refl
unanswered pointings.Answered e = absurd (untrue e)

rung_as : (c : Bool) (s : InitiatorState) → is_unwritten s.marks.pointing ≡ c → Steps false [] s (cond c (record s { marks = record s.marks { pointing = pointings.Written }; seat = goes pointing s.seat }) (with_running s))
rung_as true s e = record { lists = refl; answered = unanswered s.marks.pointing e; dead = refl; states = refl }
rung_as false s e = record { lists = refl; answered = refl; dead = refl; states = refl }

ring_for_steps : (present : Option PresentList) (o : OutboxState) (s : InitiatorState) → Steps false [] s (ring_for present o s).1
ring_for_steps None o s = still s s refl refl refl
ring_for_steps (Some list) o s = rung_as (is_unwritten s.marks.pointing) s refl

append_steps : (cmd : Cmd) (o : OutboxState) (s : InitiatorState) → is_ok (may_prepare s.lists.slots) ≡ true → Steps (not (is_some s.lists.slots.present)) (slot_runs.LinkHigh ∷ slot_runs.LinkLow ∷ slot_runs.Prepare (asked_by cmd s.layer.node (login_id s)) ∷ []) s (append_step cmd o s).1
append_steps cmd o s e =
    let x = put_step cmd o s in
    let y = low_step x.0 x.1 in
    let w = link_step y.0 y.1 in
    let b = not (is_some s.lists.slots.present) in
    let put = slot_runs.Prepare (asked_by cmd s.layer.node (login_id s)) ∷ [] in
    let a = step_then b put slot_runs.LinkLow s x.1 y.1 (put_steps cmd o s e) (low_steps x.0 x.1) in
    let c = step_then b (slot_runs.LinkLow ∷ put) slot_runs.LinkHigh s y.1 w.1 a (link_steps y.0 y.1) in
    let d = ring_for_steps w.1.lists.slots.present w.0 w.1 in
    record { lists = d.lists ∙ c.lists; answered = d.answered ∙ c.answered; dead = d.dead ∙ c.dead; states = d.states ∙ c.states }

-- ---- a dummy, and a pin

dummy_steps : (t : Option TicketParts) (o : OutboxState) (s : InitiatorState) → Steps false (dummy_calls t) s (dummy_for t o s).1
unfolding dummy_lists
dummy_steps None o s = still s s refl refl refl
dummy_steps (Some t) o s = record { lists = refl; answered = refl; dead = refl; states = refl }

pin_parts : (c : Bool) (t : TicketParts) (lists : ListState) → parts (cond c lists (record lists { slots = (pin_step lists.slots t).1 })) ≡ left_all (pin_calls c (Some t)) (parts lists)
pin_parts true t lists = refl
pin_parts false t lists = refl

pins_parts : (t : TicketParts) (lists : ListState) → parts (pin_lists lists t) ≡ left_all (pin_calls (is_some lists.slots.pinned) (Some t)) (parts lists)
unfolding pin_lists
pins_parts t lists = pin_parts (is_some lists.slots.pinned) t lists

no_pin : (c : Bool) → pin_calls c None ≡ []
no_pin true = refl
no_pin false = refl

left_append : (xs ys : Calls) (p : Parts) → left_all (xs ++ ys) p ≡ left_all xs (left_all ys p)
left_append [] ys p = refl
left_append (x ∷ xs) ys p = ap (λ (q : Parts). left_by x q.0 q.1) (left_append xs ys p)

-- ---- an action that is done

-- what it leaves
record Did (action : Action) (s t : InitiatorState) : Type 0 where
  lists : parts t.lists ≡ left_all (action_calls action s) (parts s.lists)
  answered : is_answered t.marks.pointing ≡ known_if (begins_list None action s) false (is_answered s.marks.pointing)
  dead : t.marks.is_dead ≡ known_if (begins_list None action s) false s.marks.is_dead
  states : t.states ≡ read_begun None action s.counts.acts s.states

-- a pin behind the ORB of an abort
abort_lists : (t : Option TicketParts) (orb : ManagementOrb) (s u : InitiatorState) → u.lists ≡ manage_lists s.lists (place_of s.counts.managed) orb → u.lists.slots ≡ s.lists.slots → IsWhole s.lists.memory → parts (pinned_for t u).lists ≡ left_all (pin_calls (is_some s.lists.slots.pinned) t ++ quad_calls (place_of s.counts.managed) (management_bytes orb) 8) (parts s.lists)
abort_lists None orb s u e f whole =
    let calls = quad_calls (place_of s.counts.managed) (management_bytes orb) 8 in
    ap parts e ∙ managed_parts s.lists s.counts.managed orb whole
    ∙ ap (λ (x : Calls). left_all (x ++ calls) (parts s.lists)) (sym (no_pin (is_some s.lists.slots.pinned)))
abort_lists (Some t) orb s u e f whole =
    let calls = quad_calls (place_of s.counts.managed) (management_bytes orb) 8 in
    let c = is_some s.lists.slots.pinned in
    pins_parts t u.lists ∙ ap (λ (x : SlotTable). left_all (pin_calls (is_some x.pinned) (Some t)) (parts u.lists)) f
    ∙ ap (λ (p : Parts). left_all (pin_calls c (Some t)) p) (ap parts e ∙ managed_parts s.lists s.counts.managed orb whole)
    ∙ sym (left_append (pin_calls c (Some t)) calls (parts s.lists))

manage_slots : (lists : ListState) (place : ℕ) (orb : ManagementOrb) → (manage_lists lists place orb).slots ≡ lists.slots
unfolding manage_lists
manage_slots lists place orb = refl

pinned_marks : (t : Option TicketParts) (u : InitiatorState) → (pinned_for t u).marks ≡ u.marks
pinned_marks None u = refl
pinned_marks (Some t) u = refl

pinned_states : (t : Option TicketParts) (u : InitiatorState) → (pinned_for t u).states ≡ u.states
pinned_states None u = refl
pinned_states (Some t) u = refl

abort_did : (orb : ℕ) (s : InitiatorState) → IsWhole s.lists.memory → Did (actions.Abort orb) s (manage_start (actions.Abort orb) s)
abort_did orb s whole =
    let x = orb_by (actions.Abort orb) s in
    let u = managed_by x operations.Abort s in
    let f = manage_slots s.lists (place_of s.counts.managed) x in
    let e : parts (manage_start (actions.Abort orb) s).lists ≡ left_all (pin_calls (is_some s.lists.slots.pinned) (find_in u.lists.slots.slots orb) ++ quad_calls (place_of s.counts.managed) (management_bytes x) 8) (parts s.lists) = abort_lists (find_in u.lists.slots.slots orb) x s u refl f whole in
    record {
      lists = subst (λ (t : SlotTable). parts (manage_start (actions.Abort orb) s).lists ≡ left_all (pin_calls (is_some s.lists.slots.pinned) (find_in t.slots orb) ++ quad_calls (place_of s.counts.managed) (management_bytes x) 8) (parts s.lists)) f e;
      answered = ap (λ (m : ListMarks). is_answered m.pointing) (pinned_marks (find_in u.lists.slots.slots orb) u);
      dead = ap (λ (m : ListMarks). m.is_dead) (pinned_marks (find_in u.lists.slots.slots orb) u);
      states = pinned_states (find_in u.lists.slots.slots orb) u;
    }

done_did : (action : Action) (o : OutboxState) (s : InitiatorState) → (prepares action ≡ true → is_ok (may_prepare s.lists.slots) ≡ true) → IsWhole s.lists.memory → Did action s (done_step action o s).1
unfolding done_step
done_did (actions.Put cmd) o s a whole =
    let x = put_steps cmd o s (a refl) in record { lists = x.lists; answered = x.answered; dead = x.dead; states = x.states }
done_did (actions.Append cmd) o s a whole =
    let x = append_steps cmd o s (a refl) in record { lists = x.lists; answered = x.answered; dead = x.dead; states = x.states }
done_did actions.Low o s a whole =
    let x = low_steps o s in record { lists = x.lists; answered = x.answered; dead = x.dead; states = x.states }
done_did actions.Link o s a whole =
    let x = link_steps o s in record { lists = x.lists; answered = x.answered; dead = x.dead; states = x.states }
done_did actions.Ring o s a whole =
    let x = ring_for_steps s.lists.slots.present o s in
    record { lists = x.lists; answered = x.answered; dead = x.dead; states = x.states }
done_did (actions.Dummy orb) o s a whole =
    let x = dummy_steps (find_in s.lists.slots.slots orb) o s in
    record { lists = x.lists; answered = x.answered; dead = x.dead; states = x.states }
done_did actions.Rom o s a whole = record { lists = refl; answered = refl; dead = refl; states = refl }
done_did actions.AgentReset o s a whole = record { lists = refl; answered = refl; dead = refl; states = refl }
done_did actions.State o s a whole = record { lists = refl; answered = refl; dead = refl; states = refl }
done_did actions.Enable o s a whole = record { lists = refl; answered = refl; dead = refl; states = refl }
done_did (actions.Login unit reconnect exclusive password) o s a whole =
    record { lists = managed_parts s.lists s.counts.managed (orb_by (actions.Login unit reconnect exclusive password) s) whole; answered = refl; dead = refl; states = refl }
done_did (actions.Query unit) o s a whole =
    record { lists = managed_parts s.lists s.counts.managed (orb_by (actions.Query unit) s) whole; answered = refl; dead = refl; states = refl }
done_did actions.Reconnect o s a whole =
    record { lists = managed_parts s.lists s.counts.managed (orb_by actions.Reconnect s) whole; answered = refl; dead = refl; states = refl }
done_did actions.Logout o s a whole =
    record { lists = managed_parts s.lists s.counts.managed (orb_by actions.Logout s) whole; answered = refl; dead = refl; states = refl }
done_did (actions.Abort orb) o s a whole = abort_did orb s whole
done_did actions.AbortSet o s a whole =
    record { lists = managed_parts s.lists s.counts.managed (orb_by actions.AbortSet s) whole; answered = refl; dead = refl; states = refl }
done_did actions.UnitReset o s a whole =
    record { lists = managed_parts s.lists s.counts.managed (orb_by actions.UnitReset s) whole; answered = refl; dead = refl; states = refl }
done_did actions.TargetReset o s a whole =
    record { lists = managed_parts s.lists s.counts.managed (orb_by actions.TargetReset s) whole; answered = refl; dead = refl; states = refl }

-- what an action that is done makes of the reads
pub done_reads : (action : Action) (o : OutboxState) (s : InitiatorState) → (prepares action ≡ true → is_ok (may_prepare s.lists.slots) ≡ true) → (done_step action o s).1.states ≡ read_begun None action s.counts.acts s.states
unfolding done_step
done_reads (actions.Put cmd) o s a = (put_steps cmd o s (a refl)).states
done_reads (actions.Append cmd) o s a = (append_steps cmd o s (a refl)).states
done_reads actions.Low o s a = (low_steps o s).states
done_reads actions.Link o s a = (link_steps o s).states
done_reads actions.Ring o s a = (ring_for_steps s.lists.slots.present o s).states
done_reads (actions.Dummy orb) o s a = (dummy_steps (find_in s.lists.slots.slots orb) o s).states
done_reads (actions.Abort orb) o s a =
    let u = managed_by (orb_by (actions.Abort orb) s) operations.Abort s in pinned_states (find_in u.lists.slots.slots orb) u
done_reads actions.Rom o s a = refl
done_reads actions.AgentReset o s a = refl
done_reads actions.State o s a = refl
done_reads actions.Enable o s a = refl
done_reads (actions.Login unit reconnect exclusive password) o s a = refl
done_reads (actions.Query unit) o s a = refl
done_reads actions.Reconnect o s a = refl
done_reads actions.Logout o s a = refl
done_reads actions.AbortSet o s a = refl
done_reads actions.UnitReset o s a = refl
done_reads actions.TargetReset o s a = refl

-- ---- a request leaves the node's ID

placed : (k : ℕ) (layer : Layer Purpose) (r : Result LabelParts NoLabel × (PeerPlace Purpose × List ℕ)) → (asked_at k layer r).1.node ≡ layer.node
placed k layer (Ok label, (place, bytes)) = refl
placed k layer (Err none, (place, bytes)) = refl

peered : (k : Option ℕ) (layer : Layer Purpose) (peer : ℕ) (bytes : List ℕ) (purpose : Purpose) → (asking_in k layer peer bytes purpose).1.node ≡ layer.node
peered None layer peer bytes purpose = refl
peered (Some k) layer peer bytes purpose = placed k layer (ask_place (peer_at layer k) peer bytes purpose)

asks_node : (layer : Layer Purpose) (peer : ℕ) (body : Body) (purpose : Purpose) → (asking_step layer peer body purpose).1.node ≡ layer.node
unfolding asking_step
asks_node layer peer body purpose = peered (peer_place peer layer) layer peer (unlabelled layer peer body) purpose

-- so an action does the same to the slots behind it
calls_same : (action : Action) (s : InitiatorState) (layer : Layer Purpose) → layer.node ≡ s.layer.node → action_calls action (record s { layer = layer }) ≡ action_calls action s
calls_same actions.Rom s layer e = refl
calls_same (actions.Login unit reconnect exclusive password) s layer e = refl
calls_same (actions.Query unit) s layer e = refl
calls_same actions.Reconnect s layer e = refl
calls_same actions.Logout s layer e = refl
calls_same (actions.Abort orb) s layer e = refl
calls_same actions.AbortSet s layer e = refl
calls_same actions.UnitReset s layer e = refl
calls_same actions.TargetReset s layer e = refl
calls_same actions.AgentReset s layer e = refl
calls_same actions.State s layer e = refl
calls_same (actions.Dummy orb) s layer e = refl
calls_same (actions.Put cmd) s layer e = ap (λ (n : ℕ). slot_runs.Prepare (asked_by cmd n (login_id s)) ∷ []) e
calls_same (actions.Append cmd) s layer e =
    ap (λ (n : ℕ). slot_runs.LinkHigh ∷ slot_runs.LinkLow ∷ slot_runs.Prepare (asked_by cmd n (login_id s)) ∷ []) e
calls_same actions.Low s layer e = refl
calls_same actions.Link s layer e = refl
calls_same actions.Ring s layer e = refl
calls_same actions.Enable s layer e = refl

-- ---- an action as a whole

-- what it leaves, refused or done
pub record Acted (action : Action) (s : InitiatorState) (r : Option ℕ × Turn) : Type 0 where
  pub lists : parts r.1.1.lists ≡ left_all (calls_if r.0 action s) (parts s.lists)
  pub answered : is_answered r.1.1.marks.pointing ≡ known_if (begins_list r.0 action s) false (is_answered s.marks.pointing)
  pub dead : r.1.1.marks.is_dead ≡ known_if (begins_list r.0 action s) false s.marks.is_dead
  pub states : r.1.1.states ≡ read_begun r.0 action s.counts.acts s.states

asked_acted : (r : Option Asked × Layer Purpose) (action : Action) (o : OutboxState) (s : InitiatorState) → r.1.node ≡ s.layer.node → Allowed action s → IsWhole s.lists.memory → Acted action s (asked_as r action o s)
asked_acted (None, layer) action o s e a whole = record { lists = refl; answered = refl; dead = refl; states = refl }
asked_acted (Some asked, layer) action o s e a whole =
    let d = done_did action o (record s { layer = layer }) a.prepares whole in
    record {
      lists = subst (λ (x : Calls). parts (done_step action o (record s { layer = layer })).1.lists ≡ left_all x (parts s.lists)) (calls_same action s layer e) d.lists;
      answered = d.answered;
      dead = d.dead;
      states = d.states;
    }

demanded_acted : (demand : Option Demand) (action : Action) (o : OutboxState) (s : InitiatorState) → Allowed action s → IsWhole s.lists.memory → Acted action s (demanded_as demand action o s)
demanded_acted None action o s a whole =
    let d = done_did action o s a.prepares whole in record { lists = d.lists; answered = d.answered; dead = d.dead; states = d.states }
demanded_acted (Some demand) action o s a whole =
    asked_acted (asked_for demand s) action o s (asks_node s.layer s.target (wanted_body demand.wanted) demand.purpose) a whole

judged_acted : (r : Option ℕ) (action : Action) (o : OutboxState) (s : InitiatorState) → refusal action (facts_with true s action) ≡ r → IsWhole s.lists.memory → Acted action s (judged_as r action o s)
judged_acted (Some number) action o s e whole = record { lists = refl; answered = refl; dead = refl; states = refl }
judged_acted None action o s e whole = demanded_acted (demand_of action s) action o s (allowed action s e) whole

pub act_leaves : (action : Action) (o : OutboxState) (s : InitiatorState) → IsWhole s.lists.memory → Acted action s (act_step action o s)
unfolding act_step
act_leaves action o s whole = judged_acted (refusal action (facts_with true s action)) action o s refl whole
