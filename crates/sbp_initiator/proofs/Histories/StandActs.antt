-- An action keeps what holds while a write of ORB_POINTER or of AGENT_RESET is under way, and asks for such a write only while none is.
use Rattle.std.proofs.Common.{arith, ◌≡◌, refl, sym, ap, subst, ◌∙◌, ℕ, ◌+◌, ◌<◌, nat_eq, Bool, true, false, cond, Option, Some, None, Result, Ok, Err}
use Rattle.orb_layout.specs.declared.management.ManagementOrb.{ManagementOrb}
use Rattle.orb_list.specs.declared.fault.ListFault.{ListFault}
use Rattle.orb_list.specs.declared.list.Link.{Link}
use Rattle.orb_list.specs.declared.list.Linking.{Linking}
use Rattle.orb_list.specs.declared.list.PresentList.{PresentList}
use Rattle.orb_list.specs.Tickets.{TicketParts}
use Rattle.orb_list.specs.Table.{SlotTable, extended, find_in, high_for, high_step, link_set, list_number, lists_begun, low_for, low_step as slot_low, may_prepare, next_ticket, orb_number, prepare_at, prepare_step, waits_high, waits_low}
use Rattle.orb_list.specs.Lists.{ListState, dummy_lists, high_lists, low_lists, pin_lists, stepped}
use Rattle.sbp_session.specs.declared.seat.Seat.{Seat}
use Rattle.sbp_session.specs.declared.seat.Seat.TheVariants as seats
use Rattle.sbp_session.specs.Moves.{goes, pointing, sent}
use Rattle.sbp_session.specs.Seats.{is_stuck_seat, points}
use Rattle.sbp_journal.specs.declared.event.Action.{Action}
use Rattle.sbp_journal.specs.declared.event.Action.TheVariants as actions
use Rattle.sbp_journal.specs.declared.event.Cmd.{Cmd}
use Rattle.sbp_journal.specs.declared.operation.Operation.{Operation}
use Rattle.sbp_journal.specs.declared.operation.Operation.TheVariants as operations
use Rattle.sbp_journal.specs.Outgoings.{OutboxState}
use Rattle.sbp_initiator.specs.declared.purpose.Demand.{Demand}
use Rattle.sbp_initiator.specs.declared.purpose.Pointing.{Pointing}
use Rattle.sbp_initiator.specs.declared.purpose.Pointing.TheVariants as pointings
use Rattle.sbp_initiator.specs.declared.purpose.Purpose.{Purpose}
use Rattle.sbp_initiator.specs.declared.purpose.Purpose.TheVariants as purposes
use Rattle.sbp_initiator.specs.declared.purpose.Running.{Running}
use Rattle.sbp_initiator.specs.declared.state.InitiatorState.{InitiatorState}
use Rattle.sbp_initiator.specs.Refusals.{ends_list, is_in_live}
use Rattle.sbp_initiator.specs.States.{is_answered, is_list, is_unwritten, no_marks, operation_in, place_of, session_of}
use Rattle.sbp_initiator.specs.Acting.{append_step, demand_of, done_step, dummy_for, link_as, link_step, login_id, login_orb, low_as, low_step, managed_by, orb_by, pinned_for, put_as, put_step, register_start, ring_demand, ring_for, ring_step, with_running}
use Rattle.sbp_initiator.specs.Commands.{asked_by, prepared_as, put_lists}
use Rattle.sbp_initiator.specs.Histories.Marks.{answered_list, counted_if, is_read}
use Rattle.sbp_initiator.specs.Histories.Pointing.{IsReset}
use Rattle.sbp_initiator.proofs.Histories.Actions.{Allowed, Steps, append_named, below_more, demand_number, dummy_count, dummy_present, is_ok, link_does, list_same, low_does, manage_slots, pins_count, pins_present, present_named, put_does, ring_purpose, step_then}
use Rattle.sbp_initiator.proofs.Histories.Busy.{Busy, IsFreeFor, idle, points_to, resets_for, busy_of, busy_with, is_busy}
use Rattle.sbp_initiator.proofs.Histories.Effects.{HasMarks, IsBegunList}
use Rattle.sbp_initiator.proofs.Histories.Stands.{Stand, Stands, is_points, listed_stands, moved_stands}

untrue : {A : Type 0} → false ≡ true → A
untrue e = absurd (differ e)
  where
    differ : false ≡ true → ⊥
    differ e = cc

abbrev pub busy_after : Option Demand → Busy → Busy
busy_after None busy = busy
busy_after (Some demand) busy = busy_with demand.purpose busy

-- ---- a live session

live_not_stuck : (seat : Seat) → is_in_live (session_of seat) ≡ true → is_stuck_seat seat ≡ false
live_not_stuck (seats.Out out) e = untrue e
live_not_stuck (seats.Entering entering) e = untrue e
live_not_stuck (seats.Live live) e = refl
live_not_stuck (seats.Held response) e = untrue e
live_not_stuck (seats.Returning response) e = untrue e
live_not_stuck (seats.Leaving response) e = untrue e
live_not_stuck (seats.Stuck origin) e = untrue e

live_points : (seat : Seat) → is_in_live (session_of seat) ≡ true → points (goes pointing seat) ≡ true
unfolding goes
live_points (seats.Out out) e = untrue e
live_points (seats.Entering entering) e = untrue e
live_points (seats.Live live) e = refl
live_points (seats.Held response) e = untrue e
live_points (seats.Returning response) e = untrue e
live_points (seats.Leaving response) e = untrue e
live_points (seats.Stuck origin) e = untrue e

-- ---- an ORB is prepared

number_none : (n : ℕ) → n ≡ 0 → nat_eq n 0 ≡ false → ⊥
number_none n e f = grind arith

number_some : (n m : ℕ) → n ≡ m + 1 → nat_eq n 0 ≡ true → ⊥
number_some n m e f = grind arith

not_begun : (n lists : ℕ) → lists ≡ n → n < lists → ⊥
not_begun n lists e f = omega arith

module _ (busy : Busy) (counted : ℕ → Option ℕ) (seat : Seat) (lists : ℕ) (mark : Pointing) (operation : Option Running) (t : TicketParts) where
  put_parts : (present : Option PresentList) (c : Bool) → nat_eq t.number 0 ≡ c → t.number ≡ orb_number present → t.list ≡ list_number present lists → Stands busy counted seat present lists mark operation → Stands busy counted seat (Some (extended present t)) (lists_begun present lists) (cond c pointings.Unwritten mark) operation
  put_parts None true c e f k = record {
    session = k.session;
    list = λ n g. untrue (k.list n g);
    written = λ n g. untrue (k.list n g);
    beside = λ n g. untrue (k.list n g);
    resets = k.resets;
    below = λ act n g. below_more n lists (k.below act n g);
    answered = λ act n g h. absurd (not_begun n lists (sym f ∙ list_same t.list n h) (k.below act n g));
  }
  put_parts None false c e f k = absurd (number_none t.number e c)
  put_parts (Some list) true c e f k = absurd (number_some t.number list.tail.number e c)
  put_parts (Some list) false c e f k = record {
    session = k.session;
    list = λ n g. ap (λ (m : ℕ). nat_eq m n) f ∙ k.list n g;
    written = k.written;
    beside = k.beside;
    resets = k.resets;
    below = k.below;
    answered = λ act n g h. k.answered act n g (ap (λ (m : ℕ). nat_eq m n) (sym f) ∙ h);
  }

first_stands : (c : Bool) (busy : Busy) (counted : ℕ → Option ℕ) (first : ℕ) (lists : ListState) (s : InitiatorState) → Stands busy counted s.seat lists.slots.present lists.slots.lists (cond c pointings.Unwritten s.marks.pointing) s.operation → Stand busy counted (cond c (record s { lists = lists; marks = record no_marks { first = first } }) (record s { lists = lists }))
first_stands true busy counted first lists s k = k
first_stands false busy counted first lists s k = k

put_as_stands : (r : Result ℕ ListFault) (busy : Busy) (counted : ℕ → Option ℕ) (cmd : Cmd) (o : OutboxState) (s : InitiatorState) → Stand busy counted s → Stand busy counted (put_as (prepared_as (prepare_at r s.lists.slots s.lists.memory (asked_by cmd s.layer.node (login_id s))) s.lists cmd) cmd o s).1
put_as_stands (Err fault) busy counted cmd o s k = k
put_as_stands (Ok slot) busy counted cmd o s k =
    let t = next_ticket s.lists.slots slot (login_id s) in
    first_stands (nat_eq t.number 0) busy counted t.slot (prepared_as (prepare_at (Ok slot) s.lists.slots s.lists.memory (asked_by cmd s.layer.node (login_id s))) s.lists cmd).1 s
    (put_parts busy counted s.seat s.lists.slots.lists s.marks.pointing s.operation t s.lists.slots.present (nat_eq t.number 0) refl refl refl k)

put_stands : (busy : Busy) (counted : ℕ → Option ℕ) (cmd : Cmd) (o : OutboxState) (s : InitiatorState) → Stand busy counted s → Stand busy counted (put_step cmd o s).1
unfolding put_lists prepare_step
put_stands busy counted cmd o s k = put_as_stands (may_prepare s.lists.slots) busy counted cmd o s k

-- ---- an ORB is linked

linked_list : (present : Option PresentList) (link : Link) (n : ℕ) → is_list (link_set present link) n ≡ is_list present n
linked_list None link n = refl
linked_list (Some list) link n = refl

low_for_stands : (linking : Option Linking) (busy : Busy) (counted : ℕ → Option ℕ) (o : OutboxState) (s : InitiatorState) → Stand busy counted s → Stand busy counted (low_as (stepped (low_for linking s.lists.slots s.lists.memory) s.lists) o s).1
low_for_stands None busy counted o s k = k
low_for_stands (Some linking) busy counted o s k = listed_stands _ s.lists.slots.lists (λ n. linked_list s.lists.slots.present _ n) refl k

low_stands : (busy : Busy) (counted : ℕ → Option ℕ) (o : OutboxState) (s : InitiatorState) → Stand busy counted s → Stand busy counted (low_step o s).1
unfolding low_lists slot_low
low_stands busy counted o s k = low_for_stands (waits_low s.lists.slots.present) busy counted o s k

high_for_stands : (linking : Option Linking) (busy : Busy) (counted : ℕ → Option ℕ) (o : OutboxState) (s : InitiatorState) → Stand busy counted s → Stand busy counted (link_as (stepped (high_for linking s.lists.slots s.lists.memory) s.lists) o s).1
high_for_stands None busy counted o s k = k
high_for_stands (Some linking) busy counted o s k = listed_stands _ s.lists.slots.lists (λ n. linked_list s.lists.slots.present _ n) refl k

link_stands : (busy : Busy) (counted : ℕ → Option ℕ) (o : OutboxState) (s : InitiatorState) → Stand busy counted s → Stand busy counted (link_step o s).1
unfolding high_lists high_step
link_stands busy counted o s k = high_for_stands (waits_high s.lists.slots.present) busy counted o s k

-- ---- a ring

-- while an AGENT_RESET is under way, or an ORB_POINTER, no other is asked for
reset_ends : (act : ℕ) (operation : Option Running) → IsReset act operation → ends_list (operation_in operation) ≡ true
reset_ends act None r = absurd r
reset_ends act (Some running) r = ap (λ (x : Operation). ends_list (Some x)) r.1

module _ {counted : ℕ → Option ℕ} {seat : Seat} {present : Option PresentList} {lists : ℕ} {mark : Pointing} {operation : Option Running} where
  unwritten_idle : (b busy : Busy) → busy ≡ b → is_unwritten mark ≡ true → ends_list (operation_in operation) ≡ false → Stands busy counted seat present lists mark operation → b ≡ idle
  unwritten_idle idle busy e u f k = refl
  unwritten_idle (points_to n) busy e u f k =
      untrue (ap is_unwritten (sym (k.written n e)) ∙ u)
  unwritten_idle (resets_for act) busy e u f k = untrue (sym f ∙ reset_ends act operation (k.resets act e))

  live_idle : (b busy : Busy) → busy ≡ b → is_in_live (session_of seat) ≡ true → points seat ≡ false → operation ≡ None → Stands busy counted seat present lists mark operation → b ≡ idle
  live_idle idle busy e l p f k = refl
  live_idle (points_to n) busy e l p f k =
      untrue (sym p ∙ k.session (live_not_stuck seat l) ∙ ap is_points e)
  live_idle (resets_for act) busy e l p f k =
      absurd (subst (λ (r : Option Running). IsReset act r) f (k.resets act e))

list_is : (a n : ℕ) → points_to a ≡ points_to n → a ≡ n
list_is a n e = cc

points_resets : {A : Type 0} (a n : ℕ) → points_to a ≡ resets_for n → A
points_resets a n e = absurd (differ e)
  where
    differ : points_to a ≡ resets_for n → ⊥
    differ e = cc

resets_points : {A : Type 0} (a n : ℕ) → resets_for a ≡ points_to n → A
resets_points a n e = absurd (differ e)
  where
    differ : resets_for a ≡ points_to n → ⊥
    differ e = cc

own_number : (a n : ℕ) → a ≡ n → nat_eq a n ≡ true
own_number a n e = grind arith

not_answered : (mark : Pointing) → is_unwritten mark ≡ true → is_answered mark ≡ true → ⊥
not_answered pointings.Unwritten e f = untrue f
not_answered pointings.Written e f = untrue f
not_answered pointings.Answered e f = untrue e

-- what a ring needs: a live session, and no operation under way that ends a list
record Rings (s : InitiatorState) : Type 0 where
  live : is_in_live (session_of s.seat) ≡ true
  beside : ends_list (operation_in s.operation) ≡ false

ring_as : (c : Bool) (busy : Busy) (counted : ℕ → Option ℕ) (list : PresentList) (s : InitiatorState) → is_unwritten s.marks.pointing ≡ c → s.lists.slots.present ≡ Some list → Rings s → Stand busy counted s → Stand (busy_with (ring_purpose c list.tail.list) busy) counted (cond c (record s { marks = record s.marks { pointing = pointings.Written }; seat = goes pointing s.seat }) (with_running s))
ring_as true busy counted list s u p r k = record {
  session = λ f. live_points s.seat r.live;
  list = λ n g. ap (λ (x : Option PresentList). is_list x n) p ∙ own_number list.tail.list n (list_is list.tail.list n g);
  written = λ n g. refl;
  beside = λ n g. r.beside;
  resets = λ act g. points_resets list.tail.list act g;
  below = k.below;
  answered = λ act n g h. absurd (not_answered s.marks.pointing u (k.answered act n g h));
}
ring_as false busy counted list s u p r k = k

ring_for_stands : (present : Option PresentList) (busy : Busy) (counted : ℕ → Option ℕ) (purpose : Purpose) (n : ℕ) (o : OutboxState) (s : InitiatorState) → s.lists.slots.present ≡ present → is_list present n ≡ true → purpose ≡ ring_purpose (is_unwritten s.marks.pointing) n → Rings s → Stand busy counted s → Stand (busy_with purpose busy) counted (ring_for present o s).1
ring_for_stands None busy counted purpose n o s e p d r k = untrue p
ring_for_stands (Some list) busy counted purpose n o s e p d r k =
    let c = is_unwritten s.marks.pointing in
    subst (λ (x : Purpose). Stand (busy_with x busy) counted (ring_for (Some list) o s).1) (ap (ring_purpose c) (list_same list.tail.list n p) ∙ sym d)
    (ring_as c busy counted list s refl e r k)

ring_stands : (busy : Busy) (counted : ℕ → Option ℕ) (purpose : Purpose) (n : ℕ) (o : OutboxState) (s : InitiatorState) → is_list s.lists.slots.present n ≡ true → purpose ≡ ring_purpose (is_unwritten s.marks.pointing) n → Rings s → Stand busy counted s → Stand (busy_with purpose busy) counted (ring_step o s).1
ring_stands busy counted purpose n o s p d r k = ring_for_stands s.lists.slots.present busy counted purpose n o s refl p d r k

append_stands : (busy : Busy) (counted : ℕ → Option ℕ) (cmd : Cmd) (o : OutboxState) (s : InitiatorState) → is_ok (may_prepare s.lists.slots) ≡ true → HasMarks s.lists.slots.present s.marks.pointing → Rings s → Stand busy counted s → Stand (busy_with (ring_demand s).purpose busy) counted (append_step cmd o s).1
append_stands busy counted cmd o s e h r k =
    let x = put_step cmd o s in
    let y = low_step x.0 x.1 in
    let w = link_step y.0 y.1 in
    let b : Steps o s y = step_then o s x y (put_does cmd o s e h) (low_does x.0 x.1) in
    let c : Steps o s w = step_then o s y w b (link_does y.0 y.1) in
    let n = list_number s.lists.slots.present s.lists.slots.lists in
    ring_stands busy counted (ring_demand s).purpose n w.0 w.1 (append_named cmd o s e) (demand_number s ∙ ap (λ (b : Bool). ring_purpose b n) (sym c.unwritten))
    (record { live = ap (λ (x : Seat). is_in_live (session_of x)) c.seat ∙ r.live; beside = ap (λ (x : Option Running). ends_list (operation_in x)) c.operation ∙ r.beside })
    (link_stands busy counted y.0 y.1 (low_stands busy counted x.0 x.1 (put_stands busy counted cmd o s k)))

-- ---- an operation begins

module _ {busy : Busy} {counted : ℕ → Option ℕ} {seat : Seat} {present : Option PresentList} {lists : ℕ} {mark : Pointing} {operation : Option Running} where
  begin_stands : (running : Running) → operation ≡ None → ((n : ℕ) → busy ≡ points_to n → ends_list (Some running.operation) ≡ false) → Stands busy counted seat present lists mark operation → Stands busy counted seat present lists mark (Some running)
  begin_stands running e f k = record {
    session = k.session;
    list = k.list;
    written = k.written;
    beside = f;
    resets = λ act g. absurd (subst (λ (r : Option Running). IsReset act r) e (k.resets act g));
    below = k.below;
    answered = k.answered;
  }

  -- an operation that ends a list begins beside no write of ORB_POINTER
  closes_stand : is_in_live (session_of seat) ≡ true → points seat ≡ false → Stands busy counted seat present lists mark operation → (n : ℕ) → busy ≡ points_to n → true ≡ false
  closes_stand l p k n g = untrue (sym p ∙ k.session (live_not_stuck seat l) ∙ ap is_points g)

manage_stands : (busy : Busy) (counted : ℕ → Option ℕ) (orb : ManagementOrb) (operation : Operation) (s : InitiatorState) → s.operation ≡ None → ((n : ℕ) → busy ≡ points_to n → ends_list (Some operation) ≡ false) → Stand busy counted s → Stand busy counted (managed_by orb operation s)
manage_stands busy counted orb operation s e f k =
    let m = manage_slots s.lists (place_of s.counts.managed) orb in
    let t = managed_by orb operation s in
    listed_stands t.lists.slots.present t.lists.slots.lists (λ n. ap (λ (x : SlotTable). is_list x.present n) m) (ap (λ (x : SlotTable). x.lists) m) (begin_stands _ e f k)

pinned_stands : (t : Option TicketParts) (busy : Busy) (counted : ℕ → Option ℕ) (s : InitiatorState) → Stand busy counted s → Stand busy counted (pinned_for t s)
pinned_stands None busy counted s k = k
pinned_stands (Some t) busy counted s k =
    listed_stands (pin_lists s.lists t).slots.present (pin_lists s.lists t).slots.lists (λ n. ap (λ (p : Option PresentList). is_list p n) (pins_present s.lists t)) (pins_count s.lists t) k

dummy_stands : (t : Option TicketParts) (busy : Busy) (counted : ℕ → Option ℕ) (o : OutboxState) (s : InitiatorState) → Stand busy counted s → Stand busy counted (dummy_for t o s).1
dummy_stands None busy counted o s k = k
dummy_stands (Some t) busy counted o s k =
    listed_stands (dummy_lists s.lists t).slots.present (dummy_lists s.lists t).slots.lists (λ n. ap (λ (p : Option PresentList). is_list p n) (dummy_present s.lists t)) (dummy_count s.lists t) k

-- the write of AGENT_RESET is asked for
agent_stands : (busy : Busy) (counted : ℕ → Option ℕ) (s : InitiatorState) → Allowed actions.AgentReset s → Stand busy counted s → Stand (resets_for s.counts.acts) counted (register_start actions.AgentReset s)
agent_stands busy counted s a k = record {
  session = λ f. a.closes refl;
  list = λ n g. resets_points s.counts.acts n g;
  written = λ n g. resets_points s.counts.acts n g;
  beside = λ n g. resets_points s.counts.acts n g;
  resets = λ act g. (act_is s.counts.acts act g, refl);
  below = k.below;
  answered = k.answered;
}
  where
    act_is : (a n : ℕ) → resets_for a ≡ resets_for n → a ≡ n
    act_is a n e = cc

-- ---- a read of AGENT_STATE

none_some : {A : Type 0} {n : ℕ} → None ≡ Some n → A
none_some e = absurd (differ e)
  where
    differ : {n : ℕ} → None ≡ Some n → ⊥
    differ e = cc

answered_is : (b : Bool) (present : Option PresentList) (lists n : ℕ) → IsBegunList present lists → answered_list b present ≡ Some n → (b ≡ true) × (n < lists)
answered_is true None lists n h e = none_some e
answered_is true (Some list) lists n h e = (refl, subst (λ (m : ℕ). m < lists) (some_is list.tail.list n e) h)
  where
    some_is : (a b : ℕ) → Some a ≡ Some b → a ≡ b
    some_is a b e = cc
answered_is false present lists n h e = none_some e

module _ (busy : Busy) (counted : ℕ → Option ℕ) (s : InitiatorState) (h : IsBegunList s.lists.slots.present s.lists.slots.lists) (k : Stand busy counted s) where
  abbrev list_now : Option ℕ
  list_now = answered_list (is_answered s.marks.pointing) s.lists.slots.present

  read_below : (c : Bool) (act n : ℕ) → cond c list_now (counted act) ≡ Some n → n < s.lists.slots.lists
  read_below true act n e = (answered_is (is_answered s.marks.pointing) s.lists.slots.present s.lists.slots.lists n h e).1
  read_below false act n e = k.below act n e

  read_answered : (c : Bool) (act n : ℕ) → cond c list_now (counted act) ≡ Some n → is_list s.lists.slots.present n ≡ true → is_answered s.marks.pointing ≡ true
  read_answered true act n e f = (answered_is (is_answered s.marks.pointing) s.lists.slots.present s.lists.slots.lists n h e).0
  read_answered false act n e f = k.answered act n e f

  read_stands : Stand busy (counted_if true list_now s.counts.acts counted) s
  read_stands = record {
    session = k.session;
    list = k.list;
    written = k.written;
    beside = k.beside;
    resets = k.resets;
    below = λ act n e. read_below (nat_eq act s.counts.acts) act n e;
    answered = λ act n e f. read_answered (nat_eq act s.counts.acts) act n e f;
  }

-- ---- all of them

abbrev pub counted_then : Action → InitiatorState → (ℕ → Option ℕ) → ℕ → Option ℕ
counted_then action s counted n =
    counted_if (is_read action) (answered_list (is_answered s.marks.pointing) s.lists.slots.present) s.counts.acts counted n

pub done_stands : (busy : Busy) (counted : ℕ → Option ℕ) (action : Action) (o : OutboxState) (s : InitiatorState) → Allowed action s → HasMarks s.lists.slots.present s.marks.pointing → IsBegunList s.lists.slots.present s.lists.slots.lists → Stand busy counted s → Stand (busy_after (demand_of action s) busy) (counted_then action s counted) (done_step action o s).1
unfolding done_step
done_stands busy counted (actions.Put cmd) o s a h b k = put_stands busy counted cmd o s k
done_stands busy counted (actions.Append cmd) o s a h b k =
    append_stands busy counted cmd o s (a.prepares refl) h (record { live = a.session; beside = a.steps refl }) k
done_stands busy counted actions.Low o s a h b k = low_stands busy counted o s k
done_stands busy counted actions.Link o s a h b k = link_stands busy counted o s k
done_stands busy counted actions.Ring o s a h b k =
    ring_stands busy counted (ring_demand s).purpose (list_number s.lists.slots.present s.lists.slots.lists) o s (present_named s.lists.slots.present s.lists.slots.lists (a.rings refl)) (demand_number s) (record { live = a.session; beside = a.steps refl }) k
done_stands busy counted (actions.Dummy orb) o s a h b k = dummy_stands (find_in s.lists.slots.slots orb) busy counted o s k
done_stands busy counted actions.Rom o s a h b k = begin_stands _ a.free (λ n g. refl) k
done_stands busy counted actions.AgentReset o s a h b k = agent_stands busy counted s a k
done_stands busy counted actions.State o s a h b k = read_stands busy counted s b k
done_stands busy counted actions.Enable o s a h b k = begin_stands _ a.free (λ n g. refl) k
done_stands busy counted (actions.Login unit reconnect exclusive password) o s a h b k =
    moved_stands sent refl (manage_stands busy counted (login_orb s unit reconnect exclusive password) operations.Login s a.free (λ n g. refl) k)
done_stands busy counted (actions.Query unit) o s a h b k = manage_stands busy counted (orb_by (actions.Query unit) s) operations.Query s a.free (λ n g. refl) k
done_stands busy counted actions.Reconnect o s a h b k =
    moved_stands sent refl (manage_stands busy counted (orb_by actions.Reconnect s) operations.Reconnect s a.free (λ n g. refl) k)
done_stands busy counted actions.Logout o s a h b k =
    moved_stands sent refl (manage_stands busy counted (orb_by actions.Logout s) operations.Logout s a.free (closes_stand a.session (a.closes refl) k) k)
done_stands busy counted (actions.Abort orb) o s a h b k =
    let t = managed_by (orb_by (actions.Abort orb) s) operations.Abort s in
    pinned_stands (find_in t.lists.slots.slots orb) busy counted t (manage_stands busy counted (orb_by (actions.Abort orb) s) operations.Abort s a.free (λ n g. refl) k)
done_stands busy counted actions.AbortSet o s a h b k =
    manage_stands busy counted (orb_by actions.AbortSet s) operations.AbortSet s a.free (closes_stand a.session (a.closes refl) k) k
done_stands busy counted actions.UnitReset o s a h b k =
    manage_stands busy counted (orb_by actions.UnitReset s) operations.UnitReset s a.free (closes_stand a.session (a.closes refl) k) k
done_stands busy counted actions.TargetReset o s a h b k =
    manage_stands busy counted (orb_by actions.TargetReset s) operations.TargetReset s a.free (closes_stand a.session (a.closes refl) k) k

-- ---- such a write is asked for while none is under way

plain_free : (busy : Busy) (purpose : Purpose) → is_busy (busy_of purpose) ≡ false → IsFreeFor purpose busy
plain_free busy purpose e = record { free = λ f. untrue (sym e ∙ f) }

free_is : (busy : Busy) (x demand : Demand) → Some x ≡ Some demand → IsFreeFor x.purpose busy → IsFreeFor demand.purpose busy
free_is busy x demand e f = subst (λ (d : Demand). IsFreeFor d.purpose busy) (demand_is x demand e) f
  where
    demand_is : (a b : Demand) → Some a ≡ Some b → a ≡ b
    demand_is a b e = cc

none_demand : {A : Type 0} (demand : Demand) → None ≡ Some demand → A
none_demand demand e = absurd (differ demand e)
  where
    differ : (demand : Demand) → None ≡ Some demand → ⊥
    differ demand e = cc

ring_free_as : (c : Bool) (busy : Busy) (counted : ℕ → Option ℕ) (n : ℕ) (s : InitiatorState) → is_unwritten s.marks.pointing ≡ c → Rings s → Stand busy counted s → IsFreeFor (ring_purpose c n) busy
ring_free_as true busy counted n s u r k = record { free = λ f. unwritten_idle busy busy refl u r.beside k }
ring_free_as false busy counted n s u r k = plain_free busy purposes.Doorbell refl

ring_free : (busy : Busy) (counted : ℕ → Option ℕ) (s : InitiatorState) → Rings s → Stand busy counted s → IsFreeFor (ring_demand s).purpose busy
ring_free busy counted s r k =
    subst (λ (x : Purpose). IsFreeFor x busy) (sym (demand_number s)) (ring_free_as (is_unwritten s.marks.pointing) busy counted (list_number s.lists.slots.present s.lists.slots.lists) s refl r k)

pub demand_free : (busy : Busy) (counted : ℕ → Option ℕ) (action : Action) (s : InitiatorState) (demand : Demand) → Allowed action s → Stand busy counted s → demand_of action s ≡ Some demand → IsFreeFor demand.purpose busy
demand_free busy counted actions.Rom s demand a k e = free_is busy _ demand e (plain_free busy _ refl)
demand_free busy counted (actions.Login unit reconnect exclusive password) s demand a k e = free_is busy _ demand e (plain_free busy _ refl)
demand_free busy counted (actions.Query unit) s demand a k e = free_is busy _ demand e (plain_free busy _ refl)
demand_free busy counted actions.Reconnect s demand a k e = free_is busy _ demand e (plain_free busy _ refl)
demand_free busy counted actions.Logout s demand a k e = free_is busy _ demand e (plain_free busy _ refl)
demand_free busy counted (actions.Abort orb) s demand a k e = free_is busy _ demand e (plain_free busy _ refl)
demand_free busy counted actions.AbortSet s demand a k e = free_is busy _ demand e (plain_free busy _ refl)
demand_free busy counted actions.UnitReset s demand a k e = free_is busy _ demand e (plain_free busy _ refl)
demand_free busy counted actions.TargetReset s demand a k e = free_is busy _ demand e (plain_free busy _ refl)
demand_free busy counted actions.AgentReset s demand a k e =
    free_is busy _ demand e (record { free = λ f. live_idle busy busy refl a.session (a.closes refl) a.free k })
demand_free busy counted actions.State s demand a k e = free_is busy _ demand e (plain_free busy _ refl)
demand_free busy counted (actions.Dummy orb) s demand a k e = none_demand demand e
demand_free busy counted (actions.Put cmd) s demand a k e = none_demand demand e
demand_free busy counted (actions.Append cmd) s demand a k e =
    free_is busy _ demand e (ring_free busy counted s (record { live = a.session; beside = a.steps refl }) k)
demand_free busy counted actions.Low s demand a k e = none_demand demand e
demand_free busy counted actions.Link s demand a k e = none_demand demand e
demand_free busy counted actions.Ring s demand a k e =
    free_is busy _ demand e (ring_free busy counted s (record { live = a.session; beside = a.steps refl }) k)
demand_free busy counted actions.Enable s demand a k e = free_is busy _ demand e (plain_free busy _ refl)
