-- What holds of an initiator's marks is kept by its actions.
use Rattle.sbp_world.proofs.Words.Std.{arith, ◌≡◌, refl, sym, ap, ◌∙◌, ℕ, ◌+◌, nat_eq, Bool, true, false, cond, Option, Some, None, Result, Ok, Err}
use Rattle.sbp_world.proofs.Words.Wire.{Asked, Layer, Action, Cmd, Operation, OutboxState, empty_outbox}
use Rattle.sbp_world.proofs.Words.Initiator.{ManagementOrb, ListFault, Link, Linking, PresentList, TicketParts, SlotTable, extended, find_in, high_for, high_step, link_set, list_number, low_for, slot_low, may_prepare, next_ticket, orb_number, prepare_at, prepare_step, waits_high, waits_low, ListState, dummy_lists, high_lists, low_lists, pin_lists, stepped, Seat, goes, pointing, sent, is_stuck_seat, points, Demand, Pointing, Purpose, Running, InitiatorState, ends_list, is_in_live, prepares, refusal, is_list, is_unwritten, no_marks, operation_in, place_of, session_of, act_step, append_step, asked_as, asked_for, demand_of, demanded_as, done_step, dummy_for, facts_with, judged_as, link_as, link_step, login_id, login_orb, low_as, low_step, managed_by, orb_by, pinned_for, put_as, put_step, ring_for, with_running, asked_by, prepared_as, put_lists}
use Rattle.sbp_session.specs.declared.seat.Seat.TheVariants as seats
use Rattle.sbp_journal.specs.declared.event.Action.TheVariants as actions
use Rattle.sbp_journal.specs.declared.operation.Operation.TheVariants as operations
use Rattle.sbp_initiator.specs.declared.purpose.Pointing.TheVariants as pointings
use Rattle.sbp_initiator.proofs.Histories.Actions.{Allowed, Steps, allowed, allowed_layer, dummy_present, is_ok, link_does, list_same, low_does, manage_slots, pins_present, put_does, step_then}
use Rattle.sbp_initiator.proofs.Histories.Effects.{HasMarks}
use Rattle.sbp_world.proofs.Pointers.Pends.{Pend, Pends, listed_pends, moved_pends, unwritten_not}
use Rattle.sbp_world.proofs.Common.{some_none, untrue}

-- ---- a live session

pub live_not_stuck : (seat : Seat) → is_in_live (session_of seat) ≡ true → is_stuck_seat seat ≡ false
live_not_stuck (seats.Out out) e = untrue e
live_not_stuck (seats.Entering entering) e = untrue e
live_not_stuck (seats.Live live) e = refl
live_not_stuck (seats.Held response) e = untrue e
live_not_stuck (seats.Returning response) e = untrue e
live_not_stuck (seats.Leaving response) e = untrue e
live_not_stuck (seats.Stuck origin) e = untrue e

live_points : (seat : Seat) → is_in_live (session_of seat) ≡ true → points (goes pointing seat) ≡ true
unfolding goes
live_points (seats.Out out) e = untrue e
live_points (seats.Entering entering) e = untrue e
live_points (seats.Live live) e = refl
live_points (seats.Held response) e = untrue e
live_points (seats.Returning response) e = untrue e
live_points (seats.Leaving response) e = untrue e
live_points (seats.Stuck origin) e = untrue e

-- ---- an ORB is prepared

-- Another function has the slot of the first ORB of the present list, or of the one that begins.
pub record Places (place new : ℕ → ℕ) (action : Action) (s : InitiatorState) : Type 0 where
  pub same : (n : ℕ) → is_list s.lists.slots.present n ≡ true → new n ≡ place n
  pub begun : prepares action ≡ true → (slot : ℕ) → may_prepare s.lists.slots ≡ Ok slot → s.lists.slots.present ≡ None → new s.lists.slots.lists ≡ slot

number_none : (n : ℕ) → n ≡ 0 → nat_eq n 0 ≡ false → ⊥
number_none n e f = grind arith

number_some : (n m : ℕ) → n ≡ m + 1 → nat_eq n 0 ≡ true → ⊥
number_some n m e f = grind arith

module _ (place : ℕ → ℕ) (seat : Seat) (lists slot : ℕ) (mark : Pointing) (operation : Option Running) (t : TicketParts) where
  put_parts : (present : Option PresentList) (c : Bool) → nat_eq t.number 0 ≡ c → t.number ≡ orb_number present → t.list ≡ list_number present lists → (present ≡ None → place lists ≡ t.slot) → Pends false place seat present slot mark operation → Pends false place seat (Some (extended present t)) (cond c t.slot slot) (cond c pointings.Unwritten mark) operation
  put_parts None true c e f g k = record {
    first = λ n h. sym (g refl) ∙ ap place (sym f ∙ list_same t.list n h);
    counts = λ e f. unwritten_not e;
    beside = λ e. unwritten_not e;
    stays = λ e. untrue e;
  }
  put_parts None false c e f g k = absurd (number_none t.number e c)
  put_parts (Some list) true c e f g k = absurd (number_some t.number list.tail.number e c)
  put_parts (Some list) false c e f g k = record {
    first = λ n h. k.first n (ap (λ (m : ℕ). nat_eq m n) (sym f) ∙ h);
    counts = k.counts;
    beside = k.beside;
    stays = k.stays;
  }

module _ (place : ℕ → ℕ) where
  first_pends : (c : Bool) (first : ℕ) (lists : ListState) (s : InitiatorState) → Pends false place s.seat lists.slots.present (cond c first s.marks.first) (cond c pointings.Unwritten s.marks.pointing) s.operation → Pend false place (cond c (record s { lists = lists; marks = record no_marks { first = first } }) (record s { lists = lists }))
  first_pends true first lists s k = k
  first_pends false first lists s k = k

  -- the list that begins has its first ORB in this slot
  abbrev IsBegun : InitiatorState → Type 0
  IsBegun s = (slot : ℕ) → may_prepare s.lists.slots ≡ Ok slot → s.lists.slots.present ≡ None → place s.lists.slots.lists ≡ slot

  put_by : (r : Result ℕ ListFault) (cmd : Cmd) (o : OutboxState) (s : InitiatorState) → may_prepare s.lists.slots ≡ r → IsBegun s → Pend false place s → Pend false place (put_as (prepared_as (prepare_at r s.lists.slots s.lists.memory (asked_by cmd s.layer.node (login_id s))) s.lists cmd) cmd o s).1
  put_by (Err fault) cmd o s e b k = k
  put_by (Ok slot) cmd o s e b k =
      let t = next_ticket s.lists.slots slot (login_id s) in
      first_pends (nat_eq t.number 0) t.slot (prepared_as (prepare_at (Ok slot) s.lists.slots s.lists.memory (asked_by cmd s.layer.node (login_id s))) s.lists cmd).1 s
      (put_parts place s.seat s.lists.slots.lists s.marks.first s.marks.pointing s.operation t s.lists.slots.present (nat_eq t.number 0) refl refl refl (b slot e) k)

  put_pends : (cmd : Cmd) (o : OutboxState) (s : InitiatorState) → IsBegun s → Pend false place s → Pend false place (put_step cmd o s).1
  unfolding put_lists prepare_step
  put_pends cmd o s b k = put_by (may_prepare s.lists.slots) cmd o s refl b k

  -- ---- it is linked

  linked_list : (present : Option PresentList) (link : Link) (n : ℕ) → is_list (link_set present link) n ≡ is_list present n
  linked_list None link n = refl
  linked_list (Some list) link n = refl

  low_for_pends : (linking : Option Linking) (o : OutboxState) (s : InitiatorState) → Pend false place s → Pend false place (low_as (stepped (low_for linking s.lists.slots s.lists.memory) s.lists) o s).1
  low_for_pends None o s k = k
  low_for_pends (Some linking) o s k = listed_pends _ (λ n. linked_list s.lists.slots.present _ n) k

  low_pends : (o : OutboxState) (s : InitiatorState) → Pend false place s → Pend false place (low_step o s).1
  unfolding low_lists slot_low
  low_pends o s k = low_for_pends (waits_low s.lists.slots.present) o s k

  high_for_pends : (linking : Option Linking) (o : OutboxState) (s : InitiatorState) → Pend false place s → Pend false place (link_as (stepped (high_for linking s.lists.slots s.lists.memory) s.lists) o s).1
  high_for_pends None o s k = k
  high_for_pends (Some linking) o s k = listed_pends _ (λ n. linked_list s.lists.slots.present _ n) k

  link_pends : (o : OutboxState) (s : InitiatorState) → Pend false place s → Pend false place (link_step o s).1
  unfolding high_lists high_step
  link_pends o s k = high_for_pends (waits_high s.lists.slots.present) o s k

  -- ---- a ring

  -- what a ring needs: a live session, and no operation under way that ends a list
  record Rings (s : InitiatorState) : Type 0 where
    live : is_in_live (session_of s.seat) ≡ true
    alone : ends_list (operation_in s.operation) ≡ false

  ring_as : (c : Bool) (s : InitiatorState) → Rings s → Pend false place s → Pend false place (cond c (record s { marks = record s.marks { pointing = pointings.Written }; seat = goes pointing s.seat }) (with_running s))
  ring_as true s r k = record { first = k.first; counts = λ e f. live_points s.seat r.live; beside = λ e. r.alone; stays = λ e. untrue e }
  ring_as false s r k = k

  ring_for_pends : (present : Option PresentList) (o : OutboxState) (s : InitiatorState) → Rings s → Pend false place s → Pend false place (ring_for present o s).1
  ring_for_pends None o s r k = k
  ring_for_pends (Some list) o s r k = ring_as (is_unwritten s.marks.pointing) s r k

  append_pends : (cmd : Cmd) (o : OutboxState) (s : InitiatorState) → is_ok (may_prepare s.lists.slots) ≡ true → HasMarks s.lists.slots.present s.marks.pointing → Rings s → IsBegun s → Pend false place s → Pend false place (append_step cmd o s).1
  append_pends cmd o s e h r b k =
      let x = put_step cmd o s in
      let y = low_step x.0 x.1 in
      let w = link_step y.0 y.1 in
      let c : Steps o s w = step_then o s y w (step_then o s x y (put_does cmd o s e h) (low_does x.0 x.1)) (link_does y.0 y.1) in
      ring_for_pends w.1.lists.slots.present w.0 w.1
      (record { live = ap (λ (x : Seat). is_in_live (session_of x)) c.seat ∙ r.live; alone = ap (λ (x : Option Running). ends_list (operation_in x)) c.operation ∙ r.alone })
      (link_pends y.0 y.1 (low_pends x.0 x.1 (put_pends cmd o s b k)))

  -- ---- an operation begins

  module _ {seat : Seat} {present : Option PresentList} {slot : ℕ} {mark : Pointing} {operation : Option Running} where
    begin_pends : (running : Running) → (mark ≡ pointings.Written → ends_list (Some running.operation) ≡ false) → Pends false place seat present slot mark operation → Pends false place seat present slot mark (Some running)
    begin_pends running f k = record { first = k.first; counts = k.counts; beside = f; stays = k.stays }

    -- none that ends a list begins beside a write of ORB_POINTER
    pub ends_none : {A : Type 0} → is_in_live (session_of seat) ≡ true → points seat ≡ false → Pends false place seat present slot mark operation → mark ≡ pointings.Written → A
    ends_none l p k e = untrue (sym p ∙ k.counts e (live_not_stuck seat l))

  manage_pends : (orb : ManagementOrb) (operation : Operation) (s : InitiatorState) → (s.marks.pointing ≡ pointings.Written → ends_list (Some operation) ≡ false) → Pend false place s → Pend false place (managed_by orb operation s)
  manage_pends orb operation s f k =
      let m = manage_slots s.lists (place_of s.counts.managed) orb in
      let t = managed_by orb operation s in
      listed_pends t.lists.slots.present (λ n. ap (λ (x : SlotTable). is_list x.present n) m) (begin_pends _ f k)

  pinned_pends : (t : Option TicketParts) (s : InitiatorState) → Pend false place s → Pend false place (pinned_for t s)
  pinned_pends None s k = k
  pinned_pends (Some t) s k = listed_pends (pin_lists s.lists t).slots.present (λ n. ap (λ (p : Option PresentList). is_list p n) (pins_present s.lists t)) k

  dummy_pends : (t : Option TicketParts) (o : OutboxState) (s : InitiatorState) → Pend false place s → Pend false place (dummy_for t o s).1
  dummy_pends None o s k = k
  dummy_pends (Some t) o s k = listed_pends (dummy_lists s.lists t).slots.present (λ n. ap (λ (p : Option PresentList). is_list p n) (dummy_present s.lists t)) k

  -- ---- all of them

  done_pends : (action : Action) (o : OutboxState) (s : InitiatorState) → Allowed action s → HasMarks s.lists.slots.present s.marks.pointing → (prepares action ≡ true → IsBegun s) → Pend false place s → Pend false place (done_step action o s).1
  unfolding done_step
  done_pends (actions.Put cmd) o s a h b k = put_pends cmd o s (b refl) k
  done_pends (actions.Append cmd) o s a h b k = append_pends cmd o s (a.prepares refl) h (record { live = a.session; alone = a.steps refl }) (b refl) k
  done_pends actions.Low o s a h b k = low_pends o s k
  done_pends actions.Link o s a h b k = link_pends o s k
  done_pends actions.Ring o s a h b k = ring_for_pends s.lists.slots.present o s (record { live = a.session; alone = a.steps refl }) k
  done_pends (actions.Dummy orb) o s a h b k = dummy_pends (find_in s.lists.slots.slots orb) o s k
  done_pends actions.Rom o s a h b k = begin_pends _ (λ e. refl) k
  done_pends actions.AgentReset o s a h b k = begin_pends _ (λ e. ends_none a.session (a.closes refl) k e) k
  done_pends actions.State o s a h b k = k
  done_pends actions.Enable o s a h b k = begin_pends _ (λ e. refl) k
  done_pends (actions.Login unit reconnect exclusive password) o s a h b k =
      moved_pends sent refl (manage_pends (login_orb s unit reconnect exclusive password) operations.Login s (λ e. refl) k)
  done_pends (actions.Query unit) o s a h b k = manage_pends (orb_by (actions.Query unit) s) operations.Query s (λ e. refl) k
  done_pends actions.Reconnect o s a h b k = moved_pends sent refl (manage_pends (orb_by actions.Reconnect s) operations.Reconnect s (λ e. refl) k)
  done_pends actions.Logout o s a h b k =
      moved_pends sent refl (manage_pends (orb_by actions.Logout s) operations.Logout s (λ e. ends_none a.session (a.closes refl) k e) k)
  done_pends (actions.Abort orb) o s a h b k =
      let t = managed_by (orb_by (actions.Abort orb) s) operations.Abort s in
      pinned_pends (find_in t.lists.slots.slots orb) t (manage_pends (orb_by (actions.Abort orb) s) operations.Abort s (λ e. refl) k)
  done_pends actions.AbortSet o s a h b k = manage_pends (orb_by actions.AbortSet s) operations.AbortSet s (λ e. ends_none a.session (a.closes refl) k e) k
  done_pends actions.UnitReset o s a h b k = manage_pends (orb_by actions.UnitReset s) operations.UnitReset s (λ e. ends_none a.session (a.closes refl) k e) k
  done_pends actions.TargetReset o s a h b k = manage_pends (orb_by actions.TargetReset s) operations.TargetReset s (λ e. ends_none a.session (a.closes refl) k e) k

-- an action that is done
module _ (place new : ℕ → ℕ) (action : Action) (s : InitiatorState) (h : HasMarks s.lists.slots.present s.marks.pointing) (p : Places place new action s) (k : Pend false place s) where
  widened : Pend false new s
  widened = record { first = λ n e. k.first n e ∙ sym (p.same n e); counts = k.counts; beside = k.beside; stays = k.stays }

  asked_pends : (r : Option Asked × Layer Purpose) → Allowed action s → (asked_as r action empty_outbox s).0 ≡ None → Pend false new (asked_as r action empty_outbox s).1.1
  asked_pends (None, layer) a e = some_none 10 e
  asked_pends (Some asked, layer) a e = done_pends new action empty_outbox (record s { layer = layer }) (allowed_layer action s layer a) h p.begun widened

  demanded_pends : (demand : Option Demand) → Allowed action s → (demanded_as demand action empty_outbox s).0 ≡ None → Pend false new (demanded_as demand action empty_outbox s).1.1
  demanded_pends None a e = done_pends new action empty_outbox s a h p.begun widened
  demanded_pends (Some demand) a e = asked_pends (asked_for demand s) a e

  judged_pends : (r : Option ℕ) → refusal action (facts_with true s action) ≡ r → (judged_as r action empty_outbox s).0 ≡ None → Pend false new (judged_as r action empty_outbox s).1.1
  judged_pends (Some number) f e = some_none number e
  judged_pends None f e = demanded_pends (demand_of action s) (allowed action s f) e

  pub act_pends : (act_step action empty_outbox s).0 ≡ None → Pend false new (act_step action empty_outbox s).1.1
  unfolding act_step
  act_pends e = judged_pends (refusal action (facts_with true s action)) refl e
