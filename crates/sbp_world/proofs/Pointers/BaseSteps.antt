-- An action leaves the response that the session carries; and a read of AGENT_STATE that tells of a list stands behind the answer to its ORB_POINTER write.
use Rattle.sbp_world.proofs.Words.Std.{arith, ◌≡◌, refl, sym, ◌∙◌, ap, ℕ, zero, suc, ◌+◌, ◌==◌, ◌&&◌, nat_eq, Bool, true, false, cond, List, [], ◌∷◌, Option, Some, None, nat_tests, same_Some}
use Rattle.sbp_world.proofs.Words.Wire.{SerialsCount, AreSent, Asked, Layer, OutboxState, empty_outbox, Moment, asked, said, terms, Action, Cmd}
use Rattle.sbp_world.proofs.Words.Initiator.{LoginResponse, PresentList, ListState, high_lists, low_lists, find_in, TicketParts, act_step, append_step, asked_as, asked_for, demand_of, demanded_as, done_step, dummy_for, facts_with, judged_as, link_as, link_step, login_id, low_as, low_step, managed_by, orb_by, pinned_for, put_as, put_step, ring_for, with_running, put_lists, Demand, Purpose, InitiatorState, refusal, is_unwritten, no_marks, carried, pointing, sent}
use Rattle.sbp_world.proofs.Words.Laws.{host_at, told_of, present_list, EachMoment, event_of}
use Rattle.sbp_world.proofs.Words.World.{MayStand, is_answered, is_state, names_answered, own_action, state_list, pointed_list}
use Rattle.sbp_journal.specs.declared.event.Action.TheVariants as actions
use Rattle.sbp_journal.specs.declared.note.Note.TheVariants as notes
use Rattle.sbp_journal.specs.declared.operation.Operation.TheVariants as operations
use Rattle.sbp_world.proofs.Hosts.PointerNotes.{pointer}
use Rattle.sbp_world.proofs.Hosts.Remaining.{serials_behind}
use Rattle.sbp_world.proofs.Pointers.Ages.{moment_closes}
use Rattle.sbp_world.proofs.Pointers.BaseSeats.{kept_carried}
use Rattle.sbp_world.proofs.Pointers.Naming.{Naming, none_some}
use Rattle.sbp_world.proofs.Pointers.Sending.{names, sent_behind}
use Rattle.sbp_world.proofs.Common.{cond_off, untrue}

-- ---- the response that is carried

module _ (c : Option LoginResponse) where
  abbrev Holds : InitiatorState → Type 0
  Holds s = carried s.seat ≡ c

  pick_state : (b : Bool) (x y : InitiatorState) → Holds x → Holds y → Holds (cond b x y)
  pick_state true x y h k = h
  pick_state false x y h k = k

  puts_as : (r : Option TicketParts × ListState) (cmd : Cmd) (o : OutboxState) (s : InitiatorState) → Holds s → Holds (put_as r cmd o s).1
  puts_as (None, lists) cmd o s h = h
  puts_as (Some t, lists) cmd o s h = pick_state (t.number == 0) (record s { lists = lists; marks = record no_marks { first = t.slot } }) (record s { lists = lists }) h h

  lows_as : (r : Option TicketParts × ListState) (o : OutboxState) (s : InitiatorState) → Holds s → Holds (low_as r o s).1
  lows_as (None, lists) o s h = h
  lows_as (Some t, lists) o s h = h

  links_as : (r : Option TicketParts × ListState) (o : OutboxState) (s : InitiatorState) → Holds s → Holds (link_as r o s).1
  links_as (None, lists) o s h = h
  links_as (Some t, lists) o s h = h

  rings_for : (list : Option PresentList) (o : OutboxState) (s : InitiatorState) → Holds s → Holds (ring_for list o s).1
  rings_for None o s h = h
  rings_for (Some list) o s h = pick_state (is_unwritten s.marks.pointing) _ (with_running s) (kept_carried pointing s.seat refl ∙ h) h

  dummies_for : (ticket : Option TicketParts) (o : OutboxState) (s : InitiatorState) → Holds s → Holds (dummy_for ticket o s).1
  dummies_for None o s h = h
  dummies_for (Some t) o s h = h

  pins_for : (ticket : Option TicketParts) (s : InitiatorState) → Holds s → Holds (pinned_for ticket s)
  pins_for None s h = h
  pins_for (Some t) s h = h

  appends : (cmd : Cmd) (o : OutboxState) (s : InitiatorState) → Holds s → Holds (append_step cmd o s).1
  appends cmd o s h =
      let x = put_step cmd o s in
      let y = low_step x.0 x.1 in
      let z = link_step y.0 y.1 in
      rings_for z.1.lists.slots.present z.0 z.1 (links_as (high_lists y.1.lists) y.0 y.1 (lows_as (low_lists x.1.lists) x.0 x.1 (puts_as (put_lists s.lists cmd s.layer.node (login_id s)) cmd o s h)))

  does : (action : Action) (o : OutboxState) (s : InitiatorState) → Holds s → Holds (done_step action o s).1
  unfolding done_step
  does (actions.Put cmd) o s h = puts_as (put_lists s.lists cmd s.layer.node (login_id s)) cmd o s h
  does (actions.Append cmd) o s h = appends cmd o s h
  does actions.Low o s h = lows_as (low_lists s.lists) o s h
  does actions.Link o s h = links_as (high_lists s.lists) o s h
  does actions.Ring o s h = rings_for s.lists.slots.present o s h
  does (actions.Dummy orb) o s h = dummies_for (find_in s.lists.slots.slots orb) o s h
  does actions.Rom o s h = h
  does actions.AgentReset o s h = h
  does actions.State o s h = h
  does actions.Enable o s h = h
  does (actions.Login unit reconnect exclusive password) o s h = kept_carried sent s.seat refl ∙ h
  does (actions.Query unit) o s h = h
  does actions.Reconnect o s h = kept_carried sent s.seat refl ∙ h
  does actions.Logout o s h = kept_carried sent s.seat refl ∙ h
  does (actions.Abort orb) o s h = let v = managed_by (orb_by (actions.Abort orb) s) operations.Abort s in pins_for (find_in v.lists.slots.slots orb) v h
  does actions.AbortSet o s h = h
  does actions.UnitReset o s h = h
  does actions.TargetReset o s h = h

  asks_as : (r : Option Asked × Layer Purpose) (action : Action) (o : OutboxState) (s : InitiatorState) → Holds s → Holds (asked_as r action o s).1.1
  asks_as (None, layer) action o s h = h
  asks_as (Some request, layer) action o s h = does action o (record s { layer = layer }) h

  demands_as : (demand : Option Demand) (action : Action) (o : OutboxState) (s : InitiatorState) → Holds s → Holds (demanded_as demand action o s).1.1
  demands_as None action o s h = does action o s h
  demands_as (Some demand) action o s h = asks_as (asked_for demand s) action o s h

  judges_as : (number : Option ℕ) (action : Action) (o : OutboxState) (s : InitiatorState) → Holds s → Holds (judged_as number action o s).1.1
  judges_as (Some number) action o s h = h
  judges_as None action o s h = demands_as (demand_of action s) action o s h

  acts_hold : (action : Action) (s : InitiatorState) → Holds s → Holds (act_step action empty_outbox s).1.1
  unfolding act_step
  acts_hold action s h = judges_as (refusal action (facts_with true s action)) action empty_outbox s h

pub act_carried : (action : Action) (s : InitiatorState) → carried (act_step action empty_outbox s).1.1.seat ≡ carried s.seat
act_carried action s = acts_hold (carried s.seat) action s refl

-- ---- reads of AGENT_STATE

-- a list whose ORB_POINTER write was answered
pub record IsBehind (past : List Moment) (i n : ℕ) : Type 0 where
  pub other : ℕ
  pub pointed : pointed_list past other i ≡ Some n
  pub answered : is_answered past other ≡ true

told_both : (a b : Bool) (list : Option ℕ) (n : ℕ) → told_of (a && b) list ≡ Some n → (b ≡ true) × (list ≡ Some n)
told_both true true list n e = (refl, e)
told_both true false list n e = none_some e
told_both false b list n e = none_some e

record NamesAnswered (past : List Moment) (p : Option ℕ) : Type 0 where
  serial : ℕ
  is : p ≡ Some serial
  answered : is_answered past serial ≡ true

named_by : (past : List Moment) (p : Option ℕ) → names_answered past p ≡ true → NamesAnswered past p
named_by past None e = untrue e
named_by past (Some serial) e = record { serial = serial; is = refl; answered = e }

-- a packet is a new one
older : (past : List Moment) (i n x serial : ℕ) → Naming past i → serial ≡ (terms past).count + 1 → pointed_list past x i ≡ Some n → nat_eq x serial ≡ false
older past i n x serial k c e = let b = (k.each n x e).below in grind (arith, nat_tests)

sent_behind_by : (past : List Moment) (i j serial generation to : ℕ) (bytes : List ℕ) → serial ≡ (terms past).count + 1 → Naming past i → ((n x : ℕ) → state_list past x i ≡ Some n → IsBehind past i n) → (n x : ℕ) → state_list (said (notes.Sent serial generation (suc j) to bytes) ∷ past) x i ≡ Some n → IsBehind (said (notes.Sent serial generation (suc j) to bytes) ∷ past) i n
sent_behind_by past i j serial generation to bytes c k h n x e = by (nat_eq x serial) (nat_eq i j) refl refl e
  where
    now : List Moment
    now = said (notes.Sent serial generation (suc j) to bytes) ∷ past

    kept : IsBehind past i n → IsBehind (said (notes.Sent serial generation (suc j) to bytes) ∷ past) i n
    kept b = record {
      other = b.other;
      pointed = cond_off (nat_eq b.other serial) _ (pointed_list past b.other i) (older past i n b.other serial k c b.pointed) ∙ b.pointed;
      answered = moment_closes (said (notes.Sent serial generation (suc j) to bytes)) past b.other b.answered;
    }

    new : i ≡ j → told_of (is_state (own_action j (event_of past)) && names_answered past (host_at past j).pointer) (present_list past j) ≡ Some n → IsBehind past i n
    new same f =
        let g = told_both (is_state (own_action j (event_of past))) (names_answered past (host_at past j).pointer) (present_list past j) n f in
        let p = named_by past (host_at past j).pointer g.0 in
        let a = k.named p.serial (ap (pointer past) same ∙ p.is) in
        let list = same_Some a.list n (sym a.present ∙ ap (present_list past) same ∙ g.1) in
        record { other = p.serial; pointed = a.is ∙ ap Some list; answered = p.answered }

    by : (b d : Bool) → nat_eq x serial ≡ b → nat_eq i j ≡ d → cond b (cond d (told_of (is_state (own_action j (event_of past)) && names_answered past (host_at past j).pointer) (present_list past j)) (state_list past x i)) (state_list past x i) ≡ Some n → IsBehind (said (notes.Sent serial generation (suc j) to bytes) ∷ past) i n
    by true true f g q = kept (new (let z : i ≡ j = grind (arith, nat_tests) in z) q)
    by true false f g q = kept (h n x q)
    by false d f g q = kept (h n x q)

moment_behind : (m : Moment) (past : List Moment) (i : ℕ) → SerialsCount (m ∷ past) → Naming past i → ((n x : ℕ) → state_list past x i ≡ Some n → IsBehind past i n) → (n x : ℕ) → state_list (m ∷ past) x i ≡ Some n → IsBehind (m ∷ past) i n
moment_behind (said (notes.Sent serial generation (suc j) to bytes)) past i c k h n x e = sent_behind_by past i j serial generation to bytes c.0 k h n x e
moment_behind (said (notes.Sent serial generation zero to bytes)) past i c k h n x e =
    let b = h n x e in record { other = b.other; pointed = b.pointed; answered = moment_closes (said (notes.Sent serial generation zero to bytes)) past b.other b.answered }
moment_behind (said note) past i c k h n x e = let b = h n x e in record { other = b.other; pointed = b.pointed; answered = moment_closes (said note) past b.other b.answered }
moment_behind (asked line event) past i c k h n x e = let b = h n x e in record { other = b.other; pointed = b.pointed; answered = moment_closes (asked line event) past b.other b.answered }

pub is_behind : (past : List Moment) (i : ℕ) → SerialsCount past → AreSent past → EachMoment (MayStand i) past → (n x : ℕ) → state_list past x i ≡ Some n → IsBehind past i n
is_behind [] i c own s n x e = none_some e
is_behind (m ∷ past) i c own s n x e =
    let d = serials_behind m past c in
    let o = sent_behind m past own in
    moment_behind m past i c (names past i d o s.1) (is_behind past i d o s.1) n x e
