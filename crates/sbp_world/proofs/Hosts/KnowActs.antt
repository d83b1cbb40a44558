-- An action that is done, and the core of the initiator's host.
use Rattle.sbp_world.proofs.Words.Std.{◌≡◌, refl, sym, ◌∙◌, ap, subst, ℕ, suc, ◌+◌, ◌==◌, ◌||◌, not, nat_eq, Bool, true, false, cond, List, [], ◌∷◌, ◌++◌, Option, Some, None}
use Rattle.sbp_world.proofs.Words.Wire.{Asked, Layer, Moment, said, Terms, terms, OutboxState, empty_outbox, buffer_of, Action, Cmd, NoteBuffer, Outgoing}
use Rattle.sbp_world.proofs.Words.Initiator.{PresentList, ListState, dummy_lists, high_lists, low_lists, find_in, list_number, may_prepare, TicketParts, Seat, goes, pointing, sent, points, Demand, Purpose, InitiatorState, act_step, append_step, asked_as, asked_for, counted, demand_of, demanded_as, done_step, dummy_for, facts_with, judged_as, link_as, link_step, login_id, low_as, low_step, managed_by, orb_by, pinned_for, put_as, put_step, ring_for, with_running, put_lists, Turn, told, is_in_held, is_in_live, is_in_out, refusal, is_list, is_unwritten, last_linked, no_marks, place_of, session_of}
use Rattle.sbp_world.proofs.Words.Laws.{event_of, host_at}
use Rattle.sbp_world.proofs.Words.World.{behind, Core, host_core, operation_by, own_core, session_in}
use Rattle.sbp_journal.specs.declared.event.Action.TheVariants as actions
use Rattle.sbp_journal.specs.declared.event.Event.TheVariants as events
use Rattle.sbp_journal.specs.declared.note.Note.TheVariants as notes
use Rattle.sbp_journal.specs.declared.operation.Operation.TheVariants as operations
use Rattle.sbp_session.specs.declared.seat.Seat.TheVariants as seats
use Rattle.sbp_initiator.specs.declared.purpose.Pointing.TheVariants as pointings
use Rattle.sbp_initiator.proofs.Histories.Actions.{append_named, is_ok, present_named}
use Rattle.sbp_laws.specs.Hosts as hosts
use Rattle.sbp_world.proofs.Hosts.Acts.{Goes, goes_on}
use Rattle.sbp_world.proofs.Hosts.Asked.{IsRequest}
use Rattle.sbp_world.proofs.Hosts.Cores.{append_told, apart_core, asks_core, begun_by, list_first, list_in, list_later, rung_as, rung_by, started_by}
use Rattle.sbp_world.proofs.Hosts.Knowing.{Known, Sits, seated, still_known, tell, tell_plain}
use Rattle.sbp_world.proofs.Hosts.Requested.{done_sends}
use Rattle.sbp_world.proofs.Common.{some_none, untrue}

-- ---- the session of an action

pointing_session : (seat : Seat) → session_in (goes pointing seat) ≡ session_in seat
unfolding goes
pointing_session (seats.Out out) = refl
pointing_session (seats.Entering entering) = refl
pointing_session (seats.Live live) = refl
pointing_session (seats.Held response) = refl
pointing_session (seats.Returning response) = refl
pointing_session (seats.Leaving response) = refl
pointing_session (seats.Stuck origin) = refl

enters : (seat : Seat) → is_in_out (session_of seat) ≡ true → session_in (goes sent seat) ≡ hosts.entering
unfolding goes
enters (seats.Out out) e = refl
enters (seats.Entering entering) e = untrue e
enters (seats.Live live) e = untrue e
enters (seats.Held response) e = untrue e
enters (seats.Returning response) e = untrue e
enters (seats.Leaving response) e = untrue e
enters (seats.Stuck origin) e = untrue e

returns : (seat : Seat) → is_in_held (session_of seat) ≡ true → session_in (goes sent seat) ≡ hosts.returning
unfolding goes
returns (seats.Out out) e = untrue e
returns (seats.Entering entering) e = untrue e
returns (seats.Live live) e = untrue e
returns (seats.Held response) e = refl
returns (seats.Returning response) e = untrue e
returns (seats.Leaving response) e = untrue e
returns (seats.Stuck origin) e = untrue e

-- a logout waits until no ORB_POINTER write is under way
leaves_by : (pointing : Bool) (live other : Seat) → pointing ≡ false → session_in (cond pointing live other) ≡ session_in other
leaves_by true live other e = untrue (sym e)
leaves_by false live other e = refl

leaves : (seat : Seat) → is_in_live (session_of seat) ≡ true → points seat ≡ false → session_in (goes sent seat) ≡ hosts.leaving
unfolding goes
leaves (seats.Out out) e p = untrue e
leaves (seats.Entering entering) e p = untrue e
leaves (seats.Live live) e p = leaves_by live.pointing (seats.Live live) (seats.Leaving live.response) p
leaves (seats.Held response) e p = untrue e
leaves (seats.Returning response) e p = untrue e
leaves (seats.Leaving response) e p = untrue e
leaves (seats.Stuck origin) e p = untrue e

pub not_not : (b : Bool) → not b ≡ false → b ≡ true
not_not true e = refl
not_not false e = untrue (sym e)

second_of : (a b c : Bool) → ((a || b) || c) ≡ false → b ≡ false
second_of true b c e = untrue (sym e)
second_of false true c e = untrue (sym e)
second_of false false c e = refl

-- ---- the steps of a list

module _ (past : List Moment) where
  -- the first ORB of a list begins it
  begins_known : (list number slot : ℕ) (cdb : List ℕ) (buffer : NoteBuffer) (o : OutboxState) (s u : InitiatorState) → u.number ≡ s.number → own_core u ≡ own_core s → (b : Bool) → nat_eq number 0 ≡ b → Known past (o, s) → Known past (told o (notes.Append s.number list number cdb buffer), cond b (record u { marks = record no_marks { first = slot } }) u)
  begins_known list number slot cdb buffer o s u n c true e k =
      let note = notes.Append s.number list number cdb buffer in
      tell past note o s (record u { marks = record no_marks { first = slot } }) (list_in number) n (list_first number e (own_core s) ∙ ap (list_in 0) (sym c)) (λ ms. append_told list number cdb buffer ms s.number)
      (λ ms j f. apart_core note ms j (ap not f)) (λ ms. refl) (subst (λ (x : Core). Sits (operation_by x.work) x.session) (sym c) k.sits) k
  begins_known list number slot cdb buffer o s u n c false e k =
      let note = notes.Append s.number list number cdb buffer in
      tell past note o s u (list_in number) n (list_later number e (own_core s) ∙ sym c) (λ ms. append_told list number cdb buffer ms s.number)
      (λ ms j f. apart_core note ms j (ap not f)) (λ ms. refl) (subst (λ (x : Core). Sits (operation_by x.work) x.session) (sym c) k.sits) k

  put_known : (r : Option TicketParts × ListState) (cmd : Cmd) (o : OutboxState) (s : InitiatorState) → Known past (o, s) → Known past (put_as r cmd o s)
  put_known (None, lists) cmd o s k = still_known past o o s (record s { lists = lists }) refl refl refl k
  put_known (Some t, lists) cmd o s k = begins_known t.list t.number t.slot cmd.cdb (buffer_of cmd) o s (record s { lists = lists }) refl refl (t.number == 0) refl k

  low_known : (r : Option TicketParts × ListState) (o : OutboxState) (s : InitiatorState) → Known past (o, s) → Known past (low_as r o s)
  low_known (None, lists) o s k = still_known past o o s (record s { lists = lists }) refl refl refl k
  low_known (Some t, lists) o s k = tell_plain past (notes.Low s.number t.list t.number) o s (record s { lists = lists }) refl refl (λ ms j. refl) (λ ms. refl) k

  link_known : (r : Option TicketParts × ListState) (o : OutboxState) (s : InitiatorState) → Known past (o, s) → Known past (link_as r o s)
  link_known (None, lists) o s k = still_known past o o s (record s { lists = lists }) refl refl refl k
  link_known (Some t, lists) o s k = tell_plain past (notes.Linked s.number t.list t.number) o s (record s { lists = lists }) refl refl (λ ms j. refl) (λ ms. refl) k

  dummy_known : (found : Option TicketParts) (o : OutboxState) (s : InitiatorState) → Known past (o, s) → Known past (dummy_for found o s)
  dummy_known None o s k = k
  dummy_known (Some t) o s k = tell_plain past (notes.Dummied s.number t.list t.number) o s (record s { lists = dummy_lists s.lists t }) refl refl (λ ms j. refl) (λ ms. refl) k

-- ---- an action that is done

-- what its request makes of the core that its notes left
pub record Starts (past : List Moment) (action : Action) (t : Turn) : Type 0 where
  pub before : InitiatorState
  pub known : Known past (t.0, before)
  pub number : t.1.number ≡ before.number
  pub begun : started_by action (own_core before) ≡ own_core t.1
  pub sits : Sits (operation_by (own_core t.1).work) (own_core t.1).session

step_starts : (past : List Moment) (action : Action) (t : Turn) → ((c : Core) → started_by action c ≡ c) → Known past t → Starts past action t
step_starts past action t e k = record { before = t.1; known = k; number = refl; begun = e (own_core t.1); sits = k.sits }

-- ---- a ring

-- what it leaves: ORB_POINTER counts as written, or the running number is used up
abbrev pointing_on : InitiatorState → InitiatorState
pointing_on s = record s { marks = record s.marks { pointing = pointings.Written }; seat = goes pointing s.seat }

module _ (past : List Moment) (action : Action) (rings : (c : Core) → started_by action c ≡ rung_by c) where
  ring_by : (b : Bool) (o : OutboxState) (s : InitiatorState) → is_unwritten s.marks.pointing ≡ b → Known past (o, s) → Starts past action (o, cond b (pointing_on s) (with_running s))
  ring_by true o s e k =
      let c = own_core s in
      record {
        before = s;
        known = k;
        number = refl;
        begun = rings c ∙ ap (λ (b : Bool). rung_as (not b) c) e ∙ ap (λ x. seated x (rung_as false c)) (sym (pointing_session s.seat));
        sits = subst (λ x. Sits (operation_by c.work) x) (sym (pointing_session s.seat)) k.sits;
      }
  ring_by false o s e k = record {
    before = s;
    known = k;
    number = refl;
    begun = rings (own_core s) ∙ ap (λ (b : Bool). rung_as (not b) (own_core s)) e;
    sits = k.sits;
  }

  ring_starts : (found : Option PresentList) (n : ℕ) (o : OutboxState) (s : InitiatorState) → is_list found n ≡ true → Known past (o, s) → Starts past action (ring_for found o s)
  ring_starts None n o s e k = untrue e
  ring_starts (Some list) n o s e k =
      let note = notes.Rung s.number list.tail.list (last_linked list) in
      ring_by (is_unwritten s.marks.pointing) (told o note) s refl (tell_plain past note o s s refl refl (λ ms j. refl) (λ ms. refl) k)

append_starts : (past : List Moment) (cmd : Cmd) (o : OutboxState) (s : InitiatorState) → is_ok (may_prepare s.lists.slots) ≡ true → Known past (o, s) → Starts past (actions.Append cmd) (append_step cmd o s)
append_starts past cmd o s e k =
    let a = put_step cmd o s in
    let b = low_step a.0 a.1 in
    let c = link_step b.0 b.1 in
    let now = link_known past (high_lists b.1.lists) b.0 b.1 (low_known past (low_lists a.1.lists) a.0 a.1 (put_known past (put_lists s.lists cmd s.layer.node (login_id s)) cmd o s k)) in
    ring_starts past (actions.Append cmd) (λ x. refl) c.1.lists.slots.present (list_number s.lists.slots.present s.lists.slots.lists) c.0 c.1 (append_named cmd o s e) now

module _ (past : List Moment) (o : OutboxState) (s : InitiatorState) (k : Known past (o, s)) where
  starts_with : (action : Action) (u : InitiatorState) → u.number ≡ s.number → started_by action (own_core s) ≡ own_core u → Sits (operation_by (own_core u).work) (own_core u).session → Starts past action (o, u)
  starts_with action u n e sits = record { before = s; known = k; number = n; begun = e; sits = sits }

  -- the pin of an abort is no part of it
  pinned_starts : (orb : ℕ) (v : InitiatorState) → v.number ≡ s.number → begun_by (Some operations.Abort) (own_core s) ≡ own_core v → Sits (operation_by (own_core v).work) (own_core v).session → (found : Option TicketParts) → Starts past (actions.Abort orb) (o, pinned_for found v)
  pinned_starts orb v n e sits None = starts_with (actions.Abort orb) v n e sits
  pinned_starts orb v n e sits (Some t) = starts_with (actions.Abort orb) _ n e sits

  pub done_starts : (action : Action) → Goes action s → Starts past action (done_step action o s)
  unfolding done_step
  done_starts (actions.Put cmd) g = step_starts past (actions.Put cmd) _ (λ c. refl) (put_known past (put_lists s.lists cmd s.layer.node (login_id s)) cmd o s k)
  done_starts (actions.Append cmd) g = append_starts past cmd o s (g.allowed.prepares refl) k
  done_starts actions.Low g = step_starts past actions.Low _ (λ c. refl) (low_known past (low_lists s.lists) o s k)
  done_starts actions.Link g = step_starts past actions.Link _ (λ c. refl) (link_known past (high_lists s.lists) o s k)
  done_starts actions.Ring g =
      ring_starts past actions.Ring (λ c. refl) s.lists.slots.present (list_number s.lists.slots.present s.lists.slots.lists) o s (present_named s.lists.slots.present s.lists.slots.lists (g.allowed.rings refl)) k
  done_starts (actions.Dummy orb) g = step_starts past (actions.Dummy orb) _ (λ c. refl) (dummy_known past (find_in s.lists.slots.slots orb) o s k)
  done_starts actions.State g = starts_with actions.State _ refl refl k.sits
  done_starts actions.Rom g = starts_with actions.Rom _ refl refl tt
  done_starts actions.AgentReset g = starts_with actions.AgentReset _ refl refl tt
  done_starts actions.Enable g = starts_with actions.Enable _ refl refl tt
  done_starts (actions.Login unit reconnect exclusive password) g =
      let e = enters s.seat (not_not (is_in_out (session_of s.seat)) g.rows.wrong_state) in
      starts_with (actions.Login unit reconnect exclusive password) _ refl
      (ap (λ x. record { session = x; work = Some (record { operation = operations.Login; place = Some (place_of s.counts.managed) }); logins = s.counts.logins + 1; writes = s.counts.managed + 1; running = s.counts.running; wrote_pointer = not (is_unwritten s.marks.pointing) }) (sym e))
      (subst (λ x. Sits (Some operations.Login) x) (sym e) tt)
  done_starts (actions.Query unit) g = starts_with (actions.Query unit) _ refl refl tt
  done_starts actions.Reconnect g =
      let e = returns s.seat (not_not (is_in_held (session_of s.seat)) g.rows.wrong_state) in
      starts_with actions.Reconnect _ refl
      (ap (λ x. record { session = x; work = Some (record { operation = operations.Reconnect; place = Some (place_of s.counts.managed) }); logins = s.counts.logins; writes = s.counts.managed + 1; running = s.counts.running; wrote_pointer = not (is_unwritten s.marks.pointing) }) (sym e))
      (subst (λ x. Sits (Some operations.Reconnect) x) (sym e) tt)
  done_starts actions.Logout g =
      let e = leaves s.seat (not_not (is_in_live (session_of s.seat)) g.rows.wrong_state) (second_of _ (points s.seat) _ g.rows.waiting) in
      starts_with actions.Logout _ refl
      (ap (λ x. record { session = x; work = Some (record { operation = operations.Logout; place = Some (place_of s.counts.managed) }); logins = s.counts.logins; writes = s.counts.managed + 1; running = s.counts.running; wrote_pointer = not (is_unwritten s.marks.pointing) }) (sym e))
      (subst (λ x. Sits (Some operations.Logout) x) (sym e) tt)
  done_starts (actions.Abort orb) g =
      let v = managed_by (orb_by (actions.Abort orb) s) operations.Abort s in
      pinned_starts orb v refl refl tt (find_in v.lists.slots.slots orb)
  done_starts actions.AbortSet g = starts_with actions.AbortSet _ refl refl tt
  done_starts actions.UnitReset g = starts_with actions.UnitReset _ refl refl tt
  done_starts actions.TargetReset g = starts_with actions.TargetReset _ refl refl tt

-- ---- an action as a whole

-- what it left, with and without a request behind it
pub record Acted (past : List Moment) (action : Action) (t : Turn) : Type 0 where
  pub starts : Starts past action t
  pub quiet : t.0.packets ≡ [] → (c : Core) → started_by action c ≡ c

counted_starts : (past : List Moment) (action : Action) (p : OutboxState) (t : Turn) → p.sides ≡ t.0.sides → Starts past action t → Starts past action (p, counted t.1)
counted_starts past action p t e h = record {
  before = h.before;
  known = still_known past t.0 p h.before h.before e refl refl h.known;
  number = h.number;
  begun = h.begun;
  sits = h.sits;
}

no_demand : {A : Type 0} {d : Demand} → Some d ≡ None → A
no_demand e = absurd (differ e)
  where
    differ : {d : Demand} → Some d ≡ None → ⊥
    differ e = cc

-- an action that asks for nothing is no operation and no ring
none_asks : (action : Action) (s : InitiatorState) → demand_of action s ≡ None → (c : Core) → started_by action c ≡ c
none_asks (actions.Put cmd) s e = λ c. refl
none_asks (actions.Append cmd) s e = no_demand e
none_asks actions.Low s e = λ c. refl
none_asks actions.Link s e = λ c. refl
none_asks actions.Ring s e = no_demand e
none_asks (actions.Dummy orb) s e = λ c. refl
none_asks actions.Rom s e = no_demand e
none_asks actions.AgentReset s e = no_demand e
none_asks actions.State s e = λ c. refl
none_asks actions.Enable s e = no_demand e
none_asks (actions.Login unit reconnect exclusive password) s e = no_demand e
none_asks (actions.Query unit) s e = no_demand e
none_asks actions.Reconnect s e = no_demand e
none_asks actions.Logout s e = no_demand e
none_asks (actions.Abort orb) s e = no_demand e
none_asks actions.AbortSet s e = no_demand e
none_asks actions.UnitReset s e = no_demand e
none_asks actions.TargetReset s e = no_demand e

pub no_packets : {A : Type 0} (packet : Outgoing) → packet ∷ [] ≡ [] → A
no_packets packet e = absurd (differ e)
  where
    differ : packet ∷ [] ≡ [] → ⊥
    differ e = cc

module _ (past : List Moment) (action : Action) (s : InitiatorState) (k : Known past (empty_outbox, s)) where
  asked_acted : (r : Option Asked × Layer Purpose) → Goes action (record s { layer = r.1 }) → (asked_as r action empty_outbox s).0 ≡ None → Acted past action (asked_as r action empty_outbox s).1
  asked_acted (None, layer) g e = some_none 10 e
  asked_acted (Some asked, layer) g e =
      let u = record s { layer = layer } in
      let t = done_step action empty_outbox u in
      let packet : Outgoing = record { to = s.target; label = Some asked.label; bytes = asked.bytes } in
      record {
        starts = counted_starts past action _ t refl (done_starts past empty_outbox u (still_known past empty_outbox empty_outbox s u refl refl refl k) action g);
        quiet = λ n. no_packets packet (ap (λ ps. ps ++ packet ∷ []) (sym (done_sends action empty_outbox u)) ∙ n);
      }

  demanded_acted : (demand : Option Demand) → demand_of action s ≡ demand → ((layer : Layer Purpose) → Goes action (record s { layer = layer })) → (demanded_as demand action empty_outbox s).0 ≡ None → Acted past action (demanded_as demand action empty_outbox s).1
  demanded_acted None d g e =
      let t = done_step action empty_outbox s in
      record { starts = counted_starts past action t.0 t refl (done_starts past empty_outbox s k action (g s.layer)); quiet = λ n. none_asks action s d }
  demanded_acted (Some demand) d g e = asked_acted (asked_for demand s) (g (asked_for demand s).1) e

  judged_acted : (refused : Option ℕ) → refusal action (facts_with true s action) ≡ refused → (judged_as refused action empty_outbox s).0 ≡ None → Acted past action (judged_as refused action empty_outbox s).1
  judged_acted (Some number) r e = some_none number e
  judged_acted None r e = demanded_acted (demand_of action s) refl (λ layer. goes_on action (record s { layer = layer }) r) e

  pub act_acted : (act_step action empty_outbox s).0 ≡ None → Acted past action (act_step action empty_outbox s).1
  unfolding act_step
  act_acted e = judged_acted (refusal action (facts_with true s action)) refl e

-- ---- its request leaves

pub asked_known : {number : ℕ} (past : List Moment) (action : Action) (t : Turn) (i serial generation to : ℕ) (bytes : List ℕ) → Starts past action t → t.1.number ≡ i → event_of past ≡ Some (events.Act i action) → (terms past).injected serial ≡ false → IsRequest number bytes → host_core (host_at (said (notes.Sent serial generation (suc i) to bytes) ∷ behind t.0.sides past) i) ≡ own_core t.1
asked_known {number} past action t i serial generation to bytes h n e f q =
    asks_core action number q.kind serial generation to bytes (behind t.0.sides past) i (h.known.line ∙ e) q.part (ap (λ (x : Terms). x.injected serial) h.known.wire ∙ f)
    ∙ ap (λ j. started_by action (host_core (host_at (behind t.0.sides past) j))) (sym n ∙ h.number)
    ∙ ap (started_by action) h.known.own
    ∙ h.begun
