-- At whose registers an initiator writes and reads, as it does an action.
use Rattle.sbp_world.proofs.Words.Std.{arith, ◌≡◌, ◌⊎◌, inl, inr, refl, sym, ◌∙◌, ap, subst, ℕ, suc, ◌+◌, ◌<◌, ◌≤◌, ◌&&◌, nat_eq, is_some, not, Bool, true, false, cond, List, [], ◌∷◌, Option, Some, None, nat_tests, same_Some}
use Rattle.sbp_world.proofs.Words.Wire.{header_to, request_with, Access, access_of, empty_outbox, Moment, said, Sending, Terms, terms, Action, Note, Outgoing}
use Rattle.sbp_world.proofs.Words.Initiator.{start, LoginResponse, PresentList, list_number, Demand, Wanted, InitiatorState, act_step, demand_of, first_in, ring_demand, Turn, fits_session, is_in_live, is_live, prepares, rings, is_list, is_unwritten, session_of, wanted_body, carried, response_in, Seat, own}
use Rattle.sbp_world.proofs.Words.Laws.{action_notes, new_list, new_number, Host, Session, Underway, acted, host_at, leaving, live, operation_of, ring, told_of, present_list, access_in_bytes, lists, event_of}
use Rattle.sbp_world.proofs.Words.World.{behind, Core, session_in, AreRows, ReadAs, present_in, AreUnrefused, is_seated, register_read, IsResetting, is_state, names_answered, own_action, pointer_write, register_write, state_list, list_if, pointed_list}
use Rattle.bus_memory.specs.declared.window.Window.TheVariants as windows
use Rattle.sbp_journal.specs.declared.event.Action.TheVariants as actions
use Rattle.sbp_journal.specs.declared.event.Event.TheVariants as events
use Rattle.sbp_journal.specs.declared.note.Note.TheVariants as notes
use Rattle.sbp_journal.specs.declared.operation.Operation.TheVariants as operations
use Rattle.sbp_laws.specs.Hosts.{is_serial}
use Rattle.sbp_session.specs.declared.seat.Seat.TheVariants as seats
use Rattle.sbp_initiator.proofs.Histories.Actions.{Allowed}
use Rattle.sbp_world.proofs.Hosts.ActLeft.{ActLeft, act_left}
use Rattle.sbp_world.proofs.Hosts.Asked.{IsRequest, number_in}
use Rattle.sbp_world.proofs.Hosts.Carries.{Does, IsLineOf}
use Rattle.sbp_world.proofs.Hosts.Held.{sent_count, sent_new, sent_old}
use Rattle.sbp_world.proofs.Hosts.Hosted.{Cored, marks_of}
use Rattle.sbp_world.proofs.Hosts.PointerNotes.{Fit, asked_pointer, pointer, pointer_after, tame_told}
use Rattle.sbp_world.proofs.Hosts.Pointing.{wrote_is}
use Rattle.sbp_world.proofs.Hosts.Readings.{read_law}
use Rattle.sbp_world.proofs.Hosts.Shown.{IsShown}
use Rattle.sbp_world.proofs.Hosts.Telling.{action_law}
use Rattle.sbp_world.proofs.Pointers.ActShows.{act_showing}
use Rattle.sbp_world.proofs.Pointers.Asks.{act_allowed, act_bytes, asks_for, live_session, ring_list, ring_wanted, ringing}
use Rattle.sbp_world.proofs.Pointers.BaseSeats.{live_seated, seated_live}
use Rattle.sbp_world.proofs.Pointers.BaseSteps.{act_carried, is_behind}
use Rattle.sbp_world.proofs.Pointers.BaseTold.{pointed_told, unrefused_told, if_so}
use Rattle.sbp_world.proofs.Pointers.Basing.{AtAgent, Based, PointsAt, Requested, others_based, requested_on}
use Rattle.sbp_world.proofs.Pointers.GuardActs.{Told, action_told}
use Rattle.sbp_world.proofs.Pointers.GuardDoes.{Ready}
use Rattle.sbp_world.proofs.Pointers.Guarding.{guarded_carried}
use Rattle.sbp_world.proofs.Pointers.Resetting.{asked_host, resetting_back, told_fades}
use Rattle.sbp_world.proofs.Pointers.Sending.{names}
use Rattle.sbp_world.proofs.Pointers.Steps.{ToldAs, append, append_present, links, links_still, silent, told_as}
use Rattle.sbp_world.proofs.Pointers.Waits.{state_told}
use Rattle.sbp_world.proofs.Common.{itself, cond_off, cond_on, untrue, serial_is}
use Rattle.sbp_world.proofs.Pointers.Naming.{none_some}
use Rattle.sbp_world.proofs.Pointers.Writing.{absurd_below}
use Rattle.sbp_world.proofs.Hosts.PointActs.{has_list}
use Rattle.sbp_world.proofs.Lists.Bases.{seated as seated_carried}
use Rattle.sbp_world.proofs.Sessions.PlaceNotes.{live_carried}

-- ---- sessions

-- a session that is live or being left
abbrev joins : Session → Bool
joins live = true
joins leaving = true
joins _ = false

joined_seated : (seat : Seat) → joins (session_in seat) ≡ true → is_seated seat ≡ true
joined_seated (seats.Live x) e = refl
joined_seated (seats.Leaving response) e = refl
joined_seated (seats.Out out) e = untrue e
joined_seated (seats.Entering entering) e = untrue e
joined_seated (seats.Held response) e = untrue e
joined_seated (seats.Returning response) e = untrue e
joined_seated (seats.Stuck origin) e = untrue e

fits_live : (action : Action) (seat : Seat) → is_in_live (session_of seat) ≡ true → fits_session action (session_of seat) ≡ true → fits_session action is_live ≡ true
fits_live action (seats.Live x) e f = f
fits_live action (seats.Out out) e f = untrue e
fits_live action (seats.Entering entering) e f = untrue e
fits_live action (seats.Held response) e f = untrue e
fits_live action (seats.Returning response) e f = untrue e
fits_live action (seats.Leaving response) e f = untrue e
fits_live action (seats.Stuck origin) e f = untrue e

ring_session : (p : Option ℕ) (serial : ℕ) (host : Host) → (ring p serial host).session ≡ host.session
ring_session None serial host = refl
ring_session (Some first) serial host = refl

-- the request of an action that is done in a live session
acted_joins : (action : Action) (list : Option ℕ) (serial : ℕ) (host : Host) → host.session ≡ live → fits_session action is_live ≡ true → joins (acted action (operation_of action) list serial host).session ≡ true
acted_joins (actions.Login unit reconnect exclusive password) list serial host e f = untrue f
acted_joins actions.Reconnect list serial host e f = untrue f
acted_joins actions.Logout list serial host e f = refl
acted_joins (actions.Append cmd) list serial host e f = ap joins (ring_session host.pointer serial host ∙ e)
acted_joins actions.Ring list serial host e f = ap joins (ring_session host.pointer serial host ∙ e)
acted_joins actions.Rom list serial host e f = ap joins e
acted_joins (actions.Query unit) list serial host e f = ap joins e
acted_joins (actions.Abort orb) list serial host e f = ap joins e
acted_joins actions.AbortSet list serial host e f = ap joins e
acted_joins actions.UnitReset list serial host e f = ap joins e
acted_joins actions.TargetReset list serial host e f = ap joins e
acted_joins actions.AgentReset list serial host e f = ap joins e
acted_joins actions.State list serial host e f = ap joins e
acted_joins (actions.Dummy orb) list serial host e f = ap joins e
acted_joins (actions.Put cmd) list serial host e f = ap joins e
acted_joins actions.Low list serial host e f = ap joins e
acted_joins actions.Link list serial host e f = ap joins e
acted_joins actions.Enable list serial host e f = ap joins e

prepares_live : (action : Action) (seat : Seat) → prepares action ≡ true → fits_session action (session_of seat) ≡ true → is_in_live (session_of seat) ≡ true
prepares_live (actions.Put cmd) seat p f = f
prepares_live (actions.Append cmd) seat p f = f
prepares_live _ seat p f = untrue p

-- ---- operations

-- an AGENT_RESET is under way behind it: it was before, or this is its request
acted_cases : (action : Action) (list : Option ℕ) (serial : ℕ) (host : Host) (u : Underway) → (acted action (operation_of action) list serial host).operation ≡ Some u → u.operation ≡ operations.AgentReset → (host.operation ≡ Some u) ⊎ ((action ≡ actions.AgentReset) × (u.first ≡ serial))
acted_cases actions.AgentReset list serial host u e r = inr (refl, (let x : u.first ≡ serial = cc in x))
acted_cases (actions.Append cmd) list serial host u e r = inl (sym (ring_operation host.pointer serial host) ∙ e)
  where
    ring_operation : (p : Option ℕ) (n : ℕ) (y : Host) → (ring p n y).operation ≡ y.operation
    ring_operation None n y = refl
    ring_operation (Some first) n y = refl
acted_cases actions.Ring list serial host u e r = inl (sym (ring_operation host.pointer serial host) ∙ e)
  where
    ring_operation : (p : Option ℕ) (n : ℕ) (y : Host) → (ring p n y).operation ≡ y.operation
    ring_operation None n y = refl
    ring_operation (Some first) n y = refl
acted_cases actions.State list serial host u e r = inl e
acted_cases (actions.Dummy orb) list serial host u e r = inl e
acted_cases (actions.Put cmd) list serial host u e r = inl e
acted_cases actions.Low list serial host u e r = inl e
acted_cases actions.Link list serial host u e r = inl e
acted_cases actions.Rom list serial host u e r = absurd (let x : operations.Rom ≡ operations.AgentReset = (let y : u.operation ≡ operations.Rom = cc in sym y ∙ r) in cc)
acted_cases (actions.Login unit reconnect exclusive password) list serial host u e r = absurd (let x : operations.Login ≡ operations.AgentReset = (let y : u.operation ≡ operations.Login = cc in sym y ∙ r) in cc)
acted_cases (actions.Query unit) list serial host u e r = absurd (let x : operations.Query ≡ operations.AgentReset = (let y : u.operation ≡ operations.Query = cc in sym y ∙ r) in cc)
acted_cases actions.Reconnect list serial host u e r = absurd (let x : operations.Reconnect ≡ operations.AgentReset = (let y : u.operation ≡ operations.Reconnect = cc in sym y ∙ r) in cc)
acted_cases actions.Logout list serial host u e r = absurd (let x : operations.Logout ≡ operations.AgentReset = (let y : u.operation ≡ operations.Logout = cc in sym y ∙ r) in cc)
acted_cases (actions.Abort orb) list serial host u e r = absurd (let x : operations.Abort ≡ operations.AgentReset = (let y : u.operation ≡ operations.Abort = cc in sym y ∙ r) in cc)
acted_cases actions.AbortSet list serial host u e r = absurd (let x : operations.AbortSet ≡ operations.AgentReset = (let y : u.operation ≡ operations.AbortSet = cc in sym y ∙ r) in cc)
acted_cases actions.UnitReset list serial host u e r = absurd (let x : operations.UnitReset ≡ operations.AgentReset = (let y : u.operation ≡ operations.UnitReset = cc in sym y ∙ r) in cc)
acted_cases actions.TargetReset list serial host u e r = absurd (let x : operations.TargetReset ≡ operations.AgentReset = (let y : u.operation ≡ operations.TargetReset = cc in sym y ∙ r) in cc)
acted_cases actions.Enable list serial host u e r = absurd (let x : operations.Enable ≡ operations.AgentReset = (let y : u.operation ≡ operations.Enable = cc in sym y ∙ r) in cc)

-- ---- what is named

told_so : (a b : Bool) (list : Option ℕ) (n : ℕ) → told_of (a && b) list ≡ Some n → a ≡ true
told_so true b list n e = refl
told_so false b list n e = none_some e

state_is : (action : Action) → is_state (Some action) ≡ true → action ≡ actions.State
state_is actions.State e = refl
state_is _ e = untrue e

-- ORB_POINTER is named by a ring alone
rings_now : (rung : Bool) (serial : ℕ) (old : Option ℕ) → (old ≡ Some serial → ⊥) → pointer_after rung serial old ≡ Some serial → (rung ≡ true) × (old ≡ None)
rings_now true serial None f e = (refl, refl)
rings_now true serial (Some first) f e = absurd (f e)
rings_now false serial old f e = absurd (f e)

pub present_is : (present : Option PresentList) (n : ℕ) → present_in present ≡ Some n → is_list present n ≡ true
present_is None n e = none_some e
present_is (Some list) n e = let same : list.tail.list ≡ n = cc in (let z : nat_eq list.tail.list n ≡ true = grind (arith, nat_tests) in z)

-- ---- an action

module _ (ready : Bool) (action : Action) (past : List Moment) (i : ℕ) (s : InitiatorState) (under : event_of past ≡ Some (events.Act i action)) (fit : IsLineOf action) (done : (act_step action empty_outbox s).0 ≡ None) (shown : IsShown past i s.target s.layer) (known : Ready past i s) (h : Based ready past i s) where
  abbrev t : Turn
  t = (act_step action empty_outbox s).1

  abbrev ms : List Moment
  ms = behind t.0.sides past

  left : ActLeft action s t
  left = act_left action s done

  cored : Cored ready past i s
  cored = h.guarded.pointed.cored

  a : Allowed action s
  a = act_allowed action s done

  sides_are : t.0.sides ≡ own (action_notes action past i)
  sides_are =
      action_law.notes past s action empty_outbox (subst (λ j. AreRows past j s.lists.slots) (sym cored.own.number) known.rows) done
      ∙ ap (λ j. own (action_notes action past j)) cored.own.number

  ms_are : behind (own (action_notes action past i)) past ≡ ms
  ms_are = ap (λ told_sides. behind told_sides past) (sym sides_are)

  told : Told past i action s ms
  told = subst (Told past i action s) ms_are (action_told past i action s known.rows cored.core a h.guarded.pend (ring_list action s a))

  reads : ReadAs past i s.lists.slots
  reads = read_law past i s.lists.slots known.rows

  before : AreUnrefused ms i → AreUnrefused past i
  before u = (unrefused_told t.0.sides past i left.told u).1

  carries : carried t.1.seat ≡ carried s.seat
  carries = act_carried action s

  -- ---- the list that it has then

  was_there : (n : ℕ) → present_list past i ≡ Some n → is_list s.lists.slots.present n ≡ true
  was_there n e = present_is s.lists.slots.present n (sym known.rows.fits.present ∙ e)

  -- it was there, or it is the one that begins
  begins_by : (present : Option PresentList) → s.lists.slots.present ≡ present → (n : ℕ) → new_list past i ≡ n → prepares action ≡ true → (is_list s.lists.slots.present n ≡ true) ⊎ ((n ≡ lists past i) × (prepares action ≡ true))
  begins_by None p n e f = inr (sym e ∙ reads.list ∙ ap (λ x. list_number x s.lists.slots.lists) p ∙ sym known.rows.fits.begun, f)
  begins_by (Some list) p n e f =
      inl (was_there n (known.rows.fits.present ∙ ap present_in p ∙ ap Some (sym (reads.list ∙ ap (λ x. list_number x s.lists.slots.lists) p) ∙ e)))

  told_lists : (ns : List Note) → ToldAs past i action ns → (n : ℕ) → present_list (behind (own ns) past) i ≡ Some n → (is_list s.lists.slots.present n ≡ true) ⊎ ((n ≡ lists past i) × (prepares action ≡ true))
  told_lists ns (silent e p r) n f = inl (was_there n (ap (λ x. present_list (behind (own x) past) i) (sym e) ∙ f))
  told_lists ns (links l p step) n f = inl (was_there n (sym (ap (λ (x : ℕ → Option ℕ). x i) (links_still ns past i l).present) ∙ f))
  told_lists ns (append cdb buffer rest e l p step) n f =
      let m = new_number past i in
      let g : Some (new_list past i) ≡ Some n =
      sym (append_present past i (new_list past i) m cdb buffer)
      ∙ sym (ap (λ (x : ℕ → Option ℕ). x i) (links_still rest (said (notes.Append i (new_list past i) m cdb buffer) ∷ past) i l).present)
      ∙ ap (λ x. present_list (behind (own x) past) i) (sym e) ∙ f in
      begins_by s.lists.slots.present refl n (same_Some (new_list past i) n g) p

  act_lists : (n : ℕ) → is_list t.1.lists.slots.present n ≡ true → (is_list s.lists.slots.present n ≡ true) ⊎ ((n ≡ lists past i) × (prepares action ≡ true))
  act_lists n e =
      let shows = act_showing action past i s fit.0 done (record { number = cored.own.number; rows = known.rows; pin = known.pin }) in
      told_lists (action_notes action past i) (told_as past i action) n (ap (λ x. present_list x i) ms_are ∙ shows n e)

  -- one for which ORB_POINTER was written, or that a read tells of, was there
  module _ (f : Fit past) where
    begun_before : (n serial : ℕ) → pointed_list past serial i ≡ Some n → n < lists past i
    begun_before n serial p = ((names past i f.serials f.sent (h.guarded.kept f).told).each n serial p).begun

    told_before : (n serial : ℕ) → state_list past serial i ≡ Some n → n < lists past i
    told_before n serial p = let b = is_behind past i f.serials f.sent (h.guarded.kept f).told n serial p in begun_before n b.other b.pointed

    old_list : (n : ℕ) → n < lists past i → is_list t.1.lists.slots.present n ≡ true → is_list s.lists.slots.present n ≡ true
    old_list n l e = by (act_lists n e)
      where
        by : (is_list s.lists.slots.present n ≡ true) ⊎ ((n ≡ lists past i) × (prepares action ≡ true)) → is_list s.lists.slots.present n ≡ true
        by (inl g) = g
        by (inr g) = absurd_below n (lists past i) g.0 l

  -- ---- the session

  list_some : (present : Option PresentList) → is_some present ≡ true → (n : ℕ) × (is_list present n ≡ true)
  list_some None e = untrue e
  list_some (Some list) e = (list.tail.list, itself list.tail.list)

  -- it is live, where there is a list then
  is_live_now : AreUnrefused past i → is_some t.1.lists.slots.present ≡ true → is_in_live (session_of s.seat) ≡ true
  is_live_now u e = let n = list_some t.1.lists.slots.present e in by n.0 (act_lists n.0 n.1)
    where
      some_of : (present : Option PresentList) (n : ℕ) → is_list present n ≡ true → is_some present ≡ true
      some_of None n f = untrue f
      some_of (Some list) n f = refl

      by : (n : ℕ) → (is_list s.lists.slots.present n ≡ true) ⊎ ((n ≡ lists past i) × (prepares action ≡ true)) → is_in_live (session_of s.seat) ≡ true
      by n (inl f) = seated_live action s.seat a.session (h.seated u (some_of s.lists.slots.present n f))
      by n (inr f) = prepares_live action s.seat f.1 a.session

  session_now : is_in_live (session_of s.seat) ≡ true → (host_at ms i).session ≡ live
  session_now e = told.session ∙ ap (λ (c : Core). c.session) cored.core ∙ live_session s.seat e

  -- an AGENT_RESET that is under way
  back : (serial : ℕ) → IsResetting ms i serial → IsResetting past i serial
  back = resetting_back past ms i (told_fades t.0.sides past i left.told)

  -- ---- one that sends nothing

  quiet_agent : Fit ms → AtAgent ms i t.1
  quiet_agent f =
      let k = tame_told t.0.sides past i left.told in
      let g = k.fit f in
      let on = requested_on past ms i (λ n l. ap (λ (x : Terms). x.sent n) k.wire) (let c : (terms ms).count ≡ (terms past).count = ap (λ (x : Terms). x.count) k.wire in let z : (terms past).count ≤ (terms ms).count = omega arith in z) in
      let old = h.agent g in
      record {
        pointer = λ u n serial l p response c.
            let q : pointed_list past serial i ≡ Some n = sym (ap (λ (x : ℕ → ℕ → Option ℕ). x serial i) (pointed_told t.0.sides past left.told)) ∙ p in
            let x = old.pointer (before u) n serial (old_list g n (begun_before g n serial q) l) q response (sym carries ∙ c) in
            record { address = x.address; is = on serial (pointer_write response.agent x.address) x.is };
        reset = λ serial r response c. on serial (register_write response.agent 0x04) (old.reset serial (back serial r) response (sym carries ∙ c));
        states = λ u n serial l p response c.
            let q : state_list past serial i ≡ Some n = sym (ap (λ (x : ℕ → ℕ → Option ℕ). x serial i) (state_told t.0.sides past left.told)) ∙ p in
            on serial (register_read response.agent 0x00) (old.states (before u) n serial (old_list g n (told_before g n serial q) l) q response (sym carries ∙ c));
      }

  -- the list that it has then was written to the agent of the session that it had
  pub points_then : Fit ms → AreUnrefused ms i → (n serial : ℕ) → present_list ms i ≡ Some n → pointed_list ms serial i ≡ Some n → (response : LoginResponse) → carried s.seat ≡ Some response → PointsAt ms i serial response.agent
  points_then f u n serial l p response c =
      let k = tame_told t.0.sides past i left.told in
      let g = k.fit f in
      let on = requested_on past ms i (λ m b. ap (λ (x : Terms). x.sent m) k.wire) (let y : (terms ms).count ≡ (terms past).count = ap (λ (x : Terms). x.count) k.wire in let z : (terms past).count ≤ (terms ms).count = omega arith in z) in
      let q : pointed_list past serial i ≡ Some n = sym (ap (λ (x : ℕ → ℕ → Option ℕ). x serial i) (pointed_told t.0.sides past left.told)) ∙ p in
      let x = (h.agent g).pointer (before u) n serial (was g q (told_lists (action_notes action past i) (told_as past i action) n (ap (λ y. present_list y i) ms_are ∙ l))) q response c in
      record { address = x.address; is = on serial (pointer_write response.agent x.address) x.is }
    where
      was : Fit past → pointed_list past serial i ≡ Some n → (is_list s.lists.slots.present n ≡ true) ⊎ ((n ≡ lists past i) × (prepares action ≡ true)) → is_list s.lists.slots.present n ≡ true
      was g q (inl y) = y
      was g q (inr y) = absurd_below n (lists past i) y.0 (begun_before g n serial q)

  quiet_session : session_in t.1.seat ≡ session_in s.seat → AreUnrefused ms i → is_some t.1.lists.slots.present ≡ true → is_seated t.1.seat ≡ true
  quiet_session e u p = joined_seated t.1.seat (ap joins (e ∙ live_session s.seat (is_live_now (before u) p)))

  -- ---- and one that sends a request

  module _ (packet : Outgoing) (one : t.0.packets ≡ packet ∷ []) (serial generation : ℕ) (injected : (terms past).injected serial ≡ false) (q : IsRequest (number_in packet.label) packet.bytes) where
    abbrev now : List Moment
    now = said (notes.Sent serial generation (suc i) 0 packet.bytes) ∷ ms

    abbrev sending : Sending
    sending = record { generation = generation; from = suc i; to = 0; bytes = packet.bytes; injected = (terms ms).injected serial }

    honest : (terms ms).injected serial ≡ false
    honest = ap (λ (y : Terms). y.injected serial) told.wire ∙ injected

    now_host : host_at now i ≡ acted action (operation_of action) (present_list ms i) serial (host_at ms i)
    now_host = asked_host action serial generation 0 packet.bytes ms i (told.line ∙ under) q honest

    line : own_action i (event_of ms) ≡ Some action
    line = ap (own_action i) (told.line ∙ under) ∙ cond_on (nat_eq i i) (Some action) None (itself i)

    -- what it asks for
    this_asks : Fit now → (own_demand : Demand) (access : Access) → demand_of action s ≡ Some own_demand → asks_for own_demand ≡ Some access → Requested now i serial access
    this_asks f own_demand access d e =
        let has = act_bytes action s packet done one in
        let same : own_demand ≡ has.demand = same_Some own_demand has.demand (sym d ∙ has.is) in
        record {
          packet = sending;
          sent = sent_new serial sending (terms ms);
          from_is = refl;
          to_is = refl;
          honest = honest;
          spelled = ap access_in_bytes has.bytes ∙ known.spelled action has.demand has.asked has.is has.found ∙ ap asks_for (sym same) ∙ e;
          below = (let x = f.serials.0 in let y = sent_count serial sending (terms ms) in omega arith);
        }

    not_it : {A : Type 0} (n : ℕ) → n ≤ (terms past).count → serial ≡ (terms ms).count + 1 → n ≡ serial → A
    not_it n l e f = let g = ap (λ (y : Terms). y.count) told.wire in absurd (let x : ⊥ = omega arith in x)

    unwritten_by : (b : Bool) → is_unwritten s.marks.pointing ≡ b → rings action ≡ true → pointer ms i ≡ None → is_unwritten s.marks.pointing ≡ true
    unwritten_by true e r p = e
    unwritten_by false e r p =
        let same = left.names r (has_list s.lists.slots.present s.marks.pointing (marks_of ready i s cored.own.called) e) past i in
        untrue (sym (ap is_some (sym same ∙ p)) ∙ wrote_is cored ∙ ap not e)

    -- a ring that writes ORB_POINTER
    points : Fit now → rings action ≡ true → pointer ms i ≡ None → PointsAt now i serial (response_in s.seat).agent
    points f r p =
        let u = unwritten_by (is_unwritten s.marks.pointing) refl r p in
        let address = start (windows.Orb (first_in s.lists.slots.present s)) in
        record {
          address = address;
          is = this_asks f (ring_demand s) (pointer_write (response_in s.seat).agent address) (ringing action s a r).asks
              (ap (λ (w : Wanted). access_of (request_with (header_to 0 0 0) (wanted_body w))) (ring_wanted s u));
        }

    -- it was named before, or is this one
    pointed_cases : (x n : ℕ) → pointed_list now x i ≡ Some n → (pointed_list past x i ≡ Some n) ⊎ ((x ≡ serial) × (pointer now i ≡ Some serial))
    pointed_cases x n e = by (nat_eq x serial) refl
      where
        by : (b : Bool) → nat_eq x serial ≡ b → (pointed_list past x i ≡ Some n) ⊎ ((x ≡ serial) × (pointer now i ≡ Some serial))
        by false f =
            inl (sym (ap (λ (y : ℕ → ℕ → Option ℕ). y x i) (pointed_told t.0.sides past left.told)) ∙ sym (cond_off (nat_eq x serial) _ (pointed_list ms x i) f) ∙ e)
        by true f =
            let list = list_if (is_serial (pointer now i) serial) (present_list ms i) in
            let g : list ≡ Some n = sym (cond_on (nat_eq i i) list (pointed_list ms x i) (itself i)) ∙ sym (cond_on (nat_eq x serial) (cond (nat_eq i i) list (pointed_list ms x i)) (pointed_list ms x i) f) ∙ e in
            inr ((let z : x ≡ serial = grind (arith, nat_tests) in z), serial_is (pointer now i) serial (if_so (is_serial (pointer now i) serial) (present_list ms i) n g))

    state_cases : (x n : ℕ) → state_list now x i ≡ Some n → (state_list past x i ≡ Some n) ⊎ ((x ≡ serial) × (action ≡ actions.State))
    state_cases x n e = by (nat_eq x serial) refl
      where
        by : (b : Bool) → nat_eq x serial ≡ b → (state_list past x i ≡ Some n) ⊎ ((x ≡ serial) × (action ≡ actions.State))
        by false f =
            inl (sym (ap (λ (y : ℕ → ℕ → Option ℕ). y x i) (state_told t.0.sides past left.told)) ∙ sym (cond_off (nat_eq x serial) _ (state_list ms x i) f) ∙ e)
        by true f =
            let list = told_of (is_state (own_action i (event_of ms)) && names_answered ms (pointer ms i)) (present_list ms i) in
            let g : list ≡ Some n = sym (cond_on (nat_eq i i) list (state_list ms x i) (itself i)) ∙ sym (cond_on (nat_eq x serial) (cond (nat_eq i i) list (state_list ms x i)) (state_list ms x i) f) ∙ e in
            inr ((let z : x ≡ serial = grind (arith, nat_tests) in z), state_is action (sym (ap is_state line) ∙ told_so (is_state (own_action i (event_of ms))) (names_answered ms (pointer ms i)) (present_list ms i) n g))

    reset_cases : (x : ℕ) → IsResetting now i x → (IsResetting past i x) ⊎ ((action ≡ actions.AgentReset) × (x ≡ serial))
    reset_cases x r = by (acted_cases action (present_list ms i) serial (host_at ms i) r.underway (sym (ap (λ (y : Host). y.operation) now_host) ∙ r.is) r.resets)
      where
        by : ((host_at ms i).operation ≡ Some r.underway) ⊎ ((action ≡ actions.AgentReset) × (r.underway.first ≡ serial)) → (IsResetting past i x) ⊎ ((action ≡ actions.AgentReset) × (x ≡ serial))
        by (inl e) = inl (back x (record { underway = r.underway; is = e; resets = r.resets; first = r.first }))
        by (inr e) = inr (e.0, sym r.first ∙ e.1)

    -- the session of an AGENT_RESET and of a read is live
    reset_live : action ≡ actions.AgentReset → is_in_live (session_of s.seat) ≡ true
    reset_live e = subst (λ x. fits_session x (session_of s.seat) ≡ true) e a.session

    state_live : action ≡ actions.State → is_in_live (session_of s.seat) ≡ true
    state_live e = subst (λ x. fits_session x (session_of s.seat) ≡ true) e a.session

    response_is : is_in_live (session_of s.seat) ≡ true → (response : LoginResponse) → carried t.1.seat ≡ Some response → response_in s.seat ≡ response
    response_is l response c = same_Some (response_in s.seat) response (sym (live_carried s.seat l) ∙ sym carries ∙ c)

    module _ (f : Fit now) where
      old_fit : Fit past
      old_fit = (tame_told t.0.sides past i left.told).fit (record { serials = f.serials.1; sent = f.sent.1 })

      old : AtAgent past i s
      old = h.agent old_fit

      sent_same : (n : ℕ) → n ≤ (terms past).count → (terms now).sent n ≡ (terms past).sent n
      sent_same n l =
          sent_old serial n sending (terms ms) (let c = f.serials.0 in let d : (terms ms).count ≡ (terms past).count = ap (λ (y : Terms). y.count) told.wire in let z : nat_eq n serial ≡ false = grind (arith, nat_tests) in z)
          ∙ ap (λ (y : Terms). y.sent n) told.wire

      more : (terms past).count ≤ (terms now).count
      more = let c = sent_count serial sending (terms ms) in let d : (terms ms).count ≡ (terms past).count = ap (λ (y : Terms). y.count) told.wire in omega arith

      on : (x : ℕ) (access : Access) → Requested past i x access → Requested now i x access
      on = requested_on past now i sent_same more

      below : (n : ℕ) → pointer past i ≡ Some n → n ≤ (terms past).count
      below = (h.guarded.pointed.points old_fit).below

      name_is : pointer now i ≡ pointer_after (rings action) serial (pointer ms i)
      name_is = asked_pointer action serial generation 0 packet.bytes ms i (told.line ∙ under) q honest

      fresh : pointer ms i ≡ Some serial → ⊥
      fresh e = not_it serial (below serial ((tame_told t.0.sides past i left.told).fades serial e)) f.serials.0 refl

      point_agent : (u : AreUnrefused now i) (n x : ℕ) → is_list t.1.lists.slots.present n ≡ true → (response : LoginResponse) → carried t.1.seat ≡ Some response → (pointed_list past x i ≡ Some n) ⊎ ((x ≡ serial) × (pointer now i ≡ Some serial)) → PointsAt now i x response.agent
      point_agent u n x l response c (inl p) =
          let k = old.pointer (before u.1) n x (old_list old_fit n (begun_before old_fit n x p) l) p response (sym carries ∙ c) in
          record { address = k.address; is = on x (pointer_write response.agent k.address) k.is }
      point_agent u n x l response c (inr e) =
          let r = rings_now (rings action) serial (pointer ms i) fresh (sym name_is ∙ e.1) in
          let live_one = (ringing action s a r.0).session in
          subst (λ (y : LoginResponse). PointsAt now i x y.agent) (response_is live_one response c)
          (subst (λ y. PointsAt now i y (response_in s.seat).agent) (sym e.0) (points f r.0 r.1))

      reset_agent : (x : ℕ) (response : LoginResponse) → carried t.1.seat ≡ Some response → (IsResetting past i x) ⊎ ((action ≡ actions.AgentReset) × (x ≡ serial)) → Requested now i x (register_write response.agent 0x04)
      reset_agent x response c (inl r) = on x (register_write response.agent 0x04) (old.reset x r response (sym carries ∙ c))
      reset_agent x response c (inr e) =
          subst (λ (y : LoginResponse). Requested now i x (register_write y.agent 0x04)) (response_is (reset_live e.0) response c)
          (subst (λ y. Requested now i y (register_write (response_in s.seat).agent 0x04)) (sym e.1)
          (this_asks f _ (register_write (response_in s.seat).agent 0x04) (ap (λ y. demand_of y s) e.0) refl))

      state_agent : (u : AreUnrefused now i) (n x : ℕ) → is_list t.1.lists.slots.present n ≡ true → (response : LoginResponse) → carried t.1.seat ≡ Some response → (state_list past x i ≡ Some n) ⊎ ((x ≡ serial) × (action ≡ actions.State)) → Requested now i x (register_read response.agent 0x00)
      state_agent u n x l response c (inl p) = on x (register_read response.agent 0x00) (old.states (before u.1) n x (old_list old_fit n (told_before old_fit n x p) l) p response (sym carries ∙ c))
      state_agent u n x l response c (inr e) =
          subst (λ (y : LoginResponse). Requested now i x (register_read y.agent 0x00)) (response_is (state_live e.1) response c)
          (subst (λ y. Requested now i y (register_read (response_in s.seat).agent 0x00)) (sym e.0)
          (this_asks f _ (register_read (response_in s.seat).agent 0x00) (ap (λ y. demand_of y s) e.1) refl))

      asking_agent : AtAgent now i t.1
      asking_agent = record {
        pointer = λ u n x l p response c. point_agent u n x l response c (pointed_cases x n p);
        reset = λ x r response c. reset_agent x response c (reset_cases x r);
        states = λ u n x l p response c. state_agent u n x l response c (state_cases x n p);
      }

    asking_armed : (x : ℕ) → (IsResetting past i x) ⊎ ((action ≡ actions.AgentReset) × (x ≡ serial)) → is_some (carried t.1.seat) ≡ true
    asking_armed x (inl r) = ap is_some carries ∙ h.armed x r
    asking_armed x (inr e) = ap is_some carries ∙ seated_carried s.seat (live_seated s.seat (reset_live e.0))

    asking_seated : session_in t.1.seat ≡ (host_at now i).session → AreUnrefused now i → is_some t.1.lists.slots.present ≡ true → is_seated t.1.seat ≡ true
    asking_seated e u p =
        let l = is_live_now (before u.1) p in
        joined_seated t.1.seat (ap joins (e ∙ ap (λ (y : Host). y.session) now_host) ∙ acted_joins action (present_list ms i) serial (host_at ms i) (session_now l) (fits_live action s.seat l a.session))

  pub does_based : Does (Based ready) past i t
  does_based =
      let d = (guarded_carried ready).acts action past i s under fit done shown known h.guarded in
      record {
        others = λ j x e k. others_based ready t.0.sides past j x left.told (d.others j x e k.guarded) k;
        quiet = λ none.
            let g = d.quiet none in
            record {
              guarded = g;
              seated = quiet_session (sym (ap (λ (c : Core). c.session) g.pointed.cored.core) ∙ told.session ∙ ap (λ (c : Core). c.session) cored.core);
              armed = λ x r. ap is_some carries ∙ h.armed x (back x r);
              agent = quiet_agent;
            };
        asking = λ packet one serial generation f q.
            let g = d.asking packet one serial generation f q in
            record {
              guarded = g;
              seated = asking_seated packet one serial generation f q (sym (ap (λ (c : Core). c.session) g.pointed.cored.core));
              armed = λ x r. asking_armed packet one serial generation f q x (reset_cases packet one serial generation f q x r);
              agent = asking_agent packet one serial generation f q;
            };
      }
