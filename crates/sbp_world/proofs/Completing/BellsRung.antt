-- A rung ORB has its write of ORB_POINTER or DOORBELL: a ring sends one behind its `rung`, while its list is present, and nothing else that an initiator does rings an ORB.
use Rattle.sbp_world.proofs.Words.Std.{arith, ◌≡◌, ◌∙◌, refl, sym, ap, subst, ◌<◌, ◌-◌, max, nat_eq, nat_tests, ℕ, zero, suc, Bool, true, false, cond, List, [], ◌∷◌, ◌++◌, Some, None}
use Rattle.sbp_world.proofs.Words.Wire.{Access, Action, Moment, Note, Outgoing, Side, Terms, asked, empty_outbox, judged_note, said, terms}
use Rattle.sbp_world.proofs.Words.Initiator.{Demand, InitiatorState, LoginResponse, Seat, Turn, act_step, carried, expire_step, first_in, is_in_live, is_unwritten, list_number, new_state, own, receive_step, register_of, response_in, ring_demand, rings, see_step, session_of, start}
use Rattle.sbp_world.proofs.Words.Laws.{access_in_bytes, event_of, host_at, present_list}
use Rattle.sbp_world.proofs.Words.World.{AreRows, AreUnrefused, GotBlocks, behind, pointed_list, pointer_write, register_write}
use Rattle.bus_memory.specs.declared.window.Window.TheVariants as windows
use Rattle.sbp_initiator.specs.declared.purpose.Purpose.TheVariants as purposes
use Rattle.sbp_initiator.specs.declared.purpose.Wanted.TheVariants as wants
use Rattle.sbp_journal.specs.declared.event.Action.TheVariants as actions
use Rattle.sbp_journal.specs.declared.event.Event.TheVariants as events
use Rattle.sbp_journal.specs.declared.note.Note.TheVariants as notes
use Rattle.sbp_journal.specs.declared.side.Side.TheVariants as sides
use Rattle.sbp_laws.specs.Actions.{action_notes, buffer_of, link_notes, new_list, new_number}
use Rattle.sbp_laws.specs.Lists.{linked}
use Rattle.sbp_session.specs.declared.seat.Seat.TheVariants as seats
use Rattle.bus_transactions.specs.Packets.{SerialsCount}
use Rattle.bus_transactions.specs.Sent.{AreSent}
use Rattle.sbp_world.specs.Completing.Bells.{AreBelled, IsBelledAt, IsBelledNear, WasBelled}
use Rattle.sbp_world.specs.Completing.Sights.{rung}
use Rattle.sbp_world.proofs.Common.{itself, untrue}
use Rattle.sbp_world.proofs.Completing.PresentRung.{AllOfOther, acts_of_other, apart_rung, judged_rung, note_rung, of_other, ring_present, ring_sends}
use Rattle.sbp_world.proofs.Hosts.ActLeft.{act_left}
use Rattle.sbp_world.proofs.Hosts.Carries.{Carries, IsLineOf}
use Rattle.sbp_world.proofs.Hosts.Shown.{IsShown}
use Rattle.sbp_world.proofs.Hosts.Layered.{expire_left, receive_left}
use Rattle.sbp_world.proofs.Hosts.OrbTells as tell
use Rattle.sbp_world.proofs.Hosts.OrbTells.{AreUnstepped}
use Rattle.sbp_world.proofs.Hosts.PointerNotes.{Told, tame_told}
use Rattle.sbp_world.proofs.Hosts.PointSees.{see_left}
use Rattle.sbp_world.proofs.Hosts.Telling.{action_law}
use Rattle.sbp_world.proofs.Lists.RingWrites.{act_steps, steps_login, ring_asks}
use Rattle.sbp_world.proofs.Pointers.BaseActs.{points_then}
use Rattle.sbp_world.proofs.Pointers.Based.{asked_of, based_carried, first_based}
use Rattle.sbp_world.proofs.Pointers.Basing.{Based}
use Rattle.sbp_world.proofs.Pointers.Asks.{act_allowed, act_bytes, asks_for, ringing}
use Rattle.sbp_world.proofs.Pointers.GuardDoes.{Ready}
use Rattle.sbp_world.proofs.Sessions.PlaceNotes.{live_carried}
use Rattle.sbp_world.proofs.Sessions.HoldingRuns.{Held, behind_blocks, first_held, held_carried, peel}

belled_on : (m : Moment) (past : List Moment) (i n k : ℕ) → WasBelled past i n k → WasBelled (m ∷ past) i n k
belled_on m past i n k x = record {
  front = m ∷ x.front;
  back = x.back;
  serial = x.serial;
  generation = x.generation;
  to = x.to;
  bytes = x.bytes;
  is = ap (λ ms. m ∷ ms) x.is;
  rung_then = x.rung_then;
  present = x.present;
  action = x.action;
  line = x.line;
  rings_it = x.rings_it;
  honest = x.honest;
  access = x.access;
  spelled = x.spelled;
  write = x.write;
  to_target = x.to_target;
  at_login = x.at_login;
  near = x.near;
}

all_on : (m : Moment) (past : List Moment) (i : ℕ) → ((n : ℕ) → rung (m ∷ past) i n ≡ rung past i n) → AreBelled past i → AreBelled (m ∷ past) i
all_on m past i same a n k l = belled_on m past i n k (a n k (subst (λ r. k < r) (same n) l))

all_told : (told : List Side) (past : List Moment) (i : ℕ) → AreUnstepped told → AreBelled past i → AreBelled (behind told past) i
all_told [] past i u a = a
all_told (sides.Own note ∷ told) past i u a = all_told told (said note ∷ past) i u.1 (all_on (said note) past i (λ n. note_rung note past i n u.0) a)
all_told (sides.Opened place orb ∷ told) past i u a = absurd u.0
all_told (sides.Ran place orb cdb payload outcome ∷ told) past i u a = absurd u.0
all_told (sides.Ended place orb status ∷ told) past i u a = absurd u.0
all_told (sides.Dead place cause ∷ told) past i u a = absurd u.0
all_told (sides.Cut place cause ∷ told) past i u a = absurd u.0
all_told (sides.Managed node function subject status login ∷ told) past i u a = absurd u.0
all_told (sides.ManageFailed node cause ∷ told) past i u a = absurd u.0
all_told (sides.Held login ∷ told) past i u a = absurd u.0
all_told (sides.Expired login ∷ told) past i u a = absurd u.0
all_told (sides.Back login ∷ told) past i u a = absurd u.0
all_told (sides.Left login ∷ told) past i u a = absurd u.0
all_told (sides.Cleared unit ∷ told) past i u a = absurd u.0
all_told (sides.Unsolicited place ∷ told) past i u a = absurd u.0
all_told (sides.Unsent place ∷ told) past i u a = absurd u.0

-- ---- an action
others_told : (ns : List Note) (past : List Moment) (j : ℕ) → AllOfOther j ns → AreBelled past j → AreBelled (behind (own ns) past) j
others_told [] past j h a = a
others_told (note ∷ ns) past j h a = others_told ns (said note ∷ past) j h.1 (all_on (said note) past j (apart_rung note past j h.0) a)

-- one that does not ring rings no ORB
quiet_told : (action : Action) (past : List Moment) (i : ℕ) → rings action ≡ false → AreBelled past i → AreBelled (behind (own (action_notes action past i)) past) i
quiet_told (actions.Put cmd) past i r a = all_on (said (notes.Append i (new_list past i) (new_number past i) cmd.cdb (buffer_of cmd))) past i (λ n. refl) a
quiet_told (actions.Append cmd) past i r a = untrue (sym r)
quiet_told actions.Low past i r a = all_on (said (notes.Low i (new_list past i) (new_number past i - 1))) past i (λ n. refl) a
quiet_told actions.Link past i r a = all_on (said (notes.Linked i (new_list past i) (new_number past i - 1))) past i (λ n. refl) a
quiet_told actions.Ring past i r a = untrue (sym r)
quiet_told (actions.Dummy k) past i r a = all_on (said (notes.Dummied i (new_list past i) k)) past i (λ n. refl) a
quiet_told actions.Rom past i r a = a
quiet_told (actions.Login unit reconnect exclusive password) past i r a = a
quiet_told (actions.Query unit) past i r a = a
quiet_told actions.Reconnect past i r a = a
quiet_told actions.Logout past i r a = a
quiet_told (actions.Abort k) past i r a = a
quiet_told actions.AbortSet past i r a = a
quiet_told actions.UnitReset past i r a = a
quiet_told actions.TargetReset past i r a = a
quiet_told actions.AgentReset past i r a = a
quiet_told actions.State past i r a = a
quiet_told actions.Enable past i r a = a

-- ---- a ring
-- the packet of an action that rings, which writes
record IsWriting (past : List Moment) (i serial to : ℕ) (bytes : List ℕ) (action : Action) : Type 0 where
  line : event_of past ≡ Some (events.Act i action)
  rings_it : rings action ≡ true
  honest : (terms past).injected serial ≡ false
  access : Access
  spelled : access_in_bytes bytes ≡ Some access
  write : access.is_write ≡ true
  to_target : to ≡ 0
  at_login : access.is_block ≡ false → access ≡ register_write (host_at past i).login.agent 0x10
  near : (n : ℕ) → present_list past i ≡ Some n → IsBelledNear past i n access

module _ (i serial generation to : ℕ) (bytes : List ℕ) (action : Action) where
  abbrev Sends : List Moment → List Moment
  Sends ms = said (notes.Sent serial generation (suc i) to bytes) ∷ ms

  abbrev Rings : List Moment → Type 0
  Rings ms = IsWriting ms i serial to bytes action → AreBelled (Sends ms) i

  rung_now : (n k : ℕ) (base : List Moment) → AreBelled base i → present_list base i ≡ Some n → Rings (said (notes.Rung i n k) ∷ base)
  rung_now n k base a present x m j l = by (nat_eq m n) refl
    where
      ms : List Moment
      ms = said (notes.Rung i n k) ∷ base

      by : (b : Bool) → nat_eq m n ≡ b → WasBelled (Sends ms) i m j
      by true e =
          let same : n ≡ m = grind (arith, nat_tests, e) in
          record {
            front = [];
            back = ms;
            serial = serial;
            generation = generation;
            to = to;
            bytes = bytes;
            is = refl;
            rung_then = l;
            present = present ∙ ap (λ y. Some y) same;
            action = action;
            line = x.line;
            rings_it = x.rings_it;
            honest = x.honest;
            access = x.access;
            spelled = x.spelled;
            write = x.write;
            to_target = x.to_target;
            at_login = x.at_login;
            near = x.near m (present ∙ ap (λ y. Some y) same);
          }
      by false e =
          let old : rung ms i m ≡ rung base i m = ap (λ b. cond b (cond (nat_eq m n) (max (rung base i n) (suc k)) (rung base i m)) (rung base i m)) (itself i) ∙ ap (λ b. cond b (max (rung base i n) (suc k)) (rung base i m)) e in
          belled_on (said (notes.Sent serial generation (suc i) to bytes)) ms i m j (belled_on (said (notes.Rung i n k)) base i m j (a m j (subst (λ y. j < y) old l)))

  linked_now : (n k m : ℕ) (base : List Moment) → AreBelled base i → present_list base i ≡ Some n → Rings (behind (own (link_notes i n k ++ notes.Rung i n m ∷ [])) base)
  linked_now n zero m base a present x = rung_now n m base a present x
  linked_now n (suc k) m base a present x =
      let low = said (notes.Low i n (suc k)) ∷ base in
      let linked_one = said (notes.Linked i n (suc k)) ∷ low in
      rung_now n m linked_one (all_on (said (notes.Linked i n (suc k))) low i (λ y. refl) (all_on (said (notes.Low i n (suc k))) base i (λ y. refl) a)) present x

module _ (i serial generation to : ℕ) (bytes : List ℕ) where
  rings_now : (action : Action) (past : List Moment) → rings action ≡ true → (action ≡ actions.Ring → present_list past i ≡ Some (new_list past i)) → AreBelled past i → Rings i serial generation to bytes action (behind (own (action_notes action past i)) past)
  rings_now (actions.Append cmd) past r p a x =
      let first = said (notes.Append i (new_list past i) (new_number past i) cmd.cdb (buffer_of cmd)) ∷ past in
      linked_now i serial generation to bytes (actions.Append cmd) (new_list past i) (new_number past i) (new_number past i) first
      (all_on (said (notes.Append i (new_list past i) (new_number past i) cmd.cdb (buffer_of cmd))) past i (λ y. refl) a)
      (ap (λ b. cond b (Some (new_list past i)) (present_list past i)) (itself i)) x
  rings_now actions.Ring past r p a x = rung_now i serial generation to bytes actions.Ring (new_list past i) (linked past i (new_list past i) - 1) past a (p refl) x
  rings_now (actions.Put cmd) past r p a x = untrue r
  rings_now actions.Low past r p a x = untrue r
  rings_now actions.Link past r p a x = untrue r
  rings_now (actions.Dummy k) past r p a x = untrue r
  rings_now actions.Rom past r p a x = untrue r
  rings_now (actions.Login unit reconnect exclusive password) past r p a x = untrue r
  rings_now (actions.Query unit) past r p a x = untrue r
  rings_now actions.Reconnect past r p a x = untrue r
  rings_now actions.Logout past r p a x = untrue r
  rings_now (actions.Abort k) past r p a x = untrue r
  rings_now actions.AbortSet past r p a x = untrue r
  rings_now actions.UnitReset past r p a x = untrue r
  rings_now actions.TargetReset past r p a x = untrue r
  rings_now actions.AgentReset past r p a x = untrue r
  rings_now actions.State past r p a x = untrue r
  rings_now actions.Enable past r p a x = untrue r

-- what a ring asks for is a write, at ORB_POINTER or DOORBELL of the agent of its session
record Writes (s : InitiatorState) (demand : Demand) : Type 0 where
  access : Access
  is : asks_for demand ≡ Some access
  write : access.is_write ≡ true
  at_session : access.is_block ≡ false → access ≡ register_write (response_in s.seat).agent 0x10

ring_writes : (s : InitiatorState) → Writes s (ring_demand s)
ring_writes s = by (is_unwritten s.marks.pointing)
  where
    pointing : Demand
    pointing = record { wanted = wants.Point (register_of s 0x08) (start (windows.Orb (first_in s.lists.slots.present s))); purpose = purposes.Pointer (list_number s.lists.slots.present s.lists.slots.lists) }

    bell : Demand
    bell = record { wanted = wants.Write (register_of s 0x10) s.counts.running; purpose = purposes.Doorbell }

    by : (b : Bool) → Writes s (cond b pointing bell)
    by true = record { access = pointer_write (response_in s.seat).agent (start (windows.Orb (first_in s.lists.slots.present s))); is = refl; write = refl; at_session = λ e. untrue (sym e) }
    by false = record { access = register_write (response_in s.seat).agent 0x10; is = refl; write = refl; at_session = λ e. refl }

-- the agent of a live session is that of its response
live_agent : (seat : Seat) (login : LoginResponse) → is_in_live (session_of seat) ≡ true → ((response : LoginResponse) → carried seat ≡ Some response → login ≡ response) → (response_in seat).agent ≡ login.agent
live_agent (seats.Live live) login e h = ap (λ (r : LoginResponse). r.agent) (sym (h live.response refl))
live_agent _ login e h = untrue e

-- ---- what is carried on
pub record Belled (ready : Bool) (past : List Moment) (i : ℕ) (s : InitiatorState) : Type 0 where
  pub based : Based ready past i s
  pub held : Held ready past i s
  pub belled : GotBlocks past i → AreBelled past i

number_of : (ready : Bool) (past : List Moment) (i : ℕ) (s : InitiatorState) → Belled ready past i s → s.number ≡ i
number_of ready past i s h = h.based.guarded.pointed.cored.own.number

told_sides : (action : Action) (past : List Moment) (i : ℕ) (s : InitiatorState) → (act_step action empty_outbox s).0 ≡ None → Ready past i s → s.number ≡ i → (act_step action empty_outbox s).1.0.sides ≡ own (action_notes action past i)
told_sides action past i s done known number = action_law.notes past s action empty_outbox (subst (λ j. AreRows past j s.lists.slots) (sym number) known.rows) done ∙ ap (λ j. own (action_notes action past j)) number

acts_others : (action : Action) (past : List Moment) (i : ℕ) (s : InitiatorState) → (act_step action empty_outbox s).0 ≡ None → Ready past i s → s.number ≡ i → (j : ℕ) → nat_eq j i ≡ false → AreBelled past j → AreBelled (behind (act_step action empty_outbox s).1.0.sides past) j
acts_others action past i s done known number j e a =
    subst (λ xs. AreBelled (behind xs past) j) (sym (told_sides action past i s done known number)) (others_told (action_notes action past i) past j (acts_of_other action past j i (of_other j i e)) a)

module _ (ready : Bool) (action : Action) (past : List Moment) (i : ℕ) (s : InitiatorState) (line : event_of past ≡ Some (events.Act i action)) (fit : IsLineOf action) (done : (act_step action empty_outbox s).0 ≡ None) (shown : IsShown past i s.target s.layer) (known : Ready past i s) (h : Belled ready past i s) (blocks : GotBlocks past i) where
  abbrev t : Turn
  t = (act_step action empty_outbox s).1

  sides_are : t.0.sides ≡ own (action_notes action past i)
  sides_are = told_sides action past i s done known (number_of ready past i s h)

  own_quiet : rings action ≡ false → AreBelled (behind t.0.sides past) i
  own_quiet r = subst (λ xs. AreBelled (behind xs past) i) (sym sides_are) (quiet_told action past i r (h.belled blocks))

  quiet_belled : t.0.packets ≡ [] → AreBelled (behind t.0.sides past) i
  quiet_belled none = by (rings action) refl
    where
      by : (b : Bool) → rings action ≡ b → AreBelled (behind t.0.sides past) i
      by true r = absurd (ring_sends action s r done none)
      by false r = own_quiet r

  present_then : action ≡ actions.Ring → present_list past i ≡ Some (new_list past i)
  present_then e = ring_present action past i s sides_are h.based.guarded.shown e

  module _ (packet : Outgoing) (one : t.0.packets ≡ packet ∷ []) (serial generation : ℕ) (honest : (terms past).injected serial ≡ false) where
    told : Told past t.0.sides i
    told = tame_told t.0.sides past i (act_left action s done).told

    agent : rings action ≡ true → (response_in s.seat).agent ≡ (host_at (behind t.0.sides past) i).login.agent
    agent r =
        live_agent s.seat (host_at (behind t.0.sides past) i).login (ringing action s (act_allowed action s done) r).session
        (λ response f. steps_login t.0.sides past i (act_steps action s r) ∙ (h.held.own blocks).login response f)

    near_now : {access : Access} → rings action ≡ true → access ≡ register_write (response_in s.seat).agent 0x10 → (n other : ℕ) → SerialsCount (behind t.0.sides past) → AreSent (behind t.0.sides past) → AreUnrefused (behind t.0.sides past) i → present_list (behind t.0.sides past) i ≡ Some n → pointed_list (behind t.0.sides past) other i ≡ Some n → IsBelledAt (behind t.0.sides past) i other access
    near_now r is n other counts sent unrefused present pointed =
        let base = (response_in s.seat).agent in
        let x = points_then ready action past i s line fit done shown known h.based (record { serials = counts; sent = sent }) unrefused n other present pointed (response_in s.seat) (live_carried s.seat (ringing action s (act_allowed action s done) r).session) in
        record { base = base; is = is; address = x.address; asked = asked_of (behind t.0.sides past) i other (pointer_write base x.address) x.is }

    writing : rings action ≡ true → IsWriting (behind t.0.sides past) i serial 0 packet.bytes action
    writing r =
        let has = act_bytes action s packet done one in
        let demand : ring_demand s ≡ has.demand = (let x = sym (ring_asks action s r) ∙ has.is in cc) in
        let w = ring_writes s in
        record {
          line = told.line ∙ line;
          rings_it = r;
          honest = ap (λ (y : Terms). y.injected serial) told.wire ∙ honest;
          access = w.access;
          spelled = ap access_in_bytes has.bytes ∙ (known.spelled action has.demand has.asked has.is has.found ∙ (ap asks_for (sym demand) ∙ w.is));
          write = w.write;
          to_target = refl;
          at_login = λ e. w.at_session e ∙ ap (λ base. register_write base 0x10) (agent r);
          near = λ n present other counts sent unrefused pointed quad. near_now r (w.at_session quad) n other counts sent unrefused present pointed;
        }

    asking_belled : AreBelled (said (notes.Sent serial generation (suc i) 0 packet.bytes) ∷ behind t.0.sides past) i
    asking_belled = by (rings action) refl
      where
        by : (b : Bool) → rings action ≡ b → AreBelled (said (notes.Sent serial generation (suc i) 0 packet.bytes) ∷ behind t.0.sides past) i
        by false r = all_on (said (notes.Sent serial generation (suc i) 0 packet.bytes)) (behind t.0.sides past) i (λ n. refl) (own_quiet r)
        by true r =
            subst (λ xs. AreBelled (said (notes.Sent serial generation (suc i) 0 packet.bytes) ∷ behind xs past) i) (sym sides_are)
            (rings_now i serial generation 0 packet.bytes action past r present_then (h.belled blocks) (subst (λ xs. IsWriting (behind xs past) i serial 0 packet.bytes action) sides_are (writing r)))

pub belled_carried : (ready : Bool) → Carries Ready (Belled ready)
belled_carried ready = record {
  known = (based_carried ready).known;
  number = λ past i s h. h.based.guarded.pointed.cored.own.number;
  asked = λ line event past i s h. record {
    based = (based_carried ready).asked line event past i s h.based;
    held = (held_carried ready).asked line event past i s h.held;
    belled = λ g. all_on (asked line event) past i (λ n. refl) (h.belled g);
  };
  apart = λ note past i s e w h. record {
    based = (based_carried ready).apart note past i s e w h.based;
    held = (held_carried ready).apart note past i s e w h.held;
    belled = λ g. all_on (said note) past i (apart_rung note past i e) (h.belled (peel note past i g));
  };
  sent = λ serial generation from to bytes past i s n h. record {
    based = (based_carried ready).sent serial generation from to bytes past i s n h.based;
    held = (held_carried ready).sent serial generation from to bytes past i s n h.held;
    belled = λ g. all_on (said (notes.Sent serial generation from to bytes)) past i (λ m. refl) (h.belled g);
  };
  hears = λ serial generation bytes past i s heard shown later h.
      let tells = (based_carried ready).hears serial generation bytes past i s heard shown later h.based in
      let holds = (held_carried ready).hears serial generation bytes past i s heard shown later h.held in
      let left = receive_left generation bytes s in
      let r = receive_step generation bytes empty_outbox s in
      let none = tell.receives_unstepped generation bytes empty_outbox s tt in
      let note = judged_note serial r.0 in
      let now = said note ∷ past in
      record {
        own = record { based = tells.own; held = holds.own; belled = λ g. all_told r.1.0.sides now i none (all_on (said note) past i (judged_rung serial r.0 past i) (h.belled (peel note past i (behind_blocks r.1.0.sides now i left.told g)))) };
        others = λ j x e g. record { based = tells.others j x e g.based; held = holds.others j x e g.held; belled = λ b. all_told r.1.0.sides now j none (g.belled (behind_blocks r.1.0.sides now j left.told b)) };
      };
  expires = λ serial label past i s shown h.
      let tells = (based_carried ready).expires serial label past i s shown h.based in
      let holds = (held_carried ready).expires serial label past i s shown h.held in
      let left = expire_left label s in
      let t : Turn = (expire_step label empty_outbox s).1 in
      let none = tell.expires_unstepped label empty_outbox s tt in
      let now = said (notes.TimedOut serial) ∷ past in
      record {
        own = record { based = tells.own; held = holds.own; belled = λ g. all_told t.0.sides now i none (all_on (said (notes.TimedOut serial)) past i (λ n. refl) (h.belled (behind_blocks t.0.sides now i left.told g))) };
        others = λ j x e g. record { based = tells.others j x e g.based; held = holds.others j x e g.held; belled = λ b. all_told t.0.sides now j none (g.belled (behind_blocks t.0.sides now j left.told b)) };
      };
  stale = λ label past i s e h. record { based = (based_carried ready).stale label past i s e h.based; held = (held_carried ready).stale label past i s e h.held; belled = h.belled };
  sees = λ generation id target past i s flag h.
      let tells = (based_carried ready).sees generation id target past i s flag h.based in
      let holds = (held_carried ready).sees generation id target past i s flag h.held in
      let left = see_left generation id target s in
      let t : Turn = see_step generation id target empty_outbox s in
      let none = tell.sees_unstepped generation id target empty_outbox s tt in
      let now = said (notes.Seen (suc i) generation) ∷ past in
      record {
        own = record { based = tells.own; held = holds.own; belled = λ g. all_told t.0.sides now i none (all_on (said (notes.Seen (suc i) generation)) past i (λ n. refl) (h.belled (behind_blocks t.0.sides now i left.told g))) };
        others = λ j x e g. record { based = tells.others j x e g.based; held = holds.others j x e g.held; belled = λ b. all_told t.0.sides now j none (g.belled (behind_blocks t.0.sides now j left.told b)) };
      };
  acts = λ action past i s line fit done shown known h.
      let does = (based_carried ready).acts action past i s line fit done shown known h.based in
      let holds = (held_carried ready).acts action past i s line fit done shown tt h.held in
      let t : Turn = (act_step action empty_outbox s).1 in
      let tame = (act_left action s done).told in
      record {
        others = λ j x e g. record { based = does.others j x e g.based; held = holds.others j x e g.held; belled = λ b. let blocks = behind_blocks t.0.sides past j tame b in acts_others action past i s done known (number_of ready past i s h) j e (g.belled blocks) };
        quiet = λ none. record { based = does.quiet none; held = holds.quiet none; belled = λ g. quiet_belled ready action past i s line fit done shown known h (behind_blocks t.0.sides past i tame g) none };
        asking = λ packet one serial generation honest q. record {
          based = does.asking packet one serial generation honest q;
          held = holds.asking packet one serial generation honest q;
          belled = λ g. asking_belled ready action past i s line fit done shown known h (behind_blocks t.0.sides past i tame g) packet one serial generation honest;
        };
      };
}

pub first_belled : (line i initiators : ℕ) (ready : Bool) → i < initiators → Belled ready (said (notes.Begin initiators ready) ∷ asked line (events.Begin initiators ready) ∷ []) i (new_state i ready)
first_belled line i initiators ready b = record { based = first_based line i initiators ready b; held = first_held line i initiators ready b; belled = λ g n k l. absurd (omega (arith, l)) }
