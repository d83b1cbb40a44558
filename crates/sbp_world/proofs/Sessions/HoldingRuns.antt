-- What an action, a time-out and a sight leave of what an initiator holds; and so every run.
use Rattle.sbp_world.proofs.Words.Std.{arith, ◌≡◌, ◌∙◌, refl, sym, ap, subst, ℕ, suc, ◌<◌, ◌==◌, not, nat_eq, nat_lt, Bool, true, false, cond, List, [], ◌∷◌, length, replicate, Option, Some, None, nat_tests, get_or-replicate, get_or-set_other, get_or-set_at, not-false}
use Rattle.sbp_world.proofs.Words.Wire.{LabelParts, Asked, Layer, expiring_step, judging_step, seeing_step, judged_note, buffer_of, OutboxState, empty_outbox, Moment, asks, said, terms, Action, Cmd, Note, Operation, Side}
use Rattle.sbp_world.proofs.Words.Initiator.{PlaceMemory, IsWhole, Memory, empty_place, new_memory, patch, place_at, with_bytes, LoginResponse, ManagementOrb, management_bytes, PresentList, ListState, dummy_lists, high_lists, low_lists, manage_lists, find_in, TicketParts, act_step, append_step, asked_as, asked_for, counted, demand_of, demanded_as, done_step, dummy_for, facts_with, judged_as, link_as, link_step, login_id, login_orb, low_as, low_step, managed_by, orb_by, pinned_for, put_as, put_step, ring_for, with_running, put_lists, Demand, Purpose, Running, InitiatorState, Turn, told, with_request, new_state, own_rom, ready_response, expire_step, expired_as, receive_step, is_in_out, refusal, see_step, is_unwritten, last_linked, no_marks, place_of, session_of, carried, goes, pointing, sent, Seat}
use Rattle.sbp_world.proofs.Words.Laws.{event_of, Host, host_at, new_host, ready_host}
use Rattle.sbp_world.proofs.Words.World.{behind, history_of, GotBlocks, AreBuffers, HoldingLaw, HoldsLogin}
use Rattle.bus_memory.specs.declared.window.Window.TheVariants as windows
use Rattle.sbp_world.proofs.Hosts.Acts.{Goes, goes_layer, goes_on}
use Rattle.sbp_world.proofs.Hosts.Carried.{between_runs, of_runs}
use Rattle.sbp_world.proofs.Hosts.Carries.{Carries, Does, IsLineOf, Nothing, Tells}
use Rattle.sbp_world.proofs.Hosts.Hosted.{Cored, cored_carried, expires_fit, first_cored}
use Rattle.sbp_world.proofs.Hosts.Layered.{AreTame, expire_left, receive_left}
use Rattle.sbp_world.proofs.Hosts.PointSees.{see_left}
use Rattle.sbp_world.proofs.Hosts.ActLeft.{act_left}
use Rattle.sbp_world.proofs.Hosts.Pointed.{stale_is}
use Rattle.sbp_world.proofs.Hosts.Shown.{IsHeard, IsShown}
use Rattle.sbp_initiator.specs.declared.purpose.Pointing.TheVariants as pointings
use Rattle.sbp_journal.specs.declared.event.Action.TheVariants as actions
use Rattle.sbp_journal.specs.declared.event.Event.TheVariants as events
use Rattle.sbp_journal.specs.declared.note.Note.TheVariants as notes
use Rattle.sbp_journal.specs.declared.operation.Operation.TheVariants as operations
use Rattle.sbp_journal.specs.declared.side.Side.TheVariants as sides
use Rattle.sbp_session.specs.declared.seat.Seat.TheVariants as seats
use Rattle.sbp_world.proofs.Sessions.Buffers.{buffers_stand}
use Rattle.sbp_world.proofs.Sessions.Gears.{apart_gear, gear_at, sent_gear, seen_gear, timed_gear}
use Rattle.sbp_world.proofs.Sessions.BlockRuns.{blocks_law}
use Rattle.sbp_world.proofs.Sessions.Holding.{Leaves, Own, leaves_mild, mild_self, own_gear, whole_of}
use Rattle.sbp_world.proofs.Sessions.HoldingHears.{hears_own}
use Rattle.sbp_world.proofs.Sessions.Mild.{Mild, carries_old, expires_mild, sees_mild, still, tells}
use Rattle.sbp_world.proofs.Sessions.Places.{Stand, dummy_places, high_places, low_places, pin_places, put_places}
use Rattle.sbp_world.proofs.Common.{untrue, none_is}

-- ---- the steps of a list

module _ (s : InitiatorState) where
  lists_on : (o : OutboxState) (u : InitiatorState) (lists : ListState) → Stand u.lists.memory lists.memory → Mild s (o, u) → Mild s (o, record u { lists = lists })
  lists_on o u lists m h = still s (o, u) o (record u { lists = lists }) refl (λ response e. e) m refl (λ running e. e) h

  puts : (r : Option TicketParts × ListState) (cmd : Cmd) (o : OutboxState) (u : InitiatorState) → Stand u.lists.memory r.1.memory → Mild s (o, u) → Mild s (put_as r cmd o u)
  puts (None, lists) cmd o u m h = lists_on o u lists m h
  puts (Some t, lists) cmd o u m h =
      let note = notes.Append u.number t.list t.number cmd.cdb (buffer_of cmd) in
      let v = record u { lists = lists } in
      let k = lists_on (told o note) u lists m (tells s note o u refl h) in
      by (t.number == 0) (told o note) v k (still s (told o note, v) (told o note) (record v { marks = record no_marks { first = t.slot } }) refl (λ response e. e) refl refl (λ running e. e) k)
    where
      by : (b : Bool) (p : OutboxState) (v : InitiatorState) → Mild s (p, v) → Mild s (p, record v { marks = record no_marks { first = t.slot } }) → Mild s (p, cond b (record v { marks = record no_marks { first = t.slot } }) v)
      by true p v k l = l
      by false p v k l = k

  lows : (r : Option TicketParts × ListState) (o : OutboxState) (u : InitiatorState) → Stand u.lists.memory r.1.memory → Mild s (o, u) → Mild s (low_as r o u)
  lows (None, lists) o u m h = lists_on o u lists m h
  lows (Some t, lists) o u m h = let note = notes.Low u.number t.list t.number in lists_on (told o note) u lists m (tells s note o u refl h)

  links : (r : Option TicketParts × ListState) (o : OutboxState) (u : InitiatorState) → Stand u.lists.memory r.1.memory → Mild s (o, u) → Mild s (link_as r o u)
  links (None, lists) o u m h = lists_on o u lists m h
  links (Some t, lists) o u m h = let note = notes.Linked u.number t.list t.number in lists_on (told o note) u lists m (tells s note o u refl h)

  abbrev rung : InitiatorState → InitiatorState
  rung u = record u { marks = record u.marks { pointing = pointings.Written }; seat = goes pointing u.seat }

  rings : (list : Option PresentList) (o : OutboxState) (u : InitiatorState) → Mild s (o, u) → Mild s (ring_for list o u)
  rings None o u h = h
  rings (Some list) o u h =
      let note = notes.Rung u.number list.tail.list (last_linked list) in
      by (is_unwritten u.marks.pointing) (told o note) (tells s note o u refl h)
    where
      by : (b : Bool) (p : OutboxState) → Mild s (p, u) → Mild s (p, cond b (rung u) (with_running u))
      by true p k = still s (p, u) p (rung u) refl (λ response e. carries_old pointing u.seat response refl e) refl refl (λ running e. e) k
      by false p k = still s (p, u) p (with_running u) refl (λ response e. e) refl refl (λ running e. e) k

  dummies : (t : Option TicketParts) (o : OutboxState) (u : InitiatorState) → Mild s (o, u) → Mild s (dummy_for t o u)
  dummies None o u h = h
  dummies (Some t) o u h = let note = notes.Dummied u.number t.list t.number in lists_on (told o note) u (dummy_lists u.lists t) (dummy_places u.lists t) (tells s note o u refl h)

  appends : (cmd : Cmd) (o : OutboxState) (u : InitiatorState) → Mild s (o, u) → Mild s (append_step cmd o u)
  appends cmd o u h =
      let a = put_step cmd o u in
      let b = low_step a.0 a.1 in
      let c = link_step b.0 b.1 in
      let put = puts (put_lists u.lists cmd u.layer.node (login_id u)) cmd o u (put_places u.lists cmd u.layer.node (login_id u)) h in
      let low = lows (low_lists a.1.lists) a.0 a.1 (low_places a.1.lists) put in
      rings c.1.lists.slots.present c.0 c.1 (links (high_lists b.1.lists) b.0 b.1 (high_places b.1.lists) low)

-- ---- an action

-- a management ORB that stands in a place leaves the buffers
manage_buffers : (responses : List (List ℕ)) (lists : ListState) (place : ℕ) (orb : ManagementOrb) → place < length lists.memory.places → AreBuffers responses lists.memory → AreBuffers responses (manage_lists lists place orb).memory
unfolding manage_lists
manage_buffers responses lists place orb b h = record { size = h.size; each = λ k c. h.each k c ∙ sym (by k (nat_eq k place) refl) }
  where
    m : Memory
    m = lists.memory

    by : (k : ℕ) (same : Bool) → nat_eq k place ≡ same → (place_at (with_bytes m (windows.Management place) 0 (management_bytes orb)) k).response ≡ (place_at m k).response
    by k true e =
        let same : k ≡ place = grind (arith, nat_tests) in
        ap (λ (p : PlaceMemory). p.response) (get_or-set_at m.places place k (record (place_at m place) { orb = patch (place_at m place).orb 0 (management_bytes orb) }) empty_place same b)
        ∙ ap (λ n. (place_at m n).response) (sym same)
    by k false e =
        ap (λ (p : PlaceMemory). p.response) (get_or-set_other m.places place k (record (place_at m place) { orb = patch (place_at m place).orb 0 (management_bytes orb) }) empty_place
        (λ same. (let yes : nat_eq k place ≡ true = grind (arith, nat_tests) in absurd (let no : false ≡ true = sym e ∙ yes in cc))))

module _ (Case : Type 0) (past : List Moment) (i : ℕ) (s : InitiatorState) (whole : IsWhole s.lists.memory) (h : Case → Own past i s) where
  abbrev At : Turn → Type 0
  At t = Leaves Case past i t

  mild_at : (t : Turn) → Mild s t → At t
  mild_at t m = leaves_mild Case past i s t m h

  -- an operation that has no management ORB begins
  begun_at : (operation : Operation) (u : InitiatorState) → u.seat ≡ s.seat → u.lists.memory ≡ s.lists.memory → (act : ℕ) (managed : Option ℕ) → u.operation ≡ Some (record { operation = operation; act = act; managed = managed }) → (operation ≡ operations.Login → ⊥) → At (empty_outbox, u)
  begun_at operation u seat memory act managed e n = record {
    own = λ x. record {
      login = λ response f. (h x).login response (sym (ap carried seat) ∙ f);
      responses = subst (λ m. AreBuffers (host_at past i).responses m) (sym memory) (h x).responses;
      none = λ running f g. absurd (n (let same : record { operation = operation; act = act; managed = managed } ≡ running = (let both : Some (record { operation = operation; act = act; managed = managed }) ≡ Some running = sym e ∙ f in cc) in ap (λ (r : Running). r.operation) same ∙ g));
    };
    others = λ j f. refl;
  }

  -- one that has, and may move the session
  managed_at : (orb : ManagementOrb) (operation : Operation) (u : InitiatorState) → ((response : LoginResponse) → carried u.seat ≡ Some response → carried s.seat ≡ Some response) → Stand (manage_lists s.lists (place_of s.counts.managed) orb).memory u.lists.memory → u.operation ≡ Some (record { operation = operation; act = s.counts.acts; managed = Some s.counts.managed }) → (operation ≡ operations.Login → carried u.seat ≡ None) → At (empty_outbox, u)
  managed_at orb operation u seat memory e n = record {
    own = λ x. record {
      login = λ response f. (h x).login response (seat response f);
      responses = buffers_stand (host_at past i).responses (manage_lists s.lists (place_of s.counts.managed) orb).memory u.lists.memory memory
          (manage_buffers (host_at past i).responses s.lists (place_of s.counts.managed) orb (let z = whole.places in omega arith) (h x).responses);
      none = λ running f g. n (let same : record { operation = operation; act = s.counts.acts; managed = Some s.counts.managed } ≡ running = (let both : Some (record { operation = operation; act = s.counts.acts; managed = Some s.counts.managed }) ≡ Some running = sym e ∙ f in cc) in ap (λ (r : Running). r.operation) same ∙ g);
    };
    others = λ j f. refl;
  }

  -- a login is sent by a session that is out
  enters : (seat : Seat) → is_in_out (session_of seat) ≡ true → carried (goes sent seat) ≡ None
  unfolding goes
  enters (seats.Out out) e = refl
  enters (seats.Entering entering) e = untrue e
  enters (seats.Live live) e = untrue e
  enters (seats.Held response) e = untrue e
  enters (seats.Returning response) e = untrue e
  enters (seats.Leaving response) e = untrue e
  enters (seats.Stuck origin) e = untrue e

  keeps_seat : (response : LoginResponse) → carried s.seat ≡ Some response → carried s.seat ≡ Some response
  keeps_seat response e = e

  sends_seat : (response : LoginResponse) → carried (goes sent s.seat) ≡ Some response → carried s.seat ≡ Some response
  sends_seat response e = carries_old sent s.seat response refl e

  aborts : (orb : ManagementOrb) (t : Option TicketParts) → At (empty_outbox, pinned_for t (managed_by orb operations.Abort s))
  aborts orb None = managed_at orb operations.Abort (managed_by orb operations.Abort s) keeps_seat refl refl (λ e. absurd (let no : operations.Abort ≡ operations.Login = e in cc))
  aborts orb (Some t) =
      let v = managed_by orb operations.Abort s in
      managed_at orb operations.Abort (pinned_for (Some t) v) keeps_seat (pin_places v.lists t) refl (λ e. absurd (let no : operations.Abort ≡ operations.Login = e in cc))

  does : (action : Action) → Goes action s → At (done_step action empty_outbox s)
  unfolding done_step
  does (actions.Put cmd) g = mild_at _ (puts s (put_lists s.lists cmd s.layer.node (login_id s)) cmd empty_outbox s (put_places s.lists cmd s.layer.node (login_id s)) (mild_self s))
  does (actions.Append cmd) g = mild_at _ (appends s cmd empty_outbox s (mild_self s))
  does actions.Low g = mild_at _ (lows s (low_lists s.lists) empty_outbox s (low_places s.lists) (mild_self s))
  does actions.Link g = mild_at _ (links s (high_lists s.lists) empty_outbox s (high_places s.lists) (mild_self s))
  does actions.Ring g = mild_at _ (rings s s.lists.slots.present empty_outbox s (mild_self s))
  does (actions.Dummy orb) g = mild_at _ (dummies s (find_in s.lists.slots.slots orb) empty_outbox s (mild_self s))
  does actions.Rom g = begun_at operations.Rom _ refl refl s.counts.acts None refl (λ e. (let no : operations.Rom ≡ operations.Login = e in cc))
  does actions.AgentReset g = begun_at operations.AgentReset _ refl refl s.counts.acts None refl (λ e. (let no : operations.AgentReset ≡ operations.Login = e in cc))
  does actions.State g = mild_at _ (still s (empty_outbox, s) empty_outbox _ refl (λ response e. e) refl refl (λ running e. e) (mild_self s))
  does actions.Enable g = begun_at operations.Enable _ refl refl s.counts.acts None refl (λ e. (let no : operations.Enable ≡ operations.Login = e in cc))
  does (actions.Login unit reconnect exclusive password) g =
      managed_at (login_orb s unit reconnect exclusive password) operations.Login _ sends_seat refl refl (λ e. enters s.seat (not-false (is_in_out (session_of s.seat)) g.rows.wrong_state))
  does (actions.Query unit) g = managed_at (orb_by (actions.Query unit) s) operations.Query _ keeps_seat refl refl (λ e. absurd (let no : operations.Query ≡ operations.Login = e in cc))
  does actions.Reconnect g = managed_at (orb_by actions.Reconnect s) operations.Reconnect _ sends_seat refl refl (λ e. absurd (let no : operations.Reconnect ≡ operations.Login = e in cc))
  does actions.Logout g = managed_at (orb_by actions.Logout s) operations.Logout _ sends_seat refl refl (λ e. absurd (let no : operations.Logout ≡ operations.Login = e in cc))
  does (actions.Abort orb) g = aborts (orb_by (actions.Abort orb) s) (find_in (managed_by (orb_by (actions.Abort orb) s) operations.Abort s).lists.slots.slots orb)
  does actions.AbortSet g = managed_at (orb_by actions.AbortSet s) operations.AbortSet _ keeps_seat refl refl (λ e. absurd (let no : operations.AbortSet ≡ operations.Login = e in cc))
  does actions.UnitReset g = managed_at (orb_by actions.UnitReset s) operations.UnitReset _ keeps_seat refl refl (λ e. absurd (let no : operations.UnitReset ≡ operations.Login = e in cc))
  does actions.TargetReset g = managed_at (orb_by actions.TargetReset s) operations.TargetReset _ keeps_seat refl refl (λ e. absurd (let no : operations.TargetReset ≡ operations.Login = e in cc))

-- behind a layer, a request and the count of the call
module _ (Case : Type 0) (past : List Moment) (i : ℕ) where
  layer_own : (s : InitiatorState) (layer : Layer Purpose) → Own past i s → Own past i (record s { layer = layer })
  layer_own s layer h = record { login = h.login; responses = h.responses; none = h.none }

  counted_own : (o p : OutboxState) (u : InitiatorState) → p.sides ≡ o.sides → Leaves Case past i (o, u) → Leaves Case past i (p, counted u)
  counted_own o p u e h = record {
    own = λ x. subst (λ told. Own (behind told past) i (counted u)) (sym e) (record { login = (h.own x).login; responses = (h.own x).responses; none = (h.own x).none });
    others = λ j f. ap (λ told. gear_at (behind told past) j) e ∙ h.others j f;
  }

  module _ (action : Action) (s : InitiatorState) (whole : IsWhole s.lists.memory) (h : Case → Own past i s) where
    asked_own : (r : Option Asked × Layer Purpose) → Goes action s → (asked_as r action empty_outbox s).0 ≡ None → Leaves Case past i (asked_as r action empty_outbox s).1
    asked_own (None, layer) g e = absurd (let no : Some 10 ≡ None = e in cc)
    asked_own (Some asked, layer) g e =
        let u = record s { layer = layer } in
        let t = done_step action empty_outbox u in
        counted_own t.0 (with_request t.0 s.target asked) t.1 refl (does Case past i u whole (λ x. layer_own s layer (h x)) action (goes_layer action s layer g))

    demanded_own : (demand : Option Demand) → Goes action s → (demanded_as demand action empty_outbox s).0 ≡ None → Leaves Case past i (demanded_as demand action empty_outbox s).1
    demanded_own None g e = let t = done_step action empty_outbox s in counted_own t.0 t.0 t.1 refl (does Case past i s whole h action g)
    demanded_own (Some demand) g e = asked_own (asked_for demand s) g e

    judged_own : (refused : Option ℕ) → refusal action (facts_with true s action) ≡ refused → (judged_as refused action empty_outbox s).0 ≡ None → Leaves Case past i (judged_as refused action empty_outbox s).1
    judged_own (Some number) f e = absurd (let no : Some number ≡ None = e in cc)
    judged_own None f e = demanded_own (demand_of action s) (goes_on action s f) e

    act_own : (act_step action empty_outbox s).0 ≡ None → Leaves Case past i (act_step action empty_outbox s).1
    unfolding act_step
    act_own e = judged_own (refusal action (facts_with true s action)) refl e

-- ---- what the lines of a run carry on

pub record Held (ready : Bool) (past : List Moment) (i : ℕ) (s : InitiatorState) : Type 0 where
  pub cored : Cored ready past i s
  pub own : GotBlocks past i → Own past i s

-- what was got by others, and before, says less
pub peel : (note : Note) (past : List Moment) (i : ℕ) → GotBlocks (said note ∷ past) i → GotBlocks past i
peel (notes.Got serial) past i g = g.1
peel _ past i g = g

-- what an initiator tells is of no packet
pub behind_blocks : (told : List Side) (past : List Moment) (i : ℕ) → AreTame told → GotBlocks (behind told past) i → GotBlocks past i
behind_blocks [] past i t g = g
behind_blocks (sides.Own note ∷ later) past i t g = peel note past i (behind_blocks later (said note ∷ past) i t.1 g)
behind_blocks (side ∷ later) past i t g = absurd t.0

seen_mild : (generation id target : ℕ) (s : InitiatorState) → Mild s (see_step generation id target empty_outbox s)
unfolding see_step
seen_mild generation id target s = sees_mild s (seeing_step s.layer generation id) target s (mild_self s)

module _ (ready : Bool) where
  abbrev P : List Moment → ℕ → InitiatorState → Type 0
  P = Held ready

  tells_of : (now : List Moment) (i : ℕ) (t : Turn) → AreTame t.0.sides → Tells (Cored ready) now i t → Leaves (GotBlocks now i) now i t → Tells P now i t
  tells_of now i t tame c l = record {
    own = record { cored = c.own; own = λ g. l.own (behind_blocks t.0.sides now i tame g) };
    others = λ j x e h. record { cored = c.others j x e h.cored; own = λ g. own_gear now (behind t.0.sides now) j x (l.others j e) (h.own (behind_blocks t.0.sides now j tame g)) };
  }

  noted : (note : Note) (past : List Moment) (i : ℕ) (s : InitiatorState) → Cored ready (said note ∷ past) i s → gear_at (said note ∷ past) i ≡ gear_at past i → P past i s → P (said note ∷ past) i s
  noted note past i s c e h = record { cored = c; own = λ g. own_gear past (said note ∷ past) i s e (h.own (peel note past i g)) }

  hears : (serial generation : ℕ) (bytes : List ℕ) (past : List Moment) (i : ℕ) (s : InitiatorState) → IsHeard past i serial generation bytes → IsShown past i s.target s.layer → IsShown (said (judged_note serial (receive_step generation bytes empty_outbox s).0) ∷ past) i s.target (judging_step s.layer generation bytes).1 → P past i s → Tells P (said (judged_note serial (receive_step generation bytes empty_outbox s).0) ∷ past) i (receive_step generation bytes empty_outbox s).1
  hears serial generation bytes past i s heard shown after h =
      let judged = (receive_step generation bytes empty_outbox s).0 in
      let now = said (judged_note serial judged) ∷ past in
      tells_of now i (receive_step generation bytes empty_outbox s).1 (receive_left generation bytes s).told ((cored_carried ready).hears serial generation bytes past i s heard shown after h.cored)
      (hears_own ready past i s h.cored serial generation bytes heard (λ j. GotBlocks (said (judged_note serial j) ∷ past) i) (λ j g. h.own (peel (judged_note serial j) past i g)) (λ g. g.0))

  late : (serial : ℕ) (label : LabelParts) (past : List Moment) (i : ℕ) (s : InitiatorState) → IsShown (said (notes.TimedOut serial) ∷ past) i s.target (expiring_step s.layer s.target label).1 → P past i s → Tells P (said (notes.TimedOut serial) ∷ past) i (expire_step label empty_outbox s).1
  unfolding expire_step
  late serial label past i s shown h =
      let now = said (notes.TimedOut serial) ∷ past in
      let r = expiring_step s.layer s.target label in
      tells_of now i (expire_step label empty_outbox s).1 (expire_left label s).told ((cored_carried ready).expires serial label past i s shown h.cored)
      (leaves_mild (GotBlocks now i) now i s (expired_as r empty_outbox s).1 (expires_mild s r.0 r.1 empty_outbox s (expires_fit ready i s h.cored.own.called label) (mild_self s)) (λ g. own_gear past now i s (timed_gear serial past i) (h.own g)))

  sights : (generation id target : ℕ) (past : List Moment) (i : ℕ) (s : InitiatorState) → (seeing_step s.layer generation id).0 ≡ not (generation == (terms past).generation (suc i)) → P past i s → Tells P (said (notes.Seen (suc i) generation) ∷ past) i (see_step generation id target empty_outbox s)
  sights generation id target past i s e h =
      let now = said (notes.Seen (suc i) generation) ∷ past in
      tells_of now i (see_step generation id target empty_outbox s) (see_left generation id target s).told ((cored_carried ready).sees generation id target past i s e h.cored)
      (leaves_mild (GotBlocks now i) now i s (see_step generation id target empty_outbox s) (seen_mild generation id target s) (λ g. own_gear past now i s (seen_gear (suc i) generation past i) (h.own g)))

  acts_held : (action : Action) (past : List Moment) (i : ℕ) (s : InitiatorState) → event_of past ≡ Some (events.Act i action) → IsLineOf action → (act_step action empty_outbox s).0 ≡ None → IsShown past i s.target s.layer → P past i s → Does P past i (act_step action empty_outbox s).1
  acts_held action past i s under fit done shown h =
      let t = (act_step action empty_outbox s).1 in
      let c = (cored_carried ready).acts action past i s under fit done shown tt h.cored in
      let tame = (act_left action s done).told in
      let l = act_own (GotBlocks past i) past i action s (whole_of ready past i s h.cored) h.own done in
      record {
        others = λ j x e k. record { cored = c.others j x e k.cored; own = λ g. own_gear past (behind t.0.sides past) j x (l.others j e) (k.own (behind_blocks t.0.sides past j tame g)) };
        quiet = λ none. record { cored = c.quiet none; own = λ g. l.own (behind_blocks t.0.sides past i tame g) };
        asking = λ packet one serial generation f q. record {
          cored = c.asking packet one serial generation f q;
          own = λ g. own_gear (behind t.0.sides past) (said (notes.Sent serial generation (suc i) 0 packet.bytes) ∷ behind t.0.sides past) i t.1 (sent_gear serial generation (suc i) 0 packet.bytes (behind t.0.sides past) i) (l.own (behind_blocks t.0.sides past i tame g));
        };
      }

  pub held_carried : Carries Nothing (Held ready)
  held_carried = record {
    known = λ line event past i s h. tt;
    number = λ past i s h. h.cored.own.number;
    asked = λ line event past i s h. record { cored = (cored_carried ready).asked line event past i s h.cored; own = λ g. own_gear past (asks line event ∷ past) i s refl (h.own g) };
    apart = λ note past i s e w h. noted note past i s ((cored_carried ready).apart note past i s e w h.cored) (apart_gear note past i e w) h;
    sent = λ serial generation from to bytes past i s n h. noted (notes.Sent serial generation from to bytes) past i s ((cored_carried ready).sent serial generation from to bytes past i s n h.cored) (sent_gear serial generation from to bytes past i) h;
    hears = hears;
    expires = late;
    stale = λ label past i s e h. subst (P past i) (sym (stale_is ready label s e)) h;
    sees = sights;
    acts = λ action past i s under fit done shown known h. acts_held action past i s under fit done shown h;
  }

-- ---- the beginning

first_buffers : (quads : List ℕ) → AreBuffers (replicate 2 (replicate 256 0)) (new_memory quads)
unfolding new_memory empty_place
first_buffers quads = record {
  size = refl;
  each = λ k b. get_or-replicate 2 k (replicate 256 0) [] b ∙ ap (λ (p : PlaceMemory). p.response) (sym (get_or-replicate 2 k empty_place empty_place b));
}

first_own : (line i initiators : ℕ) (ready : Bool) → i < initiators → Own (said (notes.Begin initiators ready) ∷ asks line (events.Begin initiators ready) ∷ []) i (new_state i ready)
unfolding new_state
first_own line i initiators true b =
    let e : host_at (said (notes.Begin initiators true) ∷ asks line (events.Begin initiators true) ∷ []) i ≡ ready_host i = (let l : nat_lt i initiators ≡ true = grind (arith, nat_tests) in ap (λ c. cond c (ready_host i) new_host) l) in
    record {
      login = λ response f. ap (λ (h : Host). h.login) e ∙ (let same : ready_response i ≡ response = cc in same);
      responses = subst (λ (h : Host). AreBuffers h.responses (new_memory (own_rom i))) (sym e) (first_buffers (own_rom i));
      none = λ running f g. absurd (let no : None ≡ Some running = f in cc);
    }
first_own line i initiators false b = record {
  login = λ response f. none_is response f;
  responses = first_buffers (own_rom i);
  none = λ running f g. absurd (let no : None ≡ Some running = f in cc);
}

pub first_held : (line i initiators : ℕ) (ready : Bool) → i < initiators → Held ready (said (notes.Begin initiators ready) ∷ asks line (events.Begin initiators ready) ∷ []) i (new_state i ready)
first_held line i initiators ready b = record { cored = first_cored line i initiators ready b; own = λ g. first_own line i initiators ready b }

holds : (ready : Bool) (past : List Moment) (i : ℕ) (s : InitiatorState) → Held ready past i s → GotBlocks past i → HoldsLogin past i s
holds ready past i s h g = record { login = (h.own g).login; responses = (h.own g).responses }

pub holding_law : HoldingLaw
holding_law = record {
  after_lines = λ line run r i b.
      holds run.ready (history_of line run) i _ (of_runs (Held run.ready) (held_carried run.ready) line run (λ entries few short all fit j c. tt) (λ j c. first_held line j run.initiators run.ready c) r i b)
      ((blocks_law.after_lines line run r).got i);
  between = λ line run r next most told m i b.
      holds run.ready _ i _ (between_runs (Held run.ready) (held_carried run.ready) line run (λ entries few short all fit j c. tt) (λ j c. first_held line j run.initiators run.ready c) r next most told m i b)
      ((blocks_law.between line run r next most told m).got i);
}
