-- In every run the core of each initiator's host is what it has.
use Rattle.sbp_world.proofs.Words.Std.{arith, ◌≡◌, refl, sym, ◌∙◌, ap, subst, ℕ, suc, ◌+◌, ◌<◌, ◌==◌, ◌&&◌, ◌||◌, nat_eq, nat_lt, not, is_some, Bool, true, false, cond, List, [], ◌∷◌, Option, Some, None, Result, Ok, Err, nat_tests}
use Rattle.sbp_world.proofs.Words.Wire.{LabelParts, Stale, Finding, Layer, expiring_step, judging_step, of_again, of_generation, of_grammar, of_label, of_request, of_response, seeing_step, Moment, asked, said, Refusals, refusal_of, Terms, terms, Operation, OutboxState, empty_outbox, Action, Note, judged_note}
use Rattle.sbp_world.proofs.Words.Initiator.{Seat, points, Purpose, Running, InitiatorState, IsAction, act_step, facts_with, Turn, new_state, expire_step, expired_as, receive_step, finds_label, refusal, rows_of, ends_list, fits_session, is_in_stuck, is_list_step, operation_of, see_step, operation_in, session_of, after, acts, lets_expire, receives, sees}
use Rattle.sbp_world.proofs.Words.Laws.{refusal_at, refusals, cuts_list, is_pointing, is_right_state, is_waiting, running_operation, Host, Underway, begun, host_at, is_stuck, new_host, ready_host, event_of}
use Rattle.sbp_world.proofs.Words.World.{history_of, Run, IsCalled, behind, DecidesBySession, Core, HasSession, HostLaw, host_core, operation_by, own_core, session_in, work_in, work_of, IsRun}
use Rattle.std.proofs.Common.{is_none}
use Rattle.sbp_journal.specs.declared.operation.Operation.TheVariants as operations
use Rattle.sbp_journal.specs.declared.event.Action.TheVariants as actions
use Rattle.sbp_journal.specs.declared.event.Event.TheVariants as events
use Rattle.sbp_journal.specs.declared.note.Note.TheVariants as notes
use Rattle.sbp_session.specs.declared.seat.Seat.TheVariants as seats
use Rattle.sbp_initiator.specs.declared.purpose.Purpose.TheVariants as purposes
use Rattle.sbp_initiator.proofs.FirstRow.{refusal_law}
use Rattle.sbp_initiator.proofs.Histories.Effects.{Fits, HasMarks}
use Rattle.sbp_initiator.proofs.Histories.Over.{counted_now, pointed_now, sound}
use Rattle.sbp_initiator.proofs.Histories.Purposes.{IfFor, closes_asked, expires_asked}
use Rattle.sbp_initiator.proofs.Histories.Runs.{FitsNow, WasPointed}
use Rattle.sbp_world.specs.Hosts.Refusing.{initiator_of}
use Rattle.sbp_world.proofs.Hosts.Calling.{IsOwn, own_first, own_on}
use Rattle.sbp_world.proofs.Hosts.Carried.{between_runs, of_runs}
use Rattle.sbp_world.proofs.Hosts.Carries.{Carries, Does, Nothing, Tells}
use Rattle.sbp_world.proofs.Hosts.Cores.{apart_core, sent_core}
use Rattle.sbp_world.proofs.Hosts.KnowActs.{act_acted, asked_known}
use Rattle.sbp_world.proofs.Hosts.KnowEnds.{Points}
use Rattle.sbp_world.proofs.Hosts.KnowHears.{IfExpires, IfFits, expire_known, receive_known}
use Rattle.sbp_world.proofs.Hosts.Knowing.{Known, Sits}
use Rattle.sbp_world.proofs.Hosts.KnowSees.{sees_known}
use Rattle.sbp_world.proofs.Hosts.Passes.{judged_apart}
use Rattle.sbp_world.proofs.Common.{untrue}

-- ---- what a transaction was for fits the operation under way

module _ (ready : Bool) (i : ℕ) (s : InitiatorState) (h : IsCalled ready i s) where
  abbrev t : Turn
  t = after i ready h.calls

  abbrev Fitting : Purpose → Type 0
  Fitting = FitsNow t.1.operation t.1.counts.acts (counted_now i ready h.calls) (pointed_now i ready h.calls)

  points_of : (purpose : Purpose) → WasPointed (pointed_now i ready h.calls) purpose → Points purpose t.1.lists.slots.present t.1.marks.pointing
  points_of (purposes.Pointer list) w = λ e. (sound i ready h.calls).marks.pointed.written list w e
  points_of (purposes.AgentReset act) w = tt
  points_of (purposes.Enable act) w = tt
  points_of (purposes.Rom act) w = tt
  points_of (purposes.Management act) w = tt
  points_of (purposes.State act list) w = tt
  points_of purposes.Doorbell w = tt

  for_fits : (purpose : Option Purpose) → IfFor Fitting purpose → IfFor (λ p. Fits p t.1.operation × Points p t.1.lists.slots.present t.1.marks.pointing) purpose
  for_fits None f = tt
  for_fits (Some purpose) f = (f.fits, points_of purpose f.points)

  hears_of : (generation : ℕ) (bytes : List ℕ) (f : Finding Purpose) → (judging_step t.1.layer generation bytes).0 ≡ f → IfFits f t.1
  hears_of generation bytes (of_response q label purpose) e =
      let k = (sound i ready h.calls).wires in
      for_fits purpose
      (closes_asked Fitting (0xffc1 + i) k.calls generation bytes q label purpose k.asks (ap (λ (l : Layer Purpose). (judging_step l generation bytes).0) k.layer_is ∙ e))
  hears_of generation bytes of_generation e = tt
  hears_of generation bytes of_grammar e = tt
  hears_of generation bytes of_label e = tt
  hears_of generation bytes (of_again q rcode) e = tt
  hears_of generation bytes (of_request q) e = tt

  pub hears_fit : (generation : ℕ) (bytes : List ℕ) → IfFits (judging_step s.layer generation bytes).0 s
  hears_fit generation bytes =
      subst (λ (x : InitiatorState). IfFits (judging_step x.layer generation bytes).0 x) h.is (hears_of generation bytes (judging_step t.1.layer generation bytes).0 refl)

  expires_of : (label : LabelParts) (r : Result (Option Purpose) Stale) → (expiring_step t.1.layer t.1.target label).0 ≡ r → IfExpires r t.1
  expires_of label (Ok purpose) e =
      let k = (sound i ready h.calls).wires in
      for_fits purpose
      (expires_asked Fitting (0xffc1 + i) k.calls t.1.target label purpose k.asks (ap (λ (l : Layer Purpose). (expiring_step l t.1.target label).0) k.layer_is ∙ e))
  expires_of label (Err stale) e = tt

  pub expires_fit : (label : LabelParts) → IfExpires (expiring_step s.layer s.target label).0 s
  expires_fit label =
      subst (λ (x : InitiatorState). IfExpires (expiring_step x.layer x.target label).0 x) h.is (expires_of label (expiring_step t.1.layer t.1.target label).0 refl)

  pub marks_of : HasMarks s.lists.slots.present s.marks.pointing
  marks_of = subst (λ (x : InitiatorState). HasMarks x.lists.slots.present x.marks.pointing) h.is (sound i ready h.calls).marks.marks

-- ---- an initiator of a run

pub record Cored (ready : Bool) (past : List Moment) (i : ℕ) (s : InitiatorState) : Type 0 where
  pub own : IsOwn ready i s
  pub core : host_core (host_at past i) ≡ own_core s
  pub sits : Sits (operation_by (own_core s).work) (own_core s).session

module _ (ready : Bool) where
  pub known_of : (past : List Moment) (i : ℕ) (s : InitiatorState) → Cored ready past i s → Known past (empty_outbox, s)
  known_of past i s h = record {
    own = ap (λ j. host_core (host_at past j)) h.own.number ∙ h.core;
    others = λ j e. refl;
    line = refl;
    wire = refl;
    sits = h.sits;
  }

  tells_of : (past : List Moment) (i : ℕ) (t : Turn) → IsOwn ready i t.1 → Known past t → Tells (Cored ready) past i t
  tells_of past i t o k = record {
    own = record { own = o; core = ap (λ j. host_core (host_at (behind t.0.sides past) j)) (sym o.number) ∙ k.own; sits = k.sits };
    others = λ j x e h. record { own = h.own; core = k.others j (ap (nat_eq j) o.number ∙ e) ∙ h.core; sits = h.sits };
  }

  noted : (note : Note) (past : List Moment) (i : ℕ) (s : InitiatorState) → host_core (host_at (said note ∷ past) i) ≡ host_core (host_at past i) → Cored ready past i s → Cored ready (said note ∷ past) i s
  noted note past i s e h = record { own = h.own; core = e ∙ h.core; sits = h.sits }

  hears_told : (serial generation : ℕ) (bytes : List ℕ) (past : List Moment) (i : ℕ) (s : InitiatorState) → Cored ready past i s → Tells (Cored ready) (said (judged_note serial (receive_step generation bytes empty_outbox s).0) ∷ past) i (receive_step generation bytes empty_outbox s).1
  hears_told serial generation bytes past i s h =
      let judged = (receive_step generation bytes empty_outbox s).0 in
      let now = said (judged_note serial judged) ∷ past in
      tells_of now i (receive_step generation bytes empty_outbox s).1 (own_on ready i s (receives generation bytes) tt h.own)
      (receive_known now bytes empty_outbox generation s (hears_fit ready i s h.own.called generation bytes)
      (known_of now i s (noted (judged_note serial judged) past i s (apart_core (judged_note serial judged) past i (judged_apart serial judged i)) h)))

  expires_told : (serial : ℕ) (label : LabelParts) (past : List Moment) (i : ℕ) (s : InitiatorState) → Cored ready past i s → Tells (Cored ready) (said (notes.TimedOut serial) ∷ past) i (expire_step label empty_outbox s).1
  expires_told serial label past i s h =
      let now = said (notes.TimedOut serial) ∷ past in
      tells_of now i (expire_step label empty_outbox s).1 (own_on ready i s (lets_expire label) tt h.own)
      (expire_known now label empty_outbox s (expires_fit ready i s h.own.called label)
      (known_of now i s (noted (notes.TimedOut serial) past i s (apart_core (notes.TimedOut serial) past i refl) h)))

  stale_cored : (label : LabelParts) (past : List Moment) (i : ℕ) (s : InitiatorState) → (expire_step label empty_outbox s).0 ≡ false → Cored ready past i s → Cored ready past i (expire_step label empty_outbox s).1.1
  unfolding expire_step
  stale_cored label past i s e h = by_result (expiring_step s.layer s.target label) refl e
    where
      untrue : {A : Type 0} → true ≡ false → A
      untrue e = absurd (differ e)
        where
          differ : true ≡ false → ⊥
          differ e = cc

      by_result : (r : Result (Option Purpose) Stale × Layer Purpose) → expiring_step s.layer s.target label ≡ r → (expired_as r empty_outbox s).0 ≡ false → Cored ready past i (expired_as r empty_outbox s).1.1
      by_result (Ok purpose, layer) r e = untrue e
      by_result (Err stale, layer) r e = record { own = subst (λ (x : InitiatorState). IsOwn ready i x) (ap (λ x. (expired_as x empty_outbox s).1.1) r) (own_on ready i s (lets_expire label) tt h.own); core = h.core; sits = h.sits }

  sees_told : (generation id target : ℕ) (past : List Moment) (i : ℕ) (s : InitiatorState) → (seeing_step s.layer generation id).0 ≡ not (generation == (terms past).generation (suc i)) → Cored ready past i s → Tells (Cored ready) (said (notes.Seen (suc i) generation) ∷ past) i (see_step generation id target empty_outbox s)
  sees_told generation id target past i s e h =
      let n = h.own.number in
      let new = ap (λ j. not (generation == (terms past).generation (suc j))) (sym n) in
      subst (λ j. Tells (Cored ready) (said (notes.Seen (suc j) generation) ∷ past) i (see_step generation id target empty_outbox s)) n
      (tells_of (said (notes.Seen (suc s.number) generation) ∷ past) i (see_step generation id target empty_outbox s) (own_on ready i s (sees generation id target) tt h.own)
      (sees_known past generation id target s (e ∙ new) (marks_of ready i s h.own.called) (known_of past i s h)))

  acts_told : (action : Action) (past : List Moment) (i : ℕ) (s : InitiatorState) → event_of past ≡ Some (events.Act i action) → IsAction action → (act_step action empty_outbox s).0 ≡ None → Cored ready past i s → Does (Cored ready) past i (act_step action empty_outbox s).1
  acts_told action past i s under fit done h =
      let t = (act_step action empty_outbox s).1 in
      let a = act_acted past action s (known_of past i s h) done in
      let k = a.starts.known in
      let own = own_on ready i s (acts action) fit h.own in
      let number = sym own.number ∙ a.starts.number in
      record {
        others = λ j x e c. record { own = c.own; core = k.others j (ap (nat_eq j) (sym a.starts.number ∙ own.number) ∙ e) ∙ c.core; sits = c.sits };
        quiet = λ none. record {
          own = own;
          core = ap (λ j. host_core (host_at (behind t.0.sides past) j)) number ∙ k.own ∙ (sym (a.quiet none (own_core a.starts.before)) ∙ a.starts.begun);
          sits = a.starts.sits;
        };
        asking = λ packet one serial generation f q. record {
          own = own;
          core = asked_known past action t i serial generation 0 packet.bytes a.starts own.number under f q;
          sits = a.starts.sits;
        };
      }

  pub cored_carried : Carries Nothing (Cored ready)
  cored_carried = record {
    known = λ line event past i s h. tt;
    number = λ past i s h. h.own.number;
    asked = λ line event past i s h. record { own = h.own; core = h.core; sits = h.sits };
    apart = λ note past i s e f h. noted note past i s (apart_core note past i e) h;
    sent = λ serial generation from to bytes past i s n h. noted (notes.Sent serial generation from to bytes) past i s (sent_core serial generation from to bytes past i n) h;
    hears = λ serial generation bytes past i s heard shown after h. hears_told serial generation bytes past i s h;
    expires = λ serial label past i s shown h. expires_told serial label past i s h;
    stale = stale_cored;
    sees = sees_told;
    acts = λ action past i s under fit done shown known h. acts_told action past i s under fit.0 done h;
  }

-- ---- the beginning

begun_core : (i initiators : ℕ) (ready : Bool) → i < initiators → host_core (begun ready initiators i new_host) ≡ own_core (new_state i ready)
unfolding new_state
begun_core i initiators true b = let e : nat_lt i initiators ≡ true = grind (arith, nat_tests) in ap (λ c. host_core (cond c (ready_host i) new_host)) e
begun_core i initiators false b = refl

first_sits : (i : ℕ) (ready : Bool) → Sits (operation_by (own_core (new_state i ready)).work) (own_core (new_state i ready)).session
unfolding new_state
first_sits i ready = tt

pub first_cored : (line i initiators : ℕ) (ready : Bool) → i < initiators → Cored ready (said (notes.Begin initiators ready) ∷ asked line (events.Begin initiators ready) ∷ []) i (new_state i ready)
first_cored line i initiators ready b = record { own = own_first ready i; core = begun_core i initiators ready b; sits = first_sits i ready }

core_of_runs : (line : ℕ) (run : Run) → IsRun run → (i : ℕ) → i < run.initiators → host_core (host_at (history_of line run) i) ≡ own_core (initiator_of run i)
core_of_runs line run r i b = (of_runs (Cored run.ready) (cored_carried run.ready) line run (λ entries few short all fit j c. tt) (λ j c. first_cored line j run.initiators run.ready c) r i b).core

-- ---- the rows of a refusal that read the session

pub stuck_row : (seat : Seat) → is_stuck (session_in seat) ≡ is_in_stuck (session_of seat)
stuck_row (seats.Out out) = refl
stuck_row (seats.Entering entering) = refl
stuck_row (seats.Live live) = refl
stuck_row (seats.Held response) = refl
stuck_row (seats.Returning response) = refl
stuck_row (seats.Leaving response) = refl
stuck_row (seats.Stuck origin) = refl

pub right_row : (action : Action) (seat : Seat) → is_right_state action (session_in seat) ≡ fits_session action (session_of seat)
right_row (actions.Put cmd) (seats.Out out) = refl
right_row (actions.Put cmd) (seats.Entering entering) = refl
right_row (actions.Put cmd) (seats.Live live) = refl
right_row (actions.Put cmd) (seats.Held response) = refl
right_row (actions.Put cmd) (seats.Returning response) = refl
right_row (actions.Put cmd) (seats.Leaving response) = refl
right_row (actions.Put cmd) (seats.Stuck origin) = refl
right_row (actions.Append cmd) (seats.Out out) = refl
right_row (actions.Append cmd) (seats.Entering entering) = refl
right_row (actions.Append cmd) (seats.Live live) = refl
right_row (actions.Append cmd) (seats.Held response) = refl
right_row (actions.Append cmd) (seats.Returning response) = refl
right_row (actions.Append cmd) (seats.Leaving response) = refl
right_row (actions.Append cmd) (seats.Stuck origin) = refl
right_row actions.Low (seats.Out out) = refl
right_row actions.Low (seats.Entering entering) = refl
right_row actions.Low (seats.Live live) = refl
right_row actions.Low (seats.Held response) = refl
right_row actions.Low (seats.Returning response) = refl
right_row actions.Low (seats.Leaving response) = refl
right_row actions.Low (seats.Stuck origin) = refl
right_row actions.Link (seats.Out out) = refl
right_row actions.Link (seats.Entering entering) = refl
right_row actions.Link (seats.Live live) = refl
right_row actions.Link (seats.Held response) = refl
right_row actions.Link (seats.Returning response) = refl
right_row actions.Link (seats.Leaving response) = refl
right_row actions.Link (seats.Stuck origin) = refl
right_row actions.Ring (seats.Out out) = refl
right_row actions.Ring (seats.Entering entering) = refl
right_row actions.Ring (seats.Live live) = refl
right_row actions.Ring (seats.Held response) = refl
right_row actions.Ring (seats.Returning response) = refl
right_row actions.Ring (seats.Leaving response) = refl
right_row actions.Ring (seats.Stuck origin) = refl
right_row (actions.Dummy orb) (seats.Out out) = refl
right_row (actions.Dummy orb) (seats.Entering entering) = refl
right_row (actions.Dummy orb) (seats.Live live) = refl
right_row (actions.Dummy orb) (seats.Held response) = refl
right_row (actions.Dummy orb) (seats.Returning response) = refl
right_row (actions.Dummy orb) (seats.Leaving response) = refl
right_row (actions.Dummy orb) (seats.Stuck origin) = refl
right_row actions.Rom (seats.Out out) = refl
right_row actions.Rom (seats.Entering entering) = refl
right_row actions.Rom (seats.Live live) = refl
right_row actions.Rom (seats.Held response) = refl
right_row actions.Rom (seats.Returning response) = refl
right_row actions.Rom (seats.Leaving response) = refl
right_row actions.Rom (seats.Stuck origin) = refl
right_row actions.AgentReset (seats.Out out) = refl
right_row actions.AgentReset (seats.Entering entering) = refl
right_row actions.AgentReset (seats.Live live) = refl
right_row actions.AgentReset (seats.Held response) = refl
right_row actions.AgentReset (seats.Returning response) = refl
right_row actions.AgentReset (seats.Leaving response) = refl
right_row actions.AgentReset (seats.Stuck origin) = refl
right_row actions.State (seats.Out out) = refl
right_row actions.State (seats.Entering entering) = refl
right_row actions.State (seats.Live live) = refl
right_row actions.State (seats.Held response) = refl
right_row actions.State (seats.Returning response) = refl
right_row actions.State (seats.Leaving response) = refl
right_row actions.State (seats.Stuck origin) = refl
right_row actions.Enable (seats.Out out) = refl
right_row actions.Enable (seats.Entering entering) = refl
right_row actions.Enable (seats.Live live) = refl
right_row actions.Enable (seats.Held response) = refl
right_row actions.Enable (seats.Returning response) = refl
right_row actions.Enable (seats.Leaving response) = refl
right_row actions.Enable (seats.Stuck origin) = refl
right_row (actions.Login unit reconnect exclusive password) (seats.Out out) = refl
right_row (actions.Login unit reconnect exclusive password) (seats.Entering entering) = refl
right_row (actions.Login unit reconnect exclusive password) (seats.Live live) = refl
right_row (actions.Login unit reconnect exclusive password) (seats.Held response) = refl
right_row (actions.Login unit reconnect exclusive password) (seats.Returning response) = refl
right_row (actions.Login unit reconnect exclusive password) (seats.Leaving response) = refl
right_row (actions.Login unit reconnect exclusive password) (seats.Stuck origin) = refl
right_row (actions.Query unit) (seats.Out out) = refl
right_row (actions.Query unit) (seats.Entering entering) = refl
right_row (actions.Query unit) (seats.Live live) = refl
right_row (actions.Query unit) (seats.Held response) = refl
right_row (actions.Query unit) (seats.Returning response) = refl
right_row (actions.Query unit) (seats.Leaving response) = refl
right_row (actions.Query unit) (seats.Stuck origin) = refl
right_row actions.Reconnect (seats.Out out) = refl
right_row actions.Reconnect (seats.Entering entering) = refl
right_row actions.Reconnect (seats.Live live) = refl
right_row actions.Reconnect (seats.Held response) = refl
right_row actions.Reconnect (seats.Returning response) = refl
right_row actions.Reconnect (seats.Leaving response) = refl
right_row actions.Reconnect (seats.Stuck origin) = refl
right_row actions.Logout (seats.Out out) = refl
right_row actions.Logout (seats.Entering entering) = refl
right_row actions.Logout (seats.Live live) = refl
right_row actions.Logout (seats.Held response) = refl
right_row actions.Logout (seats.Returning response) = refl
right_row actions.Logout (seats.Leaving response) = refl
right_row actions.Logout (seats.Stuck origin) = refl
right_row (actions.Abort orb) (seats.Out out) = refl
right_row (actions.Abort orb) (seats.Entering entering) = refl
right_row (actions.Abort orb) (seats.Live live) = refl
right_row (actions.Abort orb) (seats.Held response) = refl
right_row (actions.Abort orb) (seats.Returning response) = refl
right_row (actions.Abort orb) (seats.Leaving response) = refl
right_row (actions.Abort orb) (seats.Stuck origin) = refl
right_row actions.AbortSet (seats.Out out) = refl
right_row actions.AbortSet (seats.Entering entering) = refl
right_row actions.AbortSet (seats.Live live) = refl
right_row actions.AbortSet (seats.Held response) = refl
right_row actions.AbortSet (seats.Returning response) = refl
right_row actions.AbortSet (seats.Leaving response) = refl
right_row actions.AbortSet (seats.Stuck origin) = refl
right_row actions.UnitReset (seats.Out out) = refl
right_row actions.UnitReset (seats.Entering entering) = refl
right_row actions.UnitReset (seats.Live live) = refl
right_row actions.UnitReset (seats.Held response) = refl
right_row actions.UnitReset (seats.Returning response) = refl
right_row actions.UnitReset (seats.Leaving response) = refl
right_row actions.UnitReset (seats.Stuck origin) = refl
right_row actions.TargetReset (seats.Out out) = refl
right_row actions.TargetReset (seats.Entering entering) = refl
right_row actions.TargetReset (seats.Live live) = refl
right_row actions.TargetReset (seats.Held response) = refl
right_row actions.TargetReset (seats.Returning response) = refl
right_row actions.TargetReset (seats.Leaving response) = refl
right_row actions.TargetReset (seats.Stuck origin) = refl

-- and on the operation under way
pub working : (u : Option Underway) → running_operation u ≡ operation_by (work_of u)
working None = refl
working (Some underway) = refl

pub worked : (r : Option Running) → operation_in r ≡ operation_by (work_in r)
worked None = refl
worked (Some running) = refl

pub some_running : (u : Option Underway) → not (is_none u) ≡ is_some (running_operation u)
some_running None = refl
some_running (Some underway) = refl

pub cuts_same : (operation : Option Operation) → cuts_list operation ≡ ends_list operation
cuts_same None = refl
cuts_same (Some operations.Rom) = refl
cuts_same (Some operations.Login) = refl
cuts_same (Some operations.Query) = refl
cuts_same (Some operations.Reconnect) = refl
cuts_same (Some operations.Logout) = refl
cuts_same (Some operations.Abort) = refl
cuts_same (Some operations.AbortSet) = refl
cuts_same (Some operations.UnitReset) = refl
cuts_same (Some operations.TargetReset) = refl
cuts_same (Some operations.AgentReset) = refl
cuts_same (Some operations.State) = refl
cuts_same (Some operations.Enable) = refl

abbrev waits_by : Action → Option Operation → Bool → Bool
waits_by action under_way pointing =
    (is_some (operation_of action) && is_some under_way) || (ends_list (operation_of action) && pointing) || (is_list_step action && ends_list under_way)

waiting_same : (action : Action) (wire : Terms) (host : Host) (pointing : Bool) → ends_list (operation_of action) ≡ false → is_waiting action wire host ≡ waits_by action (running_operation host.operation) pointing
waiting_same (actions.Put cmd) wire host pointing e = cuts_same (running_operation host.operation)
waiting_same (actions.Append cmd) wire host pointing e = cuts_same (running_operation host.operation)
waiting_same actions.Low wire host pointing e = cuts_same (running_operation host.operation)
waiting_same actions.Link wire host pointing e = cuts_same (running_operation host.operation)
waiting_same actions.Ring wire host pointing e = cuts_same (running_operation host.operation)
waiting_same (actions.Dummy orb) wire host pointing e = cuts_same (running_operation host.operation)
waiting_same actions.Rom wire host pointing e = ap (λ b. (b || false) || false) (some_running host.operation)
waiting_same actions.AgentReset wire host pointing e = untrue (sym e)
waiting_same actions.State wire host pointing e = refl
waiting_same actions.Enable wire host pointing e = ap (λ b. (b || false) || false) (some_running host.operation)
waiting_same (actions.Login unit reconnect exclusive password) wire host pointing e = ap (λ b. (b || false) || false) (some_running host.operation)
waiting_same (actions.Query unit) wire host pointing e = ap (λ b. (b || false) || false) (some_running host.operation)
waiting_same actions.Reconnect wire host pointing e = ap (λ b. (b || false) || false) (some_running host.operation)
waiting_same actions.Logout wire host pointing e = untrue (sym e)
waiting_same (actions.Abort orb) wire host pointing e = ap (λ b. (b || false) || false) (some_running host.operation)
waiting_same actions.AbortSet wire host pointing e = untrue (sym e)
waiting_same actions.UnitReset wire host pointing e = untrue (sym e)
waiting_same actions.TargetReset wire host pointing e = untrue (sym e)

session_rows : (line : ℕ) (run : Run) (i : ℕ) (action : Action) (has_label : Bool) → host_core (host_at (history_of line run) i) ≡ own_core (initiator_of run i) → HasSession line run i action has_label
session_rows line run i action has_label e =
    let seat = (initiator_of run i).seat in
    let session : (host_at (history_of line run) i).session ≡ session_in seat = ap (λ (c : Core). c.session) e in
    let operation : running_operation (host_at (history_of line run) i).operation ≡ operation_in (initiator_of run i).operation = working (host_at (history_of line run) i).operation ∙ ap (λ (c : Core). operation_by c.work) e ∙ sym (worked (initiator_of run i).operation) in
    record {
      stuck = ap is_stuck session ∙ stuck_row seat;
      wrong_state = ap (λ x. not (is_right_state action x)) session ∙ ap not (right_row action seat);
      waiting = λ f. waiting_same action (terms (history_of line run)) (host_at (history_of line run) i) (points seat) f ∙ ap (λ x. waits_by action x (points seat)) operation;
    }

-- and where the run says whether an ORB_POINTER write is under way
pointing_same : (action : Action) (wire : Terms) (host : Host) (pointing : Bool) → is_pointing wire host.pointer ≡ pointing → is_waiting action wire host ≡ waits_by action (running_operation host.operation) pointing
pointing_same (actions.Put cmd) wire host pointing e = waiting_same (actions.Put cmd) wire host pointing refl
pointing_same (actions.Append cmd) wire host pointing e = waiting_same (actions.Append cmd) wire host pointing refl
pointing_same actions.Low wire host pointing e = waiting_same actions.Low wire host pointing refl
pointing_same actions.Link wire host pointing e = waiting_same actions.Link wire host pointing refl
pointing_same actions.Ring wire host pointing e = waiting_same actions.Ring wire host pointing refl
pointing_same (actions.Dummy orb) wire host pointing e = waiting_same (actions.Dummy orb) wire host pointing refl
pointing_same actions.Rom wire host pointing e = waiting_same actions.Rom wire host pointing refl
pointing_same actions.AgentReset wire host pointing e = ap (λ b. (b || is_pointing wire host.pointer) || false) (some_running host.operation) ∙ ap (λ b. (is_some (running_operation host.operation) || b) || false) e
pointing_same actions.State wire host pointing e = waiting_same actions.State wire host pointing refl
pointing_same actions.Enable wire host pointing e = waiting_same actions.Enable wire host pointing refl
pointing_same (actions.Login unit reconnect exclusive password) wire host pointing e = waiting_same (actions.Login unit reconnect exclusive password) wire host pointing refl
pointing_same (actions.Query unit) wire host pointing e = waiting_same (actions.Query unit) wire host pointing refl
pointing_same actions.Reconnect wire host pointing e = waiting_same actions.Reconnect wire host pointing refl
pointing_same actions.Logout wire host pointing e = ap (λ b. (b || is_pointing wire host.pointer) || false) (some_running host.operation) ∙ ap (λ b. (is_some (running_operation host.operation) || b) || false) e
pointing_same (actions.Abort orb) wire host pointing e = waiting_same (actions.Abort orb) wire host pointing refl
pointing_same actions.AbortSet wire host pointing e = ap (λ b. (b || is_pointing wire host.pointer) || false) (some_running host.operation) ∙ ap (λ b. (is_some (running_operation host.operation) || b) || false) e
pointing_same actions.UnitReset wire host pointing e = ap (λ b. (b || is_pointing wire host.pointer) || false) (some_running host.operation) ∙ ap (λ b. (is_some (running_operation host.operation) || b) || false) e
pointing_same actions.TargetReset wire host pointing e = ap (λ b. (b || is_pointing wire host.pointer) || false) (some_running host.operation) ∙ ap (λ b. (is_some (running_operation host.operation) || b) || false) e

pub session_waits : (line : ℕ) (run : Run) (i : ℕ) (action : Action) (has_label : Bool) → host_core (host_at (history_of line run) i) ≡ own_core (initiator_of run i) → is_pointing (terms (history_of line run)) (host_at (history_of line run) i).pointer ≡ points (initiator_of run i).seat → (refusals (history_of line run) i action (host_at (history_of line run) i)).waiting ≡ (rows_of action (facts_with has_label (initiator_of run i) action)).waiting
session_waits line run i action has_label e f =
    let seat = (initiator_of run i).seat in
    let operation : running_operation (host_at (history_of line run) i).operation ≡ operation_in (initiator_of run i).operation = working (host_at (history_of line run) i).operation ∙ ap (λ (c : Core). operation_by c.work) e ∙ sym (worked (initiator_of run i).operation) in
    pointing_same action (terms (history_of line run)) (host_at (history_of line run) i) (points seat) f ∙ ap (λ x. waits_by action x (points seat)) operation

two_rows : (a b c d : Bool) (x y : Option ℕ) → a ≡ c → b ≡ d → a || b ≡ true → cond a (Some 1) (cond b (Some 2) x) ≡ cond c (Some 1) (cond d (Some 2) y)
two_rows true b true d x y e f g = refl
two_rows true b false d x y e f g = untrue (sym e)
two_rows false b true d x y e f g = untrue e
two_rows false true false true x y e f g = refl
two_rows false true false false x y e f g = untrue (sym f)
two_rows false false false d x y e f g = untrue g

first_same : (r q : Refusals) → r.stuck ≡ q.stuck → r.wrong_state ≡ q.wrong_state → DecidesBySession r → refusal_of r ≡ refusal_of q
first_same r q e f g = two_rows r.stuck r.wrong_state q.stuck q.wrong_state _ _ e f g

first_row : (line : ℕ) (run : Run) (i : ℕ) (action : Action) (o : OutboxState) → HasSession line run i action (finds_label action (initiator_of run i)) → DecidesBySession (refusals (history_of line run) i action (host_at (history_of line run) i)) → refusal_at (history_of line run) i action ≡ (act_step action o (initiator_of run i)).0
unfolding refusal
first_row line run i action o h d =
    let s = initiator_of run i in
    first_same (refusals (history_of line run) i action (host_at (history_of line run) i)) (rows_of action (facts_with (finds_label action s) s action)) h.stuck h.wrong_state d
    ∙ sym (refusal_law.first action o s)

pub host_law : HostLaw
host_law = record {
  core = core_of_runs;
  between = λ line run r next most told m i b. (between_runs (Cored run.ready) (cored_carried run.ready) line run (λ entries few short all fit j c. tt) (λ j c. first_cored line j run.initiators run.ready c) r next most told m i b).core;
  first = λ line run r i b action o d. first_row line run i action o (session_rows line run i action (finds_label action (initiator_of run i)) (core_of_runs line run r i b)) d;
  rows = λ line run r i b action has_label. session_rows line run i action has_label (core_of_runs line run r i b);
}
