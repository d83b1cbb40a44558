-- What an initiator tells behind a history, and the core of its host.
use Rattle.sbp_world.proofs.Words.Std.{◌≡◌, refl, sym, ◌∙◌, ap, subst, ℕ, ◌==◌, nat_eq, not, Bool, true, false, cond, List, ◌∷◌, Option, Some, None}
use Rattle.sbp_world.proofs.Words.Wire.{Moment, said, terms, OutboxState, Note, Operation, OpWord}
use Rattle.sbp_world.proofs.Words.Initiator.{ListState, drop_lists, Seat, Move, bad, conflict, failed, goes, is_stuck_seat, Running, InitiatorState, Turn, drop_list_step, dropped_as, end_own_for, end_own_step, end_step, good_event, good_word, moved, moves_session, stick_step, told}
use Rattle.sbp_world.proofs.Words.Laws.{event_of, Session, host_at, session_ended, session_stuck}
use Rattle.sbp_world.proofs.Words.World.{behind, Core, host_core, operation_by, own_core, session_in, work_in}
use Rattle.sbp_journal.specs.declared.note.Note.TheVariants as notes
use Rattle.sbp_journal.specs.declared.operation.Operation.TheVariants as operations
use Rattle.sbp_journal.specs.declared.operation.OpWord.TheVariants as words
use Rattle.sbp_journal.specs.declared.side.Side.TheVariants as sides
use Rattle.sbp_session.specs.declared.seat.Seat.TheVariants as seats
use Rattle.sbp_laws.specs.Hosts as terms
use Rattle.sbp_world.proofs.Hosts.Cores.{apart_core, drop_told, ended_in, list_in, op_told, stuck_in, stuck_told}
use Rattle.sbp_world.proofs.Hosts.Listed.{behind_more}
use Rattle.sbp_world.proofs.Common.{untrue}

-- An operation that moves the session goes with the state that it began, or with a session that is stuck; and a read of AGENT_STATE is none.
abbrev pub Sits : Option Operation → Session → Type 0
Sits None session = Unit {0}
Sits (Some operations.Login) terms.entering = Unit {0}
Sits (Some operations.Login) (terms.stuck had) = Unit {0}
Sits (Some operations.Login) session = ⊥
Sits (Some operations.Reconnect) terms.returning = Unit {0}
Sits (Some operations.Reconnect) (terms.stuck had) = Unit {0}
Sits (Some operations.Reconnect) session = ⊥
Sits (Some operations.Logout) terms.leaving = Unit {0}
Sits (Some operations.Logout) (terms.stuck had) = Unit {0}
Sits (Some operations.Logout) session = ⊥
Sits (Some operations.State) session = ⊥
Sits (Some operation) session = Unit {0}

sits_stuck : (operation : Option Operation) (session : Session) → Sits operation session → Sits operation (session_stuck session)
sits_stuck None session h = tt
sits_stuck (Some operations.Rom) session h = tt
sits_stuck (Some operations.Login) session h = tt
sits_stuck (Some operations.Query) session h = tt
sits_stuck (Some operations.Reconnect) session h = tt
sits_stuck (Some operations.Logout) session h = tt
sits_stuck (Some operations.Abort) session h = tt
sits_stuck (Some operations.AbortSet) session h = tt
sits_stuck (Some operations.UnitReset) session h = tt
sits_stuck (Some operations.TargetReset) session h = tt
sits_stuck (Some operations.AgentReset) session h = tt
sits_stuck (Some operations.State) session h = h
sits_stuck (Some operations.Enable) session h = tt

-- what is told, and the core of the host behind it
pub record Known (past : List Moment) (t : Turn) : Type 0 where
  pub own : host_core (host_at (behind t.0.sides past) t.1.number) ≡ own_core t.1
  pub others : (j : ℕ) → (j == t.1.number) ≡ false → host_core (host_at (behind t.0.sides past) j) ≡ host_core (host_at past j)
  pub line : event_of (behind t.0.sides past) ≡ event_of past
  pub wire : terms (behind t.0.sides past) ≡ terms past
  pub sits : Sits (operation_by (own_core t.1).work) (own_core t.1).session

module _ (past : List Moment) where
  pub pick_known : (b : Bool) (x y : Turn) → (b ≡ true → Known past x) → (b ≡ false → Known past y) → Known past (cond b x y)
  pick_known true x y h k = h refl
  pick_known false x y h k = k refl

  pub pick_state : (b : Bool) (o : OutboxState) (u v : InitiatorState) → Known past (o, u) → Known past (o, v) → Known past (o, cond b u v)
  pick_state true o u v h k = h
  pick_state false o u v h k = k

  -- another state with the same core
  pub still_known : (o p : OutboxState) (s u : InitiatorState) → p.sides ≡ o.sides → u.number ≡ s.number → own_core u ≡ own_core s → Known past (o, s) → Known past (p, u)
  still_known o p s u e n c k = record {
    own = ap (λ sides. host_core (host_at (behind sides past) u.number)) e ∙ ap (λ j. host_core (host_at (behind o.sides past) j)) n ∙ k.own ∙ sym c;
    others = λ j f. ap (λ sides. host_core (host_at (behind sides past) j)) e ∙ k.others j (ap (nat_eq j) (sym n) ∙ f);
    line = ap (λ sides. event_of (behind sides past)) e ∙ k.line;
    wire = ap (λ sides. terms (behind sides past)) e ∙ k.wire;
    sits = subst (λ (x : Core). Sits (operation_by x.work) x.session) (sym c) k.sits;
  }

  -- a note that the initiator tells
  pub tell : (note : Note) (o : OutboxState) (s u : InitiatorState) (change : Core → Core) → u.number ≡ s.number → change (own_core s) ≡ own_core u → ((ms : List Moment) → host_core (host_at (said note ∷ ms) s.number) ≡ change (host_core (host_at ms s.number))) → ((ms : List Moment) (j : ℕ) → (j == s.number) ≡ false → host_core (host_at (said note ∷ ms) j) ≡ host_core (host_at ms j)) → ((ms : List Moment) → terms (said note ∷ ms) ≡ terms ms) → Sits (operation_by (own_core u).work) (own_core u).session → Known past (o, s) → Known past (told o note, u)
  tell note o s u change n c here there plain sits k =
      let more = behind_more o.sides (sides.Own note) past in
      record {
        own = ap (λ j. host_core (host_at (behind (told o note).sides past) j)) n ∙ ap (λ ms. host_core (host_at ms s.number)) more ∙ here (behind o.sides past) ∙ ap change k.own ∙ c;
        others = λ j e. ap (λ ms. host_core (host_at ms j)) more ∙ there (behind o.sides past) j (ap (nat_eq j) (sym n) ∙ e) ∙ k.others j (ap (nat_eq j) (sym n) ∙ e);
        line = ap event_of more ∙ k.line;
        wire = ap terms more ∙ plain (behind o.sides past) ∙ k.wire;
        sits = sits;
      }

  -- one that leaves the core of every host
  pub tell_plain : (note : Note) (o : OutboxState) (s u : InitiatorState) → u.number ≡ s.number → own_core u ≡ own_core s → ((ms : List Moment) (j : ℕ) → host_core (host_at (said note ∷ ms) j) ≡ host_core (host_at ms j)) → ((ms : List Moment) → terms (said note ∷ ms) ≡ terms ms) → Known past (o, s) → Known past (told o note, u)
  tell_plain note o s u n c same plain k =
      tell note o s u (λ x. x) n (sym c) (λ ms. same ms s.number) (λ ms j e. same ms j) plain (subst (λ (x : Core). Sits (operation_by x.work) x.session) (sym c) k.sits) k

  -- ---- a list is dropped

  drop_cases : (r : Option ℕ × ListState) (o : OutboxState) (s : InitiatorState) → Known past (o, s) → Known past (dropped_as r o s)
  drop_cases (None, lists) o s k = still_known o o s (record s { lists = lists }) refl refl refl k
  drop_cases (Some n, lists) o s k =
      tell (notes.Drop s.number n) o s (dropped_as (Some n, lists) o s).1 (list_in 0) refl refl (λ ms. drop_told n ms s.number)
      (λ ms j f. apart_core (notes.Drop s.number n) ms j (ap not f)) (λ ms. refl) k.sits k

  pub drop_known : (o : OutboxState) (s : InitiatorState) → Known past (o, s) → Known past (drop_list_step o s)
  drop_known o s k = drop_cases (drop_lists s.lists) o s k

-- ---- the session becomes stuck

stays_stuck : (seat : Seat) → is_stuck_seat seat ≡ true → session_in (goes failed seat) ≡ session_in seat
unfolding goes
stays_stuck (seats.Out out) e = untrue e
stays_stuck (seats.Entering entering) e = untrue e
stays_stuck (seats.Live live) e = untrue e
stays_stuck (seats.Held response) e = untrue e
stays_stuck (seats.Returning response) e = untrue e
stays_stuck (seats.Leaving response) e = untrue e
stays_stuck (seats.Stuck origin) e = refl

gets_stuck : (seat : Seat) → is_stuck_seat seat ≡ false → session_stuck (session_in seat) ≡ session_in (goes failed seat)
unfolding goes
gets_stuck (seats.Out out) e = refl
gets_stuck (seats.Entering entering) e = refl
gets_stuck (seats.Live live) e = refl
gets_stuck (seats.Held response) e = refl
gets_stuck (seats.Returning response) e = refl
gets_stuck (seats.Leaving response) e = refl
gets_stuck (seats.Stuck origin) e = untrue (sym e)

-- the core with another session
abbrev pub seated : Session → Core → Core
seated session c = record c { session = session }

module _ (past : List Moment) (o : OutboxState) (s : InitiatorState) (k : Known past (o, s)) where
  abbrev failing : InitiatorState
  failing = record s { seat = goes failed s.seat }

  sticks_by : (b : Bool) → is_stuck_seat s.seat ≡ b → Known past (cond b o (told o (notes.Stuck s.number)), failing)
  sticks_by true e = still_known past o o s failing refl refl (ap (λ x. seated x (own_core s)) (stays_stuck s.seat e)) k
  sticks_by false e =
      tell past (notes.Stuck s.number) o s failing stuck_in refl (ap (λ x. seated x (own_core s)) (gets_stuck s.seat e)) (λ ms. stuck_told ms s.number)
      (λ ms j f. apart_core (notes.Stuck s.number) ms j (ap not f)) (λ ms. refl)
      (subst (λ x. Sits (operation_by (own_core s).work) x) (gets_stuck s.seat e) (sits_stuck (operation_by (own_core s).work) (session_in s.seat) k.sits)) k

  pub stick_known : Known past (stick_step o s)
  stick_known = sticks_by (is_stuck_seat s.seat) refl

-- ---- an operation ends

-- none is under way, and the session is this
abbrev pub closed_in : Session → Core → Core
closed_in session c = record c { session = session; work = None }

ended_is : (operation : Operation) (word : OpWord) (c : Core) → Sits (Some operation) c.session → ended_in operation word c ≡ closed_in (session_ended operation word c.session) c
ended_is operations.Rom word c h = refl
ended_is operations.Login word c h = refl
ended_is operations.Query word c h = refl
ended_is operations.Reconnect word c h = refl
ended_is operations.Logout word c h = refl
ended_is operations.Abort word c h = refl
ended_is operations.AbortSet word c h = refl
ended_is operations.UnitReset word c h = refl
ended_is operations.TargetReset word c h = refl
ended_is operations.AgentReset word c h = refl
ended_is operations.State word c h = absurd h
ended_is operations.Enable word c h = refl

-- the operation under way goes with the session
sits_now : (s : InitiatorState) (running : Running) (session : Session) → s.operation ≡ Some running → Sits (operation_by (work_in s.operation)) session → Sits (Some running.operation) session
sits_now s running session e h = subst (λ (x : Option Running). Sits (operation_by (work_in x)) session) e h

module _ (past : List Moment) (o : OutboxState) (s : InitiatorState) (running : Running) (is : s.operation ≡ Some running) (k : Known past (o, s)) where
  pub end_known : (word : OpWord) (seat : Seat) → session_ended running.operation word (session_in s.seat) ≡ session_in seat → Known past (end_step running.operation word o (record s { seat = seat }))
  end_known word seat e =
      let sits = sits_now s running (session_in s.seat) is k.sits in
      tell past (notes.Op s.number running.operation word) o s (end_step running.operation word o (record s { seat = seat })).1 (ended_in running.operation word) refl
      (ended_is running.operation word (own_core s) sits ∙ ap (λ x. closed_in x (own_core s)) e)
      (λ ms. op_told running.operation word ms s.number) (λ ms j f. apart_core (notes.Op s.number running.operation word) ms j (ap not f)) (λ ms. refl) tt k

-- a word that leaves the session
abbrev pub Stays : ℕ → OpWord → Option Running → Type 0
Stays act word operation = (running : Running) → operation ≡ Some running → (running.act == act) ≡ true → (session : Session) → session_ended running.operation word session ≡ session

own_known : (past : List Moment) (act : ℕ) (word : OpWord) (o : OutboxState) (s : InitiatorState) (found : Option Running) → s.operation ≡ found → Stays act word found → Known past (o, s) → Known past (end_own_for found act word o s)
own_known past act word o s None e stays k = k
own_known past act word o s (Some running) e stays k =
    pick_known past (running.act == act) _ _ (λ f. end_known past o s running e k word s.seat (stays running refl f (session_in s.seat))) (λ f. k)

pub end_own_known : (past : List Moment) (act : ℕ) (word : OpWord) (o : OutboxState) (s : InitiatorState) → Stays act word s.operation → Known past (o, s) → Known past (end_own_step act word o s)
end_own_known past act word o s stays k = own_known past act word o s s.operation refl stays k

-- every operation may end with an error, and leaves the session
error_stays : (operation : Operation) (session : Session) → session_ended operation words.Error session ≡ session
error_stays operations.Rom session = refl
error_stays operations.Login session = refl
error_stays operations.Query session = refl
error_stays operations.Reconnect session = refl
error_stays operations.Logout session = refl
error_stays operations.Abort session = refl
error_stays operations.AbortSet session = refl
error_stays operations.UnitReset session = refl
error_stays operations.TargetReset session = refl
error_stays operations.AgentReset session = refl
error_stays operations.State session = refl
error_stays operations.Enable session = refl

pub stays_error : (act : ℕ) (operation : Option Running) → Stays act words.Error operation
stays_error act operation = λ running e f session. error_stays running.operation session

-- ---- an operation ends, and moves the session

abbrev seat_moved : Operation → Move → Seat → Seat
seat_moved operation event seat = cond (moves_session operation) (goes event seat) seat

-- a word and a move of the table of sessions agree
abbrev pub Agrees : Operation → OpWord → Move → Type 0
Agrees operation word event = (seat : Seat) → Sits (Some operation) (session_in seat) → session_ended operation word (session_in seat) ≡ session_in (seat_moved operation event seat)

pub conflict_agrees : (operation : Operation) → Agrees operation (words.Conflict) (conflict)
unfolding goes
conflict_agrees operations.Rom seat h = refl
conflict_agrees operations.Login (seats.Out out) h = absurd h
conflict_agrees operations.Login (seats.Entering entering) h = refl
conflict_agrees operations.Login (seats.Live live) h = absurd h
conflict_agrees operations.Login (seats.Held response) h = absurd h
conflict_agrees operations.Login (seats.Returning response) h = absurd h
conflict_agrees operations.Login (seats.Leaving response) h = absurd h
conflict_agrees operations.Login (seats.Stuck origin) h = refl
conflict_agrees operations.Query seat h = refl
conflict_agrees operations.Reconnect (seats.Out out) h = absurd h
conflict_agrees operations.Reconnect (seats.Entering entering) h = absurd h
conflict_agrees operations.Reconnect (seats.Live live) h = absurd h
conflict_agrees operations.Reconnect (seats.Held response) h = absurd h
conflict_agrees operations.Reconnect (seats.Returning response) h = refl
conflict_agrees operations.Reconnect (seats.Leaving response) h = absurd h
conflict_agrees operations.Reconnect (seats.Stuck origin) h = refl
conflict_agrees operations.Logout (seats.Out out) h = absurd h
conflict_agrees operations.Logout (seats.Entering entering) h = absurd h
conflict_agrees operations.Logout (seats.Live live) h = absurd h
conflict_agrees operations.Logout (seats.Held response) h = absurd h
conflict_agrees operations.Logout (seats.Returning response) h = absurd h
conflict_agrees operations.Logout (seats.Leaving response) h = refl
conflict_agrees operations.Logout (seats.Stuck origin) h = refl
conflict_agrees operations.Abort seat h = refl
conflict_agrees operations.AbortSet seat h = refl
conflict_agrees operations.UnitReset seat h = refl
conflict_agrees operations.TargetReset seat h = refl
conflict_agrees operations.AgentReset seat h = refl
conflict_agrees operations.State seat h = absurd h
conflict_agrees operations.Enable seat h = refl

pub bad_agrees : (operation : Operation) (status : ℕ) → Agrees operation (words.Refused status) (bad)
unfolding goes
bad_agrees operations.Rom status seat h = refl
bad_agrees operations.Login status (seats.Out out) h = absurd h
bad_agrees operations.Login status (seats.Entering entering) h = refl
bad_agrees operations.Login status (seats.Live live) h = absurd h
bad_agrees operations.Login status (seats.Held response) h = absurd h
bad_agrees operations.Login status (seats.Returning response) h = absurd h
bad_agrees operations.Login status (seats.Leaving response) h = absurd h
bad_agrees operations.Login status (seats.Stuck origin) h = refl
bad_agrees operations.Query status seat h = refl
bad_agrees operations.Reconnect status (seats.Out out) h = absurd h
bad_agrees operations.Reconnect status (seats.Entering entering) h = absurd h
bad_agrees operations.Reconnect status (seats.Live live) h = absurd h
bad_agrees operations.Reconnect status (seats.Held response) h = absurd h
bad_agrees operations.Reconnect status (seats.Returning response) h = refl
bad_agrees operations.Reconnect status (seats.Leaving response) h = absurd h
bad_agrees operations.Reconnect status (seats.Stuck origin) h = refl
bad_agrees operations.Logout status (seats.Out out) h = absurd h
bad_agrees operations.Logout status (seats.Entering entering) h = absurd h
bad_agrees operations.Logout status (seats.Live live) h = absurd h
bad_agrees operations.Logout status (seats.Held response) h = absurd h
bad_agrees operations.Logout status (seats.Returning response) h = absurd h
bad_agrees operations.Logout status (seats.Leaving response) h = refl
bad_agrees operations.Logout status (seats.Stuck origin) h = refl
bad_agrees operations.Abort status seat h = refl
bad_agrees operations.AbortSet status seat h = refl
bad_agrees operations.UnitReset status seat h = refl
bad_agrees operations.TargetReset status seat h = refl
bad_agrees operations.AgentReset status seat h = refl
bad_agrees operations.State status seat h = absurd h
bad_agrees operations.Enable status seat h = refl

pub good_agrees : (operation : Operation) (bytes : List ℕ) → Agrees operation (good_word operation bytes) (good_event operation bytes)
unfolding goes
good_agrees operations.Rom bytes seat h = refl
good_agrees operations.Login bytes (seats.Out out) h = absurd h
good_agrees operations.Login bytes (seats.Entering entering) h = refl
good_agrees operations.Login bytes (seats.Live live) h = absurd h
good_agrees operations.Login bytes (seats.Held response) h = absurd h
good_agrees operations.Login bytes (seats.Returning response) h = absurd h
good_agrees operations.Login bytes (seats.Leaving response) h = absurd h
good_agrees operations.Login bytes (seats.Stuck origin) h = refl
good_agrees operations.Query bytes seat h = refl
good_agrees operations.Reconnect bytes (seats.Out out) h = absurd h
good_agrees operations.Reconnect bytes (seats.Entering entering) h = absurd h
good_agrees operations.Reconnect bytes (seats.Live live) h = absurd h
good_agrees operations.Reconnect bytes (seats.Held response) h = absurd h
good_agrees operations.Reconnect bytes (seats.Returning response) h = refl
good_agrees operations.Reconnect bytes (seats.Leaving response) h = absurd h
good_agrees operations.Reconnect bytes (seats.Stuck origin) h = refl
good_agrees operations.Logout bytes (seats.Out out) h = absurd h
good_agrees operations.Logout bytes (seats.Entering entering) h = absurd h
good_agrees operations.Logout bytes (seats.Live live) h = absurd h
good_agrees operations.Logout bytes (seats.Held response) h = absurd h
good_agrees operations.Logout bytes (seats.Returning response) h = absurd h
good_agrees operations.Logout bytes (seats.Leaving response) h = refl
good_agrees operations.Logout bytes (seats.Stuck origin) h = refl
good_agrees operations.Abort bytes seat h = refl
good_agrees operations.AbortSet bytes seat h = refl
good_agrees operations.UnitReset bytes seat h = refl
good_agrees operations.TargetReset bytes seat h = refl
good_agrees operations.AgentReset bytes seat h = refl
good_agrees operations.State bytes seat h = absurd h
good_agrees operations.Enable bytes seat h = refl

module _ (past : List Moment) (o : OutboxState) (s : InitiatorState) (running : Running) (is : s.operation ≡ Some running) (k : Known past (o, s)) (word : OpWord) (event : Move) (agrees : Agrees running.operation word event) where
  moved_by : (b : Bool) → session_ended running.operation word (session_in s.seat) ≡ session_in (cond b (goes event s.seat) s.seat) → Known past (end_step running.operation word o (cond b (record s { seat = goes event s.seat }) s))
  moved_by true e = end_known past o s running is k word (goes event s.seat) e
  moved_by false e = end_known past o s running is k word s.seat e

  pub moved_known : Known past (end_step running.operation word o (moved running.operation event s))
  moved_known = moved_by (moves_session running.operation) (agrees s.seat (sits_now s running (session_in s.seat) is k.sits))
