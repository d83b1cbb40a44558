-- What each note leaves of the operation that an initiator's host has under way, and of its login: one that is under way behind a note was so before it, with the
-- login of then, unless the note is the request that begins it.
use Rattle.sbp_world.proofs.Words.Std.{arith, ◌≡◌, ◌∙◌, refl, sym, ap, subst, ℕ, zero, suc, ◌%◌, ◌&&◌, not, nat_eq, nat_lt, Bool, true, false, cond, List, ◌∷◌, Option, Some, None, nat_tests}
use Rattle.sbp_world.proofs.Words.Wire.{Moment, said, Kind, Part, part_of, request, response, Terms, terms, Action, Event, Note, Operation, OpWord}
use Rattle.sbp_world.proofs.Words.Initiator.{Answer, Done, Expired, NoLabel, Payload, Refused}
use Rattle.sbp_world.proofs.Words.Laws.{Host, Underway, acted, goes_on, host_at, known_host, list_begins, op_ended, operation_of, pointer_answered, ready_host, ring, sent_in, present_list, answer_in, answered_at, packet_at, receiver_in, sender_in, event_of}
use Rattle.sbp_world.proofs.Words.World.{IsSame}
use Rattle.sbp_journal.specs.Transactions.{no_packet}
use Rattle.sbp_journal.specs.declared.event.Action.TheVariants as actions
use Rattle.sbp_journal.specs.declared.event.Event.TheVariants as events
use Rattle.sbp_journal.specs.declared.note.Note.TheVariants as notes
use Rattle.sbp_journal.specs.declared.operation.Operation.TheVariants as operations
use Rattle.sbp_laws.specs.Hosts.{got_by, is_serial, reset_seen, sent_as}
use Rattle.sbp_world.proofs.Hosts.Carries.{IsNoAct}
use Rattle.sbp_world.proofs.Hosts.Cores.{wire_is}
use Rattle.sbp_world.proofs.Sessions.PlaceNotes.{is_packet}
use Rattle.sbp_world.proofs.Lists.ManageFirsts.{pointer_operation}
use Rattle.sbp_world.proofs.Common.{none_is, untrue, itself}

-- ---- two hosts, one behind the other

-- an operation of the later one was under way at the earlier one, which had the same login
pub record Had (old new : Host) (now : Underway) : Type 0 where
  pub was : Underway
  pub is : old.operation ≡ Some was
  pub same : IsSame was now
  pub login : new.login ≡ old.login

abbrev pub Keeps : Host → Host → Type 0
Keeps new old = (now : Underway) → new.operation ≡ Some now → Had old new now

pub same_self : (u : Underway) → IsSame u u
same_self u = record { operation = refl; action = refl; first = refl; place = refl }

pub same_then : (a b c : Underway) → IsSame a b → IsSame b c → IsSame a c
same_then a b c f g = record { operation = g.operation ∙ f.operation; action = g.action ∙ f.action; first = g.first ∙ f.first; place = g.place ∙ f.place }

keeps_self : (host : Host) → Keeps host host
keeps_self host = λ now e. record { was = now; is = e; same = same_self now; login = refl }

keeps_same : (new old : Host) → new.operation ≡ old.operation → new.login ≡ old.login → Keeps new old
keeps_same new old e f = λ now g. record { was = now; is = sym e ∙ g; same = same_self now; login = f }

keeps_none : (new old : Host) → new.operation ≡ None → Keeps new old
keeps_none new old e = λ now g. none_is now (sym e ∙ g)

keeps_if : (b : Bool) (x y : Host) → Keeps x y → Keeps (cond b x y) y
keeps_if true x y k = k
keeps_if false x y k = keeps_self y

-- ---- what a note does

goes_keeps : (u : Option Underway) (serial : ℕ) (host : Host) → host.operation ≡ u → Keeps (goes_on u serial host) host
goes_keeps None serial host e = keeps_self host
goes_keeps (Some underway) serial host e = λ now f.
    let same : record underway { latest = serial } ≡ now = (let both : Some (record underway { latest = serial }) ≡ Some now = f in cc) in
    record {
      was = underway;
      is = e;
      same = record {
        operation = ap (λ (u : Underway). u.operation) (sym same);
        action = ap (λ (u : Underway). u.action) (sym same);
        first = ap (λ (u : Underway). u.first) (sym same);
        place = ap (λ (u : Underway). u.place) (sym same);
      };
      login = refl;
    }

in_keeps : (event : Option Event) (i : ℕ) (list : Option ℕ) (serial : ℕ) (host : Host) → IsNoAct i event → Keeps (sent_in event i list serial host) host
in_keeps (Some (events.Act j action)) i list serial host n = by (nat_eq j i) refl
  where
    by : (b : Bool) → nat_eq j i ≡ b → Keeps (sent_in (Some (events.Act j action)) i list serial host) host
    by true e = untrue (sym n ∙ (let f : nat_eq i j ≡ true = turned i j e in f))
      where
        turned : (i j : ℕ) → nat_eq j i ≡ true → nat_eq i j ≡ true
        turned i j e = grind (arith, nat_tests)
    by false e = subst (λ b. Keeps (cond b (acted action (operation_of action) list serial host) (goes_on host.operation serial host)) host) (sym e) (goes_keeps host.operation serial host refl)
in_keeps None i list serial host n = goes_keeps host.operation serial host refl
in_keeps (Some (events.Begin initiators ready)) i list serial host n = goes_keeps host.operation serial host refl
in_keeps (Some (events.Reset physical)) i list serial host n = goes_keeps host.operation serial host refl
in_keeps (Some (events.See node)) i list serial host n = goes_keeps host.operation serial host refl
in_keeps (Some (events.Deliver packet)) i list serial host n = goes_keeps host.operation serial host refl
in_keeps (Some (events.Repeat packet)) i list serial host n = goes_keeps host.operation serial host refl
in_keeps (Some (events.Lose packet)) i list serial host n = goes_keeps host.operation serial host refl
in_keeps (Some (events.Timeout packet)) i list serial host n = goes_keeps host.operation serial host refl
in_keeps (Some (events.Step count)) i list serial host n = goes_keeps host.operation serial host refl
in_keeps (Some events.Settle) i list serial host n = goes_keeps host.operation serial host refl
in_keeps (Some events.Tick) i list serial host n = goes_keeps host.operation serial host refl
in_keeps (Some (events.Inject initiator bytes)) i list serial host n = goes_keeps host.operation serial host refl
in_keeps (Some (events.Key unit key)) i list serial host n = goes_keeps host.operation serial host refl

as_keeps : (part : Part) (event : Option Event) (i : ℕ) (list : Option ℕ) (serial : ℕ) (host : Host) → IsNoAct i event → Keeps (sent_as part event i list serial host) host
as_keeps (request label kind) event i list serial host n = in_keeps event i list serial host n
as_keeps (response label kind) event i list serial host n = keeps_self host
as_keeps no_packet event i list serial host n = keeps_self host

-- a packet in a line that is no action of the initiator
pub sent_keeps : (serial generation from to : ℕ) (bytes : List ℕ) (past : List Moment) (i : ℕ) → IsNoAct i (event_of past) → Keeps (host_at (said (notes.Sent serial generation from to bytes) ∷ past) i) (host_at past i)
sent_keeps serial generation from to bytes past i n =
    keeps_if ((nat_eq from (suc i)) && not ((known_host past i).wire.injected serial)) (sent_as (part_of bytes) (event_of past) i (present_list past i) serial (host_at past i)) (host_at past i)
    (as_keeps (part_of bytes) (event_of past) i (present_list past i) serial (host_at past i) n)

pub pointer_login : (answer : Answer) (own : Bool) (host : Host) → (pointer_answered answer own host).login ≡ host.login
pointer_login Done true host = refl
pointer_login Done false host = refl
pointer_login (Payload bytes) own host = refl
pointer_login (Refused rcode) own host = refl
pointer_login Expired own host = refl
pointer_login NoLabel own host = refl

got_keeps : (own : Option ℕ) (wire : Terms) (serial : ℕ) (present : Option ℕ) (host : Host) → Keeps (got_by own wire serial present host) host
got_keeps (Some own) wire serial present host =
    keeps_same (got_by (Some own) wire serial present host) host (pointer_operation (answer_in (packet_at wire serial)) (is_serial host.pointer own) host) (pointer_login (answer_in (packet_at wire serial)) (is_serial host.pointer own) host)
got_keeps None wire serial present host = keeps_same (got_by None wire serial present host) host refl refl

ended_keeps : (operation : Operation) (word : OpWord) (host : Host) → Keeps (op_ended operation word host) host
ended_keeps operations.State word host = keeps_self host
ended_keeps operations.Rom word host = keeps_none (op_ended operations.Rom word host) host refl
ended_keeps operations.Login word host = keeps_none (op_ended operations.Login word host) host refl
ended_keeps operations.Query word host = keeps_none (op_ended operations.Query word host) host refl
ended_keeps operations.Reconnect word host = keeps_none (op_ended operations.Reconnect word host) host refl
ended_keeps operations.Logout word host = keeps_none (op_ended operations.Logout word host) host refl
ended_keeps operations.Abort word host = keeps_none (op_ended operations.Abort word host) host refl
ended_keeps operations.AbortSet word host = keeps_none (op_ended operations.AbortSet word host) host refl
ended_keeps operations.UnitReset word host = keeps_none (op_ended operations.UnitReset word host) host refl
ended_keeps operations.TargetReset word host = keeps_none (op_ended operations.TargetReset word host) host refl
ended_keeps operations.AgentReset word host = keeps_none (op_ended operations.AgentReset word host) host refl
ended_keeps operations.Enable word host = keeps_none (op_ended operations.Enable word host) host refl

begins_keeps : (k : ℕ) (host : Host) → Keeps (list_begins k host) host
begins_keeps zero host = keeps_same (list_begins zero host) host refl refl
begins_keeps (suc k) host = keeps_self host

reset_keeps : (b : Bool) (host : Host) → Keeps (reset_seen b host) host
reset_keeps true host = keeps_none (reset_seen true host) host refl
reset_keeps false host = keeps_self host

pub note_keeps : (note : Note) (past : List Moment) (i : ℕ) → is_packet note ≡ false → Keeps (host_at (said note ∷ past) i) (host_at past i)
note_keeps (notes.Sent serial generation from to bytes) past i e = untrue (sym e)
note_keeps (notes.Begin initiators ready) past i e = keeps_if (ready && nat_lt i initiators) (ready_host i) (host_at past i) (keeps_none (ready_host i) (host_at past i) refl)
note_keeps (notes.Got serial) past i e =
    let t = (known_host past i).wire in
    keeps_if (is_serial (receiver_in (t.sent serial)) (suc i)) (got_by (answered_at t serial) t serial (present_list past i) (host_at past i)) (host_at past i)
    (got_keeps (answered_at t serial) t serial (present_list past i) (host_at past i))
note_keeps (notes.TimedOut serial) past i e =
    keeps_if (is_serial (sender_in ((known_host past i).wire.sent serial)) (suc i)) _ (host_at past i) (keeps_same _ (host_at past i) refl refl)
note_keeps (notes.Op j operation word) past i e = keeps_if (nat_eq j i) (op_ended operation word (host_at past i)) (host_at past i) (ended_keeps operation word (host_at past i))
note_keeps (notes.Stuck j) past i e = keeps_if (nat_eq j i) _ (host_at past i) (keeps_same _ (host_at past i) refl refl)
note_keeps (notes.Append j n k cdb buffer) past i e = keeps_if (nat_eq j i) (list_begins k (host_at past i)) (host_at past i) (begins_keeps k (host_at past i))
note_keeps (notes.Drop j n) past i e = keeps_if (nat_eq j i) (list_begins zero (host_at past i)) (host_at past i) (begins_keeps zero (host_at past i))
note_keeps (notes.Taken j n k status answer) past i e = keeps_if (nat_eq j i) _ (host_at past i) (keeps_same _ (host_at past i) refl refl)
note_keeps (notes.Seen node generation) past i e =
    keeps_if (nat_eq node (suc i)) (reset_seen (not (nat_eq generation ((known_host past i).wire.generation node))) (host_at past i)) (host_at past i)
    (reset_keeps (not (nat_eq generation ((known_host past i).wire.generation node))) (host_at past i))
note_keeps _ past i e = keeps_self (host_at past i)

-- ---- the request of an action

-- an operation begins with it
pub record Began (action : Action) (serial : ℕ) (old new : Host) (now : Underway) : Type 0 where
  pub own : operation_of action ≡ Some now.operation
  pub action_is : now.action ≡ action
  pub first : now.first ≡ serial
  pub place : now.place ≡ old.writes % 2
  pub login : new.login ≡ old.login

-- or none does, and that under way goes on
pub data Acts (action : Action) (serial : ℕ) (old new : Host) (now : Underway) : Type 0 where
  carries_on : operation_of action ≡ None → Had old new now → Acts action serial old new now
  begins : Began action serial old new now → Acts action serial old new now

begun_by : (action : Action) (operation : Operation) (list : Option ℕ) (serial : ℕ) (host : Host) → (acted action (Some operation) list serial host).operation ≡ Some (record { operation = operation; action = action; first = serial; latest = serial; place = host.writes % 2 })
begun_by (actions.Login unit reconnect exclusive password) operation list serial host = refl
begun_by actions.Rom operation list serial host = refl
begun_by actions.AgentReset operation list serial host = refl
begun_by _ operation list serial host = refl

pub begun_login : (action : Action) (operation : Operation) (list : Option ℕ) (serial : ℕ) (host : Host) → (acted action (Some operation) list serial host).login ≡ host.login
begun_login (actions.Login unit reconnect exclusive password) operation list serial host = refl
begun_login actions.Rom operation list serial host = refl
begun_login actions.AgentReset operation list serial host = refl
begun_login _ operation list serial host = refl

ring_keeps : (pointer : Option ℕ) (serial : ℕ) (host : Host) → Keeps (ring pointer serial host) host
ring_keeps None serial host = keeps_same (ring None serial host) host refl refl
ring_keeps (Some first) serial host = keeps_same (ring (Some first) serial host) host refl refl

none_keeps : (action : Action) (list : Option ℕ) (serial : ℕ) (host : Host) → Keeps (acted action None list serial host) host
none_keeps actions.State list serial host = keeps_same (acted actions.State None list serial host) host refl refl
none_keeps actions.Ring list serial host = ring_keeps host.pointer serial host
none_keeps (actions.Append cmd) list serial host = ring_keeps host.pointer serial host
none_keeps _ list serial host = keeps_self host

acts_by : (action : Action) (found : Option Operation) → operation_of action ≡ found → (list : Option ℕ) (serial : ℕ) (host : Host) (now : Underway) → (acted action found list serial host).operation ≡ Some now → Acts action serial host (acted action found list serial host) now
acts_by action None e list serial host now f = carries_on e (none_keeps action list serial host now f)
acts_by action (Some operation) e list serial host now f =
    let begun : Underway = record { operation = operation; action = action; first = serial; latest = serial; place = host.writes % 2 } in
    let both : Some begun ≡ Some now = sym (begun_by action operation list serial host) ∙ f in
    let same : begun ≡ now = cc in
    begins (record {
      own = e ∙ ap (λ (u : Underway). Some u.operation) same;
      action_is = ap (λ (u : Underway). u.action) (sym same);
      first = ap (λ (u : Underway). u.first) (sym same);
      place = ap (λ (u : Underway). u.place) (sym same);
      login = begun_login action operation list serial host;
    })

-- what the host is behind it
pub asked_host : (action : Action) (label : ℕ) (kind : Kind) (serial generation to : ℕ) (bytes : List ℕ) (past : List Moment) (i : ℕ) → event_of past ≡ Some (events.Act i action) → part_of bytes ≡ request label kind → (terms past).injected serial ≡ false → host_at (said (notes.Sent serial generation (suc i) to bytes) ∷ past) i ≡ acted action (operation_of action) (present_list past i) serial (host_at past i)
asked_host action label kind serial generation to bytes past i e p f =
    let host = host_at past i in
    let list = present_list past i in
    let own : (known_host past i).wire.injected serial ≡ false = ap (λ (t : Terms). t.injected serial) (wire_is past i) ∙ f in
    so_if ((nat_eq (suc i) (suc i)) && not ((known_host past i).wire.injected serial)) (sent_as (part_of bytes) (event_of past) i list serial host) host
    (ap (λ b. b && not ((known_host past i).wire.injected serial)) (itself (suc i)) ∙ ap not own)
    ∙ (ap (λ x. sent_as x (event_of past) i list serial host) p
    ∙ (ap (λ x. sent_in x i list serial host) e
    ∙ so_if (nat_eq i i) (acted action (operation_of action) list serial host) (goes_on host.operation serial host) (itself i)))
  where
    so_if : (b : Bool) (x y : Host) → b ≡ true → cond b x y ≡ x
    so_if true x y g = refl
    so_if false x y g = untrue g

pub action_acts : (action : Action) (label : ℕ) (kind : Kind) (serial generation to : ℕ) (bytes : List ℕ) (past : List Moment) (i : ℕ) → event_of past ≡ Some (events.Act i action) → part_of bytes ≡ request label kind → (terms past).injected serial ≡ false → (now : Underway) → (host_at (said (notes.Sent serial generation (suc i) to bytes) ∷ past) i).operation ≡ Some now → Acts action serial (host_at past i) (host_at (said (notes.Sent serial generation (suc i) to bytes) ∷ past) i) now
action_acts action label kind serial generation to bytes past i e p f now g =
    let is = asked_host action label kind serial generation to bytes past i e p f in
    subst (λ (h : Host). h.operation ≡ Some now → Acts action serial (host_at past i) h now) (sym is) (acts_by action (operation_of action) refl (present_list past i) serial (host_at past i) now) g
