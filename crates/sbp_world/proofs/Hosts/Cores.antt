-- What each note makes of the core of an initiator's host.
use Rattle.sbp_world.proofs.Words.Std.{arith, ◌≡◌, refl, sym, ◌∙◌, ap, ℕ, zero, suc, ◌+◌, ◌%◌, ◌&&◌, not, nat_eq, is_some, Bool, true, false, cond, List, [], ◌∷◌, Option, Some, None, nat_tests}
use Rattle.sbp_world.proofs.Words.Wire.{Moment, asked, said, Kind, Part, part_of, request, response, Terms, passed, terms, Action, Event, Note, NoteBuffer, Operation, OpWord}
use Rattle.sbp_world.proofs.Words.Initiator.{Answer, Done, Expired, NoLabel, Payload, Refused, StatusKind}
use Rattle.sbp_world.proofs.Words.Laws.{present_list, answer_in, answered_at, packet_at, receiver_in, sender_in, event_of, Host, Underway, acted, goes_on, host_at, is_management, known_host, list_begins, op_ended, operation_of, pointer_answered, ring, sent_in, session_ended, session_reset, session_sent, session_stuck}
use Rattle.sbp_world.proofs.Words.World.{Core, host_core, work_of}
use Rattle.sbp_journal.specs.Transactions.{no_packet}
use Rattle.sbp_journal.specs.declared.event.Action.TheVariants as actions
use Rattle.sbp_journal.specs.declared.event.Event.TheVariants as events
use Rattle.sbp_journal.specs.declared.note.Note.TheVariants as notes
use Rattle.sbp_journal.specs.declared.operation.Operation.TheVariants as operations
use Rattle.sbp_journal.specs.declared.operation.OpWord.TheVariants as words
use Rattle.sbp_laws.specs.Hosts.{got_by, is_serial, reset_seen, sent_as}
use Rattle.sbp_world.proofs.Hosts.Carries.{IsNoAct, is_apart}
use Rattle.sbp_world.proofs.Hosts.Beside.{turned as away}
use Rattle.sbp_world.proofs.Common.{untrue, itself, turned}

-- the wire that the fold carries is that of the history
pub wire_is : (past : List Moment) (i : ℕ) → (known_host past i).wire ≡ terms past
wire_is [] i = refl
wire_is (asked line event ∷ past) i = ap (passed (asked line event)) (wire_is past i)
wire_is (said note ∷ past) i = ap (passed (said note)) (wire_is past i)

-- ---- what a choice makes of it

same_if : (b : Bool) (x y : Host) → host_core x ≡ host_core y → host_core (cond b x y) ≡ host_core y
same_if true x y e = e
same_if false x y e = refl

-- where a test does not hold, and where it does
none_if : (b : Bool) (x y : Host) → b ≡ false → host_core (cond b x y) ≡ host_core y
none_if true x y e = untrue (sym e)
none_if false x y e = refl

so_if : (b : Bool) (x y : Host) → b ≡ true → host_core (cond b x y) ≡ host_core x
so_if true x y e = refl
so_if false x y e = untrue e

pub and_false : (b c : Bool) → b ≡ false → b && c ≡ false
and_false true c e = untrue (sym e)
and_false false c e = refl

pub not_so : (b : Bool) → not b ≡ true → b ≡ false
not_so true e = untrue e
not_so false e = refl

-- ---- a packet

-- the core with another operation under way
abbrev core_with : Host → Option Underway → Core
core_with host u = record (host_core host) { work = work_of u }

goes_core : (u : Option Underway) (serial : ℕ) (host : Host) → host.operation ≡ u → host_core (goes_on u serial host) ≡ host_core host
goes_core None serial host e = refl
goes_core (Some underway) serial host e = ap (core_with host) (sym e)

-- one that leaves in a line that is no action of the initiator
other_core : (event : Option Event) (i : ℕ) (list : Option ℕ) (serial : ℕ) (host : Host) → IsNoAct i event → host_core (sent_in event i list serial host) ≡ host_core host
other_core None i list serial host n = goes_core host.operation serial host refl
other_core (Some (events.Act j action)) i list serial host n =
    none_if (nat_eq j i) (acted action (operation_of action) list serial host) (goes_on host.operation serial host) (turned i j n) ∙ goes_core host.operation serial host refl
other_core (Some (events.Begin initiators ready)) i list serial host n = goes_core host.operation serial host refl
other_core (Some (events.Reset physical)) i list serial host n = goes_core host.operation serial host refl
other_core (Some (events.See node)) i list serial host n = goes_core host.operation serial host refl
other_core (Some (events.Deliver packet)) i list serial host n = goes_core host.operation serial host refl
other_core (Some (events.Repeat packet)) i list serial host n = goes_core host.operation serial host refl
other_core (Some (events.Lose packet)) i list serial host n = goes_core host.operation serial host refl
other_core (Some (events.Timeout packet)) i list serial host n = goes_core host.operation serial host refl
other_core (Some (events.Step count)) i list serial host n = goes_core host.operation serial host refl
other_core (Some events.Settle) i list serial host n = goes_core host.operation serial host refl
other_core (Some events.Tick) i list serial host n = goes_core host.operation serial host refl
other_core (Some (events.Inject initiator bytes)) i list serial host n = goes_core host.operation serial host refl
other_core (Some (events.Key unit key)) i list serial host n = goes_core host.operation serial host refl

part_core : (part : Part) (event : Option Event) (i : ℕ) (list : Option ℕ) (serial : ℕ) (host : Host) → IsNoAct i event → host_core (sent_as part event i list serial host) ≡ host_core host
part_core (request label kind) event i list serial host n = other_core event i list serial host n
part_core (response label kind) event i list serial host n = refl
part_core no_packet event i list serial host n = refl

pub sent_core : (serial generation from to : ℕ) (bytes : List ℕ) (past : List Moment) (i : ℕ) → IsNoAct i (event_of past) → host_core (host_at (said (notes.Sent serial generation from to bytes) ∷ past) i) ≡ host_core (host_at past i)
sent_core serial generation from to bytes past i n =
    same_if ((nat_eq from (suc i)) && not ((known_host past i).wire.injected serial)) (sent_as (part_of bytes) (event_of past) i (present_list past i) serial (host_at past i)) (host_at past i)
    (part_core (part_of bytes) (event_of past) i (present_list past i) serial (host_at past i) n)

-- the request of an operation
abbrev pub begun_by : Option Operation → Core → Core
begun_by None c = c
begun_by (Some operations.Login) c = record c { session = session_sent operations.Login c.session; work = Some (record { operation = operations.Login; place = Some (c.writes % 2) }); logins = c.logins + 1; writes = c.writes + 1 }
begun_by (Some operations.AgentReset) c = record c { session = session_sent operations.AgentReset c.session; work = Some (record { operation = operations.AgentReset; place = None }); running = c.running + 1 }
begun_by (Some operation) c = record c { session = session_sent operation c.session; work = Some (record { operation = operation; place = cond (is_management operation) (Some (c.writes % 2)) None }); writes = cond (is_management operation) (c.writes + 1) c.writes }

-- that of a ring: it writes ORB_POINTER where that was not yet written, and else uses up the running number
abbrev pub rung_as : Bool → Core → Core
rung_as true c = record c { running = c.running + 1 }
rung_as false c = record c { wrote_pointer = true }

abbrev pub rung_by : Core → Core
rung_by c = rung_as c.wrote_pointer c

-- the request of an action
abbrev pub started_by : Action → Core → Core
started_by (actions.Append cmd) c = rung_by c
started_by actions.Ring c = rung_by c
started_by action c = begun_by (operation_of action) c

ring_core : (pointer : Option ℕ) (serial : ℕ) (host : Host) → host.pointer ≡ pointer → host_core (ring pointer serial host) ≡ rung_by (host_core host)
ring_core None serial host e = ap (λ (p : Option ℕ). rung_as (is_some p) (host_core host)) (sym e)
ring_core (Some first) serial host e = ap (λ (p : Option ℕ). rung_as (is_some p) (host_core host)) (sym e)

acted_core : (action : Action) (list : Option ℕ) (serial : ℕ) (host : Host) → host_core (acted action (operation_of action) list serial host) ≡ started_by action (host_core host)
acted_core actions.Rom list serial host = refl
acted_core (actions.Login unit reconnect exclusive password) list serial host = refl
acted_core (actions.Query unit) list serial host = refl
acted_core actions.Reconnect list serial host = refl
acted_core actions.Logout list serial host = refl
acted_core (actions.Abort k) list serial host = refl
acted_core actions.AbortSet list serial host = refl
acted_core actions.UnitReset list serial host = refl
acted_core actions.TargetReset list serial host = refl
acted_core actions.AgentReset list serial host = refl
acted_core actions.State list serial host = refl
acted_core (actions.Dummy k) list serial host = refl
acted_core (actions.Put cmd) list serial host = refl
acted_core (actions.Append cmd) list serial host = ring_core host.pointer serial host refl
acted_core actions.Low list serial host = refl
acted_core actions.Link list serial host = refl
acted_core actions.Ring list serial host = ring_core host.pointer serial host refl
acted_core actions.Enable list serial host = refl

request_core : (part : Part) (label : ℕ) (kind : Kind) (event : Option Event) (action : Action) (i : ℕ) (list : Option ℕ) (serial : ℕ) (host : Host) → part ≡ request label kind → event ≡ Some (events.Act i action) → host_core (sent_as part event i list serial host) ≡ started_by action (host_core host)
request_core part label kind event action i list serial host p e =
    ap (λ x. host_core (sent_as x event i list serial host)) p
    ∙ ap (λ x. host_core (sent_in x i list serial host)) e
    ∙ so_if (nat_eq i i) (acted action (operation_of action) list serial host) (goes_on host.operation serial host) (itself i)
    ∙ acted_core action list serial host

pub asks_core : (action : Action) (label : ℕ) (kind : Kind) (serial generation to : ℕ) (bytes : List ℕ) (past : List Moment) (i : ℕ) → event_of past ≡ Some (events.Act i action) → part_of bytes ≡ request label kind → (terms past).injected serial ≡ false → host_core (host_at (said (notes.Sent serial generation (suc i) to bytes) ∷ past) i) ≡ started_by action (host_core (host_at past i))
asks_core action label kind serial generation to bytes past i e p f =
    let host = host_at past i in
    let own : (known_host past i).wire.injected serial ≡ false = ap (λ (t : Terms). t.injected serial) (wire_is past i) ∙ f in
    so_if ((nat_eq (suc i) (suc i)) && not ((known_host past i).wire.injected serial)) (sent_as (part_of bytes) (event_of past) i (present_list past i) serial host) host
    (ap (λ b. b && not ((known_host past i).wire.injected serial)) (itself (suc i)) ∙ ap not own)
    ∙ request_core (part_of bytes) label kind (event_of past) action i (present_list past i) serial host p e

-- ---- what a packet tells

pointer_core : (answer : Answer) (own : Bool) (host : Host) → host_core (pointer_answered answer own host) ≡ host_core host
pointer_core Done true host = refl
pointer_core Done false host = refl
pointer_core (Payload bytes) own host = refl
pointer_core (Refused rcode) own host = refl
pointer_core Expired own host = refl
pointer_core NoLabel own host = refl

got_core : (own : Option ℕ) (wire : Terms) (serial : ℕ) (present : Option ℕ) (host : Host) → host_core (got_by own wire serial present host) ≡ host_core host
got_core (Some own) wire serial present host = pointer_core (answer_in (packet_at wire serial)) (is_serial host.pointer own) host
got_core None wire serial present host = refl

-- ---- an operation ends

-- no operation is a read of AGENT_STATE
abbrev pub ended_in : Operation → OpWord → Core → Core
ended_in operations.State word c = c
ended_in operation word c = record c { session = session_ended operation word c.session; work = None }

op_core : (operation : Operation) (word : OpWord) (host : Host) → host_core (op_ended operation word host) ≡ ended_in operation word (host_core host)
op_core operations.Rom words.Done host = refl
op_core operations.Rom (words.Refused status) host = refl
op_core operations.Rom words.Conflict host = refl
op_core operations.Rom words.Error host = refl
op_core operations.Rom words.Reset host = refl
op_core operations.Rom (words.Count count) host = refl
op_core operations.Rom (words.Bad fault) host = refl
op_core operations.Rom words.NoUnit host = refl
op_core operations.Rom (words.State value) host = refl
op_core operations.Login words.Done host = refl
op_core operations.Login (words.Refused status) host = refl
op_core operations.Login words.Conflict host = refl
op_core operations.Login words.Error host = refl
op_core operations.Login words.Reset host = refl
op_core operations.Login (words.Count count) host = refl
op_core operations.Login (words.Bad fault) host = refl
op_core operations.Login words.NoUnit host = refl
op_core operations.Login (words.State value) host = refl
op_core operations.Query word host = refl
op_core operations.Reconnect word host = refl
op_core operations.Logout word host = refl
op_core operations.Abort word host = refl
op_core operations.AbortSet word host = refl
op_core operations.UnitReset word host = refl
op_core operations.TargetReset word host = refl
op_core operations.AgentReset word host = refl
op_core operations.State word host = refl
op_core operations.Enable word host = refl

pub op_told : (operation : Operation) (word : OpWord) (past : List Moment) (i : ℕ) → host_core (host_at (said (notes.Op i operation word) ∷ past) i) ≡ ended_in operation word (host_core (host_at past i))
op_told operation word past i =
    so_if (nat_eq i i) (op_ended operation word (host_at past i)) (host_at past i) (itself i) ∙ op_core operation word (host_at past i)

-- a session becomes stuck
abbrev pub stuck_in : Core → Core
stuck_in c = record c { session = session_stuck c.session }

pub stuck_told : (past : List Moment) (i : ℕ) → host_core (host_at (said (notes.Stuck i) ∷ past) i) ≡ stuck_in (host_core (host_at past i))
stuck_told past i = so_if (nat_eq i i) _ (host_at past i) (itself i)

-- a generation is seen
abbrev pub reset_in : Bool → Core → Core
reset_in true c = record c { session = session_reset c.session; work = None }
reset_in false c = c

reset_core : (b : Bool) (host : Host) → host_core (reset_seen b host) ≡ reset_in b (host_core host)
reset_core true host = refl
reset_core false host = refl

pub seen_told : (generation : ℕ) (past : List Moment) (i : ℕ) → host_core (host_at (said (notes.Seen (suc i) generation) ∷ past) i) ≡ reset_in (not (nat_eq generation ((terms past).generation (suc i)))) (host_core (host_at past i))
seen_told generation past i =
    let host = host_at past i in
    so_if (nat_eq (suc i) (suc i)) (reset_seen (not (nat_eq generation ((known_host past i).wire.generation (suc i)))) host) host (itself (suc i))
    ∙ reset_core (not (nat_eq generation ((known_host past i).wire.generation (suc i)))) host
    ∙ ap (λ (t : Terms). reset_in (not (nat_eq generation (t.generation (suc i)))) (host_core host)) (wire_is past i)

-- a list begins with its first ORB, or ends
abbrev pub list_in : ℕ → Core → Core
list_in zero c = record c { wrote_pointer = false }
list_in (suc k) c = c

pub list_first : (k : ℕ) → nat_eq k 0 ≡ true → (c : Core) → list_in k c ≡ list_in zero c
list_first zero e c = refl
list_first (suc k) e c = untrue (sym (later k) ∙ e)
  where
    later : (k : ℕ) → nat_eq (suc k) 0 ≡ false
    later k = grind (arith, nat_tests)

pub list_later : (k : ℕ) → nat_eq k 0 ≡ false → (c : Core) → list_in k c ≡ c
list_later zero e c = untrue (sym e)
list_later (suc k) e c = refl

begins_core : (k : ℕ) (host : Host) → host_core (list_begins k host) ≡ list_in k (host_core host)
begins_core zero host = refl
begins_core (suc k) host = refl

pub drop_told : (n : ℕ) (past : List Moment) (i : ℕ) → host_core (host_at (said (notes.Drop i n) ∷ past) i) ≡ list_in zero (host_core (host_at past i))
drop_told n past i = so_if (nat_eq i i) (list_begins zero (host_at past i)) (host_at past i) (itself i)

pub append_told : (n k : ℕ) (cdb : List ℕ) (buffer : NoteBuffer) (past : List Moment) (i : ℕ) → host_core (host_at (said (notes.Append i n k cdb buffer) ∷ past) i) ≡ list_in k (host_core (host_at past i))
append_told n k cdb buffer past i =
    so_if (nat_eq i i) (list_begins k (host_at past i)) (host_at past i) (itself i) ∙ begins_core k (host_at past i)

-- ---- notes that leave it

pub taken_told : (j n k : ℕ) (status : StatusKind) (answer : List ℕ) (past : List Moment) (i : ℕ) → host_core (host_at (said (notes.Taken j n k status answer) ∷ past) i) ≡ host_core (host_at past i)
taken_told j n k status answer past i = same_if (nat_eq j i) _ (host_at past i) refl

pub got_told : (serial : ℕ) (past : List Moment) (i : ℕ) → host_core (host_at (said (notes.Got serial) ∷ past) i) ≡ host_core (host_at past i)
got_told serial past i =
    let t = (known_host past i).wire in
    same_if (is_serial (receiver_in (t.sent serial)) (suc i)) (got_by (answered_at t serial) t serial (present_list past i) (host_at past i)) (host_at past i)
    (got_core (answered_at t serial) t serial (present_list past i) (host_at past i))

pub expired_told : (serial : ℕ) (past : List Moment) (i : ℕ) → host_core (host_at (said (notes.TimedOut serial) ∷ past) i) ≡ host_core (host_at past i)
expired_told serial past i = same_if (is_serial (sender_in ((known_host past i).wire.sent serial)) (suc i)) _ (host_at past i) refl

-- those that say nothing of the initiator
pub apart_core : (note : Note) (past : List Moment) (i : ℕ) → is_apart i note ≡ true → host_core (host_at (said note ∷ past) i) ≡ host_core (host_at past i)
apart_core (notes.Begin initiators ready) past i e = untrue e
apart_core (notes.Append j n k cdb buffer) past i e = none_if (nat_eq j i) (list_begins k (host_at past i)) (host_at past i) (away i j e)
apart_core (notes.Low j n k) past i e = refl
apart_core (notes.Linked j n k) past i e = refl
apart_core (notes.Rung j n k) past i e = refl
apart_core (notes.Dummied j n k) past i e = refl
apart_core (notes.Sent serial generation from to bytes) past i e = none_if ((nat_eq from (suc i)) && not ((known_host past i).wire.injected serial)) _ (host_at past i) (and_false (nat_eq from (suc i)) (not ((known_host past i).wire.injected serial)) (not_so (nat_eq from (suc i)) e))
apart_core (notes.Injected serial) past i e = refl
apart_core (notes.Got serial) past i e = got_told serial past i
apart_core (notes.Ignored serial cause) past i e = refl
apart_core (notes.Lost serial) past i e = refl
apart_core (notes.TimedOut serial) past i e = expired_told serial past i
apart_core (notes.Ran j n k at cdb bytes check) past i e = refl
apart_core (notes.Ended j n k status) past i e = refl
apart_core (notes.Taken j n k status answer) past i e = taken_told j n k status answer past i
apart_core (notes.Cut j n cause) past i e = refl
apart_core (notes.Dead j n cause) past i e = refl
apart_core (notes.Drop j n) past i e = none_if (nat_eq j i) (list_begins zero (host_at past i)) (host_at past i) (away i j e)
apart_core (notes.Managed j word subject status login) past i e = refl
apart_core (notes.ManageFailed j cause) past i e = refl
apart_core (notes.Held id) past i e = refl
apart_core (notes.Expired id) past i e = refl
apart_core (notes.Back id) past i e = refl
apart_core (notes.Left id) past i e = refl
apart_core (notes.Cleared at) past i e = refl
apart_core (notes.Op j operation word) past i e = none_if (nat_eq j i) (op_ended operation word (host_at past i)) (host_at past i) (away i j e)
apart_core (notes.Stuck j) past i e = none_if (nat_eq j i) _ (host_at past i) (away i j e)
apart_core (notes.Reset generation) past i e = refl
apart_core (notes.Seen node generation) past i e = none_if (nat_eq node (suc i)) _ (host_at past i) (not_so (nat_eq node (suc i)) e)
apart_core notes.Tick past i e = refl
apart_core (notes.Refused line number) past i e = refl
apart_core notes.Settled past i e = refl
apart_core notes.Stopped past i e = refl
apart_core (notes.Key at) past i e = refl
apart_core (notes.Unsolicited j) past i e = refl
apart_core (notes.Unsent j) past i e = refl
apart_core (notes.Told j) past i e = refl
