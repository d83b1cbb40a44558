-- The first request of an operation under way at a host is the same from note to note, but for the packet by which an operation begins.
use Rattle.sbp_world.proofs.Words.Std.{◌≡◌, refl, sym, ◌∙◌, ap, ℕ, zero, suc, ◌%◌, ◌&&◌, not, nat_eq, Bool, true, false, cond, List, [], ◌∷◌, Option, Some, None}
use Rattle.sbp_world.proofs.Words.Wire.{Moment, asked, said, Kind, Part, part_of, request, response, Terms, terms, Action, Event, Note, Operation, OpWord, Side}
use Rattle.sbp_world.proofs.Words.Initiator.{Answer, Done, Expired, NoLabel, Payload, Refused}
use Rattle.sbp_world.proofs.Words.Laws.{present_list, answer_in, answered_at, packet_at, receiver_in, sender_in, event_of, Host, Underway, acted, begin_operation, goes_on, host_at, known_host, list_begins, op_ended, operation_of, pointer_answered, ring, sent_in}
use Rattle.sbp_world.proofs.Words.World.{behind}
use Rattle.sbp_journal.specs.Transactions.{no_packet}
use Rattle.sbp_journal.specs.declared.event.Action.TheVariants as actions
use Rattle.sbp_journal.specs.declared.event.Event.TheVariants as events
use Rattle.sbp_journal.specs.declared.note.Note.TheVariants as notes
use Rattle.sbp_journal.specs.declared.operation.Operation.TheVariants as operations
use Rattle.sbp_journal.specs.declared.side.Side.TheVariants as sides
use Rattle.sbp_laws.specs.Hosts.{got_by, is_serial, reset_seen, sent_as}
use Rattle.sbp_world.proofs.Hosts.Carries.{IsNoAct}
use Rattle.sbp_world.proofs.Hosts.Cores.{wire_is}
use Rattle.sbp_world.proofs.Hosts.Layered.{AreTame, is_tame}
use Rattle.sbp_world.proofs.Lists.ManageTerms.{none_is, same_some}
use Rattle.sbp_world.proofs.Common.{itself, turned, untrue}

-- an operation was under way before, with the same first request
pub record Was (before : Option Underway) (now : Underway) : Type 0 where
  pub was : Underway
  pub is : before ≡ Some was
  pub first : was.first ≡ now.first
  pub operation : was.operation ≡ now.operation
  pub place : was.place ≡ now.place

pub record Goes (old new : Host) : Type 0 where
  pub on : (now : Underway) → new.operation ≡ Some now → Was old.operation now

pub goes_then : (a b c : Host) → Goes a b → Goes b c → Goes a c
goes_then a b c f g = record {
  on = λ now e.
      let x = g.on now e in
      let y = f.on x.was x.is in
      record { was = y.was; is = y.is; first = y.first ∙ x.first; operation = y.operation ∙ x.operation; place = y.place ∙ x.place };
}

pub same_goes : (old new : Host) → new.operation ≡ old.operation → Goes old new
same_goes old new e = record { on = λ now f. record { was = now; is = sym e ∙ f; first = refl; operation = refl; place = refl } }

gone_goes : (old new : Host) → new.operation ≡ None → Goes old new
gone_goes old new e = record { on = λ now f. none_is now (sym e ∙ f) }

pick_same : (b : Bool) (old x : Host) → x.operation ≡ old.operation → Goes old (cond b x old)
pick_same true old x e = same_goes old x e
pick_same false old x e = same_goes old old refl

pub pick : (b : Bool) (old x : Host) → Goes old x → Goes old (cond b x old)
pick true old x f = f
pick false old x f = same_goes old old refl

-- ---- a packet that leaves in a line that is no action of the initiator

on_goes : (found : Option Underway) (serial : ℕ) (host : Host) → host.operation ≡ found → Goes host (goes_on found serial host)
on_goes None serial host e = same_goes host host refl
on_goes (Some underway) serial host e = record {
  on = λ now f.
      let same : record underway { latest = serial } ≡ now = same_some _ now f in
      record { was = underway; is = e; first = ap (λ (u : Underway). u.first) same; operation = ap (λ (u : Underway). u.operation) same; place = ap (λ (u : Underway). u.place) same };
}

not_if : (b : Bool) (x y : Host) → b ≡ false → (host : Host) → Goes host y → Goes host (cond b x y)
not_if true x y e host f = untrue (sym e)
not_if false x y e host f = f

other_goes : (event : Option Event) (i : ℕ) (list : Option ℕ) (serial : ℕ) (host : Host) → IsNoAct i event → Goes host (sent_in event i list serial host)
other_goes None i list serial host n = on_goes host.operation serial host refl
other_goes (Some (events.Act j action)) i list serial host n =
    not_if (nat_eq j i) (acted action (operation_of action) list serial host) (goes_on host.operation serial host) (turned i j n) host (on_goes host.operation serial host refl)
other_goes (Some (events.Begin initiators ready)) i list serial host n = on_goes host.operation serial host refl
other_goes (Some (events.Reset physical)) i list serial host n = on_goes host.operation serial host refl
other_goes (Some (events.See node)) i list serial host n = on_goes host.operation serial host refl
other_goes (Some (events.Deliver packet)) i list serial host n = on_goes host.operation serial host refl
other_goes (Some (events.Repeat packet)) i list serial host n = on_goes host.operation serial host refl
other_goes (Some (events.Lose packet)) i list serial host n = on_goes host.operation serial host refl
other_goes (Some (events.Timeout packet)) i list serial host n = on_goes host.operation serial host refl
other_goes (Some (events.Step count)) i list serial host n = on_goes host.operation serial host refl
other_goes (Some events.Settle) i list serial host n = on_goes host.operation serial host refl
other_goes (Some events.Tick) i list serial host n = on_goes host.operation serial host refl
other_goes (Some (events.Inject initiator bytes)) i list serial host n = on_goes host.operation serial host refl
other_goes (Some (events.Key unit key)) i list serial host n = on_goes host.operation serial host refl

part_goes : (part : Part) (event : Option Event) (i : ℕ) (list : Option ℕ) (serial : ℕ) (host : Host) → IsNoAct i event → Goes host (sent_as part event i list serial host)
part_goes (request label kind) event i list serial host n = other_goes event i list serial host n
part_goes (response label kind) event i list serial host n = same_goes host host refl
part_goes no_packet event i list serial host n = same_goes host host refl

-- of another node
pub other_first : (serial generation from to : ℕ) (bytes : List ℕ) (past : List Moment) (i : ℕ) → nat_eq from (suc i) ≡ false → Goes (host_at past i) (host_at (said (notes.Sent serial generation from to bytes) ∷ past) i)
other_first serial generation from to bytes past i e =
    not_pick ((nat_eq from (suc i)) && not ((known_host past i).wire.injected serial)) (host_at past i) (sent_as (part_of bytes) (event_of past) i (present_list past i) serial (host_at past i)) (ap (λ b. b && not ((known_host past i).wire.injected serial)) e)
  where
    not_pick : (b : Bool) (old x : Host) → b ≡ false → Goes old (cond b x old)
    not_pick true old x f = untrue (sym f)
    not_pick false old x f = same_goes old old refl

pub line_first : (line : ℕ) (event : Event) (past : List Moment) (i : ℕ) → Goes (host_at past i) (host_at (asked line event ∷ past) i)
line_first line event past i = same_goes (host_at past i) (host_at (asked line event ∷ past) i) refl

pub sent_first : (serial generation from to : ℕ) (bytes : List ℕ) (past : List Moment) (i : ℕ) → IsNoAct i (event_of past) → Goes (host_at past i) (host_at (said (notes.Sent serial generation from to bytes) ∷ past) i)
sent_first serial generation from to bytes past i n =
    pick ((nat_eq from (suc i)) && not ((known_host past i).wire.injected serial)) (host_at past i) (sent_as (part_of bytes) (event_of past) i (present_list past i) serial (host_at past i))
    (part_goes (part_of bytes) (event_of past) i (present_list past i) serial (host_at past i) n)

-- ---- what a packet tells

pub pointer_operation : (answer : Answer) (own : Bool) (host : Host) → (pointer_answered answer own host).operation ≡ host.operation
pointer_operation Done true host = refl
pointer_operation Done false host = refl
pointer_operation (Payload bytes) own host = refl
pointer_operation (Refused rcode) own host = refl
pointer_operation Expired own host = refl
pointer_operation NoLabel own host = refl

pub got_operation : (own : Option ℕ) (wire : Terms) (serial : ℕ) (present : Option ℕ) (host : Host) → (got_by own wire serial present host).operation ≡ host.operation
got_operation (Some own) wire serial present host = pointer_operation (answer_in (packet_at wire serial)) (is_serial host.pointer own) host
got_operation None wire serial present host = refl

-- ---- an operation ends, a list begins, a generation is seen

ended_goes : (operation : Operation) (word : OpWord) (host : Host) → Goes host (op_ended operation word host)
ended_goes operations.State word host = same_goes host host refl
ended_goes operations.Rom word host = gone_goes host (op_ended operations.Rom word host) refl
ended_goes operations.Login word host = gone_goes host (op_ended operations.Login word host) refl
ended_goes operations.Query word host = gone_goes host (op_ended operations.Query word host) refl
ended_goes operations.Reconnect word host = gone_goes host (op_ended operations.Reconnect word host) refl
ended_goes operations.Logout word host = gone_goes host (op_ended operations.Logout word host) refl
ended_goes operations.Abort word host = gone_goes host (op_ended operations.Abort word host) refl
ended_goes operations.AbortSet word host = gone_goes host (op_ended operations.AbortSet word host) refl
ended_goes operations.UnitReset word host = gone_goes host (op_ended operations.UnitReset word host) refl
ended_goes operations.TargetReset word host = gone_goes host (op_ended operations.TargetReset word host) refl
ended_goes operations.AgentReset word host = gone_goes host (op_ended operations.AgentReset word host) refl
ended_goes operations.Enable word host = gone_goes host (op_ended operations.Enable word host) refl

list_goes : (k : ℕ) (host : Host) → Goes host (list_begins k host)
list_goes zero host = same_goes host (list_begins zero host) refl
list_goes (suc k) host = same_goes host host refl

reset_goes : (b : Bool) (host : Host) → Goes host (reset_seen b host)
reset_goes true host = gone_goes host (reset_seen true host) refl
reset_goes false host = same_goes host host refl

abbrev pub is_begin : Note → Bool
is_begin (notes.Begin initiators ready) = true
is_begin (notes.Sent serial generation from to bytes) = true
is_begin _ = false

-- any note but the first one and those of packets
pub note_first : (note : Note) (past : List Moment) (i : ℕ) → is_begin note ≡ false → Goes (host_at past i) (host_at (said note ∷ past) i)
note_first (notes.Begin initiators ready) past i e = untrue (sym e)
note_first (notes.Sent serial generation from to bytes) past i e = untrue (sym e)
note_first (notes.Append j n k cdb buffer) past i e = pick (nat_eq j i) (host_at past i) (list_begins k (host_at past i)) (list_goes k (host_at past i))
note_first (notes.Got serial) past i e =
    let t = (known_host past i).wire in
    pick_same (is_serial (receiver_in (t.sent serial)) (suc i)) (host_at past i) (got_by (answered_at t serial) t serial (present_list past i) (host_at past i))
    (got_operation (answered_at t serial) t serial (present_list past i) (host_at past i))
note_first (notes.TimedOut serial) past i e = pick_same (is_serial (sender_in ((known_host past i).wire.sent serial)) (suc i)) (host_at past i) _ refl
note_first (notes.Taken j n k status answer) past i e = pick_same (nat_eq j i) (host_at past i) _ refl
note_first (notes.Drop j n) past i e = pick (nat_eq j i) (host_at past i) (list_begins zero (host_at past i)) (list_goes zero (host_at past i))
note_first (notes.Op j operation word) past i e = pick (nat_eq j i) (host_at past i) (op_ended operation word (host_at past i)) (ended_goes operation word (host_at past i))
note_first (notes.Stuck j) past i e = pick_same (nat_eq j i) (host_at past i) _ refl
note_first (notes.Seen node generation) past i e = pick (nat_eq node (suc i)) (host_at past i) (reset_seen (not (nat_eq generation ((known_host past i).wire.generation node))) (host_at past i)) (reset_goes (not (nat_eq generation ((known_host past i).wire.generation node))) (host_at past i))
note_first _ past i e = same_goes (host_at past i) (host_at past i) refl

tame_begin : (note : Note) → is_tame note ≡ true → is_begin note ≡ false
tame_begin (notes.Begin initiators ready) e = untrue e
tame_begin (notes.Sent serial generation from to bytes) e = untrue e
tame_begin _ e = refl

pub told_first : (told : List Side) (past : List Moment) (i : ℕ) → AreTame told → Goes (host_at past i) (host_at (behind told past) i)
told_first [] past i h = same_goes (host_at past i) (host_at past i) refl
told_first (sides.Own note ∷ later) past i h =
    goes_then (host_at past i) (host_at (said note ∷ past) i) (host_at (behind later (said note ∷ past)) i) (note_first note past i (tame_begin note h.0)) (told_first later (said note ∷ past) i h.1)
told_first (_ ∷ later) past i h = absurd h.0

-- ---- the packet by which an operation begins

pub so_if : (b : Bool) (x y : Host) → b ≡ true → cond b x y ≡ x
so_if true x y e = refl
so_if false x y e = untrue e

-- it is the first request, and the place of its ORB the next one
abbrev pub HasBegun : Underway → (serial writes : ℕ) → Operation → Type 0
HasBegun now serial writes operation = (now.first ≡ serial) × ((now.place ≡ writes % 2) × (now.operation ≡ operation))

begin_first : (operation : Operation) (action : Action) (serial : ℕ) (host : Host) (now : Underway) → (begin_operation operation action serial host).operation ≡ Some now → HasBegun now serial host.writes operation
begin_first operation action serial host now e =
    let same = sym (same_some _ now e) in (ap (λ (u : Underway). u.first) same, (ap (λ (u : Underway). u.place) same, ap (λ (u : Underway). u.operation) same))

-- the operation of an action is one
named_first : (now : Underway) (serial writes : ℕ) (operation own : Operation) → Some own ≡ Some operation → HasBegun now serial writes own → HasBegun now serial writes operation
named_first now serial writes operation own o h = (h.0, (h.1.0, h.1.1 ∙ same_some own operation o))

acted_first : (action : Action) (operation : Operation) (list : Option ℕ) (serial : ℕ) (host : Host) (now : Underway) → operation_of action ≡ Some operation → (acted action (operation_of action) list serial host).operation ≡ Some now → HasBegun now serial host.writes operation
acted_first (actions.Login unit reconnect exclusive password) operation list serial host now o e = named_first now serial host.writes operation _ o (begin_first _ (actions.Login unit reconnect exclusive password) serial host now e)
acted_first actions.Rom operation list serial host now o e = named_first now serial host.writes operation _ o (begin_first _ actions.Rom serial host now e)
acted_first actions.AgentReset operation list serial host now o e = named_first now serial host.writes operation _ o (begin_first _ actions.AgentReset serial host now e)
acted_first (actions.Query unit) operation list serial host now o e = named_first now serial host.writes operation _ o (begin_first _ (actions.Query unit) serial host now e)
acted_first actions.Reconnect operation list serial host now o e = named_first now serial host.writes operation _ o (begin_first _ actions.Reconnect serial host now e)
acted_first actions.Logout operation list serial host now o e = named_first now serial host.writes operation _ o (begin_first _ actions.Logout serial host now e)
acted_first (actions.Abort k) operation list serial host now o e = named_first now serial host.writes operation _ o (begin_first _ (actions.Abort k) serial host now e)
acted_first actions.AbortSet operation list serial host now o e = named_first now serial host.writes operation _ o (begin_first _ actions.AbortSet serial host now e)
acted_first actions.UnitReset operation list serial host now o e = named_first now serial host.writes operation _ o (begin_first _ actions.UnitReset serial host now e)
acted_first actions.TargetReset operation list serial host now o e = named_first now serial host.writes operation _ o (begin_first _ actions.TargetReset serial host now e)
acted_first actions.Enable operation list serial host now o e = named_first now serial host.writes operation _ o (begin_first _ actions.Enable serial host now e)
acted_first actions.State operation list serial host now o e = none_is operation o
acted_first (actions.Dummy k) operation list serial host now o e = none_is operation o
acted_first (actions.Put cmd) operation list serial host now o e = none_is operation o
acted_first (actions.Append cmd) operation list serial host now o e = none_is operation o
acted_first actions.Low operation list serial host now o e = none_is operation o
acted_first actions.Link operation list serial host now o e = none_is operation o
acted_first actions.Ring operation list serial host now o e = none_is operation o

pub ring_operation : (found : Option ℕ) (serial : ℕ) (host : Host) → (ring found serial host).operation ≡ host.operation
ring_operation None serial host = refl
ring_operation (Some first) serial host = refl

-- an action that begins none leaves it
pub acted_none : (action : Action) (list : Option ℕ) (serial : ℕ) (host : Host) → operation_of action ≡ None → (acted action (operation_of action) list serial host).operation ≡ host.operation
acted_none actions.State list serial host o = refl
acted_none (actions.Dummy k) list serial host o = refl
acted_none (actions.Put cmd) list serial host o = refl
acted_none (actions.Append cmd) list serial host o = ring_operation host.pointer serial host
acted_none actions.Low list serial host o = refl
acted_none actions.Link list serial host o = refl
acted_none actions.Ring list serial host o = ring_operation host.pointer serial host
acted_none actions.Rom list serial host o = none_is operations.Rom (sym o)
acted_none (actions.Login unit reconnect exclusive password) list serial host o = none_is operations.Login (sym o)
acted_none (actions.Query unit) list serial host o = none_is operations.Query (sym o)
acted_none actions.Reconnect list serial host o = none_is operations.Reconnect (sym o)
acted_none actions.Logout list serial host o = none_is operations.Logout (sym o)
acted_none (actions.Abort k) list serial host o = none_is operations.Abort (sym o)
acted_none actions.AbortSet list serial host o = none_is operations.AbortSet (sym o)
acted_none actions.UnitReset list serial host o = none_is operations.UnitReset (sym o)
acted_none actions.TargetReset list serial host o = none_is operations.TargetReset (sym o)
acted_none actions.AgentReset list serial host o = none_is operations.AgentReset (sym o)
acted_none actions.Enable list serial host o = none_is operations.Enable (sym o)

module _ (action : Action) (label : ℕ) (kind : Kind) (serial generation to : ℕ) (bytes : List ℕ) (past : List Moment) (i : ℕ) (line : event_of past ≡ Some (events.Act i action)) (part : part_of bytes ≡ request label kind) (honest : (terms past).injected serial ≡ false) where
  abbrev now : List Moment
  now = said (notes.Sent serial generation (suc i) to bytes) ∷ past

  asked_is : host_at now i ≡ acted action (operation_of action) (present_list past i) serial (host_at past i)
  asked_is =
      let host = host_at past i in
      let own : (known_host past i).wire.injected serial ≡ false = ap (λ (t : Terms). t.injected serial) (wire_is past i) ∙ honest in
      so_if ((nat_eq (suc i) (suc i)) && not ((known_host past i).wire.injected serial)) (sent_as (part_of bytes) (event_of past) i (present_list past i) serial host) host
      (ap (λ b. b && not ((known_host past i).wire.injected serial)) (itself (suc i)) ∙ ap not own)
      ∙ ap (λ x. sent_as x (event_of past) i (present_list past i) serial host) part
      ∙ ap (λ x. sent_in x i (present_list past i) serial host) line
      ∙ so_if (nat_eq i i) (acted action (operation_of action) (present_list past i) serial host) (goes_on host.operation serial host) (itself i)

  pub begun_first : (operation : Operation) (u : Underway) → operation_of action ≡ Some operation → (host_at now i).operation ≡ Some u → HasBegun u serial (host_at past i).writes operation
  begun_first operation u o e = acted_first action operation (present_list past i) serial (host_at past i) u o (sym (ap (λ (h : Host). h.operation) asked_is) ∙ e)

  pub kept_first : operation_of action ≡ None → Goes (host_at past i) (host_at now i)
  kept_first o = same_goes (host_at past i) (host_at now i) (ap (λ (h : Host). h.operation) asked_is ∙ acted_none action (present_list past i) serial (host_at past i) o)
