-- What an initiator has done and learned, read off its lines, its notes and its packets: its session, its operation, its counts, the ROM
-- and the responses that it read, and what it knows of its present list (NCITS 325-1998, login, reconnect, logout).
use Rattle.std.specs.Prelude.{ℕ, zero, suc, ◌+◌, ◌-◌, ◌%◌, ◌==◌, ◌&&◌, ◌||◌, not, nat_lt, nat_le, Bool, true, false, if◌then◌else◌, List, [], ◌∷◌, ◌++◌, replicate, slice_set, slice_index_or, Option, Some, None, Result, Ok, Err}
use Rattle.std.specs.List.{filter}
use Rattle.sbp_base.specs.Quadlets.{quad}
use Rattle.orb_layout.specs.declared.login.LoginResponse.{LoginResponse}
use Rattle.orb_layout.specs.LoginResponses.{login_response}
use Rattle.orb_layout.specs.Replies.{Answer, Payload, Done}
use Rattle.orb_layout.specs.StatusBlocks.{row_of}
use Rattle.bus_memory.specs.declared.window.Window.{Window}
use Rattle.bus_memory.specs.declared.window.Window.TheVariants as windows
use Rattle.bus_memory.specs.Windows.{window_at, start}
use Rattle.bus_memory.specs.Memory.{patch}
use Rattle.config_rom.specs.declared.fault.RomFault.{RomFault}
use Rattle.config_rom.specs.Reading.{Tree, reading}
use Rattle.config_rom.specs.Unit.{sbp_unit_of}
use Rattle.config_rom.specs.declared.unit.SbpUnit.{SbpUnit}
use Rattle.sbp_journal.specs.Run.{Moment, asked, said}
use Rattle.sbp_journal.specs.Addresses.{Access, base_of}
use Rattle.sbp_journal.specs.Transactions.{Part, request, part_of}
use Rattle.sbp_journal.specs.Wire.{Terms, beginning, passed}
use Rattle.sbp_journal.specs.declared.event.Event.{Event}
use Rattle.sbp_journal.specs.declared.event.Event.TheVariants as events
use Rattle.sbp_journal.specs.declared.event.Action.{Action}
use Rattle.sbp_journal.specs.declared.event.Action.TheVariants as actions
use Rattle.sbp_journal.specs.declared.operation.Operation.{Operation}
use Rattle.sbp_journal.specs.declared.operation.Operation.TheVariants as operations
use Rattle.sbp_journal.specs.declared.operation.OpWord.{OpWord}
use Rattle.sbp_journal.specs.declared.operation.OpWord.TheVariants as words
use Rattle.sbp_journal.specs.declared.note.Note.{Note}
use Rattle.sbp_journal.specs.declared.note.Note.TheVariants as notes
use Rattle.sbp_laws.specs.Turns.{event_of}
use Rattle.sbp_laws.specs.Packets.{packet_at, access_at, answered_at, answer_in, receiver_in, sender_in}
use Rattle.sbp_laws.specs.Lists.{present_list, is_list}

-- A session; of one that is stuck, whether it had a login as it became so.
pub data Session : Type 0 where
  out : Session
  entering : Session
  live : Session
  held : Session
  returning : Session
  leaving : Session
  stuck : (had_login : Bool) → Session

abbrev pub has_login : Session → Bool
has_login out = false
has_login entering = false
has_login live = true
has_login held = true
has_login returning = true
has_login leaving = true
has_login (stuck had_login) = had_login

abbrev pub is_stuck : Session → Bool
is_stuck (stuck had_login) = true
is_stuck _ = false

-- an operation under way: which one, the serials of its first and of its latest request, and the place of its management ORB
pub record Underway : Type 0 where
  pub operation : Operation
  pub action : Action
  pub first : ℕ
  pub latest : ℕ
  pub place : ℕ

-- a read of AGENT_STATE under way: its serial, and the list of which it says something
pub record StateRead : Type 0 where
  pub serial : ℕ
  pub list : Option ℕ

-- An initiator: its session, with the response to its login; its operation and its reads of AGENT_STATE, in the order of their lines; the
-- distance of the management agent in the ROM that was read, and the quadlets of a ROM that is being read; its next login number, how
-- many management writes it sent, and its next running number; the serial of the ORB_POINTER write of its present list, and whether that
-- was answered complete; whether that list is marked dead; and its two response buffers.
pub record Host : Type 0 where
  pub session : Session
  pub login : LoginResponse
  pub operation : Option Underway
  pub reads : List StateRead
  pub management : Option ℕ
  pub quads : List ℕ
  pub logins : ℕ
  pub writes : ℕ
  pub running : ℕ
  pub pointer : Option ℕ
  pub pointed : Bool
  pub marked_dead : Bool
  pub responses : List (List ℕ)

abbrev pub new_host : Host
new_host = record {
  session = out;
  login = record { login = 0; agent = 0; hold = 0 };
  operation = None;
  reads = [];
  management = None;
  quads = [];
  logins = 0;
  writes = 0;
  running = 1;
  pointer = None;
  pointed = false;
  marked_dead = false;
  responses = replicate 2 (replicate 256 0);
}

-- an initiator that begins logged in on unit 0, with the target's ROM read
abbrev pub ready_host : ℕ → Host
ready_host i = record new_host {
  session = live;
  login = record { login = i + 1; agent = base_of i; hold = 3 };
  management = Some 0x4000;
  logins = 1;
}

-- the operation of an action; `state` and the steps of a list are none
abbrev pub operation_of : Action → Option Operation
operation_of actions.Rom = Some operations.Rom
operation_of (actions.Login unit reconnect exclusive password) = Some operations.Login
operation_of (actions.Query unit) = Some operations.Query
operation_of actions.Reconnect = Some operations.Reconnect
operation_of actions.Logout = Some operations.Logout
operation_of (actions.Abort k) = Some operations.Abort
operation_of actions.AbortSet = Some operations.AbortSet
operation_of actions.UnitReset = Some operations.UnitReset
operation_of actions.TargetReset = Some operations.TargetReset
operation_of actions.AgentReset = Some operations.AgentReset
operation_of actions.Enable = Some operations.Enable
operation_of _ = None

-- the operations that write MANAGEMENT_AGENT
abbrev pub is_management : Operation → Bool
is_management operations.Rom = false
is_management operations.AgentReset = false
is_management operations.State = false
is_management operations.Enable = false
is_management _ = true

-- ---- sessions
abbrev pub session_sent : Operation → Session → Session
session_sent operations.Login session = entering
session_sent operations.Reconnect session = returning
session_sent operations.Logout session = leaving
session_sent operation session = session

abbrev pub session_ended : Operation → OpWord → Session → Session
session_ended operations.Login words.Done entering = live
session_ended operations.Login (words.Refused status) entering = out
session_ended operations.Login words.Conflict entering = out
session_ended operations.Reconnect words.Done returning = live
session_ended operations.Reconnect (words.Refused status) returning = out
session_ended operations.Reconnect words.Conflict returning = held
session_ended operations.Logout words.Done leaving = out
session_ended operations.Logout (words.Refused status) leaving = out
session_ended operations.Logout words.Conflict leaving = live
session_ended operation word session = session

abbrev pub session_stuck : Session → Session
session_stuck session = stuck (has_login session)

abbrev pub session_reset : Session → Session
session_reset session = if has_login session then held else out

-- ---- what an action's request is for
abbrev pub begin_operation : Operation → Action → ℕ → Host → Host
begin_operation operation action serial host = record host {
  operation = Some (record { operation = operation; action = action; first = serial; latest = serial; place = host.writes % 2 });
  session = session_sent operation host.session;
  writes = if is_management operation then host.writes + 1 else host.writes;
}

-- the list of which a read of AGENT_STATE says something: the present one, once its ORB_POINTER write was answered
abbrev pub told_of : Bool → Option ℕ → Option ℕ
told_of true list = list
told_of false list = None

-- a ring writes ORB_POINTER where that was not yet written for the list, else DOORBELL with the running number
abbrev pub ring : Option ℕ → ℕ → Host → Host
ring None serial host = record host { pointer = Some serial; pointed = false }
ring (Some first) serial host = record host { running = host.running + 1 }

abbrev pub acted : Action → Option Operation → Option ℕ → ℕ → Host → Host
acted (actions.Login unit reconnect exclusive password) (Some operation) list serial host =
    record (begin_operation operation (actions.Login unit reconnect exclusive password) serial host) { logins = host.logins + 1 }
acted actions.Rom (Some operation) list serial host = record (begin_operation operation actions.Rom serial host) { quads = [] }
acted actions.AgentReset (Some operation) list serial host =
    record (begin_operation operation actions.AgentReset serial host) { running = host.running + 1 }
acted action (Some operation) list serial host = begin_operation operation action serial host
acted actions.State None list serial host =
    record host { reads = host.reads ++ record { serial = serial; list = told_of host.pointed list } ∷ [] }
acted actions.Ring None list serial host = ring host.pointer serial host
acted (actions.Append cmd) None list serial host = ring host.pointer serial host
acted action None list serial host = host

-- the next quadlet of a ROM is asked for
abbrev pub goes_on : Option Underway → ℕ → Host → Host
goes_on None serial host = host
goes_on (Some underway) serial host = record host { operation = Some (record underway { latest = serial }) }

-- an initiator sends a request: for its line's action, or, in a delivery, for its operation
abbrev pub sent_in : Option Event → ℕ → Option ℕ → ℕ → Host → Host
sent_in (Some (events.Act j action)) i list serial host =
    if j == i then acted action (operation_of action) list serial host else goes_on host.operation serial host
sent_in event i list serial host = goes_on host.operation serial host

abbrev pub sent_as : Part → Option Event → ℕ → Option ℕ → ℕ → Host → Host
sent_as (request label kind) event i list serial host = sent_in event i list serial host
sent_as part event i list serial host = host

-- ---- what a packet tells
abbrev pub is_serial : Option ℕ → ℕ → Bool
is_serial None serial = false
is_serial (Some other) serial = other == serial

abbrev pub is_latest : Option Underway → ℕ → Bool
is_latest None serial = false
is_latest (Some underway) serial = underway.latest == serial

-- the answer to the ORB_POINTER write of the present list
abbrev pub pointer_answered : Answer → Bool → Host → Host
pointer_answered Done true host = record host { pointed = true }
pointer_answered answer own host = host

-- the answer to a read of AGENT_STATE: DEAD (3) marks its list, while that is the present one
abbrev pub is_present : Option ℕ → Option ℕ → Bool
is_present None present = false
is_present (Some list) present = is_list present list

abbrev pub says_dead : Answer → ℕ → Option ℕ → List StateRead → Bool
says_dead (Payload bytes) serial present [] = false
says_dead (Payload bytes) serial present (read ∷ reads) =
    ((read.serial == serial) && is_present read.list present && (quad bytes 0 == 3)) || says_dead (Payload bytes) serial present reads
says_dead answer serial present reads = false

abbrev pub without_read : ℕ → List StateRead → List StateRead
without_read serial reads = filter (λ read. not (read.serial == serial)) reads

-- a quadlet of a ROM that is being read
abbrev pub is_rom : Option Underway → Bool
is_rom None = false
is_rom (Some underway) = is_rom_word underway.operation
  where
    is_rom_word : Operation → Bool
    is_rom_word operations.Rom = true
    is_rom_word _ = false

abbrev pub with_quad : Answer → Bool → List ℕ → List ℕ
with_quad (Payload bytes) true quads = quads ++ quad bytes 0 ∷ []
with_quad answer own quads = quads

abbrev pub answered : Answer → ℕ → Option ℕ → Host → Host
answered answer serial present host = record (pointer_answered answer (is_serial host.pointer serial) host) {
  reads = without_read serial host.reads;
  marked_dead = host.marked_dead || says_dead answer serial present host.reads;
  quads = with_quad answer (is_rom host.operation && is_latest host.operation serial) host.quads;
}

-- a write into a response buffer
abbrev pub stored_in : Option Window → Access → List (List ℕ) → List (List ℕ)
stored_in (Some (windows.Response m)) access responses =
    if nat_le (access.offset - start (windows.Response m) + access.count) 256
    then slice_set responses m (patch (slice_index_or responses m []) (access.offset - start (windows.Response m)) access.payload)
    else responses
stored_in window access responses = responses

abbrev pub stored : Option Access → List (List ℕ) → List (List ℕ)
stored None responses = responses
stored (Some access) responses = if access.is_write then stored_in (window_at access.offset) access responses else responses

abbrev pub got_by : Option ℕ → Terms → ℕ → Option ℕ → Host → Host
got_by (Some own) wire serial present host = answered (answer_in (packet_at wire serial)) own present host
got_by None wire serial present host = record host { responses = stored (access_at wire serial) host.responses }

-- ---- what an operation leaves as it ends
-- the distance of the management agent, in quadlets, that a ROM tells of its SBP-2 unit
abbrev pub distance_in : Option SbpUnit → Option ℕ
distance_in None = None
distance_in (Some unit) = Some unit.management

abbrev pub management_in : Result Tree RomFault → Option ℕ
management_in (Ok tree) = distance_in (sbp_unit_of tree.blocks tree.entries)
management_in (Err fault) = None

abbrev pub place_in : Option Underway → ℕ
place_in None = 0
place_in (Some underway) = underway.place

abbrev pub response_of : Host → List ℕ
response_of host = slice_index_or host.responses (place_in host.operation) []

abbrev pub op_left : Operation → OpWord → Host → Host
op_left operations.Rom words.Done host = record host { management = management_in (reading host.quads) }
op_left operations.Login words.Done host = record host { login = login_response (response_of host) }
op_left operation word host = host

abbrev pub op_ended : Operation → OpWord → Host → Host
op_ended operations.State word host = host
op_ended operation word host =
    record (op_left operation word host) { operation = None; session = session_ended operation word host.session }

-- ---- the fold
abbrev pub begun : Bool → (initiators i : ℕ) → Host → Host
begun ready initiators i host = if ready && nat_lt i initiators then ready_host i else host

-- a list begins with its ORB 0, and ends as it is dropped
abbrev pub list_begins : ℕ → Host → Host
list_begins zero host = record host { pointer = None; pointed = false; marked_dead = false }
list_begins (suc k) host = host

abbrev pub reset_seen : Bool → Host → Host
reset_seen true host = record host { session = session_reset host.session; operation = None; reads = [] }
reset_seen false host = host

-- what a note makes of initiator i, by what stood before it
abbrev pub host_by : Note → List Moment → Terms → ℕ → Host → Host
host_by (notes.Begin initiators ready) past wire i host = begun ready initiators i host
host_by (notes.Sent serial generation from to bytes) past wire i host =
    if (from == suc i) && not (wire.injected serial) then sent_as (part_of bytes) (event_of past) i (present_list past i) serial host else host
host_by (notes.Got serial) past wire i host =
    if is_serial (receiver_in (wire.sent serial)) (suc i) then got_by (answered_at wire serial) wire serial (present_list past i) host else host
host_by (notes.TimedOut serial) past wire i host =
    if is_serial (sender_in (wire.sent serial)) (suc i) then record host { reads = without_read serial host.reads } else host
host_by (notes.Op j operation word) past wire i host = if j == i then op_ended operation word host else host
host_by (notes.Stuck j) past wire i host = if j == i then record host { session = session_stuck host.session } else host
host_by (notes.Append j n k cdb buffer) past wire i host = if j == i then list_begins k host else host
host_by (notes.Drop j n) past wire i host = if j == i then list_begins zero host else host
host_by (notes.Taken j n k status answer) past wire i host =
    if j == i then record host { marked_dead = host.marked_dead || ((row_of status).dead == 1) } else host
host_by (notes.Seen node generation) past wire i host =
    if node == suc i then reset_seen (not (generation == wire.generation node)) host else host
host_by _ past wire i host = host

-- the wire and an initiator, as one fold
pub record KnownHost : Type 0 where
  pub wire : Terms
  pub host : Host

abbrev pub knows : Moment → List Moment → ℕ → KnownHost → KnownHost
knows (asked line event) past i known = record known { wire = passed (asked line event) known.wire }
knows (said note) past i known = record { wire = passed (said note) known.wire; host = host_by note past known.wire i known.host }

abbrev pub known_host : List Moment → ℕ → KnownHost
known_host [] i = record { wire = beginning; host = new_host }
known_host (moment ∷ past) i = knows moment past i (known_host past i)

abbrev pub host_at : List Moment → ℕ → Host
host_at past i = (known_host past i).host
