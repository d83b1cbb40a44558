-- An operation of the management reads an EUI-64 for an ORB alone whose function wants it, by the terms of every history: so for none that asks for an abort.
use Rattle.std.proofs.Common.{◌≡◌, ◌∙◌, refl, sym, ap, subst, ℕ, ◌+◌, ◌*◌, ◌^◌, ◌==◌, not, Bool, true, false, cond, List, [], ◌∷◌, length, Option, Some, None, Result, Ok, Err}
use Rattle.std.specs.Prelude.{is_none, position, unwrap_or}
use Rattle.login_table.specs.Table.{Table}
use Rattle.mgmt_agent.specs.Decisions.{decide, known_wants_eui, reads_eui}
use Rattle.mgmt_agent.specs.Machine.{Machine, beside, cut_response, decide_step, decided_as, eui_step, high_eui_at, high_got, in_phase, low_got, orb_got, quiet, reply_in, reply_step, reply_to, response_written, start_step, start_with, status_step, status_written, telling}
use Rattle.mgmt_agent.specs.Statuses.{function_of}
use Rattle.mgmt_agent.specs.declared.decision.ManagerStep.{ManagerStep}
use Rattle.mgmt_agent.specs.declared.decision.Outcome.{Outcome}
use Rattle.mgmt_agent.specs.declared.function.Function.TheVariants as functions
use Rattle.mgmt_agent.specs.declared.operation.Operation.{Operation}
use Rattle.mgmt_agent.specs.declared.operation.Phase.{Phase}
use Rattle.mgmt_agent.specs.declared.operation.Phase.TheVariants as phases
use Rattle.orb_layout.specs.ManagementOrbs.{management_orb}
use Rattle.orb_layout.specs.Pointers.{offset_at}
use Rattle.orb_layout.specs.Replies.{Answer, Expired, payload_of, write_failure}
use Rattle.orb_layout.specs.declared.ask.Ask.TheVariants as asks
use Rattle.orb_layout.specs.declared.ask.Ask.TheVariants.{Nothing}
use Rattle.orb_layout.specs.declared.ask.FailCause.{FailCause}
use Rattle.orb_layout.specs.declared.management.ManagementOrb.{ManagementOrb}
use Rattle.rbc_disk.specs.Disk.{Disk}
use Rattle.sbp_base.specs.Quadlets.{quad}
use Rattle.sbp_journal.specs.Addresses.{Access, Start, management_agent, no_start, register, rom_start, start_at, start_serves}
use Rattle.sbp_journal.specs.Run.{Moment, asked, said}
use Rattle.sbp_journal.specs.Transactions.{Part, no_packet, part_of, request, response}
use Rattle.sbp_journal.specs.Wire.{Terms}
use Rattle.sbp_journal.specs.declared.event.Event.{Event}
use Rattle.sbp_journal.specs.declared.event.Event.TheVariants as events
use Rattle.sbp_journal.specs.declared.note.Note.{Note}
use Rattle.sbp_journal.specs.declared.note.Note.TheVariants as notes
use Rattle.sbp_journal.specs.declared.operation.FunctionWord.{FunctionWord}
use Rattle.sbp_journal.specs.declared.operation.FunctionWord.TheVariants as words
use Rattle.sbp_laws.specs.Packets.{access_at, access_in_bytes, answer_in, answered_at, id_for, packet_at, receiver_in, sender_in}
use Rattle.sbp_laws.specs.Targets.{Decided, Target, got_by, is_serial, is_write_access, key_by, known_at, over, replied as laws_replied, request_got, reset_seen, sent_as, sent_for, taken_on, target_at, target_by, wants, wants_it}
use Rattle.sbp_laws.specs.Turns.{event_of}
use Rattle.sbp_world.specs.Agents.Management.Offices.{Office, by_managed, by_note, office_of, placed, placed_by, replied, started, started_by}
use Rattle.sbp_world.proofs.Agents.Management.Firsts.{other_reply, own_reply, request_keeps, served_office, start_office}
use Rattle.sbp_world.proofs.Agents.Management.Offices.{IsBehind, note_changes, over_keeps, taken_keeps}
use Rattle.sbp_world.proofs.Common.{and_second}

abbrev pub EuiIn : Phase → Type 0
EuiIn (phases.HighEui orb) = reads_eui orb ≡ true
EuiIn (phases.LowEui orb high) = reads_eui orb ≡ true
EuiIn phase = Unit {0}

abbrev pub EuiOf : Option Operation → Type 0
EuiOf None = Unit {0}
EuiOf (Some operation) = EuiIn operation.phase

-- an abort reads none
pub no_abort : (orb : ManagementOrb) → reads_eui orb ≡ true → function_of orb.function ≡ Some functions.Abort → ⊥
unfolding reads_eui
no_abort orb e f =
    let wanted : known_wants_eui (function_of orb.function) ≡ true = and_second (orb.format == 0) (known_wants_eui (function_of orb.function)) e in
    let no : false ≡ true = sym (ap known_wants_eui f) ∙ wanted in cc

-- ---- a reply
module _ (m : Machine) (t : Table) (keys : List (List ℕ)) (answer : Answer) (own : Operation) where
  abbrev Left : ManagerStep × (Machine × Table) → Type 0
  Left r = EuiOf r.1.0.operation

  -- what is written first
  abbrev writes : Machine → ManagementOrb → Outcome → Bool → ManagerStep × Machine
  writes begun orb outcome b = cond b (status_step begun own orb.fifo outcome.status) (quiet (asks.Write orb.second (length begun.outgoing)), in_phase begun own (phases.Response orb.fifo))

  responds : (begun : Machine) (orb : ManagementOrb) (outcome : Outcome) (table : Table) (b : Bool) → (let s = writes begun orb outcome b in Left (telling orb outcome s.0, (s.1, table)))
  responds begun orb outcome table true = tt
  responds begun orb outcome table false = tt

  decided_left : (orb : ManagementOrb) (x : Outcome × Table) → Left (decided_as x m own orb)
  decided_left orb (outcome, table) = let begun = record m { outgoing = cut_response orb outcome table } in responds begun orb outcome table (length begun.outgoing == 0)

  decides : (orb : ManagementOrb) (eui : ℕ) → Left (decide_step m own orb eui t keys)
  unfolding decide_step
  decides orb eui = decided_left orb (decide orb own.source eui t keys)

  reads_left : (orb : ManagementOrb) (b : Bool) → reads_eui orb ≡ b → Left (cond b (beside t (eui_step m own (phases.HighEui orb) high_eui_at)) (decide_step m own orb 0 t keys))
  reads_left orb true e = e
  reads_left orb false e = decides orb 0

  orb_left : (got : Result (List ℕ) FailCause) → Left (orb_got got m own t keys)
  orb_left (Err cause) = tt
  orb_left (Ok bytes) = reads_left (management_orb bytes) (reads_eui (management_orb bytes)) refl

  high_left : (got : Result (List ℕ) FailCause) (orb : ManagementOrb) → reads_eui orb ≡ true → Left (beside t (high_got got m own orb))
  high_left (Err cause) orb e = tt
  high_left (Ok bytes) orb e = e

  low_left : (got : Result (List ℕ) FailCause) (orb : ManagementOrb) (high : ℕ) → Left (low_got got m own orb high t keys)
  low_left (Err cause) orb high = tt
  low_left (Ok bytes) orb high = decides orb (high * 2 ^ 32 + quad bytes 0)

  response_left : (failure : Option FailCause) (fifo : ℕ) → Left (beside t (response_written failure m own fifo))
  response_left None fifo = tt
  response_left (Some cause) fifo = tt

  status_left : (failure : Option FailCause) → Left (beside t (status_written failure m))
  status_left None = tt
  status_left (Some cause) = tt

  in_left : (phase : Phase) → EuiIn phase → Left (reply_in phase m own t keys answer)
  in_left phases.Orb e = orb_left (payload_of answer 32)
  in_left (phases.HighEui orb) e = high_left (payload_of answer 4) orb e
  in_left (phases.LowEui orb high) e = low_left (payload_of answer 4) orb high
  in_left (phases.Response fifo) e = response_left (write_failure answer) fifo
  in_left phases.Status e = status_left (write_failure answer)

abbrev Reads : Office → Type 0
Reads o = EuiOf o.manager.operation

replied_by : (o : Office) (answer : Answer) (operation : Option Operation) → o.manager.operation ≡ operation → EuiOf operation → EuiOf (reply_to operation o.manager o.table o.keys answer).1.0.operation
replied_by o answer None e h = subst EuiOf (sym e) tt
replied_by o answer (Some own) e h = in_left o.manager o.table o.keys answer own own.phase h

replied_reads : (answer : Answer) (o : Office) → Reads o → Reads (replied answer o)
unfolding reply_step
replied_reads answer o h = replied_by o answer o.manager.operation refl h

started_left : (operation : Option Operation) (source orb : ℕ) (o : Office) → Reads o → Reads (started_by (start_with operation o.manager source orb) o)
started_left None source orb o h = tt
started_left (Some own) source orb o h = h

started_reads : (source orb : ℕ) (o : Office) → Reads o → Reads (started source orb o)
unfolding start_step
started_reads source orb o h = started_left o.manager.operation source orb o h

-- ---- notes behind the first of a turn
placed_reads : (place : Option ℕ) (decided : Option Decided) (id : ℕ) (o : Office) → Reads o → Reads (placed place decided id o)
placed_reads None decided id o h = h
placed_reads (Some place) None id o h = h
placed_reads (Some place) (Some decided) id o h = h

entered_reads : (login : Option ℕ) (o : Office) → Reads o → Reads (placed_by login o)
entered_reads None o h = h
entered_reads (Some id) o h = placed_reads (position is_none o.table.places) o.decided id o h

managed_reads : (word : FunctionWord) (login : Option ℕ) (o : Office) → Reads o → Reads (by_managed word login o)
managed_reads words.Login login o h = entered_reads login o h
managed_reads _ login o h = h

by_reads : (note : Note) (o : Office) → Reads o → Reads (by_note note o)
by_reads (notes.ManageFailed i cause) o h = tt
by_reads (notes.Managed i word subject status login) o h = managed_reads word login o h
by_reads (notes.Held id) o h = h
by_reads (notes.Back id) o h = h
by_reads (notes.Left id) o h = h
by_reads (notes.Expired id) o h = h
by_reads _ o h = h

behind_reads : (note : Note) (past : List Moment) (wire : Terms) (t : Target) → IsBehind note → Reads (office_of t) → Reads (office_of (target_by note past wire t))
behind_reads note past wire t b h = subst Reads (sym (note_changes note past wire t b)) (by_reads note (office_of t) h)

-- ---- the first note of a turn, and packets
rests : (t : Target) → Reads (office_of t) → Reads (office_of (over t))
rests t h = subst Reads (sym (over_keeps t)) h

replied_here : (serial : ℕ) (answer : Answer) (t : Target) → Reads (office_of t) → Reads (office_of (laws_replied serial answer (over t)))
replied_here serial answer t h = by (is_serial (over t).manages serial) refl
  where
    by : (b : Bool) → is_serial (over t).manages serial ≡ b → Reads (office_of (laws_replied serial answer (over t)))
    by true e = subst Reads (sym (own_reply serial answer (over t) e)) (replied_reads answer (office_of (over t)) (rests t h))
    by false e = subst Reads (sym (other_reply serial answer (over t) e)) (rests t h)

start_reads : (start : Start) (source : ℕ) (access : Access) (o : Office) → Reads o → Reads (start_office start source access o)
start_reads management_agent source access o h = started_reads source (offset_at access.payload 0) o h
start_reads (register place name) source access o h = h
start_reads rom_start source access o h = h
start_reads no_start source access o h = h

served_reads : (b : Bool) (start : Start) (source : ℕ) (access : Access) (o : Office) → Reads o → Reads (served_office b start source access o)
served_reads true start source access o h = start_reads start source access o h
served_reads false start source access o h = h

request_reads : (access : Option Access) (source : ℕ) (t : Target) → Reads (office_of t) → Reads (office_of (request_got access source (over t)))
request_reads None source t h = rests t h
request_reads (Some access) source t h =
    subst Reads (sym (request_keeps access source (over t))) (served_reads (start_serves (start_at access.offset) access) (start_at access.offset) source access (office_of (over t)) (rests t h))

got_reads : (own : Option ℕ) (wire : Terms) (serial : ℕ) (t : Target) → Reads (office_of t) → Reads (office_of (got_by own wire serial (over t)))
got_reads (Some own) wire serial t h = replied_here own (answer_in (packet_at wire serial)) t h
got_reads None wire serial t h = request_reads (access_at wire serial) (id_for wire 0 (unwrap_or (sender_in (wire.sent serial)) 0)) t h

pick_reads : (b : Bool) (x y : Target) → Reads (office_of x) → Reads (office_of y) → Reads (office_of (cond b x y))
pick_reads true x y h k = h
pick_reads false x y h k = k

seen_reads : (b : Bool) (t : Target) → Reads (office_of t) → Reads (office_of (reset_seen b (over t)))
seen_reads true t h = tt
seen_reads false t h = rests t h

key_reads : (event : Option Event) (unit : ℕ) (t : Target) → Reads (office_of t) → Reads (office_of (key_by event unit t))
key_reads None unit t h = h
key_reads (Some (events.Key other key)) unit t h = h
key_reads (Some (events.Begin a b)) unit t h = h
key_reads (Some (events.Act a b)) unit t h = h
key_reads (Some (events.Reset a)) unit t h = h
key_reads (Some (events.See a)) unit t h = h
key_reads (Some (events.Deliver a)) unit t h = h
key_reads (Some (events.Repeat a)) unit t h = h
key_reads (Some (events.Lose a)) unit t h = h
key_reads (Some (events.Timeout a)) unit t h = h
key_reads (Some (events.Step a)) unit t h = h
key_reads (Some events.Settle) unit t h = h
key_reads (Some events.Tick) unit t h = h
key_reads (Some (events.Inject a b)) unit t h = h

wanted_reads : (b : Bool) (serial : ℕ) (t : Target) → Reads (office_of t) → Reads (office_of (cond b (record t { manages = Some serial; manager_asks = Nothing }) (record t { pushes = serial ∷ t.pushes })))
wanted_reads true serial t h = h
wanted_reads false serial t h = h

for_reads : (place : Option ℕ) (is_write : Bool) (serial : ℕ) (t : Target) → Reads (office_of t) → Reads (office_of (sent_for place is_write serial t))
for_reads (Some place) is_write serial t h = h
for_reads None is_write serial t h = wanted_reads (wants t.manager_asks is_write) serial t h

sent_reads : (part : Part) (is_write : Bool) (serial : ℕ) (t : Target) → Reads (office_of t) → Reads (office_of (sent_as part is_write serial t))
sent_reads (request label kind) is_write serial t h = for_reads (position (wants_it is_write) t.agents) is_write serial t h
sent_reads (response label kind) is_write serial t h = h
sent_reads no_packet is_write serial t h = h

note_reads : (note : Note) (past : List Moment) (wire : Terms) (t : Target) → Reads (office_of t) → Reads (office_of (target_by note past wire t))
note_reads (notes.Begin initiators ready) past wire t h = h
note_reads (notes.Got serial) past wire t h = pick_reads (is_serial (receiver_in (wire.sent serial)) 0) (got_by (answered_at wire serial) wire serial (over t)) (over t) (got_reads (answered_at wire serial) wire serial t h) (rests t h)
note_reads (notes.Ignored serial cause) past wire t h = rests t h
note_reads (notes.TimedOut serial) past wire t h = pick_reads (is_serial (sender_in (wire.sent serial)) 0) (laws_replied serial Expired (over t)) (over t) (replied_here serial Expired t h) (rests t h)
note_reads (notes.Seen node generation) past wire t h =
    let b = not (generation == wire.generation 0) in pick_reads (node == 0) (reset_seen b (over t)) (over t) (seen_reads b t h) (rests t h)
note_reads notes.Tick past wire t h = rests t h
note_reads (notes.Key unit) past wire t h = key_reads (event_of past) unit t h
note_reads (notes.Sent serial generation from to bytes) past wire t h =
    let settled = taken_on None t.reply t in
    let same = subst Reads (sym (taken_keeps None t.reply t)) h in
    pick_reads (from == 0) (sent_as (part_of bytes) (is_write_access (access_in_bytes bytes)) serial settled) settled (sent_reads (part_of bytes) (is_write_access (access_in_bytes bytes)) serial settled same) same
note_reads (notes.Append i list orb cdb buffer) past wire t h = behind_reads (notes.Append i list orb cdb buffer) past wire t tt h
note_reads (notes.Low i list orb) past wire t h = behind_reads (notes.Low i list orb) past wire t tt h
note_reads (notes.Linked i list orb) past wire t h = behind_reads (notes.Linked i list orb) past wire t tt h
note_reads (notes.Rung i list orb) past wire t h = behind_reads (notes.Rung i list orb) past wire t tt h
note_reads (notes.Dummied i list orb) past wire t h = behind_reads (notes.Dummied i list orb) past wire t tt h
note_reads (notes.Injected serial) past wire t h = behind_reads (notes.Injected serial) past wire t tt h
note_reads (notes.Lost serial) past wire t h = behind_reads (notes.Lost serial) past wire t tt h
note_reads (notes.Ran i n k unit cdb bytes check) past wire t h = behind_reads (notes.Ran i n k unit cdb bytes check) past wire t tt h
note_reads (notes.Ended i n k status) past wire t h = behind_reads (notes.Ended i n k status) past wire t tt h
note_reads (notes.Taken i n k status answer) past wire t h = behind_reads (notes.Taken i n k status answer) past wire t tt h
note_reads (notes.Cut i n cause) past wire t h = behind_reads (notes.Cut i n cause) past wire t tt h
note_reads (notes.Dead i n cause) past wire t h = behind_reads (notes.Dead i n cause) past wire t tt h
note_reads (notes.Drop i list) past wire t h = behind_reads (notes.Drop i list) past wire t tt h
note_reads (notes.Managed i word subject status login) past wire t h = behind_reads (notes.Managed i word subject status login) past wire t tt h
note_reads (notes.ManageFailed i cause) past wire t h = behind_reads (notes.ManageFailed i cause) past wire t tt h
note_reads (notes.Held id) past wire t h = behind_reads (notes.Held id) past wire t tt h
note_reads (notes.Expired id) past wire t h = behind_reads (notes.Expired id) past wire t tt h
note_reads (notes.Back id) past wire t h = behind_reads (notes.Back id) past wire t tt h
note_reads (notes.Left id) past wire t h = behind_reads (notes.Left id) past wire t tt h
note_reads (notes.Cleared unit) past wire t h = behind_reads (notes.Cleared unit) past wire t tt h
note_reads (notes.Op i operation word) past wire t h = behind_reads (notes.Op i operation word) past wire t tt h
note_reads (notes.Stuck i) past wire t h = behind_reads (notes.Stuck i) past wire t tt h
note_reads (notes.Reset generation) past wire t h = behind_reads (notes.Reset generation) past wire t tt h
note_reads (notes.Refused line number) past wire t h = behind_reads (notes.Refused line number) past wire t tt h
note_reads notes.Settled past wire t h = behind_reads notes.Settled past wire t tt h
note_reads notes.Stopped past wire t h = behind_reads notes.Stopped past wire t tt h
note_reads (notes.Unsolicited i) past wire t h = behind_reads (notes.Unsolicited i) past wire t tt h
note_reads (notes.Unsent i) past wire t h = behind_reads (notes.Unsent i) past wire t tt h
note_reads (notes.Told i) past wire t h = behind_reads (notes.Told i) past wire t tt h

-- by the terms an operation that reads an EUI-64 has an ORB that wants it
pub eui_wanted : (start : List Disk) (past : List Moment) → EuiOf (target_at start past).manager.operation
eui_wanted start [] = tt
eui_wanted start (asked line event ∷ past) = rests (target_at start past) (eui_wanted start past)
eui_wanted start (said note ∷ past) = note_reads note past (known_at start past).wire (target_at start past) (eui_wanted start past)
