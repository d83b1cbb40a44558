-- By the terms of every history the bytes that the management has to write are no unsolicited status.
use Rattle.std.proofs.Common.{◌≡◌, refl, sym, subst, ℕ, ◌==◌, not, Bool, true, false, cond, List, [], ◌∷◌, length, Option, Some, None, Result, Ok, Err}
use Rattle.std.specs.Prelude.{is_none, position, unwrap_or}
use Rattle.login_table.specs.Table.{Table}
use Rattle.media_bay.specs.Unsolicited.{is_block}
use Rattle.mgmt_agent.specs.Decisions.{decide, reads_eui}
use Rattle.mgmt_agent.specs.Machine.{Machine, cut_response, decide_step, decided_as, eui_step, high_got, in_phase, low_got, orb_got, reply_in, reply_step, reply_to, respond_step, response_written, start_step, start_with, status_step, status_written}
use Rattle.mgmt_agent.specs.Machine as manager
use Rattle.mgmt_agent.specs.Statuses.{number_of}
use Rattle.mgmt_agent.specs.declared.decision.ManagerStep.{ManagerStep}
use Rattle.mgmt_agent.specs.declared.decision.Outcome.{Outcome}
use Rattle.mgmt_agent.specs.declared.operation.Operation.{Operation}
use Rattle.mgmt_agent.specs.declared.operation.Phase.{Phase}
use Rattle.mgmt_agent.specs.declared.operation.Phase.TheVariants as phases
use Rattle.mgmt_agent.specs.declared.status.Status.{Status}
use Rattle.mgmt_agent.specs.declared.status.Status.TheVariants as statuses
use Rattle.orb_layout.specs.ManagementOrbs.{management_orb}
use Rattle.orb_layout.specs.Pointers.{offset_at}
use Rattle.orb_layout.specs.Replies.{Answer, Expired, payload_of, write_failure}
use Rattle.orb_layout.specs.declared.ask.Ask.TheVariants as asks
use Rattle.orb_layout.specs.declared.ask.Ask.TheVariants.{Nothing}
use Rattle.orb_layout.specs.declared.ask.FailCause.{FailCause}
use Rattle.orb_layout.specs.declared.management.ManagementOrb.{ManagementOrb}
use Rattle.rbc_disk.specs.Disk.{Disk}
use Rattle.sbp_journal.specs.Addresses.{Access, Start, management_agent, no_start, register, rom_start, start_at, start_serves}
use Rattle.sbp_journal.specs.Run.{Moment, asked, said}
use Rattle.sbp_journal.specs.Transactions.{Part, no_packet, part_of, request, response}
use Rattle.sbp_journal.specs.Wire.{Terms}
use Rattle.sbp_journal.specs.declared.event.Event.{Event}
use Rattle.sbp_journal.specs.declared.event.Event.TheVariants as events
use Rattle.sbp_journal.specs.declared.note.Note.{Note}
use Rattle.sbp_journal.specs.declared.note.Note.TheVariants as notes
use Rattle.sbp_journal.specs.declared.operation.FunctionWord.{FunctionWord}
use Rattle.sbp_journal.specs.declared.operation.FunctionWord.TheVariants as functions
use Rattle.sbp_laws.specs.Packets.{access_at, access_in_bytes, answer_in, answered_at, id_for, packet_at, receiver_in, sender_in}
use Rattle.sbp_laws.specs.Targets.{Decided, Target, got_by, is_serial, is_write_access, key_by, known_at, over, replied as laws_replied, request_got, reset_seen, sent_as, sent_for, taken_on, target_at, target_by, wants, wants_it}
use Rattle.sbp_laws.specs.Turns.{event_of}
use Rattle.sbp_world.specs.Agents.Management.Offices.{Office, at_rest, by_managed, by_note, office_of, placed, placed_by, replied, started, started_by}
use Rattle.sbp_world.proofs.Agents.Management.Firsts.{other_reply, own_reply, request_keeps, served_office, start_office}
use Rattle.sbp_world.proofs.Agents.Management.Offices.{note_changes, over_keeps, taken_keeps}
use Rattle.turn_laws.proofs.OtherBlocks.{managed_other, response_other}

abbrev IsMild : Machine → Type 0
IsMild m = is_block m.outgoing ≡ false

-- ---- a step of the operation
abbrev Stepped : ManagerStep × (Machine × Table) → Type 0
Stepped s = IsMild s.1.0

either : (b : Bool) (x y : ManagerStep × Machine) → IsMild x.1 → IsMild y.1 → IsMild (cond b x y).1
either true x y h i = h
either false x y h i = i

either_so : (b : Bool) (x y : ManagerStep × (Machine × Table)) → Stepped x → Stepped y → Stepped (cond b x y)
either_so true x y h i = h
either_so false x y h i = i

respond_mild : (m : Machine) (operation : Operation) (orb : ManagementOrb) (status : Status) → IsMild m → IsMild (respond_step m operation orb status).1
respond_mild m operation orb status h =
    let response : ManagerStep × Machine = (manager.quiet (asks.Write orb.second (length m.outgoing)), in_phase m operation (phases.Response orb.fifo)) in
    either (length m.outgoing == 0) (status_step m operation orb.fifo status) response (managed_other 0 operation.orb (number_of status)) h

decided_mild : (s : Outcome × Table) (m : Machine) (operation : Operation) (orb : ManagementOrb) → Stepped (decided_as s m operation orb)
decided_mild (outcome, table) m operation orb =
    respond_mild (record m { outgoing = cut_response orb outcome table }) operation orb outcome.status (response_other orb.response_length outcome.response table.places)

decide_mild : (m : Machine) (operation : Operation) (orb : ManagementOrb) (eui : ℕ) (table : Table) (keys : List (List ℕ)) → Stepped (decide_step m operation orb eui table keys)
unfolding decide_step
decide_mild m operation orb eui table keys = decided_mild (decide orb operation.source eui table keys) m operation orb

orb_mild : (read : Result (List ℕ) FailCause) (m : Machine) (operation : Operation) (table : Table) (keys : List (List ℕ)) → IsMild m → Stepped (orb_got read m operation table keys)
orb_mild (Err cause) m operation table keys h = h
orb_mild (Ok bytes) m operation table keys h =
    let orb = management_orb bytes in
    let high = eui_step m operation (phases.HighEui orb) manager.high_eui_at in
    either_so (reads_eui orb) (high.0, (high.1, table)) (decide_step m operation orb 0 table keys) h (decide_mild m operation orb 0 table keys)

high_mild : (read : Result (List ℕ) FailCause) (m : Machine) (operation : Operation) (orb : ManagementOrb) → IsMild m → IsMild (high_got read m operation orb).1
high_mild (Err cause) m operation orb h = h
high_mild (Ok bytes) m operation orb h = h

low_mild : (read : Result (List ℕ) FailCause) (m : Machine) (operation : Operation) (orb : ManagementOrb) (high : ℕ) (table : Table) (keys : List (List ℕ)) → IsMild m
    → Stepped (low_got read m operation orb high table keys)
low_mild (Err cause) m operation orb high table keys h = h
low_mild (Ok bytes) m operation orb high table keys h = decide_mild m operation orb _ table keys

response_mild : (failure : Option FailCause) (m : Machine) (operation : Operation) (fifo : ℕ) → IsMild m → IsMild (response_written failure m operation fifo).1
response_mild None m operation fifo h = managed_other 0 operation.orb (number_of statuses.NoFault)
response_mild (Some cause) m operation fifo h = h

status_mild : (failure : Option FailCause) (m : Machine) → IsMild m → IsMild (status_written failure m).1
status_mild None m h = h
status_mild (Some cause) m h = h

reply_mild_in : (phase : Phase) (m : Machine) (operation : Operation) (table : Table) (keys : List (List ℕ)) (answer : Answer) → IsMild m → Stepped (reply_in phase m operation table keys answer)
reply_mild_in phases.Orb m operation table keys answer h = orb_mild (payload_of answer 32) m operation table keys h
reply_mild_in (phases.HighEui orb) m operation table keys answer h = high_mild (payload_of answer 4) m operation orb h
reply_mild_in (phases.LowEui orb high) m operation table keys answer h = low_mild (payload_of answer 4) m operation orb high table keys h
reply_mild_in (phases.Response fifo) m operation table keys answer h = response_mild (write_failure answer) m operation fifo h
reply_mild_in phases.Status m operation table keys answer h = status_mild (write_failure answer) m h

reply_mild_to : (operation : Option Operation) (m : Machine) (table : Table) (keys : List (List ℕ)) (answer : Answer) → IsMild m → Stepped (reply_to operation m table keys answer)
reply_mild_to None m table keys answer h = h
reply_mild_to (Some operation) m table keys answer h = reply_mild_in operation.phase m operation table keys answer h

reply_mild : (m : Machine) (table : Table) (keys : List (List ℕ)) (answer : Answer) → IsMild m → Stepped (reply_step m table keys answer)
unfolding reply_step
reply_mild m table keys answer h = reply_mild_to m.operation m table keys answer h

-- ---- what a note makes of the management
abbrev Fine : Office → Type 0
Fine o = IsMild o.manager

placed_fine : (place : Option ℕ) (decided : Option Decided) (id : ℕ) (o : Office) → Fine o → Fine (placed place decided id o)
placed_fine None decided id o h = h
placed_fine (Some place) None id o h = h
placed_fine (Some place) (Some decided) id o h = h

entered_fine : (login : Option ℕ) (o : Office) → Fine o → Fine (placed_by login o)
entered_fine None o h = h
entered_fine (Some id) o h = placed_fine (position is_none o.table.places) o.decided id o h

managed_fine : (word : FunctionWord) (login : Option ℕ) (o : Office) → Fine o → Fine (by_managed word login o)
managed_fine functions.Login login o h = entered_fine login o h
managed_fine word login o h = h

by_fine : (note : Note) (o : Office) → Fine o → Fine (by_note note o)
by_fine (notes.Managed i word subject status login) o h = managed_fine word login o h
by_fine note o h = h

-- of a target
abbrev Is : Target → Type 0
Is t = Fine (office_of t)

as_office : (t : Target) (o : Office) → office_of t ≡ o → Fine o → Is t
as_office t o e h = subst Fine (sym e) h

pick : (b : Bool) (x y : Target) → Is x → Is y → Is (cond b x y)
pick true x y h k = h
pick false x y h k = k

module _ (t : Target) (h : Is t) where
  over_fine : Is (over t)
  over_fine = as_office (over t) (at_rest (office_of t)) (over_keeps t) h

  replied_fine : (serial : ℕ) (answer : Answer) → Is (laws_replied serial answer (over t))
  replied_fine serial answer = by (is_serial (over t).manages serial) refl
    where
      o : Office
      o = office_of (over t)

      by : (b : Bool) → is_serial (over t).manages serial ≡ b → Is (laws_replied serial answer (over t))
      by true e = as_office (laws_replied serial answer (over t)) (replied answer o) (own_reply serial answer (over t) e) (reply_mild o.manager o.table o.keys answer over_fine)
      by false e = as_office (laws_replied serial answer (over t)) o (other_reply serial answer (over t) e) over_fine

  abbrev rested : Office
  rested = office_of (over t)

  started_with : (operation : Option Operation) (source orb : ℕ) → Fine (started_by (start_with operation rested.manager source orb) rested)
  started_with None source orb = over_fine
  started_with (Some operation) source orb = over_fine

  starts_fine : (source orb : ℕ) → Fine (started source orb rested)
  unfolding start_step
  starts_fine source orb = started_with rested.manager.operation source orb

  start_fine : (start : Start) (source : ℕ) (access : Access) → Fine (start_office start source access rested)
  start_fine management_agent source access = starts_fine source (offset_at access.payload 0)
  start_fine (register place name) source access = over_fine
  start_fine rom_start source access = over_fine
  start_fine no_start source access = over_fine

  served_fine : (b : Bool) (start : Start) (source : ℕ) (access : Access) → Fine (served_office b start source access rested)
  served_fine true start source access = start_fine start source access
  served_fine false start source access = over_fine

  request_fine : (access : Option Access) (source : ℕ) → Is (request_got access source (over t))
  request_fine None source = over_fine
  request_fine (Some access) source =
      let b = start_serves (start_at access.offset) access in
      let start = start_at access.offset in
      as_office (request_got (Some access) source (over t)) (served_office b start source access rested) (request_keeps access source (over t)) (served_fine b start source access)

  got_fine : (own : Option ℕ) (wire : Terms) (serial : ℕ) → Is (got_by own wire serial (over t))
  got_fine (Some own) wire serial = replied_fine own (answer_in (packet_at wire serial))
  got_fine None wire serial = request_fine (access_at wire serial) (id_for wire 0 (unwrap_or (sender_in (wire.sent serial)) 0))

  seen_fine : (b : Bool) → Is (reset_seen b (over t))
  seen_fine true = over_fine
  seen_fine false = over_fine

  key_fine : (event : Option Event) (unit : ℕ) → Is (key_by event unit t)
  key_fine (Some (events.Key other key)) unit = h
  key_fine None unit = h
  key_fine (Some event) unit = h

  settled_fine : Is (taken_on None t.reply t)
  settled_fine = as_office (taken_on None t.reply t) (office_of t) (taken_keeps None t.reply t) h

sent_for_fine : (place : Option ℕ) (is_write : Bool) (serial : ℕ) (t : Target) → Is t → Is (sent_for place is_write serial t)
sent_for_fine (Some place) is_write serial t h = h
sent_for_fine None is_write serial t h = pick (wants t.manager_asks is_write) (record t { manages = Some serial; manager_asks = Nothing }) (record t { pushes = serial ∷ t.pushes }) h h

sent_fine : (part : Part) (is_write : Bool) (serial : ℕ) (t : Target) → Is t → Is (sent_as part is_write serial t)
sent_fine (request label kind) is_write serial t h = sent_for_fine (position (wants_it is_write) t.agents) is_write serial t h
sent_fine (response label kind) is_write serial t h = h
sent_fine no_packet is_write serial t h = h

note_fine : (note : Note) (past : List Moment) (wire : Terms) (t : Target) → Is t → Is (target_by note past wire t)
note_fine (notes.Begin initiators ready) past wire t h = h
note_fine (notes.Got serial) past wire t h =
    pick (is_serial (receiver_in (wire.sent serial)) 0) (got_by (answered_at wire serial) wire serial (over t)) (over t) (got_fine t h (answered_at wire serial) wire serial) (over_fine t h)
note_fine (notes.Ignored serial cause) past wire t h = over_fine t h
note_fine (notes.TimedOut serial) past wire t h = pick (is_serial (sender_in (wire.sent serial)) 0) (laws_replied serial Expired (over t)) (over t) (replied_fine t h serial Expired) (over_fine t h)
note_fine (notes.Seen node generation) past wire t h =
    let seen = not (generation == wire.generation 0) in pick (node == 0) (reset_seen seen (over t)) (over t) (seen_fine t h seen) (over_fine t h)
note_fine notes.Tick past wire t h = over_fine t h
note_fine (notes.Key unit) past wire t h = key_fine t h (event_of past) unit
note_fine (notes.Sent serial generation from to bytes) past wire t h =
    let settled = taken_on None t.reply t in
    let w = is_write_access (access_in_bytes bytes) in
    pick (from == 0) (sent_as (part_of bytes) w serial settled) settled (sent_fine (part_of bytes) w serial settled (settled_fine t h)) (settled_fine t h)
note_fine note past wire t h = as_office (target_by note past wire t) (by_note note (office_of t)) (note_changes note past wire t tt) (by_fine note (office_of t) h)

-- at each moment of a history
pub manager_mild : (start : List Disk) (past : List Moment) → is_block (target_at start past).manager.outgoing ≡ false
manager_mild start [] = refl
manager_mild start (asked line event ∷ past) = over_fine (target_at start past) (manager_mild start past)
manager_mild start (said note ∷ past) = note_fine note past (known_at start past).wire (target_at start past) (manager_mild start past)
