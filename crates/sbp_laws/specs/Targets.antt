-- What the target has done and learned, read off its packets and its notes: the table of logins, the management operation, each agent, the
-- enabled registers and the units. Each term goes on by the rule of the crate that has it: a reply takes an agent on as
-- `command_agent` says, and a management operation as `mgmt_agent` says. What the target asks for next is known from these; that it asks
-- for it is the sent law's.
use Rattle.std.specs.Prelude.{ℕ, zero, suc, ◌+◌, ◌-◌, ◌*◌, ◌^◌, ◌==◌, ◌&&◌, ◌||◌, not, is_none, Bool, true, false, if◌then◌else◌, List, [], ◌∷◌, ◌++◌, map, position, replicate, slice_set, slice_index_or, unwrap_or, Option, Some, None, Result, Ok, Err}
use Rattle.orb_layout.specs.declared.ask.Ask.{Ask}
use Rattle.orb_layout.specs.declared.ask.Ask.TheVariants.{Read, Write, Nothing}
use Rattle.orb_layout.specs.declared.ask.FailCause.TheVariants as causes
use Rattle.orb_layout.specs.declared.management.ManagementOrb.{ManagementOrb}
use Rattle.orb_layout.specs.Replies.{Answer, Payload, Expired}
use Rattle.sbp_base.specs.Quadlets.{quad}
use Rattle.orb_layout.specs.ManagementOrbs.{management_orb}
use Rattle.orb_layout.specs.Pointers.{pointer_at, offset_at}
use Rattle.rbc_command.specs.declared.sense.Sense.{Sense}
use Rattle.rbc_disk.specs.Disk.{Disk}
use Rattle.rbc_disk.specs.Units.{PlainDisk}
use Rattle.rbc_disk.specs.declared.command.Outcome.TheVariants as outcomes
use Rattle.rbc_disk.specs.Runs.{Told, answer_of, answer_length_of}
use Rattle.login_table.specs.declared.login.Login.{Login}
use Rattle.login_table.specs.Table.{Table, new_table, place_at, find, is_of_node, entered, revived, held, one_less}
use Rattle.command_agent.specs.Machine as agent
use Rattle.command_agent.specs.Steps as steps
use Rattle.command_agent.specs.declared.step.AgentStep.{AgentStep}
use Rattle.command_agent.specs.declared.step.PointRefusal.{PointRefusal}
use Rattle.command_agent.specs.declared.step.Which.{Which}
use Rattle.command_agent.specs.declared.step.Which.TheVariants.{Main, Ahead}
use Rattle.mgmt_agent.specs.Machine as manager
use Rattle.mgmt_agent.specs.Decisions.{asked_by}
use Rattle.mgmt_agent.specs.declared.operation.Operation.{Operation}
use Rattle.mgmt_agent.specs.declared.operation.Phase.{Phase}
use Rattle.mgmt_agent.specs.declared.operation.Phase.TheVariants as phases
use Rattle.mgmt_agent.specs.declared.operation.Busy.{Busy}
use Rattle.mgmt_agent.specs.declared.decision.ManagerStep.{ManagerStep}
use Rattle.mgmt_agent.specs.declared.decision.Decision.{Decision}
use Rattle.mgmt_agent.specs.declared.decision.Effect.{Effect}
use Rattle.mgmt_agent.specs.declared.decision.Effect.TheVariants as effects
use Rattle.sbp_journal.specs.Run.{Moment, asked, said}
use Rattle.sbp_journal.specs.Addresses.{Access, Register, agent_state, agent_reset, orb_pointer, doorbell, unsolicited_enable, Start, rom_start, management_agent, register, no_start, start_at, start_serves}
use Rattle.sbp_journal.specs.Transactions.{Part, request, part_of}
use Rattle.sbp_journal.specs.Wire.{Terms, beginning, passed, local_id}
use Rattle.sbp_journal.specs.declared.event.Event.{Event}
use Rattle.sbp_journal.specs.declared.event.Event.TheVariants as events
use Rattle.sbp_journal.specs.declared.operation.FunctionWord.TheVariants as functions
use Rattle.sbp_journal.specs.declared.note.Note.{Note}
use Rattle.sbp_journal.specs.declared.note.Note.TheVariants as notes
use Rattle.sbp_laws.specs.Turns.{event_of}
use Rattle.sbp_laws.specs.Packets.{packet_at, access_at, access_in_bytes, answered_at, answer_in, sender_in, receiver_in, id_for}
use Rattle.sbp_laws.specs.DiskFold.{first_units, unit_at, left_by_run, left_by_reset}

-- The agent of a place: what it keeps; whether the medium told no answer of the command that it ran last; the pointer that was last taken;
-- the serials of its main transaction and of its read ahead; and what it still asks for in this turn.
pub record Agent : Type 0 where
  pub machine : agent.Machine
  pub untold : Bool
  pub pointer : Option ℕ
  pub main : Option ℕ
  pub ahead : Option ℕ
  pub asks : Ask
  pub asks_ahead : Ask

-- the management ORB that a decision was made on: the node that sent it, the ID of that node, and its EUI-64
pub record Decided : Type 0 where
  pub orb : ManagementOrb
  pub source : ℕ
  pub eui : ℕ

-- a reply that takes an agent on with the next note, which tells of the command if one ran
pub record Reply : Type 0 where
  pub place : ℕ
  pub which : Which
  pub answer : Answer

pub record Target : Type 0 where
  pub table : Table
  pub keys : List (List ℕ)
  pub manager : manager.Machine
  pub manages : Option ℕ
  pub manager_asks : Ask
  pub decided : Option Decided
  pub agents : List Agent
  pub enabled : List Bool
  pub pushes : List ℕ
  pub units : List PlainDisk
  pub reply : Option Reply

abbrev pub new_agent : Agent
new_agent = record { machine = agent.new_machine; untold = false; pointer = None; main = None; ahead = None; asks = Nothing; asks_ahead = Nothing }

abbrev pub new_target : List Disk → Target
new_target start = record {
  table = new_table;
  keys = map (λ disk. replicate 8 0) start;
  manager = manager.new_machine;
  manages = None;
  manager_asks = Nothing;
  decided = None;
  agents = replicate 8 new_agent;
  enabled = replicate 8 false;
  pushes = [];
  units = first_units start;
  reply = None;
}

abbrev pub agent_at : Target → ℕ → Agent
agent_at target place = slice_index_or target.agents place new_agent

abbrev pub with_agent : Target → ℕ → Agent → Target
with_agent target place changed = record target { agents = slice_set target.agents place changed }

-- ---- logins
abbrev pub login_at : Target → ℕ → Option Login
login_at target place = place_at target.table.places place

-- the place of the live login of a node on a unit
abbrev pub place_on : Target → (unit id : ℕ) → ℕ
place_on target unit id = unwrap_or (find (is_of_node unit id) target.table.places) 8

abbrev pub unit_in : Option Login → ℕ
unit_in None = 0
unit_in (Some login) = login.unit

abbrev pub unit_of : Target → ℕ → ℕ
unit_of target place = unit_in (login_at target place)

-- the initiator whose node has an ID for the target, among the four; 4 where none has
abbrev pub initiator_from : ℕ → ℕ → Terms → ℕ → ℕ
initiator_from zero i wire id = i
initiator_from (suc more) i wire id = if id_for wire 0 (i + 1) == id then i else initiator_from more (i + 1) wire id

abbrev pub initiator_with : Terms → ℕ → ℕ
initiator_with wire id = initiator_from 4 0 wire id

abbrev pub node_in : Option Login → ℕ
node_in None = 0
node_in (Some login) = login.node

-- the initiator of the login in a place
abbrev pub initiator_at : Target → Terms → ℕ → ℕ
initiator_at target wire place = initiator_with wire (node_in (login_at target place))

-- the initiators log in at the start: initiator i in place i with ID i + 1, on unit 0, with hold 3 and FIFO number 0
abbrev pub eui_of : ℕ → ℕ
eui_of i = 0x0200000000000001 + i

abbrev pub login_fifo : ℕ → ℕ
login_fifo number = 0x13000000 + 0x20 * number

abbrev pub first_login : ℕ → Login
first_login i = entered (record { unit = 0; node = local_id (i + 1); eui = eui_of i; fifo = login_fifo 0; hold = 3; exclusive = false }) i (i + 1)

abbrev pub logins_from : (i initiators : ℕ) → List (Option Login)
logins_from i zero = []
logins_from i (suc more) = Some (first_login i) ∷ logins_from (i + 1) more

abbrev pub first_table : Bool → ℕ → Table
first_table false initiators = new_table
first_table true initiators = record { last = initiators; places = logins_from 0 initiators ++ replicate (8 - initiators) None }

-- what a note does to the login of its ID
abbrev pub at_id : ℕ → (Login → Option Login) → Option Login → Option Login
at_id id change None = None
at_id id change (Some login) = if login.login == id then change login else Some login

abbrev pub with_id : ℕ → (Login → Option Login) → Target → Target
with_id id change target = record target { table = record target.table { places = map (at_id id change) target.table.places } }

abbrev pub second_gone : Option Login → Option Login
second_gone None = None
second_gone (Some login) = Some (record login { remaining = one_less login.remaining })

-- the registers of the place of a login are disabled
abbrev pub has_id : ℕ → Option Login → Bool
has_id id None = false
has_id id (Some login) = login.login == id

abbrev pub disabled_at : Option ℕ → List Bool → List Bool
disabled_at None enabled = enabled
disabled_at (Some place) enabled = slice_set enabled place false

abbrev pub disabled_for : ℕ → Target → Target
disabled_for id target = record target { enabled = disabled_at (position (has_id id) target.table.places) target.enabled }

abbrev pub source_in : Option Decided → ℕ
source_in None = 0
source_in (Some decided) = decided.source

-- a login is entered in the lowest empty place, whose agent is new
abbrev pub enters_in : Option ℕ → Option Decided → ℕ → Target → Target
enters_in None decided id target = target
enters_in (Some place) None id target = target
enters_in (Some place) (Some decided) id target = record target {
  table = record { last = id; places = slice_set target.table.places place (Some (entered (asked_by decided.orb decided.source decided.eui) place id)) };
  agents = slice_set target.agents place new_agent;
}

abbrev pub enters : ℕ → Target → Target
enters id target = enters_in (position is_none target.table.places) target.decided id target

-- ---- agents
-- an agent goes on by a step: its read ahead may become its main transaction
abbrev pub moved : AgentStep × agent.Machine → Agent → Agent
moved (step, machine) a = record a {
  machine = machine;
  main = if step.promoted then a.ahead else a.main;
  ahead = if step.promoted || not (agent.is_ahead machine.ahead) then None else a.ahead;
  asks = step.ask;
  asks_ahead = step.ahead;
}

-- What a run tells of itself: its outcome, and the answer of the medium as it was. Where the medium does not tell its bytes, zeros stand for
-- the answer, of which the length alone counts.
abbrev pub told_of : Option Sense → List ℕ → PlainDisk → Told
told_of (Some check) cdb plain = record { outcome = outcomes.Check check; answer = [] }
told_of None cdb plain = record {
  outcome = outcomes.Good (answer_length_of plain.medium.is_bay cdb);
  answer = unwrap_or (answer_of cdb plain.medium) (replicate (answer_length_of plain.medium.is_bay cdb) 0);
}

abbrev pub told_by : Note → PlainDisk → Option Told
told_by (notes.Ran i n k unit cdb bytes check) plain = Some (told_of check cdb plain)
told_by _ plain = None

-- a command ran well, and its medium told no answer
abbrev pub untold_by : Note → PlainDisk → (before : Bool) → Bool
untold_by (notes.Ran i n k unit cdb bytes check) plain before = is_none check && is_none (answer_of cdb plain.medium)
untold_by _ plain before = before

-- the step of the agent of a place at a reply, over its unit, with what a run told
abbrev pub reply_of : Target → Reply → Option Told → AgentStep × agent.Machine
reply_of target reply told =
    steps.reply_step (agent_at target reply.place).machine reply.place (unit_at target.units (unit_of target reply.place)) told reply.which reply.answer

abbrev pub plain_for : Target → Reply → PlainDisk
plain_for target reply = unit_at target.units (unit_of target reply.place)

-- the transaction that a reply closes is no longer under way
abbrev pub closed : Which → Agent → Agent
closed Main a = record a { main = None }
closed Ahead a = record a { ahead = None }

abbrev pub taken_on : Option Told → Option Reply → Target → Target
taken_on told None target = target
taken_on told (Some reply) target =
    record (with_agent target reply.place (moved (reply_of target reply told) (closed reply.which (agent_at target reply.place)))) { reply = None }

-- the reply, if one waits, takes its agent on
abbrev pub told_in : Option Reply → Note → Target → Option Told
told_in None note target = None
told_in (Some reply) note target = told_by note (plain_for target reply)

abbrev pub with_untold : Note → Option Reply → Target → Target
with_untold note None target = target
with_untold note (Some reply) target =
    with_agent target reply.place (record (agent_at target reply.place) { untold = untold_by note (plain_for target reply) (agent_at target reply.place).untold })

abbrev pub going_on : Note → Target → Target
going_on note target = taken_on (told_in target.reply note target) target.reply (with_untold note target.reply target)

-- A run takes the agent whose reply waits on with what it tells where it is of the initiator of the login in that place, and else with nothing.
abbrev pub is_own_run : Option Reply → (i : ℕ) → Terms → Target → Bool
is_own_run None i wire target = false
is_own_run (Some reply) i wire target = i == initiator_at target wire reply.place

abbrev pub ran_on : (is_own : Bool) → Note → Target → Target
ran_on true note target = going_on note target
ran_on false note target = taken_on None target.reply target

-- what an agent asked for and did not get a label for: it loses its main transaction, and forgets its read ahead
abbrev pub is_nothing : Ask → Bool
is_nothing Nothing = true
is_nothing _ = false

abbrev pub main_lost : Agent → Agent
main_lost a = if is_nothing a.asks then a else moved (steps.lost_step a.machine Main causes.Label) a

abbrev pub ahead_lost : Agent → Agent
ahead_lost a = if is_nothing a.asks_ahead then a else record a { machine = (steps.lost_step a.machine Ahead causes.Label).1; asks_ahead = Nothing }

-- A turn is over: what an agent asked for and did not send is lost.
abbrev pub agent_over : Agent → Agent
agent_over a = record (ahead_lost (main_lost a)) { asks = Nothing }

abbrev pub over : Target → Target
over target = let settled = taken_on None target.reply target in record settled { agents = map agent_over settled.agents; manager_asks = Nothing }

-- an agent is put into RESET: its transactions belong to nobody
abbrev pub cut_agent : Agent → Agent
cut_agent a = record a { machine = steps.reset_step a.machine; main = None; ahead = None; asks = Nothing; asks_ahead = Nothing }

abbrev pub cut_at : ℕ → Target → Target
cut_at place target = with_agent target place (cut_agent (agent_at target place))

-- ORB_POINTER and DOORBELL
abbrev pub pointed_by : Result Ask PointRefusal × agent.Machine → ℕ → Agent → Agent
pointed_by (Err refusal, machine) pointer a = a
pointed_by (Ok ask, machine) pointer a = record (moved (steps.asks ask, machine) a) { pointer = Some (agent.aligned pointer) }

abbrev pub points : Access → Agent → Agent
points access a = pointed_by (steps.point_step a.machine (pointer_at access.payload 0)) (offset_at access.payload 0) a

abbrev pub rings : Agent → Agent
rings a = let s = steps.doorbell_step a.machine in record a { machine = s.1; asks = s.0 }

-- ---- management
-- the bytes of a reply
abbrev pub bytes_in : Answer → List ℕ
bytes_in (Payload bytes) = bytes
bytes_in _ = []

-- the ORB that a reply brings to its decision, with the EUI-64 that was read, 0 where none is
abbrev pub decided_in : Phase → ℕ → Answer → Option Decided
decided_in phases.Orb source answer = Some (record { orb = management_orb (bytes_in answer); source = source; eui = 0 })
decided_in (phases.LowEui orb high) source answer = Some (record { orb = orb; source = source; eui = high * 2 ^ 32 + quad (bytes_in answer) 0 })
decided_in _ source answer = None

abbrev pub decided_by : Option Operation → Answer → Option Decided
decided_by None answer = None
decided_by (Some operation) answer = decided_in operation.phase operation.source answer

-- the step of the management operation at a reply, over the logins before it
abbrev pub manager_step : Target → Answer → ManagerStep × (manager.Machine × Table)
manager_step target answer = manager.reply_step target.manager target.table target.keys answer

-- what a decision does to the agents: an abort marks an ORB; a logout, an abort set and a reset put agents into RESET
abbrev pub on_unit : ℕ → List (Option Login) → ℕ → Bool
on_unit unit places place = is_on (place_at places place)
  where
    is_on : Option Login → Bool
    is_on None = false
    is_on (Some login) = login.unit == unit

abbrev pub cut_where : (ℕ → Bool) → ℕ → List Agent → List Agent
cut_where test place [] = []
cut_where test place (a ∷ agents) = (if test place then cut_agent a else a) ∷ cut_where test (place + 1) agents

abbrev pub effect_on : Effect → Target → Target
effect_on (effects.Left place) target = cut_at place target
effect_on (effects.Abort place orb) target =
    with_agent target place (record (agent_at target place) { machine = steps.abort_step (agent_at target place).machine orb })
effect_on (effects.AbortSet place) target = cut_at place target
effect_on (effects.UnitReset unit) target = record target { agents = cut_where (on_unit unit target.table.places) 0 target.agents }
effect_on effects.TargetReset target = record target { agents = map cut_agent target.agents }
effect_on _ target = target

abbrev pub keep_decided : Option Decision → Option Decided → Option Decided → Option Decided
keep_decided None brought decided = decided
keep_decided (Some decision) brought decided = brought

abbrev pub managed_by : ManagerStep × (manager.Machine × Table) → Answer → Target → Target
managed_by (step, (machine, table)) answer target = effect_on step.effect (record target {
  manager = machine;
  manages = None;
  manager_asks = step.ask;
  decided = keep_decided step.decided (decided_by target.manager.operation answer) target.decided;
})

abbrev pub started_by : Result Ask Busy × manager.Machine → Target → Target
started_by (Err busy, machine) target = target
started_by (Ok ask, machine) target = record target { manager = machine; manager_asks = ask }

-- ---- what the target gets
-- what one of its requests was for
pub data Purpose : Type 0 where
  for_agent : (place : ℕ) → Which → Purpose
  for_manager : Purpose
  for_nobody : Purpose

abbrev pub is_serial : Option ℕ → ℕ → Bool
is_serial None serial = false
is_serial (Some other) serial = other == serial

abbrev pub purpose_among : (place : ℕ) → List Agent → ℕ → Purpose
purpose_among place [] serial = for_nobody
purpose_among place (a ∷ agents) serial =
    if is_serial a.main serial then for_agent place Main
    else if is_serial a.ahead serial then for_agent place Ahead
    else purpose_among (place + 1) agents serial

abbrev pub purpose_of : Target → ℕ → Purpose
purpose_of target serial = if is_serial target.manages serial then for_manager else purpose_among 0 target.agents serial

abbrev pub replied_to : Purpose → Answer → Target → Target
replied_to (for_agent place which) answer target = record target { reply = Some (record { place = place; which = which; answer = answer }) }
replied_to for_manager answer target = managed_by (manager_step target answer) answer target
replied_to for_nobody answer target = target

abbrev pub replied : ℕ → Answer → Target → Target
replied serial answer target = replied_to (purpose_of target serial) answer target

-- a request that it serves
abbrev pub register_got : Register → ℕ → Access → Target → Target
register_got agent_reset place access target = cut_at place target
register_got orb_pointer place access target =
    if access.is_write then with_agent target place (points access (agent_at target place)) else target
register_got doorbell place access target = with_agent target place (rings (agent_at target place))
register_got unsolicited_enable place access target = record target { enabled = slice_set target.enabled place true }
register_got agent_state place access target = target

abbrev pub start_got : Start → (source : ℕ) → Access → Target → Target
start_got (register place name) source access target = register_got name place access target
start_got management_agent source access target = started_by (manager.start_step target.manager source (offset_at access.payload 0)) target
start_got rom_start source access target = target
start_got no_start source access target = target

abbrev pub request_got : Option Access → (source : ℕ) → Target → Target
request_got None source target = target
request_got (Some access) source target =
    if start_serves (start_at access.offset) access then start_got (start_at access.offset) source access target else target

abbrev pub got_by : Option ℕ → Terms → ℕ → Target → Target
got_by (Some own) wire serial target = replied own (answer_in (packet_at wire serial)) target
got_by None wire serial target = request_got (access_at wire serial) (id_for wire 0 (unwrap_or (sender_in (wire.sent serial)) 0)) target

-- ---- what it sends: a request is the agent's own, its read ahead, the management operation's, or an unsolicited status
abbrev pub wants : Ask → (is_write : Bool) → Bool
wants (Read offset len) is_write = not is_write
wants (Write offset len) is_write = is_write
wants Nothing is_write = false

abbrev pub is_write_access : Option Access → Bool
is_write_access None = false
is_write_access (Some access) = access.is_write

abbrev pub sends_of : Bool → ℕ → Agent → Agent
sends_of is_write serial a =
    if wants a.asks is_write then record a { main = Some serial; asks = Nothing }
    else if wants a.asks_ahead is_write then record a { ahead = Some serial; asks_ahead = Nothing }
    else a

abbrev pub wants_it : Bool → Agent → Bool
wants_it is_write a = wants a.asks is_write || wants a.asks_ahead is_write

abbrev pub sent_for : Option ℕ → Bool → ℕ → Target → Target
sent_for (Some place) is_write serial target = with_agent target place (sends_of is_write serial (agent_at target place))
sent_for None is_write serial target =
    if wants target.manager_asks is_write then record target { manages = Some serial; manager_asks = Nothing }
    else record target { pushes = serial ∷ target.pushes }

abbrev pub sent_as : Part → Bool → ℕ → Target → Target
sent_as (request label kind) is_write serial target = sent_for (position (wants_it is_write) target.agents) is_write serial target
sent_as part is_write serial target = target

-- ---- runs and resets
abbrev pub ran_by : (i unit place : ℕ) → (cdb bytes : List ℕ) → Option Sense → Target → Target
ran_by i unit place cdb bytes check target =
    record target { units = slice_set target.units unit (left_by_run cdb bytes check place unit target.table.places (unit_at target.units unit)) }

abbrev pub reset_seen : Bool → Target → Target
reset_seen false target = target
reset_seen true target = record target {
  manager = manager.clear_step target.manager;
  manages = None;
  agents = map cut_agent target.agents;
  enabled = replicate 8 false;
}

abbrev pub key_by : Option Event → ℕ → Target → Target
key_by (Some (events.Key other key)) unit target = record target { keys = slice_set target.keys unit key }
key_by event unit target = target

abbrev pub entered_by : Option ℕ → Target → Target
entered_by None target = target
entered_by (Some id) target = enters id target

-- the unit of the latest run
abbrev pub last_unit : List Moment → ℕ
last_unit [] = 0
last_unit (said (notes.Ran i n k unit cdb bytes check) ∷ past) = unit
last_unit (_ ∷ past) = last_unit past

-- ---- the fold: a note that begins a turn ends the one before
abbrev pub target_by : Note → List Moment → Terms → Target → Target
target_by (notes.Begin initiators ready) past wire target = record target { table = first_table ready initiators }
target_by (notes.Got serial) past wire target =
    if is_serial (receiver_in (wire.sent serial)) 0 then got_by (answered_at wire serial) wire serial (over target) else over target
target_by (notes.Ignored serial cause) past wire target = over target
target_by (notes.TimedOut serial) past wire target = if is_serial (sender_in (wire.sent serial)) 0 then replied serial Expired (over target) else over target
target_by (notes.Seen node generation) past wire target =
    if node == 0 then reset_seen (not (generation == wire.generation 0)) (over target) else over target
target_by notes.Tick past wire target = let ended = over target in record ended { table = record ended.table { places = map second_gone ended.table.places } }
target_by (notes.Ran i n k unit cdb bytes check) past wire target =
    ran_by i unit (place_on target unit (id_for wire 0 (i + 1))) cdb bytes check
    (ran_on (is_own_run target.reply i wire target) (notes.Ran i n k unit cdb bytes check) target)
target_by (notes.Sent serial generation from to bytes) past wire target =
    let settled = taken_on None target.reply target in
    if from == 0 then sent_as (part_of bytes) (is_write_access (access_in_bytes bytes)) serial settled else settled
target_by (notes.Dead i n causes.Label) past wire target =
    let settled = taken_on None target.reply target in record settled { agents = map main_lost settled.agents }
target_by (notes.ManageFailed i cause) past wire target = record target { manager = manager.clear_step target.manager; manages = None; manager_asks = Nothing }
target_by (notes.Managed i functions.Login subject status login) past wire target = entered_by login target
target_by (notes.Held id) past wire target = with_id id (λ login. held (Some login)) target
target_by (notes.Back id) past wire target = with_id id (λ login. Some (revived (source_in target.decided) login)) target
target_by (notes.Left id) past wire target = with_id id (λ login. None) (disabled_for id target)
target_by (notes.Expired id) past wire target = with_id id (λ login. None) (disabled_for id target)
target_by (notes.Cleared unit) past wire target =
    record target { units = slice_set target.units unit (left_by_reset unit target.table.places (unit_at target.units unit)) }
target_by (notes.Key unit) past wire target = key_by (event_of past) unit target
target_by (notes.Unsolicited i) past wire target =
    record target { enabled = slice_set target.enabled (place_on target (last_unit past) (id_for wire 0 (i + 1))) false }
target_by note past wire target = going_on note target

-- the wire and the target, as one fold
pub record Known : Type 0 where
  pub wire : Terms
  pub target : Target

abbrev pub knows : Moment → List Moment → Known → Known
knows (asked line event) past known = record { wire = passed (asked line event) known.wire; target = over known.target }
knows (said note) past known = record { wire = passed (said note) known.wire; target = target_by note past known.wire known.target }

abbrev pub known_at : List Disk → List Moment → Known
known_at start [] = record { wire = beginning; target = new_target start }
known_at start (moment ∷ past) = knows moment past (known_at start past)

abbrev pub target_at : List Disk → List Moment → Target
target_at start past = (known_at start past).target

-- ---- the disk fold
abbrev pub plain_of : List Disk → List Moment → ℕ → PlainDisk
plain_of start past unit = unit_at (target_at start past).units unit

abbrev pub disk_of : List Disk → List Moment → ℕ → Disk
disk_of start past unit = (plain_of start past unit).medium
