-- What the target writes of an operation, and what it decided before (NCITS 325-1998, login response, status block, login, reconnect and logout). Once its ORB is
-- decided an operation writes the response, where there is one, and then the status block, which names the ORB. While it does, a login that was granted
-- stands live in the place that the response names, a login that was reconnected is live, and one that was logged out is gone. Nothing but that operation
-- changes it, until the target sees a later generation and the operation is over.
use Rattle.std.specs.Prelude.{◌≡◌, ◌⊎◌, ◌≤◌, ◌<◌, ◌+◌, ◌^◌, ℕ, Bool, true, false, List, ◌∷◌, ◌++◌, map, length, take, Option, Some}
use Rattle.async_packet.specs.Labels.{LabelParts}
use Rattle.async_packet.specs.Packet.{Packet}
use Rattle.label_table.specs.Layer.{judging_step, of_response}
use Rattle.login_table.specs.declared.login.Login.{Login}
use Rattle.login_table.specs.Table.{entered, is_live, is_live_of, place_at}
use Rattle.mgmt_agent.specs.declared.function.Function.{Function}
use Rattle.mgmt_agent.specs.declared.function.Function.TheVariants as functions
use Rattle.mgmt_agent.specs.declared.operation.Operation.{Operation}
use Rattle.mgmt_agent.specs.declared.operation.Phase.{Phase}
use Rattle.mgmt_agent.specs.declared.operation.Phase.TheVariants as phases
use Rattle.mgmt_agent.specs.declared.status.Status.{Status}
use Rattle.mgmt_agent.specs.declared.status.Status.TheVariants as statuses
use Rattle.mgmt_agent.specs.Decisions.{agent_base, asked_by, granted_hold}
use Rattle.mgmt_agent.specs.Machine.{Machine, status_block}
use Rattle.mgmt_agent.specs.Statuses.{function_of}
use Rattle.orb_layout.specs.LoginResponses.{login_bytes}
use Rattle.orb_layout.specs.Replies.{Answer}
use Rattle.rbc_disk.specs.Disk.{Disk}
use Rattle.rbc_disk.specs.Runs.{Told}
use Rattle.sbp_journal.specs.Outgoings.{empty_outbox}
use Rattle.sbp_journal.specs.Run.{Moment, asked, said}
use Rattle.sbp_journal.specs.declared.event.Event.{Event}
use Rattle.sbp_laws.specs.Targets.{Decided, decided_by, target_at}
use Rattle.sbp_target.specs.declared.purpose.Purpose.TheVariants as purposes
use Rattle.sbp_target.specs.Calls.{Call, after, alone, lets_expire, sees, sets_key, ticks}
use Rattle.sbp_target.specs.Nodes.{NodeState, scene}
use Rattle.sbp_target.specs.Receiving.{answer_in, received}
use Rattle.sbp_target.specs.Replies.{whole}
use Rattle.sbp_world.specs.Histories.{history_of}
use Rattle.sbp_world.specs.Runs.{AreEntries, Run, after as after_run, beginning}
use Rattle.sbp_world.specs.Settling.{MayAll, after_all}
use Rattle.sbp_world.specs.Wire.Lines.{AreLines}
use Rattle.sbp_world.specs.Worlds.{begun}
use Rattle.sbp_world.specs.Agents.Management.Terms.{DeliversMore}

-- ---- what was decided on an ORB is so

-- the login that the ORB asks for stands in a place, live, under an ID
pub record IsEntered (on : Decided) (places : List (Option Login)) : Type 0 where
  pub place : ℕ
  pub id : ℕ
  pub there : place_at places place ≡ Some (entered (asked_by on.orb on.source on.eui) place id)

-- the login of the ID that the ORB names is live for the node that sent it
pub record IsBack (on : Decided) (places : List (Option Login)) : Type 0 where
  pub place : ℕ
  pub login : Login
  pub there : place_at places place ≡ Some login
  pub live : is_live login ≡ true
  pub own : login.login ≡ on.orb.subject
  pub of_node : login.node ≡ on.source

-- no login of that ID is live for that node
abbrev pub IsGone : Decided → List (Option Login) → Type 0
IsGone on places = (place : ℕ) (login : Login) → place_at places place ≡ Some login → is_live_of on.orb.subject on.source login ≡ false

-- what a status of 00 says, by the function of the ORB
abbrev pub IsDone : Option Function → Decided → List (Option Login) → Type 0
IsDone (Some functions.Login) on places = IsEntered on places
IsDone (Some functions.Reconnect) on places = IsBack on places
IsDone (Some functions.Logout) on places = IsGone on places
IsDone function on places = Unit {0}

-- ---- what is written of it

-- the response of a login: the login's ID, the base of the registers of its place and its hold, as far as the ORB allows
pub record NamesLogin (on : Decided) (places : List (Option Login)) (outgoing : List ℕ) : Type 0 where
  pub login : IsEntered on places
  pub bytes : outgoing ≡ take on.orb.response_length (login_bytes (record { login = login.id; agent = agent_base login.place; hold = granted_hold on.orb.reconnect }))

abbrev pub Responds : Option Function → Decided → List (Option Login) → List ℕ → Type 0
Responds (Some functions.Login) on places outgoing = NamesLogin on places outgoing
Responds function on places outgoing = Unit {0}

-- the response is written, and the status block goes to the FIFO of the ORB then
pub record HasResponse (fifo : ℕ) (on : Decided) (places : List (Option Login)) (outgoing : List ℕ) : Type 0 where
  pub fifo_is : fifo ≡ on.orb.fifo
  pub done : IsDone (function_of on.orb.function) on places
  pub responds : Responds (function_of on.orb.function) on places outgoing

-- the status block is written: it names the ORB of the operation, and where its status is 00 what was decided is so
pub record HasStatus (op : Operation) (on : Decided) (places : List (Option Login)) (outgoing : List ℕ) : Type 0 where
  pub status : Status
  pub bytes : outgoing ≡ status_block op.orb status
  pub done : status ≡ statuses.NoFault → IsDone (function_of on.orb.function) on places

abbrev pub Writes : Phase → Operation → Decided → List (Option Login) → List ℕ → Type 0
Writes (phases.Response fifo) op on places outgoing = HasResponse fifo on places outgoing
Writes phases.Status op on places outgoing = HasStatus op on places outgoing
Writes phase op on places outgoing = ⊥

-- the phases behind the decision
abbrev pub is_written : Phase → Bool
is_written (phases.Response fifo) = true
is_written phases.Status = true
is_written phase = false

-- ---- what a call leaves of it

-- The operation was written of before, and what it is written of stands: on whatever ORB it was decided.
pub record WritesOn (m : Machine) (places : List (Option Login)) (now : Machine) (left : List (Option Login)) (op : Operation) : Type 0 where
  pub was : Operation
  pub is : m.operation ≡ Some was
  pub written : is_written was.phase ≡ true
  pub source : was.source ≡ op.source
  pub orb : was.orb ≡ op.orb
  pub stands : (on : Decided) → on.source ≡ was.source → Writes was.phase was on places m.outgoing → Writes op.phase op on left now.outgoing

-- an answer brings the decision, on the ORB that was read
pub record IsDecidedBy (m : Machine) (answer : Answer) (now : Machine) (left : List (Option Login)) (op : Operation) : Type 0 where
  pub on : Decided
  pub brought : decided_by m.operation answer ≡ Some on
  pub source : on.source ≡ op.source
  pub writes : Writes op.phase op on left now.outgoing

-- a packet that is delivered brings it
pub record IsDecidedIn (node : NodeState) (generation : ℕ) (bytes : List ℕ) (now : NodeState) (op : Operation) : Type 0 where
  pub packet : Packet
  pub label : LabelParts
  pub found : (judging_step node.layer generation bytes).0 ≡ of_response packet label (Some purposes.Management)
  pub by : IsDecidedBy node.manager (answer_in packet) now.manager now.logins.places op

abbrev pub GoesOnIn : NodeState → NodeState → Operation → Type 0
GoesOnIn node now op = WritesOn node.manager node.logins.places now.manager now.logins.places op

-- Where an operation writes after a call of a target, it went on writing, or it was decided in the call.
pub record OperationsWrite (node : NodeState) : Type 0 where
  pub deliveries : (told : Option Told) (disks : List Disk) (generation : ℕ) (bytes : List ℕ) (op : Operation) → (let now = (received told generation bytes (whole (scene node empty_outbox) disks)).1.node in now.manager.operation ≡ Some op → is_written op.phase ≡ true → GoesOnIn node now op ⊎ IsDecidedIn node generation bytes now op)
  pub expiries : (peer : ℕ) (label : LabelParts) (op : Operation) → (let now = (alone (lets_expire peer label) node).node in now.manager.operation ≡ Some op → is_written op.phase ≡ true → GoesOnIn node now op)
  pub sights : (generation own : ℕ) (op : Operation) → (let now = (alone (sees generation own) node).node in now.manager.operation ≡ Some op → is_written op.phase ≡ true → GoesOnIn node now op)
  pub seconds : (op : Operation) → (let now = (alone ticks node).node in now.manager.operation ≡ Some op → is_written op.phase ≡ true → GoesOnIn node now op)
  pub keys : (unit : ℕ) (key : List ℕ) (op : Operation) → (let now = (alone (sets_key unit key) node).node in now.manager.operation ≡ Some op → is_written op.phase ≡ true → GoesOnIn node now op)

-- an operation writes of what was decided on some ORB of its source
pub record IsWritten (places : List (Option Login)) (outgoing : List ℕ) (op : Operation) : Type 0 where
  pub on : Decided
  pub source : on.source ≡ op.source
  pub writes : Writes op.phase op on places outgoing

-- after every list of calls of a target that has a unit
abbrev pub WrittenLaw : Type 0
WrittenLaw = (units ready : ℕ) (calls : List Call) (op : Operation) → 0 < units → (after units ready calls).manager.operation ≡ Some op → is_written op.phase ≡ true → (let node = after units ready calls in IsWritten node.logins.places node.manager.outgoing op)

abbrev pub WritingLaw : Type 0
WritingLaw = (units ready : ℕ) (calls : List Call) → 0 < units → OperationsWrite (after units ready calls)

-- So it is after every line of every run of a machine with a unit, at most four, and a medium for each, by the terms of the run.
abbrev pub IsWrittenBy : List Disk → List Moment → Type 0
IsWrittenBy start past =
    (op : Operation) → (target_at start past).manager.operation ≡ Some op → is_written op.phase ≡ true → IsWritten (target_at start past).table.places (target_at start past).manager.outgoing op

abbrev pub WrittenRunLaw : Type 0
WrittenRunLaw =
    (line : ℕ) (run : Run) → run.initiators ≤ 4 → 0 < run.units → run.units ≤ 4 → length run.start.disks ≡ run.units → length run.entries + 2 < 2 ^ 32 → AreEntries (beginning run) run.entries → AreLines run run.entries → IsWrittenBy run.start.disks (history_of line run)

-- And behind each delivery of a line that may follow: the packets that were delivered in it so far told this, the latest one first.
abbrev pub WrittenBetweenLaw : Type 0
WrittenBetweenLaw =
    (line : ℕ) (run : Run) → run.initiators ≤ 4 → 0 < run.units → run.units ≤ 4 → length run.start.disks ≡ run.units → length run.entries + 2 < 2 ^ 32 → AreEntries (beginning run) run.entries → AreLines run run.entries → (next : ℕ) (event : Event) → DeliversMore event → (told : List (Option Told)) → MayAll told (begun (after_run (beginning run) run.entries)) → (let w = (after_all told (begun (after_run (beginning run) run.entries))).world in IsWrittenBy run.start.disks (map said w.fresh ++ asked next event ∷ history_of line run))
