-- What a turn brings of the target's agents: the run and the end of the present ORB, the death of an agent, and its requests (NCITS
-- 325-1998, command block agents).
use Rattle.std.specs.Prelude.{ℕ, suc, ◌+◌, ◌==◌, ◌&&◌, not, nat_le, is_none, Bool, true, false, if◌then◌else◌, List, [], ◌∷◌, ◌++◌, Option, Some, None, Result, Ok, Err}
use Rattle.std.specs.List.{list_any}
use Rattle.orb_layout.specs.declared.ask.Ask.{Ask}
use Rattle.orb_layout.specs.declared.ask.Ask.TheVariants.{Read, Write, Nothing}
use Rattle.orb_layout.specs.declared.ask.FailCause.{FailCause}
use Rattle.orb_layout.specs.declared.ask.FailCause.TheVariants as causes
use Rattle.orb_layout.specs.declared.status.StatusKind.{StatusKind}
use Rattle.orb_layout.specs.Replies.{Answer, Expired}
use Rattle.orb_layout.specs.Pointers.{pointer_at}
use Rattle.rbc_disk.specs.Disk.{Disk}
use Rattle.rbc_disk.specs.Units.{PlainDisk}
use Rattle.rbc_disk.specs.Runs.{Told}
use Rattle.login_table.specs.declared.login.Login.{Login}
use Rattle.label_table.specs.Bodies.{Body, block_write, block_read}
use Rattle.command_agent.specs.Machine as agent
use Rattle.command_agent.specs.Steps as steps
use Rattle.command_agent.specs.declared.phase.Phase.{Phase}
use Rattle.command_agent.specs.declared.phase.Phase.TheVariants as phases
use Rattle.command_agent.specs.declared.step.AgentStep.{AgentStep}
use Rattle.command_agent.specs.declared.step.AgentState.{AgentState}
use Rattle.command_agent.specs.declared.step.AgentState.TheVariants as states
use Rattle.command_agent.specs.declared.step.PointRefusal.{PointRefusal}
use Rattle.command_agent.specs.declared.step.Which.{Which}
use Rattle.command_agent.specs.declared.step.Which.TheVariants.{Main}
use Rattle.sbp_journal.specs.Run.{Moment, said}
use Rattle.sbp_journal.specs.Addresses.{Access, Register, orb_pointer, doorbell, Start, register, start_at, start_serves}
use Rattle.sbp_journal.specs.Wire.{Terms, terms}
use Rattle.sbp_journal.specs.declared.note.Note.{Note}
use Rattle.sbp_journal.specs.declared.note.Note.TheVariants as notes
use Rattle.sbp_laws.specs.Turns.{Turn}
use Rattle.sbp_laws.specs.Packets.{packet_at, access_at, answered_at, answer_in, sender_in, receiver_in, finds_label, free_labels}
use Rattle.sbp_laws.specs.Lists.{Orb, named, list_in, number_in}
use Rattle.sbp_laws.specs.Targets.{Target, Agent, Reply, Purpose, for_agent, for_manager, for_nobody, purpose_of, target_at, over, agent_at, login_at, initiator_at, reply_of, plain_for, told_by, untold_by, is_serial}

-- the target as a turn begins, and the wire before the turn and after its first moment
abbrev pub target_before : List Disk → Turn → Target
target_before start t = over (target_at start t.past)

abbrev pub wire_before : Turn → Terms
wire_before t = terms t.past

abbrev pub wire_after : Turn → Terms
wire_after t = terms (t.start ∷ t.past)

-- ---- logins
abbrev pub fifo_in : Option Login → ℕ
fifo_in None = 0
fifo_in (Some login) = login.fifo

-- ---- what a turn is for an agent: a reply to one of its transactions, or a register of it that was written
pub data Event : Type 0 where
  replies : Reply → Event
  writes : Register → (place : ℕ) → Access → Event
  nothing : Event

abbrev pub reply_to : Purpose → Answer → Event
reply_to (for_agent place which) answer = replies (record { place = place; which = which; answer = answer })
reply_to for_manager answer = nothing
reply_to for_nobody answer = nothing

abbrev pub write_of : Start → Access → Event
write_of (register place name) access = if access.is_write && start_serves (register place name) access then writes name place access else nothing
write_of start access = nothing

abbrev pub write_in : Option Access → Event
write_in None = nothing
write_in (Some access) = write_of (start_at access.offset) access

abbrev pub got_in : Option ℕ → Target → Terms → ℕ → Event
got_in (Some own) target wire serial = reply_to (purpose_of target own) (answer_in (packet_at wire serial))
got_in None target wire serial = write_in (access_at wire serial)

abbrev pub event_by : Moment → Target → Terms → Event
event_by (said (notes.Got serial)) target wire = if is_serial (receiver_in (wire.sent serial)) 0 then got_in (answered_at wire serial) target wire serial else nothing
event_by (said (notes.TimedOut serial)) target wire = if is_serial (sender_in (wire.sent serial)) 0 then reply_to (purpose_of target serial) Expired else nothing
event_by moment target wire = nothing

abbrev pub agent_event : List Disk → Turn → Event
agent_event start t = event_by t.start (target_before start t) (wire_before t)

-- ---- the list of the ORB to which ORB_POINTER of a place pointed when it was last taken, as ORBs were named then
abbrev pub listed_by : Result Ask PointRefusal × agent.Machine → List Moment → (i : ℕ) → (before : Option ℕ) → Option ℕ
listed_by (Err refusal, machine) past i before = before
listed_by (Ok ask, machine) past i before = list_in (named past i machine.present)

abbrev pub listed_at : Event → List Moment → Target → Terms → (place : ℕ) → (before : Option ℕ) → Option ℕ
listed_at (writes orb_pointer other access) past target wire place before =
    if other == place
    then listed_by (steps.point_step (agent_at target place).machine (pointer_at access.payload 0)) past (initiator_at target wire place) before
    else before
listed_at event past target wire place before = before

abbrev pub list_taken : List Disk → List Moment → (place : ℕ) → Option ℕ
list_taken start [] place = None
list_taken start (said (notes.Got serial) ∷ past) place =
    let target = over (target_at start past) in
    listed_at (event_by (said (notes.Got serial)) target (terms past)) past target (terms past) place (list_taken start past place)
list_taken start (_ ∷ past) place = list_taken start past place

-- ---- the step of an agent in a turn: which place, whether the medium told no answer of its command, what it does, and what it then is
pub record AgentTurn : Type 0 where
  pub place : ℕ
  pub untold : Bool
  pub which : Which
  pub step : AgentStep
  pub machine : agent.Machine

-- what the first run of an initiator in these notes told
abbrev pub told_among : (i : ℕ) → List Note → PlainDisk → Option Told
told_among i [] plain = None
told_among i (notes.Ran j n k unit cdb bytes check ∷ rest) plain =
    if j == i then told_by (notes.Ran j n k unit cdb bytes check) plain else told_among i rest plain
told_among i (note ∷ rest) plain = told_among i rest plain

abbrev pub untold_among : (i : ℕ) → List Note → PlainDisk → (before : Bool) → Bool
untold_among i [] plain before = before
untold_among i (notes.Ran j n k unit cdb bytes check ∷ rest) plain before =
    untold_among i rest plain (if j == i then untold_by (notes.Ran j n k unit cdb bytes check) plain before else before)
untold_among i (note ∷ rest) plain before = untold_among i rest plain before

abbrev pub by_pointer : (place : ℕ) → Agent → Result Ask PointRefusal × agent.Machine → Option AgentTurn
by_pointer place a (Err refusal, machine) = None
by_pointer place a (Ok ask, machine) =
    Some (record { place = place; untold = a.untold; which = Main; step = steps.asks ask; machine = machine })

abbrev pub by_doorbell : (place : ℕ) → Agent → Ask × agent.Machine → Option AgentTurn
by_doorbell place a (ask, machine) = Some (record { place = place; untold = a.untold; which = Main; step = steps.asks ask; machine = machine })

abbrev pub by_reply : Target → Terms → Reply → List Note → Option AgentTurn
by_reply target wire reply rest =
    let s = reply_of target reply (told_among (initiator_at target wire reply.place) rest (plain_for target reply)) in
    let a = agent_at target reply.place in
    Some (record {
      place = reply.place;
      untold = untold_among (initiator_at target wire reply.place) rest (plain_for target reply) a.untold;
      which = reply.which;
      step = s.0;
      machine = s.1;
    })

abbrev pub agent_turn : Event → Target → Terms → List Note → Option AgentTurn
agent_turn (replies reply) target wire rest = by_reply target wire reply rest
agent_turn (writes orb_pointer place access) target wire rest =
    by_pointer place (agent_at target place) (steps.point_step (agent_at target place).machine (pointer_at access.payload 0))
agent_turn (writes doorbell place access) target wire rest =
    by_doorbell place (agent_at target place) (steps.doorbell_step (agent_at target place).machine)
agent_turn event target wire rest = None

-- ---- its requests, and what comes of one that finds no label
-- what an agent sends: all its requests are of blocks; a status block goes to the login's FIFO
abbrev pub body_of : Ask → agent.Machine → Option StatusKind → (fifo : ℕ) → Option Body
body_of Nothing machine ended fifo = None
body_of (Read offset len) machine ended fifo = Some (block_read offset len)
body_of (Write offset len) machine None fifo = Some (block_write offset machine.outgoing)
body_of (Write offset len) machine (Some kind) fifo = Some (block_write fifo machine.outgoing)

-- What comes of a step: a death before the end of the ORB that it brings about, that end, a death behind an end whose status write finds
-- no label; the request that is sent, if one is; and what the agent then is.
pub record Outcomes : Type 0 where
  pub dead : Option FailCause
  pub ended : Option StatusKind
  pub dead_behind : Option FailCause
  pub sent : Option Body
  pub machine : agent.Machine

abbrev pub lost_main : agent.Machine → AgentStep × agent.Machine
lost_main machine = steps.lost_step machine Main causes.Label

-- the status write of an ORB that failed as its request found no label
abbrev pub last_try : (Body → Bool) → (fifo : ℕ) → AgentStep × agent.Machine → Option Body → Outcomes
last_try finds fifo (step, machine) None = record { dead = step.dead; ended = step.ended; dead_behind = None; sent = None; machine = machine }
last_try finds fifo (step, machine) (Some body) =
    if finds body then record { dead = step.dead; ended = step.ended; dead_behind = None; sent = Some body; machine = machine }
    else record { dead = step.dead; ended = step.ended; dead_behind = None; sent = None; machine = (lost_main machine).1 }

-- a request that finds no label: that of a status block, or another
abbrev pub unsent : (Body → Bool) → (fifo : ℕ) → AgentStep → agent.Machine → Option StatusKind → Outcomes
unsent finds fifo step machine (Some kind) =
    let lost = lost_main machine in record { dead = step.dead; ended = Some kind; dead_behind = lost.0.dead; sent = None; machine = lost.1 }
unsent finds fifo step machine None =
    let lost = lost_main machine in last_try finds fifo lost (body_of lost.0.ask lost.1 lost.0.ended fifo)

abbrev pub tried : (finds_first finds : Body → Bool) → (fifo : ℕ) → AgentStep → agent.Machine → Option Body → Outcomes
tried finds_first finds fifo step machine None = record { dead = step.dead; ended = step.ended; dead_behind = None; sent = None; machine = machine }
tried finds_first finds fifo step machine (Some body) =
    if finds_first body then record { dead = step.dead; ended = step.ended; dead_behind = None; sent = Some body; machine = machine }
    else unsent finds fifo step machine step.ended

abbrev pub outcomes_of : (finds_first finds : Body → Bool) → (fifo : ℕ) → AgentTurn → Outcomes
outcomes_of finds_first finds fifo a = tried finds_first finds fifo a.step a.machine (body_of a.step.ask a.machine a.step.ended fifo)

-- ---- whether the request that an agent has first in a turn finds a label
abbrev pub is_dead_label : Note → Bool
is_dead_label (notes.Dead i list causes.Label) = true
is_dead_label _ = false

-- the turn tells that its request finds no label
abbrev pub lacks_label_told : Turn → Bool
lacks_label_told t = list_any is_dead_label t.rest

abbrev pub is_answering : Phase → Bool
is_answering phases.Answering = true
is_answering _ = false

-- Of an answer that its medium did not tell the bytes of a chunk are not known: its write finds a label as the turn tells, and that there are
-- bytes that do is the cause law's where it finds none, the sent law's where it is sent.
abbrev pub is_untold_chunk : AgentTurn → Bool
is_untold_chunk a = a.untold && is_answering a.machine.phase

abbrev pub finds_first : Target → Turn → AgentTurn → Body → Bool
finds_first target t a =
    if is_untold_chunk a then (λ body. not (lacks_label_told t)) else finds_label (wire_after t) 0 (suc (initiator_at target (wire_before t) a.place))

-- the outcomes of an agent's turn
abbrev pub agent_outcomes : Target → Turn → AgentTurn → Outcomes
agent_outcomes target t a =
    outcomes_of (finds_first target t a) (finds_label (wire_after t) 0 (suc (initiator_at target (wire_before t) a.place))) (fifo_in (login_at target a.place)) a

-- ---- the read ahead: it needs 16 labels that are free behind the agent's other request, and an agent that is not dead
abbrev pub ahead_reserve : ℕ
ahead_reserve = 16

abbrev pub is_dead : agent.Machine → Bool
is_dead machine = is_dead_state (agent.state_in machine.phase)
  where
    is_dead_state : AgentState → Bool
    is_dead_state states.Dead = true
    is_dead_state _ = false

abbrev pub taken_labels : Option Body → ℕ
taken_labels None = 0
taken_labels (Some body) = 1

abbrev pub ahead_due : Target → Turn → AgentTurn → Outcomes → Option Body
ahead_due target t a outcomes =
    if is_dead outcomes.machine then None
    else if nat_le (ahead_reserve + taken_labels outcomes.sent) (free_labels (wire_after t) 0 (suc (initiator_at target (wire_before t) a.place)))
    then body_of a.step.ahead a.machine None 0
    else None

-- ---- the notes of it
abbrev pub dead_note : (i : ℕ) → Option ℕ → Option FailCause → List Note
dead_note i list None = []
dead_note i list (Some cause) = notes.Dead i list cause ∷ []

abbrev pub ended_note : (i : ℕ) → Option Orb → Option StatusKind → List Note
ended_note i one None = []
ended_note i one (Some kind) = notes.Ended i (list_in one) (number_in one) kind ∷ []

-- a `dead` stands before the `ended` that it brings, or behind the one whose status write found no label
abbrev pub end_notes : (i : ℕ) → Option ℕ → Option Orb → Outcomes → List Note
end_notes i list one outcomes =
    dead_note i list outcomes.dead ++ (ended_note i one outcomes.ended ++ dead_note i list outcomes.dead_behind)

abbrev pub agent_notes_for : List Disk → Target → Turn → AgentTurn → List Note
agent_notes_for start target t a =
    let i = initiator_at target (wire_before t) a.place in
    end_notes i (list_taken start (t.start ∷ t.past) a.place) (named t.past i a.machine.present) (agent_outcomes target t a)

-- A request: the node that it goes to, and what it asks for. Of a chunk of an answer that its medium did not tell only the number of its bytes
-- counts.
pub record Request : Type 0 where
  pub to : ℕ
  pub body : Body
  pub is_untold : Bool

abbrev pub requests_of : ℕ → Bool → Option Body → List Request
requests_of node is_untold None = []
requests_of node is_untold (Some body) = record { to = node; body = body; is_untold = is_untold } ∷ []

abbrev pub requests_to : ℕ → Option Body → List Request
requests_to node body = requests_of node false body

-- a write that ends no ORB is of a chunk of its answer
abbrev pub is_write_body : Option Body → Bool
is_write_body (Some (block_write offset payload)) = true
is_write_body _ = false

abbrev pub is_answer : Outcomes → Bool
is_answer outcomes = is_none outcomes.ended && is_write_body outcomes.sent

-- the requests of an agent in a turn, the read ahead behind the other one

abbrev pub agent_requests_for : Target → Turn → AgentTurn → List Request
agent_requests_for target t a =
    let node = suc (initiator_at target (wire_before t) a.place) in
    let outcomes = agent_outcomes target t a in
    requests_of node (a.untold && is_answer outcomes) outcomes.sent ++ requests_to node (ahead_due target t a outcomes)
