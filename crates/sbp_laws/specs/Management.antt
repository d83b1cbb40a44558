-- What a turn brings of the target's management operation, of its logins and of the lists that it cuts (NCITS 325-1998, management agent).
use Rattle.std.specs.Prelude.{ℕ, suc, ◌+◌, ◌==◌, ◌&&◌, not, is_none, Bool, true, false, if◌then◌else◌, List, [], ◌∷◌, ◌++◌, map, Option, Some, None, Result, Ok, Err}
use Rattle.orb_layout.specs.declared.ask.Ask.{Ask}
use Rattle.orb_layout.specs.declared.ask.Ask.TheVariants.{Read, Write, Nothing}
use Rattle.orb_layout.specs.declared.ask.FailCause.{FailCause}
use Rattle.orb_layout.specs.declared.ask.FailCause.TheVariants as causes
use Rattle.orb_layout.specs.Replies.{Answer, Expired}
use Rattle.orb_layout.specs.Pointers.{offset_at}
use Rattle.rbc_disk.specs.Disk.{Disk}
use Rattle.login_table.specs.Table.{id_of, live_ids, expired_ids}
use Rattle.label_table.specs.Bodies.{Body, block_write, block_read, quadlet_read}
use Rattle.command_agent.specs.Machine as agent
use Rattle.command_agent.specs.declared.step.AgentState.{AgentState}
use Rattle.command_agent.specs.declared.step.AgentState.TheVariants as states
use Rattle.mgmt_agent.specs.Machine as manager
use Rattle.mgmt_agent.specs.declared.function.Function.{Function}
use Rattle.mgmt_agent.specs.declared.function.Function.TheVariants as kinds
use Rattle.mgmt_agent.specs.Statuses.{function_of}
use Rattle.mgmt_agent.specs.declared.operation.Operation.{Operation}
use Rattle.mgmt_agent.specs.declared.operation.Busy.{Busy}
use Rattle.mgmt_agent.specs.declared.decision.ManagerStep.{ManagerStep}
use Rattle.mgmt_agent.specs.declared.decision.Decision.{Decision}
use Rattle.mgmt_agent.specs.declared.decision.Effect.{Effect}
use Rattle.mgmt_agent.specs.declared.decision.Effect.TheVariants as effects
use Rattle.sbp_journal.specs.Run.{Moment, said}
use Rattle.sbp_journal.specs.Addresses.{Access, agent_reset, Start, management_agent, start_at, start_serves}
use Rattle.sbp_journal.specs.Wire.{Terms, terms}
use Rattle.sbp_journal.specs.declared.cause.CutCause.{CutCause}
use Rattle.sbp_journal.specs.declared.cause.CutCause.TheVariants as cuts
use Rattle.sbp_journal.specs.declared.operation.FunctionWord.{FunctionWord}
use Rattle.sbp_journal.specs.declared.operation.FunctionWord.TheVariants as functions
use Rattle.sbp_journal.specs.declared.note.Note.{Note}
use Rattle.sbp_journal.specs.declared.note.Note.TheVariants as notes
use Rattle.sbp_laws.specs.Turns.{Turn}
use Rattle.sbp_laws.specs.Packets.{packet_at, access_at, answered_at, answer_in, sender_in, receiver_in, id_for, finds_label}
use Rattle.sbp_laws.specs.Targets.{Target, Agent, Purpose, for_agent, for_manager, for_nobody, purpose_of, agent_at, login_at, manager_step, on_unit, is_serial, target_at, initiator_at, initiator_with}
use Rattle.sbp_laws.specs.Agents.{Event, writes, agent_event, Request, requests_to, list_taken, wire_before, wire_after}

-- ---- lists that are cut
-- the list of an agent is open where the agent is not in RESET
abbrev pub is_reset : AgentState → Bool
is_reset states.Reset = true
is_reset _ = false

abbrev pub is_open : Agent → Bool
is_open a = not (is_reset (agent.state_in a.machine.phase))

abbrev pub cut_note : List Disk → List Moment → Terms → Target → CutCause → ℕ → List Note
cut_note start past wire target cause place =
    if is_open (agent_at target place) then notes.Cut (initiator_at target wire place) (list_taken start past place) cause ∷ [] else []

-- the cuts of the places, from one on, that pass a test, by rising place
abbrev pub cuts_from : (place : ℕ) → List Agent → (ℕ → List Note) → (ℕ → Bool) → List Note
cuts_from place [] cut test = []
cuts_from place (a ∷ agents) cut test = (if test place then cut place else []) ++ cuts_from (place + 1) agents cut test

abbrev pub cuts_where : List Disk → List Moment → Terms → Target → CutCause → (ℕ → Bool) → List Note
cuts_where start past wire target cause test = cuts_from 0 target.agents (cut_note start past wire target cause) test

abbrev pub cuts_by_effect : List Disk → List Moment → Terms → Target → Effect → List Note
cuts_by_effect start past wire target (effects.Left place) = cut_note start past wire target cuts.Logout place
cuts_by_effect start past wire target (effects.AbortSet place) = cut_note start past wire target cuts.AbortSet place
cuts_by_effect start past wire target (effects.UnitReset unit) = cuts_where start past wire target cuts.UnitReset (on_unit unit target.table.places)
cuts_by_effect start past wire target effects.TargetReset = cuts_where start past wire target cuts.TargetReset (λ place. true)
cuts_by_effect start past wire target _ = []

-- ---- the management operation
-- what a turn is for it: a reply to its request, or a write of MANAGEMENT_AGENT by a node with an ID
pub data Call : Type 0 where
  answers : Answer → Call
  starts : (source orb : ℕ) → Call
  no_call : Call

abbrev pub answer_to : Purpose → Answer → Call
answer_to for_manager answer = answers answer
answer_to (for_agent place which) answer = no_call
answer_to for_nobody answer = no_call

abbrev pub start_of : Start → (source : ℕ) → Access → Call
start_of management_agent source access = if start_serves management_agent access then starts source (offset_at access.payload 0) else no_call
start_of start source access = no_call

abbrev pub start_in : Option Access → (source : ℕ) → Call
start_in None source = no_call
start_in (Some access) source = start_of (start_at access.offset) source access

abbrev pub source_node : Option ℕ → ℕ
source_node None = 0
source_node (Some node) = node

abbrev pub got_call : Option ℕ → Target → Terms → ℕ → Call
got_call (Some own) target wire serial = answer_to (purpose_of target own) (answer_in (packet_at wire serial))
got_call None target wire serial = start_in (access_at wire serial) (id_for wire 0 (source_node (sender_in (wire.sent serial))))

abbrev pub call_by : Moment → Target → Terms → Call
call_by (said (notes.Got serial)) target wire = if is_serial (receiver_in (wire.sent serial)) 0 then got_call (answered_at wire serial) target wire serial else no_call
call_by (said (notes.TimedOut serial)) target wire = if is_serial (sender_in (wire.sent serial)) 0 then answer_to (purpose_of target serial) Expired else no_call
call_by moment target wire = no_call

-- its step in a turn, and what the operation then is
abbrev pub started : Result Ask Busy × manager.Machine → Option (ManagerStep × manager.Machine)
started (Err busy, machine) = None
started (Ok ask, machine) = Some (manager.quiet ask, machine)

abbrev pub manager_turn : Call → Target → Option (ManagerStep × manager.Machine)
manager_turn (answers answer) target = let s = manager_step target answer in Some (s.0, s.1.0)
manager_turn (starts source orb) target = started (manager.start_step target.manager source orb)
manager_turn no_call target = None

-- the initiator of an operation
abbrev pub operator : Terms → Option Operation → ℕ
operator wire None = 4
operator wire (Some operation) = initiator_with wire operation.source

-- what it asks for: two quadlet reads of an EUI-64, and else blocks
abbrev pub body_for : Ask → manager.Machine → Option Body
body_for Nothing machine = None
body_for (Read offset len) machine = Some (if len == 4 then quadlet_read offset else block_read offset len)
body_for (Write offset len) machine = Some (block_write offset machine.outgoing)

-- the words of functions
abbrev pub word_by : Option Function → FunctionWord
word_by None = functions.Other
word_by (Some kinds.Login) = functions.Login
word_by (Some kinds.Query) = functions.Query
word_by (Some kinds.Reconnect) = functions.Reconnect
word_by (Some kinds.Logout) = functions.Logout
word_by (Some kinds.Abort) = functions.Abort
word_by (Some kinds.AbortSet) = functions.AbortSet
word_by (Some kinds.UnitReset) = functions.UnitReset
word_by (Some kinds.TargetReset) = functions.TargetReset

abbrev pub login_if : FunctionWord → (status login : ℕ) → Option ℕ
login_if functions.Login status login = if status == 0 then Some login else None
login_if word status login = None

abbrev pub decided_note : (i : ℕ) → Option Decision → List Note
decided_note i None = []
decided_note i (Some decision) =
    notes.Managed i (word_by (function_of decision.function)) decision.subject decision.status (login_if (word_by (function_of decision.function)) decision.status decision.login) ∷ []

-- `mgmtfail`: a reply failed the operation, or its request finds no label
abbrev pub failed_note : (i : ℕ) → Option FailCause → List Note
failed_note i None = []
failed_note i (Some cause) = notes.ManageFailed i cause ∷ []

abbrev pub fails_unsent : (Body → Bool) → Option Body → Option FailCause
fails_unsent finds None = None
fails_unsent finds (Some body) = if finds body then None else Some causes.Label

abbrev pub failure_of : Option FailCause → Option FailCause → Option FailCause
failure_of (Some cause) unsent = Some cause
failure_of None unsent = unsent

-- the units, by rising number
abbrev pub cleared_from : ℕ → List (List ℕ) → List Note
cleared_from unit [] = []
cleared_from unit (key ∷ keys) = notes.Cleared unit ∷ cleared_from (unit + 1) keys

abbrev pub cleared_by : Target → Effect → List Note
cleared_by target (effects.UnitReset unit) = notes.Cleared unit ∷ []
cleared_by target effects.TargetReset = cleared_from 0 target.keys
cleared_by target _ = []

-- the logins that come back or leave
abbrev pub left_note : Option ℕ → List Note
left_note None = []
left_note (Some id) = notes.Left id ∷ []

abbrev pub back_note : Option ℕ → List Note
back_note None = []
back_note (Some id) = notes.Back id ∷ []

abbrev pub moved_logins : Target → Effect → List Note
moved_logins target (effects.Entered place replaced) = left_note replaced
moved_logins target (effects.Back place) = back_note (id_of (login_at target place))
moved_logins target (effects.Left place) = left_note (id_of (login_at target place))
moved_logins target _ = []

-- the write of MANAGEMENT_AGENT that the target took last: the one that its latest operation began with
abbrev pub begins_with : Call → Target → Bool
begins_with (starts source orb) target = not (is_none (manager_turn (starts source orb) target))
begins_with (answers answer) target = false
begins_with no_call target = false

abbrev pub began_with : List Disk → List Moment → ℕ
began_with start [] = 0
began_with start (said (notes.Got serial) ∷ past) =
    if begins_with (call_by (said (notes.Got serial)) (target_at start past) (terms past)) (target_at start past) then serial else began_with start past
began_with start (_ ∷ past) = began_with start past

-- ---- the notes of the kinds in a turn
abbrev pub call_of : Target → Turn → Call
call_of target t = call_by t.start target (wire_before t)

abbrev pub effect_in : Option (ManagerStep × manager.Machine) → Effect
effect_in None = effects.Nothing
effect_in (Some s) = s.0.effect

abbrev pub effect_of : Target → Turn → Effect
effect_of target t = effect_in (manager_turn (call_of target t) target)

-- the target sees a reset that is new to it
abbrev pub sees_reset : Moment → Terms → Bool
sees_reset (said (notes.Seen node generation)) wire = (node == 0) && not (generation == wire.generation 0)
sees_reset moment wire = false

abbrev pub cuts_by_event : List Disk → Event → List Moment → Terms → Target → List Note
cuts_by_event start (writes agent_reset place access) past wire target = cut_note start past wire target cuts.AgentReset place
cuts_by_event start event past wire target = []

abbrev pub cuts_due : List Disk → Target → Turn → List Note
cuts_due start target t =
    if sees_reset t.start (wire_before t) then cuts_where start t.past (wire_before t) target cuts.Reset (λ place. true)
    else cuts_by_event start (agent_event start t) t.past (wire_before t) target ++ cuts_by_effect start t.past (wire_before t) target (effect_of target t)

abbrev pub cleared_due : Target → Turn → List Note
cleared_due target t = cleared_by target (effect_of target t)

-- `held` for each live login at a reset, `expired` for each held one whose seconds are over, by rising place
abbrev pub held_notes : List ℕ → List Note
held_notes ids = map (λ id. notes.Held id) ids

abbrev pub expired_notes : List ℕ → List Note
expired_notes ids = map (λ id. notes.Expired id) ids

abbrev pub logins_due : Moment → Terms → Target → Effect → List Note
logins_due (said (notes.Seen node generation)) wire target effect =
    if sees_reset (said (notes.Seen node generation)) wire then held_notes (live_ids target.table.places) else []
logins_due (said notes.Tick) wire target effect = expired_notes (expired_ids target.table.places)
logins_due moment wire target effect = moved_logins target effect

abbrev pub decided_in : (i : ℕ) → Option (ManagerStep × manager.Machine) → List Note
decided_in i None = []
decided_in i (Some s) = decided_note i s.0.decided

abbrev pub operator_for : Call → Terms → Target → ℕ
operator_for (starts source orb) wire target = initiator_with wire source
operator_for call wire target = operator wire target.manager.operation

abbrev pub operator_of : Target → Turn → ℕ
operator_of target t = operator_for (call_of target t) (wire_before t) target

abbrev pub decisions_due : Target → Turn → List Note
decisions_due target t = decided_in (operator_of target t) (manager_turn (call_of target t) target)

abbrev pub failed_in : (i : ℕ) → (Body → Bool) → Option (ManagerStep × manager.Machine) → List Note
failed_in i finds None = []
failed_in i finds (Some s) = failed_note i (failure_of s.0.failed (fails_unsent finds (body_for s.0.ask s.1)))

abbrev pub failures_due : Target → Turn → List Note
failures_due target t =
    failed_in (operator_of target t) (finds_label (wire_after t) 0 (suc (operator_of target t))) (manager_turn (call_of target t) target)

-- the request of the operation
abbrev pub sent_in : (i : ℕ) → (Body → Bool) → Option (ManagerStep × manager.Machine) → List Request
sent_in i finds None = []
sent_in i finds (Some s) = requests_to (suc i) (found (body_for s.0.ask s.1))
  where
    found : Option Body → Option Body
    found None = None
    found (Some body) = if finds body then Some body else None

abbrev pub manager_requests : Target → Turn → List Request
manager_requests target t =
    sent_in (operator_of target t) (finds_label (wire_after t) 0 (suc (operator_of target t))) (manager_turn (call_of target t) target)
