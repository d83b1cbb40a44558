-- What a call of an initiator does, taken apart into steps of its parts.
use Rattle.std.specs.Prelude.{◌≡◌, ◌<◌, ◌≤◌, ℕ, Bool, true, false, List, [], ◌∷◌, ◌++◌, slice_set, Option, Some, None}
use Rattle.async_packet.specs.Labels.{LabelParts}
use Rattle.async_packet.specs.Packet.{Packet, header_in}
use Rattle.label_table.specs.declared.judgement.Asked.{Asked}
use Rattle.label_table.specs.Bodies.{Body}
use Rattle.label_table.specs.Layer.{Layer, answering_step, asking_step, expiring_step, judging_step, seeing_step}
use Rattle.orb_layout.specs.declared.management.ManagementOrb.{ManagementOrb}
use Rattle.orb_list.specs.Runs as slot_runs
use Rattle.orb_list.specs.Runs.{left_by}
use Rattle.orb_list.specs.Kept.{IsProper}
use Rattle.sbp_session.specs.Moves.{Event, reset, goes}
use Rattle.sbp_journal.specs.declared.note.Note.{Note}
use Rattle.sbp_journal.specs.declared.outbox.Outgoing.{Outgoing}
use Rattle.sbp_journal.specs.Outgoings.{OutboxState}
use Rattle.orb_list.specs.declared.answer.AnswerPlan.{AnswerPlan}
use Rattle.sbp_initiator.specs.declared.purpose.Purpose.{Purpose}
use Rattle.sbp_initiator.specs.declared.purpose.Running.{Running}
use Rattle.sbp_initiator.specs.declared.purpose.ListMarks.{ListMarks}
use Rattle.sbp_initiator.specs.declared.state.Counts.{Counts}
use Rattle.sbp_initiator.specs.declared.state.InitiatorState.{InitiatorState}
use Rattle.orb_list.specs.Lists.{ListState, manage_lists, with_parts}
use Rattle.sbp_initiator.specs.Effects.{Turn, told, with_packet}

-- an outbox, an initiator, and the requests that found a label and are not handed out yet
pub record Stage : Type 0 where
  pub outbox : OutboxState
  pub state : InitiatorState
  pub asked : List Outgoing

abbrev pub stage : List Outgoing → OutboxState → InitiatorState → Stage
stage asked o s = record { outbox = o; state = s; asked = asked }

abbrev pub staged : List Outgoing → Turn → Stage
staged asked turn = stage asked turn.0 turn.1

abbrev pub with_state : Stage → InitiatorState → Stage
with_state x s = record x { state = s }

-- changes of the slots and their memory: a call of theirs, or a management ORB in its place; and a slot's plan
pub data Change : Type 0 where
  by_call : slot_runs.Call → Change
  by_orb : (place : ℕ) → ManagementOrb → Change
  by_plan : (slot : ℕ) → AnswerPlan → Change

abbrev pub changed : Change → ListState → ListState
changed (by_call call) lists = with_parts lists (left_by call lists.slots lists.memory)
changed (by_orb place orb) lists = manage_lists lists place orb
changed (by_plan slot plan) lists = record lists { answers = slice_set lists.answers slot plan }

abbrev pub IsFit : Change → Type 0
IsFit (by_call call) = IsProper call
IsFit (by_orb place orb) = place < 2
IsFit (by_plan slot plan) = Unit {0}

abbrev pub is_reset : Event → Bool
is_reset reset = true
is_reset _ = false

-- no count falls
pub record Grow (old new : Counts) : Type 0 where
  pub managed : old.managed ≤ new.managed
  pub logins : old.logins ≤ new.logins
  pub running : old.running ≤ new.running
  pub calls : old.calls ≤ new.calls
  pub acts : old.acts ≤ new.acts

-- the request that a packet carries to the target
abbrev pub outgoing : ℕ → Asked → Outgoing
outgoing target asked = record { to = target; label = Some asked.label; bytes = asked.bytes }

-- the response to a request
abbrev pub response : Packet → List ℕ → Outgoing
response p bytes = record { to = (header_in p).source; label = None; bytes = bytes }

abbrev pub with_layer : InitiatorState → Layer Purpose → InitiatorState
with_layer s layer = record s { layer = layer }

abbrev pub answered_with : Packet → Stage → List ℕ × Layer Purpose → Stage
answered_with p x given =
    record { outbox = with_packet x.outbox (response p given.0); state = with_layer x.state given.1; asked = x.asked }

-- One step. A reset moves the session only where the call may see one.
pub data Move (may_reset : Bool) : Stage → Stage → Type 0 where
  tells : (x : Stage) (note : Note) → Move may_reset x (record x { outbox = told x.outbox note })
  sits : (x : Stage) (event : Event) → is_reset event ≡ false → Move may_reset x (with_state x (record x.state { seat = goes event x.state.seat }))
  resets : (x : Stage) → may_reset ≡ true → Move may_reset x (with_state x (record x.state { seat = goes reset x.state.seat }))
  relists : (x : Stage) (change : Change) → IsFit change → Move may_reset x (with_state x (record x.state { lists = changed change x.state.lists }))
  marks_as : (x : Stage) (known : ListMarks) → Move may_reset x (with_state x (record x.state { marks = known }))
  works_at : (x : Stage) (operation : Option Running) → Move may_reset x (with_state x (record x.state { operation = operation }))
  reads_on : (x : Stage) (states : List ℕ) → Move may_reset x (with_state x (record x.state { states = states }))
  holds : (x : Stage) (read : List ℕ) → Move may_reset x (with_state x (record x.state { quads = read }))
  learns : (x : Stage) (management : Option ℕ) → Move may_reset x (with_state x (record x.state { management = management }))
  turns_to : (x : Stage) (target : ℕ) → Move may_reset x (with_state x (record x.state { target = target }))
  counts_up : (x : Stage) (new : Counts) → Grow x.state.counts new → Move may_reset x (with_state x (record x.state { counts = new }))
  judges : (x : Stage) (generation : ℕ) (bytes : List ℕ) → Move may_reset x (with_state x (with_layer x.state (judging_step x.state.layer generation bytes).1))
  answers : (o : OutboxState) (s : InitiatorState) (p : Packet) (bytes : List ℕ) (rcode : ℕ) (given : List ℕ) → Move may_reset (stage [] o s) (answered_with p (stage [] o s) (answering_step s.layer p bytes rcode given))
  asks : (x : Stage) (peer : ℕ) (body : Body) (purpose : Purpose) (asked : Asked) (layer : Layer Purpose) → asking_step x.state.layer peer body purpose ≡ (Some asked, layer) → Move may_reset x (record { outbox = x.outbox; state = with_layer x.state layer; asked = x.asked ++ outgoing peer asked ∷ [] })
  fails : (x : Stage) (peer : ℕ) (body : Body) (purpose : Purpose) (layer : Layer Purpose) → asking_step x.state.layer peer body purpose ≡ (None, layer) → Move may_reset x (with_state x (with_layer x.state layer))
  sends : (o : OutboxState) (s : InitiatorState) (packet : Outgoing) (asked : List Outgoing) → Move may_reset (stage (packet ∷ asked) o s) (stage asked (with_packet o packet) s)
  expires : (x : Stage) (peer : ℕ) (label : LabelParts) → Move may_reset x (with_state x (with_layer x.state (expiring_step x.state.layer peer label).1))
  sees : (x : Stage) (generation node : ℕ) → Move may_reset x (with_state x (with_layer x.state (seeing_step x.state.layer generation node).1))

pub data Moves (may_reset : Bool) : Stage → Stage → Type 0 where
  stay : (x : Stage) → Moves may_reset x x
  go_on : (x y z : Stage) → Moves may_reset x y → Move may_reset y z → Moves may_reset x z
