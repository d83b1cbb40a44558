-- What an initiator's action asks for: why it is refused, the request that it sends, and its notes (NCITS 325-1998, login, task management
-- and agents).
use Rattle.std.specs.Prelude.{ℕ, zero, suc, ◌+◌, ◌-◌, ◌/◌, ◌%◌, ◌^◌, ◌==◌, ◌&&◌, ◌||◌, not, nat_lt, is_none, Bool, true, false, if◌then◌else◌, List, [], ◌∷◌, ◌++◌, take, Option, Some, None}
use Rattle.orb_layout.specs.Pointers.{quad_bytes}
use Rattle.bus_memory.specs.declared.window.Window.TheVariants as windows
use Rattle.bus_memory.specs.Windows.{start}
use Rattle.label_table.specs.Bodies.{Body, quadlet_write, block_write, quadlet_read}
use Rattle.sbp_journal.specs.Run.{Moment}
use Rattle.sbp_journal.specs.Addresses.{rom_base, Register, agent_state, agent_reset, orb_pointer, doorbell, unsolicited_enable, distance_of}
use Rattle.sbp_journal.specs.Rows.{Refusals, refusal_of}
use Rattle.sbp_journal.specs.Wire.{Terms, terms}
use Rattle.sbp_journal.specs.declared.event.Cmd.{Cmd}
use Rattle.sbp_journal.specs.declared.event.Action.{Action}
use Rattle.sbp_journal.specs.declared.event.Action.TheVariants as actions
use Rattle.sbp_journal.specs.declared.operation.Operation.{Operation}
use Rattle.sbp_journal.specs.declared.operation.Operation.TheVariants as operations
use Rattle.sbp_journal.specs.declared.note.NoteBuffer.{NoteBuffer}
use Rattle.sbp_journal.specs.declared.note.NoteBuffer.TheVariants.{Nothing, In, Out}
use Rattle.sbp_journal.specs.declared.note.Note.{Note}
use Rattle.sbp_journal.specs.declared.note.Note.TheVariants as notes
use Rattle.sbp_laws.specs.Terms.{lists, appends}
use Rattle.sbp_laws.specs.Packets.{finds_label, is_under_way}
use Rattle.sbp_laws.specs.Lists.{present_list, linked, lowered, slots, lowest_vacant, slot_at, waits_in}
use Rattle.sbp_laws.specs.Hosts.{Host, host_at, Session, out, live, held, is_stuck, Underway, operation_of}
use Rattle.sbp_laws.specs.Operations.{management_offset, ends_list}

-- ---- the ORB that an action prepares: the next one of the present list, or the first one of the next list
abbrev pub list_for : List Moment → ℕ → Option ℕ → ℕ
list_for past i (Some n) = n
list_for past i None = lists past i

abbrev pub new_list : List Moment → ℕ → ℕ
new_list past i = list_for past i (present_list past i)

abbrev pub new_number : List Moment → ℕ → ℕ
new_number past i = appends past i (new_list past i)

-- the slot of ORB 0 of the list, also where it is being prepared
abbrev pub first_slot : List Moment → ℕ → Option ℕ → ℕ
first_slot past i (Some n) = slot_at past i n 0
first_slot past i None = lowest_vacant (slots past i)

-- ---- the request
abbrev pub address_bytes : ℕ → List ℕ
address_bytes address = quad_bytes (address / 2 ^ 32 ∷ address % 2 ^ 32 ∷ [])

-- an agent's register, from the base that the login response gave
abbrev pub register_of : Host → Register → ℕ
register_of host name = (host.login.agent + distance_of name) % 2 ^ 48

abbrev pub ring_body : List Moment → ℕ → Host → Option ℕ → Body
ring_body past i host None = block_write (register_of host orb_pointer) (address_bytes (start (windows.Orb (first_slot past i (present_list past i)))))
ring_body past i host (Some serial) = quadlet_write (register_of host doorbell) host.running

abbrev pub management_body : Host → Body
management_body host = block_write (management_offset host.management) (address_bytes (start (windows.Management (host.writes % 2))))

-- the pointer write counts for the present list alone
abbrev pub pointer_for : Option ℕ → Host → Option ℕ
pointer_for None host = None
pointer_for (Some n) host = host.pointer

abbrev pub action_body : Action → List Moment → ℕ → Host → Option Body
action_body actions.Rom past i host = Some (quadlet_read rom_base)
action_body actions.AgentReset past i host = Some (quadlet_write (register_of host agent_reset) host.running)
action_body actions.Enable past i host = Some (quadlet_write (register_of host unsolicited_enable) 1)
action_body actions.State past i host = Some (quadlet_read (register_of host agent_state))
action_body actions.Ring past i host = Some (ring_body past i host (pointer_for (present_list past i) host))
action_body (actions.Append cmd) past i host = Some (ring_body past i host (pointer_for (present_list past i) host))
action_body (actions.Put cmd) past i host = None
action_body actions.Low past i host = None
action_body actions.Link past i host = None
action_body (actions.Dummy k) past i host = None
action_body action past i host = Some (management_body host)

-- ---- the refusals
-- the sessions in which an action may be: out, live or held for `rom` and `query`; out for `login`; held for `reconnect`; live for all others
abbrev pub is_right_state : Action → Session → Bool
is_right_state actions.Rom out = true
is_right_state actions.Rom live = true
is_right_state actions.Rom held = true
is_right_state (actions.Query unit) out = true
is_right_state (actions.Query unit) live = true
is_right_state (actions.Query unit) held = true
is_right_state (actions.Login unit reconnect exclusive password) out = true
is_right_state actions.Reconnect held = true
is_right_state actions.Rom session = false
is_right_state (actions.Query unit) session = false
is_right_state (actions.Login unit reconnect exclusive password) session = false
is_right_state actions.Reconnect session = false
is_right_state action live = true
is_right_state action session = false

abbrev pub needs_rom : Action → Bool
needs_rom (actions.Login unit reconnect exclusive password) = true
needs_rom (actions.Query unit) = true
needs_rom action = false

-- the operations that end the list, AGENT_RESET among them
abbrev pub cuts_list : Option Operation → Bool
cuts_list (Some operations.AgentReset) = true
cuts_list (Some operation) = ends_list operation
cuts_list None = false

abbrev pub running_operation : Option Underway → Option Operation
running_operation None = None
running_operation (Some underway) = Some underway.operation

abbrev pub is_list_step : Action → Bool
is_list_step (actions.Put cmd) = true
is_list_step (actions.Append cmd) = true
is_list_step actions.Low = true
is_list_step actions.Link = true
is_list_step actions.Ring = true
is_list_step (actions.Dummy k) = true
is_list_step action = false

abbrev pub is_pointing : Terms → Option ℕ → Bool
is_pointing wire None = false
is_pointing wire (Some serial) = is_under_way wire serial

abbrev pub is_waiting : Action → Terms → Host → Bool
is_waiting action wire host =
    (not (is_none (operation_of action)) && not (is_none host.operation))
    || (cuts_list (operation_of action) && is_pointing wire host.pointer)
    || (is_list_step action && cuts_list (running_operation host.operation))

-- a step that prepares an ORB
abbrev pub prepares : Action → Bool
prepares (actions.Put cmd) = true
prepares (actions.Append cmd) = true
prepares action = false

abbrev pub rings : Action → Bool
rings actions.Ring = true
rings action = false

-- the ORB prepared last is not linked; its low quadlet is not yet written, or is
abbrev pub is_mid_link : List Moment → ℕ → Option ℕ → Bool
is_mid_link past i None = false
is_mid_link past i (Some n) = nat_lt (linked past i n) (appends past i n)

abbrev pub is_lowered : List Moment → ℕ → Option ℕ → Bool
is_lowered past i None = false
is_lowered past i (Some n) = suc (lowered past i n) == appends past i n

abbrev pub waits_for_link : Action → List Moment → ℕ → Option ℕ → Bool
waits_for_link actions.Low past i present = is_mid_link past i present && not (is_lowered past i present)
waits_for_link actions.Link past i present = is_mid_link past i present && is_lowered past i present
waits_for_link action past i present = true

abbrev pub waits_of : List Moment → (i k : ℕ) → Option ℕ → Bool
waits_of past i k None = false
waits_of past i k (Some n) = waits_in past i n k

abbrev pub lacks_orb : Action → List Moment → ℕ → Option ℕ → Bool
lacks_orb actions.Ring past i present = is_none present
lacks_orb (actions.Abort k) past i present = not (waits_of past i k present)
lacks_orb (actions.Dummy k) past i present = not (waits_of past i k present)
lacks_orb action past i present = false

abbrev pub lacks_label : Terms → ℕ → Option Body → Bool
lacks_label wire i None = false
lacks_label wire i (Some body) = not (finds_label wire (suc i) 0 body)

abbrev pub refusals : List Moment → ℕ → Action → Host → Refusals
refusals past i action host = record {
  stuck = is_stuck host.session;
  wrong_state = not (is_right_state action host.session);
  no_rom = needs_rom action && is_none host.management;
  waiting = is_waiting action (terms past) host;
  mid_link = prepares action && is_mid_link past i (present_list past i);
  not_linking = not (waits_for_link action past i (present_list past i));
  dead_seen = (prepares action || rings action) && host.marked_dead;
  no_orb = lacks_orb action past i (present_list past i);
  no_slot = prepares action && (lowest_vacant (slots past i) == 32);
  no_label = lacks_label (terms past) i (action_body action past i host);
}

-- the least number of a refusal that holds
abbrev pub refusal_at : List Moment → ℕ → Action → Option ℕ
refusal_at past i action = refusal_of (refusals past i action (host_at past i))

-- ---- the notes
-- a buffer that is named has a byte; one to the target holds the command's data, as far as its length goes
abbrev pub in_buffer : ℕ → NoteBuffer
in_buffer len = if len == 0 then Nothing else In len

abbrev pub out_buffer : List ℕ → NoteBuffer
out_buffer [] = Nothing
out_buffer (byte ∷ bytes) = Out (byte ∷ bytes)

abbrev pub buffer_of : Cmd → NoteBuffer
buffer_of cmd = if cmd.to_initiator then in_buffer cmd.length else out_buffer (take cmd.length cmd.payload)

-- an ORB behind another one is linked to it
abbrev pub link_notes : (i n k : ℕ) → List Note
link_notes i n zero = []
link_notes i n (suc k) = notes.Low i n (suc k) ∷ notes.Linked i n (suc k) ∷ []

abbrev pub append_notes : (i n k : ℕ) → Cmd → List Note
append_notes i n k cmd = notes.Append i n k cmd.cdb (buffer_of cmd) ∷ link_notes i n k ++ notes.Rung i n k ∷ []

abbrev pub action_notes : Action → List Moment → ℕ → List Note
action_notes (actions.Put cmd) past i = notes.Append i (new_list past i) (new_number past i) cmd.cdb (buffer_of cmd) ∷ []
action_notes (actions.Append cmd) past i = append_notes i (new_list past i) (new_number past i) cmd
action_notes actions.Low past i = notes.Low i (new_list past i) (new_number past i - 1) ∷ []
action_notes actions.Link past i = notes.Linked i (new_list past i) (new_number past i - 1) ∷ []
action_notes actions.Ring past i = notes.Rung i (new_list past i) (linked past i (new_list past i) - 1) ∷ []
action_notes (actions.Dummy k) past i = notes.Dummied i (new_list past i) k ∷ []
action_notes action past i = []
