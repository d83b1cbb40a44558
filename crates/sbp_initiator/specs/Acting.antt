-- What an action does (NCITS 325-1998, lists of ORBs, operations and sessions): it is refused, or done, and then its one request
-- is sent.
use Rattle.std.specs.Prelude.{◌≡◌, ℕ, ◌+◌, ◌*◌, ◌^◌, ◌<◌, ◌==◌, is_some, unwrap_or, Bool, true, false, if◌then◌else◌, List, [], ◌∷◌, ◌++◌, Option, Some, None, Result, Ok, Err}
use Rattle.sbp_base.specs.Quadlets.{quad}
use Rattle.label_table.specs.declared.judgement.Asked.{Asked}
use Rattle.label_table.specs.Layer.{Layer, asking_step}
use Rattle.bus_memory.specs.declared.window.Window.TheVariants as windows
use Rattle.bus_memory.specs.Windows.{start}
use Rattle.orb_layout.specs.declared.management.ManagementOrb.{ManagementOrb}
use Rattle.orb_list.specs.declared.list.PresentList.{PresentList}
use Rattle.orb_list.specs.Tickets.{TicketParts}
use Rattle.orb_list.specs.Table.{find_in, is_mid_link, list_number, lowest, waits_high, waits_low}
use Rattle.sbp_session.specs.Moves.{goes, pointing, sent}
use Rattle.sbp_journal.specs.declared.event.Action.{Action}
use Rattle.sbp_journal.specs.declared.event.Action.TheVariants as actions
use Rattle.sbp_journal.specs.declared.event.Cmd.{Cmd}
use Rattle.sbp_journal.specs.declared.note.Note.TheVariants as notes
use Rattle.sbp_journal.specs.declared.operation.Operation.{Operation}
use Rattle.sbp_journal.specs.declared.operation.Operation.TheVariants as operations
use Rattle.sbp_journal.specs.Outgoings.{OutboxState}
use Rattle.sbp_journal.specs.Buffers.{buffer_of}
use Rattle.sbp_initiator.specs.Refusals.{ActionFacts, refusal}
use Rattle.sbp_initiator.specs.declared.fault.ActFault.{ActFault}
use Rattle.sbp_initiator.specs.declared.fault.ActFault.TheVariants as faults
use Rattle.sbp_initiator.specs.declared.purpose.Purpose.{Purpose}
use Rattle.sbp_initiator.specs.declared.purpose.Purpose.TheVariants as purposes
use Rattle.sbp_initiator.specs.declared.purpose.Wanted.TheVariants as wants
use Rattle.sbp_initiator.specs.declared.purpose.Demand.{Demand}
use Rattle.sbp_initiator.specs.declared.purpose.Pointing.TheVariants as pointings
use Rattle.sbp_initiator.specs.declared.state.InitiatorState.{InitiatorState}
use Rattle.orb_list.specs.Lists.{ListState, dummy_lists, high_lists, low_lists, manage_lists, pin_lists}
use Rattle.sbp_initiator.specs.Commands.{IsCommand, put_lists}
use Rattle.sbp_initiator.specs.States.{is_answered, is_unwritten, last_linked, no_marks, operation_in, place_of, session_of, wanted_body}
use Rattle.initiator_base.specs.Places.{behind_by, login_fifo, place_fifo}
use Rattle.sbp_session.specs.Seats.{points, response_in}
use Rattle.sbp_initiator.specs.Effects.{Turn, then_step, told, with_request}

-- The fields of an action are those of a line: a reconnect field of 4 bits, and the lengths of a command.
abbrev pub IsAction : Action → Type 0
IsAction (actions.Login unit reconnect exclusive password) = reconnect < 2 ^ 4
IsAction (actions.Put cmd) = IsCommand cmd
IsAction (actions.Append cmd) = IsCommand cmd
IsAction _ = Unit {0}

-- ---- what an action is judged by

-- the ORB that an action names
abbrev pub orb_named : Action → ℕ
orb_named (actions.Abort orb) = orb
orb_named (actions.Dummy orb) = orb
orb_named _ = 0

abbrev pub facts_with : Bool → InitiatorState → Action → ActionFacts
facts_with has_label s action = record {
  session = session_of s.seat;
  has_rom = is_some s.management;
  under_way = operation_in s.operation;
  is_pointing = points s.seat;
  is_mid_link = is_mid_link s.lists.slots.present;
  has_low = is_some (waits_low s.lists.slots.present);
  has_high = is_some (waits_high s.lists.slots.present);
  has_list = is_some s.lists.slots.present;
  is_dead = s.marks.is_dead;
  orb_waits = is_some (find_in s.lists.slots.slots (orb_named action));
  has_slot = is_some (lowest s.lists.slots.slots);
  has_label = has_label;
}

-- ---- the request of an action

-- a register of the login's agent
abbrev pub register_of : InitiatorState → ℕ → ℕ
register_of s distance = behind_by (response_in s.seat).agent distance

-- the slot of the first ORB of the list: of the present one, or of the one that begins with the next ORB
abbrev pub first_in : Option PresentList → InitiatorState → ℕ
first_in None s = unwrap_or (lowest s.lists.slots.slots) 0
first_in (Some list) s = s.marks.first

-- ORB_POINTER is written with the first ORB of a list, and then DOORBELL with the running number.
abbrev pub ring_demand : InitiatorState → Demand
ring_demand s =
    if is_unwritten s.marks.pointing
    then record {
      wanted = wants.Point (register_of s 0x08) (start (windows.Orb (first_in s.lists.slots.present s)));
      purpose = purposes.Pointer (list_number s.lists.slots.present s.lists.slots.lists);
    }
    else record { wanted = wants.Write (register_of s 0x10) s.counts.running; purpose = purposes.Doorbell }

-- MANAGEMENT_AGENT is written with the address of the ORB in the next place.
abbrev pub manage_demand : InitiatorState → Demand
manage_demand s = record {
  wanted = wants.Point (unwrap_or s.management 0) (start (windows.Management (place_of s.counts.managed)));
  purpose = purposes.Management s.counts.acts;
}

-- the list that a read of AGENT_STATE counts for: the present one, where its ORB_POINTER was answered
abbrev pub counted_list : Option PresentList → InitiatorState → Option ℕ
counted_list None s = None
counted_list (Some list) s = if is_answered s.marks.pointing then Some list.tail.list else None

abbrev pub demand_of : Action → InitiatorState → Option Demand
demand_of actions.Rom s =
    Some (record { wanted = wants.Read 0xffff_f000_0400; purpose = purposes.Rom s.counts.acts })
demand_of (actions.Login unit reconnect exclusive password) s = Some (manage_demand s)
demand_of (actions.Query unit) s = Some (manage_demand s)
demand_of actions.Reconnect s = Some (manage_demand s)
demand_of actions.Logout s = Some (manage_demand s)
demand_of (actions.Abort orb) s = Some (manage_demand s)
demand_of actions.AbortSet s = Some (manage_demand s)
demand_of actions.UnitReset s = Some (manage_demand s)
demand_of actions.TargetReset s = Some (manage_demand s)
demand_of actions.AgentReset s =
    Some (record { wanted = wants.Write (register_of s 0x04) s.counts.running; purpose = purposes.AgentReset s.counts.acts })
demand_of actions.State s =
    Some (record { wanted = wants.Read (register_of s 0x00); purpose = purposes.State s.counts.acts (counted_list s.lists.slots.present s) })
demand_of (actions.Dummy orb) s = None
demand_of (actions.Put cmd) s = None
demand_of (actions.Append cmd) s = Some (ring_demand s)
demand_of actions.Low s = None
demand_of actions.Link s = None
demand_of actions.Ring s = Some (ring_demand s)
demand_of actions.Enable s =
    Some (record { wanted = wants.Write (register_of s 0x14) 1; purpose = purposes.Enable s.counts.acts })

abbrev pub asked_for : Demand → InitiatorState → Option Asked × Layer Purpose
asked_for demand s = asking_step s.layer s.target (wanted_body demand.wanted) demand.purpose

-- ---- management ORBs

-- an ORB of the next place, with a function and its unit number or login ID; every other field is zero
abbrev pub orb_for : InitiatorState → ℕ → ℕ → ManagementOrb
orb_for s function subject = record {
  first = 0;
  second = 0;
  notify = true;
  format = 0;
  exclusive = false;
  reconnect = 0;
  function = function;
  subject = subject;
  password_length = 0;
  response_length = 0;
  fifo = place_fifo (place_of s.counts.managed);
}

-- where its response goes
abbrev pub response_place : InitiatorState → ℕ
response_place s = start (windows.Response (place_of s.counts.managed))

abbrev pub address_of : Option TicketParts → ℕ
address_of None = 0
address_of (Some t) = start (windows.Orb t.slot)

abbrev pub login_id : InitiatorState → ℕ
login_id s = (response_in s.seat).login

abbrev pub login_orb : InitiatorState → ℕ → ℕ → Bool → List ℕ → ManagementOrb
login_orb s unit reconnect exclusive password = record (orb_for s 0x0 unit) {
  first = quad password 0 * 2 ^ 32 + quad password 4;
  second = response_place s;
  exclusive = exclusive;
  reconnect = reconnect;
  response_length = 16;
  fifo = login_fifo s.counts.logins;
}

abbrev pub orb_by : Action → InitiatorState → ManagementOrb
orb_by (actions.Login unit reconnect exclusive password) s = login_orb s unit reconnect exclusive password
orb_by (actions.Query unit) s = record (orb_for s 0x1 unit) { second = response_place s; response_length = 100 }
orb_by actions.Reconnect s = orb_for s 0x3 (login_id s)
orb_by actions.Logout s = orb_for s 0x7 (login_id s)
orb_by (actions.Abort orb) s = record (orb_for s 0xb (login_id s)) { first = address_of (find_in s.lists.slots.slots orb) }
orb_by actions.AbortSet s = orb_for s 0xc (login_id s)
orb_by actions.UnitReset s = orb_for s 0xe (login_id s)
orb_by actions.TargetReset s = orb_for s 0xf (login_id s)
orb_by _ s = orb_for s 0x0 0

-- ---- operations begin

abbrev pub begun : Operation → Option ℕ → InitiatorState → InitiatorState
begun operation managed s =
    record s { operation = Some (record { operation = operation; act = s.counts.acts; managed = managed }) }

-- the ORB stands in the next place, and turns it
abbrev pub managed_by : ManagementOrb → Operation → InitiatorState → InitiatorState
managed_by orb operation s =
    record (begun operation (Some s.counts.managed) s) {
      lists = manage_lists s.lists (place_of s.counts.managed) orb;
      counts = record s.counts { managed = s.counts.managed + 1 };
    }

abbrev pub with_sent : InitiatorState → InitiatorState
with_sent s = record s { seat = goes sent s.seat }

-- a login uses up its number
abbrev pub with_login : InitiatorState → InitiatorState
with_login s = record s { counts = record s.counts { logins = s.counts.logins + 1 } }

-- the running number is used up
abbrev pub with_running : InitiatorState → InitiatorState
with_running s = record s { counts = record s.counts { running = s.counts.running + 1 } }

-- an abort pins the slot of its ORB
abbrev pub pinned_for : Option TicketParts → InitiatorState → InitiatorState
pinned_for None s = s
pinned_for (Some t) s = record s { lists = pin_lists s.lists t }

abbrev pub with_pin : ℕ → InitiatorState → InitiatorState
with_pin orb s = pinned_for (find_in s.lists.slots.slots orb) s

-- ---- steps of a list

-- the first ORB of a list begins it
abbrev pub with_first : TicketParts → InitiatorState → InitiatorState
with_first t s = if t.number == 0 then record s { marks = record no_marks { first = t.slot } } else s

abbrev pub put_as : Option TicketParts × ListState → Cmd → OutboxState → InitiatorState → Turn
put_as (None, lists) cmd o s = (o, record s { lists = lists })
put_as (Some t, lists) cmd o s =
    (told o (notes.Append s.number t.list t.number cmd.cdb (buffer_of cmd)), with_first t (record s { lists = lists }))

abbrev pub put_step : Cmd → OutboxState → InitiatorState → Turn
put_step cmd o s = put_as (put_lists s.lists cmd s.layer.node (login_id s)) cmd o s

abbrev pub low_as : Option TicketParts × ListState → OutboxState → InitiatorState → Turn
low_as (None, lists) o s = (o, record s { lists = lists })
low_as (Some t, lists) o s = (told o (notes.Low s.number t.list t.number), record s { lists = lists })

abbrev pub low_step : OutboxState → InitiatorState → Turn
low_step o s = low_as (low_lists s.lists) o s

abbrev pub link_as : Option TicketParts × ListState → OutboxState → InitiatorState → Turn
link_as (None, lists) o s = (o, record s { lists = lists })
link_as (Some t, lists) o s = (told o (notes.Linked s.number t.list t.number), record s { lists = lists })

abbrev pub link_step : OutboxState → InitiatorState → Turn
link_step o s = link_as (high_lists s.lists) o s

-- what a ring leaves: ORB_POINTER is under way, or the running number is used up
abbrev pub with_ring : InitiatorState → InitiatorState
with_ring s =
    if is_unwritten s.marks.pointing
    then record s { marks = record s.marks { pointing = pointings.Written }; seat = goes pointing s.seat }
    else with_running s

abbrev pub ring_for : Option PresentList → OutboxState → InitiatorState → Turn
ring_for None o s = (o, s)
ring_for (Some list) o s = (told o (notes.Rung s.number list.tail.list (last_linked list)), with_ring s)

abbrev pub ring_step : OutboxState → InitiatorState → Turn
ring_step o s = ring_for s.lists.slots.present o s

-- put, low and link where the ORB has one before it, and ring, as one
abbrev pub append_step : Cmd → OutboxState → InitiatorState → Turn
append_step cmd o s = then_step ring_step (then_step link_step (then_step low_step (put_step cmd o s)))

abbrev pub dummy_for : Option TicketParts → OutboxState → InitiatorState → Turn
dummy_for None o s = (o, s)
dummy_for (Some t) o s =
    (told o (notes.Dummied s.number t.list t.number), record s { lists = dummy_lists s.lists t })

-- ---- an action is done

-- what a management operation leaves as it begins
abbrev pub manage_start : Action → InitiatorState → InitiatorState
manage_start (actions.Login unit reconnect exclusive password) s =
    with_sent (with_login (managed_by (login_orb s unit reconnect exclusive password) operations.Login s))
manage_start (actions.Query unit) s = managed_by (orb_by (actions.Query unit) s) operations.Query s
manage_start actions.Reconnect s = with_sent (managed_by (orb_by actions.Reconnect s) operations.Reconnect s)
manage_start actions.Logout s = with_sent (managed_by (orb_by actions.Logout s) operations.Logout s)
manage_start (actions.Abort orb) s = with_pin orb (managed_by (orb_by (actions.Abort orb) s) operations.Abort s)
manage_start actions.AbortSet s = managed_by (orb_by actions.AbortSet s) operations.AbortSet s
manage_start actions.UnitReset s = managed_by (orb_by actions.UnitReset s) operations.UnitReset s
manage_start actions.TargetReset s = managed_by (orb_by actions.TargetReset s) operations.TargetReset s
manage_start _ s = s

-- what the other operations and a read of AGENT_STATE leave as they begin
abbrev pub register_start : Action → InitiatorState → InitiatorState
register_start actions.Rom s = record (begun operations.Rom None s) { quads = [] }
register_start actions.AgentReset s = with_running (begun operations.AgentReset None s)
register_start actions.State s = record s { states = s.states ++ s.counts.acts ∷ [] }
register_start actions.Enable s = begun operations.Enable None s
register_start _ s = s

unfoldable pub done_step : Action → OutboxState → InitiatorState → Turn
done_step (actions.Put cmd) o s = put_step cmd o s
done_step (actions.Append cmd) o s = append_step cmd o s
done_step actions.Low o s = low_step o s
done_step actions.Link o s = link_step o s
done_step actions.Ring o s = ring_step o s
done_step (actions.Dummy orb) o s = dummy_for (find_in s.lists.slots.slots orb) o s
done_step actions.Rom o s = (o, register_start actions.Rom s)
done_step actions.AgentReset o s = (o, register_start actions.AgentReset s)
done_step actions.State o s = (o, register_start actions.State s)
done_step actions.Enable o s = (o, register_start actions.Enable s)
done_step action o s = (o, manage_start action s)

-- one more action, and one more call
abbrev pub counted : InitiatorState → InitiatorState
counted s = record s { counts = record s.counts { calls = s.counts.calls + 1; acts = s.counts.acts + 1 } }

-- ---- an action as a whole

abbrev pub done_as : Turn → Option ℕ × Turn
done_as turn = (None, (turn.0, counted turn.1))

abbrev pub sent_with : ℕ → Asked → Turn → Option ℕ × Turn
sent_with target asked turn = (None, (with_request turn.0 target asked, counted turn.1))

-- A request that finds no label is refused by the last row, and nothing is done.
abbrev pub asked_as : Option Asked × Layer Purpose → Action → OutboxState → InitiatorState → Option ℕ × Turn
asked_as (None, layer) action o s = (Some 10, (o, record s { layer = layer }))
asked_as (Some asked, layer) action o s = sent_with s.target asked (done_step action o (record s { layer = layer }))

abbrev pub demanded_as : Option Demand → Action → OutboxState → InitiatorState → Option ℕ × Turn
demanded_as None action o s = done_as (done_step action o s)
demanded_as (Some demand) action o s = asked_as (asked_for demand s) action o s

abbrev pub judged_as : Option ℕ → Action → OutboxState → InitiatorState → Option ℕ × Turn
judged_as (Some number) action o s = (Some number, (o, s))
judged_as None action o s = demanded_as (demand_of action s) action o s

-- An action: the number of its refusal, if it is refused, and what it leaves.
unfoldable pub act_step : Action → OutboxState → InitiatorState → Option ℕ × Turn
act_step action o s = judged_as (refusal action (facts_with true s action)) action o s

-- what a call answers and leaves, but where memory was wanting
abbrev pub HasActed : Result (Unit {0}) ActFault → Turn → Option ℕ × Turn → Type 0
HasActed (Ok done) left step = (None, left) ≡ step
HasActed (Err (faults.Refused number)) left step = (Some number, left) ≡ step
HasActed (Err faults.NoMemory) left step = Unit {0}
