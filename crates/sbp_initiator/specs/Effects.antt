-- What the end of a transaction does to an initiator (NCITS 325-1998, sessions, operations and lists): its notes, and what it
-- leaves. Notes and packets go behind those in the outbox.
use Rattle.std.specs.Prelude.{◌≡◌, ◌≤◌, ℕ, ◌+◌, ◌*◌, ◌==◌, Bool, true, false, if◌then◌else◌, List, [], ◌∷◌, ◌++◌, length, Option, Some, None, Result, Ok, Err}
use Rattle.label_table.specs.declared.judgement.Asked.{Asked}
use Rattle.label_table.specs.Bodies.{Body, quadlet_read}
use Rattle.label_table.specs.Layer.{Layer, asking_step}
use Rattle.bus_memory.specs.Memory.{place_at}
use Rattle.config_rom.specs.declared.fault.RomFault.{RomFault}
use Rattle.config_rom.specs.declared.fault.RomFault.TheVariants as rom_faults
use Rattle.config_rom.specs.declared.unit.SbpUnit.{SbpUnit}
use Rattle.config_rom.specs.Reading.{Tree, reading}
use Rattle.config_rom.specs.Unit.{sbp_unit_of}
use Rattle.orb_layout.specs.LoginResponses.{login_response}
use Rattle.orb_layout.specs.QueryResponses.{query_count}
use Rattle.sbp_session.specs.Moves.{Event, entered, good, bad, conflict, pointed, failed, goes}
use Rattle.sbp_journal.specs.declared.note.Note.{Note}
use Rattle.sbp_journal.specs.declared.note.Note.TheVariants as notes
use Rattle.sbp_journal.specs.declared.operation.Operation.{Operation}
use Rattle.sbp_journal.specs.declared.operation.Operation.TheVariants as operations
use Rattle.sbp_journal.specs.declared.operation.OpWord.{OpWord}
use Rattle.sbp_journal.specs.declared.operation.OpWord.TheVariants as words
use Rattle.sbp_journal.specs.declared.outbox.Outgoing.{Outgoing}
use Rattle.sbp_journal.specs.declared.side.Side.TheVariants as sides
use Rattle.sbp_journal.specs.Outgoings.{OutboxState}
use Rattle.sbp_initiator.specs.Refusals.{ends_list}
use Rattle.sbp_initiator.specs.declared.purpose.Purpose.{Purpose}
use Rattle.sbp_initiator.specs.declared.purpose.Purpose.TheVariants as purposes
use Rattle.sbp_initiator.specs.declared.purpose.Ending.{Ending}
use Rattle.sbp_initiator.specs.declared.purpose.Ending.TheVariants as endings
use Rattle.sbp_initiator.specs.declared.purpose.Running.{Running}
use Rattle.sbp_initiator.specs.declared.purpose.Pointing.TheVariants as pointings
use Rattle.sbp_initiator.specs.declared.state.InitiatorState.{InitiatorState}
use Rattle.orb_list.specs.Lists.{ListState, drop_lists, unpin_lists}
use Rattle.initiator_base.specs.Quads.{with_quad, without}
use Rattle.sbp_initiator.specs.States.{counts_for, is_list, no_marks, place_in}
use Rattle.initiator_base.specs.Places.{behind_by, management_at}
use Rattle.sbp_session.specs.Seats.{is_stuck_seat}

-- what a call counts of its slots and its labels, at most, and that it leaves the other counts
pub record Keeps (slots labels : ℕ) (old new : InitiatorState) : Type 0 where
  pub counts : new.counts ≡ old.counts
  pub prepared : new.lists.slots.acts ≡ old.lists.slots.acts
  pub called : new.lists.slots.calls ≤ old.lists.slots.calls + slots
  pub labelled : new.layer.calls ≤ old.layer.calls + labels

-- an initiator and its outbox
abbrev pub Turn : Type 0
Turn = OutboxState × InitiatorState

-- ---- what is told and sent

abbrev pub with_packet : OutboxState → Outgoing → OutboxState
with_packet outbox packet = record outbox { packets = outbox.packets ++ packet ∷ [] }

abbrev pub told : OutboxState → Note → OutboxState
told outbox note = record outbox { sides = outbox.sides ++ sides.Own note ∷ [] }

-- a request goes to the target, with its label
abbrev pub with_request : OutboxState → ℕ → Asked → OutboxState
with_request outbox target asked =
    with_packet outbox (record { to = target; label = Some asked.label; bytes = asked.bytes })

-- ---- the session becomes Stuck, a list is dropped, an operation ends

-- A session that is Stuck stays so, without a second note.
abbrev pub stick_step : OutboxState → InitiatorState → Turn
stick_step o s =
    (if is_stuck_seat s.seat then o else told o (notes.Stuck s.number), record s { seat = goes failed s.seat })

abbrev pub dropped_as : Option ℕ × ListState → OutboxState → InitiatorState → Turn
dropped_as (None, lists) o s = (o, record s { lists = lists })
dropped_as (Some n, lists) o s = (told o (notes.Drop s.number n), record s { lists = lists; marks = no_marks })

abbrev pub drop_list_step : OutboxState → InitiatorState → Turn
drop_list_step o s = dropped_as (drop_lists s.lists) o s

-- The operation under way ends, and with it the pin of an abort.
abbrev pub end_step : Operation → OpWord → OutboxState → InitiatorState → Turn
end_step operation word o s =
    (told o (notes.Op s.number operation word), record s { operation = None; lists = unpin_lists s.lists })

-- It ends where an action began it.
abbrev pub end_own_for : Option Running → ℕ → OpWord → OutboxState → InitiatorState → Turn
end_own_for None act word o s = (o, s)
end_own_for (Some running) act word o s =
    if running.act == act then end_step running.operation word o s else (o, s)

abbrev pub end_own_step : ℕ → OpWord → OutboxState → InitiatorState → Turn
end_own_step act word o s = end_own_for s.operation act word o s

-- one step and then another
abbrev pub then_step : (OutboxState → InitiatorState → Turn) → Turn → Turn
then_step step turn = step turn.0 turn.1

-- ---- writes of registers

abbrev pub with_answered : InitiatorState → InitiatorState
with_answered s = record s { marks = record s.marks { pointing = pointings.Answered } }

-- ORB_POINTER was answered complete: by its own list that is known.
abbrev pub pointed_step : ℕ → InitiatorState → InitiatorState
pointed_step list s =
    let t = record s { seat = goes pointed s.seat } in if is_list s.lists.slots.present list then with_answered t else t

abbrev pub pointer_ended : ℕ → Ending → OutboxState → InitiatorState → Turn
pointer_ended list (endings.Complete value) o s = (o, pointed_step list s)
pointer_ended list (endings.Refused rcode) o s = stick_step o s
pointer_ended list endings.Expired o s = stick_step o s

abbrev pub doorbell_ended : Ending → OutboxState → InitiatorState → Turn
doorbell_ended (endings.Complete value) o s = (o, s)
doorbell_ended (endings.Refused rcode) o s = stick_step o s
doorbell_ended endings.Expired o s = stick_step o s

-- an operation whose write failed ends, and the session becomes Stuck
abbrev pub fail_step : ℕ → OutboxState → InitiatorState → Turn
fail_step act o s = then_step stick_step (end_own_step act words.Error o s)

abbrev pub reset_ended : ℕ → Ending → OutboxState → InitiatorState → Turn
reset_ended act (endings.Complete value) o s = then_step (end_own_step act words.Done) (drop_list_step o s)
reset_ended act (endings.Refused rcode) o s = fail_step act o s
reset_ended act endings.Expired o s = fail_step act o s

abbrev pub enable_ended : ℕ → Ending → OutboxState → InitiatorState → Turn
enable_ended act (endings.Complete value) o s = end_own_step act words.Done o s
enable_ended act (endings.Refused rcode) o s = fail_step act o s
enable_ended act endings.Expired o s = fail_step act o s

-- ---- management

-- the operations that move the session
abbrev pub moves_session : Operation → Bool
moves_session operations.Login = true
moves_session operations.Reconnect = true
moves_session operations.Logout = true
moves_session _ = false

abbrev pub moved : Operation → Event → InitiatorState → InitiatorState
moved operation event s = if moves_session operation then record s { seat = goes event s.seat } else s

-- MANAGEMENT_AGENT was answered conflict_error: the operation ends where it is under way, and nothing else changes.
abbrev pub conflict_for : Option Running → ℕ → OutboxState → InitiatorState → Turn
conflict_for None act o s = (o, s)
conflict_for (Some running) act o s =
    if running.act == act then end_step running.operation words.Conflict o (moved running.operation conflict s) else (o, s)

abbrev pub conflict_step : ℕ → OutboxState → InitiatorState → Turn
conflict_step act o s = conflict_for s.operation act o s

-- conflict_error
abbrev pub is_conflict : ℕ → Bool
is_conflict rcode = rcode == 4

-- The complete that answers the write ends nothing.
abbrev pub management_ended : ℕ → Ending → OutboxState → InitiatorState → Turn
management_ended act (endings.Complete value) o s = (o, s)
management_ended act (endings.Refused rcode) o s = if is_conflict rcode then conflict_step act o s else fail_step act o s
management_ended act endings.Expired o s = fail_step act o s

-- the response buffer of an operation
abbrev pub response_of : Running → InitiatorState → List ℕ
response_of running s = (place_at s.lists.memory (place_in running)).response

-- what a status of 00 does to the session
abbrev pub good_event : Operation → List ℕ → Event
good_event operations.Login response = entered (login_response response)
good_event _ response = good

abbrev pub good_word : Operation → List ℕ → OpWord
good_word operations.Query response = words.Count (query_count response)
good_word _ response = words.Done

abbrev pub drop_where : Bool → OutboxState → InitiatorState → Turn
drop_where true o s = drop_list_step o s
drop_where false o s = (o, s)

-- A management operation ends with status 00: its list is dropped where it ends lists, the session moves, and it is done.
abbrev pub good_end : Running → OutboxState → InitiatorState → Turn
good_end running o s =
    end_step running.operation (good_word running.operation (response_of running s)) o (moved running.operation (good_event running.operation (response_of running s)) s)

abbrev pub managed_step : Running → ℕ → OutboxState → InitiatorState → Turn
managed_step running status o s =
    if status == 0
    then then_step (good_end running) (drop_where (ends_list (Some running.operation)) o s)
    else end_step running.operation (words.Refused status) o (moved running.operation bad s)

-- ---- the target's ROM

-- the number of a fault
abbrev pub fault_number : RomFault → ℕ
fault_number (rom_faults.Short need) = 1
fault_number rom_faults.Name = 2
fault_number (rom_faults.Entry at) = 3
fault_number (rom_faults.Outside at) = 4
fault_number rom_faults.NoMemory = 0

abbrev pub with_unit : Option SbpUnit → ℕ → OutboxState → InitiatorState → Turn
with_unit None act o s = end_own_step act words.NoUnit o s
with_unit (Some unit) act o s =
    end_own_step act words.Done o (record s { management = Some (management_at unit.management) })

abbrev pub with_rom : Result Tree RomFault → ℕ → OutboxState → InitiatorState → Turn
with_rom (Ok tree) act o s = with_unit (sbp_unit_of tree.blocks tree.entries) act o s
with_rom (Err fault) act o s = end_own_step act (words.Bad (fault_number fault)) o s

-- The quadlets are read as a ROM. One with an SBP-2 unit tells where MANAGEMENT_AGENT stands.
abbrev pub finish_rom : ℕ → OutboxState → InitiatorState → Turn
finish_rom act o s = with_rom (reading s.quads) act o s

abbrev pub next_quad : List ℕ → Body
next_quad quads = quadlet_read (behind_by 0xffff_f000_0400 (4 * length quads))

-- The next quadlet is asked for. Its read takes the label that the one before left free; where it found none the
-- operation would end with an error.
abbrev pub asked_quad : Option Asked × Layer Purpose → ℕ → OutboxState → InitiatorState → Turn
asked_quad (Some asked, layer) act o s = (with_request o s.target asked, record s { layer = layer })
asked_quad (None, layer) act o s = end_own_step act words.Error o (record s { layer = layer })

abbrev pub ask_quad : ℕ → OutboxState → InitiatorState → Turn
ask_quad act o s = asked_quad (asking_step s.layer s.target (next_quad s.quads) (purposes.Rom act)) act o s

abbrev pub quad_got : ℕ → OutboxState → InitiatorState → Turn
quad_got act o s = if length s.quads == 256 then finish_rom act o s else ask_quad act o s

-- address_error
abbrev pub is_address : ℕ → Bool
is_address rcode = rcode == 7

abbrev pub rom_ended : ℕ → Ending → OutboxState → InitiatorState → Turn
rom_ended act (endings.Complete value) o s = quad_got act o (record s { quads = with_quad s.quads value })
rom_ended act (endings.Refused rcode) o s = if is_address rcode then finish_rom act o s else end_own_step act words.Error o s
rom_ended act endings.Expired o s = end_own_step act words.Error o s

-- ---- the state of the agent

abbrev pub with_dead : InitiatorState → InitiatorState
with_dead s = record s { marks = record s.marks { is_dead = true } }

-- What AGENT_STATE tells of the list that it was read for: 0, RESET, drops it, and 3, DEAD, marks it.
abbrev pub known_step : ℕ → OutboxState → InitiatorState → Turn
known_step value o s = if value == 0 then drop_list_step o s else (o, if value == 3 then with_dead s else s)

abbrev pub known_where : Bool → ℕ → OutboxState → InitiatorState → Turn
known_where true value o s = known_step value o s
known_where false value o s = (o, s)

abbrev pub state_told : ℕ → OpWord → OutboxState → InitiatorState → Turn
state_told act word o s =
    (told o (notes.Op s.number operations.State word), record s { states = without act s.states })

abbrev pub state_ended : ℕ → Option ℕ → Ending → OutboxState → InitiatorState → Turn
state_ended act list (endings.Complete value) o s =
    then_step (state_told act (words.State value)) (known_where (counts_for s.lists.slots.present list) value o s)
state_ended act list (endings.Refused rcode) o s = state_told act words.Error o s
state_ended act list endings.Expired o s = state_told act words.Error o s

-- ---- by what the transaction was for

unfoldable pub ended_step : Purpose → Ending → OutboxState → InitiatorState → Turn
ended_step (purposes.Pointer list) ending o s = pointer_ended list ending o s
ended_step purposes.Doorbell ending o s = doorbell_ended ending o s
ended_step (purposes.AgentReset act) ending o s = reset_ended act ending o s
ended_step (purposes.Enable act) ending o s = enable_ended act ending o s
ended_step (purposes.Management act) ending o s = management_ended act ending o s
ended_step (purposes.Rom act) ending o s = rom_ended act ending o s
ended_step (purposes.State act list) ending o s = state_ended act list ending o s

-- a transaction that is for nobody ends without more
abbrev pub ended_for : Option Purpose → Ending → OutboxState → InitiatorState → Turn
ended_for None ending o s = (o, s)
ended_for (Some purpose) ending o s = ended_step purpose ending o s
