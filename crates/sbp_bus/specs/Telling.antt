-- The notes of what nodes tell. An ORB that the target names by its address has the name of the latest ORB that the initiator prepared in
-- the slot of that address: its ticket.
use Rattle.std.specs.Prelude.{ℕ, ◌-◌, ◌%◌, ◌==◌, if◌then◌else◌, List, Option, Some, None}
use Rattle.orb_layout.specs.declared.ask.FailCause.{FailCause}
use Rattle.orb_layout.specs.declared.status.StatusKind.{StatusKind}
use Rattle.orb_list.specs.Tickets.{TicketParts}
use Rattle.rbc_disk.specs.declared.command.Outcome.{Outcome}
use Rattle.sbp_journal.specs.declared.cause.CutCause.{CutCause}
use Rattle.sbp_journal.specs.declared.note.Note.{Note}
use Rattle.sbp_journal.specs.declared.note.Note.TheVariants as notes
use Rattle.sbp_journal.specs.declared.operation.FunctionWord.{FunctionWord}
use Rattle.sbp_journal.specs.declared.operation.FunctionWord.TheVariants as functions
use Rattle.sbp_journal.specs.declared.side.Side.{Side}
use Rattle.sbp_journal.specs.declared.side.Side.TheVariants as sides
use Rattle.sbp_bus.specs.declared.loads.ListLoad.{ListLoad}
use Rattle.sbp_bus.specs.declared.places.Holder.{Holder}
use Rattle.sbp_bus.specs.Buses.{BusState, with_note}
use Rattle.sbp_bus.specs.Generations.{GenerationsState, node_of}
use Rattle.sbp_bus.specs.Loads.{append_step, cut_step, drop_step, of_initiator, take_step}
use Rattle.sbp_bus.specs.Places.{back_step, enter_step, holder_at, holder_of, left_step, opened_step}
use Rattle.sbp_bus.specs.Words.{check_of, function_word, login_if}

-- the name of an ORB: its list, and its number in it
abbrev pub list_in : Option TicketParts → Option ℕ
list_in None = None
list_in (Some ticket) = Some ticket.list

abbrev pub orb_in : Option TicketParts → Option ℕ
orb_in None = None
orb_in (Some ticket) = Some ticket.number

abbrev pub initiator_by : Option ℕ → ℕ
initiator_by None = 0
initiator_by (Some node) = node - 1

-- the initiator of a node ID, as the target knows it
abbrev pub initiator_of : GenerationsState → ℕ → ℕ
initiator_of known node = initiator_by (node_of known 0 node)

-- What the notes of initiators say for the budget. An ORB that is appended counts so much.
abbrev pub counted : ℕ → Note → List ListLoad → List ListLoad
counted weight (notes.Append initiator list orb cdb buffer) loads = of_initiator initiator (append_step list orb weight) loads
counted weight (notes.Taken initiator list orb status answer) loads = of_initiator initiator (take_step orb) loads
counted weight (notes.Drop initiator list) loads = of_initiator initiator (drop_step list) loads
counted weight _ loads = loads

-- ---- the notes of an ORB and of a place that an initiator has

abbrev pub ran_note : Holder → Option TicketParts → List ℕ → List ℕ → Outcome → Note
ran_note holder ticket cdb payload outcome =
    notes.Ran holder.initiator (list_in ticket) (orb_in ticket) holder.unit cdb payload (check_of outcome)

abbrev pub ended_note : Holder → Option TicketParts → StatusKind → Note
ended_note holder ticket status = notes.Ended holder.initiator (list_in ticket) (orb_in ticket) status

abbrev pub dead_note : Holder → FailCause → Note
dead_note holder cause = notes.Dead holder.initiator holder.list cause

abbrev pub cut_note : Holder → CutCause → Note
cut_note holder cause = notes.Cut holder.initiator holder.list cause

-- the list that is open at a place is cut
abbrev pub cut_loads : Option ℕ → ℕ → List ListLoad → List ListLoad
cut_loads None initiator loads = loads
cut_loads (Some list) initiator loads = of_initiator initiator (cut_step list) loads

-- ---- decisions

abbrev pub managed_note : ℕ → ℕ → ℕ → ℕ → ℕ → Note
managed_note initiator function subject status login =
    notes.Managed initiator (function_word function) subject status (login_if (function_word function) status login)

-- What a decision at status 00 makes of the places.
abbrev pub managed_places : FunctionWord → ℕ → ℕ → ℕ → List (Option Holder) → List (Option Holder)
managed_places functions.Login subject login initiator places =
    enter_step (holder_of initiator (subject % 256) login) places
managed_places functions.Reconnect subject login initiator places = back_step subject initiator places
managed_places word subject login initiator places = places

abbrev pub decided_places : ℕ → FunctionWord → ℕ → ℕ → ℕ → List (Option Holder) → List (Option Holder)
decided_places status word subject login initiator places =
    if status == 0 then managed_places word subject login initiator places else places

-- ---- what a node tells

-- who has a place
abbrev pub holder : BusState → ℕ → Holder
holder b place = holder_at b.places place

abbrev pub told_own : ℕ → Note → BusState → BusState
told_own weight note b = with_note note (record b { loads = counted weight note b.loads })

-- The agent of a place was pointed to an ORB: its list is open there, and this gives no note.
abbrev pub opened : ℕ → Option TicketParts → BusState → BusState
opened place ticket b = record b { places = opened_step place (list_in ticket) b.places }

abbrev pub told_cut : ℕ → CutCause → BusState → BusState
told_cut place cause b =
    with_note (cut_note (holder b place) cause) (record b { loads = cut_loads (holder b place).list (holder b place).initiator b.loads })

abbrev pub told_managed : ℕ → ℕ → ℕ → ℕ → ℕ → BusState → BusState
told_managed node function subject status login b =
    let initiator = initiator_of b.generations node in
    with_note (managed_note initiator function subject status login)
    (record b { places = decided_places status (function_word function) subject login initiator b.places })

-- A login left its place.
abbrev pub told_left : ℕ → Note → BusState → BusState
told_left login note b = with_note note (record b { places = left_step login b.places })

-- What a node tells, as its note; an ORB that it names has this ticket.
abbrev pub told : ℕ → Option TicketParts → Side → BusState → BusState
told weight ticket (sides.Own note) b = told_own weight note b
told weight ticket (sides.Opened place orb) b = opened place ticket b
told weight ticket (sides.Ran place orb cdb payload outcome) b = with_note (ran_note (holder b place) ticket cdb payload outcome) b
told weight ticket (sides.Ended place orb status) b = with_note (ended_note (holder b place) ticket status) b
told weight ticket (sides.Dead place cause) b = with_note (dead_note (holder b place) cause) b
told weight ticket (sides.Cut place cause) b = told_cut place cause b
told weight ticket (sides.Managed node function subject status login) b = told_managed node function subject status login b
told weight ticket (sides.ManageFailed node cause) b = with_note (notes.ManageFailed (initiator_of b.generations node) cause) b
told weight ticket (sides.Held login) b = with_note (notes.Held login) b
told weight ticket (sides.Expired login) b = told_left login (notes.Expired login) b
told weight ticket (sides.Back login) b = with_note (notes.Back login) b
told weight ticket (sides.Left login) b = told_left login (notes.Left login) b
told weight ticket (sides.Cleared unit) b = with_note (notes.Cleared unit) b
told weight ticket (sides.Unsolicited place) b = with_note (notes.Unsolicited (holder b place).initiator) b
told weight ticket (sides.Unsent place) b = with_note (notes.Unsent (holder b place).initiator) b
