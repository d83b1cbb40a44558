-- What stands against an action of an initiator, by what holds of it as it acts.
use Rattle.std.specs.Prelude.{ℕ, Bool, true, false, not, ◌&&◌, ◌||◌, is_some, [], ◌∷◌, Option, Some, None}
use Rattle.sbp_journal.specs.declared.event.Action.{Action}
use Rattle.sbp_journal.specs.declared.event.Action.TheVariants as actions
use Rattle.sbp_journal.specs.declared.operation.Operation.{Operation}
use Rattle.sbp_journal.specs.declared.operation.Operation.TheVariants as operations
use Rattle.sbp_journal.specs.Rows.{Refusals, first_row, refusal_of}

-- the states of a session, and that of one whose own write failed
pub data SessionState : Type 0 where
  is_out : SessionState
  is_entering : SessionState
  is_live : SessionState
  is_held : SessionState
  is_returning : SessionState
  is_leaving : SessionState
  is_stuck : SessionState

-- What an action is judged by: the session; whether a ROM with an SBP-2 unit was read; the operation under way; whether an
-- ORB_POINTER write is under way; whether a prepared ORB is not linked, and whether one waits for its low or its high quadlet;
-- whether there is a present list, and whether it is marked dead; whether the ORB that is named is one of it without a status;
-- whether a slot is free; and whether the request finds a label.
pub record ActionFacts : Type 0 where
  pub session : SessionState
  pub has_rom : Bool
  pub under_way : Option Operation
  pub is_pointing : Bool
  pub is_mid_link : Bool
  pub has_low : Bool
  pub has_high : Bool
  pub has_list : Bool
  pub is_dead : Bool
  pub orb_waits : Bool
  pub has_slot : Bool
  pub has_label : Bool

-- the operations: a read of AGENT_STATE is none
abbrev pub operation_of : Action → Option Operation
operation_of actions.Rom = Some operations.Rom
operation_of (actions.Login unit reconnect exclusive password) = Some operations.Login
operation_of (actions.Query unit) = Some operations.Query
operation_of actions.Reconnect = Some operations.Reconnect
operation_of actions.Logout = Some operations.Logout
operation_of (actions.Abort orb) = Some operations.Abort
operation_of actions.AbortSet = Some operations.AbortSet
operation_of actions.UnitReset = Some operations.UnitReset
operation_of actions.TargetReset = Some operations.TargetReset
operation_of actions.AgentReset = Some operations.AgentReset
operation_of actions.Enable = Some operations.Enable
operation_of _ = None

-- the operations whose good end drops the list
abbrev pub ends_list : Option Operation → Bool
ends_list (Some operations.Logout) = true
ends_list (Some operations.AbortSet) = true
ends_list (Some operations.UnitReset) = true
ends_list (Some operations.TargetReset) = true
ends_list (Some operations.AgentReset) = true
ends_list _ = false

-- the actions that prepare an ORB
abbrev pub prepares : Action → Bool
prepares (actions.Put cmd) = true
prepares (actions.Append cmd) = true
prepares _ = false

-- the actions that ring
abbrev pub rings : Action → Bool
rings (actions.Append cmd) = true
rings actions.Ring = true
rings _ = false

-- the steps of a list
abbrev pub is_list_step : Action → Bool
is_list_step (actions.Put cmd) = true
is_list_step (actions.Append cmd) = true
is_list_step actions.Low = true
is_list_step actions.Link = true
is_list_step actions.Ring = true
is_list_step (actions.Dummy orb) = true
is_list_step _ = false

-- the actions that send a request
abbrev pub sends : Action → Bool
sends (actions.Put cmd) = false
sends actions.Low = false
sends actions.Link = false
sends (actions.Dummy orb) = false
sends _ = true

-- the sessions in which a ROM may be read and logins be asked for
abbrev pub is_quiet : SessionState → Bool
is_quiet is_out = true
is_quiet is_live = true
is_quiet is_held = true
is_quiet _ = false

abbrev pub is_in_out : SessionState → Bool
is_in_out is_out = true
is_in_out _ = false

abbrev pub is_in_held : SessionState → Bool
is_in_held is_held = true
is_in_held _ = false

abbrev pub is_in_live : SessionState → Bool
is_in_live is_live = true
is_in_live _ = false

abbrev pub is_in_stuck : SessionState → Bool
is_in_stuck is_stuck = true
is_in_stuck _ = false

-- the sessions in which an action may be done
abbrev pub fits_session : Action → SessionState → Bool
fits_session actions.Rom session = is_quiet session
fits_session (actions.Query unit) session = is_quiet session
fits_session (actions.Login unit reconnect exclusive password) session = is_in_out session
fits_session actions.Reconnect session = is_in_held session
fits_session _ session = is_in_live session

-- a login and a query need the ROM
abbrev pub needs_rom : Action → Bool
needs_rom (actions.Login unit reconnect exclusive password) = true
needs_rom (actions.Query unit) = true
needs_rom _ = false

-- an operation waits for the one before it, and one that ends lists for an ORB_POINTER write; a step of a list waits for an
-- operation that ends lists
abbrev pub must_wait : Action → ActionFacts → Bool
must_wait action facts =
    (is_some (operation_of action) && is_some facts.under_way)
    || (ends_list (operation_of action) && facts.is_pointing)
    || (is_list_step action && ends_list facts.under_way)

abbrev pub lacks_link : Action → ActionFacts → Bool
lacks_link actions.Low facts = not facts.has_low
lacks_link actions.Link facts = not facts.has_high
lacks_link _ facts = false

abbrev pub lacks_orb : Action → ActionFacts → Bool
lacks_orb actions.Ring facts = not facts.has_list
lacks_orb (actions.Abort orb) facts = not facts.orb_waits
lacks_orb (actions.Dummy orb) facts = not facts.orb_waits
lacks_orb _ facts = false

-- what stands against an action, row by row
abbrev pub rows_of : Action → ActionFacts → Refusals
rows_of action facts = record {
  stuck = is_in_stuck facts.session;
  wrong_state = not (fits_session action facts.session);
  no_rom = needs_rom action && not facts.has_rom;
  waiting = must_wait action facts;
  mid_link = prepares action && facts.is_mid_link;
  not_linking = lacks_link action facts;
  dead_seen = (prepares action || rings action) && facts.is_dead;
  no_orb = lacks_orb action facts;
  no_slot = prepares action && not facts.has_slot;
  no_label = sends action && not facts.has_label;
}

-- the refusal of an action, where there is one
unfoldable pub refusal : Action → ActionFacts → Option ℕ
refusal action facts = refusal_of (rows_of action facts)

-- the same of the rows on lists and slots alone
abbrev pub list_refusal : Action → ActionFacts → Option ℕ
list_refusal action facts =
    first_row ((lacks_link action facts, 6)
    ∷ ((prepares action || rings action) && facts.is_dead, 7)
    ∷ (lacks_orb action facts, 8)
    ∷ (prepares action && not facts.has_slot, 9)
    ∷ [])
