-- What an initiator does when it sees a reset.
use Rattle.std.specs.Prelude.{ℕ, nat_lt, Bool, true, false, if◌then◌else◌, List, [], ◌∷◌, Option, Some, None}
use Rattle.label_table.specs.Layer.{Layer, seeing_step}
use Rattle.sbp_session.specs.Moves.{goes, reset}
use Rattle.sbp_journal.specs.declared.note.Note.TheVariants as notes
use Rattle.sbp_journal.specs.declared.operation.Operation.{Operation}
use Rattle.sbp_journal.specs.declared.operation.Operation.TheVariants as operations
use Rattle.sbp_journal.specs.declared.operation.OpWord.TheVariants as words
use Rattle.sbp_journal.specs.Outgoings.{OutboxState}
use Rattle.sbp_initiator.specs.declared.purpose.Purpose.{Purpose}
use Rattle.sbp_initiator.specs.declared.purpose.Running.{Running}
use Rattle.sbp_initiator.specs.declared.state.InitiatorState.{InitiatorState}
use Rattle.orb_list.specs.Lists.{free_lists}
use Rattle.sbp_initiator.specs.States.{no_marks}
use Rattle.sbp_initiator.specs.Effects.{Turn, drop_list_step, told}
use Rattle.sbp_initiator.specs.Receiving.{called}

abbrev pub reset_told : ℕ → Operation → OutboxState → OutboxState
reset_told number operation o = told o (notes.Op number operation words.Reset)

-- the reads of AGENT_STATE end
abbrev pub states_end : ℕ → List ℕ → OutboxState → OutboxState
states_end number [] o = o
states_end number (act ∷ acts) o = states_end number acts (reset_told number operations.State o)

-- The operation and the reads of AGENT_STATE end, in the order of the actions that began them.
abbrev pub all_end : ℕ → Running → List ℕ → OutboxState → OutboxState
all_end number running [] o = reset_told number running.operation o
all_end number running (act ∷ acts) o =
    if nat_lt running.act act
    then states_end number (act ∷ acts) (reset_told number running.operation o)
    else all_end number running acts (reset_told number operations.State o)

abbrev pub resets_told : ℕ → Option Running → List ℕ → OutboxState → OutboxState
resets_told number None acts o = states_end number acts o
resets_told number (Some running) acts o = all_end number running acts o

-- Every transaction is dropped, and nothing is under way; the session moves by its table.
abbrev pub interrupted : InitiatorState → ℕ → InitiatorState
interrupted s target =
    record (called s) { target = target; operation = None; states = []; seat = goes reset s.seat }

-- every slot is free
abbrev pub freed_step : Turn → Turn
freed_step turn = (turn.0, record turn.1 { lists = free_lists turn.1.lists; marks = no_marks })

abbrev pub reset_step : ℕ → OutboxState → InitiatorState → Turn
reset_step target o s =
    freed_step (drop_list_step (resets_told s.number s.operation s.states o) (interrupted s target))

-- A generation that is not new has no effect.
abbrev pub seen_as : Bool × Layer Purpose → ℕ → OutboxState → InitiatorState → Turn
seen_as (false, layer) target o s = (o, record s { layer = layer })
seen_as (true, layer) target o s = reset_step target o (record s { layer = layer })

unfoldable pub see_step : ℕ → ℕ → ℕ → OutboxState → InitiatorState → Turn
see_step generation id target o s = seen_as (seeing_step s.layer generation id) target o s
