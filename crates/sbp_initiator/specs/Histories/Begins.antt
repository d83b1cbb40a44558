-- What an action that is done begins and tells (NCITS 325-1998, tasks and task management). One that is an operation is done only while
-- none is under way, and is under way then; any other leaves the operation under way as it was. It tells of the steps of its list alone.
use Rattle.std.specs.Prelude.{◌≡◌, Bool, true, false, List, [], ◌∷◌, ◌++◌, Option, Some, None}
use Rattle.sbp_journal.specs.declared.event.Action.{Action}
use Rattle.sbp_journal.specs.declared.note.Note.{Note}
use Rattle.sbp_journal.specs.declared.operation.Operation.{Operation}
use Rattle.sbp_journal.specs.Outgoings.{OutboxState}
use Rattle.sbp_initiator.specs.declared.purpose.Running.{Running}
use Rattle.sbp_initiator.specs.declared.state.InitiatorState.{InitiatorState}
use Rattle.sbp_initiator.specs.Refusals.{operation_of}
use Rattle.sbp_initiator.specs.Effects.{Turn}
use Rattle.sbp_initiator.specs.Steps.{is_step}
use Rattle.sbp_initiator.specs.Histories.Ends.{own, is_managed}

-- the notes of the steps of a list alone
abbrev pub AreSteps : List Note → Type 0
AreSteps [] = Unit {0}
AreSteps (note ∷ ns) = (is_step note ≡ true) × AreSteps ns

-- what an operation that begins is: which one, of which action, and with which management ORB, where it has one
abbrev pub begun_as : Bool → Operation → InitiatorState → Running
begun_as true operation s = record { operation = operation; act = s.counts.acts; managed = Some s.counts.managed }
begun_as false operation s = record { operation = operation; act = s.counts.acts; managed = None }

-- the operation under way after an action: the one that it begins, or the one before
abbrev pub after_by : Option Operation → InitiatorState → Option Running
after_by None s = s.operation
after_by (Some operation) s = Some (begun_as (is_managed operation) operation s)

abbrev pub IsFree : Option Operation → InitiatorState → Type 0
IsFree None s = Unit {0}
IsFree (Some operation) s = s.operation ≡ None

-- what an action that is done tells and begins
pub record Begins (action : Action) (o : OutboxState) (s : InitiatorState) (t : Turn) : Type 0 where
  pub news : List Note
  pub sides : t.0.sides ≡ o.sides ++ own news
  pub steps : AreSteps news
  pub free : IsFree (operation_of action) s
  pub operation : t.1.operation ≡ after_by (operation_of action) s
