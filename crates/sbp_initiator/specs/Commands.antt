-- The lists of an initiator, by the commands of a script.
use Rattle.std.specs.Prelude.{ℕ, if◌then◌else◌, Option, Result}
use Rattle.bus_memory.specs.Memory.{Memory}
use Rattle.orb_list.specs.declared.answer.AnswerPlan.{AnswerPlan}
use Rattle.orb_list.specs.declared.fault.ListFault.{ListFault}
use Rattle.orb_list.specs.Lists.{ListState, planned_as}
use Rattle.orb_list.specs.Tickets.{TicketParts}
use Rattle.orb_list.specs.Requests.{Asked, IsRequest}
use Rattle.orb_list.specs.Table.{SlotTable, prepare_step}
use Rattle.sbp_journal.specs.declared.event.Cmd.{Cmd}

abbrev pub asked_by : Cmd → ℕ → ℕ → Asked
asked_by cmd node login = record {
  cdb = cmd.cdb;
  to_initiator = cmd.to_initiator;
  length = cmd.length;
  payload = cmd.payload;
  segments = cmd.segments;
  max_payload = cmd.max_payload;
  node = node;
  login = login;
}

-- the lengths of a command are those of a CMD
abbrev pub IsCommand : Cmd → Type 0
IsCommand cmd = (node login : ℕ) → IsRequest (asked_by cmd node login)

-- the bytes that a good status of the command brings: those of its buffer, where this goes to the initiator
abbrev pub plan_of : Cmd → AnswerPlan
plan_of cmd = record { count = if cmd.to_initiator then cmd.length else 0; segments = cmd.segments }

abbrev pub prepared_as : Result TicketParts ListFault × (SlotTable × Memory) → ListState → Cmd → Option TicketParts × ListState
prepared_as result lists cmd = planned_as result lists (plan_of cmd)

unfoldable pub put_lists : ListState → Cmd → ℕ → ℕ → Option TicketParts × ListState
put_lists lists cmd node login =
    prepared_as (prepare_step lists.slots lists.memory (asked_by cmd node login)) lists cmd
