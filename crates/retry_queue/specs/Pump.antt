-- What a pump does: the first row of a table whose condition holds. While the session is stuck or changes, or an operation is under way,
-- nothing; out of a session a login, of a held one a reconnect; where the present list is marked dead, the agent's reset; else the append
-- of the first submission without a status that is not in the present list, if there is one.
use Rattle.std.specs.Prelude.{ℕ, ◌+◌, Bool, true, false, is_none, not, replicate, List, Option, Some, None}
use Rattle.sbp_journal.specs.declared.event.Action.{Action}
use Rattle.sbp_journal.specs.declared.event.Action.TheVariants as actions
use Rattle.sbp_laws.specs.Hosts.{Host, Session, out, live, held, entering, returning, leaving, stuck, host_at}
use Rattle.sbp_laws.specs.Lists.{present_list}
use Rattle.sbp_laws.specs.Terms.{appends}
use Rattle.retry_queue.specs.Steps.{Step, Submission, command_for, world, write_at}
use Rattle.retry_queue.specs.Known.{Known, known}

-- the next submission for the present list: behind those that are in it, or, without a list, the first one without a status
abbrev pub next_by : Option ℕ → Known → (ℕ → ℕ) → ℕ
next_by None known appended = known.done
next_by (Some n) known appended = known.first n + appended n

abbrev pub next : List Step → ℕ
next past = next_by (present_list (world past) 0) (known past) (appends (world past) 0)

-- ---- the table, over what is known

abbrev pub append_of : Option Submission → Option Action
append_of None = None
append_of (Some write) = Some (actions.Append (command_for write))

-- in a session: whether the present list is marked dead, and the next submission for it
abbrev pub live_row : Bool → Option Submission → Option Action
live_row true write = Some actions.AgentReset
live_row false write = append_of write

abbrev pub session_row : Session → Bool → Option Submission → Option Action
session_row out dead write = Some (actions.Login 0 3 false (replicate 8 0))
session_row held dead write = Some actions.Reconnect
session_row live dead write = live_row dead write
session_row entering dead write = None
session_row returning dead write = None
session_row leaving dead write = None
session_row (stuck had_login) dead write = None

-- the action, or none: whether an operation is under way, the session, whether the present list is marked dead, the next submission for it
abbrev pub row : Bool → Session → Bool → Option Submission → Option Action
row true session dead write = None
row false session dead write = session_row session dead write

abbrev pub row_of : Host → Option Submission → Option Action
row_of host write = row (not (is_none host.operation)) host.session host.marked_dead write

abbrev pub pump : List Step → Option Action
pump past = row_of (host_at (world past) 0) (write_at past (next past))
