-- The sbp_status of a decision by its number, and the functions by their numbers (NCITS 325-1998,
-- status block and management ORB).
use Rattle.std.specs.Prelude.{ℕ, ◌==◌, if◌then◌else◌, Option, Some, None}
use Rattle.login_table.specs.declared.login.LoginRefusal.{LoginRefusal}
use Rattle.login_table.specs.declared.login.LoginRefusal.TheVariants.{Denied, NoRoom, Unknown, OtherNode}
use Rattle.mgmt_agent.specs.declared.status.Status.{Status}
use Rattle.mgmt_agent.specs.declared.status.Status.TheVariants as statuses
use Rattle.mgmt_agent.specs.declared.function.Function.{Function}
use Rattle.mgmt_agent.specs.declared.function.Function.TheVariants as functions

abbrev pub number_of : Status → ℕ
number_of statuses.NoFault = 0x00
number_of statuses.RequestType = 0x01
number_of statuses.AccessDenied = 0x04
number_of statuses.LogicalUnit = 0x05
number_of statuses.Resources = 0x08
number_of statuses.FunctionRejected = 0x09
number_of statuses.LoginId = 0x0a

-- the refusals of the table of logins
abbrev pub status_of : LoginRefusal → Status
status_of Denied = statuses.AccessDenied
status_of NoRoom = statuses.Resources
status_of Unknown = statuses.LoginId
status_of OtherNode = statuses.AccessDenied

abbrev pub function_of : ℕ → Option Function
function_of number =
    if number == 0x0 then Some functions.Login
    else if number == 0x1 then Some functions.Query
    else if number == 0x3 then Some functions.Reconnect
    else if number == 0x7 then Some functions.Logout
    else if number == 0xb then Some functions.Abort
    else if number == 0xc then Some functions.AbortSet
    else if number == 0xe then Some functions.UnitReset
    else if number == 0xf then Some functions.TargetReset
    else None
