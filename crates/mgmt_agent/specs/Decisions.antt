-- What a target decides on a management ORB (NCITS 325-1998, management functions and their statuses).
use Rattle.std.specs.Prelude.{ℕ, ◌+◌, ◌-◌, ◌*◌, ◌%◌, ◌^◌, ◌==◌, ◌&&◌, ◌||◌, min, nat_lt, not, Bool, true, false, if◌then◌else◌, List, [], length, slice_index_or, Option, Some, None, Result, Ok, Err}
use Rattle.std.specs.List.{filter_map}
use Rattle.sbp_base.specs.Quadlets.{quad}
use Rattle.orb_layout.specs.declared.management.ManagementOrb.{ManagementOrb}
use Rattle.orb_layout.specs.declared.query.QueryEntry.{QueryEntry}
use Rattle.orb_layout.specs.LoginResponses.{login_bytes}
use Rattle.orb_layout.specs.QueryResponses.{query_bytes}
use Rattle.login_table.specs.declared.login.Login.{Login}
use Rattle.login_table.specs.declared.login.Entered.{Entered}
use Rattle.login_table.specs.declared.login.LoginRefusal.{LoginRefusal}
use Rattle.login_table.specs.Requests.{LoginRequest}
use Rattle.login_table.specs.Table.{Table, place_at, find, is_live_of, enter_step, back_step, leave_step}
use Rattle.mgmt_agent.specs.declared.status.Status.{Status}
use Rattle.mgmt_agent.specs.declared.status.Status.TheVariants as statuses
use Rattle.mgmt_agent.specs.declared.function.Function.{Function}
use Rattle.mgmt_agent.specs.declared.function.Function.TheVariants as functions
use Rattle.mgmt_agent.specs.Statuses.{number_of, status_of, function_of}
use Rattle.mgmt_agent.specs.declared.decision.Decision.{Decision}
use Rattle.mgmt_agent.specs.declared.decision.Effect.{Effect}
use Rattle.mgmt_agent.specs.declared.decision.Effect.TheVariants as effects
use Rattle.mgmt_agent.specs.declared.decision.Outcome.{Outcome}
use Rattle.mgmt_agent.specs.declared.decision.Response.{Response}
use Rattle.mgmt_agent.specs.declared.decision.Response.TheVariants as responses

-- a status with no effect and no response
abbrev pub with_status : Status → Outcome
with_status status = record { status = status; login = 0; effect = effects.Nothing; response = responses.Nothing }

-- status 00 with an effect
abbrev pub good : Effect → Outcome
good effect = record { status = statuses.NoFault; login = 0; effect = effect; response = responses.Nothing }

-- a unit exists where it has a key; unit numbers have 8 bits
abbrev pub unit_exists : ℕ → List (List ℕ) → Bool
unit_exists unit keys = nat_lt unit (length keys) && nat_lt unit 256

-- the 8 bytes of a key, as a password stands in quadlets 0 and 1
abbrev pub password_of : List ℕ → ℕ
password_of key = quad key 0 * 2 ^ 32 + quad key 4

abbrev pub key_at : ℕ → List (List ℕ) → ℕ
key_at unit keys = password_of (slice_index_or keys unit [])

-- the unit has a key, and the password differs from it or its length is not 0
abbrev pub lacks_key : ℕ → ManagementOrb → Bool
lacks_key key orb = not (key == 0) && (not (orb.first == key) || not (orb.password_length == 0))

-- the granted reconnect hold: 2^R seconds less one, and 15 at most
abbrev pub granted_hold : ℕ → ℕ
granted_hold reconnect = min (2 ^ reconnect) 16 - 1

-- the base of the agent registers of a place
abbrev pub agent_base : ℕ → ℕ
agent_base place = 0xfffff0040000 + 0x20 * place

abbrev pub login_decided : ManagementOrb → Result Entered LoginRefusal → Outcome
login_decided orb (Err refusal) = with_status (status_of refusal)
login_decided orb (Ok entered) = record {
  status = statuses.NoFault;
  login = entered.login;
  effect = effects.Entered entered.place entered.replaced;
  response = responses.Login (record { login = entered.login; agent = agent_base entered.place; hold = granted_hold orb.reconnect });
}

-- the login that an ORB asks for
abbrev pub asked_by : ManagementOrb → ℕ → ℕ → LoginRequest
asked_by orb source eui = record { unit = orb.subject; node = source; eui = eui; fifo = orb.fifo; hold = granted_hold orb.reconnect; exclusive = orb.exclusive }

abbrev pub decide_login : ManagementOrb → ℕ → ℕ → Table → List (List ℕ) → Outcome × Table
decide_login orb source eui table keys =
    if not (unit_exists orb.subject keys) then (with_status statuses.LogicalUnit, table)
    else if lacks_key (key_at orb.subject keys) orb then (with_status statuses.AccessDenied, table)
    else let s = enter_step table (asked_by orb source eui) in (login_decided orb s.0, s.1)

abbrev pub decide_query : ManagementOrb → List (List ℕ) → Outcome
decide_query orb keys =
    if unit_exists orb.subject keys
    then record { status = statuses.NoFault; login = 0; effect = effects.Nothing; response = responses.Query orb.subject }
    else with_status statuses.LogicalUnit

abbrev pub back_decided : Result ℕ LoginRefusal → Outcome
back_decided (Ok place) = good (effects.Back place)
back_decided (Err refusal) = with_status (status_of refusal)

abbrev pub decide_reconnect : ManagementOrb → ℕ → ℕ → Table → Outcome × Table
decide_reconnect orb source eui table = let s = back_step table orb.subject source eui in (back_decided s.0, s.1)

abbrev pub left_decided : Result ℕ LoginRefusal → Outcome
left_decided (Ok place) = good (effects.Left place)
left_decided (Err refusal) = with_status (status_of refusal)

abbrev pub decide_logout : ManagementOrb → ℕ → Table → Outcome × Table
decide_logout orb source table = let s = leave_step table orb.subject source in (left_decided s.0, s.1)

abbrev pub login_in : Option ℕ → List (Option Login) → Option Login
login_in None places = None
login_in (Some place) places = place_at places place

-- the login with this ID that is live for the node
unfoldable pub live_login : List (Option Login) → ℕ → ℕ → Option Login
live_login places id node = login_in (find (is_live_of id node) places) places

-- A login with this ID that is live for the source's node has the effect; there is none with 0A.
abbrev pub on_login : (Login → Effect) → Option Login → Outcome
on_login effect None = with_status statuses.LoginId
on_login effect (Some login) = good (effect login)

-- what a function does to a login: an abort has the ORB that the pointer in quadlets 0 and 1 names
abbrev pub effect_of : Function → ManagementOrb → Login → Effect
effect_of functions.Abort orb login = effects.Abort login.place (orb.first % 2 ^ 48)
effect_of functions.AbortSet orb login = effects.AbortSet login.place
effect_of functions.UnitReset orb login = effects.UnitReset login.unit
effect_of functions.TargetReset orb login = effects.TargetReset
effect_of _ orb login = effects.Nothing

-- the row of the function; one that is not known is rejected
abbrev pub decide_function : Option Function → ManagementOrb → ℕ → ℕ → Table → List (List ℕ) → Outcome × Table
decide_function None orb source eui table keys = (with_status statuses.FunctionRejected, table)
decide_function (Some functions.Login) orb source eui table keys = decide_login orb source eui table keys
decide_function (Some functions.Query) orb source eui table keys = (decide_query orb keys, table)
decide_function (Some functions.Reconnect) orb source eui table keys = decide_reconnect orb source eui table
decide_function (Some functions.Logout) orb source eui table keys = decide_logout orb source table
decide_function (Some function) orb source eui table keys = (on_login (effect_of function orb) (live_login table.places orb.subject source), table)

-- The decision on an ORB that a source with this EUI-64 sent, and the logins that it leaves.
unfoldable pub decide : ManagementOrb → ℕ → ℕ → Table → List (List ℕ) → Outcome × Table
decide orb source eui table keys =
    if orb.format == 0 then decide_function (function_of orb.function) orb source eui table keys else (with_status statuses.RequestType, table)

-- the functions that read the EUI-64 of the source: login and reconnect, with request format 0
abbrev pub wants_eui : Function → Bool
wants_eui functions.Login = true
wants_eui functions.Reconnect = true
wants_eui _ = false

abbrev pub known_wants_eui : Option Function → Bool
known_wants_eui None = false
known_wants_eui (Some function) = wants_eui function

unfoldable pub reads_eui : ManagementOrb → Bool
reads_eui orb = orb.format == 0 && known_wants_eui (function_of orb.function)

-- what the target tells of a decision
abbrev pub told : ManagementOrb → Outcome → Decision
told orb outcome = record { function = orb.function; subject = orb.subject; status = number_of outcome.status; login = outcome.login }

abbrev pub entry_of : ℕ → Option Login → Option QueryEntry
entry_of unit None = None
entry_of unit (Some login) =
    if login.unit == unit then Some (record { node = login.node; login = login.login; eui = login.eui }) else None

-- the logins of a unit, live and held, by rising place
abbrev pub entries_of : ℕ → List (Option Login) → List QueryEntry
entries_of unit places = filter_map (entry_of unit) places

-- the bytes of a response, before the cut
unfoldable pub response_bytes : Response → List (Option Login) → List ℕ
response_bytes responses.Nothing places = []
response_bytes (responses.Login response) places = login_bytes response
response_bytes (responses.Query unit) places = query_bytes (entries_of unit places)
