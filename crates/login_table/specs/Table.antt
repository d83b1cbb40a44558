-- The logins of a target (NCITS 325-1998, access: login, reconnect, logout, reconnect hold).
use Rattle.std.specs.Prelude.{ℕ, zero, suc, ◌+◌, ◌-◌, ◌==◌, ◌&&◌, ◌||◌, nat_le, not, Bool, false, if◌then◌else◌, is_none, List, map, position, replicate, slice_set, slice_index_or, Option, Some, None, Result, Ok, Err}
use Rattle.std.specs.List.{list_any, filter_map}
use Rattle.login_table.specs.declared.login.Login.{Login}
use Rattle.login_table.specs.Requests.{LoginRequest}
use Rattle.login_table.specs.declared.login.Entered.{Entered}
use Rattle.login_table.specs.declared.login.LoginRefusal.{LoginRefusal}
use Rattle.login_table.specs.declared.login.LoginRefusal.TheVariants.{Denied, NoRoom, Unknown, OtherNode}

-- the ID entered last, 0 before the first, and the eight places
pub record Table : Type 0 where
  pub last : ℕ
  pub places : List (Option Login)

abbrev pub new_table : Table
new_table = record { last = 0; places = replicate 8 None }

abbrev pub place_at : List (Option Login) → ℕ → Option Login
place_at places place = slice_index_or places place None

-- a live login has no seconds that run
abbrev pub is_live : Login → Bool
is_live login = is_none login.remaining

-- a place with a login that passes the test
abbrev pub has : (Login → Bool) → Option Login → Bool
has test None = false
has test (Some login) = test login

-- some login of the table passes the test
abbrev pub any_login : (Login → Bool) → List (Option Login) → Bool
any_login test places = list_any (has test) places

-- the lowest place with a login that passes the test
abbrev pub find : (Login → Bool) → List (Option Login) → Option ℕ
find test places = position (has test) places

-- Login IDs count from 1 to 65535 and go on at 1.
abbrev pub next_id : ℕ → ℕ
next_id id = if id == 65535 then 1 else id + 1

-- a login, live or held, has the ID
abbrev pub is_used : ℕ → List (Option Login) → Bool
is_used id places = any_login (λ login. login.login == id) places

-- the first ID in counting order, from this one on, that is not in use, within so many tries
unfoldable pub fresh_id : ℕ → ℕ → List (Option Login) → ℕ
fresh_id zero id places = id
fresh_id (suc tries) id places = if is_used id places then fresh_id tries (next_id id) places else id

-- a live login of the node on the unit
abbrev pub is_of_node : ℕ → ℕ → Login → Bool
is_of_node unit node login = is_live login && login.unit == unit && login.node == node

-- a live login of the EUI-64, or of the node, on the unit
abbrev pub is_double : LoginRequest → Login → Bool
is_double asked login = is_live login && login.unit == asked.unit && (login.eui == asked.eui || login.node == asked.node)

-- a login of another EUI-64 on the unit, live or held, where it or the new login is exclusive
abbrev pub excludes : LoginRequest → Login → Bool
excludes asked login = login.unit == asked.unit && not (login.eui == asked.eui) && (login.exclusive || asked.exclusive)

abbrev pub is_denied : LoginRequest → List (Option Login) → Bool
is_denied asked places = any_login (is_double asked) places || any_login (excludes asked) places

-- a held login of the EUI-64 on the unit
abbrev pub is_old : LoginRequest → Login → Bool
is_old asked login = not (is_live login) && login.unit == asked.unit && login.eui == asked.eui

-- the places without the login of one of them
abbrev pub without : Option ℕ → List (Option Login) → List (Option Login)
without None places = places
without (Some place) places = slice_set places place None

abbrev pub id_of : Option Login → Option ℕ
id_of None = None
id_of (Some login) = Some login.login

abbrev pub id_at : Option ℕ → List (Option Login) → Option ℕ
id_at None places = None
id_at (Some place) places = id_of (place_at places place)

-- the login that is entered: it is live
abbrev pub entered : LoginRequest → ℕ → ℕ → Login
entered asked place id = record {
  place = place;
  login = id;
  unit = asked.unit;
  node = asked.node;
  eui = asked.eui;
  fifo = asked.fifo;
  hold = asked.hold;
  remaining = None;
  exclusive = asked.exclusive;
}

-- A login is entered into a place, beside those that are left.
abbrev pub enter_at : Option ℕ → Table → List (Option Login) → Option ℕ → LoginRequest → Result Entered LoginRefusal × Table
enter_at None table left replaced asked = (Err NoRoom, table)
enter_at (Some place) table left replaced asked =
    let id = fresh_id 8 (next_id table.last) left in
    (Ok record { place = place; login = id; replaced = replaced }, record { last = id; places = slice_set left place (Some (entered asked place id)) })

-- the places once the held login of the EUI-64 on the unit is removed
unfoldable pub left_for : LoginRequest → List (Option Login) → List (Option Login)
left_for asked places = without (find (is_old asked) places) places

unfoldable pub enter_step : Table → LoginRequest → Result Entered LoginRefusal × Table
enter_step table asked =
    if is_denied asked table.places
    then (Err Denied, table)
    else enter_at (position is_none (left_for asked table.places)) table (left_for asked table.places) (id_at (find (is_old asked) table.places) table.places) asked

-- a held login with the ID
abbrev pub is_held : ℕ → Login → Bool
is_held id login = not (is_live login) && login.login == id

-- a live login with the ID, of the node
abbrev pub is_live_of : ℕ → ℕ → Login → Bool
is_live_of id node login = is_live login && login.login == id && login.node == node

-- A held login is live again for a node.
abbrev pub revived : ℕ → Login → Login
revived node login = record login { node = node; remaining = None }

-- the reconnect is refused to the node with the EUI-64
abbrev pub is_barred : ℕ → ℕ → Login → List (Option Login) → Bool
is_barred node eui login places = not (login.eui == eui) || any_login (is_of_node login.unit node) places

abbrev pub back_to : Option Login → Table → ℕ → ℕ → ℕ → Result ℕ LoginRefusal × Table
back_to None table place node eui = (Err Unknown, table)
back_to (Some login) table place node eui =
    if is_barred node eui login table.places
    then (Err OtherNode, table)
    else (Ok place, record table { places = slice_set table.places place (Some (revived node login)) })

abbrev pub back_at : Option ℕ → Table → ℕ → ℕ → Result ℕ LoginRefusal × Table
back_at None table node eui = (Err Unknown, table)
back_at (Some place) table node eui = back_to (place_at table.places place) table place node eui

unfoldable pub back_step : Table → ℕ → ℕ → ℕ → Result ℕ LoginRefusal × Table
back_step table id node eui = back_at (find (is_held id) table.places) table node eui

abbrev pub leave_at : Option ℕ → Table → Result ℕ LoginRefusal × Table
leave_at None table = (Err Unknown, table)
leave_at (Some place) table = (Ok place, record table { places = slice_set table.places place None })

unfoldable pub leave_step : Table → ℕ → ℕ → Result ℕ LoginRefusal × Table
leave_step table id node = leave_at (find (is_live_of id node) table.places) table

-- A live login is held for its granted hold + 1 seconds; a held one keeps its seconds.
abbrev pub held_for : Option ℕ → ℕ → ℕ
held_for None hold = hold + 1
held_for (Some seconds) hold = seconds

abbrev pub held : Option Login → Option Login
held None = None
held (Some login) = Some (record login { remaining = Some (held_for login.remaining login.hold) })

abbrev pub live_id : Option Login → Option ℕ
live_id None = None
live_id (Some login) = if is_live login then Some login.login else None

-- the IDs that a hold holds, by rising place
abbrev pub live_ids : List (Option Login) → List ℕ
live_ids places = filter_map live_id places

abbrev pub hold_step : Table → Table
hold_step table = record table { places = map held table.places }

-- the last second of a held login
abbrev pub is_last : Option ℕ → Bool
is_last None = false
is_last (Some seconds) = nat_le seconds 1

abbrev pub one_less : Option ℕ → Option ℕ
one_less None = None
one_less (Some seconds) = Some (seconds - 1)

-- A second goes by: it is taken from a held login, which is removed at zero.
abbrev pub ticked : Option Login → Option Login
ticked None = None
ticked (Some login) = if is_last login.remaining then None else Some (record login { remaining = one_less login.remaining })

abbrev pub expired_id : Option Login → Option ℕ
expired_id None = None
expired_id (Some login) = if is_last login.remaining then Some login.login else None

-- the IDs removed by a second, by rising place
abbrev pub expired_ids : List (Option Login) → List ℕ
expired_ids places = filter_map expired_id places

abbrev pub tick_step : Table → List ℕ × Table
tick_step table = (expired_ids table.places, record table { places = map ticked table.places })

abbrev pub units_place : ℕ → Option Login → Option ℕ
units_place unit None = None
units_place unit (Some login) = if login.unit == unit then Some login.place else None

-- the places of the logins of a unit, live and held, by rising place
abbrev pub units_places : ℕ → List (Option Login) → List ℕ
units_places unit places = filter_map (units_place unit) places

abbrev pub if_of_node : ℕ → Option Login → Option Login
if_of_node node None = None
if_of_node node (Some login) = if is_live login && login.node == node then Some login else None

-- the live login of a node in a place
abbrev pub by_agent : List (Option Login) → ℕ → ℕ → Option Login
by_agent places place node = if_of_node node (place_at places place)
