-- A decision is the first row that holds of the table of its function (NCITS 325-1998, management
-- functions and their statuses).
use Rattle.std.specs.Prelude.{◌≡◌, ℕ, ◌==◌, not, Bool, true, false, if◌then◌else◌, is_none, List, [], ◌∷◌, position, Option, Some, None}
use Rattle.orb_layout.specs.declared.management.ManagementOrb.{ManagementOrb}
use Rattle.login_table.specs.declared.login.Login.{Login}
use Rattle.login_table.specs.Requests.{LoginRequest}
use Rattle.login_table.specs.Table.{Table, any_login, excludes, find, is_barred, is_double, is_held, left_for}
use Rattle.mgmt_agent.specs.declared.function.Function.{Function}
use Rattle.mgmt_agent.specs.declared.function.Function.TheVariants as functions
use Rattle.mgmt_agent.specs.Statuses.{number_of, function_of}
use Rattle.mgmt_agent.specs.Decisions.{asked_by, decide, key_at, lacks_key, live_login, login_in, unit_exists}

-- the status of the first row that holds, and 00 where none does
abbrev pub first_row : List (Bool × ℕ) → ℕ
first_row [] = 0x00
first_row ((holds, status) ∷ rows) = if holds then status else first_row rows

-- the table has no room, once the held login of the EUI-64 on the unit is removed
abbrev pub is_full : LoginRequest → List (Option Login) → Bool
is_full asked places = is_none (position is_none (left_for asked places))

-- the held login with this ID
abbrev pub held_login : List (Option Login) → ℕ → Option Login
held_login places id = login_in (find (is_held id) places) places

-- it is held for another EUI-64, or a live login of the node on its unit exists
abbrev pub is_others : Option Login → ℕ → ℕ → List (Option Login) → Bool
is_others None node eui places = false
is_others (Some login) node eui places = is_barred node eui login places

-- the rows of a function
abbrev pub rows_of : Option Function → ManagementOrb → ℕ → ℕ → Table → List (List ℕ) → List (Bool × ℕ)
rows_of None orb source eui table keys = (true, 0x09) ∷ []
rows_of (Some functions.Login) orb source eui table keys =
    (not (unit_exists orb.subject keys), 0x05)
    ∷ (lacks_key (key_at orb.subject keys) orb, 0x04)
    ∷ (any_login (is_double (asked_by orb source eui)) table.places, 0x04)
    ∷ (any_login (excludes (asked_by orb source eui)) table.places, 0x04)
    ∷ (is_full (asked_by orb source eui) table.places, 0x08)
    ∷ []
rows_of (Some functions.Query) orb source eui table keys = (not (unit_exists orb.subject keys), 0x05) ∷ []
rows_of (Some functions.Reconnect) orb source eui table keys =
    (is_none (held_login table.places orb.subject), 0x0a)
    ∷ (is_others (held_login table.places orb.subject) source eui table.places, 0x04)
    ∷ []
rows_of (Some function) orb source eui table keys = (is_none (live_login table.places orb.subject source), 0x0a) ∷ []

-- the rows of an ORB: another request format than 0 is decided before all else
abbrev pub all_rows : ManagementOrb → ℕ → ℕ → Table → List (List ℕ) → List (Bool × ℕ)
all_rows orb source eui table keys = (not (orb.format == 0), 0x01) ∷ rows_of (function_of orb.function) orb source eui table keys

abbrev pub DecisionLaw : Type 0
DecisionLaw =
    (orb : ManagementOrb) (source eui : ℕ) (table : Table) (keys : List (List ℕ)) → number_of (decide orb source eui table keys).0.status ≡ first_row (all_rows orb source eui table keys)
