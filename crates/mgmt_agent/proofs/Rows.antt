-- Each decision is the first row that holds.
use Rattle.std.specs.Prelude.{◌≡◌, ℕ, ◌==◌, ◌||◌, not, Bool, true, false, cond, is_none, List, [], ◌∷◌, position, Option, Some, None, refl}
use Rattle.std.proofs.Common.{◌∙◌}
use Rattle.orb_layout.specs.declared.management.ManagementOrb.{ManagementOrb}
use Rattle.login_table.specs.declared.login.Login.{Login}
use Rattle.login_table.specs.Requests.{LoginRequest}
use Rattle.login_table.specs.Table.{Table, place_at, any_login, back_at, back_step, back_to, enter_at, enter_step, excludes, find, id_at, is_barred, is_denied, is_double, is_held, is_live_of, is_old, leave_at, leave_step, left_for}
use Rattle.login_table.proofs.Searching.{found}
use Rattle.mgmt_agent.specs.declared.function.Function.{Function}
use Rattle.mgmt_agent.specs.declared.function.Function.TheVariants as functions
use Rattle.mgmt_agent.specs.declared.decision.Effect.{Effect}
use Rattle.mgmt_agent.specs.declared.decision.Outcome.{Outcome}
use Rattle.mgmt_agent.specs.Statuses.{number_of, function_of}
use Rattle.mgmt_agent.specs.Decisions.{asked_by, back_decided, decide, decide_function, decide_login, decide_logout, decide_reconnect, effect_of, left_decided, live_login, login_decided, login_in, on_login, key_at, lacks_key, unit_exists}
use Rattle.mgmt_agent.specs.Rows.{first_row, is_full, is_others, rows_of, DecisionLaw}

status_of_pair : (b : Bool) (x y : Outcome × Table) (m n : ℕ) → number_of x.0.status ≡ m → number_of y.0.status ≡ n → number_of (cond b x y).0.status ≡ cond b m n
status_of_pair true x y m n p q = p
status_of_pair false x y m n p q = q

turned : (b : Bool) (m n : ℕ) → cond b m n ≡ cond (not b) n m
turned true m n = refl
turned false m n = refl

two_rows : (d x : Bool) (m n : ℕ) → cond (d || x) m n ≡ cond d m (cond x m n)
two_rows true x m n = refl
two_rows false x m n = refl

enter_at_status : (place : Option ℕ) (orb : ManagementOrb) (table : Table) (left : List (Option Login)) (replaced : Option ℕ) (asked : LoginRequest) → number_of (login_decided orb (enter_at place table left replaced asked).0).status ≡ cond (is_none place) 0x08 0x00
enter_at_status None orb table left replaced asked = refl
enter_at_status (Some place) orb table left replaced asked = refl

enter_by_status : (b : Bool) (orb : ManagementOrb) (table : Table) (asked : LoginRequest) → is_denied asked table.places ≡ b → number_of (login_decided orb (enter_step table asked).0).status ≡ cond b 0x04 (cond (is_full asked table.places) 0x08 0x00)
unfolding enter_step
enter_by_status true orb table asked e = rw e refl
enter_by_status false orb table asked e = rw e (enter_at_status (position is_none (left_for asked table.places)) orb table (left_for asked table.places) (id_at (find (is_old asked) table.places) table.places) asked)

login_row : (orb : ManagementOrb) (source eui : ℕ) (table : Table) (keys : List (List ℕ)) → number_of (decide_login orb source eui table keys).0.status ≡ first_row (rows_of (Some functions.Login) orb source eui table keys)
login_row orb source eui table keys =
    let asked = asked_by orb source eui in
    status_of_pair (not (unit_exists orb.subject keys)) _ _ _ _ refl
    (status_of_pair (lacks_key (key_at orb.subject keys) orb) _ _ _ _ refl
    (enter_by_status _ orb table asked refl ∙ two_rows (any_login (is_double asked) table.places) (any_login (excludes asked) table.places) _ _))

query_row : (b : Bool) (x y : Outcome) (m n : ℕ) → number_of x.status ≡ m → number_of y.status ≡ n → number_of (cond b x y).status ≡ cond (not b) n m
query_row true x y m n p q = p
query_row false x y m n p q = q

back_by_row : (b : Bool) (login : Login) (table : Table) (k source eui : ℕ) → is_barred source eui login table.places ≡ b → number_of (back_decided (back_to (Some login) table k source eui).0).status ≡ cond b 0x04 0x00
back_by_row true login table k source eui e = rw e refl
back_by_row false login table k source eui e = rw e refl

back_in_row : (place : Option Login) (table : Table) (k source eui : ℕ) → number_of (back_decided (back_to place table k source eui).0).status ≡ first_row ((is_none place, 0x0a) ∷ (is_others place source eui table.places, 0x04) ∷ [])
back_in_row None table k source eui = refl
back_in_row (Some login) table k source eui = back_by_row _ login table k source eui refl

back_at_row : (place : Option ℕ) (table : Table) (source eui : ℕ) → number_of (back_decided (back_at place table source eui).0).status ≡ first_row ((is_none (login_in place table.places), 0x0a) ∷ (is_others (login_in place table.places) source eui table.places, 0x04) ∷ [])
back_at_row None table source eui = refl
back_at_row (Some k) table source eui = back_in_row (place_at table.places k) table k source eui

reconnect_row : (orb : ManagementOrb) (source eui : ℕ) (table : Table) (keys : List (List ℕ)) → number_of (decide_reconnect orb source eui table).0.status ≡ first_row (rows_of (Some functions.Reconnect) orb source eui table keys)
unfolding back_step
reconnect_row orb source eui table keys = back_at_row (find (is_held orb.subject) table.places) table source eui

leave_at_row : (place : Option ℕ) (id node : ℕ) (table : Table) → find (is_live_of id node) table.places ≡ place → number_of (left_decided (leave_at place table).0).status ≡ cond (is_none (login_in place table.places)) 0x0a 0x00
leave_at_row None id node table e = refl
leave_at_row (Some k) id node table e = let f = found (is_live_of id node) table.places k e in let s = f.stands in rw s refl

logout_row : (orb : ManagementOrb) (source : ℕ) (table : Table) → number_of (decide_logout orb source table).0.status ≡ cond (is_none (live_login table.places orb.subject source)) 0x0a 0x00
unfolding leave_step live_login
logout_row orb source table = leave_at_row _ orb.subject source table refl

on_row : (effect : Login → Effect) (login : Option Login) → number_of (on_login effect login).status ≡ cond (is_none login) 0x0a 0x00
on_row effect None = refl
on_row effect (Some login) = refl

function_row : (function : Option Function) (orb : ManagementOrb) (source eui : ℕ) (table : Table) (keys : List (List ℕ)) → number_of (decide_function function orb source eui table keys).0.status ≡ first_row (rows_of function orb source eui table keys)
function_row None orb source eui table keys = refl
function_row (Some functions.Login) orb source eui table keys = login_row orb source eui table keys
function_row (Some functions.Query) orb source eui table keys = query_row (unit_exists orb.subject keys) _ _ _ _ refl refl
function_row (Some functions.Reconnect) orb source eui table keys = reconnect_row orb source eui table keys
function_row (Some functions.Logout) orb source eui table keys = logout_row orb source table
function_row (Some functions.Abort) orb source eui table keys = on_row (effect_of functions.Abort orb) (live_login table.places orb.subject source)
function_row (Some functions.AbortSet) orb source eui table keys = on_row (effect_of functions.AbortSet orb) (live_login table.places orb.subject source)
function_row (Some functions.UnitReset) orb source eui table keys = on_row (effect_of functions.UnitReset orb) (live_login table.places orb.subject source)
function_row (Some functions.TargetReset) orb source eui table keys = on_row (effect_of functions.TargetReset orb) (live_login table.places orb.subject source)

pub decided_by_first_row : DecisionLaw
unfolding decide
decided_by_first_row orb source eui table keys =
    status_of_pair (orb.format == 0) _ _ _ _ (function_row (function_of orb.function) orb source eui table keys) refl
    ∙ turned (orb.format == 0) _ _
