-- The units of the logins.
use Rattle.std.specs.Prelude.{◌≡◌, ℕ, ◌<◌, Bool, true, false, if◌then◌else◌, is_none, position, List, [], ◌∷◌, map, IfSome, Option, Some, None, refl}
use Rattle.std.proofs.Common.{subst}
use Rattle.std.specs.List.{All, AllByRecursion}
use Rattle.std.proofs.lemmas.List.Elements.{All-set, All-map, All-weaker, All-replicate}
use Rattle.login_table.specs.declared.login.Login.{Login}
use Rattle.login_table.specs.Requests.{LoginRequest}
use Rattle.login_table.specs.Table.{Table, place_at, find, is_denied, is_old, without, left_for, enter_at, enter_step, revived, is_barred, back_to, back_at, back_step, leave_at, leave_step, held, is_last, one_less, ticked}
use Rattle.login_table.specs.Laws.{Call, enter, back, leave, hold, tick, after, all_after, UnitsBelow, EntersBelow, UnitsLaw}
use Rattle.login_table.proofs.Searching.{within}

abbrev OnUnit : ℕ → Option Login → Type 0
OnUnit units place = IfSome place (λ login. login.unit < units)

without_units : (units : ℕ) (place : Option ℕ) (places : List (Option Login)) → All (OnUnit units) places → All (OnUnit units) (without place places)
without_units units None places all = all
without_units units (Some k) places all = All-set (OnUnit units) places k None tt all

left_units : (units : ℕ) (asked : LoginRequest) (places : List (Option Login)) → All (OnUnit units) places → All (OnUnit units) (left_for asked places)
unfolding left_for
left_units units asked places all = without_units units (find (is_old asked) places) places all

enter_at_units : (units : ℕ) (place : Option ℕ) (table : Table) (left : List (Option Login)) (replaced : Option ℕ) (asked : LoginRequest) → asked.unit < units → UnitsBelow units table → All (OnUnit units) left → UnitsBelow units (enter_at place table left replaced asked).1
enter_at_units units None table left replaced asked h all kept = all
enter_at_units units (Some k) table left replaced asked h all kept = All-set (OnUnit units) left k _ h kept

enter_by : (b : Bool) (units : ℕ) (table : Table) (asked : LoginRequest) → is_denied asked table.places ≡ b → asked.unit < units → UnitsBelow units table → UnitsBelow units (enter_step table asked).1
unfolding enter_step
enter_by true units table asked e h all = rw e all
enter_by false units table asked e h all = rw e (enter_at_units units (position is_none (left_for asked table.places)) table (left_for asked table.places) _ asked h all (left_units units asked table.places all))

-- A login of the table is on a unit of the table.
pub own_unit : (units : ℕ) (places : List (Option Login)) (k : ℕ) (login : Login) → All (OnUnit units) places → place_at places k ≡ Some login → login.unit < units
own_unit units places k login all e = subst (OnUnit units) e (all k None (within places k login e))

back_by : (b : Bool) (units : ℕ) (table : Table) (k node eui : ℕ) (login : Login) → is_barred node eui login table.places ≡ b → place_at table.places k ≡ Some login → UnitsBelow units table → UnitsBelow units (back_to (Some login) table k node eui).1
back_by true units table k node eui login f e all = rw f all
back_by false units table k node eui login f e all = rw f (All-set (OnUnit units) table.places k (Some (revived node login)) (own_unit units table.places k login all e) all)

back_to_units : (place : Option Login) (units : ℕ) (table : Table) (k node eui : ℕ) → place_at table.places k ≡ place → UnitsBelow units table → UnitsBelow units (back_to place table k node eui).1
back_to_units None units table k node eui e all = all
back_to_units (Some login) units table k node eui e all = back_by _ units table k node eui login refl e all

back_at_units : (place : Option ℕ) (units : ℕ) (table : Table) (node eui : ℕ) → UnitsBelow units table → UnitsBelow units (back_at place table node eui).1
back_at_units None units table node eui all = all
back_at_units (Some k) units table node eui all = back_to_units _ units table k node eui refl all

back_units : (units : ℕ) (table : Table) (id node eui : ℕ) → UnitsBelow units table → UnitsBelow units (back_step table id node eui).1
unfolding back_step
back_units units table id node eui all = back_at_units _ units table node eui all

leave_at_units : (place : Option ℕ) (units : ℕ) (table : Table) → UnitsBelow units table → UnitsBelow units (leave_at place table).1
leave_at_units None units table all = all
leave_at_units (Some k) units table all = All-set (OnUnit units) table.places k None tt all

leave_units : (units : ℕ) (table : Table) (id node : ℕ) → UnitsBelow units table → UnitsBelow units (leave_step table id node).1
unfolding leave_step
leave_units units table id node all = leave_at_units _ units table all

held_unit : (units : ℕ) (place : Option Login) → OnUnit units place → OnUnit units (held place)
held_unit units None h = tt
held_unit units (Some login) h = h

ticked_by : (b : Bool) (units : ℕ) (login : Login) → login.unit < units → OnUnit units (if b then None else Some (record login { remaining = one_less login.remaining }))
ticked_by true units login h = tt
ticked_by false units login h = h

ticked_unit : (units : ℕ) (place : Option Login) → OnUnit units place → OnUnit units (ticked place)
ticked_unit units None h = tt
ticked_unit units (Some login) h = ticked_by (is_last login.remaining) units login h

mapped : (units : ℕ) (f : Option Login → Option Login) (places : List (Option Login)) → ((place : Option Login) → OnUnit units place → OnUnit units (f place)) → All (OnUnit units) places → All (OnUnit units) (map f places)
mapped units f places keeps all = All-map (OnUnit units) f places (All-weaker (OnUnit units) (λ place. OnUnit units (f place)) keeps places all)

call_units : (units : ℕ) (call : Call) (table : Table) → EntersBelow units call → UnitsBelow units table → UnitsBelow units (after call table)
call_units units (enter asked) table h all = enter_by _ units table asked refl h all
call_units units (back id node eui) table h all = back_units units table id node eui all
call_units units (leave id node) table h all = leave_units units table id node all
call_units units hold table h all = mapped units held table.places (held_unit units) all
call_units units tick table h all = mapped units ticked table.places (ticked_unit units) all

calls_units : (units : ℕ) (calls : List Call) (table : Table) → AllByRecursion (EntersBelow units) calls → UnitsBelow units table → UnitsBelow units (all_after calls table)
calls_units units [] table each all = all
calls_units units (call ∷ calls) table each all = call_units units call (all_after calls table) each.0 (calls_units units calls table each.1 all)

pub units_stay_below : UnitsLaw
units_stay_below = record { begins = λ units. All-replicate (OnUnit units) 8 None tt; kept = calls_units }
