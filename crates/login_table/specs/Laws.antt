-- What holds of the logins after every list of calls (NCITS 325-1998, access).
use Rattle.std.specs.Prelude.{◌≡◌, ◌≢◌, ◌↔◌, ℕ, zero, suc, ◌+◌, ◌-◌, ◌<◌, ◌≤◌, true, false, List, [], ◌∷◌, reverse, AllPairs, Contains, IfSome, Option, Some, None, Result, Ok, Err}
use Rattle.std.specs.List.{All, AllByRecursion}
use Rattle.std.specs.Result.{IsErr}
use Rattle.login_table.specs.declared.login.Login.{Login}
use Rattle.login_table.specs.Requests.{LoginRequest}
use Rattle.login_table.specs.declared.login.Entered.{Entered}
use Rattle.login_table.specs.declared.login.LoginRefusal.{LoginRefusal}
use Rattle.login_table.specs.Table.{Table, new_table, place_at, is_live, is_used, next_id, left_for, live_ids, units_places, enter_step, back_step, leave_step, hold_step, tick_step}
use Rattle.login_table.specs.Sound.{IsNumbered}

-- a call that may change the table
pub data Call : Type 0 where
  enter : LoginRequest → Call
  back : (id node eui : ℕ) → Call
  leave : (id node : ℕ) → Call
  hold : Call
  tick : Call

abbrev pub after : Call → Table → Table
after (enter asked) table = (enter_step table asked).1
after (back id node eui) table = (back_step table id node eui).1
after (leave id node) table = (leave_step table id node).1
after hold table = hold_step table
after tick table = (tick_step table).1

-- the table after more calls, the latest of them first
abbrev pub all_after : List Call → Table → Table
all_after [] table = table
all_after (call ∷ calls) table = after call (all_after calls table)

-- the table that these calls made, the latest of them first
abbrev pub made_by : List Call → Table
made_by calls = all_after calls new_table

-- the table after these calls, the earliest of them first
abbrev pub in_turn : List Call → Table → Table
in_turn [] table = table
in_turn (call ∷ calls) table = in_turn calls (after call table)

-- Calls in their order, each after those before it, make the table that they make with the latest first.
abbrev pub TurnLaw : Type 0
TurnLaw = (calls : List Call) (table : Table) → all_after (reverse calls) table ≡ in_turn calls table

-- the login stands in the place, live or held
abbrev pub Stands : Table → ℕ → Login → Type 0
Stands table place login = place_at table.places place ≡ Some login

-- At most one login per EUI-64 and unit, live or held.
abbrev pub OneByEuiLaw : Type 0
OneByEuiLaw =
    (calls : List Call) (i j : ℕ) (a b : Login) → Stands (made_by calls) i a → Stands (made_by calls) j b → a.unit ≡ b.unit → a.eui ≡ b.eui → i ≡ j

-- At most one live login per node and unit.
abbrev pub OneByNodeLaw : Type 0
OneByNodeLaw =
    (calls : List Call) (i j : ℕ) (a b : Login) → Stands (made_by calls) i a → Stands (made_by calls) j b → is_live a ≡ true → is_live b ≡ true → a.unit ≡ b.unit → a.node ≡ b.node → i ≡ j

-- Where a unit has an exclusive login, live or held, it has no login of another EUI-64.
abbrev pub ExclusiveLaw : Type 0
ExclusiveLaw =
    (calls : List Call) (i j : ℕ) (a b : Login) → Stands (made_by calls) i a → Stands (made_by calls) j b → a.unit ≡ b.unit → a.exclusive ≡ true → b.eui ≡ a.eui

-- No ID stands in two places.
abbrev pub OneByIdLaw : Type 0
OneByIdLaw =
    (calls : List Call) (i j : ℕ) (a b : Login) → Stands (made_by calls) i a → Stands (made_by calls) j b → a.login ≡ b.login → i ≡ j

abbrev pub NumberedLaw : Type 0
NumberedLaw = (calls : List Call) (i : ℕ) (a : Login) → Stands (made_by calls) i a → IsNumbered i a

-- A held login has from 1 to hold + 1 seconds left.
abbrev pub SecondsLaw : Type 0
SecondsLaw =
    (calls : List Call) (i seconds : ℕ) (a : Login) → Stands (made_by calls) i a → a.remaining ≡ Some seconds → (1 ≤ seconds) × (seconds ≤ a.hold + 1)

abbrev pub last_by : Result Entered LoginRefusal → ℕ → ℕ
last_by (Ok entered) last = entered.login
last_by (Err refusal) last = last

abbrev pub last_with : Call → Table → ℕ → ℕ
last_with (enter asked) table last = last_by (enter_step table asked).0 last
last_with (back id node eui) table last = last
last_with (leave id node) table last = last
last_with hold table last = last
last_with tick table last = last

-- the ID that was entered last, 0 before the first
abbrev pub last_entered : List Call → ℕ
last_entered [] = 0
last_entered (call ∷ calls) = last_with call (made_by calls) (last_entered calls)

-- the ID so many behind the next one in counting order
abbrev pub counted_on : ℕ → ℕ → ℕ
counted_on zero id = next_id id
counted_on (suc more) id = next_id (counted_on more id)

-- The first ID in counting order, after the last one, that no login has.
pub record IsNextFree (last id : ℕ) (places : List (Option Login)) : Type 0 where
  pub passed : ℕ
  pub counted : id ≡ counted_on passed last
  pub free : is_used id places ≡ false
  pub used : (k : ℕ) → k < passed → is_used (counted_on k last) places ≡ true

-- A new login has the next ID that is not in use, after the ID entered last.
abbrev pub NextIdLaw : Type 0
NextIdLaw =
    (calls : List Call) (asked : LoginRequest) (entered : Entered) → (enter_step (made_by calls) asked).0 ≡ Ok entered → IsNextFree (last_entered calls) entered.login (left_for asked (made_by calls).places)

abbrev pub ticks_of : Call → ℕ
ticks_of (enter asked) = 0
ticks_of (back id node eui) = 0
ticks_of (leave id node) = 0
ticks_of hold = 0
ticks_of tick = 1

-- the seconds that went by
abbrev pub ticks : List Call → ℕ
ticks [] = 0
ticks (call ∷ calls) = ticks_of call + ticks calls

-- The call is no reconnect of the login that is granted, and no new login of its EUI-64 to its unit that
-- is.
abbrev pub Leaves : Login → Call → Table → Type 0
Leaves login (enter asked) table = asked.unit ≡ login.unit → asked.eui ≡ login.eui → IsErr (enter_step table asked).0
Leaves login (back id node eui) table = id ≡ login.login → IsErr (back_step table id node eui).0
Leaves login (leave id node) table = Unit {0}
Leaves login hold table = Unit {0}
Leaves login tick table = Unit {0}

-- so with each of the calls, the latest of them first
abbrev pub LeaveAll : Login → List Call → Table → Type 0
LeaveAll login [] table = Unit {0}
LeaveAll login (call ∷ calls) table = Leaves login call (all_after calls table) × LeaveAll login calls table

-- A live login that is held stays for its hold + 1 seconds, unless it comes back or is replaced, and each
-- second is taken from it.
abbrev pub HeldLaw : Type 0
HeldLaw =
    (table : Table) (place : ℕ) (login : Login) (calls : List Call) → Stands table place login → is_live login ≡ true → LeaveAll login calls (hold_step table) → ticks calls ≤ login.hold → Stands (all_after calls (hold_step table)) place (record login { remaining = Some (login.hold + 1 - ticks calls) })

-- The second behind those takes its last one: the login is told as expired, and its place is empty.
pub record IsOver (table : Table) (place : ℕ) (login : Login) : Type 0 where
  pub told : Contains (tick_step table).0 login.login
  pub gone : place_at (tick_step table).1.places place ≡ None

abbrev pub ExpiryLaw : Type 0
ExpiryLaw =
    (table : Table) (place : ℕ) (login : Login) (calls : List Call) → Stands table place login → is_live login ≡ true → LeaveAll login calls (hold_step table) → ticks calls ≡ login.hold → IsOver (all_after calls (hold_step table)) place login

-- a held login with the ID has one second left
pub record EndsNext (table : Table) (id : ℕ) : Type 0 where
  pub place : ℕ
  pub login : Login
  pub stands : Stands table place login
  pub own : login.login ≡ id
  pub last : login.remaining ≡ Some 1

-- A second tells the IDs of the logins that have one second left and no others, each once.
pub record TellsEnds (table : Table) : Type 0 where
  pub all : (id : ℕ) → EndsNext table id → Contains (tick_step table).0 id
  pub alone : (id : ℕ) → Contains (tick_step table).0 id → EndsNext table id
  pub once : AllPairs (λ a b. a ≢ b) (tick_step table).0

abbrev pub TickLaw : Type 0
TickLaw = (calls : List Call) → TellsEnds (made_by calls)

-- The call is no logout of the login by its node, and no hold.
abbrev pub Spares : Login → Call → Type 0
Spares login (leave id node) = id ≡ login.login → node ≢ login.node
Spares login hold = ⊥
Spares login _ = Unit {0}

abbrev pub SpareAll : Login → List Call → Type 0
SpareAll login [] = Unit {0}
SpareAll login (call ∷ calls) = Spares login call × SpareAll login calls

-- A live login stands as it is until it leaves or is held.
abbrev pub LiveLaw : Type 0
LiveLaw =
    (table : Table) (place : ℕ) (login : Login) (calls : List Call) → Stands table place login → is_live login ≡ true → SpareAll login calls → Stands (all_after calls table) place login

-- a live login with the ID stands
pub record LivesWith (table : Table) (id : ℕ) : Type 0 where
  pub place : ℕ
  pub login : Login
  pub stands : Stands table place login
  pub own : login.login ≡ id
  pub live : is_live login ≡ true

-- a login of the unit, live or held, stands in the place
pub record UnitsLogin (table : Table) (unit place : ℕ) : Type 0 where
  pub login : Login
  pub stands : Stands table place login
  pub own : login.unit ≡ unit

-- The IDs that a hold holds are those of the live logins, and the places of a unit those of its logins.
pub record ListsLogins (table : Table) : Type 0 where
  pub live : (id : ℕ) → Contains (live_ids table.places) id ↔ LivesWith table id
  pub units : (unit place : ℕ) → Contains (units_places unit table.places) place ↔ UnitsLogin table unit place

abbrev pub ListLaw : Type 0
ListLaw = (calls : List Call) → ListsLogins (made_by calls)

-- Every login, live or held, is on a unit below this number.
abbrev pub UnitsBelow : ℕ → Table → Type 0
UnitsBelow units table = All (λ place. IfSome place (λ login. login.unit < units)) table.places

-- The call enters no login on a unit from this number on.
abbrev pub EntersBelow : ℕ → Call → Type 0
EntersBelow units (enter asked) = asked.unit < units
EntersBelow units _ = Unit {0}

-- A new table has no units, and a login that is entered alone brings one.
pub record UnitsLaw : Type 0 where
  pub begins : (units : ℕ) → UnitsBelow units new_table
  pub kept : (units : ℕ) (calls : List Call) (table : Table) → AllByRecursion (EntersBelow units) calls → UnitsBelow units table → UnitsBelow units (all_after calls table)
