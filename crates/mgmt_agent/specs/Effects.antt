-- What a decision does beside its status, and what it makes of the logins (NCITS 325-1998, management
-- functions).
use Rattle.std.specs.Prelude.{◌≡◌, ◌≢◌, ℕ, ◌%◌, ◌^◌, ◌<◌, ◌≤◌, ◌==◌, ◌&&◌, not, true, if◌then◌else◌, List, [], ◌∷◌, length, IfOk, IsSome, Option, Some, None}
use Rattle.std.specs.List.{AllByRecursion}
use Rattle.orb_layout.specs.declared.management.ManagementOrb.{ManagementOrb}
use Rattle.login_table.specs.declared.login.Login.{Login}
use Rattle.login_table.specs.Table.{Table, place_at, is_live, entered}
use Rattle.login_table.specs.Sound.{IsTable}
use Rattle.login_table.specs.Laws.{Call, enter, back, leave, all_after, Stands, EntersBelow, UnitsBelow}
use Rattle.mgmt_agent.specs.declared.function.Function.{Function}
use Rattle.mgmt_agent.specs.declared.function.Function.TheVariants as functions
use Rattle.mgmt_agent.specs.declared.status.Status.TheVariants as statuses
use Rattle.mgmt_agent.specs.declared.decision.Effect.{Effect}
use Rattle.mgmt_agent.specs.declared.decision.Effect.TheVariants as effects
use Rattle.mgmt_agent.specs.declared.decision.Outcome.{Outcome}
use Rattle.mgmt_agent.specs.declared.decision.Response.TheVariants as responses
use Rattle.mgmt_agent.specs.Statuses.{function_of}
use Rattle.mgmt_agent.specs.Decisions.{agent_base, asked_by, decide, granted_hold, key_at, lacks_key, unit_exists}
use Rattle.orb_layout.specs.Replies.{Answer}
use Rattle.mgmt_agent.specs.Machine.{Machine, Asks, source_in, start_step, reply_step}

-- the call of the table of logins that a function makes
abbrev pub call_of : Option Function → ManagementOrb → ℕ → ℕ → List (List ℕ) → List Call
call_of (Some functions.Login) orb source eui keys =
    if unit_exists orb.subject keys && not (lacks_key (key_at orb.subject keys) orb) then enter (asked_by orb source eui) ∷ [] else []
call_of (Some functions.Reconnect) orb source eui keys = back orb.subject source eui ∷ []
call_of (Some functions.Logout) orb source eui keys = leave orb.subject source ∷ []
call_of _ orb source eui keys = []

abbrev pub calls_on : ManagementOrb → ℕ → ℕ → List (List ℕ) → List Call
calls_on orb source eui keys = if orb.format == 0 then call_of (function_of orb.function) orb source eui keys else []

-- A decision leaves the logins as this call of their table does, and else as they were.
abbrev pub CallLaw : Type 0
CallLaw =
    (orb : ManagementOrb) (source eui : ℕ) (table : Table) (keys : List (List ℕ)) → (decide orb source eui table keys).1 ≡ all_after (calls_on orb source eui keys) table

-- what a reply makes of the logins: one call of their table at most, which enters a login only on a unit
-- below this number
pub record RepliesCall (units : ℕ) (before left : Table) : Type 0 where
  pub calls : List Call
  pub one : length calls ≤ 1
  pub on_units : AllByRecursion (EntersBelow units) calls
  pub made : all_after calls before ≡ left

abbrev pub RepliesLaw : Type 0
RepliesLaw =
    (m : Machine) (table : Table) (keys : List (List ℕ)) (answer : Answer) → RepliesCall (length keys) table (reply_step m table keys answer).1.1

-- A request is asked for exactly while an operation is under way: it is what the phase waits for.
pub record AsksLaw : Type 0 where
  pub start : (m : Machine) (source orb : ℕ) → IfOk (start_step m source orb).0 (λ ask. Asks ask (start_step m source orb).1.operation (length m.outgoing))
  pub reply : (m : Machine) (table : Table) (keys : List (List ℕ)) (answer : Answer) → IsSome (source_in m.operation) → let s = reply_step m table keys answer in Asks s.0.ask s.1.0.operation (length s.1.0.outgoing)

-- a login with the ID that is live for the node stands in the place
pub record StandsFor (table : Table) (id node place : ℕ) : Type 0 where
  pub login : Login
  pub stands : Stands table place login
  pub live : is_live login ≡ true
  pub own : login.login ≡ id
  pub of_node : login.node ≡ node

-- A login that the ORB asks for was entered: the effect, the response and the table name its place.
pub record Enters (orb : ManagementOrb) (source eui : ℕ) (outcome : Outcome) (left : Table) : Type 0 where
  pub place : ℕ
  pub replaced : Option ℕ
  pub effect : outcome.effect ≡ effects.Entered place replaced
  pub stands : Stands left place (entered (asked_by orb source eui) place outcome.login)
  pub response : outcome.response ≡ responses.Login (record { login = outcome.login; agent = agent_base place; hold = granted_hold orb.reconnect })

-- the login of the ID is live for the source again in the place that the effect names
pub record Returns (id source : ℕ) (outcome : Outcome) (left : Table) : Type 0 where
  pub place : ℕ
  pub effect : outcome.effect ≡ effects.Back place
  pub stands : StandsFor left id source place

-- The login of the ID that was live for the source is gone from the place that the effect names.
pub record Leaves (id source : ℕ) (outcome : Outcome) (before left : Table) : Type 0 where
  pub place : ℕ
  pub effect : outcome.effect ≡ effects.Left place
  pub stood : StandsFor before id source place
  pub gone : place_at left.places place ≡ None

-- the effect is the one on the login of the ID that is live for the source, by its place and its unit
pub record ActsOn (id source : ℕ) (effect : ℕ → ℕ → Effect) (outcome : Outcome) (table : Table) : Type 0 where
  pub place : ℕ
  pub stands : StandsFor table id source place
  pub does : outcome.effect ≡ effect place stands.login.unit

-- what a function does whose status is 00
abbrev pub Does : Function → ManagementOrb → ℕ → ℕ → Table → Outcome → Table → Type 0
Does functions.Login orb source eui before outcome left = Enters orb source eui outcome left
Does functions.Query orb source eui before outcome left = (outcome.effect ≡ effects.Nothing) × (outcome.response ≡ responses.Query orb.subject)
Does functions.Reconnect orb source eui before outcome left = Returns orb.subject source outcome left
Does functions.Logout orb source eui before outcome left = Leaves orb.subject source outcome before left
Does functions.Abort orb source eui before outcome left = ActsOn orb.subject source (λ place unit. effects.Abort place (orb.first % 2 ^ 48)) outcome before
Does functions.AbortSet orb source eui before outcome left = ActsOn orb.subject source (λ place unit. effects.AbortSet place) outcome before
Does functions.UnitReset orb source eui before outcome left = ActsOn orb.subject source (λ place unit. effects.UnitReset unit) outcome before
Does functions.TargetReset orb source eui before outcome left = ActsOn orb.subject source (λ place unit. effects.TargetReset) outcome before

-- A refusal does nothing, enters no login and has no response.
pub record DoesNothing (outcome : Outcome) : Type 0 where
  pub effect : outcome.effect ≡ effects.Nothing
  pub login : outcome.login ≡ 0
  pub response : outcome.response ≡ responses.Nothing

abbrev pub RefusalLaw : Type 0
RefusalLaw =
    (orb : ManagementOrb) (source eui : ℕ) (table : Table) (keys : List (List ℕ)) → (decide orb source eui table keys).0.status ≢ statuses.NoFault → DoesNothing (decide orb source eui table keys).0

-- The effect of each decision, on a table of logins as calls leave it.
abbrev pub EffectLaw : Type 0
EffectLaw =
    (function : Function) (orb : ManagementOrb) (source eui : ℕ) (table : Table) (keys : List (List ℕ)) → IsTable table → function_of orb.function ≡ Some function → (decide orb source eui table keys).0.status ≡ statuses.NoFault → Does function orb source eui table (decide orb source eui table keys).0 (decide orb source eui table keys).1

-- the place that an effect names is one of eight
abbrev pub PlaceBelow : Effect → Type 0
PlaceBelow (effects.Entered place replaced) = place < 8
PlaceBelow (effects.Back place) = place < 8
PlaceBelow (effects.Left place) = place < 8
PlaceBelow (effects.Abort place orb) = place < 8
PlaceBelow (effects.AbortSet place) = place < 8
PlaceBelow _ = Unit {0}

abbrev pub PlaceLaw : Type 0
PlaceLaw =
    (m : Machine) (table : Table) (keys : List (List ℕ)) (answer : Answer) → IsTable table → PlaceBelow (reply_step m table keys answer).0.effect

-- the unit that an effect names is below this number
abbrev pub UnitBelow : ℕ → Effect → Type 0
UnitBelow units (effects.UnitReset unit) = unit < units
UnitBelow units _ = Unit {0}

-- Where the logins are on units that have a key, a reply leaves them so, and the unit that an effect names
-- has a key.
pub record UnitLaw : Type 0 where
  pub kept : (m : Machine) (table : Table) (keys : List (List ℕ)) (answer : Answer) → UnitsBelow (length keys) table → UnitsBelow (length keys) (reply_step m table keys answer).1.1
  pub named : (m : Machine) (table : Table) (keys : List (List ℕ)) (answer : Answer) → IsTable table → UnitsBelow (length keys) table → UnitBelow (length keys) (reply_step m table keys answer).0.effect
