-- The places and the units that effects name.
use Rattle.std.specs.Prelude.{◌≡◌, ◌≢◌, ℕ, ◌==◌, Bool, true, false, cond, List, [], ◌∷◌, length, Option, Some, None, Result, Ok, Err, refl}
use Rattle.std.proofs.Common.{ap, sym, ◌∙◌, subst}
use Rattle.orb_layout.specs.declared.management.ManagementOrb.{ManagementOrb}
use Rattle.orb_layout.specs.declared.ask.FailCause.{FailCause}
use Rattle.orb_layout.specs.ManagementOrbs.{management_orb}
use Rattle.login_table.specs.Table.{Table}
use Rattle.login_table.specs.Sound.{IsTable}
use Rattle.login_table.specs.Laws.{Call, all_after, UnitsBelow}
use Rattle.login_table.proofs.Kept.{after_kept}
use Rattle.login_table.proofs.Units.{own_unit, units_stay_below}
use Rattle.mgmt_agent.specs.declared.function.Function.{Function}
use Rattle.mgmt_agent.specs.declared.function.Function.TheVariants as functions
use Rattle.mgmt_agent.specs.declared.status.Status.{Status}
use Rattle.mgmt_agent.specs.declared.status.Status.TheVariants as statuses
use Rattle.mgmt_agent.specs.declared.decision.Effect.{Effect}
use Rattle.mgmt_agent.specs.declared.decision.Effect.TheVariants as effects
use Rattle.mgmt_agent.specs.declared.decision.ManagerStep.{ManagerStep}
use Rattle.mgmt_agent.specs.declared.decision.Outcome.{Outcome}
use Rattle.mgmt_agent.specs.declared.operation.Operation.{Operation}
use Rattle.mgmt_agent.specs.declared.operation.Phase.{Phase}
use Rattle.mgmt_agent.specs.declared.operation.Phase.TheVariants as phases
use Rattle.mgmt_agent.specs.Statuses.{function_of}
use Rattle.mgmt_agent.specs.Decisions.{decide, decide_function, reads_eui, with_status}
use Rattle.orb_layout.specs.Replies.{Answer, payload_of, write_failure}
use Rattle.mgmt_agent.specs.Machine.{Machine, reply_step, reply_in, decide_step, beside, eui_step, high_eui_at, orb_got, high_got, low_got, response_written, status_written}
use Rattle.mgmt_agent.specs.Effects.{Does, PlaceBelow, PlaceLaw, UnitBelow, UnitLaw, calls_on}
use Rattle.mgmt_agent.proofs.Doing.{effects_of_decisions}
use Rattle.mgmt_agent.proofs.Effects.{decisions_call, replies_call}
use Rattle.mgmt_agent.proofs.Outcomes.{decide_fit}

pub calls_kept : (calls : List Call) (table : Table) → IsTable table → IsTable (all_after calls table)
calls_kept [] table t = t
calls_kept (call ∷ calls) table t = after_kept call (all_after calls table) (calls_kept calls table t)

-- A decision leaves a table of logins.
left_kept : (orb : ManagementOrb) (source eui : ℕ) (table : Table) (keys : List (List ℕ)) → IsTable table → IsTable (decide orb source eui table keys).1
left_kept orb source eui table keys t = subst IsTable (sym (decisions_call orb source eui table keys)) (calls_kept (calls_on orb source eui keys) table t)

below_by : (P : Effect → Type 0) (a b : Effect) → a ≡ b → P b → P a
below_by P a b e h = subst P (sym e) h

-- what holds of no effect, and of the effect of each function whose status is 00
record Holds (P : Effect → Type 0) (before : Table) : Type 0 where
  nothing : P effects.Nothing
  done : (function : Function) (orb : ManagementOrb) (source eui : ℕ) (outcome : Outcome) (left : Table) → IsTable left → Does function orb source eui before outcome left → P outcome.effect

place_done : (before : Table) → IsTable before → (function : Function) (orb : ManagementOrb) (source eui : ℕ) (outcome : Outcome) (left : Table) → IsTable left → Does function orb source eui before outcome left → PlaceBelow outcome.effect
place_done before b functions.Login orb source eui outcome left l d = below_by PlaceBelow _ _ d.effect (l.sound.numbered d.place _ d.stands).below
place_done before b functions.Query orb source eui outcome left l d = below_by PlaceBelow _ _ d.0 tt
place_done before b functions.Reconnect orb source eui outcome left l d = below_by PlaceBelow _ _ d.effect (l.sound.numbered d.place _ d.stands.stands).below
place_done before b functions.Logout orb source eui outcome left l d = below_by PlaceBelow _ _ d.effect (b.sound.numbered d.place _ d.stood.stands).below
place_done before b functions.Abort orb source eui outcome left l d = below_by PlaceBelow _ _ d.does (b.sound.numbered d.place _ d.stands.stands).below
place_done before b functions.AbortSet orb source eui outcome left l d = below_by PlaceBelow _ _ d.does (b.sound.numbered d.place _ d.stands.stands).below
place_done before b functions.UnitReset orb source eui outcome left l d = below_by PlaceBelow _ _ d.does tt
place_done before b functions.TargetReset orb source eui outcome left l d = below_by PlaceBelow _ _ d.does tt

unit_done : (units : ℕ) (before : Table) → UnitsBelow units before → (function : Function) (orb : ManagementOrb) (source eui : ℕ) (outcome : Outcome) (left : Table) → IsTable left → Does function orb source eui before outcome left → UnitBelow units outcome.effect
unit_done units before u functions.Login orb source eui outcome left l d = below_by (UnitBelow units) _ _ d.effect tt
unit_done units before u functions.Query orb source eui outcome left l d = below_by (UnitBelow units) _ _ d.0 tt
unit_done units before u functions.Reconnect orb source eui outcome left l d = below_by (UnitBelow units) _ _ d.effect tt
unit_done units before u functions.Logout orb source eui outcome left l d = below_by (UnitBelow units) _ _ d.effect tt
unit_done units before u functions.Abort orb source eui outcome left l d = below_by (UnitBelow units) _ _ d.does tt
unit_done units before u functions.AbortSet orb source eui outcome left l d = below_by (UnitBelow units) _ _ d.does tt
unit_done units before u functions.UnitReset orb source eui outcome left l d = below_by (UnitBelow units) _ _ d.does (own_unit units before.places d.place d.stands.login u d.stands.stands)
unit_done units before u functions.TargetReset orb source eui outcome left l d = below_by (UnitBelow units) _ _ d.does tt

-- a status is 00 or another
data IsGood (status : Status) : Type 0 where
  good : status ≡ statuses.NoFault → IsGood status
  bad : status ≢ statuses.NoFault → IsGood status

is_good : (status : Status) → IsGood status
is_good statuses.NoFault = good refl
is_good statuses.RequestType = bad (λ n. let no : statuses.RequestType ≡ statuses.NoFault = n in cc)
is_good statuses.AccessDenied = bad (λ n. let no : statuses.AccessDenied ≡ statuses.NoFault = n in cc)
is_good statuses.LogicalUnit = bad (λ n. let no : statuses.LogicalUnit ≡ statuses.NoFault = n in cc)
is_good statuses.Resources = bad (λ n. let no : statuses.Resources ≡ statuses.NoFault = n in cc)
is_good statuses.FunctionRejected = bad (λ n. let no : statuses.FunctionRejected ≡ statuses.NoFault = n in cc)
is_good statuses.LoginId = bad (λ n. let no : statuses.LoginId ≡ statuses.NoFault = n in cc)

unknown_bad : (b : Bool) (x y : Outcome × Table) → x.0.status ≡ statuses.FunctionRejected → y.0.status ≡ statuses.RequestType → (cond b x y).0.status ≢ statuses.NoFault
unknown_bad true x y p q s = absurd (let no : statuses.FunctionRejected ≡ statuses.NoFault = sym p ∙ s in cc)
unknown_bad false x y p q s = absurd (let no : statuses.RequestType ≡ statuses.NoFault = sym q ∙ s in cc)

named_below : (P : Effect → Type 0) (known : Option Function) (orb : ManagementOrb) (source eui : ℕ) (table : Table) (keys : List (List ℕ)) → Holds P table → function_of orb.function ≡ known → IsTable table → (decide orb source eui table keys).0.status ≡ statuses.NoFault → P (decide orb source eui table keys).0.effect
unfolding decide
named_below P (Some function) orb source eui table keys h e t s =
    h.done function orb source eui (decide orb source eui table keys).0 (decide orb source eui table keys).1 (left_kept orb source eui table keys t) (effects_of_decisions function orb source eui table keys t e s)
named_below P None orb source eui table keys h e t s =
    absurd (unknown_bad (orb.format == 0) (decide_function (function_of orb.function) orb source eui table keys) (with_status statuses.RequestType, table) (ap (λ (f : Option Function). (decide_function f orb source eui table keys).0.status) e) refl s)

decided_below : (P : Effect → Type 0) (status : Status) (orb : ManagementOrb) (source eui : ℕ) (table : Table) (keys : List (List ℕ)) → Holds P table → IsTable table → (decide orb source eui table keys).0.status ≡ status → IsGood status → P (decide orb source eui table keys).0.effect
decided_below P status orb source eui table keys h t e (good g) = named_below P _ orb source eui table keys h refl t (e ∙ g)
decided_below P status orb source eui table keys h t e (bad b) = below_by P _ _ ((decide_fit orb source eui table keys).quiet (λ n. b (sym e ∙ n))).effect h.nothing

step_below : (P : Effect → Type 0) (m : Machine) (operation : Operation) (orb : ManagementOrb) (eui : ℕ) (table : Table) (keys : List (List ℕ)) → Holds P table → IsTable table → P (decide_step m operation orb eui table keys).0.effect
unfolding decide_step
step_below P m operation orb eui table keys h t = decided_below P _ orb operation.source eui table keys h t refl (is_good _)

either_below : (P : Effect → Type 0) (b : Bool) (x y : ManagerStep × (Machine × Table)) → P x.0.effect → P y.0.effect → P (cond b x y).0.effect
either_below P true x y p q = p
either_below P false x y p q = q

orb_below : (P : Effect → Type 0) (bytes : Result (List ℕ) FailCause) (m : Machine) (operation : Operation) (table : Table) (keys : List (List ℕ)) → Holds P table → IsTable table → P (orb_got bytes m operation table keys).0.effect
orb_below P (Err cause) m operation table keys h t = h.nothing
orb_below P (Ok bytes) m operation table keys h t =
    let orb = management_orb bytes in
    either_below P (reads_eui orb) (beside table (eui_step m operation (phases.HighEui orb) high_eui_at)) (decide_step m operation orb 0 table keys) h.nothing (step_below P m operation orb 0 table keys h t)

high_below : (P : Effect → Type 0) (bytes : Result (List ℕ) FailCause) (m : Machine) (operation : Operation) (orb : ManagementOrb) → P effects.Nothing → P (high_got bytes m operation orb).0.effect
high_below P (Err cause) m operation orb n = n
high_below P (Ok bytes) m operation orb n = n

low_below : (P : Effect → Type 0) (bytes : Result (List ℕ) FailCause) (m : Machine) (operation : Operation) (orb : ManagementOrb) (high : ℕ) (table : Table) (keys : List (List ℕ)) → Holds P table → IsTable table → P (low_got bytes m operation orb high table keys).0.effect
low_below P (Err cause) m operation orb high table keys h t = h.nothing
low_below P (Ok bytes) m operation orb high table keys h t = step_below P m operation orb _ table keys h t

response_below : (P : Effect → Type 0) (failure : Option FailCause) (m : Machine) (operation : Operation) (fifo : ℕ) → P effects.Nothing → P (response_written failure m operation fifo).0.effect
response_below P None m operation fifo n = n
response_below P (Some cause) m operation fifo n = n

status_below : (P : Effect → Type 0) (failure : Option FailCause) (m : Machine) → P effects.Nothing → P (status_written failure m).0.effect
status_below P None m n = n
status_below P (Some cause) m n = n

phase_below : (P : Effect → Type 0) (phase : Phase) (m : Machine) (operation : Operation) (table : Table) (keys : List (List ℕ)) (answer : Answer) → Holds P table → IsTable table → P (reply_in phase m operation table keys answer).0.effect
phase_below P phases.Orb m operation table keys answer h t = orb_below P (payload_of answer 32) m operation table keys h t
phase_below P (phases.HighEui orb) m operation table keys answer h t = high_below P (payload_of answer 4) m operation orb h.nothing
phase_below P (phases.LowEui orb high) m operation table keys answer h t = low_below P (payload_of answer 4) m operation orb high table keys h t
phase_below P (phases.Response fifo) m operation table keys answer h t = response_below P (write_failure answer) m operation fifo h.nothing
phase_below P phases.Status m operation table keys answer h t = status_below P (write_failure answer) m h.nothing

reply_below : (P : Effect → Type 0) (o : Option Operation) (outgoing : List ℕ) (table : Table) (keys : List (List ℕ)) (answer : Answer) → Holds P table → IsTable table → P (reply_step (record { operation = o; outgoing = outgoing }) table keys answer).0.effect
unfolding reply_step
reply_below P None outgoing table keys answer h t = h.nothing
reply_below P (Some operation) outgoing table keys answer h t = phase_below P operation.phase _ operation table keys answer h t

pub places_of_effects : PlaceLaw
places_of_effects m table keys answer t = reply_below PlaceBelow m.operation m.outgoing table keys answer (record { nothing = tt; done = place_done table t }) t

units_kept : (m : Machine) (table : Table) (keys : List (List ℕ)) (answer : Answer) → UnitsBelow (length keys) table → UnitsBelow (length keys) (reply_step m table keys answer).1.1
units_kept m table keys answer u =
    let c = replies_call m table keys answer in
    subst (UnitsBelow (length keys)) c.made (units_stay_below.kept (length keys) c.calls table c.on_units u)

pub units_of_effects : UnitLaw
units_of_effects = record {
  kept = units_kept;
  named = λ m table keys answer t u. reply_below (UnitBelow (length keys)) m.operation m.outgoing table keys answer (record { nothing = tt; done = unit_done (length keys) table u }) t;
}
